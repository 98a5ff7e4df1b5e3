-- A pair that touches and whose order an edit reverses lies in the system of a violation.
use Rattle.std.proofs.Common.{◌≡◌, ℕ, List, true, length, All, Option, Some, None, IsSomeAnd, ℤ, refl, ap, sym, ◌∙◌, subst}
use Rattle.relation_core.specs.Systems.{System}
use Rattle.relation_core.specs.Points.{LiesIn}
use Rattle.scop_data.specs.declared.accesses.Access.{Access}
use Rattle.scop_data.specs.declared.schedules.Schedule.{Schedule}
use Rattle.scop_data.specs.declared.statements.Statement.{Statement}
use Rattle.scop_core.specs.Order.{Before}
use Rattle.scop_core.specs.Sequences.{In}
use Rattle.scop_core.specs.Meaning.{Instance, InDomain, IsInstance, statement_at, stamp, stamp_of, stamp_in}
use Rattle.scop_core.specs.LevelOrder.{common_loops, IsLevel, OrdersAt, level_values}
use Rattle.scop_core.specs.Printable.{IsDomainPart}
use Rattle.scop_core.specs.ReadBack.{IsSolvedSchedule}
use Rattle.scop_core.specs.Shapes.{IsShapedStatement}
use Rattle.scop_data.proofs.LevelOrder.{schedules_order_at_a_level, levels_are_listed}
use Rattle.scop_core.proofs.ScopShapes.{scops_are_formed, scops_are_shaped}
use Rattle.dependence_systems.specs.declared.dependences.Dep.{Dep}
use Rattle.dependence_systems.specs.Sides.{Side, member, schedule_in, under, sides}
use Rattle.dependence_systems.specs.Entries.{kind_between, can_meet}
use Rattle.dependence_systems.specs.Systems.{Pairing, pairing_of, widths_of, no_part, no_access}
use Rattle.dependence_systems.specs.Sides.{member_or, no_side}
use Rattle.dependence_systems.specs.Fits.{SideFits, PairingFits, SchedulesFit}
use Rattle.dependence_systems.specs.Originals.{as_original}
use Rattle.dependence_systems.proofs.Members.{in_flat_map, in_map}
use Rattle.dependence_systems.proofs.EntryFound.{IsEntry, entry_listed}
use Rattle.dependence_systems.proofs.SystemMeanings.{PairHolds}
use Rattle.dependence_systems.proofs.Pairs.{all_member, Found, found, named_fits}
use Rattle.dependence_systems.proofs.ScopPairs.{Matches, Ordered, ordered_sides, originals_match, statement_is, stamp_is}
use Rattle.legality.specs.Mixed.{mixed, mixed_sides, old_schedule, mixed_at}
use Rattle.legality.specs.Violations.{Edit, dependences, new_levels, violations_of, shared_pairing, violation_system}
use Rattle.legality.specs.Edits.{IsEdit, ReversedPairsLieInViolations}
use Rattle.legality.proofs.MixedStamps.{mixed_stamp}
use Rattle.legality.proofs.MixedSides.{mixed_match, HasOriginal, original_of, pieces_are, mixed_fit}
use Rattle.legality.proofs.ViolationMeanings.{Parts, with_schedules, reversed_system, lies_in_violation}

-- there is a statement
abbrev HasStatement : Option Statement → Type 0
HasStatement found = (s : Statement) × (found ≡ Some s)

has_statement : (found : Option Statement) (x n : List ℤ) → IsSomeAnd found (λ s. InDomain s x n) → HasStatement found
has_statement None x n h = absurd h
has_statement (Some s) x n h = (s, refl)

-- what an entry names, where its statements stand under any schedules
record Names (sides : List Side) (e : Dep) : Type 0 where
  source : Side
  target : Side
  first : Access
  second : Access
  source_domain : System
  target_domain : System
  source_is : member sides e.source ≡ Some source
  target_is : member sides e.target ≡ Some target
  first_is : member source.accesses e.source_access ≡ Some first
  second_is : member target.accesses e.target_access ≡ Some second
  source_domain_is : member source.domain e.source_part ≡ Some source_domain
  target_domain_is : member target.domain e.target_part ≡ Some target_domain

abbrev parts_of : System → (sides : List Side) → (e : Dep) → Names sides e → Parts
parts_of context sides e h = record {
  context = context;
  source_part = h.source_domain;
  target_part = h.target_domain;
  source_access = h.first;
  target_access = h.second;
}

pairing_is : (context : System) (sides : List Side) (e : Dep) (h : Names sides e)
    → pairing_of context sides e ≡ with_schedules (parts_of context sides e h) h.source.schedule h.target.schedule
pairing_is context sides e h =
    let P : Side → Side → Pairing = λ s t. record {
      context = context;
      source_part = member_or no_part (member s.domain e.source_part);
      target_part = member_or no_part (member t.domain e.target_part);
      source_access = member_or no_access (member s.accesses e.source_access);
      target_access = member_or no_access (member t.accesses e.target_access);
      source_schedule = s.schedule;
      target_schedule = t.schedule;
    } in
    let Q : Option System → Option System → Option Access → Option Access → Pairing = λ p q a b. record {
      context = context;
      source_part = member_or no_part p;
      target_part = member_or no_part q;
      source_access = member_or no_access a;
      target_access = member_or no_access b;
      source_schedule = h.source.schedule;
      target_schedule = h.target.schedule;
    } in
    let one : pairing_of context sides e ≡ P h.source h.target
    = ap (λ s. P (member_or no_side s) (member_or no_side (member sides e.target))) h.source_is ∙ ap (λ t. P h.source (member_or no_side t)) h.target_is in
    let p = member h.source.domain e.source_part in
    let q = member h.target.domain e.target_part in
    let a = member h.source.accesses e.source_access in
    let b = member h.target.accesses e.target_access in
    let two : Q p q a b ≡ Q (Some h.source_domain) (Some h.target_domain) (Some h.first) (Some h.second)
    = ap (λ z. Q z q a b) h.source_domain_is ∙ (ap (λ z. Q (Some h.source_domain) z a b) h.target_domain_is
    ∙ (ap (λ z. Q (Some h.source_domain) (Some h.target_domain) z b) h.first_is ∙ ap (λ z. Q (Some h.source_domain) (Some h.target_domain) (Some h.first) z) h.second_is)) in
    one ∙ two

-- what an entry of the mixed sides names among the statements
pub record Statements (E : Edit) (e : Dep) : Type 0 where
  pub source : Statement
  pub target : Statement
  pub source_is : member E.now.statements e.source ≡ Some source
  pub target_is : member E.now.statements e.target ≡ Some target
  pub first : Access
  pub second : Access
  pub source_domain : System
  pub target_domain : System
  pub first_is : member source.accesses e.source_access ≡ Some first
  pub second_is : member target.accesses e.target_access ≡ Some second
  pub source_domain_is : member source.domain e.source_part ≡ Some source_domain
  pub target_domain_is : member target.domain e.target_part ≡ Some target_domain

-- sides that match the statements under some schedules
abbrev named_by : (E : Edit) (e : Dep) (list : List Side) (schedule : ℕ → Schedule) → Matches E.now.statements list schedule → Statements E e → Names list e
named_by E e list schedule match t = record {
  source = under t.source (schedule e.source);
  target = under t.target (schedule e.target);
  first = t.first;
  second = t.second;
  source_domain = t.source_domain;
  target_domain = t.target_domain;
  source_is = match.into e.source t.source t.source_is;
  target_is = match.into e.target t.target t.target_is;
  first_is = t.first_is;
  second_is = t.second_is;
  source_domain_is = t.source_domain_is;
  target_domain_is = t.target_domain_is;
}

abbrev pub parts : (E : Edit) (e : Dep) → Statements E e → Parts
parts E e t = record {
  context = E.now.context;
  source_part = t.source_domain;
  target_part = t.target_domain;
  source_access = t.first;
  target_access = t.second;
}

pub pairing_by : (E : Edit) (e : Dep) (list : List Side) (schedule : ℕ → Schedule) → Matches E.now.statements list schedule → (t : Statements E e)
    → pairing_of E.now.context list e ≡ with_schedules (parts E e t) (schedule e.source) (schedule e.target)
pairing_by E e list schedule match t = pairing_is E.now.context list e (named_by E e list schedule match t)

abbrev statements_of : (E : Edit) → IsEdit E → (e : Dep) → IsEntry (mixed_sides E.old E.now E.of) e → Statements E e
statements_of E edit e i =
    let match = mixed_match E.old.statements E.now.statements E.of edit.pieces in
    let s = match.back e.source i.source i.source_is in
    let t = match.back e.target i.target i.target_is in record {
      source = s.0;
      target = t.0;
      source_is = s.1;
      target_is = t.1;
      first = i.first;
      second = i.second;
      source_domain = i.source_domain;
      target_domain = i.target_domain;
      first_is = subst (λ u. member u.accesses e.source_access ≡ Some i.first) s.2 i.first_is;
      second_is = subst (λ u. member u.accesses e.target_access ≡ Some i.second) t.2 i.second_is;
      source_domain_is = subst (λ u. member u.domain e.source_part ≡ Some i.source_domain) s.2 i.source_domain_is;
      target_domain_is = subst (λ u. member u.domain e.target_part ≡ Some i.target_domain) t.2 i.target_domain_is;
    }

-- the schedule of a statement fits a part of its domain
pub solved_at : (N : ℕ) (now : List Statement) → All (IsShapedStatement N) now → (k : ℕ) (s : Statement) → member now k ≡ Some s
    → (place : ℕ) (part : System) → member s.domain place ≡ Some part → IsSolvedSchedule part.shape.outputs N (schedule_in (member now k))
solved_at N now shaped k s e place part h =
    let at : IsShapedStatement N s = all_member (IsShapedStatement N) now k s e shaped in
    let p : IsDomainPart (length s.body.iterators) N part = all_member (IsDomainPart (length s.body.iterators) N) s.domain place part h at.domain in
    subst (λ found. IsSolvedSchedule part.shape.outputs N (schedule_in found)) (sym e) (subst (λ i. IsSolvedSchedule i N s.schedule) (sym p.outputs) at.schedule)

-- the new schedules fit the columns
pub renewed_fit : (N : ℕ) (p : Parts) (old_s now_s old_t now_t : Schedule) → IsSolvedSchedule p.source_part.shape.outputs N now_s → IsSolvedSchedule p.target_part.shape.outputs N now_t
    → SchedulesFit (widths_of (with_schedules p (mixed old_s now_s) (mixed old_t now_t))) N now_s now_t
renewed_fit N p old_s now_s old_t now_t s t = record {
  source_levels = s.relation.levels;
  target_levels = t.relation.levels;
  source_betas = s.relation.betas;
  target_betas = t.relation.betas;
}

-- the stamps of an instance before and after
old_stamp : (E : Edit) → IsEdit E → (n : List ℤ) (a : Instance) → IsInstance E.now n a
    → stamp E.old n (as_original E.of a) ≡ stamp_of (mixed_at E.old.statements E.now.statements E.of a.statement) a.values n
old_stamp E edit n a h =
    let k = a.statement in
    let N = E.now.context.shape.parameters in
    let s : HasStatement (member E.now.statements k) = subst HasStatement (statement_is E.now.statements k) (has_statement (statement_at E.now.statements k) a.values n h) in
    let o : HasOriginal E.old.statements E.of k s.0 = original_of E.old.statements E.now.statements E.of edit.pieces k s.0 s.1 in
    let shaped : All (IsShapedStatement N) E.old.statements = subst (λ c. All (IsShapedStatement c.shape.parameters) E.old.statements) edit.context (scops_are_shaped E.old edit.old_valid).statements in
    let at : IsShapedStatement N o.original = all_member (IsShapedStatement N) E.old.statements (member_or 0 (member E.of k)) o.original o.original_is shaped in
    let same : stamp_of (mixed o.original.schedule s.0.schedule) a.values n ≡ stamp_of o.original.schedule a.values n
    = mixed_stamp (length o.original.body.iterators) N o.original.schedule s.0.schedule at.schedule o.piece.floors a.values n in
    ap (λ found. stamp_in found a.values n) (statement_is E.old.statements (member_or 0 (member E.of k)) ∙ o.original_is)
    ∙ (sym same ∙ (ap (λ found. stamp_of (mixed (schedule_in found) s.0.schedule) a.values n) (sym o.original_is)
    ∙ ap (λ found. stamp_of (mixed (old_schedule E.old.statements E.of k) (schedule_in found)) a.values n) (sym s.1)))

new_stamp : (E : Edit) (n : List ℤ) (a : Instance) → stamp E.now n a ≡ stamp_of (schedule_in (member E.now.statements a.statement)) a.values n
new_stamp E n a = ap (λ found. stamp_in found a.values n) (statement_is E.now.statements a.statement) ∙ stamp_is (member E.now.statements a.statement) a.values n

-- the parts of an entry of an ordered pair, with what holds of them
record Holds (E : Edit) (n : List ℤ) (a b : Instance) (e : Dep) (t : Statements E e) : Type 0 where
  fits : PairingFits (with_schedules (parts E e t) (mixed_at E.old.statements E.now.statements E.of e.source) (mixed_at E.old.statements E.now.statements E.of e.target))
  holds : PairHolds (with_schedules (parts E e t) (mixed_at E.old.statements E.now.statements E.of e.source) (mixed_at E.old.statements E.now.statements E.of e.target)) e.level a.values b.values n
  level : IsLevel (old_schedule E.old.statements E.of e.source).betas (old_schedule E.old.statements E.of e.target).betas e.level

holds_of : (E : Edit) (edit : IsEdit E) (n : List ℤ) (a b : Instance) (f : Found E.now.context (mixed_sides E.old E.now E.of) n a b)
    → All (SideFits E.now.context.shape.parameters) (mixed_sides E.old E.now E.of) → Holds E n a b f.entry (statements_of E edit f.entry f.is_entry)
holds_of E edit n a b f all =
    let e = f.entry in
    let i = f.is_entry in
    let c = E.now.context in
    let t : Statements E e = statements_of E edit e i in
    let match = mixed_match E.old.statements E.now.statements E.of edit.pieces in
    let es : i.source ≡ under t.source (mixed_at E.old.statements E.now.statements E.of e.source) = (match.back e.source i.source i.source_is).2 in
    let et : i.target ≡ under t.target (mixed_at E.old.statements E.now.statements E.of e.target) = (match.back e.target i.target i.target_is).2 in
    let P : Parts = parts E e t in
    let fits : PairingFits (with_schedules P i.source.schedule i.target.schedule) = named_fits c (mixed_sides E.old E.now E.of) e i (scops_are_shaped E.now edit.now_valid).context all in
    let holds : PairHolds (with_schedules P i.source.schedule i.target.schedule) e.level a.values b.values n = f.holds in record {
      fits = subst (λ u. PairingFits (with_schedules P u.schedule (mixed_at E.old.statements E.now.statements E.of e.target))) es
          (subst (λ u. PairingFits (with_schedules P i.source.schedule u.schedule)) et fits);
      holds = subst (λ u. PairHolds (with_schedules P u.schedule (mixed_at E.old.statements E.now.statements E.of e.target)) e.level a.values b.values n) es
          (subst (λ u. PairHolds (with_schedules P i.source.schedule u.schedule) e.level a.values b.values n) et holds);
      level = subst (λ u. IsLevel u.schedule.betas (old_schedule E.old.statements E.of e.target).betas e.level) es
          (subst (λ u. IsLevel i.source.schedule.betas u.schedule.betas e.level) et i.level);
    }

-- the entry is in the list of dependences
entry_is_listed : (E : Edit) → IsEdit E → (e : Dep) (i : IsEntry (mixed_sides E.old E.now E.of) e) (t : Statements E e)
    → IsLevel (old_schedule E.old.statements E.of e.source).betas (old_schedule E.old.statements E.of e.target).betas e.level
    → i.first ≡ t.first → i.second ≡ t.second → In e (dependences E)
entry_is_listed E edit e i t level first second =
    let match = originals_match E.old.statements E.now.statements E.of (pieces_are E.old.statements E.now.statements E.of edit.pieces) in
    entry_listed (sides E.old E.now E.of) e (record {
      source = under t.source (old_schedule E.old.statements E.of e.source);
      target = under t.target (old_schedule E.old.statements E.of e.target);
      first = t.first;
      second = t.second;
      source_domain = t.source_domain;
      target_domain = t.target_domain;
      source_is = match.into e.source t.source t.source_is;
      target_is = match.into e.target t.target t.target_is;
      first_is = t.first_is;
      second_is = t.second_is;
      source_domain_is = t.source_domain_is;
      target_domain_is = t.target_domain_is;
      kind_is = subst (λ u. kind_between u.kind t.second.kind ≡ Some e.kind) first (subst (λ u. kind_between i.first.kind u.kind ≡ Some e.kind) second i.kind_is);
      meet = subst (λ u. can_meet u t.second ≡ true) first (subst (λ u. can_meet i.first u ≡ true) second i.meet);
      level = level;
    })

-- the new level at which the pair is reversed
record NewLevel (now : List Statement) (n : List ℤ) (a b : Instance) (e : Dep) : Type 0 where
  level : ℕ
  is_level : IsLevel (schedule_in (member now e.target)).betas (schedule_in (member now e.source)).betas level
  order : OrdersAt (common_loops (schedule_in (member now e.target)).betas (schedule_in (member now e.source)).betas)
      (level_values (schedule_in (member now e.target)) b.values n) (level_values (schedule_in (member now e.source)) a.values n) level

new_level : (E : Edit) → IsEdit E → (n : List ℤ) (a b : Instance) (e : Dep) (t : Statements E e) → a.statement ≡ e.source → b.statement ≡ e.target
    → Before (stamp E.now n b) (stamp E.now n a) → NewLevel E.now.statements n a b e
new_level E edit n a b e t source target after =
    let now = E.now.statements in
    let s = schedule_in (member now e.source) in
    let r = schedule_in (member now e.target) in
    let shaped : All (IsShapedStatement E.now.context.shape.parameters) now = (scops_are_shaped E.now edit.now_valid).statements in
    let N = E.now.context.shape.parameters in
    let fs : IsSolvedSchedule t.source_domain.shape.outputs N s = solved_at N now shaped e.source t.source t.source_is e.source_part t.source_domain t.source_domain_is in
    let ft : IsSolvedSchedule t.target_domain.shape.outputs N r = solved_at N now shaped e.target t.target t.target_is e.target_part t.target_domain t.target_domain_is in
    let ea : stamp E.now n a ≡ stamp_of s a.values n = new_stamp E n a ∙ ap (λ k. stamp_of (schedule_in (member now k)) a.values n) source in
    let eb : stamp E.now n b ≡ stamp_of r b.values n = new_stamp E n b ∙ ap (λ k. stamp_of (schedule_in (member now k)) b.values n) target in
    let before : Before (stamp_of r b.values n) (stamp_of s a.values n) = subst (λ q. Before (stamp_of r b.values n) q) ea (subst (λ p. Before p (stamp E.now n a)) eb after) in
    let level = (schedules_order_at_a_level r s ft.relation.betas fs.relation.betas b.values a.values n).0 before in
    record { level = level.0; is_level = level.1; order = level.2 }

pub reversed_pairs : ReversedPairsLieInViolations
reversed_pairs E edit n in_context a b h =
    let old = E.old.statements in
    let now = E.now.statements in
    let N = E.now.context.shape.parameters in
    let c = E.now.context in
    let list = mixed_sides E.old E.now E.of in
    let shaped : All (IsShapedStatement N) now = (scops_are_shaped E.now edit.now_valid).statements in
    let old_shaped : All (IsShapedStatement N) old = subst (λ c. All (IsShapedStatement c.shape.parameters) old) edit.context (scops_are_shaped E.old edit.old_valid).statements in
    let all : All (SideFits N) list = mixed_fit N old now E.of old_shaped shaped (scops_are_formed E.now edit.now_valid).statements edit.pieces in
    let match : Matches now list (mixed_at old now E.of) = mixed_match old now E.of edit.pieces in
    let ordered : Ordered E.now (mixed_at old now E.of) n a b = record {
      source = h.source;
      target = h.target;
      touch = h.touch;
      order = subst (λ p. Before p (stamp_of (mixed_at old now E.of b.statement) b.values n)) (old_stamp E edit n a h.source)
          (subst (λ q. Before (stamp E.old n (as_original E.of a)) q) (old_stamp E edit n b h.target) h.before);
    } in
    let f : Found c list n a b = found c list (scops_are_shaped E.now edit.now_valid).context all n in_context a b (ordered_sides E.now list (mixed_at old now E.of) match n a b ordered) in
    let e = f.entry in
    let t : Statements E e = statements_of E edit e f.is_entry in
    let P : Parts = parts E e t in
    let kept : Holds E n a b e t = holds_of E edit n a b f all in
    let s = schedule_in (member now e.source) in
    let r = schedule_in (member now e.target) in
    let level : NewLevel now n a b e = new_level E edit n a b e t f.source_is f.target_is h.after in
    let fits = renewed_fit N P (old_schedule old E.of e.source) s (old_schedule old E.of e.target) r
    (solved_at N now shaped e.source t.source t.source_is e.source_part t.source_domain t.source_domain_is)
    (solved_at N now shaped e.target t.target t.target_is e.target_part t.target_domain t.target_domain_is) in
    let lies = lies_in_violation P (old_schedule old E.of e.source) s (old_schedule old E.of e.target) r e.level level.level a.values b.values n
    kept.fits fits kept.level level.is_level kept.holds level.order in
    let first : shared_pairing E e ≡ with_schedules P (mixed_at old now E.of e.source) (mixed_at old now E.of e.target)
    = pairing_by E e list (mixed_at old now E.of) match t in
    let same : violation_system E (record { entry = e; level = level.level })
    ≡ reversed_system (with_schedules P (mixed_at old now E.of e.source) (mixed_at old now E.of e.target)) e.level s r level.level
    = ap (λ m. reversed_system m e.level s r level.level) first in
    let made : In (record { entry = e; level = level.level }) (violations_of E e)
    = in_map (λ l. record { entry = e; level = l }) (new_levels E e) level.level ((levels_are_listed r.betas s.betas level.level).1 level.is_level) in record {
      violation = record { entry = e; level = level.level };
      listed = in_flat_map (λ e. violations_of E e) (dependences E) (record { entry = e; level = level.level })
          (record { origin = e; listed = entry_is_listed E edit e f.is_entry t kept.level refl refl; made = made });
      source_is = f.source_is;
      target_is = f.target_is;
      lies = subst (λ q. LiesIn q a.values b.values n) (sym same) lies;
    }
