-- The system of a dependence over the floors of the new schedules can be built.
use Rattle.std.proofs.Common.{◌≡◌, ℕ, ◌≤◌, List, length, All, Some, ap, sym, ◌∙◌, subst, arith}
use Rattle.relation_core.specs.Systems.{System, HasLimits}
use Rattle.scop_data.specs.declared.accesses.Access.{Access}
use Rattle.scop_data.specs.declared.schedules.Schedule.{Schedule}
use Rattle.scop_data.specs.declared.statements.Statement.{Statement}
use Rattle.scop_core.specs.Sequences.{In}
use Rattle.scop_core.specs.LevelOrder.{IsLevel}
use Rattle.scop_core.specs.KeptLimits.{StatementKeepsLimits, KeepsLimits}
use Rattle.scop_core.specs.Printable.{IsDomainPart}
use Rattle.scop_core.specs.Shapes.{IsShapedStatement}
use Rattle.scop_core.proofs.KeptLimits.{keeps_limits}
use Rattle.scop_core.proofs.ScopShapes.{scops_are_formed, scops_are_shaped}
use Rattle.dependence_systems.specs.declared.dependences.Dep.{Dep}
use Rattle.dependence_systems.specs.Sides.{member, schedule_in, under, sides}
use Rattle.dependence_systems.specs.Systems.{Pairing, pairing, widths_of, system_shape}
use Rattle.dependence_systems.specs.Fits.{SideFits, PairingFits, SchedulesFit}
use Rattle.dependence_systems.specs.Originals.{HasOriginals}
use Rattle.dependence_systems.specs.Lookups.{HasSide, IsReady}
use Rattle.dependence_systems.proofs.EntryFound.{IsEntry, listed_entry}
use Rattle.dependence_systems.proofs.NamedSides.{has_source, has_target}
use Rattle.dependence_systems.proofs.Pairs.{all_member, named_fits}
use Rattle.dependence_systems.proofs.ScopPairs.{originals_match}
use Rattle.legality.specs.Mixed.{mixed_sides, old_schedule, mixed_at}
use Rattle.legality.specs.Violations.{Edit, dependences, new_schedule, shared_pairing}
use Rattle.legality.specs.Edits.{IsEdit}
use Rattle.legality.proofs.MixedSides.{mixed_match, pieces_are, mixed_fit}
use Rattle.legality.proofs.ViolationMeanings.{Parts, with_schedules}
use Rattle.legality.proofs.ReversedPairs.{Statements, parts, pairing_by, solved_at, renewed_fit}

pub has_originals : (E : Edit) → IsEdit E → HasOriginals E.old E.now E.of
has_originals E edit = record { context = edit.context; pieces = pieces_are E.old.statements E.now.statements E.of edit.pieces }

-- what an entry in the list names
abbrev pub statements_in : (E : Edit) → IsEdit E → (e : Dep) → IsEntry (sides E.old E.now E.of) e → Statements E e
statements_in E edit e i =
    let match = originals_match E.old.statements E.now.statements E.of (pieces_are E.old.statements E.now.statements E.of edit.pieces) in
    let s = match.back e.source i.source i.source_is in
    let t = match.back e.target i.target i.target_is in record {
      source = s.0;
      target = t.0;
      source_is = s.1;
      target_is = t.1;
      first = i.first;
      second = i.second;
      source_domain = i.source_domain;
      target_domain = i.target_domain;
      first_is = subst (λ u. member u.accesses e.source_access ≡ Some i.first) s.2 i.first_is;
      second_is = subst (λ u. member u.accesses e.target_access ≡ Some i.second) t.2 i.second_is;
      source_domain_is = subst (λ u. member u.domain e.source_part ≡ Some i.source_domain) s.2 i.source_domain_is;
      target_domain_is = subst (λ u. member u.domain e.target_part ≡ Some i.target_domain) t.2 i.target_domain_is;
    }

old_level : (E : Edit) → IsEdit E → (e : Dep) → IsEntry (sides E.old E.now E.of) e
    → IsLevel (old_schedule E.old.statements E.of e.source).betas (old_schedule E.old.statements E.of e.target).betas e.level
old_level E edit e i =
    let match = originals_match E.old.statements E.now.statements E.of (pieces_are E.old.statements E.now.statements E.of edit.pieces) in
    let s = match.back e.source i.source i.source_is in
    let t = match.back e.target i.target i.target_is in
    subst (λ u. IsLevel u.schedule.betas (old_schedule E.old.statements E.of e.target).betas e.level) s.2
    (subst (λ u. IsLevel i.source.schedule.betas u.schedule.betas e.level) t.2 i.level)

-- it is an entry of the mixed sides too
abbrev mixed_entry : (E : Edit) (edit : IsEdit E) (e : Dep) → IsEntry (sides E.old E.now E.of) e → IsEntry (mixed_sides E.old E.now E.of) e
mixed_entry E edit e i =
    let match = mixed_match E.old.statements E.now.statements E.of edit.pieces in
    let t = statements_in E edit e i in record {
      source = under t.source (mixed_at E.old.statements E.now.statements E.of e.source);
      target = under t.target (mixed_at E.old.statements E.now.statements E.of e.target);
      first = i.first;
      second = i.second;
      source_domain = i.source_domain;
      target_domain = i.target_domain;
      source_is = match.into e.source t.source t.source_is;
      target_is = match.into e.target t.target t.target_is;
      first_is = t.first_is;
      second_is = t.second_is;
      source_domain_is = t.source_domain_is;
      target_domain_is = t.target_domain_is;
      kind_is = i.kind_is;
      meet = i.meet;
      level = old_level E edit e i;
    }

few_columns : (E : Edit) → IsEdit E → (e : Dep) (t : Statements E e)
    → HasLimits (system_shape (with_schedules (parts E e t) (mixed_at E.old.statements E.now.statements E.of e.source) (mixed_at E.old.statements E.now.statements E.of e.target)))
few_columns E edit e t =
    let N = E.now.context.shape.parameters in
    let now = E.now.statements in
    let kept : KeepsLimits E.now = keeps_limits E.now edit.now_valid in
    let shaped : All (IsShapedStatement N) now = (scops_are_shaped E.now edit.now_valid).statements in
    let s : StatementKeepsLimits t.source = all_member StatementKeepsLimits now e.source t.source t.source_is kept.each in
    let r : StatementKeepsLimits t.target = all_member StatementKeepsLimits now e.target t.target t.target_is kept.each in
    let p : IsDomainPart (length t.source.body.iterators) N t.source_domain
    = all_member (IsDomainPart (length t.source.body.iterators) N) t.source.domain e.source_part t.source_domain t.source_domain_is (all_member (IsShapedStatement N) now e.source t.source t.source_is shaped).domain in
    let q : IsDomainPart (length t.target.body.iterators) N t.target_domain
    = all_member (IsDomainPart (length t.target.body.iterators) N) t.target.domain e.target_part t.target_domain t.target_domain_is (all_member (IsShapedStatement N) now e.target t.target t.target_is shaped).domain in
    let l : t.source_domain.shape.locals ≤ 24 = all_member (λ part. part.shape.locals ≤ 24) t.source.domain e.source_part t.source_domain t.source_domain_is s.locals in
    let k : t.target_domain.shape.locals ≤ 24 = all_member (λ part. part.shape.locals ≤ 24) t.target.domain e.target_part t.target_domain t.target_domain_is r.locals in
    let f : length (schedule_in (member now e.source)).floors ≤ 24 = subst (λ found. length (schedule_in found).floors ≤ 24) (sym t.source_is) s.floors in
    let g : length (schedule_in (member now e.target)).floors ≤ 24 = subst (λ found. length (schedule_in found).floors ≤ 24) (sym t.target_is) r.floors in record {
      outputs = omega (arith, p.outputs, s.iterators);
      inputs = omega (arith, q.outputs, r.iterators);
      locals = omega (arith, l, k, f, g);
      parameters = omega (arith, kept.parameters);
    }

-- the system of an entry can be built, and the new schedules fit its columns
pub record CanBuild (E : Edit) (e : Dep) (m : Pairing) : Type 0 where
  pub ready : IsReady m e.level
  pub new_fit : SchedulesFit (widths_of m) E.now.context.shape.parameters (new_schedule E e.source) (new_schedule E e.target)

pub can_build : (E : Edit) → IsEdit E → (e : Dep) → In e (dependences E) → CanBuild E e (shared_pairing E e)
can_build E edit e listed =
    let N = E.now.context.shape.parameters in
    let c = E.now.context in
    let old = E.old.statements in
    let now = E.now.statements in
    let i : IsEntry (sides E.old E.now E.of) e = listed_entry (sides E.old E.now E.of) e listed in
    let t : Statements E e = statements_in E edit e i in
    let shaped : All (IsShapedStatement N) now = (scops_are_shaped E.now edit.now_valid).statements in
    let old_shaped : All (IsShapedStatement N) old = subst (λ c. All (IsShapedStatement c.shape.parameters) old) edit.context (scops_are_shaped E.old edit.old_valid).statements in
    let all : All (SideFits N) (mixed_sides E.old E.now E.of) = mixed_fit N old now E.of old_shaped shaped (scops_are_formed E.now edit.now_valid).statements edit.pieces in
    let P : Parts = parts E e t in
    let m : Pairing = with_schedules P (mixed_at old now E.of e.source) (mixed_at old now E.of e.target) in
    let fits : PairingFits m = named_fits c (mixed_sides E.old E.now E.of) e (mixed_entry E edit e i) (scops_are_shaped E.now edit.now_valid).context all in
    let built : CanBuild E e m = record {
      ready = record { limits = few_columns E edit e t; fits = fits; is_level = old_level E edit e i };
      new_fit = renewed_fit N P (old_schedule old E.of e.source) (new_schedule E e.source) (old_schedule old E.of e.target) (new_schedule E e.target)
          (solved_at N now shaped e.source t.source t.source_is e.source_part t.source_domain t.source_domain_is)
          (solved_at N now shaped e.target t.target t.target_is e.target_part t.target_domain t.target_domain_is);
    } in
    subst (λ z. CanBuild E e z) (sym (pairing_by E e (mixed_sides E.old E.now E.of) (mixed_at old now E.of) (mixed_match old now E.of edit.pieces) t)) built

-- what the look-ups of a side found
pub record Looked (now : List Statement) (k access part : ℕ) (s : Statement) (a : Access) (p : System) : Type 0 where
  pub statement_is : member now k ≡ Some s
  pub access_is : member s.accesses access ≡ Some a
  pub part_is : member s.domain part ≡ Some p

pub shared_found : (E : Edit) → IsEdit E → (e : Dep) (s t : Statement) (a b : Access) (p q : System) → Looked E.now.statements e.source e.source_access e.source_part s a p
    → Looked E.now.statements e.target e.target_access e.target_part t b q
    → shared_pairing E e ≡ pairing E.now.context p q a b (mixed_at E.old.statements E.now.statements E.of e.source) (mixed_at E.old.statements E.now.statements E.of e.target)
shared_found E edit e s t a b p q f g =
    pairing_by E e (mixed_sides E.old E.now E.of) (mixed_at E.old.statements E.now.statements E.of) (mixed_match E.old.statements E.now.statements E.of edit.pieces) (record {
      source = s;
      target = t;
      source_is = f.statement_is;
      target_is = g.statement_is;
      first = a;
      second = b;
      source_domain = p;
      target_domain = q;
      first_is = f.access_is;
      second_is = g.access_is;
      source_domain_is = f.part_is;
      target_domain_is = g.part_is;
    })

-- the two sides of an entry are there
pub source_there : (E : Edit) → IsEdit E → (e : Dep) → In e (dependences E) → HasSide E.old.statements E.now.statements E.of e.source e.source_access e.source_part
source_there E edit e listed = has_source E.old E.now E.of e (has_originals E edit) listed

pub target_there : (E : Edit) → IsEdit E → (e : Dep) → In e (dependences E) → HasSide E.old.statements E.now.statements E.of e.target e.target_access e.target_part
target_there E edit e listed = has_target E.old E.now E.of e (has_originals E edit) listed

-- one side by its look-ups
pub looked : (now statements : List Statement) (k access part : ℕ) (s : Statement) (list : List Access) (a : Access) (ps : List System) (p : System)
    → statements ≡ now → member statements k ≡ Some s → list ≡ s.accesses → member list access ≡ Some a → ps ≡ s.domain → member ps part ≡ Some p → Looked now k access part s a p
looked now statements k access part s list a ps p e s_is ea a_is ep p_is = record {
  statement_is = ap (λ z. member z k) (sym e) ∙ s_is;
  access_is = ap (λ z. member z access) (sym ea) ∙ a_is;
  part_is = ap (λ z. member z part) (sym ep) ∙ p_is;
}

-- and with the context and the two orders that were made
pub found_for : (E : Edit) → IsEdit E → (e : Dep) (s t : Statement) (a b : Access) (p q context : System) (so to : Schedule) → Looked E.now.statements e.source e.source_access e.source_part s a p
    → Looked E.now.statements e.target e.target_access e.target_part t b q → context ≡ E.now.context
    → so ≡ mixed_at E.old.statements E.now.statements E.of e.source → to ≡ mixed_at E.old.statements E.now.statements E.of e.target
    → shared_pairing E e ≡ pairing context p q a b so to
found_for E edit e s t a b p q context so to f g ec es et =
    shared_found E edit e s t a b p q f g
    ∙ (ap (λ z. pairing z p q a b (mixed_at E.old.statements E.now.statements E.of e.source) (mixed_at E.old.statements E.now.statements E.of e.target)) (sym ec)
    ∙ (ap (λ z. pairing context p q a b z (mixed_at E.old.statements E.now.statements E.of e.target)) (sym es) ∙ ap (λ z. pairing context p q a b so z) (sym et)))

pub ready_for : (E : Edit) → IsEdit E → (e : Dep) → In e (dependences E) → (m : Pairing) → shared_pairing E e ≡ m → IsReady m e.level
ready_for E edit e listed m same = subst (λ z. IsReady z e.level) same (can_build E edit e listed).ready
