-- An entry is in the list exactly where its statements, accesses and parts are there, its accesses can meet, and its level is one of theirs.
use Rattle.std.proofs.Common.{◌≡◌, ℕ, List, [], map, length, Bool, true, false, if◌then◌else◌, Option, Some, None, refl, sym, subst}
use Rattle.std.specs.List.{flat_map, range_with_len}
use Rattle.relation_core.specs.Systems.{System}
use Rattle.scop_data.specs.declared.accesses.Access.{Access}
use Rattle.scop_core.specs.Sequences.{In}
use Rattle.dependence_systems.specs.declared.dependences.Dep.{Dep}
use Rattle.dependence_systems.specs.declared.dependences.DepKind.{DepKind}
use Rattle.dependence_systems.specs.declared.dependences.Ends.{Ends}
use Rattle.scop_core.specs.LevelOrder.{IsLevel}
use Rattle.scop_data.proofs.LevelOrder.{levels_are_listed}
use Rattle.dependence_systems.specs.Sides.{Side, member}
use Rattle.dependence_systems.specs.Entries.{numbered, kind_between, can_meet, ends_of, levels_of, at_parts, first_entry, entries_by, entries_from, between, entries}
use Rattle.dependence_systems.proofs.Members.{in_flat_map, from_flat_map, in_map, from_map, numbered_member, member_numbered, member_of_range, range_of_member}

-- what an entry of the list is of
pub record IsEntry (sides : List Side) (e : Dep) : Type 0 where
  pub source : Side
  pub target : Side
  pub first : Access
  pub second : Access
  pub source_domain : System
  pub target_domain : System
  pub source_is : member sides e.source ≡ Some source
  pub target_is : member sides e.target ≡ Some target
  pub first_is : member source.accesses e.source_access ≡ Some first
  pub second_is : member target.accesses e.target_access ≡ Some second
  pub source_domain_is : member source.domain e.source_part ≡ Some source_domain
  pub target_domain_is : member target.domain e.target_part ≡ Some target_domain
  pub kind_is : kind_between first.kind second.kind ≡ Some e.kind
  pub meet : can_meet first second ≡ true
  pub level : IsLevel source.schedule.betas target.schedule.betas e.level

-- the entry of these numbers
abbrev entry_at : DepKind → Ends → ℕ → ℕ → ℕ → ℕ → ℕ → Dep
entry_at kind ends a b p q level = record {
  kind = kind;
  source = ends.source;
  target = ends.target;
  source_access = a;
  target_access = b;
  source_part = p;
  target_part = q;
  level = level;
}

abbrev levels_at_parts : DepKind → Ends → ℕ → ℕ → ℕ → ℕ → List Dep
levels_at_parts kind ends a b p q = map (λ level. entry_at kind ends a b p q level) (levels_of ends)

pub entry_listed : (sides : List Side) (e : Dep) → IsEntry sides e → In e (entries sides)
entry_listed sides e h =
    let s : ℕ × Side = (e.source, h.source) in
    let t : ℕ × Side = (e.target, h.target) in
    let a : ℕ × Access = (e.source_access, h.first) in
    let b : ℕ × Access = (e.target_access, h.second) in
    let ends : Ends = ends_of s t in
    let levels : In e (levels_at_parts e.kind ends a.0 b.0 e.source_part e.target_part)
    = in_map (λ level. entry_at e.kind ends a.0 b.0 e.source_part e.target_part level) (levels_of ends) e.level ((levels_are_listed h.source.schedule.betas h.target.schedule.betas e.level).1 h.level) in
    let parts : In e (at_parts ends (first_entry e.kind ends a.0 b.0)) = in_flat_map _ (range_with_len 1 (length h.source.domain)) e (record {
      origin = e.source_part;
      listed = range_of_member h.source.domain e.source_part h.source_domain h.source_domain_is;
      made = in_flat_map (λ q. levels_at_parts e.kind ends a.0 b.0 e.source_part q) (range_with_len 1 (length h.target.domain)) e (record {
        origin = e.target_part;
        listed = range_of_member h.target.domain e.target_part h.target_domain h.target_domain_is;
        made = levels;
      });
    }) in
    let met : In e (if can_meet h.first h.second then at_parts ends (first_entry e.kind ends a.0 b.0) else [])
    = subst (λ c. In e (if c then at_parts ends (first_entry e.kind ends a.0 b.0) else [])) (sym h.meet) parts in
    let kinds : In e (entries_by (kind_between h.first.kind h.second.kind) ends a b) = subst (λ k. In e (entries_by k ends a b)) (sym h.kind_is) met in
    let accesses : In e (between s t) = in_flat_map (λ c. entries_from ends c h.target.accesses) (numbered 1 h.source.accesses) e (record {
      origin = a;
      listed = numbered_member h.source.accesses e.source_access h.first h.first_is;
      made = in_flat_map (λ d. entries_by (kind_between h.first.kind d.1.kind) ends a d) (numbered 1 h.target.accesses) e (record {
        origin = b;
        listed = numbered_member h.target.accesses e.target_access h.second h.second_is;
        made = kinds;
      });
    }) in
    in_flat_map (λ c. flat_map (λ d. between c d) (numbered 1 sides)) (numbered 1 sides) e (record {
      origin = s;
      listed = numbered_member sides e.source h.source h.source_is;
      made = in_flat_map (λ d. between s d) (numbered 1 sides) e (record { origin = t; listed = numbered_member sides e.target h.target h.target_is; made = accesses });
    })

-- an entry of two accesses
record ByKind (ends : Ends) (a b : ℕ × Access) (e : Dep) (found : Option DepKind) : Type 0 where
  kind : DepKind
  kind_is : found ≡ Some kind
  meet : can_meet a.1 b.1 ≡ true
  made : In e (at_parts ends (first_entry kind ends a.0 b.0))

by_kind : (found : Option DepKind) (ends : Ends) (a b : ℕ × Access) (e : Dep) → In e (entries_by found ends a b) → ByKind ends a b e found
by_kind None ends a b e h = absurd h
by_kind (Some kind) ends a b e h = by (can_meet a.1 b.1) refl h
  where
    by : (c : Bool) → can_meet a.1 b.1 ≡ c → In e (if c then at_parts ends (first_entry kind ends a.0 b.0) else []) → ByKind ends a b e (Some kind)
    by true m i = record { kind = kind; kind_is = refl; meet = m; made = i }
    by false m i = absurd i

-- an entry of two accesses that meet, with all of its numbers
entry_is : (sides : List Side) (s t : ℕ × Side) (a b : ℕ × Access) (kind : DepKind) (p q level : ℕ) (e : Dep) → entry_at kind (ends_of s t) a.0 b.0 p q level ≡ e
    → member sides s.0 ≡ Some s.1 → member sides t.0 ≡ Some t.1 → member s.1.accesses a.0 ≡ Some a.1 → member t.1.accesses b.0 ≡ Some b.1
    → (x : System) × (member s.1.domain p ≡ Some x) → (y : System) × (member t.1.domain q ≡ Some y)
    → kind_between a.1.kind b.1.kind ≡ Some kind → can_meet a.1 b.1 ≡ true → IsLevel s.1.schedule.betas t.1.schedule.betas level → IsEntry sides e
entry_is sides s t a b kind p q level e made si ti ai bi pi qi ki meet li = subst (λ d. IsEntry sides d) made (record {
  source = s.1;
  target = t.1;
  first = a.1;
  second = b.1;
  source_domain = pi.0;
  target_domain = qi.0;
  source_is = si;
  target_is = ti;
  first_is = ai;
  second_is = bi;
  source_domain_is = pi.1;
  target_domain_is = qi.1;
  kind_is = ki;
  meet = meet;
  level = li;
})

pub listed_entry : (sides : List Side) (e : Dep) → In e (entries sides) → IsEntry sides e
listed_entry sides e h =
    let ss = from_flat_map (λ c. flat_map (λ d. between c d) (numbered 1 sides)) (numbered 1 sides) e h in
    let s = ss.origin in
    let ts = from_flat_map (λ d. between s d) (numbered 1 sides) e ss.made in
    let t = ts.origin in
    let ends : Ends = ends_of s t in
    let firsts = from_flat_map (λ c. entries_from ends c t.1.accesses) (numbered 1 s.1.accesses) e ts.made in
    let a = firsts.origin in
    let seconds = from_flat_map (λ d. entries_by (kind_between a.1.kind d.1.kind) ends a d) (numbered 1 t.1.accesses) e firsts.made in
    let b = seconds.origin in
    let kinds = by_kind (kind_between a.1.kind b.1.kind) ends a b e seconds.made in
    let ps = from_flat_map (λ p. flat_map (λ q. levels_at_parts kinds.kind ends a.0 b.0 p q) (range_with_len 1 (length t.1.domain))) (range_with_len 1 (length s.1.domain)) e kinds.made in
    let qs = from_flat_map (λ q. levels_at_parts kinds.kind ends a.0 b.0 ps.origin q) (range_with_len 1 (length t.1.domain)) e ps.made in
    let levels = from_map (λ level. entry_at kinds.kind ends a.0 b.0 ps.origin qs.origin level) (levels_of ends) e qs.made in
    entry_is sides s t a b kinds.kind ps.origin qs.origin levels.origin e levels.made
    (member_numbered sides s ss.listed) (member_numbered sides t ts.listed) (member_numbered s.1.accesses a firsts.listed) (member_numbered t.1.accesses b seconds.listed)
    (member_of_range s.1.domain ps.origin ps.listed) (member_of_range t.1.domain qs.origin qs.listed) kinds.kind_is kinds.meet
    ((levels_are_listed s.1.schedule.betas t.1.schedule.betas levels.origin).0 levels.listed)
