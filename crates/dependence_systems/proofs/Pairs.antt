-- A pair of instances lies in a system of the list exactly where it touches and is ordered.
use Rattle.std.proofs.Common.{◌≡◌, ◌⊎◌, inl, inr, ℕ, zero, suc, ℤ, List, [], ◌∷◌, length, slice_get, Bool, true, false, ◌&&◌, All, Option, Some, refl, ap, sym, ◌∙◌, subst}
use Rattle.std.proofs.lemmas.Bool.Decides.{Decides-int_eq, Decides-eqb}
use Rattle.std.proofs.lemmas.List.{length-map}
use Rattle.std.proofs.lemmas.List.Elements.{All-head, All-tail}
use Rattle.relation_core.specs.Systems.{System}
use Rattle.relation_core.specs.Points.{LiesIn, LiesInSome}
use Rattle.scop_data.specs.declared.accesses.Access.{Access}
use Rattle.scop_data.specs.declared.accesses.AccessKind.{AccessKind}
use Rattle.scop_data.specs.declared.accesses.AccessKind.TheVariants.{Read, Write, MayWrite}
use Rattle.scop_core.specs.Sequences.{In}
use Rattle.scop_core.specs.Memory.{Cell, is_writing}
use Rattle.scop_core.specs.Meaning.{Instance, use_at, affine_at, levels_at}
use Rattle.scop_core.specs.Held.{IsFormed}
use Rattle.scop_core.specs.Printable.{IsContext, IsDomainPart}
use Rattle.scop_core.specs.ReadBack.{IsSolvedSchedule, IsSolvedAccess}
use Rattle.schedule_forms.proofs.SolvedShapes.{both}
use Rattle.scop_data.proofs.LevelOrder.{schedules_order_at_a_level}
use Rattle.dependence_systems.specs.declared.dependences.Dep.{Dep}
use Rattle.dependence_systems.specs.declared.dependences.DepKind.{DepKind}
use Rattle.dependence_systems.specs.declared.dependences.DepKind.TheVariants.{Raw, War, Waw}
use Rattle.dependence_systems.specs.Sides.{Side, member, member_or, no_side}
use Rattle.dependence_systems.specs.Entries.{kind_between, can_meet}
use Rattle.dependence_systems.specs.Systems.{Pairing, pairing_of, no_part, no_access, level_system}
use Rattle.dependence_systems.specs.Fits.{SideFits, PairingFits, SubscriptsFit}
use Rattle.dependence_systems.specs.Pairs.{LiesInList, IsOrdered, SystemsHoldOrderedPairs}
use Rattle.dependence_systems.proofs.Members.{in_map, from_map}
use Rattle.dependence_systems.proofs.EntryFound.{IsEntry, entry_listed, listed_entry}
use Rattle.dependence_systems.proofs.SystemMeanings.{PairHolds, forwards, backwards}

-- what holds of all members holds of one with a number
same_value : {X : Type 0} {a b : X} → Some a ≡ Some b → a ≡ b
same_value e = cc

all_at : {X : Type 0} (P : X → Type 0) (xs : List X) (k : ℕ) (x : X) → slice_get xs k ≡ Some x → All P xs → P x
all_at P [] k x h all = absurd (cc)
all_at P (y ∷ ys) zero x h all = subst P (same_value h) (All-head P y ys all)
all_at P (y ∷ ys) (suc k) x h all = all_at P ys k x h (All-tail P y ys all)

pub all_member : {X : Type 0} (P : X → Type 0) (xs : List X) (k : ℕ) (x : X) → member xs k ≡ Some x → All P xs → P x
all_member P xs zero x h all = absurd (cc)
all_member P xs (suc k) x h all = all_at P xs k x h all

-- members and numbers
in_at : {X : Type 0} (xs : List X) (k : ℕ) (x : X) → slice_get xs k ≡ Some x → In x xs
in_at [] k x h = absurd (cc)
in_at (y ∷ ys) zero x h = inl (same_value h)
in_at (y ∷ ys) (suc k) x h = inr (in_at ys k x h)

in_member : {X : Type 0} (xs : List X) (k : ℕ) (x : X) → member xs k ≡ Some x → In x xs
in_member xs zero x h = absurd (cc)
in_member xs (suc k) x h = in_at xs k x h

place_in : {X : Type 0} (xs : List X) (x : X) → In x xs → (k : ℕ) × (slice_get xs k ≡ Some x)
place_in [] x h = absurd h
place_in (y ∷ ys) x (inl e) = (0, ap (λ z. Some z) e)
place_in (y ∷ ys) x (inr i) = let r = place_in ys x i in (suc r.0, r.1)

number_in : {X : Type 0} (xs : List X) (x : X) → In x xs → (k : ℕ) × (member xs k ≡ Some x)
number_in xs x h = let r = place_in xs x h in (suc r.0, r.1)

-- a point in a domain lies in a part with a number
some_part : (parts : List System) (k : ℕ) (part : System) (x n : List ℤ) → slice_get parts k ≡ Some part → LiesIn part x [] n → LiesInSome parts x [] n
some_part [] k part x n h l = absurd (cc)
some_part (p ∷ ps) zero part x n h l = inl (subst (λ q. LiesIn q x [] n) (sym (same_value h)) l)
some_part (p ∷ ps) (suc k) part x n h l = inr (some_part ps k part x n h l)

in_some : (parts : List System) (k : ℕ) (part : System) (x n : List ℤ) → member parts k ≡ Some part → LiesIn part x [] n → LiesInSome parts x [] n
in_some parts zero part x n h l = absurd (cc)
in_some parts (suc k) part x n h l = some_part parts k part x n h l

record InPart (parts : List System) (x n : List ℤ) : Type 0 where
  place : ℕ
  part : System
  part_is : slice_get parts place ≡ Some part
  lies : LiesIn part x [] n

part_of : (parts : List System) (x n : List ℤ) → LiesInSome parts x [] n → InPart parts x n
part_of [] x n h = absurd h
part_of (p ∷ ps) x n (inl l) = record { place = 0; part = p; part_is = refl; lies = l }
part_of (p ∷ ps) x n (inr r) = let i = part_of ps x n r in record { place = suc i.place; part = i.part; part_is = i.part_is; lies = i.lies }

-- a kind of dependence is there where one of the two accesses writes
kind_writes : (a b : AccessKind) (kind : DepKind) → kind_between a b ≡ Some kind → (is_writing a ≡ true) ⊎ (is_writing b ≡ true)
kind_writes Read Read kind h = absurd (cc)
kind_writes Read Write kind h = inr refl
kind_writes Read MayWrite kind h = inr refl
kind_writes Write Read kind h = inl refl
kind_writes Write Write kind h = inl refl
kind_writes Write MayWrite kind h = inl refl
kind_writes MayWrite Read kind h = inl refl
kind_writes MayWrite Write kind h = inl refl
kind_writes MayWrite MayWrite kind h = inl refl

writes_kind : (a b : AccessKind) → (is_writing a ≡ true) ⊎ (is_writing b ≡ true) → (kind : DepKind) × (kind_between a b ≡ Some kind)
writes_kind Read Read (inl h) = absurd (cc)
writes_kind Read Read (inr h) = absurd (cc)
writes_kind Read Write h = (War, refl)
writes_kind Read MayWrite h = (War, refl)
writes_kind Write Read h = (Raw, refl)
writes_kind Write Write h = (Waw, refl)
writes_kind Write MayWrite h = (Waw, refl)
writes_kind MayWrite Read h = (Raw, refl)
writes_kind MayWrite Write h = (Waw, refl)
writes_kind MayWrite MayWrite h = (Waw, refl)

-- two accesses that can meet have one array and equally many subscripts
meet_array : (a b : Access) → can_meet a b ≡ true → a.array ≡ b.array
meet_array a b h = (Decides-int_eq a.array b.array).0 (both _ _ h).0

meet_length : (a b : Access) → can_meet a b ≡ true → length a.subscripts ≡ length b.subscripts
meet_length a b h = (Decides-eqb (length a.subscripts) (length b.subscripts)).0 (both _ _ h).1

and_true : (s t : Bool) → s ≡ true → t ≡ true → (s && t) ≡ true
and_true true true e f = refl
and_true true false e f = absurd (cc)
and_true false t e f = absurd (cc)

can_meet_of : (a b : Access) → a.array ≡ b.array → length a.subscripts ≡ length b.subscripts → can_meet a b ≡ true
can_meet_of a b e f = and_true _ _ ((Decides-int_eq a.array b.array).1 e) ((Decides-eqb (length a.subscripts) (length b.subscripts)).1 f)

-- what an entry's system is made of, by what the entry names
abbrev pub named : (context : System) (sides : List Side) (e : Dep) → IsEntry sides e → Pairing
named context sides e h = record {
  context = context;
  source_part = h.source_domain;
  target_part = h.target_domain;
  source_access = h.first;
  target_access = h.second;
  source_schedule = h.source.schedule;
  target_schedule = h.target.schedule;
}

pub is_named : (context : System) (sides : List Side) (e : Dep) (h : IsEntry sides e) → pairing_of context sides e ≡ named context sides e h
is_named context sides e h =
    let P : Side → Side → Pairing = λ s t. record {
      context = context;
      source_part = member_or no_part (member s.domain e.source_part);
      target_part = member_or no_part (member t.domain e.target_part);
      source_access = member_or no_access (member s.accesses e.source_access);
      target_access = member_or no_access (member t.accesses e.target_access);
      source_schedule = s.schedule;
      target_schedule = t.schedule;
    } in
    let Q : Option System → Option System → Option Access → Option Access → Pairing = λ p q a b. record {
      context = context;
      source_part = member_or no_part p;
      target_part = member_or no_part q;
      source_access = member_or no_access a;
      target_access = member_or no_access b;
      source_schedule = h.source.schedule;
      target_schedule = h.target.schedule;
    } in
    let one : pairing_of context sides e ≡ P h.source h.target
    = ap (λ s. P (member_or no_side s) (member_or no_side (member sides e.target))) h.source_is ∙ ap (λ t. P h.source (member_or no_side t)) h.target_is in
    let p = member h.source.domain e.source_part in
    let q = member h.target.domain e.target_part in
    let a = member h.source.accesses e.source_access in
    let b = member h.target.accesses e.target_access in
    let two : Q p q a b ≡ Q (Some h.source_domain) (Some h.target_domain) (Some h.first) (Some h.second)
    = ap (λ z. Q z q a b) h.source_domain_is ∙ (ap (λ z. Q (Some h.source_domain) z a b) h.target_domain_is
    ∙ (ap (λ z. Q (Some h.source_domain) (Some h.target_domain) z b) h.first_is ∙ ap (λ z. Q (Some h.source_domain) (Some h.target_domain) (Some h.first) z) h.second_is)) in
    one ∙ two

-- it fits together, where all sides fit
pub named_fits : (context : System) (sides : List Side) (e : Dep) (h : IsEntry sides e) → IsContext context → All (SideFits context.shape.parameters) sides
    → PairingFits (named context sides e h)
named_fits context sides e h is_context all =
    let N = context.shape.parameters in
    let s : SideFits N h.source = all_member (SideFits N) sides e.source h.source h.source_is all in
    let t : SideFits N h.target = all_member (SideFits N) sides e.target h.target h.target_is all in
    let p : IsDomainPart h.source.iterators N h.source_domain = all_member (IsDomainPart h.source.iterators N) h.source.domain e.source_part h.source_domain h.source_domain_is s.domain in
    let q : IsDomainPart h.target.iterators N h.target_domain = all_member (IsDomainPart h.target.iterators N) h.target.domain e.target_part h.target_domain h.target_domain_is t.domain in
    let a : IsSolvedAccess h.source.iterators N h.first = all_member (IsSolvedAccess h.source.iterators N) h.source.accesses e.source_access h.first h.first_is s.accesses in
    let b : IsSolvedAccess h.target.iterators N h.second = all_member (IsSolvedAccess h.target.iterators N) h.target.accesses e.target_access h.second h.second_is t.accesses in record {
      context = is_context;
      source_part = subst (λ i. IsDomainPart i N h.source_domain) (sym p.outputs) p;
      target_part = subst (λ i. IsDomainPart i N h.target_domain) (sym q.outputs) q;
      source_formed = all_member IsFormed h.source.domain e.source_part h.source_domain h.source_domain_is s.formed;
      target_formed = all_member IsFormed h.target.domain e.target_part h.target_domain h.target_domain_is t.formed;
      subscripts = meet_length h.first h.second h.meet;
      source_subscripts = subst (λ i. SubscriptsFit i N h.first.subscripts) (sym p.outputs) a.relation.subscripts;
      target_subscripts = subst (λ i. SubscriptsFit i N h.second.subscripts) (sym q.outputs) b.relation.subscripts;
      source_schedule = subst (λ i. IsSolvedSchedule i N h.source.schedule) (sym p.outputs) s.schedule;
      target_schedule = subst (λ i. IsSolvedSchedule i N h.target.schedule) (sym q.outputs) t.schedule;
    }

-- one cell
one_cell : {c d : Cell} → c.array ≡ d.array → c.subscripts ≡ d.subscripts → c ≡ d
one_cell {c} {d} e f = ap (λ z. record { array = z; subscripts = c.subscripts }) e ∙ ap (λ z. record { array = d.array; subscripts = z }) f

ordered : (context : System) (sides : List Side) → IsContext context → All (SideFits context.shape.parameters) sides
    → (n : List ℤ) (a b : Instance) → LiesInList context sides n a b → IsOrdered sides n a b
ordered context sides is_context all n a b h =
    let e = h.entry in
    let i : IsEntry sides e = listed_entry sides e h.listed in
    let m = named context sides e i in
    let fits = named_fits context sides e i is_context all in
    let lies : LiesIn (level_system m e.level) a.values b.values n = subst (λ p. LiesIn (level_system p e.level) a.values b.values n) (is_named context sides e i) h.pair.lies in
    let holds : PairHolds m e.level a.values b.values n = forwards m e.level a.values b.values n fits i.level lies in
    let N = context.shape.parameters in
    let s : SideFits N i.source = all_member (SideFits N) sides e.source i.source i.source_is all in
    let t : SideFits N i.target = all_member (SideFits N) sides e.target i.target i.target_is all in
    let p : IsDomainPart i.source.iterators N i.source_domain = all_member (IsDomainPart i.source.iterators N) i.source.domain e.source_part i.source_domain i.source_domain_is s.domain in
    let q : IsDomainPart i.target.iterators N i.target_domain = all_member (IsDomainPart i.target.iterators N) i.target.domain e.target_part i.target_domain i.target_domain_is t.domain in
    let u = use_at a.values n i.first in
    let v = use_at b.values n i.second in record {
      source = i.source;
      target = i.target;
      source_is = ap (λ k. member sides k) h.pair.source_is ∙ i.source_is;
      target_is = ap (λ k. member sides k) h.pair.target_is ∙ i.target_is;
      source_length = holds.source.outputs_are ∙ p.outputs;
      target_length = holds.target.outputs_are ∙ q.outputs;
      source_lies = in_some i.source.domain e.source_part i.source_domain a.values n i.source_domain_is holds.source;
      target_lies = in_some i.target.domain e.target_part i.target_domain b.values n i.target_domain_is holds.target;
      touch = (
        u,
        v,
        in_map (λ access. use_at a.values n access) i.source.accesses i.first (in_member i.source.accesses e.source_access i.first i.first_is),
        in_map (λ access. use_at b.values n access) i.target.accesses i.second (in_member i.target.accesses e.target_access i.second i.second_is),
        one_cell (meet_array i.first i.second i.meet) holds.subscripts,
        kind_writes i.first.kind i.second.kind e.kind i.kind_is,
      );
      order = (schedules_order_at_a_level i.source.schedule i.target.schedule s.schedule.relation.betas t.schedule.relation.betas a.values b.values n).1 (e.level, i.level, holds.order);
    }

-- the entry of an ordered pair
pub record Found (context : System) (sides : List Side) (n : List ℤ) (a b : Instance) : Type 0 where
  pub entry : Dep
  pub is_entry : IsEntry sides entry
  pub source_is : a.statement ≡ entry.source
  pub target_is : b.statement ≡ entry.target
  pub holds : PairHolds (named context sides entry is_entry) entry.level a.values b.values n

pub found : (context : System) (sides : List Side) → IsContext context → All (SideFits context.shape.parameters) sides
    → (n : List ℤ) → LiesIn context [] [] n → (a b : Instance) → IsOrdered sides n a b → Found context sides n a b
found context sides is_context all n in_context a b h =
    let N = context.shape.parameters in
    let x = a.values in
    let y = b.values in
    let s : SideFits N h.source = all_member (SideFits N) sides a.statement h.source h.source_is all in
    let t : SideFits N h.target = all_member (SideFits N) sides b.statement h.target h.target_is all in
    let p = part_of h.source.domain x n h.source_lies in
    let q = part_of h.target.domain y n h.target_lies in
    let u = from_map (λ access. use_at x n access) h.source.accesses h.touch.0 h.touch.2 in
    let v = from_map (λ access. use_at y n access) h.target.accesses h.touch.1 h.touch.3 in
    let first = number_in h.source.accesses u.origin u.listed in
    let second = number_in h.target.accesses v.origin v.listed in
    let cells : (use_at x n u.origin).cell ≡ (use_at y n v.origin).cell = ap (λ z. z.cell) u.made ∙ (h.touch.4 ∙ sym (ap (λ z. z.cell) v.made)) in
    let subscripts : levels_at u.origin.subscripts x [] n ≡ levels_at v.origin.subscripts y [] n = ap (λ c. c.subscripts) cells in
    let long : length u.origin.subscripts ≡ length v.origin.subscripts
    = sym (length-map u.origin.subscripts (λ f. affine_at f x [] n)) ∙ (ap length subscripts ∙ length-map v.origin.subscripts (λ f. affine_at f y [] n)) in
    let writes : (is_writing u.origin.kind ≡ true) ⊎ (is_writing v.origin.kind ≡ true)
    = subst (λ k. (is_writing k ≡ true) ⊎ (is_writing v.origin.kind ≡ true)) (sym (ap (λ z. z.kind) u.made))
    (subst (λ k. (is_writing h.touch.0.kind ≡ true) ⊎ (is_writing k ≡ true)) (sym (ap (λ z. z.kind) v.made)) h.touch.5) in
    let kind = writes_kind u.origin.kind v.origin.kind writes in
    let level = (schedules_order_at_a_level h.source.schedule h.target.schedule s.schedule.relation.betas t.schedule.relation.betas x y n).0 h.order in
    let e : Dep = record {
      kind = kind.0;
      source = a.statement;
      target = b.statement;
      source_access = first.0;
      target_access = second.0;
      source_part = suc p.place;
      target_part = suc q.place;
      level = level.0;
    } in
    let is_entry : IsEntry sides e = record {
      source = h.source;
      target = h.target;
      first = u.origin;
      second = v.origin;
      source_domain = p.part;
      target_domain = q.part;
      source_is = h.source_is;
      target_is = h.target_is;
      first_is = first.1;
      second_is = second.1;
      source_domain_is = p.part_is;
      target_domain_is = q.part_is;
      kind_is = kind.1;
      meet = can_meet_of u.origin v.origin (ap (λ c. c.array) cells) long;
      level = level.1;
    } in record {
      entry = e;
      is_entry = is_entry;
      source_is = refl;
      target_is = refl;
      holds = record {
        context = in_context;
        source = p.lies;
        target = q.lies;
        subscripts = subscripts;
        order = level.2;
      };
    }

listed : (context : System) (sides : List Side) → IsContext context → All (SideFits context.shape.parameters) sides
    → (n : List ℤ) (a b : Instance) → Found context sides n a b → LiesInList context sides n a b
listed context sides is_context all n a b f =
    let e = f.entry in
    let i = f.is_entry in
    let m = named context sides e i in
    let lies : LiesIn (level_system m e.level) a.values b.values n
    = backwards m e.level a.values b.values n (named_fits context sides e i is_context all) i.level f.holds in record {
      entry = e;
      listed = entry_listed sides e i;
      pair = record {
        source_is = f.source_is;
        target_is = f.target_is;
        lies = subst (λ p. LiesIn (level_system p e.level) a.values b.values n) (sym (is_named context sides e i)) lies;
      };
    }

pub systems_hold_ordered_pairs : SystemsHoldOrderedPairs
systems_hold_ordered_pairs context sides is_context all n in_context a b = (
  ordered context sides is_context all n a b,
  λ h. listed context sides is_context all n a b (found context sides is_context all n in_context a b h),
)
