-- The lines of a list of entries are appended one entry after the other.
use Rattle.std.proofs.Common.{◌≡◌, inl, inr, ℕ, zero, suc, ◌+◌, ◌<◌, ◌≤◌, ◌^◌, List, [], ◌∷◌, ◌++◌, length, take, drop, ℤ, refl, ap, sym, ◌∙◌, subst, arith}
use Rattle.std.specs.Prelude.{Option, Some, None, slice_get, slice_index_or}
use Rattle.std.proofs.lemmas.List.{append_assoc, append-nil}
use Rattle.suite_base.specs.declared.refusals.Fail.{Fail}
use Rattle.suite_base.specs.declared.refusals.Fail.TheVariants as fail
use Rattle.suite_base.specs.declared.refusals.Refusal.{Refusal}
use Rattle.suite_base.specs.declared.refusals.Refusal.TheVariants.{Limit, Overflow, TooManyRows}
use Rattle.suite_base.specs.Limits.{max_systems, max_stage_rows}
use Rattle.elim_core.specs.declared.verdicts.ElimFail.{ElimFail}
use Rattle.elim_core.specs.declared.verdicts.ElimFail.TheVariants as cause
use Rattle.relation_core.specs.Systems.{System}
use Rattle.scop_core.specs.ScopData.{ScopData}
use Rattle.scop_core.specs.Sequences.{In}
use Rattle.dependence_systems.specs.declared.dependences.Dep.{Dep}
use Rattle.dependence_systems.specs.Sides.{Side, own_sides}
use Rattle.dependence_systems.specs.Entries.{entries, IsTooMany}
use Rattle.dependence_systems.specs.Systems.{system_of}
use Rattle.dependence_blocks.specs.Blocks.{entry_lines, lines_of}
use Rattle.dependence_blocks.specs.KeptLines.{IsReadable}
use Rattle.candl_deps.specs.Decisions.{IsRight, AreRight, AreReadable, AreLight, IsPrinted, IsDecided, StopsOne, StopsAt, IsRefusal, IsCause, FailsOne, refused, AreWithin, IsDecidable, entry_peak}

light_append : (context : System) (sides : List Side) (xs ys : List Dep) → AreLight context sides xs → AreLight context sides ys → AreLight context sides (xs ++ ys)
light_append context sides [] ys f g = g
light_append context sides (x ∷ xs) ys f g = (f.0, light_append context sides xs ys f.1 g)

right_append : (context : System) (sides : List Side) (xs ys : List Dep) (vs ws : List (Option (List ℤ)))
    → AreRight context sides xs vs → AreRight context sides ys ws → AreRight context sides (xs ++ ys) (vs ++ ws)
right_append context sides [] ys [] ws f g = g
right_append context sides [] ys (v ∷ vs) ws f g = absurd f
right_append context sides (x ∷ xs) ys [] ws f g = absurd f
right_append context sides (x ∷ xs) ys (v ∷ vs) ws f g = (f.0, right_append context sides xs ys vs ws f.1 g)

readable_append : (context : System) (sides : List Side) (xs ys : List Dep) (vs ws : List (Option (List ℤ)))
    → AreReadable context sides xs vs → AreReadable context sides ys ws → AreReadable context sides (xs ++ ys) (vs ++ ws)
readable_append context sides [] ys [] ws f g = g
readable_append context sides [] ys (v ∷ vs) ws f g = absurd f
readable_append context sides (x ∷ xs) ys [] ws f g = absurd f
readable_append context sides (x ∷ xs) ys (v ∷ vs) ws f g = (f.0, readable_append context sides xs ys vs ws f.1 g)

lines_append : (context : System) (sides : List Side) (xs ys : List Dep) (vs ws : List (Option (List ℤ)))
    → AreRight context sides xs vs → lines_of context sides (xs ++ ys) (vs ++ ws) ≡ lines_of context sides xs vs ++ lines_of context sides ys ws
lines_append context sides [] ys [] ws f = refl
lines_append context sides [] ys (v ∷ vs) ws f = absurd f
lines_append context sides (x ∷ xs) ys [] ws f = absurd f
lines_append context sides (x ∷ xs) ys (v ∷ vs) ws f =
    ap (λ more. entry_lines x (system_of context sides x) v ++ more) (lines_append context sides xs ys vs ws f.1)
    ∙ sym (append_assoc (entry_lines x (system_of context sides x) v) (lines_of context sides xs vs) (lines_of context sides ys ws))

pub printed_none : (context : System) (sides : List Side) (old : List (List ℕ)) → IsPrinted context sides [] old old
printed_none context sides old = record { verdicts = []; light = tt; right = tt; readable = tt; lines = sym (append-nil old) }

pub printed_more : (context : System) (sides : List Side) (xs ys : List Dep) (old mid new : List (List ℕ))
    → IsPrinted context sides xs old mid → IsPrinted context sides ys mid new → IsPrinted context sides (xs ++ ys) old new
printed_more context sides xs ys old mid new f g =
    let joined : new ≡ old ++ (lines_of context sides xs f.verdicts ++ lines_of context sides ys g.verdicts) =
    g.lines ∙ (ap (λ t. t ++ lines_of context sides ys g.verdicts) f.lines ∙ append_assoc old (lines_of context sides xs f.verdicts) (lines_of context sides ys g.verdicts)) in
    record {
      verdicts = f.verdicts ++ g.verdicts;
      light = light_append context sides xs ys f.light g.light;
      right = right_append context sides xs ys f.verdicts g.verdicts f.right g.right;
      readable = readable_append context sides xs ys f.verdicts g.verdicts f.readable g.readable;
      lines = joined ∙ ap (λ t. old ++ t) (sym (lines_append context sides xs ys f.verdicts g.verdicts f.right));
    }

pub printed_one : (context : System) (sides : List Side) (e : Dep) (system : System) (verdict : Option (List ℤ)) (old new : List (List ℕ))
    → IsDecided context sides e system verdict → IsReadable e system verdict → new ≡ old ++ entry_lines e system verdict → IsPrinted context sides (e ∷ []) old new
printed_one context sides e system verdict old new d readable lines =
    record {
      verdicts = verdict ∷ [];
      light = (d.light, tt);
      right = (subst (λ s. IsRight s verdict) d.system_is d.right, tt);
      readable = (subst (λ s. IsReadable e s verdict) d.system_is readable, tt);
      lines = lines ∙ (ap (λ s. old ++ entry_lines e s verdict) d.system_is ∙ ap (λ t. old ++ t) (sym (append-nil (entry_lines e (system_of context sides e) verdict))));
    }

-- ---- places of a list

abbrev get_some : {X : Type 0} → Option X → X → X
get_some None y = y
get_some (Some x) y = x

pub in_here : {X : Type 0} (xs : List X) (k : ℕ) (x : X) → slice_get xs k ≡ Some x → In x xs
in_here [] k x e = absurd (cc)
in_here (y ∷ xs) zero x e = inl (ap (λ o. get_some o y) e)
in_here (y ∷ xs) (suc k) x e = inr (in_here xs k x e)

pub split_here : {X : Type 0} (xs : List X) (k : ℕ) (x : X) → slice_get xs k ≡ Some x → xs ≡ take k xs ++ x ∷ drop (suc k) xs
split_here [] k x e = absurd (cc)
split_here (y ∷ xs) zero x e = ap (λ z. z ∷ xs) (ap (λ o. get_some o y) e)
split_here (y ∷ xs) (suc k) x e = ap (λ t. y ∷ t) (split_here xs k x e)

-- the entry at a place of a list, as an index reads it
pub at_place : {X : Type 0} (xs : List X) (k : ℕ) (d : X) → k < length xs → slice_get xs k ≡ Some (slice_index_or xs k d)
at_place [] k d h = absurd (omega arith)
at_place (y ∷ xs) zero d h = refl
at_place (y ∷ xs) (suc k) d h = at_place xs k d (omega arith)

one_more_at : {X : Type 0} (xs : List X) (k : ℕ) (d : X) → k < length xs → take (suc k) xs ≡ take k xs ++ slice_index_or xs k d ∷ []
one_more_at [] k d h = absurd (omega arith)
one_more_at (y ∷ xs) zero d h = refl
one_more_at (y ∷ xs) (suc k) d h = ap (λ t. y ∷ t) (one_more_at xs k d (omega arith))

pub one_more_taken : {X : Type 0} (xs : List X) (k : ℕ) (d : X) → k < length xs → take (k + 1) xs ≡ take k xs ++ slice_index_or xs k d ∷ []
one_more_taken xs k d h = let e : k + 1 ≡ suc k = omega arith in ap (λ n. take n xs) e ∙ one_more_at xs k d h

pub all_taken : {X : Type 0} (xs : List X) (k : ℕ) → length xs ≤ k → take k xs ≡ xs
all_taken [] zero h = refl
all_taken [] (suc k) h = refl
all_taken (y ∷ xs) zero h = absurd (omega arith)
all_taken (y ∷ xs) (suc k) h = ap (λ t. y ∷ t) (all_taken xs k (omega arith))

taken_length : {X : Type 0} (xs : List X) (k : ℕ) → k < length xs → length (take k xs) ≡ k
taken_length [] k h = absurd (omega arith)
taken_length (y ∷ xs) zero h = refl
taken_length (y ∷ xs) (suc k) h = ap suc (taken_length xs k (omega arith))

-- want of memory, or a refusal of this list
abbrev IsCauseIn : ScopData → List Dep → Fail → Type 0
IsCauseIn S list fail.Memory = Unit {0}
IsCauseIn S list (fail.Refused refusal) = IsRefusal S.context (own_sides S) list refusal

by_cause : (S : ScopData) (list : List Dep) (k : ℕ) (e : Dep) (before behind : List Dep) → list ≡ before ++ e ∷ behind → k + 1 ≡ length before + 1
    → AreLight S.context (own_sides S) before → length list ≤ max_systems → (from : ElimFail) → FailsOne S.context (own_sides S) e from → IsCauseIn S list (refused from (k + 1))
by_cause S list k e before behind split number light few cause.Memory fails = tt
by_cause S list k e before behind split number light few cause.Overflow fails =
    (refl, few, record { before = before; entry = e; behind = behind; split = split; number = number; light = light; passes = fails })
by_cause S list k e before behind split number light few cause.TooManyRows fails =
    (few, record { before = before; entry = e; behind = behind; split = split; number = number; light = light; passes = fails })

-- the refusal of the entry at place k refuses the list
pub one_stops : (S : ScopData) (list : List Dep) (k : ℕ) (d : Dep) (failure : Fail) → list ≡ entries (own_sides S) → length list ≤ max_systems → k < length list
    → AreLight S.context (own_sides S) (take k list) → StopsOne S.context (own_sides S) (slice_index_or list k d) (k + 1) failure → IsCause S failure
one_stops S list k d failure same few h light stops =
    let e = slice_index_or list k d in
    let split : list ≡ take k list ++ e ∷ drop (suc k) list = split_here list k e (at_place list k d h) in
    subst (λ f. IsCause S f) (sym stops.is)
    (subst (λ (xs : List Dep). IsCauseIn S xs (refused stops.from (k + 1))) same
    (by_cause S list k e (take k list) (drop (suc k) list) split (ap (λ n. n + 1) (sym (taken_length list k h))) light few stops.from stops.fails))

-- ---- a SCoP of which every system can be decided is not refused

within_at : (context : System) (sides : List Side) (before : List Dep) (e : Dep) (behind : List Dep) → AreWithin context sides (before ++ e ∷ behind)
    → ((entry_peak context sides e).weight < 2 ^ 127) × ((entry_peak context sides e).rows ≤ max_stage_rows)
within_at context sides [] e behind h = (h.0, h.1)
within_at context sides (x ∷ before) e behind h = within_at context sides before e behind h.2

within_no_more : (context : System) (sides : List Side) (list : List Dep) (k : ℕ) → AreWithin context sides list → ¬ StopsAt context sides list k (λ p. 2 ^ 127 ≤ p.weight)
within_no_more context sides list k within stops =
    let e = within_at context sides stops.before stops.entry stops.behind (subst (AreWithin context sides) stops.split within) in
    let bad = stops.passes in
    omega (arith, e.0)

within_no_rows : (context : System) (sides : List Side) (list : List Dep) (k : ℕ) → AreWithin context sides list → ¬ StopsAt context sides list k (λ p. max_stage_rows < p.rows)
within_no_rows context sides list k within stops =
    let e = within_at context sides stops.before stops.entry stops.behind (subst (AreWithin context sides) stops.split within) in
    let bad = stops.passes in
    omega (arith, e.1)

pub decidable_is_not_refused : (S : ScopData) (refusal : Refusal) → IsDecidable S → ¬ IsRefusal S.context (own_sides S) (entries (own_sides S)) refusal
decidable_is_not_refused S (Limit which k) d h = let few = d.few in let many = h.2 in omega arith
decidable_is_not_refused S (Overflow what k) d h = within_no_more S.context (own_sides S) (entries (own_sides S)) k d.within h.2
decidable_is_not_refused S (TooManyRows k) d h = within_no_rows S.context (own_sides S) (entries (own_sides S)) k d.within h.1
decidable_is_not_refused S refusal d h = absurd h

-- ---- a list that is too long

pub many_is_cause : (S : ScopData) → (failure : Fail) → IsTooMany (entries (own_sides S)) failure → IsCause S failure
many_is_cause S fail.Memory h = tt
many_is_cause S (fail.Refused refusal) h = subst (λ r. IsRefusal S.context (own_sides S) (entries (own_sides S)) r) (sym h.0) (refl, refl, h.1)
