-- What is said of lists of violations, joined.
use Rattle.std.proofs.Common.{◌≡◌, ◌⊎◌, inl, inr, ℕ, zero, suc, ◌+◌, ◌^◌, ◌<◌, ◌≤◌, List, [], ◌∷◌, ◌++◌, map, length, drop, slice_index_or, Result, Ok, Err, refl, ap, sym, ◌∙◌, subst, arith}
use Rattle.std.specs.List.{flat_map, range_with_len}
use Rattle.std.proofs.lemmas.List.{length-map}
use Rattle.std.proofs.lemmas.List.Concat.{flat_map-cons}
use Rattle.suite_base.specs.declared.refusals.Fail.{Fail}
use Rattle.suite_base.specs.declared.refusals.Fail.TheVariants as fail
use Rattle.suite_base.specs.declared.refusals.Refusal.TheVariants.{Overflow, TooManyRows}
use Rattle.suite_base.specs.declared.refusals.Where.TheVariants.{System as OfSystem}
use Rattle.dependence_systems.specs.Systems.{system_weight}
use Rattle.suite_base.specs.Limits.{max_systems, max_stage_rows}
use Rattle.legality.specs.declared.legal.Legal.{Legal}
use Rattle.legality.specs.declared.legal.Legal.TheVariants.{Yes, Illegal}
use Rattle.scop_core.specs.Sequences.{In}
use Rattle.scop_core.specs.LevelOrder.{IsLevel}
use Rattle.scop_data.proofs.LevelOrder.{levels_are_listed}
use Rattle.dependence_systems.specs.declared.dependences.Dep.{Dep}
use Rattle.legality.specs.Violations.{Edit, Violation, dependences, new_schedule, new_levels, violations_of, violations, shared_pairing, violation_peak}
use Rattle.legality.specs.Answers.{IsLight, IsReal, IsNone, AreNone, StopsAt, StopsHere, IsEnd, IsSaid, IsAnswer}

-- the numbers from 1 to one more
upto_from : (a n : ℕ) → range_with_len a (suc n) ≡ range_with_len a n ++ (a + n) ∷ []
upto_from a zero = ap (λ z. z ∷ []) (omega arith)
upto_from a (suc n) = ap (λ t. a ∷ t) (upto_from (a + 1) n ∙ ap (λ z. range_with_len (a + 1) n ++ z ∷ []) (omega arith))

pub upto_more : (n : ℕ) → range_with_len 1 (n + 1) ≡ range_with_len 1 n ++ (n + 1) ∷ []
upto_more n = let one : n + 1 ≡ suc n = omega arith in ap (λ z. range_with_len 1 z) one ∙ (upto_from 1 n ∙ (let next : 1 + n ≡ n + 1 = omega arith in ap (λ z. range_with_len 1 n ++ z ∷ []) next))

-- where the list goes on behind an end, only want of memory is an end
memory_said : (E : Edit) (k : ℕ) (list : List Violation) → IsSaid E k list (Err fail.Memory)
memory_said E k [] = tt
memory_said E k (v ∷ list) = inl tt

-- an answer that is no Yes is also said of a longer list
pub said_longer : (E : Edit) (k : ℕ) (list rest : List Violation) (answer : Result Legal Fail) → ¬ (answer ≡ Ok Yes) → IsSaid E k list answer → IsSaid E k (list ++ rest) answer
said_longer E k [] rest (Ok Yes) stops h = absurd (stops refl)
said_longer E k [] rest (Ok (Illegal i)) stops h = absurd h
said_longer E k [] rest (Err fail.Memory) stops h = memory_said E k rest
said_longer E k [] rest (Err (fail.Refused r)) stops h = absurd h
said_longer E k (v ∷ list) rest answer stops (inl h) = inl h
said_longer E k (v ∷ list) rest answer stops (inr h) = inr (h.0, said_longer E (k + 1) list rest answer stops h.1)

-- what is said behind violations without a rational point
pub said_behind : (E : Edit) (k : ℕ) (list rest : List Violation) (answer : Result Legal Fail) → AreNone E list → IsSaid E (k + length list) rest answer → IsSaid E k (list ++ rest) answer
said_behind E k [] rest answer none h = subst (λ i. IsSaid E i rest answer) (omega arith) h
said_behind E k (v ∷ list) rest answer none h = inr (none.0, said_behind E (k + 1) list rest answer none.1 (subst (λ i. IsSaid E i rest answer) (omega arith) h))

-- Yes says that none has one
pub yes_none : (E : Edit) (k : ℕ) (list : List Violation) → IsSaid E k list (Ok Yes) → AreNone E list
yes_none E k [] h = tt
yes_none E k (v ∷ list) (inl h) = absurd h
yes_none E k (v ∷ list) (inr h) = (h.0, yes_none E (k + 1) list h.1)

none_joined : (E : Edit) (front behind : List Violation) → AreNone E front → AreNone E behind → AreNone E (front ++ behind)
none_joined E [] behind a b = b
none_joined E (v ∷ front) behind a b = (a.0, none_joined E front behind a.1 b)

-- the violation at which an answer stops
record Stopped (E : Edit) (k : ℕ) (list : List Violation) (answer : Result Legal Fail) : Type 0 where
  before : List Violation
  violation : Violation
  behind : List Violation
  split : list ≡ before ++ violation ∷ behind
  none : AreNone E before
  stops : StopsHere E (k + length before) violation answer

stopped : (E : Edit) (k : ℕ) (list : List Violation) (answer : Result Legal Fail) → IsSaid E k list answer → Stopped E k list answer ⊎ IsEnd answer
stopped E k [] answer h = inr h
stopped E k (v ∷ list) answer (inl h) =
    inl (record { before = []; violation = v; behind = list; split = refl; none = tt; stops = subst (λ i. StopsHere E i v answer) (omega arith) h })
stopped E k (v ∷ list) answer (inr h) = elim (stopped E (k + 1) list answer h.1) [
  | inl s ↦ inl (record {
    before = v ∷ s.before;
    violation = s.violation;
    behind = s.behind;
    split = ap (λ t. v ∷ t) s.split;
    none = (h.0, s.none);
    stops = subst (λ i. StopsHere E i s.violation answer) (omega arith) s.stops;
  })
  | inr e ↦ inr e
]

stops_at : (E : Edit) (k i : ℕ) (answer : Result Legal Fail) (Holds : Violation → Type 0) (s : Stopped E 1 (violations E) answer) → i ≡ 1 + length s.before → Holds s.violation → StopsAt E i Holds
stops_at E k i answer Holds s e h =
    record { before = s.before; violation = s.violation; behind = s.behind; split = s.split; number = e ∙ omega arith; none = s.none; holds = h }

-- what is said of all violations, in the words of an answer
pub answered : (E : Edit) (answer : Result Legal Fail) → length (dependences E) ≤ max_systems → IsSaid E 1 (violations E) answer → IsAnswer E answer
answered E (Ok Yes) few h = record { few = few; none = yes_none E 1 (violations E) h }
answered E (Ok (Illegal i)) few h = elim (stopped E 1 (violations E) (Ok (Illegal i)) h) [
  | inl s ↦ record { few = few; first = stops_at E 1 i (Ok (Illegal i)) (λ v. IsLight E v × IsReal E v) s s.stops.0 (s.stops.1, s.stops.2) }
  | inr e ↦ absurd e
]
answered E (Err fail.Memory) few h = tt
answered E (Err (fail.Refused (Overflow what i))) few h = elim (stopped E 1 (violations E) (Err (fail.Refused (Overflow what i))) h) [
  | inl s ↦ (s.stops.0, few, stops_at E 1 i (Err (fail.Refused (Overflow what i))) (λ v. 2 ^ 127 ≤ (violation_peak E v).weight) s s.stops.1 s.stops.2)
  | inr e ↦ absurd e
]
answered E (Err (fail.Refused (TooManyRows i))) few h = elim (stopped E 1 (violations E) (Err (fail.Refused (TooManyRows i))) h) [
  | inl s ↦ (few, stops_at E 1 i (Err (fail.Refused (TooManyRows i))) (λ v. IsLight E v × (max_stage_rows < (violation_peak E v).rows)) s s.stops.0 (s.stops.1, s.stops.2))
  | inr e ↦ absurd e
]
answered E (Err (fail.Refused r)) few h = elim (stopped E 1 (violations E) (Err (fail.Refused r)) h) [
  | inl s ↦ absurd s.stops
  | inr e ↦ absurd e
]

-- from place i on
drop_at : (xs : List ℕ) (i : ℕ) → i < length xs → drop i xs ≡ slice_index_or xs i 0 ∷ drop (i + 1) xs
drop_at [] i h = absurd (omega arith)
drop_at (x ∷ xs) zero h = refl
drop_at (x ∷ xs) (suc i) h =
    let next : suc i + 1 ≡ suc (i + 1) = omega arith in
    drop_at xs i (omega arith) ∙ ap (λ k. slice_index_or xs i 0 ∷ drop k (x ∷ xs)) (sym next)

at_in : (xs : List ℕ) (i : ℕ) → i < length xs → In (slice_index_or xs i 0) xs
at_in [] i h = absurd (omega arith)
at_in (x ∷ xs) zero h = inl refl
at_in (x ∷ xs) (suc i) h = inr (at_in xs i (omega arith))

pub level_at : (E : Edit) (e : Dep) (levels : List ℕ) (i : ℕ) → levels ≡ new_levels E e → i < length levels
    → IsLevel (new_schedule E e.target).betas (new_schedule E e.source).betas (slice_index_or levels i 0)
level_at E e levels i is h =
    (levels_are_listed (new_schedule E e.target).betas (new_schedule E e.source).betas (slice_index_or levels i 0)).0
    (subst (λ list. In (slice_index_or levels i 0) list) is (at_in levels i h))

-- the violations of a dependence at these levels
abbrev pub at_levels : Dep → List ℕ → List Violation
at_levels e levels = map (λ level. record { entry = e; level = level }) levels

-- what is said from place i on, where `number` violations are before it, is said of all
abbrev pub GoesOn : Edit → Dep → ℕ → ℕ → List ℕ → ℕ → Type 0
GoesOn E e before number levels i =
    (answer : Result Legal Fail) → IsSaid E (number + 1) (at_levels e (drop i levels)) answer → IsSaid E (before + 1) (at_levels e levels) answer

next_said : (E : Edit) (e : Dep) (number : ℕ) (levels : List ℕ) (i : ℕ) (answer : Result Legal Fail) → i < length levels
    → StopsHere E (number + 1) (record { entry = e; level = slice_index_or levels i 0 }) answer
    ⊎ (IsNone E (record { entry = e; level = slice_index_or levels i 0 }) × IsSaid E (number + 1 + 1) (at_levels e (drop (i + 1) levels)) answer)
    → IsSaid E (number + 1) (at_levels e (drop i levels)) answer
next_said E e number levels i answer h said = subst (λ list. IsSaid E (number + 1) (at_levels e list) answer) (sym (drop_at levels i h)) said

pub stops_said : (E : Edit) (e : Dep) (before number next : ℕ) (levels : List ℕ) (i : ℕ) (answer : Result Legal Fail) → GoesOn E e before number levels i → i < length levels
    → next ≡ number + 1 → StopsHere E next (record { entry = e; level = slice_index_or levels i 0 }) answer → IsSaid E (before + 1) (at_levels e levels) answer
stops_said E e before number next levels i answer go h n stops =
    go answer (next_said E e number levels i answer h (inl (subst (λ k. StopsHere E k (record { entry = e; level = slice_index_or levels i 0 }) answer) n stops)))

pub goes_on : (E : Edit) (e : Dep) (before number next : ℕ) (levels : List ℕ) (i : ℕ) → GoesOn E e before number levels i → i < length levels
    → next ≡ number + 1 → IsNone E (record { entry = e; level = slice_index_or levels i 0 }) → GoesOn E e before next levels (i + 1)
goes_on E e before number next levels i go h n none answer said =
    go answer (next_said E e number levels i answer h (inr (none, subst (λ k. IsSaid E (k + 1) (at_levels e (drop (i + 1) levels)) answer) n said)))

pub memory_any : (E : Edit) (k : ℕ) (list : List Violation) (answer : Result Legal Fail) → answer ≡ Err fail.Memory → IsSaid E k list answer
memory_any E k list answer e = subst (λ a. IsSaid E k list a) (sym e) (memory_said E k list)

drop_all : {X : Type 0} (xs : List X) (i : ℕ) → length xs ≤ i → drop i xs ≡ []
drop_all [] zero h = refl
drop_all [] (suc i) h = refl
drop_all (x ∷ xs) zero h = absurd (omega arith)
drop_all (x ∷ xs) (suc i) h = drop_all xs i (omega arith)

pub ends_said : (E : Edit) (e : Dep) (before number : ℕ) (levels : List ℕ) (i : ℕ) → GoesOn E e before number levels i → length levels ≤ i → IsSaid E (before + 1) (at_levels e levels) (Ok Yes)
ends_said E e before number levels i go h = go (Ok Yes) (subst (λ list. IsSaid E (number + 1) (at_levels e list) (Ok Yes)) (sym (drop_all levels i h)) tt)

-- where the rows that the violations of a dependence share pass the weight, the first one is refused
pub first_heavy : (E : Edit) (e : Dep) (levels : List ℕ) (before first : ℕ) → levels ≡ new_levels E e → 0 < length levels → first ≡ before + 1
    → 2 ^ 127 ≤ system_weight (shared_pairing E e) e.level → IsSaid E (before + 1) (violations_of E e) (Err (fail.Refused (Overflow OfSystem first)))
first_heavy E e [] before first is h n heavy = absurd (omega arith)
first_heavy E e (l ∷ levels) before first is h n heavy =
    let v : Violation = record { entry = e; level = l } in
    let most : 2 ^ 127 ≤ (violation_peak E v).weight = grind (arith, heavy) in
    subst (λ list. IsSaid E (before + 1) (at_levels e list) (Err (fail.Refused (Overflow OfSystem first)))) is (inl (refl, n, most))

-- what is said of the dependences from place i on, where `number` violations are before them, is said of all
abbrev pub EntriesGoOn : Edit → ℕ → List Dep → ℕ → Type 0
EntriesGoOn E number list i =
    (answer : Result Legal Fail) → IsSaid E (number + 1) (flat_map (λ e. violations_of E e) (drop i list)) answer → IsSaid E 1 (flat_map (λ e. violations_of E e) list) answer

dep_in : (list : List Dep) (i : ℕ) (d : Dep) → i < length list → In (slice_index_or list i d) list
dep_in [] i d h = absurd (omega arith)
dep_in (x ∷ list) zero d h = inl refl
dep_in (x ∷ list) (suc i) d h = inr (dep_in list i d (omega arith))

drop_dep : (list : List Dep) (i : ℕ) (d : Dep) → i < length list → drop i list ≡ slice_index_or list i d ∷ drop (i + 1) list
drop_dep [] i d h = absurd (omega arith)
drop_dep (x ∷ list) zero d h = refl
drop_dep (x ∷ list) (suc i) d h =
    let next : suc i + 1 ≡ suc (i + 1) = omega arith in
    drop_dep list i d (omega arith) ∙ ap (λ k. slice_index_or list i d ∷ drop k (x ∷ list)) (sym next)

rest_said : (E : Edit) (number : ℕ) (list : List Dep) (i : ℕ) (d : Dep) (answer : Result Legal Fail) → i < length list
    → IsSaid E (number + 1) (violations_of E (slice_index_or list i d) ++ flat_map (λ e. violations_of E e) (drop (i + 1) list)) answer
    → IsSaid E (number + 1) (flat_map (λ e. violations_of E e) (drop i list)) answer
rest_said E number list i d answer h said =
    let same : flat_map (λ e. violations_of E e) (drop i list) ≡ violations_of E (slice_index_or list i d) ++ flat_map (λ e. violations_of E e) (drop (i + 1) list)
    = ap (λ t. flat_map (λ e. violations_of E e) t) (drop_dep list i d h) ∙ flat_map-cons (λ e. violations_of E e) (slice_index_or list i d) (drop (i + 1) list) in
    subst (λ t. IsSaid E (number + 1) t answer) (sym same) said

pub entries_stop : (E : Edit) (number : ℕ) (list : List Dep) (i : ℕ) (d : Dep) (answer : Result Legal Fail) → EntriesGoOn E number list i → i < length list
    → ¬ (answer ≡ Ok Yes) → IsSaid E (number + 1) (violations_of E (slice_index_or list i d)) answer → list ≡ dependences E → IsSaid E 1 (violations E) answer
entries_stop E number list i d answer go h stops said is =
    subst (λ t. IsSaid E 1 (flat_map (λ e. violations_of E e) t) answer) is
    (go answer (rest_said E number list i d answer h (said_longer E (number + 1) (violations_of E (slice_index_or list i d)) (flat_map (λ e. violations_of E e) (drop (i + 1) list)) answer stops said)))

pub entries_go_on : (E : Edit) (number next : ℕ) (levels : List ℕ) (list : List Dep) (i : ℕ) (d : Dep) → EntriesGoOn E number list i → i < length list
    → levels ≡ new_levels E (slice_index_or list i d) → next ≡ number + length levels → (said : Legal) → said ≡ Yes → IsSaid E (number + 1) (violations_of E (slice_index_or list i d)) (Ok said) → EntriesGoOn E next list (i + 1)
entries_go_on E number next levels list i d go h is n said accepts held answer rest =
    let e = slice_index_or list i d in
    let all : IsSaid E (number + 1) (violations_of E e) (Ok Yes) = subst (λ l. IsSaid E (number + 1) (violations_of E e) (Ok l)) accepts held in
    let long : length (violations_of E e) ≡ length levels = length-map (new_levels E e) (λ level. record { entry = e; level = level }) ∙ ap length (sym is) in
    let count : next + 1 ≡ number + 1 + length (violations_of E e) = omega (arith, n, long) in
    go answer (rest_said E number list i d answer h (said_behind E (number + 1) (violations_of E e) (flat_map (λ e. violations_of E e) (drop (i + 1) list)) answer
    (yes_none E (number + 1) (violations_of E e) all) (subst (λ k. IsSaid E k (flat_map (λ e. violations_of E e) (drop (i + 1) list)) answer) count rest)))

pub entries_end : (E : Edit) (number : ℕ) (list : List Dep) (i : ℕ) → EntriesGoOn E number list i → length list ≤ i → list ≡ dependences E → IsSaid E 1 (violations E) (Ok Yes)
entries_end E number list i go h is =
    subst (λ t. IsSaid E 1 (flat_map (λ e. violations_of E e) t) (Ok Yes)) is
    (go (Ok Yes) (subst (λ t. IsSaid E (number + 1) (flat_map (λ e. violations_of E e) t) (Ok Yes)) (sym (drop_all list i h)) tt))

pub entry_in : (E : Edit) (list : List Dep) (i : ℕ) (d : Dep) → list ≡ dependences E → i < length list → In (slice_index_or list i d) (dependences E)
entry_in E list i d is h = subst (λ t. In (slice_index_or list i d) t) is (dep_in list i d h)

-- answers that are no Yes
pub error_is_no_yes : (answer : Result Legal Fail) (f : Fail) → answer ≡ Err f → ¬ (answer ≡ Ok Yes)
error_is_no_yes answer f e h = absurd (cc)

pub illegal_is_no_yes : (k : ℕ) → (answer : Result Legal Fail) → answer ≡ Ok (Illegal k) → ¬ (answer ≡ Ok Yes)
illegal_is_no_yes k answer e h = absurd (cc)
