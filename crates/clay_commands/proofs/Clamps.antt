-- Arguments that fit no 32 bits change no answer of a tree.
use Rattle.std.proofs.Common.{◌≡◌, ℕ, suc, ◌-◌, ◌^◌, ◌<◌, ◌≤◌, ◌==◌, nat_lt, min, Bool, true, false, not, if◌then◌else◌, ◌&&◌, inl, inr, Result, Ok, Err, List, [], ◌∷◌, map, length, ℤ, pos, negsuc, refl, ap, sym, ◌∙◌, append-nil, subst, arith}
use Rattle.std.proofs.lemmas.Bool.{eqb-true, ltb-true, ltb-false}
use Rattle.std.proofs.lemmas.List.{length-map}
use Rattle.std.proofs.Math.Dec.{ltb}
use Rattle.std.specs.Prelude.{OnOk, IfErr}
use Rattle.suite_base.specs.declared.refusals.Fail.{Fail}
use Rattle.beta_tree.specs.declared.refusals.BetaFail.{BetaFail}
use Rattle.beta_tree.specs.declared.refusals.BetaFail.TheVariants.{Memory, NoBeta, NotALoop, BadArgument}
use Rattle.beta_tree.specs.Vectors.{children_of, under, no_statement, is_leaf, is_loop, In, IsTree}
use Rattle.beta_tree.specs.Edits.{fissioned, reordered, is_permutation_of, has_all_below}
use Rattle.beta_tree.specs.Answers.{HasCause as CauseOfBetas, fission_answer, reorder_answer}
use Rattle.scop_core.specs.Assembly.{HasCause}
use Rattle.clay_commands.specs.Refusals.{refused}
use Rattle.clay_commands.specs.Steps.{fail_of}
use Rattle.beta_tree.proofs.Places.{bool_tells, from_In-under}
use Rattle.beta_tree.proofs.Trees.{child_below, no_leaf, some_under}
use Rattle.beta_tree.proofs.Orders.{and_right, orders_of_test, entry_at, entry_below}
use Rattle.beta_tree.proofs.Calls.{children_fit}
use Rattle.clay_commands.specs.Arguments.{natural, are_natural, order_in, all_fit}

lt_false : (a b : ℕ) → b ≤ a → nat_lt a b ≡ false
lt_false a b l = elim (bool_tells (nat_lt a b)) [ inl t ↦ absurd (let h = ltb-true a b t in omega arith) | inr f ↦ f ]

and_false : (b : Bool) → (b && false) ≡ false
and_false true = refl
and_false false = refl

late_test : (a n : ℕ) → n ≤ a → (nat_lt 0 a && nat_lt a n) ≡ false
late_test a n l = ap (λ t. nat_lt 0 a && t) (lt_false a n l) ∙ and_false (nat_lt 0 a)

-- the answer of a fission by the test of its number
abbrev by_test : List ℕ → List (List ℕ) → Bool → Result (List (List ℕ)) BetaFail → Result (List (List ℕ)) BetaFail
by_test P V t answer =
    if no_statement P V then Err NoBeta
    else if not (is_loop P V) then Err NotALoop
    else if not t then Err BadArgument
    else answer

pub clamped_fission : (P : List ℕ) (a : ℕ) (V : List (List ℕ)) → IsTree V → fission_answer P (min a (2 ^ 32 - 1)) V ≡ fission_answer P a V
clamped_fission P a V t =
    elim (bool_tells (nat_lt a (2 ^ 32))) [
      | inl y ↦ let l = ltb-true a (2 ^ 32) y in let same : min a (2 ^ 32 - 1) ≡ a = omega arith in ap (λ m. fission_answer P m V) same
      | inr n ↦
          let l = ltb-false a (2 ^ 32) n in
          let few = children_fit P V t in
          let last : min a (2 ^ 32 - 1) ≡ 2 ^ 32 - 1 = omega arith in
          let none : (nat_lt 0 a && nat_lt a (children_of P V)) ≡ false = late_test a (children_of P V) (omega arith) in
          let too : (nat_lt 0 (2 ^ 32 - 1) && nat_lt (2 ^ 32 - 1) (children_of P V)) ≡ false = late_test (2 ^ 32 - 1) (children_of P V) (omega arith) in
          ap (λ m. fission_answer P m V) last ∙ ap (λ b. by_test P V b (Ok (map (fissioned P (2 ^ 32 - 1)) V))) too ∙ sym (ap (λ b. by_test P V b (Ok (map (fissioned P a) V))) none)
    ]

-- an order with an entry that fits no 32 bits

large_entry : (order : List ℤ) → are_natural order ≡ true → all_fit order ≡ false → (i : ℕ) × (i < length order) × (2 ^ 32 ≤ entry_at (map natural order) i)
large_entry [] n h = absurd (cc)
large_entry (negsuc z ∷ order) n h = absurd (cc)
large_entry (pos z ∷ order) n h =
    elim (bool_tells (nat_lt z (2 ^ 32))) [
      | inl y ↦ let (i, l, e) = large_entry order n (rw y at h) in (suc i, omega arith, e)
      | inr f ↦ (0, omega arith, ltb-false z (2 ^ 32) f)
    ]

no_permutation : (n : ℕ) (order : List ℤ) → n < 2 ^ 32 → are_natural order ≡ true → all_fit order ≡ false → is_permutation_of n (map natural order) ≡ false
no_permutation n order few s h =
    elim (bool_tells (is_permutation_of n (map natural order))) [
      | inl y ↦
          let o = orders_of_test n (map natural order) y in
          let (i, l, e) = large_entry order s h in
          let long : length order ≡ n = sym (length-map order natural) ∙ o.long in
          let below = entry_below n (map natural order) o i (omega arith) in
          absurd (omega arith)
      | inr f ↦ f
    ]

-- the answer of a reorder by the test of its order
abbrev by_order : List ℕ → List (List ℕ) → Bool → Result (List (List ℕ)) BetaFail → Result (List (List ℕ)) BetaFail
by_order P V t answer =
    if no_statement P V then Err NoBeta
    else if is_leaf P V then Err NotALoop
    else if not t then Err BadArgument
    else answer

large_order : (P : List ℕ) (order : List ℤ) (V : List (List ℕ)) → IsTree V → all_fit order ≡ false → is_permutation_of (children_of P V) [] ≡ false
    → reorder_answer P [] V ≡ reorder_answer P (order_in order) V
large_order P order V t h none =
    elim (bool_tells (are_natural order)) [
      | inr f ↦ ap (λ b. reorder_answer P (if b then map natural order else []) V) (sym f)
      | inl s ↦
          let too : is_permutation_of (children_of P V) (map natural order) ≡ false = no_permutation (children_of P V) order (children_fit P V t) s h in
          ap (λ b. by_order P V b (Ok (map (reordered P []) V))) none ∙ sym (ap (λ b. by_order P V b (Ok (map (reordered P (map natural order)) V))) too)
          ∙ ap (λ b. reorder_answer P (if b then map natural order else []) V) (sym s)
    ]

pub fit_natural : (order : List ℤ) → all_fit order ≡ true → are_natural order ≡ true
fit_natural [] h = refl
fit_natural (pos n ∷ order) h = fit_natural order (and_right (nat_lt n (2 ^ 32)) (all_fit order) h)
fit_natural (negsuc n ∷ order) h = absurd (cc)

child_among : (u P : List ℕ) (V : List (List ℕ)) → IsTree V → is_leaf P V ≡ false → In u (under P V) → 0 < children_of P V
child_among [] P V t l i = absurd (no_leaf P V l (rw append-nil at (from_In-under P [] V i)))
child_among (y ∷ w) P V t l i = let below = child_below P y w V t.dense (from_In-under P (y ∷ w) V i) in omega arith

-- where there is a statement and none is P there are children
some_child : (P : List ℕ) (V : List (List ℕ)) → IsTree V → no_statement P V ≡ false → is_leaf P V ≡ false → 0 < children_of P V
some_child P V t s l = let (u, i) = some_under P V s in child_among u P V t l i

-- so the empty order is none of theirs
empty_order : (P : List ℕ) (V : List (List ℕ)) → IsTree V → no_statement P V ≡ false → is_leaf P V ≡ false → is_permutation_of (children_of P V) [] ≡ false
empty_order P V t s l = elim (bool_tells (0 == children_of P V)) [
  | inl y ↦ absurd (let e = eqb-true 0 (children_of P V) y in let some = some_child P V t s l in omega arith)
  | inr f ↦ ap (λ b. b && has_all_below (children_of P V) []) f
]

pub unfit_order : (P : List ℕ) (order : List ℤ) (V : List (List ℕ)) → IsTree V → all_fit order ≡ false → reorder_answer P [] V ≡ reorder_answer P (order_in order) V
unfit_order P order V t h =
    elim (bool_tells (no_statement P V)) [
      | inl y ↦ rw y refl
      | inr s ↦ elim (bool_tells (is_leaf P V)) [
        | inl y ↦ rw (s, y) refl
        | inr l ↦ large_order P order V t h (empty_order P V t s l)
      ]
    ]

pub fit_order : (order : List ℤ) → all_fit order ≡ true → order_in order ≡ map natural order
fit_order order h = ap (λ b. if b then map natural order else []) (fit_natural order h)

-- a failure of an operation has its cause as the failure of a command
pub cause_of : (i : ℕ) (e : BetaFail) (answer : Result (List (List ℕ)) BetaFail) → CauseOfBetas e answer → HasCause (refused i answer) (fail_of i e)
cause_of i Memory answer h = tt
cause_of i NoBeta answer h = ap (refused i) h
cause_of i NotALoop answer h = ap (refused i) h
cause_of i BadArgument answer h = ap (refused i) h

-- an equal answer says as much
pub carried_ok : {E : Type 0} (r : Result (Unit {0}) E) (a b : Result (List (List ℕ)) BetaFail) (w : List (List ℕ)) → a ≡ b → OnOk r (a ≡ Ok w) → OnOk r (b ≡ Ok w)
carried_ok r a b w e h = subst (λ t. OnOk r (t ≡ Ok w)) e h

pub carried_cause : (i : ℕ) (r : Result (Unit {0}) Fail) (a b : Result (List (List ℕ)) BetaFail) → a ≡ b → IfErr r (HasCause (refused i a)) → IfErr r (HasCause (refused i b))
carried_cause i r a b e h = subst (λ t. IfErr r (HasCause (refused i t))) e h
