-- Where no beta vectors clash, none is another one or its beginning.
use Rattle.std.proofs.Common.{◌≡◌, ◌≢◌, ◌⊎◌, inl, inr, ℕ, zero, suc, ◌+◌, ◌<◌, Bool, true, false, List, [], ◌∷◌, ◌++◌, length, get_or, ℤ, refl, ap, sym, ◌∙◌, subst, arith, append_assoc, Option, Some, None, if◌then◌else◌}
use Rattle.std.specs.Prelude.{slice_get, All}
use Rattle.std.proofs.lemmas.Bool.Decides.{Decides-int_eq}
use Rattle.std.proofs.lemmas.List.{length-append}
use Rattle.std.proofs.lemmas.Option.{slice_get_within, get_or_from_slice_get}
use Rattle.suite_base.specs.declared.refusals.Refusal.TheVariants.{BetaClash}
use Rattle.scop_data.specs.declared.statements.Statement.{Statement}
use Rattle.scop_data.specs.Order.{IsPrefix}
use Rattle.scop_data.specs.Theorems.{HasValidSchedules, IsStatement}
use Rattle.scop_data.specs.ScopData.{ScopData}
use Rattle.scop_core.specs.Assembly.{vectors_clash, clash_among, first_clash, early_refusal_of, or_else, solved_statements}
use Rattle.scop_data.specs.SolvedData.{HasRelations}
use Rattle.scop_core.specs.Validity.{IsValid}
use Rattle.scop_core.proofs.Assemblies.{item_has}
use Rattle.scop_core.proofs.Validities.{both_hold}

-- nothing stands in a choice of two
pub neither : {X : Type 0} (a b : Option X) → or_else a b ≡ None → (a ≡ None) × (b ≡ None)
neither (Some x) b h = absurd (cc)
neither None b h = (refl, h)

-- nothing stands behind a test that does not pass
pub passed_none : {X : Type 0} (t : Bool) (x : X) (next : Option X) → (if t then Some x else next) ≡ None → (t ≡ false) × (next ≡ None)
passed_none true x next h = absurd (cc)
passed_none false x next h = (refl, h)

prefix_clashes : (a b : List ℤ) → IsPrefix a b → vectors_clash a b ≡ true
prefix_clashes [] b h = refl
prefix_clashes (x ∷ a) [] h = absurd h
prefix_clashes (x ∷ a) (y ∷ b) h = both_hold _ _ ((Decides-int_eq x y).1 h.0) (prefix_clashes a b h.1)

beginning_clashes : (a b : List ℤ) → IsPrefix b a → vectors_clash a b ≡ true
beginning_clashes [] b h = refl
beginning_clashes (x ∷ a) [] h = refl
beginning_clashes (x ∷ a) (y ∷ b) h = both_hold _ _ ((Decides-int_eq x y).1 (sym h.0)) (beginning_clashes a b h.1)

some_is : {X : Type 0} (x y : X) → Some x ≡ Some y → x ≡ y
some_is x y e = cc

among_free : (i j : ℕ) (xs : List Statement) (betas : List ℤ) → clash_among i j xs betas ≡ None
    → (k : ℕ) (s : Statement) → slice_get xs k ≡ Some s → vectors_clash s.schedule.betas betas ≡ false
among_free i j [] betas h k s e = absurd (cc)
among_free i j (x ∷ xs) betas h zero s e =
    let here = passed_none (vectors_clash x.schedule.betas betas) (BetaClash i j) (clash_among (i + 1) j xs betas) h in
    subst (λ y. vectors_clash y.schedule.betas betas ≡ false) (some_is x s e) here.0
among_free i j (x ∷ xs) betas h (suc k) s e =
    let here = passed_none (vectors_clash x.schedule.betas betas) (BetaClash i j) (clash_among (i + 1) j xs betas) h in
    among_free (i + 1) j xs betas here.1 k s e

pub get_before : {X : Type 0} (xs ys : List X) (i : ℕ) → i < length xs → slice_get (xs ++ ys) i ≡ slice_get xs i
get_before [] ys i h = absurd (omega arith)
get_before (x ∷ xs) ys zero h = refl
get_before (x ∷ xs) ys (suc i) h = get_before xs ys i (omega arith)

clash_free : (j : ℕ) (before rest : List Statement) → first_clash j before rest ≡ None → (i m : ℕ) (s t : Statement)
    → slice_get (before ++ rest) i ≡ Some s → slice_get rest m ≡ Some t → i < length before + m → vectors_clash s.schedule.betas t.schedule.betas ≡ false
clash_free j before [] h i m s t e f l = absurd (cc)
clash_free j before (x ∷ rest) h i zero s t e f l =
    let parts = neither (clash_among 1 j before x.schedule.betas) (first_clash (j + 1) (before ++ x ∷ []) rest) h in
    let within : slice_get before i ≡ Some s = sym (get_before before (x ∷ rest) i (omega arith)) ∙ e in
    subst (λ y. vectors_clash s.schedule.betas y.schedule.betas ≡ false) (some_is x t f) (among_free 1 j before x.schedule.betas parts.0 i s within)
clash_free j before (x ∷ rest) h i (suc m) s t e f l =
    let parts = neither (clash_among 1 j before x.schedule.betas) (first_clash (j + 1) (before ++ x ∷ []) rest) h in
    let whole : slice_get ((before ++ x ∷ []) ++ rest) i ≡ Some s = rw append_assoc e in
    clash_free (j + 1) (before ++ x ∷ []) rest parts.1 i m s t whole f (rw length-append (omega arith))

different : (a b : ℕ) → a ≢ b → (a < b) ⊎ (b < a)
different zero zero h = absurd (h refl)
different zero (suc b) h = inl (omega arith)
different (suc a) zero h = inr (omega arith)
different (suc a) (suc b) h = elim (different a b (λ e. h (ap suc e))) [ inl l ↦ inl (omega arith) | inr l ↦ inr (omega arith) ]

no_clash_no_prefix : (statements : List Statement) → first_clash 1 [] statements ≡ None → (j k : ℕ) (s t : Statement)
    → IsStatement statements j s → IsStatement statements k t → j ≢ k → ¬ IsPrefix s.schedule.betas t.schedule.betas
no_clash_no_prefix statements h zero k s t e f d p = absurd (cc)
no_clash_no_prefix statements h (suc j) zero s t e f d p = absurd (cc)
no_clash_no_prefix statements h (suc j) (suc k) s t e f d p =
    elim (different j k (λ q. d (ap suc q))) [
      | inl l ↦ let free = clash_free 1 [] statements h j k s t e f (omega arith) in let clash = prefix_clashes s.schedule.betas t.schedule.betas p in absurd (cc)
      | inr l ↦ let free = clash_free 1 [] statements h k j t s f e (omega arith) in let clash = beginning_clashes t.schedule.betas s.schedule.betas p in absurd (cc)
    ]

one_more : (p : ℕ) (statements : List Statement) → All (HasRelations p) statements → (k : ℕ) (s : Statement) → IsStatement statements k s
    → length s.schedule.betas ≡ length s.schedule.levels + 1
one_more p statements all zero s e = absurd (cc)
one_more p statements all (suc k) s e =
    let here : s ≡ get_or statements k s = sym (get_or_from_slice_get statements k s s e) in
    let printed : HasRelations p s = item_has (HasRelations p) statements k s (slice_get_within statements k s e) here all in printed.schedule.betas

-- the schedules of a valid SCoP are valid
pub valid_schedules : (S : ScopData) → IsValid S → HasValidSchedules S.statements
valid_schedules S v =
    let parts = neither (early_refusal_of v.assembled.pieces) (first_clash 1 [] (solved_statements 1 v.assembled.pieces.statements)) v.assembled.accepted in
    let free : first_clash 1 [] S.statements ≡ None = ap (λ s. first_clash 1 [] s.statements) v.assembled.is_theirs ∙ parts.1 in
    record { sizes = one_more S.context.shape.parameters S.statements v.statements; apart = no_clash_no_prefix S.statements free }
