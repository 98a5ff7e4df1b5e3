-- Two SCoPs are not refused for themselves exactly where a script can be recovered.
use Rattle.std.proofs.Common.{◌≡◌, ℤ, pos, ℕ, zero, suc, ◌+◌, ◌-◌, ◌<◌, ◌==◌, Bool, true, false, if◌then◌else◌, ◌&&◌, inl, inr, Option, Some, None, List, [], ◌∷◌, ◌++◌, length, map, take, drop, get_or, refl, sym, ◌∙◌, ap, subst, arith}
use Rattle.std.specs.Prelude.{All, option_map}
use Rattle.std.specs.Ordering.{int_eq}
use Rattle.std.proofs.lemmas.Bool.{eqb-true}
use Rattle.std.proofs.lemmas.List.Elements.{All-cons, All-head, All-nil, All-tail}
use Rattle.suite_base.specs.declared.refusals.Refusal.{Refusal}
use Rattle.suite_base.specs.declared.refusals.Refusal.TheVariants.{Different, NotClanForm, NotRecoverable}
use Rattle.beta_tree.specs.Vectors.{is_nil}
use Rattle.beta_tree.proofs.Places.{same_yes}
use Rattle.beta_tree.proofs.Orders.{and_left, and_right}
use Rattle.scop_data.specs.declared.affines.Affine.{Affine}
use Rattle.scop_data.specs.declared.statements.Statement.{Statement}
use Rattle.scop_core.specs.Assembly.{or_else}
use Rattle.scop_core.specs.ScopData.{ScopData}
use Rattle.scop_core.specs.SolvedRows.{zeros, unit, HasSizes}
use Rattle.scop_core.specs.Shapes.{IsShapedStatement}
use Rattle.scop_core.specs.Validity.{IsValid}
use Rattle.scop_core.proofs.ScopShapes.{scops_are_shaped}
use Rattle.chlore_recover.specs.Triangles.{Signed, IsSign, IsFactored, AreLong, is_zero, is_sign, leads}
use Rattle.chlore_recover.specs.Recoverable.{plain, rows_of, AreClansFrom, IsClans, IsRecoverable, ends_apart, triangle_of}
use Rattle.chlore_recover.specs.Recovered.{IsPaired, ArePaired, CanRecover}
use Rattle.chlore_recover.specs.Refusals.{is_signed_unit, is_clans_level, are_clans_levels, has_clans_form, can_be_recovered, first_failing, first_different, same_counts, difference_of, pair_refusal, UnrefusedCanRecover}
use Rattle.chlore_recover.proofs.Ends.{int_yes, zero_row, zeros_zero, sign_of_test, test_of_sign}
use Rattle.chlore_recover.proofs.Factors.{apart_is_factored, factored_is_apart}
use Rattle.chlore_recover.proofs.Levels.{clans_long}

both : (a b : Bool) → a ≡ true → b ≡ true → (a && b) ≡ true
both a b h g = rw (h, g) refl

nothing_in : {A : Type 0} (xs : List A) → is_nil xs ≡ true → xs ≡ []
nothing_in [] h = refl
nothing_in (x ∷ xs) h = absurd (cc)

is_nothing : {A : Type 0} (xs : List A) → xs ≡ [] → is_nil xs ≡ true
is_nothing xs e = ap (λ z. is_nil z) e

no_items : {A : Type 0} (xs : List A) → length xs ≡ 0 → xs ≡ []
no_items [] e = refl
no_items (x ∷ xs) e = absurd (omega arith)

-- rows that are 1 or -1 at one place

pub signed_unit_is : (k : ℕ) (row : List ℤ) → is_signed_unit k row ≡ true → (g : ℤ) × IsSign g × (row ≡ unit (length row) k g)
signed_unit_is zero [] h = absurd (cc)
signed_unit_is zero (z ∷ row) h =
    let more : (is_sign z && is_zero row) ≡ true = h in
    let n : length row ≡ length (z ∷ row) - (0 + 1) = omega arith in
    (z, sign_of_test z (and_left (is_sign z) (is_zero row) more), ap (λ r. z ∷ r) (zero_row row (and_right (is_sign z) (is_zero row) more) ∙ ap zeros n))
signed_unit_is (suc k) [] h = absurd (cc)
signed_unit_is (suc k) (z ∷ row) h =
    let up : suc k + 1 ≡ suc (k + 1) = omega arith in
    let rest : Bool = is_sign (get_or row k (pos 0)) && is_zero (drop (k + 1) row) in
    let whole : ((int_eq z (pos 0) && is_zero (take k row)) && rest) ≡ true =
    subst (λ j. ((int_eq z (pos 0) && is_zero (take k row)) && (is_sign (get_or row k (pos 0)) && is_zero (drop j (z ∷ row)))) ≡ true) up h in
    let front = and_left (int_eq z (pos 0) && is_zero (take k row)) rest whole in
    let behind = and_right (int_eq z (pos 0) && is_zero (take k row)) rest whole in
    let first : z ≡ pos 0 = int_yes z (pos 0) (and_left (int_eq z (pos 0)) (is_zero (take k row)) front) in
    let (g, s, e) = signed_unit_is k row (both (is_zero (take k row)) rest (and_right (int_eq z (pos 0)) (is_zero (take k row)) front) behind) in
    let n : length row - (k + 1) ≡ length (z ∷ row) - (suc k + 1) = omega arith in
    (g, s, ap (λ q. q ∷ row) first ∙ ap (λ r. pos 0 ∷ r) (e ∙ ap (λ m. zeros k ++ g ∷ zeros m) n))

pub unit_is_signed : (k m : ℕ) (g : ℤ) → IsSign g → is_signed_unit k (zeros k ++ g ∷ zeros m) ≡ true
unit_is_signed zero m g s = both (is_sign g) (is_zero (zeros m)) (test_of_sign g s) (zeros_zero m)
unit_is_signed (suc k) m g s =
    let row : List ℤ = zeros k ++ g ∷ zeros m in
    let up : suc k + 1 ≡ suc (k + 1) = omega arith in
    subst (λ j. (is_zero (take k row) && (is_sign (get_or row k (pos 0)) && is_zero (drop j (pos 0 ∷ row)))) ≡ true) (sym up) (unit_is_signed k m g s)

-- levels in Clan's form

form_is : (n d k : ℕ) (form : Affine) → HasSizes d 0 n form → is_clans_level k form ≡ true → (g : ℤ) × IsSign g × (form ≡ plain n (unit d k g))
form_is n d k form size h =
    let rest : Bool = is_zero form.parameters && int_eq form.constant (pos 0) in
    let (g, s, row) = signed_unit_is k form.iterators (and_left (is_signed_unit k form.iterators) rest h) in
    let more = and_right (is_signed_unit k form.iterators) rest h in
    let iterators : form.iterators ≡ unit d k g = row ∙ ap (λ m. unit m k g) size.iterators_are in
    let floors : form.floors ≡ [] = no_items form.floors size.floors_are in
    let parameters : form.parameters ≡ zeros n = zero_row form.parameters (and_left (is_zero form.parameters) (int_eq form.constant (pos 0)) more) ∙ ap zeros size.parameters_are in
    let constant : form.constant ≡ pos 0 = int_yes form.constant (pos 0) (and_right (is_zero form.parameters) (int_eq form.constant (pos 0)) more) in
    let made : form ≡ plain n (unit d k g) =
    ap (λ x. record { iterators = x; floors = form.floors; parameters = form.parameters; constant = form.constant }) iterators
    ∙ (ap (λ x. record { iterators = unit d k g; floors = x; parameters = form.parameters; constant = form.constant }) floors
    ∙ (ap (λ x. record { iterators = unit d k g; floors = []; parameters = x; constant = form.constant }) parameters
    ∙ ap (λ x. record { iterators = unit d k g; floors = []; parameters = zeros n; constant = x }) constant)) in
    (g, s, made)

is_form : (n d k : ℕ) (g : ℤ) → IsSign g → is_clans_level k (plain n (unit d k g)) ≡ true
is_form n d k g s = both (is_signed_unit k (unit d k g)) (is_zero (zeros n) && int_eq (pos 0) (pos 0)) (unit_is_signed k (d - (k + 1)) g s) (both (is_zero (zeros n)) (int_eq (pos 0) (pos 0)) (zeros_zero n) refl)

levels_are : (n d k : ℕ) (levels : List Affine) → All (HasSizes d 0 n) levels → k + length levels ≡ d → are_clans_levels k levels ≡ true → AreClansFrom n k d levels
levels_are n d k [] sizes long h = omega arith
levels_are n d k (form ∷ levels) sizes long h = (
  form_is n d k form (All-head (HasSizes d 0 n) form levels sizes) (and_left (is_clans_level k form) (are_clans_levels (k + 1) levels) h),
  levels_are n d (k + 1) levels (All-tail (HasSizes d 0 n) form levels sizes) (omega arith) (and_right (is_clans_level k form) (are_clans_levels (k + 1) levels) h),
)

are_levels : (n d k : ℕ) (levels : List Affine) → AreClansFrom n k d levels → are_clans_levels k levels ≡ true
are_levels n d k [] c = refl
are_levels n d k (form ∷ levels) ((g, s, e), c) =
    both (is_clans_level k form) (are_clans_levels (k + 1) levels) (subst (λ f. is_clans_level k f ≡ true) (sym e) (is_form n d k g s)) (are_levels n d (k + 1) levels c)

-- statements

sizes_of : (n : ℕ) (s : Statement) → IsShapedStatement n s → s.schedule.floors ≡ [] → All (HasSizes (length s.body.iterators) 0 n) s.schedule.levels
sizes_of n s shaped none =
    let count : length s.schedule.floors ≡ 0 = ap length none in
    subst (λ k. All (HasSizes (length s.body.iterators) k n) s.schedule.levels) count shaped.schedule.relation.levels

pub clans_of_test : (n : ℕ) (s : Statement) → IsShapedStatement n s → has_clans_form s ≡ true → IsClans n s
clans_of_test n s shaped h =
    let d : ℕ = length s.body.iterators in
    let rest : Bool = (length s.schedule.levels == d) && are_clans_levels 0 s.schedule.levels in
    let none = nothing_in s.schedule.floors (and_left (is_nil s.schedule.floors) rest h) in
    let more = and_right (is_nil s.schedule.floors) rest h in
    let many = eqb-true (length s.schedule.levels) d (and_left (length s.schedule.levels == d) (are_clans_levels 0 s.schedule.levels) more) in
    record {
      floors = none;
      levels = levels_are n d 0 s.schedule.levels (sizes_of n s shaped none) (omega arith) (and_right (length s.schedule.levels == d) (are_clans_levels 0 s.schedule.levels) more);
    }

pub test_of_clans : (n : ℕ) (s : Statement) → IsClans n s → has_clans_form s ≡ true
test_of_clans n s c =
    let d : ℕ = length s.body.iterators in
    let long = clans_long n 0 d s.schedule.levels c.levels in
    let many : length s.schedule.levels ≡ d = omega arith in
    let same : (length s.schedule.levels == d) ≡ true = rw many (same_yes d) in
    both (is_nil s.schedule.floors) ((length s.schedule.levels == d) && are_clans_levels 0 s.schedule.levels) (is_nothing s.schedule.floors c.floors)
    (both (length s.schedule.levels == d) (are_clans_levels 0 s.schedule.levels) same (are_levels n d 0 s.schedule.levels c.levels))

rows_long : (n d : ℕ) (levels : List Affine) → All (HasSizes d 0 n) levels → AreLong d (rows_of levels)
rows_long n d [] sizes = tt
rows_long n d (form ∷ levels) sizes =
    ((All-head (HasSizes d 0 n) form levels sizes).iterators_are, rows_long n d levels (All-tail (HasSizes d 0 n) form levels sizes))

-- what a recoverable statement's levels are
pub record IsApart (t : Statement) : Type 0 where
  pub floors : t.schedule.floors ≡ []
  pub long : AreLong (length t.body.iterators) (rows_of t.schedule.levels)
  pub apart : ends_apart (length t.body.iterators) (rows_of t.schedule.levels) ≡ true

pub apart_of_test : (n : ℕ) (t : Statement) → IsShapedStatement n t → can_be_recovered t ≡ true → IsApart t
apart_of_test n t shaped h =
    let apart : Bool = ends_apart (length t.body.iterators) (rows_of t.schedule.levels) in
    let none = nothing_in t.schedule.floors (and_left (is_nil t.schedule.floors) apart h) in
    record {
      floors = none;
      long = rows_long n (length t.body.iterators) t.schedule.levels (sizes_of n t shaped none);
      apart = and_right (is_nil t.schedule.floors) apart h;
    }

pub recoverable_of_test : (n : ℕ) (t : Statement) → IsShapedStatement n t → can_be_recovered t ≡ true → IsRecoverable t
recoverable_of_test n t shaped h =
    let d : ℕ = length t.body.iterators in
    let rows : List (List ℤ) = rows_of t.schedule.levels in
    let a = apart_of_test n t shaped h in
    record { floors = a.floors; factored = (leads rows, triangle_of d rows, apart_is_factored d rows a.long a.apart) }

pub test_of_recoverable : (t : Statement) → IsRecoverable t → can_be_recovered t ≡ true
test_of_recoverable t r =
    let d : ℕ = length t.body.iterators in
    let rows : List (List ℤ) = rows_of t.schedule.levels in
    let (P, L, f) = r.factored in
    both (is_nil t.schedule.floors) (ends_apart d rows) (is_nothing t.schedule.floors r.floors) (factored_is_apart d P L rows f).0

-- statements in turn

none_else : (b : Bool) (o : Option ℕ) (k : ℕ) → (if b then o else Some k) ≡ None → (b ≡ true) × (o ≡ None)
none_else true o k h = (refl, h)
none_else false o k h = absurd (cc)

pub none_fails : (test : Statement → Bool) (k : ℕ) (S : List Statement) → first_failing test k S ≡ None → All (λ s. test s ≡ true) S
none_fails test k [] h = All-nil (λ s. test s ≡ true)
none_fails test k (s ∷ S) h = let (a, b) = none_else (test s) (first_failing test (k + 1) S) k h in All-cons (λ z. test z ≡ true) s S a (none_fails test (k + 1) S b)

paired_of : (n k i j : ℕ) (S T : List Statement) → length S ≡ length T → All (IsShapedStatement n) S → All (IsShapedStatement n) T → first_different k S T ≡ None → first_failing has_clans_form i S ≡ None
    → first_failing can_be_recovered j T ≡ None → ArePaired n S T
paired_of n k i j [] [] e a b f g h = tt
paired_of n k i j [] (t ∷ T) e a b f g h = absurd (omega arith)
paired_of n k i j (s ∷ S) [] e a b f g h = absurd (omega arith)
paired_of n k i j (s ∷ S) (t ∷ T) e a b f g h =
    let (f0, f1) = none_else (length s.body.iterators == length t.body.iterators) (first_different (k + 1) S T) k f in
    let (g0, g1) = none_else (has_clans_form s) (first_failing has_clans_form (i + 1) S) i g in
    let (h0, h1) = none_else (can_be_recovered t) (first_failing can_be_recovered (j + 1) T) j h in (
      record {
        iterators = eqb-true (length s.body.iterators) (length t.body.iterators) f0;
        clans = clans_of_test n s (All-head (IsShapedStatement n) s S a) g0;
        recoverable = recoverable_of_test n t (All-head (IsShapedStatement n) t T b) h0;
      },
      paired_of n (k + 1) (i + 1) (j + 1) S T (omega arith) (All-tail (IsShapedStatement n) s S a) (All-tail (IsShapedStatement n) t T b) f1 g1 h1,
    )

-- what pairs are not refused for
pub record AreAccepted (k i j : ℕ) (S T : List Statement) : Type 0 where
  pub long : length S ≡ length T
  pub same : first_different k S T ≡ None
  pub clans : first_failing has_clans_form i S ≡ None
  pub recoverable : first_failing can_be_recovered j T ≡ None

accepted_of : (n k i j : ℕ) (S T : List Statement) → ArePaired n S T → AreAccepted k i j S T
accepted_of n k i j [] [] p = record { long = refl; same = refl; clans = refl; recoverable = refl }
accepted_of n k i j [] (t ∷ T) p = absurd p
accepted_of n k i j (s ∷ S) [] p = absurd p
accepted_of n k i j (s ∷ S) (t ∷ T) (p, more) =
    let a = accepted_of n (k + 1) (i + 1) (j + 1) S T more in
    let d : ℕ = length t.body.iterators in
    let one : (length s.body.iterators == d) ≡ true = rw p.iterators (same_yes d) in
    record {
      long = let l = a.long in omega arith;
      same = rw one a.same;
      clans = rw (test_of_clans n s p.clans) a.clans;
      recoverable = rw (test_of_recoverable t p.recoverable) a.recoverable;
    }

-- the refusals in turn

pub first_none : (a b : Option Refusal) → or_else a b ≡ None → a ≡ None
first_none None b h = refl
first_none (Some r) b h = absurd (cc)

pub then_none : (a b : Option Refusal) → or_else a b ≡ None → b ≡ None
then_none None b h = h
then_none (Some r) b h = absurd (cc)

pub map_none : (f : ℕ → Refusal) (o : Option ℕ) → option_map f o ≡ None → o ≡ None
map_none f None h = refl
map_none f (Some k) h = absurd (cc)

no_difference : (b : Bool) (o : Option Refusal) → (if b then o else Some (Different 0)) ≡ None → (b ≡ true) × (o ≡ None)
no_difference true o h = (refl, h)
no_difference false o h = absurd (cc)

can_recover : (O T : ScopData) → IsValid O → IsValid T → pair_refusal O T ≡ None → CanRecover O T
can_recover O T vo vt h =
    let different : Option Refusal = option_map Different (first_different 1 O.statements T.statements) in
    let form : Option Refusal = option_map NotClanForm (first_failing has_clans_form 1 O.statements) in
    let lost : Option Refusal = option_map NotRecoverable (first_failing can_be_recovered 1 T.statements) in
    let first = first_none (difference_of O T) (or_else form lost) h in
    let later = then_none (difference_of O T) (or_else form lost) h in
    let (counts, same) = no_difference (same_counts O T) different first in
    let many = eqb-true (length O.statements) (length T.statements) (and_left (length O.statements == length T.statements) (O.context.shape.parameters == T.context.shape.parameters) counts) in
    let wide = eqb-true O.context.shape.parameters T.context.shape.parameters (and_right (length O.statements == length T.statements) (O.context.shape.parameters == T.context.shape.parameters) counts) in
    let shaped = subst (λ n. All (IsShapedStatement n) T.statements) (sym wide) (scops_are_shaped T vt).statements in
    record {
      parameters = wide;
      statements = paired_of O.context.shape.parameters 1 1 1 O.statements T.statements many (scops_are_shaped O vo).statements shaped
          (map_none Different (first_different 1 O.statements T.statements) same) (map_none NotClanForm (first_failing has_clans_form 1 O.statements) (first_none form lost later))
          (map_none NotRecoverable (first_failing can_be_recovered 1 T.statements) (then_none form lost later));
    }

no_refusal : (O T : ScopData) → CanRecover O T → pair_refusal O T ≡ None
no_refusal O T c =
    let a = accepted_of O.context.shape.parameters 1 1 1 O.statements T.statements c.statements in
    let counts : same_counts O T ≡ true = both (length O.statements == length T.statements) (O.context.shape.parameters == T.context.shape.parameters) (rw a.long (same_yes (length T.statements))) (rw c.parameters (same_yes T.context.shape.parameters)) in
    rw (counts, a.same, a.clans, a.recoverable) refl

pub unrefused_can_recover : UnrefusedCanRecover
unrefused_can_recover O T = (can_recover O T, no_refusal O T)
