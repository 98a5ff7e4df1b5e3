-- The script for the levels of one pair of statements in valid SCoPs.
use Rattle.std.proofs.Common.{◌≡◌, ℤ, ℕ, suc, List, [], ◌∷◌, length, map, refl, sym, ◌∙◌, ap, subst, arith}
use Rattle.std.specs.Prelude.{All}
use Rattle.std.proofs.lemmas.List.{length-map}
use Rattle.std.proofs.lemmas.List.Elements.{All-head, All-tail}
use Rattle.beta_tree.proofs.Orders.{orders_of_test}
use Rattle.scop_data.specs.declared.affines.Affine.{Affine}
use Rattle.scop_data.specs.declared.statements.Statement.{Statement}
use Rattle.scop_core.specs.SolvedRows.{HasSizes}
use Rattle.scop_core.specs.Shapes.{IsShapedStatement, IsFormedStatement, AffineIsInRange}
use Rattle.clay_script.specs.declared.commands.Command.{Command}
use Rattle.chlore_recover.specs.Triangles.{Signed, IsFactored, product}
use Rattle.chlore_recover.specs.Recoverable.{rows_of, AreClansFrom}
use Rattle.chlore_recover.specs.LevelScripts.{level_script, forms_along}
use Rattle.chlore_recover.specs.Runs.{at_levels, AllSmall, AreForms}
use Rattle.chlore_recover.specs.Drafted.{IsTaken}
use Rattle.chlore_recover.specs.Recovered.{IsPaired}
use Rattle.chlore_recover.proofs.Levels.{clans_long}
use Rattle.chlore_recover.proofs.Ranges.{small_of_coefficients}
use Rattle.chlore_recover.proofs.Taken.{level_script_is_taken}

no_entries : {A : Type 0} (xs : List A) → length xs ≡ 0 → xs ≡ []
no_entries [] e = refl
no_entries (x ∷ xs) e = absurd (omega arith)

-- the levels of a target

rows_small : (levels : List Affine) → All AffineIsInRange levels → AllSmall (rows_of levels)
rows_small [] all = tt
rows_small (form ∷ levels) all =
    (small_of_coefficients form.iterators (All-head AffineIsInRange form levels all).iterators, rows_small levels (All-tail AffineIsInRange form levels all))

forms_of : (d n : ℕ) (levels : List Affine) → All (HasSizes d 0 n) levels → All AffineIsInRange levels → AreForms n levels
forms_of d n [] sizes all = tt
forms_of d n (form ∷ levels) sizes all =
    let own = All-head (HasSizes d 0 n) form levels sizes in
    let fit = All-head AffineIsInRange form levels all in (
      (no_entries form.floors own.floors_are, own.parameters_are, small_of_coefficients form.parameters fit.parameters, fit.constant),
      forms_of d n levels (All-tail (HasSizes d 0 n) form levels sizes) (All-tail AffineIsInRange form levels all),
    )

pub factored_long : (d : ℕ) (P : Signed) (L rows : List (List ℤ)) → IsFactored d P L rows → length rows ≡ d
factored_long d P L rows f =
    let long = (orders_of_test d (map (λ e. e.0) P) f.permutation.places).long in
    ap length f.is ∙ (product_long P L ∙ (sym (length-map P (λ e. e.0)) ∙ long))
  where
    product_long : (P : Signed) (L : List (List ℤ)) → length (product P L) ≡ length P
    product_long [] L = refl
    product_long (e ∷ P) L = ap suc (product_long P L)

-- as many levels as iterators, on both sides

pub clans_levels : (n : ℕ) (s t : Statement) → IsPaired n s t → length s.schedule.levels ≡ length s.body.iterators
clans_levels n s t p = let e = clans_long n 0 (length s.body.iterators) s.schedule.levels p.clans.levels in omega arith

pub target_levels : (n : ℕ) (s t : Statement) → IsPaired n s t → length t.schedule.levels ≡ length t.body.iterators
target_levels n s t p =
    let (P, L, f) = p.recoverable.factored in
    sym (length-map t.schedule.levels (λ form. form.iterators)) ∙ factored_long (length t.body.iterators) P L (rows_of t.schedule.levels) f

-- what the script for a pair's levels does
pub record IsDone (n : ℕ) (script : List Command) (s t : Statement) : Type 0 where
  pub taken : IsTaken n script s.schedule
  pub made : forms_along script s.schedule ≡ at_levels s.schedule t.schedule.levels

pub pair_done : (n : ℕ) (p : List ℤ) (s t : Statement) → IsPaired n s t → IsShapedStatement n t → IsFormedStatement t → IsDone n (level_script p s.schedule.levels t.schedule.levels) s t
pair_done n p s t pair shaped formed =
    let (P, L, factored) = pair.recoverable.factored in
    let d : ℕ = length t.schedule.levels in
    let long : d ≡ length t.body.iterators = target_levels n s t pair in
    let clans : AreClansFrom n 0 d s.schedule.levels = subst (λ k. AreClansFrom n 0 k s.schedule.levels) (pair.iterators ∙ sym long) pair.clans.levels in
    let same : IsFactored d P L (rows_of t.schedule.levels) = subst (λ k. IsFactored k P L (rows_of t.schedule.levels)) (sym long) factored in
    let none : length t.schedule.floors ≡ 0 = ap length pair.recoverable.floors in
    let sizes = subst (λ k. All (HasSizes (length t.body.iterators) k n) t.schedule.levels) none shaped.schedule.relation.levels in
    let ranges = formed.schedule.levels in
    let (are, taken, made) = level_script_is_taken n p s.schedule s.schedule.levels t.schedule.levels P L clans same (rows_small t.schedule.levels ranges)
    (forms_of (length t.body.iterators) n t.schedule.levels sizes ranges) in
    record { taken = taken; made = made }
