-- The shifts add the target's parameters and constants.
use Rattle.std.proofs.Common.{◌≡◌, ℤ, pos, ◌+ℤ◌, unsigned_abs, ℕ, zero, suc, ◌+◌, ◌<◌, ◌^◌, true, false, if◌then◌else◌, ◌&&◌, List, [], ◌∷◌, ◌++◌, length, map, refl, sym, ◌∙◌, ap, subst, arith, length-append, append_assoc}
use Rattle.std.specs.Prelude.{slice_set}
use Rattle.std.specs.Ordering.{int_eq}
use Rattle.std.proofs.lemmas.Int.{ints}
use Rattle.row_core.specs.Rows.{add_rows, combined_weight, pair_weight}
use Rattle.scop_data.specs.declared.affines.Affine.{Affine}
use Rattle.scop_data.specs.declared.schedules.Schedule.{Schedule}
use Rattle.scop_core.specs.SolvedRows.{zeros}
use Rattle.scop_core.specs.AffineSums.{moved, move_weight}
use Rattle.clay_script.specs.declared.commands.Command.{Command}
use Rattle.clay_script.specs.declared.commands.Command.TheVariants.{Shift}
use Rattle.clay_commands.specs.Arguments.{place}
use Rattle.clay_commands.specs.Drafts.{form_at}
use Rattle.beta_tree.proofs.Orders.{and_left, and_right}
use Rattle.chlore_recover.specs.Triangles.{is_zero}
use Rattle.chlore_recover.specs.Recoverable.{plain}
use Rattle.chlore_recover.specs.LevelScripts.{shifts}
use Rattle.chlore_recover.specs.Runs.{at_levels, Runs, Small, AreForms}
use Rattle.chlore_recover.proofs.Ends.{int_yes, zero_row}
use Rattle.chlore_recover.proofs.Plains.{runs_append, there_behind, form_behind, set_behind}
use Rattle.chlore_recover.proofs.Skews.{one_abs}

-- the form without parameters and constant
abbrev pub bare : ℕ → Affine → Affine
bare n form = plain n form.iterators

zeros_plus : (n : ℕ) (v : List ℤ) → length v ≡ n → add_rows (zeros n) v ≡ v
zeros_plus zero [] e = refl
zeros_plus zero (z ∷ v) e = absurd (omega arith)
zeros_plus (suc n) [] e = absurd (omega arith)
zeros_plus (suc n) (z ∷ v) e = let a : pos 0 +ℤ z ≡ z = omega (arith, ints) in let b = zeros_plus n v (omega arith) in cc

weight_plus : (n : ℕ) (v : List ℤ) → Small v → combined_weight (pos 1) (zeros n) (pos 1) v < 2 ^ 127
weight_plus zero v s = omega arith
weight_plus (suc n) [] s = omega arith
weight_plus (suc n) (z ∷ v) (h, s) =
    let a = one_abs (pos 0) in
    let b = one_abs z in
    let none : unsigned_abs (pos 0) ≡ 0 = refl in
    let c = weight_plus n v s in
    omega arith

form_of : (n : ℕ) (form : Affine) → form.floors ≡ [] → moved (bare n form) form.parameters form.constant ≡ record { iterators = form.iterators; floors = []; parameters = add_rows (zeros n) form.parameters; constant = pos 0 +ℤ form.constant }
form_of n form e = refl

moved_is : (n : ℕ) (form : Affine) → form.floors ≡ [] → length form.parameters ≡ n → moved (bare n form) form.parameters form.constant ≡ form
moved_is n form e l =
    let c : pos 0 +ℤ form.constant ≡ form.constant = omega (arith, ints) in
    ap (λ q. record { iterators = form.iterators; floors = []; parameters = q; constant = pos 0 +ℤ form.constant }) (zeros_plus n form.parameters l)
    ∙ (ap (λ z. record { iterators = form.iterators; floors = []; parameters = form.parameters; constant = z }) c
    ∙ ap (λ fs. record { iterators = form.iterators; floors = fs; parameters = form.parameters; constant = form.constant }) (sym e))

bare_is : (n : ℕ) (form : Affine) → form.floors ≡ [] → length form.parameters ≡ n → is_zero form.parameters ≡ true → form.constant ≡ pos 0 → bare n form ≡ form
bare_is n form e l z c =
    ap (λ q. record { iterators = form.iterators; floors = []; parameters = q; constant = pos 0 }) (ap zeros (sym l) ∙ sym (zero_row form.parameters z))
    ∙ (ap (λ k. record { iterators = form.iterators; floors = []; parameters = form.parameters; constant = k }) (sym c)
    ∙ ap (λ fs. record { iterators = form.iterators; floors = fs; parameters = form.parameters; constant = form.constant }) (sym e))

shift_run : (n k : ℕ) (p : List ℤ) (a : Schedule) (before after : List Affine) (form : Affine) → length before ≡ k → form.floors ≡ [] → length form.parameters ≡ n → Small form.parameters → unsigned_abs form.constant < 2 ^ 127
    → Runs n (if is_zero form.parameters && int_eq form.constant (pos 0) then [] else Shift p (pos (k + 1)) form.parameters form.constant ∷ []) (at_levels a (before ++ bare n form ∷ after)) (at_levels a (before ++ form ∷ after))
shift_run n k p a before after form e f l s few =
    let levels : List Affine = before ++ bare n form ∷ after in
    elim (is_zero form.parameters && int_eq form.constant (pos 0)) as (λ t. (is_zero form.parameters && int_eq form.constant (pos 0)) ≡ t → Runs n (if t then [] else Shift p (pos (k + 1)) form.parameters form.constant ∷ []) (at_levels a levels) (at_levels a (before ++ form ∷ after))) [
      | true ↦ λ t. ap (λ z. at_levels a (before ++ z ∷ after)) (bare_is n form f l (and_left (is_zero form.parameters) (int_eq form.constant (pos 0)) t) (int_yes form.constant (pos 0) (and_right (is_zero form.parameters) (int_eq form.constant (pos 0)) t)))
      | false ↦ λ t.
          let here : form_at levels (place (pos (k + 1))) ≡ bare n form = form_behind before after (bare n form) k e in
          let w1 = weight_plus n form.parameters s in
          let w2 : pair_weight (pos 1) (pos 0) (pos 1) form.constant < 2 ^ 127 = let x = one_abs (pos 0) in let y = one_abs form.constant in let z : unsigned_abs (pos 0) ≡ 0 = refl in omega arith in
          let weight : move_weight (bare n form) form.parameters form.constant < 2 ^ 127 = omega arith in (
            (there_behind before after (bare n form) k e, l, subst (λ z. move_weight z form.parameters form.constant < 2 ^ 127) (sym here) weight),
            ap (at_levels a) (ap (λ z. slice_set levels (place (pos (k + 1))) (moved z form.parameters form.constant)) here
                ∙ (set_behind before after (bare n form) (moved (bare n form) form.parameters form.constant) k e ∙ ap (λ z. before ++ z ∷ after) (moved_is n form f l))),
          )
    ] refl

length_more : (done : List Affine) (x : Affine) (k : ℕ) → length done ≡ k → length (done ++ x ∷ []) ≡ k + 1
length_more done x k e = let l = length-append done (x ∷ []) in let one : length (x ∷ []) ≡ 1 = refl in omega arith

pub shifts_run : (n k : ℕ) (p : List ℤ) (a : Schedule) (done target : List Affine) → length done ≡ k → AreForms n target
    → Runs n (shifts p (k + 1) target) (at_levels a (done ++ map (bare n) target)) (at_levels a (done ++ target))
shifts_run n k p a done [] e f = refl
shifts_run n k p a done (form ∷ target) e ((f, l, s, few), more) =
    let cs : List Command = if is_zero form.parameters && int_eq form.constant (pos 0) then [] else Shift p (pos (k + 1)) form.parameters form.constant ∷ [] in
    let rest : List Affine = map (bare n) target in
    let first = shift_run n k p a done rest form e f l s few in
    let next = shifts_run n (k + 1) p a (done ++ form ∷ []) target (length_more done form k e) more in
    runs_append n cs (shifts p (k + 1 + 1) target) (at_levels a (done ++ bare n form ∷ rest)) (at_levels a (done ++ form ∷ rest)) (at_levels a (done ++ form ∷ target)) first
    (subst (λ z. Runs n (shifts p (k + 1 + 1) target) (at_levels a z) (at_levels a (done ++ form ∷ target))) (append_assoc done (form ∷ []) rest)
    (subst (λ z. Runs n (shifts p (k + 1 + 1) target) (at_levels a ((done ++ form ∷ []) ++ rest)) (at_levels a z)) (append_assoc done (form ∷ []) target) next))
