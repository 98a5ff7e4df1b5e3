-- Single commands on levels.
use Rattle.std.proofs.Common.{◌≡◌, ℤ, pos, negsuc, neg_ℤ, ◌*ℤ◌, int_le, ℕ, zero, suc, ◌+◌, ◌<◌, ◌≤◌, true, inl, inr, List, [], ◌∷◌, ◌++◌, length, map, refl, sym, ◌∙◌, ap, subst, arith, length-append}
use Rattle.std.specs.Prelude.{slice_set}
use Rattle.std.proofs.lemmas.Int.{ints}
use Rattle.std.proofs.Math.Seq.{get_or-append_seam, set-append_seam}
use Rattle.beta_tree.proofs.Places.{bool_tells}
use Rattle.row_core.specs.Rows.{scale}
use Rattle.scop_data.specs.declared.affines.Affine.{Affine}
use Rattle.scop_data.specs.declared.schedules.Schedule.{Schedule}
use Rattle.scop_core.specs.SolvedRows.{zeros}
use Rattle.scop_core.specs.AffineSums.{negative}
use Rattle.clay_script.specs.declared.commands.Command.{Command}
use Rattle.clay_script.specs.declared.commands.Command.TheVariants.{Reverse}
use Rattle.clay_commands.specs.Arguments.{place}
use Rattle.clay_commands.specs.Drafts.{no_form, form_at, forms_after}
use Rattle.chlore_recover.specs.Triangles.{IsSign}
use Rattle.chlore_recover.specs.Recoverable.{plain}
use Rattle.chlore_recover.specs.LevelScripts.{reverse_where}
use Rattle.chlore_recover.specs.Runs.{at_levels, is_level, Runs}

pub runs_append : (n : ℕ) (cs ds : List Command) (a b e : Schedule) → Runs n cs a b → Runs n ds b e → Runs n (cs ++ ds) a e
runs_append n [] ds a b e r s = subst (λ z. Runs n ds z e) (sym r) s
runs_append n (c ∷ cs) ds a b e (h, r) s = (h, runs_append n cs ds (forms_after c a) b e r s)

-- the level behind some others

int_le_pos : (i j : ℕ) → i ≤ j → int_le (pos i) (pos j) ≡ true
int_le_pos i j l = elim (bool_tells (int_le (pos i) (pos j))) [ inl t ↦ t | inr f ↦ absurd (omega (arith, ints)) ]

pub level_there : (k : ℕ) (levels : List Affine) → k < length levels → is_level (pos (k + 1)) levels ≡ true
level_there k levels l = rw (int_le_pos 1 (k + 1) (omega arith)) (int_le_pos (k + 1) (length levels) (omega arith))

pub form_behind : (before after : List Affine) (form : Affine) (k : ℕ) → length before ≡ k → form_at (before ++ form ∷ after) (place (pos (k + 1))) ≡ form
form_behind before after form k e =
    let s : place (pos (k + 1)) ≡ length before = omega arith in
    ap (form_at (before ++ form ∷ after)) s ∙ get_or-append_seam before form after no_form

pub set_behind : (before after : List Affine) (form new : Affine) (k : ℕ) → length before ≡ k → slice_set (before ++ form ∷ after) (place (pos (k + 1))) new ≡ before ++ new ∷ after
set_behind before after form new k e =
    let s : place (pos (k + 1)) ≡ length before = omega arith in
    ap (λ i. slice_set (before ++ form ∷ after) i new) s ∙ set-append_seam before form after new

pub there_behind : (before after : List Affine) (form : Affine) (k : ℕ) → length before ≡ k → is_level (pos (k + 1)) (before ++ form ∷ after) ≡ true
there_behind before after form k e = level_there k (before ++ form ∷ after) (let l = length-append before (form ∷ after) in let m : length (form ∷ after) ≡ length after + 1 = omega arith in omega arith)

-- reverse

pub negative_zeros : (n : ℕ) → map neg_ℤ (zeros n) ≡ zeros n
negative_zeros zero = refl
negative_zeros (suc n) = ap (λ r. pos 0 ∷ r) (negative_zeros n)

pub negative_scale : (row : List ℤ) → map neg_ℤ row ≡ scale (negsuc 0) row
negative_scale [] = refl
negative_scale (z ∷ row) = let a : neg_ℤ z ≡ negsuc 0 *ℤ z = omega (arith, ints) in let b = negative_scale row in cc

pub negative_plain : (n : ℕ) (row : List ℤ) → negative (plain n row) ≡ plain n (scale (negsuc 0) row)
negative_plain n row =
    ap (λ r. record { iterators = r; floors = []; parameters = map neg_ℤ (zeros n); constant = pos 0 }) (negative_scale row)
    ∙ ap (λ q. record { iterators = scale (negsuc 0) row; floors = []; parameters = q; constant = pos 0 }) (negative_zeros n)

pub reverse_runs : (n k : ℕ) (p : List ℤ) (a : Schedule) (before after : List Affine) (row : List ℤ) → length before ≡ k
    → Runs n (Reverse p (pos (k + 1)) ∷ []) (at_levels a (before ++ plain n row ∷ after)) (at_levels a (before ++ plain n (scale (negsuc 0) row) ∷ after))
reverse_runs n k p a before after row e = (
  there_behind before after (plain n row) k e,
  ap (λ levels. at_levels a levels)
      (ap (λ form. slice_set (before ++ plain n row ∷ after) (place (pos (k + 1))) (negative form)) (form_behind before after (plain n row) k e)
      ∙ (set_behind before after (plain n row) (negative (plain n row)) k e ∙ ap (λ form. before ++ form ∷ after) (negative_plain n row))),
)

pub scale_one : (row : List ℤ) → scale (pos 1) row ≡ row
scale_one [] = refl
scale_one (z ∷ row) = let a : pos 1 *ℤ z ≡ z = omega (arith, ints) in let b = scale_one row in cc

-- a reverse where the sign is -1 multiplies by the sign
pub reverse_where_runs : (n k : ℕ) (g : ℤ) (p : List ℤ) (a : Schedule) (before after : List Affine) (row : List ℤ) → IsSign g → length before ≡ k
    → Runs n (reverse_where g p (k + 1)) (at_levels a (before ++ plain n row ∷ after)) (at_levels a (before ++ plain n (scale g row) ∷ after))
reverse_where_runs n k g p a before after row (inl e) l =
    subst (λ h. Runs n (reverse_where h p (k + 1)) (at_levels a (before ++ plain n row ∷ after)) (at_levels a (before ++ plain n (scale h row) ∷ after))) (sym e)
    (ap (λ r. at_levels a (before ++ plain n r ∷ after)) (sym (scale_one row)))
reverse_where_runs n k g p a before after row (inr e) l =
    subst (λ h. Runs n (reverse_where h p (k + 1)) (at_levels a (before ++ plain n row ∷ after)) (at_levels a (before ++ plain n (scale h row) ∷ after))) (sym e)
    (reverse_runs n k p a before after row l)
