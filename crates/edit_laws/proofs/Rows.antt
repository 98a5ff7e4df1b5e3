-- Values of forms and floors where there is one more floor.
use Rattle.std.proofs.Common.{◌≡◌, ℕ, zero, suc, ◌+◌, ◌≤◌, List, [], ◌∷◌, ◌++◌, length, map, ℤ, pos, neg_ℤ, ◌+ℤ◌, ◌*ℤ◌, refl, ap, ◌∙◌, arith}
use Rattle.std.proofs.lemmas.Int.{ints}
use Rattle.std.proofs.lemmas.List.{length-append, length-replicate}
use Rattle.row_core.specs.Rows.{dot, add_rows, scale}
use Rattle.row_core.specs.Linear.{dot_add, dot_scale, mul_add_z}
use Rattle.scop_data.specs.declared.affines.Affine.{Affine}
use Rattle.scop_data.specs.declared.schedules.Floor.{Floor}
use Rattle.scop_core.specs.AffineSums.{plus_multiple, moved, negative, widened, last_floor}
use Rattle.scop_core.specs.Meaning.{affine_at, floor_of, floors_after}
use Rattle.scop_core.specs.SolvedRows.{zeros}
use Rattle.schedule_forms.proofs.SolvedDots.{dot_append, dot_negative}
use Rattle.clay_commands.specs.Drafts.{widened_floor}

-- a 0 at the end changes no value
dot_more : (r v : List ℤ) → dot (r ++ pos 0 ∷ []) v ≡ dot r v
dot_more [] [] = refl
dot_more [] (x ∷ v) = omega (arith, ints)
dot_more (c ∷ r) [] = refl
dot_more (c ∷ r) (x ∷ v) = ap (λ z. (c *ℤ x) +ℤ z) (dot_more r v)

-- a row reads no more of a point than its length
dot_within : (r v w : List ℤ) → length r ≤ length v → dot r (v ++ w) ≡ dot r v
dot_within [] v w l = refl
dot_within (c ∷ r) [] w l = absurd (omega arith)
dot_within (c ∷ r) (x ∷ v) w l = ap (λ z. (c *ℤ x) +ℤ z) (dot_within r v w (omega arith))

pub dot_zeros : (m : ℕ) (v : List ℤ) → dot (zeros m) v ≡ pos 0
dot_zeros zero v = refl
dot_zeros (suc m) [] = refl
dot_zeros (suc m) (x ∷ v) = let rest : dot (zeros m) v ≡ pos 0 = dot_zeros m v in omega (arith, ints)

pub widened_value : (f : Affine) (x F n : List ℤ) → affine_at (widened f) x F n ≡ affine_at f x F n
widened_value f x F n = ap (λ z. ((dot f.iterators x +ℤ z) +ℤ dot f.parameters n) +ℤ f.constant) (dot_more f.floors F)

pub widened_level : (f : Affine) (x F n : List ℤ) (g : ℤ) → length f.floors ≡ length F → affine_at (widened f) x (F ++ g ∷ []) n ≡ affine_at f x F n
widened_level f x F n g e =
    widened_value f x (F ++ g ∷ []) n
    ∙ ap (λ z. ((dot f.iterators x +ℤ z) +ℤ dot f.parameters n) +ℤ f.constant) (dot_within f.floors F (g ∷ []) (omega (arith, e)))

pub last_value : (f : Affine) (x F n : List ℤ) (g : ℤ) → length f.floors ≡ length F → affine_at (last_floor f) x (F ++ g ∷ []) n ≡ g
last_value f x F n g e =
    let a : dot (zeros (length f.iterators)) x ≡ pos 0 = dot_zeros (length f.iterators) x in
    let p : dot (zeros (length f.parameters)) n ≡ pos 0 = dot_zeros (length f.parameters) n in
    let z : dot (zeros (length f.floors)) F ≡ pos 0 = dot_zeros (length f.floors) F in
    let b : dot (zeros (length f.floors) ++ pos 1 ∷ []) (F ++ g ∷ []) ≡ dot (zeros (length f.floors)) F +ℤ dot (pos 1 ∷ []) (g ∷ []) =
    dot_append (zeros (length f.floors)) (pos 1 ∷ []) F (g ∷ []) (length-replicate (length f.floors) (pos 0) ∙ e) in
    omega (arith, ints)

-- the floors, and one more
pub floors_more : (e : List ℤ) (fs : List Floor) (f : Floor) (x n : List ℤ)
    → floors_after e (map widened_floor fs ++ f ∷ []) x n ≡ floors_after e fs x n ++ floor_of (affine_at f.value x (floors_after e fs x n) n) f.size ∷ []
floors_more e [] f x n = refl
floors_more e (h ∷ fs) f x n =
    ap (λ v. floors_after (e ++ floor_of v h.size ∷ []) (map widened_floor fs ++ f ∷ []) x n) (widened_value h.value x e n)
    ∙ floors_more (e ++ floor_of (affine_at h.value x e n) h.size ∷ []) fs f x n

pub floors_count : (e : List ℤ) (fs : List Floor) (x n : List ℤ) → length (floors_after e fs x n) ≡ length e + length fs
floors_count e [] x n = omega arith
floors_count e (h ∷ fs) x n =
    let v = floor_of (affine_at h.value x e n) h.size in
    floors_count (e ++ v ∷ []) fs x n ∙ omega (arith, length-append e (v ∷ []))

-- sums, moved forms and negatives
pub sum_value : (a b : Affine) (q : ℤ) (x F n : List ℤ) → affine_at (plus_multiple a q b) x F n ≡ affine_at a x F n +ℤ (q *ℤ affine_at b x F n)
sum_value a b q x F n =
    let i : dot (add_rows a.iterators (scale q b.iterators)) x ≡ dot a.iterators x +ℤ (q *ℤ dot b.iterators x) =
    dot_add a.iterators (scale q b.iterators) x ∙ ap (λ z. dot a.iterators x +ℤ z) (dot_scale q b.iterators x) in
    let f : dot (add_rows a.floors (scale q b.floors)) F ≡ dot a.floors F +ℤ (q *ℤ dot b.floors F) =
    dot_add a.floors (scale q b.floors) F ∙ ap (λ z. dot a.floors F +ℤ z) (dot_scale q b.floors F) in
    let p : dot (add_rows a.parameters (scale q b.parameters)) n ≡ dot a.parameters n +ℤ (q *ℤ dot b.parameters n) =
    dot_add a.parameters (scale q b.parameters) n ∙ ap (λ z. dot a.parameters n +ℤ z) (dot_scale q b.parameters n) in
    omega (
      arith,
      ints,
      mul_add_z q (dot b.iterators x) (dot b.floors F),
      mul_add_z q (dot b.iterators x +ℤ dot b.floors F) (dot b.parameters n),
      mul_add_z q ((dot b.iterators x +ℤ dot b.floors F) +ℤ dot b.parameters n) b.constant,
    )

pub moved_value : (a : Affine) (v : List ℤ) (c : ℤ) (x F n : List ℤ) → affine_at (moved a v c) x F n ≡ (affine_at a x F n +ℤ dot v n) +ℤ c
moved_value a v c x F n = omega (arith, ints, dot_add a.parameters v n)

pub negative_value : (a : Affine) (x F n : List ℤ) → affine_at (negative a) x F n ≡ neg_ℤ (affine_at a x F n)
negative_value a x F n = omega (arith, ints, dot_negative a.iterators x, dot_negative a.floors F, dot_negative a.parameters n)
