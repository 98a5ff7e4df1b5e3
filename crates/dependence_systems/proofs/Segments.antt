-- Rows and points in the columns of a system, cut into pieces of equal lengths.
use Rattle.std.proofs.Common.{◌≡◌, ℕ, zero, suc, ◌+◌, ◌≤◌, List, [], ◌∷◌, ◌++◌, length, take, drop, ℤ, pos, ◌+ℤ◌, refl, ap, sym, ◌∙◌, arith, append_assoc, length-take-le, length-drop}
use Rattle.std.proofs.lemmas.Int.{ints}
use Rattle.std.proofs.lemmas.List.{length-replicate, length-append}
use Rattle.row_core.specs.Rows.{dot}
use Rattle.relation_core.specs.Points.{coordinates}
use Rattle.scop_core.specs.SolvedRows.{zeros}
use Rattle.schedule_forms.proofs.SolvedDots.{dot_append}
use Rattle.dependence_systems.specs.declared.widths.Widths.{Widths}
use Rattle.dependence_systems.specs.declared.widths.Topic.TheVariants.{Context, SourcePart, TargetPart, SourceFloors, TargetFloors}
use Rattle.dependence_systems.specs.Systems.{in_columns, placed}

-- pieces as long as the columns of a system
pub record HasWidths (w : Widths) (s t p q f g : List ℤ) : Type 0 where
  pub source_is : length s ≡ w.source
  pub target_is : length t ≡ w.target
  pub source_part_is : length p ≡ w.source_part
  pub target_part_is : length q ≡ w.target_part
  pub source_floors_is : length f ≡ w.source_floors
  pub target_floors_is : length g ≡ w.target_floors

-- pieces that are appended one by one, and from the last on
pub columns_are : (s t p q f g r : List ℤ) → in_columns s t p q f g r ≡ s ++ (t ++ (p ++ (q ++ (f ++ (g ++ r)))))
columns_are s t p q f g r =
    append_assoc (s ++ t ++ p ++ q ++ f) g r
    ∙ (append_assoc (s ++ t ++ p ++ q) f (g ++ r)
    ∙ (append_assoc (s ++ t ++ p) q (f ++ (g ++ r)) ∙ (append_assoc (s ++ t) p (q ++ (f ++ (g ++ r))) ∙ append_assoc s t (p ++ (q ++ (f ++ (g ++ r)))))))

-- the value of a row in pieces is the sum of the values of its pieces
pub dot_columns : (w : Widths) (s t p q f g r x y l m u v z : List ℤ) → HasWidths w s t p q f g → HasWidths w x y l m u v
    → dot (in_columns s t p q f g r) (in_columns x y l m u v z) ≡ dot s x +ℤ (dot t y +ℤ (dot p l +ℤ (dot q m +ℤ (dot f u +ℤ (dot g v +ℤ dot r z)))))
dot_columns w s t p q f g r x y l m u v z a b =
    let e6 : dot (g ++ r) (v ++ z) ≡ dot g v +ℤ dot r z = dot_append g r v z (a.target_floors_is ∙ sym b.target_floors_is) in
    let e5 : dot (f ++ (g ++ r)) (u ++ (v ++ z)) ≡ dot f u +ℤ dot (g ++ r) (v ++ z) = dot_append f (g ++ r) u (v ++ z) (a.source_floors_is ∙ sym b.source_floors_is) in
    let e4 : dot (q ++ (f ++ (g ++ r))) (m ++ (u ++ (v ++ z))) ≡ dot q m +ℤ dot (f ++ (g ++ r)) (u ++ (v ++ z))
    = dot_append q (f ++ (g ++ r)) m (u ++ (v ++ z)) (a.target_part_is ∙ sym b.target_part_is) in
    let e3 : dot (p ++ (q ++ (f ++ (g ++ r)))) (l ++ (m ++ (u ++ (v ++ z)))) ≡ dot p l +ℤ dot (q ++ (f ++ (g ++ r))) (m ++ (u ++ (v ++ z)))
    = dot_append p (q ++ (f ++ (g ++ r))) l (m ++ (u ++ (v ++ z))) (a.source_part_is ∙ sym b.source_part_is) in
    let e2 : dot (t ++ (p ++ (q ++ (f ++ (g ++ r))))) (y ++ (l ++ (m ++ (u ++ (v ++ z))))) ≡ dot t y +ℤ dot (p ++ (q ++ (f ++ (g ++ r)))) (l ++ (m ++ (u ++ (v ++ z))))
    = dot_append t (p ++ (q ++ (f ++ (g ++ r)))) y (l ++ (m ++ (u ++ (v ++ z)))) (a.target_is ∙ sym b.target_is) in
    let e1 : dot (s ++ (t ++ (p ++ (q ++ (f ++ (g ++ r)))))) (x ++ (y ++ (l ++ (m ++ (u ++ (v ++ z))))))
    ≡ dot s x +ℤ dot (t ++ (p ++ (q ++ (f ++ (g ++ r))))) (y ++ (l ++ (m ++ (u ++ (v ++ z)))))
    = dot_append s (t ++ (p ++ (q ++ (f ++ (g ++ r))))) x (y ++ (l ++ (m ++ (u ++ (v ++ z))))) (a.source_is ∙ sym b.source_is) in
    ap (λ c. dot c (in_columns x y l m u v z)) (columns_are s t p q f g r) ∙ (ap (λ c. dot (s ++ (t ++ (p ++ (q ++ (f ++ (g ++ r)))))) c) (columns_are x y l m u v z) ∙ (e1 ∙ ap (λ k. dot s x +ℤ k) (e2 ∙ ap (λ k. dot t y +ℤ k) (e3 ∙ ap (λ k. dot p l +ℤ k) (e4 ∙ ap (λ k. dot q m +ℤ k) (e5 ∙ ap (λ k. dot f u +ℤ k) e6))))))

-- the coordinates of a system whose locals are four pieces
pub coordinates_are : (x y l m u v n : List ℤ) → coordinates x y (l ++ (m ++ (u ++ v))) n ≡ in_columns x y l m u v (n ++ pos 1 ∷ [])
coordinates_are x y l m u v n =
    ap (λ t. x ++ (y ++ t)) (append_assoc l (m ++ (u ++ v)) (n ++ pos 1 ∷ [])
    ∙ ap (λ t. l ++ t) (append_assoc m (u ++ v) (n ++ pos 1 ∷ []) ∙ ap (λ t. m ++ t) (append_assoc u v (n ++ pos 1 ∷ []))))
    ∙ sym (columns_are x y l m u v (n ++ pos 1 ∷ []))

pub dot_zeros : (k : ℕ) (v : List ℤ) → dot (zeros k) v ≡ pos 0
dot_zeros zero v = refl
dot_zeros (suc k) [] = refl
dot_zeros (suc k) (x ∷ v) = let rest : dot (zeros k) v ≡ pos 0 = dot_zeros k v in omega (arith, ints)

pub length_zeros : (k : ℕ) → length (zeros k) ≡ k
length_zeros k = length-replicate k (pos 0)

-- a row cut where a point is
pub dot_cut : (row x v : List ℤ) (k : ℕ) → length x ≡ k → dot row (x ++ v) ≡ dot (take k row) x +ℤ dot (drop k row) v
dot_cut row [] v zero e = omega (arith, ints)
dot_cut row [] v (suc k) e = absurd (omega (arith, e))
dot_cut row (c ∷ x) v zero e = absurd (omega (arith, e))
dot_cut [] (c ∷ x) v (suc k) e = omega (arith, ints)
dot_cut (r ∷ row) (c ∷ x) v (suc k) e =
    let rest : dot row (x ++ v) ≡ dot (take k row) x +ℤ dot (drop k row) v = dot_cut row x v k (omega (arith, e)) in omega (arith, ints)

-- a row cut into iterators, locals and the rest
pub dot_cut_twice : (row x l z : List ℤ) (i k : ℕ) → length x ≡ i → length l ≡ k
    → dot row (x ++ (l ++ z)) ≡ dot (take i row) x +ℤ (dot (take k (drop i row)) l +ℤ dot (drop k (drop i row)) z)
dot_cut_twice row x l z i k e f =
    dot_cut row x (l ++ z) i e
    ∙ ap (λ d. dot (take i row) x +ℤ d) (dot_cut (drop i row) l z k f)

-- lengths of a row's pieces
pub front_length : (row : List ℤ) (i k : ℕ) → i + k ≤ length row → length (take i row) ≡ i
front_length row i k h = length-take-le i row (omega arith)

pub middle_length : (row : List ℤ) (i k : ℕ) → i + k ≤ length row → length (take k (drop i row)) ≡ k
middle_length row i k h = length-take-le k (drop i row) (omega (arith, length-drop i row))

-- the pieces of a placed row are as long as the columns
pub context_sizes : (w : Widths) (row : List ℤ) → HasWidths w (zeros w.source) (zeros w.target) (zeros w.source_part) (zeros w.target_part) (zeros w.source_floors) (zeros w.target_floors)
context_sizes w row = record {
  source_is = length_zeros w.source;
  target_is = length_zeros w.target;
  source_part_is = length_zeros w.source_part;
  target_part_is = length_zeros w.target_part;
  source_floors_is = length_zeros w.source_floors;
  target_floors_is = length_zeros w.target_floors;
}

pub source_part_sizes : (w : Widths) (row : List ℤ) → w.source + w.source_part ≤ length row
    → HasWidths w (take w.source row) (zeros w.target) (take w.source_part (drop w.source row)) (zeros w.target_part) (zeros w.source_floors) (zeros w.target_floors)
source_part_sizes w row h = record {
  source_is = front_length row w.source w.source_part h;
  target_is = length_zeros w.target;
  source_part_is = middle_length row w.source w.source_part h;
  target_part_is = length_zeros w.target_part;
  source_floors_is = length_zeros w.source_floors;
  target_floors_is = length_zeros w.target_floors;
}

pub target_part_sizes : (w : Widths) (row : List ℤ) → w.target + w.target_part ≤ length row
    → HasWidths w (zeros w.source) (take w.target row) (zeros w.source_part) (take w.target_part (drop w.target row)) (zeros w.source_floors) (zeros w.target_floors)
target_part_sizes w row h = record {
  source_is = length_zeros w.source;
  target_is = front_length row w.target w.target_part h;
  source_part_is = length_zeros w.source_part;
  target_part_is = middle_length row w.target w.target_part h;
  source_floors_is = length_zeros w.source_floors;
  target_floors_is = length_zeros w.target_floors;
}

pub source_floors_sizes : (w : Widths) (row : List ℤ) → w.source + w.source_floors ≤ length row
    → HasWidths w (take w.source row) (zeros w.target) (zeros w.source_part) (zeros w.target_part) (take w.source_floors (drop w.source row)) (zeros w.target_floors)
source_floors_sizes w row h = record {
  source_is = front_length row w.source w.source_floors h;
  target_is = length_zeros w.target;
  source_part_is = length_zeros w.source_part;
  target_part_is = length_zeros w.target_part;
  source_floors_is = middle_length row w.source w.source_floors h;
  target_floors_is = length_zeros w.target_floors;
}

pub target_floors_sizes : (w : Widths) (row : List ℤ) → w.target + w.target_floors ≤ length row
    → HasWidths w (zeros w.source) (take w.target row) (zeros w.source_part) (zeros w.target_part) (zeros w.source_floors) (take w.target_floors (drop w.target row))
target_floors_sizes w row h = record {
  source_is = length_zeros w.source;
  target_is = front_length row w.target w.target_floors h;
  source_part_is = length_zeros w.source_part;
  target_part_is = length_zeros w.target_part;
  source_floors_is = length_zeros w.source_floors;
  target_floors_is = middle_length row w.target w.target_floors h;
}

-- the value of a placed row is that of the row at the point's pieces of which it speaks
pub context_value : (w : Widths) (row x y l m u v z : List ℤ) → HasWidths w x y l m u v
    → dot (placed Context w row) (in_columns x y l m u v z) ≡ dot row z
context_value w row x y l m u v z at =
    let sizes = context_sizes w row in
    let sum = dot_columns w _ _ _ _ _ _ row x y l m u v z sizes at in
    omega (arith, ints, dot_zeros w.source x, dot_zeros w.target y, dot_zeros w.source_part l, dot_zeros w.target_part m, dot_zeros w.source_floors u, dot_zeros w.target_floors v)

pub source_part_value : (w : Widths) (row x y l m u v z : List ℤ) → w.source + w.source_part ≤ length row → HasWidths w x y l m u v
    → dot (placed SourcePart w row) (in_columns x y l m u v z) ≡ dot row (x ++ (l ++ z))
source_part_value w row x y l m u v z h at =
    let sizes = source_part_sizes w row h in
    let sum = dot_columns w _ _ _ _ _ _ (drop w.source_part (drop w.source row)) x y l m u v z sizes at in
    omega (arith, ints, dot_cut_twice row x l z w.source w.source_part at.source_is at.source_part_is, dot_zeros w.target y, dot_zeros w.target_part m, dot_zeros w.source_floors u, dot_zeros w.target_floors v)

pub target_part_value : (w : Widths) (row x y l m u v z : List ℤ) → w.target + w.target_part ≤ length row → HasWidths w x y l m u v
    → dot (placed TargetPart w row) (in_columns x y l m u v z) ≡ dot row (y ++ (m ++ z))
target_part_value w row x y l m u v z h at =
    let sizes = target_part_sizes w row h in
    let sum = dot_columns w _ _ _ _ _ _ (drop w.target_part (drop w.target row)) x y l m u v z sizes at in
    omega (arith, ints, dot_cut_twice row y m z w.target w.target_part at.target_is at.target_part_is, dot_zeros w.source x, dot_zeros w.source_part l, dot_zeros w.source_floors u, dot_zeros w.target_floors v)

pub source_floors_value : (w : Widths) (row x y l m u v z : List ℤ) → w.source + w.source_floors ≤ length row → HasWidths w x y l m u v
    → dot (placed SourceFloors w row) (in_columns x y l m u v z) ≡ dot row (x ++ (u ++ z))
source_floors_value w row x y l m u v z h at =
    let sizes = source_floors_sizes w row h in
    let sum = dot_columns w _ _ _ _ _ _ (drop w.source_floors (drop w.source row)) x y l m u v z sizes at in
    omega (arith, ints, dot_cut_twice row x u z w.source w.source_floors at.source_is at.source_floors_is, dot_zeros w.target y, dot_zeros w.source_part l, dot_zeros w.target_part m, dot_zeros w.target_floors v)

pub target_floors_value : (w : Widths) (row x y l m u v z : List ℤ) → w.target + w.target_floors ≤ length row → HasWidths w x y l m u v
    → dot (placed TargetFloors w row) (in_columns x y l m u v z) ≡ dot row (y ++ (v ++ z))
target_floors_value w row x y l m u v z h at =
    let sizes = target_floors_sizes w row h in
    let sum = dot_columns w _ _ _ _ _ _ (drop w.target_floors (drop w.target row)) x y l m u v z sizes at in
    omega (arith, ints, dot_cut_twice row y v z w.target w.target_floors at.target_is at.target_floors_is, dot_zeros w.source x, dot_zeros w.source_part l, dot_zeros w.target_part m, dot_zeros w.source_floors u)

-- how long a row in pieces is
pub columns_length : (w : Widths) (s t p q f g r : List ℤ) → HasWidths w s t p q f g
    → length (in_columns s t p q f g r) ≡ (w.source + w.target + (w.source_part + w.target_part + w.source_floors + w.target_floors)) + length r
columns_length w s t p q f g r at =
    omega (
      arith,
      length-append (s ++ t ++ p ++ q ++ f ++ g) r,
      length-append (s ++ t ++ p ++ q ++ f) g,
      length-append (s ++ t ++ p ++ q) f,
      length-append (s ++ t ++ p) q,
      length-append (s ++ t) p,
      length-append s t,
      at.source_is,
      at.target_is,
      at.source_part_is,
      at.target_part_is,
      at.source_floors_is,
      at.target_floors_is,
    )
