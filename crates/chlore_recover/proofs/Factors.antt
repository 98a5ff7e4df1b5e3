-- Rows that end apart are a signed permutation times a unit lower triangle, and such a product ends apart.
use Rattle.std.proofs.Common.{◌≡◌, ℤ, pos, ◌*ℤ◌, ℕ, zero, suc, ◌+◌, ◌-◌, ◌<◌, ◌≤◌, ◌==◌, true, false, if◌then◌else◌, not, ◌&&◌, inl, inr, List, [], ◌∷◌, ◌++◌, length, map, take, get_or, refl, sym, ◌∙◌, ap, subst, arith}
use Rattle.std.specs.List.{list_any, range_with_len, IsDistinct}
use Rattle.std.proofs.Math.Dec.{eqb}
use Rattle.std.proofs.lemmas.Int.{ints}
use Rattle.std.proofs.lemmas.Bool.{eqb-true, eqb-false}
use Rattle.std.proofs.lemmas.List.{length-map, ext_get_or}
use Rattle.std.proofs.lemmas.List.FromFn.{get_or-map-range_with_len, length-map-range_with_len}
use Rattle.std.proofs.lemmas.Map.Steps.{length-le_from_distinct_below}
use Rattle.beta_tree.specs.Vectors.{In}
use Rattle.beta_tree.specs.Edits.{place_of, has_all_below, is_permutation_of}
use Rattle.beta_tree.proofs.Distinct.{member_from_In, In_from_member, distinct-cons, distinct-nil}
use Rattle.beta_tree.proofs.Places.{bool_tells, same_yes, In-map}
use Rattle.beta_tree.proofs.Orders.{and_left, and_right, Orders, orders_of_test, entry_at, entry_at_place, place_below, place_of_entry, entry_below}
use Rattle.row_core.specs.Rows.{scale}
use Rattle.scop_core.specs.SolvedRows.{zeros}
use Rattle.chlore_recover.specs.Triangles.{IsTriangleFrom, IsTriangle, IsSign, AreLong, Signed, AreSigned, IsSignedPermutation, product, is_sign, last_value, last_place, differ, end_in_signs, leads, row_ending_at}
use Rattle.chlore_recover.specs.Recoverable.{ends_apart, triangle_of}
use Rattle.chlore_recover.specs.Laws.{ApartIsFactored, FactoredIsApart}
use Rattle.chlore_recover.proofs.Ends.{EndsAt, last_ends, ends_last, ends_below, ends_shape, shape_ends, zeros_zero, sign_some, sign_of_test, test_of_sign, sign_square, scale_twice, length_scale, scale_ends}

-- numbers that differ

pub distinct_of : (ks : List ℕ) → differ ks ≡ true → IsDistinct eqb ks
distinct_of [] h = distinct-nil eqb eqb-true same_yes
distinct_of (k ∷ ks) h =
    elim (list_any (eqb k) ks) as (λ t. list_any (eqb k) ks ≡ t → (not t && differ ks) ≡ true → IsDistinct eqb (k ∷ ks)) [
      | true ↦ λ e g. absurd (cc)
      | false ↦ λ e g. distinct-cons eqb eqb-true same_yes k ks e (distinct_of ks g)
    ] refl h

pub has_all_from : (n : ℕ) (ks : List ℕ) → ((k : ℕ) → k < n → list_any (eqb k) ks ≡ true) → has_all_below n ks ≡ true
has_all_from zero ks h = refl
has_all_from (suc n) ks h = rw (h n (omega arith)) (has_all_from n ks (λ k l. h k (omega arith)))

-- d numbers below d that differ are all of them
pub all_of_distinct : (d : ℕ) (ks : List ℕ) → length ks ≡ d → differ ks ≡ true → ((q : ℕ) → In q ks → q < d) → is_permutation_of d ks ≡ true
all_of_distinct d ks long apart below =
    let all : has_all_below d ks ≡ true = has_all_from d ks (λ k l. elim (bool_tells (list_any (eqb k) ks)) [
      | inl t ↦ t
      | inr f ↦
          let more : length (k ∷ ks) ≤ d = length-le_from_distinct_below (k ∷ ks) d (distinct-cons eqb eqb-true same_yes k ks f (distinct_of ks apart))
          (λ q h. elim (In_from_member eqb eqb-true same_yes q (k ∷ ks) h) [ inl e ↦ let s : k ≡ q = e in omega arith | inr i ↦ below q i ]) in
          absurd (omega arith)
    ]) in
    rw (long, same_yes d) all

differ_from : (ks : List ℕ) → ((i : ℕ) → i < length ks → place_of (entry_at ks i) ks ≡ i) → differ ks ≡ true
differ_from [] h = refl
differ_from (x ∷ ks) h =
    let fresh : list_any (eqb x) ks ≡ false = elim (bool_tells (list_any (eqb x) ks)) [
      | inr f ↦ f
      | inl t ↦
          let i : In x ks = In_from_member eqb eqb-true same_yes x ks t in
          let l = place_below x ks i in
          let e : place_of (entry_at ks (place_of x ks)) (x ∷ ks) ≡ suc (place_of x ks) = h (suc (place_of x ks)) (omega arith) in
          let g : place_of x (x ∷ ks) ≡ suc (place_of x ks) = subst (λ z. place_of z (x ∷ ks) ≡ suc (place_of x ks)) (entry_at_place x ks i) e in
          let first : place_of x (x ∷ ks) ≡ 0 = rw (same_yes x) refl in
          absurd (omega arith)
    ] in
    rw fresh (differ_from ks (λ i l.
    elim (x == entry_at ks i) as (λ t. (if t then 0 else place_of (entry_at ks i) ks + 1) ≡ suc i → place_of (entry_at ks i) ks ≡ i) [ true ↦ λ e. absurd (omega arith) | false ↦ λ e. omega arith ] (h (suc i) (omega arith))))

pub differ_of_order : (d : ℕ) (ks : List ℕ) → Orders d ks → differ ks ≡ true
differ_of_order d ks o = differ_from ks (λ i l. place_of_entry d ks o i (let e = o.long in omega arith))

pub below_of_order : (d : ℕ) (ks : List ℕ) → Orders d ks → (k : ℕ) → In k ks → k < d
below_of_order d ks o k i =
    let l = place_below k ks i in
    let e = o.long in
    subst (λ z. z < d) (entry_at_place k ks i) (entry_below d ks o (place_of k ks) (omega arith))

-- rows that end apart

pub places_of_leads : (rows : List (List ℤ)) → map (λ e. e.0) (leads rows) ≡ map last_place rows
places_of_leads [] = refl
places_of_leads (row ∷ rows) = ap (λ t. last_place row ∷ t) (places_of_leads rows)

pub signed_of_test : (rows : List (List ℤ)) → end_in_signs rows ≡ true → AreSigned (leads rows)
signed_of_test [] h = tt
signed_of_test (row ∷ rows) h =
    (sign_of_test (last_value row) (and_left (is_sign (last_value row)) (end_in_signs rows) h), signed_of_test rows (and_right (is_sign (last_value row)) (end_in_signs rows) h))

test_of_signed : (rows : List (List ℤ)) → AreSigned (leads rows) → end_in_signs rows ≡ true
test_of_signed [] h = refl
test_of_signed (row ∷ rows) (s, h) = rw (test_of_sign (last_value row) s) (test_of_signed rows h)

pub places_below : (d : ℕ) (rows : List (List ℤ)) → AreLong d rows → AreSigned (leads rows) → (q : ℕ) → In q (map last_place rows) → q < d
places_below d [] l s q i = absurd i
places_below d (row ∷ rows) (l, more) (s, signs) q (inl e) =
    let h = ends_below row (last_place row) (last_value row) (last_ends row (sign_some (last_value row) s)) in
    omega arith
places_below d (row ∷ rows) (l, more) (s, signs) q (inr i) = places_below d rows more signs q i

-- the row that ends at a place
ending_is : (d i : ℕ) (rows : List (List ℤ)) → AreLong d rows → AreSigned (leads rows) → In i (map last_place rows) → (length (row_ending_at i rows) ≡ d) × EndsAt (row_ending_at i rows) i (pos 1)
ending_is d i [] l s h = absurd h
ending_is d i (row ∷ rows) (l, more) (s, signs) h =
    elim (last_place row == i) as (λ t. (last_place row == i) ≡ t → (length (if t then scale (last_value row) row else row_ending_at i rows) ≡ d) × EndsAt (if t then scale (last_value row) row else row_ending_at i rows) i (pos 1)) [
      | true ↦ λ e.
          let ends : EndsAt (scale (last_value row) row) (last_place row) (last_value row *ℤ last_value row) = scale_ends (last_value row) row (last_place row) (last_value row) (last_ends row (sign_some (last_value row) s)) in (
            length_scale (last_value row) row ∙ l,
            subst (λ k. EndsAt (scale (last_value row) row) k (pos 1)) (eqb-true (last_place row) i e) (subst (λ g. EndsAt (scale (last_value row) row) (last_place row) g) (sign_square (last_value row) s) ends),
          )
      | false ↦ λ e. elim h [ inl same ↦ absurd (eqb-false (last_place row) i e same) | inr k ↦ ending_is d i rows more signs k ]
    ] refl

triangle_from : (d i n : ℕ) (rows : List (List ℤ)) → i + n ≡ d → AreLong d rows → AreSigned (leads rows) → ((k : ℕ) → k < d → In k (map last_place rows)) → IsTriangleFrom i d (map (λ k. row_ending_at k rows) (range_with_len i n))
triangle_from d i zero rows e l s all = omega arith
triangle_from d i (suc n) rows e l s all =
    let (long, ends) = ending_is d i rows l s (all i (omega arith)) in
    let shape = ends_shape (row_ending_at i rows) i (pos 1) ends in
    (long, shape ∙ ap (λ m. take i (row_ending_at i rows) ++ pos 1 ∷ zeros (m - (i + 1))) long, triangle_from d (i + 1) n rows (omega arith) l s all)

pub found : (rows : List (List ℤ)) (row : List ℤ) → differ (map last_place rows) ≡ true → In row rows → row_ending_at (last_place row) rows ≡ scale (last_value row) row
found [] row h i = absurd i
found (r ∷ rows) row h (inl e) = subst (λ z. row_ending_at (last_place z) (r ∷ rows) ≡ scale (last_value z) z) e (rw (same_yes (last_place r)) refl)
found (r ∷ rows) row h (inr i) =
    let fresh = and_left (not (list_any (eqb (last_place r)) (map last_place rows))) (differ (map last_place rows)) h in
    let more = and_right (not (list_any (eqb (last_place r)) (map last_place rows))) (differ (map last_place rows)) h in
    elim (bool_tells (last_place r == last_place row)) [
      | inl t ↦
          let same : last_place row ≡ last_place r = sym (eqb-true (last_place r) (last_place row) t) in
          let has : list_any (eqb (last_place r)) (map last_place rows) ≡ true = member_from_In eqb eqb-true same_yes (last_place r) (map last_place rows) (subst (λ z. In z (map last_place rows)) same (In-map last_place row rows i)) in
          let none : not true ≡ true = subst (λ z. not z ≡ true) has fresh in
          absurd (cc)
      | inr f ↦ rw f (found rows row more i)
    ]

product_of : (T rows : List (List ℤ)) → ((row : List ℤ) → In row rows → scale (last_value row) (get_or T (last_place row) []) ≡ row) → rows ≡ product (leads rows) T
product_of T [] h = refl
product_of T (row ∷ rows) h =
    let a = h row (inl refl) in
    let b = product_of T rows (λ r i. h r (inr i)) in
    ap (λ z. z ∷ rows) (sym a) ∙ ap (λ t. scale (last_value row) (get_or T (last_place row) []) ∷ t) b

pub sign_in : (rows : List (List ℤ)) (row : List ℤ) → AreSigned (leads rows) → In row rows → IsSign (last_value row)
sign_in [] row s i = absurd i
sign_in (r ∷ rows) row (s, signs) (inl e) = subst (λ z. IsSign (last_value z)) e s
sign_in (r ∷ rows) row (s, signs) (inr i) = sign_in rows row signs i

pub triangle_at_place : (d k : ℕ) (rows : List (List ℤ)) → k < d → get_or (triangle_of d rows) k [] ≡ row_ending_at k rows
triangle_at_place d k rows l = get_or-map-range_with_len (λ i. row_ending_at i rows) 0 d k k [] l (omega arith)

pub apart_is_factored : ApartIsFactored
apart_is_factored d rows long h =
    let h1 = and_left ((length rows == d) && end_in_signs rows) (differ (map last_place rows)) h in
    let apart = and_right ((length rows == d) && end_in_signs rows) (differ (map last_place rows)) h in
    let many : length rows ≡ d = eqb-true (length rows) d (and_left (length rows == d) (end_in_signs rows) h1) in
    let signs : AreSigned (leads rows) = signed_of_test rows (and_right (length rows == d) (end_in_signs rows) h1) in
    let below : (q : ℕ) → In q (map last_place rows) → q < d = places_below d rows long signs in
    let permutes : is_permutation_of d (map last_place rows) ≡ true = all_of_distinct d (map last_place rows) (length-map rows last_place ∙ many) apart below in
    let all : (k : ℕ) → k < d → In k (map last_place rows) = (orders_of_test d (map last_place rows) permutes).all in
    record {
      permutation = record { places = subst (λ z. is_permutation_of d z ≡ true) (sym (places_of_leads rows)) permutes; signs = signs };
      triangle = triangle_from d 0 d rows (omega arith) long signs all;
      is = product_of (triangle_of d rows) rows (λ row i.
          let at : get_or (triangle_of d rows) (last_place row) [] ≡ scale (last_value row) row = triangle_at_place d (last_place row) rows (below (last_place row) (In-map last_place row rows i)) ∙ found rows row apart i in
          ap (scale (last_value row)) at ∙ scale_twice (last_value row) row (sign_in rows row signs i));
    }

-- the product of a signed permutation and a unit lower triangle

triangle_long : (i d : ℕ) (L : List (List ℤ)) → IsTriangleFrom i d L → i + length L ≡ d
triangle_long i d [] e = omega arith
triangle_long i d (row ∷ L) (l, s, t) = let e = triangle_long (i + 1) d L t in omega arith

triangle_ends : (i d k : ℕ) (L : List (List ℤ)) → IsTriangleFrom i d L → k < length L → EndsAt (get_or L k []) (i + k) (pos 1)
triangle_ends i d k [] t l = absurd (omega arith)
triangle_ends i d zero (row ∷ L) (l, s, t) h =
    let e : i ≡ i + 0 = omega arith in
    subst (λ n. EndsAt row n (pos 1)) e (shape_ends row i (pos 1) (zeros (d - (i + 1))) (zeros_zero (d - (i + 1))) s)
triangle_ends i d (suc k) (row ∷ L) (l, s, t) h =
    let e : i + 1 + k ≡ i + suc k = omega arith in
    subst (λ n. EndsAt (get_or L k []) n (pos 1)) e (triangle_ends (i + 1) d k L t (omega arith))

-- the last entry of a row of the product
signed_row : (d : ℕ) (L : List (List ℤ)) (k : ℕ) (g : ℤ) → IsTriangle d L → k < d → IsSign g → (last_place (scale g (get_or L k [])) ≡ k) × (last_value (scale g (get_or L k [])) ≡ g)
signed_row d L k g t l s =
    let long = triangle_long 0 d L t in
    let e : 0 + k ≡ k = omega arith in
    let ends : EndsAt (get_or L k []) k (pos 1) = subst (λ n. EndsAt (get_or L k []) n (pos 1)) e (triangle_ends 0 d k L t (omega arith)) in
    ends_last (scale g (get_or L k [])) k g (sign_some g s) (subst (EndsAt (scale g (get_or L k [])) k) (let e : g *ℤ pos 1 ≡ g = omega (arith, ints) in e) (scale_ends g (get_or L k []) k (pos 1) ends))

leads_of : (d : ℕ) (L : List (List ℤ)) (P : Signed) → IsTriangle d L → AreSigned P → ((k : ℕ) → In k (map (λ e. e.0) P) → k < d) → P ≡ leads (product P L)
leads_of d L [] t s below = refl
leads_of d L (e ∷ P) t (s, signs) below =
    let (a, b) = signed_row d L e.0 e.1 t (below e.0 (inl refl)) s in
    let more = leads_of d L P t signs (λ k i. below k (inr i)) in
    let row : List ℤ = scale e.1 (get_or L e.0 []) in
    ap (λ k. (k, e.1) ∷ P) (sym a) ∙ (ap (λ g. (last_place row, g) ∷ P) (sym b) ∙ ap (λ t. (last_place row, last_value row) ∷ t) more)

ending_of : (d : ℕ) (L : List (List ℤ)) (P : Signed) (i : ℕ) → IsTriangle d L → AreSigned P → ((k : ℕ) → In k (map (λ e. e.0) P) → k < d) → In i (map (λ e. e.0) P) → row_ending_at i (product P L) ≡ get_or L i []
ending_of d L [] i t s below h = absurd h
ending_of d L (e ∷ P) i t (s, signs) below h =
    let (a, b) = signed_row d L e.0 e.1 t (below e.0 (inl refl)) s in
    let row : List ℤ = scale e.1 (get_or L e.0 []) in
    elim (e.0 == i) as (λ c. (e.0 == i) ≡ c → row_ending_at i (product (e ∷ P) L) ≡ get_or L i []) [
      | true ↦ λ c.
          let test : (last_place row == i) ≡ true = rw a c in
          let same : e.0 ≡ i = eqb-true e.0 i c in
          rw test (ap (λ g. scale g row) b ∙ (scale_twice e.1 (get_or L e.0 []) s ∙ ap (λ k. get_or L k []) same))
      | false ↦ λ c.
          let test : (last_place row == i) ≡ false = rw a c in
          rw test (ending_of d L P i t signs (λ k j. below k (inr j)) (elim h [ inl same ↦ absurd (eqb-false e.0 i c same) | inr j ↦ j ]))
    ] refl

apart_of_product : (d : ℕ) (P : Signed) (L : List (List ℤ)) → IsSignedPermutation d P → IsTriangle d L → (ends_apart d (product P L) ≡ true) × (P ≡ leads (product P L)) × (L ≡ triangle_of d (product P L))
apart_of_product d P L p t =
    let o : Orders d (map (λ e. e.0) P) = orders_of_test d (map (λ e. e.0) P) p.places in
    let below = below_of_order d (map (λ e. e.0) P) o in
    let is : P ≡ leads (product P L) = leads_of d L P t p.signs below in
    let places : map (λ e. e.0) P ≡ map last_place (product P L) = ap (map (λ e. e.0)) is ∙ places_of_leads (product P L) in
    let signs : end_in_signs (product P L) ≡ true = test_of_signed (product P L) (subst AreSigned is p.signs) in
    let apart : differ (map last_place (product P L)) ≡ true = subst (λ z. differ z ≡ true) places (differ_of_order d (map (λ e. e.0) P) o) in
    let n1 = length-map P (λ e. e.0) in
    let n2 : length (product P L) ≡ length P = length-map P (λ e. scale e.1 (get_or L e.0 [])) in
    let n3 = o.long in
    let many : length (product P L) ≡ d = omega arith in
    let long : length L ≡ d = let e = triangle_long 0 d L t in omega arith in
    let both : ((length (product P L) == d) && end_in_signs (product P L)) ≡ true = rw (many, same_yes d) signs in (
      rw both apart,
      is,
      ext_get_or [] L (triangle_of d (product P L)) (long ∙ sym (length-map-range_with_len (λ i. row_ending_at i (product P L)) 0 d)) (λ i l.
          let less : i < d = omega arith in
          sym (triangle_at_place d i (product P L) less ∙ ending_of d L P i t p.signs below (o.all i less))),
    )

pub factored_is_apart : FactoredIsApart
factored_is_apart d P L rows f =
    subst (λ R. (ends_apart d R ≡ true) × (P ≡ leads R) × (L ≡ triangle_of d R)) (sym f.is) (apart_of_product d P L f.permutation f.triangle)
