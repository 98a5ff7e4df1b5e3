-- The skews of a triangle, the last row first.
use Rattle.std.proofs.Common.{◌≡◌, ℤ, ◌*ℤ◌, ℕ, zero, suc, ◌+◌, ◌-◌, ◌<◌, min, List, [], ◌∷◌, ◌++◌, length, take, drop, refl, sym, ◌∙◌, ap, subst, arith, append_assoc, append-nil}
use Rattle.std.proofs.lemmas.List.{drop_all, drop_more, take_min}
use Rattle.std.proofs.lemmas.List.FromFn.{length-map-range_with_len}
use Rattle.row_core.specs.Rows.{scale}
use Rattle.clay_script.specs.declared.commands.Command.{Command}
use Rattle.scop_data.specs.declared.affines.Affine.{Affine}
use Rattle.chlore_recover.specs.Triangles.{last_value, row_ending_at}
use Rattle.chlore_recover.specs.Recoverable.{triangle_of}
use Rattle.chlore_recover.specs.LevelScripts.{row_skews, skews}
use Rattle.chlore_recover.proofs.Factors.{triangle_at_place}

take_scale : (g : ℤ) (i : ℕ) (row : List ℤ) → scale g (take i row) ≡ take i (scale g row)
take_scale g zero row = refl
take_scale g (suc i) [] = refl
take_scale g (suc i) (x ∷ row) = ap (λ z. (g *ℤ x) ∷ z) (take_scale g i row)

-- the first entries of a row, times a sign
pub cut_scale : (g : ℤ) (i : ℕ) (row : List ℤ) → scale g (take (min i (length row)) row) ≡ take i (scale g row)
cut_scale g i row = ap (scale g) (take_min i row) ∙ take_scale g i row

pub triangle_long : (d : ℕ) (rows : List (List ℤ)) → length (triangle_of d rows) ≡ d
triangle_long d rows = length-map-range_with_len (λ i. row_ending_at i rows) 0 d

-- no row yet
pub skews_start : (p : List ℤ) (d : ℕ) (rows : List (List ℤ)) (old : List Command) → old ≡ old ++ skews p (d + 1) (drop d (triangle_of d rows))
skews_start p d rows old =
    let l = triangle_long d rows in
    let none : drop d (triangle_of d rows) ≡ [] = drop_all d (triangle_of d rows) (omega arith) in
    sym (append-nil old) ∙ ap (λ z. old ++ skews p (d + 1) z) (sym none)

-- the row before
pub skews_more : (p : List ℤ) (d n : ℕ) (rows : List (List ℤ)) (old script now : List Command) → n < d → script ≡ old ++ skews p (n + 1 + 1) (drop (n + 1) (triangle_of d rows))
    → now ≡ script ++ row_skews p (n + 1) 1 (take n (row_ending_at n rows)) → now ≡ old ++ skews p (n + 1) (drop n (triangle_of d rows))
skews_more p d n rows old script now l e f =
    let T : List (List ℤ) = triangle_of d rows in
    let row : List ℤ = row_ending_at n rows in
    let long = triangle_long d rows in
    let rest : List Command = skews p (n + 1 + 1) (drop (n + 1) T) in
    let down : n + 1 - 1 ≡ n = omega arith in
    let here : drop n T ≡ row ∷ drop (n + 1) T = drop_more T n [] (omega arith) ∙ ap (λ z. z ∷ drop (n + 1) T) (triangle_at_place d n rows l) in
    f
    ∙ (ap (λ z. z ++ row_skews p (n + 1) 1 (take n row)) e
    ∙ (append_assoc old rest (row_skews p (n + 1) 1 (take n row))
    ∙ (ap (λ k. old ++ (rest ++ row_skews p (n + 1) 1 (take k row))) (sym down) ∙ ap (λ z. old ++ skews p (n + 1) z) (sym here))))

-- the row before, where so many are left
pub skews_down : (p : List ℤ) (d left n : ℕ) (rows : List (List ℤ)) (old script now : List Command) → n < d → left ≡ n + 1 → script ≡ old ++ skews p (left + 1) (drop left (triangle_of d rows))
    → now ≡ script ++ row_skews p (n + 1) 1 (take n (row_ending_at n rows)) → now ≡ old ++ skews p (n + 1) (drop n (triangle_of d rows))
skews_down p d left n rows old script now l e h s = skews_more p d n rows old script now l (subst (λ k. script ≡ old ++ skews p (k + 1) (drop k (triangle_of d rows))) e h) s

take_nothing : (i : ℕ) (row : List ℤ) → row ≡ [] → take i row ≡ []
take_nothing zero row e = refl
take_nothing (suc i) row e = ap (take (suc i)) e

-- no level ends there
pub skews_of_none : (p : List ℤ) (i : ℕ) (rows : List (List ℤ)) (old : List Command) → row_ending_at i rows ≡ [] → old ≡ old ++ row_skews p (i + 1) 1 (take i (row_ending_at i rows))
skews_of_none p i rows old e = sym (append-nil old) ∙ ap (λ z. old ++ row_skews p (i + 1) 1 z) (sym (take_nothing i (row_ending_at i rows) e))

-- a level ends there, of which the entries before that place are used
pub skews_of_some : (p : List ℤ) (i end : ℕ) (g : ℤ) (row factors : List ℤ) (rows : List (List ℤ)) (old now : List Command) → row_ending_at i rows ≡ scale g row → end ≡ min i (length row) → factors ≡ take end row
    → now ≡ old ++ row_skews p (i + 1) 1 (scale g factors) → now ≡ old ++ row_skews p (i + 1) 1 (take i (row_ending_at i rows))
skews_of_some p i end g row factors rows old now e m f h =
    h ∙ (ap (λ z. old ++ row_skews p (i + 1) 1 (scale g z)) (f ∙ ap (λ k. take k row) m)
    ∙ (ap (λ z. old ++ row_skews p (i + 1) 1 z) (cut_scale g i row) ∙ ap (λ z. old ++ row_skews p (i + 1) 1 (take i z)) (sym e)))

pub skews_of_level : (p : List ℤ) (i end : ℕ) (g : ℤ) (level : Affine) (row factors : List ℤ) (rows : List (List ℤ)) (old now : List Command) → row_ending_at i rows ≡ scale (last_value level.iterators) level.iterators → row ≡ level.iterators → g ≡ last_value row
    → end ≡ min i (length row) → factors ≡ take end row → now ≡ old ++ row_skews p (i + 1) 1 (scale g factors) → now ≡ old ++ row_skews p (i + 1) 1 (take i (row_ending_at i rows))
skews_of_level p i end g level row factors rows old now e r v m f h =
    skews_of_some p i end g row factors rows old now (e ∙ (ap (λ z. scale (last_value z) z) (sym r) ∙ ap (λ z. scale z row) (sym v))) m f h
