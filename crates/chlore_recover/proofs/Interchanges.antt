-- The interchanges bring each row to the level that wants it.
use Rattle.std.proofs.Common.{◌≡◌, ◌≢◌, ℤ, pos, ℕ, zero, suc, ◌+◌, ◌-◌, ◌<◌, ◌==◌, true, false, if◌then◌else◌, not, ◌⊎◌, inl, inr, List, [], ◌∷◌, ◌++◌, length, map, get_or, set, refl, sym, ◌∙◌, ap, subst, arith, length-append, append_assoc}
use Rattle.std.specs.Prelude.{swap}
use Rattle.std.specs.List.{list_any}
use Rattle.std.proofs.Math.Dec.{eqb}
use Rattle.std.proofs.lemmas.Bool.{eqb-true, eqb-false}
use Rattle.std.proofs.lemmas.List.{length-map, map-set, set-append_right}
use Rattle.std.proofs.lemmas.List.Edits.{swap_is}
use Rattle.std.proofs.Math.ListN.{get_or-map}
use Rattle.std.proofs.Math.Seq.{get_or-append_seam, set-append_seam, get_or-append_right}
use Rattle.beta_tree.specs.Vectors.{In}
use Rattle.beta_tree.specs.Edits.{place_of}
use Rattle.beta_tree.proofs.Distinct.{member_from_In}
use Rattle.beta_tree.proofs.Places.{same_yes, same_no}
use Rattle.beta_tree.proofs.Orders.{and_left, and_right, place_below}
use Rattle.scop_data.specs.declared.affines.Affine.{Affine}
use Rattle.scop_data.specs.declared.schedules.Schedule.{Schedule}
use Rattle.clay_script.specs.declared.commands.Command.{Command}
use Rattle.clay_script.specs.declared.commands.Command.TheVariants.{Interchange}
use Rattle.clay_commands.specs.Arguments.{place}
use Rattle.chlore_recover.specs.Triangles.{differ}
use Rattle.chlore_recover.specs.LevelScripts.{interchanges}
use Rattle.chlore_recover.specs.Runs.{at_levels, Runs}
use Rattle.chlore_recover.proofs.Plains.{level_there}

-- exchanges in a list

swap_map : (h : ℕ → Affine) (xs : List ℕ) (i j : ℕ) → i < length xs → j < length xs → swap (map h xs) i j ≡ map h (swap xs i j)
swap_map h xs i j l m =
    let long = length-map xs h in
    let both : set (set (map h xs) i (get_or (map h xs) j (h 0))) j (get_or (map h xs) i (h 0)) ≡ map h (set (set xs i (get_or xs j 0)) j (get_or xs i 0)) =
    ap (λ z. set (set (map h xs) i z) j (get_or (map h xs) i (h 0))) (get_or-map h xs j 0)
    ∙ (ap (λ z. set (set (map h xs) i (h (get_or xs j 0))) j z) (get_or-map h xs i 0)
    ∙ (ap (λ z. set z j (h (get_or xs i 0))) (sym (map-set h xs i (get_or xs j 0))) ∙ sym (map-set h (set xs i (get_or xs j 0)) j (get_or xs i 0)))) in
    sym (swap_is (map h xs) i j (h 0) (omega arith) (omega arith)) ∙ (both ∙ ap (map h) (swap_is xs i j 0 l m))

get_place : (a : ℕ) (xs : List ℕ) → In a xs → get_or xs (place_of a xs) 0 ≡ a
get_place a [] h = absurd h
get_place a (x ∷ xs) h =
    elim (x == a) as (λ t. (x == a) ≡ t → get_or (x ∷ xs) (if t then 0 else place_of a xs + 1) 0 ≡ a) [
      | true ↦ λ e. eqb-true x a e
      | false ↦ λ e.
          let more : In a xs = elim h [ inl same ↦ absurd (eqb-false x a e same) | inr k ↦ k ] in
          let next : place_of a xs + 1 ≡ suc (place_of a xs) = omega arith in
          rw next (get_place a xs more)
    ] refl

place_past : (i : ℕ) (fixed rest : List ℕ) → (In i fixed → ⊥) → place_of i (fixed ++ rest) ≡ length fixed + place_of i rest
place_past i [] rest h = omega arith
place_past i (x ∷ fixed) rest h =
    let ne : (x == i) ≡ false = same_no x i (λ e. h (inl e)) in
    let more = place_past i fixed rest (λ k. h (inr k)) in
    rw ne (omega arith)

-- what differs from all before it

fresh_head : (x : ℕ) (xs : List ℕ) → differ (x ∷ xs) ≡ true → In x xs → ⊥
fresh_head x xs h i =
    let none : not (list_any (eqb x) xs) ≡ true = and_left (not (list_any (eqb x) xs)) (differ xs) h in
    let bad : not true ≡ true = subst (λ z. not z ≡ true) (member_from_In eqb eqb-true same_yes x xs i) none in
    cc

differ_tail : (x : ℕ) (xs : List ℕ) → differ (x ∷ xs) ≡ true → differ xs ≡ true
differ_tail x xs h = and_right (not (list_any (eqb x) xs)) (differ xs) h

in_behind : (i : ℕ) (fixed wanted : List ℕ) → In i (fixed ++ i ∷ wanted)
in_behind i [] wanted = inl refl
in_behind i (x ∷ fixed) wanted = inr (in_behind i fixed wanted)

fresh_before : (i : ℕ) (fixed wanted : List ℕ) → differ (fixed ++ i ∷ wanted) ≡ true → In i fixed → ⊥
fresh_before i [] wanted h k = k
fresh_before i (x ∷ fixed) wanted h (inl e) = fresh_head x (fixed ++ i ∷ wanted) h (subst (λ z. In z (fixed ++ i ∷ wanted)) (sym e) (in_behind i fixed wanted))
fresh_before i (x ∷ fixed) wanted h (inr k) = fresh_before i fixed wanted (differ_tail x (fixed ++ i ∷ wanted) h) k

differ_behind : (fixed wanted : List ℕ) → differ (fixed ++ wanted) ≡ true → differ wanted ≡ true
differ_behind [] wanted h = h
differ_behind (x ∷ fixed) wanted h = differ_behind fixed wanted (differ_tail x (fixed ++ wanted) h)

-- what is still there when i gives its place to y
still_in : (i x y : ℕ) (rest : List ℕ) → In i rest → x ≢ i → (y ≡ x) ⊎ In x rest → In x (set rest (place_of i rest) y)
still_in i x y [] h ne k = absurd h
still_in i x y (z ∷ rest) h ne k =
    elim (z == i) as (λ t. (z == i) ≡ t → In x (set (z ∷ rest) (if t then 0 else place_of i rest + 1) y)) [
      | true ↦ λ e. elim k [ inl same ↦ inl same | inr (inl same) ↦ absurd (ne (sym same ∙ eqb-true z i e)) | inr (inr more) ↦ inr more ]
      | false ↦ λ e.
          let more : In i rest = elim h [ inl same ↦ absurd (eqb-false z i e same) | inr j ↦ j ] in
          let next : place_of i rest + 1 ≡ suc (place_of i rest) = omega arith in
          rw next (elim k [ inl same ↦ inr (still_in i x y rest more ne (inl same)) | inr (inl same) ↦ inl same | inr (inr j) ↦ inr (still_in i x y rest more ne (inr j)) ])
    ] refl

length_set : (xs : List ℕ) (i y : ℕ) → length (set xs i y) ≡ length xs
length_set [] i y = refl
length_set (x ∷ xs) zero y = refl
length_set (x ∷ xs) (suc i) y = let e = length_set xs i y in omega arith

-- the exchange that brings i to the place behind the fixed ones
brought : (i y k m : ℕ) (fixed rest : List ℕ) → length fixed ≡ k → In i rest → m ≡ place_of i rest → swap (fixed ++ y ∷ rest) k (k + suc m) ≡ fixed ++ i ∷ set rest m y
brought i y k m fixed rest e h is =
    let S : List ℕ = fixed ++ y ∷ rest in
    let l1 = length-append fixed (y ∷ rest) in
    let l2 : length (y ∷ rest) ≡ length rest + 1 = omega arith in
    let l3 = place_below i rest h in
    let at : get_or S (k + suc m) 0 ≡ i =
    let o : k + suc m - length fixed ≡ suc m = omega arith in
    get_or-append_right fixed (y ∷ rest) (k + suc m) 0 (omega arith) ∙ (ap (λ j. get_or (y ∷ rest) j 0) o ∙ (ap (λ j. get_or rest j 0) is ∙ get_place i rest h)) in
    let here : get_or S k 0 ≡ y = ap (λ j. get_or S j 0) (sym e) ∙ get_or-append_seam fixed y rest 0 in
    let put : set S k i ≡ fixed ++ i ∷ rest = ap (λ j. set S j i) (sym e) ∙ set-append_seam fixed y rest i in
    let o2 : k + suc m - k ≡ suc m = omega arith in
    let back : set (fixed ++ i ∷ rest) (k + suc m) y ≡ fixed ++ i ∷ set rest m y = set-append_right fixed (i ∷ rest) k (k + suc m) y e (omega arith) ∙ ap (λ j. fixed ++ set (i ∷ rest) j y) o2 in
    sym (swap_is S k (k + suc m) 0 (omega arith) (omega arith))
    ∙ (ap (λ z. set (set S k z) (k + suc m) (get_or S k 0)) at ∙ (ap (λ z. set (set S k i) (k + suc m) z) here ∙ (ap (λ z. set z (k + suc m) y) put ∙ back)))

interchange_run : (n k q : ℕ) (p : List ℤ) (a : Schedule) (X Y : List Affine) (cs : List Command) (b : Schedule) → k < length X → q < length X → swap X k q ≡ Y → Runs n cs (at_levels a Y) b → Runs n (Interchange p (pos (k + 1)) (pos (q + 1)) ∷ cs) (at_levels a X) b
interchange_run n k q p a X Y cs b l m e r =
    let s : place (pos (k + 1)) ≡ k = omega arith in
    let t : place (pos (q + 1)) ≡ q = omega arith in
    ((level_there k X l, level_there q X m), subst (λ z. Runs n cs (at_levels a z) b) (sym (ap (λ j. swap X j (place (pos (q + 1)))) s ∙ (ap (swap X k) t ∙ e))) r)

length_fixed : (fixed : List ℕ) (i k : ℕ) → length fixed ≡ k → length (fixed ++ i ∷ []) ≡ k + 1
length_fixed fixed i k e = let l = length-append fixed (i ∷ []) in let one : length (i ∷ []) ≡ 1 = refl in omega arith

pub interchanges_run : (n k : ℕ) (p : List ℤ) (a : Schedule) (h : ℕ → Affine) (fixed rest wanted : List ℕ) → length fixed ≡ k → length rest ≡ length wanted → ((x : ℕ) → In x wanted → In x rest) → differ (fixed ++ wanted) ≡ true
    → Runs n (interchanges p k (fixed ++ rest) wanted) (at_levels a (map h (fixed ++ rest))) (at_levels a (map h (fixed ++ wanted)))
interchanges_run n k p a h fixed [] [] e l all apart = refl
interchanges_run n k p a h fixed (y ∷ rest) [] e l all apart = absurd (omega arith)
interchanges_run n k p a h fixed [] (i ∷ wanted) e l all apart = absurd (omega arith)
interchanges_run n k p a h fixed (y ∷ rest) (i ∷ wanted) e l all apart =
    let alone : differ ((fixed ++ i ∷ []) ++ wanted) ≡ true = subst (λ z. differ z ≡ true) (sym (append_assoc fixed (i ∷ []) wanted)) apart in
    let fresh : In i fixed → ⊥ = fresh_before i fixed wanted apart in
    let others : (x : ℕ) → In x wanted → x ≢ i = λ x j q. fresh_head i wanted (differ_behind fixed (i ∷ wanted) apart) (subst (λ z. In z wanted) q j) in
    let at : place_of i (fixed ++ y ∷ rest) ≡ length fixed + place_of i (y ∷ rest) = place_past i fixed (y ∷ rest) fresh in
    let End : Schedule = at_levels a (map h (fixed ++ i ∷ wanted)) in
    elim (y == i) as (λ t. (y == i) ≡ t → Runs n (interchanges p k (fixed ++ y ∷ rest) (i ∷ wanted)) (at_levels a (map h (fixed ++ y ∷ rest))) End) [
      | true ↦ λ t.
          let first : place_of i (y ∷ rest) ≡ 0 = rw t refl in
          let here : place_of i (fixed ++ y ∷ rest) ≡ k = omega arith in
          let test : (place_of i (fixed ++ y ∷ rest) == k) ≡ true = rw here (same_yes k) in
          let same : y ≡ i = eqb-true y i t in
          let more = interchanges_run n (k + 1) p a h (fixed ++ i ∷ []) rest wanted (length_fixed fixed i k e) (omega arith) (λ x j. elim (all x (inr j)) [ inl q ↦ absurd (others x j (sym q ∙ same)) | inr m ↦ m ]) alone in
          let whole : (fixed ++ i ∷ []) ++ rest ≡ fixed ++ y ∷ rest = append_assoc fixed (i ∷ []) rest ∙ ap (λ z. fixed ++ z ∷ rest) (sym same) in
          rw test (subst (λ z. Runs n (interchanges p (k + 1) z wanted) (at_levels a (map h z)) End) whole (subst (λ z. Runs n (interchanges p (k + 1) ((fixed ++ i ∷ []) ++ rest) wanted) (at_levels a (map h ((fixed ++ i ∷ []) ++ rest))) (at_levels a (map h z))) (append_assoc fixed (i ∷ []) wanted) more))
      | false ↦ λ t.
          let m : ℕ = place_of i rest in
          let later : place_of i (y ∷ rest) ≡ m + 1 = rw t refl in
          let q : place_of i (fixed ++ y ∷ rest) ≡ k + suc m = omega arith in
          let test : (place_of i (fixed ++ y ∷ rest) == k) ≡ false = same_no (place_of i (fixed ++ y ∷ rest)) k (λ z. omega arith) in
          let inside : In i rest = elim (all i (inl refl)) [ inl z ↦ absurd (eqb-false y i t z) | inr j ↦ j ] in
          let moved : swap (fixed ++ y ∷ rest) k (k + suc m) ≡ (fixed ++ i ∷ []) ++ set rest m y = brought i y k m fixed rest e inside refl ∙ sym (append_assoc fixed (i ∷ []) (set rest m y)) in
          let l0 = length_set rest m y in
          let more = interchanges_run n (k + 1) p a h (fixed ++ i ∷ []) (set rest m y) wanted (length_fixed fixed i k e) (omega arith) (λ x j. still_in i x y rest inside (others x j) (all x (inr j))) alone in
          let more2 = subst (λ z. Runs n (interchanges p (k + 1) ((fixed ++ i ∷ []) ++ set rest m y) wanted) (at_levels a (map h ((fixed ++ i ∷ []) ++ set rest m y))) (at_levels a (map h z))) (append_assoc fixed (i ∷ []) wanted) more in
          let more3 : Runs n (interchanges p (k + 1) (swap (fixed ++ y ∷ rest) k (k + suc m)) wanted) (at_levels a (map h (swap (fixed ++ y ∷ rest) k (k + suc m)))) End = subst (λ z. Runs n (interchanges p (k + 1) z wanted) (at_levels a (map h z)) End) (sym moved) more2 in
          let l1 = length-append fixed (y ∷ rest) in
          let l2 : length (y ∷ rest) ≡ length rest + 1 = omega arith in
          let l3 = place_below i rest inside in
          let l4 = length-map (fixed ++ y ∷ rest) h in
          let one = interchange_run n k (k + suc m) p a (map h (fixed ++ y ∷ rest)) (map h (swap (fixed ++ y ∷ rest) k (k + suc m))) (interchanges p (k + 1) (swap (fixed ++ y ∷ rest) k (k + suc m)) wanted) End (omega arith) (omega arith) (swap_map h (fixed ++ y ∷ rest) k (k + suc m) (omega arith) (omega arith)) more3 in
          rw test (subst (λ z. Runs n (Interchange p (pos (k + 1)) (pos (z + 1)) ∷ interchanges p (k + 1) (swap (fixed ++ y ∷ rest) k z) wanted) (at_levels a (map h (fixed ++ y ∷ rest))) End) (sym q) one)
    ] refl
