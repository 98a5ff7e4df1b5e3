-- One turn of each loop over neighbours, and over passes.
use Rattle.std.proofs.Common.{◌≡◌, pos, ℕ, zero, suc, ◌+◌, ◌-◌, ◌<◌, List, [], ◌∷◌, ◌++◌, length, drop, get_or, refl, sym, ◌∙◌, ap, arith}
use Rattle.std.specs.List.{flat_map, range_with_len}
use Rattle.beta_trails.specs.Trails.{agreement}
use Rattle.clay_script.specs.declared.commands.Command.{Command}
use Rattle.clay_script.specs.declared.commands.Command.TheVariants.{Fission}
use Rattle.chlore_recover.specs.Orders.{vectors_of}
use Rattle.chlore_recover.specs.Passes.{as_fissions, parted_between, next_child, parted_loops, all_parted, fused_between}
use Rattle.chlore_recover.specs.Strategy.{Placed, as_prefix, fuses_of_length}
use Rattle.schedule_recovery.proofs.Pieces.{stepped}
use Rattle.schedule_recovery.proofs.LevelSteps.{left_is}

fissions_on : (a b : List (List ℕ)) → as_fissions (a ++ b) ≡ as_fissions a ++ as_fissions b
fissions_on [] b = refl
fissions_on (P ∷ a) b = ap (λ z. Fission (as_prefix P) (pos 1) ∷ z) (fissions_on a b)

pub part_more : (n child common next k : ℕ) (v w : List ℕ) (placed : List Placed) (e : Placed) (old all now : List Command) → k < length placed → e ≡ get_or placed k e → w ≡ e.1 → common ≡ agreement v w
    → now ≡ old ++ as_fissions (parted_between n child v common) → next ≡ next_child n child common → old ++ as_fissions (parted_loops n child v (vectors_of (drop k placed))) ≡ all
    → now ++ as_fissions (parted_loops n next w (vectors_of (drop (k + 1) placed))) ≡ all
part_more n child common next k v w placed e old all now l is ws cs s ns h =
    let W : List (List ℕ) = vectors_of (drop (k + 1) placed) in
    let rest : List Command = as_fissions (parted_loops n next w W) in
    let here : vectors_of (drop k placed) ≡ w ∷ W = ap vectors_of (left_is placed k e l is) ∙ ap (λ z. z ∷ W) (sym ws) in
    let next_is : next ≡ next_child n child (agreement v w) = ns ∙ ap (next_child n child) cs in
    stepped old (as_fissions (parted_between n child v common)) rest all now s
    (ap (λ z. old ++ (as_fissions (parted_between n child v z) ++ rest)) cs
    ∙ (ap (λ z. old ++ (as_fissions (parted_between n child v (agreement v w)) ++ as_fissions (parted_loops n z w W))) next_is
    ∙ (ap (λ z. old ++ z) (sym (fissions_on (parted_between n child v (agreement v w)) (parted_loops n (next_child n child (agreement v w)) w W)))
    ∙ (ap (λ z. old ++ as_fissions (parted_loops n child v z)) (sym here) ∙ h))))

pub pass_more : (n : ℕ) (v : List ℕ) (V : List (List ℕ)) (old all now : List Command) → 0 < n → now ≡ old ++ as_fissions (parted_loops n 0 v V) → old ++ as_fissions (all_parted n v V) ≡ all
    → now ++ as_fissions (all_parted (n - 1) v V) ≡ all
pass_more zero v V old all now l e h = absurd (omega arith)
pass_more (suc n) v V old all now l e h =
    let down : suc n - 1 ≡ n = omega arith in
    ap (λ k. now ++ as_fissions (all_parted k v V)) down
    ∙ stepped old (as_fissions (parted_loops (suc n) 0 v V)) (as_fissions (all_parted n v V)) all now e
    (ap (λ z. old ++ z) (sym (fissions_on (parted_loops (suc n) 0 v V) (all_parted n v V))) ∙ h)

pub join_more : (n common k : ℕ) (v w : List ℕ) (placed : List Placed) (e : Placed) (old all now : List Command) → k < length placed → e ≡ get_or placed k e → w ≡ e.1 → common ≡ agreement v w
    → now ≡ old ++ fused_between n common w → old ++ fuses_of_length n v (vectors_of (drop k placed)) ≡ all → now ++ fuses_of_length n w (vectors_of (drop (k + 1) placed)) ≡ all
join_more n common k v w placed e old all now l is ws cs s h =
    let W : List (List ℕ) = vectors_of (drop (k + 1) placed) in
    let here : vectors_of (drop k placed) ≡ w ∷ W = ap vectors_of (left_is placed k e l is) ∙ ap (λ z. z ∷ W) (sym ws) in
    stepped old (fused_between n common w) (fuses_of_length n w W) all now s
    (ap (λ z. old ++ (fused_between n z w ++ fuses_of_length n w W)) cs ∙ (ap (λ z. old ++ fuses_of_length n v z) (sym here) ∙ h))

pub joins_more : (k m : ℕ) (v : List ℕ) (V : List (List ℕ)) (old all now : List Command) → k < m → now ≡ old ++ fuses_of_length (k + 1) v V
    → old ++ flat_map (λ n. fuses_of_length n v V) (range_with_len (k + 1) (m - k)) ≡ all → now ++ flat_map (λ n. fuses_of_length n v V) (range_with_len (k + 1 + 1) (m - (k + 1))) ≡ all
joins_more k m v V old all now l e h =
    let one : range_with_len (k + 1) (m - k) ≡ (k + 1) ∷ range_with_len (k + 1 + 1) (m - (k + 1)) = ap (range_with_len (k + 1)) (let s : m - k ≡ suc (m - (k + 1)) = omega arith in s) in
    stepped old (fuses_of_length (k + 1) v V) (flat_map (λ n. fuses_of_length n v V) (range_with_len (k + 1 + 1) (m - (k + 1)))) all now e
    (ap (λ z. old ++ flat_map (λ n. fuses_of_length n v V) z) (sym one) ∙ h)
