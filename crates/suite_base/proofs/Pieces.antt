use Rattle.std.proofs.Common.{◌≡◌, ℕ, ◌+◌, ◌≤◌, Option, Some, None, List, [], ◌++◌, length, take, drop, refl, ap, sym, ◌∙◌, arith, Result, Ok, Err, OnErr, append_assoc, length-append, length-drop, ◌-◌, ◌<◌, get_or, suc, ◌∷◌}
use Rattle.std.proofs.lemmas.List.{append-nil, drop-drop, take_all}
use Rattle.std.proofs.Math.Seq.{take-add, split_at}
use Rattle.std.specs.List.{flat_map}
use Rattle.std.proofs.lemmas.Grind.{flat_map-append}
use Rattle.suite_base.specs.Outside.{Took, TookUpTo, Wrote, WrotePart}

pub on_err_of : {T E P : Type 0} (r : Result T E) → P → OnErr r P
on_err_of (Ok x) p = tt
on_err_of (Err e) p = p

-- the argument of `Some`, or the empty list
told : Option (List ℕ) → List ℕ
told None = []
told (Some xs) = xs

some_same : (xs ys : List ℕ) → Some xs ≡ Some ys → xs ≡ ys
some_same xs ys e = cc

-- one piece and then another were taken
pub took_more : (a b c : Option (List ℕ)) (p q : List ℕ) → Took a p b → Took b q c → Took a (p ++ q) c
took_more None None c p q h k = k
took_more None (Some x) c p q h k = absurd (cc)
took_more (Some left) None c p q h k = let e = h.0 in absurd (cc)
took_more (Some left) (Some x) c p q h k =
    let e : x ≡ drop (length p) left = some_same _ _ h.0 in
    let l : length (p ++ q) ≡ length p + length q = length-append p q in
    let gone : drop (length q) x ≡ drop (length (p ++ q)) left = rw (l, e) (drop-drop (length q) (length p) left) in
    let both : p ++ q ≡ take (length p) left ++ take (length q) x = ap (λ t. t ++ q) h.1 ∙ ap (λ t. take (length p) left ++ t) k.1 in
    let whole : take (length (p ++ q)) left ≡ take (length p) left ++ take (length q) x = rw (l, e) (take-add (length p) (length q) left) in
    (k.0 ∙ ap Some gone, both ∙ sym whole)

-- nothing more than the first n bytes was taken, one piece after another
pub took_up_to_more : (n : ℕ) (a b c : Option (List ℕ)) (p : List ℕ) (m : ℕ) → Took a p b → TookUpTo m b c → length p + m ≤ n → TookUpTo n a c
took_up_to_more n a b c p m h k l =
    let f : length (p ++ k.0) ≤ n = rw (length-append p k.0) (let g = k.1 in omega arith) in
    (p ++ k.0, f, took_more a b c p k.0 h k.2)

-- one piece and then another were appended
pub wrote_more : (a b c : Option (List ℕ)) (p q : List ℕ) → Wrote a p b → Wrote b q c → Wrote a (p ++ q) c
wrote_more None None c p q h k = k
wrote_more None (Some x) c p q h k = absurd (cc)
wrote_more (Some old) None c p q h k = absurd (cc)
wrote_more (Some old) (Some x) c p q h k = k ∙ ap Some (ap (λ t. t ++ q) (some_same _ _ h) ∙ append_assoc old p q)

-- nothing was appended
pub wrote_nothing : (a : Option (List ℕ)) → Wrote a [] a
wrote_nothing None = refl
wrote_nothing (Some old) = ap Some (sym (append-nil old))

-- a whole piece was appended, and then a part of another
pub wrote_part_more : (a b c : Option (List ℕ)) (p q : List ℕ) → Wrote a p b → WrotePart b q c → WrotePart a (p ++ q) c
wrote_part_more a b c p q h k =
    (p ++ k.0, k.1, ap (λ t. p ++ t) k.2 ∙ sym (append_assoc p k.0 k.1), wrote_more a b c p k.0 h k.3)

-- a part of a piece was appended, and the other piece was not begun
pub wrote_part_of : (a c : Option (List ℕ)) (p q : List ℕ) → WrotePart a p c → WrotePart a (p ++ q) c
wrote_part_of a c p q k = (k.0, k.1 ++ q, ap (λ t. t ++ q) k.2 ∙ append_assoc k.0 k.1 q, k.3)

-- what is left of `bytes` after n of them
pub rest_of : (bytes : List ℕ) (n : ℕ) → take (length bytes - n) (drop n bytes) ≡ drop n bytes
rest_of bytes n = take_all (length bytes - n) (drop n bytes) (omega (arith, length-drop n bytes))

-- the first n bytes and m more
pub first_more : (bytes : List ℕ) (n m : ℕ) → take (n + m) bytes ≡ take n bytes ++ take m (take (length bytes - n) (drop n bytes))
first_more bytes n m = rw (rest_of bytes n) (take-add n m bytes)

-- m of the bytes that are left are within the bytes
pub within_rest : (bytes : List ℕ) (n m : ℕ) → n ≤ length bytes → m ≤ length (take (length bytes - n) (drop n bytes)) → n + m ≤ length bytes
within_rest bytes n m h k = let l : m ≤ length (drop n bytes) = rw (rest_of bytes n) at k in omega (arith, length-drop n bytes)

flat_cut : {X : Type 0} (f : X → List ℕ) (xs : List X) (i : ℕ) (d : X) → i < length xs → flat_map f xs ≡ flat_map f (take i xs) ++ (f (get_or xs i d) ++ flat_map f (drop (suc i) xs))
flat_cut f xs i d h = ap (flat_map f) (split_at xs i d h) ∙ flat_map-append f (take i xs) (get_or xs i d ∷ drop (suc i) xs)

-- the pieces before place i were appended, and a part of the piece there
pub pieces_part : {X : Type 0} (f : X → List ℕ) (xs : List X) (i : ℕ) (d : X) (a b c : Option (List ℕ)) → i < length xs → Wrote a (flat_map f (take i xs)) b → WrotePart b (f (get_or xs i d)) c → WrotePart a (flat_map f xs) c
pieces_part f xs i d a b c h w k =
    rw (flat_cut f xs i d h) (wrote_part_more a b c _ _ w (wrote_part_of b c _ _ k))
