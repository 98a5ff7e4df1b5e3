use Rattle.std.proofs.Common.{◌≡◌, ℕ, zero, suc, ◌+◌, ◌<◌, ◌≤◌, List, [], ◌∷◌, ◌++◌, Some, None, length, drop, take, get_or, append_assoc, ap, sym, ◌∙◌, refl, arith, add-one}
use Rattle.std.specs.Prelude.{slice_get}
use Rattle.std.specs.List.{flat_map}
use Rattle.std.proofs.lemmas.Option.{slice_get-get_or}

-- the item at place k is the first of what stands from there on
pub drop_at : {X : Type 0} (xs : List X) (k : ℕ) (x : X) → slice_get xs k ≡ Some x → drop k xs ≡ x ∷ drop (k + 1) xs
drop_at [] k x e = cc
drop_at (y ∷ xs) zero x e = cc
drop_at (y ∷ xs) (suc k) x e = rw add-one (rw add-one at (drop_at xs k x e))

-- once the piece of the item at place k is written, what is left is that of the items behind it
pub next_piece : {X : Type 0} (f : X → List ℕ) (xs : List X) (k : ℕ) (x : X) (old new : List ℕ) → slice_get xs k ≡ Some x → new ≡ old ++ f x → new ++ flat_map f (drop (k + 1) xs) ≡ old ++ flat_map f (drop k xs)
next_piece f xs k x old new e h = rw (drop_at xs k x e, h, append_assoc) refl

-- once the piece of the item at place i is written, the whole is as before
pub more_pieces : {X : Type 0} (f : X → List ℕ) (xs : List X) (i : ℕ) (x : X) (whole old new : List ℕ) → i < length xs → x ≡ get_or xs i x → old ++ flat_map f (drop i xs) ≡ whole → new ≡ old ++ f x → new ++ flat_map f (drop (i + 1) xs) ≡ whole
more_pieces f xs i x whole old new h e g n =
    let here : slice_get xs i ≡ Some x = slice_get-get_or xs i x h ∙ ap Some (sym e) in
    next_piece f xs i x old new here n ∙ g

pub three_pieces : (old a b c : List ℕ) → ((old ++ a) ++ b) ++ c ≡ old ++ (a ++ b ++ c)
three_pieces old a b c = simp append_assoc

pub four_pieces : (old a b c d : List ℕ) → (((old ++ a) ++ b) ++ c) ++ d ≡ old ++ (a ++ b ++ c ++ d)
four_pieces old a b c d = simp append_assoc
