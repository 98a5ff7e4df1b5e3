-- One more element of a list's beginning.
use Rattle.std.proofs.Common.{◌≡◌, ℕ, ◌+◌, Option, Some, List, [], ◌∷◌, ◌++◌, get_or, take, length, ap, sym, ◌∙◌}
use Rattle.std.specs.Prelude.{slice_get}
use Rattle.std.proofs.lemmas.List.{take_more}
use Rattle.std.proofs.lemmas.Option.{slice_get_within, get_or_from_slice_get}

pub take_found : {A : Type 0} → (xs : List A) (k : ℕ) (x : A) → slice_get xs k ≡ Some x → take (k + 1) xs ≡ take k xs ++ x ∷ []
take_found xs k x e = take_more xs k x (slice_get_within xs k x e) ∙ ap (λ y. take k xs ++ y ∷ []) (get_or_from_slice_get xs k x x e)

pub push_found : {A : Type 0} → (xs : List A) (k : ℕ) (x : A) (old new : List A) → slice_get xs k ≡ Some x → old ≡ take k xs → new ≡ old ++ x ∷ [] → new ≡ take (k + 1) xs
push_found xs k x old new e o n = n ∙ ap (λ l. l ++ x ∷ []) o ∙ sym (take_found xs k x e)
