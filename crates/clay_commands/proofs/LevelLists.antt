-- Two levels in each other's place.
use Rattle.std.proofs.Common.{◌≡◌, ℕ, ◌<◌, Some, List, length, get_or, set, ap, sym, ◌∙◌}
use Rattle.std.specs.Prelude.{slice_get, slice_set, swap}
use Rattle.std.proofs.lemmas.Option.{get_or_from_slice_get}
use Rattle.std.proofs.lemmas.List.Edits.{swap_is}
use Rattle.scop_data.specs.declared.affines.Affine.{Affine}
use Rattle.clay_commands.specs.Drafts.{no_form, form_at}

pub swapped : (xs ys zs : List Affine) (i j : ℕ) (copy moved : Affine) → i < length xs → j < length xs → copy ≡ form_at xs j → slice_get xs i ≡ Some moved
    → ys ≡ slice_set xs i copy → zs ≡ slice_set ys j moved → zs ≡ swap xs i j
swapped xs ys zs i j copy moved li lj c g y z =
    let m : moved ≡ get_or xs i no_form = sym (get_or_from_slice_get xs i moved no_form g) in
    z ∙ ap (λ t. set t j moved) y ∙ ap (λ t. set (set xs i t) j moved) c ∙ ap (λ t. set (set xs i (get_or xs j no_form)) j t) m ∙ swap_is xs i j no_form li lj
