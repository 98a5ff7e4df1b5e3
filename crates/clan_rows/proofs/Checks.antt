-- Layers computed: of a loop, of a strided one, and of conditions at and past the limit of parts.
use Rattle.std.proofs.Common.{◌≡◌, ℕ, List, [], ◌∷◌, Bool, true, false, refl, ℤ, pos, negsuc}
use Rattle.std.specs.Prelude.{codes}
use Rattle.relation_core.specs.declared.part_rows.RowKind.TheVariants.{Equal, AtLeast}
use Rattle.clan_extract.specs.Regions.{Number, Name, Product, IsLess, IsGreaterOrEqual, IsUnequal, Condition, Compare, Both, Opposite}
use Rattle.clan_extract.specs.Placements.{Head}
use Rattle.clan_extract.specs.Constraints.{FormRow, plain_row}
use Rattle.clan_extract.specs.Counts.{one_part}
use Rattle.clan_rows.specs.Layers.{LayerData, loop_layer, condition_layer}
use Rattle.clan_rows.specs.Bounds.{layer_of_bounds}

parameters : List (List ℕ)
parameters = codes "N" ∷ []

row_with : List ℤ → ℤ → ℤ → FormRow
row_with iterators parameter constant =
    plain_row AtLeast (record { iterators = iterators; floors = []; parameters = parameter ∷ []; constant = constant })

-- for (i = 0; i < N; i++)
upward : Head
upward = record { name = codes "i"; start = Number 0; comparison = IsLess; bound = Name (codes "N"); step = pos 1 }

upward_layer : LayerData
upward_layer = record {
  count = one_part 2 0;
  fits = true;
  parts = (record { rows = row_with (pos 1 ∷ []) (pos 0) (pos 0) ∷ (row_with (negsuc 0 ∷ []) (pos 1) (negsuc 0) ∷ []); has_local = false } ∷ []) ∷ [];
}

upward_is : loop_layer parameters [] upward ≡ upward_layer
unfolding parameters row_with upward upward_layer
upward_is = refl

upward_by_bounds : layer_of_bounds parameters [] upward ≡ upward_layer
unfolding parameters row_with upward upward_layer
upward_by_bounds = refl

-- for (i = N; i >= 0; i -= 2): N - i is a multiple of 2
downward : Head
downward = record { name = codes "i"; start = Name (codes "N"); comparison = IsGreaterOrEqual; bound = Number 0; step = negsuc 1 }

downward_layer : LayerData
downward_layer = record {
  count = one_part 3 1;
  fits = true;
  parts = (record { rows = row_with (negsuc 0 ∷ []) (pos 1) (pos 0) ∷ (row_with (pos 1 ∷ []) (pos 0) (pos 0) ∷ []); has_local = false }
      ∷ (record {
        rows = record { kind = Equal; form = (row_with (negsuc 0 ∷ []) (pos 1) (pos 0)).form; local = negsuc 1 } ∷ [];
        has_local = true;
      } ∷ [])) ∷ [];
}

downward_is : loop_layer parameters [] downward ≡ downward_layer
unfolding parameters row_with downward downward_layer
downward_is = refl

downward_by_bounds : layer_of_bounds parameters [] downward ≡ downward_layer
unfolding parameters row_with downward downward_layer
downward_by_bounds = refl

-- seven `!=` have 128 parts, and none is made
different : Condition
different = Compare IsUnequal (Name (codes "i")) (Number 0)

seven : Condition
seven = Both different (Both different (Both different (Both different (Both different (Both different different)))))

past_the_limit : condition_layer parameters (codes "i" ∷ []) true seven ≡ record { count = record { parts = 65; rows = 7; locals = 0 }; fits = true; parts = [] }
unfolding parameters different seven
past_the_limit = refl
