-- What all loops and conditions round a place ask, and how a further one is joined to them.
use Rattle.std.proofs.Common.{◌≡◌, ℕ, ◌+◌, ◌*◌, ◌≤◌, List, [], ◌∷◌, ◌++◌, length, map, Bool, true, false, ◌&&◌, refl, sym, ◌∙◌, ap, arith}
use Rattle.std.proofs.lemmas.List.{length-map}
use Rattle.clan_extract.specs.Regions.{Condition, Assignment}
use Rattle.clan_extract.specs.Placements.{Head, Round, Loop, Test, loop_names}
use Rattle.clan_extract.specs.Constraints.{Constraint, joined, loop_constraints, parts_of_condition, parts_of}
use Rattle.clan_extract.specs.Counts.{Count, one_part, crossed, loop_count, condition_count, rounds_count}
use Rattle.clan_extract.specs.Scops.{part}
use Rattle.clan_extract.specs.Refusals.{forms_fit, condition_fits, rounds_fit}
use Rattle.clan_extract.specs.RowRanges.{constraints_fit, comparisons_fit, constraints_of_rounds_fit}
use Rattle.clan_extract.proofs.StatementPieces.{some_parts}
use Rattle.clan_extract.proofs.Counts.{parts_are_counted}
use Rattle.clan_extract.proofs.OutsideIn.{joined_right, parts_inside, forms_inside, rows_inside, counts_inside}
use Rattle.clan_rows.specs.Layers.{LayerData, layer, loop_layer, condition_layer, crossed_layers}
use Rattle.clan_walk.specs.Walk.{no_layer}
use Rattle.clan_rows.proofs.LayerLaws.{crossed_is}

module _ (parameters : List (List ℕ)) where
  -- what these loops and conditions ask
  abbrev pub fits_of : List Round → Bool
  fits_of rounds = rounds_fit parameters [] rounds && constraints_of_rounds_fit parameters [] rounds

  unfoldable pub rounds_layer : List Round → LayerData
  rounds_layer rounds = layer (rounds_count rounds) (fits_of rounds) (parts_of parameters [] rounds)

  layer_by : Count → Bool → List (List Constraint) → LayerData
  layer_by count fits parts = layer count fits parts

  same_layer : (c d : Count) (f g : Bool) (p q : List (List Constraint)) → c ≡ d → f ≡ g → p ≡ q → layer c f p ≡ layer d g q
  unfolding layer_by
  same_layer c d f g p q x y z = ap (λ t. layer_by t f p) x ∙ ap (λ t. layer_by d t p) y ∙ ap (λ t. layer_by d g t) z

  some_count : (rounds : List Round) → 1 ≤ (rounds_count rounds).parts
  some_count rounds =
      let counted : length (map (part (length (loop_names rounds)) (length parameters)) (parts_of parameters [] rounds)) ≡ (rounds_count rounds).parts =
      (parts_are_counted parameters [] (record { betas = []; rounds = rounds; assignment = nothing })).parts in
      omega (arith, counted, some_parts parameters [] rounds, length-map (parts_of parameters [] rounds) (part (length (loop_names rounds)) (length parameters)))
    where
      nothing : Assignment
      nothing = record { text = []; target = record { name = []; subscripts = [] }; updates = false; right = [] }

  count_with : ℕ → ℕ → ℕ → Count
  count_with parts rows locals = record { parts = parts; rows = rows; locals = locals }

  crossed_one : (c : Count) → crossed c (one_part 0 0) ≡ c
  unfolding count_with
  crossed_one c =
      let p : c.parts * 1 ≡ c.parts = omega arith in
      let q : c.rows + 0 ≡ c.rows = omega arith in
      let r : c.locals + 0 ≡ c.locals = omega arith in
      ap (λ z. count_with z (c.rows + 0) (c.locals + 0)) p ∙ ap (λ z. count_with c.parts z (c.locals + 0)) q ∙ ap (λ z. count_with c.parts c.rows z) r

  exchanged : (a c f r : Bool) → ((a && c) && (f && r)) ≡ ((a && (f && true)) && (c && (r && true)))
  exchanged true true true true = refl
  exchanged true true true false = refl
  exchanged true true false r = refl
  exchanged true false true r = refl
  exchanged true false false r = refl
  exchanged false c f r = refl

  -- a further round
  further : (rounds : List Round) (round : Round) (count : Count) (fits rows : Bool) (parts : List (List Constraint))
      → 1 ≤ count.parts → rounds_count (round ∷ []) ≡ crossed count (one_part 0 0)
      → rounds_fit parameters (loop_names rounds) (round ∷ []) ≡ (fits && true)
      → constraints_of_rounds_fit parameters (loop_names rounds) (round ∷ []) ≡ (rows && true)
      → parts_of parameters (loop_names rounds) (round ∷ []) ≡ joined parts ([] ∷ [])
      → crossed_layers (rounds_layer rounds) (layer count (fits && rows) parts) ≡ rounds_layer (rounds ++ round ∷ [])
  unfolding rounds_layer
  further rounds round count fits rows parts some c f r p =
      let F : Bool = rounds_fit parameters [] rounds in
      let R : Bool = constraints_of_rounds_fit parameters [] rounds in
      let counts : crossed (rounds_count rounds) count ≡ rounds_count (rounds ++ round ∷ []) =
      sym (counts_inside rounds (round ∷ []) ∙ ap (λ t. crossed (rounds_count rounds) t) (c ∙ crossed_one count)) in
      let fitting : ((F && R) && (fits && rows)) ≡ fits_of (rounds ++ round ∷ []) =
      exchanged F R fits rows ∙ sym (ap (λ t. t && constraints_of_rounds_fit parameters [] (rounds ++ round ∷ [])) (forms_inside parameters [] rounds (round ∷ []) ∙ ap (λ t. F && t) f)
      ∙ ap (λ t. (F && (fits && true)) && t) (rows_inside parameters [] rounds (round ∷ []) ∙ ap (λ t. R && t) r)) in
      let all : joined (parts_of parameters [] rounds) parts ≡ parts_of parameters [] (rounds ++ round ∷ []) =
      sym (parts_inside parameters [] rounds (round ∷ []) ∙ ap (λ t. joined (parts_of parameters [] rounds) t) (p ∙ joined_right parts)) in
      sym (crossed_is (rounds_count rounds) count (fits_of rounds) (fits && rows) (parts_of parameters [] rounds) parts (some_count rounds) some)
      ∙ same_layer _ _ _ _ _ _ counts fitting all

  pub loop_further : (rounds : List Round) (head : Head) → crossed_layers (rounds_layer rounds) (loop_layer parameters (loop_names rounds) head) ≡ rounds_layer (rounds ++ Loop head ∷ [])
  loop_further rounds head =
      further rounds (Loop head) (loop_count head) (forms_fit parameters (loop_names rounds) head.start && forms_fit parameters (loop_names rounds) head.bound)
      (constraints_fit (loop_constraints parameters (loop_names rounds) head)) (loop_constraints parameters (loop_names rounds) head ∷ []) (omega arith) refl refl refl refl

  pub test_further : (rounds : List Round) (truth : Bool) (c : Condition) → crossed_layers (rounds_layer rounds) (condition_layer parameters (loop_names rounds) truth c) ≡ rounds_layer (rounds ++ Test truth c ∷ [])
  test_further rounds truth c =
      further rounds (Test truth c) (condition_count truth c) (condition_fits parameters (loop_names rounds) c)
      (comparisons_fit parameters (loop_names rounds) truth c) (parts_of_condition parameters (loop_names rounds) truth c) (some_test truth c) refl refl refl refl
    where
      some_test : (truth : Bool) (c : Condition) → 1 ≤ (condition_count truth c).parts
      some_test truth c = omega (arith, some_count (Test truth c ∷ []))

  pub none_around : no_layer ≡ rounds_layer []
  unfolding rounds_layer
  none_around = refl
