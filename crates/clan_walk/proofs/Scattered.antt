-- The schedule of open loops can be printed.
use Rattle.std.proofs.Common.{◌≡◌, ℕ, zero, suc, ◌+◌, ◌-◌, ◌≤◌, ◌<◌, List, [], ◌∷◌, ◌++◌, length, take, map, refl, sym, ◌∙◌, ap, arith, ℤ, pos}
use Rattle.std.specs.Prelude.{get_or}
use Rattle.std.proofs.lemmas.List.{length-append, length-map, map_push}
use Rattle.std.proofs.lemmas.List.Elements.{All-nil}
use Rattle.scop_data.specs.declared.affines.Affine.{Affine}
use Rattle.scop_data.specs.SolvedRows.{unit, zeros, HasRelation}
use Rattle.clan_extract.specs.Scops.{diagonal, levels}
use Rattle.clan_extract.proofs.StatementPieces.{level_sizes, length_diagonal, diagonal_lengths}
use Rattle.clan_walk.specs.declared.turns.Turn.{Turn}
use Rattle.clan_walk.specs.Walk.{sign, signs}

pub schedule_printable : (turns : List Turn) (next parameters : ℕ) → length turns ≤ 12 → parameters ≤ 16
    → HasRelation (length turns) parameters (record { floors = []; levels = levels parameters (signs turns); betas = map (λ t. pos t.beta) turns ++ pos next ∷ [] })
schedule_printable turns next parameters few small =
    let signs_are : length (signs turns) ≡ length turns = length-map turns (λ t. sign t.direction) in
    let levels_are : length (levels parameters (signs turns)) ≡ length turns =
    length-map (diagonal (signs turns)) (λ row. record { iterators = row; floors = []; parameters = zeros parameters; constant = pos 0 }) ∙ length_diagonal (signs turns) ∙ signs_are in
    record {
      levels = level_sizes parameters (length turns) (diagonal (signs turns)) (λ row i. diagonal_lengths (signs turns) row i ∙ signs_are);
      floors = All-nil _;
      betas = length-append (map (λ t. pos t.beta) turns) (pos next ∷ []) ∙ omega (arith, length-map turns (λ t. pos t.beta), levels_are);
      limits = record { outputs = omega (arith, levels_are, few); inputs = omega (arith, few); locals = omega arith; parameters = omega (arith, small) };
      pairs = λ i f l. absurd (omega arith);
    }

-- the rows of a diagonal matrix, one by one
take_map : {X Y : Type 0} (f : X → Y) (k : ℕ) (xs : List X) → take k (map f xs) ≡ map f (take k xs)
take_map f zero xs = refl
take_map f (suc k) [] = refl
take_map f (suc k) (x ∷ xs) = ap (λ ys. f x ∷ ys) (take_map f k xs)

module _ (z : ℤ) where
  first_unit : (n : ℕ) → z ∷ zeros n ≡ unit (suc n) 0 z
  first_unit n = ap (λ m. z ∷ zeros m) (same n)
    where
      same : (m : ℕ) → m ≡ suc m - (0 + 1)
      same m = omega arith

  next_unit : (n k : ℕ) → pos 0 ∷ unit n k z ≡ unit (suc n) (suc k) z
  next_unit n k = ap (λ m. pos 0 ∷ (zeros k ++ z ∷ zeros m)) (same n k)
    where
      same : (m j : ℕ) → m - (j + 1) ≡ suc m - (suc j + 1)
      same m j = omega arith

pub diagonal_row : (ds : List ℤ) (k : ℕ) (x : ℤ) → k < length ds → take (suc k) (diagonal ds) ≡ take k (diagonal ds) ++ unit (length ds) k (get_or ds k x) ∷ []
diagonal_row [] k x l = absurd (omega (arith, l))
diagonal_row (d ∷ ds) zero x l = ap (λ row. row ∷ []) (first_unit d (length ds))
diagonal_row (d ∷ ds) (suc k) x l =
    ap (λ rows. (d ∷ zeros (length ds)) ∷ rows)
    (take_map (λ row. pos 0 ∷ row) (suc k) (diagonal ds)
    ∙ ap (λ rows. map (λ row. pos 0 ∷ row) rows) (diagonal_row ds k x (omega (arith, l)))
    ∙ map_push (λ row. pos 0 ∷ row) (take k (diagonal ds)) (unit (length ds) k (get_or ds k x))
    ∙ ap (λ rows. rows ++ (pos 0 ∷ unit (length ds) k (get_or ds k x)) ∷ []) (sym (take_map (λ row. pos 0 ∷ row) k (diagonal ds)))
    ∙ ap (λ row. take k (map (λ row. pos 0 ∷ row) (diagonal ds)) ++ row ∷ []) (next_unit (get_or ds k x) (length ds) k))

level_by : ℕ → List ℤ → Affine
level_by parameters row = record { iterators = row; floors = []; parameters = zeros parameters; constant = pos 0 }

sign_at : (turns : List Turn) (k : ℕ) (t : Turn) → k < length turns → get_or (signs turns) k (pos 0) ≡ sign (get_or turns k t).direction
sign_at [] k t l = absurd (omega (arith, l))
sign_at (u ∷ turns) zero t l = refl
sign_at (u ∷ turns) (suc k) t l = sign_at turns k t (omega (arith, l))

pub next_level : (parameters : ℕ) (turns : List Turn) (k : ℕ) (t : Turn) → k < length turns
    → take (suc k) (levels parameters (signs turns)) ≡ take k (levels parameters (signs turns)) ++ record { iterators = unit (length turns) k (sign (get_or turns k t).direction); floors = []; parameters = zeros parameters; constant = pos 0 } ∷ []
unfolding level_by
next_level parameters turns k t l =
    let same : length (signs turns) ≡ length turns = length-map turns (λ t. sign t.direction) in
    take_map (level_by parameters) (suc k) (diagonal (signs turns))
    ∙ ap (λ rows. map (level_by parameters) rows) (diagonal_row (signs turns) k (pos 0) (omega (arith, l, same)))
    ∙ map_push (level_by parameters) (take k (diagonal (signs turns))) (unit (length (signs turns)) k (get_or (signs turns) k (pos 0)))
    ∙ ap (λ rows. rows ++ level_by parameters (unit (length (signs turns)) k (get_or (signs turns) k (pos 0))) ∷ []) (sym (take_map (level_by parameters) k (diagonal (signs turns))))
    ∙ ap (λ n. take k (levels parameters (signs turns)) ++ level_by parameters (unit n k (get_or (signs turns) k (pos 0))) ∷ []) same
    ∙ ap (λ z. take k (levels parameters (signs turns)) ++ level_by parameters (unit (length turns) k z) ∷ []) (sign_at turns k t l)

pub all_levels : (parameters : ℕ) (turns : List Turn) → length (levels parameters (signs turns)) ≡ length turns
all_levels parameters turns =
    length-map (diagonal (signs turns)) (λ row. record { iterators = row; floors = []; parameters = zeros parameters; constant = pos 0 }) ∙ length_diagonal (signs turns) ∙ length-map turns (λ t. sign t.direction)
