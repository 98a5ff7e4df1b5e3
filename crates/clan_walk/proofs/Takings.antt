-- Assignments taken one after the other, with what stands round each of them.
use Rattle.std.proofs.Common.{◌≡◌, ℕ, ◌+◌, List, [], ◌∷◌, ◌++◌, length, map, Bool, ◌&&◌, cond, refl, ◌∙◌, arith}
use Rattle.std.specs.Prelude.{nat_lt, nat_le, Option, None, is_none}
use Rattle.suite_base.specs.declared.refusals.Refusal.{Refusal}
use Rattle.scop_data.specs.declared.raw_pieces.RawStatement.{RawStatement}
use Rattle.scop_data.specs.Pieces.{statement_pieces}
use Rattle.scop_core.specs.Assembly.{or_else}
use Rattle.clan_extract.specs.Placements.{Placed, loop_names}
use Rattle.clan_extract.specs.Scops.{statement}
use Rattle.clan_extract.specs.Refusals.{statement_refusal}
use Rattle.clan_rows.specs.Layers.{LayerData}
use Rattle.clan_walk.specs.declared.turns.Turn.{Turn}
use Rattle.clan_walk.specs.declared.gathering.Accesses.{Accesses}
use Rattle.clan_walk.specs.Walk.{State, no_accesses}

-- how many statements were taken, their pieces, and the first refusal
pub record Taken : Type 0 where
  pub number : ℕ
  pub statements : List RawStatement
  pub refusal : Option Refusal

abbrev pub betas_of : List Turn → List ℕ
betas_of turns = map (λ t. t.beta) turns

module _ (parameters arrays : List (List ℕ)) where
  -- one more is taken
  abbrev pub can_take : Taken → Bool
  can_take out = (nat_le (length parameters) 16 && nat_le (length arrays) 4096) && (nat_lt out.number 1024 && is_none out.refusal)

  abbrev pub refusal_then : Placed → Taken → Option Refusal
  refusal_then p out = cond (can_take out) (statement_refusal parameters arrays (out.number + 1) p) None

  abbrev pub pieces_then : Placed → Taken → List RawStatement
  pieces_then p out =
      cond ((can_take out && nat_le (length (loop_names p.rounds)) 12) && is_none (refusal_then p out)) (statement_pieces (length parameters) (statement parameters arrays p) ∷ []) []

  unfoldable pub take : Placed → Taken → Taken
  take p out = record { number = out.number + 1; statements = out.statements ++ pieces_then p out; refusal = or_else out.refusal (refusal_then p out) }

  abbrev pub take_all : List Placed → Taken → Taken
  take_all [] out = out
  take_all (p ∷ ps) out = take_all ps (take p out)

  pub take_append : (ps qs : List Placed) (out : Taken) → take_all (ps ++ qs) out ≡ take_all qs (take_all ps out)
  take_append [] qs out = refl
  take_append (p ∷ ps) qs out = take_append ps qs (take p out)

  pub take_number : (ps : List Placed) (out : Taken) → (take_all ps out).number ≡ out.number + length ps
  unfolding take
  take_number [] out = omega arith
  take_number (p ∷ ps) out = take_number ps (take p out) ∙ omega arith

  -- a place of the walk
  abbrev pub place_with : List (List ℕ) → List Turn → ℕ → List LayerData → Accesses → Taken → State
  place_with loops turns next layers a out = record {
    parameters = parameters;
    arrays = arrays;
    loops = loops;
    turns = turns;
    next = next;
    layers = layers;
    number = out.number;
    accesses = a;
    statements = out.statements;
    refusal = out.refusal;
  }

  abbrev pub place : List (List ℕ) → List Turn → ℕ → List LayerData → Taken → State
  place loops turns next layers out = place_with loops turns next layers no_accesses out
