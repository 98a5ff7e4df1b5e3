-- The SCoP with densely numbered beta vectors in place of its own.
use Rattle.std.specs.Prelude.{List, map, ℤ, pos}
use Rattle.row_core.specs.Dense.{dense_among}
use Rattle.scop_data.specs.declared.statements.Statement.{Statement}
use Rattle.scop_data.specs.ScopData.{ScopData, betas_in}

-- the beta vector p numbered densely among these vectors
abbrev pub dense_vector : List (List ℤ) → List ℤ → List ℤ
dense_vector vectors p = map pos (dense_among vectors p)

-- the statement with this beta vector
abbrev pub with_betas : List ℤ → Statement → Statement
with_betas betas s = record s { schedule = record s.schedule { betas = betas } }

-- the statement with its beta vector numbered densely among these vectors
abbrev pub dense_statement : List (List ℤ) → Statement → Statement
dense_statement vectors s = with_betas (dense_vector vectors s.schedule.betas) s

-- the SCoP with its beta vectors numbered densely
abbrev pub densely_numbered : ScopData → ScopData
densely_numbered S = record S { statements = map (λ s. dense_statement (betas_in S.statements) s) S.statements }
