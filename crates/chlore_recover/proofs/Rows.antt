-- Worked rows of what the script makes of the original's statements.
use Rattle.std.proofs.Common.{◌≡◌, ℕ, ℤ, pos, None, List, [], ◌∷◌, refl}
use Rattle.std.specs.Prelude.{codes}
use Rattle.scop_data.specs.declared.affines.Affine.{Affine}
use Rattle.scop_data.specs.declared.statements.Statement.{Statement}
use Rattle.scop_core.specs.ScopData.{ScopData, betas_in}
use Rattle.scop_core.specs.Meaning.{statement_at, interleaved}
use Rattle.row_core.specs.Dense.{dense_of}
use Rattle.clay_script.specs.declared.commands.Command.TheVariants.{Fission, Fuse, Reorder, Interchange, Skew}
use Rattle.clay_commands.specs.Spots.{edits, stamp_at, vector_at, values_in}
use Rattle.clay_commands.specs.Afters.{refusal_of}
use Rattle.chlore_recover.specs.Strategy.{as_prefix, strategy}

-- a SCoP of these statements with one parameter
abbrev scop : List Statement → ScopData
scop statements = record {
  language = codes "C";
  context = record { shape = record { outputs = 0; inputs = 0; locals = 0; parameters = 1 }; rows = [] };
  parameters = None;
  statements = statements;
  arrays = None;
  extensions = [];
}

-- a form of iterators alone
abbrev form : List ℤ → Affine
form iterators = record { iterators = iterators; floors = []; parameters = pos 0 ∷ []; constant = pos 0 }

-- a statement with these iterators, levels and betas
abbrev statement : List (List ℕ) → List Affine → List ℤ → Statement
statement names levels betas = record {
  domain = [];
  schedule = record { floors = []; levels = levels; betas = betas };
  accesses = [];
  body = record { text = codes "S"; iterators = names };
  extensions = [];
}

-- the stamp in T that the script is to give statement number k at x and n
abbrev wanted : ScopData → ℕ → List ℤ → List ℤ → List ℤ
wanted T k x n = interleaved (as_prefix (vector_at (dense_of (betas_in T.statements)) k)) (values_in (statement_at T.statements k) x n)

-- i and j in one nest, and the same statement with the levels i + j and i
abbrev nest : ScopData
nest = scop (statement (codes "i" ∷ (codes "j" ∷ [])) (form (pos 1 ∷ (pos 0 ∷ [])) ∷ (form (pos 0 ∷ (pos 1 ∷ [])) ∷ [])) (pos 0 ∷ (pos 0 ∷ (pos 0 ∷ []))) ∷ [])

abbrev skewed_nest : ScopData
skewed_nest = scop (statement (codes "i" ∷ (codes "j" ∷ [])) (form (pos 1 ∷ (pos 1 ∷ [])) ∷ (form (pos 1 ∷ (pos 0 ∷ [])) ∷ [])) (pos 0 ∷ (pos 0 ∷ (pos 0 ∷ []))) ∷ [])

nest_script : strategy nest skewed_nest ≡ Skew (pos 0 ∷ []) (pos 2) (pos 1) (pos 1) ∷ (Interchange (pos 0 ∷ []) (pos 1) (pos 2) ∷ [])
nest_script = refl

nest_unrefused : refusal_of nest (strategy nest skewed_nest) ≡ None
nest_unrefused = refl

nest_stamp : stamp_at (edits nest (strategy nest skewed_nest) 1 (pos 5 ∷ (pos 7 ∷ [])) (pos 9 ∷ [])) ≡ pos 0 ∷ (pos 12 ∷ (pos 0 ∷ (pos 5 ∷ (pos 0 ∷ []))))
nest_stamp = refl

nest_wanted : wanted skewed_nest 1 (pos 5 ∷ (pos 7 ∷ [])) (pos 9 ∷ []) ≡ pos 0 ∷ (pos 12 ∷ (pos 0 ∷ (pos 5 ∷ (pos 0 ∷ []))))
nest_wanted = refl

-- two statements in a loop and one in a loop behind it; the third joins the first, with sparse betas
abbrev in_loop : List ℤ → Statement
in_loop betas = statement (codes "i" ∷ []) (form (pos 1 ∷ []) ∷ []) betas

abbrev loops : ScopData
loops = scop (in_loop (pos 0 ∷ (pos 0 ∷ [])) ∷ (in_loop (pos 0 ∷ (pos 1 ∷ [])) ∷ (in_loop (pos 1 ∷ (pos 0 ∷ [])) ∷ [])))

abbrev other_loops : ScopData
other_loops = scop (in_loop (pos 2 ∷ (pos 0 ∷ [])) ∷ (in_loop (pos 7 ∷ (pos 0 ∷ [])) ∷ (in_loop (pos 2 ∷ (pos 4 ∷ [])) ∷ [])))

loops_script : strategy loops other_loops ≡ Fission (pos 0 ∷ []) (pos 1) ∷ (Reorder [] (pos 0 ∷ (pos 2 ∷ (pos 1 ∷ []))) ∷ (Fuse (pos 0 ∷ []) ∷ []))
loops_script = refl

loops_unrefused : refusal_of loops (strategy loops other_loops) ≡ None
loops_unrefused = refl

second_number : (edits loops (strategy loops other_loops) 2 (pos 5 ∷ []) (pos 9 ∷ [])).spot.number ≡ 2
second_number = refl

second_stamp : stamp_at (edits loops (strategy loops other_loops) 2 (pos 5 ∷ []) (pos 9 ∷ [])) ≡ pos 1 ∷ (pos 5 ∷ (pos 0 ∷ []))
second_stamp = refl

third_stamp : stamp_at (edits loops (strategy loops other_loops) 3 (pos 5 ∷ []) (pos 9 ∷ [])) ≡ pos 0 ∷ (pos 5 ∷ (pos 1 ∷ []))
third_stamp = refl

third_wanted : wanted other_loops 3 (pos 5 ∷ []) (pos 9 ∷ []) ≡ pos 0 ∷ (pos 5 ∷ (pos 1 ∷ []))
third_wanted = refl
