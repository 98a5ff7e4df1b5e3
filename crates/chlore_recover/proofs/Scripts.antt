-- Worked cases of the whole script.
use Rattle.std.proofs.Common.{◌≡◌, ℕ, ◌-◌, ◌^◌, ℤ, pos, negsuc, None, List, [], ◌∷◌, refl}
use Rattle.std.specs.Prelude.{codes}
use Rattle.clay_script.specs.declared.commands.Command.TheVariants.{Fission, Fuse, Reorder, Interchange, Reverse}
use Rattle.relation_core.specs.Systems.{System}
use Rattle.scop_data.specs.declared.affines.Affine.{Affine}
use Rattle.scop_data.specs.declared.statements.Statement.{Statement}
use Rattle.scop_core.specs.ScopData.{ScopData}
use Rattle.chlore_recover.specs.Strategy.{strategy}

-- a SCoP of these statements with so many parameters
abbrev scop_with : ℕ → List Statement → ScopData
scop_with parameters statements = record {
  language = codes "C";
  context = record { shape = record { outputs = 0; inputs = 0; locals = 0; parameters = parameters }; rows = [] };
  parameters = None;
  statements = statements;
  arrays = None;
  extensions = [];
}

-- a form without floors
abbrev form : List ℤ → List ℤ → ℤ → Affine
form iterators parameters constant = record { iterators = iterators; floors = []; parameters = parameters; constant = constant }

-- a statement with these iterators, levels and betas
abbrev statement_with : List System → List (List ℕ) → List Affine → List ℤ → Statement
statement_with domain names levels betas = record {
  domain = domain;
  schedule = record { floors = []; levels = levels; betas = betas };
  accesses = [];
  body = record { text = codes "S"; iterators = names };
  extensions = [];
}

-- the greatest coefficient
abbrev greatest : ℤ
greatest = pos (2 ^ 127 - 1)

-- its negative
abbrev least : ℤ
least = negsuc (2 ^ 127 - 2)

-- two statements in a loop, one in a loop behind it; the third joins the first
reordered_tree : strategy (scop_with 0 (statement_with [] ((codes "i" ∷ [])) (form (pos 1 ∷ []) [] (pos 0) ∷ []) (pos 0 ∷ (pos 0 ∷ [])) ∷ (statement_with [] ((codes "i" ∷ [])) (form (pos 1 ∷ []) [] (pos 0) ∷ []) (pos 0 ∷ (pos 1 ∷ [])) ∷ (statement_with [] ((codes "i" ∷ [])) (form (pos 1 ∷ []) [] (pos 0) ∷ []) (pos 1 ∷ (pos 0 ∷ [])) ∷ [])))) (scop_with 0 (statement_with [] ((codes "i" ∷ [])) (form (pos 1 ∷ []) [] (pos 0) ∷ []) (pos 0 ∷ (pos 0 ∷ [])) ∷ (statement_with [] ((codes "i" ∷ [])) (form (pos 1 ∷ []) [] (pos 0) ∷ []) (pos 1 ∷ (pos 0 ∷ [])) ∷ (statement_with [] ((codes "i" ∷ [])) (form (pos 1 ∷ []) [] (pos 0) ∷ []) (pos 0 ∷ (pos 1 ∷ [])) ∷ [])))) ≡ (Fission (pos 0 ∷ []) (pos 1) ∷ (Reorder [] (pos 0 ∷ (pos 2 ∷ (pos 1 ∷ []))) ∷ (Fuse (pos 0 ∷ []) ∷ [])))
reordered_tree = refl

-- the same schedules may give commands
same_tree : strategy (scop_with 0 (statement_with [] ((codes "i" ∷ [])) (form (pos 1 ∷ []) [] (pos 0) ∷ []) (pos 0 ∷ (pos 0 ∷ [])) ∷ (statement_with [] ((codes "i" ∷ [])) (form (pos 1 ∷ []) [] (pos 0) ∷ []) (pos 0 ∷ (pos 1 ∷ [])) ∷ (statement_with [] ((codes "i" ∷ [])) (form (pos 1 ∷ []) [] (pos 0) ∷ []) (pos 1 ∷ (pos 0 ∷ [])) ∷ [])))) (scop_with 0 (statement_with [] ((codes "i" ∷ [])) (form (pos 1 ∷ []) [] (pos 0) ∷ []) (pos 0 ∷ (pos 0 ∷ [])) ∷ (statement_with [] ((codes "i" ∷ [])) (form (pos 1 ∷ []) [] (pos 0) ∷ []) (pos 0 ∷ (pos 1 ∷ [])) ∷ (statement_with [] ((codes "i" ∷ [])) (form (pos 1 ∷ []) [] (pos 0) ∷ []) (pos 1 ∷ (pos 0 ∷ [])) ∷ [])))) ≡ (Fission (pos 0 ∷ []) (pos 1) ∷ (Fuse (pos 0 ∷ []) ∷ []))
same_tree = refl

-- a nest of loops
same_nest : strategy (scop_with 0 (statement_with [] ((codes "i" ∷ [])) (form (pos 1 ∷ []) [] (pos 0) ∷ []) (pos 0 ∷ (pos 0 ∷ [])) ∷ (statement_with [] ((codes "i" ∷ (codes "j" ∷ []))) (form (pos 1 ∷ (pos 0 ∷ [])) [] (pos 0) ∷ (form (pos 0 ∷ (pos 1 ∷ [])) [] (pos 0) ∷ [])) (pos 0 ∷ (pos 1 ∷ (pos 0 ∷ []))) ∷ (statement_with [] ((codes "i" ∷ (codes "j" ∷ []))) (form (pos 1 ∷ (pos 0 ∷ [])) [] (pos 0) ∷ (form (pos 0 ∷ (pos 1 ∷ [])) [] (pos 0) ∷ [])) (pos 0 ∷ (pos 1 ∷ (pos 1 ∷ []))) ∷ [])))) (scop_with 0 (statement_with [] ((codes "i" ∷ [])) (form (pos 1 ∷ []) [] (pos 0) ∷ []) (pos 0 ∷ (pos 0 ∷ [])) ∷ (statement_with [] ((codes "i" ∷ (codes "j" ∷ []))) (form (pos 1 ∷ (pos 0 ∷ [])) [] (pos 0) ∷ (form (pos 0 ∷ (pos 1 ∷ [])) [] (pos 0) ∷ [])) (pos 0 ∷ (pos 1 ∷ (pos 0 ∷ []))) ∷ (statement_with [] ((codes "i" ∷ (codes "j" ∷ []))) (form (pos 1 ∷ (pos 0 ∷ [])) [] (pos 0) ∷ (form (pos 0 ∷ (pos 1 ∷ [])) [] (pos 0) ∷ [])) (pos 0 ∷ (pos 1 ∷ (pos 1 ∷ []))) ∷ [])))) ≡ (Fission (pos 0 ∷ (pos 1 ∷ [])) (pos 1) ∷ (Fission (pos 0 ∷ []) (pos 1) ∷ (Fission (pos 1 ∷ []) (pos 1) ∷ (Fuse (pos 0 ∷ []) ∷ (Fuse (pos 0 ∷ []) ∷ (Fuse (pos 0 ∷ (pos 1 ∷ [])) ∷ []))))))
same_nest = refl

-- a cycle of three: order lists the old ranks
turned_nest : strategy (scop_with 0 (statement_with [] ((codes "i" ∷ [])) (form (pos 1 ∷ []) [] (pos 0) ∷ []) (pos 0 ∷ (pos 0 ∷ [])) ∷ (statement_with [] ((codes "i" ∷ (codes "j" ∷ []))) (form (pos 1 ∷ (pos 0 ∷ [])) [] (pos 0) ∷ (form (pos 0 ∷ (pos 1 ∷ [])) [] (pos 0) ∷ [])) (pos 0 ∷ (pos 1 ∷ (pos 0 ∷ []))) ∷ (statement_with [] ((codes "i" ∷ (codes "j" ∷ []))) (form (pos 1 ∷ (pos 0 ∷ [])) [] (pos 0) ∷ (form (pos 0 ∷ (pos 1 ∷ [])) [] (pos 0) ∷ [])) (pos 0 ∷ (pos 1 ∷ (pos 1 ∷ []))) ∷ [])))) (scop_with 0 (statement_with [] ((codes "i" ∷ [])) (form (pos 1 ∷ []) [] (pos 0) ∷ []) (pos 1 ∷ (pos 0 ∷ [])) ∷ (statement_with [] ((codes "i" ∷ (codes "j" ∷ []))) (form (pos 1 ∷ (pos 0 ∷ [])) [] (pos 0) ∷ (form (pos 0 ∷ (pos 1 ∷ [])) [] (pos 0) ∷ [])) (pos 0 ∷ (pos 0 ∷ (pos 0 ∷ []))) ∷ (statement_with [] ((codes "i" ∷ (codes "j" ∷ []))) (form (pos 1 ∷ (pos 0 ∷ [])) [] (pos 0) ∷ (form (pos 0 ∷ (pos 1 ∷ [])) [] (pos 0) ∷ [])) (pos 0 ∷ (pos 1 ∷ (pos 0 ∷ []))) ∷ [])))) ≡ (Fission (pos 0 ∷ (pos 1 ∷ [])) (pos 1) ∷ (Fission (pos 0 ∷ []) (pos 1) ∷ (Fission (pos 1 ∷ []) (pos 1) ∷ (Reorder [] (pos 1 ∷ (pos 2 ∷ (pos 0 ∷ []))) ∷ (Fuse (pos 0 ∷ []) ∷ [])))))
turned_nest = refl

-- betas of any size; ranks go by the original's order
sparse_betas : strategy (scop_with 0 (statement_with [] ((codes "i" ∷ [])) (form (pos 1 ∷ []) [] (pos 0) ∷ []) (greatest ∷ (pos 0 ∷ [])) ∷ (statement_with [] ((codes "i" ∷ (codes "j" ∷ []))) (form (pos 1 ∷ (pos 0 ∷ [])) [] (pos 0) ∷ (form (pos 0 ∷ (pos 1 ∷ [])) [] (pos 0) ∷ [])) (least ∷ (pos 3 ∷ (pos 3 ∷ []))) ∷ []))) (scop_with 0 (statement_with [] ((codes "i" ∷ [])) (form (negsuc 0 ∷ []) [] (pos 0) ∷ []) (pos 0 ∷ (pos 0 ∷ [])) ∷ (statement_with [] ((codes "i" ∷ (codes "j" ∷ []))) (form (pos 0 ∷ (pos 1 ∷ [])) [] (pos 0) ∷ (form (pos 1 ∷ (pos 0 ∷ [])) [] (pos 0) ∷ [])) (pos 0 ∷ (pos 1 ∷ (pos 0 ∷ []))) ∷ []))) ≡ (Interchange (pos 0 ∷ []) (pos 1) (pos 2) ∷ (Reverse (pos 1 ∷ []) (pos 1) ∷ (Reorder [] (pos 1 ∷ (pos 0 ∷ [])) ∷ (Fuse (pos 0 ∷ []) ∷ []))))
sparse_betas = refl

-- a downward loop is reversed twice
downward : strategy (scop_with 0 (statement_with [] ((codes "i" ∷ [])) (form (negsuc 0 ∷ []) [] (pos 0) ∷ []) (pos 0 ∷ (pos 0 ∷ [])) ∷ [])) (scop_with 0 (statement_with [] ((codes "i" ∷ [])) (form (negsuc 0 ∷ []) [] (pos 0) ∷ []) (pos 0 ∷ (pos 0 ∷ [])) ∷ [])) ≡ (Reverse (pos 0 ∷ []) (pos 1) ∷ (Reverse (pos 0 ∷ []) (pos 1) ∷ []))
downward = refl

-- no statements
no_statements : strategy (scop_with 0 []) (scop_with 0 []) ≡ []
no_statements = refl

-- statements without iterators
no_iterators : strategy (scop_with 0 (statement_with [] ([]) [] (pos 1 ∷ []) ∷ (statement_with [] ([]) [] (pos 0 ∷ []) ∷ []))) (scop_with 0 (statement_with [] ([]) [] (pos 0 ∷ []) ∷ (statement_with [] ([]) [] (pos 1 ∷ []) ∷ []))) ≡ (Reorder [] (pos 1 ∷ (pos 0 ∷ [])) ∷ [])
no_iterators = refl
