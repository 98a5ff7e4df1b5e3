-- The SCoP after a script, and when there is one.
use Rattle.std.specs.Prelude.{◌≡◌, pos, true, Option, List, [], map}
use Rattle.suite_base.specs.declared.refusals.Refusal.{Refusal}
use Rattle.scop_data.specs.declared.statements.Statement.{Statement}
use Rattle.scop_core.specs.ScopData.{ScopData}
use Rattle.clay_script.specs.declared.commands.Command.{Command}
use Rattle.clay_commands.specs.declared.edited.Edited.{Edited}
use Rattle.clay_commands.specs.declared.leaves.Leaf.{Leaf}
use Rattle.clay_commands.specs.Drafts.{Draft, drafted, drafts_after}
use Rattle.clay_commands.specs.Refusals.{first_refusal, is_formed}

-- the statement of a leaf, with the leaf's vector and without extensions
abbrev pub closed_leaf : Leaf → Statement
closed_leaf leaf = record leaf.statement {
  schedule = record leaf.statement.schedule { betas = map (λ b. pos b) leaf.beta };
  extensions = [];
}

-- the SCoP of these leaves: all else is as in S, but for its extensions
abbrev pub closed : ScopData → Draft → ScopData
closed S D = record S { statements = map closed_leaf D; extensions = [] }

-- the SCoP after a script, and the statement of S that each of its statements comes from
abbrev pub after_script : ScopData → List Command → Edited
after_script S script =
    let D = drafts_after script (drafted S)
    in record { scop = closed S D; of = map (λ leaf. leaf.original) D }

-- no condition of the script fails
abbrev pub IsFormed : ScopData → List Command → Type 0
IsFormed S script = is_formed S.context.shape.parameters script (drafted S) ≡ true

-- the first refusal of a script
abbrev pub refusal_of : ScopData → List Command → Option Refusal
refusal_of S script = first_refusal S.context.shape.parameters 1 script (drafted S)
