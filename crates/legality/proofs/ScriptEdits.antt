-- A script of which no condition fails makes an edit, and one that keeps the instances.
use Rattle.std.proofs.Common.{ℕ, List, [], ◌∷◌, length, ap, sym}
use Rattle.std.specs.Prelude.{Option, Some, None, IsSomeAnd}
use Rattle.scop_data.specs.declared.statements.Statement.{Statement}
use Rattle.scop_core.specs.ScopData.{ScopData}
use Rattle.scop_core.specs.Validity.{IsValid}
use Rattle.scop_core.proofs.ClashFree.{valid_schedules}
use Rattle.dependence_systems.specs.Sides.{member}
use Rattle.clay_script.specs.declared.commands.Command.{Command}
use Rattle.clay_commands.specs.Afters.{after_script, IsFormed}
use Rattle.edit_laws.specs.Keeping as keeping
use Rattle.edit_laws.proofs.Instances.{scripts_keep_instances, scripts_make_no_ties}
use Rattle.legality.specs.Violations.{edit_of}
use Rattle.legality.specs.Edits.{IsPieceOf, ArePiecesOf, IsEdit, KeepsInstances}

one_piece : (o : Option Statement) (s : Statement) → IsSomeAnd o (λ original. keeping.IsPieceOf original s) → IsSomeAnd o (λ original. IsPieceOf original s)
one_piece None s h = h
one_piece (Some original) s h = record { iterators = ap (λ b. length b.iterators) (sym h.body); floors = h.floors }

pieces : (old now : List Statement) (of : List ℕ) → keeping.ArePiecesOf old now of → ArePiecesOf old now of
pieces old [] [] h = tt
pieces old [] (k ∷ of) h = absurd h
pieces old (s ∷ now) [] h = absurd h
pieces old (s ∷ now) (k ∷ of) h = (one_piece (member old k) s h.0, pieces old now of h.1)

pub is_edit : (S : ScopData) (script : List Command) → IsValid S → IsFormed S script → IsValid (after_script S script).scop → IsEdit (edit_of S (after_script S script))
is_edit S script valid formed now_valid =
    let kept = scripts_keep_instances S script valid formed in
    record {
      old_valid = valid;
      now_valid = now_valid;
      context = kept.context;
      pieces = pieces S.statements (after_script S script).scop.statements (after_script S script).of kept.pieces;
    }

pub keeps : (S : ScopData) (script : List Command) → IsValid S → IsFormed S script → IsValid (after_script S script).scop → KeepsInstances (edit_of S (after_script S script))
keeps S script valid formed now_valid =
    let kept = scripts_keep_instances S script valid formed in
    record {
      edit = is_edit S script valid formed now_valid;
      instances = kept.instances;
      no_ties = λ n L sized run. scripts_make_no_ties S script valid formed (valid_schedules (after_script S script).scop now_valid) n L sized run;
    }
