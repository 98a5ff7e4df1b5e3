use Rattle.std.proofs.Common.{◌∙◌, ◌≤◌, ℕ, List, ap, length, refl, subst, sym}
use Rattle.std.specs.List.{All}
use Rattle.suite_base.specs.Limits.{max_input}
use Rattle.suite_cli.specs.Commands.{Command, command_of, files_of}
use Rattle.suite_cli.specs.Reads.{ReadWhole}
use Rattle.suite_cli.specs.Worlds.{Inputs, World, inputs_of, world_of}
use Rattle.suite_cli.proofs.FileLists.{all_short, same_number}
use Rattle.suite_cli.proofs.RunAnswers.{refused_answers, unread_answers}
use Rattle.suite_cli.proofs.runs.run_work.Goals as goal

pub returns-in-Err-output_of-clause-answers : goal.returns-in-Err-output_of-clause-answers
returns-in-Err-output_of-clause-answers g c =
    let command : Command = command_of c.args.work.now in
    let before : World = world_of g.F.Files g.I.Source g.O.Sink c.args.files.now c.args.input.now c.args.out.now in
    let now : World = world_of g.F.Files g.I.Source g.O.Sink c.read_files.new.files c.read_files.new.input c.args.out.now in
    let stop = c.in-Err-output_of.ensures.err in
    refused_answers command before now c.in-Ok.texts c.in-Err-output_of.refused refl c.in-Ok.ensures.read (rw (← c.as_slice.ensures) stop)

pub output_of-requires : goal.output_of-requires
output_of-requires g c =
    let named : List (List ℕ) = files_of (command_of c.args.work.now) in
    let before : Inputs = inputs_of g.F.Files g.I.Source c.args.files.now c.args.input.now in
    let now : Inputs = inputs_of g.F.Files g.I.Source c.read_files.new.files c.read_files.new.input in
    let Short : List (List ℕ) → Type 0 = λ texts. All (λ text. length text ≤ max_input) texts in
    record {
      many = ap length c.as_slice.ensures ∙ same_number (ReadWhole before now) named c.in-Ok.texts c.in-Ok.ensures.read;
      short = subst Short (sym c.as_slice.ensures) (all_short before now named c.in-Ok.texts c.in-Ok.ensures.read);
      loops = c.requires.loops;
    }

pub returns-in-Err-clause-answers : goal.returns-in-Err-clause-answers
returns-in-Err-clause-answers g c =
    let command : Command = command_of c.args.work.now in
    let before : World = world_of g.F.Files g.I.Source g.O.Sink c.args.files.now c.args.input.now c.args.out.now in
    let now : World = world_of g.F.Files g.I.Source g.O.Sink c.read_files.new.files c.read_files.new.input c.args.out.now in
    unread_answers command before now c.in-Err.unread refl c.in-Err.ensures.stopped
