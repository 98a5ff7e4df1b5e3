use Rattle.std.proofs.Common.{◌≡◌, ℕ, List, length, slice_get, None, Some, sym, ap, ◌∙◌, ◌+◌, arith}
use Rattle.suite_cli.specs.Commands.{command_of, files_of}
use Rattle.suite_cli.specs.Worlds.{Inputs, inputs_of}
use Rattle.suite_cli.proofs.FileLists.{ReadsOne, files_stay, input_stays, read_ends, read_more, read_to_end, reads_one}
use Rattle.suite_cli.proofs.readings.read_files.Goals as goal

pub loop-file-preserved : goal.loop-file-preserved
loop-file-preserved g c =
    let named : List (List ℕ) = files_of (command_of c.args.work.now) in
    let next : slice_get named (length c.loop-file.texts) ≡ Some c.in-Some.file.now = ap (slice_get named) (sym c.len.ensures) ∙ c.in-Some.ensures.word in
    let told = c.in-Ok.ensures in
    let before : Inputs = inputs_of g.F.Files g.I.Source c.args.files.now c.args.input.now in
    let now : Inputs = inputs_of g.F.Files g.I.Source c.loop-file.files c.loop-file.input in
    let after : Inputs = inputs_of g.F.Files g.I.Source c.read_next.new.files c.read_next.new.input in
    let one : ReadsOne now after c.in-Some.file.now
    = reads_one g.F.Files.held g.F.Files.faults g.I.Source.left g.I.Source.faults _ _ _ _ _ told.held told.untouched told.unread told.opening told.reading in
    record {
      read = read_more before now after named c.loop-file.texts c.read_next.new.texts c.in-Some.file.now told.read.0 c.loop-file.invariant.read next c.requires told.read.1 one told.read.2;
      held = told.held ∙ c.loop-file.invariant.held;
      untouched = files_stay _ _ _ named (length c.loop-file.texts) _ next c.loop-file.invariant.untouched told.untouched;
      unread = input_stays _ _ _ named (length c.loop-file.texts) _ next c.loop-file.invariant.unread told.unread;
    }

pub returns-in-Err-clause-stopped : goal.returns-in-Err-clause-stopped
returns-in-Err-clause-stopped g c =
    let named : List (List ℕ) = files_of (command_of c.args.work.now) in
    let next : slice_get named (length c.loop-file.texts) ≡ Some c.in-Some.file.now = ap (slice_get named) (sym c.len.ensures) ∙ c.in-Some.ensures.word in
    let told = c.in-Err.ensures in
    let before : Inputs = inputs_of g.F.Files g.I.Source c.args.files.now c.args.input.now in
    let now : Inputs = inputs_of g.F.Files g.I.Source c.loop-file.files c.loop-file.input in
    let after : Inputs = inputs_of g.F.Files g.I.Source c.read_next.new.files c.read_next.new.input in
    let one : ReadsOne now after c.in-Some.file.now
    = reads_one g.F.Files.held g.F.Files.faults g.I.Source.left g.I.Source.faults _ _ _ _ _ told.held told.untouched told.unread told.opening told.reading in
    let place : c.len-in-Some.result + 1 ≡ length c.loop-file.texts + 1 = omega arith in
    rw (c.unread_at.ensures) (read_ends before now after named c.loop-file.texts (c.len-in-Some.result + 1) c.in-Err.fail c.in-Some.file.now c.loop-file.invariant.read next c.requires place one told.cause)

pub returns-clause-read : goal.returns-clause-read
returns-clause-read g c =
    let named : List (List ℕ) = files_of (command_of c.args.work.now) in
    let before : Inputs = inputs_of g.F.Files g.I.Source c.args.files.now c.args.input.now in
    let now : Inputs = inputs_of g.F.Files g.I.Source c.loop-file.files c.loop-file.input in
    let done : slice_get named (length c.loop-file.texts) ≡ None = ap (slice_get named) (sym c.len.ensures) ∙ c.in_default.ensures.word in
    read_to_end before now named c.loop-file.texts c.loop-file.invariant.read done
