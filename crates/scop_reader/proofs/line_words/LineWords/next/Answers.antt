use Rattle.std.proofs.Common.{◌∙◌, ◌+◌, drop, sym}
use Rattle.scop_reader.proofs.WordColumns.{first_column, no_columns}
use Rattle.scop_reader.proofs.line_words.LineWords.next.Goals as goal

pub returns-in_default : goal.returns-in_default
returns-in_default c =
    let none = sym c.self.view_is ∙ no_columns (c.self.inside.at + 1) (drop c.self.inside.at c.self.inside.line.now) c.in_default.ensures in
    (none, none)

pub returns : goal.returns
returns c = sym c.self.view_is ∙ first_column c.self.inside.line.now c.self.inside.at c.in-Some.start c.in-Some.end c.in-Some.ensures
