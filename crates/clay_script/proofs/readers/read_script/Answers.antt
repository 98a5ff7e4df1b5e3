use Rattle.std.proofs.Common.{List, ℕ, subst}
use Rattle.suite_base.specs.Places.{first_place}
use Rattle.clay_script.specs.Lexemes.{lexemes, lexemes_of}
use Rattle.clay_script.specs.Reading.{Answers, commands_at}
use Rattle.clay_script.proofs.Answers.{text_is, found_is, only_is, refused_is, first_is}
use Rattle.clay_script.proofs.readers.read_script.Goals as goal
use Rattle.clay_script.proofs.readers.read_script.Goals.{After-read_commands}

-- the commands were read from the whole text
whole : (c : After-read_commands) → Answers c.read_commands.result (commands_at 4096 (lexemes_of c.args.bytes.now))
whole c =
    subst (λ (bytes : List ℕ). Answers c.read_commands.result (commands_at 4096 (lexemes 0 first_place bytes))) c.new-lexer.ensures.rest
    (subst (λ at. Answers c.read_commands.result (commands_at 4096 (lexemes 0 at c.new-lexer.result.rest.now))) c.new-lexer.ensures.place c.read_commands.ensures)

pub returns-clause-found : goal.returns-clause-found
returns-clause-found c = found_is 4096 (lexemes_of c.args.bytes.now) c.read_commands.result (text_is 0 first_place c.args.bytes.now) (whole c)

pub returns-clause-only : goal.returns-clause-only
returns-clause-only c = λ script e le. only_is 4096 (lexemes_of c.args.bytes.now) c.read_commands.result script (whole c) e le

pub returns-clause-refused : goal.returns-clause-refused
returns-clause-refused c = refused_is 4096 (lexemes_of c.args.bytes.now) c.read_commands.result (text_is 0 first_place c.args.bytes.now) (whole c)

pub returns-clause-first : goal.returns-clause-first
returns-clause-first c = λ refusal f. first_is 4096 (lexemes_of c.args.bytes.now) c.read_commands.result refusal (text_is 0 first_place c.args.bytes.now) (whole c) f
