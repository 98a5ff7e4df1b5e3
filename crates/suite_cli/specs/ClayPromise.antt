-- What `clay` promises of the texts of its files: a script, and a SCoP.
use Rattle.std.specs.Prelude.{◌≡◌, ◌⊎◌, ◌≤◌, ℕ, ℤ, List, length, None, Some}
use Rattle.suite_base.specs.declared.refusals.Refusal.{Refusal}
use Rattle.suite_base.specs.Limits.{max_commands}
use Rattle.scop_core.specs.ScopData.{ScopData}
use Rattle.scop_core.specs.Layouts.{layout}
use Rattle.scop_reader.specs.Texts.{IsScopText, fault}
use Rattle.clay_script.specs.declared.commands.Command.{Command}
use Rattle.clay_script.specs.Lexemes.{lexemes_of}
use Rattle.clay_script.specs.Grammar.{IsScript, FirstFault}
use Rattle.clay_commands.specs.Afters.{after_script, refusal_of}
use Rattle.edit_laws.specs.Stamping.{BringsInstances}
use Rattle.legality.specs.Answers.{IsAccepted}
use Rattle.legality.specs.Memories.{KeepsMemory}
use Rattle.demo.specs.Edits.{IsClear, IsScriptRefused, edited}
use Rattle.suite_cli.specs.declared.outcomes.Outcome.{Outcome}
use Rattle.suite_cli.specs.declared.outcomes.Outcome.TheVariants.{Memory, Refused}

-- a text of a script of no more commands than a script may have
pub record IsScriptText (text : List ℕ) (script : List Command) : Type 0 where
  pub text_is : IsScript text script
  pub few : length script ≤ max_commands

-- the script and the SCoP that the texts stand for
pub record AreTexts (first second : List ℕ) (script : List Command) (scop : ScopData) : Type 0 where
  pub script_text : IsScriptText first script
  pub scop_text : IsScopText second scop

-- the output is that of this script and SCoP
pub record IsEditedText (scop : ScopData) (script : List Command) (output : List ℕ) : Type 0 where
  pub unrefused : refusal_of scop script ≡ None
  pub accepted : IsAccepted (edited scop script)
  pub stamps : (n : List ℤ) → length n ≡ scop.context.shape.parameters → BringsInstances scop script n
  pub memory : KeepsMemory scop (after_script scop script).scop
  pub layout_is : output ≡ layout (after_script scop script).scop
  pub stands : IsScopText output (after_script scop script).scop

-- the output is the layout of the SCoP after the script, and a text of it: no command is refused, each instance is where the script
-- brings it and has the edited stamp, no violation system has a rational point, and for parameter values in context each run of the
-- old SCoP is joined by one of the new SCoP that ends with the same memory
pub record Makes (first second output : List ℕ) : Type 0 where
  pub script : List Command
  pub scop : ScopData
  pub texts : AreTexts first second script scop
  pub made : IsEditedText scop script output

-- it takes a script that no command of is refused, and that is clear
pub record Takes (first second : List ℕ) : Type 0 where
  pub script : List Command
  pub scop : ScopData
  pub texts : AreTexts first second script scop
  pub unrefused : refusal_of scop script ≡ None
  pub clear : IsClear (edited scop script)

-- a script and a SCoP are refused, and so are the texts that stand for them
pub record IsTogetherRefused (first second : List ℕ) (refusal : Refusal) : Type 0 where
  pub script : List Command
  pub scop : ScopData
  pub texts : AreTexts first second script scop
  pub refused : IsScriptRefused scop script refusal

-- the second text is refused by its first fault, after a script
pub record IsSecondRefused (first second : List ℕ) (refusal : Refusal) : Type 0 where
  pub script : List Command
  pub script_text : IsScriptText first script
  pub fault_is : fault second ≡ Some refusal

-- it refuses a first text that is no script by its first fault, then the second one, then both; the place is that of the file
abbrev pub Refuses : List ℕ → List ℕ → ℕ → Refusal → Type 0
Refuses first second place refusal =
    ((place ≡ 1) × FirstFault max_commands (lexemes_of first) refusal)
    ⊎ (((place ≡ 2) × IsSecondRefused first second refusal) ⊎ ((place ≡ 1) × IsTogetherRefused first second refusal))

-- why there is no output: memory was wanting, or the texts are refused so
abbrev pub IsStop : List ℕ → List ℕ → Outcome → Type 0
IsStop first second Memory = Unit {0}
IsStop first second (Refused place refusal) = Refuses first second place refusal
IsStop first second outcome = ⊥
