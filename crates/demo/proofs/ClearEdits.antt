-- A script of which no command is refused, and whose edit is clear, is not refused.
use Rattle.std.proofs.Common.{◌≡◌, inl, inr, ℕ, ◌<◌, ◌≤◌, ◌^◌, List, [], ◌∷◌, ◌++◌, None, subst, arith}
use Rattle.suite_base.specs.Limits.{max_stage_rows}
use Rattle.suite_base.specs.declared.refusals.Refusal.{Refusal}
use Rattle.suite_base.specs.declared.refusals.Refusal.TheVariants.{Illegal, Limit, Overflow, TooManyRows}
use Rattle.scop_core.specs.ScopData.{ScopData}
use Rattle.clay_script.specs.declared.commands.Command.{Command}
use Rattle.clay_commands.specs.Afters.{refusal_of}
use Rattle.legality.specs.Violations.{Edit, Violation, violation_peak}
use Rattle.legality.specs.Answers as legal
use Rattle.legality.specs.Answers.{IsNone}
use Rattle.demo.specs.Edits.{AreClear, IsClear, IsScriptRefused, IsStopped, edited}

clear_at : (E : Edit) (before : List Violation) (v : Violation) (behind : List Violation) → AreClear E (before ++ v ∷ behind)
    → IsNone E v × ((violation_peak E v).weight < 2 ^ 127) × ((violation_peak E v).rows ≤ max_stage_rows)
clear_at E [] v behind h = (h.0, h.1, h.2)
clear_at E (x ∷ before) v behind h = clear_at E before v behind h.3

clear_where : (E : Edit) (k : ℕ) (P : Violation → Type 0) → IsClear E → (s : legal.StopsAt E k P)
    → IsNone E s.violation × ((violation_peak E s.violation).weight < 2 ^ 127) × ((violation_peak E s.violation).rows ≤ max_stage_rows)
clear_where E k P clear s = clear_at E s.before s.violation s.behind (subst (AreClear E) s.split clear.clear)

-- a clear edit is not refused
not_stopped : (E : Edit) (refusal : Refusal) → IsClear E → ¬ IsStopped E refusal
not_stopped E (Illegal k) clear h =
    let v = clear_where E k _ clear h.first in
    v.0.no_point h.first.holds.1.at h.first.holds.1.factor h.first.holds.1.length_is h.first.holds.1.point
not_stopped E (Limit which k) clear h = let few = clear.few in let many = h.2 in omega arith
not_stopped E (Overflow what k) clear h = let v = clear_where E k _ clear h.2 in let light = v.1 in let heavy = h.2.holds in omega arith
not_stopped E (TooManyRows k) clear h = let v = clear_where E k _ clear h.1 in let few = v.2 in let many = h.1.holds.1 in omega arith
not_stopped E refusal clear h = absurd h

-- so a script whose edit is clear, and of which no command is refused, is not
pub clear_is_not_refused : (S : ScopData) (script : List Command) (refusal : Refusal) → refusal_of S script ≡ None → IsClear (edited S script) → ¬ IsScriptRefused S script refusal
clear_is_not_refused S script refusal none clear (inl h) = absurd (cc)
clear_is_not_refused S script refusal none clear (inr h) = not_stopped (edited S script) refusal clear h.stopped
