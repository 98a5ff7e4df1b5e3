use Rattle.std.proofs.Common.{subst, sym, length, ◌∙◌}
use Rattle.schedule_recovery.specs.Steps.{AreBelow}
use Rattle.schedule_recovery.proofs.Ready.{places_are_below}
use Rattle.schedule_recovery.proofs.level_scripts.push_level_script.Goals as goal

pub push_interchanges-requires : goal.push_interchanges-requires
push_interchanges-requires c = subst (λ places. AreBelow (length places) places) (sym (c.as_slice-3.ensures ∙ c.in_ok-places.ensures)) (places_are_below c.args.target.now c.requires)
