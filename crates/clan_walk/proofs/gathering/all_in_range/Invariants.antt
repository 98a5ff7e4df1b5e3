use Rattle.std.proofs.Common.{◌≡◌, map, drop}
use Rattle.clan_rows.specs.Contents.{made}
use Rattle.clan_walk.specs.Walk.{all_fit}
use Rattle.clan_walk.proofs.gathering.all_in_range.Given as goal

abbrev pub invariant-loop-form : goal.invariant-loop-form
invariant-loop-form l = all_fit (map made (drop l.form-index l.forms)) ≡ all_fit (map made l.forms)
