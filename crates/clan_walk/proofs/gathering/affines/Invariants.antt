use Rattle.std.proofs.Common.{◌≡◌, ◌++◌, map, drop}
use Rattle.clan_rows.specs.Contents.{made}
use Rattle.clan_walk.specs.Walk.{fitting_ones}
use Rattle.clan_walk.proofs.gathering.affines.Given as goal

abbrev pub invariant-loop-form : goal.invariant-loop-form
invariant-loop-form l = l.values ++ fitting_ones (map made (drop l.form-index l.forms)) ≡ fitting_ones (map made l.forms)
