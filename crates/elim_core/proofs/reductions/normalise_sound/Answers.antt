use Rattle.std.proofs.Common.{refl}
use Rattle.elim_core.proofs.Reducing.{normalised_reduces}
use Rattle.elim_core.proofs.reductions.normalise_sound.Goals as goal

pub returns-in_ok-kept-in-None : goal.returns-in_ok-kept-in-None
returns-in_ok-kept-in-None g c =
    rw c.in_ok-kept-in-None.ensures (record { variables = refl; width = refl; rows = normalised_reduces c.args.tableau.variables c.args.tableau.rows c.in-None.ensures })
