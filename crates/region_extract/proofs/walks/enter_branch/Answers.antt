use Rattle.clan_rows.specs.Contents.{said}
use Rattle.region_extract.proofs.Reading.{on_ok}
use Rattle.region_extract.proofs.walks.enter_branch.Goals as goal

pub returns : goal.returns
returns c = on_ok c.enter_branch.result (λ p. record { layer = said c.in_ok-layer.layer; is_layer = c.in_ok-layer.ensures; entered = p }) c.enter_branch.ensures
