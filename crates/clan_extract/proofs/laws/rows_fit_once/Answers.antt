use Rattle.clan_extract.proofs.RowRanges.{rows_fit_once}
use Rattle.clan_extract.proofs.laws.rows_fit_once.Goals as goal

pub returns : goal.returns
returns c = rows_fit_once
