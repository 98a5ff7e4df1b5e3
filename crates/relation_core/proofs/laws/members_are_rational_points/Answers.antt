use Rattle.relation_core.proofs.Points.{members_are_points}
use Rattle.relation_core.proofs.laws.members_are_rational_points.Goals as goal

pub returns : goal.returns
returns c = members_are_points
