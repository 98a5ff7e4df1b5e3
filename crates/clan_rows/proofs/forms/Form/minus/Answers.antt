use Rattle.std.proofs.Common.{cond, negsuc, pos}
use Rattle.clan_rows.specs.Contents.{affine_of}
use Rattle.clan_rows.proofs.Ranges.{difference_is}
use Rattle.clan_rows.proofs.forms.Form.minus.Goals as goal

pub returns : goal.returns
returns c = difference_is (affine_of c.args.self.now) (affine_of c.args.other.now) (cond c.args.strict (negsuc 0) (pos 0)) _ c.in_ok-form.ensures
