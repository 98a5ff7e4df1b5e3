use Rattle.std.proofs.lemmas.Slice.Eq.{strip_prefix_is}
use Rattle.std.proofs.lemmas.Bool.Decides.{Decides-eqb}
use Rattle.beta_tree.proofs.Places.{after_is_strip}
use Rattle.clay_commands.proofs.changes.what_follows.Goals as goal

pub returns : goal.returns
returns c = after_is_strip _ _ _ (strip_prefix_is Decides-eqb c.args.vector.now c.args.prefix.now _ c.strip_prefix.ensures.cases)
