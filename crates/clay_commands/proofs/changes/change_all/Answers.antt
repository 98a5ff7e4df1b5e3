use Rattle.std.proofs.Common.{◌<◌, ◌^◌, length, rules}
use Rattle.clay_commands.specs.Refusals.{statement_weight}
use Rattle.clay_commands.specs.Steps.{IsChangeable, changed}
use Rattle.clay_commands.proofs.LeafLoops.{still_there, holds_of_leaf, one_more, one_more_light, heavy_leaf}
use Rattle.clay_commands.proofs.changes.change_all.Goals as goal

pub change_leaf-requires : goal.change_leaf-requires
change_leaf-requires c =
    let within : c.loop-k.k < length c.args.leaves.now.items = search rules in
    holds_of_leaf c.args.prefix.now (IsChangeable c.args.command.now) c.args.leaves.now.items c.loop-k.k c.index_mut.result.now within
    (still_there (changed c.args.command.now c.args.prefix.now) c.args.leaves.now.items c.loop-k.leaves.items c.loop-k.k c.index_mut.result.now c.loop-k.invariant.made within c.index_mut.ensures.value) c.requires

pub returns-in-Err-clause-heavy : goal.returns-in-Err-clause-heavy
returns-in-Err-clause-heavy c =
    let within : c.loop-k.k < length c.args.leaves.now.items = search rules in
    heavy_leaf c.args.prefix.now (statement_weight c.args.command.now) c.args.leaves.now.items c.loop-k.k c.index_mut.result.now _ within
    (still_there (changed c.args.command.now c.args.prefix.now) c.args.leaves.now.items c.loop-k.leaves.items c.loop-k.k c.index_mut.result.now c.loop-k.invariant.made within c.index_mut.ensures.value)
    c.in-Err.ensures.heavy

pub loop-k-preserved : goal.loop-k-preserved
loop-k-preserved c =
    let within : c.loop-k.k < length c.args.leaves.now.items = search rules in
    record {
      made = one_more (changed c.args.command.now c.args.prefix.now) c.args.leaves.now.items c.loop-k.leaves.items c.loop-k.k c.index_mut.result.now c.change_leaf.new.leaf
          c.loop-k.invariant.made within c.index_mut.ensures.value c.in_default.ensures.ok;
      light = one_more_light c.args.prefix.now (statement_weight c.args.command.now) c.args.leaves.now.items c.loop-k.k c.index_mut.result.now (2 ^ 127) within
          (still_there (changed c.args.command.now c.args.prefix.now) c.args.leaves.now.items c.loop-k.leaves.items c.loop-k.k c.index_mut.result.now c.loop-k.invariant.made within c.index_mut.ensures.value)
          c.loop-k.invariant.light c.in_default.ensures.light;
    }
