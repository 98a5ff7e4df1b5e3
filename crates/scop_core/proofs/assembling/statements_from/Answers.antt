use Rattle.std.proofs.Common.{◌<◌, ◌∙◌, length, arith}
use Rattle.scop_core.specs.Assembly.{HasShapes, HasNames}
use Rattle.scop_core.proofs.Assemblies.{statements_more, statements_left, item_has, item_kept, rest_kept}
use Rattle.scop_core.proofs.assembling.statements_from.Goals as goal

pub push_statement-requires-clause-solved : goal.push_statement-requires-clause-solved
push_statement-requires-clause-solved c =
    let within : c.loop-k.k < length c.args.raws = omega arith in
    (statements_left c.args.raws c.loop-k.k c.taken-raw.result within (item_kept c.loop-k.raws c.args.raws c.loop-k.k c.taken-raw.result c.taken-raw.ensures.item c.loop-k.invariant.rest) c.loop-k.invariant.left).0

pub push_statement-requires-clause-names : goal.push_statement-requires-clause-names
push_statement-requires-clause-names c =
    let within : c.loop-k.k < length c.args.raws = omega arith in
    item_has HasNames c.args.raws c.loop-k.k c.taken-raw.result within (item_kept c.loop-k.raws c.args.raws c.loop-k.k c.taken-raw.result c.taken-raw.ensures.item c.loop-k.invariant.rest) c.requires.names

pub loop-k-preserved : goal.loop-k-preserved
loop-k-preserved c =
    let within : c.loop-k.k < length c.args.raws = omega arith in
    let is = item_kept c.loop-k.raws c.args.raws c.loop-k.k c.taken-raw.result c.taken-raw.ensures.item c.loop-k.invariant.rest in
    record {
      rest = rest_kept c.taken-raw.new.raws c.loop-k.raws c.args.raws c.loop-k.k c.taken-raw.ensures.rest c.loop-k.invariant.rest;
      count = c.taken-raw.ensures.count ∙ c.loop-k.invariant.count;
      all = statements_more c.args.raws c.loop-k.k c.taken-raw.result c.loop-k.made c.push_statement.new.made _ within is c.in_ok-push_statement.ensures.made c.loop-k.invariant.all;
      left = (statements_left c.args.raws c.loop-k.k c.taken-raw.result within is c.loop-k.invariant.left).1;
      printable = λ p all. c.in_ok-push_statement.ensures.printable p
          (item_has (HasShapes p) c.args.raws c.loop-k.k c.taken-raw.result within is all)
          (c.loop-k.invariant.printable p all);
    }
