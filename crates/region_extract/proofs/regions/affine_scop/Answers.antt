use Rattle.region_extract.proofs.Answering.{walk_answers, walk_can_finish}
use Rattle.region_extract.proofs.regions.affine_scop.Goals as goal

pub finish-requires : goal.finish-requires
finish-requires c =
    let names = c.args.names in
    walk_can_finish c.args.source.now c.args.nodes.now names.parameters names.arrays c.in-Ok.place c.requires.affine c.requires.printable c.in-Ok.ensures

pub returns-in-Ok : goal.returns-in-Ok
returns-in-Ok c =
    let names = c.args.names in
    walk_answers c.args.source.now c.args.nodes.now names.parameters names.arrays c.in-Ok.place c.finish.result c.requires.affine c.requires.printable c.in-Ok.ensures
    c.finish.ensures.none c.finish.ensures.scop c.finish.ensures.cause
