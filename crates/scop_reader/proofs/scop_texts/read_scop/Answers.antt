use Rattle.scop_reader.proofs.GrammarProper.{read_printable}
use Rattle.scop_reader.proofs.ReadScops.{text_is, scop_is, none_is, cause_is}
use Rattle.scop_reader.proofs.scop_texts.read_scop.Goals as goal

pub assemble-requires : goal.assemble-requires
assemble-requires c = record { printable = read_printable c.args.bytes.now c.in_ok-pieces.pieces c.in_ok-pieces.ensures }

pub returns-clause-text : goal.returns-clause-text
returns-clause-text c = text_is c.args.bytes.now c.in_ok-pieces.pieces c.assemble.result c.in_ok-pieces.ensures c.assemble.ensures.none c.assemble.ensures.scop

pub returns-clause-scop : goal.returns-clause-scop
returns-clause-scop c = scop_is c.args.bytes.now c.in_ok-pieces.pieces c.assemble.result c.in_ok-pieces.ensures c.assemble.ensures.none c.assemble.ensures.scop

pub returns-clause-none : goal.returns-clause-none
returns-clause-none c = none_is c.args.bytes.now c.in_ok-pieces.pieces c.assemble.result c.in_ok-pieces.ensures c.assemble.ensures.none

pub returns-clause-cause : goal.returns-clause-cause
returns-clause-cause c = cause_is c.args.bytes.now c.in_ok-pieces.pieces c.assemble.result c.in_ok-pieces.ensures c.assemble.ensures.cause
