use Rattle.c_parser.proofs.values.+unary.Given as goal

abbrev pub decreases-unary : goal.decreases-unary
decreases-unary l = l.nests
