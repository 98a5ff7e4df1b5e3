use Rattle.c_lexer.proofs.cursors.Tokens.take.Goals as goal

pub invariant_of-self : goal.invariant_of-self
invariant_of-self c =
    (c.fetch-symbol.ensures.symbol, c.fetch-symbol.ensures.from, c.fetch-symbol.ensures.to, c.self.invariant.4, c.fetch-symbol.ensures.within, c.self.invariant.5)
