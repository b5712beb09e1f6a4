use Rattle.zir_grammar.specs.Wants.{a_sign}
use Rattle.zir_grammar.proofs.Descent.{wanted, unwanted}
use Rattle.zir_grammar.proofs.wanted.want_symbol.Goals as goal

pub returns-in-Some-clause-read : goal.returns-in-Some-clause-read
returns-in-Some-clause-read c most r low = wanted most (a_sign c.args.wanted) (λ at. r) c.args.tokens.now _ _ c.in-Some.ensures.found low

pub returns-in-None-clause-read : goal.returns-in-None-clause-read
returns-in-None-clause-read c most r low = unwanted most (a_sign c.args.wanted) (λ at. r) c.args.tokens.now c.in-None.ensures.found
