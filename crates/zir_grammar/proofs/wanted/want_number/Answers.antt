use Rattle.zir_grammar.specs.Wants.{a_number}
use Rattle.zir_grammar.proofs.Descent.{wanted, unwanted}
use Rattle.zir_grammar.proofs.wanted.want_number.Goals as goal

pub returns-in-Some-clause-read : goal.returns-in-Some-clause-read
returns-in-Some-clause-read c most f low = wanted most a_number (λ n. f n.0) c.args.tokens.now _ _ c.in-Some.ensures.found (low c.in-Some.found)

pub returns-in-None-clause-read : goal.returns-in-None-clause-read
returns-in-None-clause-read c most f low = unwanted most a_number (λ n. f n.0) c.args.tokens.now c.in-None.ensures.found
