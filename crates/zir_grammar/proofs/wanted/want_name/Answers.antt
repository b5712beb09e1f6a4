use Rattle.zir_grammar.specs.Wants.{a_name}
use Rattle.zir_grammar.proofs.Descent.{wanted, unwanted}
use Rattle.zir_grammar.proofs.wanted.want_name.Goals as goal

pub returns-in_ok-ident-in-Some-clause-read : goal.returns-in_ok-ident-in-Some-clause-read
returns-in_ok-ident-in-Some-clause-read c most f low =
    rw c.in_ok-ident-in-Some.ensures (wanted most a_name f c.args.tokens.now _ _ c.in-Some.ensures.found (low (c.in-Some.found.now, c.in-Some.at)))

pub returns-in-None-clause-read : goal.returns-in-None-clause-read
returns-in-None-clause-read c most f low = unwanted most a_name f c.args.tokens.now c.in-None.ensures.found
