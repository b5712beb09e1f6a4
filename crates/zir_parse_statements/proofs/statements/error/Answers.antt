use Rattle.std.proofs.Common.{arith}
use Rattle.zir_tree.specs.declared.stmt.Stmt as stmt
use Rattle.zir_grammar.specs.Wants.{a_text}
use Rattle.zir_grammar.proofs.Descent.{wanted, unwanted, fits}
use Rattle.zir_parse_statements.proofs.statements.error.Goals as goal

pub returns-in_ok-message-in-Some-clause-read : goal.returns-in_ok-message-in-Some-clause-read
returns-in_ok-message-in-Some-clause-read c most k has =
    rw (c.in_ok-message-in-Some.ensures, c.as_slice.ensures)
    (wanted most a_text (λ s. k (stmt.Error s.0 c.args.at) 1) c.args.tokens.now _ c.in-Some.rest.now c.in-Some.ensures.found
    (fits most k 1 c.args.room _ 1 has (omega arith) c.requires))

pub returns-in-None-clause-read : goal.returns-in-None-clause-read
returns-in-None-clause-read c most k has = unwanted most a_text (λ s. k (stmt.Error s.0 c.args.at) 1) c.args.tokens.now c.in-None.ensures.found
