use Rattle.std.proofs.Common.{ap}
use Rattle.zir_grammar.specs.Machine.{run}
use Rattle.zir_grammar.proofs.Descent.{leads_on}
use Rattle.zir_parse.specs.Heads.{a_decl_behind}
use Rattle.zir_parse.proofs.declarations.one_declaration.Goals as goal

pub returns-in-Struct-clause-read : goal.returns-in-Struct-clause-read
returns-in-Struct-clause-read c most k has = leads_on (λ x. run most (k x.0 x.1) x.2.now) c.structure.result _ _ (ap (λ d. run most (a_decl_behind d c.args.at k) c.args.tokens.now) c.in-Struct.is) (c.structure.ensures.read c.args.room most k has)

pub returns-in-Function-clause-read : goal.returns-in-Function-clause-read
returns-in-Function-clause-read c most k has = leads_on (λ x. run most (k x.0 x.1) x.2.now) c.function.result _ _ (ap (λ d. run most (a_decl_behind d c.args.at k) c.args.tokens.now) c.in-Function.is) (c.function.ensures.read most k has)

pub returns-in-Var-clause-read : goal.returns-in-Var-clause-read
returns-in-Var-clause-read c most k has = leads_on (λ x. run most (k x.0 x.1) x.2.now) c.top_variable.result _ _ (ap (λ d. run most (a_decl_behind d c.args.at k) c.args.tokens.now) c.in-Var.is) (c.top_variable.ensures.read most k has)
