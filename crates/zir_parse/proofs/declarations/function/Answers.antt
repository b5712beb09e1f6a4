use Rattle.zir_grammar.specs.Machine.{run}
use Rattle.zir_grammar.proofs.Descent.{leads_on}
use Rattle.zir_parse.proofs.ProgramSteps.{comp_begins, function_begins}
use Rattle.zir_parse.proofs.declarations.function.Goals as goal

pub returns-in-Some-clause-read : goal.returns-in-Some-clause-read
returns-in-Some-clause-read c most k has =
    leads_on (λ x. run most (k x.0 x.1) x.2.now) c.comp_function.result _ _
    (comp_begins most c.args.room c.args.at k c.args.tokens.now _ c.in-Some.rest.now c.in-Some.ensures.found has c.requires)
    (c.comp_function.ensures.read most k has)

pub returns-clause-read : goal.returns-clause-read
returns-clause-read c most k has =
    leads_on (λ x. run most (k x.0 x.1) x.2.now) c.plain_function.result _ _
    (function_begins most c.args.at k c.args.tokens.now c.in_default.ensures.found)
    (c.plain_function.ensures.read most k has)
