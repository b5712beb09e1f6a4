use Rattle.zir_parse.proofs.Answered.{program_answer, syntax_few, syntax_answer, deep_few, deep_answer}
use Rattle.zir_parse.proofs.program.parse.Goals as goal

pub overflow_sub-result : goal.overflow_sub-result
overflow_sub-result c = let is = rw c.in-Err-Syntax.field-0-is at c.in-Err-Syntax.ensures in syntax_few c.args.tokens.now c.in-Err-Syntax.left is

pub overflow_sub-result-in-Err-TooDeep : goal.overflow_sub-result-in-Err-TooDeep
overflow_sub-result-in-Err-TooDeep c = let is = rw c.in-Err-TooDeep.field-0-is at c.in-Err-TooDeep.ensures in deep_few c.args.tokens.now c.in-Err-TooDeep.left is

pub returns-in-Ok : goal.returns-in-Ok
returns-in-Ok c = program_answer c.args.tokens.now c.in-Ok.program c.in-Ok.ensures

pub returns-in-Err-Syntax : goal.returns-in-Err-Syntax
returns-in-Err-Syntax c = let is = rw c.in-Err-Syntax.field-0-is at c.in-Err-Syntax.ensures in syntax_answer c.args.tokens.now c.in-Err-Syntax.left is

pub returns-in-Err-TooDeep : goal.returns-in-Err-TooDeep
returns-in-Err-TooDeep c = let is = rw c.in-Err-TooDeep.field-0-is at c.in-Err-TooDeep.ensures in deep_answer c.args.tokens.now c.in-Err-TooDeep.left is
