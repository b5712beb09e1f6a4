use Rattle.zir_grammar.proofs.Law as law
use Rattle.zir_grammar.proofs.laws.one_program.Goals as goal

pub returns : goal.returns
returns c tokens p q a b x y = law.one_program tokens p q a b x y
