use Rattle.zir_grammar.proofs.Law as law
use Rattle.zir_grammar.proofs.laws.one_answer.Goals as goal

pub returns : goal.returns
returns c most tokens a b ta tb x y = law.one_answer most tokens a b ta tb x y
