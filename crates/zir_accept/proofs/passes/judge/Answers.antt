use Rattle.zir_accept.proofs.Kept.{kept_if_ok}
use Rattle.zir_accept.proofs.passes.judge.Goals as goal

pub returns-clause-rules : goal.returns-clause-rules
returns-clause-rules c = kept_if_ok c.accepted_keep_rules.ensures c.args.program.now c.judge_read.result c.judge_read.ensures
