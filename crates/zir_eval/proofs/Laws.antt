-- The laws of code.
use Rattle.zir_code.specs.Laws.{ExpressionsAgree, StatementsAgree, FunctionsAgree}
use Rattle.zir_code.proofs.Simulation.{coded}
use Rattle.zir_code.proofs.Bodies.{lists_agree}
use Rattle.zir_code.proofs.Program.{programs_agree}

pub expressions_agree : ExpressionsAgree
expressions_agree top base d n l g calls t e m s has room holds = coded top base n l g calls t e d m s room has holds

pub statements_agree : StatementsAgree
statements_agree = lists_agree expressions_agree

pub functions_agree : FunctionsAgree
functions_agree = programs_agree expressions_agree
