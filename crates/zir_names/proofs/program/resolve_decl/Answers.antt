use Rattle.zir_names.proofs.program.resolve_decl.Goals as goal

pub returns-in-Var : goal.returns-in-Var
returns-in-Var c = rw c.in-Var.is c.resolve_top_var.ensures

pub returns-in-Struct : goal.returns-in-Struct
returns-in-Struct c = rw c.in-Struct.is c.resolve_struct.ensures

pub returns-in-Function : goal.returns-in-Function
returns-in-Function c = rw c.in-Function.is c.resolve_function.ensures

pub returns-in-Comp : goal.returns-in-Comp
returns-in-Comp c = rw c.in-Comp.is c.resolve_comp_function.ensures
