use Rattle.std.proofs.Common.{reverse}
use Rattle.zir_type_prog.proofs.Programs.{main_walk}
use Rattle.zir_type_prog.proofs.program.type_main.Goals as goal

pub returns : goal.returns
returns c =
    main_walk c.depth.result c.args.scope.now c.type_comp.new.scope c.args.input.now c.args.main.now c.args.instances.now c.type_comp.new.instances
    c.type_comp.result (reverse c.args.comps.items) c.new-comps.result c.depth.ensures c.new-comps.ensures c.type_comp.ensures
