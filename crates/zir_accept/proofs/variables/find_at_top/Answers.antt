use Rattle.std.proofs.Common.{◌∙◌, ◌+◌, sym, arith, drop}
use Rattle.std.specs.List.{flat_map}
use Rattle.zir_accept.specs.Variables.{first_name, of_decl}
use Rattle.zir_accept.proofs.FirstNames.{name_first, name_next, name_items}
use Rattle.zir_accept.proofs.variables.find_at_top.Goals as goal

pub returns-in-Some : goal.returns-in-Some
returns-in-Some c =
    sym (c.loop-d.invariant ∙ name_items c.args.x of_decl c.args.ds.now c.loop-d.d-index c.d-item.result (omega arith) c.d-item.is
    ∙ name_first (first_name c.args.x (of_decl c.d-item.result))
    (first_name c.args.x (flat_map of_decl (drop (c.loop-d.d-index + 1) c.args.ds.now))) c.in-Some.name.now (sym c.in-Some.ensures))

pub loop-d-preserved : goal.loop-d-preserved
loop-d-preserved c =
    c.loop-d.invariant ∙ name_items c.args.x of_decl c.args.ds.now c.loop-d.d-index c.d-item.result (omega arith) c.d-item.is
    ∙ name_next (first_name c.args.x (of_decl c.d-item.result))
    (first_name c.args.x (flat_map of_decl (drop (c.loop-d.d-index + 1) c.args.ds.now))) (sym c.in_default.ensures)
