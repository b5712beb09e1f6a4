use Rattle.std.proofs.Common.{◌≡◌, Some, None, ap, sym, ◌∙◌}
use Rattle.std.specs.List.{flat_map}
use Rattle.zir_accept.specs.Variables.{first_name, in_blocks, of_decl}
use Rattle.zir_accept.proofs.FirstNames.{name-append, name_first, name_next}
use Rattle.zir_accept.proofs.variables.find_in_prog.Goals as goal

pub returns-in-Some : goal.returns-in-Some
returns-in-Some c =
    let p = c.args.p.now in
    let x = c.args.x in
    let e : Some c.in-Some.name.now ≡ first_name x (flat_map of_decl p.declarations) =
    c.in-Some.ensures ∙ ap (λ ds. first_name x (flat_map of_decl ds)) c.as_slice.ensures in
    sym (name-append x (flat_map of_decl p.declarations) (in_blocks p.main)
    ∙ name_first (first_name x (flat_map of_decl p.declarations)) (first_name x (in_blocks p.main)) c.in-Some.name.now (sym e))

pub returns-in-None : goal.returns-in-None
returns-in-None c =
    let p = c.args.p.now in
    let x = c.args.x in
    let e : None ≡ first_name x (flat_map of_decl p.declarations) =
    c.in-None.ensures ∙ ap (λ ds. first_name x (flat_map of_decl ds)) c.as_slice.ensures in
    c.find_in_comp.ensures ∙ sym (name-append x (flat_map of_decl p.declarations) (in_blocks p.main)
    ∙ name_next (first_name x (flat_map of_decl p.declarations)) (first_name x (in_blocks p.main)) (sym e))
