-- The equations of components at the trees that code has.
use Rattle.std.specs.Prelude.{◌≡◌, List, [], refl}
use Rattle.std.proofs.Common.{ap}
use denote.Hole.Carrier.{hidden}
use Rattle.zir_tree.specs.declared.place.Place.{Place}
use Rattle.zir_tree.specs.declared.comp.Link.{Link}
use Rattle.zir_tree.specs.declared.comp.Comp.{Comp, Repeat, Block, Pipe}
use Rattle.zir_tree.specs.declared.comp.Comp.TheBlock.{shape-the_row-Comp-0, hidden-the_row-Comp-0}
use Rattle.zir_tree.specs.declared.comp.Member.{Member}
use Rattle.zir_bit_tree.specs.declared.tree.Comp as bit_comp
use Rattle.zir_narrow.specs.Narrow.{Fine, and_then, allowed, is_serial, body, component}
use Rattle.zir_narrow.proofs.Lists.{each, members-list}

pub component-Repeat : (c : Comp) (at : Place) →
    component (Repeat c at) ≡ and_then (body c) (λ made. Fine (bit_comp.Repeat made at))
unfolding shape-the_row-Comp-0 hidden-the_row-Comp-0 hidden
component-Repeat c at = refl

pub component-Pipe : (link : Link) (c d : Comp) (at : Place) →
    component (Pipe link c d at) ≡
    and_then (component c) (λ left. and_then (allowed (is_serial link) at (tt {0})) (λ _. and_then (component d) (λ right. Fine (bit_comp.Pipe left right at))))
unfolding shape-the_row-Comp-0 hidden-the_row-Comp-0 hidden
component-Pipe link c d at = refl

pub component-Block : (ms : List Member) (at : Place) →
    component (Block ms at) ≡ and_then (each [] ms) (λ made. Fine (bit_comp.Block made at))
component-Block ms at = ap (λ w. and_then w (λ made. Fine (bit_comp.Block made at))) (members-list [] ms)
