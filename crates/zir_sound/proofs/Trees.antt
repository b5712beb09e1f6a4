-- The rules of components at the trees that typing makes.
use Rattle.std.specs.Prelude.{◌≡◌, ◌++◌, refl, List, [], ◌∷◌, true, Option, Some, None}
use denote.Hole.Carrier.{hidden}
use Rattle.zir_tree.specs.declared.ident.Ident.{Ident}
use Rattle.zir_tree.specs.declared.place.Place.{Place}
use Rattle.zir_tree.specs.declared.types.Base.TheVariants.{Bool as BoolTy, Int32}
use Rattle.zir_tree.specs.declared.types.Ty.{Ty}
use Rattle.zir_tree.specs.declared.expr.Expr.{Expr}
use Rattle.zir_tree.specs.declared.comp.Turning.{Turning}
use Rattle.zir_tree.specs.declared.comp.Link.{Link}
use Rattle.zir_tree.specs.declared.comp.Comp.{Comp, Repeat, While, Times, For, If, Block, Pipe}
use Rattle.zir_tree.specs.declared.comp.Comp.TheBlock.{shape-the_row-Comp-0, hidden-the_row-Comp-0, shape-the_row-Member-1, hidden-the_row-Member-1}
use Rattle.zir_tree.specs.declared.comp.Member.{Member, Bind, Var, Run}
use Rattle.zir_tree.specs.declared.program.Instance.{Instance}
use Rattle.zir_types.specs.Kinds.{scalar}
use Rattle.zir_types.specs.Scope.{Visible, declare, variable}
use Rattle.zir_types.specs.Statements.{with_index}
use Rattle.zir_types.specs.Components.{agreed, emitted, first_of, link_type, unit_value}
use Rattle.zir_types.specs.Typing.{Has}
use Rattle.zir_sound.specs.Statements.{seen_of}
use Rattle.zir_sound.specs.Components.{AreMembers, AreMembersOf, IsComp, IsValueOf, MayStand, MayStandOf}

pub is-Repeat : (g : Visible) (is : List Instance) (a : Ty) (c : Comp) (p : Place) (out : Option Ty) → IsComp g is a c out unit_value →
    IsComp g is a (Repeat c p) out None
unfolding shape-the_row-Comp-0 hidden-the_row-Comp-0 hidden
is-Repeat g is a c p out h = (refl, h)

pub is-While : (g : Visible) (is : List Instance) (a : Ty) (turning : Turning) (e : Expr) (c : Comp) (p : Place) (out : Option Ty) →
    Has g (scalar BoolTy) e → IsComp g is a c out unit_value →
    IsComp g is a (While turning e c p) out unit_value
unfolding shape-the_row-Comp-0 hidden-the_row-Comp-0 hidden
is-While g is a turning e c p out k h = (refl, k, h)

pub is-Times : (g : Visible) (is : List Instance) (a : Ty) (e : Expr) (c : Comp) (p : Place) (out : Option Ty) → Has g (scalar Int32) e →
    IsComp g is a c out unit_value →
    IsComp g is a (Times e c p) out unit_value
unfolding shape-the_row-Comp-0 hidden-the_row-Comp-0 hidden
is-Times g is a e c p out k h = (refl, k, h)

pub is-For : (g : Visible) (is : List Instance) (a : Ty) (x : Ident) (e f : Expr) (c : Comp) (p : Place) (out : Option Ty) → Has g (scalar Int32) e →
    Has g (scalar Int32) f →
    IsComp (with_index x g) is a c out unit_value → IsComp g is a (For x e f c p) out unit_value
unfolding shape-the_row-Comp-0 hidden-the_row-Comp-0 hidden
is-For g is a x e f c p out k l h = (refl, k, l, h)

pub is-If : (g : Visible) (is : List Instance) (a : Ty) (e : Expr) (c d : Comp) (p : Place) (r s v : Option Ty) → agreed (emitted r ++ emitted s) ≡ true →
    Has g (scalar BoolTy) e →
    IsComp g is a c r v → IsComp g is a d s v → IsComp g is a (If e c d p) (first_of (emitted r ++ emitted s)) v
unfolding shape-the_row-Comp-0 hidden-the_row-Comp-0 hidden
is-If g is a e c d p r s v agree k h l = (r, s, agree, refl, k, h, l)

pub is-Pipe : (g : Visible) (is : List Instance) (a : Ty) (link : Link) (c d : Comp) (p : Place) (mid out r s v : Option Ty) → IsValueOf r s v →
    IsComp g is a c mid r → IsComp g is (link_type mid) d out s → IsComp g is a (Pipe link c d p) out v
unfolding shape-the_row-Comp-0 hidden-the_row-Comp-0 hidden
is-Pipe g is a link c d p mid out r s v value h k = (mid, r, s, value, h, k)

stand-list : (ms : List Member) (u : Option Ty) → MayStandOf ms u → MayStand (hidden-the_row-Member-1 ms) u
unfolding shape-the_row-Member-1 hidden-the_row-Member-1 hidden
stand-list [] u h = tt
stand-list (m ∷ ms) None h = h
stand-list (m ∷ ms) (Some t) h = tt

members-list : (g : Visible) (is : List Instance) (a : Ty) (last : Option Ty) (ms : List Member) (outs : List Ty) (v : Option Ty) →
    AreMembersOf g is a last ms outs v →
    AreMembers g is a last (hidden-the_row-Member-1 ms) outs v
unfolding shape-the_row-Member-1 hidden-the_row-Member-1 hidden
members-list g is a last [] outs v h = h
members-list g is a last (Bind x c ∷ ms) outs v (t, o, more, are, is_c, rest) =
    (t, o, more, are, is_c, members-list (declare (variable x.id t ∷ []) g) is a (Some t) ms more v rest)
members-list g is a last (Var d ∷ ms) outs v h = (h.0, members-list (declare (seen_of d ∷ []) g) is a unit_value ms outs v h.1)
members-list g is a last (Run c ∷ ms) outs v (o, u, more, are, is_c, stands, rest) =
    (o, u, more, are, is_c, stand-list ms u stands, members-list g is a u ms more v rest)

pub is-Block : (g : Visible) (is : List Instance) (a : Ty) (ms : List Member) (p : Place) (outs : List Ty) (v : Option Ty) → agreed outs ≡ true →
    AreMembersOf g is a unit_value ms outs v →
    IsComp g is a (Block ms p) (first_of outs) v
is-Block g is a ms p outs v agree h = (outs, agree, refl, members-list g is a unit_value ms outs v h)
