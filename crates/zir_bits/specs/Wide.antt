-- Values, expressions, components and types over bits as those of the whole language.
use Rattle.std.specs.Prelude.{List, [], ◌∷◌, Option, Some, None}
use Rattle.zir_tree.specs.declared.ident.Ident.{Ident}
use Rattle.zir_tree.specs.declared.types.Base.{Base}
use Rattle.zir_tree.specs.declared.types.Base.TheVariants.{Bit as BitTy}
use Rattle.zir_tree.specs.declared.types.Ty.{Ty}
use Rattle.zir_tree.specs.declared.value.Val as wide_val
use Rattle.zir_tree.specs.declared.expr.Operator.TheVariants.{BitXor}
use Rattle.zir_tree.specs.declared.expr.Expr as wide_tree_expr
use Rattle.zir_tree.specs.declared.comp.Link.TheVariants.{Serial}
use Rattle.zir_tree.specs.declared.comp.Comp as wide_tree_comp
use Rattle.zir_tree.specs.declared.comp.Member as wide_tree_member
use Rattle.zir_bit_tree.specs.declared.value.Val.{Val}
use Rattle.zir_bit_tree.specs.declared.value.Val.TheVariants.{Unit as UnitVal, Bit as BitVal}
use Rattle.zir_bit_tree.specs.declared.tree.Expr.{Expr, Unit, Bit, Variable, Xor', end_of-Expr, more_of-Expr}
use Rattle.zir_bit_tree.specs.declared.tree.Comp.{Comp, Take, Emit, Return, Block', Repeat', Pipe', end_of-Comp, more_of-Comp, Row_of-Member, end_of-Member, more_of-Member}

-- a value
abbrev pub wide_value : Val → wide_val.Val
wide_value UnitVal = wide_val.Unit
wide_value (BitVal b) = wide_val.Bit b

-- an expression; an exclusive or is one of bits
abbrev pub wide_expr : Expr → wide_tree_expr.Expr
wide_expr (Unit p) = wide_tree_expr.Unit p
wide_expr (Bit b p) = wide_tree_expr.Bit b p
wide_expr (Variable name) = wide_tree_expr.Variable name
wide_expr (Xor' _ (more_of-Expr a end_of-Expr) _ (more_of-Expr b end_of-Expr) p) = wide_tree_expr.Binary BitXor BitTy (wide_expr a) (wide_expr b) p

-- a member, which may bind a name
abbrev pub wide_member : Option Ident → wide_tree_comp.Comp → wide_tree_member.Member
wide_member None c = wide_tree_member.Run c
wide_member (Some name) c = wide_tree_member.Bind name c

abbrev mutual
  -- a component
  pub wide_comp : Comp → wide_tree_comp.Comp
  wide_comp (Take p) = wide_tree_comp.Take p
  wide_comp (Emit e p) = wide_tree_comp.Emit (wide_expr e) p
  wide_comp (Return e p) = wide_tree_comp.Return (wide_expr e) p
  wide_comp (Block' _ ms p) = wide_tree_comp.Block (wide_members ms) p
  wide_comp (Repeat' _ (more_of-Comp c end_of-Comp) p) = wide_tree_comp.Repeat (wide_comp c) p
  wide_comp (Pipe' _ (more_of-Comp a end_of-Comp) _ (more_of-Comp b end_of-Comp) p) = wide_tree_comp.Pipe Serial (wide_comp a) (wide_comp b) p

  -- the members of a block
  pub wide_members : {m : _} → Row_of-Member m → List wide_tree_member.Member
  wide_members end_of-Member = []
  wide_members (more_of-Member name c ms) = wide_member name (wide_comp c) ∷ wide_members ms

-- a type that is no array
abbrev pub plain : Base → Ty
plain base = record { lengths = []; base = base }
