-- Which components emit bits alone: those in which each name that is used is bound by a `take` before it in its block.
use Rattle.std.specs.Prelude.{ℕ, List, [], ◌∷◌, ◌++◌, ◌≡◌, ◌⊎◌, Some, None}
use Rattle.zir_tree.specs.declared.ident.Ident.{Ident}
use Rattle.zir_bit_tree.specs.declared.tree.Expr.{Expr, Unit as UnitValue, Bit, Variable, Xor', end_of-Expr, more_of-Expr}
use Rattle.zir_bit_tree.specs.declared.tree.Comp.{Comp, Take, Emit, Return, Block', Repeat', Pipe', end_of-Comp, more_of-Comp, Row_of-Member, end_of-Member, more_of-Member}

-- the number is that of one of these names
abbrev pub InScope : List Ident → ℕ → Type 0
InScope [] id = ⊥
InScope (x ∷ scope) id = (x.id ≡ id) ⊎ InScope scope id

-- an expression of bits and of these names
abbrev pub OfBits : List Ident → Expr → Type 0
OfBits scope (UnitValue p) = ⊥
OfBits scope (Bit b p) = Unit {0}
OfBits scope (Variable name) = InScope scope name.id
OfBits scope (Xor' _ (more_of-Expr a end_of-Expr) _ (more_of-Expr b end_of-Expr) p) = OfBits scope a × OfBits scope b

-- the component is `take`
abbrev pub IsTake : Comp → Type 0
IsTake (Take p) = Unit {0}
IsTake (Emit e p) = ⊥
IsTake (Return e p) = ⊥
IsTake (Block' _ ms p) = ⊥
IsTake (Repeat' _ c p) = ⊥
IsTake (Pipe' _ a _ b p) = ⊥

-- a member without a name: `take`, `return`, or `emit` of an expression of bits
abbrev pub IsPlainMember : List Ident → Comp → Type 0
IsPlainMember scope (Take p) = Unit {0}
IsPlainMember scope (Emit e p) = OfBits scope e
IsPlainMember scope (Return e p) = Unit {0}
IsPlainMember scope (Block' _ ms p) = ⊥
IsPlainMember scope (Repeat' _ c p) = ⊥
IsPlainMember scope (Pipe' _ a _ b p) = ⊥

-- the members of a block in which these names are in scope
abbrev pub AreMembers : {m : _} → List Ident → Row_of-Member m → Type 0
AreMembers scope end_of-Member = Unit {0}
AreMembers scope (more_of-Member None c ms) = IsPlainMember scope c × AreMembers scope ms
AreMembers scope (more_of-Member (Some x) c ms) = IsTake c × AreMembers (scope ++ x ∷ []) ms

-- blocks, loops of them and compositions of both
abbrev pub EmitsBits : Comp → Type 0
EmitsBits (Take p) = Unit {0}
EmitsBits (Emit e p) = OfBits [] e
EmitsBits (Return e p) = Unit {0}
EmitsBits (Block' _ ms p) = AreMembers [] ms
EmitsBits (Repeat' _ (more_of-Comp c end_of-Comp) p) = EmitsBits c
EmitsBits (Pipe' _ (more_of-Comp a end_of-Comp) _ (more_of-Comp b end_of-Comp) p) = EmitsBits a × EmitsBits b
