-- A small scope, and short ways to write trees, for worked rows.
use Rattle.std.specs.Prelude.{ℕ, pos, [], ◌∷◌, None}
use Rattle.zir_tree.specs.declared.place.Place.{Place}
use Rattle.zir_tree.specs.declared.ident.Ident.{Ident}
use Rattle.zir_tree.specs.declared.types.Base.{Base}
use Rattle.zir_tree.specs.declared.types.Base.TheVariants.{Unit as UnitTy, Bit as BitTy, Bool as BoolTy, Int8, Int32, Complex16, Complex32, Struct as StructTy}
use Rattle.zir_tree.specs.declared.types.Ty.{Ty}
use Rattle.zir_tree.specs.declared.types.TypeExpr.{TypeExpr}
use Rattle.zir_tree.specs.declared.expr.Expr.{Expr, Int, Variable}
use Rattle.zir_types.specs.declared.scope.Shape.{Shape}
use Rattle.zir_types.specs.declared.typed.Typed.{Typed}
use Rattle.zir_types.specs.Walk.{Walk, Fine, Broken}
use Rattle.zir_types.specs.Kinds.{scalar, arr}
use Rattle.zir_types.specs.Scope.{Visible, variable}

-- A column of the first line.
abbrev pub at : ℕ → Place
at n = record { line = 1; col = n }

-- A name with the number of its declaration, at a column.
abbrev pub ident : ℕ → ℕ → Ident
ident id n = record { name = []; id = id; at = at n }

-- A variable of this number, at a column.
abbrev pub name : ℕ → ℕ → Expr
name id n = Variable (ident id n)

-- An INT of a text, at a column.
abbrev pub int : ℕ → ℕ → Expr
int k n = Int (pos k) UnitTy (at n)

-- A written type that is no array, at a column.
abbrev pub word : Base → ℕ → TypeExpr
word b n = record { dimensions = []; base = b; name = None; at = at n }

-- The variables of the rows: an int8, a bit, a truth value, an int32, a complex16, a complex32, arrays of int8 and of complex16, and a struct.
abbrev pub x : ℕ
x = 1

abbrev pub b : ℕ
b = 2

abbrev pub t : ℕ
t = 3

abbrev pub y : ℕ
y = 4

abbrev pub c : ℕ
c = 5

abbrev pub d : ℕ
d = 6

abbrev pub a : ℕ
a = 7

abbrev pub s : ℕ
s = 9

-- The function of the rows takes an int8 and gives an int32; the procedure takes a bit and gives unit.
abbrev pub f : ℕ
f = 21

abbrev pub g : ℕ
g = 22

-- The struct of the rows, with a field `p` of int8 and a field `q` of arr[2] bit.
abbrev pub pair : ℕ
pair = 31

abbrev pub shape : Shape
shape = record {
  id = pair;
  def = record {
    name = [];
    fields = record { name = 112 ∷ []; ty = scalar Int8 } ∷ record {
      name = 113 ∷ [];
      ty = arr 2 (scalar BitTy);
    } ∷ [];
  };
  cells = 3;
}

-- What the rows see.
abbrev pub scope : Visible
scope = record {
  shapes = shape ∷ [];
  functions = record { id = f; params = scalar Int8 ∷ []; result = scalar Int32 } ∷ record { id = g; params = scalar BitTy ∷ []; result = scalar UnitTy } ∷ [];
  variables = variable x (scalar Int8) ∷ variable b (scalar BitTy) ∷ variable t (scalar BoolTy) ∷ variable y (scalar Int32) ∷ variable c (scalar Complex16)
      ∷ variable d (scalar Complex32) ∷ variable a (arr 4 (scalar Int8)) ∷ variable s (scalar (StructTy 0)) ∷ [];
}

-- The type alone of what a walk makes.
abbrev pub type_of : Walk Typed → Walk Ty
type_of (Fine e) = Fine e.ty
type_of (Broken r) = Broken r
