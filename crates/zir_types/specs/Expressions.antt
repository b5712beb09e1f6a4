-- The walk of an expression: its parts from left to right, then the rule of the whole.
use Rattle.std.specs.Prelude.{ℕ, ℤ, List, [], ◌∷◌, ◌++◌, length, Bool, true, false, ◌&&◌, not, Option, Some, None}
use Rattle.std.specs.Int.{int_wrapping_neg}
use mir.Syntax.{w128}
use Rattle.zir_tree.specs.declared.place.Place.{Place}
use Rattle.zir_tree.specs.declared.ident.Ident.{Ident}
use Rattle.zir_tree.specs.declared.types.Base.{Base}
use Rattle.zir_tree.specs.declared.types.Base.TheVariants.{Unit as UnitTy, Bit as BitTy, Bool as BoolTy, Int32}
use Rattle.zir_tree.specs.declared.types.Ty.{Ty}
use Rattle.zir_tree.specs.declared.expr.Prefix.{Prefix}
use Rattle.zir_tree.specs.declared.expr.Prefix.TheVariants.{Minus, Complement, Not}
use Rattle.zir_tree.specs.declared.expr.Operator.{Operator}
use Rattle.zir_tree.specs.declared.expr.Operator.TheVariants.{Or, And, BitOr, BitXor, BitAnd, Equal, NotEqual, Less, LessEqual, Greater, GreaterEqual}
use Rattle.zir_tree.specs.declared.expr.Operator.TheVariants.{ShiftLeft, ShiftRight, Add, Subtract, Multiply, Divide, Remainder}
use Rattle.zir_tree.specs.declared.expr.Expr.{Expr, Unit, Bit, Bool as BoolLiteral, Int, Variable, Unary, Unary', Binary, Binary', Index, Index'}
use Rattle.zir_tree.specs.declared.expr.Expr.{Slice, Slice', Part, Part', Call, Call', Array, Array', Convert, Convert', Complex, Complex'}
use Rattle.zir_tree.specs.declared.expr.Expr.{Row_of-Expr, end_of-Expr, more_of-Expr}
use Rattle.zir_types.specs.declared.typed.Typed.{Typed}
use Rattle.zir_types.specs.declared.typed.Args.{Args}
use Rattle.zir_types.specs.declared.typed.Called.{Called}
use Rattle.zir_types.specs.declared.typed.Selected.{Selected}
use Rattle.zir_types.specs.declared.error.TypeError.TheVariants.{Mismatch}
use Rattle.zir_types.specs.Walk.{Walk, Fine, Broken, and_then, check}
use Rattle.zir_types.specs.Kinds.{scalar, arr, scalar_of, is_whole, half_of, same_base, same_ty, ruled, prefixes, converts, within}
use Rattle.zir_types.specs.Scope.{Visible, type_in, called_in, part_in}

-- The operators that join two literal expressions to one.
abbrev pub joins : Operator → Bool
joins Or = false
joins And = false
joins BitOr = true
joins BitXor = true
joins BitAnd = true
joins Equal = false
joins NotEqual = false
joins Less = false
joins LessEqual = false
joins Greater = false
joins GreaterEqual = false
joins ShiftLeft = false
joins ShiftRight = false
joins Add = true
joins Subtract = true
joins Multiply = true
joins Divide = true
joins Remainder = true

-- The prefixes of literal expressions.
abbrev pub signs : Prefix → Bool
signs Minus = true
signs Complement = true
signs Not = false

-- A literal expression: an INT, `-` or `~` before one, or two of them joined.
abbrev pub is_literal : Expr → Bool
is_literal (Unit p) = false
is_literal (Bit b p) = false
is_literal (BoolLiteral b p) = false
is_literal (Int n b p) = true
is_literal (Variable x) = false
is_literal (Unary' o b _ (more_of-Expr e end_of-Expr) p) = signs o && is_literal e
is_literal (Binary' o k _ (more_of-Expr a end_of-Expr) _ (more_of-Expr b end_of-Expr) p) = joins o && (is_literal a && is_literal b)
is_literal (Index' _ a _ i p) = false
is_literal (Slice' _ a _ i k p) = false
is_literal (Part' _ a x k p) = false
is_literal (Call' f c _ es) = false
is_literal (Array' _ es p) = false
is_literal (Convert' b _ e p) = false
is_literal (Complex' b _ x _ y p) = false

-- The number of an INT.
abbrev pub number_of : Expr → Option ℤ
number_of (Unit p) = None
number_of (Bit b p) = None
number_of (BoolLiteral b p) = None
number_of (Int n b p) = Some n
number_of (Variable x) = None
number_of (Unary' o b _ e p) = None
number_of (Binary' o k _ a _ b p) = None
number_of (Index' _ a _ i p) = None
number_of (Slice' _ a _ i k p) = None
number_of (Part' _ a x k p) = None
number_of (Call' f c _ es) = None
number_of (Array' _ es p) = None
number_of (Convert' b _ e p) = None
number_of (Complex' b _ x _ y p) = None

-- Where nothing else is asked, a literal is an int32.
abbrev pub unasked : Ty
unasked = scalar Int32

-- What is asked where a type is wanted: a whole type of a literal, an array of whole numbers of an array literal, and nothing else.
abbrev pub wanted_if : Bool → Ty → Ty
wanted_if true t = t
wanted_if false t = unasked

-- What is asked where this type is wanted.
abbrev pub wanted : Ty → Ty
wanted t = wanted_if (is_whole t.base) t

-- What a side asks of a literal on the other side: its own type, which may hold no number.
abbrev pub lent : Typed → Ty
lent t = scalar (scalar_of t.ty)

-- The type of a literal where an array is asked.
abbrev pub literal_if : List ℕ → Base → Base
literal_if [] b = b
literal_if (n ∷ ns) b = Int32

-- The type of a literal where this is asked.
abbrev pub literal_type : Ty → Base
literal_type w = literal_if w.lengths w.base

-- What is asked of the elements of an array literal where arrays of these lengths are asked.
abbrev pub element_if : List ℕ → Base → Ty
element_if [] b = unasked
element_if (n ∷ ns) b = record { lengths = ns; base = b }

-- What is asked of the elements of an array literal where this is asked.
abbrev pub element_asked : Ty → Ty
element_asked w = element_if w.lengths w.base

-- What is asked of the operand of a prefix, and of a side beside a literal: the same within a literal expression, and else nothing.
abbrev pub kept : Bool → Ty → Ty
kept true w = w
kept false w = unasked

-- A number of a whole type, which must hold it.
abbrev pub int_at : Base → ℤ → Place → Walk Typed
int_at b n p = check (within b n) (Mismatch p) (record { what = Int n b p; ty = scalar b })

-- A variable with its type.
abbrev pub variable_at : Option Ty → Ident → Walk Typed
variable_at None x = Broken (Mismatch x.at)
variable_at (Some t) x = Fine (record { what = Variable x; ty = t })

-- The rule of a prefix.
abbrev pub prefixed : Prefix → Place → Typed → Walk Typed
prefixed o p t = check (prefixes o (scalar_of t.ty)) (Mismatch p) (record { what = Unary o (scalar_of t.ty) t.what p; ty = scalar (scalar_of t.ty) })

-- The number of the INT that a prefix `-` makes one literal with.
abbrev pub negates : Prefix → Option ℤ → Option ℤ
negates Minus n = n
negates Complement n = None
negates Not n = None

-- A prefix before an operand; a `-` before an INT is one literal with it, negated as 128 bits, which fit every INT of a text.
abbrev pub unary : Option ℤ → Prefix → Ty → Place → Walk Typed → Walk Typed
unary None o w p inner = and_then inner (prefixed o p)
unary (Some n) o w p inner = int_at (literal_type w) (int_wrapping_neg w128 n) p

-- An operator whose sides have these types, where its rule holds.
abbrev pub joined_if : Option Base → Operator → Place → Typed → Typed → Walk Typed
joined_if None o p s t = Broken (Mismatch p)
joined_if (Some r) o p s t = Fine (record { what = Binary o (scalar_of s.ty) s.what t.what p; ty = scalar r })

-- The rule of an operator; it carries the type of its left side.
abbrev pub joined : Operator → Place → Typed → Typed → Walk Typed
joined o p s t = joined_if (ruled o (scalar_of s.ty) (scalar_of t.ty)) o p s t

-- What is asked of the right side after the left one: of a literal beside a side that is none, the type of that side.
abbrev pub asked : Bool → Bool → Operator → Ty → Typed → Ty
asked left false o w s = unasked
asked true true o w s = kept (joins o) w
asked false true o w s = lent s

-- The sides of an operator. A literal on the left of a side that is none is typed after it, and has its type.
abbrev pub sided : Bool → Bool → Bool → Operator → Place → Ty → (Ty → Walk Typed) → (Ty → Walk Typed) → Walk Typed
sided true left right o p w a b = and_then (b unasked) (λ t. and_then (a (lent t)) (λ s. joined o p s t))
sided false left right o p w a b = and_then (a (kept (left && joins o) w)) (λ s. and_then (b (asked left right o w s)) (joined o p s))

-- An operator over its sides, by which of them are literal expressions.
abbrev pub sides : Bool → Bool → Operator → Place → Ty → (Ty → Walk Typed) → (Ty → Walk Typed) → Walk Typed
sides left right o p w a b = sided (left && not right) left right o p w a b

-- An element of an array of these lengths, and a whole index.
abbrev pub index_if : List ℕ → Base → Bool → Place → Typed → Typed → Walk Typed
index_if [] b whole p s t = Broken (Mismatch p)
index_if (n ∷ ns) b whole p s t = check whole (Mismatch p) (record { what = Index s.what t.what p; ty = record { lengths = ns; base = b } })

-- The rule of an index.
abbrev pub indexed : Place → Typed → Typed → Walk Typed
indexed p s t = index_if s.ty.lengths s.ty.base (is_whole (scalar_of t.ty)) p s t

-- A slice of so many elements of an array of these lengths, and a whole index.
abbrev pub slice_if : List ℕ → Base → Bool → ℕ → Place → Typed → Typed → Walk Typed
slice_if [] b whole k p s t = Broken (Mismatch p)
slice_if (n ∷ ns) b whole k p s t = check whole (Mismatch p) (record { what = Slice s.what t.what k p; ty = record { lengths = k ∷ ns; base = b } })

-- The rule of a slice.
abbrev pub sliced : ℕ → Place → Typed → Typed → Walk Typed
sliced k p s t = slice_if s.ty.lengths s.ty.base (is_whole (scalar_of t.ty)) k p s t

-- A part of a value, with its place.
abbrev pub part_at : Option Selected → List ℕ → Place → Typed → Walk Typed
part_at None x p s = Broken (Mismatch p)
part_at (Some f) x p s = Fine (record { what = Part s.what x f.place p; ty = f.ty })

-- The rule of a part.
abbrev pub selected : Visible → List ℕ → Place → Typed → Walk Typed
selected g x p s = part_at (part_in g.shapes s.ty x) x p s

-- The rule of a conversion of one part.
abbrev pub converted : Base → Place → Typed → Walk Typed
converted b p t = check (converts b (scalar_of t.ty)) (Mismatch p) (record { what = Convert b t.what p; ty = scalar b })

-- Whether a type is the parts' type of a complex number.
abbrev pub is_half : Option Base → Base → Bool
is_half None b = false
is_half (Some h) b = same_base h b

-- The rule of a complex number from its two parts.
abbrev pub paired : Base → Place → Typed → Typed → Walk Typed
paired b p s t =
    check (is_half (half_of b) (scalar_of s.ty) && is_half (half_of b) (scalar_of t.ty)) (Mismatch p) (record {
      what = Complex b s.what t.what p;
      ty = scalar b;
    })

-- What a list of expressions is asked: each the same, or each what the next parameter wants.
pub data Asks : Type 0 where
  Alike : (w : Ty) → Asks
  InTurn : (ps : List Ty) → Asks

-- What the next argument is asked where these parameters are left.
abbrev pub param_asks : List Ty → Ty
param_asks [] = unasked
param_asks (t ∷ ts) = wanted t

-- The parameters behind the next.
abbrev pub params_after : List Ty → List Ty
params_after [] = []
params_after (t ∷ ts) = ts

-- What the next expression is asked.
abbrev pub next_asks : Asks → Ty
next_asks (Alike w) = w
next_asks (InTurn ps) = param_asks ps

-- What the expressions behind the next are asked.
abbrev pub asks_after : Asks → Asks
asks_after (Alike w) = Alike w
asks_after (InTurn ps) = InTurn (params_after ps)

-- No expressions.
abbrev pub no_args : Args
no_args = record { whats = []; types = [] }

-- One more expression behind these.
abbrev pub one_more : Args → Typed → Args
one_more done t = record { whats = done.whats ++ t.what ∷ []; types = done.types ++ t.ty ∷ [] }

-- As many arguments as parameters, and of their types.
abbrev pub agree : List Ty → List Ty → Bool
agree [] [] = true
agree [] (t ∷ ts) = false
agree (p ∷ ps) [] = false
agree (p ∷ ps) (t ∷ ts) = same_ty p t && agree ps ts

-- The rule of a call.
abbrev pub called : Ident → Called → Args → Walk Typed
called f c as_ = check (agree c.params as_.types) (Mismatch f.at) (record { what = Call f c.callee as_.whats; ty = c.result })

-- A call of what its name means, over the walk of its arguments.
abbrev pub call : Option Called → Ident → (Asks → Walk Args) → Walk Typed
call None f walk = Broken (Mismatch f.at)
call (Some c) f walk = and_then (walk (InTurn c.params)) (called f c)

-- Whether all types are this one.
abbrev pub all_same : Ty → List Ty → Bool
all_same t [] = true
all_same t (s ∷ ss) = same_ty t s && all_same t ss

-- An array literal whose elements have these types.
abbrev pub array_if : List Ty → Place → Args → Walk Typed
array_if [] p as_ = Broken (Mismatch p)
array_if (t ∷ ts) p as_ = check (all_same t ts) (Mismatch p) (record { what = Array as_.whats p; ty = arr (length as_.whats) t })

-- The rule of an array literal.
abbrev pub gathered : Place → Args → Walk Typed
gathered p as_ = array_if as_.types p as_

abbrev mutual
  -- An expression where this type is asked of a literal.
  pub expr : Visible → Ty → Expr → Walk Typed
  expr g w (Unit p) = Fine (record { what = Unit p; ty = scalar UnitTy })
  expr g w (Bit b p) = Fine (record { what = Bit b p; ty = scalar BitTy })
  expr g w (BoolLiteral b p) = Fine (record { what = BoolLiteral b p; ty = scalar BoolTy })
  expr g w (Int n b p) = int_at (literal_type w) n p
  expr g w (Variable x) = variable_at (type_in g.variables x.id) x
  expr g w (Unary' o b _ (more_of-Expr e end_of-Expr) p) = unary (negates o (number_of e)) o w p (expr g (kept (signs o && is_literal e) w) e)
  expr g w (Binary' o k _ (more_of-Expr a end_of-Expr) _ (more_of-Expr b end_of-Expr) p) =
      sides (is_literal a) (is_literal b) o p w (λ v. expr g v a) (λ v. expr g v b)
  expr g w (Index' _ (more_of-Expr a end_of-Expr) _ (more_of-Expr i end_of-Expr) p) =
      and_then (expr g unasked a) (λ s. and_then (expr g unasked i) (indexed p s))
  expr g w (Slice' _ (more_of-Expr a end_of-Expr) _ (more_of-Expr i end_of-Expr) k p) =
      and_then (expr g unasked a) (λ s. and_then (expr g unasked i) (sliced k p s))
  expr g w (Part' _ (more_of-Expr a end_of-Expr) x k p) = and_then (expr g unasked a) (selected g x p)
  expr g w (Call' f c _ es) = call (called_in g f.id) f (λ asks. args g asks no_args es)
  expr g w (Array' _ es p) = and_then (args g (Alike (element_asked w)) no_args es) (gathered p)
  expr g w (Convert' b _ (more_of-Expr e end_of-Expr) p) = and_then (expr g (wanted (scalar b)) e) (converted b p)
  expr g w (Complex' b _ (more_of-Expr x end_of-Expr) _ (more_of-Expr y end_of-Expr) p) =
      and_then (expr g unasked x) (λ s. and_then (expr g unasked y) (paired b p s))

  -- Expressions from some place on, behind those before them.
  pub args : Visible → Asks → Args → {m : _} → Row_of-Expr m → Walk Args
  args g asks done end_of-Expr = Fine done
  args g asks done (more_of-Expr e es) = and_then (expr g (next_asks asks) e) (λ t. args g (asks_after asks) (one_more done t) es)

-- The same for a plain list of expressions.
abbrev pub args_of : Visible → Asks → Args → List Expr → Walk Args
args_of g asks done [] = Fine done
args_of g asks done (e ∷ es) = and_then (expr g (next_asks asks) e) (λ t. args_of g (asks_after asks) (one_more done t) es)
