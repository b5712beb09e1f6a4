-- Which accepted programs are programs over bits, and where the others first are none.
use Rattle.std.specs.Prelude.{ℕ, ◌≡◌, List, [], ◌∷◌, ◌++◌, Bool, true, false, ◌||◌, not, Option, Some, None, Result, Ok, Err, nat_eq}
use Rattle.zir_tree.specs.declared.ident.Ident.{Ident}
use Rattle.zir_tree.specs.declared.place.Place.{Place}
use Rattle.zir_tree.specs.declared.types.Base.{Base}
use Rattle.zir_tree.specs.declared.types.Base.TheVariants as base
use Rattle.zir_tree.specs.declared.types.Ty.{Ty}
use Rattle.zir_tree.specs.declared.expr.Operator.{Operator}
use Rattle.zir_tree.specs.declared.expr.Operator.TheVariants.{BitXor}
use Rattle.zir_tree.specs.declared.expr.Expr.{Expr, Unit as UnitValue, Bit, Bool as Truth, Int, Variable, Unary', Binary', Index', Slice', Part', Call'}
use Rattle.zir_tree.specs.declared.expr.Expr.{Array', Convert', Complex', end_of-Expr, more_of-Expr}
use Rattle.zir_tree.specs.declared.comp.Link.{Link}
use Rattle.zir_tree.specs.declared.comp.Link.TheVariants.{Serial, Parallel}
use Rattle.zir_tree.specs.declared.comp.Comp.{Comp, Take, Takes, Emit, Emits, Return, Do, Repeat', While', Times', For', If', Map, Filter, Block', Pipe'}
use Rattle.zir_tree.specs.declared.comp.Comp.{end_of-Comp, more_of-Comp, Row_of-Member, end_of-Member, more_of-Member}
use Rattle.zir_tree.specs.declared.comp.Comp as comp
use Rattle.zir_tree.specs.declared.comp.Member.{Member, Bind, Var, Run}
use Rattle.zir_tree.specs.declared.program.Decl.{Decl}
use Rattle.zir_tree.specs.declared.program.Decl.TheVariants as decl
use Rattle.zir_tree.specs.declared.stmt.Var.{Var as TopVar}
use Rattle.zir_tree.specs.declared.program.Prog.{Prog}
use Rattle.zir_tree.specs.declared.program.Core.{Core}
use Rattle.zir_bit_tree.specs.declared.tree.Ty.TheVariants as bit_ty
use Rattle.zir_bit_tree.specs.declared.tree.Expr as bit_expr
use Rattle.zir_bit_tree.specs.declared.tree.Comp as bit_comp
use Rattle.zir_bit_tree.specs.declared.tree.Member as bit_member
use Rattle.zir_bit_tree.specs.declared.tree.Prog as bit_prog
use Rattle.zir_narrow.specs.declared.narrow.NarrowError.{NarrowError}
use Rattle.zir_narrow.specs.declared.narrow.NarrowError.TheVariants.{Unbuilt, Memory}

-- a part over bits, or the place of the first form that is none
pub data Narrow (A : Type 0) : Type 0 where
  Fine : (made : A) → Narrow A
  Stuck : (at : Place) → Narrow A

-- one part and then another: the first place is the answer
abbrev pub and_then : {A B : Type 0} → Narrow A → (A → Narrow B) → Narrow B
and_then (Fine made) next = next made
and_then (Stuck at) next = Stuck at

-- an error tells the place where the part is none; want of memory tells nothing
abbrev pub Stops : {A : Type 0} → Narrow A → NarrowError → Type 0
Stops part (Unbuilt at) = part ≡ Stuck at
Stops part Memory = Unit {0}

-- an answer tells what the part is over bits, or the place
abbrev pub Told : {A : Type 0} → Narrow A → Result A NarrowError → Type 0
Told part (Ok made) = part ≡ Fine made
Told part (Err error) = Stops part error

-- this, where it may stand there, and else its place
abbrev pub allowed : {A : Type 0} → Bool → Place → A → Narrow A
allowed true at made = Fine made
allowed false at made = Stuck at

-- whether a number is one of these
abbrev pub is_bound : List ℕ → ℕ → Bool
is_bound [] id = false
is_bound (x ∷ bound) id = nat_eq x id || is_bound bound id

-- whether an operator is an exclusive or of bits
abbrev pub is_bit_xor : Operator → Base → Bool
is_bit_xor BitXor base.Bit = true
is_bit_xor op t = false

-- an expression of bits and of the names of these numbers, in the order of the text: an operator stands behind its left side
abbrev pub expr : List ℕ → Expr → Narrow bit_expr.Expr
expr bound (UnitValue at) = Stuck at
expr bound (Bit b at) = Fine (bit_expr.Bit b at)
expr bound (Truth b at) = Stuck at
expr bound (Int n t at) = Stuck at
expr bound (Variable x) = allowed (is_bound bound x.id) x.at (bit_expr.Variable x)
expr bound (Unary' op t _ e at) = Stuck at
expr bound (Binary' op t _ (more_of-Expr a end_of-Expr) _ (more_of-Expr b end_of-Expr) at) =
    and_then (expr bound a) (λ left. and_then (allowed (is_bit_xor op t) at (tt {0})) (λ _.
    and_then (expr bound b) (λ right. Fine (bit_expr.Xor left right at))))
expr bound (Index' _ (more_of-Expr a end_of-Expr) _ i at) = and_then (expr bound a) (λ _. Stuck at)
expr bound (Slice' _ (more_of-Expr a end_of-Expr) _ i n at) = and_then (expr bound a) (λ _. Stuck at)
expr bound (Part' _ (more_of-Expr a end_of-Expr) name n at) = and_then (expr bound a) (λ _. Stuck at)
expr bound (Call' f callee _ es) = Stuck f.at
expr bound (Array' _ es at) = Stuck at
expr bound (Convert' t _ e at) = Stuck at
expr bound (Complex' t _ a _ b at) = Stuck at

-- the place of a component, that of its name where it is a call
abbrev pub place_of : Comp → Place
place_of (Take at) = at
place_of (Takes n at) = at
place_of (Emit e at) = at
place_of (Emits e at) = at
place_of (Return e at) = at
place_of (Do b at) = at
place_of (Repeat' _ c at) = at
place_of (While' turning e _ c at) = at
place_of (Times' e _ c at) = at
place_of (For' x a n _ c at) = at
place_of (If' e _ c _ d at) = at
place_of (Map f n at) = at
place_of (Filter f n at) = at
place_of (comp.Call f n es) = f.at
place_of (Block' _ ms at) = at
place_of (Pipe' link _ c _ d at) = at

-- a member over bits with its name, where it has one
abbrev pub named : Option Ident → bit_comp.Comp → bit_member.Member
named x c = record { bound = x; what = c }

-- what is returned: `()`, or an expression of bits
abbrev pub returned : List ℕ → Expr → Place → Narrow bit_member.Member
returned bound (UnitValue here) at = Fine (named None (bit_comp.Return (bit_expr.Unit here) at))
returned bound e at = and_then (expr bound e) (λ value. Fine (named None (bit_comp.Return value at)))

-- a member without a name: `take` or `emit`, and at the end of the block `emit` or `return`
abbrev pub plain_member : List ℕ → Bool → Comp → Narrow bit_member.Member
plain_member bound last (Take at) = and_then (allowed (not last) at (tt {0})) (λ _. Fine (named None (bit_comp.Take at)))
plain_member bound last (Emit e at) = and_then (expr bound e) (λ value. Fine (named None (bit_comp.Emit value at)))
plain_member bound last (Return e at) = and_then (allowed last at (tt {0})) (λ _. returned bound e at)
plain_member bound last c = Stuck (place_of c)

-- a bound name is one of a `take`
abbrev pub bound_member : Ident → Comp → Narrow bit_member.Member
bound_member x (Take at) = Fine (named (Some x) (bit_comp.Take at))
bound_member x c = Stuck (place_of c)

-- a member, which stands at the end of its block or not
abbrev pub member : List ℕ → Bool → Member → Narrow bit_member.Member
member bound last (Bind x c) = bound_member x c
member bound last (Var v) = Stuck v.at
member bound last (Run c) = plain_member bound last c

-- the numbers of the names that are bound behind a member
abbrev pub behind : List ℕ → Member → List ℕ
behind bound (Bind x c) = bound ++ x.id ∷ []
behind bound (Var v) = bound
behind bound (Run c) = bound

-- whether nothing follows
abbrev pub is_end : {m : _} → Row_of-Member m → Bool
is_end end_of-Member = true
is_end (more_of-Member m ms) = false

-- the members of a block from one on
abbrev pub members : {m : _} → List ℕ → Row_of-Member m → Narrow (List bit_member.Member)
members bound end_of-Member = Fine []
members bound (more_of-Member m ms) = and_then (member bound (is_end ms) m) (λ first. and_then (members (behind bound m) ms) (λ more. Fine (first ∷ more)))

-- a block
abbrev pub block : {m : _} → Row_of-Member m → Place → Narrow bit_comp.Comp
block ms at = and_then (members [] ms) (λ made. Fine (bit_comp.Block made at))

-- the body of a loop is a block
abbrev pub body : Comp → Narrow bit_comp.Comp
body (Block' _ ms at) = block ms at
body c = Stuck (place_of c)

-- whether a composition is `>>>`
abbrev pub is_serial : Link → Bool
is_serial Serial = true
is_serial Parallel = false

-- a component: blocks, loops of blocks, and compositions of both
abbrev pub component : Comp → Narrow bit_comp.Comp
component (Take at) = Stuck at
component (Takes n at) = Stuck at
component (Emit e at) = Stuck at
component (Emits e at) = Stuck at
component (Return e at) = Stuck at
component (Do b at) = Stuck at
component (Repeat' _ (more_of-Comp c end_of-Comp) at) = and_then (body c) (λ made. Fine (bit_comp.Repeat made at))
component (While' turning e _ c at) = Stuck at
component (Times' e _ c at) = Stuck at
component (For' x a n _ c at) = Stuck at
component (If' e _ c _ d at) = Stuck at
component (Map f n at) = Stuck at
component (Filter f n at) = Stuck at
component (comp.Call f n es) = Stuck f.at
component (Block' _ ms at) = block ms at
component (Pipe' link _ (more_of-Comp c end_of-Comp) _ (more_of-Comp d end_of-Comp) at) =
    and_then (component c) (λ left. and_then (allowed (is_serial link) at (tt {0})) (λ _. and_then (component d) (λ right. Fine (bit_comp.Pipe left right at))))

-- the place of a declaration
abbrev pub declaration_place : Decl → Place
declaration_place (decl.Var v) = v.at
declaration_place (decl.Struct s) = s.at
declaration_place (decl.Function f) = f.at
declaration_place (decl.Comp f) = f.at

-- there are no declarations
abbrev pub no_declarations : List Decl → Narrow (Unit {0})
no_declarations [] = Fine (tt {0})
no_declarations (d ∷ ds) = Stuck (declaration_place d)

-- there are no top variables
abbrev pub no_variables : List TopVar → Narrow (Unit {0})
no_variables [] = Fine (tt {0})
no_variables (v ∷ vs) = Stuck v.at

-- whether a type that is no array is that of a bit
abbrev pub is_bit_base : Base → Bool
is_bit_base base.Bit = true
is_bit_base t = false

-- whether a type is that of a bit
abbrev pub is_bit : List ℕ → Base → Bool
is_bit [] t = is_bit_base t
is_bit (n ∷ lengths) t = false

-- bits are read or written, by the type at this place
abbrev pub of_bits : Ty → Place → Narrow (Unit {0})
of_bits t at = allowed (is_bit t.lengths t.base) at (tt {0})

-- what an accepted program is over bits: it has no declarations, reads and writes bits, and its component is one over bits; or the place of the first
-- form of the text that is none
abbrev pub narrow : Prog → Core → Narrow bit_prog.Prog
narrow p core =
    and_then (no_declarations p.declarations) (λ _. and_then (no_variables core.variables) (λ _. and_then (of_bits core.input p.input.at) (λ _.
    and_then (component core.main) (λ c. and_then (of_bits core.output p.output.at) (λ _.
    Fine (record { input = bit_ty.Bit; main = c; output = bit_ty.Bit }))))))
