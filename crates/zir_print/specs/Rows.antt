-- Canonical forms that compute: each place where parentheses must or must not stand, and a whole program.
use Rattle.std.specs.Prelude.{◌≡◌, refl, ℕ, pos, true, List, [], ◌∷◌, Some, codes}
use Rattle.std.specs.Fmt.{digits}
use denote.Hole.Carrier.{hidden}
use Rattle.zir_tree.specs.declared.place.Place.{Place}
use Rattle.zir_tree.specs.declared.types.Base.TheVariants as base
use Rattle.zir_tree.specs.declared.expr.Prefix.TheVariants as prefix
use Rattle.zir_tree.specs.declared.expr.Operator.TheVariants as operator
use Rattle.zir_tree.specs.declared.expr.Callee.TheVariants as callee
use Rattle.zir_tree.specs.declared.expr.Expr.{Expr}
use Rattle.zir_tree.specs.declared.expr.Expr as expr
use Rattle.zir_tree.specs.declared.expr.Expr.TheBlock.{shape-the_row-Expr-0, hidden-the_row-Expr-0, shape-the_row-Expr-1, hidden-the_row-Expr-1}
use Rattle.zir_tree.specs.declared.stmt.Stmt as stmt
use Rattle.zir_tree.specs.declared.stmt.Stmt.TheBlock.{shape-the_row-Stmt-0, hidden-the_row-Stmt-0}
use Rattle.zir_tree.specs.declared.comp.Link.TheVariants as link
use Rattle.zir_tree.specs.declared.comp.Comp.{Comp}
use Rattle.zir_tree.specs.declared.comp.Comp as comp
use Rattle.zir_tree.specs.declared.comp.Comp.TheBlock.{shape-the_row-Member-1, hidden-the_row-Member-1, shape-the_row-Comp-0, hidden-the_row-Comp-0}
use Rattle.zir_tree.specs.declared.comp.Member as member
use Rattle.zir_tree.specs.declared.program.Decl.TheVariants as decl
use Rattle.zir_tree.specs.declared.program.Prog.{Prog}
use Rattle.zir_grammar.specs.Grammar.{ident, plain_type, field, result_body}
use Rattle.zir_print.specs.Expressions.{expr_words}
use Rattle.zir_print.specs.Components.{comp_words}
use Rattle.zir_print.specs.Text.{spaced, canonical_text}

-- a place that tells nothing
abbrev here : Place
here = record { line = 1; col = 1 }

-- a variable of this name
abbrev variable_of : List ℕ → Expr
variable_of x = expr.Variable (ident x here)

-- the variable `a`
abbrev a : Expr
a = variable_of (codes "a")

-- the variable `b`
abbrev b : Expr
b = variable_of (codes "b")

-- the variable `c`
abbrev c : Expr
c = variable_of (codes "c")

-- a whole number
abbrev number : ℕ → Expr
number n = expr.Int (pos n) base.Unit here

-- a sum
abbrev plus : Expr → Expr → Expr
plus l r = expr.Binary operator.Add base.Unit l r here

-- a product
abbrev times : Expr → Expr → Expr
times l r = expr.Binary operator.Multiply base.Unit l r here

-- `-` before an operand
abbrev minus : Expr → Expr
minus e = expr.Unary prefix.Minus base.Unit e here

-- an element of an array
abbrev at_index : Expr → Expr → Expr
at_index e i = expr.Index e i here

-- the component `take`
abbrev take : Comp
take = comp.Take here

-- components joined by `>>>`
abbrev serial : Comp → Comp → Comp
serial l r = comp.Pipe link.Serial l r here

-- components joined by `|>>>|`
abbrev parallel : Comp → Comp → Comp
parallel l r = comp.Pipe link.Parallel l r here

-- a left operand that binds looser stands in parentheses
pub looser_left : spaced (expr_words (times (plus a b) c)) ≡ codes " ( a + b ) * c"
unfolding shape-the_row-Expr-0 hidden-the_row-Expr-0 shape-the_row-Expr-1 hidden-the_row-Expr-1 shape-the_row-Stmt-0 hidden-the_row-Stmt-0
    shape-the_row-Member-1 hidden-the_row-Member-1 shape-the_row-Comp-0 hidden-the_row-Comp-0 hidden digits
looser_left = refl

-- a left operand that binds as tightly stands without
pub equal_left : spaced (expr_words (plus (plus a b) c)) ≡ codes " a + b + c"
unfolding shape-the_row-Expr-0 hidden-the_row-Expr-0 shape-the_row-Expr-1 hidden-the_row-Expr-1 shape-the_row-Stmt-0 hidden-the_row-Stmt-0
    shape-the_row-Member-1 hidden-the_row-Member-1 shape-the_row-Comp-0 hidden-the_row-Comp-0 hidden digits
equal_left = refl

-- a left operand that binds tighter stands without
pub tighter_left : spaced (expr_words (plus (times a b) c)) ≡ codes " a * b + c"
unfolding shape-the_row-Expr-0 hidden-the_row-Expr-0 shape-the_row-Expr-1 hidden-the_row-Expr-1 shape-the_row-Stmt-0 hidden-the_row-Stmt-0
    shape-the_row-Member-1 hidden-the_row-Member-1 shape-the_row-Comp-0 hidden-the_row-Comp-0 hidden digits
tighter_left = refl

-- a right operand that binds no tighter stands in parentheses
pub equal_right : spaced (expr_words (plus a (plus b c))) ≡ codes " a + ( b + c )"
unfolding shape-the_row-Expr-0 hidden-the_row-Expr-0 shape-the_row-Expr-1 hidden-the_row-Expr-1 shape-the_row-Stmt-0 hidden-the_row-Stmt-0
    shape-the_row-Member-1 hidden-the_row-Member-1 shape-the_row-Comp-0 hidden-the_row-Comp-0 hidden digits
equal_right = refl

-- a right operand that binds tighter stands without
pub tighter_right : spaced (expr_words (plus a (times b c))) ≡ codes " a + b * c"
unfolding shape-the_row-Expr-0 hidden-the_row-Expr-0 shape-the_row-Expr-1 hidden-the_row-Expr-1 shape-the_row-Stmt-0 hidden-the_row-Stmt-0
    shape-the_row-Member-1 hidden-the_row-Member-1 shape-the_row-Comp-0 hidden-the_row-Comp-0 hidden digits
tighter_right = refl

-- a prefix form is an operand without parentheses
pub prefix_left : spaced (expr_words (times (minus a) (minus b))) ≡ codes " - a * - b"
unfolding shape-the_row-Expr-0 hidden-the_row-Expr-0 shape-the_row-Expr-1 hidden-the_row-Expr-1 shape-the_row-Stmt-0 hidden-the_row-Stmt-0
    shape-the_row-Member-1 hidden-the_row-Member-1 shape-the_row-Comp-0 hidden-the_row-Comp-0 hidden digits
prefix_left = refl

-- a prefix's binary operand stands in parentheses
pub prefix_of_binary : spaced (expr_words (minus (times a b))) ≡ codes " - ( a * b )"
unfolding shape-the_row-Expr-0 hidden-the_row-Expr-0 shape-the_row-Expr-1 hidden-the_row-Expr-1 shape-the_row-Stmt-0 hidden-the_row-Stmt-0
    shape-the_row-Member-1 hidden-the_row-Member-1 shape-the_row-Comp-0 hidden-the_row-Comp-0 hidden digits
prefix_of_binary = refl

-- a prefix's prefix form stands without
pub prefix_of_prefix : spaced (expr_words (minus (minus (number 5)))) ≡ codes " - - 5"
unfolding shape-the_row-Expr-0 hidden-the_row-Expr-0 shape-the_row-Expr-1 hidden-the_row-Expr-1 shape-the_row-Stmt-0 hidden-the_row-Stmt-0
    shape-the_row-Member-1 hidden-the_row-Member-1 shape-the_row-Comp-0 hidden-the_row-Comp-0 hidden digits
prefix_of_prefix = refl

-- a prefix's indexed operand stands without
pub prefix_of_post : spaced (expr_words (minus (at_index a b))) ≡ codes " - a [ b ]"
unfolding shape-the_row-Expr-0 hidden-the_row-Expr-0 shape-the_row-Expr-1 hidden-the_row-Expr-1 shape-the_row-Stmt-0 hidden-the_row-Stmt-0
    shape-the_row-Member-1 hidden-the_row-Member-1 shape-the_row-Comp-0 hidden-the_row-Comp-0 hidden digits
prefix_of_post = refl

-- the base of an index that is a prefix form stands in parentheses
pub post_of_prefix : spaced (expr_words (at_index (minus a) b)) ≡ codes " ( - a ) [ b ]"
unfolding shape-the_row-Expr-0 hidden-the_row-Expr-0 shape-the_row-Expr-1 hidden-the_row-Expr-1 shape-the_row-Stmt-0 hidden-the_row-Stmt-0
    shape-the_row-Member-1 hidden-the_row-Member-1 shape-the_row-Comp-0 hidden-the_row-Comp-0 hidden digits
post_of_prefix = refl

-- the base of a field that is a binary form stands in parentheses
pub post_of_binary : spaced (expr_words (expr.Part (plus a b) (codes "re") 0 here)) ≡ codes " ( a + b ) . re"
unfolding shape-the_row-Expr-0 hidden-the_row-Expr-0 shape-the_row-Expr-1 hidden-the_row-Expr-1 shape-the_row-Stmt-0 hidden-the_row-Stmt-0
    shape-the_row-Member-1 hidden-the_row-Member-1 shape-the_row-Comp-0 hidden-the_row-Comp-0 hidden digits
post_of_binary = refl

-- the base of a slice that is an index stands without, and so does the index
pub post_of_post : spaced (expr_words (expr.Slice (at_index a b) (plus b c) 12 here)) ≡ codes " a [ b ] [ b + c , 12 ]"
unfolding shape-the_row-Expr-0 hidden-the_row-Expr-0 shape-the_row-Expr-1 hidden-the_row-Expr-1 shape-the_row-Stmt-0 hidden-the_row-Stmt-0
    shape-the_row-Member-1 hidden-the_row-Member-1 shape-the_row-Comp-0 hidden-the_row-Comp-0 hidden digits
post_of_post = refl

-- arguments and elements stand without parentheses
pub arguments_without : spaced (expr_words (expr.Call (ident (codes "f") here) (callee.Function 0) (plus a b ∷ expr.Array (a ∷ minus b ∷ []) here ∷ []))) ≡ codes " f ( a + b , { a , - b } )"
unfolding shape-the_row-Expr-0 hidden-the_row-Expr-0 shape-the_row-Expr-1 hidden-the_row-Expr-1 shape-the_row-Stmt-0 hidden-the_row-Stmt-0
    shape-the_row-Member-1 hidden-the_row-Member-1 shape-the_row-Comp-0 hidden-the_row-Comp-0 hidden digits
arguments_without = refl

-- conversions have the parentheses of their own
pub conversions : spaced (expr_words (expr.Complex base.Complex16 (expr.Convert base.Int16 (plus a b) here) (expr.Unit here) here)) ≡ codes " complex16 ( int16 ( a + b ) , ( ) )"
unfolding shape-the_row-Expr-0 hidden-the_row-Expr-0 shape-the_row-Expr-1 hidden-the_row-Expr-1 shape-the_row-Stmt-0 hidden-the_row-Stmt-0
    shape-the_row-Member-1 hidden-the_row-Member-1 shape-the_row-Comp-0 hidden-the_row-Comp-0 hidden digits
conversions = refl

-- a `>>>` to the left of a `>>>` or a `|>>>|` stands without parentheses
pub serial_left : spaced (comp_words (parallel (serial (serial take take) take) take)) ≡ codes " take >>> take >>> take |>>>| take"
unfolding shape-the_row-Expr-0 hidden-the_row-Expr-0 shape-the_row-Expr-1 hidden-the_row-Expr-1 shape-the_row-Stmt-0 hidden-the_row-Stmt-0
    shape-the_row-Member-1 hidden-the_row-Member-1 shape-the_row-Comp-0 hidden-the_row-Comp-0 hidden digits
serial_left = refl

-- a `>>>` to the right of a `>>>` stands in parentheses
pub serial_right : spaced (comp_words (serial take (serial take take))) ≡ codes " take >>> ( take >>> take )"
unfolding shape-the_row-Expr-0 hidden-the_row-Expr-0 shape-the_row-Expr-1 hidden-the_row-Expr-1 shape-the_row-Stmt-0 hidden-the_row-Stmt-0
    shape-the_row-Member-1 hidden-the_row-Member-1 shape-the_row-Comp-0 hidden-the_row-Comp-0 hidden digits
serial_right = refl

-- a `>>>` to the right of a `|>>>|` stands without
pub serial_in_parallel : spaced (comp_words (parallel take (serial take take))) ≡ codes " take |>>>| take >>> take"
unfolding shape-the_row-Expr-0 hidden-the_row-Expr-0 shape-the_row-Expr-1 hidden-the_row-Expr-1 shape-the_row-Stmt-0 hidden-the_row-Stmt-0
    shape-the_row-Member-1 hidden-the_row-Member-1 shape-the_row-Comp-0 hidden-the_row-Comp-0 hidden digits
serial_in_parallel = refl

-- a `|>>>|` to the left of a `>>>` stands in parentheses
pub parallel_left : spaced (comp_words (serial (parallel take take) take)) ≡ codes " ( take |>>>| take ) >>> take"
unfolding shape-the_row-Expr-0 hidden-the_row-Expr-0 shape-the_row-Expr-1 hidden-the_row-Expr-1 shape-the_row-Stmt-0 hidden-the_row-Stmt-0
    shape-the_row-Member-1 hidden-the_row-Member-1 shape-the_row-Comp-0 hidden-the_row-Comp-0 hidden digits
parallel_left = refl

-- a `|>>>|` to the right of a `|>>>|` stands in parentheses
pub parallel_right : spaced (comp_words (parallel take (parallel take take))) ≡ codes " take |>>>| ( take |>>>| take )"
unfolding shape-the_row-Expr-0 hidden-the_row-Expr-0 shape-the_row-Expr-1 hidden-the_row-Expr-1 shape-the_row-Stmt-0 hidden-the_row-Stmt-0
    shape-the_row-Member-1 hidden-the_row-Member-1 shape-the_row-Comp-0 hidden-the_row-Comp-0 hidden digits
parallel_right = refl

-- a joined body stands in parentheses, for an atom is needed there
pub body_of_repeat : spaced (comp_words (comp.Repeat (serial take take) here)) ≡ codes " repeat ( take >>> take )"
unfolding shape-the_row-Expr-0 hidden-the_row-Expr-0 shape-the_row-Expr-1 hidden-the_row-Expr-1 shape-the_row-Stmt-0 hidden-the_row-Stmt-0
    shape-the_row-Member-1 hidden-the_row-Member-1 shape-the_row-Comp-0 hidden-the_row-Comp-0 hidden digits
body_of_repeat = refl

-- joined branches stand in parentheses
pub branches : spaced (comp_words (comp.If a (serial take take) (comp.Repeat take here) here)) ≡ codes " if a then ( take >>> take ) else repeat take"
unfolding shape-the_row-Expr-0 hidden-the_row-Expr-0 shape-the_row-Expr-1 hidden-the_row-Expr-1 shape-the_row-Stmt-0 hidden-the_row-Stmt-0
    shape-the_row-Member-1 hidden-the_row-Member-1 shape-the_row-Comp-0 hidden-the_row-Comp-0 hidden digits
branches = refl

-- no `;` stands before `}`, and members are no atoms
pub members : spaced (comp_words (comp.Block (member.Bind (ident (codes "x") here) (serial take take) ∷ member.Run (comp.Emit (variable_of (codes "x")) here) ∷ []) here)) ≡ codes " { x <- take >>> take ; emit x }"
unfolding shape-the_row-Expr-0 hidden-the_row-Expr-0 shape-the_row-Expr-1 hidden-the_row-Expr-1 shape-the_row-Stmt-0 hidden-the_row-Stmt-0
    shape-the_row-Member-1 hidden-the_row-Member-1 shape-the_row-Comp-0 hidden-the_row-Comp-0 hidden digits
members = refl

-- no `;` stands before `}` in a body
pub statements : spaced (comp_words (comp.Do (record { statements = stmt.Assign (ident (codes "x") here) [] (plus a b) ∷ stmt.If a (stmt.Error (codes "no") here ∷ []) here ∷ []; result = Some (record { value = a; at = here }) }) here)) ≡ codes " do { x := a + b ; if a then { error \"no\" } ; return a }"
unfolding shape-the_row-Expr-0 hidden-the_row-Expr-0 shape-the_row-Expr-1 hidden-the_row-Expr-1 shape-the_row-Stmt-0 hidden-the_row-Stmt-0
    shape-the_row-Member-1 hidden-the_row-Member-1 shape-the_row-Comp-0 hidden-the_row-Comp-0 hidden digits
statements = refl

-- a program with a function that turns bits
abbrev flips : Prog
flips = record {
  declarations = decl.Function (record {
    name = ident (codes "flip") here;
    params = field (codes "x") here (plain_type base.Bit here) ∷ [];
    result = Some (plain_type base.Bit here);
    body = result_body [] (expr.Binary operator.BitXor base.Unit (variable_of (codes "x")) (expr.Bit true here) here) here;
    at = here;
  }) ∷ [];
  input = plain_type base.Bit here;
  main = comp.Map (ident (codes "flip") here) 0 here;
  output = plain_type base.Bit here;
  at = here;
}

-- a line for the function and one for main
pub whole_program : canonical_text flips ≡ codes "fun flip ( x : bit ) : bit { return x ^ '1 }\nlet comp main = read [ bit ] >>> map flip >>> write [ bit ]\n"
unfolding shape-the_row-Expr-0 hidden-the_row-Expr-0 shape-the_row-Expr-1 hidden-the_row-Expr-1 shape-the_row-Stmt-0 hidden-the_row-Stmt-0
    shape-the_row-Member-1 hidden-the_row-Member-1 shape-the_row-Comp-0 hidden-the_row-Comp-0 hidden digits
whole_program = refl
