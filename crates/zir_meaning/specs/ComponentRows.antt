-- Worked rows that compute: each form of a component at the budgets around its edges.
use Rattle.std.specs.Prelude.{pos, true, false, [], ◌∷◌, Some, None, codes, ◌≡◌, refl}
use Rattle.std.specs.Int.{int_wrap}
use Rattle.std.specs.Fmt.{digits}
use denote.Hole.Carrier.{hidden}
use Rattle.zir_tree.specs.declared.format.Format.TheVariants.{Binary as BinaryFormat}
use Rattle.zir_tree.specs.declared.types.Base.TheVariants.{Unit as UnitTy, Bit as BitTy, Int8, Int32}
use Rattle.zir_tree.specs.declared.value.Val.TheBlock.{shape-the_row-Val-0, hidden-the_row-Val-0}
use Rattle.zir_tree.specs.declared.expr.Operator.TheVariants.{BitXor, Equal, Less, Add, Subtract, Multiply, Divide, Remainder}
use Rattle.zir_tree.specs.declared.expr.Callee.TheVariants.{Function as FunctionCallee}
use Rattle.zir_tree.specs.declared.expr.Expr.{Bit, Bool as BoolLiteral, Int, Variable, Binary, Call, Array, Convert}
use Rattle.zir_tree.specs.declared.expr.Expr.TheBlock.{shape-the_row-Expr-0, hidden-the_row-Expr-0, shape-the_row-Expr-1, hidden-the_row-Expr-1}
use Rattle.zir_tree.specs.declared.stmt.Stmt.{Var as VarStmt, Assign, Error}
use Rattle.zir_tree.specs.declared.stmt.Stmt.TheBlock.{shape-the_row-Stmt-0, hidden-the_row-Stmt-0}
use Rattle.zir_tree.specs.declared.comp.Turning.TheVariants.{While as Whilst, Until}
use Rattle.zir_tree.specs.declared.comp.Link.TheVariants.{Serial}
use Rattle.zir_tree.specs.declared.comp.Comp.{Take, Takes, Emit, Emits, Return as ReturnComp, Do, While as WhileComp, Times, For as ForComp, If as IfComp, Map, Filter, Call as CallComp, Block, Pipe}
use Rattle.zir_tree.specs.declared.comp.Comp.TheBlock.{shape-the_row-Member-1, hidden-the_row-Member-1, shape-the_row-Comp-0, hidden-the_row-Comp-0}
use Rattle.zir_tree.specs.declared.comp.Member.{Bind, Var as VarMember, Run}
use Rattle.zir_tree.specs.declared.program.Core.{Core}
use Rattle.zir_meaning.specs.Answer.{answer_of}
use Rattle.zir_meaning.specs.Notation.{at, here, id, ty, plain, word, var, param, doing, returning, function, instance, core, program, loaded, answers}

-- an array of elements:
--     let comp main = read[bit] >>> { a <- takes 3; emits a } >>> write[bit]
abbrev takes_three_core : Core
takes_three_core = program (Block (Bind (id 1) (Takes 3 here) ∷ Run (Emits (Variable (id 1)) here) ∷ []) here) (plain BitTy) (plain BitTy) (Some
    (plain UnitTy))

pub takes_three : answer_of BinaryFormat 6 (loaded (codes "p") takes_three_core) [] (5 ∷ []) ≡ answers 0 (5 ∷ [])
    (codes "ended ()\ntaken 3\nwritten 3\n")
unfolding shape-the_row-Val-0 hidden-the_row-Val-0 shape-the_row-Expr-0 hidden-the_row-Expr-0 shape-the_row-Expr-1 hidden-the_row-Expr-1
    shape-the_row-Stmt-0 hidden-the_row-Stmt-0 shape-the_row-Member-1 hidden-the_row-Member-1 shape-the_row-Comp-0 hidden-the_row-Comp-0 hidden
    int_wrap digits
takes_three = refl

-- one tick an element and one an output:
--     let comp main = read[bit] >>> { a <- takes 3; emits a } >>> write[bit]
abbrev takes_spent_core : Core
takes_spent_core = program (Block (Bind (id 1) (Takes 3 here) ∷ Run (Emits (Variable (id 1)) here) ∷ []) here) (plain BitTy) (plain BitTy) (Some
    (plain UnitTy))

pub takes_spent : answer_of BinaryFormat 5 (loaded (codes "p") takes_spent_core) [] (5 ∷ []) ≡ answers 5 (1 ∷ [])
    (codes "out of ticks 5\nwritten 2\n")
unfolding shape-the_row-Val-0 hidden-the_row-Val-0 shape-the_row-Expr-0 hidden-the_row-Expr-0 shape-the_row-Expr-1 hidden-the_row-Expr-1
    shape-the_row-Stmt-0 hidden-the_row-Stmt-0 shape-the_row-Member-1 hidden-the_row-Member-1 shape-the_row-Comp-0 hidden-the_row-Comp-0 hidden
    int_wrap digits
takes_spent = refl

-- it starves at the first element that is missing:
--     let comp main = read[bit] >>> takes 9 >>> write[bit]
abbrev takes_starves_core : Core
takes_starves_core = program (Takes 9 here) (plain BitTy) (plain BitTy) (Some (ty (9 ∷ []) BitTy))

pub takes_starves : answer_of BinaryFormat 100 (loaded (codes "p") takes_starves_core) [] (255 ∷ []) ≡ answers 0 []
    (codes "input ended\ntaken 8\nwritten 0\n")
unfolding shape-the_row-Val-0 hidden-the_row-Val-0 shape-the_row-Expr-0 hidden-the_row-Expr-0 shape-the_row-Expr-1 hidden-the_row-Expr-1
    shape-the_row-Stmt-0 hidden-the_row-Stmt-0 shape-the_row-Member-1 hidden-the_row-Member-1 shape-the_row-Comp-0 hidden-the_row-Comp-0 hidden
    int_wrap digits
takes_starves = refl

-- the last element costs a tick too:
--     let comp main = read[bit] >>> takes 3 >>> write[bit]
abbrev takes_one_tick_short_core : Core
takes_one_tick_short_core = program (Takes 3 here) (plain BitTy) (plain BitTy) (Some (ty (3 ∷ []) BitTy))

pub takes_one_tick_short : answer_of BinaryFormat 2 (loaded (codes "p") takes_one_tick_short_core) [] (5 ∷ []) ≡ answers 5 []
    (codes "out of ticks 2\nwritten 0\n")
unfolding shape-the_row-Val-0 hidden-the_row-Val-0 shape-the_row-Expr-0 hidden-the_row-Expr-0 shape-the_row-Expr-1 hidden-the_row-Expr-1
    shape-the_row-Stmt-0 hidden-the_row-Stmt-0 shape-the_row-Member-1 hidden-the_row-Member-1 shape-the_row-Comp-0 hidden-the_row-Comp-0 hidden
    int_wrap digits
takes_one_tick_short = refl

-- the elements in order:
--     let comp main = read[bit] >>> takes 3 >>> write[bit]
abbrev value_of_takes_core : Core
value_of_takes_core = program (Takes 3 here) (plain BitTy) (plain BitTy) (Some (ty (3 ∷ []) BitTy))

pub value_of_takes : answer_of BinaryFormat 3 (loaded (codes "p") value_of_takes_core) [] (5 ∷ []) ≡ answers 0 []
    (codes "ended {'1,'0,'1}\ntaken 3\nwritten 0\n")
unfolding shape-the_row-Val-0 hidden-the_row-Val-0 shape-the_row-Expr-0 hidden-the_row-Expr-0 shape-the_row-Expr-1 hidden-the_row-Expr-1
    shape-the_row-Stmt-0 hidden-the_row-Stmt-0 shape-the_row-Member-1 hidden-the_row-Member-1 shape-the_row-Comp-0 hidden-the_row-Comp-0 hidden
    int_wrap digits
value_of_takes = refl

-- an output ends with unit:
--     let comp main = read[bit] >>> { x <- emit '1; return x } >>> write[bit]
abbrev value_of_emit_core : Core
value_of_emit_core = program (Block (Bind (id 1) (Emit (Bit true here) here) ∷ Run (ReturnComp (Variable (id 1)) here) ∷ []) here) (plain BitTy)
    (plain BitTy) (Some (plain UnitTy))

pub value_of_emit : answer_of BinaryFormat 2 (loaded (codes "p") value_of_emit_core) [] [] ≡ answers 0 (1 ∷ [])
    (codes "ended ()\ntaken 0\nwritten 1\n")
unfolding shape-the_row-Val-0 hidden-the_row-Val-0 shape-the_row-Expr-0 hidden-the_row-Expr-0 shape-the_row-Expr-1 hidden-the_row-Expr-1
    shape-the_row-Stmt-0 hidden-the_row-Stmt-0 shape-the_row-Member-1 hidden-the_row-Member-1 shape-the_row-Comp-0 hidden-the_row-Comp-0 hidden
    int_wrap digits
value_of_emit = refl

-- an output costs a tick:
--     let comp main = read[bit] >>> { emit '1; emit '1 } >>> write[bit]
abbrev emit_spent_core : Core
emit_spent_core = program (Block (Run (Emit (Bit true here) here) ∷ Run (Emit (Bit true here) here) ∷ []) here) (plain BitTy) (plain BitTy) (Some
    (plain UnitTy))

pub emit_spent : answer_of BinaryFormat 1 (loaded (codes "p") emit_spent_core) [] [] ≡ answers 5 (1 ∷ []) (codes "out of ticks 1\nwritten 1\n")
unfolding shape-the_row-Val-0 hidden-the_row-Val-0 shape-the_row-Expr-0 hidden-the_row-Expr-0 shape-the_row-Expr-1 hidden-the_row-Expr-1
    shape-the_row-Stmt-0 hidden-the_row-Stmt-0 shape-the_row-Member-1 hidden-the_row-Member-1 shape-the_row-Comp-0 hidden-the_row-Comp-0 hidden
    int_wrap digits
emit_spent = refl

-- a value costs a tick:
--     let comp main = read[bit] >>> return '1 >>> write[bit]
abbrev return_spent_core : Core
return_spent_core = program (ReturnComp (Bit true here) here) (plain BitTy) (plain BitTy) (Some (plain BitTy))

pub return_spent : answer_of BinaryFormat 1 (loaded (codes "p") return_spent_core) [] [] ≡ answers 0 [] (codes "ended '1\ntaken 0\nwritten 0\n")
unfolding shape-the_row-Val-0 hidden-the_row-Val-0 shape-the_row-Expr-0 hidden-the_row-Expr-0 shape-the_row-Expr-1 hidden-the_row-Expr-1
    shape-the_row-Stmt-0 hidden-the_row-Stmt-0 shape-the_row-Member-1 hidden-the_row-Member-1 shape-the_row-Comp-0 hidden-the_row-Comp-0 hidden
    int_wrap digits
return_spent = refl

-- behind an output:
--     let comp main = read[bit] >>> { emit '1; return '0 } >>> write[bit]
abbrev return_after_core : Core
return_after_core = program (Block (Run (Emit (Bit true here) here) ∷ Run (ReturnComp (Bit false here) here) ∷ []) here) (plain BitTy) (plain BitTy)
    (Some (plain BitTy))

pub return_after : answer_of BinaryFormat 1 (loaded (codes "p") return_after_core) [] [] ≡ answers 5 (1 ∷ []) (codes "out of ticks 1\nwritten 1\n")
unfolding shape-the_row-Val-0 hidden-the_row-Val-0 shape-the_row-Expr-0 hidden-the_row-Expr-0 shape-the_row-Expr-1 hidden-the_row-Expr-1
    shape-the_row-Stmt-0 hidden-the_row-Stmt-0 shape-the_row-Member-1 hidden-the_row-Member-1 shape-the_row-Comp-0 hidden-the_row-Comp-0 hidden
    int_wrap digits
return_after = refl

-- all elements of an array:
--     let comp main = read[bit] >>> emits {'1, '0, '1} >>> write[bit]
abbrev emits_nothing_more_core : Core
emits_nothing_more_core = program (Emits (Array ((Bit true here) ∷ (Bit false here) ∷ (Bit true here) ∷ []) here) here) (plain BitTy) (plain BitTy)
    (Some (plain UnitTy))

pub emits_nothing_more : answer_of BinaryFormat 3 (loaded (codes "p") emits_nothing_more_core) [] [] ≡ answers 0 (5 ∷ [])
    (codes "ended ()\ntaken 0\nwritten 3\n")
unfolding shape-the_row-Val-0 hidden-the_row-Val-0 shape-the_row-Expr-0 hidden-the_row-Expr-0 shape-the_row-Expr-1 hidden-the_row-Expr-1
    shape-the_row-Stmt-0 hidden-the_row-Stmt-0 shape-the_row-Member-1 hidden-the_row-Member-1 shape-the_row-Comp-0 hidden-the_row-Comp-0 hidden
    int_wrap digits
emits_nothing_more = refl

-- statements cost a tick before them, and their value is that of the return:
--     let comp main = read[bit] >>> { var n : int8; x <- do { n := n + 3; return n * 2 }; return x } >>> write[bit]
abbrev does_value_core : Core
does_value_core = program (Block (VarMember (var 1 (word Int8) None) ∷ Bind (id 2) (Do (returning (Assign (id 1) [] (Binary Add Int8 (Variable (id 1))
    (Int (pos 3) Int8 here) (at 1 64)) ∷ []) (Binary Multiply Int8 (Variable (id 1)) (Int (pos 2) Int8 here) (at 1 78))) here) ∷ Run (ReturnComp
    (Variable (id 2)) here) ∷ []) here) (plain BitTy) (plain BitTy) (Some (plain Int8))

pub does_value : answer_of BinaryFormat 2 (loaded (codes "p") does_value_core) [] [] ≡ answers 0 [] (codes "ended 6\ntaken 0\nwritten 0\n")
unfolding shape-the_row-Val-0 hidden-the_row-Val-0 shape-the_row-Expr-0 hidden-the_row-Expr-0 shape-the_row-Expr-1 hidden-the_row-Expr-1
    shape-the_row-Stmt-0 hidden-the_row-Stmt-0 shape-the_row-Member-1 hidden-the_row-Member-1 shape-the_row-Comp-0 hidden-the_row-Comp-0 hidden
    int_wrap digits
does_value = refl

-- no tick is left for the statements:
--     let comp main = read[bit] >>> { emit '1; do { error "no" } } >>> write[bit]
abbrev does_spent_core : Core
does_spent_core = program (Block (Run (Emit (Bit true here) here) ∷ Run (Do (doing (Error [] (at 1 47) ∷ [])) here) ∷ []) here) (plain BitTy) (plain
    BitTy) (Some (plain UnitTy))

pub does_spent : answer_of BinaryFormat 1 (loaded (codes "p") does_spent_core) [] [] ≡ answers 5 (1 ∷ []) (codes "out of ticks 1\nwritten 1\n")
unfolding shape-the_row-Val-0 hidden-the_row-Val-0 shape-the_row-Expr-0 hidden-the_row-Expr-0 shape-the_row-Expr-1 hidden-the_row-Expr-1
    shape-the_row-Stmt-0 hidden-the_row-Stmt-0 shape-the_row-Member-1 hidden-the_row-Member-1 shape-the_row-Comp-0 hidden-the_row-Comp-0 hidden
    int_wrap digits
does_spent = refl

-- the word error is a trap:
--     let comp main = read[bit] >>> { emit '1; do { error "no" } } >>> write[bit]
abbrev does_traps_core : Core
does_traps_core = program (Block (Run (Emit (Bit true here) here) ∷ Run (Do (doing (Error [] (at 1 47) ∷ [])) here) ∷ []) here) (plain BitTy) (plain
    BitTy) (Some (plain UnitTy))

pub does_traps : answer_of BinaryFormat 2 (loaded (codes "p") does_traps_core) [] [] ≡ answers 4 (1 ∷ [])
    (codes "trap 5 in p at 1:47\ntaken 0\nwritten 1\n")
unfolding shape-the_row-Val-0 hidden-the_row-Val-0 shape-the_row-Expr-0 hidden-the_row-Expr-0 shape-the_row-Expr-1 hidden-the_row-Expr-1
    shape-the_row-Stmt-0 hidden-the_row-Stmt-0 shape-the_row-Member-1 hidden-the_row-Member-1 shape-the_row-Comp-0 hidden-the_row-Comp-0 hidden
    int_wrap digits
does_traps = refl

-- a turn costs a tick before it, the last test none:
--     let comp main = read[bit] >>> { var n : int8; while (n < 2) { do { n := n + 1 }; emit '1 }; return n } >>> write[bit]
abbrev whiles_core : Core
whiles_core = program (Block (VarMember (var 1 (word Int8) None) ∷ Run (WhileComp Whilst (Binary Less Int8 (Variable (id 1)) (Int (pos 2) Int8 here)
    (at 1 56)) (Block (Run (Do (doing (Assign (id 1) [] (Binary Add Int8 (Variable (id 1)) (Int (pos 1) Int8 here) (at 1 75)) ∷ [])) here) ∷ Run (Emit
    (Bit true here) here) ∷ []) here) here) ∷ Run (ReturnComp (Variable (id 1)) here) ∷ []) here) (plain BitTy) (plain BitTy) (Some (plain Int8))

pub whiles : answer_of BinaryFormat 7 (loaded (codes "p") whiles_core) [] [] ≡ answers 0 (3 ∷ []) (codes "ended 2\ntaken 0\nwritten 2\n")
unfolding shape-the_row-Val-0 hidden-the_row-Val-0 shape-the_row-Expr-0 hidden-the_row-Expr-0 shape-the_row-Expr-1 hidden-the_row-Expr-1
    shape-the_row-Stmt-0 hidden-the_row-Stmt-0 shape-the_row-Member-1 hidden-the_row-Member-1 shape-the_row-Comp-0 hidden-the_row-Comp-0 hidden
    int_wrap digits
whiles = refl

-- the value has no tick:
--     let comp main = read[bit] >>> { var n : int8; while (n < 2) { do { n := n + 1 }; emit '1 }; return n } >>> write[bit]
abbrev whiles_spent_core : Core
whiles_spent_core = program (Block (VarMember (var 1 (word Int8) None) ∷ Run (WhileComp Whilst (Binary Less Int8 (Variable (id 1)) (Int (pos 2) Int8
    here) (at 1 56)) (Block (Run (Do (doing (Assign (id 1) [] (Binary Add Int8 (Variable (id 1)) (Int (pos 1) Int8 here) (at 1 75)) ∷ [])) here) ∷ Run
    (Emit (Bit true here) here) ∷ []) here) here) ∷ Run (ReturnComp (Variable (id 1)) here) ∷ []) here) (plain BitTy) (plain BitTy) (Some (plain
    Int8))

pub whiles_spent : answer_of BinaryFormat 6 (loaded (codes "p") whiles_spent_core) [] [] ≡ answers 5 (3 ∷ []) (codes "out of ticks 6\nwritten 2\n")
unfolding shape-the_row-Val-0 hidden-the_row-Val-0 shape-the_row-Expr-0 hidden-the_row-Expr-0 shape-the_row-Expr-1 hidden-the_row-Expr-1
    shape-the_row-Stmt-0 hidden-the_row-Stmt-0 shape-the_row-Member-1 hidden-the_row-Member-1 shape-the_row-Comp-0 hidden-the_row-Comp-0 hidden
    int_wrap digits
whiles_spent = refl

-- until the condition holds:
--     let comp main = read[bit] >>> { var n : int8; until (n == 2) { x <- take; do { n := n + 1 }; emit x }; return n } >>> write[bit]
abbrev untils_core : Core
untils_core = program (Block (VarMember (var 1 (word Int8) None) ∷ Run (WhileComp Until (Binary Equal Int8 (Variable (id 1)) (Int (pos 2) Int8 here)
    (at 1 56)) (Block (Bind (id 2) (Take here) ∷ Run (Do (doing (Assign (id 1) [] (Binary Add Int8 (Variable (id 1)) (Int (pos 1) Int8 here) (at 1
    87)) ∷ [])) here) ∷ Run (Emit (Variable (id 2)) here) ∷ []) here) here) ∷ Run (ReturnComp (Variable (id 1)) here) ∷ []) here) (plain BitTy) (plain
    BitTy) (Some (plain Int8))

pub untils : answer_of BinaryFormat 100 (loaded (codes "p") untils_core) [] (2 ∷ []) ≡ answers 0 (2 ∷ []) (codes "ended 2\ntaken 2\nwritten 2\n")
unfolding shape-the_row-Val-0 hidden-the_row-Val-0 shape-the_row-Expr-0 hidden-the_row-Expr-0 shape-the_row-Expr-1 hidden-the_row-Expr-1
    shape-the_row-Stmt-0 hidden-the_row-Stmt-0 shape-the_row-Member-1 hidden-the_row-Member-1 shape-the_row-Comp-0 hidden-the_row-Comp-0 hidden
    int_wrap digits
untils = refl

-- a condition that holds at once leaves the body out:
--     let comp main = read[bit] >>> until (true) emit '1 >>> write[bit]
abbrev until_at_once_core : Core
until_at_once_core = program (WhileComp Until (BoolLiteral true here) (Emit (Bit true here) here) here) (plain BitTy) (plain BitTy) (Some (plain
    UnitTy))

pub until_at_once : answer_of BinaryFormat 1 (loaded (codes "p") until_at_once_core) [] [] ≡ answers 0 [] (codes "ended ()\ntaken 0\nwritten 0\n")
unfolding shape-the_row-Val-0 hidden-the_row-Val-0 shape-the_row-Expr-0 hidden-the_row-Expr-0 shape-the_row-Expr-1 hidden-the_row-Expr-1
    shape-the_row-Stmt-0 hidden-the_row-Stmt-0 shape-the_row-Member-1 hidden-the_row-Member-1 shape-the_row-Comp-0 hidden-the_row-Comp-0 hidden
    int_wrap digits
until_at_once = refl

-- so many turns:
--     let comp main = read[bit] >>> times (3) { x <- take; emit x } >>> write[bit]
abbrev times_three_core : Core
times_three_core = program (Times (Int (pos 3) Int32 here) (Block (Bind (id 1) (Take here) ∷ Run (Emit (Variable (id 1)) here) ∷ []) here) here)
    (plain BitTy) (plain BitTy) (Some (plain UnitTy))

pub times_three : answer_of BinaryFormat 100 (loaded (codes "p") times_three_core) [] (255 ∷ []) ≡ answers 0 (7 ∷ [])
    (codes "ended ()\ntaken 3\nwritten 3\n")
unfolding shape-the_row-Val-0 hidden-the_row-Val-0 shape-the_row-Expr-0 hidden-the_row-Expr-0 shape-the_row-Expr-1 hidden-the_row-Expr-1
    shape-the_row-Stmt-0 hidden-the_row-Stmt-0 shape-the_row-Member-1 hidden-the_row-Member-1 shape-the_row-Comp-0 hidden-the_row-Comp-0 hidden
    int_wrap digits
times_three = refl

-- no turn below one:
--     let comp main = read[bit] >>> { times (0 - 2) emit '1; emit '0 } >>> write[bit]
abbrev times_below_one_core : Core
times_below_one_core = program (Block (Run (Times (Binary Subtract Int32 (Int (pos 0) Int32 here) (Int (pos 2) Int32 here) (at 1 42)) (Emit (Bit true
    here) here) here) ∷ Run (Emit (Bit false here) here) ∷ []) here) (plain BitTy) (plain BitTy) (Some (plain UnitTy))

pub times_below_one : answer_of BinaryFormat 1 (loaded (codes "p") times_below_one_core) [] [] ≡ answers 0 (0 ∷ [])
    (codes "ended ()\ntaken 0\nwritten 1\n")
unfolding shape-the_row-Val-0 hidden-the_row-Val-0 shape-the_row-Expr-0 hidden-the_row-Expr-0 shape-the_row-Expr-1 hidden-the_row-Expr-1
    shape-the_row-Stmt-0 hidden-the_row-Stmt-0 shape-the_row-Member-1 hidden-the_row-Member-1 shape-the_row-Comp-0 hidden-the_row-Comp-0 hidden
    int_wrap digits
times_below_one = refl

-- the index counts from its first value:
--     let comp main = read[bit] >>> for i in [2, 3] emit bit(i) >>> write[bit]
abbrev fors_core : Core
fors_core = program (ForComp (id 1) (Int (pos 2) Int32 here) (Int (pos 3) Int32 here) (Emit (Convert BitTy (Variable (id 1)) here) here) here) (plain
    BitTy) (plain BitTy) (Some (plain UnitTy))

pub fors : answer_of BinaryFormat 6 (loaded (codes "p") fors_core) [] (0 ∷ []) ≡ answers 0 (2 ∷ []) (codes "ended ()\ntaken 0\nwritten 3\n")
unfolding shape-the_row-Val-0 hidden-the_row-Val-0 shape-the_row-Expr-0 hidden-the_row-Expr-0 shape-the_row-Expr-1 hidden-the_row-Expr-1
    shape-the_row-Stmt-0 hidden-the_row-Stmt-0 shape-the_row-Member-1 hidden-the_row-Member-1 shape-the_row-Comp-0 hidden-the_row-Comp-0 hidden
    int_wrap digits
fors = refl

-- a turn costs a tick:
--     let comp main = read[bit] >>> for i in [2, 3] emit bit(i) >>> write[bit]
abbrev fors_spent_core : Core
fors_spent_core = program (ForComp (id 1) (Int (pos 2) Int32 here) (Int (pos 3) Int32 here) (Emit (Convert BitTy (Variable (id 1)) here) here) here)
    (plain BitTy) (plain BitTy) (Some (plain UnitTy))

pub fors_spent : answer_of BinaryFormat 5 (loaded (codes "p") fors_spent_core) [] (0 ∷ []) ≡ answers 5 (2 ∷ []) (codes "out of ticks 5\nwritten 2\n")
unfolding shape-the_row-Val-0 hidden-the_row-Val-0 shape-the_row-Expr-0 hidden-the_row-Expr-0 shape-the_row-Expr-1 hidden-the_row-Expr-1
    shape-the_row-Stmt-0 hidden-the_row-Stmt-0 shape-the_row-Member-1 hidden-the_row-Member-1 shape-the_row-Comp-0 hidden-the_row-Comp-0 hidden
    int_wrap digits
fors_spent = refl

-- the index wraps:
--     let comp main = read[bit] >>> for i in [2147483647, 2] emit i >>> write[int32]
abbrev fors_wrap_core : Core
fors_wrap_core = program (ForComp (id 1) (Int (pos 2147483647) Int32 here) (Int (pos 2) Int32 here) (Emit (Variable (id 1)) here) here) (plain BitTy)
    (plain Int32) (Some (plain UnitTy))

pub fors_wrap : answer_of BinaryFormat 4 (loaded (codes "p") fors_wrap_core) [] [] ≡ answers 0 (255 ∷ 255 ∷ 255 ∷ 127 ∷ 0 ∷ 0 ∷ 0 ∷ 128 ∷ [])
    (codes "ended ()\ntaken 0\nwritten 2\n")
unfolding shape-the_row-Val-0 hidden-the_row-Val-0 shape-the_row-Expr-0 hidden-the_row-Expr-0 shape-the_row-Expr-1 hidden-the_row-Expr-1
    shape-the_row-Stmt-0 hidden-the_row-Stmt-0 shape-the_row-Member-1 hidden-the_row-Member-1 shape-the_row-Comp-0 hidden-the_row-Comp-0 hidden
    int_wrap digits
fors_wrap = refl

-- an index leaves the scope after its turn:
--     let comp main = read[bit] >>> { var x : int8 := 5; for i in [0, 2] { var y : int8 := int8(i); emit y }; emit x } >>> write[int8]
abbrev index_leaves_core : Core
index_leaves_core = program (Block (VarMember (var 1 (word Int8) (Some (Int (pos 5) Int8 here))) ∷ Run (ForComp (id 2) (Int (pos 0) Int32 here) (Int
    (pos 2) Int32 here) (Block (VarMember (var 3 (word Int8) (Some (Convert Int8 (Variable (id 2)) here))) ∷ Run (Emit (Variable (id 3)) here) ∷ [])
    here) here) ∷ Run (Emit (Variable (id 1)) here) ∷ []) here) (plain BitTy) (plain Int8) (Some (plain UnitTy))

pub index_leaves : answer_of BinaryFormat 100 (loaded (codes "p") index_leaves_core) [] [] ≡ answers 0 (0 ∷ 1 ∷ 5 ∷ [])
    (codes "ended ()\ntaken 0\nwritten 3\n")
unfolding shape-the_row-Val-0 hidden-the_row-Val-0 shape-the_row-Expr-0 hidden-the_row-Expr-0 shape-the_row-Expr-1 hidden-the_row-Expr-1
    shape-the_row-Stmt-0 hidden-the_row-Stmt-0 shape-the_row-Member-1 hidden-the_row-Member-1 shape-the_row-Comp-0 hidden-the_row-Comp-0 hidden
    int_wrap digits
index_leaves = refl

-- elements for which a function holds; the others cost a tick too:
--     fun one(x : bit) : bool { return x == '1 }
--     let comp main = read[bit] >>> filter one >>> write[bit]
abbrev filters_core : Core
filters_core = core [] [] (function 1 (param 2 (word BitTy) ∷ []) (returning [] (Binary Equal BitTy (Variable (id 2)) (Bit true here) (at 1 36))) ∷
    []) [] (Filter (id 1) 0 here) (plain BitTy) (plain BitTy) None

pub filters : answer_of BinaryFormat 33 (loaded (codes "p") filters_core) [] (85 ∷ []) ≡ answers 0 (15 ∷ [])
    (codes "input ended\ntaken 8\nwritten 4\n")
unfolding shape-the_row-Val-0 hidden-the_row-Val-0 shape-the_row-Expr-0 hidden-the_row-Expr-0 shape-the_row-Expr-1 hidden-the_row-Expr-1
    shape-the_row-Stmt-0 hidden-the_row-Stmt-0 shape-the_row-Member-1 hidden-the_row-Member-1 shape-the_row-Comp-0 hidden-the_row-Comp-0 hidden
    int_wrap digits
filters = refl

-- the element itself is the output:
--     fun zero(x : bit) : bool { return x == '0 }
--     let comp main = read[bit] >>> { (filter zero >>> { x <- take; y <- take; emit x; emit y }); emit '1 } >>> write[bit]
abbrev filters_zeros_core : Core
filters_zeros_core = core [] [] (function 1 (param 2 (word BitTy) ∷ []) (returning [] (Binary Equal BitTy (Variable (id 2)) (Bit false here) (at 1
    37))) ∷ []) [] (Block (Run (Pipe Serial (Filter (id 1) 0 here) (Block (Bind (id 3) (Take here) ∷ Bind (id 4) (Take here) ∷ Run (Emit (Variable (id
    3)) here) ∷ Run (Emit (Variable (id 4)) here) ∷ []) here) here) ∷ Run (Emit (Bit true here) here) ∷ []) here) (plain BitTy) (plain BitTy) (Some
    (plain UnitTy))

pub filters_zeros : answer_of BinaryFormat 100 (loaded (codes "p") filters_zeros_core) [] (6 ∷ []) ≡ answers 0 (4 ∷ [])
    (codes "ended ()\ntaken 4\nwritten 3\n")
unfolding shape-the_row-Val-0 hidden-the_row-Val-0 shape-the_row-Expr-0 hidden-the_row-Expr-0 shape-the_row-Expr-1 hidden-the_row-Expr-1
    shape-the_row-Stmt-0 hidden-the_row-Stmt-0 shape-the_row-Member-1 hidden-the_row-Member-1 shape-the_row-Comp-0 hidden-the_row-Comp-0 hidden
    int_wrap digits
filters_zeros = refl

-- an element that is dropped costs four ticks:
--     fun one(x : bit) : bool { return x == '1 }
--     let comp main = read[bit] >>> filter one >>> write[bit]
abbrev filters_spent_core : Core
filters_spent_core = core [] [] (function 1 (param 2 (word BitTy) ∷ []) (returning [] (Binary Equal BitTy (Variable (id 2)) (Bit true here) (at 1
    36))) ∷ []) [] (Filter (id 1) 0 here) (plain BitTy) (plain BitTy) None

pub filters_spent : answer_of BinaryFormat 7 (loaded (codes "p") filters_spent_core) [] (170 ∷ []) ≡ answers 5 []
    (codes "out of ticks 7\nwritten 0\n")
unfolding shape-the_row-Val-0 hidden-the_row-Val-0 shape-the_row-Expr-0 hidden-the_row-Expr-0 shape-the_row-Expr-1 hidden-the_row-Expr-1
    shape-the_row-Stmt-0 hidden-the_row-Stmt-0 shape-the_row-Member-1 hidden-the_row-Member-1 shape-the_row-Comp-0 hidden-the_row-Comp-0 hidden
    int_wrap digits
filters_spent = refl

-- an element costs four ticks:
--     fun flip(x : bit) : bit { return x ^ '1 }
--     let comp main = read[bit] >>> map flip >>> write[bit]
abbrev maps_spent_core : Core
maps_spent_core = core [] [] (function 1 (param 2 (word BitTy) ∷ []) (returning [] (Binary BitXor BitTy (Variable (id 2)) (Bit true here) (at 1 36)))
    ∷ []) [] (Map (id 1) 0 here) (plain BitTy) (plain BitTy) None

pub maps_spent : answer_of BinaryFormat 7 (loaded (codes "p") maps_spent_core) [] (0 ∷ []) ≡ answers 5 (1 ∷ []) (codes "out of ticks 7\nwritten 1\n")
unfolding shape-the_row-Val-0 hidden-the_row-Val-0 shape-the_row-Expr-0 hidden-the_row-Expr-0 shape-the_row-Expr-1 hidden-the_row-Expr-1
    shape-the_row-Stmt-0 hidden-the_row-Stmt-0 shape-the_row-Member-1 hidden-the_row-Member-1 shape-the_row-Comp-0 hidden-the_row-Comp-0 hidden
    int_wrap digits
maps_spent = refl

-- a branch costs nothing:
--     let comp main = read[bit] >>> if '1 == '1 then emit '1 else emit '0 >>> write[bit]
abbrev chooses_core : Core
chooses_core = program (IfComp (Binary Equal BitTy (Bit true here) (Bit true here) (at 1 37)) (Emit (Bit true here) here) (Emit (Bit false here) here)
    here) (plain BitTy) (plain BitTy) (Some (plain UnitTy))

pub chooses : answer_of BinaryFormat 1 (loaded (codes "p") chooses_core) [] [] ≡ answers 0 (1 ∷ []) (codes "ended ()\ntaken 0\nwritten 1\n")
unfolding shape-the_row-Val-0 hidden-the_row-Val-0 shape-the_row-Expr-0 hidden-the_row-Expr-0 shape-the_row-Expr-1 hidden-the_row-Expr-1
    shape-the_row-Stmt-0 hidden-the_row-Stmt-0 shape-the_row-Member-1 hidden-the_row-Member-1 shape-the_row-Comp-0 hidden-the_row-Comp-0 hidden
    int_wrap digits
chooses = refl

-- the branch that is not taken is not evaluated:
--     let comp main = read[bit] >>> if '1 == '0 then do { error "no" } else emit '1 >>> write[bit]
abbrev chooses_other_core : Core
chooses_other_core = program (IfComp (Binary Equal BitTy (Bit true here) (Bit false here) (at 1 37)) (Do (doing (Error [] (at 1 53) ∷ [])) here) (Emit
    (Bit true here) here) here) (plain BitTy) (plain BitTy) (Some (plain UnitTy))

pub chooses_other : answer_of BinaryFormat 1 (loaded (codes "p") chooses_other_core) [] [] ≡ answers 0 (1 ∷ [])
    (codes "ended ()\ntaken 0\nwritten 1\n")
unfolding shape-the_row-Val-0 hidden-the_row-Val-0 shape-the_row-Expr-0 hidden-the_row-Expr-0 shape-the_row-Expr-1 hidden-the_row-Expr-1
    shape-the_row-Stmt-0 hidden-the_row-Stmt-0 shape-the_row-Member-1 hidden-the_row-Member-1 shape-the_row-Comp-0 hidden-the_row-Comp-0 hidden
    int_wrap digits
chooses_other = refl

-- the names of a block leave it:
--     let comp main = read[bit] >>> { x <- take; { y <- take; emit y }; z <- take; emit x; emit z } >>> write[bit]
abbrev names_leave_core : Core
names_leave_core = program (Block (Bind (id 1) (Take here) ∷ Run (Block (Bind (id 2) (Take here) ∷ Run (Emit (Variable (id 2)) here) ∷ []) here) ∷
    Bind (id 3) (Take here) ∷ Run (Emit (Variable (id 1)) here) ∷ Run (Emit (Variable (id 3)) here) ∷ []) here) (plain BitTy) (plain BitTy) (Some
    (plain UnitTy))

pub names_leave : answer_of BinaryFormat 100 (loaded (codes "p") names_leave_core) [] (6 ∷ []) ≡ answers 0 (5 ∷ [])
    (codes "ended ()\ntaken 3\nwritten 3\n")
unfolding shape-the_row-Val-0 hidden-the_row-Val-0 shape-the_row-Expr-0 hidden-the_row-Expr-0 shape-the_row-Expr-1 hidden-the_row-Expr-1
    shape-the_row-Stmt-0 hidden-the_row-Stmt-0 shape-the_row-Member-1 hidden-the_row-Member-1 shape-the_row-Comp-0 hidden-the_row-Comp-0 hidden
    int_wrap digits
names_leave = refl

-- a variable is blank again in each turn:
--     let comp main = read[bit] >>> times (2) { var n : int8; do { n := n + 1 }; emit n } >>> write[int8]
abbrev blank_again_core : Core
blank_again_core = program (Times (Int (pos 2) Int32 here) (Block (VarMember (var 1 (word Int8) None) ∷ Run (Do (doing (Assign (id 1) [] (Binary Add
    Int8 (Variable (id 1)) (Int (pos 1) Int8 here) (at 1 69)) ∷ [])) here) ∷ Run (Emit (Variable (id 1)) here) ∷ []) here) here) (plain BitTy) (plain
    Int8) (Some (plain UnitTy))

pub blank_again : answer_of BinaryFormat 100 (loaded (codes "p") blank_again_core) [] [] ≡ answers 0 (1 ∷ 1 ∷ [])
    (codes "ended ()\ntaken 0\nwritten 2\n")
unfolding shape-the_row-Val-0 hidden-the_row-Val-0 shape-the_row-Expr-0 hidden-the_row-Expr-0 shape-the_row-Expr-1 hidden-the_row-Expr-1
    shape-the_row-Stmt-0 hidden-the_row-Stmt-0 shape-the_row-Member-1 hidden-the_row-Member-1 shape-the_row-Comp-0 hidden-the_row-Comp-0 hidden
    int_wrap digits
blank_again = refl

-- an initial value is evaluated where it stands:
--     let comp main = read[bit] >>> { emit '1; var n : int8 := 1 / 0; emit '1 } >>> write[bit]
abbrev initial_traps_core : Core
initial_traps_core = program (Block (Run (Emit (Bit true here) here) ∷ VarMember (var 1 (word Int8) (Some (Binary Divide Int8 (Int (pos 1) Int8 here)
    (Int (pos 0) Int8 here) (at 1 60)))) ∷ Run (Emit (Bit true here) here) ∷ []) here) (plain BitTy) (plain BitTy) (Some (plain UnitTy))

pub initial_traps : answer_of BinaryFormat 100 (loaded (codes "p") initial_traps_core) [] [] ≡ answers 4 (1 ∷ [])
    (codes "trap 1 in p at 1:60\ntaken 0\nwritten 1\n")
unfolding shape-the_row-Val-0 hidden-the_row-Val-0 shape-the_row-Expr-0 hidden-the_row-Expr-0 shape-the_row-Expr-1 hidden-the_row-Expr-1
    shape-the_row-Stmt-0 hidden-the_row-Stmt-0 shape-the_row-Member-1 hidden-the_row-Member-1 shape-the_row-Comp-0 hidden-the_row-Comp-0 hidden
    int_wrap digits
initial_traps = refl

-- a call costs a tick between its arguments and its body:
--     fun comp twice(x : bit) { emit x; emit x }
--     let comp main = read[bit] >>> { x <- take; twice(x); twice(x ^ '1) } >>> write[bit]
abbrev calls_core : Core
calls_core = core [] [] [] (instance 1 (plain BitTy) (param 2 (word BitTy) ∷ []) (Block (Run (Emit (Variable (id 2)) here) ∷ Run (Emit (Variable (id
    2)) here) ∷ []) here) ∷ []) (Block (Bind (id 3) (Take here) ∷ Run (CallComp (id 1) 0 ((Variable (id 3)) ∷ [])) ∷ Run (CallComp (id 1) 0 ((Binary
    BitXor BitTy (Variable (id 3)) (Bit true here) (at 2 62)) ∷ [])) ∷ []) here) (plain BitTy) (plain BitTy) (Some (plain UnitTy))

pub calls : answer_of BinaryFormat 7 (loaded (codes "p") calls_core) [] (1 ∷ []) ≡ answers 0 (3 ∷ []) (codes "ended ()\ntaken 1\nwritten 4\n")
unfolding shape-the_row-Val-0 hidden-the_row-Val-0 shape-the_row-Expr-0 hidden-the_row-Expr-0 shape-the_row-Expr-1 hidden-the_row-Expr-1
    shape-the_row-Stmt-0 hidden-the_row-Stmt-0 shape-the_row-Member-1 hidden-the_row-Member-1 shape-the_row-Comp-0 hidden-the_row-Comp-0 hidden
    int_wrap digits
calls = refl

-- one tick less:
--     fun comp twice(x : bit) { emit x; emit x }
--     let comp main = read[bit] >>> { x <- take; twice(x); twice(x ^ '1) } >>> write[bit]
abbrev calls_spent_core : Core
calls_spent_core = core [] [] [] (instance 1 (plain BitTy) (param 2 (word BitTy) ∷ []) (Block (Run (Emit (Variable (id 2)) here) ∷ Run (Emit (Variable
    (id 2)) here) ∷ []) here) ∷ []) (Block (Bind (id 3) (Take here) ∷ Run (CallComp (id 1) 0 ((Variable (id 3)) ∷ [])) ∷ Run (CallComp (id 1) 0
    ((Binary BitXor BitTy (Variable (id 3)) (Bit true here) (at 2 62)) ∷ [])) ∷ []) here) (plain BitTy) (plain BitTy) (Some (plain UnitTy))

pub calls_spent : answer_of BinaryFormat 6 (loaded (codes "p") calls_spent_core) [] (1 ∷ []) ≡ answers 5 (3 ∷ [])
    (codes "out of ticks 6\nwritten 3\n")
unfolding shape-the_row-Val-0 hidden-the_row-Val-0 shape-the_row-Expr-0 hidden-the_row-Expr-0 shape-the_row-Expr-1 hidden-the_row-Expr-1
    shape-the_row-Stmt-0 hidden-the_row-Stmt-0 shape-the_row-Member-1 hidden-the_row-Member-1 shape-the_row-Comp-0 hidden-the_row-Comp-0 hidden
    int_wrap digits
calls_spent = refl

-- a called body sees its own names alone:
--     fun comp f(x : bit) { var y : bit := x ^ '1; emit y; return y }
--     fun comp g(x : bit) { y <- f(x); z <- f(y); emit x; return z }
--     let comp main = read[bit] >>> { x <- g('0); emit x } >>> write[bit]
abbrev call_in_call_core : Core
call_in_call_core = core [] [] [] (instance 1 (plain BitTy) (param 2 (word BitTy) ∷ []) (Block (VarMember (var 3 (word BitTy) (Some (Binary BitXor
    BitTy (Variable (id 2)) (Bit true here) (at 1 40)))) ∷ Run (Emit (Variable (id 3)) here) ∷ Run (ReturnComp (Variable (id 3)) here) ∷ []) here) ∷
    instance 4 (plain BitTy) (param 5 (word BitTy) ∷ []) (Block (Bind (id 6) (CallComp (id 1) 0 ((Variable (id 5)) ∷ [])) ∷ Bind (id 7) (CallComp (id
    1) 0 ((Variable (id 6)) ∷ [])) ∷ Run (Emit (Variable (id 5)) here) ∷ Run (ReturnComp (Variable (id 7)) here) ∷ []) here) ∷ []) (Block (Bind (id 8)
    (CallComp (id 4) 1 ((Bit false here) ∷ [])) ∷ Run (Emit (Variable (id 8)) here) ∷ []) here) (plain BitTy) (plain BitTy) (Some (plain UnitTy))

pub call_in_call : answer_of BinaryFormat 100 (loaded (codes "p") call_in_call_core) [] [] ≡ answers 0 (1 ∷ [])
    (codes "ended ()\ntaken 0\nwritten 4\n")
unfolding shape-the_row-Val-0 hidden-the_row-Val-0 shape-the_row-Expr-0 hidden-the_row-Expr-0 shape-the_row-Expr-1 hidden-the_row-Expr-1
    shape-the_row-Stmt-0 hidden-the_row-Stmt-0 shape-the_row-Member-1 hidden-the_row-Member-1 shape-the_row-Comp-0 hidden-the_row-Comp-0 hidden
    int_wrap digits
call_in_call = refl

-- arguments are evaluated before the call, from left to right:
--     var n : int8;
--     fun next() : int8 { n := n + 1; return n }
--     fun comp f(x : int8, y : int8) { emit x; emit y }
--     let comp main = read[bit] >>> f(next(), next()) >>> write[int8]
abbrev arguments_in_order_core : Core
arguments_in_order_core = core [] ((var 1 (word Int8) None) ∷ []) (function 2 [] (returning (Assign (id 1) [] (Binary Add Int8 (Variable (id 1)) (Int
    (pos 1) Int8 here) (at 2 28)) ∷ []) (Variable (id 1))) ∷ []) (instance 3 (plain BitTy) (param 4 (word Int8) ∷ param 5 (word Int8) ∷ []) (Block
    (Run (Emit (Variable (id 4)) here) ∷ Run (Emit (Variable (id 5)) here) ∷ []) here) ∷ []) (CallComp (id 3) 0 ((Call (id 2) (FunctionCallee 0) []) ∷
    (Call (id 2) (FunctionCallee 0) []) ∷ [])) (plain BitTy) (plain Int8) (Some (plain UnitTy))

pub arguments_in_order : answer_of BinaryFormat 100 (loaded (codes "p") arguments_in_order_core) [] [] ≡ answers 0 (1 ∷ 2 ∷ [])
    (codes "ended ()\ntaken 0\nwritten 2\n")
unfolding shape-the_row-Val-0 hidden-the_row-Val-0 shape-the_row-Expr-0 hidden-the_row-Expr-0 shape-the_row-Expr-1 hidden-the_row-Expr-1
    shape-the_row-Stmt-0 hidden-the_row-Stmt-0 shape-the_row-Member-1 hidden-the_row-Member-1 shape-the_row-Comp-0 hidden-the_row-Comp-0 hidden
    int_wrap digits
arguments_in_order = refl

-- the names of a do leave it:
--     let comp main = read[bit] >>> { var a : int8 := 1; do { var b : int8 := 2; a := a + b }; var c : int8 := 7; emit a; emit c } >>> write[int8]
abbrev body_names_core : Core
body_names_core = program (Block (VarMember (var 1 (word Int8) (Some (Int (pos 1) Int8 here))) ∷ Run (Do (doing (VarStmt (var 2 (word Int8) (Some (Int
    (pos 2) Int8 here))) ∷ Assign (id 1) [] (Binary Add Int8 (Variable (id 1)) (Variable (id 2)) (at 1 83)) ∷ [])) here) ∷ VarMember (var 3 (word
    Int8) (Some (Int (pos 7) Int8 here))) ∷ Run (Emit (Variable (id 1)) here) ∷ Run (Emit (Variable (id 3)) here) ∷ []) here) (plain BitTy) (plain
    Int8) (Some (plain UnitTy))

pub body_names : answer_of BinaryFormat 100 (loaded (codes "p") body_names_core) [] [] ≡ answers 0 (3 ∷ 7 ∷ [])
    (codes "ended ()\ntaken 0\nwritten 2\n")
unfolding shape-the_row-Val-0 hidden-the_row-Val-0 shape-the_row-Expr-0 hidden-the_row-Expr-0 shape-the_row-Expr-1 hidden-the_row-Expr-1
    shape-the_row-Stmt-0 hidden-the_row-Stmt-0 shape-the_row-Member-1 hidden-the_row-Member-1 shape-the_row-Comp-0 hidden-the_row-Comp-0 hidden
    int_wrap digits
body_names = refl

-- top variables get their initial values in order, which cost what they cost:
--     fun two() : int8 { return 2 }
--     var a : int8 := two();
--     var b : int8 := a + two();
--     let comp main = read[bit] >>> emit b >>> write[int8]
abbrev tops_begin_core : Core
tops_begin_core = core [] ((var 2 (word Int8) (Some (Call (id 1) (FunctionCallee 0) []))) ∷ (var 3 (word Int8) (Some (Binary Add Int8 (Variable (id
    2)) (Call (id 1) (FunctionCallee 0) []) (at 3 19)))) ∷ []) (function 1 [] (returning [] (Int (pos 2) Int8 here)) ∷ []) [] (Emit (Variable (id 3))
    here) (plain BitTy) (plain Int8) (Some (plain UnitTy))

pub tops_begin : answer_of BinaryFormat 3 (loaded (codes "p") tops_begin_core) [] [] ≡ answers 0 (4 ∷ []) (codes "ended ()\ntaken 0\nwritten 1\n")
unfolding shape-the_row-Val-0 hidden-the_row-Val-0 shape-the_row-Expr-0 hidden-the_row-Expr-0 shape-the_row-Expr-1 hidden-the_row-Expr-1
    shape-the_row-Stmt-0 hidden-the_row-Stmt-0 shape-the_row-Member-1 hidden-the_row-Member-1 shape-the_row-Comp-0 hidden-the_row-Comp-0 hidden
    int_wrap digits
tops_begin = refl

-- a budget that an initial value spends:
--     fun two() : int8 { return 2 }
--     var a : int8 := two();
--     var b : int8 := a + two();
--     let comp main = read[bit] >>> emit b >>> write[int8]
abbrev tops_spent_core : Core
tops_spent_core = core [] ((var 2 (word Int8) (Some (Call (id 1) (FunctionCallee 0) []))) ∷ (var 3 (word Int8) (Some (Binary Add Int8 (Variable (id
    2)) (Call (id 1) (FunctionCallee 0) []) (at 3 19)))) ∷ []) (function 1 [] (returning [] (Int (pos 2) Int8 here)) ∷ []) [] (Emit (Variable (id 3))
    here) (plain BitTy) (plain Int8) (Some (plain UnitTy))

pub tops_spent : answer_of BinaryFormat 1 (loaded (codes "p") tops_spent_core) [] [] ≡ answers 5 [] (codes "out of ticks 1\nwritten 0\n")
unfolding shape-the_row-Val-0 hidden-the_row-Val-0 shape-the_row-Expr-0 hidden-the_row-Expr-0 shape-the_row-Expr-1 hidden-the_row-Expr-1
    shape-the_row-Stmt-0 hidden-the_row-Stmt-0 shape-the_row-Member-1 hidden-the_row-Member-1 shape-the_row-Comp-0 hidden-the_row-Comp-0 hidden
    int_wrap digits
tops_spent = refl

-- a trap in an initial value ends the run:
--     var a : int8 := 1 % 0;
--     let comp main = read[bit] >>> emit a >>> write[int8]
abbrev tops_trap_core : Core
tops_trap_core = core [] ((var 1 (word Int8) (Some (Binary Remainder Int8 (Int (pos 1) Int8 here) (Int (pos 0) Int8 here) (at 1 19)))) ∷ []) [] []
    (Emit (Variable (id 1)) here) (plain BitTy) (plain Int8) (Some (plain UnitTy))

pub tops_trap : answer_of BinaryFormat 3 (loaded (codes "p") tops_trap_core) [] [] ≡ answers 4 [] (codes "trap 1 in p at 1:19\ntaken 0\nwritten 0\n")
unfolding shape-the_row-Val-0 hidden-the_row-Val-0 shape-the_row-Expr-0 hidden-the_row-Expr-0 shape-the_row-Expr-1 hidden-the_row-Expr-1
    shape-the_row-Stmt-0 hidden-the_row-Stmt-0 shape-the_row-Member-1 hidden-the_row-Member-1 shape-the_row-Comp-0 hidden-the_row-Comp-0 hidden
    int_wrap digits
tops_trap = refl
