-- Worked rows that compute: the points of traces, and where they end.
use Rattle.std.specs.Prelude.{ℕ, pos, true, false, [], ◌∷◌, Some, None, map, ◌≡◌, refl}
use Rattle.std.specs.Int.{int_wrap}
use Rattle.std.specs.Fmt.{digits}
use denote.Hole.Carrier.{hidden}
use Rattle.zir_tree.specs.declared.format.Format.TheVariants.{Binary as BinaryFormat}
use Rattle.zir_tree.specs.declared.types.Base.TheVariants.{Unit as UnitTy, Bit as BitTy, Int8}
use Rattle.zir_tree.specs.declared.value.Val.TheBlock.{shape-the_row-Val-0, hidden-the_row-Val-0}
use Rattle.zir_tree.specs.declared.expr.Operator.TheVariants.{BitXor, Add}
use Rattle.zir_tree.specs.declared.expr.Expr.{Unit, Bit, Int, Variable, Binary}
use Rattle.zir_tree.specs.declared.expr.Expr.TheBlock.{shape-the_row-Expr-0, hidden-the_row-Expr-0, shape-the_row-Expr-1, hidden-the_row-Expr-1}
use Rattle.zir_tree.specs.declared.stmt.Stmt.{Assign}
use Rattle.zir_tree.specs.declared.stmt.Stmt.TheBlock.{shape-the_row-Stmt-0, hidden-the_row-Stmt-0}
use Rattle.zir_tree.specs.declared.comp.Link.TheVariants.{Serial}
use Rattle.zir_tree.specs.declared.comp.Comp.{Take, Emit, Return as ReturnComp, Repeat, Map, Call as CallComp, Block, Pipe}
use Rattle.zir_tree.specs.declared.comp.Comp.TheBlock.{shape-the_row-Member-1, hidden-the_row-Member-1, shape-the_row-Comp-0, hidden-the_row-Comp-0}
use Rattle.zir_tree.specs.declared.comp.Member.{Bind, Run}
use Rattle.zir_tree.specs.declared.program.Core.{Core}
use Rattle.zir_tree.specs.declared.value.Val.{Val, Unit as UnitVal, Bit as BitVal, Num}
use Rattle.zir_tree.specs.declared.value.Slot.{Slot}
use Rattle.zir_tree.specs.declared.ends.End.TheVariants.{Starved, Spent}
use Rattle.zir_meaning.specs.Store.{empty}
use Rattle.zir_meaning.specs.Trace.{Trace, nowhere}
use Rattle.zir_meaning.specs.Elements.{elements}
use Rattle.zir_meaning.specs.Run.{ByReadFault, ByValue, start, program_trace, run_of}
use Rattle.zir_meaning.specs.Notation.{at, here, id, plain, word, var, param, returning, function, instance, core, program}

abbrev zero_bit : Val
zero_bit = BitVal false

abbrev one_bit : Val
one_bit = BitVal true

abbrev slot : ℕ → Val → Slot
slot n v = record { id = n; value = v }

-- let comp main = read[bit] >>> { x <- take; y <- take; emit x ^ y; return () } >>> write[bit]
abbrev sums_core : Core
sums_core = program (Block (Bind (id 1) (Take here) ∷ Bind (id 2) (Take here) ∷ Run (Emit (Binary BitXor BitTy (Variable (id 1)) (Variable (id 2)) (at
    1 62)) here) ∷ Run (ReturnComp (Unit here) here) ∷ []) here) (plain BitTy) (plain BitTy) (Some (plain UnitTy))

abbrev sums : Trace
sums = program_trace sums_core (start 100) (one_bit ∷ zero_bit ∷ one_bit ∷ [])

-- what is left of a block: two elements taken, four ticks used, an element left
pub sums_last : sums.last ≡ record { taken = 2; ticks = 4; left = 96; store = empty }
unfolding shape-the_row-Val-0 hidden-the_row-Val-0 shape-the_row-Expr-0 hidden-the_row-Expr-0 shape-the_row-Expr-1 hidden-the_row-Expr-1
    shape-the_row-Stmt-0 hidden-the_row-Stmt-0 shape-the_row-Member-1 hidden-the_row-Member-1 shape-the_row-Comp-0 hidden-the_row-Comp-0 hidden
    int_wrap digits
sums_last = refl

pub sums_rest : sums.rest ≡ one_bit ∷ []
unfolding shape-the_row-Val-0 hidden-the_row-Val-0 shape-the_row-Expr-0 hidden-the_row-Expr-0 shape-the_row-Expr-1 hidden-the_row-Expr-1
    shape-the_row-Stmt-0 hidden-the_row-Stmt-0 shape-the_row-Member-1 hidden-the_row-Member-1 shape-the_row-Comp-0 hidden-the_row-Comp-0 hidden
    int_wrap digits
sums_rest = refl

pub sums_outs : sums.outs ≡ record {
  value = one_bit;
  at = record {
    taken = 2;
    ticks = 3;
    store = record {
      tops = [];
      locals = slot 1 one_bit ∷ slot 2
          zero_bit ∷ [];
    };
  };
} ∷ []
unfolding shape-the_row-Val-0 hidden-the_row-Val-0 shape-the_row-Expr-0 hidden-the_row-Expr-0 shape-the_row-Expr-1 hidden-the_row-Expr-1
    shape-the_row-Stmt-0 hidden-the_row-Stmt-0 shape-the_row-Member-1 hidden-the_row-Member-1 shape-the_row-Comp-0 hidden-the_row-Comp-0 hidden
    int_wrap digits
sums_outs = refl

-- fun comp twice(x : bit) { emit x; emit x }
-- let comp main = read[bit] >>> { y <- take; twice(y ^ '1) } >>> write[bit]
abbrev twice_core : Core
twice_core = core [] [] [] (instance 1 (plain BitTy) (param 2 (word BitTy) ∷ []) (Block (Run (Emit (Variable (id 2)) here) ∷ Run (Emit (Variable (id
    2)) here) ∷ []) here) ∷ []) (Block (Bind (id 3) (Take here) ∷ Run (CallComp (id 1) 0 ((Binary BitXor BitTy (Variable (id 3)) (Bit true here) (at 2
    52)) ∷ [])) ∷ []) here) (plain BitTy) (plain BitTy) (Some (plain UnitTy))

abbrev twice : Trace
twice = program_trace twice_core (start 100) (zero_bit ∷ [])

-- an output of a called body stands where its caller's names are in scope
pub twice_points : map (λ o. o.at) twice.outs ≡ (record { taken = 1; ticks = 3; store = record { tops = []; locals = slot 3 zero_bit ∷ [] } }) ∷
    (record { taken = 1; ticks = 4; store = record { tops = []; locals = slot 3 zero_bit ∷ [] } }) ∷ []
unfolding shape-the_row-Val-0 hidden-the_row-Val-0 shape-the_row-Expr-0 hidden-the_row-Expr-0 shape-the_row-Expr-1 hidden-the_row-Expr-1
    shape-the_row-Stmt-0 hidden-the_row-Stmt-0 shape-the_row-Member-1 hidden-the_row-Member-1 shape-the_row-Comp-0 hidden-the_row-Comp-0 hidden
    int_wrap digits
twice_points = refl

pub twice_last : twice.last ≡ record { taken = 1; ticks = 4; left = 96; store = empty }
unfolding shape-the_row-Val-0 hidden-the_row-Val-0 shape-the_row-Expr-0 hidden-the_row-Expr-0 shape-the_row-Expr-1 hidden-the_row-Expr-1
    shape-the_row-Stmt-0 hidden-the_row-Stmt-0 shape-the_row-Member-1 hidden-the_row-Member-1 shape-the_row-Comp-0 hidden-the_row-Comp-0 hidden
    int_wrap digits
twice_last = refl

-- var n : int8;
-- fun count(x : bit) : bit { n := n + 1; return x }
-- let comp main = read[bit] >>> map count >>> repeat { a <- take; b <- take; emit b } >>> write[bit]
abbrev counts_core : Core
counts_core = core [] ((var 1 (word Int8) None) ∷ []) (function 2 (param 3 (word BitTy) ∷ []) (returning (Assign (id 1) [] (Binary Add Int8 (Variable
    (id 1)) (Int (pos 1) Int8 here) (at 2 35)) ∷ []) (Variable (id 3))) ∷ []) [] (Pipe Serial (Map (id 2) 0 here) (Repeat (Block (Bind (id 4) (Take
    here) ∷ Bind (id 5) (Take here) ∷ Run (Emit (Variable (id 5)) here) ∷ []) here) here) here) (plain BitTy) (plain BitTy) None

abbrev counts : Trace
counts = program_trace counts_core (start 100) (zero_bit ∷ one_bit ∷ one_bit ∷ [])

-- a lifted point has the left side's taken, both sides' ticks, and the left side's variables
pub counts_points : map (λ o. o.at) counts.outs ≡ (record {
  taken = 2;
  ticks = 12;
  store = record {
    tops = slot 1 (Num (pos 2)) ∷ [];
    locals = slot 4
        zero_bit ∷ slot 5 one_bit ∷ [];
  };
}) ∷ []
unfolding shape-the_row-Val-0 hidden-the_row-Val-0 shape-the_row-Expr-0 hidden-the_row-Expr-0 shape-the_row-Expr-1 hidden-the_row-Expr-1
    shape-the_row-Stmt-0 hidden-the_row-Stmt-0 shape-the_row-Member-1 hidden-the_row-Member-1 shape-the_row-Comp-0 hidden-the_row-Comp-0 hidden
    int_wrap digits
counts_points = refl

pub counts_last : counts.last.taken ≡ 3
unfolding shape-the_row-Val-0 hidden-the_row-Val-0 shape-the_row-Expr-0 hidden-the_row-Expr-0 shape-the_row-Expr-1 hidden-the_row-Expr-1
    shape-the_row-Stmt-0 hidden-the_row-Stmt-0 shape-the_row-Member-1 hidden-the_row-Member-1 shape-the_row-Comp-0 hidden-the_row-Comp-0 hidden
    int_wrap digits
counts_last = refl

pub counts_end : counts.end ≡ Starved
unfolding shape-the_row-Val-0 hidden-the_row-Val-0 shape-the_row-Expr-0 hidden-the_row-Expr-0 shape-the_row-Expr-1 hidden-the_row-Expr-1
    shape-the_row-Stmt-0 hidden-the_row-Stmt-0 shape-the_row-Member-1 hidden-the_row-Member-1 shape-the_row-Comp-0 hidden-the_row-Comp-0 hidden
    int_wrap digits
counts_end = refl

pub counts_store : counts.last.store.tops ≡ slot 1 (Num (pos 3)) ∷ []
unfolding shape-the_row-Val-0 hidden-the_row-Val-0 shape-the_row-Expr-0 hidden-the_row-Expr-0 shape-the_row-Expr-1 hidden-the_row-Expr-1
    shape-the_row-Stmt-0 hidden-the_row-Stmt-0 shape-the_row-Member-1 hidden-the_row-Member-1 shape-the_row-Comp-0 hidden-the_row-Comp-0 hidden
    int_wrap digits
counts_store = refl

-- let comp main = read[bit] >>> { emit '1; emit '1 } >>> write[bit]
abbrev spends_core : Core
spends_core = program (Block (Run (Emit (Bit true here) here) ∷ Run (Emit (Bit true here) here) ∷ []) here) (plain BitTy) (plain BitTy) (Some (plain
    UnitTy))

abbrev spends : Trace
spends = program_trace spends_core (start 1) []

-- every spent trace ends at one state
pub spends_last : spends.last ≡ nowhere
unfolding shape-the_row-Val-0 hidden-the_row-Val-0 shape-the_row-Expr-0 hidden-the_row-Expr-0 shape-the_row-Expr-1 hidden-the_row-Expr-1
    shape-the_row-Stmt-0 hidden-the_row-Stmt-0 shape-the_row-Member-1 hidden-the_row-Member-1 shape-the_row-Comp-0 hidden-the_row-Comp-0 hidden
    int_wrap digits
spends_last = refl

pub spends_end : spends.end ≡ Spent
unfolding shape-the_row-Val-0 hidden-the_row-Val-0 shape-the_row-Expr-0 hidden-the_row-Expr-0 shape-the_row-Expr-1 hidden-the_row-Expr-1
    shape-the_row-Stmt-0 hidden-the_row-Stmt-0 shape-the_row-Member-1 hidden-the_row-Member-1 shape-the_row-Comp-0 hidden-the_row-Comp-0 hidden
    int_wrap digits
spends_end = refl

-- a read failed: needing an element behind the known ones is a read fault, and not needing it is none
pub open_end : (run_of sums_core [] (elements BinaryFormat (plain BitTy) [] false) 100).end ≡ ByReadFault
unfolding shape-the_row-Val-0 hidden-the_row-Val-0 shape-the_row-Expr-0 hidden-the_row-Expr-0 shape-the_row-Expr-1 hidden-the_row-Expr-1
    shape-the_row-Stmt-0 hidden-the_row-Stmt-0 shape-the_row-Member-1 hidden-the_row-Member-1 shape-the_row-Comp-0 hidden-the_row-Comp-0 hidden
    int_wrap digits
open_end = refl

pub open_value : (run_of sums_core [] (elements BinaryFormat (plain BitTy) (3 ∷ []) false) 100).end ≡ ByValue UnitVal
unfolding shape-the_row-Val-0 hidden-the_row-Val-0 shape-the_row-Expr-0 hidden-the_row-Expr-0 shape-the_row-Expr-1 hidden-the_row-Expr-1
    shape-the_row-Stmt-0 hidden-the_row-Stmt-0 shape-the_row-Member-1 hidden-the_row-Member-1 shape-the_row-Comp-0 hidden-the_row-Comp-0 hidden
    int_wrap digits
open_value = refl
