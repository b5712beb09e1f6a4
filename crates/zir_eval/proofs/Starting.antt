-- What holds at the top of a program.
use Rattle.std.specs.Prelude.{ℕ, zero, suc, ℤ, pos, ◌+◌, ◌<◌, ◌≤◌, ◌^◌, List, [], ◌∷◌, ◌≡◌, length, slice_index_or, refl}
use Rattle.std.proofs.Common.{ap, sym, subst, ◌∙◌, arith}
use Rattle.std.proofs.lemmas.Bool.Decides.{nat_tests}
use Rattle.std.proofs.lemmas.List.Sums.{sum_by-cons}
use Rattle.zir_tree.specs.declared.types.StructDef.{StructDef}
use Rattle.zir_tree.specs.declared.stmt.Var.{Var}
use Rattle.zir_meaning.specs.Values.{type_of, blanks_of}
use Rattle.zir_shapes.specs.Shapes.{Ordered}
use Rattle.zir_shapes.proofs.Blank.{blanks-have}
use Rattle.zir_shapes.specs.Offsets.{zeros}
use Rattle.zir_code.specs.declared.scope.Holder.{Holder}
use Rattle.zir_code.specs.Holding.{At, Hold, InOrder}
use Rattle.zir_code.specs.Calls.{AllTop}
use Rattle.zir_compile.specs.Signing.{no_signature, signatures_of}
use Rattle.zir_compile.proofs.Typed.{all_signed}
use Rattle.zir_eval.specs.Opening.{cells_for_var, cells_for_vars, top_holder, top_holders, held_cells, top_cells, blank_slots, VarsKnown}
use Rattle.zir_eval.specs.Laws.{BlankFramesHold, FunctionsMean}
use Rattle.zir_eval.proofs.Laws.{functions_agree}

-- the top variables have the cells of their types
pub cells_held : (structs : List StructDef) (i : ℕ) (vs : List Var) → held_cells (top_holders structs i vs) ≡ cells_for_vars structs vs
cells_held structs i [] = refl
cells_held structs i (v ∷ vs) =
    sum_by-cons (λ (d : Holder). d.cells) (top_holder structs i v) (top_holders structs (i + cells_for_var structs v) vs)
    ∙ ap (λ n. cells_for_var structs v + n) (cells_held structs (i + cells_for_var structs v) vs) ∙ sym (sum_by-cons (cells_for_var structs) v vs)

-- cells of 0 stand wherever all cells are 0
zeros_stand : (cells : List ℤ) (i n : ℕ) → ((k : ℕ) → slice_index_or cells k (pos 0) ≡ pos 0) → i + n ≤ length cells → At cells i (zeros n)
zeros_stand cells i zero blank le = tt
zeros_stand cells i (suc n) blank le = (omega arith, blank i, zeros_stand cells (i + 1) n blank (omega arith))

-- cells of 0 hold the blank values of variables
hold_blanks : (structs : List StructDef) (cells : List ℤ) (base i : ℕ) (vs : List Var) → Ordered structs → VarsKnown (length structs) vs →
    ((k : ℕ) → slice_index_or cells k (pos 0) ≡ pos 0) → i + cells_for_vars structs vs ≤ length cells →
    Hold structs cells base (top_holders structs i vs) (blank_slots (blanks_of structs) vs)
hold_blanks structs cells base i [] o k blank le = tt
hold_blanks structs cells base i (v ∷ vs) o k blank le =
    let b = blanks-have structs (type_of v.ty) o k.0 in
    let sum : cells_for_vars structs (v ∷ vs) ≡ cells_for_var structs v + cells_for_vars structs vs = sum_by-cons (cells_for_var structs) v vs in (
      record {
        id = refl;
        cells = subst (At cells i) (sym b.cells) (zeros_stand cells i (cells_for_var structs v) blank (omega (arith, sum, le)));
        shape = b.shape;
        size = refl;
      },
      hold_blanks structs cells base (i + cells_for_var structs v) vs o k.1 blank (omega (arith, sum, le)),
    )

order_tops : (structs : List StructDef) (base i : ℕ) (vs : List Var) → InOrder base i (i + cells_for_vars structs vs) (top_holders structs i vs)
order_tops structs base i [] = omega arith
order_tops structs base i (v ∷ vs) =
    let n = cells_for_var structs v in (
      omega arith,
      subst (λ high. InOrder base (i + n) high (top_holders structs (i + n) vs))
          (let e : i + n + cells_for_vars structs vs ≡ i + cells_for_vars structs (v ∷ vs) = omega (arith, sum_by-cons (cells_for_var structs) v vs) in e) (order_tops structs base (i + n) vs),
    )

all_top : (structs : List StructDef) (i : ℕ) (vs : List Var) → AllTop (top_holders structs i vs)
all_top structs i [] = tt
all_top structs i (v ∷ vs) = (tt, all_top structs (i + cells_for_var structs v) vs)

-- a new frame of a program
pub holds_blanks : BlankFramesHold
holds_blanks core room limit m known few can h =
    let top = top_cells core in
    let lt : top < 2 ^ 32 = grind (arith, nat_tests, can) in
    let same : held_cells (top_holders core.structs 0 core.variables) ≡ top = cells_held core.structs 0 core.variables in
    let size : length m.cells ≡ top + room = h.size (omega (arith, same, lt)) ∙ ap (λ n. n + room) same in
    record {
      tops = hold_blanks core.structs m.cells top 0 core.variables known.structs known.variables h.zero (omega arith);
      locals = tt;
      tops_in = subst (λ high. InOrder top 0 high (top_holders core.structs 0 core.variables)) (let e : 0 + top ≡ top = omega arith in e)
          (order_tops core.structs top 0 core.variables);
      locals_in = omega arith;
      used = h.used;
      limit = h.limit_is ∙ (let e : limit ≡ 0 + limit = omega arith in e);
      apart = omega arith;
      room = omega arith;
      small = omega arith;
    }

-- the functions of a program
pub calls_mean : FunctionsMean
calls_mean core ordered fine =
    let tops : List Holder = top_holders core.structs 0 core.variables in
    functions_agree (top_cells core) core.structs tops core.functions (signatures_of core.structs tops core.functions) ordered
    (all_top core.structs 0 core.variables) (all_signed core.functions core.structs tops no_signature 0 fine)
