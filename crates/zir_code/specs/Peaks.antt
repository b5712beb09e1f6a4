-- How many cells the code of an expression uses, and which code 32 bits can count the cells of.
use Rattle.std.specs.Prelude.{ℕ, ◌+◌, ◌^◌, max, List, [], ◌∷◌, Bool, true, ◌&&◌, Option, Some, None, nat_lt}
use Rattle.zir_tree.specs.declared.types.Ty.{Ty}
use Rattle.zir_tree.specs.declared.expr.Callee.{Callee}
use Rattle.zir_tree.specs.declared.expr.Callee.TheVariants.{Function, Struct}
use Rattle.zir_tree.specs.declared.expr.Expr.{Expr, Unit, Bit, Bool as BoolLiteral, Int, Variable, Unary', Binary', Index', Slice', Part', Call', Array', Convert', Complex', Row_of-Expr, end_of-Expr, more_of-Expr}
use Rattle.zir_meaning.specs.Functions.{pick}
use Rattle.zir_shapes.specs.Offsets.{plain_type as plain, array_type as array_of, is_whole}
use Rattle.zir_expr.specs.declared.frame.Spot.{Spot}
use Rattle.zir_code.specs.declared.scope.Signature.{Signature}
use Rattle.zir_code.specs.Scopes.{Scope, variable, number_of}
use Rattle.zir_code.specs.Types.{type_in, callee_type, element_type, first_length, part_type, part_offset, cells_for, size_in}
use Rattle.zir_code.specs.Coding.{is_calm, is_rooted, fixed, stands, width_if, path_width, path_root, base_width, base_root}

-- a number that 32 bits hold
abbrev pub small : ℕ → Bool
small n = nat_lt n (2 ^ 32)

-- the cells of a function's body
abbrev pub needs_of : Option Signature → ℕ
needs_of None = 0
needs_of (Some f) = f.needs

-- the cells of what a call calls
abbrev pub callee_needs : Scope → Callee → ℕ
callee_needs g (Function k) = needs_of (g.funs k)
callee_needs g (Struct k) = 0

-- the first cell behind so many from d on, and behind one at least
abbrev pub behind : ℕ → ℕ → ℕ
behind d n = max (d + 1) (d + n)

-- the first of two where a value stands somewhere, and else the other
abbrev pub peak_if : Option Spot → ℕ → ℕ → ℕ
peak_if None there other = other
peak_if (Some x) there other = there

abbrev mutual
  -- the first cell behind all that the code of an expression uses, whose cells from d on are free
  pub peak_of : Scope → Expr → ℕ → ℕ
  peak_of g (Unit p) d = d + 1
  peak_of g (Bit b p) d = d + 1
  peak_of g (BoolLiteral b p) d = d + 1
  peak_of g (Int n t p) d = d + 1
  peak_of g (Variable x) d = behind d (size_in g (Variable x))
  peak_of g (Unary' o t _ (more_of-Expr a end_of-Expr) p) d = max (peak_of g a d) (behind d (cells_for g (plain t)))
  peak_of g (Binary' o t _ (more_of-Expr a end_of-Expr) _ (more_of-Expr b end_of-Expr) p) d =
      max (max (peak_of g a d) (behind d (size_in g a))) (max (peak_of g b (d + size_in g a)) (behind d (cells_for g (plain t))))
  peak_of g (Index' _ (more_of-Expr a end_of-Expr) _ (more_of-Expr i end_of-Expr) p) d =
      let still = is_calm i in
      let o = d + base_width still g a in
      max (pick (is_rooted a) (path_peak still g a d) (max (peak_of g a d) (o + 1))) (max (peak_of g i (o + 1)) (d + cells_for g (element_type (type_in g a))))
  peak_of g (Slice' _ (more_of-Expr a end_of-Expr) _ (more_of-Expr i end_of-Expr) k p) d =
      let still = is_calm i in
      let o = d + base_width still g a in
      max (pick (is_rooted a) (path_peak still g a d) (max (peak_of g a d) (o + 1)))
      (max (peak_of g i (o + 1)) (d + cells_for g (array_of k (element_type (type_in g a)))))
  peak_of g (Part' _ (more_of-Expr a end_of-Expr) name k p) d =
      let o = d + base_width true g a in
      let n = cells_for g (part_type g.structs (type_in g a) k) in
      peak_if (fixed g a) (behind d n) (max (pick (is_rooted a) (path_peak true g a d) (max (peak_of g a d) (o + 1))) (d + n))
  peak_of g (Call' name callee _ es) d = max (arguments_peak g es d) (d + max (cells_for g (callee_type g callee)) (callee_needs g callee))
  peak_of g (Array' _ es p) d = arguments_peak g es d
  peak_of g (Convert' t _ (more_of-Expr a end_of-Expr) p) d = max (peak_of g a d) (behind d (cells_for g (plain t)))
  peak_of g (Complex' t _ (more_of-Expr a end_of-Expr) _ (more_of-Expr b end_of-Expr) p) d = max (max (peak_of g a d) (peak_of g b (d + 1))) (d + 2)

  -- the same of a path
  pub path_peak : Bool → Scope → Expr → ℕ → ℕ
  path_peak still g (Unit p) d = d + 1
  path_peak still g (Bit b p) d = d + 1
  path_peak still g (BoolLiteral b p) d = d + 1
  path_peak still g (Int n t p) d = d + 1
  path_peak still g (Variable x) d = d + width_if still (variable g x.id) + 1
  path_peak still g (Unary' o t _ a p) d = d + 1
  path_peak still g (Binary' o t _ a _ b p) d = d + 1
  path_peak still g (Index' _ (more_of-Expr a end_of-Expr) _ (more_of-Expr i end_of-Expr) p) d =
      max (path_peak (still && is_calm i) g a d) (peak_of g i (d + path_width (still && is_calm i) g a + 1))
  path_peak still g (Slice' _ (more_of-Expr a end_of-Expr) _ (more_of-Expr i end_of-Expr) k p) d =
      max (path_peak (still && is_calm i) g a d) (peak_of g i (d + path_width (still && is_calm i) g a + 1))
  path_peak still g (Part' _ (more_of-Expr a end_of-Expr) name k p) d = path_peak still g a d
  path_peak still g (Call' name callee _ es) d = d + 1
  path_peak still g (Array' _ es p) d = d + 1
  path_peak still g (Convert' t _ a p) d = d + 1
  path_peak still g (Complex' t _ a _ b p) d = d + 1

  -- the same of arguments, elements or fields
  pub arguments_peak : {k : _} → Scope → Row_of-Expr k → ℕ → ℕ
  arguments_peak g end_of-Expr d = d
  arguments_peak g (more_of-Expr e es) d = max (peak_of g e d) (arguments_peak g es (d + size_in g e))

-- the same for a list
abbrev pub peak_of_all : Scope → List Expr → ℕ → ℕ
peak_of_all g [] d = d
peak_of_all g (e ∷ es) d = max (peak_of g e d) (peak_of_all g es (d + size_in g e))

-- 32 bits hold one more than the length of an array, and the cells of its elements
abbrev pub counts_elements : Scope → Ty → Bool
counts_elements g ty = small (first_length ty.lengths + 1) && small (cells_for g (element_type ty))

-- 32 bits hold the second cells of two values
abbrev pub counts_pairs : Spot → Spot → Bool
counts_pairs x y = small (number_of x + 1) && small (number_of y + 1)

-- 32 bits hold a spot, if it is anywhere
abbrev pub counts_spot : Option Spot → Bool
counts_spot None = true
counts_spot (Some x) = small (number_of x)

abbrev mutual
  -- whether 32 bits hold all numbers of the code of an expression, besides those of the cells that it uses
  pub is_coded : Scope → Expr → ℕ → Bool
  is_coded g (Unit p) d = true
  is_coded g (Bit b p) d = true
  is_coded g (BoolLiteral b p) d = true
  is_coded g (Int n t p) d = is_whole t
  is_coded g (Variable x) d = true
  is_coded g (Unary' o t _ (more_of-Expr a end_of-Expr) p) d = is_coded g a d
  is_coded g (Binary' o t _ (more_of-Expr a end_of-Expr) _ (more_of-Expr b end_of-Expr) p) d =
      is_coded g a d && (is_coded g b (d + size_in g a) && counts_pairs (stands g a d) (stands g b (d + size_in g a)))
  is_coded g (Index' _ (more_of-Expr a end_of-Expr) _ (more_of-Expr i end_of-Expr) p) d =
      let still = is_calm i in
      pick (is_rooted a) (is_path_coded still g a d) (is_coded g a d) && (is_coded g i (d + base_width still g a + 1) && counts_elements g (type_in g a))
  is_coded g (Slice' _ (more_of-Expr a end_of-Expr) _ (more_of-Expr i end_of-Expr) k p) d =
      let still = is_calm i in
      pick (is_rooted a) (is_path_coded still g a d) (is_coded g a d) && (is_coded g i (d + base_width still g a + 1) && counts_elements g (type_in g a))
  is_coded g (Part' b (more_of-Expr a end_of-Expr) name k p) d =
      pick (is_rooted a) (is_path_coded true g a d) (is_coded g a d)
      && (counts_spot (fixed g (Part' b (more_of-Expr a end_of-Expr) name k p)) && small (number_of (base_root true g a d) + part_offset g.structs (type_in g a) k))
  is_coded g (Call' name callee _ es) d = are_coded g es d
  is_coded g (Array' _ es p) d = are_coded g es d
  is_coded g (Convert' t _ (more_of-Expr a end_of-Expr) p) d = is_coded g a d
  is_coded g (Complex' t _ (more_of-Expr a end_of-Expr) _ (more_of-Expr b end_of-Expr) p) d = is_coded g a d && is_coded g b (d + 1)

  -- the same of a path
  pub is_path_coded : Bool → Scope → Expr → ℕ → Bool
  is_path_coded still g (Unit p) d = true
  is_path_coded still g (Bit b p) d = true
  is_path_coded still g (BoolLiteral b p) d = true
  is_path_coded still g (Int n t p) d = true
  is_path_coded still g (Variable x) d = true
  is_path_coded still g (Unary' o t _ a p) d = true
  is_path_coded still g (Binary' o t _ a _ b p) d = true
  is_path_coded still g (Index' _ (more_of-Expr a end_of-Expr) _ (more_of-Expr i end_of-Expr) p) d =
      is_path_coded (still && is_calm i) g a d && (is_coded g i (d + path_width (still && is_calm i) g a + 1) && counts_elements g (type_in g a))
  is_path_coded still g (Slice' _ (more_of-Expr a end_of-Expr) _ (more_of-Expr i end_of-Expr) k p) d =
      is_path_coded (still && is_calm i) g a d && (is_coded g i (d + path_width (still && is_calm i) g a + 1) && counts_elements g (type_in g a))
  is_path_coded still g (Part' _ (more_of-Expr a end_of-Expr) name k p) d =
      is_path_coded still g a d && small (number_of (path_root still g a d) + part_offset g.structs (type_in g a) k)
  is_path_coded still g (Call' name callee _ es) d = true
  is_path_coded still g (Array' _ es p) d = true
  is_path_coded still g (Convert' t _ a p) d = true
  is_path_coded still g (Complex' t _ a _ b p) d = true

  -- the same of arguments, elements or fields
  pub are_coded : {k : _} → Scope → Row_of-Expr k → ℕ → Bool
  are_coded g end_of-Expr d = true
  are_coded g (more_of-Expr e es) d = is_coded g e d && are_coded g es (d + size_in g e)

-- the same for a list
abbrev pub all_coded : Scope → List Expr → ℕ → Bool
all_coded g [] d = true
all_coded g (e ∷ es) d = is_coded g e d && all_coded g es (d + size_in g e)
