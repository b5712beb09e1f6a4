-- Components over bits assign no variable.
use Rattle.std.specs.Prelude.{ℕ, List, [], ◌++◌, ◌≡◌, refl, Some, None}
use Rattle.std.proofs.Common.{ap, ◌∙◌}
use denote.Hole.Carrier.{hidden}
use Rattle.zir_tree.specs.declared.expr.Expr.TheBlock.{shape-the_row-Expr-0, hidden-the_row-Expr-0}
use Rattle.zir_tree.specs.declared.comp.Comp.TheBlock.{shape-the_row-Comp-0, hidden-the_row-Comp-0, shape-the_row-Member-1, hidden-the_row-Member-1}
use Rattle.zir_meaning.specs.Assigned as wide
use Rattle.zir_bit_tree.specs.declared.tree.Expr.{Expr, Unit, Bit, Variable, Xor', end_of-Expr, more_of-Expr}
use Rattle.zir_bit_tree.specs.declared.tree.Comp.{Comp, Take, Emit, Return, Block', Repeat', Pipe', end_of-Comp, more_of-Comp, Row_of-Member, end_of-Member, more_of-Member}
use Rattle.zir_bit_meaning.specs.Component.{assigns, row_assigns}
use Rattle.zir_bits.specs.Wide.{wide_expr, wide_comp, wide_members}

-- two empty lists are empty
both-none : (a b : List ℕ) → a ≡ [] → b ≡ [] → a ++ b ≡ []
both-none a b e f = ap (λ a. a ++ b) e ∙ f

-- an expression assigns nothing
expr-none : (r : wide.Assigning) (e : Expr) → wide.expr_assigns r (wide_expr e) ≡ []
unfolding shape-the_row-Expr-0 hidden-the_row-Expr-0 hidden
expr-none r (Unit p) = refl
expr-none r (Bit b p) = refl
expr-none r (Variable name) = refl
expr-none r (Xor' _ (more_of-Expr a end_of-Expr) _ (more_of-Expr b end_of-Expr) p) =
    both-none (wide.expr_assigns r (wide_expr a)) (wide.expr_assigns r (wide_expr b)) (expr-none r a) (expr-none r b)

mutual
  unfolding shape-the_row-Comp-0 hidden-the_row-Comp-0 shape-the_row-Member-1 hidden-the_row-Member-1 hidden

  -- nor does a component
  pub wide-none : (r : wide.Assigning) (c : Comp) → wide.assigns r (wide_comp c) ≡ []
  wide-none r (Take p) = refl
  wide-none r (Emit e p) = expr-none r e
  wide-none r (Return e p) = expr-none r e
  wide-none r (Block' _ ms p) = wide_members-none r ms
  wide-none r (Repeat' _ (more_of-Comp c end_of-Comp) p) = wide-none r c
  wide-none r (Pipe' _ (more_of-Comp a end_of-Comp) _ (more_of-Comp b end_of-Comp) p) =
      both-none (wide.assigns r (wide_comp a)) (wide.assigns r (wide_comp b)) (wide-none r a) (wide-none r b)

  -- nor do the members of a block
  wide_members-none : {m : _} (r : wide.Assigning) (ms : Row_of-Member m) → wide.members_assign r (hidden-the_row-Member-1 (wide_members ms)) ≡ []
  wide_members-none r end_of-Member = refl
  wide_members-none r (more_of-Member None c ms) =
      both-none (wide.assigns r (wide_comp c)) (wide.members_assign r (hidden-the_row-Member-1 (wide_members ms))) (wide-none r c) (wide_members-none r ms)
  wide_members-none r (more_of-Member (Some name) c ms) =
      both-none (wide.assigns r (wide_comp c)) (wide.members_assign r (hidden-the_row-Member-1 (wide_members ms))) (wide-none r c) (wide_members-none r ms)

mutual
  -- nor does it among components over bits
  pub bits-none : (c : Comp) → assigns c ≡ []
  bits-none (Take p) = refl
  bits-none (Emit e p) = refl
  bits-none (Return e p) = refl
  bits-none (Block' _ ms p) = members-none ms
  bits-none (Repeat' _ (more_of-Comp c end_of-Comp) p) = bits-none c
  bits-none (Pipe' _ (more_of-Comp a end_of-Comp) _ (more_of-Comp b end_of-Comp) p) = both-none (assigns a) (assigns b) (bits-none a) (bits-none b)

  -- nor do the members of a block there
  members-none : {m : _} (ms : Row_of-Member m) → row_assigns ms ≡ []
  members-none end_of-Member = refl
  members-none (more_of-Member name c ms) = both-none (assigns c) (row_assigns ms) (bits-none c) (members-none ms)
