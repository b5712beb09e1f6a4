-- What sets say of what is assigned.
use Rattle.std.specs.Prelude.{ℕ, List, [], ◌∷◌, ◌++◌, Bool, ◌≡◌}
use Rattle.zir_tree.specs.declared.stmt.Access.{Access}
use Rattle.zir_tree.specs.declared.stmt.Access.TheVariants.{Index, Slice, Part}
use Rattle.zir_tree.specs.declared.stmt.Stmt.{Stmt}
use Rattle.zir_tree.specs.declared.comp.Member.{Member, Bind, Var, Run}
use Rattle.zir_meaning.specs.Store.{among}
use Rattle.zir_meaning.specs.Assigned.{Assigning, expr_assigns, initial_assigns, assigns, all_assign, without}
use Rattle.zir_assigned.specs.declared.sets.Hidden.{Hidden}
use Rattle.zir_assigned.specs.declared.assigned.Assigned.{Assigned}
use Rattle.zir_assigned.specs.Sets.{Adds, has_at, uncovered}

-- sets have what functions and instances assign
pub record Agrees (made : Assigned) (r : Assigning) : Type 0 where
  pub functions : (k id : ℕ) → among (r.by_fun k) id ≡ has_at made.functions.items k id
  pub instances : (k id : ℕ) → among (r.by_instance k) id ≡ has_at made.instances.items k id

-- the same where there is no instance yet
pub record AgreesAlone (made : Assigned) (by_fun : ℕ → List ℕ) : Type 0 where
  pub functions : (k id : ℕ) → among (by_fun k) id ≡ has_at made.functions.items k id
  pub instances : made.instances.items ≡ []

-- what the indexes of one access assign
abbrev pub access_assigns : Assigning → Access → List ℕ
access_assigns r (Index e p) = expr_assigns r e
access_assigns r (Slice e k p) = expr_assigns r e
access_assigns r (Part name k p) = []

-- the variable that a member declares, if it is a declaration
abbrev pub member_declares : Member → List ℕ
member_declares (Bind name c) = []
member_declares (Var v) = v.name.id ∷ []
member_declares (Run c) = []

-- what a member assigns
abbrev pub member_assigns : Assigning → Member → List ℕ
member_assigns r (Bind name c) = assigns r c
member_assigns r (Var v) = initial_assigns r v.initial
member_assigns r (Run c) = assigns r c

-- what these members and then something else assign, but for what they declare
abbrev pub members_then : Assigning → List Member → List ℕ → List ℕ
members_then r [] last = last
members_then r (m ∷ ms) last = member_assigns r m ++ without (member_declares m) (members_then r ms last)

-- statements add what they assign, and with what follows them all that both assign, but for what they declare
abbrev pub Opens : Assigning → List Stmt → (ℕ → Bool) → (ℕ → Bool) → List Hidden → Type 0
Opens r ss old new hidden =
    (ids : List ℕ) (set : ℕ → Bool) → Adds ids new set → Adds (all_assign r ss ids) old (uncovered hidden set)
