-- How far the walk of a component goes, with the bodies that it calls.
use Rattle.std.specs.Prelude.{ℕ, ◌+◌, List, [], ◌∷◌, nat_eq, if◌then◌else◌}
use Rattle.zir_tree.specs.declared.comp.Comp.{Comp, Take, Takes, Emit, Emits, Return, Do, Repeat', While', Times', For', If', Map, Filter, Call}
use Rattle.zir_tree.specs.declared.comp.Comp.{Block', Pipe', end_of-Comp, more_of-Comp, Row_of-Member, end_of-Member, more_of-Member}
use Rattle.zir_tree.specs.declared.comp.Member.{Member, Bind, Var, Run}
use Rattle.zir_types.specs.Programs.{Prepared}

abbrev mutual
  -- The size of a component, where the bodies of the `fun comp`s have these sizes.
  pub size_of : (ℕ → ℕ) → Comp → ℕ
  size_of hs (Take p) = 1
  size_of hs (Takes n p) = 1
  size_of hs (Emit e p) = 1
  size_of hs (Emits e p) = 1
  size_of hs (Return e p) = 1
  size_of hs (Do b p) = 1
  size_of hs (Repeat' _ (more_of-Comp c end_of-Comp) p) = 3 + size_of hs c
  size_of hs (While' turning e _ (more_of-Comp c end_of-Comp) p) = 3 + size_of hs c
  size_of hs (Times' e _ (more_of-Comp c end_of-Comp) p) = 3 + size_of hs c
  size_of hs (For' x a n _ (more_of-Comp c end_of-Comp) p) = 3 + size_of hs c
  size_of hs (If' e _ (more_of-Comp c end_of-Comp) _ (more_of-Comp d end_of-Comp) p) = 3 + (size_of hs c + size_of hs d)
  size_of hs (Map f k p) = 1
  size_of hs (Filter f k p) = 1
  size_of hs (Call f k es) = 4 + hs f.id
  size_of hs (Block' _ ms p) = 4 + size_of_row hs ms
  size_of hs (Pipe' link _ (more_of-Comp c end_of-Comp) _ (more_of-Comp d end_of-Comp) p) = 3 + (size_of hs c + size_of hs d)

  -- The size of members.
  pub size_of_row : (ℕ → ℕ) → {m : _} → Row_of-Member m → ℕ
  size_of_row hs end_of-Member = 0
  size_of_row hs (more_of-Member (Bind x c) ms) = (2 + size_of hs c) + size_of_row hs ms
  size_of_row hs (more_of-Member (Var v) ms) = 2 + size_of_row hs ms
  size_of_row hs (more_of-Member (Run c) ms) = (2 + size_of hs c) + size_of_row hs ms

-- The size of a member.
abbrev pub size_of_member : (ℕ → ℕ) → Member → ℕ
size_of_member hs (Bind x c) = 2 + size_of hs c
size_of_member hs (Var v) = 2
size_of_member hs (Run c) = 2 + size_of hs c

-- The size of a list of members.
abbrev pub size_of_members : (ℕ → ℕ) → List Member → ℕ
size_of_members hs [] = 0
size_of_members hs (m ∷ ms) = size_of_member hs m + size_of_members hs ms

-- The sizes of the bodies of `fun comp`s by their numbers, each over those before it; the list begins with the last one.
abbrev pub heights : List Prepared → ℕ → ℕ
heights [] id = 0
heights (d ∷ ds) id = if nat_eq d.id id then size_of (heights ds) d.body else heights ds id
