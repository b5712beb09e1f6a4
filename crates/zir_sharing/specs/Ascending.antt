-- Ascending lists, and what members of a block touch.
use Rattle.std.specs.Prelude.{ℕ, suc, ◌≤◌, List, [], ◌∷◌}
use Rattle.zir_tree.specs.declared.comp.Member.{Member, Bind, Var, Run}
use Rattle.zir_names.specs.Touched.{Touched, Called, in_comp, in_var}

-- A list that ascends, without repeats, from a number on.
abbrev pub AscendsFrom : ℕ → List ℕ → Type 0
AscendsFrom k [] = Unit {0}
AscendsFrom k (n ∷ ns) = (k ≤ n) × AscendsFrom (suc n) ns

-- What a part touches, as three ascending lists.
abbrev pub Ascends : Touched → Type 0
Ascends t = AscendsFrom 0 t.used × AscendsFrom 0 t.assigned × AscendsFrom 0 t.declared

-- The same of what calls touch.
abbrev pub AllAscend : List Called → Type 0
AllAscend [] = Unit {0}
AllAscend (f ∷ fs) = Ascends f.touched × AllAscend fs

-- What a member of a block touches.
abbrev pub in_member : List Called → Member → Touched
in_member fs (Bind x c) = in_comp fs c
in_member fs (Var v) = in_var fs v
in_member fs (Run c) = in_comp fs c
