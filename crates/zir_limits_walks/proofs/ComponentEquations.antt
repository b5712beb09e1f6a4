-- The equations of components at the trees that code has.
use Rattle.std.specs.Prelude.{◌≡◌, ℕ, suc, ◌+◌, max, List, [], ◌∷◌, ◌++◌, Option, Some, None, refl}
use Rattle.std.proofs.Common.{ap, ◌∙◌, sym, append-nil, arith}
use denote.Hole.Carrier.{hidden}
use Rattle.zir_tree.specs.declared.ident.Ident.{Ident}
use Rattle.zir_tree.specs.declared.place.Place.{Place}
use Rattle.zir_tree.specs.declared.types.Base.TheVariants.{Unit as UnitTy}
use Rattle.zir_tree.specs.declared.types.Ty.{Ty}
use Rattle.zir_tree.specs.declared.expr.Expr.{Expr}
use Rattle.zir_tree.specs.declared.comp.Turning.{Turning}
use Rattle.zir_tree.specs.declared.comp.Link.{Link}
use Rattle.zir_tree.specs.declared.comp.Link.TheVariants.{Serial, Parallel}
use Rattle.zir_tree.specs.declared.comp.Comp.{Comp, Repeat, While, Times, For, If, Block, Pipe}
use Rattle.zir_tree.specs.declared.comp.Comp.TheBlock.{shape-the_row-Comp-0, hidden-the_row-Comp-0, shape-the_row-Member-1, hidden-the_row-Member-1}
use Rattle.zir_tree.specs.declared.comp.Member.{Member, Bind, Var, Run}
use Rattle.zir_types.specs.declared.scope.Seen.{Seen}
use Rattle.zir_types.specs.Kinds.{scalar}
use Rattle.zir_types.specs.Scope.{cells_in}
use Rattle.zir_types.specs.Statements.{with_index}
use Rattle.zir_types.specs.Components.{link_type}
use Rattle.zir_types.specs.Known.{Kind, kind_of, members_kind, first_some, or_unit, seen_in}
use Rattle.zir_types.specs.Needs.{Sums, counted, expr_need, comp_need, members_sums, sums_need, var_cells, initial_need}
use Rattle.zir_types.specs.Measures.{in_expr, in_comp, in_members, in_link, in_var, links}
use Rattle.zir_limits_walks.specs.declared.found.Walked.{Walked}
use Rattle.zir_limits_walks.specs.declared.found.Members.{Members}
use Rattle.zir_limits.specs.Facts.{CoreFacts, sight, needs_in}
use Rattle.zir_limits_walks.specs.Components.{walked, member_next, member_seen, members_next, members_measures}

-- types and a need
abbrev pub found : Option Ty → Option Ty → ℕ → Walked
found emits value need = record { emits = emits; value = value; need = need }

-- what is known of members
abbrev pub known : Option Ty → Option Ty → ℕ → ℕ → Members
known emits value cells most = record { emits = emits; value = value; cells = cells; most = most }

-- the value of what turns
abbrev pub nothing_more : Option Ty
nothing_more = Some (scalar UnitTy)

pub walked-Repeat : (f : CoreFacts) (vs : List Seen) (a : Ty) (c : Comp) (at : Place) →
    walked f vs a (Repeat c at) ≡ found (walked f vs a c).emits None (counted ((walked f vs a c).need + 3))
unfolding shape-the_row-Comp-0 hidden-the_row-Comp-0 hidden
walked-Repeat f vs a c at = refl

pub in-Repeat : (f : CoreFacts) (vs : List Seen) (a : Ty) (c : Comp) (at : Place) →
    in_comp f.instances (sight f vs) a (Repeat c at) ≡ in_comp f.instances (sight f vs) a c
unfolding shape-the_row-Comp-0 hidden-the_row-Comp-0 hidden
in-Repeat f vs a c at = refl

pub walked-While : (f : CoreFacts) (vs : List Seen) (a : Ty) (turning : Turning) (e : Expr) (c : Comp) (at : Place) →
    walked f vs a (While turning e c at) ≡ found (walked f vs a c).emits nothing_more (counted ((walked f vs a c).need + 3))
unfolding shape-the_row-Comp-0 hidden-the_row-Comp-0 hidden
walked-While f vs a turning e c at = refl

pub in-While : (f : CoreFacts) (vs : List Seen) (a : Ty) (turning : Turning) (e : Expr) (c : Comp) (at : Place) →
    in_comp f.instances (sight f vs) a (While turning e c at) ≡ in_expr (sight f vs) e ++ in_comp f.instances (sight f vs) a c
unfolding shape-the_row-Comp-0 hidden-the_row-Comp-0 hidden
in-While f vs a turning e c at = refl

pub walked-Times : (f : CoreFacts) (vs : List Seen) (a : Ty) (e : Expr) (c : Comp) (at : Place) →
    walked f vs a (Times e c at) ≡ found (walked f vs a c).emits nothing_more (counted ((walked f vs a c).need + 3))
unfolding shape-the_row-Comp-0 hidden-the_row-Comp-0 hidden
walked-Times f vs a e c at = refl

pub in-Times : (f : CoreFacts) (vs : List Seen) (a : Ty) (e : Expr) (c : Comp) (at : Place) →
    in_comp f.instances (sight f vs) a (Times e c at) ≡ in_expr (sight f vs) e ++ in_comp f.instances (sight f vs) a c
unfolding shape-the_row-Comp-0 hidden-the_row-Comp-0 hidden
in-Times f vs a e c at = refl

-- what is in scope with the index of a loop
abbrev pub behind_index : Ident → List Seen → List Seen
behind_index x vs = (with_index x (sight (record { shapes = []; functions = []; instances = []; function_needs = []; instance_needs = [] }) vs)).variables

pub walked-For : (f : CoreFacts) (vs : List Seen) (a : Ty) (x : Ident) (e n : Expr) (c : Comp) (at : Place) →
    walked f vs a (For x e n c at) ≡ found (walked f (behind_index x vs) a c).emits nothing_more (counted ((walked f (behind_index x vs) a c).need + 3))
unfolding shape-the_row-Comp-0 hidden-the_row-Comp-0 hidden
walked-For f vs a x e n c at = refl

pub in-For : (f : CoreFacts) (vs : List Seen) (a : Ty) (x : Ident) (e n : Expr) (c : Comp) (at : Place) →
    in_comp f.instances (sight f vs) a (For x e n c at)
    ≡ in_expr (sight f vs) e ++ in_expr (sight f vs) n ++ in_comp f.instances (sight f (behind_index x vs)) a c
unfolding shape-the_row-Comp-0 hidden-the_row-Comp-0 hidden
in-For f vs a x e n c at = refl

pub walked-If : (f : CoreFacts) (vs : List Seen) (a : Ty) (e : Expr) (c d : Comp) (at : Place) →
    walked f vs a (If e c d at) ≡ found (first_some (walked f vs a c).emits (walked f vs a d).emits) (walked f vs a c).value
    (max (expr_need (needs_in f) e) (max (walked f vs a c).need (walked f vs a d).need))
unfolding shape-the_row-Comp-0 hidden-the_row-Comp-0 hidden
walked-If f vs a e c d at = refl

pub in-If : (f : CoreFacts) (vs : List Seen) (a : Ty) (e : Expr) (c d : Comp) (at : Place) →
    in_comp f.instances (sight f vs) a (If e c d at)
    ≡ in_expr (sight f vs) e ++ in_comp f.instances (sight f vs) a c ++ in_comp f.instances (sight f vs) a d
unfolding shape-the_row-Comp-0 hidden-the_row-Comp-0 hidden
in-If f vs a e c d at = refl

pub walked-Pipe : (f : CoreFacts) (vs : List Seen) (a : Ty) (link : Link) (c d : Comp) (at : Place) →
    walked f vs a (Pipe link c d at) ≡ (let w = walked f vs a c in let v = walked f vs (link_type w.emits) d in
    found v.emits (first_some w.value v.value) (counted (w.need + v.need + 2)))
unfolding shape-the_row-Comp-0 hidden-the_row-Comp-0 hidden
walked-Pipe f vs a link c d at = refl

pub in-Pipe : (f : CoreFacts) (vs : List Seen) (a : Ty) (link : Link) (c d : Comp) (at : Place) →
    in_comp f.instances (sight f vs) a (Pipe link c d at) ≡ in_link link (links c) at ++ in_comp f.instances (sight f vs) a c
    ++ in_comp f.instances (sight f vs) (link_type (walked f vs a c).emits) d
unfolding shape-the_row-Comp-0 hidden-the_row-Comp-0 hidden
in-Pipe f vs a link c d at = refl

pub links-Serial : (c d : Comp) (at : Place) → links (Pipe Serial c d at) ≡ 0
links-Serial c d at = refl

pub links-Parallel : (c d : Comp) (at : Place) → links (Pipe Parallel c d at) ≡ suc (links c)
unfolding shape-the_row-Comp-0 hidden-the_row-Comp-0 hidden
links-Parallel c d at = refl

-- the types of members
abbrev kinds_in : Members → Kind
kinds_in m = record { emits = m.emits; value = m.value }

pub kinds-list : (f : CoreFacts) (vs : List Seen) (a : Ty) (m : Members) (ms : List Member) →
    members_kind f.instances (sight f vs) a (kinds_in m) (hidden-the_row-Member-1 ms) ≡ kinds_in (members_next f vs a m ms)
unfolding shape-the_row-Member-1 hidden-the_row-Member-1 hidden
kinds-list f vs a m [] = refl
kinds-list f vs a m (Bind x c ∷ ms) = kinds-list f (vs ++ member_seen f vs a (Bind x c)) a (member_next f vs a m (Bind x c)) ms
kinds-list f vs a m (Var v ∷ ms) = kinds-list f (vs ++ seen_in v) a (member_next f vs a m (Var v)) ms
kinds-list f vs a m (Run c ∷ ms) =
    kinds-list f vs a (member_next f vs a m (Run c)) ms
    ∙ ap (λ ws. kinds_in (members_next f ws a (member_next f vs a m (Run c)) ms)) (sym (append-nil vs))

pub measures-list : (f : CoreFacts) (vs : List Seen) (a : Ty) (ms : List Member) →
    in_members f.instances (sight f vs) a (hidden-the_row-Member-1 ms) ≡ members_measures f vs a ms
unfolding shape-the_row-Member-1 hidden-the_row-Member-1 hidden
measures-list f vs a [] = refl
measures-list f vs a (Bind x c ∷ ms) =
    ap (λ r. in_comp f.instances (sight f vs) a c ++ r) (measures-list f (vs ++ member_seen f vs a (Bind x c)) a ms)
measures-list f vs a (Var v ∷ ms) = ap (λ r. in_var (sight f vs) v ++ r) (measures-list f (vs ++ seen_in v) a ms)
measures-list f vs a (Run c ∷ ms) =
    ap (λ r. in_comp f.instances (sight f vs) a c ++ r) (measures-list f vs a ms ∙ ap (λ ws. members_measures f ws a ms) (sym (append-nil vs)))

-- the sums of members
abbrev sums_of : CoreFacts → List Seen → Ty → List Member → Sums
sums_of f vs a ms = members_sums f.instances (needs_in f) (sight f vs) a (hidden-the_row-Member-1 ms)

counted_again : (a b c : ℕ) → counted (counted (a + b) + c) ≡ counted (a + counted (b + c))
counted_again a b c = omega arith

counted_nothing : (a c : ℕ) → counted (a + c) ≡ counted (a + counted (0 + c))
counted_nothing a c = omega arith

max_again : (a b c : ℕ) → max (max a b) c ≡ max a (max b c)
max_again a b c = omega arith

pub cells-list : (f : CoreFacts) (vs : List Seen) (a : Ty) (m : Members) (ms : List Member) →
    counted (members_next f vs a m ms).cells ≡ counted (m.cells + (sums_of f vs a ms).cells)
unfolding shape-the_row-Member-1 hidden-the_row-Member-1 hidden
cells-list f vs a m [] = omega arith
cells-list f vs a m (Bind x c ∷ ms) =
    cells-list f (vs ++ member_seen f vs a (Bind x c)) a (member_next f vs a m (Bind x c)) ms
    ∙ counted_again m.cells (cells_in f.shapes (or_unit (kind_of f.instances (sight f vs) a c).value)) (sums_of f (vs ++ member_seen f vs a (Bind x c)) a ms).cells
cells-list f vs a m (Var v ∷ ms) =
    cells-list f (vs ++ seen_in v) a (member_next f vs a m (Var v)) ms
    ∙ counted_again m.cells (var_cells f.shapes v) (sums_of f (vs ++ seen_in v) a ms).cells
cells-list f vs a m (Run c ∷ ms) =
    ap (λ ws. counted (members_next f ws a (member_next f vs a m (Run c)) ms).cells) (append-nil vs)
    ∙ cells-list f vs a (member_next f vs a m (Run c)) ms ∙ counted_nothing m.cells (sums_of f vs a ms).cells

pub most-list : (f : CoreFacts) (vs : List Seen) (a : Ty) (m : Members) (ms : List Member) →
    (members_next f vs a m ms).most ≡ max m.most (sums_of f vs a ms).most
unfolding shape-the_row-Member-1 hidden-the_row-Member-1 hidden
most-list f vs a m [] = omega arith
most-list f vs a m (Bind x c ∷ ms) =
    most-list f (vs ++ member_seen f vs a (Bind x c)) a (member_next f vs a m (Bind x c)) ms
    ∙ max_again m.most (comp_need f.instances (needs_in f) (sight f vs) a c) (sums_of f (vs ++ member_seen f vs a (Bind x c)) a ms).most
most-list f vs a m (Var v ∷ ms) =
    most-list f (vs ++ seen_in v) a (member_next f vs a m (Var v)) ms
    ∙ max_again m.most (initial_need (needs_in f) v.initial) (sums_of f (vs ++ seen_in v) a ms).most
most-list f vs a m (Run c ∷ ms) =
    ap (λ ws. (members_next f ws a (member_next f vs a m (Run c)) ms).most) (append-nil vs)
    ∙ most-list f vs a (member_next f vs a m (Run c)) ms
    ∙ max_again m.most (comp_need f.instances (needs_in f) (sight f vs) a c) (sums_of f vs a ms).most

-- before the first member
abbrev pub no_members : Members
no_members = record { emits = None; value = nothing_more; cells = 0; most = 0 }

whole_need : (cells most sum greatest : ℕ) → counted cells ≡ counted (0 + sum) → most ≡ max 0 greatest → counted (sum + greatest) ≡ counted (cells + most)
whole_need cells most sum greatest h k = omega arith

pub walked-Block : (f : CoreFacts) (vs : List Seen) (a : Ty) (ms : List Member) (at : Place) →
    walked f vs a (Block ms at) ≡ (let m = members_next f vs a no_members ms in found m.emits m.value (counted (m.cells + m.most)))
walked-Block f vs a ms at =
    let m = members_next f vs a no_members ms in
    let s = sums_of f vs a ms in
    ap (λ (k : Kind). found k.emits k.value (sums_need s)) (kinds-list f vs a no_members ms)
    ∙ ap (found m.emits m.value) (whole_need m.cells m.most s.cells s.most (cells-list f vs a no_members ms) (most-list f vs a no_members ms))

pub in-Block : (f : CoreFacts) (vs : List Seen) (a : Ty) (ms : List Member) (at : Place) →
    in_comp f.instances (sight f vs) a (Block ms at) ≡ members_measures f vs a ms
in-Block f vs a ms at = measures-list f vs a ms
