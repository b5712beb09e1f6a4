-- The first name along lists, and the equations of the variables of blocks at the trees that code has.
use Rattle.std.specs.Prelude.{◌≡◌, ℕ, ◌<◌, ◌+◌, List, [], ◌∷◌, ◌++◌, Option, Some, None, length, nat_eq, slice_index_or, drop, refl}
use Rattle.std.specs.List.{flat_map}
use Rattle.std.specs.Option.{option_or}
use Rattle.std.proofs.Common.{ap, ◌∙◌, sym, inl, inr}
use Rattle.std.proofs.lemmas.Bool.{cases_Bool, cond-true, cond-false}
use Rattle.std.proofs.lemmas.List.{drop_more}
use denote.Hole.Carrier.{hidden}
use Rattle.zir_tree.specs.declared.ident.Ident.{Ident}
use Rattle.zir_tree.specs.declared.place.Place.{Place}
use Rattle.zir_tree.specs.declared.expr.Expr.{Expr}
use Rattle.zir_tree.specs.declared.stmt.Var.{Var as Variable}
use Rattle.zir_tree.specs.declared.comp.Comp.{Comp}
use Rattle.zir_tree.specs.declared.comp.Comp as comp
use Rattle.zir_tree.specs.declared.comp.Link.{Link}
use Rattle.zir_tree.specs.declared.comp.Turning.{Turning}
use Rattle.zir_tree.specs.declared.comp.Comp.TheBlock.{shape-the_row-Comp-0, hidden-the_row-Comp-0, shape-the_row-Member-1, hidden-the_row-Member-1}
use Rattle.zir_tree.specs.declared.comp.Member.{Member, Bind, Var, Run}
use Rattle.zir_accept.specs.Variables.{in_blocks, of_members, first_name}
use Rattle.zir_accept.specs.Finding.{of_member}

-- the first name of two lists
pub name-append : (x : ℕ) (vs ws : List Variable) → first_name x (vs ++ ws) ≡ option_or (first_name x vs) (first_name x ws)
name-append x [] ws = refl
name-append x (v ∷ vs) ws =
    let name = Some v.name.name in
    let more = first_name x (vs ++ ws) in
    let rest = first_name x vs in
    elim (cases_Bool (nat_eq v.name.id x)) [
      | inl hit ↦ cond-true (nat_eq v.name.id x) name more hit ∙ ap (λ o. option_or o (first_name x ws)) (sym (cond-true (nat_eq v.name.id x) name rest hit))
      | inr miss ↦ cond-false (nat_eq v.name.id x) name more miss ∙ name-append x vs ws
          ∙ ap (λ o. option_or o (first_name x ws)) (sym (cond-false (nat_eq v.name.id x) name rest miss))
    ]

-- the name stands in the first of two lists
pub name_first : (o rest : Option (List ℕ)) (name : List ℕ) → o ≡ Some name → option_or o rest ≡ Some name
name_first o rest name h = ap (λ p. option_or p rest) h

-- the name does not stand in the first of two lists
pub name_next : (o rest : Option (List ℕ)) → o ≡ None → option_or o rest ≡ rest
name_next o rest h = ap (λ p. option_or p rest) h

-- what is left of a list begins with the item at its index
pub name_items : {X : Type 0} (x : ℕ) (f : X → List Variable) (xs : List X) (i : ℕ) (y : X) → i < length xs → y ≡ slice_index_or xs i y →
    first_name x (flat_map f (drop i xs)) ≡ option_or (first_name x (f y)) (first_name x (flat_map f (drop (i + 1) xs)))
name_items x f xs i y lt is =
    ap (λ l. first_name x (flat_map f l)) (drop_more xs i y lt ∙ ap (λ z. z ∷ drop (i + 1) xs) (sym is)) ∙ name-append x (f y) (flat_map f (drop (i + 1) xs))

-- the members of a block as a list
pub blocks-list : (ms : List Member) → of_members (hidden-the_row-Member-1 ms) ≡ flat_map of_member ms
unfolding shape-the_row-Member-1 hidden-the_row-Member-1 hidden
blocks-list [] = refl
blocks-list (Bind x c ∷ ms) = ap (λ vs. in_blocks c ++ vs) (blocks-list ms)
blocks-list (Var v ∷ ms) = ap (λ vs. v ∷ vs) (blocks-list ms)
blocks-list (Run c ∷ ms) = ap (λ vs. in_blocks c ++ vs) (blocks-list ms)

pub blocks-Repeat : (c : Comp) (at : Place) → in_blocks (comp.Repeat c at) ≡ in_blocks c
unfolding shape-the_row-Comp-0 hidden-the_row-Comp-0 hidden
blocks-Repeat c at = refl

pub blocks-While : (turning : Turning) (e : Expr) (c : Comp) (at : Place) → in_blocks (comp.While turning e c at) ≡ in_blocks c
unfolding shape-the_row-Comp-0 hidden-the_row-Comp-0 hidden
blocks-While turning e c at = refl

pub blocks-Times : (e : Expr) (c : Comp) (at : Place) → in_blocks (comp.Times e c at) ≡ in_blocks c
unfolding shape-the_row-Comp-0 hidden-the_row-Comp-0 hidden
blocks-Times e c at = refl

pub blocks-For : (x : Ident) (a n : Expr) (c : Comp) (at : Place) → in_blocks (comp.For x a n c at) ≡ in_blocks c
unfolding shape-the_row-Comp-0 hidden-the_row-Comp-0 hidden
blocks-For x a n c at = refl

pub blocks-If : (e : Expr) (c d : Comp) (at : Place) → in_blocks (comp.If e c d at) ≡ in_blocks c ++ in_blocks d
unfolding shape-the_row-Comp-0 hidden-the_row-Comp-0 hidden
blocks-If e c d at = refl

pub blocks-Block : (ms : List Member) (at : Place) → in_blocks (comp.Block ms at) ≡ flat_map of_member ms
blocks-Block ms at = blocks-list ms

pub blocks-Pipe : (link : Link) (c d : Comp) (at : Place) → in_blocks (comp.Pipe link c d at) ≡ in_blocks c ++ in_blocks d
unfolding shape-the_row-Comp-0 hidden-the_row-Comp-0 hidden
blocks-Pipe link c d at = refl
