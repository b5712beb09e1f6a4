-- The equations of components at the trees that code has.
use Rattle.std.specs.Prelude.{◌≡◌, List, [], ◌∷◌, Result, refl}
use Rattle.std.proofs.Common.{ap, ◌∙◌, sym, subst, IsErrAnd}
use denote.Hole.Carrier.{hidden}
use Rattle.zir_tree.specs.declared.ident.Ident.{Ident}
use Rattle.zir_tree.specs.declared.place.Place.{Place}
use Rattle.zir_tree.specs.declared.expr.Expr.{Expr}
use Rattle.zir_tree.specs.declared.comp.Turning.{Turning}
use Rattle.zir_tree.specs.declared.comp.Link.{Link}
use Rattle.zir_tree.specs.declared.comp.Comp.{Comp, Repeat, While, Times, For, If, Block, Pipe}
use Rattle.zir_tree.specs.declared.comp.Comp.TheBlock.{shape-the_row-Comp-0, hidden-the_row-Comp-0, shape-the_row-Member-1, hidden-the_row-Member-1}
use Rattle.zir_tree.specs.declared.comp.Member.{Member, Bind}
use Rattle.zir_names.specs.declared.error.NameError.{NameError}
use Rattle.zir_names.specs.declared.scope.Kind.TheVariants as kind
use Rattle.zir_names.specs.Walk.{Walk, and_then, Refuses}
use Rattle.zir_names.specs.Scope.{Seen, Done, done, closed, numbered, counted, opened, ToldIn}
use Rattle.zir_names.proofs.Told.{told_in_err, done_made, done_seen}
use Rattle.zir_names.specs.Expressions.{expr}
use Rattle.zir_names.specs.Statements.{in_turn, indexed}
use Rattle.zir_names.specs.Components.{comp, member, members}
use Rattle.zir_names.proofs.StatementEquations.{funext}

pub comp-Repeat : (seen : Seen) (c : Comp) (at : Place) → comp seen (Repeat c at) ≡ and_then (comp seen c) (λ c'. done (Repeat c'.made at) c'.seen)
unfolding shape-the_row-Comp-0 hidden-the_row-Comp-0 hidden
comp-Repeat seen c at = refl

pub comp-While : (seen : Seen) (turning : Turning) (e : Expr) (c : Comp) (at : Place) →
    comp seen (While turning e c at) ≡ and_then (expr seen e) (λ e'. and_then (comp seen c) (λ c'. done (While turning e' c'.made at) c'.seen))
unfolding shape-the_row-Comp-0 hidden-the_row-Comp-0 hidden
comp-While seen turning e c at = refl

pub comp-Times : (seen : Seen) (e : Expr) (c : Comp) (at : Place) →
    comp seen (Times e c at) ≡ and_then (expr seen e) (λ e'. and_then (comp seen c) (λ c'. done (Times e' c'.made at) c'.seen))
unfolding shape-the_row-Comp-0 hidden-the_row-Comp-0 hidden
comp-Times seen e c at = refl

pub comp-For : (seen : Seen) (x : Ident) (a n : Expr) (c : Comp) (at : Place) →
    comp seen (For x a n c at) ≡ and_then (expr seen a) (λ a'. and_then (expr seen n) (λ n'. and_then (closed seen (comp (indexed seen x) c)) (λ c'.
    done (For (numbered seen x) a' n' c'.made at) c'.seen)))
unfolding shape-the_row-Comp-0 hidden-the_row-Comp-0 hidden
comp-For seen x a n c at = refl

pub comp-If : (seen : Seen) (e : Expr) (c d : Comp) (at : Place) →
    comp seen (If e c d at) ≡ and_then (expr seen e) (λ e'. and_then (comp seen c) (λ c'. and_then (comp c'.seen d) (λ d'.
    done (If e' c'.made d'.made at) d'.seen)))
unfolding shape-the_row-Comp-0 hidden-the_row-Comp-0 hidden
comp-If seen e c d at = refl

pub comp-Pipe : (seen : Seen) (link : Link) (c d : Comp) (at : Place) →
    comp seen (Pipe link c d at) ≡ and_then (comp seen c) (λ c'. and_then (comp c'.seen d) (λ d'. done (Pipe link c'.made d'.made at) d'.seen))
unfolding shape-the_row-Comp-0 hidden-the_row-Comp-0 hidden
comp-Pipe seen link c d at = refl

-- one member and a row after it
abbrev then_members : Walk (Done Member) → (Done Member → Walk (Done (List Member))) → Walk (Done (List Member))
then_members first rest = and_then first (λ m. and_then (rest m) (λ ms. done (m.made ∷ ms.made) ms.seen))

-- the members of a list
pub members-list : (seen : Seen) (ms : List Member) → members seen (hidden-the_row-Member-1 ms) ≡ in_turn member seen ms
unfolding shape-the_row-Member-1 hidden-the_row-Member-1 hidden
members-list seen [] = refl
members-list seen (m ∷ ms) = ap (then_members (member seen m)) (funext _ _ (λ d. members-list d.seen ms))

pub comp-Block : (seen : Seen) (ms : List Member) (at : Place) →
    comp seen (Block ms at) ≡ and_then (closed seen (in_turn member seen ms)) (λ ms'. done (Block ms'.made at) ms'.seen)
comp-Block seen ms at = ap (λ w. and_then (closed seen w) (λ ms'. done (Block ms'.made at) ms'.seen)) (members-list seen ms)

-- a refusal in the component of a bound name
pub bind_err : (seen : Seen) (x : Ident) (c : Comp) (x' : Ident) (s1 now : Seen) (e : NameError) (r : Result Member NameError) →
    done (numbered seen x) (counted seen) ≡ done x' s1 → IsErrAnd r (λ y. y ≡ e) → Refuses (comp s1 c) e → ToldIn (member seen (Bind x c)) r now
bind_err seen x c x' s1 now e r h1 is h =
    told_in_err (comp (counted seen) c) _ e r now is (subst (λ v. Refuses (comp v c) e) (sym (done_seen (numbered seen x) x' (counted seen) s1 h1)) h)

-- what the code has shown of a bound name
pub bind_made : (seen : Seen) (x : Ident) (c : Comp) (x' : Ident) (c' c'' : Comp) (s1 s2 now : Seen) →
    done (numbered seen x) (counted seen) ≡ done x' s1 → comp s1 c ≡ done c' s2 → now ≡ opened kind.Fixed x' s2 → c'' ≡ c' →
    member seen (Bind x c) ≡ done (Bind x' c'') now
bind_made seen x c x' c' c'' s1 s2 now h1 h2 after same =
    let en : numbered seen x ≡ x' = done_made (numbered seen x) x' (counted seen) s1 h1 in
    let ec : comp (counted seen) c ≡ done c' s2 = ap (λ v. comp v c) (done_seen (numbered seen x) x' (counted seen) s1 h1) ∙ h2 in
    rw ec (ap (λ y. done (Bind y c') (opened kind.Fixed y s2)) en ∙ ap (done (Bind x' c')) (sym after) ∙ ap (λ d. done (Bind x' d) now) (sym same))
