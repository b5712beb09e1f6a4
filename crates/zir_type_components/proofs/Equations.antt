-- The equations of components at the trees that code has.
use Rattle.std.specs.Prelude.{◌≡◌, ℕ, List, [], ◌∷◌, Option, Some, None, refl}
use Rattle.std.proofs.Common.{ap, ◌∙◌, sym}
use denote.Hole.Carrier.{hidden}
use Rattle.zir_tree.specs.declared.ident.Ident.{Ident}
use Rattle.zir_tree.specs.declared.place.Place.{Place}
use Rattle.zir_tree.specs.declared.types.Ty.{Ty}
use Rattle.zir_tree.specs.declared.expr.Expr.{Expr}
use Rattle.zir_tree.specs.declared.comp.Turning.{Turning}
use Rattle.zir_tree.specs.declared.comp.Link.{Link}
use Rattle.zir_tree.specs.declared.comp.Comp.{Comp, Repeat, While, Times, For, If, Block, Pipe}
use Rattle.zir_tree.specs.declared.comp.Comp.TheBlock.{shape-the_row-Comp-0, hidden-the_row-Comp-0, shape-the_row-Member-1, hidden-the_row-Member-1}
use Rattle.zir_tree.specs.declared.comp.Member.{Member, Bind, Var, Run}
use Rattle.zir_tree.specs.declared.program.Instance.{Instance}
use Rattle.zir_types.specs.declared.error.TypeError.TheVariants.{NotComputer}
use Rattle.zir_types.specs.Walk.{Walk, Fine, and_then, check}
use Rattle.zir_types.specs.Scope.{Visible, declare, variable}
use Rattle.zir_types.specs.Expressions.{expr, unasked}
use Rattle.zir_types.specs.Statements.{var, seen_var, with_index}
use Rattle.zir_types.specs.Components.{Makers, Members, Reached, comp, members, repeat_of, while_of, times_of, for_of, if_of, link_type, pipe_of}
use Rattle.zir_types.specs.Components.{no_members, block_of, place_of, bound_at, with_comp, with_var, is_last, may_stand}
use Rattle.zir_types.proofs.Equations.{funext}
use Rattle.zir_type_components.specs.Blocks.{Stepped, members_of, name_in, bind_of, run_of, var_of, is_end}
use Rattle.zir_type_bodies.proofs.Sequences.{and_then-assoc}

pub comp-Repeat : (mk : Makers) (g : Visible) (n : ℕ) (a : Ty) (c : Comp) (p : Place) (is : List Instance) →
    comp mk g n a (Repeat c p) is ≡ and_then (comp mk g n a c is) (repeat_of p)
unfolding shape-the_row-Comp-0 hidden-the_row-Comp-0 hidden
comp-Repeat mk g n a c p is = refl

pub comp-While : (mk : Makers) (g : Visible) (n : ℕ) (a : Ty) (turning : Turning) (e : Expr) (c : Comp) (p : Place) (is : List Instance) →
    comp mk g n a (While turning e c p) is ≡ and_then (expr g unasked e) (λ t. and_then (comp mk g n a c is) (while_of turning p t))
unfolding shape-the_row-Comp-0 hidden-the_row-Comp-0 hidden
comp-While mk g n a turning e c p is = refl

pub comp-Times : (mk : Makers) (g : Visible) (n : ℕ) (a : Ty) (e : Expr) (c : Comp) (p : Place) (is : List Instance) →
    comp mk g n a (Times e c p) is ≡ and_then (expr g unasked e) (λ t. and_then (comp mk g n a c is) (times_of p t))
unfolding shape-the_row-Comp-0 hidden-the_row-Comp-0 hidden
comp-Times mk g n a e c p is = refl

pub comp-For : (mk : Makers) (g : Visible) (n : ℕ) (a : Ty) (x : Ident) (e f : Expr) (c : Comp) (p : Place) (is : List Instance) →
    comp mk g n a (For x e f c p) is ≡ and_then (expr g unasked e) (λ first. and_then (expr g unasked f) (λ turns.
    and_then (comp mk (with_index x g) n a c is) (for_of x p first turns)))
unfolding shape-the_row-Comp-0 hidden-the_row-Comp-0 hidden
comp-For mk g n a x e f c p is = refl

pub comp-If : (mk : Makers) (g : Visible) (n : ℕ) (a : Ty) (e : Expr) (c d : Comp) (p : Place) (is : List Instance) →
    comp mk g n a (If e c d p) is ≡ and_then (expr g unasked e) (λ t. and_then (comp mk g n a c is) (λ r. and_then (comp mk g n a d r.instances)
    (if_of p t r)))
unfolding shape-the_row-Comp-0 hidden-the_row-Comp-0 hidden
comp-If mk g n a e c d p is = refl

pub comp-Pipe : (mk : Makers) (g : Visible) (n : ℕ) (a : Ty) (link : Link) (c d : Comp) (p : Place) (is : List Instance) →
    comp mk g n a (Pipe link c d p) is ≡ and_then (comp mk g n a c is) (λ r. and_then (comp mk g n (link_type r.what.emits) d r.instances) (pipe_of link p r))
unfolding shape-the_row-Comp-0 hidden-the_row-Comp-0 hidden
comp-Pipe mk g n a link c d p is = refl

-- A bound component, and what follows it.
bind-after : (o : Option Ty) (g : Visible) (x : Ident) (p : Place) (done : Members) (r : Reached) (next : Visible → Members → Walk Members) →
    bound_at o p (λ t. next (declare (variable x.id t ∷ []) g) (with_comp done (Bind x r.what.what) r))
    ≡ and_then {A = Stepped} (and_then (name_in o g x p) (λ h. Fine (record { members = with_comp done (Bind x r.what.what) r; scope = h })))
    (λ s. next s.scope s.members)
bind-after None g x p done r next = refl
bind-after (Some t) g x p done r next = refl

-- The end of a row is the end of its list.
is-end : (ms : List Member) → is_last (hidden-the_row-Member-1 ms) ≡ is_end ms
unfolding shape-the_row-Member-1 hidden-the_row-Member-1 hidden
is-end [] = refl
is-end (m ∷ ms) = refl

-- The members of a row are those of its list.
pub members-list : (mk : Makers) (g : Visible) (n : ℕ) (a : Ty) (done : Members) (ms : List Member) →
    members mk g n a done (hidden-the_row-Member-1 ms) ≡ members_of mk g n a done ms
unfolding shape-the_row-Member-1 hidden-the_row-Member-1 hidden
members-list mk g n a done [] = refl
members-list mk g n a done ((Bind x c) ∷ ms) =
    ap (and_then (comp mk g n a c done.instances)) (funext _ _ (λ r.
    bind-after r.what.value g x (place_of c) done r (λ h d. members mk h n a d (hidden-the_row-Member-1 ms))
    ∙ ap (and_then (bind_of g x (place_of c) done r)) (funext _ _ (λ s. members-list mk s.scope n a s.members ms))))
    ∙ sym (and_then-assoc (comp mk g n a c done.instances) (bind_of g x (place_of c) done) (λ s. members_of mk s.scope n a s.members ms))
members-list mk g n a done ((Var v) ∷ ms) =
    ap (and_then (var g v)) (funext _ _ (λ t. members-list mk (declare (seen_var t) g) n a (with_var done t) ms))
    ∙ sym (and_then-assoc (var g v) (var_of g done) (λ s. members_of mk s.scope n a s.members ms))
members-list mk g n a done ((Run c) ∷ ms) =
    ap (and_then (comp mk g n a c done.instances)) (funext _ _ (λ r.
    ap (λ b. and_then (check (may_stand b r.what.value) (NotComputer (place_of c)) r)
    (λ r. members mk g n a (with_comp done (Run r.what.what) r) (hidden-the_row-Member-1 ms))) (is-end ms)
    ∙ ap (and_then (check (may_stand (is_end ms) r.what.value) (NotComputer (place_of c)) r))
    (funext _ _ (λ r. members-list mk g n a (with_comp done (Run r.what.what) r) ms))
    ∙ sym (and_then-assoc {B = Stepped} (check (may_stand (is_end ms) r.what.value) (NotComputer (place_of c)) r)
    (λ r. Fine (record { members = with_comp done (Run r.what.what) r; scope = g })) (λ s. members_of mk s.scope n a s.members ms))))
    ∙ sym (and_then-assoc (comp mk g n a c done.instances) (run_of g (is_end ms) (place_of c) done) (λ s. members_of mk s.scope n a s.members ms))

pub comp-Block : (mk : Makers) (g : Visible) (n : ℕ) (a : Ty) (ms : List Member) (p : Place) (is : List Instance) →
    comp mk g n a (Block ms p) is ≡ and_then (members_of mk g n a (no_members is) ms) (block_of p)
comp-Block mk g n a ms p is = ap (λ w. and_then w (block_of p)) (members-list mk g n a (no_members is) ms)
