-- Each form of a component, from what the code has shown of its parts.
use Rattle.std.specs.Prelude.{◌≡◌, ℕ, ◌≤◌, Bool, List, [], ◌∷◌, length, drop, true, Option, Some, None, Result, refl}
use Rattle.std.proofs.Common.{ap, ◌∙◌, sym, subst, IsErrAnd}
use Rattle.std.proofs.lemmas.Result.{err_from_is_err_and}
use Rattle.zir_tree.specs.declared.ident.Ident.{Ident}
use Rattle.zir_tree.specs.declared.place.Place.{Place}
use Rattle.zir_tree.specs.declared.types.Ty.{Ty}
use Rattle.zir_tree.specs.declared.expr.Expr.{Expr}
use Rattle.zir_tree.specs.declared.comp.Turning.{Turning}
use Rattle.zir_tree.specs.declared.comp.Link.{Link}
use Rattle.zir_tree.specs.declared.comp.Comp.{Comp, Repeat, While, Times, For, If, Block, Pipe}
use Rattle.zir_tree.specs.declared.comp.Member.{Member, Bind, Run}
use Rattle.zir_tree.specs.declared.program.Instance.{Instance}
use Rattle.zir_types.specs.declared.error.TypeError.{TypeError}
use Rattle.zir_types.specs.declared.typed.Typed.{Typed}
use Rattle.zir_types.specs.declared.typed.TypedComp.{TypedComp}
use Rattle.zir_types.specs.declared.error.TypeError.TheVariants.{NotComputer}
use Rattle.zir_types.specs.Walk.{Walk, Fine, and_then, check, Refuses}
use Rattle.zir_types.specs.declared.typed.TypedVar.{TypedVar}
use Rattle.zir_types.specs.declared.scope.Seen.{Seen}
use Rattle.zir_types.specs.Scope.{Visible, declare, variable}
use Rattle.zir_types.specs.Expressions.{expr, unasked}
use Rattle.zir_types.specs.Statements.{with_index, seen_var}
use Rattle.zir_types.specs.Components.{Makers, Members, Reached, comp, place_of, repeat_of, while_of, times_of, for_of, if_of, link_type, pipe_of}
use Rattle.zir_types.specs.Components.{no_members, may_stand, block_of, with_var, with_comp}
use Rattle.zir_types.specs.Programs.{makers}
use Rattle.zir_type_components.specs.declared.comps.Site.{Site}
use Rattle.zir_type_components.specs.declared.rules.Gathered.{Gathered}
use Rattle.zir_type_components.specs.declared.rules.Part.{Part}
use Rattle.zir_type_components.specs.Answers.{ToldOf, ToldIn, up_to}
use Rattle.zir_type_components.specs.Parts.{ToldPart, typed_of, part_at}
use Rattle.zir_type_components.specs.Calls.{makers_at, walk_at}
use Rattle.zir_type_components.specs.Blocks.{Stepped, ToldStep, ToldMembers, is_end, gathered_at, member, members_of, name_in, bind_of, run_of, var_of}
use Rattle.zir_type_components.proofs.Equations.{comp-Repeat, comp-While, comp-Times, comp-For, comp-If, comp-Block, comp-Pipe}
use Rattle.zir_type_components.proofs.Members.{step_ok, bound_told, run_told, one_more, one_err}
use Rattle.zir_type_components.proofs.Reaching.{reach_err, step_err, in_scope}
use Rattle.zir_type_components.proofs.Scopes.{up_to-seam, same_top, still_left}
use Rattle.zir_type_components.proofs.Parts.{reach_ok, expr_err, expr_ok, part_fine, part_err, block_left}

-- A component that was typed, behind these instances.
abbrev pub reached_at : TypedComp → List Instance → Reached
reached_at made is = record { what = made; instances = is }

-- A walk by another name.
named : (whole walk : Walk Reached) (r : Result TypedComp TypeError) (js : List Instance) (b z : Visible) → whole ≡ walk → ToldIn walk r js b z →
    ToldIn whole r js b z
named whole walk r js b z h t = subst (λ w. ToldIn w r js b z) (sym h) t

-- What a walk refuses is refused of a part.
pub part_refused : (walk : Walk Reached) (x : TypeError) (r : Result Part TypeError) (js : List Instance) (b z : Visible) → IsErrAnd r (λ y. y ≡ x) →
    Refuses walk x → ToldPart walk r js b z
part_refused walk x r js b z err h =
    let p = err_from_is_err_and r err in
    subst (λ v. ToldPart walk v js b z) (sym p.1) (subst (λ y. Refuses walk y) (sym p.2) h)

-- A walk makes the component that a part is.
pub part_made : (walk : Walk Reached) (part : Part) (made : TypedComp) (js : List Instance) → typed_of part ≡ made → walk ≡ Fine (reached_at made js) →
    walk ≡ Fine (part_at part js)
part_made walk part made js e q = subst (λ v. walk ≡ Fine (reached_at v js)) (sym e) q

-- A part that was made is the component that it holds.
pub part_opened : (walk : Walk Reached) (part : Part) (made : TypedComp) (js : List Instance) → made ≡ typed_of part → walk ≡ Fine (part_at part js) →
    walk ≡ Fine (reached_at made js)
part_opened walk part made js e q = subst (λ v. walk ≡ Fine (reached_at v js)) (sym e) q

-- The condition or the count of a `while` is refused.
pub while_refused : (s : Site) (g : Visible) (a : Ty) (turning : Turning) (e : Expr) (c : Comp) (p : Place) (is : List Instance) (v : Ty) (x : TypeError)
    (r : Result TypedComp TypeError) (js : List Instance) (b z : Visible) → v ≡ unasked →
    IsErrAnd r (λ y. y ≡ x) → Refuses (expr g v e) x → ToldIn (walk_at s g a (While turning e c p) is) r js b z
while_refused s g a turning e c p is v x r js b z hv err h =
    named (walk_at s g a (While turning e c p) is) (and_then (expr g unasked e) (λ t. and_then (walk_at s g a c is) (while_of turning p t))) r js b z
    (comp-While (makers_at s g) g s.around a turning e c p is)
    (expr_err g v e (λ t. and_then (walk_at s g a c is) (while_of turning p t)) x r js b z hv err h)

-- The body of a `while` is refused.
pub while_body_refused : (s : Site) (g : Visible) (a : Ty) (turning : Turning) (e : Expr) (c : Comp) (p : Place) (is : List Instance) (v : Ty) (t : Typed)
    (x : TypeError) (r : Result TypedComp TypeError) (js : List Instance) (b z : Visible) → v ≡ unasked →
    expr g v e ≡ Fine t → IsErrAnd r (λ y. y ≡ x) → Refuses (walk_at s g a c is) x → ToldIn (walk_at s g a (While turning e c p) is) r js b z
while_body_refused s g a turning e c p is v t x r js b z hv q err h =
    named (walk_at s g a (While turning e c p) is) (and_then (expr g unasked e) (λ t. and_then (walk_at s g a c is) (while_of turning p t))) r js b z
    (comp-While (makers_at s g) g s.around a turning e c p is)
    (expr_ok g v e (λ t. and_then (walk_at s g a c is) (while_of turning p t)) t r js b z hv q (reach_err (walk_at s g a c is) (while_of turning p t) x r js
    b z err h))

-- A `while` is typed.
pub while_typed : (s : Site) (g : Visible) (a : Ty) (turning : Turning) (e : Expr) (c : Comp) (p : Place) (is : List Instance) (v : Ty) (t : Typed)
    (made : TypedComp) (r : Result TypedComp TypeError) (js : List Instance) (z : Visible) →
    v ≡ unasked → expr g v e ≡ Fine t → walk_at s g a c is ≡ Fine (reached_at made js) → z ≡ g →
    ((ks : List Instance) → ToldOf (while_of turning p t (reached_at made ks)) r ks) → ToldIn (walk_at s g a (While turning e c p) is) r js g z
while_typed s g a turning e c p is v t made r js z hv q w same told =
    named (walk_at s g a (While turning e c p) is) (and_then (expr g unasked e) (λ t. and_then (walk_at s g a c is) (while_of turning p t))) r js g z
    (comp-While (makers_at s g) g s.around a turning e c p is)
    (expr_ok g v e (λ t. and_then (walk_at s g a c is) (while_of turning p t)) t r js g z hv q (reach_ok (walk_at s g a c is) (while_of turning p t)
    (reached_at made js) r js g z w
    (in_scope (while_of turning p t (reached_at made js)) r js g z (told js) same)))

-- The condition or the count of a `times` is refused.
pub times_refused : (s : Site) (g : Visible) (a : Ty) (e : Expr) (c : Comp) (p : Place) (is : List Instance) (v : Ty) (x : TypeError)
    (r : Result TypedComp TypeError) (js : List Instance) (b z : Visible) → v ≡ unasked →
    IsErrAnd r (λ y. y ≡ x) → Refuses (expr g v e) x → ToldIn (walk_at s g a (Times e c p) is) r js b z
times_refused s g a e c p is v x r js b z hv err h =
    named (walk_at s g a (Times e c p) is) (and_then (expr g unasked e) (λ t. and_then (walk_at s g a c is) (times_of p t))) r js b z
    (comp-Times (makers_at s g) g s.around a e c p is)
    (expr_err g v e (λ t. and_then (walk_at s g a c is) (times_of p t)) x r js b z hv err h)

-- The body of a `times` is refused.
pub times_body_refused : (s : Site) (g : Visible) (a : Ty) (e : Expr) (c : Comp) (p : Place) (is : List Instance) (v : Ty) (t : Typed) (x : TypeError)
    (r : Result TypedComp TypeError) (js : List Instance) (b z : Visible) → v ≡ unasked →
    expr g v e ≡ Fine t → IsErrAnd r (λ y. y ≡ x) → Refuses (walk_at s g a c is) x → ToldIn (walk_at s g a (Times e c p) is) r js b z
times_body_refused s g a e c p is v t x r js b z hv q err h =
    named (walk_at s g a (Times e c p) is) (and_then (expr g unasked e) (λ t. and_then (walk_at s g a c is) (times_of p t))) r js b z
    (comp-Times (makers_at s g) g s.around a e c p is)
    (expr_ok g v e (λ t. and_then (walk_at s g a c is) (times_of p t)) t r js b z hv q (reach_err (walk_at s g a c is) (times_of p t) x r js b z err h))

-- A `times` is typed.
pub times_typed : (s : Site) (g : Visible) (a : Ty) (e : Expr) (c : Comp) (p : Place) (is : List Instance) (v : Ty) (t : Typed) (made : TypedComp)
    (r : Result TypedComp TypeError) (js : List Instance) (z : Visible) →
    v ≡ unasked → expr g v e ≡ Fine t → walk_at s g a c is ≡ Fine (reached_at made js) → z ≡ g →
    ((ks : List Instance) → ToldOf (times_of p t (reached_at made ks)) r ks) → ToldIn (walk_at s g a (Times e c p) is) r js g z
times_typed s g a e c p is v t made r js z hv q w same told =
    named (walk_at s g a (Times e c p) is) (and_then (expr g unasked e) (λ t. and_then (walk_at s g a c is) (times_of p t))) r js g z
    (comp-Times (makers_at s g) g s.around a e c p is)
    (expr_ok g v e (λ t. and_then (walk_at s g a c is) (times_of p t)) t r js g z hv q (reach_ok (walk_at s g a c is) (times_of p t) (reached_at made js) r
    js g z w
    (in_scope (times_of p t (reached_at made js)) r js g z (told js) same)))

-- The body of a `repeat` is refused.
pub repeat_refused : (s : Site) (g : Visible) (a : Ty) (c1 c : Comp) (p : Place) (is : List Instance) (x : TypeError) (r : Result TypedComp TypeError)
    (js : List Instance) (b z : Visible) → c1 ≡ c → IsErrAnd r (λ y. y ≡ x) →
    Refuses (walk_at s g a c1 is) x → ToldIn (walk_at s g a (Repeat c p) is) r js b z
repeat_refused s g a c1 c p is x r js b z hc err h =
    named (walk_at s g a (Repeat c p) is) (and_then (walk_at s g a c is) (repeat_of p)) r js b z (comp-Repeat (makers_at s g) g s.around a c p is)
    (reach_err (walk_at s g a c is) (repeat_of p) x r js b z err (subst (λ d. Refuses (walk_at s g a d is) x) hc h))

-- A `repeat` is typed.
pub repeat_typed : (s : Site) (g : Visible) (a : Ty) (c1 c : Comp) (p : Place) (is : List Instance) (made : TypedComp) (r : Result TypedComp TypeError)
    (js : List Instance) (z : Visible) →
    c1 ≡ c → walk_at s g a c1 is ≡ Fine (reached_at made js) → z ≡ g → ((ks : List Instance) → ToldOf (repeat_of p (reached_at made ks)) r ks) →
    ToldIn (walk_at s g a (Repeat c p) is) r js g z
repeat_typed s g a c1 c p is made r js z hc w same told =
    named (walk_at s g a (Repeat c p) is) (and_then (walk_at s g a c is) (repeat_of p)) r js g z (comp-Repeat (makers_at s g) g s.around a c p is)
    (reach_ok (walk_at s g a c is) (repeat_of p) (reached_at made js) r js g z (ap (λ d. walk_at s g a d is) (sym hc) ∙ w)
    (in_scope (repeat_of p (reached_at made js)) r js g z (told js) same))

-- The condition of an `if` is refused.
pub if_refused : (s : Site) (g : Visible) (a : Ty) (e : Expr) (c d : Comp) (p : Place) (is : List Instance) (v : Ty) (x : TypeError)
    (r : Result TypedComp TypeError) (js : List Instance) (b z : Visible) → v ≡ unasked → IsErrAnd r (λ y. y ≡ x) →
    Refuses (expr g v e) x → ToldIn (walk_at s g a (If e c d p) is) r js b z
if_refused s g a e c d p is v x r js b z hv err h =
    named (walk_at s g a (If e c d p) is) (and_then (expr g unasked e) (λ t. and_then (walk_at s g a c is) (λ r. and_then (walk_at s g a d r.instances)
    (if_of p t r)))) r js b z (comp-If (makers_at s g) g s.around a e c d p is)
    (expr_err g v e (λ t. and_then (walk_at s g a c is) (λ r. and_then (walk_at s g a d r.instances) (if_of p t r))) x r js b z hv err h)

-- The first branch of an `if` is refused.
pub if_first_refused : (s : Site) (g : Visible) (a : Ty) (e : Expr) (c d : Comp) (p : Place) (is : List Instance) (v : Ty) (t : Typed) (x : TypeError)
    (r : Result TypedComp TypeError) (js : List Instance) (b z : Visible) → v ≡ unasked →
    expr g v e ≡ Fine t → IsErrAnd r (λ y. y ≡ x) → Refuses (walk_at s g a c is) x → ToldIn (walk_at s g a (If e c d p) is) r js b z
if_first_refused s g a e c d p is v t x r js b z hv q err h =
    named (walk_at s g a (If e c d p) is) (and_then (expr g unasked e) (λ t. and_then (walk_at s g a c is) (λ r. and_then (walk_at s g a d r.instances)
    (if_of p t r)))) r js b z (comp-If (makers_at s g) g s.around a e c d p is)
    (expr_ok g v e (λ t. and_then (walk_at s g a c is) (λ r. and_then (walk_at s g a d r.instances) (if_of p t r))) t r js b z hv q
    (reach_err (walk_at s g a c is) (λ r. and_then (walk_at s g a d r.instances) (if_of p t r)) x r js b z err h))

-- The branches of an `if` behind the first, which is typed.
if_behind : (s : Site) (g : Visible) (a : Ty) (e : Expr) (c d : Comp) (p : Place) (is : List Instance) (v : Ty) (t : Typed) (made : TypedComp)
    (ks : List Instance) (r : Result TypedComp TypeError) (js : List Instance) (b z : Visible) →
    v ≡ unasked → expr g v e ≡ Fine t → walk_at s g a c is ≡ Fine (reached_at made ks) →
    ToldIn (and_then (walk_at s g a d ks) (if_of p t (reached_at made ks))) r js b z → ToldIn (walk_at s g a (If e c d p) is) r js b z
if_behind s g a e c d p is v t made ks r js b z hv q w told =
    named (walk_at s g a (If e c d p) is) (and_then (expr g unasked e) (λ t. and_then (walk_at s g a c is) (λ r. and_then (walk_at s g a d r.instances)
    (if_of p t r)))) r js b z (comp-If (makers_at s g) g s.around a e c d p is)
    (expr_ok g v e (λ t. and_then (walk_at s g a c is) (λ r. and_then (walk_at s g a d r.instances) (if_of p t r))) t r js b z hv q
    (reach_ok (walk_at s g a c is) (λ r. and_then (walk_at s g a d r.instances) (if_of p t r)) (reached_at made ks) r js b z w told))

-- The second branch of an `if` is refused.
pub if_second_refused : (s : Site) (g : Visible) (a : Ty) (e : Expr) (c d : Comp) (p : Place) (is : List Instance) (v : Ty) (t : Typed) (made : TypedComp)
    (ks : List Instance) (g1 : Visible) (x : TypeError) (r : Result TypedComp TypeError) (js : List Instance) (b z : Visible) →
    v ≡ unasked → expr g v e ≡ Fine t → walk_at s g a c is ≡ Fine (reached_at made ks) → g1 ≡ g → IsErrAnd r (λ y. y ≡ x) →
    Refuses (walk_at s g1 a d ks) x → ToldIn (walk_at s g a (If e c d p) is) r js b z
if_second_refused s g a e c d p is v t made ks g1 x r js b z hv q w same err h =
    if_behind s g a e c d p is v t made ks r js b z hv q w
    (reach_err (walk_at s g a d ks) (if_of p t (reached_at made ks)) x r js b z err (subst (λ k. Refuses (walk_at s k a d ks) x) same h))

-- An `if` is typed.
pub if_typed : (s : Site) (g : Visible) (a : Ty) (e : Expr) (c d : Comp) (p : Place) (is : List Instance) (v : Ty) (t : Typed) (made other : TypedComp)
    (ks : List Instance) (g1 : Visible) (r : Result TypedComp TypeError) (js : List Instance) (z : Visible) →
    v ≡ unasked → expr g v e ≡ Fine t → walk_at s g a c is ≡ Fine (reached_at made ks) → g1 ≡ g → walk_at s g1 a d ks ≡ Fine (reached_at other js) → z ≡ g1 →
    ((ls ms : List Instance) → ToldOf (if_of p t (reached_at made ls) (reached_at other ms)) r ms) → ToldIn (walk_at s g a (If e c d p) is) r js g z
if_typed s g a e c d p is v t made other ks g1 r js z hv q w same u last told =
    if_behind s g a e c d p is v t made ks r js g z hv q w
    (reach_ok (walk_at s g a d ks) (if_of p t (reached_at made ks)) (reached_at other js) r js g z (ap (λ k. walk_at s k a d ks) (sym same) ∙ u)
    (in_scope (if_of p t (reached_at made ks) (reached_at other js)) r js g z (told ks js) (last ∙ same)))

-- The left side of a link is refused.
pub pipe_left_refused : (s : Site) (g : Visible) (a : Ty) (link : Link) (c1 c d : Comp) (p : Place) (is : List Instance) (x : TypeError)
    (r : Result TypedComp TypeError) (js : List Instance) (b z : Visible) → c1 ≡ c → IsErrAnd r (λ y. y ≡ x) →
    Refuses (walk_at s g a c1 is) x → ToldIn (walk_at s g a (Pipe link c d p) is) r js b z
pipe_left_refused s g a link c1 c d p is x r js b z hc err h =
    named (walk_at s g a (Pipe link c d p) is) (and_then (walk_at s g a c is) (λ r. and_then (walk_at s g (link_type r.what.emits) d r.instances)
    (pipe_of link p r))) r js b z (comp-Pipe (makers_at s g) g s.around a link c d p is)
    (reach_err (walk_at s g a c is) (λ r. and_then (walk_at s g (link_type r.what.emits) d r.instances) (pipe_of link p r)) x r js b z err
    (subst (λ k. Refuses (walk_at s g a k is) x) hc h))

-- The right side of a link behind the left one, which is typed.
pipe_behind : (s : Site) (g : Visible) (a : Ty) (link : Link) (c1 c d : Comp) (p : Place) (is : List Instance) (made : TypedComp) (ks : List Instance)
    (r : Result TypedComp TypeError)
    (js : List Instance) (b z : Visible) → c1 ≡ c → walk_at s g a c1 is ≡ Fine (reached_at made ks) →
    ToldIn (and_then (walk_at s g (link_type made.emits) d ks) (pipe_of link p (reached_at made ks))) r js b z → ToldIn (walk_at s g a (Pipe link c d p) is)
    r js b z
pipe_behind s g a link c1 c d p is made ks r js b z hc w told =
    named (walk_at s g a (Pipe link c d p) is) (and_then (walk_at s g a c is) (λ r. and_then (walk_at s g (link_type r.what.emits) d r.instances)
    (pipe_of link p r))) r js b z (comp-Pipe (makers_at s g) g s.around a link c d p is)
    (reach_ok (walk_at s g a c is) (λ r. and_then (walk_at s g (link_type r.what.emits) d r.instances) (pipe_of link p r)) (reached_at made ks) r js b z
    (ap (λ k. walk_at s g a k is) (sym hc) ∙ w) told)

-- The right side of a link is refused.
pub pipe_right_refused : (s : Site) (g : Visible) (a : Ty) (link : Link) (c1 c d1 d : Comp) (p : Place) (is : List Instance) (made : TypedComp)
    (ks : List Instance) (g1 : Visible) (a1 : Ty) (x : TypeError) (r : Result TypedComp TypeError) (js : List Instance) (b z : Visible) → c1 ≡ c →
    walk_at s g a c1 is ≡ Fine (reached_at made ks) → g1 ≡ g → a1 ≡ link_type made.emits → d1 ≡ d → IsErrAnd r (λ y. y ≡ x) →
    Refuses (walk_at s g1 a1 d1 ks) x → ToldIn (walk_at s g a (Pipe link c d p) is) r js b z
pipe_right_refused s g a link c1 c d1 d p is made ks g1 a1 x r js b z hc w same ha hd err h =
    pipe_behind s g a link c1 c d p is made ks r js b z hc w
    (reach_err (walk_at s g (link_type made.emits) d ks) (pipe_of link p (reached_at made ks)) x r js b z err
    (part_err s g1 g a1 (link_type made.emits) d1 d ks x same ha hd h))

-- A link is typed.
pub pipe_typed : (s : Site) (g : Visible) (a : Ty) (link : Link) (c1 c d1 d : Comp) (p : Place) (is : List Instance) (made other : TypedComp)
    (ks : List Instance) (g1 : Visible) (a1 : Ty) (r : Result TypedComp TypeError) (js : List Instance) (z : Visible) →
    c1 ≡ c → walk_at s g a c1 is ≡ Fine (reached_at made ks) → g1 ≡ g → a1 ≡ link_type made.emits → d1 ≡ d →
    walk_at s g1 a1 d1 ks ≡ Fine (reached_at other js) → z ≡ g1 →
    ((ls ms : List Instance) → ToldOf (pipe_of link p (reached_at made ls) (reached_at other ms)) r ms) → ToldIn (walk_at s g a (Pipe link c d p) is) r js g z
pipe_typed s g a link c1 c d1 d p is made other ks g1 a1 r js z hc w same ha hd u last told =
    pipe_behind s g a link c1 c d p is made ks r js g z hc w
    (reach_ok (walk_at s g (link_type made.emits) d ks) (pipe_of link p (reached_at made ks)) (reached_at other js) r js g z
    (part_fine s g1 g a1 (link_type made.emits) d1 d ks (reached_at other js) same ha hd u)
    (in_scope (pipe_of link p (reached_at made ks) (reached_at other js)) r js g z (told ks js) (last ∙ same)))

-- The start of a `for` is refused.
pub for_refused : (s : Site) (g : Visible) (a : Ty) (x : Ident) (e f : Expr) (c : Comp) (p : Place) (is : List Instance) (v : Ty) (y : TypeError)
    (r : Result TypedComp TypeError) (js : List Instance) (b z : Visible) → v ≡ unasked → IsErrAnd r (λ q. q ≡ y) →
    Refuses (expr g v e) y → ToldIn (walk_at s g a (For x e f c p) is) r js b z
for_refused s g a x e f c p is v y r js b z hv err h =
    named (walk_at s g a (For x e f c p) is) (and_then (expr g unasked e) (λ first. and_then (expr g unasked f)
    (λ turns. and_then (comp (makers_at s g) (with_index x g) s.around a c is) (for_of x p first turns)))) r js b z (comp-For (makers_at s g) g s.around a x
    e f c p is)
    (expr_err g v e (λ first. and_then (expr g unasked f) (λ turns. and_then (comp (makers_at s g) (with_index x g) s.around a c is)
    (for_of x p first turns))) y r js b z hv err h)

-- The count of a `for` behind its start, which is typed.
for_behind : (s : Site) (g : Visible) (a : Ty) (x : Ident) (e f : Expr) (c : Comp) (p : Place) (is : List Instance) (v : Ty) (first : Typed)
    (r : Result TypedComp TypeError) (js : List Instance) (b z : Visible) → v ≡ unasked → expr g v e ≡ Fine first →
    ToldIn (and_then (expr g unasked f) (λ turns. and_then (comp (makers_at s g) (with_index x g) s.around a c is) (for_of x p first turns))) r js b z →
    ToldIn (walk_at s g a (For x e f c p) is) r js b z
for_behind s g a x e f c p is v first r js b z hv q told =
    named (walk_at s g a (For x e f c p) is) (and_then (expr g unasked e) (λ first. and_then (expr g unasked f)
    (λ turns. and_then (comp (makers_at s g) (with_index x g) s.around a c is) (for_of x p first turns)))) r js b z (comp-For (makers_at s g) g s.around a x
    e f c p is)
    (expr_ok g v e (λ first. and_then (expr g unasked f) (λ turns. and_then (comp (makers_at s g) (with_index x g) s.around a c is)
    (for_of x p first turns))) first r js b z hv q told)

-- The count of a `for` is refused.
pub for_count_refused : (s : Site) (g : Visible) (a : Ty) (x : Ident) (e f : Expr) (c : Comp) (p : Place) (is : List Instance) (v : Ty) (w : Ty)
    (first : Typed) (y : TypeError) (r : Result TypedComp TypeError) (js : List Instance) (b z : Visible) → v ≡ unasked → expr g v e ≡ Fine first →
    w ≡ unasked →
    IsErrAnd r (λ q. q ≡ y) → Refuses (expr g w f) y → ToldIn (walk_at s g a (For x e f c p) is) r js b z
for_count_refused s g a x e f c p is v w first y r js b z hv q hw err h =
    for_behind s g a x e f c p is v first r js b z hv q (expr_err g w f (λ turns. and_then (comp (makers_at s g) (with_index x g) s.around a c is)
    (for_of x p first turns)) y r js b z hw err h)

-- The body of a `for` is refused.
pub for_body_refused : (s : Site) (g : Visible) (a : Ty) (x : Ident) (e f : Expr) (c : Comp) (p : Place) (is : List Instance) (v : Ty) (w : Ty)
    (first turns : Typed) (y : TypeError) (r : Result TypedComp TypeError) (js : List Instance) (b z : Visible) → v ≡ unasked → expr g v e ≡ Fine first →
    w ≡ unasked → expr g w f ≡ Fine turns → IsErrAnd r (λ q. q ≡ y) → Refuses (comp (makers_at s g) (with_index x g) s.around a c is) y →
    ToldIn (walk_at s g a (For x e f c p) is) r js b z
for_body_refused s g a x e f c p is v w first turns y r js b z hv q hw k err h =
    for_behind s g a x e f c p is v first r js b z hv q
    (expr_ok g w f (λ turns. and_then (comp (makers_at s g) (with_index x g) s.around a c is) (for_of x p first turns)) turns r js b z hw k
    (reach_err (comp (makers_at s g) (with_index x g) s.around a c is) (for_of x p first turns) y r js b z err h))

-- A `for` is typed.
pub for_loop_typed : (s : Site) (g : Visible) (a : Ty) (x : Ident) (e f : Expr) (c : Comp) (p : Place) (is : List Instance) (v : Ty) (w : Ty)
    (first turns : Typed) (made : TypedComp) (r : Result TypedComp TypeError) (js : List Instance) (z : Visible) →
    v ≡ unasked → expr g v e ≡ Fine first → w ≡ unasked → expr g w f ≡ Fine turns →
    comp (makers_at s g) (with_index x g) s.around a c is ≡ Fine (reached_at made js) → z ≡ g →
    ((ks : List Instance) → ToldOf (for_of x p first turns (reached_at made ks)) r ks) → ToldIn (walk_at s g a (For x e f c p) is) r js g z
for_loop_typed s g a x e f c p is v w first turns made r js z hv q hw k u same told =
    for_behind s g a x e f c p is v first r js g z hv q
    (expr_ok g w f (λ turns. and_then (comp (makers_at s g) (with_index x g) s.around a c is) (for_of x p first turns)) turns r js g z hw k
    (reach_ok (comp (makers_at s g) (with_index x g) s.around a c is) (for_of x p first turns) (reached_at made js) r js g z u
    (in_scope (for_of x p first turns (reached_at made js)) r js g z (told js) same)))

-- A member of a block is refused.
pub block_refused : (s : Site) (g : Visible) (a : Ty) (ms : List Member) (p : Place) (is : List Instance) (x : TypeError) (r : Result TypedComp TypeError)
    (js : List Instance) (b z : Visible) → IsErrAnd r (λ y. y ≡ x) →
    Refuses (members_of (makers_at s g) g s.around a (no_members is) ms) x → ToldIn (walk_at s g a (Block ms p) is) r js b z
block_refused s g a ms p is x r js b z err h =
    named (walk_at s g a (Block ms p) is) (and_then (members_of (makers_at s g) g s.around a (no_members is) ms) (block_of p)) r js b z
    (comp-Block (makers_at s g) g s.around a ms p is)
    (reach_err (members_of (makers_at s g) g s.around a (no_members is) ms) (block_of p) x r js b z err h)

-- A block is typed.
pub block_typed : (s : Site) (g : Visible) (a : Ty) (ms : List Member) (p : Place) (is : List Instance) (done : Gathered) (g1 : Visible) (n : ℕ)
    (r : Result TypedComp TypeError) (js : List Instance)
    (z : Visible) → (members_of (makers_at s g) g s.around a (no_members is) ms) ≡ Fine (gathered_at done js) → n ≡ length g.variables →
    up_to (length g.variables) g1 ≡ g → z ≡ up_to n g1 →
    ((ks : List Instance) → ToldOf (block_of p (gathered_at done ks)) r ks) → ToldIn (walk_at s g a (Block ms p) is) r js g z
block_typed s g a ms p is done g1 n r js z w hn top left told =
    named (walk_at s g a (Block ms p) is) (and_then (members_of (makers_at s g) g s.around a (no_members is) ms) (block_of p)) r js g z
    (comp-Block (makers_at s g) g s.around a ms p is)
    (reach_ok (members_of (makers_at s g) g s.around a (no_members is) ms) (block_of p) (gathered_at done js) r js g z w
    (in_scope (block_of p (gathered_at done js)) r js g z (told js) (block_left g g1 z n hn top left)))

-- The component of a bound name is refused.
pub bind_refused : (mk : Makers) (g : Visible) (n : ℕ) (a : Ty) (last : Bool) (done : Members) (x : Ident) (c : Comp) (e : TypeError)
    (r : Result Gathered TypeError) (js : List Instance) (b h : Visible) →
    IsErrAnd r (λ y. y ≡ e) → Refuses (comp mk g n a c done.instances) e → ToldStep (member mk g n a last done (Bind x c)) r js b h
bind_refused mk g n a last done x c e r js b h err t =
    step_err (comp mk g n a c done.instances) (bind_of g x (place_of c) done) e r js b h err t

-- The component of a bound name is typed.
pub bind_typed : (mk : Makers) (g : Visible) (n : ℕ) (a : Ty) (last : Bool) (done : Members) (x : Ident) (c : Comp) (made : TypedComp) (g1 : Visible)
    (p1 : Place) (r : Result Gathered TypeError) (js : List Instance) (h : Visible) →
    comp mk g n a c done.instances ≡ Fine (reached_at made js) → g1 ≡ g → p1 ≡ place_of c → ToldStep (bind_of g1 x p1 done (reached_at made js)) r js g1 h →
    ToldStep (member mk g n a last done (Bind x c)) r js g h
bind_typed mk g n a last done x c made g1 p1 r js h w same hp t =
    step_ok (comp mk g n a c done.instances) (bind_of g x (place_of c) done) (reached_at made js) r js g h w
    (bound_told g1 g x p1 (place_of c) done (reached_at made js) r js h same hp t)

-- A component as a member is refused.
pub run_refused : (mk : Makers) (g : Visible) (n : ℕ) (a : Ty) (last : Bool) (done : Members) (c : Comp) (e : TypeError) (r : Result Gathered TypeError)
    (js : List Instance) (b h : Visible) →
    IsErrAnd r (λ y. y ≡ e) → Refuses (comp mk g n a c done.instances) e → ToldStep (member mk g n a last done (Run c)) r js b h
run_refused mk g n a last done c e r js b h err t =
    step_err (comp mk g n a c done.instances) (run_of g last (place_of c) done) e r js b h err t

-- A component as a member is typed.
pub run_typed : (mk : Makers) (g : Visible) (n : ℕ) (a : Ty) (last : Bool) (done : Members) (c : Comp) (made : TypedComp) (g1 : Visible) (p1 : Place)
    (r : Result Gathered TypeError) (js : List Instance) →
    comp mk g n a c done.instances ≡ Fine (reached_at made js) → g1 ≡ g → p1 ≡ place_of c → ToldStep (run_of g1 last p1 done (reached_at made js)) r js g1
    g1 →
    ToldStep (member mk g n a last done (Run c)) r js g g1
run_typed mk g n a last done c made g1 p1 r js w same hp t =
    step_ok (comp mk g n a c done.instances) (run_of g last (place_of c) done) (reached_at made js) r js g g1 w
    (run_told g1 g last p1 (place_of c) done (reached_at made js) r js same hp t)

-- Members and a scope, by other names.
stepped-is : (m1 m : Members) (g1 g : Visible) → m1 ≡ m → g1 ≡ g →
    let s : Stepped = record { members = m; scope = g } in let s1 : Stepped = record { members = m1; scope = g1 } in let u : Walk Stepped = Fine s in u ≡
    Fine s1
stepped-is m1 m g1 g h k =
    sym (ap (λ x. let s : Stepped = record { members = x; scope = g1 } in let u : Walk Stepped = Fine s in u) h
    ∙ ap (λ x. let s : Stepped = record { members = m; scope = x } in let u : Walk Stepped = Fine s in u) k)

-- What is declared will leave the scope.
pub declared_left : (g g1 : Visible) (vs : List Seen) → g1 ≡ declare vs g → up_to (length g.variables) g1 ≡ g
declared_left g g1 vs h = ap (up_to (length g.variables)) h ∙ up_to-seam vs g

-- What a name declares will leave the scope.
pub name_left : (v : Option Ty) (g h : Visible) (x : Ident) (p : Place) → name_in v g x p ≡ Fine h → up_to (length g.variables) h ≡ g
name_left None g h x p e = absurd cc
name_left (Some t) g h x p e = declared_left g h (variable x.id t ∷ []) cc

-- A bound name that was typed.
pub bound_fine : (g h : Visible) (x x1 : Ident) (p : Place) (done made : Members) (r : Reached) → name_in r.what.value g x p ≡ Fine h → x1 ≡ x →
    made ≡ with_comp done (Bind x1 r.what.what) r → bind_of g x p done r ≡ Fine (record { members = made; scope = h })
bound_fine g h x x1 p done made r q hx hm =
    ap (λ w. and_then w (λ v. Fine (record { members = with_comp done (Bind x r.what.what) r; scope = v }))) q
    ∙ stepped-is made (with_comp done (Bind x r.what.what) r) h h (hm ∙ ap (λ y. with_comp done (Bind y r.what.what) r) hx) refl

-- A component as a member that was typed.
pub run_fine : (g : Visible) (last stands : Bool) (p : Place) (done made : Members) (r : Reached) → stands ≡ may_stand last r.what.value → stands ≡ true →
    made ≡ with_comp done (Run r.what.what) r → run_of g last p done r ≡ Fine (record { members = made; scope = g })
run_fine g last stands p done made r h e m =
    ap (λ b. and_then (check b (NotComputer p) r) (λ x. Fine (record { members = with_comp done (Run x.what.what) x; scope = g }))) (sym h ∙ e)
    ∙ stepped-is made (with_comp done (Run r.what.what) r) g g m refl

-- A variable that was typed.
pub declared_fine : (g g1 : Visible) (done made : Members) (v : TypedVar) (vs ws : List Seen) → ws ≡ seen_var v → vs ≡ ws → made ≡ with_var done v →
    g1 ≡ declare vs g →
    var_of g done v ≡ Fine (record { members = made; scope = g1 })
declared_fine g g1 done made v vs ws hw hv hm hg =
    stepped-is made (with_var done v) g1 (declare (seen_var v) g) hm (hg ∙ ap (λ u. declare u g) (hv ∙ hw))

-- A scope that others stand behind has the same `fun comp`s.
same_makers : (s : Site) (g h : Visible) → s.depth ≤ length g.variables → up_to (length g.variables) h ≡ g → makers_at s h ≡ makers_at s g
same_makers s g h le top = ap (λ v. makers v (drop s.from s.comps.now)) (same_top s.depth g h top le)

-- One member more of a block.
pub members_step : (s : Site) (g h k : Visible) (a : Ty) (done made : Members) (m : Member) (ms rest : List Member) (last : Bool) (whole : Walk Members) →
    s.depth ≤ length g.variables → up_to (length g.variables) h ≡ g → last ≡ is_end ms → rest ≡ m ∷ ms →
    member (makers_at s h) h s.around a last done m ≡ Fine (record { members = made; scope = k }) → up_to (length h.variables) k ≡ h →
    whole ≡ members_of (makers_at s g) h s.around a done rest →
    (up_to (length g.variables) k ≡ g) × (whole ≡ members_of (makers_at s g) k s.around a made ms)
members_step s g h k a done made m ms rest last whole le top hl hr q left w = (
  still_left g h k top left,
  w ∙ one_more (makers_at s g) (makers_at s h) h k s.around a last done made m ms rest (same_makers s g h le top) hl hr q,
)

-- A member of a block that is refused.
pub members_refused : (s : Site) (g h : Visible) (a : Ty) (done : Members) (m : Member) (ms rest : List Member) (last : Bool) (whole : Walk Members)
    (e : TypeError)
    (r : Result Gathered TypeError) (js : List Instance) (b z : Visible) → s.depth ≤ length g.variables → up_to (length g.variables) h ≡ g →
    last ≡ is_end ms →
    rest ≡ m ∷ ms → IsErrAnd r (λ x. x ≡ e) → Refuses (member (makers_at s h) h s.around a last done m) e →
    whole ≡ members_of (makers_at s g) h s.around a done rest → ToldMembers whole r js b z
members_refused s g h a done m ms rest last whole e r js b z le top hl hr err t w =
    subst (λ u. ToldMembers u r js b z) (sym w)
    (one_err (makers_at s g) (makers_at s h) h s.around a last done m ms rest e r js b z (same_makers s g h le top) hl hr err t)
