-- What the code has shown of the parts of a component, put together.
use Rattle.std.specs.Prelude.{◌≡◌, ℕ, ◌+◌, ◌≤◌, List, length, drop, Result}
use Rattle.std.proofs.Common.{ap, ◌∙◌, sym, subst, IsErrAnd, arith}
use Rattle.std.proofs.lemmas.List.{length-append, length-take-le}
use Rattle.zir_tree.specs.declared.ident.Ident.{Ident}
use Rattle.zir_tree.specs.declared.types.Ty.{Ty}
use Rattle.zir_tree.specs.declared.expr.Expr.{Expr}
use Rattle.zir_tree.specs.declared.comp.Comp.{Comp, Call}
use Rattle.zir_tree.specs.declared.program.Instance.{Instance}
use Rattle.zir_types.specs.declared.scope.Seen.{Seen}
use Rattle.zir_types.specs.declared.error.TypeError.{TypeError}
use Rattle.zir_types.specs.declared.typed.Typed.{Typed}
use Rattle.zir_types.specs.declared.typed.TypedComp.{TypedComp}
use Rattle.zir_types.specs.Walk.{Walk, Fine, and_then, Refuses}
use Rattle.zir_types.specs.Scope.{Visible, declare}
use Rattle.zir_types.specs.Expressions.{expr, unasked}
use Rattle.zir_types.specs.Statements.{with_index}
use Rattle.zir_types.specs.Components.{Reached, comp}
use Rattle.zir_types.specs.Programs.{makers}
use Rattle.zir_type_components.specs.declared.comps.Found.{Found}
use Rattle.zir_type_components.specs.declared.comps.Site.{Site}
use Rattle.zir_type_components.specs.Answers.{ToldOf, ToldIn, up_to}
use Rattle.zir_type_components.specs.Calls.{makers_at, walk_at}
use Rattle.zir_type_components.proofs.Reaching.{reach_err, leaf_err}
use Rattle.zir_type_components.proofs.Scopes.{up_to-declare, up_to-seam, up_to-back, up_to-body}

-- A part that was typed, and what follows it.
pub reach_ok : {A : Type 0} (walk : Walk A) (next : A → Walk Reached) (x : A) (r : Result TypedComp TypeError) (js : List Instance) (b z : Visible) →
    walk ≡ Fine x → ToldIn (next x) r js b z → ToldIn (and_then walk next) r js b z
reach_ok walk next x r js b z h t = subst (λ w. ToldIn (and_then w next) r js b z) (sym h) t

-- An expression that was refused.
pub expr_err : (g : Visible) (w : Ty) (e : Expr) (next : Typed → Walk Reached) (x : TypeError) (r : Result TypedComp TypeError) (js : List Instance)
    (b z : Visible) →
    w ≡ unasked → IsErrAnd r (λ y. y ≡ x) → Refuses (expr g w e) x → ToldIn (and_then (expr g unasked e) next) r js b z
expr_err g w e next x r js b z h err t = reach_err (expr g unasked e) next x r js b z err (subst (λ v. Refuses (expr g v e) x) h t)

-- An expression that was typed, and what follows it.
pub expr_ok : (g : Visible) (w : Ty) (e : Expr) (next : Typed → Walk Reached) (x : Typed) (r : Result TypedComp TypeError) (js : List Instance)
    (b z : Visible) →
    w ≡ unasked → expr g w e ≡ Fine x → ToldIn (next x) r js b z → ToldIn (and_then (expr g unasked e) next) r js b z
expr_ok g w e next x r js b z h q t = reach_ok (expr g unasked e) next x r js b z (ap (λ v. expr g v e) (sym h) ∙ q) t

-- A component of which a part is that one.
pub moved : {A : Type 0} (s : Site) (g h : Visible) (a : Ty) (is js : List Instance) (r : Result TypedComp TypeError) (f : A → Comp) (c1 c : A) →
    c1 ≡ c → ToldIn (walk_at s g a (f c1) is) r js g h → ToldIn (walk_at s g a (f c) is) r js g h
moved s g h a is js r f c1 c e t = subst (λ v. ToldIn (walk_at s g a (f v) is) r js g h) e t

-- A call, whose number of an instance says nothing yet, of which the arguments are those.
pub moved_call : (s : Site) (g h : Visible) (a : Ty) (is js : List Instance) (r : Result TypedComp TypeError) (f : Ident) (es1 es : List Expr) (k : ℕ) →
    es1 ≡ es → ((n : ℕ) → ToldIn (walk_at s g a (Call f n es1) is) r js g h) → ToldIn (walk_at s g a (Call f k es) is) r js g h
moved_call s g h a is js r f es1 es k e t = subst (λ v. ToldIn (walk_at s g a (Call f k v) is) r js g h) e (t k)

-- A component of which two parts are those.
pub moved_both : (s : Site) (g h : Visible) (a : Ty) (is js : List Instance) (r : Result TypedComp TypeError) (f : Comp → Comp → Comp) (c1 c d1 d : Comp) →
    c1 ≡ c → d1 ≡ d → ToldIn (walk_at s g a (f c1 d1) is) r js g h → ToldIn (walk_at s g a (f c d) is) r js g h
moved_both s g h a is js r f c1 c d1 d e k t =
    subst (λ v. ToldIn (walk_at s g a (f v d) is) r js g h) e (subst (λ v. ToldIn (walk_at s g a (f c1 v) is) r js g h) k t)

-- A part that was typed, in the same scope at the same type.
pub part_fine : (s : Site) (g1 g : Visible) (a1 a : Ty) (c1 c : Comp) (is : List Instance) (x : Reached) → g1 ≡ g → a1 ≡ a → c1 ≡ c →
    walk_at s g1 a1 c1 is ≡ Fine x → walk_at s g a c is ≡ Fine x
part_fine s g1 g a1 a c1 c is x hg ha hc q =
    ap (λ v. walk_at s v a c is) (sym hg) ∙ ap (λ v. walk_at s g1 v c is) (sym ha) ∙ ap (λ v. walk_at s g1 a1 v is) (sym hc) ∙ q

-- A part that was refused, in the same scope at the same type.
pub part_err : (s : Site) (g1 g : Visible) (a1 a : Ty) (c1 c : Comp) (is : List Instance) (x : TypeError) → g1 ≡ g → a1 ≡ a → c1 ≡ c →
    Refuses (walk_at s g1 a1 c1 is) x → Refuses (walk_at s g a c is) x
part_err s g1 g a1 a c1 c is x hg ha hc t =
    subst (λ v. Refuses (walk_at s v a c is) x) hg (subst (λ v. Refuses (walk_at s g1 v c is) x) ha (subst (λ v. Refuses (walk_at s g1 a1 v is) x) hc t))

-- A loop's body sees its index, and the same `fun comp`s.
for_walk : (s : Site) (g g1 : Visible) (a : Ty) (x : Ident) (c : Comp) (is : List Instance) → s.depth ≤ length g.variables → g1 ≡ with_index x g →
    walk_at s g1 a c is ≡ comp (makers_at s g) (with_index x g) s.around a c is
for_walk s g g1 a x c is h e =
    ap (λ v. walk_at s v a c is) e
    ∙ ap (λ v. comp (makers v (drop s.from s.comps.now)) (with_index x g) s.around a c is) (up_to-declare s.depth _ g h)

pub for_fine : (s : Site) (g g1 : Visible) (a : Ty) (x : Ident) (c : Comp) (is : List Instance) (y : Reached) → s.depth ≤ length g.variables →
    g1 ≡ with_index x g →
    walk_at s g1 a c is ≡ Fine y → comp (makers_at s g) (with_index x g) s.around a c is ≡ Fine y
for_fine s g g1 a x c is y h e q = sym (for_walk s g g1 a x c is h e) ∙ q

pub for_err : (s : Site) (g g1 : Visible) (a : Ty) (x : Ident) (c : Comp) (is : List Instance) (y : TypeError) → s.depth ≤ length g.variables →
    g1 ≡ with_index x g →
    Refuses (walk_at s g1 a c is) y → Refuses (comp (makers_at s g) (with_index x g) s.around a c is) y
for_err s g g1 a x c is y h e t = subst (λ w. Refuses w y) (for_walk s g g1 a x c is h e) t

-- Behind a loop the index is no more in scope.
pub for_left : (g g1 g2 g3 : Visible) (x : Ident) (n : ℕ) → n ≡ length g.variables → g1 ≡ with_index x g → g2 ≡ g1 → g3 ≡ up_to n g2 → g3 ≡ g
for_left g g1 g2 g3 x n hn h1 h2 h3 =
    h3 ∙ ap (λ k. up_to k g2) hn ∙ ap (up_to (length g.variables)) (h2 ∙ h1) ∙ up_to-seam _ g

-- Behind a block what its members declare is no more in scope.
pub block_left : (g g1 g2 : Visible) (n : ℕ) → n ≡ length g.variables → up_to (length g.variables) g1 ≡ g → g2 ≡ up_to n g1 → g2 ≡ g
block_left g g1 g2 n hn h1 h2 = h2 ∙ ap (λ k. up_to k g1) hn ∙ h1

-- The walk of a body at its site, in the scope of the body.
body_walk : (s i : Site) (g g1 g2 : Visible) (d : Found) (a : Ty) (ps : List Seen) (c : Comp) (is : List Instance) → s.depth ≤ length g.variables →
    g1 ≡ up_to s.depth g → g2 ≡ declare ps g1 → ps ≡ d.comp.now.head.seen → c ≡ d.comp.now.body →
    i.comps ≡ s.comps → i.from ≡ d.next → i.depth ≡ s.depth →
    walk_at i g2 a c is ≡ comp (makers (up_to s.depth g) (drop d.next s.comps.now)) (declare d.comp.now.head.seen (up_to s.depth g)) i.around a
    d.comp.now.body is
body_walk s i g g1 g2 d a ps c is h h1 h2 hp hc hi hf hd =
    let e2 : g2 ≡ declare d.comp.now.head.seen (up_to s.depth g) = h2 ∙ ap (λ v. declare v g1) hp ∙ ap (declare d.comp.now.head.seen) h1 in
    let et : up_to i.depth g2 ≡ up_to s.depth g = ap (λ n. up_to n g2) hd ∙ ap (up_to s.depth) e2 ∙ up_to-body s.depth d.comp.now.head.seen g h in
    let el : drop i.from i.comps.now ≡ drop d.next s.comps.now = ap (λ n. drop n i.comps.now) hf ∙ ap (λ v. drop d.next v.now) hi in
    ap (λ v. comp (makers v (drop i.from i.comps.now)) g2 i.around a c is) et
    ∙ ap (λ v. comp (makers (up_to s.depth g) v) g2 i.around a c is) el
    ∙ ap (λ v. comp (makers (up_to s.depth g) (drop d.next s.comps.now)) v i.around a c is) e2
    ∙ ap (λ v. comp (makers (up_to s.depth g) (drop d.next s.comps.now)) (declare d.comp.now.head.seen (up_to s.depth g)) i.around a v is) hc

pub body_fine : (s i : Site) (g g1 g2 : Visible) (d : Found) (a : Ty) (ps : List Seen) (c : Comp) (is : List Instance) (y : Reached) →
    s.depth ≤ length g.variables →
    g1 ≡ up_to s.depth g → g2 ≡ declare ps g1 → ps ≡ d.comp.now.head.seen → c ≡ d.comp.now.body →
    i.comps ≡ s.comps → i.from ≡ d.next → i.depth ≡ s.depth → walk_at i g2 a c is ≡ Fine y →
    comp (makers (up_to s.depth g) (drop d.next s.comps.now)) (declare d.comp.now.head.seen (up_to s.depth g)) i.around a d.comp.now.body is ≡ Fine y
body_fine s i g g1 g2 d a ps c is y h h1 h2 hp hc hi hf hd q = sym (body_walk s i g g1 g2 d a ps c is h h1 h2 hp hc hi hf hd) ∙ q

pub body_refused : (s i : Site) (g g1 g2 : Visible) (d : Found) (a : Ty) (ps : List Seen) (c : Comp) (is : List Instance) (y : TypeError) →
    s.depth ≤ length g.variables →
    g1 ≡ up_to s.depth g → g2 ≡ declare ps g1 → ps ≡ d.comp.now.head.seen → c ≡ d.comp.now.body →
    i.comps ≡ s.comps → i.from ≡ d.next → i.depth ≡ s.depth → Refuses (walk_at i g2 a c is) y →
    Refuses (comp (makers (up_to s.depth g) (drop d.next s.comps.now)) (declare d.comp.now.head.seen (up_to s.depth g)) i.around a d.comp.now.body is) y
body_refused s i g g1 g2 d a ps c is y h h1 h2 hp hc hi hf hd t = subst (λ w. Refuses w y) (body_walk s i g g1 g2 d a ps c is h h1 h2 hp hc hi hf hd) t

-- Behind a body the scope is as before.
pub body_left : (n : ℕ) (g g1 g2 g3 g4 g5 : Visible) (vs ps : List Seen) → n ≤ length g.variables → vs ≡ drop n g.variables → g1 ≡ up_to n g →
    g2 ≡ declare ps g1 → g3 ≡ g2 → g4 ≡ up_to n g3 → g5 ≡ declare vs g4 → g5 ≡ g
body_left n g g1 g2 g3 g4 g5 vs ps h hv h1 h2 h3 h4 h5 =
    let e4 : g4 ≡ up_to n g = h4 ∙ ap (up_to n) (h3 ∙ h2 ∙ ap (declare ps) h1) ∙ up_to-body n ps g h in
    h5 ∙ ap (λ v. declare v g4) hv ∙ ap (declare (drop n g.variables)) e4 ∙ up_to-back n g

-- The scope of a body has the whole top.
pub body_room : (n : ℕ) (g g1 g2 : Visible) (ps : List Seen) → n ≤ length g.variables → g1 ≡ up_to n g → g2 ≡ declare ps g1 → n ≤ length g2.variables
body_room n g g1 g2 ps h h1 h2 =
    let e1 : length g1.variables ≡ n = ap (λ v. length v.variables) h1 ∙ length-take-le n g.variables h in
    let e2 : length g2.variables ≡ length g1.variables + length ps = ap (λ v. length v.variables) h2 ∙ length-append g1.variables ps in
    omega arith

-- The scope of a loop's body has the whole top.
pub for_room : (n : ℕ) (g g1 : Visible) (x : Ident) → n ≤ length g.variables → g1 ≡ with_index x g → n ≤ length g1.variables
for_room n g g1 x h h1 =
    let e : length g1.variables ≡ length g.variables + 1 = ap (λ v. length v.variables) h1 ∙ length-append g.variables _ in
    omega arith

-- An expression that was refused, in a form without other parts.
pub leaf_refused : (g : Visible) (w : Ty) (e : Expr) (next : Typed → Walk Reached) (x : TypeError) (r : Result TypedComp TypeError) (is : List Instance) →
    w ≡ unasked → IsErrAnd r (λ y. y ≡ x) → Refuses (expr g w e) x → ToldOf (and_then (expr g unasked e) next) r is
leaf_refused g w e next x r is h err t = leaf_err (expr g unasked e) next x r is err (subst (λ v. Refuses (expr g v e) x) h t)

-- An expression that was typed, in a form without other parts.
pub leaf_typed : (g : Visible) (w : Ty) (e : Expr) (next : Typed → Walk Reached) (x : Typed) (r : Result TypedComp TypeError) (is : List Instance) →
    w ≡ unasked → expr g w e ≡ Fine x → ToldOf (next x) r is → ToldOf (and_then (expr g unasked e) next) r is
leaf_typed g w e next x r is h q t = subst (λ u. ToldOf (and_then u next) r is) (sym (ap (λ v. expr g v e) (sym h) ∙ q)) t
