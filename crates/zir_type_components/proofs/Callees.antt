-- What the code has shown of a call, put together.
use Rattle.std.specs.Prelude.{◌≡◌, ℕ, suc, ◌+◌, List, drop, length, Bool, true, false, Option, Some, None, Result, Err, nat_le, refl}
use Rattle.std.proofs.Common.{ap, ◌∙◌, sym, subst, IsErrAnd, add-one}
use Rattle.zir_tree.specs.declared.ident.Ident.{Ident}
use Rattle.zir_tree.specs.declared.types.Ty.{Ty}
use Rattle.zir_tree.specs.declared.expr.Expr.{Expr}
use Rattle.zir_tree.specs.declared.comp.Comp.{Call}
use Rattle.zir_tree.specs.declared.program.Instance.{Instance}
use Rattle.zir_types.specs.declared.error.TypeError.{TypeError}
use Rattle.zir_types.specs.declared.error.TypeError.TheVariants.{Mismatch, Instances}
use Rattle.zir_types.specs.declared.typed.Args.{Args}
use Rattle.zir_types.specs.declared.typed.TypedComp.{TypedComp}
use Rattle.zir_types.specs.Walk.{Fine, and_then, check, Refuses}
use Rattle.zir_types.specs.Scope.{Visible, Placed}
use Rattle.zir_types.specs.Expressions.{InTurn, no_args, args_of, agree}
use Rattle.zir_types.specs.Components.{Maker, call_of, entered, instance_of, instance_from, begun, made_anew}
use Rattle.zir_types.specs.Programs.{maker, makers}
use Rattle.zir_type_components.specs.declared.comps.Found.{Found}
use Rattle.zir_type_components.specs.declared.comps.Site.{Site}
use Rattle.zir_type_components.specs.Answers.{ToldIn, up_to}
use Rattle.zir_type_components.specs.Numbers.{Split, found}
use Rattle.zir_type_components.specs.Calls.{split_in, walk_at}
use Rattle.zir_type_components.proofs.Reaching.{reach_err}
use Rattle.zir_type_components.proofs.Found.{maker_in, maker-found}

-- How the body of what is found is typed at a site.
abbrev pub maker_at : Site → Visible → Found → Maker
maker_at s g d = maker (up_to s.depth g) (makers (up_to s.depth g) (drop d.next s.comps.now)) d.comp.now

call-found : (s : Site) (g : Visible) (a : Ty) (f : Ident) (k : ℕ) (es : List Expr) (is : List Instance) (o : Option Split) →
    o ≡ found (drop s.from s.comps.now) f.id → walk_at s g a (Call f k es) is ≡ call_of (maker_in (up_to s.depth g) o) g s.around f a es is
call-found s g a f k es is o h =
    ap (λ m. call_of m g s.around f a es is) (maker-found (up_to s.depth g) (drop s.from s.comps.now) f.id ∙ ap (maker_in (up_to s.depth g)) (sym h))

-- Nothing is found.
pub call_none : (s : Site) (g : Visible) (a : Ty) (f : Ident) (k : ℕ) (es : List Expr) (is js : List Instance) (b z : Visible) →
    let o : Option Split = None in o ≡ found (drop s.from s.comps.now) f.id → ToldIn (walk_at s g a (Call f k es) is) (Err (Mismatch f.at)) js b z
call_none s g a f k es is js b z h = call-found s g a f k es is None h

-- A call of what is found goes over its arguments.
call_some : (s : Site) (g : Visible) (a : Ty) (f : Ident) (k : ℕ) (es : List Expr) (is js : List Instance) (b z : Visible) (d : Found)
    (r : Result TypedComp TypeError) →
    Some (split_in s.comps.now d) ≡ found (drop s.from s.comps.now) f.id →
    ToldIn (and_then (args_of g (InTurn d.comp.now.head.types) no_args es) (entered (maker_at s g d) s.around f a is)) r js b z →
    ToldIn (walk_at s g a (Call f k es) is) r js b z
call_some s g a f k es is js b z d r h t = subst (λ w. ToldIn w r js b z) (sym (call-found s g a f k es is (Some (split_in s.comps.now d)) h)) t

-- An argument is refused.
pub call_args : (s : Site) (g : Visible) (a : Ty) (f : Ident) (k : ℕ) (es : List Expr) (is js : List Instance) (b z : Visible) (d : Found)
    (r : Result TypedComp TypeError)
    (params : List Ty) (e : TypeError) → Some (split_in s.comps.now d) ≡ found (drop s.from s.comps.now) f.id → params ≡ d.comp.now.head.types →
    IsErrAnd r (λ x. x ≡ e) → Refuses (args_of g (InTurn params) no_args es) e → ToldIn (walk_at s g a (Call f k es) is) r js b z
call_args s g a f k es is js b z d r params e h hp err t =
    call_some s g a f k es is js b z d r h (reach_err (args_of g (InTurn d.comp.now.head.types) no_args es) (entered (maker_at s g d) s.around f a is) e r
    js b z err
    (subst (λ ps. Refuses (args_of g (InTurn ps) no_args es) e) hp t))

-- The arguments are typed.
call_typed : (s : Site) (g : Visible) (a : Ty) (f : Ident) (k : ℕ) (es : List Expr) (is js : List Instance) (b z : Visible) (d : Found)
    (r : Result TypedComp TypeError)
    (params : List Ty) (as_ : Args) → Some (split_in s.comps.now d) ≡ found (drop s.from s.comps.now) f.id → params ≡ d.comp.now.head.types →
    args_of g (InTurn params) no_args es ≡ Fine as_ → ToldIn (entered (maker_at s g d) s.around f a is as_) r js b z →
    ToldIn (walk_at s g a (Call f k es) is) r js b z
call_typed s g a f k es is js b z d r params as_ h hp q t =
    call_some s g a f k es is js b z d r h (subst (λ w. ToldIn (and_then w (entered (maker_at s g d) s.around f a is)) r js b z)
    (sym (ap (λ ps. args_of g (InTurn ps) no_args es) (sym hp) ∙ q)) t)

-- The types of the arguments do not agree.
pub call_agree : (s : Site) (g : Visible) (a : Ty) (f : Ident) (k : ℕ) (es : List Expr) (is js : List Instance) (b z : Visible) (d : Found)
    (r : Result TypedComp TypeError)
    (params others : List Ty) (as_ : Args) (e : TypeError) → Some (split_in s.comps.now d) ≡ found (drop s.from s.comps.now) f.id →
    params ≡ d.comp.now.head.types →
    args_of g (InTurn params) no_args es ≡ Fine as_ → others ≡ d.comp.now.head.types → IsErrAnd r (λ x. x ≡ e) →
    Refuses (check (agree others as_.types) (Mismatch f.at) as_.whats) e → ToldIn (walk_at s g a (Call f k es) is) r js b z
call_agree s g a f k es is js b z d r params others as_ e h hp q ho err t =
    call_typed s g a f k es is js b z d r params as_ h hp q
    (reach_err (check (agree d.comp.now.head.types as_.types) (Mismatch f.at) as_.whats)
    (λ es. instance_of (instance_from 0 is d.comp.now.id a) (maker_at s g d) s.around f a es is) e r js b z err
    (subst (λ ps. Refuses (check (agree ps as_.types) (Mismatch f.at) as_.whats) e) ho t))

-- A call whose arguments agree goes on to its instance.
pub call_goes : (s : Site) (g : Visible) (a : Ty) (f : Ident) (k : ℕ) (es fs : List Expr) (is js : List Instance) (b z : Visible) (d : Found)
    (r : Result TypedComp TypeError)
    (params others : List Ty) (as_ : Args) (id : ℕ) (o : Option (Placed Instance)) → Some (split_in s.comps.now d) ≡ found (drop s.from s.comps.now) f.id →
    params ≡ d.comp.now.head.types → args_of g (InTurn params) no_args es ≡ Fine as_ → others ≡ d.comp.now.head.types →
    check (agree others as_.types) (Mismatch f.at) as_.whats ≡ Fine fs → id ≡ d.comp.now.id → o ≡ instance_from 0 is id a →
    ToldIn (instance_of o (maker_at s g d) s.around f a fs is) r js b z → ToldIn (walk_at s g a (Call f k es) is) r js b z
call_goes s g a f k es fs is js b z d r params others as_ id o h hp q ho q2 hid hi t =
    call_typed s g a f k es is js b z d r params as_ h hp q
    (subst (λ w. ToldIn (and_then w (λ es. instance_of (instance_from 0 is d.comp.now.id a) (maker_at s g d) s.around f a es is)) r js b z)
    (sym (ap (λ ps. check (agree ps as_.types) (Mismatch f.at) as_.whats) (sym ho) ∙ q2))
    (subst (λ p. ToldIn (instance_of p (maker_at s g d) s.around f a fs is) r js b z) (hi ∙ ap (λ n. instance_from 0 is n a) hid) t))

-- No more instances.
pub no_room : (m : Maker) (n : ℕ) (f : Ident) (a : Ty) (fs : List Expr) (is js : List Instance) (b z : Visible) (full : Bool) →
    full ≡ nat_le 256 (n + length is) → full ≡ true →
    ToldIn (instance_of None m n f a fs is) (Err (Instances f.at)) js b z
no_room m n f a fs is js b z full h e = subst (λ v. ToldIn (begun v m n f a fs is) (Err (Instances f.at)) js b z) (sym e ∙ h) refl

-- The body is refused.
pub body_err : (m : Maker) (n : ℕ) (f : Ident) (a : Ty) (fs : List Expr) (is js : List Instance) (b z : Visible) (full : Bool) (e : TypeError)
    (r : Result TypedComp TypeError) →
    full ≡ nat_le 256 (n + length is) → full ≡ false → IsErrAnd r (λ x. x ≡ e) → Refuses (m.make (n + 1) a is) e → ToldIn (instance_of None m n f a fs is) r
    js b z
body_err m n f a fs is js b z full e r h hb err t =
    subst (λ v. ToldIn (begun v m n f a fs is) r js b z) (sym hb ∙ h)
    (reach_err (m.make (suc n) a is) (made_anew m f a fs) e r js b z err (subst (λ v. Refuses (m.make v a is) e) (add-one n) t))

-- The body is typed.
pub body_ok : (m : Maker) (n : ℕ) (f : Ident) (a : Ty) (fs : List Expr) (is js ks : List Instance) (b z : Visible) (full : Bool) (c : TypedComp)
    (r : Result TypedComp TypeError) →
    full ≡ nat_le 256 (n + length is) → full ≡ false → m.make (n + 1) a is ≡ Fine (record { what = c; instances = js }) →
    ToldIn (made_anew m f a fs (record { what = c; instances = js })) r ks b z → ToldIn (instance_of None m n f a fs is) r ks b z
body_ok m n f a fs is js ks b z full c r h hb q t =
    subst (λ v. ToldIn (begun v m n f a fs is) r ks b z) (sym hb ∙ h)
    (subst (λ w. ToldIn (and_then w (made_anew m f a fs)) r ks b z) (sym (ap (λ v. m.make v a is) (sym (add-one n)) ∙ q)) t)
