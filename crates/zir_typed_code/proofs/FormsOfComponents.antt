-- What the walk of components makes is well formed.
use Rattle.std.specs.Prelude.{◌≡◌, refl, ◌+◌, ℕ, suc, List, [], ◌∷◌, ◌++◌, length, Bool, true, false, ◌&&◌, not, nat_eq, nat_le, if◌then◌else◌, Option, Some, None}
use Rattle.std.proofs.Common.{ap, ◌∙◌, sym, subst, arith}
use denote.Hole.Carrier.{hidden}
use Rattle.zir_tree.specs.declared.place.Place.{Place}
use Rattle.zir_tree.specs.declared.ident.Ident.{Ident}
use Rattle.zir_tree.specs.declared.types.Base.{Base}
use Rattle.zir_tree.specs.declared.types.Base.TheVariants.{Unit as UnitTy, Bool as BoolTy, Int32}
use Rattle.zir_tree.specs.declared.types.Ty.{Ty}
use Rattle.zir_tree.specs.declared.expr.Expr.{Expr}
use Rattle.zir_tree.specs.declared.comp.Turning.{Turning}
use Rattle.zir_tree.specs.declared.comp.Link.{Link}
use Rattle.zir_tree.specs.declared.comp.Comp.{Comp, Take, Takes, Emit, Emits, Return, Do, Repeat, Repeat', While, While', Times, Times', For, For'}
use Rattle.zir_tree.specs.declared.comp.Comp.{If, If', Map, Filter, Call, Block, Block', Pipe, Pipe', end_of-Comp, more_of-Comp, Row_of-Member}
use Rattle.zir_tree.specs.declared.comp.Comp.{end_of-Member, more_of-Member}
use Rattle.zir_tree.specs.declared.comp.Comp.TheBlock.{shape-the_row-Comp-0, hidden-the_row-Comp-0, shape-the_row-Member-1, hidden-the_row-Member-1}
use Rattle.zir_tree.specs.declared.comp.Member.{Member, Bind, Var, Run}
use Rattle.zir_tree.specs.declared.program.Instance.{Instance}
use Rattle.zir_types.specs.declared.scope.Signature.{Signature}
use Rattle.zir_types.specs.declared.typed.Typed.{Typed}
use Rattle.zir_types.specs.declared.error.TypeError.TheVariants.{Mismatch, NotUnit, NotComputer, NotStreamType}
use Rattle.zir_types.specs.Walk.{Walk, Fine, and_then, check}
use Rattle.zir_types.specs.Kinds.{scalar, arr, same_ty}
use Rattle.zir_types.specs.Scope.{Visible, Placed, declare, variable, function_from, has_cells}
use Rattle.zir_types.specs.Expressions.{expr, unasked, InTurn, no_args, args_of, agree}
use Rattle.zir_types.specs.Statements.{var, seen_var, is_condition, is_count, with_index, do_body}
use Rattle.zir_types.specs.Components
use Rattle.zir_types.proofs.Fine.{first_fine, held, same_fine}
use Rattle.zir_shapes.specs.Shapes.{StructsBefore}
use Rattle.zir_sound.specs.Laws.{is_in}
use Rattle.zir_sound.proofs.Found.{function_place}
use Rattle.zir_sound.proofs.Statements.{do_body_sound}
use Rattle.zir_typed_code.specs.Forming.{IsFilled, AllFilled, KnownType, FormedVar, FormedParams, FormedBody, FormedComp, FormedMembers, FormedInstance}
use Rattle.zir_typed_code.specs.Forming.{FormedInstances, with_params}
use Rattle.zir_typed_code.proofs.KnownBodies.{body_known}
use Rattle.zir_typed_code.proofs.Rising.{RisesComp, RisesMembers, Clear, clear_part, clear_more}
use Rattle.zir_typed_code.proofs.Filled.{expr_fills, list_fills}
use Rattle.zir_typed_code.proofs.Writing.{AllTypes, Sees, VarForms, knows, results_known, sees_more, types_more, typed_known, var_forms}
use Rattle.zir_typed_code.proofs.Forms.{do_body_forms}

-- What was reached is well formed, and so are the instances.
pub record Reaches (m : ℕ) (tops xs : List ℕ) (r : Components.Reached) : Type 0 where
  pub instances : FormedInstances m tops r.instances
  pub what : FormedComp m xs r.what.what
  pub emits : KnownType m r.what.emits
  pub value : KnownType m r.what.value

reaches : (m : ℕ) (tops xs : List ℕ) (c : Comp) (out v : Option Ty) (is : List Instance) (r : Components.Reached) → FormedInstances m tops is → FormedComp m xs c →
    KnownType m out → KnownType m v → Components.reached c out v is ≡ r → Reaches m tops xs r
reaches m tops xs c out v is r i h o k e = subst (Reaches m tops xs) e (record { instances = i; what = h; emits = o; value = k })

-- A `fun comp` that makes well formed instances.
pub record MakesForms (m : ℕ) (tops : List ℕ) (k : Components.Maker) : Type 0 where
  pub params : FormedParams m tops k.head.fields
  pub makes : (n : ℕ) (a : Ty) (is : List Instance) (r : Components.Reached) → FormedInstances m tops is → StructsBefore m a.base → k.make n a is ≡ Fine r →
      Reaches m tops (with_params tops k.head.fields) r

abbrev pub AllForm : ℕ → List ℕ → Components.Makers → Type 0
AllForm m tops mk = (id : ℕ) (k : Components.Maker) → mk id ≡ Some k → MakesForms m tops k

-- The trees of components with others inside.
formed-Repeat : (m : ℕ) (xs : List ℕ) (c : Comp) (p : Place) → FormedComp m xs c → FormedComp m xs (Repeat c p)
unfolding shape-the_row-Comp-0 hidden-the_row-Comp-0 hidden
formed-Repeat m xs c p h = h

formed-While : (m : ℕ) (xs : List ℕ) (turning : Turning) (e : Expr) (c : Comp) (p : Place) → IsFilled e → FormedComp m xs c → FormedComp m xs (While turning e c p)
unfolding shape-the_row-Comp-0 hidden-the_row-Comp-0 hidden
formed-While m xs turning e c p k h = (k, h)

formed-Times : (m : ℕ) (xs : List ℕ) (e : Expr) (c : Comp) (p : Place) → IsFilled e → FormedComp m xs c → FormedComp m xs (Times e c p)
unfolding shape-the_row-Comp-0 hidden-the_row-Comp-0 hidden
formed-Times m xs e c p k h = (k, h)

formed-For : (m : ℕ) (xs : List ℕ) (x : Ident) (e f : Expr) (c : Comp) (p : Place) → is_in xs x.id ≡ false → IsFilled e → IsFilled f →
    FormedComp m (x.id ∷ xs) c → FormedComp m xs (For x e f c p)
unfolding shape-the_row-Comp-0 hidden-the_row-Comp-0 hidden
formed-For m xs x e f c p new k l h = (new, k, l, h)

formed-If : (m : ℕ) (xs : List ℕ) (e : Expr) (c d : Comp) (p : Place) → IsFilled e → FormedComp m xs c → FormedComp m xs d → FormedComp m xs (If e c d p)
unfolding shape-the_row-Comp-0 hidden-the_row-Comp-0 hidden
formed-If m xs e c d p k h l = (k, h, l)

formed-Pipe : (m : ℕ) (xs : List ℕ) (link : Link) (c d : Comp) (p : Place) → FormedComp m xs c → FormedComp m xs d → FormedComp m xs (Pipe link c d p)
unfolding shape-the_row-Comp-0 hidden-the_row-Comp-0 hidden
formed-Pipe m xs link c d p h l = (h, l)

-- Members of a plain list are well formed, each behind those before it.
abbrev FormedList : ℕ → List ℕ → List Member → Type 0
FormedList m xs [] = Unit {0}
FormedList m xs (Bind x c ∷ ms) = (is_in xs x.id ≡ false) × FormedComp m xs c × FormedList m (x.id ∷ xs) ms
FormedList m xs (Var v ∷ ms) = FormedVar m xs v × FormedList m (v.name.id ∷ xs) ms
FormedList m xs (Run c ∷ ms) = FormedComp m xs c × FormedList m xs ms

-- The numbers in scope behind members.
abbrev behind_members : List ℕ → List Member → List ℕ
behind_members xs [] = xs
behind_members xs (Bind x c ∷ ms) = behind_members (x.id ∷ xs) ms
behind_members xs (Var v ∷ ms) = behind_members (v.name.id ∷ xs) ms
behind_members xs (Run c ∷ ms) = behind_members xs ms

formed-members : (m : ℕ) (xs : List ℕ) (ms : List Member) → FormedList m xs ms → FormedMembers m xs (hidden-the_row-Member-1 ms)
unfolding shape-the_row-Member-1 hidden-the_row-Member-1 hidden
formed-members m xs [] h = tt
formed-members m xs (Bind x c ∷ ms) h = (h.0, h.1, formed-members m (x.id ∷ xs) ms h.2)
formed-members m xs (Var v ∷ ms) h = (h.0, formed-members m (v.name.id ∷ xs) ms h.1)
formed-members m xs (Run c ∷ ms) h = (h.0, formed-members m xs ms h.1)

formed-Block : (m : ℕ) (xs : List ℕ) (ms : List Member) (p : Place) → FormedList m xs ms → FormedComp m xs (Block ms p)
formed-Block m xs ms p h = formed-members m xs ms h

list_more : (m : ℕ) (xs : List ℕ) (ms : List Member) (d : Member) → FormedList m xs ms → FormedList m (behind_members xs ms) (d ∷ []) → FormedList m xs (ms ++ d ∷ [])
list_more m xs [] d h k = k
list_more m xs (Bind x c ∷ ms) d h k = (h.0, h.1, list_more m (x.id ∷ xs) ms d h.2 k)
list_more m xs (Var v ∷ ms) d h k = (h.0, list_more m (v.name.id ∷ xs) ms d h.1 k)
list_more m xs (Run c ∷ ms) d h k = (h.0, list_more m xs ms d h.1 k)

behind_one_more : (xs : List ℕ) (ms : List Member) (d : Member) → behind_members (behind_members xs ms) (d ∷ []) ≡ behind_members xs (ms ++ d ∷ [])
behind_one_more xs [] d = refl
behind_one_more xs (Bind x c ∷ ms) d = behind_one_more (x.id ∷ xs) ms d
behind_one_more xs (Var v ∷ ms) d = behind_one_more (v.name.id ∷ xs) ms d
behind_one_more xs (Run c ∷ ms) d = behind_one_more xs ms d

-- Types that are emitted.
pub emitted_known : (m : ℕ) (o : Option Ty) → KnownType m o → AllTypes m (Components.emitted o)
emitted_known m None h = tt
emitted_known m (Some t) h = (h, tt)

pub first_known : (m : ℕ) (ts : List Ty) → AllTypes m ts → KnownType m (Components.first_of ts)
first_known m [] h = tt
first_known m (t ∷ ts) h = h.0

pub link_known : (m : ℕ) (o : Option Ty) → KnownType m o → StructsBefore m (Components.link_type o).base
link_known m None h = tt
link_known m (Some t) h = h

-- Instances so far: one that is found, and one more.
found_formed : (m : ℕ) (tops : List ℕ) (n : ℕ) (is : List Instance) (id : ℕ) (a : Ty) (i : Placed Instance) → FormedInstances m tops is →
    Components.instance_from n is id a ≡ Some i → FormedInstance m tops i.item
found_formed m tops n [] id a i f h = absurd cc
found_formed m tops n (j ∷ is) id a i f h = here (nat_eq j.declaration id && same_ty j.input a) h (found_formed m tops (suc n) is id a i f.1)
  where
    here : (b : Bool) → (if b then Some (record { place = n; item = j }) else Components.instance_from (suc n) is id a) ≡ Some i →
        (Components.instance_from (suc n) is id a ≡ Some i → FormedInstance m tops i.item) → FormedInstance m tops i.item
    here true h next =
        let e : (let p : Placed Instance = record { place = n; item = j } in p) ≡ i = cc in subst (λ (p : Placed Instance). FormedInstance m tops p.item) e f.0
    here false h next = next h

instances_more : (m : ℕ) (tops : List ℕ) (is : List Instance) (i : Instance) → FormedInstances m tops is → FormedInstance m tops i →
    FormedInstances m tops (is ++ i ∷ [])
instances_more m tops [] i h k = (k, tt)
instances_more m tops (j ∷ is) i h k = (h.0, instances_more m tops is i h.1 k)

begun_forms : (m : ℕ) (tops xs : List ℕ) (k : Components.Maker) (n : ℕ) (f : Ident) (a : Ty) (es : List Expr) (is : List Instance) (r : Components.Reached)
    (full : Bool) → MakesForms m tops k → FormedInstances m tops is → StructsBefore m a.base → AllFilled es → Components.begun full k n f a es is ≡ Fine r →
    Reaches m tops xs r
begun_forms m tops xs k n f a es is r true makes well known each h = absurd cc
begun_forms m tops xs k n f a es is r false makes well known each h =
    let s = first_fine (k.make (suc n) a is) (Components.made_anew k f a es) r h in
    let q : Reaches m tops (with_params tops k.head.fields) s.0 = makes.makes (suc n) a is s.0 well known s.1 in
    let i : Instance = record {
      declaration = k.id;
      input = a;
      params = k.head.fields;
      body = s.0.what.what;
      emits = s.0.what.emits;
      value = s.0.what.value;
    } in
    let one : FormedInstance m tops i = record { params = makes.params; input = known; emits = q.emits; value = q.value; body = q.what } in
    reaches m tops xs (Call f (length s.0.instances) es) s.0.what.emits s.0.what.value (s.0.instances ++ i ∷ []) r
    (instances_more m tops s.0.instances i q.instances one) each q.emits q.value
    (same_fine (Components.reached (Call f (length s.0.instances) es) s.0.what.emits s.0.what.value (s.0.instances ++ i ∷ [])) r s.2)

instance_forms : (m : ℕ) (tops xs : List ℕ) (k : Components.Maker) (n : ℕ) (f : Ident) (a : Ty) (es : List Expr) (is : List Instance) (r : Components.Reached)
    (o : Option (Placed Instance)) → Components.instance_from 0 is k.id a ≡ o → MakesForms m tops k → FormedInstances m tops is → StructsBefore m a.base →
    AllFilled es → Components.instance_of o k n f a es is ≡ Fine r → Reaches m tops xs r
instance_forms m tops xs k n f a es is r None e makes well known each h =
    begun_forms m tops xs k n f a es is r (nat_le 256 (n + length is)) makes well known each h
instance_forms m tops xs k n f a es is r (Some i) e makes well known each h =
    let q : FormedInstance m tops i.item = found_formed m tops 0 is k.id a i well e in
    reaches m tops xs (Call f i.place es) i.item.emits i.item.value is r well each q.emits q.value
    (same_fine (Components.reached (Call f i.place es) i.item.emits i.item.value is) r h)

call_forms : (m : ℕ) (tops xs : List ℕ) (mk : Components.Makers) (g : Visible) (o : Option Components.Maker) (n : ℕ) (f : Ident) (a : Ty) (es : List Expr)
    (is : List Instance) (r : Components.Reached) → mk f.id ≡ o → AllForm m tops mk → FormedInstances m tops is → StructsBefore m a.base →
    Components.call_of o g n f a es is ≡ Fine r → Reaches m tops xs r
call_forms m tops xs mk g None n f a es is r e all well known h = absurd cc
call_forms m tops xs mk g (Some k) n f a es is r e all well known h =
    let z = first_fine (args_of g (InTurn k.head.types) no_args es) (Components.entered k n f a is) r h in
    let q = first_fine (check (agree k.head.types z.0.types) (Mismatch f.at) z.0.whats) (λ ws. Components.instance_of (Components.instance_from 0 is k.id a)
    k n f a ws is) r z.2 in
    let c = held (agree k.head.types z.0.types) (Mismatch f.at) z.0.whats q.0 q.1 in
    let each : AllFilled q.0 = subst AllFilled c.1 (list_fills g (InTurn k.head.types) no_args es z.0 tt z.1) in
    instance_forms m tops xs k n f a q.0 is r (Components.instance_from 0 is k.id a) refl (all f.id k e) well known each q.2

-- A loop over its body.
loop_forms : (m : ℕ) (tops xs : List ℕ) (right : Bool) (p : Place) (c : Comp) (s r : Components.Reached) → FormedInstances m tops s.instances →
    KnownType m s.what.emits → FormedComp m xs c → Components.loop_of right p c s ≡ Fine r → Reaches m tops xs r
loop_forms m tops xs right p c s r well out is h =
    let f = first_fine (check right (Mismatch p) s) (λ (q : Components.Reached). check (Components.is_unit q) (NotUnit p)
    (Components.reached c q.what.emits Components.unit_value q.instances)) r h in
    let d = held right (Mismatch p) s f.0 f.1 in
    let e : check (Components.is_unit s) (NotUnit p) (Components.reached c s.what.emits Components.unit_value s.instances) ≡ Fine r =
    subst (λ (q : Components.Reached). check (Components.is_unit q) (NotUnit p)
    (Components.reached c q.what.emits Components.unit_value q.instances) ≡ Fine r) (sym d.1) f.2 in
    let k = held (Components.is_unit s) (NotUnit p) (Components.reached c s.what.emits Components.unit_value s.instances) r e in
    reaches m tops xs c s.what.emits Components.unit_value s.instances r well is out tt k.1

emits_forms : (m : ℕ) (tops xs : List ℕ) (g : Visible) (ls : List ℕ) (b : Base) (p : Place) (is : List Instance) (t : Typed) (r : Components.Reached) →
    FormedInstances m tops is → StructsBefore m b → IsFilled t.what → Components.emits_if g.shapes ls b p is t ≡ Fine r → Reaches m tops xs r
emits_forms m tops xs g [] b p is t r well known f h = absurd cc
emits_forms m tops xs g (n ∷ ns) b p is t r well known f h =
    let u : Ty = record { lengths = ns; base = b } in
    let c = held (has_cells g.shapes u) (NotStreamType p) (Components.reached (Emits t.what p) (Some u) Components.unit_value is) r h in
    reaches m tops xs (Emits t.what p) (Some u) Components.unit_value is r well f known tt c.1

map_forms : (m : ℕ) (tops xs : List ℕ) (g : Visible) (f : Ident) (p : Place) (a : Ty) (is : List Instance) (o : Option (Placed Signature)) (r : Components.Reached) →
    function_from 0 g.functions f.id ≡ o → FormedInstances m tops is → Sees m g → Components.map_of o f p a is ≡ Fine r → Reaches m tops xs r
map_forms m tops xs g f p a is None r e well w h = absurd cc
map_forms m tops xs g f p a is (Some s) r e well w h =
    let made : Components.Reached = Components.reached (Map f s.place p) (Some s.item.result) None is in
    let c = held (Components.takes_one s.item.params a && not (same_ty s.item.result (scalar UnitTy))) (Mismatch p) made r h in
    reaches m tops xs (Map f s.place p) (Some s.item.result) None is r well tt
    (results_known m g.functions s.place s.item w.functions (function_place g.functions f.id s e)) tt c.1

filter_forms : (m : ℕ) (tops xs : List ℕ) (f : Ident) (p : Place) (a : Ty) (is : List Instance) (o : Option (Placed Signature)) (r : Components.Reached) →
    FormedInstances m tops is → StructsBefore m a.base → Components.filter_of o f p a is ≡ Fine r → Reaches m tops xs r
filter_forms m tops xs f p a is None r well known h = absurd cc
filter_forms m tops xs f p a is (Some s) r well known h =
    let made : Components.Reached = Components.reached (Filter f s.place p) (Some a) None is in
    let c = held (Components.takes_one s.item.params a && same_ty s.item.result (scalar BoolTy)) (Mismatch p) made r h in
    reaches m tops xs (Filter f s.place p) (Some a) None is r well tt known tt c.1

pipe_forms : (m : ℕ) (tops xs : List ℕ) (link : Link) (p : Place) (s u r : Components.Reached) (v w : Option Ty) → Reaches m tops xs s → Reaches m tops xs u →
    KnownType m v → KnownType m w → Components.pipe_if v w link p s u ≡ Fine r → Reaches m tops xs r
pipe_forms m tops xs link p s u r None w hs hu k l h =
    reaches m tops xs (Pipe link s.what.what u.what.what p) u.what.emits w u.instances r hu.instances (formed-Pipe m xs link s.what.what u.what.what p hs.what hu.what)
    hu.emits l (same_fine (Components.reached (Pipe link s.what.what u.what.what p) u.what.emits w u.instances) r h)
pipe_forms m tops xs link p s u r (Some t) None hs hu k l h =
    reaches m tops xs (Pipe link s.what.what u.what.what p) u.what.emits (Some t) u.instances r hu.instances
    (formed-Pipe m xs link s.what.what u.what.what p hs.what hu.what) hu.emits k
    (same_fine (Components.reached (Pipe link s.what.what u.what.what p) u.what.emits (Some t) u.instances) r h)
pipe_forms m tops xs link p s u r (Some t) (Some q) hs hu k l h = absurd cc

-- Members so far are well formed.
record Gathers (m : ℕ) (tops xs : List ℕ) (z : Components.Members) : Type 0 where
  what : FormedList m xs z.what
  emits : AllTypes m z.emits
  value : KnownType m z.value
  instances : FormedInstances m tops z.instances

-- A component behind members, as a member.
with_comp_gathers : (m : ℕ) (tops xs : List ℕ) (done : Components.Members) (d : Member) (r : Components.Reached) → Gathers m tops xs done →
    Reaches m tops (behind_members xs done.what) r → FormedList m (behind_members xs done.what) (d ∷ []) → Gathers m tops xs (Components.with_comp done d r)
with_comp_gathers m tops xs done d r is q one = record {
  what = list_more m xs done.what d is.what one;
  emits = types_more m done.emits (Components.emitted r.what.emits) is.emits (emitted_known m r.what.emits q.emits);
  value = q.value;
  instances = q.instances;
}

bound_is : (o : Option Ty) (p : Place) (next : Ty → Walk Components.Members) (z : Components.Members) → Components.bound_at o p next ≡ Fine z →
    (t : Ty) × (o ≡ Some t) × (next t ≡ Fine z)
bound_is None p next z h = absurd cc
bound_is (Some t) p next z h = (t, refl, h)

mutual
  pub comp_forms : (m : ℕ) (tops xs : List ℕ) (mk : Components.Makers) (g : Visible) (n : ℕ) (a : Ty) (c : Comp) (is : List Instance) (r : Components.Reached)
      (low high : ℕ) → AllForm m tops mk → Sees m g → Clear xs low high → RisesComp low c high → StructsBefore m a.base → FormedInstances m tops is →
      Components.comp mk g n a c is ≡ Fine r → Reaches m tops xs r
  comp_forms m tops xs mk g n a (Take p) is r low high all w clear up known well h =
      reaches m tops xs (Take p) None (Some a) is r well tt tt known (same_fine (Components.reached (Take p) None (Some a) is) r h)
  comp_forms m tops xs mk g n a (Takes k p) is r low high all w clear up known well h =
      reaches m tops xs (Takes k p) None (Some (arr k a)) is r well tt tt known (same_fine (Components.reached (Takes k p) None (Some (arr k a)) is) r h)
  comp_forms m tops xs mk g n a (Emit e p) is r low high all w clear up known well h =
      let t = first_fine (expr g unasked e) (Components.emit_of g.shapes p is) r h in
      let c = held (has_cells g.shapes t.0.ty) (NotStreamType p) (Components.reached (Emit t.0.what p) (Some t.0.ty) Components.unit_value is) r t.2 in
      reaches m tops xs (Emit t.0.what p) (Some t.0.ty) Components.unit_value is r well (expr_fills g unasked e t.0 t.1)
      (typed_known m g unasked e t.0 w t.1) tt c.1
  comp_forms m tops xs mk g n a (Emits e p) is r low high all w clear up known well h =
      let t = first_fine (expr g unasked e) (Components.emits_of g.shapes p is) r h in
      emits_forms m tops xs g t.0.ty.lengths t.0.ty.base p is t.0 r well (typed_known m g unasked e t.0 w t.1) (expr_fills g unasked e t.0 t.1) t.2
  comp_forms m tops xs mk g n a (Return e p) is r low high all w clear up known well h =
      let t = first_fine (expr g unasked e) (Components.return_of p is) r h in
      reaches m tops xs (Return t.0.what p) None (Some t.0.ty) is r well (expr_fills g unasked e t.0 t.1) tt (typed_known m g unasked e t.0 w t.1)
      (same_fine (Components.reached (Return t.0.what p) None (Some t.0.ty) is) r t.2)
  comp_forms m tops xs mk g n a (Do b p) is r low high all w clear up known well h =
      let t = first_fine (do_body g b) (Components.do_of p is) r h in
      let f : FormedBody m xs t.0.what = do_body_forms m xs g low high b t.0 w.fit clear up t.1 in
      reaches m tops xs (Do t.0.what p) None (Some t.0.ty) is r well f tt (body_known m xs g t.0.ty t.0.what (knows m g w) f (do_body_sound g b t.0 t.1))
      (same_fine (Components.reached (Do t.0.what p) None (Some t.0.ty) is) r t.2)
  comp_forms m tops xs mk g n a (Repeat' _ (more_of-Comp c end_of-Comp) p) is r low high all w clear up known well h =
      let s = first_fine (Components.comp mk g n a c is) (Components.repeat_of p) r h in
      let q : Reaches m tops xs s.0 = comp_forms m tops xs mk g n a c is s.0 low high all w clear up known well s.1 in
      let k = held (Components.is_unit s.0) (NotUnit p) (Components.reached (Repeat s.0.what.what p) s.0.what.emits None s.0.instances) r s.2 in
      reaches m tops xs (Repeat s.0.what.what p) s.0.what.emits None s.0.instances r q.instances (formed-Repeat m xs s.0.what.what p q.what) q.emits tt k.1
  comp_forms m tops xs mk g n a (While' turning e _ (more_of-Comp c end_of-Comp) p) is r low high all w clear up known well h =
      let t = first_fine (expr g unasked e) (λ t. and_then (Components.comp mk g n a c is) (Components.while_of turning p t)) r h in
      let s = first_fine (Components.comp mk g n a c is) (Components.while_of turning p t.0) r t.2 in
      let q : Reaches m tops xs s.0 = comp_forms m tops xs mk g n a c is s.0 low high all w clear up known well s.1 in
      loop_forms m tops xs (is_condition t.0) p (While turning t.0.what s.0.what.what p) s.0 r q.instances q.emits
      (formed-While m xs turning t.0.what s.0.what.what p (expr_fills g unasked e t.0 t.1) q.what) s.2
  comp_forms m tops xs mk g n a (Times' e _ (more_of-Comp c end_of-Comp) p) is r low high all w clear up known well h =
      let t = first_fine (expr g unasked e) (λ t. and_then (Components.comp mk g n a c is) (Components.times_of p t)) r h in
      let s = first_fine (Components.comp mk g n a c is) (Components.times_of p t.0) r t.2 in
      let q : Reaches m tops xs s.0 = comp_forms m tops xs mk g n a c is s.0 low high all w clear up known well s.1 in
      loop_forms m tops xs (is_count t.0) p (Times t.0.what s.0.what.what p) s.0 r q.instances q.emits
      (formed-Times m xs t.0.what s.0.what.what p (expr_fills g unasked e t.0 t.1) q.what) s.2
  comp_forms m tops xs mk g n a (For' x e f _ (more_of-Comp c end_of-Comp) p) is r low high all w clear (k, at_least, less, most, up) known well h =
      let v = with_index x g in
      let t = first_fine (expr g unasked e) (λ first. and_then (expr g unasked f) (λ turns. and_then (Components.comp mk v n a c is)
      (Components.for_of x p first turns))) r h in
      let u = first_fine (expr g unasked f) (λ turns. and_then (Components.comp mk v n a c is) (Components.for_of x p t.0 turns)) r t.2 in
      let s = first_fine (Components.comp mk v n a c is) (Components.for_of x p t.0 u.0) r u.2 in
      let inner : Clear (x.id ∷ xs) k high = clear_more xs x.id k high less (clear_part xs low high k high (omega arith) (omega arith) clear) in
      let q : Reaches m tops (x.id ∷ xs) s.0 =
      comp_forms m tops (x.id ∷ xs) mk v n a c is s.0 k high all (sees_more m g (variable x.id (scalar Int32) ∷ []) w (tt, tt)) inner up known well s.1 in
      loop_forms m tops xs (is_count t.0 && is_count u.0) p (For x t.0.what u.0.what s.0.what.what p) s.0 r q.instances q.emits
      (formed-For m xs x t.0.what u.0.what s.0.what.what p (clear x.id at_least (omega arith)) (expr_fills g unasked e t.0 t.1) (expr_fills g unasked f u.0 u.1)
      q.what) s.2
  comp_forms m tops xs mk g n a (If' e _ (more_of-Comp c end_of-Comp) _ (more_of-Comp d end_of-Comp) p) is r low high all w clear (k, at_least, most, up, on) known
      well h =
      let t = first_fine (expr g unasked e) (λ t. and_then (Components.comp mk g n a c is) (λ s. and_then (Components.comp mk g n a d s.instances)
      (Components.if_of p t s))) r h in
      let s = first_fine (Components.comp mk g n a c is) (λ s. and_then (Components.comp mk g n a d s.instances) (Components.if_of p t.0 s)) r t.2 in
      let u = first_fine (Components.comp mk g n a d s.0.instances) (Components.if_of p t.0 s.0) r s.2 in
      let q : Reaches m tops xs s.0 =
      comp_forms m tops xs mk g n a c is s.0 low k all w (clear_part xs low high low k (omega arith) most clear) up known well s.1 in
      let l : Reaches m tops xs u.0 =
      comp_forms m tops xs mk g n a d s.0.instances u.0 k high all w (clear_part xs low high k high at_least (omega arith) clear) on known q.instances u.1 in
      let outs : List Ty = Components.emitted s.0.what.emits ++ Components.emitted u.0.what.emits in
      let made : Components.Reached = Components.reached (If t.0.what s.0.what.what u.0.what.what p) (Components.first_of outs) s.0.what.value u.0.instances in
      let b = held (is_condition t.0 && (Components.same_option s.0.what.value u.0.what.value && Components.agreed outs)) (Mismatch p) made r u.2 in
      reaches m tops xs (If t.0.what s.0.what.what u.0.what.what p) (Components.first_of outs) s.0.what.value u.0.instances r l.instances
      (formed-If m xs t.0.what s.0.what.what u.0.what.what p (expr_fills g unasked e t.0 t.1) q.what l.what)
      (first_known m outs (types_more m (Components.emitted s.0.what.emits) (Components.emitted u.0.what.emits) (emitted_known m s.0.what.emits q.emits)
      (emitted_known m u.0.what.emits l.emits))) q.value b.1
  comp_forms m tops xs mk g n a (Map f k p) is r low high all w clear up known well h =
      map_forms m tops xs g f p a is (function_from 0 g.functions f.id) r refl well w h
  comp_forms m tops xs mk g n a (Filter f k p) is r low high all w clear up known well h =
      filter_forms m tops xs f p a is (function_from 0 g.functions f.id) r well known h
  comp_forms m tops xs mk g n a (Call f k es) is r low high all w clear up known well h = call_forms m tops xs mk g (mk f.id) n f a es is r refl all well known h
  comp_forms m tops xs mk g n a (Block' _ ms p) is r low high all w clear up known well h =
      let z = first_fine (Components.members mk g n a (Components.no_members is) ms) (Components.block_of p) r h in
      let none : Gathers m tops xs (Components.no_members is) = record { what = tt; emits = tt; value = tt; instances = well } in
      let q : Gathers m tops xs z.0 = members_form m tops xs mk g n a (Components.no_members is) ms z.0 low high all w none clear up known z.1 in
      let made : Components.Reached = Components.reached (Block z.0.what p) (Components.first_of z.0.emits) z.0.value z.0.instances in
      let c = held (Components.agreed z.0.emits) (Mismatch p) made r z.2 in
      reaches m tops xs (Block z.0.what p) (Components.first_of z.0.emits) z.0.value z.0.instances r q.instances (formed-Block m xs z.0.what p q.what)
      (first_known m z.0.emits q.emits) q.value c.1
  comp_forms m tops xs mk g n a (Pipe' link _ (more_of-Comp c end_of-Comp) _ (more_of-Comp d end_of-Comp) p) is r low high all w clear (k, at_least, most, up, on)
      known well h =
      let s = first_fine (Components.comp mk g n a c is) (λ s. and_then (Components.comp mk g n (Components.link_type s.what.emits) d s.instances)
      (Components.pipe_of link p s)) r h in
      let u = first_fine (Components.comp mk g n (Components.link_type s.0.what.emits) d s.0.instances) (Components.pipe_of link p s.0) r s.2 in
      let q : Reaches m tops xs s.0 =
      comp_forms m tops xs mk g n a c is s.0 low k all w (clear_part xs low high low k (omega arith) most clear) up known well s.1 in
      let l : Reaches m tops xs u.0 =
      comp_forms m tops xs mk g n (Components.link_type s.0.what.emits) d s.0.instances u.0 k high all w
      (clear_part xs low high k high at_least (omega arith) clear) on (link_known m s.0.what.emits q.emits) q.instances u.1 in
      pipe_forms m tops xs link p s.0 u.0 r s.0.what.value u.0.what.value q l q.value l.value u.2

  members_form : (m : ℕ) (tops xs : List ℕ) (mk : Components.Makers) (g : Visible) (n : ℕ) (a : Ty) (done : Components.Members) {k : _} (ms : Row_of-Member k)
      (z : Components.Members) (low high : ℕ) → AllForm m tops mk → Sees m g → Gathers m tops xs done → Clear (behind_members xs done.what) low high →
      RisesMembers low ms high → StructsBefore m a.base → Components.members mk g n a done ms ≡ Fine z → Gathers m tops xs z
  members_form m tops xs mk g n a done end_of-Member z low high all w is clear up known h = subst (Gathers m tops xs) (same_fine done z h) is
  members_form m tops xs mk g n a done (more_of-Member (Bind x c) ms) z low high all w is clear (l, from, to, (k, at_least, less, most, up), on) known h =
      let ys = behind_members xs done.what in
      let next : Components.Reached → Ty → Walk Components.Members = λ r t. Components.members mk (declare (variable x.id t ∷ []) g) n a
      (Components.with_comp done (Bind x r.what.what) r) ms in
      let r = first_fine (Components.comp mk g n a c done.instances) (λ r. Components.bound_at r.what.value (Components.place_of c) (next r)) z h in
      let b = bound_is r.0.what.value (Components.place_of c) (next r.0) z r.2 in
      let q : Reaches m tops ys r.0 =
      comp_forms m tops ys mk g n a c done.instances r.0 k l all w (clear_part ys low high k l (omega arith) to clear) up known is.instances r.1 in
      let one : FormedList m ys (Bind x r.0.what.what ∷ []) = (clear x.id at_least (omega arith), q.what, tt) in
      let bound : StructsBefore m b.0.base = subst (KnownType m) b.1 q.value in
      let rest : Clear (x.id ∷ ys) l high = clear_more ys x.id l high (omega arith) (clear_part ys low high l high (omega arith) (omega arith) clear) in
      members_form m tops xs mk (declare (variable x.id b.0 ∷ []) g) n a (Components.with_comp done (Bind x r.0.what.what) r.0) ms z l high all
      (sees_more m g (variable x.id b.0 ∷ []) w (bound, tt)) (with_comp_gathers m tops xs done (Bind x r.0.what.what) r.0 is q one)
      (subst (λ us. Clear us l high) (behind_one_more xs done.what (Bind x r.0.what.what)) rest) on known b.2
  members_form m tops xs mk g n a done (more_of-Member (Var v) ms) z low high all w is clear (l, from, to, up, on) known h =
      let ys = behind_members xs done.what in
      let t = first_fine (var g v) (λ t. Components.members mk (declare (seen_var t) g) n a (Components.with_var done t) ms) z h in
      let k : VarForms m ys v t.0 = var_forms m ys g v t.0 w.fit (clear v.name.id up.0 (omega arith)) t.1 in
      let same : v.name.id ≡ t.0.what.name.id = ap (λ (x : Ident). x.id) (sym k.named) in
      let rest : Clear (v.name.id ∷ ys) l high = clear_more ys v.name.id l high up.1 (clear_part ys low high l high from (omega arith) clear) in
      let more : Gathers m tops xs (Components.with_var done t.0) = record {
        what = list_more m xs done.what (Var t.0.what) is.what (k.formed, tt);
        emits = is.emits;
        value = tt;
        instances = is.instances;
      } in
      members_form m tops xs mk (declare (seen_var t.0) g) n a (Components.with_var done t.0) ms z l high all (sees_more m g (seen_var t.0) w (k.known, tt)) more
      (subst (λ us. Clear us l high) (ap (λ id. id ∷ ys) same ∙ behind_one_more xs done.what (Var t.0.what)) rest) on known t.2
  members_form m tops xs mk g n a done (more_of-Member (Run c) ms) z low high all w is clear (l, from, to, up, on) known h =
      let ys = behind_members xs done.what in
      let next : Components.Reached → Walk Components.Members = λ r. Components.members mk g n a (Components.with_comp done (Run r.what.what) r) ms in
      let r = first_fine (Components.comp mk g n a c done.instances) (λ r. and_then (check (Components.may_stand (Components.is_last ms) r.what.value) (NotComputer
      (Components.place_of c)) r) next) z h in
      let s = first_fine (check (Components.may_stand (Components.is_last ms) r.0.what.value) (NotComputer (Components.place_of c)) r.0) next z r.2 in
      let b = held (Components.may_stand (Components.is_last ms) r.0.what.value) (NotComputer (Components.place_of c)) r.0 s.0 s.1 in
      let q : Reaches m tops ys r.0 =
      comp_forms m tops ys mk g n a c done.instances r.0 low l all w (clear_part ys low high low l (omega arith) to clear) up known is.instances r.1 in
      let one : FormedList m ys (Run r.0.what.what ∷ []) = (q.what, tt) in
      members_form m tops xs mk g n a (Components.with_comp done (Run r.0.what.what) r.0) ms z l high all w
      (with_comp_gathers m tops xs done (Run r.0.what.what) r.0 is q one)
      (subst (λ us. Clear us l high) (behind_one_more xs done.what (Run r.0.what.what)) (clear_part ys low high l high from (omega arith) clear)) on known
      (subst (λ (v : Components.Reached). next v ≡ Fine z) (sym b.1) s.2)
