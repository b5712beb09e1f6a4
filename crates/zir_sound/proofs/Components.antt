-- What the walk of components accepts keeps the rules.
use Rattle.std.specs.Prelude.{◌≡◌, refl, ℕ, List, [], ◌∷◌, ◌++◌, Bool, true, false, ◌&&◌, not, Option, Some, None}
use Rattle.std.proofs.Common.{ap, ◌∙◌, sym, subst}
use Rattle.std.proofs.lemmas.List.{append-nil, append_assoc}
use Rattle.zir_tree.specs.declared.place.Place.{Place}
use Rattle.zir_tree.specs.declared.ident.Ident.{Ident}
use Rattle.zir_tree.specs.declared.types.Base.{Base}
use Rattle.zir_tree.specs.declared.types.Base.TheVariants.{Unit as UnitTy, Bool as BoolTy}
use Rattle.zir_tree.specs.declared.types.Ty.{Ty}
use Rattle.zir_tree.specs.declared.comp.Link.{Link}
use Rattle.zir_tree.specs.declared.comp.Comp.{Comp, Take, Takes, Emit, Emits, Return, Do, Repeat, Repeat', While, While', Times, Times', For, For'}
use Rattle.zir_tree.specs.declared.comp.Comp.{If, If', Map, Filter, Call, Block, Block', Pipe, Pipe', end_of-Comp, more_of-Comp, Row_of-Member}
use Rattle.zir_tree.specs.declared.comp.Comp.{end_of-Member, more_of-Member}
use Rattle.zir_tree.specs.declared.comp.Member.{Member, Bind, Var, Run}
use Rattle.zir_tree.specs.declared.program.Instance.{Instance}
use Rattle.zir_types.specs.declared.scope.Signature.{Signature}
use Rattle.zir_types.specs.declared.typed.Typed.{Typed}
use Rattle.zir_types.specs.declared.typed.TypedVar.{TypedVar}
use Rattle.zir_types.specs.declared.error.TypeError.TheVariants.{Mismatch, NotUnit, NotComputer, NotStreamType}
use Rattle.zir_types.specs.Walk.{Walk, Fine, and_then, check}
use Rattle.zir_types.specs.Kinds.{scalar, arr, same_ty}
use Rattle.zir_types.specs.Scope.{Visible, Placed, declare, variable, function_from, has_cells}
use Rattle.zir_types.specs.Expressions.{expr, unasked}
use Rattle.zir_types.specs.Statements.{var, seen_var, is_condition, is_count, with_index, do_body}
use Rattle.zir_types.specs.Components
use Rattle.zir_types.specs.Programs.{Prepared}
use Rattle.zir_types.specs.Typing.{Has}
use Rattle.zir_types.proofs.Fine.{first_fine, held, same_fine, both}
use Rattle.zir_types.proofs.Agreement.{same_ty_is}
use Rattle.zir_types.proofs.Sound.{sound}
use Rattle.zir_sound.specs.Statements.{IsVar, seen_of}
use Rattle.zir_sound.specs.Components.{AreMembersOf, IsComp, IsValueOf, MayStandOf}
use Rattle.zir_sound.proofs.Found.{function_place, var_sound}
use Rattle.zir_sound.proofs.Statements.{condition_has, count_has, do_body_sound, ty_eq}
use Rattle.zir_sound.proofs.Fronts.{comp_grows}
use Rattle.zir_sound.proofs.Making.{AllMake, Fits, Grown, Well, call_sound, grown_self, grown_trans}
use Rattle.zir_sound.proofs.Trees.{is-Repeat, is-While, is-Times, is-For, is-If, is-Pipe, is-Block}

-- Parts that emit alike, or are of one kind and value, are the same.
same_option_is : (a b : Option Ty) → Components.same_option a b ≡ true → a ≡ b
same_option_is None None h = refl
same_option_is None (Some t) h = absurd cc
same_option_is (Some s) None h = absurd cc
same_option_is (Some s) (Some t) h = ap Some (same_ty_is s t h)

takes_one_is : (ts : List Ty) (a : Ty) → Components.takes_one ts a ≡ true → ts ≡ a ∷ []
takes_one_is [] a h = absurd cc
takes_one_is (t ∷ []) a h = ap (λ v. v ∷ []) (same_ty_is t a h)
takes_one_is (t ∷ (u ∷ ts)) a h = absurd cc

not_true : (b : Bool) → not b ≡ true → b ≡ false
not_true true h = absurd cc
not_true false h = refl

-- A component that reached nothing new.
here : (top g : Visible) (cs : List Prepared) (a : Ty) (is : List Instance) (r made : Components.Reached) → Well top cs is → made.instances ≡ is →
    IsComp g is a made.what.what made.what.emits made.what.value → made ≡ r → Fits top g cs a is r
here top g cs a is r made well same typed e =
    subst (Fits top g cs a is) e
    (subst (λ js. Fits top g cs a is (record { what = made.what; instances = js })) (sym same) (record { grown = grown_self top cs is well; typed = typed }))

emit_sound : (top g : Visible) (cs : List Prepared) (a : Ty) (is : List Instance) (p : Place) (t : Typed) (r : Components.Reached) → Well top cs is →
    Has g t.ty t.what →
    Components.emit_of g.shapes p is t ≡ Fine r → Fits top g cs a is r
emit_sound top g cs a is p t r well has h =
    let c = held (has_cells g.shapes t.ty) (NotStreamType p) (Components.reached (Emit t.what p) (Some t.ty) Components.unit_value is) r h in
    here top g cs a is r (Components.reached (Emit t.what p) (Some t.ty) Components.unit_value is) well refl (t.ty, refl, refl, c.0, has) c.1

emits_sound : (top g : Visible) (cs : List Prepared) (a : Ty) (is : List Instance) (p : Place) (t : Typed) (r : Components.Reached) (ls : List ℕ)
    (b : Base) → t.ty.lengths ≡ ls → t.ty.base ≡ b →
    Well top cs is → Has g t.ty t.what → Components.emits_if g.shapes ls b p is t ≡ Fine r → Fits top g cs a is r
emits_sound top g cs a is p t r [] b e f well has h = absurd cc
emits_sound top g cs a is p t r (n ∷ ns) b e f well has h =
    let u : Ty = record { lengths = ns; base = b } in
    let made : Components.Reached = Components.reached (Emits t.what p) (Some u) Components.unit_value is in
    let c = held (has_cells g.shapes u) (NotStreamType p) made r h in
    here top g cs a is r made well refl (u, n, refl, refl, c.0, subst (λ v. Has g v t.what) (ty_eq t.ty (n ∷ ns) b e f) has) c.1

map_sound : (top g : Visible) (cs : List Prepared) (a : Ty) (is : List Instance) (p : Place) (f : Ident) (o : Option (Placed Signature))
    (r : Components.Reached) →
    function_from 0 g.functions f.id ≡ o → Well top cs is → Components.map_of o f p a is ≡ Fine r → Fits top g cs a is r
map_sound top g cs a is p f None r e well h = absurd cc
map_sound top g cs a is p f (Some s) r e well h =
    let made : Components.Reached = Components.reached (Map f s.place p) (Some s.item.result) None is in
    let one : Bool = Components.takes_one s.item.params a in
    let unit : Bool = same_ty s.item.result (scalar UnitTy) in
    let c = held (one && not unit) (Mismatch p) made r h in
    let d = both one (not unit) c.0 in
    here top g cs a is r made well refl (s.item, function_place g.functions f.id s e, takes_one_is s.item.params a d.0, not_true unit d.1, refl, refl) c.1

filter_sound : (top g : Visible) (cs : List Prepared) (a : Ty) (is : List Instance) (p : Place) (f : Ident) (o : Option (Placed Signature))
    (r : Components.Reached) →
    function_from 0 g.functions f.id ≡ o → Well top cs is → Components.filter_of o f p a is ≡ Fine r → Fits top g cs a is r
filter_sound top g cs a is p f None r e well h = absurd cc
filter_sound top g cs a is p f (Some s) r e well h =
    let made : Components.Reached = Components.reached (Filter f s.place p) (Some a) None is in
    let one : Bool = Components.takes_one s.item.params a in
    let c = held (one && same_ty s.item.result (scalar BoolTy)) (Mismatch p) made r h in
    let d = both one (same_ty s.item.result (scalar BoolTy)) c.0 in
    here top g cs a is r made well refl
    (s.item, function_place g.functions f.id s e, takes_one_is s.item.params a d.0, same_ty_is s.item.result (scalar BoolTy) d.1, refl, refl) c.1

-- A component over what another reached.
over : (top g h : Visible) (cs : List Prepared) (a : Ty) (is : List Instance) (s r made : Components.Reached) → Fits top h cs a is s →
    made.instances ≡ s.instances →
    IsComp g s.instances a made.what.what made.what.emits made.what.value → made ≡ r → Fits top g cs a is r
over top g h cs a is s r made fits same typed e =
    subst (Fits top g cs a is) e
    (subst (λ js. Fits top g cs a is (record { what = made.what; instances = js })) (sym same) (record { grown = fits.grown; typed = typed }))

repeat_sound : (top g : Visible) (cs : List Prepared) (a : Ty) (is : List Instance) (p : Place) (s r : Components.Reached) → Fits top g cs a is s →
    Components.repeat_of p s ≡ Fine r → Fits top g cs a is r
repeat_sound top g cs a is p s r fits h =
    let made : Components.Reached = Components.reached (Repeat s.what.what p) s.what.emits None s.instances in
    let c = held (Components.is_unit s) (NotUnit p) made r h in
    let unit : s.what.value ≡ Components.unit_value = same_option_is s.what.value Components.unit_value c.0 in
    over top g g cs a is s r made fits refl (is-Repeat g s.instances a s.what.what p s.what.emits (subst
    (IsComp g s.instances a s.what.what s.what.emits) unit fits.typed)) c.1

-- The body of a loop is a computer of unit, and the loop is one whose condition or bounds are right.
loop_is : (right : Bool) (p : Place) (c : Comp) (s r : Components.Reached) → Components.loop_of right p c s ≡ Fine r →
    (right ≡ true) × (s.what.value ≡ Components.unit_value) × (Components.reached c s.what.emits Components.unit_value s.instances ≡ r)
loop_is right p c s r h =
    let f = first_fine (check right (Mismatch p) s) (λ q. check (Components.is_unit q) (NotUnit p)
    (Components.reached c q.what.emits Components.unit_value q.instances)) r h in
    let d = held right (Mismatch p) s f.0 f.1 in
    let e : check (Components.is_unit s) (NotUnit p) (Components.reached c s.what.emits Components.unit_value s.instances) ≡ Fine r =
    subst (λ (q : Components.Reached). check (Components.is_unit q) (NotUnit p)
    (Components.reached c q.what.emits Components.unit_value q.instances) ≡ Fine r) (sym d.1) f.2 in
    let k = held (Components.is_unit s) (NotUnit p) (Components.reached c s.what.emits Components.unit_value s.instances) r e in
    (d.0, same_option_is s.what.value Components.unit_value k.0, k.1)

-- The body of a loop, as a computer of unit.
body_typed : (g : Visible) (a : Ty) (s : Components.Reached) → s.what.value ≡ Components.unit_value →
    IsComp g s.instances a s.what.what s.what.emits s.what.value →
    IsComp g s.instances a s.what.what s.what.emits Components.unit_value
body_typed g a s e h = subst (IsComp g s.instances a s.what.what s.what.emits) e h

if_sound : (top g : Visible) (cs : List Prepared) (a : Ty) (is : List Instance) (p : Place) (t : Typed) (c d r : Components.Reached) →
    (is_condition t ≡ true → Has g (scalar BoolTy) t.what) →
    Fits top g cs a is c → Fits top g cs a c.instances d → Components.if_of p t c d ≡ Fine r → Fits top g cs a is r
if_sound top g cs a is p t c d r has fc fd h =
    let outs : List Ty = Components.emitted c.what.emits ++ Components.emitted d.what.emits in
    let made : Components.Reached = Components.reached (If t.what c.what.what d.what.what p) (Components.first_of outs) c.what.value d.instances in
    let alike : Bool = Components.same_option c.what.value d.what.value in
    let k = held (is_condition t && (alike && Components.agreed outs)) (Mismatch p) made r h in
    let l = both (is_condition t) (alike && Components.agreed outs) k.0 in
    let m = both alike (Components.agreed outs) l.1 in
    let same : c.what.value ≡ d.what.value = same_option_is c.what.value d.what.value m.0 in
    let first : IsComp g d.instances a c.what.what c.what.emits c.what.value =
    comp_grows g c.instances d.instances a c.what.what c.what.emits c.what.value fd.grown.begins fc.typed in
    let second : IsComp g d.instances a d.what.what d.what.emits c.what.value = subst (IsComp g d.instances a d.what.what d.what.emits) (sym same) fd.typed in
    subst (Fits top g cs a is) k.1
    (record {
      grown = grown_trans top cs is c.instances d.instances fc.grown fd.grown;
      typed = is-If g d.instances a t.what c.what.what d.what.what p c.what.emits d.what.emits c.what.value m.1 (has l.0) first second;
    })

pipe_made : (top g : Visible) (cs : List Prepared) (a : Ty) (is : List Instance) (link : Link) (p : Place) (c d r : Components.Reached) (v : Option Ty) →
    IsValueOf c.what.value d.what.value v →
    Fits top g cs a is c → Fits top g cs (Components.link_type c.what.emits) c.instances d →
    Components.reached (Pipe link c.what.what d.what.what p) d.what.emits v d.instances ≡ r → Fits top g cs a is r
pipe_made top g cs a is link p c d r v value fc fd e =
    subst (Fits top g cs a is) e
    (record {
      grown = grown_trans top cs is c.instances d.instances fc.grown fd.grown;
      typed = is-Pipe g d.instances a link c.what.what d.what.what p c.what.emits d.what.emits c.what.value d.what.value v value
          (comp_grows g c.instances d.instances a c.what.what c.what.emits c.what.value fd.grown.begins fc.typed) fd.typed;
    })

pipe_sound : (top g : Visible) (cs : List Prepared) (a : Ty) (is : List Instance) (link : Link) (p : Place) (c d r : Components.Reached)
    (v w : Option Ty) → c.what.value ≡ v → d.what.value ≡ w →
    Fits top g cs a is c → Fits top g cs (Components.link_type c.what.emits) c.instances d → Components.pipe_if v w link p c d ≡ Fine r → Fits top g cs a is r
pipe_sound top g cs a is link p c d r None w e f fc fd h =
    pipe_made top g cs a is link p c d r w (subst (λ x. IsValueOf x d.what.value w) (sym e) (sym f)) fc fd
    (same_fine (Components.reached (Pipe link c.what.what d.what.what p) d.what.emits w d.instances) r h)
pipe_sound top g cs a is link p c d r (Some t) None e f fc fd h =
    pipe_made top g cs a is link p c d r (Some t) (subst (λ x. IsValueOf x d.what.value (Some t)) (sym e) (subst (λ y. IsValueOf (Some t) y (Some t))
    (sym f) refl)) fc fd
    (same_fine (Components.reached (Pipe link c.what.what d.what.what p) d.what.emits (Some t) d.instances) r h)
pipe_sound top g cs a is link p c d r (Some t) (Some u) e f fc fd h = absurd cc

-- Members behind some others: what they are, and what they emit besides.
pub record MembersFit (top g : Visible) (cs : List Prepared) (a : Ty) (done z : Components.Members) : Type 0 where
  pub members : List Member
  pub outs : List Ty
  pub members_are : z.what ≡ done.what ++ members
  pub outs_are : z.emits ≡ done.emits ++ outs
  pub grown : Grown top cs done.instances z.instances
  pub typed : AreMembersOf g z.instances a done.value members outs z.value

bound_is : (v : Option Ty) (p : Place) (next : Ty → Walk Components.Members) (z : Components.Members) → Components.bound_at v p next ≡ Fine z →
    (t : Ty) × (v ≡ Some t) × (next t ≡ Fine z)
bound_is None p next z h = absurd cc
bound_is (Some t) p next z h = (t, refl, h)

stands_is : (v : Option Ty) → Components.may_stand false v ≡ true → (t : Ty) × (v ≡ Some t)
stands_is None h = absurd cc
stands_is (Some t) h = (t, refl)

stands : (ms : List Member) (v : Option Ty) (t : Ty) → v ≡ Some t → MayStandOf ms v
stands [] v t e = tt
stands (m ∷ ms) v t e = subst (MayStandOf (m ∷ ms)) (sym e) tt

-- The rest behind one member more.
rest_is : {A : Type 0} (z done : List A) (x : A) (more : List A) → z ≡ (done ++ x ∷ []) ++ more → z ≡ done ++ x ∷ more
rest_is {A} z done x more e = e ∙ append_assoc done (x ∷ []) more

-- Nothing follows.
ended : (top g : Visible) (cs : List Prepared) (a : Ty) (done z : Components.Members) → Well top cs done.instances → done ≡ z → MembersFit top g cs a done z
ended top g cs a done z well e =
    subst (MembersFit top g cs a done) e
    (record {
      members = [];
      outs = [];
      members_are = sym (append-nil done.what);
      outs_are = sym (append-nil done.emits);
      grown =
          grown_self top cs done.instances well;
      typed = (refl, refl);
    })

-- A component that is bound, or runs, before the others.
bind_fits : (top g : Visible) (cs : List Prepared) (a : Ty) (done z : Components.Members) (x : Ident) (r : Components.Reached) (t : Ty) →
    r.what.value ≡ Some t → Fits top g cs a done.instances r →
    MembersFit top (declare (variable x.id t ∷ []) g) cs a (Components.with_comp done (Bind x r.what.what) r) z → MembersFit top g cs a done z
bind_fits top g cs a done z x r t e fits m = record {
  members = Bind x r.what.what ∷ m.members;
  outs = Components.emitted r.what.emits ++ m.outs;
  members_are = rest_is z.what done.what (Bind x r.what.what) m.members m.members_are;
  outs_are = m.outs_are ∙ append_assoc done.emits (Components.emitted r.what.emits) m.outs;
  grown = grown_trans top cs done.instances r.instances z.instances fits.grown m.grown;
  typed = (
    t,
    r.what.emits,
    m.outs,
    refl,
    subst (IsComp g z.instances a r.what.what r.what.emits) e
        (comp_grows g r.instances z.instances a r.what.what r.what.emits r.what.value m.grown.begins fits.typed),
    subst (λ v. AreMembersOf (declare (variable x.id t ∷ []) g) z.instances a v m.members m.outs z.value) e m.typed,
  );
}

run_fits : (top g : Visible) (cs : List Prepared) (a : Ty) (done z : Components.Members) (r : Components.Reached) → Fits top g cs a done.instances r →
    (m : MembersFit top g cs a (Components.with_comp done (Run r.what.what) r) z) → MayStandOf m.members r.what.value → MembersFit top g cs a done z
run_fits top g cs a done z r fits m may = record {
  members = Run r.what.what ∷ m.members;
  outs = Components.emitted r.what.emits ++ m.outs;
  members_are = rest_is z.what done.what (Run r.what.what) m.members m.members_are;
  outs_are = m.outs_are ∙ append_assoc done.emits (Components.emitted r.what.emits) m.outs;
  grown = grown_trans top cs done.instances r.instances z.instances fits.grown m.grown;
  typed = (
    r.what.emits,
    r.what.value,
    m.outs,
    refl,
    comp_grows g r.instances z.instances a r.what.what r.what.emits r.what.value m.grown.begins fits.typed,
    may,
    m.typed,
  );
}

-- A component that runs as the last member.
last_fits : (top g : Visible) (cs : List Prepared) (a : Ty) (done : Components.Members) (r : Components.Reached) → Fits top g cs a done.instances r →
    MembersFit top g cs a done (Components.with_comp done (Run r.what.what) r)
last_fits top g cs a done r fits = record {
  members = Run r.what.what ∷ [];
  outs = Components.emitted r.what.emits ++ [];
  members_are = refl;
  outs_are = ap (λ os. done.emits ++ os) (sym (append-nil (Components.emitted r.what.emits)));
  grown = fits.grown;
  typed = (r.what.emits, r.what.value, [], refl, fits.typed, tt, (refl, refl));
}

var_fits : (top g : Visible) (cs : List Prepared) (a : Ty) (done z : Components.Members) (v : TypedVar) → seen_var v ≡ seen_of v.what ∷ [] → IsVar g v.what →
    MembersFit top (declare (seen_var v) g) cs a (Components.with_var done v) z → MembersFit top g cs a done z
var_fits top g cs a done z v e is m = record {
  members = Var v.what ∷ m.members;
  outs = m.outs;
  members_are = rest_is z.what done.what (Var v.what) m.members m.members_are;
  outs_are = m.outs_are;
  grown = m.grown;
  typed = (is, subst (λ s. AreMembersOf (declare s g) z.instances a Components.unit_value m.members m.outs z.value) e m.typed);
}

mutual
  pub comp_sound : (top : Visible) (cs : List Prepared) (mk : Components.Makers) (g : Visible) (n : ℕ) (a : Ty) (c : Comp) (is : List Instance)
      (r : Components.Reached) → AllMake top cs mk → Well top cs is →
      Components.comp mk g n a c is ≡ Fine r → Fits top g cs a is r
  comp_sound top cs mk g n a (Take p) is r all well h =
      let made : Components.Reached = Components.reached (Take p) None (Some a) is in here top g cs a is r made well refl (refl, refl) (same_fine made r h)
  comp_sound top cs mk g n a (Takes k p) is r all well h =
      let made : Components.Reached = Components.reached (Takes k p) None (Some (arr k a)) is in here top g cs a is r made well refl (
        refl,
        refl,
      ) (same_fine made r h)
  comp_sound top cs mk g n a (Emit e p) is r all well h =
      let t = first_fine (expr g unasked e) (Components.emit_of g.shapes p is) r h in emit_sound top g cs a is p t.0 r well (sound g unasked e t.0 t.1) t.2
  comp_sound top cs mk g n a (Emits e p) is r all well h =
      let t = first_fine (expr g unasked e) (Components.emits_of g.shapes p is) r h in
      emits_sound top g cs a is p t.0 r t.0.ty.lengths t.0.ty.base refl refl well (sound g unasked e t.0 t.1) t.2
  comp_sound top cs mk g n a (Return e p) is r all well h =
      let t = first_fine (expr g unasked e) (Components.return_of p is) r h in
      let made : Components.Reached = Components.reached (Return t.0.what p) None (Some t.0.ty) is in
      here top g cs a is r made well refl (t.0.ty, refl, refl, sound g unasked e t.0 t.1) (same_fine made r t.2)
  comp_sound top cs mk g n a (Do b p) is r all well h =
      let t = first_fine (do_body g b) (Components.do_of p is) r h in
      let made : Components.Reached = Components.reached (Do t.0.what p) None (Some t.0.ty) is in
      here top g cs a is r made well refl (t.0.ty, refl, refl, do_body_sound g b t.0 t.1) (same_fine made r t.2)
  comp_sound top cs mk g n a (Repeat' _ (more_of-Comp c end_of-Comp) p) is r all well h =
      let s = first_fine (Components.comp mk g n a c is) (Components.repeat_of p) r h in
      repeat_sound top g cs a is p s.0 r (comp_sound top cs mk g n a c is s.0 all well s.1) s.2
  comp_sound top cs mk g n a (While' turning e _ (more_of-Comp c end_of-Comp) p) is r all well h =
      let t = first_fine (expr g unasked e) (λ t. and_then (Components.comp mk g n a c is) (Components.while_of turning p t)) r h in
      let s = first_fine (Components.comp mk g n a c is) (Components.while_of turning p t.0) r t.2 in
      let fits = comp_sound top cs mk g n a c is s.0 all well s.1 in
      let l = loop_is (is_condition t.0) p (While turning t.0.what s.0.what.what p) s.0 r s.2 in
      over top g g cs a is s.0 r (Components.reached (While turning t.0.what s.0.what.what p) s.0.what.emits Components.unit_value s.0.instances) fits refl
      (is-While g s.0.instances a turning t.0.what s.0.what.what p s.0.what.emits (condition_has g e t.0 t.1 l.0) (body_typed g a s.0 l.1 fits.typed)) l.2
  comp_sound top cs mk g n a (Times' e _ (more_of-Comp c end_of-Comp) p) is r all well h =
      let t = first_fine (expr g unasked e) (λ t. and_then (Components.comp mk g n a c is) (Components.times_of p t)) r h in
      let s = first_fine (Components.comp mk g n a c is) (Components.times_of p t.0) r t.2 in
      let fits = comp_sound top cs mk g n a c is s.0 all well s.1 in
      let l = loop_is (is_count t.0) p (Times t.0.what s.0.what.what p) s.0 r s.2 in
      over top g g cs a is s.0 r (Components.reached (Times t.0.what s.0.what.what p) s.0.what.emits Components.unit_value s.0.instances) fits refl
      (is-Times g s.0.instances a t.0.what s.0.what.what p s.0.what.emits (count_has g e t.0 t.1 l.0) (body_typed g a s.0 l.1 fits.typed)) l.2
  comp_sound top cs mk g n a (For' x e f _ (more_of-Comp c end_of-Comp) p) is r all well h =
      let w = with_index x g in
      let t = first_fine (expr g unasked e) (λ first. and_then (expr g unasked f) (λ turns. and_then (Components.comp mk w n a c is)
      (Components.for_of x p first turns))) r h in
      let u = first_fine (expr g unasked f) (λ turns. and_then (Components.comp mk w n a c is) (Components.for_of x p t.0 turns)) r t.2 in
      let s = first_fine (Components.comp mk w n a c is) (Components.for_of x p t.0 u.0) r u.2 in
      let fits = comp_sound top cs mk w n a c is s.0 all well s.1 in
      let l = loop_is (is_count t.0 && is_count u.0) p (For x t.0.what u.0.what s.0.what.what p) s.0 r s.2 in
      let k = both (is_count t.0) (is_count u.0) l.0 in
      over top g w cs a is s.0 r (Components.reached (For x t.0.what u.0.what s.0.what.what p) s.0.what.emits Components.unit_value s.0.instances) fits refl
      (is-For g s.0.instances a x t.0.what u.0.what s.0.what.what p s.0.what.emits (count_has g e t.0 t.1 k.0) (count_has g f u.0 u.1 k.1)
      (body_typed w a s.0 l.1 fits.typed)) l.2
  comp_sound top cs mk g n a (If' e _ (more_of-Comp c end_of-Comp) _ (more_of-Comp d end_of-Comp) p) is r all well h =
      let t = first_fine (expr g unasked e) (λ t. and_then (Components.comp mk g n a c is) (λ s. and_then (Components.comp mk g n a d s.instances)
      (Components.if_of p t s))) r h in
      let s = first_fine (Components.comp mk g n a c is) (λ s. and_then (Components.comp mk g n a d s.instances) (Components.if_of p t.0 s)) r t.2 in
      let u = first_fine (Components.comp mk g n a d s.0.instances) (Components.if_of p t.0 s.0) r s.2 in
      let fits = comp_sound top cs mk g n a c is s.0 all well s.1 in
      if_sound top g cs a is p t.0 s.0 u.0 r (condition_has g e t.0 t.1) fits (comp_sound top cs mk g n a d s.0.instances u.0 all fits.grown.well u.1) u.2
  comp_sound top cs mk g n a (Map f k p) is r all well h = map_sound top g cs a is p f (function_from 0 g.functions f.id) r refl well h
  comp_sound top cs mk g n a (Filter f k p) is r all well h = filter_sound top g cs a is p f (function_from 0 g.functions f.id) r refl well h
  comp_sound top cs mk g n a (Call f k es) is r all well h = call_sound top g cs mk (mk f.id) n f a es is r refl all well h
  comp_sound top cs mk g n a (Block' _ ms p) is r all well h =
      let z = first_fine (Components.members mk g n a (Components.no_members is) ms) (Components.block_of p) r h in
      let m = members_sound top cs mk g n a (Components.no_members is) ms z.0 all well z.1 in
      let made : Components.Reached = Components.reached (Block z.0.what p) (Components.first_of z.0.emits) z.0.value z.0.instances in
      let c = held (Components.agreed z.0.emits) (Mismatch p) made r z.2 in
      let typed : AreMembersOf g z.0.instances a Components.unit_value z.0.what z.0.emits z.0.value =
      subst (λ ws. AreMembersOf g z.0.instances a Components.unit_value ws z.0.emits z.0.value) (sym m.members_are)
      (subst (λ os. AreMembersOf g z.0.instances a Components.unit_value m.members os z.0.value) (sym m.outs_are) m.typed) in
      subst (Fits top g cs a is) c.1 (record { grown = m.grown; typed = is-Block g z.0.instances a z.0.what p z.0.emits z.0.value c.0 typed })
  comp_sound top cs mk g n a (Pipe' link _ (more_of-Comp c end_of-Comp) _ (more_of-Comp d end_of-Comp) p) is r all well h =
      let s = first_fine (Components.comp mk g n a c is) (λ s. and_then (Components.comp mk g n (Components.link_type s.what.emits) d s.instances)
      (Components.pipe_of link p s)) r h in
      let u = first_fine (Components.comp mk g n (Components.link_type s.0.what.emits) d s.0.instances) (Components.pipe_of link p s.0) r s.2 in
      let fits = comp_sound top cs mk g n a c is s.0 all well s.1 in
      pipe_sound top g cs a is link p s.0 u.0 r s.0.what.value u.0.what.value refl refl fits
      (comp_sound top cs mk g n (Components.link_type s.0.what.emits) d s.0.instances u.0 all fits.grown.well u.1) u.2

  members_sound : (top : Visible) (cs : List Prepared) (mk : Components.Makers) (g : Visible) (n : ℕ) (a : Ty) (done : Components.Members) {m : _}
      (ms : Row_of-Member m) (z : Components.Members) →
      AllMake top cs mk → Well top cs done.instances → Components.members mk g n a done ms ≡ Fine z → MembersFit top g cs a done z
  members_sound top cs mk g n a done end_of-Member z all well h = ended top g cs a done z well (same_fine done z h)
  members_sound top cs mk g n a done (more_of-Member (Bind x c) ms) z all well h =
      let next : Components.Reached → Ty → Walk Components.Members = λ r t. Components.members mk (declare (variable x.id t ∷ []) g) n a
      (Components.with_comp done (Bind x r.what.what) r) ms in
      let r = first_fine (Components.comp mk g n a c done.instances) (λ r. Components.bound_at r.what.value (Components.place_of c) (next r)) z h in
      let b = bound_is r.0.what.value (Components.place_of c) (next r.0) z r.2 in
      let fits = comp_sound top cs mk g n a c done.instances r.0 all well r.1 in
      bind_fits top g cs a done z x r.0 b.0 b.1 fits
      (members_sound top cs mk (declare (variable x.id b.0 ∷ []) g) n a (Components.with_comp done (Bind x r.0.what.what) r.0) ms z all fits.grown.well b.2)
  members_sound top cs mk g n a done (more_of-Member (Var v) ms) z all well h =
      let t = first_fine (var g v) (λ t. Components.members mk (declare (seen_var t) g) n a (Components.with_var done t) ms) z h in
      let k = var_sound g v t.0 t.1 in
      var_fits top g cs a done z t.0 (ap (λ u. variable t.0.what.name.id u ∷ []) (sym k.1)) k.0
      (members_sound top cs mk (declare (seen_var t.0) g) n a (Components.with_var done t.0) ms z all well t.2)
  members_sound top cs mk g n a done (more_of-Member (Run c) end_of-Member) z all well h =
      let next : Components.Reached → Walk Components.Members = λ r. Fine (Components.with_comp done (Run r.what.what) r) in
      let r = first_fine (Components.comp mk g n a c done.instances) (λ r. and_then (check (Components.may_stand true r.what.value) (NotComputer
      (Components.place_of c)) r) next) z h in
      let fits = comp_sound top cs mk g n a c done.instances r.0 all well r.1 in
      let e : Components.with_comp done (Run r.0.what.what) r.0 ≡ z = same_fine (Components.with_comp done (Run r.0.what.what) r.0) z r.2 in
      subst (MembersFit top g cs a done) e (last_fits top g cs a done r.0 fits)
  members_sound top cs mk g n a done (more_of-Member (Run c) (more_of-Member m ms)) z all well h =
      let next : Components.Reached → Walk Components.Members = λ r. Components.members mk g n a (Components.with_comp done (Run r.what.what) r)
      (more_of-Member m ms) in
      let r = first_fine (Components.comp mk g n a c done.instances) (λ r. and_then (check (Components.may_stand false r.what.value) (NotComputer
      (Components.place_of c)) r) next) z h in
      let s = first_fine (check (Components.may_stand false r.0.what.value) (NotComputer (Components.place_of c)) r.0) next z r.2 in
      let k = held (Components.may_stand false r.0.what.value) (NotComputer (Components.place_of c)) r.0 s.0 s.1 in
      let some = stands_is r.0.what.value k.0 in
      let fits = comp_sound top cs mk g n a c done.instances r.0 all well r.1 in
      let w = members_sound top cs mk g n a (Components.with_comp done (Run r.0.what.what) r.0) (more_of-Member m ms) z all fits.grown.well (subst
      (λ (q : Components.Reached). next q ≡ Fine z) (sym k.1) s.2) in
      run_fits top g cs a done z r.0 fits w (stands w.members r.0.what.value some.0 some.1)
