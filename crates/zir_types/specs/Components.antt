-- The walk of a component at its input type, with the instances of `fun comp`s that it reaches.
use Rattle.std.specs.Prelude.{ℕ, suc, ◌+◌, List, [], ◌∷◌, ◌++◌, length, Bool, true, false, ◌&&◌, not, Option, Some, None, if◌then◌else◌, nat_eq, nat_le}
use Rattle.zir_tree.specs.declared.place.Place.{Place}
use Rattle.zir_tree.specs.declared.ident.Ident.{Ident}
use Rattle.zir_tree.specs.declared.types.Base.{Base}
use Rattle.zir_tree.specs.declared.types.Base.TheVariants.{Unit as UnitTy, Bit as BitTy, Bool as BoolTy}
use Rattle.zir_tree.specs.declared.types.Ty.{Ty}
use Rattle.zir_tree.specs.declared.expr.Expr.{Expr}
use Rattle.zir_tree.specs.declared.comp.Turning.{Turning}
use Rattle.zir_tree.specs.declared.comp.Link.{Link}
use Rattle.zir_tree.specs.declared.comp.Comp.{Comp, Take, Takes, Emit, Emits, Return, Do, Repeat, Repeat', While, While', Times, Times', For, For'}
use Rattle.zir_tree.specs.declared.comp.Comp.{If, If', Map, Filter, Call, Block, Block', Pipe, Pipe', end_of-Comp, more_of-Comp, Row_of-Member}
use Rattle.zir_tree.specs.declared.comp.Comp.{end_of-Member, more_of-Member}
use Rattle.zir_tree.specs.declared.comp.Member.{Member, Bind, Var, Run}
use Rattle.zir_tree.specs.declared.program.Instance.{Instance}
use Rattle.zir_types.specs.declared.scope.Shape.{Shape}
use Rattle.zir_types.specs.declared.scope.Signature.{Signature}
use Rattle.zir_types.specs.declared.typed.Typed.{Typed}
use Rattle.zir_types.specs.declared.typed.Args.{Args}
use Rattle.zir_types.specs.declared.typed.TypedVar.{TypedVar}
use Rattle.zir_types.specs.declared.typed.TypedBody.{TypedBody}
use Rattle.zir_types.specs.declared.typed.Heading.{Heading}
use Rattle.zir_types.specs.declared.typed.TypedComp.{TypedComp}
use Rattle.zir_types.specs.declared.error.TypeError.TheVariants.{Mismatch, TwoComputers, NotUnit, NotComputer, NotStreamType, Instances}
use Rattle.zir_types.specs.Walk.{Walk, Fine, Broken, and_then, check}
use Rattle.zir_types.specs.Kinds.{scalar, arr, same_ty}
use Rattle.zir_types.specs.Scope.{Visible, Placed, declare, variable, function_from, has_cells}
use Rattle.zir_types.specs.Expressions.{expr, unasked, InTurn, no_args, args_of, agree, all_same}
use Rattle.zir_types.specs.Statements.{var, seen_var, is_condition, is_count, with_index, do_body}

-- A component with its types, and all instances that were typed up to its end.
pub record Reached : Type 0 where
  pub what : TypedComp
  pub instances : List Instance

-- The members of a block so far: what they emit, the value of the last one, and the instances up to here.
pub record Members : Type 0 where
  pub what : List Member
  pub emits : List Ty
  pub value : Option Ty
  pub instances : List Instance

-- A `fun comp`: its number and parameters, and how its body is typed where so many instances are begun around it.
pub record Maker : Type 0 where
  pub id : ℕ
  pub head : Heading
  pub make : ℕ → Ty → List Instance → Walk Reached

-- The value type of a computer of unit.
abbrev pub unit_value : Option Ty
unit_value = Some (scalar UnitTy)

-- Whether two parts have one kind and one value type, or both emit nothing or one type.
abbrev pub same_option : Option Ty → Option Ty → Bool
same_option None None = true
same_option None (Some t) = false
same_option (Some s) None = false
same_option (Some s) (Some t) = same_ty s t

-- What is emitted, as a list.
abbrev pub emitted : Option Ty → List Ty
emitted None = []
emitted (Some t) = t ∷ []

-- Whether all emitted types are one.
abbrev pub agreed : List Ty → Bool
agreed [] = true
agreed (t ∷ ts) = all_same t ts

-- The emitted type, where anything is emitted.
abbrev pub first_of : List Ty → Option Ty
first_of [] = None
first_of (t ∷ ts) = Some t

-- The place of a component.
abbrev pub place_of : Comp → Place
place_of (Take p) = p
place_of (Takes n p) = p
place_of (Emit e p) = p
place_of (Emits e p) = p
place_of (Return e p) = p
place_of (Do b p) = p
place_of (Repeat' _ c p) = p
place_of (While' turning e _ c p) = p
place_of (Times' e _ c p) = p
place_of (For' x a n _ c p) = p
place_of (If' e _ c _ d p) = p
place_of (Map f k p) = p
place_of (Filter f k p) = p
place_of (Call f k es) = f.at
place_of (Block' _ ms p) = p
place_of (Pipe' link _ c _ d p) = p

-- A component that emits this and has this value, behind these instances.
abbrev pub reached : Comp → Option Ty → Option Ty → List Instance → Reached
reached c out value is = record { what = record { what = c; emits = out; value = value }; instances = is }

-- The rule of `emit`: the type has cells.
abbrev pub emit_of : List Shape → Place → List Instance → Typed → Walk Reached
emit_of ss p is t = check (has_cells ss t.ty) (NotStreamType p) (reached (Emit t.what p) (Some t.ty) unit_value is)

-- An array of these lengths that is emitted element by element.
abbrev pub emits_if : List Shape → List ℕ → Base → Place → List Instance → Typed → Walk Reached
emits_if ss [] b p is t = Broken (Mismatch p)
emits_if ss (n ∷ ns) b p is t =
    let element : Ty = record { lengths = ns; base = b } in
    check (has_cells ss element) (NotStreamType p) (reached (Emits t.what p) (Some element) unit_value is)

-- The rule of `emits`: an array, whose elements have cells.
abbrev pub emits_of : List Shape → Place → List Instance → Typed → Walk Reached
emits_of ss p is t = emits_if ss t.ty.lengths t.ty.base p is t

-- The value of `return` is its expression.
abbrev pub return_of : Place → List Instance → Typed → Walk Reached
return_of p is t = Fine (reached (Return t.what p) None (Some t.ty) is)

-- The value of `do` is that of its body.
abbrev pub do_of : Place → List Instance → TypedBody → Walk Reached
do_of p is b = Fine (reached (Do b.what p) None (Some b.ty) is)

-- Whether a component is a computer of unit.
abbrev pub is_unit : Reached → Bool
is_unit r = same_option r.what.value unit_value

-- The rule of `repeat`, which has no value.
abbrev pub repeat_of : Place → Reached → Walk Reached
repeat_of p r = check (is_unit r) (NotUnit p) (reached (Repeat r.what.what p) r.what.emits None r.instances)

-- The body of a loop, whose condition or bounds have their type.
abbrev pub loop_of : Bool → Place → Comp → Reached → Walk Reached
loop_of right p c r = and_then (check right (Mismatch p) r) (λ r. check (is_unit r) (NotUnit p) (reached c r.what.emits unit_value r.instances))

-- The rule of `while` and `until`.
abbrev pub while_of : Turning → Place → Typed → Reached → Walk Reached
while_of turning p t r = loop_of (is_condition t) p (While turning t.what r.what.what p) r

-- The rule of `times`.
abbrev pub times_of : Place → Typed → Reached → Walk Reached
times_of p t r = loop_of (is_count t) p (Times t.what r.what.what p) r

-- The rule of `for`.
abbrev pub for_of : Ident → Place → Typed → Typed → Reached → Walk Reached
for_of x p a n r = loop_of (is_count a && is_count n) p (For x a.what n.what r.what.what p) r

-- The rule of `if`: both branches have one kind and one value type, and what they emit agrees.
abbrev pub if_of : Place → Typed → Reached → Reached → Walk Reached
if_of p t r s =
    let outs : List Ty = emitted r.what.emits ++ emitted s.what.emits in
    check (is_condition t && (same_option r.what.value s.what.value && agreed outs)) (Mismatch p)
    (reached (If t.what r.what.what s.what.what p) (first_of outs) r.what.value s.instances)

-- The right side of a link reads what the left side emits, and bits where that emits nothing.
abbrev pub link_type : Option Ty → Ty
link_type None = scalar BitTy
link_type (Some t) = t

-- A link whose sides have these values; two computers are one too many.
abbrev pub pipe_if : Option Ty → Option Ty → Link → Place → Reached → Reached → Walk Reached
pipe_if None v link p r s = Fine (reached (Pipe link r.what.what s.what.what p) s.what.emits v s.instances)
pipe_if (Some t) None link p r s = Fine (reached (Pipe link r.what.what s.what.what p) s.what.emits (Some t) s.instances)
pipe_if (Some t) (Some u) link p r s = Broken (TwoComputers p)

-- The rule of a link.
abbrev pub pipe_of : Link → Place → Reached → Reached → Walk Reached
pipe_of link p r s = pipe_if r.what.value s.what.value link p r s

-- Whether a function takes this type alone.
abbrev pub takes_one : List Ty → Ty → Bool
takes_one [] a = false
takes_one (t ∷ []) a = same_ty t a
takes_one (t ∷ (u ∷ ts)) a = false

-- The rule of `map`: a function from the input type to a type that is not unit.
abbrev pub map_of : Option (Placed Signature) → Ident → Place → Ty → List Instance → Walk Reached
map_of None f p a is = Broken (Mismatch p)
map_of (Some s) f p a is =
    check (takes_one s.item.params a && not (same_ty s.item.result (scalar UnitTy))) (Mismatch p) (reached (Map f s.place p) (Some s.item.result) None is)

-- The rule of `filter`: a function from the input type to bool.
abbrev pub filter_of : Option (Placed Signature) → Ident → Place → Ty → List Instance → Walk Reached
filter_of None f p a is = Broken (Mismatch p)
filter_of (Some s) f p a is =
    check (takes_one s.item.params a && same_ty s.item.result (scalar BoolTy)) (Mismatch p) (reached (Filter f s.place p) (Some a) None is)

-- The instance of a declaration at an input type, with its place, where so many stand before these.
abbrev pub instance_from : ℕ → List Instance → ℕ → Ty → Option (Placed Instance)
instance_from n [] id a = None
instance_from n (i ∷ is) id a = if nat_eq i.declaration id && same_ty i.input a then Some (record { place = n; item = i }) else instance_from (suc n) is id a

-- A new instance comes behind those that its body reached.
abbrev pub made_anew : Maker → Ident → Ty → List Expr → Reached → Walk Reached
made_anew m f a es r =
    Fine (reached (Call f (length r.instances) es) r.what.emits r.what.value
    (r.instances ++ record { declaration = m.id; input = a; params = m.head.fields; body = r.what.what; emits = r.what.emits; value = r.what.value } ∷ []))

-- At most 256 instances, those that are begun among them.
abbrev pub begun : Bool → Maker → ℕ → Ident → Ty → List Expr → List Instance → Walk Reached
begun true m around f a es is = Broken (Instances f.at)
begun false m around f a es is = and_then (m.make (suc around) a is) (made_anew m f a es)

-- An instance that is typed already.
abbrev pub recalled : Placed Instance → Ident → List Expr → List Instance → Walk Reached
recalled i f es is = Fine (reached (Call f i.place es) i.item.emits i.item.value is)

-- The instance of a call: typed already, or typed now.
abbrev pub instance_of : Option (Placed Instance) → Maker → ℕ → Ident → Ty → List Expr → List Instance → Walk Reached
instance_of None m around f a es is = begun (nat_le 256 (around + length is)) m around f a es is
instance_of (Some i) m around f a es is = recalled i f es is

-- A call whose arguments agree goes on to its instance.
abbrev pub entered : Maker → ℕ → Ident → Ty → List Instance → Args → Walk Reached
entered m around f a is as_ =
    and_then (check (agree m.head.types as_.types) (Mismatch f.at) as_.whats) (λ es. instance_of (instance_from 0 is m.id a) m around f a es is)

-- A call of a `fun comp`.
abbrev pub call_of : Option Maker → Visible → ℕ → Ident → Ty → List Expr → List Instance → Walk Reached
call_of None g around f a es is = Broken (Mismatch f.at)
call_of (Some m) g around f a es is = and_then (args_of g (InTurn m.head.types) no_args es) (entered m around f a is)

-- Before the first member.
abbrev pub no_members : List Instance → Members
no_members is = record { what = []; emits = []; value = unit_value; instances = is }

-- A variable behind these members; it has no value, so a block that ends with it has unit.
abbrev pub with_var : Members → TypedVar → Members
with_var done v = record { what = done.what ++ Var v.what ∷ []; emits = done.emits; value = unit_value; instances = done.instances }

-- A component behind these members, as this member.
abbrev pub with_comp : Members → Member → Reached → Members
with_comp done m r = record { what = done.what ++ m ∷ []; emits = done.emits ++ emitted r.what.emits; value = r.what.value; instances = r.instances }

-- Whether no member follows.
abbrev pub is_last : {m : _} → Row_of-Member m → Bool
is_last end_of-Member = true
is_last (more_of-Member m ms) = false

-- A member before the last is a computer.
abbrev pub may_stand : Bool → Option Ty → Bool
may_stand true v = true
may_stand false None = false
may_stand false (Some t) = true

-- A bound component is a computer.
abbrev pub bound_at : Option Ty → Place → (Ty → Walk Members) → Walk Members
bound_at None p next = Broken (NotComputer p)
bound_at (Some t) p next = next t

-- The rule of a block: what its members emit agrees.
abbrev pub block_of : Place → Members → Walk Reached
block_of p ms = check (agreed ms.emits) (Mismatch p) (reached (Block ms.what p) (first_of ms.emits) ms.value ms.instances)

-- The `fun comp`s that a body may call, by the numbers of their declarations.
abbrev pub Makers : Type 0
Makers = ℕ → Option Maker

abbrev mutual
  -- A component at its input type, where so many instances are begun around it, behind the instances so far.
  pub comp : Makers → Visible → ℕ → Ty → Comp → List Instance → Walk Reached
  comp mk g n a (Take p) is = Fine (reached (Take p) None (Some a) is)
  comp mk g n a (Takes k p) is = Fine (reached (Takes k p) None (Some (arr k a)) is)
  comp mk g n a (Emit e p) is = and_then (expr g unasked e) (emit_of g.shapes p is)
  comp mk g n a (Emits e p) is = and_then (expr g unasked e) (emits_of g.shapes p is)
  comp mk g n a (Return e p) is = and_then (expr g unasked e) (return_of p is)
  comp mk g n a (Do b p) is = and_then (do_body g b) (do_of p is)
  comp mk g n a (Repeat' _ (more_of-Comp c end_of-Comp) p) is = and_then (comp mk g n a c is) (repeat_of p)
  comp mk g n a (While' turning e _ (more_of-Comp c end_of-Comp) p) is =
      and_then (expr g unasked e) (λ t. and_then (comp mk g n a c is) (while_of turning p t))
  comp mk g n a (Times' e _ (more_of-Comp c end_of-Comp) p) is =
      and_then (expr g unasked e) (λ t. and_then (comp mk g n a c is) (times_of p t))
  comp mk g n a (For' x e f _ (more_of-Comp c end_of-Comp) p) is =
      and_then (expr g unasked e) (λ first. and_then (expr g unasked f) (λ turns. and_then (comp mk (with_index x g) n a c is) (for_of x p first turns)))
  comp mk g n a (If' e _ (more_of-Comp c end_of-Comp) _ (more_of-Comp d end_of-Comp) p) is =
      and_then (expr g unasked e) (λ t. and_then (comp mk g n a c is) (λ r. and_then (comp mk g n a d r.instances) (if_of p t r)))
  comp mk g n a (Map f k p) is = map_of (function_from 0 g.functions f.id) f p a is
  comp mk g n a (Filter f k p) is = filter_of (function_from 0 g.functions f.id) f p a is
  comp mk g n a (Call f k es) is = call_of (mk f.id) g n f a es is
  comp mk g n a (Block' _ ms p) is = and_then (members mk g n a (no_members is) ms) (block_of p)
  comp mk g n a (Pipe' link _ (more_of-Comp c end_of-Comp) _ (more_of-Comp d end_of-Comp) p) is =
      and_then (comp mk g n a c is) (λ r. and_then (comp mk g n (link_type r.what.emits) d r.instances) (pipe_of link p r))

  -- Members from some place on, behind those before them.
  pub members : Makers → Visible → ℕ → Ty → Members → {m : _} → Row_of-Member m → Walk Members
  members mk g n a done end_of-Member = Fine done
  members mk g n a done (more_of-Member (Bind x c) ms) =
      and_then (comp mk g n a c done.instances) (λ r. bound_at r.what.value (place_of c)
      (λ t. members mk (declare (variable x.id t ∷ []) g) n a (with_comp done (Bind x r.what.what) r) ms))
  members mk g n a done (more_of-Member (Var v) ms) =
      and_then (var g v) (λ t. members mk (declare (seen_var t) g) n a (with_var done t) ms)
  members mk g n a done (more_of-Member (Run c) ms) =
      and_then (comp mk g n a c done.instances) (λ r. and_then (check (may_stand (is_last ms) r.what.value) (NotComputer (place_of c)) r)
      (λ r. members mk g n a (with_comp done (Run r.what.what) r) ms))
