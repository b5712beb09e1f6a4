-- What holds of the instances of a walk, and of the `fun comp`s that it may call.
use Rattle.std.specs.Prelude.{◌≡◌, refl, ℕ, suc, ◌+◌, List, [], ◌∷◌, ◌++◌, length, map, Bool, true, false, ◌&&◌, nat_eq, nat_le, Option, Some, None}
use Rattle.std.specs.Prelude.{slice_get, if◌then◌else◌}
use Rattle.std.proofs.Common.{ap, ◌∙◌, sym, subst, arith}
use Rattle.std.proofs.lemmas.List.{append_assoc}
use Rattle.std.proofs.lemmas.Bool.{eqb-true}
use Rattle.zir_tree.specs.declared.types.Ty.{Ty}
use Rattle.zir_tree.specs.declared.ident.Ident.{Ident}
use Rattle.zir_tree.specs.declared.expr.Expr.{Expr}
use Rattle.zir_tree.specs.declared.comp.Comp.{Call}
use Rattle.zir_tree.specs.declared.program.Instance.{Instance}
use Rattle.zir_types.specs.declared.typed.Heading.{Heading}
use Rattle.zir_types.specs.declared.error.TypeError.TheVariants.{Mismatch}
use Rattle.zir_types.specs.Walk.{Fine, check}
use Rattle.zir_types.specs.Kinds.{same_ty}
use Rattle.zir_types.specs.Scope.{Visible, Placed, declare}
use Rattle.zir_types.specs.Expressions.{InTurn, no_args, args_of, agree}
use Rattle.zir_types.specs.Components.{Maker, Makers, Reached, begun, call_of, entered, instance_from, instance_of, made_anew, reached, recalled}
use Rattle.zir_types.specs.Programs.{Prepared}
use Rattle.zir_types.proofs.Fine.{first_fine, held, same_fine, both}
use Rattle.zir_types.proofs.Agreement.{same_ty_is, agree_is}
use Rattle.zir_sound.specs.Statements.{Each, param_of, param_types}
use Rattle.zir_sound.specs.Components.{IsComp}
use Rattle.zir_sound.specs.Cores.{AreInstances, Begins}
use Rattle.zir_sound.proofs.Found.{args_sound}
use Rattle.zir_sound.proofs.Fronts.{begins_self, begins_more, begins_trans}

-- The parameters of the `fun comp` of this number.
abbrev pub head_of : List Prepared → ℕ → Option Heading
head_of [] id = None
head_of (d ∷ ds) id = if nat_eq d.id id then Some d.head else head_of ds id

-- The parameters of an instance are those of its declaration.
abbrev pub IsOf : List Prepared → Instance → Type 0
IsOf cs i = (h : Heading) × (head_of cs i.declaration ≡ Some h) × (i.params ≡ h.fields)

abbrev pub AreOf : List Prepared → List Instance → Type 0
AreOf cs [] = Unit {0}
AreOf cs (i ∷ is) = IsOf cs i × AreOf cs is

-- Instances so far that keep their rules.
pub record Well (top : Visible) (cs : List Prepared) (is : List Instance) : Type 0 where
  pub rules : AreInstances top [] is
  pub of : AreOf cs is

-- More instances that keep their rules, behind these.
pub record Grown (top : Visible) (cs : List Prepared) (is js : List Instance) : Type 0 where
  pub begins : Begins is js
  pub well : Well top cs js

pub grown_self : (top : Visible) (cs : List Prepared) (is : List Instance) → Well top cs is → Grown top cs is is
grown_self top cs is h = record { begins = begins_self is; well = h }

pub grown_trans : (top : Visible) (cs : List Prepared) (is js ks : List Instance) → Grown top cs is js → Grown top cs js ks → Grown top cs is ks
grown_trans top cs is js ks h k = record { begins = begins_trans is js ks h.begins k.begins; well = k.well }

-- What was reached from these instances on: it keeps its rules, and so do the instances.
pub record Fits (top g : Visible) (cs : List Prepared) (a : Ty) (is : List Instance) (r : Reached) : Type 0 where
  pub grown : Grown top cs is r.instances
  pub typed : IsComp g r.instances a r.what.what r.what.emits r.what.value

-- A `fun comp` that makes instances which keep their rules.
pub record Makes (top : Visible) (cs : List Prepared) (id : ℕ) (m : Maker) : Type 0 where
  pub named : m.id ≡ id
  pub headed : head_of cs id ≡ Some m.head
  pub types : m.head.types ≡ param_types m.head.fields
  pub makes : (n : ℕ) (a : Ty) (is : List Instance) (r : Reached) → Well top cs is → m.make n a is ≡ Fine r →
      Fits top (declare (map param_of m.head.fields) top) cs a is r

abbrev pub AllMake : Visible → List Prepared → Makers → Type 0
AllMake top cs mk = (id : ℕ) (m : Maker) → mk id ≡ Some m → Makes top cs id m

-- One more instance.
instances_more : (top : Visible) (before is : List Instance) (i : Instance) → AreInstances top before is →
    IsComp (declare (map param_of i.params) top) (before ++ is) i.input i.body i.emits i.value → AreInstances top before (is ++ i ∷ [])
instances_more top before [] i h k = (subst (λ v. IsComp (declare (map param_of i.params) top) v i.input i.body i.emits i.value) (none before) k, tt)
  where
    none : {A : Type 0} (xs : List A) → xs ++ [] ≡ xs
    none [] = refl
    none (x ∷ xs) = ap (λ v. x ∷ v) (none xs)
instances_more top before (j ∷ is) i h k = (
  h.0,
  instances_more top (before ++ j ∷ []) is i h.1 (subst (λ v. IsComp (declare (map param_of i.params) top) v i.input i.body i.emits i.value) (sym
      (append_assoc before (j ∷ []) is)) k),
)

are_of_more : (cs : List Prepared) (is : List Instance) (i : Instance) → AreOf cs is → IsOf cs i → AreOf cs (is ++ i ∷ [])
are_of_more cs [] i h k = (k, tt)
are_of_more cs (j ∷ is) i h k = (h.0, are_of_more cs is i h.1 k)

get_last : {A : Type 0} (xs : List A) (x : A) → slice_get (xs ++ x ∷ []) (length xs) ≡ Some x
get_last {A} [] x = refl
get_last {A} (y ∷ xs) x = get_last xs x

-- An instance that is found stands at its place, and is one of this declaration at this type.
abbrev FoundAs : List Prepared → List Instance → ℕ → ℕ → Ty → Placed Instance → Type 0
FoundAs cs is n id a i = (k : ℕ) × (i.place ≡ n + k) × (slice_get is k ≡ Some i.item) × (i.item.declaration ≡ id) × (i.item.input ≡ a) × IsOf cs i.item

found_from : (cs : List Prepared) (n : ℕ) (is : List Instance) (id : ℕ) (a : Ty) (i : Placed Instance) → AreOf cs is → instance_from n is id a ≡ Some i →
    FoundAs cs is n id a i
found_from cs n [] id a i of h = absurd cc
found_from cs n (j ∷ is) id a i of h = found_here cs n j is id a i (nat_eq j.declaration id && same_ty j.input a) refl of h (found_from cs
    (suc n) is id a i of.1)
  where
    found_here : (cs : List Prepared) (n : ℕ) (j : Instance) (is : List Instance) (id : ℕ) (a : Ty) (i : Placed Instance) (b : Bool) →
        (nat_eq j.declaration id && same_ty j.input a) ≡ b →
        AreOf cs (j ∷ is) → (if b then Some (record { place = n; item = j }) else instance_from (suc n) is id a) ≡ Some i →
        (instance_from (suc n) is id a ≡ Some i → FoundAs cs is (suc n) id a i) → FoundAs cs (j ∷ is) n id a i
    found_here cs n j is id a i true e of h next =
        let c = both (nat_eq j.declaration id) (same_ty j.input a) e in
        let same : record { place = n; item = j } ≡ i = cc in
        subst (FoundAs cs (j ∷ is) n id a) same (0, omega arith, refl, eqb-true j.declaration id c.0, same_ty_is j.input a c.1, of.0)
    found_here cs n j is id a i false e of h next = let (k, place, here, named, input, is_of) = next h in (
      suc k,
      place ∙ omega arith,
      here,
      named,
      input,
      is_of,
    )

-- A call of an instance that is typed already.
recalled_sound : (top g : Visible) (cs : List Prepared) (id : ℕ) (m : Maker) (f : Ident) (a : Ty) (es : List Expr) (is : List Instance)
    (i : Placed Instance) (r : Reached) → Makes top cs id m →
    Well top cs is → Each g m.head.types es → instance_from 0 is m.id a ≡ Some i → recalled i f es is ≡ Fine r → Fits top g cs a is r
recalled_sound top g cs id m f a es is i r makes well each found h =
    let w : FoundAs cs is 0 m.id a i = found_from cs 0 is m.id a i well.of found in
    let (k, place, here, named, input, (head, headed, params)) = w in
    let at : i.place ≡ k = place ∙ omega arith in
    let same : Some head ≡ Some m.head = sym headed ∙ ap (head_of cs) (named ∙ makes.named) ∙ makes.headed in
    let heads : head ≡ m.head = cc in
    let types : m.head.types ≡ param_types i.item.params = makes.types ∙ ap (λ (v : Heading). param_types v.fields) (sym heads) ∙ ap param_types (sym params) in
    subst (Fits top g cs a is) (same_fine (reached (Call f i.place es) i.item.emits i.item.value is) r h)
    (record { grown = grown_self top cs is well; typed = (i.item, ap (slice_get is) at ∙ here, input, refl, refl, subst (λ ts. Each g ts es) types each) })

-- A call of a new instance.
anew_sound : (top g : Visible) (cs : List Prepared) (id : ℕ) (m : Maker) (f : Ident) (a : Ty) (es : List Expr) (is : List Instance) (s r : Reached) →
    Makes top cs id m →
    Each g m.head.types es → Fits top (declare (map param_of m.head.fields) top) cs a is s → made_anew m f a es s ≡ Fine r → Fits top g cs a is r
anew_sound top g cs id m f a es is s r makes each fits h =
    let i : Instance = record { declaration = m.id; input = a; params = m.head.fields; body = s.what.what; emits = s.what.emits; value = s.what.value } in
    let all : List Instance = s.instances ++ i ∷ [] in
    let of : IsOf cs i = (m.head, ap (head_of cs) makes.named ∙ makes.headed, refl) in
    let well : Well top cs all = record {
      rules = instances_more top [] s.instances i fits.grown.well.rules fits.typed;
      of =
          are_of_more cs s.instances i fits.grown.well.of of;
    } in
    subst (Fits top g cs a is) (same_fine (reached (Call f (length s.instances) es) s.what.emits s.what.value all) r h)
    (record {
      grown = record { begins = begins_trans is s.instances all fits.grown.begins (begins_more s.instances (i ∷ [])); well = well };
      typed = (i, get_last s.instances i, refl, refl, refl, subst (λ ts. Each g ts es) makes.types each);
    })

begun_sound : (top g : Visible) (cs : List Prepared) (id : ℕ) (m : Maker) (n : ℕ) (f : Ident) (a : Ty) (es : List Expr) (is : List Instance) (r : Reached)
    (full : Bool) → Makes top cs id m →
    Well top cs is → Each g m.head.types es → begun full m n f a es is ≡ Fine r → Fits top g cs a is r
begun_sound top g cs id m n f a es is r true makes well each h = absurd cc
begun_sound top g cs id m n f a es is r false makes well each h =
    let s = first_fine (m.make (suc n) a is) (made_anew m f a es) r h in
    anew_sound top g cs id m f a es is s.0 r makes each (makes.makes (suc n) a is s.0 well s.1) s.2

instance_sound : (top g : Visible) (cs : List Prepared) (id : ℕ) (m : Maker) (n : ℕ) (f : Ident) (a : Ty) (es : List Expr) (is : List Instance)
    (r : Reached) (o : Option (Placed Instance)) →
    instance_from 0 is m.id a ≡ o → Makes top cs id m → Well top cs is → Each g m.head.types es → instance_of o m n f a es is ≡ Fine r → Fits top g cs a is r
instance_sound top g cs id m n f a es is r None e makes well each h = begun_sound top g cs id m n f a es is r (nat_le 256 (n + length is)) makes well each h
instance_sound top g cs id m n f a es is r (Some i) e makes well each h = recalled_sound top g cs id m f a es is i r makes well each e h

pub call_sound : (top g : Visible) (cs : List Prepared) (mk : Makers) (o : Option Maker) (n : ℕ) (f : Ident) (a : Ty) (es : List Expr) (is : List Instance)
    (r : Reached) → mk f.id ≡ o →
    AllMake top cs mk → Well top cs is → call_of o g n f a es is ≡ Fine r → Fits top g cs a is r
call_sound top g cs mk None n f a es is r e all well h = absurd cc
call_sound top g cs mk (Some m) n f a es is r e all well h =
    let z = first_fine (args_of g (InTurn m.head.types) no_args es) (entered m n f a is) r h in
    let k = first_fine (check (agree m.head.types z.0.types) (Mismatch f.at) z.0.whats) (λ ws. instance_of (instance_from 0 is m.id a) m n f a ws is) r z.2 in
    let c = held (agree m.head.types z.0.types) (Mismatch f.at) z.0.whats k.0 k.1 in
    let typed : Each g z.0.types z.0.whats = args_sound g (InTurn m.head.types) no_args es z.0 tt z.1 in
    let each : Each g m.head.types k.0 = subst (Each g m.head.types) c.1 (subst (λ ts. Each g ts z.0.whats) (sym
    (agree_is m.head.types z.0.types c.0)) typed) in
    instance_sound top g cs f.id m n f a k.0 is r (instance_from 0 is m.id a) refl (all f.id m e) well each k.2
