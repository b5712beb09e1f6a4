-- Instances that keep the rules have their entries, each over those before it, and their bodies are well typed for flat code.
use Rattle.std.specs.Prelude.{ℕ, zero, suc, ◌+◌, ◌<◌, List, [], ◌∷◌, ◌++◌, Some, true, false, ◌≡◌, ◌⊎◌, nat_eq, length, map, slice_get}
use Rattle.std.proofs.Common.{ap, ◌∙◌, sym, subst, refl, arith, inl, inr, length-append}
use Rattle.std.proofs.lemmas.Bool.{ne_eqb, eq-eqb}
use Rattle.std.proofs.lemmas.List.{append-nil, append_assoc}
use Rattle.zir_tree.specs.declared.program.Instance.{Instance}
use Rattle.zir_meaning.specs.Functions.{pick}
use Rattle.zir_types.specs.Scope.{Visible, declare}
use Rattle.zir_code.specs.Scopes.{Scope}
use Rattle.zir_code.specs.Bodies.{parameters, cells_of_all, inside}
use Rattle.zir_sound.specs.Statements.{param_of}
use Rattle.zir_sound.specs.Cores.{AreInstances}
use Rattle.zir_sound.specs.Components.{IsComp}
use Rattle.zir_flow.specs.Kinds.{Entry, Setting}
use Rattle.zir_flow.specs.Fitting.{EmitsFit}
use Rattle.zir_flow.specs.Program.{more_entries}
use Rattle.zir_flat.specs.Needs.{instance_needs}
use Rattle.zir_flat.specs.Programs.{entry_at, one_more_in, entries_from}
use Rattle.zir_flat.specs.Laws.{InstanceFlows, InstancesFlow}
use Rattle.zir_typed_code.specs.Forming.{with_params, FormedInstance, FormedInstances}
use Rattle.zir_typed_parts.proofs.Grounds.{Relates, EntryFound, HaveAll, Ground}
use Rattle.zir_typed_parts.proofs.Found.{Found, found}
use Rattle.zir_typed_parts.proofs.Fitting.{flows}
use Rattle.zir_typed_parts.proofs.Parameters.{with_names, params_relate, params_known}

-- the last of some items, or one before it
pub get_last : {A : Type 0} (xs : List A) (x y : A) (k : ℕ) → slice_get (xs ++ x ∷ []) k ≡ Some y →
    ((slice_get xs k ≡ Some y) × (k < length xs)) ⊎ ((x ≡ y) × (k ≡ length xs))
get_last [] x y zero h = inr (cc, refl)
get_last [] x y (suc k) h = absurd cc
get_last (z ∷ xs) x y zero h = inl (h, omega arith)
get_last (z ∷ xs) x y (suc k) h = one_more (get_last xs x y k h)
  where
    one_more : ((slice_get xs k ≡ Some y) × (k < length xs)) ⊎ ((x ≡ y) × (k ≡ length xs)) →
        ((slice_get (z ∷ xs) (suc k) ≡ Some y) × (suc k < length (z ∷ xs))) ⊎ ((x ≡ y) × (suc k ≡ length (z ∷ xs)))
    one_more (inl p) = inl (p.0, omega arith)
    one_more (inr p) = inr (p.0, omega arith)

-- what an instance's body is over, in any scope at the top
pub record Top {n : ℕ} {R : List ℕ → Visible → Scope → ℕ → Type 0} (relates : Relates n R) (ids : List ℕ)
    (top : Visible) (sc : Scope) : Type 0 where
  pub related : R ids top sc 0
  pub nothing_inside : sc.locals ≡ []

-- an instance over those before it
inside_relates : {n : ℕ} {R : List ℕ → Visible → Scope → ℕ → Type 0} (relates : Relates n R) (ids : List ℕ)
    (top : Visible) (sc : Scope) (i : Instance) → Top relates ids top sc → FormedInstance n ids i →
    R (with_params ids i.params) (declare (map param_of i.params) top) (inside sc i.params) (cells_of_all sc i.params)
inside_relates {n} {R} relates ids top sc i at own =
    let free : 0 + cells_of_all sc i.params ≡ cells_of_all sc i.params = omega arith in
    subst (λ ds. R (with_params ids i.params) (declare (map param_of i.params) top) (record sc { locals = ds ++ parameters sc 0 i.params })
    (cells_of_all sc i.params)) at.nothing_inside
    (subst (R (with_params ids i.params) (declare (map param_of i.params) top) (with_names sc (parameters sc 0 i.params))) free
    (params_relate relates ids top sc 0 i.params at.related own.params))

instance_found : {n : ℕ} {R : List ℕ → Visible → Scope → ℕ → Type 0} (ground : Ground n R) (ids : List ℕ)
    (top : Visible) (sc : Scope) (place : ℕ) (i : Instance) → Top ground.relates ids top sc → FormedInstance n ids i →
    IsComp (declare (map param_of i.params) top) ground.instances i.input i.body i.emits i.value →
    Found n (entry_at ground.st sc place i).value (entry_at ground.st sc place i).emits i.value i.emits
instance_found ground ids top sc place i at own h =
    found ground (with_params ids i.params) (declare (map param_of i.params) top) (inside sc i.params) i.input (cells_of_all sc i.params) i.body i.emits
    i.value (inside_relates ground.relates ids top sc i at own) own.input own.body h

instance_flows : {n : ℕ} {R : List ℕ → Visible → Scope → ℕ → Type 0} (ground : Ground n R) (ids : List ℕ)
    (top : Visible) (sc : Scope) (i : Instance) → Top ground.relates ids top sc → FormedInstance n ids i →
    IsComp (declare (map param_of i.params) top) ground.instances i.input i.body i.emits i.value → InstanceFlows ground.st sc i
instance_flows {n} ground ids top sc i at own h =
    let f = instance_found ground ids top sc 0 i at own h in record {
      known = params_known n ids sc i.params (ground.relates.structs ids top sc 0 at.related) own.params;
      flows = λ out e. flows ground (with_params ids i.params) (declare (map param_of i.params) top) (inside sc i.params) i.input (cells_of_all sc i.params)
          i.body i.emits i.value (instance_needs ground.st sc i) out (inside_relates ground.relates ids top sc i at own) own.input own.body h
          (subst (λ o. EmitsFit o out) f.output_is e) (omega arith) (omega arith);
    }

-- an entry that stands elsewhere too
moved_entry : (n : ℕ) (st st' : Setting) (k : ℕ) (i : Instance) → st'.entries k ≡ st.entries k → EntryFound n st k i → EntryFound n st' k i
moved_entry n st st' k i e x = record {
  is = x.is;
  found = e ∙ x.found;
  params = x.params;
  input = x.input;
  emits = x.emits;
  value = x.value;
  emits_known = x.emits_known;
  value_known = x.value_known;
}

-- one more instance with its entry
have_one_more : (n : ℕ) (st : Setting) (before : List Instance) (i : Instance) (e : Entry) (k : ℕ) → length before ≡ k → HaveAll n st before →
    ((st' : Setting) (j : ℕ) → st'.entries j ≡ Some e → EntryFound n st' j i) → HaveAll n (one_more_in st k e) (before ++ i ∷ [])
have_one_more n st before i e k size all new j x h = picked (get_last before i x j h)
  where
    picked : ((slice_get before j ≡ Some x) × (j < length before)) ⊎ ((i ≡ x) × (j ≡ length before)) → EntryFound n (one_more_in st k e) j x
    picked (inl p) =
        let other : nat_eq j k ≡ false = ne_eqb j k (λ q. let q' : j ≡ k = q in omega arith) in
        moved_entry n st (one_more_in st k e) j x (ap (λ b. pick b (Some e) (st.entries j)) other) (all j x p.0)
    picked (inr p) =
        let here : nat_eq j k ≡ true = ap (λ j. nat_eq j k) (p.1 ∙ size) ∙ eq-eqb k k refl in
        subst (EntryFound n (one_more_in st k e) j) p.0 (new (one_more_in st k e) j (ap (λ b. pick b (Some e) (st.entries j)) here))

-- what is known of an instance's entry
new_entry : {n : ℕ} {R : List ℕ → Visible → Scope → ℕ → Type 0} (ground : Ground n R) (ids : List ℕ)
    (top : Visible) (sc : Scope) (place : ℕ) (i : Instance) → Top ground.relates ids top sc → FormedInstance n ids i →
    IsComp (declare (map param_of i.params) top) ground.instances i.input i.body i.emits i.value →
    (st' : Setting) (j : ℕ) → st'.entries j ≡ Some (entry_at ground.st sc place i) → EntryFound n st' j i
new_entry ground ids top sc place i at own h st' j e =
    let f = instance_found ground ids top sc place i at own h in record {
      is = entry_at ground.st sc place i;
      found = e;
      params = refl;
      input = refl;
      emits = f.output_is;
      value = f.value_is;
      emits_known = f.output_known;
      value_known = f.value_known;
    }

-- what instances behind others give
pub record Placed (n : ℕ) (st : Setting) (sc : Scope) (before : List Instance) (k place : ℕ) (is : List Instance) : Type 0 where
  pub flow : InstancesFlow st sc k place is
  pub entries : HaveAll n (record st { entries = more_entries st.entries k (entries_from st sc k place is) }) (before ++ is)

-- all instances are well typed, each over those before it, and all have their entries behind the last
pub instances_placed : {n : ℕ} {R : List ℕ → Visible → Scope → ℕ → Type 0} (relates : Relates n R)
    (ids : List ℕ) (top : Visible) (sc : Scope) (st : Setting) (before : List Instance) (k place : ℕ) (is : List Instance) → Top relates ids top sc →
    length before ≡ k → HaveAll n st before → FormedInstances n ids is → AreInstances top before is → Placed n st sc before k place is
instances_placed {n} relates ids top sc st before k place [] at size all own h =
    record { flow = tt; entries = subst (HaveAll n st) (sym (append-nil before)) all }
instances_placed {n} relates ids top sc st before k place (i ∷ is) at size all own h =
    let ground : Ground n _ = record { relates = relates; st = st; instances = before; entries = all } in
    let e : Entry = entry_at st sc place i in
    let all' : HaveAll n (one_more_in st k e) (before ++ i ∷ []) =
    have_one_more n st before i e k size all (new_entry ground ids top sc place i at own.0 h.0) in
    let rest = instances_placed relates ids top sc (one_more_in st k e) (before ++ i ∷ []) (suc k) _ is at
    (length-append before (i ∷ []) ∙ (omega arith)) all' own.1 h.1 in
    record {
      flow = (instance_flows ground ids top sc i at own.0 h.0, rest.flow);
      entries = subst (HaveAll n _) (append_assoc before (i ∷ []) is) rest.entries;
    }
