-- The sets of functions and of instances, one after the other.
use Rattle.std.specs.Prelude.{ℕ, zero, suc, ◌+◌, ◌<◌, ◌≤◌, List, [], ◌∷◌, ◌++◌, length, drop, Bool, true, false, ◌||◌, ◌≡◌, nat_eq, slice_index_or, refl}
use Rattle.std.proofs.Common.{ap, sym, ◌∙◌, subst, add-one}
use Rattle.std.proofs.Math.Dec.{eqb-suc-zero, eqb-zero-suc, eqb-suc-suc}
use Rattle.std.proofs.lemmas.List.{drop_all, length_push}
use Rattle.zir_tree.specs.declared.program.Function.{Function}
use Rattle.zir_tree.specs.declared.program.Instance.{Instance}
use Rattle.zir_meaning.specs.Functions.{pick}
use Rattle.zir_meaning.specs.Store.{among}
use Rattle.zir_meaning.specs.Assigned.{Assigning, body_assigns, assigns, more_fun_assigns, fun_assigns, more_instance_assigns, assigning}
use Rattle.zir_assigned.specs.declared.assigned.Assigned.{Assigned}
use Rattle.zir_assigned.specs.Sets.{Variables, Adds, has, has_at}
use Rattle.zir_assigned.specs.Assigned.{Agrees, AgreesAlone}
use Rattle.zir_assigned.proofs.Covering.{drop_item}

-- one function or instance more, behind n others
abbrev one_more : (ℕ → List ℕ) → ℕ → List ℕ → ℕ → List ℕ
one_more before n ids k = pick (nat_eq k n) ids (before k)

-- a set behind others
has_at-push : (sets : List Variables) (ids : Variables) (k id : ℕ) → has_at (sets ++ ids ∷ []) k id ≡ pick (nat_eq k (length sets)) (has ids id) (has_at sets k id)
has_at-push [] ids zero id = refl
has_at-push [] ids (suc k) id = ap (λ b. pick b (has ids id) false) (sym (eqb-suc-zero k))
has_at-push (s ∷ sets) ids zero id = ap (λ b. pick b (has ids id) (has s id)) (sym (eqb-zero-suc (length sets)))
has_at-push (s ∷ sets) ids (suc k) id =
    has_at-push sets ids k id ∙ ap (λ b. pick b (has ids id) (has_at sets k id)) (sym (eqb-suc-suc k (length sets)))

-- sets have what is assigned
abbrev Tells : (ℕ → List ℕ) → List Variables → Type 0
Tells before sets = (k id : ℕ) → among (before k) id ≡ has_at sets k id

tells_more : (before : ℕ → List ℕ) (sets next : List Variables) (n : ℕ) (ids : Variables) (xs : List ℕ) → Tells before sets → length sets ≡ n →
    next ≡ sets ++ ids ∷ [] → ((id : ℕ) → has ids id ≡ among xs id) → Tells (one_more before n xs) next
tells_more before sets next n ids xs tells size is filled = λ k id.
    step (nat_eq k n) k id
    ∙ ap (λ b. pick (nat_eq k n) b (among (before k) id)) (sym (filled id))
    ∙ ap (pick (nat_eq k n) (has ids id)) (tells k id)
    ∙ ap (λ m. pick (nat_eq k m) (has ids id) (has_at sets k id)) (sym size)
    ∙ sym (has_at-push sets ids k id)
    ∙ ap (λ l. has_at l k id) (sym is) where
      step : (b : Bool) (k id : ℕ) → among (pick b xs (before k)) id ≡ pick b (among xs id) (among (before k) id)
      step true k id = refl
      step false k id = refl

size_more : (sets next : List Variables) (n : ℕ) (ids : Variables) → length sets ≡ n → next ≡ sets ++ ids ∷ [] → length next ≡ n + 1
size_more sets next n ids size is = ap length is ∙ length_push sets ids ∙ ap (λ m. m + 1) size

-- what a set has that began with nothing
pub filled : (xs : List ℕ) (empty ids : Variables) → ((id : ℕ) → has empty id ≡ false) → Adds xs (has empty) (has ids) → (id : ℕ) → has ids id ≡ among xs id
filled xs empty ids none adds id = adds id ∙ ap (λ b. b || among xs id) (none id)

-- the sets of the functions so far, and what is assigned with those from here on
pub record FunctionsSoFar (made : Assigned) (fs : List Function) (i : ℕ) : Type 0 where
  pub before : ℕ → List ℕ
  pub size : length made.functions.items ≡ i
  pub agrees : AgreesAlone made before
  pub rest : more_fun_assigns before i (drop i fs) ≡ fun_assigns fs

abbrev pub alone : (ℕ → List ℕ) → Assigning
alone before = record { by_fun = before; by_instance = λ i. [] }

pub functions_none : (made : Assigned) (fs : List Function) → made.functions.items ≡ [] → made.instances.items ≡ [] → FunctionsSoFar made fs 0
functions_none made fs functions instances = record {
  before = λ k. [];
  size = ap length functions;
  agrees = record {
    functions = λ k id. ap (λ sets. has_at sets k id) (sym functions);
    instances = instances;
  };
  rest = refl;
}

pub agrees_alone : (made : Assigned) (before : ℕ → List ℕ) → AgreesAlone made before → Agrees made (alone before)
agrees_alone made before agrees = record {
  functions = agrees.functions;
  instances = λ k id. ap (λ sets. has_at sets k id) (sym agrees.instances);
}

pub function_more : (made next : Assigned) (fs : List Function) (i : ℕ) (f : Function) (ids : Variables) → i < length fs → f ≡ slice_index_or fs i f →
    (so : FunctionsSoFar made fs i) → next.functions.items ≡ made.functions.items ++ ids ∷ [] → next.instances.items ≡ made.instances.items →
    ((id : ℕ) → has ids id ≡ among (body_assigns (alone so.before) f.body) id) → FunctionsSoFar next fs (i + 1)
function_more made next fs i f ids lt at so is same full = record {
  before = one_more so.before i (body_assigns (alone so.before) f.body);
  size = size_more made.functions.items next.functions.items i ids so.size is;
  agrees = record {
    functions = tells_more so.before made.functions.items next.functions.items i ids (body_assigns (alone so.before) f.body) so.agrees.functions so.size is full;
    instances = same ∙ so.agrees.instances;
  };
  rest = ap (λ n. more_fun_assigns (one_more so.before i (body_assigns (alone so.before) f.body)) n (drop (i + 1) fs)) (add-one i)
      ∙ ap (more_fun_assigns so.before i) (sym (drop_item fs i f lt at)) ∙ so.rest;
}

pub functions_all : (made : Assigned) (fs : List Function) (i : ℕ) → length fs ≤ i → FunctionsSoFar made fs i → AgreesAlone made (fun_assigns fs)
functions_all made fs i le so = subst (AgreesAlone made) (ap (more_fun_assigns so.before i) (sym (drop_all i fs le)) ∙ so.rest) so.agrees

-- the same of the instances
pub record InstancesSoFar (made : Assigned) (funs : ℕ → List ℕ) (is : List Instance) (i : ℕ) : Type 0 where
  pub before : ℕ → List ℕ
  pub size : length made.instances.items ≡ i
  pub agrees : Agrees made (record { by_fun = funs; by_instance = before })
  pub rest : more_instance_assigns funs before i (drop i is) ≡ more_instance_assigns funs (λ k. []) 0 is

pub instances_none : (made : Assigned) (funs : ℕ → List ℕ) (is : List Instance) → AgreesAlone made funs → InstancesSoFar made funs is 0
instances_none made funs is agrees = record {
  before = λ k. [];
  size = ap length agrees.instances;
  agrees = agrees_alone made funs agrees;
  rest = refl;
}

pub instance_more : (made next : Assigned) (funs : ℕ → List ℕ) (is : List Instance) (i : ℕ) (x : Instance) (ids : Variables) →
    i < length is → x ≡ slice_index_or is i x → (so : InstancesSoFar made funs is i) → next.functions.items ≡ made.functions.items →
    next.instances.items ≡ made.instances.items ++ ids ∷ [] →
    ((id : ℕ) → has ids id ≡ among (assigns (record { by_fun = funs; by_instance = so.before }) x.body) id) → InstancesSoFar next funs is (i + 1)
instance_more made next funs is i x ids lt at so same more full = record {
  before = one_more so.before i (assigns (record { by_fun = funs; by_instance = so.before }) x.body);
  size = size_more made.instances.items next.instances.items i ids so.size more;
  agrees = record {
    functions = λ k id. so.agrees.functions k id ∙ ap (λ sets. has_at sets k id) (sym same);
    instances = tells_more so.before made.instances.items next.instances.items i ids (assigns (record { by_fun = funs; by_instance = so.before }) x.body) so.agrees.instances so.size more full;
  };
  rest = ap (λ n. more_instance_assigns funs (one_more so.before i (assigns (record { by_fun = funs; by_instance = so.before }) x.body)) n (drop (i + 1) is)) (add-one i)
      ∙ ap (more_instance_assigns funs so.before i) (sym (drop_item is i x lt at)) ∙ so.rest;
}

pub instances_all : (made : Assigned) (fs : List Function) (is : List Instance) (i : ℕ) → length is ≤ i → InstancesSoFar made (fun_assigns fs) is i →
    Agrees made (assigning fs is)
instances_all made fs is i le so =
    subst (λ (of_instances : ℕ → List ℕ). Agrees made (record { by_fun = fun_assigns fs; by_instance = of_instances }))
    (ap (more_instance_assigns (fun_assigns fs) so.before i) (sym (drop_all i is le)) ∙ so.rest) so.agrees
