-- The first call that is too deep is that of the definition.
use Rattle.std.specs.Prelude.{◌≡◌, ℕ, suc, ◌+◌, ◌<◌, ◌≤◌, min, List, [], ◌∷◌, ◌++◌, length, replicate, Option, Some, None, slice_index, refl}
use Rattle.std.proofs.Common.{ap, ◌∙◌, sym, subst, arith, append_assoc}
use Rattle.std.proofs.lemmas.Grind.{common_steps}
use Rattle.std.proofs.lemmas.List.{get_or-replicate, length-replicate}
use Rattle.zir_tree.specs.declared.place.Place.{Place}
use Rattle.zir_tree.specs.declared.program.Function.{Function}
use Rattle.zir_tree.specs.declared.program.Instance.{Instance}
use Rattle.zir_tree.specs.declared.program.Prog.{Prog}
use Rattle.zir_tree.specs.declared.program.Core.{Core}
use Rattle.zir_types.specs.Scope.{Visible}
use Rattle.zir_types.specs.Known.{seen_vars, visible_of}
use Rattle.zir_types.specs.Measures.{ToFunction, ToInstance, Measure, in_comp}
use Rattle.zir_types.specs.Limits.{Calling, Depths, depth_of, deepened, deep_calls, too_deep, calling_functions, calling_instances, callers, first_place}
use Rattle.zir_types.specs.Limits.{in_function, in_instance, in_vars}
use Rattle.zir_limits.specs.declared.notes.Call.{Call}
use Rattle.zir_limits.specs.declared.notes.Target.TheVariants.{Function as FunctionTarget, Instance as InstanceTarget}
use Rattle.zir_limits.specs.Notes.{calls_in, first_of}
use Rattle.zir_limits.proofs.Noted.{first_of-more}
use Rattle.zir_limits.proofs.Order.{first_of-none}
use Rattle.zir_limits_walks.specs.declared.depth.Levels.{Levels}
use Rattle.zir_limits_walks.specs.declared.found.Measured.{Measured}
use Rattle.zir_limits_walks.specs.Bodies.{function_calls, instance_calls, measured, facts_of}
use Rattle.zir_limits_walks.specs.Depths.{entered, raised_at, raised, functions_entered, instances_entered, uncalled, deep_in}
use Rattle.zir_limits_walks.proofs.DepthLaws.{Agrees, entered_agrees, entered_deep}
use Rattle.zir_limits_walks.proofs.Firsts.{calls-function, calls-instance, calls-main}

-- the bodies that are left and the levels so far tell the first deep call
record Deep (whole : Option Place) (l : Levels) (bs : List Calling) : Type 0 where
  depths : Depths
  agrees : Agrees l depths
  rest : first_of l.deep (too_deep depths bs) ≡ whole

-- a body is entered
enter_one : (whole : Option Place) (l : Levels) (b : Calling) (bs : List Calling) (m : ℕ) (d : Deep whole l (b ∷ bs)) →
    m ≡ min (suc (depth_of d.depths b.target)) 17 → Deep whole (entered m (calls_in b.holds) l) bs
enter_one whole l b bs m d h =
    let n = suc (depth_of d.depths b.target) in record {
      depths = deepened n b.holds d.depths;
      agrees = entered_agrees n m b.holds l d.depths h d.agrees;
      rest =
          ap (λ o. first_of o (too_deep (deepened n b.holds d.depths) bs)) (entered_deep n m b.holds l h)
          ∙ sym (first_of-more l.deep (deep_calls n b.holds) (too_deep (deepened n b.holds d.depths) bs)) ∙ d.rest;
    }

length_raised_at : (n k : ℕ) (xs : List ℕ) → length (raised_at n k xs) ≡ length xs
length_raised_at n k xs = grind (arith, common_steps)

-- how many functions and instances the levels have
abbrev Wide : ℕ → ℕ → Levels → Type 0
Wide fs is l = (length l.functions ≡ fs) × (length l.instances ≡ is)

wide_raised : (fs is n : ℕ) (c : Call) (l : Levels) → Wide fs is l → Wide fs is (raised n c l)
wide_raised fs is n c l w = elim c.target as (λ t. Wide fs is (raised n (record { target = t; at = c.at }) l)) [
  | FunctionTarget k ↦ (length_raised_at n k l.functions ∙ w.0, w.1)
  | InstanceTarget k ↦ (w.0, length_raised_at n k l.instances ∙ w.1)
]

wide_entered : (fs is n : ℕ) (cs : List Call) (l : Levels) → Wide fs is l → Wide fs is (entered n cs l)
wide_entered fs is n [] l w = w
wide_entered fs is n (c ∷ cs) l w = wide_entered fs is n cs (raised n c l) (wide_raised fs is n c l w)

-- the levels with what is left
abbrev Stands : ℕ → ℕ → Option Place → Levels → List Calling → Type 0
Stands fs is whole l bs = Deep whole l bs × Wide fs is l

instances_behind : (all : List Instance) (g : Visible) (n : ℕ) (is : List Instance) (done : List Calling) →
    calling_instances all g n is done ≡ calling_instances all g n is [] ++ done
instances_behind all g n [] done = refl
instances_behind all g n (i ∷ is) done =
    let b : Calling = record { target = Some (ToInstance n); holds = in_instance all g i } in
    instances_behind all g (suc n) is (b ∷ done)
    ∙ sym (append_assoc (calling_instances all g (suc n) is []) (b ∷ []) done)
    ∙ ap (λ xs. xs ++ done) (sym (instances_behind all g (suc n) is (b ∷ [])))

functions_behind : (g : Visible) (n : ℕ) (fs : List Function) (done : List Calling) → calling_functions g n fs done ≡ calling_functions g n fs [] ++ done
functions_behind g n [] done = refl
functions_behind g n (f ∷ fs) done =
    let b : Calling = record { target = Some (ToFunction n); holds = in_function g f } in
    functions_behind g (suc n) fs (b ∷ done)
    ∙ sym (append_assoc (calling_functions g (suc n) fs []) (b ∷ []) done)
    ∙ ap (λ xs. xs ++ done) (sym (functions_behind g (suc n) fs (b ∷ [])))

-- one more than a level
one_more : (m level depth : ℕ) → m ≡ min (suc level) 17 → level ≡ min depth 17 → m ≡ min (suc depth) 17
one_more m level depth h k = omega arith

all_instances : (fs n : ℕ) (whole : Option Place) (all : List Instance) (g : Visible) (k : ℕ) (is : List Instance) (l : Levels) (bs : List Calling) →
    k + length is ≤ n → Stands fs n whole l (calling_instances all g k is [] ++ bs) → Stands fs n whole (instances_entered k (instance_calls all g is) l) bs
all_instances fs n whole all g k [] l bs h s = s
all_instances fs n whole all g k (i ∷ is) l bs h s =
    let b : Calling = record { target = Some (ToInstance k); holds = in_instance all g i } in
    let order : calling_instances all g k (i ∷ is) [] ++ bs ≡ calling_instances all g (suc k) is [] ++ (b ∷ bs) =
    ap (λ xs. xs ++ bs) (instances_behind all g (suc k) is (b ∷ [])) ∙ append_assoc (calling_instances all g (suc k) is []) (b ∷ []) bs in
    let later : Levels = instances_entered (suc k) (instance_calls all g is) l in
    let t : Stands fs n whole later (b ∷ bs) = all_instances fs n whole all g (suc k) is l (b ∷ bs) (omega arith) (subst (Stands fs n whole l) order s) in
    let m = min (suc (slice_index later.instances k)) 17 in
    let in_range : k < length later.instances = omega (arith, t.1.1) in
    let here : Deep whole (entered m (calls_in (in_instance all g i)) later) bs =
    enter_one whole later b bs m t.0 (one_more m (slice_index later.instances k) (t.0.depths (ToInstance k)) refl (t.0.agrees.instances k in_range)) in
    subst (λ cs. Stands fs n whole (entered m cs later) bs) (sym (calls-instance all g i)) (here, wide_entered fs n m (calls_in (in_instance all g i)) later t.1)

all_functions : (n is : ℕ) (whole : Option Place) (g : Visible) (k : ℕ) (fs : List Function) (l : Levels) (bs : List Calling) →
    k + length fs ≤ n → Stands n is whole l (calling_functions g k fs [] ++ bs) → Stands n is whole (functions_entered k (function_calls g fs) l) bs
all_functions n is whole g k [] l bs h s = s
all_functions n is whole g k (f ∷ fs) l bs h s =
    let b : Calling = record { target = Some (ToFunction k); holds = in_function g f } in
    let order : calling_functions g k (f ∷ fs) [] ++ bs ≡ calling_functions g (suc k) fs [] ++ (b ∷ bs) =
    ap (λ xs. xs ++ bs) (functions_behind g (suc k) fs (b ∷ [])) ∙ append_assoc (calling_functions g (suc k) fs []) (b ∷ []) bs in
    let later : Levels = functions_entered (suc k) (function_calls g fs) l in
    let t : Stands n is whole later (b ∷ bs) = all_functions n is whole g (suc k) fs l (b ∷ bs) (omega arith) (subst (Stands n is whole l) order s) in
    let m = min (suc (slice_index later.functions k)) 17 in
    let in_range : k < length later.functions = omega (arith, t.1.0) in
    let here : Deep whole (entered m (calls_in (in_function g f)) later) bs =
    enter_one whole later b bs m t.0 (one_more m (slice_index later.functions k) (t.0.depths (ToFunction k)) refl (t.0.agrees.functions k in_range)) in
    subst (λ cs. Stands n is whole (entered m cs later) bs) (sym (calls-function g f)) (here, wide_entered n is m (calls_in (in_function g f)) later t.1)

length_function_calls : (g : Visible) (fs : List Function) → length (function_calls g fs) ≡ length fs
length_function_calls g [] = refl
length_function_calls g (f ∷ fs) = ap suc (length_function_calls g fs)

length_instance_calls : (all : List Instance) (g : Visible) (is : List Instance) → length (instance_calls all g is) ≡ length is
length_instance_calls all g [] = refl
length_instance_calls all g (i ∷ is) = ap suc (length_instance_calls all g is)

append_none : (xs : List Calling) → xs ++ [] ≡ xs
append_none [] = refl
append_none (x ∷ xs) = ap (λ ys. x ∷ ys) (append_none xs)

so_many : (n : ℕ) → let none : ℕ = 0 in length (replicate n none) ≡ n
so_many n = let none : ℕ = 0 in length-replicate n none

-- before all calls
before_calls : (fs is : ℕ) (bs : List Calling) → Stands fs is (first_place (too_deep (λ t. 0) bs)) (uncalled fs is) bs
before_calls fs is bs = (
  record {
    depths = λ t. 0;
    agrees = record {
      functions = λ k h. get_or-replicate fs k 0 0 (omega (arith, so_many fs));
      instances = λ k h. get_or-replicate is k 0 0 (omega (arith, so_many is));
    };
    rest = first_of-none (too_deep (λ t. 0) bs);
  },
  (so_many fs, so_many is),
)

-- the bodies that none calls
called_by_none : (fs is : ℕ) (whole : Option Place) (l : Levels) (ms ns : List Measure) (bs : List Calling) →
    Stands fs is whole l (record { target = None; holds = ms } ∷ record { target = None; holds = ns } ∷ bs) → Stands fs is whole (entered 1 (calls_in ns) (entered 1 (calls_in ms) l)) bs
called_by_none fs is whole l ms ns bs s =
    let b : Calling = record { target = None; holds = ns } in
    let d : Deep whole (entered 1 (calls_in ms) l) (b ∷ bs) = enter_one whole l (record { target = None; holds = ms }) (b ∷ bs) 1 s.0 refl in
    (enter_one whole (entered 1 (calls_in ms) l) b bs 1 d refl, wide_entered fs is 1 (calls_in ns) (entered 1 (calls_in ms) l) (wide_entered fs is 1 (calls_in ms) l s.1))

-- the first deep call of a core
pub deep_found : (p : Prog) (core : Core) → deep_in (measured p core) ≡ first_place (too_deep (λ t. 0) (callers core (visible_of core)))
deep_found p core =
    let g : Visible = visible_of core in
    let all : List Instance = core.instances in
    let m : Measured = measured p core in
    let fs = length m.functions in
    let is = length m.instances in
    let whole = first_place (too_deep (λ t. 0) (callers core g)) in
    let main : List Measure = in_comp all g core.input core.main in
    let l0 : Levels = uncalled fs is in
    let first : Stands fs is whole (entered 1 m.variables (entered 1 (calls_in main) l0)) (calling_instances all g 0 all [] ++ calling_functions g 0 core.functions []) =
    called_by_none fs is whole l0 main (in_vars g core.variables) _ (before_calls fs is (callers core g)) in
    let second : Stands fs is whole (entered 1 m.variables (entered 1 m.main l0)) (calling_instances all g 0 all [] ++ calling_functions g 0 core.functions []) =
    subst (λ cs. Stands fs is whole (entered 1 m.variables (entered 1 cs l0)) (calling_instances all g 0 all [] ++ calling_functions g 0 core.functions []))
    (sym (calls-main (facts_of core) (seen_vars core.variables) p core)) first in
    let third = all_instances fs is whole all g 0 all (entered 1 m.variables (entered 1 m.main l0)) (calling_functions g 0 core.functions []) (omega (arith, length_instance_calls all g all)) second in
    let last = all_functions fs is whole g 0 core.functions (instances_entered 0 m.instances (entered 1 m.variables (entered 1 m.main l0))) [] (omega (arith, length_function_calls g core.functions))
    (subst (Stands fs is whole (instances_entered 0 m.instances (entered 1 m.variables (entered 1 m.main l0)))) (sym (append_none (calling_functions g 0 core.functions []))) third) in
    last.0.rest
