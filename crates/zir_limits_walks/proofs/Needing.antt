-- The needs that the code knows are those of the definition.
use Rattle.std.specs.Prelude.{◌≡◌, ℕ, suc, List, [], ◌∷◌, ◌++◌, length, nat_eq, slice_index, if◌then◌else◌, refl}
use Rattle.std.proofs.Common.{ap, ◌∙◌, arith}
use Rattle.std.proofs.lemmas.Grind.{common_steps}
use Rattle.std.proofs.lemmas.Bool.Decides.{nat_tests}
use Rattle.zir_tree.specs.declared.program.Function.{Function}
use Rattle.zir_tree.specs.declared.program.Instance.{Instance}
use Rattle.zir_tree.specs.declared.program.Core.{Core}
use Rattle.zir_types.specs.declared.scope.Seen.{Seen}
use Rattle.zir_types.specs.Known.{seen_vars, visible_of}
use Rattle.zir_types.specs.Needs.{Needs, placed, with_call, body_need, function_needs, instance_needs, needs_of}
use Rattle.zir_limits.specs.Facts.{CoreFacts, sight, needs_in}
use Rattle.zir_limits_walks.specs.Bodies.{function_need, instance_need, functions_known, instances_known, facts_of, known_of}

-- one more at the end
pushed_at : (xs : List ℕ) (n k : ℕ) → slice_index (xs ++ n ∷ []) k ≡ (if nat_eq k (length xs) then n else slice_index xs k)
pushed_at xs n k = grind (arith, common_steps, nat_tests)

length_more : (xs : List ℕ) (n : ℕ) → length (xs ++ n ∷ []) ≡ suc (length xs)
length_more [] n = refl
length_more (x ∷ xs) n = ap suc (length_more xs n)

-- the needs by these two
abbrev needing : (ℕ → ℕ) → (ℕ → ℕ) → Needs
needing f i = record { by_function = f; by_instance = i }

-- nothing is known of any
abbrev none : ℕ → ℕ
none k = 0

pub functions_keep : (f : CoreFacts) (xs : List Function) → functions_known f xs ≡ record f { function_needs = (functions_known f xs).function_needs }
functions_keep f [] = refl
functions_keep f (x ∷ xs) = functions_keep (record f { function_needs = f.function_needs ++ function_need f x ∷ [] }) xs

pub instances_keep : (f : CoreFacts) (vs : List Seen) (is : List Instance) →
    instances_known f vs is ≡ record f { instance_needs = (instances_known f vs is).instance_needs }
instances_keep f vs [] = refl
instances_keep f vs (i ∷ is) = instances_keep (record f { instance_needs = f.instance_needs ++ instance_need f vs i ∷ [] }) vs is

functions_agree : (f : CoreFacts) (xs : List Function) → (let known : ℕ → ℕ = λ k. slice_index f.instance_needs k in known ≡ none) →
    let known : ℕ → ℕ = λ k. slice_index (functions_known f xs).function_needs k in
    known ≡ function_needs f.shapes (λ k. slice_index f.function_needs k) (length f.function_needs) xs
functions_agree f [] h = refl
functions_agree f (x ∷ xs) h =
    functions_agree (record f { function_needs = f.function_needs ++ function_need f x ∷ [] }) xs h
    ∙ (λ i. function_needs f.shapes (λ k. pushed_at f.function_needs (function_need f x) k i) (length_more f.function_needs (function_need f x) i) xs)
    ∙ (λ i. function_needs f.shapes (placed (λ k. slice_index f.function_needs k) (length f.function_needs) (with_call f.shapes x.params (body_need f.shapes (needing (λ k. slice_index f.function_needs k) (h i)) x.body))) (suc (length f.function_needs)) xs)

instances_agree : (f : CoreFacts) (vs : List Seen) (is : List Instance) →
    needs_in (instances_known f vs is) ≡ instance_needs f.instances (sight f vs) (needs_in f) (length f.instance_needs) is
instances_agree f vs [] = refl
instances_agree f vs (i ∷ is) =
    instances_agree (record f { instance_needs = f.instance_needs ++ instance_need f vs i ∷ [] }) vs is
    ∙ (λ j. instance_needs f.instances (sight f vs) (needing (λ k. slice_index f.function_needs k) (λ k. pushed_at f.instance_needs (instance_need f vs i) k j))
    (length_more f.instance_needs (instance_need f vs i) j) is)

-- a number in no list
abbrev nothing_there : ℕ → ℕ
nothing_there k = let xs : List ℕ = [] in slice_index xs k

nothing_at : (k : ℕ) → nothing_there k ≡ 0
nothing_at k = grind (arith, common_steps)

-- the needs of functions, where none is known before
from_none : (f : CoreFacts) (core : Core) → function_needs f.shapes (λ k. nothing_there k) 0 core.functions ≡ function_needs f.shapes (λ k. 0) 0 core.functions
from_none f core = λ i. function_needs f.shapes (λ k. nothing_at k i) 0 core.functions

-- what is known with the needs of functions alone
abbrev pub with_functions : Core → List ℕ → CoreFacts
with_functions core ns = record (facts_of core) { function_needs = ns }

-- the needs of a core
pub needs_known : (core : Core) → needs_in (known_of core) ≡ needs_of core (visible_of core)
needs_known core =
    let f : CoreFacts = facts_of core in
    let vs : List Seen = seen_vars core.variables in
    let zeros : ℕ → ℕ = λ k. slice_index f.instance_needs k in
    let zero_at : zeros ≡ none = λ i k. nothing_at k i in
    let known : List ℕ = (functions_known f core.functions).function_needs in
    ap (λ (k : CoreFacts). needs_in (instances_known k vs core.instances)) (functions_keep f core.functions)
    ∙ instances_agree (with_functions core known) vs core.instances
    ∙ (λ i. instance_needs core.instances (visible_of core) (needing ((functions_agree f core.functions zero_at ∙ from_none f core) i) (zero_at i)) 0 core.instances)

-- what is known of a core is the core with needs
pub known_keep : (core : Core) → known_of core ≡ record (facts_of core) {
  function_needs = (functions_known (facts_of core) core.functions).function_needs;
  instance_needs = (known_of core).instance_needs;
}
known_keep core =
    instances_keep (functions_known (facts_of core) core.functions) (seen_vars core.variables) core.instances
    ∙ ap (λ (k : CoreFacts). record k { instance_needs = (known_of core).instance_needs }) (functions_keep (facts_of core) core.functions)
