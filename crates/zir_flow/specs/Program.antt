-- The instances of a program with their entries, each over those before it.
use Rattle.std.specs.Prelude.{ℕ, suc, ◌+◌, ◌≤◌, List, [], ◌∷◌, ◌++◌, Option, Some, None, ◌≡◌, length, map, nat_eq}
use Rattle.zir_tree.specs.declared.types.Ty.{Ty}
use Rattle.zir_tree.specs.declared.program.Core.{Core}
use Rattle.zir_tree.specs.declared.program.Instance.{Instance}
use Rattle.zir_meaning.specs.Values.{type_of}
use Rattle.zir_meaning.specs.Functions.{pick}
use Rattle.zir_meaning.specs.Instances.{around}
use Rattle.zir_code.specs.Scopes.{Scope}
use Rattle.zir_code.specs.Types.{type_or_unit, cells_for}
use Rattle.zir_code.specs.Bodies.{ParametersKnown, cells_of_all, inside}
use Rattle.zir_flow.specs.declared.instruction.Instruction.{Instruction}
use Rattle.zir_flow.specs.Kinds.{Entry, Setting, value_in, output_in}
use Rattle.zir_flow.specs.Flowing.{instance_code}
use Rattle.zir_flow.specs.Fitting.{EmitsFit, Flows, depth_of, shape_of}

-- one more entry, at this place
abbrev pub one_more_entry : (ℕ → Option Entry) → ℕ → Option Entry → ℕ → Option Entry
one_more_entry entries n e k = pick (nat_eq k n) e (entries k)

-- these instructions stand in the code from a place on
pub record CodeAt (code : List Instruction) (place : ℕ) (part : List Instruction) : Type 0 where
  pub before : List Instruction
  pub after : List Instruction
  pub split : code ≡ before ++ (part ++ after)
  pub is : length before ≡ place

-- an instance has this entry over those before it, and its code stands at its place
pub record HasEntry (g : Scope) (st : Setting) (code : List Instruction) (i : Instance) (e : Entry) : Type 0 where
  pub params : e.params ≡ map (λ p. type_of p.ty) i.params
  pub input : e.input ≡ i.input
  pub known : ParametersKnown g i.params
  pub value : e.value ≡ value_in st (inside g i.params) i.input (cells_of_all g i.params) i.body
  pub emits : e.emits ≡ output_in st (inside g i.params) i.input (cells_of_all g i.params) i.body
  pub fit : cells_of_all g i.params ≤ e.needs
  pub value_fits : cells_of_all g i.params + cells_for g (type_or_unit e.value) ≤ e.needs
  pub flows : (out : Ty) → EmitsFit e.emits out → Flows st (inside g i.params) e.needs i.input out (cells_of_all g i.params) i.body
  pub depth : depth_of st i.body ≤ e.depth
  pub shape : shape_of st i.body ≡ e.shape
  pub code_stands : CodeAt code e.place (instance_code st g i)

-- an instance has its entry, or none and cannot be called
abbrev pub FitsEntry : Scope → Setting → List Instruction → Instance → Option Entry → Type 0
FitsEntry g st code i None = Unit {0}
FitsEntry g st code i (Some e) = HasEntry g st code i e

-- instances have these entries behind n others, each over those before it
abbrev pub HaveEntries : Scope → Setting → List Instruction → ℕ → List Instance → List (Option Entry) → Type 0
HaveEntries g st code n [] [] = Unit {0}
HaveEntries g st code n [] (e ∷ es) = ⊥
HaveEntries g st code n (i ∷ is) [] = ⊥
HaveEntries g st code n (i ∷ is) (e ∷ es) =
    FitsEntry g st code i e × HaveEntries g (record st { entries = one_more_entry st.entries n e }) code (suc n) is es

-- the entries of instances behind n others
abbrev pub more_entries : (ℕ → Option Entry) → ℕ → List (Option Entry) → ℕ → Option Entry
more_entries entries n [] = entries
more_entries entries n (e ∷ es) = more_entries (one_more_entry entries n e) (suc n) es

-- where nothing is in scope but the top variables
abbrev pub top_scope : Scope → Scope
top_scope g = record g { locals = [] }

-- the instances of a program have the entries of a setting
pub record PlacesOf (core : Core) (top size : ℕ) (g : Scope) (st : Setting) (code : List Instruction) : Type 0 where
  pub entries : List (Option Entry)
  pub assigned : st.assigned ≡ (around core).assigned
  pub have : HaveEntries (top_scope g) (record { entries = λ k. None; assigned = st.assigned }) code 0 core.instances entries
  pub are : (k : ℕ) → st.entries k ≡ more_entries (λ i. None) 0 entries k
