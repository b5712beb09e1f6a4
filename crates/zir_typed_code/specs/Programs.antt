-- That what typing accepts is what the laws of code ask for: the top of a program and its functions.
use Rattle.std.specs.Prelude.{◌≡◌, ◌<◌, ◌≤◌, ℕ, length, List, [], ◌∷◌, Option, Some, None, slice_get}
use Rattle.zir_tree.specs.declared.program.Function.{Function}
use Rattle.zir_tree.specs.declared.program.Core.{Core}
use Rattle.zir_meaning.specs.Functions.{library_of}
use Rattle.zir_code.specs.declared.scope.Holder.{Holder}
use Rattle.zir_code.specs.declared.scope.Signature.{Signature}
use Rattle.zir_code.specs.Needs.{all_peak}
use Rattle.zir_code.specs.Bodies.{FineAll}
use Rattle.zir_code.specs.Calls.{Calls}
use Rattle.zir_compile.specs.Signing.{no_signature, signatures_of, FineAfter}
use Rattle.zir_eval.specs.Opening.{top_holders, top_cells, program_scope, initial_assignments, KnowsTypes}
use Rattle.zir_sound.specs.Statements.{param_types}
use Rattle.zir_sound.specs.Cores.{IsSound, result_type}
use Rattle.zir_typed_code.specs.Forming.{WellFormed, top_numbers}
use Rattle.zir_typed_code.specs.Scopes.{SameScope}

-- Each of these functions has a signature.
abbrev pub AllSigned : List (Option Signature) → Type 0
AllSigned [] = Unit {0}
AllSigned (None ∷ more) = ⊥
AllSigned (Some made ∷ more) = AllSigned more

-- The top variables of a core, as code has them.
abbrev pub tops_of : Core → List Holder
tops_of core = top_holders core.structs 0 core.variables

-- 32 bits hold all numbers of the code of each function of a core, so that each has a signature.
abbrev pub IsSigned : Core → Type 0
IsSigned core = AllSigned (signatures_of core.structs (tops_of core) core.functions)

-- Each function of a core is found at its place.
abbrev pub AllFound : Core → Type 0
AllFound core = (k : ℕ) → k < length core.functions → (made : Signature) × ((program_scope core).funs k ≡ Some made)

-- Where each function is found, each has a signature.
abbrev pub FoundAreSigned : Type 0
FoundAreSigned = (core : Core) → AllFound core → IsSigned core

-- Code has at the top of a program all that is seen there, in any number of cells.
abbrev pub TopIsSame : Type 0
TopIsSame =
    (core : Core) (sound : IsSound core) → WellFormed core → IsSigned core → (n : ℕ) → SameScope (top_numbers core) sound.top (program_scope core) n

-- The functions of a program are well typed for code, each in the cells of its signature.
abbrev pub FunctionsFit : Type 0
FunctionsFit =
    (core : Core) → IsSound core → WellFormed core → IsSigned core → FineAfter core.structs (tops_of core) no_signature 0 core.functions

-- So they do what they mean.
abbrev pub TypedFunctionsMean : Type 0
TypedFunctionsMean =
    (core : Core) → IsSound core → WellFormed core → IsSigned core →
    Calls (top_cells core) (library_of core.structs core.functions) core.structs (program_scope core).tops (program_scope core).funs

-- The function at a place has a signature there, of the types that it is written with.
pub record SignedAt (core : Core) (k : ℕ) (f : Function) : Type 0 where
  pub made : Signature
  pub found : (program_scope core).funs k ≡ Some made
  pub params : made.params ≡ param_types f.params
  pub result : made.result ≡ result_type f.result

-- Each function of a program is found at its place.
abbrev pub SignaturesAreFound : Type 0
SignaturesAreFound =
    (core : Core) → IsSound core → WellFormed core → IsSigned core →
    (k : ℕ) (f : Function) → slice_get core.functions k ≡ Some f → SignedAt core k f

-- The initial values of top variables are well typed for code, where there is room for all that they use.
abbrev pub InitialsFit : Type 0
InitialsFit =
    (core : Core) → IsSound core → WellFormed core → IsSigned core → (d n : ℕ) →
    all_peak (program_scope core) d (initial_assignments core.variables) ≤ n → FineAll (program_scope core) d n (initial_assignments core.variables)

-- The structs of a well formed core are in order, and its top variables name them alone.
abbrev pub TypesAreKnown : Type 0
TypesAreKnown = (core : Core) → WellFormed core → KnowsTypes core
