-- The functions of a program with their signatures, each over those before it.
use Rattle.std.specs.Prelude.{ℕ, suc, List, [], ◌∷◌, Option, Some, None, ◌≡◌, nat_eq, map}
use Rattle.zir_tree.specs.declared.types.StructDef.{StructDef}
use Rattle.zir_tree.specs.declared.program.Function.{Function}
use Rattle.zir_meaning.specs.Values.{type_of}
use Rattle.zir_meaning.specs.Functions.{pick}
use Rattle.zir_code.specs.declared.scope.Holder.{Holder}
use Rattle.zir_code.specs.declared.scope.Signature.{Signature}
use Rattle.zir_code.specs.Scopes.{Scope}
use Rattle.zir_code.specs.Bodies.{body_code, FineBody}

-- what is in scope at the top of a program, where these functions may be called
abbrev pub at_top : List StructDef → List Holder → (ℕ → Option Signature) → Scope
at_top structs tops funs = record { structs = structs; tops = tops; locals = []; funs = funs }

-- a function has this signature, over these top variables and functions
pub record HasSignature (structs : List StructDef) (tops : List Holder) (funs : ℕ → Option Signature) (f : Function) (sig : Signature) : Type 0 where
  pub parameters : sig.params ≡ map (λ p. type_of p.ty) f.params
  pub fine : FineBody (at_top structs tops funs) sig.needs f.params f.body.statements f.body.result sig.result
  pub code : sig.code.steps ≡ body_code (at_top structs tops funs) f.params f.body.statements f.body.result

-- one more signature, at this place
abbrev pub one_more_signature : (ℕ → Option Signature) → ℕ → Option Signature → ℕ → Option Signature
one_more_signature funs n sig k = pick (nat_eq k n) sig (funs k)

-- a function has its signature, or none and cannot be called
abbrev pub FitsSignature : List StructDef → List Holder → (ℕ → Option Signature) → Function → Option Signature → Type 0
FitsSignature structs tops funs f None = Unit {0}
FitsSignature structs tops funs f (Some sig) = HasSignature structs tops funs f sig

-- functions have these signatures behind n others, each over those before it
abbrev pub HaveSignatures : List StructDef → List Holder → (ℕ → Option Signature) → ℕ → List Function → List (Option Signature) → Type 0
HaveSignatures structs tops funs n [] [] = Unit {0}
HaveSignatures structs tops funs n [] (sig ∷ sigs) = ⊥
HaveSignatures structs tops funs n (f ∷ fs) [] = ⊥
HaveSignatures structs tops funs n (f ∷ fs) (sig ∷ sigs) = FitsSignature structs tops funs f sig × HaveSignatures structs tops (one_more_signature funs n sig) (suc n) fs sigs

-- the signatures of functions behind n others
abbrev pub more_signatures : (ℕ → Option Signature) → ℕ → List (Option Signature) → ℕ → Option Signature
more_signatures funs n [] = funs
more_signatures funs n (sig ∷ sigs) = more_signatures (one_more_signature funs n sig) (suc n) sigs
