-- The signatures of functions: which functions have one, and what it is.
use Rattle.std.specs.Prelude.{ℕ, suc, ◌<◌, ◌^◌, max, List, [], ◌∷◌, ◌++◌, Bool, true, false, ◌&&◌, Option, Some, None, ◌≡◌, map}
use Rattle.zir_tree.specs.declared.types.Base.TheVariants.{Unit as UnitTy}
use Rattle.zir_tree.specs.declared.types.Ty.{Ty}
use Rattle.zir_tree.specs.declared.types.StructDef.{StructDef}
use Rattle.zir_tree.specs.declared.types.Field.{Field}
use Rattle.zir_tree.specs.declared.types.TypeExpr.{TypeExpr}
use Rattle.zir_tree.specs.declared.stmt.Stmt.{Stmt}
use Rattle.zir_tree.specs.declared.stmt.Return.{Return}
use Rattle.zir_tree.specs.declared.program.Function.{Function}
use Rattle.zir_meaning.specs.Values.{type_of}
use Rattle.zir_shapes.specs.Offsets.{plain_type as plain}
use Rattle.zir_expr.specs.declared.steps.Step.{Step}
use Rattle.zir_code.specs.declared.scope.Holder.{Holder}
use Rattle.zir_code.specs.declared.scope.Signature.{Signature}
use Rattle.zir_code.specs.Scopes.{Scope}
use Rattle.zir_code.specs.Peaks.{small}
use Rattle.zir_code.specs.Needs.{all_peak, all_stmts_coded, result_peak, result_coded, body_needs, body_coded}
use Rattle.zir_code.specs.Bodies.{all_code, scope_after_all, free_after_all, parameters, cells_of_all, result_code, body_code, FineBody}
use Rattle.zir_code.specs.Program.{at_top, one_more_signature, HaveSignatures}
use Rattle.zir_compile.specs.declared.made.Block.{Block}
use Rattle.zir_compile.specs.declared.made.Parameters.{Parameters}
use Rattle.zir_compile.specs.declared.scope.Names.{Names}

-- the types of parameters
abbrev pub types_of : List Field → List Ty
types_of ps = map (λ p. type_of p.ty) ps

-- the type of a function's value, and unit where none is written
abbrev pub type_given : Option TypeExpr → Ty
type_given None = plain UnitTy
type_given (Some t) = type_of t

-- the variables of parameters, and the first free cell behind them
pub record AreParameters (g : Scope) (ps : List Field) (made : Parameters) : Type 0 where
  pub holders : made.holders.items ≡ parameters g 0 ps
  pub free : made.free ≡ cells_of_all g ps

-- 32 bits hold all numbers of the code of the value of a body
pub record ResultFits (g : Scope) (r : Option Return) (d : ℕ) : Type 0 where
  pub cells : result_peak g d r < 2 ^ 32
  pub numbers : result_coded g d r ≡ true

-- 32 bits hold all numbers of the code of statements, and of the value behind them
pub record BodyFits (g : Scope) (d : ℕ) (statements : List Stmt) (r : Option Return) : Type 0 where
  pub cells :
      max (all_peak g d statements) (result_peak (scope_after_all g d statements) (free_after_all g d statements) r)
      < 2 ^ 32
  pub numbers :
      all_stmts_coded g d statements
      && result_coded (scope_after_all g d statements) (free_after_all g d statements) r ≡ true

-- the code of statements and of the value behind them
pub record Bodied (g : Scope) (d : ℕ) (statements : List Stmt) (r : Option Return) (block : Block) : Type 0 where
  pub code :
      block.steps ≡ all_code g d statements
      ++ result_code (scope_after_all g d statements) (free_after_all g d statements) r
  pub peak :
      block.peak ≡ max (all_peak g d statements)
      (result_peak (scope_after_all g d statements) (free_after_all g d statements) r)

-- the same structs, top variables and functions, whatever is in scope inside a body
pub record Below (old new : Names) : Type 0 where
  pub structs : new.structs ≡ old.structs
  pub tops : new.tops ≡ old.tops
  pub functions : new.functions.items ≡ old.functions.items

-- the cells of a function
abbrev pub cells_of : Scope → Function → ℕ
cells_of g f = body_needs g f.params f.body.statements f.body.result

-- 32 bits hold all numbers of the code of a function
pub record FunctionFits (g : Scope) (f : Function) : Type 0 where
  pub cells : cells_of g f < 2 ^ 32
  pub numbers : body_coded g f.params f.body.statements f.body.result ≡ true

-- whether calls of a function have code: 32 bits hold its numbers
abbrev pub is_signed : Scope → Function → Bool
is_signed g f = small (cells_of g f) && body_coded g f.params f.body.statements f.body.result

-- the signature of a function with these cells and this code
abbrev pub with_code : Function → ℕ → List Step → Signature
with_code f needs steps =
    record { params = types_of f.params; result = type_given f.result; needs = needs; code = record { steps = steps } }

-- the signature of a function over what is in scope at the top
abbrev pub signature_in : Scope → Function → Signature
signature_in g f = with_code f (cells_of g f) (body_code g f.params f.body.statements f.body.result)

-- the same, or none
abbrev pub signature_if : Bool → Scope → Function → Option Signature
signature_if true g f = Some (signature_in g f)
signature_if false g f = None

-- the signature of a function where calls of it have code
abbrev pub signature_of : Scope → Function → Option Signature
signature_of g f = signature_if (is_signed g f) g f

-- the signatures of functions behind n others, each over those before it
abbrev pub signatures_after :
    List StructDef → List Holder → (ℕ → Option Signature) → ℕ → List Function → List (Option Signature)
signatures_after structs tops funs n [] = []
signatures_after structs tops funs n (f ∷ fs) =
    let made = signature_of (at_top structs tops funs) f in
    made ∷ signatures_after structs tops (one_more_signature funs n made) (suc n) fs

-- no function is there yet
abbrev pub no_signature : ℕ → Option Signature
no_signature k = None

-- the signatures of all functions of a program
abbrev pub signatures_of : List StructDef → List Holder → List Function → List (Option Signature)
signatures_of structs tops fs = signatures_after structs tops no_signature 0 fs

-- a function is well typed in the cells of its signature, or has none
abbrev pub FineIn : List StructDef → List Holder → (ℕ → Option Signature) → Function → Option Signature → Type 0
FineIn structs tops funs f None = Unit {0}
FineIn structs tops funs f (Some made) =
    FineBody (at_top structs tops funs) made.needs f.params f.body.statements f.body.result made.result

-- functions behind n others are well typed, each over the signatures of those before it
abbrev pub FineAfter : List StructDef → List Holder → (ℕ → Option Signature) → ℕ → List Function → Type 0
FineAfter structs tops funs n [] = Unit {0}
FineAfter structs tops funs n (f ∷ fs) =
    FineIn structs tops funs f (signature_of (at_top structs tops funs) f) ×
    FineAfter structs tops (one_more_signature funs n (signature_of (at_top structs tops funs) f)) (suc n) fs

-- well typed functions have the signatures that are made for them
abbrev pub TypedAreSigned : Type 0
TypedAreSigned =
    (structs : List StructDef) (tops : List Holder) (fs : List Function) → FineAfter structs tops no_signature 0 fs →
    HaveSignatures structs tops no_signature 0 fs (signatures_of structs tops fs)
