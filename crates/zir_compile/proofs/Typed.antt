-- Well typed functions have the signatures that are made for them.
use Rattle.std.specs.Prelude.{ℕ, suc, List, [], ◌∷◌, Bool, true, false, Option, refl}
use Rattle.zir_tree.specs.declared.types.StructDef.{StructDef}
use Rattle.zir_tree.specs.declared.program.Function.{Function}
use Rattle.zir_code.specs.declared.scope.Holder.{Holder}
use Rattle.zir_code.specs.declared.scope.Signature.{Signature}
use Rattle.zir_code.specs.Program.{at_top, one_more_signature, FitsSignature, HaveSignatures}
use Rattle.zir_compile.specs.Signing.{is_signed, signature_if, signature_of, signatures_after, FineIn, FineAfter}

-- a function that is well typed has its signature
one_signed : (structs : List StructDef) (tops : List Holder) (funs : ℕ → Option Signature) (f : Function) (b : Bool) → FineIn structs tops funs f (signature_if b (at_top structs tops funs) f) →
    FitsSignature structs tops funs f (signature_if b (at_top structs tops funs) f)
one_signed structs tops funs f false fine = tt
one_signed structs tops funs f true fine = record { parameters = refl; fine = fine; code = refl }

-- and so do all
pub all_signed : (fs : List Function) (structs : List StructDef) (tops : List Holder) (funs : ℕ → Option Signature) (n : ℕ) → FineAfter structs tops funs n fs →
    HaveSignatures structs tops funs n fs (signatures_after structs tops funs n fs)
all_signed [] structs tops funs n fine = tt
all_signed (f ∷ fs) structs tops funs n fine = (
  one_signed structs tops funs f (is_signed (at_top structs tops funs) f) fine.0,
  all_signed fs structs tops (one_more_signature funs n (signature_of (at_top structs tops funs) f)) (suc n) fine.1,
)
