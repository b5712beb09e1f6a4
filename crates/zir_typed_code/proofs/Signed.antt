-- Functions that are found have signatures.
use Rattle.std.specs.Prelude.{◌≡◌, refl, ◌<◌, ◌+◌, ℕ, suc, List, [], ◌∷◌, Option, Some, None, length}
use Rattle.std.proofs.Common.{ap, ◌∙◌, sym, arith}
use Rattle.std.proofs.lemmas.Bool.{eq-eqb, ne_eqb}
use Rattle.zir_tree.specs.declared.types.StructDef.{StructDef}
use Rattle.zir_tree.specs.declared.program.Function.{Function}
use Rattle.zir_tree.specs.declared.program.Core.{Core}
use Rattle.zir_meaning.specs.Functions.{pick}
use Rattle.zir_code.specs.declared.scope.Holder.{Holder}
use Rattle.zir_code.specs.declared.scope.Signature.{Signature}
use Rattle.zir_code.specs.Program.{at_top, one_more_signature, more_signatures}
use Rattle.zir_compile.specs.Signing.{signature_of, signatures_after, signatures_of, no_signature}
use Rattle.zir_typed_code.specs.Programs.{AllFound, AllSigned, IsSigned, tops_of}

-- Signatures from a place on change nothing before it.
before_same : (funs : ℕ → Option Signature) (n : ℕ) (sigs : List (Option Signature)) (k : ℕ) → k < n → more_signatures funs n sigs k ≡ funs k
before_same funs n [] k lt = refl
before_same funs n (sig ∷ sigs) k lt =
    before_same (one_more_signature funs n sig) (suc n) sigs k (omega arith)
    ∙ ap (λ b. pick b sig (funs k)) (ne_eqb k n (λ e. let f : k ≡ n = e in omega arith))

-- These signatures are found behind n others.
abbrev FoundFrom : (ℕ → Option Signature) → ℕ → List (Option Signature) → Type 0
FoundFrom funs n sigs = (j : ℕ) → j < length sigs → (made : Signature) × (more_signatures funs n sigs (n + j) ≡ Some made)

some_signed : (sig : Option Signature) (made : Signature) (sigs : List (Option Signature)) → sig ≡ Some made → AllSigned sigs → AllSigned (sig ∷ sigs)
some_signed None made sigs e h = absurd cc
some_signed (Some s) made sigs e h = h

all_signed : (funs : ℕ → Option Signature) (n : ℕ) (sigs : List (Option Signature)) → FoundFrom funs n sigs → AllSigned sigs
all_signed funs n [] h = tt
all_signed funs n (sig ∷ sigs) h =
    let one = one_more_signature funs n sig in
    let f = h 0 (omega arith) in
    let place : n + 0 ≡ n = omega arith in
    let here : one n ≡ Some f.0 =
    sym (before_same one (suc n) sigs n (omega arith)) ∙ (ap (more_signatures one (suc n) sigs) (sym place) ∙ f.1) in
    let is : sig ≡ Some f.0 = sym (ap (λ b. pick b sig (funs n)) (eq-eqb n n refl)) ∙ here in
    let rest : FoundFrom one (suc n) sigs = λ j lt. (let g = h (suc j) (omega arith) in
    let on : suc n + j ≡ n + suc j = omega arith in
    (g.0, ap (more_signatures one (suc n) sigs) on ∙ g.1)) in
    some_signed sig f.0 sigs is (all_signed one (suc n) sigs rest)

many_signatures : (structs : List StructDef) (tops : List Holder) (funs : ℕ → Option Signature) (n : ℕ) (fs : List Function) →
    length (signatures_after structs tops funs n fs) ≡ length fs
many_signatures structs tops funs n [] = refl
many_signatures structs tops funs n (f ∷ fs) =
    ap suc (many_signatures structs tops (one_more_signature funs n (signature_of (at_top structs tops funs) f)) (suc n) fs)

pub found_signed : (core : Core) → AllFound core → IsSigned core
found_signed core h =
    let sigs = signatures_of core.structs (tops_of core) core.functions in
    let many = many_signatures core.structs (tops_of core) no_signature 0 core.functions in
    all_signed no_signature 0 sigs (λ j lt. (let f = h j (omega (arith, many)) in
    let place : 0 + j ≡ j = omega arith in
    (f.0, ap (more_signatures no_signature 0 sigs) place ∙ f.1)))
