-- Signatures of functions, one after the other.
use Rattle.std.specs.Prelude.{ℕ, zero, suc, ◌+◌, ◌<◌, ◌≤◌, ◌^◌, List, [], ◌∷◌, ◌++◌, ◌≡◌, Option, None, nat_eq, length, drop, refl}
use Rattle.std.proofs.Common.{ap, sym, ◌∙◌, append_assoc, append-nil, arith, get_or}
use Rattle.std.proofs.Math.Dec.{eqb-suc-zero, eqb-zero-suc, eqb-suc-suc}
use Rattle.std.proofs.lemmas.List.{drop_all, length-append}
use Rattle.zir_tree.specs.declared.types.StructDef.{StructDef}
use Rattle.zir_tree.specs.declared.types.Field.{Field}
use Rattle.zir_tree.specs.declared.program.Function.{Function}
use Rattle.zir_meaning.specs.Functions.{pick}
use Rattle.zir_code.specs.declared.scope.Holder.{Holder}
use Rattle.zir_code.specs.declared.scope.Signature.{Signature}
use Rattle.zir_code.specs.Scopes.{Scope}
use Rattle.zir_code.specs.Bodies.{parameters, cells_of_all, inside}
use Rattle.zir_code.specs.Program.{at_top, one_more_signature, more_signatures}
use Rattle.zir_compile.specs.Names.{signature_at}
use Rattle.zir_compile.specs.Signing.{FunctionFits, signature_of, signatures_after, no_signature}
use Rattle.zir_compile.proofs.Finding.{at_place}
use Rattle.zir_compile.proofs.Rows.{all_least, same_parts}

-- parameters so far and from here on
pub record Params (g : Scope) (ps rest : List Field) (free : ℕ) (made : List Holder) : Type 0 where
  pub holders : parameters g 0 ps ≡ made ++ parameters g free rest
  pub cells : cells_of_all g ps ≡ free + cells_of_all g rest

-- what a function takes
pub function_params : (g : Scope) (f : Function) → FunctionFits g f → cells_of_all g f.params < 2 ^ 32
function_params g f h = let cells = h.cells in let least = all_least (inside g f.params) (cells_of_all g f.params) f.body.statements in omega arith

-- one more signature
pushed_at : (xs : List (Option Signature)) (m : Option Signature) (k : ℕ) → signature_at (xs ++ m ∷ []) k ≡ pick (nat_eq k (length xs)) m (signature_at xs k)
pushed_at [] m zero = refl
pushed_at [] m (suc k) = ap (λ b. pick b m (let n : Option Signature = None in n)) (sym (eqb-suc-zero k))
pushed_at (x ∷ xs) m zero = ap (λ b. pick b m x) (sym (eqb-zero-suc (length xs)))
pushed_at (x ∷ xs) m (suc k) = pushed_at xs m k ∙ ap (λ b. pick b m (signature_at xs k)) (sym (eqb-suc-suc k (length xs)))

pub pushed : (xs : List (Option Signature)) (m : Option Signature) → signature_at (xs ++ m ∷ []) ≡ one_more_signature (signature_at xs) (length xs) m
pushed xs m = λ i k. pushed_at xs m k i

one_longer : (xs : List (Option Signature)) (m : Option Signature) → length (xs ++ m ∷ []) ≡ suc (length xs)
one_longer xs m = simp length-append (omega arith)

-- all signatures
more_at : (ys before : List (Option Signature)) → signature_at (before ++ ys) ≡ more_signatures (signature_at before) (length before) ys
more_at [] before = ap signature_at (append-nil before)
more_at (y ∷ ys) before =
    ap signature_at (sym (append_assoc before (y ∷ []) ys)) ∙ more_at ys (before ++ y ∷ [])
    ∙ ap (λ (f : ℕ → Option Signature). more_signatures f (length (before ++ y ∷ [])) ys) (pushed before y)
    ∙ ap (λ n. more_signatures (one_more_signature (signature_at before) (length before) y) n ys) (one_longer before y)

pub nothing_at : signature_at [] ≡ no_signature
nothing_at = λ i k. let n : Option Signature = None in n

pub all_at : (xs : List (Option Signature)) → signature_at xs ≡ more_signatures no_signature 0 xs
all_at xs = more_at xs [] ∙ ap (λ (f : ℕ → Option Signature). more_signatures f 0 xs) nothing_at

-- loop along functions: the beginning, one more function, and the end
pub signatures_on : (structs : List StructDef) (tops : List Holder) (fs : List Function) (n : ℕ) (f : Function) (made next : List (Option Signature)) (m : Option Signature) (all : List (Option Signature)) → n < length fs →
    f ≡ get_or fs n f → length made ≡ n → m ≡ signature_of (at_top structs tops (signature_at made)) f → next ≡ made ++ m ∷ [] →
    all ≡ made ++ signatures_after structs tops (signature_at made) n (drop n fs) → all ≡ next ++ signatures_after structs tops (signature_at next) (n + 1) (drop (n + 1) fs)
signatures_on structs tops fs n f made next m all lt at l s e i =
    let rest = drop (n + 1) fs in
    let suc_n : suc n ≡ n + 1 = omega arith in
    let q : one_more_signature (signature_at made) n m ≡ signature_at next =
    ap (λ k. one_more_signature (signature_at made) k m) (sym l) ∙ sym (pushed made m) ∙ ap signature_at (sym e) in
    i ∙ ap (λ (xs : List Function). made ++ signatures_after structs tops (signature_at made) n xs) (at_place fs n f lt at)
    ∙ ap (λ (x : Option Signature). made ++ (x ∷ signatures_after structs tops (one_more_signature (signature_at made) n x) (suc n) rest)) (sym s)
    ∙ ap (λ (g : ℕ → Option Signature). made ++ (m ∷ signatures_after structs tops g (suc n) rest)) q
    ∙ ap (λ k. made ++ (m ∷ signatures_after structs tops (signature_at next) k rest)) suc_n
    ∙ sym (append_assoc made (m ∷ []) (signatures_after structs tops (signature_at next) (n + 1) rest))
    ∙ ap (λ (xs : List (Option Signature)). xs ++ signatures_after structs tops (signature_at next) (n + 1) rest) (sym e)

pub signatures_end : (structs : List StructDef) (tops : List Holder) (fs : List Function) (n : ℕ) (made all : List (Option Signature)) → length fs ≤ n →
    all ≡ made ++ signatures_after structs tops (signature_at made) n (drop n fs) → all ≡ made
signatures_end structs tops fs n made all h i =
    i ∙ ap (λ (xs : List Function). made ++ signatures_after structs tops (signature_at made) n xs) (drop_all n fs h) ∙ append-nil made

pub scope_end : (structs structs' : List StructDef) (tops tops' locals : List Holder) (made all : List (Option Signature)) → structs ≡ structs' → tops ≡ tops' → locals ≡ [] → all ≡ made →
    (let q : Scope = record { structs = structs; tops = tops; locals = locals; funs = signature_at made } in q) ≡ at_top structs' tops' (more_signatures no_signature 0 all)
scope_end structs structs' tops tops' locals made all s t l a =
    same_parts structs structs' tops tops' locals [] made made s t l refl ∙ ap (λ (f : ℕ → Option Signature). at_top structs' tops' f) (ap signature_at (sym a) ∙ all_at all)
