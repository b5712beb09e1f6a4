-- Instances one after the other.
use Rattle.std.specs.Prelude.{ℕ, zero, suc, ◌+◌, ◌<◌, List, [], ◌∷◌, ◌++◌, length, drop, Option, Some, None, Bool, true, false, ◌≡◌, nat_eq, slice_get, refl}
use Rattle.std.proofs.Common.{ap, sym, ◌∙◌, subst, append_assoc, arith, get_or}
use Rattle.std.proofs.Math.Dec.{eqb-suc-zero, eqb-zero-suc, eqb-suc-suc}
use Rattle.std.proofs.lemmas.List.{length-append}
use Rattle.zir_tree.specs.declared.program.Instance.{Instance}
use Rattle.zir_meaning.specs.Assigned.{Assigning}
use Rattle.zir_meaning.specs.Functions.{pick}
use Rattle.zir_code.specs.Scopes.{Scope}
use Rattle.zir_compile.specs.declared.scope.Names.{Names}
use Rattle.zir_compile.specs.Names.{scope_of, signature_at}
use Rattle.zir_compile.specs.Signing.{Below}
use Rattle.zir_compile.proofs.Finding.{at_place}
use Rattle.zir_assigned.specs.Assigned.{Agrees}
use Rattle.zir_flow.specs.declared.instruction.Instruction.{Instruction}
use Rattle.zir_flow.specs.Kinds.{Entry, Setting}
use Rattle.zir_flow.specs.Flowing.{instance_code}
use Rattle.zir_flow.specs.Program.{one_more_entry, more_entries, top_scope}
use Rattle.zir_flat.specs.Programs.{entry_at, entries_from, code_from}
use Rattle.zir_flatten.specs.declared.places.Callee.{Callee}
use Rattle.zir_flatten.specs.declared.places.Places.{Places}
use Rattle.zir_flatten.specs.declared.instances.Built.{Built}
use Rattle.zir_flatten.specs.Callable.{IsEntry, HasEntry, Sets}
use Rattle.zir_flatten.specs.Programs.{no_entry, none_yet, IsBuilt}

-- the code and the entries of all instances are those so far and those from here on
pub record Laying (r : Assigning) (g : Scope) (is : List Instance) (n : ℕ) (code : List Instruction) (places : Places) : Type 0 where
  pub entries : ℕ → Option Entry
  pub sets : Sets places (record { entries = entries; assigned = r })
  pub count : length places.callees.items ≡ n
  pub code_is : code ++ code_from (record { entries = entries; assigned = r }) g n (length code) (drop n is) ≡ code_from (none_yet r) g 0 0 is
  pub entries_are :
      more_entries entries n (entries_from (record { entries = entries; assigned = r }) g n (length code) (drop n is))
      ≡ more_entries no_entry 0 (entries_from (none_yet r) g 0 0 is)

pub laying_none : (r : Assigning) (g : Scope) (is : List Instance) (places : Places) → places.callees.items ≡ [] → Agrees places.assigned r → Laying r g is 0 [] places
laying_none r g is places e a = record {
  entries = no_entry;
  sets = record { entries = λ k. subst (λ (xs : List Callee). HasEntry (slice_get xs k) None) (sym e) tt; assigned = a };
  count = ap length e;
  code_is = refl;
  entries_are = refl;
}

-- one more instance
pushed_at : (xs : List Callee) (x : Callee) (k : ℕ) → slice_get (xs ++ x ∷ []) k ≡ pick (nat_eq k (length xs)) (Some x) (slice_get xs k)
pushed_at [] x zero = refl
pushed_at [] x (suc k) = ap (λ b. pick b (Some x) (let n : Option Callee = None in n)) (sym (eqb-suc-zero k))
pushed_at (y ∷ xs) x zero = ap (λ b. pick b (Some x) (Some y)) (sym (eqb-zero-suc (length xs)))
pushed_at (y ∷ xs) x (suc k) = pushed_at xs x k ∙ ap (λ b. pick b (Some x) (slice_get xs k)) (sym (eqb-suc-suc k (length xs)))

picked : (b : Bool) (x : Callee) (e : Entry) (found : Option Callee) (entry : Option Entry) → IsEntry x e → HasEntry found entry → HasEntry (pick b (Some x) found) (pick b (Some e) entry)
picked true x e found entry i h = i
picked false x e found entry i h = h

pub laying_more : (r : Assigning) (g : Scope) (is : List Instance) (n : ℕ) (i : Instance) (code next : List Instruction) (places after : Places) (built : Built) (place : ℕ) → n < length is → i ≡ get_or is n i →
    place ≡ length code → ((st : Setting) → Sets places st → IsBuilt st g place i built) → next ≡ code ++ built.code.items → after.callees.items ≡ places.callees.items ++ built.callee ∷ [] →
    after.assigned ≡ places.assigned → Laying r g is n code places → Laying r g is (n + 1) next after
laying_more r g is n i code next places after built place lt at here made grown more same l =
    let st : Setting = record { entries = l.entries; assigned = r } in
    let b : IsBuilt st g (length code) i built = subst (λ p. IsBuilt st g p i built) here (made st l.sets) in
    let e : Entry = entry_at st g (length code) i in
    let rest : List Instance = drop (n + 1) is in
    let entries : ℕ → Option Entry = one_more_entry l.entries n (Some e) in
    let st' : Setting = record { entries = entries; assigned = r } in
    let suc_n : suc n ≡ n + 1 = omega arith in
    let long : length code + length (instance_code st g i) ≡ length next =
    ap (λ (xs : List Instruction). length code + length xs) (sym b.code) ∙ sym (length-append code built.code.items) ∙ ap length (sym grown) in
    let moved : code_from st' g (suc n) (length code + length (instance_code st g i)) rest ≡ code_from st' g (n + 1) (length next) rest =
    λ k. code_from st' g (suc_n k) (long k) rest in
    let listed : entries_from st' g (suc n) (length code + length (instance_code st g i)) rest ≡ entries_from st' g (n + 1) (length next) rest =
    λ k. entries_from st' g (suc_n k) (long k) rest in
    let split = at_place is n i lt at in
    record {
      entries = entries;
      sets = record {
        entries = λ k.
            subst (λ m. HasEntry (slice_get after.callees.items k) (pick (nat_eq k m) (Some e) (l.entries k))) l.count
            (subst (λ x. HasEntry x (pick (nat_eq k (length places.callees.items)) (Some e) (l.entries k)))
            (sym (ap (λ (xs : List Callee). slice_get xs k) more ∙ pushed_at places.callees.items built.callee k))
            (picked (nat_eq k (length places.callees.items)) built.callee e (slice_get places.callees.items k) (l.entries k) b.entry (l.sets.entries k)));
        assigned = subst (λ a. Agrees a r) (sym same) l.sets.assigned;
      };
      count = ap length more ∙ length-append places.callees.items (built.callee ∷ []) ∙ ap (λ m. m + 1) l.count;
      code_is =
          ap (λ (xs : List Instruction). xs ++ code_from st' g (n + 1) (length next) rest) (grown ∙ ap (λ (xs : List Instruction). code ++ xs) b.code)
          ∙ append_assoc code (instance_code st g i) (code_from st' g (n + 1) (length next) rest)
          ∙ ap (λ (xs : List Instruction). code ++ (instance_code st g i ++ xs)) (sym moved)
          ∙ ap (λ xs. code ++ code_from st g n (length code) xs) (sym split) ∙ l.code_is;
      entries_are =
          (λ k. more_entries entries (sym suc_n k) (sym listed k))
          ∙ ap (λ xs. more_entries l.entries n (entries_from st g n (length code) xs)) (sym split) ∙ l.entries_are;
    }

-- where names come to stand for others inside a body, the same is in scope at the top
pub top_same : (a b : Names) → Below a b → top_scope (scope_of b) ≡ top_scope (scope_of a)
top_same a b s = λ i. record { structs = s.structs i; tops = s.tops i; locals = []; funs = signature_at (s.functions i) }

pub below_same : (a : Names) → Below a a
below_same a = record { structs = refl; tops = refl; functions = refl }

pub below_twice : (a b c : Names) → Below a b → Below b c → Below a c
below_twice a b c s t = record { structs = t.structs ∙ s.structs; tops = t.tops ∙ s.tops; functions = t.functions ∙ s.functions }
