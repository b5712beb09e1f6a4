-- From the trace over what was received to the trace over all of the input.
use Rattle.std.specs.Prelude.{ℕ, ◌+◌, ◌≤◌, ◌≡◌, refl, Bool, List, [], ◌∷◌, ◌++◌, map, length}
use Rattle.std.proofs.Common.{ap, ◌∙◌, sym, subst, arith, append_assoc, length-append}
use Rattle.std.proofs.lemmas.List.{append-nil}
use Rattle.zir_bit_tree.specs.declared.value.Val.{Val}
use Rattle.zir_bit_tree.specs.declared.value.Val.TheVariants.{Bit as BitVal}
use Rattle.zir_bit_tree.specs.declared.ends.End.{End}
use Rattle.zir_bit_tree.specs.declared.ends.End.TheVariants.{Value, Starved, Trap as Trapped, Spent}
use Rattle.zir_bit_tree.specs.declared.tree.Comp.{Comp}
use Rattle.zir_bit_meaning.specs.Trace.{Out, Trace}
use Rattle.zir_bit_meaning.specs.Component.{tr}
use Rattle.zir_bit_meaning.specs.Run.{start}
use Rattle.zir_bit_meaning.specs.Samples.{bits_of, numbered, element_values}
use Rattle.zir_bit_laws.specs.Prefixes.{Extends}
use Rattle.zir_bit_laws.proofs.Cost.{costs}
use Rattle.zir_bit_laws.proofs.Inputs.{from_input-trace}
use Rattle.zir_bit_laws.proofs.Prefix.{prefixes}
use Rattle.zir_steps.specs.History.{IsFront, trace_of as trace_over}
use Rattle.zir_drive.specs.Runs.{history, trace_of}
use Rattle.zir_drive.specs.Driving.{inputs, IsLast}

-- the trace of a history over an input is the component's own, but for the elements that it left
over-input : (c : Comp) (n : ℕ) (xs : List Val) (os : List Out) → trace_over (history c n xs os) ≡ record (tr c (start n) xs) { rest = [] }
over-input c n xs os = from_input-trace c n [] xs

-- the values of numbered bits
numbered-values : (k : ℕ) (bits : List Bool) → element_values (numbered k bits) ≡ map BitVal bits
numbered-values k [] = refl
numbered-values k (b ∷ bits) = ap (λ vs. BitVal b ∷ vs) (numbered-values (k + 1) bits)

-- the trace over these bytes is that over their bits
over-bytes : (c : Comp) (n : ℕ) (bytes : List ℕ) → trace_of c n bytes ≡ tr c (start n) (inputs bytes)
over-bytes c n bytes = ap (tr c (start n)) (numbered-values 0 (bits_of bytes))

-- the outputs over some elements are the first over more of them
outs-extend : (e : End) (k : ℕ) (ys : List Val) (t t' : Trace) → Extends e k ys t t' → (more : List Out) × (t'.outs ≡ t.outs ++ more)
outs-extend (Value v) k ys t t' h = ([], ap (λ t. t.outs) h ∙ sym (append-nil t.outs))
outs-extend Starved k ys t t' h = (h.more, h.outs)
outs-extend (Trapped c) k ys t t' h = ([], ap (λ t. t.outs) h ∙ sym (append-nil t.outs))
outs-extend Spent k ys t t' h = ([], ap (λ t. t.outs) h ∙ sym (append-nil t.outs))

-- what was given is a front part of the outputs over all bytes
pub front-of-all : (c : Comp) (n : ℕ) (xs more : List Val) (os : List Out) (bytes : List ℕ) → IsFront (history c n xs os) → inputs bytes ≡ xs ++ more →
    (rest : List Out) × ((trace_of c n bytes).outs ≡ os ++ rest)
front-of-all c n xs more os bytes f e =
    let t = tr c (start n) xs in
    let p = outs-extend t.end (0 + length xs) more t (tr c (start n) (xs ++ more)) (prefixes c (start n) xs more) in (
      f.0 ++ p.0,
      ap (λ t. t.outs) (over-bytes c n bytes ∙ ap (tr c (start n)) e) ∙ p.1
          ∙ ap (λ outs. outs ++ p.0) (sym (ap (λ t. t.outs) (over-input c n xs os)) ∙ f.1) ∙ append_assoc os f.0 p.0,
    )

-- the parts of a trace that do not change when nothing more comes
abbrev pub Same : Trace → Trace → Type 0
Same t t' = (t'.end ≡ t.end) × (t'.outs ≡ t.outs) × (t'.last ≡ t.last)

-- a trace that does not starve is the same over more elements
same-extend : (e : End) (k : ℕ) (ys all xs : List Val) (t t' : Trace) → Extends e k ys t t' → all ≡ xs ++ ys → IsLast e all xs → ((all ≡ xs) → Same t t') → Same t t'
same-extend (Value v) k ys all xs t t' h e l g = (ap (λ t. t.end) h, ap (λ t. t.outs) h, ap (λ t. t.last) h)
same-extend Starved k ys all xs t t' h e l g = g l
same-extend (Trapped c) k ys all xs t t' h e l g = (ap (λ t. t.end) h, ap (λ t. t.outs) h, ap (λ t. t.last) h)
same-extend Spent k ys all xs t t' h e l g = (ap (λ t. t.end) h, ap (λ t. t.outs) h, ap (λ t. t.last) h)

-- the trace over what was received is that over all bytes, where it is the last
pub all-of-it : (c : Comp) (n : ℕ) (xs more : List Val) (os : List Out) (bytes : List ℕ) → inputs bytes ≡ xs ++ more → IsLast (trace_over (history c n xs os)).end (inputs bytes) xs →
    Same (trace_over (history c n xs os)) (trace_of c n bytes)
all-of-it c n xs more os bytes e l =
    let t = tr c (start n) xs in let t' = tr c (start n) (inputs bytes) in
    let h = over-input c n xs os in
    let P : List Val → Type 0 = λ ys. Extends t.end (0 + length xs) more t (tr c (start n) ys) in
    let x : Extends t.end (0 + length xs) more t t' = subst P (sym e) (prefixes c (start n) xs more) in
    let last : IsLast t.end (inputs bytes) xs = subst (λ e. IsLast e (inputs bytes) xs) (ap (λ t. t.end) h) l in
    let s : Same t t' = same-extend t.end (0 + length xs) more (inputs bytes) xs t t' x e last
    (λ w. (ap (λ ys. (tr c (start n) ys).end) w, ap (λ ys. (tr c (start n) ys).outs) w, ap (λ ys. (tr c (start n) ys).last) w)) in
    let b = over-bytes c n bytes in
    (ap (λ t. t.end) b ∙ s.0 ∙ sym (ap (λ t. t.end) h), ap (λ t. t.outs) b ∙ s.1 ∙ sym (ap (λ t. t.outs) h), ap (λ t. t.last) b ∙ s.2 ∙ sym (ap (λ t. t.last) h))

-- no more was given than there are ticks
pub given-few : (c : Comp) (n : ℕ) (xs : List Val) (os : List Out) → IsFront (history c n xs os) → length os ≤ n
given-few c n xs os f =
    let e : (tr c (start n) xs).outs ≡ os ++ f.0 = sym (ap (λ t. t.outs) (over-input c n xs os)) ∙ f.1 in
    omega (arith, (costs c (start n) xs).outs, simp length-append at (ap length e))

-- where it starves no more was received than there are ticks
pub received-few : (c : Comp) (n : ℕ) (xs : List Val) (os : List Out) → (trace_over (history c n xs os)).end ≡ Starved → length xs ≤ n
received-few c n xs os e = (costs c (start n) xs).taken (sym (ap (λ t. t.end) (over-input c n xs os)) ∙ e)
