-- How a step that may take an offered element acts on what follows, and on the two sides of a composition.
use Rattle.std.specs.Prelude.{ℕ, ◌+◌, ◌≤◌, List, Option, Some, None, ◌≡◌}
use Rattle.std.proofs.Common.{sym, ap, ◌∙◌}
use Rattle.zir_bit_tree.specs.declared.value.Val.{Val}
use Rattle.zir_bit_meaning.specs.Trace.{State, Point, point, Out}
use Rattle.zir_bit_meaning.specs.Composition.{limit, over, at_point}
use Rattle.zir_bit_laws.specs.Process.{Proc, Gives, Needs, NextProc, then_proc, pull, piped}
use Rattle.zir_bit_laws.specs.Offers.{Fed}
use Rattle.zir_bit_laws.proofs.Limits.{holds-within}

-- a step of a process before what follows it
pub fed_then : (i j : Option Val) (p q : Proc) (next : NextProc) → Fed i j p q → Fed i j (then_proc p next) (then_proc q next)
fed_then None None p q next h = ap (λ p. then_proc p next) h
fed_then (Some x) (Some y) p q next h = (h.0, ap (λ p. then_proc p next) h.1)
fed_then (Some x) None p q next h = (h.0, (λ x. then_proc (h.1 x) next), ap (λ p. then_proc p next) h.2, ap (λ q. then_proc q next) h.3)
fed_then None (Some y) p q next h = absurd h

-- a step of the left side, while the right side needs an element
pub fed_left : (i j : Option Val) (ids : List ℕ) (d : ℕ) (s s2 : State) (f : Val → Proc) (b : Point) (r l l' : Proc) → r ≡ Needs s2 f →
    ((s1 : State) (g : Val → Proc) → l ≡ Needs s1 g → s1.ticks + s2.ticks ≤ limit s) → Fed i j l l' → Fed i j (piped ids d s r b l) (piped ids d s r b l')
fed_left None None ids d s s2 f b r l l' e le h = ap (piped ids d s r b) h
fed_left (Some x) (Some y) ids d s s2 f b r l l' e le h = (h.0, ap (piped ids d s r b) h.1)
fed_left (Some x) None ids d s s2 f b r l l' e le h =
    let s1 = h.0 in let g = h.1 in (
      at_point s (over ids (point s1) (point s2)),
      (λ x. pull ids d s (λ v p l. piped ids d s (f v) p l) s2 (g x)),
      ap (λ l. piped ids d s r b l) h.2 ∙ ap (λ r. piped ids d s r b (Needs s1 g)) e ∙ holds-within (s1.ticks + s2.ticks) (limit s) _ (le s1 g h.2),
      ap (λ l. piped ids d s r b l) h.3 ∙ ap (λ r. piped ids d s r b (g x)) e,
    )
fed_left None (Some y) ids d s s2 f b r l l' e le h = absurd h

-- the right side takes the left side's output
pub fed_right : (ids : List ℕ) (d : ℕ) (s : State) (b : Point) (o : Out) (r r' l l1 : Proc) → l ≡ Gives o l1 → Fed (Some o.value) None r r' → piped ids d s r b l ≡ piped ids d s r' o.at l1
fed_right ids d s b o r r' l l1 e h =
    ap (piped ids d s r b) e ∙ ap (λ r. piped ids d s r b (Gives o l1)) h.2 ∙ ap (λ r. piped ids d s r o.at l1) (sym h.3)
