-- Two sides of a composition.
use Rattle.std.specs.Prelude.{ℕ, ◌≡◌, refl, ◌+◌, List, [], length}
use Rattle.std.proofs.Common.{ap, sym, ◌∙◌}
use Rattle.zir_bit_tree.specs.declared.value.Slot.{Slot}
use Rattle.zir_bit_meaning.specs.Store.{merge}
use Rattle.zir_bit_meaning.specs.Trace.{State, Point, point}
use Rattle.zir_bit_meaning.specs.Composition.{limit, over, at_point, fresh}
use Rattle.zir_bit_meaning.specs.Component.{assigns}
use Rattle.zir_bit_laws.specs.Process.{Proc, Gives, Ends, Needs, end_proc, inside, piped, proc}
use Rattle.zir_bit_laws.proofs.Equations.{merge-none, assigns-none}
use Rattle.zir_bit_laws.proofs.Limits.{piped-limit}
use Rattle.zir_machine.specs.declared.progress.Progress.{Progress}
use Rattle.zir_machine.specs.Standing.{state_of}
use Rattle.zir_machine.specs.Understood.{Meant}

-- a state by its numbers and its store
pub same_state : (s t : State) → s.taken ≡ t.taken → s.ticks ≡ t.ticks → s.left ≡ t.left → s.store ≡ t.store → s ≡ t
same_state s t a b c d =
    ap (λ n. record { taken = n; ticks = s.ticks; left = s.left; store = s.store }) a
    ∙ ap (λ n. record { taken = t.taken; ticks = n; left = s.left; store = s.store }) b
    ∙ ap (λ n. record { taken = t.taken; ticks = t.ticks; left = n; store = s.store }) c
    ∙ ap (λ n. record { taken = t.taken; ticks = t.ticks; left = t.left; store = n }) d

-- where nothing is assigned, only the counts of the left side's point matter
pub over-counts : (b c p : Point) → b.taken ≡ c.taken → b.ticks ≡ c.ticks → over [] b p ≡ over [] c p
over-counts b c p e f =
    ap (λ n. record { taken = n; ticks = b.ticks + p.ticks; store = merge [] b.store p.store }) e
    ∙ ap (λ n. record { taken = c.taken; ticks = n + p.ticks; store = merge [] b.store p.store }) f
    ∙ ap (λ st. record { taken = c.taken; ticks = c.ticks + p.ticks; store = st }) (merge-none b.store p.store ∙ sym (merge-none c.store p.store))

-- of the base only the counts matter
pub piped-counts : (d : ℕ) (s : State) (r : Proc) (b c : Point) (l : Proc) → b.taken ≡ c.taken → b.ticks ≡ c.ticks → piped [] d s r b l ≡ piped [] d s r c l
piped-counts d s (Gives o r) b c l e f =
    ap (λ p. inside s p (Gives (record { value = o.value; at = p }) (piped [] d s r b l))) (over-counts b c o.at e f)
    ∙ ap (λ q. inside s (over [] c o.at) (Gives (record { value = o.value; at = over [] c o.at }) q)) (piped-counts d s r b c l e f)
piped-counts d s (Ends x s2) b c l e f = ap (λ p. inside s p (end_proc x (at_point s p))) (over-counts b c (point s2) e f)
piped-counts d s (Needs s2 g) b c l e f = refl

-- both sides have begun
pub link_begins : (a a' b b' : Meant) (lp rp : Progress) (ls : List Slot) (d : ℕ) (s s1 s2 s' : State) → d ≡ length s.store → s1 ≡ s → s2 ≡ fresh s → limit s' ≡ limit s →
    proc a.what s1 ≡ a'.does lp.focus (state_of lp ls) → proc b.what s2 ≡ b'.does rp.focus (state_of rp s'.store) →
    piped (assigns a.what) (length s.store) s (proc b.what (fresh s)) (point s) (proc a.what s)
    ≡ piped [] d s' (b'.does rp.focus (state_of rp s'.store)) (record { taken = s.taken; ticks = s.ticks; store = [] }) (a'.does lp.focus (state_of lp ls))
link_begins a a' b b' lp rp ls d s s1 s2 s' c e f g m n =
    ap (λ ids. piped ids (length s.store) s (proc b.what (fresh s)) (point s) (proc a.what s)) (assigns-none a.what)
    ∙ ap (λ d. piped [] d s (proc b.what (fresh s)) (point s) (proc a.what s)) (sym c)
    ∙ ap (λ t. piped [] d s (proc b.what t) (point s) (proc a.what s)) (sym f)
    ∙ ap (λ t. piped [] d s (proc b.what s2) (point s) (proc a.what t)) (sym e)
    ∙ ap (λ r. piped [] d s r (point s) (proc a.what s1)) n
    ∙ ap (λ l. piped [] d s (b'.does rp.focus (state_of rp s'.store)) (point s) l) m
    ∙ piped-counts d s (b'.does rp.focus (state_of rp s'.store)) (point s) (record { taken = s.taken; ticks = s.ticks; store = [] }) (a'.does lp.focus (state_of lp ls)) refl refl
    ∙ piped-limit [] d s s' (b'.does rp.focus (state_of rp s'.store)) (record { taken = s.taken; ticks = s.ticks; store = [] }) (a'.does lp.focus (state_of lp ls)) (sym g)
