-- A step of a process that may take an element which is offered to it.
use Rattle.std.specs.Prelude.{Option, Some, None, ◌≡◌}
use Rattle.zir_bit_tree.specs.declared.value.Val.{Val}
use Rattle.zir_bit_meaning.specs.Trace.{State}
use Rattle.zir_bit_laws.specs.Process.{Proc, Needs}

-- p becomes q, while the element offered is still there or was taken
abbrev pub Fed : Option Val → Option Val → Proc → Proc → Type 0
Fed None None p q = p ≡ q
Fed (Some x) (Some y) p q = (x ≡ y) × (p ≡ q)
Fed (Some x) None p q = (s : State) × (f : Val → Proc) × (p ≡ Needs s f) × (q ≡ f x)
Fed None (Some y) p q = ⊥
