-- Loops by their heads.
use Rattle.std.specs.Prelude.{ℕ, suc, max}
use Rattle.zir_tree.specs.declared.place.Place.{Place}
use Rattle.zir_tree.specs.declared.comp.Comp as comp
use Rattle.zir_tree.specs.declared.comp.Comp.{Comp}
use Rattle.zir_grammar.specs.Parts.{Rest, reads, a_chain}
use Rattle.zir_parse.specs.declared.loops.LoopHead.{LoopHead}
use Rattle.zir_parse.specs.declared.loops.LoopHead.TheVariants.{Repeat, Turn, Times, For}

-- the loop of a head and a body
abbrev pub looped : LoopHead → Comp → Place → Comp
looped Repeat c at = comp.Repeat c at
looped (Turn how e) c at = comp.While how e c at
looped (Times e) c at = comp.Times e c at
looped (For x from count) c at = comp.For x from count c at

-- the body of a loop behind its head, of that height
abbrev pub a_loop_body : {A : Type 0} → (Comp → Comp) → ℕ → (Comp → ℕ → Rest A) → Rest A
a_loop_body make low k = reads (a_chain 0) (λ c h. k (make c) (suc (max low h)))
