-- The instances of a program stand in its code.
use Rattle.std.specs.Prelude.{ℕ, suc, ◌+◌, List, [], ◌∷◌, ◌++◌, ◌≡◌, refl, Some, length}
use Rattle.std.proofs.Common.{ap, ◌∙◌, sym, subst, arith, append_assoc, length-append}
use Rattle.zir_tree.specs.declared.program.Core.{Core}
use Rattle.zir_tree.specs.declared.program.Instance.{Instance}
use Rattle.zir_code.specs.Scopes.{Scope}
use Rattle.zir_code.specs.Bodies.{cells_of_all, inside}
use Rattle.zir_eval.specs.Opening.{program_scope}
use Rattle.zir_flow.specs.declared.instruction.Instruction.{Instruction}
use Rattle.zir_flow.specs.declared.instruction.Instruction.TheVariants.{Stop}
use Rattle.zir_flow.specs.Kinds.{Entry, Setting}
use Rattle.zir_flow.specs.Flowing.{instance_code}
use Rattle.zir_flow.specs.Program.{CodeAt, HasEntry, HaveEntries}
use Rattle.zir_flat.specs.Programs.{entry_at, one_more_in, entries_from, code_from, first_setting, instances_code, main_code}
use Rattle.zir_flat.specs.Laws.{InstanceFlows, InstancesFlow, InstancesStand}

-- an instance has its entry where its code stands
has_entry : (g : Scope) (st : Setting) (before after : List Instruction) (i : Instance) → InstanceFlows st g i →
    HasEntry g st (before ++ (instance_code st g i ++ after)) i (entry_at st g (length before) i)
has_entry g st before after i f = record {
  params = refl;
  input = refl;
  known = f.known;
  value = refl;
  emits = refl;
  fit = omega arith;
  value_fits = omega arith;
  flows = f.flows;
  depth = omega arith;
  shape = refl;
  code_stands = record { before = before; after = after; split = refl; is = refl };
}

-- instances have their entries wherever their code stands at its place
entries_have : (g : Scope) (st : Setting) (n place : ℕ) (is : List Instance) (before after : List Instruction) → length before ≡ place →
    InstancesFlow st g n place is → HaveEntries g st (before ++ (code_from st g n place is ++ after)) n is (entries_from st g n place is)
entries_have g st n place [] before after q f = tt
entries_have g st n place (i ∷ is) before after q f =
    let own : List Instruction = instance_code st g i in
    let e : Entry = entry_at st g place i in
    let next : Setting = one_more_in st n e in
    let more : List Instruction = code_from next g (suc n) (place + length own) is in
    let inner : before ++ ((own ++ more) ++ after) ≡ before ++ (own ++ (more ++ after)) = ap (λ z. before ++ z) (append_assoc own more after) in
    let outer : before ++ (own ++ (more ++ after)) ≡ (before ++ own) ++ (more ++ after) = sym (append_assoc before own (more ++ after)) in (
      subst (λ code. HasEntry g st code i e) (sym inner)
          (subst (λ p. HasEntry g st (before ++ (own ++ (more ++ after))) i (entry_at st g p i)) q (has_entry g st before (more ++ after) i f.0)),
      subst (λ code. HaveEntries g next code (suc n) is (entries_from next g (suc n) (place + length own) is)) (sym (inner ∙ outer))
          (entries_have g next (suc n) (place + length own) is (before ++ own) after (length-append before own ∙ ap (λ p. p + length own) q) f.1),
    )

-- the instances of a program stand
pub stand : InstancesStand
stand core size f = record {
  entries = entries_from (first_setting core) (program_scope core) 0 0 core.instances;
  assigned = refl;
  have = entries_have (program_scope core) (first_setting core) 0 0 core.instances [] (main_code core ++ Stop ∷ []) refl f;
  are = λ k. refl;
}
