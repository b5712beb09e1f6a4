-- Cells that are brought back, one variable after the other.
use Rattle.std.specs.Prelude.{ℕ, ◌+◌, ◌<◌, ◌≤◌, List, ◌++◌, length, drop, ◌≡◌}
use Rattle.std.proofs.Common.{ap, sym, ◌∙◌, append_assoc, append-nil, get_or}
use Rattle.std.proofs.lemmas.List.{drop_all}
use Rattle.zir_code.specs.declared.scope.Holder.{Holder}
use Rattle.zir_compile.proofs.Finding.{at_place}
use Rattle.zir_meaning.specs.Store.{among}
use Rattle.zir_flow.specs.declared.instruction.Back.{Back}
use Rattle.zir_flow.specs.Flowing.{back_if, back_among}

pub bring_next : (ids : List ℕ) (ds : List Holder) (i : ℕ) (d : Holder) (mid new whole : List Back) → i < length ds → d ≡ get_or ds i d → new ≡ mid ++ back_if (among ids d.id) d →
    mid ++ back_among ids (drop i ds) ≡ whole → new ++ back_among ids (drop (i + 1) ds) ≡ whole
bring_next ids ds i d mid new whole lt is e h =
    ap (λ (xs : List Back). xs ++ back_among ids (drop (i + 1) ds)) e ∙ append_assoc mid (back_if (among ids d.id) d) (back_among ids (drop (i + 1) ds))
    ∙ ap (λ rest. mid ++ back_among ids rest) (sym (at_place ds i d lt is)) ∙ h

pub bring_end : (ids : List ℕ) (ds : List Holder) (i : ℕ) (mid whole : List Back) → length ds ≤ i → mid ++ back_among ids (drop i ds) ≡ whole → mid ≡ whole
bring_end ids ds i mid whole le h = sym (append-nil mid) ∙ ap (λ rest. mid ++ back_among ids rest) (sym (drop_all i ds le)) ∙ h
