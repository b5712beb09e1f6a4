use Rattle.std.proofs.Common.{◌≡◌, ◌∙◌, ◌+◌, ap, sym, List, [], ◌∷◌, drop}
use Rattle.zir_tree.specs.declared.program.Decl.TheVariants.{Struct}
use Rattle.zir_types.specs.declared.scope.Shape.{Shape}
use Rattle.zir_types.specs.Measures.{Measure, Holds}
use Rattle.zir_types.specs.Limits.{in_structs, in_struct_fields}
use Rattle.zir_limits.specs.declared.notes.Notes.{Notes}
use Rattle.zir_limits.specs.Notes.{noted}
use Rattle.zir_limits.proofs.Noted.{noted_two, noted_next}
use Rattle.zir_limits.proofs.Rows.{at_place}
use Rattle.zir_limits_walks.proofs.structs.note_declaration.Goals as goal

pub returns-then-place-shapes : goal.returns-then-place-shapes
returns-then-place-shapes c = λ g ds.
    let n : Notes = c.args.notes.now in
    let shape : Shape = c.index-shapes-place.result in
    let rest : List Shape = drop (c.args.place + 1) c.args.shapes.now in
    let fields : List Measure = in_struct_fields c.in-Struct.s.fields in
    let held : Measure = Holds shape.cells c.in-Struct.s.at in
    let cells : c.from.result ≡ shape.cells = c.from.ensures ∙ ap (λ (s : Shape). s.cells) (sym c.index-shapes-place.is) in
    let one : c.holds.new.self ≡ noted (held ∷ []) n = c.holds.ensures ∙ ap (λ k. noted (Holds k c.in-Struct.s.at ∷ []) n) cells in
    let two : c.note_lengths.new.notes ≡ noted fields c.holds.new.self = c.note_lengths.ensures ∙ ap (λ fs. noted (in_struct_fields fs) c.holds.new.self) c.as_slice.ensures in
    ap (λ d. noted (in_structs g (d ∷ ds) (drop c.args.place c.args.shapes.now)) n) c.in-Struct.is
    ∙ ap (λ l. noted (in_structs g (Struct c.in-Struct.s ∷ ds) l) n) (at_place c.args.shapes.now c.args.place shape c.if-place-shapes.true c.index-shapes-place.is)
    ∙ noted_next (held ∷ fields) (in_structs g ds rest) n c.note_lengths.new.notes (noted_two (held ∷ []) fields n c.holds.new.self c.note_lengths.new.notes one two)
