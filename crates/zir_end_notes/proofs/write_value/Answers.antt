use Rattle.std.proofs.Common.{◌≡◌, List, ℕ, ◌++◌, codes, ap, sym, ◌∙◌, append_assoc}
use Rattle.zir_tree.specs.declared.types.Base.{Base}
use Rattle.zir_tree.specs.declared.types.StructDef.{StructDef}
use Rattle.zir_tree.specs.declared.value.Val.{Val}
use Rattle.zir_meaning.specs.Notes.{value_text, counts_of, line_of}
use Rattle.zir_end_notes.proofs.Growing.{at_error, from_ok, from_error, ◌▸◌, adds_as, part_as, part_first, part_next, grew_all, part_all, begun, part_begun}
use Rattle.zir_end_notes.proofs.write_value.Goals as goal

-- the note in its parts
whole : (value counts : List ℕ) → codes "ended " ++ (value ++ (codes "\n" ++ counts)) ≡ line_of (codes "ended " ++ value) ++ counts
whole value counts = ap (λ l. codes "ended " ++ l) (sym (append_assoc value (codes "\n") counts))

-- the same type
of_type : (structs : List StructDef) (v : Val) (l m : List ℕ) (b d : Base) → l ≡ m → b ≡ d → value_text structs l b v ≡ value_text structs m d v
of_type structs v l m b d lengths base = ap (λ k. value_text structs k b v) lengths ∙ ap (λ k. value_text structs m k v) base

pub returns-in_err-add-clause-failed : goal.returns-in_err-add-clause-failed
returns-in_err-add-clause-failed g c =
    let s = g.N.Sink.stands_for in
    let value : List ℕ = value_text c.args.structs.now c.args.ty.now.lengths c.args.ty.now.base c.args.value.now in
    let counts : List ℕ = counts_of c.args.taken c.args.written in
    at_error c.from_residual.result (part_begun (s c.args.notes.now) (s c.add.new.notes) c.new-held.ensures (part_as (line_of (codes "ended " ++ value) ++ counts) (whole value counts) (part_first (value ++ (codes "\n" ++ counts)) c.in_err-add.ensures.failed)))

pub returns-in_err-add_value-clause-failed : goal.returns-in_err-add_value-clause-failed
returns-in_err-add_value-clause-failed g c =
    let s = g.N.Sink.stands_for in
    let value : List ℕ = value_text c.args.structs.now c.args.ty.now.lengths c.args.ty.now.base c.args.value.now in
    let counts : List ℕ = counts_of c.args.taken c.args.written in
    let same = of_type c.args.structs.now c.args.value.now c.kind_of.result.lengths.now c.args.ty.now.lengths c.kind_of.result.base c.args.ty.now.base c.kind_of.ensures.lengths c.kind_of.ensures.base in
    at_error c.from_residual-in_err-add_value.result
    (part_begun (s c.args.notes.now) (s c.add_value.new.notes) c.new-held.ensures
    (part_as (line_of (codes "ended " ++ value) ++ counts) (whole value counts) (part_next c.in_ok-add.ensures.ok (part_first (codes "\n" ++ counts) (part_as value same c.in_err-add_value.ensures.failed)))))

pub returns-in_err-add-2-clause-failed : goal.returns-in_err-add-2-clause-failed
returns-in_err-add-2-clause-failed g c =
    let s = g.N.Sink.stands_for in
    let value : List ℕ = value_text c.args.structs.now c.args.ty.now.lengths c.args.ty.now.base c.args.value.now in
    let counts : List ℕ = counts_of c.args.taken c.args.written in
    let same = of_type c.args.structs.now c.args.value.now c.kind_of.result.lengths.now c.args.ty.now.lengths c.kind_of.result.base c.args.ty.now.base c.kind_of.ensures.lengths c.kind_of.ensures.base in
    let behind : c.as_bytes.result.now ≡ codes "\n" ++ counts_of c.args.taken c.args.written = cc in
    at_error c.from_residual-in_err-add-2.result
    (part_begun (s c.args.notes.now) (s c.add-2.new.notes) c.new-held.ensures
    (part_as (line_of (codes "ended " ++ value) ++ counts) (whole value counts) (part_next c.in_ok-add.ensures.ok (part_next (adds_as value same c.in_ok-add_value.ensures.ok) (part_as (codes "\n" ++ counts) behind c.in_err-add-2.ensures.failed)))))

pub returns-clause-ok : goal.returns-clause-ok
returns-clause-ok g c =
    let s = g.N.Sink.stands_for in
    let value : List ℕ = value_text c.args.structs.now c.args.ty.now.lengths c.args.ty.now.base c.args.value.now in
    let counts : List ℕ = counts_of c.args.taken c.args.written in
    let same = of_type c.args.structs.now c.args.value.now c.kind_of.result.lengths.now c.args.ty.now.lengths c.kind_of.result.base c.args.ty.now.base c.kind_of.ensures.lengths c.kind_of.ensures.base in
    let behind : c.as_bytes.result.now ≡ codes "\n" ++ counts_of c.args.taken c.args.written = cc in
    from_ok c.put_held.result
    (λ put. grew_all (s c.put_held.new.notes)
    (begun c.new-held.ensures (adds_as (line_of (codes "ended " ++ value) ++ counts) (whole value counts) (c.in_ok-add.ensures.ok ▸ (adds_as value same c.in_ok-add_value.ensures.ok ▸ adds_as (codes "\n" ++ counts) behind c.in_ok-add-2.ensures.ok))))
    put)
    c.put_held.ensures.ok

pub returns-clause-failed : goal.returns-clause-failed
returns-clause-failed g c =
    let s = g.N.Sink.stands_for in
    let value : List ℕ = value_text c.args.structs.now c.args.ty.now.lengths c.args.ty.now.base c.args.value.now in
    let counts : List ℕ = counts_of c.args.taken c.args.written in
    let same = of_type c.args.structs.now c.args.value.now c.kind_of.result.lengths.now c.args.ty.now.lengths c.kind_of.result.base c.args.ty.now.base c.kind_of.ensures.lengths c.kind_of.ensures.base in
    let behind : c.as_bytes.result.now ≡ codes "\n" ++ counts_of c.args.taken c.args.written = cc in
    from_error c.put_held.result
    (λ put. part_all (s c.put_held.new.notes)
    (begun c.new-held.ensures (adds_as (line_of (codes "ended " ++ value) ++ counts) (whole value counts) (c.in_ok-add.ensures.ok ▸ (adds_as value same c.in_ok-add_value.ensures.ok ▸ adds_as (codes "\n" ++ counts) behind c.in_ok-add-2.ensures.ok))))
    put)
    c.put_held.ensures.failed
