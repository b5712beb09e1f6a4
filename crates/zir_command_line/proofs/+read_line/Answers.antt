use Rattle.std.proofs.Common.{◌≡◌, ◌+◌, ◌-◌, ◌∷◌, map, length, take, drop, string_bytes, Some, None, sym, ap, ◌∙◌}
use Rattle.zir_command_line.specs.Walk.{Stops, state_of, step}
use Rattle.zir_command_line.proofs.Lists.{first_in_front, stops_later, stops_here, if_err}
use Rattle.zir_command_line.proofs.+read_line.Goals as goal

pub returns-in-Some-clause-err : goal.returns-in-Some-clause-err
returns-in-Some-clause-err t c =
    let words = c.args.words.now in
    let s = state_of c.args.line in
    let w = string_bytes c.word-item.result in
    let rest = map string_bytes (take (length words - 1) (drop 1 words)) in
    let e : step s w ≡ Some (state_of c.in-Some.further) = ap (step s) (sym c.as_str.ensures.value) ∙ sym c.in-Some.ensures in
    rw (first_in_front string_bytes words c.word-item.result c.in-len1-up.len_at_least c.word-item.is)
    (if_err (λ x. Stops (state_of c.in-Some.further) rest (c.args.index + 1) x.word) (λ x. Stops s (w ∷ rest) c.args.index x.word) c.read_line.result
    (λ x. stops_later s (state_of c.in-Some.further) w rest c.args.index x.word e) c.read_line.ensures.err)

pub returns-in-None-clause-err : goal.returns-in-None-clause-err
returns-in-None-clause-err t c =
    let words = c.args.words.now in
    let s = state_of c.args.line in
    let w = string_bytes c.word-item.result in
    let rest = map string_bytes (take (length words - 1) (drop 1 words)) in
    let e : step s w ≡ None = ap (step s) (sym c.as_str.ensures.value) ∙ sym c.in-None.ensures in
    rw (first_in_front string_bytes words c.word-item.result c.in-len1-up.len_at_least c.word-item.is) (stops_here s w rest c.args.index e)
