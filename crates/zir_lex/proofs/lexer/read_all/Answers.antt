-- One turn of the loop reads one piece more.
use Rattle.std.proofs.Common.{arith, ◌≡◌, ◌+◌, ◌-◌, ◌≤◌, ℕ, List, ap, sym, ◌∙◌, subst, subst₂, length, drop, take, length-drop, length-take-le, ◌++◌}
use Rattle.std.proofs.lemmas.List.{take_rest}
use Rattle.zir_lex.specs.Fronts.{IsFront, tokens_at, end_at}
use Rattle.zir_lex.specs.Places.{place_past}
use Rattle.zir_lex.specs.declared.front.Front.{Front}
use Rattle.zir_lex.specs.declared.token.Token.{Token}
use Rattle.zir_tree.specs.declared.place.Place.{Place}
use Rattle.zir_lex.proofs.Reading.{ReadSoFar, read_on}
use Rattle.zir_lex.proofs.lexer.read_all.Goals as goal

-- the same as `read_on`, of the slice that the code reads
turn : (text : List ℕ) (at : ℕ) (tokens after : List Token) (place next end beyond : Place) (front : Front) → ReadSoFar text at tokens place end → IsFront front (take (length text - at) (drop at text)) → after ≡ tokens ++ tokens_at place front.lexeme
    → next ≡ place_past place (take front.len (take (length text - at) (drop at text))) → beyond ≡ end_at end next front.lexeme → ReadSoFar text (at + front.len) after next beyond
turn text at tokens after place next end beyond front so_far it after_is next_is beyond_is =
    let rest : take (length text - at) (drop at text) ≡ drop at text = take_rest text at in
    let next_place : next ≡ place_past place (take front.len (drop at text)) = next_is ∙ ap (λ l. place_past place (take front.len l)) rest in
    subst (λ e. ReadSoFar text (at + front.len) after next e) (sym (beyond_is ∙ ap (λ p. end_at end p front.lexeme) next_place))
    (subst₂ (λ ts p. ReadSoFar text (at + front.len) ts p (end_at end (place_past place (take front.len (drop at text))) front.lexeme)) (sym after_is) (sym next_place)
    (read_on text at tokens place end front so_far (subst (IsFront front) rest it)))

-- how far a turn comes in the text, in its lines and in its columns
reaches : (text : List ℕ) (at len : ℕ) → at ≤ length text → len ≤ length (take (length text - at) (drop at text)) → at + len ≤ length text
reaches text at len within fits =
    let behind : length (take (length text - at) (drop at text)) ≡ length (drop at text) = ap length (take_rest text at) in
    let less : length (drop at text) ≡ length text - at = length-drop at text in
    omega arith

grows : (rest : List ℕ) (at len before after : ℕ) → before ≤ 1 + at → len ≤ length rest → after ≤ before + length (take len rest) → after ≤ 1 + (at + len)
grows rest at len before after small fits more =
    let taken : length (take len rest) ≡ len = length-take-le len rest fits in
    omega arith

pub loop-at-preserved : goal.loop-at-preserved
loop-at-preserved c = record {
  within = reaches c.args.text.now c.loop-at.at c.in-Ok.front.len c.loop-at.invariant.within c.in-Ok.ensures.within;
  line = grows _ c.loop-at.at c.in-Ok.front.len c.loop-at.place.line c.place_past-next.result.line c.loop-at.invariant.line c.in-Ok.ensures.within c.place_past-next.ensures.line;
  column = grows _ c.loop-at.at c.in-Ok.front.len c.loop-at.place.col c.place_past-next.result.col c.loop-at.invariant.column c.in-Ok.ensures.within c.place_past-next.ensures.column;
  so_far = turn c.args.text.now c.loop-at.at c.loop-at.tokens.items c.add.new.tokens.items c.loop-at.place c.place_past-next.result c.loop-at.end c.end_behind-end.result c.in-Ok.front c.loop-at.invariant.so_far c.in-Ok.ensures c.in_ok-add.ensures.ok c.place_past-next.ensures.place c.end_behind-end.ensures;
}
