use Rattle.std.proofs.Common.{◌≡◌, true, true≢false, Some, get_or, sym, ap, ◌∙◌, rules}
use Rattle.std.specs.Str.{bytes_eq}
use Rattle.zir_outside.specs.Memory.{entry}
use Rattle.zir_outside.proofs.TextLemmas.{text_first, text_none, some_named, none_named}
use Rattle.zir_outside.proofs.stored.MemShelf.text.Goals as goal

pub returns-in-Some-clause-text : goal.returns-in-Some-clause-text
returns-in-Some-clause-text c =
    let x = c.index.result.now in
    let here : x ≡ get_or c.args.self.now.texts.items c.in-Some.place x = search rules in
    let passes : bytes_eq (entry x).name c.args.name.now ≡ true = ap (λ z. bytes_eq (entry z).name c.args.name.now) here ∙ c.in-Some.ensures.named x in
    ap Some c.as_slice.ensures.value ∙ sym (text_first entry c.args.name.now c.args.self.now.texts.items c.in-Some.place x x c.in-Some.ensures.within here passes (λ j below. c.in-Some.ensures.before j x below))

pub returns-in-Some-clause-none : goal.returns-in-Some-clause-none
returns-in-Some-clause-none c =
    let x = c.index.result.now in
    let here : x ≡ get_or c.args.self.now.texts.items c.in-Some.place x = search rules in
    let passes : bytes_eq (entry x).name c.args.name.now ≡ true = ap (λ z. bytes_eq (entry z).name c.args.name.now) here ∙ c.in-Some.ensures.named x in
    (λ never. absurd (true≢false never), λ never. absurd (some_named entry c.args.name.now c.args.self.now.texts.items c.in-Some.place x x c.in-Some.ensures.within here passes never))

pub returns-in-None-clause-text : goal.returns-in-None-clause-text
returns-in-None-clause-text c = sym (text_none entry c.args.name.now c.args.self.now.texts.items c.in-None.ensures)

pub returns-in-None-clause-none : goal.returns-in-None-clause-none
returns-in-None-clause-none c = (λ u. none_named entry c.args.name.now c.args.self.now.texts.items c.in-None.ensures, λ u. search rules)
