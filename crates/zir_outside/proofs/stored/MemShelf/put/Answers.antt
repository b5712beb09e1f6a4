use Rattle.std.proofs.Common.{◌≡◌, true, get_or, ap, ◌∙◌, rules}
use Rattle.std.specs.Str.{bytes_eq}
use Rattle.std.specs.Option.{option_map}
use Rattle.zir_outside.specs.Memory.{entry}
use Rattle.zir_outside.proofs.TextLemmas.{room_first}
use Rattle.zir_outside.proofs.StockLemmas.{stock_put}
use Rattle.zir_outside.proofs.stored.MemShelf.put.Goals as goal

pub returns-in-Some-clause-full : goal.returns-in-Some-clause-full
returns-in-Some-clause-full c =
    let x = c.index_mut.result.now in
    let here : x ≡ get_or c.args.self.now.texts.items c.in-Some.place x = search rules in
    let passes : bytes_eq (entry x).name c.args.name.now ≡ true = ap (λ z. bytes_eq (entry z).name c.args.name.now) here ∙ c.in-Some.ensures.named x in
    rw (room_first entry c.args.name.now (option_map (λ b. b.room) c.args.self.now.blank) c.args.self.now.texts.items c.in-Some.place x x c.in-Some.ensures.within here passes (λ j below. c.in-Some.ensures.before j x below))
    c.append.ensures.full

pub returns-in-Some-clause-stock : goal.returns-in-Some-clause-stock
returns-in-Some-clause-stock c =
    let x = c.index_mut.result.now in
    let here : x ≡ get_or c.args.self.now.texts.items c.in-Some.place x = search rules in
    stock_put c.append.result c.args.self.now.texts.items (option_map (λ b. b.room) c.args.self.now.blank) c.in-Some.place x c.append.new.self c.args.name.now c.args.piece.now here c.in-Some.ensures c.append.ensures.ok c.append.ensures.err
