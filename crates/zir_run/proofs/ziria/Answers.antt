-- What is done with a text is what the words ask for.
use Rattle.std.proofs.Common.{map}
use Rattle.std.specs.Prelude.{string_bytes}
use Rattle.zir_words.specs.Words.{Ask, asked_of}
use Rattle.zir_run.proofs.Verdicts.{named, has_text, refused_as}
use Rattle.zir_run.proofs.ziria.Goals as goal

pub returns-in-Some-clause-ended : goal.returns-in-Some-clause-ended
returns-in-Some-clause-ended g c a is m =
    let asks : Ask (map string_bytes c.args.words.now) (asked_of c.in-Some.job) = c.in-Some.ensures.some in
    let n = named c.ask_once.ensures (map string_bytes c.args.words.now) (g.H.Shelf.texts c.args.shelf.now) (g.S.Source.left c.args.input.now) a (asked_of c.in-Some.job) asks m in
    let keeps = c.perform_named.ensures.keeps m.text a n.0 n.1 in
    keeps.ended is

pub returns-in-Some-clause-prefix : goal.returns-in-Some-clause-prefix
returns-in-Some-clause-prefix g c a broken m =
    let asks : Ask (map string_bytes c.args.words.now) (asked_of c.in-Some.job) = c.in-Some.ensures.some in
    let n = named c.ask_once.ensures (map string_bytes c.args.words.now) (g.H.Shelf.texts c.args.shelf.now) (g.S.Source.left c.args.input.now) a (asked_of c.in-Some.job) asks m in
    let keeps = c.perform_named.ensures.keeps m.text a n.0 n.1 in
    keeps.prefix broken

pub returns-in-Some-clause-whole : goal.returns-in-Some-clause-whole
returns-in-Some-clause-whole g c a eight m =
    let asks : Ask (map string_bytes c.args.words.now) (asked_of c.in-Some.job) = c.in-Some.ensures.some in
    let n = named c.ask_once.ensures (map string_bytes c.args.words.now) (g.H.Shelf.texts c.args.shelf.now) (g.S.Source.left c.args.input.now) a (asked_of c.in-Some.job) asks m in
    let keeps = c.perform_named.ensures.keeps m.text a n.0 n.1 in
    keeps.whole eight

pub returns-in-Some-clause-note_prefix : goal.returns-in-Some-clause-note_prefix
returns-in-Some-clause-note_prefix g c a eight m =
    let asks : Ask (map string_bytes c.args.words.now) (asked_of c.in-Some.job) = c.in-Some.ensures.some in
    let n = named c.ask_once.ensures (map string_bytes c.args.words.now) (g.H.Shelf.texts c.args.shelf.now) (g.S.Source.left c.args.input.now) a (asked_of c.in-Some.job) asks m in
    let keeps = c.perform_named.ensures.keeps m.text a n.0 n.1 in
    keeps.note_prefix eight

pub returns-in-Some-clause-complete : goal.returns-in-Some-clause-complete
returns-in-Some-clause-complete g c a m =
    let asks : Ask (map string_bytes c.args.words.now) (asked_of c.in-Some.job) = c.in-Some.ensures.some in
    let n = named c.ask_once.ensures (map string_bytes c.args.words.now) (g.H.Shelf.texts c.args.shelf.now) (g.S.Source.left c.args.input.now) a (asked_of c.in-Some.job) asks m in
    let keeps = c.perform_named.ensures.keeps m.text a n.0 n.1 in
    keeps.told

pub returns-in-Some-clause-refused : goal.returns-in-Some-clause-refused
returns-in-Some-clause-refused g c other text two names =
    let asks : Ask (map string_bytes c.args.words.now) (asked_of c.in-Some.job) = c.in-Some.ensures.some in
    refused_as c.ask_once.ensures (map string_bytes c.args.words.now) (g.H.Shelf.texts c.args.shelf.now) (asked_of c.in-Some.job) other text asks names
    (c.perform_named.ensures.refused text two (has_text c.ask_once.ensures (map string_bytes c.args.words.now) (g.H.Shelf.texts c.args.shelf.now) (asked_of c.in-Some.job) other text asks names))
