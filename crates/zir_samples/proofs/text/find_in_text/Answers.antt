use Rattle.std.proofs.Common.{◌≡◌, ◌<◌, ◌++◌, ◌∷◌, [], length, take, ap, subst, ◌∙◌, w64, to_z, of_z, FitsSigned, arith, rules}
use Rattle.std.proofs.lemmas.Int.{to_z-of_z}
use Rattle.std.proofs.lemmas.List.{take_more_set, take_rest}
use Rattle.zir_meaning.specs.Elements.{numbers_in}
use Rattle.zir_samples.specs.declared.text.Front.TheVariants.{Item, Malformed, Nothing}
use Rattle.zir_samples.specs.Finding.{short_answer}
use Rattle.zir_samples.specs.Reading.{Reads}
use Rattle.zir_samples.proofs.Gathering.{HasRead, read_malformed, read_more, read_short, read_whole}
use Rattle.zir_samples.proofs.text.find_in_text.Goals as goal

pub returns-then-ended : goal.returns-then-ended
returns-then-ended c =
    let few : c.loop-cell.cell-index < numbers_in c.args.ty.now = omega (arith, c.loop-cell-test.true, c.loop-cell.auto.into, c.requires.cells) in
    let none = subst (λ bs. Reads c.args.ty.now.base c.args.ended bs Nothing) (take_rest c.args.bytes.now c.loop-cell.at) c.in-Nothing.ensures in
    read_short c.args.ty.now c.args.ended c.args.bytes.now c.loop-cell.at c.loop-cell.into _ c.loop-cell.cell-index _ (ap short_answer c.if-ended.true) few c.loop-cell.invariant none

pub returns-else-ended : goal.returns-else-ended
returns-else-ended c =
    let few : c.loop-cell.cell-index < numbers_in c.args.ty.now = omega (arith, c.loop-cell-test.true, c.loop-cell.auto.into, c.requires.cells) in
    let none = subst (λ bs. Reads c.args.ty.now.base c.args.ended bs Nothing) (take_rest c.args.bytes.now c.loop-cell.at) c.in-Nothing.ensures in
    read_short c.args.ty.now c.args.ended c.args.bytes.now c.loop-cell.at c.loop-cell.into _ c.loop-cell.cell-index _ (ap short_answer c.if-ended.false) few c.loop-cell.invariant none

pub returns-in-Malformed : goal.returns-in-Malformed
returns-in-Malformed c =
    let few : c.loop-cell.cell-index < numbers_in c.args.ty.now = omega (arith, c.loop-cell-test.true, c.loop-cell.auto.into, c.requires.cells) in
    let bad = subst (λ bs. Reads c.args.ty.now.base c.args.ended bs Malformed) (take_rest c.args.bytes.now c.loop-cell.at) c.in-Malformed.ensures in
    read_malformed c.args.ty.now c.args.ended c.args.bytes.now c.loop-cell.at c.loop-cell.into _ c.loop-cell.cell-index bad.0 few c.loop-cell.invariant bad.1

pub loop-cell-preserved : goal.loop-cell-preserved
loop-cell-preserved c =
    let i = c.loop-cell.cell-index in
    let z = c.in-Item.number in
    let known : FitsSigned w64 z = search rules in
    let inside : i < length c.loop-cell.into = omega (arith, c.loop-cell-test.true, c.loop-cell.auto.into) in
    let read = subst (λ bs. Reads c.args.ty.now.base c.args.ended bs (Item z c.in-Item.size)) (take_rest c.args.bytes.now c.loop-cell.at) c.in-Item.ensures in
    read_more c.args.ty.now.base c.args.ended c.args.bytes.now c.loop-cell.at c.loop-cell.into _ i z c.in-Item.size c.loop-cell.invariant read.0 read.1 read.2
    (take_more_set c.loop-cell.into i (to_z w64 (of_z w64 z)) inside ∙ ap (λ y. take i c.loop-cell.into ++ y ∷ []) (to_z-of_z w64 z known))

pub returns : goal.returns
returns c =
    let ty = c.args.ty.now in
    let size : length c.loop-cell.into ≡ numbers_in ty = c.loop-cell.auto.into ∙ c.requires.cells in
    let all : c.loop-cell.cell-index ≡ numbers_in ty = omega (arith, size, c.loop-cell-test.false, c.loop-cell.auto.cell-index-end) in
    read_whole ty c.args.ended c.args.bytes.now c.loop-cell.at c.loop-cell.into c.requires.stream size
    (subst (HasRead ty.base c.args.ended c.args.bytes.now c.loop-cell.at c.loop-cell.into) all c.loop-cell.invariant)
