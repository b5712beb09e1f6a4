use Rattle.std.proofs.Common.{◌≡◌, true≢false, ℕ, ◌<◌, ◌≤◌, [], ◌∷◌, ◌++◌, Some, None, length, refl, sym, ap, ◌∙◌, subst, rules, arith}
use Rattle.std.specs.Prelude.{nat_le}
use Rattle.std.specs.Option.{option_map, unwrap_or}
use Rattle.zir_outside.specs.Memory.{entry}
use Rattle.zir_outside.proofs.TextLemmas.{room_none}
use Rattle.zir_outside.proofs.StockLemmas.{stock_made, too_long, too_small, all_made, fits}
use Rattle.zir_outside.proofs.stored.MemShelf.make.Goals.{then-name-gt-LONGEST_NAME-via-then-name-gt-LONGEST_NAME, then-name-gt-LONGEST_NAME-via-else-name-gt-LONGEST_NAME+then-piece-blank_room}
use Rattle.zir_outside.proofs.stored.MemShelf.make.Goals as goal

pub returns-then-name-gt-LONGEST_NAME-clause-full : goal.returns-then-name-gt-LONGEST_NAME-clause-full
returns-then-name-gt-LONGEST_NAME-clause-full c =
    let fresh = option_map (λ b. b.room) c.args.self.now.blank in
    rw (room_none entry c.args.name.now fresh c.args.self.now.texts.items c.requires)
    (elim c.then-name-gt-LONGEST_NAME.branch [
      | then-name-gt-LONGEST_NAME-via-then-name-gt-LONGEST_NAME w ↦ (λ u. too_long fresh (length c.args.name.now) (length c.args.piece.now) (search rules), λ u. refl)
      | then-name-gt-LONGEST_NAME-via-else-name-gt-LONGEST_NAME+then-piece-blank_room w ↦
          (λ u. too_small (nat_le (length c.args.name.now) 255) fresh (length c.args.piece.now) (search rules), λ u. refl)
    ])

pub returns-in_default-clause-full : goal.returns-in_default-clause-full
returns-in_default-clause-full c =
    let fresh = option_map (λ b. b.room) c.args.self.now.blank in
    let none : c.args.self.now.blank ≡ None = search rules in
    rw (room_none entry c.args.name.now fresh c.args.self.now.texts.items c.requires)
    (λ u. all_made (nat_le (length c.args.name.now) 255) fresh (length c.args.piece.now) (ap (λ o. option_map (λ b. b.room) o) none), λ u. refl)

pub returns-clause-full : goal.returns-clause-full
returns-clause-full c =
    let fresh = option_map (λ b. b.room) c.args.self.now.blank in
    let has : c.args.self.now.blank ≡ Some c.in-Some.blank = search rules in
    let short : length c.args.name.now ≤ 255 = search rules in
    let within : length c.args.piece.now ≤ c.in-Some.blank.room = search rules in
    rw (room_none entry c.args.name.now fresh c.args.self.now.texts.items c.requires)
    (λ never. absurd (true≢false (sym never)), λ small. absurd (fits fresh c.in-Some.blank.room (length c.args.name.now) (length c.args.piece.now) (ap (λ o. option_map (λ b. b.room) o) has) short within small))

pub returns-clause-stock : goal.returns-clause-stock
returns-clause-stock c =
    let has : c.args.self.now.blank ≡ Some c.in-Some.blank = search rules in
    let none : c.take.new.self ≡ None = search rules in
    let items : c.push.new.self.items ≡ c.args.self.now.texts.items ++ c.filled.result ∷ [] = search rules in
    stock_made c.args.self.now.texts.items c.push.new.self.items (option_map (λ b. b.room) c.args.self.now.blank) (option_map (λ b. b.room) c.take.new.self) c.in-Some.blank.room c.filled.result c.args.name.now c.args.piece.now
    c.requires items (ap (λ o. option_map (λ b. b.room) o) has) (ap (λ o. option_map (λ b. b.room) o) none) c.filled.ensures
