use Rattle.std.proofs.Common.{ap, sym, subst, ◌≤◌, ◌∙◌, ◌+◌, ◌/◌, ◌%◌, length}
use Rattle.zir_reader.specs.Numbers.{after, bytes_taken, Held}
use Rattle.zir_reader.proofs.Holding.{holds, skip-bits, skip-bytes}
use Rattle.zir_reader.proofs.numbers.Numbers.skip.Goals as goal

pub returns-in-Binary : goal.returns-in-Binary
returns-in-Binary c =
    let r = c.self.inside in
    let size = c.args.size in
    let within = subst (λ (v : Held). bytes_taken v.format v.bit size ≤ length v.bytes) (sym c.self.view_is) c.requires.within in
    ap (λ bit. holds r.format r.base r.piece.items (r.at + (bit + size) / 8) r.filled ((bit + size) % 8) r.ended) c.from.ensures
    ∙ skip-bits r.format r.base r.piece.items r.at r.filled r.bit size r.ended c.in-Binary.is within
    ∙ ap (λ v. after v size) c.self.view_is

pub returns-in-Text : goal.returns-in-Text
returns-in-Text c =
    let r = c.self.inside in
    let size = c.args.size in
    let within = subst (λ (v : Held). bytes_taken v.format v.bit size ≤ length v.bytes) (sym c.self.view_is) c.requires.within in
    skip-bytes r.format r.base r.piece.items r.at r.filled r.bit size r.ended c.in-Text.is within ∙ ap (λ v. after v size) c.self.view_is
