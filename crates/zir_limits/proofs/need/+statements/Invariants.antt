use Rattle.std.proofs.Common.{◌≡◌, drop}
use Rattle.zir_types.specs.Needs.{list_sums}
use Rattle.zir_limits.specs.Facts.{told, needs_in}
use Rattle.zir_limits.proofs.need.+statements.Given as goal

-- the sums of the statements from here on
abbrev pub invariant-list_need-loop-i : goal.invariant-list_need-loop-i
invariant-list_need-loop-i l = record {
  cells : l.cells ≡ (list_sums (told l.facts).shapes (needs_in (told l.facts)) (drop l.i l.ss) l.returned).cells;
  most : l.most ≡ (list_sums (told l.facts).shapes (needs_in (told l.facts)) (drop l.i l.ss) l.returned).most;
}
