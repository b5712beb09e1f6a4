use Rattle.zir_compile.specs.Names.{scope_of}
use Rattle.zir_compile.proofs.Found.{finds_beyond, finds_far, finds_none, finds_part}
use Rattle.zir_compile.proofs.scope.Names.+standing.Goals as goal

pub standing-returns-in-Part : goal.standing-returns-in-Part
standing-returns-in-Part t c = rw c.in-Part.is (rw c.get.ensures at c.standing_part.ensures c.in-Part.field-1 c.in-Part.field-3)

pub standing_part-returns-in_err-standing : goal.standing_part-returns-in_err-standing
standing_part-returns-in_err-standing t c =
    λ name at. finds_beyond (scope_of c.args.self.now) c.args.a.now _ _ c.from_residual.ensures.1 c.in_err-standing.ensures name c.args.k at

pub standing_part-returns-in_err-part-in-Some : goal.standing_part-returns-in_err-part-in-Some
standing_part-returns-in_err-part-in-Some t c =
    λ name at. finds_far (scope_of c.args.self.now) c.args.a.now c.in-Some.whole c.args.k _ _ c.from_residual-in_err-part-in-Some.ensures.1 (rw c.in-Some.is at c.in_ok-standing.ensures) c.in_err-part-in-Some.ensures name at

pub standing_part-returns-in-None : goal.standing_part-returns-in-None
standing_part-returns-in-None t c = λ name at. finds_none (scope_of c.args.self.now) c.args.a.now (rw c.in-None.is at c.in_ok-standing.ensures) name c.args.k at

pub standing_part-returns-in_ok-part-in-Some : goal.standing_part-returns-in_ok-part-in-Some
standing_part-returns-in_ok-part-in-Some t c =
    λ name at. finds_part (scope_of c.args.self.now) c.args.a.now c.in-Some.whole c.in_ok-part-in-Some.part c.args.k (rw c.in-Some.is at c.in_ok-standing.ensures) c.in_ok-part-in-Some.ensures.0 c.in_ok-part-in-Some.ensures.1 name at
