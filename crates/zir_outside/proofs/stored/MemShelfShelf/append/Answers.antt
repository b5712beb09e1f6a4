use Rattle.zir_outside.specs.Memory.{stock_of}
use Rattle.zir_outside.proofs.StockLemmas.{lengthens}
use Rattle.zir_outside.proofs.stored.MemShelfShelf.append.Goals as goal

pub returns-else-is_err-clause-lengthens : goal.returns-else-is_err-clause-lengthens
returns-else-is_err-clause-lengthens c = lengthens c.put-put.result (stock_of c.args.self.now) (stock_of c.put-put.new.self) c.args.name.now c.args.piece.now c.put-put.ensures.stock
