use Rattle.zir_outside.proofs.TextLemmas.{text_in-each}
use Rattle.zir_outside.proofs.stored.MemShelf.new.Goals as goal

pub returns-in_err-texts-clause-each : goal.returns-in_err-texts-clause-each
returns-in_err-texts-clause-each c = text_in-each c.args.room c.args.texts.items c.requires

pub returns-in_err-reserve-clause-each : goal.returns-in_err-reserve-clause-each
returns-in_err-reserve-clause-each c = text_in-each c.args.room c.args.texts.items c.requires

pub returns-in_err-new-clause-each : goal.returns-in_err-new-clause-each
returns-in_err-new-clause-each c = text_in-each c.args.room c.args.texts.items c.requires

pub returns-clause-each : goal.returns-clause-each
returns-clause-each c = text_in-each c.args.room c.args.texts.items c.requires
