use Rattle.zir_compile.specs.Signing.{no_signature}
use Rattle.zir_compile.proofs.Typed.{all_signed}
use Rattle.zir_compile.proofs.typed_are_signed.Goals as goal

pub returns : goal.returns
returns c = λ structs tops fs fine. all_signed fs structs tops no_signature 0 fine
