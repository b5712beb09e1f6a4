use Rattle.zir_names.proofs.Declarations.{struct_err, struct_made}
use Rattle.zir_names.proofs.program.resolve_struct.Goals as goal

pub returns-in_err-fields : goal.returns-in_err-fields
returns-in_err-fields c =
    struct_err c.args.scope.now c.args.s.now _ _ _ _ _ _ c.in_ok-check_new.ensures c.in_ok-name.ensures c.in_ok-open.ensures c.from_residual-in_err-fields.ensures.1
    (rw c.as_slice.ensures at c.in_err-fields.ensures)

pub returns : goal.returns
returns c =
    struct_made c.args.scope.now c.args.s.now _ _ _ _ _ _ _ c.in_ok-check_new.ensures c.in_ok-name.ensures c.in_ok-open.ensures (rw c.as_slice.ensures at c.in_ok-fields.ensures)
    c.len-before.ensures c.leave.ensures c.in_ok-open-2.ensures
