use Rattle.zir_compile.proofs.Forms.{both-are, calm-Unary, calm-Binary, calm-Index, calm-Slice, calm-Part, calm-Call, calm-Array, calm-Convert, calm-Complex}
use Rattle.zir_compile.proofs.calm.+calm.Goals as goal

pub is_calm-returns-in-Unary : goal.is_calm-returns-in-Unary
is_calm-returns-in-Unary t c = rw (c.in-Unary.is, calm-Unary) (rw c.get.ensures at c.is_calm.ensures)

pub is_calm-returns-in-Binary : goal.is_calm-returns-in-Binary
is_calm-returns-in-Binary t c =
    let x = rw c.get-in-Binary.ensures at c.is_calm-in-Binary.ensures in
    let y = rw c.get-in-Binary-2.ensures at c.is_calm-in-Binary-2.ensures in
    rw (c.in-Binary.is, calm-Binary) (both-are _ _ _ _ _ c.both.ensures x y)

pub is_calm-returns-in-Index : goal.is_calm-returns-in-Index
is_calm-returns-in-Index t c =
    let x = rw c.get-in-Index.ensures at c.is_calm-in-Index.ensures in
    let y = rw c.get-in-Index-2.ensures at c.is_calm-in-Index-2.ensures in
    rw (c.in-Index.is, calm-Index) (both-are _ _ _ _ _ c.both-in-Index.ensures x y)

pub is_calm-returns-in-Slice : goal.is_calm-returns-in-Slice
is_calm-returns-in-Slice t c =
    let x = rw c.get-in-Slice.ensures at c.is_calm-in-Slice.ensures in
    let y = rw c.get-in-Slice-2.ensures at c.is_calm-in-Slice-2.ensures in
    rw (c.in-Slice.is, calm-Slice) (both-are _ _ _ _ _ c.both-in-Slice.ensures x y)

pub is_calm-returns-in-Part : goal.is_calm-returns-in-Part
is_calm-returns-in-Part t c = rw (c.in-Part.is, calm-Part) (rw c.get-in-Part.ensures at c.is_calm-in-Part.ensures)

pub is_calm-returns-in-Call : goal.is_calm-returns-in-Call
is_calm-returns-in-Call t c =
    let y = rw c.as_slice.ensures at c.are_calm.ensures in
    rw (c.in-Call.is, calm-Call) (both-are _ _ _ _ _ c.both-in-Call.ensures c.calls_none.ensures y)

pub is_calm-returns-in-Array : goal.is_calm-returns-in-Array
is_calm-returns-in-Array t c = rw (c.in-Array.is, calm-Array) (rw c.as_slice-in-Array.ensures at c.are_calm-in-Array.ensures)

pub is_calm-returns-in-Convert : goal.is_calm-returns-in-Convert
is_calm-returns-in-Convert t c = rw (c.in-Convert.is, calm-Convert) (rw c.get-in-Convert.ensures at c.is_calm-in-Convert.ensures)

pub is_calm-returns-in-Complex : goal.is_calm-returns-in-Complex
is_calm-returns-in-Complex t c =
    let x = rw c.get-in-Complex.ensures at c.is_calm-in-Complex.ensures in
    let y = rw c.get-in-Complex-2.ensures at c.is_calm-in-Complex-2.ensures in
    rw (c.in-Complex.is, calm-Complex) (both-are _ _ _ _ _ c.both-in-Complex.ensures x y)
