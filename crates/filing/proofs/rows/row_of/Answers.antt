-- `rows::row_of` meets its contract: each way out is a law on the line that was read. Assumes nothing.
use Rattle.filing.proofs.Row.{none_is, no_numbers, not_row, not_in_range, row_taken}
use Rattle.filing.proofs.rows.row_of.Goals as goal

pub returns-in_err-row : goal.returns-in_err-row
returns-in_err-row c =
    let e = c.in_err-row.ensures in
    let none = rw e.ok_part at c.line_of.ensures in
    rw (none_is _ _ _ _ c.from_residual.ensures.1 e.value e.ok_part) (no_numbers _ none)

pub returns-then-not-is_row : goal.returns-then-not-is_row
returns-then-not-is_row c =
    let l = rw c.in_ok-row.ensures.ok_part at c.line_of.ensures in
    not_row _ _ _ _ l _ c.is_row.ensures c.if-not-is_row.true

pub returns-then-not-row : goal.returns-then-not-row
returns-then-not-row c =
    let l = rw c.in_ok-row.ensures.ok_part at c.line_of.ensures in
    not_in_range _ _ _ _ l _ c.is_row.ensures c.if-not-is_row.false c.if-not-row.true

pub returns : goal.returns
returns c =
    let l = rw c.in_ok-row.ensures.ok_part at c.line_of.ensures in
    row_taken _ _ _ _ l _ c.is_row.ensures c.if-not-is_row.false c.if-not-row.false
