-- The rows of a log are all taken.
use Rattle.std.proofs.Common.{Some, Err, refl, arith}
use Rattle.sect_history.specs.Step.{stepped}
use Rattle.sect_model.specs.World.{empty_state}
use Rattle.sect_once.proofs.Reopening.{reopened}
use Rattle.sect_once.specs.declared.answer.OpenFault.TheVariants as shut
use Rattle.sect_wire.specs.Laws.{IsRow, OneEntry}
use Rattle.sect_app.specs.Valid.{RowsOfALogOpen}

pub rows_open : OneEntry → RowsOfALogOpen
rows_open one log rows legal roomy are = λ number bad.
    reopened empty_state stepped IsRow (λ (keeper : Unit {0}). Some rows) (λ (keeper : Unit {0}). 0) one tt (Err (shut.BadEntry number, tt)) (bad, refl, omega arith)
    log rows refl legal roomy are
