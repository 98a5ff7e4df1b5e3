-- How a failure of row arithmetic appears above it.
use Rattle.row_core.specs.declared.arithmetic.RowFail.{RowFail}
use Rattle.row_core.specs.declared.arithmetic.RowFail.TheVariants.{Memory as RowMemory, Overflow as RowOverflow}
use Rattle.elim_core.specs.declared.verdicts.ElimFail.{ElimFail}
use Rattle.elim_core.specs.declared.verdicts.ElimFail.TheVariants.{Memory, Overflow}

abbrev pub of_row_fail : RowFail → ElimFail
of_row_fail RowMemory = Memory
of_row_fail RowOverflow = Overflow
