-- Why a line isn't read, from why its words aren't.
use Rattle.sect_words.specs.declared.fault.Fault.{Fault}
use Rattle.sect_words.specs.declared.fault.Fault.TheVariants as faults
use Rattle.sect_read.specs.declared.fault.WireFault.{WireFault}
use Rattle.sect_read.specs.declared.fault.WireFault.TheVariants as wire

-- the fault of a line whose reading stopped so
abbrev pub line_fault : Fault → WireFault
line_fault faults.Bad = wire.BadLine
line_fault faults.Memory = wire.Memory
