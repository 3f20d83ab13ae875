-- The faults of a disk as those of a journal.
use Rattle.sect_edge.specs.declared.edge.KeepFault.{KeepFault}
use Rattle.sect_edge.specs.declared.edge.KeepFault.TheVariants as keeps
use Rattle.sect_journal.specs.declared.disk.DiskFault.{DiskFault}
use Rattle.sect_journal.specs.declared.disk.DiskFault.TheVariants.{Failed, Memory}
use Rattle.sect_journal.specs.declared.journal.JournalFault.{JournalFault}
use Rattle.sect_journal.specs.declared.journal.JournalFault.TheVariants as opens

-- the same, told by a keeper
abbrev pub keeping_fault : DiskFault → KeepFault
keeping_fault Failed = keeps.Failed
keeping_fault Memory = keeps.Memory

-- the same, told where a journal is opened
abbrev pub opening_fault : DiskFault → JournalFault
opening_fault Failed = opens.Failed
opening_fault Memory = opens.Memory
