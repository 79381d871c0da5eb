use Rattle.elf_read.proofs.header.header_fault.Goals as goal

pub returns-in-Version : goal.returns-in-Version
returns-in-Version c = rw c.in-Version.is c.version_fault.ensures

pub returns-in-Machine : goal.returns-in-Machine
returns-in-Machine c = rw c.in-Machine.is c.machine_fault.ensures

pub returns-in-Flags : goal.returns-in-Flags
returns-in-Flags c = rw c.in-Flags.is c.flags_fault.ensures

pub returns-in-HeaderSize : goal.returns-in-HeaderSize
returns-in-HeaderSize c = rw c.in-HeaderSize.is c.header_size_fault.ensures

pub returns-in-Table : goal.returns-in-Table
returns-in-Table c = rw c.in-Table.is c.table_fault.ensures
