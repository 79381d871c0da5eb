pub mod Instr
