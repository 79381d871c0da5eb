use Rattle.elf_read.proofs.loaded.Image.global_pointer.Goals as goal

pub returns : goal.returns
returns c = rw (← c.self.view_is) c.self.invariant.global_pointer
