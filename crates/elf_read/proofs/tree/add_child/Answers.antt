use Rattle.std.proofs.Common.{◌∙◌, sym}
use Rattle.elf_read.proofs.TreeSteps.{added}
use Rattle.elf_read.proofs.tree.add_child.Goals as goal

pub returns : goal.returns
returns c =
    added _ _ _ _ (sym (c.copied.ensures ∙ c.get.ensures.value) ∙ c.in_default.is)
    (λ other. c.in_ok-insert.ensures.updates.0 (record { ref_ptr = (0, 0); now = other }))
