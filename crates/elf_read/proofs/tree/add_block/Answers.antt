use Rattle.std.proofs.Common.{◌∙◌, refl, sym, ap, cond, None, Some, nat_cmp}
use Rattle.std.specs.Cmp.Lexicographic.{slice_cmp}
use Rattle.std.specs.Ordering.{is_eq}
use Rattle.std.specs.Option.{option_copied_mut}
use Rattle.std.specs.BTreeMap.{get}
use Rattle.elf_read.specs.NameTree.{Tree}
use Rattle.elf_read.proofs.TreeSteps.{added, no_child, written}
use Rattle.elf_read.proofs.tree.add_block.Goals as goal

pub returns : goal.returns
returns c =
    written c.args.tree.now c.insert-2.new.self None _ _ _ _ _ (sym c.get_mut.ensures.value ∙ ap option_copied_mut c.in_default.is)
    (λ r.
    c.in_ok-insert-2.ensures.updates.0 r
    ∙ ap (λ (m : Tree). cond (is_eq (nat_cmp c.args.rest r)) (Some c.insert.new.self) (get nat_cmp m r)) c.get_mut.follows.holds-at-none)
    (added _ _ _ _ refl
    (λ other.
    c.in_ok-insert.ensures.updates.0 (record { ref_ptr = (0, 0); now = other })
    ∙ ap (λ o. cond (is_eq (slice_cmp nat_cmp c.args.block.now other)) (Some c.args.i) o) (no_child c.new-children.result c.new-children.ensures.empty other)))
