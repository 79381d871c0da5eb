use Rattle.std.proofs.Common.{◌≡◌, ◌∙◌, ◌<◌, ◌%◌, ℕ, List, Some, length, take, ap, sym, unwrap_or}
use Rattle.std.proofs.lemmas.Result.{IfOk-weaker}
use Rattle.elf_read_spec.specs.File.{name_in}
use Rattle.elf_read.specs.NameTree.{AreBlocks, IsGrown, IsNamed, rest_of}
use Rattle.elf_read.proofs.Texts.{positive}
use Rattle.elf_read.proofs.TreeSteps.{rest_known, rest_short, name_added}
use Rattle.elf_read.proofs.tree.add_name.Goals as goal
use Rattle.elf_read.proofs.tree.add_name.Goals.{then-name-ge-BLOCK, else-name-ge-BLOCK}

pub returns : goal.returns
returns c =
    let tree = c.args.tree.now in
    let name = c.args.name.now in
    let rest = c.if-name-ge-BLOCK.rest in
    let some : 0 < length name % 64 = positive (length name % 64) c.if-first-eq0.false in
    IfOk-weaker c.add_block.result (IsGrown tree c.add_block.new.tree rest (take (length name % 64) name) c.args.offset)
    (λ node. (strings : List ℕ) → AreBlocks tree strings c.args.nodes.now 1 → name ≡ name_in strings c.args.offset
    → IsNamed tree c.add_block.new.tree strings name node)
    (λ node grown strings so is.
    let whole : rest_of tree name ≡ Some rest =
    elim c.if-name-ge-BLOCK.branch [
      | then-name-ge-BLOCK w ↦
          rest_known tree strings c.args.nodes.now name c.args.offset rest so is w.if-name-ge-BLOCK.true
          (w.rest-is ∙ w.unwrap_or-rest.ensures ∙ ap (λ o. unwrap_or o 0) (w.copied.ensures ∙ w.get.ensures.value))
      | else-name-ge-BLOCK w ↦ rest_short tree name w.if-name-ge-BLOCK.false ∙ ap Some (sym w.rest-is)
    ] in
    name_added tree c.add_block.new.tree strings name c.args.offset rest node so.own some is whole grown)
    c.add_block.ensures
