use Rattle.std.proofs.Common.{[], ◌∷◌, drop}
use Rattle.term_core_spec.specs.Shapes.{load_word}
use Rattle.term_core_spec.specs.Term.{open_term}
use Rattle.term_bank.specs.Nodes.{tree_at}
use Rattle.decompile_spec.specs.State as code
use Rattle.templates.proofs.Growth.{IsSoFar}
use Rattle.templates.proofs.words.add_loaded.Given as goal

abbrev pub invariant-loop-address : goal.invariant-loop-address
invariant-loop-address l =
    IsSoFar l.fn.bank l.bank l.fn.ids.items l.ids.items (λ a. load_word (open_term code.memory) (tree_at l.fn.bank a) ∷ []) l.addresses (drop l.address-index l.addresses)
