use Rattle.std.proofs.Common.{◌∙◌, ◌++◌, ◌∷◌, [], ℕ, List, ap, filter, arith}
use Rattle.std.specs.Prelude.{◌==◌, not}
use Rattle.bit_blast.specs.Loads.{with_memory}
use Rattle.bit_blast.proofs.Loading.{other_pushed, others_end}
use Rattle.bit_blast.proofs.loads.with_memory.Goals as goal

pub others-init : goal.others-init
others-init c =
    ap (λ (all : List ℕ). all ++ filter (λ (o : ℕ). not (o == c.args.memory)) c.args.memories.now)
    (c.in-Ok-attempt.ensures.items ∙ ap (λ (all : List ℕ). all ++ c.args.memory ∷ []) c.new-all.ensures.items)

pub others-preserved : goal.others-preserved
others-preserved c =
    other_pushed c.args.memory c.args.memories.now c.others.all.items c.push_other.new.memories.items (with_memory c.args.memory c.args.memories.now)
    c.others.other-index (omega arith) c.others.invariant c.in-Ok-attempt-2.ensures

pub returns-2 : goal.returns-2
returns-2 c =
    others_end c.args.memory c.args.memories.now c.others.all.items (with_memory c.args.memory c.args.memories.now) c.others.other-index (omega arith) c.others.invariant
