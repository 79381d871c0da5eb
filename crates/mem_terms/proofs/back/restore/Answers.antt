use Rattle.std.proofs.Common.{◌≡◌, length, map, sym, ap, ◌∙◌, subst}
use Rattle.std.proofs.lemmas.Result.{on_ok_weaker}
use Rattle.term_core.specs.Values.{value_of}
use Rattle.term_core.specs.Assignment.{assignment_of}
use Rattle.mem_terms.specs.Ids.{AreWithin}
use Rattle.mem_terms.proofs.Pairs.{within_filter}
use Rattle.mem_terms.proofs.Rebuilt.{restored}
use Rattle.mem_terms.proofs.back.restore.Goals as goal

pub memory_back-requires : goal.memory_back-requires
memory_back-requires c =
    subst (AreWithin (length c.args.values.now)) (sym (c.deref.ensures.value ∙ c.in_ok-own-in-Memory.ensures)) (within_filter (length c.args.values.now) c.args.memory c.args.loads.now c.requires)

pub returns-in_ok-bytes-in-Memory : goal.returns-in_ok-bytes-in-Memory
returns-in_ok-bytes-in-Memory c =
    on_ok_weaker c.set.result (λ f v.
    f v
    ∙ restored c.args.memory v (assignment_of c.args.assignment.now v) c.in_ok-bytes-in-Memory.bytes (map value_of c.args.values.now) c.args.loads.now c.deref.result.now c.in-Memory.is
    (c.deref.ensures.value ∙ c.in_ok-own-in-Memory.ensures) c.in_ok-bytes-in-Memory.ensures) c.set.ensures.ok
