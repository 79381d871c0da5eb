use Rattle.std.proofs.Common.{◌≡◌, ◌<◌, ◌≤◌, length, map, get_or, cond, ap, ◌∙◌, arith}
use Rattle.std.specs.Prelude.{◌&&◌}
use Rattle.term_core_spec.specs.declared.Family.TheVariants.{Register}
use Rattle.term_core_spec.specs.declared.Sort.TheVariants.{Truth}
use Rattle.term_core_spec.specs.declared.Variable.{Variable}
use Rattle.term_core_spec.specs.Sort.{is_memory}
use Rattle.term_core_spec.specs.Same.{same_variable}
use Rattle.term_core.specs.Values.{value_of}
use Rattle.term_core.specs.Assignment.{assignment_of}
use Rattle.mem_terms_spec.specs.Flat.{memories_of}
use Rattle.mem_terms_spec.specs.Assignments.{rebuilt}
use Rattle.mem_terms.specs.Ids.{load_at}
use Rattle.mem_terms.specs.Back.{memory_among}
use Rattle.mem_terms.proofs.Rebuilt.{restore_step, rebuilt_whole, falsified}
use Rattle.mem_terms.proofs.back.rebuild.Goals as goal

nothing : Variable
nothing = record { family = Register; index = 0; instance = 0; sort = Truth }

pub loop-memory-preserved : goal.loop-memory-preserved
unfolding nothing
loop-memory-preserved c = λ v.
    restore_step v c.deref-memory-items.result.now c.loop-memory.memory-index nothing (memory_among (map value_of c.in_ok-values.values.items) c.args.flat.now.loads.items v)
    (assignment_of c.args.assignment v) (assignment_of c.loop-memory.rebuilt v) (assignment_of c.restore.new.assignment v) (omega arith)
    (c.in_ok-restore.ensures v
    ∙ ap (λ vs. cond (is_memory v.sort && same_variable v (get_or c.deref-memory-items.result.now c.loop-memory.memory-index nothing))
    (memory_among (map value_of vs) c.deref-in-loop-memory.result.now v) (assignment_of c.loop-memory.rebuilt v)) c.deref-in-loop-memory-2.ensures.value
    ∙ ap (λ ls. cond (is_memory v.sort && same_variable v (get_or c.deref-memory-items.result.now c.loop-memory.memory-index nothing))
    (memory_among (map value_of c.in_ok-values.values.items) ls v) (assignment_of c.loop-memory.rebuilt v)) c.deref-in-loop-memory.ensures.value)
    (c.loop-memory.invariant v)

pub returns-clause-rebuilt : goal.returns-clause-rebuilt
returns-clause-rebuilt c =
    rebuilt_whole (assignment_of c.args.assignment) (assignment_of c.loop-memory.rebuilt) c.args.bank.now (map value_of c.in_ok-values.values.items) c.args.flat.now.loads.items
    c.deref-memory-items.result.now c.loop-memory.memory-index c.in_ok-values.ensures
    (c.deref-memory-items.ensures.value ∙ c.in_ok-memories.ensures c.args.bank.now ∙ ap (λ ls. memories_of (map (load_at c.args.bank.now) ls)) c.deref.ensures.value)
    (omega arith) c.loop-memory.invariant

pub returns-clause-falsifies : goal.returns-clause-falsifies
returns-clause-falsifies c =
    falsified (assignment_of c.args.assignment) (assignment_of c.loop-memory.rebuilt) c.args.bank.now c.args.flat.now
    (rebuilt_whole (assignment_of c.args.assignment) (assignment_of c.loop-memory.rebuilt) c.args.bank.now (map value_of c.in_ok-values.values.items) c.args.flat.now.loads.items
    c.deref-memory-items.result.now c.loop-memory.memory-index c.in_ok-values.ensures
    (c.deref-memory-items.ensures.value ∙ c.in_ok-memories.ensures c.args.bank.now ∙ ap (λ ls. memories_of (map (load_at c.args.bank.now) ls)) c.deref.ensures.value)
    (omega arith) c.loop-memory.invariant) c.is_assignment.ensures
