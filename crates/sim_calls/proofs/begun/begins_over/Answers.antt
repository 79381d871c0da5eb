use Rattle.std.proofs.Common.{◌≡◌, ◌<◌, ℕ, List, length, sym, subst}
use Rattle.std.specs.HashMap.{get}
use Rattle.std.specs.Prelude.{unwrap_or}
use Rattle.std.proofs.lemmas.Option.{slice_get_within}
use Rattle.term_core_spec.specs.Same.{same_variable}
use Rattle.term_core_spec.specs.Term.{Term}
use Rattle.term_bank.specs.Nodes.{Holds}
use Rattle.sim_rules_spec.specs.Calls.{binary_begins}
use Rattle.sim_rules_spec.specs.Points.{binary_memory}
use Rattle.sim_rules_spec.specs.Rules.{at_cut}
use Rattle.sim_rules_terms.proofs.Later.{below_later}
use Rattle.sim_calls.proofs.Banks.{bound_later, cut_later}
use Rattle.sim_calls.proofs.Begins.{begun_below, begun_map, memory_holds, unwrap_below}
use Rattle.sim_calls.proofs.begun.begins_over.Goals as goal

pub all_lines-requires : goal.all_lines-requires
all_lines-requires c =
    let b0 : List Term = c.args.bank.now in
    let b1 : List Term = c.new.new.bank in
    let e = c.new.ensures.extends in
    let is = cut_later b0 b1 e c.requires.cut.0 c.args.cut.now c.requires.cut.1 in
    let bound = below_later b0 b1 e (get same_variable c.args.binary.now) c.requires.binary in
    begun_below b1 c.in_ok-zeros.zeros c.in_ok-zeros.ensures.zeros c.memory_there.result
    (subst (λ (i : ℕ). i < length b1) (sym c.memory_there.ensures)
    (unwrap_below (length b1) (get same_variable c.args.binary.now binary_memory) c.args.cut.now.memory (bound binary_memory) (slice_get_within b1 c.args.cut.now.memory _ is.memory)))
    (get same_variable c.args.binary.now) (get same_variable c.args.cut.now.binary) (get same_variable c.args.source.now) (get same_variable c.args.cut.now.source)
    bound is.of_binary.below (below_later b0 b1 e (get same_variable c.args.source.now) c.requires.source) is.of_source.below

pub returns-clause-tree : goal.returns-clause-tree
returns-clause-tree c = λ k calls cut binary source.
    let b0 : List Term = c.args.bank.now in
    let b1 : List Term = c.new.new.bank in
    let e = c.new.ensures.extends in
    let is = cut_later b0 b1 e k c.args.cut.now cut in
    let bound_b = bound_later b0 b1 e calls.binary_inputs (at_cut k).binary (get same_variable c.args.binary.now) binary in
    let bound_s = bound_later b0 b1 e calls.source_inputs (at_cut k).source (get same_variable c.args.source.now) source in
    let memory = subst (λ (i : ℕ). Holds b1 i (binary_begins calls (at_cut k) binary_memory)) (sym c.memory_there.ensures)
    (memory_holds b1 calls.binary_inputs (at_cut k).binary (get same_variable c.args.binary.now) c.args.cut.now.memory bound_b is.memory) in
    let less = subst (λ (i : ℕ). i < length b1) (sym c.memory_there.ensures)
    (unwrap_below (length b1) (get same_variable c.args.binary.now binary_memory) c.args.cut.now.memory (bound_b.below binary_memory) (slice_get_within b1 c.args.cut.now.memory _ is.memory)) in
    let below = begun_below b1 c.in_ok-zeros.zeros c.in_ok-zeros.ensures.zeros c.memory_there.result less (get same_variable c.args.binary.now) (get same_variable c.args.cut.now.binary)
    (get same_variable c.args.source.now) (get same_variable c.args.cut.now.source) bound_b.below is.of_binary.below bound_s.below is.of_source.below in
    c.all_lines.ensures.tree _
    (begun_map b1 k calls c.in_ok-zeros.zeros c.in_ok-zeros.ensures.zeros c.memory_there.result (get same_variable c.args.binary.now) (get same_variable c.args.cut.now.binary)
    (get same_variable c.args.source.now) (get same_variable c.args.cut.now.source) is.of_binary is.of_source bound_b bound_s memory below)
