use Rattle.std.proofs.Common.{◌≡◌, ◌∙◌, ◌+◌, ◌<◌, ℕ, drop, get_or, map, List, ap, subst, sym, arith, filter, length}
use Rattle.std.specs.Prelude.{◌==◌}
use Rattle.std.proofs.lemmas.List.{drop_all}
use Rattle.term_core_spec.specs.Term.{Term}
use Rattle.term_bank.specs.Nodes.{tree_at}
use Rattle.bit_blast_spec.specs.Goal as goals
use Rattle.bit_blast_spec.specs.Goal.{Load, tie_all, tie_memories}
use Rattle.bit_blast.specs.Terms.{terms_in}
use Rattle.bit_blast.specs.declared.loads.LoadIndices.{LoadIndices}
use Rattle.bit_blast.specs.Loads.{load_at, memories_of, AreWithin}
use Rattle.bit_blast.specs.Within.{BuiltWithin}
use Rattle.bit_blast.proofs.Within.{ContinuesWithin, within_start, left_at}
use Rattle.bit_blast.proofs.Loading.{under_at, memories_under, memories_same, loads_same, within_filter, AllUnder}
use Rattle.bit_blast.proofs.Ties.{memories_one, memories_end, from_index}
use Rattle.bit_blast.proofs.loads.tie_memories.Goals as goal

pub tie_all-requires : goal.tie_all-requires
tie_all-requires c =
    let t = c.args.table.now in
    let loads = c.in-Ok-attempt.field-0.items in
    let memory : ℕ = get_or c.deref-memory-items.result.now c.memories.memory-index 0 in
    let own : c.deref-in-memories-2.result.now ≡ filter (λ (load : LoadIndices). load.memory == memory) loads =
    c.deref-in-memories-2.ensures.value ∙ c.in-Ok-attempt-own.ensures ∙ ap (filter (λ (load : LoadIndices). load.memory == memory)) c.deref-in-memories.ensures.value in
    subst (AreWithin t) (sym own) (within_filter t c.is_distinct.ensures (λ (load : LoadIndices). load.memory == memory) loads c.in-Ok-attempt.ensures.within)

pub memories-preserved : goal.memories-preserved
memories-preserved c =
    let t = c.args.table.now in
    let loads = c.in-Ok-attempt.field-0.items in
    let indices = c.deref-memory-items.result.now in
    let memory : ℕ = get_or indices c.memories.memory-index 0 in
    let listed : indices ≡ memories_of loads = c.deref-memory-items.ensures.value ∙ c.in-Ok-attempt-memories.ensures ∙ ap memories_of c.deref.ensures.value in
    let own : c.deref-in-memories-2.result.now ≡ filter (λ (load : LoadIndices). load.memory == memory) loads =
    c.deref-in-memories-2.ensures.value ∙ c.in-Ok-attempt-own.ensures ∙ ap (filter (λ (load : LoadIndices). load.memory == memory)) c.deref-in-memories.ensures.value in
    let under = subst (AllUnder t c.is_distinct.ensures) (sym listed) (memories_under t c.is_distinct.ensures loads c.in-Ok-attempt.ensures.within) in
    let below : memory < length t = under_at t c.is_distinct.ensures indices c.memories.memory-index 0 under (omega arith) in
    memories_one c.args.maximum (tree_at (terms_in t) memory) (map (tree_at (terms_in t)) (drop (c.memories.memory-index + 1) indices)) (map (load_at t) loads)
    (tie_memories (map (tree_at (terms_in t)) indices) (map (load_at t) loads)) c.args.gates.now c.memories.gates c.tie_all.new.gates (omega (arith, c.last.ensures, c.if-last-maximum.false))
    (subst (λ (rest : List Term). ContinuesWithin c.args.maximum (tie_memories (map (tree_at (terms_in t)) indices) (map (load_at t) loads)) c.args.gates.now c.memories.gates (tie_memories rest (map (load_at t) loads)))
    (from_index (tree_at (terms_in t)) indices c.memories.memory-index 0 (omega arith)) c.memories.invariant)
    (subst (λ (own : List Load). BuiltWithin c.args.maximum (tie_all own) c.memories.gates tt c.tie_all.new.gates)
    (ap (map (load_at t)) own ∙ sym (loads_same t c.is_distinct.ensures memory below loads c.in-Ok-attempt.ensures.within)) c.in-Ok-attempt-2.ensures)

pub memories-init : goal.memories-init
memories-init c =
    within_start c.args.maximum (tie_memories (map (tree_at (terms_in c.args.table.now)) c.deref-memory-items.result.now) (map (load_at c.args.table.now) c.in-Ok-attempt.field-0.items))
    c.args.gates.now

pub returns-then-last-maximum : goal.returns-then-last-maximum
returns-then-last-maximum c =
    let t = c.args.table.now in
    let loads = c.in-Ok-attempt.field-0.items in
    let indices = c.deref-memory-items.result.now in
    let listed : indices ≡ memories_of loads = c.deref-memory-items.ensures.value ∙ c.in-Ok-attempt-memories.ensures ∙ ap memories_of c.deref.ensures.value in
    let all : BuiltWithin c.args.maximum (tie_memories (map (tree_at (terms_in t)) indices) (map (load_at t) loads)) c.args.gates.now tt c.memories.gates =
    left_at c.args.maximum (tie_memories (map (tree_at (terms_in t)) indices) (map (load_at t) loads)) c.args.gates.now c.memories.gates tt
    (omega (arith, c.last.ensures, c.if-last-maximum.true)) c.memories.invariant.count in
    subst (λ (list : List Load). BuiltWithin c.args.maximum (tie_memories (goals.memories_of list) list) c.args.gates.now tt c.memories.gates) c.in-Ok-attempt.ensures.loads
    (subst (λ (terms : List Term). BuiltWithin c.args.maximum (tie_memories terms (map (load_at t) loads)) c.args.gates.now tt c.memories.gates)
    (ap (map (tree_at (terms_in t))) listed ∙ sym (memories_same t c.is_distinct.ensures loads c.in-Ok-attempt.ensures.within)) all)

pub returns-3 : goal.returns-3
returns-3 c =
    let t = c.args.table.now in
    let loads = c.in-Ok-attempt.field-0.items in
    let indices = c.deref-memory-items.result.now in
    let listed : indices ≡ memories_of loads = c.deref-memory-items.ensures.value ∙ c.in-Ok-attempt-memories.ensures ∙ ap memories_of c.deref.ensures.value in
    let all : BuiltWithin c.args.maximum (tie_memories (map (tree_at (terms_in t)) indices) (map (load_at t) loads)) c.args.gates.now tt c.memories.gates =
    memories_end c.args.maximum (map (load_at t) loads) (tie_memories (map (tree_at (terms_in t)) indices) (map (load_at t) loads)) c.args.gates.now c.memories.gates
    (subst (λ (rest : List ℕ). ContinuesWithin c.args.maximum (tie_memories (map (tree_at (terms_in t)) indices) (map (load_at t) loads)) c.args.gates.now c.memories.gates (tie_memories (map (tree_at (terms_in t)) rest) (map (load_at t) loads)))
    (drop_all c.memories.memory-index indices (omega arith)) c.memories.invariant) in
    subst (λ (list : List Load). BuiltWithin c.args.maximum (tie_memories (goals.memories_of list) list) c.args.gates.now tt c.memories.gates) c.in-Ok-attempt.ensures.loads
    (subst (λ (terms : List Term). BuiltWithin c.args.maximum (tie_memories terms (map (load_at t) loads)) c.args.gates.now tt c.memories.gates)
    (ap (map (tree_at (terms_in t))) listed ∙ sym (memories_same t c.is_distinct.ensures loads c.in-Ok-attempt.ensures.within)) all)
