-- Functions that are proved in order are simulated at their entries, and valid.
use Rattle.std.proofs.Common.{◌≡◌, ◌<◌, ◌≤◌, ◌+◌, ◌^◌, ℕ, List, [], length, Contains, sym, subst, inl, inr, arith, append-nil}
use Rattle.std.proofs.lemmas.List.Elements.{All-contains, Contains-push_cases}
use Rattle.memory_spec.specs.Runs.{Run}
use Rattle.elf_read_spec.specs.Image.{function_named}
use Rattle.elf_read_spec.specs.declared.SymbolValues.TheVariants.{One}
use Rattle.code_reach_spec.specs.Code.{IsStack}
use Rattle.decompile_laws.specs.Together.{setting}
use Rattle.decompile_laws.proofs.ValidGraphs.{code_graph_valid}
use Rattle.validity_spec.specs.Claim.{Agrees, AgreesWith, IsValid}
use Rattle.agreement_laws.specs.EntryFrame.{Pair, entry_frame, entry_premises}
use Rattle.agreement_laws.specs.Statements.{IsPair, IsSimulatedAtEntry}
use Rattle.agreement_laws.proofs.Agreement.{simulation_agrees, simulated_valid}
use Rattle.pair_setup_spec.proofs.Stacks.{one_stack}
use Rattle.validity_laws.specs.Derivation.{Function, pair_for, AtEntry, IsFunction, IsProvedFunction, AreSides, AreProved, none, one_more}
use Rattle.validity_laws.specs.Statements.{AreSimulated}
use Rattle.validity_laws.proofs.InlinedEntry.{at_entry_too}
use Rattle.validity_laws.proofs.Simulated.{simulated}

pub is_pair : (q : Pair) (g : Function) → AreSides q → IsFunction q g → IsPair (pair_for q g)
is_pair q g sides is = record {
  is_function = is.is_there;
  no_fault = is.no_fault;
  whole = is.graphs;
  binary_valid = λ i d lt. let of = sides.of_code i d lt in
      code_graph_valid q.image (setting q.numbering of.0 of.1) _ of.2
      (λ run among. (All-contains (λ (r : Run). (0 < length r.bytes) × (r.start + length r.bytes ≤ 2 ^ 32)) q.numbering.runs run sides.placed.run among).1) of.3;
  typed = sides.typed;
  sizes = sides.sizes;
  placed = sides.placed;
  body_is = is.body_is;
  bodies = is.bodies;
}

pub sides_for : (q : Pair) (g : Function) → AreSides q → AreSides (pair_for q g)
sides_for q g sides = record { of_code = sides.of_code; typed = sides.typed; sizes = sides.sizes; placed = sides.placed }

entry_simulated : (q : Pair) (earlier : List Function) (g : Function) → AreSides q → AreSimulated q earlier → IsProvedFunction q earlier g → IsSimulatedAtEntry (pair_for q g)
entry_simulated q earlier g sides right proved zone =
    let is = is_pair q g sides proved.function in
    at_entry_too (pair_for q g) zone is proved.base proved.inlined
    (simulated (pair_for q g) is (sides_for q g sides) proved.small proved.base proved.inlined earlier right zone AtEntry (entry_frame (pair_for q g)).start [] [] proved.proved []
    (sym (append-nil (entry_premises (pair_for q g)))))

all_simulated : (q : Pair) (functions : List Function) → AreSides q → AreProved q functions → AreSimulated q functions
all_simulated q _ sides none g among = absurd (let less = among.1 in omega arith)
all_simulated q _ sides (one_more earlier last before proved) g among =
    let right = all_simulated q earlier sides before in
    elim (Contains-push_cases earlier last g among) [
      | inl sooner ↦ right g sooner
      | inr is_last ↦
          subst (λ (h : Function). IsPair (pair_for q h) × IsSimulatedAtEntry (pair_for q h)) is_last (is_pair q last sides proved.function, entry_simulated q earlier last sides right proved)
    ]

pub functions_agree : (q : Pair) (functions : List Function) → AreSides q → AreProved q functions → (g : Function) → Contains functions g
    → IsStack q.image g.entry g.stack → Agrees q.image q.unit g.body.name g.body.signature g.entry
functions_agree q functions sides proved g among stack other is =
    let right = all_simulated q functions sides proved g among in
    subst (λ (n : ℕ). AgreesWith q.image q.unit g.body.name g.body.signature g.entry n) (one_stack q.image g.entry g.stack other stack is)
    (simulation_agrees (pair_for q g) right.0 right.1)

pub functions_valid : (q : Pair) (functions : List Function) → AreSides q → AreProved q functions → (g : Function) → Contains functions g
    → function_named q.image g.body.name ≡ One g.entry → IsStack q.image g.entry g.stack → IsValid q.image q.unit g.body.name g.stack
functions_valid q functions sides proved g among named stack =
    let right = all_simulated q functions sides proved g among in
    simulated_valid (pair_for q g) right.0 right.1 named stack
