-- Where both graphs begin, with the values of a call: what the frame at the entry asks of two such states.
use Rattle.std.proofs.Common.{◌≡◌, ◌∙◌, ℕ, ◌+◌, ◌-◌, ◌<◌, ◌^◌, true, List, ◌++◌, length, slice_get, Some, refl, sym, ap, subst, arith}
use Rattle.std.specs.Prelude.{ℤ}
use Rattle.std.specs.List.{All}
use Rattle.std.proofs.lemmas.Bool.{and_from}
use Rattle.memory_spec.specs.Memory.{Memory, byte_at}
use Rattle.memory_spec.specs.Zones.{Zone}
use Rattle.elf_read_spec.specs.Image.{fixed_byte}
use Rattle.rv_machine_spec.specs.Arithmetic as machine
use Rattle.term_core_spec.specs.declared.Width.TheVariants.{W32}
use Rattle.term_core_spec.specs.Term.{Term}
use Rattle.term_core_spec.specs.Value.{Number, Bytes, Assignment, IsAssignment, IsOfSort, Value}
use Rattle.term_core_spec.specs.declared.Sort.TheVariants as sort
use Rattle.path_cond_spec.specs.Passages.{holds}
use Rattle.graph_core_spec.specs.Simulation.{IsRelated}
use Rattle.graph_core_spec.specs.Run.{State, Running, Returned, Failed}
use Rattle.graph_core_spec.specs.Fixed.{has_byte, holds_byte}
use Rattle.decompile_spec.specs.State.{register, entry_register}
use Rattle.decompile_laws.specs.Together.{run}
use Rattle.c_types_spec.specs.declared.Scalar.{Scalar}
use Rattle.c_run_spec.specs.Calls.{locals_at_entry}
use Rattle.c_graph_laws.specs.Together.{Alike}
use Rattle.c_graph_laws.proofs.ValidGraphs.{all_valid}
use Rattle.proof_tree_spec.specs.Cuts.{both}
use Rattle.sim_rules_spec.specs.Points.{values_at, all_hold, with_memory, binary_memory, bounded, nothing}
use Rattle.sim_rules_spec.specs.Systems.{IsBinaryFine, IsSourceFine, binary_always}
use Rattle.sim_rules_spec.proofs.Truths.{pass_all}
use Rattle.validity_spec.specs.Convention.{argument_words}
use Rattle.validity_spec.specs.Claim.{HaveTypes}
use Rattle.agreement_laws.specs.EntryFrame.{Pair, place_of, convention_of, entry_frame, entry_opening, entry_premises, lines_of, registers, binary_facts, source_facts}
use Rattle.agreement_laws.specs.Statements.{IsPair, binary_entry, source_entry}
use Rattle.agreement_laws.proofs.Assigned.{source_values, source_sorted}
use Rattle.agreement_laws.proofs.Premises.{IsCalled, premises_hold}
use Rattle.agreement_laws.proofs.Fine.{lines_hold, lines_there, always_source}
use Rattle.agreement_laws.proofs.Facts.{facts_hold, source_alike, front_of, Front, same_length, words_length, are_passed, Passed}
use Rattle.agreement_laws.proofs.Pairs.{runs_are, extents, typed_body, plain, never_entry, keeps_fixed}

-- a binary's variables where a function is called with these registers, this memory and these arguments; no memory of its
-- run has a byte from 2 ^ 32 on
pub record IsBegun (p : Pair) (had : ℕ → ℕ) (memory : Memory) (arguments : List ℤ) (a : Assignment) : Type 0 where
  pub ranged : IsAssignment a
  pub entries : (r : ℕ) → a (entry_register r) ≡ Number W32 (had r)
  pub registers_are : All (λ (r : ℕ). a (register r) ≡ a (entry_register r)) registers
  pub memory_is : a binary_memory ≡ Bytes (byte_at memory)
  pub passed : (i : ℕ) (v : ℤ) → slice_get arguments i ≡ Some v → a (register (10 + i)) ≡ Number W32 (machine.word v)
  pub typed : HaveTypes p.body.signature.parameters arguments
  pub called : IsCalled p had
  pub fixed : (at : ℕ) → has_byte (Bytes (byte_at memory)) at (bounded (fixed_byte p.image) at) ≡ true
  pub far : (k at : ℕ) → holds_byte (bounded nothing) binary_memory at (run p.graphs p.numbering p.entry a k) ≡ true

abbrev pub stack_of : Pair → (ℕ → ℕ) → Zone
stack_of p had = record { low = had 2 - p.stack; high = had 2 }

-- the source's variables there
abbrev pub source_of : Pair → (ℕ → ℕ) → Memory → List ℤ → Assignment
source_of p had memory arguments = source_values (argument_words arguments) memory (stack_of p had)

module _ (p : Pair) (is : IsPair p) (had : ℕ → ℕ) (memory : Memory) (arguments : List ℤ) (a : Assignment) (begun : IsBegun p had memory arguments a) where
  abbrev b : Assignment
  b = source_of p had memory arguments

  abbrev zone : Zone
  zone = stack_of p had

  pub ranged_bytes : (q : ℕ) → byte_at memory q < 2 ^ 8
  ranged_bytes q = of_memory (a binary_memory) (begun.ranged binary_memory) begun.memory_is
    where
      of_memory : (v : Value) → IsOfSort sort.Memory v → v ≡ Bytes (byte_at memory) → byte_at memory q < 2 ^ 8
      of_memory v is e = (subst (IsOfSort sort.Memory) e is) q

  source_is_sorted : IsAssignment b
  source_is_sorted = source_sorted (argument_words arguments) memory zone ranged_bytes

  front : Front p.body.locals arguments
  front = subst (λ (types : List Scalar). Front types arguments) (sym (typed_body p is).begun.1) (front_of p.body.signature.parameters (typed_body p is).begun.0 arguments begun.typed)

  passed : Passed a (argument_words arguments) 0 arguments
  passed = are_passed a arguments begun.passed

  long : 0 + length arguments ≡ length (argument_words arguments)
  long = let same : 0 + length arguments ≡ length arguments = omega arith in same ∙ sym (words_length arguments)

  pub like_source : Alike p.body.locals (locals_at_entry p.body.locals arguments) memory zone b
  like_source = source_alike p a had memory begun.entries begun.registers_are begun.memory_is begun.called.stack_room begun.called.stack_below (argument_words arguments) 0
      ranged_bytes arguments (extents p is).locals front passed long

  premises : (s : Assignment) → ((r : ℕ) → s (entry_register r) ≡ Number W32 (had r)) → All (λ (line : Term). holds s line ≡ true) (entry_premises p)
  premises = premises_hold p had (runs_are p is) begun.called

  pub premise : IsRelated (both (entry_opening p zone).known (all_hold (entry_premises p))) (binary_entry p a) (source_entry p b)
  premise at =
      let s : Assignment = values_at at (binary_entry p a) (source_entry p b) in
      and_from ((entry_opening p zone).known at (binary_entry p a) (source_entry p b)) (all_hold (entry_premises p) at (binary_entry p a) (source_entry p b))
      (pass_all (λ (line : Term). holds s line) (with_memory (convention_of p zone) (lines_of (binary_facts p ++ source_facts p)))
      (facts_hold p a had memory begun.entries begun.registers_are begun.memory_is begun.called.stack_room begun.called.stack_below (argument_words arguments) at
      arguments (plain p is) begun.typed passed (ap (λ (n : ℕ). 0 + n) (same_length p.body.signature.parameters arguments begun.typed) ∙ long)))
      (pass_all (λ (line : Term). holds s line) (entry_premises p) (premises s begun.entries))

  always : (k at : ℕ) → binary_always (convention_of p zone) (entry_frame p) at (run p.graphs p.numbering p.entry a k) ≡ true
  always k at = by (run p.graphs p.numbering p.entry a k) refl
    where
      there : (s : State) → run p.graphs p.numbering p.entry a k ≡ s → holds_byte (bounded nothing) binary_memory at s ≡ true
      there s e = subst (λ (t : State). holds_byte (bounded nothing) binary_memory at t ≡ true) e (begun.far k at)

      by : (s : State) → run p.graphs p.numbering p.entry a k ≡ s → binary_always (convention_of p zone) (entry_frame p) at s ≡ true
      by Failed e = refl
      by (Returned values) e =
          and_from (holds_byte (bounded nothing) binary_memory at (Returned values))
          (lines_hold p had a (never_entry p is) begun.entries premises begun.called.stack_room begun.called.stack_below at (Returned values)) (there (Returned values) e)
          (lines_there p had a (never_entry p is) begun.entries premises begun.called.stack_room begun.called.stack_below k (Returned values) e refl at)
      by (Running g node values below) e =
          and_from (holds_byte (bounded nothing) binary_memory at (Running g node values below))
          (lines_hold p had a (never_entry p is) begun.entries premises begun.called.stack_room begun.called.stack_below at (Running g node values below))
          (there (Running g node values below) e)
          (lines_there p had a (never_entry p is) begun.entries premises begun.called.stack_room begun.called.stack_below k (Running g node values below) e refl at)

  pub binary_fine : IsBinaryFine (convention_of p zone) (entry_frame p) (binary_entry p a)
  binary_fine = record { kept = record { valid = is.binary_valid; sorted = (begun.ranged, tt) }; held = always }

  pub source_fine : IsSourceFine (convention_of p zone) (entry_frame p) (source_entry p b)
  source_fine = record {
    kept = record { valid = all_valid p.unit (place_of p) is.placed is.typed is.sizes; sorted = (source_is_sorted, tt) };
    held = always_source p zone b like_source.low_is like_source.high_is (keeps_fixed p is b source_is_sorted begun.fixed);
  }
