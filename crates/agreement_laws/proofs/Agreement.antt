-- The simulation of the frame at the entry gives agreement.
use Rattle.std.proofs.Common.{◌≡◌, ◌∙◌, ℕ, ◌+◌, List, refl, sym, ap, subst}
use Rattle.std.specs.Prelude.{ℤ}
use Rattle.elf_read_spec.specs.Image.{fixed_byte, function_named}
use Rattle.elf_read_spec.specs.declared.SymbolValues.TheVariants.{One}
use Rattle.rv_machine_spec.specs.Arithmetic.{word}
use Rattle.rv_machine_spec.specs.Machine.{Machine, read_register}
use Rattle.rv_machine_spec.proofs.Kept.{read_below}
use Rattle.code_reach_spec.specs.Code.{IsStack}
use Rattle.term_core_spec.specs.declared.Width.TheVariants.{W32}
use Rattle.term_core_spec.specs.Value.{Number, Assignment}
use Rattle.decompile_laws.specs.Together.{StartAlike, StepTogether, ReturnTogether}
use Rattle.decompile_laws.proofs.Running.{return_together, step_together}
use Rattle.validity_spec.specs.Convention.{Meets, argument_words}
use Rattle.validity_spec.specs.Claim.{AgreesWith, HaveTypes, IsValid}
use Rattle.agreement_laws.specs.EntryFrame.{Pair}
use Rattle.agreement_laws.specs.Statements.{IsPair, IsEntry, IsSimulatedAtEntry}
use Rattle.agreement_laws.proofs.Assigned.{binary_values, binary_sorted, binary_entry_is, binary_register_is, binary_alike}
use Rattle.agreement_laws.proofs.Premises.{IsCalled}
use Rattle.agreement_laws.proofs.Fine.{far_there, fixed_bytes}
use Rattle.agreement_laws.proofs.Facts.{word_is}
use Rattle.agreement_laws.proofs.Begun.{IsBegun, source_of, like_source, premise, binary_fine, source_fine}
use Rattle.agreement_laws.proofs.Entries.{entries_agree}
use Rattle.agreement_laws.proofs.Pairs.{size}
use Rattle.pair_setup_spec.proofs.Stacks.{one_stack}

module _ (p : Pair) (is : IsPair p) (m : Machine) (arguments : List ℤ)
    (typed : HaveTypes p.body.signature.parameters arguments) (meets : Meets p.image p.entry p.stack m (argument_words arguments)) where
  abbrev a : Assignment
  a = binary_values m

  start_alike : StartAlike p.image p.entry m a
  start_alike = record {
    sound = record { is_machine = meets.machine; fixed = meets.fixed };
    at_entry = meets.at_entry;
    alike = binary_alike m meets.machine;
    began = binary_entry_is m meets.machine 1;
  }

  home : ReturnTogether p.image p.entry p.numbering p.graphs m a
  home = return_together p.image p.entry (size p is).0 p.numbering p.graphs m a (size p is).1 is.no_fault is.whole start_alike meets.return_aligned meets.return_outside

  steps : StepTogether p.image p.entry p.numbering p.graphs m a (read_register m 1)
  steps = step_together p.image p.entry (size p is).0 p.numbering p.graphs m a (size p is).1 is.no_fault is.whole start_alike (read_register m 1) meets.return_outside

  called : IsCalled p (read_register m)
  called = record {
    return_aligned = meets.return_aligned;
    stack_aligned = meets.stack_aligned;
    stack_room = meets.stack_room;
    stack_below = read_below m 2 meets.machine;
    gp = meets.gp;
    zone_free = λ address from below. meets.zone_free address (record { from = from; below = below });
  }

  begun : IsBegun p (read_register m) m.memory arguments a
  begun = record {
    ranged = binary_sorted m meets.machine;
    entries = binary_entry_is m meets.machine;
    registers_are = λ i d lt. binary_register_is m meets.machine _ ∙ sym (binary_entry_is m meets.machine _);
    memory_is = refl;
    passed = λ i v e. binary_register_is m meets.machine (10 + i) ∙ ap (Number W32) (meets.arguments i (word v) (word_is arguments i v e));
    typed = typed;
    called = called;
    fixed = fixed_bytes m meets.machine (fixed_byte p.image) meets.fixed;
    far = far_there p m a (read_register m 1) steps home meets.return_aligned;
  }

  pub entry : IsEntry p m arguments a (source_of p (read_register m) m.memory arguments)
  entry = record {
    machine = start_alike;
    entries = binary_entry_is m meets.machine;
    source = like_source p is (read_register m) m.memory arguments a begun;
    premise = premise p is (read_register m) m.memory arguments a begun;
    binary_fine = binary_fine p is (read_register m) m.memory arguments a begun;
    source_fine = source_fine p is (read_register m) m.memory arguments a begun;
  }

pub simulation_agrees : (p : Pair) → IsPair p → IsSimulatedAtEntry p → AgreesWith p.image p.unit p.body.name p.body.signature p.entry p.stack
simulation_agrees p is simulated m arguments typed meets unbroken =
    entries_agree p is simulated m arguments (binary_values m) (source_of p (read_register m) m.memory arguments) meets unbroken
    (entry p is m arguments typed meets)

-- the function is valid, where it is the one of its name and takes this much stack
pub simulated_valid : (p : Pair) → IsPair p → IsSimulatedAtEntry p → function_named p.image p.body.name ≡ One p.entry → IsStack p.image p.entry p.stack
    → IsValid p.image p.unit p.body.name p.stack
simulated_valid p is simulated named stack = record {
  body = p.body;
  body_is = is.body_is;
  entry = p.entry;
  entry_is = named;
  stack_is = stack;
  agrees = λ other other_is.
      subst (λ (n : ℕ). AgreesWith p.image p.unit p.body.name p.body.signature p.entry n) (one_stack p.image p.entry p.stack other stack other_is)
      (simulation_agrees p is simulated);
}
