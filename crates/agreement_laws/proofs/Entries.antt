-- The frame at the entry, from two states there, gives agreement.
use Rattle.std.proofs.Common.{◌≡◌, ◌∙◌, ℕ, Bool, false, List, is_some, refl, sym, ap, subst, arith}
use Rattle.std.specs.Prelude.{ℤ}
use Rattle.std.proofs.lemmas.Bool.{false_from_ne_true}
use Rattle.std.proofs.Math.Path.{fun_ext}
use Rattle.elf_read_spec.proofs.Runs.{runs_are_fixed}
use Rattle.rv_machine_spec.specs.Machine.{Machine, read_register}
use Rattle.rv_machine_spec.proofs.Kept.{read_below}
use Rattle.graph_core_spec.specs.TransitionSystem.{after}
use Rattle.graph_core_spec.specs.Simulation.{IsStart}
use Rattle.term_core_spec.specs.declared.Width.TheVariants.{W32}
use Rattle.term_core_spec.specs.Value.{Number, Assignment}
use Rattle.graph_core_spec.specs.Run.{State, has_failed, system_of}
use Rattle.decompile_spec.specs.State.{entry_register}
use Rattle.decompile_spec.specs.Blocks.{Entrance}
use Rattle.decompile_laws.specs.Together.{ReturnTogether}
use Rattle.decompile_laws.proofs.Running.{return_together}
use Rattle.c_run_spec.specs.Calls.{c_run}
use Rattle.c_run_spec.specs.Setting.{Setting}
use Rattle.c_graph_spec.specs.SourceGraph.{body_number, graphs_of}
use Rattle.c_graph_laws.specs.Together as c
use Rattle.c_graph_laws.proofs.Together.{together}
use Rattle.proof_tree_spec.specs.Cuts.{both}
use Rattle.sim_rules_spec.specs.Points.{all_hold}
use Rattle.sim_rules_spec.specs.Systems.{relation, IsBinaryFine, IsSourceFine}
use Rattle.validity_spec.specs.Convention.{dead_stack, Meets, argument_words}
use Rattle.validity_spec.specs.Claim.{AgreesFrom, BreaksNoGuard, run_from, setting_of}
use Rattle.agreement_laws.specs.EntryFrame.{Pair, place_of, convention_of, entry_frame, entry_opening, entry_premises}
use Rattle.agreement_laws.specs.Statements.{IsPair, IsEntry, IsSimulatedAtEntry, binary_entry, source_entry}
use Rattle.agreement_laws.proofs.Pairs.{size, code, extents, never_entry, failed_is, binary_at, source_at}
use Rattle.agreement_laws.proofs.Agreed.{agrees, ReadsBack}
use Rattle.agreement_laws.proofs.Ends.{whole}
use Rattle.agreement_laws.proofs.Entry.{EntryIs, entry_stays}
use Rattle.agreement_laws.proofs.ReadBack.{reads}

module _ (p : Pair) (is : IsPair p) (simulated : IsSimulatedAtEntry p) (m : Machine) (arguments : List ℤ) (a b : Assignment)
    (meets : Meets p.image p.entry p.stack m (argument_words arguments))
    (unbroken : BreaksNoGuard (run_from p.image p.unit p.body.name (dead_stack m p.stack) m arguments)) (e : IsEntry p m arguments a b) where
  home : ReturnTogether p.image p.entry p.numbering p.graphs m a
  home = return_together p.image p.entry (size p is).0 p.numbering p.graphs m a (size p is).1 is.no_fault is.whole e.machine meets.return_aligned meets.return_outside

  c_runs : c.RunTogether p.unit (place_of p) (dead_stack m p.stack) p.body.name p.body arguments m.memory b
  c_runs = together p.unit (place_of p) (dead_stack m p.stack) p.body.name p.body arguments m.memory b (record {
    typed = is.typed;
    sizes = is.sizes;
    placed = is.placed;
    body_is = is.body_is;
    bodies = is.bodies;
    alike = e.source;
  })

  same_setting : setting_of p.image p.unit (dead_stack m p.stack) ≡ c.setting_at p.unit (place_of p) (dead_stack m p.stack)
  same_setting = ap (λ (fixed : ℕ → Bool). record (setting_of p.image p.unit (dead_stack m p.stack)) { is_fixed = fixed })
      (fun_ext (λ at. ap is_some (sym (runs_are_fixed p.image p.numbering.runs (code p is).2.runs_are at))))

  run_is : (n : ℕ) → run_from p.image p.unit p.body.name (dead_stack m p.stack) m arguments n
      ≡ c_run (c.setting_at p.unit (place_of p) (dead_stack m p.stack)) p.body.name arguments m.memory n
  run_is n = ap (λ (s : Setting). c_run s p.body.name arguments m.memory n) same_setting

  source_safe : (k : ℕ) → has_failed (after (system_of (graphs_of p.unit (place_of p)) (body_number p.body.name p.unit.bodies)) k (source_entry p b)) ≡ false
  source_safe k = false_from_ne_true _ (λ bad.
      let broke = c_runs.fails k (failed_is _ bad) in
      unbroken broke.0 broke.1 broke.2 (run_is broke.0 ∙ broke.3))

  start : IsStart (whole (system_of p.graphs (p.numbering.graph_number p.entry)) (system_of (graphs_of p.unit (place_of p)) (body_number p.body.name p.unit.bodies))
      (p.numbering.node_number p.entry Entrance) 0 (both (entry_opening p (dead_stack m p.stack)).known (all_hold (entry_premises p))) (relation (convention_of p (dead_stack m p.stack)) (convention_of p (dead_stack m p.stack)).returns))
      (IsBinaryFine (convention_of p (dead_stack m p.stack)) (entry_frame p)) (IsSourceFine (convention_of p (dead_stack m p.stack)) (entry_frame p)) (binary_entry p a) (source_entry p b)
  start = record {
    binary_at = binary_at p is a;
    source_at = source_at p is b;
    premise = e.premise;
    binary_fine = e.binary_fine;
    source_fine = e.source_fine;
    binary_kept = λ n k le running i d lt. absurd (omega (arith, lt));
    source_kept = λ n k le running i d lt. absurd (omega (arith, lt));
    source_safe = λ n k le running. source_safe k;
  }

  read_back : ReadsBack p m (dead_stack m p.stack) arguments a b (both (entry_opening p (dead_stack m p.stack)).known (all_hold (entry_premises p)))
      (relation (convention_of p (dead_stack m p.stack)) (convention_of p (dead_stack m p.stack)).returns) (p.numbering.node_number p.entry Entrance)
  read_back final there other t v memory ends alike back related =
      reads p m final there other
      (λ r. subst (λ (s : State). EntryIs (entry_register r) refl (Number W32 (read_register m r)) p.graphs (p.numbering.graph_number p.entry) (never_entry p is r) s) ends
      (entry_stays (entry_register r) refl (Number W32 (read_register m r)) p.graphs (p.numbering.graph_number p.entry) (never_entry p is r) t (binary_entry p a) (refl, e.entries r)))
      alike meets.stack_room (read_below m 2 meets.machine) related v memory
      (extents p is).result back

  pub entries_agree : AgreesFrom p.image p.body.signature.result (dead_stack m p.stack) m (run_from p.image p.unit p.body.name (dead_stack m p.stack) m arguments)
  entries_agree = agrees p m (dead_stack m p.stack) arguments a b (both (entry_opening p (dead_stack m p.stack)).known (all_hold (entry_premises p)))
      (relation (convention_of p (dead_stack m p.stack)) (convention_of p (dead_stack m p.stack)).returns) (p.numbering.node_number p.entry Entrance)
      (IsBinaryFine (convention_of p (dead_stack m p.stack)) (entry_frame p)) (IsSourceFine (convention_of p (dead_stack m p.stack)) (entry_frame p)) (simulated (dead_stack m p.stack)) start m.memory
      (run_from p.image p.unit p.body.name (dead_stack m p.stack) m arguments) run_is c_runs refl home read_back
