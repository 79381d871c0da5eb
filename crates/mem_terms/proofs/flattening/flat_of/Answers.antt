use Rattle.std.proofs.Common.{◌≡◌, ◌∙◌, length, map, subst}
use Rattle.term_bank.specs.Nodes.{tree_at}
use Rattle.mem_terms_spec.specs.Flat.{flat_loads}
use Rattle.mem_terms.specs.Ids.{load_at, AreWithin}
use Rattle.mem_terms.proofs.Trees.{extends_itself, extends_then}
use Rattle.mem_terms.proofs.Steps.{IsWalked, ended}
use Rattle.mem_terms.proofs.Flats.{loads_within, without_within, is_flat, all_loads_within, all_loads_are}
use Rattle.mem_terms.proofs.flattening.flat_of.Goals as goal

pub flat_id-without-requires : goal.flat_id-without-requires
flat_id-without-requires c =
    (ended c.truth.new.bank c.run.new.bank c.args.goal c.run.new.self.done.items c.run.new.self.loads.items
    (c.in_ok-run.ensures.walked c.truth.new.bank c.args.goal (c.in_ok-walk.ensures c.truth.ensures.distinct))).below

pub consistent-requires : goal.consistent-requires
consistent-requires c =
    let walked : IsWalked c.truth.new.bank c.run.new.bank c.args.goal c.run.new.self.done.items c.run.new.self.loads.items =
    ended c.truth.new.bank c.run.new.bank c.args.goal c.run.new.self.done.items c.run.new.self.loads.items
    (c.in_ok-run.ensures.walked c.truth.new.bank c.args.goal (c.in_ok-walk.ensures c.truth.ensures.distinct)) in
    loads_within c.args.bank.now c.truth.new.bank c.run.new.bank c.args.goal c.run.new.self.done.items c.run.new.self.loads.items c.deref.result.now c.truth.ensures.extends c.requires walked (c.deref.ensures.value ∙ c.into_loads-loads.ensures)

pub implied-requires-clause-y_within : goal.implied-requires-clause-y_within
implied-requires-clause-y_within c =
    let walked : IsWalked c.truth.new.bank c.run.new.bank c.args.goal c.run.new.self.done.items c.run.new.self.loads.items =
    ended c.truth.new.bank c.run.new.bank c.args.goal c.run.new.self.done.items c.run.new.self.loads.items
    (c.in_ok-run.ensures.walked c.truth.new.bank c.args.goal (c.in_ok-walk.ensures c.truth.ensures.distinct)) in
    without_within c.args.bank.now c.truth.new.bank c.run.new.bank c.args.goal c.run.new.self.done.items c.run.new.self.loads.items c.deref.result.now c.truth.ensures.extends c.requires walked (c.deref.ensures.value ∙ c.into_loads-loads.ensures) c.consistent.new.bank c.consistent.new.bank c.flat_id-without.result c.in_ok-all.all 0
    c.flat_id-without.ensures c.consistent.ensures.extends c.in_ok-all.ensures.tree (extends_itself c.consistent.new.bank)

pub returns-clause-flat : goal.returns-clause-flat
returns-clause-flat c =
    let walked : IsWalked c.truth.new.bank c.run.new.bank c.args.goal c.run.new.self.done.items c.run.new.self.loads.items =
    ended c.truth.new.bank c.run.new.bank c.args.goal c.run.new.self.done.items c.run.new.self.loads.items
    (c.in_ok-run.ensures.walked c.truth.new.bank c.args.goal (c.in_ok-walk.ensures c.truth.ensures.distinct)) in
    let same = c.deref.ensures.value ∙ c.into_loads-loads.ensures in
    record {
      is_flat = is_flat c.args.bank.now c.truth.new.bank c.run.new.bank c.args.goal c.run.new.self.done.items c.run.new.self.loads.items c.deref.result.now c.truth.ensures.extends c.requires walked same c.consistent.new.bank c.implied.new.bank c.flat_id-without.result c.in_ok-all.all c.in_ok-term.term
          c.flat_id-without.ensures c.consistent.ensures.extends c.in_ok-all.ensures.tree c.implied.ensures.extends c.in_ok-term.ensures.tree;
      within = subst (λ ls. AreWithin (length c.implied.new.bank) ls) c.deref.ensures.value
          (all_loads_within c.args.bank.now c.truth.new.bank c.run.new.bank c.args.goal c.run.new.self.done.items c.run.new.self.loads.items c.deref.result.now c.truth.ensures.extends c.requires walked same c.consistent.new.bank c.implied.new.bank c.flat_id-without.result c.in_ok-all.all c.in_ok-term.term
          c.flat_id-without.ensures c.consistent.ensures.extends c.in_ok-all.ensures.tree c.implied.ensures.extends);
      loads_are = subst (λ ls. map (load_at c.implied.new.bank) ls ≡ flat_loads (tree_at c.args.bank.now c.args.goal)) c.deref.ensures.value
          (all_loads_are c.args.bank.now c.truth.new.bank c.run.new.bank c.args.goal c.run.new.self.done.items c.run.new.self.loads.items c.deref.result.now c.truth.ensures.extends c.requires walked same c.consistent.new.bank c.implied.new.bank c.flat_id-without.result c.in_ok-all.all c.in_ok-term.term
          c.flat_id-without.ensures c.consistent.ensures.extends c.in_ok-all.ensures.tree c.implied.ensures.extends);
    }

pub run-requires : goal.run-requires
run-requires c = (c.truth.new.bank, c.args.goal, c.in_ok-walk.ensures c.truth.ensures.distinct)

pub returns-in_err-all-clause-extends : goal.returns-in_err-all-clause-extends
returns-in_err-all-clause-extends c =
    extends_then c.args.bank.now c.run.new.bank c.consistent.new.bank
    (extends_then c.args.bank.now c.truth.new.bank c.run.new.bank c.truth.ensures.extends c.in_ok-run.ensures.extends) c.consistent.ensures.extends

pub returns-in_err-term-clause-extends : goal.returns-in_err-term-clause-extends
returns-in_err-term-clause-extends c =
    extends_then c.args.bank.now c.consistent.new.bank c.implied.new.bank
    (extends_then c.args.bank.now c.run.new.bank c.consistent.new.bank
    (extends_then c.args.bank.now c.truth.new.bank c.run.new.bank c.truth.ensures.extends c.in_ok-run.ensures.extends) c.consistent.ensures.extends)
    c.implied.ensures.extends

pub returns-clause-extends : goal.returns-clause-extends
returns-clause-extends c =
    extends_then c.args.bank.now c.consistent.new.bank c.implied.new.bank
    (extends_then c.args.bank.now c.run.new.bank c.consistent.new.bank
    (extends_then c.args.bank.now c.truth.new.bank c.run.new.bank c.truth.ensures.extends c.in_ok-run.ensures.extends) c.consistent.ensures.extends)
    c.implied.ensures.extends
