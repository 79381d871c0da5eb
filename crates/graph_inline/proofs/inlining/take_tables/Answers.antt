use Rattle.std.proofs.Common.{◌≡◌, List, None, Some, length, sym, subst}
use Rattle.term_core_spec.specs.Term.{Term}
use Rattle.term_bank.proofs.Substitution.{extends_through}
use Rattle.graph_inline.specs.Taken.{AllTaken}
use Rattle.graph_inline.proofs.Moving.{all_later, callee_taken}
use Rattle.graph_inline.proofs.inlining.take_tables.Goals as goal

pub returns-clause-tables : goal.returns-clause-tables
returns-clause-tables c =
    let g1 = c.take_outputs.new.graph.trees in
    let g2 = c.take_all.new.graph.trees in
    let g3 = c.take_all-2.new.graph.trees in
    let grows = extends_through g1 g2 g3 c.take_all.ensures.grows.extends c.take_all-2.ensures.grows.extends in
    let of_caller = subst (λ (from : List Term). AllTaken None from g2 c.in_ok-caller.caller.items) c.bank.ensures c.in_ok-caller.ensures.taken in
    let renamed = subst (λ (from : List Term). AllTaken (Some c.args.instance) from g3 c.in_ok-renamed.renamed.items) c.bank-2.ensures c.in_ok-renamed.ensures.taken in
    record {
      of_caller = all_later None c.args.caller.now.trees g2 g3 c.take_all-2.ensures.grows.extends c.in_ok-caller.caller.items of_caller;
      of_callee = callee_taken c.args.instance c.args.callee.now.trees g1 g3 c.in_ok-renamed.renamed.items c.in_ok-kept.kept.items grows renamed c.args.callee.now.nodes
          c.take_outputs.ensures.within c.in_ok-kept.ensures.taken;
    }
