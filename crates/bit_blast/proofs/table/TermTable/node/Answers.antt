use Rattle.std.proofs.Common.{◌≡◌, [], Some, length, ap, sym, ◌∙◌, subst, arith}
use Rattle.std.specs.Prelude.{slice_get, option_map}
use Rattle.std.specs.Map.Iter.{deref_pair}
use Rattle.std.proofs.lemmas.Option.{slice_get-map}
use Rattle.term_bank.proofs.Growth.{IsNodeAt}
use Rattle.bit_blast_spec.specs.Goal.{Table}
use Rattle.bit_blast.specs.Terms.{terms_in}
use Rattle.bit_blast.specs.Entered.{Entry, nodes_in}
use Rattle.bit_blast.proofs.Tables.{length-entered, node_holds}
use Rattle.bit_blast.proofs.table.TermTable.node.Goals as goal

pub unwrap-requires : goal.unwrap-requires
unwrap-requires c = c.get_index.ensures.found.1 (omega (arith, length-entered [] c.self.inside.entries.entries, ap length c.self.view_is))

consistent : (c : goal.After-result-1) → IsNodeAt (terms_in c.args.self.now) c.args.index c.unwrap.result.0.now
consistent c =
    let es = c.self.inside.entries.entries in
    let here : Some (c.unwrap.result.0.now, c.unwrap.result.1.now) ≡ slice_get es c.args.index =
    subst (λ r. option_map deref_pair r ≡ slice_get es c.args.index) c.unwrap.ensures c.get_index.ensures.entry in
    let there : slice_get (nodes_in es) c.args.index ≡ Some c.unwrap.result.0.now =
    slice_get-map (λ (e : Entry). e.0) es c.args.index ∙ ap (option_map (λ (e : Entry). e.0)) (sym here) in
    subst (λ (t : Table). IsNodeAt (terms_in t) c.args.index c.unwrap.result.0.now) c.self.view_is
    (node_holds es c.self.invariant c.args.index c.unwrap.result.0.now there)

pub returns-clause-arguments : goal.returns-clause-arguments
returns-clause-arguments c = (consistent c).before

pub returns-clause-tree : goal.returns-clause-tree
returns-clause-tree c = (consistent c).holds
