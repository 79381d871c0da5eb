use Rattle.std.proofs.Common.{◌≡◌, [], ◌∷◌, ◌++◌, false, length, sym, ap, ◌∙◌, subst, arith}
use Rattle.std.specs.List.{IsDistinct}
use Rattle.indexmap.proofs.CallerLemmas.{insert_entry-new}
use Rattle.term_bank.specs.contracts.node.TermNodePartialEq.TheImpl as node_test
use Rattle.term_bank.specs.Nodes.{IsNode, build}
use Rattle.bit_blast_spec.specs.Goal.{Table, is_there}
use Rattle.bit_blast.specs.Terms.{terms_in}
use Rattle.bit_blast.specs.Entered.{entered, nodes_in, IsTable}
use Rattle.bit_blast.proofs.Tables.{node_new, table_more, entered-append, length-entered}
use Rattle.bit_blast.proofs.table.TermTable.enter.Goals as goal

-- the entry comes after the others
grown : (c : goal.Joined-branch-2) → c.insert.new.self.entries ≡ c.self.inside.entries.entries ++ (c.args.node, c.args.bits) ∷ []
grown c =
    let absent = subst (λ (t : Table). is_there (build (terms_in t) c.args.node) t ≡ false) (sym c.self.view_is) c.requires.absent in
    c.in_ok-insert.ensures.entries
    ∙ insert_entry-new node_test.ghosts.eq c.self.inside.entries c.args.node c.args.bits (node_new c.self.inside.entries.entries c.self.invariant c.args.node absent)

pub invariant_of-self-2 : goal.invariant_of-self-2
invariant_of-self-2 c =
    let old = c.self.inside.entries.entries in
    let fits = subst (λ (t : Table). IsNode (length t) c.args.node) (sym c.self.view_is) c.requires.arguments in
    subst IsTable (sym (grown c))
    (table_more c.self.inside.entries.entries c.self.invariant c.args.node c.args.bits
    (subst (λ es. IsDistinct node_test.ghosts.eq (nodes_in es)) (grown c) c.insert.ensures.unique) fits)

pub returns-clause-index : goal.returns-clause-index
returns-clause-index c = omega (arith, length-entered [] c.self.inside.entries.entries, ap length c.self.view_is, c.len-index.ensures.len)

pub returns-clause-entered : goal.returns-clause-entered
returns-clause-entered c =
    ap (entered []) (grown c) ∙ entered-append [] c.self.inside.entries.entries ((c.args.node, c.args.bits) ∷ [])
    ∙ ap (λ (t : Table). t ++ (build (terms_in t) c.args.node, c.args.bits.items) ∷ []) c.self.view_is
