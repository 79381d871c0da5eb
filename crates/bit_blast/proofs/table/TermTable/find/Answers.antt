use Rattle.std.proofs.Common.{false, length, sym, subst, IfSome, IfNone, ◌≡◌}
use Rattle.term_bank.specs.Nodes.{IsNode, build, Holds}
use Rattle.bit_blast_spec.specs.Goal.{Table, is_there}
use Rattle.bit_blast.specs.Terms.{terms_in}
use Rattle.bit_blast.proofs.Tables.{find_found, find_absent}
use Rattle.bit_blast.proofs.table.TermTable.find.Goals as goal

pub returns-clause-found : goal.returns-clause-found
returns-clause-found c =
    subst (λ (t : Table). IfSome c.get_index_of.result (λ index. Holds (terms_in t) index (build (terms_in t) c.args.node))) c.self.view_is
    (find_found c.self.inside.entries.entries c.self.invariant c.args.node c.get_index_of.result c.get_index_of.ensures.index)

pub returns-clause-absent : goal.returns-clause-absent
returns-clause-absent c =
    subst (λ (t : Table). IfNone c.get_index_of.result (is_there (build (terms_in t) c.args.node) t ≡ false)) c.self.view_is
    (find_absent c.self.inside.entries.entries c.self.invariant c.args.node c.get_index_of.result c.get_index_of.ensures.index c.get_index_of.ensures.unique
    (subst (λ (t : Table). IsNode (length t) c.args.node) (sym c.self.view_is) c.requires))
