use Rattle.std.proofs.Common.{sym, subst}
use Rattle.std.specs.HashMap.{get}
use Rattle.std.specs.Prelude.{nat_eq}
use Rattle.term_core_spec.specs.Same.{same_variable}
use Rattle.term_core_spec.specs.Term.{Term}
use Rattle.term_core_spec.specs.Substitution.{substituted}
use Rattle.term_bank.specs.Nodes.{Holds, build}
use Rattle.term_bank.proofs.Substitution.{is_at}
use Rattle.term_substitution.proofs.Taking.{takes_one}
use Rattle.term_substitution.proofs.Descending.{fewer}
use Rattle.term_substitution.proofs.moving.take_one.Goals as goal

pub returns-clause-more : goal.returns-clause-more
returns-clause-more c = λ from holds.
    takes_one (get nat_eq c.args.done.now) (get nat_eq c.insert.new.self) c.args.id c.in_ok-index.index c.in_ok-insert.ensures.updates.0 from c.args.bank.now c.put_node.new.bank
    (get same_variable c.args.state.now) c.put_node.ensures.extends c.requires.done c.in_ok-index.ensures.within
    (λ terms has taken.
    subst (λ (x : Term). Holds c.put_node.new.bank c.in_ok-index.index (substituted terms x)) (sym (is_at from c.args.id (build from c.args.node) holds))
    (c.in_ok-index.ensures.tree from terms has taken))

pub returns-clause-fewer : goal.returns-clause-fewer
returns-clause-fewer c = λ n less new.
    fewer (get nat_eq c.args.done.now) (get nat_eq c.insert.new.self) c.args.id c.in_ok-index.index c.in_ok-insert.ensures.updates.0 n less new
