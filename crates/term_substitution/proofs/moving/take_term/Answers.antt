use Rattle.std.proofs.Common.{ℕ, Option}
use Rattle.std.specs.HashMap.{get}
use Rattle.std.specs.Prelude.{nat_eq}
use Rattle.term_core_spec.specs.declared.Variable.{Variable}
use Rattle.term_core_spec.specs.Same.{same_variable}
use Rattle.term_substitution.proofs.Growing.{through}
use Rattle.term_substitution.proofs.Taking.{below_later, takes_then}
use Rattle.term_substitution.proofs.moving.take_term.Goals as goal

pub terms-preserved-in-Continue-branch-2 : goal.terms-preserved-in-Continue-branch-2
terms-preserved-in-Continue-branch-2 c =
    let ids : Variable → Option ℕ = get same_variable c.args.state.now in
    let ready = c.in_ok-lowest.ensures.ready in
    let grows = through c.args.bank.now c.terms.bank c.take_one.new.bank c.terms.invariant.extends c.take_one.ensures.extends in
    record {
      below = below_later c.args.bank.now c.take_one.new.bank grows ids c.requires.state;
      extends = grows;
      more = takes_then c.args.from.now c.args.bank.now c.terms.bank c.take_one.new.bank ids (get nat_eq c.args.done.now) (get nat_eq c.terms.done) (get nat_eq c.take_one.new.done)
          c.terms.invariant.extends c.requires.state c.terms.invariant.more (c.in_ok-take_one.ensures.more c.args.from.now ready.tree);
      path = c.in_ok-lowest.ensures.path.within;
    }
