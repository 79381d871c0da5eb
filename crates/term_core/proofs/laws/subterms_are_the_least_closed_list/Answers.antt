use Rattle.std.proofs.Common.{[]}
use Rattle.std.specs.List.{IsDistinct}
use Rattle.term_core_spec.proofs.Subterms.{there, subterms-closed, within, distinct}
use Rattle.term_core.proofs.laws.subterms_are_the_least_closed_list.Goals as goal

pub returns-clause-itself : goal.returns-clause-itself
returns-clause-itself c = λ t. there t []

pub returns-clause-closed : goal.returns-clause-closed
returns-clause-closed c = subterms-closed

pub returns-clause-least : goal.returns-clause-least
returns-clause-least c = λ t terms closed at u here. within terms closed t [] (λ v none. absurd (cc)) at u here

pub returns-clause-distinct : goal.returns-clause-distinct
unfolding IsDistinct
returns-clause-distinct c = λ t. distinct t [] tt
