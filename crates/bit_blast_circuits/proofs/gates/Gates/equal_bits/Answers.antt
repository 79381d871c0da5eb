use Rattle.std.proofs.Common.{map, ap, ◌∙◌}
use Rattle.clause_check_spec.specs.Clause.{negation}
use Rattle.bit_blast_spec.specs.Circuits.{and_all, equal_bits}
use Rattle.bit_blast_circuits.proofs.Built.{then_ok, same_ok}
use Rattle.bit_blast_circuits.proofs.gates.Gates.equal_bits.Goals as goal

pub returns : goal.returns
unfolding equal_bits
returns c =
    then_ok c.and_all.new.self c.and_all.result (λ o. o) (λ unlike. and_all (map negation unlike)) c.in_ok-unlike.ensures
    (same_ok c.each_two.new.self c.and_all.new.self c.and_all.result (λ o. o) (and_all c.deref-2.result.now) (and_all (map negation c.in_ok-unlike.unlike.items))
    (ap and_all (c.deref-2.ensures.value ∙ c.in_ok-alike.ensures ∙ ap (map negation) c.deref.ensures.value)) c.and_all.ensures)
