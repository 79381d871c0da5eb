use Rattle.std.proofs.Common.{Bool, length, sym, ap, ◌∙◌, subst}
use Rattle.std.specs.Prelude.{◌&&◌}
use Rattle.std.proofs.lemmas.Bool.{eq-eqb}
use Rattle.term_core_spec.specs.Same.{same_term}
use Rattle.term_bank.specs.Nodes.{tree_at}
use Rattle.term_sorts.proofs.Orders.{same_ids}
use Rattle.word_steps_spec.specs.Bitwise.{Of, same_bit}
use Rattle.word_steps_rules.specs.declared.bit.Bit.{Bit}
use Rattle.word_steps_rules.specs.Bits.{bit_in, IsBit}
use Rattle.word_steps_rules.proofs.bit.is_of.Goals as goal

pub returns-then-place-at : goal.returns-then-place-at
returns-then-place-at c =
    let trees = c.args.bank.now in
    same_ids trees c.are_distinct.ensures c.args.word c.in-Of.other c.requires.word (subst (IsBit (length trees)) c.in-Of.is c.requires.bit)
    ∙ ap (λ (p : Bool). p && same_term (tree_at trees c.args.word) (tree_at trees c.in-Of.other)) (sym (eq-eqb c.args.place c.in-Of.at c.if-place-at.true))
    ∙ ap (λ (b : Bit). same_bit (Of (tree_at trees c.args.word) c.args.place) (bit_in trees b)) (sym c.in-Of.is)
