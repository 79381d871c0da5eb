use Rattle.std.proofs.Common.{Bool, sym, ap, ◌∙◌}
use Rattle.std.specs.Prelude.{◌&&◌, nat_eq}
use Rattle.std.proofs.lemmas.Bool.{eq-eqb, ne_eqb}
use Rattle.word_steps_rules.proofs.Arguments.{turned_is}
use Rattle.word_steps_rules.proofs.commuting.are_turned.Goals as goal

pub returns-then-first-second : goal.returns-then-first-second
returns-then-first-second c =
    ap (λ (p : Bool). p && nat_eq c.args.first.right c.args.second.left) (sym (eq-eqb c.args.first.left c.args.second.right c.if-first-second.true))
    ∙ turned_is c.args.bank.now c.are_distinct.ensures c.args.first.left c.args.first.right c.args.second.left c.args.second.right
    c.requires.first.0 c.requires.first.1 c.requires.second.0 c.requires.second.1

pub returns-else-first-second : goal.returns-else-first-second
returns-else-first-second c =
    let other = ne_eqb c.args.first.left c.args.second.right c.if-first-second.false in
    other ∙ ap (λ (p : Bool). p && nat_eq c.args.first.right c.args.second.left) (sym other)
    ∙ turned_is c.args.bank.now c.are_distinct.ensures c.args.first.left c.args.first.right c.args.second.left c.args.second.right
    c.requires.first.0 c.requires.first.1 c.requires.second.0 c.requires.second.1
