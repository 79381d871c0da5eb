use Rattle.std.proofs.Common.{List, ℕ, take, get_or, sym, subst, arith}
use Rattle.std.proofs.lemmas.List.{take_more, take_all}
use Rattle.pair_setup_calls.specs.Graph.{Grows}
use Rattle.c_types.specs.Typed.{typed_of}
use Rattle.pair_setup_calls.specs.Names.{names_of}
use Rattle.pair_setup.specs.Names.{IsLacking, LacksBodyAt}
use Rattle.pair_setup.proofs.Added.{those-none, those-more}
use Rattle.pair_setup.proofs.names.add_all_lacking.Goals as goal

pub loop-number-init : goal.loop-number-init
loop-number-init c = those-none (LacksBodyAt (typed_of c.args.unit.now) (names_of c.args.unit.now)) c.args.found.now.items

pub loop-number-preserved : goal.loop-number-preserved
loop-number-preserved c =
    let xs = c.args.numbers.now in
    let i = c.loop-number.number-index in
    subst (λ (l : List ℕ). Grows (IsLacking (typed_of c.args.unit.now) (names_of c.args.unit.now) l) c.args.found.now.items c.add_lacking.new.found.items)
    (sym (take_more xs i 0 c.loop-number-test.true))
    (those-more (LacksBodyAt (typed_of c.args.unit.now) (names_of c.args.unit.now)) (take i xs) (get_or xs i 0) c.args.found.now.items c.loop-number.found.items
    c.add_lacking.new.found.items c.loop-number.invariant c.in-Ok-attempt.ensures)

pub returns : goal.returns
returns c =
    subst (λ (l : List ℕ). Grows (IsLacking (typed_of c.args.unit.now) (names_of c.args.unit.now) l) c.args.found.now.items c.loop-number.found.items)
    (take_all c.loop-number.number-index c.args.numbers.now (omega arith)) c.loop-number.invariant
