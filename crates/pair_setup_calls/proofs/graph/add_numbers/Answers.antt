use Rattle.std.proofs.Common.{◌≡◌, ◌+◌, ◌++◌, ◌∷◌, [], List, ℕ, Bor, take, get_or, sym, ap, subst, ◌∙◌}
use Rattle.std.proofs.lemmas.List.{map-append, take_more}
use Rattle.pair_setup_calls.specs.Graph.{Grows}
use Rattle.pair_setup_calls.specs.Names.{HasNumberAmong, names_of, texts_of}
use Rattle.pair_setup_calls.proofs.Bodies.{numbers-more}
use Rattle.pair_setup_calls.proofs.graph.add_numbers.Goals as goal

none : Bor (List ℕ)
none = record { ref_ptr = (0, 0); now = [] }

pub loop-name-preserved : goal.loop-name-preserved
unfolding none
loop-name-preserved c =
    let xs = c.args.names.now in
    let i = c.loop-name.name-index in
    subst (λ (l : List (List ℕ)). Grows (HasNumberAmong (names_of c.args.unit.now) l) c.args.numbers.now.items c.add_number.new.numbers.items)
    (sym (ap texts_of (take_more xs i none c.loop-name-test.true) ∙ map-append (λ (t : Bor (List ℕ)). t.now) (take i xs) (get_or xs i none ∷ [])))
    (numbers-more (names_of c.args.unit.now) (texts_of (take i xs)) (get_or xs i none).now c.args.numbers.now.items c.loop-name.numbers.items c.add_number.new.numbers.items
    c.loop-name.invariant c.in-Ok-attempt.ensures)
