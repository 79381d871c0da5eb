use Rattle.std.proofs.Common.{◌≡◌}
use Rattle.pair_setup_calls.specs.Graph.{Grows}
use Rattle.pair_setup_calls.specs.Names.{IsNumber, names_of}
use Rattle.pair_setup.specs.Names.{IsMarked}
use Rattle.pair_setup.proofs.Added.{on-ok}
use Rattle.pair_setup.proofs.Lacking.{named-marked, unnamed-kept}
use Rattle.pair_setup.proofs.names.add_of_name.Goals as goal

pub returns-in-Some : goal.returns-in-Some
returns-in-Some c =
    on-ok c.add_marked.result (Grows (λ t. (t ≡ c.in-Some.number) × IsMarked c.args.marks.now t) c.args.found.now.items c.add_marked.new.found.items)
    (Grows (λ t. IsNumber (names_of c.args.unit.now) t c.args.name.now × IsMarked c.args.marks.now t) c.args.found.now.items c.add_marked.new.found.items)
    (λ g. named-marked (names_of c.args.unit.now) c.args.marks.now c.args.name.now c.in-Some.number c.in-Some.ensures.found c.in-Some.ensures.only c.args.found.now.items
    c.add_marked.new.found.items g)
    c.add_marked.ensures

pub returns-in-None : goal.returns-in-None
returns-in-None c = unnamed-kept (names_of c.args.unit.now) c.args.marks.now c.args.name.now c.in-None.ensures.only c.args.found.now.items
