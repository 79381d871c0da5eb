use Rattle.std.proofs.Common.{◌≡◌}
use Rattle.pair_setup_calls.specs.Graph.{Grows}
use Rattle.c_types.specs.Typed.{typed_of, body_of_name}
use Rattle.pair_setup_calls.specs.Names.{names_of}
use Rattle.pair_setup.specs.Names.{LacksBodyAt}
use Rattle.pair_setup.proofs.Added.{on-ok}
use Rattle.pair_setup.proofs.Lacking.{no-lacking, one-lacking}
use Rattle.pair_setup.proofs.names.add_lacking.Goals as goal

pub returns-in-Some : goal.returns-in-Some
returns-in-Some c =
    no-lacking (typed_of c.args.unit.now) (names_of c.args.unit.now) c.args.number (λ name. body_of_name name c.in-Some.field-0.now) c.in-Some.ensures.named c.in-Some.ensures.found
    c.args.found.now.items

pub returns-in-None : goal.returns-in-None
returns-in-None c =
    on-ok c.add.result (Grows (λ t. t ≡ c.args.number) c.args.found.now.items c.add.new.found.items)
    (Grows (λ t. (t ≡ c.args.number) × LacksBodyAt (typed_of c.args.unit.now) (names_of c.args.unit.now) t) c.args.found.now.items c.add.new.found.items)
    (λ g. one-lacking (typed_of c.args.unit.now) (names_of c.args.unit.now) c.args.number c.in-None.ensures.found c.args.found.now.items c.add.new.found.items g)
    c.add.ensures
