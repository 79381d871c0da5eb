use Rattle.std.proofs.Common.{List, ℕ, ap}
use Rattle.pair_setup_calls.specs.Graph.{Grows}
use Rattle.c_types.specs.Typed.{typed_of, body_of_name}
use Rattle.pair_setup_calls.specs.Names.{IsNumber, names_of, texts_of}
use Rattle.pair_setup.specs.Names.{IsMarked, IsOf, NamesMarked}
use Rattle.pair_setup.proofs.Added.{on-ok}
use Rattle.pair_setup.proofs.Lacking.{body-names, no-body-names}
use Rattle.pair_setup.proofs.names.add_of_body.Goals as goal

pub returns-in-Some : goal.returns-in-Some
returns-in-Some c =
    on-ok c.add_of_names.result
    (Grows (IsOf (λ (name : List ℕ) (t : ℕ). IsNumber (names_of c.args.unit.now) t name × IsMarked c.args.marks.now t) (texts_of c.as_slice.result.now)) c.args.found.now.items
    c.add_of_names.new.found.items)
    (Grows (NamesMarked (typed_of c.args.unit.now) (names_of c.args.unit.now) c.args.marks.now c.args.number) c.args.found.now.items c.add_of_names.new.found.items)
    (λ g. body-names (typed_of c.args.unit.now) (names_of c.args.unit.now) c.args.number c.args.marks.now (λ name. body_of_name name c.in-Some.body.now)
    (texts_of c.as_slice.result.now) c.in-Some.ensures.named c.in-Some.ensures.found (λ name. ap texts_of c.as_slice.ensures.value)
    c.args.found.now.items c.add_of_names.new.found.items g)
    c.add_of_names.ensures

pub returns-in-None : goal.returns-in-None
returns-in-None c =
    no-body-names (typed_of c.args.unit.now) (names_of c.args.unit.now) c.args.number c.args.marks.now c.in-None.ensures.found c.args.found.now.items
