use Rattle.std.proofs.Common.{sym, true≢false}
use Rattle.std.specs.Prelude.{◌↔◌, IsTrue}
use Rattle.c_types_layout.specs.Structs.{structs_of}
use Rattle.c_types.specs.Typed.{typed_of}
use Rattle.pair_setup_calls.specs.Names.{names_of}
use Rattle.pair_setup.specs.Globals.{IsUnplaced, IsMisplacedAt, object_type}
use Rattle.pair_setup.proofs.Added.{if-ok}
use Rattle.pair_setup.proofs.Placing.{misplaced-past, misplaced-is}
use Rattle.pair_setup.proofs.globals.is_misplaced.Goals as goal

pub returns-in-Some : goal.returns-in-Some
returns-in-Some c =
    if-ok c.is_unplaced.result (λ found. IsTrue found ↔ IsUnplaced c.args.image.now (structs_of c.args.unit.now.structs.items) c.in-Some.name.now.now (object_type c.in-Some.meaning.now))
    (λ found. IsTrue found ↔ IsMisplacedAt c.args.image.now (typed_of c.args.unit.now) (names_of c.args.unit.now) c.args.number)
    (λ found h. misplaced-is c.args.image.now c.args.unit.now c.requires c.args.number c.in-Some.name.now c.in-Some.meaning.now c.in-Some.ensures.entry found h)
    c.is_unplaced.ensures

pub returns-in-None : goal.returns-in-None
returns-in-None c = (λ no. absurd (true≢false (sym no)), λ m. absurd (misplaced-past c.args.image.now c.args.unit.now c.requires c.args.number c.in-None.ensures.entry m))
