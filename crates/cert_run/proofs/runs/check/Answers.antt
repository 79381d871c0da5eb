use Rattle.std.proofs.lemmas.Result.{IfOk-weaker}
use Rattle.c_types.specs.Typed.{typed_of}
use Rattle.pair_setup_calls.specs.Names.{texts_of}
use Rattle.cert_run.proofs.SideFacts.{answers}
use Rattle.cert_run.proofs.runs.check.Goals as goal

pub new-requires : goal.new-requires
new-requires c = record { typed = c.requires.typed; sizes = c.requires.sizes; paired = c.requires.pairs_are }

pub returns-2 : goal.returns-2
returns-2 c =
    let list = texts_of c.args.list.now in
    IfOk-weaker c.outcome_of_sides.result _ _
    (answers c.args.image.now (typed_of c.args.unit.now) list c.args.pairs.now c.requires c.in-Ok-attempt.field-0 (c.in-Ok-attempt.ensures c.requires.read)
    c.files_have_words.ensures c.proofs_are_valid.ensures c.args.certificate.now)
    c.outcome_of_sides.ensures
