use Rattle.std.proofs.Common.{◌∙◌, length, get_or, ap, sym, subst}
use Rattle.pair_setup_calls.specs.Graph.{graph_of}
use Rattle.c_types.specs.Typed.{typed_of}
use Rattle.pair_setup_calls.specs.Names.{names_of, texts_of}
use Rattle.pair_setup_spec.specs.Code.{HasSoundCode}
use Rattle.pair_setup.specs.Depths.{AreFunctions, IsFirstDepthError}
use Rattle.pair_setup.specs.Answers.{AreChecked, IsPairError}
use Rattle.pair_setup.proofs.Added.{if-ok, if-err}
use Rattle.pair_setup.proofs.Entries.{coded-sound}
use Rattle.pair_setup.proofs.Outcomes.{name-error, symbols, code-fault, depth-fault, are-checked}
use Rattle.pair_setup.proofs.pairing.checked.Goals as goal

pub sound_entries-requires : goal.sound_entries-requires
sound_entries-requires c = record {
  symbols = symbols c.args.image.now (typed_of c.args.unit.now) (names_of c.args.unit.now) (texts_of c.args.list.now) c.in-Ok-attempt.ensures.passed.no_faults;
  none = c.requires.none;
}

pub functions-requires : goal.functions-requires
functions-requires c = record {
  typed = c.requires.typed;
  survey = c.requires.survey;
  names = c.in-Ok-attempt.ensures.passed.no_faults;
  long = ap length c.as_slice.ensures.value ∙ c.in-Ok-attempt-firsts.ensures.coded.long;
  code = λ index name there.
      subst (λ l. HasSoundCode c.args.image.now name (get_or l index 0)) (sym c.as_slice.ensures.value) (c.in-Ok-attempt-firsts.ensures.coded.firsts_are index name there);
}

pub returns-3-clause-error : goal.returns-3-clause-error
returns-3-clause-error c =
    if-err c.functions.result (IsFirstDepthError c.args.image.now (typed_of c.args.unit.now) (texts_of c.args.list.now))
    (IsPairError c.args.image.now (typed_of c.args.unit.now) (names_of c.args.unit.now) (texts_of c.args.list.now))
    (λ error h. depth-fault c.args.image.now (typed_of c.args.unit.now) (names_of c.args.unit.now) (texts_of c.args.list.now) c.in-Ok-attempt.ensures.passed.no_faults
    (coded-sound c.args.image.now (texts_of c.args.list.now) (texts_of c.args.list.now) c.in-Ok-attempt-firsts.field-0.items c.sound_entries.new.entries.keys c.in-Ok-attempt-firsts.ensures.coded) error h)
    c.functions.ensures.fault

pub returns-3-clause-checked : goal.returns-3-clause-checked
returns-3-clause-checked c =
    if-ok c.functions.result (λ functions. AreFunctions c.args.image.now (typed_of c.args.unit.now) (texts_of c.args.list.now) functions.items)
    (λ functions. AreChecked c.args.image.now (typed_of c.args.unit.now) (names_of c.args.unit.now) (texts_of c.args.list.now) functions.items c.check_names.new.seen.keys
    c.sound_entries.new.entries.keys)
    (λ functions h. are-checked c.args.image.now (typed_of c.args.unit.now) (names_of c.args.unit.now) (texts_of c.args.list.now) (graph_of c.args.survey.now.graph.items)
    c.args.survey.now.misplaced.items functions.items c.check_names.new.seen.keys c.in-Ok-attempt-firsts.field-0.items c.sound_entries.new.entries.keys
    c.in-Ok-attempt.ensures.passed c.in-Ok-attempt-firsts.ensures.coded h)
    c.functions.ensures.functions

pub returns-clause-error : goal.returns-clause-error
returns-clause-error c =
    name-error c.args.image.now (typed_of c.args.unit.now) (names_of c.args.unit.now) (texts_of c.args.list.now) c.in-Err-attempt.field-0 c.in-Err-attempt.ensures.fault

pub returns-2-clause-error : goal.returns-2-clause-error
returns-2-clause-error c =
    code-fault c.args.image.now (typed_of c.args.unit.now) (names_of c.args.unit.now) (texts_of c.args.list.now) c.in-Ok-attempt.ensures.passed.no_faults
    c.in-Err-attempt-firsts.field-0 c.in-Err-attempt-firsts.ensures.fault
