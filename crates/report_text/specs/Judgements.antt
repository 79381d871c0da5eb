-- The judgements of the program as those of the definitions.
use Rattle.std.specs.Prelude.{List, map}
use Rattle.report_text_spec.specs.Verdict as spec
use Rattle.report_text.specs.declared.verdicts.Judgement.{Judgement}

abbrev pub judgement_of : Judgement → spec.Judgement
judgement_of j = record { name = j.name; valid = j.valid; stack = j.stack }

abbrev pub judgements_of : List Judgement → List spec.Judgement
judgements_of judgements = map judgement_of judgements
