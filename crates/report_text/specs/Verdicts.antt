-- The verdicts of the program as those of the definitions.
use Rattle.report_text_spec.specs.Verdict as spec
use Rattle.report_text.specs.Judgements.{judgements_of}
use Rattle.report_text.specs.Shown.{shown_of}
use Rattle.report_text.specs.declared.verdicts.Verdict.{Verdict}
use Rattle.report_text.specs.declared.verdicts.Verdict.TheVariants.{RefusedWords, TooLarge, RefusedElf, RefusedC, RefusedPair, RefusedCode, RefusedCertificate, NotProof, Checked, Judged, Showed}

abbrev pub verdict_of : Verdict → spec.Verdict
verdict_of RefusedWords = spec.RefusedWords
verdict_of (TooLarge quantity) = spec.TooLarge quantity
verdict_of (RefusedElf fault offset) = spec.RefusedElf fault offset
verdict_of (RefusedC fault offset) = spec.RefusedC fault offset
verdict_of (RefusedPair fault name) = spec.RefusedPair fault name
verdict_of (RefusedCode fault name address) = spec.RefusedCode fault name address
verdict_of (RefusedCertificate offset) = spec.RefusedCertificate offset
verdict_of (NotProof name offset rule) = spec.NotProof name offset rule
verdict_of (Checked judgements) = spec.Checked (judgements_of judgements.items)
verdict_of (Judged judgements) = spec.Judged (judgements_of judgements.items)
verdict_of (Showed shown) = spec.Showed (shown_of shown)
