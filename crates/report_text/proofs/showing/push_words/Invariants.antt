use Rattle.std.proofs.Common.{◌≡◌, ◌++◌, take}
use Rattle.std.specs.Prelude.{flat_map}
use Rattle.report_text_spec.specs.Report as texts
use Rattle.report_text.proofs.showing.push_words.Given as goal

abbrev pub invariant-loop-address : goal.invariant-loop-address
invariant-loop-address l = l.out.items ≡ l.initial.out.items ++ flat_map texts.word_line (take l.address-index l.words)
