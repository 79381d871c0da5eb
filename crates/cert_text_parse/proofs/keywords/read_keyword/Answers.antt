use Rattle.std.proofs.Common.{subst, sym}
use Rattle.cert_text_laws.specs.Readers.{read_word}
use Rattle.cert_text_parse.specs.Outcomes.{Parses}
use Rattle.cert_text_parse.specs.Keywords.{expected_of, words}
use Rattle.cert_text_parse.proofs.keywords.read_keyword.Goals as goal

pub returns-in-BinaryInlines : goal.returns-in-BinaryInlines
returns-in-BinaryInlines c =
    subst (λ e. Parses (read_word (words (expected_of e))) c.args.cursor.now c.one_of-in-BinaryInlines.new.self c.one_of-in-BinaryInlines.result) (sym c.in-BinaryInlines.is) c.one_of-in-BinaryInlines.ensures

pub returns-in-SourceInlines : goal.returns-in-SourceInlines
returns-in-SourceInlines c =
    subst (λ e. Parses (read_word (words (expected_of e))) c.args.cursor.now c.one_of-in-SourceInlines.new.self c.one_of-in-SourceInlines.result) (sym c.in-SourceInlines.is) c.one_of-in-SourceInlines.ensures
