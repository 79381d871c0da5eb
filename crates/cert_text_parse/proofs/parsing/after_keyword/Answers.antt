use Rattle.std.proofs.Common.{subst, sym}
use Rattle.cert_text_laws.specs.Lines.{read_fields}
use Rattle.cert_text_parse.specs.Keywords.{keyword_of, rule_of, other_of}
use Rattle.cert_text_parse.specs.LineOutcomes.{AddsLine}
use Rattle.cert_text_parse.proofs.Fields.{nothing_added}
use Rattle.cert_text_parse.proofs.parsing.after_keyword.Goals as goal

pub returns-in-Rule : goal.returns-in-Rule
returns-in-Rule c =
    subst (λ k. AddsLine (read_fields (keyword_of k)) c.args.cursor.now c.rule_line.new.cursor c.args.logs.now c.args.logs.now c.rule_line.result) (sym c.in-Rule.is)
    (nothing_added (read_fields (rule_of c.in-Rule.rule)) c.args.cursor.now c.rule_line.new.cursor c.args.logs.now c.rule_line.result c.rule_line.ensures)

pub returns-in-Other : goal.returns-in-Other
returns-in-Other c =
    subst (λ k. AddsLine (read_fields (keyword_of k)) c.args.cursor.now c.other_line.new.cursor c.args.logs.now c.args.logs.now c.other_line.result) (sym c.in-Other.is)
    (nothing_added (read_fields (other_of c.in-Other.other)) c.args.cursor.now c.other_line.new.cursor c.args.logs.now c.other_line.result c.other_line.ensures)
