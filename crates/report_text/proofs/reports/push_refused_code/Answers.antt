use Rattle.std.proofs.Common.{◌≡◌, ◌++◌, subst, codes}
use Rattle.std.specs.Int.{w32, to_be_bytes}
use Rattle.hex.specs.Hex.{encode_lower}
use Rattle.report_text_spec.specs.Words.{code_word}
use Rattle.report_text.proofs.Texts.{line_added}
use Rattle.report_text.proofs.reports.push_refused_code.Goals as goal

pub returns : goal.returns
returns c =
    line_added c.args.out.now.items (codes "refused code " ++ code_word c.args.kind ++ codes " " ++ c.args.name.now ++ codes " at ")
    (encode_lower (to_be_bytes w32 c.args.address)) c.push_named.new.out.items c.push_address.new.out.items c.push.new.self.items
    (subst (λ word. c.push_named.new.out.items ≡ c.args.out.now.items ++ (codes "refused code " ++ word ++ codes " " ++ c.args.name.now ++ codes " at "))
    c.code_word.ensures c.in_ok-push_named.ensures)
    c.in_ok-push_address.ensures c.in_ok-push.ensures.items
