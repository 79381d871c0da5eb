use Rattle.std.proofs.Common.{sym, ◌∙◌, ap}
use Rattle.std.specs.Prelude.{◌==◌}
use Rattle.c_token.proofs.Digits.{number_to-is}
use Rattle.c_token.proofs.number.number_to.Goals as goal

pub returns : goal.returns
returns c =
    number_to-is c.args.base c.args.text.now c.split_at.result.0.now c.split_at.result.1.now c.count_digits.result c.in_ok-value.value c.in_ok-suffix.suffix c.in_ok-number_type.number_type
    c.count_digits.ensures.count (ap (λ n. n == 0) (sym c.split_at.ensures.front_len) ∙ sym c.is_empty.ensures ∙ c.if-is_empty.false) c.split_at.ensures.front c.split_at.ensures.back c.in_ok-suffix.ensures c.in_ok-value.ensures.1 c.in_ok-number_type.ensures
