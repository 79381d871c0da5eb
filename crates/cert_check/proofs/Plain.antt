-- Lines that are neither a log nor a step of one.
use Rattle.std.proofs.Common.{◌≡◌, ℕ, true, List, refl}
use Rattle.cert_text_parse.specs.declared.lines.Literal.{Literal}
use Rattle.cert_text_parse.specs.declared.lines.Line.{Line as CodeLine}
use Rattle.cert_text_parse.specs.declared.lines.Line.TheVariants as code
use Rattle.cert_text_parse.specs.Views.{line_of, line_at, literals_in, hints_in}
use Rattle.cert_text_spec.specs.Certificates.{is_step}
use Rattle.cert_check.specs.Walks.{IsPlain}

-- a line that is no step is as it is without its literals and hints, and takes none
pub record TakesNone (line : CodeLine) : Type 0 where
  pub is : (literals : List Literal) (hints : List ℕ) → line_at line literals hints ≡ line_of line
  pub literals : literals_in line ≡ 0
  pub hints : hints_in line ≡ 0

pub plain : (line : CodeLine) → IsPlain line → TakesNone line
plain (code.Step k h) is = absurd (cc)
plain (code.Log n) is = absurd (cc)
plain code.Header is = record { is = λ literals hints. refl; literals = refl; hints = refl }
plain (code.Function part) is = record { is = λ literals hints. refl; literals = refl; hints = refl }
plain (code.InlineBinary p) is = record { is = λ literals hints. refl; literals = refl; hints = refl }
plain (code.InlineSource p) is = record { is = λ literals hints. refl; literals = refl; hints = refl }
plain (code.Leaf n) is = record { is = λ literals hints. refl; literals = refl; hints = refl }
plain (code.Case t) is = record { is = λ literals hints. refl; literals = refl; hints = refl }
plain (code.RestrictBinary r) is = record { is = λ literals hints. refl; literals = refl; hints = refl }
plain (code.RestrictSource r) is = record { is = λ literals hints. refl; literals = refl; hints = refl }
plain (code.Split s) is = record { is = λ literals hints. refl; literals = refl; hints = refl }
plain (code.Call c) is = record { is = λ literals hints. refl; literals = refl; hints = refl }
plain (code.Relation t) is = record { is = λ literals hints. refl; literals = refl; hints = refl }
plain code.End is = record { is = λ literals hints. refl; literals = refl; hints = refl }

pub plain_no_step : (line : CodeLine) → IsPlain line → is_step (line_of line) ≡ true → ⊥
plain_no_step (code.Step k h) is h2 = absurd (cc)
plain_no_step (code.Log n) is h = absurd (cc)
plain_no_step code.Header is h = absurd (cc)
plain_no_step (code.Function part) is h = absurd (cc)
plain_no_step (code.InlineBinary p) is h = absurd (cc)
plain_no_step (code.InlineSource p) is h = absurd (cc)
plain_no_step (code.Leaf n) is h = absurd (cc)
plain_no_step (code.Case t) is h = absurd (cc)
plain_no_step (code.RestrictBinary r) is h = absurd (cc)
plain_no_step (code.RestrictSource r) is h = absurd (cc)
plain_no_step (code.Split s) is h = absurd (cc)
plain_no_step (code.Call c) is h = absurd (cc)
plain_no_step (code.Relation t) is h = absurd (cc)
plain_no_step code.End is h = absurd (cc)

-- a line that is neither a log nor a step
pub is_plain_line : (line : CodeLine) → ((n : ℕ) → line ≡ code.Log n → ⊥) → ((k h : ℕ) → line ≡ code.Step k h → ⊥) → IsPlain line
is_plain_line (code.Log n) no_log no_step = absurd (no_log n refl)
is_plain_line (code.Step k h) no_log no_step = absurd (no_step k h refl)
is_plain_line code.Header no_log no_step = refl
is_plain_line (code.Function part) no_log no_step = refl
is_plain_line (code.InlineBinary p) no_log no_step = refl
is_plain_line (code.InlineSource p) no_log no_step = refl
is_plain_line (code.Leaf n) no_log no_step = refl
is_plain_line (code.Case t) no_log no_step = refl
is_plain_line (code.RestrictBinary r) no_log no_step = refl
is_plain_line (code.RestrictSource r) no_log no_step = refl
is_plain_line (code.Split s) no_log no_step = refl
is_plain_line (code.Call c) no_log no_step = refl
is_plain_line (code.Relation t) no_log no_step = refl
is_plain_line code.End no_log no_step = refl
