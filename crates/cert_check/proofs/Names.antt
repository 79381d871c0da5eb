-- The names of functions.
use Rattle.std.proofs.Common.{◌≡◌, None, refl}
use Rattle.cert_text_parse.specs.declared.lines.Line.{Line}
use Rattle.cert_text_parse.specs.declared.lines.Line.TheVariants as code
use Rattle.cert_check.specs.Outcomes.{part_name}

-- no part begins at another line
pub no_part : (line : Line) → ((part : _) → line ≡ code.Function part → ⊥) → None ≡ part_name line
no_part (code.Function part) other = absurd (other part refl)
no_part code.Header other = refl
no_part (code.InlineBinary p) other = refl
no_part (code.InlineSource p) other = refl
no_part (code.Leaf n) other = refl
no_part (code.Case t) other = refl
no_part (code.RestrictBinary r) other = refl
no_part (code.RestrictSource r) other = refl
no_part (code.Split s) other = refl
no_part (code.Call c) other = refl
no_part (code.Relation t) other = refl
no_part (code.Log n) other = refl
no_part (code.Step k h) other = refl
no_part code.End other = refl
