use Rattle.std.proofs.Common.{◌≡◌, ℕ, zero, suc, ◌<◌, List, [], ◌∷◌, length, drop, slice_index_or, refl, arith}
use Rattle.c_token.specs.declared.Token.{Token}
use Rattle.c_parse_spec.specs.Faults.{offset_of}
use Rattle.c_parse_token.specs.Lists.{list_of}
use Rattle.c_parse.proofs.ParseFault.offset.Goals as goal

offset-there : (tokens : List Token) (token end : ℕ) (other : Token) → token < length tokens → (slice_index_or tokens token other).offset ≡ offset_of end (drop token (list_of tokens))
offset-there [] token end other l = absurd (omega (arith, l))
offset-there (first ∷ tokens) zero end other l = refl
offset-there (first ∷ tokens) (suc token) end other l = offset-there tokens token end other (omega (arith, l))

pub returns-then-self-tokens : goal.returns-then-self-tokens
returns-then-self-tokens c = offset-there c.args.tokens.now c.args.self.now.token c.args.end _ c.if-self-tokens.true
