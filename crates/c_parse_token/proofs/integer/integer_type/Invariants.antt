use Rattle.std.proofs.Common.{◌≡◌, ◌≤◌, ◌∷◌, [], length}
use Rattle.std.specs.Prelude.{unwrap_or}
use Rattle.c_syntax_spec.specs.declared.IntegerType.TheVariants.{Int}
use Rattle.exact_read.specs.Grammar.{read_map}
use Rattle.c_parse_spec.specs.Expressions.{integer_type_of}
use Rattle.c_parse_laws.specs.Types.{read_words, integer_of}
use Rattle.c_parse_token.specs.Lists.{list_of}
use Rattle.c_parse_token.proofs.Steps.{Words}
use Rattle.c_parse_token.proofs.integer.integer_type.Given as goal

abbrev pub invariant-loop-words : goal.invariant-loop-words
invariant-loop-words l = record {
  going : Words (read_map (λ words. integer_of (l.fn.first ∷ words)) (read_words (l.fn.first ∷ [])) (list_of l.initial.tokens.rest.now)) l.words.items (list_of l.tokens.rest.now);
  named : l.named ≡ unwrap_or (integer_type_of l.words.items) Int;
  fewer : length l.tokens.rest.now ≤ length l.initial.tokens.rest.now;
  counted : l.tokens.count ≡ l.initial.tokens.count;
}

abbrev pub decreases-loop-words : goal.decreases-loop-words
decreases-loop-words l = length l.tokens.rest.now
