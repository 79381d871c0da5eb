use Rattle.std.proofs.Common.{◌≡◌, refl, ◌<◌, ◌∷◌, [], length, drop, suc, Ok, arith, subst, sym, ◌∙◌}
use Rattle.std.specs.Prelude.{unwrap_or}
use Rattle.c_syntax_spec.specs.declared.IntegerType.TheVariants.{Int}
use Rattle.c_syntax_spec.specs.Expression as tree
use Rattle.c_parse_spec.specs.Expressions.{integer_type_of}
use Rattle.exact_read.specs.Grammar.{read_map}
use Rattle.c_parse_laws.specs.Types.{read_words, integer_of}
use Rattle.c_parse_token.specs.Lists.{list_of}
use Rattle.c_parse_token.specs.Words.{with_next}
use Rattle.c_parse_token.proofs.Steps.{Words, words-start, words-more, words-end, fewer}
use Rattle.c_parse_token.proofs.integer.integer_type.Goals as goal

pub loop-words-init : goal.loop-words-init
loop-words-init c =
    let items : c.push.new.self.items ≡ c.args.first ∷ [] = grind arith in
    record {
      going = subst (λ words. Words (read_map (λ more. integer_of (c.args.first ∷ more)) (read_words (c.args.first ∷ [])) (list_of c.args.tokens.now.rest.now)) words (list_of c.args.tokens.now.rest.now)) (sym items) (words-start c.args.first (list_of c.args.tokens.now.rest.now));
      named = grind arith;
      fewer = omega arith;
      counted = refl;
    }

pub loop-words-preserved : goal.loop-words-preserved
loop-words-preserved c =
    let whole = read_map (λ more. integer_of (c.args.first ∷ more)) (read_words (c.args.first ∷ [])) (list_of c.args.tokens.now.rest.now) in
    let tokens = list_of c.loop-words.tokens.rest.now in
    let words : c.take_word.new.words.items ≡ with_next c.loop-words.words.items tokens = rw c.in-Some.is at c.in_ok-longer.ensures.words in
    let rest : list_of c.take_word.new.tokens.rest.now ≡ drop 1 tokens = rw c.in-Some.is at c.in_ok-longer.ensures.rest in
    let short : length c.loop-words.tokens.rest.now ≡ suc (length c.take_word.new.tokens.rest.now) = rw c.in-Some.is at c.in_ok-longer.ensures.shorter in
    let less : length (drop 1 tokens) < length tokens = subst (λ r. length r < length tokens) rest (fewer c.take_word.new.tokens.rest.now c.loop-words.tokens.rest.now (omega (arith, short))) in
    let more = words-more whole c.loop-words.words.items c.in-Some.longer tokens c.loop-words.invariant.going (sym c.in-Some.is ∙ c.in_ok-longer.ensures.named) less in
    record {
      going = subst (λ w. Words whole w (list_of c.take_word.new.tokens.rest.now)) (sym words) (subst (λ r. Words whole (with_next c.loop-words.words.items tokens) r) (sym rest) more.0);
      named = subst (λ w. c.in-Some.longer ≡ unwrap_or (integer_type_of w) Int) (sym words) more.1;
      fewer = omega (arith, short, c.loop-words.invariant.fewer);
      counted = c.take_word.ensures.count ∙ c.loop-words.invariant.counted;
    }

pub returns-clause-found : goal.returns-clause-found
returns-clause-found c =
    let whole = read_map (λ more. integer_of (c.args.first ∷ more)) (read_words (c.args.first ∷ [])) (list_of c.args.tokens.now.rest.now) in
    let same : c.take_word.new.tokens.rest.now ≡ c.loop-words.tokens.rest.now = rw c.in_default.is at c.in_ok-longer.ensures.none in
    subst (λ rest. whole ≡ Ok (tree.Integer c.loop-words.named, list_of rest)) (sym same)
    (words-end whole c.loop-words.words.items c.loop-words.named (list_of c.loop-words.tokens.rest.now) c.loop-words.invariant.going c.loop-words.invariant.named (sym c.in_default.is ∙ c.in_ok-longer.ensures.named))
