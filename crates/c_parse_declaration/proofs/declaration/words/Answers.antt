use Rattle.std.proofs.Common.{◌≡◌, ◌<◌, length, drop, Ok, Some, None, arith, subst, sym}
use Rattle.std.specs.Prelude.{unwrap_or}
use Rattle.c_syntax.specs.Names.{storage_of}
use Rattle.c_parse_token.specs.Lists.{list_of}
use Rattle.c_parse_token.proofs.Steps.{fewer}
use Rattle.c_parse_declaration.specs.Words.{read_words}
use Rattle.c_parse_declaration.proofs.Words.{Words, words-start, words-step, words-end}
use Rattle.c_parse_declaration.proofs.declaration.words.Goals as goal

pub items-init : goal.items-init
items-init c = record {
  going = subst (λ storage. Words c.args.of_item (read_words c.args.of_item (list_of c.args.tokens.now.rest.now)) storage None (list_of c.args.tokens.now.rest.now)) (sym c.stored-storage.ensures) (words-start c.args.of_item (list_of c.args.tokens.now.rest.now));
  fewer = omega arith;
}

pub items-preserved : goal.items-preserved
items-preserved c =
    let whole = read_words c.args.of_item (list_of c.args.tokens.now.rest.now) in
    let tokens = list_of c.items.tokens.rest.now in
    let rest = c.take_word.new.tokens.rest.now in
    let first : unwrap_or c.items.first c.in-Some.offset ≡ c.unwrap_or.result = grind arith in
    let less : length (drop 1 tokens) < length tokens = subst (λ left. length left < length tokens) c.in-Some.ensures.rest (fewer rest c.items.tokens.rest.now (omega (arith, c.in-Some.ensures.shorter))) in
    let step = words-step c.args.of_item whole (storage_of c.items.storage) (storage_of c.in-Some.said) c.items.first c.in-Some.offset tokens c.items.invariant.going c.in-Some.ensures.said less in
    record {
      going = subst (λ left. Words c.args.of_item whole (storage_of c.both-storage.result) (Some c.unwrap_or.result) left) (sym c.in-Some.ensures.rest)
          (subst (λ offset. Words c.args.of_item whole (storage_of c.both-storage.result) (Some offset) (drop 1 tokens)) first
          (subst (λ storage. Words c.args.of_item whole storage (Some (unwrap_or c.items.first c.in-Some.offset)) (drop 1 tokens)) (sym c.both-storage.ensures) step));
      fewer = omega (arith, c.in-Some.ensures.shorter, c.items.invariant.fewer);
    }

pub returns-clause-found : goal.returns-clause-found
returns-clause-found c =
    let whole = read_words c.args.of_item (list_of c.args.tokens.now.rest.now) in
    subst (λ rest. whole ≡ Ok ((storage_of c.items.storage, c.items.first), list_of rest)) (sym c.in_default.ensures.none.1) (words-end c.args.of_item whole (storage_of c.items.storage) c.items.first (list_of c.items.tokens.rest.now) c.items.invariant.going c.in_default.ensures.none.0)
