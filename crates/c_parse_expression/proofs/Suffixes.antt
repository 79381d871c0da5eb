-- The loop over suffixes.
use Rattle.std.proofs.Common.{◌≡◌, ℕ, ◌+◌, ◌<◌, true, false, List, length, refl, ◌∙◌, subst, Ok, Err}
use Rattle.c_token_spec.specs.Lexical.{Placed}
use Rattle.c_syntax_spec.specs.Expression as tree
use Rattle.c_parse_spec.specs.declared.Role.{Role}
use Rattle.c_parse_spec.specs.Expressions.{operators}
use Rattle.exact_read.specs.Reading.{Fault, Outcome}
use Rattle.exact_read.specs.Going.{Folding}
use Rattle.exact_read.proofs.Loops.{going-start, folding-step, folding-fault, going-end}
use Rattle.c_parse_laws.specs.Classes.{is_suffix}
use Rattle.c_parse_laws.specs.Parsers.{Parsers, Suffix, ByIndex, ByMember, next_is, starts_suffix, count_suffix, with_suffix, read_suffix, read_suffixes_after}
use Rattle.c_token.specs.declared.Token.{Token as TokenRow}
use Rattle.c_parse_token.specs.Lists.{list_of}
use Rattle.c_parse_token.proofs.Steps.{begins-next, fewer}
use Rattle.c_parse_expression.specs.Steps.{read_suffix_after}

pub Suffixing : (inner : Parsers) → (depth count : ℕ) → (whole : Outcome Placed Role tree.Expression) → tree.Expression → List Placed → Type 0
Suffixing inner depth count whole base rest = Folding starts_suffix (λ c. read_suffix inner depth (count + c)) count_suffix with_suffix operators whole base rest

pub suffixing-start : (inner : Parsers) (depth count : ℕ) (first : tree.Expression) (tokens : List Placed) → Suffixing inner depth count (read_suffixes_after inner depth count first tokens) first tokens
unfolding Suffixing
suffixing-start inner depth count first tokens = going-start

keeps : (base : tree.Expression) (suffix : Suffix) → count_suffix (operators base) suffix ≡ operators (with_suffix base suffix)
keeps base (ByIndex index offset) = refl
keeps base (ByMember access member offset) = refl

pub suffixing-step : (inner : Parsers) (depth before : ℕ) (whole : Outcome Placed Role tree.Expression) (base : tree.Expression) (count : ℕ) (more : tree.Expression) (tokens rest : List TokenRow) → Suffixing inner depth before whole base (list_of tokens) → next_is is_suffix (list_of tokens) ≡ true → count ≡ before + operators base
    → read_suffix_after inner depth count base (list_of tokens) ≡ Ok (more, list_of rest) → length rest < length tokens → Suffixing inner depth before whole more (list_of rest)
unfolding Suffixing
suffixing-step inner depth before whole base count more tokens rest going was same e less =
    folding-step operators base going (begins-next (λ (_ : ℕ). is_suffix) (operators base) (list_of tokens) ∙ was) keeps more (list_of rest) (subst (λ c. read_suffix_after inner depth c base (list_of tokens) ≡ Ok (more, list_of rest)) same e) (fewer rest tokens less)

pub suffixing-fault : (inner : Parsers) (depth before : ℕ) (whole : Outcome Placed Role tree.Expression) (base : tree.Expression) (count : ℕ) (tokens : List TokenRow) → Suffixing inner depth before whole base (list_of tokens) → next_is is_suffix (list_of tokens) ≡ true → count ≡ before + operators base
    → (fault : Fault Role × List Placed) → read_suffix_after inner depth count base (list_of tokens) ≡ Err fault → whole ≡ Err fault
unfolding Suffixing
suffixing-fault inner depth before whole base count tokens going was same fault e =
    folding-fault operators base going (begins-next (λ (_ : ℕ). is_suffix) (operators base) (list_of tokens) ∙ was) fault (subst (λ c. read_suffix_after inner depth c base (list_of tokens) ≡ Err fault) same e)

pub suffixing-end : (inner : Parsers) (depth before : ℕ) (whole : Outcome Placed Role tree.Expression) (base : tree.Expression) (tokens : List Placed) → Suffixing inner depth before whole base tokens → next_is is_suffix tokens ≡ false → whole ≡ Ok (base, tokens)
unfolding Suffixing
suffixing-end inner depth before whole base tokens going ends = going-end going (begins-next (λ (_ : ℕ). is_suffix) (operators base) tokens ∙ ends)
