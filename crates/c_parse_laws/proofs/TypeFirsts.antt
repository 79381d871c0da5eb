-- What specifiers and types begin with.
use Rattle.std.proofs.Common.{◌≡◌, ℕ, true, List, ◌∷◌, Some, refl, [], ap, ◌++◌, sym, subst, false, IsTrue, not, ◌&&◌}
use Rattle.std.specs.Prelude.{map}
use Rattle.std.specs.Option.{is_some}
use denote.Enum.Bare.{sameb, same_true}
use Rattle.c_token_spec.specs.declared.token.Keyword.{Keyword}
use Rattle.c_token_spec.specs.declared.token.Keyword.TheVariants.{Char, Signed, Unsigned, Short, Int, Long, Const}
use Rattle.c_token_spec.specs.declared.token.Punctuator.{Punctuator}
use Rattle.c_token_spec.specs.declared.token.Punctuator.TheVariants as punctuator
use Rattle.c_token_spec.specs.contracts.token.Punctuator.{the_type}
use Rattle.c_token_spec.specs.Lexical.{Token, Name as name_token, Word, Number as number_token, Character as character_token, Mark}
use Rattle.c_syntax_spec.specs.Expression as tree
use Rattle.c_parse_spec.specs.Leaves.{Leaf, keyword_at, plain, named}
use Rattle.c_parse_spec.specs.Expressions as grammar
use Rattle.c_parse_laws.specs.Classes.{begins_type, begins_type_word, is_mark}
use Rattle.c_parse_laws.specs.Types.{HeadInteger, head_word, is_const}
use Rattle.c_parse_laws.specs.Endings.{Ending, SpecifiersEnd, WordsAround, BraceToo, WordsToo, goes_on_with}
use Rattle.c_parse_laws.proofs.IntegerWords.{six, word_six, first_words}
use Rattle.c_parse_laws.proofs.Declarators.{begins_declarator}

-- a text begins with a token that begins a type
pub record TypeFirst (names : List (List ℕ)) (text : List Leaf) : Type 0 where
  pub leaf : Leaf
  pub more : List Leaf
  pub cut : text ≡ leaf ∷ more
  pub yes : begins_type names leaf.token.token ≡ true

pub six_begins : (word : Keyword) → six word ≡ true → (begins_type_word word ≡ true) × (head_word word ≡ Some (HeadInteger word))
six_begins Char e = (refl, refl)
six_begins Signed e = (refl, refl)
six_begins Unsigned e = (refl, refl)
six_begins Short e = (refl, refl)
six_begins Int e = (refl, refl)
six_begins Long e = (refl, refl)
six_begins other e = absurd (cc)

-- the first keyword of an integer type is one of the six
pub first_six : (first : Keyword) (rest : List Keyword) (is : is_some (grammar.integer_type_of (first ∷ rest)) ≡ true) → six first ≡ true
first_six first rest is = word_six [] first (first_words first [] rest is)

words_first : (names : List (List ℕ)) (words : List (Keyword × ℕ)) → is_some (grammar.integer_type_of (map (λ (w : Keyword × ℕ). w.0) words)) ≡ true → TypeFirst names (map (λ (w : Keyword × ℕ). plain (keyword_at w.0 w.1)) words)
unfolding grammar.integer_type_of
words_first names [] e = absurd (cc)
words_first names (w ∷ words) e = record { leaf = plain (keyword_at w.0 w.1); more = map (λ (w : Keyword × ℕ). plain (keyword_at w.0 w.1)) words; cut = refl; yes = (six_begins w.0 (first_six w.0 (map (λ (w : Keyword × ℕ). w.0) words) e)).0 }

pub base_first : (names : List (List ℕ)) (depth : ℕ) (counting : grammar.Counting) (base : tree.TypeSpecifier) (text : List Leaf) → grammar.TypeSpecifier names depth counting base text → TypeFirst names text
base_first names depth counting base text (grammar.void d c offset) = record { leaf = _; more = _; cut = refl; yes = refl }
base_first names depth counting base text (grammar.integer_type d c type words e) = words_first names words (ap is_some e)
base_first names depth counting base text (grammar.typedef_name d c n e) = record { leaf = plain (named n); more = []; cut = refl; yes = e }
base_first names depth counting base text (grammar.struct_tag d c n offset e) = record { leaf = _; more = _; cut = refl; yes = refl }
base_first names depth counting base text (grammar.struct d c tag ms name inside offset open_offset close h k) = record { leaf = _; more = _; cut = refl; yes = refl }
base_first names depth counting base text (grammar.enum_tag d c n offset e) = record { leaf = _; more = _; cut = refl; yes = refl }
base_first names depth counting base text (grammar.enum d c tag cs name inside end offset open_offset close h k) = record { leaf = _; more = _; cut = refl; yes = refl }

part_first : (names : List (List ℕ)) (position : grammar.Position) (storage : tree.Storage) (before more : List Leaf) → grammar.Words position storage before → position ≡ grammar.Elsewhere → TypeFirst names more → TypeFirst names (before ++ more)
part_first names position storage before more (grammar.none p) e f = f
part_first names position storage before more (grammar.const p s t offset h) e f = record { leaf = plain (keyword_at Const offset); more = t ++ more; cut = refl; yes = refl }
part_first names position storage before more (grammar.typedef s t offset h) e f = absurd (cc)
part_first names position storage before more (grammar.extern s t offset h) e f = absurd (cc)
part_first names position storage before more (grammar.inline s t offset h) e f = absurd (cc)
part_first names position storage before more (grammar.static_external s t offset h) e f = absurd (cc)
part_first names position storage before more (grammar.static_local s t offset h) e f = absurd (cc)

longer_first : (names : List (List ℕ)) (left right : List Leaf) → TypeFirst names left → TypeFirst names (left ++ right)
longer_first names left right f = record { leaf = f.leaf; more = f.more ++ right; cut = ap (λ t. t ++ right) f.cut; yes = f.yes }

pub specifiers_first : (names : List (List ℕ)) (depth : ℕ) (counting : grammar.Counting) (s : tree.Specifiers) (end : Ending) (text : List Leaf) → SpecifiersEnd names grammar.Elsewhere depth counting s end text → TypeFirst names text
specifiers_first names depth counting s end text h =
    subst (TypeFirst names) (sym h.cut) (part_first names grammar.Elsewhere h.one h.before (h.middle ++ h.after) h.words_before refl (longer_first names h.middle h.after (base_first names depth counting h.base h.middle h.is_base)))

-- a declarator goes on with no specifiers
star_is : (p : Punctuator) → sameb the_type p punctuator.Star ≡ true → p ≡ punctuator.Star
star_is p e = same_true the_type tt p punctuator.Star e

pub declarator_stops : (end : Ending) (k : Token) → begins_declarator k ≡ true → goes_on_with end k ≡ false
declarator_stops WordsAround k e = refl
declarator_stops BraceToo (Mark p) e = ap (λ q. is_mark punctuator.LeftBrace (Mark q)) (star_is p e)
declarator_stops BraceToo (name_token spelling) e = refl
declarator_stops BraceToo (Word w) e = absurd (cc)
declarator_stops BraceToo (number_token value type) e = absurd (cc)
declarator_stops BraceToo (character_token value) e = absurd (cc)
declarator_stops (WordsToo words) (Mark p) e = refl
declarator_stops (WordsToo words) (name_token spelling) e = refl
declarator_stops (WordsToo words) (Word w) e = absurd (cc)
declarator_stops (WordsToo words) (number_token value type) e = absurd (cc)
declarator_stops (WordsToo words) (character_token value) e = absurd (cc)

pub declarator_const : (k : Token) → begins_declarator k ≡ true → is_const k ≡ false
declarator_const (Mark p) e = refl
declarator_const (name_token spelling) e = refl
declarator_const (Word w) e = absurd (cc)
declarator_const (number_token value type) e = refl
declarator_const (character_token value) e = refl

pub declarator_ends : (end : Ending) (k : Token) → begins_declarator k ≡ true → IsTrue (not (is_const k) && not (goes_on_with end k))
declarator_ends end k e = rw (declarator_const k e, declarator_stops end k e) refl
