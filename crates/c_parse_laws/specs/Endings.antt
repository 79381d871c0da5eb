-- Where specifiers end (ISO C11, 6.7.2). This hangs on their words: `int` and `int const` have one tree, and only
-- after the first more words of a type can occur.
use Rattle.std.specs.Prelude.{◌≡◌, ℕ, ◌&&◌, not, Bool, false, List, [], ◌∷◌, ◌++◌}
use Rattle.c_token_spec.specs.declared.token.Keyword.{Keyword}
use Rattle.c_token_spec.specs.declared.token.Punctuator.TheVariants as punctuator
use Rattle.c_token_spec.specs.Lexical.{Placed, Token, Word}
use Rattle.c_syntax_spec.specs.Expression as tree
use Rattle.c_parse_spec.specs.Leaves.{Leaf, first_offset}
use Rattle.c_parse_spec.specs.Expressions as grammar
use Rattle.c_parse_laws.specs.Classes.{is_mark}
use Rattle.c_parse_laws.specs.Types.{goes_on}

-- what continues specifiers, beside other specifiers: nothing, the `{` after a tag, or keywords of an integer type
-- after these
pub data Ending : Type 0 where
  WordsAround : Ending
  BraceToo : Ending
  WordsToo : (words : List Keyword) → Ending

abbrev pub goes_on_with : Ending → Token → Bool
goes_on_with WordsAround token = false
goes_on_with BraceToo token = is_mark punctuator.LeftBrace token
goes_on_with (WordsToo words) token = goes_on words token

-- the keywords of some leaves
abbrev pub keywords_of : List Leaf → List Keyword
keywords_of [] = []
keywords_of (leaf ∷ text) = with_keyword leaf.token.token (keywords_of text)
  where
    with_keyword : Token → List Keyword → List Keyword
    with_keyword (Word keyword) words = keyword ∷ words
    with_keyword other words = words

abbrev pub base_ending : tree.TypeSpecifier → List Leaf → Ending
base_ending (tree.Integer type) text = WordsToo (keywords_of text)
base_ending (tree.StructTag tag) text = BraceToo
base_ending (tree.EnumTag tag) text = BraceToo
base_ending other text = WordsAround

-- with the other specifiers after a type specifier
abbrev pub ending : tree.TypeSpecifier → (middle after : List Leaf) → Ending
ending base middle [] = base_ending base middle
ending base middle (leaf ∷ after) = WordsAround

-- a type specifier, and where it ends
pub record TypeSpecifierEnd (names : List (List ℕ)) (depth : ℕ) (counting : grammar.Counting) (base : tree.TypeSpecifier) (end : Ending) (text : List Leaf) : Type 0 where
  pub derives : grammar.TypeSpecifier names depth counting base text
  pub is : end ≡ base_ending base text

-- specifiers, and where they end
pub record SpecifiersEnd (names : List (List ℕ)) (position : grammar.Position) (depth : ℕ) (counting : grammar.Counting) (specifiers : tree.Specifiers) (end : Ending) (text : List Leaf) : Type 0 where
  pub one : tree.Storage
  pub two : tree.Storage
  pub base : tree.TypeSpecifier
  pub before : List Leaf
  pub middle : List Leaf
  pub after : List Leaf
  pub words_before : grammar.Words position one before
  pub is_base : grammar.TypeSpecifier names depth counting base middle
  pub words_after : grammar.Words position two after
  pub is : specifiers ≡ tree.Specified (grammar.both one two) base (first_offset (before ++ middle))
  pub cut : text ≡ before ++ (middle ++ after)
  pub is_end : end ≡ ending base middle after

-- specifiers stop at a token that is no other specifier and does not continue the type specifier
abbrev pub stop_specifiers : (is_word : Token → Bool) → tree.Specifiers → Ending → Placed → Bool
stop_specifiers is_word specifiers end next = not (is_word next.token) && not (goes_on_with end next.token)
