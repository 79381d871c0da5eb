-- Each token that can begin a declaration of locals does.
use Rattle.std.proofs.Common.{◌≡◌, List, ℕ, ◌∷◌, [], Bool, true, false, refl, ◌||◌, None, ◌++◌}
use Rattle.c_token_spec.specs.declared.token.Keyword.{Keyword}
use Rattle.c_token_spec.specs.declared.token.Keyword.TheVariants.{Void, Const, Static}
use Rattle.c_token_spec.specs.declared.token.Punctuator.TheVariants as punctuator
use Rattle.c_token_spec.specs.Lexical.{Placed, Token, Name as name_token, Word, Number as number_token, Character as character_token, Mark}
use Rattle.c_syntax_spec.specs.Expression as tree
use Rattle.c_syntax_spec.specs.Unit as unit
use Rattle.c_parse_spec.specs.declared.Role.TheVariants.{Nothing, DeclaredName}
use Rattle.c_parse_spec.specs.Leaves.{Leaf, plain, keyword_at, expected, named, mark, marks}
use Rattle.c_parse_spec.specs.Expressions as expression
use Rattle.c_parse_spec.specs.Statements as grammar
use Rattle.exact_read.proofs.RoleBegins.{Begins}
use Rattle.c_parse_laws.specs.Classes.{begins_type}
use Rattle.c_parse_laws.specs.Types.{no_storage}
use Rattle.c_parse_laws.proofs.Fresh.{fresh, fresh_is}
use Rattle.c_parse_laws.specs.Around.{is_word, local_word}
use Rattle.c_parse_laws.specs.Declarations.{begins_locals}
use Rattle.c_parse_laws.specs.Texts.{LocalsText}
use Rattle.c_parse_laws.proofs.TypeBegins.{begin_specifiers}

-- `const` can occur around a type specifier anywhere
move_words : (to position : expression.Position) (storage : tree.Storage) (text : List Leaf) → expression.Words position storage text → position ≡ expression.Elsewhere → expression.Words to storage text
move_words to position storage text (expression.none p) e = expression.none to
move_words to position storage text (expression.const p s t offset h) e = expression.const to s t offset (move_words to p s t h e)
move_words to position storage text (expression.typedef s t offset h) e = absurd (cc)
move_words to position storage text (expression.extern s t offset h) e = absurd (cc)
move_words to position storage text (expression.inline s t offset h) e = absurd (cc)
move_words to position storage text (expression.static_external s t offset h) e = absurd (cc)
move_words to position storage text (expression.static_local s t offset h) e = absurd (cc)

pub move_specifiers : (names : List (List ℕ)) (to position : expression.Position) (depth : ℕ) (counting : expression.Counting) (s : tree.Specifiers) (text : List Leaf) → expression.Specifiers names position depth counting s text → position ≡ expression.Elsewhere → expression.Specifiers names to depth counting s text
move_specifiers names to position depth counting s text (expression.specifiers p d c one two base before middle after h k l) e = expression.specifiers to d c one two base before middle after (move_words to p one before h e) k (move_words to p two after l e)

-- a keyword, and `void` after it
pub record SpecifiersAt (names : List (List ℕ)) (position : expression.Position) (depth : ℕ) (t : Placed) : Type 0 where
  pub specifiers : tree.Specifiers
  pub more : List Leaf
  pub derives : expression.Specifiers names position depth expression.Alone specifiers (plain t ∷ more)

pub word_at : (names : List (List ℕ)) (position : expression.Position) (depth offset : ℕ) (w : Keyword) (storage : tree.Storage) → expression.Words position storage (plain (keyword_at w offset) ∷ []) → SpecifiersAt names position depth (keyword_at w offset)
word_at names position depth offset w storage h =
    record { specifiers = _; more = plain (keyword_at Void 0) ∷ []; derives = expression.specifiers position depth expression.Alone storage no_storage tree.Void (plain (keyword_at w offset) ∷ []) (plain (keyword_at Void 0) ∷ []) [] h (expression.void depth expression.Alone 0) (expression.none position) }

local_at : (names : List (List ℕ)) (depth : ℕ) (t : Placed) → begins_locals names t.token ≡ true → SpecifiersAt names expression.InLocalDeclaration depth t
local_at names depth t e = by_word (is_word local_word t.token) refl e
  where
    by_token : (k : Token) (o : ℕ) → is_word local_word k ≡ true → SpecifiersAt names expression.InLocalDeclaration depth (record { token = k; offset = o })
    by_token (Word Const) o e = word_at names expression.InLocalDeclaration depth o Const no_storage (expression.const expression.InLocalDeclaration no_storage [] o (expression.none expression.InLocalDeclaration))
    by_token (Word Static) o e = word_at names expression.InLocalDeclaration depth o Static _ (expression.static_local no_storage [] o (expression.none expression.InLocalDeclaration))
    by_token (Word other) o e = absurd (cc)
    by_token (name_token spelling) o e = absurd (cc)
    by_token (number_token value type) o e = absurd (cc)
    by_token (character_token value) o e = absurd (cc)
    by_token (Mark p) o e = absurd (cc)

    by_word : (b : Bool) → is_word local_word t.token ≡ b → (b || begins_type names t.token) ≡ true → SpecifiersAt names expression.InLocalDeclaration depth t
    by_word true f e = by_token t.token t.offset f
    by_word false f e =
        let s = begin_specifiers names depth expression.Alone t e in
        record { specifiers = s.specifiers; more = s.more; derives = move_specifiers names expression.InLocalDeclaration expression.Elsewhere depth expression.Alone s.specifiers (plain t ∷ s.more) s.derives refl }

abbrev some_local : List (List ℕ) → unit.Local
some_local names = record { declarator = tree.Declared 0 (fresh names) false tree.no_expressions; value = None }

local_is : (names : List (List ℕ)) (depth : ℕ) → grammar.Local names depth (some_local names) Nothing (expected DeclaredName (named (fresh names)) ∷ [])
local_is names depth = grammar.unset depth (tree.Declared 0 (fresh names) false tree.no_expressions) (expected DeclaredName (named (fresh names)) ∷ []) (expression.declarator false depth expression.Alone 0 (fresh names) false tree.no_expressions [] [] (rw (fresh_is names) refl) expression.none (expression.given depth expression.Alone tree.no_expressions [] (expression.no_lengths depth expression.Alone)))

pub begin_locals : (names : List (List ℕ)) (depth : ℕ) (t : Placed) → begins_locals names t.token ≡ true → Begins marks (LocalsText names depth) t
begin_locals names depth t e =
    let s = local_at names depth t e in
    let name = expected DeclaredName (named (fresh names)) ∷ [] in
    record {
      value = record { specifiers = s.specifiers; locals = some_local names ∷ [] };
      first = plain t;
      more = (s.more ++ name) ++ expected Nothing (mark punctuator.Semicolon 0) ∷ [];
      derives = record { role = Nothing; inside = (plain t ∷ s.more) ++ name; offset = 0; derives = grammar.locals depth s.specifiers (some_local names ∷ []) Nothing (plain t ∷ s.more) name s.derives (grammar.last depth (some_local names) Nothing name (local_is names depth)); cut = refl };
      is = refl;
    }
