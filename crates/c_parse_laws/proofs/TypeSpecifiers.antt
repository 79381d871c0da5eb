-- Bases of specifiers keep roles, with where they end.
use Rattle.std.proofs.Common.{Bool, not, ℕ, List, Option, Some, None, ◌≡◌, true, ◌∷◌, false, refl, suc, ◌++◌, ap, ◌∙◌, [], subst, cond, sym, append_assoc, append-nil, Ok, Err, ◌≤◌}
use Rattle.std.specs.Prelude.{option_map, map, unwrap_or}
use Rattle.std.specs.Option.{is_some}
use Rattle.c_token_spec.specs.declared.token.Keyword.{Keyword}
use Rattle.c_token_spec.specs.declared.token.Keyword.TheVariants.{Void, Struct, Enum, Char, Signed, Unsigned, Short, Int, Long}
use Rattle.c_token_spec.specs.declared.token.Punctuator.TheVariants as punctuator
use Rattle.c_token_spec.specs.Lexical.{Placed, Token, Name as name_token, Word, Number as number_token, Character as character_token, Mark}
use Rattle.c_syntax_spec.specs.declared.IntegerType.{IntegerType}
use Rattle.c_syntax_spec.specs.declared.IntegerType.TheVariants as integer
use Rattle.c_syntax_spec.specs.Expression as tree
use Rattle.c_parse_spec.specs.declared.Role.{Role}
use Rattle.c_parse_spec.specs.declared.Role.TheVariants.{Nothing}
use Rattle.c_parse_spec.specs.Leaves.{Leaf, plain, marks, opens, mark, expected, named, keyword_at, roles}
use Rattle.c_parse_spec.specs.Expressions as grammar
use Rattle.c_parse_spec.specs.Limits.{nesting_limit}
use Rattle.exact_read.specs.Reading.{Outcome, Parser, plains, Stops}
use Rattle.exact_read.specs.Grammar.{One, Map, Or, Nothing as Empty, Then, second, nothing, first, bind, read_map, read_nothing, anything}
use Rattle.exact_read.proofs.Parts.{both, stops_anything}
use Rattle.c_parse_laws.specs.Classes.{is_mark, mark_offset}
use Rattle.c_parse_laws.specs.Exactness.{Closed}
use Rattle.c_parse_laws.specs.Parsers.{token, following, choose, next_is, Parsers}
use Rattle.c_parse_laws.specs.Types.{plain_name_at, is_plain_name, Head, HeadVoid, HeadInteger, HeadName, HeadStruct, HeadEnum, integer_of, head_at, head_word, head_of, read_words, read_members, read_constants, read_type_specifier_rest, read_type_specifier}
use Rattle.c_parse_laws.proofs.Marks.{Following, one-mark, mark-one, roled-opened, roled-choose, roled-choice, after_begins, after_silent, map_begins, map_silent, mark-self, mark-passes, mark-some}
use Rattle.c_parse_laws.specs.Endings.{goes_on_with, WordsAround, BraceToo, WordsToo, keywords_of, TypeSpecifierEnd, base_ending, Ending}
use Rattle.c_parse_laws.specs.Rich.{Ended, rich_type_specifier_rest, rich_type_specifier, rich_struct, rich_enum}
use Rattle.c_parse_laws.proofs.IntegerWords.{six, first_words}
use Rattle.c_parse_laws.proofs.Fresh.{fresh, fresh_is}
use Rattle.c_parse_laws.proofs.Words.{WordsAre, none, some}
use Rattle.c_parse_laws.proofs.Declarators.{plain-self, plain-passes}
use Rattle.c_parse_laws.proofs.TypeFirsts.{six_begins, first_six}
use Rattle.c_parse_laws.proofs.Members.{BracesText, Inside, roled-members}
use Rattle.c_parse_laws.proofs.Constants.{ConstantsText, plain_leaf, Enumeration, leaf_plain, roled-constants}
use Rattle.exact_read.proofs.RoleBasics.{roled-stop, roled-enter}
use Rattle.exact_read.proofs.RoleBegins.{Begins, Silent}
use Rattle.exact_read.proofs.RoleThen.{roled-then}
use Rattle.c_parse_laws.specs.Firm.{Firm}
use Rattle.c_parse_laws.proofs.Firm.{firm-map, firm-nothing, firm-one}
use Rattle.c_parse_laws.specs.Declarators.{Whole}
use Rattle.c_parse_laws.proofs.Plain.{roled-words}
use Rattle.c_parse_laws.proofs.TypeBegins.{plain_found}

abbrev pub stop_ended : Ended → Placed → Bool
stop_ended pair t = not (goes_on_with pair.1 t.token)

-- a tag and braces, a tag alone, or braces alone
abbrev TaggedText : {Body : Type 0} → (names : List (List ℕ)) → (S : Body → List Leaf → Type 0) → (full : Option tree.Name → Body → Ended) → (short : tree.Name → Ended) → Ended → List Leaf → Type 0
TaggedText names S full short =
    Or (Following (One plain (plain_name_at names)) (λ tag. Or (Map (full (Some tag)) S) (Empty (short tag)))) (Map (full None) S)

-- what is asked of braces
record Braced {Body : Type 0} (S : Body → List Leaf → Type 0) (full : Option tree.Name → Body → Ended) (short : tree.Name → Ended) : Type 0 where
  begins : (x : Body) (text : List Leaf) → S x text → (u : Leaf) × (more : List Leaf) × (text ≡ u ∷ more) × (is_mark punctuator.LeftBrace u.token.token ≡ true)
  full_ends : (tag : Option tree.Name) (x : Body) → (full tag x).1 ≡ WordsAround
  short_ends : (tag : tree.Name) → (short tag).1 ≡ BraceToo
  starts : (t : Placed) → is_mark punctuator.LeftBrace t.token ≡ true → Begins marks S t
  silent : Silent marks roles S

brace_no_name : (names : List (List ℕ)) (k : Token) → is_mark punctuator.LeftBrace k ≡ true → is_plain_name names k ≡ false
brace_no_name names (Mark p) e = refl
brace_no_name names (name_token spelling) e = absurd (cc)
brace_no_name names (Word w) e = absurd (cc)
brace_no_name names (number_token value type) e = absurd (cc)
brace_no_name names (character_token value) e = absurd (cc)

-- `struct` and `enum`
abbrev full_struct : Option tree.Name → tree.Members → Ended
full_struct tag body = (tree.Struct tag body, WordsAround)

abbrev short_struct : tree.Name → Ended
short_struct tag = (tree.StructTag tag, BraceToo)

abbrev full_enum : Option tree.Name → tree.Constants → Ended
full_enum tag body = (tree.Enum tag body, WordsAround)

abbrev short_enum : tree.Name → Ended
short_enum tag = (tree.EnumTag tag, BraceToo)

abbrev StructText : (names : List (List ℕ)) → (depth : ℕ) → (counting : grammar.Counting) → Ended → List Leaf → Type 0
StructText names depth counting = TaggedText names (BracesText names depth counting) full_struct short_struct

abbrev EnumText : (names : List (List ℕ)) → (depth : ℕ) → (counting : grammar.Counting) → Ended → List Leaf → Type 0
EnumText names depth counting = TaggedText names (ConstantsText names depth counting) full_enum short_enum

brace_first : {X : Type 0} (depth : ℕ) (S2 : ℕ → X → List Leaf → Type 0) (x : X) (text : List Leaf) (b : Following (One (opens (suc depth)) (mark_offset punctuator.LeftBrace)) S2 x text) → text ≡ opens (suc depth) (mark punctuator.LeftBrace b.first) ∷ b.right
brace_first depth S2 x text b = b.cut ∙ ap (λ l. l ++ b.right) (one-mark punctuator.LeftBrace (opens (suc depth)) b.first b.left b.is_first)

-- what follows the first token of a type specifier
abbrev RestText : (names : List (List ℕ)) → (depth : ℕ) → (counting : grammar.Counting) → Head → Ended → List Leaf → Type 0
RestText names depth counting HeadVoid = Empty (tree.Void, WordsAround)
RestText names depth counting (HeadInteger keyword) = Map (λ words. (integer_of (keyword ∷ words), WordsToo (keyword ∷ words))) (WordsAre (keyword ∷ []))
RestText names depth counting (HeadName name) = Empty (tree.TypedefName name, WordsAround)
RestText names depth counting HeadStruct = StructText names depth counting
RestText names depth counting HeadEnum = EnumText names depth counting

abbrev pub TypeSpecifierText : (names : List (List ℕ)) → (depth : ℕ) → (counting : grammar.Counting) → (Head × ℕ) × Ended → List Leaf → Type 0
TypeSpecifierText names depth counting = Then (One plain (head_at names)) (λ head. RestText names depth counting head.0)

rest_some : (names : List (List ℕ)) (depth : ℕ) (counting : grammar.Counting) (head : Head) → (x : Ended) × (text : List Leaf) × RestText names depth counting head x text
rest_some names depth counting HeadVoid = (_, [], nothing)
rest_some names depth counting (HeadInteger keyword) = (_, [], record { inner = []; is = refl; derives = none (keyword ∷ []) })
rest_some names depth counting (HeadName name) = (_, [], nothing)
rest_some names depth counting HeadStruct = ((tree.Struct None tree.no_members, WordsAround), _, second (record { inner = tree.no_members; is = refl; derives = record { first = 0; left = opens (suc depth) (mark punctuator.LeftBrace 0) ∷ []; right = plain (mark punctuator.RightBrace 0) ∷ []; is_first = mark-one punctuator.LeftBrace (opens (suc depth)) 0; is_second = record { inside = []; close = 0; derives = grammar.no_members (suc depth) counting; cut = refl }; cut = refl } }))
rest_some names depth counting HeadEnum = ((tree.Enum None (tree.constants (fresh names) tree.no_constants), WordsAround), _, second (record { inner = tree.constants (fresh names) tree.no_constants; is = refl; derives = record { first = 0; left = opens (suc depth) (mark punctuator.LeftBrace 0) ∷ []; right = plain (named (fresh names)) ∷ expected Nothing (mark punctuator.RightBrace 0) ∷ []; is_first = mark-one punctuator.LeftBrace (opens (suc depth)) 0; is_second = record { end = Nothing; inside = plain (named (fresh names)) ∷ []; close = 0; derives = grammar.last (suc depth) counting (fresh names) (fresh_is names); cut = refl }; cut = refl } }))

-- the token that a head is
abbrev pub head_leaf : Head → ℕ → Placed
head_leaf HeadVoid offset = keyword_at Void offset
head_leaf (HeadInteger keyword) offset = keyword_at keyword offset
head_leaf (HeadName name) offset = named name
head_leaf HeadStruct offset = keyword_at Struct offset
head_leaf HeadEnum offset = keyword_at Enum offset

abbrev HeadIs : (names : List (List ℕ)) → Head → ℕ → Type 0
HeadIs names HeadVoid offset = Unit {0}
HeadIs names (HeadInteger keyword) offset = six keyword ≡ true
HeadIs names (HeadName name) offset = (grammar.is_typedef_name names name.spelling ≡ true) × (name.offset ≡ offset)
HeadIs names HeadStruct offset = Unit {0}
HeadIs names HeadEnum offset = Unit {0}

head_word_is : (names : List (List ℕ)) (w : Keyword) (o : ℕ) (h : Head × ℕ) → option_map (λ (head : Head). (head, o)) (head_word w) ≡ Some h → (keyword_at w o ≡ head_leaf h.0 h.1) × (HeadIs names h.0 h.1) × (o ≡ h.1)
head_word_is names Void o h e = let same : (HeadVoid, o) ≡ h = cc in subst (λ (g : Head × ℕ). (keyword_at Void o ≡ head_leaf g.0 g.1) × (HeadIs names g.0 g.1) × (o ≡ g.1)) same (refl, tt, refl)
head_word_is names Char o h e = let same : (HeadInteger Char, o) ≡ h = cc in subst (λ (g : Head × ℕ). (keyword_at Char o ≡ head_leaf g.0 g.1) × (HeadIs names g.0 g.1) × (o ≡ g.1)) same (refl, refl, refl)
head_word_is names Signed o h e = let same : (HeadInteger Signed, o) ≡ h = cc in subst (λ (g : Head × ℕ). (keyword_at Signed o ≡ head_leaf g.0 g.1) × (HeadIs names g.0 g.1) × (o ≡ g.1)) same (refl, refl, refl)
head_word_is names Unsigned o h e = let same : (HeadInteger Unsigned, o) ≡ h = cc in subst (λ (g : Head × ℕ). (keyword_at Unsigned o ≡ head_leaf g.0 g.1) × (HeadIs names g.0 g.1) × (o ≡ g.1)) same (refl, refl, refl)
head_word_is names Short o h e = let same : (HeadInteger Short, o) ≡ h = cc in subst (λ (g : Head × ℕ). (keyword_at Short o ≡ head_leaf g.0 g.1) × (HeadIs names g.0 g.1) × (o ≡ g.1)) same (refl, refl, refl)
head_word_is names Int o h e = let same : (HeadInteger Int, o) ≡ h = cc in subst (λ (g : Head × ℕ). (keyword_at Int o ≡ head_leaf g.0 g.1) × (HeadIs names g.0 g.1) × (o ≡ g.1)) same (refl, refl, refl)
head_word_is names Long o h e = let same : (HeadInteger Long, o) ≡ h = cc in subst (λ (g : Head × ℕ). (keyword_at Long o ≡ head_leaf g.0 g.1) × (HeadIs names g.0 g.1) × (o ≡ g.1)) same (refl, refl, refl)
head_word_is names Struct o h e = let same : (HeadStruct, o) ≡ h = cc in subst (λ (g : Head × ℕ). (keyword_at Struct o ≡ head_leaf g.0 g.1) × (HeadIs names g.0 g.1) × (o ≡ g.1)) same (refl, tt, refl)
head_word_is names Enum o h e = let same : (HeadEnum, o) ≡ h = cc in subst (λ (g : Head × ℕ). (keyword_at Enum o ≡ head_leaf g.0 g.1) × (HeadIs names g.0 g.1) × (o ≡ g.1)) same (refl, tt, refl)
head_word_is names other o h e = absurd (cc)

head_token : (names : List (List ℕ)) (k : Token) (o : ℕ) (h : Head × ℕ) → option_map (λ (head : Head). (head, o)) (head_of names k o) ≡ Some h → (record { token = k; offset = o } ≡ head_leaf h.0 h.1) × (HeadIs names h.0 h.1) × (o ≡ h.1)
head_token names (Word w) o h e = head_word_is names w o h e
head_token names (name_token spelling) o h e = by_name (grammar.is_typedef_name names spelling) refl e
  where
    by_name : (b : Bool) → grammar.is_typedef_name names spelling ≡ b → option_map (λ (head : Head). (head, o)) (cond b (Some (HeadName (record { spelling = spelling; offset = o }))) None) ≡ Some h → (record { token = name_token spelling; offset = o } ≡ head_leaf h.0 h.1) × (HeadIs names h.0 h.1) × (o ≡ h.1)
    by_name true f e = let same : (HeadName (record { spelling = spelling; offset = o }), o) ≡ h = cc in subst (λ (g : Head × ℕ). (record { token = name_token spelling; offset = o } ≡ head_leaf g.0 g.1) × (HeadIs names g.0 g.1) × (o ≡ g.1)) same (refl, (f, refl), refl)
    by_name false f e = absurd (cc)
head_token names (number_token value type) o h e = absurd (cc)
head_token names (character_token value) o h e = absurd (cc)
head_token names (Mark p) o h e = absurd (cc)

pub one-head : (names : List (List ℕ)) (h : Head × ℕ) (text : List Leaf) → One plain (head_at names) h text → (text ≡ plain (head_leaf h.0 h.1) ∷ []) × (HeadIs names h.0 h.1) × ((head_leaf h.0 h.1).offset ≡ h.1)
one-head names h text o =
    let f = head_token names o.token.token o.token.offset h o.is in
    (o.cut ∙ ap (λ t. plain t ∷ []) f.0, f.1, sym (ap (λ (t : Placed). t.offset) f.0) ∙ f.2)

-- the words of an integer type, with their places
words_offsets : (words more : List Keyword) (text : List Leaf) → WordsAre words more text → (pairs : List (Keyword × ℕ)) × ((map (λ (w : Keyword × ℕ). w.0) pairs ≡ more) × (text ≡ map (λ (w : Keyword × ℕ). plain (keyword_at w.0 w.1)) pairs))
words_offsets words more text (none ws) = ([], (refl, refl))
words_offsets words more text (some ws w xs offset t e are) = let r = words_offsets (ws ++ w ∷ []) xs t are in ((w, offset) ∷ r.0, (ap (λ l. w ∷ l) r.1.0, ap (λ l. plain (keyword_at w offset) ∷ l) r.1.1))

words_type : (words more : List Keyword) (text : List Leaf) → is_some (grammar.integer_type_of words) ≡ true → WordsAre words more text → is_some (grammar.integer_type_of (words ++ more)) ≡ true
words_type words more text h (none ws) = subst (λ l. is_some (grammar.integer_type_of l) ≡ true) (sym (append-nil ws)) h
words_type words more text h (some ws w xs offset t e are) = subst (λ l. is_some (grammar.integer_type_of l) ≡ true) (append_assoc ws (w ∷ []) xs) (words_type (ws ++ w ∷ []) xs t e are)

words_keywords : (words more : List Keyword) (text : List Leaf) → WordsAre words more text → keywords_of text ≡ more
words_keywords words more text (none ws) = refl
words_keywords words more text (some ws w xs offset t e are) = ap (λ l. w ∷ l) (words_keywords (ws ++ w ∷ []) xs t are)

words_from : (lead : Keyword) (words : List Keyword) (pairs : List (Keyword × ℕ)) → is_some (grammar.integer_type_of (lead ∷ (words ++ map (λ (w : Keyword × ℕ). w.0) pairs))) ≡ true → WordsAre (lead ∷ words) (map (λ (w : Keyword × ℕ). w.0) pairs) (map (λ (w : Keyword × ℕ). plain (keyword_at w.0 w.1)) pairs)
words_from lead words [] h = none (lead ∷ words)
words_from lead words (w ∷ pairs) h =
    let rest = map (λ (w : Keyword × ℕ). w.0) pairs in
    let longer : is_some (grammar.integer_type_of (lead ∷ ((words ++ w.0 ∷ []) ++ rest))) ≡ true = subst (λ l. is_some (grammar.integer_type_of (lead ∷ l)) ≡ true) (sym (append_assoc words (w.0 ∷ []) rest)) h in
    some (lead ∷ words) w.0 rest w.1 (map (λ (w : Keyword × ℕ). plain (keyword_at w.0 w.1)) pairs) (first_words lead (words ++ w.0 ∷ []) rest longer) (words_from lead (words ++ w.0 ∷ []) pairs longer)

some_is : {A : Type 0} (o : Option A) (d : A) → is_some o ≡ true → o ≡ Some (unwrap_or o d)
some_is None d e = absurd (cc)
some_is (Some a) d e = refl

-- one of the six alone names a type
six_type : (word : Keyword) → six word ≡ true → is_some (grammar.integer_type_of (word ∷ [])) ≡ true
unfolding grammar.integer_type_of
six_type Char e = refl
six_type Signed e = refl
six_type Unsigned e = refl
six_type Short e = refl
six_type Int e = refl
six_type Long e = refl
six_type other e = absurd (cc)

-- type specifiers as the grammar has them
integer_base : (names : List (List ℕ)) (depth : ℕ) (counting : grammar.Counting) (keyword : Keyword) (offset : ℕ) (words : List Keyword) (text : List Leaf) → six keyword ≡ true → WordsAre (keyword ∷ []) words text
    → TypeSpecifierEnd names depth counting (integer_of (keyword ∷ words)) (WordsToo (keyword ∷ words)) (plain (keyword_at keyword offset) ∷ text)
integer_base names depth counting keyword offset words text e are =
    let p = words_offsets (keyword ∷ []) words text are in
    let all : is_some (grammar.integer_type_of (keyword ∷ words)) ≡ true = words_type (keyword ∷ []) words text (six_type keyword e) are in
    let type : grammar.integer_type_of (keyword ∷ map (λ (w : Keyword × ℕ). w.0) p.0) ≡ Some (unwrap_or (grammar.integer_type_of (keyword ∷ words)) integer.Int) =
    ap (λ l. grammar.integer_type_of (keyword ∷ l)) p.1.0 ∙ some_is (grammar.integer_type_of (keyword ∷ words)) integer.Int all in
    record {
      derives = subst (λ l. grammar.TypeSpecifier names depth counting (integer_of (keyword ∷ words)) (plain (keyword_at keyword offset) ∷ l)) (sym p.1.1) (grammar.integer_type depth counting (unwrap_or (grammar.integer_type_of (keyword ∷ words)) integer.Int) ((keyword, offset) ∷ p.0) type);
      is = ap (λ l. WordsToo (keyword ∷ l)) (sym (words_keywords (keyword ∷ []) words text are));
    }

struct_base : (names : List (List ℕ)) (depth offset : ℕ) (counting : grammar.Counting) (x : Ended) (text : List Leaf) → StructText names depth counting x text → TypeSpecifierEnd names depth counting x.0 x.1 (plain (keyword_at Struct offset) ∷ text)
struct_base names depth offset counting x text (first b) =
    let h = plain_leaf names b.first b.left b.is_first in
    subst (λ t. TypeSpecifierEnd names depth counting x.0 x.1 (plain (keyword_at Struct offset) ∷ t)) (sym (b.cut ∙ ap (λ l. l ++ b.right) h.0)) (by_way b.first h.1 x b.right b.is_second)
  where
    by_way : (tag : tree.Name) → grammar.is_typedef_name names tag.spelling ≡ false → (x : Ended) (right : List Leaf) → Or (Map (full_struct (Some tag)) (BracesText names depth counting)) (Empty (short_struct tag)) x right → TypeSpecifierEnd names depth counting x.0 x.1 (plain (keyword_at Struct offset) ∷ (plain (named tag) ∷ right))
    by_way tag e x right (first m) =
        let c = m.derives.is_second in
        let cut : right ≡ opens (suc depth) (mark punctuator.LeftBrace m.derives.first) ∷ c.inside ++ plain (mark punctuator.RightBrace c.close) ∷ [] = brace_first depth (λ _. Closed plain punctuator.RightBrace (grammar.Members names (suc depth) counting)) m.inner right m.derives ∙ ap (λ l. opens (suc depth) (mark punctuator.LeftBrace m.derives.first) ∷ l) c.cut in
        rw (m.is, cut) (record { derives = grammar.struct depth counting (Some tag) m.inner (plain (named tag) ∷ []) c.inside offset m.derives.first c.close (grammar.tag tag e) c.derives; is = refl })
    by_way tag e x right (second nothing) = record { derives = grammar.struct_tag depth counting tag offset e; is = refl }
struct_base names depth offset counting x text (second m) =
    let c = m.derives.is_second in
    let cut : text ≡ opens (suc depth) (mark punctuator.LeftBrace m.derives.first) ∷ c.inside ++ plain (mark punctuator.RightBrace c.close) ∷ [] = brace_first depth (λ _. Closed plain punctuator.RightBrace (grammar.Members names (suc depth) counting)) m.inner text m.derives ∙ ap (λ l. opens (suc depth) (mark punctuator.LeftBrace m.derives.first) ∷ l) c.cut in
    rw (m.is, cut) (record { derives = grammar.struct depth counting None m.inner [] c.inside offset m.derives.first c.close grammar.none c.derives; is = refl })

enum_base : (names : List (List ℕ)) (depth offset : ℕ) (counting : grammar.Counting) (x : Ended) (text : List Leaf) → EnumText names depth counting x text → TypeSpecifierEnd names depth counting x.0 x.1 (plain (keyword_at Enum offset) ∷ text)
enum_base names depth offset counting x text (first b) =
    let h = plain_leaf names b.first b.left b.is_first in
    subst (λ t. TypeSpecifierEnd names depth counting x.0 x.1 (plain (keyword_at Enum offset) ∷ t)) (sym (b.cut ∙ ap (λ l. l ++ b.right) h.0)) (by_way b.first h.1 x b.right b.is_second)
  where
    by_way : (tag : tree.Name) → grammar.is_typedef_name names tag.spelling ≡ false → (x : Ended) (right : List Leaf) → Or (Map (full_enum (Some tag)) (ConstantsText names depth counting)) (Empty (short_enum tag)) x right → TypeSpecifierEnd names depth counting x.0 x.1 (plain (keyword_at Enum offset) ∷ (plain (named tag) ∷ right))
    by_way tag e x right (first m) =
        let c = m.derives.is_second in
        let cut : right ≡ opens (suc depth) (mark punctuator.LeftBrace m.derives.first) ∷ c.inside ++ expected c.end (mark punctuator.RightBrace c.close) ∷ [] = brace_first depth (λ _. Enumeration names (suc depth) counting) m.inner right m.derives ∙ ap (λ l. opens (suc depth) (mark punctuator.LeftBrace m.derives.first) ∷ l) c.cut in
        rw (m.is, cut) (record { derives = grammar.enum depth counting (Some tag) m.inner (plain (named tag) ∷ []) c.inside c.end offset m.derives.first c.close (grammar.tag tag e) c.derives; is = refl })
    by_way tag e x right (second nothing) = record { derives = grammar.enum_tag depth counting tag offset e; is = refl }
enum_base names depth offset counting x text (second m) =
    let c = m.derives.is_second in
    let cut : text ≡ opens (suc depth) (mark punctuator.LeftBrace m.derives.first) ∷ c.inside ++ expected c.end (mark punctuator.RightBrace c.close) ∷ [] = brace_first depth (λ _. Enumeration names (suc depth) counting) m.inner text m.derives ∙ ap (λ l. opens (suc depth) (mark punctuator.LeftBrace m.derives.first) ∷ l) c.cut in
    rw (m.is, cut) (record { derives = grammar.enum depth counting None m.inner [] c.inside c.end offset m.derives.first c.close grammar.none c.derives; is = refl })

rest_base : (names : List (List ℕ)) (depth : ℕ) (counting : grammar.Counting) (head : Head) (offset : ℕ) (x : Ended) (text : List Leaf) → HeadIs names head offset → RestText names depth counting head x text → TypeSpecifierEnd names depth counting x.0 x.1 (plain (head_leaf head offset) ∷ text)
rest_base names depth counting HeadVoid offset x text h nothing = record { derives = grammar.void depth counting offset; is = refl }
rest_base names depth counting (HeadInteger keyword) offset x text h m = subst (λ (y : Ended). TypeSpecifierEnd names depth counting y.0 y.1 (plain (keyword_at keyword offset) ∷ text)) (sym m.is) (integer_base names depth counting keyword offset m.inner text h m.derives)
rest_base names depth counting (HeadName name) offset x text h nothing = record { derives = grammar.typedef_name depth counting name h.0; is = refl }
rest_base names depth counting HeadStruct offset x text h s = struct_base names depth offset counting x text s
rest_base names depth counting HeadEnum offset x text h s = enum_base names depth offset counting x text s

-- a type specifier that begins at an offset
pub record TypeSpecifierAt (names : List (List ℕ)) (depth : ℕ) (counting : grammar.Counting) (offset : ℕ) (x : Ended) (text : List Leaf) : Type 0 where
  pub end : TypeSpecifierEnd names depth counting x.0 x.1 text
  pub leaf : Leaf
  pub more : List Leaf
  pub cut : text ≡ leaf ∷ more
  pub there : leaf.token.offset ≡ offset

pub text_base : (names : List (List ℕ)) (depth : ℕ) (counting : grammar.Counting) (made : (Head × ℕ) × Ended) (text : List Leaf) → TypeSpecifierText names depth counting made text → TypeSpecifierAt names depth counting made.0.1 made.1 text
text_base names depth counting made text t =
    let h = one-head names made.0 t.left t.first in
    let cut : text ≡ plain (head_leaf made.0.0 made.0.1) ∷ t.right = t.cut ∙ ap (λ l. l ++ t.right) h.0 in
    record {
      end = subst (λ l. TypeSpecifierEnd names depth counting made.1.0 made.1.1 l) (sym cut) (rest_base names depth counting made.0.0 made.0.1 made.1 t.right h.1 t.second);
      leaf = plain (head_leaf made.0.0 made.0.1);
      more = t.right;
      cut = cut;
      there = h.2;
    }

-- and back
pub record TypeSpecifierRead (names : List (List ℕ)) (depth : ℕ) (counting : grammar.Counting) (base : tree.TypeSpecifier) (text : List Leaf) : Type 0 where
  pub head : Head × ℕ
  pub derives : TypeSpecifierText names depth counting (head, (base, base_ending base text)) text

keywords_pairs : (pairs : List (Keyword × ℕ)) → keywords_of (map (λ (w : Keyword × ℕ). plain (keyword_at w.0 w.1)) pairs) ≡ map (λ (w : Keyword × ℕ). w.0) pairs
keywords_pairs [] = refl
keywords_pairs (w ∷ pairs) = ap (λ l. w.0 ∷ l) (keywords_pairs pairs)

none_named : (type : IntegerType) → grammar.integer_type_of [] ≡ Some type → ⊥
unfolding grammar.integer_type_of
none_named type e = cc

read_integer : (names : List (List ℕ)) (depth : ℕ) (counting : grammar.Counting) (type : IntegerType) (words : List (Keyword × ℕ)) → grammar.integer_type_of (map (λ (w : Keyword × ℕ). w.0) words) ≡ Some type → TypeSpecifierRead names depth counting (tree.Integer type) (map (λ (w : Keyword × ℕ). plain (keyword_at w.0 w.1)) words)
read_integer names depth counting type [] e = absurd (none_named type e)
read_integer names depth counting type (w ∷ words) e =
    let rest = map (λ (w : Keyword × ℕ). w.0) words in
    let some_type : is_some (grammar.integer_type_of (w.0 ∷ rest)) ≡ true = ap is_some e in
    let begins = (six_begins w.0 (first_six w.0 rest some_type)).1 in
    record {
      head = (HeadInteger w.0, w.1);
      derives = record {
        left = plain (keyword_at w.0 w.1) ∷ [];
        right = map (λ (w : Keyword × ℕ). plain (keyword_at w.0 w.1)) words;
        cut = refl;
        first = record { token = keyword_at w.0 w.1; is = ap (option_map (λ (head : Head). (head, w.1))) begins; cut = refl };
        second = record {
          inner = rest;
          is = same_ended (sym (ap (λ o. unwrap_or o integer.Int) e)) (ap (λ l. w.0 ∷ l) (keywords_pairs words));
          derives = words_from w.0 [] words some_type;
        };
      };
    }
  where
    same_ended : {a b : IntegerType} {k l : List Keyword} → a ≡ b → k ≡ l → ◌≡◌ {A = Ended} (tree.Integer a, WordsToo k) (tree.Integer b, WordsToo l)
    same_ended p q = rw (p, q) refl

head_one : (names : List (List ℕ)) (h : Head × ℕ) (t : Placed) → head_at names t ≡ Some h → One plain (head_at names) h (plain t ∷ [])
head_one names h t e = record { token = t; is = e; cut = refl }

braces_text : (names : List (List ℕ)) (depth open_offset close : ℕ) (counting : grammar.Counting) (ms : tree.Members) (inside : List Leaf) → grammar.Members names (suc depth) counting ms inside → BracesText names depth counting ms (opens (suc depth) (mark punctuator.LeftBrace open_offset) ∷ inside ++ plain (mark punctuator.RightBrace close) ∷ [])
braces_text names depth open_offset close counting ms inside k =
    record { first = open_offset; left = opens (suc depth) (mark punctuator.LeftBrace open_offset) ∷ []; right = inside ++ plain (mark punctuator.RightBrace close) ∷ []; is_first = mark-one punctuator.LeftBrace (opens (suc depth)) open_offset; is_second = record { inside = inside; close = close; derives = k; cut = refl }; cut = refl }

enumeration_braces : (names : List (List ℕ)) (depth open_offset close : ℕ) (counting : grammar.Counting) (cs : tree.Constants) (end : Role) (inside : List Leaf) → grammar.Constants names (suc depth) counting cs end inside → ConstantsText names depth counting cs (opens (suc depth) (mark punctuator.LeftBrace open_offset) ∷ inside ++ expected end (mark punctuator.RightBrace close) ∷ [])
enumeration_braces names depth open_offset close counting cs end inside k =
    record { first = open_offset; left = opens (suc depth) (mark punctuator.LeftBrace open_offset) ∷ []; right = inside ++ expected end (mark punctuator.RightBrace close) ∷ []; is_first = mark-one punctuator.LeftBrace (opens (suc depth)) open_offset; is_second = record { end = end; inside = inside; close = close; derives = k; cut = refl }; cut = refl }

tagged : {Body : Type 0} (S : Body → List Leaf → Type 0) (full : Option tree.Name → Body → Ended) (short : tree.Name → Ended) (names : List (List ℕ)) (tag : Option tree.Name) (name : List Leaf) (body : Body) (text : List Leaf) → grammar.Tag names tag name → S body text → TaggedText names S full short (full tag body) (name ++ text)
tagged S full short names tag name body text grammar.none k = second (record { inner = body; is = refl; derives = k })
tagged S full short names tag name body text (grammar.tag n e) k = first (record { first = n; left = plain (named n) ∷ []; right = text; is_first = leaf_plain names n e; is_second = first (record { inner = body; is = refl; derives = k }); cut = refl })

tag_alone : {Body : Type 0} (S : Body → List Leaf → Type 0) (full : Option tree.Name → Body → Ended) (short : tree.Name → Ended) (names : List (List ℕ)) (n : tree.Name) → grammar.is_typedef_name names n.spelling ≡ false → TaggedText names S full short (short n) (plain (named n) ∷ [])
tag_alone S full short names n e = first (record { first = n; left = plain (named n) ∷ []; right = []; is_first = leaf_plain names n e; is_second = second nothing; cut = refl })

pub base_text : (names : List (List ℕ)) (depth : ℕ) (counting : grammar.Counting) (base : tree.TypeSpecifier) (text : List Leaf) → grammar.TypeSpecifier names depth counting base text → TypeSpecifierRead names depth counting base text
base_text names depth counting base text (grammar.void d c offset) = record { head = (HeadVoid, offset); derives = record { left = plain (keyword_at Void offset) ∷ []; right = []; cut = refl; first = head_one names (HeadVoid, offset) (keyword_at Void offset) refl; second = nothing } }
base_text names depth counting base text (grammar.integer_type d c type words e) = read_integer names d c type words e
base_text names depth counting base text (grammar.typedef_name d c n e) = record { head = (HeadName n, n.offset); derives = record { left = plain (named n) ∷ []; right = []; cut = refl; first = head_one names (HeadName n, n.offset) (named n) (rw e refl); second = nothing } }
base_text names depth counting base text (grammar.struct_tag d c n offset e) =
    record { head = (HeadStruct, offset); derives = record { left = plain (keyword_at Struct offset) ∷ []; right = plain (named n) ∷ []; cut = refl; first = head_one names (HeadStruct, offset) (keyword_at Struct offset) refl; second = tag_alone (BracesText names d c) full_struct short_struct names n e } }
base_text names depth counting base text (grammar.struct d c tag ms name inside offset open_offset close h k) =
    record { head = (HeadStruct, offset); derives = record { left = plain (keyword_at Struct offset) ∷ []; right = name ++ (opens (suc d) (mark punctuator.LeftBrace open_offset) ∷ inside ++ plain (mark punctuator.RightBrace close) ∷ []); cut = refl; first = head_one names (HeadStruct, offset) (keyword_at Struct offset) refl; second = tagged (BracesText names d c) full_struct short_struct names tag name ms _ h (braces_text names d open_offset close c ms inside k) } }
base_text names depth counting base text (grammar.enum_tag d c n offset e) =
    record { head = (HeadEnum, offset); derives = record { left = plain (keyword_at Enum offset) ∷ []; right = plain (named n) ∷ []; cut = refl; first = head_one names (HeadEnum, offset) (keyword_at Enum offset) refl; second = tag_alone (ConstantsText names d c) full_enum short_enum names n e } }
base_text names depth counting base text (grammar.enum d c tag cs name inside end offset open_offset close h k) =
    record { head = (HeadEnum, offset); derives = record { left = plain (keyword_at Enum offset) ∷ []; right = name ++ (opens (suc d) (mark punctuator.LeftBrace open_offset) ∷ inside ++ expected end (mark punctuator.RightBrace close) ∷ []); cut = refl; first = head_one names (HeadEnum, offset) (keyword_at Enum offset) refl; second = tagged (ConstantsText names d c) full_enum short_enum names tag name cs _ h (enumeration_braces names d open_offset close c cs end inside k) } }

-- the parsers give the same
map_map : {X Y Z : Type 0} (f : X → Y) (g : Y → Z) (o : Outcome Placed Role X) → bind o (λ x rest. Ok (g (f x), rest)) ≡ bind {X = Y} {Y = Z} (bind o (λ x rest. Ok (f x, rest))) (λ y rest. Ok (g y, rest))
map_map f g (Ok (x, rest)) = refl
map_map f g (Err fault) = refl

tagged_same : {Body : Type 0} (names : List (List ℕ)) (full : Option tree.Name → Body → Ended) (short : tree.Name → Ended) (read : Parser Placed Role Body) (tokens : List Placed)
    → choose (is_plain_name names) (following (token Nothing plain (plain_name_at names)) (λ tag. choose (is_mark punctuator.LeftBrace) (read_map (λ b. (full (Some tag) b).0) read) (read_nothing (short tag).0))) (read_map (λ b. (full None b).0) read) tokens
    ≡ read_map (λ (x : Ended). x.0) (choose (is_plain_name names) (following (token Nothing plain (plain_name_at names)) (λ tag. choose (is_mark punctuator.LeftBrace) (read_map (full (Some tag)) read) (read_nothing (short tag)))) (read_map (full None) read)) tokens
tagged_same {Body} names full short read tokens = by_name (next_is (is_plain_name names) tokens)
  where
    by_brace : (tag : tree.Name) (rest : List Placed) (b : Bool) → cond b (bind (read rest) (λ x r. Ok ((full (Some tag) x).0, r))) (Ok ((short tag).0, rest)) ≡ bind {X = Ended} {Y = tree.TypeSpecifier} (cond b (bind (read rest) (λ x r. Ok (full (Some tag) x, r))) (Ok (short tag, rest))) (λ x r. Ok (x.0, r))
    by_brace tag rest true = map_map (full (Some tag)) (λ (x : Ended). x.0) (read rest)
    by_brace tag rest false = refl

    by_tag : (o : Outcome Placed Role tree.Name) → bind o (λ tag rest. cond (next_is (is_mark punctuator.LeftBrace) rest) (bind (read rest) (λ x r. Ok ((full (Some tag) x).0, r))) (Ok ((short tag).0, rest))) ≡ bind {X = Ended} {Y = tree.TypeSpecifier} (bind o (λ tag rest. cond (next_is (is_mark punctuator.LeftBrace) rest) (bind (read rest) (λ x r. Ok (full (Some tag) x, r))) (Ok (short tag, rest)))) (λ x r. Ok (x.0, r))
    by_tag (Ok (tag, rest)) = by_brace tag rest (next_is (is_mark punctuator.LeftBrace) rest)
    by_tag (Err fault) = refl

    by_name : (b : Bool) → cond b (following (token Nothing plain (plain_name_at names)) (λ tag. choose (is_mark punctuator.LeftBrace) (read_map (λ x. (full (Some tag) x).0) read) (read_nothing (short tag).0)) tokens) (bind (read tokens) (λ x r. Ok ((full None x).0, r)))
        ≡ bind {X = Ended} {Y = tree.TypeSpecifier} (cond b (following (token Nothing plain (plain_name_at names)) (λ tag. choose (is_mark punctuator.LeftBrace) (read_map (full (Some tag)) read) (read_nothing (short tag))) tokens) (bind (read tokens) (λ x r. Ok (full None x, r)))) (λ x r. Ok (x.0, r))
    by_name true = by_tag (token Nothing plain (plain_name_at names) tokens)
    by_name false = map_map (full None) (λ (x : Ended). x.0) (read tokens)

rest_same : (names : List (List ℕ)) (inner : Parsers) (depth : ℕ) (counting : grammar.Counting) (head : Head) (tokens : List Placed) → read_type_specifier_rest names inner depth counting head tokens ≡ read_map (λ (x : Ended). x.0) (rich_type_specifier_rest names inner depth counting head) tokens
rest_same names inner depth counting HeadVoid tokens = refl
rest_same names inner depth counting (HeadInteger keyword) tokens = map_map (λ words. (integer_of (keyword ∷ words), WordsToo (keyword ∷ words))) (λ (x : Ended). x.0) (read_words (keyword ∷ []) tokens)
rest_same names inner depth counting (HeadName name) tokens = refl
rest_same names inner depth counting HeadStruct tokens = tagged_same names full_struct short_struct (read_members names inner depth counting) tokens
rest_same names inner depth counting HeadEnum tokens = tagged_same names full_enum short_enum (read_constants names inner depth counting) tokens

abbrev pub without_end : (Head × ℕ) × Ended → (Head × ℕ) × tree.TypeSpecifier
without_end made = (made.0, made.1.0)

pub base_same : (names : List (List ℕ)) (inner : Parsers) (depth : ℕ) (counting : grammar.Counting) (tokens : List Placed) → read_type_specifier names inner depth counting tokens ≡ read_map without_end (rich_type_specifier names inner depth counting) tokens
base_same names inner depth counting tokens = by_head (token Nothing plain (head_at names) tokens)
  where
    by_rest : (head : Head × ℕ) (o : Outcome Placed Role Ended) → bind (bind {Y = tree.TypeSpecifier} o (λ x r. Ok (x.0, r))) (λ y after. Ok ((head, y), after)) ≡ bind {X = (Head × ℕ) × Ended} {Y = (Head × ℕ) × tree.TypeSpecifier} (bind o (λ y after. Ok ((head, y), after))) (λ made r. Ok (without_end made, r))
    by_rest head (Ok (x, rest)) = refl
    by_rest head (Err fault) = refl

    by_head : (o : Outcome Placed Role (Head × ℕ)) → bind o (λ head rest. bind (read_type_specifier_rest names inner depth counting head.0 rest) (λ y after. Ok ((head, y), after))) ≡ bind {X = (Head × ℕ) × Ended} {Y = (Head × ℕ) × tree.TypeSpecifier} (bind o (λ head rest. bind (rich_type_specifier_rest names inner depth counting head.0 rest) (λ y after. Ok ((head, y), after)))) (λ made r. Ok (without_end made, r))
    by_head (Ok (head, rest)) = ap (λ (o : Outcome Placed Role tree.TypeSpecifier). bind o (λ y after. Ok ((head, y), after))) (rest_same names inner depth counting head.0 rest) ∙ by_rest head (rich_type_specifier_rest names inner depth counting head.0 rest)
    by_head (Err fault) = refl

roled-tagged : {Body : Type 0} {S : Body → List Leaf → Type 0} {full : Option tree.Name → Body → Ended} {short : tree.Name → Ended} {read : Parser Placed Role Body} (names : List (List ℕ)) → Braced S full short → Firm anything S (λ _. anything) read
    → Firm anything (TaggedText names S full short) stop_ended
    (choose (is_plain_name names) (following (token Nothing plain (plain_name_at names)) (λ tag. choose (is_mark punctuator.LeftBrace) (read_map (full (Some tag)) read) (read_nothing (short tag)))) (read_map (full None) read))
roled-tagged {Body} {S} {full} {short} {read} names braced is =
    roled-choice (is_plain_name names)
    record {
      first_begins = λ x text b. let h = plain_leaf names b.first b.left b.is_first in (plain (named b.first), b.right, b.cut ∙ ap (λ l. l ++ b.right) h.0, plain-passes names b.first h.1);
      second_begins = λ x text rest m stops. let b = braced.begins m.inner text m.derives in subst (λ t. Stops (λ t. not (is_plain_name names t.token)) (plains marks t ++ rest)) (sym b.2) (rw (brace_no_name names b.0.token.token b.3) refl);
    }
    (λ t e. let n = plain_found names t e in after_begins (plain_name_at names) plain (λ t. refl) t n.0 n.1 (short n.0, [], second nothing))
    (after_silent (plain_name_at names) plain (λ t. refl))
    (roled-opened (plain_name_at names) Nothing plain (λ t. refl) (λ t. refl) (named (fresh names)) (fresh names) (plain-self names (fresh names) (fresh_is names))
    (λ tag. (short tag, [], second nothing))
    (λ tag t e within. roled-choose (is_mark punctuator.LeftBrace)
    record {
      first_begins = λ x text m. braced.begins m.inner text m.derives;
      second_begins = λ x text rest one stops. short_second tag x text rest one stops;
    }
    (λ t e. map_begins (full (Some tag)) t (braced.starts t e))
    (map_silent (full (Some tag)) braced.silent)
    (roled-enter (both anything (λ t. is_mark punctuator.LeftBrace t.token)) (full_is (Some tag)))
    (roled-stop stop_ended (λ x text one t. short_same tag x text t one) (firm-nothing (both anything (λ t. not (is_mark punctuator.LeftBrace t.token))) (short tag)))))
    (full_is None)
  where
    short_same : (tag : tree.Name) (x : Ended) (text : List Leaf) (t : Placed) → Empty (short tag) x text → not (is_mark punctuator.LeftBrace t.token) ≡ stop_ended x t
    short_same tag x text t nothing = ap (λ (e : Ending). not (goes_on_with e t.token)) (sym (braced.short_ends tag))

    short_second : (tag : tree.Name) (x : Ended) (text : List Leaf) (rest : List Placed) → Empty (short tag) x text → Stops (stop_ended x) rest → Stops (λ t. not (is_mark punctuator.LeftBrace t.token)) (plains marks text ++ rest)
    short_second tag x text rest nothing stops = subst (λ (e : Ending). Stops (λ t. not (goes_on_with e t.token)) rest) (braced.short_ends tag) stops

    full_is : (tag : Option tree.Name) → Firm anything (Map (full tag) S) stop_ended (read_map (full tag) read)
    full_is tag = firm-map (full tag) stop_ended (λ x. ap {B = Placed → Bool} (λ (e : Ending) (t : Placed). not (goes_on_with e t.token)) (braced.full_ends tag x)) is

roled-struct : (names : List (List ℕ)) (inner : Parsers) (depth : ℕ) (counting : grammar.Counting) → (suc depth ≤ nesting_limit → Whole names inner (suc depth) (grammar.count_at counting)) → Inside names inner depth (grammar.count_at counting) → Firm anything (StructText names depth counting) stop_ended (rich_struct names inner depth counting)
roled-struct names inner depth counting whole inside =
    roled-tagged {full = full_struct} {short = short_struct} names
    record {
      begins = λ x text b. (opens (suc depth) (mark punctuator.LeftBrace b.first), b.right, brace_first depth (λ _. Closed plain punctuator.RightBrace (grammar.Members names (suc depth) counting)) x text b, mark-passes punctuator.LeftBrace (mark punctuator.LeftBrace b.first) b.first (mark-self punctuator.LeftBrace b.first));
      full_ends = λ tag x. refl;
      short_ends = λ tag. refl;
      starts = λ t e. after_begins (mark_offset punctuator.LeftBrace) (opens (suc depth)) (λ t. refl) t t.offset (mark-some punctuator.LeftBrace t e) (tree.no_members, plain (mark punctuator.RightBrace 0) ∷ [], record { inside = []; close = 0; derives = grammar.no_members (suc depth) counting; cut = refl });
      silent = after_silent (mark_offset punctuator.LeftBrace) (opens (suc depth)) (λ t. refl);
    }
    (roled-members names inner depth counting whole inside)

roled-enum : (names : List (List ℕ)) (inner : Parsers) (depth : ℕ) (counting : grammar.Counting) → Whole names inner depth (grammar.count_at counting) → Firm anything (EnumText names depth counting) stop_ended (rich_enum names inner depth counting)
roled-enum names inner depth counting whole =
    roled-tagged {full = full_enum} {short = short_enum} names
    record {
      begins = λ x text b. (opens (suc depth) (mark punctuator.LeftBrace b.first), b.right, brace_first depth (λ _. Enumeration names (suc depth) counting) x text b, mark-passes punctuator.LeftBrace (mark punctuator.LeftBrace b.first) b.first (mark-self punctuator.LeftBrace b.first));
      full_ends = λ tag x. refl;
      short_ends = λ tag. refl;
      starts = λ t e. after_begins (mark_offset punctuator.LeftBrace) (opens (suc depth)) (λ t. refl) t t.offset (mark-some punctuator.LeftBrace t e) (tree.constants (fresh names) tree.no_constants, _, record { end = Nothing; inside = plain (named (fresh names)) ∷ []; close = 0; derives = grammar.last (suc depth) counting (fresh names) (fresh_is names); cut = refl });
      silent = after_silent (mark_offset punctuator.LeftBrace) (opens (suc depth)) (λ t. refl);
    }
    (roled-constants names inner depth counting whole)

roled-around : (x : Ended) → x.1 ≡ WordsAround → Firm anything (Empty x) stop_ended (read_nothing x)
roled-around x e = roled-stop stop_ended (λ y text one t. same y text t one) (firm-nothing anything x)
  where
    same : (y : Ended) (text : List Leaf) (t : Placed) → Empty x y text → true ≡ stop_ended y t
    same y text t nothing = ap (λ (k : Ending). not (goes_on_with k t.token)) (sym e)

roled-rest : (names : List (List ℕ)) (inner : Parsers) (depth : ℕ) (counting : grammar.Counting) → (suc depth ≤ nesting_limit → Whole names inner (suc depth) (grammar.count_at counting)) → Whole names inner depth (grammar.count_at counting) → Inside names inner depth (grammar.count_at counting) → (head : Head) → Firm anything (RestText names depth counting head) stop_ended (rich_type_specifier_rest names inner depth counting head)
roled-rest names inner depth counting deeper whole inside HeadVoid = roled-around (tree.Void, WordsAround) refl
roled-rest names inner depth counting deeper whole inside (HeadInteger keyword) = firm-map (λ words. (integer_of (keyword ∷ words), WordsToo (keyword ∷ words))) stop_ended (λ words. refl) (roled-words (keyword ∷ []))
roled-rest names inner depth counting deeper whole inside (HeadName name) = roled-around (tree.TypedefName name, WordsAround) refl
roled-rest names inner depth counting deeper whole inside HeadStruct = roled-struct names inner depth counting deeper inside
roled-rest names inner depth counting deeper whole inside HeadEnum = roled-enum names inner depth counting whole

pub roled-type_specifier : (names : List (List ℕ)) (inner : Parsers) (depth : ℕ) (counting : grammar.Counting) → (entry : Placed → Bool) → (suc depth ≤ nesting_limit → Whole names inner (suc depth) (grammar.count_at counting)) → Whole names inner depth (grammar.count_at counting) → Inside names inner depth (grammar.count_at counting)
    → Firm entry (TypeSpecifierText names depth counting) (λ made. stop_ended made.1) (rich_type_specifier names inner depth counting)
roled-type_specifier names inner depth counting entry deeper whole inside =
    roled-then (firm-one entry plain (head_at names) Nothing (λ t. refl) (λ t. refl) (keyword_at Void 0) (HeadVoid, 0) refl) (λ head. roled-rest names inner depth counting deeper whole inside head.0)
    record {
      ends = λ head y left right rest one two stops. stops_anything (plains marks right ++ rest);
      goes_on = λ head left one. rest_some names depth counting head.0;
    }
