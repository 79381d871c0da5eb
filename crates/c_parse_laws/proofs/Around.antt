-- Specifiers directly in a declaration of locals, and directly in an external declaration, keep roles.
use Rattle.std.proofs.Common.{◌≡◌, ℕ, false, List, ◌∷◌, Option, Some, None, refl, ap, ◌∙◌, [], true, suc}
use Rattle.std.specs.Prelude.{option_map}
use Rattle.std.specs.Option.{is_some}
use Rattle.c_token_spec.specs.declared.token.Keyword.{Keyword}
use Rattle.c_token_spec.specs.declared.token.Keyword.TheVariants.{Const, Static, Typedef, Extern, Inline}
use Rattle.c_token_spec.specs.Lexical.{Token, Name as name_token, Word, Number as number_token, Character as character_token, Mark, Placed}
use Rattle.c_syntax_spec.specs.Expression as tree
use Rattle.c_parse_spec.specs.Leaves.{Leaf, plain, keyword_at}
use Rattle.c_parse_spec.specs.Expressions as grammar
use Rattle.exact_read.specs.Grammar.{anything}
use Rattle.c_parse_laws.specs.Parsers.{Parsers}
use Rattle.c_parse_laws.specs.Types.{Head, head_word, head_of}
use Rattle.c_parse_laws.specs.Beside.{FirmBeside}
use Rattle.c_parse_laws.specs.Endings.{SpecifiersEnd, stop_specifiers}
use Rattle.c_parse_laws.specs.TypeExactness.{AllFirm}
use Rattle.c_parse_laws.specs.Specified.{rich_specified}
use Rattle.c_parse_laws.proofs.IntegerWords.{six}
use Rattle.c_parse_laws.proofs.Tokens.{leaves_of, TokenClass}
use Rattle.c_parse_laws.proofs.TypeNames.{word_ends}
use Rattle.c_parse_laws.proofs.Specifiers.{Around, specified_same, roled-specified}
use Rattle.c_parse_laws.specs.Around.{spell_word, storage_of, word_of, is_word, word_at, LocalWord, LocalConst, LocalStatic, local_word, local_keyword, with_local, ExternalWord, ExternalConst, ExternalTypedef, ExternalExtern, ExternalStatic, ExternalInline, external_word, external_keyword, with_item, read_local_specifiers, read_external_specifiers}
use Rattle.c_parse_laws.proofs.Marks.{some_value}

-- a kind of words
record Words {W : Type 0} (position : grammar.Position) (of : Keyword → Option W) (keyword : W → Keyword) (with : W → tree.Storage → tree.Storage) : Type 0 where
  back : (k : Keyword) (w : W) → of k ≡ Some w → k ≡ keyword w
  self : (w : W) → of (keyword w) ≡ Some w
  sample : W
  add : (w : W) (storage : tree.Storage) (text : List Leaf) (offset : ℕ) → grammar.Words position storage text → grammar.Words position (with w storage) (plain (keyword_at (keyword w) offset) ∷ text)
  from : (s : tree.Storage) (text : List Leaf) → grammar.Words position s text → (xs : List (W × ℕ)) × ((text ≡ leaves_of (spell_word keyword) xs) × (s ≡ storage_of with xs))
  other : (w : W) → six (keyword w) ≡ false
  no_head : (k : Keyword) (h : Head) → head_word k ≡ Some h → of k ≡ None

word_token : {W : Type 0} {position : grammar.Position} {of : Keyword → Option W} {keyword : W → Keyword} {with : W → tree.Storage → tree.Storage} → Words position of keyword with → (k : Token) (o : ℕ) (x : W × ℕ) → option_map (λ w. (w, o)) (word_of of k) ≡ Some x → record { token = k; offset = o } ≡ spell_word keyword x
word_token {W} {position} {of} {keyword} words (Word w) o x e = by_word (of w) refl e
  where
    by_word : (f : Option W) → of w ≡ f → option_map (λ v. (v, o)) f ≡ Some x → keyword_at w o ≡ spell_word keyword x
    by_word None g e = absurd (cc)
    by_word (Some v) g e = let same : (v, o) ≡ x = cc in ap (λ q. keyword_at q o) (words.back w v g) ∙ ap (λ (p : W × ℕ). keyword_at (keyword p.0) p.1) same
word_token words (name_token spelling) o x e = absurd (cc)
word_token words (number_token value type) o x e = absurd (cc)
word_token words (character_token value) o x e = absurd (cc)
word_token words (Mark p) o x e = absurd (cc)

words_class : {W : Type 0} {position : grammar.Position} {of : Keyword → Option W} {keyword : W → Keyword} {with : W → tree.Storage → tree.Storage} → Words position of keyword with → TokenClass (word_at of) (λ t. is_word of t.token) (spell_word keyword)
words_class words =
    record {
      back = λ t x e. word_token words t.token t.offset x e;
      self = λ x. ap (option_map (λ w. (w, x.1))) (words.self x.0);
      passes = λ x. ap is_some (words.self x.0);
      sample = (words.sample, 0);
    }

to_words : {W : Type 0} {position : grammar.Position} {of : Keyword → Option W} {keyword : W → Keyword} {with : W → tree.Storage → tree.Storage} → Words position of keyword with → (xs : List (W × ℕ)) → grammar.Words position (storage_of with xs) (leaves_of (spell_word keyword) xs)
to_words {position = position} words [] = grammar.none position
to_words {keyword = keyword} {with = with} words (x ∷ xs) = words.add x.0 (storage_of with xs) (leaves_of (spell_word keyword) xs) x.1 (to_words words xs)

no_head : {W : Type 0} {position : grammar.Position} {of : Keyword → Option W} {keyword : W → Keyword} {with : W → tree.Storage → tree.Storage} → Words position of keyword with → (names : List (List ℕ)) (k : Token) (o : ℕ) (h : Head) → head_of names k o ≡ Some h → is_word of k ≡ false
no_head words names (Word w) o h e = ap is_some (words.no_head w h e)
no_head words names (name_token spelling) o h e = refl
no_head words names (number_token value type) o h e = refl
no_head words names (character_token value) o h e = refl
no_head words names (Mark p) o h e = refl

around : {W : Type 0} {position : grammar.Position} {of : Keyword → Option W} {keyword : W → Keyword} {with : W → tree.Storage → tree.Storage} → Words position of keyword with → Around position (word_at of) (is_word of) (spell_word keyword) (storage_of with)
around words =
    record {
      kind = words_class words;
      to_words = to_words words;
      from_words = words.from;
      ends_base = λ x e. word_ends _ (words.other x.0) e;
      no_head = no_head words;
    }

-- those of locals
local_back : (k : Keyword) (w : LocalWord) → local_word k ≡ Some w → k ≡ local_keyword w
local_back Const w e = let same : LocalConst ≡ w = cc in ap local_keyword same
local_back Static w e = let same : LocalStatic ≡ w = cc in ap local_keyword same
local_back other w e = absurd (cc)

local_self : (w : LocalWord) → local_word (local_keyword w) ≡ Some w
local_self LocalConst = refl
local_self LocalStatic = refl

local_add : (w : LocalWord) (storage : tree.Storage) (text : List Leaf) (offset : ℕ) → grammar.Words grammar.InLocalDeclaration storage text → grammar.Words grammar.InLocalDeclaration (with_local w storage) (plain (keyword_at (local_keyword w) offset) ∷ text)
local_add LocalConst storage text offset h = grammar.const grammar.InLocalDeclaration storage text offset h
local_add LocalStatic storage text offset h = grammar.static_local storage text offset h

local_from : (position : grammar.Position) (s : tree.Storage) (text : List Leaf) → grammar.Words position s text → position ≡ grammar.InLocalDeclaration → (xs : List (LocalWord × ℕ)) × ((text ≡ leaves_of (spell_word local_keyword) xs) × (s ≡ storage_of with_local xs))
local_from position s text (grammar.none p) e = ([], (refl, refl))
local_from position s text (grammar.const p q t offset h) e = let r = local_from p q t h e in ((LocalConst, offset) ∷ r.0, (ap (λ l. plain (keyword_at Const offset) ∷ l) r.1.0, r.1.1))
local_from position s text (grammar.static_local q t offset h) e = let r = local_from grammar.InLocalDeclaration q t h e in ((LocalStatic, offset) ∷ r.0, (ap (λ l. plain (keyword_at Static offset) ∷ l) r.1.0, ap (with_local LocalStatic) r.1.1))
local_from position s text (grammar.typedef q t offset h) e = absurd (cc)
local_from position s text (grammar.extern q t offset h) e = absurd (cc)
local_from position s text (grammar.inline q t offset h) e = absurd (cc)
local_from position s text (grammar.static_external q t offset h) e = absurd (cc)

local_other : (w : LocalWord) → six (local_keyword w) ≡ false
local_other LocalConst = refl
local_other LocalStatic = refl

local_no_head : (k : Keyword) (h : Head) → head_word k ≡ Some h → local_word k ≡ None
local_no_head Const h e = absurd (cc)
local_no_head Static h e = absurd (cc)
local_no_head other h e = refl

-- those of external declarations
item_back : (k : Keyword) (w : ExternalWord) → external_word k ≡ Some w → k ≡ external_keyword w
item_back Const w e = let same : ExternalConst ≡ w = cc in ap external_keyword same
item_back Typedef w e = let same : ExternalTypedef ≡ w = cc in ap external_keyword same
item_back Extern w e = let same : ExternalExtern ≡ w = cc in ap external_keyword same
item_back Static w e = let same : ExternalStatic ≡ w = cc in ap external_keyword same
item_back Inline w e = let same : ExternalInline ≡ w = cc in ap external_keyword same
item_back other w e = absurd (cc)

item_self : (w : ExternalWord) → external_word (external_keyword w) ≡ Some w
item_self ExternalConst = refl
item_self ExternalTypedef = refl
item_self ExternalExtern = refl
item_self ExternalStatic = refl
item_self ExternalInline = refl

item_add : (w : ExternalWord) (storage : tree.Storage) (text : List Leaf) (offset : ℕ) → grammar.Words grammar.InExternalDeclaration storage text → grammar.Words grammar.InExternalDeclaration (with_item w storage) (plain (keyword_at (external_keyword w) offset) ∷ text)
item_add ExternalConst storage text offset h = grammar.const grammar.InExternalDeclaration storage text offset h
item_add ExternalTypedef storage text offset h = grammar.typedef storage text offset h
item_add ExternalExtern storage text offset h = grammar.extern storage text offset h
item_add ExternalStatic storage text offset h = grammar.static_external storage text offset h
item_add ExternalInline storage text offset h = grammar.inline storage text offset h

item_from : (position : grammar.Position) (s : tree.Storage) (text : List Leaf) → grammar.Words position s text → position ≡ grammar.InExternalDeclaration → (xs : List (ExternalWord × ℕ)) × ((text ≡ leaves_of (spell_word external_keyword) xs) × (s ≡ storage_of with_item xs))
item_from position s text (grammar.none p) e = ([], (refl, refl))
item_from position s text (grammar.const p q t offset h) e = let r = item_from p q t h e in ((ExternalConst, offset) ∷ r.0, (ap (λ l. plain (keyword_at Const offset) ∷ l) r.1.0, r.1.1))
item_from position s text (grammar.typedef q t offset h) e = let r = item_from grammar.InExternalDeclaration q t h e in ((ExternalTypedef, offset) ∷ r.0, (ap (λ l. plain (keyword_at Typedef offset) ∷ l) r.1.0, ap (with_item ExternalTypedef) r.1.1))
item_from position s text (grammar.extern q t offset h) e = let r = item_from grammar.InExternalDeclaration q t h e in ((ExternalExtern, offset) ∷ r.0, (ap (λ l. plain (keyword_at Extern offset) ∷ l) r.1.0, r.1.1))
item_from position s text (grammar.inline q t offset h) e = let r = item_from grammar.InExternalDeclaration q t h e in ((ExternalInline, offset) ∷ r.0, (ap (λ l. plain (keyword_at Inline offset) ∷ l) r.1.0, r.1.1))
item_from position s text (grammar.static_external q t offset h) e = let r = item_from grammar.InExternalDeclaration q t h e in ((ExternalStatic, offset) ∷ r.0, (ap (λ l. plain (keyword_at Static offset) ∷ l) r.1.0, ap (with_item ExternalStatic) r.1.1))
item_from position s text (grammar.static_local q t offset h) e = absurd (cc)

item_other : (w : ExternalWord) → six (external_keyword w) ≡ false
item_other ExternalConst = refl
item_other ExternalTypedef = refl
item_other ExternalExtern = refl
item_other ExternalStatic = refl
item_other ExternalInline = refl

item_no_head : (k : Keyword) (h : Head) → head_word k ≡ Some h → external_word k ≡ None
item_no_head Const h e = absurd (cc)
item_no_head Typedef h e = absurd (cc)
item_no_head Extern h e = absurd (cc)
item_no_head Static h e = absurd (cc)
item_no_head Inline h e = absurd (cc)
item_no_head other h e = refl

local_words : Words grammar.InLocalDeclaration local_word local_keyword with_local
local_words = record { back = local_back; self = local_self; sample = LocalConst; add = local_add; from = λ s text h. local_from grammar.InLocalDeclaration s text h refl; other = local_other; no_head = local_no_head }

item_words : Words grammar.InExternalDeclaration external_word external_keyword with_item
item_words = record { back = item_back; self = item_self; sample = ExternalConst; add = item_add; from = λ s text h. item_from grammar.InExternalDeclaration s text h refl; other = item_other; no_head = item_no_head }

word_found : {W : Type 0} (of : Keyword → Option W) (t : Placed) → is_word of t.token ≡ true → is_some (word_at of t) ≡ true
word_found of t e = let w = some_value (word_of of t.token) e in ap is_some (ap (option_map (λ v. (v, t.offset))) w.1)

pub roled-local_specifiers : (names : List (List ℕ)) (inner : Parsers) → AllFirm names inner → (depth : ℕ) → FirmBeside anything (SpecifiersEnd names grammar.InLocalDeclaration depth grammar.Alone) (stop_specifiers (is_word local_word)) (read_local_specifiers names inner depth)
roled-local_specifiers names inner all depth =
    record {
      both = rich_specified (word_at local_word) (is_word local_word) (spell_word local_keyword) (storage_of with_local) names inner depth grammar.Alone;
      is = roled-specified (around local_words) (word_found local_word) names inner depth grammar.Alone (λ d e count least. all.conditional (suc (suc depth)) count) (λ d count least. all.conditional (suc depth) count) (λ d counting least. all.specifiers (suc depth) counting);
      same = specified_same (word_at local_word) (is_word local_word) (spell_word local_keyword) (storage_of with_local) names inner depth grammar.Alone;
    }

pub roled-external_specifiers : (names : List (List ℕ)) (inner : Parsers) → AllFirm names inner → (depth : ℕ) → FirmBeside anything (SpecifiersEnd names grammar.InExternalDeclaration depth grammar.Alone) (stop_specifiers (is_word external_word)) (read_external_specifiers names inner depth)
roled-external_specifiers names inner all depth =
    record {
      both = rich_specified (word_at external_word) (is_word external_word) (spell_word external_keyword) (storage_of with_item) names inner depth grammar.Alone;
      is = roled-specified (around item_words) (word_found external_word) names inner depth grammar.Alone (λ d e count least. all.conditional (suc (suc depth)) count) (λ d count least. all.conditional (suc depth) count) (λ d counting least. all.specifiers (suc depth) counting);
      same = specified_same (word_at external_word) (is_word external_word) (spell_word external_keyword) (storage_of with_item) names inner depth grammar.Alone;
    }
