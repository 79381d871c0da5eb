-- What begins specifiers and types: each token that can, and none of them has a role.
use Rattle.std.proofs.Common.{ℕ, List, ◌∷◌, ◌≡◌, [], Some, ◌++◌, suc, true, None, refl, ap, sym, subst, Bool, false, cond}
use Rattle.std.specs.Prelude.{map}
use Rattle.c_token_spec.specs.declared.token.Keyword.{Keyword}
use Rattle.c_token_spec.specs.declared.token.Keyword.TheVariants.{Const, Void, Char, Signed, Unsigned, Short, Int, Long, Struct, Enum, Typedef, Extern, Inline, Static}
use Rattle.c_token_spec.specs.declared.token.Punctuator.TheVariants as punctuator
use Rattle.c_token_spec.specs.Lexical.{Placed, Token, Name as name_token, Word, Number as number_token, Character as character_token, Mark}
use Rattle.c_syntax_spec.specs.declared.IntegerType.{IntegerType}
use Rattle.c_syntax_spec.specs.declared.IntegerType.TheVariants as integer
use Rattle.c_syntax_spec.specs.Expression as tree
use Rattle.c_parse_spec.specs.declared.Role.TheVariants.{Nothing}
use Rattle.c_parse_spec.specs.Leaves.{Leaf, plain, keyword_at, opens, mark, named, marks, roles}
use Rattle.c_parse_spec.specs.Expressions as grammar
use Rattle.exact_read.proofs.RoleBegins.{Begins, Silent}
use Rattle.c_parse_laws.specs.Classes.{begins_type_word, begins_type}
use Rattle.c_parse_laws.specs.Types.{no_storage, plain_name_of, plain_name_at, is_plain_name}
use Rattle.std.specs.Option.{is_some}
use Rattle.c_parse_laws.specs.Beside.{WithEnd}
use Rattle.c_parse_laws.specs.Endings.{SpecifiersEnd}
use Rattle.c_parse_laws.proofs.Fresh.{fresh, fresh_is}
use Rattle.c_parse_laws.proofs.Ended.{with_end, specified}
use Rattle.c_parse_laws.proofs.TypeFirsts.{base_first, specifiers_first}
use Rattle.c_parse_laws.specs.Exactness.{TypeRoles, BeginsTypeName}

-- a type specifier that begins with a token
pub record TypeSpecifierBegins (names : List (List ℕ)) (depth : ℕ) (counting : grammar.Counting) (t : Placed) : Type 0 where
  pub base : tree.TypeSpecifier
  pub more : List Leaf
  pub derives : grammar.TypeSpecifier names depth counting base (plain t ∷ more)

integer_begins : (names : List (List ℕ)) (depth offset : ℕ) (counting : grammar.Counting) (w : Keyword) (type : IntegerType) → grammar.integer_type_of (w ∷ []) ≡ Some type → TypeSpecifierBegins names depth counting (keyword_at w offset)
integer_begins names depth offset counting w type e = record { base = tree.Integer type; more = []; derives = grammar.integer_type depth counting type ((w, offset) ∷ []) e }

-- specifiers that begin with a token
pub record SpecifiersBegin (names : List (List ℕ)) (depth : ℕ) (counting : grammar.Counting) (t : Placed) : Type 0 where
  pub specifiers : tree.Specifiers
  pub more : List Leaf
  pub derives : grammar.Specifiers names grammar.Elsewhere depth counting specifiers (plain t ∷ more)

by_base : (names : List (List ℕ)) (depth : ℕ) (counting : grammar.Counting) (t : Placed) → TypeSpecifierBegins names depth counting t → SpecifiersBegin names depth counting t
by_base names depth counting t b =
    record {
      specifiers = _;
      more = b.more ++ [];
      derives = grammar.specifiers grammar.Elsewhere depth counting no_storage no_storage b.base [] (plain t ∷ b.more) [] (grammar.none grammar.Elsewhere) b.derives (grammar.none grammar.Elsewhere);
    }

word_begins : (names : List (List ℕ)) (depth offset : ℕ) (counting : grammar.Counting) (w : Keyword) → begins_type_word w ≡ true → SpecifiersBegin names depth counting (keyword_at w offset)
unfolding grammar.integer_type_of
word_begins names depth offset counting Const e =
    record {
      specifiers = _;
      more = plain (keyword_at Void 0) ∷ [];
      derives = grammar.specifiers grammar.Elsewhere depth counting no_storage no_storage tree.Void (plain (keyword_at Const offset) ∷ []) (plain (keyword_at Void 0) ∷ []) [] (grammar.const grammar.Elsewhere no_storage [] offset (grammar.none grammar.Elsewhere)) (grammar.void depth counting 0) (grammar.none grammar.Elsewhere);
    }
word_begins names depth offset counting Void e = by_base names depth counting (keyword_at Void offset) (record { base = tree.Void; more = []; derives = grammar.void depth counting offset })
word_begins names depth offset counting Char e = by_base names depth counting (keyword_at Char offset) (integer_begins names depth offset counting Char integer.Char refl)
word_begins names depth offset counting Signed e = by_base names depth counting (keyword_at Signed offset) (integer_begins names depth offset counting Signed integer.Int refl)
word_begins names depth offset counting Unsigned e = by_base names depth counting (keyword_at Unsigned offset) (integer_begins names depth offset counting Unsigned integer.UnsignedInt refl)
word_begins names depth offset counting Short e = by_base names depth counting (keyword_at Short offset) (integer_begins names depth offset counting Short integer.Short refl)
word_begins names depth offset counting Int e = by_base names depth counting (keyword_at Int offset) (integer_begins names depth offset counting Int integer.Int refl)
word_begins names depth offset counting Long e = by_base names depth counting (keyword_at Long offset) (integer_begins names depth offset counting Long integer.Long refl)
word_begins names depth offset counting Struct e =
    by_base names depth counting (keyword_at Struct offset) (record { base = tree.Struct None tree.no_members; more = opens (suc depth) (mark punctuator.LeftBrace 0) ∷ plain (mark punctuator.RightBrace 0) ∷ []; derives = grammar.struct depth counting None tree.no_members [] [] offset 0 0 grammar.none (grammar.no_members (suc depth) counting) })
word_begins names depth offset counting Enum e =
    by_base names depth counting (keyword_at Enum offset) (record { base = tree.EnumTag (fresh names); more = plain (named (fresh names)) ∷ []; derives = grammar.enum_tag depth counting (fresh names) offset (fresh_is names) })
word_begins names depth offset counting other e = absurd (cc)

pub begin_specifiers : (names : List (List ℕ)) (depth : ℕ) (counting : grammar.Counting) (t : Placed) → begins_type names t.token ≡ true → SpecifiersBegin names depth counting t
begin_specifiers names depth counting t e = by_token t.token t.offset e
  where
    by_token : (k : Token) (o : ℕ) → begins_type names k ≡ true → SpecifiersBegin names depth counting (record { token = k; offset = o })
    by_token (Word w) o e = word_begins names depth o counting w e
    by_token (name_token spelling) o e =
        let n : tree.Name = record { spelling = spelling; offset = o } in
        by_base names depth counting (named n) (record { base = tree.TypedefName n; more = []; derives = grammar.typedef_name depth counting n e })
    by_token (number_token value type) o e = absurd (cc)
    by_token (character_token value) o e = absurd (cc)
    by_token (Mark p) o e = absurd (cc)

pub ended_begins : (names : List (List ℕ)) (depth : ℕ) (counting : grammar.Counting) (t : Placed) → begins_type names t.token ≡ true → Begins marks (WithEnd (SpecifiersEnd names grammar.Elsewhere depth counting)) t
ended_begins names depth counting t e =
    let s = begin_specifiers names depth counting t e in
    record { value = s.specifiers; first = plain t; more = s.more; derives = with_end names grammar.Elsewhere depth counting s.specifiers (plain t ∷ s.more) s.derives; is = refl }

-- what begins them has no role
pub words_silent : (position : grammar.Position) (storage : tree.Storage) (text : List Leaf) → grammar.Words position storage text → (u : Leaf) (more : List Leaf) → text ≡ u ∷ more → u.role ≡ Nothing
words_silent position storage text (grammar.none p) u more e = absurd (cc)
words_silent position storage text (grammar.const p s t offset h) u more e = let head : plain (keyword_at Const offset) ≡ u = cc in ap (λ (l : Leaf). l.role) (sym head)
words_silent position storage text (grammar.typedef s t offset h) u more e = let head : plain (keyword_at Typedef offset) ≡ u = cc in ap (λ (l : Leaf). l.role) (sym head)
words_silent position storage text (grammar.extern s t offset h) u more e = let head : plain (keyword_at Extern offset) ≡ u = cc in ap (λ (l : Leaf). l.role) (sym head)
words_silent position storage text (grammar.inline s t offset h) u more e = let head : plain (keyword_at Inline offset) ≡ u = cc in ap (λ (l : Leaf). l.role) (sym head)
words_silent position storage text (grammar.static_external s t offset h) u more e = let head : plain (keyword_at Static offset) ≡ u = cc in ap (λ (l : Leaf). l.role) (sym head)
words_silent position storage text (grammar.static_local s t offset h) u more e = let head : plain (keyword_at Static offset) ≡ u = cc in ap (λ (l : Leaf). l.role) (sym head)

integers_silent : (words : List (Keyword × ℕ)) (u : Leaf) (more : List Leaf) → map (λ (w : Keyword × ℕ). plain (keyword_at w.0 w.1)) words ≡ u ∷ more → u.role ≡ Nothing
integers_silent [] u more e = absurd (cc)
integers_silent (w ∷ words) u more e = let head : plain (keyword_at w.0 w.1) ≡ u = cc in ap (λ (l : Leaf). l.role) (sym head)

base_silent : (names : List (List ℕ)) (depth : ℕ) (counting : grammar.Counting) (base : tree.TypeSpecifier) (text : List Leaf) → grammar.TypeSpecifier names depth counting base text → (u : Leaf) (more : List Leaf) → text ≡ u ∷ more → u.role ≡ Nothing
base_silent names depth counting base text (grammar.void d c offset) u more e = let head : plain (keyword_at Void offset) ≡ u = cc in ap (λ (l : Leaf). l.role) (sym head)
base_silent names depth counting base text (grammar.integer_type d c type words h) u more e = integers_silent words u more e
base_silent names depth counting base text (grammar.typedef_name d c n h) u more e = let head : plain (named n) ≡ u = cc in ap (λ (l : Leaf). l.role) (sym head)
base_silent names depth counting base text (grammar.struct_tag d c n offset h) u more e = let head : plain (keyword_at Struct offset) ≡ u = cc in ap (λ (l : Leaf). l.role) (sym head)
base_silent names depth counting base text (grammar.struct d c tag ms name inside offset open_offset close h k) u more e = let head : plain (keyword_at Struct offset) ≡ u = cc in ap (λ (l : Leaf). l.role) (sym head)
base_silent names depth counting base text (grammar.enum_tag d c n offset h) u more e = let head : plain (keyword_at Enum offset) ≡ u = cc in ap (λ (l : Leaf). l.role) (sym head)
base_silent names depth counting base text (grammar.enum d c tag cs name inside end offset open_offset close h k) u more e = let head : plain (keyword_at Enum offset) ≡ u = cc in ap (λ (l : Leaf). l.role) (sym head)

base_some : (names : List (List ℕ)) (depth : ℕ) (counting : grammar.Counting) (base : tree.TypeSpecifier) → grammar.TypeSpecifier names depth counting base [] → ⊥
base_some names depth counting base h = let f = base_first names depth counting base [] h in let e : [] ≡ f.leaf ∷ f.more = f.cut in cc

pub specifiers_silent : (names : List (List ℕ)) (position : grammar.Position) (depth : ℕ) (counting : grammar.Counting) (s : tree.Specifiers) (text : List Leaf) → grammar.Specifiers names position depth counting s text → (u : Leaf) (more : List Leaf) → text ≡ u ∷ more → u.role ≡ Nothing
specifiers_silent names position depth counting s text (grammar.specifiers p d c one two base before middle after h k l) u more e = by_before before h e
  where
    by_middle : (middle : List Leaf) → grammar.TypeSpecifier names d c base middle → middle ++ after ≡ u ∷ more → u.role ≡ Nothing
    by_middle [] k e = absurd (base_some names d c base k)
    by_middle (v ∷ middle) k e = let head : v ≡ u = cc in subst (λ (m : Leaf). m.role ≡ Nothing) head (base_silent names d c base (v ∷ middle) k v middle refl)

    by_before : (before : List Leaf) → grammar.Words p one before → before ++ (middle ++ after) ≡ u ∷ more → u.role ≡ Nothing
    by_before [] h e = by_middle middle k e
    by_before (v ∷ before) h e = let head : v ≡ u = cc in subst (λ (m : Leaf). m.role ≡ Nothing) head (words_silent p one (v ∷ before) h v before refl)

pub ended_silent : (names : List (List ℕ)) (position : grammar.Position) (depth : ℕ) (counting : grammar.Counting) → Silent marks roles (WithEnd (SpecifiersEnd names position depth counting))
ended_silent names position depth counting s u more w = specifiers_silent names position depth counting s (u ∷ more) (specified names position depth counting s w.end (u ∷ more) w.derives) u more refl

pub ended_some : (names : List (List ℕ)) (depth : ℕ) (counting : grammar.Counting) (s : tree.Specifiers) → WithEnd (SpecifiersEnd names grammar.Elsewhere depth counting) s [] → ⊥
ended_some names depth counting s w = let f = specifiers_first names depth counting s w.end [] w.derives in let e : [] ≡ f.leaf ∷ f.more = f.cut in cc

-- what expressions ask of types
pub type_roles : (names : List (List ℕ)) → TypeRoles names
type_roles names = record { begins = begins; silent = λ depth counting type u more h. silent depth counting type (u ∷ more) h u more refl }
  where
    begins : (depth : ℕ) (counting : grammar.Counting) (t : Placed) → begins_type names t.token ≡ true → BeginsTypeName names depth counting t
    begins depth counting t e =
        let s = begin_specifiers names depth counting t e in
        record { type = tree.Pointers s.specifiers 0; first = plain t; more = s.more ++ []; derives = grammar.type_name depth counting s.specifiers 0 (plain t ∷ s.more) [] s.derives grammar.none; is = refl }

    silent : (depth : ℕ) (counting : grammar.Counting) (type : tree.TypeName) (text : List Leaf) → grammar.TypeName names depth counting type text → (u : Leaf) (more : List Leaf) → text ≡ u ∷ more → u.role ≡ Nothing
    silent depth counting type text (grammar.type_name d c s n left stars h k) u more e = by_left left h e
      where
        by_left : (left : List Leaf) → grammar.Specifiers names grammar.Elsewhere d c s left → left ++ stars ≡ u ∷ more → u.role ≡ Nothing
        by_left [] h e = absurd (ended_some names d c s (with_end names grammar.Elsewhere d c s [] h))
        by_left (v ∷ left) h e = let head : v ≡ u = cc in subst (λ (m : Leaf). m.role ≡ Nothing) head (specifiers_silent names grammar.Elsewhere d c s (v ∷ left) h v left refl)

-- a name that is none of a type
pub plain_found : (names : List (List ℕ)) (t : Placed) → is_plain_name names t.token ≡ true → (n : tree.Name) × (plain_name_at names t ≡ Some n)
plain_found names t e = by_token t.token t.offset e
  where
    by_token : (k : Token) (o : ℕ) → is_plain_name names k ≡ true → (n : tree.Name) × (plain_name_of names k o ≡ Some n)
    by_token (name_token spelling) o e = by_name (grammar.is_typedef_name names spelling) e
      where
        by_name : (b : Bool) → is_some {T = tree.Name} (cond b None (Some (record { spelling = spelling; offset = 0 }))) ≡ true → (n : tree.Name) × (cond b None (Some (record { spelling = spelling; offset = o })) ≡ Some n)
        by_name true e = absurd (cc)
        by_name false e = (record { spelling = spelling; offset = o }, refl)
    by_token (Word w) o e = absurd (cc)
    by_token (number_token value type) o e = absurd (cc)
    by_token (character_token value) o e = absurd (cc)
    by_token (Mark p) o e = absurd (cc)
