-- Parameters that begin with `void` keep roles after it.
use Rattle.std.proofs.Common.{◌≡◌, ℕ, List, ◌++◌, [], ◌∷◌, refl, ap, ◌∙◌, Bool, false, true, Some, sym, append_assoc, not, ◌&&◌, zero, suc, Option, None, subst, Ok, Err, inr}
use Rattle.std.specs.Prelude.{map}
use Rattle.std.specs.Option.{is_some}
use Rattle.c_token_spec.specs.declared.token.Keyword.{Keyword}
use Rattle.c_token_spec.specs.declared.token.Keyword.TheVariants.{Const, Void, Char, Signed, Unsigned, Short, Int, Long}
use Rattle.c_token_spec.specs.declared.token.Punctuator.TheVariants as punctuator
use Rattle.c_token_spec.specs.Lexical.{Word, Placed}
use Rattle.c_syntax_spec.specs.declared.IntegerType.{IntegerType}
use Rattle.c_syntax_spec.specs.Expression as tree
use Rattle.c_syntax_spec.specs.Unit as unit
use Rattle.c_parse_spec.specs.declared.Role.{Role}
use Rattle.c_parse_spec.specs.Leaves.{Leaf, keyword_at, plain, marks, roles}
use Rattle.c_parse_spec.specs.Expressions as part
use Rattle.c_parse_spec.specs.Units as grammar
use Rattle.exact_read.specs.Reading.{Parser, Outcome}
use Rattle.exact_read.specs.Grammar.{anything, Then, Map, read_then, read_map, bind}
use Rattle.c_parse_laws.specs.Classes.{is_mark}
use Rattle.c_parse_laws.specs.Parsers.{Parsers}
use Rattle.c_parse_laws.specs.Types.{no_storage, is_const, read_consts}
use Rattle.c_parse_laws.specs.Endings.{WordsAround, ending, Ending}
use Rattle.c_parse_laws.specs.TypeExactness.{AllFirm}
use Rattle.c_parse_laws.proofs.IntegerWords.{six}
use Rattle.c_parse_laws.proofs.Tokens.{leaves_of, unless_read}
use Rattle.c_parse_laws.proofs.Pointers.{stop_pointer}
use Rattle.c_parse_laws.proofs.TypeFirsts.{first_six}
use Rattle.c_parse_laws.specs.Parameters.{void_at, is_void, ParameterRest, parameter_of, read_parameter_rest, read_void_parameter, end_of_parameter}
use Rattle.c_parse_laws.proofs.Parameters.{RestText, Ended, rest_of, ParameterText, Opens, stop_rest, rest_stops, stop_parameter, rest_end, roled-rest}
use Rattle.exact_read.specs.Roles.{Roled}
use Rattle.exact_read.proofs.RoleBasics.{roled-same, roled-stop, roled-map}
use Rattle.exact_read.proofs.RoleThen.{roled-then}
use Rattle.c_parse_laws.proofs.Plain.{roled-consts}

-- what follows the `void`
pub record VoidText (names : List (List ℕ)) (depth offset : ℕ) (pair : Ended) (text : List Leaf) : Type 0 where
  pub consts : List ℕ
  pub right : List Leaf
  pub is : pair.0.specifiers ≡ void_at offset
  pub is_end : pair.1 ≡ WordsAround
  pub is_rest : RestText names depth (rest_of pair.0) right
  pub cut : text ≡ leaves_of (keyword_at Const) consts ++ right

-- `const` around
const_words : (xs : List ℕ) → part.Words part.Elsewhere no_storage (leaves_of (keyword_at Const) xs)
const_words [] = part.none part.Elsewhere
const_words (x ∷ xs) = part.const part.Elsewhere no_storage (leaves_of (keyword_at Const) xs) x (const_words xs)

words_const : (position : part.Position) (s : tree.Storage) (text : List Leaf) → part.Words position s text → position ≡ part.Elsewhere → (xs : List ℕ) × ((text ≡ leaves_of (keyword_at Const) xs) × (s ≡ no_storage))
words_const position s text (part.none p) e = ([], (refl, refl))
words_const position s text (part.const p q t offset h) e = let r = words_const p q t h e in (offset ∷ r.0, (ap (λ l. plain (keyword_at Const offset) ∷ l) r.1.0, r.1.1))
words_const position s text (part.typedef q t offset h) e = absurd (cc)
words_const position s text (part.extern q t offset h) e = absurd (cc)
words_const position s text (part.inline q t offset h) e = absurd (cc)
words_const position s text (part.static_external q t offset h) e = absurd (cc)
words_const position s text (part.static_local q t offset h) e = absurd (cc)

void_ending : (offset : ℕ) (xs : List ℕ) → WordsAround ≡ ending tree.Void (plain (keyword_at Void offset) ∷ []) (leaves_of (keyword_at Const) xs)
void_ending offset [] = refl
void_ending offset (x ∷ xs) = refl

pub void_parameter : (names : List (List ℕ)) (depth offset : ℕ) (pair : Ended) (text : List Leaf) → VoidText names depth offset pair text → ParameterText names depth pair (plain (keyword_at Void offset) ∷ text)
void_parameter names depth offset pair text v =
    record {
      left = plain (keyword_at Void offset) ∷ leaves_of (keyword_at Const) v.consts;
      right = v.right;
      are_specifiers = record { one = no_storage; two = no_storage; base = tree.Void; before = []; middle = plain (keyword_at Void offset) ∷ []; after = leaves_of (keyword_at Const) v.consts; words_before = part.none part.Elsewhere; is_base = part.void depth part.Alone offset; words_after = const_words v.consts; is = v.is; cut = refl; is_end = v.is_end ∙ void_ending offset v.consts };
      is_rest = v.is_rest;
      cut = ap (λ l. plain (keyword_at Void offset) ∷ l) v.cut;
    }

-- and back, where a parameter begins with `void`
abbrev pub first_void : List Leaf → Bool
first_void [] = false
first_void (leaf ∷ text) = is_void leaf.token.token

six_void : (w : Keyword) → six w ≡ true → is_void (Word w) ≡ false
six_void Char e = refl
six_void Signed e = refl
six_void Unsigned e = refl
six_void Short e = refl
six_void Int e = refl
six_void Long e = refl
six_void other e = absurd (cc)

integer_no_void : (type : IntegerType) (words : List (Keyword × ℕ)) (more : List Leaf) → part.integer_type_of (map (λ (w : Keyword × ℕ). w.0) words) ≡ Some type → first_void (map (λ (w : Keyword × ℕ). plain (keyword_at w.0 w.1)) words ++ more) ≡ true → ⊥
unfolding part.integer_type_of
integer_no_void type [] more e f = cc
integer_no_void type (w ∷ words) more e f = let h : false ≡ true = sym (six_void w.0 (first_six w.0 (map (λ (w : Keyword × ℕ). w.0) words) (ap is_some e))) ∙ f in cc

void_base : (names : List (List ℕ)) (depth : ℕ) (counting : part.Counting) (base : tree.TypeSpecifier) (middle more : List Leaf) → part.TypeSpecifier names depth counting base middle → first_void (middle ++ more) ≡ true → (offset : ℕ) × ((base ≡ tree.Void) × (middle ≡ plain (keyword_at Void offset) ∷ []))
void_base names depth counting base middle more (part.void d c offset) e = (offset, (refl, refl))
void_base names depth counting base middle more (part.integer_type d c type words h) e = absurd (integer_no_void type words more h e)
void_base names depth counting base middle more (part.typedef_name d c n h) e = absurd (cc)
void_base names depth counting base middle more (part.struct_tag d c n offset h) e = absurd (cc)
void_base names depth counting base middle more (part.struct d c tag ms name inside offset open_offset close h k) e = absurd (cc)
void_base names depth counting base middle more (part.enum_tag d c n offset h) e = absurd (cc)
void_base names depth counting base middle more (part.enum d c tag cs name inside end offset open_offset close h k) e = absurd (cc)

void_before : (xs : List ℕ) (more : List Leaf) → first_void (leaves_of (keyword_at Const) xs ++ more) ≡ true → xs ≡ []
void_before [] more e = refl
void_before (x ∷ xs) more e = absurd (cc)

pub record VoidBack (names : List (List ℕ)) (depth : ℕ) (pair : Ended) (text : List Leaf) : Type 0 where
  pub offset : ℕ
  pub right : List Leaf
  pub derives : VoidText names depth offset pair right
  pub cut : text ≡ plain (keyword_at Void offset) ∷ right

pub parameter_void : (names : List (List ℕ)) (depth : ℕ) (pair : Ended) (text : List Leaf) → ParameterText names depth pair text → first_void text ≡ true → VoidBack names depth pair text
parameter_void names depth pair text p e =
    let s = p.are_specifiers in
    let b = words_const part.Elsewhere s.one s.before s.words_before refl in
    let a = words_const part.Elsewhere s.two s.after s.words_after refl in
    let whole : text ≡ leaves_of (keyword_at Const) b.0 ++ ((s.middle ++ s.after) ++ p.right) = p.cut ∙ ap (λ l. l ++ p.right) (s.cut ∙ ap (λ l. l ++ (s.middle ++ s.after)) b.1.0) ∙ append_assoc (leaves_of (keyword_at Const) b.0) (s.middle ++ s.after) p.right in
    let nothing_before : b.0 ≡ [] = void_before b.0 ((s.middle ++ s.after) ++ p.right) (ap first_void (sym whole) ∙ e) in
    let cut : text ≡ s.middle ++ (s.after ++ p.right) = whole ∙ ap (λ (xs : List ℕ). leaves_of (keyword_at Const) xs ++ ((s.middle ++ s.after) ++ p.right)) nothing_before ∙ append_assoc s.middle s.after p.right in
    let v = void_base names depth part.Alone s.base s.middle (s.after ++ p.right) s.is_base (ap first_void (sym cut) ∙ e) in
    let before_none : s.before ≡ [] = b.1.0 ∙ ap (leaves_of (keyword_at Const)) nothing_before in
    record {
      offset = v.0;
      right = s.after ++ p.right;
      derives = record {
        consts = a.0;
        right = p.right;
        is = s.is ∙ same_specified b.1.1 a.1.1 v.1.0 before_none v.1.1;
        is_end = s.is_end ∙ same_ending v.0 a.0 v.1.0 v.1.1 a.1.0;
        is_rest = p.is_rest;
        cut = ap (λ l. l ++ p.right) a.1.0;
      };
      cut = cut ∙ ap (λ l. l ++ (s.after ++ p.right)) v.1.1;
    }
  where
    same_specified : {one two : tree.Storage} {base : tree.TypeSpecifier} {before middle : List Leaf} {offset : ℕ} → one ≡ no_storage → two ≡ no_storage → base ≡ tree.Void → before ≡ [] → middle ≡ plain (keyword_at Void offset) ∷ [] → tree.Specified (part.both one two) base (Rattle.c_parse_spec.specs.Leaves.first_offset (before ++ middle)) ≡ void_at offset
    same_specified a b c d f = rw (a, b, c, d, f) refl

    same_ending : {base : tree.TypeSpecifier} {middle after : List Leaf} (offset : ℕ) (xs : List ℕ) → base ≡ tree.Void → middle ≡ plain (keyword_at Void offset) ∷ [] → after ≡ leaves_of (keyword_at Const) xs → ending base middle after ≡ WordsAround
    same_ending offset xs a b c = rw (a, b, c) (sym (void_ending offset xs))

-- they keep roles
abbrev entry_after : List ℕ → Placed → Bool
entry_after xs t = unless_read xs anything t && not (is_const t.token)

entry_opens : (xs : List ℕ) → Opens (entry_after xs)
entry_opens [] = record { at_star = λ p. refl; at_name = λ n. refl; at_bracket = λ p. refl }
entry_opens (x ∷ xs) = record { at_star = λ p. refl; at_name = λ n. refl; at_bracket = λ p. refl }

and_true : (b : Bool) → (true && b) ≡ (b && true)
and_true true = refl
and_true false = refl

entry_same : (xs : List ℕ) (t : Placed) → entry_after xs t ≡ (not (is_const t.token) && not false)
entry_same [] t = and_true (not (is_const t.token))
entry_same (x ∷ xs) t = and_true (not (is_const t.token))

rest_same : (names : List (List ℕ)) (one two : Placed → Bool) (r : ParameterRest) (t : Placed) → one t ≡ two t → stop_rest names one r t ≡ stop_rest names two r t
rest_same names one two (n, (name, d)) t e = by_dimensions d (by_name name (by_pointer n e))
  where
    by_pointer : (n : ℕ) → one t ≡ two t → stop_pointer one n t ≡ stop_pointer two n t
    by_pointer zero e = ap (λ b. b && not (is_mark punctuator.Star t.token)) e
    by_pointer (suc m) e = refl

    by_name : (name : Option tree.Name) → stop_pointer one n t ≡ stop_pointer two n t → stop_rest names one (n, (name, (false, tree.no_expressions))) t ≡ stop_rest names two (n, (name, (false, tree.no_expressions))) t
    by_name None e = ap (λ b. (b && not (Rattle.c_parse_laws.specs.Types.is_plain_name names t.token)) && not (is_mark punctuator.LeftBracket t.token)) e
    by_name (Some m) e = refl

    by_dimensions : (d : Bool × tree.Expressions) → stop_rest names one (n, (name, (false, tree.no_expressions))) t ≡ stop_rest names two (n, (name, (false, tree.no_expressions))) t → stop_rest names one (n, (name, d)) t ≡ stop_rest names two (n, (name, d)) t
    by_dimensions (true, lengths) e = refl
    by_dimensions (false, tree.no_expressions) e = e
    by_dimensions (false, tree.expressions x rest) e = refl

abbrev made_void : (offset : ℕ) → List ℕ × ParameterRest → Ended
made_void offset made = (parameter_of (void_at offset) made.1, WordsAround)

abbrev RawVoid : (names : List (List ℕ)) → (depth : ℕ) → List ℕ × ParameterRest → List Leaf → Type 0
RawVoid names depth = Then (λ (xs : List ℕ) text. text ≡ leaves_of (keyword_at Const) xs) (λ _. RestText names depth)

text_void : (names : List (List ℕ)) (depth offset : ℕ) (pair : Ended) (text : List Leaf) → Map (made_void offset) (RawVoid names depth) pair text → VoidText names depth offset pair text
text_void names depth offset pair text m =
    let t = m.derives in
    subst (λ (p : Ended). VoidText names depth offset p text) (sym m.is) (record { consts = m.inner.0; right = t.right; is = refl; is_end = refl; is_rest = t.second; cut = t.cut ∙ ap (λ l. l ++ t.right) t.first })

void_text : (names : List (List ℕ)) (depth offset : ℕ) (pair : Ended) (text : List Leaf) → VoidText names depth offset pair text → Map (made_void offset) (RawVoid names depth) pair text
void_text names depth offset pair text v =
    record { inner = (v.consts, rest_of pair.0); is = same v.is v.is_end; derives = record { left = leaves_of (keyword_at Const) v.consts; right = v.right; cut = v.cut; first = refl; second = v.is_rest } }
  where
    same : pair.0.specifiers ≡ void_at offset → pair.1 ≡ WordsAround → ◌≡◌ {A = Ended} pair (parameter_of (void_at offset) (rest_of pair.0), WordsAround)
    same a b = by_parts a b
      where
        by_parts : {s : tree.Specifiers} {e : Ending} → s ≡ void_at offset → e ≡ WordsAround → ◌≡◌ {A = Ended} (parameter_of s (rest_of pair.0), e) (parameter_of (void_at offset) (rest_of pair.0), WordsAround)
        by_parts p q = rw (p, q) refl

abbrev pub rich_void : (names : List (List ℕ)) → Parsers → (depth offset : ℕ) → Parser Placed Role Ended
rich_void names inner depth offset = read_map (made_void offset) (read_then read_consts (λ _. read_parameter_rest names inner depth))

pub void_same : (names : List (List ℕ)) (inner : Parsers) (depth offset : ℕ) (tokens : List Placed) → read_void_parameter names inner depth offset tokens ≡ read_map (λ (pair : Ended). pair.0) (rich_void names inner depth offset) tokens
void_same names inner depth offset tokens = by_made (read_then read_consts (λ _. read_parameter_rest names inner depth) tokens)
  where
    by_made : (o : Outcome Placed Role (List ℕ × ParameterRest)) → bind {Y = unit.Parameter} o (λ made r. Ok (parameter_of (void_at offset) made.1, r)) ≡ bind {Y = unit.Parameter} (bind {Y = Ended} o (λ made r. Ok (made_void offset made, r))) (λ pair r. Ok (pair.0, r))
    by_made (Ok (made, rest)) = refl
    by_made (Err fault) = refl

pub roled-void : (names : List (List ℕ)) (inner : Parsers) → AllFirm names inner → (depth offset : ℕ) → Roled marks roles anything (VoidText names depth offset) (stop_parameter names) (λ pair. end_of_parameter pair.0) ⊥ (rich_void names inner depth offset)
roled-void names inner all depth offset =
    roled-same anything (VoidText names depth offset) (rich_void names inner depth offset) (λ t h. h) (text_void names depth offset) (void_text names depth offset) (λ tokens. refl)
    (roled-map (made_void offset) (stop_parameter names) (λ pair. end_of_parameter pair.0) (λ made. refl) (λ made. inr refl)
    (roled-stop (λ (made : List ℕ × ParameterRest) t. stop_rest names (λ t. not (is_const t.token) && not false) made.1 t) (λ made text h t. rest_same names (entry_after made.0) (λ t. not (is_const t.token) && not false) made.1 t (entry_same made.0 t))
    (roled-then {stop2 = λ xs r. stop_rest names (entry_after xs) r} {ending2 = λ xs r. rest_end r} (roled-consts anything) (λ xs. roled-rest names inner all depth (entry_after xs) (entry_opens xs))
    record {
      ends = λ xs r left right rest one two stops. rest_stops names depth (entry_after xs) (entry_opens xs) r right rest two stops;
      goes_on = λ xs left one. ((0, (None, (false, tree.no_expressions))), [], record { left = []; right = []; cut = refl; first = part.none; second = record { left = []; right = []; cut = refl; first = grammar.none; second = part.given depth part.Alone tree.no_expressions [] (part.no_lengths depth part.Alone) } });
    })))
