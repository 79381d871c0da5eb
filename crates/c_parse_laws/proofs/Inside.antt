-- What is in the brackets of a function keeps roles.
use Rattle.std.proofs.Common.{◌≡◌, Bool, true, false, refl, not, ℕ, List, [], ◌∷◌, ◌++◌, ap, sym, ◌∙◌, subst, append_assoc, Some, None, cond, ◌⊎◌, inl, inr, Option, suc, IsTrue, ◌&&◌}
use Rattle.std.specs.Prelude.{map}
use Rattle.c_token_spec.specs.declared.token.Keyword.TheVariants.{Void, Const}
use Rattle.c_token_spec.specs.declared.token.Punctuator.TheVariants as punctuator
use Rattle.c_token_spec.specs.Lexical.{Token, Name as name_token, Word, Number as number_token, Character as character_token, Mark, Placed}
use Rattle.c_syntax_spec.specs.Expression as tree
use Rattle.c_syntax_spec.specs.Unit as unit
use Rattle.c_parse_spec.specs.declared.Role.{Role}
use Rattle.c_parse_spec.specs.declared.Role.TheVariants.{Nothing, DeclaredName}
use Rattle.c_parse_spec.specs.Leaves.{Leaf, plain, expected, mark, keyword_at, named, opens, marks, roles}
use Rattle.c_parse_spec.specs.Expressions as part
use Rattle.c_parse_spec.specs.Units as grammar
use Rattle.exact_read.specs.Reading.{plains, Stops, Parser}
use Rattle.exact_read.specs.Grammar.{some, One, Map, Or, first, second, none, read_map, anything, read_or}
use Rattle.exact_read.proofs.Parts.{both}
use Rattle.c_parse_laws.specs.Classes.{is_mark, mark_offset}
use Rattle.c_parse_laws.specs.Parsers.{token, Parsers, choose}
use Rattle.c_parse_laws.proofs.Marks.{one-mark, mark-one, one_first, mark-some, roled-mark, roled-opened, roled-choose, roled-choice, after_begins, after_silent, map_begins, map_silent}
use Rattle.c_parse_laws.specs.TypeExactness.{AllFirm}
use Rattle.c_parse_laws.proofs.Tokens.{leaves_of}
use Rattle.c_parse_laws.proofs.TypeFirsts.{specifiers_first}
use Rattle.c_parse_laws.specs.Declarations.{last_of, read_list_from}
use Rattle.c_parse_laws.proofs.ListFrom.{listed, OthersText, list_split, roled-list_from}
use Rattle.c_parse_laws.specs.Parameters.{is_void, void_offset, end_of_parameter, read_parameter, read_void_parameter, read_parameters}
use Rattle.c_parse_laws.specs.GlobalTexts.{ParametersText}
use Rattle.c_parse_laws.proofs.Mapped.{list-mapped}
use Rattle.c_parse_laws.proofs.Parameters.{Ended, ParameterText, rich_parameter, parameter_same, roled-parameter}
use Rattle.c_parse_laws.proofs.Starting.{Starting, AskedFirst, asked_first, roled-starting, asked_nothing}
use Rattle.c_parse_laws.proofs.Voids.{void_parameter, VoidText, VoidBack, first_void, parameter_void, roled-void, rich_void, void_same}
use Rattle.c_parse_laws.proofs.Functions.{tree_of, end_of, VoidList, no_close, listed_list, AloneText, InsideText, plain_grammar, PlainList, AfterVoid, list_listed, some_pair, no_void, lists}
use Rattle.exact_read.specs.Roles.{IsAsked}
use Rattle.exact_read.specs.Expected.{Next, Reported}
use Rattle.exact_read.proofs.RoleBasics.{Meets, roled-same, roled-enter}
use Rattle.exact_read.proofs.RoleBegins.{Silent, Begins, begun_enters, silent_next}
use Rattle.c_parse_laws.specs.Firm.{quiet, Firm}
use Rattle.c_parse_laws.proofs.Firm.{firm-map}
use Rattle.c_parse_laws.proofs.Listed.{begins_meet}
use Rattle.c_parse_laws.proofs.TypeBegins.{specifiers_silent}
use Rattle.c_parse_laws.proofs.Fresh.{fresh, fresh_is}
use Rattle.c_parse_laws.proofs.Ended.{specified}
use Rattle.exact_read.proofs.RoleOr.{Chooses, roled-or}

not_true : (b : Bool) → not b ≡ true → b ≡ false
not_true true e = absurd (cc)
not_true false e = refl

void_grammar : (names : List (List ℕ)) (depth offset : ℕ) (list : List Ended) (text : List Leaf) → Starting no_close (VoidList names depth offset) list text → ParametersText names depth (map tree_of list) (plain (keyword_at Void offset) ∷ text)
void_grammar names depth offset list text s =
    let r = s.derives in
    let l = listed (ParameterText names depth) end_of r.head r.rest (plain (keyword_at Void offset) ∷ r.left) r.right (void_parameter names depth offset r.head r.left r.is_head) r.are_rest in
    let g = listed_list names depth r.head r.rest (end_of (last_of r.head r.rest)) (plain (keyword_at Void offset) ∷ (r.left ++ r.right)) l in
    record {
      role = end_of (last_of r.head r.rest);
      inside = plain (keyword_at Void offset) ∷ (r.left ++ r.right);
      offset = r.offset;
      derives = grammar.some depth (map tree_of list) (end_of (last_of r.head r.rest)) (plain (keyword_at Void offset) ∷ (r.left ++ r.right)) (subst (λ (v : List Ended). grammar.ParameterList names depth (map tree_of v) (end_of (last_of r.head r.rest)) (plain (keyword_at Void offset) ∷ (r.left ++ r.right))) (sym r.is) g) (by_inside (r.left ++ r.right) refl);
      cut = ap (λ l. plain (keyword_at Void offset) ∷ l) (r.cut ∙ sym (append_assoc r.left r.right (expected (end_of (last_of r.head r.rest)) (mark punctuator.RightParenthesis r.offset) ∷ [])));
    }
  where
    by_inside : (w : List Leaf) → s.derives.left ++ s.derives.right ≡ w → grammar.is_void (plain (keyword_at Void offset) ∷ (s.derives.left ++ s.derives.right)) ≡ false
    by_inside [] e =
        let r = s.derives in
        let close = expected (end_of (last_of r.head r.rest)) (mark punctuator.RightParenthesis r.offset) in
        let here : close ∷ [] ≡ s.leaf ∷ s.more = ap (λ l. l ++ close ∷ []) (sym e) ∙ append_assoc r.left r.right (close ∷ []) ∙ sym r.cut ∙ s.cut in
        let same : close ≡ s.leaf = cc in
        absurd (let bad : false ≡ true = ap (λ (v : Leaf). no_close v.token.token) same ∙ s.passes in cc)
    by_inside (u ∷ o) e = ap (λ l. grammar.is_void (plain (keyword_at Void offset) ∷ l)) e

inside_grammar : (names : List (List ℕ)) (depth : ℕ) (list : List unit.Parameter) (text : List Leaf) → InsideText names depth list text → ParametersText names depth list text
inside_grammar names depth list text (first m) = record { role = Nothing; inside = []; offset = m.inner; derives = subst (λ (v : List unit.Parameter). grammar.Parameters names depth v Nothing []) (sym m.is) (grammar.empty depth); cut = one-mark punctuator.RightParenthesis plain m.inner text m.derives }
inside_grammar names depth list text (second (first b)) = subst (λ l. ParametersText names depth list l) (sym (b.cut ∙ ap (λ l. l ++ b.right) (void_leaf b.first b.left b.is_first))) (by_way b.right b.is_second)
  where
    void_token : (k : Token) (o offset : ℕ) → cond (is_void k) (Some o) None ≡ Some offset → record { token = k; offset = o } ≡ keyword_at Void offset
    void_token (Word Void) o offset e = let same : o ≡ offset = cc in ap (keyword_at Void) same
    void_token (Word other) o offset e = absurd (cc)
    void_token (name_token spelling) o offset e = absurd (cc)
    void_token (number_token value type) o offset e = absurd (cc)
    void_token (character_token value) o offset e = absurd (cc)
    void_token (Mark p) o offset e = absurd (cc)

    void_leaf : (offset : ℕ) (left : List Leaf) → One plain void_offset offset left → left ≡ plain (keyword_at Void offset) ∷ []
    void_leaf offset left o = o.cut ∙ ap (λ t. plain t ∷ []) (void_token o.token.token o.token.offset offset o.is)

    by_way : (right : List Leaf) → Or AloneText (Map (map tree_of) (Starting no_close (VoidList names depth b.first))) list right → ParametersText names depth list (plain (keyword_at Void b.first) ∷ right)
    by_way right (first m) = record { role = DeclaredName; inside = plain (keyword_at Void b.first) ∷ []; offset = m.inner; derives = subst (λ (v : List unit.Parameter). grammar.Parameters names depth v DeclaredName (plain (keyword_at Void b.first) ∷ [])) (sym m.is) (grammar.void depth b.first); cut = ap (λ l. plain (keyword_at Void b.first) ∷ l) (one-mark punctuator.RightParenthesis (expected DeclaredName) m.inner right m.derives) }
    by_way right (second m) = subst (λ (v : List unit.Parameter). ParametersText names depth v (plain (keyword_at Void b.first) ∷ right)) (sym m.is) (void_grammar names depth b.first m.inner right m.derives)
inside_grammar names depth list text (second (second m)) =
    let s = m.derives in
    subst (λ (v : List unit.Parameter). ParametersText names depth v text) (sym m.is) (plain_grammar names depth m.inner text s.derives s.leaf s.more s.cut (not_true (is_void s.leaf.token.token) s.passes))

-- and back: what follows a `void` begins with no `)`
abbrev NoneOrNoClose : List Leaf → Type 0
NoneOrNoClose text = (text ≡ []) ⊎ ((u : Leaf) × (o : List Leaf) × (text ≡ u ∷ o) × (no_close u.token.token ≡ true))

then_first : (left right : List Leaf) → NoneOrNoClose left → NoneOrNoClose right → NoneOrNoClose (left ++ right)
then_first left right (inl e) (inl f) = inl (ap (λ l. l ++ right) e ∙ f)
then_first left right (inl e) (inr r) = inr (r.0, r.1, ap (λ l. l ++ right) e ∙ r.2, r.3)
then_first left right (inr l) b = inr (l.0, l.1 ++ right, ap (λ t. t ++ right) l.2, l.3)

consts_first : (xs : List ℕ) → NoneOrNoClose (leaves_of (keyword_at Const) xs)
consts_first [] = inl refl
consts_first (x ∷ xs) = inr (plain (keyword_at Const x), leaves_of (keyword_at Const) xs, refl, refl)

pointer_first : (n : ℕ) (text : List Leaf) → part.Pointer n text → NoneOrNoClose text
pointer_first n text part.none = inl refl
pointer_first n text (part.star m offset consts t h k) = inr (plain (mark punctuator.Star offset), consts ++ t, refl, refl)

name_first : (names : List (List ℕ)) (n : Option tree.Name) (text : List Leaf) → grammar.ParameterName names n text → NoneOrNoClose text
name_first names n text grammar.none = inl refl
name_first names n text (grammar.name m e) = inr (expected DeclaredName (named m), [], refl, refl)

lengths_first : (names : List (List ℕ)) (depth : ℕ) (l : tree.Expressions) (text : List Leaf) → part.Lengths names depth part.Alone l text → NoneOrNoClose text
lengths_first names depth l text (part.no_lengths d c) = inl refl
lengths_first names depth l text (part.some_length d c x r inside right offset close h k) = inr (opens (suc d) (mark punctuator.LeftBracket offset), _, refl, refl)

dimensions_first : (names : List (List ℕ)) (depth : ℕ) (is_open : Bool) (l : tree.Expressions) (text : List Leaf) → part.Dimensions names depth part.Alone is_open l text → NoneOrNoClose text
dimensions_first names depth is_open l text (part.given d c ls t h) = lengths_first names d ls t h
dimensions_first names depth is_open l text (part.left_out d c ls t offset close h) = inr (opens (suc d) (mark punctuator.LeftBracket offset), _, refl, refl)

void_first : (names : List (List ℕ)) (depth offset : ℕ) (pair : Ended) (text : List Leaf) → VoidText names depth offset pair text → NoneOrNoClose text
void_first names depth offset pair text v =
    let t = v.is_rest in
    let u = t.second in
    subst NoneOrNoClose (sym v.cut) (then_first (leaves_of (keyword_at Const) v.consts) v.right (consts_first v.consts)
    (subst NoneOrNoClose (sym t.cut) (then_first t.left t.right (pointer_first _ t.left t.first)
    (subst NoneOrNoClose (sym u.cut) (then_first u.left u.right (name_first names _ u.left u.first) (dimensions_first names depth _ _ u.right u.second))))))

others_first : (names : List (List ℕ)) (depth : ℕ) (d : Rattle.c_parse_laws.proofs.Lists.Before (Unit {0}) Ended) (xs : List Ended) (text : List Leaf) → OthersText (ParameterText names depth) end_of d xs text → NoneOrNoClose text
others_first names depth d xs text (none k) = inl refl
others_first names depth d xs text (some k y ys one two b rest) = inr (expected (end_of k.1) (mark punctuator.Comma b.first), b.right ++ two, ap (λ l. l ++ two) (b.cut ∙ ap (λ l. l ++ b.right) (one-mark punctuator.Comma (expected (end_of k.1)) b.first b.left b.is_first)), refl)

void_back : (names : List (List ℕ)) (depth : ℕ) (list : List Ended) (text inside : List Leaf) (r : PlainList names depth list text) → inside ≡ r.left ++ r.right → grammar.is_void inside ≡ false → (b : VoidBack names depth r.head r.left) → AfterVoid names depth (map tree_of list) text
void_back names depth list text inside r cut e b =
    let close = expected (end_of (last_of r.head r.rest)) (mark punctuator.RightParenthesis r.offset) in
    let right = b.right ++ (r.right ++ close ∷ []) in
    record {
      first = b.offset;
      left = plain (keyword_at Void b.offset) ∷ [];
      right = right;
      is_first = record { token = keyword_at Void b.offset; is = refl; cut = refl };
      is_second = second (record { inner = list; is = refl; derives = by_first (then_first b.right r.right (void_first names depth b.offset r.head b.right b.derives) (others_first names depth (tt, r.head) r.rest r.right r.are_rest)) });
      cut = r.cut ∙ ap (λ l. l ++ (r.right ++ close ∷ [])) b.cut;
    }
  where
    close_leaf : Leaf
    close_leaf = expected (end_of (last_of r.head r.rest)) (mark punctuator.RightParenthesis r.offset)

    spelled : VoidList names depth b.offset list (b.right ++ (r.right ++ expected (end_of (last_of r.head r.rest)) (mark punctuator.RightParenthesis r.offset) ∷ []))
    spelled = record { head = r.head; rest = r.rest; left = b.right; right = r.right; offset = r.offset; is = r.is; is_head = b.derives; are_rest = r.are_rest; cut = refl }

    by_first : NoneOrNoClose (b.right ++ r.right) → Starting no_close (VoidList names depth b.offset) list (b.right ++ (r.right ++ expected (end_of (last_of r.head r.rest)) (mark punctuator.RightParenthesis r.offset) ∷ []))
    by_first (inl none_there) = absurd (let f : grammar.is_void inside ≡ true = ap grammar.is_void (cut ∙ ap (λ l. l ++ r.right) b.cut ∙ ap (λ l. plain (keyword_at Void b.offset) ∷ l) none_there) in let g : false ≡ true = sym e ∙ f in cc)
    by_first (inr (u, o, there, passes)) =
        record { derives = spelled; leaf = u; more = o ++ expected (end_of (last_of r.head r.rest)) (mark punctuator.RightParenthesis r.offset) ∷ []; cut = sym (append_assoc b.right r.right (expected (end_of (last_of r.head r.rest)) (mark punctuator.RightParenthesis r.offset) ∷ [])) ∙ ap (λ l. l ++ expected (end_of (last_of r.head r.rest)) (mark punctuator.RightParenthesis r.offset) ∷ []) there; passes = passes }

-- a list of parameters that is not `void` alone
some_back : (names : List (List ℕ)) (depth : ℕ) (list : List unit.Parameter) (role : Role) (offset : ℕ) (inside : List Leaf) → grammar.ParameterList names depth list role inside → grammar.is_void inside ≡ false → InsideText names depth list (inside ++ expected role (mark punctuator.RightParenthesis offset) ∷ [])
some_back names depth list role offset inside h e =
    let b = list_listed names depth list role inside h in
    let rich = b.head ∷ b.rest in
    let q = list_split (ParameterText names depth) end_of b.head b.rest role inside b.derives in
    let close = expected (end_of (last_of b.head b.rest)) (mark punctuator.RightParenthesis offset) ∷ [] in
    let r : PlainList names depth rich (inside ++ expected role (mark punctuator.RightParenthesis offset) ∷ []) =
    record {
      head = b.head;
      rest = b.rest;
      left = q.left;
      right = q.right;
      offset = offset;
      is = refl;
      is_head = q.is_head;
      are_rest = q.are_rest;
      cut = ap (λ (k : Role). inside ++ expected k (mark punctuator.RightParenthesis offset) ∷ []) q.role_is ∙ ap (λ l. l ++ close) q.cut ∙ append_assoc q.left q.right close;
    } in
    subst (λ (v : List unit.Parameter). InsideText names depth v (inside ++ expected role (mark punctuator.RightParenthesis offset) ∷ [])) (sym b.is)
    (by_void names depth rich (inside ++ expected role (mark punctuator.RightParenthesis offset) ∷ []) inside r q.cut e (first_void q.left) refl)
  where
    by_void : (names : List (List ℕ)) (depth : ℕ) (list : List Ended) (text inside : List Leaf) (r : PlainList names depth list text) → inside ≡ r.left ++ r.right → grammar.is_void inside ≡ false → (b : Bool) → first_void r.left ≡ b → InsideText names depth (map tree_of list) text
    by_void names depth list text inside r cut e true f = second (first (void_back names depth list text inside r cut e (parameter_void names depth r.head r.left r.is_head f)))
    by_void names depth list text inside r cut e false f =
        let h = r.is_head in
        let q = specifiers_first names depth part.Alone r.head.0.specifiers r.head.1 h.left h.are_specifiers in
        let whole : r.left ≡ q.leaf ∷ (q.more ++ h.right) = h.cut ∙ ap (λ l. l ++ h.right) q.cut in
        second (second (record { inner = list; is = refl; derives = record { derives = r; leaf = q.leaf; more = (q.more ++ h.right) ++ (r.right ++ expected (end_of (last_of r.head r.rest)) (mark punctuator.RightParenthesis r.offset) ∷ []); cut = r.cut ∙ ap (λ l. l ++ (r.right ++ expected (end_of (last_of r.head r.rest)) (mark punctuator.RightParenthesis r.offset) ∷ [])) whole; passes = ap not (ap first_void (sym whole) ∙ f) } }))

grammar_inside : (names : List (List ℕ)) (depth : ℕ) (list : List unit.Parameter) (role : Role) (offset : ℕ) (inside : List Leaf) → grammar.Parameters names depth list role inside → InsideText names depth list (inside ++ expected role (mark punctuator.RightParenthesis offset) ∷ [])
grammar_inside names depth list role offset inside (grammar.empty d) = first (record { inner = offset; is = refl; derives = mark-one punctuator.RightParenthesis plain offset })
grammar_inside names depth list role offset inside (grammar.void d p) =
    second (first (record { first = p; left = plain (keyword_at Void p) ∷ []; right = expected DeclaredName (mark punctuator.RightParenthesis offset) ∷ []; is_first = record { token = keyword_at Void p; is = refl; cut = refl }; is_second = first (record { inner = offset; is = refl; derives = mark-one punctuator.RightParenthesis (expected DeclaredName) offset }); cut = refl }))
grammar_inside names depth list role offset inside (grammar.some d ps e t h k) = some_back names d ps e offset t h k

text_inside : (names : List (List ℕ)) (depth : ℕ) (list : List unit.Parameter) (text : List Leaf) → ParametersText names depth list text → InsideText names depth list text
text_inside names depth list text p = subst (λ l. InsideText names depth list l) (sym p.cut) (grammar_inside names depth list p.role p.offset p.inside p.derives)

list_nonempty : (names : List (List ℕ)) (depth : ℕ) (list : List Ended) (text : List Leaf) → PlainList names depth list text → (u : Leaf) × (o : List Leaf) × (text ≡ u ∷ o)
list_nonempty names depth list text r = let h = r.is_head in let q = specifiers_first names depth part.Alone r.head.0.specifiers r.head.1 h.left h.are_specifiers in (q.leaf, _, r.cut ∙ ap (λ l. l ++ (r.right ++ expected (end_of (last_of r.head r.rest)) (mark punctuator.RightParenthesis r.offset) ∷ [])) (h.cut ∙ ap (λ l. l ++ h.right) q.cut))

after_nonempty : (text right : List Leaf) (u : Leaf) → text ≡ right ++ u ∷ [] → (v : Leaf) × (o : List Leaf) × (text ≡ v ∷ o)
after_nonempty text [] u cut = (u, [], cut)
after_nonempty text (v ∷ right) u cut = (v, right ++ u ∷ [], cut)

-- samples of lists that begin so
star_pair : (offset : ℕ) → Ended
star_pair offset = (Rattle.c_parse_laws.specs.Parameters.parameter_of (Rattle.c_parse_laws.specs.Parameters.void_at offset) (1, (None, (false, tree.no_expressions))), Rattle.c_parse_laws.specs.Endings.WordsAround)

star_text : List Leaf
star_text = plain (mark punctuator.Star 0) ∷ []

after_starts : (names : List (List ℕ)) (depth offset : ℕ) → Starting no_close (VoidList names depth offset) (star_pair offset ∷ []) (star_text ++ ([] ++ expected (end_of (star_pair offset)) (mark punctuator.RightParenthesis 0) ∷ []))
unfolding star_pair star_text
after_starts names depth offset =
    record {
      derives = record {
        head = star_pair offset;
        rest = [];
        left = star_text;
        right = [];
        offset = 0;
        is = refl;
        is_head = record {
          consts = [];
          right = star_text;
          is = refl;
          is_end = refl;
          cut = refl;
          is_rest = record { left = star_text; right = []; cut = refl; first = part.star 0 0 [] [] part.none part.none; second = record { left = []; right = []; cut = refl; first = grammar.none; second = part.given depth part.Alone tree.no_expressions [] (part.no_lengths depth part.Alone) } };
        };
        are_rest = none (tt, star_pair offset);
        cut = refl;
      };
      leaf = plain (mark punctuator.Star 0);
      more = _;
      cut = refl;
      passes = refl;
    }

const_text : List Leaf
const_text = plain (keyword_at Const 0) ∷ plain (keyword_at Void 0) ∷ []

plain_starts : (names : List (List ℕ)) (depth : ℕ) → Starting no_void (PlainList names depth) (some_pair ∷ []) (const_text ++ ([] ++ expected (end_of some_pair) (mark punctuator.RightParenthesis 0) ∷ []))
unfolding const_text
plain_starts names depth =
    record {
      derives = record {
        head = some_pair;
        rest = [];
        left = const_text;
        right = [];
        offset = 0;
        is = refl;
        is_head = record {
          left = const_text;
          right = [];
          cut = refl;
          are_specifiers = record { one = Rattle.c_parse_laws.specs.Types.no_storage; two = Rattle.c_parse_laws.specs.Types.no_storage; base = tree.Void; before = plain (keyword_at Const 0) ∷ []; middle = plain (keyword_at Void 0) ∷ []; after = []; words_before = part.const part.Elsewhere Rattle.c_parse_laws.specs.Types.no_storage [] 0 (part.none part.Elsewhere); is_base = part.void depth part.Alone 0; words_after = part.none part.Elsewhere; is = refl; cut = refl; is_end = refl };
          is_rest = record { left = []; right = []; cut = refl; first = part.none; second = record { left = []; right = []; cut = refl; first = grammar.none; second = part.given depth part.Alone tree.no_expressions [] (part.no_lengths depth part.Alone) } };
        };
        are_rest = none (tt, some_pair);
        cut = refl;
      };
      leaf = plain (keyword_at Const 0);
      more = _;
      cut = refl;
      passes = refl;
    }

-- first tokens
void_passes : (t : Placed) (offset : ℕ) → void_offset t ≡ Some offset → (is_void t.token ≡ true) × (is_mark punctuator.RightParenthesis t.token ≡ false)
void_passes t offset e = by_token t.token t.offset offset e
  where
    by_token : (k : Token) (o offset : ℕ) → cond (is_void k) (Some o) None ≡ Some offset → (is_void k ≡ true) × (is_mark punctuator.RightParenthesis k ≡ false)
    by_token (Word Void) o offset e = (refl, refl)
    by_token (Word other) o offset e = absurd (cc)
    by_token (name_token spelling) o offset e = absurd (cc)
    by_token (number_token value type) o offset e = absurd (cc)
    by_token (character_token value) o offset e = absurd (cc)
    by_token (Mark p) o offset e = absurd (cc)

type_no_close : (names : List (List ℕ)) (k : Token) → Rattle.c_parse_laws.specs.Classes.begins_type names k ≡ true → is_mark punctuator.RightParenthesis k ≡ false
type_no_close names (Mark p) e = absurd (cc)
type_no_close names (Word w) e = refl
type_no_close names (name_token spelling) e = refl
type_no_close names (number_token value type) e = refl
type_no_close names (character_token value) e = refl

list_no_close : (names : List (List ℕ)) (depth : ℕ) (list : List Ended) (text : List Leaf) (rest : List Placed) → PlainList names depth list text → Stops (λ t. not (is_mark punctuator.RightParenthesis t.token)) (plains marks text ++ rest)
list_no_close names depth list text rest r =
    let h = r.is_head in
    let q = specifiers_first names depth part.Alone r.head.0.specifiers r.head.1 h.left h.are_specifiers in
    let close = expected (end_of (last_of r.head r.rest)) (mark punctuator.RightParenthesis r.offset) ∷ [] in
    subst (λ l. Stops (λ t. not (is_mark punctuator.RightParenthesis t.token)) (plains marks l ++ rest)) (sym (r.cut ∙ ap (λ l. l ++ (r.right ++ close)) (h.cut ∙ ap (λ l. l ++ h.right) q.cut))) (rw (type_no_close names q.leaf.token.token q.yes) refl)

-- after a first `void` a name can occur, which is asked for
name_pair : (names : List (List ℕ)) (offset : ℕ) → Ended
name_pair names offset = (Rattle.c_parse_laws.specs.Parameters.parameter_of (Rattle.c_parse_laws.specs.Parameters.void_at offset) (0, (Some (fresh names), (false, tree.no_expressions))), Rattle.c_parse_laws.specs.Endings.WordsAround)

named_starts : (names : List (List ℕ)) (depth offset : ℕ) → Starting no_close (VoidList names depth offset) (name_pair names offset ∷ []) (expected DeclaredName (named (fresh names)) ∷ ([] ++ expected (end_of (name_pair names offset)) (mark punctuator.RightParenthesis 0) ∷ []))
unfolding name_pair
named_starts names depth offset =
    record {
      derives = record {
        head = name_pair names offset;
        rest = [];
        left = expected DeclaredName (named (fresh names)) ∷ [];
        right = [];
        offset = 0;
        is = refl;
        is_head = record {
          consts = [];
          right = expected DeclaredName (named (fresh names)) ∷ [];
          is = refl;
          is_end = refl;
          cut = refl;
          is_rest = record { left = []; right = expected DeclaredName (named (fresh names)) ∷ []; cut = refl; first = part.none; second = record { left = expected DeclaredName (named (fresh names)) ∷ []; right = []; cut = refl; first = grammar.name (fresh names) (fresh_is names); second = part.given depth part.Alone tree.no_expressions [] (part.no_lengths depth part.Alone) } };
        };
        are_rest = none (tt, name_pair names offset);
        cut = refl;
      };
      leaf = expected DeclaredName (named (fresh names));
      more = _;
      cut = refl;
      passes = refl;
    }

after_asks : (names : List (List ℕ)) (depth offset : ℕ) → AskedFirst no_close (VoidList names depth offset)
after_asks names depth offset = asked_first no_close (expected DeclaredName (named (fresh names))) (record { value = _; before = []; more = _; derives = named_starts names depth offset; same = refl }) (λ e. cc)

-- a list of parameters begins with a token without a role
plain_silent : (names : List (List ℕ)) (depth : ℕ) → Silent marks roles (PlainList names depth)
plain_silent names depth list u more r =
    let h = r.is_head in
    let q = specifiers_first names depth part.Alone r.head.0.specifiers r.head.1 h.left h.are_specifiers in
    let close = expected (end_of (last_of r.head r.rest)) (mark punctuator.RightParenthesis r.offset) ∷ [] in
    let e : u ∷ more ≡ q.leaf ∷ ((q.more ++ h.right) ++ (r.right ++ close)) = r.cut ∙ ap (λ l. l ++ (r.right ++ close)) (h.cut ∙ ap (λ l. l ++ h.right) q.cut) in
    let head : u ≡ q.leaf = cc in
    ap (λ (l : Leaf). l.role) head ∙ specifiers_silent names part.Elsewhere depth part.Alone r.head.0.specifiers h.left (specified names part.Elsewhere depth part.Alone r.head.0.specifiers r.head.1 h.left h.are_specifiers) q.leaf q.more q.cut

abbrev ListedAfter : (names : List (List ℕ)) → (depth offset : ℕ) → List unit.Parameter → List Leaf → Type 0
ListedAfter names depth offset = Map (map tree_of) (Starting no_close (VoidList names depth offset))

abbrev read_close : Parser Placed Role (List unit.Parameter)
read_close = read_map (λ _. []) (token DeclaredName (expected DeclaredName) (mark_offset punctuator.RightParenthesis))

abbrev read_listed : (names : List (List ℕ)) → Parsers → (depth offset : ℕ) → Parser Placed Role (List unit.Parameter)
read_listed names inner depth offset = read_list_from end_of_parameter punctuator.RightParenthesis (read_void_parameter names inner depth offset) (read_parameter names inner depth)

-- the role of what closes a list of no parameters says that a name can occur there
alone_reported : (u : Leaf) → Next marks AloneText [] u → u.role ≡ DeclaredName
alone_reported u n = by_before n.before n.derives n.same
  where
    by_before : (before : List Leaf) → AloneText n.value (before ++ u ∷ n.more) → plains marks before ≡ [] → u.role ≡ DeclaredName
    by_before [] m same = ap (λ (l : Leaf). l.role) (one_first m.inner u n.more m.derives)
    by_before (v ∷ before) m same = absurd (cc)

alone_begins : (t : Placed) → is_mark punctuator.RightParenthesis t.token ≡ true → Begins marks AloneText t
alone_begins t e = record { value = []; first = expected DeclaredName t; more = []; derives = record { inner = t.offset; is = refl; derives = record { token = t; is = mark-some punctuator.RightParenthesis t e; cut = refl } }; is = refl }

asked_at : (names : List (List ℕ)) (depth offset : ℕ) (kind : Role) (rest : List Placed) → IsAsked marks roles (ListedAfter names depth offset) rest kind rest → (u : Leaf) → u.role ≡ DeclaredName → Reported roles u kind
asked_at names depth offset kind rest a u e = by_meets (begins_meet kind rest a (map tree_of (name_pair names offset ∷ [])) (expected DeclaredName (named (fresh names))) _ (record { inner = name_pair names offset ∷ []; is = refl; derives = named_starts names depth offset }))
  where
    by_meets : Meets roles DeclaredName kind → Reported roles u kind
    by_meets (inl h) = absurd (cc)
    by_meets (inr h) = inl (e ∙ h)

and_so : (a b : Bool) → IsTrue (a && b) → b ≡ true
and_so true true h = refl
and_so true false h = absurd (cc)
and_so false b h = absurd (cc)

after_chooses : (names : List (List ℕ)) (inner : Parsers) (depth offset : ℕ) → Firm (both anything (λ t. is_mark punctuator.RightParenthesis t.token)) AloneText (λ _. anything) read_close → Firm (both anything (λ t. not (is_mark punctuator.RightParenthesis t.token))) (ListedAfter names depth offset) (λ _. anything) (read_listed names inner depth offset)
    → Chooses marks roles anything (λ t. is_mark punctuator.RightParenthesis t.token) AloneText (ListedAfter names depth offset) quiet read_close (read_listed names inner depth offset)
after_chooses names inner depth offset one two =
    record {
      enters = λ t more kind opens e. begun_enters one.exact t more kind opens (alone_begins t (and_so true (is_mark punctuator.RightParenthesis t.token) opens)) e;
      begins = λ u before kind n opens e. asked_at names depth offset kind before (two.asks before kind before opens e) u (alone_reported u n);
      empty = λ x u m n. absurd (let s = m.derives in let c : [] ≡ s.leaf ∷ s.more = s.cut in cc);
    }

roled-after_void : (names : List (List ℕ)) (inner : Parsers) (all : AllFirm names inner) (depth offset : ℕ)
    → Firm anything (Or AloneText (ListedAfter names depth offset)) (λ _. anything) (choose (is_mark punctuator.RightParenthesis) read_close (read_listed names inner depth offset))
roled-after_void names inner all depth offset =
    roled-same anything (Or AloneText (ListedAfter names depth offset)) (choose (is_mark punctuator.RightParenthesis) read_close (read_listed names inner depth offset)) (λ t h. h) (λ x text h. h) (λ x text h. h) same
    (roled-or (λ t. is_mark punctuator.RightParenthesis t.token)
    record {
      first_begins = λ x text m. (expected DeclaredName (mark punctuator.RightParenthesis m.inner), [], one-mark punctuator.RightParenthesis (expected DeclaredName) m.inner text m.derives, refl);
      second_begins = λ x text rest m stops. let s = m.derives in subst (λ l. Stops (λ t. not (is_mark punctuator.RightParenthesis t.token)) (plains marks l ++ rest)) (sym s.cut) s.passes;
    }
    (after_chooses names inner depth offset one_is two_is) one_is two_is)
  where
    one_is : Firm (both anything (λ t. is_mark punctuator.RightParenthesis t.token)) AloneText (λ _. anything) read_close
    one_is = roled-enter (both anything (λ t. is_mark punctuator.RightParenthesis t.token)) (firm-map (λ (_ : ℕ). []) (λ _. anything) (λ x. refl) (roled-mark anything punctuator.RightParenthesis DeclaredName (expected DeclaredName) (λ t. refl) (λ t. refl)))

    two_is : Firm (both anything (λ t. not (is_mark punctuator.RightParenthesis t.token))) (ListedAfter names depth offset) (λ _. anything) (read_listed names inner depth offset)
    two_is =
        roled-same (both anything (λ t. not (is_mark punctuator.RightParenthesis t.token))) (ListedAfter names depth offset) (read_listed names inner depth offset) (λ t h. h) (λ x text h. h) (λ x text h. h)
        (list-mapped tree_of end_of_parameter punctuator.RightParenthesis (read_void_parameter names inner depth offset) (read_parameter names inner depth) (rich_void names inner depth offset) (rich_parameter names depth inner (all.specifiers depth part.Alone).both) (void_same names inner depth offset) (parameter_same names inner all depth))
        (firm-map (map tree_of) (λ _. anything) (λ x. refl)
        (roled-starting no_close (λ list text r. after_nonempty text (r.left ++ r.right) _ (r.cut ∙ sym (append_assoc r.left r.right _))) (star_pair offset ∷ []) _ (after_starts names depth offset) (after_asks names depth offset)
        (roled-list_from end_of (λ x. inr refl) (lists names depth) (roled-void names inner all depth offset) (roled-parameter names inner all depth))))

    same : (tokens : List Placed) → choose (is_mark punctuator.RightParenthesis) read_close (read_listed names inner depth offset) tokens ≡ read_or (λ t. is_mark punctuator.RightParenthesis t.token) read_close (read_listed names inner depth offset) tokens
    same [] = refl
    same (t ∷ tokens) = refl

roled-plain : (names : List (List ℕ)) (inner : Parsers) (all : AllFirm names inner) (depth : ℕ)
    → Firm (both anything (λ t. not (is_void t.token))) (Map (map tree_of) (Starting no_void (PlainList names depth))) (λ _. anything) (read_list_from end_of_parameter punctuator.RightParenthesis (read_parameter names inner depth) (read_parameter names inner depth))
roled-plain names inner all depth =
    roled-same (both anything (λ t. not (is_void t.token))) (Map (map tree_of) (Starting no_void (PlainList names depth))) (read_list_from end_of_parameter punctuator.RightParenthesis (read_parameter names inner depth) (read_parameter names inner depth)) (λ t h. h) (λ x text h. h) (λ x text h. h)
    (list-mapped tree_of end_of_parameter punctuator.RightParenthesis (read_parameter names inner depth) (read_parameter names inner depth) (rich_parameter names depth inner (all.specifiers depth part.Alone).both) (rich_parameter names depth inner (all.specifiers depth part.Alone).both) (parameter_same names inner all depth) (parameter_same names inner all depth))
    (firm-map (map tree_of) (λ _. anything) (λ x. refl)
    (roled-starting no_void (list_nonempty names depth) (some_pair ∷ []) _ (plain_starts names depth) (asked_nothing no_void (λ u n. silent_next (plain_silent names depth) u n))
    (roled-list_from end_of (λ x. inr refl) (lists names depth) (roled-parameter names inner all depth) (roled-parameter names inner all depth))))

void_found : (t : Placed) → is_void t.token ≡ true → void_offset t ≡ Some t.offset
void_found t e = ap (λ b. cond b (Some t.offset) None) e

some_after : (names : List (List ℕ)) (depth offset : ℕ) → (y : List unit.Parameter) × (right : List Leaf) × Or AloneText (ListedAfter names depth offset) y right
some_after names depth offset = ([], expected DeclaredName (mark punctuator.RightParenthesis 0) ∷ [], first (record { inner = 0; is = refl; derives = mark-one punctuator.RightParenthesis (expected DeclaredName) 0 }))

pub roled-parameters : (names : List (List ℕ)) (inner : Parsers) (all : AllFirm names inner) (depth : ℕ) → Firm anything (ParametersText names depth) (λ _. anything) (read_parameters names inner depth)
roled-parameters names inner all depth =
    roled-same anything (ParametersText names depth) (read_parameters names inner depth) (λ t h. h) (inside_grammar names depth) (text_inside names depth) (λ tokens. refl)
    (roled-choice (is_mark punctuator.RightParenthesis)
    record {
      first_begins = λ x text m. (plain (mark punctuator.RightParenthesis m.inner), [], one-mark punctuator.RightParenthesis plain m.inner text m.derives, refl);
      second_begins = λ x text rest o stops. others x text rest o;
    }
    (λ t e. map_begins (λ (_ : ℕ). []) t (record { value = t.offset; first = plain t; more = []; derives = record { token = t; is = mark-some punctuator.RightParenthesis t e; cut = refl }; is = refl }))
    (map_silent (λ (_ : ℕ). []) (λ x u more o. ap (λ (l : Leaf). l.role) (one_first x u more o)))
    (firm-map (λ (_ : ℕ). []) (λ _. anything) (λ x. refl) (roled-mark anything punctuator.RightParenthesis Nothing plain (λ t. refl) (λ t. refl)))
    (roled-choose is_void
    record {
      first_begins = λ x text b. (plain b.is_first.token, b.right, b.cut ∙ ap (λ l. l ++ b.right) b.is_first.cut, (void_passes b.is_first.token b.first b.is_first.is).0);
      second_begins = λ x text rest m stops. let s = m.derives in subst (λ l. Stops (λ t. not (is_void t.token)) (plains marks l ++ rest)) (sym s.cut) s.passes;
    }
    (λ t e. after_begins void_offset plain (λ t. refl) t t.offset (void_found t e) (some_after names depth t.offset))
    (after_silent void_offset plain (λ t. refl))
    (roled-enter (both anything (λ t. is_void t.token)) (roled-opened void_offset Nothing plain (λ t. refl) (λ t. refl) (keyword_at Void 0) 0 refl
    (λ offset. ([], expected DeclaredName (mark punctuator.RightParenthesis 0) ∷ [], first (record { inner = 0; is = refl; derives = mark-one punctuator.RightParenthesis (expected DeclaredName) 0 })))
    (λ offset t e within. roled-after_void names inner all depth offset)))
    (roled-plain names inner all depth)))
  where
    others : (x : List unit.Parameter) (text : List Leaf) (rest : List Placed) → Or (AfterVoid names depth) (Map (map tree_of) (Starting no_void (PlainList names depth))) x text → Stops (λ t. not (is_mark punctuator.RightParenthesis t.token)) (plains marks text ++ rest)
    others x text rest (first b) = subst (λ l. Stops (λ t. not (is_mark punctuator.RightParenthesis t.token)) (plains marks l ++ rest)) (sym (b.cut ∙ ap (λ l. l ++ b.right) b.is_first.cut)) (rw (void_passes b.is_first.token b.first b.is_first.is).1 refl)
    others x text rest (second m) = list_no_close names depth m.inner text rest m.derives.derives
