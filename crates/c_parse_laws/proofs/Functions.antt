-- What is in the brackets of a function, in the form in which it is read.
use Rattle.std.proofs.Common.{◌≡◌, ℕ, zero, suc, Bool, true, false, List, Some, None, refl, IsTrue, [], not, ◌∷◌, ◌++◌, ap, sym, subst, ◌∙◌}
use Rattle.std.specs.Prelude.{map}
use Rattle.c_token_spec.specs.declared.token.Keyword.TheVariants.{Void}
use Rattle.c_token_spec.specs.declared.token.Punctuator.{Punctuator}
use Rattle.c_token_spec.specs.declared.token.Punctuator.TheVariants as punctuator
use Rattle.c_token_spec.specs.Lexical.{Placed, Mark, Token, Name as name_token, Word, Number as number_token, Character as character_token}
use Rattle.c_syntax_spec.specs.Expression as tree
use Rattle.c_syntax_spec.specs.Unit as unit
use Rattle.c_parse_spec.specs.declared.Role.{Role}
use Rattle.c_parse_spec.specs.declared.Role.TheVariants.{DeclaredName}
use Rattle.c_parse_spec.specs.Leaves.{mark, Leaf, plain, expected}
use Rattle.c_parse_spec.specs.Expressions as part
use Rattle.c_parse_spec.specs.Units as grammar
use Rattle.exact_read.specs.Grammar.{One, Map, Or}
use Rattle.c_parse_laws.specs.Classes.{is_mark, mark_offset}
use Rattle.c_parse_laws.proofs.Marks.{Following}
use Rattle.c_parse_laws.specs.Endings.{WordsAround, BraceToo, WordsToo}
use Rattle.c_parse_laws.proofs.TypeFirsts.{specifiers_first}
use Rattle.c_parse_laws.proofs.Lists.{Lists}
use Rattle.c_parse_laws.proofs.ListFrom.{same_part, ListText, Listed, last, more, text_listing}
use Rattle.c_parse_laws.specs.Parameters.{end_of_parameter, ParameterRest, parameter_of, void_at, is_void, void_offset}
use Rattle.c_parse_laws.specs.GlobalTexts.{ParametersText}
use Rattle.c_parse_laws.proofs.Parameters.{Ended, stop_rest, after_specifiers, rest_of, stop_parameter, RestText, ParameterText, parameter_grammar, grammar_parameter}
use Rattle.c_parse_laws.proofs.Starting.{Starting}
use Rattle.c_parse_laws.proofs.Voids.{VoidText, void_parameter}

abbrev pub tree_of : Ended → unit.Parameter
tree_of pair = pair.0

abbrev pub end_of : Ended → Role
end_of pair = end_of_parameter pair.0

-- a parameter stops at tokens that can go on with no part of it
rest_at : (names : List (List ℕ)) (entry : Placed → Bool) (p : Punctuator) (offset : ℕ) → is_mark punctuator.Star (Mark p) ≡ false → is_mark punctuator.LeftBracket (Mark p) ≡ false → IsTrue (entry (mark p offset)) → (r : ParameterRest) → IsTrue (stop_rest names entry r (mark p offset))
rest_at names entry p offset no_star no_bracket at (zero, (None, (true, lengths))) = rw no_bracket refl
rest_at names entry p offset no_star no_bracket at (zero, (None, (false, tree.no_expressions))) = rw (no_star, no_bracket, at) refl
rest_at names entry p offset no_star no_bracket at (zero, (None, (false, tree.expressions x rest))) = rw no_bracket refl
rest_at names entry p offset no_star no_bracket at (zero, (Some n, (true, lengths))) = rw no_bracket refl
rest_at names entry p offset no_star no_bracket at (zero, (Some n, (false, tree.no_expressions))) = rw no_bracket refl
rest_at names entry p offset no_star no_bracket at (zero, (Some n, (false, tree.expressions x rest))) = rw no_bracket refl
rest_at names entry p offset no_star no_bracket at (suc m, (None, (true, lengths))) = rw no_bracket refl
rest_at names entry p offset no_star no_bracket at (suc m, (None, (false, tree.no_expressions))) = rw (no_star, no_bracket) refl
rest_at names entry p offset no_star no_bracket at (suc m, (None, (false, tree.expressions x rest))) = rw no_bracket refl
rest_at names entry p offset no_star no_bracket at (suc m, (Some n, (true, lengths))) = rw no_bracket refl
rest_at names entry p offset no_star no_bracket at (suc m, (Some n, (false, tree.no_expressions))) = rw no_bracket refl
rest_at names entry p offset no_star no_bracket at (suc m, (Some n, (false, tree.expressions x rest))) = rw no_bracket refl

at_comma : (names : List (List ℕ)) (pair : Ended) (offset : ℕ) → IsTrue (stop_parameter names pair (mark punctuator.Comma offset))
at_comma names (p, WordsAround) offset = rest_at names (after_specifiers WordsAround) punctuator.Comma offset refl refl refl (rest_of p)
at_comma names (p, BraceToo) offset = rest_at names (after_specifiers BraceToo) punctuator.Comma offset refl refl refl (rest_of p)
at_comma names (p, WordsToo words) offset = rest_at names (after_specifiers (WordsToo words)) punctuator.Comma offset refl refl refl (rest_of p)

at_close : (names : List (List ℕ)) (pair : Ended) (offset : ℕ) → IsTrue (stop_parameter names pair (mark punctuator.RightParenthesis offset))
at_close names (p, WordsAround) offset = rest_at names (after_specifiers WordsAround) punctuator.RightParenthesis offset refl refl refl (rest_of p)
at_close names (p, BraceToo) offset = rest_at names (after_specifiers BraceToo) punctuator.RightParenthesis offset refl refl refl (rest_of p)
at_close names (p, WordsToo words) offset = rest_at names (after_specifiers (WordsToo words)) punctuator.RightParenthesis offset refl refl refl (rest_of p)

rest_none : (names : List (List ℕ)) (depth : ℕ) → RestText names depth (0, (None, (false, tree.no_expressions))) []
rest_none names depth = record { left = []; right = []; cut = refl; first = part.none; second = record { left = []; right = []; cut = refl; first = grammar.none; second = part.given depth part.Alone tree.no_expressions [] (part.no_lengths depth part.Alone) } }

abbrev pub some_pair : Ended
some_pair = (parameter_of (void_at 0) (0, (None, (false, tree.no_expressions))), WordsAround)

pub void_some : (names : List (List ℕ)) (depth : ℕ) → VoidText names depth 0 some_pair []
void_some names depth = record { consts = []; right = []; is = refl; is_end = refl; is_rest = rest_none names depth; cut = refl }

pub lists : (names : List (List ℕ)) (depth : ℕ) → Lists (same_part (ParameterText names depth)) (stop_parameter names) punctuator.RightParenthesis
lists names depth = record { at_comma = at_comma names; at_close = at_close names; apart = refl; some = λ e. (some_pair, _, void_parameter names depth 0 some_pair [] (void_some names depth)) }

-- a list with its `)`, and one after a first `void`
abbrev pub PlainList : (names : List (List ℕ)) → (depth : ℕ) → List Ended → List Leaf → Type 0
PlainList names depth = ListText (ParameterText names depth) (ParameterText names depth) end_of punctuator.RightParenthesis

abbrev pub VoidList : (names : List (List ℕ)) → (depth offset : ℕ) → List Ended → List Leaf → Type 0
VoidList names depth offset = ListText (VoidText names depth offset) (ParameterText names depth) end_of punctuator.RightParenthesis

abbrev pub no_void : Token → Bool
no_void k = not (is_void k)

abbrev pub no_close : Token → Bool
no_close k = not (is_mark punctuator.RightParenthesis k)

-- what follows the `(`
abbrev pub NoneText : List unit.Parameter → List Leaf → Type 0
NoneText = Map (λ (_ : ℕ). []) (One plain (mark_offset punctuator.RightParenthesis))

abbrev pub AloneText : List unit.Parameter → List Leaf → Type 0
AloneText = Map (λ (_ : ℕ). []) (One (expected DeclaredName) (mark_offset punctuator.RightParenthesis))

abbrev pub AfterVoid : (names : List (List ℕ)) → (depth : ℕ) → List unit.Parameter → List Leaf → Type 0
AfterVoid names depth = Following (One plain void_offset) (λ offset. Or AloneText (Map (map tree_of) (Starting no_close (VoidList names depth offset))))

abbrev pub InsideText : (names : List (List ℕ)) → (depth : ℕ) → List unit.Parameter → List Leaf → Type 0
InsideText names depth = Or NoneText (Or (AfterVoid names depth) (Map (map tree_of) (Starting no_void (PlainList names depth))))

-- as the grammar has them
pub listed_list : (names : List (List ℕ)) (depth : ℕ) (x : Ended) (xs : List Ended) (role : Role) (text : List Leaf) → Listed (ParameterText names depth) end_of x xs role text → grammar.ParameterList names depth (map tree_of (x ∷ xs)) role text
listed_list names depth x xs role text (last y t h) = grammar.last depth (tree_of y) (end_of y) t (parameter_grammar names depth y t h)
listed_list names depth x xs role text (more y z zs r t right comma h k) = grammar.more depth (tree_of y) (map tree_of (z ∷ zs)) (end_of y) r t right comma (parameter_grammar names depth y t h) (listed_list names depth z zs r right k)

pub record ListBack (names : List (List ℕ)) (depth : ℕ) (list : List unit.Parameter) (role : Role) (text : List Leaf) : Type 0 where
  pub head : Ended
  pub rest : List Ended
  pub is : list ≡ map tree_of (head ∷ rest)
  pub derives : Listed (ParameterText names depth) end_of head rest role text

pub list_listed : (names : List (List ℕ)) (depth : ℕ) (list : List unit.Parameter) (role : Role) (text : List Leaf) → grammar.ParameterList names depth list role text → ListBack names depth list role text
list_listed names depth list role text (grammar.last d p e t h) =
    let b = grammar_parameter names d p e t h in
    record { head = (p, b.end); rest = []; is = refl; derives = subst (λ (r : Role). Listed (ParameterText names d) end_of (p, b.end) [] r t) (sym b.is) (last (p, b.end) t b.derives) }
list_listed names depth list role text (grammar.more d p rest e after t right comma h k) =
    let b = grammar_parameter names d p e t h in
    let l = list_listed names d rest after right k in
    record {
      head = (p, b.end);
      rest = l.head ∷ l.rest;
      is = ap (λ ps. p ∷ ps) l.is;
      derives = subst (λ (r : Role). Listed (ParameterText names d) end_of (p, b.end) (l.head ∷ l.rest) after (t ++ expected r (mark punctuator.Comma comma) ∷ right)) (sym b.is) (more (p, b.end) l.head l.rest after t right comma b.derives l.derives);
    }

no_void_list : (text : List Leaf) (leaf : Leaf) (others : List Leaf) → text ≡ leaf ∷ others → is_void leaf.token.token ≡ false → grammar.is_void text ≡ false
no_void_list text leaf [] cut e = ap grammar.is_void cut ∙ word_void leaf.token.token e
  where
    word_void : (k : Token) → is_void k ≡ false → grammar.is_void (plain (record { token = k; offset = 0 }) ∷ []) ≡ false
    word_void (Word Void) e = absurd (cc)
    word_void (Word other) e = refl
    word_void (name_token spelling) e = refl
    word_void (number_token value type) e = refl
    word_void (character_token value) e = refl
    word_void (Mark p) e = refl
no_void_list text leaf (other ∷ others) cut e = ap grammar.is_void cut

-- a list is not `void` alone
pub plain_grammar : (names : List (List ℕ)) (depth : ℕ) (list : List Ended) (text : List Leaf) → PlainList names depth list text → (leaf : Leaf) (others : List Leaf) → text ≡ leaf ∷ others → is_void leaf.token.token ≡ false → ParametersText names depth (map tree_of list) text
plain_grammar names depth list text r leaf others starts e =
    let l = text_listing (ParameterText names depth) end_of punctuator.RightParenthesis list text r in
    let g = listed_list names depth l.head l.rest l.role l.inside l.derives in
    record {
      role = l.role;
      inside = l.inside;
      offset = l.offset;
      derives = grammar.some depth (map tree_of list) l.role l.inside (subst (λ (v : List Ended). grammar.ParameterList names depth (map tree_of v) l.role l.inside) (sym l.is) g) (inside_no_void l.inside l.role l.offset (sym l.cut ∙ starts) (listed_some l.head l.rest l.role l.inside l.derives));
      cut = l.cut;
    }
  where
    listed_some : (x : Ended) (xs : List Ended) (role : Role) (t : List Leaf) → Listed (ParameterText names depth) end_of x xs role t → (u : Leaf) × (o : List Leaf) × (t ≡ u ∷ o)
    listed_some x xs role t (last y s h) = let f = specifiers_first names depth part.Alone y.0.specifiers y.1 h.left h.are_specifiers in (f.leaf, f.more ++ h.right, h.cut ∙ ap (λ l. l ++ h.right) f.cut)
    listed_some x xs role t (more y z zs q s right comma h k) = let f = specifiers_first names depth part.Alone y.0.specifiers y.1 h.left h.are_specifiers in (f.leaf, (f.more ++ h.right) ++ expected (end_of y) (mark punctuator.Comma comma) ∷ right, ap (λ l. l ++ expected (end_of y) (mark punctuator.Comma comma) ∷ right) (h.cut ∙ ap (λ l. l ++ h.right) f.cut))

    inside_no_void : (inside : List Leaf) (role : Role) (offset : ℕ) → inside ++ expected role (mark punctuator.RightParenthesis offset) ∷ [] ≡ leaf ∷ others → (u : Leaf) × (o : List Leaf) × (inside ≡ u ∷ o) → grammar.is_void inside ≡ false
    inside_no_void inside role offset starts (u, o, cut) =
        let same : u ∷ (o ++ expected role (mark punctuator.RightParenthesis offset) ∷ []) ≡ leaf ∷ others = sym (ap (λ l. l ++ expected role (mark punctuator.RightParenthesis offset) ∷ []) cut) ∙ starts in
        no_void_list inside u o cut (ap is_void (ap (λ (v : Leaf). v.token.token) (head_same u (o ++ expected role (mark punctuator.RightParenthesis offset) ∷ []) same)) ∙ e)
      where
        head_same : (u : Leaf) (o : List Leaf) → u ∷ o ≡ leaf ∷ others → u ≡ leaf
        head_same u o same = cc
