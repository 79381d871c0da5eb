-- Declarators in external declarations keep roles.
use Rattle.std.proofs.Common.{ℕ, suc, List, Bool, not, true, false, refl, IsTrue, ◌&&◌, [], ◌∷◌, ◌++◌, ◌≡◌, sym, ◌∙◌, ap, subst, append_assoc}
use Rattle.c_token_spec.specs.declared.token.Punctuator.TheVariants as punctuator
use Rattle.c_token_spec.specs.Lexical.{Placed}
use Rattle.c_syntax_spec.specs.Expression as tree
use Rattle.c_syntax_spec.specs.Unit as unit
use Rattle.c_parse_spec.specs.declared.Role.TheVariants.{DeclaredName, Nothing}
use Rattle.c_parse_spec.specs.Leaves.{Leaf, opens, expected, marks, mark, named}
use Rattle.c_parse_spec.specs.Expressions as part
use Rattle.c_parse_spec.specs.Units as grammar
use Rattle.exact_read.specs.Reading.{plains, Stops}
use Rattle.exact_read.specs.Grammar.{One, Map, Or, Then, first, second, anything}
use Rattle.exact_read.proofs.Parts.{both, stops_anything}
use Rattle.c_parse_laws.specs.Classes.{mark_offset, is_mark}
use Rattle.c_parse_laws.specs.Parsers.{token, Parsers}
use Rattle.c_parse_laws.specs.Types.{plain_name_at}
use Rattle.c_parse_laws.proofs.Marks.{Following, one-mark, mark-one, mark-self, roled-opened, mark-some, after_begins, after_silent, map_begins, map_silent, roled-following}
use Rattle.c_parse_laws.specs.TypeExactness.{AllFirm}
use Rattle.c_parse_laws.proofs.Fresh.{fresh, fresh_is}
use Rattle.c_parse_laws.proofs.Pointers.{stop_pointer}
use Rattle.c_parse_laws.proofs.Dimensions.{stop_dimensions, roled-dimensions_from}
use Rattle.c_parse_laws.proofs.Declarators.{declares_other, name_leaf, leaf_name, plain-self, name_stops}
use Rattle.c_parse_laws.proofs.Chosen.{Allowed, roled-allowed}
use Rattle.c_parse_laws.specs.Parameters.{read_function, read_global}
use Rattle.c_parse_laws.specs.GlobalTexts.{ParametersText, no_function, stop_lengths, stop_global}
use Rattle.c_parse_laws.proofs.Inside.{roled-parameters}
use Rattle.exact_read.proofs.RoleBasics.{roled-stop, roled-enter, roled-same}
use Rattle.exact_read.proofs.RoleThen.{roled-then}
use Rattle.c_parse_laws.specs.Firm.{Firm}
use Rattle.c_parse_laws.proofs.Firm.{firm-map, firm-one}
use Rattle.c_parse_laws.proofs.Plain.{roled-pointer}

-- after the name of a function
abbrev FunctionText : (names : List (List ℕ)) → (depth pointers : ℕ) → tree.Name → unit.FunctionDeclarator → List Leaf → Type 0
FunctionText names depth pointers name = Following (One (opens (suc depth)) (mark_offset punctuator.LeftParenthesis)) (λ _. Map (λ list. record { pointers = pointers; name = name; parameters = list }) (ParametersText names (suc depth)))

abbrev Named : Type 0
Named = ℕ × tree.Name

abbrev object : Named → Bool × tree.Expressions → unit.Global
object made d = unit.Object (tree.Declared made.0 made.1 d.0 d.1)

abbrev DimensionsOf : (names : List (List ℕ)) → Bool × tree.Expressions → List Leaf → Type 0
DimensionsOf names pair text = part.Dimensions names 0 part.Alone pair.0 pair.1 text

abbrev AfterName : (names : List (List ℕ)) → (is_typedef : Bool) → Named → unit.Global → List Leaf → Type 0
AfterName names is_typedef made = Or (Allowed (not is_typedef) (Map (λ f. unit.Function f) (FunctionText names 0 made.0 made.1))) (Map (object made) (DimensionsOf names))

abbrev NamedText : (names : List (List ℕ)) → Named → List Leaf → Type 0
NamedText names = Then part.Pointer (λ _. One (expected DeclaredName) (plain_name_at names))

no_bits : (b : Bool) → IsTrue (not (b && false))
no_bits true = refl
no_bits false = refl

and-left : (a b : Bool) → IsTrue (a && b) → IsTrue a
and-left true b h = refl
and-left false b h = absurd (cc)

object_second : (names : List (List ℕ)) (is_typedef : Bool) (made : Named) (d : Bool × tree.Expressions) (text : List Leaf) (rest : List Placed) → DimensionsOf names d text → Stops (stop_dimensions (no_function is_typedef) d) rest → Stops (no_function is_typedef) (plains marks text ++ rest)
object_second names is_typedef made (is_open, lengths) text rest h stops = by_dimensions is_open lengths text h rest stops
  where
    by_lengths : (l : tree.Expressions) (t : List Leaf) → part.Lengths names 0 part.Alone l t → (rest : List Placed) → Stops (stop_dimensions (no_function is_typedef) (false, l)) rest → Stops (no_function is_typedef) (plains marks t ++ rest)
    by_lengths l t (part.no_lengths d c) [] stops = tt
    by_lengths l t (part.no_lengths d c) (p ∷ rest) stops = and-left (no_function is_typedef p) (not (is_mark punctuator.LeftBracket p.token)) stops
    by_lengths l t (part.some_length d c x r inside right offset close h k) rest stops = no_bits (not is_typedef)

    by_dimensions : (is_open : Bool) (l : tree.Expressions) (t : List Leaf) → part.Dimensions names 0 part.Alone is_open l t → (rest : List Placed) → Stops (stop_dimensions (no_function is_typedef) (is_open, l)) rest → Stops (no_function is_typedef) (plains marks t ++ rest)
    by_dimensions is_open l t (part.given d c ls s h) rest stops = by_lengths ls s h rest stops
    by_dimensions is_open l t (part.left_out d c ls s offset close h) rest stops = no_bits (not is_typedef)

lengths_same : (is_typedef : Bool) (d : Bool × tree.Expressions) (t : Placed) → stop_dimensions (no_function is_typedef) d t ≡ stop_lengths is_typedef d.0 d.1 t
lengths_same is_typedef (true, lengths) t = refl
lengths_same is_typedef (false, tree.no_expressions) t = refl
lengths_same is_typedef (false, tree.expressions x rest) t = refl

-- as the grammar has them
not_true : (b : Bool) → not b ≡ true → b ≡ false
not_true true e = absurd (cc)
not_true false e = refl

can_plain : (names : List (List ℕ)) (n : tree.Name) → part.can_declare false names n.spelling ≡ true → part.is_typedef_name names n.spelling ≡ false
can_plain names n e = by_test (part.is_typedef_name names n.spelling) refl
  where
    by_test : (b : Bool) → part.is_typedef_name names n.spelling ≡ b → part.is_typedef_name names n.spelling ≡ false
    by_test true f = absurd (let g : part.can_declare false names n.spelling ≡ false = rw f refl in let c : true ≡ false = sym e ∙ g in cc)
    by_test false f = f

text_global : (names : List (List ℕ)) (is_typedef : Bool) (g : unit.Global) (text : List Leaf) → Following (NamedText names) (λ made. AfterName names is_typedef made) g text → grammar.GlobalDeclarator names is_typedef g text
text_global names is_typedef g text b =
    let t = b.is_first in
    let n = name_leaf (declares_other names) b.first.1 t.right t.second in
    subst (λ l. grammar.GlobalDeclarator names is_typedef g l) (sym (b.cut ∙ ap (λ l. l ++ b.right) (t.cut ∙ ap (λ l. t.left ++ l) n.0) ∙ append_assoc t.left (expected DeclaredName (named b.first.1) ∷ []) b.right))
    (by_way b.first t.left b.right t.first n.1 b.is_second)
  where
    by_way : (made : Named) (stars right : List Leaf) → part.Pointer made.0 stars → part.can_declare false names made.1.spelling ≡ true → AfterName names is_typedef made g right → grammar.GlobalDeclarator names is_typedef g (stars ++ expected DeclaredName (named made.1) ∷ right)
    by_way made stars right h can (second m) = rw m.is (grammar.object is_typedef (tree.Declared made.0 made.1 m.inner.0 m.inner.1) (stars ++ expected DeclaredName (named made.1) ∷ right) (part.declarator false 0 part.Alone made.0 made.1 m.inner.0 m.inner.1 stars right can h m.derives))
    by_way made stars right h can (first a) =
        let m = a.derives in
        let f = m.derives in
        let l = f.is_second in
        let p = l.derives in
        let cut : right ≡ opens 1 (mark punctuator.LeftParenthesis f.first) ∷ (p.inside ++ expected p.role (mark punctuator.RightParenthesis p.offset) ∷ []) = f.cut ∙ ap (λ k. k ++ f.right) (one-mark punctuator.LeftParenthesis (opens 1) f.first f.left f.is_first) ∙ ap (λ k. opens 1 (mark punctuator.LeftParenthesis f.first) ∷ k) p.cut in
        subst (λ (c : Bool). grammar.GlobalDeclarator names c g (stars ++ expected DeclaredName (named made.1) ∷ right)) (sym (not_true is_typedef a.so))
        (subst (λ k. grammar.GlobalDeclarator names false g (stars ++ expected DeclaredName (named made.1) ∷ k)) (sym cut)
        (rw (m.is, l.is) (grammar.function (record { pointers = made.0; name = made.1; parameters = l.inner }) _ (grammar.function 0 made.0 made.1 l.inner p.role stars p.inside f.first p.offset (can_plain names made.1 can) h p.derives))))

-- and back
object_back : (names : List (List ℕ)) (is_typedef is_member : Bool) (depth : ℕ) (d : tree.Declarator) (text : List Leaf) → part.Declarator names is_member depth part.Alone d text → is_member ≡ false → depth ≡ 0 → Following (NamedText names) (λ made. AfterName names is_typedef made) (unit.Object d) text
object_back names is_typedef is_member depth d text (part.declarator m e c p n is_open lengths stars dimensions can h k) no_member at_top =
    record {
      first = (p, n);
      left = stars ++ expected DeclaredName (named n) ∷ [];
      right = dimensions;
      is_first = record { left = stars; right = expected DeclaredName (named n) ∷ []; cut = refl; first = h; second = leaf_name (declares_other names) n (subst (λ (b : Bool). part.can_declare b names n.spelling ≡ true) no_member can) };
      is_second = second (record { inner = (is_open, lengths); is = refl; derives = subst (λ (i : ℕ). part.Dimensions names i part.Alone is_open lengths dimensions) at_top k });
      cut = sym (append_assoc stars (expected DeclaredName (named n) ∷ []) dimensions);
    }

function_back : (names : List (List ℕ)) (depth : ℕ) (f : unit.FunctionDeclarator) (text : List Leaf) → grammar.FunctionDeclarator names depth f text → depth ≡ 0 → Following (NamedText names) (λ made. AfterName names false made) (unit.Function f) text
function_back names depth f text (grammar.function d p n list end stars inside offset close e h k) at_top =
    subst (λ (i : ℕ). grammar.Parameters names (suc i) list end inside → Following (NamedText names) (λ made. AfterName names false made) (unit.Function (record { pointers = p; name = n; parameters = list })) (stars ++ (expected DeclaredName (named n) ∷ opens (suc i) (mark punctuator.LeftParenthesis offset) ∷ inside ++ expected end (mark punctuator.RightParenthesis close) ∷ []))) (sym at_top)
    (λ l. record {
      first = (p, n);
      left = stars ++ expected DeclaredName (named n) ∷ [];
      right = opens 1 (mark punctuator.LeftParenthesis offset) ∷ inside ++ expected end (mark punctuator.RightParenthesis close) ∷ [];
      is_first = record { left = stars; right = expected DeclaredName (named n) ∷ []; cut = refl; first = h; second = leaf_name (declares_other names) n (rw e refl) };
      is_second = first (record { so = refl; derives = record { inner = record { pointers = p; name = n; parameters = list }; is = refl; derives = record { first = offset; left = opens 1 (mark punctuator.LeftParenthesis offset) ∷ []; right = inside ++ expected end (mark punctuator.RightParenthesis close) ∷ []; is_first = mark-one punctuator.LeftParenthesis (opens 1) offset; is_second = record { inner = list; is = refl; derives = record { role = end; inside = inside; offset = close; derives = l; cut = refl } }; cut = refl } } });
      cut = sym (append_assoc stars (expected DeclaredName (named n) ∷ []) (opens 1 (mark punctuator.LeftParenthesis offset) ∷ inside ++ expected end (mark punctuator.RightParenthesis close) ∷ []));
    }) k

global_text : (names : List (List ℕ)) (is_typedef : Bool) (g : unit.Global) (text : List Leaf) → grammar.GlobalDeclarator names is_typedef g text → Following (NamedText names) (λ made. AfterName names is_typedef made) g text
global_text names is_typedef g text (grammar.object c d t h) = object_back names c false 0 d t h refl refl
global_text names is_typedef g text (grammar.function f t h) = function_back names 0 f t h refl

some_function : (names : List (List ℕ)) (depth pointers : ℕ) (name : tree.Name) → (f : unit.FunctionDeclarator) × (right : List Leaf) × Map (λ list. record { pointers = pointers; name = name; parameters = list }) (ParametersText names (suc depth)) f right
some_function names depth pointers name = (record { pointers = pointers; name = name; parameters = [] }, expected Nothing (mark punctuator.RightParenthesis 0) ∷ [], record { inner = []; is = refl; derives = record { role = Nothing; inside = []; offset = 0; derives = grammar.empty (suc depth); cut = refl } })

roled-function : (names : List (List ℕ)) (inner : Parsers) (all : AllFirm names inner) (depth pointers : ℕ) (name : tree.Name) → Firm anything (FunctionText names depth pointers name) (λ _. anything) (read_function names inner depth pointers name)
roled-function names inner all depth pointers name =
    roled-opened (mark_offset punctuator.LeftParenthesis) Nothing (opens (suc depth)) (λ t. refl) (λ t. refl) (mark punctuator.LeftParenthesis 0) 0 (mark-self punctuator.LeftParenthesis 0)
    (λ offset. some_function names depth pointers name)
    (λ offset t e within. firm-map (λ list. record { pointers = pointers; name = name; parameters = list }) (λ _. anything) (λ x. refl) (roled-parameters names inner all (suc depth)))

roled-after_name : (names : List (List ℕ)) (inner : Parsers) (all : AllFirm names inner) (is_typedef : Bool) (made : Named)
    → Firm anything (AfterName names is_typedef made) (stop_global is_typedef)
    (Rattle.c_parse_laws.specs.Parsers.choose (λ next. not is_typedef && is_mark punctuator.LeftParenthesis next)
    (Rattle.exact_read.specs.Grammar.read_map (λ function. unit.Function function) (read_function names inner 0 made.0 made.1))
    (Rattle.exact_read.specs.Grammar.read_map (λ dimensions. unit.Object (tree.Declared made.0 made.1 dimensions.0 dimensions.1)) (Rattle.c_parse_laws.specs.Types.read_dimensions inner 0 part.Alone)))
roled-after_name names inner all is_typedef made =
    roled-allowed (not is_typedef) (is_mark punctuator.LeftParenthesis)
    (λ g text m. let b = m.derives in (opens 1 (mark punctuator.LeftParenthesis b.first), b.right, b.cut ∙ ap (λ l. l ++ b.right) (one-mark punctuator.LeftParenthesis (opens 1) b.first b.left b.is_first), refl))
    (λ g text rest m stops. object_second names is_typedef made m.inner text rest m.derives (stops_same m.inner rest (subst (λ (v : unit.Global). Stops (stop_global is_typedef v) rest) m.is stops)))
    (λ t e. map_begins (λ f. unit.Function f) t (after_begins (mark_offset punctuator.LeftParenthesis) (opens 1) (λ t. refl) t t.offset (mark-some punctuator.LeftParenthesis t e) (some_function names 0 made.0 made.1)))
    (map_silent (λ f. unit.Function f) (after_silent (mark_offset punctuator.LeftParenthesis) (opens 1) (λ t. refl)))
    (roled-enter (both anything (λ t. is_mark punctuator.LeftParenthesis t.token)) (firm-map (λ f. unit.Function f) (stop_global is_typedef) (λ f. refl) (roled-function names inner all 0 made.0 made.1)))
    (firm-map (object made) (stop_global is_typedef) (λ d. refl) (roled-stop (λ (d : Bool × tree.Expressions) t. stop_lengths is_typedef d.0 d.1 t) (λ d text h t. lengths_same is_typedef d t) (roled-dimensions_from names inner 0 part.Alone (no_function is_typedef) (λ d count least. all.conditional 1 count))))
  where
    stops_same : (d : Bool × tree.Expressions) (rest : List Placed) → Stops (stop_lengths is_typedef d.0 d.1) rest → Stops (stop_dimensions (no_function is_typedef) d) rest
    stops_same d [] h = tt
    stops_same d (t ∷ rest) h = subst IsTrue (sym (lengths_same is_typedef d t)) h

pub roled-global : (names : List (List ℕ)) (inner : Parsers) (all : AllFirm names inner) (is_typedef : Bool) → Firm anything (grammar.GlobalDeclarator names is_typedef) (stop_global is_typedef) (read_global names inner is_typedef)
roled-global names inner all is_typedef =
    roled-same anything (grammar.GlobalDeclarator names is_typedef) (read_global names inner is_typedef) (λ t h. h) (text_global names is_typedef) (global_text names is_typedef) (λ tokens. refl)
    (roled-following {stop1 = λ _. anything} (roled-then {stop2 = λ _ _. anything} (roled-pointer anything) (λ p. firm-one (stop_pointer anything p) (expected DeclaredName) (plain_name_at names) DeclaredName (λ t. refl) (λ t. refl) (named (fresh names)) (fresh names) (plain-self names (fresh names) (fresh_is names)))
    record {
      ends = λ p n left right rest one two stops. subst (λ l. Stops (stop_pointer anything p) (plains marks l ++ rest)) (sym (name_leaf (declares_other names) n right two).0) (name_stops p n rest);
      goes_on = λ p left one. (fresh names, expected DeclaredName (named (fresh names)) ∷ [], record { token = named (fresh names); is = plain-self names (fresh names) (fresh_is names); cut = refl });
    })
    (λ made left h w. roled-after_name names inner all is_typedef made)
    record {
      ends = λ made g left right rest one two stops. stops_anything (plains marks right ++ rest);
      goes_on = λ made left one. (object made (false, tree.no_expressions), [], second (record { inner = (false, tree.no_expressions); is = refl; derives = part.given 0 part.Alone tree.no_expressions [] (part.no_lengths 0 part.Alone) }));
    })
