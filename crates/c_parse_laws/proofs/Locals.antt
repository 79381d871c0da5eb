-- Declarations of locals keep roles.
use Rattle.std.proofs.Common.{Bool, Option, Some, None, not, ◌&&◌, ℕ, List, true, false, IsTrue, refl, ◌≡◌, [], ◌∷◌, ◌++◌, ap, ◌∙◌, sym, subst, append-nil, append_assoc, suc, inl}
use Rattle.c_token_spec.specs.declared.token.Punctuator.TheVariants as punctuator
use Rattle.c_token_spec.specs.Lexical.{Placed, Token, Name as name_token, Word, Number as number_token, Character as character_token, Mark}
use Rattle.c_syntax_spec.specs.Expression as tree
use Rattle.c_syntax_spec.specs.Unit as unit
use Rattle.c_parse_spec.specs.declared.Role.{Role}
use Rattle.c_parse_spec.specs.declared.Role.TheVariants.{DeclaredName, Nothing}
use Rattle.c_parse_spec.specs.Leaves.{Leaf, plain, marks, mark, expected, named}
use Rattle.c_parse_spec.specs.Expressions.{Alone, Declarator, declarator, given, no_lengths, none as no_pointer, InLocalDeclaration}
use Rattle.c_parse_spec.specs.Statements as grammar
use Rattle.exact_read.specs.Reading.{plains, Stops}
use Rattle.exact_read.specs.Grammar.{One, Map, Or, Nothing as Empty, nothing, first, second, Then, anything}
use Rattle.exact_read.proofs.Parts.{both}
use Rattle.c_parse_laws.specs.Classes.{is_mark, mark_offset}
use Rattle.c_parse_laws.specs.Parsers.{token, Parsers, following, choose}
use Rattle.c_parse_laws.proofs.Marks.{Following, one-mark, mark-one, mark-self, mark-passes, mark-some, roled-opened, roled-choose, after_begins, after_silent}
use Rattle.c_parse_laws.proofs.Samples.{zero_tree, zero_text}
use Rattle.c_parse_laws.specs.Beside.{WithEnd}
use Rattle.c_parse_laws.specs.Endings.{SpecifiersEnd, Ending, goes_on_with, stop_specifiers}
use Rattle.c_parse_laws.specs.TypeExactness.{AllFirm}
use Rattle.c_parse_laws.proofs.Beside.{roled-then_beside}
use Rattle.c_parse_laws.proofs.Fresh.{fresh, fresh_is}
use Rattle.c_parse_laws.proofs.Declarators.{DeclaratorFirst, declarator_first, begins_declarator, declares_other, roled-declarator}
use Rattle.c_parse_laws.proofs.TypeFirsts.{declarator_stops}
use Rattle.c_parse_laws.proofs.Ended.{specified, with_end}
use Rattle.c_parse_laws.specs.Around.{is_word, local_word}
use Rattle.c_parse_laws.specs.Declarations.{end_of_local, read_local, read_list_from, read_locals}
use Rattle.c_parse_laws.specs.Ends.{stop_value}
use Rattle.c_parse_laws.specs.Texts.{LocalsText}
use Rattle.c_parse_laws.proofs.Around.{roled-local_specifiers}
use Rattle.c_parse_laws.proofs.Lists.{Lists}
use Rattle.c_parse_laws.proofs.ListFrom.{same_part, Listed, last, more, Listing, text_listing, listing_text, roled-list_from}
use Rattle.c_parse_laws.proofs.Values.{zero_value, roled-value}
use Rattle.exact_read.proofs.RoleBasics.{roled-stop, roled-enter, roled-same}
use Rattle.exact_read.proofs.RoleThen.{roled-then}
use Rattle.c_parse_laws.specs.Firm.{Firm}
use Rattle.c_parse_laws.proofs.Firm.{firm-map, firm-nothing}

-- what a local begins with
abbrev stop_initial : Option unit.Value → Placed → Bool
stop_initial None t = not (is_mark punctuator.LeftBracket t.token) && not (is_mark punctuator.Assign t.token)
stop_initial (Some v) t = stop_value v t

abbrev SetText : (names : List (List ℕ)) → (depth : ℕ) → Option unit.Value → List Leaf → Type 0
SetText names depth = Following (One plain (mark_offset punctuator.Assign)) (λ _. Map (λ v. Some v) (grammar.Value names depth 0))

abbrev InitialText : (names : List (List ℕ)) → (depth : ℕ) → Option unit.Value → List Leaf → Type 0
InitialText names depth = Or (SetText names depth) (Empty None)

abbrev stop_dimensions : Placed → Bool
stop_dimensions t = not (is_mark punctuator.LeftBracket t.token)

and-right : (a b : Bool) → IsTrue (a && b) → IsTrue b
and-right true b h = h
and-right false b h = absurd (cc)

and-left : (a b : Bool) → IsTrue (a && b) → IsTrue a
and-left true b h = refl
and-left false b h = absurd (cc)

unset_same : (v : Option unit.Value) (text : List Leaf) (t : Placed) → Empty None v text → both stop_dimensions (λ t. not (is_mark punctuator.Assign t.token)) t ≡ stop_initial v t
unset_same v text t nothing = refl

unset_second : (v : Option unit.Value) (text : List Leaf) (rest : List Placed) → Empty None v text → Stops (stop_initial v) rest → Stops (λ t. not (is_mark punctuator.Assign t.token)) (plains marks text ++ rest)
unset_second v text [] nothing stops = tt
unset_second v text (t ∷ rest) nothing stops = and-right (stop_dimensions t) (not (is_mark punctuator.Assign t.token)) stops

set_first : (names : List (List ℕ)) (depth : ℕ) (v : Option unit.Value) (text : List Leaf) (b : SetText names depth v text) → text ≡ plain (mark punctuator.Assign b.first) ∷ b.right
set_first names depth v text b = b.cut ∙ ap (λ l. l ++ b.right) (one-mark punctuator.Assign plain b.first b.left b.is_first)

initial_ends : (names : List (List ℕ)) (depth : ℕ) (v : Option unit.Value) (text : List Leaf) (rest : List Placed) → InitialText names depth v text → Stops (stop_initial v) rest → Stops stop_dimensions (plains marks text ++ rest)
initial_ends names depth v text rest (first b) stops = subst (λ l. Stops stop_dimensions (plains marks l ++ rest)) (sym (set_first names depth v text b)) refl
initial_ends names depth v text [] (second nothing) stops = tt
initial_ends names depth v text (t ∷ rest) (second nothing) stops = and-left (stop_dimensions t) (not (is_mark punctuator.Assign t.token)) stops

-- a local
abbrev LocalText : (names : List (List ℕ)) → (depth : ℕ) → unit.Local → List Leaf → Type 0
LocalText names depth local = grammar.Local names depth local (end_of_local local)

abbrev made_local : tree.Declarator × Option unit.Value → unit.Local
made_local made = record { declarator = made.0; value = made.1 }

abbrev RawLocal : (names : List (List ℕ)) → (depth : ℕ) → tree.Declarator × Option unit.Value → List Leaf → Type 0
RawLocal names depth = Then (Declarator names false depth Alone) (λ _. InitialText names depth)

raw_local : (names : List (List ℕ)) (depth : ℕ) (d : tree.Declarator) (v : Option unit.Value) (left right : List Leaf) → Declarator names false depth Alone d left → InitialText names depth v right → LocalText names depth (made_local (d, v)) (left ++ right)
raw_local names depth d v left right h (first b) =
    let m = b.is_second in
    subst (λ l. LocalText names depth (made_local (d, v)) (left ++ l)) (sym (set_first names depth v right b))
    (subst (λ (w : Option unit.Value). LocalText names depth (made_local (d, w)) (left ++ plain (mark punctuator.Assign b.first) ∷ b.right)) (sym m.is) (grammar.set depth d m.inner left b.right b.first h m.derives))
raw_local names depth d v left right h (second nothing) = subst (λ l. LocalText names depth (made_local (d, None)) l) (sym (append-nil left)) (grammar.unset depth d left h)

text_local : (names : List (List ℕ)) (depth : ℕ) (local : unit.Local) (text : List Leaf) → Map made_local (RawLocal names depth) local text → LocalText names depth local text
text_local names depth local text m =
    let t = m.derives in
    subst (λ (l : unit.Local). LocalText names depth l text) (sym m.is) (subst (λ l. LocalText names depth (made_local m.inner) l) (sym t.cut) (raw_local names depth m.inner.0 m.inner.1 t.left t.right t.first t.second))

local_text : (names : List (List ℕ)) (depth : ℕ) (local : unit.Local) (role : Role) (text : List Leaf) → grammar.Local names depth local role text → (role ≡ end_of_local local) × Map made_local (RawLocal names depth) local text
local_text names depth local role text (grammar.unset d x t h) = (refl, record { inner = (x, None); is = refl; derives = record { left = t; right = []; cut = sym (append-nil t); first = h; second = second nothing } })
local_text names depth local role text (grammar.set d x v t right offset h k) =
    (refl, record { inner = (x, Some v); is = refl; derives = record { left = t; right = plain (mark punctuator.Assign offset) ∷ right; cut = refl; first = h; second = first (record { first = offset; left = plain (mark punctuator.Assign offset) ∷ []; right = right; is_first = mark-one punctuator.Assign plain offset; is_second = record { inner = v; is = refl; derives = k }; cut = refl }) } })

abbrev stop_local : unit.Local → Placed → Bool
stop_local local = stop_initial local.value

sample_local : (names : List (List ℕ)) (depth : ℕ) → LocalText names depth (record { declarator = tree.Declared 0 (fresh names) false tree.no_expressions; value = None }) (expected DeclaredName (named (fresh names)) ∷ [])
sample_local names depth = grammar.unset depth (tree.Declared 0 (fresh names) false tree.no_expressions) (expected DeclaredName (named (fresh names)) ∷ []) (declarator false depth Alone 0 (fresh names) false tree.no_expressions [] [] (rw (fresh_is names) refl) no_pointer (given depth Alone tree.no_expressions [] (no_lengths depth Alone)))

local_lists : (names : List (List ℕ)) (depth : ℕ) → Lists (same_part (LocalText names depth)) stop_local punctuator.Semicolon
local_lists names depth = record { at_comma = at_comma; at_close = at_close; apart = refl; some = λ e. (_, _, sample_local names depth) }
  where
    comma_value : (v : unit.Value) (offset : ℕ) → IsTrue (stop_value v (mark punctuator.Comma offset))
    comma_value (unit.Called call) offset = refl
    comma_value (unit.Computed x) offset = computed x offset
      where
        computed : (x : tree.Expression) (offset : ℕ) → IsTrue (stop_value (unit.Computed x) (mark punctuator.Comma offset))
        computed (tree.Named n) offset = refl
        computed other offset = refl

    close_value : (v : unit.Value) (offset : ℕ) → IsTrue (stop_value v (mark punctuator.Semicolon offset))
    close_value (unit.Called call) offset = refl
    close_value (unit.Computed (tree.Named n)) offset = refl
    close_value (unit.Computed other) offset = refl

    at_comma : (x : unit.Local) (offset : ℕ) → IsTrue (stop_local x (mark punctuator.Comma offset))
    at_comma x offset = by_value x.value
      where
        by_value : (v : Option unit.Value) → IsTrue (stop_initial v (mark punctuator.Comma offset))
        by_value None = refl
        by_value (Some v) = comma_value v offset

    at_close : (x : unit.Local) (offset : ℕ) → IsTrue (stop_local x (mark punctuator.Semicolon offset))
    at_close x offset = by_value x.value
      where
        by_value : (v : Option unit.Value) → IsTrue (stop_initial v (mark punctuator.Semicolon offset))
        by_value None = refl
        by_value (Some v) = close_value v offset

-- locals as the grammar has them
listed_locals : (names : List (List ℕ)) (depth : ℕ) (x : unit.Local) (xs : List unit.Local) (role : Role) (text : List Leaf) → Listed (LocalText names depth) end_of_local x xs role text → grammar.LocalList names depth (x ∷ xs) role text
listed_locals names depth x xs role text (last y t h) = grammar.last depth y (end_of_local y) t h
listed_locals names depth x xs role text (more y z zs r t right comma h k) = grammar.more depth y (z ∷ zs) (end_of_local y) r t right comma h (listed_locals names depth z zs r right k)

record ListIs (names : List (List ℕ)) (depth : ℕ) (list : List unit.Local) (role : Role) (text : List Leaf) : Type 0 where
  head : unit.Local
  rest : List unit.Local
  is : list ≡ head ∷ rest
  derives : Listed (LocalText names depth) end_of_local head rest role text

role_local : (names : List (List ℕ)) (depth : ℕ) (x : unit.Local) (role : Role) (text : List Leaf) → grammar.Local names depth x role text → (role ≡ end_of_local x) × LocalText names depth x text
role_local names depth x role text h = let r = (local_text names depth x role text h).0 in (r, subst (λ (e : Role). grammar.Local names depth x e text) r h)

locals_listed : (names : List (List ℕ)) (depth : ℕ) (list : List unit.Local) (role : Role) (text : List Leaf) → grammar.LocalList names depth list role text → ListIs names depth list role text
locals_listed names depth list role text (grammar.last d x e t h) =
    let r = role_local names d x e t h in
    record { head = x; rest = []; is = refl; derives = subst (λ (k : Role). Listed (LocalText names d) end_of_local x [] k t) (sym r.0) (last x t r.1) }
locals_listed names depth list role text (grammar.more d x rest e after t right comma h k) =
    let r = role_local names d x e t h in
    let s = locals_listed names d rest after right k in
    record {
      head = x;
      rest = s.head ∷ s.rest;
      is = ap (λ l. x ∷ l) s.is;
      derives = subst (λ (j : Role). Listed (LocalText names d) end_of_local x (s.head ∷ s.rest) after (t ++ expected j (mark punctuator.Comma comma) ∷ right)) (sym r.0) (more x s.head s.rest after t right comma r.1 s.derives);
    }

abbrev ListingOf : (names : List (List ℕ)) → (depth : ℕ) → List unit.Local → List Leaf → Type 0
ListingOf names depth = Listing (LocalText names depth) end_of_local punctuator.Semicolon

abbrev made_locals : tree.Specifiers × List unit.Local → unit.Locals
made_locals made = record { specifiers = made.0; locals = made.1 }

abbrev RawLocals : (names : List (List ℕ)) → (depth : ℕ) → tree.Specifiers × List unit.Local → List Leaf → Type 0
RawLocals names depth = Then (WithEnd (SpecifiersEnd names InLocalDeclaration depth Alone)) (λ _. ListingOf names depth)

text_locals : (names : List (List ℕ)) (depth : ℕ) (locals : unit.Locals) (text : List Leaf) → Map made_locals (RawLocals names depth) locals text → LocalsText names depth locals text
text_locals names depth locals text m =
    let t = m.derives in
    let l = t.second in
    let s = specified names InLocalDeclaration depth Alone m.inner.0 t.first.end t.left t.first.derives in
    let list : grammar.LocalList names depth m.inner.1 l.role l.inside = subst (λ (v : List unit.Local). grammar.LocalList names depth v l.role l.inside) (sym l.is) (listed_locals names depth l.head l.rest l.role l.inside l.derives) in
    record {
      role = l.role;
      inside = t.left ++ l.inside;
      offset = l.offset;
      derives = subst (λ (v : unit.Locals). grammar.Locals names depth v l.role (t.left ++ l.inside)) (sym m.is) (grammar.locals depth m.inner.0 m.inner.1 l.role t.left l.inside s list);
      cut = t.cut ∙ ap (λ r. t.left ++ r) l.cut ∙ sym (append_assoc t.left l.inside (expected l.role (mark punctuator.Semicolon l.offset) ∷ []));
    }

locals_by : (names : List (List ℕ)) (depth : ℕ) (locals : unit.Locals) (role : Role) (offset : ℕ) (inside : List Leaf) → grammar.Locals names depth locals role inside → Map made_locals (RawLocals names depth) locals (inside ++ expected role (mark punctuator.Semicolon offset) ∷ [])
locals_by names depth locals role offset inside (grammar.locals d s list e left right h k) =
    let l = locals_listed names d list e right k in
    let end = expected e (mark punctuator.Semicolon offset) ∷ [] in
    record {
      inner = (s, list);
      is = refl;
      derives = record {
        left = left;
        right = right ++ end;
        cut = append_assoc left right end;
        first = with_end names InLocalDeclaration d Alone s left h;
        second = record { head = l.head; rest = l.rest; role = e; inside = right; offset = offset; is = l.is; derives = l.derives; cut = refl };
      };
    }

locals_text : (names : List (List ℕ)) (depth : ℕ) (locals : unit.Locals) (text : List Leaf) → LocalsText names depth locals text → Map made_locals (RawLocals names depth) locals text
locals_text names depth locals text l = subst (λ t. Map made_locals (RawLocals names depth) locals t) (sym l.cut) (locals_by names depth locals l.role l.offset l.inside l.derives)

-- a list of locals begins with a declarator
local_first : (names : List (List ℕ)) (depth : ℕ) (x : unit.Local) (role : Role) (text : List Leaf) → grammar.Local names depth x role text → DeclaratorFirst text
local_first names depth x role text (grammar.unset d y t h) = declarator_first names false d Alone y t h
local_first names depth x role text (grammar.set d y v t right offset h k) = let f = declarator_first names false d Alone y t h in record { leaf = f.leaf; more = f.more ++ plain (mark punctuator.Assign offset) ∷ right; cut = ap (λ l. l ++ plain (mark punctuator.Assign offset) ∷ right) f.cut; yes = f.yes }

listed_first : (names : List (List ℕ)) (depth : ℕ) (x : unit.Local) (xs : List unit.Local) (role : Role) (text : List Leaf) → Listed (LocalText names depth) end_of_local x xs role text → DeclaratorFirst text
listed_first names depth x xs role text (last y t h) = local_first names depth y (end_of_local y) t h
listed_first names depth x xs role text (more y z zs r t right comma h k) = let f = local_first names depth y (end_of_local y) t h in record { leaf = f.leaf; more = f.more ++ expected (end_of_local y) (mark punctuator.Comma comma) ∷ right; cut = ap (λ l. l ++ expected (end_of_local y) (mark punctuator.Comma comma) ∷ right) f.cut; yes = f.yes }

-- and specifiers stop there
pub word_no_declarator : {W : Type 0} (of : Rattle.c_token_spec.specs.declared.token.Keyword.Keyword → Option W) (k : Token) → begins_declarator k ≡ true → is_word of k ≡ false
word_no_declarator of (Mark p) e = refl
word_no_declarator of (name_token spelling) e = refl
word_no_declarator of (Word w) e = absurd (cc)
word_no_declarator of (number_token value type) e = refl
word_no_declarator of (character_token value) e = refl

specifiers_stop : (e : Ending) (k : Token) → begins_declarator k ≡ true → IsTrue (not (is_word local_word k) && not (goes_on_with e k))
specifiers_stop e k h = rw (word_no_declarator local_word k h, declarator_stops e k h) refl

some_set : (names : List (List ℕ)) (depth : ℕ) → (v : Option unit.Value) × (right : List Leaf) × Map (λ v. Some v) (grammar.Value names depth 0) v right
some_set names depth = (Some (unit.Computed zero_tree), zero_text, record { inner = unit.Computed zero_tree; is = refl; derives = zero_value names depth 0 })

roled-initial : (names : List (List ℕ)) (inner : Parsers) → AllFirm names inner → (depth : ℕ) → Firm stop_dimensions (InitialText names depth) stop_initial
    (choose (is_mark punctuator.Assign) (following (token Nothing plain (mark_offset punctuator.Assign)) (λ _. Rattle.exact_read.specs.Grammar.read_map (λ value. Some value) (Rattle.c_parse_laws.specs.Values.read_value inner depth 0))) (Rattle.exact_read.specs.Grammar.read_nothing None))
roled-initial names inner all depth =
    roled-choose (is_mark punctuator.Assign)
    record {
      first_begins = λ v text b. (plain (mark punctuator.Assign b.first), b.right, set_first names depth v text b, mark-passes punctuator.Assign (mark punctuator.Assign b.first) b.first (mark-self punctuator.Assign b.first));
      second_begins = λ v text rest one stops. unset_second v text rest one stops;
    }
    (λ t e. after_begins (mark_offset punctuator.Assign) plain (λ t. refl) t t.offset (mark-some punctuator.Assign t e) (some_set names depth))
    (after_silent (mark_offset punctuator.Assign) plain (λ t. refl))
    (roled-enter (both stop_dimensions (λ t. is_mark punctuator.Assign t.token)) (roled-opened (mark_offset punctuator.Assign) Nothing plain (λ t. refl) (λ t. refl) (mark punctuator.Assign 0) 0 (mark-self punctuator.Assign 0)
    (λ x. some_set names depth)
    (λ x t e within. firm-map (λ v. Some v) stop_initial (λ v. refl) (roled-value names inner all depth 0))))
    (roled-stop stop_initial (λ v text one t. unset_same v text t one) (firm-nothing (both stop_dimensions (λ t. not (is_mark punctuator.Assign t.token))) None))

roled-local : (names : List (List ℕ)) (inner : Parsers) → AllFirm names inner → (depth : ℕ) → Firm anything (LocalText names depth) stop_local (read_local names inner depth)
roled-local names inner all depth =
    roled-same anything (LocalText names depth) (read_local names inner depth) (λ t h. h) (text_local names depth) (λ local text h. (local_text names depth local (end_of_local local) text h).1) (λ tokens. refl)
    (firm-map made_local stop_local (λ made. refl)
    (roled-then (roled-declarator (declares_other names) inner depth Alone (λ d count least. all.conditional (suc depth) count)) (λ d. roled-initial names inner all depth)
    record {
      ends = λ d v left right rest one two stops. initial_ends names depth v right rest two stops;
      goes_on = λ d left one. (None, [], second nothing);
    }))

roled-listing : (names : List (List ℕ)) (inner : Parsers) → AllFirm names inner → (depth : ℕ) → Firm anything (ListingOf names depth) (λ _. anything) (read_list_from end_of_local punctuator.Semicolon (read_local names inner depth) (read_local names inner depth))
roled-listing names inner all depth =
    roled-same anything (ListingOf names depth) (read_list_from end_of_local punctuator.Semicolon (read_local names inner depth) (read_local names inner depth)) (λ t h. h)
    (text_listing (LocalText names depth) end_of_local punctuator.Semicolon) (listing_text (LocalText names depth) end_of_local punctuator.Semicolon) (λ tokens. refl)
    (roled-list_from end_of_local (λ x. inl refl) (local_lists names depth) (roled-local names inner all depth) (roled-local names inner all depth))

pub roled-locals : (names : List (List ℕ)) (inner : Parsers) → AllFirm names inner → (depth : ℕ) → Firm anything (LocalsText names depth) (λ _. anything) (read_locals names inner depth)
roled-locals names inner all depth =
    roled-same anything (LocalsText names depth) (read_locals names inner depth) (λ t h. h) (text_locals names depth) (locals_text names depth) (λ tokens. refl)
    (firm-map made_locals (λ _. anything) (λ made. refl)
    (roled-then_beside (roled-local_specifiers names inner all depth) (λ s e left h within. roled-enter (stop_specifiers (is_word local_word) s e) (roled-listing names inner all depth))
    record {
      ends = λ x list left right rest one two stops.
          let f = listed_first names depth two.head two.rest two.role two.inside two.derives in
          subst (λ l. Stops (stop_specifiers (is_word local_word) x.0 x.1) (plains marks l ++ rest)) (sym (two.cut ∙ ap (λ l. l ++ expected two.role (mark punctuator.Semicolon two.offset) ∷ []) f.cut)) (specifiers_stop x.1 f.leaf.token.token f.yes);
      goes_on = λ x left one. (_, _, record { head = _; rest = []; role = Nothing; inside = _; offset = 0; is = refl; derives = last _ _ (sample_local names depth); cut = refl });
    }))
