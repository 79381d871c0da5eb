-- External declarations and units keep roles.
use Rattle.std.proofs.Common.{ℕ, List, Bool, true, false, refl, IsTrue, not, ◌&&◌, ◌≡◌, ◌∷◌, ◌++◌, ap, ◌∙◌, [], suc, sym, subst, Ok, Err, append_assoc, inl, arith}
use Rattle.std.specs.Prelude.{map}
use denote.Enum.Bare.{same_true}
use Rattle.c_token_spec.specs.declared.token.Punctuator.TheVariants as punctuator
use Rattle.c_token_spec.specs.contracts.token.Punctuator.{the_type}
use Rattle.c_token_spec.specs.Lexical.{Placed, Token, Name as name_token, Word, Number as number_token, Character as character_token, Mark}
use Rattle.c_syntax_spec.specs.Expression as tree
use Rattle.c_syntax_spec.specs.Unit as unit
use Rattle.c_parse_spec.specs.declared.Role.{Role}
use Rattle.c_parse_spec.specs.declared.Role.TheVariants.{Nothing, DeclaredName}
use Rattle.c_parse_spec.specs.Leaves.{Leaf, plain, opens, mark, marks, expected, named, roles}
use Rattle.c_parse_spec.specs.Expressions as part
use Rattle.c_parse_spec.specs.Statements.{Parts, no_parts}
use Rattle.c_parse_spec.specs.Units as grammar
use Rattle.c_parse_spec.specs.Units.{is_typedef}
use Rattle.exact_read.specs.Reading.{plains, Stops, Parser, Outcome}
use Rattle.exact_read.specs.Grammar.{One, Map, Then, first, Or, second, read_map, bind, none, anything, Many, some}
use Rattle.exact_read.proofs.Parts.{stops_anything}
use Rattle.exact_read.proofs.Many.{Items}
use Rattle.exact_read.proofs.Whole.{ExactWhole, exact-whole}
use Rattle.c_parse_laws.specs.Classes.{mark_offset, is_mark, begins_type}
use Rattle.c_parse_laws.specs.Exactness.{Closed}
use Rattle.c_parse_laws.specs.Parsers.{following, token, choose}
use Rattle.c_parse_laws.proofs.Marks.{Following, one-mark, mark-one, map_silent, one_first, first_silent, mark-some, map_begins, mark-self, roled-ended_by, roled-opened, roled-choice, after_begins, after_silent, roled-following, roled-mark}
use Rattle.c_parse_laws.specs.Endings.{Ending, WordsAround, BraceToo, WordsToo, goes_on_with, stop_specifiers, SpecifiersEnd}
use Rattle.c_parse_laws.proofs.Declarators.{DeclaratorFirst, pointer_first, declarator_first, begins_declarator}
use Rattle.c_parse_laws.proofs.Ended.{specified, with_end}
use Rattle.c_parse_laws.proofs.ExpressionFuel.{all-roled}
use Rattle.c_parse_laws.proofs.TypeFirsts.{declarator_stops, base_first}
use Rattle.c_parse_laws.specs.Around.{is_word, external_word, read_external_specifiers}
use Rattle.c_parse_laws.proofs.Around.{roled-external_specifiers}
use Rattle.c_parse_laws.proofs.Locals.{word_no_declarator}
use Rattle.c_parse_laws.specs.Parameters.{read_global}
use Rattle.c_parse_laws.specs.GlobalTexts.{stop_global}
use Rattle.c_parse_laws.proofs.GlobalRoles.{roled-global}
use Rattle.c_parse_laws.specs.StatementEnds.{last_open, stop_parts}
use Rattle.c_parse_laws.proofs.StatementAll.{statements-roled}
use Rattle.c_parse_spec.specs.Limits.{statement_fuel}
use Rattle.c_parse_laws.specs.Units.{Read, expressions, read_after_global, read_body, read_external_declaration, read_external_declarations, read_unit}
use Rattle.c_parse_laws.proofs.StatementGlobals.{GlobalsText, global_at, globals_stop, globals_some, globals_made, globals_back, roled-globals}
use Rattle.exact_read.specs.Roles.{Roled}
use Rattle.exact_read.proofs.RoleBasics.{roled-same, roled-enter, roled-map}
use Rattle.exact_read.proofs.RoleBegins.{Silent, Begins, silent_next}
use Rattle.exact_read.proofs.RoleMany.{ItemRoles, roled-many}
use Rattle.c_parse_laws.specs.Firm.{Firm, quiet}
use Rattle.c_parse_laws.proofs.Firm.{firm-map}
use Rattle.c_parse_laws.proofs.TypeBegins.{specifiers_silent}
use Rattle.c_parse_laws.proofs.Keywords.{silent_wrong}
use Rattle.c_parse_laws.proofs.Silent.{specifiers_some}

-- the body of a function after its `{`
abbrev BodyEnd : (names : List (List ℕ)) → tree.Specifiers → unit.FunctionDeclarator → Read → List Leaf → Type 0
BodyEnd names s f = Map (λ (parsed : unit.Parts × ℕ). (unit.Definition s f parsed.0 parsed.1, names)) (Then (Parts names 1) (λ (_ : unit.Parts). One plain (mark_offset punctuator.RightBrace)))

-- the body of a function
abbrev BodyText : (names : List (List ℕ)) → tree.Specifiers → unit.FunctionDeclarator → Read → List Leaf → Type 0
BodyText names s f = Following (One (opens 1) (mark_offset punctuator.LeftBrace)) (λ _. BodyEnd names s f)

parts_end : (x : unit.Parts) (close : ℕ) → IsTrue (stop_parts x (mark punctuator.RightBrace close))
parts_end x close = by_test (last_open false x)
  where
    by_test : (b : Bool) → IsTrue (not (b && false) && true)
    by_test true = refl
    by_test false = refl

body_first : (names : List (List ℕ)) (s : tree.Specifiers) (f : unit.FunctionDeclarator) (read : Read) (text : List Leaf) (b : BodyText names s f read text) → text ≡ opens 1 (mark punctuator.LeftBrace b.first) ∷ b.right
body_first names s f read text b = b.cut ∙ ap (λ l. l ++ b.right) (one-mark punctuator.LeftBrace (opens 1) b.first b.left b.is_first)

-- after specifiers and a first declarator
abbrev AfterGlobal : (names : List (List ℕ)) → tree.Specifiers → unit.Global → Read → List Leaf → Type 0
AfterGlobal names s (unit.Object d) = GlobalsText names s (unit.Object d)
AfterGlobal names s (unit.Function f) = Or (BodyText names s f) (GlobalsText names s (unit.Function f))

after_ends : (names : List (List ℕ)) (s : tree.Specifiers) (g : unit.Global) (read : Read) (text : List Leaf) (rest : List Placed) → AfterGlobal names s g read text → Stops (stop_global (is_typedef s) g) (plains marks text ++ rest)
after_ends names s (unit.Object d) read text rest b =
    let c = is_typedef s in
    globals_stop names s (unit.Object d) read text rest (stop_global c (unit.Object d)) (λ offset. global_at punctuator.Assign refl refl c (unit.Object d) offset) (λ offset. global_at punctuator.Comma refl refl c (unit.Object d) offset) (λ offset. global_at punctuator.Semicolon refl refl c (unit.Object d) offset) b
after_ends names s (unit.Function f) read text rest b = stops_anything (plains marks text ++ rest)

after_some : (names : List (List ℕ)) (s : tree.Specifiers) (g : unit.Global) → (read : Read) × (text : List Leaf) × AfterGlobal names s g read text
after_some names s (unit.Object d) = globals_some names s (unit.Object d)
after_some names s (unit.Function f) = let g = globals_some names s (unit.Function f) in (g.0, g.1, second g.2)

-- after specifiers
abbrev DeclaringText : (names : List (List ℕ)) → tree.Specifiers → Read → List Leaf → Type 0
DeclaringText names s = Following (grammar.GlobalDeclarator names (is_typedef s)) (λ g. AfterGlobal names s g)

abbrev RestText : (names : List (List ℕ)) → tree.Specifiers → Read → List Leaf → Type 0
RestText names s = Or (Map (λ (_ : ℕ). (unit.Declaration s [], names)) (One plain (mark_offset punctuator.Semicolon))) (DeclaringText names s)

abbrev read_declaring : (names : List (List ℕ)) → tree.Specifiers → Parser Placed Role Read
read_declaring names s = following (read_global names (expressions names) (is_typedef s)) (λ g. read_after_global names s g)

abbrev read_rest : (names : List (List ℕ)) → tree.Specifiers → Parser Placed Role Read
read_rest names s = choose (is_mark punctuator.Semicolon) (read_map (λ _. (unit.Declaration s [], names)) (token Nothing plain (mark_offset punctuator.Semicolon))) (read_declaring names s)

function_first : (names : List (List ℕ)) (depth : ℕ) (f : unit.FunctionDeclarator) (text : List Leaf) → grammar.FunctionDeclarator names depth f text → DeclaratorFirst text
function_first names depth f text (grammar.function d p n list end stars inside offset close e h k) = pointer_first p stars (expected DeclaredName (named n)) (opens (suc d) (mark punctuator.LeftParenthesis offset) ∷ inside ++ expected end (mark punctuator.RightParenthesis close) ∷ []) h refl

global_first : (names : List (List ℕ)) (c : Bool) (g : unit.Global) (text : List Leaf) → grammar.GlobalDeclarator names c g text → DeclaratorFirst text
global_first names c g text (grammar.object b d t h) = declarator_first names false 0 part.Alone d t h
global_first names c g text (grammar.function f t h) = function_first names 0 f t h

declaring_first : (names : List (List ℕ)) (s : tree.Specifiers) (read : Read) (text : List Leaf) → DeclaringText names s read text → DeclaratorFirst text
declaring_first names s read text b = let f = global_first names (is_typedef s) b.first b.left b.is_first in record { leaf = f.leaf; more = f.more ++ b.right; cut = b.cut ∙ ap (λ l. l ++ b.right) f.cut; yes = f.yes }

declarator_no_end : (k : Token) → begins_declarator k ≡ true → is_mark punctuator.Semicolon k ≡ false
declarator_no_end (Mark p) e = ap (λ q. is_mark punctuator.Semicolon (Mark q)) (same_true the_type tt p punctuator.Star e)
declarator_no_end (name_token spelling) e = refl
declarator_no_end (Word w) e = refl
declarator_no_end (number_token value type) e = refl
declarator_no_end (character_token value) e = refl

-- specifiers end there
semicolon_stops : (e : Ending) (offset : ℕ) → IsTrue (not (is_word external_word (Mark punctuator.Semicolon)) && not (goes_on_with e (Mark punctuator.Semicolon)))
semicolon_stops WordsAround offset = refl
semicolon_stops BraceToo offset = refl
semicolon_stops (WordsToo words) offset = refl

declarator_ends : (e : Ending) (k : Token) → begins_declarator k ≡ true → IsTrue (not (is_word external_word k) && not (goes_on_with e k))
declarator_ends e k h = rw (word_no_declarator external_word k h, declarator_stops e k h) refl

rest_stops : (names : List (List ℕ)) (s : tree.Specifiers) (e : Ending) (read : Read) (text : List Leaf) (rest : List Placed) → RestText names s read text → Stops (stop_specifiers (is_word external_word) s e) (plains marks text ++ rest)
rest_stops names s e read text rest (first m) = subst (λ l. Stops (stop_specifiers (is_word external_word) s e) (plains marks l ++ rest)) (sym (one-mark punctuator.Semicolon plain m.inner text m.derives)) (semicolon_stops e m.inner)
rest_stops names s e read text rest (second b) = let f = declaring_first names s read text b in subst (λ l. Stops (stop_specifiers (is_word external_word) s e) (plains marks l ++ rest)) (sym f.cut) (declarator_ends e f.leaf.token.token f.yes)

abbrev Ended : Type 0
Ended = tree.Specifiers × Ending

abbrev SpecifiedText : (names : List (List ℕ)) → Read → List Leaf → Type 0
SpecifiedText names = Following (λ (pair : Ended). SpecifiersEnd names part.InExternalDeclaration 0 part.Alone pair.0 pair.1) (λ pair. RestText names pair.0)

after_same : {X E Y : Type 0} (next : X → Parser Placed Role Y) (o : Outcome Placed Role (X × E)) → bind (bind o (λ (pair : X × E) rest. Ok (pair.0, rest))) (λ x rest. next x rest) ≡ bind o (λ (pair : X × E) rest. next pair.0 rest)
after_same next (Ok ((x, e), rest)) = refl
after_same next (Err fault) = refl

-- specifiers begin with no `;`
record Begun (text : List Leaf) : Type 0 where
  leaf : Leaf
  more : List Leaf
  cut : text ≡ leaf ∷ more
  no_end : is_mark punctuator.Semicolon leaf.token.token ≡ false

type_no_end : (names : List (List ℕ)) (k : Token) → begins_type names k ≡ true → is_mark punctuator.Semicolon k ≡ false
type_no_end names (Mark p) e = absurd (cc)
type_no_end names (name_token spelling) e = refl
type_no_end names (Word w) e = refl
type_no_end names (number_token value type) e = refl
type_no_end names (character_token value) e = refl

words_begun : (position : part.Position) (storage : tree.Storage) (before more : List Leaf) → part.Words position storage before → Begun more → Begun (before ++ more)
words_begun position storage before more (part.none p) b = b
words_begun position storage before more (part.const p s t offset h) b = record { leaf = _; more = t ++ more; cut = refl; no_end = refl }
words_begun position storage before more (part.typedef s t offset h) b = record { leaf = _; more = t ++ more; cut = refl; no_end = refl }
words_begun position storage before more (part.extern s t offset h) b = record { leaf = _; more = t ++ more; cut = refl; no_end = refl }
words_begun position storage before more (part.inline s t offset h) b = record { leaf = _; more = t ++ more; cut = refl; no_end = refl }
words_begun position storage before more (part.static_external s t offset h) b = record { leaf = _; more = t ++ more; cut = refl; no_end = refl }
words_begun position storage before more (part.static_local s t offset h) b = record { leaf = _; more = t ++ more; cut = refl; no_end = refl }

specifiers_begun : (names : List (List ℕ)) (s : tree.Specifiers) (e : Ending) (text right : List Leaf) → SpecifiersEnd names part.InExternalDeclaration 0 part.Alone s e text → Begun (text ++ right)
specifiers_begun names s e text right h =
    let f = base_first names 0 part.Alone h.base h.middle h.is_base in
    let b : Begun ((h.middle ++ h.after) ++ right) = record { leaf = f.leaf; more = (f.more ++ h.after) ++ right; cut = ap (λ l. (l ++ h.after) ++ right) f.cut; no_end = type_no_end names f.leaf.token.token f.yes } in
    subst Begun (sym (ap (λ l. l ++ right) h.cut ∙ append_assoc h.before (h.middle ++ h.after) right)) (words_begun part.InExternalDeclaration h.one h.before ((h.middle ++ h.after) ++ right) h.words_before b)

-- an external declaration, and the typedef names after it
abbrev EmptyText : (names : List (List ℕ)) → Read → List Leaf → Type 0
EmptyText names = Map (λ (_ : ℕ). (unit.EmptyDeclaration, names)) (One plain (mark_offset punctuator.Semicolon))

abbrev ItemText : (names : List (List ℕ)) → Read → List Leaf → Type 0
ItemText names = Or (EmptyText names) (SpecifiedText names)

abbrev ItemOf : (names : List (List ℕ)) → Read → List Leaf → Type 0
ItemOf names read text = grammar.ExternalDeclaration names read.0 read.1 text

record FunctionIs (names : List (List ℕ)) (c : Bool) (f : unit.FunctionDeclarator) (text : List Leaf) : Type 0 where
  no_typedef : c ≡ false
  derives : grammar.FunctionDeclarator names 0 f text

function_of : (names : List (List ℕ)) (c : Bool) (f : unit.FunctionDeclarator) (text : List Leaf) → grammar.GlobalDeclarator names c (unit.Function f) text → FunctionIs names c f text
function_of names c f text (grammar.function g t h) = record { no_typedef = refl; derives = h }

declared_item : (names : List (List ℕ)) (s : tree.Specifiers) (g : unit.Global) (read : Read) (left middle right : List Leaf) → part.Specifiers names part.InExternalDeclaration 0 part.Alone s left → grammar.GlobalDeclarator names (is_typedef s) g middle → GlobalsText names s g read right → ItemOf names read (left ++ (middle ++ right))
declared_item names s g read left middle right h k b =
    let m = globals_made names s g read middle right k b in
    subst (λ (r : Read). ItemOf names r (left ++ (middle ++ right))) (sym m.is) (grammar.declaration names s m.globals m.after left (middle ++ right) h m.derives)

global_item : (names : List (List ℕ)) (s : tree.Specifiers) (g : unit.Global) (read : Read) (left middle right : List Leaf) → part.Specifiers names part.InExternalDeclaration 0 part.Alone s left → grammar.GlobalDeclarator names (is_typedef s) g middle → AfterGlobal names s g read right → ItemOf names read (left ++ (middle ++ right))
global_item names s (unit.Object d) read left middle right h k b = declared_item names s (unit.Object d) read left middle right h k b
global_item names s (unit.Function f) read left middle right h k (second b) = declared_item names s (unit.Function f) read left middle right h k b
global_item names s (unit.Function f) read left middle right h k (first b) =
    let m = b.is_second in
    let t = m.derives in
    let close = t.cut ∙ ap (λ r. t.left ++ r) (one-mark punctuator.RightBrace plain m.inner.1 t.right t.second) in
    let w = function_of names (is_typedef s) f middle k in
    subst (λ (r : Read). ItemOf names r (left ++ (middle ++ right))) (sym m.is)
    (subst (λ l. grammar.ExternalDeclaration names (unit.Definition s f m.inner.0 m.inner.1) names (left ++ (middle ++ l))) (sym (body_first names s f read right b ∙ ap (λ l. opens 1 (mark punctuator.LeftBrace b.first) ∷ l) close))
    (grammar.definition names s f m.inner.0 left middle t.left b.first m.inner.1 h w.no_typedef w.derives t.first))

rest_item : (names : List (List ℕ)) (s : tree.Specifiers) (read : Read) (left right : List Leaf) → part.Specifiers names part.InExternalDeclaration 0 part.Alone s left → RestText names s read right → ItemOf names read (left ++ right)
rest_item names s read left right h (first m) =
    subst (λ (r : Read). ItemOf names r (left ++ right)) (sym m.is) (subst (λ l. grammar.ExternalDeclaration names (unit.Declaration s []) names (left ++ l)) (sym (one-mark punctuator.Semicolon plain m.inner right m.derives)) (grammar.nameless names s left m.inner h))
rest_item names s read left right h (second b) = subst (λ l. ItemOf names read (left ++ l)) (sym b.cut) (global_item names s b.first read left b.left b.right h b.is_first b.is_second)

text_item : (names : List (List ℕ)) (read : Read) (text : List Leaf) → ItemText names read text → ItemOf names read text
text_item names read text (first m) =
    subst (λ (r : Read). ItemOf names r text) (sym m.is) (subst (λ l. grammar.ExternalDeclaration names unit.EmptyDeclaration names l) (sym (one-mark punctuator.Semicolon plain m.inner text m.derives)) (grammar.empty names m.inner))
text_item names read text (second b) = subst (λ l. ItemOf names read l) (sym b.cut) (rest_item names b.first.0 read b.left b.right (specified names part.InExternalDeclaration 0 part.Alone b.first.0 b.first.1 b.left b.is_first) b.is_second)

-- and back
rest_back : (names : List (List ℕ)) (s : tree.Specifiers) (read : Read) (left right : List Leaf) → part.Specifiers names part.InExternalDeclaration 0 part.Alone s left → RestText names s read right → SpecifiedText names read (left ++ right)
rest_back names s read left right h r = let w = with_end names part.InExternalDeclaration 0 part.Alone s left h in record { first = (s, w.end); left = left; right = right; is_first = w.derives; is_second = r; cut = refl }

after_globals : (names : List (List ℕ)) (s : tree.Specifiers) (g : unit.Global) (read : Read) (text : List Leaf) → GlobalsText names s g read text → AfterGlobal names s g read text
after_globals names s (unit.Object d) read text b = b
after_globals names s (unit.Function f) read text b = second b

item_text : (names : List (List ℕ)) (item : unit.ExternalDeclaration) (after : List (List ℕ)) (text : List Leaf) → grammar.ExternalDeclaration names item after text → ItemText names (item, after) text
item_text names item after text (grammar.empty n offset) = first (record { inner = offset; is = refl; derives = mark-one punctuator.Semicolon plain offset })
item_text names item after text (grammar.nameless n s t end h) = second (rest_back n s (unit.Declaration s [], n) t (plain (mark punctuator.Semicolon end) ∷ []) h (first (record { inner = end; is = refl; derives = mark-one punctuator.Semicolon plain end })))
item_text names item after text (grammar.declaration n s globals following left right h k) =
    let b = globals_back n s globals following right k in
    second (rest_back n s (unit.Declaration s globals, following) left right h (second (record { first = b.first; left = b.left; right = b.right; is_first = b.is_first; is_second = after_globals n s b.first (unit.Declaration s globals, following) b.right b.are_rest; cut = b.cut })))
item_text names item after text (grammar.definition n s f body left middle inside offset close h e k parts) =
    let right = opens 1 (mark punctuator.LeftBrace offset) ∷ inside ++ plain (mark punctuator.RightBrace close) ∷ [] in
    let b : BodyText n s f (unit.Definition s f body close, n) right = record { first = offset; left = opens 1 (mark punctuator.LeftBrace offset) ∷ []; right = inside ++ plain (mark punctuator.RightBrace close) ∷ []; is_first = mark-one punctuator.LeftBrace (opens 1) offset; is_second = record { inner = (body, close); is = refl; derives = record { left = inside; right = plain (mark punctuator.RightBrace close) ∷ []; cut = refl; first = parts; second = mark-one punctuator.RightBrace plain close } }; cut = refl } in
    second (rest_back n s (unit.Definition s f body close, n) left (middle ++ right) h (second (record { first = unit.Function f; left = middle; right = right; is_first = subst (λ (c : Bool). grammar.GlobalDeclarator n c (unit.Function f) middle) (sym e) (grammar.function f middle k); is_second = first b; cut = refl })))

-- the external declarations of a unit, up to the end
abbrev next_names : List (List ℕ) → Read → List (List ℕ)
next_names names read = read.1

item_items : Items marks (λ (_ : List (List ℕ)) _. true) (λ _ _. true) ItemOf (λ _ _. anything) next_names
item_items = record { begins = begins; opens_next = λ names read rest stops. stops_anything rest; stops_item = λ names read rest stops. stops_anything rest }
  where
    by_text : (names : List (List ℕ)) (read : Read) (text : List Leaf) → ItemText names read text → (u : Leaf) × (more : List Leaf) × (text ≡ u ∷ more) × (true ≡ true)
    by_text names read text (first m) = (plain (mark punctuator.Semicolon m.inner), [], one-mark punctuator.Semicolon plain m.inner text m.derives, refl)
    by_text names read text (second b) = let f = specifiers_begun names b.first.0 b.first.1 b.left b.right b.is_first in (f.leaf, f.more, b.cut ∙ f.cut, refl)

    begins : (names : List (List ℕ)) (read : Read) (text : List Leaf) → ItemOf names read text → (u : Leaf) × (more : List Leaf) × (text ≡ u ∷ more) × (true ≡ true)
    begins names read text h = by_text names read text (item_text names read.0 read.1 text h)

abbrev items_of : List Read → unit.TranslationUnit
items_of reads = map (λ (read : Read). read.0) reads

many_items : (names : List (List ℕ)) (reads : List Read) (text : List Leaf) → Many next_names ItemOf names reads text → grammar.ExternalDeclarations names (items_of reads) text
many_items names reads text (none n) = grammar.none n
many_items names reads text (some n r rs left right h rest) = grammar.some n r.0 (items_of rs) r.1 left right h (many_items r.1 rs right rest)

record ItemsBack (names : List (List ℕ)) (items : unit.TranslationUnit) (text : List Leaf) : Type 0 where
  reads : List Read
  is : items ≡ items_of reads
  derives : Many next_names ItemOf names reads text

items_back : (names : List (List ℕ)) (items : unit.TranslationUnit) (text : List Leaf) → grammar.ExternalDeclarations names items text → ItemsBack names items text
items_back names items text (grammar.none n) = record { reads = []; is = refl; derives = none n }
items_back names items text (grammar.some n item rest after left right h k) =
    let b = items_back after rest right k in
    record { reads = (item, after) ∷ b.reads; is = ap (λ l. item ∷ l) b.is; derives = some n (item, after) b.reads left right h b.derives }

abbrev stop_items : unit.TranslationUnit → Placed → Bool
stop_items items t = false

end_silent : {X : Type 0} (x : X) → Silent marks roles (Map (λ (_ : ℕ). x) (One plain (mark_offset punctuator.Semicolon)))
end_silent x = map_silent (λ (_ : ℕ). x) (λ y u more o. ap (λ (l : Leaf). l.role) (one_first y u more o))

-- external declarations begin with a token without a role
item_silent : (names : List (List ℕ)) → Silent marks roles (ItemOf names)
item_silent names read u more h = by_text (item_text names read.0 read.1 (u ∷ more) h)
  where
    specified_silent : Silent marks roles (SpecifiedText names)
    specified_silent =
        first_silent (λ (pair : Ended) h. specifiers_some names part.InExternalDeclaration 0 part.Alone pair.0 [] (specified names part.InExternalDeclaration 0 part.Alone pair.0 pair.1 [] h) refl)
        (λ (pair : Ended) u more h. specifiers_silent names part.InExternalDeclaration 0 part.Alone pair.0 (u ∷ more) (specified names part.InExternalDeclaration 0 part.Alone pair.0 pair.1 (u ∷ more) h) u more refl)

    by_text : ItemText names read (u ∷ more) → u.role ≡ Nothing
    by_text (first m) = end_silent (unit.EmptyDeclaration, names) read u more m
    by_text (second b) = specified_silent read u more b

-- a `;` without a role
end_begins : {X : Type 0} (x : X) (t : Placed) → is_mark punctuator.Semicolon t.token ≡ true → Begins marks (Map (λ (_ : ℕ). x) (One plain (mark_offset punctuator.Semicolon))) t
end_begins x t e = map_begins (λ (_ : ℕ). x) t (record { value = t.offset; first = plain t; more = []; derives = record { token = t; is = mark-some punctuator.Semicolon t e; cut = refl }; is = refl })

some_body : (names : List (List ℕ)) (s : tree.Specifiers) (f : unit.FunctionDeclarator) → (read : Read) × (right : List Leaf) × BodyEnd names s f read right
some_body names s f = ((unit.Definition s f unit.no_parts 0, names), plain (mark punctuator.RightBrace 0) ∷ [], record { inner = (unit.no_parts, 0); is = refl; derives = record { left = []; right = plain (mark punctuator.RightBrace 0) ∷ []; cut = refl; first = no_parts 1; second = mark-one punctuator.RightBrace plain 0 } })

roled-body : (names : List (List ℕ)) (s : tree.Specifiers) (f : unit.FunctionDeclarator) → Firm anything (BodyText names s f) (λ _. anything) (read_body names s f)
roled-body names s f =
    roled-opened (mark_offset punctuator.LeftBrace) Nothing (opens 1) (λ t. refl) (λ t. refl) (mark punctuator.LeftBrace 0) 0 (mark-self punctuator.LeftBrace 0)
    (λ offset. some_body names s f)
    (λ offset t e within. firm-map (λ (parsed : unit.Parts × ℕ). (unit.Definition s f parsed.0 parsed.1, names)) (λ _. anything) (λ x. refl) (roled-ended_by punctuator.RightBrace Nothing plain (λ t. refl) (λ t. refl) (λ x. inl refl) (λ loose. refl) (statements-roled names statement_fuel 1 (omega arith) (omega arith)).parts parts_end))

roled-after_global : (names : List (List ℕ)) (s : tree.Specifiers) (g : unit.Global) → Firm (stop_global (is_typedef s) g) (AfterGlobal names s g) (λ _. anything) (read_after_global names s g)
roled-after_global names s (unit.Object d) = roled-globals names s (unit.Object d)
roled-after_global names s (unit.Function f) =
    roled-choice (is_mark punctuator.LeftBrace)
    record {
      first_begins = λ read text b. (opens 1 (mark punctuator.LeftBrace b.first), b.right, body_first names s f read text b, refl);
      second_begins = λ read text rest b stops. globals_stop names s (unit.Function f) read text rest (λ t. not (is_mark punctuator.LeftBrace t.token)) (λ offset. refl) (λ offset. refl) (λ offset. refl) b;
    }
    (λ t e. after_begins (mark_offset punctuator.LeftBrace) (opens 1) (λ t. refl) t t.offset (mark-some punctuator.LeftBrace t e) (some_body names s f))
    (after_silent (mark_offset punctuator.LeftBrace) (opens 1) (λ t. refl))
    (roled-body names s f)
    (roled-globals names s (unit.Function f))

roled-declaring : (names : List (List ℕ)) (s : tree.Specifiers) → Firm anything (DeclaringText names s) (λ _. anything) (read_declaring names s)
roled-declaring names s =
    roled-following (roled-global names (expressions names) (all-roled names) (is_typedef s)) (λ g left h w. roled-after_global names s g)
    record {
      ends = λ g read left right rest one two stops. after_ends names s g read right rest two;
      goes_on = λ g left one. after_some names s g;
    }

roled-rest : (names : List (List ℕ)) (s : tree.Specifiers) → Firm anything (RestText names s) (λ _. anything) (read_rest names s)
roled-rest names s =
    roled-choice (is_mark punctuator.Semicolon)
    record {
      first_begins = λ read text m. (plain (mark punctuator.Semicolon m.inner), [], one-mark punctuator.Semicolon plain m.inner text m.derives, refl);
      second_begins = λ read text rest b stops. let f = declaring_first names s read text b in subst (λ l. Stops (λ t. not (is_mark punctuator.Semicolon t.token)) (plains marks l ++ rest)) (sym f.cut) (rw (declarator_no_end f.leaf.token.token f.yes) refl);
    }
    (end_begins (unit.Declaration s [], names))
    (end_silent (unit.Declaration s [], names))
    (firm-map (λ (_ : ℕ). (unit.Declaration s [], names)) (λ _. anything) (λ x. refl) (roled-mark anything punctuator.Semicolon Nothing plain (λ t. refl) (λ t. refl)))
    (roled-declaring names s)

roled-specified : (names : List (List ℕ)) → Firm anything (SpecifiedText names) (λ _. anything) (following (read_external_specifiers names (expressions names) 0) (λ s. read_rest names s))
roled-specified names =
    let one = roled-external_specifiers names (expressions names) (all-roled names) 0 in
    roled-same anything (SpecifiedText names) (following (read_external_specifiers names (expressions names) 0) (λ s. read_rest names s)) (λ t h. h) (λ x text h. h) (λ x text h. h)
    (λ tokens. ap (λ o. bind o (λ s rest. read_rest names s rest)) (one.same tokens) ∙ after_same (read_rest names) (one.both tokens))
    (roled-following one.is (λ pair left h w. roled-enter (stop_specifiers (is_word external_word) pair.0 pair.1) (roled-rest names pair.0))
    record {
      ends = λ pair read left right rest h two stops. rest_stops names pair.0 pair.1 read right rest two;
      goes_on = λ pair left h. ((unit.Declaration pair.0 [], names), plain (mark punctuator.Semicolon 0) ∷ [], first (record { inner = 0; is = refl; derives = mark-one punctuator.Semicolon plain 0 }));
    })

pub roled-item : (names : List (List ℕ)) → Firm anything (ItemOf names) (λ _. anything) (read_external_declaration names)
roled-item names =
    roled-same anything (ItemOf names) (read_external_declaration names) (λ t h. h) (text_item names) (λ read text h. item_text names read.0 read.1 text h) (λ tokens. refl)
    (roled-choice (is_mark punctuator.Semicolon)
    record {
      first_begins = λ read text m. (plain (mark punctuator.Semicolon m.inner), [], one-mark punctuator.Semicolon plain m.inner text m.derives, refl);
      second_begins = λ read text rest b stops. let f = specifiers_begun names b.first.0 b.first.1 b.left b.right b.is_first in subst (λ l. Stops (λ t. not (is_mark punctuator.Semicolon t.token)) (plains marks l ++ rest)) (sym (b.cut ∙ f.cut)) (rw f.no_end refl);
    }
    (end_begins (unit.EmptyDeclaration, names))
    (end_silent (unit.EmptyDeclaration, names))
    (firm-map (λ (_ : ℕ). (unit.EmptyDeclaration, names)) (λ _. anything) (λ x. refl) (roled-mark anything punctuator.Semicolon Nothing plain (λ t. refl) (λ t. refl)))
    (roled-specified names))

item_roles : ItemRoles marks roles (λ (_ : List (List ℕ)) _. true) ItemOf next_names (λ _ _. Nothing) (λ _. Nothing) (Unit {0}) read_external_declaration
item_roles =
    record {
      enters = λ names t more kind s e. (tt, silent_wrong (roled-item names) (item_silent names) t more kind refl e);
      loose = λ h names. refl;
      begins = λ names u n. inl (silent_next (item_silent names) u n);
      ends = λ names x text one. inl refl;
    }

pub roled-items : Roled marks roles anything grammar.Unit stop_items quiet (Unit {0}) read_external_declarations
roled-items =
    roled-same anything grammar.Unit read_external_declarations (λ t h. refl)
    (λ items text m. subst (λ (v : unit.TranslationUnit). grammar.ExternalDeclarations [] v text) (sym m.is) (many_items [] m.inner text m.derives))
    (λ items text h. let b = items_back [] items text h in record { inner = b.reads; is = b.is; derives = b.derives })
    (λ tokens. refl)
    (roled-map items_of stop_items quiet (λ reads. refl) (λ reads. inl refl) (roled-many item_items item_roles (λ names. roled-enter (λ _. true) (roled-item names)) []))

pub unit-exact : ExactWhole marks grammar.Unit read_unit
unit-exact = exact-whole Nothing roled-items.exact
