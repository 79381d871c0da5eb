-- Globals with their initial values keep roles, the typedef names in scope carried from each to the next.
use Rattle.std.proofs.Common.{ℕ, Bool, List, Some, None, Option, not, ◌&&◌, ◌≡◌, true, false, refl, IsTrue, [], ◌∷◌, ◌++◌, ap, ◌∙◌, sym, subst, append-nil, append_assoc, arith, inl, inr}
use Rattle.c_token_spec.specs.declared.token.Punctuator.{Punctuator}
use Rattle.c_token_spec.specs.declared.token.Punctuator.TheVariants as punctuator
use Rattle.c_token_spec.specs.Lexical.{Placed, Mark}
use Rattle.c_syntax_spec.specs.Expression as tree
use Rattle.c_syntax_spec.specs.Unit as unit
use Rattle.c_parse_spec.specs.declared.Role.{Role}
use Rattle.c_parse_spec.specs.declared.Role.TheVariants.{Nothing, DeclaredName}
use Rattle.c_parse_spec.specs.Leaves.{Leaf, plain, mark, marks, expected, named}
use Rattle.c_parse_spec.specs.Expressions as part
use Rattle.c_parse_spec.specs.Units as grammar
use Rattle.c_parse_spec.specs.Units.{names_after, is_typedef}
use Rattle.exact_read.specs.Reading.{plains, Stops}
use Rattle.exact_read.specs.Grammar.{One, Map, Or, Nothing as Empty, nothing, first, second, none, some, anything, context_after}
use Rattle.exact_read.proofs.Parts.{both}
use Rattle.c_parse_laws.specs.Classes.{mark_offset, is_mark}
use Rattle.c_parse_laws.proofs.Marks.{Following, one-mark, mark-one, mark-self, mark-some, roled-opened, roled-choose, after_begins, after_silent, roled-following}
use Rattle.c_parse_laws.proofs.Samples.{zero_tree, zero_text, zero_conditional}
use Rattle.c_parse_laws.proofs.Fresh.{fresh, fresh_is}
use Rattle.c_parse_laws.proofs.ExpressionFuel.{all-roled}
use Rattle.c_parse_laws.proofs.Lists.{Before, MoreText, EndText, Lists, end_some, end_stops, next_before, roled-end}
use Rattle.c_parse_laws.specs.GlobalTexts.{stop_global}
use Rattle.c_parse_laws.proofs.GlobalRoles.{roled-global}
use Rattle.c_parse_laws.specs.Initializers.{end_of_initial}
use Rattle.c_parse_spec.specs.Limits.{statement_fuel}
use Rattle.c_parse_laws.specs.Units.{Initial, expressions, end_of_global, State, state_following, state_after, Read, globals_of, read_initial_after, read_initial_declarator, next_state, read_globals}
use Rattle.c_parse_laws.proofs.StatementLists.{InitialIs, stop_last, initializer, initial_back, computed}
use Rattle.c_parse_laws.proofs.Braces.{roled-initial}
use Rattle.exact_read.proofs.RoleBasics.{roled-stop, roled-enter}
use Rattle.c_parse_laws.specs.Firm.{Firm}
use Rattle.c_parse_laws.proofs.Firm.{firm-map, firm-nothing}

-- what follows the declarator of a global
abbrev SetText : (names : List (List ℕ)) → (is_typedef : Bool) → unit.Global → Initial → List Leaf → Type 0
SetText names is_typedef g = Following (One plain (mark_offset punctuator.Assign)) (λ _. Map (λ last. (g, Some last)) (InitialIs (names_after is_typedef g names) 0))

abbrev pub FollowingText : (names : List (List ℕ)) → (is_typedef : Bool) → unit.Global → Initial → List Leaf → Type 0
FollowingText names is_typedef g = Or (SetText names is_typedef g) (Empty (g, None))

abbrev stop_set : (stop : Placed → Bool) → Option (Option tree.Expression) → Placed → Bool
stop_set stop None t = stop t && not (is_mark punctuator.Assign t.token)
stop_set stop (Some last) t = stop_last last t

abbrev pub stop_initial : (is_typedef : Bool) → Initial → Placed → Bool
stop_initial is_typedef i = stop_set (stop_global is_typedef i.0) i.1

-- a declarator ends at a punctuator that doesn't go on with it
pub global_at : (p : Punctuator) → is_mark punctuator.LeftParenthesis (Mark p) ≡ false → is_mark punctuator.LeftBracket (Mark p) ≡ false → (is_typedef : Bool) (g : unit.Global) (offset : ℕ) → IsTrue (stop_global is_typedef g (mark p offset))
global_at p e f is_typedef (unit.Function x) offset = refl
global_at p e f is_typedef (unit.Object (tree.Declared a n true l)) offset = rw f refl
global_at p e f true (unit.Object (tree.Declared a n false tree.no_expressions)) offset = rw f refl
global_at p e f false (unit.Object (tree.Declared a n false tree.no_expressions)) offset = rw (e, f) refl
global_at p e f is_typedef (unit.Object (tree.Declared a n false (tree.expressions x r))) offset = rw f refl

and-right : (a b : Bool) → IsTrue (a && b) → IsTrue b
and-right true b h = h
and-right false b h = absurd (cc)

and-left : (a b : Bool) → IsTrue (a && b) → IsTrue a
and-left true b h = refl
and-left false b h = absurd (cc)

unset_same : (is_typedef : Bool) (g : unit.Global) (i : Initial) (text : List Leaf) (t : Placed) → Empty (g, None) i text → both (stop_global is_typedef g) (λ t. not (is_mark punctuator.Assign t.token)) t ≡ stop_initial is_typedef i t
unset_same is_typedef g i text t nothing = refl

unset_second : (is_typedef : Bool) (g : unit.Global) (i : Initial) (text : List Leaf) (rest : List Placed) → Empty (g, None) i text → Stops (stop_initial is_typedef i) rest → Stops (λ t. not (is_mark punctuator.Assign t.token)) (plains marks text ++ rest)
unset_second is_typedef g i text [] nothing stops = tt
unset_second is_typedef g i text (t ∷ rest) nothing stops = and-right (stop_global is_typedef g t) (not (is_mark punctuator.Assign t.token)) stops

set_first : (names : List (List ℕ)) (is_typedef : Bool) (g : unit.Global) (i : Initial) (text : List Leaf) (b : SetText names is_typedef g i text) → text ≡ plain (mark punctuator.Assign b.first) ∷ b.right
set_first names is_typedef g i text b = b.cut ∙ ap (λ l. l ++ b.right) (one-mark punctuator.Assign plain b.first b.left b.is_first)

after_ends : (names : List (List ℕ)) (is_typedef : Bool) (g : unit.Global) (i : Initial) (text : List Leaf) (rest : List Placed) → FollowingText names is_typedef g i text → Stops (stop_initial is_typedef i) rest → Stops (stop_global is_typedef g) (plains marks text ++ rest)
after_ends names is_typedef g i text rest (first b) stops = subst (λ l. Stops (stop_global is_typedef g) (plains marks l ++ rest)) (sym (set_first names is_typedef g i text b)) (global_at punctuator.Assign refl refl is_typedef g b.first)
after_ends names is_typedef g i text [] (second nothing) stops = tt
after_ends names is_typedef g i text (t ∷ rest) (second nothing) stops = and-left (stop_global is_typedef g t) (not (is_mark punctuator.Assign t.token)) stops

-- a global, and its initial value
abbrev pub InitialOf : (names : List (List ℕ)) → (is_typedef : Bool) → Initial → List Leaf → Type 0
InitialOf names is_typedef = Following (grammar.GlobalDeclarator names is_typedef) (λ g. FollowingText names is_typedef g)

declared : (names : List (List ℕ)) (is_typedef : Bool) (i : Initial) (text : List Leaf) → InitialOf names is_typedef i text → grammar.InitialDeclarator names is_typedef i.0 (end_of_global i.1) text
declared names is_typedef i text b = subst (λ l. grammar.InitialDeclarator names is_typedef i.0 (end_of_global i.1) l) (sym b.cut) (by_way i b.first b.left b.right b.is_first b.is_second)
  where
    by_way : (i : Initial) (g : unit.Global) (left right : List Leaf) → grammar.GlobalDeclarator names is_typedef g left → FollowingText names is_typedef g i right → grammar.InitialDeclarator names is_typedef i.0 (end_of_global i.1) (left ++ right)
    by_way i g left right h (first s) =
        let m = s.is_second in
        subst (λ l. grammar.InitialDeclarator names is_typedef i.0 (end_of_global i.1) (left ++ l)) (sym (set_first names is_typedef g i right s))
        (subst (λ (v : Initial). grammar.InitialDeclarator names is_typedef v.0 (end_of_global v.1) (left ++ plain (mark punctuator.Assign s.first) ∷ s.right)) (sym m.is)
        (grammar.set is_typedef g (end_of_initial m.inner) left s.right s.first h (initializer (names_after is_typedef g names) 0 m.inner s.right m.derives)))
    by_way i g left right h (second nothing) = subst (λ l. grammar.InitialDeclarator names is_typedef g Nothing l) (sym (append-nil left)) (grammar.unset is_typedef g left h)

record DeclaredBack (names : List (List ℕ)) (is_typedef : Bool) (g : unit.Global) (end : Role) (text : List Leaf) : Type 0 where
  initial : Option (Option tree.Expression)
  derives : InitialOf names is_typedef (g, initial) text
  is_end : end ≡ end_of_global initial

declared_back : (names : List (List ℕ)) (is_typedef : Bool) (g : unit.Global) (end : Role) (text : List Leaf) → grammar.InitialDeclarator names is_typedef g end text → DeclaredBack names is_typedef g end text
declared_back names is_typedef g end text (grammar.unset c x t h) = record { initial = None; derives = record { first = x; left = t; right = []; is_first = h; is_second = second nothing; cut = sym (append-nil t) }; is_end = refl }
declared_back names is_typedef g end text (grammar.set c x e t right offset h k) =
    let r = initial_back (names_after c x names) 0 e right k in
    record {
      initial = Some r.last;
      derives = record {
        first = x;
        left = t;
        right = plain (mark punctuator.Assign offset) ∷ right;
        is_first = h;
        is_second = first (record { first = offset; left = plain (mark punctuator.Assign offset) ∷ []; right = right; is_first = mark-one punctuator.Assign plain offset; is_second = record { inner = r.last; is = refl; derives = r.derives }; cut = refl });
        cut = refl;
      };
      is_end = r.is_end;
    }

-- globals after a first: the state is the names in scope, and what is expected
abbrev step : (is_typedef : Bool) → List (List ℕ) → Initial → List (List ℕ)
step is_typedef names i = names_after is_typedef i.0 names

abbrev of : List (List ℕ) → Initial → State
of names i = (names, end_of_global i.1)

abbrev put : List (List ℕ) → Initial → Placed → Leaf
put names i = expected (end_of_global i.1)

abbrev OneOf : (is_typedef : Bool) → List (List ℕ) → Initial → List Leaf → Type 0
OneOf is_typedef names = InitialOf names is_typedef

abbrev put_close : (is_typedef : Bool) → Before (List (List ℕ)) Initial → List Initial → Placed → Leaf
put_close is_typedef d xs = expected (state_following is_typedef (of d.0 d.1) xs).1

abbrev MoreOf : (is_typedef : Bool) → Before (List (List ℕ)) Initial → List Initial → List Leaf → Type 0
MoreOf is_typedef = MoreText (step is_typedef) put (OneOf is_typedef)

abbrev EndOf : (is_typedef : Bool) → Before (List (List ℕ)) Initial → List Initial × ℕ → List Leaf → Type 0
EndOf is_typedef = EndText (step is_typedef) put (OneOf is_typedef) punctuator.Semicolon (put_close is_typedef)

sample : (names : List (List ℕ)) (is_typedef : Bool) → InitialOf names is_typedef (unit.Object (tree.Declared 0 (fresh names) false tree.no_expressions), None) (expected DeclaredName (named (fresh names)) ∷ [])
sample names is_typedef =
    let d = tree.Declared 0 (fresh names) false tree.no_expressions in
    let t = expected DeclaredName (named (fresh names)) ∷ [] in
    record {
      first = unit.Object d;
      left = t;
      right = [];
      is_first = grammar.object is_typedef d t (part.declarator false 0 part.Alone 0 (fresh names) false tree.no_expressions [] [] (rw (fresh_is names) refl) part.none (part.given 0 part.Alone tree.no_expressions [] (part.no_lengths 0 part.Alone)));
      is_second = second nothing;
      cut = refl;
    }

-- any test that passes at a `,` and at a `;`
lists_by : (is_typedef : Bool) (stop : Initial → Placed → Bool) → ((i : Initial) (offset : ℕ) → IsTrue (stop i (mark punctuator.Comma offset))) → ((i : Initial) (offset : ℕ) → IsTrue (stop i (mark punctuator.Semicolon offset))) → Lists (OneOf is_typedef) stop punctuator.Semicolon
lists_by is_typedef stop at_comma at_close = record { at_comma = at_comma; at_close = at_close; apart = refl; some = λ names. (_, _, sample names is_typedef) }

initial_at : (p : Punctuator) → is_mark punctuator.LeftParenthesis (Mark p) ≡ false → is_mark punctuator.LeftBracket (Mark p) ≡ false → is_mark punctuator.Assign (Mark p) ≡ false → ((last : Option tree.Expression) (offset : ℕ) → IsTrue (stop_last last (mark p offset))) → (is_typedef : Bool) (i : Initial) (offset : ℕ) → IsTrue (stop_initial is_typedef i (mark p offset))
initial_at p e f no_assign ends is_typedef i offset = by_value i.1
  where
    and_true : (a b : Bool) → IsTrue a → b ≡ false → IsTrue (a && not b)
    and_true true b h e = rw e refl
    and_true false b h e = absurd (cc)

    by_value : (v : Option (Option tree.Expression)) → IsTrue (stop_set (stop_global is_typedef i.0) v (mark p offset))
    by_value None = and_true (stop_global is_typedef i.0 (mark p offset)) (is_mark punctuator.Assign (Mark p)) (global_at p e f is_typedef i.0 offset) no_assign
    by_value (Some last) = ends last offset

comma_last : (last : Option tree.Expression) (offset : ℕ) → IsTrue (stop_last last (mark punctuator.Comma offset))
comma_last None offset = refl
comma_last (Some x) offset = refl

close_last : (last : Option tree.Expression) (offset : ℕ) → IsTrue (stop_last last (mark punctuator.Semicolon offset))
close_last None offset = refl
close_last (Some x) offset = refl

lists : (is_typedef : Bool) → Lists (OneOf is_typedef) (stop_initial is_typedef) punctuator.Semicolon
lists is_typedef = lists_by is_typedef (stop_initial is_typedef) (λ i offset. initial_at punctuator.Comma refl refl refl comma_last is_typedef i offset) (λ i offset. initial_at punctuator.Semicolon refl refl refl close_last is_typedef i offset)

-- what follows specifiers and a first declarator
abbrev made_declaration : (names : List (List ℕ)) → tree.Specifiers → Initial → List Initial → Read
made_declaration names s head more = (unit.Declaration s (head.0 ∷ globals_of more), (state_following (is_typedef s) (state_after (is_typedef s) names head) more).0)

abbrev after_first : (names : List (List ℕ)) → (is_typedef : Bool) → Initial → Before (List (List ℕ)) Initial
after_first names is_typedef head = (names_after is_typedef head.0 names, head)

abbrev pub GlobalsText : (names : List (List ℕ)) → tree.Specifiers → unit.Global → Read → List Leaf → Type 0
GlobalsText names s g = Following (FollowingText names (is_typedef s) g) (λ head. Map (made_declaration names s head) (Map (λ (made : List Initial × ℕ). made.0) (EndOf (is_typedef s) (after_first names (is_typedef s) head))))

pub globals_some : (names : List (List ℕ)) (s : tree.Specifiers) (g : unit.Global) → (read : Read) × (text : List Leaf) × GlobalsText names s g read text
globals_some names s g =
    let c = is_typedef s in
    let head : Initial = (g, None) in
    let e = end_some (step c) put (OneOf c) punctuator.Semicolon (put_close c) (after_first names c head) in
    (made_declaration names s head e.0.0, e.1, record { first = head; left = []; right = e.1; is_first = second nothing; is_second = record { inner = e.0.0; is = refl; derives = record { inner = e.0; is = refl; derives = e.2 } }; cut = refl })

-- it begins with `=`, `,` or `;`
pub globals_stop : (names : List (List ℕ)) (s : tree.Specifiers) (g : unit.Global) (read : Read) (text : List Leaf) (rest : List Placed) (test : Placed → Bool) → ((offset : ℕ) → IsTrue (test (mark punctuator.Assign offset))) → ((offset : ℕ) → IsTrue (test (mark punctuator.Comma offset))) → ((offset : ℕ) → IsTrue (test (mark punctuator.Semicolon offset)))
    → GlobalsText names s g read text → Stops test (plains marks text ++ rest)
globals_stop names s g read text rest test at_assign at_comma at_close b =
    subst (λ l. Stops test (plains marks l ++ rest)) (sym b.cut) (by_way b.first b.left b.is_first b.is_second)
  where
    by_way : (head : Initial) (left : List Leaf) → FollowingText names (is_typedef s) g head left → Map (made_declaration names s head) (Map (λ (made : List Initial × ℕ). made.0) (EndOf (is_typedef s) (after_first names (is_typedef s) head))) read b.right → Stops test (plains marks (left ++ b.right) ++ rest)
    by_way head left (first i) m = subst (λ l. Stops test (plains marks (l ++ b.right) ++ rest)) (sym (set_first names (is_typedef s) g head left i)) (at_assign i.first)
    by_way head left (second nothing) m =
        let n = m.derives in
        end_stops (lists_by (is_typedef s) (λ _. test) (λ i offset. at_comma offset) (λ i offset. at_close offset)) (step (is_typedef s)) put (λ e x t. refl) (put_close (is_typedef s)) (λ d xs t. refl) (after_first names (is_typedef s) (g, None)) n.inner b.right rest n.derives

-- as the grammar has them
abbrev Made : (is_typedef : Bool) → Before (List (List ℕ)) Initial → List Initial → List Leaf → Type 0
Made is_typedef d xs text =
    (names : List (List ℕ)) (left : List Leaf) (close : ℕ) → d.0 ≡ names_after is_typedef d.1.0 names → InitialOf names is_typedef d.1 left
    → grammar.Globals names is_typedef (d.1.0 ∷ globals_of xs) (state_following is_typedef (of d.0 d.1) xs).0 (left ++ (text ++ put_close is_typedef d xs (mark punctuator.Semicolon close) ∷ []))

made_none : (is_typedef : Bool) (d : Before (List (List ℕ)) Initial) → Made is_typedef d [] []
made_none is_typedef d names left close e h =
    subst (λ (after : List (List ℕ)). grammar.Globals names is_typedef (d.1.0 ∷ []) after (left ++ put_close is_typedef d [] (mark punctuator.Semicolon close) ∷ [])) (sym e)
    (grammar.last names is_typedef d.1.0 (end_of_global d.1.1) left close (declared names is_typedef d.1 left h))

made_some : (is_typedef : Bool) (d : Before (List (List ℕ)) Initial) (y : Initial) (ys : List Initial) (one two : List Leaf) → Following (One (put d.0 d.1) (mark_offset punctuator.Comma)) (λ _. InitialOf d.0 is_typedef) y one → Made is_typedef (names_after is_typedef y.0 d.0, y) ys two → Made is_typedef d (y ∷ ys) (one ++ two)
made_some is_typedef d y ys one two b again names left close e h =
    let after = (state_following is_typedef (of d.0 d.1) (y ∷ ys)).0 in
    let end = put_close is_typedef d (y ∷ ys) (mark punctuator.Semicolon close) ∷ [] in
    let cut : (one ++ two) ++ end ≡ put d.0 d.1 (mark punctuator.Comma b.first) ∷ (b.right ++ (two ++ end)) =
    append_assoc one two end ∙ ap (λ l. l ++ (two ++ end)) (b.cut ∙ ap (λ l. l ++ b.right) (one-mark punctuator.Comma (put d.0 d.1) b.first b.left b.is_first)) in
    subst (λ l. grammar.Globals names is_typedef (d.1.0 ∷ y.0 ∷ globals_of ys) after (left ++ l)) (sym cut)
    (grammar.more names is_typedef d.1.0 (y.0 ∷ globals_of ys) after (end_of_global d.1.1) left (b.right ++ (two ++ end)) b.first (declared names is_typedef d.1 left h)
    (subst (λ (n : List (List ℕ)). grammar.Globals n is_typedef (y.0 ∷ globals_of ys) after (b.right ++ (two ++ end))) e (again d.0 b.right close refl b.is_second)))

made : (is_typedef : Bool) (d : Before (List (List ℕ)) Initial) (xs : List Initial) (text : List Leaf) → MoreOf is_typedef d xs text → Made is_typedef d xs text
made is_typedef d xs text (none k) = made_none is_typedef k
made is_typedef d xs text (some k y ys one two b rest) = made_some is_typedef k y ys one two b (made is_typedef (names_after is_typedef y.0 k.0, y) ys two rest)

pub record GlobalsMade (names : List (List ℕ)) (s : tree.Specifiers) (read : Read) (text : List Leaf) : Type 0 where
  pub globals : List unit.Global
  pub after : List (List ℕ)
  pub is : read ≡ (unit.Declaration s globals, after)
  pub derives : grammar.Globals names (is_typedef s) globals after text

pub globals_made : (names : List (List ℕ)) (s : tree.Specifiers) (g : unit.Global) (read : Read) (left text : List Leaf) → grammar.GlobalDeclarator names (is_typedef s) g left → GlobalsText names s g read text → GlobalsMade names s read (left ++ text)
globals_made names s g read left text h b =
    let c = is_typedef s in
    let head = b.first in
    let m = b.is_second in
    let n = m.derives in
    let t = n.derives in
    let xs = n.inner.0 in
    let d = after_first names c head in
    let end = put_close c d xs (mark punctuator.Semicolon n.inner.1) ∷ [] in
    let cut : left ++ text ≡ (left ++ b.left) ++ (t.left ++ end) = ap (λ l. left ++ l) (b.cut ∙ ap (λ l. b.left ++ l) (t.cut ∙ ap (λ l. t.left ++ l) (one-mark punctuator.Semicolon (put_close c d xs) n.inner.1 t.right t.second))) ∙ sym (append_assoc left b.left (t.left ++ end)) in
    record {
      globals = head.0 ∷ globals_of xs;
      after = (state_following c (of d.0 d.1) xs).0;
      is = m.is ∙ ap (made_declaration names s head) n.is;
      derives = subst (λ l. grammar.Globals names c (head.0 ∷ globals_of xs) (state_following c (of d.0 d.1) xs).0 l) (sym cut)
          (made c d xs t.left t.first names (left ++ b.left) n.inner.1 refl (record { first = g; left = left; right = b.left; is_first = h; is_second = b.is_first; cut = refl }));
    }

-- and back
record Split (names : List (List ℕ)) (is_typedef : Bool) (globals : List unit.Global) (after : List (List ℕ)) (text : List Leaf) : Type 0 where
  head : Initial
  rest : List Initial
  left : List Leaf
  middle : List Leaf
  close : ℕ
  is_head : InitialOf names is_typedef head left
  are_rest : MoreOf is_typedef (after_first names is_typedef head) rest middle
  is : globals ≡ head.0 ∷ globals_of rest
  is_after : after ≡ (state_following is_typedef (state_after is_typedef names head) rest).0
  cut : text ≡ left ++ (middle ++ put_close is_typedef (after_first names is_typedef head) rest (mark punctuator.Semicolon close) ∷ [])

split : (names : List (List ℕ)) (is_typedef : Bool) (globals : List unit.Global) (after : List (List ℕ)) (text : List Leaf) → grammar.Globals names is_typedef globals after text → Split names is_typedef globals after text
split names is_typedef globals after text (grammar.last n c g e t close h) =
    let r = declared_back n c g e t h in
    record { head = (g, r.initial); rest = []; left = t; middle = []; close = close; is_head = r.derives; are_rest = none (after_first n c (g, r.initial)); is = refl; is_after = refl; cut = ap (λ (k : Role). t ++ expected k (mark punctuator.Semicolon close) ∷ []) r.is_end }
split names is_typedef globals after text (grammar.more n c g others last e t right comma h k) =
    let r = declared_back n c g e t h in
    let s = split (names_after c g n) c others last right k in
    let at = expected (end_of_global r.initial) (mark punctuator.Comma comma) in
    let end = put_close c (after_first (names_after c g n) c s.head) s.rest (mark punctuator.Semicolon s.close) ∷ [] in
    record {
      head = (g, r.initial);
      rest = s.head ∷ s.rest;
      left = t;
      middle = (at ∷ s.left) ++ s.middle;
      close = s.close;
      is_head = r.derives;
      are_rest = some (after_first n c (g, r.initial)) s.head s.rest (at ∷ s.left) s.middle
          (record { first = comma; left = at ∷ []; right = s.left; is_first = mark-one punctuator.Comma (expected (end_of_global r.initial)) comma; is_second = s.is_head; cut = refl })
          s.are_rest;
      is = ap (λ l. g ∷ l) s.is;
      is_after = s.is_after;
      cut = ap (λ (j : Role). t ++ expected j (mark punctuator.Comma comma) ∷ right) r.is_end ∙ ap (λ l. t ++ at ∷ l) (s.cut ∙ sym (append_assoc s.left s.middle end));
    }

abbrev declaration : tree.Specifiers → List unit.Global → List (List ℕ) → Read
declaration s globals after = (unit.Declaration s globals, after)

pub record GlobalsBack (names : List (List ℕ)) (s : tree.Specifiers) (globals : List unit.Global) (after : List (List ℕ)) (text : List Leaf) : Type 0 where
  pub first : unit.Global
  pub left : List Leaf
  pub right : List Leaf
  pub is_first : grammar.GlobalDeclarator names (is_typedef s) first left
  pub are_rest : GlobalsText names s first (unit.Declaration s globals, after) right
  pub cut : text ≡ left ++ right

pub globals_back : (names : List (List ℕ)) (s : tree.Specifiers) (globals : List unit.Global) (after : List (List ℕ)) (text : List Leaf) → grammar.Globals names (is_typedef s) globals after text → GlobalsBack names s globals after text
globals_back names s globals after text h =
    let c = is_typedef s in
    let k = split names c globals after text h in
    let b = k.is_head in
    let end = put_close c (after_first names c k.head) k.rest (mark punctuator.Semicolon k.close) ∷ [] in
    record {
      first = b.first;
      left = b.left;
      right = b.right ++ (k.middle ++ end);
      is_first = b.is_first;
      are_rest = record {
        first = k.head;
        left = b.right;
        right = k.middle ++ end;
        is_first = b.is_second;
        is_second = record {
          inner = k.rest;
          is = ap (λ (l : List unit.Global). declaration s l after) k.is ∙ ap (λ (a : List (List ℕ)). declaration s (k.head.0 ∷ globals_of k.rest) a) k.is_after;
          derives = record { inner = (k.rest, k.close); is = refl; derives = record { left = k.middle; right = end; cut = refl; first = k.are_rest; second = mark-one punctuator.Semicolon (put_close c (after_first names c k.head) k.rest) k.close } };
        };
        cut = refl;
      };
      cut = k.cut ∙ ap (λ l. l ++ (k.middle ++ end)) b.cut ∙ append_assoc b.left b.right (k.middle ++ end);
    }

some_set : (names : List (List ℕ)) (is_typedef : Bool) (g : unit.Global) → (i : Initial) × (right : List Leaf) × Map (λ last. (g, Some last)) (InitialIs (names_after is_typedef g names) 0) i right
some_set names is_typedef g = ((g, Some (Some zero_tree)), zero_text, record { inner = Some zero_tree; is = refl; derives = computed zero_tree zero_text (zero_conditional (names_after is_typedef g names) 0 0) })

pub roled-initial_after : (names : List (List ℕ)) (is_typedef : Bool) (g : unit.Global) → Firm (stop_global is_typedef g) (FollowingText names is_typedef g) (stop_initial is_typedef) (read_initial_after names is_typedef g)
roled-initial_after names is_typedef g =
    let after = names_after is_typedef g names in
    roled-choose (is_mark punctuator.Assign)
    record {
      first_begins = λ i text b. (plain (mark punctuator.Assign b.first), b.right, set_first names is_typedef g i text b, refl);
      second_begins = λ i text rest one stops. unset_second is_typedef g i text rest one stops;
    }
    (λ t e. after_begins (mark_offset punctuator.Assign) plain (λ t. refl) t t.offset (mark-some punctuator.Assign t e) (some_set names is_typedef g))
    (after_silent (mark_offset punctuator.Assign) plain (λ t. refl))
    (roled-enter (both (stop_global is_typedef g) (λ t. is_mark punctuator.Assign t.token)) (roled-opened (mark_offset punctuator.Assign) Nothing plain (λ t. refl) (λ t. refl) (mark punctuator.Assign 0) 0 (mark-self punctuator.Assign 0)
    (λ x. ((g, Some (Some zero_tree)), zero_text, record { inner = Some zero_tree; is = refl; derives = computed zero_tree zero_text (zero_conditional after 0 0) }))
    (λ x t e within. firm-map (λ last. (g, Some last)) (stop_initial is_typedef) (λ last. refl) (roled-initial after (expressions after) (all-roled after) statement_fuel 0 (omega arith) (omega arith)))))
    (roled-stop (stop_initial is_typedef) (λ i text one t. unset_same is_typedef g i text t one) (firm-nothing (both (stop_global is_typedef g) (λ t. not (is_mark punctuator.Assign t.token))) (g, None)))

pub roled-initial_declarator : (names : List (List ℕ)) (is_typedef : Bool) → Firm anything (InitialOf names is_typedef) (stop_initial is_typedef) (read_initial_declarator names is_typedef)
roled-initial_declarator names is_typedef =
    roled-following (roled-global names (expressions names) (all-roled names) is_typedef) (λ g left h w. roled-initial_after names is_typedef g)
    record {
      ends = λ g i left right rest one two stops. after_ends names is_typedef g i right rest two stops;
      goes_on = λ g left one. ((g, None), [], second nothing);
    }

-- what is expected after the last
last_same : (is_typedef : Bool) (d : Before (List (List ℕ)) Initial) (xs : List Initial) → end_of_global (context_after (next_before (step is_typedef)) d xs).1.1 ≡ (state_following is_typedef (of d.0 d.1) xs).1
last_same is_typedef d [] = refl
last_same is_typedef d (x ∷ xs) = last_same is_typedef (step is_typedef d.0 x, x) xs

pub roled-globals : (names : List (List ℕ)) (s : tree.Specifiers) (g : unit.Global) → Firm (stop_global (is_typedef s) g) (GlobalsText names s g) (λ _. anything) (read_globals names s g)
roled-globals names s g =
    let c = is_typedef s in
    roled-following (roled-initial_after names c g)
    (λ head left h w. firm-map (made_declaration names s head) (λ _. anything) (λ x. refl) (firm-map (λ (made : List Initial × ℕ). made.0) (λ _. anything) (λ x. refl)
    (roled-end (lists c) (step c) of (λ now. now.1) (λ now. expected now.1) (λ now. read_initial_declarator now.0 c) (next_state c) (λ now t. refl) (λ now t. refl) (λ e y x. refl) (λ e y. roled-initial_declarator e c)
    (λ d xs. (state_following c (of d.0 d.1) xs).1) (put_close c) (λ d xs t. refl) (λ d xs t. refl) (λ e x. inl refl) (λ d xs. inr (last_same c d xs)) (after_first names c head))))
    record {
      ends = λ head read left right rest one two stops. let m = two.derives in end_stops (lists c) (step c) put (λ e x t. refl) (put_close c) (λ d xs t. refl) (after_first names c head) m.inner right rest m.derives;
      goes_on = λ head left one. let e = end_some (step c) put (OneOf c) punctuator.Semicolon (put_close c) (after_first names c head) in (made_declaration names s head e.0.0, e.1, record { inner = e.0.0; is = refl; derives = record { inner = e.0; is = refl; derives = e.2 } });
    }
