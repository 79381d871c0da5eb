-- Parameters keep roles.
use Rattle.std.proofs.Common.{ℕ, Bool, true, List, Option, Some, None, not, ◌&&◌, ◌≡◌, false, [], ◌∷◌, ap, ◌∙◌, refl, IsTrue, ◌++◌, zero, suc, sym, subst, Ok, Err, inl, inr}
use Rattle.c_token_spec.specs.declared.token.Punctuator.TheVariants as punctuator
use Rattle.c_token_spec.specs.Lexical.{Placed}
use Rattle.c_syntax_spec.specs.Expression as tree
use Rattle.c_syntax_spec.specs.Unit as unit
use Rattle.c_parse_spec.specs.declared.Role.{Role}
use Rattle.c_parse_spec.specs.declared.Role.TheVariants.{DeclaredName, Nothing}
use Rattle.c_parse_spec.specs.Leaves.{Leaf, expected, named, marks, mark, opens, roles}
use Rattle.c_parse_spec.specs.Expressions.{is_typedef_name, Alone, none, Dimensions, Pointer, given, left_out, no_lengths, some_length, Lengths, star, Elsewhere}
use Rattle.c_parse_spec.specs.Units as grammar
use Rattle.exact_read.specs.Reading.{plains, Stops, Parser, Outcome}
use Rattle.exact_read.specs.Grammar.{One, Map, Or, Nothing as Empty, first, second, nothing, Then, read_then, read_map, bind, read_nothing, read_or, anything}
use Rattle.exact_read.proofs.Basics.{plains-two}
use Rattle.exact_read.proofs.Parts.{both}
use Rattle.c_parse_laws.specs.Classes.{is_mark}
use Rattle.c_parse_laws.specs.Parsers.{token, Parsers}
use Rattle.c_parse_laws.specs.Types.{is_plain_name, plain_name_at, is_const, read_dimensions}
use Rattle.c_parse_laws.proofs.Marks.{one_first}
use Rattle.c_parse_laws.specs.Endings.{Ending, goes_on_with, WordsAround, BraceToo, WordsToo, SpecifiersEnd}
use Rattle.c_parse_laws.specs.TypeExactness.{AllFirm}
use Rattle.c_parse_laws.proofs.Fresh.{fresh, fresh_is}
use Rattle.c_parse_laws.proofs.Pointers.{stop_pointer}
use Rattle.c_parse_laws.proofs.Dimensions.{stop_dimensions, roled-dimensions_from}
use Rattle.c_parse_laws.proofs.Declarators.{plain-is, plain-self, plain-passes}
use Rattle.c_parse_laws.proofs.Ended.{specified, with_end}
use Rattle.c_parse_laws.specs.Parameters.{ParameterRest, parameter_of, read_parameter_rest, read_parameter, end_of_parts, end_of_parameter, read_optional_name}
use Rattle.exact_read.specs.Roles.{Roled}
use Rattle.exact_read.specs.Expected.{Next, Reported}
use Rattle.exact_read.proofs.RoleBasics.{reported_as, roled-same, roled-stop, roled-map}
use Rattle.exact_read.proofs.RoleBegins.{Begins, begun_enters}
use Rattle.exact_read.proofs.RoleThen.{roled-then, roled-then_within}
use Rattle.c_parse_laws.specs.Firm.{Firm}
use Rattle.c_parse_laws.proofs.Firm.{firm-map, firm-one, firm-nothing}
use Rattle.c_parse_laws.proofs.Plain.{roled-pointer}
use Rattle.c_parse_laws.proofs.TypeBegins.{plain_found}
use Rattle.exact_read.proofs.RoleOr.{Chooses, roled-or}

-- a name or none
abbrev pub stop_name : (names : List (List ℕ)) → (entry : Placed → Bool) → Option tree.Name → Placed → Bool
stop_name names entry None t = entry t && not (is_plain_name names t.token)
stop_name names entry (Some n) t = true

abbrev NameText : (names : List (List ℕ)) → Option tree.Name → List Leaf → Type 0
NameText names = Or (Map (λ n. Some n) (One (expected DeclaredName) (plain_name_at names))) (Empty None)

name_leaf : (names : List (List ℕ)) (n : tree.Name) (text : List Leaf) → One (expected DeclaredName) (plain_name_at names) n text → (text ≡ expected DeclaredName (named n) ∷ []) × (is_typedef_name names n.spelling ≡ false)
name_leaf names n text o = let h = plain-is names o.token n o.is in (o.cut ∙ ap (λ t. expected DeclaredName t ∷ []) h.0, h.1)

text_name : (names : List (List ℕ)) (n : Option tree.Name) (text : List Leaf) → NameText names n text → grammar.ParameterName names n text
text_name names n text (first m) = let h = name_leaf names m.inner text m.derives in rw (m.is, h.0) (grammar.name m.inner h.1)
text_name names n text (second nothing) = grammar.none

name_text : (names : List (List ℕ)) (n : Option tree.Name) (text : List Leaf) → grammar.ParameterName names n text → NameText names n text
name_text names n text grammar.none = second nothing
name_text names n text (grammar.name m e) = first (record { inner = m; is = refl; derives = record { token = named m; is = plain-self names m e; cut = refl } })

none_same : (names : List (List ℕ)) (entry : Placed → Bool) (n : Option tree.Name) (text : List Leaf) (t : Placed) → Empty None n text → both entry (λ t. not (is_plain_name names t.token)) t ≡ stop_name names entry n t
none_same names entry n text t nothing = refl

and-right : (a b : Bool) → IsTrue (a && b) → IsTrue b
and-right true b h = h
and-right false b h = absurd (cc)

and-left : (a b : Bool) → IsTrue (a && b) → IsTrue a
and-left true b h = refl
and-left false b h = absurd (cc)

none_second : (names : List (List ℕ)) (entry : Placed → Bool) (n : Option tree.Name) (text : List Leaf) (rest : List Placed) → Empty None n text → Stops (stop_name names entry n) rest → Stops (λ t. not (is_plain_name names t.token)) (plains marks text ++ rest)
none_second names entry n text [] nothing stops = tt
none_second names entry n text (t ∷ rest) nothing stops = and-right (entry t) (not (is_plain_name names t.token)) stops

-- what follows the specifiers of a parameter
abbrev pub stop_rest : (names : List (List ℕ)) → (entry : Placed → Bool) → ParameterRest → Placed → Bool
stop_rest names entry rest = stop_dimensions (stop_name names (stop_pointer entry rest.0) rest.1.0) rest.1.1

abbrev DimensionsOf : (names : List (List ℕ)) → (depth : ℕ) → Bool × tree.Expressions → List Leaf → Type 0
DimensionsOf names depth pair text = Dimensions names depth Alone pair.0 pair.1 text

abbrev pub RestText : (names : List (List ℕ)) → (depth : ℕ) → ParameterRest → List Leaf → Type 0
RestText names depth = Then Pointer (λ _. Then (grammar.ParameterName names) (λ _. DimensionsOf names depth))

-- what can come next before it
pub record Opens (entry : Placed → Bool) : Type 0 where
  pub at_star : (offset : ℕ) → IsTrue (entry (mark punctuator.Star offset))
  pub at_name : (n : tree.Name) → IsTrue (entry (named n))
  pub at_bracket : (offset : ℕ) → IsTrue (entry (mark punctuator.LeftBracket offset))

dimensions_stop : (names : List (List ℕ)) (depth : ℕ) (entry : Placed → Bool) → ((offset : ℕ) → IsTrue (entry (mark punctuator.LeftBracket offset))) → (is_open : Bool) (lengths : tree.Expressions) (text : List Leaf) (rest : List Placed) → Dimensions names depth Alone is_open lengths text → Stops (stop_dimensions entry (is_open, lengths)) rest → Stops entry (plains marks text ++ rest)
dimensions_stop names depth entry at is_open lengths text rest (given d c l t h) stops = by_lengths l t h rest stops
  where
    by_lengths : (l : tree.Expressions) (t : List Leaf) → Lengths names depth Alone l t → (rest : List Placed) → Stops (stop_dimensions entry (false, l)) rest → Stops entry (plains marks t ++ rest)
    by_lengths l t (no_lengths d c) [] stops = tt
    by_lengths l t (no_lengths d c) (p ∷ rest) stops = and-left (entry p) (not (is_mark punctuator.LeftBracket p.token)) stops
    by_lengths l t (some_length d c x r inside right offset close h k) rest stops = at offset
dimensions_stop names depth entry at is_open lengths text rest (left_out d c l t offset close h) stops = at offset

pointer_at : (entry : Placed → Bool) → Opens entry → (n : ℕ) (offset : ℕ) → IsTrue (stop_pointer entry n (mark punctuator.LeftBracket offset))
pointer_at entry opens zero offset = and_true (entry (mark punctuator.LeftBracket offset)) (opens.at_bracket offset)
  where
    and_true : (a : Bool) → IsTrue a → IsTrue (a && true)
    and_true true h = refl
    and_true false h = h
pointer_at entry opens (suc n) offset = refl

pointer_name : (entry : Placed → Bool) → Opens entry → (n : ℕ) (m : tree.Name) → IsTrue (stop_pointer entry n (named m))
pointer_name entry opens zero m = and_true (entry (named m)) (opens.at_name m)
  where
    and_true : (a : Bool) → IsTrue a → IsTrue (a && true)
    and_true true h = refl
    and_true false h = h
pointer_name entry opens (suc n) m = refl

name_at_bracket : (names : List (List ℕ)) (entry : Placed → Bool) → Opens entry → (n : ℕ) (name : Option tree.Name) (offset : ℕ) → IsTrue (stop_name names (stop_pointer entry n) name (mark punctuator.LeftBracket offset))
name_at_bracket names entry opens n None offset = and_true (stop_pointer entry n (mark punctuator.LeftBracket offset)) (pointer_at entry opens n offset)
  where
    and_true : (a : Bool) → IsTrue a → IsTrue (a && true)
    and_true true h = refl
    and_true false h = h
name_at_bracket names entry opens n (Some m) offset = refl

-- a name, or what follows where there is none
name_stop : (names : List (List ℕ)) (entry : Placed → Bool) → ((m : tree.Name) → IsTrue (entry (named m))) → (name : Option tree.Name) (text : List Leaf) (rest : List Placed) → grammar.ParameterName names name text → Stops (stop_name names entry name) rest → Stops entry (plains marks text ++ rest)
name_stop names entry at name text [] grammar.none stops = tt
name_stop names entry at name text (t ∷ rest) grammar.none stops = and-left (entry t) (not (is_plain_name names t.token)) stops
name_stop names entry at name text rest (grammar.name m e) stops = at m

pointer_stop : (entry : Placed → Bool) → ((offset : ℕ) → IsTrue (entry (mark punctuator.Star offset))) → (n : ℕ) (text : List Leaf) (rest : List Placed) → Pointer n text → Stops (stop_pointer entry n) rest → Stops entry (plains marks text ++ rest)
pointer_stop entry at n text [] none stops = tt
pointer_stop entry at n text (t ∷ rest) none stops = and-left (entry t) (not (is_mark punctuator.Star t.token)) stops
pointer_stop entry at n text rest (star m offset consts t h k) stops = at offset

pub rest_stops : (names : List (List ℕ)) (depth : ℕ) (entry : Placed → Bool) → Opens entry → (r : ParameterRest) (text : List Leaf) (rest : List Placed) → RestText names depth r text → Stops (stop_rest names entry r) rest → Stops entry (plains marks text ++ rest)
rest_stops names depth entry opens r text rest t stops =
    let u = t.second in
    let d = dimensions_stop names depth (stop_name names (stop_pointer entry r.0) r.1.0) (name_at_bracket names entry opens r.0 r.1.0) r.1.1.0 r.1.1.1 u.right rest u.second stops in
    let n = name_stop names (stop_pointer entry r.0) (pointer_name entry opens r.0) r.1.0 u.left (plains marks u.right ++ rest) u.first d in
    let p = pointer_stop entry opens.at_star r.0 t.left (plains marks u.left ++ (plains marks u.right ++ rest)) t.first n in
    subst (Stops entry) (sym (ap (λ l. plains marks l ++ rest) (t.cut ∙ ap (λ l. t.left ++ l) u.cut) ∙ plains-two marks t.left (u.left ++ u.right) rest ∙ ap (λ l. plains marks t.left ++ l) (plains-two marks u.left u.right rest))) p

-- a parameter, with where its specifiers end
abbrev pub Ended : Type 0
Ended = unit.Parameter × Ending

abbrev pub after_specifiers : Ending → Placed → Bool
after_specifiers e t = not (is_const t.token) && not (goes_on_with e t.token)

pub specifiers_open : (e : Ending) → Opens (after_specifiers e)
specifiers_open WordsAround = record { at_star = λ p. refl; at_name = λ n. refl; at_bracket = λ p. refl }
specifiers_open BraceToo = record { at_star = λ p. refl; at_name = λ n. refl; at_bracket = λ p. refl }
specifiers_open (WordsToo words) = record { at_star = λ p. refl; at_name = λ n. refl; at_bracket = λ p. refl }

abbrev pub rest_of : unit.Parameter → ParameterRest
rest_of p = (p.pointers, (p.name, (p.is_open, p.lengths)))

abbrev pub stop_parameter : (names : List (List ℕ)) → Ended → Placed → Bool
stop_parameter names pair = stop_rest names (after_specifiers pair.1) (rest_of pair.0)

pub record ParameterText (names : List (List ℕ)) (depth : ℕ) (pair : Ended) (text : List Leaf) : Type 0 where
  pub left : List Leaf
  pub right : List Leaf
  pub are_specifiers : SpecifiersEnd names Elsewhere depth Alone pair.0.specifiers pair.1 left
  pub is_rest : RestText names depth (rest_of pair.0) right
  pub cut : text ≡ left ++ right

abbrev made_parameter : (tree.Specifiers × Ending) × ParameterRest → Ended
made_parameter made = (parameter_of made.0.0 made.1, made.0.1)

abbrev RawParameter : (names : List (List ℕ)) → (depth : ℕ) → (tree.Specifiers × Ending) × ParameterRest → List Leaf → Type 0
RawParameter names depth = Then (λ (pair : tree.Specifiers × Ending). SpecifiersEnd names Elsewhere depth Alone pair.0 pair.1) (λ _. RestText names depth)

text_parameter : (names : List (List ℕ)) (depth : ℕ) (pair : Ended) (text : List Leaf) → Map made_parameter (RawParameter names depth) pair text → ParameterText names depth pair text
text_parameter names depth pair text m =
    let t = m.derives in
    subst (λ (p : Ended). ParameterText names depth p text) (sym m.is) (record { left = t.left; right = t.right; are_specifiers = t.first; is_rest = t.second; cut = t.cut })

parameter_text : (names : List (List ℕ)) (depth : ℕ) (pair : Ended) (text : List Leaf) → ParameterText names depth pair text → Map made_parameter (RawParameter names depth) pair text
parameter_text names depth pair text p = record { inner = ((pair.0.specifiers, pair.1), rest_of pair.0); is = refl; derives = record { left = p.left; right = p.right; cut = p.cut; first = p.are_specifiers; second = p.is_rest } }

abbrev pub rich_parameter : (names : List (List ℕ)) → (depth : ℕ) → (inner : Parsers) → Parser Placed Role (tree.Specifiers × Ending) → Parser Placed Role Ended
rich_parameter names depth inner both = read_map made_parameter (read_then both (λ _. read_parameter_rest names inner depth))

-- the parsers give the same
pub parameter_same : (names : List (List ℕ)) (inner : Parsers) (all : AllFirm names inner) (depth : ℕ) (tokens : List Placed) → read_parameter names inner depth tokens ≡ read_map (λ (pair : Ended). pair.0) (rich_parameter names depth inner (all.specifiers depth Alone).both) tokens
parameter_same names inner all depth tokens =
    ap (λ (o : Outcome Placed Role tree.Specifiers). bind {Y = unit.Parameter} (bind {Y = tree.Specifiers × ParameterRest} o (λ s rest. bind (read_parameter_rest names inner depth rest) (λ r after. Ok ((s, r), after)))) (λ made r. Ok (parameter_of made.0 made.1, r))) ((all.specifiers depth Alone).same tokens)
    ∙ by_specifiers ((all.specifiers depth Alone).both tokens)
  where
    by_rest : (pair : tree.Specifiers × Ending) (o : Outcome Placed Role ParameterRest)
        → bind {Y = unit.Parameter} (bind {Y = tree.Specifiers × ParameterRest} o (λ r after. Ok ((pair.0, r), after))) (λ made r. Ok (parameter_of made.0 made.1, r))
        ≡ bind {Y = unit.Parameter} (bind {Y = Ended} (bind {Y = (tree.Specifiers × Ending) × ParameterRest} o (λ r after. Ok ((pair, r), after))) (λ made r. Ok (made_parameter made, r))) (λ pair r. Ok (pair.0, r))
    by_rest pair (Ok (r, rest)) = refl
    by_rest pair (Err fault) = refl

    by_specifiers : (o : Outcome Placed Role (tree.Specifiers × Ending))
        → bind {Y = unit.Parameter} (bind {Y = tree.Specifiers × ParameterRest} (bind {Y = tree.Specifiers} o (λ pair r. Ok (pair.0, r))) (λ s rest. bind (read_parameter_rest names inner depth rest) (λ r after. Ok ((s, r), after)))) (λ made r. Ok (parameter_of made.0 made.1, r))
        ≡ bind {Y = unit.Parameter} (bind {Y = Ended} (bind {Y = (tree.Specifiers × Ending) × ParameterRest} o (λ pair rest. bind (read_parameter_rest names inner depth rest) (λ r after. Ok ((pair, r), after)))) (λ made r. Ok (made_parameter made, r))) (λ pair r. Ok (pair.0, r))
    by_specifiers (Ok (pair, rest)) = by_rest pair (read_parameter_rest names inner depth rest)
    by_specifiers (Err fault) = refl

-- as the grammar has them
end_same : (names : List (List ℕ)) (depth : ℕ) (n : Option tree.Name) (is_open : Bool) (lengths : tree.Expressions) (text : List Leaf) → Dimensions names depth Alone is_open lengths text → grammar.parameter_end n text ≡ end_of_parts n is_open lengths
end_same names depth (Some n) is_open lengths text h = refl
end_same names depth None is_open lengths text (given d c l t h) = by_lengths l t h
  where
    by_lengths : (l : tree.Expressions) (t : List Leaf) → Lengths names depth Alone l t → grammar.parameter_end None t ≡ end_of_parts None false l
    by_lengths l t (no_lengths d c) = refl
    by_lengths l t (some_length d c x r inside right offset close h k) = refl
end_same names depth None is_open lengths text (left_out d c l t offset close h) = refl

pub parameter_grammar : (names : List (List ℕ)) (depth : ℕ) (pair : Ended) (text : List Leaf) → ParameterText names depth pair text → grammar.Parameter names depth pair.0 (end_of_parameter pair.0) text
parameter_grammar names depth pair text p =
    let t = p.is_rest in
    let u = t.second in
    subst (λ (r : Role). grammar.Parameter names depth pair.0 r text) (end_same names depth pair.0.name pair.0.is_open pair.0.lengths u.right u.second)
    (subst (λ l. grammar.Parameter names depth pair.0 (grammar.parameter_end pair.0.name u.right) l) (sym (p.cut ∙ ap (λ l. p.left ++ l) (t.cut ∙ ap (λ l. t.left ++ l) u.cut)))
    (grammar.parameter depth pair.0.specifiers pair.0.pointers pair.0.name pair.0.is_open pair.0.lengths p.left t.left u.left u.right (specified names Elsewhere depth Alone pair.0.specifiers pair.1 p.left p.are_specifiers) t.first u.first u.second))

pub record ParameterBack (names : List (List ℕ)) (depth : ℕ) (p : unit.Parameter) (role : Role) (text : List Leaf) : Type 0 where
  pub end : Ending
  pub derives : ParameterText names depth (p, end) text
  pub is : role ≡ end_of_parameter p

pub grammar_parameter : (names : List (List ℕ)) (depth : ℕ) (p : unit.Parameter) (role : Role) (text : List Leaf) → grammar.Parameter names depth p role text → ParameterBack names depth p role text
grammar_parameter names depth p role text (grammar.parameter d s n name is_open lengths left stars inside dimensions h k l m) =
    let w = with_end names Elsewhere d Alone s left h in
    record {
      end = w.end;
      derives = record { left = left; right = stars ++ (inside ++ dimensions); are_specifiers = w.derives; is_rest = record { left = stars; right = inside ++ dimensions; cut = refl; first = k; second = record { left = inside; right = dimensions; cut = refl; first = l; second = m } }; cut = refl };
      is = end_same names d name is_open lengths dimensions m;
    }

-- what is expected after a name: where there is none, that one is declared
abbrev name_end : Option tree.Name → Role
name_end None = DeclaredName
name_end (Some n) = Nothing

-- where nothing is expected at the end, anything may be said to be
roled-reported : {X : Type 0} {entry : Placed → Bool} {S : X → List Leaf → Type 0} {stop : X → Placed → Bool} {read : Parser Placed Role X} (ending : X → Role) → Firm entry S stop read → Roled marks roles entry S stop ending ⊥ read
roled-reported ending is =
    record {
      exact = is.exact;
      asks = is.asks;
      reports = λ x text u derives within enters n. reported_as roles u Nothing (ending x) (is.reports x text u derives within enters n) (inl refl);
      firm = is.firm;
      alike = is.alike;
    }

abbrev SomeName : (names : List (List ℕ)) → Option tree.Name → List Leaf → Type 0
SomeName names = Map (λ n. Some n) (One (expected DeclaredName) (plain_name_at names))

some_begins : (names : List (List ℕ)) (t : Placed) → is_plain_name names t.token ≡ true → Begins marks (SomeName names) t
some_begins names t e = let f = plain_found names t e in record { value = Some f.0; first = expected DeclaredName t; more = []; derives = record { inner = f.0; is = refl; derives = record { token = t; is = f.1; cut = refl } }; is = refl }

some_reported : (names : List (List ℕ)) (u : Leaf) → Next marks (SomeName names) [] u → u.role ≡ DeclaredName
some_reported names u n = by_before n.before n.derives n.same
  where
    by_before : (before : List Leaf) → SomeName names n.value (before ++ u ∷ n.more) → plains marks before ≡ [] → u.role ≡ DeclaredName
    by_before [] m same = ap (λ (l : Leaf). l.role) (one_first m.inner u n.more m.derives)
    by_before (v ∷ before) m same = absurd (cc)

empty_reported : (names : List (List ℕ)) (x : Option tree.Name) (text : List Leaf) (u : Leaf) → Empty None x text → u.role ≡ DeclaredName → Reported roles u (name_end x)
empty_reported names x text u nothing e = inl e

name_chooses : (names : List (List ℕ)) (entry : Placed → Bool) → Firm (both entry (λ t. is_plain_name names t.token)) (SomeName names) (stop_name names entry) (read_map (λ n. Some n) (token DeclaredName (expected DeclaredName) (plain_name_at names)))
    → Chooses marks roles entry (λ t. is_plain_name names t.token) (SomeName names) (Empty None) name_end (read_map (λ n. Some n) (token DeclaredName (expected DeclaredName) (plain_name_at names))) (read_nothing None)
name_chooses names entry is =
    record {
      enters = λ t more kind opens e. begun_enters is.exact t more kind opens (some_begins names t (and_so (entry t) (is_plain_name names t.token) opens)) e;
      begins = λ u before kind n opens e. absurd (cc);
      empty = λ x u one n. empty_reported names x [] u one (some_reported names u n);
    }
  where
    and_so : (a b : Bool) → IsTrue (a && b) → b ≡ true
    and_so true true h = refl
    and_so true false h = absurd (cc)
    and_so false b h = absurd (cc)

roled-optional_name : (names : List (List ℕ)) (entry : Placed → Bool) → Roled marks roles entry (grammar.ParameterName names) (stop_name names entry) name_end ⊥ (read_optional_name names)
roled-optional_name names entry =
    roled-same entry (grammar.ParameterName names) (read_optional_name names) (λ t h. h) (text_name names) (name_text names) same
    (roled-or (λ t. is_plain_name names t.token)
    record {
      first_begins = λ n text m. let h = name_leaf names m.inner text m.derives in (expected DeclaredName (named m.inner), [], h.0, plain-passes names m.inner h.1);
      second_begins = λ n text rest one stops. none_second names entry n text rest one stops;
    }
    (name_chooses names entry some_is)
    (roled-reported name_end some_is)
    (roled-reported name_end (roled-stop (stop_name names entry) (λ n text one t. none_same names entry n text t one) (firm-nothing (both entry (λ t. not (is_plain_name names t.token))) None))))
  where
    some_is : Firm (both entry (λ t. is_plain_name names t.token)) (SomeName names) (stop_name names entry) (read_map (λ n. Some n) (token DeclaredName (expected DeclaredName) (plain_name_at names)))
    some_is = firm-map (λ n. Some n) (stop_name names entry) (λ n. refl) (firm-one (both entry (λ t. is_plain_name names t.token)) (expected DeclaredName) (plain_name_at names) DeclaredName (λ t. refl) (λ t. refl) (named (fresh names)) (fresh names) (plain-self names (fresh names) (fresh_is names)))

    same : (tokens : List Placed) → read_optional_name names tokens ≡ read_or (λ t. is_plain_name names t.token) (read_map (λ n. Some n) (token DeclaredName (expected DeclaredName) (plain_name_at names))) (read_nothing None) tokens
    same [] = refl
    same (t ∷ tokens) = refl

-- what is expected after what follows the specifiers
abbrev pub rest_end : ParameterRest → Role
rest_end r = end_of_parts r.1.0 r.1.1.0 r.1.1.1

no_dimensions : (names : List (List ℕ)) (depth : ℕ) (name : Option tree.Name) (is_open : Bool) (lengths : tree.Expressions) (text : List Leaf) → Dimensions names depth Alone is_open lengths text → text ≡ [] → name_end name ≡ end_of_parts name is_open lengths
no_dimensions names depth name is_open lengths text (given d c l t h) e = by_lengths name l t h e
  where
    by_lengths : (name : Option tree.Name) (l : tree.Expressions) (t : List Leaf) → Lengths names depth Alone l t → t ≡ [] → name_end name ≡ end_of_parts name false l
    by_lengths None l t (no_lengths d c) e = refl
    by_lengths (Some n) l t (no_lengths d c) e = refl
    by_lengths name l t (some_length d c x r inside right offset close h k) e = absurd (cc)
no_dimensions names depth name is_open lengths text (left_out d c l t offset close h) e = absurd (cc)

pub roled-rest : (names : List (List ℕ)) (inner : Parsers) → AllFirm names inner → (depth : ℕ) (entry : Placed → Bool) → Opens entry → Roled marks roles entry (RestText names depth) (stop_rest names entry) rest_end ⊥ (read_parameter_rest names inner depth)
roled-rest names inner all depth entry opens =
    roled-then {stop2 = λ n y. stop_dimensions (stop_name names (stop_pointer entry n) y.0) y.1} {ending2 = λ n y. end_of_parts y.0 y.1.0 y.1.1} (roled-pointer entry)
    (λ n. roled-then_within {stop2 = λ name y. stop_dimensions (stop_name names (stop_pointer entry n) name) y} {ending2 = λ name y. end_of_parts name y.0 y.1} (roled-optional_name names (stop_pointer entry n))
    (λ name left one within. roled-reported (λ y. end_of_parts name y.0 y.1) (dimensions_are n name))
    record {
      ends = λ name d left right rest one two stops. dimensions_stop names depth (stop_name names (stop_pointer entry n) name) (name_at_bracket names entry opens n name) d.0 d.1 right rest two stops;
      goes_on = λ name left one. ((false, tree.no_expressions), [], given depth Alone tree.no_expressions [] (no_lengths depth Alone));
    }
    record {
      between = λ name left kind rest one stops e. absurd (((dimensions_are n name).firm (false, tree.no_expressions) [] kind rest (given depth Alone tree.no_expressions [] (no_lengths depth Alone)) tt stops e).0);
      empty = λ name d left one two. inr (no_dimensions names depth name d.0 d.1 [] two refl);
      loose = λ never x left u h k. absurd never;
      loose_empty = λ never x y left h k. absurd never;
    })
    record {
      ends = λ n y left right rest one two stops.
          let d = dimensions_stop names depth (stop_name names (stop_pointer entry n) y.0) (name_at_bracket names entry opens n y.0) y.1.0 y.1.1 two.right rest two.second stops in
          let m = name_stop names (stop_pointer entry n) (pointer_name entry opens n) y.0 two.left (plains marks two.right ++ rest) two.first d in
          subst (Stops (stop_pointer entry n)) (sym (ap (λ l. plains marks l ++ rest) two.cut ∙ plains-two marks two.left two.right rest)) m;
      goes_on = λ n left one. ((None, (false, tree.no_expressions)), [], record { left = []; right = []; cut = refl; first = grammar.none; second = given depth Alone tree.no_expressions [] (no_lengths depth Alone) });
    }
  where
    dimensions_are : (n : ℕ) (name : Option tree.Name) → Firm (stop_name names (stop_pointer entry n) name) (DimensionsOf names depth) (stop_dimensions (stop_name names (stop_pointer entry n) name)) (read_dimensions inner depth Alone)
    dimensions_are n name = roled-dimensions_from names inner depth Alone (stop_name names (stop_pointer entry n) name) (λ d count least. all.conditional (suc depth) count)

pub roled-parameter : (names : List (List ℕ)) (inner : Parsers) (all : AllFirm names inner) (depth : ℕ) → Roled marks roles anything (ParameterText names depth) (stop_parameter names) (λ pair. end_of_parameter pair.0) ⊥ (rich_parameter names depth inner (all.specifiers depth Alone).both)
roled-parameter names inner all depth =
    roled-same anything (ParameterText names depth) (rich_parameter names depth inner (all.specifiers depth Alone).both) (λ t h. h) (text_parameter names depth) (parameter_text names depth) (λ tokens. refl)
    (roled-map made_parameter (stop_parameter names) (λ pair. end_of_parameter pair.0) (λ made. refl) (λ made. inr refl)
    (roled-then {stop2 = λ pair r. stop_rest names (after_specifiers pair.1) r} {ending2 = λ pair r. rest_end r} (all.specifiers depth Alone).is (λ pair. roled-rest names inner all depth (after_specifiers pair.1) (specifiers_open pair.1))
    record {
      ends = λ pair r left right rest one two stops. rest_stops names depth (after_specifiers pair.1) (specifiers_open pair.1) r right rest two stops;
      goes_on = λ pair left one. ((0, (None, (false, tree.no_expressions))), [], rest_none names depth);
    }))
  where
    rest_none : (names : List (List ℕ)) (depth : ℕ) → RestText names depth (0, (None, (false, tree.no_expressions))) []
    rest_none names depth = record { left = []; right = []; cut = refl; first = none; second = record { left = []; right = []; cut = refl; first = grammar.none; second = given depth Alone tree.no_expressions [] (no_lengths depth Alone) } }
