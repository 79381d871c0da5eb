-- Declarators keep roles.
use Rattle.std.proofs.Common.{◌≡◌, ℕ, Bool, true, List, Option, Some, ap, [], refl, false, None, subst, cond, sym, ◌∙◌, ◌∷◌, ◌++◌, zero, suc, not}
use Rattle.c_token_spec.specs.declared.token.Punctuator.TheVariants as punctuator
use Rattle.c_token_spec.specs.Lexical.{Placed, Token, Name as name_token, Word, Number as number_token, Character as character_token, Mark}
use Rattle.c_syntax_spec.specs.Expression as tree
use Rattle.c_parse_spec.specs.declared.Role.TheVariants.{DeclaredName}
use Rattle.c_parse_spec.specs.Leaves.{named, mark, Leaf, plain, expected, marks}
use Rattle.c_parse_spec.specs.Expressions as grammar
use Rattle.exact_read.specs.Reading.{Stops, plains}
use Rattle.exact_read.specs.Grammar.{One, Then, Map, anything}
use Rattle.exact_read.proofs.Parts.{stops_anything}
use Rattle.c_parse_laws.specs.Classes.{name_of, name_at, is_mark}
use Rattle.c_parse_laws.specs.Parsers.{Parsers}
use Rattle.c_parse_laws.specs.Types.{plain_name_of, plain_name_at, is_plain_name, read_declarator}
use Rattle.c_parse_laws.proofs.Fresh.{fresh, fresh_is}
use Rattle.c_parse_laws.proofs.Pointers.{stop_pointer}
use Rattle.c_parse_laws.proofs.Dimensions.{roled-dimensions}
use Rattle.exact_read.proofs.RoleBasics.{roled-same}
use Rattle.exact_read.proofs.RoleThen.{roled-then}
use Rattle.c_parse_laws.specs.Firm.{Firm}
use Rattle.c_parse_laws.proofs.Firm.{firm-map, firm-one}
use Rattle.c_parse_laws.specs.Declarators.{Whole}
use Rattle.c_parse_laws.proofs.Plain.{roled-pointer}

-- a class of names that can be declared
pub record Declares (names : List (List ℕ)) (is_member : Bool) (class : Placed → Option tree.Name) : Type 0 where
  pub back : (t : Placed) (n : tree.Name) → class t ≡ Some n → (t ≡ named n) × (grammar.can_declare is_member names n.spelling ≡ true)
  pub self : (n : tree.Name) → grammar.can_declare is_member names n.spelling ≡ true → class (named n) ≡ Some n
  pub sample : tree.Name
  pub sample_is : grammar.can_declare is_member names sample.spelling ≡ true

-- any name
name-token : (k : Token) (o : ℕ) (n : tree.Name) → name_of k o ≡ Some n → record { token = k; offset = o } ≡ named n
name-token (name_token spelling) o n e = let same : record { spelling = spelling; offset = o } ≡ n = cc in ap named same
name-token (Word keyword) o n e = absurd (cc)
name-token (number_token value type) o n e = absurd (cc)
name-token (character_token value) o n e = absurd (cc)
name-token (Mark p) o n e = absurd (cc)

pub declares_member : (names : List (List ℕ)) → Declares names true name_at
declares_member names = record { back = λ t n e. (name-token t.token t.offset n e, refl); self = λ n e. refl; sample = record { spelling = []; offset = 0 }; sample_is = refl }

-- a name that is none of a type
plain-token : (names : List (List ℕ)) (k : Token) (o : ℕ) (n : tree.Name) → plain_name_of names k o ≡ Some n → (record { token = k; offset = o } ≡ named n) × (grammar.is_typedef_name names n.spelling ≡ false)
plain-token names (name_token spelling) o n e = by_name (grammar.is_typedef_name names spelling) refl e
  where
    by_name : (b : Bool) → grammar.is_typedef_name names spelling ≡ b → cond b None (Some (record { spelling = spelling; offset = o })) ≡ Some n → (record { token = name_token spelling; offset = o } ≡ named n) × (grammar.is_typedef_name names n.spelling ≡ false)
    by_name true f e = absurd (cc)
    by_name false f e = let same : record { spelling = spelling; offset = o } ≡ n = cc in (ap named same, subst (λ (m : tree.Name). grammar.is_typedef_name names m.spelling ≡ false) same f)
plain-token names (Word keyword) o n e = absurd (cc)
plain-token names (number_token value type) o n e = absurd (cc)
plain-token names (character_token value) o n e = absurd (cc)
plain-token names (Mark p) o n e = absurd (cc)

pub plain-is : (names : List (List ℕ)) (t : Placed) (n : tree.Name) → plain_name_at names t ≡ Some n → (t ≡ named n) × (grammar.is_typedef_name names n.spelling ≡ false)
plain-is names t n e = plain-token names t.token t.offset n e

pub plain-self : (names : List (List ℕ)) (n : tree.Name) → grammar.is_typedef_name names n.spelling ≡ false → plain_name_at names (named n) ≡ Some n
plain-self names n e = rw e refl

pub plain-passes : (names : List (List ℕ)) (n : tree.Name) → grammar.is_typedef_name names n.spelling ≡ false → is_plain_name names (name_token n.spelling) ≡ true
plain-passes names n e = rw e refl

pub declares_other : (names : List (List ℕ)) → Declares names false (plain_name_at names)
declares_other names =
    record {
      back = λ t n e. let h = plain-is names t n e in (h.0, can names n h.1);
      self = λ n e. plain-self names n (cannot names n e);
      sample = fresh names;
      sample_is = can names (fresh names) (fresh_is names);
    }
  where
    can : (names : List (List ℕ)) (n : tree.Name) → grammar.is_typedef_name names n.spelling ≡ false → grammar.can_declare false names n.spelling ≡ true
    can names n e = rw e refl

    cannot : (names : List (List ℕ)) (n : tree.Name) → grammar.can_declare false names n.spelling ≡ true → grammar.is_typedef_name names n.spelling ≡ false
    cannot names n e = by_test (grammar.is_typedef_name names n.spelling) refl
      where
        by_test : (b : Bool) → grammar.is_typedef_name names n.spelling ≡ b → grammar.is_typedef_name names n.spelling ≡ false
        by_test true f = absurd (let g : grammar.can_declare false names n.spelling ≡ false = rw f refl in let c : true ≡ false = sym e ∙ g in cc)
        by_test false f = f

-- `*` or a name
abbrev pub begins_declarator : Token → Bool
begins_declarator (Mark mark) = is_mark punctuator.Star (Mark mark)
begins_declarator (name_token spelling) = true
begins_declarator (Word w) = false
begins_declarator (number_token value type) = false
begins_declarator (character_token value) = false

pub record DeclaratorFirst (text : List Leaf) : Type 0 where
  pub leaf : Leaf
  pub more : List Leaf
  pub cut : text ≡ leaf ∷ more
  pub yes : begins_declarator leaf.token.token ≡ true

-- pointers and a name after them
pub pointer_first : (n : ℕ) (stars : List Leaf) (name : Leaf) (more : List Leaf) → grammar.Pointer n stars → begins_declarator name.token.token ≡ true → DeclaratorFirst (stars ++ name ∷ more)
pointer_first n stars name more grammar.none e = record { leaf = name; more = more; cut = refl; yes = e }
pointer_first n stars name more (grammar.star m offset consts text h rest) e = record { leaf = plain (mark punctuator.Star offset); more = (consts ++ text) ++ name ∷ more; cut = refl; yes = refl }

pub declarator_first : (names : List (List ℕ)) (is_member : Bool) (depth : ℕ) (counting : grammar.Counting) (d : tree.Declarator) (text : List Leaf) → grammar.Declarator names is_member depth counting d text → DeclaratorFirst text
declarator_first names is_member depth counting d text (grammar.declarator m dp c p n is_open lengths stars dimensions e h k) = pointer_first p stars (expected DeclaredName (named n)) dimensions h refl

-- a declared name, and what follows it
abbrev NameText : (class : Placed → Option tree.Name) → tree.Name → List Leaf → Type 0
NameText class = One (expected DeclaredName) class

abbrev DeclaratorText : (names : List (List ℕ)) → (class : Placed → Option tree.Name) → (depth : ℕ) → (counting : grammar.Counting) → ℕ × (tree.Name × (Bool × tree.Expressions)) → List Leaf → Type 0
DeclaratorText names class depth counting = Then grammar.Pointer (λ _. Then (NameText class) (λ _ (pair : Bool × tree.Expressions) text. grammar.Dimensions names depth counting pair.0 pair.1 text))

abbrev pub made_declarator : ℕ × (tree.Name × (Bool × tree.Expressions)) → tree.Declarator
made_declarator made = tree.Declared made.0 made.1.0 made.1.1.0 made.1.1.1

pub name_leaf : {names : List (List ℕ)} {is_member : Bool} {class : Placed → Option tree.Name} → Declares names is_member class → (n : tree.Name) (text : List Leaf) → One (expected DeclaredName) class n text → (text ≡ expected DeclaredName (named n) ∷ []) × (grammar.can_declare is_member names n.spelling ≡ true)
name_leaf kind n text o = let h = kind.back o.token n o.is in (o.cut ∙ ap (λ t. expected DeclaredName t ∷ []) h.0, h.1)

pub leaf_name : {names : List (List ℕ)} {is_member : Bool} {class : Placed → Option tree.Name} → Declares names is_member class → (n : tree.Name) → grammar.can_declare is_member names n.spelling ≡ true → One (expected DeclaredName) class n (expected DeclaredName (named n) ∷ [])
leaf_name kind n e = record { token = named n; is = kind.self n e; cut = refl }

text_declarator : {names : List (List ℕ)} {is_member : Bool} {class : Placed → Option tree.Name} → Declares names is_member class → (depth : ℕ) (counting : grammar.Counting) (d : tree.Declarator) (text : List Leaf) → Map made_declarator (DeclaratorText names class depth counting) d text → grammar.Declarator names is_member depth counting d text
text_declarator {names} {is_member} {class} kind depth counting d text m =
    let t = m.derives in
    let u = t.second in
    let n = name_leaf kind m.inner.1.0 u.left u.first in
    let cut : text ≡ t.left ++ expected DeclaredName (named m.inner.1.0) ∷ u.right = t.cut ∙ ap (λ l. t.left ++ l) (u.cut ∙ ap (λ l. l ++ u.right) n.0) in
    rw (m.is, cut) (grammar.declarator is_member depth counting m.inner.0 m.inner.1.0 m.inner.1.1.0 m.inner.1.1.1 t.left u.right n.1 t.first u.second)

declarator_text : {names : List (List ℕ)} {is_member : Bool} {class : Placed → Option tree.Name} → Declares names is_member class → (depth : ℕ) (counting : grammar.Counting) (d : tree.Declarator) (text : List Leaf) → grammar.Declarator names is_member depth counting d text → Map made_declarator (DeclaratorText names class depth counting) d text
declarator_text {names} {is_member} {class} kind depth counting d text (grammar.declarator m dp c p n is_open lengths stars dimensions e h k) =
    record {
      inner = (p, (n, (is_open, lengths)));
      is = refl;
      derives = record {
        left = stars;
        right = expected DeclaredName (named n) ∷ dimensions;
        cut = refl;
        first = h;
        second = record { left = expected DeclaredName (named n) ∷ []; right = dimensions; cut = refl; first = leaf_name kind n e; second = k };
      };
    }

pub name_stops : (p : ℕ) (n : tree.Name) (rest : List Placed) → Stops (stop_pointer anything p) (named n ∷ rest)
name_stops zero n rest = refl
name_stops (suc p) n rest = refl

pub roled-declarator : {names : List (List ℕ)} {is_member : Bool} {class : Placed → Option tree.Name} → Declares names is_member class → (inner : Parsers) (depth : ℕ) (counting : grammar.Counting) → Whole names inner depth (grammar.count_at counting)
    → Firm anything (grammar.Declarator names is_member depth counting) (λ _ t. not (is_mark punctuator.LeftBracket t.token)) (read_declarator class inner depth counting)
roled-declarator {names} {is_member} {class} kind inner depth counting whole =
    roled-same anything (grammar.Declarator names is_member depth counting) (read_declarator class inner depth counting) (λ t h. h) (text_declarator kind depth counting) (declarator_text kind depth counting) (λ tokens. refl)
    (firm-map made_declarator (λ _ t. not (is_mark punctuator.LeftBracket t.token)) (λ x. refl)
    (roled-then (roled-pointer anything) (λ p. roled-then (firm-one (stop_pointer anything p) (expected DeclaredName) class DeclaredName (λ t. refl) (λ t. refl) (named kind.sample) kind.sample (kind.self kind.sample kind.sample_is))
    (λ n. roled-dimensions names inner depth counting whole)
    record {
      ends = λ n y left right rest one two stops. stops_anything (plains marks right ++ rest);
      goes_on = λ n left one. ((false, tree.no_expressions), [], grammar.given depth counting tree.no_expressions [] (grammar.no_lengths depth counting));
    })
    record {
      ends = λ p y left right rest one two stops. ends p y.0 right rest two.left two.right two.cut two.first;
      goes_on = λ p left one. ((kind.sample, (false, tree.no_expressions)), expected DeclaredName (named kind.sample) ∷ [], record { left = expected DeclaredName (named kind.sample) ∷ []; right = []; cut = refl; first = leaf_name kind kind.sample kind.sample_is; second = grammar.given depth counting tree.no_expressions [] (grammar.no_lengths depth counting) });
    }))
  where
    ends : (p : ℕ) (n : tree.Name) (right : List Leaf) (rest : List Placed) (left more : List Leaf) → right ≡ left ++ more → One (expected DeclaredName) class n left → Stops (stop_pointer anything p) (plains marks right ++ rest)
    ends p n right rest left more cut one =
        subst (λ r. Stops (stop_pointer anything p) (plains marks r ++ rest)) (sym (cut ∙ ap (λ l. l ++ more) (name_leaf kind n left one).0)) (name_stops p n (plains marks more ++ rest))
