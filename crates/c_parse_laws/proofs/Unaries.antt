-- Unary and cast expressions keep roles.
use Rattle.std.proofs.Common.{ℕ, List, suc, ◌+◌, ◌≤◌, arith, ◌≡◌, true, Some, ap, [], ◌∷◌, ◌∙◌, refl, false, None, cond, ◌++◌, sym, subst, Bool, not, ◌&&◌, append_assoc}
use Rattle.std.specs.Option.{is_some}
use Rattle.c_token_spec.specs.declared.token.Keyword.TheVariants.{Sizeof}
use Rattle.c_token_spec.specs.declared.token.NumberType.TheVariants.{SignedInt}
use Rattle.c_token_spec.specs.declared.token.Punctuator.{Punctuator}
use Rattle.c_token_spec.specs.declared.token.Punctuator.TheVariants as punctuator
use Rattle.c_token_spec.specs.Lexical.{Token, Name as name_token, Word, Number as number_token, Character as character_token, Mark, Placed}
use Rattle.c_syntax_spec.specs.declared.UnaryOperator.{UnaryOperator}
use Rattle.c_syntax_spec.specs.declared.UnaryOperator.TheVariants.{AddressOf, Dereference, Plus, Minus, Complement, Not}
use Rattle.c_syntax_spec.specs.Expression as tree
use Rattle.c_parse_spec.specs.declared.Role.TheVariants.{OperandEnd, Nothing}
use Rattle.c_parse_spec.specs.Leaves.{Leaf, mark, keyword_at, operates, plain, brackets, number, marks, expected, roles}
use Rattle.c_parse_spec.specs.Expressions.{unary_mark, operators_of_type, Counting, Within, Unary, Cast, TypeName, postfix, prefixed, sizeof_expression, sizeof_type, unary, cast}
use Rattle.c_parse_spec.specs.Limits.{nesting_limit, operator_limit}
use Rattle.exact_read.specs.Reading.{plains, Stops}
use Rattle.exact_read.specs.Grammar.{One, Map, Or, first, second, anything, read_map}
use Rattle.exact_read.specs.Folds.{base, step}
use Rattle.exact_read.proofs.Parts.{stops_anything}
use Rattle.c_parse_laws.specs.Budget.{needs}
use Rattle.c_parse_laws.specs.Exactness.{AreFirm, Closed, PlainUnary, TypeFacts, TypeRoles}
use Rattle.c_parse_laws.specs.Classes.{unary_operator, with_offset, is_mark, is_sizeof, sizeof_offset, mark_offset, atom_of, begins_type, atom_at, is_suffix}
use Rattle.c_parse_laws.specs.Classes as class
use Rattle.c_parse_laws.specs.Stops.{ends_postfix, stop_cast}
use Rattle.c_parse_laws.specs.Parsers.{Parsers, read_inside, read_bracketed, read_postfix, read_type, choose, read_sized, read_prefixed, read_sizeof, read_unary, read_converted, read_cast}
use Rattle.c_parse_laws.proofs.Marks.{Following, one-mark, mark-one, roled-closed, closed_begins, closed_silent, roled-choice, map_begins, map_silent, first_begins, mark-self, mark-some, roled-opened, after_begins, after_silent, placed-some, roled-following, first_silent}
use Rattle.c_parse_laws.proofs.Samples.{zero_tree, zero_text, zero_unary, zero_conditional, zero_cast}
use Rattle.c_parse_laws.proofs.Suffixes.{Suffixed, Inside, placed, roled-suffixed, within_brackets, within_operates}
use Rattle.c_parse_laws.proofs.Begins.{NoType, no-append, conditional_no}
use Rattle.c_parse_laws.proofs.Casts.{InsideText, Atom, atom_ends_of, opening, Split, at_atom, at_bracket, postfix_split, bracket_postfix, atom_postfix}
use Rattle.exact_read.proofs.RoleBasics.{roled-stop, roled-same, roled-enter}
use Rattle.exact_read.proofs.RoleBegins.{Begins, Silent}
use Rattle.c_parse_laws.specs.Firm.{Firm}
use Rattle.c_parse_laws.proofs.Firm.{firm-map, firm-one}

-- what follows `(` at an offset, and what follows that
abbrev pub BracketText : (names : List (List ℕ)) → (depth count offset : ℕ) → tree.Expression → List Leaf → Type 0
BracketText names depth count offset = Suffixed names depth count (InsideText names depth count offset)

-- fuel that is left for the parts
budget_bracket : (depth count c fuel : ℕ) → needs depth count ≤ fuel → suc depth ≤ nesting_limit → count ≤ c → needs (suc depth) (suc c) + 3 ≤ fuel
budget_bracket depth count c fuel h d l = omega arith

budget_type : (depth count fuel : ℕ) → needs depth count ≤ fuel → suc depth ≤ nesting_limit → needs (suc depth) (suc count) + 4 ≤ fuel
budget_type depth count fuel h d = omega arith

budget_next : (depth count fuel : ℕ) → needs depth count ≤ fuel → suc count ≤ operator_limit → needs depth (suc count) + 8 ≤ fuel
budget_next depth count fuel h l = omega arith

budget_after : (depth count more fuel : ℕ) → needs depth count ≤ fuel → suc count ≤ operator_limit → needs depth (suc count + more) + 2 ≤ fuel
budget_after depth count more fuel h l = omega arith

inside_by : {names : List (List ℕ)} {inner : Parsers} {fuel : ℕ} → AreFirm names inner fuel → (depth count : ℕ) → needs depth count ≤ fuel → Inside names inner depth count
inside_by {fuel = fuel} are depth count h c d l least = are.conditional (suc depth) (suc c) (budget_bracket depth count c fuel h d least)

atom_ends : (names : List (List ℕ)) (x : tree.Expression) (text : List Leaf) → Atom names x text → ends_postfix x ≡ true
atom_ends names x text o = atom_ends_of names o.token.token o.token.offset x o.is

-- unary operators
unary-punctuator : (p : Punctuator) (o : UnaryOperator) → class.unary_mark p ≡ Some o → p ≡ unary_mark o
unary-punctuator punctuator.Ampersand o e = let same : AddressOf ≡ o = cc in ap unary_mark same
unary-punctuator punctuator.Star o e = let same : Dereference ≡ o = cc in ap unary_mark same
unary-punctuator punctuator.Plus o e = let same : Plus ≡ o = cc in ap unary_mark same
unary-punctuator punctuator.Minus o e = let same : Minus ≡ o = cc in ap unary_mark same
unary-punctuator punctuator.Tilde o e = let same : Complement ≡ o = cc in ap unary_mark same
unary-punctuator punctuator.Exclamation o e = let same : Not ≡ o = cc in ap unary_mark same
unary-punctuator other o e = absurd (cc)

unary-token : (k : Token) (offset : ℕ) (o : UnaryOperator) → unary_operator k ≡ Some o → record { token = k; offset = offset } ≡ mark (unary_mark o) offset
unary-token (Mark p) offset o e = ap (λ q. mark q offset) (unary-punctuator p o e)
unary-token (name_token spelling) offset o e = absurd (cc)
unary-token (Word keyword) offset o e = absurd (cc)
unary-token (number_token value type) offset o e = absurd (cc)
unary-token (character_token value) offset o e = absurd (cc)

one-unary : (as_leaf : Placed → Leaf) (found : UnaryOperator × ℕ) (text : List Leaf) → One as_leaf (with_offset unary_operator) found text → text ≡ as_leaf (mark (unary_mark found.0) found.1) ∷ []
one-unary as_leaf found text o =
    let p = placed unary_operator o.token found o.is in
    o.cut ∙ ap (λ t. as_leaf t ∷ []) (unary-token o.token.token o.token.offset found.0 p.0 ∙ ap (λ k. mark (unary_mark found.0) k) p.1)

unary-self : (o : UnaryOperator) → unary_operator (Mark (unary_mark o)) ≡ Some o
unary-self AddressOf = refl
unary-self Dereference = refl
unary-self Plus = refl
unary-self Minus = refl
unary-self Complement = refl
unary-self Not = refl

unary-one : (as_leaf : Placed → Leaf) (o : UnaryOperator) (k : ℕ) → One as_leaf (with_offset unary_operator) (o, k) (as_leaf (mark (unary_mark o) k) ∷ [])
unary-one as_leaf o k = record { token = mark (unary_mark o) k; is = rw (unary-self o) refl; cut = refl }

unary-no_bracket : (o : UnaryOperator) → is_mark punctuator.LeftParenthesis (Mark (unary_mark o)) ≡ false
unary-no_bracket AddressOf = refl
unary-no_bracket Dereference = refl
unary-no_bracket Plus = refl
unary-no_bracket Minus = refl
unary-no_bracket Complement = refl
unary-no_bracket Not = refl

-- `sizeof`
sizeof-token : (k : Token) (o offset : ℕ) → cond (is_sizeof k) (Some o) None ≡ Some offset → record { token = k; offset = o } ≡ keyword_at Sizeof offset
sizeof-token (Word Sizeof) o offset e = let same : o ≡ offset = cc in ap (keyword_at Sizeof) same
sizeof-token (Word other) o offset e = absurd (cc)
sizeof-token (name_token spelling) o offset e = absurd (cc)
sizeof-token (number_token value type) o offset e = absurd (cc)
sizeof-token (character_token value) o offset e = absurd (cc)
sizeof-token (Mark p) o offset e = absurd (cc)

one-sizeof : (as_leaf : Placed → Leaf) (k : ℕ) (text : List Leaf) → One as_leaf sizeof_offset k text → text ≡ as_leaf (keyword_at Sizeof k) ∷ []
one-sizeof as_leaf k text o = o.cut ∙ ap (λ t. as_leaf t ∷ []) (sizeof-token o.token.token o.token.offset k o.is)

sizeof-one : (as_leaf : Placed → Leaf) (k : ℕ) → One as_leaf sizeof_offset k (as_leaf (keyword_at Sizeof k) ∷ [])
sizeof-one as_leaf k = record { token = keyword_at Sizeof k; is = refl; cut = refl }

-- the texts of unary expressions that begin with no bracket, as they are read
abbrev pub OperatorText : (names : List (List ℕ)) → (depth count : ℕ) → tree.Expression → List Leaf → Type 0
OperatorText names depth count = Following (One (operates (suc count)) (with_offset unary_operator)) (λ o. Map (λ x. tree.Unary o.0 x o.1) (Cast names depth (suc count)))

abbrev pub TypeText : (names : List (List ℕ)) → (depth count : ℕ) → tree.TypeName → List Leaf → Type 0
TypeText names depth count = Closed plain punctuator.RightParenthesis (TypeName names (suc depth) (Within count))

abbrev pub SizedInside : (names : List (List ℕ)) → (depth count offset opened : ℕ) → tree.Expression → List Leaf → Type 0
SizedInside names depth count offset opened = Or (Map (λ type. tree.SizeofType type offset) (TypeText names depth (suc count))) (Map (λ x. tree.Sizeof x offset) (BracketText names depth count opened))

abbrev pub SizedText : (names : List (List ℕ)) → (depth count offset : ℕ) → tree.Expression → List Leaf → Type 0
SizedText names depth count offset =
    Or (Following (One (brackets (suc depth) (suc count)) (mark_offset punctuator.LeftParenthesis)) (λ opened. SizedInside names depth count offset opened))
    (Map (λ x. tree.Sizeof x offset) (PlainUnary names depth count))

abbrev pub SizeofText : (names : List (List ℕ)) → (depth count : ℕ) → tree.Expression → List Leaf → Type 0
SizeofText names depth count = Following (One (operates (suc count)) sizeof_offset) (λ offset. SizedText names depth (suc count) offset)

abbrev pub UnaryText : (names : List (List ℕ)) → (depth count : ℕ) → tree.Expression → List Leaf → Type 0
UnaryText names depth count = Or (OperatorText names depth count) (Or (SizeofText names depth count) (Suffixed names depth count (Atom names)))

atom-no_bracket : (names : List (List ℕ)) (k : Token) (o : ℕ) (x : tree.Expression) → atom_of names k o ≡ Some x → (is_mark punctuator.LeftParenthesis k ≡ false) × (unary_operator k ≡ None) × (is_sizeof k ≡ false)
atom-no_bracket names (name_token spelling) o x e = (refl, refl, refl)
atom-no_bracket names (number_token value type) o x e = (refl, refl, refl)
atom-no_bracket names (character_token value) o x e = (refl, refl, refl)
atom-no_bracket names (Word keyword) o x e = absurd (cc)
atom-no_bracket names (Mark p) o x e = absurd (cc)

-- the first token of an atom with what follows it
record AtomFirst (text : List Leaf) : Type 0 where
  leaf : Leaf
  more : List Leaf
  cut : text ≡ leaf ∷ more
  no : (is_mark punctuator.LeftParenthesis leaf.token.token ≡ false) × (unary_operator leaf.token.token ≡ None) × (is_sizeof leaf.token.token ≡ false)

atom_first : (names : List (List ℕ)) (depth count : ℕ) (x : tree.Expression) (text : List Leaf) → Suffixed names depth count (Atom names) x text → AtomFirst text
atom_first names depth count x text (base y t o) = record { leaf = plain o.token; more = []; cut = o.cut; no = atom-no_bracket names o.token.token o.token.offset y o.is }
atom_first names depth count x text (step y s left right h one) = let f = atom_first names depth count y left h in record { leaf = f.leaf; more = f.more ++ right; cut = ap (λ t. t ++ right) f.cut; no = f.no }

-- unary expressions by their first token
pub data UnarySplit (names : List (List ℕ)) (depth count : ℕ) (x : tree.Expression) (text : List Leaf) : Type 0 where
  is_plain : PlainUnary names depth count x text → UnarySplit names depth count x text
  is_bracket : (offset : ℕ) (rest : List Leaf) → text ≡ opening depth count offset ∷ rest → BracketText names depth count offset x rest → UnarySplit names depth count x text

split_unary : (names : List (List ℕ)) (depth count : ℕ) (x : tree.Expression) (text : List Leaf) → Unary names depth count x text → Split names depth count x text → UnarySplit names depth count x text
split_unary names depth count x text u (at_atom h) = let f = atom_first names depth count x text h in is_plain (record { derives = u; leaf = f.leaf; more = f.more; cut = f.cut; no = f.no.0 })
split_unary names depth count x text u (at_bracket offset rest cut h) = is_bracket offset rest cut h

pub unary_split : (names : List (List ℕ)) (depth count : ℕ) (x : tree.Expression) (text : List Leaf) → Unary names depth count x text → UnarySplit names depth count x text
unary_split names depth count x text (postfix d c y t h) = split_unary names d c y t (postfix d c y t h) (postfix_split names d c y t h)
unary_split names depth count x text (prefixed d c o y t offset h) = is_plain (record { derives = prefixed d c o y t offset h; leaf = _; more = t; cut = refl; no = unary-no_bracket o })
unary_split names depth count x text (sizeof_expression d c y t offset h) = is_plain (record { derives = sizeof_expression d c y t offset h; leaf = _; more = t; cut = refl; no = refl })
unary_split names depth count x text (sizeof_type d c y t offset p close h) = is_plain (record { derives = sizeof_type d c y t offset p close h; leaf = _; more = _; cut = refl; no = refl })

-- texts as they are read, and as the grammar has them
bracket_unary : (names : List (List ℕ)) (depth count offset : ℕ) (x : tree.Expression) (text : List Leaf) → BracketText names depth count offset x text → Unary names depth count x (opening depth count offset ∷ text)
bracket_unary names depth count offset x text h = postfix depth count x (opening depth count offset ∷ text) (bracket_postfix names depth count offset x text h)

sized_inside_unary : (names : List (List ℕ)) (depth count offset opened : ℕ) (x : tree.Expression) (text : List Leaf) → SizedInside names depth (suc count) offset opened x text → Unary names depth count x (operates (suc count) (keyword_at Sizeof offset) ∷ brackets (suc depth) (suc (suc count)) (mark punctuator.LeftParenthesis opened) ∷ text)
sized_inside_unary names depth count offset opened x text (first m) = let c = m.derives in rw (m.is, c.cut) (sizeof_type depth count m.inner c.inside offset opened c.close c.derives)
sized_inside_unary names depth count offset opened x text (second m) = rw m.is (sizeof_expression depth count m.inner (opening depth (suc count) opened ∷ text) offset (bracket_unary names depth (suc count) opened m.inner text m.derives))

sized_unary : (names : List (List ℕ)) (depth count offset : ℕ) (x : tree.Expression) (text : List Leaf) → SizedText names depth (suc count) offset x text → Unary names depth count x (operates (suc count) (keyword_at Sizeof offset) ∷ text)
sized_unary names depth count offset x text (first b) =
    subst (λ t. Unary names depth count x (operates (suc count) (keyword_at Sizeof offset) ∷ t)) (sym (b.cut ∙ ap (λ t. t ++ b.right) (one-mark punctuator.LeftParenthesis (brackets (suc depth) (suc (suc count))) b.first b.left b.is_first)))
    (sized_inside_unary names depth count offset b.first x b.right b.is_second)
sized_unary names depth count offset x text (second m) = rw m.is (sizeof_expression depth count m.inner text offset m.derives.derives)

text_plain : (names : List (List ℕ)) (depth count : ℕ) (x : tree.Expression) (text : List Leaf) → UnaryText names depth count x text → PlainUnary names depth count x text
text_plain names depth count x text (first b) =
    let m = b.is_second in
    let cut : text ≡ operates (suc count) (mark (unary_mark b.first.0) b.first.1) ∷ b.right = b.cut ∙ ap (λ t. t ++ b.right) (one-unary (operates (suc count)) b.first b.left b.is_first) in
    record {
      derives = subst (λ t. Unary names depth count x t) (sym cut) (rw m.is (prefixed depth count b.first.0 m.inner b.right b.first.1 m.derives));
      leaf = operates (suc count) (mark (unary_mark b.first.0) b.first.1);
      more = b.right;
      cut = cut;
      no = unary-no_bracket b.first.0;
    }
text_plain names depth count x text (second (first b)) =
    let cut : text ≡ operates (suc count) (keyword_at Sizeof b.first) ∷ b.right = b.cut ∙ ap (λ t. t ++ b.right) (one-sizeof (operates (suc count)) b.first b.left b.is_first) in
    record {
      derives = subst (λ t. Unary names depth count x t) (sym cut) (sized_unary names depth count b.first x b.right b.is_second);
      leaf = operates (suc count) (keyword_at Sizeof b.first);
      more = b.right;
      cut = cut;
      no = refl;
    }
text_plain names depth count x text (second (second h)) =
    let f = atom_first names depth count x text h in
    record { derives = postfix depth count x text (atom_postfix names depth count x text h); leaf = f.leaf; more = f.more; cut = f.cut; no = f.no.0 }

sized_by_split : (names : List (List ℕ)) (depth count offset : ℕ) (x : tree.Expression) (text : List Leaf) → UnarySplit names depth count x text → SizedText names depth count offset (tree.Sizeof x offset) text
sized_by_split names depth count offset x text (is_plain p) = second (record { inner = x; is = refl; derives = p })
sized_by_split names depth count offset x text (is_bracket opened rest cut h) =
    first (record {
      first = opened;
      left = opening depth count opened ∷ [];
      right = rest;
      is_first = mark-one punctuator.LeftParenthesis (brackets (suc depth) (suc count)) opened;
      is_second = second (record { inner = x; is = refl; derives = h });
      cut = cut;
    })

head-same : (leaf other : Leaf) (more rest text : List Leaf) → text ≡ leaf ∷ more → text ≡ other ∷ rest → leaf ≡ other
head-same leaf other more rest text e f = let g : leaf ∷ more ≡ other ∷ rest = sym e ∙ f in cc

plain_split : (names : List (List ℕ)) (depth count : ℕ) (x : tree.Expression) (text : List Leaf) (leaf : Leaf) (more : List Leaf) → text ≡ leaf ∷ more → is_mark punctuator.LeftParenthesis leaf.token.token ≡ false → Split names depth count x text → UnaryText names depth count x text
plain_split names depth count x text leaf more cut lacks (at_atom h) = second (second h)
plain_split names depth count x text leaf more cut lacks (at_bracket offset rest c h) =
    absurd (let same : leaf ≡ opening depth count offset = head-same leaf (opening depth count offset) more rest text cut c in
    let f : is_mark punctuator.LeftParenthesis leaf.token.token ≡ true = ap (λ (l : Leaf). is_mark punctuator.LeftParenthesis l.token.token) same in cc)

plain_text_of : (names : List (List ℕ)) (depth count : ℕ) (x : tree.Expression) (text : List Leaf) → Unary names depth count x text → (leaf : Leaf) (more : List Leaf) → text ≡ leaf ∷ more → is_mark punctuator.LeftParenthesis leaf.token.token ≡ false → UnaryText names depth count x text
plain_text_of names depth count x text (postfix d c y t h) leaf more cut lacks = plain_split names d c y t leaf more cut lacks (postfix_split names d c y t h)
plain_text_of names depth count x text (prefixed d c o y t offset h) leaf more cut lacks =
    first (record { first = (o, offset); left = operates (suc c) (mark (unary_mark o) offset) ∷ []; right = t; is_first = unary-one (operates (suc c)) o offset; is_second = record { inner = y; is = refl; derives = h }; cut = refl })
plain_text_of names depth count x text (sizeof_expression d c y t offset h) leaf more cut lacks =
    second (first (record { first = offset; left = operates (suc c) (keyword_at Sizeof offset) ∷ []; right = t; is_first = sizeof-one (operates (suc c)) offset; is_second = sized_by_split names d (suc c) offset y t (unary_split names d (suc c) y t h); cut = refl }))
plain_text_of names depth count x text (sizeof_type d c y t offset p close h) leaf more cut lacks =
    second (first (record {
      first = offset;
      left = operates (suc c) (keyword_at Sizeof offset) ∷ [];
      right = brackets (suc d) (suc (suc c)) (mark punctuator.LeftParenthesis p) ∷ t ++ plain (mark punctuator.RightParenthesis close) ∷ [];
      is_first = sizeof-one (operates (suc c)) offset;
      is_second = first (record {
        first = p;
        left = brackets (suc d) (suc (suc c)) (mark punctuator.LeftParenthesis p) ∷ [];
        right = t ++ plain (mark punctuator.RightParenthesis close) ∷ [];
        is_first = mark-one punctuator.LeftParenthesis (brackets (suc d) (suc (suc c))) p;
        is_second = first (record { inner = y; is = refl; derives = record { inside = t; close = close; derives = h; cut = refl } });
        cut = refl;
      });
      cut = refl;
    }))

plain_text : (names : List (List ℕ)) (depth count : ℕ) (x : tree.Expression) (text : List Leaf) → PlainUnary names depth count x text → UnaryText names depth count x text
plain_text names depth count x text p = plain_text_of names depth count x text p.derives p.leaf p.more p.cut p.no

-- where the texts begin
zero_plain : (names : List (List ℕ)) (depth count : ℕ) → PlainUnary names depth count zero_tree zero_text
zero_plain names depth count = record { derives = zero_unary names depth count; leaf = plain (number 0 SignedInt 0); more = []; cut = refl; no = refl }

stops_first : (test : Token → Bool) (text : List Leaf) (leaf : Leaf) (more : List Leaf) (rest : List Placed) → text ≡ leaf ∷ more → test leaf.token.token ≡ false → Stops (λ t. not (test t.token)) (plains marks text ++ rest)
stops_first test text leaf more rest cut lacks = subst (λ t. Stops (λ t. not (test t.token)) (plains marks t ++ rest)) (sym cut) (rw lacks refl)

bracket_no : (names : List (List ℕ)) (depth count offset : ℕ) (x : tree.Expression) (text : List Leaf) → BracketText names depth count offset x text → NoType names text
bracket_no names depth count offset x text (base y t m) = let c = m.derives in subst (NoType names) (sym c.cut) (no-append names c.inside _ (conditional_no names (suc depth) (suc count) m.inner c.inside c.derives))
bracket_no names depth count offset x text (step y s left right h one) = no-append names left right (bracket_no names depth count offset y left h)

true-not : (b : Bool) → true ≡ not (b && false)
true-not true = refl
true-not false = refl

type_begins : (names : List (List ℕ)) → TypeFacts names → (depth count : ℕ) (type : tree.TypeName) (text : List Leaf) → TypeText names depth count type text → (u : Leaf) × (more : List Leaf) × (text ≡ u ∷ more) × (begins_type names u.token.token ≡ true)
type_begins names facts depth count type text c =
    let b = facts.begins (suc depth) (Within count) type c.inside c.derives in
    (b.0, b.1 ++ plain (mark punctuator.RightParenthesis c.close) ∷ [], c.cut ∙ ap (λ t. t ++ plain (mark punctuator.RightParenthesis c.close) ∷ []) b.2, b.3)

open_first : (depth count : ℕ) {X : Type 0} (S2 : ℕ → X → List Leaf → Type 0) (x : X) (text : List Leaf) → Following (One (brackets (suc depth) (suc count)) (mark_offset punctuator.LeftParenthesis)) S2 x text → (u : Leaf) × (more : List Leaf) × (text ≡ u ∷ more) × (is_mark punctuator.LeftParenthesis u.token.token ≡ true)
open_first depth count S2 x text b = (opening depth count b.first, b.right, b.cut ∙ ap (λ t. t ++ b.right) (one-mark punctuator.LeftParenthesis (brackets (suc depth) (suc count)) b.first b.left b.is_first), refl)

sizeof_second : (names : List (List ℕ)) (depth count : ℕ) (x : tree.Expression) (text : List Leaf) (rest : List Placed) → Or (SizeofText names depth count) (Suffixed names depth count (Atom names)) x text → Stops (λ t. not (is_some (unary_operator t.token))) (plains marks text ++ rest)
sizeof_second names depth count x text rest (first b) = stops_first (λ k. is_some (unary_operator k)) text (operates (suc count) (keyword_at Sizeof b.first)) b.right rest (b.cut ∙ ap (λ t. t ++ b.right) (one-sizeof (operates (suc count)) b.first b.left b.is_first)) refl
sizeof_second names depth count x text rest (second h) = let f = atom_first names depth count x text h in stops_first (λ k. is_some (unary_operator k)) text f.leaf f.more rest f.cut (ap is_some f.no.1)

-- casts
abbrev pub ConvertedText : (names : List (List ℕ)) → (depth count offset : ℕ) → tree.Expression → List Leaf → Type 0
ConvertedText names depth count offset = Following (TypeText names depth (suc count)) (λ type. Map (λ x. tree.Cast type x offset) (Cast names depth (suc count + operators_of_type type)))

abbrev pub CastInside : (names : List (List ℕ)) → (depth count offset : ℕ) → tree.Expression → List Leaf → Type 0
CastInside names depth count offset = Or (ConvertedText names depth count offset) (BracketText names depth count offset)

abbrev pub CastText : (names : List (List ℕ)) → (depth count : ℕ) → tree.Expression → List Leaf → Type 0
CastText names depth count = Or (Following (One (brackets (suc depth) (suc count)) (mark_offset punctuator.LeftParenthesis)) (λ offset. CastInside names depth count offset)) (PlainUnary names depth count)

converted_cast : (names : List (List ℕ)) (depth count offset : ℕ) (x : tree.Expression) (text : List Leaf) → CastInside names depth count offset x text → Cast names depth count x (opening depth count offset ∷ text)
converted_cast names depth count offset x text (first b) =
    let m = b.is_second in
    let c = b.is_first in
    let same : text ≡ c.inside ++ plain (mark punctuator.RightParenthesis c.close) ∷ b.right = b.cut ∙ ap (λ t. t ++ b.right) c.cut ∙ append_assoc c.inside (plain (mark punctuator.RightParenthesis c.close) ∷ []) b.right in
    rw (m.is, same) (cast depth count b.first m.inner c.inside b.right offset c.close c.derives m.derives)
converted_cast names depth count offset x text (second h) = unary depth count x (opening depth count offset ∷ text) (bracket_unary names depth count offset x text h)

text_cast : (names : List (List ℕ)) (depth count : ℕ) (x : tree.Expression) (text : List Leaf) → CastText names depth count x text → Cast names depth count x text
text_cast names depth count x text (first b) =
    subst (λ t. Cast names depth count x t) (sym (b.cut ∙ ap (λ t. t ++ b.right) (one-mark punctuator.LeftParenthesis (brackets (suc depth) (suc count)) b.first b.left b.is_first))) (converted_cast names depth count b.first x b.right b.is_second)
text_cast names depth count x text (second p) = unary depth count x text p.derives

cast_by_split : (names : List (List ℕ)) (depth count : ℕ) (x : tree.Expression) (text : List Leaf) → UnarySplit names depth count x text → CastText names depth count x text
cast_by_split names depth count x text (is_plain p) = second p
cast_by_split names depth count x text (is_bracket offset rest cut h) =
    first (record { first = offset; left = opening depth count offset ∷ []; right = rest; is_first = mark-one punctuator.LeftParenthesis (brackets (suc depth) (suc count)) offset; is_second = second h; cut = cut })

cast_text : (names : List (List ℕ)) (depth count : ℕ) (x : tree.Expression) (text : List Leaf) → Cast names depth count x text → CastText names depth count x text
cast_text names depth count x text (unary d c y t h) = cast_by_split names d c y t (unary_split names d c y t h)
cast_text names depth count x text (cast d c ty y inside t offset close h k) =
    first (record {
      first = offset;
      left = opening d c offset ∷ [];
      right = inside ++ plain (mark punctuator.RightParenthesis close) ∷ t;
      is_first = mark-one punctuator.LeftParenthesis (brackets (suc d) (suc c)) offset;
      is_second = first (record {
        first = ty;
        left = inside ++ plain (mark punctuator.RightParenthesis close) ∷ [];
        right = t;
        is_first = record { inside = inside; close = close; derives = h; cut = refl };
        is_second = record { inner = y; is = refl; derives = k };
        cut = sym (append_assoc inside (plain (mark punctuator.RightParenthesis close) ∷ []) t);
      });
      cut = refl;
    })

-- what is in brackets keeps roles
roled-inside : (names : List (List ℕ)) (inner : Parsers) (depth count offset : ℕ) → suc depth ≤ nesting_limit → suc count ≤ operator_limit → Inside names inner depth count → Firm anything (InsideText names depth count offset) (λ _. anything) (read_inside inner depth count offset)
roled-inside names inner depth count offset d l inside =
    firm-map (λ x. tree.Bracketed x offset) (λ _. anything) (λ x. refl)
    (roled-closed punctuator.RightParenthesis OperandEnd (expected OperandEnd) (λ t. refl) (λ t. refl) (inside count d l (omega arith)) (λ x close. refl))

roled-bracket : (names : List (List ℕ)) (inner : Parsers) (depth count offset : ℕ) → suc depth ≤ nesting_limit → suc count ≤ operator_limit → Inside names inner depth count → Firm anything (BracketText names depth count offset) stop_cast (read_bracketed inner depth count offset)
roled-bracket names inner depth count offset d l inside =
    roled-suffixed names inner depth count inside (λ x text m. ap ends_postfix m.is) (roled-inside names inner depth count offset d l inside)

roled-postfix : (names : List (List ℕ)) (inner : Parsers) (depth count : ℕ) → Inside names inner depth count → Firm anything (Suffixed names depth count (Atom names)) stop_cast (read_postfix names inner depth count)
roled-postfix names inner depth count inside =
    roled-suffixed names inner depth count inside (atom_ends names) (firm-one anything plain (atom_at names) Nothing (λ t. refl) (λ t. refl) (number 0 SignedInt 0) zero_tree refl)

roled-type : {names : List (List ℕ)} {inner : Parsers} {fuel : ℕ} → AreFirm names inner fuel → (depth count : ℕ) → needs depth count ≤ fuel → suc depth ≤ nesting_limit → Firm anything (TypeText names depth (suc count)) (λ _. anything) (read_type inner depth (suc count))
roled-type {fuel = fuel} are depth count h d = are.type_name (suc depth) (Within (suc count)) (budget_type depth count fuel h d)

begin_type : (names : List (List ℕ)) → TypeRoles names → (depth count : ℕ) (t : Placed) → begins_type names t.token ≡ true → Begins marks (TypeText names depth count) t
begin_type names types depth count t e =
    let b = types.begins (suc depth) (Within count) t e in
    closed_begins plain punctuator.RightParenthesis t (record { value = b.type; first = b.first; more = b.more; derives = b.derives; is = b.is })

type_some : (names : List (List ℕ)) → TypeFacts names → (depth : ℕ) (counting : Counting) (type : tree.TypeName) → TypeName names depth counting type [] → ⊥
type_some names facts depth counting type h = let b = facts.begins depth counting type [] h in let e : [] ≡ b.0 ∷ b.1 = b.2 in cc

type_silent : (names : List (List ℕ)) → TypeFacts names → TypeRoles names → (depth count : ℕ) → Silent marks roles (TypeText names depth count)
type_silent names facts types depth count = closed_silent plain punctuator.RightParenthesis (type_some names facts (suc depth) (Within count)) (types.silent (suc depth) (Within count))

-- what follows the brackets and operators that begin an expression
some_sized : (names : List (List ℕ)) (depth count offset opened : ℕ) → (x : tree.Expression) × (right : List Leaf) × SizedInside names depth count offset opened x right
some_sized names depth count offset opened =
    (tree.Sizeof (tree.Bracketed zero_tree opened) offset, zero_text ++ expected OperandEnd (mark punctuator.RightParenthesis 0) ∷ [], second (record { inner = tree.Bracketed zero_tree opened; is = refl; derives = base _ _ (record { inner = zero_tree; is = refl; derives = record { inside = zero_text; close = 0; derives = zero_conditional names (suc depth) (suc count); cut = refl } }) }))

some_prefixed : (names : List (List ℕ)) (depth count : ℕ) (o : UnaryOperator × ℕ) → (x : tree.Expression) × (right : List Leaf) × Map (λ x. tree.Unary o.0 x o.1) (Cast names depth (suc count)) x right
some_prefixed names depth count o = (tree.Unary o.0 zero_tree o.1, zero_text, record { inner = zero_tree; is = refl; derives = zero_cast names depth (suc count) })

some_sizeof : (names : List (List ℕ)) (depth count offset : ℕ) → (x : tree.Expression) × (right : List Leaf) × SizedText names depth (suc count) offset x right
some_sizeof names depth count offset = (tree.Sizeof zero_tree offset, zero_text, second (record { inner = zero_tree; is = refl; derives = zero_plain names depth (suc count) }))

some_converted : (names : List (List ℕ)) (depth count offset : ℕ) (type : tree.TypeName) → (x : tree.Expression) × (right : List Leaf) × Map (λ x. tree.Cast type x offset) (Cast names depth (suc count + operators_of_type type)) x right
some_converted names depth count offset type = (tree.Cast type zero_tree offset, zero_text, record { inner = zero_tree; is = refl; derives = zero_cast names depth (suc count + operators_of_type type) })

some_cast : (names : List (List ℕ)) (depth count offset : ℕ) → (x : tree.Expression) × (right : List Leaf) × CastInside names depth count offset x right
some_cast names depth count offset =
    (tree.Bracketed zero_tree offset, zero_text ++ expected OperandEnd (mark punctuator.RightParenthesis 0) ∷ [], second (base _ _ (record { inner = zero_tree; is = refl; derives = record { inside = zero_text; close = 0; derives = zero_conditional names (suc depth) (suc count); cut = refl } })))

sizeof-some : (k : Token) (o : ℕ) → is_sizeof k ≡ true → cond (is_sizeof k) (Some o) None ≡ Some o
sizeof-some k o e = rw e refl

roled-sized_inside : {names : List (List ℕ)} {inner : Parsers} {fuel : ℕ} → TypeFacts names → TypeRoles names → AreFirm names inner fuel → (depth count offset opened : ℕ) → needs depth count ≤ fuel → suc depth ≤ nesting_limit → suc count ≤ operator_limit
    → Firm anything (SizedInside names depth count offset opened) stop_cast (choose (begins_type names) (read_map (λ type. tree.SizeofType type offset) (read_type inner depth (suc count))) (read_map (λ x. tree.Sizeof x offset) (read_bracketed inner depth count opened)))
roled-sized_inside {names} {inner} {fuel} facts types are depth count offset opened h d l =
    roled-choice (begins_type names)
    record {
      first_begins = λ x text m. type_begins names facts depth (suc count) m.inner text m.derives;
      second_begins = λ x text rest m stops. let n = bracket_no names depth count opened m.inner text m.derives in stops_first (begins_type names) text n.leaf n.more rest n.cut n.no;
    }
    (λ t e. map_begins (λ type. tree.SizeofType type offset) t (begin_type names types depth (suc count) t e)) (map_silent (λ type. tree.SizeofType type offset) (type_silent names facts types depth (suc count)))
    (firm-map (λ type. tree.SizeofType type offset) stop_cast (λ type. refl) (roled-stop (λ _ t. not (is_suffix t.token && false)) (λ type text m t. true-not (is_suffix t.token)) (roled-type are depth count h d)))
    (firm-map (λ x. tree.Sizeof x offset) stop_cast (λ x. refl) (roled-bracket names inner depth count opened d l (inside_by are depth count h)))

roled-sized : {names : List (List ℕ)} {inner : Parsers} {fuel : ℕ} → TypeFacts names → TypeRoles names → AreFirm names inner fuel → (depth count offset : ℕ) → needs depth count + 8 ≤ fuel → Firm anything (SizedText names depth count offset) stop_cast (read_sized names inner depth count offset)
roled-sized {names} {inner} {fuel} facts types are depth count offset h =
    roled-choice (is_mark punctuator.LeftParenthesis)
    record {
      first_begins = λ x text b. open_first depth count (SizedInside names depth count offset) x text b;
      second_begins = λ x text rest m stops. stops_first (is_mark punctuator.LeftParenthesis) text m.derives.leaf m.derives.more rest m.derives.cut m.derives.no;
    }
    (λ t e. after_begins (mark_offset punctuator.LeftParenthesis) (brackets (suc depth) (suc count)) (λ t. refl) t t.offset (mark-some punctuator.LeftParenthesis t e) (some_sized names depth count offset t.offset))
    (after_silent (mark_offset punctuator.LeftParenthesis) (brackets (suc depth) (suc count)) (λ t. refl))
    (roled-opened (mark_offset punctuator.LeftParenthesis) Nothing (brackets (suc depth) (suc count)) (λ t. refl) (λ t. refl) (mark punctuator.LeftParenthesis 0) 0 (mark-self punctuator.LeftParenthesis 0)
    (some_sized names depth count offset)
    (λ opened t is within. let w = within_brackets (suc depth) (suc count) t within in roled-sized_inside facts types are depth count offset opened (omega arith) w.0 w.1))
    (firm-map (λ x. tree.Sizeof x offset) stop_cast (λ x. refl) (are.unary depth count (omega arith)))

roled-prefixed : {names : List (List ℕ)} {inner : Parsers} {fuel : ℕ} → AreFirm names inner fuel → (depth count : ℕ) → needs depth count ≤ fuel → Firm anything (OperatorText names depth count) stop_cast (read_prefixed inner depth count)
roled-prefixed {names} {inner} {fuel} are depth count h =
    roled-opened (with_offset unary_operator) Nothing (operates (suc count)) (λ t. refl) (λ t. refl) (mark punctuator.Plus 0) (Plus, 0) refl
    (some_prefixed names depth count)
    (λ o t is within. let next = budget_next depth count fuel h (within_operates (suc count) t within) in firm-map (λ x. tree.Unary o.0 x o.1) stop_cast (λ x. refl) (are.cast depth (suc count) (omega arith)))

roled-sizeof : {names : List (List ℕ)} {inner : Parsers} {fuel : ℕ} → TypeFacts names → TypeRoles names → AreFirm names inner fuel → (depth count : ℕ) → needs depth count ≤ fuel → Firm anything (SizeofText names depth count) stop_cast (read_sizeof names inner depth count)
roled-sizeof {names} {inner} {fuel} facts types are depth count h =
    roled-opened sizeof_offset Nothing (operates (suc count)) (λ t. refl) (λ t. refl) (keyword_at Sizeof 0) 0 refl
    (some_sizeof names depth count)
    (λ offset t is within. roled-sized facts types are depth (suc count) offset (budget_next depth count fuel h (within_operates (suc count) t within)))

pub roled-unary : {names : List (List ℕ)} {inner : Parsers} {fuel : ℕ} → TypeFacts names → TypeRoles names → AreFirm names inner fuel → (depth count : ℕ) → needs depth count ≤ fuel → Firm anything (PlainUnary names depth count) stop_cast (read_unary names inner depth count)
roled-unary {names} {inner} {fuel} facts types are depth count h =
    roled-same anything (PlainUnary names depth count) (read_unary names inner depth count) (λ t e. e) (text_plain names depth count) (plain_text names depth count) (λ tokens. refl)
    (roled-choice (λ k. is_some (unary_operator k))
    record {
      first_begins = λ x text b. (operates (suc count) (mark (unary_mark b.first.0) b.first.1), b.right, b.cut ∙ ap (λ t. t ++ b.right) (one-unary (operates (suc count)) b.first b.left b.is_first), ap is_some (unary-self b.first.0));
      second_begins = λ x text rest one stops. sizeof_second names depth count x text rest one;
    }
    (λ t e. let o = placed-some unary_operator t e in after_begins (with_offset unary_operator) (operates (suc count)) (λ t. refl) t o.0 o.1 (some_prefixed names depth count o.0))
    (after_silent (with_offset unary_operator) (operates (suc count)) (λ t. refl))
    (roled-prefixed are depth count h)
    (roled-choice is_sizeof
    record {
      first_begins = λ x text b. (operates (suc count) (keyword_at Sizeof b.first), b.right, b.cut ∙ ap (λ t. t ++ b.right) (one-sizeof (operates (suc count)) b.first b.left b.is_first), refl);
      second_begins = λ x text rest one stops. let f = atom_first names depth count x text one in stops_first is_sizeof text f.leaf f.more rest f.cut f.no.2;
    }
    (λ t e. after_begins sizeof_offset (operates (suc count)) (λ t. refl) t t.offset (sizeof-some t.token t.offset e) (some_sizeof names depth count t.offset))
    (after_silent sizeof_offset (operates (suc count)) (λ t. refl))
    (roled-sizeof facts types are depth count h) (roled-postfix names inner depth count (inside_by are depth count h))))

roled-cast_inside : {names : List (List ℕ)} {inner : Parsers} {fuel : ℕ} → TypeFacts names → TypeRoles names → AreFirm names inner fuel → (depth count offset : ℕ) → needs depth count ≤ fuel → suc depth ≤ nesting_limit → suc count ≤ operator_limit
    → Firm anything (CastInside names depth count offset) stop_cast (choose (begins_type names) (read_converted inner depth count offset) (read_bracketed inner depth count offset))
roled-cast_inside {names} {inner} {fuel} facts types are depth count offset h d l =
    roled-choice (begins_type names)
    record {
      first_begins = λ x text b. let f = type_begins names facts depth (suc count) b.first b.left b.is_first in (f.0, f.1 ++ b.right, b.cut ∙ ap (λ t. t ++ b.right) f.2, f.3);
      second_begins = λ x text rest one stops. let n = bracket_no names depth count offset x text one in stops_first (begins_type names) text n.leaf n.more rest n.cut n.no;
    }
    (λ t e. first_begins t (begin_type names types depth (suc count) t e) (some_converted names depth count offset)) (first_silent (λ type c. no_closed type c) (type_silent names facts types depth (suc count)))
    (roled-following (roled-type are depth count h d)
    (λ type left one within. roled-enter anything (firm-map (λ x. tree.Cast type x offset) stop_cast (λ x. refl) (are.cast depth (suc count + operators_of_type type) (budget_after depth count (operators_of_type type) fuel h l))))
    record {
      ends = λ type x left right rest one two stops. stops_anything (plains marks right ++ rest);
      goes_on = λ type left one. some_converted names depth count offset type;
    })
    (roled-bracket names inner depth count offset d l (inside_by are depth count h))
  where
    no_closed : (type : tree.TypeName) → TypeText names depth (suc count) type [] → ⊥
    no_closed type c = let b = type_begins names facts depth (suc count) type [] c in let e : [] ≡ b.0 ∷ b.1 = b.2 in cc

pub roled-cast : {names : List (List ℕ)} {inner : Parsers} {fuel : ℕ} → TypeFacts names → TypeRoles names → AreFirm names inner fuel → (depth count : ℕ) → needs depth count + 1 ≤ fuel → Firm anything (Cast names depth count) stop_cast (read_cast names inner depth count)
roled-cast {names} {inner} {fuel} facts types are depth count h =
    roled-same anything (Cast names depth count) (read_cast names inner depth count) (λ t e. e) (text_cast names depth count) (cast_text names depth count) (λ tokens. refl)
    (roled-choice (is_mark punctuator.LeftParenthesis)
    record {
      first_begins = λ x text b. open_first depth count (CastInside names depth count) x text b;
      second_begins = λ x text rest p stops. stops_first (is_mark punctuator.LeftParenthesis) text p.leaf p.more rest p.cut p.no;
    }
    (λ t e. after_begins (mark_offset punctuator.LeftParenthesis) (brackets (suc depth) (suc count)) (λ t. refl) t t.offset (mark-some punctuator.LeftParenthesis t e) (some_cast names depth count t.offset))
    (after_silent (mark_offset punctuator.LeftParenthesis) (brackets (suc depth) (suc count)) (λ t. refl))
    (roled-opened (mark_offset punctuator.LeftParenthesis) Nothing (brackets (suc depth) (suc count)) (λ t. refl) (λ t. refl) (mark punctuator.LeftParenthesis 0) 0 (mark-self punctuator.LeftParenthesis 0)
    (some_cast names depth count)
    (λ offset t is within. let w = within_brackets (suc depth) (suc count) t within in roled-cast_inside facts types are depth count offset (omega arith) w.0 w.1))
    (are.unary depth count h))
