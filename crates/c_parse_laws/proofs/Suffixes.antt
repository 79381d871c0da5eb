-- Postfix expressions keep roles.
use Rattle.std.proofs.Common.{◌≡◌, ℕ, Some, ap, List, [], ◌∷◌, ◌∙◌, refl, Option, None, suc, ◌+◌, ◌++◌, ◌≤◌, Bool, true, false, ◌||◌, ltb-false, sym, subst, not, IsTrue, ◌&&◌, arith}
use Rattle.std.specs.Prelude.{option_map, nat_lt}
use Rattle.c_token_spec.specs.declared.token.Punctuator.{Punctuator}
use Rattle.c_token_spec.specs.declared.token.Punctuator.TheVariants as punctuator
use Rattle.c_token_spec.specs.Lexical.{Token, Name as name_token, Word, Number as number_token, Character as character_token, Mark, Placed}
use Rattle.c_syntax_spec.specs.declared.Access.{Access}
use Rattle.c_syntax_spec.specs.declared.Access.TheVariants.{Dot, Arrow}
use Rattle.c_syntax_spec.specs.Expression as tree
use Rattle.c_parse_spec.specs.declared.Role.{Role}
use Rattle.c_parse_spec.specs.declared.Role.TheVariants.{OperandEnd, Nothing}
use Rattle.c_parse_spec.specs.Leaves.{named, Leaf, plain, mark, expected, operates, brackets, is_over, marks, roles}
use Rattle.c_parse_spec.specs.Expressions.{access_mark, Conditional, operators}
use Rattle.exact_read.specs.Reading.{plains, Stops, Parser}
use Rattle.exact_read.specs.Grammar.{One, anything, Map, first, Or, second}
use Rattle.exact_read.specs.Folds.{Folded, base, step}
use Rattle.exact_read.proofs.Parts.{Apart, stops_anything, both}
use Rattle.exact_read.proofs.Many.{Items}
use Rattle.c_parse_laws.specs.Classes.{name_of, name_at, access_operator, with_offset, mark_offset, is_mark, is_suffix}
use Rattle.c_parse_laws.specs.Classes as class
use Rattle.c_parse_laws.specs.Stops.{stop_conditional, ends_postfix, stop_cast}
use Rattle.c_parse_laws.specs.Parsers.{Suffix, ByIndex, ByMember, Parsers, with_suffix, count_suffix, starts_suffix, before, read_index, read_member, read_suffix, read_suffixes}
use Rattle.c_parse_laws.specs.Exactness.{Closed}
use Rattle.c_parse_laws.proofs.Marks.{Following, one-mark, mark-one, mark-passes, mark-self, roled-closed, roled-opened, mark-some, after_begins, roled-choose, after_silent, same_begins, placed-some}
use Rattle.c_parse_laws.proofs.Samples.{zero_tree, zero_text, zero_conditional}
use Rattle.exact_read.proofs.RoleBasics.{roled-same, roled-enter, roled-stop}
use Rattle.exact_read.proofs.RoleBegins.{Begins, Silent}
use Rattle.c_parse_laws.specs.Firm.{Firm}
use Rattle.std.specs.Option.{is_some}
use Rattle.c_parse_spec.specs.Limits.{nesting_limit, operator_limit}
use Rattle.c_parse_laws.proofs.Firm.{firm-map, firm-one, firm-folded}

-- a name is determined by its token
name-token : (k : Token) (o : ℕ) (n : tree.Name) → name_of k o ≡ Some n → record { token = k; offset = o } ≡ named n
name-token (name_token spelling) o n e = let same : record { spelling = spelling; offset = o } ≡ n = cc in ap named same
name-token (Word keyword) o n e = absurd (cc)
name-token (number_token value type) o n e = absurd (cc)
name-token (character_token value) o n e = absurd (cc)
name-token (Mark p) o n e = absurd (cc)

pub one-name : (n : tree.Name) (text : List Leaf) → One plain name_at n text → text ≡ plain (named n) ∷ []
one-name n text o = o.cut ∙ ap (λ t. plain t ∷ []) (name-token o.token.token o.token.offset n o.is)

pub name-one : (n : tree.Name) → One plain name_at n (plain (named n) ∷ [])
name-one n = record { token = named n; is = refl; cut = refl }

-- so is `.` and `->`
access-punctuator : (p : Punctuator) (a : Access) → class.access_mark p ≡ Some a → p ≡ access_mark a
access-punctuator punctuator.Dot a e = let same : Dot ≡ a = cc in ap access_mark same
access-punctuator punctuator.Arrow a e = let same : Arrow ≡ a = cc in ap access_mark same
access-punctuator other a e = absurd (cc)

access-token : (k : Token) (o : ℕ) (a : Access) → access_operator k ≡ Some a → record { token = k; offset = o } ≡ mark (access_mark a) o
access-token (Mark p) o a e = ap (λ q. mark q o) (access-punctuator p a e)
access-token (name_token spelling) o a e = absurd (cc)
access-token (Word keyword) o a e = absurd (cc)
access-token (number_token value type) o a e = absurd (cc)
access-token (character_token value) o a e = absurd (cc)

-- a class with the offset beside it
pub placed : {A : Type 0} (class : Token → Option A) (t : Placed) (found : A × ℕ) → with_offset class t ≡ Some found → (class t.token ≡ Some found.0) × (t.offset ≡ found.1)
placed {A} class t found e = by_class (class t.token) refl e
  where
    by_class : (o : Option A) → class t.token ≡ o → option_map (λ a. (a, t.offset)) o ≡ Some found → (class t.token ≡ Some found.0) × (t.offset ≡ found.1)
    by_class None f e = absurd (cc)
    by_class (Some a) f e = let same : (a, t.offset) ≡ found = cc in (f ∙ ap (λ (p : A × ℕ). Some p.0) same, ap (λ (p : A × ℕ). p.1) same)

pub one-access : (as_leaf : Placed → Leaf) (found : Access × ℕ) (text : List Leaf) → One as_leaf (with_offset access_operator) found text → text ≡ as_leaf (mark (access_mark found.0) found.1) ∷ []
one-access as_leaf found text o =
    let p = placed access_operator o.token found o.is in
    o.cut ∙ ap (λ t. as_leaf t ∷ []) (access-token o.token.token o.token.offset found.0 p.0 ∙ ap (λ k. mark (access_mark found.0) k) p.1)

access-self : (a : Access) → access_operator (Mark (access_mark a)) ≡ Some a
access-self Dot = refl
access-self Arrow = refl

pub access-one : (as_leaf : Placed → Leaf) (a : Access) (k : ℕ) → One as_leaf (with_offset access_operator) (a, k) (as_leaf (mark (access_mark a) k) ∷ [])
access-one as_leaf a k = record { token = mark (access_mark a) k; is = rw (access-self a) refl; cut = refl }

-- what can follow a postfix expression
pub data SuffixText (names : List (List ℕ)) (depth count : ℕ) : Suffix → List Leaf → Type 0 where
  by_index : (i : tree.Expression) (inside : List Leaf) (offset close : ℕ) → Conditional names (suc depth) (suc count) i inside
      → SuffixText names depth count (ByIndex i offset) (brackets (suc depth) (suc count) (mark punctuator.LeftBracket offset) ∷ inside ++ expected OperandEnd (mark punctuator.RightBracket close) ∷ [])
  by_member : (a : Access) (n : tree.Name) (offset : ℕ) → SuffixText names depth count (ByMember a n offset) (operates (suc count) (mark (access_mark a) offset) ∷ plain (named n) ∷ [])

-- the parser of what is in brackets here
abbrev pub Inside : (names : List (List ℕ)) → Parsers → (depth count : ℕ) → Type 0
Inside names inner depth count = (c : ℕ) → suc depth ≤ nesting_limit → suc c ≤ operator_limit → count ≤ c → Firm anything (Conditional names (suc depth) (suc c)) stop_conditional (inner.conditional (suc depth) (suc c))

or-false : (a b : Bool) → (a || b) ≡ false → (a ≡ false) × (b ≡ false)
or-false true b e = absurd (cc)
or-false false b e = (refl, e)

-- what a leaf says that is not over
pub within_brackets : (a b : ℕ) (t : Placed) → is_over (brackets a b t) ≡ false → (a ≤ nesting_limit) × (b ≤ operator_limit)
within_brackets a b t e = let h = or-false (nat_lt nesting_limit a) (nat_lt operator_limit b) e in (ltb-false nesting_limit a h.0, ltb-false operator_limit b h.1)

pub within_operates : (b : ℕ) (t : Placed) → is_over (operates b t) ≡ false → b ≤ operator_limit
within_operates b t e = ltb-false operator_limit b e

-- an index or a member
abbrev pub IndexText : (names : List (List ℕ)) → (depth count : ℕ) → Suffix → List Leaf → Type 0
IndexText names depth count =
    Following (One (brackets (suc depth) (suc count)) (mark_offset punctuator.LeftBracket))
    (λ offset. Map (λ index. ByIndex index offset) (Closed (expected OperandEnd) punctuator.RightBracket (Conditional names (suc depth) (suc count))))

abbrev pub MemberText : (count : ℕ) → Suffix → List Leaf → Type 0
MemberText count = Following (One (operates (suc count)) (with_offset access_operator)) (λ access. Map (λ name. ByMember access.0 name access.1) (One plain name_at))

index_suffix : (names : List (List ℕ)) (depth count : ℕ) (s : Suffix) (text : List Leaf) → IndexText names depth count s text → SuffixText names depth count s text
index_suffix names depth count s text b =
    let m = b.is_second in
    let c = m.derives in
    rw (m.is, b.cut, one-mark punctuator.LeftBracket (brackets (suc depth) (suc count)) b.first b.left b.is_first, c.cut) (by_index m.inner c.inside b.first c.close c.derives)

member_suffix : (names : List (List ℕ)) (depth count : ℕ) (s : Suffix) (text : List Leaf) → MemberText count s text → SuffixText names depth count s text
member_suffix names depth count s text b =
    let m = b.is_second in
    rw (m.is, b.cut, one-access (operates (suc count)) b.first b.left b.is_first, one-name m.inner b.right m.derives) (by_member b.first.0 m.inner b.first.1)

or_suffix : (names : List (List ℕ)) (depth count : ℕ) (s : Suffix) (text : List Leaf) → Or (IndexText names depth count) (MemberText count) s text → SuffixText names depth count s text
or_suffix names depth count s text (first b) = index_suffix names depth count s text b
or_suffix names depth count s text (second b) = member_suffix names depth count s text b

suffix_or : (names : List (List ℕ)) (depth count : ℕ) (s : Suffix) (text : List Leaf) → SuffixText names depth count s text → Or (IndexText names depth count) (MemberText count) s text
suffix_or names depth count s text (by_index i inside offset close c) =
    first (record {
      first = offset;
      left = brackets (suc depth) (suc count) (mark punctuator.LeftBracket offset) ∷ [];
      right = inside ++ expected OperandEnd (mark punctuator.RightBracket close) ∷ [];
      is_first = mark-one punctuator.LeftBracket (brackets (suc depth) (suc count)) offset;
      is_second = record { inner = i; is = refl; derives = record { inside = inside; close = close; derives = c; cut = refl } };
      cut = refl;
    })
suffix_or names depth count s text (by_member a n offset) =
    second (record {
      first = (a, offset);
      left = operates (suc count) (mark (access_mark a) offset) ∷ [];
      right = plain (named n) ∷ [];
      is_first = access-one (operates (suc count)) a offset;
      is_second = record { inner = n; is = refl; derives = name-one n };
      cut = refl;
    })

access-no_bracket : (k : Token) (a : Access) → access_operator k ≡ Some a → is_mark punctuator.LeftBracket k ≡ false
access-no_bracket (Mark punctuator.Dot) a e = refl
access-no_bracket (Mark punctuator.Arrow) a e = refl
access-no_bracket (Mark other) a e = absurd (cc)
access-no_bracket (name_token spelling) a e = refl
access-no_bracket (Word keyword) a e = refl
access-no_bracket (number_token value type) a e = refl
access-no_bracket (character_token value) a e = refl

apart_suffix : (names : List (List ℕ)) (depth count : ℕ) → Apart marks (λ t. is_mark punctuator.LeftBracket t.token) (IndexText names depth count) (MemberText count) (λ _. anything)
apart_suffix names depth count =
    record {
      first_begins = λ s text b.
          (brackets (suc depth) (suc count) b.is_first.token, b.right, b.cut ∙ ap (λ t. t ++ b.right) b.is_first.cut, mark-passes punctuator.LeftBracket b.is_first.token b.first b.is_first.is);
      second_begins = λ s text rest b stops.
          let p = placed access_operator b.is_first.token b.first b.is_first.is in
          let no : is_mark punctuator.LeftBracket b.is_first.token.token ≡ false = access-no_bracket b.is_first.token.token b.first.0 p.0 in
          subst (λ t. Stops (λ t. not (is_mark punctuator.LeftBracket t.token)) (plains marks t ++ rest)) (sym (b.cut ∙ ap (λ t. t ++ b.right) b.is_first.cut)) (rw no refl);
    }

-- a part with what follows it
abbrev pub Suffixed : (names : List (List ℕ)) → (depth count : ℕ) → (Base : tree.Expression → List Leaf → Type 0) → tree.Expression → List Leaf → Type 0
Suffixed names depth count Base = Folded with_suffix operators Base (λ c. SuffixText names depth (count + c))

or-true : (a : Bool) → IsTrue (a || true)
or-true true = refl
or-true false = refl

stops-or_true : (test : Placed → Bool) (rest : List Placed) → Stops (λ t. test t || true) rest
stops-or_true test [] = tt
stops-or_true test (t ∷ rest) = or-true (test t)

access-some : (k : Token) (a : Access) → access_operator k ≡ Some a → is_suffix k ≡ true
access-some k a e = rw (access-no_bracket k a e, e) refl

suffix_begins : (names : List (List ℕ)) (depth c : ℕ) (s : Suffix) (text : List Leaf) → SuffixText names depth c s text → (u : Leaf) × (more : List Leaf) × (text ≡ u ∷ more) × (is_suffix u.token.token ≡ true)
suffix_begins names depth c s text (by_index i inside offset close h) = (brackets (suc depth) (suc c) (mark punctuator.LeftBracket offset), inside ++ expected OperandEnd (mark punctuator.RightBracket close) ∷ [], refl, refl)
suffix_begins names depth c s text (by_member a n offset) = (operates (suc c) (mark (access_mark a) offset), plain (named n) ∷ [], refl, access-some (Mark (access_mark a)) a (access-self a))

suffix_items : (names : List (List ℕ)) (depth count : ℕ) → Items marks starts_suffix (λ _ _. true) (λ c. SuffixText names depth (count + c)) (λ _ _. anything) count_suffix
suffix_items names depth count =
    record {
      begins = λ c s text one. suffix_begins names depth (count + c) s text one;
      opens_next = λ c s rest stops. stops-or_true (starts_suffix (count_suffix c s)) rest;
      stops_item = λ c s rest opens. stops_anything rest;
    }

steps : (x : tree.Expression) (s : Suffix) → operators (with_suffix x s) ≡ count_suffix (operators x) s
steps x (ByIndex index offset) = refl
steps x (ByMember access member offset) = refl

and-true : (a : Bool) → (a && true) ≡ a
and-true true = refl
and-true false = refl

suffixed_ends : (names : List (List ℕ)) (depth count : ℕ) (Base : tree.Expression → List Leaf → Type 0) → ((x : tree.Expression) (text : List Leaf) → Base x text → ends_postfix x ≡ true) → (x : tree.Expression) (text : List Leaf) → Suffixed names depth count Base x text → ends_postfix x ≡ true
suffixed_ends names depth count Base ends x text (base y t one) = ends y t one
suffixed_ends names depth count Base ends x text (step y (ByIndex index offset) left right before one) = refl
suffixed_ends names depth count Base ends x text (step y (ByMember access member offset) left right before one) = refl

-- there are suffixes everywhere
some_index : (names : List (List ℕ)) (depth c offset : ℕ) → (s : Suffix) × (right : List Leaf) × Map (λ index. ByIndex index offset) (Closed (expected OperandEnd) punctuator.RightBracket (Conditional names (suc depth) (suc c))) s right
some_index names depth c offset = (ByIndex zero_tree offset, zero_text ++ expected OperandEnd (mark punctuator.RightBracket 0) ∷ [], record { inner = zero_tree; is = refl; derives = record { inside = zero_text; close = 0; derives = zero_conditional names (suc depth) (suc c); cut = refl } })

abbrev pub no_name : tree.Name
no_name = record { spelling = []; offset = 0 }

some_member : (access : Access × ℕ) → (s : Suffix) × (right : List Leaf) × Map (λ name. ByMember access.0 name access.1) (One plain name_at) s right
some_member access = (ByMember access.0 no_name access.1, plain (named no_name) ∷ [], record { inner = no_name; is = refl; derives = name-one no_name })

roled-index : (names : List (List ℕ)) (inner : Parsers) (depth count c : ℕ) → Inside names inner depth count → count ≤ c → Firm anything (IndexText names depth c) (λ _. anything) (read_index inner depth c)
roled-index names inner depth count c inside least =
    roled-opened (mark_offset punctuator.LeftBracket) Nothing (brackets (suc depth) (suc c)) (λ t. refl) (λ t. refl) (mark punctuator.LeftBracket 0) 0 (mark-self punctuator.LeftBracket 0)
    (some_index names depth c)
    (λ offset t is within. let h = within_brackets (suc depth) (suc c) t within in
    firm-map (λ index. ByIndex index offset) (λ _. anything) (λ index. refl)
    (roled-closed punctuator.RightBracket OperandEnd (expected OperandEnd) (λ t. refl) (λ t. refl) (inside c h.0 h.1 least) (λ x close. refl)))

roled-member : (c : ℕ) → Firm anything (MemberText c) (λ _. anything) (read_member c)
roled-member c =
    roled-opened (with_offset access_operator) Nothing (operates (suc c)) (λ t. refl) (λ t. refl) (mark punctuator.Dot 0) (Dot, 0) refl
    some_member
    (λ access t is within. firm-map (λ name. ByMember access.0 name access.1) (λ _. anything) (λ name. refl) (firm-one anything plain name_at Nothing (λ t. refl) (λ t. refl) (named no_name) no_name refl))

index_begins : (names : List (List ℕ)) (depth c : ℕ) (t : Placed) → is_mark punctuator.LeftBracket t.token ≡ true → Begins marks (IndexText names depth c) t
index_begins names depth c t e = after_begins (mark_offset punctuator.LeftBracket) (brackets (suc depth) (suc c)) (λ t. refl) t t.offset (mark-some punctuator.LeftBracket t e) (some_index names depth c t.offset)

roled-suffix : (names : List (List ℕ)) (inner : Parsers) (depth count c : ℕ) → Inside names inner depth count → count ≤ c → (entry : Placed → Bool) → Firm entry (SuffixText names depth c) (λ _. anything) (read_suffix inner depth c)
roled-suffix names inner depth count c inside least entry =
    roled-same entry (SuffixText names depth c) (read_suffix inner depth c) (λ t h. h) (or_suffix names depth c) (suffix_or names depth c) (λ tokens. refl)
    (roled-choose (is_mark punctuator.LeftBracket) (apart_suffix names depth c) (index_begins names depth c) (after_silent (mark_offset punctuator.LeftBracket) (brackets (suc depth) (suc c)) (λ t. refl))
    (roled-enter (both entry (λ t. is_mark punctuator.LeftBracket t.token)) (roled-index names inner depth count c inside least))
    (roled-enter (both entry (λ t. not (is_mark punctuator.LeftBracket t.token))) (roled-member c)))

begin_suffix : (names : List (List ℕ)) (depth c : ℕ) (t : Placed) → is_suffix t.token ≡ true → Begins marks (SuffixText names depth c) t
begin_suffix names depth c t e = same_begins (or_suffix names depth c) t (by_bracket (is_mark punctuator.LeftBracket t.token) refl e)
  where
    by_bracket : (b : Bool) → is_mark punctuator.LeftBracket t.token ≡ b → (b || is_some (access_operator t.token)) ≡ true → Begins marks (Or (IndexText names depth c) (MemberText c)) t
    by_bracket true f e = same_begins (λ s text h. first h) t (index_begins names depth c t f)
    by_bracket false f e =
        let a = placed-some access_operator t e in
        same_begins (λ s text h. second h) t (after_begins (with_offset access_operator) (operates (suc c)) (λ t. refl) t a.0 a.1 (some_member a.0))

suffix_silent : (names : List (List ℕ)) (depth c : ℕ) → Silent marks roles (SuffixText names depth c)
suffix_silent names depth c s u more one = silent_of s (u ∷ more) one u more refl
  where
    silent_of : (s : Suffix) (text : List Leaf) → SuffixText names depth c s text → (u : Leaf) (more : List Leaf) → text ≡ u ∷ more → u.role ≡ Nothing
    silent_of s text (by_index i inside offset close h) u more e = let head : brackets (suc depth) (suc c) (mark punctuator.LeftBracket offset) ≡ u = cc in ap (λ (l : Leaf). l.role) (sym head)
    silent_of s text (by_member a n offset) u more e = let head : operates (suc c) (mark (access_mark a) offset) ≡ u = cc in ap (λ (l : Leaf). l.role) (sym head)

pub roled-suffixed : (names : List (List ℕ)) (inner : Parsers) (depth count : ℕ) {Base : tree.Expression → List Leaf → Type 0} {read : Parser Placed Role tree.Expression} {entry : Placed → Bool} → Inside names inner depth count → ((x : tree.Expression) (text : List Leaf) → Base x text → ends_postfix x ≡ true) → Firm entry Base (λ _. anything) read
    → Firm entry (Suffixed names depth count Base) stop_cast (read_suffixes inner depth count read)
roled-suffixed names inner depth count {Base} {read} {entry} inside ends is =
    roled-stop stop_cast same_stop
    (firm-folded {ends = λ _ _. true}
    record {
      steps = steps;
      joins = λ x text one rest opens. stops_anything rest;
      leads = λ x rest stops. stops-or_true (starts_suffix (operators x)) rest;
    }
    (suffix_items names depth count) (λ c t e. begin_suffix names depth (count + c) t e) (λ c. suffix_silent names depth (count + c)) is (λ c. roled-suffix names inner depth count (count + c) inside (omega arith) (starts_suffix c)))
  where
    same_stop : (x : tree.Expression) (text : List Leaf) → Suffixed names depth count Base x text → (t : Placed) → (true && not (is_suffix t.token)) ≡ stop_cast x t
    same_stop x text one t = ap not (sym (and-true (is_suffix t.token)) ∙ ap (λ b. is_suffix t.token && b) (sym (suffixed_ends names depth count Base ends x text one)))
