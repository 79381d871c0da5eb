-- Declarations of members keep roles.
use Rattle.std.proofs.Common.{List, ℕ, true, false, [], ◌∷◌, refl, not, ◌≡◌, ◌++◌, ap, sym, ◌∙◌, subst, append_assoc, suc, ◌≤◌, arith, inl}
use Rattle.c_token_spec.specs.declared.token.Punctuator.TheVariants as punctuator
use Rattle.c_token_spec.specs.Lexical.{Placed}
use Rattle.c_syntax_spec.specs.Expression as tree
use Rattle.c_parse_spec.specs.declared.Role.{Role}
use Rattle.c_parse_spec.specs.declared.Role.TheVariants.{DeclaredName, Nothing}
use Rattle.c_parse_spec.specs.Leaves.{Leaf, plain, expected, named, mark, marks, opens}
use Rattle.c_parse_spec.specs.Expressions as grammar
use Rattle.c_parse_spec.specs.Limits.{nesting_limit}
use Rattle.exact_read.specs.Reading.{plains, Stops, Parser}
use Rattle.exact_read.specs.Grammar.{none, some, Map, anything, Then, Many, One, read_then, read_map, read_many}
use Rattle.exact_read.proofs.Parts.{stops_anything}
use Rattle.exact_read.proofs.Many.{Items}
use Rattle.c_parse_laws.specs.Classes.{is_mark, begins_type, mark_offset, name_at}
use Rattle.c_parse_laws.specs.Exactness.{Closed}
use Rattle.c_parse_laws.specs.Parsers.{Parsers}
use Rattle.c_parse_laws.specs.Types.{last_of, declarators_of, is_const, members_of, operators_of_member, read_declarator, read_member_list, read_members}
use Rattle.c_parse_laws.proofs.Marks.{one-mark, mark-one, Following, mark-self, roled-closed, roled-opened}
use Rattle.c_parse_laws.specs.Beside.{FirmBeside, WithEnd}
use Rattle.c_parse_laws.specs.Endings.{SpecifiersEnd, stop_specifiers}
use Rattle.c_parse_laws.proofs.Beside.{roled-then_beside, then_begins, then_silent}
use Rattle.c_parse_laws.proofs.TypeFirsts.{specifiers_first, declarator_ends}
use Rattle.c_parse_laws.proofs.Tokens.{stops_or_true}
use Rattle.c_parse_laws.proofs.Dimensions.{within_opens}
use Rattle.c_parse_laws.proofs.Declarators.{DeclaratorFirst, declarator_first, declares_member, roled-declarator}
use Rattle.c_parse_laws.proofs.Counts.{From, onwards, more_enough, itself}
use Rattle.c_parse_laws.proofs.Lists.{Before, MoreText, EndText, Lists, end_stops, end_some, roled-end}
use Rattle.exact_read.proofs.Contexts.{many-context_same}
use Rattle.exact_read.proofs.RoleThen.{roled-then}
use Rattle.c_parse_laws.proofs.Ended.{specified, with_end}
use Rattle.exact_read.proofs.RoleBasics.{roled-same, roled-enter}
use Rattle.c_parse_laws.specs.Firm.{Firm}
use Rattle.c_parse_laws.proofs.Firm.{firm-map, firm-many}
use Rattle.c_parse_laws.specs.Declarators.{Whole}
use Rattle.c_parse_laws.proofs.TypeBegins.{ended_begins, ended_silent, ended_some}

-- from a least count of operators on
whole_from : (names : List (List ℕ)) (inner : Parsers) (depth least : ℕ) → Whole names inner depth least → (from : From least) → Whole names inner depth (grammar.count_at from.counting)
whole_from names inner depth least whole from = λ small count h. let e = from.enough in whole small count (omega (arith, e, h))

-- a list of declarators, and its `;`
abbrev put_comma : {least : ℕ} → From least → tree.Declarator → Placed → Leaf
put_comma from x = plain

abbrev put_end : {least : ℕ} → Before (From least) tree.Declarator → List tree.Declarator → Placed → Leaf
put_end d xs = expected (grammar.member_end (last_of d.1 xs))

abbrev next_declarator : {least : ℕ} → From least → tree.Declarator → From least
next_declarator from x = onwards from (grammar.operators_of_declarator x)

abbrev DeclaratorFrom : (names : List (List ℕ)) → (depth : ℕ) → {least : ℕ} → From least → tree.Declarator → List Leaf → Type 0
DeclaratorFrom names depth from = grammar.Declarator names true depth from.counting

abbrev MoreFrom : (names : List (List ℕ)) → (depth : ℕ) → {least : ℕ} → Before (From least) tree.Declarator → List tree.Declarator → List Leaf → Type 0
MoreFrom names depth {least} = MoreText (λ (from : From least) x. next_declarator from x) (λ (from : From least) x. put_comma from x) (λ (from : From least). DeclaratorFrom names depth from)

abbrev EndFrom : (names : List (List ℕ)) → (depth : ℕ) → {least : ℕ} → Before (From least) tree.Declarator → List tree.Declarator × ℕ → List Leaf → Type 0
EndFrom names depth {least} = EndText (λ (from : From least) x. next_declarator from x) (λ (from : From least) x. put_comma from x) (λ (from : From least). DeclaratorFrom names depth from) punctuator.Semicolon (λ (d : Before (From least) tree.Declarator) xs. put_end d xs)

abbrev ListOf : (names : List (List ℕ)) → (depth : ℕ) → {least : ℕ} → From least → tree.Declarator × (List tree.Declarator × ℕ) → List Leaf → Type 0
ListOf names depth from = Then (DeclaratorFrom names depth from) (λ x. EndFrom names depth (next_declarator from x, x))

abbrev made_list : tree.Declarator × (List tree.Declarator × ℕ) → tree.Declarators
made_list pair = tree.declarators pair.0 (declarators_of pair.1.0)

abbrev plain_declarator : tree.Declarator
plain_declarator = tree.Declared 0 (record { spelling = []; offset = 0 }) false tree.no_expressions

abbrev plain_text : List Leaf
plain_text = expected DeclaredName (named (record { spelling = []; offset = 0 })) ∷ []

sample_declarator : (names : List (List ℕ)) (depth : ℕ) (counting : grammar.Counting) → grammar.Declarator names true depth counting plain_declarator plain_text
sample_declarator names depth counting = grammar.declarator true depth counting 0 (record { spelling = []; offset = 0 }) false tree.no_expressions [] [] refl grammar.none (grammar.given depth counting tree.no_expressions [] (grammar.no_lengths depth counting))

member_lists : (names : List (List ℕ)) (depth least : ℕ) → Lists (λ (from : From least). DeclaratorFrom names depth from) (λ _ t. not (is_mark punctuator.LeftBracket t.token)) punctuator.Semicolon
member_lists names depth least = record { at_comma = λ x offset. refl; at_close = λ x offset. refl; apart = refl; some = λ from. (plain_declarator, plain_text, sample_declarator names depth from.counting) }

-- as the grammar has them
abbrev AfterFirst : (names : List (List ℕ)) → (depth : ℕ) → {least : ℕ} → Before (From least) tree.Declarator → List tree.Declarator → List Leaf → Type 0
AfterFirst names depth d xs middle =
    (counting : grammar.Counting) (left right : List Leaf) (offset : ℕ) → d.0.counting ≡ grammar.advance counting (grammar.operators_of_declarator d.1) → grammar.Declarator names true depth counting d.1 left → right ≡ put_end d xs (mark punctuator.Semicolon offset) ∷ []
    → grammar.MemberDeclarators names depth counting (tree.declarators d.1 (declarators_of xs)) (left ++ (middle ++ right))

more_none : (names : List (List ℕ)) (depth least : ℕ) (d : Before (From least) tree.Declarator) → AfterFirst names depth d [] []
more_none names depth least d counting left right offset same h e = subst (λ r. grammar.MemberDeclarators names depth counting (tree.declarators d.1 tree.no_declarators) (left ++ r)) (sym e) (grammar.last_member depth counting d.1 left offset h)

more_some : (names : List (List ℕ)) (depth least : ℕ) (d : Before (From least) tree.Declarator) (z : tree.Declarator) (ys : List tree.Declarator) (one two : List Leaf) → Following (One plain (mark_offset punctuator.Comma)) (λ _. DeclaratorFrom names depth d.0) z one
    → AfterFirst names depth (next_declarator d.0 z, z) ys two → AfterFirst names depth d (z ∷ ys) (one ++ two)
more_some names depth least d z ys one two b again counting left right offset same h e =
    let cut : (one ++ two) ++ right ≡ plain (mark punctuator.Comma b.first) ∷ (b.right ++ (two ++ right)) =
    append_assoc one two right ∙ ap (λ l. l ++ (two ++ right)) (b.cut ∙ ap (λ l. l ++ b.right) (one-mark punctuator.Comma plain b.first b.left b.is_first)) in
    let rest : grammar.MemberDeclarators names depth d.0.counting (tree.declarators z (declarators_of ys)) (b.right ++ (two ++ right)) = again d.0.counting b.right right offset refl b.is_second e in
    subst (λ r. grammar.MemberDeclarators names depth counting (tree.declarators d.1 (tree.declarators z (declarators_of ys))) (left ++ r)) (sym cut)
    (grammar.more_members depth counting d.1 (tree.declarators z (declarators_of ys)) left (b.right ++ (two ++ right)) b.first h
    (subst (λ (k : grammar.Counting). grammar.MemberDeclarators names depth k (tree.declarators z (declarators_of ys)) (b.right ++ (two ++ right))) same rest))

more_list : (names : List (List ℕ)) (depth least : ℕ) (d : Before (From least) tree.Declarator) (xs : List tree.Declarator) (middle : List Leaf) → MoreFrom names depth d xs middle → AfterFirst names depth d xs middle
more_list names depth least d xs middle (none k) = more_none names depth least k
more_list names depth least d xs middle (some k z ys one two b rest) = more_some names depth least k z ys one two b (more_list names depth least (next_declarator k.0 z, z) ys two rest)

text_list : (names : List (List ℕ)) (depth least : ℕ) (from : From least) (d : tree.Declarators) (text : List Leaf) → Map made_list (ListOf names depth from) d text → grammar.MemberDeclarators names depth from.counting d text
text_list names depth least from d text m =
    let t = m.derives in
    let u = t.second in
    let x = m.inner.0 in
    let xs = m.inner.1.0 in
    let first : Before (From least) tree.Declarator = (next_declarator from x, x) in
    subst (λ (v : tree.Declarators). grammar.MemberDeclarators names depth from.counting v text) (sym m.is)
    (subst (λ l. grammar.MemberDeclarators names depth from.counting (made_list m.inner) l) (sym (t.cut ∙ ap (λ l. t.left ++ l) u.cut))
    (more_list names depth least first xs u.left u.first from.counting t.left u.right m.inner.1.1 refl t.first (one-mark punctuator.Semicolon (put_end first xs) m.inner.1.1 u.right u.second)))

list_text : (names : List (List ℕ)) (depth least : ℕ) (counting : grammar.Counting) (enough : least ≤ grammar.count_at counting) (d : tree.Declarators) (text : List Leaf) → grammar.MemberDeclarators names depth counting d text
    → Map made_list (ListOf names depth {least = least} (record { counting = counting; enough = enough })) d text
list_text names depth least counting enough d text (grammar.last_member dp c x t end h) =
    let from : From least = record { counting = c; enough = enough } in
    let first : Before (From least) tree.Declarator = (next_declarator from x, x) in
    record {
      inner = (x, ([], end));
      is = refl;
      derives = record {
        left = t;
        right = expected (grammar.member_end x) (mark punctuator.Semicolon end) ∷ [];
        cut = refl;
        first = h;
        second = record { left = []; right = expected (grammar.member_end x) (mark punctuator.Semicolon end) ∷ []; cut = refl; first = none first; second = mark-one punctuator.Semicolon (put_end first []) end };
      };
    }
list_text names depth least counting enough d text (grammar.more_members dp c x rest t right comma h more) =
    let r = list_text names dp least (grammar.advance c (grammar.operators_of_declarator x)) (more_enough least c (grammar.operators_of_declarator x) enough) rest right more in
    let from : From least = record { counting = c; enough = enough } in
    let y = r.inner.0 in
    let ys = r.inner.1.0 in
    let v = r.derives in
    let u = v.second in
    record {
      inner = (x, (y ∷ ys, r.inner.1.1));
      is = ap (λ l. tree.declarators x l) r.is;
      derives = record {
        left = t;
        right = plain (mark punctuator.Comma comma) ∷ right;
        cut = refl;
        first = h;
        second = record {
          left = (plain (mark punctuator.Comma comma) ∷ v.left) ++ u.left;
          right = u.right;
          cut = ap (λ l. plain (mark punctuator.Comma comma) ∷ l) (v.cut ∙ ap (λ l. v.left ++ l) u.cut) ∙ sym (append_assoc (plain (mark punctuator.Comma comma) ∷ v.left) u.left u.right);
          first = some (next_declarator from x, x) y ys (plain (mark punctuator.Comma comma) ∷ v.left) u.left
              (record { first = comma; left = plain (mark punctuator.Comma comma) ∷ []; right = v.left; is_first = mark-one punctuator.Comma plain comma; is_second = v.first; cut = refl }) u.first;
          second = u.second;
        };
      };
    }

-- specifiers one construct deeper keep roles, where so many may be open, from this count of operators on
abbrev pub Inside : (names : List (List ℕ)) → Parsers → (depth least : ℕ) → Type 0
Inside names inner depth least = suc depth ≤ nesting_limit → (counting : grammar.Counting) → least ≤ grammar.count_at counting → FirmBeside anything (SpecifiersEnd names grammar.Elsewhere (suc depth) counting) (stop_specifiers is_const) (inner.specifiers (suc depth) counting)

-- one declaration of members
abbrev Member : Type 0
Member = tree.Specifiers × tree.Declarators

abbrev MemberText : (names : List (List ℕ)) → (depth : ℕ) → (counting : grammar.Counting) → Member → List Leaf → Type 0
MemberText names depth counting = Then (WithEnd (SpecifiersEnd names grammar.Elsewhere depth counting)) (λ s. grammar.MemberDeclarators names depth (grammar.advance counting (grammar.operators_of_specifiers s)))

list_first : (names : List (List ℕ)) (depth : ℕ) (counting : grammar.Counting) (d : tree.Declarators) (text : List Leaf) → grammar.MemberDeclarators names depth counting d text → DeclaratorFirst text
list_first names depth counting d text (grammar.last_member dp c x t end h) = let f = declarator_first names true dp c x t h in record { leaf = f.leaf; more = f.more ++ expected (grammar.member_end x) (mark punctuator.Semicolon end) ∷ []; cut = ap (λ l. l ++ expected (grammar.member_end x) (mark punctuator.Semicolon end) ∷ []) f.cut; yes = f.yes }
list_first names depth counting d text (grammar.more_members dp c x rest t right comma h more) = let f = declarator_first names true dp c x t h in record { leaf = f.leaf; more = f.more ++ plain (mark punctuator.Comma comma) ∷ right; cut = ap (λ l. l ++ plain (mark punctuator.Comma comma) ∷ right) f.cut; yes = f.yes }

abbrev next_member : {least : ℕ} → From least → Member → From least
next_member from member = onwards from (operators_of_member member)

abbrev MemberFrom : (names : List (List ℕ)) → (depth : ℕ) → {least : ℕ} → From least → Member → List Leaf → Type 0
MemberFrom names depth from = MemberText names depth from.counting

member_items : (names : List (List ℕ)) (depth least : ℕ) → Items marks (λ (_ : From least) t. begins_type names t.token) (λ _ _. true) (λ (from : From least). MemberFrom names depth from) (λ _ _. anything) (λ (from : From least) member. next_member from member)
member_items names depth least =
    record {
      begins = λ c x text t. let f = specifiers_first names depth c.counting x.0 t.first.end t.left t.first.derives in (f.leaf, f.more ++ t.right, t.cut ∙ ap (λ l. l ++ t.right) f.cut, f.yes);
      opens_next = λ c x rest stops. stops_or_true (λ t. begins_type names t.token) rest;
      stops_item = λ c x rest stops. stops_anything rest;
    }

abbrev MembersText : (names : List (List ℕ)) → (depth : ℕ) → {least : ℕ} → From least → List Member → List Leaf → Type 0
MembersText names depth {least} = Many (λ (from : From least) member. next_member from member) (λ (from : From least). MemberFrom names depth from)

many_members : (names : List (List ℕ)) (depth least : ℕ) (from : From least) (xs : List Member) (text : List Leaf) → MembersText names depth from xs text → grammar.Members names depth from.counting (members_of xs) text
many_members names depth least from xs text (none c) = grammar.no_members depth c.counting
many_members names depth least from xs text (some c x ys left right t rest) =
    subst (λ l. grammar.Members names depth c.counting (members_of (x ∷ ys)) l) (sym (ap (λ l. l ++ right) t.cut ∙ append_assoc t.left t.right right))
    (grammar.members depth c.counting x.0 x.1 (members_of ys) t.left t.right right (specified names grammar.Elsewhere depth c.counting x.0 t.first.end t.left t.first.derives) t.second (many_members names depth least (next_member c x) ys right rest))

members_many : (names : List (List ℕ)) (depth least : ℕ) (counting : grammar.Counting) (enough : least ≤ grammar.count_at counting) (m : tree.Members) (text : List Leaf) → grammar.Members names depth counting m text
    → (xs : List Member) × ((m ≡ members_of xs) × MembersText names depth {least = least} (record { counting = counting; enough = enough }) xs text)
members_many names depth least counting enough m text (grammar.no_members d c) = ([], (refl, none (record { counting = c; enough = enough })))
members_many names depth least counting enough m text (grammar.members d c s ds rest left middle right h k l) =
    let more = operators_of_member (s, ds) in
    let from : From least = record { counting = c; enough = enough } in
    let r = members_many names d least (grammar.advance c more) (more_enough least c more enough) rest right l in (
      (s, ds) ∷ r.0,
      (
        ap (tree.members s ds) r.1.0,
        subst (λ t. MembersText names d from ((s, ds) ∷ r.0) t) (append_assoc left middle right)
            (some from (s, ds) r.0 (left ++ middle) right (record { left = left; right = middle; cut = refl; first = with_end names grammar.Elsewhere d c s left h; second = k }) r.1.1),
      ),
    )

-- in braces
abbrev pub BracesText : (names : List (List ℕ)) → (depth : ℕ) → (counting : grammar.Counting) → tree.Members → List Leaf → Type 0
BracesText names depth counting = Following (One (opens (suc depth)) (mark_offset punctuator.LeftBrace)) (λ _. Closed plain punctuator.RightBrace (grammar.Members names (suc depth) counting))

roled-list_from : (names : List (List ℕ)) (inner : Parsers) (depth least : ℕ) (from : From least) → Whole names inner depth least → Firm anything (grammar.MemberDeclarators names depth from.counting) (λ _. anything) (read_member_list inner depth from.counting)
roled-list_from names inner depth least from whole =
    roled-same anything (grammar.MemberDeclarators names depth from.counting) (read_member_list inner depth from.counting) (λ t h. h) (text_list names depth least from) (list_text names depth least from.counting from.enough) (λ tokens. refl)
    (firm-map made_list (λ _. anything) (λ x. refl)
    (roled-then (one from)
    (λ x. roled-end (member_lists names depth least) (λ (e : From least) y. next_declarator e y) (λ (e : From least) _. e.counting) (λ _. Nothing) (λ _. plain) (λ c. read_declarator name_at inner depth c) (λ c y. grammar.advance c (grammar.operators_of_declarator y)) (λ c t. refl) (λ c t. refl) (λ e y z. refl) (λ e y. one e)
    (λ d xs. grammar.member_end (last_of d.1 xs)) (λ d xs. put_end d xs) (λ d xs t. refl) (λ d xs t. refl) (λ e y. inl refl) (λ d xs. inl refl) (next_declarator from x, x))
    record {
      ends = λ x pair left right rest h two stops. end_stops (member_lists names depth least) (λ (e : From least) y. next_declarator e y) (λ (e : From least) y. put_comma e y) (λ e y t. refl) (λ d xs. put_end d xs) (λ d xs t. refl) (next_declarator from x, x) pair right rest two;
      goes_on = λ x left h. end_some (λ (e : From least) y. next_declarator e y) (λ (e : From least) y. put_comma e y) (λ (e : From least). DeclaratorFrom names depth e) punctuator.Semicolon (λ d xs. put_end d xs) (next_declarator from x, x);
    }))
  where
    one : (e : From least) → Firm anything (DeclaratorFrom names depth e) (λ _ t. not (is_mark punctuator.LeftBracket t.token)) (read_declarator name_at inner depth e.counting)
    one e = roled-declarator (declares_member names) inner depth e.counting (whole_from names inner depth least whole e)

some_list : (names : List (List ℕ)) (depth : ℕ) (counting : grammar.Counting) → (d : tree.Declarators) × (right : List Leaf) × grammar.MemberDeclarators names depth counting d right
some_list names depth counting = (_, _, grammar.last_member depth counting plain_declarator plain_text 0 (sample_declarator names depth counting))

roled-member : (names : List (List ℕ)) (inner : Parsers) (depth least : ℕ) (from : From least) → Whole names inner depth least → FirmBeside anything (SpecifiersEnd names grammar.Elsewhere depth from.counting) (stop_specifiers is_const) (inner.specifiers depth from.counting)
    → Firm anything (MemberFrom names depth from) (λ _. anything) (read_then (inner.specifiers depth from.counting) (λ s. read_member_list inner depth (grammar.advance from.counting (grammar.operators_of_specifiers s))))
roled-member names inner depth least from whole specifiers =
    roled-then_beside specifiers (λ x e left h w. roled-enter (stop_specifiers is_const x e) (roled-list_from names inner depth least (onwards from (grammar.operators_of_specifiers x)) whole))
    record {
      ends = λ x y left right rest one two stops. let f = list_first names depth (grammar.advance from.counting (grammar.operators_of_specifiers x.0)) y right two in subst (λ t. Stops (stop_specifiers is_const x.0 x.1) (plains marks t ++ rest)) (sym f.cut) (declarator_ends x.1 f.leaf.token.token f.yes);
      goes_on = λ x left one. some_list names depth (grammar.advance from.counting (grammar.operators_of_specifiers x.0));
    }

abbrev read_one : Parsers → (depth : ℕ) → grammar.Counting → Parser Placed Role Member
read_one inner depth so_far = read_then (inner.specifiers depth so_far) (λ specifiers. read_member_list inner depth (grammar.advance so_far (grammar.operators_of_specifiers specifiers)))

abbrev read_all : (names : List (List ℕ)) → Parsers → (depth : ℕ) → grammar.Counting → Parser Placed Role (List Member)
read_all names inner depth = read_many (λ (_ : grammar.Counting) next. begins_type names next.token) (read_one inner depth) (λ so_far member. grammar.advance so_far (operators_of_member member))

roled-all : (names : List (List ℕ)) (inner : Parsers) (depth least : ℕ) → Whole names inner depth least → ((counting : grammar.Counting) → least ≤ grammar.count_at counting → FirmBeside anything (SpecifiersEnd names grammar.Elsewhere depth counting) (stop_specifiers is_const) (inner.specifiers depth counting)) → (from : From least)
    → Firm anything (MembersText names depth from) (λ _ t. not (begins_type names t.token)) (read_all names inner depth from.counting)
roled-all names inner depth least whole specifiers from =
    roled-same anything (MembersText names depth from) (read_all names inner depth from.counting) (λ t h. stops_or_true (λ t. begins_type names t.token) (t ∷ [])) (λ xs text h. h) (λ xs text h. h)
    (many-context_same (λ (_ : grammar.Counting) next. begins_type names next.token) (read_one inner depth) (λ so_far member. grammar.advance so_far (operators_of_member member)) (λ (f : From least). f.counting) (λ (f : From least) member. next_member f member) (λ f member. refl) from)
    (firm-many (member_items names depth least) (λ f t e. then_begins t (ended_begins names depth f.counting t e) (λ s. some_list names depth (grammar.advance f.counting (grammar.operators_of_specifiers s))))
    (λ f. then_silent (ended_some names depth f.counting) (ended_silent names grammar.Elsewhere depth f.counting))
    (λ f. roled-enter (λ t. begins_type names t.token) (roled-member names inner depth least f whole (specifiers f.counting f.enough))) from)

pub roled-members : (names : List (List ℕ)) (inner : Parsers) (depth : ℕ) (counting : grammar.Counting) → (suc depth ≤ nesting_limit → Whole names inner (suc depth) (grammar.count_at counting)) → Inside names inner depth (grammar.count_at counting)
    → Firm anything (BracesText names depth counting) (λ _. anything) (read_members names inner depth counting)
roled-members names inner depth counting whole inside =
    roled-opened (mark_offset punctuator.LeftBrace) Nothing (opens (suc depth)) (λ t. refl) (λ t. refl) (mark punctuator.LeftBrace 0) 0 (mark-self punctuator.LeftBrace 0)
    (λ offset. (tree.no_members, plain (mark punctuator.RightBrace 0) ∷ [], record { inside = []; close = 0; derives = grammar.no_members (suc depth) counting; cut = refl }))
    (λ offset t is within. let small = within_opens (suc depth) t within in
    roled-closed {stop = λ _ t. not (begins_type names t.token)} punctuator.RightBrace Nothing plain (λ t. refl) (λ t. refl)
    (roled-same anything (grammar.Members names (suc depth) counting) (read_map members_of (read_all names inner (suc depth) counting)) (λ t h. h)
    (λ m text h. subst (λ v. grammar.Members names (suc depth) counting v text) (sym h.is) (many_members names (suc depth) (grammar.count_at counting) (record { counting = counting; enough = itself counting }) h.inner text h.derives))
    (λ m text h. let r = members_many names (suc depth) (grammar.count_at counting) counting (itself counting) m text h in record { inner = r.0; is = r.1.0; derives = r.1.1 })
    (λ tokens. refl)
    (firm-map members_of (λ _ t. not (begins_type names t.token)) (λ xs. refl) (roled-all names inner (suc depth) (grammar.count_at counting) (whole small) (inside small) (record { counting = counting; enough = itself counting }))))
    (λ x close. refl))
