-- Statements without others inside keep roles.
use Rattle.std.proofs.Common.{◌≡◌, ℕ, List, [], ◌∷◌, ◌++◌, refl, IsTrue, suc, ap, sym, ◌∙◌, subst, None, Some, Bool, true}
use Rattle.c_token_spec.specs.declared.token.Keyword.{Keyword}
use Rattle.c_token_spec.specs.declared.token.Keyword.TheVariants.{Return}
use Rattle.c_token_spec.specs.declared.token.Punctuator.{Punctuator}
use Rattle.c_token_spec.specs.declared.token.Punctuator.TheVariants as punctuator
use Rattle.c_token_spec.specs.Lexical.{Placed}
use Rattle.c_syntax_spec.specs.Expression as tree
use Rattle.c_syntax_spec.specs.Unit as unit
use Rattle.c_parse_spec.specs.declared.Role.{Role}
use Rattle.c_parse_spec.specs.declared.Role.TheVariants.{OperandEnd, Nothing}
use Rattle.c_parse_spec.specs.Leaves.{Leaf, expected, mark, opens, plain, keyword_at, marks, roles}
use Rattle.c_parse_spec.specs.Expressions.{Conditional}
use Rattle.c_parse_spec.specs.Statements as grammar
use Rattle.exact_read.specs.Reading.{Parser, plains, Stops}
use Rattle.exact_read.specs.Grammar.{One, Then, first, Map, Or, anything, read_then, read_map}
use Rattle.exact_read.proofs.Parts.{stops_anything}
use Rattle.c_parse_laws.specs.Classes.{mark_offset, is_mark}
use Rattle.c_parse_laws.specs.Exactness.{Closed}
use Rattle.c_parse_laws.specs.Parsers.{token, Parsers}
use Rattle.c_parse_laws.proofs.Marks.{Following, one-mark, mark-one, roled-mark, mark-self, roled-closed, roled-opened, mark-some, one_first, mark-passes, roled-choice, map_begins, map_silent}
use Rattle.c_parse_laws.proofs.Samples.{zero_tree, zero_text, zero_conditional}
use Rattle.c_parse_laws.specs.TypeExactness.{AllFirm}
use Rattle.c_parse_laws.proofs.Firsts.{first_not_mark}
use Rattle.c_parse_laws.proofs.Tokens.{Kept}
use Rattle.c_parse_laws.specs.Ends.{stop_value, stop_simple}
use Rattle.c_parse_laws.proofs.Values.{roled-value}
use Rattle.c_parse_laws.proofs.Simples.{roled-simple}
use Rattle.c_parse_laws.specs.Statements.{keyword_offset, read_test, read_jump, read_return, read_perform}
use Rattle.c_parse_laws.specs.StatementEnds.{stop_statement}
use Rattle.c_parse_laws.proofs.Keywords.{one-keyword, keyword-one, roled-keyword, roled-kept, keyword-self}
use Rattle.c_parse_laws.proofs.StatementFirsts.{value_first}
use Rattle.exact_read.proofs.RoleBasics.{roled-same}
use Rattle.exact_read.proofs.RoleBegins.{Begins, Silent}
use Rattle.exact_read.proofs.RoleThen.{roled-then}
use Rattle.c_parse_laws.specs.Firm.{Firm}
use Rattle.c_parse_laws.proofs.Firm.{firm-map}

-- a part, and a token after it as the part asks
pub record Ended {X : Type 0} (end : X → Role) (close : Punctuator) (S : X → List Leaf → Type 0) (x : X) (text : List Leaf) : Type 0 where
  pub inside : List Leaf
  pub offset : ℕ
  pub derives : S x inside
  pub cut : text ≡ inside ++ expected (end x) (mark close offset) ∷ []

abbrev RawEnded : {X : Type 0} → (end : X → Role) → (close : Punctuator) → (S : X → List Leaf → Type 0) → X × ℕ → List Leaf → Type 0
RawEnded end close S = Then S (λ x. One (expected (end x)) (mark_offset close))

-- values and expression statements stop at these tokens
pub value_stops_semicolon : (v : unit.Value) (offset : ℕ) → IsTrue (stop_value v (mark punctuator.Semicolon offset))
value_stops_semicolon (unit.Called call) offset = refl
value_stops_semicolon (unit.Computed (tree.Named n)) offset = refl
value_stops_semicolon (unit.Computed other) offset = refl

value_stops_bracket : (v : unit.Value) (offset : ℕ) → IsTrue (stop_value v (mark punctuator.RightParenthesis offset))
value_stops_bracket (unit.Called call) offset = refl
value_stops_bracket (unit.Computed (tree.Named n)) offset = refl
value_stops_bracket (unit.Computed other) offset = refl

pub simple_stops_semicolon : (s : unit.Simple) (offset : ℕ) → IsTrue (stop_simple s (mark punctuator.Semicolon offset))
simple_stops_semicolon (unit.Assign target v p) offset = value_stops_semicolon v offset
simple_stops_semicolon (unit.AssignBy o target v p) offset = refl
simple_stops_semicolon (unit.StepAfter o target p) offset = refl
simple_stops_semicolon (unit.StepBefore o target p) offset = refl
simple_stops_semicolon (unit.Evaluate (unit.Called call)) offset = refl
simple_stops_semicolon (unit.Evaluate (unit.Computed (tree.Named n))) offset = refl
simple_stops_semicolon (unit.Evaluate (unit.Computed other)) offset = refl

pub simple_stops_bracket : (s : unit.Simple) (offset : ℕ) → IsTrue (stop_simple s (mark punctuator.RightParenthesis offset))
simple_stops_bracket (unit.Assign target v p) offset = value_stops_bracket v offset
simple_stops_bracket (unit.AssignBy o target v p) offset = refl
simple_stops_bracket (unit.StepAfter o target p) offset = refl
simple_stops_bracket (unit.StepBefore o target p) offset = refl
simple_stops_bracket (unit.Evaluate (unit.Called call)) offset = refl
simple_stops_bracket (unit.Evaluate (unit.Computed (tree.Named n))) offset = refl
simple_stops_bracket (unit.Evaluate (unit.Computed other)) offset = refl

-- a test in brackets
abbrev TestText : (names : List (List ℕ)) → (depth : ℕ) → tree.Expression → List Leaf → Type 0
TestText names depth = Following (One (opens (suc depth)) (mark_offset punctuator.LeftParenthesis)) (λ _. Closed (expected OperandEnd) punctuator.RightParenthesis (Conditional names (suc depth) 0))

text_test : (names : List (List ℕ)) (depth : ℕ) (x : tree.Expression) (text : List Leaf) → TestText names depth x text → grammar.Test names depth x text
text_test names depth x text b =
    let c = b.is_second in
    subst (λ l. grammar.Test names depth x l) (sym (b.cut ∙ ap (λ l. l ++ b.right) (one-mark punctuator.LeftParenthesis (opens (suc depth)) b.first b.left b.is_first) ∙ ap (λ l. opens (suc depth) (mark punctuator.LeftParenthesis b.first) ∷ l) c.cut))
    (grammar.test depth x c.inside b.first c.close c.derives)

test_text : (names : List (List ℕ)) (depth : ℕ) (x : tree.Expression) (text : List Leaf) → grammar.Test names depth x text → TestText names depth x text
test_text names depth x text (grammar.test d y inside offset close h) =
    record { first = offset; left = opens (suc d) (mark punctuator.LeftParenthesis offset) ∷ []; right = inside ++ expected OperandEnd (mark punctuator.RightParenthesis close) ∷ []; is_first = mark-one punctuator.LeftParenthesis (opens (suc d)) offset; is_second = record { inside = inside; close = close; derives = h; cut = refl }; cut = refl }

pub zero_test : (names : List (List ℕ)) (depth : ℕ) → (text : List Leaf) × grammar.Test names depth zero_tree text
zero_test names depth = (_, grammar.test depth zero_tree zero_text 0 0 (zero_conditional names (suc depth) 0))

-- a keyword_at and its `;`
abbrev pub JumpText : (w : Keyword) → (made : (offset : ℕ) → unit.Statement) → unit.Statement → List Leaf → Type 0
JumpText w made = Map made (Kept (One plain (keyword_offset w)) (One plain (mark_offset punctuator.Semicolon)))

pub jump_is : (w : Keyword) (made : (offset : ℕ) → unit.Statement) (s : unit.Statement) (text : List Leaf) → JumpText w made s text → (offset : ℕ) × (end : ℕ) × (s ≡ made offset) × (text ≡ plain (keyword_at w offset) ∷ plain (mark punctuator.Semicolon end) ∷ [])
jump_is w made s text m =
    let k = m.derives in
    (m.inner, k.second, m.is, k.cut ∙ ap (λ l. l ++ k.right) (one-keyword w plain m.inner k.left k.is_first) ∙ ap (λ l. plain (keyword_at w m.inner) ∷ l) (one-mark punctuator.Semicolon plain k.second k.right k.is_second))

pub is_jump : (w : Keyword) (made : (offset : ℕ) → unit.Statement) (offset end : ℕ) → JumpText w made (made offset) (plain (keyword_at w offset) ∷ plain (mark punctuator.Semicolon end) ∷ [])
is_jump w made offset end = record { inner = offset; is = refl; derives = record { second = end; left = plain (keyword_at w offset) ∷ []; right = plain (mark punctuator.Semicolon end) ∷ []; is_first = keyword-one w plain offset; is_second = mark-one punctuator.Semicolon plain end; cut = refl } }

-- `return`
abbrev NoValueText : (offset : ℕ) → unit.Statement → List Leaf → Type 0
NoValueText offset = Map (λ (_ : ℕ). unit.Return None offset) (One plain (mark_offset punctuator.Semicolon))

abbrev SomeValueText : (names : List (List ℕ)) → (depth offset : ℕ) → unit.Statement → List Leaf → Type 0
SomeValueText names depth offset = Map (λ v. unit.Return (Some v) offset) (Ended grammar.value_end punctuator.Semicolon (grammar.Value names depth 0))

abbrev pub ReturnText : (names : List (List ℕ)) → (depth : ℕ) → unit.Statement → List Leaf → Type 0
ReturnText names depth = Following (One plain (keyword_offset Return)) (λ offset. Or (NoValueText offset) (SomeValueText names depth offset))

-- an expression statement
abbrev pub PerformText : (names : List (List ℕ)) → (depth : ℕ) → unit.Statement → List Leaf → Type 0
PerformText names depth = Map (λ s. unit.Perform s) (Ended grammar.statement_end punctuator.Semicolon (grammar.Simple names depth))

pub roled-ended : {X Y : Type 0} {S : X → List Leaf → Type 0} {stop : X → Placed → Bool} {read : Parser Placed Role X} (end : X → Role) (close : Punctuator) (made : X → Y) (stop' : Y → Placed → Bool) → ((x : X) → stop' (made x) ≡ anything) → Firm anything S stop read → ((x : X) (offset : ℕ) → IsTrue (stop x (mark close offset)))
    → Firm anything (Map made (Ended end close S)) stop' (read_map (λ (pair : X × ℕ). made pair.0) (read_then read (λ x. token (end x) (expected (end x)) (mark_offset close))))
roled-ended {X} {Y} {S} {stop} {read} end close made stop' same is ends =
    roled-same anything (Map made (Ended end close S)) (read_map (λ (pair : X × ℕ). made pair.0) (read_then read (λ x. token (end x) (expected (end x)) (mark_offset close)))) (λ t h. h) to from (λ tokens. refl)
    (firm-map (λ (pair : X × ℕ). made pair.0) stop' (λ pair. same pair.0)
    (roled-then is (λ x. roled-mark (stop x) close (end x) (expected (end x)) (λ t. refl) (λ t. refl))
    record {
      ends = λ x offset left right rest one two stops. subst (λ r. Stops (stop x) (plains marks r ++ rest)) (sym (one-mark close (expected (end x)) offset right two)) (ends x offset);
      goes_on = λ x left one. (0, expected (end x) (mark close 0) ∷ [], mark-one close (expected (end x)) 0);
    }))
  where
    to : (y : Y) (text : List Leaf) → Map (λ (pair : X × ℕ). made pair.0) (RawEnded end close S) y text → Map made (Ended end close S) y text
    to y text m = let t = m.derives in
        record { inner = m.inner.0; is = m.is; derives = record { inside = t.left; offset = m.inner.1; derives = t.first; cut = t.cut ∙ ap (λ r. t.left ++ r) (one-mark close (expected (end m.inner.0)) m.inner.1 t.right t.second) } }

    from : (y : Y) (text : List Leaf) → Map made (Ended end close S) y text → Map (λ (pair : X × ℕ). made pair.0) (RawEnded end close S) y text
    from y text m = let e = m.derives in
        record { inner = (m.inner, e.offset); is = m.is; derives = record { left = e.inside; right = expected (end m.inner) (mark close e.offset) ∷ []; cut = e.cut; first = e.derives; second = mark-one close (expected (end m.inner)) e.offset } }

pub roled-test : (names : List (List ℕ)) (inner : Parsers) → AllFirm names inner → (depth : ℕ) → Firm anything (grammar.Test names depth) (λ _. anything) (read_test inner depth)
roled-test names inner all depth =
    roled-same anything (grammar.Test names depth) (read_test inner depth) (λ t h. h) (text_test names depth) (test_text names depth) (λ tokens. refl)
    (roled-opened (mark_offset punctuator.LeftParenthesis) Nothing (opens (suc depth)) (λ t. refl) (λ t. refl) (mark punctuator.LeftParenthesis 0) 0 (mark-self punctuator.LeftParenthesis 0)
    (λ offset. (zero_tree, zero_text ++ expected OperandEnd (mark punctuator.RightParenthesis 0) ∷ [], record { inside = zero_text; close = 0; derives = zero_conditional names (suc depth) 0; cut = refl }))
    (λ offset t e within. roled-closed punctuator.RightParenthesis OperandEnd (expected OperandEnd) (λ t. refl) (λ t. refl) (all.conditional (suc depth) 0) (λ x close. refl)))

pub roled-jump : (w : Keyword) (made : (offset : ℕ) → unit.Statement) → ((offset : ℕ) → stop_statement (made offset) ≡ anything) → Firm anything (JumpText w made) stop_statement (read_jump w made)
roled-jump w made same =
    firm-map made stop_statement same
    (roled-kept (roled-keyword anything w Nothing plain (λ t. refl) (λ t. refl)) (λ x. roled-mark anything punctuator.Semicolon Nothing plain (λ t. refl) (λ t. refl))
    record {
      ends = λ x y left right rest one two stops. stops_anything (plains marks right ++ rest);
      goes_on = λ x left one. (0, plain (mark punctuator.Semicolon 0) ∷ [], mark-one punctuator.Semicolon plain 0);
    })

pub mark_begins : (p : Punctuator) (t : Placed) → is_mark p t.token ≡ true → Begins marks (One plain (mark_offset p)) t
mark_begins p t e = record { value = t.offset; first = plain t; more = []; derives = record { token = t; is = mark-some p t e; cut = refl }; is = refl }

pub mark_silent : (p : Punctuator) → Silent marks roles (One plain (mark_offset p))
mark_silent p x u more o = ap (λ (l : Leaf). l.role) (one_first x u more o)

pub some_return : (names : List (List ℕ)) (depth offset : ℕ) → (s : unit.Statement) × (right : List Leaf) × Or (Map (λ (_ : ℕ). unit.Return None offset) (One plain (mark_offset punctuator.Semicolon))) (Map (λ v. unit.Return (Some v) offset) (Ended grammar.value_end punctuator.Semicolon (grammar.Value names depth 0))) s right
some_return names depth offset = (unit.Return None offset, plain (mark punctuator.Semicolon 0) ∷ [], first (record { inner = 0; is = refl; derives = mark-one punctuator.Semicolon plain 0 }))

pub roled-return : (names : List (List ℕ)) (inner : Parsers) → AllFirm names inner → (depth : ℕ) → Firm anything (ReturnText names depth) stop_statement (read_return inner depth)
roled-return names inner all depth =
    roled-opened (keyword_offset Return) Nothing plain (λ t. refl) (λ t. refl) (keyword_at Return 0) 0 (keyword-self Return 0)
    (some_return names depth)
    (λ offset t e within. roled-choice (is_mark punctuator.Semicolon)
    record {
      first_begins = λ x text m. (plain (mark punctuator.Semicolon m.inner), [], one-mark punctuator.Semicolon plain m.inner text m.derives, mark-passes punctuator.Semicolon (mark punctuator.Semicolon m.inner) m.inner (mark-self punctuator.Semicolon m.inner));
      second_begins = λ x text rest m stops.
          let v = m.derives in
          let f = value_first names depth 0 m.inner v.inside v.derives in
          first_not_mark names punctuator.Semicolon refl text rest (record { leaf = f.leaf; more = f.more ++ expected (grammar.value_end m.inner) (mark punctuator.Semicolon v.offset) ∷ []; cut = v.cut ∙ ap (λ l. l ++ expected (grammar.value_end m.inner) (mark punctuator.Semicolon v.offset) ∷ []) f.cut; yes = f.yes });
    }
    (λ t e. map_begins (λ (_ : ℕ). unit.Return None offset) t (mark_begins punctuator.Semicolon t e)) (map_silent (λ (_ : ℕ). unit.Return None offset) (mark_silent punctuator.Semicolon))
    (firm-map (λ (_ : ℕ). unit.Return None offset) stop_statement (λ x. refl) (roled-mark anything punctuator.Semicolon Nothing plain (λ t. refl) (λ t. refl)))
    (roled-ended grammar.value_end punctuator.Semicolon (λ v. unit.Return (Some v) offset) stop_statement (λ v. refl) (roled-value names inner all depth 0) value_stops_semicolon))

pub roled-perform : (names : List (List ℕ)) (inner : Parsers) → AllFirm names inner → (depth : ℕ) → Firm anything (PerformText names depth) stop_statement (read_perform inner depth)
roled-perform names inner all depth = roled-ended grammar.statement_end punctuator.Semicolon (λ s. unit.Perform s) stop_statement (λ s. refl) (roled-simple names inner all depth) simple_stops_semicolon
