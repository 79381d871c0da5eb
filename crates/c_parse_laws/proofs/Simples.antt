-- Expression statements without their `;` keep roles.
use Rattle.std.proofs.Common.{ℕ, List, suc, ◌∷◌, ◌++◌, ap, sym, ◌∙◌, subst, [], ◌≡◌, Some, refl, false, Bool, true, IsTrue, not, ◌&&◌}
use Rattle.std.specs.Option.{is_some}
use Rattle.c_token_spec.specs.declared.token.Punctuator.{Punctuator}
use Rattle.c_token_spec.specs.declared.token.Punctuator.TheVariants as punctuator
use Rattle.c_token_spec.specs.Lexical.{Placed, Token, Name as name_token, Word, Number as number_token, Character as character_token, Mark}
use Rattle.c_syntax_spec.specs.declared.BinaryOperator.{BinaryOperator}
use Rattle.c_syntax_spec.specs.declared.BinaryOperator.TheVariants.{BitOr, BitXor, BitAnd, ShiftLeft, ShiftRight, Add, Subtract, Multiply, Divide, Remainder}
use Rattle.c_syntax_spec.specs.declared.StepOperator.{StepOperator}
use Rattle.c_syntax_spec.specs.declared.StepOperator.TheVariants.{Increment, Decrement}
use Rattle.c_syntax_spec.specs.Expression as tree
use Rattle.c_syntax_spec.specs.Unit as unit
use Rattle.c_parse_spec.specs.declared.Role.TheVariants.{OperandEnd, Nothing}
use Rattle.c_parse_spec.specs.Leaves.{Leaf, brackets, mark, operates, marks, expected}
use Rattle.c_parse_spec.specs.Expressions.{Unary, postfix, operators, Conditional}
use Rattle.c_parse_spec.specs.Statements as grammar
use Rattle.exact_read.specs.Reading.{plains, Stops}
use Rattle.exact_read.specs.Grammar.{One, Or, first, second, Map, anything, read_map}
use Rattle.exact_read.specs.Folds.{base}
use Rattle.exact_read.proofs.Parts.{both}
use Rattle.c_parse_laws.specs.Classes.{mark_offset, with_offset, is_mark}
use Rattle.c_parse_laws.specs.Exactness.{PlainUnary}
use Rattle.c_parse_laws.specs.Stops.{stop_conditional, stop_cast, ends_postfix}
use Rattle.c_parse_laws.specs.Parsers.{Parsers, read_bracketed}
use Rattle.c_parse_laws.proofs.Marks.{Following, one-mark, mark-one, roled-closed, mark-self, mark-some, roled-opened, roled-choice, after_begins, after_silent, mark-passes, map_begins, map_silent, placed-some, one_first, roled-following}
use Rattle.c_parse_laws.proofs.Samples.{zero_tree, zero_text, zero_conditional, zero_unary}
use Rattle.c_parse_laws.proofs.Suffixes.{Suffixed, placed, roled-suffixed}
use Rattle.c_parse_laws.proofs.Casts.{InsideText, opening, bracket_postfix}
use Rattle.c_parse_laws.proofs.Unaries.{UnarySplit, is_plain, is_bracket, unary_split}
use Rattle.c_parse_laws.specs.TypeExactness.{AllFirm}
use Rattle.c_parse_laws.specs.Firsts.{begins_expression}
use Rattle.c_parse_laws.proofs.Firsts.{conditional_first, first_not}
use Rattle.c_parse_laws.specs.Values.{assign_mark, assign_operator, step_mark, step_operator, is_postfix, is_unary, read_any_unary, read_assign, read_assign_by, read_step_after, read_called, read_simple_after, read_step_before, read_simple}
use Rattle.c_parse_laws.specs.Ends.{stop_begun, stop_simple}
use Rattle.c_parse_laws.proofs.Trees.{unary_of, postfix_of, unary_is, postfix_is, conditional_unary, conditional_postfix}
use Rattle.c_parse_laws.proofs.Chosen.{Allowed, roled-allowed}
use Rattle.c_parse_laws.proofs.Values.{CalledText, called_value, value_split, called_ends, zero_value, roled-value, roled-called, called_alone}
use Rattle.exact_read.proofs.RoleBasics.{roled-same, roled-enter}
use Rattle.c_parse_laws.specs.Firm.{Firm}
use Rattle.c_parse_laws.proofs.Firm.{firm-map, firm-one}

-- any unary expression
abbrev BracketText : (names : List (List ℕ)) → (depth count offset : ℕ) → tree.Expression → List Leaf → Type 0
BracketText names depth count offset = Suffixed names depth count (InsideText names depth count offset)

abbrev AnyText : (names : List (List ℕ)) → (depth count : ℕ) → tree.Expression → List Leaf → Type 0
AnyText names depth count = Or (Following (One (brackets (suc depth) (suc count)) (mark_offset punctuator.LeftParenthesis)) (λ offset. BracketText names depth count offset)) (PlainUnary names depth count)

any_unary : (names : List (List ℕ)) (depth count : ℕ) (x : tree.Expression) (text : List Leaf) → AnyText names depth count x text → Unary names depth count x text
any_unary names depth count x text (first b) =
    subst (λ t. Unary names depth count x t) (sym (b.cut ∙ ap (λ t. t ++ b.right) (one-mark punctuator.LeftParenthesis (brackets (suc depth) (suc count)) b.first b.left b.is_first)))
    (postfix depth count x (opening depth count b.first ∷ b.right) (bracket_postfix names depth count b.first x b.right b.is_second))
any_unary names depth count x text (second p) = p.derives

unary_any : (names : List (List ℕ)) (depth count : ℕ) (x : tree.Expression) (text : List Leaf) → UnarySplit names depth count x text → AnyText names depth count x text
unary_any names depth count x text (is_plain p) = second p
unary_any names depth count x text (is_bracket offset rest cut h) = first (record { first = offset; left = opening depth count offset ∷ []; right = rest; is_first = mark-one punctuator.LeftParenthesis (brackets (suc depth) (suc count)) offset; is_second = h; cut = cut })

-- the operators of assignments and steps
assign_is : (p : Punctuator) (o : BinaryOperator) → assign_mark p ≡ Some o → grammar.AssignMark o p
assign_is punctuator.StarAssign o e = let same : Multiply ≡ o = cc in subst (λ (q : BinaryOperator). grammar.AssignMark q punctuator.StarAssign) same grammar.multiply
assign_is punctuator.SlashAssign o e = let same : Divide ≡ o = cc in subst (λ (q : BinaryOperator). grammar.AssignMark q punctuator.SlashAssign) same grammar.divide
assign_is punctuator.PercentAssign o e = let same : Remainder ≡ o = cc in subst (λ (q : BinaryOperator). grammar.AssignMark q punctuator.PercentAssign) same grammar.remainder
assign_is punctuator.PlusAssign o e = let same : Add ≡ o = cc in subst (λ (q : BinaryOperator). grammar.AssignMark q punctuator.PlusAssign) same grammar.add
assign_is punctuator.MinusAssign o e = let same : Subtract ≡ o = cc in subst (λ (q : BinaryOperator). grammar.AssignMark q punctuator.MinusAssign) same grammar.subtract
assign_is punctuator.ShiftLeftAssign o e = let same : ShiftLeft ≡ o = cc in subst (λ (q : BinaryOperator). grammar.AssignMark q punctuator.ShiftLeftAssign) same grammar.shift_left
assign_is punctuator.ShiftRightAssign o e = let same : ShiftRight ≡ o = cc in subst (λ (q : BinaryOperator). grammar.AssignMark q punctuator.ShiftRightAssign) same grammar.shift_right
assign_is punctuator.AmpersandAssign o e = let same : BitAnd ≡ o = cc in subst (λ (q : BinaryOperator). grammar.AssignMark q punctuator.AmpersandAssign) same grammar.bit_and
assign_is punctuator.CaretAssign o e = let same : BitXor ≡ o = cc in subst (λ (q : BinaryOperator). grammar.AssignMark q punctuator.CaretAssign) same grammar.bit_xor
assign_is punctuator.BarAssign o e = let same : BitOr ≡ o = cc in subst (λ (q : BinaryOperator). grammar.AssignMark q punctuator.BarAssign) same grammar.bit_or
assign_is other o e = absurd (cc)

is_assign : (o : BinaryOperator) (p : Punctuator) → grammar.AssignMark o p → assign_mark p ≡ Some o
is_assign o p grammar.multiply = refl
is_assign o p grammar.divide = refl
is_assign o p grammar.remainder = refl
is_assign o p grammar.add = refl
is_assign o p grammar.subtract = refl
is_assign o p grammar.shift_left = refl
is_assign o p grammar.shift_right = refl
is_assign o p grammar.bit_and = refl
is_assign o p grammar.bit_xor = refl
is_assign o p grammar.bit_or = refl

-- the token that an operator is
record AssignToken (t : Placed) (found : BinaryOperator × ℕ) : Type 0 where
  punctuator : Punctuator
  same : t ≡ mark punctuator found.1
  is : grammar.AssignMark found.0 punctuator

assign_token : (k : Token) (o : ℕ) (found : BinaryOperator × ℕ) → assign_operator k ≡ Some found.0 → o ≡ found.1 → AssignToken (record { token = k; offset = o }) found
assign_token (Mark p) o found e there = record { punctuator = p; same = ap (λ q. mark p q) there; is = assign_is p found.0 e }
assign_token (name_token spelling) o found e there = absurd (cc)
assign_token (Word w) o found e there = absurd (cc)
assign_token (number_token value type) o found e there = absurd (cc)
assign_token (character_token value) o found e there = absurd (cc)

step_is : (p : Punctuator) (o : StepOperator) → step_mark p ≡ Some o → p ≡ grammar.step_mark o
step_is punctuator.Increment o e = let same : Increment ≡ o = cc in ap grammar.step_mark same
step_is punctuator.Decrement o e = let same : Decrement ≡ o = cc in ap grammar.step_mark same
step_is other o e = absurd (cc)

step_token : (k : Token) (offset : ℕ) (o : StepOperator) → step_operator k ≡ Some o → record { token = k; offset = offset } ≡ mark (grammar.step_mark o) offset
step_token (Mark p) offset o e = ap (λ q. mark q offset) (step_is p o e)
step_token (name_token spelling) offset o e = absurd (cc)
step_token (Word w) offset o e = absurd (cc)
step_token (number_token value type) offset o e = absurd (cc)
step_token (character_token value) offset o e = absurd (cc)

step_self : (o : StepOperator) → step_operator (Mark (grammar.step_mark o)) ≡ Some o
step_self Increment = refl
step_self Decrement = refl

one-step : (as_leaf : Placed → Leaf) (found : StepOperator × ℕ) (text : List Leaf) → One as_leaf (with_offset step_operator) found text → text ≡ as_leaf (mark (grammar.step_mark found.0) found.1) ∷ []
one-step as_leaf found text o =
    let p = placed step_operator o.token found o.is in
    o.cut ∙ ap (λ t. as_leaf t ∷ []) (step_token o.token.token o.token.offset found.0 p.0 ∙ ap (λ k. mark (grammar.step_mark found.0) k) p.1)

step-one : (as_leaf : Placed → Leaf) (o : StepOperator) (k : ℕ) → One as_leaf (with_offset step_operator) (o, k) (as_leaf (mark (grammar.step_mark o) k) ∷ [])
step-one as_leaf o k = record { token = mark (grammar.step_mark o) k; is = rw (step_self o) refl; cut = refl }

-- what follows a target
abbrev AssignText : (names : List (List ℕ)) → (depth : ℕ) → (x : tree.Expression) → unit.Simple → List Leaf → Type 0
AssignText names depth x = Following (One (operates (suc (operators x))) (mark_offset punctuator.Assign)) (λ offset. Map (λ value. unit.Assign x value offset) (grammar.Value names depth (suc (operators x))))

abbrev ByText : (names : List (List ℕ)) → (depth : ℕ) → (x : tree.Expression) → unit.Simple → List Leaf → Type 0
ByText names depth x = Following (One (operates (suc (operators x))) (with_offset assign_operator)) (λ operator. Map (λ value. unit.AssignBy operator.0 x value operator.1) (Conditional names depth (suc (operators x))))

abbrev AfterText : (x : tree.Expression) → unit.Simple → List Leaf → Type 0
AfterText x = Map (λ (operator : StepOperator × ℕ). unit.StepAfter operator.0 x operator.1) (One (operates (suc (operators x))) (with_offset step_operator))

abbrev EvaluateText : (names : List (List ℕ)) → (depth : ℕ) → (x : tree.Expression) → unit.Simple → List Leaf → Type 0
EvaluateText names depth x = Map (λ value. unit.Evaluate value) (CalledText names depth 0 x)

abbrev FollowingText : (names : List (List ℕ)) → (depth : ℕ) → (x : tree.Expression) → unit.Simple → List Leaf → Type 0
FollowingText names depth x = Or (Allowed (is_unary x) (AssignText names depth x)) (Or (Allowed (is_unary x) (ByText names depth x)) (Or (Allowed (is_postfix x) (AfterText x)) (EvaluateText names depth x)))

abbrev StepText : (names : List (List ℕ)) → (depth : ℕ) → unit.Simple → List Leaf → Type 0
StepText names depth = Following (One (operates 1) (with_offset step_operator)) (λ operator. Map (λ target. unit.StepBefore operator.0 target operator.1) (Unary names depth 1))

abbrev SimpleText : (names : List (List ℕ)) → (depth : ℕ) → unit.Simple → List Leaf → Type 0
SimpleText names depth = Or (StepText names depth) (Following (Conditional names depth 0) (λ x. FollowingText names depth x))

-- as the grammar has them
after_simple : (names : List (List ℕ)) (depth : ℕ) (x : tree.Expression) (s : unit.Simple) (left right : List Leaf) → Conditional names depth 0 x left → FollowingText names depth x s right → grammar.Simple names depth s (left ++ right)
after_simple names depth x s left right h (first a) =
    let b = a.derives in
    let m = b.is_second in
    subst (λ l. grammar.Simple names depth s (left ++ l)) (sym (b.cut ∙ ap (λ l. l ++ b.right) (one-mark punctuator.Assign (operates (suc (operators x))) b.first b.left b.is_first)))
    (rw m.is (grammar.assign depth x m.inner left b.right b.first (unary_of names depth 0 x left h a.so) m.derives))
after_simple names depth x s left right h (second (first a)) =
    let b = a.derives in
    let m = b.is_second in
    let p = placed assign_operator b.is_first.token b.first b.is_first.is in
    let o = assign_token b.is_first.token.token b.is_first.token.offset b.first p.0 p.1 in
    subst (λ l. grammar.Simple names depth s (left ++ l)) (sym (b.cut ∙ ap (λ l. l ++ b.right) (b.is_first.cut ∙ ap (λ t. operates (suc (operators x)) t ∷ []) o.same)))
    (rw m.is (grammar.assign_by depth b.first.0 o.punctuator x m.inner left b.right b.first.1 o.is (unary_of names depth 0 x left h a.so) m.derives))
after_simple names depth x s left right h (second (second (first a))) =
    let m = a.derives in
    subst (λ l. grammar.Simple names depth s (left ++ l)) (sym (one-step (operates (suc (operators x))) m.inner right m.derives))
    (rw m.is (grammar.step_after depth m.inner.0 x left m.inner.1 (postfix_of names depth 0 x left h a.so)))
after_simple names depth x s left right h (second (second (second m))) = rw m.is (grammar.evaluate depth m.inner (left ++ right) (called_value names depth 0 x m.inner left right h m.derives))

text_simple : (names : List (List ℕ)) (depth : ℕ) (s : unit.Simple) (text : List Leaf) → SimpleText names depth s text → grammar.Simple names depth s text
text_simple names depth s text (first b) =
    let m = b.is_second in
    subst (λ l. grammar.Simple names depth s l) (sym (b.cut ∙ ap (λ l. l ++ b.right) (one-step (operates 1) b.first b.left b.is_first)))
    (rw m.is (grammar.step_before depth b.first.0 m.inner b.right b.first.1 m.derives))
text_simple names depth s text (second b) = subst (λ l. grammar.Simple names depth s l) (sym b.cut) (after_simple names depth b.first s b.left b.right b.is_first b.is_second)

simple_text : (names : List (List ℕ)) (depth : ℕ) (s : unit.Simple) (text : List Leaf) → grammar.Simple names depth s text → SimpleText names depth s text
simple_text names depth s text (grammar.assign d x v left right offset h k) =
    second (record {
      first = x;
      left = left;
      right = operates (suc (operators x)) (mark punctuator.Assign offset) ∷ right;
      is_first = conditional_unary names d 0 x left h;
      cut = refl;
      is_second = first (record { so = unary_is names d 0 x left h; derives = record { first = offset; left = operates (suc (operators x)) (mark punctuator.Assign offset) ∷ []; right = right; is_first = mark-one punctuator.Assign (operates (suc (operators x))) offset; is_second = record { inner = v; is = refl; derives = k }; cut = refl } });
    })
simple_text names depth s text (grammar.assign_by d o p x v left right offset e h k) =
    second (record {
      first = x;
      left = left;
      right = operates (suc (operators x)) (mark p offset) ∷ right;
      is_first = conditional_unary names d 0 x left h;
      cut = refl;
      is_second = second (first (record { so = unary_is names d 0 x left h; derives = record { first = (o, offset); left = operates (suc (operators x)) (mark p offset) ∷ []; right = right; is_first = record { token = mark p offset; is = rw (is_assign o p e) refl; cut = refl }; is_second = record { inner = v; is = refl; derives = k }; cut = refl } }));
    })
simple_text names depth s text (grammar.step_after d o x t offset h) =
    second (record {
      first = x;
      left = t;
      right = operates (suc (operators x)) (mark (grammar.step_mark o) offset) ∷ [];
      is_first = conditional_postfix names d 0 x t h;
      cut = refl;
      is_second = second (second (first (record { so = postfix_is names d 0 x t h; derives = record { inner = (o, offset); is = refl; derives = step-one (operates (suc (operators x))) o offset } })));
    })
simple_text names depth s text (grammar.step_before d o x t offset h) =
    first (record { first = (o, offset); left = operates 1 (mark (grammar.step_mark o) offset) ∷ []; right = t; is_first = step-one (operates 1) o offset; is_second = record { inner = x; is = refl; derives = h }; cut = refl })
simple_text names depth s text (grammar.evaluate d v t h) =
    let r = value_split names d 0 v t h in
    second (record { first = r.head; left = r.left; right = r.right; is_first = r.is_head; cut = r.cut; is_second = second (second (second (record { inner = v; is = refl; derives = r.following }))) })

-- the first token of what follows a target
by_first : (names : List (List ℕ)) (depth : ℕ) (x : tree.Expression) (s : unit.Simple) (text : List Leaf) (b : ByText names depth x s text) → (text ≡ operates (suc (operators x)) b.is_first.token ∷ b.right) × (assign_operator b.is_first.token.token ≡ Some b.first.0)
by_first names depth x s text b = (b.cut ∙ ap (λ l. l ++ b.right) b.is_first.cut, (placed assign_operator b.is_first.token b.first b.is_first.is).0)

assign_no : (k : Token) (o : BinaryOperator) → assign_operator k ≡ Some o → is_mark punctuator.Assign k ≡ false
assign_no (Mark punctuator.Assign) o e = absurd (cc)
assign_no (Mark other) o e = refl
assign_no (name_token spelling) o e = refl
assign_no (Word w) o e = refl
assign_no (number_token value type) o e = refl
assign_no (character_token value) o e = refl

step_no : (o : StepOperator) → (is_mark punctuator.Assign (Mark (grammar.step_mark o)) ≡ false) × (is_some (assign_operator (Mark (grammar.step_mark o))) ≡ false)
step_no Increment = (refl, refl)
step_no Decrement = (refl, refl)

false_and : (a b : Bool) → b ≡ false → IsTrue (not (a && b))
false_and true b e = rw e refl
false_and false b e = refl

and-left : (a b : Bool) → IsTrue (a && b) → IsTrue a
and-left true b h = refl
and-left false b h = absurd (cc)

and-right : (a b : Bool) → IsTrue (a && b) → IsTrue b
and-right true b h = h
and-right false b h = absurd (cc)

begun_at : (n : tree.Name) (offset : ℕ) → IsTrue (stop_begun (tree.Named n) (mark punctuator.LeftParenthesis offset))
begun_at n offset = refl

evaluate_ends : (names : List (List ℕ)) (depth : ℕ) (x : tree.Expression) (s : unit.Simple) (text : List Leaf) (rest : List Placed) → EvaluateText names depth x s text → Stops (stop_simple s) rest → Stops (stop_begun x) (plains marks text ++ rest)
evaluate_ends names depth x s text rest m stops = called_ends names depth 0 stop_begun begun_at x m.inner text rest m.derives (subst (λ (v : unit.Simple). Stops (stop_simple v) rest) m.is stops)

weaker : (one two : Placed → Bool) → ((t : Placed) → IsTrue (one t) → IsTrue (two t)) → (rest : List Placed) → Stops one rest → Stops two rest
weaker one two h [] stops = tt
weaker one two h (t ∷ rest) stops = h t stops

begun_first : (x : tree.Expression) (t : Placed) → IsTrue (stop_begun x t) → IsTrue (not (is_unary x && is_mark punctuator.Assign t.token))
begun_first x t h = and-right (stop_conditional x t) _ (and-left _ _ (and-left _ _ h))

begun_second : (x : tree.Expression) (t : Placed) → IsTrue (stop_begun x t) → IsTrue (not (is_unary x && is_some (assign_operator t.token)))
begun_second x t h = and-right (stop_conditional x t && not (is_unary x && is_mark punctuator.Assign t.token)) _ (and-left _ _ h)

begun_third : (x : tree.Expression) (t : Placed) → IsTrue (stop_begun x t) → IsTrue (not (is_postfix x && is_some (step_operator t.token)))
begun_third x t h = and-right ((stop_conditional x t && not (is_unary x && is_mark punctuator.Assign t.token)) && not (is_unary x && is_some (assign_operator t.token))) _ h

begun_conditional : (x : tree.Expression) (t : Placed) → IsTrue (stop_begun x t) → IsTrue (stop_conditional x t)
begun_conditional x t h = and-left (stop_conditional x t) _ (and-left _ _ (and-left _ _ h))

-- an expression stops where what follows it begins
assign_stops : (x : tree.Expression) (k : Token) (o : BinaryOperator) (offset : ℕ) → assign_operator k ≡ Some o → IsTrue (stop_conditional x (record { token = k; offset = offset }))
assign_stops x (Mark punctuator.StarAssign) o offset e = refl
assign_stops x (Mark punctuator.SlashAssign) o offset e = refl
assign_stops x (Mark punctuator.PercentAssign) o offset e = refl
assign_stops x (Mark punctuator.PlusAssign) o offset e = refl
assign_stops x (Mark punctuator.MinusAssign) o offset e = refl
assign_stops x (Mark punctuator.ShiftLeftAssign) o offset e = refl
assign_stops x (Mark punctuator.ShiftRightAssign) o offset e = refl
assign_stops x (Mark punctuator.AmpersandAssign) o offset e = refl
assign_stops x (Mark punctuator.CaretAssign) o offset e = refl
assign_stops x (Mark punctuator.BarAssign) o offset e = refl
assign_stops x (Mark other) o offset e = absurd (cc)
assign_stops x (name_token spelling) o offset e = absurd (cc)
assign_stops x (Word w) o offset e = absurd (cc)
assign_stops x (number_token value type) o offset e = absurd (cc)
assign_stops x (character_token value) o offset e = absurd (cc)

step_stops : (x : tree.Expression) (o : StepOperator) (offset : ℕ) → IsTrue (stop_conditional x (mark (grammar.step_mark o) offset))
step_stops x Increment offset = refl
step_stops x Decrement offset = refl

target_ends : (names : List (List ℕ)) (depth : ℕ) (x : tree.Expression) (s : unit.Simple) (text : List Leaf) (rest : List Placed) → FollowingText names depth x s text → Stops (stop_simple s) rest → Stops (stop_conditional x) (plains marks text ++ rest)
target_ends names depth x s text rest (first a) stops =
    let b = a.derives in
    subst (λ l. Stops (stop_conditional x) (plains marks l ++ rest)) (sym (b.cut ∙ ap (λ l. l ++ b.right) (one-mark punctuator.Assign (operates (suc (operators x))) b.first b.left b.is_first))) refl
target_ends names depth x s text rest (second (first a)) stops =
    let b = a.derives in
    let f = by_first names depth x s text b in
    subst (λ l. Stops (stop_conditional x) (plains marks l ++ rest)) (sym f.0) (assign_stops x b.is_first.token.token b.first.0 b.is_first.token.offset f.1)
target_ends names depth x s text rest (second (second (first a))) stops =
    let m = a.derives in
    subst (λ l. Stops (stop_conditional x) (plains marks l ++ rest)) (sym (one-step (operates (suc (operators x))) m.inner text m.derives)) (step_stops x m.inner.0 m.inner.1)
target_ends names depth x s text rest (second (second (second m))) stops = weaker (stop_begun x) (stop_conditional x) (begun_conditional x) (plains marks text ++ rest) (evaluate_ends names depth x s text rest m stops)

-- no expression begins with a step
begins_no_step : (names : List (List ℕ)) (k : Token) → begins_expression names k ≡ true → is_some (step_operator k) ≡ false
begins_no_step names (Mark punctuator.Increment) e = absurd (cc)
begins_no_step names (Mark punctuator.Decrement) e = absurd (cc)
begins_no_step names (Mark other) e = refl
begins_no_step names (name_token spelling) e = refl
begins_no_step names (Word w) e = refl
begins_no_step names (number_token value type) e = refl
begins_no_step names (character_token value) e = refl

roled-bracketed : (names : List (List ℕ)) (inner : Parsers) → AllFirm names inner → (depth count offset : ℕ) → Firm anything (BracketText names depth count offset) stop_cast (read_bracketed inner depth count offset)
roled-bracketed names inner all depth count offset =
    roled-suffixed names inner depth count (λ c d l least. all.conditional (suc depth) (suc c)) (λ x text m. ap ends_postfix m.is)
    (firm-map (λ x. tree.Bracketed x offset) (λ _. anything) (λ x. refl) (roled-closed punctuator.RightParenthesis OperandEnd (expected OperandEnd) (λ t. refl) (λ t. refl) (all.conditional (suc depth) (suc count)) (λ x close. refl)))

some_bracketed : (names : List (List ℕ)) (depth count offset : ℕ) → (x : tree.Expression) × (right : List Leaf) × BracketText names depth count offset x right
some_bracketed names depth count offset = (tree.Bracketed zero_tree offset, zero_text ++ expected OperandEnd (mark punctuator.RightParenthesis 0) ∷ [], base _ _ (record { inner = zero_tree; is = refl; derives = record { inside = zero_text; close = 0; derives = zero_conditional names (suc depth) (suc count); cut = refl } }))

pub roled-any_unary : (names : List (List ℕ)) (inner : Parsers) → AllFirm names inner → (depth count : ℕ) → Firm anything (Unary names depth count) stop_cast (read_any_unary inner depth count)
roled-any_unary names inner all depth count =
    roled-same anything (Unary names depth count) (read_any_unary inner depth count) (λ t h. h) (any_unary names depth count) (λ x text h. unary_any names depth count x text (unary_split names depth count x text h)) (λ tokens. refl)
    (roled-choice (is_mark punctuator.LeftParenthesis)
    record {
      first_begins = λ x text b. (opening depth count b.first, b.right, b.cut ∙ ap (λ t. t ++ b.right) (one-mark punctuator.LeftParenthesis (brackets (suc depth) (suc count)) b.first b.left b.is_first), refl);
      second_begins = λ x text rest p stops. subst (λ t. Stops (λ t. not (is_mark punctuator.LeftParenthesis t.token)) (plains marks t ++ rest)) (sym p.cut) (rw p.no refl);
    }
    (λ t e. after_begins (mark_offset punctuator.LeftParenthesis) (brackets (suc depth) (suc count)) (λ t. refl) t t.offset (mark-some punctuator.LeftParenthesis t e) (some_bracketed names depth count t.offset))
    (after_silent (mark_offset punctuator.LeftParenthesis) (brackets (suc depth) (suc count)) (λ t. refl))
    (roled-opened (mark_offset punctuator.LeftParenthesis) Nothing (brackets (suc depth) (suc count)) (λ t. refl) (λ t. refl) (mark punctuator.LeftParenthesis 0) 0 (mark-self punctuator.LeftParenthesis 0)
    (some_bracketed names depth count)
    (λ offset t is within. roled-bracketed names inner all depth count offset))
    (all.unary depth count))

-- after a target they keep roles
some_assign : (names : List (List ℕ)) (depth : ℕ) (x : tree.Expression) (offset : ℕ) → (s : unit.Simple) × (right : List Leaf) × Map (λ value. unit.Assign x value offset) (grammar.Value names depth (suc (operators x))) s right
some_assign names depth x offset = (unit.Assign x (unit.Computed zero_tree) offset, zero_text, record { inner = unit.Computed zero_tree; is = refl; derives = zero_value names depth (suc (operators x)) })

some_by : (names : List (List ℕ)) (depth : ℕ) (x : tree.Expression) (operator : BinaryOperator × ℕ) → (s : unit.Simple) × (right : List Leaf) × Map (λ value. unit.AssignBy operator.0 x value operator.1) (Conditional names depth (suc (operators x))) s right
some_by names depth x operator = (unit.AssignBy operator.0 x zero_tree operator.1, zero_text, record { inner = zero_tree; is = refl; derives = zero_conditional names depth (suc (operators x)) })

some_step : (names : List (List ℕ)) (depth : ℕ) (operator : StepOperator × ℕ) → (s : unit.Simple) × (right : List Leaf) × Map (λ target. unit.StepBefore operator.0 target operator.1) (Unary names depth 1) s right
some_step names depth operator = (unit.StepBefore operator.0 zero_tree operator.1, zero_text, record { inner = zero_tree; is = refl; derives = zero_unary names depth 1 })

roled-assign : (names : List (List ℕ)) (inner : Parsers) → AllFirm names inner → (depth : ℕ) (x : tree.Expression) → Firm anything (AssignText names depth x) stop_simple (read_assign inner depth x)
roled-assign names inner all depth x =
    roled-opened (mark_offset punctuator.Assign) Nothing (operates (suc (operators x))) (λ t. refl) (λ t. refl) (mark punctuator.Assign 0) 0 (mark-self punctuator.Assign 0)
    (some_assign names depth x)
    (λ offset t is within. firm-map (λ value. unit.Assign x value offset) stop_simple (λ value. refl) (roled-value names inner all depth (suc (operators x))))

roled-by : (names : List (List ℕ)) (inner : Parsers) → AllFirm names inner → (depth : ℕ) (x : tree.Expression) → Firm anything (ByText names depth x) stop_simple (read_assign_by inner depth x)
roled-by names inner all depth x =
    roled-opened (with_offset assign_operator) Nothing (operates (suc (operators x))) (λ t. refl) (λ t. refl) (mark punctuator.StarAssign 0) (Multiply, 0) refl
    (some_by names depth x)
    (λ operator t is within. firm-map (λ value. unit.AssignBy operator.0 x value operator.1) stop_simple (λ value. refl) (all.conditional depth (suc (operators x))))

roled-after : (x : tree.Expression) → Firm anything (AfterText x) stop_simple (read_step_after x)
roled-after x = firm-map (λ (operator : StepOperator × ℕ). unit.StepAfter operator.0 x operator.1) stop_simple (λ operator. refl) (firm-one anything (operates (suc (operators x))) (with_offset step_operator) Nothing (λ t. refl) (λ t. refl) (mark punctuator.Increment 0) (Increment, 0) refl)

roled-evaluate : (names : List (List ℕ)) (inner : Parsers) → AllFirm names inner → (depth : ℕ) (x : tree.Expression) → Firm (stop_begun x) (EvaluateText names depth x) stop_simple (read_map (λ value. unit.Evaluate value) (read_called inner depth 0 x))
roled-evaluate names inner all depth x = firm-map (λ value. unit.Evaluate value) stop_simple (λ value. refl) (roled-called names inner all stop_begun depth 0 x)

roled-after_target : (names : List (List ℕ)) (inner : Parsers) → AllFirm names inner → (depth : ℕ) (x : tree.Expression) → Firm (stop_conditional x) (FollowingText names depth x) stop_simple (read_simple_after inner depth x)
roled-after_target names inner all depth x =
    roled-allowed (is_unary x) (is_mark punctuator.Assign)
    (λ s text b. (operates (suc (operators x)) (mark punctuator.Assign b.first), b.right, b.cut ∙ ap (λ l. l ++ b.right) (one-mark punctuator.Assign (operates (suc (operators x))) b.first b.left b.is_first), mark-passes punctuator.Assign (mark punctuator.Assign b.first) b.first (mark-self punctuator.Assign b.first)))
    (λ s text rest one stops. not_assign s text rest one stops)
    (λ t e. after_begins (mark_offset punctuator.Assign) (operates (suc (operators x))) (λ t. refl) t t.offset (mark-some punctuator.Assign t e) (some_assign names depth x t.offset))
    (after_silent (mark_offset punctuator.Assign) (operates (suc (operators x))) (λ t. refl))
    (roled-enter (both (stop_conditional x) (λ t. is_mark punctuator.Assign t.token)) (roled-assign names inner all depth x))
    (roled-allowed (is_unary x) (λ k. is_some (assign_operator k))
    (λ s text b. let f = by_first names depth x s text b in (operates (suc (operators x)) b.is_first.token, b.right, f.0, ap is_some f.1))
    (λ s text rest one stops. not_by s text rest one stops)
    (λ t e. let o = placed-some assign_operator t e in after_begins (with_offset assign_operator) (operates (suc (operators x))) (λ t. refl) t o.0 o.1 (some_by names depth x o.0))
    (after_silent (with_offset assign_operator) (operates (suc (operators x))) (λ t. refl))
    (roled-enter (both (both (stop_conditional x) (λ t. not (is_unary x && is_mark punctuator.Assign t.token))) (λ t. is_some (assign_operator t.token))) (roled-by names inner all depth x))
    (roled-allowed (is_postfix x) (λ k. is_some (step_operator k))
    (λ s text m. (operates (suc (operators x)) (mark (grammar.step_mark m.inner.0) m.inner.1), [], one-step (operates (suc (operators x))) m.inner text m.derives, ap is_some (step_self m.inner.0)))
    (λ s text rest m stops. weaker (stop_begun x) (λ t. not (is_postfix x && is_some (step_operator t.token))) (begun_third x) (plains marks text ++ rest) (evaluate_ends names depth x s text rest m stops))
    (λ t e. let o = placed-some step_operator t e in map_begins (λ (operator : StepOperator × ℕ). unit.StepAfter operator.0 x operator.1) t (record { value = o.0; first = operates (suc (operators x)) t; more = []; derives = record { token = t; is = o.1; cut = refl }; is = refl }))
    (map_silent (λ (operator : StepOperator × ℕ). unit.StepAfter operator.0 x operator.1) (λ y u more o. ap (λ (l : Leaf). l.role) (one_first y u more o)))
    (roled-enter (both (both (both (stop_conditional x) (λ t. not (is_unary x && is_mark punctuator.Assign t.token))) (λ t. not (is_unary x && is_some (assign_operator t.token)))) (λ t. is_some (step_operator t.token))) (roled-after x))
    (roled-evaluate names inner all depth x)))
  where
    after_is : (s : unit.Simple) (text : List Leaf) (m : AfterText x s text) → text ≡ operates (suc (operators x)) (mark (grammar.step_mark m.inner.0) m.inner.1) ∷ []
    after_is s text m = one-step (operates (suc (operators x))) m.inner text m.derives

    not_by : (s : unit.Simple) (text : List Leaf) (rest : List Placed) → Or (Allowed (is_postfix x) (AfterText x)) (EvaluateText names depth x) s text → Stops (stop_simple s) rest → Stops (λ t. not (is_unary x && is_some (assign_operator t.token))) (plains marks text ++ rest)
    not_by s text rest (first a) stops = subst (λ l. Stops (λ t. not (is_unary x && is_some (assign_operator t.token))) (plains marks l ++ rest)) (sym (after_is s text a.derives)) (false_and (is_unary x) _ (step_no a.derives.inner.0).1)
    not_by s text rest (second m) stops = weaker (stop_begun x) (λ t. not (is_unary x && is_some (assign_operator t.token))) (begun_second x) (plains marks text ++ rest) (evaluate_ends names depth x s text rest m stops)

    not_assign : (s : unit.Simple) (text : List Leaf) (rest : List Placed) → Or (Allowed (is_unary x) (ByText names depth x)) (Or (Allowed (is_postfix x) (AfterText x)) (EvaluateText names depth x)) s text → Stops (stop_simple s) rest → Stops (λ t. not (is_unary x && is_mark punctuator.Assign t.token)) (plains marks text ++ rest)
    not_assign s text rest (first a) stops =
        let b = a.derives in
        let f = by_first names depth x s text b in
        subst (λ l. Stops (λ t. not (is_unary x && is_mark punctuator.Assign t.token)) (plains marks l ++ rest)) (sym f.0) (false_and (is_unary x) (is_mark punctuator.Assign b.is_first.token.token) (assign_no b.is_first.token.token b.first.0 f.1))
    not_assign s text rest (second (first a)) stops = subst (λ l. Stops (λ t. not (is_unary x && is_mark punctuator.Assign t.token)) (plains marks l ++ rest)) (sym (after_is s text a.derives)) (false_and (is_unary x) _ (step_no a.derives.inner.0).0)
    not_assign s text rest (second (second m)) stops = weaker (stop_begun x) (λ t. not (is_unary x && is_mark punctuator.Assign t.token)) (begun_first x) (plains marks text ++ rest) (evaluate_ends names depth x s text rest m stops)

roled-step_before : (names : List (List ℕ)) (inner : Parsers) → AllFirm names inner → (depth : ℕ) → Firm anything (StepText names depth) stop_simple (read_step_before inner depth)
roled-step_before names inner all depth =
    roled-opened (with_offset step_operator) Nothing (operates 1) (λ t. refl) (λ t. refl) (mark punctuator.Increment 0) (Increment, 0) refl
    (some_step names depth)
    (λ operator t is within. firm-map (λ target. unit.StepBefore operator.0 target operator.1) stop_simple (λ target. refl) (roled-any_unary names inner all depth 1))

pub roled-simple : (names : List (List ℕ)) (inner : Parsers) → AllFirm names inner → (depth : ℕ) → Firm anything (grammar.Simple names depth) stop_simple (read_simple inner depth)
roled-simple names inner all depth =
    roled-same anything (grammar.Simple names depth) (read_simple inner depth) (λ t h. h) (text_simple names depth) (simple_text names depth) (λ tokens. refl)
    (roled-choice (λ k. is_some (step_operator k))
    record {
      first_begins = λ s text b. (operates 1 (mark (grammar.step_mark b.first.0) b.first.1), b.right, b.cut ∙ ap (λ l. l ++ b.right) (one-step (operates 1) b.first b.left b.is_first), ap is_some (step_self b.first.0));
      second_begins = λ s text rest b stops.
          let f = conditional_first names depth 0 b.first b.left b.is_first in
          first_not names (λ k. is_some (step_operator k)) (begins_no_step names) text rest (record { leaf = f.leaf; more = f.more ++ b.right; cut = b.cut ∙ ap (λ l. l ++ b.right) f.cut; yes = f.yes });
    }
    (λ t e. let o = placed-some step_operator t e in after_begins (with_offset step_operator) (operates 1) (λ t. refl) t o.0 o.1 (some_step names depth o.0))
    (after_silent (with_offset step_operator) (operates 1) (λ t. refl))
    (roled-step_before names inner all depth)
    (roled-following (all.conditional depth 0) (λ x left h within. roled-after_target names inner all depth x)
    record {
      ends = λ x s left right rest one two stops. target_ends names depth x s right rest two stops;
      goes_on = λ x left one. (unit.Evaluate (unit.Computed x), [], second (second (second (record { inner = unit.Computed x; is = refl; derives = called_alone names depth 0 x }))));
    }))
