-- Binary levels keep roles.
use Rattle.std.proofs.Common.{◌≡◌, Some, ap, ℕ, refl, Bool, true, false, Option, None, cond, sym, ◌∙◌, eqb-true, eq-eqb, suc, List, [], ◌∷◌, zero, ◌<◌, arith, not, ◌&&◌, IsTrue, ◌||◌, ◌+◌, ◌++◌, subst, ◌≤◌}
use Rattle.std.proofs.lemmas.Bool.{ne_eqb}
use Rattle.std.specs.Prelude.{◌==◌, option_map}
use Rattle.c_token_spec.specs.declared.token.Punctuator.{Punctuator}
use Rattle.c_token_spec.specs.declared.token.Punctuator.TheVariants as punctuator
use Rattle.c_token_spec.specs.Lexical.{Token, Name as name_token, Word, Number as number_token, Character as character_token, Mark, Placed}
use Rattle.c_syntax_spec.specs.declared.BinaryOperator.{BinaryOperator}
use Rattle.c_syntax_spec.specs.declared.BinaryOperator.TheVariants.{LogicalOr, LogicalAnd, BitOr, BitXor, BitAnd, Equal, NotEqual, Less, Greater, LessOrEqual, GreaterOrEqual, ShiftLeft, ShiftRight, Add, Subtract, Multiply, Divide, Remainder}
use Rattle.c_syntax_spec.specs.Expression as tree
use Rattle.c_parse_spec.specs.declared.Role.TheVariants.{Nothing}
use Rattle.c_parse_spec.specs.Leaves.{mark, Leaf, operates, marks}
use Rattle.c_parse_spec.specs.Expressions.{binary_mark, level_of, Binary, operators, tighter, operation, Cast, operand}
use Rattle.exact_read.specs.Reading.{Stops}
use Rattle.exact_read.specs.Grammar.{One, opens, Map, anything}
use Rattle.exact_read.specs.Folds.{Folded, base, step}
use Rattle.exact_read.proofs.Many.{Items}
use Rattle.c_parse_laws.specs.Classes.{binary_operator, is_level, with_offset, of_level, is_up_to, is_suffix}
use Rattle.c_parse_laws.specs.Classes as class
use Rattle.c_parse_laws.specs.Stops.{stop_cast, stop_binary}
use Rattle.c_parse_laws.specs.Parsers.{Left, starts_operation, Operation, with_operation, left_of, Parsers, starts_level, next_left, read_operator, read_binary}
use Rattle.c_parse_laws.proofs.Marks.{Following, some_value, after_begins, roled-opened, after_silent}
use Rattle.c_parse_laws.proofs.Samples.{zero_tree, zero_text, zero_binary}
use Rattle.c_parse_laws.proofs.Suffixes.{placed}
use Rattle.exact_read.proofs.RoleBasics.{roled-same, roled-stop, roled-enter}
use Rattle.exact_read.proofs.RoleBegins.{Begins}
use Rattle.c_parse_laws.specs.Firm.{Firm}
use Rattle.std.specs.Option.{is_some}
use Rattle.c_parse_laws.proofs.Firm.{firm-map, firm-folded}

-- the operators by their tokens
binary-punctuator : (p : Punctuator) (o : BinaryOperator) → class.binary_mark p ≡ Some o → p ≡ binary_mark o
binary-punctuator punctuator.LogicalOr o e = let same : LogicalOr ≡ o = cc in ap binary_mark same
binary-punctuator punctuator.LogicalAnd o e = let same : LogicalAnd ≡ o = cc in ap binary_mark same
binary-punctuator punctuator.Bar o e = let same : BitOr ≡ o = cc in ap binary_mark same
binary-punctuator punctuator.Caret o e = let same : BitXor ≡ o = cc in ap binary_mark same
binary-punctuator punctuator.Ampersand o e = let same : BitAnd ≡ o = cc in ap binary_mark same
binary-punctuator punctuator.Equals o e = let same : Equal ≡ o = cc in ap binary_mark same
binary-punctuator punctuator.NotEquals o e = let same : NotEqual ≡ o = cc in ap binary_mark same
binary-punctuator punctuator.LessThan o e = let same : Less ≡ o = cc in ap binary_mark same
binary-punctuator punctuator.GreaterThan o e = let same : Greater ≡ o = cc in ap binary_mark same
binary-punctuator punctuator.LessOrEqual o e = let same : LessOrEqual ≡ o = cc in ap binary_mark same
binary-punctuator punctuator.GreaterOrEqual o e = let same : GreaterOrEqual ≡ o = cc in ap binary_mark same
binary-punctuator punctuator.ShiftLeft o e = let same : ShiftLeft ≡ o = cc in ap binary_mark same
binary-punctuator punctuator.ShiftRight o e = let same : ShiftRight ≡ o = cc in ap binary_mark same
binary-punctuator punctuator.Plus o e = let same : Add ≡ o = cc in ap binary_mark same
binary-punctuator punctuator.Minus o e = let same : Subtract ≡ o = cc in ap binary_mark same
binary-punctuator punctuator.Star o e = let same : Multiply ≡ o = cc in ap binary_mark same
binary-punctuator punctuator.Slash o e = let same : Divide ≡ o = cc in ap binary_mark same
binary-punctuator punctuator.Percent o e = let same : Remainder ≡ o = cc in ap binary_mark same
binary-punctuator other o e = absurd (cc)

binary-token : (k : Token) (offset : ℕ) (o : BinaryOperator) → binary_operator k ≡ Some o → record { token = k; offset = offset } ≡ mark (binary_mark o) offset
binary-token (Mark p) offset o e = ap (λ q. mark q offset) (binary-punctuator p o e)
binary-token (name_token spelling) offset o e = absurd (cc)
binary-token (Word keyword) offset o e = absurd (cc)
binary-token (number_token value type) offset o e = absurd (cc)
binary-token (character_token value) offset o e = absurd (cc)

binary-self : (o : BinaryOperator) → binary_operator (Mark (binary_mark o)) ≡ Some o
binary-self LogicalOr = refl
binary-self LogicalAnd = refl
binary-self BitOr = refl
binary-self BitXor = refl
binary-self BitAnd = refl
binary-self Equal = refl
binary-self NotEqual = refl
binary-self Less = refl
binary-self Greater = refl
binary-self LessOrEqual = refl
binary-self GreaterOrEqual = refl
binary-self ShiftLeft = refl
binary-self ShiftRight = refl
binary-self Add = refl
binary-self Subtract = refl
binary-self Multiply = refl
binary-self Divide = refl
binary-self Remainder = refl

-- an operator of a level
level-some : (level : ℕ) (o : Option BinaryOperator) (p : BinaryOperator) → cond (is_level level o) o None ≡ Some p → (o ≡ Some p) × (is_level level o ≡ true)
level-some level o p e = by_test (is_level level o) refl e
  where
    by_test : (b : Bool) → is_level level o ≡ b → cond b o None ≡ Some p → (o ≡ Some p) × (is_level level o ≡ true)
    by_test true f e = (e, f)
    by_test false f e = absurd (cc)

level-is : (level : ℕ) (o : Option BinaryOperator) (p : BinaryOperator) → o ≡ Some p → is_level level o ≡ true → level_of p ≡ level
level-is level o p e f = eqb-true (level_of p) level (ap (is_level level) (sym e) ∙ f)

eqb-self : (n : ℕ) → (n == n) ≡ true
eqb-self n = eq-eqb n n refl

level-of : (level : ℕ) (p : BinaryOperator) → level_of p ≡ level → is_level level (Some p) ≡ true
level-of level p e = ap (λ n. level_of p == n) (sym e) ∙ eqb-self (level_of p)

-- an operator of a level and its offset
abbrev pub OperatorOne : (level count : ℕ) → BinaryOperator × ℕ → List Leaf → Type 0
OperatorOne level count = One (operates (suc count)) (with_offset (of_level (suc level)))

one-binary : (level count : ℕ) (found : BinaryOperator × ℕ) (text : List Leaf) → OperatorOne level count found text → (text ≡ operates (suc count) (mark (binary_mark found.0) found.1) ∷ []) × (level_of found.0 ≡ suc level)
one-binary level count found text o =
    let p = placed (of_level (suc level)) o.token found o.is in
    let l = level-some (suc level) (binary_operator o.token.token) found.0 p.0 in
    (o.cut ∙ ap (λ t. operates (suc count) t ∷ []) (binary-token o.token.token o.token.offset found.0 l.0 ∙ ap (λ k. mark (binary_mark found.0) k) p.1), level-is (suc level) (binary_operator o.token.token) found.0 l.0 l.1)

of-level-self : (level : ℕ) (o : BinaryOperator) → level_of o ≡ level → of_level level (Mark (binary_mark o)) ≡ Some o
of-level-self level o e = rw (binary-self o, level-of level o e) refl

binary-one : (level count : ℕ) (o : BinaryOperator) (k : ℕ) → level_of o ≡ suc level → OperatorOne level count (o, k) (operates (suc count) (mark (binary_mark o) k) ∷ [])
binary-one level count o k e = record { token = mark (binary_mark o) k; is = rw (of-level-self (suc level) o e) refl; cut = refl }

-- tests on the next token
not_up_to : (level n : ℕ) (p : BinaryOperator) → level_of p ≡ n → level < n → is_up_to level (Some p) ≡ false
not_up_to zero n p e l = refl
not_up_to (suc level) n p e l = rw (ne_eqb (level_of p) (suc level) (λ f. omega arith), not_up_to level n p e (omega arith)) refl

level-up : (level : ℕ) (o : Option BinaryOperator) → is_level (suc level) o ≡ true → is_up_to level o ≡ false
level-up level None e = absurd (cc)
level-up level (Some p) e = not_up_to level (suc level) p (eqb-true (level_of p) (suc level) e) (omega arith)

suffix-none : (k : Token) → is_suffix k ≡ true → binary_operator k ≡ None
suffix-none (Mark punctuator.LeftBracket) e = refl
suffix-none (Mark punctuator.Dot) e = refl
suffix-none (Mark punctuator.Arrow) e = refl
suffix-none (Mark other) e = absurd (cc)
suffix-none (name_token spelling) e = absurd (cc)
suffix-none (Word keyword) e = absurd (cc)
suffix-none (number_token value type) e = absurd (cc)
suffix-none (character_token value) e = absurd (cc)

level-suffix : (level : ℕ) (k : Token) → is_level level (binary_operator k) ≡ true → is_suffix k ≡ false
level-suffix level k e = by_test (is_suffix k) refl
  where
    by_test : (b : Bool) → is_suffix k ≡ b → is_suffix k ≡ false
    by_test true f = absurd (let g : is_level level None ≡ true = ap (is_level level) (sym (suffix-none k f)) ∙ e in cc)
    by_test false f = f

-- where the operations of a level end
abbrev pub ends_level : (level : ℕ) → Left → Placed → Bool
ends_level level left t = not (is_up_to level (binary_operator t.token)) && not (is_suffix t.token && left.1)

or-right : (a b : Bool) → IsTrue b → IsTrue (a || b)
or-right true b e = refl
or-right false b e = e

leads_level : (level : ℕ) (left : Left) (rest : List Placed) → Stops (ends_level level left) rest → Stops (opens (starts_operation level) (ends_level level) left) rest
leads_level level left [] h = tt
leads_level level left (t ∷ rest) h = or-right (starts_operation level left t) (ends_level level left t) h

joins_level : (level : ℕ) (left : Left) (rest : List Placed) → Stops (opens (starts_operation level) (ends_level level) left) rest → Stops (ends_level level left) rest
joins_level level left [] h = tt
joins_level level left (t ∷ rest) h = by_test (starts_operation level left t) refl h
  where
    by_test : (b : Bool) → starts_operation level left t ≡ b → IsTrue (b || ends_level level left t) → IsTrue (ends_level level left t)
    by_test true e h = rw (level-up level (binary_operator t.token) e, level-suffix (suc level) t.token e) refl
    by_test false e h = h

-- the operations of a level
abbrev pub OperationText : (names : List (List ℕ)) → (level depth count : ℕ) → Operation → List Leaf → Type 0
OperationText names level depth count = Following (OperatorOne level count) (λ o. Map (λ y. (o, y)) (Binary names level depth (suc count)))

abbrev pub LevelText : (names : List (List ℕ)) → (level depth count : ℕ) → tree.Expression → List Leaf → Type 0
LevelText names level depth count = Folded with_operation left_of (Binary names level depth count) (λ left. OperationText names level depth (count + left.0))

level_binary : (names : List (List ℕ)) (level depth count : ℕ) (x : tree.Expression) (text : List Leaf) → LevelText names level depth count x text → Binary names (suc level) depth count x text
level_binary names level depth count x text (base y t h) = tighter level depth count y t h
level_binary names level depth count x text (step y i left right h b) =
    let m = b.is_second in
    let o = one-binary level (count + operators y) b.first b.left b.is_first in
    let same : i ≡ (b.first, m.inner) = m.is in
    subst (λ (p : Operation). Binary names (suc level) depth count (with_operation y p) (left ++ right)) (sym same)
    (subst (λ t. Binary names (suc level) depth count (with_operation y (b.first, m.inner)) (left ++ t)) (sym (b.cut ∙ ap (λ t. t ++ b.right) o.0))
    (operation level depth count b.first.0 y m.inner left b.right b.first.1 o.1 (level_binary names level depth count y left h) m.derives))

binary_level : (names : List (List ℕ)) (level depth count : ℕ) (x : tree.Expression) (text : List Leaf) → Binary names (suc level) depth count x text → LevelText names level depth count x text
binary_level names level depth count x text (tighter l d c y t h) = base y t h
binary_level names level depth count x text (operation l d c o y z left right offset e h k) =
    step y ((o, offset), z) left (operates (suc (c + operators y)) (mark (binary_mark o) offset) ∷ right) (binary_level names l d c y left h)
    (record {
      first = (o, offset);
      left = operates (suc (c + operators y)) (mark (binary_mark o) offset) ∷ [];
      right = right;
      is_first = binary-one l (c + operators y) o offset e;
      is_second = record { inner = z; is = refl; derives = k };
      cut = refl;
    })

-- an operator of each level
sample_of : (level : ℕ) → level < 10 → (o : BinaryOperator) × (level_of o ≡ suc level)
sample_of zero h = (Multiply, refl)
sample_of (suc zero) h = (Add, refl)
sample_of (suc (suc zero)) h = (ShiftLeft, refl)
sample_of (suc (suc (suc zero))) h = (Less, refl)
sample_of (suc (suc (suc (suc zero)))) h = (Equal, refl)
sample_of (suc (suc (suc (suc (suc zero))))) h = (BitAnd, refl)
sample_of (suc (suc (suc (suc (suc (suc zero)))))) h = (BitXor, refl)
sample_of (suc (suc (suc (suc (suc (suc (suc zero))))))) h = (BitOr, refl)
sample_of (suc (suc (suc (suc (suc (suc (suc (suc zero)))))))) h = (LogicalAnd, refl)
sample_of (suc (suc (suc (suc (suc (suc (suc (suc (suc zero))))))))) h = (LogicalOr, refl)
sample_of (suc (suc (suc (suc (suc (suc (suc (suc (suc (suc n)))))))))) h = absurd (omega arith)

-- operands keep roles from this count on
abbrev pub Operands : (names : List (List ℕ)) → Parsers → (depth count : ℕ) → Type 0
Operands names inner depth count = (c : ℕ) → count ≤ c → Firm anything (Cast names depth c) stop_cast (inner.cast depth c)

operation_begins : (names : List (List ℕ)) (level depth c : ℕ) (o : Operation) (text : List Leaf) → OperationText names level depth c o text → (u : Leaf) × (more : List Leaf) × (text ≡ u ∷ more) × (starts_level (suc level) u.token.token ≡ true)
operation_begins names level depth c o text b =
    let p = placed (of_level (suc level)) b.is_first.token b.first b.is_first.is in
    (operates (suc c) b.is_first.token, b.right, b.cut ∙ ap (λ t. t ++ b.right) b.is_first.cut, (level-some (suc level) (binary_operator b.is_first.token.token) b.first.0 p.0).1)

level_items : (names : List (List ℕ)) (level depth count : ℕ) → Items marks (starts_operation level) (ends_level level) (λ left. OperationText names level depth (count + left.0)) (λ _ o. stop_binary level o.1) next_left
level_items names level depth count =
    record {
      begins = λ left o text one. operation_begins names level depth (count + left.0) o text one;
      opens_next = λ left o rest stops. leads_level level (next_left left o) rest stops;
      stops_item = λ left o rest opened. joins_level level (next_left left o) rest opened;
    }

same_stops : (up level suffix : Bool) → ((not up && suffix) && not level) ≡ (not (level || up) && suffix)
same_stops true true s = refl
same_stops true false s = refl
same_stops false true true = refl
same_stops false true false = refl
same_stops false false true = refl
same_stops false false false = refl

some_operand : (names : List (List ℕ)) (level depth c : ℕ) (o : BinaryOperator × ℕ) → (p : Operation) × (right : List Leaf) × Map (λ y. (o, y)) (Binary names level depth (suc c)) p right
some_operand names level depth c o = ((o, zero_tree), zero_text, record { inner = zero_tree; is = refl; derives = zero_binary names level depth (suc c) })

level-found : (level : ℕ) (o : Option BinaryOperator) → is_level level o ≡ true → is_some o ≡ true
level-found level None e = absurd (cc)
level-found level (Some p) e = refl

level-take : (level : ℕ) (o : Option BinaryOperator) (p : BinaryOperator) → is_level level o ≡ true → o ≡ Some p → cond (is_level level o) o None ≡ Some p
level-take level o p e f = ap (λ b. cond b o None) e ∙ f

begin_operation : (names : List (List ℕ)) (level depth c : ℕ) (t : Placed) → starts_level (suc level) t.token ≡ true → Begins marks (OperationText names level depth c) t
begin_operation names level depth c t e =
    let a = some_value (binary_operator t.token) (level-found (suc level) (binary_operator t.token) e) in
    let found : of_level (suc level) t.token ≡ Some a.0 = level-take (suc level) (binary_operator t.token) a.0 e a.1 in
    after_begins (with_offset (of_level (suc level))) (operates (suc c)) (λ t. refl) t (a.0, t.offset) (ap (option_map (λ o. (o, t.offset))) found) (some_operand names level depth c (a.0, t.offset))

roled-operation : (names : List (List ℕ)) (inner : Parsers) (depth level c : ℕ) → level < 10 → Firm anything (Binary names level depth (suc c)) (stop_binary level) (read_binary inner depth level (suc c)) → Firm anything (OperationText names level depth c) (λ o. stop_binary level o.1) (read_operator (read_binary inner depth level) level c)
roled-operation names inner depth level c small is =
    let s = sample_of level small in
    roled-opened (with_offset (of_level (suc level))) Nothing (operates (suc c)) (λ t. refl) (λ t. refl) (mark (binary_mark s.0) 0) (s.0, 0) (rw (of-level-self (suc level) s.0 s.1) refl)
    (some_operand names level depth c)
    (λ o t at within. firm-map (λ y. (o, y)) (λ p. stop_binary level p.1) (λ y. refl) is)

pub roled-binary : (names : List (List ℕ)) (inner : Parsers) (depth count level : ℕ) → level ≤ 10 → Operands names inner depth count → (c : ℕ) → count ≤ c → Firm anything (Binary names level depth c) (stop_binary level) (read_binary inner depth level c)
roled-binary names inner depth count zero small is c least =
    roled-same anything (Binary names 0 depth c) (read_binary inner depth 0 c) (λ t h. h) (λ x text h. operand depth c x text h) from (λ tokens. refl) (is c least)
  where
    from : (x : tree.Expression) (text : List Leaf) → Binary names 0 depth c x text → Cast names depth c x text
    from x text (operand d e y t h) = h
roled-binary names inner depth count (suc level) small is c least =
    roled-same anything (Binary names (suc level) depth c) (read_binary inner depth (suc level) c) (λ t h. h) (level_binary names level depth c) (binary_level names level depth c) (λ tokens. refl)
    (roled-stop (stop_binary (suc level)) (λ x text h t. same_stops (is_up_to level (binary_operator t.token)) (is_level (suc level) (binary_operator t.token)) (stop_cast x t))
    (firm-folded
    record {
      steps = λ x o. refl;
      joins = λ x text one rest opened. joins_level level (left_of x) rest opened;
      leads = λ x rest stops. leads_level level (left_of x) rest stops;
    }
    (level_items names level depth c)
    (λ left t e. begin_operation names level depth (c + left.0) t e) (λ left. after_silent (with_offset (of_level (suc level))) (operates (suc (c + left.0))) (λ t. refl))
    (roled-binary names inner depth count level (omega arith) is c least)
    (λ left. roled-enter (starts_operation level left) (roled-operation names inner depth level (c + left.0) (omega arith) (roled-binary names inner depth count level (omega arith) is (suc (c + left.0)) (omega arith))))))
