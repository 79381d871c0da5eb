-- What is assigned or returned keeps roles.
use Rattle.std.proofs.Common.{ℕ, List, [], ◌++◌, sym, subst, append-nil, ◌∷◌, ◌≡◌, refl, Bool, true, false, not, ◌&&◌, ap, ◌∙◌, IsTrue, suc}
use Rattle.c_token_spec.specs.declared.token.Punctuator.TheVariants as punctuator
use Rattle.c_token_spec.specs.Lexical.{Placed}
use Rattle.c_syntax_spec.specs.Expression as tree
use Rattle.c_syntax_spec.specs.Unit as unit
use Rattle.c_parse_spec.specs.Leaves.{Leaf, plain, named, marks, brackets, mark}
use Rattle.c_parse_spec.specs.Expressions.{Conditional}
use Rattle.c_parse_spec.specs.Statements as grammar
use Rattle.exact_read.specs.Reading.{plains, Stops}
use Rattle.exact_read.specs.Grammar.{Map, Or, Nothing as Empty, second, nothing, first, read_nothing, anything}
use Rattle.exact_read.proofs.Parts.{both}
use Rattle.c_parse_laws.specs.Classes.{is_mark, mark_offset}
use Rattle.c_parse_laws.specs.Stops.{stop_conditional}
use Rattle.c_parse_laws.specs.Parsers.{Parsers}
use Rattle.c_parse_laws.proofs.Marks.{one-mark, mark-self, mark-passes, mark-some, roled-choose, after_begins, after_silent, map_begins, map_silent, roled-following}
use Rattle.c_parse_laws.proofs.Samples.{zero_tree, zero_text, zero_conditional}
use Rattle.c_parse_laws.specs.TypeExactness.{AllFirm}
use Rattle.c_parse_laws.specs.Values.{is_name, read_called, read_value}
use Rattle.c_parse_laws.specs.Ends.{stop_called, stop_value}
use Rattle.c_parse_laws.proofs.Trees.{name_alone, conditional_name}
use Rattle.c_parse_laws.proofs.Calls.{CallText, text_call, call_text, roled-call, some_call}
use Rattle.exact_read.proofs.RoleBasics.{roled-stop, roled-enter, roled-same}
use Rattle.c_parse_laws.specs.Firm.{Firm}
use Rattle.c_parse_laws.proofs.Firm.{firm-nothing, firm-map}

-- what follows an expression that is read first: nothing, or after a name the rest of a call
abbrev pub CalledText : (names : List (List ℕ)) → (depth count : ℕ) → tree.Expression → unit.Value → List Leaf → Type 0
CalledText names depth count (tree.Named callee) = Or (Map (λ call. unit.Called call) (CallText names depth count callee)) (Empty (unit.Computed (tree.Named callee)))
CalledText names depth count other = Empty (unit.Computed other)

-- an expression alone
pub called_alone : (names : List (List ℕ)) (depth count : ℕ) (x : tree.Expression) → CalledText names depth count x (unit.Computed x) []
called_alone names depth count (tree.Named n) = second nothing
called_alone names depth count other = nothing

computed : (names : List (List ℕ)) (depth count : ℕ) (x : tree.Expression) (left : List Leaf) → Conditional names depth count x left → grammar.Value names depth count (unit.Computed x) (left ++ [])
computed names depth count x left h = subst (λ l. grammar.Value names depth count (unit.Computed x) l) (sym (append-nil left)) (grammar.computed depth count x left h)

-- as the grammar has it
pub called_value : (names : List (List ℕ)) (depth count : ℕ) (x : tree.Expression) (v : unit.Value) (left right : List Leaf) → Conditional names depth count x left → CalledText names depth count x v right → grammar.Value names depth count v (left ++ right)
called_value names depth count (tree.Named n) v left right h (first m) =
    let a = name_alone names depth count n left h in
    rw (m.is, a.0) (grammar.called depth count m.inner (plain (named n) ∷ right) (text_call names depth count n m.inner right a.1 m.derives))
called_value names depth count (tree.Named n) v left right h (second nothing) = computed names depth count (tree.Named n) left h
called_value names depth count (tree.Number value type offset) v left right h nothing = computed names depth count _ left h
called_value names depth count (tree.Character value offset) v left right h nothing = computed names depth count _ left h
called_value names depth count (tree.Bracketed y offset) v left right h nothing = computed names depth count _ left h
called_value names depth count (tree.Index y i offset) v left right h nothing = computed names depth count _ left h
called_value names depth count (tree.Member y a n offset) v left right h nothing = computed names depth count _ left h
called_value names depth count (tree.Unary o y offset) v left right h nothing = computed names depth count _ left h
called_value names depth count (tree.Sizeof y offset) v left right h nothing = computed names depth count _ left h
called_value names depth count (tree.SizeofType t offset) v left right h nothing = computed names depth count _ left h
called_value names depth count (tree.Cast t y offset) v left right h nothing = computed names depth count _ left h
called_value names depth count (tree.Binary o y z offset) v left right h nothing = computed names depth count _ left h
called_value names depth count (tree.Conditional y z w offset) v left right h nothing = computed names depth count _ left h

pub record ValueSplit (names : List (List ℕ)) (depth count : ℕ) (v : unit.Value) (text : List Leaf) : Type 0 where
  pub head : tree.Expression
  pub left : List Leaf
  pub right : List Leaf
  pub is_head : Conditional names depth count head left
  pub following : CalledText names depth count head v right
  pub cut : text ≡ left ++ right

pub value_split : (names : List (List ℕ)) (depth count : ℕ) (v : unit.Value) (text : List Leaf) → grammar.Value names depth count v text → ValueSplit names depth count v text
value_split names depth count v text (grammar.called d c call t h) =
    let s = call_text names d c call t h in
    record { head = tree.Named s.callee; left = plain (named s.callee) ∷ []; right = s.right; is_head = conditional_name names d c s.callee s.fresh; following = first (record { inner = call; is = refl; derives = s.derives }); cut = s.cut }
value_split names depth count v text (grammar.computed d c x t h) = record { head = x; left = t; right = []; is_head = h; following = called_alone names d c x; cut = sym (append-nil t) }

-- the parser after an expression, whatever is asked of the next token there
and-false : (a : Bool) → a ≡ (a && not false)
and-false true = refl
and-false false = refl

alone_same : (stop : tree.Expression → Placed → Bool) (x : tree.Expression) (v : unit.Value) (text : List Leaf) (t : Placed) → is_name x ≡ false → Empty (unit.Computed x) v text → stop x t ≡ stop_called stop v t
alone_same stop x v text t e nothing = and-false (stop x t) ∙ ap (λ b. stop x t && not (b && is_mark punctuator.LeftParenthesis t.token)) (sym e)

named_same : (stop : tree.Expression → Placed → Bool) (n : tree.Name) (v : unit.Value) (text : List Leaf) (t : Placed) → Empty (unit.Computed (tree.Named n)) v text → both (stop (tree.Named n)) (λ t. not (is_mark punctuator.LeftParenthesis t.token)) t ≡ stop_called stop v t
named_same stop n v text t nothing = refl

and-right : (a b : Bool) → IsTrue (a && b) → IsTrue b
and-right true b h = h
and-right false b h = absurd (cc)

and-left : (a b : Bool) → IsTrue (a && b) → IsTrue a
and-left true b h = refl
and-left false b h = absurd (cc)

named_second : (stop : tree.Expression → Placed → Bool) (n : tree.Name) (v : unit.Value) (text : List Leaf) (rest : List Placed) → Empty (unit.Computed (tree.Named n)) v text → Stops (stop_called stop v) rest → Stops (λ t. not (is_mark punctuator.LeftParenthesis t.token)) (plains marks text ++ rest)
named_second stop n v text [] nothing stops = tt
named_second stop n v text (t ∷ rest) nothing stops = and-right (stop (tree.Named n) t) (not (is_mark punctuator.LeftParenthesis t.token)) stops

-- an expression stops where what follows it begins
alone_ends : (stop : tree.Expression → Placed → Bool) (x : tree.Expression) (v : unit.Value) (right : List Leaf) (rest : List Placed) → Empty (unit.Computed x) v right → Stops (stop_called stop v) rest → Stops (stop x) (plains marks right ++ rest)
alone_ends stop x v right [] nothing stops = tt
alone_ends stop x v right (t ∷ rest) nothing stops = and-left (stop x t) (not (is_name x && is_mark punctuator.LeftParenthesis t.token)) stops

pub called_ends : (names : List (List ℕ)) (depth count : ℕ) (stop : tree.Expression → Placed → Bool) → ((n : tree.Name) (offset : ℕ) → IsTrue (stop (tree.Named n) (mark punctuator.LeftParenthesis offset))) → (x : tree.Expression) (v : unit.Value) (right : List Leaf) (rest : List Placed) → CalledText names depth count x v right → Stops (stop_called stop v) rest → Stops (stop x) (plains marks right ++ rest)
called_ends names depth count stop at (tree.Named n) v right rest (first m) stops =
    let b = m.derives in
    subst (λ l. Stops (stop (tree.Named n)) (plains marks l ++ rest)) (sym (b.cut ∙ ap (λ l. l ++ b.right) (one-mark punctuator.LeftParenthesis (brackets (suc depth) (suc count)) b.first b.left b.is_first))) (at n b.first)
called_ends names depth count stop at (tree.Named n) v right rest (second one) stops = alone_ends stop (tree.Named n) v right rest one stops
called_ends names depth count stop at (tree.Number value type offset) v right rest one stops = alone_ends stop _ v right rest one stops
called_ends names depth count stop at (tree.Character value offset) v right rest one stops = alone_ends stop _ v right rest one stops
called_ends names depth count stop at (tree.Bracketed y offset) v right rest one stops = alone_ends stop _ v right rest one stops
called_ends names depth count stop at (tree.Index y i offset) v right rest one stops = alone_ends stop _ v right rest one stops
called_ends names depth count stop at (tree.Member y a n offset) v right rest one stops = alone_ends stop _ v right rest one stops
called_ends names depth count stop at (tree.Unary o y offset) v right rest one stops = alone_ends stop _ v right rest one stops
called_ends names depth count stop at (tree.Sizeof y offset) v right rest one stops = alone_ends stop _ v right rest one stops
called_ends names depth count stop at (tree.SizeofType t offset) v right rest one stops = alone_ends stop _ v right rest one stops
called_ends names depth count stop at (tree.Cast t y offset) v right rest one stops = alone_ends stop _ v right rest one stops
called_ends names depth count stop at (tree.Binary o y z offset) v right rest one stops = alone_ends stop _ v right rest one stops
called_ends names depth count stop at (tree.Conditional y z w offset) v right rest one stops = alone_ends stop _ v right rest one stops

-- there is a value everywhere
pub zero_value : (names : List (List ℕ)) (depth count : ℕ) → grammar.Value names depth count (unit.Computed zero_tree) zero_text
zero_value names depth count = grammar.computed depth count zero_tree zero_text (zero_conditional names depth count)

roled-alone : (stop : tree.Expression → Placed → Bool) (x : tree.Expression) → is_name x ≡ false → Firm (stop x) (Empty (unit.Computed x)) (stop_called stop) (read_nothing (unit.Computed x))
roled-alone stop x e = roled-stop (stop_called stop) (λ v text one t. alone_same stop x v text t e one) (firm-nothing (stop x) (unit.Computed x))

pub roled-called : (names : List (List ℕ)) (inner : Parsers) → AllFirm names inner → (stop : tree.Expression → Placed → Bool) (depth count : ℕ) (x : tree.Expression) → Firm (stop x) (CalledText names depth count x) (stop_called stop) (read_called inner depth count x)
roled-called names inner all stop depth count (tree.Named n) =
    roled-choose (is_mark punctuator.LeftParenthesis)
    record {
      first_begins = λ v text m. let b = m.derives in (brackets (suc depth) (suc count) (mark punctuator.LeftParenthesis b.first), b.right, b.cut ∙ ap (λ l. l ++ b.right) (one-mark punctuator.LeftParenthesis (brackets (suc depth) (suc count)) b.first b.left b.is_first), mark-passes punctuator.LeftParenthesis (mark punctuator.LeftParenthesis b.first) b.first (mark-self punctuator.LeftParenthesis b.first));
      second_begins = λ v text rest one stops. named_second stop n v text rest one stops;
    }
    (λ t e. map_begins (λ call. unit.Called call) t (after_begins (mark_offset punctuator.LeftParenthesis) (brackets (suc depth) (suc count)) (λ t. refl) t t.offset (mark-some punctuator.LeftParenthesis t e) (some_call names depth count n)))
    (map_silent (λ call. unit.Called call) (after_silent (mark_offset punctuator.LeftParenthesis) (brackets (suc depth) (suc count)) (λ t. refl)))
    (firm-map (λ call. unit.Called call) (stop_called stop) (λ call. refl) (roled-enter (both (stop (tree.Named n)) (λ t. is_mark punctuator.LeftParenthesis t.token)) (roled-call names inner all depth count n)))
    (roled-stop (stop_called stop) (λ v text one t. named_same stop n v text t one) (firm-nothing (both (stop (tree.Named n)) (λ t. not (is_mark punctuator.LeftParenthesis t.token))) (unit.Computed (tree.Named n))))
roled-called names inner all stop depth count (tree.Number value type offset) = roled-alone stop _ refl
roled-called names inner all stop depth count (tree.Character value offset) = roled-alone stop _ refl
roled-called names inner all stop depth count (tree.Bracketed y offset) = roled-alone stop _ refl
roled-called names inner all stop depth count (tree.Index y i offset) = roled-alone stop _ refl
roled-called names inner all stop depth count (tree.Member y a n offset) = roled-alone stop _ refl
roled-called names inner all stop depth count (tree.Unary o y offset) = roled-alone stop _ refl
roled-called names inner all stop depth count (tree.Sizeof y offset) = roled-alone stop _ refl
roled-called names inner all stop depth count (tree.SizeofType t offset) = roled-alone stop _ refl
roled-called names inner all stop depth count (tree.Cast t y offset) = roled-alone stop _ refl
roled-called names inner all stop depth count (tree.Binary o y z offset) = roled-alone stop _ refl
roled-called names inner all stop depth count (tree.Conditional y z w offset) = roled-alone stop _ refl

pub roled-value : (names : List (List ℕ)) (inner : Parsers) → AllFirm names inner → (depth count : ℕ) → Firm anything (grammar.Value names depth count) stop_value (read_value inner depth count)
roled-value names inner all depth count =
    roled-same anything (grammar.Value names depth count) (read_value inner depth count) (λ t h. h)
    (λ v text b. subst (λ l. grammar.Value names depth count v l) (sym b.cut) (called_value names depth count b.first v b.left b.right b.is_first b.is_second))
    (λ v text h. let s = value_split names depth count v text h in record { first = s.head; left = s.left; right = s.right; is_first = s.is_head; is_second = s.following; cut = s.cut })
    (λ tokens. refl)
    (roled-following (all.conditional depth count) (λ x left h within. roled-called names inner all stop_conditional depth count x)
    record {
      ends = λ x v left right rest one two stops. called_ends names depth count stop_conditional (λ n offset. refl) x v right rest two stops;
      goes_on = λ x left one. (unit.Computed x, [], called_alone names depth count x);
    })
