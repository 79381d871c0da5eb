-- Calls keep roles after their name.
use Rattle.std.proofs.Common.{ℕ, List, ◌+◌, refl, ◌≡◌, [], ◌∷◌, ◌++◌, sym, subst, append-nil, ap, ◌∙◌, append_assoc, suc, false, inl, inr, not}
use Rattle.c_token_spec.specs.declared.token.Punctuator.TheVariants as punctuator
use Rattle.c_token_spec.specs.Lexical.{Placed}
use Rattle.c_syntax_spec.specs.Expression as tree
use Rattle.c_syntax_spec.specs.Unit as unit
use Rattle.c_parse_spec.specs.declared.Role.TheVariants.{OperandEnd, Nothing}
use Rattle.c_parse_spec.specs.Leaves.{Leaf, expected, mark, plain, brackets, named, marks}
use Rattle.c_parse_spec.specs.Expressions.{operators, Conditional, is_typedef_name}
use Rattle.c_parse_spec.specs.Statements as grammar
use Rattle.exact_read.specs.Reading.{plains, Stops}
use Rattle.exact_read.specs.Grammar.{some, Then, One, first, none, Map, Or, second, anything}
use Rattle.c_parse_laws.specs.Classes.{mark_offset, is_mark}
use Rattle.c_parse_laws.specs.Stops.{stop_conditional}
use Rattle.c_parse_laws.specs.Parsers.{Parsers}
use Rattle.c_parse_laws.specs.Types.{expressions_of}
use Rattle.c_parse_laws.proofs.Marks.{one-mark, Following, mark-one, mark-self, mark-passes, mark-some, roled-mark, roled-opened, roled-choice, map_begins, map_silent, one_first}
use Rattle.c_parse_laws.proofs.Samples.{zero_tree, zero_text, zero_conditional}
use Rattle.c_parse_laws.specs.TypeExactness.{AllFirm}
use Rattle.c_parse_laws.proofs.Firsts.{conditional_first, first_not_mark}
use Rattle.c_parse_laws.specs.Values.{read_arguments, read_call}
use Rattle.c_parse_laws.proofs.Lists.{EndText, Lists, MoreText, next_before, end_stops, end_some, roled-end}
use Rattle.exact_read.proofs.RoleBasics.{roled-same}
use Rattle.exact_read.proofs.RoleThen.{roled-then}
use Rattle.c_parse_laws.specs.Firm.{Firm}
use Rattle.c_parse_laws.proofs.Firm.{firm-map}

-- the arguments after a first, and the `)`
abbrev put_argument : ℕ → tree.Expression → Placed → Leaf
put_argument count x = expected OperandEnd

abbrev put_close : ℕ × tree.Expression → List tree.Expression → Placed → Leaf
put_close d xs = expected OperandEnd

abbrev step_count : ℕ → tree.Expression → ℕ
step_count count x = count + operators x

abbrev ArgumentsEnd : (names : List (List ℕ)) → (depth : ℕ) → ℕ × tree.Expression → List tree.Expression × ℕ → List Leaf → Type 0
ArgumentsEnd names depth = EndText step_count put_argument (Conditional names depth) punctuator.RightParenthesis put_close

argument_lists : (names : List (List ℕ)) (depth : ℕ) → Lists (Conditional names depth) stop_conditional punctuator.RightParenthesis
argument_lists names depth = record { at_comma = λ x offset. refl; at_close = λ x offset. refl; apart = refl; some = λ count. (zero_tree, zero_text, zero_conditional names depth count) }

-- arguments with their `)`
pub record ArgumentsText (names : List (List ℕ)) (depth count : ℕ) (arguments : tree.Expressions) (text : List Leaf) : Type 0 where
  pub inside : List Leaf
  pub close : ℕ
  pub derives : grammar.Arguments names depth count arguments inside
  pub cut : text ≡ inside ++ expected OperandEnd (mark punctuator.RightParenthesis close) ∷ []

abbrev MadeArguments : Type 0
MadeArguments = tree.Expression × (List tree.Expression × ℕ)

abbrev made_arguments : MadeArguments → tree.Expressions
made_arguments made = tree.expressions made.0 (expressions_of made.1.0)

abbrev ReadArguments : (names : List (List ℕ)) → (depth count : ℕ) → MadeArguments → List Leaf → Type 0
ReadArguments names depth count = Then (Conditional names depth count) (λ x. ArgumentsEnd names depth (count + operators x, x))

-- as the grammar has them
abbrev After_first : (names : List (List ℕ)) → (depth : ℕ) → ℕ × tree.Expression → List tree.Expression → List Leaf → Type 0
After_first names depth d xs text = (count : ℕ) (x : tree.Expression) (left : List Leaf) → d.0 ≡ count + operators x → Conditional names depth count x left → grammar.Arguments names depth count (tree.expressions x (expressions_of xs)) (left ++ text)

more_none : (names : List (List ℕ)) (depth : ℕ) (d : ℕ × tree.Expression) → After_first names depth d [] []
more_none names depth d count x left e h = subst (λ l. grammar.Arguments names depth count (tree.expressions x tree.no_expressions) l) (sym (append-nil left)) (grammar.last depth count x left h)

more_some : (names : List (List ℕ)) (depth : ℕ) (d : ℕ × tree.Expression) (y : tree.Expression) (ys : List tree.Expression) (one two : List Leaf) → Following (One (put_argument d.0 d.1) (mark_offset punctuator.Comma)) (λ _. Conditional names depth d.0) y one → After_first names depth (d.0 + operators y, y) ys two → After_first names depth d (y ∷ ys) (one ++ two)
more_some names depth d y ys one two b again count x left e h =
    let cut : one ++ two ≡ expected OperandEnd (mark punctuator.Comma b.first) ∷ (b.right ++ two) = ap (λ l. l ++ two) (b.cut ∙ ap (λ l. l ++ b.right) (one-mark punctuator.Comma (expected OperandEnd) b.first b.left b.is_first)) in
    subst (λ l. grammar.Arguments names depth count (tree.expressions x (tree.expressions y (expressions_of ys))) (left ++ l)) (sym cut)
    (grammar.more depth count x (tree.expressions y (expressions_of ys)) left (b.right ++ two) b.first h
    (subst (λ c. grammar.Arguments names depth c (tree.expressions y (expressions_of ys)) (b.right ++ two)) e (again d.0 y b.right refl b.is_second)))

more_arguments : (names : List (List ℕ)) (depth : ℕ) (d : ℕ × tree.Expression) (xs : List tree.Expression) (text : List Leaf) → MoreText step_count put_argument (Conditional names depth) d xs text → After_first names depth d xs text
more_arguments names depth d xs text (none k) = more_none names depth k
more_arguments names depth d xs text (some k y ys one two b rest) = more_some names depth k y ys one two b (more_arguments names depth (next_before step_count k y) ys two rest)

record SplitArguments (names : List (List ℕ)) (depth count : ℕ) (arguments : tree.Expressions) (text : List Leaf) : Type 0 where
  head : tree.Expression
  rest : List tree.Expression
  left : List Leaf
  right : List Leaf
  is : arguments ≡ tree.expressions head (expressions_of rest)
  is_head : Conditional names depth count head left
  are_rest : MoreText step_count put_argument (Conditional names depth) (count + operators head, head) rest right
  cut : text ≡ left ++ right

split_arguments : (names : List (List ℕ)) (depth count : ℕ) (arguments : tree.Expressions) (text : List Leaf) → grammar.Arguments names depth count arguments text → SplitArguments names depth count arguments text
split_arguments names depth count arguments text (grammar.last d c x t h) = record { head = x; rest = []; left = t; right = []; is = refl; is_head = h; are_rest = none (c + operators x, x); cut = sym (append-nil t) }
split_arguments names depth count arguments text (grammar.more d c x others left right comma h k) =
    let r = split_arguments names d (c + operators x) others right k in
    record {
      head = x;
      rest = r.head ∷ r.rest;
      left = left;
      right = (expected OperandEnd (mark punctuator.Comma comma) ∷ r.left) ++ r.right;
      is = ap (tree.expressions x) r.is;
      is_head = h;
      are_rest = some (c + operators x, x) r.head r.rest (expected OperandEnd (mark punctuator.Comma comma) ∷ r.left) r.right
          (record { first = comma; left = expected OperandEnd (mark punctuator.Comma comma) ∷ []; right = r.left; is_first = mark-one punctuator.Comma (expected OperandEnd) comma; is_second = r.is_head; cut = refl })
          r.are_rest;
      cut = ap (λ l. left ++ expected OperandEnd (mark punctuator.Comma comma) ∷ l) r.cut;
    }

text_arguments : (names : List (List ℕ)) (depth count : ℕ) (arguments : tree.Expressions) (text : List Leaf) → Map made_arguments (ReadArguments names depth count) arguments text → ArgumentsText names depth count arguments text
text_arguments names depth count arguments text m =
    let t = m.derives in
    let u = t.second in
    let x = m.inner.0 in
    let xs = m.inner.1.0 in
    record {
      inside = t.left ++ u.left;
      close = m.inner.1.1;
      derives = subst (λ (a : tree.Expressions). grammar.Arguments names depth count a (t.left ++ u.left)) (sym m.is) (more_arguments names depth (count + operators x, x) xs u.left u.first count x t.left refl t.first);
      cut = t.cut ∙ ap (λ l. t.left ++ l) (u.cut ∙ ap (λ l. u.left ++ l) (one-mark punctuator.RightParenthesis (expected OperandEnd) m.inner.1.1 u.right u.second)) ∙ sym (append_assoc t.left u.left (expected OperandEnd (mark punctuator.RightParenthesis m.inner.1.1) ∷ []));
    }

arguments_text : (names : List (List ℕ)) (depth count : ℕ) (arguments : tree.Expressions) (text : List Leaf) → ArgumentsText names depth count arguments text → Map made_arguments (ReadArguments names depth count) arguments text
arguments_text names depth count arguments text a =
    let s = split_arguments names depth count arguments a.inside a.derives in
    let end = expected OperandEnd (mark punctuator.RightParenthesis a.close) ∷ [] in
    record {
      inner = (s.head, (s.rest, a.close));
      is = s.is;
      derives = record {
        left = s.left;
        right = s.right ++ end;
        cut = a.cut ∙ ap (λ l. l ++ end) s.cut ∙ append_assoc s.left s.right end;
        first = s.is_head;
        second = record { left = s.right; right = end; cut = refl; first = s.are_rest; second = mark-one punctuator.RightParenthesis (expected OperandEnd) a.close };
      };
    }

abbrev EmptyText : (callee : tree.Name) → unit.Call → List Leaf → Type 0
EmptyText callee = Map (λ (_ : ℕ). record { callee = callee; arguments = tree.no_expressions }) (One plain (mark_offset punctuator.RightParenthesis))

abbrev FilledText : (names : List (List ℕ)) → (depth count : ℕ) → (callee : tree.Name) → unit.Call → List Leaf → Type 0
FilledText names depth count callee = Map (λ arguments. record { callee = callee; arguments = arguments }) (ArgumentsText names depth count)

abbrev pub CallText : (names : List (List ℕ)) → (depth count : ℕ) → (callee : tree.Name) → unit.Call → List Leaf → Type 0
CallText names depth count callee = Following (One (brackets (suc depth) (suc count)) (mark_offset punctuator.LeftParenthesis)) (λ _. Or (EmptyText callee) (FilledText names (suc depth) (suc count) callee))

pub text_call : (names : List (List ℕ)) (depth count : ℕ) (n : tree.Name) (call : unit.Call) (text : List Leaf) → is_typedef_name names n.spelling ≡ false → CallText names depth count n call text → grammar.Call names depth count call (plain (named n) ∷ text)
text_call names depth count n call text e b =
    subst (λ l. grammar.Call names depth count call (plain (named n) ∷ l)) (sym (b.cut ∙ ap (λ l. l ++ b.right) (one-mark punctuator.LeftParenthesis (brackets (suc depth) (suc count)) b.first b.left b.is_first))) (by_way b.right b.is_second)
  where
    by_way : (right : List Leaf) → Or (EmptyText n) (FilledText names (suc depth) (suc count) n) call right → grammar.Call names depth count call (plain (named n) ∷ brackets (suc depth) (suc count) (mark punctuator.LeftParenthesis b.first) ∷ right)
    by_way right (first m) = rw (m.is, one-mark punctuator.RightParenthesis plain m.inner right m.derives) (grammar.empty depth count n b.first m.inner e)
    by_way right (second m) = let a = m.derives in rw (m.is, a.cut) (grammar.call depth count n m.inner a.inside b.first a.close e a.derives)

-- and the call as its name and what follows
pub record CallSplit (names : List (List ℕ)) (depth count : ℕ) (call : unit.Call) (text : List Leaf) : Type 0 where
  pub callee : tree.Name
  pub right : List Leaf
  pub fresh : is_typedef_name names callee.spelling ≡ false
  pub derives : CallText names depth count callee call right
  pub cut : text ≡ plain (named callee) ∷ right

pub call_text : (names : List (List ℕ)) (depth count : ℕ) (call : unit.Call) (text : List Leaf) → grammar.Call names depth count call text → CallSplit names depth count call text
call_text names depth count call text (grammar.empty d c n offset close e) =
    record {
      callee = n;
      right = brackets (suc d) (suc c) (mark punctuator.LeftParenthesis offset) ∷ plain (mark punctuator.RightParenthesis close) ∷ [];
      fresh = e;
      derives = record { first = offset; left = brackets (suc d) (suc c) (mark punctuator.LeftParenthesis offset) ∷ []; right = plain (mark punctuator.RightParenthesis close) ∷ []; is_first = mark-one punctuator.LeftParenthesis (brackets (suc d) (suc c)) offset; is_second = first (record { inner = close; is = refl; derives = mark-one punctuator.RightParenthesis plain close }); cut = refl };
      cut = refl;
    }
call_text names depth count call text (grammar.call d c n arguments inside offset close e h) =
    record {
      callee = n;
      right = brackets (suc d) (suc c) (mark punctuator.LeftParenthesis offset) ∷ inside ++ expected OperandEnd (mark punctuator.RightParenthesis close) ∷ [];
      fresh = e;
      derives = record { first = offset; left = brackets (suc d) (suc c) (mark punctuator.LeftParenthesis offset) ∷ []; right = inside ++ expected OperandEnd (mark punctuator.RightParenthesis close) ∷ []; is_first = mark-one punctuator.LeftParenthesis (brackets (suc d) (suc c)) offset; is_second = second (record { inner = arguments; is = refl; derives = record { inside = inside; close = close; derives = h; cut = refl } }); cut = refl };
      cut = refl;
    }

pub roled-arguments : (names : List (List ℕ)) (inner : Parsers) → AllFirm names inner → (depth count : ℕ) → Firm anything (ArgumentsText names depth count) (λ _. anything) (read_arguments inner depth count)
roled-arguments names inner all depth count =
    roled-same anything (ArgumentsText names depth count) (read_arguments inner depth count) (λ t h. h) (text_arguments names depth count) (arguments_text names depth count) (λ tokens. refl)
    (firm-map made_arguments (λ _. anything) (λ x. refl)
    (roled-then (all.conditional depth count)
    (λ x. roled-end (argument_lists names depth) step_count (λ c _. c) (λ _. OperandEnd) (λ _. expected OperandEnd) (λ c. inner.conditional depth c) step_count (λ c t. refl) (λ c t. refl) (λ e y x. refl) (λ e y. all.conditional depth e) (λ d xs. OperandEnd) put_close (λ d xs t. refl) (λ d xs t. refl) (λ e y. inl refl) (λ d xs. inr refl) (count + operators x, x))
    record {
      ends = λ x pair left right rest one two stops. end_stops (argument_lists names depth) step_count put_argument (λ e x t. refl) put_close (λ d xs t. refl) (count + operators x, x) pair right rest two;
      goes_on = λ x left one. end_some step_count put_argument (Conditional names depth) punctuator.RightParenthesis put_close (count + operators x, x);
    }))

pub some_call : (names : List (List ℕ)) (depth count : ℕ) (callee : tree.Name) → (x : unit.Call) × (right : List Leaf) × Or (EmptyText callee) (FilledText names (suc depth) (suc count) callee) x right
some_call names depth count callee = (record { callee = callee; arguments = tree.no_expressions }, plain (mark punctuator.RightParenthesis 0) ∷ [], first (record { inner = 0; is = refl; derives = mark-one punctuator.RightParenthesis plain 0 }))

pub roled-call : (names : List (List ℕ)) (inner : Parsers) → AllFirm names inner → (depth count : ℕ) (callee : tree.Name) → Firm anything (CallText names depth count callee) (λ _. anything) (read_call inner depth count callee)
roled-call names inner all depth count callee =
    roled-opened (mark_offset punctuator.LeftParenthesis) Nothing (brackets (suc depth) (suc count)) (λ t. refl) (λ t. refl) (mark punctuator.LeftParenthesis 0) 0 (mark-self punctuator.LeftParenthesis 0)
    (λ offset. some_call names depth count callee)
    (λ offset t is within. roled-choice (is_mark punctuator.RightParenthesis)
    record {
      first_begins = λ x text m. (plain (mark punctuator.RightParenthesis m.inner), [], one-mark punctuator.RightParenthesis plain m.inner text m.derives, mark-passes punctuator.RightParenthesis (mark punctuator.RightParenthesis m.inner) m.inner (mark-self punctuator.RightParenthesis m.inner));
      second_begins = λ x text rest m stops. filled_first m.inner text rest m.derives;
    }
    (λ t e. map_begins (λ (_ : ℕ). record { callee = callee; arguments = tree.no_expressions }) t (record { value = t.offset; first = plain t; more = []; derives = record { token = t; is = mark-some punctuator.RightParenthesis t e; cut = refl }; is = refl }))
    (map_silent (λ (_ : ℕ). record { callee = callee; arguments = tree.no_expressions }) (λ x u more o. ap (λ (l : Leaf). l.role) (one_first x u more o)))
    (firm-map (λ (_ : ℕ). record { callee = callee; arguments = tree.no_expressions }) (λ _. anything) (λ x. refl) (roled-mark anything punctuator.RightParenthesis Nothing plain (λ t. refl) (λ t. refl)))
    (firm-map (λ arguments. record { callee = callee; arguments = arguments }) (λ _. anything) (λ x. refl) (roled-arguments names inner all (suc depth) (suc count))))
  where
    filled_first : (arguments : tree.Expressions) (text : List Leaf) (rest : List Placed) → ArgumentsText names (suc depth) (suc count) arguments text → Stops (λ t. not (is_mark punctuator.RightParenthesis t.token)) (plains marks text ++ rest)
    filled_first arguments text rest a =
        let s = split_arguments names (suc depth) (suc count) arguments a.inside a.derives in
        let f = conditional_first names (suc depth) (suc count) s.head s.left s.is_head in
        first_not_mark names punctuator.RightParenthesis refl text rest
        (record { leaf = f.leaf; more = (f.more ++ s.right) ++ expected OperandEnd (mark punctuator.RightParenthesis a.close) ∷ []; cut = a.cut ∙ ap (λ l. l ++ expected OperandEnd (mark punctuator.RightParenthesis a.close) ∷ []) (s.cut ∙ ap (λ l. l ++ s.right) f.cut); yes = f.yes })
