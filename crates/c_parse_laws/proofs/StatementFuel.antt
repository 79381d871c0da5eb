-- Every statement keeps roles, with fuel for all constructs that may still open.
use Rattle.std.proofs.Common.{List, ℕ, ◌≡◌, ◌≤◌, ◌∷◌, true, refl, sym, subst, ap, ◌∙◌, [], ◌+◌, arith, ◌++◌, suc, Bool, false, IsTrue, not, append-nil, Some, None, zero}
use Rattle.c_token_spec.specs.declared.token.Keyword.{Keyword}
use Rattle.c_token_spec.specs.declared.token.Keyword.TheVariants.{Continue, Break, Do, For, If, Return, Switch, While, Else}
use Rattle.c_token_spec.specs.declared.token.Punctuator.{Punctuator}
use Rattle.c_token_spec.specs.declared.token.Punctuator.TheVariants as punctuator
use Rattle.c_token_spec.specs.Lexical.{Token, Name as name_token, Word, Number as number_token, Character as character_token, Mark, Placed}
use Rattle.c_syntax_spec.specs.Expression as tree
use Rattle.c_syntax_spec.specs.Unit as unit
use Rattle.c_parse_spec.specs.declared.Role.TheVariants.{Nothing}
use Rattle.c_parse_spec.specs.Leaves.{Leaf, plain, keyword_at, expected, mark, opens, marks, roles}
use Rattle.c_parse_spec.specs.Statements as grammar
use Rattle.c_parse_spec.specs.Limits.{nesting_limit, statement_fuel}
use Rattle.exact_read.specs.Reading.{plains, Stops}
use Rattle.exact_read.specs.Grammar.{One, Map, Nothing as Empty, Or, first, second, nothing, anything}
use Rattle.c_parse_laws.specs.Classes.{mark_offset, is_mark}
use Rattle.c_parse_laws.specs.Parsers.{Parsers}
use Rattle.c_parse_laws.proofs.Marks.{one-mark, mark-is, mark-one, map_begins, mark-some, roled-mark, roled-choice, after_begins, after_silent, map_silent}
use Rattle.c_parse_laws.specs.TypeExactness.{AllFirm}
use Rattle.c_parse_laws.specs.Statements.{is_keyword, keyword_offset, Statements, read_statement_around, read_statement}
use Rattle.c_parse_laws.specs.StatementEnds.{stop_statement}
use Rattle.c_parse_laws.proofs.Keywords.{one-keyword, keyword-known, keyword-one, keyword-some}
use Rattle.c_parse_laws.proofs.Simpler.{JumpText, PerformText, ReturnText, jump_is, Ended, is_jump, roled-jump, roled-return, roled-perform, some_return, mark_begins, mark_silent}
use Rattle.c_parse_laws.proofs.Compounds.{DoText, WhileText, IfText, BlockText, AfterIf, Deeper, roled-block, roled-while, roled-do, roled-if, some_block, some_while, some_do, some_if}
use Rattle.c_parse_laws.proofs.Loops.{ForText, SwitchText, begins_simple, begun_longer, simple_begins, roled-for, roled-switch, some_for, some_switch}
use Rattle.exact_read.proofs.RoleBasics.{roled-same}
use Rattle.exact_read.proofs.RoleBegins.{Begins, Silent}
use Rattle.c_parse_laws.specs.Firm.{Firm}
use Rattle.c_parse_laws.proofs.Firm.{firm-map}

-- the kinds of statements, in the order in which they are looked for
abbrev EmptyText : unit.Statement → List Leaf → Type 0
EmptyText = Map (λ offset. unit.Empty offset) (One plain (mark_offset punctuator.Semicolon))

abbrev ContinueText : unit.Statement → List Leaf → Type 0
ContinueText = JumpText Continue (λ offset. unit.Continue offset)

abbrev BreakText : unit.Statement → List Leaf → Type 0
BreakText = JumpText Break (λ offset. unit.Break offset)

abbrev After9 : (names : List (List ℕ)) → (depth : ℕ) → unit.Statement → List Leaf → Type 0
After9 names depth = PerformText names depth

abbrev After8 : (names : List (List ℕ)) → (depth : ℕ) → unit.Statement → List Leaf → Type 0
After8 names depth = Or (ReturnText names depth) (After9 names depth)

abbrev After7 : (names : List (List ℕ)) → (depth : ℕ) → unit.Statement → List Leaf → Type 0
After7 names depth = Or BreakText (After8 names depth)

abbrev After6 : (names : List (List ℕ)) → (depth : ℕ) → unit.Statement → List Leaf → Type 0
After6 names depth = Or ContinueText (After7 names depth)

abbrev After5 : (names : List (List ℕ)) → (depth : ℕ) → unit.Statement → List Leaf → Type 0
After5 names depth = Or (ForText names depth) (After6 names depth)

abbrev After4 : (names : List (List ℕ)) → (depth : ℕ) → unit.Statement → List Leaf → Type 0
After4 names depth = Or (DoText names depth) (After5 names depth)

abbrev After3 : (names : List (List ℕ)) → (depth : ℕ) → unit.Statement → List Leaf → Type 0
After3 names depth = Or (WhileText names depth) (After4 names depth)

abbrev After2 : (names : List (List ℕ)) → (depth : ℕ) → unit.Statement → List Leaf → Type 0
After2 names depth = Or (SwitchText names depth) (After3 names depth)

abbrev After1 : (names : List (List ℕ)) → (depth : ℕ) → unit.Statement → List Leaf → Type 0
After1 names depth = Or (IfText names depth) (After2 names depth)

abbrev After0 : (names : List (List ℕ)) → (depth : ℕ) → unit.Statement → List Leaf → Type 0
After0 names depth = Or EmptyText (After1 names depth)

abbrev StatementText : (names : List (List ℕ)) → (depth : ℕ) → unit.Statement → List Leaf → Type 0
StatementText names depth = Or (BlockText names depth) (After0 names depth)

-- at which alternative the kind of statement that a token begins is looked for
mark_rank : Punctuator → ℕ
mark_rank punctuator.LeftBrace = 0
mark_rank punctuator.Semicolon = 1
mark_rank other = 10

word_rank : Keyword → ℕ
word_rank If = 2
word_rank Switch = 3
word_rank While = 4
word_rank Do = 5
word_rank For = 6
word_rank Continue = 7
word_rank Break = 8
word_rank Return = 9
word_rank other = 10

rank : Token → ℕ
unfolding mark_rank word_rank
rank (Mark p) = mark_rank p
rank (Word w) = word_rank w
rank (name_token spelling) = 10
rank (number_token value type) = 10
rank (character_token value) = 10

-- a text that begins with a token looked for there or later
record Ranked (n : ℕ) (text : List Leaf) : Type 0 where
  leaf : Leaf
  more : List Leaf
  cut : text ≡ leaf ∷ more
  least : n ≤ rank leaf.token.token

simple_rank : (names : List (List ℕ)) (k : Token) → begins_simple names k ≡ true → rank k ≡ 10
unfolding rank mark_rank word_rank
simple_rank names (Mark punctuator.LeftBrace) e = absurd (cc)
simple_rank names (Mark punctuator.Semicolon) e = absurd (cc)
simple_rank names (Mark other) e = refl
simple_rank names (Word If) e = absurd (cc)
simple_rank names (Word Switch) e = absurd (cc)
simple_rank names (Word While) e = absurd (cc)
simple_rank names (Word Do) e = absurd (cc)
simple_rank names (Word For) e = absurd (cc)
simple_rank names (Word Continue) e = absurd (cc)
simple_rank names (Word Break) e = absurd (cc)
simple_rank names (Word Return) e = absurd (cc)
simple_rank names (Word other) e = refl
simple_rank names (name_token spelling) e = refl
simple_rank names (number_token value type) e = refl
simple_rank names (character_token value) e = refl

ranked_by : (n m : ℕ) (text : List Leaf) (leaf : Leaf) (more : List Leaf) → text ≡ leaf ∷ more → rank leaf.token.token ≡ m → n ≤ m → Ranked n text
ranked_by n m text leaf more cut is least = record { leaf = leaf; more = more; cut = cut; least = subst (λ k. n ≤ k) (sym is) least }

word_ranked : (w : Keyword) → rank (Word w) ≡ word_rank w
unfolding rank
word_ranked w = refl

ranks : (word_rank If ≡ 2) × (word_rank Switch ≡ 3) × (word_rank While ≡ 4) × (word_rank Do ≡ 5) × (word_rank For ≡ 6) × (word_rank Continue ≡ 7) × (word_rank Break ≡ 8) × (word_rank Return ≡ 9) × (rank (Mark punctuator.Semicolon) ≡ 1) × (rank (Mark punctuator.LeftBrace) ≡ 0)
unfolding word_rank rank mark_rank
ranks = (refl, refl, refl, refl, refl, refl, refl, refl, refl, refl)

ranked_word : (n m : ℕ) (w : Keyword) (as_leaf : Placed → Leaf) (text : List Leaf) (p : ℕ) (more : List Leaf) → text ≡ as_leaf (keyword_at w p) ∷ more → (as_leaf (keyword_at w p)).token ≡ keyword_at w p → word_rank w ≡ m → n ≤ m → Ranked n text
ranked_word n m w as_leaf text p more cut keeps is least = ranked_by n m text (as_leaf (keyword_at w p)) more cut (ap (λ (t : Placed). rank t.token) keeps ∙ word_ranked w ∙ is) least

rest9 : (names : List (List ℕ)) (depth n : ℕ) (s : unit.Statement) (text : List Leaf) → n ≤ 10 → After9 names depth s text → Ranked n text
rest9 names depth n s text h m =
    let e = m.derives in
    let f = begun_longer names e.inside (expected (grammar.statement_end m.inner) (mark punctuator.Semicolon e.offset) ∷ []) (simple_begins names depth m.inner e.inside e.derives) in
    ranked_by n 10 text f.leaf f.more (e.cut ∙ f.cut) (simple_rank names f.leaf.token.token f.yes) h

rest8 : (names : List (List ℕ)) (depth n : ℕ) (s : unit.Statement) (text : List Leaf) → n ≤ 9 → After8 names depth s text → Ranked n text
rest8 names depth n s text h (first b) = ranked_word n 9 Return plain text b.first b.right (b.cut ∙ ap (λ l. l ++ b.right) (one-keyword Return plain b.first b.left b.is_first)) refl ranks.7 h
rest8 names depth n s text h (second o) = rest9 names depth n s text (omega arith) o

rest7 : (names : List (List ℕ)) (depth n : ℕ) (s : unit.Statement) (text : List Leaf) → n ≤ 8 → After7 names depth s text → Ranked n text
rest7 names depth n s text h (first m) = let j = jump_is Break (λ offset. unit.Break offset) s text m in ranked_word n 8 Break plain text j.0 _ j.3 refl ranks.6 h
rest7 names depth n s text h (second o) = rest8 names depth n s text (omega arith) o

rest6 : (names : List (List ℕ)) (depth n : ℕ) (s : unit.Statement) (text : List Leaf) → n ≤ 7 → After6 names depth s text → Ranked n text
rest6 names depth n s text h (first m) = let j = jump_is Continue (λ offset. unit.Continue offset) s text m in ranked_word n 7 Continue plain text j.0 _ j.3 refl ranks.5 h
rest6 names depth n s text h (second o) = rest7 names depth n s text (omega arith) o

rest5 : (names : List (List ℕ)) (depth n : ℕ) (s : unit.Statement) (text : List Leaf) → n ≤ 6 → After5 names depth s text → Ranked n text
rest5 names depth n s text h (first b) = ranked_word n 6 For (opens (suc depth)) text b.first b.right (b.cut ∙ ap (λ l. l ++ b.right) (one-keyword For (opens (suc depth)) b.first b.left b.is_first)) refl ranks.4 h
rest5 names depth n s text h (second o) = rest6 names depth n s text (omega arith) o

rest4 : (names : List (List ℕ)) (depth n : ℕ) (s : unit.Statement) (text : List Leaf) → n ≤ 5 → After4 names depth s text → Ranked n text
rest4 names depth n s text h (first b) = ranked_word n 5 Do (opens (suc depth)) text b.first b.right (b.cut ∙ ap (λ l. l ++ b.right) (one-keyword Do (opens (suc depth)) b.first b.left b.is_first)) refl ranks.3 h
rest4 names depth n s text h (second o) = rest5 names depth n s text (omega arith) o

rest3 : (names : List (List ℕ)) (depth n : ℕ) (s : unit.Statement) (text : List Leaf) → n ≤ 4 → After3 names depth s text → Ranked n text
rest3 names depth n s text h (first b) = ranked_word n 4 While (opens (suc depth)) text b.first b.right (b.cut ∙ ap (λ l. l ++ b.right) (one-keyword While (opens (suc depth)) b.first b.left b.is_first)) refl ranks.2 h
rest3 names depth n s text h (second o) = rest4 names depth n s text (omega arith) o

rest2 : (names : List (List ℕ)) (depth n : ℕ) (s : unit.Statement) (text : List Leaf) → n ≤ 3 → After2 names depth s text → Ranked n text
rest2 names depth n s text h (first b) = ranked_word n 3 Switch (opens (suc depth)) text b.first b.right (b.cut ∙ ap (λ l. l ++ b.right) (one-keyword Switch (opens (suc depth)) b.first b.left b.is_first)) refl ranks.1 h
rest2 names depth n s text h (second o) = rest3 names depth n s text (omega arith) o

rest1 : (names : List (List ℕ)) (depth n : ℕ) (s : unit.Statement) (text : List Leaf) → n ≤ 2 → After1 names depth s text → Ranked n text
rest1 names depth n s text h (first b) = ranked_word n 2 If (opens (suc depth)) text b.first b.right (b.cut ∙ ap (λ l. l ++ b.right) (one-keyword If (opens (suc depth)) b.first b.left b.is_first)) refl ranks.0 h
rest1 names depth n s text h (second o) = rest2 names depth n s text (omega arith) o

rest0 : (names : List (List ℕ)) (depth n : ℕ) (s : unit.Statement) (text : List Leaf) → n ≤ 1 → After0 names depth s text → Ranked n text
rest0 names depth n s text h (first m) = ranked_by n 1 text (plain (mark punctuator.Semicolon m.inner)) [] (one-mark punctuator.Semicolon plain m.inner text m.derives) ranks.8 h
rest0 names depth n s text h (second o) = rest1 names depth n s text (omega arith) o

-- what is looked for later doesn't begin so
later : (test : Token → Bool) (m : ℕ) → ((k : Token) → test k ≡ true → rank k ≡ m) → (text : List Leaf) (rest : List Placed) → Ranked (suc m) text → Stops (λ t. not (test t.token)) (plains marks text ++ rest)
later test m known text rest r = subst (λ l. Stops (λ t. not (test t.token)) (plains marks l ++ rest)) (sym r.cut) (by_test (test r.leaf.token.token) refl)
  where
    by_test : (b : Bool) → test r.leaf.token.token ≡ b → IsTrue (not b)
    by_test true e = absurd (let k = known r.leaf.token.token e in let h = r.least in omega arith)
    by_test false e = refl

keyword_rank : (w : Keyword) (m : ℕ) → word_rank w ≡ m → (k : Token) → is_keyword w k ≡ true → rank k ≡ m
keyword_rank w m is k e = ap rank (keyword-known w k e) ∙ word_ranked w ∙ is

mark_known : (p : Punctuator) (k : Token) → is_mark p k ≡ true → k ≡ Mark p
mark_known p k e = ap (λ (t : Placed). t.token) (mark-is p (record { token = k; offset = 0 }) 0 (rw e refl))

mark_ranked : (p : Punctuator) (m : ℕ) → rank (Mark p) ≡ m → (k : Token) → is_mark p k ≡ true → rank k ≡ m
mark_ranked p m is k e = ap rank (mark_known p k e) ∙ is

-- as the grammar has them
not_true : (b : Bool) → not b ≡ true → b ≡ false
not_true true e = absurd (cc)
not_true false e = refl

not_false : (b : Bool) → b ≡ false → not b ≡ true
not_false true e = absurd (cc)
not_false false e = refl

text_block : (names : List (List ℕ)) (depth : ℕ) (s : unit.Statement) (text : List Leaf) → BlockText names depth s text → grammar.Statement names depth s text
text_block names depth s text b =
    let m = b.is_second in
    let c = m.derives in
    subst (λ l. grammar.Statement names depth s l) (sym (b.cut ∙ ap (λ l. l ++ b.right) (one-mark punctuator.LeftBrace (opens (suc depth)) b.first b.left b.is_first) ∙ ap (λ l. opens (suc depth) (mark punctuator.LeftBrace b.first) ∷ l) c.cut))
    (rw m.is (grammar.block depth m.inner c.inside b.first c.close c.derives))

if_alone : (names : List (List ℕ)) (depth offset : ℕ) (x : tree.Expression) (body s : unit.Statement) (test inside right : List Leaf) → grammar.Test names (suc depth) x test → grammar.Statement names (suc depth) body inside → Empty (unit.If x body offset) s right → grammar.Statement names depth s (opens (suc depth) (keyword_at If offset) ∷ (test ++ (inside ++ right)))
if_alone names depth offset x body s test inside right h k nothing = subst (λ l. grammar.Statement names depth (unit.If x body offset) (opens (suc depth) (keyword_at If offset) ∷ (test ++ l))) (sym (append-nil inside)) (grammar.if_only depth x body test inside offset h k)

jumped : (names : List (List ℕ)) (depth : ℕ) (s t : unit.Statement) (text more : List Leaf) → s ≡ t → text ≡ more → grammar.Statement names depth t more → grammar.Statement names depth s text
jumped names depth s t text more e f h = rw (e, f) h

text_if : (names : List (List ℕ)) (depth : ℕ) (s : unit.Statement) (text : List Leaf) → IfText names depth s text → grammar.Statement names depth s text
text_if names depth s text b =
    let t = b.is_second in
    let u = t.is_second in
    subst (λ l. grammar.Statement names depth s l) (sym (b.cut ∙ ap (λ l. l ++ b.right) (one-keyword If (opens (suc depth)) b.first b.left b.is_first) ∙ ap (λ l. opens (suc depth) (keyword_at If b.first) ∷ l) (t.cut ∙ ap (λ l. t.left ++ l) u.cut)))
    (by_way b.first t.first u.first t.left u.left u.right t.is_first u.is_first u.is_second)
  where
    by_way : (offset : ℕ) (x : tree.Expression) (body : unit.Statement) (test inside right : List Leaf) → grammar.Test names (suc depth) x test → grammar.Statement names (suc depth) body inside → AfterIf names depth offset x body s right → grammar.Statement names depth s (opens (suc depth) (keyword_at If offset) ∷ (test ++ (inside ++ right)))
    by_way offset x body test inside right h k (first a) =
        let e = a.derives in
        let m = e.is_second in
        subst (λ l. grammar.Statement names depth s (opens (suc depth) (keyword_at If offset) ∷ (test ++ (inside ++ l)))) (sym (e.cut ∙ ap (λ l. l ++ e.right) (one-keyword Else (opens (suc (suc depth))) e.first e.left e.is_first)))
        (rw m.is (grammar.if_else depth x body m.inner test inside e.right offset e.first h k (not_true (grammar.takes_else body) a.so) m.derives))
    by_way offset x body test inside right h k (second o) = if_alone names depth offset x body s test inside right h k o

text_switch : (names : List (List ℕ)) (depth : ℕ) (s : unit.Statement) (text : List Leaf) → SwitchText names depth s text → grammar.Statement names depth s text
text_switch names depth s text b =
    let t = b.is_second in
    let g = t.is_second in
    let m = g.is_second in
    let c = m.derives in
    subst (λ l. grammar.Statement names depth s l) (sym (b.cut ∙ ap (λ l. l ++ b.right) (one-keyword Switch (opens (suc depth)) b.first b.left b.is_first) ∙ ap (λ l. opens (suc depth) (keyword_at Switch b.first) ∷ l) (t.cut ∙ ap (λ l. t.left ++ l) (g.cut ∙ ap (λ l. l ++ g.right) (one-mark punctuator.LeftBrace (opens (suc (suc depth))) g.first g.left g.is_first) ∙ ap (λ l. opens (suc (suc depth)) (mark punctuator.LeftBrace g.first) ∷ l) c.cut))))
    (rw m.is (grammar.switch depth t.first m.inner t.left c.inside b.first g.first c.close t.is_first c.derives))

text_while : (names : List (List ℕ)) (depth : ℕ) (s : unit.Statement) (text : List Leaf) → WhileText names depth s text → grammar.Statement names depth s text
text_while names depth s text b =
    let t = b.is_second in
    let m = t.is_second in
    subst (λ l. grammar.Statement names depth s l) (sym (b.cut ∙ ap (λ l. l ++ b.right) (one-keyword While (opens (suc depth)) b.first b.left b.is_first) ∙ ap (λ l. opens (suc depth) (keyword_at While b.first) ∷ l) t.cut))
    (rw m.is (grammar.while depth t.first m.inner t.left t.right b.first t.is_first m.derives))

text_do : (names : List (List ℕ)) (depth : ℕ) (s : unit.Statement) (text : List Leaf) → DoText names depth s text → grammar.Statement names depth s text
text_do names depth s text b =
    let t = b.is_second in
    let w = t.is_second in
    let m = w.is_second in
    let c = m.derives in
    subst (λ l. grammar.Statement names depth s l) (sym (b.cut ∙ ap (λ l. l ++ b.right) (one-keyword Do (opens (suc depth)) b.first b.left b.is_first) ∙ ap (λ l. opens (suc depth) (keyword_at Do b.first) ∷ l) (t.cut ∙ ap (λ l. t.left ++ l) (w.cut ∙ ap (λ l. l ++ w.right) (one-keyword While plain w.first w.left w.is_first) ∙ ap (λ l. plain (keyword_at While w.first) ∷ l) c.cut))))
    (rw m.is (grammar.do_while depth t.first m.inner t.left c.inside b.first w.first c.close t.is_first c.derives))

text_for : (names : List (List ℕ)) (depth : ℕ) (s : unit.Statement) (text : List Leaf) → ForText names depth s text → grammar.Statement names depth s text
text_for names depth s text b =
    let o = b.is_second in
    let m = o.is_second in
    let t = m.derives in
    let u = t.second in
    let v = u.second in
    subst (λ l. grammar.Statement names depth s l) (sym (b.cut ∙ ap (λ l. l ++ b.right) (one-keyword For (opens (suc depth)) b.first b.left b.is_first) ∙ ap (λ l. opens (suc depth) (keyword_at For b.first) ∷ l) (o.cut ∙ ap (λ l. l ++ o.right) (one-mark punctuator.LeftParenthesis (opens (suc (suc depth))) o.first o.left o.is_first) ∙ ap (λ l. opens (suc (suc depth)) (mark punctuator.LeftParenthesis o.first) ∷ l) (t.cut ∙ ap (λ l. t.left ++ l) (u.cut ∙ ap (λ l. u.left ++ l) v.cut)))))
    (rw m.is (grammar.for depth m.inner.0 m.inner.1.0 m.inner.1.1.0 m.inner.1.1.1 t.left u.left v.left v.right b.first o.first t.first u.first v.first v.second))

text_return : (names : List (List ℕ)) (depth : ℕ) (s : unit.Statement) (text : List Leaf) → ReturnText names depth s text → grammar.Statement names depth s text
text_return names depth s text b = subst (λ l. grammar.Statement names depth s l) (sym (b.cut ∙ ap (λ l. l ++ b.right) (one-keyword Return plain b.first b.left b.is_first))) (by_way b.right b.is_second)
  where
    by_way : (right : List Leaf) → Or (Map (λ (_ : ℕ). unit.Return None b.first) (One plain (mark_offset punctuator.Semicolon))) (Map (λ v. unit.Return (Some v) b.first) (Ended grammar.value_end punctuator.Semicolon (grammar.Value names depth 0))) s right → grammar.Statement names depth s (plain (keyword_at Return b.first) ∷ right)
    by_way right (first m) = rw (m.is, one-mark punctuator.Semicolon plain m.inner right m.derives) (grammar.return depth b.first m.inner)
    by_way right (second m) = let e = m.derives in rw (m.is, e.cut) (grammar.return_value depth m.inner e.inside b.first e.offset e.derives)

text_statement : (names : List (List ℕ)) (depth : ℕ) (s : unit.Statement) (text : List Leaf) → StatementText names depth s text → grammar.Statement names depth s text
text_statement names depth s text (first b) = text_block names depth s text b
text_statement names depth s text (second (first m)) = rw (m.is, one-mark punctuator.Semicolon plain m.inner text m.derives) (grammar.empty depth m.inner)
text_statement names depth s text (second (second (first b))) = text_if names depth s text b
text_statement names depth s text (second (second (second (first b)))) = text_switch names depth s text b
text_statement names depth s text (second (second (second (second (first b))))) = text_while names depth s text b
text_statement names depth s text (second (second (second (second (second (first b)))))) = text_do names depth s text b
text_statement names depth s text (second (second (second (second (second (second (first b))))))) = text_for names depth s text b
text_statement names depth s text (second (second (second (second (second (second (second (first m)))))))) = let j = jump_is Continue (λ offset. unit.Continue offset) s text m in jumped names depth s (unit.Continue j.0) text _ j.2 j.3 (grammar.continue depth j.0 j.1)
text_statement names depth s text (second (second (second (second (second (second (second (second (first m))))))))) = let j = jump_is Break (λ offset. unit.Break offset) s text m in jumped names depth s (unit.Break j.0) text _ j.2 j.3 (grammar.break depth j.0 j.1)
text_statement names depth s text (second (second (second (second (second (second (second (second (second (first b)))))))))) = text_return names depth s text b
text_statement names depth s text (second (second (second (second (second (second (second (second (second (second m)))))))))) = let e = m.derives in rw (m.is, e.cut) (grammar.perform depth m.inner e.inside e.offset e.derives)

-- and back
statement_text : (names : List (List ℕ)) (depth : ℕ) (s : unit.Statement) (text : List Leaf) → grammar.Statement names depth s text → StatementText names depth s text
statement_text names depth s text (grammar.block d parts inside offset close h) =
    first (record { first = offset; left = opens (suc d) (mark punctuator.LeftBrace offset) ∷ []; right = inside ++ plain (mark punctuator.RightBrace close) ∷ []; is_first = mark-one punctuator.LeftBrace (opens (suc d)) offset; is_second = record { inner = parts; is = refl; derives = record { inside = inside; close = close; derives = h; cut = refl } }; cut = refl })
statement_text names depth s text (grammar.empty d offset) = second (first (record { inner = offset; is = refl; derives = mark-one punctuator.Semicolon plain offset }))
statement_text names depth s text (grammar.perform d x t end h) = second (second (second (second (second (second (second (second (second (second (record { inner = x; is = refl; derives = record { inside = t; offset = end; derives = h; cut = refl } }))))))))))
statement_text names depth s text (grammar.if_only d x body test t offset h k) =
    second (second (first (record {
      first = offset;
      left = opens (suc d) (keyword_at If offset) ∷ [];
      right = test ++ t;
      is_first = keyword-one If (opens (suc d)) offset;
      cut = refl;
      is_second = record { first = x; left = test; right = t; is_first = h; cut = refl; is_second = record { first = body; left = t; right = []; is_first = k; is_second = second nothing; cut = sym (append-nil t) } };
    })))
statement_text names depth s text (grammar.if_else d x body otherwise test t right offset else_offset h k e l) =
    second (second (first (record {
      first = offset;
      left = opens (suc d) (keyword_at If offset) ∷ [];
      right = test ++ (t ++ opens (suc (suc d)) (keyword_at Else else_offset) ∷ right);
      is_first = keyword-one If (opens (suc d)) offset;
      cut = refl;
      is_second = record {
        first = x;
        left = test;
        right = t ++ opens (suc (suc d)) (keyword_at Else else_offset) ∷ right;
        is_first = h;
        cut = refl;
        is_second = record {
          first = body;
          left = t;
          right = opens (suc (suc d)) (keyword_at Else else_offset) ∷ right;
          is_first = k;
          cut = refl;
          is_second = first (record { so = not_false (grammar.takes_else body) e; derives = record { first = else_offset; left = opens (suc (suc d)) (keyword_at Else else_offset) ∷ []; right = right; is_first = keyword-one Else (opens (suc (suc d))) else_offset; is_second = record { inner = otherwise; is = refl; derives = l }; cut = refl } });
        };
      };
    })))
statement_text names depth s text (grammar.switch d x gs test inside offset open_offset close h k) =
    second (second (second (first (record {
      first = offset;
      left = opens (suc d) (keyword_at Switch offset) ∷ [];
      right = test ++ (opens (suc (suc d)) (mark punctuator.LeftBrace open_offset) ∷ inside ++ plain (mark punctuator.RightBrace close) ∷ []);
      is_first = keyword-one Switch (opens (suc d)) offset;
      cut = refl;
      is_second = record {
        first = x;
        left = test;
        right = opens (suc (suc d)) (mark punctuator.LeftBrace open_offset) ∷ inside ++ plain (mark punctuator.RightBrace close) ∷ [];
        is_first = h;
        cut = refl;
        is_second = record { first = open_offset; left = opens (suc (suc d)) (mark punctuator.LeftBrace open_offset) ∷ []; right = inside ++ plain (mark punctuator.RightBrace close) ∷ []; is_first = mark-one punctuator.LeftBrace (opens (suc (suc d))) open_offset; is_second = record { inner = gs; is = refl; derives = record { inside = inside; close = close; derives = k; cut = refl } }; cut = refl };
      };
    }))))
statement_text names depth s text (grammar.while d x body test t offset h k) =
    second (second (second (second (first (record {
      first = offset;
      left = opens (suc d) (keyword_at While offset) ∷ [];
      right = test ++ t;
      is_first = keyword-one While (opens (suc d)) offset;
      cut = refl;
      is_second = record { first = x; left = test; right = t; is_first = h; is_second = record { inner = body; is = refl; derives = k }; cut = refl };
    })))))
statement_text names depth s text (grammar.do_while d body x t test offset while_offset end h k) =
    second (second (second (second (second (first (record {
      first = offset;
      left = opens (suc d) (keyword_at Do offset) ∷ [];
      right = t ++ (plain (keyword_at While while_offset) ∷ test ++ plain (mark punctuator.Semicolon end) ∷ []);
      is_first = keyword-one Do (opens (suc d)) offset;
      cut = refl;
      is_second = record {
        first = body;
        left = t;
        right = plain (keyword_at While while_offset) ∷ test ++ plain (mark punctuator.Semicolon end) ∷ [];
        is_first = h;
        cut = refl;
        is_second = record { first = while_offset; left = plain (keyword_at While while_offset) ∷ []; right = test ++ plain (mark punctuator.Semicolon end) ∷ []; is_first = keyword-one While plain while_offset; is_second = record { inner = x; is = refl; derives = record { inside = test; close = end; derives = k; cut = refl } }; cut = refl };
      };
    }))))))
statement_text names depth s text (grammar.for d start x step body one test last t offset open_offset h k l m) =
    second (second (second (second (second (second (first (record {
      first = offset;
      left = opens (suc d) (keyword_at For offset) ∷ [];
      right = opens (suc (suc d)) (mark punctuator.LeftParenthesis open_offset) ∷ one ++ (test ++ (last ++ t));
      is_first = keyword-one For (opens (suc d)) offset;
      cut = refl;
      is_second = record {
        first = open_offset;
        left = opens (suc (suc d)) (mark punctuator.LeftParenthesis open_offset) ∷ [];
        right = one ++ (test ++ (last ++ t));
        is_first = mark-one punctuator.LeftParenthesis (opens (suc (suc d))) open_offset;
        cut = refl;
        is_second = record { inner = (start, (x, (step, body))); is = refl; derives = record { left = one; right = test ++ (last ++ t); cut = refl; first = h; second = record { left = test; right = last ++ t; cut = refl; first = k; second = record { left = last; right = t; cut = refl; first = l; second = m } } } };
      };
    })))))))
statement_text names depth s text (grammar.continue d offset end) = second (second (second (second (second (second (second (first (is_jump Continue (λ offset. unit.Continue offset) offset end))))))))
statement_text names depth s text (grammar.break d offset end) = second (second (second (second (second (second (second (second (first (is_jump Break (λ offset. unit.Break offset) offset end)))))))))
statement_text names depth s text (grammar.return d offset end) =
    second (second (second (second (second (second (second (second (second (first (record { first = offset; left = plain (keyword_at Return offset) ∷ []; right = plain (mark punctuator.Semicolon end) ∷ []; is_first = keyword-one Return plain offset; is_second = first (record { inner = end; is = refl; derives = mark-one punctuator.Semicolon plain end }); cut = refl }))))))))))
statement_text names depth s text (grammar.return_value d v t offset end h) =
    second (second (second (second (second (second (second (second (second (first (record { first = offset; left = plain (keyword_at Return offset) ∷ []; right = t ++ expected (grammar.value_end v) (mark punctuator.Semicolon end) ∷ []; is_first = keyword-one Return plain offset; is_second = second (record { inner = v; is = refl; derives = record { inside = t; offset = end; derives = h; cut = refl } }); cut = refl }))))))))))

jump_begins : (w : Keyword) (made : (offset : ℕ) → unit.Statement) (t : Placed) → is_keyword w t.token ≡ true → Begins marks (JumpText w made) t
jump_begins w made t e =
    map_begins made t (record { value = t.offset; first = plain t; more = plain (mark punctuator.Semicolon 0) ∷ []; derives = record { second = 0; left = plain t ∷ []; right = plain (mark punctuator.Semicolon 0) ∷ []; is_first = record { token = t; is = keyword-some w t e; cut = refl }; is_second = mark-one punctuator.Semicolon plain 0; cut = refl }; is = refl })

jump_silent : (w : Keyword) (made : (offset : ℕ) → unit.Statement) → Silent marks roles (JumpText w made)
jump_silent w made s u more m =
    let j = jump_is w made s (u ∷ more) m in
    let e : u ∷ more ≡ plain (keyword_at w j.0) ∷ plain (mark punctuator.Semicolon j.1) ∷ [] = j.3 in
    let head : u ≡ plain (keyword_at w j.0) = cc in
    ap (λ (l : Leaf). l.role) head

roled-statement_text : (names : List (List ℕ)) (inner : Parsers) → AllFirm names inner → (statements : Statements) (depth : ℕ) → Deeper names statements depth → Firm anything (StatementText names depth) stop_statement (read_statement_around names inner statements depth)
roled-statement_text names inner all statements depth deeper =
    roled-choice (is_mark punctuator.LeftBrace)
    record { first_begins = λ s text b. (opens (suc depth) (mark punctuator.LeftBrace b.first), b.right, b.cut ∙ ap (λ l. l ++ b.right) (one-mark punctuator.LeftBrace (opens (suc depth)) b.first b.left b.is_first), refl); second_begins = λ s text rest o stops. later (is_mark punctuator.LeftBrace) 0 (mark_ranked punctuator.LeftBrace 0 ranks.9) text rest (rest0 names depth 1 s text (omega arith) o) }
    (λ t e. after_begins (mark_offset punctuator.LeftBrace) (opens (suc depth)) (λ t. refl) t t.offset (mark-some punctuator.LeftBrace t e) (some_block names depth t.offset)) (after_silent (mark_offset punctuator.LeftBrace) (opens (suc depth)) (λ t. refl))
    (roled-block names inner all statements depth deeper)
    (roled-choice (is_mark punctuator.Semicolon)
    record { first_begins = λ s text m. (plain (mark punctuator.Semicolon m.inner), [], one-mark punctuator.Semicolon plain m.inner text m.derives, refl); second_begins = λ s text rest o stops. later (is_mark punctuator.Semicolon) 1 (mark_ranked punctuator.Semicolon 1 ranks.8) text rest (rest1 names depth 2 s text (omega arith) o) }
    (λ t e. map_begins (λ offset. unit.Empty offset) t (mark_begins punctuator.Semicolon t e)) (map_silent (λ offset. unit.Empty offset) (mark_silent punctuator.Semicolon))
    (firm-map (λ offset. unit.Empty offset) stop_statement (λ x. refl) (roled-mark anything punctuator.Semicolon Nothing plain (λ t. refl) (λ t. refl)))
    (roled-choice (is_keyword If)
    record { first_begins = λ s text b. (opens (suc depth) (keyword_at If b.first), b.right, b.cut ∙ ap (λ l. l ++ b.right) (one-keyword If (opens (suc depth)) b.first b.left b.is_first), refl); second_begins = λ s text rest o stops. later (is_keyword If) 2 (keyword_rank If 2 ranks.0) text rest (rest2 names depth 3 s text (omega arith) o) }
    (λ t e. after_begins (keyword_offset If) (opens (suc depth)) (λ t. refl) t t.offset (keyword-some If t e) (some_if names depth t.offset)) (after_silent (keyword_offset If) (opens (suc depth)) (λ t. refl))
    (roled-if names inner all statements depth deeper)
    (roled-choice (is_keyword Switch)
    record { first_begins = λ s text b. (opens (suc depth) (keyword_at Switch b.first), b.right, b.cut ∙ ap (λ l. l ++ b.right) (one-keyword Switch (opens (suc depth)) b.first b.left b.is_first), refl); second_begins = λ s text rest o stops. later (is_keyword Switch) 3 (keyword_rank Switch 3 ranks.1) text rest (rest3 names depth 4 s text (omega arith) o) }
    (λ t e. after_begins (keyword_offset Switch) (opens (suc depth)) (λ t. refl) t t.offset (keyword-some Switch t e) (some_switch names depth t.offset)) (after_silent (keyword_offset Switch) (opens (suc depth)) (λ t. refl))
    (roled-switch names inner all statements depth deeper)
    (roled-choice (is_keyword While)
    record { first_begins = λ s text b. (opens (suc depth) (keyword_at While b.first), b.right, b.cut ∙ ap (λ l. l ++ b.right) (one-keyword While (opens (suc depth)) b.first b.left b.is_first), refl); second_begins = λ s text rest o stops. later (is_keyword While) 4 (keyword_rank While 4 ranks.2) text rest (rest4 names depth 5 s text (omega arith) o) }
    (λ t e. after_begins (keyword_offset While) (opens (suc depth)) (λ t. refl) t t.offset (keyword-some While t e) (some_while names depth t.offset)) (after_silent (keyword_offset While) (opens (suc depth)) (λ t. refl))
    (roled-while names inner all statements depth deeper)
    (roled-choice (is_keyword Do)
    record { first_begins = λ s text b. (opens (suc depth) (keyword_at Do b.first), b.right, b.cut ∙ ap (λ l. l ++ b.right) (one-keyword Do (opens (suc depth)) b.first b.left b.is_first), refl); second_begins = λ s text rest o stops. later (is_keyword Do) 5 (keyword_rank Do 5 ranks.3) text rest (rest5 names depth 6 s text (omega arith) o) }
    (λ t e. after_begins (keyword_offset Do) (opens (suc depth)) (λ t. refl) t t.offset (keyword-some Do t e) (some_do names depth t.offset)) (after_silent (keyword_offset Do) (opens (suc depth)) (λ t. refl))
    (roled-do names inner all statements depth deeper)
    (roled-choice (is_keyword For)
    record { first_begins = λ s text b. (opens (suc depth) (keyword_at For b.first), b.right, b.cut ∙ ap (λ l. l ++ b.right) (one-keyword For (opens (suc depth)) b.first b.left b.is_first), refl); second_begins = λ s text rest o stops. later (is_keyword For) 6 (keyword_rank For 6 ranks.4) text rest (rest6 names depth 7 s text (omega arith) o) }
    (λ t e. after_begins (keyword_offset For) (opens (suc depth)) (λ t. refl) t t.offset (keyword-some For t e) (some_for names depth t.offset)) (after_silent (keyword_offset For) (opens (suc depth)) (λ t. refl))
    (roled-for names inner all statements depth deeper)
    (roled-choice (is_keyword Continue)
    record { first_begins = λ s text m. let j = jump_is Continue (λ offset. unit.Continue offset) s text m in (plain (keyword_at Continue j.0), plain (mark punctuator.Semicolon j.1) ∷ [], j.3, refl); second_begins = λ s text rest o stops. later (is_keyword Continue) 7 (keyword_rank Continue 7 ranks.5) text rest (rest7 names depth 8 s text (omega arith) o) }
    (jump_begins Continue (λ offset. unit.Continue offset)) (jump_silent Continue (λ offset. unit.Continue offset))
    (roled-jump Continue (λ offset. unit.Continue offset) (λ offset. refl))
    (roled-choice (is_keyword Break)
    record { first_begins = λ s text m. let j = jump_is Break (λ offset. unit.Break offset) s text m in (plain (keyword_at Break j.0), plain (mark punctuator.Semicolon j.1) ∷ [], j.3, refl); second_begins = λ s text rest o stops. later (is_keyword Break) 8 (keyword_rank Break 8 ranks.6) text rest (rest8 names depth 9 s text (omega arith) o) }
    (jump_begins Break (λ offset. unit.Break offset)) (jump_silent Break (λ offset. unit.Break offset))
    (roled-jump Break (λ offset. unit.Break offset) (λ offset. refl))
    (roled-choice (is_keyword Return)
    record { first_begins = λ s text b. (plain (keyword_at Return b.first), b.right, b.cut ∙ ap (λ l. l ++ b.right) (one-keyword Return plain b.first b.left b.is_first), refl); second_begins = λ s text rest o stops. later (is_keyword Return) 9 (keyword_rank Return 9 ranks.7) text rest (rest9 names depth 10 s text (omega arith) o) }
    (λ t e. after_begins (keyword_offset Return) plain (λ t. refl) t t.offset (keyword-some Return t e) (some_return names depth t.offset)) (after_silent (keyword_offset Return) plain (λ t. refl))
    (roled-return names inner all depth)
    (roled-perform names inner all depth))))))))))

roled-around : (names : List (List ℕ)) (inner : Parsers) → AllFirm names inner → (statements : Statements) (depth : ℕ) → Deeper names statements depth → Firm anything (grammar.Statement names depth) stop_statement (read_statement_around names inner statements depth)
roled-around names inner all statements depth deeper =
    roled-same anything (grammar.Statement names depth) (read_statement_around names inner statements depth) (λ t h. h) (text_statement names depth) (statement_text names depth) (λ tokens. refl) (roled-statement_text names inner all statements depth deeper)

-- with fuel for all constructs that may still open
pub roled-statement : (names : List (List ℕ)) (inner : Parsers) → AllFirm names inner → (fuel depth : ℕ) → depth ≤ nesting_limit → statement_fuel ≤ depth + fuel → Firm anything (grammar.Statement names depth) stop_statement (read_statement names inner fuel depth)
unfolding read_statement
roled-statement names inner all zero depth small enough_fuel = absurd (omega arith)
roled-statement names inner all (suc fuel) depth small enough_fuel = roled-around names inner all (read_statement names inner fuel) depth (λ d least most. roled-statement names inner all fuel d most (omega arith))
