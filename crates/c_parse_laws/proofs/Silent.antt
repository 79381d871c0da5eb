-- Where an expression, a statement or a declaration of locals begins, nothing is expected.
use Rattle.std.proofs.Common.{◌≡◌, List, ◌∷◌, ◌++◌, ap, sym, ◌∙◌, subst, ℕ, [], refl, append_assoc}
use Rattle.c_syntax_spec.specs.Expression as tree
use Rattle.c_syntax_spec.specs.Unit as unit
use Rattle.c_token_spec.specs.declared.token.Punctuator.TheVariants as punctuator
use Rattle.c_parse_spec.specs.declared.Role.{Role}
use Rattle.c_parse_spec.specs.declared.Role.TheVariants.{Nothing}
use Rattle.c_parse_spec.specs.Leaves.{Leaf, marks, expected, mark, roles}
use Rattle.c_parse_spec.specs.Expressions as expression
use Rattle.c_parse_spec.specs.Statements as grammar
use Rattle.exact_read.proofs.RoleBegins.{Silent}
use Rattle.c_parse_laws.proofs.TypeFirsts.{base_first}
use Rattle.c_parse_laws.specs.Texts.{LocalsText}
use Rattle.c_parse_laws.proofs.TypeBegins.{specifiers_silent}

-- a text whose first leaf has no role
record Quiet (text : List Leaf) : Type 0 where
  leaf : Leaf
  more : List Leaf
  cut : text ≡ leaf ∷ more
  quiet : leaf.role ≡ Nothing

longer : (left right : List Leaf) → Quiet left → Quiet (left ++ right)
longer left right q = record { leaf = q.leaf; more = q.more ++ right; cut = ap (λ t. t ++ right) q.cut; quiet = q.quiet }

reported : (text : List Leaf) (u : Leaf) (more : List Leaf) → Quiet text → text ≡ u ∷ more → u.role ≡ Nothing
reported text u more q e =
    let f : q.leaf ∷ q.more ≡ u ∷ more = sym q.cut ∙ e in
    let head : q.leaf ≡ u = cc in
    subst (λ (l : Leaf). l.role ≡ Nothing) head q.quiet

primary_quiet : (names : List (List ℕ)) (depth count : ℕ) (x : tree.Expression) (text : List Leaf) → expression.Primary names depth count x text → Quiet text
primary_quiet names depth count x text (expression.name d c n e) = record { leaf = _; more = []; cut = refl; quiet = refl }
primary_quiet names depth count x text (expression.constant d c value type offset) = record { leaf = _; more = []; cut = refl; quiet = refl }
primary_quiet names depth count x text (expression.character_constant d c value offset) = record { leaf = _; more = []; cut = refl; quiet = refl }
primary_quiet names depth count x text (expression.bracketed d c y inside offset close h) = record { leaf = _; more = _; cut = refl; quiet = refl }

postfix_quiet : (names : List (List ℕ)) (depth count : ℕ) (x : tree.Expression) (text : List Leaf) → expression.Postfix names depth count x text → Quiet text
postfix_quiet names depth count x text (expression.primary d c y t h) = primary_quiet names d c y t h
postfix_quiet names depth count x text (expression.index d c y i prefix inside offset close h k) = longer prefix _ (postfix_quiet names d c y prefix h)
postfix_quiet names depth count x text (expression.member d c y a n prefix offset h) = longer prefix _ (postfix_quiet names d c y prefix h)

unary_quiet : (names : List (List ℕ)) (depth count : ℕ) (x : tree.Expression) (text : List Leaf) → expression.Unary names depth count x text → Quiet text
unary_quiet names depth count x text (expression.postfix d c y t h) = postfix_quiet names d c y t h
unary_quiet names depth count x text (expression.prefixed d c o y t offset h) = record { leaf = _; more = t; cut = refl; quiet = refl }
unary_quiet names depth count x text (expression.sizeof_expression d c y t offset h) = record { leaf = _; more = t; cut = refl; quiet = refl }
unary_quiet names depth count x text (expression.sizeof_type d c y t offset p close h) = record { leaf = _; more = _; cut = refl; quiet = refl }

cast_quiet : (names : List (List ℕ)) (depth count : ℕ) (x : tree.Expression) (text : List Leaf) → expression.Cast names depth count x text → Quiet text
cast_quiet names depth count x text (expression.unary d c y t h) = unary_quiet names d c y t h
cast_quiet names depth count x text (expression.cast d c ty y inside t offset close h k) = record { leaf = _; more = _; cut = refl; quiet = refl }

binary_quiet : (names : List (List ℕ)) (level depth count : ℕ) (x : tree.Expression) (text : List Leaf) → expression.Binary names level depth count x text → Quiet text
binary_quiet names level depth count x text (expression.operand d c y t h) = cast_quiet names d c y t h
binary_quiet names level depth count x text (expression.tighter l d c y t h) = binary_quiet names l d c y t h
binary_quiet names level depth count x text (expression.operation l d c o y z left right offset e h k) = longer left _ (binary_quiet names _ d c y left h)

conditional_quiet : (names : List (List ℕ)) (depth count : ℕ) (x : tree.Expression) (text : List Leaf) → expression.Conditional names depth count x text → Quiet text
conditional_quiet names depth count x text (expression.logical_or d c y t h) = binary_quiet names 10 d c y t h
conditional_quiet names depth count x text (expression.conditional d c y z w test first second offset colon h k l) = longer test _ (binary_quiet names 10 d c y test h)

pub conditional_silent : (names : List (List ℕ)) (depth count : ℕ) → Silent marks roles (expression.Conditional names depth count)
conditional_silent names depth count x u more h = reported (u ∷ more) u more (conditional_quiet names depth count x (u ∷ more) h) refl

call_quiet : (names : List (List ℕ)) (depth count : ℕ) (call : unit.Call) (text : List Leaf) → grammar.Call names depth count call text → Quiet text
call_quiet names depth count call text (grammar.empty d c n offset close e) = record { leaf = _; more = _; cut = refl; quiet = refl }
call_quiet names depth count call text (grammar.call d c n arguments inside offset close e h) = record { leaf = _; more = _; cut = refl; quiet = refl }

value_quiet : (names : List (List ℕ)) (depth count : ℕ) (v : unit.Value) (text : List Leaf) → grammar.Value names depth count v text → Quiet text
value_quiet names depth count v text (grammar.called d c call t h) = call_quiet names d c call t h
value_quiet names depth count v text (grammar.computed d c x t h) = conditional_quiet names d c x t h

simple_quiet : (names : List (List ℕ)) (depth : ℕ) (s : unit.Simple) (text : List Leaf) → grammar.Simple names depth s text → Quiet text
simple_quiet names depth s text (grammar.assign d x v left right offset h k) = longer left _ (unary_quiet names d 0 x left h)
simple_quiet names depth s text (grammar.assign_by d o p x v left right offset e h k) = longer left _ (unary_quiet names d 0 x left h)
simple_quiet names depth s text (grammar.step_after d o x t offset h) = longer t _ (postfix_quiet names d 0 x t h)
simple_quiet names depth s text (grammar.step_before d o x t offset h) = record { leaf = _; more = t; cut = refl; quiet = refl }
simple_quiet names depth s text (grammar.evaluate d v t h) = value_quiet names d 0 v t h

pub statement_silent : (names : List (List ℕ)) (depth : ℕ) (s : unit.Statement) (text : List Leaf) → grammar.Statement names depth s text → (u : Leaf) (more : List Leaf) → text ≡ u ∷ more → u.role ≡ Nothing
statement_silent names depth s text h u more e = reported text u more (quiet_of s text h) e
  where
    quiet_of : (s : unit.Statement) (text : List Leaf) → grammar.Statement names depth s text → Quiet text
    quiet_of s text (grammar.block d parts inside offset close h) = record { leaf = _; more = _; cut = refl; quiet = refl }
    quiet_of s text (grammar.empty d offset) = record { leaf = _; more = _; cut = refl; quiet = refl }
    quiet_of s text (grammar.perform d x t end h) = longer t _ (simple_quiet names d x t h)
    quiet_of s text (grammar.if_only d x body test t offset h k) = record { leaf = _; more = _; cut = refl; quiet = refl }
    quiet_of s text (grammar.if_else d x body otherwise test t right offset else_offset h k a l) = record { leaf = _; more = _; cut = refl; quiet = refl }
    quiet_of s text (grammar.switch d x gs test inside offset open_offset close h k) = record { leaf = _; more = _; cut = refl; quiet = refl }
    quiet_of s text (grammar.while d x body test t offset h k) = record { leaf = _; more = _; cut = refl; quiet = refl }
    quiet_of s text (grammar.do_while d body x t test offset while_offset end h k) = record { leaf = _; more = _; cut = refl; quiet = refl }
    quiet_of s text (grammar.for d start x step body one test last t offset open_offset h k l m) = record { leaf = _; more = _; cut = refl; quiet = refl }
    quiet_of s text (grammar.continue d offset end) = record { leaf = _; more = _; cut = refl; quiet = refl }
    quiet_of s text (grammar.break d offset end) = record { leaf = _; more = _; cut = refl; quiet = refl }
    quiet_of s text (grammar.return d offset end) = record { leaf = _; more = _; cut = refl; quiet = refl }
    quiet_of s text (grammar.return_value d v t offset end h) = record { leaf = _; more = _; cut = refl; quiet = refl }

-- specifiers are not empty
pub specifiers_some : (names : List (List ℕ)) (position : expression.Position) (depth : ℕ) (counting : expression.Counting) (s : tree.Specifiers) (text : List Leaf) → expression.Specifiers names position depth counting s text → text ≡ [] → ⊥
specifiers_some names position depth counting s text (expression.specifiers p d c one two base before middle after h k l) e = by_before before e
  where
    by_middle : (middle : List Leaf) → expression.TypeSpecifier names d c base middle → middle ++ after ≡ [] → ⊥
    by_middle [] k e = let f = base_first names d c base [] k in let g : [] ≡ f.leaf ∷ f.more = f.cut in cc
    by_middle (v ∷ middle) k e = cc

    by_before : (before : List Leaf) → before ++ (middle ++ after) ≡ [] → ⊥
    by_before [] e = by_middle middle k e
    by_before (v ∷ before) e = cc

pub locals_silent : (names : List (List ℕ)) (depth : ℕ) → Silent marks roles (LocalsText names depth)
locals_silent names depth locals u more l = by_locals locals l.role l.inside l.derives (expected l.role (mark punctuator.Semicolon l.offset) ∷ []) l.cut
  where
    by_left : (s : tree.Specifiers) (left right : List Leaf) → expression.Specifiers names expression.InLocalDeclaration depth expression.Alone s left → u ∷ more ≡ left ++ right → u.role ≡ Nothing
    by_left s [] right h e = absurd (specifiers_some names expression.InLocalDeclaration depth expression.Alone s [] h refl)
    by_left s (v ∷ left) right h e = let head : v ≡ u = cc in subst (λ (k : Leaf). k.role ≡ Nothing) head (specifiers_silent names expression.InLocalDeclaration depth expression.Alone s (v ∷ left) h v left refl)

    by_locals : (locals : unit.Locals) (role : Role) (inside : List Leaf) → grammar.Locals names depth locals role inside → (following : List Leaf) → u ∷ more ≡ inside ++ following → u.role ≡ Nothing
    by_locals locals role inside (grammar.locals d s list end left right h k) following e = by_left s left (right ++ following) h (e ∙ append_assoc left right following)
