-- Labels in a set: one more at a time, and those of one group among all.
use Rattle.std.proofs.Common.{◌≡◌, ℕ, ◌+◌, ◌<◌, ◌≤◌, List, [], ◌∷◌, ◌++◌, length, map, drop, get_or, refl, sym, ap, ◌∙◌, subst, append_assoc, append-nil, int_eq, true≢false}
use Rattle.std.specs.Prelude.{ℤ, pos, negsuc, eqb, Bool, true, false, not, ◌||◌, if◌then◌else◌, Option, Some, None, Result, Ok, Err}
use Rattle.std.specs.Option.{option_eq}
use Rattle.std.specs.Bool.{Decides, one_answer}
use Rattle.std.specs.List.{list_any}
use Rattle.std.proofs.lemmas.List.{drop_all}
use Rattle.std.proofs.lemmas.Bool.{eq-eqb, eqb-true}
use Rattle.std.proofs.lemmas.Bool.Decides.{Decides-int_eq, Decides-like}
use Rattle.indexmap.specs.IndexSet.{insert_key}
use Rattle.c_syntax_spec.specs.Unit as tree
use Rattle.c_syntax.specs.declared.statement.Label.{Label}
use Rattle.c_syntax.specs.Locals.{label_of}
use Rattle.c_types_spec.specs.declared.Scalar.{Scalar}
use Rattle.c_types_spec.specs.declared.TypeFaultKind.TheVariants.{Twice}
use Rattle.c_types_spec.specs.Values.{same_value}
use Rattle.c_types_spec.specs.Names.{State, Fault, Typing, bind, fail, faults_at, rule, ◌>>=◌}
use Rattle.c_types_spec.specs.Statements.{same_label, label, labels}
use Rattle.c_types_statement.specs.Labels.{with_label, one_label}
use Rattle.c_types_statement.proofs.Lists.{labels-more}

-- ---- the test of the set

same_value-true : (a b : ℤ) → same_value a b ≡ true → a ≡ b
same_value-true (pos a) (pos b) e = ap pos (eqb-true a b e)
same_value-true (negsuc a) (negsuc b) e = ap negsuc (eqb-true a b e)
same_value-true (pos a) (negsuc b) e = absurd (true≢false (sym e))
same_value-true (negsuc a) (pos b) e = absurd (true≢false (sym e))

same_value-same : (a : ℤ) → same_value a a ≡ true
same_value-same (pos a) = eq-eqb a a refl
same_value-same (negsuc a) = eq-eqb a a refl

label-test : (other made : Option ℤ) → same_label other made ≡ option_eq int_eq made other
label-test None None = refl
label-test None (Some b) = refl
label-test (Some a) None = refl
label-test (Some a) (Some b) = one_answer (same_value a b) (int_eq b a)
    (same_value-true a b, λ e. subst (λ z. same_value a z ≡ true) e (same_value-same a))
    (Decides-like (int_eq b a) (λ e. sym e) (λ e. sym e) (Decides-int_eq b a))

pub any-label : (keys : List (Option ℤ)) (made : Option ℤ) → list_any (λ other. same_label other made) keys ≡ list_any (option_eq int_eq made) keys
any-label [] made = refl
any-label (x ∷ keys) made =
    ap (λ b. b || list_any (λ other. same_label other made) keys) (label-test x made)
    ∙ ap (λ b. option_eq int_eq made x || b) (any-label keys made)

-- a label that is new, and one that is there
pub label-added : (keys new : List (Option ℤ)) (made : Option ℤ) (offset : ℕ) → true ≡ not (list_any (option_eq int_eq made) keys) → new ≡ insert_key (option_eq int_eq) keys made
    → with_label keys made offset ≡ Ok new
label-added keys new made offset h e =
    ap (λ b. if b then fail Twice offset else Ok (keys ++ made ∷ [])) (any-label keys made)
    ∙ by (list_any (option_eq int_eq made) keys) h
    ∙ ap Ok (sym e)
  where
    by : (b : Bool) → true ≡ not b → (if b then fail Twice offset else Ok (keys ++ made ∷ [])) ≡ Ok (if b then keys else keys ++ made ∷ [])
    by true h = absurd (true≢false h)
    by false h = refl

pub label-twice : (keys : List (Option ℤ)) (made : Option ℤ) (offset : ℕ) → false ≡ not (list_any (option_eq int_eq made) keys)
    → with_label keys made offset ≡ Err (Twice, offset)
label-twice keys made offset h =
    ap (λ b. if b then fail Twice offset else Ok (keys ++ made ∷ [])) (any-label keys made)
    ∙ by (list_any (option_eq int_eq made) keys) h
  where
    by : (b : Bool) → false ≡ not b → (if b then fail Twice offset else Ok (keys ++ made ∷ [])) ≡ Err (Twice, offset)
    by true h = refl
    by false h = absurd (true≢false (sym h))

-- ---- one label at a time

bind-same : {A B : Type 0} (r : Result A Fault) (f g : A → Result B Fault) → ((x : A) → f x ≡ g x) → bind r f ≡ bind r g
bind-same (Ok x) f g e = e x
bind-same (Err fault) f g e = refl

checked : {B : Type 0} (b : Bool) (more : List (Option ℤ)) (offset : ℕ) (st : State) (next : List (Option ℤ) → Typing B)
    → bind (rule (faults_at offset ((b, Twice) ∷ [])) st) (λ m. next more m.1)
    ≡ bind (rule (if b then fail Twice offset else Ok more) st) (λ m. next m.0 m.1)
checked true more offset st next = refl
checked false more offset st next = refl

assoc-label : {A B C : Type 0} (r : Result A Fault) (f : A → Result B Fault) (g : B → Result C Fault) → bind r (λ x. bind (f x) g) ≡ bind (bind r f) g
assoc-label (Ok x) f g = refl
assoc-label (Err fault) f g = refl

labels-one : (first : tree.Label) (rest : List tree.Label) (type : Scalar) (keys : List (Option ℤ)) (st : State)
    → labels (first ∷ rest) type [] keys st ≡ bind (one_label first type keys st) (λ more. labels rest type [] more.0 more.1)
unfolding labels one_label
labels-one first rest type keys st =
    bind-same (label first type st) _ _ (λ made. checked (list_any (λ other. same_label other made.0.0) keys) (keys ++ made.0.0 ∷ []) made.0.1 made.1 (λ more. labels rest type [] more))
    ∙ assoc-label (label first type st) (λ made. rule (with_label keys made.0.0 made.0.1) made.1) (λ more. labels rest type [] more.0 more.1)

pub labels-row : (list : List Label) (i : ℕ) (item : Label) (type : Scalar) (keys : List (Option ℤ)) (st : State) → item ≡ get_or list i item → i < length list
    → labels (map label_of (drop i list)) type [] keys st ≡ bind (one_label (label_of item) type keys st) (λ more. labels (map label_of (drop (i + 1) list)) type [] more.0 more.1)
labels-row list i item type keys st is h =
    ap (λ l. labels l type [] keys st) (labels-more list i item h)
    ∙ labels-one (label_of (get_or list i item)) (map label_of (drop (i + 1) list)) type keys st
    ∙ ap (λ x. bind (one_label (label_of x) type keys st) (λ more. labels (map label_of (drop (i + 1) list)) type [] more.0 more.1)) (sym is)

pub labels-none : (list : List Label) (i : ℕ) (type : Scalar) (keys : List (Option ℤ)) (st : State) → length list ≤ i
    → labels (map label_of (drop i list)) type [] keys st ≡ Ok (keys, st)
unfolding labels
labels-none list i type keys st h = ap (λ l. labels (map label_of l) type [] keys st) (drop_all i list h)

pub ruleset rows = (labels-none)

-- ---- the labels of one group among all

abbrev Made : Type 0
Made = Result (List (Option ℤ) × State) Fault

-- what comes after labels of other groups
abbrev prepended : List (Option ℤ) → Made → Made
prepended seen r = bind r (λ m. Ok (seen ++ m.0, m.1))

prepended-checked : (b : Bool) (offset : ℕ) (seen : List (Option ℤ)) (st : State) (one other : State → Made) → ((s : State) → other s ≡ prepended seen (one s))
    → bind (rule (faults_at offset ((b, Twice) ∷ [])) st) (λ m. other m.1)
    ≡ prepended seen (bind (rule (faults_at offset ((b, Twice) ∷ [])) st) (λ m. one m.1))
prepended-checked true offset seen st one other e = refl
prepended-checked false offset seen st one other e = e st

prepended-bind : {A : Type 0} (r : Result A Fault) (seen : List (Option ℤ)) (one other : A → Made) → ((x : A) → other x ≡ prepended seen (one x)) → bind r other ≡ prepended seen (bind r one)
prepended-bind (Ok x) seen one other e = e x
prepended-bind (Err fault) seen one other e = refl

all-labels : (list : List tree.Label) (type : Scalar) (seen done : List (Option ℤ)) (st : State)
    → labels list type [] (seen ++ done) st ≡ prepended seen (labels list type seen done st)
unfolding labels
all-labels [] type seen done st = refl
all-labels (first ∷ rest) type seen done st =
    prepended-bind (label first type st) seen _ _
    (λ made. prepended-checked (list_any (λ other. same_label other made.0.0) (seen ++ done)) made.0.1 seen made.1
    (λ s. labels rest type seen (done ++ made.0.0 ∷ []) s) (λ s. labels rest type [] ((seen ++ done) ++ made.0.0 ∷ []) s)
    (λ s. ap (λ l. labels rest type [] l s) (append_assoc seen done (made.0.0 ∷ [])) ∙ all-labels rest type seen (done ++ made.0.0 ∷ []) s))

abbrev value-or : {A : Type 0} → A → Result A Fault → A
value-or d (Ok x) = x
value-or d (Err fault) = d

abbrev is-made : Made → Bool
is-made (Ok m) = true
is-made (Err fault) = false

drop-own : (xs ys : List (Option ℤ)) → drop (length xs) (xs ++ ys) ≡ ys
drop-own [] ys = refl
drop-own (x ∷ xs) ys = drop-own xs ys

part-made : (r : Made) (seen keys : List (Option ℤ)) (st : State) → prepended seen r ≡ Ok (keys, st) → (r ≡ Ok (drop (length seen) keys, st)) × (keys ≡ seen ++ drop (length seen) keys)
part-made (Err fault) seen keys st e = absurd (true≢false (sym (ap is-made e)))
part-made (Ok m) seen keys st e =
    let both = ap (value-or (keys, st)) e in
    let own = sym (drop-own seen m.0) ∙ ap (λ p. drop (length seen) p.0) both in
    (ap Ok (ap (λ l. (l, m.1)) own ∙ ap (λ p. (drop (length seen) keys, p.1)) both), sym (ap (λ p. p.0) both) ∙ ap (λ l. seen ++ l) own)

prepended-none : (list : List tree.Label) (type : Scalar) (seen : List (Option ℤ)) (st : State)
    → labels list type [] seen st ≡ prepended seen (labels list type seen [] st)
prepended-none list type seen st = ap (λ l. labels list type [] l st) (sym (append-nil seen)) ∙ all-labels list type seen [] st

-- what is new in the set is the group's
pub group-labels : (list : List tree.Label) (type : Scalar) (seen keys : List (Option ℤ)) (st after : State) → labels list type [] seen st ≡ Ok (keys, after)
    → labels list type seen [] st ≡ Ok (drop (length seen) keys, after)
group-labels list type seen keys st after e = (part-made (labels list type seen [] st) seen keys after (sym (prepended-none list type seen st) ∙ e)).0

pub all-kept : (list : List tree.Label) (type : Scalar) (seen keys : List (Option ℤ)) (st after : State) → labels list type [] seen st ≡ Ok (keys, after)
    → keys ≡ seen ++ drop (length seen) keys
all-kept list type seen keys st after e = (part-made (labels list type seen [] st) seen keys after (sym (prepended-none list type seen st) ∙ e)).1

part-failed : (r : Made) (seen : List (Option ℤ)) (fault : Fault) → prepended seen r ≡ Err fault → r ≡ Err fault
part-failed (Ok m) seen fault e = absurd (true≢false (ap is-made e))
part-failed (Err other) seen fault e = e

pub group-failed : (list : List tree.Label) (type : Scalar) (seen : List (Option ℤ)) (st : State) (fault : Fault) → labels list type [] seen st ≡ Err fault
    → labels list type seen [] st ≡ Err fault
group-failed list type seen st fault e = part-failed (labels list type seen [] st) seen fault (sym (prepended-none list type seen st) ∙ e)
