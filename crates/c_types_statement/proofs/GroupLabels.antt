-- The labels of a group, as the program gives them.
use Rattle.std.proofs.Common.{◌≡◌, ℕ, List, [], ◌++◌, length, drop, refl, sym, ap, ◌∙◌, true≢false}
use Rattle.std.specs.Prelude.{ℤ, Bool, true, false, Option, Result, Ok, Err, Vec, IfOk}
use Rattle.std.specs.declared.alloc.Global.{Global}
use Rattle.c_syntax_spec.specs.Unit as tree
use Rattle.c_types_spec.specs.declared.Scalar.{Scalar}
use Rattle.c_types_spec.specs.Names.{State, Fault}
use Rattle.c_types_spec.specs.Statements.{labels}
use Rattle.attempt.specs.declared.refusal.Refusal.{Refusal}
use Rattle.attempt.specs.declared.refusal.Refusal.TheVariants as refusal
use Rattle.c_types_core.specs.declared.fault.TypeFault.{TypeFault}
use Rattle.c_types_core.specs.declared.fault.TypeFault.TheVariants.{At}
use Rattle.c_types_operator.specs.Gives.{Gives}
use Rattle.c_types_scope.specs.declared.state.State.{State as Program}
use Rattle.c_types_scope.specs.States.{Runs, state_of}
use Rattle.c_types_statement.proofs.LabelSets.{group-labels, group-failed, all-kept}

abbrev Labels : Type 0
Labels = List (Option ℤ)

abbrev list-or : Labels → Result Labels Fault → Labels
list-or d (Ok x) = x
list-or d (Err fault) = d

abbrev is-list : Result Labels Fault → Bool
is-list (Ok x) = true
is-list (Err fault) = false

pub labels-given : (list : List tree.Label) (type : Scalar) (seen keys all : Labels) (start : ℕ) (st : State) (after : Program) (r : Result (Vec (Option ℤ) Global) (Refusal TypeFault))
    → start ≡ length seen → all ≡ keys → labels list type [] seen st ≡ Ok (keys, state_of after) → Gives (λ l. l.items) r (Ok (drop start all))
    → Runs (λ l. l.items) r after (labels list type seen [] st)
labels-given list type seen keys all start st after (Ok l) s a e g =
    group-labels list type seen keys st (state_of after) e
    ∙ ap (λ x. Ok (x, state_of after)) (ap (λ n. drop n keys) (sym s) ∙ ap (λ x. drop start x) (sym a) ∙ ap (list-or []) g)
labels-given list type seen keys all start st after (Err refusal.NoMemory) s a e g = tt {0}
labels-given list type seen keys all start st after (Err (refusal.Fault (At kind offset))) s a e g = absurd (true≢false (ap is-list g))

pub labels-kept : (list : List tree.Label) (type : Scalar) (seen keys all : Labels) (start : ℕ) (st : State) (after : Program) (r : Result (Vec (Option ℤ) Global) (Refusal TypeFault))
    → start ≡ length seen → all ≡ keys → labels list type [] seen st ≡ Ok (keys, state_of after) → Gives (λ l. l.items) r (Ok (drop start all))
    → IfOk r (λ l. keys ≡ seen ++ l.items)
labels-kept list type seen keys all start st after (Ok l) s a e g =
    all-kept list type seen keys st (state_of after) e
    ∙ ap (λ x. seen ++ x) (ap (λ n. drop n keys) (sym s) ∙ ap (λ x. drop start x) (sym a) ∙ ap (list-or []) g)
labels-kept list type seen keys all start st after (Err fault) s a e g = tt {0}

pub labels-failed : {A B : Type 0} (list : List tree.Label) (type : Scalar) (seen : Labels) (st : State) (one : A → Labels) (other : B → Labels) (after : Program) (fault : Refusal TypeFault)
    → Runs one (Err fault) after (labels list type [] seen st) → Runs other (Err fault) after (labels list type seen [] st)
labels-failed list type seen st one other after refusal.NoMemory h = tt {0}
labels-failed list type seen st one other after (refusal.Fault (At kind offset)) h = group-failed list type seen st (kind, offset) h
