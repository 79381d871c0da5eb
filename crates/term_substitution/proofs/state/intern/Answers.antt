use Rattle.std.proofs.Common.{◌≡◌, ◌∙◌, ℕ, List, Option, Some, None, ap}
use Rattle.std.specs.HashMap.{get}
use Rattle.std.specs.Map.{lookup}
use Rattle.std.proofs.lemmas.Result.{IfOk-weaker}
use Rattle.term_core_spec.specs.declared.Variable.{Variable}
use Rattle.term_core_spec.specs.Same.{same_variable}
use Rattle.term_core_spec.specs.Term.{open_term}
use Rattle.term_core.specs.Trees.{term_of}
use Rattle.term_substitution.specs.States.{tree_or, state_of}
use Rattle.term_substitution.proofs.Taking.{stays}
use Rattle.term_substitution.proofs.state.intern.Goals as goal

pub returns-clause-tree : goal.returns-clause-tree
returns-clause-tree c =
    let none : (v : Variable) → get same_variable c.new-none.result v ≡ None = λ v. ap (λ (entries : List (Variable × ℕ)). lookup (same_variable v) entries) c.new-none.ensures.empty in
    IfOk-weaker c.substitute.result _ _
    (λ i at. at ∙ ap Some (stays (state_of c.args.bank.now (get same_variable c.new-none.result)) (λ v. ap (λ (o : Option ℕ). tree_or c.args.bank.now o (open_term v)) (none v)) (term_of c.args.term.now)))
    c.substitute.ensures.tree

pub substitute-requires : goal.substitute-requires
substitute-requires c = λ v i is.
    let none : get same_variable c.new-none.result v ≡ None = ap (λ (entries : List (Variable × ℕ)). lookup (same_variable v) entries) c.new-none.ensures.empty in
    absurd (cc)
