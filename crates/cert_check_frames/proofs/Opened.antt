-- The terms that facts give, and the frame's bodies.
use Rattle.std.proofs.Common.{◌≡◌, ◌∙◌, List, [], ◌∷◌, ◌++◌, refl, sym, ap, inl, inr}
use Rattle.std.specs.Prelude.{Contains, if◌then◌else◌}
use Rattle.term_core_spec.specs.declared.Variable.{Variable}
use Rattle.term_core_spec.specs.Same.{same_variable}
use Rattle.term_core_spec.specs.Term.{Term, open_term}
use Rattle.term_core_spec.specs.Substitution.{State as Terms}
use Rattle.term_core.specs.Trees.{term_of}
use Rattle.proof_tree_spec.specs.Scope.{Body}
use Rattle.path_cond_spec.proofs.Edges.{contains_cases, contains_none}
use Rattle.agreement_laws.specs.EntryFrame.{Fact, given}
use Rattle.cert_check_terms.specs.Variables.{AreApart}
use Rattle.cert_check_frames.specs.declared.listed.Fact.{Fact as CodeFact}
use Rattle.cert_check_frames.specs.Listed.{terms_given}
use Rattle.cert_check_frames.specs.Facts.{facts_of}

pub given_of : (facts : List CodeFact) (v : Variable) → terms_given facts v ≡ given (facts_of facts) open_term v
unfolding terms_given
given_of [] v = refl
given_of (f ∷ facts) v = ap (λ (t : Term). if same_variable v f.variable then term_of f.term.value else t) (given_of facts v)

-- facts before others
pub given_before : (first second : List Fact) (rest : Terms) (v : Variable) → given (first ++ second) rest v ≡ given first (given second rest) v
given_before [] second rest v = refl
given_before (f ∷ first) second rest v = ap (λ (t : Term). if same_variable v f.variable then f.term else t) (given_before first second rest v)

-- a body alone
only : (b x : Body) → Contains (b ∷ []) x → b ≡ x
only b x m = elim (contains_cases b [] x m) [
  | inl same ↦ same
  | inr bad ↦ absurd (contains_none x bad)
]

pub one_apart : (b : Body) → AreApart (b ∷ [])
one_apart b = record {
  by_path = λ x y here there _. sym (only b x here) ∙ only b y there;
  by_instance = λ x y here there _. sym (only b x here) ∙ only b y there;
}
