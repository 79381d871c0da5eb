-- Terms that are well sorted, and in which the source has one memory.
use Rattle.std.proofs.Common.{◌≡◌, ◌∙◌, Bool, true, false, if◌then◌else◌, List, [], ◌∷◌, map, Some, refl, sym, subst, inl, inr}
use Rattle.std.specs.Prelude.{All}
use Rattle.std.specs.List.{fold}
use Rattle.std.proofs.lemmas.List.Elements.{All-nil, All-cons, All-head, All-tail}
use Rattle.term_core_spec.specs.declared.Width.{Width}
use Rattle.term_core_spec.specs.declared.Width.TheVariants.{W8, W32}
use Rattle.term_core_spec.specs.declared.Sort.{Sort}
use Rattle.term_core_spec.specs.declared.Sort.TheVariants.{Truth, Word, Memory}
use Rattle.term_core_spec.specs.declared.Family.TheVariants.{SourceMemory}
use Rattle.term_core_spec.specs.declared.Variable.{Variable}
use Rattle.term_core_spec.specs.Same.{same_variable}
use Rattle.term_core_spec.proofs.Same.{variable-same}
use Rattle.term_core_spec.specs.Term.{Term, Occurs, truth, open_term, and_term, or_term, not_term, equal, less, load, choose, over}
use Rattle.term_core_spec.specs.Sort.{sort_of, sort_of_atom, sort_of_unary, sort_of_binary, sort_of_ternary, sort_of_quaternary}
use Rattle.term_core_spec.proofs.Sorts.{same_sort-same}
use Rattle.term_core_spec.specs.Substitution.{State, substituted}
use Rattle.term_core_spec.proofs.Substitution.{sort-substituted, occurs-substituted}
use Rattle.sim_rules_spec.specs.Points.{source_memory}
use Rattle.sim_rules_spec.specs.Rules.{all_of}

-- a memory of the source is the one
abbrev pub IsPlain : Variable → Type 0
IsPlain v = v.family ≡ SourceMemory → v ≡ source_memory

pub record IsGood (t : Term) (s : Sort) : Type 0 where
  pub sorted : sort_of t ≡ Some s
  pub plain : (v : Variable) → Occurs v t → IsPlain v

-- of each variable that may occur, a term of its sort
abbrev pub IsGoodState : State → Type 0
IsGoodState state = (v : Variable) → IsPlain v → IsGood (state v) v.sort

abbrev pub IsTest : Term → Type 0
IsTest t = IsGood t Truth

-- ---- operators

pub open_good : (v : Variable) → IsPlain v → IsGood (open_term v) v.sort
unfolding sort_of sort_of_atom Occurs
open_good v plain = record { sorted = refl; plain = λ w o. subst IsPlain (sym o) plain }

pub truth_good : (b : Bool) → IsTest (truth b)
unfolding sort_of sort_of_atom Occurs
truth_good b = record { sorted = refl; plain = λ w o. absurd o }

pub not_good : (x : Term) → IsTest x → IsTest (not_term x)
unfolding sort_of sort_of_unary Occurs
not_good x h = record { sorted = rw (h.sorted) refl; plain = λ w o. h.plain w o }

pub and_good : (x y : Term) → IsTest x → IsTest y → IsTest (and_term x y)
unfolding sort_of sort_of_binary Occurs
and_good x y h k = record { sorted = rw (h.sorted, k.sorted) refl; plain = λ w o. elim o [ inl l ↦ h.plain w l | inr r ↦ k.plain w r ] }

pub or_good : (x y : Term) → IsTest x → IsTest y → IsTest (or_term x y)
unfolding sort_of sort_of_binary Occurs
or_good x y h k = record { sorted = rw (h.sorted, k.sorted) refl; plain = λ w o. elim o [ inl l ↦ h.plain w l | inr r ↦ k.plain w r ] }

pub equal_good : (w : Width) (x y : Term) → IsGood x (Word w) → IsGood y (Word w) → IsTest (equal x y)
unfolding sort_of sort_of_binary Occurs
equal_good w x y h k = record { sorted = rw (h.sorted, k.sorted, same_sort-same (Word w)) refl; plain = λ v o. elim o [ inl l ↦ h.plain v l | inr r ↦ k.plain v r ] }

pub less_good : (w : Width) (x y : Term) → IsGood x (Word w) → IsGood y (Word w) → IsTest (less x y)
unfolding sort_of sort_of_binary Occurs
less_good w x y h k = record { sorted = rw (h.sorted, k.sorted, same_sort-same (Word w)) refl; plain = λ v o. elim o [ inl l ↦ h.plain v l | inr r ↦ k.plain v r ] }

pub load_good : (m a : Term) → IsGood m Memory → IsGood a (Word W32) → IsGood (load m a) (Word W8)
unfolding sort_of sort_of_binary Occurs
load_good m a h k = record { sorted = rw (h.sorted, k.sorted) refl; plain = λ v o. elim o [ inl l ↦ h.plain v l | inr r ↦ k.plain v r ] }

pub choose_good : (s : Sort) (t x y : Term) → IsTest t → IsGood x s → IsGood y s → IsGood (choose t x y) s
unfolding sort_of sort_of_ternary Occurs
choose_good s t x y g h k = record {
  sorted = rw (g.sorted, h.sorted, k.sorted, same_sort-same s) refl;
  plain = λ v o. elim o [ inl l ↦ g.plain v l | inr (inl m) ↦ h.plain v m | inr (inr r) ↦ k.plain v r ];
}

pub over_good : (m z low high : Term) → IsGood m Memory → IsGood z Memory → IsGood low (Word W32) → IsGood high (Word W32) → IsGood (over m z low high) Memory
unfolding sort_of sort_of_quaternary Occurs
over_good m z low high f g h k = record {
  sorted = rw (f.sorted, g.sorted, h.sorted, k.sorted) refl;
  plain = λ v o. elim o [ inl a ↦ f.plain v a | inr (inl b) ↦ g.plain v b | inr (inr (inl c)) ↦ h.plain v c | inr (inr (inr d)) ↦ k.plain v d ];
}

pub either_good : (b : Bool) (s : Sort) (x y : Term) → (b ≡ true → IsGood x s) → IsGood y s → IsGood (if b then x else y) s
either_good true s x y h k = h refl
either_good false s x y h k = k

-- where a variable is this one, a term of its sort
pub put_good : (v w : Variable) (x y : Term) → IsGood x w.sort → IsGood y v.sort → IsGood (if same_variable v w then x else y) v.sort
put_good v w x y h k =
    either_good (same_variable v w) v.sort x y (λ same. subst (λ (u : Variable). IsGood x u.sort) (sym (variable-same v w same)) h) k

-- ---- terms put in for variables

pub substituted_good : (state : State) → IsGoodState state → (t : Term) (s : Sort) → IsGood t s → IsGood (substituted state t) s
substituted_good state good t s h = record {
  sorted = sort-substituted state t (λ v o. (good v (h.plain v o)).sorted) ∙ h.sorted;
  plain = λ w o. let from = occurs-substituted state t w o in (good from.0 (h.plain from.0 from.1)).plain w from.2;
}

-- ---- many tests

abbrev pub AreTests : List Term → Type 0
AreTests terms = All IsTest terms

pub fold_good : (terms : List Term) (t : Term) → IsTest t → AreTests terms → IsTest (fold and_term t terms)
fold_good [] t h all = h
fold_good (u ∷ terms) t h all = fold_good terms (and_term t u) (and_good t u h (All-head IsTest u terms all)) (All-tail IsTest u terms all)

pub all_good : (terms : List Term) → AreTests terms → IsTest (all_of terms)
all_good [] all = truth_good true
all_good (t ∷ terms) all = fold_good terms t (All-head IsTest t terms all) (All-tail IsTest t terms all)

pub mapped_good : {X : Type 0} (f : X → Term) → (xs : List X) → All (λ (x : X). IsTest (f x)) xs → AreTests (map f xs)
mapped_good f [] all = All-nil IsTest
mapped_good {X} f (x ∷ xs) all = All-cons IsTest (f x) (map f xs) (All-head (λ (y : X). IsTest (f y)) x xs all) (mapped_good f xs (All-tail (λ (y : X). IsTest (f y)) x xs all))
