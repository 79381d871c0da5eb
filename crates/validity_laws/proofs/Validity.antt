-- Goals that logs close are true wherever the source's memories hold the fixed bytes.
use Rattle.std.proofs.Common.{◌≡◌, ◌∙◌, ◌⊎◌, ℕ, Bool, true, false, if◌then◌else◌, List, Option, Some, refl, sym, ap, subst, inl, inr}
use Rattle.std.proofs.lemmas.Bool.{eqb-true}
use Rattle.memory_spec.specs.Runs.{Run, AreBytes, fixed_byte}
use Rattle.term_core_spec.specs.declared.Sort.{Sort}
use Rattle.term_core_spec.specs.declared.Sort.TheVariants as sort
use Rattle.term_core_spec.specs.declared.Family.{Family}
use Rattle.term_core_spec.specs.declared.Family.TheVariants as family
use Rattle.term_core_spec.specs.declared.Variable.{Variable}
use Rattle.term_core_spec.specs.Term.{Term, Occurs}
use Rattle.term_core_spec.specs.Sort.{sort_of}
use Rattle.term_core_spec.specs.Same.{same_variable}
use Rattle.term_core_spec.proofs.Same.{variable-same}
use Rattle.term_core_spec.specs.Value.{Value, Bytes, Assignment, IsAssignment, IsOfSort}
use Rattle.term_core_spec.proofs.Variables.{value-occurs}
use Rattle.term_norm_spec.specs.Fixed.{HoldsFixed}
use Rattle.graph_core_spec.specs.Run.{is_truth}
use Rattle.graph_core_spec.specs.Fixed.{has_byte}
use Rattle.path_cond_spec.specs.Passages.{holds}
use Rattle.sim_rules_spec.specs.Points.{Convention, source_memory}
use Rattle.sim_rules_spec.specs.Rules.{HasFixed, IsTrueWith}
use Rattle.sim_rules_spec.specs.Calls.{fresh, IsTrueAcross}
use Rattle.discharge.proofs.Sound.{closed_is_true}
use Rattle.validity_laws.specs.Closed.{IsClosedGoal}
use Rattle.validity_laws.proofs.Good.{IsTest}
use Rattle.validity_laws.proofs.TwoMemories.{IsSoundTest}

-- ---- an assignment in which each memory of the source that is not kept is the one

abbrev is_other : Family → Sort → Bool
is_other family.SourceMemory sort.Memory = true
is_other f s = false

module _ (keep : Variable → Bool) where
  alone : Assignment → Assignment
  alone a = λ v. if is_other v.family v.sort then (if keep v then a v else a source_memory) else a v

  alone_sorted : (a : Assignment) → IsAssignment a → IsAssignment (alone a)
  unfolding alone
  alone_sorted a sorted v = by v.family v.sort refl
    where
      kept : (k : Bool) (s : Sort) → v.sort ≡ s → s ≡ sort.Memory → IsOfSort v.sort (if k then a v else a source_memory)
      kept true s is memory = sorted v
      kept false s is memory = subst (λ (t : Sort). IsOfSort t (a source_memory)) (sym (is ∙ memory)) (sorted source_memory)

      by : (f : Family) (s : Sort) → v.sort ≡ s → IsOfSort v.sort (if is_other f s then (if keep v then a v else a source_memory) else a v)
      by family.SourceMemory sort.Memory is = kept (keep v) sort.Memory is refl
      by f s is = sorted v

  abbrev IsKept : Variable → Type 0
  IsKept v = v.family ≡ family.SourceMemory → (v ≡ source_memory) ⊎ (keep v ≡ true)

  same_alone : (a : Assignment) (v : Variable) → IsKept v → alone a v ≡ a v
  unfolding alone
  same_alone a v kept = by v.family v.sort refl
    where
      one : (k : Bool) → v ≡ source_memory → (if k then a v else a source_memory) ≡ a v
      one true is = refl
      one false is = ap a (sym is)

      by : (f : Family) (s : Sort) → v.family ≡ f → (if is_other f s then (if keep v then a v else a source_memory) else a v) ≡ a v
      by family.SourceMemory sort.Memory is = elim (kept is) [
        | inl same ↦ one (keep v) same
        | inr own ↦ ap (λ (b : Bool). if b then a v else a source_memory) own
      ]
      by f s is = refl

-- a memory is no word
is_bytes : (v : Variable) (u : Value) (memory : ℕ → ℕ) → IsOfSort v.sort u → u ≡ Bytes memory → v.sort ≡ sort.Memory
is_bytes v u memory of is = by v.sort (subst (IsOfSort v.sort) is of)
  where
    by : (s : Sort) → IsOfSort s (Bytes memory) → s ≡ sort.Memory
    by sort.Truth h = absurd h
    by (sort.Word w) h = absurd h
    by sort.Memory h = refl

byte_there : (u : Value) (memory : ℕ → ℕ) (at byte : ℕ) (o : Option ℕ) → u ≡ Bytes memory → o ≡ Some byte → has_byte u at o ≡ true → memory at ≡ byte
byte_there u memory at byte o is some has =
    eqb-true (memory at) byte (subst (λ (p : Option ℕ). has_byte (Bytes memory) at p ≡ true) some (subst (λ (w : Value). has_byte w at o ≡ true) is has))

module _ (c : Convention) (runs : List Run) (bytes : AreBytes runs) (fixed : (at : ℕ) → fixed_byte runs at ≡ c.fixed at) where
  module _ (keep : Variable → Bool) where
    alone_fixed : (a : Assignment) → IsAssignment a → HasFixed c (a source_memory) → ((v : Variable) → keep v ≡ true → HasFixed c (a v)) → HoldsFixed runs (alone keep a)
    unfolding alone
    alone_fixed a sorted has also v is memory of at byte some =
        let there : v.sort ≡ sort.Memory = is_bytes v (alone keep a v) memory (alone_sorted keep a sorted v) of in
        let one : is_other v.family v.sort ≡ true =
        ap (λ (f : Family). is_other f v.sort) is ∙ ap (λ (s : Sort). is_other family.SourceMemory s) there in
        let same : (if keep v then a v else a source_memory) ≡ Bytes memory = sym (ap (λ (b : Bool). if b then (if keep v then a v else a source_memory) else a v) one) ∙ of in
        byte_there (if keep v then a v else a source_memory) memory at byte (c.fixed at) same (sym (fixed at) ∙ some) (by (keep v) refl at)
      where
        by : (k : Bool) → keep v ≡ k → HasFixed c (if k then a v else a source_memory)
        by true own = also v own
        by false own = has

    closed_true : (goal : Term) → sort_of goal ≡ Some sort.Truth → ((v : Variable) → Occurs v goal → IsKept keep v) → IsClosedGoal runs goal
        → (a : Assignment) → IsAssignment a → HasFixed c (a source_memory) → ((v : Variable) → keep v ≡ true → HasFixed c (a v)) → holds a goal ≡ true
    closed_true goal is_test kept closed a sorted has also =
        ap is_truth
        (value-occurs a (alone keep a) goal (λ v o. sym (same_alone keep a v (kept v o)))
        ∙ closed_is_true runs bytes goal closed.0 is_test closed.1 (alone keep a) (alone_sorted keep a sorted) (alone_fixed a sorted has also))

  pub goal_true : (goal : Term) → IsTest goal → IsClosedGoal runs goal → IsTrueWith c goal
  goal_true goal good closed a sorted has =
      closed_true (λ v. false) goal good.sorted (λ v o is. inl (good.plain v o is)) closed a sorted has (λ v bad. absurd (let no : false ≡ true = bad in cc))

  -- of two memories
  abbrev is_left_memory : Variable → Bool
  is_left_memory v = same_variable v (fresh source_memory)

  pub goal_true_across : (goal : Term) → IsSoundTest goal → IsClosedGoal runs goal → IsTrueAcross c goal
  goal_true_across goal sound closed a sorted has also =
      closed_true is_left_memory goal sound.sorted
      (λ v o is. elim (sound.either v o is) [ inl one ↦ inl one | inr other ↦ inr (ap is_left_memory other) ]) closed a sorted has
      (λ v same. subst (λ (w : Variable). HasFixed c (a w)) (sym (variable-same v (fresh source_memory) same)) also)
