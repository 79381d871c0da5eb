-- Lines that hold of some states hold of others with the same values.
use Rattle.std.proofs.Common.{◌≡◌, ◌∙◌, ℕ, Bool, true, false, if◌then◌else◌, ◌&&◌, ◌||◌, inl, inr, refl, sym, ap, ap₂, List, [], ◌∷◌, All}
use Rattle.std.proofs.lemmas.Bool.{cases_Bool, or_left, or_right}
use Rattle.std.proofs.lemmas.List.Elements.{All-head, All-tail}
use Rattle.term_core_spec.specs.declared.Variable.{Variable}
use Rattle.term_core_spec.specs.declared.Width.TheVariants.{W32}
use Rattle.term_core_spec.specs.Same.{same_variable}
use Rattle.term_core_spec.specs.Term.{Term}
use Rattle.term_core_spec.specs.Value.{Value, Number, Assignment, low_bits}
use Rattle.term_core_spec.proofs.Same.{variable-same}
use Rattle.term_core_spec.proofs.Variables.{value-occurs}
use Rattle.graph_core_spec.specs.Run.{State, Returned, is_shared, is_truth, unset}
use Rattle.graph_inline_spec.specs.Inlining.{TermSpeaksOf}
use Rattle.graph_inline_spec.proofs.Naming.{clash}
use Rattle.sim_rules_spec.specs.Points.{values_in, values_at, all_hold, is_binary, is_source, binary_memory, zone_memory, address}
use Rattle.sim_inline_laws.specs.Runs.{IsOfFunction, SameOfFunction}

-- ---- values at two states

chosen : (a b d : Bool) (p p2 q q2 z z2 r : Value) → p ≡ p2 → q ≡ q2 → (d ≡ true → z ≡ z2)
    → (if a then p else (if b then q else (if d then z else r))) ≡ (if a then p2 else (if b then q2 else (if d then z2 else r)))
chosen true b d p p2 q q2 z z2 r x y w = x
chosen false true d p p2 q q2 z z2 r x y w = y
chosen false false true p p2 q q2 z z2 r x y w = w refl
chosen false false false p p2 q q2 z z2 r x y w = refl

pub value_alike : (at : ℕ) (x x2 y y2 : State) (v : Variable) → values_in x v ≡ values_in x2 v → values_in y v ≡ values_in y2 v
    → (same_variable v zone_memory ≡ true → values_in x binary_memory ≡ values_in x2 binary_memory) → values_at at x y v ≡ values_at at x2 y2 v
value_alike at x x2 y y2 v p q z =
    chosen (is_binary v.family) (is_source v.family) (same_variable v zone_memory) (values_in x v) (values_in x2 v) (values_in y v) (values_in y2 v) (values_in x binary_memory)
    (values_in x2 binary_memory) (if same_variable v address then Number W32 (low_bits 32 at) else unset v.sort) p q z

-- ---- lines

pub lines_alike : (lines : List Term) (at : ℕ) (x x2 y y2 : State) → All (TermSpeaksOf (λ (v : Variable). values_at at x y v ≡ values_at at x2 y2 v)) lines
    → all_hold lines at x y ≡ all_hold lines at x2 y2
lines_alike [] at x x2 y y2 same = refl
lines_alike (line ∷ lines) at x x2 y y2 same =
    ap₂ (λ (a b : Bool). a && b)
    (ap is_truth (value-occurs (values_at at x y) (values_at at x2 y2) line (All-head (TermSpeaksOf (λ (v : Variable). values_at at x y v ≡ values_at at x2 y2 v)) line lines same)))
    (lines_alike lines at x x2 y y2 (All-tail (TermSpeaksOf (λ (v : Variable). values_at at x y v ≡ values_at at x2 y2 v)) line lines same))

-- a variable of a function's own is no memory
not_zone : (v : Variable) → is_shared v ≡ false → same_variable v zone_memory ≡ true → ⊥
not_zone v own same = clash (ap is_shared (variable-same v zone_memory same)) own

-- lines that speak of variables of the binary that have not changed
module _ (P : Variable → Type 0) (own : (v : Variable) → P v → is_shared v ≡ false) (lines : List Term) (speak : All (TermSpeaksOf P) lines) where
  pub binary_unchanged : (at : ℕ) (x x2 y : State) → ((v : Variable) → P v → values_in x v ≡ values_in x2 v) → all_hold lines at x y ≡ all_hold lines at x2 y
  binary_unchanged at x x2 y same =
      lines_alike lines at x x2 y y
      (λ k d less v o. let is = speak k d less v o in value_alike at x x2 y y v (same v is) refl (λ e. absurd (not_zone v (own v is) e)))

-- and of the source
module _ (P : Variable → Type 0) (lines : List Term) (speak : All (TermSpeaksOf P) lines) where
  pub source_unchanged : (at : ℕ) (x y y2 : State) → ((v : Variable) → P v → values_in y v ≡ values_in y2 v) → all_hold lines at x y ≡ all_hold lines at x y2
  source_unchanged at x y y2 same =
      lines_alike lines at x x y y2 (λ k d less v o. let is = speak k d less v o in value_alike at x x y y2 v refl (same v is) (λ e. refl))

-- what holds where both have returned
module _ (lines : List Term) (speak : All (TermSpeaksOf IsOfFunction) lines) (old new : State) (values result : Assignment) (old_is : old ≡ Returned values) (new_is : new ≡ Returned result)
    (same : SameOfFunction values result) where
  value_there : (v : Variable) → IsOfFunction v → values_in old v ≡ values_in new v
  value_there v is = ap (λ (s : State). values_in s v) old_is ∙ (sym (same v is) ∙ sym (ap (λ (s : State). values_in s v) new_is))

  pub binary_returns : (at : ℕ) (y : State) → all_hold lines at old y ≡ all_hold lines at new y
  binary_returns at y =
      lines_alike lines at old new y y (λ k d less v o. value_alike at old new y y v (value_there v (speak k d less v o)) refl (λ e. value_there binary_memory (inl refl)))

  pub source_returns : (at : ℕ) (x : State) → all_hold lines at x old ≡ all_hold lines at x new
  source_returns at x = lines_alike lines at x x old new (λ k d less v o. value_alike at x x old new v refl (value_there v (speak k d less v o)) (λ e. refl))

-- where a state has not failed, lines hold that held of another one
pub still_hold : (lines : List Term) (at : ℕ) (x x2 y y2 : State) (failed : Bool) → (failed ≡ false → all_hold lines at x y ≡ all_hold lines at x2 y2) → all_hold lines at x2 y2 ≡ true
    → (failed || all_hold lines at x y) ≡ true
still_hold lines at x x2 y y2 failed same there = elim (cases_Bool failed) [
  | inl bad ↦ or_left failed (all_hold lines at x y) bad
  | inr live ↦ or_right failed (all_hold lines at x y) (same live ∙ there)
]
