-- Two states at the entry have the values of the opening's terms.
use Rattle.std.proofs.Common.{◌≡◌, ◌∙◌, ℕ, ◌==◌, Bool, true, false, if◌then◌else◌, List, [], ◌∷◌, ◌++◌, refl, sym, ap, ap₂}
use Rattle.std.specs.List.{All}
use Rattle.std.proofs.lemmas.Bool.{eqb-true}
use Rattle.std.proofs.lemmas.List.Elements.{All-head, All-tail}
use Rattle.term_core_spec.specs.declared.Variable.{Variable}
use Rattle.term_core_spec.specs.Same.{same_variable}
use Rattle.term_core_spec.proofs.Same.{variable-same}
use Rattle.term_core_spec.specs.Sort.{same_width}
use Rattle.term_core_spec.proofs.Sorts.{same_width-true}
use Rattle.term_core_spec.specs.Term.{Term, equal, open_term}
use Rattle.term_core_spec.specs.Value.{Value, Truth, Number, Bytes, Assignment, value, binary_value, equal_values, stray}
use Rattle.term_core_spec.specs.Substitution.{State as Terms}
use Rattle.path_cond_spec.specs.Passages.{holds}
use Rattle.agreement_laws.specs.EntryFrame.{Pair, Fact, given, lines_of, convention_of, entry_opening, binary_facts, source_facts}
use Rattle.graph_core_spec.specs.Simulation.{IsRelated}
use Rattle.graph_core_spec.specs.Run.{State, has_failed, is_truth}
use Rattle.memory_spec.specs.Zones.{Zone}
use Rattle.proof_tree_spec.specs.Frames.{Frame}
use Rattle.sim_rules_spec.specs.Points.{values_at, values_in, other_values, with_memory, same_byte, binary_memory}
use Rattle.sim_rules_spec.specs.Systems.{IsBinaryFine, IsSourceFine}
use Rattle.sim_rules_spec.specs.Rules.{at_cut}
use Rattle.sim_rules_spec.specs.Proper.{IsConvention, IsOpened}
use Rattle.sim_rules_spec.proofs.AtCut.{cuts_open}
use Rattle.sim_rules_spec.proofs.Sides.{sides-binary, sides-source}
use Rattle.sim_rules_spec.proofs.Truths.{all_left, all_right, all_mapped, all_pass, pass_all}
use Rattle.agreement_laws.proofs.ReadBack.{open_value}
use Rattle.agreement_laws.proofs.Facts.{FactHolds}

-- where each fact's variable has the value of its term, the terms of all variables have their values
pub given_values : (s : Assignment) (facts : List Fact) (rest : Terms) → All (λ (fact : Fact). value s fact.term ≡ s fact.variable) facts → (v : Variable)
    → value s (rest v) ≡ s v → value s (given facts rest v) ≡ s v
given_values s [] rest all v same = same
given_values s (fact ∷ facts) rest all v same =
    by (same_variable v fact.variable) refl (given_values s facts rest (All-tail (λ (fact : Fact). value s fact.term ≡ s fact.variable) fact facts all) v same)
  where
    by : (b : Bool) → same_variable v fact.variable ≡ b → value s (given facts rest v) ≡ s v
        → value s (if b then fact.term else given facts rest v) ≡ s v
    by true e later = All-head (λ (fact : Fact). value s fact.term ≡ s fact.variable) fact facts all ∙ sym (ap s (variable-same v fact.variable e))
    by false e later = later

-- ---- from the facts as lines

pub equal_true : (u v : Value) → is_truth (equal_values u v) ≡ true → v ≡ u
equal_true (Truth true) (Truth true) h = refl
equal_true (Truth true) (Truth false) h = absurd (let bad : false ≡ true = h in cc)
equal_true (Truth false) (Truth true) h = absurd (let bad : false ≡ true = h in cc)
equal_true (Truth false) (Truth false) h = refl
equal_true (Truth a) (Number w n) h = absurd (let bad : false ≡ true = h in cc)
equal_true (Truth a) (Bytes m) h = absurd (let bad : false ≡ true = h in cc)
equal_true (Number w n) (Truth a) h = absurd (let bad : false ≡ true = h in cc)
equal_true (Number w n) (Bytes m) h = absurd (let bad : false ≡ true = h in cc)
equal_true (Number w n) (Number z k) h = by (same_width w z) refl h
  where
    by : (b : Bool) → same_width w z ≡ b → is_truth (if b then Truth (n == k) else stray) ≡ true → Number z k ≡ Number w n
    by true e h = ap₂ Number (sym (same_width-true w z e)) (sym (eqb-true n k h))
    by false e h = absurd (let bad : false ≡ true = h in cc)
equal_true (Bytes m) v h = absurd (let bad : false ≡ true = h in cc)

pub fact_value : (s : Assignment) (fact : Fact) → FactHolds s fact → value s fact.term ≡ s fact.variable
unfolding value binary_value
fact_value s fact h = equal_true (s fact.variable) (value s fact.term) h

facts_values : (s : Assignment) (facts : List Fact) → All (FactHolds s) facts → All (λ (fact : Fact). value s fact.term ≡ s fact.variable) facts
facts_values s facts all i d lt = fact_value s _ (all i d lt)

module _ (p : Pair) (zone : Zone) (f : Frame) (convention : IsConvention (convention_of p zone)) (x y : State) (live_x : has_failed x ≡ false) (live_y : has_failed y ≡ false) (known : IsRelated (entry_opening p zone).known x y)
    (fine_x : IsBinaryFine (convention_of p zone) f x) (fine_y : IsSourceFine (convention_of p zone) f y) (at : ℕ) where
  abbrev s : Assignment
  s = values_at at x y

  lines_at : (q : ℕ) → All (λ (line : Term). holds (values_at q x y) line ≡ true) (lines_of (binary_facts p ++ source_facts p) ++ same_byte (convention_of p zone) ∷ [])
  lines_at q = all_pass (λ (line : Term). holds (values_at q x y) line) (with_memory (convention_of p zone) (lines_of (binary_facts p ++ source_facts p))) (known q)

  facts_at : All (FactHolds s) (binary_facts p ++ source_facts p)
  facts_at = all_mapped (λ (line : Term). holds s line ≡ true) (λ (fact : Fact). equal (open_term fact.variable) fact.term) (binary_facts p ++ source_facts p)
      (all_left (λ (line : Term). holds s line ≡ true) (lines_of (binary_facts p ++ source_facts p)) (same_byte (convention_of p zone) ∷ []) (lines_at at))

  at_the_cut : IsOpened (at_cut (convention_of p zone)) at x y
  at_the_cut = (cuts_open (convention_of p zone) f convention).opened x y live_x live_y
      (λ q. pass_all (λ (line : Term). holds (values_at q x y) line) (same_byte (convention_of p zone) ∷ [])
      (all_right (λ (line : Term). holds (values_at q x y) line ≡ true) (lines_of (binary_facts p ++ source_facts p)) (same_byte (convention_of p zone) ∷ []) (lines_at q)))
      fine_x fine_y at

  -- two states of which the facts are known have the values of the opening's terms
  pub opened : IsOpened (entry_opening p zone) at x y
  opened = record {
    binary = λ v own.
        let side = sides-binary (values_in x) (values_in y) (other_values at (values_in x binary_memory)) v own in
        given_values s (binary_facts p) (at_cut (convention_of p zone)).binary (facts_values s (binary_facts p) (all_left (FactHolds s) (binary_facts p) (source_facts p) facts_at)) v
        (at_the_cut.binary v own ∙ sym side) ∙ side;
    source = λ v own.
        let side = sides-source (values_in x) (values_in y) (other_values at (values_in x binary_memory)) v own in
        given_values s (source_facts p) open_term (facts_values s (source_facts p) (all_right (FactHolds s) (binary_facts p) (source_facts p) facts_at)) v
        (open_value s v) ∙ side;
  }
