-- The names of inlined variables: different variables keep different names.
use Rattle.std.proofs.Common.{◌≡◌, ◌∙◌, ◌≢◌, ◌⊎◌, inl, inr, ℕ, Bool, true, false, if◌then◌else◌, refl, sym, ap, List, All, Contains}
use Rattle.std.proofs.lemmas.Bool.{false_from_ne_true}
use Rattle.std.proofs.lemmas.List.Elements.{All-contains}
use Rattle.term_core_spec.specs.declared.Family.{Family}
use Rattle.term_core_spec.specs.declared.Sort.{Sort}
use Rattle.term_core_spec.specs.declared.Variable.{Variable}
use Rattle.term_core_spec.specs.contracts.VariableEq.TheImpl.Laws as variable_laws
use Rattle.term_core_spec.specs.Same.{same_variable}
use Rattle.term_core_spec.specs.Substitution.{at_instance}
use Rattle.term_core_spec.proofs.Same.{variable-same}
use Rattle.graph_core_spec.specs.Run.{is_shared}
use Rattle.graph_inline_spec.specs.Naming.{inlined_variable}
use Rattle.graph_inline_spec.specs.Inlining.{IsOfCallee, IsElsewhere, IsOwn}

pub clash : {b : Bool} → b ≡ true → b ≡ false → ⊥
clash x y = cc

pub either : (b : Bool) → (b ≡ true) ⊎ (b ≡ false)
either true = inl refl
either false = inr refl

pub same : (v : Variable) → same_variable v v ≡ true
same v = variable_laws.lawful.laws.refl v

pub differ : (v w : Variable) → v ≢ w → same_variable v w ≡ false
differ v w other = false_from_ne_true (same_variable v w) (λ e. other (variable-same v w e))

module _ (instance : ℕ) where
  pub name_shared : (v : Variable) → is_shared v ≡ true → inlined_variable instance v ≡ v
  name_shared v shared = ap (λ (b : Bool). if b then v else at_instance instance v) shared

  pub name_own : (v : Variable) → is_shared v ≡ false → inlined_variable instance v ≡ at_instance instance v
  name_own v own = ap (λ (b : Bool). if b then v else at_instance instance v) own

  -- a name is shared where the variable is
  pub name_is_shared : (v : Variable) → is_shared (inlined_variable instance v) ≡ is_shared v
  name_is_shared v = elim (either (is_shared v)) [
    | inl shared ↦ ap is_shared (name_shared v shared)
    | inr own ↦ ap is_shared (name_own v own)
  ]

  -- an inlined variable that is shared, or is elsewhere, is itself shared
  pub name_elsewhere : (v w : Variable) → IsElsewhere instance v → is_shared v ≡ false → v ≢ inlined_variable instance w
  name_elsewhere v w (inl shared) own e = clash shared own
  name_elsewhere v w (inr other) own e = elim (either (is_shared w)) [
    | inl shared ↦ clash (ap is_shared e ∙ name_is_shared w ∙ shared) own
    | inr apart ↦ other (ap (λ (u : Variable). u.instance) (e ∙ name_own w apart))
  ]

  made : Family → ℕ → ℕ → Sort → Variable
  made f i n s = record { family = f; index = i; instance = n; sort = s }

  fields : (f g : Family) (i j n m : ℕ) (s t : Sort) → f ≡ g → i ≡ j → n ≡ m → s ≡ t → made f i n s ≡ made g j m t
  fields f g i j n m s t p q r u = cc

  own_apart : (v w : Variable) → v.instance ≡ w.instance → at_instance instance v ≡ at_instance instance w → v ≡ w
  unfolding made
  own_apart v w first e =
      fields v.family w.family v.index w.index v.instance w.instance v.sort w.sort
      (ap (λ (u : Variable). u.family) e) (ap (λ (u : Variable). u.index) e) first (ap (λ (u : Variable). u.sort) e)

  module _ (own : List Variable) (are_own : All IsOwn own) where
    pub own_is : (v : Variable) → Contains own v → IsOwn v
    own_is v there = All-contains IsOwn own v are_own there

    first_instance : (v : Variable) → IsOfCallee own v → is_shared v ≡ false → v.instance ≡ 0
    first_instance v (inl shared) apart = absurd (clash shared apart)
    first_instance v (inr there) apart = (own_is v there).1

    pub names_differ : (v w : Variable) → IsOfCallee own v → IsOfCallee own w → inlined_variable instance v ≡ inlined_variable instance w → v ≡ w
    names_differ v w of_v of_w e = elim (either (is_shared v)) [
      | inl shared ↦
          let too : is_shared w ≡ true = sym (name_is_shared w) ∙ sym (ap is_shared e) ∙ name_is_shared v ∙ shared in
          sym (name_shared v shared) ∙ e ∙ name_shared w too
      | inr apart ↦
          let too : is_shared w ≡ false = sym (name_is_shared w) ∙ sym (ap is_shared e) ∙ name_is_shared v ∙ apart in
          own_apart v w (first_instance v of_v apart ∙ sym (first_instance w of_w too)) (sym (name_own v apart) ∙ e ∙ name_own w too)
    ]

    -- the test of names is the test of the variables
    pub same_name : (v w : Variable) → IsOfCallee own v → IsOfCallee own w → same_variable (inlined_variable instance v) (inlined_variable instance w) ≡ same_variable v w
    same_name v w of_v of_w = elim (either (same_variable v w)) [
      | inl agree ↦ ap (λ (u : Variable). same_variable (inlined_variable instance u) (inlined_variable instance w)) (variable-same v w agree) ∙ same (inlined_variable instance w) ∙ sym agree
      | inr disagree ↦ differ _ _ (λ e. clash (ap (λ (u : Variable). same_variable u w) (names_differ v w of_v of_w e) ∙ same w) disagree) ∙ sym disagree
    ]
