-- Listed functions with their bodies.
use Rattle.std.proofs.Common.{◌≡◌, ◌∙◌, ℕ, zero, suc, List, [], ◌∷◌, All, find, map, unwrap_or, Option, Some, None, refl, sym, ap, subst, arith, inl, inr}
use Rattle.std.specs.Prelude.{Contains, bytes_eq}
use Rattle.std.proofs.lemmas.Bool.{cases_Bool}
use Rattle.std.proofs.lemmas.Slice.Eq.{bytes_eq-Decides}
use Rattle.c_types_spec.specs.Core.{Body, Typed}
use Rattle.pair_setup_spec.specs.SourceReach.{body_of, itself}
use Rattle.pair_setup_spec.specs.Faults.{LacksBody}
use Rattle.pair_setup_spec.specs.Outcome as outcome
use Rattle.validity_laws.specs.Derivation.{Function}
use Rattle.cert_run.specs.Sides.{function_in, no_body}

-- ---- lists under a map

module _ {X Y : Type 0} (f : X → Y) where
  pub mapped_from : (xs : List X) (y : Y) → Contains (map f xs) y → (x : X) × Contains xs x × (y ≡ f x)
  mapped_from [] y (k, within, at) = absurd (omega (arith, within))
  mapped_from (x ∷ xs) y (zero, within, at) = (x, (0, omega arith, refl), sym at)
  mapped_from (x ∷ xs) y (suc k, within, at) =
      let rest = mapped_from xs y (k, omega (arith, within), at) in
      (rest.0, (suc rest.1.0, omega (arith, rest.1.1), rest.1.2), rest.2)

  pub mapped_to : (xs : List X) (x : X) → Contains xs x → Contains (map f xs) (f x)
  mapped_to [] x (k, within, at) = absurd (omega (arith, within))
  mapped_to (h ∷ xs) x (zero, within, at) = (0, omega arith, ap f at)
  mapped_to (h ∷ xs) x (suc k, within, at) =
      let rest = mapped_to xs x (k, omega (arith, within), at) in
      (suc rest.0, omega (arith, rest.1), rest.2)

  pub all_under : (P : Y → Type 0) (xs : List X) → All P (map f xs) → All (λ (x : X). P (f x)) xs
  all_under P [] all k d h = absurd (omega (arith, h))
  all_under P (x ∷ xs) all zero d h = all 0 (f x) (omega arith)
  all_under P (x ∷ xs) all (suc k) d h = all_under P xs (λ i e l. all (suc i) e (omega (arith, l))) k d (omega (arith, h))

-- ---- bodies

-- what a look-up finds has the name
found_named : (bodies : List Body) (name : List ℕ) (body : Body) → find (λ (b : Body). bytes_eq b.name name) bodies ≡ Some body → body.name ≡ name
found_named [] name body e = absurd (cc)
found_named (first ∷ bodies) name body e = elim (cases_Bool (bytes_eq first.name name)) [
  | inl h ↦ (let same : first ≡ body = (let both : Some first ≡ Some body = rw h at e in cc) in
      subst (λ (b : Body). b.name ≡ name) same ((bytes_eq-Decides first.name name).0 h))
  | inr h ↦ found_named bodies name body (rw h at e)
]

-- the body of a listed function
pub record HasBody (unit : Typed) (f : outcome.Function) : Type 0 where
  pub body_is : body_of unit f.name ≡ Some (function_in unit f).body
  pub named : (function_in unit f).body.name ≡ f.name

pub has_body : (unit : Typed) (f : outcome.Function) → ((other : List ℕ) → LacksBody unit f.name other → ⊥) → HasBody unit f
has_body unit f none = at (body_of unit f.name) refl
  where
    at : (o : Option Body) → body_of unit f.name ≡ o → HasBody unit f
    at None e = absurd (none f.name (record { reached = itself; absent = e }))
    at (Some body) e =
        let chosen : (function_in unit f).body ≡ body = ap (λ (o : Option Body). unwrap_or o no_body) e in
        record {
          body_is = e ∙ ap Some (sym chosen);
          named = ap (λ (b : Body). b.name) chosen ∙ found_named unit.bodies f.name body e;
        }

-- functions with one name, entry and stack
pub same_function : (unit : Typed) (f g : outcome.Function) → f.name ≡ g.name → f.entry ≡ g.entry → f.stack ≡ g.stack → function_in unit f ≡ function_in unit g
same_function unit f g names entries stacks =
    let made : ℕ → ℕ → List ℕ → Function = λ entry stack name. record { entry = entry; stack = stack; body = unwrap_or (body_of unit name) no_body } in
    ap (λ (e : ℕ). made e f.stack f.name) entries ∙ ap (λ (s : ℕ). made g.entry s f.name) stacks ∙ ap (λ (n : List ℕ). made g.entry g.stack n) names
