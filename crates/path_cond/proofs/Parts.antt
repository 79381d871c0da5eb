-- Ids by their parts: at 0, at the odd numbers, and at the other even ones.
use Rattle.std.proofs.Common.{◌≡◌, ◌∙◌, ℕ, ◌==◌, ◌-◌, ◌/◌, ◌%◌, Bool, if◌then◌else◌, Option, Some, sym, ap, ap₂, inl, inr, arith}
use Rattle.std.proofs.lemmas.Bool.{cases_eq, eq-eqb, ne_eqb}

abbrev pub parted : Option ℕ → (ℕ → Option ℕ) → (ℕ → Option ℕ) → ℕ → Option ℕ
parted first odd even n = if n == 0 then first else (if n % 2 == 1 then odd (n / 2) else even (n / 2 - 1))

same_tests : (a b c d : ℕ) → (a ≡ b → c ≡ d) → (c ≡ d → a ≡ b) → (a == b) ≡ (c == d)
same_tests a b c d there back = elim (cases_eq a b) [
  | inl same ↦ eq-eqb a b same ∙ sym (eq-eqb c d (there same))
  | inr apart ↦ ne_eqb a b apart ∙ sym (ne_eqb c d (λ e. apart (back e)))
]

module _ (first : Option ℕ) (odd even : ℕ → Option ℕ) where
  at_zero : (n : ℕ) → n ≡ 0 → parted first odd even n ≡ first
  at_zero n zero_is = ap (λ (b : Bool). if b then first else (if n % 2 == 1 then odd (n / 2) else even (n / 2 - 1))) (eq-eqb n 0 zero_is)

  at_odd : (n : ℕ) → n % 2 ≡ 1 → parted first odd even n ≡ odd (n / 2)
  at_odd n is =
      let some : n ≡ 0 → ⊥ = λ e. omega arith in
      ap (λ (b : Bool). if b then first else (if n % 2 == 1 then odd (n / 2) else even (n / 2 - 1))) (ne_eqb n 0 some)
      ∙ ap (λ (b : Bool). if b then odd (n / 2) else even (n / 2 - 1)) (eq-eqb (n % 2) 1 is)

  at_even : (n : ℕ) → (n ≡ 0 → ⊥) → (n % 2 ≡ 1 → ⊥) → parted first odd even n ≡ even (n / 2 - 1)
  at_even n some is =
      ap (λ (b : Bool). if b then first else (if n % 2 == 1 then odd (n / 2) else even (n / 2 - 1))) (ne_eqb n 0 some)
      ∙ ap (λ (b : Bool). if b then odd (n / 2) else even (n / 2 - 1)) (ne_eqb (n % 2) 1 is)

-- one changed, by the part that it belongs to
module _ (first : Option ℕ) (odd even : ℕ → Option ℕ) (number id : ℕ) where
  abbrev changed : ℕ → Option ℕ
  changed n = if n == number then Some id else parted first odd even n

  changed-at : (n : ℕ) (x : Option ℕ) → parted first odd even n ≡ x → (n ≡ number → ⊥) → changed n ≡ x
  changed-at n x is apart = ap (λ (b : Bool). if b then Some id else parted first odd even n) (ne_eqb n number apart) ∙ is

  pub put_zero : number ≡ 0 → (n : ℕ) → parted (Some id) odd even n ≡ changed n
  put_zero zero_is n = elim (cases_eq n 0) [
    | inl here ↦ at_zero (Some id) odd even n here ∙ sym (ap (λ (b : Bool). if b then Some id else parted first odd even n) (eq-eqb n number (omega arith)))
    | inr away ↦
        let apart : n ≡ number → ⊥ = λ e. away (e ∙ zero_is) in
        ap (λ (b : Bool). if b then Some id else (if n % 2 == 1 then odd (n / 2) else even (n / 2 - 1))) (ne_eqb n 0 away)
        ∙ sym (changed-at n (if n % 2 == 1 then odd (n / 2) else even (n / 2 - 1))
        (ap (λ (b : Bool). if b then first else (if n % 2 == 1 then odd (n / 2) else even (n / 2 - 1))) (ne_eqb n 0 away)) apart)
  ]

  pub put_odd : number % 2 ≡ 1 → (new : ℕ → Option ℕ) → ((m : ℕ) → new m ≡ (if m == number / 2 then Some id else odd m)) → (n : ℕ) → parted first new even n ≡ changed n
  put_odd is new h n = elim (cases_eq n 0) [
    | inl here ↦ at_zero first new even n here ∙ sym (changed-at n first (at_zero first odd even n here) (λ e. omega arith))
    | inr some ↦ elim (cases_eq (n % 2) 1) [
      | inl here ↦
          let tests : (n / 2 == number / 2) ≡ (n == number) = same_tests (n / 2) (number / 2) n number (λ e. omega arith) (λ e. omega arith) in
          at_odd first new even n here ∙ h (n / 2) ∙ ap₂ (λ (b : Bool) (x : Option ℕ). if b then Some id else x) tests (sym (at_odd first odd even n here))
      | inr away ↦ at_even first new even n some away ∙ sym (changed-at n (even (n / 2 - 1)) (at_even first odd even n some away) (λ e. omega arith))
    ]
  ]

  pub put_even : (number ≡ 0 → ⊥) → (number % 2 ≡ 1 → ⊥) → (new : ℕ → Option ℕ) → ((m : ℕ) → new m ≡ (if m == number / 2 - 1 then Some id else even m)) → (n : ℕ) → parted first odd new n ≡ changed n
  put_even some_number is new h n = elim (cases_eq n 0) [
    | inl here ↦ at_zero first odd new n here ∙ sym (changed-at n first (at_zero first odd even n here) (λ e. some_number (sym e ∙ here)))
    | inr some ↦ elim (cases_eq (n % 2) 1) [
      | inl here ↦ at_odd first odd new n here ∙ sym (changed-at n (odd (n / 2)) (at_odd first odd even n here) (λ e. is (ap (λ (k : ℕ). k % 2) (sym e) ∙ here)))
      | inr away ↦
          let tests : (n / 2 - 1 == number / 2 - 1) ≡ (n == number) = same_tests (n / 2 - 1) (number / 2 - 1) n number (λ e. halves some some_number away is e) (λ e. ap (λ (k : ℕ). k / 2 - 1) e) in
          at_even first odd new n some away ∙ h (n / 2 - 1) ∙ ap₂ (λ (b : Bool) (x : Option ℕ). if b then Some id else x) tests (sym (at_even first odd even n some away))
    ]
  ]
    where
      halves : (n ≡ 0 → ⊥) → (number ≡ 0 → ⊥) → (n % 2 ≡ 1 → ⊥) → (number % 2 ≡ 1 → ⊥) → n / 2 - 1 ≡ number / 2 - 1 → n ≡ number
      halves a b c d e = omega arith
