-- Where no function is missing, each has a part.
use Rattle.std.proofs.Common.{◌≡◌, ◌≢◌, ◌∙◌, ◌⊎◌, ℕ, zero, suc, ◌<◌, Bool, true, false, List, [], ◌∷◌, ◌++◌, length, get_or, bytes_eq, refl, sym, ap, subst, inl, inr, arith, append_assoc}
use Rattle.std.specs.Prelude.{All, Contains}
use Rattle.std.proofs.lemmas.List.Elements.{All-nil, All-cons, All-append}
use Rattle.std.proofs.lemmas.Slice.Eq.{bytes_eq-Decides}
use Rattle.std.proofs.lemmas.Bool.{both_ways}
use Rattle.cert_check_spec.specs.Verdict.{Listed, IsMissing}

-- some part has the name, or none
pub record IsNamed (parts : List Listed) (name : List ℕ) : Type 0 where
  pub part : Listed
  pub among : Contains parts part
  pub named : part.name ≡ name

abbrev pub NoneNamed : List Listed → List ℕ → Type 0
NoneNamed parts name = All (λ (other : Listed). other.name ≢ name) parts

contains_later : (p : Listed) (parts : List Listed) (q : Listed) → Contains parts q → Contains (p ∷ parts) q
contains_later p parts q (k, within, is) = (suc k, omega (arith, within), is)

pub named_or_none : (parts : List Listed) (name : List ℕ) → IsNamed parts name ⊎ NoneNamed parts name
named_or_none [] name = inr (All-nil (λ (other : Listed). other.name ≢ name))
named_or_none (p ∷ parts) name = by (bytes_eq p.name name) refl (named_or_none parts name)
  where
    others : IsNamed parts name ⊎ NoneNamed parts name → (p.name ≡ name → ⊥) → IsNamed (p ∷ parts) name ⊎ NoneNamed (p ∷ parts) name
    others (inl is) apart = inl (record { part = is.part; among = contains_later p parts is.part is.among; named = is.named })
    others (inr none) apart = inr (All-cons (λ (other : Listed). other.name ≢ name) p parts apart none)

    by : (t : Bool) → bytes_eq p.name name ≡ t → IsNamed parts name ⊎ NoneNamed parts name → IsNamed (p ∷ parts) name ⊎ NoneNamed (p ∷ parts) name
    by true is rest = inl (record { part = p; among = (0, omega arith, refl); named = (bytes_eq-Decides p.name name).0 is })
    by false is rest = others rest (λ same. both_ways (bytes_eq p.name name) is ((bytes_eq-Decides p.name name).1 same))

not_both : (parts : List Listed) (name : List ℕ) → IsNamed parts name → NoneNamed parts name → ⊥
not_both parts name is none = none is.among.0 is.part is.among.1 (ap (λ (x : Listed). x.name) is.among.2 ∙ is.named)

-- ---- the first that is missing

pub all_named : (listed parts before rest : List Listed) → listed ≡ before ++ rest → All (λ (earlier : Listed). NoneNamed parts earlier.name → ⊥) before
    → ((f : Listed) → IsMissing listed parts f → ⊥) → (f : Listed) → Contains rest f → IsNamed parts f.name
all_named listed parts before [] cut others none f (k, within, is) = absurd (omega (arith, within))
all_named listed parts before (g ∷ rest) cut others none f among =
    by (named_or_none parts g.name)
    (λ all later.
    all_named listed parts (before ++ g ∷ []) rest (cut ∙ sym (append_assoc before (g ∷ []) rest)) all none f later)
  where
    found : IsNamed parts g.name
        → (All (λ (earlier : Listed). NoneNamed parts earlier.name → ⊥) (before ++ g ∷ []) → Contains rest f → IsNamed parts f.name)
        → (k : ℕ) → k < length (g ∷ rest) → get_or (g ∷ rest) k f ≡ f → IsNamed parts f.name
    found is later zero within same = subst (λ (h : Listed). IsNamed parts h.name) same is
    found is later (suc k) within same =
        later
        (All-append (λ (earlier : Listed). NoneNamed parts earlier.name → ⊥) before (g ∷ []) others
        (All-cons (λ (earlier : Listed). NoneNamed parts earlier.name → ⊥) g [] (λ bad. not_both parts g.name is bad) (All-nil (λ (earlier : Listed). NoneNamed parts earlier.name → ⊥))))
        (k, omega (arith, within), same)

    by : IsNamed parts g.name ⊎ NoneNamed parts g.name
        → (All (λ (earlier : Listed). NoneNamed parts earlier.name → ⊥) (before ++ g ∷ []) → Contains rest f → IsNamed parts f.name) → IsNamed parts f.name
    by (inl is) later = found is later among.0 among.1 among.2
    by (inr bad) later = absurd (none g (record { before = before; after = rest; cut = cut; none = bad; others = others }))
