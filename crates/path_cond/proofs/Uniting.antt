-- States as one, at the numbers of variables.
use Rattle.std.proofs.Common.{◌≡◌, ◌∙◌, ℕ, ◌<◌, ◌==◌, Bool, suc, List, [], ◌∷◌, length, get_or, map, Option, Some, refl, sym, ap, ap₂, subst, inl, inr, arith}
use Rattle.std.specs.Prelude.{option_and_then, if◌then◌else◌}
use Rattle.std.specs.List.{cons_option}
use Rattle.std.proofs.lemmas.Bool.{cases_eq, eq-eqb, ne_eqb}
use Rattle.std.proofs.lemmas.List.Elements.{All-head, All-tail, All-cons, All-nil}
use Rattle.term_core_spec.specs.Term.{Term}
use Rattle.term_bank.specs.Nodes.{tree_at, Extends}
use Rattle.term_bank.proofs.Substitution.{kept}
use Rattle.path_cond.specs.declared.ids.Ids.{Ids}
use Rattle.path_cond.specs.Ids.{id_at}
use Rattle.path_cond.specs.Merged.{AreIds, merged_term}
use Rattle.path_cond.specs.United.{id_of, ids_of, AreFull, AreFullAt, IsUnitedAt}
use Rattle.path_cond.proofs.Banks.{within_longer, kept_tree}

pub ids_longer : (a b : List Term) (ids : List ℕ) → Extends a b → AreIds (length a) ids → AreIds (length b) ids
ids_longer a b ids e are = λ k d less. within_longer a b (get_or ids k d) e (are k d less)

pub map_kept : (a b : List Term) (ids : List ℕ) → Extends a b → AreIds (length a) ids → map (tree_at b) ids ≡ map (tree_at a) ids
map_kept a b [] e are = refl
map_kept a b (i ∷ ids) e are =
    ap₂ (λ (t : Term) (ts : List Term). t ∷ ts) (kept_tree a b i e (All-head (λ (j : ℕ). j < length a) i ids are))
    (map_kept a b ids e (All-tail (λ (j : ℕ). j < length a) i ids are))

module _ (terms : ℕ) (states : List Ids) where
  abbrev Has : ℕ → ℕ → Type 0
  Has number s = (id : ℕ) × (id_of states number s ≡ Some id) × (id < terms)

  pub full_at : (count number : ℕ) (sources : List ℕ) → number < count → AreFull terms count states sources → AreFullAt terms number states sources
  full_at count number sources less full = λ k d within.
      let at = full k d within in
      let id = at.2 number less in
      (id.0, ap (λ (o : Option Ids). option_and_then (λ (ids : Ids). id_at ids number) o) at.1 ∙ id.1, id.2)

  -- what is found at a number
  pub found_first : (number s id : ℕ) (sources : List ℕ) → id_of states number s ≡ Some id → ids_of states (s ∷ sources) number ≡ id ∷ ids_of states sources number
  found_first number s id sources is = ap (λ (o : Option ℕ). cons_option o (ids_of states sources number)) is

  pub found_ids : (number : ℕ) (sources : List ℕ) → AreFullAt terms number states sources
      → (length (ids_of states sources number) ≡ length sources) × AreIds terms (ids_of states sources number)
  found_ids number [] full = (refl, All-nil (λ (i : ℕ). i < terms))
  found_ids number (s ∷ sources) full =
      let first = All-head (Has number) s sources full in
      let rest = found_ids number sources (All-tail (Has number) s sources full) in
      let is = found_first number s first.0 sources first.1 in (
        ap length is ∙ ap suc rest.0,
        subst (AreIds terms) (sym is) (All-cons (λ (i : ℕ). i < terms) first.0 (ids_of states sources number) first.2 rest.1),
      )

  pub found_zero : (number d : ℕ) (sources : List ℕ) → 0 < length sources → AreFullAt terms number states sources
      → id_of states number (get_or sources 0 d) ≡ Some (get_or (ids_of states sources number) 0 d)
  found_zero number d [] some full = absurd (omega arith)
  found_zero number d (s ∷ sources) some full =
      let first = All-head (Has number) s sources full in
      first.1 ∙ ap (λ (l : List ℕ). Some (get_or l 0 d)) (sym (found_first number s first.0 sources first.1))

module _ (before mid now : List Term) (conditions : List ℕ) (states : List Ids) (sources : List ℕ) where
  -- by the trees of an older bank
  pub united_earlier : (ids : ℕ → Option ℕ) (number : ℕ) → Extends before mid → AreIds (length before) conditions → AreFullAt (length before) number states sources
      → IsUnitedAt mid now conditions states sources ids number → IsUnitedAt before now conditions states sources ids number
  united_earlier ids number e are full at = (
    at.0,
    at.1,
    at.2 ∙ ap Some (ap₂ merged_term (map_kept before mid conditions e are)
        (map_kept before mid (ids_of states sources number) e (found_ids (length before) states number sources full).1)),
  )

  pub united_later : (old new : ℕ → Option ℕ) (number : ℕ) → Extends mid now → new number ≡ old number
      → IsUnitedAt before mid conditions states sources old number → IsUnitedAt before now conditions states sources new number
  united_later old new number e same at = (at.0, same ∙ at.1, kept mid now at.0 _ e at.2)

pub put_here : (old new : ℕ → Option ℕ) (number id : ℕ) → ((n : ℕ) → new n ≡ (if n == number then Some id else old n)) → new number ≡ Some id
put_here old new number id h = h number ∙ ap (λ (b : Bool). if b then Some id else old number) (eq-eqb number number refl)

pub put_there : (old new : ℕ → Option ℕ) (number id : ℕ) → ((n : ℕ) → new n ≡ (if n == number then Some id else old n)) → (k : ℕ) → (k ≡ number → ⊥) → new k ≡ old k
put_there old new number id h k apart = h k ∙ ap (λ (b : Bool). if b then Some id else old k) (ne_eqb k number apart)

pub put_same : (old : ℕ → Option ℕ) (number id first : ℕ) → old number ≡ Some first → id ≡ first → (n : ℕ) → old n ≡ (if n == number then Some id else old n)
put_same old number id first is same n = elim (cases_eq n number) [
  | inl here ↦ ap old here ∙ is ∙ ap Some (sym same) ∙ sym (ap (λ (b : Bool). if b then Some id else old n) (eq-eqb n number here))
  | inr away ↦ sym (ap (λ (b : Bool). if b then Some id else old n) (ne_eqb n number away))
]
