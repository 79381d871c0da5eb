-- Lists of ids of terms.
use Rattle.std.proofs.Common.{◌≡◌, ◌∙◌, ◌<◌, ℕ, suc, List, [], ◌∷◌, ◌++◌, All, length, map, refl, sym, ap, subst, append_assoc, append-nil}
use Rattle.std.proofs.lemmas.List.Elements.{All-cons, All-nil}
use Rattle.std.proofs.lemmas.Option.{slice_get_within, get_or_from_slice_get}
use Rattle.term_core_spec.specs.Term.{Term}
use Rattle.term_bank.specs.Nodes.{Holds, Extends, tree_at}
use Rattle.term_bank.proofs.Substitution.{kept}
use Rattle.sim_rules_terms.specs.Held.{AreHeld}
use Rattle.sim_rules.specs.Held.{HasAdded}

held_later : (before now : List Term) → Extends before now → (ids : List ℕ) (ts : List Term) → AreHeld before ids ts → AreHeld now ids ts
held_later before now e [] [] h = tt
held_later before now e [] (t ∷ ts) h = h
held_later before now e (i ∷ ids) [] h = h
held_later before now e (i ∷ ids) (t ∷ ts) h = (kept before now i t e h.0, held_later before now e ids ts h.1)

-- ids of terms are in the bank
pub held_within : (trees : List Term) (ids : List ℕ) (ts : List Term) → AreHeld trees ids ts → All (λ (id : ℕ). id < length trees) ids
held_within trees [] ts h = All-nil (λ (id : ℕ). id < length trees)
held_within trees (i ∷ ids) [] h = absurd h
held_within trees (i ∷ ids) (t ∷ ts) h = All-cons (λ (id : ℕ). id < length trees) i ids (slice_get_within trees i t h.0) (held_within trees ids ts h.1)

-- there are as many ids as terms
pub held_count : (trees : List Term) (ids : List ℕ) (ts : List Term) → AreHeld trees ids ts → length ids ≡ length ts
held_count trees [] [] held = refl
held_count trees [] (t ∷ ts) held = absurd held
held_count trees (i ∷ ids) [] held = absurd held
held_count trees (i ∷ ids) (t ∷ ts) held = ap (λ (n : ℕ). suc n) (held_count trees ids ts held.1)

-- the terms of ids
pub trees_held : (trees : List Term) (ids : List ℕ) (ts : List Term) → AreHeld trees ids ts → map (tree_at trees) ids ≡ ts
trees_held trees [] [] held = refl
trees_held trees [] (t ∷ ts) held = absurd held
trees_held trees (i ∷ ids) [] held = absurd held
trees_held trees (i ∷ ids) (t ∷ ts) held =
    ap (λ (x : Term). x ∷ map (tree_at trees) ids) (get_or_from_slice_get trees i t _ held.0) ∙ ap (λ (rest : List Term). t ∷ rest) (trees_held trees ids ts held.1)

held_append : (trees : List Term) (ids more : List ℕ) (ts us : List Term) → AreHeld trees ids ts → AreHeld trees more us → AreHeld trees (ids ++ more) (ts ++ us)
held_append trees [] more [] us h g = g
held_append trees [] more (t ∷ ts) us h g = absurd h
held_append trees (i ∷ ids) more [] us h g = absurd h
held_append trees (i ∷ ids) more (t ∷ ts) us h g = (h.0, held_append trees ids more ts us h.1 g)

module _ (before now : List Term) (e : Extends before now) where
  -- none
  pub added_none : (ids : List ℕ) → HasAdded before now [] ids ids
  added_none ids = λ earlier h. subst (AreHeld now ids) (sym (append-nil earlier)) (held_later before now e ids earlier h)

  -- one
  pub added_one : (old new : List ℕ) (i : ℕ) (t : Term) → new ≡ old ++ i ∷ [] → Holds now i t → HasAdded before now (t ∷ []) old new
  added_one old new i t is at = λ earlier h.
      subst (λ (l : List ℕ). AreHeld now l (earlier ++ t ∷ [])) (sym is) (held_append now old (i ∷ []) earlier (t ∷ []) (held_later before now e old earlier h) (at, tt))

  -- two
  pub added_two : (old new : List ℕ) (i j : ℕ) (t u : Term) → new ≡ old ++ i ∷ j ∷ [] → Holds now i t → Holds now j u → HasAdded before now (t ∷ u ∷ []) old new
  added_two old new i j t u is at at_j = λ earlier h.
      subst (λ (l : List ℕ). AreHeld now l (earlier ++ t ∷ u ∷ [])) (sym is) (held_append now old (i ∷ j ∷ []) earlier (t ∷ u ∷ []) (held_later before now e old earlier h) (at, (at_j, tt)))

-- some, and then others
pub added_then : (first second third xs ys : List Term) (old mid new : List ℕ) → HasAdded first second xs old mid → HasAdded second third ys mid new → HasAdded first third (xs ++ ys) old new
added_then first second third xs ys old mid new p q = λ earlier h. subst (AreHeld third new) (append_assoc earlier xs ys) (q (earlier ++ xs) (p earlier h))

-- all of them
pub added_all : (before now terms : List Term) (old new : List ℕ) → old ≡ [] → HasAdded before now terms old new → AreHeld now new terms
added_all before now terms old new none added = added [] (subst (λ (l : List ℕ). AreHeld before l []) (sym none) tt)
