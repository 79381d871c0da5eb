-- The list of a walk's visits is whole.
use Rattle.std.proofs.Common.{◌≡◌, ℕ, zero, suc, ◌<◌, ◌≤◌, Bool, true, false, List, [], ◌∷◌, length, replicate, refl, sym, ◌∙◌, ap, subst, inl, inr, arith, eqb-true, eq-eqb}
use Rattle.std.specs.Prelude.{Contains, nat_eq, slice_index, if◌then◌else◌, Vec, Result, Ok, Err, IfErr}
use Rattle.std.specs.Global.{Global}
use Rattle.std.proofs.lemmas.List.{length-map, length-replicate}
use Rattle.std.proofs.lemmas.List.Elements.{Contains-get_or}
use Rattle.graph_core_spec.specs.declared.Mark.{Mark}
use Rattle.visit_walk_spec.specs.declared.Incoming.{Incoming}
use Rattle.visit_walk_spec.specs.Shape.{Shape}
use Rattle.visit_walk_spec.specs.DepthFirst.{Takes}
use Rattle.visit_walk_spec.specs.Visits.{nexts_of}
use Rattle.visit_walk_spec.proofs.Members.{none_contained, only_contained, contained_here, contained_later, contained_cases}
use Rattle.visit_walk_spec.proofs.Walks.{AreLater, walk_whole}
use Rattle.visit_walk_spec.proofs.Images.{are_left}
use Rattle.visit_walk.specs.declared.depth_first.Targets.{Targets}
use Rattle.visit_walk.specs.declared.table.Table.{Table}
use Rattle.attempt.specs.declared.refusal.Refusal.{Refusal}
use Rattle.visit_walk.specs.declared.found.WalkFault.{WalkFault}
use Rattle.visit_walk.specs.Search.{numbers_at}
use Rattle.visit_walk.specs.Tables.{seen, vectors_of, visit_at, AreListed}
use Rattle.visit_walk.specs.Listings.{incoming_lists, with_all_edges, with_edges}
use Rattle.visit_walk.specs.Found.{AreFilled, IsCycleFault, IsFaultFrom}
use Rattle.visit_walk.proofs.Listed.{image, first_inside, visits_taken, fault_from}
use Rattle.visit_walk.proofs.Entering.{entered, lists-length}
use Rattle.visit_walk.specs.Search.{target_at}

-- ---- different numbers below a bound are at most so many

abbrev Apart : List ℕ → Type 0
Apart [] = Unit {0}
Apart (x ∷ xs) = (Contains xs x → ⊥) × Apart xs

abbrev without : ℕ → List ℕ → List ℕ
without n [] = []
without n (x ∷ xs) = if nat_eq x n then xs else x ∷ without n xs

without-shorter : (n : ℕ) (xs : List ℕ) → length xs ≤ suc (length (without n xs))
without-shorter n [] = omega arith
without-shorter n (x ∷ xs) = at (nat_eq x n) (without-shorter n xs)
  where
    at : (b : Bool) → length xs ≤ suc (length (without n xs)) → suc (length xs) ≤ suc (length (if b then xs else x ∷ without n xs))
    at true rest = omega arith
    at false rest = omega (arith, rest)

without-among : (n : ℕ) (xs : List ℕ) (y : ℕ) → Contains (without n xs) y → Contains xs y
without-among n [] y c = c
without-among n (x ∷ xs) y c = at (nat_eq x n) (λ d. without-among n xs y d) c
  where
    at : (b : Bool) → (Contains (without n xs) y → Contains xs y) → Contains (if b then xs else x ∷ without n xs) y → Contains (x ∷ xs) y
    at true rest c = contained_later x xs y c
    at false rest c = elim (contained_cases x (without n xs) y c) [
      | inl e ↦ subst (Contains (x ∷ xs)) (sym e) (contained_here x xs)
      | inr later ↦ contained_later x xs y (rest later)
    ]

without-apart : (n : ℕ) (xs : List ℕ) → Apart xs → Apart (without n xs)
without-apart n [] a = tt
without-apart n (x ∷ xs) a = at (nat_eq x n) (without-apart n xs a.1)
  where
    at : (b : Bool) → Apart (without n xs) → Apart (if b then xs else x ∷ without n xs)
    at true rest = a.1
    at false rest = (λ c. a.0 (without-among n xs x c), rest)

without-it : (n : ℕ) (xs : List ℕ) → Apart xs → Contains (without n xs) n → ⊥
without-it n [] a c = none_contained n c
without-it n (x ∷ xs) a c = at (nat_eq x n) refl (λ d. without-it n xs a.1 d) c
  where
    at : (b : Bool) → nat_eq x n ≡ b → (Contains (without n xs) n → ⊥) → Contains (if b then xs else x ∷ without n xs) n → ⊥
    at true e rest c = a.0 (subst (Contains xs) (sym (eqb-true x n e)) c)
    at false e rest c = elim (contained_cases x (without n xs) n c) [
      | inl same ↦ (let yes = eq-eqb x n (sym same) in absurd (cc))
      | inr later ↦ rest later
    ]

few : (n : ℕ) (xs : List ℕ) → Apart xs → ((x : ℕ) → Contains xs x → x < n) → length xs ≤ n
few zero [] a all = omega arith
few zero (x ∷ xs) a all = absurd (let none = all x (contained_here x xs) in omega (arith, none))
few (suc n) xs a all =
    let rest = few n (without n xs) (without-apart n xs a) (λ x c. less x (all x (without-among n xs x c)) (λ e. without-it n xs a (subst (Contains (without n xs)) e c))) in
    let shorter = without-shorter n xs in
    omega (arith, rest, shorter)
  where
    less : (x : ℕ) → x < suc n → (x ≡ n → ⊥) → x < n
    less x below apart = omega (arith, below, apart)

later-apart : (nexts : ℕ → List ℕ) (xs : List ℕ) → AreLater nexts xs → Apart xs
later-apart nexts [] later = tt
later-apart nexts (x ∷ xs) later = (later.1, later-apart nexts xs later.2)

-- ---- the list

all-length : (lists : List (List Incoming)) (source : ℕ) (order : List ℕ) (targets : List Targets) → length (with_all_edges lists source order targets) ≡ length lists
all-length lists source [] targets = refl
all-length lists source (i ∷ order) targets =
    all-length (with_edges lists source (target_at targets i)) (suc source) order targets ∙ lists-length lists source (target_at targets i)

module _ (shape : Shape) (ms : List Mark) (start maximum : ℕ) (t : Table) (targets : List Targets) (l : AreListed shape ms start maximum t targets) where
  order-inside : (order : List ℕ) → Takes (numbers_at targets) [] (0 ∷ []) order → (i : ℕ) → Contains order i → i < length t.keys.keys
  order-inside order takes =
      are_left (numbers_at targets) (nexts_of shape ms) (visit_at t) (λ i. i < length t.keys.keys) (image shape ms start maximum t targets l) [] (0 ∷ []) order takes
      (λ i c. absurd (none_contained i c))
      (λ i c. subst (λ k. k < length t.keys.keys) (sym (only_contained 0 i c)) (first_inside shape ms start maximum t targets l))

  pub filled : (order : List ℕ) (incoming : List (Vec Incoming Global)) → Takes (numbers_at targets) [] (0 ∷ []) order
      → incoming_lists incoming ≡ with_all_edges (replicate (length t.keys.keys) []) 0 order targets → AreFilled shape ms start maximum t order incoming
  filled order incoming takes e = record {
    parts = record {
      table_is = l.table;
      there = λ p b. inside (slice_index order p) (Contains-get_or order p 0 b);
      lists = sym (length-map incoming (λ (v : Vec Incoming Global). v.items)) ∙ (ap length e ∙ (all-length (replicate (length t.keys.keys) []) 0 order targets ∙ length-replicate (length t.keys.keys) []));
    };
    visits = visits_taken shape ms start maximum t targets l order takes;
    few = omega (arith, short, l.few, length-map t.keys.keys (seen (vectors_of t)));
    edges_are = entered shape ms start maximum t targets l order (incoming_lists incoming) inside e;
  }
    where
      inside : (i : ℕ) → Contains order i → i < length t.keys.keys
      inside = order-inside order takes

      short : length order ≤ length t.keys.keys
      short =
          few (length t.keys.keys) order (later-apart (numbers_at targets) order (walk_whole (numbers_at targets) (0 ∷ []) order takes).later) inside

  pub fault_at : {X : Type 0} (r : Result X (Refusal WalkFault)) → IfErr r (IsCycleFault t targets) → IfErr r (IsFaultFrom shape ms start maximum)
  fault_at (Ok x) h = h
  fault_at (Err fault) h = fault_from shape ms start maximum t targets l fault h
