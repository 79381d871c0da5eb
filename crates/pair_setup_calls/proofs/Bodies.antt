-- What a body calls, by numbers.
use Rattle.std.proofs.Common.{◌≡◌, ◌⊎◌, ◌∙◌, ℕ, ◌+◌, ◌-◌, ◌<◌, ◌≤◌, List, [], ◌∷◌, ◌++◌, length, map, get_or, Option, Some, None, refl, sym, ap, subst, inl, inr, arith, true≢false}
use Rattle.std.specs.Prelude.{Contains, IsSome, IfOk, Result, Ok, Err, option_map, slice_get}
use Rattle.std.proofs.lemmas.List.{get_or_append_left, get_or-append_right, get_or_past, length-append}
use Rattle.std.proofs.lemmas.Bool.{cases_lt}
use Rattle.std.proofs.lemmas.List.Elements.{Contains-append_left, Contains-append_cases, Contains-push}
use Rattle.std.proofs.lemmas.Option.{slice_get_within}
use Rattle.c_types_spec.specs.Core as tree
use Rattle.pair_setup_spec.specs.SourceReach.{calls_in, body_of, CallsOn}
use Rattle.pair_setup_calls.specs.Graph.{Grows, called_by}
use Rattle.pair_setup_calls.proofs.Growing.{grows-as, grows-then, grows-kept}
use Rattle.pair_setup_calls.specs.Names.{IsNumber, HasNumberAmong, AreCalled, IsCallGraph}

none_contained : {X : Type 0} (t : X) → Contains [] t → ⊥
none_contained t (k, below, here) = omega (arith, below)

pub some-of : {X : Type 0} (o : Option X) → IsSome o → (x : X) × (o ≡ Some x)
some-of None some = absurd (true≢false (sym some))
some-of (Some x) some = (x, refl)

pub ok-weaker : {T E : Type 0} (r : Result T E) (P Q : T → Type 0) → ((t : T) → P t → Q t) → IfOk r P → IfOk r Q
ok-weaker (Ok t) P Q f h = f t h
ok-weaker (Err e) P Q f h = tt

-- ---- the numbers of names

module _ (names : List (List ℕ)) where
  pub numbers-none : (xs : List ℕ) → Grows (HasNumberAmong names []) xs xs
  numbers-none xs = grows-kept (HasNumberAmong names []) xs (λ t h. absurd (none_contained h.0 h.1))

  pub numbers-more : (list : List (List ℕ)) (name : List ℕ) (old now new : List ℕ) → Grows (HasNumberAmong names list) old now
      → Grows (λ i. IsNumber names i name) now new → Grows (HasNumberAmong names (list ++ name ∷ [])) old new
  numbers-more list name old now new g h =
      grows-as (λ i. HasNumberAmong names list i ⊎ IsNumber names i name) (HasNumberAmong names (list ++ name ∷ [])) old new there back
      (grows-then (HasNumberAmong names list) (λ i. IsNumber names i name) old now new g h)
    where
      there : (i : ℕ) → HasNumberAmong names list i ⊎ IsNumber names i name → HasNumberAmong names (list ++ name ∷ []) i
      there i (inl has) = (has.0, Contains-append_left list (name ∷ []) has.0 has.1, has.2)
      there i (inr is) = (name, Contains-push list name, is)

      back : (i : ℕ) → HasNumberAmong names (list ++ name ∷ []) i → HasNumberAmong names list i ⊎ IsNumber names i name
      back i (other, among, is) = elim (Contains-append_cases list (name ∷ []) other among) [
        | inl before ↦ inl (other, before, is)
        | inr last ↦ inr (subst (λ n. IsNumber names i n) (only last) is)
      ]
        where
          only : Contains (name ∷ []) other → other ≡ name
          only (k, below, here) = first k below here
            where
              first : (k : ℕ) → k < length (name ∷ []) → get_or (name ∷ []) k other ≡ other → other ≡ name
              first k below here = let zero : k ≡ 0 = omega (arith, below) in sym (subst (λ j. get_or (name ∷ []) j other ≡ other) zero here)

-- ---- one body

module _ (unit : tree.Typed) (names : List (List ℕ)) (caller : ℕ) where
  pub called-none : ((name : List ℕ) → IsNumber names caller name → None ≡ body_of unit name) → AreCalled unit names caller []
  called-none none = record {
    there = λ number among. absurd (none_contained number among);
    back = λ number name other is _ calls. absurd (let body_is = calls.body_is in let never = none name is in cc);
  }

  pub called-some : (name : List ℕ) (body : tree.Body) (list : List (List ℕ)) (numbers : List ℕ) → IsNumber names caller name → body_of unit name ≡ Some body
      → list ≡ calls_in body.action → Grows (HasNumberAmong names list) [] numbers → AreCalled unit names caller numbers
  called-some name body list numbers is body_is list_is g = record { there = there; back = back }
    where
      there : (number : ℕ) → Contains numbers number → (one other : List ℕ) × IsNumber names caller one × IsNumber names number other × CallsOn unit one other
      there number among =
          let h = g.only number (subst (λ l. Contains l number) g.grown among) in
          (name, h.0, is, h.2, record { body = body; body_is = body_is; calls = subst (λ l. Contains l h.0) list_is h.1 })

      back : (number : ℕ) (one other : List ℕ) → IsNumber names caller one → IsNumber names number other → CallsOn unit one other → Contains numbers number
      back number one other one_is other_is calls =
          let same : one ≡ name = (let first : Some one ≡ Some name = sym one_is ∙ is in cc) in
          let body_there = subst (λ n. body_of unit n ≡ Some calls.body) same calls.body_is in
          let same_body : calls.body ≡ body = (let two : Some calls.body ≡ Some body = sym body_there ∙ body_is in cc) in
          g.all number (other, subst (λ l. Contains l other) (ap (λ (b : tree.Body). calls_in b.action) same_body ∙ sym list_is) calls.calls, other_is)

-- ---- all bodies so far

module _ (unit : tree.Typed) (names : List (List ℕ)) where
  -- the list has what each of the first so many calls
  pub record IsGraphBelow (graph : List (List ℕ)) (count : ℕ) : Type 0 where
    pub long : length graph ≡ count
    pub called : (k : ℕ) → k < count → AreCalled unit names k (get_or graph k [])

  pub graph-none : IsGraphBelow [] 0
  graph-none = record { long = refl; called = λ k below. absurd (omega (arith, below)) }

  pub graph-more : (graph : List (List ℕ)) (count : ℕ) (numbers : List ℕ) → IsGraphBelow graph count → AreCalled unit names count numbers
      → IsGraphBelow (graph ++ numbers ∷ []) (count + 1)
  graph-more graph count numbers so_far are = record {
    long = omega (arith, length-append graph (numbers ∷ []), so_far.long);
    called = λ k below. elim (split k below) [
      | inl before ↦ subst (AreCalled unit names k) (sym (get_or_append_left graph (numbers ∷ []) [] k (omega (arith, before, so_far.long)))) (so_far.called k before)
      | inr e ↦ subst (AreCalled unit names k) (sym (last k e)) (subst (λ i. AreCalled unit names i numbers) (sym e) are)
    ];
  }
    where
      split : (k : ℕ) → k < count + 1 → (k < count) ⊎ (k ≡ count)
      split k below = grind (arith, below)

      last : (k : ℕ) → k ≡ count → get_or (graph ++ numbers ∷ []) k [] ≡ numbers
      last k e =
          let long = so_far.long in
          get_or-append_right graph (numbers ∷ []) (length graph) k [] refl (omega (arith, long, e))
          ∙ ap (λ i. get_or (numbers ∷ []) i []) (let zero : k - length graph ≡ 0 = omega (arith, long, e) in zero)

  pub graph-all : (graph : List (List ℕ)) (count : ℕ) → IsGraphBelow graph count → length names ≤ count → IsCallGraph unit names graph
  graph-all graph count so_far over caller = at (cases caller)
    where
      cases : (k : ℕ) → (k < count) ⊎ (count ≤ k)
      cases k = cases_lt k count

      past : count ≤ caller → AreCalled unit names caller (called_by graph caller)
      past from = subst (AreCalled unit names caller) (sym (get_or_past graph caller [] (omega (arith, from, so_far.long)))) (record {
        there = λ number among. absurd (none_contained number among);
        back = λ number name other is _ _. absurd (let inside = slice_get_within names caller name is in omega (arith, inside, from, over));
      })

      at : (caller < count) ⊎ (count ≤ caller) → AreCalled unit names caller (called_by graph caller)
      at (inl below) = so_far.called caller below
      at (inr from) = past from
