-- A list to which all that is reached from a node is added.
use Rattle.std.proofs.Common.{◌≡◌, ◌⊎◌, ◌+◌, ◌-◌, ◌<◌, ◌≤◌, ℕ, List, [], ◌++◌, length, get_or, refl, sym, ◌∙◌, ap, subst, inl, inr, append_assoc, arith}
use Rattle.std.specs.Prelude.{◌↔◌, Contains}
use Rattle.std.proofs.lemmas.List.{get_or_append_left, get_or-append_right, get_or_default, length-append}
use Rattle.std.proofs.lemmas.List.Elements.{Contains-append_left, Contains-append_cases, Contains-get_or}
use Rattle.pair_setup_calls.specs.Graph.{called_by, Calls, Reaches, itself, further, Grows, IsClosed}
use Rattle.pair_setup_calls.proofs.Growing.{none_contained}

module _ (graph : List (List ℕ)) (start : ℕ) where
  -- what was added is reached, and the list has the start, and what is called by each of its first so many
  pub record IsExtending (old : List ℕ) (next : ℕ) (items : List ℕ) : Type 0 where
    pub more : List ℕ
    pub grown : items ≡ old ++ more
    pub from : length old ≤ next
    pub within : next ≤ length items
    pub starts : Contains items start
    pub sound : (t : ℕ) → Contains more t → Reaches graph start t
    pub closed : (j : ℕ) → j < next → (t : ℕ) → Calls graph (get_or items j 0) t → Contains items t

  pub extending-start : (old items : List ℕ) → IsClosed graph old → Grows (λ t. t ≡ start) old items → IsExtending old (length old) items
  extending-start old items closed g = record {
    more = g.more;
    grown = g.grown;
    from = omega arith;
    within = omega (arith, ap length g.grown, length-append old g.more);
    starts = g.all start refl;
    sound = λ t among. subst (Reaches graph start) (sym (g.only t among)) itself;
    closed = λ j below t call. subst (λ l. Contains l t) (sym g.grown) (Contains-append_left old g.more t
        (closed (get_or old j 0) t (Contains-get_or old j 0 below)
        (subst (λ z. Calls graph z t) (ap (λ l. get_or l j 0) g.grown ∙ get_or_append_left old g.more 0 j below) call)));
  }

  module _ (old : List ℕ) (next : ℕ) (items : List ℕ) (so_far : IsExtending old next items) where
    -- the node at hand is reached
    here-reached : next < length items → Reaches graph start (get_or items next 0)
    here-reached inside =
        subst (Reaches graph start) (sym there)
        (so_far.sound (get_or so_far.more (next - length old) 0) (Contains-get_or so_far.more (next - length old) 0
        (omega (arith, inside, so_far.from, ap length so_far.grown, length-append old so_far.more))))
      where
        there : get_or items next 0 ≡ get_or so_far.more (next - length old) 0
        there = ap (λ l. get_or l next 0) so_far.grown ∙ get_or-append_right old so_far.more (length old) next 0 refl so_far.from

    pub extending-next : (here : ℕ) (new : List ℕ) → next < length items → here ≡ get_or items next 0 → Grows (Contains (called_by graph here)) items new
        → IsExtending old (next + 1) new
    extending-next here new inside is g = record {
      more = so_far.more ++ g.more;
      grown = g.grown ∙ (ap (λ l. l ++ g.more) so_far.grown ∙ append_assoc old so_far.more g.more);
      from = omega (arith, so_far.from);
      within = omega (arith, ap length g.grown, length-append items g.more, inside);
      starts = subst (λ l. Contains l start) (sym g.grown) (Contains-append_left items g.more start so_far.starts);
      sound = λ t among. elim (Contains-append_cases so_far.more g.more t among) [
        | inl before ↦ so_far.sound t before
        | inr added ↦ further here t (subst (Reaches graph start) (sym is) (here-reached inside)) (g.only t added)
      ];
      closed = λ j below t call. elim (split j below) [
        | inl before ↦ subst (λ l. Contains l t) (sym g.grown) (Contains-append_left items g.more t
            (so_far.closed j before t (subst (λ z. Calls graph z t) (same j (omega (arith, before, inside))) call)))
        | inr e ↦ g.all t (subst (λ z. Calls graph z t) (same j (omega (arith, e, inside)) ∙ (ap (λ i. get_or items i 0) e ∙ sym is)) call)
      ];
    }
      where
        split : (j : ℕ) → j < next + 1 → (j < next) ⊎ (j ≡ next)
        split j below = grind (arith, below)

        same : (j : ℕ) → j < length items → get_or new j 0 ≡ get_or items j 0
        same j below = ap (λ l. get_or l j 0) g.grown ∙ get_or_append_left items g.more 0 j below

    -- ---- when the calls of all are looked at

    pub extended-closed : length items ≤ next → IsClosed graph items
    extended-closed over node other (k, below, here) call =
        so_far.closed k (omega (arith, below, over)) other (subst (λ z. Calls graph z other) (sym (sym (get_or_default items k node 0 below) ∙ here)) call)

    found-all : length items ≤ next → (t : ℕ) → Reaches graph start t → Contains items t
    found-all over _ itself = so_far.starts
    found-all over _ (further middle other reached call) = extended-closed over middle other (found-all over middle reached) call

    pub extended-grows : length items ≤ next → Grows (Reaches graph start) old items
    extended-grows over = record { more = so_far.more; grown = so_far.grown; all = found-all over; only = so_far.sound }

-- from nothing
pub reached-exactly : (graph : List (List ℕ)) (start : ℕ) (items : List ℕ) → Grows (Reaches graph start) [] items
    → (t : ℕ) → Contains items t ↔ Reaches graph start t
reached-exactly graph start items g t = (λ among. g.only t (subst (λ l. Contains l t) g.grown among), g.all t)

pub closed-none : (graph : List (List ℕ)) → IsClosed graph []
closed-none graph node other among call = absurd (none_contained node among)
