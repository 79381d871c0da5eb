-- The nodes that a walk passes, as they are found.
use Rattle.std.proofs.Common.{◌≡◌, ◌⊎◌, ℕ, ◌+◌, ◌<◌, ◌≤◌, Bool, true, false, cond, List, [], ◌∷◌, ◌++◌, length, get_or, refl, sym, ◌∙◌, ap, subst, inl, inr, arith, append-nil, append_assoc, length-append, eqb-true}
use Rattle.std.specs.Prelude.{Contains, nat_eq, if◌then◌else◌}
use Rattle.std.specs.List.{list_any}
use Rattle.std.proofs.lemmas.List.{get_or_append_left, get_or_default}
use Rattle.std.proofs.lemmas.List.Elements.{Contains-append_left, Contains-append_right, Contains-append_cases, Contains-push}
use Rattle.indexmap.specs.IndexSet.{insert_key}
use Rattle.indexmap.proofs.CallerLemmas.{Contains-list_any}
use Rattle.graph_core_spec.specs.declared.Next.{Next}
use Rattle.graph_core_spec.specs.declared.Next.TheVariants as next
use Rattle.graph_core_spec.specs.declared.Mark.{Mark}
use Rattle.visit_walk_spec.specs.declared.Successors.{Successors}
use Rattle.visit_walk_spec.specs.declared.Successors.TheVariants.{Two}
use Rattle.visit_walk_spec.specs.Shape.{Shape}
use Rattle.visit_walk_spec.specs.DepthFirst.{Leads, here, on}
use Rattle.visit_walk_spec.proofs.Members.{none_contained, only_contained, contained_here}
use Rattle.visit_walk.specs.Nodes.{is_closed, passed, passed_from, passes, ArePassed, Adds}

-- ---- what is added

pub adds_none : (xs : List ℕ) → Adds [] xs xs
adds_none xs = record { more = []; grown = sym (append-nil xs); all = λ n c. absurd (none_contained n c); only = λ n c. c }

pub adds_one : (xs : List ℕ) (x : ℕ) → Adds (x ∷ []) xs (insert_key nat_eq xs x)
adds_one xs x = at (list_any (nat_eq x) xs) refl
  where
    at : (b : Bool) → list_any (nat_eq x) xs ≡ b → Adds (x ∷ []) xs (cond b xs (xs ++ x ∷ []))
    at true e = record {
      more = [];
      grown = sym (append-nil xs);
      all = λ n c. subst (Contains xs) (sym (only_contained x n c)) (Contains-list_any nat_eq (λ a b s. eqb-true a b s) xs x e);
      only = λ n c. absurd (none_contained n c);
    }
    at false e = record {
      more = x ∷ [];
      grown = refl;
      all = λ n c. subst (Contains (xs ++ x ∷ [])) (sym (only_contained x n c)) (Contains-push xs x);
      only = λ n c. c;
    }

pub adds_then : (a b xs ys zs : List ℕ) → Adds a xs ys → Adds b ys zs → Adds (a ++ b) xs zs
adds_then a b xs ys zs g h = record {
  more = g.more ++ h.more;
  grown = h.grown ∙ (ap (λ l. l ++ h.more) g.grown ∙ append_assoc xs g.more h.more);
  all = λ n c. elim (Contains-append_cases a b n c) [
    | inl first ↦ subst (λ l. Contains l n) (sym h.grown) (Contains-append_left ys h.more n (g.all n first))
    | inr second ↦ h.all n second
  ];
  only = λ n c. elim (Contains-append_cases g.more h.more n c) [
    | inl first ↦ Contains-append_left a b n (g.only n first)
    | inr second ↦ Contains-append_right a b n (h.only n second)
  ];
}

pub adds_open : (ms : List Mark) (n : ℕ) (to : Next) (xs new : List ℕ) → to ≡ next.At n → is_closed ms n ≡ false → new ≡ insert_key nat_eq xs n → Adds (passed ms to) xs new
adds_open ms n to xs new is passable e =
    subst (λ t. Adds (passed ms t) xs new) (sym is)
    (subst (λ l. Adds l xs new) (sym (ap (λ b. if b then [] else n ∷ []) passable)) (subst (Adds (n ∷ []) xs) (sym e) (adds_one xs n)))

pub adds_both : (ms : List Mark) (a b : Next) (goes : Successors) (xs ys zs : List ℕ) → goes ≡ Two a b → Adds (passed ms a) xs ys → Adds (passed ms b) ys zs
    → Adds (passed_from ms goes) xs zs
adds_both ms a b goes xs ys zs is g h = subst (λ s. Adds (passed_from ms s) xs zs) (sym is) (adds_then (passed ms a) (passed ms b) xs ys zs g h)

-- ---- all that are passed

module _ (shape : Shape) (marks : List Mark) (start : ℕ) where
  pub record IsPassing (next : ℕ) (found : List ℕ) : Type 0 where
    pub within : next ≤ length found
    pub starts : Contains found start
    pub sound : (n : ℕ) → Contains found n → Leads (passes shape marks) start n
    pub closed : (j : ℕ) → j < next → (n : ℕ) → Contains (passes shape marks (get_or found j 0)) n → Contains found n

  pub passing_begin : (found : List ℕ) → found ≡ insert_key nat_eq [] start → IsPassing 0 found
  passing_begin found e = record {
    within = omega arith;
    starts = subst (λ l. Contains l start) (sym e) (contained_here start []);
    sound = λ n c. subst (Leads (passes shape marks) start) (sym (only_contained start n (subst (λ l. Contains l n) e c))) here;
    closed = λ j below. absurd (omega (arith, below));
  }

  pub passing_next : (next node : ℕ) (found new : List ℕ) → IsPassing next found → next < length found → node ≡ get_or found next 0 → Adds (passes shape marks node) found new
      → IsPassing (next + 1) new
  passing_next next node found new p inside is a = record {
    within = omega (arith, ap length a.grown, length-append found a.more, inside);
    starts = kept start p.starts;
    sound = λ n c. elim (Contains-append_cases found a.more n (subst (λ l. Contains l n) a.grown c)) [
      | inl old ↦ p.sound n old
      | inr added ↦ on node n (p.sound node node_found) (a.only n added)
    ];
    closed = λ j below n c. elim (split j below) [
      | inl before ↦ kept n (p.closed j before n (subst (λ x. Contains (passes shape marks x) n) (same j (omega (arith, before, inside))) c))
      | inr e ↦ a.all n (subst (λ x. Contains (passes shape marks x) n) (same j (omega (arith, e, inside)) ∙ (ap (λ i. get_or found i 0) e ∙ sym is)) c)
    ];
  }
    where
      kept : (n : ℕ) → Contains found n → Contains new n
      kept n c = subst (λ l. Contains l n) (sym a.grown) (Contains-append_left found a.more n c)

      node_found : Contains found node
      node_found = (next, inside, get_or_default found next node 0 inside ∙ sym is)

      split : (j : ℕ) → j < next + 1 → (j < next) ⊎ (j ≡ next)
      split j below = grind (arith, below)

      same : (j : ℕ) → j < length found → get_or new j 0 ≡ get_or found j 0
      same j below = ap (λ l. get_or l j 0) a.grown ∙ get_or_append_left found a.more 0 j below

  reached : (next : ℕ) (found : List ℕ) (n : ℕ) → IsPassing next found → length found ≤ next → Leads (passes shape marks) start n → Contains found n
  reached next found _ p over here = p.starts
  reached next found n p over (on m _ path last) = further (reached next found m p over path)
    where
      further : Contains found m → Contains found n
      further (k, below, is) =
          p.closed k (omega (arith, below, over)) n (subst (λ x. Contains (passes shape marks x) n) (sym (get_or_default found k 0 m below ∙ is)) last)

  pub passing_all : (next : ℕ) (found : List ℕ) → IsPassing next found → length found ≤ next → ArePassed shape marks start found
  passing_all next found p over n = (p.sound n, reached next found n p over)
