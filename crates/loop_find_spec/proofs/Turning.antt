-- A depth-first walk has one outcome; each cycle that it meets has a head on it, and each head is on a cycle.
use Rattle.std.proofs.Common.{arith, ◌≡◌, ◌⊎◌, ◌<◌, ◌≤◌, ◌+◌, ℕ, suc, List, [], ◌∷◌, ◌++◌, length, refl, sym, ◌∙◌, ap, subst, inl, inr}
use Rattle.std.specs.Prelude.{Contains, slice_index}
use Rattle.std.proofs.lemmas.List.Elements.{Contains-append_cases, Contains-append_left, Contains-append_right}
use Rattle.std.specs.List.Sorted.{IsStrictlyIncreasing}
use Rattle.std.proofs.lemmas.List.Kept.{AllPairs-from_increasing}
use Rattle.visit_walk_spec.specs.DepthFirst.{Leads, here, on, IsOnCycle}
use Rattle.visit_walk_spec.proofs.Members.{none_contained, contained_here, contained_later, contained_cases}
use Rattle.loop_find_spec.specs.Loops.{Walks, done, again, back, first}
use Rattle.loop_find_spec.specs.Cycles.{Passes, edge, through, IsCycle, Share}

module _ {X : Type 0} where
  -- nothing is in both
  abbrev pub Apart : List X → List X → Type 0
  Apart xs ys = (x : X) → Contains xs x → Contains ys x → ⊥

  abbrev pub Within : List X → List X → Type 0
  Within xs ys = (x : X) → Contains xs x → Contains ys x

module _ {X : Type 0} (nexts : X → List X) where
  -- ---- what is on the way hasn't been left

  further_apart : (x : X) (way left : List X) → (Contains left x → ⊥) → Apart way left → Apart (x ∷ way) left
  further_apart x way left new apart y c among =
      elim (contained_cases x way y c) [ inl same ↦ new (subst (Contains left) same among) | inr later ↦ apart y later among ]

  still_apart : (way left todo out heads : List X) → Walks nexts way left todo out heads → Apart way left → Apart way out
  still_apart way left [] out heads (done _ _) apart = apart
  still_apart way left (x ∷ todo) out heads (again _ _ _ _ _ _ _ rest) apart = still_apart way left todo out heads rest apart
  still_apart way left (x ∷ todo) out _ (back _ _ _ _ _ heads _ rest) apart = still_apart way left todo out heads rest apart
  still_apart way left (x ∷ todo) out _ (first _ _ _ middle _ _ inner heads new off inside rest) apart =
      let within = still_apart (x ∷ way) left (nexts x) middle inner inside (further_apart x way left new apart) in
      still_apart way (x ∷ middle) todo out heads rest (λ y on c. elim (contained_cases x middle y c) [
        | inl same ↦ off (subst (Contains way) same on)
        | inr later ↦ within y (contained_later x way y on) later
      ])

  left_apart : (x : X) (way left middle inner : List X) → Walks nexts (x ∷ way) left (nexts x) middle inner → (Contains left x → ⊥) → (Contains way x → ⊥)
      → Apart way left → Apart way (x ∷ middle)
  left_apart x way left middle inner inside new off apart y c among = elim (contained_cases x middle y among) [
    | inl same ↦ off (subst (Contains way) same c)
    | inr later ↦ still_apart (x ∷ way) left (nexts x) middle inner inside (further_apart x way left new apart) y (contained_later x way y c) later
  ]

  -- ---- a walk has one outcome

  abbrev Same : (out other heads others : List X) → Type 0
  Same out other heads others = (out ≡ other) × (heads ≡ others)

  pub one_outcome : (way left todo out heads other others : List X) → Walks nexts way left todo out heads → Walks nexts way left todo other others → Apart way left
      → (out ≡ other) × (heads ≡ others)
  one_outcome way left [] out heads other others (done _ _) (done _ _) apart = (refl, refl)
  one_outcome way left (x ∷ todo) out heads other others (again _ _ _ _ _ _ among rest) (again _ _ _ _ _ _ among2 rest2) apart =
      one_outcome way left todo out heads other others rest rest2 apart
  one_outcome way left (x ∷ todo) out heads other _ (again _ _ _ _ _ _ among rest) (back _ _ _ _ _ others open2 rest2) apart = absurd (apart x open2 among)
  one_outcome way left (x ∷ todo) out heads other _ (again _ _ _ _ _ _ among rest) (first _ _ _ middle2 _ _ inner2 others new2 off2 inside2 rest2) apart = absurd (new2 among)
  one_outcome way left (x ∷ todo) out _ other others (back _ _ _ _ _ heads way_on rest) (again _ _ _ _ _ _ among2 rest2) apart = absurd (apart x way_on among2)
  one_outcome way left (x ∷ todo) out _ other _ (back _ _ _ _ _ heads way_on rest) (back _ _ _ _ _ others way_on2 rest2) apart =
      let ih = one_outcome way left todo out heads other others rest rest2 apart in (ih.0, ap (λ (h : List X). x ∷ h) ih.1)
  one_outcome way left (x ∷ todo) out _ other _ (back _ _ _ _ _ heads way_on rest) (first _ _ _ middle2 _ _ inner2 others new2 off2 inside2 rest2) apart = absurd (off2 way_on)
  one_outcome way left (x ∷ todo) out _ other others (first _ _ _ middle _ _ inner heads new off inside rest) (again _ _ _ _ _ _ among2 rest2) apart = absurd (new among2)
  one_outcome way left (x ∷ todo) out _ other _ (first _ _ _ middle _ _ inner heads new off inside rest) (back _ _ _ _ _ others way_on2 rest2) apart = absurd (off way_on2)
  one_outcome way left (x ∷ todo) out _ other _ (first _ _ _ middle _ _ inner heads new off inside rest) (first _ _ _ middle2 _ _ inner2 others new2 off2 inside2 rest2) apart =
      let within = one_outcome (x ∷ way) left (nexts x) middle inner middle2 inner2 inside inside2 (further_apart x way left new apart) in
      let after = one_outcome way (x ∷ middle) todo out heads other others rest
      (subst (λ (m : List X). Walks nexts way (x ∷ m) todo other others) (sym within.0) rest2) (left_apart x way left middle inner inside new off apart) in
      (after.0, ap (λ (h : List X). h ++ heads) within.1 ∙ ap (λ (h : List X). inner2 ++ h) after.1)

  -- ---- each cycle has a head on it

  module _ (loops : List X) where
    -- each was left after all that follow it, but for those at which loops begin
    abbrev pub Ordered : List X → Type 0
    Ordered [] = Unit {0}
    Ordered (x ∷ out) = ((y : X) → Contains (nexts x) y → Contains out y ⊎ Contains loops y) × Ordered out

    pub record IsCovered (way left todo out heads : List X) : Type 0 where
      pub ordered : Ordered out
      pub taken : (x : X) → Contains todo x → Contains out x ⊎ Contains loops x
      pub kept : Within left out
      pub begun : (x : X) → Contains heads x → Contains out x ⊎ Contains way x

    pub covered : (way left todo out heads : List X) → Walks nexts way left todo out heads → Ordered left → Within heads loops → IsCovered way left todo out heads
    covered way left [] out heads (done _ _) ordered are = record {
      ordered = ordered;
      taken = λ x c. absurd (none_contained x c);
      kept = λ x c. c;
      begun = λ x c. absurd (none_contained x c);
    }
    covered way left (x ∷ todo) out heads (again _ _ _ _ _ _ among rest) ordered are =
        let ih = covered way left todo out heads rest ordered are in
        record {
          ordered = ih.ordered;
          taken = λ y c. elim (contained_cases x todo y c) [ inl same ↦ inl (ih.kept y (subst (Contains left) (sym same) among)) | inr later ↦ ih.taken y later ];
          kept = ih.kept;
          begun = ih.begun;
        }
    covered way left (x ∷ todo) out _ (back _ _ _ _ _ heads way_on rest) ordered are =
        let ih = covered way left todo out heads rest ordered (λ y c. are y (contained_later x heads y c)) in
        record {
          ordered = ih.ordered;
          taken = λ y c. elim (contained_cases x todo y c) [
            | inl same ↦ inr (subst (Contains loops) (sym same) (are x (contained_here x heads)))
            | inr later ↦ ih.taken y later
          ];
          kept = ih.kept;
          begun = λ y c. elim (contained_cases x heads y c) [ inl same ↦ inr (subst (Contains way) (sym same) way_on) | inr later ↦ ih.begun y later ];
        }
    covered way left (x ∷ todo) out _ (first _ _ _ middle _ _ inner heads new off inside rest) ordered are =
        let within = covered (x ∷ way) left (nexts x) middle inner inside ordered (λ y c. are y (Contains-append_left inner heads y c)) in
        let ih = covered way (x ∷ middle) todo out heads rest (within.taken, within.ordered) (λ y c. are y (Contains-append_right inner heads y c)) in
        record {
          ordered = ih.ordered;
          taken = λ y c. elim (contained_cases x todo y c) [
            | inl same ↦ inl (ih.kept y (subst (Contains (x ∷ middle)) (sym same) (contained_here x middle)))
            | inr later ↦ ih.taken y later
          ];
          kept = λ y c. ih.kept y (contained_later x middle y (within.kept y c));
          begun = λ y c. elim (Contains-append_cases inner heads y c) [ inl one ↦ begun_inside x way middle out y (ih.kept) (within.begun y one) | inr later ↦ ih.begun y later ];
        }
      where
        begun_inside : (x : X) (way middle out : List X) (y : X) → Within (x ∷ middle) out → Contains middle y ⊎ Contains (x ∷ way) y → Contains out y ⊎ Contains way y
        begun_inside x way middle out y kept (inl c) = inl (kept y (contained_later x middle y c))
        begun_inside x way middle out y kept (inr c) = elim (contained_cases x way y c) [
          | inl same ↦ inl (kept y (subst (Contains (x ∷ middle)) (sym same) (contained_here x middle)))
          | inr later ↦ inr later
        ]

    at_first : (over : List X) → ((x : X) → Contains over x → (y : X) × Contains (nexts x) y × Contains over y) → (z : X) (out : List X)
        → ((y : X) → Contains (nexts z) y → Contains out y ⊎ Contains loops y) → ((y : X) → Contains over y → Contains out y → Share over loops) → Contains over z → Share over loops
    at_first over follows z out before rest of =
        let y = follows z of in
        elim (before y.0 y.1) [ inl later ↦ rest y.0 y.2 later | inr head ↦ record { one = y.0; of = y.2; among = head } ]

    -- where each of these is followed by one of them, and one of them has been left, a loop begins at one of them
    pub has_head : (over : List X) → ((x : X) → Contains over x → (y : X) × Contains (nexts x) y × Contains over y)
        → (out : List X) → Ordered out → (x : X) → Contains over x → Contains out x → Share over loops
    has_head over follows [] ordered x of c = absurd (none_contained x c)
    has_head over follows (z ∷ out) ordered x of c = elim (contained_cases z out x c) [
      | inl same ↦ at_first over follows z out ordered.0 (λ y on among. has_head over follows out ordered.1 y on among) (subst (Contains over) same of)
      | inr later ↦ has_head over follows out ordered.1 x of later
    ]

    -- what the first of some leads to has been left, where all that follows them is among them
    closed : (out : List X) → Ordered out → Within loops out → (x y : X) → Contains out x → Contains (nexts x) y → Contains out y
    closed out ordered begun x y c e = elim (in_order out ordered x y c e) [ inl c ↦ c | inr c ↦ begun y c ]
      where
        in_order : (out : List X) → Ordered out → (x y : X) → Contains out x → Contains (nexts x) y → Contains out y ⊎ Contains loops y
        in_order [] ordered x y c e = absurd (none_contained x c)
        in_order (z ∷ out) ordered x y c e = elim (contained_cases z out x c) [
          | inl same ↦ elim (ordered.0 y (subst (λ w. Contains (nexts w) y) same e)) [ inl later ↦ inl (contained_later z out y later) | inr head ↦ inr head ]
          | inr later ↦ elim (in_order out ordered.1 x y later e) [ inl after ↦ inl (contained_later z out y after) | inr head ↦ inr head ]
        ]

    pub led : (out : List X) → Ordered out → Within loops out → (x y : X) → Contains out x → Leads nexts x y → Contains out y
    led out ordered begun x y c here = c
    led out ordered begun x y c (on z _ path e) = closed out ordered begun z y (led out ordered begun x z c path) e

  -- each on a walk is followed by one on it, or by its end
  followed : (x : X) (over : List X) (z : X) → Passes nexts x over z → (w : X) → Contains over w → (y : X) × Contains (nexts w) y × (Contains over y ⊎ (y ≡ z))
  followed x _ z (edge _ _ e) w c = elim (contained_cases x [] w c) [
    | inl same ↦ (z, subst (λ v. Contains (nexts v) z) (sym same) e, inr refl)
    | inr later ↦ absurd (none_contained w later)
  ]
  followed x _ z (through _ y _ over e rest) w c = elim (contained_cases x over w c) [
    | inl same ↦ (y, subst (λ v. Contains (nexts v) y) (sym same) e, inl (contained_later x over y (starts y over z rest)))
    | inr later ↦ further (followed y over z rest w later)
  ]
    where
      starts : (y : X) (over : List X) (z : X) → Passes nexts y over z → Contains over y
      starts y _ z (edge _ _ e) = contained_here y []
      starts y _ z (through _ _ _ over e rest) = contained_here y over

      further : (v : X) × Contains (nexts w) v × (Contains over v ⊎ (v ≡ z)) → (v : X) × Contains (nexts w) v × (Contains (x ∷ over) v ⊎ (v ≡ z))
      further (v, e, inl c) = (v, e, inl (contained_later x over v c))
      further (v, e, inr same) = (v, e, inr same)

  begins : (x : X) (over : List X) (z : X) → Passes nexts x over z → Contains over x
  begins x _ z (edge _ _ e) = contained_here x []
  begins x _ z (through _ _ _ over e rest) = contained_here x over

  pub goes_round : (x : X) (over : List X) → IsCycle nexts x over → (w : X) → Contains over w → (y : X) × Contains (nexts w) y × Contains over y
  goes_round x over cycle w c =
      let f = followed x over x cycle w c in
      (f.0, f.1, elim f.2 [ inl among ↦ among | inr same ↦ subst (Contains over) (sym same) (begins x over x cycle) ])

  pub cycle_has_head : (entry : X) (left heads loops over : List X) (x : X) → Walks nexts [] [] (entry ∷ []) left heads → Within heads loops → Within loops heads
      → Leads nexts entry x → IsCycle nexts x over → Share over loops
  cycle_has_head entry left heads loops over x walk are begun path cycle =
      let all = covered loops [] [] (entry ∷ []) left heads walk tt are in
      let heads_left : Within loops left = λ y c. elim (all.begun y (begun y c)) [ inl c ↦ c | inr c ↦ absurd (none_contained y c) ] in
      let entered : Contains left entry = elim (all.taken entry (contained_here entry [])) [ inl c ↦ c | inr c ↦ heads_left entry c ] in
      has_head loops over (goes_round x over cycle) left all.ordered x (begins x over x cycle)
      (led loops left all.ordered heads_left entry x entered path)

  -- ---- each head is on a cycle, and the entry leads to it

  -- from each on the way there is a path to the topmost, and on to what is to be done
  module _ (entry : X) where
    pub record IsUnder (way todo : List X) : Type 0 where
      pub reached : (y : X) → Contains todo y → Leads nexts entry y
      pub above : (x y : X) → Contains way x → Contains todo y → (z : X) × Contains (nexts x) z × Leads nexts z y

    joined : (x y z : X) → Leads nexts x y → Contains (nexts y) z → Leads nexts x z
    joined x y z path e = on y z path e

    pub heads_turn : (way left todo out heads : List X) → Walks nexts way left todo out heads → IsUnder way todo
        → (x : X) → Contains heads x → Leads nexts entry x × IsOnCycle nexts x
    heads_turn way left [] out heads (done _ _) under x c = absurd (none_contained x c)
    heads_turn way left (y ∷ todo) out heads (again _ _ _ _ _ _ among rest) under x c = heads_turn way left todo out heads rest (later_under way y todo under) x c
      where
        later_under : (way : List X) (y : X) (todo : List X) → IsUnder way (y ∷ todo) → IsUnder way todo
        later_under way y todo under = record {
          reached = λ z c. under.reached z (contained_later y todo z c);
          above = λ w z of c. under.above w z of (contained_later y todo z c);
        }
    heads_turn way left (y ∷ todo) out _ (back _ _ _ _ _ heads way_on rest) under x c = elim (contained_cases y heads x c) [
      | inl same ↦ subst (λ w. Leads nexts entry w × IsOnCycle nexts w) (sym same) here_too
      | inr later ↦ heads_turn way left todo out heads rest under_rest x later
    ]
      where
        under_rest : IsUnder way todo
        under_rest = record {
          reached = λ z c. under.reached z (contained_later y todo z c);
          above = λ w z of c. under.above w z of (contained_later y todo z c);
        }

        here_too : Leads nexts entry y × IsOnCycle nexts y
        here_too =
            let a = under.above y y way_on (contained_here y todo) in
            (under.reached y (contained_here y todo), record { second = a.0; edge = a.1; back = a.2 })
    heads_turn way left (y ∷ todo) out _ (first _ _ _ middle _ _ inner heads new off inside rest) under x c = elim (Contains-append_cases inner heads x c) [
      | inl one ↦ heads_turn (y ∷ way) left (nexts y) middle inner inside under_inside x one
      | inr later ↦ heads_turn way (y ∷ middle) todo out heads rest under_rest x later
    ]
      where
        under_rest : IsUnder way todo
        under_rest = record {
          reached = λ z c. under.reached z (contained_later y todo z c);
          above = λ w z of c. under.above w z of (contained_later y todo z c);
        }

        under_inside : IsUnder (y ∷ way) (nexts y)
        under_inside = record {
          reached = λ z e. on y z (under.reached y (contained_here y todo)) e;
          above = λ w z of e. elim (contained_cases y way w of) [
            | inl same ↦ (z, subst (λ v. Contains (nexts v) z) (sym same) e, here)
            | inr later ↦ onward w z e (under.above w y later (contained_here y todo))
          ];
        }
          where
            onward : (w z : X) → Contains (nexts y) z → (v : X) × Contains (nexts w) v × Leads nexts v y → (v : X) × Contains (nexts w) v × Leads nexts v z
            onward w z e (v, onto, path) = (v, onto, on y z path e)

    pub turn : (left heads : List X) → Walks nexts [] [] (entry ∷ []) left heads → (x : X) → Contains heads x → Leads nexts entry x × IsOnCycle nexts x
    turn left heads walk x c = heads_turn [] [] (entry ∷ []) left heads walk at_start x c
      where
        at_start : IsUnder [] (entry ∷ [])
        at_start = record {
          reached = λ y c. elim (contained_cases entry [] y c) [ inl same ↦ subst (Leads nexts entry) (sym same) here | inr later ↦ absurd (none_contained y later) ];
          above = λ x y of c. absurd (none_contained x of);
        }

-- ---- ascending lists with the same elements

later_increases : (x : ℕ) (xs : List ℕ) → IsStrictlyIncreasing (x ∷ xs) → IsStrictlyIncreasing xs
later_increases x xs rises k less =
    let next : suc k + 1 ≡ suc (k + 1) = omega arith in
    subst (λ n. slice_index xs k < slice_index (x ∷ xs) n) next (rises (suc k) (omega (arith, less)))

first_below : (x : ℕ) (xs : List ℕ) → IsStrictlyIncreasing (x ∷ xs) → (y : ℕ) → Contains xs y → x < y
first_below x xs rises y (k, below, is) =
    subst (λ z. x < z) is (AllPairs-from_increasing (x ∷ xs) rises 0 (suc k) y (omega arith) (omega (arith, below)))

pub same_increasing : (xs ys : List ℕ) → IsStrictlyIncreasing xs → IsStrictlyIncreasing ys → Within xs ys → Within ys xs → xs ≡ ys
same_increasing [] [] rises grows forth hence = refl
same_increasing [] (y ∷ ys) rises grows forth hence = absurd (none_contained y (hence y (contained_here y ys)))
same_increasing (x ∷ xs) [] rises grows forth hence = absurd (none_contained x (forth x (contained_here x xs)))
same_increasing (x ∷ xs) (y ∷ ys) rises grows forth hence =
    ap (λ (n : ℕ). n ∷ xs) same ∙ ap (λ (l : List ℕ). y ∷ l)
    (same_increasing xs ys (later_increases x xs rises) (later_increases y ys grows)
    (λ n c. elim (contained_cases y ys n (forth n (contained_later x xs n c))) [
      | inl same_one ↦ absurd (let less = first_below x xs rises n c in omega (arith, less, same_one, same))
      | inr later ↦ later
    ])
    (λ n c. elim (contained_cases x xs n (hence n (contained_later y ys n c))) [
      | inl same_one ↦ absurd (let less = first_below y ys grows n c in omega (arith, less, same_one, same))
      | inr later ↦ later
    ]))
  where
    same : x ≡ y
    same = elim (contained_cases y ys x (forth x (contained_here x xs))) [
      | inl same_one ↦ same_one
      | inr above ↦ elim (contained_cases x xs y (hence y (contained_here y ys))) [
        | inl same_one ↦ sym same_one
        | inr over ↦ absurd (let less = first_below x xs rises y over in let more = first_below y ys grows x above in omega (arith, less, more))
      ]
    ]
