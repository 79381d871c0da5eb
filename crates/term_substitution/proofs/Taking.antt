-- What was taken from one bank to another, as more is.
use Rattle.std.proofs.Common.{◌≡◌, ◌∙◌, ◌⊎◌, inl, inr, ℕ, zero, suc, ◌<◌, Bool, true, false, cond, List, [], ◌∷◌, length, get_or, take, Option, Some, None, refl, sym, ap, subst, arith, eqb-true}
use Rattle.std.specs.Prelude.{nat_eq, unwrap_or, IsSome}
use Rattle.std.specs.Cmp.{nat_eq_equiv}
use Rattle.std.proofs.lemmas.List.{get_or-take}
use Rattle.std.proofs.lemmas.Option.{same_Some}
use Rattle.term_core_spec.specs.declared.Variable.{Variable}
use Rattle.term_core_spec.specs.declared.Atom.{Atom}
use Rattle.term_core_spec.specs.declared.Atom.TheVariants as atom
use Rattle.term_core_spec.specs.Term as tree
use Rattle.term_core_spec.specs.Term.{Term, open_term}
use Rattle.term_core_spec.specs.Substitution.{State, substituted, substituted_atom}
use Rattle.term_bank.specs.declared.node.TermNode.{TermNode}
use Rattle.term_bank.specs.declared.node.TermNode.TheVariants.{Leaf, Unary, Binary, Ternary, Quaternary, Octonary}
use Rattle.term_bank.specs.Nodes.{IsNode, tree_at, build, Holds, Extends}
use Rattle.term_bank.specs.Subterms.{arguments_of}
use Rattle.term_bank.proofs.Growth.{tree_at-front, length-Extends}
use Rattle.term_bank.proofs.Substitution.{kept, is_at}
use Rattle.term_substitution.specs.States.{tree_or, state_of, AreBelow}
use Rattle.term_substitution.specs.Transfers.{HasTerms, AreWithin, AreTaken, TakesMore, AllTaken, taken_id, over, atom_of}

-- ---- the state, as the bank grows

module _ (old new : List Term) (grows : Extends old new) (ids : Variable → Option ℕ) (below : AreBelow (length old) ids) where
  pub has_later : (terms : State) → HasTerms old ids terms → HasTerms new ids terms
  has_later terms has v = by (ids v) refl ∙ has v
    where
      by : (o : Option ℕ) → ids v ≡ o → tree_or new o (open_term v) ≡ tree_or old o (open_term v)
      by None is = refl
      by (Some i) is = ap (λ (trees : List Term). tree_at trees i) grows.1 ∙ tree_at-front old grows.0 i (below v i is)

  pub below_later : AreBelow (length new) ids
  below_later v i is =
      let less = below v i is in
      let longer = length-Extends old new grows in
      omega arith

-- ---- more is taken

pub takes_none : (from trees : List Term) (ids : Variable → Option ℕ) (done : ℕ → Option ℕ) → AreWithin (length trees) done → TakesMore from ids trees trees done done
takes_none from trees ids done within = record { within = within; kept = λ id there. there; taken = λ terms has taken. taken }

pub takes_then : (from a b c : List Term) (ids : Variable → Option ℕ) (first second third : ℕ → Option ℕ) → Extends a b → AreBelow (length a) ids
    → TakesMore from ids a b first second → TakesMore from ids b c second third → TakesMore from ids a c first third
takes_then from a b c ids first second third grows below one two = record {
  within = two.within;
  kept = λ id there. two.kept id (one.kept id there);
  taken = λ terms has taken. two.taken terms (has_later a b grows ids below terms has) (one.taken terms has taken);
}

-- one more
module _ (done more : ℕ → Option ℕ) (id index : ℕ) (updates : (q : ℕ) → more q ≡ cond (nat_eq id q) (Some index) (done q)) where
  found : (k i : ℕ) → more k ≡ Some i → ((id ≡ k) × (index ≡ i)) ⊎ (done k ≡ Some i)
  found k i is = by (nat_eq id k) refl (sym (updates k) ∙ is)
    where
      by : (b : Bool) → nat_eq id k ≡ b → cond b (Some index) (done k) ≡ Some i → ((id ≡ k) × (index ≡ i)) ⊎ (done k ≡ Some i)
      by true same e = inl (eqb-true id k same, same_Some index i e)
      by false same e = inr e

  still_there : (k : ℕ) → IsSome (done k) → IsSome (more k)
  still_there k there = subst IsSome (sym (updates k)) (by (nat_eq id k))
    where
      by : (b : Bool) → IsSome (cond b (Some index) (done k))
      by true = refl
      by false = there

  pub now_there : IsSome (more id)
  now_there = subst IsSome (sym (updates id)) (by (nat_eq id id) (nat_eq_equiv.refl id))
    where
      by : (b : Bool) → b ≡ true → IsSome (cond b (Some index) (done id))
      by true e = refl
      by false e = absurd (cc)

  pub takes_one : (from old new : List Term) (ids : Variable → Option ℕ) → Extends old new → AreWithin (length old) done → index < length new
      → ((terms : State) → HasTerms old ids terms → AreTaken terms from old done → Holds new index (substituted terms (tree_at from id))) → TakesMore from ids old new done more
  takes_one from old new ids grows within less holds = record {
    within = λ k i is. in_bank k i (found k i is);
    kept = still_there;
    taken = λ terms has taken k i is. right terms has taken k i (found k i is);
  }
    where
      in_bank : (k i : ℕ) → ((id ≡ k) × (index ≡ i)) ⊎ (done k ≡ Some i) → i < length new
      in_bank k i (inl same) = subst (λ (n : ℕ). n < length new) same.1 less
      in_bank k i (inr was) =
          let before = within k i was in
          let longer = length-Extends old new grows in
          omega arith

      right : (terms : State) → HasTerms old ids terms → AreTaken terms from old done → (k i : ℕ) → ((id ≡ k) × (index ≡ i)) ⊎ (done k ≡ Some i) → Holds new i (substituted terms (tree_at from k))
      right terms has taken k i (inl same) =
          subst (λ (n : ℕ). Holds new n (substituted terms (tree_at from k))) same.1
          (subst (λ (m : ℕ). Holds new index (substituted terms (tree_at from m))) same.0 (holds terms has taken))
      right terms has taken k i (inr was) = kept old new i (substituted terms (tree_at from k)) grows (taken k i was)

-- ---- a node over the indices of its arguments

some_value : (found : Option ℕ) → IsSome found → found ≡ Some (unwrap_or found 0)
some_value None there = absurd (cc)
some_value (Some index) there = refl

module _ (n : ℕ) (done : ℕ → Option ℕ) (within : AreWithin n done) where
  index_within : (id : ℕ) → IsSome (done id) → taken_id done id < n
  index_within id there = within id (taken_id done id) (some_value (done id) there)

  pub over_within : (node : TermNode) → AllTaken done (arguments_of node) → IsNode n (over done node)
  over_within (Leaf leaf) all = tt
  over_within (Unary operator a) all = index_within a all.0
  over_within (Binary operator a b) all = (index_within a all.0, index_within b all.1.0)
  over_within (Ternary operator a b c) all = (index_within a all.0, index_within b all.1.0, index_within c all.1.1.0)
  over_within (Quaternary operator a b c d) all = (index_within a all.0, index_within b all.1.0, index_within c all.1.1.0, index_within d all.1.1.1.0)
  over_within (Octonary a b c d e f g h) all = (
    index_within a all.0,
    index_within b all.1.0,
    index_within c all.1.1.0,
    index_within d all.1.1.1.0,
    index_within e all.1.1.1.1.0,
    index_within f all.1.1.1.1.1.0,
    index_within g all.1.1.1.1.1.1.0,
    index_within h all.1.1.1.1.1.1.1.0,
  )

module _ (terms : State) (from trees : List Term) (done : ℕ → Option ℕ) (taken : AreTaken terms from trees done) where
  same_tree : (id : ℕ) → IsSome (done id) → tree_at trees (taken_id done id) ≡ substituted terms (tree_at from id)
  same_tree id there = is_at trees (taken_id done id) (substituted terms (tree_at from id)) (taken id (taken_id done id) (some_value (done id) there))

  pub over_built : (node : TermNode) → None ≡ atom_of node → AllTaken done (arguments_of node) → build trees (over done node) ≡ substituted terms (build from node)
  unfolding substituted
  over_built (Leaf leaf) none all = absurd (cc)
  over_built (Unary operator a) none all = let ea = same_tree a all.0 in cc
  over_built (Binary operator a b) none all =
      let ea = same_tree a all.0 in
      let eb = same_tree b all.1.0 in
      cc
  over_built (Ternary operator a b c) none all =
      let ea = same_tree a all.0 in
      let eb = same_tree b all.1.0 in
      let ec = same_tree c all.1.1.0 in
      cc
  over_built (Quaternary operator a b c d) none all =
      let ea = same_tree a all.0 in
      let eb = same_tree b all.1.0 in
      let ec = same_tree c all.1.1.0 in
      let ed = same_tree d all.1.1.1.0 in
      cc
  over_built (Octonary a b c d e f g h) none all =
      rw (same_tree a all.0, same_tree b all.1.0, same_tree c all.1.1.0, same_tree d all.1.1.1.0, same_tree e all.1.1.1.1.0, same_tree f all.1.1.1.1.1.0, same_tree g all.1.1.1.1.1.1.0, same_tree h all.1.1.1.1.1.1.1.0) refl

leaf_is : (node : TermNode) (leaf : Atom) → Some leaf ≡ atom_of node → node ≡ Leaf leaf
leaf_is (Leaf other) leaf e = ap (λ (a : Atom). Leaf a) (same_Some other leaf (sym e))
leaf_is (Unary operator a) leaf e = absurd (cc)
leaf_is (Binary operator a b) leaf e = absurd (cc)
leaf_is (Ternary operator a b c) leaf e = absurd (cc)
leaf_is (Quaternary operator a b c d) leaf e = absurd (cc)
leaf_is (Octonary a b c d e f g h) leaf is = absurd (cc)

-- an atom by the state's terms
pub atom_taken : (terms : State) (trees from : List Term) (ids : Variable → Option ℕ) → HasTerms trees ids terms → (node : TermNode) (leaf : Atom) → Some leaf ≡ atom_of node
    → substituted_atom (state_of trees ids) leaf ≡ substituted terms (build from node)
unfolding substituted
atom_taken terms trees from ids has node leaf e =
    let is : state_of trees ids ≡ terms = λ i v. has v i in
    ap (λ (s : State). substituted_atom s leaf) is ∙ ap (λ (n : TermNode). substituted terms (build from n)) (sym (leaf_is node leaf e))

-- ---- the arguments, one after another

AllBelow : ℕ → List ℕ → Type 0
AllBelow n [] = Unit {0}
AllBelow n (id ∷ ids) = (id < n) × AllBelow n ids

arguments_below : (n : ℕ) (node : TermNode) → IsNode n node → AllBelow n (arguments_of node)
unfolding AllBelow
arguments_below n (Leaf leaf) h = tt
arguments_below n (Unary operator a) h = (h, tt)
arguments_below n (Binary operator a b) h = (h.0, (h.1, tt))
arguments_below n (Ternary operator a b c) h = (h.0, (h.1, (h.2, tt)))
arguments_below n (Quaternary operator a b c d) h = (h.0, (h.1, (h.2, (h.3, tt))))
arguments_below n (Octonary a b c d e f g i) h = (h.0, (h.1, (h.2, (h.3, (h.4, (h.5, (h.6, (h.7, tt))))))))

one_below : (n : ℕ) (ids : List ℕ) (k : ℕ) → AllBelow n ids → k < length ids → get_or ids k 0 < n
unfolding AllBelow
one_below n [] k all less = absurd (omega arith)
one_below n (id ∷ ids) zero all less = all.0
one_below n (id ∷ ids) (suc k) all less = one_below n ids k all.1 (omega arith)

module _ (node : TermNode) (ids : List ℕ) (count : ℕ) (are : take count ids ≡ arguments_of node) where
  pub argument_at : (k : ℕ) → k < count → get_or ids k 0 ≡ get_or (arguments_of node) k 0
  argument_at k less = sym (get_or-take count ids k 0 less) ∙ ap (λ (l : List ℕ). get_or l k 0) are

  -- each comes before the node
  pub argument_below : (n k : ℕ) → IsNode n node → length (arguments_of node) ≡ count → k < count → get_or ids k 0 < n
  argument_below n k fits long less =
      subst (λ (id : ℕ). id < n) (sym (argument_at k less)) (one_below n (arguments_of node) k (arguments_below n node fits) (omega arith))

pub all_taken : (done : ℕ → Option ℕ) (ids : List ℕ) → ((k : ℕ) → k < length ids → IsSome (done (get_or ids k 0))) → AllTaken done ids
all_taken done [] each = tt
all_taken done (id ∷ ids) each = (each zero (omega arith), all_taken done ids (λ k less. each (suc k) (omega arith)))

-- ---- without a state

module _ (state : State) (none : (v : Variable) → state v ≡ open_term v) where
  atom_stays : (leaf : Atom) → substituted_atom state leaf ≡ tree.Leaf leaf
  atom_stays (atom.Truth value) = refl
  atom_stays (atom.Constant width number) = refl
  atom_stays (atom.Open variable) = none variable

  pub stays : (t : Term) → substituted state t ≡ t
  unfolding substituted
  stays (tree.Leaf leaf) = atom_stays leaf
  stays (tree.Unary operator a) = let ea = stays a in cc
  stays (tree.Binary operator a b) =
      let ea = stays a in
      let eb = stays b in
      cc
  stays (tree.Ternary operator a b c) =
      let ea = stays a in
      let eb = stays b in
      let ec = stays c in
      cc
  stays (tree.Quaternary operator a b c d) =
      let ea = stays a in
      let eb = stays b in
      let ec = stays c in
      let ed = stays d in
      cc
  stays (tree.Octonary a b c d e f g h) = rw (stays a, stays b, stays c, stays d, stays e, stays f, stays g, stays h) refl
