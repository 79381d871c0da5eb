-- The variables that a graph speaks of are those that its terms and bindings have.
use Rattle.std.proofs.Common.{◌≡◌, ◌∙◌, ◌⊎◌, inl, inr, zero, suc, ◌||◌, Bool, true, false, if◌then◌else◌, refl, sym, ap, subst, arith, List, [], ◌∷◌, ◌++◌, filter, All, Contains}
use Rattle.std.specs.Prelude.{not}
use Rattle.std.specs.List.{list_any}
use Rattle.std.proofs.lemmas.Bool.{cases_Bool}
use Rattle.std.proofs.lemmas.List.Elements.{All-nil, All-cons, All-append, All-head, All-tail, All-weaker, Contains-append_left, Contains-append_right}
use Rattle.term_core_spec.specs.declared.Atom.TheVariants as atom
use Rattle.term_core_spec.specs.declared.Variable.{Variable}
use Rattle.term_core_spec.specs.Same.{same_variable}
use Rattle.term_core_spec.specs.Term.{Term, Leaf, Unary, Binary, Ternary, Quaternary, Octonary, Occurs}
use Rattle.term_core_spec.proofs.Same.{variable-same}
use Rattle.graph_core_spec.specs.Graph.{Binding, Node, Basic, Cond, Call, Graph}
use Rattle.graph_core_spec.specs.Run.{is_shared}
use Rattle.graph_core_spec.specs.Variables.{occurrences, occurrences_in_bindings, occurrences_in_node, occurrences_in_nodes, with_variable, with_variables, variables}
use Rattle.graph_inline_spec.specs.Inlining.{TermSpeaksOf, SpeaksOf, IsOfCallee}
use Rattle.sim_inline_laws.proofs.OfKind.{IsKindTerm, IsKindBinding, IsKindNode}
use Rattle.validity_laws.specs.OwnVariables.{own_variables}

-- ---- lists of variables

first_there : (v : Variable) (list : List Variable) → Contains (v ∷ list) v
first_there v list = (0, omega arith, refl)

later_there : (w v : Variable) (list : List Variable) → Contains list v → Contains (w ∷ list) v
later_there w v list (k, less, at) = (suc k, omega (arith, less), at)

any_there : (v : Variable) (list : List Variable) → list_any (same_variable v) list ≡ true → Contains list v
any_there v [] e = absurd (let bad : false ≡ true = e in cc)
any_there v (w ∷ list) e = elim (cases_Bool (same_variable v w)) [
  | inl is ↦ subst (λ (u : Variable). Contains (w ∷ list) u) (sym (variable-same v w is)) (first_there w list)
  | inr other ↦ later_there w v list (any_there v list (ap (λ (b : Bool). b || list_any (same_variable v) list) (sym other) ∙ e))
]

-- one more
now_there : (seen : List Variable) (v : Variable) → Contains (with_variable seen v) v
now_there seen v = by (list_any (same_variable v) seen) refl
  where
    by : (b : Bool) → list_any (same_variable v) seen ≡ b → Contains (if b then seen else seen ++ v ∷ []) v
    by true e = any_there v seen e
    by false e = Contains-append_right seen (v ∷ []) v (first_there v [])

still_seen : (seen : List Variable) (w v : Variable) → Contains seen v → Contains (with_variable seen w) v
still_seen seen w v there = by (list_any (same_variable w) seen)
  where
    by : (b : Bool) → Contains (if b then seen else seen ++ w ∷ []) v
    by true = there
    by false = Contains-append_left seen (w ∷ []) v there

pub still_there : (seen list : List Variable) (v : Variable) → Contains seen v → Contains (with_variables seen list) v
still_there seen [] v there = there
still_there seen (w ∷ list) v there = still_there (with_variable seen w) list v (still_seen seen w v there)

pub more_there : (seen list : List Variable) (v : Variable) → Contains list v → Contains (with_variables seen list) v
more_there seen [] v (k, less, at) = absurd (omega (arith, less))
more_there seen (w ∷ list) v (zero, less, at) =
    still_there (with_variable seen w) list v (subst (λ (u : Variable). Contains (with_variable seen w) u) at (now_there seen w))
more_there seen (w ∷ list) v (suc k, less, at) = more_there (with_variable seen w) list v (k, omega (arith, less), at)

module _ (P : Variable → Type 0) where
  one_all : (seen : List Variable) (v : Variable) → All P seen → P v → All P (with_variable seen v)
  one_all seen v all is = by (list_any (same_variable v) seen)
    where
      by : (b : Bool) → All P (if b then seen else seen ++ v ∷ [])
      by true = all
      by false = All-append P seen (v ∷ []) all (All-cons P v [] is (All-nil P))

  pub more_all : (seen list : List Variable) → All P seen → All P list → All P (with_variables seen list)
  more_all seen [] all more = all
  more_all seen (v ∷ list) all more = more_all (with_variable seen v) list (one_all seen v all (All-head P v list more)) (All-tail P v list more)

filtered : (p : Variable → Bool) (list : List Variable) (v : Variable) → Contains list v → p v ≡ true → Contains (filter p list) v
filtered p [] v (k, less, at) e = absurd (omega (arith, less))
filtered p (w ∷ list) v (zero, less, at) e = by (p w) refl
  where
    by : (b : Bool) → p w ≡ b → Contains (if b then w ∷ filter p list else filter p list) v
    by true is = (0, omega arith, at)
    by false is = absurd (let bad : true ≡ false = sym e ∙ (ap p (sym at) ∙ is) in cc)
filtered p (w ∷ list) v (suc k, less, at) e = by (p w) (filtered p list v (k, omega (arith, less), at) e)
  where
    by : (b : Bool) → Contains (filter p list) v → Contains (if b then w ∷ filter p list else filter p list) v
    by true rest = later_there w v (filter p list) rest
    by false rest = rest

-- ---- terms

pub occurs_there : (v : Variable) (t : Term) → Occurs v t → Contains (occurrences t) v
unfolding Occurs occurrences
occurs_there v (Leaf (atom.Truth value)) o = absurd o
occurs_there v (Leaf (atom.Constant width number)) o = absurd o
occurs_there v (Leaf (atom.Open variable)) o = subst (λ (u : Variable). Contains (variable ∷ []) u) (sym o) (first_there variable [])
occurs_there v (Unary operator a) o = occurs_there v a o
occurs_there v (Binary operator a b) (inl o) = Contains-append_left (occurrences a) (occurrences b) v (occurs_there v a o)
occurs_there v (Binary operator a b) (inr o) = Contains-append_right (occurrences a) (occurrences b) v (occurs_there v b o)
occurs_there v (Ternary operator a b c) (inl o) = Contains-append_left (occurrences a) (occurrences b ++ occurrences c) v (occurs_there v a o)
occurs_there v (Ternary operator a b c) (inr (inl o)) =
    Contains-append_right (occurrences a) (occurrences b ++ occurrences c) v (Contains-append_left (occurrences b) (occurrences c) v (occurs_there v b o))
occurs_there v (Ternary operator a b c) (inr (inr o)) =
    Contains-append_right (occurrences a) (occurrences b ++ occurrences c) v (Contains-append_right (occurrences b) (occurrences c) v (occurs_there v c o))
occurs_there v (Quaternary operator a b c d) o =
    either v (occurrences a) (occurrences b ++ (occurrences c ++ occurrences d)) (Occurs v a) (Occurs v b ⊎ (Occurs v c ⊎ Occurs v d)) (occurs_there v a)
    (either v (occurrences b) (occurrences c ++ occurrences d) (Occurs v b) (Occurs v c ⊎ Occurs v d) (occurs_there v b)
    (either v (occurrences c) (occurrences d) (Occurs v c) (Occurs v d) (occurs_there v c) (occurs_there v d))) o
  where
    either : (v : Variable) (xs ys : List Variable) (A B : Type 0) → (A → Contains xs v) → (B → Contains ys v) → A ⊎ B → Contains (xs ++ ys) v
    either v xs ys A B f g (inl x) = Contains-append_left xs ys v (f x)
    either v xs ys A B f g (inr y) = Contains-append_right xs ys v (g y)
occurs_there v (Octonary a b c d e f g h) o =
    either v (occurrences a) (occurrences b ++ (occurrences c ++ (occurrences d ++ (occurrences e ++ (occurrences f ++ (occurrences g ++ occurrences h)))))) (Occurs v a)
    (Occurs v b ⊎ (Occurs v c ⊎ (Occurs v d ⊎ (Occurs v e ⊎ (Occurs v f ⊎ (Occurs v g ⊎ Occurs v h)))))) (occurs_there v a)
    (either v (occurrences b) (occurrences c ++ (occurrences d ++ (occurrences e ++ (occurrences f ++ (occurrences g ++ occurrences h))))) (Occurs v b)
    (Occurs v c ⊎ (Occurs v d ⊎ (Occurs v e ⊎ (Occurs v f ⊎ (Occurs v g ⊎ Occurs v h))))) (occurs_there v b)
    (either v (occurrences c) (occurrences d ++ (occurrences e ++ (occurrences f ++ (occurrences g ++ occurrences h)))) (Occurs v c)
    (Occurs v d ⊎ (Occurs v e ⊎ (Occurs v f ⊎ (Occurs v g ⊎ Occurs v h)))) (occurs_there v c)
    (either v (occurrences d) (occurrences e ++ (occurrences f ++ (occurrences g ++ occurrences h))) (Occurs v d) (Occurs v e ⊎ (Occurs v f ⊎ (Occurs v g ⊎ Occurs v h))) (occurs_there v d)
    (either v (occurrences e) (occurrences f ++ (occurrences g ++ occurrences h)) (Occurs v e) (Occurs v f ⊎ (Occurs v g ⊎ Occurs v h)) (occurs_there v e)
    (either v (occurrences f) (occurrences g ++ occurrences h) (Occurs v f) (Occurs v g ⊎ Occurs v h) (occurs_there v f)
    (either v (occurrences g) (occurrences h) (Occurs v g) (Occurs v h) (occurs_there v g) (occurs_there v h))))))) o
  where
    either : (v : Variable) (xs ys : List Variable) (A B : Type 0) → (A → Contains xs v) → (B → Contains ys v) → A ⊎ B → Contains (xs ++ ys) v
    either v xs ys A B f g (inl x) = Contains-append_left xs ys v (f x)
    either v xs ys A B f g (inr y) = Contains-append_right xs ys v (g y)

module _ (K : Variable → Bool) where
  abbrev IsKind : Variable → Type 0
  IsKind v = K v ≡ true

  both : (xs ys : List Variable) → All IsKind xs → All IsKind ys → All IsKind (xs ++ ys)
  both xs ys = All-append IsKind xs ys

  term_all : (t : Term) → IsKindTerm K t → All IsKind (occurrences t)
  unfolding Occurs occurrences
  term_all (Leaf (atom.Truth value)) h = All-nil IsKind
  term_all (Leaf (atom.Constant width number)) h = All-nil IsKind
  term_all (Leaf (atom.Open variable)) h = All-cons IsKind variable [] (h variable refl) (All-nil IsKind)
  term_all (Unary operator a) h = term_all a h
  term_all (Binary operator a b) h = both (occurrences a) (occurrences b) (term_all a (λ v o. h v (inl o))) (term_all b (λ v o. h v (inr o)))
  term_all (Ternary operator a b c) h =
      both (occurrences a) (occurrences b ++ occurrences c) (term_all a (λ v o. h v (inl o)))
      (both (occurrences b) (occurrences c) (term_all b (λ v o. h v (inr (inl o)))) (term_all c (λ v o. h v (inr (inr o)))))
  term_all (Quaternary operator a b c d) h =
      both (occurrences a) (occurrences b ++ (occurrences c ++ occurrences d)) (term_all a (λ v o. h v (inl o)))
      (both (occurrences b) (occurrences c ++ occurrences d) (term_all b (λ v o. h v (inr (inl o))))
      (both (occurrences c) (occurrences d) (term_all c (λ v o. h v (inr (inr (inl o))))) (term_all d (λ v o. h v (inr (inr (inr o)))))))
  term_all (Octonary a b c d e f g i) h =
      both (occurrences a) (occurrences b ++ (occurrences c ++ (occurrences d ++ (occurrences e ++ (occurrences f ++ (occurrences g ++ occurrences i)))))) (term_all a (λ v o. h v (inl o)))
      (both (occurrences b) (occurrences c ++ (occurrences d ++ (occurrences e ++ (occurrences f ++ (occurrences g ++ occurrences i))))) (term_all b (λ v o. h v (inr (inl o))))
      (both (occurrences c) (occurrences d ++ (occurrences e ++ (occurrences f ++ (occurrences g ++ occurrences i)))) (term_all c (λ v o. h v (inr (inr (inl o)))))
      (both (occurrences d) (occurrences e ++ (occurrences f ++ (occurrences g ++ occurrences i))) (term_all d (λ v o. h v (inr (inr (inr (inl o))))))
      (both (occurrences e) (occurrences f ++ (occurrences g ++ occurrences i)) (term_all e (λ v o. h v (inr (inr (inr (inr (inl o)))))))
      (both (occurrences f) (occurrences g ++ occurrences i) (term_all f (λ v o. h v (inr (inr (inr (inr (inr (inl o))))))))
      (both (occurrences g) (occurrences i) (term_all g (λ v o. h v (inr (inr (inr (inr (inr (inr (inl o)))))))))
      (term_all i (λ v o. h v (inr (inr (inr (inr (inr (inr (inr o)))))))))))))))

  bindings_all : (bindings : List Binding) → All (IsKindBinding K) bindings → All IsKind (occurrences_in_bindings bindings)
  bindings_all [] all = All-nil IsKind
  bindings_all (b ∷ bindings) all =
      let first = All-head (IsKindBinding K) b bindings all in
      All-cons IsKind b.variable (occurrences b.term ++ occurrences_in_bindings bindings) first.0
      (both (occurrences b.term) (occurrences_in_bindings bindings) (term_all b.term first.1) (bindings_all bindings (All-tail (IsKindBinding K) b bindings all)))

  node_all : (node : Node) → IsKindNode K node → All IsKind (occurrences_in_node node)
  node_all (Basic bindings to) h = bindings_all bindings h
  node_all (Cond test on_true on_false) h = term_all test h
  node_all (Call callee inputs outputs landing) h = both (occurrences_in_bindings inputs) (occurrences_in_bindings outputs) (bindings_all inputs h.0) (bindings_all outputs h.1)

  nodes_all : (nodes : List Node) → All (IsKindNode K) nodes → All IsKind (occurrences_in_nodes nodes)
  nodes_all [] all = All-nil IsKind
  nodes_all (node ∷ nodes) all =
      both (occurrences_in_node node) (occurrences_in_nodes nodes) (node_all node (All-head (IsKindNode K) node nodes all)) (nodes_all nodes (All-tail (IsKindNode K) node nodes all))

  -- all variables of a graph whose nodes speak of a kind alone are of the kind
  pub variables_all : (g : Graph) → All (IsKindNode K) g.nodes → All IsKind (variables g)
  variables_all g all = more_all IsKind [] (occurrences_in_nodes g.nodes) (All-nil IsKind) (nodes_all g.nodes all)

-- ---- nodes

module _ (list : List Variable) where
  abbrev There : Variable → Type 0
  There v = Contains list v

  abbrev AreThere : List Variable → Type 0
  AreThere some = (v : Variable) → Contains some v → Contains list v

  bindings_there : (bindings : List Binding) → AreThere (occurrences_in_bindings bindings) → All (λ (b : Binding). There b.variable × TermSpeaksOf There b.term) bindings
  bindings_there [] all = All-nil (λ (b : Binding). There b.variable × TermSpeaksOf There b.term)
  bindings_there (b ∷ bindings) all =
      All-cons (λ (b : Binding). There b.variable × TermSpeaksOf There b.term) b bindings (
        all b.variable (first_there b.variable (occurrences b.term ++ occurrences_in_bindings bindings)),
        λ v o. all v (later_there b.variable v (occurrences b.term ++ occurrences_in_bindings bindings)
            (Contains-append_left (occurrences b.term) (occurrences_in_bindings bindings) v (occurs_there v b.term o))),
      )
      (bindings_there bindings (λ v there. all v (later_there b.variable v (occurrences b.term ++ occurrences_in_bindings bindings)
      (Contains-append_right (occurrences b.term) (occurrences_in_bindings bindings) v there))))

  node_there : (node : Node) → AreThere (occurrences_in_node node) → SpeaksOf There node
  node_there (Basic bindings to) all = bindings_there bindings all
  node_there (Cond test on_true on_false) all = λ v o. all v (occurs_there v test o)
  node_there (Call callee inputs outputs landing) all = (
    All-weaker (λ (b : Binding). There b.variable × TermSpeaksOf There b.term) (λ (b : Binding). TermSpeaksOf There b.term) (λ b is. is.1) inputs
        (bindings_there inputs (λ v there. all v (Contains-append_left (occurrences_in_bindings inputs) (occurrences_in_bindings outputs) v there))),
    All-weaker (λ (b : Binding). There b.variable × TermSpeaksOf There b.term) (λ (b : Binding). There b.variable) (λ b is. is.0) outputs
        (bindings_there outputs (λ v there. all v (Contains-append_right (occurrences_in_bindings inputs) (occurrences_in_bindings outputs) v there))),
  )

  nodes_there : (nodes : List Node) → AreThere (occurrences_in_nodes nodes) → All (SpeaksOf There) nodes
  nodes_there [] all = All-nil (SpeaksOf There)
  nodes_there (node ∷ nodes) all =
      All-cons (SpeaksOf There) node nodes
      (node_there node (λ v there. all v (Contains-append_left (occurrences_in_node node) (occurrences_in_nodes nodes) v there)))
      (nodes_there nodes (λ v there. all v (Contains-append_right (occurrences_in_node node) (occurrences_in_nodes nodes) v there)))

speaks_of : (P Q : Variable → Type 0) → ((v : Variable) → P v → Q v) → (node : Node) → SpeaksOf P node → SpeaksOf Q node
speaks_of P Q wider (Basic bindings to) h =
    All-weaker (λ (b : Binding). P b.variable × TermSpeaksOf P b.term) (λ (b : Binding). Q b.variable × TermSpeaksOf Q b.term) (λ b is. (wider b.variable is.0, λ v o. wider v (is.1 v o))) bindings h
speaks_of P Q wider (Cond test on_true on_false) h = λ v o. wider v (h v o)
speaks_of P Q wider (Call callee inputs outputs landing) h = (
  All-weaker (λ (b : Binding). TermSpeaksOf P b.term) (λ (b : Binding). TermSpeaksOf Q b.term) (λ b is. λ v o. wider v (is v o)) inputs h.0,
  All-weaker (λ (b : Binding). P b.variable) (λ (b : Binding). Q b.variable) (λ b is. wider b.variable is) outputs h.1,
)

-- what a graph speaks of is shared, or one of its own variables
pub own_listed : (g : Graph) → All (SpeaksOf (IsOfCallee (own_variables g))) g.nodes
own_listed g =
    All-weaker (SpeaksOf (λ (v : Variable). Contains (variables g) v)) (SpeaksOf (IsOfCallee (own_variables g)))
    (speaks_of (λ (v : Variable). Contains (variables g) v) (IsOfCallee (own_variables g)) (λ v there. elim (cases_Bool (is_shared v)) [
      | inl shared ↦ inl shared
      | inr own ↦ inr (filtered (λ (u : Variable). not (is_shared u)) (variables g) v there (ap not own))
    ])) g.nodes (nodes_there (variables g) g.nodes (λ v there. more_there [] (occurrences_in_nodes g.nodes) v there))

-- with more of them, too
pub listed_more : (own more : List Variable) (g : Graph) → ((v : Variable) → Contains own v → Contains more v) → All (SpeaksOf (IsOfCallee own)) g.nodes
    → All (SpeaksOf (IsOfCallee more)) g.nodes
listed_more own more g wider all =
    All-weaker (SpeaksOf (IsOfCallee own)) (SpeaksOf (IsOfCallee more)) (speaks_of (IsOfCallee own) (IsOfCallee more) (λ v is. by v is)) g.nodes all
  where
    by : (v : Variable) → IsOfCallee own v → IsOfCallee more v
    by v (inl shared) = inl shared
    by v (inr there) = inr (wider v there)
