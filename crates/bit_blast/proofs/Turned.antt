-- What one task makes of the others.
use Rattle.std.proofs.Common.{◌≡◌, ◌<◌, inl, inr, ℕ, Bool, true, false, cond, List, [], ◌∷◌, ◌++◌, length, map, Some, Vec, refl, ap, sym, ◌∙◌, subst, arith, eqb-true}
use Rattle.std.specs.Prelude.{nat_eq, IsSome, if◌then◌else◌}
use Rattle.std.specs.HashMap.{HashMap, get}
use Rattle.std.specs.Cmp.{nat_eq_equiv}
use Rattle.std.specs.Global.{Global}
use Rattle.std.proofs.lemmas.List.{append-nil, map-append}
use Rattle.std.proofs.lemmas.Option.{same_Some, get_or_from_slice_get, slice_get_within}
use Rattle.clause_check_spec.specs.Clause.{Cnf}
use Rattle.term_core_spec.specs.declared.Atom.TheVariants as atom
use Rattle.term_core_spec.specs.Term as tree
use Rattle.term_core_spec.specs.Term.{Term}
use Rattle.term_bank.specs.declared.node.TermNode.{TermNode}
use Rattle.term_bank.specs.declared.node.TermNode.TheVariants as node
use Rattle.term_bank.specs.Nodes.{IsNode, tree_at, build, Holds}
use Rattle.term_bank.proofs.Growth.{slice_get-front}
use Rattle.bit_blast_spec.specs.Gates.{Made, Build, give, ◌>>=◌}
use Rattle.bit_blast_spec.specs.Circuits.{Bits}
use Rattle.bit_blast_spec.specs.Goal.{Table, is_there, once}
use Rattle.bit_blast.specs.Steps as steps
use Rattle.bit_blast.specs.Steps.{Step, act, run, visits, arguments, finish, AllThere, IsClosed, weights}
use Rattle.bit_blast.proofs.Runs.{run-last, weights-append, steps_weigh}
use Rattle.bit_blast.proofs.Visits.{visit_steps, visit_there}
use Rattle.bit_blast_circuits.specs.Built.{with_gates, IsBuilt}
use Rattle.bit_blast_circuits.proofs.Built.{then_gives}
use Rattle.bit_blast.specs.Terms.{terms_in}
use Rattle.bit_blast.specs.declared.state.Task.{Task}
use Rattle.bit_blast.specs.declared.state.Task.TheVariants.{Visit, Finish}
use Rattle.bit_blast.specs.declared.state.Traversal.{Traversal}
use Rattle.bit_blast.specs.Indices.{children, IsIndexed, AllIndexed, AreIndices}
use Rattle.bit_blast.specs.Tasks.{step_of, steps_of, visits_of}
use Rattle.bit_blast.specs.Turns.{AreTasks, IsDue, AllDue, AreReady, Consistent, Turned}
use Rattle.bit_blast.proofs.Finished.{Finished, finished}
use Rattle.bit_blast.proofs.Moved.{arguments_of, indexed_there, arguments_there}
use Rattle.bit_blast.proofs.Due.{due_turn, ready_turn, ready_end, due_indexed, visits_due, visits_ready, tasks_both, tasks_prefix, tasks_end, AllBelow, visits_sound}

pub gives_same : {A : Type 0} (build other : Build A) (old end : Cnf) (b : A) → build old.variables ≡ other old.variables → IsBuilt other old b end → IsBuilt build old b end
gives_same {A} build other old end b e g = record {
  answer = g.answer ∙ ap (λ (made : Made A). made.out) (sym e);
  grown = g.grown ∙ ap (λ (made : Made A). with_gates old made.gates) (sym e);
}

-- a node of a term of the bank
tree_of : (trees : List Term) (id : ℕ) (node : TermNode) → Holds trees id (build trees node) → tree_at trees id ≡ build trees node
tree_of trees id node h = get_or_from_slice_get trees id (build trees node) (tree.Leaf (atom.Truth false)) h

children_below : (trees : List Term) (n : ℕ) (node : TermNode) → IsNode n node → n < length trees → AllBelow (length trees) (children node)
children_below trees n (node.Leaf leaf) h below = tt
children_below trees n (node.Unary operator a) h below = (omega arith, tt)
children_below trees n (node.Binary operator a b) h below = (omega arith, (omega arith, tt))
children_below trees n (node.Ternary operator a b c) h below = (omega arith, (omega arith, (omega arith, tt)))
children_below trees n (node.Quaternary operator a b c d) h below = (omega arith, (omega arith, (omega arith, (omega arith, tt))))
children_below trees n (node.Octonary a b c d e f g i) h below =
    (omega arith, (omega arith, (omega arith, (omega arith, (omega arith, (omega arith, (omega arith, (omega arith, tt))))))))

module _ (trees : List Term) where
  steps_both : (rest top : List Task) → steps_of trees (rest ++ top) ≡ steps_of trees rest ++ steps_of trees top
  steps_both rest top = map-append (step_of trees) rest top

  steps_visits : (ids : List ℕ) → steps_of trees (visits_of ids) ≡ visits (map (tree_at trees) ids)
  steps_visits [] = refl
  steps_visits (id ∷ ids) = steps_both (visits_of ids) (Visit id ∷ []) ∙ ap (λ s. s ++ steps.Visit (tree_at trees id) ∷ []) (steps_visits ids)

  -- the steps of the visit of a node
  abbrev node_steps : TermNode → List Step
  node_steps node = steps.Finish (build trees node) ∷ visits (arguments (build trees node))

  steps_node : (rest : List Task) (id : ℕ) (node : TermNode) → steps_of trees (rest ++ Finish id node ∷ visits_of (children node)) ≡ steps_of trees rest ++ node_steps node
  steps_node rest id node =
      steps_both rest (Finish id node ∷ visits_of (children node))
      ∙ ap (λ s. steps_of trees rest ++ steps.Finish (build trees node) ∷ s) (steps_visits (children node) ∙ ap visits (sym (arguments_of trees node)))

-- ---- a visit of a term that has its index

module _ (trees : List Term) (old : Traversal) (id : ℕ) (consistent : Consistent trees old.indices old.table (old.tasks.items ++ Visit id ∷ [])) (indexed : IsIndexed old.indices id) where
  nothing_left : (n : ℕ) → run (steps_of trees (old.tasks.items ++ Visit id ∷ [])) old.table n ≡ run (steps_of trees old.tasks.items) old.table n
  nothing_left n =
      ap (λ s. run s old.table n) (steps_both trees old.tasks.items (Visit id ∷ []))
      ∙ run-last (steps_of trees old.tasks.items) (steps.Visit (tree_at trees id)) old.table n
      ∙ ap (λ (build : Build Table). (build >>= run (steps_of trees old.tasks.items)) n)
      (visit_there (tree_at trees id) old.table (indexed_there trees old.indices old.table consistent.indexed id indexed))

  goes_indexed : (x : ℕ) → IsDue old.indices (Visit id ∷ []) x → IsDue old.indices [] x
  goes_indexed x (inl here) = subst (IsIndexed old.indices) (sym here) indexed
  goes_indexed x (inr there) = there

  rest_is : old.tasks.items ++ [] ≡ old.tasks.items
  rest_is = append-nil old.tasks.items

  pub turned_indexed : Turned trees old (old.tasks.items ++ Visit id ∷ []) old
  turned_indexed = record {
    consistent = record {
      closed = consistent.closed;
      indexed = consistent.indexed;
      sound = tasks_prefix trees old.tasks.items (Visit id ∷ []) consistent.sound;
      ready = subst (AreReady old.indices) rest_is (ready_turn old.indices old.indices (Visit id ∷ []) [] goes_indexed old.tasks.items consistent.ready tt);
    };
    continues = record { ends = λ b end g. gives_same (run (steps_of trees (old.tasks.items ++ Visit id ∷ [])) old.table) (run (steps_of trees old.tasks.items) old.table) old.gates end b (nothing_left old.gates.variables) g };
    due = λ x due. subst (λ tasks. IsDue old.indices tasks x) rest_is (due_turn old.indices old.indices (Visit id ∷ []) [] goes_indexed old.tasks.items x due);
    lighter = omega (
      arith,
      ap weights (steps_both trees old.tasks.items (Visit id ∷ [])),
      weights-append (steps_of trees old.tasks.items) (steps.Visit (tree_at trees id) ∷ []),
      steps_weigh (tree_at trees id),
    );
  }

-- ---- a visit of another

module _ (trees : List Term) (old : Traversal) (id : ℕ) (node : TermNode) (consistent : Consistent trees old.indices old.table (old.tasks.items ++ Visit id ∷ []))
    (holds : Holds trees id (build trees node)) (fits : IsNode id node) where
  abbrev next : List Task
  next = Finish id node ∷ visits_of (children node)

  same_steps : (n : ℕ) → run (steps_of trees (old.tasks.items ++ Visit id ∷ [])) old.table n ≡ run (steps_of trees (old.tasks.items ++ Finish id node ∷ visits_of (children node))) old.table n
  same_steps n =
      ap (λ s. run s old.table n) (steps_both trees old.tasks.items (Visit id ∷ []))
      ∙ ap (λ t. run (steps_of trees old.tasks.items ++ steps.Visit t ∷ []) old.table n) (tree_of trees id node holds)
      ∙ visit_steps (steps_of trees old.tasks.items) (build trees node) old.table n consistent.closed
      ∙ ap (λ s. run s old.table n) (sym (steps_node trees old.tasks.items id node))

  goes_next : (x : ℕ) → IsDue old.indices (Visit id ∷ []) x → IsDue old.indices (Finish id node ∷ visits_of (children node)) x
  goes_next x (inl here) = inl here
  goes_next x (inr there) = inr (due_indexed old.indices (visits_of (children node)) x there)

  next_ready : AreReady old.indices (Finish id node ∷ visits_of (children node))
  next_ready = (visits_due old.indices (children node), subst (AreReady old.indices) (append-nil (visits_of (children node))) (visits_ready old.indices (children node) [] tt))

  next_sound : AreTasks trees (Finish id node ∷ visits_of (children node))
  next_sound = (holds, visits_sound trees (children node) (children_below trees id node fits (slice_get_within trees id (build trees node) holds)))

  pub consistent_next : Consistent trees old.indices old.table (old.tasks.items ++ Finish id node ∷ visits_of (children node))
  consistent_next = record {
    closed = consistent.closed;
    indexed = consistent.indexed;
    sound = tasks_both trees old.tasks.items (Finish id node ∷ visits_of (children node)) (tasks_prefix trees old.tasks.items (Visit id ∷ []) consistent.sound) next_sound;
    ready = ready_turn old.indices old.indices (Visit id ∷ []) (Finish id node ∷ visits_of (children node)) goes_next old.tasks.items consistent.ready next_ready;
  }

  next_lighter : weights (steps_of trees (old.tasks.items ++ Finish id node ∷ visits_of (children node))) < weights (steps_of trees (old.tasks.items ++ Visit id ∷ []))
  next_lighter = omega (
    arith,
    ap weights (steps_both trees old.tasks.items (Visit id ∷ [])),
    weights-append (steps_of trees old.tasks.items) (steps.Visit (tree_at trees id) ∷ []),
    ap weights (steps_node trees old.tasks.items id node),
    weights-append (steps_of trees old.tasks.items) (node_steps trees node),
    steps_weigh (build trees node),
    ap steps.size (tree_of trees id node holds),
  )

  pub turned_visit : (tasks : Vec Task Global) → tasks.items ≡ old.tasks.items ++ Finish id node ∷ visits_of (children node)
      → Turned trees old (old.tasks.items ++ Visit id ∷ []) (record { gates = old.gates; table = old.table; indices = old.indices; tasks = tasks })
  turned_visit tasks e = record {
    consistent = subst (Consistent trees old.indices old.table) (sym e) consistent_next;
    continues = record {
      ends = λ b end g.
          gives_same (run (steps_of trees (old.tasks.items ++ Visit id ∷ [])) old.table) (run (steps_of trees tasks.items) old.table) old.gates end b
          (same_steps old.gates.variables ∙ ap (λ list. run (steps_of trees list) old.table old.gates.variables) (sym e)) g;
    };
    due = λ x due. subst (λ list. IsDue old.indices list x) (sym e)
        (due_turn old.indices old.indices (Visit id ∷ []) (Finish id node ∷ visits_of (children node)) goes_next old.tasks.items x due);
    lighter = subst (λ list. weights (steps_of trees list) < weights (steps_of trees (old.tasks.items ++ Visit id ∷ []))) (sym e) next_lighter;
  }

-- ---- the entry of a term

due_all : {S : Type 0} (indices : HashMap ℕ ℕ S) (ids : List ℕ) → AllDue indices [] ids → AllIndexed indices ids
due_all indices [] all = tt
due_all indices (id ∷ ids) all = (all.0, due_all indices ids all.1)

pub wants_indexed : {S : Type 0} (trees : List Term) (indices : HashMap ℕ ℕ S) (table : Table) (rest : List Task) (id : ℕ) (node : TermNode)
    → Consistent trees indices table (rest ++ Finish id node ∷ []) → AllIndexed indices (children node)
wants_indexed trees indices table rest id node consistent = due_all indices (children node) (ready_end indices rest (Finish id node ∷ []) consistent.ready).0

act_finished : (term : Term) (t : Table) (n : ℕ) → IsClosed t → AllThere (arguments term) t → Finished t (once term t (finish term t) n).out
act_finished term t n closed all = by (is_there term t)
  where
    by : (b : Bool) → Finished t ((if b then give t else finish term t) n).out
    by true = record { closed = closed; more = []; grown = sym (append-nil t) }
    by false = finished term t n closed all

module _ {S : Type 0} (before after : HashMap ℕ ℕ S) (id index : ℕ) (updates : (q : ℕ) → get nat_eq after q ≡ cond (nat_eq id q) (Some index) (get nat_eq before q)) where
  still_indexed : (x : ℕ) → IsIndexed before x → IsIndexed after x
  still_indexed x indexed = subst IsSome (sym (updates x)) (by (nat_eq id x))
    where
      by : (b : Bool) → IsSome (cond b (Some index) (get nat_eq before x))
      by true = refl
      by false = indexed

  now_indexed : IsIndexed after id
  now_indexed = subst IsSome (sym (updates id)) (by (nat_eq id id) (itself id))
    where
      itself : (n : ℕ) → nat_eq n n ≡ true
      itself n = nat_eq_equiv.refl n

      by : (b : Bool) → b ≡ true → IsSome (cond b (Some index) (get nat_eq before id))
      by true e = refl
      by false e = absurd (cc)

  indices_after : (trees : List Term) (t u : Table) (more : Table) → u ≡ t ++ more → AreIndices trees before t → Holds (terms_in u) index (tree_at trees id) → AreIndices trees after u
  indices_after trees t u more grown indexed here x p e = by (nat_eq id x) refl (sym (updates x) ∙ e)
    where
      by : (b : Bool) → nat_eq id x ≡ b → cond b (Some index) (get nat_eq before x) ≡ Some p → Holds (terms_in u) p (tree_at trees x)
      by true same found =
          let eq_index : index ≡ p = same_Some index p found in
          let eq_id : id ≡ x = eqb-true id x same in
          subst (λ q. Holds (terms_in u) q (tree_at trees x)) eq_index (subst (λ q. Holds (terms_in u) index (tree_at trees q)) eq_id here)
      by false same found =
          subst (λ list. Holds list p (tree_at trees x)) (sym (ap terms_in grown ∙ map-append (λ (entry : Term × Bits). entry.0) t more))
          (slice_get-front (terms_in t) (terms_in more) p (tree_at trees x) (indexed x p found))

module _ (trees : List Term) (old : Traversal) (id : ℕ) (node : TermNode) (consistent : Consistent trees old.indices old.table (old.tasks.items ++ Finish id node ∷ [])) where
  finish_steps : (n : ℕ) → run (steps_of trees (old.tasks.items ++ Finish id node ∷ [])) old.table n
      ≡ (act (steps.Finish (build trees node)) old.table >>= run (steps_of trees old.tasks.items)) n
  finish_steps n =
      ap (λ s. run s old.table n) (steps_both trees old.tasks.items (Finish id node ∷ []))
      ∙ run-last (steps_of trees old.tasks.items) (steps.Finish (build trees node)) old.table n

  finish_holds : Holds trees id (build trees node)
  finish_holds = (tasks_end trees old.tasks.items (Finish id node ∷ []) consistent.sound).0

  module _ (new : Traversal) (index : ℕ) (kept : new.tasks.items ≡ old.tasks.items)
      (updates : (q : ℕ) → get nat_eq new.indices q ≡ cond (nat_eq id q) (Some index) (get nat_eq old.indices q))
      (gives : IsBuilt (once (build trees node) old.table (finish (build trees node) old.table)) old.gates new.table new.gates)
      (here : Holds (terms_in new.table) index (build trees node)) where
    ends_finished : Finished old.table new.table
    ends_finished = subst (Finished old.table) (sym gives.answer)
        (act_finished (build trees node) old.table old.gates.variables consistent.closed
        (arguments_there trees old.indices old.table consistent.indexed node (wants_indexed trees old.indices old.table old.tasks.items id node consistent)))

    goes_finished : (x : ℕ) → IsDue old.indices (Finish id node ∷ []) x → IsDue new.indices [] x
    goes_finished x (inl same) = subst (IsIndexed new.indices) (sym same) (now_indexed old.indices new.indices id index updates)
    goes_finished x (inr there) = still_indexed old.indices new.indices id index updates x there

    rest_stays : old.tasks.items ++ [] ≡ new.tasks.items
    rest_stays = append-nil old.tasks.items ∙ sym kept

    pub turned_finish : Turned trees old (old.tasks.items ++ Finish id node ∷ []) new
    turned_finish = record {
      consistent = record {
        closed = ends_finished.closed;
        indexed = indices_after old.indices new.indices id index updates trees old.table new.table ends_finished.more ends_finished.grown consistent.indexed
            (subst (Holds (terms_in new.table) index) (sym (tree_of trees id node finish_holds)) here);
        sound = subst (AreTasks trees) (sym kept) (tasks_prefix trees old.tasks.items (Finish id node ∷ []) consistent.sound);
        ready = subst (AreReady new.indices) rest_stays (ready_turn old.indices new.indices (Finish id node ∷ []) [] goes_finished old.tasks.items consistent.ready tt);
      };
      continues = record {
        ends = λ b end g.
            gives_same (run (steps_of trees (old.tasks.items ++ Finish id node ∷ [])) old.table) (act (steps.Finish (build trees node)) old.table >>= run (steps_of trees old.tasks.items)) old.gates end b
            (finish_steps old.gates.variables)
            (then_gives (run (steps_of trees old.tasks.items)) gives (subst (λ list. IsBuilt (run (steps_of trees list) new.table) new.gates b end) kept g));
      };
      due = λ x due. subst (λ list. IsDue new.indices list x) rest_stays (due_turn old.indices new.indices (Finish id node ∷ []) [] goes_finished old.tasks.items x due);
      lighter = omega (
        arith,
        ap (λ list. weights (steps_of trees list)) kept,
        ap weights (steps_both trees old.tasks.items (Finish id node ∷ [])),
        weights-append (steps_of trees old.tasks.items) (steps.Finish (build trees node) ∷ []),
      );
    }
