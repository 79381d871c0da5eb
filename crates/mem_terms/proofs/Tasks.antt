-- Tasks, of which the last is next.
use Rattle.std.proofs.Common.{◌≡◌, ℕ, zero, suc, ◌+◌, ◌*◌, ◌^◌, ◌<◌, ◌≤◌, List, [], ◌∷◌, ◌++◌, Option, Some, None, ◌⊎◌, inl, inr, refl, ap, sym, ◌∙◌, subst, arith}
use Rattle.std.proofs.Math.Nat.{one-le-pow, pow-le-pow_right}
use Rattle.std.proofs.lemmas.Grind.{pow_more}
use Rattle.term_core_spec.specs.Term.{Term}
use Rattle.term_bank.specs.declared.node.TermNode.{TermNode}
use Rattle.term_bank.specs.declared.node.TermNode.TheVariants.{Leaf, Unary, Binary, Ternary, Quaternary, Octonary}
use Rattle.term_bank.specs.Nodes.{IsNode, build}
use Rattle.mem_terms_spec.specs.Flat.{VariableLoad, with_loads}
use Rattle.mem_terms.specs.declared.walk.Task.{Task}
use Rattle.mem_terms.specs.declared.walk.Task.TheVariants.{Visit, Finish}
use Rattle.mem_terms.specs.Walk.{EachArgument, visits, id_of, after_task, after_tasks, weight, total_weight, IsDone, HasTask, Comes, IsPrepared, ArePrepared, IsTask, AreTasks}

-- ---- arguments

pub each_map : (P Q : ℕ → Type 0) → ((a : ℕ) → P a → Q a) → (node : TermNode) → EachArgument P node → EachArgument Q node
each_map P Q f (Leaf leaf) h = tt
each_map P Q f (Unary operator a) h = f a h
each_map P Q f (Binary operator a b) h = (f a h.0, f b h.1)
each_map P Q f (Ternary operator a b c) h = (f a h.0, f b h.1, f c h.2)
each_map P Q f (Quaternary operator a b c d) h = (f a h.0, f b h.1, f c h.2, f d h.3)
each_map P Q f (Octonary a b c d e g i j) h = (f a h.0, f b h.1, f c h.2, f d h.3, f e h.4, f g h.5, f i h.6, f j h.7)

pub each_node : (n : ℕ) (node : TermNode) → IsNode n node → EachArgument (λ a. a < n) node
each_node n (Leaf leaf) h = tt
each_node n (Unary operator a) h = h
each_node n (Binary operator a b) h = h
each_node n (Ternary operator a b c) h = h
each_node n (Quaternary operator a b c d) h = h
each_node n (Octonary a b c d e f g i) h = h

pub node_each : (n : ℕ) (node : TermNode) → EachArgument (λ a. a < n) node → IsNode n node
node_each n (Leaf leaf) h = tt
node_each n (Unary operator a) h = h
node_each n (Binary operator a b) h = h
node_each n (Ternary operator a b c) h = h
node_each n (Quaternary operator a b c d) h = h
node_each n (Octonary a b c d e f g i) h = h

pub node_longer : (m n : ℕ) (node : TermNode) → m ≤ n → IsNode m node → IsNode n node
node_longer m n node le h = node_each n node (each_map (λ a. a < m) (λ a. a < n) (λ a k. omega arith) node (each_node m node h))

-- ---- the loads after tasks

pub after_tasks-append : (trees : List Term) (xs ys : List Task) (loads : List VariableLoad) → after_tasks trees (xs ++ ys) loads ≡ after_tasks trees xs (after_tasks trees ys loads)
unfolding after_tasks
after_tasks-append trees [] ys loads = refl
after_tasks-append trees (x ∷ xs) ys loads = ap (λ l. after_task trees x l) (after_tasks-append trees xs ys loads)

pub after_last : (trees : List Term) (xs : List Task) (task : Task) (loads : List VariableLoad) → after_tasks trees (xs ++ task ∷ []) loads ≡ after_tasks trees xs (after_task trees task loads)
unfolding after_tasks
after_last trees xs task loads = after_tasks-append trees xs (task ∷ []) loads

-- a term is visited by its arguments and then itself
after_node : (trees : List Term) (i : ℕ) (node : TermNode) (loads : List VariableLoad) → after_tasks trees (Finish i node ∷ visits node) loads ≡ with_loads (build trees node) loads
unfolding after_tasks with_loads
after_node trees i (Leaf leaf) loads = refl
after_node trees i (Unary operator a) loads = refl
after_node trees i (Binary operator a b) loads = refl
after_node trees i (Ternary operator a b c) loads = refl
after_node trees i (Quaternary operator a b c d) loads = refl
after_node trees i (Octonary a b c d e f g h) loads = refl

pub after_open : (trees : List Term) (xs : List Task) (i : ℕ) (node : TermNode) (loads : List VariableLoad)
    → after_tasks trees (xs ++ Finish i node ∷ visits node) loads ≡ after_tasks trees xs (with_loads (build trees node) loads)
after_open trees xs i node loads = after_tasks-append trees xs (Finish i node ∷ visits node) loads ∙ ap (after_tasks trees xs) (after_node trees i node loads)

-- ---- weights

pub total_weight-append : (xs ys : List Task) → total_weight (xs ++ ys) ≡ total_weight xs + total_weight ys
unfolding total_weight
total_weight-append [] ys = omega arith
total_weight-append (x ∷ xs) ys = omega (arith, total_weight-append xs ys)

visit_le : (a i : ℕ) → a < i → weight (Visit a) ≤ 10 ^ i
unfolding weight
visit_le a i h = let k : a + 1 ≤ i = omega arith in let ten : 0 < 10 = omega arith in pow-le-pow_right {n = 10} ten {i = a + 1} {j = i} k

ten_times : (i : ℕ) → weight (Visit i) ≡ 10 * 10 ^ i
unfolding weight
ten_times i = omega (arith, pow_more 10 i)

finish_one : (i : ℕ) (node : TermNode) → weight (Finish i node) ≡ 1
unfolding weight
finish_one i node = refl

one_le : (i : ℕ) → 1 ≤ 10 ^ i
one_le i = one-le-pow i 10 (omega arith)

visits_light : (i : ℕ) (node : TermNode) → IsNode i node → total_weight (visits node) ≤ 8 * 10 ^ i
unfolding total_weight
visits_light i (Leaf leaf) h = omega arith
visits_light i (Unary operator a) h = omega (arith, visit_le a i h)
visits_light i (Binary operator a b) h = omega (arith, visit_le a i h.0, visit_le b i h.1)
visits_light i (Ternary operator a b c) h = omega (arith, visit_le a i h.0, visit_le b i h.1, visit_le c i h.2)
visits_light i (Quaternary operator a b c d) h = omega (arith, visit_le a i h.0, visit_le b i h.1, visit_le c i h.2, visit_le d i h.3)
visits_light i (Octonary a b c d e f g j) h =
    omega (arith, visit_le a i h.0, visit_le b i h.1, visit_le c i h.2, visit_le d i h.3, visit_le e i h.4, visit_le f i h.5, visit_le g i h.6, visit_le j i h.7)

single : (task : Task) → total_weight (task ∷ []) ≡ weight task
unfolding total_weight
single task = omega arith

opened_weight : (i : ℕ) (node : TermNode) → total_weight (Finish i node ∷ visits node) ≡ weight (Finish i node) + total_weight (visits node)
unfolding total_weight
opened_weight i node = refl

pub lighter_open : (xs : List Task) (i : ℕ) (node : TermNode) → IsNode i node → total_weight (xs ++ Finish i node ∷ visits node) < total_weight (xs ++ Visit i ∷ [])
lighter_open xs i node h =
    omega (arith, total_weight-append xs (Finish i node ∷ visits node), total_weight-append xs (Visit i ∷ []), single (Visit i), opened_weight i node, finish_one i node, visits_light i node h, ten_times i, one_le i)

pub weight_some : (task : Task) → 1 ≤ weight task
weight_some (Visit i) = omega (arith, ten_times i, one_le i)
weight_some (Finish i node) = omega (arith, finish_one i node)

pub lighter_done : (xs : List Task) (task : Task) → total_weight xs < total_weight (xs ++ task ∷ [])
lighter_done xs task = omega (arith, total_weight-append xs (task ∷ []), single task, weight_some task)

-- ---- tasks of a list

pub tasks_parts : (base : List Term) (n : ℕ) (xs ys : List Task) → AreTasks base n (xs ++ ys) → AreTasks base n xs × AreTasks base n ys
unfolding AreTasks
tasks_parts base n [] ys h = (tt, h)
tasks_parts base n (x ∷ xs) ys h = let rest = tasks_parts base n xs ys h.1 in ((h.0, rest.0), rest.1)

tasks_append : (base : List Term) (n : ℕ) (xs ys : List Task) → AreTasks base n xs → AreTasks base n ys → AreTasks base n (xs ++ ys)
unfolding AreTasks
tasks_append base n [] ys h k = k
tasks_append base n (x ∷ xs) ys h k = (h.0, tasks_append base n xs ys h.1 k)

pub last_task : (base : List Term) (n : ℕ) (xs : List Task) (task : Task) → AreTasks base n (xs ++ task ∷ []) → IsTask base n task
unfolding AreTasks
last_task base n xs task h = (tasks_parts base n xs (task ∷ []) h).1.0

visits_tasks : (base : List Term) (n i : ℕ) (node : TermNode) → i ≤ n → IsNode i node → AreTasks base n (visits node)
unfolding AreTasks
visits_tasks base n i node le h = by_each node (each_map (λ a. a < i) (λ a. a < n) (λ a k. omega arith) node (each_node i node h))
  where
    by_each : (node : TermNode) → EachArgument (λ a. a < n) node → AreTasks base n (visits node)
    by_each (Leaf leaf) k = tt
    by_each (Unary operator a) k = (k, tt)
    by_each (Binary operator a b) k = (k.1, (k.0, tt))
    by_each (Ternary operator a b c) k = (k.2, (k.1, (k.0, tt)))
    by_each (Quaternary operator a b c d) k = (k.3, (k.2, (k.1, (k.0, tt))))
    by_each (Octonary a b c d e f g j) k = (k.7, (k.6, (k.5, (k.4, (k.3, (k.2, (k.1, (k.0, tt))))))))

pub open_tasks : (base : List Term) (n : ℕ) (xs : List Task) (i : ℕ) (node : TermNode) → AreTasks base n (xs ++ Visit i ∷ []) → IsTask base n (Finish i node)
    → AreTasks base n (xs ++ Finish i node ∷ visits node)
unfolding AreTasks
open_tasks base n xs i node h task =
    tasks_append base n xs (Finish i node ∷ visits node) (tasks_parts base n xs (Visit i ∷ []) h).0 (task, visits_tasks base n i node (omega (arith, task.0)) task.1)

-- ---- what is prepared

has_front : (i : ℕ) (xs ys : List Task) → HasTask i xs → HasTask i (xs ++ ys)
unfolding HasTask
has_front i [] ys h = absurd h
has_front i (x ∷ xs) ys (inl e) = inl e
has_front i (x ∷ xs) ys (inr h) = inr (has_front i xs ys h)

has_middle : (xs ys : List Task) (task : Task) → HasTask (id_of task) (xs ++ task ∷ ys)
unfolding HasTask
has_middle [] ys task = inl refl
has_middle (x ∷ xs) ys task = inr (has_middle xs ys task)

has_split : (i : ℕ) (xs : List Task) (task : Task) → HasTask i (xs ++ task ∷ []) → HasTask i xs ⊎ (id_of task ≡ i)
unfolding HasTask
has_split i [] task (inl e) = inr e
has_split i [] task (inr h) = absurd h
has_split i (x ∷ xs) task (inl e) = inl (inl e)
has_split i (x ∷ xs) task (inr h) = later (has_split i xs task h)
  where
    later : HasTask i xs ⊎ (id_of task ≡ i) → ((id_of x ≡ i) ⊎ HasTask i xs) ⊎ (id_of task ≡ i)
    later (inl k) = inl (inr k)
    later (inr e) = inr e

module _ (before after : List (Option ℕ)) (more : (a : ℕ) → IsDone before a → IsDone after a) where
  -- the last task's term is done
  pub comes_done : (xs : List Task) (task : Task) (a : ℕ) → IsDone after (id_of task) → Comes before (xs ++ task ∷ []) a → Comes after xs a
  comes_done xs task a here (inl d) = inl (more a d)
  comes_done xs task a here (inr h) = split (has_split a xs task h)
    where
      split : HasTask a xs ⊎ (id_of task ≡ a) → Comes after xs a
      split (inl k) = inr k
      split (inr e) = inl (subst (IsDone after) e here)

  pub prepared_done : (xs : List Task) (task : Task) → IsDone after (id_of task) → ArePrepared before (xs ++ task ∷ []) → ArePrepared after xs
  unfolding ArePrepared
  prepared_done [] task here h = tt
  prepared_done (Visit i ∷ xs) task here h = (tt, prepared_done xs task here h.1)
  prepared_done (Finish i node ∷ xs) task here h =
      (each_map (Comes before (xs ++ task ∷ [])) (Comes after xs) (λ a. comes_done xs task a here) node h.0, prepared_done xs task here h.1)

pub prepared_last : (done : List (Option ℕ)) (xs : List Task) (task : Task) → ArePrepared done (xs ++ task ∷ []) → IsPrepared done task []
unfolding ArePrepared
prepared_last done [] task h = h.0
prepared_last done (x ∷ xs) task h = prepared_last done xs task h.1

visits_have : (node : TermNode) → EachArgument (λ a. HasTask a (visits node)) node
unfolding HasTask
visits_have (Leaf leaf) = tt
visits_have (Unary operator a) = inl refl
visits_have (Binary operator a b) = (inr (inl refl), inl refl)
visits_have (Ternary operator a b c) = (inr (inr (inl refl)), inr (inl refl), inl refl)
visits_have (Quaternary operator a b c d) = (inr (inr (inr (inl refl))), inr (inr (inl refl)), inr (inl refl), inl refl)
visits_have (Octonary a b c d e f g h) = (
  inr (inr (inr (inr (inr (inr (inr (inl refl))))))),
  inr (inr (inr (inr (inr (inr (inl refl)))))),
  inr (inr (inr (inr (inr (inl refl))))),
  inr (inr (inr (inr (inl refl)))),
  inr (inr (inr (inl refl))),
  inr (inr (inl refl)),
  inr (inl refl),
  inl refl,
)

visits_prepared : (done : List (Option ℕ)) (node : TermNode) → ArePrepared done (visits node)
unfolding ArePrepared
visits_prepared done (Leaf leaf) = tt
visits_prepared done (Unary operator a) = (tt, tt)
visits_prepared done (Binary operator a b) = (tt, (tt, tt))
visits_prepared done (Ternary operator a b c) = (tt, (tt, (tt, tt)))
visits_prepared done (Quaternary operator a b c d) = (tt, (tt, (tt, (tt, tt))))
visits_prepared done (Octonary a b c d e f g h) = (tt, (tt, (tt, (tt, (tt, (tt, (tt, (tt, tt))))))))

pub comes_open : (done : List (Option ℕ)) (xs : List Task) (i : ℕ) (node : TermNode) (a : ℕ) → Comes done (xs ++ Visit i ∷ []) a → Comes done (xs ++ Finish i node ∷ visits node) a
comes_open done xs i node a (inl d) = inl d
comes_open done xs i node a (inr h) = split (has_split a xs (Visit i) h)
  where
    split : HasTask a xs ⊎ (i ≡ a) → Comes done (xs ++ Finish i node ∷ visits node) a
    split (inl k) = inr (has_front a xs (Finish i node ∷ visits node) k)
    split (inr e) = inr (subst (λ j. HasTask j (xs ++ Finish i node ∷ visits node)) e (has_middle xs (visits node) (Finish i node)))

pub prepared_open : (done : List (Option ℕ)) (xs : List Task) (i : ℕ) (node : TermNode) → ArePrepared done (xs ++ Visit i ∷ []) → ArePrepared done (xs ++ Finish i node ∷ visits node)
unfolding ArePrepared
prepared_open done [] i node h =
    (each_map (λ a. HasTask a (visits node)) (Comes done (visits node)) (λ a k. inr k) node (visits_have node), visits_prepared done node)
prepared_open done (Visit j ∷ xs) i node h = (tt, prepared_open done xs i node h.1)
prepared_open done (Finish j other ∷ xs) i node h =
    (each_map (Comes done (xs ++ Visit i ∷ [])) (Comes done (xs ++ Finish i node ∷ visits node)) (λ a. comes_open done xs i node a) other h.0, prepared_open done xs i node h.1)
