-- Each turn of the walk keeps what the walk keeps.
use Rattle.std.proofs.Common.{◌≡◌, ℕ, zero, suc, ◌+◌, ◌<◌, ◌≤◌, Bool, true, false, cond, List, [], ◌∷◌, ◌++◌, map, length, get_or, replicate, Option, Some, None, is_some, ◌⊎◌, inl, inr, refl, ap, sym, ◌∙◌, subst, arith, append-nil}
use Rattle.std.proofs.Math.ListN.{set}
use Rattle.std.proofs.lemmas.List.{length-set, length-replicate}
use Rattle.std.specs.Prelude.{slice_get}
use Rattle.std.proofs.lemmas.Option.{slice_get_within, same_Some, slice_get-get_or}
use Rattle.term_core_spec.specs.declared.Variable.{Variable}
use Rattle.term_core_spec.specs.Term.{Term, open_term}
use Rattle.term_bank.specs.declared.node.TermNode.{TermNode}
use Rattle.term_bank.specs.Nodes.{IsNode, tree_at, build, Holds, Extends, AreDistinct}
use Rattle.mem_terms_spec.specs.Flat.{VariableLoad, FlatLoad, is_in, with_load, with_loads, loads_of, index_of, same_load, byte_variable, byte_or, without_loads, flattened, flat_loads}
use Rattle.mem_terms_spec.specs.Assignments.{term_of}
use Rattle.mem_terms_spec.proofs.Lists.{is_in-front, is_in-last, load-same, load_itself}
use Rattle.mem_terms_spec.proofs.Loads.{IfIn, AreIn, are_in-front, with_loads-there, without_loads-front}
use Rattle.mem_terms.specs.declared.ids.LoadIds.{LoadIds}
use Rattle.mem_terms.specs.declared.walk.Task.{Task}
use Rattle.mem_terms.specs.declared.walk.Task.TheVariants.{Visit, Finish}
use Rattle.mem_terms.specs.declared.walk.LoadNode.{LoadNode}
use Rattle.mem_terms.specs.Ids.{IsTreeAt, load_at, AreWithin}
use Rattle.mem_terms.specs.Walk.{load_in, flat_id, replaced, EachArgument, visits, id_of, with_root, after_task, after_tasks, IsDone, HasTask, Comes, ArePrepared, IsTask, AreTasks, IsFlatAt, IsLoadAt, AreListed, IsWalk}
use Rattle.mem_terms.proofs.Trees.{extends_itself, extends_then, longer, within_longer, kept_tree, kept_build, holds_tree, tree_holds}
use Rattle.mem_terms.proofs.Tasks.{each_map, each_node, node_longer, after_last, after_open, last_task, tasks_parts, open_tasks, comes_done, prepared_done, prepared_last, comes_open, prepared_open}
use Rattle.mem_terms.proofs.Nodes.{load_by, load_in-kept, address_argument, root_there, IsFlatArgument, replaced_node, replaced_build, node_inside, load_build, root_none, done_id, set_here, set_split, set_done}

-- ---- what the last task knows

-- the task's tree is below the limit
pub task_below : (base : List Term) (n : ℕ) (task : Task) → IsTask base n task → id_of task < n
task_below base n (Visit i) h = h
task_below base n (Finish i node) h = h.0

module _ (base now : List Term) (goal : ℕ) (done : List (Option ℕ)) (ids : List LoadIds) (tasks : List Task) where
  pub last_below : (task : Task) → IsWalk base now goal done ids (tasks ++ task ∷ []) → id_of task < length done
  last_below task w = task_below base (length done) task (last_task base (length done) tasks task w.are_tasks)

  pub last_within : (task : Task) → IsWalk base now goal done ids (tasks ++ task ∷ []) → id_of task < length now
  last_within task w = omega (arith, last_below task w, w.limit, longer base now w.extends)

  -- ---- a task whose term is done

  task_nothing : (task : Task) (loads : List VariableLoad) → IsTask base (length done) task → AreIn (tree_at base (id_of task)) loads → after_task base task loads ≡ loads
  task_nothing (Visit i) loads h inside = with_loads-there (tree_at base i) loads inside
  task_nothing (Finish i node) loads h inside =
      let here = (holds_tree base i (build base node) h.2).tree in
      root_there (build base node) loads (subst (λ t. AreIn t loads) here inside)

  pub skip : (task : Task) → IsWalk base now goal done ids (tasks ++ task ∷ []) → IsDone done (id_of task) → IsWalk base now goal done ids tasks
  skip task w here =
      let nothing = task_nothing task w.loads (last_task base (length done) tasks task w.are_tasks) (w.each (id_of task) here.0 here.1).inside in
      record {
        loads = w.loads;
        extends = w.extends;
        distinct = w.distinct;
        limit = w.limit;
        are_tasks = (tasks_parts base (length done) tasks (task ∷ []) w.are_tasks).0;
        prepared = prepared_done done done (λ a d. d) tasks task here w.prepared;
        comes = comes_done done done (λ a d. d) tasks task goal here w.comes;
        left = sym (after_last base tasks task w.loads ∙ ap (after_tasks base tasks) nothing) ∙ w.left;
        each = w.each;
        from = w.from;
        listed = w.listed;
      }

  -- ---- a term that is opened

  base_node : (i : ℕ) (node : TermNode) → i < length base → Extends base now → IsNode i node → Holds now i (build now node) → Holds base i (build base node)
  base_node i node below e h held =
      let kept = kept_build base now node e (node_longer i (length base) node (omega arith) h) in
      tree_holds base i (build base node) (record { within = below; tree = sym (kept_tree base now i e below) ∙ (holds_tree now i (build now node) held).tree ∙ kept })

  pub open_term_node : (i : ℕ) (node : TermNode) → IsWalk base now goal done ids (tasks ++ Visit i ∷ []) → IsNode i node → Holds now i (build now node)
      → IsWalk base now goal done ids (tasks ++ Finish i node ∷ visits node)
  open_term_node i node w h held =
      let below : i < length done = last_below (Visit i) w in
      let holds = base_node i node (omega (arith, w.limit)) w.extends h held in
      let same : tree_at base i ≡ build base node = (holds_tree base i (build base node) holds).tree in
      record {
        loads = w.loads;
        extends = w.extends;
        distinct = w.distinct;
        limit = w.limit;
        are_tasks = open_tasks base (length done) tasks i node w.are_tasks (below, h, holds);
        prepared = prepared_open done tasks i node w.prepared;
        comes = comes_open done tasks i node goal w.comes;
        left = after_open base tasks i node w.loads ∙ ap (λ t. after_tasks base tasks (with_loads t w.loads)) (sym same) ∙ sym (after_last base tasks (Visit i) w.loads) ∙ w.left;
        each = w.each;
        from = w.from;
        listed = w.listed;
      }

-- ---- the loads by their indices

listed_now : (a b : List Term) (all : List VariableLoad) (k : ℕ) (loads : List VariableLoad) (ids : List LoadIds) → Extends a b → AreListed a all k loads ids → AreListed b all k loads ids
unfolding AreListed
listed_now a b all k [] [] e h = tt
listed_now a b all k (l ∷ loads) (p ∷ ids) e h = (
  record {
    memory_is = h.0.memory_is;
    address_within = within_longer a b p.address e h.0.address_within;
    byte_within = within_longer a b p.byte e h.0.byte_within;
    address_is = kept_tree a b p.address e h.0.address_within ∙ h.0.address_is;
    byte_is = kept_tree a b p.byte e h.0.byte_within ∙ h.0.byte_is;
    inside = h.0.inside;
  },
  listed_now a b all (k + 1) loads ids e h.1,
)
listed_now a b all k [] (p ∷ ids) e h = absurd h
listed_now a b all k (l ∷ loads) [] e h = absurd h

listed_more : (now : List Term) (all more : List VariableLoad) (k : ℕ) (loads : List VariableLoad) (ids : List LoadIds) → AreListed now all k loads ids → AreListed now (all ++ more) k loads ids
unfolding AreListed
listed_more now all more k [] [] h = tt
listed_more now all more k (l ∷ loads) (p ∷ ids) h = (
  record {
    memory_is = h.0.memory_is;
    address_within = h.0.address_within;
    byte_within = h.0.byte_within;
    address_is = h.0.address_is ∙ sym (without_loads-front l.address all more h.0.inside);
    byte_is = h.0.byte_is;
    inside = are_in-front l.address all more h.0.inside;
  },
  listed_more now all more (k + 1) loads ids h.1,
)
listed_more now all more k [] (p ∷ ids) h = absurd h
listed_more now all more k (l ∷ loads) [] h = absurd h

listed_last : (now : List Term) (all : List VariableLoad) (k j : ℕ) (loads : List VariableLoad) (ids : List LoadIds) (l : VariableLoad) (p : LoadIds) → AreListed now all k loads ids
    → j ≡ k + length loads → IsLoadAt now all j l p → AreListed now all k (loads ++ l ∷ []) (ids ++ p ∷ [])
unfolding AreListed
listed_last now all k j [] [] l p h at last = let e : j ≡ k = omega arith in (subst (λ i. IsLoadAt now all i l p) e last, tt)
listed_last now all k j (x ∷ loads) (q ∷ ids) l p h at last =
    let e : j ≡ k + 1 + length loads = omega arith in (h.0, listed_last now all (k + 1) j loads ids l p h.1 e last)
listed_last now all k j [] (q ∷ ids) l p h at last = absurd h
listed_last now all k j (x ∷ loads) [] l p h at last = absurd h

listed_length : (now : List Term) (all : List VariableLoad) (k : ℕ) (loads : List VariableLoad) (ids : List LoadIds) → AreListed now all k loads ids → length loads ≡ length ids
unfolding AreListed
listed_length now all k [] [] h = refl
listed_length now all k (l ∷ loads) (p ∷ ids) h = ap suc (listed_length now all (k + 1) loads ids h.1)
listed_length now all k [] (p ∷ ids) h = absurd h
listed_length now all k (l ∷ loads) [] h = absurd h

made : (v w : Variable) (a b c d : Term) → v ≡ w → a ≡ b → c ≡ d
    → (let f : FlatLoad = record { memory = v; address = a; byte = c } in f) ≡ record { memory = w; address = b; byte = d }
made v w a b c d p q r = cc

listed_flat : (now : List Term) (all : List VariableLoad) (k : ℕ) (loads : List VariableLoad) (ids : List LoadIds) → AreListed now all k loads ids → map (load_at now) ids ≡ flattened all k loads
unfolding AreListed
listed_flat now all k [] [] h = refl
listed_flat now all k (l ∷ loads) (p ∷ ids) h =
    let first = made p.memory l.memory (tree_at now p.address) (without_loads all l.address) (tree_at now p.byte) (open_term (byte_variable k)) h.0.memory_is h.0.address_is h.0.byte_is in
    let rest = listed_flat now all (k + 1) loads ids h.1 in
    cc
listed_flat now all k [] (p ∷ ids) h = absurd h
listed_flat now all k (l ∷ loads) [] h = absurd h

listed_within : (now : List Term) (all : List VariableLoad) (k : ℕ) (loads : List VariableLoad) (ids : List LoadIds) → AreListed now all k loads ids → AreWithin (length now) ids
unfolding AreListed
listed_within now all k [] [] h = tt
listed_within now all k (l ∷ loads) (p ∷ ids) h = ((h.0.address_within, h.0.byte_within), listed_within now all (k + 1) loads ids h.1)
listed_within now all k [] (p ∷ ids) h = absurd h
listed_within now all k (l ∷ loads) [] h = absurd h

-- ---- a term that is finished

-- what is known of the loads after it
pub record IsFinished (base now : List Term) (before more : List VariableLoad) (i f : ℕ) (node : TermNode) (ids : List LoadIds) : Type 0 where
  pub flat : IsFlatAt base now (before ++ more) i f
  pub root : after_task base (Finish i node) before ≡ before ++ more
  pub new_from : (l : VariableLoad) → is_in l (before ++ more) ≡ true → (is_in l before ≡ true) ⊎ (tree_at base i ≡ term_of l)
  pub listed : AreListed now (before ++ more) 0 (before ++ more) ids

flat_later : (base a b : List Term) (loads more : List VariableLoad) (i f : ℕ) → Extends a b → IsFlatAt base a loads i f → IsFlatAt base b (loads ++ more) i f
flat_later base a b loads more i f e h = record {
  within = within_longer a b f e h.within;
  flat_is = kept_tree a b f e h.within ∙ h.flat_is ∙ sym (without_loads-front (tree_at base i) loads more h.inside);
  inside = are_in-front (tree_at base i) loads more h.inside;
}

pub finish : (base now next : List Term) (goal : ℕ) (done : List (Option ℕ)) (ids others : List LoadIds) (tasks : List Task) (i f : ℕ) (node : TermNode)
    → (w : IsWalk base now goal done ids (tasks ++ Finish i node ∷ [])) → Extends now next → (more : List VariableLoad) → IsFinished base next w.loads more i f node others
    → IsWalk base next goal (set done i (Some f)) others tasks
finish base now next goal done ids others tasks i f node w e more h =
    let same : length (set done i (Some f)) ≡ length done = length-set done i (Some f) in
    let below : i < length done = last_below base now goal done ids tasks (Finish i node) w in
    let keeps : (a : ℕ) → IsDone done a → IsDone (set done i (Some f)) a = set_done done i f in
    let here : IsDone (set done i (Some f)) i = (f, set_here done i (Some f) below) in
    record {
      loads = w.loads ++ more;
      extends = extends_then base now next w.extends e;
      distinct = w.distinct;
      limit = omega (arith, w.limit);
      are_tasks = subst (λ n. AreTasks base n tasks) (sym same) (tasks_parts base (length done) tasks (Finish i node ∷ []) w.are_tasks).0;
      prepared = prepared_done done (set done i (Some f)) keeps tasks (Finish i node) here w.prepared;
      comes = comes_done done (set done i (Some f)) keeps tasks (Finish i node) goal here w.comes;
      left = sym (after_last base tasks (Finish i node) w.loads ∙ ap (after_tasks base tasks) h.root) ∙ w.left;
      each = λ j g d. split j g (set_split done i j (Some f) (Some g) d);
      from = λ l there. source l (h.new_from l there);
      listed = h.listed;
    }
  where
    split : (j g : ℕ) → ((i ≡ j) × (Some f ≡ Some g)) ⊎ (slice_get done j ≡ Some (Some g)) → IsFlatAt base next (w.loads ++ more) j g
    split j g (inl p) = subst (λ k. IsFlatAt base next (w.loads ++ more) k g) p.0 (subst (λ k. IsFlatAt base next (w.loads ++ more) i k) (same_Some f g p.1) h.flat)
    split j g (inr d) = flat_later base now next w.loads more j g e (w.each j g d)

    source : (l : VariableLoad) → (is_in l w.loads ≡ true) ⊎ (tree_at base i ≡ term_of l) → (j : ℕ) × IsDone (set done i (Some f)) j × (tree_at base j ≡ term_of l)
    source l (inl k) = let old = w.from l k in (old.0, set_done done i f old.0 old.1, old.2)
    source l (inr t) = (i, (f, set_here done i (Some f) (last_below base now goal done ids tasks (Finish i node) w)), t)

-- ---- one load more

flat_id_new : (l : VariableLoad) (xs : List VariableLoad) → is_in l xs ≡ false → index_of l (xs ++ l ∷ []) ≡ length xs
flat_id_new l [] h = ap (λ t. cond t 0 1) (load_itself l)
flat_id_new l (x ∷ xs) h = ahead (same_load l x) (is_in l xs) (index_of l (xs ++ l ∷ [])) (length xs) (flat_id_new l xs) h
  where
    ahead : (test there : Bool) (m k : ℕ) → (there ≡ false → m ≡ k) → cond test true there ≡ false → cond test 0 (m + 1) ≡ suc k
    ahead true there m k f h = absurd (cc)
    ahead false there m k f h = let e : m ≡ k = f h in omega arith

new_load : (l : VariableLoad) (xs : List VariableLoad) → is_in l xs ≡ false → with_load (Some l) xs ≡ xs ++ l ∷ []
new_load l xs h = ap (λ t. cond t xs (xs ++ l ∷ [])) h

without_load : (all : List VariableLoad) (l : VariableLoad) → without_loads all (term_of l) ≡ open_term (byte_variable (index_of l all))
unfolding without_loads
without_load all l = refl

load_inside : (all : List VariableLoad) (l : VariableLoad) → is_in l all ≡ true → AreIn l.address all → AreIn (term_of l) all
unfolding AreIn
load_inside all l there inside = (there, tt, inside)

in_last : (m l : VariableLoad) (xs : List VariableLoad) → is_in m (xs ++ l ∷ []) ≡ true → (is_in m xs ≡ true) ⊎ (m ≡ l)
in_last m l [] h = last (same_load m l) refl h
  where
    last : (test : Bool) → same_load m l ≡ test → cond test true false ≡ true → (false ≡ true) ⊎ (m ≡ l)
    last true e k = inr (load-same m l e)
    last false e k = inl k
in_last m l (x ∷ xs) h = ahead (same_load m x) (in_last m l xs) h
  where
    ahead : (test : Bool) → (is_in m (xs ++ l ∷ []) ≡ true → (is_in m xs ≡ true) ⊎ (m ≡ l)) → cond test true (is_in m (xs ++ l ∷ [])) ≡ true
        → (cond test true (is_in m xs) ≡ true) ⊎ (m ≡ l)
    ahead true f k = inl refl
    ahead false f k = f k

root_of : (base : List Term) (i : ℕ) (m l : VariableLoad) (xs : List VariableLoad) → tree_at base i ≡ term_of l → (is_in m xs ≡ true) ⊎ (m ≡ l) → (is_in m xs ≡ true) ⊎ (tree_at base i ≡ term_of m)
root_of base i m l xs e (inl k) = inl k
root_of base i m l xs e (inr k) = inr (e ∙ ap term_of (sym k))

-- ---- what is known of the arguments

module _ (base now : List Term) (goal : ℕ) (done : List (Option ℕ)) (ids : List LoadIds) (tasks : List Task) (i : ℕ) (node : TermNode)
    (w : IsWalk base now goal done ids (tasks ++ Finish i node ∷ [])) where
  argument_done : (a : ℕ) → Comes done [] a → IsDone done a
  unfolding HasTask
  argument_done a (inl d) = d
  argument_done a (inr h) = absurd h

  pub arguments_done : EachArgument (IsDone done) node
  arguments_done = each_map (Comes done []) (IsDone done) argument_done node (prepared_last done tasks (Finish i node) w.prepared)

  flat_argument : (a : ℕ) → IsDone done a → IsFlatArgument base now done w.loads a
  flat_argument a d =
      let is = w.each a d.0 d.1 in
      let same_id = done_id done a d.0 d.1 in
      record {
        within = subst (λ p. p < length now) (sym same_id) is.within;
        flat_is = ap (tree_at now) same_id ∙ is.flat_is;
        inside = is.inside;
      }

  pub arguments_flat : EachArgument (IsFlatArgument base now done w.loads) node
  arguments_flat = each_map (IsDone done) (IsFlatArgument base now done w.loads) flat_argument node arguments_done

  pub node_within : IsNode i node
  node_within = (last_task base (length done) tasks (Finish i node) w.are_tasks).1

  node_held : tree_at base i ≡ build base node
  node_held = (holds_tree base i (build base node) (last_task base (length done) tasks (Finish i node) w.are_tasks).2).tree

  below : i < length done
  below = last_below base now goal done ids tasks (Finish i node) w

  pub node_done : IsNode (length done) node
  node_done = node_longer i (length done) node (omega (arith, below)) node_within

  pub node_base : IsNode (length base) node
  node_base = node_longer i (length base) node (omega (arith, below, w.limit)) node_within

  pub node_now : IsNode (length now) node
  node_now = node_longer i (length now) node (omega (arith, below, w.limit, longer base now w.extends)) node_within

  pub replaced_within : IsNode (length now) (replaced done node)
  replaced_within = replaced_node base now done w.loads node arguments_flat

  -- ---- a term that is no load

  pub finish_node : (next : List Term) (f : ℕ) → load_in now node ≡ None → Extends now next → IsTreeAt next f (build now (replaced done node))
      → IsWalk base next goal (set done i (Some f)) ids tasks
  finish_node next f none e at =
      let none_base : load_in base node ≡ None = sym (load_in-kept base now node w.extends node_base) ∙ none in
      let nil : w.loads ++ [] ≡ w.loads = append-nil w.loads in
      finish base now next goal done ids ids tasks i f node w e []
      (record {
        flat = subst (λ ls. IsFlatAt base next ls i f) (sym nil) (record {
          within = at.within;
          flat_is = at.tree ∙ replaced_build base now done w.loads node none_base arguments_flat ∙ ap (without_loads w.loads) (sym node_held);
          inside = subst (λ t. AreIn t w.loads) (sym node_held) (node_inside base now done w.loads node none_base arguments_flat);
        });
        root = root_none base node w.loads none_base ∙ sym nil;
        new_from = λ l there. inl (subst (λ ls. is_in l ls ≡ true) nil there);
        listed = subst (λ ls. AreListed next ls 0 ls ids) (sym nil) (listed_now now next w.loads 0 w.loads ids e w.listed);
      })

  -- ---- a load

  pub address_below : (n : LoadNode) → load_in now node ≡ Some n → n.address < length done
  address_below n some = address_argument (λ a. a < length done) now node n some (each_node (length done) node node_done)

  module _ (n : LoadNode) (some : load_in now node ≡ Some n) (absent : slice_get done i ≡ Some None) where
    some_base : load_in base node ≡ Some n
    some_base = sym (load_in-kept base now node w.extends node_base) ∙ some

    root_is : tree_at base i ≡ term_of (load_by base n)
    root_is = node_held ∙ load_build base node n some_base

    -- the load has no byte yet
    is_new : is_in (load_by base n) w.loads ≡ false
    is_new = step (is_in (load_by base n) w.loads) refl
      where
        step : (test : Bool) → is_in (load_by base n) w.loads ≡ test → test ≡ false
        step false e = refl
        step true e =
            let old = w.from (load_by base n) e in
            let old_below : old.0 < length base = omega (arith, slice_get_within done old.0 (Some old.1.0) old.1.1, w.limit) in
            let here_below : i < length base = omega (arith, below, w.limit) in
            let one : old.0 ≡ i =
            w.distinct old.0 i (term_of (load_by base n)) (tree_holds base old.0 (term_of (load_by base n)) (record { within = old_below; tree = old.2 }))
            (tree_holds base i (term_of (load_by base n)) (record { within = here_below; tree = root_is })) in
            let has : slice_get done i ≡ Some (Some old.1.0) = subst (λ j. slice_get done j ≡ Some (Some old.1.0)) one old.1.1 in
            absurd (cc)

    address_flat : IsFlatArgument base now done w.loads n.address
    address_flat = address_argument (IsFlatArgument base now done w.loads) now node n some arguments_flat

    pub entered : (next : List Term) (f : ℕ) (p : LoadIds) → Extends now next → IsTreeAt next f (open_term (byte_variable (length ids)))
        → p ≡ record { memory = n.memory; address = flat_id done n.address; byte = f } → IsWalk base next goal (set done i (Some f)) (ids ++ p ∷ []) tasks
    entered next f p e at p_is =
        let l : VariableLoad = load_by base n in
        let count : length w.loads ≡ length ids = listed_length now w.loads 0 w.loads ids w.listed in
        let same_id : index_of l (w.loads ++ l ∷ []) ≡ length w.loads = flat_id_new l w.loads is_new in
        let root : with_root (build base node) w.loads ≡ w.loads ++ l ∷ [] = (ap (λ t. with_root t w.loads) (load_build base node n some_base) ∙ new_load l w.loads is_new) in
        let longer_list = listed_more next w.loads (l ∷ []) 0 w.loads ids (listed_now now next w.loads 0 w.loads ids e w.listed) in
        let last : IsLoadAt next (w.loads ++ l ∷ []) (length ids) l p = subst (IsLoadAt next (w.loads ++ l ∷ []) (length ids) l) (sym p_is) (record {
          memory_is = refl;
          address_within = within_longer now next (flat_id done n.address) e address_flat.within;
          byte_within = at.within;
          address_is = kept_tree now next (flat_id done n.address) e address_flat.within ∙ address_flat.flat_is ∙ sym (without_loads-front (tree_at base n.address) w.loads (l ∷ []) address_flat.inside);
          byte_is = at.tree;
          inside = are_in-front (tree_at base n.address) w.loads (l ∷ []) address_flat.inside;
        }) in
        finish base now next goal done ids (ids ++ p ∷ []) tasks i f node w e (l ∷ [])
        (record {
          flat = record {
            within = at.within;
            flat_is = at.tree ∙ ap (λ k. open_term (byte_variable k)) (sym count ∙ sym same_id) ∙ sym (ap (without_loads (w.loads ++ l ∷ [])) root_is ∙ without_load (w.loads ++ l ∷ []) l);
            inside = subst (λ t. AreIn t (w.loads ++ l ∷ [])) (sym root_is) (load_inside (w.loads ++ l ∷ []) l (is_in-last l w.loads) (are_in-front (tree_at base n.address) w.loads (l ∷ []) address_flat.inside));
          };
          root = root;
          new_from = λ m there. root_of base i m l w.loads root_is (in_last m l w.loads there);
          listed = listed_last next (w.loads ++ l ∷ []) 0 (length ids) w.loads ids l p longer_list (omega (arith, count)) last;
        })

-- ---- the ends of the walk

none_done : (n i f : ℕ) → slice_get (replicate n None) i ≡ Some (Some f) → ⊥
none_done zero i f e = cc
none_done (suc n) zero f e = let k : None ≡ Some f = same_Some None (Some f) e in cc
none_done (suc n) (suc i) f e = none_done n i f e

pub start : (base : List Term) (goal : ℕ) (done : List (Option ℕ)) (ids : List LoadIds) (tasks : List Task) → goal < length base → AreDistinct base
    → done ≡ replicate (goal + 1) None → ids ≡ [] → tasks ≡ Visit goal ∷ [] → IsWalk base base goal done ids tasks
unfolding AreTasks ArePrepared after_tasks HasTask AreListed
start base goal done ids tasks below distinct done_is ids_is tasks_are =
    let count : length done ≡ goal + 1 = ap length done_is ∙ length-replicate (goal + 1) None in
    subst (λ ts. IsWalk base base goal done ids ts) (sym tasks_are)
    (subst (λ ps. IsWalk base base goal done ps (Visit goal ∷ [])) (sym ids_is)
    (record {
      loads = [];
      extends = extends_itself base;
      distinct = distinct;
      limit = omega arith;
      are_tasks = (omega arith, tt);
      prepared = (tt, tt);
      comes = inr (inl refl);
      left = refl;
      each = λ i f e. absurd (none_done (goal + 1) i f (subst (λ d. slice_get d i ≡ Some (Some f)) done_is e));
      from = λ l there. absurd (cc);
      listed = tt;
    }))

-- what is known when all tasks are done
pub record IsWalked (base now : List Term) (goal : ℕ) (done : List (Option ℕ)) (ids : List LoadIds) : Type 0 where
  pub below : goal < length done
  pub flat : IsTreeAt now (flat_id done goal) (without_loads (loads_of (tree_at base goal)) (tree_at base goal))
  pub within : AreWithin (length now) ids
  pub loads_are : map (load_at now) ids ≡ flat_loads (tree_at base goal)

pub ended : (base now : List Term) (goal : ℕ) (done : List (Option ℕ)) (ids : List LoadIds) → IsWalk base now goal done ids [] → IsWalked base now goal done ids
unfolding after_tasks HasTask
ended base now goal done ids w = by_done w.comes
  where
    by_done : IsDone done goal ⊎ HasTask goal [] → IsWalked base now goal done ids
    by_done (inr h) = absurd h
    by_done (inl d) =
        let is = w.each goal d.0 d.1 in
        let same_id = done_id done goal d.0 d.1 in
        let all : w.loads ≡ loads_of (tree_at base goal) = w.left in
        record {
          below = slice_get_within done goal (Some d.0) d.1;
          flat = subst (λ p. IsTreeAt now p (without_loads (loads_of (tree_at base goal)) (tree_at base goal))) (sym same_id)
              (record { within = is.within; tree = is.flat_is ∙ ap (λ ls. without_loads ls (tree_at base goal)) all });
          within = listed_within now w.loads 0 w.loads ids w.listed;
          loads_are = listed_flat now w.loads 0 w.loads ids w.listed ∙ ap (λ ls. flattened ls 0 ls) all;
        }
