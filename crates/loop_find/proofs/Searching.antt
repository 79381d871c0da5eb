-- A depth-first walk over the tasks that are left, the topmost first.
use Rattle.std.proofs.Common.{arith, ◌≡◌, ◌≤◌, ◌+◌, ℕ, length, Bool, true, false, cond, List, [], ◌∷◌, ◌++◌, map, refl, sym, ◌∙◌, ap, subst, inl, inr, eqb-true, eq-eqb, reverse, append_assoc}
use Rattle.std.specs.Prelude.{Option, Some, None, Contains, nat_eq, slice_get}
use Rattle.std.specs.Option.{option_map_or}
use Rattle.std.proofs.lemmas.List.{append-nil, reverse-append, reverse-reverse, map-append, length-append, length-map, length-reverse}
use Rattle.visit_walk_spec.proofs.Members.{none_contained, contained_here, contained_later, contained_cases}
use Rattle.graph_core_spec.specs.declared.Next.{Next}
use Rattle.graph_core_spec.specs.declared.Next.TheVariants as next
use Rattle.graph_core_spec.specs.Graph.{Node, Basic, Cond, Call, Graph}
use Rattle.loop_find_spec.specs.Loops.{Walks, done, again, back, first, node_in, nodes_after, nodes_from}
use Rattle.loop_find.specs.declared.tasks.Status.{Status}
use Rattle.loop_find.specs.declared.tasks.Status.TheVariants as status
use Rattle.loop_find.specs.declared.tasks.Task.{Task}
use Rattle.loop_find.specs.declared.tasks.Task.TheVariants.{Take, Leave}

abbrev pub Statuses : Type 0
Statuses = ℕ → Option Status

-- the nodes that are to be left, the topmost first: they are on the way
abbrev pub way_of : List Task → List ℕ
way_of [] = []
way_of (Take node ∷ tasks) = way_of tasks
way_of (Leave node ∷ tasks) = node ∷ way_of tasks

way-takes : (xs : List ℕ) (tasks : List Task) → way_of (map Take xs ++ tasks) ≡ way_of tasks
way-takes [] tasks = refl
way-takes (x ∷ xs) tasks = way-takes xs tasks

module _ (nexts : ℕ → List ℕ) where
  -- what a task does, and then the others: from what has been left, they leave `out`, and edges lead back to these heads
  pub record Taken (way left : List ℕ) (node : ℕ) (Then : List ℕ → List ℕ → Type 0) (heads : List ℕ) : Type 0 where
    pub middle : List ℕ
    pub inner : List ℕ
    pub others : List ℕ
    pub walk : Walks nexts way left (node ∷ []) middle inner
    pub after : Then middle others
    pub all : heads ≡ inner ++ others

  abbrev pub Does : (left : List ℕ) → List Task → (out heads : List ℕ) → Type 0
  Does left [] out heads = (left ≡ out) × (heads ≡ [])
  Does left (Take node ∷ tasks) out heads = Taken (way_of tasks) left node (λ middle others. Does middle tasks out others) heads
  Does left (Leave node ∷ tasks) out heads = Does (node ∷ left) tasks out heads

  -- one walk after another
  walks_then : (x : ℕ) (way left middle xs out inner others : List ℕ) → Walks nexts way left (x ∷ []) middle inner → Walks nexts way middle xs out others
      → Walks nexts way left (x ∷ xs) out (inner ++ others)
  walks_then x way left _ xs out _ others (again _ _ _ _ _ _ among (done _ _)) rest = again x way left xs out others among rest
  walks_then x way left _ xs out _ others (back _ _ _ _ _ _ among (done _ _)) rest = back x way left xs out others among rest
  walks_then x way left _ xs out _ others (first _ _ _ inside _ _ inner _ new off walk (done _ _)) rest =
      subst (λ (h : List ℕ). Walks nexts way left (x ∷ xs) out (h ++ others)) (sym (append-nil inner))
      (first x way left inside xs out inner others new off walk rest)

  pub record TakenAll (way left xs : List ℕ) (Then : List ℕ → List ℕ → Type 0) (heads : List ℕ) : Type 0 where
    pub middle : List ℕ
    pub inner : List ℕ
    pub others : List ℕ
    pub walk : Walks nexts way left xs middle inner
    pub after : Then middle others
    pub all : heads ≡ inner ++ others

  pub does_all : (xs : List ℕ) (left : List ℕ) (tasks : List Task) (out heads : List ℕ) → Does left (map Take xs ++ tasks) out heads
      → TakenAll (way_of tasks) left xs (λ middle others. Does middle tasks out others) heads
  does_all [] left tasks out heads does = record { middle = left; inner = []; others = heads; walk = done (way_of tasks) left; after = does; all = refl }
  does_all (x ∷ xs) left tasks out heads t =
      let all = does_all xs t.middle tasks out t.others t.after in
      record {
        middle = all.middle;
        inner = t.inner ++ all.inner;
        others = all.others;
        walk = walks_then x (way_of tasks) left t.middle xs all.middle t.inner all.inner
            (subst (λ (way : List ℕ). Walks nexts way left (x ∷ []) t.middle t.inner) (way-takes xs tasks) t.walk) all.walk;
        after = all.after;
        all = t.all ∙ (ap (λ (h : List ℕ). t.inner ++ h) all.all ∙ sym (append_assoc t.inner all.inner all.others));
      }

  module _ (root : ℕ) where
    pub record IsSearch (statuses : Statuses) (left : List ℕ) (tasks : List Task) (found : List ℕ) : Type 0 where
      pub does : (out others : List ℕ) → Does left tasks out others → Walks nexts [] [] (root ∷ []) out (found ++ others)
      pub left_are : (node : ℕ) → statuses node ≡ Some status.Left → Contains left node
      pub open_are : (node : ℕ) → statuses node ≡ Some status.OnTheWay → Contains (way_of tasks) node
      pub others_are : (node : ℕ) → statuses node ≡ None → (Contains left node → ⊥) × (Contains (way_of tasks) node → ⊥)

    -- ---- the start and the end

    pub search_start : (statuses : Statuses) → ((node : ℕ) → statuses node ≡ None) → IsSearch statuses [] (Take root ∷ []) []
    search_start statuses nothing = record {
      does = λ out others t.
          let last : t.others ≡ [] = t.after.1 in
          let heads : others ≡ t.inner = t.all ∙ (ap (λ (h : List ℕ). t.inner ++ h) last ∙ append-nil t.inner) in
          subst (λ (h : List ℕ). Walks nexts [] [] (root ∷ []) out h) (sym heads)
          (subst (λ (m : List ℕ). Walks nexts [] [] (root ∷ []) m t.inner) t.after.0 t.walk);
      left_are = λ node e. absurd (let is = nothing node in cc);
      open_are = λ node e. absurd (let is = nothing node in cc);
      others_are = λ node e. (λ c. none_contained node c, λ c. none_contained node c);
    }

    pub search_end : (statuses : Statuses) (left found : List ℕ) → IsSearch statuses left [] found → Walks nexts [] [] (root ∷ []) left found
    search_end statuses left found s =
        subst (λ (h : List ℕ). Walks nexts [] [] (root ∷ []) left h) (append-nil found) (s.does left [] (refl, refl))

    -- ---- a node that has been left, or that is on the way, is taken again

    pub search_again : (statuses : Statuses) (left : List ℕ) (node : ℕ) (tasks : List Task) (found : List ℕ) → IsSearch statuses left (Take node ∷ tasks) found
        → statuses node ≡ Some status.Left → IsSearch statuses left tasks found
    search_again statuses left node tasks found s e = record {
      does = λ out others does. s.does out others (record {
        middle = left;
        inner = [];
        others = others;
        walk = again node (way_of tasks) left [] left [] (s.left_are node e) (done (way_of tasks) left);
        after = does;
        all = refl;
      });
      left_are = s.left_are;
      open_are = s.open_are;
      others_are = s.others_are;
    }

    pub search_back : (statuses : Statuses) (left : List ℕ) (node : ℕ) (tasks : List Task) (found : List ℕ) → IsSearch statuses left (Take node ∷ tasks) found
        → statuses node ≡ Some status.OnTheWay → IsSearch statuses left tasks (found ++ node ∷ [])
    search_back statuses left node tasks found s e = record {
      does = λ out others does.
          subst (λ (h : List ℕ). Walks nexts [] [] (root ∷ []) out h) (sym (append_assoc found (node ∷ []) others))
          (s.does out (node ∷ others) (record {
            middle = left;
            inner = node ∷ [];
            others = others;
            walk = back node (way_of tasks) left [] left [] (s.open_are node e) (done (way_of tasks) left);
            after = does;
            all = refl;
          }));
      left_are = s.left_are;
      open_are = s.open_are;
      others_are = s.others_are;
    }

    -- ---- a node is taken

    pub search_take : (statuses new : Statuses) (left : List ℕ) (node : ℕ) (tasks : List Task) (found : List ℕ) → IsSearch statuses left (Take node ∷ tasks) found
        → statuses node ≡ None → ((t : ℕ) → new t ≡ cond (nat_eq node t) (Some status.OnTheWay) (statuses t))
        → IsSearch new left (map Take (nexts node) ++ Leave node ∷ tasks) found
    search_take statuses new left node tasks found s e updates = record {
      does = λ out others does.
          let all = does_all (nexts node) left (Leave node ∷ tasks) out others does in
          let fresh = s.others_are node e in
          s.does out others (record {
            middle = node ∷ all.middle;
            inner = all.inner;
            others = all.others;
            walk = subst (λ (h : List ℕ). Walks nexts (way_of tasks) left (node ∷ []) (node ∷ all.middle) h) (append-nil all.inner)
                (first node (way_of tasks) left all.middle [] (node ∷ all.middle) all.inner [] fresh.0 fresh.1 all.walk (done (way_of tasks) (node ∷ all.middle)));
            after = all.after;
            all = all.all;
          });
      left_are = λ t is. left_at t is (nat_eq node t) refl;
      open_are = λ t is. subst (λ (w : List ℕ). Contains w t) (sym (way-takes (nexts node) (Leave node ∷ tasks))) (open_at t is (nat_eq node t) refl);
      others_are = λ t is. others_at t is (nat_eq node t) refl;
    }
      where
        kept : (t : ℕ) (b : Bool) → nat_eq node t ≡ b → new t ≡ cond b (Some status.OnTheWay) (statuses t)
        kept t b same = updates t ∙ ap (λ b. cond b (Some status.OnTheWay) (statuses t)) same

        left_at : (t : ℕ) → new t ≡ Some status.Left → (b : Bool) → nat_eq node t ≡ b → Contains left t
        left_at t is true b = absurd (let k : new t ≡ Some status.OnTheWay = kept t true b in cc)
        left_at t is false b = s.left_are t (sym (kept t false b) ∙ is)

        open_at : (t : ℕ) → new t ≡ Some status.OnTheWay → (b : Bool) → nat_eq node t ≡ b → Contains (node ∷ way_of tasks) t
        open_at t is true b = subst (Contains (node ∷ way_of tasks)) (eqb-true node t b) (contained_here node (way_of tasks))
        open_at t is false b = contained_later node (way_of tasks) t (s.open_are t (sym (kept t false b) ∙ is))

        apart : (t : ℕ) → nat_eq node t ≡ false → (Contains (way_of tasks) t → ⊥) → Contains (node ∷ way_of tasks) t → ⊥
        apart t b off c = elim (contained_cases node (way_of tasks) t c) [ inl same ↦ (let is = eq-eqb node t (sym same) in cc) | inr later ↦ off later ]

        others_at : (t : ℕ) → new t ≡ None → (b : Bool) → nat_eq node t ≡ b
            → (Contains left t → ⊥) × (Contains (way_of (map Take (nexts node) ++ Leave node ∷ tasks)) t → ⊥)
        others_at t is true b = absurd (let k : new t ≡ Some status.OnTheWay = kept t true b in cc)
        others_at t is false b =
            let fresh = s.others_are t (sym (kept t false b) ∙ is) in
            (fresh.0, λ c. apart t b fresh.1 (subst (λ (w : List ℕ). Contains w t) (way-takes (nexts node) (Leave node ∷ tasks)) c))

    -- ---- a node is left

    pub search_leave : (statuses new : Statuses) (left : List ℕ) (node : ℕ) (tasks : List Task) (found : List ℕ) → IsSearch statuses left (Leave node ∷ tasks) found
        → ((t : ℕ) → new t ≡ cond (nat_eq node t) (Some status.Left) (statuses t)) → IsSearch new (node ∷ left) tasks found
    search_leave statuses new left node tasks found s updates = record {
      does = s.does;
      left_are = λ t is. left_at t is (nat_eq node t) refl;
      open_are = λ t is. open_at t is (nat_eq node t) refl;
      others_are = λ t is. others_at t is (nat_eq node t) refl;
    }
      where
        kept : (t : ℕ) (b : Bool) → nat_eq node t ≡ b → new t ≡ cond b (Some status.Left) (statuses t)
        kept t b same = updates t ∙ ap (λ b. cond b (Some status.Left) (statuses t)) same

        left_at : (t : ℕ) → new t ≡ Some status.Left → (b : Bool) → nat_eq node t ≡ b → Contains (node ∷ left) t
        left_at t is true b = subst (Contains (node ∷ left)) (eqb-true node t b) (contained_here node left)
        left_at t is false b = contained_later node left t (s.left_are t (sym (kept t false b) ∙ is))

        open_at : (t : ℕ) → new t ≡ Some status.OnTheWay → (b : Bool) → nat_eq node t ≡ b → Contains (way_of tasks) t
        open_at t is true b = absurd (let k : new t ≡ Some status.Left = kept t true b in cc)
        open_at t is false b = elim (contained_cases node (way_of tasks) t (s.open_are t (sym (kept t false b) ∙ is))) [
          | inl same ↦ absurd (let is2 = eq-eqb node t (sym same) in cc)
          | inr later ↦ later
        ]

        others_at : (t : ℕ) → new t ≡ None → (b : Bool) → nat_eq node t ≡ b → (Contains (node ∷ left) t → ⊥) × (Contains (way_of tasks) t → ⊥)
        others_at t is true b = absurd (let k : new t ≡ Some status.Left = kept t true b in cc)
        others_at t is false b =
            let fresh = s.others_are t (sym (kept t false b) ∙ is) in (
              λ c. elim (contained_cases node left t c) [ inl same ↦ (let is2 = eq-eqb node t (sym same) in cc) | inr later ↦ fresh.0 later ],
              λ c. fresh.1 (contained_later node (way_of tasks) t c),
            )

-- ---- tasks as the program keeps them, the topmost last

pub popped : (old new : List Task) (task : Task) → old ≡ new ++ task ∷ [] → reverse old ≡ task ∷ reverse new
popped old new task e = ap reverse e ∙ reverse-append new (task ∷ [])

pub reverse-takes : (xs : List ℕ) → reverse (map Take xs) ≡ map Take (reverse xs)
reverse-takes [] = refl
reverse-takes (x ∷ xs) =
    reverse-append (Take x ∷ []) (map Take xs) ∙ (ap (λ l. l ++ Take x ∷ []) (reverse-takes xs)
    ∙ (sym (map-append Take (reverse xs) (x ∷ [])) ∙ ap (map Take) (sym (reverse-append (x ∷ []) xs))))

pub pushed : (old new : List Task) (node : ℕ) (next : List ℕ) → new ≡ (old ++ Leave node ∷ []) ++ map Take (reverse next)
    → reverse new ≡ map Take next ++ Leave node ∷ reverse old
pushed old new node next e =
    ap reverse e ∙ (reverse-append (old ++ Leave node ∷ []) (map Take (reverse next))
    ∙ (ap (λ (l : List Task). l ++ reverse (old ++ Leave node ∷ [])) (reverse-takes (reverse next) ∙ ap (map Take) (reverse-reverse next))
    ∙ ap (λ (l : List Task). map Take next ++ l) (reverse-append old (Leave node ∷ []))))

-- ---- at most three tasks come with a node

in_next : (n : Next) → length (node_in n) ≤ 1
in_next (next.At n) = omega arith
in_next next.Ret = omega arith
in_next next.Err = omega arith

after_node : (n : Node) → length (nodes_after n) ≤ 2
after_node (Basic bindings n) = let one = in_next n in omega arith
after_node (Cond test on_true on_false) =
    let two = length-append (node_in on_true) (node_in on_false) in
    let first_one = in_next on_true in
    let second_one = in_next on_false in
    omega arith
after_node (Call callee inputs outputs landing) = omega arith

from_node : (o : Option Node) → length (option_map_or nodes_after o []) ≤ 2
from_node None = omega arith
from_node (Some n) = after_node n

pub few_added : (g : Graph) (old new : List Task) (node : ℕ) → new ≡ (old ++ Leave node ∷ []) ++ map Take (reverse (nodes_from g node))
    → length new ≤ length old + 3
few_added g old new node e =
    let all = ap length e ∙ length-append (old ++ Leave node ∷ []) (map Take (reverse (nodes_from g node))) in
    let before = length-append old (Leave node ∷ []) in
    let same = length-map (reverse (nodes_from g node)) Take ∙ length-reverse (nodes_from g node) in
    let few = from_node (slice_get g.nodes node) in
    omega arith
