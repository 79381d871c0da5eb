-- A depth-first search over the tasks that are left, the topmost first.
use Rattle.std.proofs.Common.{◌≡◌, ◌⊎◌, ℕ, Bool, true, false, cond, List, [], ◌∷◌, ◌++◌, map, refl, sym, ◌∙◌, ap, subst, inl, inr, eqb-true, eq-eqb, reverse}
use Rattle.std.specs.Prelude.{Option, Some, None, Contains, MatchOption, nat_eq}
use Rattle.std.proofs.lemmas.List.{append-nil, reverse-append, map-append}
use Rattle.visit_walk_spec.specs.DepthFirst.{Takes, none, again, first, Leads, here, on, IsOnCycle}
use Rattle.std.proofs.lemmas.List.Elements.{Contains-append_cases}
use Rattle.visit_walk_spec.proofs.Members.{none_contained, only_contained, contained_here, contained_later, contained_cases}
use Rattle.visit_walk_spec.proofs.Walks.{path_then_edge}
use Rattle.visit_walk.specs.declared.depth_first.Targets.{Targets}
use Rattle.visit_walk.specs.declared.depth_first.Targets.TheVariants.{Zero, One, Two}
use Rattle.visit_walk.specs.declared.depth_first.Status.{Status}
use Rattle.visit_walk.specs.declared.depth_first.Status.TheVariants as status
use Rattle.visit_walk.specs.declared.depth_first.Task.{Task}
use Rattle.visit_walk.specs.declared.depth_first.Task.TheVariants.{Take, Leave}
use Rattle.visit_walk.specs.Search.{numbers_of, with_targets}

abbrev pub Statuses : Type 0
Statuses = ℕ → Option Status

abbrev pub number_of : Task → ℕ
number_of (Take number) = number
number_of (Leave number) = number

-- the number that is open topmost
abbrev pub top : List Task → Option ℕ
top [] = None
top (Take number ∷ tasks) = top tasks
top (Leave number ∷ tasks) = Some number

-- a task is left that leaves the number
abbrev pub IsOpen : List Task → ℕ → Type 0
IsOpen [] number = ⊥
IsOpen (Take other ∷ tasks) number = IsOpen tasks number
IsOpen (Leave other ∷ tasks) number = (number ≡ other) ⊎ IsOpen tasks number

module _ (nexts : ℕ → List ℕ) where
  -- from what has been left, the tasks leave this
  abbrev pub Does : List ℕ → List Task → List ℕ → Type 0
  Does left [] out = left ≡ out
  Does left (Take number ∷ tasks) out = (middle : List ℕ) × Takes nexts left (number ∷ []) middle × Does middle tasks out
  Does left (Leave number ∷ tasks) out = Does (number ∷ left) tasks out

  -- one walk after another
  takes_then : (x : ℕ) (left middle xs out : List ℕ) → Takes nexts left (x ∷ []) middle → Takes nexts middle xs out → Takes nexts left (x ∷ xs) out
  takes_then x left _ xs out (again _ _ _ _ among (none _)) rest = again x left xs out among rest
  takes_then x left _ xs out (first _ _ inside _ _ new inner (none _)) rest = first x left inside xs out new inner rest

  pub does_all : (xs : List ℕ) (left : List ℕ) (tasks : List Task) (out : List ℕ) → Does left (map Take xs ++ tasks) out
      → (middle : List ℕ) × Takes nexts left xs middle × Does middle tasks out
  does_all [] left tasks out does = (left, none left, does)
  does_all (x ∷ xs) left tasks out (middle, takes, rest) =
      let all = does_all xs middle tasks out rest in (all.0, takes_then x left middle xs all.0 takes all.1, all.2)

  module _ (roots : List ℕ) where
    -- each task is for a root, or for what follows the number that is open topmost below it
    abbrev pub AllUnder : List Task → Type 0
    AllUnder [] = Unit {0}
    AllUnder (task ∷ tasks) = MatchOption (top tasks) (Contains roots (number_of task)) (λ parent. Contains (nexts parent) (number_of task)) × AllUnder tasks

    pub record IsSearch (statuses : Statuses) (left : List ℕ) (tasks : List Task) : Type 0 where
      pub does : (out : List ℕ) → Does left tasks out → Takes nexts [] roots out
      pub under : AllUnder tasks
      pub left_are : (number : ℕ) → statuses number ≡ Some status.Left → Contains left number
      pub open_are : (number : ℕ) → statuses number ≡ Some status.Open → IsOpen tasks number
      pub others_are : (number : ℕ) → statuses number ≡ None → Contains left number → ⊥

    -- ---- the start and the end

    roots_under : (xs : List ℕ) → ((x : ℕ) → Contains xs x → Contains roots x) → AllUnder (map Take xs)
    roots_under [] all = tt
    roots_under (x ∷ xs) all = (
      subst (λ o. MatchOption o (Contains roots x) (λ parent. Contains (nexts parent) x)) (sym (top-takes xs)) (all x (contained_here x xs)),
      roots_under xs (λ y c. all y (contained_later x xs y c)),
    )
      where
        top-takes : (xs : List ℕ) → top (map Take xs) ≡ None
        top-takes [] = refl
        top-takes (x ∷ xs) = top-takes xs

    pub search_start : (statuses : Statuses) → ((number : ℕ) → statuses number ≡ None) → IsSearch statuses [] (map Take roots)
    search_start statuses nothing = record {
      does = λ out does.
          let all = does_all roots [] [] out (subst (λ ts. Does [] ts out) (sym (append-nil (map Take roots))) does) in
          subst (Takes nexts [] roots) all.2 all.1;
      under = roots_under roots (λ x c. c);
      left_are = λ number e. absurd (let no = nothing number in cc);
      open_are = λ number e. absurd (let no = nothing number in cc);
      others_are = λ number e c. none_contained number c;
    }

    pub search_end : (statuses : Statuses) (left : List ℕ) → IsSearch statuses left [] → Takes nexts [] roots left
    search_end statuses left s = s.does left refl

    -- ---- a number that has been left is taken again

    pub search_again : (statuses : Statuses) (left : List ℕ) (number : ℕ) (tasks : List Task) → IsSearch statuses left (Take number ∷ tasks)
        → statuses number ≡ Some status.Left → IsSearch statuses left tasks
    search_again statuses left number tasks s e = record {
      does = λ out does. s.does out (left, again number left [] left (s.left_are number e) (none left), does);
      under = s.under.1;
      left_are = s.left_are;
      open_are = s.open_are;
      others_are = s.others_are;
    }

    -- ---- a number is taken

    targets_under : (xs : List ℕ) (tasks : List Task) (number : ℕ) → top tasks ≡ Some number → ((x : ℕ) → Contains xs x → Contains (nexts number) x) → AllUnder tasks
        → AllUnder (map Take xs ++ tasks)
    targets_under [] tasks number e all under = under
    targets_under (x ∷ xs) tasks number e all under = (
      subst (λ o. MatchOption o (Contains roots x) (λ parent. Contains (nexts parent) x)) (sym (top-after xs ∙ e)) (all x (contained_here x xs)),
      targets_under xs tasks number e (λ y c. all y (contained_later x xs y c)) under,
    )
      where
        top-after : (xs : List ℕ) → top (map Take xs ++ tasks) ≡ top tasks
        top-after [] = refl
        top-after (x ∷ xs) = top-after xs

    open_below : (xs : List ℕ) (tasks : List Task) (number : ℕ) → IsOpen tasks number → IsOpen (map Take xs ++ tasks) number
    open_below [] tasks number o = o
    open_below (x ∷ xs) tasks number o = open_below xs tasks number o

    pub search_take : (statuses new : Statuses) (left : List ℕ) (number : ℕ) (tasks : List Task) → IsSearch statuses left (Take number ∷ tasks)
        → statuses number ≡ None → ((t : ℕ) → new t ≡ cond (nat_eq number t) (Some status.Open) (statuses t))
        → IsSearch new left (map Take (nexts number) ++ Leave number ∷ tasks)
    search_take statuses new left number tasks s e updates = record {
      does = λ out does.
          let all = does_all (nexts number) left (Leave number ∷ tasks) out does in
          s.does out (number ∷ all.0, first number left all.0 [] (number ∷ all.0) (s.others_are number e) all.1 (none (number ∷ all.0)), all.2);
      under = targets_under (nexts number) (Leave number ∷ tasks) number refl (λ x c. c) s.under;
      left_are = λ t is. left_at t is (nat_eq number t) refl;
      open_are = λ t is. open_below (nexts number) (Leave number ∷ tasks) t (open_at t is (nat_eq number t) refl);
      others_are = λ t is. others_at t is (nat_eq number t) refl;
    }
      where
        kept : (t : ℕ) (b : Bool) → nat_eq number t ≡ b → new t ≡ cond b (Some status.Open) (statuses t)
        kept t b e = updates t ∙ ap (λ b. cond b (Some status.Open) (statuses t)) e

        left_at : (t : ℕ) → new t ≡ Some status.Left → (b : Bool) → nat_eq number t ≡ b → Contains left t
        left_at t is true b = absurd (let k : new t ≡ Some status.Open = kept t true b in cc)
        left_at t is false b = s.left_are t (sym (kept t false b) ∙ is)

        open_at : (t : ℕ) → new t ≡ Some status.Open → (b : Bool) → nat_eq number t ≡ b → (t ≡ number) ⊎ IsOpen tasks t
        open_at t is true b = inl (sym (eqb-true number t b))
        open_at t is false b = inr (s.open_are t (sym (kept t false b) ∙ is))

        others_at : (t : ℕ) → new t ≡ None → (b : Bool) → nat_eq number t ≡ b → Contains left t → ⊥
        others_at t is true b = absurd (let k : new t ≡ Some status.Open = kept t true b in cc)
        others_at t is false b = s.others_are t (sym (kept t false b) ∙ is)

    -- ---- a number is left

    pub search_leave : (statuses new : Statuses) (left : List ℕ) (number : ℕ) (tasks : List Task) → IsSearch statuses left (Leave number ∷ tasks)
        → ((t : ℕ) → new t ≡ cond (nat_eq number t) (Some status.Left) (statuses t)) → IsSearch new (number ∷ left) tasks
    search_leave statuses new left number tasks s updates = record {
      does = s.does;
      under = s.under.1;
      left_are = λ t is. left_at t is (nat_eq number t) refl;
      open_are = λ t is. open_at t is (nat_eq number t) refl;
      others_are = λ t is c. others_at t is (nat_eq number t) refl (contained_cases number left t c);
    }
      where
        kept : (t : ℕ) (b : Bool) → nat_eq number t ≡ b → new t ≡ cond b (Some status.Left) (statuses t)
        kept t b e = updates t ∙ ap (λ b. cond b (Some status.Left) (statuses t)) e

        left_at : (t : ℕ) → new t ≡ Some status.Left → (b : Bool) → nat_eq number t ≡ b → Contains (number ∷ left) t
        left_at t is true b = subst (Contains (number ∷ left)) (eqb-true number t b) (contained_here number left)
        left_at t is false b = contained_later number left t (s.left_are t (sym (kept t false b) ∙ is))

        open_at : (t : ℕ) → new t ≡ Some status.Open → (b : Bool) → nat_eq number t ≡ b → IsOpen tasks t
        open_at t is true b = absurd (let k : new t ≡ Some status.Left = kept t true b in cc)
        open_at t is false b = other t b (s.open_are t (sym (kept t false b) ∙ is))
          where
            other : (t : ℕ) → nat_eq number t ≡ false → (t ≡ number) ⊎ IsOpen tasks t → IsOpen tasks t
            other t b (inl e) = absurd (let same = eq-eqb number t (sym e) in cc)
            other t b (inr o) = o

        others_at : (t : ℕ) → new t ≡ None → (b : Bool) → nat_eq number t ≡ b → (t ≡ number) ⊎ Contains left t → ⊥
        others_at t is true b c = let k : new t ≡ Some status.Left = kept t true b in cc
        others_at t is false b (inl e) = let same = eq-eqb number t (sym e) in cc
        others_at t is false b (inr c) = s.others_are t (sym (kept t false b) ∙ is) c

    -- ---- a number that is open is taken again

    -- the number leads to the one that is open topmost
    record Onward (tasks : List Task) (t : ℕ) : Type 0 where
      last : ℕ
      last_is : top tasks ≡ Some last
      path : Leads nexts t last

    open_leads : (tasks : List Task) (t : ℕ) → AllUnder tasks → IsOpen tasks t → Onward tasks t
    open_leads [] t under o = absurd o
    open_leads (Take number ∷ tasks) t under o = let f = open_leads tasks t under.1 o in record { last = f.last; last_is = f.last_is; path = f.path }
    open_leads (Leave number ∷ tasks) t under (inl e) = record { last = number; last_is = refl; path = subst (λ z. Leads nexts z number) (sym e) here }
    open_leads (Leave number ∷ tasks) t under (inr o) =
        let f = open_leads tasks t under.1 o in
        record {
          last = number;
          last_is = refl;
          path = on f.last number f.path (subst (λ z. MatchOption z (Contains roots number) (λ parent. Contains (nexts parent) number)) f.last_is under.0);
        }

    record Rooted (t : ℕ) : Type 0 where
      root : ℕ
      among : Contains roots root
      path : Leads nexts root t

    rooted_by : (t : ℕ) (o : Option ℕ) → ((parent : ℕ) → o ≡ Some parent → Rooted parent)
        → MatchOption o (Contains roots t) (λ parent. Contains (nexts parent) t) → Rooted t
    rooted_by t None parents among = record { root = t; among = among; path = here }
    rooted_by t (Some parent) parents edge = let r = parents parent refl in record { root = r.root; among = r.among; path = on parent t r.path edge }

    top_rooted : (tasks : List Task) → AllUnder tasks → (parent : ℕ) → top tasks ≡ Some parent → Rooted parent
    top_rooted [] under parent e = absurd (cc)
    top_rooted (Take number ∷ tasks) under parent e = top_rooted tasks under.1 parent e
    top_rooted (Leave number ∷ tasks) under parent e =
        let same : number ≡ parent = cc in
        subst Rooted same (rooted_by number (top tasks) (λ p is. top_rooted tasks under.1 p is) under.0)

    pub record IsCycle (t : ℕ) : Type 0 where
      pub root : ℕ
      pub among : Contains roots root
      pub path : Leads nexts root t
      pub cycle : IsOnCycle nexts t

    pub search_cycle : (statuses : Statuses) (left : List ℕ) (number : ℕ) (tasks : List Task) → IsSearch statuses left (Take number ∷ tasks)
        → statuses number ≡ Some status.Open → IsCycle number
    search_cycle statuses left number tasks s e =
        let onward = open_leads tasks number s.under.1 (s.open_are number e) in
        let edge = subst (λ o. MatchOption o (Contains roots number) (λ parent. Contains (nexts parent) number)) onward.last_is s.under.0 in
        let starts = path_then_edge nexts number onward.last number onward.path edge in
        let rooted = rooted_by number (top tasks) (top_rooted tasks s.under.1) s.under.0 in
        record {
          root = rooted.root;
          among = rooted.among;
          path = rooted.path;
          cycle = record { second = starts.second; edge = starts.edge; back = starts.rest };
        }

-- ---- tasks as the program keeps them, the topmost last

pub popped : (old new : List Task) (task : Task) → old ≡ new ++ task ∷ [] → reverse old ≡ task ∷ reverse new
popped old new task e = ap reverse e ∙ reverse-append new (task ∷ [])

pub pushed : (old new : List Task) (number : ℕ) (targets : Targets) → new ≡ with_targets (old ++ Leave number ∷ []) targets
    → reverse new ≡ map Take (numbers_of targets) ++ Leave number ∷ reverse old
pushed old new number Zero e = ap reverse e ∙ reverse-append old (Leave number ∷ [])
pushed old new number (One a) e =
    ap reverse e ∙ (reverse-append (old ++ Leave number ∷ []) (Take a ∷ []) ∙ ap (λ l. Take a ∷ l) (reverse-append old (Leave number ∷ [])))
pushed old new number (Two a b) e =
    ap reverse e ∙ (reverse-append ((old ++ Leave number ∷ []) ++ Take b ∷ []) (Take a ∷ [])
    ∙ ap (λ l. Take a ∷ l) (reverse-append (old ++ Leave number ∷ []) (Take b ∷ []) ∙ ap (λ l. Take b ∷ l) (reverse-append old (Leave number ∷ []))))

pub reverse-takes : (xs : List ℕ) → reverse (map Take xs) ≡ map Take (reverse xs)
reverse-takes [] = refl
reverse-takes (x ∷ xs) =
    reverse-append (Take x ∷ []) (map Take xs) ∙ (ap (λ l. l ++ Take x ∷ []) (reverse-takes xs)
    ∙ (sym (map-append Take (reverse xs) (x ∷ [])) ∙ ap (map Take) (sym (reverse-append (x ∷ []) xs))))

pub contained_reverse : (xs : List ℕ) (x : ℕ) → Contains (reverse xs) x → Contains xs x
contained_reverse [] x c = c
contained_reverse (y ∷ xs) x c = elim (Contains-append_cases (reverse xs) (y ∷ []) x (subst (λ l. Contains l x) (reverse-append (y ∷ []) xs) c)) [
  | inl rest ↦ contained_later y xs x (contained_reverse xs x rest)
  | inr last ↦ subst (Contains (y ∷ xs)) (sym (only_contained y x last)) (contained_here y xs)
]
