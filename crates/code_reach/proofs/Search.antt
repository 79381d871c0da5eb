-- The search for the stack of a function, over the tasks that are left, the topmost first.
use Rattle.std.proofs.Common.{◌≡◌, ◌⊎◌, ◌+◌, ◌-◌, ◌*◌, ◌^◌, ◌<◌, ℕ, Bool, true, false, cond, List, [], ◌∷◌, ◌++◌, length, get_or, map, refl, sym, ◌∙◌, ap, subst, inl, inr, arith, eqb-true, eq-eqb, reverse, append_assoc}
use Rattle.std.specs.Prelude.{Option, Some, None, IsSome, Contains, MatchOption, nat_eq, unwrap_or, is_some}
use Rattle.std.specs.List.{list_any}
use Rattle.std.proofs.lemmas.List.{append-nil, reverse-append, length-append, length-map}
use Rattle.std.proofs.lemmas.List.Folds.{list_any_at}
use Rattle.std.proofs.lemmas.List.Elements.{Contains-append_cases, Contains-append_right}
use Rattle.elf_read_spec.specs.Image.{Image, size_at}
use Rattle.code_reach_spec.specs.Code.{CallsOn, Reaches, itself, further, IsStack, IsCyclic, deep}
use Rattle.code_reach_spec.specs.Faults.{ReachesNoFault}
use Rattle.code_reach.specs.Growth.{Grows}
use Rattle.code_reach.specs.Surveys.{CallsOut}
use Rattle.code_reach.specs.Stacks.{Known, known_or_zero, AreCalls, IsTotal, IsEntered}
use Rattle.code_reach.specs.Found.{IsDepth}
use Rattle.code_reach.specs.declared.stacks.Task.{Task}
use Rattle.code_reach.specs.declared.stacks.Task.TheVariants.{Enter, Leave}
use Rattle.code_reach.proofs.Growing.{none_contained, only_contained}
use Rattle.code_reach.proofs.Shallow.{shallow}
use Rattle.code_reach.proofs.Surveyed.{called-sized}

abbrev pub entry_of : Task → ℕ
entry_of (Enter entry) = entry
entry_of (Leave entry) = entry

-- the function that is open topmost
abbrev pub below : List Task → Option ℕ
below [] = None
below (Enter entry ∷ tasks) = below tasks
below (Leave entry ∷ tasks) = Some entry

-- the stack of a function is known
abbrev pub IsKnown : Known → ℕ → Type 0
IsKnown known entry = (stack : ℕ) × (known entry ≡ Some stack)

-- the function is open: entered and not yet left
abbrev pub IsOpen : List Task → ℕ → Type 0
IsOpen [] entry = ⊥
IsOpen (Enter other ∷ tasks) entry = IsOpen tasks entry
IsOpen (Leave other ∷ tasks) entry = (entry ≡ other) ⊎ IsOpen tasks entry

-- so many tasks on top, the last one topmost
abbrev pub pushed : List ℕ → List Task → List Task
pushed [] tasks = tasks
pushed (c ∷ cs) tasks = pushed cs (Enter c ∷ tasks)

module _ (image : Image) (root : ℕ) where
  -- each task is for the root, or for what the topmost function open below it calls
  abbrev pub AllUnder : List Task → Type 0
  AllUnder [] = Unit {0}
  AllUnder (task ∷ tasks) = MatchOption (below tasks) (entry_of task ≡ root) (λ caller. CallsOut image caller (entry_of task)) × AllUnder tasks

  -- what an open function calls is among those given or those above it; and so is the root at the bottom
  abbrev pub Covered : (ℕ → Type 0) → List Task → Type 0
  Covered Q [] = Q root
  Covered Q (Enter entry ∷ tasks) = Covered (λ t. Q t ⊎ (t ≡ entry)) tasks
  Covered Q (Leave entry ∷ tasks) = ((t : ℕ) → CallsOut image entry t → Q t) × Covered (λ t. Q t ⊎ (t ≡ entry)) tasks

  pub record IsSearch (known : Known) (entered : List ℕ) (tasks : List Task) : Type 0 where
    pub under : AllUnder tasks
    pub covered : Covered (IsKnown known) tasks
    pub open_are : (t : ℕ) → Contains entered t → IsKnown known t ⊎ IsOpen tasks t
    pub stacks : (t stack : ℕ) → known t ≡ Some stack → IsStack image t stack

  covered-more : (tasks : List Task) (Q P : ℕ → Type 0) → ((t : ℕ) → Q t → P t) → Covered Q tasks → Covered P tasks
  covered-more [] Q P more c = more root c
  covered-more (Enter entry ∷ tasks) Q P more c =
      covered-more tasks (λ t. Q t ⊎ (t ≡ entry)) (λ t. P t ⊎ (t ≡ entry)) (λ t q. elim q [ inl x ↦ inl (more t x) | inr e ↦ inr e ]) c
  covered-more (Leave entry ∷ tasks) Q P more c = (
    λ t out. more t (c.0 t out),
    covered-more tasks (λ t. Q t ⊎ (t ≡ entry)) (λ t. P t ⊎ (t ≡ entry)) (λ t q. elim q [ inl x ↦ inl (more t x) | inr e ↦ inr e ]) c.1,
  )

  -- ---- what is reached

  under-reached : (entry : ℕ) (o : Option ℕ) → ((caller : ℕ) → o ≡ Some caller → Reaches image root caller)
      → MatchOption o (entry ≡ root) (λ caller. CallsOut image caller entry) → Reaches image root entry
  under-reached entry None top e = subst (Reaches image root) (sym e) itself
  under-reached entry (Some caller) top out = further caller out.size entry (top caller refl) out.size_is out.calls

  reached-top : (tasks : List Task) → AllUnder tasks → (caller : ℕ) → below tasks ≡ Some caller → Reaches image root caller
  reached-top [] under caller e = absurd (cc)
  reached-top (Enter entry ∷ tasks) under caller e = reached-top tasks under.1 caller e
  reached-top (Leave entry ∷ tasks) under caller e =
      let same : entry ≡ caller = cc in
      subst (Reaches image root) same (under-reached entry (below tasks) (λ c is. reached-top tasks under.1 c is) under.0)

  reached-task : (task : Task) (tasks : List Task) → AllUnder (task ∷ tasks) → Reaches image root (entry_of task)
  reached-task task tasks under = under-reached (entry_of task) (below tasks) (reached-top tasks under.1) under.0

  pub reached-sized : (other : ℕ) → IsSome (size_at image root) → Reaches image root other → IsSome (size_at image other)
  reached-sized _ some itself = some
  reached-sized other some (further middle size _ reached is calls) = called-sized image middle size other calls

  pub task-sized : (known : Known) (entered : List ℕ) (task : Task) (tasks : List Task) → IsSome (size_at image root) → IsSearch known entered (task ∷ tasks)
      → IsSome (size_at image (entry_of task))
  task-sized known entered task tasks some s = reached-sized (entry_of task) some (reached-task task tasks s.under)

  -- ---- the start, and a task whose function is known

  pub search-start : (known : Known) (entered : List ℕ) (e : entered ≡ []) → ((t : ℕ) → known t ≡ None) → IsSearch known entered (Enter root ∷ [])
  search-start known entered e none = record {
    under = (refl, tt);
    covered = inr refl;
    open_are = λ t among. absurd (none_contained t (subst (λ l. Contains l t) e among));
    stacks = λ t stack is. absurd (let no_stack = none t in cc);
  }

  pub search-skip : (known : Known) (entered : List ℕ) (entry : ℕ) (tasks : List Task) → IsSearch known entered (Enter entry ∷ tasks) → IsKnown known entry
      → IsSearch known entered tasks
  search-skip known entered entry tasks s is = record {
    under = s.under.1;
    covered = covered-more tasks (λ t. IsKnown known t ⊎ (t ≡ entry)) (IsKnown known)
        (λ t q. elim q [ inl k ↦ k | inr e ↦ subst (IsKnown known) (sym e) is ]) s.covered;
    open_are = s.open_are;
    stacks = s.stacks;
  }

  -- ---- a function is entered

  pushed-under : (cs : List ℕ) (tasks : List Task) (entry : ℕ) → below tasks ≡ Some entry → ((t : ℕ) → Contains cs t → CallsOut image entry t) → AllUnder tasks
      → AllUnder (pushed cs tasks)
  pushed-under [] tasks entry e out under = under
  pushed-under (c ∷ cs) tasks entry e out under =
      pushed-under cs (Enter c ∷ tasks) entry e (λ t among. out t (Contains-append_right (c ∷ []) cs t among))
      (subst (λ o. MatchOption o (c ≡ root) (λ caller. CallsOut image caller c)) (sym e) (out c (0, omega arith, refl)), under)

  pushed-covered : (cs : List ℕ) (tasks : List Task) (Q : ℕ → Type 0) → Covered (λ t. Q t ⊎ Contains cs t) tasks → Covered Q (pushed cs tasks)
  pushed-covered [] tasks Q c = covered-more tasks (λ t. Q t ⊎ Contains [] t) Q (λ t q. elim q [ inl x ↦ x | inr among ↦ absurd (none_contained t among) ]) c
  pushed-covered (x ∷ cs) tasks Q c =
      pushed-covered cs (Enter x ∷ tasks) Q
      (covered-more tasks (λ t. Q t ⊎ Contains (x ∷ cs) t) (λ t. (Q t ⊎ Contains cs t) ⊎ (t ≡ x)) (λ t q. elim q [ inl y ↦ inl (inl y) | inr among ↦ split t among ]) c)
    where
      split : (t : ℕ) → Contains (x ∷ cs) t → (Q t ⊎ Contains cs t) ⊎ (t ≡ x)
      split t among = elim (Contains-append_cases (x ∷ []) cs t among) [ inl first ↦ inr (only_contained x t first) | inr rest ↦ inl (inr rest) ]

  pushed-open : (cs : List ℕ) (tasks : List Task) (t : ℕ) → IsOpen tasks t → IsOpen (pushed cs tasks) t
  pushed-open [] tasks t o = o
  pushed-open (c ∷ cs) tasks t o = pushed-open cs (Enter c ∷ tasks) t o

  pub search-enter : (known : Known) (entered new : List ℕ) (entry : ℕ) (tasks : List Task) (calls : List ℕ) → IsSearch known entered (Enter entry ∷ tasks)
      → Grows (λ t. t ≡ entry) entered new → AreCalls image entry calls → IsSearch known new (pushed calls (Leave entry ∷ tasks))
  search-enter known entered new entry tasks calls s g are = record {
    under = pushed-under calls (Leave entry ∷ tasks) entry refl (λ t among. (are t).0 among) s.under;
    covered = pushed-covered calls (Leave entry ∷ tasks) (IsKnown known) (
      λ t out. inr ((are t).1 out),
      covered-more tasks (λ t. IsKnown known t ⊎ (t ≡ entry)) (λ t. (IsKnown known t ⊎ Contains calls t) ⊎ (t ≡ entry))
          (λ t q. elim q [ inl k ↦ inl (inl k) | inr e ↦ inr e ]) s.covered,
    );
    open_are = λ t among. elim (Contains-append_cases entered g.more t (subst (λ l. Contains l t) g.grown among)) [
      | inl old ↦ opened t (s.open_are t old)
      | inr added ↦ inr (pushed-open calls (Leave entry ∷ tasks) t (inl (g.only t added)))
    ];
    stacks = s.stacks;
  }
    where
      opened : (t : ℕ) → IsKnown known t ⊎ IsOpen tasks t → IsKnown known t ⊎ IsOpen (pushed calls (Leave entry ∷ tasks)) t
      opened t (inl k) = inl k
      opened t (inr o) = inr (pushed-open calls (Leave entry ∷ tasks) t (inr o))

  -- ---- a function is left

  total-stack : (known : Known) (entry total : ℕ) → IsTotal image entry known total
      → ((t : ℕ) → CallsOut image entry t → IsKnown known t) → ((t stack : ℕ) → known t ≡ Some stack → IsStack image t stack) → IsStack image entry total
  total-stack known entry total is all stacks =
      subst (IsStack image entry) (sym is.total_is)
      (deep entry is.size is.deepest is.places (known_or_zero known) is.size_is is.places_are
      (λ t on. stack-of t (all t (out t on)))
      (record { above = λ t on. is.greatest.above t (out t on); reached = greatest is.greatest.reached }))
    where
      out : (t : ℕ) → CallsOn image entry is.size t → CallsOut image entry t
      out t on = record { size = is.size; size_is = is.size_is; calls = on }

      stack-of : (t : ℕ) → IsKnown known t → IsStack image t (known_or_zero known t)
      stack-of t (stack, e) = subst (IsStack image t) (sym (ap (λ o. unwrap_or o 0) e)) (stacks t stack e)

      same_size : (other : ℕ) → size_at image entry ≡ Some other → other ≡ is.size
      same_size other e = let own = is.size_is in cc

      on : (t : ℕ) → CallsOut image entry t → CallsOn image entry is.size t
      on t c = subst (λ s. CallsOn image entry s t) (same_size c.size c.size_is) c.calls

      greatest : (is.deepest ≡ 0) ⊎ ((t : ℕ) × CallsOut image entry t × (known_or_zero known t ≡ is.deepest))
          → (is.deepest ≡ 0) ⊎ ((t : ℕ) × CallsOn image entry is.size t × (known_or_zero known t ≡ is.deepest))
      greatest (inl none) = inl none
      greatest (inr (t, c, e)) = inr (t, on t c, e)

  -- its stack is far below 2 ^ 64
  pub total-short : ReachesNoFault image root → (known : Known) (entered : List ℕ) (entry total : ℕ) (tasks : List Task) → IsSearch known entered (Leave entry ∷ tasks)
      → IsTotal image entry known total → total < 2 ^ 64
  total-short sound known entered entry total tasks s is =
      let reached = reached-task (Leave entry) tasks s.under in
      omega (
        arith,
        shallow image root sound entry total reached (total-stack known entry total is s.covered.0 s.stacks),
      )

  pub search-leave : (known new : Known) (entered : List ℕ) (entry total : ℕ) (tasks : List Task) → IsSearch known entered (Leave entry ∷ tasks)
      → IsTotal image entry known total → ((t : ℕ) → new t ≡ cond (nat_eq entry t) (Some total) (known t)) → IsSearch new entered tasks
  search-leave known new entered entry total tasks s is updates = record {
    under = s.under.1;
    covered = covered-more tasks (λ t. IsKnown known t ⊎ (t ≡ entry)) (IsKnown new) (λ t q. elim q [ inl k ↦ kept t k | inr e ↦ now t e ]) s.covered.1;
    open_are = λ t among. opened t (s.open_are t among);
    stacks = λ t stack e. each t stack e (nat_eq entry t) refl;
  }
    where
      kept-by : (t : ℕ) (b : Bool) → nat_eq entry t ≡ b → IsKnown known t → IsKnown new t
      kept-by t true e k = (total, updates t ∙ ap (λ b. cond b (Some total) (known t)) e)
      kept-by t false e (stack, k) = (stack, updates t ∙ (ap (λ b. cond b (Some total) (known t)) e ∙ k))

      kept : (t : ℕ) → IsKnown known t → IsKnown new t
      kept t k = kept-by t (nat_eq entry t) refl k

      now : (t : ℕ) → t ≡ entry → IsKnown new t
      now t e = (total, updates t ∙ ap (λ b. cond b (Some total) (known t)) (eq-eqb entry t (sym e)))

      opened : (t : ℕ) → IsKnown known t ⊎ ((t ≡ entry) ⊎ IsOpen tasks t) → IsKnown new t ⊎ IsOpen tasks t
      opened t (inl k) = inl (kept t k)
      opened t (inr (inl e)) = inl (now t e)
      opened t (inr (inr o)) = inr o

      each : (t stack : ℕ) → new t ≡ Some stack → (b : Bool) → nat_eq entry t ≡ b → IsStack image t stack
      each t stack e true b =
          let given = updates t ∙ ap (λ b. cond b (Some total) (known t)) b in
          let same : total ≡ stack = cc in
          subst (λ z. IsStack image z stack) (eqb-true entry t b)
          (subst (IsStack image entry) same (total-stack known entry total is s.covered.0 s.stacks))
      each t stack e false b = let given = updates t ∙ ap (λ b. cond b (Some total) (known t)) b in s.stacks t stack (sym given ∙ e)

  -- ---- a cycle, and the end

  record Onward (tasks : List Task) (t : ℕ) : Type 0 where
    last : ℕ
    last_is : below tasks ≡ Some last
    reached : Reaches image t last

  open-reaches : (tasks : List Task) (t : ℕ) → AllUnder tasks → IsOpen tasks t → Onward tasks t
  open-reaches [] t under o = absurd o
  open-reaches (Enter entry ∷ tasks) t under o = let on = open-reaches tasks t under.1 o in record { last = on.last; last_is = on.last_is; reached = on.reached }
  open-reaches (Leave entry ∷ tasks) t under (inl e) = record { last = entry; last_is = refl; reached = subst (λ z. Reaches image z entry) (sym e) itself }
  open-reaches (Leave entry ∷ tasks) t under (inr o) =
      let on = open-reaches tasks t under.1 o in
      let out = subst (λ o. MatchOption o (entry ≡ root) (λ caller. CallsOut image caller entry)) on.last_is under.0 in
      record { last = entry; last_is = refl; reached = further on.last out.size entry on.reached out.size_is out.calls }

  pub search-cycle : (known : Known) (entered : List ℕ) (t : ℕ) (tasks : List Task) → IsSearch known entered (Enter t ∷ tasks) → Contains entered t
      → (IsKnown known t → ⊥) → IsCyclic image root
  search-cycle known entered t tasks s among unknown = at (s.open_are t among)
    where
      at : IsKnown known t ⊎ IsOpen tasks t → IsCyclic image root
      at (inl k) = absurd (unknown k)
      at (inr o) =
          let first = reached-task (Enter t) tasks s.under in
          let on = open-reaches tasks t s.under.1 o in
          let out = subst (λ o. MatchOption o (t ≡ root) (λ caller. CallsOut image caller t)) on.last_is s.under.0 in
          record {
            other = t;
            reached = first;
            last = on.last;
            onward = on.reached;
            size = out.size;
            size_is = out.size_is;
            back = out.calls;
          }

  pub search-end : (known : Known) (entered : List ℕ) (o : Option ℕ) → IsSearch known entered [] → known root ≡ o → IsDepth image root o
  search-end known entered None s e = absurd (no_stack s.covered)
    where
      no_stack : IsKnown known root → ⊥
      no_stack (stack, k) = cc
  search-end known entered (Some stack) s e = s.stacks root stack e

-- ---- tasks as the program keeps them, the topmost last

pub popped : (old new : List Task) (task : Task) → old ≡ new ++ task ∷ [] → reverse old ≡ task ∷ reverse new
popped old new task e = ap reverse e ∙ reverse-append new (task ∷ [])

pushed-reverse : (xs : List Task) (cs : List ℕ) → reverse (xs ++ map Enter cs) ≡ pushed cs (reverse xs)
pushed-reverse xs [] = ap reverse (append-nil xs)
pushed-reverse xs (c ∷ cs) =
    ap reverse (sym (append_assoc xs (Enter c ∷ []) (map Enter cs))) ∙ (pushed-reverse (xs ++ Enter c ∷ []) cs ∙ ap (pushed cs) (reverse-append xs (Enter c ∷ [])))

pub entered-reverse : (old new : List Task) (entry : ℕ) (calls : List ℕ) → new ≡ (old ++ Leave entry ∷ []) ++ map Enter calls
    → reverse new ≡ pushed calls (Leave entry ∷ reverse old)
entered-reverse old new entry calls e =
    ap reverse e ∙ (pushed-reverse (old ++ Leave entry ∷ []) calls ∙ ap (pushed calls) (reverse-append old (Leave entry ∷ [])))

-- ---- what the tests of the program say

pub known-some : (o : Option ℕ) → is_some o ≡ true → (stack : ℕ) × (o ≡ Some stack)
known-some None e = absurd (cc)
known-some (Some stack) e = (stack, refl)

pub unknown : (o : Option ℕ) → is_some o ≡ false → (stack : ℕ) × (o ≡ Some stack) → ⊥
unknown o e (stack, is) = let some = ap is_some is in cc

pub fewer : (old new : List ℕ) (t : ℕ) → Grows (λ x. x ≡ t) old new → (Contains old t → ⊥) → length old < length new
fewer old new t g never = elim (Contains-append_cases old g.more t (subst (λ l. Contains l t) g.grown (g.all t refl))) [
  | inl before ↦ absurd (never before)
  | inr (k, below, here) ↦ omega (arith, ap length g.grown, length-append old g.more, below)
]

pub not-contained : (keys : List ℕ) (t : ℕ) → list_any (nat_eq t) keys ≡ false → Contains keys t → ⊥
not-contained keys t e (k, below, here) = let found = list_any_at (nat_eq t) keys k t below (eq-eqb t (get_or keys k t) (sym here)) in cc

pub smaller : (now later tasks before calls : ℕ) → now < later → now < 2 ^ 63 → calls < 2 ^ 64 → tasks ≡ before + calls
    → (2 ^ 63 - later) * 2 ^ 66 + tasks < (2 ^ 63 - now) * 2 ^ 66 + before
smaller now later tasks before calls more few room e = omega arith

pub length-entered : (image : Image) (entry : ℕ) (old new : List Task) (e : IsEntered image entry old new) → length new ≡ length old + 1 + length e.calls
length-entered image entry old new e =
    ap length e.tasks_are ∙ (length-append (old ++ Leave entry ∷ []) (map Enter e.calls) ∙ omega (arith, length-append old (Leave entry ∷ []), length-map e.calls Enter))
