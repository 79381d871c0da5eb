-- Sequences of statements: their types, their jumps, and the numbers of their loops and calls.
use Rattle.std.proofs.Common.{◌≡◌, ℕ, zero, suc, ◌+◌, ℤ, Bool, true, List, [], ◌∷◌, ◌++◌, length, Option, Some, slice_get, arith, refl, sym, ap, ap₂, subst, ◌∙◌, append_assoc, append-nil}
use Rattle.std.proofs.lemmas.Option.{none-some, same_Some}
use Rattle.c_types_spec.specs.declared.Scalar.{Scalar}
use Rattle.c_types_spec.specs.Types.{scalar_of}
use Rattle.c_types_spec.specs.Core.{Action, Sequence, Groups, no_groups, groups, sequence}
use Rattle.c_types_spec.specs.Statements.{Context, groups_in}
use Rattle.c_types_spec.specs.HasType.{Scope, IsTyped, AreTyped, AreOf, JumpsInside, GroupsInside, loop_numbers, group_loops, call_numbers, group_calls, Numbers, no_numbers, one_number}
use Rattle.c_types_spec.specs.HasType as typing
use Rattle.c_types_laws.proofs.Types.{Small}

pub numbers_append : (a b c : ℕ) (xs ys : List ℕ) → Numbers a b xs → Numbers b c ys → Numbers a c (xs ++ ys)
numbers_append a b c xs ys (no_numbers n) k = k
numbers_append a b c xs ys (one_number n end rest h) k = one_number n c (rest ++ ys) (numbers_append (suc n) b c rest ys h k)

numbers-place : (a b : ℕ) (list : List ℕ) → Numbers a b list → (i n : ℕ) → slice_get list i ≡ Some n → n ≡ a + i
numbers-place a b list (no_numbers m) i n e = absurd (none-some n e)
numbers-place a b list (one_number m end rest h) zero n e = let is : m ≡ n = same_Some m n e in omega arith
numbers-place a b list (one_number m end rest h) (suc i) n e = let is = numbers-place (suc m) b rest h i n e in omega arith

numbers-length : (a b : ℕ) (list : List ℕ) → Numbers a b list → a + length list ≡ b
numbers-length a b list (no_numbers m) = omega arith
numbers-length a b list (one_number m end rest h) = let is = numbers-length (suc m) b rest h in omega arith

pub numbers-order : (a b : ℕ) (list : List ℕ) → Numbers a b list → (a + length list ≡ b) × ((i n : ℕ) → slice_get list i ≡ Some n → n ≡ a + i)
numbers-order a b list h = (numbers-length a b list h, numbers-place a b list h)

loops-sequence : (done : List Action) (a : Action) → loop_numbers (sequence (done ++ a ∷ [])) ≡ loop_numbers (sequence done) ++ loop_numbers a
loops-sequence [] a = refl
loops-sequence (x ∷ []) a = refl
loops-sequence (x ∷ y ∷ rest) a = ap (λ t. loop_numbers x ++ t) (loops-sequence (y ∷ rest) a) ∙ sym (append_assoc (loop_numbers x) (loop_numbers (sequence (y ∷ rest))) (loop_numbers a))

calls-sequence : (done : List Action) (a : Action) → call_numbers (sequence (done ++ a ∷ [])) ≡ call_numbers (sequence done) ++ call_numbers a
calls-sequence [] a = refl
calls-sequence (x ∷ []) a = refl
calls-sequence (x ∷ y ∷ rest) a = ap (λ t. call_numbers x ++ t) (calls-sequence (y ∷ rest) a) ∙ sym (append_assoc (call_numbers x) (call_numbers (sequence (y ∷ rest))) (call_numbers a))

jumps-sequence : (done : List Action) (a : Action) (in_loop : Bool) (in_switch : Bool) → JumpsInside (sequence done) in_loop in_switch → JumpsInside a in_loop in_switch → JumpsInside (sequence (done ++ a ∷ [])) in_loop in_switch
jumps-sequence [] a in_loop in_switch h k = k
jumps-sequence (x ∷ []) a in_loop in_switch h k = (h, k)
jumps-sequence (x ∷ y ∷ rest) a in_loop in_switch h k = (h.0, jumps-sequence (y ∷ rest) a in_loop in_switch h.1 k)

sequence-parts : (scope : Scope) (first second : Action) → IsTyped scope (Sequence first second) → IsTyped scope first × IsTyped scope second
sequence-parts scope first second (typing.sequence f s h k) = (h, k)

typed-sequence : (scope : Scope) (done : List Action) (a : Action) → IsTyped scope (sequence done) → IsTyped scope a → IsTyped scope (sequence (done ++ a ∷ []))
typed-sequence scope [] a h k = k
typed-sequence scope (x ∷ []) a h k = typing.sequence x a h k
typed-sequence scope (x ∷ y ∷ rest) a h k =
    let parts = sequence-parts scope x (sequence (y ∷ rest)) h in
    typing.sequence x _ parts.0 (typed-sequence scope (y ∷ rest) a parts.1 k)

-- ---- what is shown of a statement

-- it has no loops, calls or jumps
abbrev pub Quiet : Action → Type 0
Quiet a = (loop_numbers a ≡ []) × (call_numbers a ≡ []) × ((in_loop : Bool) (in_switch : Bool) → JumpsInside a in_loop in_switch)

-- a typed statement with jumps at allowed places, whose loops have the numbers from `a` to below `b`, and its calls those
-- from `c` to below `d`
pub record Runs (places : Action → Type 0) (scope : Scope) (a b c d : ℕ) (action : Action) : Type 0 where
  pub typed : IsTyped scope action
  pub jumps : places action
  pub loops_run : Numbers a b (loop_numbers action)
  pub calls_run : Numbers c d (call_numbers action)

-- jumps where the context allows them; or neither jumps nor loops
abbrev pub Placed : Context → Action → Type 0
Placed context action = JumpsInside action context.in_loop context.in_switch

abbrev pub Still : Action → Type 0
Still action = (loop_numbers action ≡ []) × ((in_loop : Bool) (in_switch : Bool) → JumpsInside action in_loop in_switch)

abbrev pub Good : Context → Scope → (a b c d : ℕ) → Action → Type 0
Good context scope a b c d action = Runs (Placed context) scope a b c d action

abbrev pub Calm : Scope → (a b c d : ℕ) → Action → Type 0
Calm scope a b c d action = Runs Still scope a b c d action

-- what holds of a sequence, and of what is still
pub record Allows (places : Action → Type 0) : Type 0 where
  pub joins : (done : List Action) (action : Action) → places (sequence done) → places action → places (sequence (done ++ action ∷ []))
  pub stills : (action : Action) → Still action → places action

pub allows_placed : (context : Context) → Allows (Placed context)
allows_placed context = record { joins = λ done action h k. jumps-sequence done action context.in_loop context.in_switch h k; stills = λ action h. h.1 context.in_loop context.in_switch }

pub allows_still : Allows Still
allows_still = record {
  joins = λ done action h k. (loops-sequence done action ∙ ap₂ ◌++◌ h.0 k.0, λ in_loop in_switch. jumps-sequence done action in_loop in_switch (h.1 in_loop in_switch) (k.1 in_loop in_switch));
  stills = λ action h. h;
}

pub calm_runs : (places : Action → Type 0) (allows : Allows places) (scope : Scope) (a b c d : ℕ) (action : Action) → Calm scope a b c d action → Runs places scope a b c d action
calm_runs places allows scope a b c d action h = record { typed = h.typed; jumps = allows.stills action h.jumps; loops_run = h.loops_run; calls_run = h.calls_run }

pub calm_good : (context : Context) (scope : Scope) (a b c d : ℕ) (action : Action) → Calm scope a b c d action → Good context scope a b c d action
calm_good context scope a b c d action h = calm_runs (Placed context) (allows_placed context) scope a b c d action h

-- the scope of the function that the statement is in
abbrev pub Returns : Context → Scope → Type 0
Returns context scope = (scope.returned ≡ scalar_of context.returned) × Small context.returned

-- so many loops and calls before
abbrev pub Start : Context → (a c : ℕ) → Scope → (b d : ℕ) → Type 0
Start context a c scope b d = (a ≡ b) × (c ≡ d) × Returns context scope

pub calm_quiet : (context : Context) (scope : Scope) (a b c d : ℕ) (action : Action) → Start context a c scope b d → IsTyped scope action → Quiet action → Calm scope a b c d action
calm_quiet context scope a b c d action start typed quiet = record {
  typed = typed;
  jumps = (quiet.0, quiet.2);
  loops_run = subst (λ list. Numbers a b list) (sym quiet.0) (subst (λ n. Numbers a n []) start.0 (no_numbers a));
  calls_run = subst (λ list. Numbers c d list) (sym quiet.1) (subst (λ n. Numbers c n []) start.1 (no_numbers c));
}

-- from where the numbers began
pub good_from : (context : Context) (scope : Scope) (a b c d m n : ℕ) (action : Action) → a ≡ m → c ≡ n → Good context scope m b n d action → Good context scope a b c d action
good_from context scope a b c d m n action e f h = record {
  typed = h.typed;
  jumps = h.jumps;
  loops_run = subst (λ k. Numbers k b (loop_numbers action)) (sym e) h.loops_run;
  calls_run = subst (λ k. Numbers k d (call_numbers action)) (sym f) h.calls_run;
}

-- one more statement after those so far
pub runs_more : (places : Action → Type 0) (allows : Allows places) (scope : Scope) (a b c d m n : ℕ) (done : List Action) (action : Action) → Runs places scope a m c n (sequence done) → Runs places scope m b n d action
    → Runs places scope a b c d (sequence (done ++ action ∷ []))
runs_more places allows scope a b c d m n done action h k = record {
  typed = typed-sequence scope done action h.typed k.typed;
  jumps = allows.joins done action h.jumps k.jumps;
  loops_run = subst (λ list. Numbers a b list) (sym (loops-sequence done action)) (numbers_append a m b (loop_numbers (sequence done)) (loop_numbers action) h.loops_run k.loops_run);
  calls_run = subst (λ list. Numbers c d list) (sym (calls-sequence done action)) (numbers_append c n d (call_numbers (sequence done)) (call_numbers action) h.calls_run k.calls_run);
}

pub good_sequence : (context : Context) (scope : Scope) (a b c d m n : ℕ) (first second : Action) → Good context scope a m c n first → Good context scope m b n d second → Good context scope a b c d (Sequence first second)
good_sequence context scope a b c d m n first second h k = record {
  typed = typing.sequence first second h.typed k.typed;
  jumps = (h.jumps, k.jumps);
  loops_run = numbers_append a m b (loop_numbers first) (loop_numbers second) h.loops_run k.loops_run;
  calls_run = numbers_append c n d (call_numbers first) (call_numbers second) h.calls_run k.calls_run;
}

-- ---- the groups of a `switch`

-- as of a statement
pub record GoodGroups (context : Context) (scope : Scope) (type : Scalar) (a b c d : ℕ) (list : Groups) : Type 0 where
  pub typed : AreTyped scope type list
  pub jumps : GroupsInside list context.in_loop
  pub loops_run : Numbers a b (group_loops list)
  pub calls_run : Numbers c d (group_calls list)

abbrev Group : Type 0
Group = List (Option ℤ) × Action

loops-groups : (done : List Group) (g : Group) → group_loops (groups_in (done ++ g ∷ [])) ≡ group_loops (groups_in done) ++ loop_numbers g.1
loops-groups [] g = append-nil (loop_numbers g.1)
loops-groups (x ∷ rest) g = ap (λ t. loop_numbers x.1 ++ t) (loops-groups rest g) ∙ sym (append_assoc (loop_numbers x.1) (group_loops (groups_in rest)) (loop_numbers g.1))

calls-groups : (done : List Group) (g : Group) → group_calls (groups_in (done ++ g ∷ [])) ≡ group_calls (groups_in done) ++ call_numbers g.1
calls-groups [] g = append-nil (call_numbers g.1)
calls-groups (x ∷ rest) g = ap (λ t. call_numbers x.1 ++ t) (calls-groups rest g) ∙ sym (append_assoc (call_numbers x.1) (group_calls (groups_in rest)) (call_numbers g.1))

jumps-groups : (done : List Group) (g : Group) (in_loop : Bool) → GroupsInside (groups_in done) in_loop → JumpsInside g.1 in_loop true → GroupsInside (groups_in (done ++ g ∷ [])) in_loop
jumps-groups [] g in_loop h k = (k, tt)
jumps-groups (x ∷ rest) g in_loop h k = (h.0, jumps-groups rest g in_loop h.1 k)

groups-parts : (scope : Scope) (type : Scalar) (values : List (Option ℤ)) (body : Action) (rest : Groups) → AreTyped scope type (groups values body rest) → AreOf type values × IsTyped scope body × AreTyped scope type rest
groups-parts scope type values body rest (typing.one_group t v b r h k l) = (h, k, l)

typed-groups : (scope : Scope) (type : Scalar) (done : List Group) (g : Group) → AreTyped scope type (groups_in done) → AreOf type g.0 → IsTyped scope g.1 → AreTyped scope type (groups_in (done ++ g ∷ []))
typed-groups scope type [] g h k l = typing.one_group type g.0 g.1 no_groups k l (typing.last_group type)
typed-groups scope type (x ∷ rest) g h k l =
    let parts = groups-parts scope type x.0 x.1 (groups_in rest) h in
    typing.one_group type x.0 x.1 _ parts.0 parts.1 (typed-groups scope type rest g parts.2 k l)

pub good_group : (context : Context) (scope : Scope) (type : Scalar) (a b c d m n : ℕ) (done : List (List (Option ℤ) × Action)) (values : List (Option ℤ)) (body : Action)
    → GoodGroups context scope type a m c n (groups_in done) → AreOf type values → context.in_switch ≡ true → Good context scope m b n d body
    → GoodGroups context scope type a b c d (groups_in (done ++ (values, body) ∷ []))
good_group context scope type a b c d m n done values body h are inside k = record {
  typed = typed-groups scope type done (values, body) h.typed are k.typed;
  jumps = jumps-groups done (values, body) context.in_loop h.jumps (subst (λ s. JumpsInside body context.in_loop s) inside k.jumps);
  loops_run = subst (λ list. Numbers a b list) (sym (loops-groups done (values, body))) (numbers_append a m b (group_loops (groups_in done)) (loop_numbers body) h.loops_run k.loops_run);
  calls_run = subst (λ list. Numbers c d list) (sym (calls-groups done (values, body))) (numbers_append c n d (group_calls (groups_in done)) (call_numbers body) h.calls_run k.calls_run);
}
