-- The run of a statement's nodes goes where the statement does.
use Rattle.std.proofs.Common.{◌≡◌, ◌∙◌, ℕ, zero, suc, ◌<◌, ◌^◌, Bool, true, false, if◌then◌else◌, ℤ, pos, refl, sym, ap, subst, arith, List, [], ◌∷◌, Option, Some, None}
use Rattle.std.specs.Prelude.{Contains}
use Rattle.std.proofs.lemmas.List.Elements.{Contains-append_left, Contains-append_right}
use Rattle.memory_spec.specs.Zones.{Zone}
use Rattle.term_core_spec.specs.Term.{truth}
use Rattle.term_core_spec.specs.Value.{Number, Assignment, value}
use Rattle.graph_core_spec.specs.declared.Next.{Next}
use Rattle.graph_core_spec.specs.declared.Next.TheVariants.{Err as Error}
use Rattle.graph_core_spec.specs.Graph.{Graphs, Basic}
use Rattle.graph_core_spec.specs.Run.{Waiting, State, go, is_truth}
use Rattle.c_graph_laws.proofs.Evaluates.{truth_is}
use Rattle.c_graph_spec.specs.State.{width_of}
use Rattle.graph_core_spec.specs.TransitionSystem.{after}
use Rattle.c_types_spec.specs.declared.Scalar.{Scalar}
use Rattle.c_types_spec.specs.declared.TestPlace.TheVariants.{Before, After}
use Rattle.c_types_spec.specs.declared.Jump.TheVariants.{Break, Continue}
use Rattle.c_types_spec.specs.Values.{of_bits, same_value}
use Rattle.c_types_spec.specs.Core.{Core, Action, Call, Loop, Switch, Groups, no_groups, groups, Body, Typed}
use Rattle.c_types_spec.specs.HasType as typed
use Rattle.c_types_spec.specs.HasType.{IsTyped, AreTyped, HasType, HaveTypes, Receives, JumpsInside, GroupsInside, is_ended, scope_of}
use Rattle.c_run_spec.specs.Execution as c
use Rattle.c_run_spec.specs.declared.Guard.TheVariants as guards
use Rattle.c_run_spec.specs.Execution.{Flow, More, Broke, Went, Jumped, Gave, Calls, does, does_group, chosen_group, rounds, switched, while_true, round_of, then_do, continued, is_zero}
use Rattle.c_run_spec.specs.Evaluation as evaluation
use Rattle.pair_setup_spec.specs.SourceReach.{calls_in, calls_in_groups}
use Rattle.c_graph_laws.proofs.Extents.{IsPlain, HasExtents, ActionExtents, GroupExtents}
use Rattle.c_graph_spec.specs.Layout.{Setting, Exits, exits, value_in, truth_in}
use Rattle.c_graph_spec.specs.Guards.{Place}
use Rattle.c_graph_spec.specs.SourceGraph.{setting_of, graphs_of}
use Rattle.c_graph_laws.specs.Together.{Alike, IsPlace, setting_at, IsRunning, running}
use Rattle.c_graph_laws.proofs.Occurs.{Comes, Occurs, GroupsOccur, Selects, cases_at, default_at}
use Rattle.c_graph_laws.proofs.Steps.{empty, conditional, at_node}
use Rattle.c_graph_laws.proofs.Choosing.{target, no_target, chosen_is, selected, cases_tested, AsMany, LabelsAreOf}
use Rattle.c_graph_laws.proofs.Flows.{Follows, broke, went, jumped, later, followed, unjumped, unended, body_followed, rounds_followed, switch_followed}
use Rattle.c_graph_laws.proofs.Parts.{branched}
use Rattle.c_graph_laws.proofs.Statements.{evaluates, set_follows, unset_follows, store_follows, return_follows, case_tests}
use Rattle.c_graph_laws.proofs.ExpressionSorts.{type_is, plain_is}

many : (graphs : Graphs) (g : ℕ) (f : Setting) (list : Groups) (entries : List Next) (to continues : Next) → GroupsOccur graphs g f list entries to continues → AsMany list entries
many graphs g f no_groups entries to continues h = h
many graphs g f (groups labels body rest) [] to continues h = absurd h
many graphs g f (groups labels body rest) (first ∷ entries) to continues h = many graphs g f rest entries to continues h.1

labels_are : (unit : Typed) (body : Body) (type : Scalar) (list : Groups) → AreTyped (scope_of unit body) type list → LabelsAreOf type list
labels_are unit body _ _ (typed.last_group type) = tt
labels_are unit body _ _ (typed.one_group type values inner rest are t ts) = (are, labels_are unit body type rest ts)

module _ (unit : Typed) (p : Place) (placed : IsPlace p) (zone : Zone) (outermost g : ℕ) (body : Body) (below : List Waiting) (calls : Calls) (most : ℕ) (Good : List ℕ → Type 0) where
  abbrev graphs : Graphs
  graphs = graphs_of unit p

  abbrev f : Setting
  f = setting_of unit p body

  abbrev Flowing : (n : ℕ) (x : State) (to : Next) (e : Exits) (in_loop in_switch ended : Bool) → Flow → Type 0
  Flowing n x to e in_loop in_switch ended flow = Follows graphs outermost g body.locals zone body.signature.result below most n x to e in_loop in_switch ended flow

  abbrev does_it : Action → c.State → ℕ → Flow
  does_it a st n = does (setting_at unit p zone) calls body.locals most a st n

  abbrev has_value : Core → c.State → evaluation.Evaluated
  has_value x st = evaluation.value (setting_at unit p zone) st.locals st.memory 0 x

  -- what is shown of a statement
  abbrev pub Acts : Action → Type 0
  Acts a = (from to : Next) (e : Exits) (in_loop in_switch : Bool) → Occurs graphs g f a from to e → JumpsInside a in_loop in_switch
      → (st : c.State) (n : ℕ) (s : Assignment) → Alike body.locals st.locals st.memory zone s
      → Flowing n (go g from s below) to e in_loop in_switch (is_ended a) (does_it a st n)

  -- a node that binds nothing, and then a run
  after_empty : (n : ℕ) (from next to : Next) (e : Exits) (in_loop in_switch ended : Bool) (flow : Flow) (s : Assignment) → Comes graphs g from (Basic [] next)
      → Flowing n (go g next s below) to e in_loop in_switch ended flow → Flowing n (go g from s below) to e in_loop in_switch ended flow
  after_empty n from next to e in_loop in_switch ended flow s comes h =
      later graphs outermost g body.locals zone body.signature.result below most n most n 1 (go g from s below) (go g next s below) to e in_loop in_switch ended flow
      (empty graphs outermost g from next s below comes) (omega arith) (omega arith) h

  is_running : (from : Next) (node_next : Next) (s : Assignment) → Comes graphs g from (Basic [] node_next) → IsRunning (go g from s below)
  is_running from node_next s comes = subst IsRunning (sym (at_node graphs outermost g from (Basic [] node_next) s below comes)) (running g comes.number s below)

  -- ---- loops

  before_acts : (number : ℕ) (test : Core) (t : Scalar) (step inner : Action) → HasType (scope_of unit body) None test t → HasExtents test → Acts step → Acts inner → Acts (Loop number Before test step inner)
  unfolding does after
  before_acts number test t step inner has x step_acts inner_acts from to e l w h j st n s alike =
      rounds_followed graphs outermost g body.locals zone body.signature.result below most from h.0 to e l w
      (round_of Before (λ st. has_value test st) (λ st m. does_it step st m) (λ st m. does_it inner st m))
      (λ s. is_running from h.0 s h.5) (λ s. empty graphs outermost g from h.0 s below h.5) takes most (omega arith) st n s alike
    where
      inside : (st : c.State) (n : ℕ) (s : Assignment) → Alike body.locals st.locals st.memory zone s
          → Flowing n (go g h.2 s below) from (exits to e.continues) false true false (then_do (λ st m. does_it step st m) (continued (does_it inner st n)))
      inside st n s alike =
          after_empty n h.2 h.3 from (exits to e.continues) false true false _ s h.8
          (followed graphs outermost g body.locals zone body.signature.result below most n (go g h.3 s below) h.4 from (exits to e.continues) false true false false
          (λ st m. does_it step st m) (continued (does_it inner st n))
          (λ st left s alike. unended graphs outermost g body.locals zone body.signature.result below most left (go g h.4 s below) from (exits to e.continues) false true (is_ended step) (does_it step st left)
          (unjumped graphs outermost g body.locals zone body.signature.result below most left (go g h.4 s below) from (exits to e.continues) (exits to e.continues) false true (is_ended step) (does_it step st left)
          (step_acts h.4 from (exits to e.continues) false false h.10 j.0 st left s alike)))
          (body_followed graphs outermost g body.locals zone body.signature.result below most n (go g h.3 s below) h.4 to e.continues w (is_ended inner) (does_it inner st n)
          (inner_acts h.3 h.4 (exits to h.4) true w h.9 j.1 st n s alike)))

      takes : (st : c.State) (n : ℕ) (s : Assignment) → Alike body.locals st.locals st.memory zone s
          → Flowing n (go g h.0 s below) from (exits to e.continues) false true false
          (round_of Before (λ st. has_value test st) (λ st m. does_it step st m) (λ st m. does_it inner st m) st n)
      takes st n s alike =
          evaluates unit p placed zone outermost g body below most test t has x h.0 h.1 from (exits to e.continues) false true false _ h.6 st n s alike
          (λ v k small vi word tr.
          branched graphs outermost g body.locals zone body.signature.result below most n (truth_in f test) (same_value v (pos 0)) s h.1 h.2 to from (exits to e.continues) false true false
          (then_do (λ st m. does_it step st m) (continued (does_it inner st n))) (Jumped Break st n) h.7 tr
          (λ goes. inside st n s alike) (λ ends. jumped Break st n 0 s (omega arith) refl alike refl))

  after_acts : (number : ℕ) (test : Core) (t : Scalar) (step inner : Action) → HasType (scope_of unit body) None test t → HasExtents test → Acts inner → Acts (Loop number After test step inner)
  unfolding does after
  after_acts number test t step inner has x inner_acts from to e l w h j st n s alike =
      rounds_followed graphs outermost g body.locals zone body.signature.result below most from h.0 to e l w
      (round_of After (λ st. has_value test st) (λ st m. does_it step st m) (λ st m. does_it inner st m))
      (λ s. is_running from h.0 s h.4) (λ s. empty graphs outermost g from h.0 s below h.4) takes most (omega arith) st n s alike
    where
      tested : (st : c.State) (n : ℕ) (s : Assignment) → Alike body.locals st.locals st.memory zone s
          → Flowing n (go g h.1 s below) from (exits to e.continues) false true false (while_true (λ st. has_value test st) (λ st m. Went st m) st n)
      tested st n s alike =
          after_empty n h.1 h.2 from (exits to e.continues) false true false _ s h.6
          (evaluates unit p placed zone outermost g body below most test t has x h.2 h.3 from (exits to e.continues) false true false _ h.7 st n s alike
          (λ v k small vi word tr.
          branched graphs outermost g body.locals zone body.signature.result below most n (truth_in f test) (same_value v (pos 0)) s h.3 from to from (exits to e.continues) false true false
          (Went st n) (Jumped Break st n) h.8 tr
          (λ goes. went st n 0 s (omega arith) refl alike refl) (λ ends. jumped Break st n 0 s (omega arith) refl alike refl)))

      takes : (st : c.State) (n : ℕ) (s : Assignment) → Alike body.locals st.locals st.memory zone s
          → Flowing n (go g h.0 s below) from (exits to e.continues) false true false
          (round_of After (λ st. has_value test st) (λ st m. does_it step st m) (λ st m. does_it inner st m) st n)
      takes st n s alike =
          followed graphs outermost g body.locals zone body.signature.result below most n (go g h.0 s below) h.1 from (exits to e.continues) false true false false
          (λ st m. while_true (λ st. has_value test st) (λ st m. Went st m) st m) (continued (does_it inner st n))
          (λ st left s alike. tested st left s alike)
          (body_followed graphs outermost g body.locals zone body.signature.result below most n (go g h.0 s below) h.1 to e.continues w (is_ended inner) (does_it inner st n)
          (inner_acts h.0 h.1 (exits to h.1) true w h.5 j.1 st n s alike))

  -- ---- `switch`

  -- what is shown of groups
  abbrev GroupActs : Groups → Type 0
  GroupActs list = (entries : List Next) (to continues : Next) (in_loop : Bool) → GroupsOccur graphs g f list entries to continues → GroupsInside list in_loop → (taken : Option ℕ)
      → (st : c.State) (n : ℕ) (s : Assignment) → Alike body.locals st.locals st.memory zone s
      → Flowing n (go g (target taken entries to) s below) to (exits to continues) in_loop true false (does_group (setting_at unit p zone) calls body.locals most list taken st n)

  switch_acts : (test : Core) (t : Scalar) (list : Groups) → HasType (scope_of unit body) None test t → HasExtents test → AreTyped (scope_of unit body) t list → GroupActs list → Acts (Switch test list)
  unfolding does
  switch_acts test t list has x are group_acts from to e l w h j st n s alike =
      evaluates unit p placed zone outermost g body below most test t has x from h.0 to e l w false (λ v. switched (does_group (setting_at unit p zone) calls body.locals most list (chosen_group v list) st n)) h.2 st n s alike
      (λ v k small vi word tr. chosen v k small vi word)
    where
      chosen : (v : ℤ) (k : ℕ) → k < 2 ^ t.width → v ≡ of_bits t k → value s (value_in f test) ≡ Number (width_of t) k
          → Flowing n (go g h.0 s below) to e l w false (switched (does_group (setting_at unit p zone) calls body.locals most list (chosen_group v list) st n))
      chosen v k small vi word =
          let is = type_is (scope_of unit body) None test t has in
          let plain = subst IsPlain is (plain_is test x) in
          let selects = subst (λ (u : Scalar). Selects graphs g u (value_in f test) (cases_at list h.1) h.0 (default_at list h.1 to)) is h.3 in
          let ran = selected graphs outermost g t (value_in f test) v s below (cases_at list h.1) h.0 (default_at list h.1 to) selects
          (cases_tested s t (value_in f test) v (case_tests s t plain (value_in f test) v k small vi word) list h.1 (labels_are unit body t list are)) in
          let reached = ran.1 ∙ ap (λ (next : Next). go g next s below) (chosen_is v list h.1 to (many graphs g f list h.1 to e.continues h.4)) in
          switch_followed graphs outermost g body.locals zone body.signature.result below most n (go g h.0 s below) to e l w false _
          (later graphs outermost g body.locals zone body.signature.result below most n most n ran.0 (go g h.0 s below) (go g (target (chosen_group v list) h.1 to) s below) to (exits to e.continues) l true false _
          reached (omega arith) (omega arith) (group_acts h.1 to e.continues l h.4 j (chosen_group v list) st n s alike))

  module _ (call_acts : (number : ℕ) (function : List ℕ) (arguments : List Core) (result : Option ℕ) → IsTyped (scope_of unit body) (Call number function arguments result)
      → ActionExtents (Call number function arguments result) → Good function → Acts (Call number function arguments result)) where
    mutual
      unfolding does does_group calls_in calls_in_groups after

      pub acts : (a : Action) → IsTyped (scope_of unit body) a → ActionExtents a → ((function : List ℕ) → Contains (calls_in a) function → Good function) → Acts a
      acts _ typed.skip x good from to e l w h j st n s alike = went st n 0 s (omega arith) refl alike (ap (λ (next : Next). go g next s below) h)
      acts _ (typed.sequence a b ta tb) x good from to e l w h j st n s alike =
          followed graphs outermost g body.locals zone body.signature.result below most n (go g from s below) h.0 to e l w (is_ended a) (is_ended b) (λ st m. does_it b st m) (does_it a st n)
          (λ st left s alike. acts b tb x.1 (λ function there. good function (Contains-append_right (calls_in a) (calls_in b) function there)) h.0 to e l w h.2 j.1 st left s alike)
          (acts a ta x.0 (λ function there. good function (Contains-append_left (calls_in a) (calls_in b) function there)) from h.0 e l w h.1 j.0 st n s alike)
      acts _ (typed.evaluate v t tv) x good from to e l w h j st n s alike =
          evaluates unit p placed zone outermost g body below most v t tv x from to to e l w false (λ v. Went st n) h st n s alike
          (λ v k small vi word tr. went st n 0 s (omega arith) refl alike refl)
      acts _ (typed.set number v t is tv) x good from to e l w h j st n s alike = set_follows unit p placed zone outermost g body below most calls number v t is tv x from to e l w h st n s alike
      acts _ (typed.unset number t is) x good from to e l w h j st n s alike = unset_follows unit p placed zone outermost g body below most calls number t is from to e l w h st n s alike
      acts _ (typed.store t address displacement v offset ta tv) x good from to e l w h j st n s alike =
          store_follows unit p placed zone outermost g body below most calls t address displacement v offset ta tv x from to e l w h st n s alike
      acts _ (typed.call number function arguments result t named ts receives) x good from to e l w h j st n s alike =
          call_acts number function arguments result (typed.call number function arguments result t named ts receives) x (good function (0, omega arith, refl)) from to e l w h j st n s alike
      acts _ (typed.choice test t a b tt_ ta tb) x good from to e l w h j st n s alike =
          evaluates unit p placed zone outermost g body below most test t tt_ x.0 from h.0 to e l w false (λ v. if is_zero v then does_it b st n else does_it a st n) h.3 st n s alike
          (λ v k small vi word tr. branched graphs outermost g body.locals zone body.signature.result below most n (truth_in f test) (same_value v (pos 0)) s h.0 h.1 h.2 to e l w false
          (does_it a st n) (does_it b st n) h.4 tr
          (λ goes. unended graphs outermost g body.locals zone body.signature.result below most n (go g h.1 s below) to e l w (is_ended a) (does_it a st n)
          (acts a ta x.1 (λ function there. good function (Contains-append_left (calls_in a) (calls_in b) function there)) h.1 to e l w h.5 j.0 st n s alike))
          (λ ends. unended graphs outermost g body.locals zone body.signature.result below most n (go g h.2 s below) to e l w (is_ended b) (does_it b st n)
          (acts b tb x.2 (λ function there. good function (Contains-append_right (calls_in a) (calls_in b) function there)) h.2 to e l w h.6 j.1 st n s alike)))
      acts _ (typed.repeat number Before test t step inner tt_ ts ti) x good from to e l w h j st n s alike =
          before_acts number test t step inner tt_ x.0
          (λ from to e l w h j st n s alike. acts step ts x.1 (λ function there. good function (Contains-append_left (calls_in step) (calls_in inner) function there)) from to e l w h j st n s alike)
          (λ from to e l w h j st n s alike. acts inner ti x.2 (λ function there. good function (Contains-append_right (calls_in step) (calls_in inner) function there)) from to e l w h j st n s alike)
          from to e l w h j st n s alike
      acts _ (typed.repeat number After test t step inner tt_ ts ti) x good from to e l w h j st n s alike =
          after_acts number test t step inner tt_ x.0
          (λ from to e l w h j st n s alike. acts inner ti x.2 (λ function there. good function (Contains-append_right (calls_in step) (calls_in inner) function there)) from to e l w h j st n s alike)
          from to e l w h j st n s alike
      acts _ (typed.leave Break) x good from to e l w h j st n s alike = jumped Break st n 0 s (omega arith) j alike (ap (λ (next : Next). go g next s below) h)
      acts _ (typed.leave Continue) x good from to e l w h j st n s alike = jumped Continue st n 0 s (omega arith) j alike (ap (λ (next : Next). go g next s below) h)
      acts _ (typed.switch test t list tt_ ts) x good from to e l w h j st n s alike =
          switch_acts test t list tt_ x.0 ts
          (λ entries to continues l h j taken st n s alike. acts_in_group t list ts x.1 good entries to continues l h j taken st n s alike)
          from to e l w h j st n s alike
      acts _ (typed.give_back v given) x good from to e l w h j st n s alike = return_follows unit p placed zone outermost g body below most calls v given x from to e l w h st n s alike
      acts _ (typed.missing_return offset) x good from to e l w h j st n s alike =
          broke guards.MissingReturn offset 1 (conditional graphs outermost g from Error Error (truth false) false s below h (ap is_truth (truth_is s false)))

      acts_in_group : (type : Scalar) (list : Groups) → AreTyped (scope_of unit body) type list → GroupExtents list → ((function : List ℕ) → Contains (calls_in_groups list) function → Good function) → GroupActs list
      acts_in_group _ _ (typed.last_group type) x good entries to continues l h j taken st n s alike =
          went st n 0 s (omega arith) refl alike (ap (λ (next : Next). go g next s below) (ap (λ (list : List Next). target taken list to) h ∙ no_target taken to))
      acts_in_group _ _ (typed.one_group type values inner rest are ti ts) x good [] to continues l h j taken st n s alike = absurd h
      acts_in_group _ _ (typed.one_group type values inner rest are ti ts) x good (first ∷ entries) to continues l h j None st n s alike = went st n 0 s (omega arith) refl alike refl
      acts_in_group _ _ (typed.one_group type values inner rest are ti ts) x good (first ∷ entries) to continues l h j (Some zero) st n s alike =
          unended graphs outermost g body.locals zone body.signature.result below most n (go g first s below) to (exits to continues) l true (is_ended inner) (does_it inner st n)
          (acts inner ti x.0 (λ function there. good function (Contains-append_left (calls_in inner) (calls_in_groups rest) function there)) first to (exits to continues) l true h.0 j.0 st n s alike)
      acts_in_group _ _ (typed.one_group type values inner rest are ti ts) x good (first ∷ entries) to continues l h j (Some (suc i)) st n s alike =
          acts_in_group type rest ts x.1 (λ function there. good function (Contains-append_right (calls_in inner) (calls_in_groups rest) function there)) entries to continues l h.1 j.1 (Some i) st n s alike
