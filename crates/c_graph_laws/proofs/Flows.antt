-- Where the graphs' run goes as a statement ends, with at least as many steps as turns were taken.
use Rattle.std.proofs.Common.{◌≡◌, ◌∙◌, ℕ, zero, suc, ◌+◌, ◌≤◌, min, Bool, true, false, ◌||◌, ℤ, refl, sym, ap, subst, arith, List, Option}
use Rattle.std.specs.Prelude.{IsTrue}
use Rattle.memory_spec.specs.Memory.{Memory, byte_at}
use Rattle.memory_spec.specs.Zones.{Zone}
use Rattle.term_core_spec.specs.declared.Width.TheVariants.{W32}
use Rattle.term_core_spec.specs.Value.{Number, Bytes, Assignment, IsAssignment}
use Rattle.graph_core_spec.specs.declared.Next.{Next}
use Rattle.graph_core_spec.specs.Graph.{Graphs}
use Rattle.graph_core_spec.specs.Run.{Waiting, State, Failed, go, leave, system_of}
use Rattle.graph_core_spec.specs.TransitionSystem.{TransitionSystem, after}
use Rattle.graph_core_spec.proofs.Runs.{after-add}
use Rattle.c_types_spec.specs.declared.Scalar.{Scalar}
use Rattle.c_types_spec.specs.declared.Jump.{Jump}
use Rattle.c_types_spec.specs.declared.Jump.TheVariants.{Break, Continue}
use Rattle.c_run_spec.specs.declared.Guard.{Guard}
use Rattle.c_run_spec.specs.Execution as c
use Rattle.c_run_spec.specs.Execution.{Flow, More, Broke, Went, Jumped, Gave, then_do, again, continued, switched, rounds}
use Rattle.c_graph_spec.specs.State.{memory, zone_low, zone_high}
use Rattle.c_graph_spec.specs.Layout.{Exits, exits}
use Rattle.c_graph_laws.specs.Together.{Alike, Gives, IsRunning}

-- a jump is inside what it leaves
abbrev pub allowed : Jump → (in_loop in_switch : Bool) → Bool
allowed Break in_loop in_switch = in_loop || in_switch
allowed Continue in_loop in_switch = in_loop

abbrev pub exit_of : Exits → Jump → Next
exit_of e Break = e.breaks
exit_of e Continue = e.continues

-- what a function leaves; the zone is its caller's, too
pub record Left (returned : Option Scalar) (value : Option ℤ) (bytes : Memory) (zone : Zone) (s : Assignment) : Type 0 where
  pub gives : Gives s returned value
  pub sorted : IsAssignment s
  pub memory_is : s memory ≡ Bytes (byte_at bytes)
  pub low_is : s zone_low ≡ Number W32 zone.low
  pub high_is : s zone_high ≡ Number W32 zone.high

module _ (graphs : Graphs) (outermost g : ℕ) (types : List Scalar) (zone : Zone) (returned : Option Scalar) (below : List Waiting) where
  abbrev w : TransitionSystem State
  w = system_of graphs outermost

  -- from a state, with n turns and calls at most d deep
  pub data Follows (d n : ℕ) (x : State) (to : Next) (e : Exits) (in_loop in_switch ended : Bool) : Flow → Type 0 where
    more : (k : ℕ) → min d n ≤ k → IsRunning (after w k x) → Follows d n x to e in_loop in_switch ended More
    broke : (guard : Guard) (offset k : ℕ) → after w k x ≡ Failed → Follows d n x to e in_loop in_switch ended (Broke guard offset)
    went : (st : c.State) (left k : ℕ) (s : Assignment) → n ≤ k + left → ended ≡ false → Alike types st.locals st.memory zone s → after w k x ≡ go g to s below
        → Follows d n x to e in_loop in_switch ended (Went st left)
    jumped : (jump : Jump) (st : c.State) (left k : ℕ) (s : Assignment) → n ≤ k + left → IsTrue (allowed jump in_loop in_switch) → Alike types st.locals st.memory zone s
        → after w k x ≡ go g (exit_of e jump) s below → Follows d n x to e in_loop in_switch ended (Jumped jump st left)
    gave : (value : Option ℤ) (bytes : Memory) (left k : ℕ) (s : Assignment) → n ≤ k + left → Left returned value bytes zone s → after w k x ≡ leave s below
        → Follows d n x to e in_loop in_switch ended (Gave value bytes left)

  -- ---- after some steps

  further : (j k : ℕ) (x y z : State) → after w j x ≡ y → after w k y ≡ z → after w (j + k) x ≡ z
  further j k x y z e d = after-add w j k x ∙ ap (after w k) e ∙ d

  pub later : (d m c n j : ℕ) (x y : State) (to : Next) (e : Exits) (in_loop in_switch ended : Bool) (f : Flow) → after w j x ≡ y → n ≤ j + m → c ≤ j + d
      → Follows d m y to e in_loop in_switch ended f → Follows c n x to e in_loop in_switch ended f
  later d m c n j x y to e in_loop in_switch ended _ at turns deep (more k enough is) =
      more (j + k) (omega arith) (subst IsRunning (sym (further j k x y (after w k y) at refl)) is)
  later d m c n j x y to e in_loop in_switch ended _ at turns deep (broke guard offset k is) = broke guard offset (j + k) (further j k x y Failed at is)
  later d m c n j x y to e in_loop in_switch ended _ at turns deep (went st left k s enough not_ended alike is) =
      went st left (j + k) s (omega arith) not_ended alike (further j k x y (go g to s below) at is)
  later d m c n j x y to e in_loop in_switch ended _ at turns deep (jumped jump st left k s enough may alike is) =
      jumped jump st left (j + k) s (omega arith) may alike (further j k x y (go g (exit_of e jump) s below) at is)
  later d m c n j x y to e in_loop in_switch ended _ at turns deep (gave value bytes left k s enough ends is) =
      gave value bytes left (j + k) s (omega arith) ends (further j k x y (leave s below) at is)

  -- ---- one after the other

  pub followed : (d n : ℕ) (x : State) (middle to : Next) (e : Exits) (in_loop in_switch first_ended ended : Bool) (next : c.State → ℕ → Flow) (f : Flow)
      → ((st : c.State) (left : ℕ) (s : Assignment) → Alike types st.locals st.memory zone s → Follows d left (go g middle s below) to e in_loop in_switch ended (next st left))
      → Follows d n x middle e in_loop in_switch first_ended f → Follows d n x to e in_loop in_switch ended (then_do next f)
  followed d n x middle to e in_loop in_switch first_ended ended next _ on (more k enough is) = more k enough is
  followed d n x middle to e in_loop in_switch first_ended ended next _ on (broke guard offset k is) = broke guard offset k is
  followed d n x middle to e in_loop in_switch first_ended ended next _ on (went st left k s enough not_ended alike is) =
      later d left d n k x (go g middle s below) to e in_loop in_switch ended (next st left) is enough (omega arith) (on st left s alike)
  followed d n x middle to e in_loop in_switch first_ended ended next _ on (jumped jump st left k s enough may alike is) = jumped jump st left k s enough may alike is
  followed d n x middle to e in_loop in_switch first_ended ended next _ on (gave value bytes left k s enough ends is) = gave value bytes left k s enough ends is

  -- what doesn't jump may be anywhere
  pub unjumped : (d n : ℕ) (x : State) (to : Next) (e f : Exits) (in_loop in_switch ended : Bool) (flow : Flow) → Follows d n x to e false false ended flow
      → Follows d n x to f in_loop in_switch ended flow
  unjumped d n x to e f in_loop in_switch ended _ (more k enough is) = more k enough is
  unjumped d n x to e f in_loop in_switch ended _ (broke guard offset k is) = broke guard offset k is
  unjumped d n x to e f in_loop in_switch ended _ (went st left k s enough not_ended alike is) = went st left k s enough not_ended alike is
  unjumped d n x to e f in_loop in_switch ended _ (jumped Break st left k s enough may alike is) = absurd (cc)
  unjumped d n x to e f in_loop in_switch ended _ (jumped Continue st left k s enough may alike is) = absurd (cc)
  unjumped d n x to e f in_loop in_switch ended _ (gave value bytes left k s enough ends is) = gave value bytes left k s enough ends is

  pub unended : (d n : ℕ) (x : State) (to : Next) (e : Exits) (in_loop in_switch ended : Bool) (flow : Flow) → Follows d n x to e in_loop in_switch ended flow
      → Follows d n x to e in_loop in_switch false flow
  unended d n x to e in_loop in_switch ended _ (more k enough is) = more k enough is
  unended d n x to e in_loop in_switch ended _ (broke guard offset k is) = broke guard offset k is
  unended d n x to e in_loop in_switch ended _ (went st left k s enough not_ended alike is) = went st left k s enough refl alike is
  unended d n x to e in_loop in_switch ended _ (jumped jump st left k s enough may alike is) = jumped jump st left k s enough may alike is
  unended d n x to e in_loop in_switch ended _ (gave value bytes left k s enough ends is) = gave value bytes left k s enough ends is

  -- ---- loops

  -- `continue` goes to the end of the body
  pub body_followed : (d n : ℕ) (x : State) (next to outer : Next) (in_switch ended : Bool) (f : Flow) → Follows d n x next (exits to next) true in_switch ended f
      → Follows d n x next (exits to outer) false true false (continued f)
  body_followed d n x next to outer in_switch ended _ (more k enough is) = more k enough is
  body_followed d n x next to outer in_switch ended _ (broke guard offset k is) = broke guard offset k is
  body_followed d n x next to outer in_switch ended _ (went st left k s enough not_ended alike is) = went st left k s enough refl alike is
  body_followed d n x next to outer in_switch ended _ (jumped Break st left k s enough may alike is) = jumped Break st left k s enough refl alike is
  body_followed d n x next to outer in_switch ended _ (jumped Continue st left k s enough may alike is) = went st left k s enough refl alike is
  body_followed d n x next to outer in_switch ended _ (gave value bytes left k s enough ends is) = gave value bytes left k s enough ends is

  -- a round, and those after it
  round_followed : (d most n : ℕ) (x y : State) (head to : Next) (e : Exits) (in_loop in_switch : Bool) (next : c.State → ℕ → Flow) (f : Flow) → d ≤ most
      → after w 1 x ≡ y
      → ((st : c.State) (left : ℕ) (s : Assignment) → Alike types st.locals st.memory zone s → Follows d left (go g head s below) to e in_loop in_switch false (next st left))
      → Follows most n y head (exits to e.continues) false true false f → Follows (suc d) (suc n) x to e in_loop in_switch false (again next f)
  round_followed d most n x y head to e in_loop in_switch next _ deep at on (more k enough is) =
      more (1 + k) (omega arith) (subst IsRunning (sym (further 1 k x y (after w k y) at refl)) is)
  round_followed d most n x y head to e in_loop in_switch next _ deep at on (broke guard offset k is) = broke guard offset (1 + k) (further 1 k x y Failed at is)
  round_followed d most n x y head to e in_loop in_switch next _ deep at on (went st left k s enough not_ended alike is) =
      later d left (suc d) (suc n) (1 + k) x (go g head s below) to e in_loop in_switch false (next st left) (further 1 k x y (go g head s below) at is) (omega arith) (omega arith)
      (on st left s alike)
  round_followed d most n x y head to e in_loop in_switch next _ deep at on (jumped Break st left k s enough may alike is) =
      went st left (1 + k) s (omega arith) refl alike (further 1 k x y (go g to s below) at is)
  round_followed d most n x y head to e in_loop in_switch next _ deep at on (jumped Continue st left k s enough may alike is) = absurd (cc)
  round_followed d most n x y head to e in_loop in_switch next _ deep at on (gave value bytes left k s enough ends is) =
      gave value bytes left (1 + k) s (omega arith) ends (further 1 k x y (leave s below) at is)

  pub rounds_followed : (most : ℕ) (head begin to : Next) (e : Exits) (in_loop in_switch : Bool) (round : c.State → ℕ → Flow)
      → ((s : Assignment) → IsRunning (go g head s below)) → ((s : Assignment) → after w 1 (go g head s below) ≡ go g begin s below)
      → ((st : c.State) (n : ℕ) (s : Assignment) → Alike types st.locals st.memory zone s
      → Follows most n (go g begin s below) head (exits to e.continues) false true false (round st n))
      → (d : ℕ) → d ≤ most → (st : c.State) (n : ℕ) (s : Assignment) → Alike types st.locals st.memory zone s
      → Follows d n (go g head s below) to e in_loop in_switch false (rounds round d st n)
  unfolding rounds after
  rounds_followed most head begin to e in_loop in_switch round runs steps takes zero deep st n s alike = more 0 (omega arith) (runs s)
  rounds_followed most head begin to e in_loop in_switch round runs steps takes (suc d) deep st zero s alike = more 0 (omega arith) (runs s)
  rounds_followed most head begin to e in_loop in_switch round runs steps takes (suc d) deep st (suc n) s alike =
      round_followed d most n (go g head s below) (go g begin s below) head to e in_loop in_switch (rounds round d) (round st n) (omega arith) (steps s)
      (λ st left s alike. rounds_followed most head begin to e in_loop in_switch round runs steps takes d (omega arith) st left s alike)
      (takes st n s alike)

  -- ---- `switch`

  -- `break` goes to its end
  pub switch_followed : (d n : ℕ) (x : State) (to : Next) (e : Exits) (in_loop in_switch ended : Bool) (f : Flow) → Follows d n x to (exits to e.continues) in_loop true ended f
      → Follows d n x to e in_loop in_switch false (switched f)
  switch_followed d n x to e in_loop in_switch ended _ (more k enough is) = more k enough is
  switch_followed d n x to e in_loop in_switch ended _ (broke guard offset k is) = broke guard offset k is
  switch_followed d n x to e in_loop in_switch ended _ (went st left k s enough not_ended alike is) = went st left k s enough refl alike is
  switch_followed d n x to e in_loop in_switch ended _ (jumped Break st left k s enough may alike is) = went st left k s enough refl alike is
  switch_followed d n x to e in_loop in_switch ended _ (jumped Continue st left k s enough may alike is) = jumped Continue st left k s enough may alike is
  switch_followed d n x to e in_loop in_switch ended _ (gave value bytes left k s enough ends is) = gave value bytes left k s enough ends is
