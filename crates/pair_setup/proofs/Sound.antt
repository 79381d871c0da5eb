-- What is reached from listed functions has a graph: it has no fault, and all that it calls is reached.
use Rattle.std.proofs.Common.{◌≡◌, ◌⊎◌, ◌∙◌, ℕ, ◌+◌, ◌-◌, ◌%◌, ◌==◌, ◌&&◌, not, Bool, true, false, List, All, get_or, Some, None, refl, sym, ap₂, subst, inl, inr, arith}
use Rattle.std.specs.Prelude.{Contains, IsPermutation, IsSome, nat_le, nat_lt, if◌then◌else◌}
use Rattle.std.proofs.lemmas.Bool.{le-leb, lt-ltb}
use Rattle.std.proofs.lemmas.List.Elements.{All-contains, Contains-get_or}
use Rattle.std.proofs.lemmas.List.Sorted.{All-permutation, Contains-permutation}
use Rattle.elf_read_spec.specs.Image.{Image, size_at}
use Rattle.elf_read_spec.specs.declared.SymbolValues.TheVariants.{One}
use Rattle.code_reach_spec.specs.Code.{CallsOn, Flow, Falls, Branches, Jumps, Calls, Links, Returns, Switches, Stops, InRange, IsReachable, call, tail, further, flow_at}
use Rattle.code_reach_spec.specs.Faults.{HasNoFault, ReachesNoFault}
use Rattle.code_reach_spec.proofs.First.{each_without}
use Rattle.decompile_spec.specs.Blocks.{callee_of, leaves_range}
use Rattle.decompile_spec.specs.CodeGraph.{IsCall}
use Rattle.decompile_laws.proofs.Reached.{calls_function, jumps_inside}
use Rattle.decompile.specs.Errors.{IsGraphError}
use Rattle.attempt.specs.declared.refusal.Refusal.{Refusal}
use Rattle.attempt.specs.declared.refusal.Refusal.TheVariants.{Fault, NoMemory}
use Rattle.decompile.specs.declared.error.GraphFault.{GraphFault}
use Rattle.decompile.specs.declared.error.GraphFault.TheVariants.{Code, Unlisted, Large}
use Rattle.c_types_spec.specs.Core.{Typed}
use Rattle.pair_setup_spec.specs.Code.{IsSoundCode}
use Rattle.pair_setup_spec.specs.Outcome.{IsReached}
use Rattle.pair_setup.specs.Answers.{AreChecked}
use Rattle.pair_setup.specs.Graphs.{IsSound}
use Rattle.pair_setup.specs.declared.outcome.Function.{Function}
use Rattle.pair_setup.proofs.Outcomes.{entry-sized}

-- ---- a call

never : (b : Bool) → (b && false) ≡ false
never true = refl
never false = refl

stays : (entry size target : ℕ) → InRange entry size target → leaves_range entry size target ≡ false
stays entry size target inside =
    let from : nat_le entry target ≡ true = le-leb entry target inside.from in
    let below : nat_lt target (entry + size) ≡ true = lt-ltb target (entry + size) inside.below in
    ap₂ (λ (a b : Bool). (target % 4 == 0) && not (a && b)) from below ∙ never (target % 4 == 0)

chosen : (b : Bool) (target callee : ℕ) → (if b then Some target else None) ≡ Some callee → target ≡ callee
chosen true target callee e = cc
chosen false target callee e = absurd (cc)

not_chosen : (b : Bool) (target callee : ℕ) → b ≡ false → (if b then Some target else None) ≡ Some callee → ⊥
not_chosen true target callee off e = absurd (cc)
not_chosen false target callee off e = cc

module _ (image : Image) (entry size : ℕ) (sound : HasNoFault image entry size) (address callee : ℕ) (reached : IsReachable image entry size address) where
  by_jump : (target : ℕ) → flow_at image entry address ≡ Some (Jumps target) → InRange entry size target ⊎ ((InRange entry size target → ⊥) × IsSome (size_at image target))
      → (if leaves_range entry size target then Some target else None) ≡ Some callee → CallsOn image entry size callee
  by_jump target is (inl inside) c = absurd (not_chosen (leaves_range entry size target) target callee (stays entry size target inside) c)
  by_jump target is (inr out) c =
      subst (λ (t : ℕ). CallsOn image entry size t) (chosen (leaves_range entry size target) target callee c) (tail address target reached is out.0 out.1)

  by_flow : (flow : Flow) → flow_at image entry address ≡ Some flow → callee_of entry size flow ≡ Some callee → CallsOn image entry size callee
  unfolding callee_of
  by_flow (Calls target) is c =
      subst (λ (t : ℕ). CallsOn image entry size t) (chosen (target % 4 == 0) target callee c)
      (call address target reached is (calls_function image entry size address sound reached target is))
  by_flow (Jumps target) is c = by_jump target is (jumps_inside image entry size address sound reached target is) c
  by_flow Falls is c = absurd (cc)
  by_flow (Branches target) is c = absurd (cc)
  by_flow (Links target) is c = absurd (cc)
  by_flow Returns is c = absurd (cc)
  by_flow (Switches jump) is c = absurd (cc)
  by_flow Stops is c = absurd (cc)

called_on : (image : Image) (entry size : ℕ) → HasNoFault image entry size → (address callee : ℕ) → IsCall image entry size address callee
    → CallsOn image entry size callee
called_on image entry size sound address callee is = by_flow image entry size sound address callee is.reached is.flow is.flow_is is.calls

-- ---- the entries of a list without faults

module _ (image : Image) (unit : Typed) (names list : List (List ℕ)) (functions : List Function) (numbers entries : List ℕ)
    (c : AreChecked image unit names list functions numbers entries) where
  sound_reached : (entry : ℕ) → IsReached image list entry → IsSound image entries entry
  sound_reached entry is = record {
    sized = entry-sized image list entry is;
    no_fault = no_fault;
    closed = closed;
  }
    where
      code_sound : ReachesNoFault image is.from
      code_sound =
          let code = All-contains (IsSoundCode image) list is.listed c.code_is is.is_listed in
          let same : code.0 ≡ is.from = (let both : One code.0 ≡ One is.from = sym code.1.named ∙ is.from_is in cc) in
          subst (λ (e : ℕ). ReachesNoFault image e) same code.1.sound

      no_fault : (size : ℕ) → size_at image entry ≡ Some size → HasNoFault image entry size
      no_fault size size_is = each_without image is.from entry size code_sound is.reached size_is

      closed : (size address callee : ℕ) → size_at image entry ≡ Some size → IsCall image entry size address callee → Contains entries callee
      closed size address callee size_is calls =
          (c.entries_are callee).1 (record {
            listed = is.listed;
            is_listed = is.is_listed;
            from = is.from;
            from_is = is.from_is;
            reached = further entry size callee is.reached size_is (called_on image entry size (no_fault size size_is) address callee calls);
          })

  pub sound_entries : All (IsSound image entries) entries
  sound_entries k d h = sound_reached (get_or entries k d) ((c.entries_are (get_or entries k d)).0 (Contains-get_or entries k d h))

-- of the same entries in another order
pub sound_moved : (image : Image) (old new : List ℕ) → IsPermutation old new → All (IsSound image old) old → All (IsSound image new) new
sound_moved image old new moved all = All-permutation (IsSound image new) old new moved (λ k d h.
    let sound = all k d h in
    record {
      sized = sound.sized;
      no_fault = sound.no_fault;
      closed = λ size address callee size_is calls. Contains-permutation old new callee moved (sound.closed size address callee size_is calls);
    })

-- ---- what decompilation answers

-- its graph is too large, or it lacks memory
abbrev pub IsOfSound : Refusal GraphFault → Type 0
IsOfSound (Fault (Code fault)) = ⊥
IsOfSound (Fault (Unlisted address callee)) = ⊥
IsOfSound (Fault (Large count)) = Unit {0}
IsOfSound NoMemory = Unit {0}

pub of_sound : (image : Image) (entry : ℕ) (entries : List ℕ) (maximum : ℕ) (error : Refusal GraphFault) → IsSound image entries entry
    → IsGraphError image entry entries maximum error → IsOfSound error
of_sound image entry entries maximum (Fault (Code fault)) sound is = sound.no_fault is.size is.size_is fault.kind fault.address is.first.fault
of_sound image entry entries maximum (Fault (Unlisted address callee)) sound is = is.missing (sound.closed is.size address callee is.size_is is.calls)
of_sound image entry entries maximum (Fault (Large count)) sound is = tt
of_sound image entry entries maximum NoMemory sound is = tt
