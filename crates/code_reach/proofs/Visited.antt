-- The calls and the first fault of one function.
use Rattle.std.proofs.Common.{◌≡◌, ℕ, List, length, get_or, sym, ◌∙◌, ap, subst}
use Rattle.std.specs.Prelude.{Option, Some, None, IsSome, MatchOption, Result, Ok, Err, IfOk, OnOk}
use Rattle.std.proofs.lemmas.List.Elements.{Contains-get_or}
use Rattle.elf_read_spec.specs.Image.{Image, size_at}
use Rattle.code_reach_spec.specs.declared.CodeKind.{CodeKind}
use Rattle.code_reach_spec.specs.Code.{HasCode, IsRangeFault, IsReachable, AreReachable, CallsOn, call, tail}
use Rattle.code_reach_spec.specs.Faults.{IsFunctionFault, IsFirst}
use Rattle.code_reach.specs.Flows.{callee_at}
use Rattle.code_reach.specs.Growth.{Grows, FromFirst, AreTargets}
use Rattle.code_reach.specs.Listing.{IsStop}
use Rattle.code_reach.specs.Surveys.{CallsFrom, CallsOut, HasFault, AreSound, IsFirstOf}
use Rattle.code_reach.specs.declared.faults.CodeFault.{CodeFault}
use Rattle.code_reach.proofs.Growing.{grows-none, grows-as}
use Rattle.code_reach.proofs.Called.{called-on, from-call, from-tail_call}
use Rattle.code_reach.proofs.Places.{has-code}
use Rattle.code_reach.proofs.Listed.{no-range-fault, first-of-range, first-of-stop, sound-words, place-in}
use Rattle.code_reach.proofs.Firsts.{first-as}

module _ (image : Image) (entry size address : ℕ) where
  pub calls-one : (target : ℕ) → callee_at image entry size address ≡ Some target → IsSome (size_at image target) → (xs ys : List ℕ) → Grows (λ t. t ≡ target) xs ys
      → Grows (CallsFrom image entry size address) xs ys
  calls-one target is some xs ys g =
      grows-as (λ t. t ≡ target) (CallsFrom image entry size address) xs ys
      (λ t e. record { callee_is = is ∙ ap Some (sym e); entry_there = subst (λ z. IsSome (size_at image z)) (sym e) some })
      (λ t l. let other = l.callee_is in cc) g

  pub calls-nothing : (target : ℕ) → callee_at image entry size address ≡ Some target → (IsSome (size_at image target) → ⊥) → (xs : List ℕ)
      → Grows (CallsFrom image entry size address) xs xs
  calls-nothing target is never xs =
      grows-none (CallsFrom image entry size address) xs
      (λ t l. let other = l.callee_is in let same : t ≡ target = cc in never (subst (λ z. IsSome (size_at image z)) same l.entry_there))

  pub calls-none : callee_at image entry size address ≡ None → (xs : List ℕ) → Grows (CallsFrom image entry size address) xs xs
  calls-none none xs = grows-none (CallsFrom image entry size address) xs (λ t l. let other = l.callee_is in cc)

module _ (image : Image) (entry size : ℕ) (is : size_at image entry ≡ Some size) where
  same_size : (other : ℕ) → size_at image entry ≡ Some other → other ≡ size
  same_size other e = cc

  -- ---- a function without code

  pub calls-of-range : (kind : CodeKind) → IsRangeFault image entry size kind → (xs : List ℕ) → Grows (CallsOut image entry) xs xs
  calls-of-range kind fault xs = grows-none (CallsOut image entry) xs (λ t c. never c.size t (same_size c.size c.size_is) c.calls)
    where
      no_code : (other address : ℕ) → other ≡ size → IsReachable image entry other address → ⊥
      no_code other address e reached = no-range-fault image entry size kind (subst (HasCode image entry) e (has-code image entry other address reached)) fault

      never : (other t : ℕ) → other ≡ size → CallsOn image entry other t → ⊥
      never other t e (call address _ reached is some) = no_code other address e reached
      never other t e (tail address _ reached is out some) = no_code other address e reached

  has-fault : (kind : CodeKind) (address : ℕ) → IsFunctionFault image entry size kind address → HasFault image entry kind address
  has-fault kind address f = record { size = size; size_is = is; fault = f }

  fault-of : (kind : CodeKind) (address : ℕ) → HasFault image entry kind address → IsFunctionFault image entry size kind address
  fault-of kind address h = subst (λ s. IsFunctionFault image entry s kind address) (same_size h.size h.size_is) h.fault

  pub fault-of-range : (kind : CodeKind) → IsRangeFault image entry size kind → IsFirst (HasFault image entry) kind entry
  fault-of-range kind fault =
      first-as (IsFunctionFault image entry size) (HasFault image entry) kind entry has-fault fault-of (first-of-range image entry size kind fault)

  -- ---- a function with code

  module _ (has : HasCode image entry size) (targets addresses : List ℕ) (are : AreReachable image entry size addresses) (all : AreTargets image entry size targets) where
    pub calls-of-code : (xs ys : List ℕ) → Grows (FromFirst (CallsFrom image entry size) addresses (length addresses)) xs ys → Grows (CallsOut image entry) xs ys
    calls-of-code xs ys g = grows-as (FromFirst (CallsFrom image entry size) addresses (length addresses)) (CallsOut image entry) xs ys there back g
      where
        there : (t : ℕ) → FromFirst (CallsFrom image entry size) addresses (length addresses) t → CallsOut image entry t
        there t c = record {
          size = size;
          size_is = is;
          calls = called-on image entry size (get_or addresses c.index 0) t
              ((are.exactly (get_or addresses c.index 0)).0 (Contains-get_or addresses c.index 0 c.below)) c.there;
        }

        place : (address t : ℕ) → IsReachable image entry size address → CallsFrom image entry size address t → FromFirst (CallsFrom image entry size) addresses (length addresses) t
        place address t reached c =
            let p = place-in image entry size addresses are address reached in
            record { index = p.index; below = p.among; there = subst (λ a. CallsFrom image entry size a t) (sym p.there) c }

        again : (t : ℕ) → CallsOn image entry size t → FromFirst (CallsFrom image entry size) addresses (length addresses) t
        again t (call address _ reached flow some) = place address t reached (from-call image entry size address t flow some)
        again t (tail address _ reached flow out some) = place address t reached (from-tail_call image entry size address t flow out some)

        back : (t : ℕ) → CallsOut image entry t → FromFirst (CallsFrom image entry size) addresses (length addresses) t
        back t c = again t (subst (λ s. CallsOn image entry s t) (same_size c.size c.size_is) c.calls)

    pub fault-of-code : (found : Option CodeFault) → MatchOption found (AreSound image entry size targets addresses) (λ fault. IsStop image entry size targets addresses fault.kind fault.address)
        → IsFirstOf (HasFault image entry) found
    fault-of-code None sound = λ kind address h. sound-words image entry size has targets addresses are all sound kind address (fault-of kind address h)
    fault-of-code (Some f) stop =
        first-as (IsFunctionFault image entry size) (HasFault image entry) f.kind f.address has-fault fault-of
        (first-of-stop image entry size has targets addresses are all f.kind f.address stop)

    pub fault-of-result : {E : Type 0} (r : Result (Option CodeFault) E)
        → IfOk r (λ found. MatchOption found (AreSound image entry size targets addresses) (λ fault. IsStop image entry size targets addresses fault.kind fault.address))
        → IfOk r (IsFirstOf (HasFault image entry))
    fault-of-result (Ok found) is = fault-of-code found is
    fault-of-result (Err e) is = tt

pub in-any-case : {T E P : Type 0} (r : Result T E) → P → OnOk r P
in-any-case (Ok x) p = p
in-any-case (Err e) p = tt
