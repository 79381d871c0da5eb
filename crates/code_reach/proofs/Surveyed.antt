-- The walk over the functions that are reached, and the first fault of those that it has visited.
use Rattle.std.proofs.Common.{◌≡◌, ◌⊎◌, ◌+◌, ◌<◌, ◌≤◌, ℕ, List, [], length, get_or, sym, ◌∙◌, ap, subst, inl, inr, arith}
use Rattle.std.specs.Prelude.{Option, None, IsSome, Contains}
use Rattle.std.proofs.lemmas.List.{get_or_append_left, get_or_default}
use Rattle.std.proofs.lemmas.List.Elements.{Contains-get_or}
use Rattle.elf_read_spec.specs.Image.{Image, size_at}
use Rattle.code_reach_spec.specs.declared.CodeKind.{CodeKind}
use Rattle.code_reach_spec.specs.Code.{CallsOn, call, tail, Reaches, itself, further}
use Rattle.code_reach.specs.Growth.{Grows}
use Rattle.code_reach.specs.Surveys.{CallsOut, HasFault, AnyHasFault, IsFirstOf, AreEntries, earlier}
use Rattle.code_reach.specs.declared.faults.CodeFault.{CodeFault}
use Rattle.code_reach.proofs.Walks.{IsWalked, walked-start, walked-next, walked-all}
use Rattle.code_reach.proofs.Firsts.{first_of-as, first-earlier}

-- a function that is reached, with its size
pub record IsEntry (image : Image) (entry other : ℕ) : Type 0 where
  pub reached : Reaches image entry other
  pub sized : IsSome (size_at image other)

-- one of the first so many has this fault
pub record HasFaultBelow (image : Image) (items : List ℕ) (next : ℕ) (kind : CodeKind) (address : ℕ) : Type 0 where
  pub index : ℕ
  pub below : index < next
  pub has : HasFault image (get_or items index 0) kind address

pub record IsSurveyed (image : Image) (entry next : ℕ) (items : List ℕ) (first : Option CodeFault) : Type 0 where
  pub walked : IsWalked (CallsOut image) (IsEntry image entry) entry next items
  pub first_is : IsFirstOf (HasFaultBelow image items next) first

pub called-sized : (image : Image) (entry size target : ℕ) → CallsOn image entry size target → IsSome (size_at image target)
called-sized image entry size target (call address _ reached flow some) = some
called-sized image entry size target (tail address _ reached flow out some) = some

module _ (image : Image) (entry : ℕ) where
  entry-next : (here target : ℕ) → IsEntry image entry here → CallsOut image here target → IsEntry image entry target
  entry-next here target is calls = record {
    reached = further here calls.size target is.reached calls.size_is calls.calls;
    sized = called-sized image here calls.size target calls.calls;
  }

  pub surveyed-start : (items : List ℕ) → IsSome (size_at image entry) → Grows (λ t. t ≡ entry) [] items → IsSurveyed image entry 0 items None
  surveyed-start items some g = record {
    walked = walked-start (CallsOut image) (IsEntry image entry) entry items (record { reached = itself; sized = some }) g;
    first_is = λ kind address h. omega (arith, h.below);
  }

  pub here-sized : (next : ℕ) (items : List ℕ) (first : Option CodeFault) → IsSurveyed image entry next items first → next < length items
      → IsSome (size_at image (get_or items next 0))
  here-sized next items first so_far inside = (so_far.walked.sound (get_or items next 0) (Contains-get_or items next 0 inside)).sized

  pub surveyed-next : (next here : ℕ) (items new : List ℕ) (first found : Option CodeFault) → IsSurveyed image entry next items first → next < length items
      → here ≡ get_or items next 0 → Grows (CallsOut image here) items new → IsFirstOf (HasFault image here) found
      → IsSurveyed image entry (next + 1) new (earlier first found)
  surveyed-next next here items new first found so_far inside is g fault = record {
    walked = walked-next (CallsOut image) (IsEntry image entry) entry next here items new so_far.walked inside is g
        (λ t calls. entry-next here t (subst (IsEntry image entry) (sym is) (so_far.walked.sound (get_or items next 0) (Contains-get_or items next 0 inside))) calls);
    first_is = first_of-as (λ k a. HasFaultBelow image items next k a ⊎ HasFault image here k a) (HasFaultBelow image new (next + 1)) (earlier first found) there back
        (first-earlier (HasFaultBelow image items next) (HasFault image here) first found so_far.first_is fault);
  }
    where
      same : (j : ℕ) → j < length items → get_or new j 0 ≡ get_or items j 0
      same j below = ap (λ l. get_or l j 0) g.grown ∙ get_or_append_left items g.more 0 j below

      there : (k : CodeKind) (a : ℕ) → HasFaultBelow image items next k a ⊎ HasFault image here k a → HasFaultBelow image new (next + 1) k a
      there k a (inl h) = record {
        index = h.index;
        below = omega (arith, h.below);
        has = subst (λ z. HasFault image z k a) (sym (same h.index (omega (arith, h.below, inside)))) h.has;
      }
      there k a (inr h) = record { index = next; below = omega arith; has = subst (λ z. HasFault image z k a) (is ∙ sym (same next inside)) h }

      split : (j : ℕ) → j < next + 1 → (j < next) ⊎ (j ≡ next)
      split j below = grind (arith, below)

      back : (k : CodeKind) (a : ℕ) → HasFaultBelow image new (next + 1) k a → HasFaultBelow image items next k a ⊎ HasFault image here k a
      back k a h = elim (split h.index h.below) [
        | inl before ↦ inl (record { index = h.index; below = before; has = subst (λ z. HasFault image z k a) (same h.index (omega (arith, before, inside))) h.has })
        | inr e ↦ inr (subst (λ z. HasFault image z k a) (same h.index (omega (arith, e, inside)) ∙ (ap (λ i. get_or items i 0) e ∙ sym is)) h.has)
      ]

  -- ---- when all are visited

  module _ (next : ℕ) (items : List ℕ) (first : Option CodeFault) (done : IsSurveyed image entry next items first) (over : length items ≤ next) where
    found-all : (other : ℕ) → Reaches image entry other → Contains items other
    found-all _ itself = done.walked.starts
    found-all _ (further middle size target reached is calls) =
        walked-all (CallsOut image) (IsEntry image entry) entry next items done.walked over middle target (found-all middle reached)
        (record { size = size; size_is = is; calls = calls })

    pub surveyed-entries : AreEntries image entry items
    surveyed-entries = record {
      exactly = λ other. (λ among. (done.walked.sound other among).reached, found-all other);
      sized = λ k d below. (done.walked.sound (get_or items k d) (Contains-get_or items k d below)).sized;
    }

    pub surveyed-first : IsFirstOf (AnyHasFault image entry) first
    surveyed-first = first_of-as (HasFaultBelow image items next) (AnyHasFault image entry) first there back done.first_is
      where
        there : (k : CodeKind) (a : ℕ) → HasFaultBelow image items next k a → AnyHasFault image entry k a
        there k a h = record {
          other = get_or items h.index 0;
          reached = (done.walked.sound (get_or items h.index 0) (Contains-get_or items h.index 0 (omega (arith, h.below, done.walked.within)))).reached;
          has = h.has;
        }

        place-of : (other : ℕ) (k : CodeKind) (a : ℕ) → HasFault image other k a → Contains items other → HasFaultBelow image items next k a
        place-of other k a h (i, below, here) = record {
          index = i;
          below = omega (arith, below, over);
          has = subst (λ z. HasFault image z k a) (sym (get_or_default items i 0 other below ∙ here)) h;
        }

        back : (k : CodeKind) (a : ℕ) → AnyHasFault image entry k a → HasFaultBelow image items next k a
        back k a h = place-of h.other k a h.has (found-all h.other h.reached)
