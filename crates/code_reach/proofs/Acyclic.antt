-- Where a cycle of calls is reached there is no stack.
use Rattle.std.proofs.Common.{◌≡◌, ◌⊎◌, ℕ, refl, subst, inl, inr}
use Rattle.std.specs.Prelude.{Option, Some, None, IfSome}
use Rattle.elf_read_spec.specs.Image.{Image, size_at}
use Rattle.code_reach_spec.specs.Code.{CallsOn, Reaches, itself, further, IsStack, IsCyclic, deep}
use Rattle.code_reach.specs.Found.{IsDepth}

-- the function calls another one, from which a third is reached
record FirstCall (image : Image) (entry other : ℕ) : Type 0 where
  size : ℕ
  size_is : size_at image entry ≡ Some size
  called : ℕ
  calls : CallsOn image entry size called
  reached : Reaches image called other

first_call : (image : Image) (entry other : ℕ) → Reaches image entry other → (other ≡ entry) ⊎ FirstCall image entry other
first_call image entry _ itself = inl refl
first_call image entry other (further middle size _ reached is calls) = inr (at (first_call image entry middle reached))
  where
    at : (middle ≡ entry) ⊎ FirstCall image entry middle → FirstCall image entry other
    at (inl e) = record {
      size = size;
      size_is = subst (λ z. size_at image z ≡ Some size) e is;
      called = other;
      calls = subst (λ z. CallsOn image z size other) e calls;
      reached = itself;
    }
    at (inr f) = record { size = f.size; size_is = f.size_is; called = f.called; calls = f.calls; reached = further middle size other f.reached is calls }

-- a function that reaches a cycle calls one that does
record CallsCyclic (image : Image) (entry : ℕ) : Type 0 where
  size : ℕ
  size_is : size_at image entry ≡ Some size
  called : ℕ
  calls : CallsOn image entry size called
  cyclic : IsCyclic image called

calls-cyclic : (image : Image) (entry : ℕ) → IsCyclic image entry → CallsCyclic image entry
calls-cyclic image entry c = at (first_call image entry c.other c.reached)
  where
    round : c.other ≡ entry → (c.last ≡ c.other) ⊎ FirstCall image c.other c.last → CallsCyclic image entry
    round e (inl same) = record {
      size = c.size;
      size_is = subst (λ z. size_at image z ≡ Some c.size) e (subst (λ z. size_at image z ≡ Some c.size) same c.size_is);
      called = c.other;
      calls = subst (λ z. CallsOn image z c.size c.other) e (subst (λ z. CallsOn image z c.size c.other) same c.back);
      cyclic = record { other = c.other; reached = itself; last = c.last; onward = c.onward; size = c.size; size_is = c.size_is; back = c.back };
    }
    round e (inr f) = record {
      size = f.size;
      size_is = subst (λ z. size_at image z ≡ Some f.size) e f.size_is;
      called = f.called;
      calls = subst (λ z. CallsOn image z f.size f.called) e f.calls;
      cyclic = record {
        other = c.other;
        reached = further c.last c.size c.other f.reached c.size_is c.back;
        last = c.last;
        onward = c.onward;
        size = c.size;
        size_is = c.size_is;
        back = c.back;
      };
    }

    at : (c.other ≡ entry) ⊎ FirstCall image entry c.other → CallsCyclic image entry
    at (inl e) = round e (first_call image c.other c.last c.onward)
    at (inr f) = record {
      size = f.size;
      size_is = f.size_is;
      called = f.called;
      calls = f.calls;
      cyclic = record { other = c.other; reached = f.reached; last = c.last; onward = c.onward; size = c.size; size_is = c.size_is; back = c.back };
    }

pub stack-acyclic : (image : Image) (entry stack : ℕ) → IsStack image entry stack → IsCyclic image entry → ⊥
stack-acyclic image _ _ (deep entry size deepest places below is places_are stacks greatest) cyclic =
    let next = calls-cyclic image entry cyclic in
    let size_is = next.size_is in
    let same : next.size ≡ size = cc in
    let calls = subst (λ s. CallsOn image entry s next.called) same next.calls in
    stack-acyclic image next.called (below next.called) (stacks next.called calls) next.cyclic

pub depth-acyclic : (image : Image) (entry : ℕ) (depth : Option ℕ) → IsDepth image entry depth → IfSome depth (λ stack. IsCyclic image entry → ⊥)
depth-acyclic image entry None is = tt
depth-acyclic image entry (Some stack) is = stack-acyclic image entry stack is
