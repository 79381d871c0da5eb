-- What is expected, group by group.
use Rattle.std.specs.Prelude.{replicate}
use Rattle.std.proofs.Common.{◌≡◌, ℕ, suc, List, [], ◌∷◌, ◌++◌, length, refl, ap, sym, ◌∙◌, arith}
use Rattle.cert_text_spec.specs.Certificates as spec
use Rattle.cert_text_parse.specs.declared.keywords.Expected.{Expected}
use Rattle.cert_text_parse.specs.Keywords.{expected_of}
use Rattle.cert_text.specs.declared.stack.Group.{Group}
use Rattle.cert_text.specs.Stack.{group_of, stacked, stack_of}

-- the last group is expected first
pub stacked_last : (below : List spec.Expected) (groups : List Group) (g : Group) → stacked below (groups ++ g ∷ []) ≡ group_of g ++ stacked below groups
unfolding stacked
stacked_last below [] g = refl
stacked_last below (h ∷ groups) g = stacked_last (group_of h ++ below) groups g

pub none_stacked : stack_of [] ≡ []
unfolding stacked
none_stacked = refl

-- a group of so many is pushed
pub pushed : (old new : List Group) (e : Expected) (count more : ℕ) → new ≡ old ++ (record { expected = e; more = more }) ∷ [] → suc more ≡ count
    → stack_of new ≡ replicate count (expected_of e) ++ stack_of old
pushed old new e count more is c = ap stack_of is ∙ stacked_last [] old (record { expected = e; more = more }) ∙ ap (λ n. replicate n (expected_of e) ++ stack_of old) c

-- the last group is taken, and all but its first pushed again
pub taken : (old middle new : List Group) (g : Group) → old ≡ middle ++ g ∷ [] → stack_of new ≡ replicate g.more (expected_of g.expected) ++ stack_of middle → stack_of old ≡ expected_of g.expected ∷ stack_of new
taken old middle new g is pushed = ap stack_of is ∙ stacked_last [] middle g ∙ ap (λ s. expected_of g.expected ∷ s) (sym pushed)

-- nothing is left
pub none_left : (groups : List Group) → length groups ≡ 0 → stack_of groups ≡ []
unfolding stacked
none_left [] e = refl
none_left (g ∷ groups) e = absurd (omega (arith, e))
