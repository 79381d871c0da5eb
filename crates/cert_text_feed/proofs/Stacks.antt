-- What is expected first, and what stands in its place.
use Rattle.std.specs.Prelude.{replicate, take, get_or, slice_set, slice_index_or}
use Rattle.std.specs.List.{remove}
use Rattle.std.proofs.Common.{◌≡◌, ℕ, zero, suc, ◌+◌, ◌<◌, ◌≤◌, List, [], ◌∷◌, ◌++◌, length, refl, ap, sym, ◌∙◌, append_assoc, append-nil, arith}
use Rattle.std.proofs.lemmas.List.{take_more, take_all, length-take-le}
use Rattle.cert_text_spec.specs.Certificates as spec
use Rattle.cert_text_parse.specs.Keywords.{expected_of}
use Rattle.cert_text.specs.declared.stack.Group.{Group}
use Rattle.cert_text.specs.Stack.{group_of, stacked, stack_of}
use Rattle.cert_text.proofs.Groups.{stacked_last, none_stacked}

pub none_first : (groups : List Group) → (1 ≤ length groups → ⊥) → stack_of groups ≡ []
none_first [] h = none_stacked
none_first (g ∷ groups) h = absurd (h (omega arith))

-- the last group has what is expected first
pub last_first : (groups : List Group) (n : ℕ) (d : Group) → suc n ≡ length groups → (others : List spec.Expected) × (stack_of groups ≡ expected_of (get_or groups n d).expected ∷ others)
last_first groups n d e =
    let cut : groups ≡ take n groups ++ get_or groups n d ∷ [] = sym (take_all (n + 1) groups (omega (arith, e))) ∙ take_more groups n d (omega (arith, e)) in
    (replicate (get_or groups n d).more (expected_of (get_or groups n d).expected) ++ stack_of (take n groups), ap stack_of cut ∙ stacked_last [] (take n groups) (get_or groups n d))

-- groups on groups
stacked_on : (below : List spec.Expected) (one two : List Group) → stacked below (one ++ two) ≡ stacked (stacked below one) two
unfolding stacked
stacked_on below [] two = refl
stacked_on below (g ∷ one) two = stacked_on (group_of g ++ below) one two

stacked_below : (below above : List spec.Expected) (groups : List Group) → stacked (above ++ below) groups ≡ stacked above groups ++ below
unfolding stacked
stacked_below below above [] = refl
stacked_below below above (g ∷ groups) = ap (λ s. stacked s groups) (sym (append_assoc (group_of g) above below)) ∙ stacked_below below (group_of g ++ above) groups

pub stack_on : (one two : List Group) → stack_of (one ++ two) ≡ stack_of two ++ stack_of one
stack_on one two = stacked_on [] one two ∙ stacked_below (stack_of one) [] two

-- one of the last of these groups is taken, and others stand on them
pub replaced : (base groups new : List Group) (g : Group) (e : spec.Expected) (others : List spec.Expected) (more : List Group) → stack_of (base ++ g ∷ []) ≡ e ∷ others
    → stack_of more ≡ replicate g.more (expected_of g.expected) ++ stack_of base → new ≡ more ++ groups → stack_of new ≡ stack_of groups ++ others
replaced base groups new g e others more was less is = ap stack_of is ∙ stack_on more groups ∙ ap (λ s. stack_of groups ++ s) (less ∙ tail_same (sym (stacked_last [] base g) ∙ was))
  where
    tail_of : List spec.Expected → List spec.Expected
    tail_of [] = []
    tail_of (x ∷ xs) = xs

    tail_same : expected_of g.expected ∷ (replicate g.more (expected_of g.expected) ++ stack_of base) ≡ e ∷ others → replicate g.more (expected_of g.expected) ++ stack_of base ≡ others
    tail_same h = ap tail_of h

-- a place between two lists of groups
at_place : (base groups : List Group) (g d : Group) → slice_index_or ((base ++ g ∷ []) ++ groups) (length base) d ≡ g
at_place [] groups g d = refl
at_place (x ∷ base) groups g d = at_place base groups g d

without_place : (base groups : List Group) (g : Group) → remove ((base ++ g ∷ []) ++ groups) (length base) ≡ base ++ groups
without_place [] groups g = refl
without_place (x ∷ base) groups g = ap (λ t. x ∷ t) (without_place base groups g)

set_place : (base groups : List Group) (g h : Group) → slice_set ((base ++ g ∷ []) ++ groups) (length base) h ≡ (base ++ h ∷ []) ++ groups
set_place [] groups g h = refl
set_place (x ∷ base) groups g h = ap (λ t. x ∷ t) (set_place base groups g h)

-- what is read at a place twice is the same
pub read_again : (groups : List Group) (n : ℕ) (a b : Group) → n < length groups → a ≡ slice_index_or groups n a → b ≡ slice_index_or groups n b → a ≡ b
read_again [] n a b h i j = absurd (omega (arith, h))
read_again (g ∷ groups) zero a b h i j = i ∙ sym j
read_again (g ∷ groups) (suc n) a b h i j = read_again groups n a b (omega (arith, h)) i j

-- the groups below the last, the last, and the groups that were put on it
record Cut (old groups ext : List Group) (n : ℕ) (got : Group) : Type 0 where
  base : List Group
  is : old ≡ base ++ got ∷ []
  long : length base ≡ n
  all : ext ≡ (base ++ got ∷ []) ++ groups

cut_there : (old groups ext : List Group) (n : ℕ) (got : Group) → suc n ≡ length old → ext ≡ old ++ groups → got ≡ slice_index_or ext n got → Cut old groups ext n got
cut_there old groups ext n got e is there =
    let cut : old ≡ take n old ++ get_or old n got ∷ [] = sym (take_all (n + 1) old (omega (arith, e))) ∙ take_more old n got (omega (arith, e)) in
    let long : length (take n old) ≡ n = length-take-le n old (omega (arith, e)) in
    let all : ext ≡ (take n old ++ get_or old n got ∷ []) ++ groups = is ∙ ap (λ t. t ++ groups) cut in
    let same : got ≡ get_or old n got =
    there ∙ ap (λ t. slice_index_or t n got) all ∙ ap (λ k. slice_index_or ((take n old ++ get_or old n got ∷ []) ++ groups) k got) (sym long) ∙ at_place (take n old) groups (get_or old n got) got in
    record { base = take n old; is = cut ∙ ap (λ g. take n old ++ g ∷ []) (sym same); long = long; all = all ∙ ap (λ g. (take n old ++ g ∷ []) ++ groups) (sym same) }

pub removed : (old groups ext new : List Group) (n : ℕ) (got : Group) → suc n ≡ length old → ext ≡ old ++ groups → got ≡ slice_index_or ext n got → got.more ≡ 0 → new ≡ remove ext n
    → (e : spec.Expected) (others : List spec.Expected) → stack_of old ≡ e ∷ others → stack_of new ≡ stack_of groups ++ others
removed old groups ext new n got e is there no_more gone x others was =
    let c = cut_there old groups ext n got e is there in
    replaced c.base groups new got x others c.base (ap stack_of (sym c.is) ∙ was) (ap (λ k. replicate k (expected_of got.expected) ++ stack_of c.base) (sym no_more))
    (gone ∙ ap (λ t. remove t n) c.all ∙ ap (λ k. remove ((c.base ++ got ∷ []) ++ groups) k) (sym c.long) ∙ without_place c.base groups got)

pub lessened : (old groups ext new : List Group) (n : ℕ) (got less : Group) → suc n ≡ length old → ext ≡ old ++ groups → got ≡ slice_index_or ext n got → suc less.more ≡ got.more → less.expected ≡ got.expected
    → new ≡ slice_set ext n less → (e : spec.Expected) (others : List spec.Expected) → stack_of old ≡ e ∷ others → stack_of new ≡ stack_of groups ++ others
lessened old groups ext new n got less e is there one kind set x others was =
    let c = cut_there old groups ext n got e is there in
    replaced c.base groups new got x others (c.base ++ less ∷ []) (ap stack_of (sym c.is) ∙ was)
    (stacked_last [] c.base less ∙ ap (λ k. replicate k (expected_of less.expected) ++ stack_of c.base) one ∙ ap (λ k. replicate got.more (expected_of k) ++ stack_of c.base) kind)
    (set ∙ ap (λ t. slice_set t n less) c.all ∙ ap (λ k. slice_set ((c.base ++ got ∷ []) ++ groups) k less) (sym c.long) ∙ set_place c.base groups got less)

pub groups_are : (slice new old : List Group) (first : List spec.Expected) → slice ≡ new → stack_of new ≡ first ++ stack_of old → old ≡ [] → stack_of slice ≡ first
groups_are slice new old first same e o = ap stack_of same ∙ e ∙ ap (λ s. first ++ stack_of s) o ∙ ap (λ s. first ++ s) none_stacked ∙ append-nil first

pub some_group : (groups : List Group) (e : spec.Expected) (others : List spec.Expected) → stack_of groups ≡ e ∷ others → 0 < length groups
some_group [] e others h = absurd (no_both (stack_of []) none_stacked h)
  where
    no_both : (s : List spec.Expected) → s ≡ [] → s ≡ e ∷ others → ⊥
    no_both s a b = cc
some_group (g ∷ groups) e others h = omega arith
