-- A block while the bank grows, and one step after the other.
use Rattle.std.proofs.Common.{◌≡◌, ℕ, suc, ◌<◌, ◌≤◌, List, [], ◌∷◌, length, map, get_or, refl, sym, ap, ◌∙◌, subst, arith, length-append}
use Rattle.std.specs.Prelude.{All}
use Rattle.std.proofs.lemmas.List.Elements.{All-head, All-tail}
use Rattle.std.proofs.lemmas.List.{get_or-map}
use Rattle.term_core_spec.specs.Term.{Term}
use Rattle.term_core_spec.specs.Sort.{sort_of}
use Rattle.term_bank.specs.Nodes.{tree_at, Extends}
use Rattle.term_bank.proofs.Growth.{tree_at-front}
use Rattle.word_steps_spec.specs.Numbers as spec
use Rattle.word_steps_spec.specs.Numbers.{State}
use Rattle.word_steps.specs.declared.number.Number.{Number}
use Rattle.word_steps.specs.declared.block.Block.{Block}
use Rattle.word_steps.specs.Views.{no_number, number_in, count_of, number_of, numbers_of, sort_of_number, operation_of}
use Rattle.word_steps.specs.Shows.{IsNumber, IsBlock, Shows}
use Rattle.word_steps.specs.Outcomes.{Becomes}

pub longer : (old new : List Term) → Extends old new → length old ≤ length new
longer old new e = omega (arith, ap length e.1, length-append old e.0)

-- a tree keeps its index
pub stays : (old new : List Term) (i : ℕ) → Extends old new → i < length old → tree_at new i ≡ tree_at old i
stays old new i e below = ap (λ trees. tree_at trees i) e.1 ∙ tree_at-front old e.0 i below

-- each of a list, where one thing follows from the other
pub all_of : (P Q : Number → Type 0) (xs : List Number) → ((x : Number) → P x → Q x) → All P xs → All Q xs
all_of P Q xs f h = λ k d less. f (get_or xs k d) (h k d less)

-- two functions that agree on a list
map_agree : {Y : Type 0} → (f g : Number → Y) (xs : List Number) → All (λ x. f x ≡ g x) xs → map f xs ≡ map g xs
map_agree f g [] h = refl
map_agree f g (x ∷ xs) h =
    let first : f x ≡ g x = All-head (λ x. f x ≡ g x) x xs h in
    let rest : map f xs ≡ map g xs = map_agree f g xs (All-tail (λ x. f x ≡ g x) x xs h) in
    cc

-- ---- while the bank grows

number_later : (old new : List Term) (count : ℕ) (x : Number) → Extends old new → IsNumber (length old) count x → number_of new x ≡ number_of old x
number_later old new count x e is =
    let term = stays old new x.term e is.term in
    let now = stays old new x.now e is.now in
    made (operation_of x.operation) (tree_at new x.term) (tree_at old x.term) (tree_at new x.now) (tree_at old x.now) term now
  where
    the_number : spec.Operation ℕ → Term → Term → spec.Number
    the_number o t n = record { operation = o; term = t; now = n }

    made : (o : spec.Operation ℕ) (t u v w : Term) → t ≡ u → v ≡ w → the_number o t v ≡ the_number o u w
    made o t u v w p q = ap (λ a. the_number o a v) p ∙ ap (the_number o u) q

pub numbers_later : (old new : List Term) (count : ℕ) (xs : List Number) → Extends old new → All (IsNumber (length old) count) xs → numbers_of new xs ≡ numbers_of old xs
numbers_later old new count xs e h = map_agree (number_of new) (number_of old) xs (λ k d less. number_later old new count (get_or xs k d) e (h k d less))

pub sorts_later : (old new : List Term) (count : ℕ) (xs : List Number) → Extends old new → All (IsNumber (length old) count) xs
    → map (sort_of_number new) xs ≡ map (sort_of_number old) xs
sorts_later old new count xs e h =
    map_agree (sort_of_number new) (sort_of_number old) xs (λ k d less. ap sort_of (stays old new (get_or xs k d).term e ((h k d less).term)))

pub number_wider : (m n count : ℕ) → m ≤ n → (x : Number) → IsNumber m count x → IsNumber n count x
number_wider m n count le x is =
    let term = is.term in
    let now = is.now in
    record { operation = is.operation; term = omega (arith, term, le); now = omega (arith, now, le); merged = is.merged }

pub block_later : (old new : List Term) (b : Block) → Extends old new → IsBlock old b → IsBlock new b
block_later old new b e is = record {
  numbers = all_of (IsNumber (length old) (count_of b)) (IsNumber (length new) (count_of b)) b.numbers.items (number_wider (length old) (length new) (count_of b) (longer old new e)) is.numbers;
  sorts = is.sorts ∙ sym (sorts_later old new (count_of b) b.numbers.items e is.numbers);
}

pub shows_later : (old new : List Term) (b : Block) (s : State) → Extends old new → IsBlock old b → Shows old b s → Shows new b s
shows_later old new b s e is h = record {
  numbers = h.numbers ∙ sym (numbers_later old new (count_of b) b.numbers.items e is.numbers);
  marked = h.marked;
  changes = h.changes;
  sweeps = h.sweeps;
}

-- ---- one step after the other

pub becomes_same : (old new : List Term) (b : Block) → Extends old new → IsBlock old b → Becomes old new b b (λ s. s)
becomes_same old new b e is = record { block = block_later old new b e is; shows = λ s h. shows_later old new b s e is h }

pub becomes_then : (a b c : List Term) (x y z : Block) (f g : State → State) → Becomes a b x y f → Becomes b c y z g → Becomes a c x z (λ s. g (f s))
becomes_then a b c x y z f g h k = record { block = k.block; shows = λ s shown. k.shows (f s) (h.shows s shown) }

-- the same step by another name
pub becomes_as : (old new : List Term) (x y : Block) (f g : State → State) → ((s : State) → Shows old x s → f s ≡ g s) → Becomes old new x y f → Becomes old new x y g
becomes_as old new x y f g same h = record { block = h.block; shows = λ s shown. subst (Shows new y) (same s shown) (h.shows s shown) }

-- ---- the number at an index

pub number_at_is : (trees : List Term) (xs : List Number) (i : ℕ) → i < length xs → spec.number_at (numbers_of trees xs) (suc i) ≡ number_of trees (number_in xs i)
unfolding spec.number_at
number_at_is trees xs i less = get_or-map (number_of trees) xs i no_number spec.missing less
