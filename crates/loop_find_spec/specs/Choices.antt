-- What a script chooses, in the order of the list: loops that aren't matched, points, counts, and how often loops may turn.
use Rattle.std.specs.Prelude.{ℕ, zero, suc, ◌+◌, ◌==◌, Bool, List, [], ◌∷◌, ◌++◌, map, flat_map, filter, length}
use Rattle.proof_tree_spec.specs.declared.Counts.{Counts}
use Rattle.proof_tree_spec.specs.Proofs.{BinaryPoint}
use Rattle.loop_find_spec.specs.declared.LoopPoint.{LoopPoint}
use Rattle.loop_find_spec.specs.declared.LoopPoint.TheVariants.{Test, Body}

-- a loop of the code: the point of its head, and the head
pub record CodeLoop : Type 0 where
  pub point : BinaryPoint
  pub head : ℕ

-- a loop of the source: its body's path and its number, and the nodes of its test and of the start of its body
pub record SourceLoop : Type 0 where
  pub path : List ℕ
  pub number : ℕ
  pub test : ℕ
  pub start : ℕ

pub data AnyLoop : Type 0 where
  OfCode : CodeLoop → AnyLoop
  OfSource : SourceLoop → AnyLoop

-- those of the code, then those of the source
abbrev pub all_loops : List CodeLoop → List SourceLoop → List AnyLoop
all_loops code source = map OfCode code ++ map OfSource source

unfoldable pub of_code : List AnyLoop → List CodeLoop
of_code [] = []
of_code (OfCode l ∷ loops) = l ∷ of_code loops
of_code (OfSource l ∷ loops) = of_code loops

unfoldable pub of_source : List AnyLoop → List SourceLoop
of_source [] = []
of_source (OfCode l ∷ loops) = of_source loops
of_source (OfSource l ∷ loops) = l ∷ of_source loops

-- ---- sets of loops

-- loops that are chosen, and the others, both in their order
pub record Division (X : Type 0) : Type 0 where
  pub chosen : List X
  pub others : List X

module _ {X : Type 0} where
  abbrev pub with_chosen : X → Division X → Division X
  with_chosen x d = record d { chosen = x ∷ d.chosen }

  abbrev pub with_other : X → Division X → Division X
  with_other x d = record d { others = x ∷ d.others }

  -- each way to choose so many, in the order of the first, then of the second, and so on
  unfoldable pub divisions : (size : ℕ) → List X → List (Division X)
  divisions zero xs = record { chosen = []; others = xs } ∷ []
  divisions (suc size) [] = []
  divisions (suc size) (x ∷ xs) = map (with_chosen x) (divisions size xs) ++ map (with_other x) (divisions (suc size) xs)

-- as many loops of the source are left as of the code
abbrev pub is_balanced : Division AnyLoop → Bool
is_balanced d = length (of_code d.others) == length (of_source d.others)

-- ---- choices

abbrev pub counts : (binary source : ℕ) → Counts
counts binary source = record { binary = binary; source = source }

abbrev pub arrivals : List Counts
arrivals = counts 1 1 ∷ counts 1 2 ∷ counts 2 1 ∷ []

-- one arrival more than so many turns: 1, 2, 4, 8 and 16
abbrev pub bounds : List ℕ
bounds = 2 ∷ 3 ∷ 5 ∷ 9 ∷ 17 ∷ []

-- the loops that aren't matched, and those that are; the point of a loop of the source at which a cut is; at which arrivals
-- the cut is reached, from before it and from itself; and which arrival at a loop that isn't matched doesn't come
pub record Choice : Type 0 where
  pub loops : Division AnyLoop
  pub point : LoopPoint
  pub enter : Counts
  pub step : Counts
  pub bound : ℕ

-- the choices where so many loops aren't matched: by the set of these, then by the point, the counts and the bound
abbrev pub choices : (size : ℕ) → List CodeLoop → List SourceLoop → List Choice
choices size code source =
    flat_map (λ (loops : Division AnyLoop). flat_map (λ (point : LoopPoint). flat_map (λ (enter : Counts). flat_map (λ (step : Counts).
    map (λ (bound : ℕ). record { loops = loops; point = point; enter = enter; step = step; bound = bound }) bounds)
    arrivals) arrivals) (Test ∷ Body ∷ [])) (filter is_balanced (divisions size (all_loops code source)))

-- at most so many loops aren't matched
abbrev pub MOST_UNMATCHED : ℕ
MOST_UNMATCHED = 4
