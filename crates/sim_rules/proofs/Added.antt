-- The marks of a side, and the walks that they make.
use Rattle.std.proofs.Common.{◌≡◌, ◌∙◌, ℕ, ◌+◌, ◌<◌, List, [], ◌∷◌, ◌++◌, length, map, take, get_or, refl, sym, ap, ap₂, append_assoc, append-nil}
use Rattle.std.proofs.lemmas.List.{take_more, map-append}
use Rattle.std.proofs.lemmas.Simd.{map-map}
use Rattle.visit_walk_spec.specs.Shape.{Shape}
use Rattle.visit_walk_spec.specs.Visits.{Walk}
use Rattle.graph_core_spec.specs.declared.Mark.{Mark}
use Rattle.proof_tree_spec.specs.Frames as spec
use Rattle.proof_tree.specs.declared.frame.Frame.{Frame}
use Rattle.proof_tree.specs.Frames.{frame_of, goal_of, mark_of}
use Rattle.sim_rules_spec.specs.Rules.{Opening}
use Rattle.sim_rules_spec.specs.Sides.{visit_mark}
use Rattle.sim_rules.specs.declared.change.Change.{Change}
use Rattle.sim_rules.specs.declared.change.Change.TheVariants.{Plain, Holding, Restricting}
use Rattle.sim_rules_spec.specs.declared.Side.{Side}
use Rattle.sim_rules_spec.specs.declared.Side.TheVariants.{Binary, Source}
use Rattle.sim_rules.specs.Made.{IsShapeFor, changed}
use Rattle.sim_rules.specs.Marks.{bounds_with, stop_mark, stops_with}
use Rattle.sim_rules.specs.Sides.{bounds_at, marks_at, side_at, start_at, way_at}

pub added_more : {X Y : Type 0} (f : X → Y) (xs : List X) (i : ℕ) (d : X) (old now : List Y) → i < length xs → now ≡ old ++ map f (take i xs)
    → now ++ f (get_or xs i d) ∷ [] ≡ old ++ map f (take (i + 1) xs)
added_more {X} {Y} f xs i d old now less is =
    ap (λ (l : List Y). l ++ f (get_or xs i d) ∷ []) is
    ∙ append_assoc old (map f (take i xs)) (f (get_or xs i d) ∷ [])
    ∙ ap (λ (l : List Y). old ++ l) (sym (map-append f (take i xs) (get_or xs i d ∷ [])))
    ∙ ap (λ (l : List X). old ++ map f l) (sym (take_more xs i d less))

-- ---- as a rule changes them

pub no_hold : (change : Change) (xs : List Mark) → stops_with change [] ≡ [] → xs ≡ xs ++ stops_with change []
no_hold change xs none = sym (append-nil xs) ∙ ap (λ (l : List Mark). xs ++ l) (sym none)

pub with_stops : (change : Change) (none old xs : List Mark) → none ≡ [] → old ≡ none ++ stops_with change [] → old ++ xs ≡ stops_with change xs
with_stops Plain none old xs e is = ap (λ (l : List Mark). l ++ xs) (is ∙ ap (λ (l : List Mark). l ++ []) e)
with_stops (Holding n) none old xs e is = ap (λ (l : List Mark). l ++ xs) (is ∙ ap (λ (l : List Mark). l ++ stops_with (Holding n) []) e)
with_stops (Restricting b) none old xs e is = ap (λ (l : List Mark). l ++ xs) (is ∙ ap (λ (l : List Mark). l ++ []) e)

-- ---- as the definitions have them

pub stops_are : (f : Frame) (side : Side) → map (stop_mark side) f.goals.items ≡ map visit_mark (marks_at (frame_of f) side)
stops_are f Binary =
    sym (map-map visit_mark (λ (g : spec.Goal). g.binary) (map goal_of f.goals.items) ∙ map-map (λ (g : spec.Goal). visit_mark g.binary) goal_of f.goals.items)
stops_are f Source =
    sym (map-map visit_mark (λ (g : spec.Goal). g.source) (map goal_of f.goals.items) ∙ map-map (λ (g : spec.Goal). visit_mark g.source) goal_of f.goals.items)

-- a mark of the code is one of the definitions
visit_is : (m : Mark) → m ≡ visit_mark m
visit_is m = refl

mark_is : (m : Mark) → m ≡ visit_mark (mark_of m)
mark_is m = refl

pub bounds_are : (bounds : List Mark) → bounds ≡ map visit_mark (map mark_of bounds)
bounds_are [] = refl
bounds_are (m ∷ bounds) = ap₂ (λ (x : Mark) (l : List Mark). x ∷ l) (mark_is m) (bounds_are bounds)

abbrev pub walk_by : Shape → (start : ℕ) → (stops bounds : List Mark) → Walk
walk_by shape start stops bounds = record { shape = shape; start = start; stops = stops; bounds = bounds }

module _ (o : Opening) (f : spec.Frame) (side : Side) where
  pub made_walk : (change : Change) (shape : Shape) (start : ℕ) (stops bounds : List Mark) → IsShapeFor (side_at f side) change shape → start ≡ start_at f side
      → stops ≡ stops_with change (map visit_mark (marks_at f side)) → bounds ≡ bounds_with change (map visit_mark (bounds_at f side))
      → walk_by shape start stops bounds ≡ (changed (way_at o f side) change shape).walk
  made_walk Plain shape start stops bounds e p q r = λ i. walk_by (e i) (p i) (q i) (r i)
  made_walk (Holding n) shape start stops bounds e p q r = λ i. walk_by (e i) (p i) (q i) (r i)
  made_walk (Restricting b) shape start stops bounds e p q r =
      let with_b = r ∙ ap (λ (m : Mark). map visit_mark (bounds_at f side) ++ m ∷ []) (visit_is b) in
      λ i. walk_by shape (p i) (q i) (with_b i)
