-- Trees of tests, and frames, as they are made.
use Rattle.std.proofs.Common.{◌≡◌, ◌∙◌, ℕ, ◌+◌, ◌<◌, ◌≤◌, Box, Global, List, [], ◌∷◌, ◌++◌, length, map, take, get_or, refl, sym, ap, ap₂, arith, append_assoc, append-nil}
use Rattle.std.proofs.lemmas.List.{length-map, take_more, take_all, map_push, map_more, length-take-le}
use Rattle.std.proofs.lemmas.Option.{get_or_from_slice_get}
use Rattle.term_core_spec.specs.Term.{Term}
use Rattle.term_core.specs.declared.term.Term.{Term as CodeTerm}
use Rattle.term_core.specs.Trees.{term_of}
use Rattle.term_bank.specs.Nodes.{tree_at, Holds}
use Rattle.graph_core.specs.Graphs.{boxed_term}
use Rattle.graph_core_spec.specs.declared.Mark.{Mark}
use Rattle.proof_tree_spec.specs.Frames.{Frame, Start, Goal, Hold}
use Rattle.proof_tree.specs.declared.frame.Premise.{Premise}
use Rattle.proof_tree.specs.Frames as frames
use Rattle.proof_tree.specs.Frames.{side_of, terms_of}
use Rattle.proof_tree.specs.Scope.{setting_of}
use Rattle.cert_check_frames.specs.declared.jobs.Branch.{Branch}
use Rattle.cert_check_frames.specs.declared.listed.Listed.{Listed}
use Rattle.cert_check_frames.specs.Listed.{frame_at, start_with}
use Rattle.cert_check_frames.specs.Jobs.{premise_of, test_at, tests_at, premises_with, frame_with}

-- the tree that a bank holds
pub tree_held : (trees : List Term) (id : ℕ) (t : Term) → Holds trees id t → t ≡ tree_at trees id
tree_held trees id t held = sym (get_or_from_slice_get trees id t _ held)

-- ---- tests

pub test_added : (trees : List Term) (branches : List Branch) (i : ℕ) (d : Branch) (old new : List (Box CodeTerm Global)) (x : Box CodeTerm Global) → i < length branches
    → map boxed_term old ≡ tests_at trees (take i branches) → new ≡ old ++ x ∷ [] → term_of x.value ≡ tree_at trees (get_or branches i d).test
    → map boxed_term new ≡ tests_at trees (take (i + 1) branches)
test_added trees branches i d old new x within before now made =
    ap (map boxed_term) now ∙ map_push boxed_term old x
    ∙ ap₂ (λ (l : List Term) (t : Term). l ++ t ∷ []) before made
    ∙ sym (map_more (test_at trees) branches i d within)

pub all_tests : (trees : List Term) (branches : List Branch) (i : ℕ) (tests : List (Box CodeTerm Global)) → length branches ≤ i
    → map boxed_term tests ≡ tests_at trees (take i branches) → map boxed_term tests ≡ tests_at trees branches
all_tests trees branches i tests past are = are ∙ ap (tests_at trees) (take_all i branches past)

-- there is a test for each branch
pub same_count : (trees : List Term) (branches : List Branch) (tests : List (Box CodeTerm Global)) → map boxed_term tests ≡ tests_at trees branches → length branches ≡ length tests
same_count trees branches tests are = sym (length-map branches (test_at trees)) ∙ ap length (sym are) ∙ length-map tests boxed_term

-- ---- premises

pub premise_added : (first terms : List Term) (old new : List Premise) (p : Premise) (t : Term) → map frames.premise_of old ≡ first ++ terms → new ≡ old ++ p ∷ []
    → frames.premise_of p ≡ t → map frames.premise_of new ≡ first ++ (terms ++ t ∷ [])
premise_added first terms old new p t before now made =
    ap (map frames.premise_of) now ∙ map_push frames.premise_of old p
    ∙ ap₂ (λ (l : List Term) (x : Term). l ++ x ∷ []) before made
    ∙ append_assoc first terms (t ∷ [])

pub all_entry : (first : List Term) (entry : List (Box CodeTerm Global)) (i : ℕ) (premises : List Premise) → length entry ≤ i
    → map frames.premise_of premises ≡ first ++ terms_of (take i entry) → map frames.premise_of premises ≡ first ++ terms_of entry
all_entry first entry i premises past are = are ∙ ap (λ (l : List (Box CodeTerm Global)). first ++ terms_of l) (take_all i entry past)

with_push : (branches : List Branch) (tests : List Term) (b : Branch) (t : Term) → length branches ≡ length tests
    → premises_with (branches ++ b ∷ []) (tests ++ t ∷ []) ≡ premises_with branches tests ++ premise_of b t ∷ []
unfolding premises_with
with_push [] [] b t same = refl
with_push [] (u ∷ tests) b t same = absurd (omega (arith, same))
with_push (a ∷ branches) [] b t same = absurd (omega (arith, same))
with_push (a ∷ branches) (u ∷ tests) b t same = ap (λ (l : List Term). premise_of a u ∷ l) (with_push branches tests b t (omega (arith, same)))

-- the premises of so many branches
abbrev pub with_first : List Branch → List (Box CodeTerm Global) → ℕ → List Term
with_first branches tests i = premises_with (take i branches) (map boxed_term (take i tests))

with_more : (branches : List Branch) (tests : List (Box CodeTerm Global)) (i : ℕ) (b : Branch) (x : Box CodeTerm Global) → length branches ≡ length tests → i < length branches
    → with_first branches tests (i + 1) ≡ with_first branches tests i ++ premise_of (get_or branches i b) (boxed_term (get_or tests i x)) ∷ []
with_more branches tests i b x same within =
    let fits : i < length tests = omega (arith, same, within) in
    let count : length (take i branches) ≡ length (map boxed_term (take i tests)) =
    length-take-le i branches (omega (arith, within)) ∙ sym (length-map (take i tests) boxed_term ∙ length-take-le i tests (omega (arith, fits))) in
    ap₂ premises_with (take_more branches i b within) (map_more boxed_term tests i x fits)
    ∙ with_push (take i branches) (map boxed_term (take i tests)) (get_or branches i b) (boxed_term (get_or tests i x)) count

pub no_branches : (first : List Term) → first ≡ first ++ premises_with [] []
unfolding premises_with
no_branches first = sym (append-nil first)

pub branch_added : (first : List Term) (branches : List Branch) (tests : List (Box CodeTerm Global)) (i : ℕ) (d : Branch) (x : Box CodeTerm Global) (old new : List Premise) (p : Premise)
    → length branches ≡ length tests → i < length branches → x ≡ get_or tests i x → map frames.premise_of old ≡ first ++ with_first branches tests i
    → new ≡ old ++ p ∷ [] → frames.premise_of p ≡ premise_of (get_or branches i d) (term_of x.value) → map frames.premise_of new ≡ first ++ with_first branches tests (i + 1)
branch_added first branches tests i d x old new p same within is_test before now made =
    premise_added first (with_first branches tests i) old new p (premise_of (get_or branches i d) (boxed_term (get_or tests i x))) before now
    (made ∙ ap (λ (y : Box CodeTerm Global). premise_of (get_or branches i d) (boxed_term y)) is_test)
    ∙ ap (λ (l : List Term). first ++ l) (sym (with_more branches tests i d x same within))

pub all_branches : (first : List Term) (branches : List Branch) (tests : List (Box CodeTerm Global)) (i : ℕ) (premises : List Premise) → length branches ≡ length tests
    → length branches ≤ i → map frames.premise_of premises ≡ first ++ with_first branches tests i
    → map frames.premise_of premises ≡ first ++ premises_with branches (map boxed_term tests)
all_branches first branches tests i premises same past are =
    let also : length tests ≤ i = omega (arith, same, past) in
    are ∙ ap (λ (l : List Term). first ++ l) (ap₂ (λ (l : List Branch) (m : List (Box CodeTerm Global)). premises_with l (map boxed_term m)) (take_all i branches past) (take_all i tests also))

-- of an empty list
pub premises_made : (entry : List (Box CodeTerm Global)) (branches : List Branch) (tests : List (Box CodeTerm Global)) (none one both : List Premise) → none ≡ []
    → map frames.premise_of one ≡ map frames.premise_of none ++ terms_of entry → map frames.premise_of both ≡ map frames.premise_of one ++ premises_with branches (map boxed_term tests)
    → map frames.premise_of both ≡ terms_of entry ++ premises_with branches (map boxed_term tests)
premises_made entry branches tests none one both empty first second =
    second ∙ ap (λ (l : List Term). l ++ premises_with branches (map boxed_term tests)) (first ∙ ap (λ (l : List Premise). map frames.premise_of l ++ terms_of entry) empty)

-- ---- the frame

abbrev frame_by : Listed → Start → List Goal → List Hold → Frame
frame_by f start goals holds = record {
  binary = side_of f.binary;
  source = side_of f.source;
  setting = setting_of f.setting.now;
  entry = terms_of f.entry.now;
  start = start;
  goals = goals;
  holds = holds;
}

pub frame_made : (f : Listed) (premises more : List Term) (start : Start) (goals : List Goal) (holds : List Hold) → start ≡ start_with f premises → premises ≡ terms_of f.entry.now ++ more
    → goals ≡ [] → holds ≡ [] → frame_by f start goals holds ≡ frame_with (frame_at f) more
frame_made f premises more start goals holds is are no_goal no_hold =
    ap (λ (s : Start). frame_by f s goals holds) (is ∙ ap (start_with f) are)
    ∙ ap₂ (λ (l : List Goal) (m : List Hold). frame_by f (start_with f (terms_of f.entry.now ++ more)) l m) no_goal no_hold

-- ---- where a frame starts

abbrev start_by : Listed → List Term → (binary source : ℕ) → List Mark → List Mark → Start
start_by f premises b s binary_bounds source_bounds = record {
  nodes = record { binary = b; source = s };
  path = f.path.now;
  premises = premises;
  binary_bounds = binary_bounds;
  source_bounds = source_bounds;
}

pub start_made : (f : Listed) (premises : List Term) (b s : ℕ) (binary_bounds source_bounds : List Mark) → b ≡ f.nodes.binary → s ≡ f.nodes.source → binary_bounds ≡ [] → source_bounds ≡ []
    → start_by f premises b s binary_bounds source_bounds ≡ start_with f premises
start_made f premises b s binary_bounds source_bounds is_binary is_source none_binary none_source =
    ap₂ (λ (x y : ℕ). start_by f premises x y binary_bounds source_bounds) is_binary is_source
    ∙ ap₂ (λ (l m : List Mark). start_by f premises f.nodes.binary f.nodes.source l m) none_binary none_source
