-- Accesses by their parts.
use Rattle.std.proofs.Common.{◌≡◌, ◌∙◌, ℕ, zero, suc, ◌-◌, ◌/◌, ◌<◌, ◌≤◌, true, refl, arith, List, [], ◌∷◌, ◌++◌, length, map, take, drop, sym, ap, ap₂, subst}
use Rattle.std.proofs.lemmas.List.{take-map, drop-map, length-map}
use Rattle.memory_spec.specs.Runs.{Run}
use Rattle.memory_spec.specs.Viewed.{run_of, runs_of}
use Rattle.memory_spec.specs.declared.Run.{Run as KeptRun}
use Rattle.term_core_spec.specs.declared.Width.{Width}
use Rattle.term_core_spec.specs.Term.{Term, truth, and_term}
use Rattle.term_bank.specs.Nodes.{tree_at}
use Rattle.c_types_spec.specs.declared.Scalar.{Scalar}
use Rattle.c_graph_spec.specs.State.{width_of}
use Rattle.c_graph_spec.specs.Values.{address_of, of_word, loaded, loaded_at, stored, stored_at}
use Rattle.c_graph_spec.specs.Guards.{conjoined, avoids_zone, avoids_fixed, avoids_run, read_tests, write_tests}
use Rattle.c_graph_terms.specs.declared.values.ValueIds.{ValueIds}
use Rattle.c_graph_terms.specs.declared.values.Object.{Object}
use Rattle.c_graph_terms.specs.Built.{IsBuilt, AreBuilt}
use Rattle.c_graph_terms.specs.Tests.{IsTested, IsEvaluated}
use Rattle.c_graph_terms.specs.Accesses.{accessible_at, last_of, read_tests_at, IsStored}
use Rattle.c_graph_terms.specs.Scenes.{object_at}
use Rattle.c_graph_terms.proofs.Banks.{grown_then, kept, built_as, built_then}
use Rattle.c_graph_terms.proofs.Lists.{tested_one, tested_then, tested_more, tested_after, tested_value}
use Rattle.c_graph_terms.proofs.Made.{terms_over}

-- ---- tests of a read

pub read_tested : (a b c : List Term) (i j k : List ℕ) (type : Scalar) (address base first second : ℕ) → address < length a
    → IsBuilt a b first (accessible_at type (tree_at a address) (tree_at a base)) → j ≡ i ++ first ∷ []
    → IsBuilt b c second (avoids_zone (tree_at b address) (last_of type (tree_at b address))) → k ≡ j ++ second ∷ []
    → IsTested a c i k (read_tests_at type (tree_at a address) (tree_at a base))
read_tested a b c i j k type address base first second below one j_is two k_is =
    let here : tree_at b address ≡ tree_at a address = kept a b address one.is_grown below in
    let test : IsBuilt b c second (avoids_zone (tree_at a address) (last_of type (tree_at a address))) =
    subst (λ t. IsBuilt b c second (avoids_zone t (last_of type t))) here two in
    tested_then a b c i j k _ _ (tested_one a b i j first _ one j_is) (tested_one b c j k second _ test k_is)

-- ---- the test of a write

pub fixed_tested : (a b c : List Term) (i j : List ℕ) (type : Scalar) (address last test : ℕ) (runs : List Run) → address < length a → IsBuilt a b last (last_of type (tree_at a address))
    → IsBuilt b c test (avoids_fixed (tree_at b address) (tree_at b last) runs) → j ≡ i ++ test ∷ []
    → IsTested a c i j (avoids_fixed (tree_at a address) (last_of type (tree_at a address)) runs ∷ [])
fixed_tested a b c i j type address last test runs below one two j_is =
    let here : tree_at b address ≡ tree_at a address = kept a b address one.is_grown below in
    let at_last : IsBuilt b c test (avoids_fixed (tree_at b address) (last_of type (tree_at a address)) runs) =
    subst (λ t. IsBuilt b c test (avoids_fixed (tree_at b address) t runs)) one.tree two in
    let whole : IsBuilt b c test (avoids_fixed (tree_at a address) (last_of type (tree_at a address)) runs) =
    subst (λ t. IsBuilt b c test (avoids_fixed t (last_of type (tree_at a address)) runs)) here at_last in
    tested_one a c i j test _ (built_then a b c test _ one.is_grown whole) j_is

-- ---- the tests of runs

abbrev runs_tests : (x e : Term) → List KeptRun → List Term
runs_tests x e runs = map (avoids_run x e) (runs_of runs)

tests_count : (x e : Term) (runs : List KeptRun) → length (runs_tests x e runs) ≡ length runs
tests_count x e runs = length-map (runs_of runs) (avoids_run x e) ∙ length-map runs run_of

front_tests : (x e : Term) (n : ℕ) (runs : List KeptRun) → take n (runs_tests x e runs) ≡ runs_tests x e (take n runs)
front_tests x e n runs = take-map (avoids_run x e) n (runs_of runs) ∙ ap (map (avoids_run x e)) (take-map run_of n runs)

back_tests : (x e : Term) (n : ℕ) (runs : List KeptRun) → drop n (runs_tests x e runs) ≡ runs_tests x e (drop n runs)
back_tests x e n runs = drop-map (avoids_run x e) n (runs_of runs) ∙ ap (map (avoids_run x e)) (drop-map run_of n runs)

pub no_runs : (x e : Term) (n : ℕ) (runs : List KeptRun) → length runs ≡ 0 → truth true ≡ conjoined n (runs_tests x e runs)
unfolding conjoined
no_runs x e zero [] none = refl
no_runs x e (suc n) [] none = refl
no_runs x e n (run ∷ runs) none = absurd (omega (arith, none))

pub one_run : (x e : Term) (n : ℕ) (runs : List KeptRun) (run : KeptRun) → runs ≡ run ∷ [] → length runs ≤ n → avoids_run x e (run_of run) ≡ conjoined n (runs_tests x e runs)
unfolding conjoined
one_run x e zero runs run is short = absurd (omega (arith, short, ap length is))
one_run x e (suc n) runs run is short = ap (λ rs. conjoined (suc n) (runs_tests x e rs)) (sym is)

two_halves : (n : ℕ) (tests : List Term) → 2 ≤ length tests → length tests ≤ n
    → and_term (conjoined (n - 1) (take (length tests / 2) tests)) (conjoined (n - 1) (drop (length tests / 2) tests)) ≡ conjoined n tests
unfolding conjoined
two_halves n [] many short = absurd (omega (arith, many))
two_halves n (test ∷ []) many short = absurd (omega (arith, many))
two_halves zero (test ∷ next ∷ rest) many short = absurd (omega (arith, short))
two_halves (suc n) (test ∷ next ∷ rest) many short =
    let tests : List Term = test ∷ next ∷ rest in
    let one_less : suc n - 1 ≡ n = omega arith in
    ap (λ (k : ℕ). and_term (conjoined k (take (length tests / 2) tests)) (conjoined k (drop (length tests / 2) tests))) one_less

pub halves_built : (a b c d : List Term) (x e first second id n : ℕ) (runs front back : List KeptRun) → x < length a → e < length a → 2 ≤ length runs → length runs ≤ n
    → front ≡ take (length runs / 2) runs → back ≡ drop (length runs / 2) runs
    → IsBuilt a b first (conjoined (n - 1) (runs_tests (tree_at a x) (tree_at a e) front))
    → IsBuilt b c second (conjoined (n - 1) (runs_tests (tree_at b x) (tree_at b e) back))
    → IsBuilt c d id (and_term (tree_at c first) (tree_at c second))
    → IsBuilt a d id (conjoined n (runs_tests (tree_at a x) (tree_at a e) runs))
halves_built a b c d x e first second id n runs front back x_in e_in many short front_is back_is one two three =
    let p : Term = tree_at a x in
    let q : Term = tree_at a e in
    let tests : List Term = runs_tests p q runs in
    let count : length tests ≡ length runs = tests_count p q runs in
    let half : ℕ = length runs / 2 in
    let front_there : runs_tests p q front ≡ take (length tests / 2) tests =
    ap (runs_tests p q) front_is ∙ sym (front_tests p q half runs) ∙ ap (λ k. take (k / 2) tests) (sym count) in
    let back_there : runs_tests p q back ≡ drop (length tests / 2) tests =
    ap (runs_tests p q) back_is ∙ sym (back_tests p q half runs) ∙ ap (λ k. drop (k / 2) tests) (sym count) in
    let left : tree_at c first ≡ conjoined (n - 1) (take (length tests / 2) tests) =
    kept b c first two.is_grown one.within ∙ one.tree ∙ ap (conjoined (n - 1)) front_there in
    let right : tree_at c second ≡ conjoined (n - 1) (drop (length tests / 2) tests) =
    two.tree ∙ ap₂ (λ s t. conjoined (n - 1) (runs_tests s t back)) (kept a b x one.is_grown x_in) (kept a b e one.is_grown e_in) ∙ ap (conjoined (n - 1)) back_there in
    built_then a c d id _ (grown_then a b c one.is_grown two.is_grown)
    (built_as c d id _ _ (ap₂ and_term left right ∙ two_halves n tests (omega (arith, count, many)) (omega (arith, count, short))) three)

-- ---- reads

pub read_there : (a b c d : List Term) (i j : List ℕ) (type : Scalar) (width : Width) (address w : ℕ) (ids : ValueIds) (tests : List Term) → address < length a → IsTested a b i j tests
    → IsBuilt b c w (loaded_at width (tree_at b address)) → AreBuilt c d ids (of_word type (tree_at c w)) → IsEvaluated a d i j ids (of_word type (loaded_at width (tree_at a address))) tests
read_there a b c d i j type width address w ids tests below one two three =
    let here : loaded_at width (tree_at b address) ≡ loaded_at width (tree_at a address) = ap (loaded_at width) (kept a b address one.is_grown below) in
    tested_value a b d i j ids _ tests one (terms_over b c d w _ ids (of_word type) (built_as b c w _ _ here two) three)

pub read_it : (a b c : List Term) (i j : List ℕ) (type : Scalar) (x : Object) (address : ℕ) (ids : ValueIds) → x.base < length a → IsBuilt a b address (address_of (object_at a x))
    → IsEvaluated b c i j ids (of_word type (loaded_at (width_of type) (tree_at b address))) (read_tests_at type (tree_at b address) (tree_at b x.base))
    → IsEvaluated a c i j ids (of_word type (loaded type (object_at a x))) (read_tests type (object_at a x))
read_it a b c i j type x address ids below one two =
    let base : tree_at b x.base ≡ tree_at a x.base = kept a b x.base one.is_grown below in
    let there : IsEvaluated b c i j ids (of_word type (loaded_at (width_of type) (address_of (object_at a x)))) (read_tests_at type (address_of (object_at a x)) (tree_at b x.base)) =
    subst (λ t. IsEvaluated b c i j ids (of_word type (loaded_at (width_of type) t)) (read_tests_at type t (tree_at b x.base))) one.tree two in
    let whole : IsEvaluated b c i j ids (of_word type (loaded type (object_at a x))) (read_tests type (object_at a x)) =
    subst (λ t. IsEvaluated b c i j ids (of_word type (loaded_at (width_of type) (address_of (object_at a x)))) (read_tests_at type (address_of (object_at a x)) t)) base there in
    record { tested = tested_after a b c i j (read_tests type (object_at a x)) one.is_grown whole.tested; are = whole.are }

-- ---- writes

pub written_there : (a b c : List Term) (i j : List ℕ) (width : Width) (address x id : ℕ) (tests : List Term) → address < length a → x < length a → IsTested a b i j tests
    → IsBuilt b c id (stored_at width (tree_at b address) (tree_at b x)) → IsStored a c i j id (stored_at width (tree_at a address) (tree_at a x)) tests
written_there a b c i j width address x id tests address_in x_in one two =
    let same : stored_at width (tree_at b address) (tree_at b x) ≡ stored_at width (tree_at a address) (tree_at a x) =
    ap₂ (stored_at width) (kept a b address one.is_grown address_in) (kept a b x one.is_grown x_in) in
    record { tested = tested_more a b c i j tests one two.is_grown; within = two.within; tree = two.tree ∙ same }

pub written_it : (a b c d : List Term) (i j k : List ℕ) (type : Scalar) (object : Object) (runs : List Run) (address x id : ℕ) → object.base < length a → x < length a
    → IsBuilt a b address (address_of (object_at a object)) → IsTested b c i j (read_tests_at type (tree_at b address) (tree_at b object.base))
    → IsStored c d j k id (stored_at (width_of type) (tree_at c address) (tree_at c x)) (avoids_fixed (tree_at c address) (last_of type (tree_at c address)) runs ∷ [])
    → IsStored a d i k id (stored type (object_at a object) (tree_at a x)) (write_tests runs type (object_at a object))
written_it a b c d i j k type object runs address x id object_in x_in one two three =
    let base : tree_at b object.base ≡ tree_at a object.base = kept a b object.base one.is_grown object_in in
    let there : tree_at c address ≡ address_of (object_at a object) = kept b c address two.is_grown one.within ∙ one.tree in
    let word : tree_at c x ≡ tree_at a x = kept a c x (grown_then a b c one.is_grown two.is_grown) x_in in
    let reads : IsTested b c i j (read_tests type (object_at a object)) =
    subst (λ t. IsTested b c i j (read_tests_at type (address_of (object_at a object)) t)) base
    (subst (λ t. IsTested b c i j (read_tests_at type t (tree_at b object.base))) one.tree two) in
    let write : IsTested c d j k (avoids_fixed (address_of (object_at a object)) (last_of type (address_of (object_at a object))) runs ∷ []) =
    subst (λ t. IsTested c d j k (avoids_fixed t (last_of type t) runs ∷ [])) there three.tested in
    record {
      tested = tested_after a b d i k _ one.is_grown (tested_then b c d i j k _ _ reads write);
      within = three.within;
      tree = three.tree ∙ ap₂ (stored_at (width_of type)) there word;
    }
