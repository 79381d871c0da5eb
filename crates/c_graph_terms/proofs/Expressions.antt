-- An expression by its parts: what each form of expression gives, and the tests of its guards.
use Rattle.std.proofs.Common.{◌≡◌, ◌∙◌, ℕ, ◌<◌, Bool, if◌then◌else◌, List, [], ◌++◌, length, map, refl, ap, subst, append_assoc}
use Rattle.memory_spec.specs.Runs.{Run}
use Rattle.term_core_spec.specs.Term.{Term, not_term}
use Rattle.term_bank.specs.Nodes.{tree_at}
use Rattle.c_types_spec.specs.declared.Scalar.{Scalar}
use Rattle.c_types_spec.specs.declared.Comparison.{Comparison}
use Rattle.c_graph_spec.specs.Values as spec
use Rattle.c_graph_spec.specs.Values.{Terms, of_truth, zero_test, compared, chosen, stored}
use Rattle.c_graph_spec.specs.Guards.{under, write_tests}
use Rattle.c_graph_terms.specs.declared.values.ValueIds.{ValueIds}
use Rattle.c_graph_terms.specs.declared.values.Operands.{Operands}
use Rattle.c_graph_terms.specs.declared.values.Object.{Object}
use Rattle.c_graph_terms.specs.Built.{IsGrown, IsBuilt, AreBuilt, terms_at}
use Rattle.c_graph_terms.specs.Tests.{IsTested, IsEvaluated, AreEvaluated}
use Rattle.c_graph_terms.specs.Accesses.{IsStored}
use Rattle.c_graph_terms.specs.Scenes.{object_at}
use Rattle.c_graph_terms.proofs.Banks.{grown_then, kept, terms_later}
use Rattle.c_graph_terms.proofs.Lists.{tested_then, tested_after, evaluated_then, tested_value, ids_trees}
use Rattle.c_graph_terms.proofs.Made.{terms_are}

-- the object of an assignment stays the same
pub object_later : (a b : List Term) (x : Object) → IsGrown a b → x.base < length a → object_at b x ≡ object_at a x
object_later a b x g below = ap (λ t. spec.object t x.displacement) (kept a b x.base g below)

-- ---- over one value

pub over_one : (a b c : List Term) (i j k : List ℕ) (x ids : ValueIds) (t : Terms) (first : List Term) (f : Term → Terms) (more : Term → List Term) → IsEvaluated a b i j x t first
    → IsEvaluated b c j k ids (f (tree_at b x.word)) (more (tree_at b x.word)) → IsEvaluated a c i k ids (f t.word) (first ++ more t.word)
over_one a b c i j k x ids t first f more p q =
    evaluated_then a b c i j k ids (f t.word) first (more t.word) p.tested (subst (λ s. IsEvaluated b c j k ids (f s) (more s)) p.are.word_is q)

pub value_of_one : (a b c : List Term) (i j : List ℕ) (x ids : ValueIds) (t : Terms) (first : List Term) (f : Term → Terms) → IsEvaluated a b i j x t first
    → AreBuilt b c ids (f (tree_at b x.word)) → IsEvaluated a c i j ids (f t.word) first
value_of_one a b c i j x ids t first f p q =
    tested_value a b c i j ids (f t.word) first p.tested (subst (λ s. AreBuilt b c ids (f s)) p.are.word_is q)

-- the same value, and one test more
pub same_value : (a b c : List Term) (i j k : List ℕ) (x ids : ValueIds) (t : Terms) (first : List Term) (more : Term → List Term) → IsEvaluated a b i j x t first
    → IsEvaluated b c j k ids (terms_at b x) (more (tree_at b x.word)) → IsEvaluated a c i k ids t (first ++ more t.word)
same_value a b c i j k x ids t first more p q =
    let terms : IsEvaluated b c j k ids t (more (tree_at b x.word)) = subst (λ s. IsEvaluated b c j k ids s (more (tree_at b x.word))) (terms_are b x t p.are) q in
    evaluated_then a b c i j k ids t first (more t.word) p.tested (subst (λ s. IsEvaluated b c j k ids t (more s)) p.are.word_is terms)

-- ---- over two values

pub both_values : (a b c : List Term) (i j k : List ℕ) (x y : ValueIds) (s t : Terms) (first second : List Term) → IsEvaluated a b i j x s first → IsEvaluated b c j k y t second
    → AreEvaluated a c i k (record { first = x; second = y }) s t (first ++ second)
both_values a b c i j k x y s t first second p q =
    record {
      tested = tested_then a b c i j k first second p.tested q.tested;
      first_are = terms_later b c x s q.tested.is_grown p.are;
      second_are = q.are;
    }

pub over_two : (a b c : List Term) (i j k : List ℕ) (p : Operands) (ids : ValueIds) (s t : Terms) (first : List Term) (f : Term → Term → Terms) (more : Term → Term → List Term)
    → AreEvaluated a b i j p s t first → IsEvaluated b c j k ids (f (tree_at b p.first.word) (tree_at b p.second.word)) (more (tree_at b p.first.word) (tree_at b p.second.word))
    → IsEvaluated a c i k ids (f s.word t.word) (first ++ more s.word t.word)
over_two a b c i j k p ids s t first f more h q =
    let left : IsEvaluated b c j k ids (f s.word (tree_at b p.second.word)) (more s.word (tree_at b p.second.word)) =
    subst (λ r. IsEvaluated b c j k ids (f r (tree_at b p.second.word)) (more r (tree_at b p.second.word))) h.first_are.word_is q in
    evaluated_then a b c i j k ids (f s.word t.word) first (more s.word t.word) h.tested (subst (λ r. IsEvaluated b c j k ids (f s.word r) (more s.word r)) h.second_are.word_is left)

-- the same, whose tests are those of the first, of the second, and of both
pub operated_two : (a b c : List Term) (i j k : List ℕ) (p : Operands) (ids : ValueIds) (s t : Terms) (first second : List Term) (f : Term → Term → Terms) (more : Term → Term → List Term)
    → AreEvaluated a b i j p s t (first ++ second) → IsEvaluated b c j k ids (f (tree_at b p.first.word) (tree_at b p.second.word)) (more (tree_at b p.first.word) (tree_at b p.second.word))
    → IsEvaluated a c i k ids (f s.word t.word) (first ++ (second ++ more s.word t.word))
operated_two a b c i j k p ids s t first second f more h q =
    subst (IsEvaluated a c i k ids (f s.word t.word)) (append_assoc first second (more s.word t.word)) (over_two a b c i j k p ids s t (first ++ second) f more h q)

pub compared_two : (a b c : List Term) (i j : List ℕ) (p : Operands) (ids : ValueIds) (s t : Terms) (first : List Term) (operator : Comparison) (type : Scalar) (with_zero : Bool)
    → AreEvaluated a b i j p s t first
    → AreBuilt b c ids (of_truth (if with_zero then zero_test operator (tree_at b p.first.truth) else compared operator type (tree_at b p.first.word) (tree_at b p.second.word)))
    → IsEvaluated a c i j ids (of_truth (if with_zero then zero_test operator s.truth else compared operator type s.word t.word)) first
compared_two a b c i j p ids s t first operator type with_zero h q =
    let truth : tree_at b p.first.truth ≡ s.truth = h.first_are.truth_is in
    let left : tree_at b p.first.word ≡ s.word = h.first_are.word_is in
    let right : tree_at b p.second.word ≡ t.word = h.second_are.word_is in
    let test : (if with_zero then zero_test operator (tree_at b p.first.truth) else compared operator type (tree_at b p.first.word) (tree_at b p.second.word))
    ≡ (if with_zero then zero_test operator s.truth else compared operator type s.word t.word) =
    ap (λ (r : Term). if with_zero then zero_test operator r else compared operator type (tree_at b p.first.word) (tree_at b p.second.word)) truth
    ∙ ap (λ (r : Term). if with_zero then zero_test operator s.truth else compared operator type r (tree_at b p.second.word)) left
    ∙ ap (λ (r : Term). if with_zero then zero_test operator s.truth else compared operator type s.word r) right in
    tested_value a b c i j ids _ first h.tested (subst (λ r. AreBuilt b c ids (of_truth r)) test q)

-- ---- an arm: its own tests, each under the condition

pub under_condition : (a b c : List Term) (own i j : List ℕ) (x : ValueIds) (t : Terms) (tests : List Term) (condition : ℕ) → condition < length a → IsEvaluated a b [] own x t tests
    → IsTested b c i j (map (under (tree_at b condition)) (map (tree_at b) own)) → IsEvaluated a c i j x t (map (under (tree_at a condition)) tests)
under_condition a b c own i j x t tests condition below p q =
    let grown = p.tested.is_grown in
    let trees : map (tree_at b) own ≡ tests = ids_trees b own tests (p.tested.added [] refl) in
    let same : map (under (tree_at b condition)) (map (tree_at b) own) ≡ map (under (tree_at a condition)) tests =
    ap (map (under (tree_at b condition))) trees ∙ ap (λ (r : Term). map (under r) tests) (kept a b condition grown below) in
    record {
      tested = tested_after a b c i j (map (under (tree_at a condition)) tests) grown (subst (IsTested b c i j) same q);
      are = terms_later b c x t q.is_grown p.are;
    }

-- ---- a choice

module _ (a b c d e f : List Term) (i j k l : List ℕ) (test first second ids : ValueIds) (n : ℕ) (t u v : Terms) (ts us vs : List Term)
    (test_is : IsEvaluated a b i j test t ts) (first_is : IsEvaluated b c j k first u (map (under (tree_at b test.truth)) us)) (opposite : IsBuilt c d n (not_term (tree_at c test.truth)))
    (second_is : IsEvaluated d e k l second v (map (under (tree_at d n)) vs)) (whole : AreBuilt e f ids (chosen (terms_at e test) (terms_at e first) (terms_at e second))) where
  b_to_c : IsGrown b c
  b_to_c = first_is.tested.is_grown

  d_to_e : IsGrown d e
  d_to_e = second_is.tested.is_grown

  c_to_e : IsGrown c e
  c_to_e = grown_then c d e opposite.is_grown d_to_e

  truth_b : tree_at b test.truth ≡ t.truth
  truth_b = test_is.are.truth_is

  truth_c : tree_at c test.truth ≡ t.truth
  truth_c = kept b c test.truth b_to_c test_is.are.truth_within ∙ truth_b

  first_tests : IsTested b c j k (map (under t.truth) us)
  first_tests = subst (λ (r : Term). IsTested b c j k (map (under r) us)) truth_b first_is.tested

  second_tests : IsTested c e k l (map (under (not_term t.truth)) vs)
  second_tests =
      tested_after c d e k l (map (under (not_term t.truth)) vs) opposite.is_grown
      (subst (λ (r : Term). IsTested d e k l (map (under r) vs)) (opposite.tree ∙ ap not_term truth_c) second_is.tested)

  all_tests : IsTested a e i l (ts ++ (map (under t.truth) us ++ map (under (not_term t.truth)) vs))
  all_tests =
      tested_then a b e i j l ts (map (under t.truth) us ++ map (under (not_term t.truth)) vs) test_is.tested
      (tested_then b c e j k l (map (under t.truth) us) (map (under (not_term t.truth)) vs) first_tests second_tests)

  pub chosen_one : IsEvaluated a f i l ids (chosen t u v) (ts ++ (map (under t.truth) us ++ map (under (not_term t.truth)) vs))
  chosen_one =
      let of_test : terms_at e test ≡ t = terms_are e test t (terms_later b e test t (grown_then b c e b_to_c c_to_e) test_is.are) in
      let of_first : terms_at e first ≡ u = terms_are e first u (terms_later c e first u c_to_e first_is.are) in
      let of_second : terms_at e second ≡ v = terms_are e second v second_is.are in
      let same : chosen (terms_at e test) (terms_at e first) (terms_at e second) ≡ chosen t u v =
      ap (λ (r : Terms). chosen r (terms_at e first) (terms_at e second)) of_test ∙ ap (λ (r : Terms). chosen t r (terms_at e second)) of_first ∙ ap (λ (r : Terms). chosen t u r) of_second in
      tested_value a e f i l ids (chosen t u v) _ all_tests (subst (AreBuilt e f ids) same whole)

-- ---- a store

pub stored_one : (a b c d : List Term) (i j k l : List ℕ) (x v : ValueIds) (id : ℕ) (t u : Terms) (ts us : List Term) (runs : List Run) (type : Scalar) (displacement : ℕ)
    → IsEvaluated a b i j x t ts → IsEvaluated b c j k v u us
    → (let o : Object = record { base = x.word; displacement = displacement } in IsStored c d k l id (stored type (object_at c o) (tree_at c v.word)) (write_tests runs type (object_at c o)))
    → IsStored a d i l id (stored type (spec.object t.word displacement) u.word) (ts ++ (us ++ write_tests runs type (spec.object t.word displacement)))
stored_one a b c d i j k l x v id t u ts us runs type displacement p q r =
    let base : tree_at c x.word ≡ t.word = kept b c x.word q.tested.is_grown p.are.word_within ∙ p.are.word_is in
    let there : IsTested c d k l (write_tests runs type (spec.object t.word displacement)) =
    subst (λ s. IsTested c d k l (write_tests runs type (spec.object s displacement))) base r.tested in
    record {
      tested = tested_then a b d i j l ts (us ++ write_tests runs type (spec.object t.word displacement)) p.tested
          (tested_then b c d j k l us (write_tests runs type (spec.object t.word displacement)) q.tested there);
      within = r.within;
      tree = r.tree ∙ ap (λ s. stored type (spec.object s displacement) (tree_at c v.word)) base ∙ ap (λ s. stored type (spec.object t.word displacement) s) q.are.word_is;
    }
