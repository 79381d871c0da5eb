-- What the rule on loads gives of a memory is no load but of a variable.
use Rattle.std.proofs.Common.{◌≡◌, ℕ, Bool, true, false, cond, List, [], ◌∷◌, Option, Some, None, refl, subst}
use Rattle.std.specs.Prelude.{◌&&◌}
use Rattle.term_core_spec.specs.declared.Width.TheVariants.{W8, W32, W64}
use Rattle.term_core_spec.specs.declared.Sort.{Sort}
use Rattle.term_core_spec.specs.declared.Sort.TheVariants as sort
use Rattle.term_core_spec.specs.declared.Atom.TheVariants as atom
use Rattle.term_core_spec.specs.declared.UnaryOperator.TheVariants as unary
use Rattle.term_core_spec.specs.declared.BinaryOperator.{BinaryOperator}
use Rattle.term_core_spec.specs.declared.BinaryOperator.TheVariants as binary
use Rattle.term_core_spec.specs.declared.TernaryOperator.TheVariants as ternary
use Rattle.term_core_spec.specs.declared.QuaternaryOperator.TheVariants as quaternary
use Rattle.term_core_spec.specs.Term.{Term, Leaf, Unary, Binary, Ternary, Quaternary, Octonary, not_term, load, choose}
use Rattle.term_core_spec.specs.Sort.{all_bytes, sort_of, sort_of_atom, sort_of_unary, sort_of_binary, sort_of_ternary, sort_of_quaternary}
use Rattle.term_core_spec.specs.Same.{same_term}
use Rattle.term_core_spec.proofs.Sorts.{sort_if-some, with_one-some, with_two-some, with_three-some, with_four-some, load_is}
use Rattle.memory_spec.specs.Runs.{Run, fixed_byte}
use Rattle.term_norm_spec.specs.Patterns.{is_true, is_false, is_constant, is_source_memory, number_of}
use Rattle.term_norm_spec.specs.Normal.{normal_not, normal_and, normal_equal, normal_less, normal_choose, byte_or, load_of_variable, normal_load, normal_binary}
use Rattle.term_norm_spec.proofs.Truths.{sort-under_not, keeps_not, keeps_and}
use Rattle.term_norm_spec.proofs.Words.{keeps_less}
use Rattle.term_norm_spec.proofs.Equals.{words, keeps_equal}
use Rattle.term_norm_spec.proofs.Loads.{choose_is}
use Rattle.term_norm_spec.proofs.Forms.{IsNormal}
use Rattle.bit_blast_laws.specs.Back.{IfFromVariable}
use Rattle.mem_terms_spec.specs.Assignments.{LoadsFromVariables}
use Rattle.bit_blast_laws.proofs.Sorts.{byte_parts, no_memory, unary_no_memory, binary_no_memory, store_is, over_is}

root : (t : Term) → LoadsFromVariables t → IfFromVariable t
unfolding LoadsFromVariables
root (Leaf leaf) all = tt
root (Unary operator a) all = tt
root (Binary operator a b) all = all.0
root (Ternary operator a b c) all = tt
root (Quaternary operator a b c d) all = tt
root (Octonary a b c d e f g h) all = tt

-- a truth value is no load
truth_root : (t : Term) → sort_of t ≡ Some sort.Truth → IfFromVariable t
truth_root (Leaf leaf) h = tt
truth_root (Unary operator a) h = tt
truth_root (Binary binary.Load m d) h = let is = (load_is m d sort.Truth h).0 in absurd (cc)
truth_root (Binary binary.And a b) h = tt
truth_root (Binary binary.Or a b) h = tt
truth_root (Binary binary.Equal a b) h = tt
truth_root (Binary binary.Less a b) h = tt
truth_root (Binary (binary.Word operator) a b) h = tt
truth_root (Binary binary.Join a b) h = tt
truth_root (Ternary operator a b c) h = tt
truth_root (Quaternary operator a b c d) h = tt
truth_root (Octonary a b c d e f g i) h = tt

pick : (test : Bool) (x y : Term) → IfFromVariable x → IfFromVariable y → IfFromVariable (cond test x y)
pick true x y fx fy = fx
pick false x y fx fy = fy

arm : (c x y otherwise : Term) → IfFromVariable c → IfFromVariable x → IfFromVariable y → IfFromVariable otherwise
    → IfFromVariable (cond (is_true c) x (cond (is_false c) y (cond (same_term x y) x (cond (is_true x && is_false y) c otherwise))))
arm c x y otherwise fc fx fy fo =
    pick (is_true c) _ _ fx (pick (is_false c) _ _ fy (pick (same_term x y) _ _ fx (pick (is_true x && is_false y) _ _ fc fo)))

chosen : (c x y : Term) → sort_of c ≡ Some sort.Truth → IfFromVariable x → IfFromVariable y → IfFromVariable (normal_choose c x y)
unfolding normal_choose
chosen (Unary unary.Not c) x y h fx fy = arm (not_term c) x y (normal_choose c y x) tt fx fy (chosen c y x (sort-under_not c h) fy fx)
chosen c x y h fx fy = arm c x y (choose c x y) (truth_root c h) fx fy tt

byte_root : (o : Option ℕ) (t : Term) → IfFromVariable t → IfFromVariable (byte_or o t)
byte_root (Some number) t f = tt
byte_root None t f = f

module _ (runs : List Run) where
  loaded : (m d : Term) → LoadsFromVariables m → sort_of m ≡ Some sort.Memory → sort_of d ≡ Some (sort.Word W32) → IfFromVariable (normal_load runs m d)
  unfolding normal_load load_of_variable LoadsFromVariables sort_of sort_of_atom sort_of_quaternary
  loaded (Ternary ternary.Store m a b) d all hm hd =
      let is = store_is m a b hm in
      chosen (normal_equal d a) b (normal_load runs m d) (keeps_equal runs d a (words W32 hd is.1)).sorted (root b all.2) (loaded m d all.0 is.0 hd)
  loaded (Quaternary quaternary.Over m z from to) d all hm hd =
      let is = over_is m z from to hm in
      let below = (keeps_not runs (normal_less d from) (keeps_less runs W32 d from hd is.2).sorted).sorted in
      chosen (normal_and (normal_not (normal_less d from)) (normal_less d to)) (normal_load runs z d) (normal_load runs m d)
      (keeps_and runs (normal_not (normal_less d from)) (normal_less d to) below (keeps_less runs W32 d to hd is.3).sorted).sorted
      (loaded z d all.1 is.1 hd) (loaded m d all.0 is.0 hd)
  loaded (Ternary ternary.Choose c m n) d all hm hd =
      let is = choose_is c m n sort.Memory hm in
      chosen c (normal_load runs m d) (normal_load runs n d) is.0 (loaded m d all.1 is.1 hd) (loaded n d all.2 is.2 hd)
  loaded (Leaf (atom.Open v)) d all hm hd =
      pick (is_source_memory (Leaf (atom.Open v)) && is_constant d) _ _ (byte_root (fixed_byte runs (number_of d)) (load (Leaf (atom.Open v)) d) tt) tt
  loaded (Leaf (atom.Truth b)) d all hm hd = absurd (cc)
  loaded (Leaf (atom.Constant w n)) d all hm hd = absurd (no_memory _ _ (λ t. refl) hm)
  loaded (Unary operator a) d all hm hd =
      let parts = with_one-some (sort_of_unary operator) (sort_of a) sort.Memory hm in absurd (unary_no_memory operator parts.0 parts.2)
  loaded (Binary operator a b) d all hm hd =
      let parts = with_two-some (sort_of_binary operator) (sort_of a) (sort_of b) sort.Memory hm in absurd (binary_no_memory operator parts.0 parts.1 parts.4)
  loaded (Quaternary quaternary.Join a b c e) d all hm hd =
      let parts = with_four-some (sort_of_quaternary quaternary.Join) (sort_of a) (sort_of b) (sort_of c) (sort_of e) sort.Memory hm in
      absurd (no_memory _ _ (λ t. refl) parts.8)
  loaded (Octonary a b c e f g h i) d all hm hd = absurd (no_memory _ _ (λ t. refl) hm)

  binary_root : (operator : BinaryOperator) (x y : Term) (s : Sort) → sort_of (Binary operator x y) ≡ Some s → LoadsFromVariables x
      → normal_binary runs operator x y ≡ Binary operator x y → IfFromVariable (Binary operator x y)
  unfolding normal_binary
  binary_root binary.Load m d s h all e = let is = load_is m d s h in subst IfFromVariable e (loaded m d all is.1 is.2)
  binary_root binary.And x y s h all e = tt
  binary_root binary.Or x y s h all e = tt
  binary_root binary.Equal x y s h all e = tt
  binary_root binary.Less x y s h all e = tt
  binary_root (binary.Word operator) x y s h all e = tt
  binary_root binary.Join x y s h all e = tt

  pub from_variables : (t : Term) (s : Sort) → sort_of t ≡ Some s → IsNormal runs t → LoadsFromVariables t
  unfolding LoadsFromVariables IsNormal sort_of
  from_variables (Leaf leaf) s h n = tt
  from_variables (Unary operator a) s h n =
      let parts = with_one-some (sort_of_unary operator) (sort_of a) s h in from_variables a parts.0 parts.1 n.0
  from_variables (Binary operator a b) s h n =
      let parts = with_two-some (sort_of_binary operator) (sort_of a) (sort_of b) s h in
      let first = from_variables a parts.0 parts.2 n.0 in
      (binary_root operator a b s h first n.2, first, from_variables b parts.1 parts.3 n.1)
  from_variables (Ternary operator a b c) s h n =
      let parts = with_three-some (sort_of_ternary operator) (sort_of a) (sort_of b) (sort_of c) s h in
      (from_variables a parts.0 parts.3 n.0, from_variables b parts.1 parts.4 n.1, from_variables c parts.2 parts.5 n.2)
  from_variables (Quaternary operator a b c d) s h n =
      let parts = with_four-some (sort_of_quaternary operator) (sort_of a) (sort_of b) (sort_of c) (sort_of d) s h in
      (from_variables a parts.0 parts.4 n.0, from_variables b parts.1 parts.5 n.1, from_variables c parts.2 parts.6 n.2, from_variables d parts.3 parts.7 n.3)
  from_variables (Octonary a b c d i j k l) s h (na, nb, nc, nd, ni, nj, nk, nl, e) =
      let tests = sort_if-some (all_bytes (sort_of a ∷ sort_of b ∷ sort_of c ∷ sort_of d ∷ sort_of i ∷ sort_of j ∷ sort_of k ∷ sort_of l ∷ [])) (sort.Word W64) s h in
      let pa = byte_parts (sort_of a) (sort_of b ∷ sort_of c ∷ sort_of d ∷ sort_of i ∷ sort_of j ∷ sort_of k ∷ sort_of l ∷ []) tests.0 in
      let pb = byte_parts (sort_of b) (sort_of c ∷ sort_of d ∷ sort_of i ∷ sort_of j ∷ sort_of k ∷ sort_of l ∷ []) pa.1 in
      let pc = byte_parts (sort_of c) (sort_of d ∷ sort_of i ∷ sort_of j ∷ sort_of k ∷ sort_of l ∷ []) pb.1 in
      let pd = byte_parts (sort_of d) (sort_of i ∷ sort_of j ∷ sort_of k ∷ sort_of l ∷ []) pc.1 in
      let pi = byte_parts (sort_of i) (sort_of j ∷ sort_of k ∷ sort_of l ∷ []) pd.1 in
      let pj = byte_parts (sort_of j) (sort_of k ∷ sort_of l ∷ []) pi.1 in
      let pk = byte_parts (sort_of k) (sort_of l ∷ []) pj.1 in
      let pl = byte_parts (sort_of l) [] pk.1 in (
        from_variables a (sort.Word W8) pa.0 na,
        from_variables b (sort.Word W8) pb.0 nb,
        from_variables c (sort.Word W8) pc.0 nc,
        from_variables d (sort.Word W8) pd.0 nd,
        from_variables i (sort.Word W8) pi.0 ni,
        from_variables j (sort.Word W8) pj.0 nj,
        from_variables k (sort.Word W8) pk.0 nk,
        from_variables l (sort.Word W8) pl.0 nl,
      )
