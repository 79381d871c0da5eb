-- What is found of functions, one after the other, and the parts and names that are made of it.
use Rattle.std.proofs.Common.{◌≡◌, ◌∙◌, ◌+◌, ◌<◌, ◌≤◌, ℕ, zero, suc, Option, Some, None, List, [], ◌∷◌, ◌++◌, length, map, take, drop, get_or, inl, inr, refl, sym, ap, ap₂, subst, arith, append_assoc, append-nil}
use Rattle.std.specs.Prelude.{All, option_map, slice_get}
use Rattle.std.proofs.lemmas.Bool.{cases_lt}
use Rattle.std.proofs.lemmas.List.{length-append, length-map, map_push, take_all}
use Rattle.std.proofs.lemmas.List.Elements.{All-contains}
use Rattle.std.proofs.lemmas.Option.{same_Some, slice_get-get_or, slice_get-map, slice_get_within, get_or_from_slice_get}
use Rattle.cert_text_spec.specs.Lines as lines
use Rattle.cert_check_spec.specs.Verdict as spec
use Rattle.cert_check_frames.specs.declared.listed.Listed.{Listed}
use Rattle.cert_check_frames.specs.Listed.{AreListed, IsListed}
use Rattle.prove_run_spec.specs.Proofs.{HasTruths}
use Rattle.prove_run_spec.specs.Trails as trails
use Rattle.prove_run_spec.specs.Trails.{IsFound, AreFound}
use Rattle.prove_run_spec.specs.Written.{Failure, part_lines, parts_lines, proof_lines, failures}
use Rattle.prove_run.specs.declared.trail.Found.{Found}
use Rattle.prove_run.specs.declared.trail.Found.TheVariants.{Proved, Unproved}
use Rattle.prove_run.specs.Found.{found_of, logs_of, trail_of}
use Rattle.prove_run.specs.Written.{part_of, parts_of}
use Rattle.prove_run.specs.declared.trail.Trail.{Trail}
use Rattle.prove_run.specs.declared.trails.Unproved.{Unproved as Failing}
use Rattle.prove_run.specs.Trails.{failure_in, failure_of, failures_in, failures_of}

-- ---- lists

earlier_item : {X : Type 0} (xs : List X) (x y : X) (k : ℕ) → k < length xs → slice_get (xs ++ x ∷ []) k ≡ Some y → slice_get xs k ≡ Some y
earlier_item [] x y k below there = absurd (omega (arith, below))
earlier_item (z ∷ xs) x y zero below there = there
earlier_item (z ∷ xs) x y (suc k) below there = earlier_item xs x y k (omega (arith, below)) there

last_item : {X : Type 0} (xs : List X) (x y : X) → slice_get (xs ++ x ∷ []) (length xs) ≡ Some y → x ≡ y
last_item [] x y there = same_Some x y there
last_item (z ∷ xs) x y there = last_item xs x y there

-- ---- what is found

module _ (codes : List Listed) where
  -- of the first functions
  pub record AreSoFar (index : ℕ) (all : List Found) : Type 0 where
    pub count : length all ≡ index
    pub within : index ≤ length codes
    pub each : (functions : List spec.Listed) → AreListed codes functions → All HasTruths functions → (k : ℕ) (f : spec.Listed) (one : Found) → slice_get functions k ≡ Some f
        → slice_get all k ≡ Some one → IsFound f (found_of one)

  none_some : (one : Found) → None ≡ Some one → ⊥
  none_some one e = cc

  pub none_found : (all : List Found) → all ≡ [] → AreSoFar 0 all
  none_found all none = record {
    count = ap length none;
    within = omega arith;
    each = λ functions are truths k f one there at. absurd (none_some one (ap (λ (l : List Found). slice_get l k) (sym none) ∙ at));
  }

  pub one_found : (index : ℕ) (old new : List Found) (one : Found) (function d : Listed) → AreSoFar index old → index < length codes → function ≡ get_or codes index d
      → new ≡ old ++ one ∷ []
      → ((f : spec.Listed) → IsListed function f → HasTruths f → IsFound f (found_of one)) → AreSoFar (index + 1) new
  one_found index old new one function d before below is pushed found = record {
    count = omega (arith, ap length pushed, length-append old (one ∷ []), before.count);
    within = omega (arith, below);
    each = each;
  }
    where
      long : length new ≡ index + 1
      long = omega (arith, ap length pushed, length-append old (one ∷ []), before.count)

      at_end : (functions : List spec.Listed) → AreListed codes functions → All HasTruths functions → (f : spec.Listed) (other : Found) → slice_get functions index ≡ Some f
          → slice_get new index ≡ Some other → IsFound f (found_of other)
      at_end functions are truths f other there at =
          subst (λ (x : Found). IsFound f (found_of x))
          (last_item old one other (ap₂ (λ (l : List Found) (k : ℕ). slice_get l k) (sym pushed) before.count ∙ at))
          (found f (are.each index function f (slice_get-get_or codes index d below ∙ ap Some (sym is)) there)
          (subst HasTruths (get_or_from_slice_get functions index f f there) (truths index f (slice_get_within functions index f there))))

      each : (functions : List spec.Listed) → AreListed codes functions → All HasTruths functions → (k : ℕ) (f : spec.Listed) (other : Found) → slice_get functions k ≡ Some f
          → slice_get new k ≡ Some other → IsFound f (found_of other)
      each functions are truths k f other there at = elim (cases_lt k index) [
        | inl earlier ↦
            before.each functions are truths k f other there
            (earlier_item old one other k (omega (arith, earlier, before.count)) (ap (λ (l : List Found). slice_get l k) (sym pushed) ∙ at))
        | inr later ↦
            let here : k ≡ index = omega (arith, later, long, slice_get_within new k other at) in
            at_end functions are truths f other (ap (slice_get functions) (sym here) ∙ there) (ap (slice_get new) (sym here) ∙ at)
      ]

  -- an item of a list of what was found, as the definitions have it
  mapped_item : (all : List Found) (k : ℕ) (x : trails.Found) → slice_get (map found_of all) k ≡ Some x → (one : Found) × (slice_get all k ≡ Some one) × (found_of one ≡ x)
  mapped_item all k x there = by (slice_get all k) refl
    where
      by : (o : Option Found) → slice_get all k ≡ o → (one : Found) × (slice_get all k ≡ Some one) × (found_of one ≡ x)
      by None is = absurd (let bad : None ≡ Some x = ap (option_map found_of) (sym is) ∙ sym (slice_get-map found_of all k) ∙ there in cc)
      by (Some one) is = (one, is, same_Some (found_of one) x (ap (option_map found_of) (sym is) ∙ sym (slice_get-map found_of all k) ∙ there))

  pub all_found : (index : ℕ) (all : List Found) → length codes ≤ index → AreSoFar index all → (functions : List spec.Listed) → AreListed codes functions
      → All HasTruths functions → AreFound functions (map found_of all)
  all_found index all past before functions are truths = record {
    count = length-map all found_of ∙ omega (arith, before.count, before.within, past, are.count);
    each = λ k f x there at.
        let item = mapped_item all k x at in
        subst (IsFound f) item.2 (before.each functions are truths k f item.0 there item.1);
  }

  pub as_many : (index : ℕ) (all : List Found) → length codes ≤ index → AreSoFar index all → length all ≡ length codes
  as_many index all past before = omega (arith, before.count, before.within, past)

-- ---- parts

one_on : (n : ℕ) → suc n + 1 ≡ suc (n + 1)
one_on n = omega arith

pub no_parts : (codes : List Listed) (found : List Found) → parts_of (take 0 codes) (take 0 found) ≡ []
unfolding parts_of
no_parts codes found = refl

pub parts_more : (codes : List Listed) (found : List Found) (index : ℕ) (f d : Listed) (one e : Found) → index < length codes → index < length found → f ≡ get_or codes index d
    → one ≡ get_or found index e → parts_of (take (index + 1) codes) (take (index + 1) found) ≡ parts_of (take index codes) (take index found) ++ part_of f one
unfolding parts_of
parts_more [] found index f d one e below more is at = absurd (omega (arith, below))
parts_more (g ∷ codes) [] index f d one e below more is at = absurd (omega (arith, more))
parts_more (g ∷ codes) (x ∷ found) zero f d one e below more is at =
    ap₂ (λ (h : Listed) (y : Found). part_of h y ++ []) (sym is) (sym at) ∙ append-nil (part_of f one)
parts_more (g ∷ codes) (x ∷ found) (suc index) f d one e below more is at =
    ap (λ (n : ℕ). parts_of (take n (g ∷ codes)) (take n (x ∷ found))) (one_on index)
    ∙ ap (λ (l : List lines.Line). part_of g x ++ l) (parts_more codes found index f d one e (omega (arith, below)) (omega (arith, more)) is at)
    ∙ sym (append_assoc (part_of g x) (parts_of (take index codes) (take index found)) (part_of f one))

pub all_parts : (codes : List Listed) (found : List Found) (index : ℕ) → length found ≡ length codes → length codes ≤ index
    → parts_of (take index codes) (take index found) ≡ parts_of codes found
all_parts codes found index same past = ap₂ parts_of (take_all index codes past) (take_all index found (omega (arith, same, past)))

-- the lists are the same without their first items
listed_tail : (code : Listed) (codes : List Listed) (f : spec.Listed) (functions : List spec.Listed) → AreListed (code ∷ codes) (f ∷ functions) → AreListed codes functions
listed_tail code codes f functions are = record { count = omega (arith, are.count); each = λ k c g there at. are.each (suc k) c g there at }

pub same_parts : (codes : List Listed) (functions : List spec.Listed) (found : List Found) → AreListed codes functions → parts_of codes found ≡ parts_lines functions (map found_of found)
unfolding parts_of parts_lines
same_parts [] [] found are = refl
same_parts [] (f ∷ functions) found are = absurd (omega (arith, are.count))
same_parts (c ∷ codes) [] found are = absurd (omega (arith, are.count))
same_parts (c ∷ codes) (f ∷ functions) [] are = refl
same_parts (c ∷ codes) (f ∷ functions) (Proved logs ∷ found) are =
    let is = are.each 0 c f refl refl in
    (λ i. part_lines (sym is.named i) (sym is.stack_is i) (logs_of logs.items) ++ parts_of codes found)
    ∙ ap (λ (l : List lines.Line). part_lines f.name f.stack (logs_of logs.items) ++ l) (same_parts codes functions found (listed_tail c codes f functions are))
same_parts (c ∷ codes) (f ∷ functions) (Unproved trail ∷ found) are = same_parts codes functions found (listed_tail c codes f functions are)

-- ---- names

pub same_failures : (codes : List Listed) (functions : List spec.Listed) (found : List Found) → AreListed codes functions
    → failures_in codes found ≡ failures functions (map found_of found)
unfolding failures_in failures
same_failures [] [] found are = refl
same_failures [] (f ∷ functions) found are = absurd (omega (arith, are.count))
same_failures (c ∷ codes) [] found are = absurd (omega (arith, are.count))
same_failures (c ∷ codes) (f ∷ functions) [] are = refl
same_failures (c ∷ codes) (f ∷ functions) (Proved logs ∷ found) are = same_failures codes functions found (listed_tail c codes f functions are)
same_failures (c ∷ codes) (f ∷ functions) (Unproved trail ∷ found) are =
    let is = are.each 0 c f refl refl in
    ap₂ (λ (name : List ℕ) (l : List Failure). record { name = name; trails = trail_of trail ∷ [] } ∷ l) (sym is.named)
    (same_failures codes functions found (listed_tail c codes f functions are))

pub pushed_failure : (old new : List Failing) (u : Failing) (name : List ℕ) (trail : Trail) → new ≡ old ++ u ∷ [] → u.name.items ≡ name
    → u.trails.items ≡ trail ∷ [] → failures_of new ≡ failures_of old ++ record { name = name; trails = trail_of trail ∷ [] } ∷ []
pushed_failure old new u name trail pushed named are =
    ap failures_of pushed ∙ map_push failure_of old u
    ∙ ap₂ (λ (n : List ℕ) (ts : List Trail). failures_of old ++ record { name = n; trails = map trail_of ts } ∷ []) named are

-- what is left of functions, and of what was found
pub failures_next : (codes : List Listed) (found : List Found) (index : ℕ) (f d : Listed) (one : Found) → index < length codes → f ≡ get_or codes index d
    → failures_in (drop index codes) (one ∷ found) ≡ failure_in f.name.now one ++ failures_in (drop (index + 1) codes) found
unfolding failures_in
failures_next [] found index f d one below is = absurd (omega (arith, below))
failures_next (g ∷ codes) found zero f d one below is = ap (λ (h : Listed). failure_in h.name.now one ++ failures_in codes found) (sym is)
failures_next (g ∷ codes) found (suc index) f d one below is =
    failures_next codes found index f d one (omega (arith, below)) is
    ∙ ap (λ (n : ℕ). failure_in f.name.now one ++ failures_in (drop n (g ∷ codes)) found) (sym (one_on index))

pub no_failures : (codes : List Listed) → failures_in codes [] ≡ []
unfolding failures_in
no_failures [] = refl
no_failures (f ∷ codes) = refl

pub nothing_left : {X : Type 0} (xs : List X) → length xs ≡ 0 → xs ≡ []
nothing_left [] none = refl
nothing_left (x ∷ xs) none = absurd (omega (arith, none))
