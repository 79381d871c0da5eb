-- The functions of a list that has pairs.
use Rattle.std.proofs.Common.{◌≡◌, ◌≢◌, ◌<◌, ◌≤◌, ℕ, zero, suc, List, [], ◌∷◌, length, get_or, map, All, Option, Some, None, refl, ap, sym, subst, arith}
use Rattle.std.specs.Borrow.{Bor}
use Rattle.std.specs.Prelude.{IsSome}
use Rattle.elf_read_spec.specs.Image.{Image}
use Rattle.c_types_spec.specs.Core.{Body, Typed}
use Rattle.pair_setup_spec.specs.SourceReach.{body_of, itself}
use Rattle.pair_setup_spec.specs.Faults.{LacksBody}
use Rattle.pair_setup_spec.specs.Code.{HasSoundCode}
use Rattle.pair_setup_spec.specs.Outcome as outcome
use Rattle.pair_setup_spec.specs.Outcome.{HasNoFault, IsFunction, IsPaired}
use Rattle.pair_setup.specs.declared.outcome.Function.{Function}
use Rattle.pair_setup.specs.declared.outcome.Pairs.{Pairs}
use Rattle.pair_setup.specs.Answers.{functions_of, pairs_of}
use Rattle.pair_setup_calls.specs.Names.{texts_of}
use Rattle.tv_core.specs.Functions.{IsListed, ArePaired}

some_body : (image : Image) (unit : Typed) (name : List ℕ) (found : Option Body) → body_of unit name ≡ found → (LacksBody unit name name → ⊥) → IsSome found
some_body image unit name None e there = absurd (there (record { reached = itself; absent = e }))
some_body image unit name (Some body) e there = refl

is_listed : (image : Image) (unit : Typed) (name : List ℕ) (f : Function) → HasNoFault image unit name
    → IsFunction image unit (record { name = name; entry = f.entry; size = f.size; stack = f.stack }) → IsListed image unit name f
is_listed image unit name f sound function =
    let (entry, code) = sound.code in
    let named = function.entry_is in
    let renamed = code.named in
    let same : entry ≡ f.entry = cc in
    record {
      code = subst (HasSoundCode image name) same code;
      sized = function.size_is;
      stack_is = function.stack_is;
      body = some_body image unit name (body_of unit name) refl (sound.names.bodies name);
    }

pairs_each : (image : Image) (unit : Typed) (list : List (List ℕ)) (functions : List Function)
    → map (λ (f : outcome.Function). f.name) (functions_of list functions) ≡ list → All (HasNoFault image unit) list
    → All (IsFunction image unit) (functions_of list functions) → ArePaired image unit list functions
pairs_each image unit [] functions e sound each = record { enough = omega arith; each = λ i name f below. absurd (omega (arith, below)) }
pairs_each image unit (name ∷ list) [] e sound each = absurd (cc)
pairs_each image unit (name ∷ list) (f ∷ functions) e sound each =
    let tails : map (λ (f : outcome.Function). f.name) (functions_of list functions) ≡ list = cc in
    let rest = pairs_each image unit list functions tails (λ k d inside. sound (suc k) d (omega arith)) (λ k d inside. each (suc k) d (omega arith)) in
    let first = is_listed image unit name f (sound 0 name (omega arith)) (each 0 (record { name = name; entry = f.entry; size = f.size; stack = f.stack }) (omega arith)) in
    record { enough = let n = rest.enough in omega arith; each = one first rest }
  where
    one : IsListed image unit name f → ArePaired image unit list functions → (i : ℕ) (n : List ℕ) (g : Function) → i < length (name ∷ list)
        → IsListed image unit (get_or (name ∷ list) i n) (get_or (f ∷ functions) i g)
    one first rest zero n g below = first
    one first rest (suc i) n g below = rest.each i n g (omega arith)

-- ---- over the program's list and unit

pub texts_length : (list : List (Bor (List ℕ))) → length (texts_of list) ≡ length list
texts_length [] = refl
texts_length (text ∷ list) = ap suc (texts_length list)

pub texts_at : (list : List (Bor (List ℕ))) (i : ℕ) (d : Bor (List ℕ)) (n : List ℕ) → i < length list → get_or (texts_of list) i n ≡ (get_or list i d).now
texts_at [] i d n below = absurd (omega (arith, below))
texts_at (text ∷ list) zero d n below = refl
texts_at (text ∷ list) (suc i) d n below = texts_at list i d n (omega arith)

pub texts_below : (list : List (Bor (List ℕ))) (i : ℕ) → i < length list → i < length (texts_of list)
texts_below list i below = subst (λ n. i < n) (sym (texts_length list)) below

pub texts_past : (list : List (Bor (List ℕ))) (i : ℕ) → length list ≤ i → length (texts_of list) ≤ i
texts_past list i past = subst (λ n. n ≤ i) (sym (texts_length list)) past

-- the name and the function at an index
pub listed_at : (image : Image) (unit : Typed) (list : List (Bor (List ℕ))) (functions : List Function) (i : ℕ) (d : Bor (List ℕ)) (f : Function)
    → ArePaired image unit (texts_of list) functions → i < length list → IsListed image unit (get_or list i d).now (get_or functions i f)
listed_at image unit list functions i d f paired below =
    subst (λ name. IsListed image unit name (get_or functions i f)) (texts_at list i d [] below) (paired.each i [] f (texts_below list i below))

pub are_paired : (image : Image) (unit : Typed) (list : List (List ℕ)) (pairs : Pairs) → IsPaired image unit list (pairs_of list pairs)
    → ArePaired image unit list pairs.functions.items
are_paired image unit list pairs paired = pairs_each image unit list pairs.functions.items paired.listed paired.no_fault paired.functions_are

-- the list isn't longer than the functions of its pairs
pub enough : (image : Image) (unit : Typed) (list : List (Bor (List ℕ))) (pairs : Pairs) (functions : List Function) → functions ≡ pairs.functions.items
    → IsPaired image unit (texts_of list) (pairs_of (texts_of list) pairs) → length list ≤ length functions
enough image unit list pairs functions e paired =
    let h = (are_paired image unit (texts_of list) pairs paired).enough in
    subst (λ n. n ≤ length functions) (texts_length list) (subst (λ fs. length (texts_of list) ≤ length fs) (sym e) h)

-- a list with pairs isn't empty
pub not_empty : (list : List (Bor (List ℕ))) → texts_of list ≢ [] → 0 < length list
not_empty [] some = absurd (some refl)
not_empty (text ∷ list) some = omega arith
