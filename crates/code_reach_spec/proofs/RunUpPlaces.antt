-- The words of a run-up, one after the other.
use Rattle.std.proofs.Common.{◌≡◌, ◌∙◌, ℕ, zero, suc, ◌+◌, ◌-◌, ◌*◌, ◌<◌, ◌≤◌, if◌then◌else◌, Bool, true, false, refl, sym, ap, ap₂, subst, arith, length, List, [], ◌∷◌, ◌++◌, Option, Some, None}
use Rattle.std.proofs.lemmas.Option.{same_Some}
use Rattle.rv_instr.specs.declared.Instr.{Instr}
use Rattle.elf_read_spec.specs.Image.{Image}
use Rattle.code_reach_spec.specs.RunUp.{is_straight, Followed, follow, followed}
use Rattle.code_reach_spec.specs.Code.{instr_at, straight_on, straight}

-- straight code that begins with an instruction
record Begins (image : Image) (address count : ℕ) (words : List Instr) : Type 0 where
  first : Instr
  rest : List Instr
  there : instr_at image address ≡ Some first
  is : is_straight first ≡ true
  rest_is : straight image (address + 4) count ≡ Some rest
  words_are : words ≡ first ∷ rest

begins : (image : Image) (address count : ℕ) (words : List Instr) → straight image address (suc count) ≡ Some words → Begins image address count words
unfolding straight
begins image address count words e = by (instr_at image address) (straight image (address + 4) count) refl refl e
  where
    by_first : (i : Instr) (ws : List Instr) → instr_at image address ≡ Some i → straight image (address + 4) count ≡ Some ws → (b : Bool) → is_straight i ≡ b
        → (if b then Some (i ∷ ws) else None) ≡ Some words → Begins image address count words
    by_first i ws there are true is h = record { first = i; rest = ws; there = there; is = is; rest_is = are; words_are = sym (same_Some (i ∷ ws) words h) }
    by_first i ws there are false is h = absurd (cc)

    by : (o : Option Instr) (rest : Option (List Instr)) → instr_at image address ≡ o → straight image (address + 4) count ≡ rest → straight_on o rest ≡ Some words
        → Begins image address count words
    by None rest there are h = absurd (cc)
    by (Some i) None there are h = absurd (cc)
    by (Some i) (Some ws) there are h = by_first i ws there are (is_straight i) refl h

-- an instruction before a jump
pub record IsStraightAt (image : Image) (address : ℕ) : Type 0 where
  pub instruction : Instr
  pub there : instr_at image address ≡ Some instruction
  pub is : is_straight instruction ≡ true

pub straight_at : (image : Image) (address count k : ℕ) (words : List Instr) → straight image address count ≡ Some words → k < count → IsStraightAt image (address + 4 * k)
straight_at image address zero k words e lt = absurd (omega (arith, lt))
straight_at image address (suc count) zero words e lt =
    let b = begins image address count words e in
    let here : address ≡ address + 4 * 0 = omega arith in
    subst (IsStraightAt image) here (record { instruction = b.first; there = b.there; is = b.is })
straight_at image address (suc count) (suc k) words e lt =
    let b = begins image address count words e in
    let there : address + 4 + 4 * k ≡ address + 4 * suc k = omega arith in
    subst (IsStraightAt image) there (straight_at image (address + 4) count k b.rest b.rest_is (omega (arith, lt)))

straight-first : (image : Image) (address count : ℕ) (i : Instr) (rest : List Instr) → instr_at image address ≡ Some i → is_straight i ≡ true
    → straight image (address + 4) count ≡ Some rest → straight image address (suc count) ≡ Some (i ∷ rest)
unfolding straight
straight-first image address count i rest there is are =
    ap₂ (λ (o : Option Instr) (r : Option (List Instr)). straight_on o r) there are ∙ ap (λ b. if b then Some (i ∷ rest) else None) is

pub straight-none : (image : Image) (address : ℕ) → straight image address 0 ≡ Some []
unfolding straight
straight-none image address = refl

no_words : (image : Image) (address : ℕ) (words : List Instr) → straight image address 0 ≡ Some words → words ≡ []
unfolding straight
no_words image address words e = sym (same_Some [] words e)

-- one word more
pub straight-more : (image : Image) (address count : ℕ) (words : List Instr) (i : Instr) → straight image address count ≡ Some words
    → instr_at image (address + 4 * count) ≡ Some i → is_straight i ≡ true → straight image address (count + 1) ≡ Some (words ++ i ∷ [])
straight-more image address zero words i e there is =
    let here : address + 4 * 0 ≡ address = omega arith in
    let none = no_words image address words e in
    straight-first image address 0 i [] (ap (instr_at image) (sym here) ∙ there) is (straight-none image (address + 4))
    ∙ ap (λ (ws : List Instr). Some (ws ++ i ∷ [])) (sym none)
straight-more image address (suc count) words i e there is =
    let b = begins image address count words e in
    let place : address + 4 + 4 * count ≡ address + 4 * suc count = omega arith in
    let long : suc count + 1 ≡ suc (count + 1) = omega arith in
    ap (straight image address) long
    ∙ (straight-first image address (count + 1) b.first (b.rest ++ i ∷ []) b.there b.is
    (straight-more image (address + 4) count b.rest i b.rest_is (ap (instr_at image) place ∙ there) is)
    ∙ ap (λ (ws : List Instr). Some (ws ++ i ∷ [])) (sym b.words_are))

-- as many words as are asked
pub straight-long : (image : Image) (address count : ℕ) (words : List Instr) → straight image address count ≡ Some words → length words ≡ count
straight-long image address zero words e = ap (λ (ws : List Instr). length ws) (no_words image address words e)
straight-long image address (suc count) words e =
    let b = begins image address count words e in
    ap (λ (ws : List Instr). length ws) b.words_are ∙ ap suc (straight-long image (address + 4) count b.rest b.rest_is)

-- following one instruction more
pub followed-more : (r address : ℕ) (words : List Instr) (i : Instr) (f : Followed)
    → followed r address (words ++ i ∷ []) f ≡ follow r (address + 4 * length words) i (followed r address words f)
followed-more r address [] i f = let here : address ≡ address + 4 * 0 = omega arith in ap (λ a. follow r a i f) here
followed-more r address (j ∷ rest) i f =
    let place : address + 4 + 4 * length rest ≡ address + 4 * suc (length rest) = omega arith in
    followed-more r (address + 4) rest i (follow r address j f)
    ∙ ap (λ a. follow r a i (followed r (address + 4) rest (follow r address j f))) place
