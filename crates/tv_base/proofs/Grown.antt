-- Writes one after another.
use Rattle.std.proofs.Common.{◌≡◌, ℕ, ◌+◌, List, ◌++◌, length, take, drop, Option, Some, None, option_map, refl, sym, ◌∙◌, ap, subst, append_assoc, arith, ◌-◌, take_all, length-drop}
use Rattle.std.proofs.Math.Seq.{take-add}
use Rattle.tv_base.specs.Writing.{Grows}

map-append-twice : (xs ys : List ℕ) (before : Option (List ℕ))
    → option_map (λ h. h ++ ys) (option_map (λ h. h ++ xs) before) ≡ option_map (λ h. h ++ (xs ++ ys)) before
map-append-twice xs ys None = refl
map-append-twice xs ys (Some h) = ap Some (append_assoc h xs ys)

-- two writes are one
pub grows_both : (before middle now : List ℕ → Option (List ℕ)) (name xs ys : List ℕ)
    → Grows before name xs middle → Grows middle name ys now → Grows before name (xs ++ ys) now
grows_both before middle now name xs ys first second =
    record {
      there = second.there ∙ ap (option_map (λ h. h ++ ys)) first.there ∙ map-append-twice xs ys (before name);
      elsewhere = λ other h. second.elsewhere other h ∙ first.elsewhere other h;
    }

all_of_rest : (text : List ℕ) (at : ℕ) → take (length text - at) (drop at text) ≡ drop at text
all_of_rest text at = let e = length-drop at text in take_all (length text - at) (drop at text) (omega arith)

-- the next bytes of a text after its first ones
pub grows_on : (before middle now : List ℕ → Option (List ℕ)) (name same text : List ℕ) (at count : ℕ)
    → Grows before name (take at text) middle → same ≡ name
    → Grows middle same (take count (take (length text - at) (drop at text))) now
    → Grows before name (take (at + count) text) now
grows_on before middle now name same text at count first e second =
    let next : Grows middle name (take count (drop at text)) now =
    subst (λ n. Grows middle n (take count (drop at text)) now) e
    (subst (λ t. Grows middle same (take count t) now) (all_of_rest text at) second)
    in
    subst (λ t. Grows before name t now) (sym (take-add at count text))
    (grows_both before middle now name (take at text) (take count (drop at text)) first next)
