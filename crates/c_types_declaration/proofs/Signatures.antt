-- Lists of types, item by item.
use Rattle.std.proofs.Common.{◌≡◌, ℕ, suc, ◌+◌, ◌<◌, ◌≤◌, List, [], ◌∷◌, length, map, drop, get_or, refl, sym, ◌∙◌, ap, arith}
use Rattle.std.specs.Prelude.{Bool, true, false, ◌&&◌, nat_lt}
use Rattle.std.proofs.lemmas.Bool.{lt-ltb, le-ltb}
use Rattle.std.proofs.lemmas.List.{drop_more, drop_all}
use Rattle.c_types_spec.specs.declared.TheConstants.{ARGUMENT_WORDS}
use Rattle.c_types_spec.specs.Types as types
use Rattle.c_types_spec.specs.Declarations.{same_types, words_of}
use Rattle.c_types_layout.specs.declared.types.CType.{CType}
use Rattle.c_types_layout.specs.Types.{type_of}
use Rattle.c_types_declaration.specs.Objects.{words}

pub types-more : (a b : List CType) (i : ℕ) (d e : CType) → i < length a → i < length b
    → same_types (map type_of (drop i a)) (map type_of (drop i b)) ≡ types.same_type (type_of (get_or a i d)) (type_of (get_or b i e)) && same_types (map type_of (drop (i + 1) a)) (map type_of (drop (i + 1) b))
types-more a b i d e h k =
    ap (λ l. same_types (map type_of l) (map type_of (drop i b))) (drop_more a i d h)
    ∙ ap (λ l. same_types (map type_of (get_or a i d ∷ drop (i + 1) a)) (map type_of l)) (drop_more b i e k)

pub types-step : (a b : List CType) (i : ℕ) (x y : CType) → x ≡ get_or a i x → y ≡ get_or b i y → i < length a → i < length b
    → same_types (map type_of (drop i a)) (map type_of (drop i b)) ≡ types.same_type (type_of x) (type_of y) && same_types (map type_of (drop (i + 1) a)) (map type_of (drop (i + 1) b))
types-step a b i x y p q h k =
    let rest = same_types (map type_of (drop (i + 1) a)) (map type_of (drop (i + 1) b)) in
    types-more a b i x y h k
    ∙ sym (ap (λ z. types.same_type (type_of z) (type_of y) && rest) p ∙ ap (λ z. types.same_type (type_of (get_or a i x)) (type_of z) && rest) q)

pub lengths-differ : (a b : List CType) → (length a ≡ length b → ⊥) → false ≡ same_types (map type_of a) (map type_of b)
lengths-differ [] [] n = absurd (n refl)
lengths-differ [] (y ∷ b) n = refl
lengths-differ (x ∷ a) [] n = refl
lengths-differ (x ∷ a) (y ∷ b) n = sym (ap (λ c. types.same_type (type_of x) (type_of y) && c) (sym (lengths-differ a b (λ e. n (ap suc e)))) ∙ and-false (types.same_type (type_of x) (type_of y)))
  where
    and-false : (c : Bool) → c && false ≡ false
    and-false true = refl
    and-false false = refl

pub types-ended : (a b : List CType) (i : ℕ) → length a ≤ i → length b ≤ i → same_types (map type_of (drop i a)) (map type_of (drop i b)) ≡ true
types-ended a b i h k = ap (λ l. same_types (map type_of l) (map type_of (drop i b))) (drop_all i a h) ∙ ap (λ l. same_types [] (map type_of l)) (drop_all i b k)

pub words-more : (a : List CType) (i : ℕ) (d : CType) → i < length a → words_of (map type_of (drop i a)) ≡ words (type_of (get_or a i d)) + words_of (map type_of (drop (i + 1) a))
words-more a i d h = ap (λ l. words_of (map type_of l)) (drop_more a i d h)

-- of the words that can be passed so many are left, and the next argument has more
pub many-words : (n left w rest : ℕ) → n + left ≡ ARGUMENT_WORDS + (w + rest) → left < w → true ≡ nat_lt ARGUMENT_WORDS n
many-words n left w rest is h = sym (lt-ltb ARGUMENT_WORDS n (omega (arith, is, h)))

pub few-words : (n left : ℕ) → n + left ≡ ARGUMENT_WORDS → false ≡ nat_lt ARGUMENT_WORDS n
few-words n left is = sym (le-ltb ARGUMENT_WORDS n (omega (arith, is)))

pub ruleset one_more = (types-more, lengths-differ, types-ended)

pub ruleset more_words = (words-more)
