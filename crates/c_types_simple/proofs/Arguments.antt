-- Arguments against parameters, one at a time.
use Rattle.std.proofs.Common.{◌≡◌, ℕ, zero, suc, ◌+◌, ◌<◌, ◌≤◌, List, [], ◌∷◌, ◌++◌, length, map, drop, get_or, refl, sym, ap, ◌∙◌, inl, inr, append_assoc, append-nil, eq-or-lt_of_le, ne_of_lt, arith}
use Rattle.std.specs.Prelude.{true, false, if◌then◌else◌, nat_eq, slice_index_or, Option, Some, None, Vec}
use Rattle.std.specs.declared.alloc.Global.{Global}
use Rattle.std.specs.declared.boxed.Box.{Box}
use Rattle.std.proofs.lemmas.Bool.{eq-eqb, ne_eqb}
use Rattle.std.proofs.lemmas.List.{drop_more, drop_all}
use Rattle.c_types_spec.specs.Types as types
use Rattle.c_types_spec.specs.Core.{Core}
use Rattle.c_types_spec.specs.Operands.{Valued, assigned}
use Rattle.c_types_spec.specs.Statements.{with_argument, passed}
use Rattle.c_types_layout.specs.declared.types.CType.{CType}
use Rattle.c_types_layout.specs.Types.{type_of}
use Rattle.c_types_core.specs.declared.expression.Core.{Core as ProgramCore}
use Rattle.c_types_operator.specs.declared.operand.Valued.{Valued as Given}
use Rattle.c_types_operator.specs.Operands.{core_in, valued_of}
use Rattle.c_types_simple.specs.Contexts.{cores_in, values_in}
use Rattle.c_types_simple.specs.Calls.{after}

pub after-more : (done : List Core) (core : Core) (x : Option (List Core)) → after (done ++ core ∷ []) x ≡ after done (with_argument (Some core) x)
after-more done core None = refl
after-more done core (Some cores) = ap Some (append_assoc done (core ∷ []) cores)

pub passed-more : (list : List CType) (i : ℕ) (d : CType) (v : Valued) (rest : List Valued) → i < length list
    → passed (map type_of (drop i list)) (v ∷ rest) ≡ with_argument (assigned (type_of (get_or list i d)) v) (passed (map type_of (drop (i + 1) list)) rest)
unfolding passed
passed-more list i d v rest h = ap (λ l. passed (map type_of l) (v ∷ rest)) (drop_more list i d h)

-- one more argument, which has been converted
pub argument-next : (list : List CType) (i : ℕ) (d : CType) (v : Valued) (rest : List Valued) (done : List Core) (core : Core) (whole : Option (List Core))
    → i < length list → assigned (type_of (get_or list i d)) v ≡ Some core → after done (passed (map type_of (drop i list)) (v ∷ rest)) ≡ whole
    → after (done ++ core ∷ []) (passed (map type_of (drop (i + 1) list)) rest) ≡ whole
argument-next list i d v rest done core whole h e all =
    after-more done core (passed (map type_of (drop (i + 1) list)) rest)
    ∙ ap (λ a. after done (with_argument a (passed (map type_of (drop (i + 1) list)) rest))) (sym e)
    ∙ ap (λ p. after done p) (sym (passed-more list i d v rest h))
    ∙ all

pub map-more : {X Y : Type 0} (f : X → Y) (xs : List X) (x : X) → map f (xs ++ x ∷ []) ≡ map f xs ++ f x ∷ []
map-more f [] x = refl
map-more f (y ∷ xs) x = ap (λ l. f y ∷ l) (map-more f xs x)

pub argument-kept : (types : List CType) (place : ℕ) (of : CType) (v : Given) (items rest : List Given) (old new : Vec (Box ProgramCore Global) Global) (core : Box ProgramCore Global) (whole : Option (List Core))
    → place < length types → items ≡ v ∷ rest → of ≡ slice_index_or types place of → assigned (type_of of) (valued_of v) ≡ Some (core_in core) → new.items ≡ old.items ++ core ∷ []
    → after (cores_in old) (passed (map type_of (drop place types)) (values_in items)) ≡ whole
    → after (cores_in new) (passed (map type_of (drop (place + 1) types)) (values_in rest)) ≡ whole
argument-kept types place of v items rest old new core whole less first is made more all =
    ap (λ l. after l (passed (map type_of (drop (place + 1) types)) (values_in rest))) (ap (λ l. map core_in l) more ∙ map-more core_in old.items core)
    ∙ argument-next types place of (valued_of v) (values_in rest) (cores_in old) (core_in core) whole less
    (ap (λ t. assigned (type_of t) (valued_of v)) (sym is) ∙ made)
    (ap (λ l. after (cores_in old) (passed (map type_of (drop place types)) (values_in l))) (sym first) ∙ all)

-- no argument is left

none-given : (list : List CType) (i : ℕ) (done : List Core) → i < length list → after done (passed (map type_of (drop i list)) []) ≡ None
unfolding passed
none-given [] i done h = absurd (omega (arith, h))
none-given (x ∷ list) zero done h = refl
none-given (x ∷ list) (suc i) done h = none-given list i done (omega (arith, h))

all-given : (list : List CType) (i : ℕ) (done : List Core) → length list ≤ i → after done (passed (map type_of (drop i list)) []) ≡ Some done
unfolding passed
all-given list i done h = ap (λ l. after done (passed (map type_of l) [])) (drop_all i list h) ∙ ap Some (append-nil done)

pub arguments-done : (list : List CType) (i : ℕ) (done : List Core) → i ≤ length list
    → after done (passed (map type_of (drop i list)) []) ≡ (if nat_eq i (length list) then Some done else None)
arguments-done list i done h = elim (eq-or-lt_of_le h) [
  | inl e ↦ (let k : nat_eq i (length list) ≡ true = eq-eqb i (length list) e in rw k (all-given list i done (omega (arith, e))))
  | inr less ↦ (let k : nat_eq i (length list) ≡ false = ne_eqb i (length list) (ne_of_lt less) in rw k (none-given list i done less))
]

pub nothing_left : {X : Type 0} (l : List X) → length l ≡ 0 → l ≡ []
nothing_left [] h = refl
nothing_left (x ∷ xs) h = absurd (omega (arith, h))
