-- The loads of a term.
use Rattle.std.proofs.Common.{◌≡◌, true, List, [], ◌++◌, Option, Some, None, refl, ap, sym, ◌∙◌, subst, append_assoc, append-nil}
use Rattle.term_core_spec.specs.Term.{Term, Leaf, Unary, Binary, Ternary, Quaternary, Octonary, open_term}
use Rattle.mem_terms_spec.specs.Flat.{VariableLoad, load_of, is_in, with_load, with_loads, byte_variable, byte_or, without_loads}
use Rattle.mem_terms_spec.proofs.Lists.{is_in-front, is_in-with_load, with_load-there, with_load-more, index_of-front}

-- ---- a longer list is the shorter one and more

pub Extends : List VariableLoad → List VariableLoad → Type 0
Extends xs ys = (more : List VariableLoad) × (ys ≡ xs ++ more)

then : (xs ys zs : List VariableLoad) → Extends xs ys → Extends ys zs → Extends xs zs
unfolding Extends
then xs ys zs p q = (p.0 ++ q.0, q.1 ∙ ap (λ l. l ++ q.0) p.1 ∙ append_assoc xs p.0 q.0)

pub with_loads-more : (t : Term) (xs : List VariableLoad) → Extends xs (with_loads t xs)
unfolding Extends with_loads
with_loads-more (Leaf leaf) xs = ([], sym (append-nil xs))
with_loads-more (Unary operator a) xs = with_loads-more a xs
with_loads-more (Binary operator a b) xs =
    then _ _ _ (with_loads-more a xs) (then _ _ _ (with_loads-more b (with_loads a xs)) (with_load-more (load_of operator a b) (with_loads b (with_loads a xs))))
with_loads-more (Ternary operator a b c) xs =
    then _ _ _ (with_loads-more a xs) (then _ _ _ (with_loads-more b (with_loads a xs)) (with_loads-more c _))
with_loads-more (Quaternary operator a b c d) xs =
    then _ _ _ (with_loads-more a xs) (then _ _ _ (with_loads-more b (with_loads a xs)) (then _ _ _ (with_loads-more c _) (with_loads-more d _)))
with_loads-more (Octonary a b c d e f g h) xs =
    then _ _ _ (with_loads-more a xs) (then _ _ _ (with_loads-more b (with_loads a xs)) (then _ _ _ (with_loads-more c _) (then _ _ _ (with_loads-more d _)
    (then _ _ _ (with_loads-more e _) (then _ _ _ (with_loads-more f _) (then _ _ _ (with_loads-more g _) (with_loads-more h _)))))))

-- ---- each load of a term is in a list

abbrev pub IfIn : Option VariableLoad → List VariableLoad → Type 0
IfIn None all = Unit {0}
IfIn (Some load) all = is_in load all ≡ true

unfoldable pub AreIn : Term → List VariableLoad → Type 0
AreIn (Leaf leaf) all = Unit {0}
AreIn (Unary operator a) all = AreIn a all
AreIn (Binary operator a b) all = IfIn (load_of operator a b) all × AreIn a all × AreIn b all
AreIn (Ternary operator a b c) all = AreIn a all × AreIn b all × AreIn c all
AreIn (Quaternary operator a b c d) all = AreIn a all × AreIn b all × AreIn c all × AreIn d all
AreIn (Octonary a b c d e f g h) all =
    AreIn a all × AreIn b all × AreIn c all × AreIn d all × AreIn e all × AreIn f all × AreIn g all × AreIn h all

if_front : (o : Option VariableLoad) (xs ys : List VariableLoad) → IfIn o xs → IfIn o (xs ++ ys)
if_front None xs ys h = tt
if_front (Some load) xs ys h = is_in-front load xs ys h

pub are_in-front : (t : Term) (xs ys : List VariableLoad) → AreIn t xs → AreIn t (xs ++ ys)
unfolding AreIn
are_in-front (Leaf leaf) xs ys h = tt
are_in-front (Unary operator a) xs ys h = are_in-front a xs ys h
are_in-front (Binary operator a b) xs ys h = (if_front (load_of operator a b) xs ys h.0, are_in-front a xs ys h.1, are_in-front b xs ys h.2)
are_in-front (Ternary operator a b c) xs ys h = (are_in-front a xs ys h.0, are_in-front b xs ys h.1, are_in-front c xs ys h.2)
are_in-front (Quaternary operator a b c d) xs ys h = (are_in-front a xs ys h.0, are_in-front b xs ys h.1, are_in-front c xs ys h.2, are_in-front d xs ys h.3)
are_in-front (Octonary a b c d e f g i) xs ys h = (
  are_in-front a xs ys h.0,
  are_in-front b xs ys h.1,
  are_in-front c xs ys h.2,
  are_in-front d xs ys h.3,
  are_in-front e xs ys h.4,
  are_in-front f xs ys h.5,
  are_in-front g xs ys h.6,
  are_in-front i xs ys h.7,
)

pub are_in-more : (t : Term) (xs ys : List VariableLoad) → Extends xs ys → AreIn t xs → AreIn t ys
unfolding Extends
are_in-more t xs ys more h = subst (AreIn t) (sym more.1) (are_in-front t xs more.0 h)

if_with : (o : Option VariableLoad) (xs : List VariableLoad) → IfIn o (with_load o xs)
if_with None xs = tt
if_with (Some load) xs = is_in-with_load load xs

-- the loads of a term are there once they are added
pub are_in-with_loads : (t : Term) (xs : List VariableLoad) → AreIn t (with_loads t xs)
unfolding AreIn with_loads Extends
are_in-with_loads (Leaf leaf) xs = tt
are_in-with_loads (Unary operator a) xs = are_in-with_loads a xs
are_in-with_loads (Binary operator a b) xs =
    let l1 = with_loads a xs in
    let l2 = with_loads b l1 in
    let last : Extends l2 (with_load (load_of operator a b) l2) = with_load-more (load_of operator a b) l2 in (
      if_with (load_of operator a b) l2,
      are_in-more a l1 _ (then l1 l2 _ (with_loads-more b l1) last) (are_in-with_loads a xs),
      are_in-more b l2 _ last (are_in-with_loads b l1),
    )
are_in-with_loads (Ternary operator a b c) xs =
    let l1 = with_loads a xs in
    let l2 = with_loads b l1 in
    let l3 = with_loads c l2 in
    let e3 : Extends l2 l3 = with_loads-more c l2 in
    let e2 : Extends l1 l3 = then l1 l2 l3 (with_loads-more b l1) e3 in
    (are_in-more a l1 l3 e2 (are_in-with_loads a xs), are_in-more b l2 l3 e3 (are_in-with_loads b l1), are_in-with_loads c l2)
are_in-with_loads (Quaternary operator a b c d) xs =
    let l1 = with_loads a xs in
    let l2 = with_loads b l1 in
    let l3 = with_loads c l2 in
    let l4 = with_loads d l3 in
    let e4 : Extends l3 l4 = with_loads-more d l3 in
    let e3 : Extends l2 l4 = then l2 l3 l4 (with_loads-more c l2) e4 in
    let e2 : Extends l1 l4 = then l1 l2 l4 (with_loads-more b l1) e3 in (
      are_in-more a l1 l4 e2 (are_in-with_loads a xs),
      are_in-more b l2 l4 e3 (are_in-with_loads b l1),
      are_in-more c l3 l4 e4 (are_in-with_loads c l2),
      are_in-with_loads d l3,
    )
are_in-with_loads (Octonary a b c d e f g h) xs =
    let l1 = with_loads a xs in
    let l2 = with_loads b l1 in
    let l3 = with_loads c l2 in
    let l4 = with_loads d l3 in
    let l5 = with_loads e l4 in
    let l6 = with_loads f l5 in
    let l7 = with_loads g l6 in
    let l8 = with_loads h l7 in
    let e8 : Extends l7 l8 = with_loads-more h l7 in
    let e7 : Extends l6 l8 = then l6 l7 l8 (with_loads-more g l6) e8 in
    let e6 : Extends l5 l8 = then l5 l6 l8 (with_loads-more f l5) e7 in
    let e5 : Extends l4 l8 = then l4 l5 l8 (with_loads-more e l4) e6 in
    let e4 : Extends l3 l8 = then l3 l4 l8 (with_loads-more d l3) e5 in
    let e3 : Extends l2 l8 = then l2 l3 l8 (with_loads-more c l2) e4 in
    let e2 : Extends l1 l8 = then l1 l2 l8 (with_loads-more b l1) e3 in (
      are_in-more a l1 l8 e2 (are_in-with_loads a xs),
      are_in-more b l2 l8 e3 (are_in-with_loads b l1),
      are_in-more c l3 l8 e4 (are_in-with_loads c l2),
      are_in-more d l4 l8 e5 (are_in-with_loads d l3),
      are_in-more e l5 l8 e6 (are_in-with_loads e l4),
      are_in-more f l6 l8 e7 (are_in-with_loads f l5),
      are_in-more g l7 l8 e8 (are_in-with_loads g l6),
      are_in-with_loads h l7,
    )

with_if : (o : Option VariableLoad) (xs : List VariableLoad) → IfIn o xs → with_load o xs ≡ xs
with_if None xs h = refl
with_if (Some load) xs h = with_load-there load xs h

-- loads that are there already add nothing
pub with_loads-there : (t : Term) (xs : List VariableLoad) → AreIn t xs → with_loads t xs ≡ xs
unfolding AreIn with_loads
with_loads-there (Leaf leaf) xs h = refl
with_loads-there (Unary operator a) xs h = with_loads-there a xs h
with_loads-there (Binary operator a b) xs h = rw (with_loads-there a xs h.1, with_loads-there b xs h.2) (with_if (load_of operator a b) xs h.0)
with_loads-there (Ternary operator a b c) xs h = rw (with_loads-there a xs h.0, with_loads-there b xs h.1) (with_loads-there c xs h.2)
with_loads-there (Quaternary operator a b c d) xs h =
    rw (with_loads-there a xs h.0, with_loads-there b xs h.1, with_loads-there c xs h.2) (with_loads-there d xs h.3)
with_loads-there (Octonary a b c d e f g i) xs h =
    rw (
      with_loads-there a xs h.0,
      with_loads-there b xs h.1,
      with_loads-there c xs h.2,
      with_loads-there d xs h.3,
      with_loads-there e xs h.4,
      with_loads-there f xs h.5,
      with_loads-there g xs h.6,
    )
    (with_loads-there i xs h.7)

byte_or-front : (o : Option VariableLoad) (t : Term) (xs ys : List VariableLoad) → IfIn o xs → byte_or (xs ++ ys) o t ≡ byte_or xs o t
byte_or-front None t xs ys h = refl
byte_or-front (Some load) t xs ys h = ap (λ k. open_term (byte_variable k)) (index_of-front load xs ys h)

-- a longer list keeps the bytes
pub without_loads-front : (t : Term) (xs ys : List VariableLoad) → AreIn t xs → without_loads (xs ++ ys) t ≡ without_loads xs t
unfolding AreIn without_loads
without_loads-front (Leaf leaf) xs ys h = refl
without_loads-front (Unary operator a) xs ys h = ap (Unary operator) (without_loads-front a xs ys h)
without_loads-front (Binary operator a b) xs ys h =
    let e1 = without_loads-front a xs ys h.1 in
    let e2 = without_loads-front b xs ys h.2 in
    rw (e1, e2) (byte_or-front (load_of operator a b) (Binary operator (without_loads xs a) (without_loads xs b)) xs ys h.0)
without_loads-front (Ternary operator a b c) xs ys h =
    let e1 = without_loads-front a xs ys h.0 in
    let e2 = without_loads-front b xs ys h.1 in
    let e3 = without_loads-front c xs ys h.2 in
    cc
without_loads-front (Quaternary operator a b c d) xs ys h =
    let e1 = without_loads-front a xs ys h.0 in
    let e2 = without_loads-front b xs ys h.1 in
    let e3 = without_loads-front c xs ys h.2 in
    let e4 = without_loads-front d xs ys h.3 in
    cc
without_loads-front (Octonary a b c d e f g i) xs ys h =
    let e1 = without_loads-front a xs ys h.0 in
    let e2 = without_loads-front b xs ys h.1 in
    let e3 = without_loads-front c xs ys h.2 in
    let e4 = without_loads-front d xs ys h.3 in
    let e5 = without_loads-front e xs ys h.4 in
    let e6 = without_loads-front f xs ys h.5 in
    let e7 = without_loads-front g xs ys h.6 in
    let e8 = without_loads-front i xs ys h.7 in
    cc
