-- Lists of loads.
use Rattle.std.proofs.Common.{◌≡◌, ℕ, ◌+◌, Bool, true, false, cond, List, [], ◌∷◌, ◌++◌, Option, Some, None, refl, ap, sym, append-nil, add-one}
use Rattle.std.specs.Prelude.{slice_get}
use Rattle.std.proofs.lemmas.Bool.{and_parts}
use Rattle.term_core_spec.specs.declared.Variable.{Variable}
use Rattle.term_core_spec.specs.contracts.VariableEq.TheImpl.Laws as variable_laws
use Rattle.term_core_spec.specs.Term.{Term}
use Rattle.term_core_spec.specs.Same.{same_variable, same_term}
use Rattle.term_core_spec.proofs.Same.{variable-same, same_is, same_itself}
use Rattle.mem_terms_spec.specs.Flat.{VariableLoad, same_load, is_in, with_load, index_of}

pub variable_itself : (v : Variable) → same_variable v v ≡ true
variable_itself v = variable_laws.lawful.laws.refl v

-- ---- the test of two loads

made : (v w : Variable) (a b : Term) → v ≡ w → a ≡ b → (let k : VariableLoad = record { memory = v; address = a } in k) ≡ record { memory = w; address = b }
made v w a b p q = cc

pub load-same : (k l : VariableLoad) → same_load k l ≡ true → k ≡ l
load-same k l e =
    let parts = and_parts (same_variable k.memory l.memory) (same_term k.address l.address) e in
    made k.memory l.memory k.address l.address (variable-same k.memory l.memory parts.0) (same_is k.address l.address parts.1)

pub load_itself : (l : VariableLoad) → same_load l l ≡ true
load_itself l = rw (variable_itself l.memory) (same_itself l.address)

-- ---- membership

pub is_in-front : (load : VariableLoad) (xs ys : List VariableLoad) → is_in load xs ≡ true → is_in load (xs ++ ys) ≡ true
is_in-front load [] ys e = absurd (cc)
is_in-front load (x ∷ xs) ys e = step (same_load load x) (is_in load xs) (is_in load (xs ++ ys)) (is_in-front load xs ys) e
  where
    step : (test before after : Bool) → (before ≡ true → after ≡ true) → cond test true before ≡ true → cond test true after ≡ true
    step true before after f h = refl
    step false before after f h = f h

pub is_in-last : (load : VariableLoad) (xs : List VariableLoad) → is_in load (xs ++ load ∷ []) ≡ true
is_in-last load [] = rw (load_itself load) refl
is_in-last load (x ∷ xs) = step (same_load load x) _ (is_in-last load xs)
  where
    step : (test before : Bool) → before ≡ true → cond test true before ≡ true
    step true before h = refl
    step false before h = h

-- a load that is added is there
pub is_in-with_load : (load : VariableLoad) (xs : List VariableLoad) → is_in load (with_load (Some load) xs) ≡ true
is_in-with_load load xs = step (is_in load xs) refl
  where
    step : (test : Bool) → is_in load xs ≡ test → is_in load (cond test xs (xs ++ load ∷ [])) ≡ true
    step true e = e
    step false e = is_in-last load xs

-- what is there already changes nothing
pub with_load-there : (load : VariableLoad) (xs : List VariableLoad) → is_in load xs ≡ true → with_load (Some load) xs ≡ xs
with_load-there load xs e = rw e refl

pub with_load-more : (o : Option VariableLoad) (xs : List VariableLoad) → (more : List VariableLoad) × (with_load o xs ≡ xs ++ more)
with_load-more None xs = ([], sym (append-nil xs))
with_load-more (Some load) xs = step (is_in load xs)
  where
    step : (test : Bool) → (more : List VariableLoad) × (cond test xs (xs ++ load ∷ []) ≡ xs ++ more)
    step true = ([], sym (append-nil xs))
    step false = (load ∷ [], refl)

-- ---- indices

pub index_of-front : (load : VariableLoad) (xs ys : List VariableLoad) → is_in load xs ≡ true → index_of load (xs ++ ys) ≡ index_of load xs
index_of-front load [] ys e = absurd (cc)
index_of-front load (x ∷ xs) ys e = step (same_load load x) (is_in load xs) _ _ (index_of-front load xs ys) e
  where
    step : (test there : Bool) (m n : ℕ) → (there ≡ true → m ≡ n) → cond test true there ≡ true → cond test 0 (m + 1) ≡ cond test 0 (n + 1)
    step true there m n f h = refl
    step false there m n f h = ap (λ k. k + 1) (f h)

-- a load of the list is at its index
pub at_index : (load : VariableLoad) (xs : List VariableLoad) → is_in load xs ≡ true → slice_get xs (index_of load xs) ≡ Some load
at_index load [] e = absurd (cc)
at_index load (x ∷ xs) e = step (same_load load x) refl (at_index load xs) e
  where
    step : (test : Bool) → same_load load x ≡ test → (is_in load xs ≡ true → slice_get xs (index_of load xs) ≡ Some load)
        → cond test true (is_in load xs) ≡ true → slice_get (x ∷ xs) (cond test 0 (index_of load xs + 1)) ≡ Some load
    step true same f h = ap Some (sym (load-same load x same))
    step false same f h = rw add-one (f h)
