-- The listed functions of pairs, as the program has them: in the order of the list, with their names and stacks.
use Rattle.std.proofs.Common.{◌≡◌, ◌≢◌, ◌∙◌, ℕ, suc, true, false, List, [], ◌∷◌, map, Some, refl, sym, ap, subst, arith}
use Rattle.std.specs.Prelude.{All, IsTrue, length, slice_get}
use Rattle.std.proofs.lemmas.List.Elements.{All-nil, All-cons}
use Rattle.elf_read_spec.specs.Image.{Image}
use Rattle.c_types_spec.specs.Core.{Typed}
use Rattle.validity_spec.specs.Claim.{IsValid}
use Rattle.agreement_laws.specs.EntryFrame.{Pair}
use Rattle.validity_laws.specs.Derivation.{Function as LaidFunction}
use Rattle.validity_laws.specs.CheckStatements.{listed_of}
use Rattle.cert_check_spec.specs.Verdict.{Listed}
use Rattle.cert_run_spec.specs.Files.{AreFunctionsOf, AreListed, firsts_of, sides_of}
use Rattle.cert_run_spec.specs.Verdict.{valid_judgement}
use Rattle.cert_run_spec.proofs.Apart.{found_name}
use Rattle.prove_run_spec.specs.Trails.{Found, Proved, Unproved}
use Rattle.cert_run.specs.Searches.{is_proved}
use Rattle.pair_setup_spec.specs.Outcome as outcome
use Rattle.pair_setup.specs.Answers.{functions_of}
use Rattle.pair_setup.specs.declared.outcome.Function.{Function}
use Rattle.report_text_spec.specs.Verdict.{Judgement}
use Rattle.tv_core_spec.specs.Decisions.{judgement_of, judgements_of}
use Rattle.tv_core.specs.Listed.{judged, judgement_on}

-- the names of the list and the stacks of its functions are those of the listed functions
unfoldable pub Aligned : (list : List (List ℕ)) → List Function → List Listed → Type 0
Aligned [] functions [] = Unit {0}
Aligned (name ∷ list) (f ∷ functions) (l ∷ listed) = (l.name ≡ name) × (l.stack ≡ f.stack) × Aligned list functions listed
Aligned list functions listed = ⊥

by_bodies : (unit : Typed) (q : Pair) (firsts : List (List (ℕ × ℕ))) (list : List (List ℕ)) (functions : List Function) (laid : List LaidFunction)
    → map (λ (f : outcome.Function). f.name) (functions_of list functions) ≡ list → AreFunctionsOf unit (functions_of list functions) laid
    → Aligned list functions (map (listed_of q firsts) laid)
unfolding AreFunctionsOf Aligned
by_bodies unit q firsts [] functions [] e h = tt
by_bodies unit q firsts [] functions (g ∷ laid) e h = absurd h
by_bodies unit q firsts (name ∷ list) [] laid e h = absurd (cc)
by_bodies unit q firsts (name ∷ list) (f ∷ functions) [] e h = absurd h
by_bodies unit q firsts (name ∷ list) (f ∷ functions) (g ∷ laid) e h =
    let tails : map (λ (f : outcome.Function). f.name) (functions_of list functions) ≡ list = cc in
    (found_name unit.bodies name g.body h.0.body_is, h.0.stack_is, by_bodies unit q firsts list functions laid tails h.1)

pub aligned : (image : Image) (unit : Typed) (list : List (List ℕ)) (functions : List Function) (entries : List ℕ) (listed : List Listed)
    → map (λ (f : outcome.Function). f.name) (functions_of list functions) ≡ list
    → AreListed image unit (record { functions = functions_of list functions; entries = entries }) listed → Aligned list functions listed
aligned image unit list functions entries listed e h =
    subst (Aligned list functions) (sym h.listed_are) (by_bodies unit (sides_of image unit h.runs entries h.sides) (firsts_of h.sides) list functions h.functions e h.functions_are)

pub aligned_length : (list : List (List ℕ)) (functions : List Function) (listed : List Listed) → Aligned list functions listed → length listed ≡ length list
unfolding Aligned
aligned_length [] functions [] h = refl
aligned_length [] functions (l ∷ listed) h = absurd h
aligned_length (name ∷ list) [] listed h = absurd h
aligned_length (name ∷ list) (f ∷ functions) [] h = absurd h
aligned_length (name ∷ list) (f ∷ functions) (l ∷ listed) h = ap suc (aligned_length list functions listed h.2)

-- the names of the listed functions are the list
pub listed_names : (list : List (List ℕ)) (functions : List Function) (listed : List Listed) → Aligned list functions listed
    → map (λ (l : Listed). l.name) listed ≡ list
unfolding Aligned
listed_names [] functions [] h = refl
listed_names [] functions (l ∷ listed) h = absurd h
listed_names (name ∷ list) [] listed h = absurd h
listed_names (name ∷ list) (f ∷ functions) [] h = absurd h
listed_names (name ∷ list) (f ∷ functions) (l ∷ listed) h =
    let named = h.0 in
    let rest = listed_names list functions listed h.2 in
    λ i. named i ∷ rest i

-- ---- judgements of what was found

same_judgement : (name : List ℕ) (f : Function) (l : Listed) (one : Found) → l.name ≡ name → l.stack ≡ f.stack
    → judgement_on name (is_proved one) f ≡ judgement_of l one
same_judgement name f l (Proved logs) named stack = λ i. record { name = sym named i; valid = true; stack = sym stack i }
same_judgement name f l (Unproved trail) named stack = λ i. record { name = sym named i; valid = false; stack = 0 }

-- a function is judged by what was found of it
pub same_judgements : (list : List (List ℕ)) (functions : List Function) (listed : List Listed) (found : List Found) → Aligned list functions listed
    → judged list functions (map is_proved found) ≡ judgements_of listed found
unfolding Aligned judgements_of
same_judgements [] functions [] found h = refl
same_judgements [] functions (l ∷ listed) found h = absurd h
same_judgements (name ∷ list) [] listed found h = absurd h
same_judgements (name ∷ list) (f ∷ functions) [] found h = absurd h
same_judgements (name ∷ list) (f ∷ functions) (l ∷ listed) [] h = refl
same_judgements (name ∷ list) (f ∷ functions) (l ∷ listed) (one ∷ found) h =
    let first = same_judgement name f l one h.0 h.1 in
    let rest = same_judgements list functions listed found h.2 in
    λ i. first i ∷ rest i

same_name : (l : Listed) (one : Found) → (judgement_of l one).name ≡ l.name
same_name l (Proved logs) = refl
same_name l (Unproved trail) = refl

-- judgements have the names of the functions
pub judgement_names : (listed : List Listed) (found : List Found) → length found ≡ length listed
    → map (λ (j : Judgement). j.name) (judgements_of listed found) ≡ map (λ (l : Listed). l.name) listed
unfolding judgements_of
judgement_names [] found e = refl
judgement_names (l ∷ listed) [] e = absurd (omega (arith, e))
judgement_names (l ∷ listed) (one ∷ found) e =
    let name = same_name l one in
    let rest = judgement_names listed found (omega (arith, e)) in
    λ i. name i ∷ rest i

abbrev Valid : Image → Typed → Judgement → Type 0
Valid image unit j = IsTrue j.valid → IsValid image unit j.name j.stack

one_valid : (image : Image) (unit : Typed) (l : Listed) (one : Found) → (is_proved one ≡ true → IsValid image unit l.name l.stack) → Valid image unit (judgement_of l one)
one_valid image unit l (Proved logs) h is = h refl
one_valid image unit l (Unproved trail) h is = absurd (cc)

-- and valid if it is called so
pub are_valid : (image : Image) (unit : Typed) (listed : List Listed) (found : List Found)
    → ((k : ℕ) (f : Listed) (one : Found) → slice_get listed k ≡ Some f → slice_get found k ≡ Some one → is_proved one ≡ true → IsValid image unit f.name f.stack)
    → All (λ (j : Judgement). IsTrue j.valid → IsValid image unit j.name j.stack) (judgements_of listed found)
unfolding judgements_of
are_valid image unit [] found each = All-nil (Valid image unit)
are_valid image unit (l ∷ listed) [] each = All-nil (Valid image unit)
are_valid image unit (l ∷ listed) (one ∷ found) each =
    All-cons (Valid image unit) (judgement_of l one) (judgements_of listed found) (one_valid image unit l one (each 0 l one refl refl))
    (are_valid image unit listed found (λ k g o. each (suc k) g o))

-- ---- of a proof

-- all functions are called valid
pub all_called : (list : List (List ℕ)) (functions : List Function) (listed : List Listed) → Aligned list functions listed
    → judged list functions (map (λ (f : Function). true) functions) ≡ map valid_judgement listed
unfolding Aligned
all_called [] functions [] h = refl
all_called [] functions (l ∷ listed) h = absurd h
all_called (name ∷ list) [] listed h = absurd h
all_called (name ∷ list) (f ∷ functions) [] h = absurd h
all_called (name ∷ list) (f ∷ functions) (l ∷ listed) h =
    let named = h.0 in
    let stack = h.1 in
    let rest = all_called list functions listed h.2 in
    λ i. record { name = sym named i; valid = true; stack = sym stack i } ∷ rest i

-- with the names of the list
pub called_names : (list : List (List ℕ)) (functions : List Function) (listed : List Listed) → Aligned list functions listed
    → map (λ (j : Judgement). j.name) (map valid_judgement listed) ≡ list
unfolding Aligned
called_names [] functions [] h = refl
called_names [] functions (l ∷ listed) h = absurd h
called_names (name ∷ list) [] listed h = absurd h
called_names (name ∷ list) (f ∷ functions) [] h = absurd h
called_names (name ∷ list) (f ∷ functions) (l ∷ listed) h =
    let named = h.0 in
    let rest = called_names list functions listed h.2 in
    λ i. named i ∷ rest i

-- and are valid as they are
pub called_valid : (image : Image) (unit : Typed) (listed : List Listed) → All (λ (f : Listed). IsValid image unit f.name f.stack) listed
    → All (λ (j : Judgement). IsTrue j.valid → IsValid image unit j.name j.stack) (map valid_judgement listed)
called_valid image unit [] all = All-nil (Valid image unit)
called_valid image unit (l ∷ listed) all =
    All-cons (Valid image unit) (valid_judgement l) (map valid_judgement listed) (λ is. all 0 l (omega arith))
    (called_valid image unit listed (λ k d below. all (suc k) d (omega (arith, below))))

-- ---- one function at least

none_laid : (unit : Typed) (functions : List outcome.Function) (laid : List LaidFunction) → AreFunctionsOf unit functions laid → laid ≡ [] → functions ≡ []
unfolding AreFunctionsOf
none_laid unit [] laid h e = refl
none_laid unit (f ∷ functions) [] h e = absurd h
none_laid unit (f ∷ functions) (g ∷ laid) h e = absurd (cc)

pub none_mapped : {X Y : Type 0} (f : X → Y) (xs : List X) → map f xs ≡ [] → xs ≡ []
none_mapped f [] e = refl
none_mapped f (x ∷ xs) e = absurd (cc)

-- of a list with pairs there is a listed function
pub some_listed : (image : Image) (unit : Typed) (pairs : outcome.Pairs) (names : List (List ℕ)) (listed : List Listed) → names ≢ []
    → map (λ (f : outcome.Function). f.name) pairs.functions ≡ names → AreListed image unit pairs listed → listed ≢ []
some_listed image unit pairs names listed some named h = λ none.
    let laid : h.functions ≡ [] = none_mapped (listed_of (sides_of image unit h.runs pairs.entries h.sides) (firsts_of h.sides)) h.functions (sym h.listed_are ∙ none) in
    let functions : pairs.functions ≡ [] = none_laid unit pairs.functions h.functions h.functions_are laid in
    some (sym named ∙ ap (map (λ (f : outcome.Function). f.name)) functions)

-- so there is a judgement that it is valid
pub some_called : (image : Image) (unit : Typed) (pairs : outcome.Pairs) (names : List (List ℕ)) (listed : List Listed) → names ≢ []
    → map (λ (f : outcome.Function). f.name) pairs.functions ≡ names → AreListed image unit pairs listed → map valid_judgement listed ≢ []
some_called image unit pairs names listed some named h = λ e. some_listed image unit pairs names listed some named h (none_mapped valid_judgement listed e)
