-- What pairing answers, from what its parts answer.
use Rattle.std.proofs.Common.{◌≡◌, ◌≢◌, ◌⊎◌, ℕ, suc, List, [], ◌∷◌, length, map, get_or, refl, sym, ap, subst, inl, inr, arith}
use Rattle.std.specs.Prelude.{Bool, All, Contains, IsSome, Some, slice_get, codes}
use Rattle.std.specs.List.{AllByRecursion}
use Rattle.std.specs.List.Sorted.{IsStrictlyIncreasing}
use Rattle.std.proofs.lemmas.List.{nil_from_length}
use Rattle.std.proofs.lemmas.List.Elements.{All-from_recursion, All-from_get_or, All-get_or, All-weaker, Contains-get_or}
use Rattle.std.proofs.lemmas.Option.{slice_get-get_or}
use Rattle.elf_read_spec.specs.Image.{Image, function_named, size_at}
use Rattle.elf_read_spec.specs.declared.SymbolValues.TheVariants.{Absent}
use Rattle.code_reach_spec.specs.Code.{Reaches, itself, further, CallsOn, call, tail}
use Rattle.c_types_spec.specs.Core.{Typed}
use Rattle.pair_setup_spec.specs.declared.PairKind.TheVariants.{NothingListed}
use Rattle.pair_setup_spec.specs.SourceReach as source
use Rattle.pair_setup_spec.specs.Faults.{HasNames}
use Rattle.pair_setup_calls.proofs.Sources.{one-name}
use Rattle.pair_setup_spec.specs.Code.{IsSoundCode}
use Rattle.pair_setup_spec.specs.Nodes.{HasLargeGraph, in_code, in_source}
use Rattle.pair_setup_spec.specs.Outcome as spec
use Rattle.pair_setup_spec.specs.Outcome.{nothing_listed, of_names, of_reach, HasNoFault, IsReached, IsPaired, IsFunction}
use Rattle.graph_core_spec.specs.Graph.{Graph}
use Rattle.pair_setup.specs.Codes.{AreCoded, IsFirstCodeError}
use Rattle.pair_setup.specs.Names.{ArePassed}
use Rattle.pair_setup.specs.Depths.{AreFunctions, IsSoundFunction, IsFirstDepthError}
use Rattle.pair_setup.specs.Answers.{functions_of, pairs_of, IsPairError, IsFirstNameError, AreChecked, AreSmall, IsLargeError}
use Rattle.pair_setup.specs.Sizes.{AnyLargeCode, AnyLargeSource}
use Rattle.pair_setup.specs.declared.outcome.Function.{Function}
use Rattle.pair_setup.specs.declared.outcome.Pairs.{Pairs}
use Rattle.pair_setup.specs.declared.outcome.Named.TheVariants.{Nothing, Listed, Declared}
use Rattle.attempt.specs.declared.refusal.Refusal.{Refusal}
use Rattle.attempt.specs.declared.refusal.Refusal.TheVariants.{Fault, NoMemory}
use Rattle.pair_setup.specs.declared.outcome.PairFault.{PairFault}
use Rattle.pair_setup.specs.declared.outcome.PairFault.TheVariants.{Refused, Code, Nodes}
use Rattle.pair_setup.proofs.Entries.{named-sized, coded-sound}

-- ---- sizes of what is reached

reached-sized : (image : Image) (entry other : ℕ) → IsSome (size_at image entry) → Reaches image entry other → IsSome (size_at image other)
reached-sized image entry _ some itself = some
reached-sized image entry other some (further middle size _ reached size_is calls) = at calls
  where
    at : CallsOn image middle size other → IsSome (size_at image other)
    at (call address _ reachable flow_is there) = there
    at (tail address _ reachable flow_is outside there) = there

pub entry-sized : (image : Image) (list : List (List ℕ)) (entry : ℕ) → IsReached image list entry → IsSome (size_at image entry)
entry-sized image list entry r = reached-sized image r.from entry (named-sized image r.listed r.from r.from_is) r.reached

module _ (image : Image) (unit : Typed) (names list : List (List ℕ)) where
  -- ---- faults

  pub nothing-error : length list ≡ 0 → IsPairError image unit names list (Fault (Refused NothingListed Nothing))
  nothing-error none = (codes "-", refl, nothing_listed (nil_from_length list none))

  pub name-error : (error : Refusal PairFault) → IsFirstNameError image unit names list error → IsPairError image unit names list error
  name-error (Fault (Refused kind named)) h = (h.0, h.1, of_names kind h.0 h.2)
  name-error (Fault (Code fault index)) h = absurd h
  name-error (Fault Nodes) h = absurd h
  name-error NoMemory h = tt

  pub symbols : All (HasNames image unit) list → All (λ (name : List ℕ). function_named image name ≢ Absent) list
  symbols all = All-weaker (HasNames image unit) (λ (name : List ℕ). function_named image name ≢ Absent) (λ name h. h.symbol) list all

  module _ (all : All (HasNames image unit) list) where
    pub code-fault : (error : Refusal PairFault) → IsFirstCodeError image list error → IsPairError image unit names list error
    code-fault (Fault (Code fault index)) h = (h.0, h.1, record { names = all; first = h.2 })
    code-fault (Fault (Refused kind named)) h = absurd h
    code-fault (Fault Nodes) h = absurd h
    code-fault NoMemory h = tt

    pub depth-fault : All (IsSoundCode image) list → (error : Refusal PairFault) → IsFirstDepthError image unit list error → IsPairError image unit names list error
    depth-fault sound (Fault (Refused kind (Listed index))) h = (h.0, h.1, of_reach kind h.0 all sound h.2)
    depth-fault sound (Fault (Refused kind Nothing)) h = absurd h
    depth-fault sound (Fault (Refused kind (Declared number))) h = absurd h
    depth-fault sound (Fault (Code fault index)) h = absurd h
    depth-fault sound (Fault Nodes) h = absurd h
    depth-fault sound NoMemory h = tt

  pub are-checked : (graph : List (List ℕ)) (marks : List Bool) (functions : List Function) (numbers firsts entries : List ℕ) → ArePassed image unit names graph marks list numbers
      → AreCoded image list firsts entries → AreFunctions image unit list functions → AreChecked image unit names list functions numbers entries
  are-checked graph marks functions numbers firsts entries passed coded are = record {
    names_are = passed.no_faults;
    code_is = coded-sound image list list firsts entries coded;
    functions_are = are;
    numbers_are = passed.reached;
    entries_are = λ entry. (coded.only entry, coded.all entry);
  }

  -- ---- pairs

  functions-all : (some : List (List ℕ)) (functions : List Function) → length functions ≡ length some
      → ((i : ℕ) (name : List ℕ) (d : Function) → slice_get some i ≡ Some name → IsSoundFunction image unit name (get_or functions i d))
      → AllByRecursion (IsFunction image unit) (functions_of some functions)
  functions-all [] functions long each = tt
  functions-all (name ∷ some) [] long each = absurd (omega (arith, long))
  functions-all (name ∷ some) (f ∷ functions) long each =
      ((each 0 name f refl).function_is, functions-all some functions (omega (arith, long)) (λ i other d there. each (suc i) other d there))

  functions-named : (some : List (List ℕ)) (functions : List Function) → length functions ≡ length some → map (λ (f : spec.Function). f.name) (functions_of some functions) ≡ some
  functions-named [] functions long = refl
  functions-named (name ∷ some) [] long = absurd (omega (arith, long))
  functions-named (name ∷ some) (f ∷ functions) long = ap (λ l. name ∷ l) (functions-named some functions (omega (arith, long)))

  module _ (functions : List Function) (numbers entries : List ℕ) (c : AreChecked image unit names list functions numbers entries) where
    no-faults : (d : Function) → All (HasNoFault image unit) list
    no-faults d =
        All-from_get_or (HasNoFault image unit) list [] (λ i below. record {
          names = All-get_or (HasNames image unit) list i [] below c.names_are;
          code = All-get_or (IsSoundCode image) list i [] below c.code_is;
          shallow = (c.functions_are.each i (get_or list i []) d (slice_get-get_or list i [] below)).shallow;
        })

    nothing : Function
    nothing = record { entry = 0; size = 0; stack = 0 }

    large-code : (listed : List ℕ) → Contains list listed → HasLargeGraph image unit listed → AnyLargeCode image entries ⊎ AnyLargeSource unit names numbers
    large-code listed among (in_code entry other is reaches large) =
        inl (record {
          entry = other;
          among = (c.entries_are other).1 (record { listed = listed; is_listed = among; from = entry; from_is = is; reached = reaches });
          large = large;
        })
    large-code listed among (in_source other reaches large) =
        inr (let number = c.numbers_are.all listed other among reaches in
        record { number = number.0; among = number.2; large = record { name = other; number_is = number.1; large = large } })

    pub are-paired : (found : List ℕ) (graphs : List Graph) (firsts : List (List (ℕ × ℕ))) (pairs : Pairs) → list ≢ []
        → AreSmall image unit names numbers entries found graphs firsts → pairs.functions.items ≡ functions → pairs.entries.items ≡ found → IsPaired image unit list (pairs_of list pairs)
    are-paired found graphs firsts pairs some small functions_are found_are = record {
      some = some;
      no_fault = no-faults nothing;
      no_large = All-from_get_or (λ (listed : List ℕ). HasLargeGraph image unit listed → ⊥) list [] (λ i below large. none (large-code (get_or list i []) (Contains-get_or list i [] below) large));
      listed = subst (λ (l : List Function). map (λ (f : spec.Function). f.name) (functions_of list l) ≡ list) (sym functions_are) (functions-named list functions c.functions_are.long);
      functions_are = subst (λ (l : List Function). All (IsFunction image unit) (functions_of list l)) (sym functions_are)
          (All-from_recursion (IsFunction image unit) (functions_of list functions) (functions-all list functions c.functions_are.long c.functions_are.each));
      rising = subst IsStrictlyIncreasing (sym found_are) small.rising;
      entries_are = λ entry. (
        λ among. (c.entries_are entry).0 ((small.same entry).0 (subst (λ l. Contains l entry) found_are among)),
        λ reached. subst (λ l. Contains l entry) (sym found_are) ((small.same entry).1 ((c.entries_are entry).1 reached)),
      );
    }
      where
        none : AnyLargeCode image entries ⊎ AnyLargeSource unit names numbers → ⊥
        none (inl large) = small.code large
        none (inr large) = small.source large

    pub large-error : (error : Refusal PairFault) → IsLargeError image unit names numbers entries error → IsPairError image unit names list error
    large-error (Fault (Refused kind named)) h = absurd h
    large-error (Fault (Code fault index)) h = absurd h
    large-error (Fault Nodes) (inl any) =
        let r = (c.entries_are any.entry).0 any.among in
        record { no_fault = no-faults nothing; listed = r.listed; is_listed = r.is_listed; large = in_code r.from any.entry r.from_is r.reached any.large }
    large-error (Fault Nodes) (inr any) =
        let l = any.large in
        let r = c.numbers_are.only any.number any.among in
        record {
          no_fault = no-faults nothing;
          listed = r.0;
          is_listed = r.1;
          large = in_source l.name (subst (source.Reaches unit r.0) (one-name names any.number r.2.other l.name r.2.number_is l.number_is) r.2.reached) l.large;
        }
    large-error NoMemory h = tt
