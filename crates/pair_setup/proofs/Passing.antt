-- The names of listed functions are looked at one after the other.
use Rattle.std.proofs.Common.{◌≡◌, ◌≢◌, ◌⊎◌, ◌∙◌, ℕ, ◌+◌, List, [], ◌∷◌, ◌++◌, length, take, drop, Option, Some, None, refl, sym, ap, subst, inl, inr, true≢false}
use Rattle.std.specs.Prelude.{◌↔◌, Bool, true, false, Contains, All, IfErr, IsTrue, OnOk, slice_get}
use Rattle.std.proofs.lemmas.List.{drop_at}
use Rattle.std.proofs.lemmas.List.Elements.{All-nil, All-push, Contains-append_left, Contains-append_cases, Contains-push}
use Rattle.elf_read_spec.specs.Image.{Image, function_named}
use Rattle.elf_read_spec.specs.declared.SymbolValues.TheVariants.{Absent}
use Rattle.c_types_spec.specs.Core.{Typed}
use Rattle.c_types_spec.specs.HasType.{IsTypedUnit}
use Rattle.pair_setup_spec.specs.SourceReach as source
use Rattle.pair_setup_spec.specs.Faults.{HasNames, no_symbol}
use Rattle.pair_setup_calls.specs.Graph.{Reaches, Grows, IsClosed}
use Rattle.pair_setup_calls.specs.Names.{IsCallGraph}
use Rattle.pair_setup_calls.proofs.Sources.{reaches-there, reaches-back}
use Rattle.pair_setup.specs.Globals.{AreMisplaced}
use Rattle.pair_setup.specs.Names.{IsDeclaredAt, IsLacking, IsUsedMarked, IsLeast, IsFineAt, AreFine, AddsReached, IsReachedFrom, IsPassed, ArePassed, IsNameError, refusal_of}
use Rattle.pair_setup.specs.Answers.{IsFirstNameError}
use Rattle.pair_setup.specs.declared.outcome.Named.TheVariants.{Nothing, Listed, Declared}
use Rattle.attempt.specs.declared.refusal.Refusal.{Refusal}
use Rattle.attempt.specs.declared.refusal.Refusal.TheVariants.{Fault, NoMemory}
use Rattle.pair_setup.specs.declared.outcome.PairFault.{PairFault}
use Rattle.pair_setup.specs.declared.outcome.PairFault.TheVariants.{Refused, Code, Nodes}
use Rattle.pair_setup.proofs.Added.{none_contained, only_contained}
use Rattle.pair_setup.proofs.Numbering.{IsNumbering}
use Rattle.pair_setup.proofs.Prefixes.{split-at}
use Rattle.pair_setup.proofs.NameFaults.{calls_are_declared, lacking-first, none-lacking, wrong-first, none-wrong}

module _ (image : Image) (unit : Typed) (names : List (List ℕ)) (typed : IsTypedUnit unit) (n : IsNumbering unit names)
    (graph : List (List ℕ)) (is : IsCallGraph unit names graph) (marks : List Bool) (marked : AreMisplaced image unit names marks) where
  module _ (listed : List ℕ) (start : ℕ) (declared : IsDeclaredAt unit names listed start) (old new : List ℕ) (fine : AreFine unit names graph marks old)
      (grows : Grows (Reaches graph start) old new) (closed : IsClosed graph new) (numbers : List ℕ) (numbers_are : numbers ≡ drop (length old) new) where
    more_is : numbers ≡ grows.more
    more_is = numbers_are ∙ ap (drop (length old)) grows.grown ∙ drop_at old grows.more (length old) refl

    only : (t : ℕ) → Contains numbers t → Reaches graph start t
    only t among = grows.only t (subst (λ l. Contains l t) more_is among)

    either : (t : ℕ) → Contains new t → Contains old t ⊎ Contains numbers t
    either t among = elim (Contains-append_cases old grows.more t (subst (λ l. Contains l t) grows.grown among)) [
      | inl before ↦ inl before
      | inr added ↦ inr (subst (λ l. Contains l t) (sym more_is) added)
    ]

    sorted : (t : ℕ) → Reaches graph start t → Contains numbers t ⊎ IsFineAt unit names marks t
    sorted t reaches = elim (either t (grows.all t reaches)) [
      | inl before ↦ inr (fine.fine t before)
      | inr added ↦ inl added
    ]

    adds : AddsReached unit names listed old new
    adds = record {
      kept = λ t among. subst (λ l. Contains l t) (sym grows.grown) (Contains-append_left old grows.more t among);
      only = λ t among. elim (either t among) [
        | inl before ↦ inl before
        | inr added ↦ inr (let there = reaches-there unit names graph is start t listed declared.number_is (only t added) in
            record { other = there.0; number_is = there.1; reached = there.2 })
      ];
      all = λ other reached.
          let number = reaches-back unit names graph is (calls_are_declared unit names typed n) start listed other declared.number_is reached in
          (number.0, number.1, grows.all number.0 number.2);
    }

    passed : IsLeast (IsLacking unit names numbers) None → function_named image listed ≢ Absent → IsLeast (IsUsedMarked unit names marks numbers) None
        → IsPassed image unit names graph marks listed old new
    passed lacking symbol used = record {
      no_fault = none-wrong unit names typed n graph is marks listed start declared.number_is declared.declared numbers only sorted image marked
          (none-lacking unit names typed n graph is marks listed start declared.number_is declared.declared numbers only sorted lacking) symbol used;
      fine = record {
        closed = closed;
        fine = λ t among. elim (either t among) [
          | inl before ↦ fine.fine t before
          | inr added ↦ record { has_body = λ lacks. lacking t (added, lacks); placed = λ global usage. used global (t, added, usage) }
        ];
      };
      adds = adds;
    }

    pub passed-if : (lacking : Option ℕ) (absent : Bool) (global : Option ℕ) (index : ℕ) → IsLeast (IsLacking unit names numbers) lacking
        → IsTrue absent ↔ (function_named image listed ≡ Absent) → IsLeast (IsUsedMarked unit names marks numbers) global
        → OnOk (refusal_of lacking absent global index) (IsPassed image unit names graph marks listed old new)
    passed-if (Some number) absent global index least symbol used = tt
    passed-if None true global index least symbol used = tt
    passed-if None false (Some number) index least symbol used = tt
    passed-if None false None index least symbol used = passed least (λ e. let bad : false ≡ true = symbol.1 e in true≢false (sym bad)) used

    pub fault-if : (lacking : Option ℕ) (absent : Bool) (global : Option ℕ) (index : ℕ) → IsLeast (IsLacking unit names numbers) lacking
        → IsTrue absent ↔ (function_named image listed ≡ Absent) → IsLeast (IsUsedMarked unit names marks numbers) global
        → IfErr (refusal_of lacking absent global index) (IsNameError image unit names listed index)
    fault-if (Some number) absent global index least symbol used =
        lacking-first unit names typed n graph is marks listed start declared.number_is declared.declared numbers only sorted image number least
    fault-if None true global index least symbol used =
        (listed, (refl, refl), no_symbol (none-lacking unit names typed n graph is marks listed start declared.number_is declared.declared numbers only sorted least) (symbol.0 refl))
    fault-if None false (Some number) index least symbol used =
        wrong-first unit names typed n graph is marks listed start declared.number_is declared.declared numbers only sorted image marked
        (none-lacking unit names typed n graph is marks listed start declared.number_is declared.declared numbers only sorted least)
        (λ e. let bad : false ≡ true = symbol.1 e in true≢false (sym bad)) number used
    fault-if None false None index least symbol used = tt

-- ---- a list

module _ (image : Image) (unit : Typed) (names graph : List (List ℕ)) (marks : List Bool) where
  pub fine-none : AreFine unit names graph marks []
  fine-none = record { closed = λ node other among call. absurd (none_contained node among); fine = λ number among. absurd (none_contained number among) }

  pub passed-none : ArePassed image unit names graph marks [] []
  passed-none = record {
    no_faults = All-nil (HasNames image unit);
    fine = fine-none;
    reached = record {
      only = λ number among. absurd (none_contained number among);
      all = λ listed other among reached. absurd (none_contained listed among);
    };
  }

  pub passed-more : (list : List (List ℕ)) (listed : List ℕ) (old new : List ℕ) → ArePassed image unit names graph marks list old
      → IsPassed image unit names graph marks listed old new → ArePassed image unit names graph marks (list ++ listed ∷ []) new
  passed-more list listed old new so_far one = record {
    no_faults = All-push (HasNames image unit) list listed so_far.no_faults one.no_fault;
    fine = one.fine;
    reached = record { only = only; all = all };
  }
    where
      only : (number : ℕ) → Contains new number → (other : List ℕ) × Contains (list ++ listed ∷ []) other × IsReachedFrom unit names other number
      only number among = elim (one.adds.only number among) [
        | inl before ↦ (let h = so_far.reached.only number before in (h.0, Contains-append_left list (listed ∷ []) h.0 h.1, h.2))
        | inr reached ↦ (listed, Contains-push list listed, reached)
      ]

      all : (one_of other : List ℕ) → Contains (list ++ listed ∷ []) one_of → source.Reaches unit one_of other
          → (number : ℕ) × (slice_get names number ≡ Some other) × Contains new number
      all one_of other among reached = elim (Contains-append_cases list (listed ∷ []) one_of among) [
        | inl before ↦ (let h = so_far.reached.all one_of other before reached in (h.0, h.1, one.adds.kept h.0 h.2))
        | inr last ↦ one.adds.all other (subst (λ l. source.Reaches unit l other) (only_contained listed one_of last) reached)
      ]

  -- the fault of the first that has one
  pub first-name-error : (list : List (List ℕ)) (i : ℕ) (listed : List ℕ) (error : Refusal PairFault) → slice_get list i ≡ Some listed → All (HasNames image unit) (take i list)
      → IsNameError image unit names listed i error → IsFirstNameError image unit names list error
  first-name-error list i listed (Fault (Refused kind Nothing)) there earlier h = absurd h.1
  first-name-error list i listed (Fault (Refused kind (Listed index))) there earlier h = (
    h.0,
    subst (λ m. slice_get list m ≡ Some h.0) (sym h.1.0) (subst (λ x. slice_get list i ≡ Some x) (sym h.1.1) there),
    record { listed = listed; prefix = take i list; rest = drop (i + 1) list; split = split-at list i listed there; earlier = earlier; fault = h.2 },
  )
  first-name-error list i listed (Fault (Refused kind (Declared number))) there earlier h = (
    h.0,
    h.1,
    record { listed = listed; prefix = take i list; rest = drop (i + 1) list; split = split-at list i listed there; earlier = earlier; fault = h.2 },
  )
  first-name-error list i listed (Fault (Code fault index)) there earlier h = absurd h
  first-name-error list i listed (Fault Nodes) there earlier h = absurd h
  first-name-error list i listed NoMemory there earlier h = tt
