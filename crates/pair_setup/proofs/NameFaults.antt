-- The first fault of the names of a listed function.
use Rattle.std.proofs.Common.{◌≡◌, ◌≢◌, ◌⊎◌, ◌∙◌, ℕ, ◌<◌, List, [], ◌∷◌, ◌++◌, get_or, Option, Some, None, refl, sym, ap, subst, inl, inr, append_assoc, arith}
use Rattle.std.specs.Prelude.{Bool, Contains, IsSome}
use Rattle.std.specs.List.{AllByRecursion}
use Rattle.std.proofs.lemmas.List.Elements.{All-from_recursion, Contains-get_or}
use Rattle.elf_read_spec.specs.Image.{Image, function_named}
use Rattle.elf_read_spec.specs.declared.SymbolValues.TheVariants.{Absent}
use Rattle.c_token_spec.specs.Words.{entry_of}
use Rattle.c_types_spec.specs.Core.{Body, Typed}
use Rattle.c_types_spec.specs.HasType.{IsTypedUnit}
use Rattle.pair_setup_spec.specs.SourceReach as source
use Rattle.pair_setup_spec.specs.SourceReach.{body_of}
use Rattle.pair_setup_spec.specs.Faults.{LacksBody, IsMisplaced, IsFirstOf, function_names, global_names, HasNames, HasNameFault, no_source, misplaced_global}
use Rattle.pair_setup_spec.specs.declared.PairKind.TheVariants.{NoSource, ObjectSize}
use Rattle.pair_setup_calls.specs.Graph.{Reaches}
use Rattle.pair_setup_calls.specs.Names.{IsNumber, IsCallGraph}
use Rattle.pair_setup_calls.proofs.Declared.{Splits}
use Rattle.pair_setup_calls.proofs.Sources.{AreDeclared, one-name, reaches-there, reaches-at, reaches-back}
use Rattle.pair_setup.specs.Globals.{IsMisplacedAt, AreMisplaced}
use Rattle.pair_setup.specs.Names.{LacksBodyAt, NamesMarked, IsLacking, IsUsedMarked, IsLeast, IsFineAt, NoFunction}
use Rattle.pair_setup.proofs.Typing.{called-declared, reached-declared, undeclared-alone, body-declared, listed-declared}
use Rattle.pair_setup.proofs.Numbering.{IsNumbering, declared_names}

-- names of lower numbers lack the property
earlier-all : (P : List ℕ → Type 0) (names : List (List ℕ)) (number : ℕ) (prefix : List (List ℕ))
    → AllByRecursion (λ other. (j : ℕ) × (j < number) × IsNumber names j other) prefix
    → ((j : ℕ) (other : List ℕ) → j < number → IsNumber names j other → P other → ⊥) → AllByRecursion (λ other. P other → ⊥) prefix
earlier-all P names number [] all never = tt
earlier-all P names number (other ∷ prefix) all never = (λ p. never all.0.0 other all.0.1 all.0.2 p, earlier-all P names number prefix all.1 never)

module _ (unit : Typed) (names : List (List ℕ)) (typed : IsTypedUnit unit) (n : IsNumbering unit names) where
  pub calls_are_declared : AreDeclared unit names
  calls_are_declared name other calls = n.of_function other (called-declared unit typed name other calls)

  -- a function that isn't declared has no body itself
  pub undeclared : (image : Image) (listed : List ℕ) → NoFunction unit listed → HasNameFault image unit listed NoSource listed
  undeclared image listed none = no_source listed (record {
    prefix = declared_names unit;
    rest = [];
    split = refl;
    earlier = λ k d below lacks. not_there (get_or (declared_names unit) k d) (Contains-get_or (declared_names unit) k d below) lacks;
    holds = record { reached = source.itself; absent = absent (body_of unit listed) refl };
  })
    where
      never : IsSome (entry_of unit.functions listed) → ⊥
      never some = let is = none in cc

      absent : (o : Option Body) → body_of unit listed ≡ o → body_of unit listed ≡ None
      absent None e = e
      absent (Some body) e = absurd (never (body-declared unit typed listed body e))

      not_there : (other : List ℕ) → Contains (declared_names unit) other → LacksBody unit listed other → ⊥
      not_there other among lacks =
          let same = undeclared-alone unit typed listed other never lacks.reached in
          never (subst (λ m. IsSome (entry_of unit.functions m)) same (listed-declared unit.functions other among))

  module _ (graph : List (List ℕ)) (is : IsCallGraph unit names graph) (marks : List Bool) (listed : List ℕ) (start : ℕ) (number_is : IsNumber names start listed)
      (some : IsSome (entry_of unit.functions listed)) (numbers : List ℕ) (only : (t : ℕ) → Contains numbers t → Reaches graph start t)
      (sorted : (t : ℕ) → Reaches graph start t → Contains numbers t ⊎ IsFineAt unit names marks t) where
    one : (j : ℕ) → IsNumber names j listed → j ≡ start
    one j other = n.apart j start listed other number_is

    -- ---- bodies

    lacks-at : (number : ℕ) (name : List ℕ) → IsNumber names number name → body_of unit name ≡ None → LacksBodyAt unit names number
    lacks-at number name of_name absent other also = subst (λ m. body_of unit m ≡ None) (one-name names number name other of_name also) absent

    -- the function of a number that is reached and lacks a body is among those that are looked at
    lacking-at : (number : ℕ) → Reaches graph start number → LacksBodyAt unit names number → IsLacking unit names numbers number
    lacking-at number reaches lacks = at (sorted number reaches)
      where
        at : Contains numbers number ⊎ IsFineAt unit names marks number → IsLacking unit names numbers number
        at (inl among) = (among, lacks)
        at (inr fine) = absurd (fine.has_body lacks)

    pub lacking-first : (image : Image) (least : ℕ) → IsLeast (IsLacking unit names numbers) (Some least)
        → (name : List ℕ) × IsNumber names least name × HasNameFault image unit listed NoSource name
    lacking-first image least first =
        let there = reaches-there unit names graph is start least listed number_is (only least first.0.0) in
        (there.0, there.1, no_source there.0 (at there.0 there.1 there.2 (n.splits_function least there.0 there.1 (reached-declared unit typed listed there.0 some there.2))))
      where
        at : (name : List ℕ) → IsNumber names least name → source.Reaches unit listed name → Splits names (declared_names unit) least name
            → IsFirstOf (function_names unit listed) (LacksBody unit listed) name
        at name of_name reaches s = record {
          prefix = s.prefix;
          rest = s.rest ++ listed ∷ [];
          split = ap (λ l. l ++ listed ∷ []) s.split ∙ append_assoc s.prefix (name ∷ s.rest) (listed ∷ []);
          earlier = All-from_recursion (λ (other : List ℕ). LacksBody unit listed other → ⊥) s.prefix (earlier-all (LacksBody unit listed) names least s.prefix s.earlier never);
          holds = record { reached = reaches; absent = first.0.1 name of_name };
        }
          where
            never : (j : ℕ) (other : List ℕ) → j < least → IsNumber names j other → LacksBody unit listed other → ⊥
            never j other below of_other lacks =
                let reached = reaches-at unit names graph is calls_are_declared start j listed other number_is one of_other lacks.reached in
                let from = first.1 j (lacking-at j reached (lacks-at j other of_other lacks.absent)) in omega (arith, from, below)

    pub none-lacking : IsLeast (IsLacking unit names numbers) None → (other : List ℕ) → LacksBody unit listed other → ⊥
    none-lacking none other lacks =
        let number = reaches-back unit names graph is calls_are_declared start listed other number_is lacks.reached in
        none number.0 (lacking-at number.0 number.2 (lacks-at number.0 other number.1 lacks.absent))

    -- ---- globals

    module _ (image : Image) (marked : AreMisplaced image unit names marks) where
      -- a global that the function uses and that isn't placed is marked
      wrong-at : (number : ℕ) (global : List ℕ) → IsNumber names number global → IsMisplaced image unit listed global → IsUsedMarked unit names marks numbers number
      wrong-at number global of_global m =
          let user = reaches-back unit names graph is calls_are_declared start listed m.named.other number_is m.named.reached in
          at user.0 (sorted user.0 user.2) (uses user.0 user.1)
        where
          uses : (user : ℕ) → IsNumber names user m.named.other → NamesMarked unit names marks user number
          uses user user_is = (
            record {
              name = m.named.other;
              name_is = user_is;
              body = m.named.body;
              body_is = m.named.body_is;
              other = global;
              named = m.named.named;
              global_is = of_global;
            },
            (marked number).1 (record {
              declared = m.declared;
              is_declared = m.is_declared;
              number_is = subst (IsNumber names number) (sym m.name_is) of_global;
              misplaced = m.misplaced;
            }),
          )

          at : (user : ℕ) → Contains numbers user ⊎ IsFineAt unit names marks user → NamesMarked unit names marks user number → IsUsedMarked unit names marks numbers number
          at user (inl among) usage = (user, among, usage)
          at user (inr fine) usage = absurd (fine.placed number usage)

      uses-it : (number : ℕ) (global : List ℕ) → IsNumber names number global → IsUsedMarked unit names marks numbers number → source.Names unit listed global
      uses-it number global of_global (user, among, (usage, set)) =
          let there = reaches-there unit names graph is start user listed number_is (only user among) in
          record {
            other = usage.name;
            reached = subst (source.Reaches unit listed) (one-name names user there.0 usage.name there.1 usage.name_is) there.2;
            body = usage.body;
            body_is = usage.body_is;
            named = subst (Contains usage.body.mentions) (one-name names number usage.other global usage.global_is of_global) usage.named;
          }

      module _ (bodies : (other : List ℕ) → LacksBody unit listed other → ⊥) (symbol : function_named image listed ≢ Absent) where
        pub wrong-first : (least : ℕ) → IsLeast (IsUsedMarked unit names marks numbers) (Some least)
            → (name : List ℕ) × IsNumber names least name × HasNameFault image unit listed ObjectSize name
        wrong-first least first =
            let m = (marked least).0 first.0.2.1 in
            (m.declared.global, m.number_is, misplaced_global m.declared.global bodies symbol (at m (n.splits_global least m.declared m.number_is m.is_declared)))
          where
            at : (m : IsMisplacedAt image unit names least) → Splits names (global_names unit) least m.declared.global
                → IsFirstOf (global_names unit) (IsMisplaced image unit listed) m.declared.global
            at m s = record {
              prefix = s.prefix;
              rest = s.rest;
              split = s.split;
              earlier = All-from_recursion (λ (other : List ℕ). IsMisplaced image unit listed other → ⊥) s.prefix (earlier-all (IsMisplaced image unit listed) names least s.prefix s.earlier never);
              holds = record {
                declared = m.declared;
                is_declared = m.is_declared;
                name_is = refl;
                named = uses-it least m.declared.global m.number_is first.0;
                misplaced = m.misplaced;
              };
            }
              where
                never : (j : ℕ) (other : List ℕ) → j < least → IsNumber names j other → IsMisplaced image unit listed other → ⊥
                never j other below of_other wrong = let from = first.1 j (wrong-at j other of_other wrong) in omega (arith, from, below)

        pub none-wrong : IsLeast (IsUsedMarked unit names marks numbers) None → HasNames image unit listed
        none-wrong none = record {
          bodies = bodies;
          symbol = symbol;
          globals = λ global m.
              let number = n.of_global m.declared m.is_declared in
              none number.0 (wrong-at number.0 global (subst (IsNumber names number.0) m.name_is number.1) m);
        }
