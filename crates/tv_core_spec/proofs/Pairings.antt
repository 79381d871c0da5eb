-- A list has one outcome of pairing at most: pairs, a fault of a pair, a fault of code, or that a graph is too large.
use Rattle.std.proofs.Common.{◌≡◌, ◌≢◌, ℕ, List, [], ◌∷◌, ◌++◌, All, Contains, refl, ap, sym, ◌∙◌, subst, arith}
use Rattle.elf_read_spec.specs.Image.{Image, function_named}
use Rattle.elf_read_spec.specs.declared.SymbolValues.TheVariants.{One}
use Rattle.c_types_spec.specs.Core.{Typed}
use Rattle.code_reach_spec.specs.declared.CodeKind.{CodeKind}
use Rattle.pair_setup_spec.specs.declared.PairKind.{PairKind}
use Rattle.pair_setup_spec.specs.Faults.{LacksBody, IsMisplaced, IsFirstOf, HasNames, HasNameFault, no_source, no_symbol, misplaced_global, HasReachFault, recursive, too_deep, IsRecursive, IsTooDeep, IsFirstNameFault, IsShallow, IsFirstReachFault}
use Rattle.pair_setup_spec.specs.Code.{IsSoundCode}
use Rattle.pair_setup_spec.specs.Outcome.{IsPairFault, nothing_listed, of_names, of_reach, IsCodeFault, HasNoFault, IsTooLarge}
use Rattle.tv_core_spec.proofs.Firsts.{at_middle, first_same}
use Rattle.tv_core_spec.proofs.Codes.{sound_or_faulty}

-- ---- the names of a listed function

one_of : (names : List (List ℕ)) (P : List ℕ → Type 0) (one two : List ℕ) → IsFirstOf names P one → IsFirstOf names P two → one ≡ two
one_of names P one two x y =
    first_same (λ other. P other → ⊥) x.prefix y.prefix x.rest y.rest one two (sym x.split ∙ y.split) x.earlier y.earlier (λ h. h x.holds) (λ h. h y.holds)

named_or_faulty : (image : Image) (unit : Typed) (listed : List ℕ) (kind : PairKind) (name : List ℕ) → HasNames image unit listed
    → HasNameFault image unit listed kind name → ⊥
named_or_faulty image unit listed _ _ has (no_source name first) = has.bodies name first.holds
named_or_faulty image unit listed _ _ has (no_symbol there absent) = has.symbol absent
named_or_faulty image unit listed _ _ has (misplaced_global name there symbol first) = has.globals name first.holds

one_name_fault : (image : Image) (unit : Typed) (listed : List ℕ) (kind other : PairKind) (name third : List ℕ) → HasNameFault image unit listed kind name
    → HasNameFault image unit listed other third → (kind ≡ other) × (name ≡ third)
one_name_fault image unit listed _ _ _ _ (no_source name x) (no_source third y) = (refl, one_of _ (LacksBody unit listed) name third x y)
one_name_fault image unit listed _ _ _ _ (no_source name x) (no_symbol there absent) = absurd (there name x.holds)
one_name_fault image unit listed _ _ _ _ (no_source name x) (misplaced_global third there symbol y) = absurd (there name x.holds)
one_name_fault image unit listed _ _ _ _ (no_symbol there absent) (no_source third y) = absurd (there third y.holds)
one_name_fault image unit listed _ _ _ _ (no_symbol there absent) (no_symbol again gone) = (refl, refl)
one_name_fault image unit listed _ _ _ _ (no_symbol there absent) (misplaced_global third again symbol y) = absurd (symbol absent)
one_name_fault image unit listed _ _ _ _ (misplaced_global name there symbol x) (no_source third y) = absurd (there third y.holds)
one_name_fault image unit listed _ _ _ _ (misplaced_global name there symbol x) (no_symbol again absent) = absurd (symbol absent)
one_name_fault image unit listed _ _ _ _ (misplaced_global name there symbol x) (misplaced_global third again present y) =
    (refl, one_of _ (IsMisplaced image unit listed) name third x y)

one_first_name : (image : Image) (unit : Typed) (list : List (List ℕ)) (kind other : PairKind) (name third : List ℕ) → IsFirstNameFault image unit list kind name
    → IsFirstNameFault image unit list other third → (kind ≡ other) × (name ≡ third)
one_first_name image unit list kind other name third x y =
    let same = first_same (HasNames image unit) x.prefix y.prefix x.rest y.rest x.listed y.listed (sym x.split ∙ y.split) x.earlier y.earlier
    (λ has. named_or_faulty image unit x.listed kind name has x.fault) (λ has. named_or_faulty image unit y.listed other third has y.fault) in
    one_name_fault image unit x.listed kind other name third x.fault (subst (λ l. HasNameFault image unit l other third) (sym same) y.fault)

all_named_or_faulty : (image : Image) (unit : Typed) (list : List (List ℕ)) (kind : PairKind) (name : List ℕ) → All (HasNames image unit) list
    → IsFirstNameFault image unit list kind name → ⊥
all_named_or_faulty image unit list kind name all x =
    named_or_faulty image unit x.listed kind name (at_middle (HasNames image unit) x.prefix x.listed x.rest (subst (All (HasNames image unit)) x.split all)) x.fault

-- ---- what a listed function reaches

shallow_or_faulty : (image : Image) (unit : Typed) (listed : List ℕ) (entry : ℕ) (kind : PairKind) → function_named image listed ≡ One entry
    → IsShallow image unit listed → HasReachFault image unit listed entry kind → ⊥
shallow_or_faulty image unit listed entry kind named shallow fault =
    let other = shallow.entry_is in
    let same : shallow.entry ≡ entry = cc in
    by_fault same kind fault
  where
    by_fault : shallow.entry ≡ entry → (k : PairKind) → HasReachFault image unit listed entry k → ⊥
    by_fault same _ (recursive cyclic) = shallow.acyclic (subst (λ e. IsRecursive image unit listed e) (sym same) cyclic)
    by_fault same _ (too_deep acyclic deep) = shallow.within (subst (λ e. IsTooDeep image e) (sym same) deep)

one_reach_fault : (image : Image) (unit : Typed) (listed : List ℕ) (entry : ℕ) (kind other : PairKind) → HasReachFault image unit listed entry kind
    → HasReachFault image unit listed entry other → kind ≡ other
one_reach_fault image unit listed entry _ _ (recursive x) (recursive y) = refl
one_reach_fault image unit listed entry _ _ (recursive x) (too_deep acyclic deep) = absurd (acyclic x)
one_reach_fault image unit listed entry _ _ (too_deep acyclic deep) (recursive y) = absurd (acyclic y)
one_reach_fault image unit listed entry _ _ (too_deep acyclic deep) (too_deep other more) = refl

one_first_reach : (image : Image) (unit : Typed) (list : List (List ℕ)) (kind other : PairKind) (name third : List ℕ) → IsFirstReachFault image unit list kind name
    → IsFirstReachFault image unit list other third → (kind ≡ other) × (name ≡ third)
one_first_reach image unit list kind other name third x y =
    let same = first_same (IsShallow image unit) x.prefix y.prefix x.rest y.rest name third (sym x.split ∙ y.split) x.earlier y.earlier
    (λ shallow. shallow_or_faulty image unit name x.entry kind x.entry_is shallow x.fault)
    (λ shallow. shallow_or_faulty image unit third y.entry other y.entry_is shallow y.fault) in
    let named = x.entry_is in
    let renamed : function_named image name ≡ One y.entry = ap (function_named image) same ∙ y.entry_is in
    let entries : y.entry ≡ x.entry = cc in (
      one_reach_fault image unit name x.entry kind other x.fault
          (subst (λ e. HasReachFault image unit name e other) entries (subst (λ l. HasReachFault image unit l y.entry other) (sym same) y.fault)),
      same,
    )

all_shallow_or_faulty : (image : Image) (unit : Typed) (list : List (List ℕ)) (kind : PairKind) (name : List ℕ) → All (IsShallow image unit) list
    → IsFirstReachFault image unit list kind name → ⊥
all_shallow_or_faulty image unit list kind name all x =
    shallow_or_faulty image unit name x.entry kind x.entry_is
    (at_middle (IsShallow image unit) x.prefix name x.rest (subst (All (IsShallow image unit)) x.split all)) x.fault

-- ---- a list

some_name : (before rest : List (List ℕ)) (name : List ℕ) → [] ≡ before ++ (name ∷ rest) → ⊥
some_name [] rest name e = absurd (cc)
some_name (other ∷ before) rest name e = absurd (cc)

empty_or_first : (list before rest : List (List ℕ)) (name : List ℕ) → list ≡ [] → list ≡ before ++ (name ∷ rest) → ⊥
empty_or_first list before rest name none split = some_name before rest name (sym none ∙ split)

pub one_pair_fault : (image : Image) (unit : Typed) (list : List (List ℕ)) (kind other : PairKind) (name third : List ℕ) → IsPairFault image unit list kind name
    → IsPairFault image unit list other third → (kind ≡ other) × (name ≡ third)
one_pair_fault image unit list _ _ _ _ (nothing_listed x) (nothing_listed y) = (refl, refl)
one_pair_fault image unit list _ _ _ _ (nothing_listed x) (of_names kind name y) = absurd (empty_or_first list y.prefix y.rest y.listed x y.split)
one_pair_fault image unit list _ _ _ _ (nothing_listed x) (of_reach kind name named sound y) = absurd (empty_or_first list y.prefix y.rest name x y.split)
one_pair_fault image unit list _ _ _ _ (of_names kind name x) (nothing_listed y) = absurd (empty_or_first list x.prefix x.rest x.listed y x.split)
one_pair_fault image unit list _ _ _ _ (of_names kind name x) (of_names other third y) = one_first_name image unit list kind other name third x y
one_pair_fault image unit list _ _ _ _ (of_names kind name x) (of_reach other third named sound y) = absurd (all_named_or_faulty image unit list kind name named x)
one_pair_fault image unit list _ _ _ _ (of_reach kind name named sound x) (nothing_listed y) = absurd (empty_or_first list x.prefix x.rest name y x.split)
one_pair_fault image unit list _ _ _ _ (of_reach kind name named sound x) (of_names other third y) = absurd (all_named_or_faulty image unit list other third named y)
one_pair_fault image unit list _ _ _ _ (of_reach kind name named sound x) (of_reach other third renamed sounds y) = one_first_reach image unit list kind other name third x y

sound_or_code_fault : (image : Image) (unit : Typed) (list : List (List ℕ)) (kind : CodeKind) (name : List ℕ) (address : ℕ) → All (IsSoundCode image) list
    → IsCodeFault image unit list kind name address → ⊥
sound_or_code_fault image unit list kind name address all x =
    sound_or_faulty image name kind address (at_middle (IsSoundCode image) x.first.prefix name x.first.rest (subst (All (IsSoundCode image)) x.first.split all))
    x.first.fault

pub pair_or_code : (image : Image) (unit : Typed) (list : List (List ℕ)) (kind : PairKind) (other : CodeKind) (name third : List ℕ) (address : ℕ)
    → IsPairFault image unit list kind name → IsCodeFault image unit list other third address → ⊥
pair_or_code image unit list _ other _ third address (nothing_listed x) y = empty_or_first list y.first.prefix y.first.rest third x y.first.split
pair_or_code image unit list _ other _ third address (of_names kind name x) y = all_named_or_faulty image unit list kind name y.names x
pair_or_code image unit list _ other _ third address (of_reach kind name named sound x) y = sound_or_code_fault image unit list other third address sound y

-- no listed function has a fault, and there is one
pub record IsFaultless (image : Image) (unit : Typed) (list : List (List ℕ)) : Type 0 where
  pub some : list ≢ []
  pub each : All (HasNoFault image unit) list

module _ (image : Image) (unit : Typed) (list : List (List ℕ)) (faultless : IsFaultless image unit list) where
  pub faultless_or_pair : (kind : PairKind) (name : List ℕ) → IsPairFault image unit list kind name → ⊥
  faultless_or_pair _ _ (nothing_listed x) = faultless.some x
  faultless_or_pair _ _ (of_names kind name x) = all_named_or_faulty image unit list kind name (λ k d inside. (faultless.each k d inside).names) x
  faultless_or_pair _ _ (of_reach kind name named sound x) =
      all_shallow_or_faulty image unit list kind name (λ k d inside. (faultless.each k d inside).shallow) x

  pub faultless_or_code : (kind : CodeKind) (name : List ℕ) (address : ℕ) → IsCodeFault image unit list kind name address → ⊥
  faultless_or_code kind name address x = sound_or_code_fault image unit list kind name address (λ k d inside. (faultless.each k d inside).code) x

large_list : (list : List (List ℕ)) (name : List ℕ) → Contains list name → list ≢ []
large_list [] name (k, within, e) = absurd (omega (arith, within))
large_list (other ∷ list) name there = λ none. absurd (cc)

pub large_faultless : (image : Image) (unit : Typed) (list : List (List ℕ)) → IsTooLarge image unit list → IsFaultless image unit list
large_faultless image unit list x = record { some = large_list list x.listed x.is_listed; each = x.no_fault }
