-- A line of a rule comes to one thing.
use Rattle.std.proofs.Common.{◌≡◌, ◌≤◌, ℕ, ◌+◌, List, [], ◌∷◌, ◌++◌, map, Some, refl, ap, subst, arith}
use Rattle.term_core_spec.specs.Term.{Term}
use Rattle.cert_text_spec.specs.declared.Symbol.{Symbol}
use Rattle.proof_tree_spec.specs.declared.Counts.{Counts}
use Rattle.proof_tree_spec.specs.declared.Nodes.{Nodes}
use Rattle.proof_tree_spec.specs.declared.Cut.TheVariants.{Calls}
use Rattle.proof_tree_spec.specs.Proofs.{Points}
use Rattle.proof_tree_spec.specs.Frames.{Frame, LetsPass, IsAllowed}
use Rattle.sim_rules_spec.specs.Obligations.{Rule, AreObligations, IsCyclicRule, IsLargeRule}
use Rattle.sim_rules_spec.specs.Calls.{Callee}
use Rattle.tv_limits.specs.declared.TheConstants.{MAX_VISITS}
use Rattle.cert_check_terms.specs.Variables.{AreApart}
use Rattle.cert_check_terms.specs.Reading.{line_of}
use Rattle.cert_check_terms.proofs.Complete.{line_read}
use Rattle.cert_check_lines_spec.specs.Sites.{Part, ArePoints, Calling, ArePaired}
use Rattle.cert_check_lines_spec.specs.Jobs.{Origin, opening, Draft, OfSplit, OfCall, path_of, Job, Prove, Close, reading, pair_of, landing_of}
use Rattle.cert_check_lines_spec.specs.LineRules.{IsRead, HasPart}
use Rattle.cert_run_spec.proofs.OnePoint.{AreTold, one_pair, IsSame, one_pairing, one_part}
use Rattle.cert_run_spec.proofs.Steps.{Step, Goes, RestrictStep, restricts, restricts_nowhere, restricts_nothing, restricts_cycle, restricts_many, SplitStep, splits, splits_nowhere, splits_nothing, splits_passed, CallStep, calls, calls_nowhere, calls_often, calls_unknown, calls_passed, RelationStep, relates, no_line}

-- ---- terms of lines

pub one_read : (f : Frame) (path : List ℕ) (symbols : List Symbol) (one two : Term) → AreApart f.setting.bodies → IsRead f path symbols one → IsRead f path symbols two → one ≡ two
one_read f path symbols one two apart x y =
    let left : line_of f.setting path symbols ≡ Some one = line_read f.setting path apart symbols one x.spelled x.line in
    let right : line_of f.setting path symbols ≡ Some two = line_read f.setting path apart symbols two y.spelled y.line in
    cc

-- ---- restrict

module _ (p : Part) (at : ℕ) (origin : Origin) (frame : Frame) (below : List Job) (IsPoint : ℕ → Type 0) (r : ℕ → Rule) (bounded : ℕ → Frame) (count : ℕ)
    (one_point : (a b : ℕ) → IsPoint a → IsPoint b → a ≡ b)
    (one_terms : (node : ℕ) (x y : List Term) → AreObligations p.convention (opening p origin) frame (r node) x → AreObligations p.convention (opening p origin) frame (r node) y → x ≡ y) where
  abbrev Restricts : Step → Type 0
  Restricts step = RestrictStep p at origin frame below IsPoint r bounded count step

  cycle_at : (a b other : ℕ) → IsPoint a → IsPoint b → IsCyclicRule (opening p origin) frame (r a) other → IsCyclicRule (opening p origin) frame (r b) other
  cycle_at a b other x y is = subst (λ (n : ℕ). IsCyclicRule (opening p origin) frame (r n) other) (one_point a b x y) is

  large_at : (a b visits : ℕ) → IsPoint a → IsPoint b → IsLargeRule (opening p origin) frame MAX_VISITS (r a) visits → IsLargeRule (opening p origin) frame MAX_VISITS (r b) visits
  large_at a b visits x y is = subst (λ (n : ℕ). IsLargeRule (opening p origin) frame MAX_VISITS (r n) visits) (one_point a b x y) is

  none_counted : {X : Type 0} → 1 ≤ count → count ≡ 0 → X
  none_counted some none = absurd (omega (arith, some, none))

  pub restrict_step : (one two : Step) → Restricts one → Restricts two → one ≡ two
  restrict_step _ _ (restricts a terms x some are) (restricts b others y some2 are2) =
      let node_is = one_point a b x y in
      let there = subst (λ (n : ℕ). AreObligations p.convention (opening p origin) frame (r n) terms) node_is are.obligations in
      let terms_are = one_terms b terms others there are2.obligations in
      λ i. Goes (map Close (terms_are i) ++ Prove origin (bounded (node_is i)) ∷ below)
  restrict_step _ _ (restricts a terms x some are) (restricts_nowhere none) = absurd (none a x)
  restrict_step _ _ (restricts a terms x some are) (restricts_nothing b y zero_is) = none_counted some zero_is
  restrict_step _ _ (restricts a terms x some are) (restricts_cycle b other y some2 cyclic) = absurd (are.acyclic other (cycle_at b a other y x cyclic))
  restrict_step _ _ (restricts a terms x some are) (restricts_many b visits y some2 acyclic large) = absurd (are.small visits (large_at b a visits y x large))
  restrict_step _ _ (restricts_nowhere none) (restricts b others y some2 are2) = absurd (none b y)
  restrict_step _ _ (restricts_nowhere none) (restricts_nowhere again) = refl
  restrict_step _ _ (restricts_nowhere none) (restricts_nothing b y zero_is) = absurd (none b y)
  restrict_step _ _ (restricts_nowhere none) (restricts_cycle b other y some2 cyclic) = absurd (none b y)
  restrict_step _ _ (restricts_nowhere none) (restricts_many b visits y some2 acyclic large) = absurd (none b y)
  restrict_step _ _ (restricts_nothing a x zero_is) (restricts b others y some2 are2) = none_counted some2 zero_is
  restrict_step _ _ (restricts_nothing a x zero_is) (restricts_nowhere none) = absurd (none a x)
  restrict_step _ _ (restricts_nothing a x zero_is) (restricts_nothing b y again) = refl
  restrict_step _ _ (restricts_nothing a x zero_is) (restricts_cycle b other y some2 cyclic) = none_counted some2 zero_is
  restrict_step _ _ (restricts_nothing a x zero_is) (restricts_many b visits y some2 acyclic large) = none_counted some2 zero_is
  restrict_step _ _ (restricts_cycle a node x some cyclic) (restricts b others y some2 are2) = absurd (are2.acyclic node (cycle_at a b node x y cyclic))
  restrict_step _ _ (restricts_cycle a node x some cyclic) (restricts_nowhere none) = absurd (none a x)
  restrict_step _ _ (restricts_cycle a node x some cyclic) (restricts_nothing b y zero_is) = none_counted some zero_is
  restrict_step _ _ (restricts_cycle a node x some cyclic) (restricts_cycle b other y some2 cyclic2) = refl
  restrict_step _ _ (restricts_cycle a node x some cyclic) (restricts_many b visits y some2 acyclic large) = absurd (acyclic node (cycle_at a b node x y cyclic))
  restrict_step _ _ (restricts_many a count2 x some acyclic large) (restricts b others y some2 are2) = absurd (are2.small count2 (large_at a b count2 x y large))
  restrict_step _ _ (restricts_many a count2 x some acyclic large) (restricts_nowhere none) = absurd (none a x)
  restrict_step _ _ (restricts_many a count2 x some acyclic large) (restricts_nothing b y zero_is) = none_counted some zero_is
  restrict_step _ _ (restricts_many a count2 x some acyclic large) (restricts_cycle b other y some2 cyclic2) = absurd (acyclic other (cycle_at b a other y x cyclic2))
  restrict_step _ _ (restricts_many a count2 x some acyclic large) (restricts_many b visits y some2 acyclic2 large2) = refl

module _ (p : Part) (told : AreTold p) (at : ℕ) (origin : Origin) (frame : Frame) (below : List Job) where
  -- ---- split

  module _ (points : Points) (enter step : Counts) (relations : ℕ) where
    abbrev Splits : Step → Type 0
    Splits came = SplitStep p at origin frame below points enter step relations came

    one_place : (a b : Nodes) → ArePoints p frame points a → ArePoints p frame points b → a ≡ b
    one_place a b x y = one_pair p told frame points a b x y

    pub split_step : (one two : Step) → Splits one → Splits two → one ≡ two
    split_step _ _ (splits a x enters steps lets) (splits b y enters2 steps2 lets2) =
        ap (λ (n : Nodes). Goes (reading p origin frame (OfSplit n points.source.path enter step) [] relations ++ below)) (one_place a b x y)
    split_step _ _ (splits a x enters steps lets) (splits_nowhere none) = absurd (none a x)
    split_step _ _ (splits a x enters steps lets) (splits_nothing b y bad) = absurd (bad enters steps)
    split_step _ _ (splits a x enters steps lets) (splits_passed b y enters2 steps2 bad) = absurd (bad (subst (LetsPass frame) (one_place a b x y) lets))
    split_step _ _ (splits_nowhere none) (splits b y enters2 steps2 lets2) = absurd (none b y)
    split_step _ _ (splits_nowhere none) (splits_nowhere again) = refl
    split_step _ _ (splits_nowhere none) (splits_nothing b y bad) = absurd (none b y)
    split_step _ _ (splits_nowhere none) (splits_passed b y enters2 steps2 bad) = absurd (none b y)
    split_step _ _ (splits_nothing a x bad) (splits b y enters2 steps2 lets2) = absurd (bad enters2 steps2)
    split_step _ _ (splits_nothing a x bad) (splits_nowhere none) = absurd (none a x)
    split_step _ _ (splits_nothing a x bad) (splits_nothing b y again) = refl
    split_step _ _ (splits_nothing a x bad) (splits_passed b y enters2 steps2 bad2) = absurd (bad enters2 steps2)
    split_step _ _ (splits_passed a x enters steps bad) (splits b y enters2 steps2 lets2) = absurd (bad (subst (LetsPass frame) (one_place b a y x) lets2))
    split_step _ _ (splits_passed a x enters steps bad) (splits_nowhere none) = absurd (none a x)
    split_step _ _ (splits_passed a x enters steps bad) (splits_nothing b y bad2) = absurd (bad2 enters steps)
    split_step _ _ (splits_passed a x enters steps bad) (splits_passed b y enters2 steps2 bad2) = refl

  -- ---- call

  module _ (points : Points) (counts : Counts) (before later : ℕ) where
    abbrev CallsSo : Step → Type 0
    CallsSo came = CallStep p at origin frame below points counts before later came

    abbrev IsPairedAt : Nodes → Calling → Calling → Type 0
    IsPairedAt call binary source = ArePaired p frame points call binary source

    same : (call other : Nodes) (binary binary2 source source2 : Calling) → IsPairedAt call binary source → IsPairedAt other binary2 source2
        → IsSame call other binary binary2 source source2
    same call other binary binary2 source source2 x y = one_pairing p told frame points call other binary binary2 source source2 x y

    -- a part of what the one source calls is one of what the other does
    part_at : (call other : Nodes) (binary binary2 source source2 : Calling) (callee : Callee) → IsPairedAt call binary source → IsPairedAt other binary2 source2 → HasPart p source callee
        → HasPart p source2 callee
    part_at call other binary binary2 source source2 callee x y has =
        subst (λ (c : Calling). HasPart p c callee) (same call other binary binary2 source source2 x y).source_is has

    allowed_at : (call other : Nodes) (binary binary2 source source2 : Calling) → IsPairedAt call binary source → IsPairedAt other binary2 source2
        → IsAllowed frame (Calls call (landing_of binary source)) → IsAllowed frame (Calls other (landing_of binary2 source2))
    allowed_at call other binary binary2 source source2 x y allowed =
        let s = same call other binary binary2 source source2 x y in
        subst (λ (c : Calling). IsAllowed frame (Calls other (landing_of binary2 c))) s.source_is
        (subst (λ (c : Calling). IsAllowed frame (Calls other (landing_of c source))) s.binary_is
        (subst (λ (n : Nodes). IsAllowed frame (Calls n (landing_of binary source))) s.call_is allowed))

    abbrev crossed : Nodes → Calling → Calling → Callee → Step
    crossed call binary source callee =
        Goes (reading p origin frame (OfCall call (landing_of binary source) points.source.path (pair_of binary source) callee before) [] (before + later) ++ below)

    pub call_step : (one two : Step) → CallsSo one → CallsSo two → one ≡ two
    call_step _ _ (calls a b c callee x) (calls d e g callee2 y) =
        let s = same a d b e c g x.paired y.paired in
        let callee_is = one_part p told frame g callee callee2 (part_at a d b e c g callee x.paired y.paired x.shown) y.shown in
        λ i. crossed (s.call_is i) (s.binary_is i) (s.source_is i) (callee_is i)
    call_step _ _ (calls a b c callee x) (calls_nowhere none) = absurd (none a b c x.paired)
    call_step _ _ (calls a b c callee x) (calls_often d e g y often) = absurd (often x.counted)
    call_step _ _ (calls a b c callee x) (calls_unknown d e g y is none) = absurd (none callee (part_at a d b e c g callee x.paired y x.shown))
    call_step _ _ (calls a b c callee x) (calls_passed d e g callee2 y is has bad) = absurd (bad (allowed_at a d b e c g x.paired y x.allowed))
    call_step _ _ (calls_nowhere none) (calls d e g callee2 y) = absurd (none d e g y.paired)
    call_step _ _ (calls_nowhere none) (calls_nowhere again) = refl
    call_step _ _ (calls_nowhere none) (calls_often d e g y often) = absurd (none d e g y)
    call_step _ _ (calls_nowhere none) (calls_unknown d e g y is unknown) = absurd (none d e g y)
    call_step _ _ (calls_nowhere none) (calls_passed d e g callee2 y is has bad) = absurd (none d e g y)
    call_step _ _ (calls_often a b c x often) (calls d e g callee2 y) = absurd (often y.counted)
    call_step _ _ (calls_often a b c x often) (calls_nowhere none) = absurd (none a b c x)
    call_step _ _ (calls_often a b c x often) (calls_often d e g y again) = refl
    call_step _ _ (calls_often a b c x often) (calls_unknown d e g y is none) = absurd (often is)
    call_step _ _ (calls_often a b c x often) (calls_passed d e g callee2 y is has bad) = absurd (often is)
    call_step _ _ (calls_unknown a b c x is none) (calls d e g callee2 y) = absurd (none callee2 (part_at d a e b g c callee2 y.paired x y.shown))
    call_step _ _ (calls_unknown a b c x is none) (calls_nowhere nowhere) = absurd (nowhere a b c x)
    call_step _ _ (calls_unknown a b c x is none) (calls_often d e g y often) = absurd (often is)
    call_step _ _ (calls_unknown a b c x is none) (calls_unknown d e g y is2 none2) = refl
    call_step _ _ (calls_unknown a b c x is none) (calls_passed d e g callee2 y is2 has bad) = absurd (none callee2 (part_at d a e b g c callee2 y x has))
    call_step _ _ (calls_passed a b c callee x is has bad) (calls d e g callee2 y) = absurd (bad (allowed_at d a e b g c y.paired x y.allowed))
    call_step _ _ (calls_passed a b c callee x is has bad) (calls_nowhere none) = absurd (none a b c x)
    call_step _ _ (calls_passed a b c callee x is has bad) (calls_often d e g y often) = absurd (often is)
    call_step _ _ (calls_passed a b c callee x is has bad) (calls_unknown d e g y is2 none) = absurd (none callee (part_at a d b e c g callee x y has))
    call_step _ _ (calls_passed a b c callee x is has bad) (calls_passed d e g callee2 y is2 has2 bad2) = refl

-- ---- rel

module _ (p : Part) (at : ℕ) (origin : Origin) (frame : Frame) (draft : Draft) (lines : List Term) (left : ℕ) (below : List Job) (symbols : List Symbol) (apart : AreApart frame.setting.bodies) where
  abbrev Relates : Step → Type 0
  Relates step = RelationStep p at origin frame draft lines left below symbols step

  pub relation_step : (one two : Step) → Relates one → Relates two → one ≡ two
  relation_step _ _ (relates t is) (relates u is2) =
      ap (λ (v : Term). Goes (reading p origin frame draft (lines ++ v ∷ []) left ++ below)) (one_read frame (path_of draft) symbols t u apart is is2)
  relation_step _ _ (relates t is) (no_line none) = absurd (none t is)
  relation_step _ _ (no_line none) (relates u is2) = absurd (none u is2)
  relation_step _ _ (no_line none) (no_line again) = refl
