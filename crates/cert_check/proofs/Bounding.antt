-- A line that excludes an arrival, as the definition's walk takes it.
use Rattle.std.proofs.Common.{◌≡◌, ◌∙◌, ℕ, ◌≤◌, ◌+◌, zero, suc, Box, Vec, Global, List, [], ◌∷◌, ◌++◌, length, map, Option, Some, Result, Ok, Err, refl, sym, ap, ap₂, subst, arith}
use Rattle.std.specs.Prelude.{Contains}
use Rattle.std.proofs.lemmas.List.Elements.{Contains-push}
use Rattle.term_core_spec.specs.Term.{Term}
use Rattle.term_bank.specs.Nodes.{tree_at, Extends}
use Rattle.graph_core_spec.specs.declared.Mark.{Mark}
use Rattle.visit_walk_spec.specs.Shape.{Shape}
use Rattle.visit_walk_spec.specs.Visits.{Walk}
use Rattle.visit_walk_spec.specs.Outcomes.{IsCyclicAt}
use Rattle.visit_walk_spec.proofs.Order.{acyclic}
use Rattle.proof_tree_spec.specs.Frames.{Frame}
use Rattle.proof_tree_spec.specs.Proofs.{BinaryPoint, SourcePoint}
use Rattle.sim_rules_spec.specs.Obligations as rule
use Rattle.sim_rules_spec.specs.Points.{Convention}
use Rattle.sim_rules_spec.specs.Rules.{Opening, AreOfBinaryRestrict, AreOfSourceRestrict, restricted}
use Rattle.sim_rules_spec.specs.Sides.{binary_way, source_way}
use Rattle.sim_rules_spec.specs.declared.Side.{Side as Which}
use Rattle.sim_rules_spec.specs.declared.Side.TheVariants.{Binary, Source}
use Rattle.sim_rules.specs.Outcome.{IsCount}
use Rattle.sim_rules.proofs.Counting.{one_shape}
use Rattle.sim_rules.proofs.Held.{trees_held}
use Rattle.attempt.specs.declared.refusal.Refusal.{Refusal}
use Rattle.attempt.specs.declared.refusal.Refusal.TheVariants.{Fault, NoMemory}
use Rattle.cert_text_spec.specs.Lines.{RestrictBinary, RestrictSource}
use Rattle.cert_check_spec.specs.declared.RuleWord.TheVariants as fault
use Rattle.tv_limits.specs.declared.Quantity.TheVariants as quantity
use Rattle.tv_limits.specs.declared.TheConstants.{MAX_VISITS}
use Rattle.cert_check_spec.specs.Verdict as listed
use Rattle.cert_check_lines_spec.specs.Sites.{Part, CodeBody, SourceBody, IsBinaryPoint, IsSourcePoint, IsNoCall}
use Rattle.cert_check_lines_spec.specs.Jobs as spec
use Rattle.cert_check_lines_spec.specs.LineRules as lines
use Rattle.cert_check_lines_spec.specs.LineRules.{Passes, Fails}
use Rattle.cert_check_lines_spec.specs.Parts.{Functions, Member, part_of, unfolded}
use Rattle.cert_check_frames.specs.declared.listed.Listed.{Listed}
use Rattle.cert_check_frames.specs.Listed.{IsListed, frame_at}
use Rattle.cert_check_jobs.specs.declared.extra.Extra.{Extra}
use Rattle.cert_check_jobs.specs.declared.jobs.Job.{Job}
use Rattle.cert_check_jobs.specs.declared.jobs.Job.TheVariants.{Prove}
use Rattle.cert_check_jobs.specs.Cuts.{Seen, Site, seen, start_seen}
use Rattle.cert_check_jobs.specs.Extras.{Added, added_at, frame_added, opening_at, origin_of}
use Rattle.cert_check.specs.Bounds.{HasBound}
use Rattle.cert_check_jobs.specs.Jobs.{logs_last, AreInside}
use Rattle.cert_check_jobs.specs.Points.{IsBinaryAt, IsSourceAt}
use Rattle.cert_check.specs.declared.fault.PartFault.{PartFault}
use Rattle.cert_check.specs.declared.fault.PartFault.TheVariants.{Broken, Above}
use Rattle.cert_check.specs.Jobs.{jobs_of, origin_at}
use Rattle.cert_check.specs.Members.{IsMemberOf}
use Rattle.cert_check.specs.Steps.{AreGoals, Bounds, Comes, HasRule, IsRestricted, ProvesFirst, bounded_on, rule_on}
use Rattle.cert_check.proofs.InPart.{IsPlainRule}
use Rattle.cert_check.proofs.Origins.{cyclic_there, large_there, leaves, never_there}
use Rattle.cert_check.proofs.Pushed.{inside_top, jobs_top, jobs_logs, same_added, same_jobs, with_binary, with_source}

-- ---- walks

binary_acyclic : (bound : Mark) (c : Convention) (o : Opening) (frame : Frame) (terms : List Term) → AreOfBinaryRestrict o frame bound terms → (node : ℕ)
    → rule.IsCyclicRule o frame (rule.RestrictBinary bound) node → ⊥
binary_acyclic bound c o frame terms are node cyclic =
    let walk = λ (s : Shape). (restricted (binary_way frame o.binary) s bound).walk in
    let same : cyclic.0 ≡ walk are.shape = cyclic.1.walk_is ∙ ap walk (one_shape frame.binary bound.node cyclic.1.shape are.shape cyclic.1.cut are.cut) in
    acyclic (walk are.shape) are.binary are.binary_are node (subst (λ (w : Walk). IsCyclicAt w node) same cyclic.2)

source_acyclic : (bound : Mark) (c : Convention) (o : Opening) (frame : Frame) (terms : List Term) → AreOfSourceRestrict o frame bound terms → (node : ℕ)
    → rule.IsCyclicRule o frame (rule.RestrictSource bound) node → ⊥
source_acyclic bound c o frame terms are node cyclic =
    let walk = λ (s : Shape). (restricted (source_way frame o.source) s bound).walk in
    let same : cyclic.0 ≡ walk are.shape = cyclic.1.walk_is ∙ ap walk (one_shape frame.source bound.node cyclic.1.shape are.shape cyclic.1.cut are.cut) in
    acyclic (walk are.shape) are.source are.source_are node (subst (λ (w : Walk). IsCyclicAt w node) same cyclic.2)

pub plain_on : (side : Which) (bound : Mark) → IsPlainRule (rule_on side bound)
plain_on Binary bound = record { acyclic = binary_acyclic bound; lines = λ frame index is. is }
plain_on Source bound = record { acyclic = source_acyclic bound; lines = λ frame index is. is }

pub count_on : (side : Which) (bound : Mark) (count : ℕ) → IsCount (rule_on side bound) count → count ≡ 1
count_on Binary bound count is = is
count_on Source bound count is = is

-- where walks have too many visits, none that has to end is cyclic
binary_never : (bound : Mark) (o : Opening) (frame : Frame) (count : ℕ) → rule.IsLargeRule o frame MAX_VISITS (rule.RestrictBinary bound) count → (node : ℕ)
    → rule.IsCyclicRule o frame (rule.RestrictBinary bound) node → ⊥
binary_never bound o frame count large node cyclic =
    let walk = λ (s : Shape). (restricted (binary_way frame o.binary) s bound).walk in
    let same : cyclic.0 ≡ large.0 =
    cyclic.1.walk_is ∙ ap walk (one_shape frame.binary bound.node cyclic.1.shape large.1.shape cyclic.1.cut large.1.cut) ∙ sym large.1.walk_is in
    large.2 node (subst (λ (w : Walk). IsCyclicAt w node) same cyclic.2)

source_never : (bound : Mark) (o : Opening) (frame : Frame) (count : ℕ) → rule.IsLargeRule o frame MAX_VISITS (rule.RestrictSource bound) count → (node : ℕ)
    → rule.IsCyclicRule o frame (rule.RestrictSource bound) node → ⊥
source_never bound o frame count large node cyclic =
    let walk = λ (s : Shape). (restricted (source_way frame o.source) s bound).walk in
    let same : cyclic.0 ≡ large.0 =
    cyclic.1.walk_is ∙ ap walk (one_shape frame.source bound.node cyclic.1.shape large.1.shape cyclic.1.cut large.1.cut) ∙ sym large.1.walk_is in
    large.2 node (subst (λ (w : Walk). IsCyclicAt w node) same cyclic.2)

-- ---- the bound

pub one_counted : (bound : Mark) → (bound.count ≡ 0 → ⊥) → 1 ≤ bound.count
one_counted bound some = omega (arith, some)

pub same_tests : (side : Which) (old new : Extra) (bound : Mark) → HasBound old bound new side → new.premises.items ≡ old.premises.items
same_tests Binary old new bound has = has.premises
same_tests Source old new bound has = has.premises

pub same_cuts : (side : Which) (old new : Extra) (bound : Mark) → HasBound old bound new side → seen new.cuts.value ≡ seen old.cuts.value
same_cuts Binary old new bound has = has.cuts
same_cuts Source old new bound has = has.cuts

same_start : (side : Which) (old new : Extra) (bound : Mark) → HasBound old bound new side → start_seen new.cuts.value.start ≡ start_seen old.cuts.value.start
same_start side old new bound has = ap (λ (s : Seen). s.start) (same_cuts side old new bound has)

with_bound : (trees : List Term) (f : Frame) (side : Which) (old new : Extra) (bound : Mark) → HasBound old bound new side
    → frame_added f (added_at trees new) ≡ bounded_on side (frame_added f (added_at trees old)) bound
with_bound trees f Binary old new bound has = with_binary trees f old bound new has
with_bound trees f Source old new bound has = with_source trees f old bound new has

module _ (code : Listed) (f : listed.Listed) (is : IsListed code f) (side : Which) (bound : Mark) (old new : List Term) (before below : List Job) (x : Box Extra Global)
    (first : before ≡ below ++ Prove x ∷ []) where
  abbrev frame : Frame
  frame = frame_added f.frame (added_at old x.value)

  abbrev start : Option Site
  start = start_seen x.value.cuts.value.start

  abbrev rest : List spec.Job
  rest = jobs_of old (frame_at code) below

  proves : ProvesFirst f (jobs_of old (frame_at code) before) start frame rest
  proves = record {
    first =
        jobs_top old (frame_at code) before below (Prove x) first
        ∙ ap (λ (g : Frame). spec.Prove (origin_of start) (frame_added g (added_at old x.value)) ∷ rest) (sym is.frame_is);
    binary = refl;
    source = refl;
  }

  abbrev Answers : List Job → Result (Unit {0}) (Refusal PartFault) → Type 0
  Answers after result =
      (start : Option Site) × (frame : Frame) × (rest : List spec.Job) × Bounds f side bound (jobs_of old (frame_at code) before) (jobs_of new (frame_at code) after) start frame rest result

  -- a count 0
  pub no_count : (after : List Job) → bound.count ≡ 0 → Answers after (Err (Fault (Broken fault.Count)))
  no_count after none = (start, frame, rest, (proves, none))

  -- no obligations
  pub no_goals : (after : List Job) (broken : Refusal PartFault) → 1 ≤ bound.count → AreGoals f new (added_at old x.value) (rule_on side bound) (Err broken) → Answers after (Err broken)
  no_goals after (Fault (Broken fault.Cyclic)) counted has = (start, frame, rest, (proves, counted, has))
  no_goals after (Fault (Above quantity.Visits)) counted has = (start, frame, rest, (proves, counted, has))
  no_goals after NoMemory counted has = (start, frame, rest, tt)
  no_goals after (Fault (Broken fault.Later)) counted has = absurd has
  no_goals after (Fault (Broken fault.Inline)) counted has = absurd has
  no_goals after (Fault (Broken fault.Point)) counted has = absurd has
  no_goals after (Fault (Broken fault.Count)) counted has = absurd has
  no_goals after (Fault (Broken fault.Callee)) counted has = absurd has
  no_goals after (Fault (Broken fault.Passed)) counted has = absurd has
  no_goals after (Fault (Broken fault.Same)) counted has = absurd has
  no_goals after (Fault (Broken fault.Word)) counted has = absurd has
  no_goals after (Fault (Broken fault.Stranger)) counted has = absurd has
  no_goals after (Fault (Broken fault.Stack)) counted has = absurd has
  no_goals after (Fault (Broken fault.Sort)) counted has = absurd has
  no_goals after (Fault (Broken fault.Logs)) counted has = absurd has
  no_goals after (Fault (Broken fault.Step)) counted has = absurd has
  no_goals after (Fault (Broken fault.Unclosed)) counted has = absurd has
  no_goals after (Fault (Broken fault.Missing)) counted has = absurd has
  no_goals after (Fault (Above quantity.Terms)) counted has = absurd has
  no_goals after (Fault (Above quantity.Variables)) counted has = absurd has
  no_goals after (Fault (Above quantity.Elf)) counted has = absurd has
  no_goals after (Fault (Above quantity.C)) counted has = absurd has
  no_goals after (Fault (Above quantity.Functions)) counted has = absurd has
  no_goals after (Fault (Above quantity.Nodes)) counted has = absurd has
  no_goals after (Fault (Above quantity.Certificate)) counted has = absurd has
  no_goals after (Fault (Above quantity.Call)) counted has = absurd has
  no_goals after (Fault (Above quantity.Steps)) counted has = absurd has
  no_goals after (Fault (Above quantity.Known)) counted has = absurd has

  -- the log, and the proof with the bound in force
  pub bounded : (after : List Job) (more : Box Extra Global) (goals : Vec ℕ Global) → Extends old new → AreInside (length old) (below ++ Prove x ∷ []) → 1 ≤ bound.count
      → HasBound x.value bound more.value side → after ≡ (below ++ Prove more ∷ []) ++ logs_last goals.items
      → HasRule f.convention (opening_at f start) frame (rule_on side bound) new goals.items → Answers after (Ok (tt {0}))
  bounded after more goals extends inside counted has now rule_is =
      let terms = rule_is.are.terms in
      let held : map (tree_at new) goals.items ≡ terms = trees_held new goals.items terms rule_is.are.held in
      let parts = inside_top (length old) below (Prove x) inside in
      let will : jobs_of new (frame_at code) after ≡ map spec.Close terms ++ spec.Prove (origin_of start) (bounded_on side frame bound) ∷ rest =
      ap (jobs_of new (frame_at code)) now ∙ jobs_logs new (frame_at code) (below ++ Prove more ∷ []) goals.items
      ∙ ap (λ (list : List Term). map spec.Close list ++ jobs_of new (frame_at code) (below ++ Prove more ∷ [])) held
      ∙ ap (λ (jobs : List spec.Job). map spec.Close terms ++ jobs)
      (jobs_top new (frame_at code) (below ++ Prove more ∷ []) below (Prove more) refl
      ∙ ap₂ (λ (s : Option Site) (g : Frame). spec.Prove (origin_of s) g ∷ jobs_of new (frame_at code) below) (same_start side x.value more.value bound has)
      (with_bound new (frame_at code) side x.value more.value bound has
      ∙ ap (λ (g : Frame). bounded_on side g bound)
      (ap (λ (added : Added). frame_added (frame_at code) added) (same_added old new extends x.value parts.1)
      ∙ ap (λ (g : Frame). frame_added g (added_at old x.value)) (sym is.frame_is)))
      ∙ ap (λ (jobs : List spec.Job). spec.Prove (origin_of start) (bounded_on side frame bound) ∷ jobs) (same_jobs old new extends (frame_at code) below parts.0)) in (
        start,
        frame,
        rest,
        record {
          proves = proves;
          counted = counted;
          terms = terms;
          left = record { acyclic = rule_is.acyclic; small = rule_is.small; are = rule_is.are.are };
          now = will;
        },
      )

-- ---- points

only_one : {X : Type 0} (y x : X) → Contains (y ∷ []) x → x ≡ y
only_one y x (zero, within, at) = sym at
only_one y x (suc k, within, at) = absurd (omega (arith, within))

from_zero : (n : ℕ) → n ≡ 0 + n
from_zero n = omega arith

module _ (fs : Functions) (parts : List Member) (m : Member) (at : ℕ) (code : Listed) (is : IsMemberOf code m) where
  abbrev part : Part
  part = part_of parts m (unfolded m)

  abbrev code_body : CodeBody
  code_body = record { path = []; offset = 0; first = m.code.first; call = m.code.call }

  abbrev source_body : SourceBody
  source_body = record { path = []; offset = 0; node = m.source.node }

  -- a frame over the sides of the function
  module _ (frame : Frame) (on_binary : frame.binary ≡ m.listed.frame.binary) (on_source : frame.source ≡ m.listed.frame.source) where
    binary_is : frame.binary ≡ (frame_at code).binary
    binary_is = on_binary ∙ ap (λ (f : Frame). f.binary) is.listed.frame_is

    source_is : frame.source ≡ (frame_at code).source
    source_is = on_source ∙ ap (λ (f : Frame). f.source) is.listed.frame_is

    pub binary_point : (point : BinaryPoint) (node : ℕ) → IsBinaryAt code point node → IsBinaryPoint part frame point node
    binary_point point node found = (
      record { body = code_body; is_body = Contains-push [] code_body; path = sym found.own; number = node; there = is.first point.address ∙ found.there; node_is = from_zero node },
      subst (λ s. IsNoCall s node) (sym binary_is) found.no_call,
    )

    pub no_binary_point : (point : BinaryPoint) → ((node : ℕ) → IsBinaryAt code point node → ⊥) → (node : ℕ) → IsBinaryPoint part frame point node → ⊥
    no_binary_point point none node here =
        let body_is : here.0.body ≡ code_body = only_one code_body here.0.body here.0.is_body in
        let there = subst (λ (b : CodeBody). b.first point.address ≡ Some here.0.number) body_is here.0.there in
        let number_is : node ≡ here.0.number = here.0.node_is ∙ ap (λ (b : CodeBody). b.offset + here.0.number) body_is ∙ sym (from_zero here.0.number) in
        none node (record {
          own = sym here.0.path ∙ ap (λ (b : CodeBody). b.path) body_is;
          there = sym (is.first point.address) ∙ there ∙ ap Some (sym number_is);
          no_call = subst (λ s. IsNoCall s node) binary_is here.1;
        })

    pub source_point : (point : SourcePoint) (node : ℕ) → IsSourceAt code point node → IsSourcePoint part frame point node
    source_point point node found = (
      record { body = source_body; is_body = Contains-push [] source_body; path = sym found.own; number = node; there = is.node point.place ∙ found.there; node_is = from_zero node },
      subst (λ s. IsNoCall s node) (sym source_is) found.no_call,
    )

    pub no_source_point : (point : SourcePoint) → ((node : ℕ) → IsSourceAt code point node → ⊥) → (node : ℕ) → IsSourcePoint part frame point node → ⊥
    no_source_point point none node here =
        let body_is : here.0.body ≡ source_body = only_one source_body here.0.body here.0.is_body in
        let there = subst (λ (b : SourceBody). b.node point.place ≡ Some here.0.number) body_is here.0.there in
        let number_is : node ≡ here.0.number = here.0.node_is ∙ ap (λ (b : SourceBody). b.offset + here.0.number) body_is ∙ sym (from_zero here.0.number) in
        none node (record {
          own = sym here.0.path ∙ ap (λ (b : SourceBody). b.path) body_is;
          there = sym (is.node point.place) ∙ there ∙ ap Some (sym number_is);
          no_call = subst (λ s. IsNoCall s node) source_is here.1;
        })

  -- ---- lines

  -- what the line comes to where its point is a node of the code
  pub binary_comes : (old new : List Term) (before after : List Job) (point : BinaryPoint) (node count : ℕ) → IsBinaryAt code point node → (result : Result (Unit {0}) (Refusal PartFault))
      → IsRestricted code old new before after Binary (record { node = node; count = count }) result
      → Comes part at (jobs_of old (frame_at code) before) (jobs_of new (frame_at code) after) (RestrictBinary point count) result
  binary_comes old new before after point node count found (Ok done) is_so =
      let x = is_so m.listed is.listed in
      let b = x.3 in
      subst (λ (jobs : List spec.Job). Passes part at jobs (RestrictBinary point count) (jobs_of new (frame_at code) after)) (sym b.proves.first)
      (subst (λ (jobs : List spec.Job). Passes part at (spec.Prove (origin_of x.0) x.1 ∷ x.2) (RestrictBinary point count) jobs) (sym b.now)
      (lines.restrict_binary (origin_of x.0) x.1 x.2 point node count b.terms (binary_point x.1 b.proves.binary b.proves.source point node found) b.counted
      (leaves parts m x.0 x.1 (rule.RestrictBinary (record { node = node; count = count })) b.terms b.left)))
  binary_comes old new before after point node count found (Err (Fault (Broken fault.Count))) is_so =
      let x = is_so m.listed is.listed in
      let proves = x.3.0 in
      subst (λ (n : ℕ). Fails part at (jobs_of old (frame_at code) before) (RestrictBinary point n) at (lines.Breaks fault.Count)) (sym x.3.1)
      (subst (λ (jobs : List spec.Job). Fails part at jobs (RestrictBinary point 0) at (lines.Breaks fault.Count)) (sym proves.first)
      (lines.binary_count (origin_of x.0) x.1 x.2 point node (binary_point x.1 proves.binary proves.source point node found)))
  binary_comes old new before after point node count found (Err (Fault (Broken fault.Cyclic))) is_so =
      let x = is_so m.listed is.listed in
      let proves = x.3.0 in
      subst (λ (jobs : List spec.Job). Fails part at jobs (RestrictBinary point count) at (lines.Breaks fault.Cyclic)) (sym proves.first)
      (lines.binary_cyclic (origin_of x.0) x.1 x.2 point node count x.3.2.0 (binary_point x.1 proves.binary proves.source point node found) x.3.1
      (cyclic_there parts m x.0 x.1 (rule.RestrictBinary (record { node = node; count = count })) x.3.2.0 x.3.2.1))
  binary_comes old new before after point node count found (Err (Fault (Above quantity.Visits))) is_so =
      let x = is_so m.listed is.listed in
      let proves = x.3.0 in
      subst (λ (jobs : List spec.Job). Fails part at jobs (RestrictBinary point count) at (lines.Above quantity.Visits)) (sym proves.first)
      (lines.binary_visits (origin_of x.0) x.1 x.2 point node count x.3.2.0 (binary_point x.1 proves.binary proves.source point node found) x.3.1
      (never_there parts m x.0 x.1 (rule.RestrictBinary (record { node = node; count = count }))
      (binary_never (record { node = node; count = count }) (opening_at m.listed x.0) x.1 x.3.2.0 x.3.2.1))
      (large_there parts m x.0 x.1 (rule.RestrictBinary (record { node = node; count = count })) x.3.2.0 x.3.2.1))
  binary_comes old new before after point node count found (Err NoMemory) is_so = tt
  binary_comes old new before after point node count found (Err (Fault (Broken fault.Later))) is_so = absurd (is_so m.listed is.listed).3
  binary_comes old new before after point node count found (Err (Fault (Broken fault.Inline))) is_so = absurd (is_so m.listed is.listed).3
  binary_comes old new before after point node count found (Err (Fault (Broken fault.Point))) is_so = absurd (is_so m.listed is.listed).3
  binary_comes old new before after point node count found (Err (Fault (Broken fault.Callee))) is_so = absurd (is_so m.listed is.listed).3
  binary_comes old new before after point node count found (Err (Fault (Broken fault.Passed))) is_so = absurd (is_so m.listed is.listed).3
  binary_comes old new before after point node count found (Err (Fault (Broken fault.Same))) is_so = absurd (is_so m.listed is.listed).3
  binary_comes old new before after point node count found (Err (Fault (Broken fault.Word))) is_so = absurd (is_so m.listed is.listed).3
  binary_comes old new before after point node count found (Err (Fault (Broken fault.Stranger))) is_so = absurd (is_so m.listed is.listed).3
  binary_comes old new before after point node count found (Err (Fault (Broken fault.Stack))) is_so = absurd (is_so m.listed is.listed).3
  binary_comes old new before after point node count found (Err (Fault (Broken fault.Sort))) is_so = absurd (is_so m.listed is.listed).3
  binary_comes old new before after point node count found (Err (Fault (Broken fault.Logs))) is_so = absurd (is_so m.listed is.listed).3
  binary_comes old new before after point node count found (Err (Fault (Broken fault.Step))) is_so = absurd (is_so m.listed is.listed).3
  binary_comes old new before after point node count found (Err (Fault (Broken fault.Unclosed))) is_so = absurd (is_so m.listed is.listed).3
  binary_comes old new before after point node count found (Err (Fault (Broken fault.Missing))) is_so = absurd (is_so m.listed is.listed).3
  binary_comes old new before after point node count found (Err (Fault (Above quantity.Terms))) is_so = absurd (is_so m.listed is.listed).3
  binary_comes old new before after point node count found (Err (Fault (Above quantity.Variables))) is_so = absurd (is_so m.listed is.listed).3
  binary_comes old new before after point node count found (Err (Fault (Above quantity.Elf))) is_so = absurd (is_so m.listed is.listed).3
  binary_comes old new before after point node count found (Err (Fault (Above quantity.C))) is_so = absurd (is_so m.listed is.listed).3
  binary_comes old new before after point node count found (Err (Fault (Above quantity.Functions))) is_so = absurd (is_so m.listed is.listed).3
  binary_comes old new before after point node count found (Err (Fault (Above quantity.Nodes))) is_so = absurd (is_so m.listed is.listed).3
  binary_comes old new before after point node count found (Err (Fault (Above quantity.Certificate))) is_so = absurd (is_so m.listed is.listed).3
  binary_comes old new before after point node count found (Err (Fault (Above quantity.Call))) is_so = absurd (is_so m.listed is.listed).3
  binary_comes old new before after point node count found (Err (Fault (Above quantity.Steps))) is_so = absurd (is_so m.listed is.listed).3
  binary_comes old new before after point node count found (Err (Fault (Above quantity.Known))) is_so = absurd (is_so m.listed is.listed).3

  -- there is no such node
  pub binary_nowhere : (old : List Term) (before below : List Job) (x : Box Extra Global) (point : BinaryPoint) (count : ℕ) → before ≡ below ++ Prove x ∷ []
      → ((node : ℕ) → IsBinaryAt code point node → ⊥) → Fails part at (jobs_of old (frame_at code) before) (RestrictBinary point count) at (lines.Breaks fault.Point)
  binary_nowhere old before below x point count first none =
      let frame = frame_added m.listed.frame (added_at old x.value) in
      let rest = jobs_of old (frame_at code) below in
      subst (λ (jobs : List spec.Job). Fails part at jobs (RestrictBinary point count) at (lines.Breaks fault.Point))
      (sym (jobs_top old (frame_at code) before below (Prove x) first
      ∙ ap (λ (g : Frame). spec.Prove (origin_at x.value) (frame_added g (added_at old x.value)) ∷ rest) (sym is.listed.frame_is)))
      (lines.binary_point (origin_at x.value) frame rest point count (no_binary_point frame refl refl point none))

  -- what the line comes to where its point is a node of the source
  pub source_comes : (old new : List Term) (before after : List Job) (point : SourcePoint) (node count : ℕ) → IsSourceAt code point node → (result : Result (Unit {0}) (Refusal PartFault))
      → IsRestricted code old new before after Source (record { node = node; count = count }) result
      → Comes part at (jobs_of old (frame_at code) before) (jobs_of new (frame_at code) after) (RestrictSource point count) result
  source_comes old new before after point node count found (Ok done) is_so =
      let x = is_so m.listed is.listed in
      let b = x.3 in
      subst (λ (jobs : List spec.Job). Passes part at jobs (RestrictSource point count) (jobs_of new (frame_at code) after)) (sym b.proves.first)
      (subst (λ (jobs : List spec.Job). Passes part at (spec.Prove (origin_of x.0) x.1 ∷ x.2) (RestrictSource point count) jobs) (sym b.now)
      (lines.restrict_source (origin_of x.0) x.1 x.2 point node count b.terms (source_point x.1 b.proves.binary b.proves.source point node found) b.counted
      (leaves parts m x.0 x.1 (rule.RestrictSource (record { node = node; count = count })) b.terms b.left)))
  source_comes old new before after point node count found (Err (Fault (Broken fault.Count))) is_so =
      let x = is_so m.listed is.listed in
      let proves = x.3.0 in
      subst (λ (n : ℕ). Fails part at (jobs_of old (frame_at code) before) (RestrictSource point n) at (lines.Breaks fault.Count)) (sym x.3.1)
      (subst (λ (jobs : List spec.Job). Fails part at jobs (RestrictSource point 0) at (lines.Breaks fault.Count)) (sym proves.first)
      (lines.source_count (origin_of x.0) x.1 x.2 point node (source_point x.1 proves.binary proves.source point node found)))
  source_comes old new before after point node count found (Err (Fault (Broken fault.Cyclic))) is_so =
      let x = is_so m.listed is.listed in
      let proves = x.3.0 in
      subst (λ (jobs : List spec.Job). Fails part at jobs (RestrictSource point count) at (lines.Breaks fault.Cyclic)) (sym proves.first)
      (lines.source_cyclic (origin_of x.0) x.1 x.2 point node count x.3.2.0 (source_point x.1 proves.binary proves.source point node found) x.3.1
      (cyclic_there parts m x.0 x.1 (rule.RestrictSource (record { node = node; count = count })) x.3.2.0 x.3.2.1))
  source_comes old new before after point node count found (Err (Fault (Above quantity.Visits))) is_so =
      let x = is_so m.listed is.listed in
      let proves = x.3.0 in
      subst (λ (jobs : List spec.Job). Fails part at jobs (RestrictSource point count) at (lines.Above quantity.Visits)) (sym proves.first)
      (lines.source_visits (origin_of x.0) x.1 x.2 point node count x.3.2.0 (source_point x.1 proves.binary proves.source point node found) x.3.1
      (never_there parts m x.0 x.1 (rule.RestrictSource (record { node = node; count = count }))
      (source_never (record { node = node; count = count }) (opening_at m.listed x.0) x.1 x.3.2.0 x.3.2.1))
      (large_there parts m x.0 x.1 (rule.RestrictSource (record { node = node; count = count })) x.3.2.0 x.3.2.1))
  source_comes old new before after point node count found (Err NoMemory) is_so = tt
  source_comes old new before after point node count found (Err (Fault (Broken fault.Later))) is_so = absurd (is_so m.listed is.listed).3
  source_comes old new before after point node count found (Err (Fault (Broken fault.Inline))) is_so = absurd (is_so m.listed is.listed).3
  source_comes old new before after point node count found (Err (Fault (Broken fault.Point))) is_so = absurd (is_so m.listed is.listed).3
  source_comes old new before after point node count found (Err (Fault (Broken fault.Callee))) is_so = absurd (is_so m.listed is.listed).3
  source_comes old new before after point node count found (Err (Fault (Broken fault.Passed))) is_so = absurd (is_so m.listed is.listed).3
  source_comes old new before after point node count found (Err (Fault (Broken fault.Same))) is_so = absurd (is_so m.listed is.listed).3
  source_comes old new before after point node count found (Err (Fault (Broken fault.Word))) is_so = absurd (is_so m.listed is.listed).3
  source_comes old new before after point node count found (Err (Fault (Broken fault.Stranger))) is_so = absurd (is_so m.listed is.listed).3
  source_comes old new before after point node count found (Err (Fault (Broken fault.Stack))) is_so = absurd (is_so m.listed is.listed).3
  source_comes old new before after point node count found (Err (Fault (Broken fault.Sort))) is_so = absurd (is_so m.listed is.listed).3
  source_comes old new before after point node count found (Err (Fault (Broken fault.Logs))) is_so = absurd (is_so m.listed is.listed).3
  source_comes old new before after point node count found (Err (Fault (Broken fault.Step))) is_so = absurd (is_so m.listed is.listed).3
  source_comes old new before after point node count found (Err (Fault (Broken fault.Unclosed))) is_so = absurd (is_so m.listed is.listed).3
  source_comes old new before after point node count found (Err (Fault (Broken fault.Missing))) is_so = absurd (is_so m.listed is.listed).3
  source_comes old new before after point node count found (Err (Fault (Above quantity.Terms))) is_so = absurd (is_so m.listed is.listed).3
  source_comes old new before after point node count found (Err (Fault (Above quantity.Variables))) is_so = absurd (is_so m.listed is.listed).3
  source_comes old new before after point node count found (Err (Fault (Above quantity.Elf))) is_so = absurd (is_so m.listed is.listed).3
  source_comes old new before after point node count found (Err (Fault (Above quantity.C))) is_so = absurd (is_so m.listed is.listed).3
  source_comes old new before after point node count found (Err (Fault (Above quantity.Functions))) is_so = absurd (is_so m.listed is.listed).3
  source_comes old new before after point node count found (Err (Fault (Above quantity.Nodes))) is_so = absurd (is_so m.listed is.listed).3
  source_comes old new before after point node count found (Err (Fault (Above quantity.Certificate))) is_so = absurd (is_so m.listed is.listed).3
  source_comes old new before after point node count found (Err (Fault (Above quantity.Call))) is_so = absurd (is_so m.listed is.listed).3
  source_comes old new before after point node count found (Err (Fault (Above quantity.Steps))) is_so = absurd (is_so m.listed is.listed).3
  source_comes old new before after point node count found (Err (Fault (Above quantity.Known))) is_so = absurd (is_so m.listed is.listed).3

  -- there is no such node
  pub source_nowhere : (old : List Term) (before below : List Job) (x : Box Extra Global) (point : SourcePoint) (count : ℕ) → before ≡ below ++ Prove x ∷ []
      → ((node : ℕ) → IsSourceAt code point node → ⊥) → Fails part at (jobs_of old (frame_at code) before) (RestrictSource point count) at (lines.Breaks fault.Point)
  source_nowhere old before below x point count first none =
      let frame = frame_added m.listed.frame (added_at old x.value) in
      let rest = jobs_of old (frame_at code) below in
      subst (λ (jobs : List spec.Job). Fails part at jobs (RestrictSource point count) at (lines.Breaks fault.Point))
      (sym (jobs_top old (frame_at code) before below (Prove x) first
      ∙ ap (λ (g : Frame). spec.Prove (origin_at x.value) (frame_added g (added_at old x.value)) ∷ rest) (sym is.listed.frame_is)))
      (lines.source_point (origin_at x.value) frame rest point count (no_source_point frame refl refl point none))
