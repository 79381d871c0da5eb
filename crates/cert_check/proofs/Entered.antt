-- What a line does to the walk, in the definition's terms.
use Rattle.std.proofs.Common.{◌≡◌, ◌∙◌, inl, inr, ℕ, ◌+◌, ◌<◌, ◌≤◌, true, false, Vec, Global, List, [], ◌∷◌, ◌++◌, length, get_or, take, Some, None, Result, Ok, Err, refl, sym, ap, subst, arith}
use Rattle.std.specs.Prelude.{slice_get}
use Rattle.std.proofs.lemmas.List.{take_more, take_all, same_from_push}
use Rattle.std.proofs.lemmas.List.Elements.{All-push}
use Rattle.std.proofs.lemmas.Option.{slice_get_within}
use Rattle.std.proofs.lemmas.Result.{on_ok_weaker}
use Rattle.cert_text_parse.specs.declared.lines.Line.{Line as CodeLine}
use Rattle.cert_text_parse.specs.declared.lines.Line.TheVariants as code
use Rattle.cert_text_parse.specs.Views.{line_of}
use Rattle.cert_text_spec.specs.Lines.{Line, Header, Function, End}
use Rattle.cert_text_spec.specs.Certificates.{Expected, AHeader, TheParts, BinaryInlines, SourceInlines, AProof, ARelation, ALog, AStep, after, can_stand, is_header, is_part}
use Rattle.proof_tree_spec.specs.Frames.{Frame}
use Rattle.cert_check_lines_spec.specs.Sites.{Part}
use Rattle.cert_check_lines_spec.specs.Jobs as spec
use Rattle.cert_check_lines_spec.specs.Jobs.{AtEntry}
use Rattle.cert_check_lines_spec.specs.LineRules as lines
use Rattle.cert_check_lines_spec.specs.Parts as parts_of
use Rattle.cert_check_lines_spec.specs.Parts.{Functions, Member, State, Between, Unfolding, Inside, HasParts, at_start, at_close, IsFree, unfolded, part_of}
use Rattle.cert_check_lines_spec.specs.Walk.{Going, Stopped, Takes}
use Rattle.cert_check_lines_spec.specs.Walk as walks
use Rattle.cert_check_lines_spec.specs.Known.{is_known}
use Rattle.cert_check_spec.specs.declared.RuleWord.{RuleWord}
use Rattle.cert_check_spec.specs.declared.RuleWord.TheVariants as fault
use Rattle.cert_check.specs.declared.fault.Named.TheVariants as named
use Rattle.attempt.specs.declared.refusal.Refusal.{Refusal}
use Rattle.attempt.specs.declared.refusal.Refusal.TheVariants.{Fault, NoMemory}
use Rattle.cert_check.specs.declared.fault.NamedFault.{NamedFault}
use Rattle.cert_check.specs.declared.fault.PartFault.{PartFault}
use Rattle.cert_check.specs.declared.fault.NamedFault.TheVariants.{Broken, Above}
use Rattle.cert_check.specs.declared.fault.PartFault.TheVariants as inner
use Rattle.cert_check_jobs.specs.declared.jobs.Job.{Job}
use Rattle.cert_check_frames.specs.declared.listed.Listed.{Listed}
use Rattle.cert_check.specs.declared.walk.Walk.{Walk}
use Rattle.cert_check_frames.specs.Listed.{frame_at}
use Rattle.cert_check.specs.Jobs.{jobs_of}
use Rattle.cert_check.specs.Expectations.{IsOfProof, of_binary, of_source, of_proof, AreOf, no_job, a_proof, a_relation, a_log, IsNext, AreAfter}
use Rattle.cert_check.specs.Steps.{Comes, IsStep}
use Rattle.cert_check_frames.specs.Parts.{AreIndices, IsNamed, HasPart, IsFreeAt, IsMissingAt}
use Rattle.cert_check.specs.Members.{AreMembers, IsMemberOf}
use Rattle.cert_check.specs.Walks.{ArePicked, no_pick, IsPart, walk_jobs, IsState, between, unfolding_part, inside, Expecting, at_header, at_first, in_part, Keeps, IsSound, IsWalk, StepsTo, ExpectsAfter, Goes, IsInside, IsPlain, Breaks, ComesAt, IsInPart, GoesInside, BeginsAt, Begins, Ends, named_fault}
use Rattle.cert_check_frames.proofs.Indexed.{one_item}
use Rattle.cert_check.proofs.Pushed.{no_jobs}
use Rattle.cert_check.proofs.Picked.{member_there, picked_more, is_free, never_free, is_missing, none_missing}
use Rattle.cert_check.proofs.States.{no_item, some_item, accepts_there, rejects_there, begun_there, IsLast, last_of}

-- ---- what is expected

only_parts : (e : Expected) (name : List ℕ) (stack : ℕ) → can_stand e (Function name stack) ≡ true → e ≡ TheParts
only_parts AHeader name stack h = absurd (cc)
only_parts TheParts name stack h = refl
only_parts BinaryInlines name stack h = absurd (cc)
only_parts SourceInlines name stack h = absurd (cc)
only_parts (AProof room) name stack h = absurd (cc)
only_parts ARelation name stack h = absurd (cc)
only_parts ALog name stack h = absurd (cc)
only_parts AStep name stack h = absurd (cc)

only_header : (e : Expected) → can_stand e Header ≡ true → e ≡ AHeader
only_header AHeader h = refl
only_header TheParts h = absurd (cc)
only_header BinaryInlines h = absurd (cc)
only_header SourceInlines h = absurd (cc)
only_header (AProof room) h = absurd (cc)
only_header ARelation h = absurd (cc)
only_header ALog h = absurd (cc)
only_header AStep h = absurd (cc)

never_part : (e : Expected) → IsOfProof e → e ≡ TheParts → ⊥
never_part _ of_binary is = absurd (cc)
never_part _ of_source is = absurd (cc)
never_part _ (of_proof room) is = absurd (cc)

never_header : (e : Expected) → IsOfProof e → e ≡ AHeader → ⊥
never_header _ of_binary is = absurd (cc)
never_header _ of_source is = absurd (cc)
never_header _ (of_proof room) is = absurd (cc)

alone_of : (e : Expected) (others : List Expected) (jobs : List Job) → AreOf (e ∷ others) jobs → e ≡ TheParts → others ≡ []
alone_of _ _ _ no_job is = refl
alone_of e others jobs (a_proof _ _ below _ x of are same) is = absurd (never_part e of is)
alone_of _ others jobs (a_relation _ more room below _ reading are rest same) is = absurd (cc)
alone_of _ others jobs (a_log _ below _ goal are same) is = absurd (cc)

alone : (walk : Walk) (e : Expected) (others : List Expected) → Expecting walk (e ∷ others) → e ≡ TheParts → others ≡ []
alone walk _ _ (at_header empty) is = refl
alone walk _ _ (at_first empty) is = refl
alone walk e others (in_part _ some are) is = alone_of e others walk.jobs.items are is

header_of : (e : Expected) (others : List Expected) (jobs : List Job) → AreOf (e ∷ others) jobs → e ≡ AHeader → ⊥
header_of _ _ _ no_job is = absurd (cc)
header_of e others jobs (a_proof _ _ below _ x of are same) is = never_header e of is
header_of _ others jobs (a_relation _ more room below _ reading are rest same) is = absurd (cc)
header_of _ others jobs (a_log _ below _ goal are same) is = absurd (cc)

-- before the version there is no part
at_version : (walk : Walk) (e : Expected) (others : List Expected) → Expecting walk (e ∷ others) → e ≡ AHeader → (walk.parts.items ≡ []) × (others ≡ [])
at_version walk _ _ (at_header empty) is = (empty, refl)
at_version walk _ _ (at_first empty) is = absurd (cc)
at_version walk e others (in_part _ some are) is = absurd (header_of e others walk.jobs.items are is)

-- ---- the version

pub header_goes : (codes : List Listed) (walk : Walk) (index : ℕ) → IsWalk codes walk Header → Goes codes walk walk Header index (Ok (tt {0}))
header_goes codes walk index at =
    let version = at_version walk at.expected at.others at.expecting (only_header at.expected at.allowed) in
    record {
      sound = at.sound;
      follows = λ e others expecting allowed.
          let is = only_header e allowed in
          let here = at_version walk e others expecting is in
          inr (subst (Expecting walk) (sym (ap (λ (x : Expected). after x Header ++ others) is ∙ ap (λ (l : List Expected). TheParts ∷ l) here.1)) (at_first here.0));
      step = λ fs members offset are s state. by fs members offset s state version.0;
    }
  where
    by : (fs : Functions) (members : List Member) (offset : ℕ) (s : State) → IsState codes members walk s → walk.parts.items ≡ []
        → StepsTo codes fs members offset walk s Header index (Ok (tt {0}))
    by fs members offset _ (between empty) none =
        (Between [], walks.goes_on offset (Between []) (Between []) Header refl parts_of.header, inr (between empty))
    by fs members offset _ (unfolding_part function f parts part jobs) none = absurd (no_item walk.parts.items part.before part.index none part.split)
    by fs members offset _ (inside function f parts part) none = absurd (no_item walk.parts.items part.before part.index none part.split)

-- ---- where nothing is open

jobs_none : (e : Expected) (others : List Expected) (jobs : List Job) → AreOf (e ∷ others) jobs → e ≡ TheParts → jobs ≡ []
jobs_none _ _ _ no_job is = refl
jobs_none e others jobs (a_proof _ _ below _ x of are same) is = absurd (never_part e of is)
jobs_none _ others jobs (a_relation _ more room below _ reading are rest same) is = absurd (cc)
jobs_none _ others jobs (a_log _ below _ goal are same) is = absurd (cc)

no_spec_jobs : (walk : Walk) (function : Listed) → walk.jobs.items ≡ [] → walk_jobs walk function ≡ []
no_spec_jobs walk function none = ap (jobs_of walk.bank (frame_at function)) none ∙ no_jobs walk.bank (frame_at function)

cons_nothing : {X : Type 0} (x : X) (xs : List X) → x ∷ xs ≡ [] → ⊥
cons_nothing x xs e = absurd (cc)

-- the functions that have a part, by the walk's indices
record IsShut (members : List Member) (walk : Walk) (s : State) : Type 0 where
  parts : List Member
  has : HasParts s parts
  picked : ArePicked members walk.parts.items parts

module _ (codes : List Listed) (members : List Member) (walk : Walk) where
  part_picked : (function : Listed) (f : Member) (parts : List Member) → IsPart codes members walk function f parts → ArePicked members walk.parts.items (parts ++ f ∷ [])
  part_picked function f parts part =
      subst (λ (list : List ℕ). ArePicked members list (parts ++ f ∷ [])) (sym part.split) (picked_more members part.before parts part.index f part.picked part.member)

  shut_first : walk.parts.items ≡ [] → (s : State) → IsState codes members walk s → IsShut members walk s
  shut_first empty _ (between none) =
      record { parts = []; has = at_start []; picked = subst (λ (list : List ℕ). ArePicked members list []) (sym empty) no_pick }
  shut_first empty _ (unfolding_part function f parts part jobs) = absurd (no_item walk.parts.items part.before part.index empty part.split)
  shut_first empty _ (inside function f parts part) = absurd (no_item walk.parts.items part.before part.index empty part.split)

  shut_part : 0 < length walk.parts.items → walk.jobs.items ≡ [] → (s : State) → IsState codes members walk s → IsShut members walk s
  shut_part some none _ (between empty) = absurd (omega (arith, some, ap length empty))
  shut_part some none _ (unfolding_part function f parts part jobs) =
      absurd (cons_nothing (spec.Prove AtEntry f.listed.frame) [] (sym jobs ∙ no_spec_jobs walk function none))
  shut_part some none _ (inside function f parts part) = record {
    parts = parts ++ f ∷ [];
    has = subst (λ (jobs : List spec.Job). HasParts (Inside parts f (unfolded f) jobs) (parts ++ f ∷ [])) (sym (no_spec_jobs walk function none)) (at_close parts f (unfolded f));
    picked = part_picked function f parts part;
  }

  shut : (e : Expected) (others : List Expected) → Expecting walk (e ∷ others) → e ≡ TheParts → (s : State) → IsState codes members walk s → IsShut members walk s
  shut _ _ (at_header empty) is s state = absurd (cc)
  shut _ _ (at_first empty) is s state = shut_first empty s state
  shut e others (in_part _ some are) is s state = shut_part some (jobs_none e others walk.jobs.items are is) s state

-- ---- a part begins

function_follows : (old now : Walk) (name : List ℕ) (stack : ℕ) → 0 < length now.parts.items → AreOf (BinaryInlines ∷ TheParts ∷ []) now.jobs.items
    → ExpectsAfter old now (Function name stack)
function_follows old now name stack some are = λ e others expecting allowed.
    let is = only_parts e name stack allowed in
    let empty = alone old e others expecting is in
    inr
    (subst (Expecting now)
    (sym (ap (λ (x : Expected). after x (Function name stack) ++ others) is ∙ ap (λ (l : List Expected). BinaryInlines ∷ TheParts ∷ l) empty))
    (in_part (BinaryInlines ∷ TheParts ∷ []) some are))

module _ (codes : List Listed) (old now : Walk) (name : List ℕ) (stack line index : ℕ) (at : IsWalk codes old (Function name stack)) (is_named : IsNamed codes index name)
    (free : HasPart codes old.parts.items name → ⊥) where
  shut_here : (members : List Member) (s : State) → IsState codes members old s → IsShut members old s
  shut_here members s state = shut codes members old at.expected at.others at.expecting (only_parts at.expected name stack at.allowed) s state

  -- the member of its index
  free_at : (members : List Member) → (are : AreMembers codes members) → (parts : List Member) → ArePicked members old.parts.items parts → (f : Member) → slice_get members index ≡ Some f
      → IsMemberOf is_named.function f → IsFree members parts f.listed.name f
  free_at members are parts picked f there is =
      is_free codes members are old.parts.items parts picked index is_named.function f is_named.there there is
      (λ has. free (subst (HasPart codes old.parts.items) is_named.named has))

  keeps_last : BeginsAt is_named.function old now index stack (Ok (tt {0})) → (before : List ℕ) (k : ℕ) (other : Listed) → now.parts.items ≡ before ++ k ∷ []
      → slice_get codes k ≡ Some other → Keeps other now
  keeps_last begins before k other is there =
      let last = same_from_push before old.parts.items k index (sym is ∙ begins.3) in
      let same : is_named.function ≡ other = one_item codes k is_named.function other (ap (slice_get codes) last.1 ∙ is_named.there) there in
      subst (λ (g : Listed). Keeps g now) same (subst (Keeps is_named.function) (sym begins.4) begins.1.kept)

  stays : BeginsAt is_named.function old now index stack (Ok (tt {0})) → walk_jobs now is_named.function ≡ spec.Prove AtEntry (frame_at is_named.function) ∷ []
  stays begins = ap (λ (w : Walk). walk_jobs w is_named.function) begins.4 ∙ begins.1.jobs

  begins_step : BeginsAt is_named.function old now index stack (Ok (tt {0})) → (fs : Functions) (members : List Member) (offset : ℕ) → AreMembers codes members → (s : State)
      → IsState codes members old s → StepsTo codes fs members offset now s (Function name stack) line (Ok (tt {0}))
  begins_step begins fs members offset are s state =
      let found = member_there codes members are index is_named.function is_named.there in
      let f = found.0 in
      let is = found.2 in
      let was = shut_here members s state in
      let next = Unfolding was.parts f (unfolded f) in
      let accepts : parts_of.Accepts fs members offset s (Function name stack) next =
      subst (λ (n : List ℕ). parts_of.Accepts fs members offset s (Function n stack) next) (is.listed.named ∙ is_named.named)
      (subst (λ (n : ℕ). parts_of.Accepts fs members offset s (Function f.listed.name n) next) (is.listed.stack_is ∙ begins.2)
      (parts_of.function s was.parts f was.has (free_at members are was.parts was.picked f found.1 is))) in
      let part : IsPart codes members now is_named.function f was.parts = record {
        before = old.parts.items;
        index = index;
        split = begins.3;
        found = is_named.there;
        member = found.1;
        picked = was.picked;
      } in (
        next,
        walks.goes_on offset s next (Function name stack) refl accepts,
        inr (unfolding_part is_named.function f was.parts part (stays begins ∙ ap (λ (frame : Frame). spec.Prove AtEntry frame ∷ []) (sym is.listed.frame_is))),
      )

  other_stack : (function_stack : is_named.function.stack ≡ stack → ⊥) → (fs : Functions) (members : List Member) (offset : ℕ) → AreMembers codes members → (s : State)
      → IsState codes members old s → StepsTo codes fs members offset now s (Function name stack) line (Err (Fault (Broken (named.Listed index) fault.Stack)))
  other_stack apart fs members offset are s state =
      let found = member_there codes members are index is_named.function is_named.there in
      let f = found.0 in
      let is = found.2 in
      let was = shut_here members s state in
      let same : f.listed.name ≡ name = is.listed.named ∙ is_named.named in
      let free_here = subst (λ (n : List ℕ). IsFree members was.parts n f) same (free_at members are was.parts was.picked f found.1 is) in (
        name,
        is_named,
        walks.stops offset s (Function name stack) offset name (lines.Breaks fault.Stack) refl
            (parts_of.other_stack s was.parts name stack f was.has free_here (λ e. apart (sym is.listed.stack_is ∙ sym e))),
      )

  begun_goes : (result : Result (Unit {0}) (Refusal NamedFault)) → BeginsAt is_named.function old now index stack result → Goes codes old now (Function name stack) line result
  begun_goes (Ok done) begins =
      let parts = begins.3 in
      record {
        sound = record {
          indices = subst (AreIndices (length codes)) (sym parts)
              (All-push (λ (k : ℕ). k < length codes) old.parts.items index at.sound.indices (slice_get_within codes index is_named.function is_named.there));
          kept = keeps_last begins;
        };
        follows = function_follows old now name stack (some_item now.parts.items old.parts.items index parts)
            (subst (λ (w : Walk). AreOf (BinaryInlines ∷ TheParts ∷ []) w.jobs.items) (sym begins.4) begins.1.follows);
        step = begins_step begins;
      }
  begun_goes (Err (Fault (Broken (named.Listed k) fault.Stack))) begins = record {
    sound = tt;
    follows = tt;
    step = λ fs members offset are s state.
        subst (λ (n : ℕ). StepsTo codes fs members offset now s (Function name stack) line (Err (Fault (Broken (named.Listed n) fault.Stack)))) (sym begins.0)
        (other_stack begins.1 fs members offset are s state);
  }
  begun_goes (Err NoMemory) begins = record { sound = tt; follows = tt; step = λ fs members offset are s state. tt }
  begun_goes (Err (Fault (Broken (named.Listed k) fault.Later))) begins = absurd begins
  begun_goes (Err (Fault (Broken (named.Listed k) fault.Inline))) begins = absurd begins
  begun_goes (Err (Fault (Broken (named.Listed k) fault.Point))) begins = absurd begins
  begun_goes (Err (Fault (Broken (named.Listed k) fault.Count))) begins = absurd begins
  begun_goes (Err (Fault (Broken (named.Listed k) fault.Callee))) begins = absurd begins
  begun_goes (Err (Fault (Broken (named.Listed k) fault.Passed))) begins = absurd begins
  begun_goes (Err (Fault (Broken (named.Listed k) fault.Same))) begins = absurd begins
  begun_goes (Err (Fault (Broken (named.Listed k) fault.Word))) begins = absurd begins
  begun_goes (Err (Fault (Broken (named.Listed k) fault.Stranger))) begins = absurd begins
  begun_goes (Err (Fault (Broken (named.Listed k) fault.Sort))) begins = absurd begins
  begun_goes (Err (Fault (Broken (named.Listed k) fault.Cyclic))) begins = absurd begins
  begun_goes (Err (Fault (Broken (named.Listed k) fault.Logs))) begins = absurd begins
  begun_goes (Err (Fault (Broken (named.Listed k) fault.Step))) begins = absurd begins
  begun_goes (Err (Fault (Broken (named.Listed k) fault.Unclosed))) begins = absurd begins
  begun_goes (Err (Fault (Broken (named.Listed k) fault.Missing))) begins = absurd begins
  begun_goes (Err (Fault (Broken (named.Line n) rule))) begins = absurd begins
  begun_goes (Err (Fault (Above q))) begins = absurd begins

-- for each function that is there, as for one
pub begins_for : (codes : List Listed) (old now : Walk) (index stack : ℕ) (result : Result (Unit {0}) (Refusal NamedFault)) (function : Listed) → slice_get codes index ≡ Some function
    → BeginsAt function old now index stack result → Begins codes old now index stack result
begins_for codes old now index stack result function there begins = λ other also.
    subst (λ (g : Listed). BeginsAt g old now index stack result) (one_item codes index function other there also) begins

-- the listed function of an index has the name, and no part yet
pub begin_goes : (codes : List Listed) (old now : Walk) (name : List ℕ) (stack line index : ℕ) → IsWalk codes old (Function name stack)
    → IsFreeAt codes old.parts.items name (Some index) → (result : Result (Unit {0}) (Refusal NamedFault)) → Begins codes old now index stack result → Goes codes old now (Function name stack) line result
begin_goes codes old now name stack line index at free result begins =
    begun_goes codes old now name stack line index at free.0 free.1 result (begins free.0.function free.0.there)

-- there is none
pub stranger_goes : (codes : List Listed) (old now : Walk) (name : List ℕ) (stack line : ℕ) → IsWalk codes old (Function name stack) → IsFreeAt codes old.parts.items name None
    → Goes codes old now (Function name stack) line (Err (Fault (Broken (named.Line line) fault.Stranger)))
stranger_goes codes old now name stack line at none = record {
  sound = tt;
  follows = tt;
  step = λ fs members offset are s state.
      let was = shut codes members old at.expected at.others at.expecting (only_parts at.expected name stack at.allowed) s state in (
        name,
        (refl, stack, refl),
        walks.stops offset s (Function name stack) offset name (lines.Breaks fault.Stranger) refl
            (parts_of.unlisted s was.parts name stack was.has (never_free codes members are old.parts.items was.parts was.picked name none)),
      );
}

-- ---- the end

only_end : (e : Expected) → can_stand e End ≡ true → e ≡ TheParts
only_end AHeader h = absurd (cc)
only_end TheParts h = refl
only_end BinaryInlines h = absurd (cc)
only_end SourceInlines h = absurd (cc)
only_end (AProof room) h = absurd (cc)
only_end ARelation h = absurd (cc)
only_end ALog h = absurd (cc)
only_end AStep h = absurd (cc)

module _ (codes : List Listed) (walk : Walk) (at : IsWalk codes walk End) (index : ℕ) where
  end_follows : ExpectsAfter walk walk End
  end_follows = λ e others expecting allowed. inl refl

  shut_end : (members : List Member) (s : State) → IsState codes members walk s → IsShut members walk s
  shut_end members s state = shut codes members walk at.expected at.others at.expecting (only_end at.expected at.allowed) s state

  all_step : IsMissingAt codes walk.parts.items None → (fs : Functions) (members : List Member) (offset : ℕ) → AreMembers codes members → (s : State) → IsState codes members walk s
      → StepsTo codes fs members offset walk s End index (Ok (tt {0}))
  all_step all fs members offset are s state =
      let was = shut_end members s state in (
        Between was.parts,
        walks.goes_on offset s (Between was.parts) End refl
            (parts_of.last s was.parts was.has (none_missing codes members are walk.parts.items was.parts was.picked all)),
        inl refl,
      )

  missing_step : (k : ℕ) → IsMissingAt codes walk.parts.items (Some k) → (fs : Functions) (members : List Member) (offset : ℕ) → AreMembers codes members → (s : State)
      → IsState codes members walk s → StepsTo codes fs members offset walk s End index (Err (Fault (Broken (named.Listed k) fault.Missing)))
  missing_step k missing fs members offset are s state =
      let found = member_there codes members are k missing.0 missing.1 in
      let f = found.0 in
      let was = shut_end members s state in (
        f.listed.name,
        record { function = missing.0; there = missing.1; named = sym found.2.listed.named },
        walks.stops offset s End offset f.listed.name (lines.Breaks fault.Missing) refl
            (parts_of.lacking s was.parts f.listed was.has
            (is_missing codes members are walk.parts.items was.parts was.picked k missing.0 f missing.1 found.1 found.2 missing.2 missing.3)),
      )

  pub end_goes : (result : Result (Unit {0}) (Refusal NamedFault)) → Ends codes walk.parts.items result → Goes codes walk walk End index result
  end_goes (Ok done) all = record {
    sound = at.sound;
    follows = end_follows;
    step = all_step all;
  }
  end_goes (Err (Fault (Broken (named.Listed k) fault.Missing))) missing = record { sound = tt; follows = tt; step = missing_step k missing }
  end_goes (Err NoMemory) missing = absurd missing
  end_goes (Err (Fault (Broken (named.Listed k) fault.Later))) missing = absurd missing
  end_goes (Err (Fault (Broken (named.Listed k) fault.Inline))) missing = absurd missing
  end_goes (Err (Fault (Broken (named.Listed k) fault.Point))) missing = absurd missing
  end_goes (Err (Fault (Broken (named.Listed k) fault.Count))) missing = absurd missing
  end_goes (Err (Fault (Broken (named.Listed k) fault.Callee))) missing = absurd missing
  end_goes (Err (Fault (Broken (named.Listed k) fault.Passed))) missing = absurd missing
  end_goes (Err (Fault (Broken (named.Listed k) fault.Same))) missing = absurd missing
  end_goes (Err (Fault (Broken (named.Listed k) fault.Word))) missing = absurd missing
  end_goes (Err (Fault (Broken (named.Listed k) fault.Stranger))) missing = absurd missing
  end_goes (Err (Fault (Broken (named.Listed k) fault.Stack))) missing = absurd missing
  end_goes (Err (Fault (Broken (named.Listed k) fault.Sort))) missing = absurd missing
  end_goes (Err (Fault (Broken (named.Listed k) fault.Cyclic))) missing = absurd missing
  end_goes (Err (Fault (Broken (named.Listed k) fault.Logs))) missing = absurd missing
  end_goes (Err (Fault (Broken (named.Listed k) fault.Step))) missing = absurd missing
  end_goes (Err (Fault (Broken (named.Listed k) fault.Unclosed))) missing = absurd missing
  end_goes (Err (Fault (Broken (named.Line n) rule))) missing = absurd missing
  end_goes (Err (Fault (Above q))) missing = absurd missing

-- ---- inside a part

header_inside : (line : CodeLine) → is_header (line_of line) ≡ true → IsInside line → ⊥
header_inside code.Header h is = absurd (cc)
header_inside (code.Function part) h is = absurd (cc)
header_inside (code.InlineBinary p) h is = absurd (cc)
header_inside (code.InlineSource p) h is = absurd (cc)
header_inside (code.Leaf n) h is = absurd (cc)
header_inside (code.Case t) h is = absurd (cc)
header_inside (code.RestrictBinary r) h is = absurd (cc)
header_inside (code.RestrictSource r) h is = absurd (cc)
header_inside (code.Split s) h is = absurd (cc)
header_inside (code.Call c) h is = absurd (cc)
header_inside (code.Relation t) h is = absurd (cc)
header_inside (code.Log n) h is = absurd (cc)
header_inside (code.Step k j) h is = absurd (cc)
header_inside code.End h is = absurd (cc)

part_inside : (line : CodeLine) → is_part (line_of line) ≡ true → IsInside line → ⊥
part_inside code.Header h is = absurd (cc)
part_inside (code.Function part) h is = absurd (cc)
part_inside (code.InlineBinary p) h is = absurd (cc)
part_inside (code.InlineSource p) h is = absurd (cc)
part_inside (code.Leaf n) h is = absurd (cc)
part_inside (code.Case t) h is = absurd (cc)
part_inside (code.RestrictBinary r) h is = absurd (cc)
part_inside (code.RestrictSource r) h is = absurd (cc)
part_inside (code.Split s) h is = absurd (cc)
part_inside (code.Call c) h is = absurd (cc)
part_inside (code.Relation t) h is = absurd (cc)
part_inside (code.Log n) h is = absurd (cc)
part_inside (code.Step k j) h is = absurd (cc)
part_inside code.End h is = absurd (cc)

-- a line is inside a part where it is neither the version, nor begins a part, nor is the last
pub other_inside : (line : CodeLine) → (line ≡ code.Header → ⊥) → ((part : _) → line ≡ code.Function part → ⊥) → (line ≡ code.End → ⊥) → IsInside line
other_inside code.Header no_header no_function no_end = absurd (no_header refl)
other_inside (code.Function part) no_header no_function no_end = absurd (no_function part refl)
other_inside (code.InlineBinary p) no_header no_function no_end = refl
other_inside (code.InlineSource p) no_header no_function no_end = refl
other_inside (code.Leaf n) no_header no_function no_end = refl
other_inside (code.Case t) no_header no_function no_end = refl
other_inside (code.RestrictBinary r) no_header no_function no_end = refl
other_inside (code.RestrictSource r) no_header no_function no_end = refl
other_inside (code.Split s) no_header no_function no_end = refl
other_inside (code.Call c) no_header no_function no_end = refl
other_inside (code.Relation t) no_header no_function no_end = refl
other_inside (code.Log n) no_header no_function no_end = refl
other_inside (code.Step k h) no_header no_function no_end = refl
other_inside code.End no_header no_function no_end = absurd (no_end refl)

-- a part has begun
pub in_a_part : (codes : List Listed) (walk : Walk) (line : CodeLine) → IsWalk codes walk (line_of line) → IsInside line → (0 < length walk.parts.items) × IsNext walk.jobs.items (line_of line)
in_a_part codes walk line at is_inside = by at.expected at.others at.expecting at.allowed
  where
    by : (e : Expected) (others : List Expected) → Expecting walk (e ∷ others) → can_stand e (line_of line) ≡ true → (0 < length walk.parts.items) × IsNext walk.jobs.items (line_of line)
    by _ _ (at_header empty) allowed = absurd (header_inside line allowed is_inside)
    by _ _ (at_first empty) allowed = absurd (part_inside line allowed is_inside)
    by e others (in_part _ some are) allowed = (some, record { expected = e; others = others; are = are; allowed = allowed })

-- the last part, at the index before the length
pub last_part : (xs : List ℕ) (i x : ℕ) → x ≡ get_or xs i x → i + 1 ≡ length xs → xs ≡ take i xs ++ x ∷ []
last_part xs i x is last =
    let less : i < length xs = omega (arith, last) in
    let all : length xs ≤ i + 1 = omega (arith, last) in
    sym (take_all (i + 1) xs all) ∙ take_more xs i x less ∙ ap (λ y. take i xs ++ y ∷ []) (sym is)

pub part_below : (n : ℕ) (xs : List ℕ) (i x : ℕ) → AreIndices n xs → x ≡ get_or xs i x → i < length xs → x < n
part_below n xs i x indices is within = subst (λ (k : ℕ). k < n) (sym is) (indices i x within)

module _ (codes : List Listed) (old now : Walk) (line : CodeLine) (index part : ℕ) (before : List ℕ) (at : IsWalk codes old (line_of line)) (is_inside : IsInside line)
    (last : old.parts.items ≡ before ++ part ∷ []) (function : Listed) (function_there : slice_get codes part ≡ Some function) where
  pub kept_inside : now.parts ≡ old.parts → Keeps function now → IsSound codes now
  kept_inside same keeps = record {
    indices = subst (λ (list : Vec ℕ Global). AreIndices (length codes) list.items) (sym same) at.sound.indices;
    kept = λ first k other is there.
        let ends_so = same_from_push before first part k (sym last ∙ (ap (λ (list : Vec ℕ Global). list.items) (sym same) ∙ is)) in
        let equal : function ≡ other = one_item codes k function other (ap (slice_get codes) (sym ends_so.1) ∙ function_there) there in
        subst (λ (g : Listed). Keeps g now) equal keeps;
  }

  pub some_now : now.parts ≡ old.parts → 0 < length now.parts.items
  some_now same = some_item now.parts.items before part (ap (λ (list : Vec ℕ Global). list.items) same ∙ last)

  follows_inside : now.parts ≡ old.parts → ((e : Expected) (others : List Expected) → AreOf (e ∷ others) old.jobs.items → can_stand e (line_of line) ≡ true
      → AreOf (after e (line_of line) ++ others) now.jobs.items) → ExpectsAfter old now (line_of line)
  follows_inside same after_line = λ e others expecting allowed. inr (by e others expecting allowed)
    where
      by : (e : Expected) (others : List Expected) → Expecting old (e ∷ others) → can_stand e (line_of line) ≡ true → Expecting now (after e (line_of line) ++ others)
      by _ _ (at_header empty) allowed = absurd (no_item old.parts.items before part empty last)
      by _ _ (at_first empty) allowed = absurd (no_item old.parts.items before part empty last)
      by e others (in_part _ some are) allowed = in_part (after e (line_of line) ++ others) (some_now same) (after_line e others are allowed)

  breaks_there : (fs : Functions) (members : List Member) (offset : ℕ) (s : State) (x : IsLast codes members old function s) (rule : RuleWord)
      → Breaks (part_of x.parts x.f (unfolded x.f)) offset (walk_jobs old function) (line_of line) rule
      → Takes fs members is_known (Going offset s) (line_of line) (Stopped offset x.f.listed.name (lines.Breaks rule))
  breaks_there fs members offset s x rule (inl fails) =
      walks.stops offset s (line_of line) offset x.f.listed.name (lines.Breaks rule) fails.0
      (rejects_there fs members x.parts x.f (walk_jobs old function) offset (line_of line) offset (lines.Breaks rule) s x.has fails.1)
  breaks_there fs members offset s x rule (inr later) =
      subst (λ (word : RuleWord). Takes fs members is_known (Going offset s) (line_of line) (Stopped offset x.f.listed.name (lines.Breaks word))) (sym later.1)
      (walks.unknown offset s (line_of line) x.f (begun_there x.parts x.f (walk_jobs old function) s x.has) later.0)

  steps_inside : (result : Result (Unit {0}) (Refusal NamedFault)) → now.parts ≡ old.parts → (fs : Functions) (members : List Member) (offset : ℕ) (s : State) → (x : IsLast codes members old function s)
      → ComesAt (part_of x.parts x.f (unfolded x.f)) offset (walk_jobs old function) (walk_jobs now function) (line_of line) part result
      → StepsTo codes fs members offset now s (line_of line) index result
  steps_inside (Ok done) same fs members offset s x comes =
      let next = Inside x.parts x.f (unfolded x.f) (walk_jobs now function) in
      let here : IsPart codes members now function x.f x.parts = record {
        before = x.part.before;
        index = x.part.index;
        split = ap (λ (list : Vec ℕ Global). list.items) same ∙ x.part.split;
        found = x.part.found;
        member = x.part.member;
        picked = x.part.picked;
      } in (
        next,
        walks.goes_on offset s next (line_of line) comes.0
            (accepts_there fs members x.parts x.f (walk_jobs old function) offset (line_of line) (walk_jobs now function) s x.has comes.1),
        inr (inside function x.f x.parts here),
      )
  steps_inside (Err (Fault (Broken (named.Listed k) rule))) same fs members offset s x comes =
      let here : IsNamed codes part x.f.listed.name = record { function = function; there = function_there; named = sym x.is.listed.named } in
      (x.f.listed.name, subst (λ (n : ℕ). IsNamed codes n x.f.listed.name) (sym comes.0) here, breaks_there fs members offset s x rule comes.1)
  steps_inside (Err (Fault (Broken (named.Line n) rule))) same fs members offset s x comes = absurd comes
  steps_inside (Err (Fault (Above q))) same fs members offset s x comes = (
    x.f.listed.name,
    walks.stops offset s (line_of line) offset x.f.listed.name (lines.Above q) comes.0
        (rejects_there fs members x.parts x.f (walk_jobs old function) offset (line_of line) offset (lines.Above q) s x.has comes.1),
  )
  steps_inside (Err NoMemory) same fs members offset s x comes = tt

  pub inside_goes : (result : Result (Unit {0}) (Refusal NamedFault)) → IsInPart function old now (line_of line) part result → Goes codes old now (line_of line) index result
  inside_goes result goes = record {
    sound = on_ok_weaker result (kept_inside goes.parts) goes.kept;
    follows = on_ok_weaker result (follows_inside goes.parts) goes.follows;
    step = λ fs members offset are s state.
        let x = last_of codes members old are before part last function function_there s state in
        steps_inside result goes.parts fs members offset s x (goes.step fs x.parts x.f offset x.is);
  }

-- another line that is no log and of a rule that is checked can't be next
pub no_other_line : (line : CodeLine) (jobs : List Job) → IsNext jobs (line_of line) → IsInside line → is_known (line_of line) ≡ true → ((n : ℕ) → line ≡ code.Leaf n → ⊥)
    → ((t : _) → line ≡ code.Case t → ⊥) → ((r : _) → line ≡ code.RestrictBinary r → ⊥) → ((r : _) → line ≡ code.RestrictSource r → ⊥) → ((s : _) → line ≡ code.Split s → ⊥)
    → ((t : _) → line ≡ code.Relation t → ⊥) → IsPlain line → ⊥
no_other_line code.Header jobs next is checked no_leaf no_case no_binary no_source no_split no_relation plain = absurd (cc)
no_other_line (code.Function part) jobs next is checked no_leaf no_case no_binary no_source no_split no_relation plain = absurd (cc)
no_other_line (code.InlineBinary p) jobs next is checked no_leaf no_case no_binary no_source no_split no_relation plain = absurd (cc)
no_other_line (code.InlineSource p) jobs next is checked no_leaf no_case no_binary no_source no_split no_relation plain = absurd (cc)
no_other_line (code.Leaf n) jobs next is checked no_leaf no_case no_binary no_source no_split no_relation plain = no_leaf n refl
no_other_line (code.Case t) jobs next is checked no_leaf no_case no_binary no_source no_split no_relation plain = no_case t refl
no_other_line (code.RestrictBinary r) jobs next is checked no_leaf no_case no_binary no_source no_split no_relation plain = no_binary r refl
no_other_line (code.RestrictSource r) jobs next is checked no_leaf no_case no_binary no_source no_split no_relation plain = no_source r refl
no_other_line (code.Split s) jobs next is checked no_leaf no_case no_binary no_source no_split no_relation plain = no_split s refl
no_other_line (code.Call c) jobs next is checked no_leaf no_case no_binary no_source no_split no_relation plain = absurd (cc)
no_other_line (code.Relation t) jobs next is checked no_leaf no_case no_binary no_source no_split no_relation plain = no_relation t refl
no_other_line (code.Log n) jobs next is checked no_leaf no_case no_binary no_source no_split no_relation plain = absurd (cc)
no_other_line (code.Step k h) jobs next is checked no_leaf no_case no_binary no_source no_split no_relation plain = absurd (cc)
no_other_line code.End jobs next is checked no_leaf no_case no_binary no_source no_split no_relation plain = absurd (cc)

-- ---- the outcome of a line inside a part

comes_named : (p : Part) (offset : ℕ) (before after : List spec.Job) (line : Line) (index : ℕ) (broken : Refusal PartFault) → is_known line ≡ true
    → Comes p offset before after line (Err broken) → ComesAt p offset before after line index (Err (named_fault index broken))
comes_named p offset before after line index (Fault (inner.Broken rule)) is comes = (refl, inl (is, comes))
comes_named p offset before after line index (Fault (inner.Above q)) is comes = (is, comes)
comes_named p offset before after line index NoMemory is comes = tt

module _ (codes : List Listed) (old now : Walk) (line : Line) (index : ℕ) (function : Listed) (there : slice_get codes index ≡ Some function) (same : now.parts ≡ old.parts) where
  for_each : (result : Result (Unit {0}) (Refusal NamedFault)) → IsInPart function old now line index result → GoesInside codes old now index line result
  for_each result goes = λ other also.
      subst (λ (g : Listed). IsInPart g old now line index result) (one_item codes index function other there also) goes

  pub passes_inside : is_known line ≡ true → IsStep function old.bank now.bank old.jobs.items now.jobs.items line (Ok (tt {0})) → Keeps function now
      → AreAfter old.jobs.items line now.jobs.items → GoesInside codes old now index line (Ok (tt {0}))
  passes_inside is step keeps follows =
      for_each (Ok (tt {0})) (record { step = λ fs parts f offset listed. (is, step fs parts f offset listed); kept = keeps; follows = follows; parts = same })

  pub fails_inside : (broken : Refusal PartFault) (answer : Refusal NamedFault) → is_known line ≡ true → answer ≡ named_fault index broken
      → IsStep function old.bank now.bank old.jobs.items now.jobs.items line (Err broken) → GoesInside codes old now index line (Err answer)
  fails_inside broken answer is_so is step = subst (λ (x : Refusal NamedFault). GoesInside codes old now index line (Err x)) (sym is)
      (for_each (Err (named_fault index broken)) (record {
        step = λ fs parts f offset listed.
            comes_named (part_of parts f (unfolded f)) offset (walk_jobs old function) (walk_jobs now function) line index broken is_so (step fs parts f offset listed);
        kept = tt;
        follows = tt;
        parts = same;
      }))

  -- a line of a rule that isn't checked
  pub later_inside : is_known line ≡ false → GoesInside codes old now index line (Err (Fault (Broken (named.Listed index) fault.Later)))
  later_inside none =
      for_each (Err (Fault (Broken (named.Listed index) fault.Later)))
      (record { step = λ fs parts f offset listed. (refl, inr (none, refl)); kept = tt; follows = tt; parts = same })
