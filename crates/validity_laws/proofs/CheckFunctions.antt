-- A function whose frame has a proof by Leaf and Case, each obligation of which is closed, is proved, and valid.
use Rattle.std.proofs.Common.{◌≡◌, ◌∙◌, ℕ, ◌^◌, ◌<◌, ◌≤◌, List, [], ◌∷◌, get_or, refl, sym, ap, subst, arith}
use Rattle.std.specs.Prelude.{All}
use Rattle.std.proofs.lemmas.List.Elements.{All-nil, All-cons, All-append}
use Rattle.elf_read_spec.proofs.Runs.{runs_are_fixed, runs_have_bytes}
use Rattle.term_core_spec.specs.declared.Family.{Family}
use Rattle.term_core_spec.specs.declared.Family.TheVariants as family
use Rattle.term_core_spec.specs.declared.Variable.{Variable}
use Rattle.term_core_spec.specs.declared.Sort.{Sort}
use Rattle.term_core_spec.specs.Term.{Term, not_term}
use Rattle.graph_core_spec.specs.TransitionSystem.{AreCounted}
use Rattle.graph_core_spec.specs.declared.Mark.{Mark}
use Rattle.proof_tree_spec.specs.Scope.{Setting, InFamily, IsLine}
use Rattle.proof_tree_spec.specs.Frames.{Start, Goal, Frame, with_premise}
use Rattle.sim_rules_spec.specs.Rules.{AreOfLeaf, AreTrueWith}
use Rattle.agreement_laws.specs.EntryFrame.{Pair, entry_frame, entry_opening, scope_of}
use Rattle.agreement_laws.specs.Statements.{IsPair}
use Rattle.agreement_laws.specs.Callers.{own_base, frame_in}
use Rattle.validity_laws.specs.Inlined.{IsInlined, as_it_is}
use Rattle.validity_laws.proofs.PlainLines.{own_words}
use Rattle.agreement_laws.proofs.Pairs.{runs_are}
use Rattle.validity_laws.specs.Derivation.{Function, pair_for, AtEntry, no_zone, stated, IsProved, AreSides, IsFunction, IsProvedFunction, none, one_more}
use Rattle.validity_laws.specs.Derivation as derivation
use Rattle.validity_laws.proofs.Functions.{is_pair, functions_valid}
use Rattle.cert_check_lines_spec.specs.LineRules.{with_test}
use Rattle.validity_laws.specs.Closed.{IsClosedGoal, IsClosed, leaf, case}
use Rattle.validity_laws.specs.CheckStatements.{listed_of, IsFile, ClosedIsValid}
use Rattle.validity_laws.proofs.Good.{IsPlain, IsTest, AreTests, not_good}
use Rattle.validity_laws.proofs.Graphs.{obligations_good, entry_good}
use Rattle.validity_laws.proofs.Validity.{goal_true}

-- ---- lines in scope

abbrev variable : Family → (index instance : ℕ) → Sort → Variable
variable f i n t = record { family = f; index = i; instance = n; sort = t }

plain_in : (s : Setting) (path : List ℕ) (f : Family) (i n : ℕ) (t : Sort) → InFamily s path f (variable f i n t) → IsPlain (variable f i n t)
plain_in s path family.SourceMemory i n t is same =
    ap (λ (j : ℕ). variable family.SourceMemory j n t) is.only
    ∙ (ap (λ (k : ℕ). variable family.SourceMemory 0 k t) is.of_function ∙ ap (λ (u : Sort). variable family.SourceMemory 0 0 u) is.memory)
plain_in s path f i n t is same = absurd (cc)

pub line_good : (s : Setting) (path : List ℕ) (line : Term) → IsLine s path line → IsTest line
line_good s path line is = record { sorted = is.truth; plain = λ v o. plain_in s path v.family v.index v.instance v.sort (is.visible v o) }

-- ---- one function

module _ (q : Pair) (g : Function) (sides : AreSides q) (file : IsFile q) (function : IsFunction q g) (small : g.stack < 2 ^ 32) where
  abbrev p : Pair
  p = pair_for q g

  is : IsPair p
  is = is_pair q g sides function

  -- nothing is inlined
  own_inlined : IsInlined p (own_base p)
  own_inlined = record { binary = as_it_is; source = as_it_is; setting = own_words p.body }

  -- the obligations of a Leaf that are closed are true
  obligations_true : (start : Start) (terms : List Term) → AreTests start.premises → AreOfLeaf (stated p) (entry_opening p no_zone) (frame_in p (own_base p) start [] []) terms
      → All (IsClosedGoal p.numbering.runs) terms → AreTrueWith (stated p) terms
  obligations_true start terms premises are closed i d lt =
      goal_true (stated p) p.numbering.runs (runs_have_bytes p.image p.numbering.runs file.bytes (runs_are p is)) (runs_are_fixed p.image p.numbering.runs (runs_are p is))
      (get_or terms i d)
      (obligations_good q g sides file function small (own_base p) own_inlined AtEntry start [] terms premises (All-nil (λ (h : Goal). AreTests h.relation)) are i d lt) (closed i d lt)

  none_counted : (bounds : List Mark) → bounds ≡ [] → AreCounted bounds
  none_counted bounds none_there = subst AreCounted (sym none_there) (All-nil (λ (m : Mark). 1 ≤ m.count))

  module _ (earlier : List Function) (firsts : List (List (ℕ × ℕ))) where
    closed_proved : (start : Start) (frame : Frame) → IsClosed (listed_of q firsts g) frame → frame ≡ frame_in p (own_base p) start [] [] → AreTests start.premises → start.binary_bounds ≡ []
        → start.source_bounds ≡ [] → IsProved p (own_base p) earlier AtEntry start [] []
    closed_proved start _ (leaf frame terms are closed) same premises no_binary no_source =
        let here : AreOfLeaf (stated p) (entry_opening p no_zone) (frame_in p (own_base p) start [] []) terms =
        subst (λ (f : Frame). AreOfLeaf (stated p) (entry_opening p no_zone) f terms) same are in
        derivation.leaf AtEntry start [] [] terms (record {
          binary_goals = All-nil (λ (m : Mark). 1 ≤ m.count);
          source_goals = All-nil (λ (m : Mark). 1 ≤ m.count);
          binary_bounds = none_counted start.binary_bounds no_binary;
          source_bounds = none_counted start.source_bounds no_source;
        }) here (obligations_true start terms premises here closed)
    closed_proved start _ (case frame test line holding failing) same premises no_binary no_source =
        let here : IsLine (scope_of p.body) start.path test = subst (λ (f : Frame). IsLine f.setting f.start.path test) same line in
        let good = line_good (scope_of p.body) start.path test here in
        derivation.case AtEntry start [] [] test here
        (closed_proved (with_premise start test) (with_test frame test) holding (ap (λ (f : Frame). with_test f test) same)
        (All-append IsTest start.premises (test ∷ []) premises (All-cons IsTest test [] good (All-nil IsTest))) no_binary no_source)
        (closed_proved (with_premise start (not_term test)) (with_test frame (not_term test)) failing (ap (λ (f : Frame). with_test f (not_term test)) same)
        (All-append IsTest start.premises (not_term test ∷ []) premises (All-cons IsTest (not_term test) [] (not_good test good) (All-nil IsTest))) no_binary no_source)

    function_proved : IsClosed (listed_of q firsts g) (entry_frame p) → IsProvedFunction q earlier g
    function_proved closed = record {
      function = function;
      small = small;
      base = own_base p;
      inlined = own_inlined;
      proved = closed_proved (entry_frame p).start (entry_frame p) closed refl (entry_good q g sides file function small) refl refl;
    }

-- ---- a function alone

pub closed_is_valid : ClosedIsValid
closed_is_valid q firsts g sides file function small closed named stack =
    functions_valid q (g ∷ []) sides (one_more [] g none (function_proved q g sides file function small [] firsts closed)) g (0, omega arith, refl) named stack
