-- Lines of a certificate that are accepted show the parts of its functions.
use Rattle.std.proofs.Common.{◌≡◌, ℕ, ◌+◌, List, [], ◌∷◌, length, Some, refl}
use Rattle.std.specs.Prelude.{All, Contains}
use Rattle.std.proofs.lemmas.List.Elements.{All-head, All-tail}
use Rattle.graph_core_spec.specs.Graph.{Graph}
use Rattle.graph_inline_spec.specs.Inlined.{inlined}
use Rattle.proof_tree_spec.specs.Proofs.{BinaryPoint}
use Rattle.proof_tree_spec.specs.declared.Place.TheVariants as place
use Rattle.sim_rules_spec.specs.Sides.{graph_at}
use Rattle.cert_text_spec.specs.Lines as line
use Rattle.cert_text_spec.specs.Lines.{Line, line_text}
use Rattle.cert_check_lines_spec.specs.Jobs.{AtEntry, Prove}
use Rattle.cert_check_lines_spec.specs.Shown.{IsShown}
use Rattle.cert_check_lines_spec.specs.Parts.{CodeFunction, SourceFunction, Functions, Member, Unfolded, unfolded, IsCodeCall, IsSourceCall, with_code, with_source, part_of, State, Between, Unfolding, Inside, HasParts, at_start, at_close, Accepts, header, function, inline_code, inline_source, first, next, last, AreAccepted, none, some, Unfolds, as_it_is, code_inlined, source_inlined, AreShown, no_part, one_more, IsPlainLine, AcceptedIsShown, PlainIsShown}
use Rattle.cert_check_lines_spec.proofs.Showing.{JobsShown, before, nothing_left, one_proof}

module _ (fs : Functions) (members : List Member) (Way : Member → Unfolded → Type 0) (Allowed : Line → Type 0) (starts : (f : Member) → Way f (unfolded f))
    (codes : (f : Member) (u : Unfolded) (point : BinaryPoint) (node : ℕ) (callee : CodeFunction) (new : Graph) → Allowed (line.InlineBinary point) → Way f u
    → IsCodeCall fs u point node callee → inlined (graph_at u.frame.binary) node callee.graph callee.own u.instance ≡ Some new → Way f (with_code f u point callee new))
    (sources : (f : Member) (u : Unfolded) (path : List ℕ) (call node : ℕ) (callee : SourceFunction) (new : Graph)
    → Allowed (line.InlineSource (record { path = path; place = place.Call call })) → Way f u → IsSourceCall fs u path call node callee
    → inlined (graph_at u.frame.source) node callee.graph callee.own u.instance ≡ Some new → Way f (with_source f u path call callee new)) where
  -- what is known in a state: the parts so far are shown, and the open one will be, where what is expected is
  Known : State → Type 0
  Known (Between parts) = AreShown fs members Way parts
  Known (Unfolding parts f u) = AreShown fs members Way parts × (Contains members f × Way f u)
  Known (Inside parts f u jobs) =
      AreShown fs members Way parts × ((Contains members f × Way f u) × (JobsShown (part_of parts f u) jobs → IsShown (part_of parts f u) AtEntry u.frame))

  parts_shown : (s : State) (parts : List Member) → HasParts s parts → Known s → AreShown fs members Way parts
  unfolding Known
  parts_shown _ _ (at_start parts) h = h
  parts_shown _ _ (at_close parts f u) h = one_more parts f u h.0 h.1.0.0 h.1.0.1 (h.1.1 (nothing_left (part_of parts f u)))

  one_line : (at : ℕ) (s t : State) (one : Line) → Accepts fs members at s one t → Allowed one → Known s → Known t
  unfolding Known
  one_line at _ _ _ header allowed h = h
  one_line at _ _ _ (function s parts f has free) allowed h = (parts_shown s parts has h, (free.is_listed, starts f))
  one_line at _ _ _ (inline_code parts f u point node callee new calls is small) allowed h =
      (h.0, (h.1.0, codes f u point node callee new allowed h.1.1 calls is))
  one_line at _ _ _ (inline_source parts f u path call node callee new calls is small) allowed h =
      (h.0, (h.1.0, sources f u path call node callee new allowed h.1.1 calls is))
  one_line at _ _ _ (first parts f u one jobs passes) allowed h =
      (h.0, (h.1, λ shown. one_proof (part_of parts f u) AtEntry u.frame (before (part_of parts f u) at (Prove AtEntry u.frame ∷ []) jobs one passes shown)))
  one_line at _ _ _ (next parts f u jobs more one passes) allowed h = (h.0, (h.1.0, λ shown. h.1.1 (before (part_of parts f u) at jobs more one passes shown)))
  one_line at _ _ _ (last s parts has none_lacks) allowed h = parts_shown s parts has h

  all_lines : (at : ℕ) (s t : State) (lines : List Line) → AreAccepted fs members at s lines t → All Allowed lines → Known s → Known t
  all_lines at _ _ _ (none _ s) allowed h = h
  all_lines at _ _ _ (some _ s middle t one lines accepts rest) allowed h =
      all_lines (at + length (line_text one)) middle t lines rest (All-tail Allowed one lines allowed) (one_line at s middle one accepts (All-head Allowed one lines allowed) h)

  accepted : (lines : List Line) (t : State) (parts : List Member) → AreAccepted fs members 0 (Between []) lines t → All Allowed lines → HasParts t parts → AreShown fs members Way parts
  unfolding Known
  accepted lines t parts are allowed has = parts_shown t parts has (all_lines 0 (Between []) t lines are allowed no_part)

pub accepted_is_shown : AcceptedIsShown
accepted_is_shown fs members lines t parts are has =
    accepted fs members (Unfolds fs) (λ one. Unit {0}) (λ f. as_it_is)
    (λ f u point node callee new allowed way calls is. code_inlined u point node callee new way calls is)
    (λ f u path call node callee new allowed way calls is. source_inlined u path call node callee new way calls is)
    lines t parts are (λ k d less. tt) has

pub plain_is_shown : PlainIsShown
plain_is_shown fs members lines t parts are plain has =
    accepted fs members (λ f u. u ≡ unfolded f) IsPlainLine (λ f. refl)
    (λ f u point node callee new allowed way calls is. absurd allowed)
    (λ f u path call node callee new allowed way calls is. absurd allowed)
    lines t parts are plain has
