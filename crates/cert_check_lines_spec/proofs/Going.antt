-- A checker that goes on after lines has accepted each of them.
use Rattle.std.proofs.Common.{◌≡◌, ℕ, ◌+◌, Bool, true, List, [], length, refl}
use Rattle.std.specs.Prelude.{All}
use Rattle.std.proofs.lemmas.List.Elements.{All-nil, All-cons}
use Rattle.cert_text_spec.specs.Lines.{Line, line_text}
use Rattle.cert_check_lines_spec.specs.LineRules.{Fault}
use Rattle.cert_check_lines_spec.specs.Parts.{Functions, Member, State, Between, AreAccepted, none, some}
use Rattle.cert_check_lines_spec.specs.Walk.{Progress, Going, Stopped, goes_on, stops, unknown, stays, TakesAll, no_line, one_line, GoingIsAccepted}

module _ (fs : Functions) (members : List Member) (is_known : Line → Bool) where
  stopped : (offset : ℕ) (name : List ℕ) (wrong : Fault) (lines : List Line) (q : Progress) → TakesAll fs members is_known (Stopped offset name wrong) lines q
      → q ≡ Stopped offset name wrong
  stopped offset name wrong _ _ (no_line _) = refl
  stopped offset name wrong _ q (one_line _ _ _ one lines (stays _ _ _ _) rest) = stopped offset name wrong lines q rest

  going : (at : ℕ) (s : State) (lines : List Line) (end : ℕ) (final : State) → TakesAll fs members is_known (Going at s) lines (Going end final)
      → AreAccepted fs members at s lines final × All (λ (one : Line). is_known one ≡ true) lines
  going at s _ _ _ (no_line _) = (none at s, All-nil (λ (l : Line). is_known l ≡ true))
  going at s _ end final (one_line _ _ _ one lines (goes_on _ _ middle _ known accepts) rest) =
      let more = going (at + length (line_text one)) middle lines end final rest in
      (some at s middle final one lines accepts more.0, All-cons (λ (l : Line). is_known l ≡ true) one lines known more.1)
  going at s _ end final (one_line _ _ _ one lines (stops _ _ _ offset name wrong known rejects) rest) =
      let e = stopped offset name wrong lines (Going end final) rest in cc
  going at s _ end final (one_line _ _ _ one lines (unknown _ _ _ f part new) rest) = let e = stopped _ _ _ lines (Going end final) rest in cc

pub going_is_accepted : GoingIsAccepted
going_is_accepted fs members is_known lines at final takes = going fs members is_known 0 (Between []) lines at final takes
