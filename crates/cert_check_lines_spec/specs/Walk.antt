-- What a checker comes to that is given the lines of a certificate one after the other, of which it knows some rules.
use Rattle.std.specs.Prelude.{◌≡◌, ℕ, ◌+◌, List, [], ◌∷◌, length, Bool, true, false, All}
use Rattle.cert_text_spec.specs.Lines.{Line, line_text}
use Rattle.cert_check_spec.specs.declared.RuleWord.TheVariants as fault
use Rattle.cert_check_lines_spec.specs.Jobs.{Job}
use Rattle.cert_check_lines_spec.specs.LineRules.{Fault, Breaks}
use Rattle.cert_check_lines_spec.specs.Parts.{Functions, Member, Unfolded, State, Between, Unfolding, Inside, Accepts, Rejects, AreAccepted}

-- it goes on, before the line that begins at the offset; or it has stopped: this is wrong first, at the line that begins at
-- the offset, in the part of a function of this name
pub data Progress : Type 0 where
  Going : (at : ℕ) → State → Progress
  Stopped : (offset : ℕ) → (name : List ℕ) → Fault → Progress

-- before any line
abbrev pub before_all : Progress
before_all = Going 0 (Between [])

-- the part of this function has begun
pub data IsInPart : State → Member → Type 0 where
  before_proof : (parts : List Member) (f : Member) (u : Unfolded) → IsInPart (Unfolding parts f u) f
  in_proof : (parts : List Member) (f : Member) (u : Unfolded) (jobs : List Job) → IsInPart (Inside parts f u jobs) f

module _ (fs : Functions) (members : List Member) (is_known : Line → Bool) where
  -- a line is given. What has stopped stays so
  pub data Takes : Progress → Line → Progress → Type 0 where
    goes_on : (at : ℕ) (s middle : State) (one : Line) → is_known one ≡ true → Accepts fs members at s one middle → Takes (Going at s) one (Going (at + length (line_text one)) middle)
    stops : (at : ℕ) (s : State) (one : Line) (offset : ℕ) (name : List ℕ) (wrong : Fault) → is_known one ≡ true → Rejects fs members at s one offset name wrong
        → Takes (Going at s) one (Stopped offset name wrong)
    unknown : (at : ℕ) (s : State) (one : Line) (f : Member) → IsInPart s f → is_known one ≡ false → Takes (Going at s) one (Stopped at f.listed.name (Breaks fault.Later))
    stays : (offset : ℕ) (name : List ℕ) (wrong : Fault) (one : Line) → Takes (Stopped offset name wrong) one (Stopped offset name wrong)

  -- lines are, one after the other
  pub data TakesAll : Progress → List Line → Progress → Type 0 where
    no_line : (p : Progress) → TakesAll p [] p
    one_line : (p middle q : Progress) (one : Line) (lines : List Line) → Takes p one middle → TakesAll middle lines q → TakesAll p (one ∷ lines) q

  -- no line of a certificate, whose last is `end`, breaks a rule
  abbrev pub IsProof : List Line → Type 0
  IsProof lines = (at : ℕ) × (parts : List Member) × TakesAll before_all lines (Going at (Between parts))

  -- the line at the offset is the first that breaks one
  abbrev pub IsFault : List Line → (offset : ℕ) → (name : List ℕ) → Fault → Type 0
  IsFault lines offset name wrong = TakesAll before_all lines (Stopped offset name wrong)

-- what goes on after lines has accepted them, each of a rule that it knows
abbrev pub GoingIsAccepted : Type 0
GoingIsAccepted = (fs : Functions) (members : List Member) (is_known : Line → Bool) (lines : List Line) (at : ℕ) (final : State)
    → TakesAll fs members is_known before_all lines (Going at final) → AreAccepted fs members 0 (Between []) lines final × All (λ (one : Line). is_known one ≡ true) lines
