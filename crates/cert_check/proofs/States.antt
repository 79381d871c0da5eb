-- The state of the definition inside a part, and what a line does in it.
use Rattle.std.proofs.Common.{◌≡◌, ◌∙◌, ℕ, ◌<◌, List, [], ◌∷◌, ◌++◌, length, Some, sym, ap, subst, arith, length-append}
use Rattle.std.specs.Prelude.{slice_get}
use Rattle.std.proofs.lemmas.List.{same_from_push}
use Rattle.cert_text_spec.specs.Lines.{Line}
use Rattle.cert_check_lines_spec.specs.Jobs as spec
use Rattle.cert_check_lines_spec.specs.Jobs.{AtEntry}
use Rattle.cert_check_lines_spec.specs.LineRules as lines
use Rattle.cert_check_lines_spec.specs.Parts as rules
use Rattle.cert_check_lines_spec.specs.Parts.{Functions, Member, State, Unfolding, Inside, part_of, unfolded}
use Rattle.cert_check_lines_spec.specs.Walk.{IsInPart, before_proof, in_proof}
use Rattle.cert_check_frames.specs.declared.listed.Listed.{Listed}
use Rattle.cert_check_frames.proofs.Indexed.{one_item}
use Rattle.cert_check.specs.declared.walk.Walk.{Walk}
use Rattle.cert_check.specs.Members.{AreMembers, IsMemberOf}
use Rattle.cert_check.specs.Walks.{IsPart, IsState, between, unfolding_part, inside, walk_jobs}
use Rattle.cert_check.proofs.Picked.{is_member}

pub no_item : {X : Type 0} (xs before : List X) (x : X) → xs ≡ [] → xs ≡ before ++ x ∷ [] → ⊥
no_item xs before x empty is = absurd (omega (arith, ap length empty, ap length is, length-append before (x ∷ [])))

pub some_item : {X : Type 0} (xs before : List X) (x : X) → xs ≡ before ++ x ∷ [] → 0 < length xs
some_item xs before x is = omega (arith, ap length is, length-append before (x ∷ []))

-- ---- a state inside a part

-- these are its jobs, after these parts; where calls may still be inlined, they are the proof of the function's frame
pub data HasJobs (parts : List Member) (f : Member) (jobs : List spec.Job) : State → Type 0 where
  before_lines : jobs ≡ spec.Prove AtEntry f.listed.frame ∷ [] → HasJobs parts f jobs (Unfolding parts f (unfolded f))
  after_lines : HasJobs parts f jobs (Inside parts f (unfolded f) jobs)

module _ (fs : Functions) (members parts : List Member) (f : Member) (jobs : List spec.Job) (offset : ℕ) (line : Line) where
  pub accepts_there : (more : List spec.Job) (s : State) → HasJobs parts f jobs s → lines.Passes (part_of parts f (unfolded f)) offset jobs line more
      → rules.Accepts fs members offset s line (Inside parts f (unfolded f) more)
  accepts_there more _ (before_lines are) passes =
      rules.first parts f (unfolded f) line more (subst (λ (l : List spec.Job). lines.Passes (part_of parts f (unfolded f)) offset l line more) are passes)
  accepts_there more _ after_lines passes = rules.next parts f (unfolded f) jobs more line passes

  pub rejects_there : (at : ℕ) (wrong : lines.Fault) (s : State) → HasJobs parts f jobs s → lines.Fails (part_of parts f (unfolded f)) offset jobs line at wrong
      → rules.Rejects fs members offset s line at f.listed.name wrong
  rejects_there at wrong _ (before_lines are) fails =
      rules.first_wrong parts f (unfolded f) line at wrong (subst (λ (l : List spec.Job). lines.Fails (part_of parts f (unfolded f)) offset l line at wrong) are fails)
  rejects_there at wrong _ after_lines fails = rules.next_wrong parts f (unfolded f) jobs line at wrong fails

pub begun_there : (parts : List Member) (f : Member) (jobs : List spec.Job) (s : State) → HasJobs parts f jobs s → IsInPart s f
begun_there parts f jobs _ (before_lines are) = before_proof parts f (unfolded f)
begun_there parts f jobs _ after_lines = in_proof parts f (unfolded f) jobs

-- ---- the part that has begun last

-- the state is in the part of the listed function
pub record IsLast (codes : List Listed) (members : List Member) (walk : Walk) (function : Listed) (s : State) : Type 0 where
  pub f : Member
  pub parts : List Member
  pub part : IsPart codes members walk function f parts
  pub is : IsMemberOf function f
  pub has : HasJobs parts f (walk_jobs walk function) s

module _ (codes : List Listed) (members : List Member) (walk : Walk) (are : AreMembers codes members) (before : List ℕ) (index : ℕ) (last : walk.parts.items ≡ before ++ index ∷ [])
    (function : Listed) (there : slice_get codes index ≡ Some function) where
  -- the part's function is the one of the last index
  same_function : (found : Listed) (f : Member) (parts : List Member) → IsPart codes members walk found f parts → found ≡ function
  same_function found f parts part =
      let ends_so = same_from_push before part.before index part.index (sym last ∙ part.split) in
      one_item codes part.index found function part.found (ap (slice_get codes) (sym ends_so.1) ∙ there)

  of_part : (found : Listed) (f : Member) (parts : List Member) (s : State) → IsPart codes members walk found f parts → HasJobs parts f (walk_jobs walk found) s
      → IsLast codes members walk function s
  of_part found f parts s part has =
      let same = same_function found f parts part in
      subst (λ (g : Listed). IsLast codes members walk g s) same
      (record { f = f; parts = parts; part = part; is = is_member codes members are part.index found f part.found part.member; has = has })

  pub last_of : (s : State) → IsState codes members walk s → IsLast codes members walk function s
  last_of _ (between empty) = absurd (no_item walk.parts.items before index empty last)
  last_of _ (unfolding_part found f parts part jobs) = of_part found f parts (Unfolding parts f (unfolded f)) part (before_lines jobs)
  last_of _ (inside found f parts part) = of_part found f parts (Inside parts f (unfolded f) (walk_jobs walk found)) part after_lines
