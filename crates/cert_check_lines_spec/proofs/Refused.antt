-- The first faults of certificates of one listed function.
use Rattle.std.specs.Prelude.{slice_index_or, nat_eq, Some}
use Rattle.std.specs.Map.{lookup}
use Rattle.std.proofs.Common.{◌≡◌, ◌∙◌, ℕ, ◌+◌, ◌<◌, zero, suc, true, List, [], ◌∷◌, length, get_or, codes, refl, sym, ap, subst, arith}
use Rattle.std.proofs.lemmas.List.Elements.{All-nil}
use Rattle.proof_tree_spec.specs.Proofs.{BinaryPoint}
use Rattle.cert_text_spec.specs.Lines.{Line, Header, Function, RestrictBinary, End, line_text}
use Rattle.cert_check_spec.specs.declared.RuleWord.{RuleWord}
use Rattle.cert_check_spec.specs.declared.RuleWord.TheVariants as fault
use Rattle.cert_check_spec.specs.Verdict.{Listed}
use Rattle.cert_check_lines_spec.specs.Sites.{CodeBody, IsBinaryNode}
use Rattle.cert_check_lines_spec.specs.Jobs.{AtEntry, Prove}
use Rattle.cert_check_lines_spec.specs.LineRules.{Fault, Breaks, Fails, binary_point, binary_count}
use Rattle.cert_check_lines_spec.specs.Parts.{Functions, Member, unfolded, Between, Unfolding, at_start, IsFree, header, function, unlisted, other_stack, first_wrong, lacking, Rejects}
use Rattle.cert_check_lines_spec.specs.Walk.{Progress, Going, Stopped, before_all, goes_on, stops, stays, TakesAll, no_line, one_line}
use Rattle.cert_check_lines_spec.specs.Members.{member_of, members_of}
use Rattle.cert_check_lines_spec.specs.Known.{is_known, IsFault}
use Rattle.cert_check_lines_spec.specs.Samples.{StrangerIsRefused, OtherStackIsRefused, MissingIsRefused, third, first_part, NoPointIsRefused, NoCountIsRefused}

only : {X : Type 0} (f g : X) (k : ℕ) → k < length (f ∷ []) → slice_index_or (f ∷ []) k g ≡ g → f ≡ g
only f g zero l e = e
only f g (suc k) l e = absurd (omega arith)

module _ (fs : Functions) (members : List Member) where
  stay : (offset : ℕ) (name : List ℕ) (wrong : Fault) (lines : List Line) → TakesAll fs members is_known (Stopped offset name wrong) lines (Stopped offset name wrong)
  stay offset name wrong [] = no_line (Stopped offset name wrong)
  stay offset name wrong (one ∷ lines) =
      one_line (Stopped offset name wrong) (Stopped offset name wrong) (Stopped offset name wrong) one lines (stays offset name wrong one) (stay offset name wrong lines)

  -- after the first line
  at_second : (line : Line) (rest : List Line) (name : List ℕ) (wrong : Fault) → is_known line ≡ true → Rejects fs members 10 (Between []) line 10 name wrong
      → TakesAll fs members is_known before_all (Header ∷ line ∷ rest) (Stopped 10 name wrong)
  at_second line rest name wrong known rejects =
      let stop = Stopped 10 name wrong in
      one_line before_all (Going 10 (Between [])) stop Header (line ∷ rest) (goes_on 0 (Between []) (Between []) Header refl header)
      (one_line (Going 10 (Between [])) stop stop line rest (stops 10 (Between []) line 10 name wrong known rejects) (stay 10 name wrong rest))

pub refused_stranger : StrangerIsRefused
refused_stranger f named rest = λ fs.
    at_second fs (members_of (f ∷ [])) (Function (codes "h") 0) rest (codes "h") (Breaks fault.Stranger) refl (unlisted (Between []) [] (codes "h") 0 (at_start []) none)
  where
    none : (g : Member) → IsFree (members_of (f ∷ [])) [] (codes "h") g → ⊥
    none g i =
        let is : member_of f ≡ g = only (member_of f) g i.is_listed.0 i.is_listed.1 i.is_listed.2 in
        let e : codes "f" ≡ codes "h" = sym named ∙ ap (λ (x : Member). x.listed.name) is ∙ i.named in
        omega (arith, ap (λ name. get_or name 0 0) e)

pub refused_stack : OtherStackIsRefused
refused_stack f named none rest = λ fs.
    let free : IsFree (members_of (f ∷ [])) [] (codes "f") (member_of f) = record { is_listed = (0, omega arith, refl); named = named; free = All-nil _ } in
    at_second fs (members_of (f ∷ [])) (Function (codes "f") 16) rest (codes "f") (Breaks fault.Stack) refl
    (other_stack (Between []) [] (codes "f") 16 (member_of f) (at_start []) free (λ e. omega (arith, e, none)))

pub refused_missing : MissingIsRefused
refused_missing f named = λ fs.
    subst (λ name. TakesAll fs (members_of (f ∷ [])) is_known before_all (Header ∷ End ∷ []) (Stopped 10 name (Breaks fault.Missing))) named
    (at_second fs (members_of (f ∷ [])) End [] f.name (Breaks fault.Missing) refl
    (lacking (Between []) [] f (at_start []) (record { before = []; after = []; cut = refl; none = All-nil _; others = All-nil _ })))

-- ---- in the first part

module _ (f : Listed) (fs : Functions) where
  abbrev there : ℕ → Progress
  there n = Going n (Between [])

  -- after the line at which its part begins
  at_third : (line : Line) (rest : List Line) (wrong : Fault) → is_known line ≡ true
      → Fails (first_part f) (10 + length (line_text (Function f.name f.stack))) (Prove AtEntry f.frame ∷ []) line (10 + length (line_text (Function f.name f.stack))) wrong
      → TakesAll fs (members_of (f ∷ [])) is_known before_all (Header ∷ Function f.name f.stack ∷ line ∷ rest) (Stopped (10 + length (line_text (Function f.name f.stack))) f.name wrong)
  at_third line rest wrong known fails =
      let place = 10 + length (line_text (Function f.name f.stack)) in
      let stop = Stopped place f.name wrong in
      let part = Unfolding [] (member_of f) (unfolded (member_of f)) in
      let free : IsFree (members_of (f ∷ [])) [] f.name (member_of f) = record { is_listed = (0, omega arith, refl); named = refl; free = All-nil _ } in
      one_line before_all (there 10) stop Header (Function f.name f.stack ∷ line ∷ rest) (goes_on 0 (Between []) (Between []) Header refl header)
      (one_line (there 10) (Going place part) stop (Function f.name f.stack) (line ∷ rest)
      (goes_on 10 (Between []) part (Function f.name f.stack) refl (function (Between []) [] (member_of f) (at_start []) free))
      (one_line (Going place part) stop stop line rest (stops place part line place f.name wrong known (first_wrong [] (member_of f) (unfolded (member_of f)) line place wrong fails))
      (stay fs (members_of (f ∷ [])) place f.name wrong rest)))

-- where the name and the stack are these
at_named : (f : Listed) (named : f.name ≡ codes "f") (none : f.stack ≡ 0) (line : Line) (rest : List Line) (word : RuleWord)
    → ((fs : Functions) → TakesAll fs (members_of (f ∷ [])) is_known before_all (Header ∷ Function f.name f.stack ∷ line ∷ rest)
    (Stopped (10 + length (line_text (Function f.name f.stack))) f.name (Breaks word)))
    → IsFault (f ∷ []) (Header ∷ Function (codes "f") 0 ∷ line ∷ rest) third (codes "f") word
at_named f named none line rest word takes = λ fs.
    subst (λ (stack : ℕ). TakesAll fs (members_of (f ∷ [])) is_known before_all (Header ∷ Function (codes "f") stack ∷ line ∷ rest)
    (Stopped (10 + length (line_text (Function (codes "f") stack))) (codes "f") (Breaks word))) none
    (subst (λ (name : List ℕ). TakesAll fs (members_of (f ∷ [])) is_known before_all (Header ∷ Function name f.stack ∷ line ∷ rest)
    (Stopped (10 + length (line_text (Function name f.stack))) name (Breaks word))) named (takes fs))

pub refused_point : NoPointIsRefused
refused_point f named none nowhere count rest =
    at_named f named none (RestrictBinary point count) rest fault.Point
    (λ fs. at_third f fs (RestrictBinary point count) rest (Breaks fault.Point) refl (binary_point AtEntry f.frame [] point count (λ node is. no_first is.0)))
  where
    point : BinaryPoint
    point = record { path = []; address = 65536 }

    body : CodeBody
    body = record { path = []; offset = 0; first = (member_of f).code.first; call = (member_of f).code.call }

    nothing : (n number : ℕ) → lookup (nat_eq 65536) (get_or f.firsts n []) ≡ Some number → ⊥
    nothing n number e = absurd (let bad : lookup (nat_eq 65536) (get_or [] n []) ≡ Some number = subst (λ (l : List (List (ℕ × ℕ))). lookup (nat_eq 65536) (get_or l n []) ≡ Some number) nowhere e in cc)

    no_first : {node : ℕ} → IsBinaryNode (first_part f) point node → ⊥
    no_first is =
        let same : body ≡ is.body = only body is.body is.is_body.0 is.is_body.1 is.is_body.2 in
        nothing f.frame.binary.outermost is.number (subst (λ (b : CodeBody). b.first 65536 ≡ Some is.number) (sym same) is.there)

pub refused_count : NoCountIsRefused
refused_count f named none point node is rest =
    at_named f named none (RestrictBinary point 0) rest fault.Count
    (λ fs. at_third f fs (RestrictBinary point 0) rest (Breaks fault.Count) refl (binary_count AtEntry f.frame [] point node is))
