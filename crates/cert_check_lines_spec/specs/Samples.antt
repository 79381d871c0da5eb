-- Certificates of one listed function, `f`, with their first faults.
use Rattle.std.specs.Prelude.{◌≡◌, ℕ, ◌+◌, List, [], ◌∷◌, length, codes}
use Rattle.proof_tree_spec.specs.Proofs.{BinaryPoint}
use Rattle.cert_text_spec.specs.Lines.{Line, Header, Function, RestrictBinary, End, line_text}
use Rattle.cert_check_spec.specs.declared.RuleWord.TheVariants as fault
use Rattle.cert_check_spec.specs.Verdict.{Listed}
use Rattle.cert_check_lines_spec.specs.Sites.{Part, IsBinaryPoint}
use Rattle.cert_check_lines_spec.specs.Parts.{unfolded, part_of}
use Rattle.cert_check_lines_spec.specs.Members.{member_of}
use Rattle.cert_check_lines_spec.specs.Known.{IsFault}

-- a part of another one, at its line
abbrev pub StrangerIsRefused : Type 0
StrangerIsRefused = (f : Listed) → f.name ≡ codes "f" → (rest : List Line)
    → IsFault (f ∷ []) (Header ∷ Function (codes "h") 0 ∷ rest) 10 (codes "h") fault.Stranger

-- a part with another stack, at its line
abbrev pub OtherStackIsRefused : Type 0
OtherStackIsRefused = (f : Listed) → f.name ≡ codes "f" → f.stack ≡ 0 → (rest : List Line)
    → IsFault (f ∷ []) (Header ∷ Function (codes "f") 16 ∷ rest) 10 (codes "f") fault.Stack

-- no part, at the end
abbrev pub MissingIsRefused : Type 0
MissingIsRefused = (f : Listed) → f.name ≡ codes "f" → IsFault (f ∷ []) (Header ∷ End ∷ []) 10 (codes "f") fault.Missing

-- where the line after the one at which the first part begins is, 29
abbrev pub third : ℕ
third = 10 + length (line_text (Function (codes "f") 0))

-- what the lines of the first part speak of
abbrev pub first_part : Listed → Part
first_part f = part_of [] (member_of f) (unfolded (member_of f))

-- a restriction at an address of no instruction
abbrev pub NoPointIsRefused : Type 0
NoPointIsRefused = (f : Listed) → f.name ≡ codes "f" → f.stack ≡ 0 → f.firsts ≡ [] → (count : ℕ) (rest : List Line)
    → IsFault (f ∷ []) (Header ∷ Function (codes "f") 0 ∷ RestrictBinary (record { path = []; address = 65536 }) count ∷ rest) third (codes "f") fault.Point

-- a restriction to no arrival, at a point of the code
abbrev pub NoCountIsRefused : Type 0
NoCountIsRefused = (f : Listed) → f.name ≡ codes "f" → f.stack ≡ 0 → (point : BinaryPoint) (node : ℕ) → IsBinaryPoint (first_part f) f.frame point node → (rest : List Line)
    → IsFault (f ∷ []) (Header ∷ Function (codes "f") 0 ∷ RestrictBinary point 0 ∷ rest) third (codes "f") fault.Count
