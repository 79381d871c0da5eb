-- Lines of the program as those that the definitions speak of.
use Rattle.std.specs.Prelude.{ℕ, Bool, true, false, List, [], map, take}
use Rattle.clause_check_spec.specs.declared.Literal as clause
use Rattle.cert_text_spec.specs.Lines as spec
use Rattle.proof_tree.specs.Proofs.{binary_point_of, source_point_of, points_of}
use Rattle.cert_text_parse.specs.declared.lines.Literal.{Literal}
use Rattle.cert_text_parse.specs.declared.lines.Line.{Line}
use Rattle.cert_text_parse.specs.declared.lines.Line.TheVariants as code

abbrev pub literal_of : Literal → clause.Literal
literal_of l = record { variable = l.variable; is_negated = l.is_negated }

-- the step of these literals and hints
abbrev pub step_of : List Literal → List ℕ → spec.Line
step_of literals hints = spec.LogStep (record { literals = map literal_of literals; hints = hints })

-- a line; a step without its literals and hints
abbrev pub line_of : Line → spec.Line
line_of code.Header = spec.Header
line_of (code.Function part) = spec.Function part.value.name.items part.value.stack
line_of (code.InlineBinary point) = spec.InlineBinary (binary_point_of point.value)
line_of (code.InlineSource point) = spec.InlineSource (source_point_of point.value)
line_of (code.Leaf logs) = spec.Leaf logs
line_of (code.Case test) = spec.Case test.value.items
line_of (code.RestrictBinary r) = spec.RestrictBinary (binary_point_of r.value.point) r.value.count
line_of (code.RestrictSource r) = spec.RestrictSource (source_point_of r.value.point) r.value.count
line_of (code.Split s) = spec.Split (points_of s.value.points) s.value.enter s.value.step s.value.relations
line_of (code.Call c) = spec.Call (points_of c.value.points) c.value.counts c.value.before c.value.after
line_of (code.Relation term) = spec.Relation term.value.items
line_of (code.Log steps) = spec.Log steps
line_of (code.Step literals hints) = step_of [] []
line_of code.End = spec.End

abbrev pub is_step : Line → Bool
is_step (code.Step literals hints) = true
is_step line = false

-- how many of the literals, and of the hints, are the line's
abbrev pub literals_in : Line → ℕ
literals_in (code.Step literals hints) = literals
literals_in line = 0

abbrev pub hints_in : Line → ℕ
hints_in (code.Step literals hints) = hints
hints_in line = 0

-- a line, where these literals and hints are next
abbrev pub line_at : Line → List Literal → List ℕ → spec.Line
line_at (code.Step k h) literals hints = step_of (take k literals) (take h hints)
line_at line literals hints = line_of line
