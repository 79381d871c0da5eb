-- The texts of the parts of lines, from the values of the program.
use Rattle.std.specs.Prelude.{◌≡◌, ℕ, suc, pred, ◌==◌, ◌&&◌, not, Bool, true, false, if◌then◌else◌, List, [], ◌++◌, take, drop, Option, Some, None, codes, decimal}
use Rattle.cert_text_spec.specs.declared.Symbol.{Symbol}
use Rattle.cert_text_spec.specs.declared.Symbol.TheVariants as symbol
use Rattle.cert_text_spec.specs.Points.{address_text}
use Rattle.cert_text_spec.specs.Terms.{symbol_text, argument_text}
use Rattle.cert_text_spec.specs.Lines as spec
use Rattle.cert_text_parse.specs.declared.lines.Literal.{Literal}
use Rattle.cert_text_parse.specs.declared.lines.Line.{Line}
use Rattle.cert_text_parse.specs.declared.lines.Line.TheVariants as code
use Rattle.cert_text_parse.specs.Views.{literal_of, step_of, literals_in, hints_in}
use Rattle.cert_text.specs.declared.terms.Going.{Going}
use Rattle.cert_text.specs.declared.writing.Left.{Left}

-- ---- points

abbrev pub inlined_address : ℕ → List ℕ
inlined_address a = address_text a ++ codes "/"

abbrev pub inlined_call : ℕ → List ℕ
inlined_call n = codes "k" ++ (decimal n ++ codes "/")

-- ---- terms

abbrev pub optional_text : Option ℕ → List ℕ
optional_text None = []
optional_text (Some n) = decimal n

abbrev pub is_close : Symbol → Bool
is_close symbol.Close = true
is_close s = false

-- nothing is expected any more
abbrev pub is_done : Going → Bool
is_done g = not g.begins && (g.depth == 0)

-- what is expected after a symbol
abbrev pub next_going : Going → Symbol → Going
next_going g (symbol.Inlined n) = record { begins = true; depth = g.depth }
next_going g (symbol.Open o) = record { begins = false; depth = suc g.depth }
next_going g symbol.Close = record { begins = false; depth = if g.begins then g.depth else pred g.depth }
next_going g s = record { begins = false; depth = g.depth }

-- a symbol there
abbrev pub text_going : Going → Symbol → List ℕ
text_going g s = if g.begins then symbol_text s else argument_text s

-- ---- steps

abbrev pub literal_text : Literal → List ℕ
literal_text l = spec.literal_text (literal_of l) ++ codes " "

abbrev pub hint_text : ℕ → List ℕ
hint_text n = decimal n ++ codes " "

-- the next step, of so many literals and hints
abbrev pub step_next : (literals hints : ℕ) → Left → spec.Line
step_next k h left = step_of (take k left.literals.now) (take h left.hints.now)

-- what is left after it
pub record AreLeft (literals hints : ℕ) (old new : Left) : Type 0 where
  pub literals_left : new.literals.now ≡ drop literals old.literals.now
  pub hints_left : new.hints.now ≡ drop hints old.hints.now

abbrev pub IsAfter : Line → (old new : Left) → Type 0
IsAfter line old new = AreLeft (literals_in line) (hints_in line) old new

-- ---- lines

-- a word, or a word and a number; and with restrictions and cuts
abbrev pub is_short : Line → Bool
is_short code.Header = true
is_short (code.Leaf logs) = true
is_short (code.Log steps) = true
is_short (code.Step literals hints) = true
is_short code.End = true
is_short line = false

abbrev pub is_cut : Line → Bool
is_cut (code.RestrictBinary r) = true
is_cut (code.RestrictSource r) = true
is_cut (code.Split s) = true
is_cut (code.Call c) = true
is_cut line = is_short line
