-- Two small sources: the text of the first, with its tokens and its tree, and the typed cores of both.
use Rattle.std.specs.Prelude.{ℕ, Bool, List, [], ◌∷◌, codes, Option, Some}
use Rattle.memory_spec.specs.Zones.{Zone}
use Rattle.c_token_spec.specs.declared.token.Keyword.TheVariants.{Unsigned, Return as return_word}
use Rattle.c_token_spec.specs.declared.token.Punctuator.TheVariants.{LeftParenthesis, RightParenthesis, LeftBrace, RightBrace, Comma, Semicolon, Plus}
use Rattle.c_token_spec.specs.Lexical.{Placed}
use Rattle.c_syntax_spec.specs.Unit.{TranslationUnit}
use Rattle.c_parse_spec.specs.Leaves.{mark, keyword_at, named}
use Rattle.c_types_spec.specs.declared.Arithmetic.{Arithmetic}
use Rattle.c_types_spec.specs.declared.Arithmetic.TheVariants as arithmetic
use Rattle.c_types_spec.specs.Types.{unsigned_int}
use Rattle.c_types_spec.specs.Core as core
use Rattle.c_types_laws.specs.TypeSamples as samples
use Rattle.c_types_laws.specs.TypeSamples.{name_at}
use Rattle.c_run_spec.specs.Setting.{Setting}

abbrev pub sum_text : List ℕ
sum_text = codes "unsigned f(unsigned a,unsigned b){return a+b;}"

abbrev pub sum_tokens : List Placed
sum_tokens =
    keyword_at Unsigned 0 ∷ named (name_at (codes "f") 9) ∷ mark LeftParenthesis 10 ∷ keyword_at Unsigned 11 ∷ named (name_at (codes "a") 20)
    ∷ mark Comma 21 ∷ keyword_at Unsigned 22 ∷ named (name_at (codes "b") 31) ∷ mark RightParenthesis 32 ∷ mark LeftBrace 33
    ∷ keyword_at return_word 34 ∷ named (name_at (codes "a") 41) ∷ mark Plus 42 ∷ named (name_at (codes "b") 43) ∷ mark Semicolon 44
    ∷ mark RightBrace 45 ∷ []

abbrev pub sum_tree : TranslationUnit
sum_tree = samples.sum_unit

-- ---- typed cores

abbrev pub binary_type : core.FunctionType
binary_type = record { parameters = unsigned_int ∷ unsigned_int ∷ []; result = Some unsigned_int }

-- `return a+b;` or `return a-b;`
abbrev pub binary_body : Arithmetic → core.Body
binary_body operator = record {
  name = codes "f";
  signature = binary_type;
  locals = unsigned_int ∷ unsigned_int ∷ [];
  loops = 0;
  calls = 0;
  mentions = [];
  action = core.Sequence
      (core.Return (Some (core.Operate operator unsigned_int (core.ReadLocal unsigned_int 0 41) (core.ReadLocal unsigned_int 1 43) 42)))
      (core.MissingReturn 45);
}

abbrev pub binary_unit : Arithmetic → core.Typed
binary_unit operator = record { functions = (codes "f", binary_type) ∷ []; globals = []; bodies = binary_body operator ∷ [] }

abbrev pub sum_unit : core.Typed
sum_unit = binary_unit arithmetic.Add

-- unsigned f(unsigned a,unsigned b){return a-b;}
abbrev pub difference_unit : core.Typed
difference_unit = binary_unit arithmetic.Subtract

-- where its functions run
abbrev pub setting : core.Typed → (globals : List ℕ → Option ℕ) → (barred : Zone) → (is_fixed : ℕ → Bool) → Setting
setting given globals barred is_fixed = record { bodies = given.bodies; globals = globals; barred = barred; is_fixed = is_fixed }
