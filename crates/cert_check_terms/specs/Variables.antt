-- The variables that symbols of a certificate spell, where these are in scope.
use Rattle.std.specs.Prelude.{◌≡◌, ℕ, ◌-◌, ◌&&◌, ◌||◌, nat_lt, nat_le, nat_eq, bytes_eq, if◌then◌else◌, List, [], ◌∷◌, length, slice_get, Contains, Option, Some, None, option_map, option_and_then}
use Rattle.std.specs.List.{starts_with}
use Rattle.term_core_spec.specs.declared.Width.TheVariants.{W32}
use Rattle.term_core_spec.specs.declared.Sort.{Sort}
use Rattle.term_core_spec.specs.declared.Sort.TheVariants.{Truth, Word}
use Rattle.term_core_spec.specs.declared.Family.TheVariants as family
use Rattle.term_core_spec.specs.declared.Variable.{Variable}
use Rattle.cert_text_spec.specs.declared.Symbol.{Symbol}
use Rattle.cert_text_spec.specs.declared.Symbol.TheVariants as symbol
use Rattle.proof_tree_spec.specs.Scope.{Body, Setting}
use Rattle.cert_check_spec.specs.Terms.{variable, memory}

-- bodies are told apart by their paths, and by their instances
pub record AreApart (bodies : List Body) : Type 0 where
  pub by_path : (b c : Body) → Contains bodies b → Contains bodies c → b.path ≡ c.path → b ≡ c
  pub by_instance : (b c : Body) → Contains bodies b → Contains bodies c → b.instance ≡ c.instance → b ≡ c

-- ---- the function's own

abbrev pub register_at : ℕ → Option Variable
register_at n = if nat_le 1 n && nat_lt n 32 then Some (variable family.Register n 0 (Word W32)) else None

-- no argument word has the register
abbrev pub entry_at : (argument_words : ℕ) → ℕ → Option Variable
entry_at words n =
    if (nat_le 1 n && nat_lt n 32) && (nat_lt n 10 || nat_le words (n - 10)) then Some (variable family.Entry n 0 (Word W32)) else None

abbrev pub parameter_at : List Sort → ℕ → Option Variable
parameter_at sorts n = option_map (λ (s : Sort). variable family.Parameter n 0 s) (slice_get sorts n)

-- the variable of one symbol
abbrev pub own_variable : Setting → Symbol → Option Variable
own_variable s (symbol.Register n) = register_at n
own_variable s (symbol.Entry n) = entry_at s.argument_words n
own_variable s (symbol.Parameter n) = parameter_at s.parameters n
own_variable s symbol.SourceMemory = Some (memory family.SourceMemory)
own_variable s symbol.ZoneMemory = Some (memory family.ZoneMemory)
own_variable s symbol.BinaryMemory = Some (memory family.BinaryMemory)
own_variable s other = None

-- ---- of a body

-- the body that these calls lead to
abbrev pub body_with : (calls : List ℕ) → List Body → Option Body
body_with calls [] = None
body_with calls (b ∷ bodies) = if bytes_eq b.path calls then Some b else body_with calls bodies

-- where the path leads through it
abbrev pub body_on : (path calls : List ℕ) → List Body → Option Body
body_on path calls bodies = if starts_with nat_eq path calls then body_with calls bodies else None

abbrev pub local_of : ℕ → Body → Option Variable
local_of n b = option_map (λ (s : Sort). variable family.Local n b.instance s) (slice_get b.locals n)

abbrev pub is_set_of : ℕ → Body → Option Variable
is_set_of n b = if nat_lt n (length b.locals) then Some (variable family.IsSet n b.instance Truth) else None

-- the local of a number, after the numbers of the calls that lead to its body; and whether it is set
abbrev pub local_at : Setting → (path calls : List ℕ) → ℕ → Option Variable
local_at s path calls n = option_and_then (local_of n) (body_on path calls s.bodies)

abbrev pub is_set_at : Setting → (path calls : List ℕ) → ℕ → Option Variable
is_set_at s path calls n = option_and_then (is_set_of n) (body_on path calls s.bodies)
