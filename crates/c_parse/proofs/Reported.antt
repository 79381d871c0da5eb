-- What the reader of units says of tokens, as the grammar has it.
use Rattle.std.proofs.Common.{◌≡◌, ℕ, suc, ◌-◌, ◌≤◌, List, [], ◌∷◌, ◌++◌, length, drop, refl, ap, sym, ◌∙◌, subst, Ok, Err, arith}
use Rattle.std.proofs.lemmas.List.{length-map}
use Rattle.c_token_spec.specs.Lexical.{Placed}
use Rattle.c_token.specs.declared.Token.{Token as TokenRow}
use Rattle.c_token.specs.Pieces.{placed_of}
use Rattle.c_syntax_spec.specs.Unit.{TranslationUnit}
use Rattle.c_parse_spec.specs.declared.ParseFaultKind.{ParseFaultKind}
use Rattle.c_parse_spec.specs.declared.Role.{Role}
use Rattle.c_parse_spec.specs.declared.Role.TheVariants.{Nothing}
use Rattle.c_parse_spec.specs.Leaves.{marks}
use Rattle.c_parse_spec.specs.Faults as faults
use Rattle.c_parse_spec.specs.Faults.{IsUnit, IsFault}
use Rattle.exact_read.specs.Reading.{Fault, LimitExceeded, Wrong, plains}
use Rattle.exact_read.specs.Grammar.{at_end}
use Rattle.c_parse_laws.specs.Units.{read_external_declarations, read_unit}
use Rattle.c_parse_laws.proofs.UnitAll.{unit-is_exact}
use Rattle.c_parse_laws.proofs.Faults.{unit-reports}
use Rattle.c_parse_token.specs.Lists.{list_of}
use Rattle.attempt.specs.declared.refusal.Refusal.{Refusal}
use Rattle.attempt.specs.declared.refusal.Refusal.TheVariants as refusal
use Rattle.c_parse.specs.declared.ParseFault.{ParseFault}
use Rattle.c_parse.specs.Refused.{IsFaultOf, reported}

read-whole : (tokens : List Placed) (unit : TranslationUnit) → read_external_declarations tokens ≡ Ok (unit, []) → read_unit tokens ≡ Ok unit
read-whole tokens unit e = ap (at_end Nothing) e

-- items up to the end are a unit, and no other
pub unit-found : (tokens : List Placed) (unit : TranslationUnit) → read_external_declarations tokens ≡ Ok (unit, []) → IsUnit tokens unit
unit-found tokens unit e = unit-is_exact.found tokens unit (read-whole tokens unit e)

pub unit-same : (tokens : List Placed) (unit other : TranslationUnit) → read_external_declarations tokens ≡ Ok (unit, []) → IsUnit tokens other → other ≡ unit
unit-same tokens unit other e h = let both : Ok other ≡ Ok unit = sym (unit-is_exact.only tokens other h) ∙ read-whole tokens unit e in cc

-- where there is a unit memory alone can be wanting
pub unit-only : (tokens : List Placed) (unit : TranslationUnit) (error : Refusal ParseFault) → IsUnit tokens unit → IsFaultOf tokens error → error ≡ refusal.NoMemory
unit-only tokens unit (refusal.Fault fault) h f = absurd (unit-reports.none tokens unit fault.kind (drop fault.token tokens) h f.1)
unit-only tokens unit refusal.NoMemory h f = refl

-- a fault that is read is the fault of the tokens
pub fault-reported : (tokens : List Placed) (fault : Fault Role) (rest : List Placed) → read_external_declarations tokens ≡ Err (fault, rest) → IsFault tokens (reported fault rest) rest
fault-reported tokens LimitExceeded rest e = unit-reports.exceeded tokens rest (ap (at_end Nothing) e)
fault-reported tokens (Wrong role) rest e = unit-reports.wrong tokens role rest (ap (at_end Nothing) e)

after-prefix : (prefix rest : List Placed) → (length rest ≤ length (prefix ++ rest)) × (drop (length (prefix ++ rest) - length rest) (prefix ++ rest) ≡ rest)
after-prefix [] rest = let e : length rest - length rest ≡ 0 = omega arith in (omega arith, ap (λ n. drop n rest) e)
after-prefix (token ∷ prefix) rest =
    let b = after-prefix prefix rest in
    let e : suc (length (prefix ++ rest)) - length rest ≡ suc (length (prefix ++ rest) - length rest) = omega (arith, b.0) in
    (omega (arith, b.0), ap (λ n. drop n (token ∷ prefix ++ rest)) e ∙ b.1)

-- the tokens from the one at fault on are the last of all
pub fault-offset : (tokens : List Placed) (kind : ParseFaultKind) (rest : List Placed) → IsFault tokens kind rest → (length rest ≤ length tokens) × (drop (length tokens - length rest) tokens ≡ rest)
fault-offset tokens kind rest (faults.wrong prefix r role a cut h) = subst (λ t. (length r ≤ length t) × (drop (length t - length r) t ≡ r)) (sym cut) (after-prefix prefix r)
fault-offset tokens kind rest (faults.exceeded r d) = subst (λ t. (length r ≤ length t) × (drop (length t - length r) t ≡ r)) (sym d.cut) (after-prefix (plains marks d.prefix) r)

-- the fault by the number of the tokens before it
pub fault-numbered : (tokens rest : List TokenRow) (fault : Fault Role) (kind : ParseFaultKind) (token : ℕ) → read_external_declarations (list_of tokens) ≡ Err (fault, list_of rest) → kind ≡ reported fault (list_of rest) → token ≡ length tokens - length rest
    → (token ≤ length (list_of tokens)) × IsFault (list_of tokens) kind (drop token (list_of tokens))
fault-numbered tokens rest fault kind token e kinds numbers =
    let f : IsFault (list_of tokens) (reported fault (list_of rest)) (list_of rest) = fault-reported (list_of tokens) fault (list_of rest) e in
    let p = fault-offset (list_of tokens) (reported fault (list_of rest)) (list_of rest) f in
    let number : token ≡ length (list_of tokens) - length (list_of rest) = numbers ∙ sym (ap (λ n. n - length (list_of rest)) (length-map tokens placed_of) ∙ ap (λ n. length tokens - n) (length-map rest placed_of)) in
    let there : drop token (list_of tokens) ≡ list_of rest = ap (λ n. drop n (list_of tokens)) number ∙ p.1 in
    (omega (arith, number), subst (λ k. IsFault (list_of tokens) k (drop token (list_of tokens))) (sym kinds) (subst (λ r. IsFault (list_of tokens) (reported fault (list_of rest)) r) (sym there) f))
