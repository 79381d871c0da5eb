-- What is expected at the end of a part, and what a token after it asks.
use Rattle.std.proofs.Common.{Bool, List, ◌≡◌, refl, [], ◌∷◌, ◌++◌, ap, sym, ◌∙◌, subst, inl, inr, Option, length, length-append, arith}
use Rattle.c_token_spec.specs.Lexical.{Placed}
use Rattle.c_parse_spec.specs.declared.Role.{Role}
use Rattle.c_parse_spec.specs.Leaves.{Leaf, marks, roles}
use Rattle.exact_read.specs.Reading.{plains}
use Rattle.exact_read.specs.Grammar.{One}
use Rattle.c_parse_laws.specs.Parsers.{token}
use Rattle.c_parse_laws.proofs.Marks.{token_wrong}
use Rattle.exact_read.specs.Roles.{IsAsked}
use Rattle.exact_read.specs.Expected.{Reported}
use Rattle.exact_read.proofs.RoleBasics.{Meets}
use Rattle.exact_read.proofs.RoleThen.{Follows}
use Rattle.c_parse_laws.specs.Firm.{quiet}

-- a role that meets another, where that other is the one that is asked for
pub meets_by : (reported through wanted : Role) → Meets roles reported through → Meets roles through wanted → Meets roles reported wanted
meets_by reported through wanted (inl e) m = inl e
meets_by reported through wanted (inr e) (inl f) = inl (e ∙ f)
meets_by reported through wanted (inr e) (inr f) = inr (e ∙ f)

-- a token after a part, where its role is the one at the end of the part
pub follows_token : {X Y : Type 0} {S1 : X → List Leaf → Type 0} {stop1 : X → Placed → Bool} {ending1 : X → Role} (class : Placed → Option Y) (role : X → Role) (offset : X → Placed → Leaf) → ((x : X) (left : List Leaf) → S1 x left → Meets roles (ending1 x) (role x))
    → Follows marks roles S1 stop1 ending1 ⊥ (λ x. One (offset x) class) (λ _. quiet) ⊥ (λ x. token (role x) (offset x) class)
follows_token {X} {Y} {S1} {stop1} {ending1} class role offset meets =
    record {
      between = λ x left kind rest one stops e. subst (Meets roles (ending1 x)) (sym (token_wrong (role x) (offset x) class rest kind rest e)) (meets x left one);
      empty = λ x y left one two. absurd (no_token x y two);
      loose = λ never x left u one n. absurd never;
      loose_empty = λ never x y left one two. absurd never;
    }
  where
    no_token : (x : X) (y : Y) → One (offset x) class y [] → ⊥
    no_token x y o = let e : [] ≡ offset x o.token ∷ [] = o.cut in cc

nothing_read : (prefix rest : List Placed) → rest ≡ prefix ++ rest → prefix ≡ []
nothing_read [] rest e = refl
nothing_read (t ∷ prefix) rest e = absurd (omega (arith, ap length e, length-append prefix rest))

-- what is expected where a part begins is the role of what begins it
pub begins_meet : {X : Type 0} {S : X → List Leaf → Type 0} (kind : Role) (rest : List Placed) → IsAsked marks roles S rest kind rest → (x : X) (u : Leaf) (more : List Leaf) → S x (u ∷ more) → Meets roles u.role kind
begins_meet kind rest a x u more derives =
    let none : plains marks a.prefix ≡ [] = nothing_read (plains marks a.prefix) rest a.cut in
    reported (a.asked.agreed u (record { value = x; before = []; more = more; derives = derives; same = sym none }))
  where
    reported : Reported roles u kind → Meets roles u.role kind
    reported (inl e) = inr e
    reported (inr e) = inl e
