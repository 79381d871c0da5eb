-- The loop over items.
use Rattle.std.proofs.Common.{◌≡◌, ℕ, ◌<◌, true, List, [], ◌∷◌, ◌++◌, length, map, refl, ap, sym, subst, ◌∙◌, Ok, Err, arith}
use Rattle.std.proofs.lemmas.List.{append_assoc, append-nil, map-append}
use Rattle.std.specs.declared.alloc.Global.{Global}
use Rattle.std.specs.declared.boxed.Box.{Box}
use Rattle.std.specs.Prelude.{Vec}
use Rattle.c_token_spec.specs.Lexical.{Placed}
use Rattle.c_syntax_spec.specs.Unit as unit
use Rattle.c_parse_spec.specs.declared.Role.{Role}
use Rattle.exact_read.specs.Reading.{Fault, Outcome}
use Rattle.exact_read.specs.Going.{begins, Going}
use Rattle.exact_read.proofs.Loops.{going-start, going-step, going-fault, going-end, going-same}
use Rattle.c_parse_laws.specs.Units.{read_external_declaration, read_external_declarations}
use Rattle.c_syntax.specs.declared.unit.ExternalDeclaration.{ExternalDeclaration}
use Rattle.c_syntax.specs.Expressions.{unboxed}
use Rattle.c_syntax.specs.Units.{external_declaration_of}

-- external declarations are being read, after these, with these typedef names in scope
pub Items : (whole : Outcome Placed Role unit.TranslationUnit) → List unit.ExternalDeclaration → (names : List (List ℕ)) → List Placed → Type 0
Items whole read names rest = Going (λ (_ : List (List ℕ)) _. true) read_external_declaration (λ _ item. item.1) whole (λ more last. Ok (read ++ map (λ item. item.0) more, last)) names rest

items-start : (tokens : List Placed) → Items (read_external_declarations tokens) [] [] tokens
unfolding Items
items-start tokens = going-start

pub items-begun : (tokens : List Placed) (read : List unit.ExternalDeclaration) (names : List (List ℕ)) → read ≡ [] → names ≡ [] → Items (read_external_declarations tokens) read names tokens
items-begun tokens read names none no_names = subst (λ xs. Items (read_external_declarations tokens) xs names tokens) (sym none) (subst (λ n. Items (read_external_declarations tokens) [] n tokens) (sym no_names) (items-start tokens))

begins-any : (names : List (List ℕ)) (tokens : List Placed) → 0 < length tokens → begins (λ (_ : List (List ℕ)) (_ : Placed). true) names tokens ≡ true
begins-any names [] l = absurd (omega (arith, l))
begins-any names (token ∷ more) l = refl

items-step : (whole : Outcome Placed Role unit.TranslationUnit) (read : List unit.ExternalDeclaration) (names after : List (List ℕ)) (item : unit.ExternalDeclaration) (tokens rest : List Placed) → Items whole read names tokens → read_external_declaration names tokens ≡ Ok ((item, after), rest) → length rest < length tokens → Items whole (read ++ item ∷ []) after rest
unfolding Items
items-step whole read names after item tokens rest going e less =
    going-same (λ more last. Ok (read ++ item ∷ map (λ i. i.0) more, last)) (λ more last. Ok ((read ++ item ∷ []) ++ map (λ i. i.0) more, last)) (λ more last. ap (λ l. Ok (l, last)) (sym (append_assoc read (item ∷ []) (map (λ i. i.0) more))))
    (going-step going (begins-any names tokens (omega (arith, less))) (item, after) rest e less)

pub items-more : (whole : Outcome Placed Role unit.TranslationUnit) (read all : List unit.ExternalDeclaration) (names after : List (List ℕ)) (item : unit.ExternalDeclaration) (tokens rest : List Placed) → all ≡ read ++ item ∷ [] → Items whole read names tokens → read_external_declaration names tokens ≡ Ok ((item, after), rest) → length rest < length tokens → Items whole all after rest
items-more whole read all names after item tokens rest is going e less = subst (λ xs. Items whole xs after rest) (sym is) (items-step whole read names after item tokens rest going e less)

pub items-error : (whole : Outcome Placed Role unit.TranslationUnit) (read : List unit.ExternalDeclaration) (names : List (List ℕ)) (tokens : List Placed) → Items whole read names tokens → 0 < length tokens → (fault : Fault Role × List Placed) → read_external_declaration names tokens ≡ Err fault → whole ≡ Err fault
unfolding Items
items-error whole read names tokens going some = going-fault going (begins-any names tokens some)

items-end : (whole : Outcome Placed Role unit.TranslationUnit) (read : List unit.ExternalDeclaration) (names : List (List ℕ)) → Items whole read names [] → whole ≡ Ok (read, [])
unfolding Items
items-end whole read names going = going-end going refl ∙ ap (λ l. Ok (l, [])) (append-nil read)

pub items-done : (whole : Outcome Placed Role unit.TranslationUnit) (read : List unit.ExternalDeclaration) (names : List (List ℕ)) (tokens : List Placed) → tokens ≡ [] → Items whole read names tokens → whole ≡ Ok (read, tokens)
items-done whole read names tokens none going = subst (λ t. whole ≡ Ok (read, t)) (sym none) (items-end whole read names (subst (λ t. Items whole read names t) none going))

-- an item more
pub items-joined : (before after : Vec (Box ExternalDeclaration Global) Global) (next : Box ExternalDeclaration Global) → after.items ≡ before.items ++ next ∷ [] → map external_declaration_of (unboxed after) ≡ map external_declaration_of (unboxed before) ++ external_declaration_of next.value ∷ []
items-joined before after next is =
    ap (λ l. map external_declaration_of (map (λ b. b.value) l)) is ∙ ap (map external_declaration_of) (map-append (λ b. b.value) before.items (next ∷ [])) ∙ map-append external_declaration_of (unboxed before) (next.value ∷ [])

-- no token is left
pub no-tokens : {X : Type 0} (tokens : List X) → length tokens ≡ 0 → tokens ≡ []
no-tokens [] none = refl
no-tokens (token ∷ more) none = absurd (omega (arith, none))
