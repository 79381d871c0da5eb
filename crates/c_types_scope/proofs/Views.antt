-- Scopes with what each name means in another form: what was asked of them, and done to them, before and after.
use Rattle.std.proofs.Common.{◌≡◌, ℕ, List, [], ◌∷◌, ◌++◌, length, map, refl, sym, ◌∙◌, ap, inl, inr}
use Rattle.std.specs.Prelude.{Bool, true, false, cond, if◌then◌else◌, bytes_eq, Option, Some, None, option_map}
use Rattle.std.proofs.lemmas.Bool.{cases_Bool}
use Rattle.std.proofs.lemmas.List.{map-append}
use Rattle.std.proofs.lemmas.List.{length-map, map-set}
use Rattle.c_token_spec.specs.Words.{entry_of}
use Rattle.c_types_spec.specs.Names as names
use Rattle.c_types_scope.specs.Scopes.{Kept, scopes_of}
use Rattle.c_types_scope.specs.Meanings.{scope_by, scopes_by}
use Rattle.c_types_scope.proofs.Blocks.{or_else, in_blocks-cons, in_scope-cons}

pub entry-by : {M N : Type 0} (seen : M → N) (scope : List (List ℕ × M)) (name : List ℕ) → entry_of (scope_by seen scope) name ≡ option_map seen (entry_of scope name)
entry-by seen [] name = refl
entry-by seen (entry ∷ scope) name = elim (cases_Bool (bytes_eq entry.0 name)) [ inl h ↦ rw h refl | inr h ↦ rw h (entry-by seen scope name) ]

choice-by : {A B : Type 0} (f : A → B) (found other : Option A) → or_else (option_map f found) (option_map f other) ≡ option_map f (or_else found other)
choice-by f None other = refl
choice-by f (Some x) other = refl

blocks-by : {M N : Type 0} (seen : M → N) (blocks : List (names.Scope M)) (name : List ℕ) → names.in_blocks (map (λ block. scope_by seen block) blocks) name ≡ option_map seen (names.in_blocks blocks name)
blocks-by seen [] name = refl
blocks-by seen (block ∷ blocks) name =
    in_blocks-cons (scope_by seen block) (map (λ b. scope_by seen b) blocks) name
    ∙ ap (λ x. or_else x (names.in_blocks (map (λ b. scope_by seen b) blocks) name)) (entry-by seen block name)
    ∙ ap (λ x. or_else (option_map seen (entry_of block name)) x) (blocks-by seen blocks name)
    ∙ choice-by seen (entry_of block name) (names.in_blocks blocks name)
    ∙ sym (ap (λ x. option_map seen x) (in_blocks-cons block blocks name))

pub in_scope-by : {M N : Type 0} (seen : Option M → N) (kept : Kept M) (name : List ℕ) → names.in_scope (scopes_by seen kept) name ≡ option_map seen (names.in_scope (scopes_of kept) name)
in_scope-by seen kept name =
    in_scope-cons (scope_by seen kept.0) (map (λ b. scope_by seen b) kept.1) name
    ∙ ap (λ x. or_else x (entry_of (scope_by seen kept.0) name)) (blocks-by seen kept.1 name)
    ∙ ap (λ x. or_else (option_map seen (names.in_blocks kept.1 name)) x) (entry-by seen kept.0 name)
    ∙ choice-by seen (names.in_blocks kept.1 name) (entry_of kept.0 name)
    ∙ sym (ap (λ x. option_map seen x) (in_scope-cons kept.0 kept.1 name))

innermost-by : {M N : Type 0} (seen : M → N) (file : names.Scope M) (blocks : List (names.Scope M)) → names.innermost (record { file = scope_by seen file; blocks = map (λ block. scope_by seen block) blocks }) ≡ scope_by seen (names.innermost (record { file = file; blocks = blocks }))
innermost-by seen file [] = refl
innermost-by seen file (block ∷ blocks) = refl

pub in_innermost-by : {M N : Type 0} (seen : Option M → N) (kept : Kept M) (name : List ℕ) → names.in_innermost (scopes_by seen kept) name ≡ option_map seen (names.in_innermost (scopes_of kept) name)
in_innermost-by seen kept name = ap (λ scope. entry_of scope name) (innermost-by seen kept.0 kept.1) ∙ entry-by seen (names.innermost (scopes_of kept)) name

-- ---- changes

put-by : {M N : Type 0} (seen : M → N) (name : List ℕ) (meaning : M) (scope : names.Scope M) → scope_by seen (names.put name meaning scope) ≡ names.put name (seen meaning) (scope_by seen scope)
put-by seen name meaning [] = refl
put-by seen name meaning (entry ∷ scope) = elim (cases_Bool (bytes_eq entry.0 name)) [ inl h ↦ rw h refl | inr h ↦ rw h (ap (λ l. (entry.0, seen entry.1) ∷ l) (put-by seen name meaning scope)) ]

-- scopes with what each name means in another form
abbrev pub again : {M N : Type 0} → (M → N) → names.Scopes M → names.Scopes N
again seen scopes = record { file = scope_by seen scopes.file; blocks = map (λ block. scope_by seen block) scopes.blocks }

declared-again : {M N : Type 0} (seen : M → N) (name : List ℕ) (meaning : M) (file : names.Scope M) (blocks : List (names.Scope M))
    → again seen (names.declared name meaning (record { file = file; blocks = blocks })) ≡ names.declared name (seen meaning) (again seen (record { file = file; blocks = blocks }))
declared-again seen name meaning file [] = ap (λ f. record { file = f; blocks = [] }) (put-by seen name meaning file)
declared-again seen name meaning file (block ∷ blocks) = refl

pub declared-by : {M N : Type 0} (seen : Option M → N) (name : List ℕ) (meaning : Option M) (old new : Kept M) → scopes_of new ≡ names.declared name meaning (scopes_of old) → scopes_by seen new ≡ names.declared name (seen meaning) (scopes_by seen old)
declared-by seen name meaning old new e = ap (again seen) e ∙ declared-again seen name meaning old.0 old.1

pub in_file-by : {M N : Type 0} (seen : Option M → N) (name : List ℕ) (meaning : Option M) (old new : Kept M) → scopes_of new ≡ names.declared_in_file name meaning (scopes_of old) → scopes_by seen new ≡ names.declared_in_file name (seen meaning) (scopes_by seen old)
in_file-by seen name meaning old new e = ap (again seen) e ∙ ap (λ f. record { file = f; blocks = map (λ block. scope_by seen block) old.1 }) (put-by seen name meaning old.0)

pub opened-by : {M N : Type 0} (seen : Option M → N) (old new : Kept M) → scopes_of new ≡ names.opened (scopes_of old) → scopes_by seen new ≡ names.opened (scopes_by seen old)
opened-by seen old new e = ap (again seen) e

inner_closed-by : {M N : Type 0} (seen : M → N) (blocks : List (names.Scope M)) → map (λ block. scope_by seen block) (names.inner_closed blocks) ≡ names.inner_closed (map (λ block. scope_by seen block) blocks)
inner_closed-by seen [] = refl
inner_closed-by seen (block ∷ blocks) = refl

pub closed-by : {M N : Type 0} (seen : Option M → N) (old new : Kept M) → scopes_of new ≡ names.closed (scopes_of old) → scopes_by seen new ≡ names.closed (scopes_by seen old)
closed-by seen old new e = ap (again seen) e ∙ ap (λ l. record { file = scope_by seen old.0; blocks = l }) (inner_closed-by seen old.1)

all_mean-by : {M N : Type 0} (seen : M → N) (meaning : M) (scope : names.Scope M) → scope_by seen (names.all_mean meaning scope) ≡ names.all_mean (seen meaning) (scope_by seen scope)
all_mean-by seen meaning [] = refl
all_mean-by seen meaning (entry ∷ scope) = ap (λ l. (entry.0, seen meaning) ∷ l) (all_mean-by seen meaning scope)

inner_hidden-by : {M N : Type 0} (seen : M → N) (meaning : M) (blocks : List (names.Scope M)) → map (λ block. scope_by seen block) (names.inner_hidden meaning blocks) ≡ names.inner_hidden (seen meaning) (map (λ block. scope_by seen block) blocks)
inner_hidden-by seen meaning [] = refl
inner_hidden-by seen meaning (block ∷ []) = refl
inner_hidden-by {M = M} {N = N} seen meaning (block ∷ outer ∷ blocks) =
    ap (λ l. l ∷ map (λ b. scope_by seen b) blocks)
    (map-append (λ (entry : List ℕ × M). (entry.0, seen entry.1)) (names.all_mean meaning block) outer
    ∙ ap (λ l. l ++ scope_by seen outer) (all_mean-by seen meaning block))

pub hidden-by : {M N : Type 0} (seen : Option M → N) (old new : Kept M) → scopes_of new ≡ names.closed_hidden None (scopes_of old) → scopes_by seen new ≡ names.closed_hidden (seen None) (scopes_by seen old)
hidden-by seen old new e = ap (again seen) e ∙ ap (λ l. record { file = scope_by seen old.0; blocks = l }) (inner_hidden-by seen None old.1)

pub ruleset views = (in_scope-by, in_innermost-by, entry-by, declared-by, in_file-by, opened-by, closed-by, hidden-by, length-map, map-set)
