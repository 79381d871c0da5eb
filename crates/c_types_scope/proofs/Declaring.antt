-- A name or a tag is declared in the state.
use Rattle.std.proofs.Common.{◌≡◌, ℕ, List, ap, sym}
use Rattle.std.specs.Prelude.{Some, Ok}
use Rattle.c_types_spec.specs.Names as names
use Rattle.c_types_scope.specs.declared.meaning.Meaning.{Meaning}
use Rattle.c_types_scope.specs.declared.meaning.Tag.{Tag}
use Rattle.c_types_scope.specs.declared.state.State.{State}
use Rattle.c_types_scope.specs.Scopes.{Kept, scopes_of}
use Rattle.c_types_scope.specs.Meanings.{meaning_of, tag_of, seen_meaning, seen_tag}
use Rattle.c_types_scope.specs.States.{state_of}
use Rattle.c_types_scope.proofs.Views.{declared-by, in_file-by}

pub state-declared : (state : State) (new : Kept Meaning) (name : List ℕ) (meaning : Meaning) → scopes_of new ≡ names.declared name (Some meaning) (scopes_of state.names)
    → names.declare name (meaning_of meaning) (state_of state) ≡ Ok (tt {0}, state_of (record state { names = new }))
unfolding state_of
state-declared state new name meaning e =
    ap (λ (n : names.Scopes names.Meaning). Ok (tt {0}, record (state_of state) { names = n })) (sym (declared-by seen_meaning name (Some meaning) state.names new e))

pub state-declared_in_file : (state : State) (new : Kept Meaning) (name : List ℕ) (meaning : Meaning) → scopes_of new ≡ names.declared_in_file name (Some meaning) (scopes_of state.names)
    → names.change (λ st. record st { names = names.declared_in_file name (meaning_of meaning) st.names }) (state_of state) ≡ Ok (tt {0}, state_of (record state { names = new }))
unfolding state_of
state-declared_in_file state new name meaning e =
    ap (λ (n : names.Scopes names.Meaning). Ok (tt {0}, record (state_of state) { names = n })) (sym (in_file-by seen_meaning name (Some meaning) state.names new e))

pub state-tagged : (state : State) (new : Kept Tag) (tag : List ℕ) (meaning : Tag) → scopes_of new ≡ names.declared tag (Some meaning) (scopes_of state.tags)
    → names.declare_tag tag (tag_of meaning) (state_of state) ≡ Ok (tt {0}, state_of (record state { tags = new }))
unfolding state_of
state-tagged state new tag meaning e =
    ap (λ (n : names.Scopes names.Tag). Ok (tt {0}, record (state_of state) { tags = n })) (sym (declared-by seen_tag tag (Some meaning) state.tags new e))
