-- What the parts of a unit say of sizes: the types of names and of what is read are sized, and what is known of structs is
-- kept. All is said of the structs of the whole unit, with which those of each state have to agree.
use Rattle.std.proofs.Common.{◌≡◌, ℕ, Bool, false, List, [], ◌∷◌, IfOk, Result, Ok, Err, refl, sym, subst}
use Rattle.c_types_spec.specs.declared.TypeFaultKind.{TypeFaultKind}
use Rattle.c_types_spec.specs.Types.{CType, Structs, Definition}
use Rattle.c_types_spec.specs.Names.{Meaning, Local, Object, Function, Typedef, Hidden, Tag, HiddenTag, Scopes, inner_closed, inner_hidden, all_mean, State, Fault, Typing, give, bind, ◌>>=◌, ◌>>◌, by, rule, refuse, check, faults_at, declare, declare_tag, mention, change, start_body, open_block, close_block, hide_block, block, hidden_block, new_struct, new_local, new_result, new_loop, new_call}
use Rattle.c_types_spec.specs.Expressions.{with_structs}
use Rattle.c_types_laws.proofs.Results.{if_bind, if_more}
use Rattle.c_types_laws.proofs.Scopes.{Each, each_append, AreAll, declared-each}
use Rattle.c_types_laws.proofs.States.{IsTag, get_append}
use Rattle.c_types_laws.proofs.Readings.{Any, if_check}
use Rattle.c_types_laws.proofs.Sized.{IsSized, IsFineDefinition, AreFine, Kept, kept_itself, kept_then, Agrees, agrees_before}

pub if_under : {A : Type 0} (H : Type 0) (P : A → Type 0) (r : Result A Fault) → (H → IfOk r P) → IfOk r (λ x. H → P x)
if_under H P (Ok x) f = f
if_under H P (Err e) f = tt

-- ---- states

abbrev pub IsFineMeaning : Structs → Meaning → Type 0
IsFineMeaning whole (Local number type) = IsSized whole type
IsFineMeaning whole (Object type) = IsSized whole type
IsFineMeaning whole (Function signature has_body) = IsSized whole signature.result
IsFineMeaning whole (Typedef type) = IsSized whole type
IsFineMeaning whole other = Unit {0}

pub record Sound (whole : Structs) (st : State) : Type 0 where
  pub file_names : AreAll (IsFineMeaning whole) st.names.file
  pub block_names : Each (AreAll (IsFineMeaning whole)) st.names.blocks
  pub file_tags : AreAll IsTag st.tags.file
  pub block_tags : Each (AreAll IsTag) st.tags.blocks
  pub fine : AreFine whole st.structs

-- what a part gives: what is known of structs is kept; and where they agree with those of the whole unit, if H holds, P
-- holds of the value
abbrev pub GivesTo : {A : Type 0} → (whole : Structs) → (H : Type 0) → (P : A → Type 0) → State → A × State → Type 0
GivesTo whole H P st made = Kept st.structs made.1.structs × (Agrees made.1.structs whole → Sound whole st → H → Sound whole made.1 × P made.0)

pub record Gives {A : Type 0} (whole : Structs) (H : Type 0) (P : A → Type 0) (m : Typing A) : Type 0 where
  pub from : (st : State) → IfOk (m st) (GivesTo whole H P st)

module _ {A : Type 0} {whole : Structs} (H : Type 0) (P : A → Type 0) where
  by_result : (st : State) (r : Result A Fault) → (Agrees st.structs whole → Sound whole st → H → IfOk r P) → IfOk (bind r (λ x. Ok (x, st))) (GivesTo whole H P st)
  by_result st (Ok x) f = (kept_itself st.structs, λ agrees sound h. (sound, f agrees sound h))
  by_result st (Err e) f = tt

  pub gives_by : (made : State → Result A Fault) → ((st : State) → Agrees st.structs whole → Sound whole st → H → IfOk (made st) P) → Gives whole H P (by made)
  gives_by made f = record { from = λ st. by_result st (made st) (f st) }

  pub gives_rule : (r : Result A Fault) → (H → IfOk r P) → Gives whole H P (rule r)
  gives_rule r f = record { from = λ st. by_result st r (λ agrees sound h. f h) }

  pub gives_structs : (made : Structs → Result A Fault) → ((structs : Structs) → Agrees structs whole → AreFine whole structs → H → IfOk (made structs) P) → Gives whole H P (with_structs made)
  gives_structs made f = record { from = λ st. by_result st (made st.structs) (λ agrees sound h. f st.structs agrees sound.fine h) }

  pub gives_give : (x : A) → (H → P x) → Gives whole H P (give x)
  gives_give x f = record { from = λ st. (kept_itself st.structs, λ agrees sound h. (sound, f h)) }

  pub gives_refuse : (kind : TypeFaultKind) (offset : ℕ) → Gives whole H P (refuse kind offset)
  gives_refuse kind offset = record { from = λ st. tt }

  -- what the state says comes first
  pub gives_state : (made : State → Typing A) → ((st : State) → Gives whole (H × Sound whole st) P (made st)) → Gives whole H P (λ st. made st st)
  gives_state made f = record {
    from = λ st. if_more (GivesTo whole (H × Sound whole st) P st) (GivesTo whole H P st) (made st st) ((f st).from st) (λ x k. (k.0, λ agrees sound h. k.1 agrees sound (h, sound)));
  }

  pub gives_more : (G : Type 0) (Q : A → Type 0) (m : Typing A) → (H → G) → ((x : A) → H → Q x → P x) → Gives whole G Q m → Gives whole H P m
  gives_more G Q m f g h = record {
    from = λ st. if_more (GivesTo whole G Q st) (GivesTo whole H P st) (m st) (h.from st) (λ made k. (k.0, λ agrees sound hyp. let all = k.1 agrees sound (f hyp) in (all.0, g made.0 hyp all.1)));
  }

  -- what passes a check
  pub gives_check : (offset : ℕ) (tests : State → List (Bool × TypeFaultKind)) (next : Typing A)
      → ((st : State) → Each (λ (test : Bool × TypeFaultKind). test.0 ≡ false) (tests st) → Gives whole (H × Agrees st.structs whole × Sound whole st) P next) → Gives whole H P (check offset tests >> next)
  gives_check offset tests next f = record {
    from = λ st. if_check (GivesTo whole H P st) offset tests next st
        (λ none. if_more (GivesTo whole (H × Agrees st.structs whole × Sound whole st) P st) (GivesTo whole H P st) (next st) ((f st none).from st)
        (λ made k. (k.0, λ agrees sound h. k.1 agrees sound (h, agrees_before st.structs made.1.structs whole k.0 agrees, sound))));
  }

-- where what is asked follows
pub gives_from : {A : Type 0} {whole : Structs} {G H : Type 0} {P : A → Type 0} {m : Typing A} → (H → G) → Gives whole G P m → Gives whole H P m
gives_from {A} {whole} {G} {H} {P} {m} f h = gives_more H P G P m f (λ x _ k. k) h

-- what holds whatever is known
pub gives_given : {A : Type 0} {whole : Structs} {H : Type 0} {P : A → Type 0} {m : Typing A} → Gives whole (Unit {0}) P m → Gives whole H P m
gives_given {A} {whole} {H} {P} {m} h = gives_more H P (Unit {0}) P m (λ _. tt) (λ x _ k. k) h

joined : {A B : Type 0} (whole : Structs) (H : Type 0) (P : A → Type 0) (Q : B → Type 0) (st : State) (made : A × State) (end : B × State) → GivesTo whole H P st made → GivesTo whole (H × P made.0) Q made.1 end → GivesTo whole H Q st end
joined whole H P Q st made end k l = (
  kept_then st.structs made.1.structs end.1.structs k.0 l.0,
  λ agrees sound h. let first = k.1 (agrees_before made.1.structs end.1.structs whole l.0 agrees) sound h in l.1 agrees first.0 (h, first.1),
)

module _ {A B : Type 0} {whole : Structs} {H : Type 0} {P : A → Type 0} {Q : B → Type 0} where
  -- one part after the other
  pub gives_then : {m : Typing A} {next : A → Typing B} → Gives whole H P m → ((x : A) → Gives whole (H × P x) Q (next x)) → Gives whole H Q (m >>= next)
  gives_then {m} {next} h f = record {
    from = λ st. if_bind (GivesTo whole H P st) (GivesTo whole H Q st) (m st) (λ made. next made.0 made.1) (h.from st)
        (λ made k. if_more (GivesTo whole (H × P made.0) Q made.1) (GivesTo whole H Q st) (next made.0 made.1) ((f made.0).from made.1) (λ end l. joined whole H P Q st made end k l));
  }

  pub gives_after : {m : Typing A} {next : Typing B} → Gives whole H P m → Gives whole H Q next → Gives whole H Q (m >> next)
  gives_after {m} {next} h f = record {
    from = λ st. if_bind (GivesTo whole H P st) (GivesTo whole H Q st) (m st) (λ made. next made.1) (h.from st)
        (λ made k. if_more (GivesTo whole H Q made.1) (GivesTo whole H Q st) (next made.1) (f.from made.1)
        (λ end l. (
          kept_then st.structs made.1.structs end.1.structs k.0 l.0,
          λ agrees sound hyp. let first = k.1 (agrees_before made.1.structs end.1.structs whole l.0 agrees) sound hyp in l.1 agrees first.0 hyp,
        )));
  }

-- ---- changes of the state

module _ {whole : Structs} (H : Type 0) where
  pub gives_test : (offset : ℕ) (tests : State → List (Bool × TypeFaultKind)) → Gives whole H Any (check offset tests)
  gives_test offset tests = record { from = λ st. by_tests st (faults_at offset (tests st)) }
    where
      by_tests : (st : State) (r : Result (Unit {0}) Fault) → IfOk (bind r (λ x. Ok (x, st))) (GivesTo whole H Any st)
      by_tests st (Ok x) = (kept_itself st.structs, λ agrees sound h. (sound, tt))
      by_tests st (Err e) = tt

  pub gives_declare : (name : List ℕ) (meaning : Meaning) → (H → IsFineMeaning whole meaning) → Gives whole H Any (declare name meaning)
  gives_declare name meaning f = record {
    from = λ st. (
      kept_itself st.structs,
      λ agrees sound h.
          let both = declared-each (IsFineMeaning whole) st.names name meaning (f h) sound.file_names sound.block_names in
          (record { file_names = both.0; block_names = both.1; file_tags = sound.file_tags; block_tags = sound.block_tags; fine = sound.fine }, tt),
    );
  }

  pub gives_declare_tag : (tag : List ℕ) (meaning : Tag) → IsTag meaning → Gives whole H Any (declare_tag tag meaning)
  gives_declare_tag tag meaning is = record {
    from = λ st. (
      kept_itself st.structs,
      λ agrees sound h.
          let both = declared-each IsTag st.tags tag meaning is sound.file_tags sound.block_tags in
          (record { file_names = sound.file_names; block_names = sound.block_names; file_tags = both.0; block_tags = both.1; fine = sound.fine }, tt),
    );
  }

  pub gives_new_struct : (definition : Definition) → IsFineDefinition whole definition → Gives whole H Any (new_struct definition)
  gives_new_struct definition is = record {
    from = λ st. (
      record { stay = λ i d e f. get_append st.structs (definition ∷ []) i d e },
      λ agrees sound h. (record { file_names = sound.file_names; block_names = sound.block_names; file_tags = sound.file_tags; block_tags = sound.block_tags; fine = each_append (IsFineDefinition whole) st.structs (definition ∷ []) sound.fine (is, tt) }, tt),
    );
  }

  same_sound : (st later : State) → later.names ≡ st.names → later.tags ≡ st.tags → later.structs ≡ st.structs → Sound whole st → Sound whole later
  same_sound st later e f g sound = record {
    file_names = subst (λ (n : Scopes Meaning). AreAll (IsFineMeaning whole) n.file) (sym e) sound.file_names;
    block_names = subst (λ (n : Scopes Meaning). Each (AreAll (IsFineMeaning whole)) n.blocks) (sym e) sound.block_names;
    file_tags = subst (λ (n : Scopes Tag). AreAll IsTag n.file) (sym f) sound.file_tags;
    block_tags = subst (λ (n : Scopes Tag). Each (AreAll IsTag) n.blocks) (sym f) sound.block_tags;
    fine = subst (AreFine whole) (sym g) sound.fine;
  }

  pub gives_new_local : (type : CType) → Gives whole H Any (new_local type)
  gives_new_local type = record { from = λ st. (kept_itself st.structs, λ agrees sound h. (same_sound st _ refl refl refl sound, tt)) }

  pub gives_new_result : (type : CType) → Gives whole H Any (new_result type)
  gives_new_result type = record { from = λ st. (kept_itself st.structs, λ agrees sound h. (same_sound st _ refl refl refl sound, tt)) }

  pub gives_mention : (name : List ℕ) → Gives whole H Any (mention name)
  gives_mention name = record { from = λ st. (kept_itself st.structs, λ agrees sound h. (same_sound st _ refl refl refl sound, tt)) }

  pub gives_start_body : Gives whole H Any (change start_body)
  gives_start_body = record { from = λ st. (kept_itself st.structs, λ agrees sound h. (same_sound st _ refl refl refl sound, tt)) }

  pub gives_new_loop : Gives whole H Any new_loop
  gives_new_loop = record { from = λ st. (kept_itself st.structs, λ agrees sound h. (same_sound st _ refl refl refl sound, tt)) }

  pub gives_new_call : Gives whole H Any new_call
  gives_new_call = record { from = λ st. (kept_itself st.structs, λ agrees sound h. (same_sound st _ refl refl refl sound, tt)) }

-- ---- blocks

pub sound_opened : (whole : Structs) (st : State) → Sound whole st → Sound whole (open_block st)
sound_opened whole st sound = record { file_names = sound.file_names; block_names = (tt, sound.block_names); file_tags = sound.file_tags; block_tags = (tt, sound.block_tags); fine = sound.fine }

each_closed : {M : Type 0} (P : M → Type 0) (blocks : List (List (List ℕ × M))) → Each (AreAll P) blocks → Each (AreAll P) (inner_closed blocks)
each_closed P [] h = tt
each_closed P (block ∷ blocks) h = h.1

all_mean-each : {M : Type 0} (P : M → Type 0) (m : M) (block : List (List ℕ × M)) → P m → AreAll P (all_mean m block)
all_mean-each P m [] h = tt
all_mean-each P m (entry ∷ block) h = (h, all_mean-each P m block h)

each_hidden : {M : Type 0} (P : M → Type 0) (m : M) (blocks : List (List (List ℕ × M))) → P m → Each (AreAll P) blocks → Each (AreAll P) (inner_hidden m blocks)
each_hidden P m [] p h = tt
each_hidden P m (block ∷ []) p h = tt
each_hidden {M} P m (block ∷ outer ∷ blocks) p h = (each_append (λ (entry : List ℕ × M). P entry.1) (all_mean m block) outer (all_mean-each P m block p) h.1.0, h.1.1)

pub sound_closed : (whole : Structs) (st : State) → Sound whole st → Sound whole (close_block st)
sound_closed whole st sound = record {
  file_names = sound.file_names;
  block_names = each_closed (IsFineMeaning whole) st.names.blocks sound.block_names;
  file_tags = sound.file_tags;
  block_tags = each_closed IsTag st.tags.blocks sound.block_tags;
  fine = sound.fine;
}

sound_hidden : (whole : Structs) (st : State) → Sound whole st → Sound whole (hide_block st)
sound_hidden whole st sound = record {
  file_names = sound.file_names;
  block_names = each_hidden (IsFineMeaning whole) Hidden st.names.blocks tt sound.block_names;
  file_tags = sound.file_tags;
  block_tags = each_hidden IsTag HiddenTag st.tags.blocks tt sound.block_tags;
  fine = sound.fine;
}

module _ {A : Type 0} {whole : Structs} {H : Type 0} {P : A → Type 0} {m : Typing A} where
  pub gives_block : Gives whole H P m → Gives whole H P (block m)
  gives_block h = record {
    from = λ st. if_bind (GivesTo whole H P (open_block st)) (GivesTo whole H P st) (m (open_block st)) (λ made. Ok (made.0, close_block made.1)) (h.from (open_block st))
        (λ made k. (k.0, λ agrees sound hyp. let all = k.1 agrees (sound_opened whole st sound) hyp in (sound_closed whole made.1 all.0, all.1)));
  }

  pub gives_hidden_block : Gives whole H P m → Gives whole H P (hidden_block m)
  gives_hidden_block h = record {
    from = λ st. if_bind (GivesTo whole H P (open_block st)) (GivesTo whole H P st) (m (open_block st)) (λ made. Ok (made.0, hide_block made.1)) (h.from (open_block st))
        (λ made k. (k.0, λ agrees sound hyp. let all = k.1 agrees (sound_opened whole st sound) hyp in (sound_hidden whole made.1 all.0, all.1)));
  }
