-- Parts of a unit that change names, tags and structs alone: expressions and types. What holds of such a part follows
-- from what holds of its parts.
use Rattle.std.proofs.Common.{◌≡◌, ℕ, Bool, true, false, List, [], ◌∷◌, ◌++◌, IfOk, Result, Ok, Err, refl, if◌then◌else◌}
use Rattle.std.specs.List.{slice_set}
use Rattle.c_types_spec.specs.declared.TypeFaultKind.{TypeFaultKind}
use Rattle.c_types_spec.specs.Types.{Structs, Definition}
use Rattle.c_types_spec.specs.Names.{Tag, State, Fault, Typing, give, bind, ◌>>=◌, ◌>>◌, by, rule, refuse, check, faults_at, fail, declared, new_struct, define_struct, declare_tag}
use Rattle.c_types_spec.specs.Expressions.{with_structs}
use Rattle.c_types_spec.specs.HasType.{Scope}
use Rattle.c_types_laws.proofs.Results.{if_bind, if_any, if_more}
use Rattle.c_types_laws.proofs.Scopes.{Each, each_append, each_set, declared-each}
use Rattle.c_types_laws.proofs.Types.{IsSmallDefinition, AreSmall}
use Rattle.c_types_laws.proofs.States.{Holds, IsTag, Stays, stays_itself, stays_then, stays_tags, Covers, covers_before}

-- what a part gives, and the state after it: in each scope that covers that state, if H holds there, P holds of the value
abbrev pub ReadsTo : {A : Type 0} → (H : Scope → Type 0) → (P : Scope → A → Type 0) → State → A × State → Type 0
ReadsTo H P st made = Stays st made.1 × ((scope : Scope) (first : ℕ) → Covers scope first made.1 → H scope → P scope made.0)

pub record Reads {A : Type 0} (H : Scope → Type 0) (P : Scope → A → Type 0) (m : Typing A) : Type 0 where
  pub from : (st : State) → Holds st → IfOk (m st) (ReadsTo H P st)

-- nothing is asked of a scope, or of a value
abbrev pub Always : Scope → Type 0
Always scope = Unit {0}

abbrev pub Anything : {A : Type 0} → Scope → A → Type 0
Anything scope x = Unit {0}

module _ {A : Type 0} (H : Scope → Type 0) (P : Scope → A → Type 0) where
  -- a part that leaves the state
  by-reads : (st : State) (r : Result A Fault) → Holds st → ((scope : Scope) (first : ℕ) → Covers scope first st → H scope → IfOk r (P scope)) → IfOk (bind r (λ x. Ok (x, st))) (ReadsTo H P st)
  by-reads st (Ok x) holds f = (stays_itself st holds, f)
  by-reads st (Err e) holds f = tt

  pub reads_by : (made : State → Result A Fault) → ((st : State) → Holds st → (scope : Scope) (first : ℕ) → Covers scope first st → H scope → IfOk (made st) (P scope)) → Reads H P (by made)
  reads_by made f = record { from = λ st holds. by-reads st (made st) holds (f st holds) }

  pub reads_rule : (r : Result A Fault) → ((scope : Scope) → H scope → IfOk r (P scope)) → Reads H P (rule r)
  reads_rule r f = record { from = λ st holds. by-reads st r holds (λ scope first covers h. f scope h) }

  pub reads_structs : (made : Structs → Result A Fault) → ((structs : Structs) → AreSmall structs → (scope : Scope) → H scope → IfOk (made structs) (P scope)) → Reads H P (with_structs made)
  reads_structs made f = record { from = λ st holds. by-reads st (made st.structs) holds (λ scope first covers h. f st.structs holds.small_structs scope h) }

  pub reads_give : (x : A) → ((scope : Scope) → H scope → P scope x) → Reads H P (give x)
  reads_give x f = record { from = λ st holds. (stays_itself st holds, λ scope first covers h. f scope h) }

  -- more is known of the scope, or less asked of the value
  pub reads_more : (G : Scope → Type 0) (Q : Scope → A → Type 0) (m : Typing A) → ((scope : Scope) → H scope → G scope) → ((scope : Scope) (x : A) → Q scope x → P scope x) → Reads G Q m → Reads H P m
  reads_more G Q m f g h = record {
    from = λ st holds. if_more (ReadsTo G Q st) (ReadsTo H P st) (m st) (h.from st holds)
        (λ made k. (k.0, λ scope first covers l. g scope made.0 (k.1 scope first covers (f scope l))));
  }

module _ {A B : Type 0} {H : Scope → Type 0} {P : Scope → A → Type 0} {Q : Scope → B → Type 0} where
  -- one part after the other
  pub reads_then : {m : Typing A} {next : A → Typing B} → Reads H P m → ((x : A) → Reads (λ scope. H scope × P scope x) Q (next x)) → Reads H Q (m >>= next)
  reads_then {m} {next} h f = record {
    from = λ st holds. if_bind (ReadsTo H P st) (ReadsTo H Q st) (m st) (λ made. next made.0 made.1) (h.from st holds)
        (λ made k. if_more (ReadsTo (λ scope. H scope × P scope made.0) Q made.1) (ReadsTo H Q st) (next made.0 made.1) ((f made.0).from made.1 k.0.grows.holds)
        (λ end l. (stays_then st made.1 end.1 k.0 l.0, λ scope first covers hyp. l.1 scope first covers (hyp, k.1 scope first (covers_before scope first made.1 end.1 l.0.grows covers) hyp))));
  }

  pub reads_after : {m : Typing A} {next : Typing B} → Reads H P m → Reads H Q next → Reads H Q (m >> next)
  reads_after {m} {next} h f = record {
    from = λ st holds. if_bind (ReadsTo H P st) (ReadsTo H Q st) (m st) (λ made. next made.1) (h.from st holds)
        (λ made k. if_more (ReadsTo H Q made.1) (ReadsTo H Q st) (next made.1) (f.from made.1 k.0.grows.holds)
        (λ end l. (stays_then st made.1 end.1 k.0 l.0, l.1)));
  }

-- what holds in every scope holds where more is known
pub reads_given : {A : Type 0} (H : Scope → Type 0) (P : Scope → A → Type 0) (m : Typing A) → Reads Always P m → Reads H P m
reads_given H P m h = reads_more H P Always P m (λ scope _. tt) (λ scope x k. k) h

-- ---- parts that give types, of which nothing is said in a scope

-- R holds of the value, whatever the scope
abbrev pub MakesTo : {A : Type 0} → (R : A → Type 0) → State → A × State → Type 0
MakesTo R st made = Stays st made.1 × R made.0

pub record Makes {A : Type 0} (R : A → Type 0) (m : Typing A) : Type 0 where
  pub makes : (st : State) → Holds st → IfOk (m st) (MakesTo R st)

-- nothing is said of the value
abbrev pub Any : {A : Type 0} → A → Type 0
Any x = Unit {0}

module _ {A : Type 0} (R : A → Type 0) where
  by-makes : (st : State) (r : Result A Fault) → Holds st → IfOk r R → IfOk (bind r (λ x. Ok (x, st))) (MakesTo R st)
  by-makes st (Ok x) holds h = (stays_itself st holds, h)
  by-makes st (Err e) holds h = tt

  pub makes_by : (made : State → Result A Fault) → ((st : State) → Holds st → IfOk (made st) R) → Makes R (by made)
  makes_by made f = record { makes = λ st holds. by-makes st (made st) holds (f st holds) }

  pub makes_rule : (r : Result A Fault) → IfOk r R → Makes R (rule r)
  makes_rule r h = record { makes = λ st holds. by-makes st r holds h }

  pub makes_structs : (made : Structs → Result A Fault) → ((structs : Structs) → AreSmall structs → IfOk (made structs) R) → Makes R (with_structs made)
  makes_structs made f = record { makes = λ st holds. by-makes st (made st.structs) holds (f st.structs holds.small_structs) }

  pub makes_give : (x : A) → R x → Makes R (give x)
  makes_give x h = record { makes = λ st holds. (stays_itself st holds, h) }

  pub makes_refuse : (kind : TypeFaultKind) (offset : ℕ) → Makes R (refuse kind offset)
  makes_refuse kind offset = record { makes = λ st holds. tt }

  -- what the state says comes first
  pub makes_state : (made : State → Typing A) → ((st : State) → Holds st → Makes R (made st)) → Makes R (λ st. made st st)
  makes_state made f = record { makes = λ st holds. (f st holds).makes st holds }

  pub makes_reads : (m : Typing A) → Makes R m → Reads Always (λ scope x. R x) m
  makes_reads m h = record { from = λ st holds. if_more (MakesTo R st) (ReadsTo Always (λ scope x. R x) st) (m st) (h.makes st holds) (λ made k. (k.0, λ scope first covers l. k.1)) }

module _ {A B : Type 0} {R : A → Type 0} {S : B → Type 0} where
  pub makes_then : {m : Typing A} {next : A → Typing B} → Makes R m → ((x : A) → R x → Makes S (next x)) → Makes S (m >>= next)
  makes_then {m} {next} h f = record {
    makes = λ st holds. if_bind (MakesTo R st) (MakesTo S st) (m st) (λ made. next made.0 made.1) (h.makes st holds)
        (λ made k. if_more (MakesTo S made.1) (MakesTo S st) (next made.0 made.1) ((f made.0 k.1).makes made.1 k.0.grows.holds) (λ end l. (stays_then st made.1 end.1 k.0 l.0, l.1)));
  }

  pub makes_after : {m : Typing A} {next : Typing B} → Makes R m → Makes S next → Makes S (m >> next)
  makes_after {m} {next} h f = record {
    makes = λ st holds. if_bind (MakesTo R st) (MakesTo S st) (m st) (λ made. next made.1) (h.makes st holds)
        (λ made k. if_more (MakesTo S made.1) (MakesTo S st) (next made.1) (f.makes made.1 k.0.grows.holds) (λ end l. (stays_then st made.1 end.1 k.0 l.0, l.1)));
  }

-- an expression, of which nothing is said then
pub reads_makes : {A : Type 0} (P : Scope → A → Type 0) (m : Typing A) → Reads Always P m → Makes Any m
reads_makes P m h = record { makes = λ st holds. if_more (ReadsTo Always P st) (MakesTo Any st) (m st) (h.from st holds) (λ made k. (k.0, tt)) }

pub makes_check : (offset : ℕ) (tests : State → List (Bool × TypeFaultKind)) → Makes Any (check offset tests)
makes_check offset tests = makes_by Any _ (λ st holds. if_any (faults_at offset (tests st)))

pub reads_check : (offset : ℕ) (tests : State → List (Bool × TypeFaultKind)) → Reads Always Anything (check offset tests)
reads_check offset tests = makes_reads Any _ (makes_check offset tests)

pub makes_new_struct : (definition : Definition) → IsSmallDefinition definition → Makes Any (new_struct definition)
makes_new_struct definition h = record {
  makes = λ st holds. (stays_tags st st.tags (st.structs ++ definition ∷ []) holds holds.file_tags holds.block_tags (each_append IsSmallDefinition st.structs (definition ∷ []) holds.small_structs (h, tt)), tt);
}

pub makes_define_struct : (number : ℕ) (definition : Definition) → IsSmallDefinition definition → Makes Any (define_struct number definition)
makes_define_struct number definition h = record {
  makes = λ st holds. (stays_tags st st.tags (slice_set st.structs number definition) holds holds.file_tags holds.block_tags (each_set IsSmallDefinition st.structs number definition h holds.small_structs), tt);
}

pub makes_declare_tag : (tag : List ℕ) (meaning : Tag) → IsTag meaning → Makes Any (declare_tag tag meaning)
makes_declare_tag tag meaning h = record {
  makes = λ st holds. let both = declared-each IsTag st.tags tag meaning h holds.file_tags holds.block_tags in
      (stays_tags st (declared tag meaning st.tags) st.structs holds both.0 both.1 holds.small_structs, tt);
}

-- ---- what passes the tests

pub faults_at-none : (offset : ℕ) (tests : List (Bool × TypeFaultKind)) → IfOk (faults_at offset tests) (λ _. Each (λ (test : Bool × TypeFaultKind). test.0 ≡ false) tests)
faults_at-none offset [] = tt
faults_at-none offset (test ∷ tests) = by_test test.0 refl (faults_at-none offset tests)
  where
    by_test : (b : Bool) → test.0 ≡ b → IfOk (faults_at offset tests) (λ _. Each (λ (t : Bool × TypeFaultKind). t.0 ≡ false) tests)
        → IfOk (if b then fail test.1 offset else faults_at offset tests) (λ _. (test.0 ≡ false) × Each (λ (t : Bool × TypeFaultKind). t.0 ≡ false) tests)
    by_test true e again = tt
    by_test false e again = if_more _ _ (faults_at offset tests) again (λ x k. (e, k))

-- a check, and then what the tests that failed say
pub if_check : {A : Type 0} (Q : A × State → Type 0) (offset : ℕ) (tests : State → List (Bool × TypeFaultKind)) (next : Typing A) (st : State)
    → (Each (λ (test : Bool × TypeFaultKind). test.0 ≡ false) (tests st) → IfOk (next st) Q) → IfOk ((check offset tests >> next) st) Q
if_check Q offset tests next st f = by_result (faults_at offset (tests st)) (faults_at-none offset (tests st))
  where
    by_result : (r : Result (Unit {0}) Fault) → IfOk r (λ _. Each (λ (test : Bool × TypeFaultKind). test.0 ≡ false) (tests st)) → IfOk (bind {A = Unit {0} × State} (bind r (λ x. Ok (x, st))) (λ made. next made.1)) Q
    by_result (Ok x) k = f k
    by_result (Err e) k = tt
