-- Parts of a function's body: they declare locals, and number loops and calls. What holds of such a part follows from
-- what holds of its parts.
use Rattle.std.proofs.Common.{◌≡◌, ℕ, zero, suc, ◌+◌, ◌<◌, Bool, false, List, [], ◌∷◌, length, IfOk, Result, Ok, Err, refl, sym, ap, subst, ◌∙◌, arith}
use Rattle.c_types_spec.specs.declared.TypeFaultKind.{TypeFaultKind}
use Rattle.c_types_spec.specs.Types.{CType}
use Rattle.c_types_spec.specs.Core.{Action}
use Rattle.c_types_spec.specs.Names.{Meaning, Hidden, Tag, HiddenTag, all_mean, inner_closed, inner_hidden, State, Fault, Typing, give, bind, ◌>>=◌, ◌>>◌, by, rule, refuse, check, block, hidden_block, open_block, close_block, hide_block, new_loop, new_call}
use Rattle.c_types_spec.specs.Statements.{Context}
use Rattle.c_types_spec.specs.HasType.{Scope}
use Rattle.c_types_laws.proofs.Results.{if_bind, if_more}
use Rattle.c_types_laws.proofs.Scopes.{Each, AreAll, each_append}
use Rattle.c_types_laws.proofs.States.{Holds, AreInner, IsInner, IsTag, Grows, grows_itself, grows_then, begins_itself, known_itself, Covers, covers_before}
use Rattle.c_types_laws.proofs.Readings.{Reads, ReadsTo, Always, Makes, MakesTo, if_check}
use Rattle.c_types_laws.proofs.Actions.{Good, Calm, Runs, Start, Returns, calm_good}

-- the state is inside a block
abbrev pub Inside : State → Type 0
Inside st = 0 < length st.names.blocks

-- a part that declares n locals: from what H knows before follows what P knows after it, in each scope that covers the
-- state then; `first` is the number of the first local for results
abbrev pub StepsTo : {A : Type 0} → (first : ℕ) → (H : Scope → ℕ → ℕ → Type 0) → (P : Scope → ℕ → ℕ → A → Type 0) → (n : ℕ) → State → A × State → Type 0
StepsTo first H P n st made =
    Grows st made.1 × (length made.1.locals ≡ length st.locals + n) × ((scope : Scope) → Covers scope first made.1 → H scope st.loops st.calls → P scope made.1.loops made.1.calls made.0)

pub record Steps {A : Type 0} (first : ℕ) (H : Scope → ℕ → ℕ → Type 0) (P : Scope → ℕ → ℕ → A → Type 0) (n : ℕ) (m : Typing A) : Type 0 where
  pub from : (st : State) → Holds st → Inside st → IfOk (m st) (StepsTo first H P n st)

pub same_length : (n : ℕ) → n ≡ n + 0
same_length n = omega arith

module _ {A : Type 0} (first : ℕ) (H : Scope → ℕ → ℕ → Type 0) (P : Scope → ℕ → ℕ → A → Type 0) where
  by-steps : (st : State) (r : Result A Fault) → Holds st → ((scope : Scope) → Covers scope first st → H scope st.loops st.calls → IfOk r (P scope st.loops st.calls)) → IfOk (bind r (λ x. Ok (x, st))) (StepsTo first H P 0 st)
  by-steps st (Ok x) holds f = (grows_itself st holds, same_length (length st.locals), f)
  by-steps st (Err e) holds f = tt

  pub steps_by : (made : State → Result A Fault) → ((st : State) → Holds st → (scope : Scope) → Covers scope first st → H scope st.loops st.calls → IfOk (made st) (P scope st.loops st.calls)) → Steps first H P 0 (by made)
  steps_by made f = record { from = λ st holds inside. by-steps st (made st) holds (f st holds) }

  pub steps_rule : (r : Result A Fault) → ((scope : Scope) (l c : ℕ) → H scope l c → IfOk r (P scope l c)) → Steps first H P 0 (rule r)
  steps_rule r f = record { from = λ st holds inside. by-steps st r holds (λ scope covers h. f scope st.loops st.calls h) }

  pub steps_give : (x : A) → ((scope : Scope) (l c : ℕ) → H scope l c → P scope l c x) → Steps first H P 0 (give x)
  steps_give x f = record { from = λ st holds inside. (grows_itself st holds, same_length (length st.locals), λ scope covers h. f scope st.loops st.calls h) }

  pub steps_refuse : (kind : TypeFaultKind) (offset : ℕ) → Steps first H P 0 (refuse kind offset)
  steps_refuse kind offset = record { from = λ st holds inside. tt }

  pub steps_count : (m n : ℕ) (part : Typing A) → m ≡ n → Steps first H P m part → Steps first H P n part
  steps_count m n part e h = subst (λ k. Steps first H P k part) e h

  pub steps_more : (G : Scope → ℕ → ℕ → Type 0) (Q : Scope → ℕ → ℕ → A → Type 0) (n : ℕ) (m : Typing A) → ((scope : Scope) (l c : ℕ) → H scope l c → G scope l c) → ((scope : Scope) (l c : ℕ) (x : A) → Q scope l c x → P scope l c x)
      → Steps first G Q n m → Steps first H P n m
  steps_more G Q n m f g h = record {
    from = λ st holds inside. if_more (StepsTo first G Q n st) (StepsTo first H P n st) (m st) (h.from st holds inside)
        (λ made k. (k.0, k.1, λ scope covers l. g scope made.1.loops made.1.calls made.0 (k.2 scope covers (f scope st.loops st.calls l))));
  }

  -- what a scope has, it keeps
  pub steps_keep : (X : Scope → Type 0) (n : ℕ) (m : Typing A) → Steps first H P n m → Steps first (λ scope l c. X scope × H scope l c) (λ scope l c x. X scope × P scope l c x) n m
  steps_keep X n m h = record {
    from = λ st holds inside. if_more (StepsTo first H P n st) (StepsTo first (λ scope l c. X scope × H scope l c) (λ scope l c x. X scope × P scope l c x) n st) (m st) (h.from st holds inside)
        (λ made k. (k.0, k.1, λ scope covers l. (l.0, k.2 scope covers l.1)));
  }

  -- what passes a check
  pub steps_check : (offset : ℕ) (tests : State → List (Bool × TypeFaultKind)) (n : ℕ) (next : Typing A) → ((st : State) → Each (λ (test : Bool × TypeFaultKind). test.0 ≡ false) (tests st) → Steps first H P n next)
      → Steps first H P n (check offset tests >> next)
  steps_check offset tests n next f = record { from = λ st holds inside. if_check (StepsTo first H P n st) offset tests next st (λ none. (f st none).from st holds inside) }

-- an expression or a type
pub steps_reads : {A : Type 0} (first : ℕ) (H : Scope → ℕ → ℕ → Type 0) (P : Scope → A → Type 0) (m : Typing A) → Reads Always P m → Steps first H (λ scope l c x. H scope l c × P scope x) 0 m
steps_reads {A} first H P m h = record {
  from = λ st holds inside. if_more (ReadsTo Always P st) (StepsTo first H (λ scope l c x. H scope l c × P scope x) 0 st) (m st) (h.from st holds)
      (λ made k. (
        k.0.grows,
        ap length k.0.same_locals ∙ same_length (length st.locals),
        λ scope covers l. (subst (λ t. H scope made.1.loops t) (sym k.0.same_calls) (subst (λ t. H scope t st.calls) (sym k.0.same_loops) l), k.1 scope first covers tt),
      ));
}

pub inside_later : (st later : State) → Grows st later → Inside st → Inside later
inside_later st later grows inside = subst (λ n. 0 < n) (sym grows.depth) inside

module _ {A B : Type 0} (first : ℕ) (H : Scope → ℕ → ℕ → Type 0) (P : Scope → ℕ → ℕ → A → Type 0) (Q : Scope → ℕ → ℕ → B → Type 0) where
  joined : (st : State) (a b : ℕ) (made : A × State) (end : B × State) → StepsTo first H P a st made → StepsTo first (λ scope l c. P scope l c made.0) Q b made.1 end → StepsTo first H Q (a + b) st end
  joined st a b made end k l = (
    grows_then st made.1 end.1 k.0 l.0,
    (let e : length made.1.locals ≡ length st.locals + a = k.1 in let f : length end.1.locals ≡ length made.1.locals + b = l.1 in omega arith),
    λ scope covers h. l.2 scope covers (k.2 scope (covers_before scope first made.1 end.1 l.0 covers) h),
  )

module _ {A B : Type 0} {first : ℕ} {H : Scope → ℕ → ℕ → Type 0} {P : Scope → ℕ → ℕ → A → Type 0} {Q : Scope → ℕ → ℕ → B → Type 0} where
  -- one part after the other
  pub steps_then : {m : Typing A} {next : A → Typing B} (a b : ℕ) → Steps first H P a m → ((x : A) → Steps first (λ scope l c. P scope l c x) Q b (next x)) → Steps first H Q (a + b) (m >>= next)
  steps_then {m} {next} a b h f = record {
    from = λ st holds inside. if_bind (StepsTo first H P a st) (StepsTo first H Q (a + b) st) (m st) (λ made. next made.0 made.1) (h.from st holds inside)
        (λ made k. if_more (StepsTo first (λ scope l c. P scope l c made.0) Q b made.1) (StepsTo first H Q (a + b) st) (next made.0 made.1) ((f made.0).from made.1 k.0.holds (inside_later st made.1 k.0 inside))
        (λ end l. joined first H P Q st a b made end k l));
  }

  -- where the first part declares no local, or the second
  pub steps_next : {m : Typing A} {next : A → Typing B} (n : ℕ) → Steps first H P 0 m → ((x : A) → Steps first (λ scope l c. P scope l c x) Q n (next x)) → Steps first H Q n (m >>= next)
  steps_next {m} {next} n h f = steps_count first H Q (0 + n) n (m >>= next) (omega arith) (steps_then 0 n h f)

  pub steps_last : {m : Typing A} {next : A → Typing B} (n : ℕ) → Steps first H P n m → ((x : A) → Steps first (λ scope l c. P scope l c x) Q 0 (next x)) → Steps first H Q n (m >>= next)
  steps_last {m} {next} n h f = steps_count first H Q (n + 0) n (m >>= next) (omega arith) (steps_then n 0 h f)

-- a type, or what else is said of a value whatever the scope
pub steps_makes : {A B : Type 0} {first : ℕ} {H : Scope → ℕ → ℕ → Type 0} {Q : Scope → ℕ → ℕ → B → Type 0} {R : A → Type 0} {m : Typing A} {next : A → Typing B} (n : ℕ) → Makes R m → ((x : A) → R x → Steps first H Q n (next x)) → Steps first H Q n (m >>= next)
steps_makes {A} {B} {first} {H} {Q} {R} {m} {next} n h f = record {
  from = λ st holds inside. if_bind (MakesTo R st) (StepsTo first H Q n st) (m st) (λ made. next made.0 made.1) (h.makes st holds)
      (λ made k. if_more (StepsTo first H Q n made.1) (StepsTo first H Q n st) (next made.0 made.1) ((f made.0 k.1).from made.1 k.0.grows.holds (inside_later st made.1 k.0.grows inside))
      (λ end l. (
        grows_then st made.1 end.1 k.0.grows l.0,
        l.1 ∙ ap (λ (xs : List CType). length xs + n) k.0.same_locals,
        λ scope covers hyp. l.2 scope covers (subst (λ t. H scope made.1.loops t) (sym k.0.same_calls) (subst (λ t. H scope t st.calls) (sym k.0.same_loops) hyp)),
      )));
}

if_both : {A : Type 0} (P Q : A → Type 0) (r : Result A Fault) → IfOk r P → IfOk r Q → IfOk r (λ x. P x × Q x)
if_both P Q (Ok x) h k = (h, k)
if_both P Q (Err e) h k = tt

-- a part of which more is known, whatever the scope
pub steps_with : {A B : Type 0} {first : ℕ} {H : Scope → ℕ → ℕ → Type 0} {P : Scope → ℕ → ℕ → A → Type 0} {Q : Scope → ℕ → ℕ → B → Type 0} {m : Typing A} {next : A → Typing B} (R : A → Type 0) (n : ℕ)
    → ((st : State) → Holds st → Inside st → IfOk (m st) (λ made. R made.0)) → Steps first H P 0 m → ((x : A) → R x → Steps first (λ scope l c. P scope l c x) Q n (next x)) → Steps first H Q n (m >>= next)
steps_with {A} {B} {first} {H} {P} {Q} {m} {next} R n pure h f = record {
  from = λ st holds inside. if_bind (λ made. StepsTo first H P 0 st made × R made.0) (StepsTo first H Q n st) (m st) (λ made. next made.0 made.1)
      (if_both (StepsTo first H P 0 st) (λ made. R made.0) (m st) (h.from st holds inside) (pure st holds inside))
      (λ made k. if_more (StepsTo first (λ scope l c. P scope l c made.0) Q n made.1) (StepsTo first H Q n st) (next made.0 made.1) ((f made.0 k.1).from made.1 k.0.0.holds (inside_later st made.1 k.0.0 inside))
      (λ end l. (
        grows_then st made.1 end.1 k.0.0 l.0,
        (let e : length made.1.locals ≡ length st.locals + 0 = k.0.1 in let g : length end.1.locals ≡ length made.1.locals + n = l.1 in omega arith),
        λ scope covers hyp. l.2 scope covers (k.0.2 scope (covers_before scope first made.1 end.1 l.0 covers) hyp),
      )));
}

-- ---- numbers

-- loops and calls are counted, and nothing else
grows_numbers : (st : State) (l c : ℕ) → Holds st → Grows st (record st { loops = l; calls = c })
grows_numbers st l c holds = record {
  more_locals = begins_itself st.locals;
  more_results = begins_itself st.results;
  depth = refl;
  known = known_itself st.names.file;
  holds = record { outer = holds.outer; inner = holds.inner; scalars = holds.scalars; others = holds.others; file_tags = holds.file_tags; block_tags = holds.block_tags; small_structs = holds.small_structs };
}

pub steps_new_loop : (first : ℕ) (H : Scope → ℕ → ℕ → Type 0) → Steps first H (λ scope l c number. (suc number ≡ l) × H scope number c) 0 new_loop
steps_new_loop first H = record { from = λ st holds inside. (grows_numbers st (suc st.loops) st.calls holds, same_length (length st.locals), λ scope covers h. (refl, h)) }

pub steps_new_call : (first : ℕ) (H : Scope → ℕ → ℕ → Type 0) → Steps first H (λ scope l c number. (suc number ≡ c) × H scope l number) 0 new_call
steps_new_call first H = record { from = λ st holds inside. (grows_numbers st st.loops (suc st.calls) holds, same_length (length st.locals), λ scope covers h. (refl, h)) }

-- ---- blocks

pub holds_opened : (st : State) → Holds st → Holds (open_block st)
holds_opened st holds = record { outer = holds.outer; inner = (tt, holds.inner); scalars = holds.scalars; others = holds.others; file_tags = holds.file_tags; block_tags = (tt, holds.block_tags); small_structs = holds.small_structs }

-- the tags that a block leaves
pub tags_closed : (blocks : List (List (List ℕ × Tag))) → Each (AreAll IsTag) blocks → Each (AreAll IsTag) (inner_closed blocks)
tags_closed [] h = tt
tags_closed (block ∷ blocks) h = h.1

tags_mean : (block : List (List ℕ × Tag)) → AreAll IsTag (all_mean HiddenTag block)
tags_mean [] = tt
tags_mean (entry ∷ block) = (tt, tags_mean block)

tags_hidden : (blocks : List (List (List ℕ × Tag))) → Each (AreAll IsTag) blocks → Each (AreAll IsTag) (inner_hidden HiddenTag blocks)
tags_hidden [] h = tt
tags_hidden (block ∷ []) h = tt
tags_hidden (block ∷ outer ∷ blocks) h = (each_append (λ (entry : List ℕ × Tag). IsTag entry.1) (all_mean HiddenTag block) outer (tags_mean block) h.1.0, h.1.1)

-- what a block leaves of the scopes
pub left : (locals : List CType) (n : ℕ) (blocks : List (List (List ℕ × Meaning))) → length blocks ≡ suc n → Each (AreInner locals) blocks → (length (inner_closed blocks) ≡ n) × Each (AreInner locals) (inner_closed blocks)
left locals n [] e h = absurd (omega arith)
left locals n (block ∷ blocks) e h = (omega arith, h.1)

all_mean-each : (locals : List CType) (block : List (List ℕ × Meaning)) → AreInner locals (all_mean Hidden block)
all_mean-each locals [] = tt
all_mean-each locals (entry ∷ block) = (tt, all_mean-each locals block)

left_hidden : (locals : List CType) (n : ℕ) (blocks : List (List (List ℕ × Meaning))) → length blocks ≡ suc (suc n) → Each (AreInner locals) blocks
    → (length (inner_hidden Hidden blocks) ≡ suc n) × Each (AreInner locals) (inner_hidden Hidden blocks)
left_hidden locals n [] e h = absurd (omega arith)
left_hidden locals n (block ∷ []) e h = absurd (omega arith)
left_hidden locals n (block ∷ outer ∷ blocks) e h =
    (omega arith, (each_append (λ (entry : List ℕ × Meaning). IsInner locals entry.1) (all_mean Hidden block) outer (all_mean-each locals block) h.1.0, h.1.1))

pub grows_closed : (st later : State) → Grows (open_block st) later → Grows st (close_block later)
grows_closed st later grows =
    let parts = left later.locals (length st.names.blocks) later.names.blocks grows.depth grows.holds.inner in
    record {
      more_locals = grows.more_locals;
      more_results = grows.more_results;
      depth = parts.0;
      known = grows.known;
      holds = record { outer = grows.holds.outer; inner = parts.1; scalars = grows.holds.scalars; others = grows.holds.others; file_tags = grows.holds.file_tags; block_tags = tags_closed later.tags.blocks grows.holds.block_tags; small_structs = grows.holds.small_structs };
    }

grows_hidden : (st later : State) → Inside st → Grows (open_block st) later → Grows st (hide_block later)
grows_hidden st later inside grows = by_length (length st.names.blocks) refl
  where
    by_length : (n : ℕ) → length st.names.blocks ≡ n → Grows st (hide_block later)
    by_length zero e = absurd (omega arith)
    by_length (suc n) e =
        let deep : length later.names.blocks ≡ suc (suc n) = grows.depth ∙ ap suc e in
        let parts = left_hidden later.locals n later.names.blocks deep grows.holds.inner in
        record {
          more_locals = grows.more_locals;
          more_results = grows.more_results;
          depth = parts.0 ∙ sym e;
          known = grows.known;
          holds = record { outer = grows.holds.outer; inner = parts.1; scalars = grows.holds.scalars; others = grows.holds.others; file_tags = grows.holds.file_tags; block_tags = tags_hidden later.tags.blocks grows.holds.block_tags; small_structs = grows.holds.small_structs };
        }

module _ {A : Type 0} (first : ℕ) (H : Scope → ℕ → ℕ → Type 0) (P : Scope → ℕ → ℕ → A → Type 0) (n : ℕ) (m : Typing A) where
  covers_closed : (scope : Scope) (later : State) → Covers scope first (close_block later) → Covers scope first later
  covers_closed scope later covers = record { locals_are = covers.locals_are; results_are = covers.results_are; objects_are = covers.objects_are; functions_are = covers.functions_are }

  covers_hidden : (scope : Scope) (later : State) → Covers scope first (hide_block later) → Covers scope first later
  covers_hidden scope later covers = record { locals_are = covers.locals_are; results_are = covers.results_are; objects_are = covers.objects_are; functions_are = covers.functions_are }

  pub steps_block : Steps first H P n m → Steps first H P n (block m)
  steps_block h = record {
    from = λ st holds inside. if_bind (StepsTo first H P n (open_block st)) (StepsTo first H P n st) (m (open_block st)) (λ made. Ok (made.0, close_block made.1)) (h.from (open_block st) (holds_opened st holds) (omega arith))
        (λ made k. (grows_closed st made.1 k.0, k.1, λ scope covers l. k.2 scope (covers_closed scope made.1 covers) l));
  }

  pub steps_hidden_block : Steps first H P n m → Steps first H P n (hidden_block m)
  steps_hidden_block h = record {
    from = λ st holds inside. if_bind (StepsTo first H P n (open_block st)) (StepsTo first H P n st) (m (open_block st)) (λ made. Ok (made.0, hide_block made.1)) (h.from (open_block st) (holds_opened st holds) (omega arith))
        (λ made k. (grows_hidden st made.1 inside k.0, k.1, λ scope covers l. k.2 scope (covers_hidden scope made.1 covers) l));
  }

-- ---- statements

-- a part that gives a statement
abbrev pub Does : Context → ℕ → Typing Action → Type 0
Does context n m = (a c : ℕ) → Steps context.declared_locals (Start context a c) (λ scope b d action. Good context scope a b c d action) n m

-- and one without jumps
abbrev pub DoesCalmly : Context → ℕ → Typing Action → Type 0
DoesCalmly context n m = (a c : ℕ) → Steps context.declared_locals (Start context a c) (λ scope b d action. Calm scope a b c d action) n m

pub does_calm : (context : Context) (n : ℕ) (m : Typing Action) → DoesCalmly context n m → Does context n m
does_calm context n m h a c = steps_more _ _ _ (Start context a c) _ n m (λ scope b d k. k) (λ scope b d action k. calm_good context scope a b c d action k) (h a c)

-- what is known after it, and was before
abbrev pub Then : (places : Action → Type 0) → (H : Scope → ℕ → ℕ → Type 0) → Scope → ℕ → ℕ → Action → Type 0
Then places H scope b d action = (a : ℕ) × (c : ℕ) × H scope a c × Runs places scope a b c d action

pub steps_runs : (places : Action → Type 0) (context : Context) (n : ℕ) (m : Typing Action) (H : Scope → ℕ → ℕ → Type 0) → ((scope : Scope) (l c : ℕ) → H scope l c → Returns context scope)
    → ((a c : ℕ) → Steps context.declared_locals (Start context a c) (λ scope b d action. Runs places scope a b c d action) n m) → Steps context.declared_locals H (Then places H) n m
steps_runs places context n m H f h = record {
  from = λ st holds inside. if_more (StepsTo context.declared_locals (Start context st.loops st.calls) (λ scope b d action. Runs places scope st.loops b st.calls d action) n st) (StepsTo context.declared_locals H (Then places H) n st) (m st)
      ((h st.loops st.calls).from st holds inside)
      (λ made k. (k.0, k.1, λ scope covers l. (st.loops, st.calls, l, k.2 scope covers (refl, refl, f scope st.loops st.calls l))));
}
