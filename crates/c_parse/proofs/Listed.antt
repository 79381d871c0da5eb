-- The loop over the globals of an item, and how it begins.
use Rattle.std.proofs.Common.{◌≡◌, ℕ, ◌<◌, Bool, true, false, List, [], ◌∷◌, ◌++◌, length, map, refl, ap, sym, ◌∙◌, subst, Ok, Err, Option, Some}
use Rattle.std.proofs.lemmas.List.{append_assoc, append-nil, map-append}
use Rattle.std.specs.declared.alloc.Global.{Global}
use Rattle.std.specs.declared.boxed.Box.{Box}
use Rattle.std.specs.Prelude.{Vec}
use Rattle.c_token_spec.specs.declared.token.Punctuator.TheVariants as punctuator
use Rattle.c_token_spec.specs.Lexical.{Placed}
use Rattle.c_syntax_spec.specs.Expression as tree
use Rattle.c_syntax_spec.specs.Unit as unit
use Rattle.c_parse_spec.specs.declared.Role.{Role}
use Rattle.c_parse_spec.specs.declared.Role.TheVariants.{Nothing}
use Rattle.c_parse_spec.specs.Leaves.{plain, expected}
use Rattle.c_parse_spec.specs.Units.{is_typedef, names_after}
use Rattle.exact_read.specs.Reading.{Fault, Outcome, Parser}
use Rattle.exact_read.specs.Grammar.{bind, read_many, read_map}
use Rattle.exact_read.specs.Going.{Going}
use Rattle.exact_read.proofs.Loops.{bind-ok, bind-err, going-start, going-step, going-fault, going-end, going-same, map-ok, map-err}
use Rattle.c_parse_laws.specs.Classes.{is_mark, mark_offset}
use Rattle.c_parse_laws.specs.Parsers.{token, following, next_is}
use Rattle.c_parse_laws.specs.Parameters.{read_global}
use Rattle.c_parse_laws.specs.Initializers.{read_initial}
use Rattle.c_parse_spec.specs.Limits.{statement_fuel}
use Rattle.c_parse_laws.specs.Units.{Initial, Read, State, expressions, globals_of, end_of_global, state_after, state_following, next_state, read_initial_after, read_initial_declarator, read_globals, read_more_globals}
use Rattle.c_syntax.specs.declared.unit.Global.{Global as Global_row}
use Rattle.c_syntax.specs.Expressions.{unboxed}
use Rattle.c_syntax.specs.Units.{global_of}
use Rattle.c_parse_token.proofs.Steps.{begins-next}
use Rattle.c_parse.specs.Following.{read_value, with_state, read_globals_after}

-- what a global begins with, and with the global
value-with : (names : List (List ℕ)) (typedef : Bool) (global : unit.Global) (tokens : List Placed) → read_initial_after names typedef global tokens ≡ read_map (λ v. (global, v)) (read_value (names_after typedef global names)) tokens
value-with names typedef global tokens = by_next (next_is (is_mark punctuator.Assign) tokens) refl
  where
    inner : Parser Placed Role (Option tree.Expression)
    inner = read_initial (names_after typedef global names) (expressions (names_after typedef global names)) statement_fuel 0

    by_inner : (o : Outcome Placed Role (Option tree.Expression)) → bind {Y = Initial} o (λ last after. Ok ((global, Some last), after)) ≡ bind (bind {Y = Option (Option tree.Expression)} o (λ last after. Ok (Some last, after))) (λ v after. Ok ((global, v), after))
    by_inner (Ok pair) = refl
    by_inner (Err fault) = refl

    by_mark : (o : Outcome Placed Role ℕ) → bind o (λ _ rest. bind {Y = Initial} (inner rest) (λ last after. Ok ((global, Some last), after))) ≡ bind (bind o (λ _ rest. bind {Y = Option (Option tree.Expression)} (inner rest) (λ last after. Ok (Some last, after)))) (λ v after. Ok ((global, v), after))
    by_mark (Ok pair) = by_inner (inner pair.1)
    by_mark (Err fault) = refl

    by_next : (is : Bool) → next_is (is_mark punctuator.Assign) tokens ≡ is → read_initial_after names typedef global tokens ≡ read_map (λ v. (global, v)) (read_value (names_after typedef global names)) tokens
    by_next true e = rw (e) (by_mark (token Nothing plain (mark_offset punctuator.Assign) tokens))
    by_next false e = rw (e) refl

-- a global, and what is in scope and expected after it
declared-after : (names : List (List ℕ)) (typedef : Bool) (global : unit.Global) (end : Role) (t0 t1 t2 : List Placed) → read_global names (expressions names) typedef t0 ≡ Ok (global, t1) → read_map end_of_global (read_value (names_after typedef global names)) t1 ≡ Ok (end, t2)
    → read_map (with_state typedef names) (read_initial_declarator names typedef) t0 ≡ Ok ((global, (names_after typedef global names, end)), t2)
declared-after names typedef global end t0 t1 t2 e v =
    let m = map-ok end_of_global (read_value (names_after typedef global names)) t1 end t2 v in
    ap (λ o. bind (bind o (λ x rest. read_initial_after names typedef x rest)) (λ x after. Ok (with_state typedef names x, after))) e
    ∙ ap (λ o. bind o (λ x after. Ok (with_state typedef names x, after))) (value-with names typedef global t1 ∙ bind-ok (read_value (names_after typedef global names) t1) (λ x after. Ok ((global, x), after)) m.0 t2 m.1)
    ∙ ap (λ r. Ok ((global, (names_after typedef global names, r)), t2)) m.2

declared-found : (names after : List (List ℕ)) (typedef : Bool) (global : unit.Global) (end : Role) (t0 t1 t2 : List Placed) → after ≡ names_after typedef global names → read_global names (expressions names) typedef t0 ≡ Ok (global, t1) → read_map end_of_global (read_value (names_after typedef global names)) t1 ≡ Ok (end, t2)
    → read_map (with_state typedef names) (read_initial_declarator names typedef) t0 ≡ Ok ((global, (after, end)), t2)
declared-found names after typedef global end t0 t1 t2 same e v =
    subst (λ n. read_map (with_state typedef names) (read_initial_declarator names typedef) t0 ≡ Ok ((global, (n, end)), t2)) (sym same) (declared-after names typedef global end t0 t1 t2 e v)

-- a fault in what a global begins with
value-fault : (names : List (List ℕ)) (typedef : Bool) (global : unit.Global) (tokens : List Placed) (fault : Fault Role × List Placed) → read_map end_of_global (read_value (names_after typedef global names)) tokens ≡ Err fault → read_initial_after names typedef global tokens ≡ Err fault
value-fault names typedef global tokens fault e =
    value-with names typedef global tokens ∙ bind-err (read_value (names_after typedef global names) tokens) (λ x after. Ok ((global, x), after)) fault (map-err end_of_global (read_value (names_after typedef global names)) tokens fault e)

-- globals are being read, after these, in this state
abbrev pub globals_close : tree.Specifiers → List unit.Global → State → List Initial → Parser Placed Role Read
globals_close specifiers read state more after =
    bind (token (state_following (is_typedef specifiers) state more).1 (expected (state_following (is_typedef specifiers) state more).1) (mark_offset punctuator.Semicolon) after)
    (λ _ rest. Ok ((unit.Declaration specifiers (read ++ globals_of more), (state_following (is_typedef specifiers) state more).0), rest))

abbrev pub read_next : (typedef : Bool) → State → Parser Placed Role Initial
read_next typedef now = following (token now.1 (expected now.1) (mark_offset punctuator.Comma)) (λ _. read_initial_declarator now.0 typedef)

pub Globals : (specifiers : tree.Specifiers) → (whole : Outcome Placed Role Read) → List unit.Global → State → List Placed → Type 0
Globals specifiers whole read state rest = Going (λ (_ : State) next. is_mark punctuator.Comma next.token) (read_next (is_typedef specifiers)) (next_state (is_typedef specifiers)) whole (globals_close specifiers read state) state rest

pub globals-start : (specifiers : tree.Specifiers) (read : List unit.Global) (state : State) (tokens : List Placed) → Globals specifiers (read_globals_after specifiers read state tokens) read state tokens
unfolding Globals
globals-start specifiers read state tokens = going-start

globals-step : (specifiers : tree.Specifiers) (whole : Outcome Placed Role Read) (read : List unit.Global) (state after : State) (global : unit.Global) (offset : ℕ) (tokens middle rest : List Placed) → Globals specifiers whole read state tokens → next_is (is_mark punctuator.Comma) tokens ≡ true
    → token state.1 (expected state.1) (mark_offset punctuator.Comma) tokens ≡ Ok (offset, middle) → read_map (with_state (is_typedef specifiers) state.0) (read_initial_declarator state.0 (is_typedef specifiers)) middle ≡ Ok ((global, after), rest) → length rest < length tokens
    → Globals specifiers whole (read ++ global ∷ []) after rest
unfolding Globals
globals-step specifiers whole read state after global offset tokens middle rest going was comma e less =
    let m = map-ok (with_state (is_typedef specifiers) state.0) (read_initial_declarator state.0 (is_typedef specifiers)) middle (global, after) rest e in
    let item : read_next (is_typedef specifiers) state tokens ≡ Ok (m.0, rest) = bind-ok (token state.1 (expected state.1) (mark_offset punctuator.Comma) tokens) (λ _ left. read_initial_declarator state.0 (is_typedef specifiers) left) offset middle comma ∙ m.1 in
    let step : Globals specifiers whole (read ++ m.0.0 ∷ []) (state_after (is_typedef specifiers) state.0 m.0) rest =
    going-same (λ more last. globals_close specifiers read state (m.0 ∷ more) last) (globals_close specifiers (read ++ m.0.0 ∷ []) (state_after (is_typedef specifiers) state.0 m.0))
    (λ more last. ap (λ l. bind (token (state_following (is_typedef specifiers) (state_after (is_typedef specifiers) state.0 m.0) more).1 (expected (state_following (is_typedef specifiers) (state_after (is_typedef specifiers) state.0 m.0) more).1) (mark_offset punctuator.Semicolon) last) (λ _ left. Ok ((unit.Declaration specifiers l, (state_following (is_typedef specifiers) (state_after (is_typedef specifiers) state.0 m.0) more).0), left)))
    (sym (append_assoc read (m.0.0 ∷ []) (globals_of more))))
    (going-step going (begins-next (λ (_ : State). is_mark punctuator.Comma) state tokens ∙ was) m.0 rest item less) in
    subst (λ p. Globals specifiers whole (read ++ p.0 ∷ []) p.1 rest) m.2 step

pub globals-more : (specifiers : tree.Specifiers) (typedef : Bool) (whole : Outcome Placed Role Read) (read all : List unit.Global) (state after : State) (global : unit.Global) (offset : ℕ) (tokens middle second rest : List Placed) → typedef ≡ is_typedef specifiers → all ≡ read ++ global ∷ [] → after.0 ≡ names_after typedef global state.0 → Globals specifiers whole read state tokens → next_is (is_mark punctuator.Comma) tokens ≡ true
    → token state.1 (expected state.1) (mark_offset punctuator.Comma) tokens ≡ Ok (offset, middle) → read_global state.0 (expressions state.0) typedef middle ≡ Ok (global, second) → read_map end_of_global (read_value (names_after typedef global state.0)) second ≡ Ok (after.1, rest) → length rest < length tokens
    → Globals specifiers whole all after rest
globals-more specifiers typedef whole read all state after global offset tokens middle second rest same is names_are going was comma g v less =
    let e : read_map (with_state (is_typedef specifiers) state.0) (read_initial_declarator state.0 (is_typedef specifiers)) middle ≡ Ok ((global, after), rest) =
    subst (λ t. read_map (with_state t state.0) (read_initial_declarator state.0 t) middle ≡ Ok ((global, after), rest)) same (declared-found state.0 after.0 typedef global after.1 middle second rest names_are g v) in
    subst (λ xs. Globals specifiers whole xs after rest) (sym is) (globals-step specifiers whole read state after global offset tokens middle rest going was comma e less)

pub globals-comma_error : (specifiers : tree.Specifiers) (whole : Outcome Placed Role Read) (read : List unit.Global) (state : State) (tokens : List Placed) → Globals specifiers whole read state tokens → next_is (is_mark punctuator.Comma) tokens ≡ true
    → (fault : Fault Role × List Placed) → token state.1 (expected state.1) (mark_offset punctuator.Comma) tokens ≡ Err fault → whole ≡ Err fault
unfolding Globals
globals-comma_error specifiers whole read state tokens going was fault e =
    going-fault going (begins-next (λ (_ : State). is_mark punctuator.Comma) state tokens ∙ was) fault (ap (λ o. bind o (λ _ left. read_initial_declarator state.0 (is_typedef specifiers) left)) e)

-- a fault in a further global, where its declarator is
pub globals-name_error : (specifiers : tree.Specifiers) (typedef : Bool) (whole : Outcome Placed Role Read) (read : List unit.Global) (state : State) (offset : ℕ) (tokens middle : List Placed) → typedef ≡ is_typedef specifiers → Globals specifiers whole read state tokens → next_is (is_mark punctuator.Comma) tokens ≡ true
    → token state.1 (expected state.1) (mark_offset punctuator.Comma) tokens ≡ Ok (offset, middle) → (fault : Fault Role × List Placed) → read_global state.0 (expressions state.0) typedef middle ≡ Err fault → whole ≡ Err fault
unfolding Globals
globals-name_error specifiers typedef whole read state offset tokens middle same going was comma fault g =
    let e : read_global state.0 (expressions state.0) (is_typedef specifiers) middle ≡ Err fault = subst (λ t. read_global state.0 (expressions state.0) t middle ≡ Err fault) same g in
    going-fault going (begins-next (λ (_ : State). is_mark punctuator.Comma) state tokens ∙ was) fault
    (bind-ok (token state.1 (expected state.1) (mark_offset punctuator.Comma) tokens) (λ _ left. read_initial_declarator state.0 (is_typedef specifiers) left) offset middle comma
    ∙ ap (λ o. bind {Y = Initial} o (λ x left. read_initial_after state.0 (is_typedef specifiers) x left)) e)

-- and where its value is
pub globals-value_error : (specifiers : tree.Specifiers) (typedef : Bool) (whole : Outcome Placed Role Read) (read : List unit.Global) (state : State) (global : unit.Global) (offset : ℕ) (tokens middle rest : List Placed) → typedef ≡ is_typedef specifiers → Globals specifiers whole read state tokens → next_is (is_mark punctuator.Comma) tokens ≡ true
    → token state.1 (expected state.1) (mark_offset punctuator.Comma) tokens ≡ Ok (offset, middle) → read_global state.0 (expressions state.0) typedef middle ≡ Ok (global, rest)
    → (fault : Fault Role × List Placed) → read_map end_of_global (read_value (names_after typedef global state.0)) rest ≡ Err fault → whole ≡ Err fault
unfolding Globals
globals-value_error specifiers typedef whole read state global offset tokens middle rest same going was comma g fault v =
    let e : read_global state.0 (expressions state.0) (is_typedef specifiers) middle ≡ Ok (global, rest) = subst (λ t. read_global state.0 (expressions state.0) t middle ≡ Ok (global, rest)) same g in
    let h : read_map end_of_global (read_value (names_after (is_typedef specifiers) global state.0)) rest ≡ Err fault = subst (λ t. read_map end_of_global (read_value (names_after t global state.0)) rest ≡ Err fault) same v in
    going-fault going (begins-next (λ (_ : State). is_mark punctuator.Comma) state tokens ∙ was) fault
    (bind-ok (token state.1 (expected state.1) (mark_offset punctuator.Comma) tokens) (λ _ left. read_initial_declarator state.0 (is_typedef specifiers) left) offset middle comma
    ∙ ap (λ o. bind {Y = Initial} o (λ x left. read_initial_after state.0 (is_typedef specifiers) x left)) e
    ∙ value-fault state.0 (is_typedef specifiers) global rest fault h)

closed : (specifiers : tree.Specifiers) (whole : Outcome Placed Role Read) (read : List unit.Global) (state : State) (tokens : List Placed) → Globals specifiers whole read state tokens → next_is (is_mark punctuator.Comma) tokens ≡ false → whole ≡ globals_close specifiers read state [] tokens
unfolding Globals
closed specifiers whole read state tokens going ends = going-end going (begins-next (λ (_ : State). is_mark punctuator.Comma) state tokens ∙ ends)

pub globals-end : (specifiers : tree.Specifiers) (whole : Outcome Placed Role Read) (read : List unit.Global) (state : State) (offset : ℕ) (tokens rest : List Placed) → Globals specifiers whole read state tokens → next_is (is_mark punctuator.Comma) tokens ≡ false
    → token state.1 (expected state.1) (mark_offset punctuator.Semicolon) tokens ≡ Ok (offset, rest) → whole ≡ Ok ((unit.Declaration specifiers read, state.0), rest)
globals-end specifiers whole read state offset tokens rest going ends e =
    closed specifiers whole read state tokens going ends ∙ bind-ok (token state.1 (expected state.1) (mark_offset punctuator.Semicolon) tokens) (λ _ left. Ok ((unit.Declaration specifiers (read ++ []), state.0), left)) offset rest e ∙ ap (λ l. Ok ((unit.Declaration specifiers l, state.0), rest)) (append-nil read)

pub globals-unclosed : (specifiers : tree.Specifiers) (whole : Outcome Placed Role Read) (read : List unit.Global) (state : State) (tokens : List Placed) → Globals specifiers whole read state tokens → next_is (is_mark punctuator.Comma) tokens ≡ false
    → (fault : Fault Role × List Placed) → token state.1 (expected state.1) (mark_offset punctuator.Semicolon) tokens ≡ Err fault → whole ≡ Err fault
globals-unclosed specifiers whole read state tokens going ends fault e = closed specifiers whole read state tokens going ends ∙ ap (λ o. bind o (λ _ left. Ok ((unit.Declaration specifiers (read ++ []), state.0), left))) e

-- after a first global its value, and then the others
more-same : (specifiers : tree.Specifiers) (global : unit.Global) (state : State) (tokens : List Placed)
    → read_map (λ more. (unit.Declaration specifiers (global ∷ globals_of more), (state_following (is_typedef specifiers) state more).0)) (read_more_globals (is_typedef specifiers) state) tokens ≡ read_globals_after specifiers (global ∷ []) state tokens
more-same specifiers global state tokens = by_many (read_many (λ (_ : State) next. is_mark punctuator.Comma next.token) (read_next (is_typedef specifiers)) (next_state (is_typedef specifiers)) state tokens)
  where
    by_close : (more : List Initial) (o : Outcome Placed Role ℕ) → bind {X = List Initial} {Y = Read} (bind {X = List Initial × ℕ} (bind o (λ y last. Ok ((more, y), last))) (λ made last. Ok (made.0, last))) (λ more last. Ok ((unit.Declaration specifiers (global ∷ globals_of more), (state_following (is_typedef specifiers) state more).0), last))
        ≡ bind o (λ _ last. Ok ((unit.Declaration specifiers (global ∷ globals_of more), (state_following (is_typedef specifiers) state more).0), last))
    by_close more (Ok pair) = refl
    by_close more (Err fault) = refl

    by_many : (m : Outcome Placed Role (List Initial)) → bind {X = List Initial} {Y = Read} (bind {X = List Initial × ℕ} (bind m (λ more after. bind (token (state_following (is_typedef specifiers) state more).1 (expected (state_following (is_typedef specifiers) state more).1) (mark_offset punctuator.Semicolon) after) (λ y last. Ok ((more, y), last)))) (λ made last. Ok (made.0, last))) (λ more last. Ok ((unit.Declaration specifiers (global ∷ globals_of more), (state_following (is_typedef specifiers) state more).0), last))
        ≡ bind m (globals_close specifiers (global ∷ []) state)
    by_many (Ok pair) = by_close pair.0 (token (state_following (is_typedef specifiers) state pair.0).1 (expected (state_following (is_typedef specifiers) state pair.0).1) (mark_offset punctuator.Semicolon) pair.1)
    by_many (Err fault) = refl

globals-first : (names : List (List ℕ)) (specifiers : tree.Specifiers) (global : unit.Global) (end : Role) (t0 t1 : List Placed) → read_map end_of_global (read_value (names_after (is_typedef specifiers) global names)) t0 ≡ Ok (end, t1)
    → read_globals names specifiers global t0 ≡ read_globals_after specifiers (global ∷ []) (names_after (is_typedef specifiers) global names, end) t1
globals-first names specifiers global end t0 t1 v =
    let m = map-ok end_of_global (read_value (names_after (is_typedef specifiers) global names)) t0 end t1 v in
    ap (λ o. bind o (λ first rest. read_map (λ more. (unit.Declaration specifiers (first.0 ∷ globals_of more), (state_following (is_typedef specifiers) (state_after (is_typedef specifiers) names first) more).0)) (read_more_globals (is_typedef specifiers) (state_after (is_typedef specifiers) names first)) rest))
    (value-with names (is_typedef specifiers) global t0 ∙ bind-ok (read_value (names_after (is_typedef specifiers) global names) t0) (λ x after. Ok ((global, x), after)) m.0 t1 m.1)
    ∙ more-same specifiers global (names_after (is_typedef specifiers) global names, end_of_global m.0) t1
    ∙ ap (λ r. read_globals_after specifiers (global ∷ []) (names_after (is_typedef specifiers) global names, r) t1) m.2

pub globals-begun : (names after : List (List ℕ)) (specifiers : tree.Specifiers) (typedef : Bool) (global : unit.Global) (read : List unit.Global) (end : Role) (t0 t1 : List Placed) → typedef ≡ is_typedef specifiers → after ≡ names_after typedef global names → read ≡ global ∷ [] → read_map end_of_global (read_value (names_after typedef global names)) t0 ≡ Ok (end, t1)
    → read_globals names specifiers global t0 ≡ read_globals_after specifiers read (after, end) t1
globals-begun names after specifiers typedef global read end t0 t1 same names_are is v =
    let there : after ≡ names_after (is_typedef specifiers) global names = names_are ∙ ap (λ t. names_after t global names) same in
    subst (λ xs. read_globals names specifiers global t0 ≡ read_globals_after specifiers xs (after, end) t1) (sym is)
    (subst (λ n. read_globals names specifiers global t0 ≡ read_globals_after specifiers (global ∷ []) (n, end) t1) (sym there) (globals-first names specifiers global end t0 t1 (subst (λ t. read_map end_of_global (read_value (names_after t global names)) t0 ≡ Ok (end, t1)) same v)))

pub globals-first_error : (names : List (List ℕ)) (specifiers : tree.Specifiers) (typedef : Bool) (global : unit.Global) (t0 : List Placed) → typedef ≡ is_typedef specifiers → (fault : Fault Role × List Placed) → read_map end_of_global (read_value (names_after typedef global names)) t0 ≡ Err fault → read_globals names specifiers global t0 ≡ Err fault
globals-first_error names specifiers typedef global t0 same fault g =
    ap (λ o. bind o (λ first rest. read_map (λ more. (unit.Declaration specifiers (first.0 ∷ globals_of more), (state_following (is_typedef specifiers) (state_after (is_typedef specifiers) names first) more).0)) (read_more_globals (is_typedef specifiers) (state_after (is_typedef specifiers) names first)) rest))
    (value-fault names (is_typedef specifiers) global t0 fault (subst (λ t. read_map end_of_global (read_value (names_after t global names)) t0 ≡ Err fault) same g))

-- a global more
pub globals-joined : (before after : Vec (Box Global_row Global) Global) (next : Box Global_row Global) → after.items ≡ before.items ++ next ∷ [] → map global_of (unboxed after) ≡ map global_of (unboxed before) ++ global_of next.value ∷ []
globals-joined before after next is =
    ap (λ l. map global_of (map (λ b. b.value) l)) is ∙ ap (map global_of) (map-append (λ b. b.value) before.items (next ∷ [])) ∙ map-append global_of (unboxed before) (next.value ∷ [])
