-- The scan over the leaves of a unit: it finds what the initial values of globals define.
use Rattle.std.proofs.Common.{◌≡◌, ℕ, Bool, true, false, List, [], ◌∷◌, ◌++◌, Option, Some, None, refl, sym, ap, subst, ◌∙◌, append_assoc, append-nil}
use Rattle.std.proofs.lemmas.List.{map-append}
use Rattle.c_token_spec.specs.declared.token.Punctuator.TheVariants.{Comma, Semicolon}
use Rattle.c_token_spec.specs.Lexical.{Token, Mark}
use Rattle.c_syntax_spec.specs.Expression.{Name}
use Rattle.c_syntax_spec.specs.Unit as tree
use Rattle.c_parse_spec.specs.declared.Role.{Role}
use Rattle.c_parse_spec.specs.Leaves.{Leaf}
use Rattle.c_parse_spec.specs.Units as unit
use Rattle.c_parse_spec.specs.Initials.{Begun, Nothing, Keyword as AfterWord, Tagged, start, after, definition_in}
use Rattle.c_parse_laws.specs.Definitions.{in_initializer, in_initializer_list, in_designation, in_designators, in_designator}
use Rattle.c_parse_laws.specs.InitialValues.{in_initial_declarator, in_globals, in_external_declaration, in_unit, each, within_initial_declarator, within_globals, within_external_declaration, within_unit}
use Rattle.c_parse_laws.specs.InitialStatements.{values_after, definitions_from, first, DefinesFirst, FindsValues, FindsDefinitions, FindsAll, FindsFirst, DefinesSame}
use Rattle.c_parse_laws.proofs.InitialTokens.{at, is_separator, no_list, separator_no_brace, never, Stage, Fresh, Loose, Fits}
use Rattle.c_parse_laws.proofs.Scans.{all_from, first_found, all_found, values_found, Passes, stays, passes, joined, same_found, same_text, Runs, append, append_plain, outside, empty, empty_fresh, token, separator, bracket, brace, block}
use Rattle.c_parse_laws.proofs.InitialWords.{pointer_runs}
use Rattle.c_parse_laws.proofs.InitialExpressions.{conditional_runs, specifiers_runs, declarator_runs, dimensions_runs}
use Rattle.c_parse_laws.proofs.InitialStatements.{Quiet, parts_quiet}

-- ---- functions

parameter_name_quiet : {names : List (List ℕ)} {n : Option Name} {text : List Leaf} → unit.ParameterName names n text → (begin : Stage) → Quiet begin text
parameter_name_quiet unit.none begin = empty
parameter_name_quiet (unit.name _ _) begin = token refl empty

parameter_quiet : {names : List (List ℕ)} {depth : ℕ} {given : tree.Parameter} {end : Role} {text : List Leaf} → unit.Parameter names depth given end text → (begin : Stage) → Quiet begin text
parameter_quiet (unit.parameter _ _ _ _ _ _ _ _ _ _ words stars n dimensions) begin =
    append (outside [] (specifiers_runs words begin true false)) (append (pointer_runs {begin = Loose} stars) (append (parameter_name_quiet n Loose) (outside [] (dimensions_runs dimensions Loose true false))))

parameter_list_quiet : {names : List (List ℕ)} {depth : ℕ} {list : List tree.Parameter} {end : Role} {text : List Leaf} → unit.ParameterList names depth list end text → (begin : Stage) → Quiet begin text
parameter_list_quiet (unit.last _ _ _ _ given) begin = parameter_quiet given begin
parameter_list_quiet (unit.more _ _ _ _ _ _ _ _ given rest) begin = append (parameter_quiet given begin) (separator refl (parameter_list_quiet rest Fresh))

parameters_quiet : {names : List (List ℕ)} {depth : ℕ} {list : List tree.Parameter} {end : Role} {text : List Leaf} → unit.Parameters names depth list end text → (begin : Stage) → Quiet begin text
parameters_quiet (unit.empty _) begin = empty
parameters_quiet (unit.void _ _) begin = token refl empty
parameters_quiet (unit.some _ _ _ _ list _) begin = parameter_list_quiet list begin

function_runs : {names : List (List ℕ)} {depth : ℕ} {declarator : tree.FunctionDeclarator} {text : List Leaf} → unit.FunctionDeclarator names depth declarator text → (begin : Stage) → Runs begin Loose false false text []
function_runs (unit.function _ _ _ _ _ _ _ _ _ _ stars inside) begin = append (pointer_runs stars) (token refl (bracket _ refl refl refl (parameters_quiet inside Fresh)))

-- ---- initial values

mutual
  pub initializer_runs : {names : List (List ℕ)} {depth : ℕ} {end : Role} {text : List Leaf} (h : unit.Initializer names depth end text) (inner v : Bool) → Runs Fresh Loose inner v text (in_initializer h)
  initializer_runs (unit.value _ _ _ x) inner v = conditional_runs x Fresh inner v
  initializer_runs (unit.empty_list _ _ _) inner v = brace {inside = []} _ refl refl empty
  initializer_runs (unit.list _ _ _ _ _ inside) inner v = brace _ refl refl (initializer_list_runs inside v)

  initializer_list_runs : {names : List (List ℕ)} {depth : ℕ} {end : Role} {text : List Leaf} (h : unit.InitializerList names depth end text) (v : Bool) → Runs Fresh Loose true v text (in_initializer_list h)
  initializer_list_runs (unit.last _ _ _ _ prefix initial) v = append (designation_runs prefix v) (initializer_runs initial true v)
  initializer_list_runs (unit.last_comma _ _ _ _ _ prefix initial) v = append (designation_runs prefix v) (append_plain (initializer_runs initial true v) (separator refl empty))
  initializer_list_runs (unit.more _ _ _ _ _ _ _ prefix initial rest) v = append (designation_runs prefix v) (append (initializer_runs initial true v) (separator refl (initializer_list_runs rest v)))

  designation_runs : {names : List (List ℕ)} {depth : ℕ} {text : List Leaf} (h : unit.Designation names depth text) (v : Bool) → Runs Fresh Fresh true v text (in_designation h)
  designation_runs (unit.none _) v = empty_fresh
  designation_runs (unit.some _ _ _ designators) v = append_plain (designators_runs designators Fresh v) (separator refl empty_fresh)

  designators_runs : {names : List (List ℕ)} {depth : ℕ} {text : List Leaf} (h : unit.Designators names depth text) (begin : Stage) (v : Bool) → Runs begin Loose true v text (in_designators h)
  designators_runs (unit.one _ _ designator) begin v = designator_runs designator begin v
  designators_runs (unit.more_designators _ _ _ designator rest) begin v = append (designator_runs designator begin v) (designators_runs rest Loose v)

  designator_runs : {names : List (List ℕ)} {depth : ℕ} {text : List Leaf} (h : unit.Designator names depth text) (begin : Stage) (v : Bool) → Runs begin Loose true v text (in_designator h)
  designator_runs (unit.member _ _ _) begin v = token refl (token refl empty)
  designator_runs (unit.element _ _ _ _ _ x) begin v = bracket _ refl refl refl (conditional_runs x Fresh true v)

-- ---- globals

global_runs : {names : List (List ℕ)} {is_typedef : Bool} {global : tree.Global} {text : List Leaf} → unit.GlobalDeclarator names is_typedef global text → (begin : Stage) → Runs begin Loose false false text []
global_runs (unit.object _ _ _ declared) begin = outside [] (declarator_runs declared begin false false)
global_runs (unit.function _ _ declared) begin = function_runs declared begin

-- `,` or `;` outside of all brackets
abbrev is_end : Token → Bool
is_end (Mark Comma) = true
is_end (Mark Semicolon) = true
is_end other = false

end_separates : (token : Token) → is_end token ≡ true → is_separator token ≡ true
end_separates (Mark Comma) e = refl
end_separates (Mark Semicolon) e = refl
end_separates other e = absurd (cc)

end_after : (token : Token) (v : Bool) (b : Begun) → is_end token ≡ true → after (at 0 v b) token ≡ at 0 false Nothing
end_after (Mark Comma) v b e = refl
end_after (Mark Semicolon) v b e = refl
end_after other v b e = absurd (cc)

end_passes : (u : Leaf) (v : Bool) (b : Begun) (rest : List Leaf) → is_end u.token.token ≡ true → Passes (at 0 v b) (u ∷ rest) [] (false ∷ []) (at 0 false Nothing) rest
end_passes u v b rest e = passes (at 0 v b) (at 0 false Nothing) u rest (never v _ (no_list b u.token.token (separator_no_brace u.token.token (end_separates u.token.token e)))) (end_after u.token.token v b e)

-- a global, and the token that ends it
initial_declarator_passes : {names : List (List ℕ)} {is_typedef : Bool} {global : tree.Global} {end : Role} {text : List Leaf} (h : unit.InitialDeclarator names is_typedef global end text) (u : Leaf) (b : Begun) (rest : List Leaf)
    → is_end u.token.token ≡ true → Fits Loose b → Passes (at 0 false b) (text ++ u ∷ rest) (in_initial_declarator h) (within_initial_declarator h ++ false ∷ []) (at 0 false Nothing) rest
initial_declarator_passes (unit.unset _ _ _ declared) u b rest e fits =
    let r = (global_runs declared Loose).run (u ∷ rest) 0 b tt fits in
    joined r.is (end_passes u false r.left rest e)
initial_declarator_passes (unit.set _ _ _ text right _ declared initial) u b rest e fits =
    let r = (global_runs declared Loose).run (_ ∷ (right ++ u ∷ rest)) 0 b tt fits in
    let i = (initializer_runs initial false true).run (u ∷ rest) 0 Nothing tt tt in
    same_text (sym (append_assoc text (_ ∷ right) (u ∷ rest)))
    (same_found (append-nil (in_initializer initial)) (sym (append_assoc (each false text) (true ∷ each true right) (false ∷ [])))
    (joined r.is (joined (passes (at 0 false r.left) (at 0 true Nothing) _ (right ++ u ∷ rest) refl refl) (joined i.is (end_passes u true i.left rest e)))))

globals_pass : {names : List (List ℕ)} {is_typedef : Bool} {globals : List tree.Global} {after : List (List ℕ)} {text : List Leaf} (h : unit.Globals names is_typedef globals after text) (b : Begun) (rest : List Leaf)
    → Fits Loose b → Passes (at 0 false b) (text ++ rest) (in_globals h) (within_globals h) (at 0 false Nothing) rest
globals_pass (unit.last _ _ _ _ text _ global) b rest fits = same_text (sym (append_assoc text (_ ∷ []) rest)) (initial_declarator_passes global _ b rest refl fits)
globals_pass (unit.more _ _ _ _ _ _ text right _ global others) b rest fits =
    same_text (sym (append_assoc text (_ ∷ right) rest))
    (same_found refl (append_assoc (within_initial_declarator global) (false ∷ []) (within_globals others))
    (joined (initial_declarator_passes global _ b (right ++ rest) refl fits) (globals_pass others Nothing rest tt)))

-- ---- external declarations

at_nothing : (b : Begun) → Fits Fresh b → b ≡ Nothing
at_nothing Nothing h = refl
at_nothing AfterWord h = absurd h
at_nothing Tagged h = absurd h

passes_whole : (text : List Leaf) → Runs Fresh Fresh false false text [] → (rest : List Leaf) → Passes (at 0 false Nothing) (text ++ rest) [] (each false text) (at 0 false Nothing) rest
passes_whole text h rest =
    let r = h.run rest 0 Nothing tt tt in
    subst (λ b. Passes (at 0 false Nothing) (text ++ rest) [] (each false text) (at 0 false b) rest) (at_nothing r.left r.fits) r.is

external_declaration_passes : {names : List (List ℕ)} {item : tree.ExternalDeclaration} {after : List (List ℕ)} {text : List Leaf} (h : unit.ExternalDeclaration names item after text) (rest : List Leaf)
    → Passes (at 0 false Nothing) (text ++ rest) (in_external_declaration h) (within_external_declaration h) (at 0 false Nothing) rest
external_declaration_passes (unit.empty _ _) rest = end_passes _ false Nothing rest refl
external_declaration_passes (unit.nameless _ _ text _ words) rest =
    let r = (outside [] (specifiers_runs words Fresh false false)).run (_ ∷ rest) 0 Nothing tt tt in
    same_text (sym (append_assoc text (_ ∷ []) rest)) (same_found refl (sym (map-append (λ _. false) text (_ ∷ []))) (joined r.is (end_passes _ false r.left rest refl)))
external_declaration_passes (unit.declaration _ _ _ _ left right words globals) rest =
    let r = (outside [] (specifiers_runs words Fresh false false)).run (right ++ rest) 0 Nothing tt tt in
    same_text (sym (append_assoc left right rest)) (joined r.is (globals_pass globals r.left rest r.fits))
external_declaration_passes {text = text} (unit.definition _ _ _ _ _ _ _ _ _ words _ declared body) rest =
    passes_whole text (append (outside [] (specifiers_runs words Fresh false false)) (append (function_runs declared Loose) (block {begin = Loose} _ refl refl (parts_quiet body Fresh)))) rest

unit_passes : {names : List (List ℕ)} {items : tree.TranslationUnit} {text : List Leaf} (h : unit.ExternalDeclarations names items text) → Passes (at 0 false Nothing) text (in_unit h) (within_unit h) (at 0 false Nothing) []
unit_passes (unit.none _) = stays (at 0 false Nothing) []
unit_passes (unit.some _ _ _ _ _ right item rest) = joined (external_declaration_passes item right) (unit_passes rest)

-- ---- the laws

pub finds_values : FindsValues
finds_values tokens unit parses =
    let p = unit_passes parses.derives in
    ap (values_after start) parses.cut ∙ values_found start parses.text ∙ p.lies ∙ append-nil (within_unit parses.derives)

pub finds_definitions : FindsDefinitions
finds_definitions names depth open_before end text initial =
    let r = (initializer_runs initial false true).run [] open_before Nothing tt tt in
    all_found (at open_before true Nothing) text ∙ ap (all_from (at open_before true Nothing)) (sym (append-nil text)) ∙ r.is.finds ∙ append-nil (in_initializer initial)

pub finds_all : FindsAll
finds_all tokens unit parses =
    let p = unit_passes parses.derives in
    ap (definitions_from start) parses.cut ∙ all_found start parses.text ∙ p.finds ∙ append-nil (in_unit parses.derives)

pub finds_first : FindsFirst
unfolding definition_in
finds_first tokens unit parses = first_found start tokens ∙ ap first (finds_all tokens unit parses)

pub defines_same : DefinesSame
defines_same text unit tree = by (first (in_unit tree.parses.derives)) (finds_first tree.tokens unit tree.parses)
  where
    by : (found : Option ℕ) → definition_in tree.tokens ≡ found → DefinesFirst text found
    by (Some offset) e = record { tokens = tree.tokens; lexes = tree.lexes; first = e }
    by None e = record { tokens = tree.tokens; lexes = tree.lexes; nowhere = e }
