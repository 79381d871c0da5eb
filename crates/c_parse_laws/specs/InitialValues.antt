-- The initial values of globals in a derivation of a unit (ISO C11, 6.7.9): where they lie among its tokens, and what
-- they define.
use Rattle.std.specs.Prelude.{ℕ, Bool, true, false, List, [], ◌∷◌, ◌++◌, map}
use Rattle.c_syntax_spec.specs.Unit as tree
use Rattle.c_parse_spec.specs.declared.Role.{Role}
use Rattle.c_parse_spec.specs.Leaves.{Leaf}
use Rattle.c_parse_spec.specs.Units as unit
use Rattle.c_parse_laws.specs.Definitions.{in_initializer}

-- ---- what they define: the offsets of the lists' `{`, in the order of the tokens

abbrev pub in_initial_declarator : {names : List (List ℕ)} {is_typedef : Bool} {global : tree.Global} {end : Role} {text : List Leaf} → unit.InitialDeclarator names is_typedef global end text → List ℕ
in_initial_declarator (unit.unset _ _ _ _) = []
in_initial_declarator (unit.set _ _ _ _ _ _ _ initial) = in_initializer initial

abbrev pub in_globals : {names : List (List ℕ)} {is_typedef : Bool} {globals : List tree.Global} {after : List (List ℕ)} {text : List Leaf} → unit.Globals names is_typedef globals after text → List ℕ
in_globals (unit.last _ _ _ _ _ _ global) = in_initial_declarator global
in_globals (unit.more _ _ _ _ _ _ _ _ _ global rest) = in_initial_declarator global ++ in_globals rest

abbrev pub in_external_declaration : {names : List (List ℕ)} {item : tree.ExternalDeclaration} {after : List (List ℕ)} {text : List Leaf} → unit.ExternalDeclaration names item after text → List ℕ
in_external_declaration (unit.empty _ _) = []
in_external_declaration (unit.nameless _ _ _ _ _) = []
in_external_declaration (unit.declaration _ _ _ _ _ _ _ globals) = in_globals globals
in_external_declaration (unit.definition _ _ _ _ _ _ _ _ _ _ _ _ _) = []

abbrev pub in_unit : {names : List (List ℕ)} {items : tree.TranslationUnit} {text : List Leaf} → unit.ExternalDeclarations names items text → List ℕ
in_unit (unit.none _) = []
in_unit (unit.some _ _ _ _ _ _ item rest) = in_external_declaration item ++ in_unit rest

-- ---- where they lie: of each token, whether what follows it is within an initial value or at its end

-- the same of all these tokens
abbrev pub each : Bool → List Leaf → List Bool
each within text = map (λ _. within) text

-- after the `=` and after each token of the value
abbrev pub within_initial_declarator : {names : List (List ℕ)} {is_typedef : Bool} {global : tree.Global} {end : Role} {text : List Leaf} → unit.InitialDeclarator names is_typedef global end text → List Bool
within_initial_declarator (unit.unset _ _ text _) = each false text
within_initial_declarator (unit.set _ _ _ text right _ _ _) = each false text ++ true ∷ each true right

-- not after the `,` or `;`
abbrev pub within_globals : {names : List (List ℕ)} {is_typedef : Bool} {globals : List tree.Global} {after : List (List ℕ)} {text : List Leaf} → unit.Globals names is_typedef globals after text → List Bool
within_globals (unit.last _ _ _ _ _ _ global) = within_initial_declarator global ++ false ∷ []
within_globals (unit.more _ _ _ _ _ _ _ _ _ global rest) = within_initial_declarator global ++ false ∷ within_globals rest

abbrev pub within_external_declaration : {names : List (List ℕ)} {item : tree.ExternalDeclaration} {after : List (List ℕ)} {text : List Leaf} → unit.ExternalDeclaration names item after text → List Bool
within_external_declaration {text = text} (unit.empty _ _) = each false text
within_external_declaration {text = text} (unit.nameless _ _ _ _ _) = each false text
within_external_declaration (unit.declaration _ _ _ _ left _ _ globals) = each false left ++ within_globals globals
within_external_declaration {text = text} (unit.definition _ _ _ _ _ _ _ _ _ _ _ _ _) = each false text

abbrev pub within_unit : {names : List (List ℕ)} {items : tree.TranslationUnit} {text : List Leaf} → unit.ExternalDeclarations names items text → List Bool
within_unit (unit.none _) = []
within_unit (unit.some _ _ _ _ _ _ item rest) = within_external_declaration item ++ within_unit rest
