-- The names of the functions that a text defines are among its tokens.
use Rattle.std.proofs.Common.{◌≡◌, ℕ, true, List, [], ◌∷◌, ◌++◌, Ok, subst}
use Rattle.std.specs.List.{AllByRecursion}
use Rattle.std.proofs.lemmas.List.Elements.{All-from_recursion}
use Rattle.exact_read.specs.Reading.{plains}
use Rattle.c_syntax_spec.specs.Unit as tree
use Rattle.c_parse_spec.specs.Leaves.{Leaf, marks}
use Rattle.c_parse_spec.specs.Units.{FunctionDeclarator, function, ExternalDeclaration, empty, nameless, declaration, definition, ExternalDeclarations, none, some}
use Rattle.cert_text_spec.specs.Lines.{is_name}
use Rattle.c_types_laws.specs.Statements.{defined_by, defined, DefinesNames}
use Rattle.c_types_laws.proofs.Tokens.{AreNamed, tokens-named}

-- the names among leaves are names of certificates
abbrev Named : List Leaf → Type 0
Named text = AreNamed (plains marks text)

named_left : (left right : List Leaf) → Named (left ++ right) → Named left
named_left [] right h = tt
named_left (u ∷ left) right h = (h.0, named_left left right h.1)

named_right : (left right : List Leaf) → Named (left ++ right) → Named right
named_right [] right h = h
named_right (u ∷ left) right h = named_right left right h.1

function-named : (names : List (List ℕ)) (depth : ℕ) (declarator : tree.FunctionDeclarator) (text : List Leaf) → FunctionDeclarator names depth declarator text → Named text → is_name declarator.name.spelling ≡ true
function-named names _ _ _ (function depth pointers n list end stars inside offset close fresh pointer parameters) h = (named_right stars _ h).0

abbrev AreNames : List (List ℕ) → Type 0
AreNames names = AllByRecursion (λ name. is_name name ≡ true) names

names_append : (xs ys : List (List ℕ)) → AreNames xs → AreNames ys → AreNames (xs ++ ys)
names_append [] ys h k = k
names_append (x ∷ xs) ys h k = (h.0, names_append xs ys h.1 k)

declaration-named : (names : List (List ℕ)) (item : tree.ExternalDeclaration) (after : List (List ℕ)) (text : List Leaf) → ExternalDeclaration names item after text → Named text → AreNames (defined_by item)
declaration-named _ _ _ _ (empty names offset) h = tt
declaration-named _ _ _ _ (nameless names specifiers text end words) h = tt
declaration-named _ _ _ _ (declaration names specifiers globals after left right words declared) h = tt
declaration-named _ _ _ _ (definition names specifiers declarator body left middle inside offset close words is named parts) h =
    (function-named names 0 declarator middle named (named_left middle _ (named_right left _ h)), tt)

declarations-named : (names : List (List ℕ)) (unit : tree.TranslationUnit) (text : List Leaf) → ExternalDeclarations names unit text → Named text → AreNames (defined unit)
declarations-named _ _ _ (none names) h = tt
declarations-named _ _ _ (some names item rest after left right one others) h =
    names_append (defined_by item) (defined rest) (declaration-named names item after left one (named_left left right h)) (declarations-named after rest right others (named_right left right h))

pub defines_names : DefinesNames
defines_names text unit h =
    let named : AreNamed h.tokens = tokens-named true 0 text (Ok h.tokens) h.lexes in
    All-from_recursion (λ name. is_name name ≡ true) (defined unit) (declarations-named [] unit h.parses.text h.parses.derives (subst AreNamed h.parses.cut named))
