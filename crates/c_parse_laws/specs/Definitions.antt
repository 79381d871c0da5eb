-- Which structs and enums a derivation defines: the offset of each `{` that follows `struct` or `enum`, and its tag, in
-- a derivation of a specifier with a list (ISO C11, 6.7.2.1p1, 6.7.2.2p1), in the order of the tokens. What a
-- production defines is what its parts define, one after the other.
use Rattle.std.specs.Prelude.{ℕ, Bool, List, [], ◌∷◌, ◌++◌}
use Rattle.c_syntax_spec.specs.Expression as tree
use Rattle.c_parse_spec.specs.declared.Role.{Role}
use Rattle.c_parse_spec.specs.Leaves.{Leaf}
use Rattle.c_parse_spec.specs.Expressions as grammar
use Rattle.c_parse_spec.specs.Units as unit

abbrev mutual
  pub in_primary : {names : List (List ℕ)} {depth count : ℕ} {x : tree.Expression} {text : List Leaf} → grammar.Primary names depth count x text → List ℕ
  in_primary (grammar.name _ _ _ _) = []
  in_primary (grammar.constant _ _ _ _ _) = []
  in_primary (grammar.character_constant _ _ _ _) = []
  in_primary (grammar.bracketed _ _ _ _ _ _ inside) = in_conditional inside

  pub in_postfix : {names : List (List ℕ)} {depth count : ℕ} {x : tree.Expression} {text : List Leaf} → grammar.Postfix names depth count x text → List ℕ
  in_postfix (grammar.primary _ _ _ _ x) = in_primary x
  in_postfix (grammar.index _ _ _ _ _ _ _ _ base i) = in_postfix base ++ in_conditional i
  in_postfix (grammar.member _ _ _ _ _ _ _ base) = in_postfix base

  pub in_unary : {names : List (List ℕ)} {depth count : ℕ} {x : tree.Expression} {text : List Leaf} → grammar.Unary names depth count x text → List ℕ
  in_unary (grammar.postfix _ _ _ _ x) = in_postfix x
  in_unary (grammar.prefixed _ _ _ _ _ _ x) = in_cast x
  in_unary (grammar.sizeof_expression _ _ _ _ _ x) = in_unary x
  in_unary (grammar.sizeof_type _ _ _ _ _ _ _ type) = in_type_name type

  pub in_cast : {names : List (List ℕ)} {depth count : ℕ} {x : tree.Expression} {text : List Leaf} → grammar.Cast names depth count x text → List ℕ
  in_cast (grammar.unary _ _ _ _ x) = in_unary x
  in_cast (grammar.cast _ _ _ _ _ _ _ _ type x) = in_type_name type ++ in_cast x

  pub in_binary : {names : List (List ℕ)} {level depth count : ℕ} {x : tree.Expression} {text : List Leaf} → grammar.Binary names level depth count x text → List ℕ
  in_binary (grammar.operand _ _ _ _ x) = in_cast x
  in_binary (grammar.tighter _ _ _ _ _ x) = in_binary x
  in_binary (grammar.operation _ _ _ _ _ _ _ _ _ _ x y) = in_binary x ++ in_binary y

  pub in_conditional : {names : List (List ℕ)} {depth count : ℕ} {x : tree.Expression} {text : List Leaf} → grammar.Conditional names depth count x text → List ℕ
  in_conditional (grammar.logical_or _ _ _ _ x) = in_binary x
  in_conditional (grammar.conditional _ _ _ _ _ _ _ _ _ _ x y z) = in_binary x ++ (in_conditional y ++ in_conditional z)

  pub in_type_name : {names : List (List ℕ)} {depth : ℕ} {counting : grammar.Counting} {type : tree.TypeName} {text : List Leaf} → grammar.TypeName names depth counting type text → List ℕ
  in_type_name (grammar.type_name _ _ _ _ _ _ given _) = in_specifiers given

  pub in_specifiers : {names : List (List ℕ)} {position : grammar.Position} {depth : ℕ} {counting : grammar.Counting} {given : tree.Specifiers} {text : List Leaf} → grammar.Specifiers names position depth counting given text → List ℕ
  in_specifiers (grammar.specifiers _ _ _ _ _ _ _ _ _ _ base _) = in_type_specifier base

  -- the definitions themselves
  pub in_type_specifier : {names : List (List ℕ)} {depth : ℕ} {counting : grammar.Counting} {base : tree.TypeSpecifier} {text : List Leaf} → grammar.TypeSpecifier names depth counting base text → List ℕ
  in_type_specifier (grammar.void _ _ _) = []
  in_type_specifier (grammar.integer_type _ _ _ _ _) = []
  in_type_specifier (grammar.typedef_name _ _ _ _) = []
  in_type_specifier (grammar.struct_tag _ _ _ _ _) = []
  in_type_specifier (grammar.struct _ _ _ _ _ _ _ open_offset _ _ inside) = open_offset ∷ in_members inside
  in_type_specifier (grammar.enum_tag _ _ _ _ _) = []
  in_type_specifier (grammar.enum _ _ _ _ _ _ _ _ open_offset _ _ inside) = open_offset ∷ in_constants inside

  pub in_members : {names : List (List ℕ)} {depth : ℕ} {counting : grammar.Counting} {members : tree.Members} {text : List Leaf} → grammar.Members names depth counting members text → List ℕ
  in_members (grammar.no_members _ _) = []
  in_members (grammar.members _ _ _ _ _ _ _ _ given declared rest) = in_specifiers given ++ (in_member_declarators declared ++ in_members rest)

  pub in_member_declarators : {names : List (List ℕ)} {depth : ℕ} {counting : grammar.Counting} {declarators : tree.Declarators} {text : List Leaf} → grammar.MemberDeclarators names depth counting declarators text → List ℕ
  in_member_declarators (grammar.last_member _ _ _ _ _ declared) = in_declarator declared
  in_member_declarators (grammar.more_members _ _ _ _ _ _ _ declared rest) = in_declarator declared ++ in_member_declarators rest

  pub in_declarator : {names : List (List ℕ)} {is_member : Bool} {depth : ℕ} {counting : grammar.Counting} {declarator : tree.Declarator} {text : List Leaf} → grammar.Declarator names is_member depth counting declarator text → List ℕ
  in_declarator (grammar.declarator _ _ _ _ _ _ _ _ _ _ _ dimensions) = in_dimensions dimensions

  pub in_dimensions : {names : List (List ℕ)} {depth : ℕ} {counting : grammar.Counting} {is_open : Bool} {lengths : tree.Expressions} {text : List Leaf} → grammar.Dimensions names depth counting is_open lengths text → List ℕ
  in_dimensions (grammar.given _ _ _ _ lengths) = in_lengths lengths
  in_dimensions (grammar.left_out _ _ _ _ _ _ lengths) = in_lengths lengths

  pub in_lengths : {names : List (List ℕ)} {depth : ℕ} {counting : grammar.Counting} {lengths : tree.Expressions} {text : List Leaf} → grammar.Lengths names depth counting lengths text → List ℕ
  in_lengths (grammar.no_lengths _ _) = []
  in_lengths (grammar.some_length _ _ _ _ _ _ _ _ x rest) = in_conditional x ++ in_lengths rest

  pub in_constants : {names : List (List ℕ)} {depth : ℕ} {counting : grammar.Counting} {constants : tree.Constants} {end : Role} {text : List Leaf} → grammar.Constants names depth counting constants end text → List ℕ
  in_constants (grammar.last _ _ _ _) = []
  in_constants (grammar.last_comma _ _ _ _ _) = []
  in_constants (grammar.more _ _ _ _ _ _ _ _ rest) = in_constants rest
  in_constants (grammar.last_with _ _ _ _ _ _ _ x) = in_conditional x
  in_constants (grammar.last_with_comma _ _ _ _ _ _ _ _ x) = in_conditional x
  in_constants (grammar.more_with _ _ _ _ _ _ _ _ _ _ _ x rest) = in_conditional x ++ in_constants rest

-- an initial value of a global (6.7.9)
abbrev mutual
  pub in_initializer : {names : List (List ℕ)} {depth : ℕ} {end : Role} {text : List Leaf} → unit.Initializer names depth end text → List ℕ
  in_initializer (unit.value _ _ _ x) = in_conditional x
  in_initializer (unit.empty_list _ _ _) = []
  in_initializer (unit.list _ _ _ _ _ inside) = in_initializer_list inside

  pub in_initializer_list : {names : List (List ℕ)} {depth : ℕ} {end : Role} {text : List Leaf} → unit.InitializerList names depth end text → List ℕ
  in_initializer_list (unit.last _ _ _ _ prefix initial) = in_designation prefix ++ in_initializer initial
  in_initializer_list (unit.last_comma _ _ _ _ _ prefix initial) = in_designation prefix ++ in_initializer initial
  in_initializer_list (unit.more _ _ _ _ _ _ _ prefix initial rest) = in_designation prefix ++ (in_initializer initial ++ in_initializer_list rest)

  pub in_designation : {names : List (List ℕ)} {depth : ℕ} {text : List Leaf} → unit.Designation names depth text → List ℕ
  in_designation (unit.none _) = []
  in_designation (unit.some _ _ _ designators) = in_designators designators

  pub in_designators : {names : List (List ℕ)} {depth : ℕ} {text : List Leaf} → unit.Designators names depth text → List ℕ
  in_designators (unit.one _ _ designator) = in_designator designator
  in_designators (unit.more_designators _ _ _ first rest) = in_designator first ++ in_designators rest

  pub in_designator : {names : List (List ℕ)} {depth : ℕ} {text : List Leaf} → unit.Designator names depth text → List ℕ
  in_designator (unit.member _ _ _) = []
  in_designator (unit.element _ _ _ _ _ x) = in_conditional x
