-- The scan over the leaves of expressions and types: it finds what they define.
use Rattle.std.proofs.Common.{ℕ, Bool, true, List, [], refl}
use Rattle.c_syntax_spec.specs.Expression as tree
use Rattle.c_parse_spec.specs.declared.Role.{Role}
use Rattle.c_parse_spec.specs.Leaves.{Leaf}
use Rattle.c_parse_spec.specs.Expressions as grammar
use Rattle.c_parse_laws.specs.Definitions.{in_primary, in_postfix, in_unary, in_cast, in_binary, in_conditional, in_type_name, in_specifiers, in_type_specifier, in_members, in_member_declarators, in_declarator, in_dimensions, in_lengths, in_constants}
use Rattle.c_parse_laws.proofs.InitialTokens.{Stage, Fresh, Loose}
use Rattle.c_parse_laws.proofs.Scans.{Runs, append, append_plain, empty, token, separator, bracket, bracket_then}
use Rattle.c_parse_laws.proofs.InitialWords.{access_plain, unary_plain, binary_plain, pointer_runs, words_runs, integer_runs, tag_runs, definition_runs}

mutual
  pub primary_runs : {names : List (List ℕ)} {depth count : ℕ} {x : tree.Expression} {text : List Leaf} (h : grammar.Primary names depth count x text) (begin : Stage) (inner v : Bool) → Runs begin Loose inner v text (in_primary h)
  primary_runs (grammar.name _ _ _ _) begin inner v = token refl empty
  primary_runs (grammar.constant _ _ _ _ _) begin inner v = token refl empty
  primary_runs (grammar.character_constant _ _ _ _) begin inner v = token refl empty
  primary_runs (grammar.bracketed _ _ _ _ _ _ inside) begin inner v = bracket _ refl refl refl (conditional_runs inside Fresh true v)

  pub postfix_runs : {names : List (List ℕ)} {depth count : ℕ} {x : tree.Expression} {text : List Leaf} (h : grammar.Postfix names depth count x text) (begin : Stage) (inner v : Bool) → Runs begin Loose inner v text (in_postfix h)
  postfix_runs (grammar.primary _ _ _ _ x) begin inner v = primary_runs x begin inner v
  postfix_runs (grammar.index _ _ _ _ _ _ _ _ base i) begin inner v = append (postfix_runs base begin inner v) (bracket _ refl refl refl (conditional_runs i Fresh true v))
  postfix_runs (grammar.member _ _ _ access _ _ _ base) begin inner v = append_plain (postfix_runs base begin inner v) (token (access_plain access) (token refl empty))

  pub unary_runs : {names : List (List ℕ)} {depth count : ℕ} {x : tree.Expression} {text : List Leaf} (h : grammar.Unary names depth count x text) (begin : Stage) (inner v : Bool) → Runs begin Loose inner v text (in_unary h)
  unary_runs (grammar.postfix _ _ _ _ x) begin inner v = postfix_runs x begin inner v
  unary_runs (grammar.prefixed _ _ operator _ _ _ x) begin inner v = token (unary_plain operator) (cast_runs x Fresh inner v)
  unary_runs (grammar.sizeof_expression _ _ _ _ _ x) begin inner v = token refl (unary_runs x Fresh inner v)
  unary_runs (grammar.sizeof_type _ _ _ _ _ _ _ type) begin inner v = token refl (bracket _ refl refl refl (type_name_runs type Fresh true v))

  pub cast_runs : {names : List (List ℕ)} {depth count : ℕ} {x : tree.Expression} {text : List Leaf} (h : grammar.Cast names depth count x text) (begin : Stage) (inner v : Bool) → Runs begin Loose inner v text (in_cast h)
  cast_runs (grammar.unary _ _ _ _ x) begin inner v = unary_runs x begin inner v
  cast_runs (grammar.cast _ _ _ _ _ _ _ _ type x) begin inner v = bracket_then _ refl refl refl (type_name_runs type Fresh true v) (cast_runs x Fresh inner v)

  pub binary_runs : {names : List (List ℕ)} {level depth count : ℕ} {x : tree.Expression} {text : List Leaf} (h : grammar.Binary names level depth count x text) (begin : Stage) (inner v : Bool) → Runs begin Loose inner v text (in_binary h)
  binary_runs (grammar.operand _ _ _ _ x) begin inner v = cast_runs x begin inner v
  binary_runs (grammar.tighter _ _ _ _ _ x) begin inner v = binary_runs x begin inner v
  binary_runs (grammar.operation _ _ _ operator _ _ _ _ _ _ x y) begin inner v = append (binary_runs x begin inner v) (token (binary_plain operator) (binary_runs y Fresh inner v))

  pub conditional_runs : {names : List (List ℕ)} {depth count : ℕ} {x : tree.Expression} {text : List Leaf} (h : grammar.Conditional names depth count x text) (begin : Stage) (inner v : Bool) → Runs begin Loose inner v text (in_conditional h)
  conditional_runs (grammar.logical_or _ _ _ _ x) begin inner v = binary_runs x begin inner v
  conditional_runs (grammar.conditional _ _ _ _ _ _ _ _ _ _ x y z) begin inner v =
      append (binary_runs x begin inner v) (token refl (append (conditional_runs y Fresh inner v) (token refl (conditional_runs z Fresh inner v))))

  pub type_name_runs : {names : List (List ℕ)} {depth : ℕ} {counting : grammar.Counting} {type : tree.TypeName} {text : List Leaf} (h : grammar.TypeName names depth counting type text) (begin : Stage) (inner v : Bool) → Runs begin Loose inner v text (in_type_name h)
  type_name_runs (grammar.type_name _ _ _ _ _ _ given stars) begin inner v = append_plain (specifiers_runs given begin inner v) (pointer_runs stars)

  pub specifiers_runs : {names : List (List ℕ)} {position : grammar.Position} {depth : ℕ} {counting : grammar.Counting} {given : tree.Specifiers} {text : List Leaf} (h : grammar.Specifiers names position depth counting given text) (begin : Stage) (inner v : Bool) → Runs begin Loose inner v text (in_specifiers h)
  specifiers_runs (grammar.specifiers _ _ _ _ _ _ _ _ _ before base after) begin inner v = append (words_runs before) (append_plain (type_specifier_runs base Loose inner v) (words_runs after))

  pub type_specifier_runs : {names : List (List ℕ)} {depth : ℕ} {counting : grammar.Counting} {base : tree.TypeSpecifier} {text : List Leaf} (h : grammar.TypeSpecifier names depth counting base text) (begin : Stage) (inner v : Bool) → Runs begin Loose inner v text (in_type_specifier h)
  type_specifier_runs (grammar.void _ _ _) begin inner v = token refl empty
  type_specifier_runs (grammar.integer_type _ _ _ words is) begin inner v = integer_runs words is
  type_specifier_runs (grammar.typedef_name _ _ _ _) begin inner v = token refl empty
  type_specifier_runs (grammar.struct_tag _ _ n _ _) begin inner v = tag_runs n refl
  type_specifier_runs (grammar.struct _ _ _ _ _ _ _ _ _ tagged inside) begin inner v = definition_runs _ _ refl refl refl tagged (members_runs inside Fresh v)
  type_specifier_runs (grammar.enum_tag _ _ n _ _) begin inner v = tag_runs n refl
  type_specifier_runs (grammar.enum _ _ _ _ _ _ _ _ _ _ tagged inside) begin inner v = definition_runs _ _ refl refl refl tagged (constants_runs inside Fresh v)

  pub members_runs : {names : List (List ℕ)} {depth : ℕ} {counting : grammar.Counting} {members : tree.Members} {text : List Leaf} (h : grammar.Members names depth counting members text) (begin : Stage) (v : Bool) → Runs begin Loose true v text (in_members h)
  members_runs (grammar.no_members _ _) begin v = empty
  members_runs (grammar.members _ _ _ _ _ _ _ _ given declared rest) begin v =
      append (specifiers_runs given begin true v) (append (member_declarators_runs declared Loose v) (members_runs rest Loose v))

  pub member_declarators_runs : {names : List (List ℕ)} {depth : ℕ} {counting : grammar.Counting} {declarators : tree.Declarators} {text : List Leaf} (h : grammar.MemberDeclarators names depth counting declarators text) (begin : Stage) (v : Bool) → Runs begin Loose true v text (in_member_declarators h)
  member_declarators_runs (grammar.last_member _ _ _ _ _ declared) begin v = append_plain (declarator_runs declared begin true v) (separator refl empty)
  member_declarators_runs (grammar.more_members _ _ _ _ _ _ _ declared rest) begin v = append (declarator_runs declared begin true v) (separator refl (member_declarators_runs rest Fresh v))

  pub declarator_runs : {names : List (List ℕ)} {is_member : Bool} {depth : ℕ} {counting : grammar.Counting} {declarator : tree.Declarator} {text : List Leaf} (h : grammar.Declarator names is_member depth counting declarator text) (begin : Stage) (inner v : Bool) → Runs begin Loose inner v text (in_declarator h)
  declarator_runs (grammar.declarator _ _ _ _ _ _ _ _ _ _ stars dimensions) begin inner v = append (pointer_runs stars) (token refl (dimensions_runs dimensions Fresh inner v))

  pub dimensions_runs : {names : List (List ℕ)} {depth : ℕ} {counting : grammar.Counting} {is_open : Bool} {lengths : tree.Expressions} {text : List Leaf} (h : grammar.Dimensions names depth counting is_open lengths text) (begin : Stage) (inner v : Bool) → Runs begin Loose inner v text (in_dimensions h)
  dimensions_runs (grammar.given _ _ _ _ lengths) begin inner v = lengths_runs lengths begin inner v
  dimensions_runs (grammar.left_out _ _ _ _ _ _ lengths) begin inner v = bracket_then {inside = []} _ refl refl refl empty (lengths_runs lengths Fresh inner v)

  pub lengths_runs : {names : List (List ℕ)} {depth : ℕ} {counting : grammar.Counting} {lengths : tree.Expressions} {text : List Leaf} (h : grammar.Lengths names depth counting lengths text) (begin : Stage) (inner v : Bool) → Runs begin Loose inner v text (in_lengths h)
  lengths_runs (grammar.no_lengths _ _) begin inner v = empty
  lengths_runs (grammar.some_length _ _ _ _ _ _ _ _ x rest) begin inner v = bracket_then _ refl refl refl (conditional_runs x Fresh true v) (lengths_runs rest Fresh inner v)

  pub constants_runs : {names : List (List ℕ)} {depth : ℕ} {counting : grammar.Counting} {constants : tree.Constants} {end : Role} {text : List Leaf} (h : grammar.Constants names depth counting constants end text) (begin : Stage) (v : Bool) → Runs begin Loose true v text (in_constants h)
  constants_runs (grammar.last _ _ _ _) begin v = token refl empty
  constants_runs (grammar.last_comma _ _ _ _ _) begin v = token refl (separator refl empty)
  constants_runs (grammar.more _ _ _ _ _ _ _ _ rest) begin v = token refl (separator refl (constants_runs rest Fresh v))
  constants_runs (grammar.last_with _ _ _ _ _ _ _ x) begin v = token refl (separator refl (conditional_runs x Fresh true v))
  constants_runs (grammar.last_with_comma _ _ _ _ _ _ _ _ x) begin v = token refl (separator refl (append_plain (conditional_runs x Fresh true v) (separator refl empty)))
  constants_runs (grammar.more_with _ _ _ _ _ _ _ _ _ _ _ x rest) begin v = token refl (separator refl (append (conditional_runs x Fresh true v) (separator refl (constants_runs rest Fresh v))))
