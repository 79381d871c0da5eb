-- Small units as trees, for worked facts. An offset that a fact doesn't speak of is 0.
use Rattle.std.specs.Prelude.{ℕ, ℤ, true, false, List, [], ◌∷◌, codes, Option, Some, None, Result, Ok, Err}
use Rattle.c_token_spec.specs.declared.token.NumberType.TheVariants.{SignedInt, UnsignedInt}
use Rattle.c_syntax_spec.specs.declared.IntegerType.{IntegerType}
use Rattle.c_syntax_spec.specs.declared.IntegerType.TheVariants as integer
use Rattle.c_syntax_spec.specs.declared.BinaryOperator.{BinaryOperator}
use Rattle.c_syntax_spec.specs.declared.BinaryOperator.TheVariants as binary
use Rattle.c_syntax_spec.specs.declared.UnaryOperator.{UnaryOperator}
use Rattle.c_syntax_spec.specs.declared.UnaryOperator.TheVariants as unary
use Rattle.c_syntax_spec.specs.Expression as tree
use Rattle.c_syntax_spec.specs.Unit as unit
use Rattle.c_types_spec.specs.declared.Scalar.{Scalar}
use Rattle.c_types_spec.specs.declared.Arithmetic.TheVariants as arithmetic
use Rattle.c_types_spec.specs.Types.{CType, Member, Layout, empty_layout, padded}
use Rattle.c_types_spec.specs.Core.{FunctionType, Typed}
use Rattle.c_types_spec.specs.Core as core
use Rattle.c_types_spec.specs.Names.{State, Fault, start}
use Rattle.c_types_spec.specs.Operands.{Valued, constant_of}
use Rattle.c_types_spec.specs.Expressions.{members, value}
use Rattle.c_types_spec.specs.Units.{typed}

-- ---- parts of trees

abbrev pub name_at : (spelling : List ℕ) → (offset : ℕ) → tree.Name
name_at spelling offset = record { spelling = spelling; offset = offset }

abbrev pub words : tree.TypeSpecifier → (offset : ℕ) → tree.Specifiers
words base offset = tree.Specified (record { is_typedef = false; is_static = false }) base offset

abbrev pub typedef_words : tree.TypeSpecifier → (offset : ℕ) → tree.Specifiers
typedef_words base offset = tree.Specified (record { is_typedef = true; is_static = false }) base offset

abbrev pub of_type : IntegerType → tree.TypeSpecifier
of_type type = tree.Integer type

abbrev pub unsigned_words : (offset : ℕ) → tree.Specifiers
unsigned_words offset = words (of_type integer.UnsignedInt) offset

abbrev pub int_words : (offset : ℕ) → tree.Specifiers
int_words offset = words (of_type integer.Int) offset

abbrev pub plain : (spelling : List ℕ) → (offset : ℕ) → tree.Declarator
plain spelling offset = tree.Declared 0 (name_at spelling offset) false tree.no_expressions

abbrev pub number : (value offset : ℕ) → tree.Expression
number value offset = tree.Number value SignedInt offset

abbrev pub array : (spelling : List ℕ) → (offset : ℕ) → tree.Expression → tree.Declarator
array spelling offset length = tree.Declared 0 (name_at spelling offset) false (tree.expressions length tree.no_expressions)

abbrev pub pointer : (spelling : List ℕ) → (offset : ℕ) → tree.Declarator
pointer spelling offset = tree.Declared 1 (name_at spelling offset) false tree.no_expressions

abbrev pub variable : (spelling : List ℕ) → (offset : ℕ) → tree.Expression
variable spelling offset = tree.Named (name_at spelling offset)

abbrev pub parameter : tree.Specifiers → (pointers : ℕ) → tree.Name → unit.Parameter
parameter specifiers pointers name = record { specifiers = specifiers; pointers = pointers; name = Some name; is_open = false; lengths = tree.no_expressions }

abbrev pub function : tree.Name → List unit.Parameter → unit.FunctionDeclarator
function name parameters = record { pointers = 0; name = name; parameters = parameters }

abbrev pub returns : tree.Expression → (offset : ℕ) → unit.Statement
returns x offset = unit.Return (Some (unit.Computed x)) offset

abbrev pub evaluates : tree.Expression → unit.Statement
evaluates x = unit.Perform (unit.Evaluate (unit.Computed x))

abbrev pub one_statement : unit.Statement → unit.Parts
one_statement statement = unit.parts_statement statement unit.no_parts

abbrev pub object : tree.Specifiers → tree.Declarator → unit.ExternalDeclaration
object specifiers declarator = unit.Declaration specifiers (unit.Object declarator ∷ [])

abbrev pub unset : tree.Specifiers → tree.Declarator → unit.Locals
unset specifiers declarator = record { specifiers = specifiers; locals = record { declarator = declarator; value = None } ∷ [] }

abbrev pub set : tree.Specifiers → tree.Declarator → unit.Value → unit.Locals
set specifiers declarator value = record { specifiers = specifiers; locals = record { declarator = declarator; value = Some value } ∷ [] }

abbrev pub member : tree.Specifiers → tree.Declarator → tree.Members → tree.Members
member specifiers declarator rest = tree.members specifiers (tree.declarators declarator tree.no_declarators) rest

-- ---- what parts give, read alone

-- where the members are, the size and the alignment of a struct with these members
abbrev pub distances : List Member → List ℕ
distances [] = []
distances (m ∷ members) = m.distance ∷ distances members

abbrev pub layout_in : Result (Layout × State) Fault → Option (List ℕ × ℕ × ℕ)
layout_in (Ok made) = Some (distances made.0.members, padded made.0, made.0.alignment)
layout_in (Err fault) = None

abbrev pub layout_of : tree.Members → Option (List ℕ × ℕ × ℕ)
layout_of list = layout_in (members list empty_layout start)

-- the type of an expression, and its value where it is a constant expression
abbrev pub type_in : Result (Valued × State) Fault → Option CType
type_in (Ok made) = Some made.0.type
type_in (Err fault) = None

abbrev pub type_of : tree.Expression → Option CType
type_of x = type_in (value x start)

abbrev pub constant_in : Result (Valued × State) Fault → Option ℤ
constant_in (Ok made) = constant_of made.0
constant_in (Err fault) = None

abbrev pub value_of : tree.Expression → Option ℤ
value_of x = constant_in (value x start)

abbrev pub fault_in : {A : Type 0} → Result A Fault → Option Fault
fault_in (Ok made) = None
fault_in (Err fault) = Some fault

abbrev pub fault_of : unit.TranslationUnit → Option Fault
fault_of list = fault_in (typed list)

-- ---- units

-- unsigned f(unsigned a,unsigned b){return a+b;}
abbrev pub sum_unit : unit.TranslationUnit
sum_unit = unit.Definition (unsigned_words 0) (function (name_at (codes "f") 9) (parameter (unsigned_words 11) 0 (name_at (codes "a") 20) ∷ parameter (unsigned_words 22) 0 (name_at (codes "b") 31) ∷ []))
    (one_statement (returns (tree.Binary binary.Add (variable (codes "a") 41) (variable (codes "b") 43) 42) 34)) 45 ∷ []

-- its typed core
abbrev pub unsigned : Scalar
unsigned = record { width = 32; is_signed = false }

abbrev pub sum_type : FunctionType
sum_type = record { parameters = unsigned ∷ unsigned ∷ []; result = Some unsigned }

abbrev pub sum_typed : Typed
sum_typed = record {
  functions = (codes "f", sum_type) ∷ [];
  globals = [];
  bodies = record {
    name = codes "f";
    signature = sum_type;
    locals = unsigned ∷ unsigned ∷ [];
    loops = 0;
    calls = 0;
    mentions = [];
    action = core.Sequence (core.Return (Some (core.Operate arithmetic.Add unsigned (core.ReadLocal unsigned 0 41) (core.ReadLocal unsigned 1 43) 42))) (core.MissingReturn 45);
  } ∷ [];
}

-- int f(void){int x; return *&x;}
abbrev pub address_unit : unit.TranslationUnit
address_unit = unit.Definition (int_words 0) (function (name_at (codes "f") 4) [])
    (unit.parts_local (unset (int_words 12) (plain (codes "x") 16))
    (one_statement (returns (tree.Unary unary.Dereference (tree.Unary unary.AddressOf (variable (codes "x") 28) 27) 26) 19))) 30 ∷ []

-- void f(void){ statement }
abbrev pub body_unit : unit.Parts → unit.TranslationUnit
body_unit body = unit.Definition (words tree.Void 0) (function (name_at (codes "f") 5) []) body 90 ∷ []

-- ---- structs

abbrev pub char_words : tree.Specifiers
char_words = words (of_type integer.Char) 0

abbrev pub short_words : tree.Specifiers
short_words = words (of_type integer.Short) 0

-- char c; int i;
abbrev pub char_int : tree.Members
char_int = member char_words (plain (codes "c") 0) (member (int_words 0) (plain (codes "i") 0) tree.no_members)

-- int i; char c;
abbrev pub int_char : tree.Members
int_char = member (int_words 0) (plain (codes "i") 0) (member char_words (plain (codes "c") 0) tree.no_members)

-- char a[3]; short s; char c;
abbrev pub array_short_char : tree.Members
array_short_char =
    member char_words (array (codes "a") 0 (number 3 0))
    (member short_words (plain (codes "s") 0) (member char_words (plain (codes "c") 0) tree.no_members))

-- char c; struct {short s; char d;} t;
abbrev pub nested : tree.Members
nested =
    member char_words (plain (codes "c") 0)
    (member (words (tree.Struct None (member short_words (plain (codes "s") 0) (member char_words (plain (codes "d") 0) tree.no_members))) 0) (plain (codes "t") 0) tree.no_members)

-- char *p; char c;
abbrev pub pointer_char : tree.Members
pointer_char = member char_words (pointer (codes "p") 0) (member char_words (plain (codes "c") 0) tree.no_members)

-- char a[5];
abbrev pub five : tree.Members
five = member char_words (array (codes "a") 0 (number 5 0)) tree.no_members

-- ---- constant expressions

abbrev pub two : BinaryOperator → tree.Expression → tree.Expression → tree.Expression
two operator left right = tree.Binary operator left right 0

abbrev pub one : UnaryOperator → tree.Expression → tree.Expression
one operator x = tree.Unary operator x 0

abbrev pub int_number : (value : ℕ) → tree.Expression
int_number value = number value 0

abbrev pub unsigned_number : (value : ℕ) → tree.Expression
unsigned_number value = tree.Number value UnsignedInt 0

abbrev pub minus : (value : ℕ) → tree.Expression
minus value = one unary.Minus (int_number value)

abbrev pub cast : IntegerType → tree.Expression → tree.Expression
cast type x = tree.Cast (tree.Pointers (words (of_type type) 0) 0) x 0

-- ---- units with a fault

-- long long x;
abbrev pub wide_unit : unit.TranslationUnit
wide_unit = object (words (of_type integer.LongLong) 0) (plain (codes "x") 10) ∷ []

-- void f(void){x;}
abbrev pub unknown_unit : unit.TranslationUnit
unknown_unit = body_unit (one_statement (evaluates (variable (codes "x") 13)))

-- void f(void){{int x;}x;}
abbrev pub ended_unit : unit.TranslationUnit
ended_unit = body_unit (unit.parts_statement (unit.Block (unit.parts_local (unset (int_words 14) (plain (codes "x") 18)) unit.no_parts) 13) (one_statement (evaluates (variable (codes "x") 21))))

-- void f(void){int x;int x;}
abbrev pub twice_unit : unit.TranslationUnit
twice_unit = body_unit (unit.parts_local (unset (int_words 13) (plain (codes "x") 17)) (unit.parts_local (unset (int_words 19) (plain (codes "x") 23)) unit.no_parts))

-- void f(void){break;}
abbrev pub break_unit : unit.TranslationUnit
break_unit = body_unit (one_statement (unit.Break 13))

-- void f(void){1=2;}
abbrev pub value_unit : unit.TranslationUnit
value_unit = body_unit (one_statement (unit.Perform (unit.Assign (number 1 13) (unit.Computed (number 2 15)) 14)))

-- void f(void){sizeof(void);}
abbrev pub void_unit : unit.TranslationUnit
void_unit = body_unit (one_statement (evaluates (tree.SizeofType (tree.Pointers (words tree.Void 20) 0) 13)))

abbrev pub unnamed : unit.Parameter
unnamed = record { specifiers = int_words 0; pointers = 0; name = None; is_open = false; lengths = tree.no_expressions }

-- void f(int,int,int,int,int,int,int,int,int);
abbrev pub words_unit : unit.TranslationUnit
words_unit = unit.Declaration (words tree.Void 0) (unit.Function (function (name_at (codes "f") 5) (unnamed ∷ unnamed ∷ unnamed ∷ unnamed ∷ unnamed ∷ unnamed ∷ unnamed ∷ unnamed ∷ unnamed ∷ [])) ∷ []) ∷ []

-- void f(int a){ body }
abbrev pub with_parameter : unit.Parts → unit.TranslationUnit
with_parameter body = unit.Definition (words tree.Void 0) (function (name_at (codes "f") 5) (parameter (int_words 7) 0 (name_at (codes "a") 11) ∷ [])) body 90 ∷ []

abbrev pub assigns : (spelling : List ℕ) → (offset : ℕ) → (value : ℕ) → unit.Statement
assigns spelling offset value = unit.Perform (unit.Assign (variable spelling offset) (unit.Computed (number value 0)) 0)

-- void f(int a){switch(a){case 0:a=1;case 1:;}}
abbrev pub fallthrough_unit : unit.TranslationUnit
fallthrough_unit = with_parameter (one_statement (unit.Switch (variable (codes "a") 21)
    (unit.groups (unit.Case (number 0 29) 24 ∷ []) (one_statement (assigns (codes "a") 31 1))
    (unit.groups (unit.Case (number 1 40) 35 ∷ []) (one_statement (unit.Empty 42)) unit.no_groups)) 14))

-- void f(int a){int x=7;switch(a){case 0:;int x;x=5;break;case 1:x=2;break;}}
abbrev pub hidden_unit : unit.TranslationUnit
hidden_unit = with_parameter
    (unit.parts_local (set (int_words 14) (plain (codes "x") 18) (unit.Computed (number 7 20)))
    (one_statement (unit.Switch (variable (codes "a") 29)
    (unit.groups (unit.Case (number 0 37) 32 ∷ [])
    (unit.parts_statement (unit.Empty 39) (unit.parts_local (unset (int_words 40) (plain (codes "x") 44))
    (unit.parts_statement (assigns (codes "x") 46 5) (one_statement (unit.Break 50)))))
    (unit.groups (unit.Case (number 1 61) 56 ∷ []) (unit.parts_statement (assigns (codes "x") 63 2) (one_statement (unit.Break 67))) unit.no_groups)) 22)))

-- void f(void){int a[2];}
abbrev pub array_unit : unit.TranslationUnit
array_unit = body_unit (unit.parts_local (unset (int_words 13) (array (codes "a") 17 (number 2 19))) unit.no_parts)

-- void f(void){static int x;}
abbrev pub static_unit : unit.TranslationUnit
static_unit = body_unit (unit.parts_local (unset (tree.Specified (record { is_typedef = false; is_static = true }) (of_type integer.Int) 13) (plain (codes "x") 24)) unit.no_parts)

-- void f(void){f;}
abbrev pub function_unit : unit.TranslationUnit
function_unit = body_unit (one_statement (evaluates (variable (codes "f") 13)))

-- int *p;void f(void){p-p;}
abbrev pub difference_unit : unit.TranslationUnit
difference_unit = object (int_words 0) (pointer (codes "p") 5) ∷ body_unit (one_statement (evaluates (tree.Binary binary.Subtract (variable (codes "p") 20) (variable (codes "p") 22) 21)))

-- struct {char a[5];} s;void f(void){s;}
abbrev pub struct_unit : unit.TranslationUnit
struct_unit = object (words (tree.Struct None five) 0) (plain (codes "s") 19) ∷ body_unit (one_statement (evaluates (variable (codes "s") 34)))

-- int *p;int g(void);void f(void){*p=g();}
abbrev pub place_unit : unit.TranslationUnit
place_unit =
    object (int_words 0) (pointer (codes "p") 5)
    ∷ unit.Declaration (int_words 7) (unit.Function (function (name_at (codes "g") 11) []) ∷ [])
    ∷ body_unit (one_statement (unit.Perform (unit.Assign (one unary.Dereference (variable (codes "p") 33)) (unit.Called (record { callee = name_at (codes "g") 35; arguments = tree.no_expressions })) 34)))
