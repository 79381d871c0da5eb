-- Expressions and types as trees (ISO C11, 6.5 to 6.7). Brackets stay in the tree. The offset of a node is
-- that of its operator, or of its first token where it has none, in bytes from the start of the text.
use Rattle.std.specs.Prelude.{ℕ, Bool, List, Option}
use Rattle.c_token_spec.specs.declared.token.NumberType.{NumberType}
use Rattle.c_syntax_spec.specs.declared.BinaryOperator.{BinaryOperator}
use Rattle.c_syntax_spec.specs.declared.UnaryOperator.{UnaryOperator}
use Rattle.c_syntax_spec.specs.declared.Access.{Access}
use Rattle.c_syntax_spec.specs.declared.IntegerType.{IntegerType}

-- a name, and the offset of its first byte
pub record Name : Type 0 where
  pub spelling : List ℕ
  pub offset : ℕ

-- which of `typedef` and `static` are among the specifiers; the others carry no meaning here
pub record Storage : Type 0 where
  pub is_typedef : Bool
  pub is_static : Bool

mutual
  pub data Expression : Type 0 where
    Named : (name : Name) → Expression
    Number : (value : ℕ) → (type : NumberType) → (offset : ℕ) → Expression
    -- a character constant; its type is int
    Character : (value : ℕ) → (offset : ℕ) → Expression
    -- an expression in brackets
    Bracketed : (inner : Expression) → (offset : ℕ) → Expression
    -- `base[index]`
    Index : (base index : Expression) → (offset : ℕ) → Expression
    -- `base.member`, `base->member`
    Member : (base : Expression) → (access : Access) → (member : Name) → (offset : ℕ) → Expression
    Unary : (operator : UnaryOperator) → (operand : Expression) → (offset : ℕ) → Expression
    -- `sizeof operand`
    Sizeof : (operand : Expression) → (offset : ℕ) → Expression
    -- `sizeof (type)`
    SizeofType : (type : TypeName) → (offset : ℕ) → Expression
    -- `(type) operand`
    Cast : (type : TypeName) → (operand : Expression) → (offset : ℕ) → Expression
    Binary : (operator : BinaryOperator) → (left right : Expression) → (offset : ℕ) → Expression
    -- `test ? then : otherwise`
    Conditional : (test first second : Expression) → (offset : ℕ) → Expression

  -- specifiers, followed by so many `*`
  pub data TypeName : Type 0 where
    Pointers : (specifiers : Specifiers) → (pointers : ℕ) → TypeName

  -- the offset is that of the first token
  pub data Specifiers : Type 0 where
    Specified : (storage : Storage) → (base : TypeSpecifier) → (offset : ℕ) → Specifiers

  pub data TypeSpecifier : Type 0 where
    Void : TypeSpecifier
    Integer : (type : IntegerType) → TypeSpecifier
    TypedefName : (name : Name) → TypeSpecifier
    -- `struct tag`
    StructTag : (tag : Name) → TypeSpecifier
    Struct : (tag : Option Name) → (members : Members) → TypeSpecifier
    -- `enum tag`
    EnumTag : (tag : Name) → TypeSpecifier
    Enum : (tag : Option Name) → (constants : Constants) → TypeSpecifier

  -- a list of declarations of members
  pub data Members : Type 0 where
    no_members : Members
    members : (specifiers : Specifiers) → (declarators : Declarators) → (rest : Members) → Members

  pub data Declarators : Type 0 where
    no_declarators : Declarators
    declarators : (declarator : Declarator) → (rest : Declarators) → Declarators

  -- so many `*`, the name, and the lengths of an array, of which an open array lacks the first
  pub data Declarator : Type 0 where
    Declared : (pointers : ℕ) → (name : Name) → (is_open : Bool) → (lengths : Expressions) → Declarator

  pub data Expressions : Type 0 where
    no_expressions : Expressions
    expressions : (expression : Expression) → (rest : Expressions) → Expressions

  -- a list of enumeration constants, each with a value or without
  pub data Constants : Type 0 where
    no_constants : Constants
    constants : (name : Name) → (rest : Constants) → Constants
    constants_with : (name : Name) → (value : Expression) → (rest : Constants) → Constants
