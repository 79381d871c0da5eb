-- Names and keywords (ISO C11, 6.4.1 and 6.4.2).
use Rattle.std.specs.Prelude.{ℕ, ◌==◌, ◌&&◌, ◌||◌, nat_le, Bool, List, [], ◌∷◌, codes, bytes_eq, Option, option_map, find}
use Rattle.c_token_spec.specs.declared.token.Keyword.{Keyword}
use Rattle.c_token_spec.specs.declared.token.Keyword.TheVariants.{Auto, Break, Case, Char, Const, Continue, Default, Do, Double, Else, Enum, Extern, Float, For, Goto, If, Inline, Int, Long, Register, Restrict, Return, Short, Signed, Sizeof, Static, Struct, Switch, Typedef, Union, Unsigned, Void, Volatile, While, Alignas, Alignof, Atomic, Boolean, Complex, Generic, Imaginary, Noreturn, StaticAssert, ThreadLocal, Asm, Attribute}

abbrev pub is_digit : ℕ → Bool
is_digit byte = nat_le 48 byte && nat_le byte 57

-- a letter or an underscore
abbrev pub begins_word : ℕ → Bool
begins_word byte = (nat_le 65 byte && nat_le byte 90) || (nat_le 97 byte && nat_le byte 122) || (byte == 95)

-- a letter, a digit or an underscore
abbrev pub is_word_byte : ℕ → Bool
is_word_byte byte = is_digit byte || begins_word byte

-- the keywords, each with its spelling
abbrev pub keywords : List (List ℕ × Keyword)
keywords =
    (codes "auto", Auto) ∷ (codes "break", Break) ∷ (codes "case", Case) ∷ (codes "char", Char) ∷
    (codes "const", Const) ∷ (codes "continue", Continue) ∷ (codes "default", Default) ∷ (codes "do", Do) ∷
    (codes "double", Double) ∷ (codes "else", Else) ∷ (codes "enum", Enum) ∷ (codes "extern", Extern) ∷
    (codes "float", Float) ∷ (codes "for", For) ∷ (codes "goto", Goto) ∷ (codes "if", If) ∷
    (codes "inline", Inline) ∷ (codes "int", Int) ∷ (codes "long", Long) ∷ (codes "register", Register) ∷
    (codes "restrict", Restrict) ∷ (codes "return", Return) ∷ (codes "short", Short) ∷
    (codes "signed", Signed) ∷ (codes "sizeof", Sizeof) ∷ (codes "static", Static) ∷
    (codes "struct", Struct) ∷ (codes "switch", Switch) ∷ (codes "typedef", Typedef) ∷
    (codes "union", Union) ∷ (codes "unsigned", Unsigned) ∷ (codes "void", Void) ∷
    (codes "volatile", Volatile) ∷ (codes "while", While) ∷ (codes "_Alignas", Alignas) ∷
    (codes "_Alignof", Alignof) ∷ (codes "_Atomic", Atomic) ∷ (codes "_Bool", Boolean) ∷
    (codes "_Complex", Complex) ∷ (codes "_Generic", Generic) ∷ (codes "_Imaginary", Imaginary) ∷
    (codes "_Noreturn", Noreturn) ∷ (codes "_Static_assert", StaticAssert) ∷
    (codes "_Thread_local", ThreadLocal) ∷ (codes "asm", Asm) ∷ (codes "__asm", Asm) ∷
    (codes "__asm__", Asm) ∷ (codes "__attribute__", Attribute) ∷ []

-- the entry of a table under a word
abbrev pub entry_of : {V : Type 0} → List (List ℕ × V) → List ℕ → Option V
entry_of table word = option_map (λ entry. entry.1) (find (λ entry. bytes_eq entry.0 word) table)

unfoldable pub keyword_of : List ℕ → Option Keyword
keyword_of = entry_of keywords
