-- What is defined within initial values of small texts, computed from their tokens.
use Rattle.std.proofs.Common.{◌≡◌, ℕ, true, List, Option, Some, None, refl}
use Rattle.std.specs.Prelude.{codes, option_map}
use Rattle.c_token_spec.specs.Words.{keyword_of}
use Rattle.c_token_spec.specs.Numbers.{number_of}
use Rattle.c_token_spec.specs.Punctuators.{punctuator_of}
use Rattle.c_token_spec.specs.Lexical.{Placed, first_piece}
use Rattle.c_parse_spec.specs.Initials.{DefinesIn, DefinesNothing, definition_in}
use Rattle.example_laws.proofs.Lexed.{lexed, tokens_are}

defines_by : (most : ℕ) (text : List ℕ) (offset : ℕ) (made : Option (List Placed)) → lexed most true 0 text ≡ made
    → option_map definition_in made ≡ Some (Some offset) → DefinesIn text offset
defines_by most text offset None e f = absurd (cc)
defines_by most text offset (Some tokens) e f = record { tokens = tokens; lexes = tokens_are most text tokens e; first = cc }

nothing_by : (most : ℕ) (text : List ℕ) (made : Option (List Placed)) → lexed most true 0 text ≡ made
    → option_map definition_in made ≡ Some None → DefinesNothing text
nothing_by most text None e f = absurd (cc)
nothing_by most text (Some tokens) e f = record { tokens = tokens; lexes = tokens_are most text tokens e; nowhere = cc }

abbrev struct_text : List ℕ
struct_text = codes "int x=sizeof(struct s{int a;});"

pub struct_within : DefinesIn struct_text 21
unfolding lexed first_piece keyword_of number_of punctuator_of definition_in
struct_within = defines_by 40 struct_text 21 (lexed 40 true 0 struct_text) refl refl

abbrev enum_text : List ℕ
enum_text = codes "int a[2]={sizeof(enum{A}),0};"

pub enum_within_braces : DefinesIn enum_text 21
unfolding lexed first_piece keyword_of number_of punctuator_of definition_in
enum_within_braces = defines_by 40 enum_text 21 (lexed 40 true 0 enum_text) refl refl

abbrev second_text : List ℕ
second_text = codes "int x=1,y=sizeof(struct{int a;});"

pub struct_within_second : DefinesIn second_text 23
unfolding lexed first_piece keyword_of number_of punctuator_of definition_in
struct_within_second = defines_by 40 second_text 23 (lexed 40 true 0 second_text) refl refl

abbrev other_text : List ℕ
other_text = codes "struct s{int a;}x={1};int y=sizeof(struct s*);int f(void){struct t{int b;}*p;return 0;}"

pub nothing_within : DefinesNothing other_text
unfolding lexed first_piece keyword_of number_of punctuator_of definition_in
nothing_within = nothing_by 90 other_text (lexed 90 true 0 other_text) refl refl
