-- Lists of names, as `f,g,h`.
use Rattle.std.specs.Prelude.{◌≡◌, ◌≢◌, ◌&&◌, ℕ, Bool, false, true, List, [], ◌∷◌, bytes_eq}
use Rattle.std.specs.List.{list_all, join_with_byte, IsDistinct}
use Rattle.c_token_spec.specs.Words.{begins_word, is_word_byte}

-- a letter or an underscore, and then letters, digits and underscores; C's keywords are names here
abbrev pub is_name : List ℕ → Bool
is_name [] = false
is_name (byte ∷ rest) = begins_word byte && list_all is_word_byte rest

-- the text is these names, separated by single commas (44)
pub record IsList (text : List ℕ) (names : List (List ℕ)) : Type 0 where
  pub spelled : text ≡ join_with_byte 44 names
  pub some : names ≢ []
  pub named : list_all is_name names ≡ true
  pub apart : IsDistinct bytes_eq names
