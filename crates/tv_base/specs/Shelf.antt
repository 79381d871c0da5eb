-- What a store in memory holds under each name.
use Rattle.std.specs.Prelude.{ℕ, List, [], if◌then◌else◌, Option, Some, fold, bytes_eq, string_bytes}
use Rattle.tv_base.specs.declared.shelf.StoredFile.{StoredFile}
use Rattle.tv_base.specs.declared.shelf.Shelf.{Shelf}

-- the bytes under each name, where this name holds this text, and each other what it held before
abbrev pub with_text : List ℕ → List ℕ → (List ℕ → List ℕ) → List ℕ → List ℕ
with_text name text earlier other = if bytes_eq name other then text else earlier other

-- no name holds anything
abbrev pub no_text : List ℕ → List ℕ
no_text name = []

-- the bytes under each name, where these files were begun in this order, each in place of earlier ones of its name
abbrev pub texts_of : List StoredFile → List ℕ → List ℕ
texts_of files = fold (λ earlier file. with_text (string_bytes file.name) file.text.items earlier) no_text files

-- a text under the empty name alone, which is all that a plain sink holds
abbrev pub unnamed : List ℕ → List ℕ → Option (List ℕ)
unnamed text name = Some (with_text [] text no_text name)

-- what a shelf holds under each name
abbrev pub on_shelf : Shelf → List ℕ → Option (List ℕ)
on_shelf shelf name = Some (with_text (string_bytes shelf.last.name) shelf.last.text.items (texts_of shelf.earlier.items) name)
