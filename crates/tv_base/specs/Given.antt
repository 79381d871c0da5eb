-- What a desk in memory has under each name.
use Rattle.std.specs.Prelude.{ℕ, List, [], Option, Some, option_map, find, bytes_eq}
use Rattle.std.specs.Option.{unwrap_or}
use Rattle.tv_base.specs.declared.given.GivenFile.{GivenFile}

-- the bytes of the first file of this name
abbrev pub bytes_of : List GivenFile → List ℕ → Option (List ℕ)
bytes_of files name = option_map (λ file. file.bytes.now) (find (λ file. bytes_eq file.name.now name) files)

-- the same, where a name that no file has is that of an empty one
abbrev pub steady_bytes_of : List GivenFile → List ℕ → Option (List ℕ)
steady_bytes_of files name = Some (unwrap_or (bytes_of files name) [])
