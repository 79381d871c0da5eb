-- The names of the entries of a symbol table.
use Rattle.std.specs.Prelude.{◌<◌, ◌+◌, ◌==◌, not, map, filter, ℕ, List, Contains}
use Rattle.elf_read_spec.specs.File as spec
use Rattle.elf_read_spec.specs.declared.fields.TheConstants.{ST_SHNDX, SHN_UNDEF}

-- the first entry of a symbol table whose name isn't ended
pub record IsFirstUnended (bytes : List ℕ) (table at : ℕ) : Type 0 where
  pub entry : Contains (spec.symbols bytes table) at
  pub unended : spec.IsEnded bytes table at → ⊥
  pub lowest : (before : ℕ) → before < at → Contains (spec.symbols bytes table) before → spec.IsEnded bytes table before

-- the names of the defined symbols of a symbol table, in order
abbrev pub names_of : List ℕ → (table : ℕ) → List (List ℕ)
names_of bytes table =
    map (λ at. (spec.symbol_at bytes table at).name)
    (filter (λ at. not (spec.u16_at bytes (at + ST_SHNDX) == SHN_UNDEF)) (spec.symbols bytes table))
