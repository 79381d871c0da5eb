-- What the fields of an image are to each other.
use Rattle.std.specs.Prelude.{◌≡◌, ℕ, map}
use Rattle.std.specs.Ordering.{nat_cmp}
use Rattle.std.specs.BTreeMap.{get}
use Rattle.elf_read_spec.specs.Image as spec
use Rattle.elf_read.specs.declared.loaded.Image.TheInside.{Inside}
use Rattle.elf_read.specs.Values.{segment_of, symbol_of}
use Rattle.elf_read.specs.Fixed.{AreFixed}
use Rattle.elf_read.specs.Extents.{AreExtents}
use Rattle.elf_read.specs.Lookups.{AreLookups}

abbrev pub image_view : Inside → spec.Image
image_view a = record { segments = map segment_of a.segments.items; symbols = map symbol_of a.symbols.items }

pub record IsIndexed (a : Inside) : Type 0 where
  pub fixed : AreFixed a.segments.items a.fixed.items
  pub extents : AreExtents a.fixed.items a.extents.items
  pub named : AreLookups a.named a.symbols.items
  pub sizes : (entry : ℕ) → get nat_cmp a.sizes entry ≡ spec.size_among (map symbol_of a.symbols.items) entry
  pub global_pointer : a.global_pointer ≡ spec.global_pointer (image_view a)
