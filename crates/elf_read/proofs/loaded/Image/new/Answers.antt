use Rattle.std.proofs.Common.{◌≡◌, ℕ, List, subst, map}
use Rattle.std.specs.Ordering.{nat_cmp}
use Rattle.std.specs.BTreeMap.{get}
use Rattle.elf_read_spec.specs.Image.{global_pointer, size_among}
use Rattle.elf_read.specs.declared.parts.Symbol.{Symbol}
use Rattle.elf_read.specs.Values.{symbol_of}
use Rattle.elf_read.specs.Fixed.{AreFixed}
use Rattle.elf_read.specs.Extents.{AreExtents}
use Rattle.elf_read.specs.Lookups.{AreLookups}
use Rattle.elf_read.proofs.loaded.Image.new.Goals as goal

pub invariant_of-result : goal.invariant_of-result
unfolding global_pointer
invariant_of-result c = record {
  fixed = subst (λ xs. AreFixed xs c.in_ok-fixed.fixed.items) c.as_slice.ensures.value c.in_ok-fixed.ensures;
  extents = subst (λ xs. AreExtents xs c.in_ok-extents.extents.items) c.as_slice-2.ensures.value c.in_ok-extents.ensures;
  named = subst (λ xs. AreLookups c.in_ok-named.named xs) c.as_slice-3.ensures.value c.in_ok-named.ensures;
  sizes =
      subst (λ (xs : List Symbol). (entry : ℕ) → get nat_cmp c.in_ok-sizes.sizes entry ≡ size_among (map symbol_of xs) entry)
      c.as_slice-4.ensures.value c.in_ok-sizes.ensures;
  global_pointer = rw c.as_slice-5.ensures.value at c.first_named-global_pointer.ensures;
}
