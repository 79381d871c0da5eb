-- The value of a variable by the bits at its index.
use Rattle.std.proofs.Common.{◌≡◌, ◌<◌, ◌%◌, ◌^◌, ℕ, Bool, false, List, length, map, filter, ap, sym, ◌∙◌, subst}
use Rattle.std.proofs.Math.Path.{fun_ext}
use Rattle.std.proofs.lemmas.Option.{get_or_from_slice_get}
use Rattle.std.specs.Prelude.{◌==◌}
use Rattle.clause_check_spec.specs.Clause.{Valuation, holds}
use Rattle.term_core_spec.specs.declared.Width.{Width}
use Rattle.term_core_spec.specs.declared.Sort.TheVariants as sort
use Rattle.term_core_spec.specs.declared.Variable.{Variable}
use Rattle.term_core_spec.specs.declared.Atom.TheVariants as atom
use Rattle.term_core_spec.specs.Term.{Term, Leaf}
use Rattle.term_core_spec.specs.Sort.{bits}
use Rattle.term_core_spec.specs.Value as spec
use Rattle.term_core_spec.specs.Value.{low_bits}
use Rattle.term_bank.specs.Nodes.{tree_at, Holds, AreDistinct}
use Rattle.bit_blast_spec.specs.Goal.{Table, Load, bits_in, bit_of, loads_of, is_of_memory}
use Rattle.bit_blast_laws.specs.Meaning.{number_of}
use Rattle.bit_blast_laws.specs.Back.{first_byte, loads_from, value_back, read_back}
use Rattle.bit_blast.specs.Terms.{terms_in}
use Rattle.bit_blast.specs.declared.loads.LoadIndices.{LoadIndices}
use Rattle.bit_blast.specs.Loads.{load_at, AreWithin}
use Rattle.bit_blast.specs.Backs.{AreShort}
use Rattle.bit_blast.proofs.Numbers.{low_of}
use Rattle.bit_blast.proofs.Restored.{own_loads, short_filter}

own_tree : (t : Table) (index : ℕ) (v : Variable) → Holds (terms_in t) index (Leaf (atom.Open v)) → tree_at (terms_in t) index ≡ Leaf (atom.Open v)
own_tree t index v h = get_or_from_slice_get (terms_in t) index (Leaf (atom.Open v)) (Leaf (atom.Truth false)) h

pub truth_back : (values : Valuation) (t : Table) (index : ℕ) (v : Variable) (b : Bool) → v.sort ≡ sort.Truth → Holds (terms_in t) index (Leaf (atom.Open v))
    → b ≡ holds values (bit_of (bits_in t (tree_at (terms_in t) index))) → spec.Truth b ≡ read_back values t v
truth_back values t index v b e h is =
    ap spec.Truth (is ∙ ap (λ (x : Term). holds values (bit_of (bits_in t x))) (own_tree t index v h)) ∙ ap (value_back values t v) (sym e)

pub word_back : (values : Valuation) (t : Table) (index : ℕ) (v : Variable) (w : Width) (n low : ℕ) → v.sort ≡ sort.Word w → Holds (terms_in t) index (Leaf (atom.Open v))
    → n ≡ number_of values (bits_in t (tree_at (terms_in t) index)) % 2 ^ 64 → low ≡ low_bits (bits w) n → spec.Number w low ≡ read_back values t v
word_back values t index v w n low e h is made =
    ap (spec.Number w) (made ∙ ap (low_bits (bits w)) is ∙ low_of w (number_of values (bits_in t (tree_at (terms_in t) index)))
    ∙ ap (λ (x : Term). low_bits (bits w) (number_of values (bits_in t x))) (own_tree t index v h))
    ∙ ap (value_back values t v) (sym e)

pub bytes_back : (values : Valuation) (t : Table) (distinct : AreDistinct (terms_in t)) (loads : List LoadIndices) (within : AreWithin t loads)
    (all : map (load_at t) loads ≡ loads_of t t) (index : ℕ) (v : Variable) (own : List LoadIndices) (bytes : ℕ → ℕ) → index < length t → v.sort ≡ sort.Memory
    → Holds (terms_in t) index (Leaf (atom.Open v)) → own ≡ filter (λ (load : LoadIndices). load.memory == index) loads
    → (AreShort (map (load_at t) own) → (q : ℕ) → bytes q ≡ low_bits 8 (first_byte values q (map (load_at t) own)))
    → AreShort (loads_of t t) → spec.Bytes bytes ≡ read_back values t v
bytes_back values t distinct loads within all index v own bytes below e h mine made short =
    let same : map (load_at t) own ≡ loads_from (Leaf (atom.Open v)) t = own_loads t distinct loads within all index v own below h mine in
    let own_short : AreShort (map (load_at t) own) = subst AreShort (sym same) (short_filter (is_of_memory (Leaf (atom.Open v))) (loads_of t t) short) in
    ap spec.Bytes (fun_ext (λ q. made own_short q ∙ ap (λ (list : List Load). low_bits 8 (first_byte values q list)) same)) ∙ ap (value_back values t v) (sym e)
