-- Tables of terms with their bits.
use Rattle.std.proofs.Common.{◌≡◌, ◌+◌, ℕ, Bool, true, false, List, [], ◌∷◌, ◌++◌, Option, Some, None, refl, ap, sym, ◌∙◌, subst}
use Rattle.std.specs.Prelude.{if◌then◌else◌, is_some}
use Rattle.std.specs.List.{find}
use Rattle.clause_check_spec.specs.Clause.{Valuation}
use Rattle.term_core_spec.specs.Term.{Term}
use Rattle.term_core_spec.specs.Value.{Assignment, value}
use Rattle.term_core_spec.specs.Same.{same_term}
use Rattle.term_core_spec.proofs.Same.{same_is, same_itself}
use Rattle.bit_blast_spec.specs.Gates.{Gate, Build, last_of, give, ◌>>=◌}
use Rattle.bit_blast_spec.specs.Circuits.{Bits}
use Rattle.bit_blast_spec.specs.Goal.{Table, is_there, bits_in, found_bits, enter, once}
use Rattle.bit_blast_laws.specs.Meaning.{AllHold}
use Rattle.bit_blast_laws.proofs.Gates.{hold_parts}
use Rattle.bit_blast_laws.specs.Shows.{Shows, AllShow}
use Rattle.bit_blast_laws.specs.Reads.{Reads}
use Rattle.bit_blast_laws.proofs.Leaves.{reads_parts}

-- ---- what is there

abbrev entry_test : Term → Term × Bits → Bool
entry_test term entry = same_term term entry.0

by_entry : (values : Valuation) (assignment : Assignment) (term : Term) (entry : Term × Bits) (table : Table) (b : Bool) → same_term term entry.0 ≡ b
    → is_some (if b then Some entry else find (entry_test term) table) ≡ true → Shows values (value assignment entry.0) entry.1
    → (is_some (find (entry_test term) table) ≡ true → Shows values (value assignment term) (found_bits (find (entry_test term) table)))
    → Shows values (value assignment term) (found_bits (if b then Some entry else find (entry_test term) table))
by_entry values assignment term entry table true e there here later =
    subst (λ t. Shows values (value assignment t) entry.1) (sym (same_is term entry.0 e)) here
by_entry values assignment term entry table false e there here later = later there

pub shown_there : (values : Valuation) (assignment : Assignment) (term : Term) (table : Table) → AllShow values assignment table → is_there term table ≡ true
    → Shows values (value assignment term) (bits_in table term)
shown_there values assignment term [] all there = cc
shown_there values assignment term (entry ∷ table) all there =
    by_entry values assignment term entry table (same_term term entry.0) refl there all.0 (shown_there values assignment term table all.1)

still_some : (b : Bool) (entry : Term × Bits) (found more : Option (Term × Bits)) → is_some (if b then Some entry else found) ≡ true
    → (is_some found ≡ true → is_some more ≡ true) → is_some (if b then Some entry else more) ≡ true
still_some true entry found more e f = refl
still_some false entry found more e f = f e

pub still_there : (term : Term) (table more : Table) → is_there term table ≡ true → is_there term (table ++ more) ≡ true
still_there term [] more there = cc
still_there term (entry ∷ table) more there =
    still_some (same_term term entry.0) entry (find (entry_test term) table) (find (entry_test term) (table ++ more)) there (still_there term table more)

found_or_more : (b : Bool) (entry : Term × Bits) (found : Option (Term × Bits)) → is_some found ≡ true → is_some (if b then Some entry else found) ≡ true
found_or_more true entry found e = refl
found_or_more false entry found e = e

pub now_there : (term : Term) (table : Table) (found : Bits) (more : Table) → is_there term (table ++ (term, found) ∷ more) ≡ true
now_there term [] found more =
    ap (λ b. is_some (if b then Some (term, found) else find (entry_test term) more)) (same_itself term)
now_there term (entry ∷ table) found more =
    found_or_more (same_term term entry.0) entry (find (entry_test term) (table ++ (term, found) ∷ more)) (now_there term table found more)

pub shown_more : (values : Valuation) (assignment : Assignment) (table more : Table) → AllShow values assignment table → AllShow values assignment more
    → AllShow values assignment (table ++ more)
shown_more values assignment [] more all also = also
shown_more values assignment (entry ∷ table) more all also = (all.0, shown_more values assignment table more all.1 also)

-- ---- a term is taken

-- the gates have their values, and what is reconstructed is so
pub record Obeys (values : Valuation) (assignment : Assignment) (last : ℕ) (gates : List Gate) : Type 0 where
  pub hold : AllHold values last gates
  pub read : Reads assignment values last gates

pub obeys_parts : (values : Valuation) (assignment : Assignment) (last : ℕ) (gates more : List Gate) → Obeys values assignment last (gates ++ more)
    → Obeys values assignment last gates × Obeys values assignment (last_of last gates) more
obeys_parts values assignment last gates more obeys =
    let hold = hold_parts values last gates more obeys.hold in
    let read = reads_parts assignment values last gates more obeys.read in
    (record { hold = hold.0; read = read.0 }, record { hold = hold.1; read = read.1 })

-- a table with a term and all that was there
pub record Visited (values : Valuation) (assignment : Assignment) (term : Term) (before after : Table) : Type 0 where
  pub shows : AllShow values assignment after
  pub there : is_there term after ≡ true
  pub kept : (other : Term) → is_there other before ≡ true → is_there other after ≡ true

pub entered : (values : Valuation) (assignment : Assignment) (term : Term) (before : Table) (found : Bits) → AllShow values assignment before
    → Shows values (value assignment term) found → Visited values assignment term before (before ++ (term, found) ∷ [])
entered values assignment term before found all here = record {
  shows = shown_more values assignment before ((term, found) ∷ []) all (here, tt);
  there = now_there term before found [];
  kept = λ other there. still_there other before ((term, found) ∷ []) there;
}

pub once_visited : (values : Valuation) (assignment : Assignment) (term : Term) (table : Table) (build : Build Table) (last : ℕ) (b : Bool) → is_there term table ≡ b
    → AllShow values assignment table → Obeys values assignment last ((if b then give table else build) last).gates
    → (Obeys values assignment last (build last).gates → Visited values assignment term table (build last).out)
    → Visited values assignment term table ((if b then give table else build) last).out
once_visited values assignment term table build last true e all obeys go = record { shows = all; there = e; kept = λ other there. there }
once_visited values assignment term table build last false e all obeys go = go obeys
