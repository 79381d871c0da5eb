use Rattle.std.proofs.Common.{◌≡◌, ◌<◌, [], false, length, ap, ◌∙◌, sym, subst, arith}
use Rattle.std.proofs.lemmas.List.{length-map}
use Rattle.std.proofs.lemmas.Option.{slice_get-get_or}
use Rattle.term_core_spec.specs.declared.Atom.TheVariants as atom
use Rattle.term_core_spec.specs.Term.{Term, Leaf}
use Rattle.term_bank.specs.Nodes.{tree_at, Holds}
use Rattle.bit_blast_spec.specs.Circuits.{Bits}
use Rattle.bit_blast_spec.specs.Goal.{Table, bits_in}
use Rattle.bit_blast.specs.Terms.{terms_in}
use Rattle.bit_blast.specs.Entered.{entered}
use Rattle.bit_blast.proofs.Tables.{length-entered, bits_held, items_at}
use Rattle.bit_blast.proofs.table.TermTable.bits.Goals as goal

pub index-requires : goal.index-requires
index-requires c = omega (arith, length-entered [] c.self.inside.entries.entries, ap length c.self.view_is)

pub returns : goal.returns
returns c =
    let es = c.self.inside.entries.entries in
    let below : c.args.index < length (terms_in (entered [] es)) =
    omega (arith, ap length c.self.view_is, length-map (entered [] es) (λ (e : Term × Bits). e.0)) in
    let consistent : Holds (terms_in (entered [] es)) c.args.index (tree_at (terms_in (entered [] es)) c.args.index) =
    slice_get-get_or (terms_in (entered [] es)) c.args.index (Leaf (atom.Truth false)) below in
    let held = bits_held es c.self.invariant c.args.index c.index.result.now.items (tree_at (terms_in (entered [] es)) c.args.index)
    (items_at es c.args.index c.index.result.now c.index.ensures) consistent in
    subst (λ (t : Table). c.deref.result.now ≡ bits_in t (tree_at (terms_in t) c.args.index)) c.self.view_is (c.deref.ensures.value ∙ sym held)
