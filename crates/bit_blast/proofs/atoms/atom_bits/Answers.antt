use Rattle.std.proofs.Common.{◌∙◌, ap, sym, subst, IfOk, ℕ}
use Rattle.std.proofs.lemmas.Result.{IfOk-weaker}
use Rattle.clause_check_spec.specs.declared.Literal.{Literal}
use Rattle.term_core_spec.specs.declared.Atom.{Atom}
use Rattle.term_core_spec.specs.declared.Atom.TheVariants as atom
use Rattle.term_core_spec.specs.Term.{Leaf}
use Rattle.bit_blast_spec.specs.Circuits.{new_bits}
use Rattle.bit_blast_spec.specs.Goal.{single, known, known_bits, atom_bits}
use Rattle.term_core_spec.specs.Sort.{bits}
use Rattle.bit_blast_circuits.specs.Built.{IsBuilt}
use Rattle.bit_blast.proofs.Bare.{given}
use Rattle.bit_blast.proofs.atoms.atom_bits.Goals as goal

pub returns-in-Truth : goal.returns-in-Truth
unfolding atom_bits
returns-in-Truth c =
    subst (λ (a : Atom). IfOk c.single.result (λ out. IsBuilt (atom_bits a) c.args.gates.now out.items c.args.gates.now)) (sym c.in-Truth.is)
    (IfOk-weaker c.single.result _ _
    (λ out e. given (single (known c.in-Truth.value)) out.items c.args.gates.now (e ∙ ap (λ (bit : Literal). single bit) c.known.ensures)) c.single.ensures)

pub returns-in-Constant : goal.returns-in-Constant
unfolding atom_bits
returns-in-Constant c =
    subst (λ (a : Atom). IfOk c.known_bits.result (λ out. IsBuilt (atom_bits a) c.args.gates.now out.items c.args.gates.now)) (sym c.in-Constant.is)
    (IfOk-weaker c.known_bits.result _ _
    (λ out e. given (known_bits (bits c.in-Constant.width) c.in-Constant.number) out.items c.args.gates.now (e ∙ ap (λ (n : ℕ). known_bits n c.in-Constant.number) c.word_size.ensures))
    c.known_bits.ensures)

pub returns-in-Open : goal.returns-in-Open
unfolding atom_bits
returns-in-Open c =
    subst (λ (a : Atom). IfOk c.new_bits.result (λ out. IsBuilt (atom_bits a) c.args.gates.now out.items c.new_bits.new.self)) (sym c.in-Open.is)
    (IfOk-weaker c.new_bits.result _ _
    (λ out h.
    subst (λ (n : ℕ). IsBuilt (new_bits (Leaf (atom.Open c.in-Open.variable)) 0 n) c.args.gates.now out.items c.new_bits.new.self) c.size_of.ensures
    (h (Leaf (atom.Open c.in-Open.variable)) 0))
    c.new_bits.ensures)
