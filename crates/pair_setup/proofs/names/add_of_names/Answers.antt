use Rattle.std.proofs.Common.{◌≤◌, List, ℕ, Bor, take, get_or, sym, subst, arith, []}
use Rattle.std.proofs.lemmas.List.{take_all, length-map}
use Rattle.pair_setup_calls.specs.Graph.{Grows}
use Rattle.pair_setup_calls.specs.Names.{IsNumber, names_of, texts_of}
use Rattle.pair_setup.specs.Names.{IsMarked, IsOf}
use Rattle.pair_setup.proofs.Added.{of-none, of-more}
use Rattle.pair_setup.proofs.Prefixes.{next-taken, mapped-at}
use Rattle.pair_setup.proofs.names.add_of_names.Goals as goal

none : Bor (List ℕ)
none = record { ref_ptr = (0, 0); now = [] }

pub loop-name-init : goal.loop-name-init
loop-name-init c = of-none (λ (name : List ℕ) (t : ℕ). IsNumber (names_of c.args.unit.now) t name × IsMarked c.args.marks.now t) c.args.found.now.items

pub loop-name-preserved : goal.loop-name-preserved
unfolding none
loop-name-preserved c =
    let xs = texts_of c.args.names.now in
    let i = c.loop-name.name-index in
    let x = (get_or c.args.names.now i none).now in
    let R : List ℕ → ℕ → Type 0 = λ name t. IsNumber (names_of c.args.unit.now) t name × IsMarked c.args.marks.now t in
    subst (λ (l : List (List ℕ)). Grows (IsOf R l) c.args.found.now.items c.add_of_name.new.found.items)
    (sym (next-taken xs i x (mapped-at (λ (b : Bor (List ℕ)). b.now) c.args.names.now i none c.loop-name-test.true)))
    (of-more R (take i xs) x c.args.found.now.items c.loop-name.found.items c.add_of_name.new.found.items c.loop-name.invariant c.in-Ok-attempt.ensures)

pub returns : goal.returns
returns c =
    subst (λ (l : List (List ℕ)). Grows (IsOf (λ (name : List ℕ) (t : ℕ). IsNumber (names_of c.args.unit.now) t name × IsMarked c.args.marks.now t) l) c.args.found.now.items c.loop-name.found.items)
    (take_all c.loop-name.name-index (texts_of c.args.names.now)
    (subst (λ n. n ≤ c.loop-name.name-index) (sym (length-map c.args.names.now (λ (b : Bor (List ℕ)). b.now))) (omega arith))) c.loop-name.invariant
