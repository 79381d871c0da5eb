use Rattle.std.proofs.Common.{◌≤◌, ◌+◌, List, ℕ, Bor, sym, subst, arith}
use Rattle.std.specs.Prelude.{Bool}
use Rattle.std.proofs.lemmas.List.{length-map}
use Rattle.c_types_scope.specs.declared.meaning.Meaning.{Meaning}
use Rattle.c_types.specs.Typed.{typed_of}
use Rattle.pair_setup_calls.specs.Names.{names_of}
use Rattle.pair_setup.proofs.Marks.{IsMarkedBelow, marked-none, marked-more, marked-all}
use Rattle.pair_setup.proofs.globals.add_misplaced.Goals as goal

pub loop-number-init : goal.loop-number-init
loop-number-init c =
    subst (λ (l : List Bool). IsMarkedBelow c.args.image.now (typed_of c.args.unit.now) (names_of c.args.unit.now) l 0) (sym c.requires.none)
    (marked-none c.args.image.now (typed_of c.args.unit.now) (names_of c.args.unit.now))

pub loop-number-preserved : goal.loop-number-preserved
loop-number-preserved c =
    subst (λ (l : List Bool). IsMarkedBelow c.args.image.now (typed_of c.args.unit.now) (names_of c.args.unit.now) l (c.loop-number.number + 1)) (sym c.in_ok-push.ensures.items)
    (marked-more c.args.image.now (typed_of c.args.unit.now) (names_of c.args.unit.now) c.loop-number.found.items c.loop-number.number c.in-Ok-attempt.field-0
    c.loop-number.invariant c.in-Ok-attempt.ensures)

pub returns : goal.returns
returns c =
    marked-all c.args.image.now (typed_of c.args.unit.now) (names_of c.args.unit.now) c.loop-number.found.items c.loop-number.number c.loop-number.invariant
    (subst (λ n. n ≤ c.loop-number.number) (sym (length-map c.args.unit.now.names.entries (λ (e : Bor (List ℕ) × Meaning). e.0.now))) (omega (arith, c.len-number-end.ensures.len)))
