use Rattle.std.proofs.Common.{◌≤◌, ◌++◌, ◌∷◌, ◌≢◌, List, ℕ, Bor, [], take, get_or, sym, subst, arith}
use Rattle.std.proofs.lemmas.List.{take_all, length-map}
use Rattle.std.proofs.lemmas.List.Elements.{All-contains}
use Rattle.elf_read_spec.specs.Image.{function_named}
use Rattle.elf_read_spec.specs.declared.SymbolValues.TheVariants.{Absent}
use Rattle.pair_setup_calls.specs.Names.{texts_of}
use Rattle.pair_setup.specs.Codes.{AreCodedOf}
use Rattle.pair_setup.proofs.Entries.{coded-start, coded-more, coded-sound, first-code-error}
use Rattle.pair_setup.proofs.Prefixes.{next-taken, mapped-at, got-contained}
use Rattle.pair_setup.proofs.code.add_listed.Goals as goal

none : Bor (List ℕ)
none = record { ref_ptr = (0, 0); now = [] }

pub loop-i-init : goal.loop-i-init
loop-i-init c =
    subst (λ (l : List ℕ). AreCodedOf c.args.image.now (texts_of c.args.list.now) [] l c.args.entries.now.keys) (sym c.requires.no_firsts)
    (coded-start c.args.image.now (texts_of c.args.list.now) c.args.entries.now.keys c.requires.sound)

pub add_named-requires : goal.add_named-requires
unfolding none
add_named-requires c = record {
  symbol = All-contains (λ (name : List ℕ). function_named c.args.image.now name ≢ Absent) (texts_of c.args.list.now) (get_or c.args.list.now c.loop-i.i none).now c.requires.symbols
      (got-contained (texts_of c.args.list.now) c.loop-i.i (get_or c.args.list.now c.loop-i.i none).now
      (mapped-at (λ (b : Bor (List ℕ)). b.now) c.args.list.now c.loop-i.i none c.loop-i-test.true));
  sound = c.loop-i.invariant.are_sound;
}

pub loop-i-preserved : goal.loop-i-preserved
unfolding none
loop-i-preserved c =
    let xs = texts_of c.args.list.now in
    let i = c.loop-i.i in
    let x = (get_or c.args.list.now i none).now in
    let there = mapped-at (λ (b : Bor (List ℕ)). b.now) c.args.list.now i none c.loop-i-test.true in
    subst (λ (l : List (List ℕ)). AreCodedOf c.args.image.now xs l c.push.new.self.items c.add_named.new.entries.keys) (sym (next-taken xs i x there))
    (subst (λ (l : List ℕ). AreCodedOf c.args.image.now xs (take i xs ++ x ∷ []) l c.add_named.new.entries.keys) (sym c.in-Ok-attempt-2.ensures.items)
    (coded-more c.args.image.now xs (take i xs) x c.loop-i.firsts.items c.loop-i.entries.keys c.add_named.new.entries.keys c.in-Ok-attempt.field-0 (got-contained xs i x there)
    c.loop-i.invariant c.in-Ok-attempt.ensures.added))

pub returns-clause-coded : goal.returns-clause-coded
returns-clause-coded c =
    subst (λ (l : List (List ℕ)). AreCodedOf c.args.image.now (texts_of c.args.list.now) l c.loop-i.firsts.items c.loop-i.entries.keys)
    (take_all c.loop-i.i (texts_of c.args.list.now) (subst (λ n. n ≤ c.loop-i.i) (sym (length-map c.args.list.now (λ (b : Bor (List ℕ)). b.now))) (omega arith))) c.loop-i.invariant

pub returns-in-loop-i-clause-fault : goal.returns-in-loop-i-clause-fault
unfolding none
returns-in-loop-i-clause-fault c =
    first-code-error c.args.image.now (texts_of c.args.list.now) c.loop-i.i (get_or c.args.list.now c.loop-i.i none).now c.in-Err-attempt.field-0
    (mapped-at (λ (b : Bor (List ℕ)). b.now) c.args.list.now c.loop-i.i none c.loop-i-test.true)
    (coded-sound c.args.image.now (texts_of c.args.list.now) (take c.loop-i.i (texts_of c.args.list.now)) c.loop-i.firsts.items c.loop-i.entries.keys c.loop-i.invariant) c.in-Err-attempt.ensures.fault
