use Rattle.std.proofs.Common.{◌≡◌, ◌∙◌, ℕ, ◌+◌, ◌^◌, ◌<◌, List, [], length, get_or, sym, ap, subst, arith}
use Rattle.std.specs.Borrow.{Bor}
use Rattle.std.specs.List.Sorted.{IsStrictlyIncreasing}
use Rattle.std.proofs.lemmas.Option.{get_or_from_slice_get, slice_get-get_or, same_Some}
use Rattle.c_types.specs.Typed.{typed_of}
use Rattle.pair_setup_calls.specs.Names.{texts_of}
use Rattle.pair_setup.specs.declared.outcome.Function.{Function}
use Rattle.cert_check_frames.specs.declared.entries.Entry.{Entry}
use Rattle.cert_run.specs.Entries.{AreEntriesFor, IsEntryFor}
use Rattle.cert_run.proofs.Listing.{no_entries, one_entry, text_at, texts_long}
use Rattle.cert_run.proofs.functions.add_entries.Goals as goal

none : Bor (List ℕ)
none = record { ref_ptr = (0, 0); now = [] }

blank : Function
blank = record { entry = 0; size = 0; stack = 0 }

pub loop-index-init : goal.loop-index-init
loop-index-init c = no_entries (typed_of c.args.unit.now) c.args.pairs.now.entries.items c.args.file (texts_of c.args.list.now) c.args.pairs.now.functions.items c.args.made.now.items c.requires.none

pub loop-index-preserved : goal.loop-index-preserved
unfolding none blank
loop-index-preserved c =
    let unit = typed_of c.args.unit.now in
    let entries : List ℕ = c.args.pairs.now.entries.items in
    let all : List Function = c.args.pairs.now.functions.items in
    let list : List (Bor (List ℕ)) = c.args.list.now in
    let n : ℕ = c.loop-index.index in
    let old : List Entry = c.loop-index.made.items in
    let next : Entry = c.in-Ok-attempt.field-0 in
    let named : Bor (List ℕ) = get_or c.args.list.now n none in
    let function : Function = get_or c.as_slice-functions.result.now n blank in
    let made : IsEntryFor unit entries c.args.file named.now function next =
    subst (λ (l : List ℕ). IsEntryFor unit l c.args.file named.now function next) c.as_slice-entries.ensures.value c.in-Ok-attempt.ensures in
    subst (λ (l : List Entry). AreEntriesFor unit entries c.args.file (texts_of list) all (n + 1) l) (sym c.in-Ok-attempt-2.ensures.items)
    (one_entry unit entries c.args.file (texts_of list) all n old next c.loop-index.invariant
    (λ name f there given.
    let names : named.now ≡ name =
    same_Some named.now name (sym (text_at list n none c.loop-index-test.true) ∙ there) in
    let functions : function ≡ f =
    ap (λ (l : List Function). get_or l n blank) c.as_slice-functions.ensures.value ∙ get_or_from_slice_get all n f blank given in
    subst (λ (t : List ℕ). IsEntryFor unit entries c.args.file t f next) names
    (subst (λ (g : Function). IsEntryFor unit entries c.args.file named.now g next) functions made)))

pub bounds-functions-index : goal.bounds-functions-index
bounds-functions-index c =
    let enough = c.requires.ready.enough in
    let many = texts_long c.args.list.now in
    let long = ap (λ (l : List Function). length l) c.as_slice-functions.ensures.value in
    omega (arith, c.loop-index-test.true, enough, many, long)

pub entry_of-requires : goal.entry_of-requires
unfolding none blank
entry_of-requires c =
    let n : ℕ = c.loop-index.index in
    let all : List Function = c.args.pairs.now.functions.items in
    let many = texts_long c.args.list.now in
    let enough = c.requires.ready.enough in
    let small = c.requires.ready.small n (get_or all n blank) (omega (arith, c.loop-index-test.true, many))
    (slice_get-get_or all n blank (omega (arith, c.loop-index-test.true, enough, many))) in
    record {
      rising = subst (λ (l : List ℕ). IsStrictlyIncreasing l) (sym c.as_slice-entries.ensures.value) c.requires.rising;
      body = c.requires.ready.bodies n (get_or c.args.list.now n none).now (text_at c.args.list.now n none c.loop-index-test.true);
      small = subst (λ (l : List Function). (get_or l n blank).stack < 2 ^ 32) (sym c.as_slice-functions.ensures.value) small;
    }

pub returns : goal.returns
returns c =
    let end : c.loop-index.index ≡ length c.args.list.now = omega (arith, c.loop-index-test.false, c.loop-index.auto.index-end) in
    subst (λ (n : ℕ). AreEntriesFor (typed_of c.args.unit.now) c.args.pairs.now.entries.items c.args.file (texts_of c.args.list.now) c.args.pairs.now.functions.items n c.loop-index.made.items)
    end c.loop-index.invariant
