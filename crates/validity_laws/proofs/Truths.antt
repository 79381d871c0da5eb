-- The obligations of the functions of both sides are truth values.
use Rattle.std.proofs.Common.{ℕ, ◌<◌, ◌^◌, List, [], get_or}
use Rattle.std.proofs.lemmas.List.Elements.{All-nil, All-map}
use Rattle.proof_tree_spec.specs.Frames.{Goal}
use Rattle.elf_read_spec.proofs.Runs.{runs_have_bytes}
use Rattle.agreement_laws.specs.EntryFrame.{Pair, entry_frame}
use Rattle.agreement_laws.specs.Statements.{IsPair}
use Rattle.agreement_laws.proofs.Pairs.{runs_are}
use Rattle.validity_laws.specs.Derivation.{Function, pair_for, AtEntry, AreSides, IsFunction}
use Rattle.validity_laws.proofs.Good.{AreTests}
use Rattle.validity_laws.proofs.Functions.{is_pair}
use Rattle.validity_laws.specs.CheckStatements.{listed_of, IsFile}
use Rattle.agreement_laws.specs.Callers.{own_base}
use Rattle.validity_laws.specs.Inlined.{IsInlined, as_it_is}
use Rattle.validity_laws.proofs.PlainLines.{own_words}
use Rattle.validity_laws.proofs.Graphs.{obligations_good, entry_good}
use Rattle.prove_run_spec.specs.Proofs.{HasTruths}
use Rattle.validity_laws.specs.Laws.{IsSorted, FunctionsHaveTruths}

module _ (q : Pair) (g : Function) (sides : AreSides q) (file : IsFile q) (function : IsFunction q g) (small : g.stack < 2 ^ 32) where
  abbrev p : Pair
  p = pair_for q g

  is : IsPair p
  is = is_pair q g sides function

  own_inlined : IsInlined p (own_base p)
  own_inlined = record { binary = as_it_is; source = as_it_is; setting = own_words p.body }

  are_truths : (firsts : List (List (ℕ × ℕ))) → HasTruths (listed_of q firsts g)
  are_truths firsts terms are k d below =
      (obligations_good q g sides file function small (own_base p) own_inlined AtEntry (entry_frame p).start [] terms (entry_good q g sides file function small) (All-nil (λ (h : Goal). AreTests h.relation)) are k d below).sorted

  is_sorted : (firsts : List (List (ℕ × ℕ))) → IsSorted (listed_of q firsts g)
  is_sorted firsts = record { truths = are_truths firsts; bytes = runs_have_bytes p.image p.numbering.runs file.bytes (runs_are p is) }

pub have_truths : FunctionsHaveTruths
have_truths q firsts functions sides file are =
    All-map IsSorted (listed_of q firsts) functions
    (λ k d below. is_sorted q (get_or functions k d) sides file (are.each k d below) (are.small k d below) firsts)
