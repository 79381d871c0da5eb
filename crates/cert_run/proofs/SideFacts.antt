-- What is answered of both sides is of their listed functions.
use Rattle.std.proofs.Common.{◌≡◌, ℕ, true, List, map, subst}
use Rattle.std.proofs.lemmas.Option.{slice_get_within, get_or_from_slice_get}
use Rattle.elf_read_spec.specs.Image.{Image}
use Rattle.c_types_spec.specs.Core.{Typed}
use Rattle.pair_setup_spec.specs.Outcome.{Pairs}
use Rattle.pair_setup.specs.Answers.{pairs_of}
use Rattle.pair_setup.specs.declared.outcome.Pairs as code
use Rattle.cert_check_spec.specs.Verdict.{Listed}
use Rattle.validity_laws.specs.CheckStatements.{listed_of}
use Rattle.cert_run_spec.specs.Laws.{AreOfFiles, FilesHaveWords, LoggedLeavesAreValid, ProofsAreValid}
use Rattle.cert_run_spec.specs.Verdict.{IsOutcome}
use Rattle.cert_run.specs.Sides.{HasSides, functions_in}
use Rattle.cert_run.specs.declared.sides.Sides.{Sides}
use Rattle.cert_run.specs.Outcomes.{outcome_of}
use Rattle.clause_check_spec.specs.Log.{Step}
use Rattle.prove_run_spec.specs.Proofs.{HasProof}
use Rattle.prove_run_spec.specs.Trails.{Found, Proved, Unproved, IsFound}
use Rattle.validity_laws.specs.Laws.{FunctionsHaveTruths}
use Rattle.cert_run.specs.Searches.{is_proved}
use Rattle.cert_run.specs.Runs.{Answers, CanRun, Finds, IsOutcomeBy, SearchesSides}
use Rattle.cert_run.specs.declared.finding.Search.{Search}
use Rattle.cert_run.specs.declared.outcome.Outcome.{Outcome}

module _ (image : Image) (unit : Typed) (list : List (List ℕ)) (made : code.Pairs) (can : CanRun image unit list made) (s : Sides)
    (has : HasSides image unit (pairs_of list made) s) (words : FilesHaveWords) where
  abbrev pairs : Pairs
  pairs = pairs_of list made

  abbrev listed : List Listed
  listed = map (listed_of has.pair has.firsts) (functions_in unit pairs)

  of_files : AreOfFiles image unit list pairs listed
  of_files = record {
    words = words can.read.file image can.read.are_bytes can.read.image_is;
    typed = can.typed;
    sizes = can.sizes;
    paired = can.pairs_are.paired;
    are = has.listed;
  }

  pub answers : ProofsAreValid → (certificate : List ℕ) (o : Outcome) → IsOutcomeBy s certificate o → Answers image unit pairs certificate o
  answers law certificate o by =
      let is : IsOutcome listed certificate (outcome_of o) = by has.pair has.firsts (functions_in unit pairs) has.entries has.graphs has.sites in
      record {
        listed = listed;
        are = has.listed;
        is = is;
        valid = λ proof. law image unit list pairs listed certificate of_files (subst (λ (x : Outcome). IsOutcome listed certificate (outcome_of x)) proof is);
      }

  proof_of : (f : Listed) (one : Found) → IsFound f one → is_proved one ≡ true → (logs : List (List Step)) × HasProof f logs
  proof_of f (Proved logs) is e = (logs, is.proof)
  proof_of f (Unproved trail) is e = absurd (cc)

  pub finds : LoggedLeavesAreValid → FunctionsHaveTruths → (search : Search) → SearchesSides s search → Finds image unit pairs search
  finds law have search by =
      let sorted = have has.pair has.firsts (functions_in unit pairs) has.are.sides has.are.file has.are.functions_are in
      let all = by has.pair has.firsts (functions_in unit pairs) has.entries has.graphs has.sites (λ k d below. (sorted k d below).truths) in
      record {
        listed = listed;
        are = has.listed;
        found = all.0;
        found_are = all.1;
        searched = all.2;
        valid = λ k f one at there proved.
            let proof = proof_of f one (all.1.each k f one at there) proved in
            law image unit list pairs listed f proof.0 of_files (k, slice_get_within listed k f at, get_or_from_slice_get listed k f f at) proof.1;
      }
