-- What is decided of a list.
use Rattle.std.proofs.Common.{◌≡◌, ◌∙◌, ◌<◌, ◌≤◌, ◌+◌, ◌⊎◌, ℕ, List, [], ◌∷◌, length, get_or, take, take_all, Option, Some, None, ap, sym, subst, refl, inl, inr, arith}
use Rattle.std.specs.Prelude.{IfSome, option_map}
use Rattle.std.proofs.lemmas.List.{length-map, length-take}
use Rattle.elf_read_spec.specs.Image.{Image}
use Rattle.c_types_spec.specs.Core.{Typed}
use Rattle.pair_setup_spec.specs.Outcome.{IsPaired}
use Rattle.pair_setup_spec.specs.Outcome as outcome
use Rattle.cert_check_spec.specs.Verdict.{Listed}
use Rattle.cert_run_spec.specs.Files.{AreListed}
use Rattle.cert_run_spec.specs.Verdict as spec
use Rattle.cert_run_spec.specs.Written.{text_by}
use Rattle.cert_run.specs.Outcomes.{outcome_of}
use Rattle.cert_run.specs.Runs.{Answers, Finds}
use Rattle.cert_run.specs.Searches.{IsOver, IsWithin, is_proved}
use Rattle.cert_run.specs.declared.finding.Search.{Search}
use Rattle.cert_text.specs.Certificates.{certificate_of}
use Rattle.prove_run.specs.Trails.{failures_of}
use Rattle.cert_run.specs.declared.outcome.Outcome.{Outcome}
use Rattle.cert_run.specs.declared.outcome.Outcome.TheVariants.{Unread, Broken, Above, Proof}
use Rattle.pair_setup.specs.Answers.{pairs_of}
use Rattle.pair_setup.specs.declared.outcome.Function.{Function}
use Rattle.pair_setup.specs.declared.outcome.Pairs.{Pairs as CodePairs}
use Rattle.tv_limits.specs.declared.Quantity.TheVariants.{Functions, Certificate}
use Rattle.report_text_spec.specs.Verdict.{Verdict, TooLarge, RefusedWords, RefusedElf, RefusedC, RefusedPair, RefusedCode, RefusedCertificate, NotProof, Checked, Judged, Showed, maximum_of}
use Rattle.report_text.specs.Verdicts.{verdict_of}
use Rattle.tv_limits.specs.declared.TheConstants.{MAX_CERTIFICATE_BYTES}
use Rattle.tv_words.specs.Commands.{Command, Prove, Proving, Check, Checking, Show, Showing}
use Rattle.tv_core_spec.specs.Decisions.{Decision, plain, judgements_of, judged_by, over_by}
use Rattle.tv_core_spec.specs.Listing.{Task, Judge, Verify, Display}
use Rattle.tv_core_spec.specs.Verdicts.{Lists, ListsFew, Pairs, Framed, Judges, judged, over, checked, certificate_large, showed, pair_refused, code_refused, too_large, too_many, IsSound, verdict_of_outcome}
use Rattle.tv_core.specs.Tasks.{asked_of, task_of}
use Rattle.tv_core.specs.Objects.{Contents}
use Rattle.tv_core.specs.Decisions.{decision_of, trails_of}
use Rattle.tv_core.specs.declared.decision.Decision.{Decision as CodeDecision}
use Rattle.tv_core.specs.Files.{JudgesWith, IsLeftToRead}
use Rattle.tv_core.specs.Listed.{IsRefusal, AreDecided, Shows, ChecksCertificate, IsCertificateVerdict, AnswersList, IsAnswer, AreBytesOf, decided, decided_by, decided_with, outcome_verdict}
use Rattle.tv_core.specs.Listed as code
use Rattle.tv_core.proofs.Aligned.{Aligned, aligned, aligned_length, listed_names, same_judgements, judgement_names, are_valid, all_called, called_names, called_valid}
use Rattle.tv_core.proofs.Judging.{some_text}

-- ---- what cert_run answers

module _ (image : Image) (unit : Typed) (list : List (List ℕ)) (pairs : CodePairs) (functions : List Function) (are : functions ≡ pairs.functions.items)
    (paired : IsPaired image unit list (pairs_of list pairs)) where
  in_order : (listed : List Listed) → AreListed image unit (pairs_of list pairs) listed → Aligned list functions listed
  in_order listed h = subst (λ fs. Aligned list fs listed) (sym are) (aligned image unit list pairs.functions.items pairs.entries.items listed paired.listed h)

  module _ (search : Search) (finds : Finds image unit (pairs_of list pairs) search) where
    abbrev Decided : Decision → Type 0
    Decided d =
        ((length (text_by finds.listed finds.found) ≤ MAX_CERTIFICATE_BYTES) × (d ≡ judged_by finds.listed finds.found))
        ⊎ ((MAX_CERTIFICATE_BYTES < length (text_by finds.listed finds.found)) × (d ≡ over_by finds.listed finds.found))

    judgements_are : code.judged list functions search.valid.items ≡ judgements_of finds.listed finds.found
    judgements_are =
        ap (code.judged list functions) finds.searched.valid
        ∙ same_judgements list functions finds.listed finds.found (in_order finds.listed finds.are)

    by_within : IsWithin finds.listed finds.found search → decided_by list functions search ≡ judged_by finds.listed finds.found
    by_within w =
        let valid = search.valid.items in
        let trails = trails_of search.trails in
        let judgements = judgements_are in
        let text = w.text_is in
        let unproved = w.failures_are in
        let none = ap (option_map certificate_of) w.none_over in
        let written : decided_by list functions search ≡ decided (code.judged list functions valid) (Some w.text.items) trails =
        ap (λ cert. decided_with list functions valid cert trails) w.certificate_is in
        let same : decided (code.judged list functions valid) (Some w.text.items) trails ≡ judged_by finds.listed finds.found =
        λ i. record { verdict = Judged (judgements i); certificate = Some (text i); trails = record { failures = unproved i; over = none i } } in
        written ∙ same

    by_over : IsOver finds.listed finds.found search → decided_by list functions search ≡ over_by finds.listed finds.found
    by_over o =
        let valid = search.valid.items in
        let trails = trails_of search.trails in
        let lines = ap (option_map certificate_of) o.over_is ∙ ap Some o.lines_are in
        let none = ap failures_of o.none_unproved in
        let unwritten : decided_by list functions search ≡ decided_with list functions valid None trails =
        ap (λ cert. decided_with list functions valid cert trails) o.no_certificate in
        let same : decided_with list functions valid None trails ≡ over_by finds.listed finds.found =
        λ i. record { verdict = TooLarge Certificate; certificate = None; trails = record { failures = none i; over = lines i } } in
        unwritten ∙ same

    decided_as : IsWithin finds.listed finds.found search ⊎ IsOver finds.listed finds.found search → Decided (decided_by list functions search)
    decided_as (inl w) = inl (w.short, by_within w)
    decided_as (inr o) = inr (o.long, by_over o)

    -- what `prove` decides
    pub all_decided : AreDecided image unit list (pairs_of list pairs) (decided_by list functions search)
    all_decided = record {
      listed = finds.listed;
      are = finds.are;
      of_names = listed_names list functions finds.listed (in_order finds.listed finds.are);
      found = finds.found;
      found_are = finds.found_are;
      small = finds.searched.small;
      decision_is = decided_as finds.searched.rest;
      valid = are_valid image unit finds.listed finds.found finds.valid;
    }

    -- as many were searched as the list has
    pub as_many : length search.valid.items ≡ length list
    as_many =
        ap length finds.searched.valid ∙ length-map finds.found is_proved ∙ finds.found_are.count
        ∙ aligned_length list functions finds.listed (in_order finds.listed finds.are)

  same_verdict : (listed : List Listed) (o : Outcome) → Aligned list functions listed → outcome_verdict list functions o ≡ verdict_of_outcome listed (outcome_of o)
  same_verdict listed (Unread offset) order = refl
  same_verdict listed (Broken name offset rule) order = refl
  same_verdict listed (Above quantity) order = refl
  same_verdict listed Proof order = ap Checked (all_called list functions listed order)

  is_proof : (o : Outcome) → outcome_of o ≡ spec.Proof → o ≡ Proof
  is_proof (Unread offset) e = absurd (cc)
  is_proof (Broken name offset rule) e = absurd (cc)
  is_proof (Above quantity) e = absurd (cc)
  is_proof Proof e = refl

  -- the verdict of `check`
  pub certificate_checked : (certificate : List ℕ) (o : Outcome) (verdict : Verdict) → Answers image unit (pairs_of list pairs) certificate o
      → verdict ≡ outcome_verdict list functions o → ChecksCertificate image unit (pairs_of list pairs) certificate verdict
  certificate_checked certificate o verdict answers e = record {
    listed = answers.listed;
    are = answers.are;
    outcome = outcome_of o;
    outcome_is = answers.is;
    verdict_is = e ∙ same_verdict answers.listed o (in_order answers.listed answers.are);
    valid = λ proof. answers.valid (is_proof o proof);
  }

-- ---- refusals

few_lists : (elf c : List ℕ) (task : Task) (image : Image) (unit : Typed) (list : List (List ℕ)) → length list ≤ maximum_of Functions
    → Lists elf c task image unit list → ListsFew elf c task image unit list
few_lists elf c task image unit list few lists = record { lists = lists; within = few }

pairs_listed : (elf c : List ℕ) (task : Task) (image : Image) (unit : Typed) (list : List (List ℕ)) (pairs : outcome.Pairs) → length list ≤ maximum_of Functions
    → IsPaired image unit list pairs → Lists elf c task image unit list → Pairs elf c task image unit list
pairs_listed elf c task image unit list pairs few paired lists =
    record { few = few_lists elf c task image unit list few lists; pairs = pairs; paired = paired }

module _ (files : Contents) (image : Image) (unit : Typed) (command : Command) (list : List (List ℕ)) where
  pub refused_many : maximum_of Functions < length list → AnswersList files image unit command list (plain (TooLarge Functions))
  refused_many many = λ elf c lists.
      let text = some_text files (asked_of command).given in
      (text.0, text.1, too_many image unit list (lists text.0) many, tt)

  by_lists : (verdict : Verdict) → ((elf c : List ℕ) (task : Task) → ListsFew elf c task image unit list → Judges elf c task (plain verdict) × IsSound elf c task verdict)
      → length list ≤ maximum_of Functions → AnswersList files image unit command list (plain verdict)
  by_lists verdict h few = λ elf c lists.
      let text = some_text files (asked_of command).given in
      let task = task_of command text.0 in
      let both = h elf c task (few_lists elf c task image unit list few (lists text.0)) in
      (text.0, text.1, both.0, both.1)

  pub refused_list : (verdict : Verdict) → length list ≤ maximum_of Functions → IsRefusal image unit list verdict → AnswersList files image unit command list (plain verdict)
  refused_list RefusedWords few h = absurd h
  refused_list (TooLarge quantity) few h =
      by_lists (TooLarge quantity) (λ elf c task lists. (subst (λ q. Judges elf c task (plain (TooLarge q))) (sym h.0) (too_large image unit list lists h.1), tt)) few
  refused_list (RefusedElf fault offset) few h = absurd h
  refused_list (RefusedC kind offset) few h = absurd h
  refused_list (RefusedPair kind name) few h =
      by_lists (RefusedPair kind name) (λ elf c task lists. (pair_refused image unit list kind name lists h, tt)) few
  refused_list (RefusedCode kind name address) few h =
      by_lists (RefusedCode kind name address) (λ elf c task lists. (code_refused image unit list kind name address lists h, tt)) few
  refused_list (RefusedCertificate offset) few h = absurd h
  refused_list (NotProof name offset rule) few h = absurd h
  refused_list (Checked judgements) few h = absurd h
  refused_list (Judged judgements) few h = absurd h
  refused_list (Showed shown) few h = absurd h

-- ---- the text of a certificate

-- of a file of which these bytes were read: its text, and what the bytes say of it
record TextOf (seen : Option (List ℕ)) (bytes : List ℕ) : Type 0 where
  text : List ℕ
  is_seen : IfSome seen (λ s. s ≡ text)
  long : MAX_CERTIFICATE_BYTES < length bytes → MAX_CERTIFICATE_BYTES < length text
  whole : length bytes ≤ MAX_CERTIFICATE_BYTES → bytes ≡ text

longer : (text bytes : List ℕ) (most : ℕ) → bytes ≡ take (most + 1) text → most < length bytes → most < length text
longer text bytes most e h = let l = ap length e ∙ length-take (most + 1) text in omega arith

all_of : (text bytes : List ℕ) (most : ℕ) → bytes ≡ take (most + 1) text → length bytes ≤ most → bytes ≡ text
all_of text bytes most e h = e ∙ take_all (most + 1) text (let l = ap length e ∙ length-take (most + 1) text in omega arith)

text_of : (seen : Option (List ℕ)) (bytes : List ℕ) → IfSome seen (λ s. bytes ≡ take (MAX_CERTIFICATE_BYTES + 1) s) → TextOf seen bytes
text_of None bytes h = record { text = bytes; is_seen = tt; long = λ l. l; whole = λ l. refl }
text_of (Some text) bytes h =
    record { text = text; is_seen = refl; long = longer text bytes MAX_CERTIFICATE_BYTES h; whole = all_of text bytes MAX_CERTIFICATE_BYTES h }

-- ---- verdicts on pairs

module _ (files : Contents) (image : Image) (unit : Typed) (list : List (List ℕ)) (pairs : CodePairs) (few : length list ≤ maximum_of Functions)
    (paired : IsPaired image unit list (pairs_of list pairs)) where
  judged_list : (job : Proving) (decision : Decision) → AreDecided image unit list (pairs_of list pairs) decision → AnswersList files image unit (Prove job) list decision
  unfolding pairs_listed
  judged_list job decision are = λ elf c lists.
      let task = Judge job.functions in
      let on = pairs_listed elf c task image unit list (pairs_of list pairs) few paired (lists []) in
      let framed : Framed elf c task image unit list are.listed = record { pairs = on; listed_are = are.are } in
      let names = judgement_names are.listed are.found are.found_are.count ∙ are.of_names ∙ (lists []).listed in
      elim are.decision_is [
        | inl h ↦ subst (JudgesWith files elf c (Prove job)) (sym h.1) (
          [],
          tt,
          judged job.functions image unit list are.listed are.found refl framed are.found_are are.small h.0,
          record { image = image; unit = unit; is_elf = (lists []).is_elf; is_c = (lists []).is_c; names = names; valid = are.valid },
        )
        | inr h ↦ subst (JudgesWith files elf c (Prove job)) (sym h.1)
            ([], tt, over job.functions image unit list are.listed are.found refl framed are.found_are are.small h.0, tt)
      ]

  -- what a proof claims
  claimed : (elf c : List ℕ) (task : Task) (certificate : List ℕ) (verdict : Verdict) (h : ChecksCertificate image unit (pairs_of list pairs) certificate verdict)
      → Lists elf c task image unit list → (o : spec.Outcome) → h.outcome ≡ o → IsSound elf c task (verdict_of_outcome h.listed o)
  claimed elf c task certificate verdict h lists (spec.Unread offset) e = tt
  claimed elf c task certificate verdict h lists (spec.Broken name offset rule) e = tt
  claimed elf c task certificate verdict h lists (spec.Above quantity) e = tt
  claimed elf c task certificate verdict h lists spec.Proof e = record {
    image = image;
    unit = unit;
    is_elf = lists.is_elf;
    is_c = lists.is_c;
    names = called_names list pairs.functions.items h.listed (in_order image unit list pairs pairs.functions.items refl paired h.listed h.are) ∙ lists.listed;
    valid = called_valid image unit h.listed (h.valid e);
  }

  checked_list : (job : Checking) (bytes : List ℕ) (verdict : Verdict) → IfSome (files job.certificate) (λ s. bytes ≡ take (MAX_CERTIFICATE_BYTES + 1) s)
      → IsCertificateVerdict image unit (pairs_of list pairs) bytes verdict → AnswersList files image unit (Check job) list (plain verdict)
  unfolding pairs_listed
  checked_list job bytes verdict seen (inl (long, e)) = λ elf c lists.
      let t = text_of (files job.certificate) bytes seen in
      let on = pairs_listed elf c (Verify job.functions t.text) image unit list (pairs_of list pairs) few paired (lists t.text) in
      subst (λ v. JudgesWith files elf c (Check job) (plain v)) (sym e)
      (t.text, t.is_seen, certificate_large job.functions t.text image unit list refl on (t.long long), tt)
  checked_list job bytes verdict seen (inr (short, h)) = λ elf c lists.
      let t = text_of (files job.certificate) bytes seen in
      let task = Verify job.functions t.text in
      let on = pairs_listed elf c task image unit list (pairs_of list pairs) few paired (lists t.text) in
      let framed : Framed elf c task image unit list h.listed = record { pairs = on; listed_are = h.are } in
      let same : bytes ≡ t.text = t.whole short in
      subst (λ v. JudgesWith files elf c (Check job) (plain v)) (sym h.verdict_is) (
        t.text,
        t.is_seen,
        checked job.functions t.text image unit list h.listed h.outcome refl (subst (λ b. length b ≤ MAX_CERTIFICATE_BYTES) same short) framed
            (subst (λ b. spec.IsOutcome h.listed b h.outcome) same h.outcome_is),
        claimed elf c task bytes verdict h (lists t.text) h.outcome refl,
      )

  showed_list : (job : Showing) (verdict : Verdict) → ((name : List ℕ) → Shows image unit (get_or list 0 name) verdict)
      → AnswersList files image unit (Show job) list (plain verdict)
  showed_list job RefusedWords h = absurd (h [])
  showed_list job (TooLarge quantity) h = absurd (h [])
  showed_list job (RefusedElf fault offset) h = absurd (h [])
  showed_list job (RefusedC kind offset) h = absurd (h [])
  showed_list job (RefusedPair kind name) h = absurd (h [])
  showed_list job (RefusedCode kind name address) h = absurd (h [])
  showed_list job (RefusedCertificate offset) h = absurd (h [])
  showed_list job (NotProof name offset rule) h = absurd (h [])
  showed_list job (Checked judgements) h = absurd (h [])
  showed_list job (Judged judgements) h = absurd (h [])
  showed_list job (Showed shown) h = λ elf c lists.
      let task = Display job.function in
      let name : shown.name ≡ job.function = (h []).0 ∙ ap (λ names. get_or names 0 []) (lists []).listed in
      let named : list ≡ shown.name ∷ [] = (lists []).listed ∙ ap (λ n. n ∷ []) (sym name) in
      let on = pairs_listed elf c task image unit list (pairs_of list pairs) few paired (lists []) in
      ([], tt, showed image unit shown (ap Display (sym name)) (subst (Pairs elf c task image unit) named on) (h []).1, tt)

  pub answered : (command : Command) (bytes : List ℕ) (decision : CodeDecision) → AreBytesOf files command bytes
      → IsAnswer image unit command list (pairs_of list pairs) bytes decision → AnswersList files image unit command list (decision_of decision)
  answered (Prove job) bytes decision seen h = judged_list job (decision_of decision) h
  answered (Check job) bytes decision seen h =
      subst (AnswersList files image unit (Check job) list) (sym h.0) (checked_list job bytes (verdict_of decision.verdict) seen h.1)
  answered (Show job) bytes decision seen h =
      subst (AnswersList files image unit (Show job) list) (sym h.0) (showed_list job (verdict_of decision.verdict) h.1)

  -- only the certificate is left to read
  pub left_to_read : (elf c : List ℕ) (command : Command) → ((text : List ℕ) → Lists elf c (task_of command text) image unit list) → IsLeftToRead elf c command
  left_to_read elf c command lists =
      (image, unit, list, λ text. pairs_listed elf c (task_of command text) image unit list (pairs_of list pairs) few paired (lists text))
