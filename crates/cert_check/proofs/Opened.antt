-- A part as it begins.
use Rattle.std.proofs.Common.{◌≡◌, ◌∙◌, Box, Global, List, [], ◌∷◌, ◌++◌, length, sym, ap, ap₂, subst}
use Rattle.std.specs.HashMap.{get}
use Rattle.term_core_spec.specs.Same.{same_variable}
use Rattle.term_core_spec.specs.Term.{Term}
use Rattle.term_bank.specs.Nodes.{Extends}
use Rattle.path_cond.specs.States.{IsMapOf}
use Rattle.sim_rules_terms.proofs.Later.{map_later}
use Rattle.proof_tree_spec.specs.Frames.{Frame}
use Rattle.cert_text_spec.specs.Certificates.{TheParts, BinaryInlines}
use Rattle.cert_check_lines_spec.specs.Jobs as spec
use Rattle.cert_check_lines_spec.specs.Jobs.{Origin, AtEntry}
use Rattle.cert_check_jobs.specs.declared.extra.Extra.{Extra}
use Rattle.cert_check_jobs.specs.declared.jobs.Job.TheVariants.{Prove}
use Rattle.cert_check_frames.specs.declared.listed.Listed.{Listed}
use Rattle.cert_check.specs.declared.walk.Walk.{Walk}
use Rattle.cert_check_frames.specs.Listed.{frame_at, terms_given}
use Rattle.cert_check_jobs.specs.Extras.{HasNothing}
use Rattle.cert_check_jobs.specs.Jobs.{AreInside}
use Rattle.cert_check.specs.Jobs.{job_of}
use Rattle.cert_check.specs.Expectations.{of_binary, no_job, a_proof}
use Rattle.cert_check.specs.Walks.{IsOpened}
use Rattle.cert_check.proofs.Pushed.{jobs_top, no_jobs, with_none, nothing_starts, inside_pushed, no_inside, no_below}

-- ---- a part begins

-- one proof is expected, of the frame at the entry
pub opened : (function : Listed) (old now : Walk) (first : List Term) (x : Box Extra Global) → now.parts ≡ old.parts → HasNothing x.value
    → now.jobs.items ≡ [] ++ Prove x ∷ [] → IsMapOf first (get same_variable now.binary) (terms_given function.binary_terms.now) → Extends first now.bank
    → IsMapOf now.bank (get same_variable now.source) (terms_given function.source_terms.now) → IsOpened function old now
opened function old now first x same none is known grows known_after = record {
  parts = same;
  kept = record {
    opened = (map_later first now.bank grows (get same_variable now.binary) (terms_given function.binary_terms.now) known, known_after);
    inside = subst (AreInside (length now.bank)) (sym is)
        (inside_pushed (length now.bank) [] (Prove x) (no_inside (length now.bank)) (no_below (length now.bank) x.value none));
  };
  follows = a_proof BinaryInlines (TheParts ∷ []) [] now.jobs.items x of_binary no_job is;
  jobs =
      jobs_top now.bank (frame_at function) now.jobs.items [] (Prove x) is
      ∙ ap (λ (jobs : List spec.Job). job_of now.bank (frame_at function) (Prove x) ∷ jobs) (no_jobs now.bank (frame_at function))
      ∙ ap₂ (λ (o : Origin) (frame : Frame). spec.Prove o frame ∷ []) (nothing_starts x.value none) (with_none now.bank (frame_at function) x.value none);
}
