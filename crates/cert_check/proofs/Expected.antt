-- What the grammar expects of lines one after the other.
use Rattle.std.proofs.Common.{◌≡◌, ℕ, true, List, [], ◌∷◌, ◌++◌, refl, subst}
use Rattle.clause_check_spec.specs.Log.{Step}
use Rattle.cert_text_spec.specs.Derivation as derivation
use Rattle.cert_text_spec.specs.Derivation.{Derives}
use Rattle.cert_text_spec.specs.Lines.{Line, Log, LogStep, End}
use Rattle.cert_text_spec.specs.Certificates.{Expected, AHeader, TheParts, BinaryInlines, SourceInlines, AProof, ARelation, ALog, AStep, Fits, after, can_stand}
use Rattle.cert_check_jobs.specs.declared.jobs.Job.{Job}
use Rattle.cert_check.specs.declared.walk.Walk.{Walk}
use Rattle.cert_check.specs.Expectations.{IsOfProof, of_binary, of_source, of_proof, AreOf, no_job, a_proof, a_relation, a_log}
use Rattle.cert_check.specs.Walks.{Expecting, at_header, at_first, in_part}

-- ---- lines

-- what is expected at a line
pub record IsExpected (expected : List Expected) (line : Line) (rest : List Line) : Type 0 where
  pub first : Expected
  pub others : List Expected
  pub is : expected ≡ first ∷ others
  pub allowed : can_stand first line ≡ true
  pub derives : Derives Fits after (after first line ++ others) rest

pub expected_at : (expected : List Expected) (line : Line) (rest : List Line) → Derives Fits after expected (line ∷ rest) → IsExpected expected line rest
expected_at _ line rest (derivation.some e others _ _ fits derives) = record { first = e; others = others; is = refl; allowed = fits.stands; derives = derives }

pub never_none : (e : Expected) (others : List Expected) → Derives Fits after (e ∷ others) [] → ⊥
never_none e others derives = elim derives [ ]

-- where nothing is expected no line is left
pub nothing_left : (rest : List Line) → Derives Fits after [] rest → rest ≡ []
nothing_left _ derivation.none = refl

-- ---- the step of a log

pub step_alone : (e : Expected) (step : Step) → can_stand e (LogStep step) ≡ true → e ≡ AStep
step_alone AHeader step h = absurd (cc)
step_alone TheParts step h = absurd (cc)
step_alone BinaryInlines step h = absurd (cc)
step_alone SourceInlines step h = absurd (cc)
step_alone (AProof room) step h = absurd (cc)
step_alone ARelation step h = absurd (cc)
step_alone ALog step h = absurd (cc)
step_alone AStep step h = refl

no_proof_is_step : IsOfProof AStep → ⊥
no_proof_is_step of = elim of [ ]

never_end : (e : Expected) → IsOfProof e → can_stand e End ≡ true → ⊥
never_end _ of_binary h = absurd (cc)
never_end _ of_source h = absurd (cc)
never_end _ (of_proof room) h = absurd (cc)

no_step_of : (others : List Expected) (e : Expected) (jobs : List Job) → e ≡ AStep → AreOf (e ∷ others) jobs → ⊥
no_step_of others _ _ is no_job = absurd (cc)
no_step_of others e jobs is (a_proof _ _ below _ x of are same) = no_proof_is_step (subst IsOfProof is of)
no_step_of others _ jobs is (a_relation _ more room below _ reading are rest same) = absurd (cc)
no_step_of others _ jobs is (a_log _ below _ goal are same) = absurd (cc)

pub no_step : (walk : Walk) (e : Expected) (others : List Expected) → e ≡ AStep → Expecting walk (e ∷ others) → ⊥
no_step walk _ _ is (at_header empty) = absurd (cc)
no_step walk _ _ is (at_first empty) = absurd (cc)
no_step walk e others is (in_part _ some are) = no_step_of others e walk.jobs.items is are

-- ---- the last line

-- where the last line can occur, the next part is expected and nothing else
ends_of : (e : Expected) (others : List Expected) (jobs : List Job) → AreOf (e ∷ others) jobs → can_stand e End ≡ true → after e End ++ others ≡ []
ends_of _ _ _ no_job allowed = refl
ends_of e others jobs (a_proof _ _ below _ x of are same) allowed = absurd (never_end e of allowed)
ends_of _ others jobs (a_relation _ more room below _ reading are rest same) allowed = absurd (cc)
ends_of _ others jobs (a_log _ below _ goal are same) allowed = absurd (cc)

pub ends : (walk : Walk) (e : Expected) (others : List Expected) → Expecting walk (e ∷ others) → can_stand e End ≡ true → after e End ++ others ≡ []
ends walk _ _ (at_header empty) allowed = absurd (cc)
ends walk _ _ (at_first empty) allowed = refl
ends walk e others (in_part _ some are) allowed = ends_of e others walk.jobs.items are allowed

-- ---- the line of a log

pub only_log : (e : Expected) (n : ℕ) → can_stand e (Log n) ≡ true → e ≡ ALog
only_log AHeader n h = absurd (cc)
only_log TheParts n h = absurd (cc)
only_log BinaryInlines n h = absurd (cc)
only_log SourceInlines n h = absurd (cc)
only_log (AProof room) n h = absurd (cc)
only_log ARelation n h = absurd (cc)
only_log ALog n h = refl
only_log AStep n h = absurd (cc)

never_of_nothing : (jobs : List Job) → AreOf [] jobs → ⊥
never_of_nothing jobs are = elim are [ ]

-- something is expected, until the last line
pub never_nothing : (walk : Walk) → Expecting walk [] → ⊥
never_nothing walk (in_part _ some are) = never_of_nothing walk.jobs.items are
