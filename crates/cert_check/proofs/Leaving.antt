-- What is expected of a part, as its bank grows.
use Rattle.std.proofs.Common.{◌≡◌, ◌<◌, ℕ, Box, Global, Option, Result, Ok, Err, List, [], ◌∷◌, ◌++◌, length, sym, subst}
use Rattle.std.specs.Prelude.{All, OnOk}
use Rattle.std.proofs.lemmas.List.Elements.{All-append}
use Rattle.term_core_spec.specs.declared.Variable.{Variable}
use Rattle.term_core_spec.specs.Term.{Term}
use Rattle.term_bank.specs.Nodes.{Extends}
use Rattle.sim_rules_terms.proofs.Later.{map_later}
use Rattle.cert_check_frames.specs.Jobs.{AreBelow}
use Rattle.cert_check_jobs.specs.declared.extra.Extra.{Extra}
use Rattle.cert_check_jobs.specs.declared.jobs.Job.{Job}
use Rattle.cert_check_jobs.specs.declared.jobs.Job.TheVariants.{Prove}
use Rattle.cert_check_frames.specs.declared.listed.Listed.{Listed}
use Rattle.cert_check_frames.specs.Listed.{terms_given}
use Rattle.cert_check_jobs.specs.Cuts.{goals_seen, seen}
use Rattle.cert_check_jobs.specs.Extras.{IsBelow}
use Rattle.cert_check_jobs.specs.Jobs.{logs_last, IsInside, AreInside, HasBranches}
use Rattle.cert_check.specs.Steps.{IsKeptBy}
use Rattle.cert_check.proofs.Pushed.{inside_top, inside_later, inside_pushed, logs_inside, ap_below, extra_later, branches_inside}

-- ---- ids of a bank that grows

-- the part is kept, with these jobs
pub kept_on : (code : Listed) (old new : List Term) (binary source : Variable → Option ℕ) (before after : List Job) → IsKeptBy code old binary source before → Extends old new
    → AreInside (length new) after → IsKeptBy code new binary source after
kept_on code old new binary source before after kept grows within = record {
  opened = (
    map_later old new grows binary (terms_given code.binary_terms.now) kept.opened.0,
    map_later old new grows source (terms_given code.source_terms.now) kept.opened.1,
  );
  inside = within;
}

module _ (code : Listed) (old new : List Term) (binary source : Variable → Option ℕ) (before below : List Job) (first : Job) (kept : IsKeptBy code old binary source before) (grows : Extends old new)
    (is : before ≡ below ++ first ∷ []) where
  split : AreInside (length old) below × IsInside (length old) first
  split = inside_top (length old) below first (subst (AreInside (length old)) is kept.inside)

  pub first_inside : IsInside (length old) first
  first_inside = split.1

  pub below_kept : IsKeptBy code new binary source below
  below_kept = kept_on code old new binary source before below kept grows (inside_later old new grows below split.0)

  pub leaf_kept : (after : List Job) (goals : List ℕ) → All (λ (g : ℕ). g < length new) goals → after ≡ below ++ logs_last goals → IsKeptBy code new binary source after
  leaf_kept after goals within now =
      kept_on code old new binary source before after kept grows
      (subst (AreInside (length new)) (sym now)
      (All-append (IsInside (length new)) below (logs_last goals) (inside_later old new grows below split.0) (logs_inside (length new) goals within)))

pub case_kept : (code : Listed) (old new : List Term) (binary source : Variable → Option ℕ) (before below after : List Job) (x : Box Extra Global) (test : ℕ)
    → IsKeptBy code old binary source before → Extends old new → before ≡ below ++ Prove x ∷ [] → HasBranches below after x.value test → test < length new
    → IsKeptBy code new binary source after
case_kept code old new binary source before below after x test kept grows is has within =
    let apart = inside_top (length old) below (Prove x) (subst (AreInside (length old)) is kept.inside) in
    kept_on code old new binary source before after kept grows
    (branches_inside (length new) below after x.value test has (inside_later old new grows below apart.0) (extra_later old new grows x.value apart.1) within)

-- logs, and the proof of a frame with the same premises
pub bounded_kept : (code : Listed) (old new : List Term) (binary source : Variable → Option ℕ) (before below after : List Job) (x more : Box Extra Global) (goals : List ℕ)
    → IsKeptBy code old binary source before → Extends old new → before ≡ below ++ Prove x ∷ [] → more.value.premises.items ≡ x.value.premises.items
    → seen more.value.cuts.value ≡ seen x.value.cuts.value → All (λ (g : ℕ). g < length new) goals → after ≡ (below ++ Prove more ∷ []) ++ logs_last goals → IsKeptBy code new binary source after
bounded_kept code old new binary source before below after x more goals kept grows is same same_cuts within now =
    let apart = inside_top (length old) below (Prove x) (subst (AreInside (length old)) is kept.inside) in
    let later = extra_later old new grows x.value apart.1 in
    let below_new : IsBelow (length new) more.value = record {
      premises = subst (AreBelow (length new)) (sym same) later.premises;
      goals = ap_below (length new) (goals_seen x.value.cuts.value.goals.items) more.value same_cuts later.goals;
    } in
    kept_on code old new binary source before after kept grows
    (subst (AreInside (length new)) (sym now)
    (All-append (IsInside (length new)) (below ++ Prove more ∷ []) (logs_last goals)
    (inside_pushed (length new) below (Prove more) (inside_later old new grows below apart.0) below_new) (logs_inside (length new) goals within)))

-- what holds, where there is a value
pub on_ok : {A E P : Type 0} (r : Result A E) → P → OnOk r P
on_ok (Ok x) p = p
on_ok (Err e) p = tt
