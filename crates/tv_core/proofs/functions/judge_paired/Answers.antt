use Rattle.std.proofs.Common.{◌≡◌, ◌∙◌, [], get_or, ap, sym, subst, refl}
use Rattle.std.proofs.lemmas.Result.{IfOk-weaker}
use Rattle.c_types.specs.Typed.{typed_of}
use Rattle.pair_setup_calls.specs.Names.{texts_of}
use Rattle.pair_setup.specs.Answers.{pairs_of}
use Rattle.tv_words.specs.Jobs.{job_of}
use Rattle.tv_core.specs.Decisions.{decision_of}
use Rattle.tv_core.specs.Functions.{IsListed}
use Rattle.tv_core.specs.Listed.{AreDecided, JudgesAll, decided_by}
use Rattle.tv_core.proofs.Judged.{all_decided, as_many}
use Rattle.tv_core.proofs.Paired.{are_paired, enough, listed_at, texts_at, texts_length}
use Rattle.tv_core.proofs.Lists.{answered_here, proved_here, checked_there, shown_here}
use Rattle.tv_core.proofs.functions.judge_paired.Goals as goal

pub decide-requires-clause-many : goal.decide-requires-clause-many
decide-requires-clause-many g c =
    as_many c.args.image.now (typed_of c.args.unit.now) (texts_of c.args.list.now) c.args.pairs.now c.as_slice.result.now c.as_slice.ensures.value
    c.requires.run.pairs_are.paired c.in-Ok.search c.in-Ok.ensures ∙ texts_length c.args.list.now

pub decide-requires-clause-enough : goal.decide-requires-clause-enough
decide-requires-clause-enough g c =
    enough c.args.image.now (typed_of c.args.unit.now) c.args.list.now c.args.pairs.now c.as_slice.result.now c.as_slice.ensures.value c.requires.run.pairs_are.paired

pub returns-in-Ok : goal.returns-in-Ok
returns-in-Ok g c =
    let image = c.args.image.now in
    let unit = typed_of c.args.unit.now in
    let list = texts_of c.args.list.now in
    let pairs = pairs_of list c.args.pairs.now in
    let functions = c.as_slice.result.now in
    let search = c.in-Ok.search in
    let decided = all_decided image unit list c.args.pairs.now functions c.as_slice.ensures.value c.requires.run.pairs_are.paired search c.in-Ok.ensures in
    proved_here image unit (job_of c.args.job.now) list c.args.pairs.now _ _ _ _ (ap job_of c.in-Prove.is) c.from_memory.ensures
    (IfOk-weaker c.decide.result (λ d. decision_of d ≡ decided_by list functions search) (JudgesAll image unit list pairs)
    (λ d e. subst (AreDecided image unit list pairs) (sym e) decided) c.decide.ensures)

pub returns-in-Err : goal.returns-in-Err
returns-in-Err g c = answered_here c.args.image.now (typed_of c.args.unit.now) (job_of c.args.job.now) (texts_of c.args.list.now) c.args.pairs.now _ _ tt refl

pub returns-in-Check : goal.returns-in-Check
returns-in-Check g c =
    checked_there c.args.image.now (typed_of c.args.unit.now) (job_of c.args.job.now) (texts_of c.args.list.now) c.args.pairs.now _ _ _ _ (ap job_of c.in-Check.is)
    c.check_all.ensures.judged c.check_all.ensures.begins c.check_all.ensures.kept

pub show_function-requires : goal.show_function-requires
show_function-requires g c =
    subst (IsListed c.args.image.now (typed_of c.args.unit.now) (get_or c.args.list.now 0 (record { ref_ptr = (0, 0); now = [] })).now) (sym c.index.ensures)
    (listed_at c.args.image.now (typed_of c.args.unit.now) c.args.list.now c.args.pairs.now.functions.items 0 (record { ref_ptr = (0, 0); now = [] }) c.index.result.now
    (are_paired c.args.image.now (typed_of c.args.unit.now) (texts_of c.args.list.now) c.args.pairs.now c.requires.run.pairs_are.paired) c.requires.some)

pub returns-in-Show : goal.returns-in-Show
returns-in-Show g c =
    shown_here c.args.image.now (typed_of c.args.unit.now) (job_of c.args.job.now) (texts_of c.args.list.now) c.args.pairs.now _ _ _ _ _ (ap job_of c.in-Show.is)
    c.plain_from_memory.ensures (λ d. texts_at c.args.list.now 0 (record { ref_ptr = (0, 0); now = [] }) d c.requires.some) c.show_function.ensures
