use Rattle.std.proofs.Common.{rules, ◌<◌, ◌≤◌, ◌∙◌, ◌∷◌, [], length, ap, sym, refl}
use Rattle.std.proofs.lemmas.List.{drop_all}
use Rattle.std.proofs.lemmas.Option.{slice_get_read}
use Rattle.clause_check_spec.specs.Step.{finding}
use Rattle.clause_check.proofs.Indices.{literal_named}
use Rattle.clause_check.proofs.Passing.{found_sole}
use Rattle.clause_check.proofs.hints.found_in.Goals as goal

pub returns-then-first-clause-clause-reported : goal.returns-then-first-clause-clause-reported
unfolding finding
returns-then-first-clause-clause-reported c = λ truths reports.
    let past : length c.args.clause.now ≤ c.first_open-first.result = search rules in
    sym (c.first_open-first.ensures.passed truths reports ∙ ap (finding truths) (drop_all c.first_open-first.result c.args.clause.now past))

pub found_alone-requires : goal.found_alone-requires
found_alone-requires c =
    let below : c.first_open-first.result < length c.args.clause.now = search rules in
    let literal = c.index-clause-first.result in
    record {
      named = literal_named (length c.args.stamps.now) c.args.clause.now c.first_open-first.result literal c.requires below c.index-clause-first.is;
      not_false =
          c.first_open-first.ensures.«open» literal
          (slice_get_read c.args.clause.now (length c.args.clause.now) c.first_open-first.result literal refl below c.index-clause-first.is);
    }

pub returns : goal.returns
returns c =
    let below : c.first_open-first.result < length c.args.clause.now = search rules in
    let past : length c.args.clause.now ≤ c.next_open.result = search rules in
    record {
      reported = λ truths reports.
          c.found_alone.ensures.reported truths reports
          ∙ sym (found_sole truths c.args.clause.now c.first_open-first.result c.next_open.result c.index-clause-first.result
          (c.first_open-first.ensures.passed truths reports) below c.index-clause-first.is
          (c.next_open.ensures.passed truths (c.index-clause-first.result ∷ []) reports) past);
      «open» = c.found_alone.ensures.«open»;
    }
