use Rattle.std.proofs.Common.{rules, ◌≡◌, ◌<◌, ◌∙◌, length, refl, sym, subst}
use Rattle.std.proofs.lemmas.Option.{slice_get_read}
use Rattle.sat_search_spec.specs.declared.Watch.{Watch}
use Rattle.sat_search_spec.specs.Clauses.{Has}
use Rattle.sat_search_spec.specs.Watches.{IsRunning}
use Rattle.sat_search_spec.proofs.Members.{has_at}
use Rattle.sat_search_learning.proofs.Values.{literal_of}
use Rattle.sat_search_learning.proofs.Loaded.{empty_false, nothing_of, something_of, code_named, loaded_two}
use Rattle.sat_search_learning.proofs.loading.load_clause.Goals as goal

pub returns-then-is_empty-clause-loaded : goal.returns-then-is_empty-clause-loaded
returns-then-is_empty-clause-loaded c =
    empty_false c.args.clauses.now.clauses c.push.new.self.clauses c.args.trail.now c.args.clause.now c.len.result c.requires.running.sound
    c.in_ok-push.ensures.added (nothing_of c.args.clause.now (sym c.is_empty.ensures ∙ c.if-is_empty.true)) c.len.ensures

pub attach-requires-clause-second : goal.attach-requires-clause-second
attach-requires-clause-second c =
    code_named c.args.trail.now c.args.watches.now c.in-Some.second c.requires.running.room
    (literal_of c.args.trail.now.variables c.args.clause.now c.in-Some.second c.requires.of_variables c.in-Some.ensures.found.has)

pub returns-in_ok-attach-in-Some-clause-loaded : goal.returns-in_ok-attach-in-Some-clause-loaded
returns-in_ok-attach-in-Some-clause-loaded c =
    let watch : Watch = record { first = c.index-clause-0.result; second = c.in-Some.second } in
    let positive = something_of c.args.clause.now (sym c.is_empty.ensures ∙ c.if-is_empty.false) in
    let first : Has c.args.clause.now c.index-clause-0.result =
    has_at c.args.clause.now 0 c.index-clause-0.result (slice_get_read c.args.clause.now (length c.args.clause.now) 0 c.index-clause-0.result refl positive c.index-clause-0.is)
    in (
      subst (λ cs. IsRunning cs c.args.trail.now c.attach.new.self) (sym c.in_ok-push.ensures.added)
          (loaded_two c.args.clauses.now.clauses c.args.trail.now c.args.watches.now c.attach.new.self c.args.clause.now watch c.requires.running c.requires.first
          c.requires.of_variables c.in_ok-attach-in-Some.ensures first c.in-Some.ensures.found.has c.in-Some.ensures.found.apart),
      c.in_ok-attach-in-Some.ensures.head ∙ c.requires.first,
    )
