use Rattle.std.proofs.Common.{rules, ◌<◌, ◌∙◌, ap, sym, subst}
use Rattle.sat_search_learning.proofs.Levels.{rewound}
use Rattle.sat_search_learning.proofs.search.back_to.Goals as goal

pub returns-then-level-clause-searching : goal.returns-then-level-clause-searching
returns-then-level-clause-searching c =
    let lower : c.args.level < c.args.search.now.trail.level = search rules in
    record {
      running =
          rewound c.args.search.now.clauses.clauses c.args.search.now.trail c.rewind.new.trail c.args.search.now.watches c.rewind.new.watches c.args.level
          c.requires.searching.running lower c.rewind.ensures;
      is_log = c.requires.searching.is_log;
      variables = ap (λ t. t.variables) c.rewind.ensures.trail ∙ c.requires.searching.variables;
    }
