use Rattle.std.proofs.Common.{◌≡◌, ◌*◌, ◌-◌, None, sym, rules}
use Rattle.std.specs.Option.{option_map}
use Rattle.code_reach_spec.specs.Code.{straight}
use Rattle.code_reach_tables.specs.Tables.{jump_seen}
use Rattle.code_reach_tables.proofs.Searched.{no-run-up, run-all, run-known, run-none}
use Rattle.code_reach_tables.proofs.tables.jump_from.Goals as goal

pub jump-found-requires : goal.jump-found-requires
jump-found-requires c = (_, (run-known c.args.image.now c.args.r (c.args.address - 4 * c.args.before) c.args.before c.follow_words.new.straight c.in_ok-all.all (search rules) c.in_ok-all.ensures).is)

pub returns-then-not-all : goal.returns-then-not-all
returns-then-not-all c = sym (no-run-up c.args.image.now c.args.r c.args.address 0 c.args.before
    (run-none c.args.image.now c.args.r (c.args.address - 4 * c.args.before) c.args.before c.follow_words.new.straight c.in_ok-all.all (search rules) c.in_ok-all.ensures))

pub returns : goal.returns
returns c =
    run-all c.args.image.now c.args.r c.args.address c.args.before c.follow_words.new.straight (option_map (jump_seen c.args.image.now) c.jump-found.result)
    (run-known c.args.image.now c.args.r (c.args.address - 4 * c.args.before) c.args.before c.follow_words.new.straight c.in_ok-all.all (search rules) c.in_ok-all.ensures)
    c.jump-found.ensures
