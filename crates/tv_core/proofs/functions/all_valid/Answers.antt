use Rattle.std.proofs.Common.{◌≡◌, ◌<◌, ◌≤◌, ◌∙◌, true, [], length, get_or, map, rules, ap, sym, arith}
use Rattle.std.specs.Prelude.{ℕ, List}
use Rattle.std.specs.Borrow.{Bor}
use Rattle.pair_setup.specs.declared.outcome.Function.{Function}
use Rattle.report_text.specs.Judgements.{judgement_of}
use Rattle.tv_core.specs.Listed.{judgement_on}
use Rattle.tv_core.proofs.Made.{made_more, made_all, all_true, true_at}
use Rattle.tv_core.proofs.functions.all_valid.Goals as goal

pub names-preserved : goal.names-preserved
names-preserved c =
    let list = c.args.list.now in
    let functions = c.args.functions.now in
    let i = c.names.i in
    let below : i < length list = search rules in
    let within : i < length functions = let many = c.requires in omega (arith, many, below) in
    let d : Bor (List ℕ) = record { ref_ptr = (0, 0); now = [] } in
    let f : Function = record { entry = 0; size = 0; stack = 0 } in
    let made : judgement_of c.in-Ok-attempt.field-0 ≡ judgement_on (get_or list i d).now true (get_or functions i f) = search rules in
    made_more list functions (map (λ (g : Function). true) functions) i d f true c.names.made.items c.push.new.self.items c.in-Ok-attempt.field-0
    c.names.invariant c.requires (all_true functions (length list) c.requires) below
    (made ∙ ap (λ b. judgement_on (get_or list i d).now b (get_or functions i f)) (sym (true_at functions i f true within))) (search rules)

pub returns : goal.returns
returns c =
    let past : length c.args.list.now ≤ c.names.i = search rules in
    made_all c.args.list.now c.args.functions.now (map (λ (f : Function). true) c.args.functions.now) c.names.i c.names.made.items c.names.invariant c.requires
    (all_true c.args.functions.now (length c.args.list.now) c.requires) past
