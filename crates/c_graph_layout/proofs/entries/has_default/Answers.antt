use Rattle.std.proofs.Common.{◌≡◌, ◌∙◌, ◌+◌, Bool, true, false, ◌||◌, None, get_or, drop, sym, ap}
use Rattle.c_graph_spec.specs.Layout.{has_default, is_default}
use Rattle.c_graph_layout.proofs.Begun.{default_in, default_past}
use Rattle.c_graph_layout.proofs.entries.has_default.Goals as goal

pub returns-then-is_default : goal.returns-then-is_default
returns-then-is_default c =
    let xs = c.args.labels.now in
    let i = c.loop-label.label-index in
    let test : is_default (get_or xs i None) ≡ true = sym c.is_default.ensures ∙ c.if-is_default.true in
    let before : has_default (drop i xs) ≡ has_default xs = c.loop-label.invariant in
    sym (sym before ∙ default_in xs i c.loop-label-test.true ∙ ap (λ (b : Bool). b || has_default (drop (i + 1) xs)) test)

pub loop-label-preserved : goal.loop-label-preserved
loop-label-preserved c =
    let xs = c.args.labels.now in
    let i = c.loop-label.label-index in
    let test : is_default (get_or xs i None) ≡ false = sym c.is_default.ensures ∙ c.if-is_default.false in
    let before : has_default (drop i xs) ≡ has_default xs = c.loop-label.invariant in
    sym (default_in xs i c.loop-label-test.true ∙ ap (λ (b : Bool). b || has_default (drop (i + 1) xs)) test) ∙ before

pub returns : goal.returns
returns c =
    let xs = c.args.labels.now in
    let i = c.loop-label.label-index in
    let before : has_default (drop i xs) ≡ has_default xs = c.loop-label.invariant in
    sym (sym before ∙ default_past xs i c.loop-label-test.false)
