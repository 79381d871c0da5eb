use Rattle.std.proofs.Common.{ℕ}
use Rattle.std.proofs.lemmas.Result.{IfOk-weaker}
use Rattle.term_core_spec.specs.declared.Width.TheVariants.{W8}
use Rattle.term_core_spec.specs.Term as tree
use Rattle.term_bank.specs.Nodes.{tree_at, Holds}
use Rattle.term_norm_spec.specs.Normal as spec
use Rattle.memory_spec.specs.Viewed.{runs_of}
use Rattle.term_norm.proofs.Parts.{holds_as, load_known, load_unknown}
use Rattle.term_norm.proofs.loads.load_of_variable.Goals as goal

pub returns-in-Some-clause-form : goal.returns-in-Some-clause-form
returns-in-Some-clause-form c =
    let m = tree_at c.args.bank.now c.args.m in
    let d = tree_at c.args.bank.now c.args.d in
    let new = c.constant_byte.new.bank in
    IfOk-weaker c.constant_byte.result (λ (i : ℕ). Holds new i (tree.constant W8 c.in-Some.byte)) (λ (i : ℕ). Holds new i (spec.load_of_variable (runs_of c.args.runs.now) m d))
    (λ i h. holds_as new i (tree.constant W8 c.in-Some.byte) (spec.load_of_variable (runs_of c.args.runs.now) m d) (load_known (runs_of c.args.runs.now) m d c.in-Some.byte c.in-Some.ensures) h) c.constant_byte.ensures.form

pub returns-in-None-clause-form : goal.returns-in-None-clause-form
returns-in-None-clause-form c =
    let m = tree_at c.args.bank.now c.args.m in
    let d = tree_at c.args.bank.now c.args.d in
    let new = c.add.new.self in
    IfOk-weaker c.add.result (λ (i : ℕ). Holds new i (tree.load m d)) (λ (i : ℕ). Holds new i (spec.load_of_variable (runs_of c.args.runs.now) m d))
    (λ i h. holds_as new i (tree.load m d) (spec.load_of_variable (runs_of c.args.runs.now) m d) (load_unknown (runs_of c.args.runs.now) m d c.in-None.ensures) h) c.add.ensures.id
