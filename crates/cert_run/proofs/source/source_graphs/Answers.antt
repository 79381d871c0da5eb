use Rattle.std.proofs.Common.{◌∙◌, ℕ, List, Option, ap, subst}
use Rattle.std.specs.Prelude.{IfOk}
use Rattle.std.proofs.Math.Path.{fun_ext}
use Rattle.memory_spec.specs.Viewed.{runs_of}
use Rattle.cert_run.specs.Sources.{AreSources}
use Rattle.c_types.specs.Typed.{typed_of}
use Rattle.c_run_value.specs.Settings.{address_in}
use Rattle.c_run_value.specs.declared.setting.Global.{Global}
use Rattle.cert_run.proofs.source.source_graphs.Goals as goal

pub returns-2 : goal.returns-2
returns-2 c =
    let unit = typed_of c.args.unit.now in
    let runs = runs_of c.args.runs.now in
    let globals = ap (λ (l : List Global). address_in l) c.as_slice.ensures.value ∙ fun_ext c.in-Ok-attempt.ensures in
    subst (λ (g : List ℕ → Option ℕ). IfOk c.graphs_at.result (AreSources unit (record { globals = g; runs = runs }))) globals c.graphs_at.ensures
