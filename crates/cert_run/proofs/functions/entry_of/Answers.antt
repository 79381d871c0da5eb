use Rattle.std.proofs.Common.{◌≡◌, ◌∙◌, ℕ, List, Option, Some, refl, sym, ap, unwrap_or}
use Rattle.std.specs.Prelude.{option_map}
use Rattle.c_types_spec.specs.Core as core
use Rattle.c_graph_spec.specs.SourceGraph.{body_number}
use Rattle.c_types.specs.Typed.{body_of_name, typed_of}
use Rattle.c_types.specs.declared.typed.Body.{Body}
use Rattle.std.specs.Borrow.{Bor}
use Rattle.pair_setup_spec.specs.SourceReach.{body_of}
use Rattle.pair_setup.specs.Depths.{with_name}
use Rattle.cert_run.specs.Entries.{sides_with}
use Rattle.cert_run.specs.Sides.{function_in, no_body}
use Rattle.cert_run.proofs.Listing.{entry_for}
use Rattle.cert_run.proofs.functions.entry_of.Goals as goal

pub returns : goal.returns
returns c = entry_for (typed_of c.args.unit.now) c.args.entries.now c.args.file c.args.name.now c.args.function.now c.new.result (λ image firsts graphs pointer.
    let unit = typed_of c.args.unit.now in
    let name : List ℕ = c.args.name.now in
    let body : core.Body = body_of_name name c.unwrap-body.result.now in
    let found : body_of unit name ≡ Some body = sym c.body.ensures ∙ ap (option_map (λ (b : Bor Body). body_of_name name b.now)) c.unwrap-body.ensures in
    let is : (function_in unit (with_name name c.args.function.now)).body ≡ body = ap (λ (o : Option core.Body). unwrap_or o no_body) found in
    c.new.ensures (sides_with image unit c.args.entries.now c.args.file firsts graphs) (function_in unit (with_name name c.args.function.now)) (record {
      body_is = is;
      stack_is = refl;
      code_is = sym c.graph_number.ensures;
      source_is = ap (λ (b : core.Body). body_number b.name unit.bodies) is ∙ sym c.source_number.ensures;
      first_is = refl;
      pointer_is = pointer;
      runs_are = refl;
    }))
