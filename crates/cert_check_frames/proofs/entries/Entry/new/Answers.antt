use Rattle.std.proofs.Common.{◌∙◌, ℕ, List, map, Option, sym, ap, ap₂}
use Rattle.memory_spec.specs.Runs.{Run}
use Rattle.memory_spec.specs.Viewed.{runs_of}
use Rattle.elf_read_spec.specs.Image.{global_pointer}
use Rattle.c_types_spec.specs.Core.{Body}
use Rattle.c_types.specs.declared.typed.FunctionType.{FunctionType}
use Rattle.sim_rules_spec.specs.Calling.{entry_lines, return_lines}
use Rattle.agreement_laws.specs.EntryFrame.{result_term, run_of, scope_of}
use Rattle.cert_check_frames.specs.Facts.{binary_facts_of, source_facts_of}
use Rattle.cert_check_frames.specs.Scopes.{scope_with}
use Rattle.cert_check_frames.proofs.entries.Entry.new.Goals as goal

pub returns-4 : goal.returns-4
returns-4 c = λ q g is.
    let runs : List Run = runs_of c.args.file.runs.now in
    let pointer : Option ℕ = c.args.file.pointer in
    let stack : ℕ = c.args.stack in
    let parameters = c.as_slice-parameters.ensures.value ∙ ap (λ (t : FunctionType). t.parameters.items) c.deref.ensures in
    let locals = c.as_slice-locals.ensures.value in
    let returned = ap (λ (t : FunctionType). return_lines (result_term t.returned)) c.deref-2.ensures in
    record {
      named = ap (λ (b : Body). b.name) (sym is.body_is);
      stack_is = sym is.stack_is;
      code_is = sym is.code_is;
      source_is = sym is.source_is;
      first_is = sym is.first_is;
      setting_is = c.in-Ok-attempt.ensures ∙ ap₂ scope_with parameters locals ∙ ap scope_of (sym is.body_is);
      lines_are =
          c.in-Ok-attempt-relations.ensures.lines
          ∙ ap (λ (n : ℕ). entry_lines n pointer (map run_of runs)) (sym is.stack_is)
          ∙ ap (λ (p : Option ℕ). entry_lines g.stack p (map run_of runs)) (sym is.pointer_is)
          ∙ ap (λ (l : List Run). entry_lines g.stack (global_pointer q.image) (map run_of l)) (sym is.runs_are);
      returns_are = c.in-Ok-attempt-relations.ensures.returns ∙ returned ∙ ap (λ (b : Body). return_lines (result_term b.signature.result)) (sym is.body_is);
      binary_are =
          c.in-Ok-attempt-facts.ensures.binary
          ∙ ap (binary_facts_of stack) parameters
          ∙ ap (λ (b : Body). binary_facts_of stack b.signature.parameters) (sym is.body_is)
          ∙ ap (λ (n : ℕ). binary_facts_of n g.body.signature.parameters) (sym is.stack_is);
      source_are =
          c.in-Ok-attempt-facts.ensures.source
          ∙ ap₂ (source_facts_of stack) parameters locals
          ∙ ap (λ (b : Body). source_facts_of stack b.signature.parameters b.locals) (sym is.body_is)
          ∙ ap (λ (n : ℕ). source_facts_of n g.body.signature.parameters g.body.locals) (sym is.stack_is);
    }
