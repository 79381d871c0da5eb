use Rattle.std.proofs.Common.{◌∙◌, refl, sym, ap, subst}
use Rattle.code_reach_spec.specs.RunUp.{result_of}
use Rattle.code_reach_tables.specs.Followed.{AreRegisters, value_of, IsResult}
use Rattle.code_reach_tables.proofs.Values.{with_register, result-parts}
use Rattle.code_reach_tables.proofs.straight.Straight.write.Goals as goal

pub returns-in_default : goal.returns-in_default
returns-in_default c = λ x has. subst (λ o. IsResult c.args.self.now c.args.self.now c.args.r o c.args.loaded)
    (ap (λ n. with_register n (value_of c.args.address (result_of x c.args.address c.args.instruction.now))) c.in_default.ensures ∙ result-parts x c.args.address c.args.instruction.now) refl

pub returns : goal.returns
returns c = λ x has. subst (λ o. IsResult c.args.self.now c.put.new.self c.args.r o c.args.loaded)
    (ap (λ n. with_register n (value_of c.args.address (result_of x c.args.address c.args.instruction.now))) c.in-Some.ensures ∙ result-parts x c.args.address c.args.instruction.now) (
      record c.args.self.now { nodes = c.value.new.nodes },
      c.in_ok-id.id,
      c.in_ok-id.ensures x (subst (λ ids. AreRegisters c.args.self.now.nodes.keys ids x) (sym c.deref.ensures.value) has),
      refl,
      refl,
      refl,
      c.put.ensures,
    )
