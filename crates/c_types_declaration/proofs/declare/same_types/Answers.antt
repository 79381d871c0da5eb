use Rattle.std.proofs.Common.{◌≡◌, Bool, true, false, sym, ◌∙◌, ap, arith}
use Rattle.std.specs.Prelude.{◌&&◌}
use Rattle.c_types_declaration.proofs.Signatures.{types-step, lengths-differ}
use Rattle.c_types_declaration.proofs.declare.same_types.Goals as goal

differs-at : (b rest whole : Bool) → b ≡ false → b && rest ≡ whole → false ≡ whole
differs-at b rest whole e h = sym (ap (λ x. x && rest) e) ∙ h

goes-on : (b rest whole : Bool) → b ≡ true → b && rest ≡ whole → rest ≡ whole
goes-on b rest whole e h = sym (ap (λ x. x && rest) e) ∙ h

pub returns-then-a-b : goal.returns-then-a-b
returns-then-a-b c = lengths-differ c.args.a.now c.args.b.now (λ e. c.if-a-b.true e)

pub returns-then-not-same_type : goal.returns-then-not-same_type
returns-then-not-same_type c =
    differs-at _ _ _ (sym c.same_type.ensures ∙ c.if-not-same_type.true)
    (sym (types-step c.args.a.now c.args.b.now c.loop-i.i c.index-a-i.result c.index-b-i.result c.index-a-i.is c.index-b-i.is (omega arith) (omega arith)) ∙ c.loop-i.invariant.1)

pub loop-i-preserved : goal.loop-i-preserved
loop-i-preserved c = (
  c.loop-i.invariant.0,
  goes-on _ _ _ (sym c.same_type.ensures ∙ c.if-not-same_type.false)
      (sym (types-step c.args.a.now c.args.b.now c.loop-i.i c.index-a-i.result c.index-b-i.result c.index-a-i.is c.index-b-i.is (omega arith) (omega arith)) ∙ c.loop-i.invariant.1),
)
