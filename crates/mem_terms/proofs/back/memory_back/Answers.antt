use Rattle.std.proofs.Common.{◌≡◌, ℕ, ◌+◌, ◌-◌, ◌<◌, length, map, drop, sym, ap, ◌∙◌, subst, arith}
use Rattle.std.proofs.lemmas.List.{drop_all}
use Rattle.term_core_spec.specs.declared.Family.TheVariants.{Register}
use Rattle.term_core_spec.specs.declared.Sort.TheVariants.{Truth}
use Rattle.term_core.specs.Values.{value_of}
use Rattle.term_core.specs.Memory.{bytes_of}
use Rattle.mem_terms.specs.declared.ids.LoadIds.{LoadIds}
use Rattle.mem_terms.specs.Back.{first_among}
use Rattle.mem_terms.proofs.Pairs.{within_at}
use Rattle.mem_terms.proofs.Rebuilt.{set_step, none_among}
use Rattle.mem_terms.proofs.back.memory_back.Goals as goal

nothing : LoadIds
nothing = record { memory = record { family = Register; index = 0; instance = 0; sort = Truth }; address = 0; byte = 0 }

pub loop-i-init : goal.loop-i-init
loop-i-init c = λ q.
    ap (λ f. f q) c.new-memory.ensures
    ∙ sym (ap (first_among (map value_of c.args.values.now) q) (drop_all (length c.args.loads.now) c.args.loads.now (omega arith)) ∙ none_among (map value_of c.args.values.now) q)

pub address_of-requires : goal.address_of-requires
unfolding nothing
address_of-requires c = (within_at (length c.args.values.now) c.args.loads.now (c.loop-i.i - 1) nothing c.requires (omega arith)).0

pub byte_of-requires : goal.byte_of-requires
unfolding nothing
byte_of-requires c = (within_at (length c.args.values.now) c.args.loads.now (c.loop-i.i - 1) nothing c.requires (omega arith)).1

pub loop-i-preserved : goal.loop-i-preserved
unfolding nothing
loop-i-preserved c =
    let next : c.loop-i.i ≡ c.loop-i.i - 1 + 1 = omega arith in
    set_step (map value_of c.args.values.now) c.args.loads.now (c.loop-i.i - 1) nothing c.address_of.result c.byte_of.result (bytes_of c.loop-i.memory) (bytes_of c.set.new.self)
    (omega arith) c.in_ok-set.ensures.ok c.address_of.ensures c.byte_of.ensures
    (λ q. c.loop-i.invariant q ∙ ap (λ k. first_among (map value_of c.args.values.now) q (drop k c.args.loads.now)) next)
