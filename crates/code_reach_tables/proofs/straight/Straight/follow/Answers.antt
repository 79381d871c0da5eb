use Rattle.std.proofs.Common.{refl, sym, subst}
use Rattle.code_reach_tables.specs.Followed.{AreRegisters, AreIds}
use Rattle.code_reach_tables.proofs.Trees.{on-ok}
use Rattle.code_reach_tables.proofs.Past.{ids-of, ids-after, registers-later, followed-past}
use Rattle.code_reach_tables.proofs.straight.Straight.follow.Goals as goal

pub loaded-requires : goal.loaded-requires
loaded-requires c = subst (λ ids. AreIds c.args.self.now.nodes.keys ids) (sym c.deref.ensures.value)
    (ids-of c.args.self.now.nodes.keys c.args.self.now.registers.items c.requires.0.registers c.requires.1.shared c.requires.1.registers)

pub bound_of-bound-requires : goal.bound_of-bound-requires
bound_of-bound-requires c = ids-after c.args.self.now c.requires.0 c.requires.1 c.loaded.new.nodes.keys c.deref-2.result.now c.deref-2.ensures.value c.in_ok-loaded.loaded _
    (c.in_ok-loaded.ensures c.requires.0.registers (subst (λ ids. AreRegisters c.args.self.now.nodes.keys ids c.requires.0.registers) (sym c.deref.ensures.value) c.requires.1.registers))

pub write-requires : goal.write-requires
write-requires c = ids-after c.args.self.now c.requires.0 c.requires.1 c.loaded.new.nodes.keys c.args.self.now.registers.items refl c.in_ok-loaded.loaded _
    (c.in_ok-loaded.ensures c.requires.0.registers (subst (λ ids. AreRegisters c.args.self.now.nodes.keys ids c.requires.0.registers) (sym c.deref.ensures.value) c.requires.1.registers))

pub returns : goal.returns
returns c = on-ok c.note.result (λ noted f is.
    let x = f.registers in
    let gives = c.in_ok-loaded.ensures x (subst (λ ids. AreRegisters c.args.self.now.nodes.keys ids x) (sym c.deref.ensures.value) is.registers) in
    let there = registers-later c.args.self.now.nodes.keys c.loaded.new.nodes.keys c.args.self.now.registers.items x gives.extends is.registers in
    followed-past c.args.self.now (record c.args.self.now { nodes = c.loaded.new.nodes }) c.write.new.self c.args.r c.args.address c.args.instruction.now f is c.in_ok-loaded.loaded gives refl refl refl
    c.note.new.self c.bound_of-bound.result (c.bound_of-bound.ensures x (subst (λ ids. AreRegisters c.loaded.new.nodes.keys ids x) (sym c.deref-2.ensures.value) there)) c.in_ok-write.ensures noted) c.note.ensures
