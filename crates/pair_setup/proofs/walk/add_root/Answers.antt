use Rattle.std.proofs.Common.{◌≡◌, ◌∙◌, sym, ap}
use Rattle.elf_read_spec.specs.Image.{function_named}
use Rattle.elf_read_spec.specs.declared.SymbolValues.TheVariants.{One}
use Rattle.pair_setup_calls.specs.Graph.{Grows}
use Rattle.pair_setup_calls.proofs.Growing.{grows-as, grows-kept}
use Rattle.pair_setup.specs.Walks.{IsEntry}
use Rattle.pair_setup.proofs.Added.{on-ok}
use Rattle.pair_setup.proofs.walk.add_root.Goals as goal

pub returns-in-One : goal.returns-in-One
returns-in-One c =
    let there : One c.in-One.entry ≡ function_named c.args.image.now c.args.name.now = c.in-One.ensures in
    on-ok c.add.result (Grows (λ t. t ≡ c.in-One.entry) c.args.entries.now.keys c.add.new.entries.keys)
    (Grows (IsEntry c.args.image.now c.args.name.now) c.args.entries.now.keys c.add.new.entries.keys)
    (grows-as (λ t. t ≡ c.in-One.entry) (IsEntry c.args.image.now c.args.name.now) c.args.entries.now.keys c.add.new.entries.keys (λ t e. sym there ∙ ap One (sym e))
    (λ t e. let both : One c.in-One.entry ≡ One t = there ∙ e in cc)) c.add.ensures

pub returns-in-Two : goal.returns-in-Two
returns-in-Two c = grows-kept (IsEntry c.args.image.now c.args.name.now) c.args.entries.now.keys (λ t e. absurd (let two = c.in-Two.ensures in cc))

pub returns-in-Absent : goal.returns-in-Absent
returns-in-Absent c = grows-kept (IsEntry c.args.image.now c.args.name.now) c.args.entries.now.keys (λ t e. absurd (let none = c.in-Absent.ensures in cc))
