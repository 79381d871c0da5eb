use Rattle.std.proofs.Common.{◌∙◌, sym}
use Rattle.pair_setup.proofs.Symbols.{sized-none, sized-some}
use Rattle.pair_setup.proofs.globals.is_sized.Goals as goal

pub returns-in-None : goal.returns-in-None
returns-in-None c = λ full e. sized-none c.args.image.now c.args.name.now full (sym c.in-None.is ∙ e)

pub returns-else-size-ge-SIZE_LIMIT : goal.returns-else-size-ge-SIZE_LIMIT
returns-else-size-ge-SIZE_LIMIT c = λ full e.
    sized-some c.args.image.now c.args.name.now c.in-Some.size c.has_size.result c.if-size-ge-SIZE_LIMIT.false c.has_size.ensures full
    (sym c.in-Some.is ∙ e)
