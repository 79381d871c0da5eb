use Rattle.std.proofs.Common.{◌≡◌, ◌∙◌, ℕ, List, ◌+◌, ◌-◌, ◌<◌, length, map, get_or, sym, ap, subst, arith}
use Rattle.std.specs.Prelude.{vec_len}
use Rattle.term_bank.specs.Nodes.{tree_at}
use Rattle.c_graph_terms.specs.Tables.{id_at, table_tree}
use Rattle.c_graph_terms.specs.Built.{IsBuilt, AreGrown}
use Rattle.c_graph_terms.proofs.Growing.{last_built, same_default}
use Rattle.c_graph_terms.proofs.table.build.Goals as goal

pub returns-2 : goal.returns-2
returns-2 c =
    let old = c.args.bank.now in
    let new = c.extend.new.bank in
    let given = c.args.given.now in
    let ids = c.extend.new.ids.items in
    let nodes = c.args.nodes.now in
    let grown : AreGrown old new given ids nodes = subst (λ (l : List ℕ). AreGrown old new l ids nodes) c.in_ok-ids.ensures.items c.in-Ok-attempt.ensures in
    let count : length ids ≡ length given + length nodes = grown.count in
    let some = c.requires.some in
    let below : length ids - 1 < length ids = omega arith in
    let many : vec_len c.extend.new.ids ≡ length ids = omega (arith, c.extend.new.ids.ok.0) in
    let id : c.index.result.now ≡ id_at ids (length ids - 1) =
    c.index.ensures ∙ ap (λ (n : ℕ). get_or ids (n - 1) c.index.result.now) (c.len.ensures ∙ many) ∙ same_default ids (length ids - 1) c.index.result.now 0 below in
    subst (λ (i : ℕ). IsBuilt old new i (table_tree (map (tree_at old) given) nodes)) (sym id) (last_built old new given ids nodes grown some)
