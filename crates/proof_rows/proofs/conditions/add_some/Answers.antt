use Rattle.std.proofs.Common.{ℕ, ◌<◌, List, length, sym, subst, arith}
use Rattle.std.specs.List.{All}
use Rattle.std.proofs.lemmas.List.{length-map}
use Rattle.visit_walk_spec.specs.Visits.{Walk}
use Rattle.path_cond_spec.specs.Junctions.{junction_of, junctions}
use Rattle.proof_rows.proofs.conditions.add_some.Goals as goal

pub add_several-requires : goal.add_several-requires
add_several-requires c =
    let w : Walk = c.requires.2 in
    let visits = c.args.visits.now.visits in
    record {
      start = c.requires.0;
      graph = c.requires.1;
      junctions = junctions w visits;
      are = c.requires.3;
      within = subst (λ (members : List ℕ). All (λ (m : ℕ). m < length (junctions w visits)) members) (sym c.as_slice.ensures.value)
          (λ k d less. let at = c.find_members.ensures k d less in let same = length-map visits (junction_of w visits) in omega arith);
    }
