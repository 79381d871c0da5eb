use Rattle.std.proofs.Common.{List, map, sym, subst}
use Rattle.std.proofs.lemmas.Result.{IfOk-weaker}
use Rattle.sim_rules_terms.specs.declared.convention.Convention.{Convention}
use Rattle.validity_laws.specs.CheckStatements.{listed_of}
use Rattle.cert_check_frames.specs.declared.listed.Listed.{Listed}
use Rattle.cert_check_frames.specs.Listed.{AreListed}
use Rattle.cert_check_frames.specs.Entries.{AreConventions}
use Rattle.cert_run.proofs.runs.search_sides.Goals as goal

pub returns-in-Ok-listed : goal.returns-in-Ok-listed
returns-in-Ok-listed g c =
    IfOk-weaker c.find.result _ _
    (λ made searches q firsts functions entries graphs sites truths.
    searches (map (listed_of q firsts) functions)
    (subst (λ (codes : List Listed). AreListed codes (map (listed_of q firsts) functions)) (sym c.as_slice-in-Ok-listed.ensures.value)
    (c.in-Ok-listed.ensures q firsts functions entries
    (subst (λ (made : List Convention). AreConventions q functions made) (sym c.as_slice.ensures.value) (c.in-Ok.ensures.are q functions entries)) graphs sites))
    truths)
    c.find.ensures
