use Rattle.cert_run.proofs.Made.{are_sources}
use Rattle.cert_run.proofs.source.graphs_at.Goals as goal

pub returns-2 : goal.returns-2
returns-2 c = are_sources c.with_places.result _ _ c.in-Ok-attempt.field-0.items c.in-Ok-attempt.ensures.graphs c.in-Ok-attempt.ensures.points c.with_places.ensures.graphs c.with_places.ensures.places
