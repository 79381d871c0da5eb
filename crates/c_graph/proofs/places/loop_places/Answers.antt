use Rattle.c_graph.proofs.places.loop_places.Goals as goal

pub returns-4 : goal.returns-4
returns-4 c = λ f. record { starts_are = c.in-Ok-attempt.ensures f; step_is = c.in-Ok-attempt-step.ensures f; body_is = c.in-Ok-attempt-body.ensures f }
