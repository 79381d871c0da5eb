use Rattle.c_graph.proofs.places.branch_places.Goals as goal

pub returns-4 : goal.returns-4
returns-4 c = λ f. record { starts_are = c.in-Ok-attempt.ensures f; true_is = c.in-Ok-attempt-on_true.ensures f; false_is = c.in-Ok-attempt-on_false.ensures f }
