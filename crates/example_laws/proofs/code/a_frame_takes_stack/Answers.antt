use Rattle.example_laws.proofs.CodeWorked.{frame_reachable, frame_stack}
use Rattle.example_laws.proofs.code.a_frame_takes_stack.Goals as goal

pub returns : goal.returns
returns c = record { reachable = frame_reachable; stack = frame_stack }
