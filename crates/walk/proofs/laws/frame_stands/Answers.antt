use Rattle.walk.proofs.Framing.{shown_frame, walk_beside}
use Rattle.walk.proofs.laws.frame_stands.Goals as goal

pub returns : goal.returns
returns g c = record { shown = shown_frame; beside = walk_beside }
