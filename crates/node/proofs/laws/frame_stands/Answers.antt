use Rattle.node.proofs.Frames.{frame, frame_changed, frame_apart, held_inside}
use Rattle.node.proofs.Balances.{beside_holds}
use Rattle.node.proofs.laws.frame_stands.Goals as goal

pub returns : goal.returns
returns g c = record { agreed = frame; changed = frame_changed; apart = frame_apart; beside = beside_holds; inside = held_inside }
