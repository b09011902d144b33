use Rattle.replaying.proofs.Decades.{decade_wide}
use Rattle.replaying.proofs.decade.decade_stands.Goals as goal

pub returns : goal.returns
returns c = decade_wide
