use Rattle.walk.proofs.Framing.{shown_whole}
use Rattle.walk.proofs.laws.whole_stands.Goals as goal

pub returns : goal.returns
returns g c = shown_whole
