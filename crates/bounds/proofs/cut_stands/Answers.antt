use Rattle.bounds.proofs.Needs.{trees_low, cut_needs}
use Rattle.bounds.proofs.cut_stands.Goals as goal

pub returns : goal.returns
returns g c = record { low = trees_low; needs = cut_needs }
