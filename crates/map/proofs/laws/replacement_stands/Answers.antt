use Rattle.map.proofs.Replaces.{amend_list, amend_formed}
use Rattle.map.proofs.laws.replacement_stands.Goals as goal

pub returns : goal.returns
returns g c = record { list = amend_list; formed = amend_formed }
