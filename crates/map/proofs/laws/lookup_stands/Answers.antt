use Rattle.map.proofs.Finds.{lookup_finds, lookup_alone}
use Rattle.map.proofs.laws.lookup_stands.Goals as goal

pub returns : goal.returns
returns g c = record { finds = lookup_finds; alone = lookup_alone }
