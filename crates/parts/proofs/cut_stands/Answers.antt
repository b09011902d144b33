use Rattle.parts.proofs.Counts.{cut_numbers}
use Rattle.parts.proofs.Mends.{cut_formed, cut_flat, cut_parts, cut_sorted}
use Rattle.parts.proofs.Searches.{cut_bound}
use Rattle.parts.proofs.cut_stands.Goals as goal

pub returns : goal.returns
returns g c = record { formed = cut_formed; ways = cut_flat; parts = cut_parts; sorted = cut_sorted; numbers = cut_numbers; bound = cut_bound }
