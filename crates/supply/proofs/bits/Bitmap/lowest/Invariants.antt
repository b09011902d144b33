use Rattle.supply.proofs.Bitmaps.{Full}
use Rattle.supply.proofs.bits.Bitmap.lowest.Given as goal

abbrev pub invariant-loop-i : goal.invariant-loop-i
invariant-loop-i l = Full l.self.words l.i
