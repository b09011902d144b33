use Rattle.std.proofs.Common.{sym}
use Rattle.supply.proofs.Bitmaps.{give_some}
use Rattle.supply.proofs.bits.BitmapSupply.give_back.Goals as goal

pub returns : goal.returns
returns c =
    let s = c.args.self.now in
    record { given = give_some s.words _ s.size _ _ c.flip.ensures.size (sym c.if-not-is_out.ensures) c.flip.ensures.turned }
