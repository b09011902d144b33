use Rattle.std.proofs.Common.{◌++◌, length, ap₂}
use Rattle.std.proofs.lemmas.List.{drop-replicate}
use Rattle.trial.proofs.with_zeros.Goals as goal

pub returns : goal.returns
returns c = ap₂ (λ a b. a ++ b) c.copy_from_slice.ensures.after (drop-replicate (length c.args.list.now) 4096 0)
