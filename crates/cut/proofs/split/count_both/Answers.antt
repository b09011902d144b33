use Rattle.node.proofs.Tabled.{err_not_ok}
use Rattle.cut.proofs.split.count_both.Goals as goal

pub returns-in_err-len : goal.returns-in_err-len
returns-in_err-len c = λ n m a b l r s. absurd (err_not_ok _ _ (c.in_err-len.ensures.whole n a l))

pub returns-in_err-len-2 : goal.returns-in_err-len-2
returns-in_err-len-2 c = λ n m a b l r s. absurd (err_not_ok _ _ (c.in_err-len-2.ensures.whole m b r))
