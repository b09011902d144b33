use Rattle.std.proofs.Common.{length, sym, ap, ◌∙◌, subst}
use Rattle.trial.specs.Orders.{EachOnce, order_of}
use Rattle.trial.proofs.Trials.{written_order, written_each, stock_new}
use Rattle.trial.proofs.Trial.begun.Goals as goal

pub invariant_of-result : goal.invariant_of-result
invariant_of-result c =
    let l = c.args.list.now in
    record {
      fits = c.requires.short;
      each = subst (λ x. EachOnce (order_of (length l) x)) (sym c.with_zeros.ensures) (written_each l c.requires.short c.requires.each);
    }

pub returns : goal.returns
returns c =
    let l = c.args.list.now in
    record {
      order = ap (order_of (length l)) c.with_zeros.ensures ∙ written_order l c.requires.short;
      unused = stock_new (length l) c.requires.short;
    }
