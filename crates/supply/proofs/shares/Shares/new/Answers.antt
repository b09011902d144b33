use Rattle.std.proofs.Common.{◌≡◌, ap, ap₂, ◌∙◌, arith}
use Rattle.supply.specs.Stocks.{size_of, kept_size}
use Rattle.supply.specs.Shares.{share_stock}
use Rattle.supply.proofs.Sharing.{new_share, new_off, new_count, new_wide}
use Rattle.supply.proofs.shares.Shares.new.Goals as goal

pub invariant_of-result : goal.invariant_of-result
invariant_of-result g c =
    let B = g.S.Supply.stock c.args.below in
    let a = c.unused.ensures.marks in
    let b = c.unused-2.ensures.marks in
    let m = c.unused.result.marks in
    let o = c.unused-2.result.marks in
    let e : c.kept_size-size.result ≡ kept_size (size_of B) = c.kept_size-size.ensures ∙ ap kept_size c.size.ensures in
    record {
      sized = e;
      served_low = λ n q. absurd (new_off B 0 0 0 m a n q);
      served_lent = λ n q. absurd (new_off B 0 0 0 m a n q);
      served_count = c.unused.ensures.out ∙ new_count B 0 0 0 m a _ e;
      served_few = omega (arith, c.unused.ensures.out);
      other_low = λ n q. absurd (new_off B 0 0 0 o b n q);
      other_lent = λ n q. absurd (new_off B 0 0 0 o b n q);
      other_count = c.unused-2.ensures.out ∙ new_count B 0 0 0 o b _ e;
      other_few = omega (arith, c.unused-2.ensures.out);
      served_wide = new_wide B 0 0 0 m a;
      other_wide = new_wide B 0 0 0 o b;
      divided = λ n q. absurd (new_off B 0 0 0 m a n q);
    }

pub returns-clause-first : goal.returns-clause-first
returns-clause-first g c =
    let B = g.S.Supply.stock c.args.below in
    let n = c.kept_size-size.result in
    let a = c.unused.result in
    let b = c.unused-2.result in
    let e : n ≡ kept_size (size_of B) = c.kept_size-size.ensures ∙ ap kept_size c.size.ensures in
    ap₂ (λ l l'. share_stock B n 0 l a.marks l' b.marks) c.unused.ensures.limit c.unused-2.ensures.limit
    ∙ new_share B 0 c.args.first c.args.second a.marks c.unused.ensures.marks _ e b.marks c.unused-2.ensures.marks

pub returns-clause-second : goal.returns-clause-second
returns-clause-second g c =
    let B = g.S.Supply.stock c.args.below in
    let n = c.kept_size-size.result in
    let a = c.unused.result in
    let b = c.unused-2.result in
    let e : n ≡ kept_size (size_of B) = c.kept_size-size.ensures ∙ ap kept_size c.size.ensures in
    ap₂ (λ l l'. share_stock B n 1 l b.marks l' a.marks) c.unused-2.ensures.limit c.unused.ensures.limit
    ∙ new_share B 1 c.args.second c.args.first b.marks c.unused-2.ensures.marks _ e a.marks c.unused.ensures.marks
