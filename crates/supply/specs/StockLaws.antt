-- The law that both supplies owe: never more allowed than the size less what is out. Each impl cites one of these.
--   counted_sound   of a stock whose allowance is counted from its marks
--   bits_sound      of words of bits
--   marks_most      the marks of links are at most as many as the size
--   links_sound     of links
use Rattle.std.specs.Prelude.{refl, ℕ, ◌^◌, ◌<◌, ◌≤◌, Bool, List, length, take, nat_eq}
use Rattle.std.proofs.Common.{length-take, arith}
use Rattle.std.proofs.lemmas.List.{length-map}
use Rattle.std.proofs.lemmas.List.Sums.{count_by-le-length}
use Rattle.supply.specs.Words.{spread, bit_stock}
use Rattle.supply.specs.Rows.{link_marks, link_stock}
use Rattle.supply.specs.Stocks.{counted, Sound}

pub counted_sound : (m : List Bool) → length m < 2 ^ 16 → Sound (counted m)
counted_sound m h = record { within = omega (arith, count_by-le-length (λ b. b) m); small = h; apart = λ n o. refl }

pub bits_sound : (size : ℕ) (words : List ℕ) → size ≤ 4096 → Sound (bit_stock size words)
bits_sound size words h = counted_sound (take size (spread words)) (omega (arith, length-take size (spread words)))

pub marks_most : (n : ℕ) (l : List ℕ) → length (link_marks n l) ≤ n
unfolding link_marks
marks_most n l = omega (arith, length-map (take n l) (λ x. nat_eq x 65535), length-take n l)

pub links_sound : (size : ℕ) (links : List ℕ) → size ≤ 4096 → Sound (link_stock size links)
links_sound size links h = counted_sound (link_marks size links) (omega (arith, marks_most size links))
