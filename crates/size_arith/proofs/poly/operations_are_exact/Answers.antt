use Rattle.std.proofs.Common.{pos, negsuc}
use Rattle.size_arith.specs.Polynomial.{number}
use Rattle.size_arith.proofs.Values.{value-plus, value-minus, value-times}
use Rattle.size_arith.proofs.Limits.{canonical-added, canonical-times}
use Rattle.size_arith.proofs.Maps.{same_map_same_list}
use Rattle.size_arith.proofs.Sums.{coefficient-plus, coefficient-minus}
use Rattle.size_arith.proofs.poly.operations_are_exact.Goals as goal

pub returns : goal.returns
returns c = record {
  sum = λ p q ys. value-plus ys p q;
  difference = λ p q ys. value-minus ys p q;
  product = λ p q ys. value-times ys p q;
  sum_of_maps = coefficient-plus;
  difference_of_maps = coefficient-minus;
  sum_is_one_map = λ p q h. canonical-added (number (pos 1)) q p h;
  difference_is_one_map = λ p q h. canonical-added (number (negsuc 0)) q p h;
  product_is_one_map = canonical-times;
  one_list_for_each_map = same_map_same_list;
}
