-- Terms whose numbers are below 2^32.
use Rattle.std.specs.Prelude.{◌<◌, ◌^◌}
use Rattle.lift_tree.specs.Tree.{Tree, Variable, Number, Input, Unary, Binary, Select, Let, Map, Fold}

-- each number is below 2^32
abbrev pub NumbersFit : Tree → Type 0
NumbersFit (Variable n) = Unit {0}
NumbersFit (Number n) = n < 2 ^ 32
NumbersFit (Input n) = Unit {0}
NumbersFit (Unary f t) = NumbersFit t
NumbersFit (Binary f t u) = NumbersFit t × NumbersFit u
NumbersFit (Select t u v) = NumbersFit t × NumbersFit u × NumbersFit v
NumbersFit (Let t u) = NumbersFit t × NumbersFit u
NumbersFit (Map k t u) = NumbersFit t × NumbersFit u
NumbersFit (Fold k t u v) = NumbersFit t × NumbersFit u × NumbersFit v
