-- The row and the column of a cell of two variables come back.
use Rattle.std.proofs.Common.{refl, arith}
use Rattle.std.proofs.lemmas.Bool.{eq-eqb, lt-ltb, ne_eqb}
use Rattle.index_simplify.specs.Promises.{CellsComeApart, NothingIsAdded}

pub come_apart : CellsComeApart
come_apart r k l g j m h n lt many =
    let zero_not = ne_eqb 0 n (λ e. absurd (omega arith)) in
    let one_not = ne_eqb 1 n (λ e. absurd (omega arith)) in
    let itself = eq-eqb n n refl in
    let within = lt-ltb h n lt in
    (rw (zero_not, one_not, itself, within) refl, rw (zero_not, one_not, itself, within) refl)

pub nothing_is_added : NothingIsAdded
nothing_is_added r k l g j m = refl
