-- A program that is within its limits has few inputs and few nodes.
use Rattle.std.proofs.Common.{◌≡◌, ◌≤◌, Bool, true, false, cond, Option, Some, None, arith, length, refl, sym}
use Rattle.std.specs.Prelude.{nat_lt}
use Rattle.std.proofs.lemmas.Bool.{ltb-false}
use Rattle.std.proofs.lemmas.Option.{none-some}
use Rattle.lift_tree.specs.Programs.{PlainProgram}
use Rattle.lift_tree.specs.Tree.{nodes}
use Rattle.lift_reader.specs.ProgramText.{first_limit, node_count}

not_chosen : {A : Type 0} (b : Bool) (x : A) (rest : Option A) → cond b (Some x) rest ≡ None → (b ≡ false) × (rest ≡ None)
not_chosen true x rest h = absurd (none-some x (sym h))
not_chosen false x rest h = (refl, h)

-- within its limits a program has at most 8 inputs
pub few_inputs : (p : PlainProgram) → first_limit p ≡ None → length p.inputs ≤ 8
few_inputs p within =
    let sizes = not_chosen (nat_lt 8 (length p.sizes)) _ _ within in
    let inputs = not_chosen (nat_lt 8 (length p.inputs)) _ _ sizes.1 in
    let few = ltb-false 8 (length p.inputs) inputs.0 in
    omega (arith, few)

-- and at most 4096 nodes
pub few_nodes : (p : PlainProgram) → first_limit p ≡ None → nodes p.body ≤ 4096
few_nodes p within =
    let sizes = not_chosen (nat_lt 8 (length p.sizes)) _ _ within in
    let inputs = not_chosen (nat_lt 8 (length p.inputs)) _ _ sizes.1 in
    let counted = not_chosen (nat_lt 4096 (node_count p)) _ _ inputs.1 in
    let few = ltb-false 4096 (node_count p) counted.0 in
    omega (arith, few)
