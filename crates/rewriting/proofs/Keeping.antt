-- What types a term under either demand where it types another, and keeps its value, keeps all.
use Rattle.std.specs.Prelude.{◌≡◌, List}
use Rattle.lift_tree.specs.Tree.{Tree}
use Rattle.lift_tree.specs.Types.{PlainTy, HaveTypes}
use Rattle.lift_tree.specs.Typing.{Declared, IsAdmissible}
use Rattle.lift_tree.specs.Values.{Value}
use Rattle.lift_tree.specs.Meaning.{World, meaning}
use Rattle.lift_tree.proofs.Copies.{Demand, TypesUnder, Retypes, types_kept, copies_kept}
use Rattle.rewriting.specs.Keeps.{Keeps}

pub keeping : (d : Declared) (g : List PlainTy) (t u : Tree)
    → ((m : Demand) (a : PlainTy) → TypesUnder m d g t a → TypesUnder m d g u a)
    → ((w : World) (vs : List Value) → IsAdmissible d w → HaveTypes w.bases g vs → meaning w vs u ≡ meaning w vs t)
    → Keeps d g t u
keeping d g t u types value =
    let r : Retypes d g t u = record { under = types } in
    record { typed = types_kept d g t u r; copies = copies_kept d g t u r; value = value }
