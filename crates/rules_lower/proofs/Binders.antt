-- The types of binders, wherever they lie in memory.
use Rattle.std.proofs.Common.{◌≡◌, ℕ, List}
use Rattle.std.specs.Prelude.{map, slice_get, option_map}
use Rattle.std.proofs.lemmas.Option.{slice_get-map}
use Rattle.lift_tree.specs.declared.ty.Ty.{Ty}
use Rattle.lift_tree.specs.Types.{ty_of}

pub binder_type : (tys : List Ty) (n : ℕ) → slice_get (map ty_of tys) n ≡ option_map ty_of (slice_get tys n)
binder_type tys n = slice_get-map ty_of tys n
