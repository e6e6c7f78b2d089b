-- Maps and folds of typed terms are short.
use Rattle.std.proofs.Common.{ℕ, true, false}
use Rattle.lift_ir.specs.Types.{Ty, PairOf, ArrayOf}
use Rattle.lift_ir.specs.Terms.{Term, Both, Project, Reshape, LetArray, LetElement, Map, Fold, Copy, push, HasType}
use Rattle.term_traffic.specs.Short.{HasShortLoops}

pub short_loops : {A : Type 0} (num : A → ℕ) (src g : ℕ → Ty) (t : Term A) (ty : Ty) → HasType num src g t ty → HasShortLoops num t
short_loops num src g (Both false a b) ty h = (short_loops num src g a h.0 h.5, short_loops num src g b h.1 h.6)
short_loops num src g (Both true a b) ty h = (short_loops num src g a (ArrayOf h.0 h.1) h.4, short_loops num src g b (ArrayOf h.0 h.2) h.5)
short_loops num src g (Project false a) ty h = short_loops num src g a (PairOf ty h.0) h.1
short_loops num src g (Project true a) ty h = short_loops num src g a (PairOf h.0 ty) h.1
short_loops num src g (Reshape y a) ty h = short_loops num src g a h.0 h.1
short_loops num src g (LetArray v b) ty h = (short_loops num src g v h.0 h.1, short_loops num src (push h.0 g) b ty h.2)
short_loops num src g (Map kind n loads xs b) ty h = (h.2, short_loops num src g xs (ArrayOf (num n) h.0) h.4, short_loops num src (push h.0 g) b h.1 h.5)
short_loops num src g (LetElement u v b) ty h = short_loops num src (push u g) b ty h.2
short_loops num src g (Fold n loads y xs s b) ty h = (h.1, short_loops num src g xs (ArrayOf (num n) h.0) h.4)
short_loops num src g (Copy space u a) ty h = short_loops num src g a ty h.2
short_loops num src g _ ty h = tt
