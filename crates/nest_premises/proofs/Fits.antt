-- What the limits give at each node of a term.
use Rattle.std.specs.Prelude.{◌<◌, ◌^◌, ℕ, List}
use Rattle.lift_tree.specs.declared.term.UnaryForm.{UnaryForm}
use Rattle.lift_tree.specs.declared.term.UnaryForm.TheVariants as unary
use Rattle.lift_tree.specs.Tree.{Tree, Unary, Binary, Select, Let, Map, Fold}
use Rattle.lift_tree.specs.Types.{PlainTy}
use Rattle.lift_tree.specs.Annotations.{Annotation, One, Two, Three, type_in}
use Rattle.lift_ir.specs.Types.{IsShort, size}
use Rattle.lift_ir.specs.AtLaunch.{ty_at}

-- the cells of a copy's component, and a slide's step
abbrev pub FormFits : List ℕ → UnaryForm → PlainTy → Type 0
FormFits ys unary.ToPrivate a = size (ty_at ys a) < 2 ^ 31
FormFits ys unary.ToLocal a = size (ty_at ys a) < 2 ^ 31
FormFits ys (unary.Slide s k) a = k < 2 ^ 32
FormFits ys f a = Unit {0}

-- each node's lengths are below 2^31, where the base names have these values
abbrev pub Fits : List ℕ → Tree → Annotation → Type 0
Fits ys (Unary f t) (One a n) = IsShort (ty_at ys a) × FormFits ys f a × Fits ys t n
Fits ys (Binary f t u) (Two a n m) = IsShort (ty_at ys a) × Fits ys t n × Fits ys u m
Fits ys (Select t u w) (Three a n m l) = IsShort (ty_at ys a) × Fits ys t n × Fits ys u m × Fits ys w l
Fits ys (Let v b) (Two a n m) = IsShort (ty_at ys a) × Fits ys v n × Fits ys b m
Fits ys (Map k xs b) (Two a n m) = IsShort (ty_at ys a) × Fits ys xs n × Fits ys b m
Fits ys (Fold k xs z b) (Three a n m l) = IsShort (ty_at ys a) × Fits ys xs n × Fits ys z m × Fits ys b l
Fits ys t n = IsShort (ty_at ys (type_in n))
