-- Programs that are proper, and terms and types whose names are a program's.
use Rattle.std.specs.Prelude.{ℕ, suc, ◌<◌, ◌≤◌, List, [], ◌∷◌, length, map}
use Rattle.size_arith.specs.Ranges.{AreNames}
use Rattle.lift_tree.specs.declared.length.Factor.{Factor}
use Rattle.lift_tree.specs.declared.length.Factor.TheVariants as factor
use Rattle.lift_tree.specs.declared.length.Part.{Part}
use Rattle.lift_tree.specs.declared.layout.Layout as layout
use Rattle.lift_tree.specs.declared.layout.Layout.TheVariants.{Join, Transpose, Split, Reverse, Stride, AsVector, AsScalar}
use Rattle.lift_tree.specs.declared.term.UnaryForm.{UnaryForm}
use Rattle.lift_tree.specs.declared.term.UnaryForm.TheVariants.{Div, Rem, First, Second, Layout, Slide, Pad, ToLocal, ToPrivate, Then}
use Rattle.lift_tree.specs.Tree.{Tree, Variable, Number, Input, Unary, Binary, Select, Let, Map, Fold}
use Rattle.lift_tree.specs.InputTypes as written
use Rattle.lift_tree.specs.InputTypes.{Written}
use Rattle.lift_tree.specs.Programs.{PlainInput, PlainProgram}
use Rattle.lift_tree.specs.WorkedOut.{range_of}
use Rattle.lift_tree.specs.Lists.{Every}

-- a size is one of so many, and a number at least the least
abbrev pub IsNamed : (sizes least : ℕ) → Factor → Type 0
IsNamed s k (factor.Number n) = k ≤ n
IsNamed s k (factor.Size i) = i < s

-- each factor of a product is such a one
abbrev pub AreNamed : (sizes least : ℕ) → List Factor → Type 0
AreNamed s k [] = Unit {0}
AreNamed s k (f ∷ fs) = IsNamed s k f × AreNamed s k fs

-- a length's sizes are of so many
abbrev pub PartsAreNamed : (sizes : ℕ) → List Part → Type 0
PartsAreNamed s [] = Unit {0}
PartsAreNamed s (p ∷ ps) = AreNamed s 0 p.product × PartsAreNamed s ps

-- the sizes in a type's lengths are of so many
abbrev pub TypeIsNamed : (sizes : ℕ) → Written → Type 0
TypeIsNamed s written.Number = Unit {0}
TypeIsNamed s (written.Pair a b) = TypeIsNamed s a × TypeIsNamed s b
TypeIsNamed s (written.Array a n) = TypeIsNamed s a × PartsAreNamed s n

-- the sizes in the inputs' types are of so many
abbrev pub InputsAreNamed : (sizes : ℕ) → List PlainInput → Type 0
InputsAreNamed s [] = Unit {0}
InputsAreNamed s (i ∷ is) = TypeIsNamed s i.ty × InputsAreNamed s is

-- an element type: u32, or a pair of element types
abbrev pub IsElementType : Written → Type 0
IsElementType written.Number = Unit {0}
IsElementType (written.Pair a b) = IsElementType a × IsElementType b
IsElementType (written.Array a n) = ⊥

-- its pairs hold numbers only
abbrev pub HoldsElementTypes : Written → Type 0
HoldsElementTypes written.Number = Unit {0}
HoldsElementTypes (written.Pair a b) = IsElementType a × IsElementType b
HoldsElementTypes (written.Array a n) = HoldsElementTypes a

-- the type of an input: an array, its pairs hold numbers only
abbrev pub IsInputType : Written → Type 0
IsInputType written.Number = ⊥
IsInputType (written.Pair a b) = ⊥
IsInputType (written.Array a n) = HoldsElementTypes a

-- the numbers of split and stride are at least 1
abbrev pub LayoutIsNamed : (sizes : ℕ) → layout.Layout → Type 0
LayoutIsNamed s Join = Unit {0}
LayoutIsNamed s Transpose = Unit {0}
LayoutIsNamed s (Split fs) = AreNamed s 1 fs
LayoutIsNamed s Reverse = Unit {0}
LayoutIsNamed s (Stride fs) = AreNamed s 1 fs
LayoutIsNamed s AsVector = Unit {0}
LayoutIsNamed s AsScalar = Unit {0}

-- the numbers of div, rem, split, stride and slide are at least 1
abbrev pub FormIsNamed : (sizes : ℕ) → UnaryForm → Type 0
FormIsNamed s (Div n) = 1 ≤ n
FormIsNamed s (Rem n) = 1 ≤ n
FormIsNamed s First = Unit {0}
FormIsNamed s Second = Unit {0}
FormIsNamed s (Layout l) = LayoutIsNamed s l
FormIsNamed s (Slide m n) = (1 ≤ m) × (1 ≤ n)
FormIsNamed s (Pad m n) = Unit {0}
FormIsNamed s ToLocal = Unit {0}
FormIsNamed s ToPrivate = Unit {0}
FormIsNamed s Then = Unit {0}

-- each variable has its binder, where there are so many around, and each
-- input and size is one of so many
abbrev pub Belongs : (sizes inputs binders : ℕ) → Tree → Type 0
Belongs s i b (Variable n) = n < b
Belongs s i b (Number n) = Unit {0}
Belongs s i b (Input n) = n < i
Belongs s i b (Unary f t) = FormIsNamed s f × Belongs s i b t
Belongs s i b (Binary f t u) = Belongs s i b t × Belongs s i b u
Belongs s i b (Select t u v) = Belongs s i b t × Belongs s i b u × Belongs s i b v
Belongs s i b (Let t u) = Belongs s i b t × Belongs s i (suc b) u
Belongs s i b (Map k t u) = Belongs s i b t × Belongs s i (suc b) u
Belongs s i b (Fold k t u v) = Belongs s i b t × Belongs s i b u × Belongs s i (suc (suc b)) v

-- at most eight sizes with proper ranges, and inputs of proper types that name these alone
pub record IsProper (p : PlainProgram) : Type 0 where
  pub few : length p.sizes ≤ 8
  pub sizes : AreNames (map range_of p.sizes)
  pub inputs : InputsAreNamed (length p.sizes) p.inputs
  pub types : Every (λ (i : PlainInput). IsInputType i.ty) p.inputs

-- the term names the program's inputs and sizes alone, and its own binders
abbrev pub IsTermOf : PlainProgram → Tree → Type 0
IsTermOf p t = Belongs (length p.sizes) (length p.inputs) 0 t
