-- What a typed term has to be, so that what it is lowered to is typed and can be printed.
use Rattle.std.specs.Prelude.{◌≡◌, ◌<◌, ◌^◌, ◌⊎◌, ℕ, true, false, List, []}
use Rattle.lift_tree.specs.declared.term.UnaryForm.{UnaryForm}
use Rattle.lift_tree.specs.declared.term.UnaryForm.TheVariants as unary
use Rattle.lift_tree.specs.declared.term.BinaryForm.{BinaryForm}
use Rattle.lift_tree.specs.declared.term.BinaryForm.TheVariants as binary
use Rattle.lift_tree.specs.Tree as tree
use Rattle.lift_tree.specs.Tree.{Tree}
use Rattle.lift_tree.specs.Types as types
use Rattle.lift_tree.specs.Types.{PlainTy}
use Rattle.lift_tree.specs.Annotations.{Annotation, Leaf, One, Two, Three, type_in}
use Rattle.lift_ir.specs.Types.{size, IsFlat, IsShort}
use Rattle.lift_ir.specs.AtLaunch.{length_at, ty_at, outer_of}
use Rattle.lift_ir.specs.Lowering.{Place, Written, Argument, Element, is_element, operand_place, binary_place, value_place, body_place}

-- what is written is an element
abbrev pub SuitsPlace : Place → PlainTy → Type 0
SuitsPlace Written a = types.IsElement a
SuitsPlace _ a = Unit {0}

-- a form of type a
abbrev pub IsLowerableForm : (bases : List ℕ) → Place → UnaryForm → PlainTy → Type 0
IsLowerableForm bases p unary.First a = SuitsPlace p a
IsLowerableForm bases p unary.Second a = SuitsPlace p a
IsLowerableForm bases p unary.ToPrivate a = IsFlat (ty_at [] a) × (ty_at bases a ≡ ty_at [] a)
IsLowerableForm bases p unary.ToLocal a = IsFlat (ty_at [] a) × (ty_at bases a ≡ ty_at [] a)
IsLowerableForm bases p unary.Then a = ⊥
IsLowerableForm bases p (unary.Slide s t) a = t < 2 ^ 32
IsLowerableForm bases p _ a = Unit {0}

-- all forms but reduce, of which nobody said yet who does its work
abbrev pub IsLowerableBinary : BinaryForm → Type 0
IsLowerableBinary (binary.Reduce r) = ⊥
IsLowerableBinary _ = Unit {0}

-- at the launch the lengths of the type are below 2^31
abbrev pub IsShortAt : (bases : List ℕ) → PlainTy → Type 0
IsShortAt bases a = IsShort (ty_at bases a)

-- a typed term in this place, at a launch where the base names have these values
abbrev pub IsLowerable : (bases : List ℕ) → Place → Tree → Annotation → Type 0
IsLowerable bases p (tree.Variable v) n = SuitsPlace p (type_in n)
IsLowerable bases p (tree.Number c) n = Unit {0}
IsLowerable bases p (tree.Input i) n = Unit {0}
IsLowerable bases p (tree.Unary f t) (One a n) =
    IsShortAt bases a × IsShortAt bases (type_in n) × IsLowerableForm bases p f a
    × IsLowerable bases (operand_place f p) t n
IsLowerable bases p (tree.Binary f t u) (Two a n m) =
    IsLowerableBinary f × IsLowerable bases (binary_place f) t n
    × IsLowerable bases (binary_place f) u m
IsLowerable bases p (tree.Select t u v) (Three a n m k) =
    IsLowerable bases Element t n × IsLowerable bases Element u m × IsLowerable bases Element v k
IsLowerable bases p (tree.Let v b) (Two a n m) =
    IsLowerable bases (value_place n) v n × IsLowerable bases (body_place p a) b m
IsLowerable bases p (tree.Map k xs b) (Two a n m) =
    (length_at bases (outer_of (type_in n)) < 2 ^ 31) × IsLowerable bases Argument xs n
    × IsLowerable bases Written b m
IsLowerable bases p (tree.Fold k xs s b) (Three a n m l) =
    (length_at bases (outer_of (type_in n)) < 2 ^ 31) × IsLowerable bases Argument xs n
    × IsLowerable bases Element s m × IsLowerable bases Element b l
IsLowerable bases p _ n = Unit {0}

-- an element term
abbrev pub IsElementTerm : Tree → Annotation → Type 0
IsElementTerm (tree.Variable v) (Leaf a) = Unit {0}
IsElementTerm (tree.Number c) (Leaf a) = Unit {0}
IsElementTerm (tree.Unary (unary.Div m) t) (One a n) = IsElementTerm t n
IsElementTerm (tree.Unary (unary.Rem m) t) (One a n) = IsElementTerm t n
IsElementTerm (tree.Unary unary.First t) (One a n) = IsElementTerm t n
IsElementTerm (tree.Unary unary.Second t) (One a n) = IsElementTerm t n
IsElementTerm (tree.Binary (binary.Operator o) t u) (Two a n m) =
    IsElementTerm t n × IsElementTerm u m
IsElementTerm (tree.Binary binary.Pair t u) (Two a n m) = IsElementTerm t n × IsElementTerm u m
IsElementTerm (tree.Select t u v) (Three a n m k) =
    IsElementTerm t n × IsElementTerm u m × IsElementTerm v k
IsElementTerm (tree.Let v b) (Two a n m) =
    (is_element (type_in n) ≡ true) × IsElementTerm v n × IsElementTerm b m
IsElementTerm _ n = ⊥

-- arrays alone, and pairs of these
abbrev pub HoldsNoScalar : PlainTy → Type 0
HoldsNoScalar types.U32 = ⊥
HoldsNoScalar types.U32x4 = ⊥
HoldsNoScalar (types.PairOf a b) = HoldsNoScalar a × HoldsNoScalar b
HoldsNoScalar (types.ArrayOf a n) = Unit {0}

-- a term in writing position, or an argument
abbrev pub IsStaged : Place → Tree → Annotation → Type 0
IsStaged Element t n = IsElementTerm t n
IsStaged Written (tree.Variable v) (Leaf a) = Unit {0}
IsStaged Argument (tree.Variable v) (Leaf a) = Unit {0}
IsStaged Argument (tree.Input i) (Leaf a) = HoldsNoScalar a
IsStaged Written (tree.Number c) (Leaf a) = Unit {0}
IsStaged Written (tree.Unary (unary.Div m) t) (One a n) = IsElementTerm t n
IsStaged Written (tree.Unary (unary.Rem m) t) (One a n) = IsElementTerm t n
IsStaged Written (tree.Unary unary.First t) (One a n) = IsElementTerm t n
IsStaged Written (tree.Unary unary.Second t) (One a n) = IsElementTerm t n
IsStaged Argument (tree.Unary unary.First t) (One a n) = IsStaged Argument t n
IsStaged Argument (tree.Unary unary.Second t) (One a n) = IsStaged Argument t n
IsStaged Argument (tree.Unary unary.ToLocal t) (One a n) =
    HoldsNoScalar a × (size (ty_at [] a) < 2 ^ 31) × IsShort (ty_at [] a) × IsStaged Written t n
IsStaged Argument (tree.Unary unary.ToPrivate t) (One a n) =
    HoldsNoScalar a × (size (ty_at [] a) < 2 ^ 31) × IsShort (ty_at [] a) × IsStaged Written t n
IsStaged p (tree.Unary (unary.Layout l) t) (One a n) = IsStaged p t n
IsStaged p (tree.Unary (unary.Slide s k) t) (One a n) = IsStaged p t n
IsStaged p (tree.Unary (unary.Pad s k) t) (One a n) = IsStaged p t n
IsStaged Written (tree.Binary (binary.Operator o) t u) (Two a n m) =
    IsElementTerm t n × IsElementTerm u m
IsStaged Written (tree.Binary binary.Pair t u) (Two a n m) = IsElementTerm t n × IsElementTerm u m
IsStaged Argument (tree.Binary binary.Zip t u) (Two a n m) =
    IsStaged Argument t n × IsStaged Argument u m
IsStaged Written (tree.Select t u v) (Three a n m k) =
    IsElementTerm t n × IsElementTerm u m × IsElementTerm v k
IsStaged Written (tree.Let v b) (Two a n m) =
    ((is_element a ≡ true) × (is_element (type_in n) ≡ true) × IsElementTerm v n
    × IsElementTerm b m)
    ⊎
    ((is_element a ≡ false) × (is_element (type_in n) ≡ true) × IsElementTerm v n
    × IsStaged Written b m)
    ⊎
    ((is_element a ≡ false) × (is_element (type_in n) ≡ false) × IsStaged Argument v n
    × IsStaged Written b m)
IsStaged Argument (tree.Let v b) (Two a n m) =
    (is_element (type_in n) ≡ false) × IsStaged Argument v n × IsStaged Argument b m
IsStaged Written (tree.Map k xs b) (Two a n m) = IsStaged Argument xs n × IsStaged Written b m
IsStaged Written (tree.Fold k xs s b) (Three a n m l) =
    IsStaged Argument xs n × IsElementTerm s m × IsElementTerm b l
IsStaged _ _ _ = ⊥
