-- Terms whose forms' numbers are words: what code's terms are.
use Rattle.std.specs.Prelude.{◌<◌, ◌^◌}
use Rattle.lift_tree.specs.declared.term.UnaryForm.{UnaryForm}
use Rattle.lift_tree.specs.declared.term.UnaryForm.TheVariants.{Div, Rem, First, Second, Layout, Slide, Pad, ToLocal, ToPrivate, Then}
use Rattle.lift_tree.specs.Tree.{Tree, Variable, Number, Input, Unary, Binary, Select, Let, Map, Fold}

-- a divisor, a slide's step, and the number before a pad
abbrev pub FormHasWords : UnaryForm → Type 0
FormHasWords (Div n) = n < 2 ^ 32
FormHasWords (Rem n) = n < 2 ^ 32
FormHasWords First = Unit {0}
FormHasWords Second = Unit {0}
FormHasWords (Layout l) = Unit {0}
FormHasWords (Slide s t) = t < 2 ^ 32
FormHasWords (Pad l r) = l < 2 ^ 32
FormHasWords ToLocal = Unit {0}
FormHasWords ToPrivate = Unit {0}
FormHasWords Then = Unit {0}

-- each form's number is a word
abbrev pub FormsHaveWords : Tree → Type 0
FormsHaveWords (Variable v) = Unit {0}
FormsHaveWords (Number n) = Unit {0}
FormsHaveWords (Input i) = Unit {0}
FormsHaveWords (Unary f t) = FormHasWords f × FormsHaveWords t
FormsHaveWords (Binary f t u) = FormsHaveWords t × FormsHaveWords u
FormsHaveWords (Select t u v) = FormsHaveWords t × FormsHaveWords u × FormsHaveWords v
FormsHaveWords (Let v b) = FormsHaveWords v × FormsHaveWords b
FormsHaveWords (Map k xs b) = FormsHaveWords xs × FormsHaveWords b
FormsHaveWords (Fold k xs s b) = FormsHaveWords xs × FormsHaveWords s × FormsHaveWords b
