-- How many layouts stand one on another over a buffer.
use Rattle.std.specs.Prelude.{ℕ, ◌+◌, min, max, Bool, true, false, ◌&&◌, ◌||◌, List, [], ◌∷◌, get_or, if◌then◌else◌}
use Rattle.lift_tree.specs.declared.term.UnaryForm.{UnaryForm}
use Rattle.lift_tree.specs.declared.term.UnaryForm.TheVariants.{Div, Rem, First, Second, Layout, Slide, Pad, ToLocal, ToPrivate, Then}
use Rattle.lift_tree.specs.declared.term.BinaryForm.{BinaryForm}
use Rattle.lift_tree.specs.declared.term.BinaryForm.TheVariants.{Operator, Pair, Zip, Reduce}
use Rattle.lift_tree.specs.Tree.{Tree, Variable, Unary, Binary, Select, Let, Map, Fold}
use Rattle.lift_tree.specs.Types.{PlainTy, is_element}
use Rattle.lift_tree.specs.Annotations.{Annotation, One, Two, Three}
use Rattle.buffer_allocation.specs.declared.layouts.Position.{Position}
use Rattle.buffer_allocation.specs.declared.layouts.Position.TheVariants.{Written, Argument, Element}

-- one more; a count stands still at 2^64 - 1
abbrev pub raised : ℕ → ℕ
raised h = min (h + 1) 18446744073709551615

-- A form over a buffer at this height: layouts, first and second stand on it, a copy is a buffer of
-- its own, and what is left makes elements.
abbrev pub on_form : UnaryForm → ℕ → ℕ
on_form (Div n) h = 0
on_form (Rem n) h = 0
on_form First h = raised h
on_form Second h = raised h
on_form (Layout l) h = raised h
on_form (Slide s t) h = raised h
on_form (Pad l r) h = raised h
on_form ToLocal h = 0
on_form ToPrivate h = 0
on_form Then h = 0

-- A form of two parts: a zip stands on the higher one, and what is left makes elements.
abbrev pub on_both : BinaryForm → ℕ → ℕ → ℕ
on_both (Operator o) h k = 0
on_both Pair h k = 0
on_both Zip h k = raised (max h k)
on_both (Reduce r) h k = 0

-- The layouts that stand one on another over a buffer in an argument, where binders stand at these
-- heights, the nearest first. In an element term none is counted.
abbrev pub height_of : List ℕ → Tree → Annotation → ℕ
height_of g (Variable v) n = get_or g v 0
height_of g (Unary f t) (One a n) = if is_element a then 0 else on_form f (height_of g t n)
height_of g (Binary f t u) (Two a n m) = on_both f (height_of g t n) (height_of g u m)
height_of g (Let v b) (Two a n m) = height_of (height_of g v n ∷ g) b m
height_of g t n = 0

-- the layouts through which writing goes; asVector stands in writing position in no legal nest
abbrev pub is_written_through : UnaryForm → Bool
is_written_through (Div n) = false
is_written_through (Rem n) = false
is_written_through First = false
is_written_through Second = false
is_written_through (Layout l) = true
is_written_through (Slide s t) = false
is_written_through (Pad l r) = false
is_written_through ToLocal = false
is_written_through ToPrivate = false
is_written_through Then = false

-- a copy to local or to private memory
abbrev pub is_copy : UnaryForm → Bool
is_copy (Div n) = false
is_copy (Rem n) = false
is_copy First = false
is_copy Second = false
is_copy (Layout l) = false
is_copy (Slide s t) = false
is_copy (Pad l r) = false
is_copy ToLocal = true
is_copy ToPrivate = true
is_copy Then = false

-- first and second
abbrev pub is_projection : UnaryForm → Bool
is_projection (Div n) = false
is_projection (Rem n) = false
is_projection First = true
is_projection Second = true
is_projection (Layout l) = false
is_projection (Slide s t) = false
is_projection (Pad l r) = false
is_projection ToLocal = false
is_projection ToPrivate = false
is_projection Then = false

-- how many layouts stand above what is computed here
abbrev pub above : Position → ℕ
above (Written h) = h
above Argument = 0
above Element = 0

-- in an element term
abbrev pub is_in_element : Position → Bool
is_in_element (Written h) = false
is_in_element Argument = false
is_in_element Element = true

-- below a form: one layout more where writing goes through it, and else an argument
abbrev pub written_below : Position → (through : Bool) → Position
written_below (Written h) true = Written (raised h)
written_below _ _ = Argument

-- what stands at a form: layouts through which writing goes are counted above, all others below
abbrev pub read_height : Position → UnaryForm → ℕ → ℕ
read_height (Written h) f k = if is_written_through f then 0 else max h k
read_height _ f k = k

-- in an element term first and second count nothing
abbrev pub at_form : Position → UnaryForm → PlainTy → ℕ → ℕ
at_form p f a h =
    if is_copy f
    || (is_projection f && (is_in_element p || is_element a)) then above p else read_height p f h

-- the position of what is below a form of this type: an element's operands are in the element term;
-- writing goes through some layouts; all else is read
abbrev pub below : Position → UnaryForm → PlainTy → Position
below p f a =
    if is_in_element p || is_element a then Element else written_below p (is_written_through f)

-- a zip's parts are read where it is; all other forms of two parts are elements
abbrev pub below_both : Position → PlainTy → Position
below_both p a = if is_in_element p || is_element a then Element else Argument

-- a let's body
abbrev pub let_below : Position → PlainTy → Position
let_below p a = if is_element a then Element else p

-- The greatest number of layouts one on another in a term and in the copies in it. What is written
-- is counted where something is computed: at maps, at folds and at elements.
abbrev pub most : Position → List ℕ → Tree → Annotation → ℕ
most p g (Variable v) n = max (above p) (get_or g v 0)
most p g (Unary f t) (One a n) =
    max (at_form p f a (height_of g (Unary f t) (One a n)))
    (most (if is_copy f then Written 0 else below p f a) g t n)
most p g (Binary f t u) (Two a n m) =
    max (max (above p) (height_of g (Binary f t u) (Two a n m)))
    (max (most (below_both p a) g t n) (most (below_both p a) g u m))
most p g (Select t u v) (Three a n m k) =
    max (above p) (max (most Element g t n) (max (most Element g u m) (most Element g v k)))
most p g (Let v b) (Two a n m) =
    max (if is_element a then above p else 0)
    (max (most Argument g v n) (most (let_below p a) (height_of g v n ∷ g) b m))
most p g (Map h xs b) (Two a n m) =
    max (above p) (max (most Argument g xs n) (most (Written (above p)) (height_of g xs n ∷ g) b m))
most p g (Fold h xs s b) (Three a n m k) =
    max (above p)
    (max (most Argument g xs n)
    (max (most Element g s m) (most Element (height_of g xs n ∷ 0 ∷ g) b k)))
most p g t n = above p

-- the greatest number of layouts that stand one on another over a buffer, in reading or in writing
abbrev pub layouts : Tree → Annotation → ℕ
layouts t n = most (Written 0) [] t n
