-- Which alternative of a form begins with a token.
use Rattle.std.specs.Prelude.{ℕ, ◌+◌, List, [], ◌∷◌, Option, Some, None, Bool, true, false, cond, bytes_eq, nat_le, nat_lt, nat_eq, ◌&&◌, option_map}
use Rattle.readings.specs.Readings.{Form, Mark}
use Rattle.readings.specs.Running.{Table}
use Rattle.lift_tree.specs.declared.length.Factor.{Factor}
use Rattle.lift_tree.specs.declared.length.Factor.TheVariants as factor
use Rattle.lift_tree.specs.declared.length.Sign.{Sign}
use Rattle.lift_tree.specs.declared.length.Sign.TheVariants as sign
use Rattle.lift_tree.specs.declared.term.UnaryForm.{UnaryForm}
use Rattle.lift_tree.specs.declared.term.UnaryForm.TheVariants as unaries
use Rattle.lift_tree.specs.declared.term.BinaryForm.{BinaryForm}
use Rattle.lift_tree.specs.declared.term.BinaryForm.TheVariants as binaries
use Rattle.lift_tree.specs.Tree as trees
use Rattle.lift_reader.specs.declared.word.Word.{Word}
use Rattle.lift_reader.specs.declared.word.Word.TheVariants as word
use Rattle.lift_reader.specs.Words.{spelling}
use Rattle.lift_reader.specs.Meant.{reducer_of, binary_of, unary_of, split_by, stride_by}
use Rattle.lift_reader.specs.Tokens.{Lexeme, AWord, AName, ANumber, ASymbol, Wrong}
use Rattle.lift_reader.specs.Grammar.{Nonterminal, Sizes, Inputs, SizeName, SizeRange, Multiple, From, To, InputName, ArrayType, ElementType, AnyType, LengthFactor, LengthRest, Term, Divisor, First, Second, LetName, MapName, FoldName, FoldSecondName, ReduceOperator, ProductRest, Action, DeclareSize, NumberType, Multiply, EndPart, ArrayOf, Leaf, Make1, Make2, Make3, MakeByProduct, Noted, Item, keyword, opens, closes, comma, semicolon, backslash, term, is_new, size_named, input_named, binder_named, divides, array, pair, part, behind_input, behind_let, behind_map, behind_fold, of_product, marked}

-- whether two tokens are the same
abbrev pub same : Lexeme → Lexeme → Bool
same (AWord a) (AWord b) = bytes_eq (spelling a) (spelling b)
same (AName x) (AName y) = bytes_eq x y
same (ANumber m) (ANumber n) = nat_eq m n
same (ASymbol a) (ASymbol b) = nat_eq a b
same Wrong Wrong = true
same _ _ = false

-- another size, the first input, or the output
abbrev pub sizes_row : Lexeme → Option (List Item)
sizes_row (AWord word.Size) = Some (Form SizeName ∷ [])
sizes_row (AWord word.Input) = Some (Form InputName ∷ [])
sizes_row (AWord word.Output) = Some (term 1 ∷ [])
sizes_row _ = None

-- another input, or the output
abbrev pub inputs_row : Lexeme → Option (List Item)
inputs_row (AWord word.Input) = Some (Form InputName ∷ [])
inputs_row (AWord word.Output) = Some (term 1 ∷ [])
inputs_row _ = None

-- what follows a size's name: the multiple, or where its range starts
abbrev pub range_row : List ℕ → Lexeme → Option (List Item)
range_row x (AWord word.Multiple) = Some (Form (Multiple x) ∷ [])
range_row x (AWord word.From) = Some (Form (From x 1) ∷ [])
range_row x _ = None

-- an element type, with d brackets open once it begins
abbrev pub element_row : ℕ → Lexeme → Option (List Item)
element_row d (AWord word.U32) = Some (Mark NumberType ∷ [])
element_row d (ASymbol b) = cond (nat_eq b 40 && nat_le d 64) (Some (pair d)) None
element_row d _ = None

-- an array type, with d brackets open once it begins
abbrev pub array_row : ℕ → Lexeme → Option (List Item)
array_row d (ASymbol b) = cond (nat_eq b 91 && nat_le d 64) (Some (array d)) None
array_row d _ = None

-- any type, with d brackets open once it begins
abbrev pub type_row : ℕ → Lexeme → Option (List Item)
type_row d (AWord word.U32) = Some (Mark NumberType ∷ [])
type_row d (ASymbol b) =
    cond (nat_le d 64)
    (cond (nat_eq b 91) (Some (array d)) (cond (nat_eq b 40) (Some (pair d)) None)) None
type_row d _ = None

-- what follows a factor of a length, in a part of this sign
abbrev pub rest_row : Sign → Lexeme → Option (List Item)
rest_row s (ASymbol b) =
    cond (nat_eq b 42) (Some (Form (LengthFactor 0) ∷ Form (LengthRest s) ∷ []))
    (cond (nat_eq b 43) (Some (part s sign.Plus))
    (cond (nat_eq b 45) (Some (part s sign.Minus))
    (cond (nat_eq b 93) (Some (Mark (EndPart s) ∷ Mark ArrayOf ∷ [])) None)))
rest_row s _ = None

-- what follows a factor of a split's or stride's product
abbrev pub product_row : (List Factor → UnaryForm) → ℕ → Lexeme → Option (List Item)
product_row f d (ASymbol b) =
    cond (nat_eq b 42) (Some (Form (LengthFactor 1) ∷ Form (ProductRest f d) ∷ []))
    (cond (nat_eq b 44) (Some (term d ∷ closes ∷ Mark (MakeByProduct f) ∷ [])) None)
product_row f d _ = None

-- the first of two
abbrev pub or_else : {A : Type 0} → Option A → Option A → Option A
or_else None o = o
or_else (Some a) o = Some a

-- the term that a name stands for: the nearest binder, or else the input
abbrev pub named : Noted → List ℕ → Option trees.Tree
named n x =
    or_else (option_map trees.Variable (binder_named n x))
    (option_map trees.Input (input_named n x))

-- the alternative of a term that begins with a name
abbrev pub variable_row : Noted → List ℕ → Option (List Item)
variable_row n x = option_map (λ t. Mark (Leaf t) ∷ []) (named n x)

-- a factor that is a declared size
abbrev pub size_row : Noted → List ℕ → Option (List Item)
size_row n x = option_map (λ i. Mark (Multiply (factor.Size i)) ∷ []) (size_named n x)

-- two terms in parentheses
abbrev pub two_terms : ℕ → BinaryForm → List Item
two_terms d f =
    opens ∷ term (d + 1) ∷ comma ∷ term (d + 1) ∷ closes ∷ Mark (Make2 (trees.Binary f)) ∷ []

-- one term in parentheses
abbrev pub one_term : ℕ → UnaryForm → List Item
one_term d f = opens ∷ term (d + 1) ∷ closes ∷ Mark (Make1 (trees.Unary f)) ∷ []

-- what follows any other word that begins a term
abbrev pub special : ℕ → Word → Option (List Item)
special d word.Div = Some (opens ∷ term (d + 1) ∷ comma ∷ Form (Divisor unaries.Div) ∷ [])
special d word.Rem = Some (opens ∷ term (d + 1) ∷ comma ∷ Form (Divisor unaries.Rem) ∷ [])
special d word.Select =
    Some
    (opens ∷ term (d + 1) ∷ comma ∷ term (d + 1) ∷ comma ∷ term (d + 1) ∷ closes
    ∷ Mark (Make3 trees.Select) ∷ [])
special d word.Let = Some (Form (LetName (d + 1)) ∷ [])
special d word.Map = Some (opens ∷ backslash ∷ Form (MapName (d + 1)) ∷ [])
special d word.Reduce = Some (opens ∷ Form (ReduceOperator (d + 1)) ∷ [])
special d word.Fold = Some (opens ∷ backslash ∷ Form (FoldName (d + 1)) ∷ [])
special d word.Split = Some (of_product split_by d)
special d word.Stride = Some (of_product stride_by d)
special d word.Slide = Some (opens ∷ Form (First 1 unaries.Slide (d + 1)) ∷ [])
special d word.Pad = Some (opens ∷ Form (First 0 unaries.Pad (d + 1)) ∷ [])
special d _ = None

-- what follows a word that begins a term
abbrev pub compound : ℕ → Word → Option (List Item)
compound d w =
    or_else (option_map (two_terms d) (binary_of w))
    (or_else (option_map (one_term d) (unary_of w)) (special d w))

-- a term, with d terms open, itself one of them
abbrev pub term_row : Noted → ℕ → Lexeme → Option (List Item)
term_row n d (ANumber v) = Some (Mark (Leaf (trees.Number v)) ∷ [])
term_row n d (AName x) = variable_row n x
term_row n d (AWord w) = cond (nat_lt d 256) (compound d w) None
term_row n d _ = None

-- what follows a name
abbrev pub name_row : Noted → Nonterminal → List ℕ → Option (List Item)
name_row n SizeName x = cond (is_new n x) (Some (Form (SizeRange x) ∷ [])) None
name_row n InputName x = cond (is_new n x) (Some (behind_input x)) None
name_row n (LetName d) x = Some (behind_let d x)
name_row n (MapName d) x = Some (behind_map d x)
name_row n (FoldName d) x = Some (Form (FoldSecondName d x) ∷ [])
name_row n (FoldSecondName d x) y = Some (behind_fold d x y)
name_row n (LengthFactor least) x = size_row n x
name_row n _ x = None

-- what follows a number
abbrev pub number_row : Nonterminal → ℕ → Option (List Item)
number_row (Multiple x) m =
    cond (nat_le 1 m && nat_le m 1048576) (Some (keyword word.From ∷ Form (From x m) ∷ [])) None
number_row (From x m) a =
    cond (nat_le 1 a && divides m a) (Some (keyword word.To ∷ Form (To x m a) ∷ [])) None
number_row (To x m a) b =
    cond (nat_le a b && (nat_le b 1048576 && divides m b))
    (Some
    (semicolon ∷ Mark (DeclareSize (record { name = x; multiple = m; from = a; to = b }))
    ∷ Form Sizes ∷ [])) None
number_row (LengthFactor least) v =
    cond (nat_le least v) (Some (Mark (Multiply (factor.Number v)) ∷ [])) None
number_row (Divisor f) v =
    cond (nat_le 1 v) (Some (closes ∷ Mark (Make1 (trees.Unary (f v))) ∷ [])) None
number_row (First least f d) v =
    cond (nat_le least v) (Some (comma ∷ Form (Second least (f v) d) ∷ [])) None
number_row (Second least f d) v =
    cond (nat_le least v)
    (Some (comma ∷ term d ∷ closes ∷ Mark (Make1 (trees.Unary (f v))) ∷ [])) None
number_row _ v = None

-- a reduction's operator, and what follows it
abbrev pub operator_row : ℕ → Lexeme → Option (List Item)
operator_row d (AWord w) =
    option_map
    (λ r. comma ∷ term d ∷ comma ∷ term d ∷ closes
    ∷ Mark (Make2 (λ start array. trees.Binary (binaries.Reduce r) array start)) ∷ [])
    (reducer_of w)
operator_row d _ = None

-- of the forms that begin with a name or a number of a kind of their own
abbrev pub other_row : Noted → Nonterminal → Lexeme → Option (List Item)
other_row n f (AName x) = name_row n f x
other_row n f (ANumber v) = number_row f v
other_row n f _ = None

-- the alternative of a form that begins with a token
abbrev pub row : Noted → Nonterminal → Lexeme → Option (List Item)
row n Sizes t = sizes_row t
row n Inputs t = inputs_row t
row n (SizeRange x) t = range_row x t
row n (ArrayType d) t = array_row d t
row n (ElementType d) t = element_row d t
row n (AnyType d) t = type_row d t
row n (LengthRest s) t = rest_row s t
row n (ProductRest f d) t = product_row f d t
row n (Term d) t = term_row n d t
row n (ReduceOperator d) t = operator_row d t
row n f t = other_row n f t

-- the table of the program grammar
abbrev pub table : Table Lexeme Nonterminal Action Noted
table = record { same = same; row = row; marked = marked }
