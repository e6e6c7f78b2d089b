-- The grammar of programs.
use Rattle.std.specs.Prelude.{◌≡◌, ℕ, ◌+◌, ◌<◌, ◌≤◌, ◌%◌, List, [], ◌∷◌, ◌++◌, Option, Some, None, Bool, true, is_none, ◌&&◌, ◌==◌, nat_lt, bytes_eq, position}
use Rattle.readings.specs.Readings.{Owed, Token, Form, Mark, Grammar, Reads}
use Rattle.scalar_ops.specs.declared.op.Reducer.{Reducer}
use Rattle.lift_tree.specs.declared.length.Factor.{Factor}
use Rattle.lift_tree.specs.declared.length.Factor.TheVariants as factor
use Rattle.lift_tree.specs.declared.length.Sign.{Sign}
use Rattle.lift_tree.specs.declared.length.Sign.TheVariants as sign
use Rattle.lift_tree.specs.declared.length.Part.{Part}
use Rattle.lift_tree.specs.declared.program.Size.{Size}
use Rattle.lift_tree.specs.declared.term.UnaryForm.{UnaryForm}
use Rattle.lift_tree.specs.declared.term.UnaryForm.TheVariants as unaries
use Rattle.lift_tree.specs.declared.term.BinaryForm.{BinaryForm}
use Rattle.lift_tree.specs.declared.term.BinaryForm.TheVariants as binaries
use Rattle.lift_tree.specs.declared.term.MapKind.TheVariants as maps
use Rattle.lift_tree.specs.declared.term.FoldKind.TheVariants as folds
use Rattle.lift_tree.specs.InputTypes as written
use Rattle.lift_tree.specs.Tree as trees
use Rattle.lift_tree.specs.Programs.{PlainInput, PlainProgram}
use Rattle.lift_reader.specs.declared.word.Word.{Word}
use Rattle.lift_reader.specs.declared.word.Word.TheVariants as word
use Rattle.lift_reader.specs.Meant.{reducer_of, binary_of, unary_of, split_by, stride_by}
use Rattle.lift_reader.specs.Tokens.{Lexeme, AWord, AName, ANumber, ASymbol}

-- ---- what is owed

-- A type at a depth has so many brackets open once it begins; a term at a depth has so many
-- terms open, itself one of them. What follows a name or a number of a form is a form of its
-- own, which knows what was read.
pub data Nonterminal : Type 0 where
  Sizes : Nonterminal
  Inputs : Nonterminal
  SizeName : Nonterminal
  SizeRange : (name : List ℕ) → Nonterminal
  Multiple : (name : List ℕ) → Nonterminal
  From : (name : List ℕ) → (multiple : ℕ) → Nonterminal
  To : (name : List ℕ) → (multiple from : ℕ) → Nonterminal
  InputName : Nonterminal
  ArrayType : (depth : ℕ) → Nonterminal
  ElementType : (depth : ℕ) → Nonterminal
  AnyType : (depth : ℕ) → Nonterminal
  LengthFactor : (least : ℕ) → Nonterminal
  LengthRest : Sign → Nonterminal
  Term : (depth : ℕ) → Nonterminal
  Divisor : (ℕ → UnaryForm) → Nonterminal
  First : (least : ℕ) → (ℕ → ℕ → UnaryForm) → (depth : ℕ) → Nonterminal
  Second : (least : ℕ) → (ℕ → UnaryForm) → (depth : ℕ) → Nonterminal
  LetName : (depth : ℕ) → Nonterminal
  MapName : (depth : ℕ) → Nonterminal
  FoldName : (depth : ℕ) → Nonterminal
  FoldSecondName : (depth : ℕ) → (first : List ℕ) → Nonterminal
  ReduceOperator : (depth : ℕ) → Nonterminal
  ProductRest : (List Factor → UnaryForm) → (depth : ℕ) → Nonterminal

-- What a mark does with the notes.
pub data Action : Type 0 where
  DeclareSize : Size → Action
  DeclareInput : (name : List ℕ) → Action
  NumberType : Action
  PairType : Action
  ArrayOf : Action
  BeginProduct : Action
  Multiply : Factor → Action
  EndPart : Sign → Action
  Leaf : trees.Tree → Action
  Bind : (name : List ℕ) → Action
  Unbind : Action
  Make1 : (trees.Tree → trees.Tree) → Action
  Make2 : (trees.Tree → trees.Tree → trees.Tree) → Action
  Make3 : (trees.Tree → trees.Tree → trees.Tree → trees.Tree) → Action
  MakeByProduct : (List Factor → UnaryForm) → Action
  Finish : Action

-- The sizes and inputs declared, in order; the binders in scope, the nearest first; the types, the
-- products and the terms made so far, the last first; and the parts of a length so far, in order.
pub record Noted : Type 0 where
  pub sizes : List Size
  pub inputs : List PlainInput
  pub scope : List (List ℕ)
  pub types : List written.Written
  pub products : List (List Factor)
  pub parts : List Part
  pub made : List trees.Tree

-- what a program may owe: a token, a form or a mark
abbrev pub Item : Type 0
Item = Owed Lexeme Nonterminal Action

-- a reserved word is owed
abbrev pub keyword : Word → Item
keyword w = Token (AWord w)

-- the symbol of this byte is owed
abbrev pub symbol : ℕ → Item
symbol b = Token (ASymbol b)

-- ( is owed
abbrev pub opens : Item
opens = symbol 40

-- ) is owed
abbrev pub closes : Item
closes = symbol 41

-- [ is owed
abbrev pub begins : Item
begins = symbol 91

-- ] is owed
abbrev pub ends : Item
ends = symbol 93

-- , is owed
abbrev pub comma : Item
comma = symbol 44

-- ; is owed
abbrev pub semicolon : Item
semicolon = symbol 59

-- : is owed
abbrev pub colon : Item
colon = symbol 58

-- = is owed
abbrev pub equals : Item
equals = symbol 61

-- . is owed
abbrev pub dot : Item
dot = symbol 46

-- \ is owed
abbrev pub backslash : Item
backslash = symbol 92

-- a term is owed, with d terms open, itself one of them
abbrev pub term : ℕ → Item
term d = Form (Term d)

-- ---- conditions

-- the number of the declared size of the name
abbrev pub size_named : Noted → List ℕ → Option ℕ
size_named n x = position (λ s. bytes_eq s.name x) n.sizes

-- the number of the declared input of the name
abbrev pub input_named : Noted → List ℕ → Option ℕ
input_named n x = position (λ i. bytes_eq i.name x) n.inputs

-- no size and no input has the name
abbrev pub is_new : Noted → List ℕ → Bool
is_new n x = is_none (size_named n x) && is_none (input_named n x)

-- the nearest binder of the name
abbrev pub binder_named : Noted → List ℕ → Option ℕ
binder_named n x = position (λ y. bytes_eq y x) n.scope

-- m isn't 0, and n is a multiple of it
abbrev pub divides : ℕ → ℕ → Bool
divides m n = nat_lt 0 m && (n % m == 0)

-- ---- the alternatives

-- [ type ; len ], without its [
abbrev pub array : ℕ → List Item
array d =
    Form (AnyType (d + 1)) ∷ semicolon ∷ Mark BeginProduct ∷ Form (LengthFactor 0)
    ∷ Form (LengthRest sign.Plus) ∷ []

-- ( elem , elem ), without its (
abbrev pub pair : ℕ → List Item
pair d =
    Form (ElementType (d + 1)) ∷ comma ∷ Form (ElementType (d + 1)) ∷ closes ∷ Mark PairType ∷ []

-- a further part of a length
abbrev pub part : (done next : Sign) → List Item
part done next =
    Mark (EndPart done) ∷ Mark BeginProduct ∷ Form (LengthFactor 0) ∷ Form (LengthRest next) ∷ []

-- what follows the name of an input
abbrev pub behind_input : List ℕ → List Item
behind_input x = colon ∷ Form (ArrayType 1) ∷ semicolon ∷ Mark (DeclareInput x) ∷ Form Inputs ∷ []

-- what follows the names that a let, a map and a fold bind
abbrev pub behind_let : ℕ → List ℕ → List Item
behind_let d x =
    equals ∷ term d ∷ keyword word.In ∷ Mark (Bind x) ∷ term d ∷ Mark Unbind
    ∷ Mark (Make2 trees.Let) ∷ []

-- what follows the name that a map binds
abbrev pub behind_map : ℕ → List ℕ → List Item
behind_map d x =
    dot ∷ Mark (Bind x) ∷ term d ∷ Mark Unbind ∷ comma ∷ term d ∷ closes
    ∷ Mark (Make2 (λ body array. trees.Map maps.Plain array body)) ∷ []

-- what follows the two names that a fold binds
abbrev pub behind_fold : ℕ → (first second : List ℕ) → List Item
behind_fold d x y =
    dot ∷ Mark (Bind x) ∷ Mark (Bind y) ∷ term d ∷ Mark Unbind ∷ Mark Unbind
    ∷ comma ∷ term d ∷ comma ∷ term d ∷ closes
    ∷ Mark (Make3 (λ body start array. trees.Fold folds.Plain array start body)) ∷ []

-- what follows split or stride
abbrev pub of_product : (List Factor → UnaryForm) → ℕ → List Item
of_product f d =
    opens ∷ Mark BeginProduct ∷ Form (LengthFactor 1) ∷ Form (ProductRest f (d + 1)) ∷ []

-- With the notes n, this form has an alternative that is this token and then this.
pub data Gives : Noted → Nonterminal → Lexeme → List Item → Type 0 where
  -- { size } { input } "output" term
  size : {n : Noted} → Gives n Sizes (AWord word.Size) (Form SizeName ∷ [])
  first_input : {n : Noted} → Gives n Sizes (AWord word.Input) (Form InputName ∷ [])
  no_input : {n : Noted} → Gives n Sizes (AWord word.Output) (term 1 ∷ [])
  input : {n : Noted} → Gives n Inputs (AWord word.Input) (Form InputName ∷ [])
  output : {n : Noted} → Gives n Inputs (AWord word.Output) (term 1 ∷ [])
  -- "size" NAME [ "multiple" NUMBER ] "from" NUMBER "to" NUMBER ";"
  size_name : {n : Noted} → {x : List ℕ} → is_new n x ≡ true
      → Gives n SizeName (AName x) (Form (SizeRange x) ∷ [])
  multiple : {n : Noted} → {x : List ℕ}
      → Gives n (SizeRange x) (AWord word.Multiple) (Form (Multiple x) ∷ [])
  no_multiple : {n : Noted} → {x : List ℕ}
      → Gives n (SizeRange x) (AWord word.From) (Form (From x 1) ∷ [])
  multiple_number : {n : Noted} → {x : List ℕ} → {m : ℕ} → 1 ≤ m → m ≤ 1048576
      → Gives n (Multiple x) (ANumber m) (keyword word.From ∷ Form (From x m) ∷ [])
  from : {n : Noted} → {x : List ℕ} → {m a : ℕ} → 1 ≤ a → divides m a ≡ true
      → Gives n (From x m) (ANumber a) (keyword word.To ∷ Form (To x m a) ∷ [])
  to : {n : Noted} → {x : List ℕ} → {m a b : ℕ} → a ≤ b → b ≤ 1048576 → divides m b ≡ true
      → Gives n (To x m a) (ANumber b)
      (semicolon ∷ Mark (DeclareSize (record { name = x; multiple = m; from = a; to = b }))
      ∷ Form Sizes ∷ [])
  -- "input" NAME ":" array ";"
  input_name : {n : Noted} → {x : List ℕ} → is_new n x ≡ true
      → Gives n InputName (AName x) (behind_input x)
  -- "[" type ";" len "]"
  array_type : {n : Noted} → {d : ℕ} → d ≤ 64 → Gives n (ArrayType d) (ASymbol 91) (array d)
  -- "u32" | "(" elem "," elem ")"
  element : {n : Noted} → {d : ℕ} → Gives n (ElementType d) (AWord word.U32) (Mark NumberType ∷ [])
  element_pair : {n : Noted} → {d : ℕ} → d ≤ 64 → Gives n (ElementType d) (ASymbol 40) (pair d)
  -- "u32" | array | "(" elem "," elem ")"
  any_element : {n : Noted} → {d : ℕ} → Gives n (AnyType d) (AWord word.U32) (Mark NumberType ∷ [])
  any_array : {n : Noted} → {d : ℕ} → d ≤ 64 → Gives n (AnyType d) (ASymbol 91) (array d)
  any_pair : {n : Noted} → {d : ℕ} → d ≤ 64 → Gives n (AnyType d) (ASymbol 40) (pair d)
  -- NUMBER | NAME, a declared size
  factor_number : {n : Noted} → {least v : ℕ} → least ≤ v
      → Gives n (LengthFactor least) (ANumber v) (Mark (Multiply (factor.Number v)) ∷ [])
  factor_size : {n : Noted} → {least i : ℕ} → {x : List ℕ} → size_named n x ≡ Some i
      → Gives n (LengthFactor least) (AName x) (Mark (Multiply (factor.Size i)) ∷ [])
  -- { "*" factor } { ( "+" | "-" ) mono } "]"
  length_times : {n : Noted} → {s : Sign}
      → Gives n (LengthRest s) (ASymbol 42) (Form (LengthFactor 0) ∷ Form (LengthRest s) ∷ [])
  length_plus : {n : Noted} → {s : Sign} → Gives n (LengthRest s) (ASymbol 43) (part s sign.Plus)
  length_minus : {n : Noted} → {s : Sign} → Gives n (LengthRest s) (ASymbol 45) (part s sign.Minus)
  length_end : {n : Noted} → {s : Sign}
      → Gives n (LengthRest s) (ASymbol 93) (Mark (EndPart s) ∷ Mark ArrayOf ∷ [])
  -- NUMBER
  number : {n : Noted} → {d v : ℕ}
      → Gives n (Term d) (ANumber v) (Mark (Leaf (trees.Number v)) ∷ [])
  -- NAME, a binder in scope, or else an input
  variable : {n : Noted} → {d i : ℕ} → {x : List ℕ} → binder_named n x ≡ Some i
      → Gives n (Term d) (AName x) (Mark (Leaf (trees.Variable i)) ∷ [])
  an_input : {n : Noted} → {d i : ℕ} → {x : List ℕ} → binder_named n x ≡ None
      → input_named n x ≡ Some i → Gives n (Term d) (AName x) (Mark (Leaf (trees.Input i)) ∷ [])
  -- op2, "pair" or "zip" "(" term "," term ")"
  binary : {n : Noted} → {d : ℕ} → {w : Word} → {f : BinaryForm} → binary_of w ≡ Some f → d < 256
      → Gives n (Term d) (AWord w)
      (opens ∷ term (d + 1) ∷ comma ∷ term (d + 1) ∷ closes ∷ Mark (Make2 (trees.Binary f))
      ∷ [])
  -- "first", "second" or the word of a layout that takes no product "(" term ")"
  unary : {n : Noted} → {d : ℕ} → {w : Word} → {f : UnaryForm} → unary_of w ≡ Some f → d < 256
      → Gives n (Term d) (AWord w)
      (opens ∷ term (d + 1) ∷ closes ∷ Mark (Make1 (trees.Unary f)) ∷ [])
  -- ( "div" | "rem" ) "(" term "," NUMBER ")"
  div : {n : Noted} → {d : ℕ} → d < 256
      → Gives n (Term d) (AWord word.Div)
      (opens ∷ term (d + 1) ∷ comma ∷ Form (Divisor unaries.Div) ∷ [])
  rem : {n : Noted} → {d : ℕ} → d < 256
      → Gives n (Term d) (AWord word.Rem)
      (opens ∷ term (d + 1) ∷ comma ∷ Form (Divisor unaries.Rem) ∷ [])
  divisor : {n : Noted} → {f : ℕ → UnaryForm} → {v : ℕ} → 1 ≤ v
      → Gives n (Divisor f) (ANumber v) (closes ∷ Mark (Make1 (trees.Unary (f v))) ∷ [])
  -- "select" "(" term "," term "," term ")"
  select : {n : Noted} → {d : ℕ} → d < 256
      → Gives n (Term d) (AWord word.Select)
      (opens ∷ term (d + 1) ∷ comma ∷ term (d + 1) ∷ comma ∷ term (d + 1) ∷ closes
      ∷ Mark (Make3 trees.Select) ∷ [])
  -- "let" NAME "=" term "in" term
  let_in : {n : Noted} → {d : ℕ} → d < 256
      → Gives n (Term d) (AWord word.Let) (Form (LetName (d + 1)) ∷ [])
  let_name : {n : Noted} → {d : ℕ} → {x : List ℕ} → Gives n (LetName d) (AName x) (behind_let d x)
  -- "map" "(" "\" NAME "." term "," term ")"
  map : {n : Noted} → {d : ℕ} → d < 256
      → Gives n (Term d) (AWord word.Map) (opens ∷ backslash ∷ Form (MapName (d + 1)) ∷ [])
  map_name : {n : Noted} → {d : ℕ} → {x : List ℕ} → Gives n (MapName d) (AName x) (behind_map d x)
  -- "reduce" "(" op7 "," term "," term ")"
  reduce : {n : Noted} → {d : ℕ} → d < 256
      → Gives n (Term d) (AWord word.Reduce) (opens ∷ Form (ReduceOperator (d + 1)) ∷ [])
  reduce_operator : {n : Noted} → {d : ℕ} → {w : Word} → {r : Reducer} → reducer_of w ≡ Some r
      → Gives n (ReduceOperator d) (AWord w)
      (comma ∷ term d ∷ comma ∷ term d ∷ closes
      ∷ Mark (Make2 (λ start array. trees.Binary (binaries.Reduce r) array start)) ∷ [])
  -- "fold" "(" "\" NAME NAME "." term "," term "," term ")"; the second name is the nearer
  fold : {n : Noted} → {d : ℕ} → d < 256
      → Gives n (Term d) (AWord word.Fold) (opens ∷ backslash ∷ Form (FoldName (d + 1)) ∷ [])
  fold_name : {n : Noted} → {d : ℕ} → {x : List ℕ}
      → Gives n (FoldName d) (AName x) (Form (FoldSecondName d x) ∷ [])
  fold_second_name : {n : Noted} → {d : ℕ} → {x y : List ℕ}
      → Gives n (FoldSecondName d x) (AName y) (behind_fold d x y)
  -- ( "split" | "stride" ) "(" mono "," term ")"
  split : {n : Noted} → {d : ℕ} → d < 256
      → Gives n (Term d) (AWord word.Split) (of_product split_by d)
  stride : {n : Noted} → {d : ℕ} → d < 256
      → Gives n (Term d) (AWord word.Stride) (of_product stride_by d)
  product_times : {n : Noted} → {d : ℕ} → {f : List Factor → UnaryForm}
      → Gives n (ProductRest f d) (ASymbol 42) (Form (LengthFactor 1) ∷ Form (ProductRest f d) ∷ [])
  product_end : {n : Noted} → {d : ℕ} → {f : List Factor → UnaryForm}
      → Gives n (ProductRest f d) (ASymbol 44) (term d ∷ closes ∷ Mark (MakeByProduct f) ∷ [])
  -- ( "slide" | "pad" ) "(" NUMBER "," NUMBER "," term ")"
  slide : {n : Noted} → {d : ℕ} → d < 256
      → Gives n (Term d) (AWord word.Slide) (opens ∷ Form (First 1 unaries.Slide (d + 1)) ∷ [])
  pad : {n : Noted} → {d : ℕ} → d < 256
      → Gives n (Term d) (AWord word.Pad) (opens ∷ Form (First 0 unaries.Pad (d + 1)) ∷ [])
  first_number : {n : Noted} → {least d v : ℕ} → {f : ℕ → ℕ → UnaryForm} → least ≤ v
      → Gives n (First least f d) (ANumber v) (comma ∷ Form (Second least (f v) d) ∷ [])
  second_number : {n : Noted} → {least d v : ℕ} → {f : ℕ → UnaryForm} → least ≤ v
      → Gives n (Second least f d) (ANumber v)
      (comma ∷ term d ∷ closes ∷ Mark (Make1 (trees.Unary (f v))) ∷ [])

-- ---- the marks

-- what is made of the last, and of the rest behind it, where there is one
abbrev pub with_first : {A B : Type 0} → (A → List A → B) → List A → Option B
with_first f [] = None
with_first f (a ∷ rest) = Some (f a rest)

-- the last made, b, after a
abbrev pub with_two : {A B : Type 0} → (A → A → List A → B) → List A → Option B
with_two f [] = None
with_two f (b ∷ []) = None
with_two f (b ∷ a ∷ rest) = Some (f a b rest)

-- the last made, c, after b and that after a
abbrev pub with_three : {A B : Type 0} → (A → A → A → List A → B) → List A → Option B
with_three f [] = None
with_three f (c ∷ []) = None
with_three f (c ∷ b ∷ []) = None
with_three f (c ∷ b ∷ a ∷ rest) = Some (f a b c rest)

-- split or stride: by the last product, of the last term
abbrev pub by_product : (List Factor → UnaryForm) → Noted → List (List Factor) → List trees.Tree
    → Option Noted
by_product f n (p ∷ products) (t ∷ made) =
    Some (record n { products = products; made = trees.Unary (f p) t ∷ made })
by_product f n _ _ = None

-- a program is read where just one term is made
abbrev pub finished : Noted → List trees.Tree → Option Noted
finished n (t ∷ []) = Some n
finished n _ = None

-- what an action makes of the notes
abbrev pub marked : Action → Noted → Option Noted
marked (DeclareSize s) n = Some (record n { sizes = n.sizes ++ s ∷ [] })
marked (DeclareInput x) n =
    with_first
    (λ t types. record n {
      inputs = n.inputs
          ++ record { name = x; ty = t } ∷ [];
      types = types;
    }) n.types
marked NumberType n = Some (record n { types = written.Number ∷ n.types })
marked PairType n = with_two (λ a b types. record n { types = written.Pair a b ∷ types }) n.types
marked ArrayOf n =
    with_first (λ t types. record n { types = written.Array t n.parts ∷ types; parts = [] }) n.types
marked BeginProduct n = Some (record n { products = [] ∷ n.products })
marked (Multiply f) n =
    with_first (λ p products. record n { products = (p ++ f ∷ []) ∷ products }) n.products
marked (EndPart s) n =
    with_first
    (λ p products. record n {
      products = products;
      parts = n.parts
          ++ record { sign = s; product = p } ∷ [];
    }) n.products
marked (Leaf t) n = Some (record n { made = t ∷ n.made })
marked (Bind x) n = Some (record n { scope = x ∷ n.scope })
marked Unbind n = with_first (λ x scope. record n { scope = scope }) n.scope
marked (Make1 f) n = with_first (λ a made. record n { made = f a ∷ made }) n.made
marked (Make2 f) n = with_two (λ a b made. record n { made = f a b ∷ made }) n.made
marked (Make3 f) n = with_three (λ a b c made. record n { made = f a b c ∷ made }) n.made
marked (MakeByProduct f) n = by_product f n n.products n.made
marked Finish n = finished n n.made

-- the grammar of programs: its alternatives, and what its marks do
abbrev pub programs : Grammar Lexeme Nonterminal Action Noted
programs = record { Gives = Gives; marked = marked }

-- at first a program is owed, and nothing is noted
abbrev pub start : List Item
start = Form Sizes ∷ Mark Finish ∷ []

-- the notes before the first token
abbrev pub nothing : Noted
nothing =
    record { sizes = []; inputs = []; scope = []; types = []; products = []; parts = []; made = [] }

-- Some reading takes all the tokens, owes nothing, and has noted the program.
pub record IsProgram (tokens : List Lexeme) (p : PlainProgram) : Type 0 where
  pub noted : Noted
  pub reads : Reads programs start nothing tokens [] noted
  pub sizes : noted.sizes ≡ p.sizes
  pub inputs : noted.inputs ≡ p.inputs
  pub body : noted.made ≡ p.body ∷ []
