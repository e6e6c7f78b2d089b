-- The kernel grammar: which bytes are the text of which kernel, by the kernel's name. A text is
-- read piece by piece, by what is still owed.
use Rattle.std.specs.Prelude.{◌≡◌, ℕ, zero, suc, ◌*◌, ◌<◌, ◌≤◌, ◌^◌, Bool, true, false, List, [], ◌∷◌, ◌++◌, Option, Some, None, codes, replicate, decimal, length}
use Rattle.readings.specs.Readings.{Owed, Token, Form, Mark, Grammar, Reads}
use Rattle.scalar_ops.specs.declared.op.Op.{Op}
use Rattle.scalar_ops.specs.declared.op.Op.TheVariants.{Add, Mul, Min, Max, And, Or, Xor, Sub, Shl, Shr, Div, Rem}
use Rattle.kernel_tree.specs.declared.tree.Dimension.{Dimension}
use Rattle.kernel_tree.specs.declared.tree.Dimension.TheVariants.{X, Y}
use Rattle.kernel_tree.specs.Formula.{IdForm, GlobalId, GroupId, LocalId, GlobalSize, GroupCount, LocalSize, Comparison, Less, Equal, Formula, Number, Variable, LoopVariable, Size, Id, Binary, Choose, Lanes, Vector, Spread, Each}
use Rattle.kernel_tree.specs.Code.{Array, Input, Output, Local, Private, Start, FromZero, FromGlobalId, FromGroupId, FromLocalId, Stride, ByOne, ByGlobalSize, ByGroupCount, ByLocalSize, Code, End, Performs, Assigns, Loads, Stores, AssignsFour, LoadsFour, StoresFour, Loops, Guards, Syncs, Kernel}
use Rattle.kernel_tree.specs.Grammar.{deepest, largest_group, is_readable, is_writable, is_shared}
use Rattle.kernel_tree.specs.Pieces.{ArePieces}

-- a piece of a text, by its bytes
abbrev pub Piece : Type 0
Piece = List ℕ

-- ---- pieces

-- one space
abbrev pub space : Piece
space = codes " "

-- the end of a line
abbrev pub line : Piece
line = 10 ∷ []

-- `,`
abbrev pub comma : Piece
comma = codes ","

-- `;`
abbrev pub semicolon : Piece
semicolon = codes ";"

-- `*`
abbrev pub star : Piece
star = codes "*"

-- `=`
abbrev pub equals : Piece
equals = codes "="

-- `<`
abbrev pub less : Piece
less = codes "<"

-- `+`
abbrev pub plus : Piece
plus = codes "+"

-- `-`
abbrev pub minus : Piece
minus = codes "-"

-- `/`
abbrev pub slash : Piece
slash = codes "/"

-- `%`
abbrev pub percent : Piece
percent = codes "%"

-- `&`
abbrev pub ampersand : Piece
ampersand = codes "&"

-- `|`
abbrev pub bar : Piece
bar = codes "|"

-- `^`
abbrev pub caret : Piece
caret = codes "^"

-- `>`
abbrev pub greater : Piece
greater = codes ">"

-- `?`
abbrev pub question : Piece
question = codes "?"

-- `:`
abbrev pub colon : Piece
colon = codes ":"

-- `(`
abbrev pub opens : Piece
opens = codes "("

-- `)`
abbrev pub closes : Piece
closes = codes ")"

-- `[`
abbrev pub index_begins : Piece
index_begins = codes "["

-- `]`
abbrev pub index_ends : Piece
index_ends = codes "]"

-- `{`
abbrev pub block_begins : Piece
block_begins = codes "{"

-- `}`
abbrev pub block_ends : Piece
block_ends = codes "}"

-- `__global`
abbrev pub global : Piece
global = codes "__global"

-- `__local`
abbrev pub local : Piece
local = codes "__local"

-- `const`
abbrev pub const : Piece
const = codes "const"

-- `uint`
abbrev pub uint : Piece
uint = codes "uint"

-- `uint4`
abbrev pub uint4 : Piece
uint4 = codes "uint4"

-- `vload4`
abbrev pub loads_four : Piece
loads_four = codes "vload4"

-- `vstore4`
abbrev pub stores_four : Piece
stores_four = codes "vstore4"

-- `for`
abbrev pub for : Piece
for = codes "for"

-- `if`
abbrev pub whether : Piece
whether = codes "if"

-- `barrier`
abbrev pub barrier : Piece
barrier = codes "barrier"

-- `CLK_LOCAL_MEM_FENCE`
abbrev pub local_flag : Piece
local_flag = codes "CLK_LOCAL_MEM_FENCE"

-- `CLK_GLOBAL_MEM_FENCE`
abbrev pub global_flag : Piece
global_flag = codes "CLK_GLOBAL_MEM_FENCE"

-- `min`
abbrev pub least : Piece
least = codes "min"

-- `max`
abbrev pub greatest : Piece
greatest = codes "max"

-- `0`
abbrev pub nought : Piece
nought = codes "0"

-- `1`
abbrev pub one : Piece
one = codes "1"

-- a dimension in the parentheses of an id
abbrev pub dimension : Dimension → Piece
dimension X = nought
dimension Y = one

-- `void`
abbrev pub void : Piece
void = codes "void"

-- `__attribute__`
abbrev pub attribute : Piece
attribute = codes "__attribute__"

-- `reqd_work_group_size`
abbrev pub group_size : Piece
group_size = codes "reqd_work_group_size"

-- the name of an id
abbrev pub id_name : IdForm → Piece
id_name GlobalId = codes "get_global_id"
id_name GroupId = codes "get_group_id"
id_name LocalId = codes "get_local_id"
id_name GlobalSize = codes "get_global_size"
id_name GroupCount = codes "get_num_groups"
id_name LocalSize = codes "get_local_size"

-- two spaces a level
abbrev pub indent : ℕ → Piece
indent level = replicate (2 * level) 32

-- a letter and a number, as v0. A number is decimal, with no leading zero, and below 2 ^ 32
abbrev pub named : ℕ → ℕ → Piece
named letter k = letter ∷ decimal k

-- an array's name, as a0
abbrev pub array_name : Array → Piece
array_name (Input k) = named 97 k
array_name (Output k) = named 111 k
array_name (Local k) = named 108 k
array_name (Private k) = named 112 k

-- an array's number
abbrev pub array_number : Array → ℕ
array_number (Input k) = k
array_number (Output k) = k
array_number (Local k) = k
array_number (Private k) = k

-- a size's name
abbrev pub size : ℕ → Piece
size k = named 115 k

-- a variable's name
abbrev pub variable : ℕ → Piece
variable k = named 118 k

-- the name of a variable of four words
abbrev pub vector : ℕ → Piece
vector k = named 119 k

-- a loop variable's name
abbrev pub loop_variable : ℕ → Piece
loop_variable k = named 105 k

-- a number and u, as 7u
abbrev pub literal : ℕ → Piece
literal n = decimal n ++ codes "u"

-- `0u`
abbrev pub zero_literal : Piece
zero_literal = codes "0u"

-- `1u`
abbrev pub one_literal : Piece
one_literal = codes "1u"

-- the numbers of a text, and its counts of names, are below it
abbrev pub number_limit : ℕ
number_limit = 2 ^ 32

-- ---- what is owed, and what is noted

-- The forms. `bound` says that an expression is a loop's or an if's bound, `guard` that a start is
-- an if's; `loops` says how many loops are around, `nest` how many loops and ifs, `depth` how deep
-- an expression stands, from 1.
pub data Part : Type 0 where
  Launching : Part  -- the size of the groups, where there is one, and void
  GroupWidth : Part
  GroupHeight : (width : ℕ) → Part
  Parameter : Part  -- an input, or the first output
  Pointer : Part  -- what follows __global and a space there
  NewInput : Part
  NewOutput : Part
  AfterOutput : Part
  OutputOrSize : Part
  NewSize : Part
  AfterSize : Part
  Locals : Part  -- a declaration or the first statement, behind its indent
  NewLocal : Part
  LocalLength : Part  -- the length of a new local array, and what follows
  Privates : Part  -- the same, where no local array may be declared any more
  Declared : Part  -- a new private array or variable
  PrivateLength : Part
  Variables : Part  -- the same, where variables alone may be declared
  NewVariable : Part
  Vectors : Part  -- the same, where variables of four words alone may be declared
  NewVector : Part
  -- a statement behind its indent, and what follows it in its block
  Statement : (loops nest : ℕ) → Part
  Next : (loops nest : ℕ) → Part  -- what follows a statement in its block
  Source : (loops nest var : ℕ) → Part  -- what a variable is assigned, and what follows
  -- what a variable of four words is assigned, and what follows
  SourceOfFour : (loops nest var : ℕ) → Part
  -- the array of which four cells are loaded, and what follows
  LoadedFour : (loops nest var : ℕ) → Part
  -- the array to which four words are stored, and what follows
  StoredFour : (loops nest : ℕ) → Part
  Fence : (loops nest : ℕ) → Part  -- a barrier's flags, and what follows
  AfterLocal : (loops nest : ℕ) → Part  -- what follows a barrier's flag of local memory
  -- what a loop's variable begins with, or an if compares, and what follows
  Beginning : (guard : Bool) → (loops nest : ℕ) → Part
  BeginningId : (guard : Bool) → (loops nest : ℕ) → Part  -- the same behind (uint)
  -- the dimension, and what follows
  BeginningAlong : (guard : Bool) → (loops nest : ℕ) → IdForm → Part
  Step : (loops nest : ℕ) → Start → Part  -- what is added to it, and what follows
  StepId : (loops nest : ℕ) → Start → Part
  StepAlong : (loops nest : ℕ) → Start → IdForm → Part
  Turn : (loop : ℕ) → Part  -- the loop's variable
  Indent : (level : ℕ) → Part
  Value : (bound : Bool) → (loops depth : ℕ) → Part
  -- what follows the parenthesis with which an expression begins
  Opened : (bound : Bool) → (loops depth : ℕ) → Part
  InLanes : (loops depth : ℕ) → Part  -- an expression of four words
  LanesOpened : (loops depth : ℕ) → Part
  LanesRest : (loops depth : ℕ) → Part
  LanesAfterLess : (loops depth : ℕ) → Part
  IdName : Part
  IdAlong : IdForm → Part  -- the dimension of an id
  -- what follows the left part of an expression in parentheses
  Rest : (bound : Bool) → (loops depth : ℕ) → Part
  AfterLess : (bound : Bool) → (loops depth : ℕ) → Part  -- the same behind <

-- what is noted on the way: a declaration, a leaf, or what is made of the values and blocks noted
-- last
pub data Note : Type 0 where
  -- so many are declared now
  DeclareInput DeclareOutput DeclareSize DeclareVariable DeclareVector : (count : ℕ) → Note
  DeclareLocal DeclarePrivate : (elements : ℕ) → Note  -- one more is declared, of this length
  FixLocal : (width height : ℕ) → Note
  Leaf : Formula → Note
  Both : Op → Note
  Either : Comparison → Note
  LeafVector : (var : ℕ) → Note
  SpreadOut : Note
  EachOf : Op → Note
  Stop : Note
  Assign : (var : ℕ) → Note
  Load : (var : ℕ) → Array → Note
  Store : Array → Note
  AssignFour : (var : ℕ) → Note
  LoadFour : (var : ℕ) → Array → Note
  StoreFour : Array → Note
  Loop : Start → Stride → Note
  Guard : Start → Note
  Sync : (on_local on_global : Bool) → Note

-- the names declared so far, and the size of the groups; the expressions and the blocks that were
-- made and are not yet used, the last one first
pub record Notes : Type 0 where
  pub inputs : ℕ
  pub outputs : ℕ
  pub sizes : ℕ
  pub locals : List ℕ
  pub privates : List ℕ
  pub variables : ℕ
  pub vectors : ℕ
  pub local : Option (ℕ × ℕ)
  pub values : List Formula
  pub lanes : List Lanes
  pub blocks : List Code

-- a kernel of the names declared so far
abbrev pub counted : Notes → Kernel
counted n = record {
  inputs = n.inputs;
  outputs = n.outputs;
  sizes = n.sizes;
  locals = n.locals;
  privates = n.privates;
  variables = n.variables;
  vectors = n.vectors;
  local = n.local;
  code = End;
}

-- what is owed: a piece, a form, or a note
abbrev pub Item : Type 0
Item = Owed Piece Part Note

-- these pieces
abbrev pub texts : List Piece → List Item
texts [] = []
texts (p ∷ ps) = Token p ∷ texts ps

-- ---- the alternatives

-- a name that an expression may use, and what it stands for
pub data Names : Notes → (bound : Bool) → (loops : ℕ) → Piece → Formula → Type 0 where
  a_variable : {n : Notes} → {l k : ℕ} → k < number_limit → k < n.variables
      → Names n false l (variable k) (Variable k)
  a_loop_variable : {n : Notes} → {l k : ℕ} → k < number_limit → k < l
      → Names n false l (loop_variable k) (LoopVariable k)
  a_size : {n : Notes} → {b : Bool} → {l k : ℕ} → k < number_limit → k < n.sizes
      → Names n b l (size k) (Size k)

-- the operators of one piece that stand between their operands
pub data IsSign : Piece → Op → Type 0 where
  adds : IsSign plus Add
  subtracts : IsSign minus Sub
  multiplies : IsSign star Mul
  divides : IsSign slash Div
  leaves : IsSign percent Rem
  ands : IsSign ampersand And
  ors : IsSign bar Or
  xors : IsSign caret Xor

-- those that are called
pub data IsCall : Piece → Op → Type 0 where
  takes_least : IsCall least Min
  takes_greatest : IsCall greatest Max

-- a place of the item, as against a count
abbrev pub is_id : IdForm → Bool
is_id GlobalId = true
is_id GroupId = true
is_id LocalId = true
is_id GlobalSize = false
is_id GroupCount = false
is_id LocalSize = false

-- the ids at which a loop's variable may begin
abbrev pub start_at : IdForm → Dimension → Option Start
start_at GlobalId d = Some (FromGlobalId d)
start_at GroupId d = Some (FromGroupId d)
start_at LocalId d = Some (FromLocalId d)
start_at GlobalSize d = None
start_at GroupCount d = None
start_at LocalSize d = None

-- the counts by which it may step
abbrev pub stride_by : IdForm → Dimension → Option Stride
stride_by GlobalId d = None
stride_by GroupId d = None
stride_by LocalId d = None
stride_by GlobalSize d = Some (ByGlobalSize d)
stride_by GroupCount d = Some (ByGroupCount d)
stride_by LocalSize d = Some (ByLocalSize d)

-- the end of a line, what follows in the block, and what is noted then
abbrev pub stored : (loops nest : ℕ) → Note → List Item
stored l e note = texts (semicolon ∷ line ∷ []) ++ Form (Next l e) ∷ Mark note ∷ []

-- behind a declaration
abbrev pub another_line : Part → List Item
another_line f = texts (semicolon ∷ line ∷ []) ++ Form (Indent 1) ∷ Form f ∷ []

-- between a loop's for and what its variable begins with
abbrev pub loop_head : (loops nest : ℕ) → List Item
loop_head l e =
    texts (space ∷ opens ∷ uint ∷ space ∷ []) ++ Form (Turn l) ∷ texts (space ∷ equals ∷ space ∷ [])
    ++ Form (Beginning false l e) ∷ []

-- from there to its step
abbrev pub loop_test : (loops nest : ℕ) → Start → List Item
loop_test l e s =
    texts (semicolon ∷ space ∷ []) ++ Form (Turn l) ∷ texts (space ∷ less ∷ space ∷ [])
    ++ Form (Value true l 1)
    ∷ texts (semicolon ∷ space ∷ []) ++ Form (Turn l) ∷ texts (space ∷ plus ∷ equals ∷ space ∷ [])
    ++ Form (Step l e s) ∷ []

-- behind its step
abbrev pub loop_body : (loops nest : ℕ) → Start → Stride → List Item
loop_body l e s c =
    texts (closes ∷ space ∷ block_begins ∷ line ∷ []) ++ Form (Indent (suc (suc e)))
    ∷ Form (Statement (suc l) (suc e)) ∷ Form (Next l e) ∷ Mark (Loop s c) ∷ []

-- behind an if, up to its start
abbrev pub guard_head : (loops nest : ℕ) → List Item
guard_head l e = texts (space ∷ opens ∷ []) ++ Form (Beginning true l e) ∷ []

-- what follows an if's start
abbrev pub guard_test : (loops nest : ℕ) → Start → List Item
guard_test l e s =
    texts (space ∷ less ∷ space ∷ []) ++ Form (Value true l 1)
    ∷ texts (closes ∷ space ∷ block_begins ∷ line ∷ [])
    ++ Form (Indent (suc (suc e))) ∷ Form (Statement l (suc e)) ∷ Form (Next l e) ∷ Mark (Guard s)
    ∷ []

-- what follows the start
abbrev pub after_start : (guard : Bool) → (loops nest : ℕ) → Start → List Item
after_start true l e s = guard_test l e s
after_start false l e s = loop_test l e s

-- (uint) before the name of an id
abbrev pub cast : Part → List Item
cast f = texts (uint ∷ closes ∷ []) ++ Form f ∷ []

-- its dimension behind it
abbrev pub in_dimension : Part → List Item
in_dimension f = Token opens ∷ Form f ∷ []

-- an operator's right part, and a comparison's with the two choices
abbrev pub operated : Bool → ℕ → ℕ → Op → List Item
operated b l d op = Form (Value b l d) ∷ Token closes ∷ Mark (Both op) ∷ []

-- the same of four words
abbrev pub operated_each : ℕ → ℕ → Op → List Item
operated_each l d op = Form (InLanes l d) ∷ Token closes ∷ Mark (EachOf op) ∷ []

-- a comparison's right part, with the two choices
abbrev pub compared : Bool → ℕ → ℕ → Comparison → List Item
compared b l d c =
    Form (Value b l d) ∷ texts (space ∷ question ∷ space ∷ []) ++ Form (Value b l d)
    ∷ texts (space ∷ colon ∷ space ∷ []) ++ Form (Value b l d) ∷ Token closes ∷ Mark (Either c) ∷ []

-- the alternatives of a form: the piece with which one begins, and what is owed behind it
pub data Gives : Notes → Part → Piece → List Item → Type 0 where
  -- the groups' size
  any_group : {n : Notes} → Gives n Launching void []
  fixed_group : {n : Notes}
      → Gives n Launching attribute
      (texts (opens ∷ opens ∷ group_size ∷ opens ∷ []) ++ Form GroupWidth ∷ [])
  group_width : {n : Notes} → {v : ℕ} → 0 < v → v ≤ largest_group
      → Gives n GroupWidth (decimal v) (texts (comma ∷ space ∷ []) ++ Form (GroupHeight v) ∷ [])
  group_height : {n : Notes} → {v w : ℕ} → 0 < w → w < number_limit → v * w ≤ largest_group
      → Gives n (GroupHeight v) (decimal w)
      (Mark (FixLocal v w)
      ∷ texts (comma ∷ space ∷ one ∷ closes ∷ closes ∷ closes ∷ space ∷ void ∷ []))
  -- the parameters
  an_input : {n : Notes} → Gives n Parameter global (Token space ∷ Form Pointer ∷ [])
  pointer_to_const : {n : Notes}
      → Gives n Pointer const (texts (space ∷ uint ∷ space ∷ star ∷ []) ++ Form NewInput ∷ [])
  pointer : {n : Notes} → Gives n Pointer uint (texts (space ∷ star ∷ []) ++ Form NewOutput ∷ [])
  new_input : {n : Notes} → suc n.inputs < number_limit
      → Gives n NewInput (array_name (Input n.inputs))
      (Mark (DeclareInput (suc n.inputs)) ∷ texts (comma ∷ space ∷ []) ++ Form Parameter ∷ [])
  new_output : {n : Notes} → suc n.outputs < number_limit
      → Gives n NewOutput (array_name (Output n.outputs))
      (Mark (DeclareOutput (suc n.outputs)) ∷ Form AfterOutput ∷ [])
  last_output : {n : Notes} → Gives n AfterOutput closes []
  more_outputs : {n : Notes} → Gives n AfterOutput comma (Token space ∷ Form OutputOrSize ∷ [])
  another_output : {n : Notes}
      → Gives n OutputOrSize global
      (texts (space ∷ uint ∷ space ∷ star ∷ []) ++ Form NewOutput ∷ [])
  first_size : {n : Notes}
      → Gives n OutputOrSize const (texts (space ∷ uint ∷ space ∷ []) ++ Form NewSize ∷ [])
  new_size : {n : Notes} → suc n.sizes < number_limit
      → Gives n NewSize (size n.sizes) (Mark (DeclareSize (suc n.sizes)) ∷ Form AfterSize ∷ [])
  last_size : {n : Notes} → Gives n AfterSize closes []
  more_sizes : {n : Notes}
      → Gives n AfterSize comma
      (texts (space ∷ const ∷ space ∷ uint ∷ space ∷ []) ++ Form NewSize ∷ [])
  -- the declarations: local arrays, private arrays, private variables
  a_local : {n : Notes}
      → Gives n Locals local (texts (space ∷ uint ∷ space ∷ []) ++ Form NewLocal ∷ [])
  no_local : {n : Notes} → {p : Piece} → {alternative : List Item} → Gives n Privates p alternative
      → Gives n Locals p alternative
  new_local : {n : Notes} → suc (length n.locals) < number_limit
      → Gives n NewLocal (array_name (Local (length n.locals)))
      (Token index_begins ∷ Form LocalLength ∷ [])
  local_length : {n : Notes} → {v : ℕ} → 0 < v → v < number_limit
      → Gives n LocalLength (decimal v)
      (Mark (DeclareLocal v) ∷ Token index_ends ∷ another_line Locals)
  a_declaration : {n : Notes} → Gives n Privates uint (Token space ∷ Form Declared ∷ [])
  no_declaration : {n : Notes} → {p : Piece} → {alternative : List Item}
      → Gives n Vectors p alternative → Gives n Privates p alternative
  new_private : {n : Notes} → suc (length n.privates) < number_limit
      → Gives n Declared (array_name (Private (length n.privates)))
      (Token index_begins ∷ Form PrivateLength ∷ [])
  first_variable : {n : Notes} → {p : Piece} → {alternative : List Item}
      → Gives n NewVariable p alternative → Gives n Declared p alternative
  private_length : {n : Notes} → {v : ℕ} → 0 < v → v < number_limit
      → Gives n PrivateLength (decimal v)
      (Mark (DeclarePrivate v) ∷ Token index_ends ∷ another_line Privates)
  another_variable : {n : Notes} → Gives n Variables uint (Token space ∷ Form NewVariable ∷ [])
  no_variable : {n : Notes} → {p : Piece} → {alternative : List Item}
      → Gives n Vectors p alternative → Gives n Variables p alternative
  new_variable : {n : Notes} → suc n.variables < number_limit
      → Gives n NewVariable (variable n.variables)
      (Mark (DeclareVariable (suc n.variables)) ∷ another_line Variables)
  a_vector : {n : Notes} → Gives n Vectors uint4 (Token space ∷ Form NewVector ∷ [])
  statements : {n : Notes} → {p : Piece} → {alternative : List Item}
      → Gives n (Statement 0 0) p alternative → Gives n Vectors p alternative
  new_vector : {n : Notes} → suc n.vectors < number_limit
      → Gives n NewVector (vector n.vectors)
      (Mark (DeclareVector (suc n.vectors)) ∷ another_line Vectors)
  -- the statements
  assign : {n : Notes} → {l e k : ℕ} → k < number_limit → k < n.variables
      → Gives n (Statement l e) (variable k)
      (texts (space ∷ equals ∷ space ∷ []) ++ Form (Source l e k) ∷ [])
  store : {n : Notes} → {l e : ℕ} → {array : Array} → array_number array < number_limit
      → is_writable (counted n) array ≡ true
      → Gives n (Statement l e) (array_name array)
      (Token index_begins ∷ Form (Value false l 1)
      ∷ texts (index_ends ∷ space ∷ equals ∷ space ∷ []) ++ Form (Value false l 1)
      ∷ stored l e (Store array))
  loop : {n : Notes} → {l e : ℕ} → e < deepest → Gives n (Statement l e) for (loop_head l e)
  guard : {n : Notes} → {l e : ℕ} → e < deepest → Gives n (Statement l e) whether (guard_head l e)
  meet : {n : Notes} → {l e : ℕ}
      → Gives n (Statement l e) barrier (Token opens ∷ Form (Fence l e) ∷ [])
  load : {n : Notes} → {l e k : ℕ} → {array : Array} → array_number array < number_limit
      → is_readable (counted n) array ≡ true
      → Gives n (Source l e k) (array_name array)
      (Token index_begins ∷ Form (Value false l 1) ∷ Token index_ends ∷ stored l e (Load k array))
  value : {n : Notes} → {l e k : ℕ} → {p : Piece} → {alternative : List Item}
      → Gives n (Value false l 1) p alternative
      → Gives n (Source l e k) p (alternative ++ stored l e (Assign k))
  assign_four : {n : Notes} → {l e k : ℕ} → k < number_limit → k < n.vectors
      → Gives n (Statement l e) (vector k)
      (texts (space ∷ equals ∷ space ∷ []) ++ Form (SourceOfFour l e k) ∷ [])
  load_four : {n : Notes} → {l e k : ℕ}
      → Gives n (SourceOfFour l e k) loads_four
      (Token opens ∷ Form (Value false l 1) ∷ texts (comma ∷ space ∷ []) ++ Form (LoadedFour l e k)
      ∷ [])
  loaded_four : {n : Notes} → {l e k : ℕ} → {array : Array} → array_number array < number_limit
      → is_shared array ≡ true → is_readable (counted n) array ≡ true
      → Gives n (LoadedFour l e k) (array_name array) (Token closes ∷ stored l e (LoadFour k array))
  value_of_four : {n : Notes} → {l e k : ℕ} → {p : Piece} → {alternative : List Item}
      → Gives n (InLanes l 1) p alternative
      → Gives n (SourceOfFour l e k) p (alternative ++ stored l e (AssignFour k))
  store_four : {n : Notes} → {l e : ℕ}
      → Gives n (Statement l e) stores_four
      (Token opens ∷ Form (InLanes l 1) ∷ texts (comma ∷ space ∷ []) ++ Form (Value false l 1)
      ∷ texts (comma ∷ space ∷ []) ++ Form (StoredFour l e) ∷ [])
  stored_four : {n : Notes} → {l e : ℕ} → {array : Array} → array_number array < number_limit
      → is_shared array ≡ true → is_writable (counted n) array ≡ true
      → Gives n (StoredFour l e) (array_name array) (Token closes ∷ stored l e (StoreFour array))
  another : {n : Notes} → {l e : ℕ}
      → Gives n (Next l e) (indent (suc e)) (Form (Statement l e) ∷ [])
  end : {n : Notes} → {l : ℕ} → Gives n (Next l zero) block_ends (Token line ∷ Mark Stop ∷ [])
  end_of_block : {n : Notes} → {l e : ℕ}
      → Gives n (Next l (suc e)) (indent (suc e)) (texts (block_ends ∷ line ∷ []) ++ Mark Stop ∷ [])
  indented : {n : Notes} → {l : ℕ} → Gives n (Indent l) (indent l) []
  -- a barrier's flags
  fences_local : {n : Notes} → {l e : ℕ}
      → Gives n (Fence l e) local_flag (Form (AfterLocal l e) ∷ [])
  fences_global : {n : Notes} → {l e : ℕ}
      → Gives n (Fence l e) global_flag (Token closes ∷ stored l e (Sync false true))
  local_alone : {n : Notes} → {l e : ℕ}
      → Gives n (AfterLocal l e) closes (stored l e (Sync true false))
  fences_both : {n : Notes} → {l e : ℕ}
      → Gives n (AfterLocal l e) space
      (texts (bar ∷ space ∷ global_flag ∷ closes ∷ []) ++ stored l e (Sync true true))
  -- a loop's line, and an if's
  turn : {n : Notes} → {l : ℕ} → l < number_limit → Gives n (Turn l) (loop_variable l) []
  from_zero : {n : Notes} → {g : Bool} → {l e : ℕ}
      → Gives n (Beginning g l e) zero_literal (after_start g l e FromZero)
  from_id : {n : Notes} → {g : Bool} → {l e : ℕ}
      → Gives n (Beginning g l e) opens (cast (BeginningId g l e))
  from_this_id : {n : Notes} → {g : Bool} → {l e : ℕ} → {form : IdForm} → is_id form ≡ true
      → Gives n (BeginningId g l e) (id_name form) (in_dimension (BeginningAlong g l e form))
  from_along : {n : Notes} → {g : Bool} → {l e : ℕ} → {form : IdForm} → (d : Dimension)
      → {s : Start} → start_at form d ≡ Some s
      → Gives n (BeginningAlong g l e form) (dimension d) (Token closes ∷ after_start g l e s)
  by_one : {n : Notes} → {l e : ℕ} → {s : Start}
      → Gives n (Step l e s) one_literal (loop_body l e s ByOne)
  by_count : {n : Notes} → {l e : ℕ} → {s : Start}
      → Gives n (Step l e s) opens (cast (StepId l e s))
  by_this_count : {n : Notes} → {l e : ℕ} → {s : Start} → {form : IdForm} → is_id form ≡ false
      → Gives n (StepId l e s) (id_name form) (in_dimension (StepAlong l e s form))
  by_along : {n : Notes} → {l e : ℕ} → {s : Start} → {form : IdForm} → (d : Dimension)
      → {c : Stride} → stride_by form d ≡ Some c
      → Gives n (StepAlong l e s form) (dimension d) (Token closes ∷ loop_body l e s c)
  -- the expressions
  number : {n : Notes} → {b : Bool} → {l d v : ℕ} → d ≤ deepest → v < number_limit
      → Gives n (Value b l d) (literal v) (Mark (Leaf (Number v)) ∷ [])
  named_value : {n : Notes} → {b : Bool} → {l d : ℕ} → {p : Piece} → {e : Formula} → d ≤ deepest
      → Names n b l p e → Gives n (Value b l d) p (Mark (Leaf e) ∷ [])
  call : {n : Notes} → {b : Bool} → {l d : ℕ} → {p : Piece} → {op : Op} → d ≤ deepest → IsCall p op
      → Gives n (Value b l d) p
      (Token opens ∷ Form (Value b l (suc d)) ∷ texts (comma ∷ space ∷ [])
      ++ operated b l (suc d) op)
  open_value : {n : Notes} → {b : Bool} → {l d : ℕ} → d ≤ deepest
      → Gives n (Value b l d) opens (Form (Opened b l d) ∷ [])
  an_id : {n : Notes} → {l d : ℕ}
      → Gives n (Opened false l d) uint (Token closes ∷ Form IdName ∷ [])
  both : {n : Notes} → {b : Bool} → {l d : ℕ} → {p : Piece} → {alternative : List Item}
      → Gives n (Value b l (suc d)) p alternative
      → Gives n (Opened b l d) p (alternative ++ Token space ∷ Form (Rest b l (suc d)) ∷ [])
  this_id : {n : Notes} → {form : IdForm}
      → Gives n IdName (id_name form) (in_dimension (IdAlong form))
  id_along : {n : Notes} → {form : IdForm} → {d : Dimension}
      → Gives n (IdAlong form) (dimension d) (Token closes ∷ Mark (Leaf (Id d form)) ∷ [])
  sign : {n : Notes} → {b : Bool} → {l d : ℕ} → {p : Piece} → {op : Op} → IsSign p op
      → Gives n (Rest b l d) p (Token space ∷ operated b l d op)
  shift_right : {n : Notes} → {b : Bool} → {l d : ℕ}
      → Gives n (Rest b l d) greater (texts (greater ∷ space ∷ []) ++ operated b l d Shr)
  equal : {n : Notes} → {b : Bool} → {l d : ℕ}
      → Gives n (Rest b l d) equals (texts (equals ∷ space ∷ []) ++ compared b l d Equal)
  less_or_shift : {n : Notes} → {b : Bool} → {l d : ℕ}
      → Gives n (Rest b l d) less (Form (AfterLess b l d) ∷ [])
  shift_left : {n : Notes} → {b : Bool} → {l d : ℕ}
      → Gives n (AfterLess b l d) less (Token space ∷ operated b l d Shl)
  is_less : {n : Notes} → {b : Bool} → {l d : ℕ}
      → Gives n (AfterLess b l d) space (compared b l d Less)
  -- the expressions of four words
  vector_value : {n : Notes} → {l d k : ℕ} → d ≤ deepest → k < number_limit → k < n.vectors
      → Gives n (InLanes l d) (vector k) (Mark (LeafVector k) ∷ [])
  lanes_call : {n : Notes} → {l d : ℕ} → {p : Piece} → {op : Op} → d ≤ deepest → IsCall p op
      → Gives n (InLanes l d) p
      (Token opens ∷ Form (InLanes l (suc d)) ∷ texts (comma ∷ space ∷ [])
      ++ operated_each l (suc d) op)
  open_lanes : {n : Notes} → {l d : ℕ} → d ≤ deepest
      → Gives n (InLanes l d) opens (Form (LanesOpened l d) ∷ [])
  spread_out : {n : Notes} → {l d : ℕ}
      → Gives n (LanesOpened l d) uint4
      (texts (closes ∷ opens ∷ []) ++ Form (Value false l (suc d)) ∷ Token closes ∷ Mark SpreadOut
      ∷ [])
  both_lanes : {n : Notes} → {l d : ℕ} → {p : Piece} → {alternative : List Item}
      → Gives n (InLanes l (suc d)) p alternative
      → Gives n (LanesOpened l d) p (alternative ++ Token space ∷ Form (LanesRest l (suc d)) ∷ [])
  lanes_sign : {n : Notes} → {l d : ℕ} → {p : Piece} → {op : Op} → IsSign p op
      → Gives n (LanesRest l d) p (Token space ∷ operated_each l d op)
  lanes_right : {n : Notes} → {l d : ℕ}
      → Gives n (LanesRest l d) greater (texts (greater ∷ space ∷ []) ++ operated_each l d Shr)
  lanes_less : {n : Notes} → {l d : ℕ}
      → Gives n (LanesRest l d) less (Form (LanesAfterLess l d) ∷ [])
  lanes_left : {n : Notes} → {l d : ℕ}
      → Gives n (LanesAfterLess l d) less (Token space ∷ operated_each l d Shl)

-- ---- the marks

-- the notes with these expressions and blocks
abbrev pub noted : Notes → List Formula → List Code → Notes
noted n values blocks = record n { values = values; blocks = blocks }

-- an operator on the last two expressions
abbrev pub both_of : Notes → Op → List Formula → Option Notes
both_of n op (b ∷ a ∷ values) = Some (noted n (Binary op a b ∷ values) n.blocks)
both_of n op _ = None

-- a conditional of the last four
abbrev pub either_of : Notes → Comparison → List Formula → Option Notes
either_of n c (y ∷ x ∷ b ∷ a ∷ values) = Some (noted n (Choose c a b x y ∷ values) n.blocks)
either_of n c _ = None

-- the notes with these expressions of four words
abbrev pub with_lanes : Notes → List Formula → List Lanes → List Code → Notes
with_lanes n values lanes blocks = record n { values = values; lanes = lanes; blocks = blocks }

-- four words of the last expression
abbrev pub spread_of : Notes → List Formula → Option Notes
spread_of n (e ∷ values) = Some (with_lanes n values (Spread e ∷ n.lanes) n.blocks)
spread_of n [] = None

-- an operator on the last two expressions of four words
abbrev pub each_of : Notes → Op → List Lanes → Option Notes
each_of n op (b ∷ a ∷ lanes) = Some (with_lanes n n.values (Each op a b ∷ lanes) n.blocks)
each_of n op _ = None

-- a statement that assigns four words
abbrev pub assign_four_of : Notes → ℕ → List Lanes → List Code → Option Notes
assign_four_of n k (e ∷ lanes) (after ∷ blocks) =
    Some (with_lanes n n.values lanes (Performs (AssignsFour k e) after ∷ blocks))
assign_four_of n k _ _ = None

-- one that loads four
abbrev pub load_four_of : Notes → ℕ → Array → List Formula → List Code → Option Notes
load_four_of n k array (i ∷ values) (after ∷ blocks) =
    Some (noted n values (Performs (LoadsFour k array i) after ∷ blocks))
load_four_of n k array _ _ = None

-- one that stores four
abbrev pub store_four_of : Notes → Array → List Formula → List Lanes → List Code → Option Notes
store_four_of n array (i ∷ values) (e ∷ lanes) (after ∷ blocks) =
    Some (with_lanes n values lanes (Performs (StoresFour array i e) after ∷ blocks))
store_four_of n array _ _ _ = None

-- a statement that assigns
abbrev pub assign_of : Notes → ℕ → List Formula → List Code → Option Notes
assign_of n k (e ∷ values) (after ∷ blocks) =
    Some (noted n values (Performs (Assigns k e) after ∷ blocks))
assign_of n k _ _ = None

-- one that loads
abbrev pub load_of : Notes → ℕ → Array → List Formula → List Code → Option Notes
load_of n k array (i ∷ values) (after ∷ blocks) =
    Some (noted n values (Performs (Loads k array i) after ∷ blocks))
load_of n k array _ _ = None

-- one that stores
abbrev pub store_of : Notes → Array → List Formula → List Code → Option Notes
store_of n array (e ∷ i ∷ values) (after ∷ blocks) =
    Some (noted n values (Performs (Stores array i e) after ∷ blocks))
store_of n array _ _ = None

-- a loop, of the last two blocks
abbrev pub loop_of : Notes → Start → Stride → List Formula → List Code → Option Notes
loop_of n s c (b ∷ values) (after ∷ body ∷ blocks) =
    Some (noted n values (Loops s b c body after ∷ blocks))
loop_of n s c _ _ = None

-- an if, of the last two blocks
abbrev pub guard_of : Notes → Start → List Formula → List Code → Option Notes
guard_of n s (b ∷ values) (after ∷ body ∷ blocks) =
    Some (noted n values (Guards s b body after ∷ blocks))
guard_of n s _ _ = None

-- a barrier
abbrev pub sync_of : Notes → (on_local on_global : Bool) → List Code → Option Notes
sync_of n on_local on_global (after ∷ blocks) =
    Some (noted n n.values (Performs (Syncs on_local on_global) after ∷ blocks))
sync_of n on_local on_global [] = None

-- the notes after a note, if it fits them
abbrev pub marked : Note → Notes → Option Notes
marked (DeclareInput count) n = Some (record n { inputs = count })
marked (DeclareOutput count) n = Some (record n { outputs = count })
marked (DeclareSize count) n = Some (record n { sizes = count })
marked (DeclareVariable count) n = Some (record n { variables = count })
marked (DeclareVector count) n = Some (record n { vectors = count })
marked (DeclareLocal elements) n = Some (record n { locals = n.locals ++ elements ∷ [] })
marked (DeclarePrivate elements) n = Some (record n { privates = n.privates ++ elements ∷ [] })
marked (FixLocal width height) n = Some (record n { local = Some (width, height) })
marked (Leaf e) n = Some (noted n (e ∷ n.values) n.blocks)
marked (Both op) n = both_of n op n.values
marked (Either c) n = either_of n c n.values
marked (LeafVector k) n = Some (with_lanes n n.values (Vector k ∷ n.lanes) n.blocks)
marked SpreadOut n = spread_of n n.values
marked (EachOf op) n = each_of n op n.lanes
marked Stop n = Some (noted n n.values (End ∷ n.blocks))
marked (Assign k) n = assign_of n k n.values n.blocks
marked (Load k array) n = load_of n k array n.values n.blocks
marked (Store array) n = store_of n array n.values n.blocks
marked (AssignFour k) n = assign_four_of n k n.lanes n.blocks
marked (LoadFour k array) n = load_four_of n k array n.values n.blocks
marked (StoreFour array) n = store_four_of n array n.values n.lanes n.blocks
marked (Loop s c) n = loop_of n s c n.values n.blocks
marked (Guard s) n = guard_of n s n.values n.blocks
marked (Sync on_local on_global) n = sync_of n on_local on_global n.blocks

-- the kernel grammar
abbrev pub kernels : Grammar Piece Part Note Notes
kernels = record { Gives = Gives; marked = marked }

-- ---- a whole text

-- the name of a kernel that stands alone
abbrev pub lift : Piece
lift = codes "lift"

-- __kernel, the groups' size if any, void, the kernel's name with the parameters, and then the body
-- in braces
abbrev pub start : (name : Piece) → List Item
start name =
    texts (codes "__kernel" ∷ space ∷ []) ++ Form Launching ∷ texts (space ∷ name ∷ opens ∷ [])
    ++ Form Parameter ∷ texts (line ∷ block_begins ∷ line ∷ []) ++ Form (Indent 1) ∷ Form Locals
    ∷ []

-- nothing is noted yet
abbrev pub nothing : Notes
nothing = record {
  inputs = 0;
  outputs = 0;
  sizes = 0;
  locals = [];
  privates = [];
  variables = 0;
  vectors = 0;
  local = None;
  values = [];
  lanes = [];
  blocks = [];
}

-- the notes of a kernel, once its one block was made
abbrev pub all_of : Kernel → Notes
all_of k = record {
  inputs = k.inputs;
  outputs = k.outputs;
  sizes = k.sizes;
  locals = k.locals;
  privates = k.privates;
  variables = k.variables;
  vectors = k.vectors;
  local = k.local;
  values = [];
  lanes = [];
  blocks = k.code ∷ [];
}

-- the bytes are the text of the kernel of this name
abbrev pub IsKernelText : (name : Piece) → List ℕ → Kernel → Type 0
IsKernelText name bytes k =
    (pieces : List Piece) × ArePieces bytes pieces
    × Reads kernels (start name) nothing pieces [] (all_of k)
