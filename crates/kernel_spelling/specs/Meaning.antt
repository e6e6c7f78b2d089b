-- What the forms of a kernel's text mean: what they note, and how that is spelled.
use Rattle.std.specs.Prelude.{◌≡◌, ℕ, suc, ◌+◌, ◌≤◌, ◌<◌, Bool, true, false, List, ◌∷◌, ◌++◌, Option, Some, None, nat_lt, length, decimal}
use Rattle.scalar_ops.specs.declared.op.Op.{Op}
use Rattle.kernel_tree.specs.declared.tree.Dimension.{Dimension}
use Rattle.kernel_tree.specs.Formula.{IdForm, Comparison, Formula, Id, Binary, Choose, Lanes, Each}
use Rattle.kernel_tree.specs.Code.{Array, Output, Local, Private, Start, Stride, Code, Kernel}
use Rattle.kernel_tree.specs.Grammar.{deepest, height, lanes_height, is_operator, is_constant, names_declared, names_declared_in_lanes, is_readable, is_writable, is_shared, has_statement, are_statements, are_lengths, is_group_size}
use Rattle.kernel_tree.specs.KernelText.{Piece, noted, local, space, line, comma, semicolon, star, less, question, colon, opens, closes, index_begins, global, const, uint, uint4, barrier, local_flag, dimension, attribute, group_size, id_name, indent, array_name, size, loop_variable, number_limit, Part, Launching, GroupWidth, GroupHeight, Parameter, Pointer, NewInput, NewOutput, AfterOutput, OutputOrSize, NewSize, AfterSize, Locals, NewLocal, LocalLength, Privates, Declared, PrivateLength, Variables, NewVariable, Vectors, NewVector, Statement, Next, Source, SourceOfFour, LoadedFour, StoredFour, Fence, AfterLocal, Beginning, BeginningId, BeginningAlong, Step, StepId, StepAlong, Turn, Indent, Value, Opened, InLanes, LanesOpened, LanesRest, LanesAfterLess, IdName, IdAlong, Rest, AfterLess, Notes, counted, with_lanes, load_four_of, store_four_of, loop_of}
use Rattle.kernel_spelling.specs.Spelling.{is_called, spell_sign, spell_comparison, spell, spell_lanes, spell_stride, block_line, start_line, assign_line, assign_four_line, spell_code, spell_locals, spell_privates, spell_variables, spell_vectors, spell_sizes, spell_outputs, spell_inputs, first_output, spell_launching}

-- the names declared so far have numbers below 2 ^ 32
pub record CountsFit (n : Notes) : Type 0 where
  pub inputs : n.inputs < number_limit
  pub outputs : n.outputs < number_limit
  pub sizes : n.sizes < number_limit
  pub locals : length n.locals < number_limit
  pub privates : length n.privates < number_limit
  pub variables : n.variables < number_limit
  pub vectors : n.vectors < number_limit

-- ---- expressions

-- the expression is of declared names, in a bound of sizes and numbers alone, and not too deep
abbrev pub FitsAt : Notes → (bound : Bool) → (loops depth : ℕ) → Formula → Type 0
FitsAt n b l d e =
    (names_declared (counted n) l e ≡ true) × (b ≡ true → is_constant e ≡ true)
    × (height e + d ≤ suc deepest)

-- first: what stands before it
pub record IsValue (first : List Piece → List Piece) (n : Notes) (b : Bool) (l d : ℕ)
    (ts : List Piece) (n1 : Notes) (back : List Piece) : Type 0 where
  pub value : Formula
  pub fits : FitsAt n b l d value
  pub spelled : first ts ≡ spell value back
  pub noted : n1 ≡ noted n (value ∷ n.values) n.blocks

-- what follows the left part of an expression in parentheses: an operator and its right part, or a
-- comparison with that and the choices
pub data Tail : Type 0 where
  Operated : Op → Formula → Tail
  Compared : Comparison → (right yes no : Formula) → Tail

-- the expression whose left part this is, and what follows it
abbrev pub with_tail : Formula → Tail → Formula
with_tail a (Operated op b) = Binary op a b
with_tail a (Compared c b x y) = Choose c a b x y

-- the pieces of what follows a left part, up to the closing parenthesis
abbrev pub spell_tail : Tail → List Piece → List Piece
spell_tail (Operated op b) back = spell_sign op (space ∷ spell b (closes ∷ back))
spell_tail (Compared c b x y) back =
    spell_comparison c
    (space
    ∷ spell b
    (space ∷ question ∷ space ∷ spell x (space ∷ colon ∷ space ∷ spell y (closes ∷ back))))

-- its parts may stand here, and its operator is one that stands between them
abbrev pub TailFits : Notes → (bound : Bool) → (loops depth : ℕ) → Tail → Type 0
TailFits n b l d (Operated op e) =
    (is_operator op ≡ true) × (is_called op ≡ false) × FitsAt n b l d e
TailFits n b l d (Compared c e x y) = FitsAt n b l d e × FitsAt n b l d x × FitsAt n b l d y

-- what follows a left part, which was noted as the last expression
pub record IsTail (first : List Piece → List Piece) (n : Notes) (b : Bool) (l d : ℕ)
    (ts : List Piece) (n1 : Notes) (back : List Piece) : Type 0 where
  pub tail : Tail
  pub fits : TailFits n b l d tail
  pub spelled : first ts ≡ spell_tail tail back
  pub noted : (a : Formula) (values : List Formula) → n.values ≡ a ∷ values
      → n1 ≡ noted n (with_tail a tail ∷ values) n.blocks

-- an id in a dimension
pub record IsId (first : List Piece → List Piece) (n : Notes) (ts : List Piece) (n1 : Notes)
    (back : List Piece) : Type 0 where
  pub along : Dimension
  pub form : IdForm
  pub spelled : first ts ≡ id_name form ∷ opens ∷ dimension along ∷ closes ∷ back
  pub noted : n1 ≡ noted n (Id along form ∷ n.values) n.blocks

-- ---- expressions of four words

-- an expression of declared names that stands at this depth
abbrev pub LanesFit : Notes → (loops depth : ℕ) → Lanes → Type 0
LanesFit n l d e =
    (names_declared_in_lanes (counted n) l e ≡ true) × (lanes_height e + d ≤ suc deepest)

-- first: what stands before it
pub record AreLanes (first : List Piece → List Piece) (n : Notes) (l d : ℕ) (ts : List Piece)
    (n1 : Notes) (back : List Piece) : Type 0 where
  pub value : Lanes
  pub fits : LanesFit n l d value
  pub spelled : first ts ≡ spell_lanes value back
  pub noted : n1 ≡ with_lanes n n.values (value ∷ n.lanes) n.blocks

-- an operator and its right part
pub record IsLanesTail (first : List Piece → List Piece) (n : Notes) (l d : ℕ) (ts : List Piece)
    (n1 : Notes) (back : List Piece) : Type 0 where
  pub op : Op
  pub right : Lanes
  pub operator : is_operator op ≡ true
  pub between : is_called op ≡ false
  pub fits : LanesFit n l d right
  pub spelled : first ts ≡ spell_sign op (space ∷ spell_lanes right (closes ∷ back))
  pub noted : (a : Lanes) (lanes : List Lanes) → n.lanes ≡ a ∷ lanes
      → n1 ≡ with_lanes n n.values (Each op a right ∷ lanes) n.blocks

-- ---- statements

-- what is left of a block
pub record IsCode (first : List Piece → List Piece) (n : Notes) (l nest : ℕ) (ts : List Piece)
    (n1 : Notes) (back : List Piece) : Type 0 where
  pub code : Code
  pub fits : are_statements (counted n) l nest code ≡ true
  pub spelled : first ts ≡ spell_code l nest code back
  pub noted : n1 ≡ noted n n.values (code ∷ n.blocks)

-- the same, and not its end
abbrev pub IsStatement : (List Piece → List Piece) → Notes → (loops nest : ℕ) → List Piece → Notes
    → List Piece → Type 0
IsStatement first n l nest ts n1 back =
    (c : IsCode first n l nest ts n1 back) × (has_statement c.code ≡ true)

-- what is added to a loop's variable, its body, and what follows in the block
pub record IsRound (first : List Piece → List Piece) (n : Notes) (l nest : ℕ) (s : Start)
    (ts : List Piece) (n1 : Notes) (back : List Piece) : Type 0 where
  pub stride : Stride
  pub body : Code
  pub after : Code
  pub some : has_statement body ≡ true
  pub body_fits : are_statements (counted n) (suc l) (suc nest) body ≡ true
  pub after_fits : are_statements (counted n) l nest after ≡ true
  pub spelled : first ts
      ≡ spell_stride stride
      (block_line (spell_code (suc l) (suc nest) body (spell_code l nest after back)))
  pub noted : loop_of n s stride n.values (after ∷ body ∷ n.blocks) ≡ Some n1

-- the array of which four cells are loaded or to which four are stored, where it may be, and what
-- follows in the block
pub record IsShared (may : Kernel → Array → Bool) (made : Array → List Code → Option Notes)
    (n : Notes) (l nest : ℕ) (ts : List Piece) (n1 : Notes) (back : List Piece) : Type 0 where
  pub array : Array
  pub after : Code
  pub shared : is_shared array ≡ true
  pub allowed : may (counted n) array ≡ true
  pub after_fits : are_statements (counted n) l nest after ≡ true
  pub spelled : ts ≡ array_name array ∷ closes ∷ semicolon ∷ line ∷ spell_code l nest after back
  pub noted : made array (after ∷ n.blocks) ≡ Some n1

-- ---- declarations, and then statements

-- variables of four words, and then statements
pub record AreVectors (first : List Piece → List Piece) (n : Notes) (ts : List Piece) (n1 : Notes)
    (back : List Piece) : Type 0 where
  pub vectors : ℕ
  pub code : Code
  pub fits : are_statements (counted n1) 0 0 code ≡ true
  pub some : has_statement code ≡ true
  pub spelled : first ts ≡ spell_vectors n.vectors vectors (spell_code 0 0 code back)
  pub noted : n1 ≡ record n { vectors = n.vectors + vectors; blocks = code ∷ n.blocks }
  pub few : CountsFit n → CountsFit n1

-- variables, and then vectors
pub record AreVariables (first : List Piece → List Piece) (n : Notes) (ts : List Piece) (n1 : Notes)
    (back : List Piece) : Type 0 where
  pub more : ℕ
  pub vectors : ℕ
  pub code : Code
  pub fits : are_statements (counted n1) 0 0 code ≡ true
  pub some : has_statement code ≡ true
  pub spelled : first ts
      ≡ spell_variables n.variables more
      (spell_vectors n.vectors vectors (spell_code 0 0 code back))
  pub noted : n1
      ≡ record n {
        variables = n.variables + more;
        vectors = n.vectors + vectors;
        blocks = code
            ∷ n.blocks;
      }
  pub few : CountsFit n → CountsFit n1

-- private arrays, and then variables
pub record ArePrivates (first : List Piece → List Piece) (n : Notes) (ts : List Piece) (n1 : Notes)
    (back : List Piece) : Type 0 where
  pub privates : List ℕ
  pub more : ℕ
  pub vectors : ℕ
  pub code : Code
  pub fits : are_statements (counted n1) 0 0 code ≡ true
  pub some : has_statement code ≡ true
  pub lengths : are_lengths privates ≡ true
  pub spelled : first ts
      ≡ spell_privates (length n.privates) privates
      (spell_variables n.variables more
      (spell_vectors n.vectors vectors (spell_code 0 0 code back)))
  pub noted : n1
      ≡ record n {
        privates = n.privates
            ++ privates;
        variables = n.variables + more;
        vectors = n.vectors + vectors;
        blocks = code
            ∷ n.blocks;
      }
  pub few : CountsFit n → CountsFit n1

-- local arrays, and then private arrays
pub record AreLocals (first : List Piece → List Piece) (n : Notes) (ts : List Piece) (n1 : Notes)
    (back : List Piece) : Type 0 where
  pub locals : List ℕ
  pub privates : List ℕ
  pub more : ℕ
  pub vectors : ℕ
  pub code : Code
  pub fits : are_statements (counted n1) 0 0 code ≡ true
  pub some : has_statement code ≡ true
  pub local_lengths : are_lengths locals ≡ true
  pub private_lengths : are_lengths privates ≡ true
  pub spelled : first ts
      ≡ spell_locals (length n.locals) locals
      (spell_privates (length n.privates) privates
      (spell_variables n.variables more
      (spell_vectors n.vectors vectors (spell_code 0 0 code back))))
  pub noted : n1
      ≡ record n {
        locals = n.locals ++ locals;
        privates = n.privates
            ++ privates;
        variables = n.variables + more;
        vectors = n.vectors + vectors;
        blocks = code
            ∷ n.blocks;
      }
  pub few : CountsFit n → CountsFit n1

-- ---- sizes, outputs and inputs, each behind what stands before it

-- the sizes
pub record AreSizes (first : List Piece → List Piece) (n : Notes) (ts : List Piece) (n1 : Notes)
    (back : List Piece) : Type 0 where
  pub sizes : ℕ
  pub spelled : first ts ≡ spell_sizes n.sizes sizes back
  pub noted : n1 ≡ record n { sizes = n.sizes + sizes }
  pub few : CountsFit n → CountsFit n1

-- further outputs, and then sizes
pub record AreOutputs (first : List Piece → List Piece) (n : Notes) (ts : List Piece) (n1 : Notes)
    (back : List Piece) : Type 0 where
  pub outputs : ℕ
  pub sizes : ℕ
  pub spelled : first ts ≡ spell_outputs n.outputs outputs (spell_sizes n.sizes sizes back)
  pub noted : n1 ≡ record n { outputs = n.outputs + outputs; sizes = n.sizes + sizes }
  pub few : CountsFit n → CountsFit n1

-- an output, and what follows it
pub record IsNewOutput (n : Notes) (ts : List Piece) (n1 : Notes) (back : List Piece) : Type 0 where
  pub outputs : ℕ
  pub sizes : ℕ
  pub spelled : ts ≡ array_name (Output n.outputs)
      ∷ spell_outputs (suc n.outputs) outputs (spell_sizes n.sizes sizes back)
  pub noted : n1 ≡ record n { outputs = n.outputs + suc outputs; sizes = n.sizes + sizes }
  pub few : CountsFit n → CountsFit n1

-- inputs, at least one output, and then sizes
pub record AreParameters (first : List Piece → List Piece) (n : Notes) (ts : List Piece)
    (n1 : Notes) (back : List Piece) : Type 0 where
  pub inputs : ℕ
  pub outputs : ℕ
  pub sizes : ℕ
  pub spelled : first ts
      ≡ spell_inputs n.inputs inputs
      (first_output n.outputs
      (spell_outputs (suc n.outputs) outputs (spell_sizes n.sizes sizes back)))
  pub noted : n1
      ≡ record n {
        inputs = n.inputs + inputs;
        outputs = n.outputs + suc outputs;
        sizes = n.sizes
            + sizes;
      }
  pub few : CountsFit n → CountsFit n1

-- ---- the groups' size

-- the notes with this size of the groups, where there is one
abbrev pub fixed : Notes → Option (ℕ × ℕ) → Notes
fixed n None = n
fixed n (Some size) = record n { local = Some size }

-- the size of the groups, where there is one, and void
pub record IsLaunching (first : List Piece → List Piece) (n : Notes) (ts : List Piece) (n1 : Notes)
    (back : List Piece) : Type 0 where
  pub local : Option (ℕ × ℕ)
  pub fits : is_group_size local ≡ true
  pub spelled : first ts ≡ spell_launching local back
  pub noted : n1 ≡ fixed n local

-- what stands before the first number of a size
abbrev pub width_line : List Piece → List Piece
width_line back = attribute ∷ opens ∷ opens ∷ group_size ∷ opens ∷ back

-- ---- all forms

-- what stands before the length of a new array
abbrev pub local_line : Notes → List Piece → List Piece
local_line n back =
    indent 1 ∷ local ∷ space ∷ uint ∷ space ∷ array_name (Local (length n.locals)) ∷ index_begins
    ∷ back

-- what stands before the length of a new private array
abbrev pub private_line : Notes → List Piece → List Piece
private_line n back =
    indent 1 ∷ uint ∷ space ∷ array_name (Private (length n.privates)) ∷ index_begins ∷ back

-- what a form means: with the notes n it takes the pieces ts up to back, and then the notes are n1
abbrev pub Means : Notes → Part → List Piece → Notes → List Piece → Type 0
Means n Launching ts n1 back = IsLaunching (λ z. z) n ts n1 back
Means n GroupWidth ts n1 back = IsLaunching width_line n ts n1 back
Means n (GroupHeight v) ts n1 back =
    nat_lt 0 v ≡ true → IsLaunching (λ z. width_line (decimal v ∷ comma ∷ space ∷ z)) n ts n1 back
Means n Parameter ts n1 back = AreParameters (λ z. z) n ts n1 back
Means n Pointer ts n1 back = AreParameters (λ z. global ∷ space ∷ z) n ts n1 back
Means n NewInput ts n1 back =
    AreParameters (λ z. global ∷ space ∷ const ∷ space ∷ uint ∷ space ∷ star ∷ z) n ts n1 back
Means n NewOutput ts n1 back = IsNewOutput n ts n1 back
Means n AfterOutput ts n1 back = AreOutputs (λ z. z) n ts n1 back
Means n OutputOrSize ts n1 back = AreOutputs (λ z. comma ∷ space ∷ z) n ts n1 back
Means n NewSize ts n1 back =
    AreSizes (λ z. comma ∷ space ∷ const ∷ space ∷ uint ∷ space ∷ z) n ts n1 back
Means n AfterSize ts n1 back = AreSizes (λ z. z) n ts n1 back
Means n Locals ts n1 back = AreLocals (λ z. indent 1 ∷ z) n ts n1 back
Means n NewLocal ts n1 back =
    AreLocals (λ z. indent 1 ∷ local ∷ space ∷ uint ∷ space ∷ z) n ts n1 back
Means n LocalLength ts n1 back =
    suc (length n.locals) < number_limit → AreLocals (local_line n) n ts n1 back
Means n Privates ts n1 back = ArePrivates (λ z. indent 1 ∷ z) n ts n1 back
Means n Declared ts n1 back = ArePrivates (λ z. indent 1 ∷ uint ∷ space ∷ z) n ts n1 back
Means n PrivateLength ts n1 back =
    suc (length n.privates) < number_limit → ArePrivates (private_line n) n ts n1 back
Means n Variables ts n1 back = AreVariables (λ z. indent 1 ∷ z) n ts n1 back
Means n NewVariable ts n1 back = AreVariables (λ z. indent 1 ∷ uint ∷ space ∷ z) n ts n1 back
Means n Vectors ts n1 back = AreVectors (λ z. indent 1 ∷ z) n ts n1 back
Means n NewVector ts n1 back = AreVectors (λ z. indent 1 ∷ uint4 ∷ space ∷ z) n ts n1 back
Means n (Statement l nest) ts n1 back = IsStatement (λ z. indent (suc nest) ∷ z) n l nest ts n1 back
Means n (Next l nest) ts n1 back = IsCode (λ z. z) n l nest ts n1 back
Means n (Source l nest k) ts n1 back =
    nat_lt k n.variables ≡ true
    → IsStatement (λ z. indent (suc nest) ∷ assign_line k z) n l nest ts n1 back
Means n (SourceOfFour l nest k) ts n1 back =
    nat_lt k n.vectors ≡ true
    → IsStatement (λ z. indent (suc nest) ∷ assign_four_line k z) n l nest ts n1 back
Means n (LoadedFour l nest k) ts n1 back =
    IsShared is_readable (λ a blocks. load_four_of n k a n.values blocks) n l nest ts n1 back
Means n (StoredFour l nest) ts n1 back =
    IsShared is_writable (λ a blocks. store_four_of n a n.values n.lanes blocks) n l nest ts n1 back
Means n (Fence l nest) ts n1 back =
    IsStatement (λ z. indent (suc nest) ∷ barrier ∷ opens ∷ z) n l nest ts n1 back
Means n (AfterLocal l nest) ts n1 back =
    IsStatement (λ z. indent (suc nest) ∷ barrier ∷ opens ∷ local_flag ∷ z) n l nest ts n1 back
Means n (Beginning g l nest) ts n1 back =
    nat_lt nest deepest ≡ true
    → IsStatement (λ z. indent (suc nest) ∷ start_line g l z) n l nest ts n1 back
Means n (BeginningId g l nest) ts n1 back =
    nat_lt nest deepest ≡ true
    → IsStatement
    (λ z. indent (suc nest) ∷ start_line g l (opens ∷ uint ∷ closes ∷ z)) n l nest ts n1 back
Means n (BeginningAlong g l nest form) ts n1 back =
    nat_lt nest deepest ≡ true
    → IsStatement
    (λ z. indent (suc nest)
    ∷ start_line g l (opens ∷ uint ∷ closes ∷ id_name form ∷ opens ∷ z)) n l nest ts n1 back
Means n (Step l nest s) ts n1 back = IsRound (λ z. z) n l nest s ts n1 back
Means n (StepId l nest s) ts n1 back =
    IsRound (λ z. opens ∷ uint ∷ closes ∷ z) n l nest s ts n1 back
Means n (StepAlong l nest s form) ts n1 back =
    IsRound (λ z. opens ∷ uint ∷ closes ∷ id_name form ∷ opens ∷ z) n l nest s ts n1 back
Means n (Turn l) ts n1 back = (ts ≡ loop_variable l ∷ back) × (n ≡ n1)
Means n (Indent l) ts n1 back = (ts ≡ indent l ∷ back) × (n ≡ n1)
Means n (Value b l d) ts n1 back = IsValue (λ z. z) n b l d ts n1 back
Means n (Opened b l d) ts n1 back = d ≤ deepest → IsValue (λ z. opens ∷ z) n b l d ts n1 back
Means n (InLanes l d) ts n1 back = AreLanes (λ z. z) n l d ts n1 back
Means n (LanesOpened l d) ts n1 back = d ≤ deepest → AreLanes (λ z. opens ∷ z) n l d ts n1 back
Means n (LanesRest l d) ts n1 back = IsLanesTail (λ z. z) n l d ts n1 back
Means n (LanesAfterLess l d) ts n1 back = IsLanesTail (λ z. less ∷ z) n l d ts n1 back
Means n IdName ts n1 back = IsId (λ z. z) n ts n1 back
Means n (IdAlong form) ts n1 back = IsId (λ z. id_name form ∷ opens ∷ z) n ts n1 back
Means n (Rest b l d) ts n1 back = IsTail (λ z. z) n b l d ts n1 back
Means n (AfterLess b l d) ts n1 back = IsTail (λ z. less ∷ z) n b l d ts n1 back
