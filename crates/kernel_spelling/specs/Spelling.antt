-- The one spelling of a kernel, as pieces. Each takes what comes after it.
use Rattle.std.specs.Prelude.{◌≡◌, ℕ, zero, suc, ◌<◌, List, [], ◌∷◌, Option, Some, None, codes, length, decimal, Bool, true, false, ◌&&◌}
use Rattle.scalar_ops.specs.declared.op.Op.{Op}
use Rattle.scalar_ops.specs.declared.op.Op.TheVariants.{Add, Mul, Min, Max, And, Or, Xor, Sub, Shl, Shr, Div, Rem, Lt, Eq}
use Rattle.kernel_tree.specs.declared.tree.Dimension.{Dimension}
use Rattle.kernel_tree.specs.Formula.{IdForm, GlobalId, GroupId, LocalId, GlobalSize, GroupCount, LocalSize, Comparison, Less, Equal, Formula, Number, Variable, LoopVariable, Size, Id, Binary, Choose, Lanes, Vector, Spread, Each}
use Rattle.kernel_tree.specs.Code.{Input, Output, Local, Private, Statement, Start, FromZero, FromGlobalId, FromGroupId, FromLocalId, Stride, ByOne, ByGlobalSize, ByGroupCount, ByLocalSize, Code, End, Performs, Assigns, Loads, Stores, AssignsFour, LoadsFour, StoresFour, Loops, Guards, Syncs, Kernel}
use Rattle.kernel_tree.specs.Grammar.{is_kernel}
use Rattle.kernel_tree.specs.Pieces.{is_word, joined}
use Rattle.kernel_tree.specs.KernelText.{Piece, space, line, comma, semicolon, star, equals, less, plus, minus, slash, percent, ampersand, bar, caret, greater, question, colon, opens, closes, index_begins, index_ends, block_begins, block_ends, global, local, const, uint, uint4, loads_four, stores_four, for, whether, barrier, local_flag, global_flag, least, greatest, one, dimension, void, attribute, group_size, id_name, indent, array_name, size, variable, vector, loop_variable, literal, zero_literal, one_literal, number_limit}

-- ---- expressions

-- an id in a dimension
abbrev pub spell_id : Dimension → IdForm → List Piece → List Piece
spell_id d form back = opens ∷ uint ∷ closes ∷ id_name form ∷ opens ∷ dimension d ∷ closes ∷ back

-- these two are called by name; the others stand between their operands
abbrev pub is_called : Op → Bool
is_called Min = true
is_called Max = true
is_called Add = false
is_called Mul = false
is_called And = false
is_called Or = false
is_called Xor = false
is_called Sub = false
is_called Shl = false
is_called Shr = false
is_called Div = false
is_called Rem = false
is_called Lt = false
is_called Eq = false

-- the sign of an operator that stands between its operands
abbrev pub spell_sign : Op → List Piece → List Piece
spell_sign Add back = plus ∷ back
spell_sign Sub back = minus ∷ back
spell_sign Mul back = star ∷ back
spell_sign Div back = slash ∷ back
spell_sign Rem back = percent ∷ back
spell_sign And back = ampersand ∷ back
spell_sign Or back = bar ∷ back
spell_sign Xor back = caret ∷ back
spell_sign Shl back = less ∷ less ∷ back
spell_sign Shr back = greater ∷ greater ∷ back
spell_sign Min back = back
spell_sign Max back = back
spell_sign Lt back = less ∷ back
spell_sign Eq back = equals ∷ equals ∷ back

-- what a conditional compares by
abbrev pub spell_comparison : Comparison → List Piece → List Piece
spell_comparison Less back = less ∷ back
spell_comparison Equal back = equals ∷ equals ∷ back

-- an expression
abbrev pub spell : Formula → List Piece → List Piece
spell (Number v) back = literal v ∷ back
spell (Variable k) back = variable k ∷ back
spell (LoopVariable k) back = loop_variable k ∷ back
spell (Size k) back = size k ∷ back
spell (Id d form) back = spell_id d form back
spell (Binary Min a b) back = least ∷ opens ∷ spell a (comma ∷ space ∷ spell b (closes ∷ back))
spell (Binary Max a b) back = greatest ∷ opens ∷ spell a (comma ∷ space ∷ spell b (closes ∷ back))
spell (Binary op a b) back =
    opens ∷ spell a (space ∷ spell_sign op (space ∷ spell b (closes ∷ back)))
spell (Choose c a b x y) back =
    opens
    ∷ spell a
    (space
    ∷ spell_comparison c
    (space
    ∷ spell b
    (space ∷ question ∷ space
    ∷ spell x (space ∷ colon ∷ space ∷ spell y (closes ∷ back)))))

-- an expression of four words
abbrev pub spell_lanes : Lanes → List Piece → List Piece
spell_lanes (Vector k) back = vector k ∷ back
spell_lanes (Spread e) back = opens ∷ uint4 ∷ closes ∷ opens ∷ spell e (closes ∷ back)
spell_lanes (Each Min a b) back =
    least ∷ opens ∷ spell_lanes a (comma ∷ space ∷ spell_lanes b (closes ∷ back))
spell_lanes (Each Max a b) back =
    greatest ∷ opens ∷ spell_lanes a (comma ∷ space ∷ spell_lanes b (closes ∷ back))
spell_lanes (Each op a b) back =
    opens ∷ spell_lanes a (space ∷ spell_sign op (space ∷ spell_lanes b (closes ∷ back)))

-- ---- statements

-- the end of a block within this many loops and ifs
abbrev pub spell_end : ℕ → List Piece → List Piece
spell_end zero back = block_ends ∷ line ∷ back
spell_end (suc nest) back = indent (suc nest) ∷ block_ends ∷ line ∷ back

-- what a loop's variable begins with, or an if compares
abbrev pub spell_start : Start → List Piece → List Piece
spell_start FromZero back = zero_literal ∷ back
spell_start (FromGlobalId d) back = spell_id d GlobalId back
spell_start (FromGroupId d) back = spell_id d GroupId back
spell_start (FromLocalId d) back = spell_id d LocalId back

-- what is added to a loop's variable
abbrev pub spell_stride : Stride → List Piece → List Piece
spell_stride ByOne back = one_literal ∷ back
spell_stride (ByGlobalSize d) back = spell_id d GlobalSize back
spell_stride (ByGroupCount d) back = spell_id d GroupCount back
spell_stride (ByLocalSize d) back = spell_id d LocalSize back

-- a loop's line: before what its variable begins with, before its bound, before its step, and
-- behind that
abbrev pub loop_line : ℕ → List Piece → List Piece
loop_line l back =
    for ∷ space ∷ opens ∷ uint ∷ space ∷ loop_variable l ∷ space ∷ equals ∷ space ∷ back

-- between what a loop's variable begins with and its bound
abbrev pub test_line : ℕ → List Piece → List Piece
test_line l back = semicolon ∷ space ∷ loop_variable l ∷ space ∷ less ∷ space ∷ back

-- between its bound and its step
abbrev pub step_line : ℕ → List Piece → List Piece
step_line l back = semicolon ∷ space ∷ loop_variable l ∷ space ∷ plus ∷ equals ∷ space ∷ back

-- behind its step, or behind an if's bound
abbrev pub block_line : List Piece → List Piece
block_line back = closes ∷ space ∷ block_begins ∷ line ∷ back

-- an if's line, before what it compares
abbrev pub guard_line : List Piece → List Piece
guard_line back = whether ∷ space ∷ opens ∷ back

-- between that and its bound
abbrev pub below_line : List Piece → List Piece
below_line back = space ∷ less ∷ space ∷ back

-- before the start of an if, or of a loop within this many loops
abbrev pub start_line : (guard : Bool) → ℕ → List Piece → List Piece
start_line true l back = guard_line back
start_line false l back = loop_line l back

-- a barrier's flags
abbrev pub spell_flags : (on_local on_global : Bool) → List Piece → List Piece
spell_flags true true back = local_flag ∷ space ∷ bar ∷ space ∷ global_flag ∷ back
spell_flags true false back = local_flag ∷ back
spell_flags false true back = global_flag ∷ back
spell_flags false false back = back

-- before what a variable is assigned, and a variable of four words
abbrev pub assign_line : ℕ → List Piece → List Piece
assign_line k back = variable k ∷ space ∷ equals ∷ space ∷ back

-- the same of a variable of four words
abbrev pub assign_four_line : ℕ → List Piece → List Piece
assign_four_line k back = vector k ∷ space ∷ equals ∷ space ∷ back

-- a statement without a block, behind its indent, up to its semicolon
abbrev pub spell_statement : Statement → List Piece → List Piece
spell_statement (Assigns k e) back = assign_line k (spell e back)
spell_statement (Loads k array i) back =
    assign_line k (array_name array ∷ index_begins ∷ spell i (index_ends ∷ back))
spell_statement (Stores array i e) back =
    array_name array ∷ index_begins
    ∷ spell i (index_ends ∷ space ∷ equals ∷ space ∷ spell e back)
spell_statement (AssignsFour k e) back = assign_four_line k (spell_lanes e back)
spell_statement (LoadsFour k array i) back =
    assign_four_line k
    (loads_four ∷ opens ∷ spell i (comma ∷ space ∷ array_name array ∷ closes ∷ back))
spell_statement (StoresFour array i e) back =
    stores_four ∷ opens
    ∷ spell_lanes e
    (comma ∷ space ∷ spell i (comma ∷ space ∷ array_name array ∷ closes ∷ back))
spell_statement (Syncs on_local on_global) back =
    barrier ∷ opens ∷ spell_flags on_local on_global (closes ∷ back)

-- the statements within l loops, at this depth in loops and ifs, and the end of their block
abbrev pub spell_code : (loops nest : ℕ) → Code → List Piece → List Piece
spell_code l nest End back = spell_end nest back
spell_code l nest (Performs s after) back =
    indent (suc nest) ∷ spell_statement s (semicolon ∷ line ∷ spell_code l nest after back)
spell_code l nest (Loops start b stride body after) back =
    indent (suc nest)
    ∷ loop_line l (spell_start start (test_line l (spell b (step_line l (spell_stride stride
    (block_line (spell_code (suc l) (suc nest) body (spell_code l nest after back))))))))
spell_code l nest (Guards start b body after) back =
    indent (suc nest)
    ∷ guard_line (spell_start start (below_line (spell b (block_line
    (spell_code l (suc nest) body (spell_code l nest after back))))))

-- ---- declarations

-- arrays of these lengths, from the i-th on
abbrev pub spell_locals : ℕ → List ℕ → List Piece → List Piece
spell_locals i [] back = back
spell_locals i (n ∷ ns) back =
    indent 1 ∷ local ∷ space ∷ uint ∷ space ∷ array_name (Local i) ∷ index_begins ∷ decimal n
    ∷ index_ends ∷ semicolon ∷ line ∷ spell_locals (suc i) ns back

-- private arrays of these lengths, from the i-th on
abbrev pub spell_privates : ℕ → List ℕ → List Piece → List Piece
spell_privates i [] back = back
spell_privates i (n ∷ ns) back =
    indent 1 ∷ uint ∷ space ∷ array_name (Private i) ∷ index_begins ∷ decimal n ∷ index_ends
    ∷ semicolon ∷ line ∷ spell_privates (suc i) ns back

-- this many variables, from the i-th on
abbrev pub spell_variables : ℕ → ℕ → List Piece → List Piece
spell_variables i zero back = back
spell_variables i (suc more) back =
    indent 1 ∷ uint ∷ space ∷ variable i ∷ semicolon ∷ line ∷ spell_variables (suc i) more back

-- this many variables of four words, from the i-th on
abbrev pub spell_vectors : ℕ → ℕ → List Piece → List Piece
spell_vectors i zero back = back
spell_vectors i (suc more) back =
    indent 1 ∷ uint4 ∷ space ∷ vector i ∷ semicolon ∷ line ∷ spell_vectors (suc i) more back

-- ---- parameters

-- this many sizes from the i-th on, behind another parameter, and the end of the parameters
abbrev pub spell_sizes : ℕ → ℕ → List Piece → List Piece
spell_sizes i zero back = closes ∷ back
spell_sizes i (suc more) back =
    comma ∷ space ∷ const ∷ space ∷ uint ∷ space ∷ size i ∷ spell_sizes (suc i) more back

-- this many outputs from the i-th on, behind another
abbrev pub spell_outputs : ℕ → ℕ → List Piece → List Piece
spell_outputs i zero back = back
spell_outputs i (suc more) back =
    comma ∷ space ∷ global ∷ space ∷ uint ∷ space ∷ star ∷ array_name (Output i)
    ∷ spell_outputs (suc i) more back

-- this many inputs from the i-th on, before another parameter
abbrev pub spell_inputs : ℕ → ℕ → List Piece → List Piece
spell_inputs i zero back = back
spell_inputs i (suc more) back =
    global ∷ space ∷ const ∷ space ∷ uint ∷ space ∷ star ∷ array_name (Input i) ∷ comma ∷ space
    ∷ spell_inputs (suc i) more back

-- the first output, which ends the inputs
abbrev pub first_output : ℕ → List Piece → List Piece
first_output o back = global ∷ space ∷ uint ∷ space ∷ star ∷ array_name (Output o) ∷ back

-- ---- the whole

-- the size of the groups, where there is one, and void
abbrev pub spell_launching : Option (ℕ × ℕ) → List Piece → List Piece
spell_launching None back = void ∷ back
spell_launching (Some local) back =
    attribute ∷ opens ∷ opens ∷ group_size ∷ opens ∷ decimal local.0 ∷ comma ∷ space
    ∷ decimal local.1 ∷ comma ∷ space ∷ one ∷ closes ∷ closes ∷ closes ∷ space ∷ void ∷ back

-- what stands before the parameters
abbrev pub spell_head : (name : Piece) → Option (ℕ × ℕ) → List Piece → List Piece
spell_head name local back =
    codes "__kernel" ∷ space ∷ spell_launching local (space ∷ name ∷ opens ∷ back)

-- what stands behind the parameters
abbrev pub spell_body : Kernel → List Piece
spell_body k =
    line ∷ block_begins ∷ line ∷ spell_locals 0 k.locals (spell_privates 0 k.privates
    (spell_variables 0 k.variables (spell_vectors 0 k.vectors (spell_code 0 0 k.code []))))

-- the pieces of a kernel with suc `more` outputs, by its name
abbrev pub spell_kernel : (name : Piece) → Kernel → ℕ → List Piece
spell_kernel name k more =
    spell_head name k.local (spell_inputs 0 k.inputs (first_output 0 (spell_outputs 1 more
    (spell_sizes 0 k.sizes (spell_body k)))))

-- all of a kernel's pieces; a kernel has an output
abbrev pub spelled_with : (name : Piece) → Kernel → ℕ → List Piece
spelled_with name k zero = []
spelled_with name k (suc more) = spell_kernel name k more

-- the pieces of a kernel of this name
abbrev pub spelled : (name : Piece) → Kernel → List Piece
spelled name k = spelled_with name k k.outputs

-- letters, digits and _ alone
abbrev pub is_letters : List ℕ → Bool
is_letters [] = true
is_letters (b ∷ bs) = is_word b && is_letters bs

-- a name is one piece
pub record IsName (name : Piece) : Type 0 where
  pub some : 0 < length name
  pub letters : is_letters name ≡ true

-- the kernels that have a text: all whose names have numbers below 2^32
pub record HasText (k : Kernel) : Type 0 where
  pub in_grammar : is_kernel k ≡ true
  pub inputs : k.inputs < number_limit
  pub outputs : k.outputs < number_limit
  pub sizes : k.sizes < number_limit
  pub locals : length k.locals < number_limit
  pub privates : length k.privates < number_limit
  pub variables : k.variables < number_limit
  pub vectors : k.vectors < number_limit

-- the text of a kernel of this name
abbrev pub text_of : (name : Piece) → Kernel → List ℕ
text_of name k = joined (spelled name k)
