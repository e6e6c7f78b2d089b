-- A kernel's text, each part written behind what stands before it. Its statements are given by
-- their spelling.
use Rattle.std.specs.Prelude.{◌≡◌, ℕ, zero, suc, Bool, true, false, List, [], ◌∷◌, ◌++◌, Option, Some, None, decimal, codes}
use Rattle.scalar_ops.specs.declared.op.Op.{Op}
use Rattle.scalar_ops.specs.declared.op.Op.TheVariants.{Add, Mul, Min, Max, And, Or, Xor, Sub, Shl, Shr, Div, Rem, Lt, Eq}
use Rattle.kernel_tree.specs.declared.tree.Dimension.{Dimension}
use Rattle.kernel_tree.specs.declared.tree.Dimension.TheVariants.{X, Y}
use Rattle.kernel_tree.specs.Formula.{IdForm, GlobalId, GroupId, LocalId, GlobalSize, GroupCount, LocalSize, Comparison, Less, Equal, Formula, Number, Variable, LoopVariable, Size, Id, Binary, Choose, Lanes, Vector, Spread, Each}
use Rattle.kernel_tree.specs.Code.{Start, FromZero, FromGlobalId, FromGroupId, FromLocalId, Stride, ByOne, ByGlobalSize, ByGroupCount, ByLocalSize, Code, Kernel}
use Rattle.kernel_tree.specs.Pieces.{joined}
use Rattle.kernel_tree.specs.KernelText.{Piece, indent, named}
use Rattle.kernel_spelling.specs.Spelling.{spell_code}

-- an id before its dimension
abbrev pub id_begins : IdForm → List ℕ
id_begins GlobalId = codes "(uint)get_global_id("
id_begins GroupId = codes "(uint)get_group_id("
id_begins LocalId = codes "(uint)get_local_id("
id_begins GlobalSize = codes "(uint)get_global_size("
id_begins GroupCount = codes "(uint)get_num_groups("
id_begins LocalSize = codes "(uint)get_local_size("

-- its dimension, and what closes it
abbrev pub id_ends : Dimension → List ℕ
id_ends X = codes "0)"
id_ends Y = codes "1)"

-- an id in a dimension
abbrev pub id_text : Dimension → IdForm → List ℕ
id_text d form = id_begins form ++ id_ends d

-- what stands before an operator's operands
abbrev pub opening : Op → List ℕ
opening Min = codes "min("
opening Max = codes "max("
opening _ = codes "("

-- what stands between them
abbrev pub between : Op → List ℕ
between Add = codes " + "
between Sub = codes " - "
between Mul = codes " * "
between Div = codes " / "
between Rem = codes " % "
between And = codes " & "
between Or = codes " | "
between Xor = codes " ^ "
between Shl = codes " << "
between Shr = codes " >> "
between Lt = codes " < "
between Eq = codes " == "
between Min = codes ", "
between Max = codes ", "

-- what a conditional compares by
abbrev pub comparing : Comparison → List ℕ
comparing Less = codes " < "
comparing Equal = codes " == "

-- an expression
abbrev pub write_expression : List ℕ → Formula → List ℕ
write_expression front (Number v) = front ++ decimal v ++ codes "u"
write_expression front (Variable k) = front ++ named 118 k
write_expression front (LoopVariable k) = front ++ named 105 k
write_expression front (Size k) = front ++ named 115 k
write_expression front (Id d form) = front ++ id_text d form
write_expression front (Binary op a b) =
    write_expression (write_expression (front ++ opening op) a ++ between op) b ++ codes ")"
write_expression front (Choose c a b x y) =
    write_expression
    (write_expression
    (write_expression (write_expression (front ++ codes "(") a ++ comparing c) b
    ++ codes " ? ") x
    ++ codes " : ") y
    ++ codes ")"

-- an expression of four words
abbrev pub write_lanes : List ℕ → Lanes → List ℕ
write_lanes front (Vector k) = front ++ named 119 k
write_lanes front (Spread e) = write_expression (front ++ codes "(uint4)(") e ++ codes ")"
write_lanes front (Each op a b) =
    write_lanes (write_lanes (front ++ opening op) a ++ between op) b ++ codes ")"

-- the end of a block within this many loops and ifs
abbrev pub write_end : (nest : ℕ) → List ℕ → List ℕ
write_end zero front = front ++ codes "}\n"
write_end (suc nest) front = front ++ indent (suc nest) ++ codes "}\n"

-- what a loop's variable begins with, or an if compares
abbrev pub start_text : Start → List ℕ
start_text FromZero = codes "0u"
start_text (FromGlobalId d) = id_text d GlobalId
start_text (FromGroupId d) = id_text d GroupId
start_text (FromLocalId d) = id_text d LocalId

-- what is added to a loop's variable
abbrev pub stride_text : Stride → List ℕ
stride_text ByOne = codes "1u"
stride_text (ByGlobalSize d) = id_text d GlobalSize
stride_text (ByGroupCount d) = id_text d GroupCount
stride_text (ByLocalSize d) = id_text d LocalSize

-- a loop's line
abbrev pub write_loop : (loops nest : ℕ) → List ℕ → Start → Formula → Stride → List ℕ
write_loop l nest front s b c =
    write_expression
    (front ++ indent (suc nest) ++ codes "for (uint " ++ named 105 l ++ codes " = "
    ++ start_text s ++ codes "; " ++ named 105 l ++ codes " < ") b
    ++ codes "; " ++ named 105 l ++ codes " += " ++ stride_text c ++ codes ") {\n"

-- an if's line
abbrev pub write_guard : (nest : ℕ) → List ℕ → Start → Formula → List ℕ
write_guard nest front s b =
    write_expression (front ++ indent (suc nest) ++ codes "if (" ++ start_text s ++ codes " < ") b
    ++ codes ") {\n"

-- a barrier's flags
abbrev pub flags_text : (on_local on_global : Bool) → List ℕ
flags_text true true = codes "CLK_LOCAL_MEM_FENCE | CLK_GLOBAL_MEM_FENCE"
flags_text true false = codes "CLK_LOCAL_MEM_FENCE"
flags_text false true = codes "CLK_GLOBAL_MEM_FENCE"
flags_text false false = []

-- `written` is `front` and then the text of these statements, whatever comes after them
abbrev pub IsPut : (loops nest : ℕ) → (statements : Code → Code) → (front written : List ℕ) → Type 0
IsPut loops nest statements front written =
    (after : Code) (back : List Piece)
    → front ++ joined (spell_code loops nest (statements after) back)
    ≡ written ++ joined (spell_code loops nest after back)

-- the first inputs
abbrev pub write_inputs : List ℕ → ℕ → List ℕ
write_inputs front zero = front
write_inputs front (suc i) =
    write_inputs front i ++ codes "__global const uint *" ++ named 97 i ++ codes ", "

-- the first output, and so many more
abbrev pub write_outputs : List ℕ → ℕ → List ℕ
write_outputs front zero = front ++ codes "__global uint *" ++ named 111 0
write_outputs front (suc i) =
    write_outputs front i ++ codes ", __global uint *" ++ named 111 (suc i)

-- the first sizes
abbrev pub write_sizes : List ℕ → ℕ → List ℕ
write_sizes front zero = front
write_sizes front (suc i) = write_sizes front i ++ codes ", const uint " ++ named 115 i

-- declarations of arrays of these lengths, from the i-th on, each with its type before its letter
abbrev pub write_arrays : (before : List ℕ) → (letter : ℕ) → List ℕ → ℕ → List ℕ → List ℕ
write_arrays before letter front i [] = front
write_arrays before letter front i (n ∷ ns) =
    write_arrays before letter
    (front ++ indent 1 ++ before ++ named letter i ++ codes "[" ++ decimal n ++ codes "];\n")
    (suc i) ns

-- the first variables
abbrev pub write_variables : List ℕ → ℕ → List ℕ
write_variables front zero = front
write_variables front (suc i) =
    write_variables front i ++ indent 1 ++ codes "uint " ++ named 118 i ++ codes ";\n"

-- the first variables of four words
abbrev pub write_vectors : List ℕ → ℕ → List ℕ
write_vectors front zero = front
write_vectors front (suc i) =
    write_vectors front i ++ indent 1 ++ codes "uint4 " ++ named 119 i ++ codes ";\n"

-- local arrays of these lengths
abbrev pub write_locals : List ℕ → List ℕ → List ℕ
write_locals front ns = write_arrays (codes "__local uint ") 108 front 0 ns

-- private arrays of these lengths
abbrev pub write_privates : List ℕ → List ℕ → List ℕ
write_privates front ns = write_arrays (codes "uint ") 112 front 0 ns

-- the size of the groups, where there is one
abbrev pub write_launching : List ℕ → Option (ℕ × ℕ) → List ℕ
write_launching front None = front
write_launching front (Some size) =
    front ++ codes "__attribute__((reqd_work_group_size(" ++ decimal size.0 ++ codes ", "
    ++ decimal size.1 ++ codes ", 1))) "

-- what stands before the parameters
abbrev pub write_head : (name : List ℕ) → Option (ℕ × ℕ) → List ℕ
write_head name size =
    write_launching (codes "__kernel ") size ++ codes "void " ++ name ++ codes "("

-- all of a kernel with suc `more` outputs
abbrev pub write_kernel : (name : List ℕ) → Kernel → ℕ → List ℕ
write_kernel name k more =
    let parameters =
    write_sizes
    (write_outputs (write_inputs (write_head name k.local) k.inputs) more) k.sizes in
    let variables =
    write_variables
    (write_privates
    (write_locals (parameters ++ codes ")\n{\n") k.locals) k.privates) k.variables in
    write_vectors variables k.vectors ++ joined (spell_code 0 0 k.code [])
