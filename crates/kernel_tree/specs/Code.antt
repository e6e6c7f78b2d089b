-- Kernels: their arrays, and their statements one after another.
use Rattle.std.specs.Prelude.{ℕ, Bool, List, Option}
use Rattle.kernel_tree.specs.declared.tree.Dimension.{Dimension}
use Rattle.kernel_tree.specs.Formula.{Formula, Lanes, Ids, along}

-- inputs and outputs are shared by all, a local array by its work-group; each work-item has its own
-- private arrays
pub data Array : Type 0 where
  Input : ℕ → Array
  Output : ℕ → Array
  Local : ℕ → Array
  Private : ℕ → Array

-- what a loop's variable begins with, and what an `if` compares with its bound
pub data Start : Type 0 where
  FromZero : Start
  FromGlobalId FromGroupId FromLocalId : Dimension → Start

-- what is added to a loop's variable after each turn
pub data Stride : Type 0 where
  ByOne : Stride
  ByGlobalSize ByGroupCount ByLocalSize : Dimension → Stride

-- the value that a work-item of these ids begins with
abbrev pub start_value : Ids → Start → ℕ
start_value ids FromZero = 0
start_value ids (FromGlobalId d) = (along ids d).global_id
start_value ids (FromGroupId d) = (along ids d).group_id
start_value ids (FromLocalId d) = (along ids d).local_id

-- how far a turn of it goes
abbrev pub stride_value : Ids → Stride → ℕ
stride_value ids ByOne = 1
stride_value ids (ByGlobalSize d) = (along ids d).global_size
stride_value ids (ByGroupCount d) = (along ids d).group_count
stride_value ids (ByLocalSize d) = (along ids d).local_size

-- a statement without a block of its own. The three of `Four` are of a variable of four words, and
-- of the four cells at an offset, which counts an array's cells in fours. `Syncs` is a barrier with
-- its flags
pub data Statement : Type 0 where
  Assigns : (var : ℕ) → (value : Formula) → Statement
  Loads : (var : ℕ) → (array : Array) → (index : Formula) → Statement
  Stores : (array : Array) → (index value : Formula) → Statement
  AssignsFour : (var : ℕ) → (value : Lanes) → Statement
  LoadsFour : (var : ℕ) → (array : Array) → (offset : Formula) → Statement
  StoresFour : (array : Array) → (offset : Formula) → (value : Lanes) → Statement
  Syncs : (on_local on_global : Bool) → Statement

-- statements one after another, each with what comes after it in its block. `Guards` is an `if`:
-- its body is done where the start is below the bound
pub data Code : Type 0 where
  End : Code
  Performs : (statement : Statement) → (after : Code) → Code
  Loops : (start : Start) → (bound : Formula) → (stride : Stride) → (body after : Code) → Code
  Guards : (start : Start) → (bound : Formula) → (body after : Code) → Code

-- a block, and then the rest
abbrev pub then_rest : Code → Code → Code
then_rest End rest = rest
then_rest (Performs s after) rest = Performs s (then_rest after rest)
then_rest (Loops s b c body after) rest = Loops s b c body (then_rest after rest)
then_rest (Guards s b body after) rest = Guards s b body (then_rest after rest)

-- a kernel: how many inputs, outputs and sizes it takes, what it declares, and its statements
pub record Kernel : Type 0 where
  pub inputs : ℕ
  pub outputs : ℕ
  pub sizes : ℕ
  pub locals : List ℕ  -- the lengths of the local arrays
  pub privates : List ℕ  -- the lengths of the private arrays
  pub variables : ℕ
  pub vectors : ℕ  -- the variables of four words
  pub local : Option (ℕ × ℕ)  -- the size of the groups that it is made for
  pub code : Code
