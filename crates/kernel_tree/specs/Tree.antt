-- What the Rust trees stand for.
use Rattle.std.specs.Prelude.{ℕ, List, [], ◌∷◌, Option}
use Rattle.kernel_tree.specs.declared.tree.IdForm as id
use Rattle.kernel_tree.specs.declared.tree.IdForm.TheVariants as id_form
use Rattle.kernel_tree.specs.declared.tree.Comparison as comparison
use Rattle.kernel_tree.specs.declared.tree.Comparison.TheVariants as comparison_form
use Rattle.kernel_tree.specs.declared.tree.Expr.{Expr}
use Rattle.kernel_tree.specs.declared.tree.Expr as expr
use Rattle.kernel_tree.specs.declared.tree.Lanes as lanes
use Rattle.kernel_tree.specs.declared.tree.Array as array
use Rattle.kernel_tree.specs.declared.tree.Array.TheVariants as array_form
use Rattle.kernel_tree.specs.declared.tree.Start as start
use Rattle.kernel_tree.specs.declared.tree.Start.TheVariants as start_form
use Rattle.kernel_tree.specs.declared.tree.Stride as stride
use Rattle.kernel_tree.specs.declared.tree.Stride.TheVariants as stride_form
use Rattle.kernel_tree.specs.declared.tree.Stmt.{Stmt, Row_of-Stmt, end_of-Stmt, more_of-Stmt}
use Rattle.kernel_tree.specs.declared.tree.Stmt as stmt
use Rattle.kernel_tree.specs.Formula.{IdForm, GlobalId, GroupId, LocalId, GlobalSize, GroupCount, LocalSize, Comparison, Less, Equal, Formula, Number, Variable, LoopVariable, Size, Id, Binary, Choose, Lanes, Vector, Spread, Each}
use Rattle.kernel_tree.specs.Code.{Array, Input, Output, Local, Private, Start, FromZero, FromGlobalId, FromGroupId, FromLocalId, Stride, ByOne, ByGlobalSize, ByGroupCount, ByLocalSize, Code, End, Performs, Assigns, Loads, Stores, AssignsFour, LoadsFour, StoresFour, Loops, Guards, Syncs, Kernel}

-- the form of an id
abbrev pub id_of : id.IdForm → IdForm
id_of id_form.GlobalId = GlobalId
id_of id_form.GroupId = GroupId
id_of id_form.LocalId = LocalId
id_of id_form.GlobalSize = GlobalSize
id_of id_form.GroupCount = GroupCount
id_of id_form.LocalSize = LocalSize

-- a comparison
abbrev pub comparison_of : comparison.Comparison → Comparison
comparison_of comparison_form.Less = Less
comparison_of comparison_form.Equal = Equal

-- an expression
abbrev pub formula_of : Expr → Formula
formula_of (expr.Number n) = Number n
formula_of (expr.Variable v) = Variable v
formula_of (expr.LoopVariable i) = LoopVariable i
formula_of (expr.Size s) = Size s
formula_of (expr.Id d form) = Id d (id_of form)
formula_of (expr.Binary' o p a q b) = Binary o (formula_of a) (formula_of b)
formula_of (expr.Choose' c p a q b r x s y) =
    Choose (comparison_of c) (formula_of a) (formula_of b) (formula_of x) (formula_of y)

-- an expression of four words
abbrev pub lanes_of : lanes.Lanes → Lanes
lanes_of (lanes.Vector v) = Vector v
lanes_of (lanes.Spread e) = Spread (formula_of e)
lanes_of (lanes.Each' o p a q b) = Each o (lanes_of a) (lanes_of b)

-- an array
abbrev pub array_of : array.Array → Array
array_of (array_form.Input n) = Input n
array_of (array_form.Output n) = Output n
array_of (array_form.Local n) = Local n
array_of (array_form.Private n) = Private n

-- a start
abbrev pub start_of : start.Start → Start
start_of start_form.Zero = FromZero
start_of (start_form.GlobalId d) = FromGlobalId d
start_of (start_form.GroupId d) = FromGroupId d
start_of (start_form.LocalId d) = FromLocalId d

-- a stride
abbrev pub stride_of : stride.Stride → Stride
stride_of stride_form.One = ByOne
stride_of (stride_form.GlobalSize d) = ByGlobalSize d
stride_of (stride_form.GroupCount d) = ByGroupCount d
stride_of (stride_form.LocalSize d) = ByLocalSize d

abbrev mutual
  -- a statement, and what comes after it
  pub before : Stmt → Code → Code
  before (stmt.Assign v e) after = Performs (Assigns v (formula_of e)) after
  before (stmt.Load v a i) after = Performs (Loads v (array_of a) (formula_of i)) after
  before (stmt.Store a i e) after =
      Performs (Stores (array_of a) (formula_of i) (formula_of e)) after
  before (stmt.AssignFour v e) after = Performs (AssignsFour v (lanes_of e)) after
  before (stmt.LoadFour v a i) after = Performs (LoadsFour v (array_of a) (formula_of i)) after
  before (stmt.StoreFour a i e) after =
      Performs (StoresFour (array_of a) (formula_of i) (lanes_of e)) after
  before (stmt.Loop' s b c shape body) after =
      Loops (start_of s) (formula_of b) (stride_of c) (code_of body) after
  before (stmt.If' s b shape body) after = Guards (start_of s) (formula_of b) (code_of body) after
  before (stmt.Barrier on_local on_global) after = Performs (Syncs on_local on_global) after

  -- a block
  pub code_of : {m : _} → Row_of-Stmt m → Code
  code_of end_of-Stmt = End
  code_of (more_of-Stmt s rest) = before s (code_of rest)

-- these statements, and then the rest
abbrev pub code_then : List Stmt → Code → Code
code_then [] rest = rest
code_then (s ∷ ss) rest = before s (code_then ss rest)

-- a kernel of these counts, lengths of arrays, size of its groups and this body
abbrev pub kernel_with : (inputs outputs sizes : ℕ) → (locals privates : List ℕ)
    → (variables vectors : ℕ) → (local : Option (ℕ × ℕ)) → List Stmt → Kernel
kernel_with inputs outputs sizes locals privates variables vectors local body = record {
  inputs = inputs;
  outputs = outputs;
  sizes = sizes;
  locals = locals;
  privates = privates;
  variables = variables;
  vectors = vectors;
  local = local;
  code = code_then body End;
}
