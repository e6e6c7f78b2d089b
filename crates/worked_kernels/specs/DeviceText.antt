-- A kernel and its text, with a size of its groups, an if, ids of the second dimension and a
-- variable of four words.
use Rattle.std.specs.Prelude.{ℕ, List, [], ◌∷◌, ◌++◌, Some, codes}
use Rattle.scalar_ops.specs.declared.op.Op.TheVariants.{Add}
use Rattle.kernel_tree.specs.declared.tree.Dimension.TheVariants.{Y}
use Rattle.kernel_tree.specs.Formula.{Number, LoopVariable, Id, LocalId, Vector, Spread, Each}
use Rattle.kernel_tree.specs.Code.{Input, Output, FromGlobalId, FromLocalId, ByGlobalSize, Code, End, Performs, LoadsFour, StoresFour, Loops, Guards, Kernel}

-- each line, and the end of it
abbrev pub lines : List (List ℕ) → List ℕ
lines [] = []
lines (l ∷ ls) = l ++ 10 ∷ lines ls

-- the text
abbrev pub worked_text : List ℕ
worked_text = lines (
    (codes "__kernel __attribute__((reqd_work_group_size(4, 2, 1))) void lift("
    ++ codes "__global const uint *a0, __global uint *o0)")
    ∷ codes "{"
    ∷ codes "  uint4 w0;"
    ∷ codes "  if ((uint)get_local_id(1) < 2u) {"
    ∷ codes "    for (uint i0 = (uint)get_global_id(1); i0 < 2u; i0 += (uint)get_global_size(1)) {"
    ∷ codes "      w0 = vload4(i0, a0);"
    ∷ codes "      vstore4((w0 + (uint4)(1u)), (uint)get_local_id(1), o0);"
    ∷ codes "    }"
    ∷ codes "  }"
    ∷ codes "}"
    ∷ [])

-- the kernel's statements
abbrev pub worked_code : Code
worked_code =
    Guards (FromLocalId Y) (Number 2)
    (Loops (FromGlobalId Y) (Number 2) (ByGlobalSize Y)
    (Performs (LoadsFour 0 (Input 0) (LoopVariable 0))
    (Performs (StoresFour (Output 0) (Id Y LocalId) (Each Add (Vector 0) (Spread (Number 1)))) End))
    End)
    End

-- the kernel
abbrev pub worked_kernel : Kernel
worked_kernel = record {
  inputs = 1;
  outputs = 1;
  sizes = 0;
  locals = [];
  privates = [];
  variables = 0;
  vectors = 1;
  local = Some (4, 2);
  code = worked_code;
}
