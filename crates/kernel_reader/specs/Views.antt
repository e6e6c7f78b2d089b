-- The code's values without where they lie in memory.
use Rattle.std.specs.Prelude.{ℕ, List, Option, Result, Bool}
use Rattle.std.specs.Borrow.{Bor}
use Rattle.kernel_tree.specs.Formula as formula
use Rattle.kernel_tree.specs.Tree.{id_of, comparison_of, array_of, start_of, stride_of}
use Rattle.kernel_tree.specs.KernelText as text
use Rattle.std.specs.declared.alloc.AllocError.{AllocError}
use Rattle.readings.specs.Views.{items_of}
use Rattle.readings.specs.Given as given
use Rattle.readings.specs.declared.owed.Owed.{Owed}
use Rattle.kernel_reader.specs.declared.form.Form.{Form}
use Rattle.kernel_reader.specs.declared.form.Form.TheVariants as forms
use Rattle.kernel_reader.specs.declared.form.Mark.{Mark}
use Rattle.kernel_reader.specs.declared.form.Mark.TheVariants as marks

-- a piece's bytes
abbrev pub bytes_of : Bor (List ℕ) → List ℕ
bytes_of p = p.now

-- the form that it stands for
abbrev pub part_of : Form → text.Part
part_of forms.Launching = text.Launching
part_of forms.GroupWidth = text.GroupWidth
part_of (forms.GroupHeight width) = text.GroupHeight width
part_of forms.Parameter = text.Parameter
part_of forms.Pointer = text.Pointer
part_of forms.NewInput = text.NewInput
part_of forms.NewOutput = text.NewOutput
part_of forms.AfterOutput = text.AfterOutput
part_of forms.OutputOrSize = text.OutputOrSize
part_of forms.NewSize = text.NewSize
part_of forms.AfterSize = text.AfterSize
part_of forms.Locals = text.Locals
part_of forms.NewLocal = text.NewLocal
part_of forms.LocalLength = text.LocalLength
part_of forms.Privates = text.Privates
part_of forms.Declared = text.Declared
part_of forms.PrivateLength = text.PrivateLength
part_of forms.Variables = text.Variables
part_of forms.NewVariable = text.NewVariable
part_of forms.Vectors = text.Vectors
part_of forms.NewVector = text.NewVector
part_of (forms.Statement p) = text.Statement p.loops p.nest
part_of (forms.Next p) = text.Next p.loops p.nest
part_of (forms.Source p k) = text.Source p.loops p.nest k
part_of (forms.SourceOfFour p k) = text.SourceOfFour p.loops p.nest k
part_of (forms.LoadedFour p k) = text.LoadedFour p.loops p.nest k
part_of (forms.StoredFour p) = text.StoredFour p.loops p.nest
part_of (forms.Fence p) = text.Fence p.loops p.nest
part_of (forms.AfterLocal p) = text.AfterLocal p.loops p.nest
part_of (forms.Beginning g p) = text.Beginning g p.loops p.nest
part_of (forms.BeginningId g p) = text.BeginningId g p.loops p.nest
part_of (forms.BeginningAlong g p form) = text.BeginningAlong g p.loops p.nest (id_of form)
part_of (forms.Step p s) = text.Step p.loops p.nest (start_of s)
part_of (forms.StepId p s) = text.StepId p.loops p.nest (start_of s)
part_of (forms.StepAlong p s form) = text.StepAlong p.loops p.nest (start_of s) (id_of form)
part_of (forms.Turn l) = text.Turn l
part_of (forms.Indent l) = text.Indent l
part_of (forms.Value b l d) = text.Value b l d
part_of (forms.Opened b l d) = text.Opened b l d
part_of (forms.InLanes l d) = text.InLanes l d
part_of (forms.LanesOpened p) = text.LanesOpened p.loops p.depth
part_of (forms.LanesRest l d) = text.LanesRest l d
part_of (forms.LanesAfterLess l d) = text.LanesAfterLess l d
part_of forms.IdName = text.IdName
part_of (forms.IdAlong form) = text.IdAlong (id_of form)
part_of (forms.Rest b l d) = text.Rest b l d
part_of (forms.AfterLess b l d) = text.AfterLess b l d

-- what a mark notes
abbrev pub note_of : Mark → text.Note
note_of (marks.DeclareInput count) = text.DeclareInput count
note_of (marks.DeclareOutput count) = text.DeclareOutput count
note_of (marks.DeclareSize count) = text.DeclareSize count
note_of (marks.DeclareVariable count) = text.DeclareVariable count
note_of (marks.DeclareVector count) = text.DeclareVector count
note_of (marks.DeclareLocal elements) = text.DeclareLocal elements
note_of (marks.DeclarePrivate elements) = text.DeclarePrivate elements
note_of (marks.FixLocal width height) = text.FixLocal width height
note_of (marks.Number v) = text.Leaf (formula.Number v)
note_of (marks.Variable k) = text.Leaf (formula.Variable k)
note_of (marks.LoopVariable k) = text.Leaf (formula.LoopVariable k)
note_of (marks.Size k) = text.Leaf (formula.Size k)
note_of (marks.Id d form) = text.Leaf (formula.Id d (id_of form))
note_of (marks.Both op) = text.Both op
note_of (marks.Either c) = text.Either (comparison_of c)
note_of (marks.Vector k) = text.LeafVector k
note_of marks.SpreadOut = text.SpreadOut
note_of (marks.EachOf op) = text.EachOf op
note_of marks.Stop = text.Stop
note_of (marks.Assign k) = text.Assign k
note_of (marks.Load k array) = text.Load k (array_of array)
note_of (marks.Store array) = text.Store (array_of array)
note_of (marks.AssignFour k) = text.AssignFour k
note_of (marks.LoadFour k array) = text.LoadFour k (array_of array)
note_of (marks.StoreFour array) = text.StoreFour (array_of array)
note_of (marks.If s) = text.Guard (start_of s)
note_of (marks.Loop s c) = text.Loop (start_of s) (stride_of c)
note_of (marks.Sync on_local on_global) = text.Sync on_local on_global

-- all that is owed
abbrev pub owed_by : List (Owed (Bor (List ℕ)) Form Mark) → List text.Item
owed_by items = items_of bytes_of part_of note_of items

-- the alternative, where there is one, was put before all that was owed
abbrev pub Gave : Result Bool AllocError → (old new : List (Owed (Bor (List ℕ)) Form Mark))
    → Option (List text.Item) → Type 0
Gave result old new alternative = given.Gave owed_by result old new alternative
