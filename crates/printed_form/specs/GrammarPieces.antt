-- What is printed of arguments and of terms in writing position, and the statements of maps, are of
-- the kernel grammar.
use Rattle.std.specs.Prelude.{◌≡◌, ℕ, suc, ◌+◌, ◌*◌, ◌<◌, ◌≤◌, ◌^◌, Bool, true, List, ◌∷◌, length}
use Rattle.size_arith.specs.declared.poly.Monomial.{Monomial}
use Rattle.lift_tree.specs.Typing.{Declared}
use Rattle.kernel_tree.specs.Formula.{Formula}
use Rattle.kernel_tree.specs.Code.{Array, Output, Code, Loops, Guards, Kernel}
use Rattle.kernel_tree.specs.Grammar.{are_lengths, are_statements, has_statement, is_group_size, is_kernel, is_readable, is_writable, is_shared}
use Rattle.lift_ir.specs.Types.{Shape, Ty, width}
use Rattle.lift_ir.specs.Fours.{Lie, Serves, element_lie, read_lie, written_lie, bound_lie, LoadsFours, Lies, WritesFours}
use Rattle.lift_ir.specs.Layouts.{Layout}
use Rattle.lift_ir.specs.Scalars.{by_side}
use Rattle.lift_ir.specs.Terms.{LoadSet, Kind, Space, LocalMemory, PrivateMemory, Term}
use Rattle.printed_form.specs.Arguments.{arrays_of, argument_view}
use Rattle.printed_form.specs.Counts as counts
use Rattle.printed_form.specs.Counts.{Count, AtMost, more, load_count, variable_count, private_count, copy_lengths}
use Rattle.printed_form.specs.Form.{start_of, stride_of}
use Rattle.printed_form.specs.Views.{View, Blank, loaded_view, view_at, reshaped_view, rewritten_view, placed_view, laid_view}
use Rattle.printed_form.specs.Printer.{input_views, print_loaded, print_written}
use Rattle.printed_form.specs.Programs.{buffer_count, first_buffer, input_shape}
use Rattle.printed_form.specs.Sound.{variables_of, IsSpelledIn, AllLengths, IsSoundLayout, dimensions, stacked, IsWrittenWithin, loop_depth, AreLow, CanBeWritten}
use Rattle.printed_form.specs.GrammarViews.{IsTurnFormula, ReadsWithin, FillsWithin, AllReadWithin, LiesShared, AllLieShared}
use Rattle.printed_form.specs.KernelGrammar.{IsSoundIn}

-- which views read, and which tell where to write, within the grammar of a kernel, where lengths
-- are at most so high
pub record ViewsStay (k : Kernel) (high : ℕ) : Type 0 where
  -- those that do, in more loops and through more layouts
  pub more : (l m h i : ℕ) (x : View) → l ≤ m → h ≤ i
      → ReadsWithin k high l h x → ReadsWithin k high m i x
  pub deeper : (l m h i : ℕ) (w : View) → l ≤ m → h ≤ i
      → FillsWithin k high l h w → FillsWithin k high m i w
  pub blank : (l h : ℕ) → ReadsWithin k high l h (λ cs is. Blank)
  -- two by side, and a part of one
  pub sides : (l h : ℕ) (x y : View) → ReadsWithin k high l h x → ReadsWithin k high l h y
      → ReadsWithin k high l h (by_side (λ is. Blank) x y)
  pub part : (l h : ℕ) (x : View) (s : Bool) → ReadsWithin k high l h x
      → ReadsWithin k high l h (λ cs is. x (s ∷ cs) is)
  -- through one more layout
  pub operand : (spell : List Monomial → Formula) (y : Layout (List Monomial)) (l h : ℕ) (x : View)
      → IsSoundLayout (λ n. IsSpelledIn k high (spell n)) y → ReadsWithin k high l h x
      → ReadsWithin k high l (suc h) (reshaped_view spell y x)
  pub result : (spell : List Monomial → Formula) (y : Layout (List Monomial)) (l h : ℕ) (w : View)
      → IsSoundLayout (λ n. IsSpelledIn k high (spell n)) y → FillsWithin k high l h w
      → FillsWithin k high l (suc h) (rewritten_view spell y w)
  -- the element at a turn, of which scalars are loaded, and its place
  pub element : (turn : Formula) (loads : LoadSet) (l h : ℕ) (n : Count) (x : View)
      → IsTurnFormula k l turn → AtMost (counts.more n (load_count loads)) (variables_of k)
      → ReadsWithin k high l h x
      → ReadsWithin k high l h (loaded_view loads (view_at turn x) n)
  pub read : (turn : Formula) (l h : ℕ) (x : View)
      → IsTurnFormula k l turn → ReadsWithin k high l h x
      → ReadsWithin k high l h (view_at turn x)
  pub place : (turn : Formula) (l h : ℕ) (w : View)
      → IsTurnFormula k l turn → FillsWithin k high l h w
      → FillsWithin k high l h (view_at turn w)
  -- declared arrays of literal lengths
  pub laid : (form : ℕ → Array) (first : ℕ) (ty : Ty) (l : ℕ)
      → ((c : ℕ) → c < width ty → is_readable k (form (first + c)) ≡ true)
      → AllLengths (λ n. n < 2 ^ 32) ty → dimensions ty ≤ 5
      → ReadsWithin k high l 0 (laid_view form first ty)
  pub laid_places : (form : ℕ → Array) (first : ℕ) (ty : Ty) (l : ℕ)
      → ((c : ℕ) → c < width ty → is_writable k (form (first + c)) ≡ true)
      → AllLengths (λ n. n < 2 ^ 32) ty → dimensions ty ≤ 5
      → FillsWithin k high l 0 (laid_view form first ty)
  -- views of what lies whole or in fours: it lies so in every weaker sense, through a layout, at a
  -- turn, and once scalars are loaded
  pub served : (y z : Lie) (x : View) → Serves y z → LiesShared y x → LiesShared z x
  pub read_so : (spell : List Monomial → Formula) (m : Layout (List Monomial)) (y : Lie) (x : View)
      → LiesShared y x → LiesShared (read_lie m y) (reshaped_view spell m x)
  pub written_so : (spell : List Monomial → Formula) (m : Layout (List Monomial)) (y : Lie)
      (w : View) → LiesShared y w → LiesShared (written_lie m y) (rewritten_view spell m w)
  pub at_turn : (turn : Formula) (y : Lie) (x : View)
      → LiesShared y x → LiesShared (element_lie y) (view_at turn x)
  pub bound_so : (loads : LoadSet) (y : Lie) (n : Count) (x : View)
      → LiesShared y x → LiesShared (bound_lie loads y) (loaded_view loads x n)
  pub laid_so : (form : ℕ → Array) (first : ℕ) (ty : Ty) (y : Lie)
      → ((n : ℕ) → is_shared (form n) ≡ true) → LiesShared y (laid_view form first ty)

-- of any kernel, and of lengths of any height but 0
abbrev pub ViewsStayWithin : Type 0
ViewsStayWithin = (k : Kernel) (high : ℕ) → 1 ≤ high → ViewsStay k high

-- which statements of maps are of the grammar of a kernel, in so many loops and ifs, where lengths
-- are at most so high
pub record MapsStay (k : Kernel) (high : ℕ) : Type 0 where
  -- the loads of an element that reads within it, its vectors from no private array
  pub loads : (l ifs h : ℕ) (n : Count) (loads : LoadSet) (x : View) (y : Lie) (rest : Code)
      → high + (10 + 3 * h) ≤ 1024 → AtMost (more n (load_count loads)) (variables_of k)
      → ReadsWithin k high l h x → LiesShared y x → LoadsFours y loads
      → are_statements k l (ifs + l) rest ≡ true
      → are_statements k l (ifs + l) (print_loaded loads x n rest) ≡ true
  pub loaded : (loads : LoadSet) (x : View) (n : Count) (rest : Code) → has_statement rest ≡ true
      → has_statement (print_loaded loads x n rest) ≡ true
  -- a loop and an `if`, where their body is
  pub loop : (l ifs : ℕ) (kind : Kind) (bound : Formula) (body rest : Code)
      → ifs + l < 1024 → IsSpelledIn k high bound → has_statement body ≡ true
      → are_statements k (suc l) (ifs + suc l) body ≡ true
      → are_statements k l (ifs + l) rest ≡ true
      → are_statements k l (ifs + l) (Loops (start_of kind) bound (stride_of kind) body rest) ≡ true
  pub guard : (l ifs : ℕ) (kind : Kind) (bound : Formula) (body rest : Code)
      → ifs + l < 1024 → IsSpelledIn k high bound → has_statement body ≡ true
      → are_statements k l (suc ifs + l) body ≡ true
      → are_statements k l (ifs + l) rest ≡ true
      → are_statements k l (ifs + l) (Guards (start_of kind) bound body rest) ≡ true

-- of any kernel, and of lengths at most 1,024 high
abbrev pub MapsAreOfTheGrammar : Type 0
MapsAreOfTheGrammar = (k : Kernel) (high : ℕ) → 1 ≤ high → high ≤ 1024 → MapsStay k high

-- lengths are at most so high, at most so many layouts stand one on another, and the kernel has the
-- program's inputs
pub record HasRoomFor (k : Kernel) (high most : ℕ) (d : Declared) : Type 0 where
  pub some : 1 ≤ high
  pub fits : high + (10 + 3 * most) ≤ 1024
  pub inputs : k.inputs ≡ buffer_count d.inputs

-- the lengths of the kernel's arrays in a space
abbrev pub arrays_in : Kernel → Space → List ℕ
arrays_in k LocalMemory = k.locals
arrays_in k PrivateMemory = k.privates

-- what stands for the inputs
abbrev pub views_of_inputs : (spell : List Monomial → Formula) → Declared → ℕ → View
views_of_inputs spell d = input_views spell (first_buffer d.inputs) (input_shape d.inputs)

module _ (k : Kernel) (spell : List Monomial → Formula) (high most : ℕ) (d : Declared) where
  -- a term in writing position, so deep in loops and ifs and below so many layouts, where so many
  -- stand over what binders stand for, from these variables and private arrays on; where binders
  -- lie so, and its value is to
  pub record CanBePrinted (g : ℕ → ℕ) (lies : ℕ → Lie) (lie : Lie) (depth above : ℕ)
      (variable : Count) (private : ℕ) (t : Term (List Monomial)) : Type 0 where
    pub written : CanBeWritten t
    pub sound : IsSoundIn k spell high d t
    pub layouts : IsWrittenWithin most g above t
    pub low : AreLow 1023 t
    pub fours : WritesFours lies lie t
    pub deep : depth + loop_depth t ≤ 1024
    pub variables : AtMost (more variable (variable_count t)) (variables_of k)
    pub privates : private + private_count t ≤ length k.privates

  -- what is printed of a program's terms is of the grammar
  pub record TermsAreOfTheGrammar : Type 0 where
    -- what stands for an argument, whose copies lie in the kernel's arrays of a space, reads within
    -- it, and lies where vectors may; and the output is filled within it
    pub arguments : (s : Space) (l first : ℕ) (g : ℕ → ℕ) (env : ℕ → View)
        (t : Term (List Monomial))
        → AllReadWithin k high l g env → IsSoundIn k spell high d t
        → first + (arrays_of s).count t ≤ length (arrays_in k s)
        → ReadsWithin k high l (stacked g t)
        (argument_view (arrays_of s) spell (views_of_inputs spell d) env first t)
    pub lying : (s : Space) (first : ℕ) (lies : ℕ → Lie) (env : ℕ → View)
        (t : Term (List Monomial)) (y : Lie) → AllLieShared lies env → Lies lies t y
        → LiesShared y (argument_view (arrays_of s) spell (views_of_inputs spell d) env first t)
    pub output : (ty : Shape (List Monomial)) → k.outputs ≡ width ty
        → AllLengths (λ n. IsSpelledIn k high (spell n)) ty → dimensions ty ≤ 5
        → FillsWithin k high 0 0 (placed_view spell Output 0 ty)
    -- the code of a term in writing position is of it, and has a statement
    pub codes : (l ifs above : ℕ) (variable : Count) (private : ℕ) (g : ℕ → ℕ) (lies : ℕ → Lie)
        (lie : Lie) (env : ℕ → View) (t : Term (List Monomial)) (w : View) (rest : Code)
        → AllReadWithin k high l g env → FillsWithin k high l above w
        → AllLieShared lies env → LiesShared lie w
        → CanBePrinted g lies lie (ifs + l) above variable private t
        → are_statements k l (ifs + l) rest ≡ true
        → are_statements k l (ifs + l)
        (print_written spell (views_of_inputs spell d) l env private variable t w rest) ≡ true
    pub statements : (l depth above : ℕ) (variable : Count) (private : ℕ) (g : ℕ → ℕ)
        (lies : ℕ → Lie) (lie : Lie) (env : ℕ → View) (t : Term (List Monomial)) (w : View)
        (rest : Code)
        → FillsWithin k high l above w → CanBePrinted g lies lie depth above variable private t
        → has_statement
        (print_written spell (views_of_inputs spell d) l env private variable t w rest) ≡ true
    -- and where a statement follows it
    pub kept : (l : ℕ) (variable : Count) (private : ℕ) (env : ℕ → View)
        (t : Term (List Monomial)) (w : View) (rest : Code)
        → has_statement rest ≡ true
        → has_statement
        (print_written spell (views_of_inputs spell d) l env private variable t w rest) ≡ true
    -- a kernel that declares a term's arrays is of the grammar where its code is
    pub kernel : (ty : Shape (List Monomial)) (t : Term (List Monomial))
        → k.outputs ≡ width ty → k.locals ≡ copy_lengths LocalMemory t
        → k.privates ≡ copy_lengths PrivateMemory t → IsSoundIn k spell high d t
        → is_group_size k.local ≡ true → has_statement k.code ≡ true
        → are_statements k 0 0 k.code ≡ true → is_kernel k ≡ true

-- wherever the kernel has room for them
abbrev pub TermsArePrintedWithin : Type 0
TermsArePrintedWithin =
    (k : Kernel) (spell : List Monomial → Formula) (high most : ℕ) (d : Declared)
    → HasRoomFor k high most d → TermsAreOfTheGrammar k spell high most d

-- the arrays of a sound term's copies can be declared
abbrev pub ArraysCanBeDeclared : Type 0
ArraysCanBeDeclared =
    (k : Kernel) (spell : List Monomial → Formula) (high : ℕ) (d : Declared) (s : Space)
    (t : Term (List Monomial))
    → IsSoundIn k spell high d t → are_lengths (copy_lengths s t) ≡ true
