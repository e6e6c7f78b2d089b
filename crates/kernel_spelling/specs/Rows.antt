-- Which alternative of a form of a kernel's text begins with a piece.
use Rattle.std.specs.Prelude.{ℕ, zero, suc, ◌*◌, List, [], ◌∷◌, ◌++◌, Option, Some, None, Bool, true, false, not, cond, nat_lt, nat_le, nat_eq, ◌&&◌, bytes_eq, option_map, option_and_then, length}
use Rattle.readings.specs.Readings.{Token, Form, Mark}
use Rattle.readings.specs.Running.{Table}
use Rattle.scalar_ops.specs.declared.op.Op.{Op}
use Rattle.scalar_ops.specs.declared.op.Op.TheVariants.{Shl, Shr}
use Rattle.kernel_tree.specs.declared.tree.Array.TheVariants as array
use Rattle.kernel_tree.specs.Formula.{IdForm, Formula, Id, Less, Equal}
use Rattle.kernel_tree.specs.Formula as formula
use Rattle.kernel_tree.specs.Code as code
use Rattle.kernel_tree.specs.Grammar.{deepest, is_readable, is_writable, is_shared, largest_group}
use Rattle.kernel_tree.specs.Tree.{array_of}
use Rattle.kernel_tree.specs.KernelText.{Piece, space, line, comma, star, equals, less, bar, greater, opens, closes, index_begins, index_ends, block_ends, global, local, const, uint, uint4, loads_four, stores_four, for, whether, barrier, local_flag, global_flag, one, void, attribute, group_size, indent, zero_literal, one_literal, number_limit, Part, Launching, GroupWidth, GroupHeight, Parameter, Pointer, NewInput, NewOutput, AfterOutput, OutputOrSize, NewSize, AfterSize, Locals, NewLocal, LocalLength, Privates, Declared, PrivateLength, Variables, NewVariable, Vectors, NewVector, Statement, Next, Source, SourceOfFour, LoadedFour, StoredFour, Fence, AfterLocal, Beginning, BeginningId, BeginningAlong, Step, StepId, StepAlong, Turn, Indent, Value, Opened, InLanes, LanesOpened, LanesRest, LanesAfterLess, IdName, IdAlong, Rest, AfterLess, Note, DeclareInput, DeclareOutput, DeclareSize, DeclareVariable, DeclareVector, DeclareLocal, DeclarePrivate, FixLocal, Leaf, LeafVector, SpreadOut, Stop, Assign, Load, Store, AssignFour, LoadFour, StoreFour, Sync, Notes, counted, Item, texts, is_id, start_at, stride_by, stored, another_line, loop_head, loop_body, guard_head, after_start, cast, in_dimension, operated, operated_each, compared, marked}
use Rattle.kernel_spelling.specs.declared.kinds.Kind.{Kind}
use Rattle.kernel_spelling.specs.declared.kinds.Kind.TheVariants.{Array, Size, Variable, Vector, LoopVariable, Literal, Decimal, Other}
use Rattle.kernel_spelling.specs.Kinds.{kind_of, id_in, sign_in, call_in, dimension_in}

-- ---- the groups' size

-- the groups' size, where there is one
abbrev pub launching_row : Piece → Option (List Item)
launching_row p =
    cond (bytes_eq p void) (Some []) (
    cond (bytes_eq p attribute)
    (Some (texts (opens ∷ opens ∷ group_size ∷ opens ∷ []) ++ Form GroupWidth ∷ [])) None)

-- its first number
abbrev pub width_row : Kind → Option (List Item)
width_row (Decimal v) =
    cond (nat_lt 0 v && nat_le v largest_group)
    (Some (texts (comma ∷ space ∷ []) ++ Form (GroupHeight v) ∷ [])) None
width_row _ = None

-- what stands behind its second number
abbrev pub fixing : (width height : ℕ) → List Item
fixing v w =
    Mark (FixLocal v w)
    ∷ texts (comma ∷ space ∷ one ∷ closes ∷ closes ∷ closes ∷ space ∷ void ∷ [])

-- its second number
abbrev pub height_row : (width : ℕ) → Kind → Option (List Item)
height_row v (Decimal w) =
    cond (nat_lt 0 w && nat_le (v * w) largest_group) (Some (fixing v w)) None
height_row v _ = None

-- ---- parameters

-- a new name has the next number
abbrev pub is_next : (k count : ℕ) → Bool
is_next k count = nat_eq k count && nat_lt (suc count) number_limit

-- the next input's name, and what follows it
abbrev pub new_input_row : Notes → Kind → Option (List Item)
new_input_row n (Array (array.Input k)) =
    cond (is_next k n.inputs)
    (Some
    (Mark (DeclareInput (suc n.inputs)) ∷ texts (comma ∷ space ∷ [])
    ++ Form Parameter ∷ [])) None
new_input_row n _ = None

-- the next output's name, and what follows it
abbrev pub new_output_row : Notes → Kind → Option (List Item)
new_output_row n (Array (array.Output k)) =
    cond (is_next k n.outputs)
    (Some (Mark (DeclareOutput (suc n.outputs)) ∷ Form AfterOutput ∷ [])) None
new_output_row n _ = None

-- the next size's name, and what follows it
abbrev pub new_size_row : Notes → Kind → Option (List Item)
new_size_row n (Size k) =
    cond (is_next k n.sizes) (Some (Mark (DeclareSize (suc n.sizes)) ∷ Form AfterSize ∷ [])) None
new_size_row n _ = None

-- the forms before the body
abbrev pub head_row : Notes → Part → Piece → Option (List Item)
head_row n Launching p = launching_row p
head_row n GroupWidth p = width_row (kind_of p)
head_row n (GroupHeight v) p = height_row v (kind_of p)
head_row n Parameter p = cond (bytes_eq p global) (Some (Token space ∷ Form Pointer ∷ [])) None
head_row n Pointer p =
    cond (bytes_eq p const) (Some (texts (space ∷ uint ∷ space ∷ star ∷ []) ++ Form NewInput ∷ []))
    (cond (bytes_eq p uint) (Some (texts (space ∷ star ∷ []) ++ Form NewOutput ∷ [])) None)
head_row n NewInput p = new_input_row n (kind_of p)
head_row n NewOutput p = new_output_row n (kind_of p)
head_row n AfterOutput p =
    cond (bytes_eq p closes) (Some [])
    (cond (bytes_eq p comma) (Some (Token space ∷ Form OutputOrSize ∷ [])) None)
head_row n OutputOrSize p =
    cond (bytes_eq p global)
    (Some (texts (space ∷ uint ∷ space ∷ star ∷ []) ++ Form NewOutput ∷ []))
    (cond (bytes_eq p const)
    (Some (texts (space ∷ uint ∷ space ∷ []) ++ Form NewSize ∷ [])) None)
head_row n NewSize p = new_size_row n (kind_of p)
head_row n AfterSize p =
    cond (bytes_eq p closes) (Some [])
    (cond (bytes_eq p comma)
    (Some (texts (space ∷ const ∷ space ∷ uint ∷ space ∷ []) ++ Form NewSize ∷ [])) None)
head_row n _ p = None

-- ---- expressions

-- an expression of one piece, where it may stand
abbrev pub leaf : Bool → Formula → Option (List Item)
leaf may e = cond may (Some (Mark (Leaf e) ∷ [])) None

-- the operands of an operator that is called
abbrev pub calling : Bool → ℕ → ℕ → Op → List Item
calling b l d op =
    Token opens ∷ Form (Value b l d) ∷ texts (comma ∷ space ∷ []) ++ operated b l d op

-- an expression at the depth d that has parts
abbrev pub whole_row : Bool → ℕ → ℕ → Piece → Option (List Item)
whole_row b l d p =
    cond (bytes_eq p opens) (Some (Form (Opened b l d) ∷ []))
    (option_map (calling b l (suc d)) (call_in p))

-- an expression at the depth d, in a bound or not, in l loops
abbrev pub value_row : Notes → Bool → ℕ → ℕ → Piece → Kind → Option (List Item)
value_row n b l d p (Variable k) =
    leaf (not b && (nat_lt k n.variables && nat_le d deepest)) (formula.Variable k)
value_row n b l d p (LoopVariable k) =
    leaf (not b && (nat_lt k l && nat_le d deepest)) (formula.LoopVariable k)
value_row n b l d p (Size k) = leaf (nat_lt k n.sizes && nat_le d deepest) (formula.Size k)
value_row n b l d p (Literal v) = leaf (nat_le d deepest) (formula.Number v)
value_row n b l d p Other = cond (nat_le d deepest) (whole_row b l d p) None
value_row n b l d p _ = None

-- what follows the parenthesis: an id, or a left part and the rest
abbrev pub opened_row : Notes → Bool → ℕ → ℕ → Piece → Kind → Option (List Item)
opened_row n b l d p kind =
    cond (bytes_eq p uint) (cond b None (Some (Token closes ∷ Form IdName ∷ [])))
    (option_map (λ given. given ++ Token space ∷ Form (Rest b l (suc d)) ∷ [])
    (value_row n b l (suc d) p kind))

-- an id's name, and its dimension
abbrev pub id_row : Piece → Option (List Item)
id_row p = option_map (λ form. in_dimension (IdAlong form)) (id_in p)

-- its dimension
abbrev pub id_along_row : IdForm → Piece → Option (List Item)
id_along_row form p =
    option_map (λ d. Token closes ∷ Mark (Leaf (Id d form)) ∷ []) (dimension_in p)

-- what follows the left part
abbrev pub rest_row : Bool → ℕ → ℕ → Piece → Option (List Item)
rest_row b l d p =
    cond (bytes_eq p less) (Some (Form (AfterLess b l d) ∷ [])) (
    cond (bytes_eq p greater) (Some (texts (greater ∷ space ∷ []) ++ operated b l d Shr)) (
    cond (bytes_eq p equals) (Some (texts (equals ∷ space ∷ []) ++ compared b l d Equal)) (
    option_map (λ op. Token space ∷ operated b l d op) (sign_in p))))

-- the same behind <
abbrev pub after_less_row : Bool → ℕ → ℕ → Piece → Option (List Item)
after_less_row b l d p =
    cond (bytes_eq p less) (Some (Token space ∷ operated b l d Shl))
    (cond (bytes_eq p space) (Some (compared b l d Less)) None)

-- ---- expressions of four words

-- the operands of an operator that is called
abbrev pub calling_each : ℕ → ℕ → Op → List Item
calling_each l d op =
    Token opens ∷ Form (InLanes l d) ∷ texts (comma ∷ space ∷ []) ++ operated_each l d op

-- an expression at the depth d that has parts
abbrev pub whole_lanes_row : ℕ → ℕ → Piece → Option (List Item)
whole_lanes_row l d p =
    cond (bytes_eq p opens) (Some (Form (LanesOpened l d) ∷ []))
    (option_map (calling_each l (suc d)) (call_in p))

-- an expression at the depth d
abbrev pub lanes_row : Notes → ℕ → ℕ → Piece → Kind → Option (List Item)
lanes_row n l d p (Vector k) =
    cond (nat_lt k n.vectors && nat_le d deepest) (Some (Mark (LeafVector k) ∷ [])) None
lanes_row n l d p Other = cond (nat_le d deepest) (whole_lanes_row l d p) None
lanes_row n l d p _ = None

-- four of one word
abbrev pub spreading : ℕ → ℕ → List Item
spreading l d =
    texts (closes ∷ opens ∷ []) ++ Form (Value false l (suc d)) ∷ Token closes ∷ Mark SpreadOut ∷ []

-- what follows the parenthesis
abbrev pub lanes_opened_row : Notes → ℕ → ℕ → Piece → Kind → Option (List Item)
lanes_opened_row n l d p kind =
    cond (bytes_eq p uint4) (Some (spreading l d))
    (option_map (λ given. given ++ Token space ∷ Form (LanesRest l (suc d)) ∷ [])
    (lanes_row n l (suc d) p kind))

-- what follows the left part
abbrev pub lanes_rest_row : ℕ → ℕ → Piece → Option (List Item)
lanes_rest_row l d p =
    cond (bytes_eq p less) (Some (Form (LanesAfterLess l d) ∷ [])) (
    cond (bytes_eq p greater) (Some (texts (greater ∷ space ∷ []) ++ operated_each l d Shr)) (
    option_map (λ op. Token space ∷ operated_each l d op) (sign_in p)))

-- the same behind <
abbrev pub lanes_after_less_row : ℕ → ℕ → Piece → Option (List Item)
lanes_after_less_row l d p =
    cond (bytes_eq p less) (Some (Token space ∷ operated_each l d Shl)) None

-- ---- statements

-- behind a variable
abbrev pub assigning : (loops nest : ℕ) → ℕ → List Item
assigning l nest k = texts (space ∷ equals ∷ space ∷ []) ++ Form (Source l nest k) ∷ []

-- behind an array that is stored to
abbrev pub storing : (loops nest : ℕ) → code.Array → List Item
storing l nest a =
    Token index_begins ∷ Form (Value false l 1)
    ∷ texts (index_ends ∷ space ∷ equals ∷ space ∷ []) ++ Form (Value false l 1)
    ∷ stored l nest (Store a)

-- behind an array that is loaded
abbrev pub loading : (loops nest : ℕ) → ℕ → code.Array → List Item
loading l nest k a =
    Token index_begins ∷ Form (Value false l 1) ∷ Token index_ends ∷ stored l nest (Load k a)

-- behind a variable of four words
abbrev pub assigning_four : (loops nest : ℕ) → ℕ → List Item
assigning_four l nest k = texts (space ∷ equals ∷ space ∷ []) ++ Form (SourceOfFour l nest k) ∷ []

-- behind vload4
abbrev pub loading_four : (loops nest : ℕ) → ℕ → List Item
loading_four l nest k =
    Token opens ∷ Form (Value false l 1) ∷ texts (comma ∷ space ∷ [])
    ++ Form (LoadedFour l nest k) ∷ []

-- behind vstore4
abbrev pub storing_four : (loops nest : ℕ) → List Item
storing_four l nest =
    Token opens ∷ Form (InLanes l 1) ∷ texts (comma ∷ space ∷ []) ++ Form (Value false l 1)
    ∷ texts (comma ∷ space ∷ []) ++ Form (StoredFour l nest) ∷ []

-- the statements that begin with a word
abbrev pub word_row : (loops nest : ℕ) → Piece → Option (List Item)
word_row l nest p =
    cond (bytes_eq p for) (cond (nat_lt nest deepest) (Some (loop_head l nest)) None) (
    cond (bytes_eq p whether) (cond (nat_lt nest deepest) (Some (guard_head l nest)) None) (
    cond (bytes_eq p barrier) (Some (Token opens ∷ Form (Fence l nest) ∷ [])) (
    cond (bytes_eq p stores_four) (Some (storing_four l nest)) None)))

-- a statement
abbrev pub statement_row : Notes → (loops nest : ℕ) → Piece → Kind → Option (List Item)
statement_row n l nest p (Variable k) =
    cond (nat_lt k n.variables) (Some (assigning l nest k)) None
statement_row n l nest p (Vector k) =
    cond (nat_lt k n.vectors) (Some (assigning_four l nest k)) None
statement_row n l nest p (Array a) =
    cond (is_writable (counted n) (array_of a)) (Some (storing l nest (array_of a))) None
statement_row n l nest p Other = word_row l nest p
statement_row n l nest p _ = None

-- what a variable is assigned
abbrev pub source_row : Notes → (loops nest : ℕ) → ℕ → Piece → Kind → Option (List Item)
source_row n l nest k p (Array a) =
    cond (is_readable (counted n) (array_of a)) (Some (loading l nest k (array_of a))) None
source_row n l nest k p kind =
    option_map (λ given. given ++ stored l nest (Assign k)) (value_row n false l 1 p kind)

-- what a variable of four words is assigned
abbrev pub source_of_four_row : Notes → (loops nest : ℕ) → ℕ → Piece → Kind → Option (List Item)
source_of_four_row n l nest k p kind =
    cond (bytes_eq p loads_four) (Some (loading_four l nest k))
    (option_map (λ given. given ++ stored l nest (AssignFour k)) (lanes_row n l 1 p kind))

-- the array of which four cells are loaded
abbrev pub loaded_four_row : Notes → (loops nest : ℕ) → ℕ → Kind → Option (List Item)
loaded_four_row n l nest k (Array a) =
    cond (is_shared (array_of a) && is_readable (counted n) (array_of a))
    (Some (Token closes ∷ stored l nest (LoadFour k (array_of a)))) None
loaded_four_row n l nest k _ = None

-- the array to which four words are stored
abbrev pub stored_four_row : Notes → (loops nest : ℕ) → Kind → Option (List Item)
stored_four_row n l nest (Array a) =
    cond (is_shared (array_of a) && is_writable (counted n) (array_of a))
    (Some (Token closes ∷ stored l nest (StoreFour (array_of a)))) None
stored_four_row n l nest _ = None

-- the end of a block
abbrev pub end_row : (nest : ℕ) → Piece → Option (List Item)
end_row zero p = cond (bytes_eq p block_ends) (Some (Token line ∷ Mark Stop ∷ [])) None
end_row (suc nest) p =
    cond (bytes_eq p (indent (suc nest))) (Some (texts (block_ends ∷ line ∷ []) ++ Mark Stop ∷ []))
    None

-- another statement, or the end of the block
abbrev pub next_row : (loops nest : ℕ) → Piece → Option (List Item)
next_row l nest p =
    cond (bytes_eq p (indent (suc nest))) (Some (Form (Statement l nest) ∷ [])) (end_row nest p)

-- a barrier's flags
abbrev pub fence_row : (loops nest : ℕ) → Piece → Option (List Item)
fence_row l nest p =
    cond (bytes_eq p local_flag) (Some (Form (AfterLocal l nest) ∷ []))
    (cond (bytes_eq p global_flag) (Some (Token closes ∷ stored l nest (Sync false true))) None)

-- what follows the flag of local memory
abbrev pub after_local_row : (loops nest : ℕ) → Piece → Option (List Item)
after_local_row l nest p =
    cond (bytes_eq p closes) (Some (stored l nest (Sync true false)))
    (cond (bytes_eq p space)
    (Some (texts (bar ∷ space ∷ global_flag ∷ closes ∷ []) ++ stored l nest (Sync true true))) None)

-- ---- the line of a loop or an if

-- the loop's variable
abbrev pub turn_row : ℕ → Kind → Option (List Item)
turn_row l (LoopVariable k) = cond (nat_eq k l) (Some []) None
turn_row l _ = None

-- what a loop's variable begins with, or an if compares
abbrev pub beginning_row : (guard : Bool) → (loops nest : ℕ) → Piece → Option (List Item)
beginning_row g l nest p =
    cond (bytes_eq p zero_literal) (Some (after_start g l nest code.FromZero))
    (cond (bytes_eq p opens) (Some (cast (BeginningId g l nest))) None)

-- the same behind (uint): a place of the item
abbrev pub beginning_id_row : (guard : Bool) → (loops nest : ℕ) → Piece → Option (List Item)
beginning_id_row g l nest p =
    option_and_then
    (λ form. cond (is_id form) (Some (in_dimension (BeginningAlong g l nest form))) None) (id_in p)

-- its dimension
abbrev pub beginning_along_row : (guard : Bool) → (loops nest : ℕ) → IdForm → Piece
    → Option (List Item)
beginning_along_row g l nest form p =
    option_map (λ s. Token closes ∷ after_start g l nest s)
    (option_and_then (start_at form) (dimension_in p))

-- what is added to a loop's variable
abbrev pub step_row : (loops nest : ℕ) → code.Start → Piece → Option (List Item)
step_row l nest s p =
    cond (bytes_eq p one_literal) (Some (loop_body l nest s code.ByOne))
    (cond (bytes_eq p opens) (Some (cast (StepId l nest s))) None)

-- the same behind (uint): a count
abbrev pub step_id_row : (loops nest : ℕ) → code.Start → Piece → Option (List Item)
step_id_row l nest s p =
    option_and_then (λ form. cond (is_id form) None (Some (in_dimension (StepAlong l nest s form))))
    (id_in p)

-- its dimension
abbrev pub step_along_row : (loops nest : ℕ) → code.Start → IdForm → Piece → Option (List Item)
step_along_row l nest s form p =
    option_map (λ c. Token closes ∷ loop_body l nest s c)
    (option_and_then (stride_by form) (dimension_in p))

-- ---- declarations

-- the next variable's name, and another line
abbrev pub new_variable_row : Notes → Kind → Option (List Item)
new_variable_row n (Variable k) =
    cond (is_next k n.variables)
    (Some (Mark (DeclareVariable (suc n.variables)) ∷ another_line Variables)) None
new_variable_row n _ = None

-- the next local array's name, and its length
abbrev pub new_local_row : Notes → Kind → Option (List Item)
new_local_row n (Array (array.Local k)) =
    cond (is_next k (length n.locals)) (Some (Token index_begins ∷ Form LocalLength ∷ [])) None
new_local_row n _ = None

-- the next private array's name, and its length; or a variable's name
abbrev pub declared_row : Notes → Kind → Option (List Item)
declared_row n (Array (array.Private k)) =
    cond (is_next k (length n.privates)) (Some (Token index_begins ∷ Form PrivateLength ∷ [])) None
declared_row n kind = new_variable_row n kind

-- a length, and what is noted of it
abbrev pub length_row : (ℕ → Note) → Part → Kind → Option (List Item)
length_row note f (Decimal v) =
    cond (nat_lt 0 v) (Some (Mark (note v) ∷ Token index_ends ∷ another_line f)) None
length_row note f _ = None

-- a new variable of four words
abbrev pub new_vector_row : Notes → Kind → Option (List Item)
new_vector_row n (Vector k) =
    cond (is_next k n.vectors) (Some (Mark (DeclareVector (suc n.vectors)) ∷ another_line Vectors))
    None
new_vector_row n _ = None

-- a variable of four words, or the first statement
abbrev pub vectors_row : Notes → Piece → Option (List Item)
vectors_row n p =
    cond (bytes_eq p uint4) (Some (Token space ∷ Form NewVector ∷ []))
    (statement_row n 0 0 p (kind_of p))

-- a variable, or what follows the variables
abbrev pub variables_row : Notes → Piece → Option (List Item)
variables_row n p =
    cond (bytes_eq p uint) (Some (Token space ∷ Form NewVariable ∷ [])) (vectors_row n p)

-- a private array or a variable, or what follows
abbrev pub privates_row : Notes → Piece → Option (List Item)
privates_row n p =
    cond (bytes_eq p uint) (Some (Token space ∷ Form Declared ∷ [])) (vectors_row n p)

-- a local array, or what follows
abbrev pub locals_row : Notes → Piece → Option (List Item)
locals_row n p =
    cond (bytes_eq p local) (Some (texts (space ∷ uint ∷ space ∷ []) ++ Form NewLocal ∷ []))
    (privates_row n p)

-- the forms of declarations
abbrev pub declaration_row : Notes → Part → Piece → Option (List Item)
declaration_row n Locals p = locals_row n p
declaration_row n NewLocal p = new_local_row n (kind_of p)
declaration_row n LocalLength p = length_row DeclareLocal Locals (kind_of p)
declaration_row n Privates p = privates_row n p
declaration_row n Declared p = declared_row n (kind_of p)
declaration_row n PrivateLength p = length_row DeclarePrivate Privates (kind_of p)
declaration_row n Variables p = variables_row n p
declaration_row n NewVariable p = new_variable_row n (kind_of p)
declaration_row n Vectors p = vectors_row n p
declaration_row n NewVector p = new_vector_row n (kind_of p)
declaration_row n f p = head_row n f p

-- ---- all forms

-- the alternative of a form that begins with a piece
abbrev pub row : Notes → Part → Piece → Option (List Item)
row n (Statement l nest) p = statement_row n l nest p (kind_of p)
row n (Next l nest) p = next_row l nest p
row n (Source l nest k) p = source_row n l nest k p (kind_of p)
row n (SourceOfFour l nest k) p = source_of_four_row n l nest k p (kind_of p)
row n (LoadedFour l nest k) p = loaded_four_row n l nest k (kind_of p)
row n (StoredFour l nest) p = stored_four_row n l nest (kind_of p)
row n (Fence l nest) p = fence_row l nest p
row n (AfterLocal l nest) p = after_local_row l nest p
row n (Beginning g l nest) p = beginning_row g l nest p
row n (BeginningId g l nest) p = beginning_id_row g l nest p
row n (BeginningAlong g l nest form) p = beginning_along_row g l nest form p
row n (Step l nest s) p = step_row l nest s p
row n (StepId l nest s) p = step_id_row l nest s p
row n (StepAlong l nest s form) p = step_along_row l nest s form p
row n (Turn l) p = turn_row l (kind_of p)
row n (Indent l) p = cond (bytes_eq p (indent l)) (Some []) None
row n (Value b l d) p = value_row n b l d p (kind_of p)
row n (Opened b l d) p = opened_row n b l d p (kind_of p)
row n (InLanes l d) p = lanes_row n l d p (kind_of p)
row n (LanesOpened l d) p = lanes_opened_row n l d p (kind_of p)
row n (LanesRest l d) p = lanes_rest_row l d p
row n (LanesAfterLess l d) p = lanes_after_less_row l d p
row n IdName p = id_row p
row n (IdAlong form) p = id_along_row form p
row n (Rest b l d) p = rest_row b l d p
row n (AfterLess b l d) p = after_less_row b l d p
row n f p = declaration_row n f p

-- the table of the kernel grammar
abbrev pub table : Table Piece Part Note Notes
table = record { same = bytes_eq; row = row; marked = marked }
