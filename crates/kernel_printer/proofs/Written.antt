-- What is written is the spelling.
use Rattle.std.proofs.Common.{◌≡◌, ℕ, zero, suc, ◌+◌, List, [], ◌∷◌, ◌++◌, Option, None, Some, Bool, true, false, ap, sym, ◌∙◌, arith, refl}
use Rattle.std.specs.Prelude.{codes, decimal}
use Rattle.std.proofs.lemmas.List.{append_assoc}
use Rattle.scalar_ops.specs.declared.op.Op.{Op}
use Rattle.scalar_ops.specs.declared.op.Op.TheVariants.{Min, Max}
use Rattle.kernel_tree.specs.declared.tree.Dimension.{Dimension}
use Rattle.kernel_tree.specs.declared.tree.Dimension.TheVariants.{X, Y}
use Rattle.kernel_tree.specs.Formula.{IdForm, GlobalId, GroupId, LocalId, GlobalSize, GroupCount, LocalSize, Comparison, Less, Equal, Formula, Number, Variable, LoopVariable, Size, Id, Binary, Choose, Lanes, Vector, Spread, Each}
use Rattle.kernel_tree.specs.Code.{Array, Statement, Start, FromZero, FromGlobalId, FromGroupId, FromLocalId, Stride, ByOne, ByGlobalSize, ByGroupCount, ByLocalSize, Performs, Assigns, Loads, Stores, AssignsFour, LoadsFour, StoresFour, Syncs, Kernel}
use Rattle.kernel_tree.specs.Pieces.{joined}
use Rattle.kernel_tree.specs.KernelText.{Piece, space, line, comma, semicolon, equals, question, colon, closes, index_ends, indent, named, array_name}
use Rattle.kernel_spelling.specs.Spelling.{spell_id, spell_sign, spell_comparison, spell, spell_lanes, spell_end, spell_start, spell_stride, loop_line, test_line, step_line, block_line, guard_line, below_line, spell_flags, spell_statement, spell_code, spell_locals, spell_privates, spell_variables, spell_vectors, spell_sizes, spell_outputs, spell_inputs, first_output, spell_head, spell_body, spell_kernel}
use Rattle.kernel_printer.specs.Bytes.{id_text, opening, between, comparing, write_expression, write_lanes, write_end, start_text, stride_text, write_loop, write_guard, flags_text, IsPut, write_inputs, write_outputs, write_sizes, write_arrays, write_variables, write_vectors, write_locals, write_privates, write_launching, write_head, write_kernel}

two : (f a b r : List ℕ) → (f ++ a ++ b) ++ r ≡ f ++ (a ++ (b ++ r))
two f a b r = append_assoc (f ++ a) b r ∙ append_assoc f a (b ++ r)

three : (f a b c r : List ℕ) → (f ++ a ++ b ++ c) ++ r ≡ f ++ (a ++ (b ++ (c ++ r)))
three f a b c r = append_assoc (f ++ a ++ b) c r ∙ two f a b (c ++ r)

four : (f a b c d r : List ℕ) → (f ++ a ++ b ++ c ++ d) ++ r ≡ f ++ (a ++ (b ++ (c ++ (d ++ r))))
four f a b c d r = append_assoc (f ++ a ++ b ++ c) d r ∙ three f a b c (d ++ r)

five : (f a b c d e r : List ℕ) → (f ++ a ++ b ++ c ++ d ++ e) ++ r ≡ f ++ (a ++ (b ++ (c ++ (d ++ (e ++ r)))))
five f a b c d e r = append_assoc (f ++ a ++ b ++ c ++ d) e r ∙ four f a b c d (e ++ r)

six : (f a b c d e g r : List ℕ) → (f ++ a ++ b ++ c ++ d ++ e ++ g) ++ r ≡ f ++ (a ++ (b ++ (c ++ (d ++ (e ++ (g ++ r))))))
six f a b c d e g r = append_assoc (f ++ a ++ b ++ c ++ d ++ e) g r ∙ five f a b c d e (g ++ r)

eight : (f a b c d e g h i r : List ℕ) → (f ++ a ++ b ++ c ++ d ++ e ++ g ++ h ++ i) ++ r ≡ f ++ (a ++ (b ++ (c ++ (d ++ (e ++ (g ++ (h ++ (i ++ r))))))))
eight f a b c d e g h i r = append_assoc (f ++ a ++ b ++ c ++ d ++ e ++ g ++ h) i r ∙ append_assoc (f ++ a ++ b ++ c ++ d ++ e ++ g) h (i ++ r) ∙ six f a b c d e g (h ++ (i ++ r))

-- ---- expressions

id_written : (d : Dimension) (form : IdForm) (back : List Piece) → id_text d form ++ joined back ≡ joined (spell_id d form back)
id_written X GlobalId back = refl
id_written X GroupId back = refl
id_written X LocalId back = refl
id_written X GlobalSize back = refl
id_written X GroupCount back = refl
id_written X LocalSize back = refl
id_written Y GlobalId back = refl
id_written Y GroupId back = refl
id_written Y LocalId back = refl
id_written Y GlobalSize back = refl
id_written Y GroupCount back = refl
id_written Y LocalSize back = refl

comparison_written : (c : Comparison) (back : List Piece) → comparing c ++ joined back ≡ joined (space ∷ spell_comparison c (space ∷ back))
comparison_written Less back = refl
comparison_written Equal back = refl

-- the pieces between an operator's operands
abbrev middle : Op → List Piece → List Piece
middle Min back = comma ∷ space ∷ back
middle Max back = comma ∷ space ∷ back
middle op back = space ∷ spell_sign op (space ∷ back)

between_written : (op : Op) (back : List Piece) → between op ++ joined back ≡ joined (middle op back)
between_written Min back = refl
between_written Max back = refl
between_written _ back = refl

opening_written : (op : Op) (a b : Formula) (back : List Piece) → opening op ++ joined (spell a (middle op (spell b (closes ∷ back)))) ≡ joined (spell (Binary op a b) back)
opening_written Min a b back = refl
opening_written Max a b back = refl
opening_written _ a b back = refl

expression_written : (e : Formula) (front : List ℕ) (back : List Piece) → write_expression front e ++ joined back ≡ front ++ joined (spell e back)
expression_written (Number v) front back = two front (decimal v) (codes "u") (joined back) ∙ ap (λ z. front ++ z) (sym (append_assoc (decimal v) (codes "u") (joined back)))
expression_written (Variable k) front back = append_assoc front (named 118 k) (joined back)
expression_written (LoopVariable k) front back = append_assoc front (named 105 k) (joined back)
expression_written (Size k) front back = append_assoc front (named 115 k) (joined back)
expression_written (Id d form) front back = append_assoc front (id_text d form) (joined back) ∙ ap (λ z. front ++ z) (id_written d form back)
expression_written (Binary op a b) front back =
    let left = write_expression (front ++ opening op) a in
    let right = write_expression (left ++ between op) b in
    let rest = spell b (closes ∷ back) in
    append_assoc right (codes ")") (joined back)
    ∙ expression_written b (left ++ between op) (closes ∷ back)
    ∙ append_assoc left (between op) (joined rest)
    ∙ ap (λ z. left ++ z) (between_written op rest)
    ∙ expression_written a (front ++ opening op) (middle op rest)
    ∙ append_assoc front (opening op) (joined (spell a (middle op rest)))
    ∙ ap (λ z. front ++ z) (opening_written op a b back)
expression_written (Choose c a b x y) front back =
    let left = write_expression (front ++ codes "(") a in
    let right = write_expression (left ++ comparing c) b in
    let yes = write_expression (right ++ codes " ? ") x in
    let no = write_expression (yes ++ codes " : ") y in
    let rest = spell y (closes ∷ back) in
    let choices = spell x (space ∷ colon ∷ space ∷ rest) in
    let test = spell b (space ∷ question ∷ space ∷ choices) in
    append_assoc no (codes ")") (joined back)
    ∙ expression_written y (yes ++ codes " : ") (closes ∷ back)
    ∙ append_assoc yes (codes " : ") (joined rest)
    ∙ expression_written x (right ++ codes " ? ") (space ∷ colon ∷ space ∷ rest)
    ∙ append_assoc right (codes " ? ") (joined choices)
    ∙ expression_written b (left ++ comparing c) (space ∷ question ∷ space ∷ choices)
    ∙ append_assoc left (comparing c) (joined test)
    ∙ ap (λ z. left ++ z) (comparison_written c test)
    ∙ expression_written a (front ++ codes "(") (space ∷ spell_comparison c (space ∷ test))
    ∙ append_assoc front (codes "(") (joined (spell a (space ∷ spell_comparison c (space ∷ test))))

-- ---- expressions of four words

lanes_opening_written : (op : Op) (a b : Lanes) (back : List Piece) → opening op ++ joined (spell_lanes a (middle op (spell_lanes b (closes ∷ back)))) ≡ joined (spell_lanes (Each op a b) back)
lanes_opening_written Min a b back = refl
lanes_opening_written Max a b back = refl
lanes_opening_written _ a b back = refl

lanes_written : (e : Lanes) (front : List ℕ) (back : List Piece) → write_lanes front e ++ joined back ≡ front ++ joined (spell_lanes e back)
lanes_written (Vector k) front back = append_assoc front (named 119 k) (joined back)
lanes_written (Spread e) front back =
    append_assoc (write_expression (front ++ codes "(uint4)(") e) (codes ")") (joined back)
    ∙ expression_written e (front ++ codes "(uint4)(") (closes ∷ back)
    ∙ append_assoc front (codes "(uint4)(") (joined (spell e (closes ∷ back)))
lanes_written (Each op a b) front back =
    let left = write_lanes (front ++ opening op) a in
    let right = write_lanes (left ++ between op) b in
    let rest = spell_lanes b (closes ∷ back) in
    append_assoc right (codes ")") (joined back)
    ∙ lanes_written b (left ++ between op) (closes ∷ back)
    ∙ append_assoc left (between op) (joined rest)
    ∙ ap (λ z. left ++ z) (between_written op rest)
    ∙ lanes_written a (front ++ opening op) (middle op rest)
    ∙ append_assoc front (opening op) (joined (spell_lanes a (middle op rest)))
    ∙ ap (λ z. front ++ z) (lanes_opening_written op a b back)

-- ---- statements

pub end_written : (nest : ℕ) (front : List ℕ) (back : List Piece) → write_end nest front ++ joined back ≡ front ++ joined (spell_end nest back)
end_written zero front back = append_assoc front (codes "}\n") (joined back)
end_written (suc nest) front back = two front (indent (suc nest)) (codes "}\n") (joined back)

start_written : (s : Start) (back : List Piece) → start_text s ++ joined back ≡ joined (spell_start s back)
start_written FromZero back = refl
start_written (FromGlobalId d) back = id_written d GlobalId back
start_written (FromGroupId d) back = id_written d GroupId back
start_written (FromLocalId d) back = id_written d LocalId back

stride_written : (c : Stride) (back : List Piece) → stride_text c ++ joined back ≡ joined (spell_stride c back)
stride_written ByOne back = refl
stride_written (ByGlobalSize d) back = id_written d GlobalSize back
stride_written (ByGroupCount d) back = id_written d GroupCount back
stride_written (ByLocalSize d) back = id_written d LocalSize back

flags_written : (on_local on_global : Bool) (back : List Piece) → flags_text on_local on_global ++ joined back ≡ joined (spell_flags on_local on_global back)
flags_written true true back = refl
flags_written true false back = refl
flags_written false true back = refl
flags_written false false back = refl

pub loop_written : (l nest : ℕ) (front : List ℕ) (s : Start) (b : Formula) (c : Stride) (back : List Piece) → write_loop l nest front s b c ++ joined back ≡ front ++ joined (indent (suc nest) ∷ loop_line l (spell_start s (test_line l (spell b (step_line l (spell_stride c (block_line back)))))))
loop_written l nest front s b c back =
    let head = front ++ indent (suc nest) ++ codes "for (uint " ++ named 105 l ++ codes " = " ++ start_text s ++ codes "; " ++ named 105 l ++ codes " < " in
    let bounded = write_expression head b in
    let rest = spell b (step_line l (spell_stride c (block_line back))) in
    five bounded (codes "; ") (named 105 l) (codes " += ") (stride_text c) (codes ") {\n") (joined back)
    ∙ ap (λ z. bounded ++ (codes "; " ++ (named 105 l ++ (codes " += " ++ z)))) (stride_written c (block_line back))
    ∙ expression_written b head (step_line l (spell_stride c (block_line back)))
    ∙ eight front (indent (suc nest)) (codes "for (uint ") (named 105 l) (codes " = ") (start_text s) (codes "; ") (named 105 l) (codes " < ") (joined rest)
    ∙ ap (λ z. front ++ (indent (suc nest) ++ (codes "for (uint " ++ (named 105 l ++ (codes " = " ++ z))))) (start_written s (test_line l rest))

pub guard_written : (nest : ℕ) (front : List ℕ) (s : Start) (b : Formula) (back : List Piece) → write_guard nest front s b ++ joined back ≡ front ++ joined (indent (suc nest) ∷ guard_line (spell_start s (below_line (spell b (block_line back)))))
guard_written nest front s b back =
    let head = front ++ indent (suc nest) ++ codes "if (" ++ start_text s ++ codes " < " in
    let rest = spell b (block_line back) in
    append_assoc (write_expression head b) (codes ") {\n") (joined back)
    ∙ expression_written b head (block_line back)
    ∙ four front (indent (suc nest)) (codes "if (") (start_text s) (codes " < ") (joined rest)
    ∙ ap (λ z. front ++ (indent (suc nest) ++ (codes "if (" ++ z))) (start_written s (below_line rest))

-- `new` is `front` and then this statement, if what is written is its spelling
put : (s : Statement) (l nest : ℕ) (front written new : List ℕ) → new ≡ written → ((rest : List Piece) → written ++ joined rest ≡ front ++ joined (indent (nest + 1) ∷ spell_statement s (semicolon ∷ line ∷ rest))) → IsPut l nest (Performs s) front new
put s l nest front written new e h = λ after back.
    let rest = spell_code l nest after back in
    let deeper : suc nest ≡ nest + 1 = omega arith in
    ap (λ n. front ++ joined (indent n ∷ spell_statement s (semicolon ∷ line ∷ rest))) deeper ∙ sym (h rest) ∙ ap (λ z. z ++ joined rest) (sym e)

-- a statement, by the texts that its parts make in turn
pub assign_put : {t u v w new : List ℕ} (l nest k : ℕ) (e : Formula) (front : List ℕ) → t ≡ front ++ indent (nest + 1) → u ≡ t ++ named 118 k → v ≡ u ++ codes " = " → w ≡ write_expression v e → new ≡ w ++ codes ";\n" → IsPut l nest (Performs (Assigns k e)) front new
assign_put l nest k e front e1 e2 e3 e4 e5 =
    let head = front ++ indent (nest + 1) ++ named 118 k ++ codes " = " in
    put (Assigns k e) l nest front (write_expression head e ++ codes ";\n") _ (cc) (λ rest.
    append_assoc (write_expression head e) (codes ";\n") (joined rest)
    ∙ expression_written e head (semicolon ∷ line ∷ rest)
    ∙ three front (indent (nest + 1)) (named 118 k) (codes " = ") (joined (spell e (semicolon ∷ line ∷ rest))))

pub load_put : {t u v w x y new : List ℕ} (l nest k : ℕ) (array : Array) (i : Formula) (front : List ℕ) → t ≡ front ++ indent (nest + 1) → u ≡ t ++ named 118 k → v ≡ u ++ codes " = " → w ≡ v ++ array_name array → x ≡ w ++ codes "[" → y ≡ write_expression x i → new ≡ y ++ codes "];\n"
    → IsPut l nest (Performs (Loads k array i)) front new
load_put l nest k array i front e1 e2 e3 e4 e5 e6 e7 =
    let head = front ++ indent (nest + 1) ++ named 118 k ++ codes " = " ++ array_name array ++ codes "[" in
    put (Loads k array i) l nest front (write_expression head i ++ codes "];\n") _ (cc) (λ rest.
    append_assoc (write_expression head i) (codes "];\n") (joined rest)
    ∙ expression_written i head (index_ends ∷ semicolon ∷ line ∷ rest)
    ∙ five front (indent (nest + 1)) (named 118 k) (codes " = ") (array_name array) (codes "[") (joined (spell i (index_ends ∷ semicolon ∷ line ∷ rest))))

pub store_put : {t u v w x y new : List ℕ} (l nest : ℕ) (array : Array) (i e : Formula) (front : List ℕ) → t ≡ front ++ indent (nest + 1) → u ≡ t ++ array_name array → v ≡ u ++ codes "[" → w ≡ write_expression v i → x ≡ w ++ codes "] = " → y ≡ write_expression x e → new ≡ y ++ codes ";\n"
    → IsPut l nest (Performs (Stores array i e)) front new
store_put l nest array i e front e1 e2 e3 e4 e5 e6 e7 =
    let head = front ++ indent (nest + 1) ++ array_name array ++ codes "[" in
    let mid = write_expression head i ++ codes "] = " in
    put (Stores array i e) l nest front (write_expression mid e ++ codes ";\n") _ (cc) (λ rest.
    let value = spell e (semicolon ∷ line ∷ rest) in
    append_assoc (write_expression mid e) (codes ";\n") (joined rest)
    ∙ expression_written e mid (semicolon ∷ line ∷ rest)
    ∙ append_assoc (write_expression head i) (codes "] = ") (joined value)
    ∙ expression_written i head (index_ends ∷ space ∷ equals ∷ space ∷ value)
    ∙ three front (indent (nest + 1)) (array_name array) (codes "[") (joined (spell i (index_ends ∷ space ∷ equals ∷ space ∷ value))))

pub assign_four_put : {t u v w new : List ℕ} (l nest k : ℕ) (e : Lanes) (front : List ℕ) → t ≡ front ++ indent (nest + 1) → u ≡ t ++ named 119 k → v ≡ u ++ codes " = " → w ≡ write_lanes v e → new ≡ w ++ codes ";\n" → IsPut l nest (Performs (AssignsFour k e)) front new
assign_four_put l nest k e front e1 e2 e3 e4 e5 =
    let head = front ++ indent (nest + 1) ++ named 119 k ++ codes " = " in
    put (AssignsFour k e) l nest front (write_lanes head e ++ codes ";\n") _ (cc) (λ rest.
    append_assoc (write_lanes head e) (codes ";\n") (joined rest)
    ∙ lanes_written e head (semicolon ∷ line ∷ rest)
    ∙ three front (indent (nest + 1)) (named 119 k) (codes " = ") (joined (spell_lanes e (semicolon ∷ line ∷ rest))))

pub load_four_put : {t u v w x y new : List ℕ} (l nest k : ℕ) (array : Array) (i : Formula) (front : List ℕ) → t ≡ front ++ indent (nest + 1) → u ≡ t ++ named 119 k → v ≡ u ++ codes " = vload4(" → w ≡ write_expression v i → x ≡ w ++ codes ", " → y ≡ x ++ array_name array → new ≡ y ++ codes ");\n"
    → IsPut l nest (Performs (LoadsFour k array i)) front new
load_four_put l nest k array i front e1 e2 e3 e4 e5 e6 e7 =
    let head = front ++ indent (nest + 1) ++ named 119 k ++ codes " = vload4(" in
    put (LoadsFour k array i) l nest front (write_expression head i ++ codes ", " ++ array_name array ++ codes ");\n") _ (cc) (λ rest.
    let behind = comma ∷ space ∷ array_name array ∷ closes ∷ semicolon ∷ line ∷ rest in
    three (write_expression head i) (codes ", ") (array_name array) (codes ");\n") (joined rest)
    ∙ expression_written i head behind
    ∙ three front (indent (nest + 1)) (named 119 k) (codes " = vload4(") (joined (spell i behind)))

pub store_four_put : {t u v w x y z new : List ℕ} (l nest : ℕ) (array : Array) (i : Formula) (e : Lanes) (front : List ℕ) → t ≡ front ++ indent (nest + 1) → u ≡ t ++ codes "vstore4(" → v ≡ write_lanes u e → w ≡ v ++ codes ", " → x ≡ write_expression w i → y ≡ x ++ codes ", " → z ≡ y ++ array_name array → new ≡ z ++ codes ");\n"
    → IsPut l nest (Performs (StoresFour array i e)) front new
store_four_put l nest array i e front e1 e2 e3 e4 e5 e6 e7 e8 =
    let head = front ++ indent (nest + 1) ++ codes "vstore4(" in
    let mid = write_lanes head e ++ codes ", " in
    put (StoresFour array i e) l nest front (write_expression mid i ++ codes ", " ++ array_name array ++ codes ");\n") _ (cc) (λ rest.
    let behind = comma ∷ space ∷ array_name array ∷ closes ∷ semicolon ∷ line ∷ rest in
    three (write_expression mid i) (codes ", ") (array_name array) (codes ");\n") (joined rest)
    ∙ expression_written i mid behind
    ∙ append_assoc (write_lanes head e) (codes ", ") (joined (spell i behind))
    ∙ lanes_written e head (comma ∷ space ∷ spell i behind)
    ∙ two front (indent (nest + 1)) (codes "vstore4(") (joined (spell_lanes e (comma ∷ space ∷ spell i behind))))

pub barrier_put : {t u v new : List ℕ} (l nest : ℕ) (on_local on_global : Bool) (front : List ℕ) → t ≡ front ++ indent (nest + 1) → u ≡ t ++ codes "barrier(" → v ≡ u ++ flags_text on_local on_global → new ≡ v ++ codes ");\n" → IsPut l nest (Performs (Syncs on_local on_global)) front new
barrier_put l nest on_local on_global front e1 e2 e3 e4 =
    put (Syncs on_local on_global) l nest front (front ++ indent (nest + 1) ++ codes "barrier(" ++ flags_text on_local on_global ++ codes ");\n") _ (cc) (λ rest.
    four front (indent (nest + 1)) (codes "barrier(") (flags_text on_local on_global) (codes ");\n") (joined rest)
    ∙ ap (λ z. front ++ (indent (nest + 1) ++ (codes "barrier(" ++ z))) (flags_written on_local on_global (closes ∷ semicolon ∷ line ∷ rest)))

-- ---- declarations and parameters

locals_written : (ns : List ℕ) (i : ℕ) (front : List ℕ) (back : List Piece) → write_arrays (codes "__local uint ") 108 front i ns ++ joined back ≡ front ++ joined (spell_locals i ns back)
locals_written [] i front back = refl
locals_written (n ∷ ns) i front back =
    locals_written ns (suc i) (front ++ indent 1 ++ codes "__local uint " ++ named 108 i ++ codes "[" ++ decimal n ++ codes "];\n") back
    ∙ six front (indent 1) (codes "__local uint ") (named 108 i) (codes "[") (decimal n) (codes "];\n") (joined (spell_locals (suc i) ns back))

privates_written : (ns : List ℕ) (i : ℕ) (front : List ℕ) (back : List Piece) → write_arrays (codes "uint ") 112 front i ns ++ joined back ≡ front ++ joined (spell_privates i ns back)
privates_written [] i front back = refl
privates_written (n ∷ ns) i front back =
    privates_written ns (suc i) (front ++ indent 1 ++ codes "uint " ++ named 112 i ++ codes "[" ++ decimal n ++ codes "];\n") back
    ∙ six front (indent 1) (codes "uint ") (named 112 i) (codes "[") (decimal n) (codes "];\n") (joined (spell_privates (suc i) ns back))

none : (i : ℕ) → i + 0 ≡ i
none i = omega arith

one_more : (i more : ℕ) → suc i + more ≡ i + suc more
one_more i more = omega arith

inputs_written : (more i : ℕ) (front : List ℕ) (back : List Piece) → write_inputs front (i + more) ++ joined back ≡ write_inputs front i ++ joined (spell_inputs i more back)
inputs_written zero i front back = ap (λ n. write_inputs front n ++ joined back) (none i)
inputs_written (suc more) i front back =
    ap (λ n. write_inputs front n ++ joined back) (sym (one_more i more))
    ∙ inputs_written more (suc i) front back
    ∙ three (write_inputs front i) (codes "__global const uint *") (named 97 i) (codes ", ") (joined (spell_inputs (suc i) more back))

outputs_written : (more i : ℕ) (front : List ℕ) (back : List Piece) → write_outputs front (i + more) ++ joined back ≡ write_outputs front i ++ joined (spell_outputs (suc i) more back)
outputs_written zero i front back = ap (λ n. write_outputs front n ++ joined back) (none i)
outputs_written (suc more) i front back =
    ap (λ n. write_outputs front n ++ joined back) (sym (one_more i more))
    ∙ outputs_written more (suc i) front back
    ∙ two (write_outputs front i) (codes ", __global uint *") (named 111 (suc i)) (joined (spell_outputs (suc (suc i)) more back))

sizes_written : (more i : ℕ) (front : List ℕ) (back : List Piece) → write_sizes front (i + more) ++ joined (closes ∷ back) ≡ write_sizes front i ++ joined (spell_sizes i more back)
sizes_written zero i front back = ap (λ n. write_sizes front n ++ joined (closes ∷ back)) (none i)
sizes_written (suc more) i front back =
    ap (λ n. write_sizes front n ++ joined (closes ∷ back)) (sym (one_more i more))
    ∙ sizes_written more (suc i) front back
    ∙ two (write_sizes front i) (codes ", const uint ") (named 115 i) (joined (spell_sizes (suc i) more back))

variables_written : (more i : ℕ) (front : List ℕ) (back : List Piece) → write_variables front (i + more) ++ joined back ≡ write_variables front i ++ joined (spell_variables i more back)
variables_written zero i front back = ap (λ n. write_variables front n ++ joined back) (none i)
variables_written (suc more) i front back =
    ap (λ n. write_variables front n ++ joined back) (sym (one_more i more))
    ∙ variables_written more (suc i) front back
    ∙ four (write_variables front i) (indent 1) (codes "uint ") (named 118 i) (codes ";\n") (joined (spell_variables (suc i) more back))

vectors_written : (more i : ℕ) (front : List ℕ) (back : List Piece) → write_vectors front (i + more) ++ joined back ≡ write_vectors front i ++ joined (spell_vectors i more back)
vectors_written zero i front back = ap (λ n. write_vectors front n ++ joined back) (none i)
vectors_written (suc more) i front back =
    ap (λ n. write_vectors front n ++ joined back) (sym (one_more i more))
    ∙ vectors_written more (suc i) front back
    ∙ four (write_vectors front i) (indent 1) (codes "uint4 ") (named 119 i) (codes ";\n") (joined (spell_vectors (suc i) more back))

-- the groups' size, and the kernel's name
launching_written : (size : Option (ℕ × ℕ)) (name : List ℕ) (back : List Piece) → write_launching (codes "__kernel ") size ++ (codes "void " ++ (name ++ (codes "(" ++ joined back))) ≡ joined (spell_head name size back)
launching_written None name back = refl
launching_written (Some size) name back =
    five (codes "__kernel ") (codes "__attribute__((reqd_work_group_size(") (decimal size.0) (codes ", ") (decimal size.1) (codes ", 1))) ") (codes "void " ++ (name ++ (codes "(" ++ joined back)))

head_written : (size : Option (ℕ × ℕ)) (name : List ℕ) (back : List Piece) → write_head name size ++ joined back ≡ joined (spell_head name size back)
head_written size name back =
    three (write_launching (codes "__kernel ") size) (codes "void ") name (codes "(") (joined back)
    ∙ launching_written size name back

from_zero : (n : ℕ) → n ≡ 0 + n
from_zero n = omega arith

pub kernel_written : (name : List ℕ) (k : Kernel) (more : ℕ) → write_kernel name k more ≡ joined (spell_kernel name k more)
kernel_written name k more =
    let head = write_head name k.local in
    let inputs = write_inputs head k.inputs in
    let outputs = write_outputs inputs more in
    let sizes = write_sizes outputs k.sizes in
    let opened = sizes ++ codes ")\n{\n" in
    let locals = write_locals opened k.locals in
    let privates = write_privates locals k.privates in
    let variables = write_variables privates k.variables in
    let code = spell_code 0 0 k.code [] in
    let after_variables = spell_vectors 0 k.vectors code in
    let after_privates = spell_variables 0 k.variables after_variables in
    let after_locals = spell_privates 0 k.privates after_privates in
    let body = spell_locals 0 k.locals after_locals in
    let parameters = first_output 0 (spell_outputs 1 more (spell_sizes 0 k.sizes (spell_body k))) in
    ap (λ n. write_vectors variables n ++ joined code) (from_zero k.vectors)
    ∙ vectors_written k.vectors 0 variables code
    ∙ ap (λ n. write_variables privates n ++ joined after_variables) (from_zero k.variables)
    ∙ variables_written k.variables 0 privates after_variables
    ∙ privates_written k.privates 0 locals after_privates
    ∙ locals_written k.locals 0 opened after_locals
    ∙ append_assoc sizes (codes ")\n{\n") (joined body)
    ∙ ap (λ n. write_sizes outputs n ++ joined (closes ∷ spell_body k)) (from_zero k.sizes)
    ∙ sizes_written k.sizes 0 outputs (spell_body k)
    ∙ ap (λ n. write_outputs inputs n ++ joined (spell_sizes 0 k.sizes (spell_body k))) (from_zero more)
    ∙ outputs_written more 0 inputs (spell_sizes 0 k.sizes (spell_body k))
    ∙ two inputs (codes "__global uint *") (named 111 0) (joined (spell_outputs 1 more (spell_sizes 0 k.sizes (spell_body k))))
    ∙ ap (λ n. write_inputs head n ++ joined parameters) (from_zero k.inputs)
    ∙ inputs_written k.inputs 0 head parameters
    ∙ head_written k.local name (spell_inputs 0 k.inputs parameters)
