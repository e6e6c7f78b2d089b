-- The pieces of a spelled kernel are the pieces of its text.
use Rattle.std.proofs.Common.{◌≡◌, ℕ, zero, suc, ◌+◌, ◌^◌, ◌<◌, ◌≤◌, List, [], ◌∷◌, Option, None, Some, true, refl, ap, sym, subst, arith, length, lit<, lit≤}
use Rattle.std.specs.Prelude.{codes, decimal, nat_lt}
use Rattle.std.proofs.lemmas.Bool.{and_parts}
use Rattle.kernel_tree.specs.Formula.{GlobalId, GroupId, LocalId, GlobalSize, GroupCount, LocalSize}
use Rattle.kernel_tree.specs.Code.{Start, FromZero, FromGlobalId, FromGroupId, FromLocalId, Stride, ByOne, ByGlobalSize, ByGroupCount, ByLocalSize, Code, End, Performs, Loops, Guards, Kernel}
use Rattle.kernel_tree.specs.Grammar.{are_statements, are_lengths, is_group_size, is_statement}
use Rattle.kernel_tree.specs.Pieces.{ArePieces, joined}
use Rattle.kernel_tree.specs.KernelText.{Piece, space, line, comma, semicolon, opens, closes, index_begins, index_ends, global, local, const, uint, uint4, for, whether, one, void, attribute, group_size, loop_variable, zero_literal, one_literal, number_limit, Notes, counted, all_of as notes_of}
use Rattle.kernel_spelling.specs.Spelling.{spell_end, spell_start, spell_stride, loop_line, test_line, step_line, block_line, guard_line, below_line, spell_code, spell_locals, spell_privates, spell_variables, spell_vectors, spell_sizes, spell_outputs, spell_inputs, first_output, spell_launching, spell_body, spelled_with, spelled, IsName, HasText}
use Rattle.kernel_spelling.specs.Meaning.{CountsFit}
use Rattle.kernel_spelling.proofs.Cut.{Stand, NoWord, NoBlank, single, indented, a_name}
use Rattle.kernel_spelling.proofs.Spelled.{loop_room, guard_room, loop_fits, guard_fits, length_parts, size_fits}
use Rattle.kernel_spelling.proofs.Values.{loops_small}
use Rattle.kernel_spelling.proofs.Whole.{kernel_fits}
use Rattle.kernel_spelling.proofs.Separate.{a_word, a_space, a_decimal, decimal_apart, word_apart, all_letters, id_stands, expression_stands}
use Rattle.kernel_spelling.proofs.Statements.{Room, statement_stands}

-- ---- statements

-- the end of a line
ended : (ps : List Piece) → Stand ps → Stand (semicolon ∷ line ∷ ps)
ended ps stood = single 59 _ refl refl (single 10 ps refl refl stood)

end_stands : (l : ℕ) (back : List Piece) → Stand back → Stand (spell_end l back)
end_stands zero back stood = single 125 _ refl refl (single 10 back refl refl stood)
end_stands (suc l) back stood = indented l _ refl (single 125 _ refl refl (single 10 back refl refl stood))

turn_stands : (l : ℕ) (ps : List Piece) → l < number_limit → NoWord ps → Stand ps → Stand (loop_variable l ∷ ps)
turn_stands l ps small apart stood = a_name 105 l ps small refl apart stood

start_stands : (s : Start) (ps : List Piece) → NoWord ps → Stand ps → Stand (spell_start s ps) × NoBlank (spell_start s ps)
start_stands FromZero ps apart stood = (a_word zero_literal ps refl (lit< tt) apart stood, refl)
start_stands (FromGlobalId d) ps apart stood = id_stands d GlobalId ps stood
start_stands (FromGroupId d) ps apart stood = id_stands d GroupId ps stood
start_stands (FromLocalId d) ps apart stood = id_stands d LocalId ps stood

stride_stands : (c : Stride) (ps : List Piece) → NoWord ps → Stand ps → Stand (spell_stride c ps) × NoBlank (spell_stride c ps)
stride_stands ByOne ps apart stood = (a_word one_literal ps refl (lit< tt) apart stood, refl)
stride_stands (ByGlobalSize d) ps apart stood = id_stands d GlobalSize ps stood
stride_stands (ByGroupCount d) ps apart stood = id_stands d GroupCount ps stood
stride_stands (ByLocalSize d) ps apart stood = id_stands d LocalSize ps stood

-- a loop's line, before what its variable begins with, before its bound,
-- before its step and behind that
loop_stands : (l : ℕ) (ps : List Piece) → l < number_limit → NoBlank ps → Stand ps → Stand (loop_line l ps)
loop_stands l ps small apart stood =
    let begin = turn_stands l _ small refl (a_space _ refl (single 61 _ refl refl (a_space ps apart stood))) in
    a_word for _ refl (lit< tt) refl (a_space _ refl (single 40 _ refl refl (a_word uint _ refl (lit< tt) refl (a_space _ refl begin))))

test_stands : (l : ℕ) (ps : List Piece) → l < number_limit → NoBlank ps → Stand ps → Stand (test_line l ps)
test_stands l ps small apart stood =
    single 59 _ refl refl (a_space _ refl (turn_stands l _ small refl (a_space _ refl (single 60 _ refl refl (a_space ps apart stood)))))

step_stands : (l : ℕ) (ps : List Piece) → l < number_limit → NoBlank ps → Stand ps → Stand (step_line l ps)
step_stands l ps small apart stood =
    single 59 _ refl refl (a_space _ refl (turn_stands l _ small refl (a_space _ refl (single 43 _ refl refl (single 61 _ refl refl (a_space ps apart stood))))))

block_stands : (ps : List Piece) → Stand ps → Stand (block_line ps)
block_stands ps stood = single 41 _ refl refl (a_space _ refl (single 123 _ refl refl (single 10 ps refl refl stood)))

-- an if's line, before what it compares, and before its bound
guard_stands : (ps : List Piece) → NoBlank ps → Stand ps → Stand (guard_line ps)
guard_stands ps apart stood = a_word whether _ refl (lit< tt) refl (a_space _ refl (single 40 ps refl refl stood))

below_stands : (ps : List Piece) → NoBlank ps → Stand ps → Stand (below_line ps)
below_stands ps apart stood = a_space _ refl (single 60 _ refl refl (a_space ps apart stood))

code_stands : (c : Code) (l nest : ℕ) (n : Notes) (back : List Piece) → CountsFit n → Room l nest → are_statements (counted n) l nest c ≡ true → Stand back → Stand (spell_code l nest c back)
code_stands End l nest n back fit deep f stood = end_stands nest back stood
code_stands (Performs s after) l nest n back fit deep f stood =
    let p = and_parts (is_statement (counted n) l s) (are_statements (counted n) l nest after) f in
    let q = statement_stands s l n _ fit deep.1 p.0 refl (ended _ (code_stands after l nest n back fit deep p.1 stood)) in
    indented nest _ q.1 q.0
code_stands (Loops s b c body after) l nest n back fit deep f stood =
    let p = loop_fits n l nest s b c body after f in
    let room = loop_room l nest deep p.below in
    let small = loops_small l 1024 room.0 (let k : 1024 ≤ 1024 = lit≤ tt in k) in
    let inner = code_stands body (suc l) (suc nest) n _ fit room.1 p.body_fits (code_stands after l nest n back fit deep p.after_fits stood) in
    let stride = stride_stands c _ refl (block_stands _ inner) in
    let bound = expression_stands b l n _ fit deep.1 p.bound refl (step_stands l _ small stride.1 stride.0) in
    let begin = start_stands s _ refl (test_stands l _ small bound.1 bound.0) in
    indented nest _ refl (loop_stands l _ small begin.1 begin.0)
code_stands (Guards s b body after) l nest n back fit deep f stood =
    let p = guard_fits n l nest s b body after f in
    let inner = code_stands body l (suc nest) n _ fit (guard_room l nest deep) p.body_fits (code_stands after l nest n back fit deep p.after_fits stood) in
    let bound = expression_stands b l n _ fit deep.1 p.bound refl (block_stands _ inner) in
    let begin = start_stands s _ refl (below_stands _ bound.1 bound.0) in
    indented nest _ refl (guard_stands _ begin.1 begin.0)

-- ---- declarations

bracketed : (v : ℕ) (ps : List Piece) → v < 2 ^ 32 → Stand ps → Stand (index_begins ∷ decimal v ∷ index_ends ∷ semicolon ∷ line ∷ ps)
bracketed v ps small stood = single 91 _ refl refl (a_decimal v _ small refl (single 93 _ refl refl (ended ps stood)))

locals_stand : (ns : List ℕ) (i : ℕ) (back : List Piece) → are_lengths ns ≡ true → i + length ns < number_limit → Stand back → Stand (spell_locals i ns back)
locals_stand [] i back h small stood = stood
locals_stand (v ∷ vs) i back h small stood =
    let p = length_parts v vs h in
    let rest = locals_stand vs (suc i) back p.2 (let w : suc i + length vs < 2 ^ 32 = omega (arith, small) in w) stood in
    let array = a_name 108 i _ (let w : i < 2 ^ 32 = omega (arith, small) in w) refl refl (bracketed v _ p.1 rest) in
    indented 0 _ refl (a_word local _ refl (lit< tt) refl (a_space _ refl (a_word uint _ refl (lit< tt) refl (a_space _ refl array))))

privates_stand : (ns : List ℕ) (i : ℕ) (back : List Piece) → are_lengths ns ≡ true → i + length ns < number_limit → Stand back → Stand (spell_privates i ns back)
privates_stand [] i back h small stood = stood
privates_stand (v ∷ vs) i back h small stood =
    let p = length_parts v vs h in
    let rest = privates_stand vs (suc i) back p.2 (let w : suc i + length vs < 2 ^ 32 = omega (arith, small) in w) stood in
    let array = a_name 112 i _ (let w : i < 2 ^ 32 = omega (arith, small) in w) refl refl (bracketed v _ p.1 rest) in
    indented 0 _ refl (a_word uint _ refl (lit< tt) refl (a_space _ refl array))

variables_stand : (more i : ℕ) (back : List Piece) → i + more < number_limit → Stand back → Stand (spell_variables i more back)
variables_stand zero i back small stood = stood
variables_stand (suc more) i back small stood =
    let rest = variables_stand more (suc i) back (let w : suc i + more < 2 ^ 32 = omega (arith, small) in w) stood in
    indented 0 _ refl (a_word uint _ refl (lit< tt) refl (a_space _ refl (a_name 118 i _ (let w : i < 2 ^ 32 = omega (arith, small) in w) refl refl (ended _ rest))))

vectors_stand : (more i : ℕ) (back : List Piece) → i + more < number_limit → Stand back → Stand (spell_vectors i more back)
vectors_stand zero i back small stood = stood
vectors_stand (suc more) i back small stood =
    let rest = vectors_stand more (suc i) back (let w : suc i + more < 2 ^ 32 = omega (arith, small) in w) stood in
    indented 0 _ refl (a_word uint4 _ refl (lit< tt) refl (a_space _ refl (a_name 119 i _ (let w : i < 2 ^ 32 = omega (arith, small) in w) refl refl (ended _ rest))))

-- ---- parameters

sizes_stand : (more i : ℕ) (back : List Piece) → i + more < number_limit → Stand back → Stand (spell_sizes i more back) × NoWord (spell_sizes i more back)
sizes_stand zero i back small stood = (single 41 back refl refl stood, refl)
sizes_stand (suc more) i back small stood =
    let rest = sizes_stand more (suc i) back (let w : suc i + more < 2 ^ 32 = omega (arith, small) in w) stood in
    let named_size = a_name 115 i _ (let w : i < 2 ^ 32 = omega (arith, small) in w) refl rest.1 rest.0 in
    (single 44 _ refl refl (a_space _ refl (a_word const _ refl (lit< tt) refl (a_space _ refl (a_word uint _ refl (lit< tt) refl (a_space _ refl named_size))))), refl)

output_stands : (o : ℕ) (back : List Piece) → o < number_limit → NoWord back → Stand back → Stand (first_output o back)
output_stands o back small apart stood =
    let named_output = a_name 111 o back small refl apart stood in
    a_word global _ refl (lit< tt) refl (a_space _ refl (a_word uint _ refl (lit< tt) refl (a_space _ refl (single 42 _ refl refl named_output))))

outputs_stand : (more i : ℕ) (back : List Piece) → i + more < number_limit → NoWord back → Stand back → Stand (spell_outputs i more back) × NoWord (spell_outputs i more back)
outputs_stand zero i back small apart stood = (stood, apart)
outputs_stand (suc more) i back small apart stood =
    let rest = outputs_stand more (suc i) back (let w : suc i + more < 2 ^ 32 = omega (arith, small) in w) apart stood in
    (single 44 _ refl refl (a_space _ refl (output_stands i _ (let w : i < 2 ^ 32 = omega (arith, small) in w) rest.1 rest.0)), refl)

inputs_stand : (more i : ℕ) (back : List Piece) → i + more < number_limit → NoBlank back → Stand back → Stand (spell_inputs i more back) × NoBlank (spell_inputs i more back)
inputs_stand zero i back small apart stood = (stood, apart)
inputs_stand (suc more) i back small apart stood =
    let rest = inputs_stand more (suc i) back (let w : suc i + more < 2 ^ 32 = omega (arith, small) in w) apart stood in
    let named_input = a_name 97 i _ (let w : i < 2 ^ 32 = omega (arith, small) in w) refl refl (single 44 _ refl refl (a_space _ rest.1 rest.0)) in
    (a_word global _ refl (lit< tt) refl (a_space _ refl (a_word const _ refl (lit< tt) refl (a_space _ refl (a_word uint _ refl (lit< tt) refl (a_space _ refl (single 42 _ refl refl named_input)))))), refl)

-- ---- the whole

from_zero : (x : ℕ) → x < 2 ^ 32 → 0 + x < 2 ^ 32
from_zero x h = omega (arith, h)

-- the size of the groups, where there is one
launching_stands : (size : Option (ℕ × ℕ)) (ps : List Piece) → is_group_size size ≡ true → NoWord ps → Stand ps → Stand (spell_launching size ps) × NoBlank (spell_launching size ps)
launching_stands None ps h apart stood = (a_word void ps refl (lit< tt) apart stood, refl)
launching_stands (Some size) ps h apart stood =
    let p = size_fits size.0 size.1 h in
    let last = a_word one _ refl (lit< tt) refl (single 41 _ refl refl (single 41 _ refl refl (single 41 _ refl refl (a_space _ refl (a_word void ps refl (lit< tt) apart stood))))) in
    let second = a_decimal size.1 _ p.small_height refl (single 44 _ refl refl (a_space _ refl last)) in
    let first = a_decimal size.0 _ p.small_width refl (single 44 _ refl refl (a_space _ (decimal_apart size.1 p.small_height (comma ∷ space ∷ one ∷ closes ∷ closes ∷ closes ∷ space ∷ void ∷ ps)) second)) in
    (a_word attribute _ refl (lit< tt) refl (single 40 _ refl refl (single 40 _ refl refl (a_word group_size _ refl (lit< tt) refl (single 40 _ refl refl first)))), refl)

kernel_stands : (name : Piece) (k : Kernel) (more : ℕ) → k.outputs ≡ suc more → IsName name → HasText k → Stand (spelled_with name k (suc more))
kernel_stands name k more e named h =
    let n = notes_of k in
    let p = kernel_fits k h.in_grammar in
    let fit : CountsFit n = record { inputs = h.inputs; outputs = h.outputs; sizes = h.sizes; locals = h.locals; privates = h.privates; variables = h.variables; vectors = h.vectors } in
    let code = code_stands k.code 0 0 n [] fit ((let w : 0 ≤ 0 = lit≤ tt in w), (let w : 0 ≤ 1024 = lit≤ tt in w)) p.fits (record { are_pieces = refl }) in
    let vectors = vectors_stand k.vectors 0 (spell_code 0 0 k.code []) (from_zero k.vectors h.vectors) code in
    let variables = variables_stand k.variables 0 _ (from_zero k.variables h.variables) vectors in
    let privates = privates_stand k.privates 0 _ p.privates (from_zero (length k.privates) h.privates) variables in
    let body = locals_stand k.locals 0 _ p.locals (from_zero (length k.locals) h.locals) privates in
    let braced : Stand (spell_body k) = single 10 _ refl refl (single 123 _ refl refl (single 10 _ refl refl body)) in
    let sizes = sizes_stand k.sizes 0 (spell_body k) (from_zero k.sizes h.sizes) braced in
    let outputs = outputs_stand more 1 _ (let v = h.outputs in let w : 1 + more < 2 ^ 32 = omega (arith, e, v) in w) sizes.1 sizes.0 in
    let first = output_stands 0 _ (lit< tt) outputs.1 outputs.0 in
    let inputs = inputs_stand k.inputs 0 _ (from_zero k.inputs h.inputs) refl first in
    let letters = all_letters name named.letters in
    let title = a_word name _ letters named.some refl (single 40 _ refl refl inputs.0) in
    let launching = launching_stands k.local _ p.group refl (a_space _ (word_apart name letters named.some (opens ∷ spell_inputs 0 k.inputs (first_output 0 (spell_outputs 1 more (spell_sizes 0 k.sizes (spell_body k)))))) title) in
    a_word (codes "__kernel") _ refl (lit< tt) refl (a_space _ launching.1 launching.0)

pub spelled_stands : (name : Piece) (k : Kernel) → IsName name → HasText k → ArePieces (joined (spelled name k)) (spelled name k)
spelled_stands name k named h = at_outputs k.outputs refl where
  at_outputs : (o : ℕ) → k.outputs ≡ o → ArePieces (joined (spelled name k)) (spelled name k)
  at_outputs zero e = absurd (let w : nat_lt 0 0 ≡ true = subst (λ z. nat_lt 0 z ≡ true) e (kernel_fits k h.in_grammar).some_output in cc (w))
  at_outputs (suc more) e =
      let stood = kernel_stands name k more e named h in
      subst (λ z. ArePieces (joined z) z) (ap (spelled_with name k) (sym e)) stood.are_pieces
