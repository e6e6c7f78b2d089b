-- The worked text is its kernel's.
use Rattle.std.proofs.Common.{◌≡◌, ℕ, zero, suc, ◌≤◌, List, [], ◌∷◌, ◌++◌, length, take, drop, refl, sym, ap, ◌∙◌, subst, arith, length-drop}
use Rattle.std.specs.Prelude.{codes, decimal}
use Rattle.std.proofs.lemmas.Fmt.{decimal_digit}
use Rattle.readings.specs.Readings.{Reads, stands, takes, gives, notes}
use Rattle.kernel_tree.specs.declared.tree.Dimension.TheVariants.{Y}
use Rattle.kernel_tree.specs.Formula.{GlobalId, GlobalSize, LocalId}
use Rattle.kernel_tree.specs.Code.{Input, Output}
use Rattle.kernel_tree.specs.Pieces.{piece_len, ArePieces}
use Rattle.kernel_tree.specs.KernelText.{Piece, line, kernels, lift, start, nothing, all_of, IsKernelText, a_loop_variable, a_vector, adds, an_id, an_input, another, assign_four, both_lanes, by_along, by_count, by_this_count, end, end_of_block, fixed_group, from_along, from_id, from_this_id, group_height, group_width, guard, indented, lanes_sign, last_output, load_four, loaded_four, loop, named_value, new_input, new_output, new_vector, no_declaration, no_local, number, id_along, open_lanes, open_value, pointer, pointer_to_const, spread_out, statements, store_four, stored_four, this_id, turn, vector_value}
use Rattle.worked_kernels.specs.DeviceText.{worked_text, worked_kernel}

-- at most n pieces from the front of a text
abbrev cut : ℕ → List ℕ → List Piece
cut zero bytes = []
cut (suc n) [] = []
cut (suc n) (b ∷ bs) = take (piece_len (b ∷ bs)) (b ∷ bs) ∷ cut n (drop (piece_len (b ∷ bs)) (b ∷ bs))

are_cut : (n : ℕ) (bytes : List ℕ) → length bytes ≤ n → ArePieces bytes (cut n bytes)
are_cut zero [] h = refl
are_cut zero (b ∷ bs) h = absurd (omega arith)
are_cut (suc n) [] h = refl
are_cut (suc n) (b ∷ bs) h =
    (omega arith, refl, are_cut n (drop (piece_len (b ∷ bs)) (b ∷ bs)) (let e = length-drop (piece_len (b ∷ bs)) (b ∷ bs) in omega arith))

-- the pieces, where these are the digits
abbrev pieces_with : (d0 d1 d2 d4 : List ℕ) → List Piece
pieces_with d0 d1 d2 d4 =
    codes "__kernel" ∷ codes " " ∷ codes "__attribute__" ∷ codes "(" ∷ codes "(" ∷ codes "reqd_work_group_size" ∷ codes "(" ∷ d4 ∷ codes "," ∷
    codes " " ∷ d2 ∷ codes "," ∷ codes " " ∷ codes "1" ∷ codes ")" ∷ codes ")" ∷ codes ")" ∷ codes " " ∷ codes "void" ∷ codes " " ∷ codes "lift" ∷
    codes "(" ∷ codes "__global" ∷ codes " " ∷ codes "const" ∷ codes " " ∷ codes "uint" ∷ codes " " ∷ codes "*" ∷ (97 ∷ d0) ∷ codes "," ∷ codes " " ∷
    codes "__global" ∷ codes " " ∷ codes "uint" ∷ codes " " ∷ codes "*" ∷ (111 ∷ d0) ∷ codes ")" ∷ line ∷ codes "{" ∷ line ∷ codes "  " ∷
    codes "uint4" ∷ codes " " ∷ (119 ∷ d0) ∷ codes ";" ∷ line ∷ codes "  " ∷ codes "if" ∷ codes " " ∷ codes "(" ∷ codes "(" ∷ codes "uint" ∷
    codes ")" ∷ codes "get_local_id" ∷ codes "(" ∷ codes "1" ∷ codes ")" ∷ codes " " ∷ codes "<" ∷ codes " " ∷ (d2 ++ codes "u") ∷ codes ")" ∷
    codes " " ∷ codes "{" ∷ line ∷ codes "    " ∷ codes "for" ∷ codes " " ∷ codes "(" ∷ codes "uint" ∷ codes " " ∷ (105 ∷ d0) ∷ codes " " ∷
    codes "=" ∷ codes " " ∷ codes "(" ∷ codes "uint" ∷ codes ")" ∷ codes "get_global_id" ∷ codes "(" ∷ codes "1" ∷ codes ")" ∷ codes ";" ∷
    codes " " ∷ (105 ∷ d0) ∷ codes " " ∷ codes "<" ∷ codes " " ∷ (d2 ++ codes "u") ∷ codes ";" ∷ codes " " ∷ (105 ∷ d0) ∷ codes " " ∷ codes "+" ∷
    codes "=" ∷ codes " " ∷ codes "(" ∷ codes "uint" ∷ codes ")" ∷ codes "get_global_size" ∷ codes "(" ∷ codes "1" ∷ codes ")" ∷ codes ")" ∷
    codes " " ∷ codes "{" ∷ line ∷ codes "      " ∷ (119 ∷ d0) ∷ codes " " ∷ codes "=" ∷ codes " " ∷ codes "vload4" ∷ codes "(" ∷ (105 ∷ d0) ∷
    codes "," ∷ codes " " ∷ (97 ∷ d0) ∷ codes ")" ∷ codes ";" ∷ line ∷ codes "      " ∷ codes "vstore4" ∷ codes "(" ∷ codes "(" ∷ (119 ∷ d0) ∷
    codes " " ∷ codes "+" ∷ codes " " ∷ codes "(" ∷ codes "uint4" ∷ codes ")" ∷ codes "(" ∷ (d1 ++ codes "u") ∷ codes ")" ∷ codes ")" ∷ codes "," ∷
    codes " " ∷ codes "(" ∷ codes "uint" ∷ codes ")" ∷ codes "get_local_id" ∷ codes "(" ∷ codes "1" ∷ codes ")" ∷ codes "," ∷ codes " " ∷
    (111 ∷ d0) ∷ codes ")" ∷ codes ";" ∷ line ∷ codes "    " ∷ codes "}" ∷ line ∷ codes "  " ∷ codes "}" ∷ line ∷ codes "}" ∷ line ∷ []

abbrev pieces : List Piece
pieces = pieces_with (decimal 0) (decimal 1) (decimal 2) (decimal 4)

are_these : cut 347 worked_text ≡ pieces
are_these =
    ap (λ d. pieces_with d (codes "1") (codes "2") (codes "4")) (sym (decimal_digit 0 (omega arith)))
    ∙ ap (λ d. pieces_with (decimal 0) d (codes "2") (codes "4")) (sym (decimal_digit 1 (omega arith)))
    ∙ ap (λ d. pieces_with (decimal 0) (decimal 1) d (codes "4")) (sym (decimal_digit 2 (omega arith)))
    ∙ ap (λ d. pieces_with (decimal 0) (decimal 1) (decimal 2) d) (sym (decimal_digit 4 (omega arith)))

read : Reads kernels (start lift) nothing pieces [] (all_of worked_kernel)
read =
    takes (takes (gives (fixed_group) (takes (takes (takes (takes (gives (group_width {v = 4} (omega arith) (omega arith)) (takes (takes (
    gives (group_height {v = 4} {w = 2} (omega arith) (omega arith) (omega arith)) (notes refl (takes (takes (takes (takes (takes (takes (takes (takes (takes (takes (
    takes (gives (an_input) (takes (gives (pointer_to_const) (takes (takes (takes (takes (gives (new_input (omega arith)) (notes refl (takes (takes (
    gives (an_input) (takes (gives (pointer) (takes (takes (gives (new_output (omega arith)) (notes refl (gives (last_output) (takes (takes (takes (
    gives (indented) (gives (no_local (no_declaration (a_vector))) (takes (gives (new_vector (omega arith)) (notes refl (takes (takes (gives (indented) (
    gives (statements (guard (omega arith))) (takes (takes (gives (from_id) (takes (takes (gives (from_this_id {form = LocalId} refl) (takes (
    gives (from_along {form = LocalId} Y refl) (takes (takes (takes (takes (gives (number {v = 2} (omega arith) (omega arith)) (notes refl (takes (takes (
    takes (takes (gives (indented) (gives (loop (omega arith)) (takes (takes (takes (takes (gives (turn (omega arith)) (takes (takes (takes (
    gives (from_id) (takes (takes (gives (from_this_id {form = GlobalId} refl) (takes (gives (from_along {form = GlobalId} Y refl) (takes (takes (takes (
    gives (turn (omega arith)) (takes (takes (takes (gives (number {v = 2} (omega arith) (omega arith)) (notes refl (takes (takes (
    gives (turn (omega arith)) (takes (takes (takes (takes (gives (by_count) (takes (takes (gives (by_this_count {form = GlobalSize} refl) (takes (
    gives (by_along {form = GlobalSize} Y refl) (takes (takes (takes (takes (takes (gives (indented) (
    gives (assign_four {k = 0} (omega arith) (omega arith)) (takes (takes (takes (gives (load_four) (takes (
    gives (named_value (omega arith) (a_loop_variable {k = 0} (omega arith) (omega arith))) (notes refl (takes (takes (
    gives (loaded_four {array = Input 0} (omega arith) refl refl) (takes (takes (takes (gives (another) (gives (store_four) (takes (
    gives (open_lanes (omega arith)) (gives (both_lanes (vector_value {k = 0} (omega arith) (omega arith) (omega arith))) (notes refl (takes (
    gives (lanes_sign adds) (takes (gives (open_lanes (omega arith)) (gives (spread_out) (takes (takes (
    gives (number {v = 1} (omega arith) (omega arith)) (notes refl (takes (notes refl (takes (notes refl (takes (takes (gives (open_value (omega arith)) (
    gives (an_id) (takes (gives (this_id {form = LocalId}) (takes (gives (id_along {d = Y}) (takes (notes refl (takes (takes (
    gives (stored_four {array = Output 0} (omega arith) refl refl) (takes (takes (takes (gives (end_of_block) (takes (takes (notes refl (notes refl (
    notes refl (gives (end_of_block) (takes (takes (notes refl (notes refl (gives (end) (takes (notes refl (notes refl (
    stands))))))))))))))))))))))))))))))))))))))))))))))))))))))))))))))))))))))))))))))))))))))))))))))))))))))))))))))))))))))))))))))))))))))))))))))))))))))))))))))))))))))))))))))))))))

pub worked : IsKernelText lift worked_text worked_kernel
worked = (pieces, subst (ArePieces worked_text) are_these (are_cut 347 worked_text (omega arith)), read)
