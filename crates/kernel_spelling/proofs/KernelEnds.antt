-- A kernel's pieces end with a line's end.
use Rattle.std.proofs.Common.{◌≡◌, ℕ, zero, suc, List, [], ◌∷◌, Option, Some, None, refl, sym, subst, inl, inr}
use Rattle.std.specs.Prelude.{◌⊎◌}
use Rattle.kernel_tree.specs.Code.{Start, FromZero, FromGlobalId, FromGroupId, FromLocalId, Stride, ByOne, ByGlobalSize, ByGroupCount, ByLocalSize, Code, End, Performs, Loops, Guards, Kernel}
use Rattle.kernel_tree.specs.KernelText.{Piece, line}
use Rattle.kernel_spelling.specs.Spelling.{spell_start, spell_stride, spell_code, spell_locals, spell_privates, spell_variables, spell_vectors, spell_sizes, spell_outputs, spell_inputs, spell_launching, spell_body, spell_kernel}
use Rattle.kernel_spelling.proofs.Ended.{Ends, last, more, on2, on3, on4, on5, on6, on7, ends_spell}
use Rattle.kernel_spelling.proofs.Statements.{ends_statement}

-- ---- statements

ends_start : (s : Start) (back : List Piece) → Ends back → Ends (spell_start s back)
ends_start FromZero back h = more h
ends_start (FromGlobalId d) back h = on7 h
ends_start (FromGroupId d) back h = on7 h
ends_start (FromLocalId d) back h = on7 h

ends_stride : (s : Stride) (back : List Piece) → Ends back → Ends (spell_stride s back)
ends_stride ByOne back h = more h
ends_stride (ByGlobalSize d) back h = on7 h
ends_stride (ByGroupCount d) back h = on7 h
ends_stride (ByLocalSize d) back h = on7 h

-- nothing is behind, or what ends so
abbrev After : List Piece → Type 0
After back = (back ≡ []) ⊎ Ends back

at_line : (back : List Piece) → After back → Ends (line ∷ back)
at_line back (inl e) = subst (λ z. Ends (line ∷ z)) (sym e) last
at_line back (inr h) = more h

pub ends_code : (l nest : ℕ) (c : Code) (back : List Piece) → After back → Ends (spell_code l nest c back)
ends_code l zero End back a = more (at_line back a)
ends_code l (suc nest) End back a = on2 (at_line back a)
ends_code l nest (Performs s after) back a = more (ends_statement s _ (on2 (ends_code l nest after back a)))
ends_code l nest (Loops s b c body after) back a =
    more (on4 (on5 (ends_start s _ (on6 (ends_spell b _ (on7 (ends_stride c _ (on4 (ends_code (suc l) (suc nest) body _ (inr (ends_code l nest after back a)))))))))))
ends_code l nest (Guards s b body after) back a =
    more (on3 (ends_start s _ (on3 (ends_spell b _ (on4 (ends_code l (suc nest) body _ (inr (ends_code l nest after back a))))))))

-- ---- declarations and parameters

ends_locals : (i : ℕ) (ns : List ℕ) (back : List Piece) → Ends back → Ends (spell_locals i ns back)
ends_locals i [] back h = h
ends_locals i (n ∷ ns) back h = on4 (on7 (ends_locals (suc i) ns back h))

ends_privates : (i : ℕ) (ns : List ℕ) (back : List Piece) → Ends back → Ends (spell_privates i ns back)
ends_privates i [] back h = h
ends_privates i (n ∷ ns) back h = on2 (on7 (ends_privates (suc i) ns back h))

ends_variables : (i many : ℕ) (back : List Piece) → Ends back → Ends (spell_variables i many back)
ends_variables i zero back h = h
ends_variables i (suc many) back h = on6 (ends_variables (suc i) many back h)

ends_vectors : (i many : ℕ) (back : List Piece) → Ends back → Ends (spell_vectors i many back)
ends_vectors i zero back h = h
ends_vectors i (suc many) back h = on6 (ends_vectors (suc i) many back h)

ends_sizes : (i many : ℕ) (back : List Piece) → Ends back → Ends (spell_sizes i many back)
ends_sizes i zero back h = more h
ends_sizes i (suc many) back h = on7 (ends_sizes (suc i) many back h)

ends_outputs : (i many : ℕ) (back : List Piece) → Ends back → Ends (spell_outputs i many back)
ends_outputs i zero back h = h
ends_outputs i (suc many) back h = more (on7 (ends_outputs (suc i) many back h))

ends_inputs : (i many : ℕ) (back : List Piece) → Ends back → Ends (spell_inputs i many back)
ends_inputs i zero back h = h
ends_inputs i (suc many) back h = on3 (on7 (ends_inputs (suc i) many back h))

ends_launching : (local : Option (ℕ × ℕ)) (back : List Piece) → Ends back → Ends (spell_launching local back)
ends_launching None back h = more h
ends_launching (Some size) back h = on3 (on7 (on7 h))

ends_body : (k : Kernel) → Ends (spell_body k)
ends_body k =
    on3 (ends_locals 0 k.locals _ (ends_privates 0 k.privates _ (ends_variables 0 k.variables _ (ends_vectors 0 k.vectors _ (ends_code 0 0 k.code [] (inl refl))))))

pub kernel_ends : (name : Piece) (k : Kernel) (many : ℕ) → Ends (spell_kernel name k many)
kernel_ends name k many =
    on2 (ends_launching k.local _ (on3 (ends_inputs 0 k.inputs _ (on6 (ends_outputs 1 many _ (ends_sizes 0 k.sizes _ (ends_body k)))))))
