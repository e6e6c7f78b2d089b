-- A text has one list of tokens.
use Rattle.std.proofs.Common.{◌≡◌, ℕ, ◌+◌, List, [], ◌∷◌, refl, ap, sym, ◌∙◌, subst, drop, arith}
use Rattle.std.proofs.lemmas.List.{length-drop}
use Rattle.lift_reader.specs.Tokens.{gap_len, run_len, AreTokens, Lexeme}

pub one_list : (at : ℕ) (bytes : List ℕ) (rs ss : List (ℕ × Lexeme)) → AreTokens at bytes rs → AreTokens at bytes ss → rs ≡ ss
one_list at bytes [] [] h k = refl
one_list at bytes [] (s ∷ ss) h k = absurd (omega (arith, length-drop (gap_len bytes) bytes, h, k.0))
one_list at bytes (r ∷ rs) [] h k = absurd (omega (arith, length-drop (gap_len bytes) bytes, h.0, k))
one_list at bytes (r ∷ rs) (s ∷ ss) h k =
    let rest = drop (gap_len bytes) bytes in
    let place : r.0 ≡ s.0 = h.1 ∙ sym k.1 in
    let run : r.1 ≡ s.1 = h.2 ∙ sym k.2 in
    let head : r ≡ s = ap (λ a. (a, r.1)) place ∙ ap (λ b. (s.0, b)) run in
    let tail = one_list (r.0 + run_len rest) (drop (run_len rest) rest) rs ss h.3 (subst (λ a. AreTokens (a + run_len rest) (drop (run_len rest) rest) ss) (sym place) k.3) in
    ap (λ x. x ∷ rs) head ∙ ap (λ xs. s ∷ xs) tail
