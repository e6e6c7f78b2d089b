-- One token more.
use Rattle.std.specs.Prelude.{◌==◌}
use Rattle.std.proofs.Common.{◌≡◌, ℕ, zero, suc, false, arith, ◌+◌, ◌<◌, List, ◌∷◌, [], ◌++◌, ap, sym, ◌∙◌, subst, length, take, drop, map, append_assoc, add_assoc}
use Rattle.std.proofs.lemmas.List.{map-append}
use Rattle.lift_reader.specs.Tokens.{gap_len, run_len, lexeme_of, AreTokens, Lexeme}
use Rattle.lift_reader.specs.Shown.{placed}
use Rattle.lift_reader.specs.declared.token.Token.{Token}

pub one_more : (at gap n : ℕ) (text rest run back : List ℕ) (x : Lexeme) (more : List (ℕ × Lexeme)) → gap ≡ gap_len text → rest ≡ drop gap text → 0 < length rest → n ≡ run_len rest → run ≡ take n rest → back ≡ drop n rest → x ≡ lexeme_of run → AreTokens (at + (gap + n)) back more → AreTokens at text ((at + gap, x) ∷ more)
one_more at gap n text rest run back x more g r some k e b l h =
    let whole : rest ≡ drop (gap_len text) text = r ∙ ap (λ z. drop z text) g in
    subst (λ z. (0 < length z) × (at + gap ≡ at + gap_len text) × (x ≡ lexeme_of (take (run_len z) z)) × AreTokens (at + gap + run_len z) (drop (run_len z) z) more) whole (
      some,
      ap (λ z. at + z) g,
      l ∙ ap lexeme_of (e ∙ ap (λ z. take z rest) k),
      subst (λ z. AreTokens (at + gap + z) (drop z rest) more) k (subst (λ z. AreTokens z (drop n rest) more) (sym (add_assoc at gap n)) (subst (λ z. AreTokens (at + (gap + n)) z more) b h)),
    )

pub pushed : (tokens : List Token) (t : Token) (all : List Token) (more : List (ℕ × Lexeme)) → all ≡ tokens ++ t ∷ [] → map placed tokens ++ placed t ∷ more ≡ map placed all ++ more
pushed tokens t all more e =
    sym (append_assoc (map placed tokens) (placed t ∷ []) more) ∙ ap (λ z. z ++ more) (sym (map-append placed tokens (t ∷ []))) ∙ ap (λ z. map placed z ++ more) (sym e)

pub some_left : (n : ℕ) → (n == 0) ≡ false → 0 < n
some_left zero e = absurd (cc)
some_left (suc n) e = omega arith
