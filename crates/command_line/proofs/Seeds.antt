-- Seeds and their decimals.
use Rattle.std.proofs.Common.{◌≡◌, ◌∙◌, ◌<◌, ◌^◌, ◌==◌, refl, sym, ap, subst, [], ◌∷◌, ℕ, Bool, true, false, cond, Some, None, Option, Result, Ok, Err, arith}
use Rattle.std.specs.Prelude.{decimal, nat_le, not, ◌&&◌}
use Rattle.std.specs.List.{list_all}
use Rattle.std.specs.Str.{bytes_eq}
use Rattle.std.specs.Str.Parse.{AllDigits, ParsesUnsigned, digits_value}
use Rattle.std.proofs.lemmas.Bool.{and_from, and_parts, eqb-true, le-leb, leb-true}
use Rattle.std.proofs.lemmas.Fmt.{decimal_is_IsNumeral, parse-decimal}
use Rattle.std.proofs.lemmas.Option.{cond_some}
use Rattle.std.proofs.lemmas.Slice.Eq.{bytes_eq-Decides}
use Rattle.std.proofs.lemmas.Str.Parse.{digit_from_value}
use Rattle.clap.specs.Words.{Text}
use Rattle.command_line.specs.Requests.{is_plain_word, seed_limit, seed_of}

small : (x : ℕ) → nat_le x seed_limit ≡ true → x < 2 ^ 64
small x e = let l = leb-true x seed_limit e in omega (arith, l)

same : (word : Text) → bytes_eq word word ≡ true
same word = (bytes_eq-Decides word word).1 refl

chosen : {A : Type 0} (b : Bool) (x y : A) → b ≡ true → cond b x y ≡ x
chosen b x y e = ap (λ c. cond c x y) e

-- a decimal is of the number that it writes
pub seed_of-decimal : (x : ℕ) → nat_le x seed_limit ≡ true → seed_of (decimal x) ≡ Some x
unfolding seed_of
seed_of-decimal x e =
    ap (λ y. cond (nat_le y seed_limit && bytes_eq (decimal y) (decimal x)) (Some y) None) (decimal_is_IsNumeral x (small x e)).1
    ∙ chosen _ (Some x) None (and_from (nat_le x seed_limit) (bytes_eq (decimal x) (decimal x)) e (same (decimal x)))

-- a word that is a seed is its decimal
pub decimal_of : (word : Text) (x : ℕ) → seed_of word ≡ Some x → (nat_le x seed_limit ≡ true) × (decimal x ≡ word)
unfolding seed_of
decimal_of word x e =
    let y = digits_value 10 word in
    let h = cond_some (nat_le y seed_limit && bytes_eq (decimal y) word) y x e in
    let k = and_parts (nat_le y seed_limit) (bytes_eq (decimal y) word) h.0 in
    (subst (λ z. nat_le z seed_limit ≡ true) h.1 k.0, subst (λ z. decimal z ≡ word) h.1 ((bytes_eq-Decides (decimal y) word).0 k.1))

-- a word that is a seed is read as it
pub seed_parses : {E : Type 0} (word : Text) (x : ℕ) (r : Result ℕ E) → ParsesUnsigned 32 10 word r → seed_of word ≡ Some x → r ≡ Ok x
seed_parses word x r h e =
    let k = decimal_of word x e in
    let l = leb-true x seed_limit k.0 in
    parse-decimal 32 x word r (omega (arith, l)) (omega (arith, l)) (sym k.1) h

pub no_seed : (word : Text) → ((x : ℕ) → seed_of word ≡ Some x → ⊥) → seed_of word ≡ None
no_seed word h = none (seed_of word) h
  where
    none : (o : Option ℕ) → ((x : ℕ) → o ≡ Some x → ⊥) → o ≡ None
    none None h = refl
    none (Some x) h = absurd (h x refl)

-- ---- a decimal begins with a digit

digits_are_plain : (word : Text) → AllDigits 10 word → list_all is_plain_word (word ∷ []) ≡ true
digits_are_plain [] d = refl
digits_are_plain (b ∷ bs) d = and_from (not (b == 45)) true (no_hyphen (b == 45) refl) refl
  where
    no_hyphen : (c : Bool) → (b == 45) ≡ c → not c ≡ true
    no_hyphen false e = refl
    no_hyphen true e = absurd (let is = eqb-true b 45 e in let k = digit_from_value b d.0 in omega (arith, is, k))

pub decimals_are_plain : (x : ℕ) → nat_le x seed_limit ≡ true → list_all is_plain_word (decimal x ∷ []) ≡ true
decimals_are_plain x e = digits_are_plain (decimal x) (decimal_is_IsNumeral x (small x e)).0.1

-- ---- what is read of a word

none_at : {E : Type 0} (word : Text) (r : Result ℕ E) → ParsesUnsigned 32 10 word r → ((x : ℕ) → r ≡ Ok x → seed_of word ≡ Some x → ⊥) → None ≡ seed_of word
none_at word r h never = sym (no_seed word (λ x e. never x (seed_parses word x r h e) e))

-- a word that isn't read is no seed
pub unread_is_none : {E : Type 0} (word : Text) (r : Result ℕ E) (e : E) → ParsesUnsigned 32 10 word r → r ≡ Err e → None ≡ seed_of word
unread_is_none word r e h is = none_at word r h (λ x k _. let bad : Err e ≡ Ok x = sym is ∙ k in cc (bad))

-- nor is one that isn't the decimal of what it is read as
pub another_is_none : {E : Type 0} (word text : Text) (r : Result ℕ E) (x : ℕ) → ParsesUnsigned 32 10 word r → r ≡ Ok x → text ≡ decimal x → bytes_eq text word ≡ false → None ≡ seed_of word
another_is_none word text r x h is shown e = none_at word r h (λ y k s.
    let one : Ok x ≡ Ok y = sym is ∙ k in
    let same_number : x ≡ y = cc (one) in
    let both : text ≡ word = shown ∙ ap decimal same_number ∙ (decimal_of word y s).1 in
    let yes : bytes_eq text word ≡ true = (bytes_eq-Decides text word).1 both in
    cc (yes, e))

-- and one that is that decimal is the seed
pub decimal_is_seed : (word text : Text) (x : ℕ) → x < 2 ^ 32 → text ≡ decimal x → bytes_eq text word ≡ true → Some x ≡ seed_of word
decimal_is_seed word text x fits shown e =
    sym (seed_of-decimal x (le-leb x seed_limit (omega (arith, fits)))) ∙ ap seed_of (sym shown ∙ (bytes_eq-Decides text word).0 e)
