-- The cut of a text into pieces, and the text of pieces.
use Rattle.std.proofs.Common.{◌≡◌, ℕ, zero, suc, ◌+◌, ◌*◌, ◌^◌, ◌<◌, ◌≤◌, List, [], ◌∷◌, ◌++◌, Bool, true, false, cond, refl, ap, sym, ◌∙◌, subst, arith, length, take, drop, replicate, lit<}
use Rattle.std.specs.Prelude.{◌&&◌, ◌||◌, ◌==◌, decimal, codes, nat_le}
use Rattle.std.specs.List.{prefix_len}
use Rattle.std.specs.Char.{is_ascii_digit, is_ascii_alphabetic}
use Rattle.std.proofs.Math.Seq.{take-append_seam, drop-append_seam}
use Rattle.std.proofs.lemmas.Bool.{and_parts, and_from, le-leb, eqb-true, or_right, or_left}
use Rattle.std.proofs.lemmas.Fmt.{decimal_is_IsNumeral}
use Rattle.std.specs.Str.Parse.{AllDigits}
use Rattle.std.proofs.lemmas.Str.Parse.{IsDigitsTest, tells_digits}
use Rattle.std.proofs.lemmas.List.{take-append-drop, length-append}
use Rattle.kernel_tree.specs.Pieces.{piece_len, ArePieces, joined, is_word, is_blank}
use Rattle.kernel_tree.specs.KernelText.{Piece, indent, named, literal}

-- a text is its pieces
pub joined_pieces : (bytes : List ℕ) (ps : List (List ℕ)) → ArePieces bytes ps → bytes ≡ joined ps
joined_pieces bytes [] h = h
joined_pieces bytes (p ∷ ps) h =
    let n = piece_len bytes in
    sym (take-append-drop n bytes) ∙ ap (λ z. z ++ drop n bytes) (sym h.1) ∙ ap (λ z. p ++ z) (joined_pieces (drop n bytes) ps h.2)

-- a text is cut in one way
pub one_cut : (bytes : List ℕ) (ps qs : List (List ℕ)) → ArePieces bytes ps → ArePieces bytes qs → ps ≡ qs
one_cut bytes [] [] h g = refl
one_cut bytes [] (q ∷ qs) h g = absurd (let e : length bytes ≡ 0 = ap length h in let l = g.0 in omega (arith, e, l))
one_cut bytes (p ∷ ps) [] h g = absurd (let e : length bytes ≡ 0 = ap length g in let l = h.0 in omega (arith, e, l))
one_cut bytes (p ∷ ps) (q ∷ qs) h g = ap (λ z. z ∷ ps) (h.1 ∙ sym g.1) ∙ ap (λ z. q ∷ z) (one_cut (drop (piece_len bytes) bytes) ps qs h.2 g.2)

-- ---- pieces that stand apart are the pieces of their text

pub record Stand (ps : List Piece) : Type 0 where
  pub are_pieces : ArePieces (joined ps) ps

abbrev pub NoWord : List Piece → Type 0
NoWord ps = prefix_len is_word (joined ps) ≡ 0

abbrev pub NoBlank : List Piece → Type 0
NoBlank ps = prefix_len is_blank (joined ps) ≡ 0

abbrev pub all_of : (ℕ → Bool) → List ℕ → Bool
all_of p [] = true
all_of p (b ∷ bs) = p b && all_of p bs

prefix_over : (p : ℕ → Bool) (bs back : List ℕ) → all_of p bs ≡ true → prefix_len p back ≡ 0 → prefix_len p (bs ++ back) ≡ length bs
prefix_over p [] back h e = e
prefix_over p (b ∷ bs) back h e =
    let q = and_parts (p b) (all_of p bs) h in
    ap (λ v. cond v (1 + prefix_len p (bs ++ back)) 0) q.0 ∙ (let w : prefix_len p (bs ++ back) ≡ length bs = prefix_over p bs back q.1 e in let v : 1 + prefix_len p (bs ++ back) ≡ suc (length bs) = omega (arith, w) in v)

-- a piece of this length at the front
pub front : (p : Piece) (ps : List Piece) → 0 < length p → piece_len (p ++ joined ps) ≡ length p → Stand ps → Stand (p ∷ ps)
front p ps some len stood = record {
  are_pieces = (
    (let e = length-append p (joined ps) in omega (arith, e, some)),
    sym (take-append_seam p (joined ps)) ∙ ap (λ n. take n (p ++ joined ps)) (sym len),
    subst (λ z. ArePieces z ps) (sym (ap (λ n. drop n (p ++ joined ps)) len ∙ drop-append_seam p (joined ps))) stood.are_pieces,
  );
}

pub word : (b : ℕ) (bs : List ℕ) (ps : List Piece) → all_of is_word (b ∷ bs) ≡ true → NoWord ps → Stand ps → Stand ((b ∷ bs) ∷ ps)
word b bs ps h apart stood =
    let q = and_parts (is_word b) (all_of is_word bs) h in
    let len : piece_len (b ∷ bs ++ joined ps) ≡ suc (length bs) = ap (λ v. suc (cond v (prefix_len is_word (bs ++ joined ps)) (cond (is_blank b) (prefix_len is_blank (bs ++ joined ps)) 0))) q.0 ∙ ap suc (prefix_over is_word bs (joined ps) q.1 apart) in
    front (b ∷ bs) ps (let w : 0 < suc (length bs) = omega arith in w) len stood

pub single : (b : ℕ) (ps : List Piece) → is_word b ≡ false → is_blank b ≡ false → Stand ps → Stand ((b ∷ []) ∷ ps)
single b ps no_word no_blank stood =
    let len : piece_len (b ∷ joined ps) ≡ 1 =
    ap (λ v. suc (cond v (prefix_len is_word (joined ps)) (cond (is_blank b) (prefix_len is_blank (joined ps)) 0))) no_word
    ∙ ap (λ v. suc (cond v (prefix_len is_blank (joined ps)) 0)) no_blank in
    front (b ∷ []) ps (lit< tt) len stood

some : (n : ℕ) → 0 < suc n
some n = omega arith

pub blanks : (n : ℕ) (ps : List Piece) → NoBlank ps → Stand ps → Stand (replicate (suc n) 32 ∷ ps)
blanks n ps apart stood =
    let len : prefix_len is_blank (replicate n 32 ++ joined ps) ≡ length (replicate n 32) = prefix_over is_blank (replicate n 32) (joined ps) (all_blank n) apart in
    front (32 ∷ replicate n 32) ps (some (length (replicate n 32))) (ap suc len) stood where
      all_blank : (n : ℕ) → all_of is_blank (replicate n 32) ≡ true
      all_blank zero = refl
      all_blank (suc n) = all_blank n

pub indented : (l : ℕ) (ps : List Piece) → NoBlank ps → Stand ps → Stand (indent (suc l) ∷ ps)
indented l ps apart stood = subst (λ n. Stand (replicate n 32 ∷ ps)) (let w : suc (suc (2 * l)) ≡ 2 * suc l = omega arith in w) (blanks (suc (2 * l)) ps apart stood)

-- ---- names and literals

digit_word : (b : ℕ) → 48 ≤ b → b ≤ 57 → is_word b ≡ true
digit_word b low high = or_left (is_ascii_alphabetic b || is_ascii_digit b) (b == 95) (or_right (is_ascii_alphabetic b) (is_ascii_digit b) (and_from (nat_le 48 b) (nat_le b 57) (le-leb 48 b low) (le-leb b 57 high)))

pub digit_no_blank : (b : ℕ) → 48 ≤ b → is_blank b ≡ false
digit_no_blank b low = at_test (b == 32) refl where
  at_test : (v : Bool) → (b == 32) ≡ v → is_blank b ≡ false
  at_test true e = absurd (let w = eqb-true b 32 e in omega (arith, w, low))
  at_test false e = e

pub digits_word : (ds : List ℕ) → AllDigits 10 ds → all_of is_word ds ≡ true
digits_word [] h = refl
digits_word (d ∷ ds) h =
    let q = IsDigitsTest.parts tells_digits d ds h in
    and_from (is_word d) (all_of is_word ds) (digit_word d q.0.0 q.0.1) (digits_word ds q.1)

all_of_append : (p : ℕ → Bool) (xs ys : List ℕ) → all_of p xs ≡ true → all_of p ys ≡ true → all_of p (xs ++ ys) ≡ true
all_of_append p [] ys h g = g
all_of_append p (x ∷ xs) ys h g =
    let q = and_parts (p x) (all_of p xs) h in
    and_from (p x) (all_of p (xs ++ ys)) q.0 (all_of_append p xs ys q.1 g)

pub small_number : (n : ℕ) → n < 2 ^ 32 → n < 2 ^ 64
small_number n h = let w : 2 ^ 32 < 2 ^ 64 = lit< tt in omega (arith, h, w)

pub decimal_word : (n : ℕ) → n < 2 ^ 32 → all_of is_word (decimal n) ≡ true
decimal_word n small = digits_word (decimal n) (decimal_is_IsNumeral n (small_number n small)).0.1

-- a name, whose letter is one
pub a_name : (letter k : ℕ) (ps : List Piece) → k < 2 ^ 32 → is_word letter ≡ true → NoWord ps → Stand ps → Stand (named letter k ∷ ps)
a_name letter k ps small h apart stood = word letter (decimal k) ps (and_from (is_word letter) (all_of is_word (decimal k)) h (decimal_word k small)) apart stood

numeral : (w : List ℕ) (ps : List Piece) → 0 < length w → AllDigits 10 w → NoWord ps → Stand ps → Stand ((w ++ codes "u") ∷ ps) × NoBlank ((w ++ codes "u") ∷ ps)
numeral [] ps some digits apart stood = absurd (omega (arith, some))
numeral (d ∷ ds) ps some digits apart stood =
    let q = IsDigitsTest.parts tells_digits d ds digits in (
      word d (ds ++ codes "u") ps (all_of_append is_word (d ∷ ds) (codes "u") (digits_word (d ∷ ds) digits) refl) apart stood,
      ap (λ v. cond v (1 + prefix_len is_blank ((ds ++ codes "u") ++ joined ps)) 0) (digit_no_blank d q.0.0),
    )

pub a_literal : (v : ℕ) (ps : List Piece) → v < 2 ^ 32 → NoWord ps → Stand ps → Stand (literal v ∷ ps) × NoBlank (literal v ∷ ps)
a_literal v ps small apart stood =
    let h = (decimal_is_IsNumeral v (small_number v small)).0 in
    numeral (decimal v) ps h.0 h.1 apart stood
