-- The first line of a text.
use Rattle.std.proofs.Common.{◌≡◌, ◌∙◌, ◌+◌, ◌<◌, ◌≤◌, ◌==◌, ℕ, List, [], ◌∷◌, Bool, true, false, not, cond, ap, ap₂, ◌≢◌, ◌-◌, length, take, drop, refl, arith, sym}
use Rattle.std.specs.List.{slice_split, onto_first, position_or_len, before_first, after_first}
use Rattle.std.specs.Str.Lines.{lines, lines_of_parts, strip_carriage_return}
use Rattle.strategy_script.specs.Lines.{is_line_end}
use Rattle.std.proofs.lemmas.List.Splits.{slice_split_first, length-slice_split}
use Rattle.std.proofs.Math.Dec.{eqb-suc-zero}
use Rattle.std.proofs.Math.Seq.{take-length, drop-length}
use Rattle.std.proofs.lemmas.List.{take_rest}

-- a text without an end of line is the one part
pub one_part : (text : List ℕ) → position_or_len is_line_end text ≡ length text → slice_split is_line_end text ≡ text ∷ []
one_part [] e = refl
one_part (b ∷ bs) e =
    elim (b == 10) as (λ v. cond (not v) (1 + position_or_len is_line_end bs) 0 ≡ length (b ∷ bs) → cond v ([] ∷ slice_split is_line_end bs) (onto_first b (slice_split is_line_end bs)) ≡ (b ∷ bs) ∷ []) [
      | true ↦ λ h. absurd (omega (arith, h))
      | false ↦ λ h. ap (onto_first b) (one_part bs (omega (arith, h)))
    ] e

lines_of_more : (part : List ℕ) (parts : List (List ℕ)) → 0 < length parts → lines_of_parts (part ∷ parts) ≡ strip_carriage_return part ∷ lines_of_parts parts
lines_of_more part [] h = absurd (omega (arith, h))
lines_of_more part (next ∷ parts) h = refl

-- a line that ends is followed by the lines behind it
pub first_line : (text : List ℕ) → position_or_len is_line_end text < length text
    → lines text ≡ strip_carriage_return (before_first is_line_end text) ∷ lines (after_first is_line_end text)
first_line text h =
    ap lines_of_parts (slice_split_first is_line_end text 0 h)
    ∙ lines_of_more (before_first is_line_end text) (slice_split is_line_end (after_first is_line_end text))
    (omega (arith, length-slice_split is_line_end (after_first is_line_end text)))

-- a text without an end of line is one line
pub last_line : (text : List ℕ) → position_or_len is_line_end text ≡ length text → 0 < length text → lines text ≡ text ∷ []
last_line [] e h = absurd (omega (arith, h))
last_line (b ∷ bs) e h = ap lines_of_parts (one_part (b ∷ bs) e) ∙ ap (λ (v : Bool). cond v [] ((b ∷ bs) ∷ [])) (eqb-suc-zero (length bs))

-- a text is cut behind its last line
pub cut_last : (text line behind : List ℕ) (n : ℕ) → n ≡ position_or_len is_line_end text → n ≡ length text → 0 < length text
    → line ≡ take n text → behind ≡ drop n text → lines text ≡ line ∷ lines behind
cut_last text line behind n is whole some front back =
    let all : line ≡ text = front ∙ ap (λ (k : ℕ). take k text) whole ∙ take-length text in
    let none : behind ≡ [] = back ∙ ap (λ (k : ℕ). drop k text) whole ∙ drop-length text in
    last_line text (sym is ∙ whole) some ∙ ap (λ (w : List ℕ). w ∷ []) (sym all) ∙ ap (λ (w : List ℕ). line ∷ lines w) (sym none)

-- a text is cut behind a line that ends
pub cut_first : (text line : List ℕ) (n : ℕ) → n ≡ position_or_len is_line_end text → n ≢ length text → n ≤ length text
    → line ≡ strip_carriage_return (take n text) → lines text ≡ line ∷ lines (take (length text - (n + 1)) (drop (n + 1) text))
cut_first text line n is more within front =
    let before : strip_carriage_return (before_first is_line_end text) ≡ line = ap (λ (k : ℕ). strip_carriage_return (take k text)) (sym is) ∙ sym front in
    let after : after_first is_line_end text ≡ take (length text - (n + 1)) (drop (n + 1) text) = ap (λ (k : ℕ). drop (k + 1) text) (sym is) ∙ sym (take_rest text (n + 1)) in
    first_line text (omega (arith, is, more, within)) ∙ ap₂ (λ (v : List ℕ) (w : List ℕ). v ∷ lines w) before after
