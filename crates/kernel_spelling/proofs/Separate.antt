-- The pieces of a spelled expression are the pieces of its text.
use Rattle.std.proofs.Common.{◌≡◌, ℕ, ◌+◌, ◌^◌, ◌<◌, ◌≤◌, List, [], ◌∷◌, ◌++◌, Bool, true, false, refl, ap, subst, arith, length, lit<}
use Rattle.std.specs.Prelude.{◌&&◌, ◌==◌, cond, decimal, nat_le}
use Rattle.std.proofs.lemmas.Bool.{ltb-true, eqb-true, and_parts, and_from}
use Rattle.std.specs.List.{prefix_len}
use Rattle.std.specs.Str.Parse.{AllDigits}
use Rattle.std.proofs.lemmas.Str.Parse.{IsDigitsTest, tells_digits}
use Rattle.std.proofs.lemmas.Fmt.{decimal_is_IsNumeral}
use Rattle.scalar_ops.specs.declared.op.Op.{Op}
use Rattle.scalar_ops.specs.declared.op.Op.TheVariants.{Add, Mul, Min, Max, And, Or, Xor, Sub, Shl, Shr, Div, Rem, Lt, Eq}
use Rattle.kernel_tree.specs.declared.tree.Dimension.{Dimension}
use Rattle.kernel_tree.specs.declared.tree.Dimension.TheVariants.{X, Y}
use Rattle.kernel_tree.specs.Formula.{IdForm, GlobalId, GroupId, LocalId, GlobalSize, GroupCount, LocalSize, Comparison, Less, Equal, Formula, Number, Variable, LoopVariable, Size, Id, Binary, Choose, Lanes, Vector, Spread, Each}
use Rattle.kernel_tree.specs.Code.{Array, Input, Output, Local, Private}
use Rattle.kernel_tree.specs.Grammar.{deepest, height, lanes_height, is_operator, names_declared, is_expression, names_declared_in_lanes, are_lanes, is_readable}
use Rattle.kernel_tree.specs.Pieces.{is_word, is_blank, joined}
use Rattle.kernel_tree.specs.KernelText.{Piece, space, comma, question, colon, opens, closes, uint, uint4, least, greatest, nought, one, dimension, id_name, array_name, Notes, counted}
use Rattle.kernel_spelling.specs.Spelling.{spell_id, is_called, spell_sign, spell_comparison, spell, spell_lanes, is_letters}
use Rattle.kernel_spelling.specs.Meaning.{CountsFit}
use Rattle.kernel_spelling.proofs.Cut.{Stand, NoWord, NoBlank, all_of, word, single, blanks, digit_no_blank, small_number, decimal_word, a_name, a_literal}
use Rattle.kernel_spelling.proofs.Values.{smaller, loops_small, array_small}

pub a_word : (w : Piece) (ps : List Piece) → all_of is_word w ≡ true → 0 < length w → NoWord ps → Stand ps → Stand (w ∷ ps)
a_word [] ps h some apart stood = absurd (omega (arith, some))
a_word (b ∷ bs) ps h some apart stood = word b bs ps h apart stood

pub a_space : (ps : List Piece) → NoBlank ps → Stand ps → Stand (space ∷ ps)
a_space ps apart stood = blanks 0 ps apart stood

pub a_decimal : (v : ℕ) (ps : List Piece) → v < 2 ^ 32 → NoWord ps → Stand ps → Stand (decimal v ∷ ps)
a_decimal v ps small apart stood = a_word (decimal v) ps (decimal_word v small) (decimal_is_IsNumeral v (small_number v small)).0.0 apart stood

-- no decimal and no name begins with a blank
blank_after : (b : ℕ) (bs : List ℕ) (ps : List Piece) → is_blank b ≡ false → NoBlank ((b ∷ bs) ∷ ps)
blank_after b bs ps h = ap (λ v. cond v (1 + prefix_len is_blank (bs ++ joined ps)) 0) h

digits_apart : (w : List ℕ) (ps : List Piece) → 0 < length w → AllDigits 10 w → NoBlank (w ∷ ps)
digits_apart [] ps some digits = absurd (omega (arith, some))
digits_apart (d ∷ ds) ps some digits = blank_after d ds ps (digit_no_blank d (IsDigitsTest.parts tells_digits d ds digits).0.0)

pub decimal_apart : (v : ℕ) → v < 2 ^ 32 → (ps : List Piece) → NoBlank (decimal v ∷ ps)
decimal_apart v small ps = let h = (decimal_is_IsNumeral v (small_number v small)).0 in digits_apart (decimal v) ps h.0 h.1

word_no_blank : (b : ℕ) → is_word b ≡ true → is_blank b ≡ false
word_no_blank b h = at_test (b == 32) refl where
  at_test : (v : Bool) → (b == 32) ≡ v → is_blank b ≡ false
  at_test true e = absurd (let w : is_word 32 ≡ true = subst (λ z. is_word z ≡ true) (eqb-true b 32 e) h in cc (w))
  at_test false e = e

pub word_apart : (w : List ℕ) → all_of is_word w ≡ true → 0 < length w → (ps : List Piece) → NoBlank (w ∷ ps)
word_apart [] h some ps = absurd (omega (arith, some))
word_apart (b ∷ bs) h some ps = blank_after b bs ps (word_no_blank b (and_parts (is_word b) (all_of is_word bs) h).0)

pub all_letters : (w : List ℕ) → is_letters w ≡ true → all_of is_word w ≡ true
all_letters [] h = refl
all_letters (b ∷ bs) h =
    let q = and_parts (is_word b) (is_letters bs) h in
    and_from (is_word b) (all_of is_word bs) q.0 (all_letters bs q.1)

-- ---- expressions

id_word : (form : IdForm) → (all_of is_word (id_name form) ≡ true) × (0 < length (id_name form))
id_word GlobalId = (refl, lit< tt)
id_word GroupId = (refl, lit< tt)
id_word LocalId = (refl, lit< tt)
id_word GlobalSize = (refl, lit< tt)
id_word GroupCount = (refl, lit< tt)
id_word LocalSize = (refl, lit< tt)

dimension_stands : (d : Dimension) (ps : List Piece) → NoWord ps → Stand ps → Stand (dimension d ∷ ps)
dimension_stands X ps apart stood = a_word nought ps refl (lit< tt) apart stood
dimension_stands Y ps apart stood = a_word one ps refl (lit< tt) apart stood

pub id_stands : (d : Dimension) (form : IdForm) (back : List Piece) → Stand back → Stand (spell_id d form back) × NoBlank (spell_id d form back)
id_stands d form back stood =
    let w = id_word form in
    let arguments = single 40 _ refl refl (dimension_stands d _ refl (single 41 back refl refl stood)) in
    (single 40 _ refl refl (a_word uint _ refl (lit< tt) refl (single 41 _ refl refl (a_word (id_name form) _ w.0 w.1 refl arguments))), refl)

sign_stands : (op : Op) → is_operator op ≡ true → is_called op ≡ false → (ps : List Piece) → Stand ps → Stand (spell_sign op ps) × NoBlank (spell_sign op ps)
sign_stands Add h g ps stood = (single 43 ps refl refl stood, refl)
sign_stands Sub h g ps stood = (single 45 ps refl refl stood, refl)
sign_stands Mul h g ps stood = (single 42 ps refl refl stood, refl)
sign_stands Div h g ps stood = (single 47 ps refl refl stood, refl)
sign_stands Rem h g ps stood = (single 37 ps refl refl stood, refl)
sign_stands And h g ps stood = (single 38 ps refl refl stood, refl)
sign_stands Or h g ps stood = (single 124 ps refl refl stood, refl)
sign_stands Xor h g ps stood = (single 94 ps refl refl stood, refl)
sign_stands Shl h g ps stood = (single 60 _ refl refl (single 60 ps refl refl stood), refl)
sign_stands Shr h g ps stood = (single 62 _ refl refl (single 62 ps refl refl stood), refl)
sign_stands Min h g ps stood = absurd (cc (g))
sign_stands Max h g ps stood = absurd (cc (g))
sign_stands Lt h g ps stood = absurd (cc (h))
sign_stands Eq h g ps stood = absurd (cc (h))

comparison_stands : (c : Comparison) (ps : List Piece) → Stand ps → Stand (spell_comparison c ps) × NoBlank (spell_comparison c ps)
comparison_stands Less ps stood = (single 60 ps refl refl stood, refl)
comparison_stands Equal ps stood = (single 61 _ refl refl (single 61 ps refl refl stood), refl)

-- an operator between its operands
between_stands : (op : Op) (left : List Piece → List Piece) (right : List Piece) → is_operator op ≡ true → is_called op ≡ false → ((back : List Piece) → NoWord back → Stand back → Stand (left back) × NoBlank (left back)) → Stand right → NoBlank right
    → Stand (opens ∷ left (space ∷ spell_sign op (space ∷ right)))
between_stands op left right h g stands stood apart =
    let operator = sign_stands op h g _ (a_space right apart stood) in
    single 40 _ refl refl (stands _ refl (a_space _ operator.1 operator.0)).0

called_stands : (name : Piece) (left : List Piece → List Piece) (right : List Piece) → all_of is_word name ≡ true → 0 < length name → ((back : List Piece) → NoWord back → Stand back → Stand (left back) × NoBlank (left back)) → Stand right → NoBlank right
    → Stand (name ∷ opens ∷ left (comma ∷ space ∷ right))
called_stands name left right h some stands stood apart =
    a_word name _ h some refl (single 40 _ refl refl (stands _ refl (single 44 _ refl refl (a_space right apart stood))).0)

value_stands : (e : Formula) (l : ℕ) (n : Notes) (back : List Piece) → CountsFit n → l ≤ deepest → names_declared (counted n) l e ≡ true → NoWord back → Stand back → Stand (spell e back) × NoBlank (spell e back)
value_stands (Number v) l n back fit deep f apart stood = a_literal v back (ltb-true v (2 ^ 32) f) apart stood
value_stands (Variable k) l n back fit deep f apart stood = (a_name 118 k back (smaller k n.variables (2 ^ 32) (ltb-true k n.variables f) fit.variables) refl apart stood, refl)
value_stands (LoopVariable k) l n back fit deep f apart stood = (a_name 105 k back (loops_small k l (ltb-true k l f) deep) refl apart stood, refl)
value_stands (Size k) l n back fit deep f apart stood = (a_name 115 k back (smaller k n.sizes (2 ^ 32) (ltb-true k n.sizes f) fit.sizes) refl apart stood, refl)
value_stands (Id d form) l n back fit deep f apart stood = id_stands d form back stood
value_stands (Binary Min a b) l n back fit deep f apart stood =
    let names = and_parts (names_declared (counted n) l a) (names_declared (counted n) l b) f in
    let right = value_stands b l n (closes ∷ back) fit deep names.1 refl (single 41 back refl refl stood) in
    (called_stands least (spell a) (spell b (closes ∷ back)) refl (lit< tt) (λ back apart stood. value_stands a l n back fit deep names.0 apart stood) right.0 right.1, refl)
value_stands (Binary Max a b) l n back fit deep f apart stood =
    let names = and_parts (names_declared (counted n) l a) (names_declared (counted n) l b) f in
    let right = value_stands b l n (closes ∷ back) fit deep names.1 refl (single 41 back refl refl stood) in
    (called_stands greatest (spell a) (spell b (closes ∷ back)) refl (lit< tt) (λ back apart stood. value_stands a l n back fit deep names.0 apart stood) right.0 right.1, refl)
value_stands (Binary op a b) l n back fit deep f apart stood =
    let p = and_parts (is_operator op) (names_declared (counted n) l a && names_declared (counted n) l b) f in
    let names = and_parts (names_declared (counted n) l a) (names_declared (counted n) l b) p.1 in
    let right = value_stands b l n (closes ∷ back) fit deep names.1 refl (single 41 back refl refl stood) in
    (between_stands op (spell a) (spell b (closes ∷ back)) p.0 refl (λ back apart stood. value_stands a l n back fit deep names.0 apart stood) right.0 right.1, refl)
value_stands (Choose c e a x y) l n back fit deep f apart stood =
    let p = and_parts (names_declared (counted n) l e && names_declared (counted n) l a) (names_declared (counted n) l x && names_declared (counted n) l y) f in
    let q = and_parts (names_declared (counted n) l e) (names_declared (counted n) l a) p.0 in
    let r = and_parts (names_declared (counted n) l x) (names_declared (counted n) l y) p.1 in
    let no = value_stands y l n (closes ∷ back) fit deep r.1 refl (single 41 back refl refl stood) in
    let yes = value_stands x l n (space ∷ colon ∷ space ∷ spell y (closes ∷ back)) fit deep r.0 refl (a_space _ refl (single 58 _ refl refl (a_space _ no.1 no.0))) in
    let right = value_stands a l n (space ∷ question ∷ space ∷ spell x (space ∷ colon ∷ space ∷ spell y (closes ∷ back))) fit deep q.1 refl (a_space _ refl (single 63 _ refl refl (a_space _ yes.1 yes.0))) in
    let test = comparison_stands c _ (a_space _ right.1 right.0) in
    let left = value_stands e l n (space ∷ spell_comparison c (space ∷ spell a (space ∷ question ∷ space ∷ spell x (space ∷ colon ∷ space ∷ spell y (closes ∷ back))))) fit deep q.0 refl (a_space _ test.1 test.0) in
    (single 40 _ refl refl left.0, refl)

pub expression_stands : (e : Formula) (l : ℕ) (n : Notes) (back : List Piece) → CountsFit n → l ≤ deepest → is_expression (counted n) l e ≡ true → NoWord back → Stand back → Stand (spell e back) × NoBlank (spell e back)
expression_stands e l n back fit deep f apart stood = value_stands e l n back fit deep (and_parts (names_declared (counted n) l e) (nat_le (height e) deepest) f).0 apart stood

pub array_stands : (a : Array) (n : Notes) (ps : List Piece) → CountsFit n → is_readable (counted n) a ≡ true → NoWord ps → Stand ps → Stand (array_name a ∷ ps) × NoBlank (array_name a ∷ ps)
array_stands (Input k) n ps fit f apart stood = (a_name 97 k ps (array_small n (Input k) fit f) refl apart stood, refl)
array_stands (Output k) n ps fit f apart stood = (a_name 111 k ps (array_small n (Output k) fit f) refl apart stood, refl)
array_stands (Local k) n ps fit f apart stood = (a_name 108 k ps (array_small n (Local k) fit f) refl apart stood, refl)
array_stands (Private k) n ps fit f apart stood = (a_name 112 k ps (array_small n (Private k) fit f) refl apart stood, refl)

-- ---- expressions of four words

lanes_stand : (e : Lanes) (l : ℕ) (n : Notes) (back : List Piece) → CountsFit n → l ≤ deepest → names_declared_in_lanes (counted n) l e ≡ true → NoWord back → Stand back → Stand (spell_lanes e back) × NoBlank (spell_lanes e back)
lanes_stand (Vector k) l n back fit deep f apart stood = (a_name 119 k back (smaller k n.vectors (2 ^ 32) (ltb-true k n.vectors f) fit.vectors) refl apart stood, refl)
lanes_stand (Spread e) l n back fit deep f apart stood =
    let value = value_stands e l n (closes ∷ back) fit deep f refl (single 41 back refl refl stood) in
    (single 40 _ refl refl (a_word uint4 _ refl (lit< tt) refl (single 41 _ refl refl (single 40 _ refl refl value.0))), refl)
lanes_stand (Each Min a b) l n back fit deep f apart stood =
    let names = and_parts (names_declared_in_lanes (counted n) l a) (names_declared_in_lanes (counted n) l b) f in
    let right = lanes_stand b l n (closes ∷ back) fit deep names.1 refl (single 41 back refl refl stood) in
    (called_stands least (spell_lanes a) (spell_lanes b (closes ∷ back)) refl (lit< tt) (λ back apart stood. lanes_stand a l n back fit deep names.0 apart stood) right.0 right.1, refl)
lanes_stand (Each Max a b) l n back fit deep f apart stood =
    let names = and_parts (names_declared_in_lanes (counted n) l a) (names_declared_in_lanes (counted n) l b) f in
    let right = lanes_stand b l n (closes ∷ back) fit deep names.1 refl (single 41 back refl refl stood) in
    (called_stands greatest (spell_lanes a) (spell_lanes b (closes ∷ back)) refl (lit< tt) (λ back apart stood. lanes_stand a l n back fit deep names.0 apart stood) right.0 right.1, refl)
lanes_stand (Each op a b) l n back fit deep f apart stood =
    let p = and_parts (is_operator op) (names_declared_in_lanes (counted n) l a && names_declared_in_lanes (counted n) l b) f in
    let names = and_parts (names_declared_in_lanes (counted n) l a) (names_declared_in_lanes (counted n) l b) p.1 in
    let right = lanes_stand b l n (closes ∷ back) fit deep names.1 refl (single 41 back refl refl stood) in
    (between_stands op (spell_lanes a) (spell_lanes b (closes ∷ back)) p.0 refl (λ back apart stood. lanes_stand a l n back fit deep names.0 apart stood) right.0 right.1, refl)

pub four_words_stand : (e : Lanes) (l : ℕ) (n : Notes) (back : List Piece) → CountsFit n → l ≤ deepest → are_lanes (counted n) l e ≡ true → NoWord back → Stand back → Stand (spell_lanes e back) × NoBlank (spell_lanes e back)
four_words_stand e l n back fit deep f apart stood = lanes_stand e l n back fit deep (and_parts (names_declared_in_lanes (counted n) l e) (nat_le (lanes_height e) deepest) f).0 apart stood
