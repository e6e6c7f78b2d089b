-- Kernels in order and their texts.
use Rattle.std.proofs.Common.{◌≡◌, ℕ, zero, suc, ◌<◌, ◌^◌, true, List, [], ◌∷◌, ◌++◌, ◌+◌, length, length-append, drop, refl, sym, ap, ◌∙◌, subst, arith}
use Rattle.std.specs.Prelude.{decimal, nat_lt}
use Rattle.std.proofs.Math.Seq.{drop-append_seam}
use Rattle.std.proofs.lemmas.Bool.{and_parts, and_from}
use Rattle.std.proofs.lemmas.Fmt.{decimal_is_IsNumeral}
use Rattle.kernel_tree.specs.Code.{Kernel}
use Rattle.kernel_tree.specs.Pieces.{ArePieces, is_word, joined}
use Rattle.readings.specs.Readings.{Reads}
use Rattle.readings.proofs.OneReading.{one_reading}
use Rattle.readings.proofs.Fronts.{refused_behind, same_front}
use Rattle.kernel_tree.specs.KernelText.{IsKernelText, Piece, kernels, nothing, start}
use Rattle.kernel_tree.specs.KernelText.{all_of as notes_of}
use Rattle.kernel_spelling.specs.Rows.{table}
use Rattle.kernel_spelling.specs.Decided.{decided}
use Rattle.kernel_spelling.specs.Spelling.{HasText, IsName, is_letters, spelled, spelled_with, text_of}
use Rattle.kernel_spelling.specs.SequenceText.{name_of, AreTexts, AreWhole, IsWhole, texts_of, SequencesHaveOneText, TextsAreOfOneSequence, TextsAreWhole, FrontsAreOfOneKernel, FrontsAreRefusedBehind}
use Rattle.kernel_spelling.proofs.Cut.{Stand, all_of, digits_word, joined_pieces, one_cut}
use Rattle.kernel_spelling.proofs.Ended.{Ends, apart, behind, joined-append, some_pieces, together}
use Rattle.kernel_spelling.proofs.KernelEnds.{kernel_ends}
use Rattle.kernel_spelling.proofs.One.{kernel_at}
use Rattle.kernel_spelling.proofs.Whole.{kernel_fits, made_whole}

-- ---- names

letters_all : (w : List ℕ) → all_of is_word w ≡ true → is_letters w ≡ true
letters_all [] h = refl
letters_all (b ∷ bs) h =
    let q = and_parts (is_word b) (all_of is_word bs) h in
    and_from (is_word b) (is_letters bs) q.0 (letters_all bs q.1)

some_more : (b : ℕ) (bs : List ℕ) → 0 < length (b ∷ bs)
some_more b bs = let w : 0 < suc (length bs) = omega arith in w

-- lift and a decimal are one piece
pub named_so : (n : ℕ) (name : List ℕ) → n < 2 ^ 64 → name ≡ name_of n → IsName name
named_so n name small e =
    let letters : is_letters (decimal n) ≡ true = letters_all (decimal n) (digits_word (decimal n) (decimal_is_IsNumeral n small).0.1) in
    subst IsName (sym e) (record { some = some_more 108 (105 ∷ 102 ∷ 116 ∷ decimal n); letters = letters })

-- ---- texts

-- a kernel's text by its name is the one
is_text : (k : ℕ) (own : List ℕ) (x : Kernel) → IsKernelText (name_of k) own x → own ≡ text_of (name_of k) x
is_text k own x h =
    let w = made_whole (name_of k) h.0 x h.2 in
    joined_pieces own h.0 h.1 ∙ ap joined w.1

are_texts : (k : ℕ) (bytes : List ℕ) (ks : List Kernel) → AreTexts k bytes ks → bytes ≡ texts_of k ks
are_texts k bytes [] h = h
are_texts k bytes (x ∷ xs) h =
    h.2 ∙ ap (λ z. z ++ h.1) (is_text k h.0 x h.3) ∙ ap (λ z. text_of (name_of k) x ++ z) (are_texts (suc k) h.1 xs h.4)

pub sequences_have_one_text : SequencesHaveOneText
sequences_have_one_text bytes ks h = are_texts 0 bytes ks h

-- ---- a text is of one list of kernels

own_ends : (name : Piece) (x : Kernel) (ps : List Piece) → HasText x → ps ≡ spelled name x → Ends ps
own_ends name x ps h e = at_outputs x.outputs refl
  where
    at_outputs : (o : ℕ) → x.outputs ≡ o → Ends ps
    at_outputs zero z = absurd (let w : nat_lt 0 0 ≡ true = subst (λ v. nat_lt 0 v ≡ true) z (kernel_fits x h.in_grammar).some_output in cc (w))
    at_outputs (suc many) z = subst Ends (sym (e ∙ ap (spelled_with name x) z)) (kernel_ends name x many)

in_turn : (k : ℕ) (bytes : List ℕ) (ks : List Kernel) → AreTexts k bytes ks → (ps : List Piece) × ArePieces bytes ps × AreWhole k ps ks
in_turn k bytes [] h = ([], h, refl)
in_turn k bytes (x ∷ xs) h =
    let own = h.3 in
    let later = in_turn (suc k) h.1 xs h.4 in
    let w = made_whole (name_of k) own.0 x own.2 in
    let first : h.0 ≡ joined own.0 = joined_pieces h.0 own.0 own.1 in
    let second : h.1 ≡ joined later.0 = joined_pieces h.1 later.0 later.1 in
    let front_stands : Stand own.0 = record { are_pieces = subst (λ z. ArePieces z own.0) first own.1 } in
    let back_stands : Stand later.0 = record { are_pieces = subst (λ z. ArePieces z later.0) second later.1 } in
    let all = together later.0 (own_ends (name_of k) x own.0 w.0 w.1) front_stands back_stands in
    let same : bytes ≡ joined (own.0 ++ later.0) = h.2 ∙ ap (λ z. z ++ h.1) first ∙ ap (λ z. joined own.0 ++ z) second ∙ sym (joined-append own.0 later.0) in
    (own.0 ++ later.0, subst (λ z. ArePieces z (own.0 ++ later.0)) (sym same) all.are_pieces, (own.0, later.0, refl, own.2, later.2))

some_own : (k : ℕ) (own : List Piece) (x : Kernel) → IsWhole k own x → 0 < length own
some_own k own x r = let w = made_whole (name_of k) own x r in some_pieces own (own_ends (name_of k) x own w.0 w.1)

nothing_whole : (k : ℕ) (own rest : List Piece) (x : Kernel) → IsWhole k own x → [] ≡ own ++ rest → ⊥
nothing_whole k own rest x r e =
    let some = some_own k own x r in
    let l : 0 ≡ length own + length rest = ap length e ∙ length-append own rest in
    omega (arith, some, l)

same_back : {A : Type 0} (own other rest back : List A) → own ≡ other → own ++ rest ≡ other ++ back → rest ≡ back
same_back own other rest back e h =
    sym (drop-append_seam own rest) ∙ ap (drop (length own)) h ∙ ap (λ n. drop n (other ++ back)) (ap length e) ∙ drop-append_seam other back

pub fronts_are_of_one_kernel : FrontsAreOfOneKernel
fronts_are_of_one_kernel name own other rest back x y r s e =
    let cut = same_front kernels table decided own other rest back (start name) nothing (notes_of x) (notes_of y) r s e in
    let all : Reads kernels (start name) nothing other [] (notes_of x) = subst (λ z. Reads kernels (start name) nothing z [] (notes_of x)) cut.0 r in
    (cut.0, ap kernel_at (one_reading kernels table decided (start name) nothing other (notes_of x) (notes_of y) all s))

one_list : (k : ℕ) (ps : List Piece) (ks ls : List Kernel) → AreWhole k ps ks → AreWhole k ps ls → ks ≡ ls
one_list k ps [] [] h g = refl
one_list k ps [] (y ∷ ys) h g = absurd (nothing_whole k g.0 g.1 y g.3 (sym h ∙ g.2))
one_list k ps (x ∷ xs) [] h g = absurd (nothing_whole k h.0 h.1 x h.3 (sym g ∙ h.2))
one_list k ps (x ∷ xs) (y ∷ ys) h g =
    let same = fronts_are_of_one_kernel (name_of k) h.0 g.0 h.1 g.1 x y h.3 g.3 (sym h.2 ∙ g.2) in
    let rest : h.1 ≡ g.1 = same_back h.0 g.0 h.1 g.1 same.0 (sym h.2 ∙ g.2) in
    ap (λ z. z ∷ xs) same.1 ∙ ap (λ z. y ∷ z) (one_list (suc k) g.1 xs ys (subst (λ z. AreWhole (suc k) z xs) rest h.4) g.4)

pub texts_are_of_one_sequence : TextsAreOfOneSequence
texts_are_of_one_sequence bytes ks ls h g =
    let x = in_turn 0 bytes ks h.texts in
    let y = in_turn 0 bytes ls g.texts in
    one_list 0 y.0 ks ls (subst (λ z. AreWhole 0 z ks) (one_cut bytes x.0 y.0 x.1 y.1) x.2) y.2

-- ---- by pieces

-- the text of pieces that are those of the kernels
texts_of_whole : (k : ℕ) (bytes : List ℕ) (ps : List Piece) (ks : List Kernel) → ArePieces bytes ps → AreWhole k ps ks → AreTexts k bytes ks
texts_of_whole k bytes ps [] h e = joined_pieces bytes ps h ∙ ap joined e
texts_of_whole k bytes ps (x ∷ xs) h g =
    let w = made_whole (name_of k) g.0 x g.3 in
    let all : bytes ≡ joined (g.0 ++ g.1) = joined_pieces bytes ps h ∙ ap joined g.2 in
    let cut : ArePieces (joined (g.0 ++ g.1)) (g.0 ++ g.1) = subst (λ z. ArePieces z (g.0 ++ g.1)) all (subst (λ z. ArePieces bytes z) g.2 h) in
    let stood : Stand (g.0 ++ g.1) = record { are_pieces = cut } in
    let own = apart g.1 (own_ends (name_of k) x g.0 w.0 w.1) stood in
    let rest = behind g.0 g.1 stood in
    (joined g.0, joined g.1, all ∙ joined-append g.0 g.1, (g.0, own.are_pieces, g.3), texts_of_whole (suc k) (joined g.1) g.1 xs rest.are_pieces g.4)

pub texts_are_whole : TextsAreWhole
texts_are_whole bytes pieces ks h = (
  λ t. (let w = in_turn 0 bytes ks t in subst (λ z. AreWhole 0 z ks) (one_cut bytes w.0 pieces w.1 h) w.2),
  λ g. texts_of_whole 0 bytes pieces ks h g,
)

pub fronts_are_refused_behind : FrontsAreRefusedBehind
fronts_are_refused_behind name own rest x i r some s = refused_behind kernels table decided own rest (start name) nothing (notes_of x) i r some s
