-- Pieces that end with a line's end: what stands behind them is cut by itself.
use Rattle.std.proofs.Common.{◌≡◌, ℕ, suc, ◌+◌, ◌-◌, ◌<◌, List, [], ◌∷◌, ◌++◌, Bool, false, cond, length, drop, length-append, length-drop, append_assoc, refl, sym, ap, ◌∙◌, subst, arith}
use Rattle.std.specs.List.{prefix_len}
use Rattle.scalar_ops.specs.declared.op.Op.{Op}
use Rattle.scalar_ops.specs.declared.op.Op.TheVariants.{Add, Mul, Min, Max, And, Or, Xor, Sub, Shl, Shr, Div, Rem, Lt, Eq}
use Rattle.kernel_tree.specs.Pieces.{ArePieces, is_blank, is_word, joined, piece_len}
use Rattle.kernel_tree.specs.Formula.{Comparison, Less, Equal, Formula, Number, Variable, LoopVariable, Size, Id, Binary, Choose, Lanes, Vector, Spread, Each}
use Rattle.kernel_tree.specs.KernelText.{Piece, line}
use Rattle.kernel_spelling.specs.Spelling.{spell_sign, spell_comparison, spell, spell_lanes}
use Rattle.kernel_spelling.proofs.Cut.{Stand, front, joined_pieces, single}

-- the last piece is a line's end
pub data Ends : List Piece → Type 0 where
  last : Ends (line ∷ [])
  more : {p : Piece} → {ps : List Piece} → Ends ps → Ends (p ∷ ps)

pub on2 : {p q : Piece} {ps : List Piece} → Ends ps → Ends (p ∷ q ∷ ps)
on2 h = more (more h)

pub on3 : {p q r : Piece} {ps : List Piece} → Ends ps → Ends (p ∷ q ∷ r ∷ ps)
on3 h = more (on2 h)

pub on4 : {p q r s : Piece} {ps : List Piece} → Ends ps → Ends (p ∷ q ∷ r ∷ s ∷ ps)
on4 h = more (on3 h)

pub on5 : {p q r s t : Piece} {ps : List Piece} → Ends ps → Ends (p ∷ q ∷ r ∷ s ∷ t ∷ ps)
on5 h = more (on4 h)

pub on6 : {p q r s t u : Piece} {ps : List Piece} → Ends ps → Ends (p ∷ q ∷ r ∷ s ∷ t ∷ u ∷ ps)
on6 h = more (on5 h)

pub on7 : {p q r s t u v : Piece} {ps : List Piece} → Ends ps → Ends (p ∷ q ∷ r ∷ s ∷ t ∷ u ∷ v ∷ ps)
on7 h = more (on6 h)

-- ---- expressions

ends_sign : (op : Op) (back : List Piece) → Ends back → Ends (spell_sign op back)
ends_sign Add back h = more h
ends_sign Sub back h = more h
ends_sign Mul back h = more h
ends_sign Div back h = more h
ends_sign Rem back h = more h
ends_sign And back h = more h
ends_sign Or back h = more h
ends_sign Xor back h = more h
ends_sign Shl back h = on2 h
ends_sign Shr back h = on2 h
ends_sign Min back h = h
ends_sign Max back h = h
ends_sign Lt back h = more h
ends_sign Eq back h = on2 h

ends_comparison : (c : Comparison) (back : List Piece) → Ends back → Ends (spell_comparison c back)
ends_comparison Less back h = more h
ends_comparison Equal back h = on2 h

pub ends_spell : (e : Formula) (back : List Piece) → Ends back → Ends (spell e back)
ends_spell (Number v) back h = more h
ends_spell (Variable k) back h = more h
ends_spell (LoopVariable k) back h = more h
ends_spell (Size k) back h = more h
ends_spell (Id d form) back h = on7 h
ends_spell (Binary Min a b) back h = on2 (ends_spell a _ (on2 (ends_spell b _ (more h))))
ends_spell (Binary Max a b) back h = on2 (ends_spell a _ (on2 (ends_spell b _ (more h))))
ends_spell (Binary op a b) back h = more (ends_spell a _ (more (ends_sign op _ (more (ends_spell b _ (more h))))))
ends_spell (Choose c a b x y) back h =
    more (ends_spell a _ (more (ends_comparison c _ (more (ends_spell b _ (on3 (ends_spell x _ (on3 (ends_spell y _ (more h))))))))))

pub ends_lanes : (e : Lanes) (back : List Piece) → Ends back → Ends (spell_lanes e back)
ends_lanes (Vector k) back h = more h
ends_lanes (Spread e) back h = on4 (ends_spell e _ (more h))
ends_lanes (Each Min a b) back h = on2 (ends_lanes a _ (on2 (ends_lanes b _ (more h))))
ends_lanes (Each Max a b) back h = on2 (ends_lanes a _ (on2 (ends_lanes b _ (more h))))
ends_lanes (Each op a b) back h = more (ends_lanes a _ (more (ends_sign op _ (more (ends_lanes b _ (more h))))))

-- ---- what stands behind is cut by itself

none : {ps : List Piece} → Ends ps → ps ≡ [] → ⊥
none last e = cc (e)
none (more h) e = cc (e)

pub some_pieces : (ps : List Piece) → Ends ps → 0 < length ps
some_pieces [] h = absurd (none h refl)
some_pieces (p ∷ ps) h = let w : 0 < suc (length ps) = omega arith in w

pub joined-append : (ps qs : List Piece) → joined (ps ++ qs) ≡ joined ps ++ joined qs
joined-append [] qs = refl
joined-append (p ∷ ps) qs = ap (λ z. p ++ z) (joined-append ps qs) ∙ sym (append_assoc p (joined ps) (joined qs))

-- the bytes end with a line's end
line_last : {ps : List Piece} → Ends ps → (bs : List ℕ) × (joined ps ≡ bs ++ 10 ∷ [])
line_last last = ([], refl)
line_last (more {p = p} {ps = ps} h) = let w = line_last h in (p ++ w.0, ap (λ z. p ++ z) w.1 ∙ sym (append_assoc p w.0 (10 ∷ [])))

prefix_more : (t : ℕ → Bool) → t 10 ≡ false → (bs back : List ℕ) → prefix_len t ((bs ++ 10 ∷ []) ++ back) ≡ prefix_len t (bs ++ 10 ∷ [])
prefix_more t e [] back = ap (λ v. cond v (1 + prefix_len t back) 0) e ∙ sym (ap (λ v. cond v (1 + prefix_len t []) 0) e)
prefix_more t e (b ∷ bs) back = ap (λ n. cond (t b) (1 + n) 0) (prefix_more t e bs back)

-- the piece at the front is the same, whatever stands behind the line's end
piece_more : (bs back : List ℕ) → piece_len ((bs ++ 10 ∷ []) ++ back) ≡ piece_len (bs ++ 10 ∷ [])
piece_more [] back = refl
piece_more (b ∷ bs) back =
    ap (λ n. suc (cond (is_word b) n (cond (is_blank b) (prefix_len is_blank ((bs ++ 10 ∷ []) ++ back)) 0))) (prefix_more is_word refl bs back)
    ∙ ap (λ n. suc (cond (is_word b) (prefix_len is_word (bs ++ 10 ∷ [])) (cond (is_blank b) n 0))) (prefix_more is_blank refl bs back)

positive : (bs : List ℕ) → 0 < length bs → 0 < piece_len bs
positive [] e = absurd (omega (arith, e))
positive (b ∷ bs) e = let v : 0 < suc (cond (is_word b) (prefix_len is_word bs) (cond (is_blank b) (prefix_len is_blank bs) 0)) = omega arith in v

pub together : {ps : List Piece} → (qs : List Piece) → Ends ps → Stand ps → Stand qs → Stand (ps ++ qs)
together qs last stood behind = single 10 qs refl refl behind
together qs (more {p = p} {ps = rest} h) stood behind =
    let bytes = p ++ joined rest in
    let n = piece_len bytes in
    let cut : drop n bytes ≡ joined rest = joined_pieces (drop n bytes) rest stood.are_pieces.2 in
    let later : Stand rest = record { are_pieces = subst (λ z. ArePieces z rest) cut stood.are_pieces.2 } in
    let w = line_last h in
    let same : bytes ≡ (p ++ w.0) ++ 10 ∷ [] = ap (λ z. p ++ z) w.1 ∙ sym (append_assoc p w.0 (10 ∷ [])) in
    let all : length bytes ≡ length p + length (joined rest) = length-append p (joined rest) in
    let left : length (joined rest) ≡ length bytes - n = ap length (sym cut) ∙ length-drop n bytes in
    let some : 0 < length (joined rest) = (let l = ap length w.1 ∙ length-append w.0 (10 ∷ []) in omega (arith, l)) in
    let long : n ≡ length p = omega (arith, all, left, some) in
    let own : 0 < length p = (let e = stood.are_pieces.0 in let f : 0 < n = positive bytes e in omega (arith, long, f)) in
    let here : piece_len (p ++ joined (rest ++ qs)) ≡ length p =
    ap piece_len (ap (λ z. p ++ z) (joined-append rest qs) ∙ sym (append_assoc p (joined rest) (joined qs)) ∙ ap (λ z. z ++ joined qs) same)
    ∙ piece_more (p ++ w.0) (joined qs) ∙ ap piece_len (sym same) ∙ long in
    front p (rest ++ qs) own here (together qs h later behind)

-- what stands behind other pieces
pub behind : (ps qs : List Piece) → Stand (ps ++ qs) → Stand qs
behind [] qs stood = stood
behind (p ∷ ps) qs stood =
    let bytes = p ++ joined (ps ++ qs) in
    let n = piece_len bytes in
    let cut : drop n bytes ≡ joined (ps ++ qs) = joined_pieces (drop n bytes) (ps ++ qs) stood.are_pieces.2 in
    behind ps qs (record { are_pieces = subst (λ z. ArePieces z (ps ++ qs)) cut stood.are_pieces.2 })

-- and what ends so stands by itself, whatever is behind
pub apart : {ps : List Piece} → (qs : List Piece) → Ends ps → Stand (ps ++ qs) → Stand ps
apart qs last stood = single 10 [] refl refl (record { are_pieces = refl })
apart qs (more {p = p} {ps = rest} h) stood =
    let bytes = p ++ joined (rest ++ qs) in
    let n = piece_len bytes in
    let cut : drop n bytes ≡ joined (rest ++ qs) = joined_pieces (drop n bytes) (rest ++ qs) stood.are_pieces.2 in
    let later : Stand (rest ++ qs) = record { are_pieces = subst (λ z. ArePieces z (rest ++ qs)) cut stood.are_pieces.2 } in
    let w = line_last h in
    let same : p ++ joined rest ≡ (p ++ w.0) ++ 10 ∷ [] = ap (λ z. p ++ z) w.1 ∙ sym (append_assoc p w.0 (10 ∷ [])) in
    let whole : bytes ≡ ((p ++ w.0) ++ 10 ∷ []) ++ joined qs =
    ap (λ z. p ++ z) (joined-append rest qs) ∙ sym (append_assoc p (joined rest) (joined qs)) ∙ ap (λ z. z ++ joined qs) same in
    let all : length bytes ≡ length p + length (joined (rest ++ qs)) = length-append p (joined (rest ++ qs)) in
    let left : length (joined (rest ++ qs)) ≡ length bytes - n = ap length (sym cut) ∙ length-drop n bytes in
    let some : 0 < length (joined (rest ++ qs)) = (let l = ap length (joined-append rest qs) ∙ length-append (joined rest) (joined qs) in let m = ap length w.1 ∙ length-append w.0 (10 ∷ []) in omega (arith, l, m)) in
    let long : n ≡ length p = omega (arith, all, left, some) in
    let own : 0 < length p = (let e = stood.are_pieces.0 in let f : 0 < n = positive bytes e in omega (arith, long, f)) in
    let here : piece_len (p ++ joined rest) ≡ length p = ap piece_len same ∙ sym (piece_more (p ++ w.0) (joined qs)) ∙ ap piece_len (sym whole) ∙ long in
    front p rest own here (apart qs h later)
