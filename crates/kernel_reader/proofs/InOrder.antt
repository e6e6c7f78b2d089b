-- Kernels that are read one after another.
use Rattle.std.proofs.Common.{◌≡◌, ℕ, suc, ◌+◌, ◌-◌, ◌<◌, ◌≤◌, List, [], ◌∷◌, ◌++◌, length, map, take, drop, refl, ap, sym, ◌∙◌, subst, arith, inl, inr, Bor}
use Rattle.std.specs.Prelude.{◌⊎◌}
use Rattle.std.proofs.Math.Seq.{drop-append_seam, drop-length, take-append_seam}
use Rattle.std.proofs.lemmas.List.{append-nil, append_assoc, drop-drop, length-append, length-drop, length-take-le, take-append-drop, take_all, drop-map}
use Rattle.readings.specs.Readings.{Reads}
use Rattle.readings.specs.Exactly.{StopsAt}
use Rattle.kernel_tree.specs.Code.{Kernel}
use Rattle.kernel_tree.specs.KernelText.{Piece, all_of, kernels, nothing, start}
use Rattle.kernel_spelling.specs.SequenceText.{AreWhole, IsWhole, StopsAfter, name_of}
use Rattle.kernel_reader.specs.Sequences.{IsFront}
use Rattle.kernel_reader.specs.Views.{bytes_of}
use Rattle.kernel_reader.proofs.Fronts.{some_own}

-- the first pieces are those of these kernels, and nothing else
pub record Taken (ps : List Piece) (taken : ℕ) (ks : List Kernel) : Type 0 where
  pub inside : taken ≤ length ps
  pub whole : (xs : List Kernel) → AreWhole (length ks) (drop taken ps) xs → AreWhole 0 ps (ks ++ xs)
  pub only : (ls : List Kernel) → AreWhole 0 ps ls → (xs : List Kernel) × (ls ≡ ks ++ xs) × AreWhole (length ks) (drop taken ps) xs
  pub stops : (n j : ℕ) → StopsAfter n (length ks) (drop taken ps) j → StopsAfter (length ks + n) 0 ps (taken + j)

-- and more pieces are left, unless no kernel is read yet
pub record Goes (ps : List Piece) (taken : ℕ) (ks : List Kernel) : Type 0 where
  pub taken_so : Taken ps taken ks
  pub some_left : (length ks ≡ 0) ⊎ (taken < length ps)

pub begins : (ps : List Piece) → Goes ps 0 []
begins ps = record {
  taken_so = record {
    inside = omega arith;
    whole = λ xs h. h;
    only = λ ls h. (ls, refl, h);
    stops = λ n j h.
        subst (λ m. StopsAfter m 0 ps (0 + j)) (let w : n ≡ 0 + n = omega arith in w) (subst (λ m. StopsAfter n 0 ps m) (let w : j ≡ 0 + j = omega arith in w) h);
  };
  some_left = inl refl;
}

-- this kernel at the front of these pieces is the one
abbrev pub Alone : Piece → List Piece → ℕ → Kernel → Type 0
Alone name ps own k = (other : ℕ) (x : Kernel) → IsFront name ps other x → (own ≡ other) × (k ≡ x)

front_of : (n : ℕ) (name : Piece) (ps own rest : List Piece) (x : Kernel) → name ≡ name_of n → ps ≡ own ++ rest → IsWhole n own x → IsFront name ps (length own) x
front_of n name ps own rest x e h r =
    let long : length ps ≡ length own + length rest = ap length h ∙ length-append own rest in
    let same : own ≡ take (length own) ps = sym (take-append_seam own rest) ∙ ap (take (length own)) (sym h) in
    record {
      inside = omega (arith, long);
      reads = subst (λ z. Reads kernels (start name) nothing z [] (all_of x)) same (subst (λ z. Reads kernels (start z) nothing own [] (all_of x)) (sym e) r);
    }

pub takes : (ps : List Piece) (name : Piece) (taken own : ℕ) (ks : List Kernel) (k : Kernel) → Taken ps taken ks → name ≡ name_of (length ks) → IsFront name (drop taken ps) own k → Alone name (drop taken ps) own k → Taken ps (taken + own) (ks ++ k ∷ [])
takes ps name taken own ks k t e f alone = record {
  inside = (let i = f.inside in let j = t.inside in let l = length-drop taken ps in omega (arith, i, j, l));
  whole = λ xs h. subst (λ z. AreWhole 0 ps z) (sym (append_assoc ks (k ∷ []) xs)) (t.whole (k ∷ xs) (own_pieces, rest, cut, reads, subst (λ z. AreWhole (suc n) z xs) (sym left) (subst (λ m. AreWhole m (drop (taken + own) ps) xs) many h)));
  only = λ ls h. more_only ls (t.only ls h);
  stops = λ m j h.
      let behind : StopsAfter m (suc n) rest j = subst (λ z. StopsAfter m (suc n) z j) (sym left) (subst (λ z. StopsAfter m z (drop (taken + own) ps) j) many h) in
      let place : own + j ≡ length own_pieces + j = ap (λ z. z + j) (sym (length-take-le own (drop taken ps) f.inside)) in
      let all = t.stops (suc m) (own + j) (own_pieces, rest, k, j, cut, reads, behind, place) in
      subst (λ z. StopsAfter z 0 ps ((taken + own) + j)) (let w : n + suc m ≡ length (ks ++ k ∷ []) + m = (let l = many in omega (arith, l)) in w)
      (subst (λ z. StopsAfter (n + suc m) 0 ps z) (let w : taken + (own + j) ≡ (taken + own) + j = omega arith in w) all);
}
  where
    n : ℕ
    n = length ks

    own_pieces : List Piece
    own_pieces = take own (drop taken ps)

    rest : List Piece
    rest = drop own (drop taken ps)

    cut : drop taken ps ≡ own_pieces ++ rest
    cut = sym (take-append-drop own (drop taken ps))

    reads : IsWhole n own_pieces k
    reads = subst (λ z. Reads kernels (start z) nothing own_pieces [] (all_of k)) e f.reads

    left : rest ≡ drop (taken + own) ps
    left = drop-drop own taken ps

    many : length (ks ++ k ∷ []) ≡ suc n
    many = let l : length (ks ++ k ∷ []) ≡ n + 1 = length-append ks (k ∷ []) in omega (arith, l)

    more_only : (ls : List Kernel) → (xs : List Kernel) × (ls ≡ ks ++ xs) × AreWhole n (drop taken ps) xs → (xs : List Kernel) × (ls ≡ (ks ++ k ∷ []) ++ xs) × AreWhole (length (ks ++ k ∷ [])) (drop (taken + own) ps) xs
    more_only ls ([], same, none) =
        absurd (let i = f.inside in let s = some_own name (drop taken ps) own k f in let l : length (drop taken ps) ≡ 0 = ap length none in omega (arith, i, s, l))
    more_only ls (x ∷ xs, same, h) =
        let one = alone (length h.0) x (front_of n name (drop taken ps) h.0 h.1 x e h.2 h.3) in
        let behind : h.1 ≡ drop (taken + own) ps = sym (drop-append_seam h.0 h.1) ∙ ap (drop (length h.0)) (sym h.2) ∙ ap (λ m. drop m (drop taken ps)) (sym one.0) ∙ left in
        (xs, same ∙ ap (λ z. ks ++ z ∷ xs) (sym one.1) ∙ sym (append_assoc ks (k ∷ []) xs), subst (λ m. AreWhole m (drop (taken + own) ps) xs) (sym many) (subst (λ z. AreWhole (suc n) z xs) behind h.4))

-- where no kernel is at the front of what is left
pub none_more : (ps : List Piece) (name : Piece) (taken : ℕ) (ks : List Kernel) → Goes ps taken ks → name ≡ name_of (length ks) → ((own : ℕ) (k : Kernel) → IsFront name (drop taken ps) own k → ⊥) → (ls : List Kernel) → 0 < length ls → AreWhole 0 ps ls → ⊥
none_more ps name taken ks g e none ls some h = at_left (g.taken_so.only ls h) g.some_left
  where
    at_left : (xs : List Kernel) × (ls ≡ ks ++ xs) × AreWhole (length ks) (drop taken ps) xs → (length ks ≡ 0) ⊎ (taken < length ps) → ⊥
    at_left ([], same, end) (inl zero_yet) = let l : length ls ≡ length ks + 0 = ap length same ∙ length-append ks [] in omega (arith, l, some, zero_yet)
    at_left ([], same, end) (inr left) = let l : length (drop taken ps) ≡ 0 = ap length end in let d = length-drop taken ps in omega (arith, l, d, left)
    at_left (x ∷ xs, same, h) some = none (length h.0) x (front_of (length ks) name (drop taken ps) h.0 h.1 x e h.2 h.3)

pub stopped : (ps : List Piece) (name : Piece) (taken j : ℕ) (ks : List Kernel) → Goes ps taken ks → name ≡ name_of (length ks) → StopsAt kernels (start name) nothing (drop taken ps) j → ((own : ℕ) (k : Kernel) → IsFront name (drop taken ps) own k → ⊥) → StopsAfter (length ks + 0) 0 ps (taken + j)
stopped ps name taken j ks g e s none = g.taken_so.stops 0 j (record {
  comes = comes g.some_left;
  stops = subst (λ z. StopsAt kernels (start z) nothing (drop taken ps) j) e s;
  unended = λ own rest x cut r. none (length own) x (front_of (length ks) name (drop taken ps) own rest x e cut r);
})
  where
    comes : (length ks ≡ 0) ⊎ (taken < length ps) → (length ks ≡ 0) ⊎ (0 < length (drop taken ps))
    comes (inl z) = inl z
    comes (inr l) = inr (let d = length-drop taken ps in omega (arith, d, l))

-- ---- pieces and kernels where they lie in memory
pub moved : (name : Piece) (qs ps : List Piece) (own : ℕ) (k : Kernel) → qs ≡ ps → IsFront name qs own k → IsFront name ps own k
moved name qs ps own k e f = subst (λ z. IsFront name z own k) e f

pub map_more : {A B : Type 0} (f : A → B) (xs : List A) (x : A) → map f (xs ++ x ∷ []) ≡ map f xs ++ f x ∷ []
map_more f [] x = refl
map_more f (y ∷ xs) x = ap (λ z. f y ∷ z) (map_more f xs x)

none_left : (ps : List Piece) (n : ℕ) → n ≡ length ps → drop n ps ≡ []
none_left ps n e = ap (λ m. drop m ps) e ∙ drop-length ps

pub all_read : (ps : List Piece) (n : ℕ) (ks : List Kernel) → Taken ps n ks → n ≡ length ps → AreWhole 0 ps ks
all_read ps n ks t e = subst (λ z. AreWhole 0 ps z) (append-nil ks) (t.whole [] (none_left ps n e))

-- the pieces that are left
pub left_of : (xs items : List (Bor (List ℕ))) (taken : ℕ) → xs ≡ items → map bytes_of (take (length xs - taken) (drop taken xs)) ≡ drop taken (map bytes_of items)
left_of xs items taken e =
    ap (map bytes_of) (take_all (length xs - taken) (drop taken xs) (let l = length-drop taken xs in omega (arith, l)))
    ∙ sym (drop-map bytes_of taken xs)
    ∙ ap (λ z. drop taken (map bytes_of z)) e
