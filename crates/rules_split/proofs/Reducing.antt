-- Reductions by rows, by the operators' laws alone.
use Rattle.std.proofs.Common.{◌≡◌, ℕ, zero, suc, ◌<◌, ◌^◌, List, [], ◌∷◌, ◌++◌, length, refl, sym, ap, ◌∙◌, arith}
use Rattle.std.specs.Prelude.{map}
use Rattle.scalar_ops.specs.Regroup.{IsRegroup}
use Rattle.lift_tree.specs.Lists.{Every, fold_left, concat}
use Rattle.lift_tree.proofs.Members.{every-append}

module _ (f : ℕ → ℕ → ℕ) (e : ℕ) (laws : IsRegroup f e) where
  -- ---- in pieces
  pub fold_fits : (s : ℕ) (xs : List ℕ) → s < 2 ^ 32 → Every (λ x. x < 2 ^ 32) xs → fold_left f s xs < 2 ^ 32
  fold_fits s [] h a = h
  fold_fits s (x ∷ xs) h a = fold_fits (f s x) xs (laws.closed s x h a.0) a.1

  from_neutral : (s : ℕ) (xs : List ℕ) → s < 2 ^ 32 → Every (λ x. x < 2 ^ 32) xs → fold_left f s xs ≡ f s (fold_left f e xs)
  from_neutral s [] h a = sym (laws.neutral s h) ∙ laws.commutative e s laws.fits h
  from_neutral s (x ∷ xs) h a =
      from_neutral (f s x) xs (laws.closed s x h a.0) a.1
      ∙ laws.associative s x (fold_left f e xs) h a.0 (fold_fits e xs laws.fits a.1)
      ∙ ap (f s) (sym (from_neutral x xs a.0 a.1) ∙ ap (λ z. fold_left f z xs) (sym (laws.neutral x a.0)))

  fold-append : (s : ℕ) (xs ys : List ℕ) → fold_left f s (xs ++ ys) ≡ fold_left f (fold_left f s xs) ys
  fold-append s [] ys = refl
  fold-append s (x ∷ xs) ys = fold-append (f s x) xs ys

  -- each piece reduced, and then what they give
  pub regrouped : (s : ℕ) (xss : List (List ℕ)) → s < 2 ^ 32 → Every (Every (λ x. x < 2 ^ 32)) xss → fold_left f s (map (fold_left f e) xss) ≡ fold_left f s (concat xss)
  regrouped s [] h a = refl
  regrouped s (r ∷ rs) h a =
      regrouped (f s (fold_left f e r)) rs (laws.closed s (fold_left f e r) h (fold_fits e r laws.fits a.0)) a.1
      ∙ ap (λ z. fold_left f z (concat rs)) (sym (from_neutral s r h a.0))
      ∙ sym (fold-append s r (concat rs))

  -- ---- by commutativity, columns too
  total-append : (xs ys : List ℕ) → Every (λ x. x < 2 ^ 32) xs → Every (λ x. x < 2 ^ 32) ys → fold_left f e (xs ++ ys) ≡ f (fold_left f e xs) (fold_left f e ys)
  total-append xs ys a b = fold-append e xs ys ∙ from_neutral (fold_left f e xs) ys (fold_fits e xs laws.fits a) b

  total-cons : (x : ℕ) (xs : List ℕ) → x < 2 ^ 32 → Every (λ x. x < 2 ^ 32) xs → fold_left f e (x ∷ xs) ≡ f x (fold_left f e xs)
  total-cons x xs h a = ap (λ z. fold_left f z xs) (laws.neutral x h) ∙ from_neutral x xs h a

  swapped : (h t p c : ℕ) → h < 2 ^ 32 → t < 2 ^ 32 → p < 2 ^ 32 → c < 2 ^ 32 → f (f h t) (f p c) ≡ f (f h p) (f t c)
  swapped h t p c a b d k =
      laws.associative h t (f p c) a b (laws.closed p c d k)
      ∙ ap (f h) (sym (laws.associative t p c b d k) ∙ ap (λ z. f z c) (laws.commutative t p b d) ∙ laws.associative p t c d b k)
      ∙ sym (laws.associative h p (f t c) a d (laws.closed t c b k))

-- a list's first number, or 0
abbrev pub head_or : List ℕ → ℕ
head_or [] = 0
head_or (x ∷ xs) = x

abbrev pub rest : List ℕ → List ℕ
rest [] = []
rest (x ∷ xs) = xs

-- the first so many columns
abbrev pub columns_of : ℕ → List (List ℕ) → List (List ℕ)
columns_of zero rs = []
columns_of (suc m) rs = map head_or rs ∷ columns_of m (map rest rs)

-- a row of so many numbers below 2^32
abbrev pub IsRow : ℕ → List ℕ → Type 0
IsRow m r = (length r ≡ m) × Every (λ x. x < 2 ^ 32) r

heads_fit : (m : ℕ) (rs : List (List ℕ)) → Every (IsRow (suc m)) rs → Every (λ x. x < 2 ^ 32) (map head_or rs)
heads_fit m [] a = tt
heads_fit m ([] ∷ rs) a = let e = a.0.0 in absurd (omega arith)
heads_fit m ((h ∷ t) ∷ rs) a = (a.0.1.0, heads_fit m rs a.1)

rests_fit : (m : ℕ) (rs : List (List ℕ)) → Every (IsRow (suc m)) rs → Every (IsRow m) (map rest rs)
rests_fit m [] a = tt
rests_fit m ([] ∷ rs) a = let e = a.0.0 in absurd (omega arith)
rests_fit m ((h ∷ t) ∷ rs) a = let e = a.0.0 in ((omega arith, a.0.1.1), rests_fit m rs a.1)

rows_fit : (m : ℕ) (rs : List (List ℕ)) → Every (IsRow m) rs → Every (λ x. x < 2 ^ 32) (concat rs)
rows_fit m [] a = tt
rows_fit m (r ∷ rs) a = every-append (λ x. x < 2 ^ 32) r (concat rs) a.0.1 (rows_fit m rs a.1)

pub columns_fit : (m : ℕ) (rs : List (List ℕ)) → Every (IsRow m) rs → Every (Every (λ x. x < 2 ^ 32)) (columns_of m rs)
columns_fit zero rs a = tt
columns_fit (suc m) rs a = (heads_fit m rs a, columns_fit m (map rest rs) (rests_fit m rs a))

every-joined : (xss : List (List ℕ)) → Every (Every (λ x. x < 2 ^ 32)) xss → Every (λ x. x < 2 ^ 32) (concat xss)
every-joined [] a = tt
every-joined (r ∷ rs) a = every-append (λ x. x < 2 ^ 32) r (concat rs) a.0 (every-joined rs a.1)

none_left : (rs : List (List ℕ)) → Every (IsRow 0) rs → concat rs ≡ []
none_left [] a = refl
none_left ([] ∷ rs) a = none_left rs a.1
none_left ((h ∷ t) ∷ rs) a = let e = a.0.0 in absurd (omega arith)

module _ (f : ℕ → ℕ → ℕ) (e : ℕ) (laws : IsRegroup f e) where
  -- the first column taken out
  peel : (m : ℕ) (rs : List (List ℕ)) → Every (IsRow (suc m)) rs → fold_left f e (concat rs) ≡ f (fold_left f e (map head_or rs)) (fold_left f e (concat (map rest rs)))
  peel m [] a = sym (laws.neutral e laws.fits)
  peel m ([] ∷ rs) a = let e = a.0.0 in absurd (omega arith)
  peel m ((h ∷ t) ∷ rs) a =
      let hs = heads_fit m rs a.1 in
      let ts = rows_fit m (map rest rs) (rests_fit m rs a.1) in
      let fold = fold_fits f e laws e in
      total-append f e laws (h ∷ t) (concat rs) a.0.1 (rows_fit (suc m) rs a.1)
      ∙ ap (λ z. f z (fold_left f e (concat rs))) (total-cons f e laws h t a.0.1.0 a.0.1.1)
      ∙ ap (f (f h (fold_left f e t))) (peel m rs a.1)
      ∙ swapped f e laws h (fold_left f e t) (fold_left f e (map head_or rs)) (fold_left f e (concat (map rest rs))) a.0.1.0 (fold t laws.fits a.0.1.1) (fold (map head_or rs) laws.fits hs) (fold (concat (map rest rs)) laws.fits ts)
      ∙ ap (λ z. f z (f (fold_left f e t) (fold_left f e (concat (map rest rs))))) (sym (total-cons f e laws h (map head_or rs) a.0.1.0 hs))
      ∙ ap (f (fold_left f e (h ∷ map head_or rs))) (sym (total-append f e laws t (concat (map rest rs)) a.0.1.1 ts))

  columns_total : (m : ℕ) (rs : List (List ℕ)) → Every (IsRow m) rs → fold_left f e (concat (columns_of m rs)) ≡ fold_left f e (concat rs)
  columns_total zero rs a = ap (fold_left f e) (sym (none_left rs a))
  columns_total (suc m) rs a =
      total-append f e laws (map head_or rs) (concat (columns_of m (map rest rs))) (heads_fit m rs a) (every-joined (columns_of m (map rest rs)) (columns_fit m (map rest rs) (rests_fit m rs a)))
      ∙ ap (f (fold_left f e (map head_or rs))) (columns_total m (map rest rs) (rests_fit m rs a))
      ∙ sym (peel m rs a)

  -- all columns, one after another, and all rows
  pub strided : (s m : ℕ) (rs : List (List ℕ)) → s < 2 ^ 32 → Every (IsRow m) rs → fold_left f s (concat (columns_of m rs)) ≡ fold_left f s (concat rs)
  strided s m rs h a =
      from_neutral f e laws s (concat (columns_of m rs)) h (every-joined (columns_of m rs) (columns_fit m rs a))
      ∙ ap (f s) (columns_total m rs a)
      ∙ sym (from_neutral f e laws s (concat rs) h (rows_fit m rs a))
