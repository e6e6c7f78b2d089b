-- Where the cells of rows are.
use Rattle.std.proofs.Common.{◌≡◌, ℕ, zero, suc, ◌+◌, ◌*◌, ◌^◌, ◌<◌, ◌≤◌, ◌++◌, ◌∷◌, Bool, true, false, List, [], length, Some, None, refl, sym, ap, ◌∙◌, ⊎_elim, ◌⊎◌, inl, inr, arith, length-append}
use Rattle.std.specs.Prelude.{◌&&◌, nat_lt, slice_get, slice_index, slice_index_or, if◌then◌else◌}
use Rattle.std.proofs.lemmas.Bool.{cases_eq, cases_lt, lt-ltb, ltb-true, and_parts}
use Rattle.std.proofs.lemmas.List.{length-map, map-append}
use Rattle.std.proofs.lemmas.Nat.{mul-add-lt}
use Rattle.race_marks.specs.declared.rows.Row.{Row}
use Rattle.race_marks.specs.Rows.{Shape, ArePlaced, cells_of, width, cell_count, is_placed, place_at, lengths_of, AreLaid}

cells_more : (ns : List ℕ) (r : ℕ) → cells_of ns (suc r) ≡ cells_of ns r + slice_index ns r
cells_more [] zero = refl
cells_more [] (suc r) = refl
cells_more (n ∷ ns) zero = let e : n + 0 ≡ 0 + n = omega arith in e
cells_more (n ∷ ns) (suc r) = let e = cells_more ns r in omega arith

cells_rise : (ns : List ℕ) (r q : ℕ) → r ≤ q → cells_of ns r ≤ cells_of ns q
cells_rise ns zero q le = omega arith
cells_rise [] (suc r) zero le = absurd (omega arith)
cells_rise [] (suc r) (suc q) le = omega arith
cells_rise (n ∷ ns) (suc r) zero le = absurd (omega arith)
cells_rise (n ∷ ns) (suc r) (suc q) le = let e = cells_rise ns r q (omega arith) in omega arith

cells_front : (ns : List ℕ) (n r : ℕ) → r ≤ length ns → cells_of (ns ++ n ∷ []) r ≡ cells_of ns r
cells_front ns n zero le = refl
cells_front [] n (suc r) le = absurd (omega arith)
cells_front (m ∷ ns) n (suc r) le = ap (λ z. m + z) (cells_front ns n r (omega arith))

cells_push : (ns : List ℕ) (n : ℕ) → cells_of (ns ++ n ∷ []) (suc (length ns)) ≡ cells_of ns (length ns) + n
cells_push [] n = let e : n + 0 ≡ 0 + n = omega arith in e
cells_push (m ∷ ns) n = let e = cells_push ns n in omega arith

index_within : (ns : List ℕ) (r i : ℕ) → i < slice_index ns r → r < length ns
index_within [] r i lt = absurd (omega arith)
index_within (n ∷ ns) zero i lt = omega arith
index_within (n ∷ ns) (suc r) i lt = let e = index_within ns r i lt in omega arith

module _ (v : Shape) (r h i : ℕ) (placed : is_placed v r h i ≡ true) where
  at_home : h < v.homes
  at_home = ltb-true h v.homes (and_parts (nat_lt h v.homes) (nat_lt i (slice_index v.lengths r)) placed).0

  in_row : i < slice_index v.lengths r
  in_row = ltb-true i (slice_index v.lengths r) (and_parts (nat_lt h v.homes) (nat_lt i (slice_index v.lengths r)) placed).1

  before_end : cells_of v.lengths r + i < cells_of v.lengths (suc r)
  before_end = let a = in_row in let b = cells_more v.lengths r in omega arith

  in_home : cells_of v.lengths r + i < width v
  in_home =
      let a = before_end in
      let b = cells_rise v.lengths (suc r) (length v.lengths) (let e = index_within v.lengths r i in_row in omega arith) in
      omega arith

  pub within : place_at v r h i < cell_count v
  within = let a = mul-add-lt h (width v) (cells_of v.lengths r + i) v.homes at_home in_home in omega arith

-- different cells have different places
one_rest : (n a b c d : ℕ) → b < n → d < n → a * n + b ≡ c * n + d → (a ≡ c) × (b ≡ d)
one_rest n a b c d lb ld e =
    ⊎_elim
    (λ same. (same, let p : a * n ≡ c * n = ap (λ z. z * n) same in omega arith))
    (λ ne. ⊎_elim
    (λ lt. absurd (let p = mul-add-lt a n b c lt lb in omega arith))
    (λ ge. absurd (let q = mul-add-lt c n d a (below c a ne ge) ld in omega arith))
    (cases_lt a c))
    (cases_eq a c)
  where
    below : (x y : ℕ) → (y ≡ x → ⊥) → x ≤ y → x < y
    below x y ne le = ⊎_elim (λ same. absurd (ne same)) (λ other. omega arith) (cases_eq y x)

module _ (v : Shape) (r h i q g j : ℕ) (p : is_placed v r h i ≡ true) (t : is_placed v q g j ≡ true) where
  same_row : cells_of v.lengths r + i ≡ cells_of v.lengths q + j → (r ≡ q) × (i ≡ j)
  same_row e =
      ⊎_elim
      (λ lt. absurd (let a = before_end v r h i p in let b = cells_rise v.lengths (suc r) q (omega arith) in omega arith))
      (λ ge. ⊎_elim
      (λ lt. absurd (let a = before_end v q g j t in let b = cells_rise v.lengths (suc q) r (omega arith) in omega arith))
      (λ le.
      let same : r ≡ q = omega arith in
      let begins : cells_of v.lengths r ≡ cells_of v.lengths q = ap (cells_of v.lengths) same in
      (same, omega arith))
      (cases_lt q r))
      (cases_lt r q)

  pub apart : place_at v r h i ≡ place_at v q g j → (r ≡ q) × (h ≡ g) × (i ≡ j)
  apart e =
      let two = one_rest (width v) h (cells_of v.lengths r + i) g (cells_of v.lengths q + j) (in_home v r h i p) (in_home v q g j t) e in
      let row = same_row two.1 in
      (row.0, two.0, row.1)

pub placed : (v : Shape) → ArePlaced v
placed v = record {
  within = λ r h i p. within v r h i p;
  apart = λ r h i q g j p t e. apart v r h i q g j p t e;
}

-- one row more
get_push : (rows : List Row) (x : Row) (r : ℕ) (row : Row) → slice_get (rows ++ x ∷ []) r ≡ Some row → ((r < length rows) × (slice_get rows r ≡ Some row)) ⊎ ((r ≡ length rows) × (x ≡ row))
get_push [] x zero row e = inr (refl, cc)
get_push [] x (suc zero) row e = cc
get_push [] x (suc (suc r)) row e = cc
get_push (y ∷ rows) x zero row e = inl (omega arith, e)
get_push (y ∷ rows) x (suc r) row e = ⊎_elim (λ a. inl (let lt = a.0 in omega arith, a.1)) (λ b. inr (ap suc b.0, b.1)) (get_push rows x r row e)

pub laid_on : (h : ℕ) (rows : List Row) (cells : ℕ) (x : Row) (more : ℕ) → AreLaid h rows cells → x.start ≡ cells → (more ≡ cells + x.length) × (h * more < 2 ^ 64) → AreLaid h (rows ++ x ∷ []) more
laid_on h rows cells x more a starts grows = record {
  starts = λ r row e. ⊎_elim
      (λ p. a.starts r row p.1 ∙ sym (cells_front (lengths_of rows) x.length r (let lt = p.0 in let n = count in omega arith)) ∙ ap (λ ns. cells_of ns r) (sym lengths))
      (λ p. ap (λ (z : Row). z.start) (sym p.1) ∙ starts ∙ a.whole
      ∙ sym (cells_front (lengths_of rows) x.length (length rows) (let n = count in omega arith)) ∙ ap (λ ns. cells_of ns (length rows)) (sym lengths) ∙ ap (cells_of (lengths_of (rows ++ x ∷ []))) (sym p.0))
      (get_push rows x r row e);
  whole =
      grows.0 ∙ ap (λ n. n + x.length) (a.whole ∙ ap (cells_of (lengths_of rows)) (sym count))
      ∙ sym (cells_push (lengths_of rows) x.length)
      ∙ ap (λ ns. cells_of ns (suc (length (lengths_of rows)))) (sym lengths)
      ∙ ap (cells_of (lengths_of (rows ++ x ∷ []))) (ap suc count ∙ sym (length-append rows (x ∷ []) ∙ (let e : length rows + 1 ≡ suc (length rows) = omega arith in e)));
  fits = grows.1;
}
  where
    lengths : lengths_of (rows ++ x ∷ []) ≡ lengths_of rows ++ x.length ∷ []
    lengths = map-append (λ row. row.length) rows (x ∷ [])

    count : length (lengths_of rows) ≡ length rows
    count = length-map rows (λ row. row.length)

pub laid_none : (h : ℕ) → AreLaid h [] 0
laid_none h = record { starts = λ r row e. none r row e; whole = refl; fits = let e : h * 0 ≡ 0 = omega arith in omega arith }
  where
    none : (r : ℕ) (row : Row) → slice_get [] r ≡ Some row → row.start ≡ cells_of [] r
    none zero row e = cc
    none (suc r) row e = cc

-- a row that is there
pub length_at : (rows : List Row) (r : ℕ) (row : Row) → slice_get rows r ≡ Some row → slice_index (lengths_of rows) r ≡ row.length
length_at [] zero row e = cc
length_at [] (suc r) row e = cc
length_at (x ∷ rows) zero row e = let same : x ≡ row = cc in ap (λ (z : Row). z.length) same
length_at (x ∷ rows) (suc r) row e = length_at rows r row e

-- the width, as the rows' lengths tell it
pub width_is : (homes : ℕ) (rows : List Row) (cells : ℕ) → AreLaid homes rows cells → cells ≡ width (record { homes = homes; lengths = lengths_of rows })
width_is homes rows cells a = a.whole ∙ ap (cells_of (lengths_of rows)) (sym (length-map rows (λ z. z.length)))

-- the place of a cell of a row that is there
module _ (homes : ℕ) (rows : List Row) (cells : ℕ) (a : AreLaid homes rows cells) (r : ℕ) (row : Row) (there : slice_get rows r ≡ Some row) where
  abbrev shape : Shape
  shape = record { homes = homes; lengths = lengths_of rows }

  pub placed_row : (h i : ℕ) → h < homes → i < row.length → is_placed shape r h i ≡ true
  placed_row h i lh li = ap (λ b. b && nat_lt i (slice_index (lengths_of rows) r)) (lt-ltb h homes lh) ∙ ap (nat_lt i) (length_at rows r row there) ∙ lt-ltb i row.length li

  pub place_row : (h i : ℕ) → h * cells + (row.start + i) ≡ place_at shape r h i
  place_row h i = ap (λ n. h * n + (row.start + i)) (width_is homes rows cells a) ∙ ap (λ n. h * width shape + (n + i)) (a.starts r row there)

  pub place_fits : (h i : ℕ) → h < homes → i < row.length → h * cells + (row.start + i) < homes * cells
  place_fits h i lh li =
      let lt = within shape r h i (placed_row h i lh li) in
      let e = place_row h i in
      let w = ap (λ n. homes * n) (width_is homes rows cells a) in
      omega arith

  pub place_is : (h i : ℕ) → h < homes → i < row.length → (w : Shape) → shape ≡ w → Some (h * cells + (row.start + i)) ≡ (if is_placed w r h i then Some (place_at w r h i) else None)
  place_is h i lh li w same =
      ap Some (place_row h i) ∙ ap (λ b. if b then Some (place_at shape r h i) else None) (sym (placed_row h i lh li))
      ∙ ap (λ z. if is_placed z r h i then Some (place_at z r h i) else None) same

pub get_or_is : {A : Type 0} (xs : List A) (n : ℕ) (x : A) → n < length xs → x ≡ slice_index_or xs n x → slice_get xs n ≡ Some x
get_or_is [] n x h e = absurd (omega arith)
get_or_is (y ∷ xs) zero x h e = ap Some (sym e)
get_or_is (y ∷ xs) (suc n) x h e = get_or_is xs n x (omega arith) e

-- a place that is told is one of the cells
pub told_within : (v : Shape) (r h i p : ℕ) → Some p ≡ (if is_placed v r h i then Some (place_at v r h i) else None) → (is_placed v r h i ≡ true) × (p ≡ place_at v r h i)
told_within v r h i p e = by_test (is_placed v r h i) refl e
  where
    by_test : (b : Bool) → is_placed v r h i ≡ b → Some p ≡ (if b then Some (place_at v r h i) else None) → (is_placed v r h i ≡ true) × (p ≡ place_at v r h i)
    by_test true t q = (t, cc)
    by_test false t q = let no : Some p ≡ None = q in cc
