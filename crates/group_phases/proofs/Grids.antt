-- A walk takes each place that lies on it at just one turn, and none else.
use Rattle.std.proofs.Common.{◌≡◌, ℕ, zero, suc, ◌+◌, ◌*◌, ◌/◌, ◌%◌, ◌<◌, sym, ap, ◌∙◌, subst, arith}
use Rattle.std.proofs.lemmas.Nat.{div-mul-add, mod-mul-add, div-add-mod'}
use Rattle.std.proofs.Math.Nat.{mod-lt, mul-le-mul_right, mul-div_cancel}
use Rattle.kernel_tree.specs.Strides.{turns_of}
use Rattle.kernel_tree.proofs.Stride.{turn_below, turn_owner, owner_turn, owner_has}
use Rattle.group_phases.specs.Grids.{Grid, Walk, IsWalk, OneRowsAreWalked, one_row, places, rows_taken, columns_taken, places_taken, row_taken, column_taken, place_taken, Takes, IsOn}
use Rattle.group_phases.proofs.TurnForms.{below}

-- a factor of what isn't 0
pub some_factor : (t n w : ℕ) → t < n * w → 0 < w
some_factor t n zero lt = absurd (omega arith)
some_factor t n (suc w) lt = omega arith

-- places of one row and of another
pub pair_below : (u v n w : ℕ) → u < n → v < w → u * w + v < n * w
pair_below u v n w ul vl = let more = mul-le-mul_right {m = suc u} {n = n} w ul in omega arith

-- turns of one stride that come to the same number are one
pub stride_same : (id size t u : ℕ) → 0 < size → id + t * size ≡ id + u * size → t ≡ u
stride_same id size t u pos e =
    let z : t * size ≡ u * size = omega arith in
    sym (mul-div_cancel t pos) ∙ ap (λ v. v / size) z ∙ mul-div_cancel u pos

module _ (g : Grid) (w : Walk) (is : IsWalk w) where
  abbrev pub width : ℕ
  width = columns_taken g w

  module _ (t : ℕ) (lt : t < places_taken g w) where
    pub some_width : 0 < width
    some_width = some_factor t (rows_taken g w) width lt

    pub row_turn : t / width < rows_taken g w
    row_turn = below t (t / width) (t % width) (rows_taken g w) width (div-add-mod' t width) lt

    pub column_turn : t % width < width
    column_turn = mod-lt t some_width

    pub row_below : row_taken g w t < g.rows
    row_below = turn_below g.rows w.down w.row (t / width) is.row row_turn

    pub column_below : column_taken g w t < g.columns
    column_below = turn_below g.columns w.across w.column (t % width) is.column column_turn

    pub place_below : place_taken g w t < places g
    place_below = pair_below (row_taken g w t) (column_taken g w t) g.rows g.columns row_below column_below

    -- its row and its column tell a place
    pub place_row : place_taken g w t / g.columns ≡ row_taken g w t
    place_row = div-mul-add (row_taken g w t) g.columns (column_taken g w t) column_below

    pub place_column : place_taken g w t % g.columns ≡ column_taken g w t
    place_column = mod-mul-add (row_taken g w t) g.columns (column_taken g w t) column_below

    -- and it lies on the walk
    pub taken_on : IsOn g w (place_taken g w t)
    taken_on = record {
      row = ap (λ z. z % w.down) place_row ∙ turn_owner w.down w.row (t / width) is.row;
      column = ap (λ z. z % w.across) place_column ∙ turn_owner w.across w.column (t % width) is.column;
    }

  -- at no two turns the same place
  pub taken_once : (t u : ℕ) → t < places_taken g w → u < places_taken g w → place_taken g w t ≡ place_taken g w u → t ≡ u
  taken_once t u tl ul e =
      let rows = sym (place_row t tl) ∙ ap (λ z. z / g.columns) e ∙ place_row u ul in
      let columns = sym (place_column t tl) ∙ ap (λ z. z % g.columns) e ∙ place_column u ul in
      let down : 0 < w.down = let z = is.row in omega arith in
      let across : 0 < w.across = let z = is.column in omega arith in
      let a : t / width ≡ u / width = stride_same w.row w.down (t / width) (u / width) down rows in
      let b : t % width ≡ u % width = stride_same w.column w.across (t % width) (u % width) across columns in
      sym (div-add-mod' t width) ∙ ap (λ z. z * width + t % width) a ∙ ap (λ z. (u / width) * width + z) b ∙ div-add-mod' u width

  -- a place at this row and this column
  pub taken_at : (a b : ℕ) → a < g.rows → b < g.columns → a % w.down ≡ w.row → b % w.across ≡ w.column → Takes g w (a * g.columns + b)
  taken_at a b al bl ra cb =
      let down : 0 < w.down = let z = is.row in omega arith in
      let across : 0 < w.across = let z = is.column in omega arith in
      let u = a / w.down in
      let v = b / w.across in
      let ul : u < rows_taken g w = subst (λ z. u < turns_of g.rows w.down z) ra (owner_has g.rows w.down a down al) in
      let vl : v < width = subst (λ z. v < turns_of g.columns w.across z) cb (owner_has g.columns w.across b across bl) in
      let t = u * width + v in
      let row : row_taken g w t ≡ a = ap (λ z. w.row + z * w.down) (div-mul-add u width v vl) ∙ ap (λ z. z + u * w.down) (sym ra) ∙ sym (owner_turn w.down a down) in
      let column : column_taken g w t ≡ b = ap (λ z. w.column + z * w.across) (mod-mul-add u width v vl) ∙ ap (λ z. z + v * w.across) (sym cb) ∙ sym (owner_turn w.across b across) in
      record {
        turn = t;
        within = pair_below u v (rows_taken g w) width ul vl;
        is = ap (λ z. z * g.columns + column_taken g w t) row ∙ ap (λ z. a * g.columns + z) column;
      }

  -- each place on the walk is taken
  pub on_taken : (i : ℕ) → i < places g → IsOn g w i → Takes g w i
  on_taken i lt on =
      let some : 0 < g.columns = some_factor i g.rows g.columns lt in
      let row : i / g.columns < g.rows = below i (i / g.columns) (i % g.columns) g.rows g.columns (div-add-mod' i g.columns) lt in
      subst (Takes g w) (div-add-mod' i g.columns) (taken_at (i / g.columns) (i % g.columns) row (mod-lt i some) on.row on.column)

  -- the place of a turn of the rows and one of the places in a row
  pub pair_taken : (u v : ℕ) → v < width → place_taken g w (u * width + v) ≡ (w.row + u * w.down) * g.columns + (w.column + v * w.across)
  pair_taken u v vl =
      ap (λ z. (w.row + z * w.down) * g.columns + column_taken g w (u * width + v)) (div-mul-add u width v vl)
      ∙ ap (λ z. (w.row + u * w.down) * g.columns + (w.column + z * w.across)) (mod-mul-add u width v vl)

-- one row
pub one_row_walked : OneRowsAreWalked
one_row_walked n w is row down = (long, λ t lt. placed t lt)
  where
    rows : rows_taken (one_row n) w ≡ 1
    rows = ap (λ z. turns_of 1 w.down z) row ∙ ap (λ z. turns_of 1 z 0) down

    long : places_taken (one_row n) w ≡ turns_of n w.across w.column
    long = let e = ap (λ z. z * columns_taken (one_row n) w) rows in omega arith

    placed : (t : ℕ) → t < turns_of n w.across w.column → place_taken (one_row n) w t ≡ w.column + t * w.across
    placed t lt =
        let start : 0 * columns_taken (one_row n) w + t ≡ t = omega arith in
        let none : w.row + 0 * w.down ≡ 0 = omega (arith, row) in
        let last : 0 * n + (w.column + t * w.across) ≡ w.column + t * w.across = omega arith in
        ap (place_taken (one_row n) w) (sym start) ∙ pair_taken (one_row n) w is 0 t lt ∙ ap (λ z. z * n + (w.column + t * w.across)) none ∙ last
