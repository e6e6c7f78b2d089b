-- The words of rows of cells, which each of several homes has.
use Rattle.std.proofs.Common.{◌≡◌, ℕ, List, length, replicate, set, Option, Some, None, Bool, true, false, refl, sym, ap, ◌∙◌, arith}
use Rattle.std.specs.Prelude.{is_some, slice_index, ◌==◌, ◌&&◌, if◌then◌else◌}
use Rattle.std.proofs.lemmas.Bool.{eqb-true, eq-eqb, and_parts}
use Rattle.std.proofs.lemmas.List.{get_or-replicate, get_or-set_same, get_or-set_other}
use Rattle.race_marks.specs.Rows.{Shape, ArePlaced, cell_count, is_placed, place_at}
use Rattle.ndrange_machine.specs.Words.{Words, word_at, AreFilled}

-- the place of a cell, as it is told
abbrev pub told_place : Shape → (row home index : ℕ) → Option ℕ
told_place s a h i = if is_placed s a h i then Some (place_at s a h i) else None

pub told : (s : Shape) (a h i p : ℕ) → Some p ≡ told_place s a h i → (is_placed s a h i ≡ true) × (p ≡ place_at s a h i)
told s a h i p e = by_test (is_placed s a h i) refl e
  where
    by_test : (b : Bool) → is_placed s a h i ≡ b → Some p ≡ (if b then Some (place_at s a h i) else None) → (is_placed s a h i ≡ true) × (p ≡ place_at s a h i)
    by_test true t q = (t, cc)
    by_test false t q = let no : Some p ≡ None = q in cc

not_told : (s : Shape) (a h i : ℕ) → None ≡ told_place s a h i → is_placed s a h i ≡ false
not_told s a h i e = by_test (is_placed s a h i) e
  where
    by_test : (b : Bool) → None ≡ (if b then Some (place_at s a h i) else None) → b ≡ false
    by_test true q = let no : None ≡ Some (place_at s a h i) = q in cc
    by_test false q = refl

pub read_there : (v : Words) (h a i p x : ℕ) → Some p ≡ told_place v.shape a h i → x ≡ slice_index v.words p → Some x ≡ word_at v h a i
read_there v h a i p x e is =
    let t = told v.shape a h i p e in
    ap Some (is ∙ ap (slice_index v.words) t.1) ∙ ap (λ b. if b then Some (slice_index v.words (place_at v.shape a h i)) else None) (sym t.0)

pub read_none : (v : Words) (h a i : ℕ) → None ≡ told_place v.shape a h i → None ≡ word_at v h a i
read_none v h a i e = ap (λ b. if b then Some (slice_index v.words (place_at v.shape a h i)) else None) (sym (not_told v.shape a h i e))

-- at the start each cell has the word
pub all_filled : (s t : Shape) (words : List ℕ) (n word : ℕ) → ArePlaced s → s ≡ t → words ≡ replicate n word → n ≡ cell_count s → AreFilled (record { shape = s; words = words }) t.homes t.lengths word
all_filled s t words n word placed same are count h a i =
    by_test (is_placed s a h i) refl ∙ ap (λ (z : Shape). if is_placed z a h i then Some word else None) same
  where
    by_test : (b : Bool) → is_placed s a h i ≡ b → (if is_placed s a h i then Some (slice_index words (place_at s a h i)) else None) ≡ (if is_placed s a h i then Some word else None)
    by_test true is =
        let lt = placed.within a h i is in
        ap (λ z. if is_placed s a h i then Some z else None) (ap (λ ws. slice_index ws (place_at s a h i)) are ∙ get_or-replicate n (place_at s a h i) word 0 (omega arith))
    by_test false is = ap (λ z. if z then Some (slice_index words (place_at s a h i)) else None) is ∙ sym (ap (λ z. if z then Some word else None) is)

-- one cell gets the word w, and no other changes
module _ (v : Words) (home row index w : ℕ) where
  abbrev is_it : (home row index : ℕ) → Bool
  is_it h a i = (a == row) && ((h == home) && (i == index))

  abbrev pub Puts : Words → Type 0
  Puts new = (h a i : ℕ) → word_at new h a i ≡ (if is_it h a i && is_some (word_at v home row index) then Some w else word_at v h a i)

  -- a cell by this name is this one
  its_name : (h a i : ℕ) → is_it h a i ≡ true → (a ≡ row) × (h ≡ home) × (i ≡ index)
  its_name h a i e =
      let one = and_parts (a == row) ((h == home) && (i == index)) e in
      let two = and_parts (h == home) (i == index) one.1 in
      (eqb-true a row one.0, eqb-true h home two.0, eqb-true i index two.1)

  it_is : (h a i : ℕ) → a ≡ row → h ≡ home → i ≡ index → is_it h a i ≡ true
  it_is h a i p q r = ap (λ b. b && ((h == home) && (i == index))) (eq-eqb a row p) ∙ ap (λ b. b && (i == index)) (eq-eqb h home q) ∙ eq-eqb i index r

  pub wrote_none : None ≡ told_place v.shape row home index → Puts v
  wrote_none e h a i =
      by_test (is_it h a i) ∙ ap (λ o. if is_it h a i && is_some o then Some w else word_at v h a i) (read_none v home row index e)
    where
      none : Option ℕ
      none = None

      by_test : (b : Bool) → word_at v h a i ≡ (if b && is_some none then Some w else word_at v h a i)
      by_test true = refl
      by_test false = refl

  pub wrote_there : (p : ℕ) → Some p ≡ told_place v.shape row home index → ArePlaced v.shape → length v.words ≡ cell_count v.shape → Puts (record { shape = v.shape; words = set v.words p w })
  wrote_there p e placed whole h a i =
      by_name (is_it h a i) refl
      ∙ ap (λ o. if is_it h a i && is_some o then Some w else word_at v h a i) (read_there v home row index p (slice_index v.words p) e refl)
    where
      there : (is_placed v.shape row home index ≡ true) × (p ≡ place_at v.shape row home index)
      there = told v.shape row home index p e

      new : Words
      new = record { shape = v.shape; words = set v.words p w }

      here : word_at new home row index ≡ Some w
      here =
          let lt = placed.within row home index there.0 in
          ap (λ b. if b then Some (slice_index (set v.words p w) (place_at v.shape row home index)) else None) there.0
          ∙ ap (λ q. Some (slice_index (set v.words p w) q)) (sym there.1)
          ∙ ap Some (get_or-set_same v.words p w 0 (let is = there.1 in omega arith))

      elsewhere : is_it h a i ≡ false → (b : Bool) → is_placed v.shape a h i ≡ b → word_at new h a i ≡ word_at v h a i
      elsewhere away true is =
          ap (λ z. if is_placed v.shape a h i then Some z else None)
          (get_or-set_other v.words p (place_at v.shape a h i) w 0
          (λ same.
          let names = placed.apart a h i row home index is there.0 (same ∙ there.1) in
          let yes : true ≡ false = sym (it_is h a i names.0 names.1 names.2) ∙ away in
          cc))
      elsewhere away false is = ap (λ b. if b then Some (slice_index (set v.words p w) (place_at v.shape a h i)) else None) is ∙ sym (ap (λ b. if b then Some (slice_index v.words (place_at v.shape a h i)) else None) is)

      by_name : (b : Bool) → is_it h a i ≡ b → word_at new h a i ≡ (if is_it h a i && is_some (Some (slice_index v.words p)) then Some w else word_at v h a i)
      by_name true is =
          let names = its_name h a i is in
          ap (λ z. word_at new h z i) names.0 ∙ ap (λ z. word_at new z row i) names.1 ∙ ap (λ z. word_at new home row z) names.2 ∙ here
          ∙ sym (ap (λ b. if b && true then Some w else word_at v h a i) is)
      by_name false is = elsewhere is (is_placed v.shape a h i) refl ∙ sym (ap (λ b. if b && true then Some w else word_at v h a i) is)
