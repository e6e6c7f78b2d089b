-- Sums and lines, one item further.
use Rattle.std.proofs.Common.{◌≡◌, ℕ, zero, suc, ◌+◌, ◌-◌, ◌*◌, ◌<◌, ◌≤◌, ◌^◌, Bool, true, false, List, ◌++◌, sym, ap, ◌∙◌, ⊎_elim, arith, append_assoc}
use Rattle.std.specs.Prelude.{min}
use Rattle.std.proofs.lemmas.Bool.{cases_lt}
use Rattle.std.proofs.lemmas.List.{append-nil}
use Rattle.kernel_tree.specs.Launch.{Launch, item_count, group_count, group_of, first_item}
use Rattle.kernel_tree.specs.Numbering.{LaidOut}
use Rattle.term_traffic.specs.Traffic.{ItemTraffic}
use Rattle.item_traffic.specs.Counts.{held}
use Rattle.plan_traffic.specs.Plans.{IsHeld}
use Rattle.plan_traffic.specs.declared.traffic.Traffic.{Traffic}
use Rattle.cost_lines.specs.Costs.{numbers_in}
use Rattle.cost_lines.specs.Lines.{both_traffic, held_traffic, item_line, item_lines, lines_from, lines_if, sum_traffic, sum_to, times_traffic}

numbers : (a b c d : ℕ) → ItemTraffic
numbers a b c d = record { global_loads = a; global_stores = b; local_loads = c; local_stores = d }

-- what is counted is held
pub counted : (n : ItemTraffic) (x : Traffic) → IsHeld n x → numbers_in x ≡ held_traffic n
unfolding numbers
counted n x h = λ j. numbers (h.global_loads j) (h.global_stores j) (h.local_loads j) (h.local_stores j)

held_sum : (a b : ℕ) → held (held a + held b) ≡ held (a + b)
held_sum a b = omega arith

held_product : (a n : ℕ) → held (held a * n) ≡ held (a * n)
held_product a zero = ap held (let e : held a * zero ≡ a * zero = omega arith in e)
held_product a (suc n) = ⊎_elim small large (cases_lt a (2 ^ 64))
  where
    small : a < 2 ^ 64 → held (held a * suc n) ≡ held (a * suc n)
    small lt = let e : held a ≡ a = omega arith in ap (λ z. held (z * suc n)) e

    large : 2 ^ 64 ≤ a → held (held a * suc n) ≡ held (a * suc n)
    large le =
        let x = held a in
        let e : held a ≡ 2 ^ 64 - 1 = omega arith in
        let f : held a * suc n ≡ held a * n + held a = grind arith in
        let g : a * suc n ≡ a * n + a = grind arith in
        let m = held a * n in
        let k = a * n in
        omega arith

next : (k m : ℕ) → k + suc m ≡ suc (k + m)
next k m = omega arith

-- as much so many times, added bit by bit
one_time_more : (s n : ItemTraffic) (m : ℕ) → both_traffic (both_traffic s (times_traffic n m)) n ≡ both_traffic s (times_traffic n (suc m))
unfolding numbers
one_time_more s n m =
    λ j. numbers (more s.global_loads n.global_loads m j) (more s.global_stores n.global_stores m j) (more s.local_loads n.local_loads m j) (more s.local_stores n.local_stores m j)
  where
    more : (a b m : ℕ) → a + b * m + b ≡ a + b * suc m
    more a b m = grind arith

no_time : (s n : ItemTraffic) → s ≡ both_traffic s (times_traffic n zero)
unfolding numbers
no_time s n = λ j. numbers (none s.global_loads n.global_loads j) (none s.global_stores n.global_stores j) (none s.local_loads n.local_loads j) (none s.local_stores n.local_stores j)
  where
    none : (a b : ℕ) → a ≡ a + b * zero
    none a b = omega arith

module _ (f : ℕ → ItemTraffic) (k : ℕ) where
  -- so many from the k-th on are as it
  abbrev pub AreAlike : ℕ → Type 0
  AreAlike m = (j : ℕ) → j < m → f k ≡ f (k + j)

  fewer : (m : ℕ) → AreAlike (suc m) → AreAlike m
  fewer m h j lt = h j (omega arith)

  sum_on : (m : ℕ) → AreAlike m → sum_traffic f (k + m) ≡ both_traffic (sum_traffic f k) (times_traffic (f k) m)
  sum_on zero h = ap (sum_traffic f) (let e : k + zero ≡ k = omega arith in e) ∙ no_time (sum_traffic f k) (f k)
  sum_on (suc m) h =
      ap (sum_traffic f) (next k m) ∙ ap (λ s. both_traffic s (f (k + m))) (sum_on m (fewer m h)) ∙ ap (both_traffic (both_traffic (sum_traffic f k) (times_traffic (f k) m))) (sym (h m (omega arith)))
      ∙ one_time_more (sum_traffic f k) (f k) m

  lines_on : (m : ℕ) → AreAlike m → item_lines f (k + m) ≡ item_lines f k ++ lines_from k m (held_traffic (f k))
  lines_on zero h = ap (item_lines f) (let e : k + zero ≡ k = omega arith in e) ∙ (simp append-nil)
  lines_on (suc m) h =
      ap (item_lines f) (next k m) ∙ ap (λ s. s ++ item_line (k + m) (held_traffic (f (k + m)))) (lines_on m (fewer m h))
      ∙ ap (λ n. (item_lines f k ++ lines_from k m (held_traffic (f k))) ++ item_line (k + m) (held_traffic n)) (sym (h m (omega arith))) ∙ simp append_assoc

  -- so their held sums add up
  pub sums_on : (m end : ℕ) (all one together r : ItemTraffic) → end ≡ k + m → AreAlike m → all ≡ held_traffic (sum_traffic f k) → one ≡ held_traffic (f k) → together ≡ held_traffic (times_traffic one m) → r ≡ held_traffic (both_traffic all together) → r ≡ held_traffic (sum_traffic f end)
  unfolding numbers
  sums_on m end all one together r e h p q t s =
      s ∙ ap (λ z. held_traffic (both_traffic z together)) p ∙ ap (λ z. held_traffic (both_traffic (held_traffic (sum_traffic f k)) z)) (t ∙ ap (λ z. held_traffic (times_traffic z m)) q ∙ products)
      ∙ (λ j. numbers (held_sum (sum_traffic f k).global_loads ((f k).global_loads * m) j) (held_sum (sum_traffic f k).global_stores ((f k).global_stores * m) j) (held_sum (sum_traffic f k).local_loads ((f k).local_loads * m) j) (held_sum (sum_traffic f k).local_stores ((f k).local_stores * m) j))
      ∙ ap held_traffic (sym (sum_on m h)) ∙ ap (λ z. held_traffic (sum_traffic f z)) (sym e)
    where
      products : held_traffic (times_traffic (held_traffic (f k)) m) ≡ held_traffic (times_traffic (f k) m)
      products = λ j. numbers (held_product (f k).global_loads m j) (held_product (f k).global_stores m j) (held_product (f k).local_loads m j) (held_product (f k).local_stores m j)

  pub with_lines : (items : Bool) (m end : ℕ) (text longer : List ℕ) (x : ItemTraffic) → end ≡ k + m → AreAlike m → items ≡ true → text ≡ lines_if items f k → x ≡ held_traffic (f k) → longer ≡ text ++ lines_from k m x → longer ≡ lines_if items f end
  with_lines true m end text longer x e h i p q s =
      s ∙ ap (λ z. z ++ lines_from k m x) p ∙ ap (λ z. item_lines f k ++ lines_from k m z) q ∙ sym (lines_on m h) ∙ ap (item_lines f) (sym e)
  with_lines false m end text longer x e h i p q s = absurd (cc)

  pub without_lines : (items : Bool) (end : ℕ) (text : List ℕ) → items ≡ false → text ≡ lines_if items f k → text ≡ lines_if items f end
  without_lines false end text i p = p
  without_lines true end text i p = absurd (cc)

-- a line more behind those of so many
pub line_further : (first item : ℕ) (n : ItemTraffic) (old text longer : List ℕ) → first ≤ item → text ≡ old ++ lines_from first (item - first) n → longer ≡ text ++ item_line item n → longer ≡ old ++ lines_from first (item + 1 - first) n
line_further first item n old text longer le p q =
    let e : item + 1 - first ≡ suc (item - first) = omega arith in
    let d : item ≡ first + (item - first) = omega arith in
    q ∙ ap (λ z. z ++ item_line item n) p ∙ ap (λ z. (old ++ lines_from first (item - first) n) ++ item_line z n) d ∙ append_assoc old (lines_from first (item - first) n) (item_line (first + (item - first)) n) ∙ ap (λ z. old ++ lines_from first z n) (sym e)

pub sum_more : (f : ℕ → ℕ) (k all next r : ℕ) → all ≡ held (sum_to f k) → next ≡ held (f k) → r ≡ min (all + next) (2 ^ 64 - 1) → r ≡ held (sum_to f (k + 1))
sum_more f k all next r p q h = h ∙ (let a = sum_to f k in let b = f k in let e : min (all + next) (2 ^ 64 - 1) ≡ held (a + b) = omega arith in e) ∙ ap (λ z. held (sum_to f z)) (let e : suc k ≡ k + 1 = omega arith in e)

-- texts, piece by piece

pub four : (old a b c d w x y : List ℕ) → w ≡ old ++ a → x ≡ w ++ b → y ≡ x ++ c → y ++ d ≡ old ++ (a ++ (b ++ (c ++ d)))
four old a b c d w x y p q r = ap (λ z. z ++ d) (r ∙ ap (λ z. z ++ c) (q ∙ ap (λ z. z ++ b) p)) ∙ simp append_assoc

pub three : (old a b d w x : List ℕ) → w ≡ old ++ a → x ≡ w ++ b → x ++ d ≡ old ++ (a ++ (b ++ d))
three old a b d w x p q = ap (λ z. z ++ d) (q ∙ ap (λ z. z ++ b) p) ∙ simp append_assoc

-- a group's first item is one of its items
pub first_of : (l : Launch) → LaidOut l → (g : ℕ) → g < group_count l → (first_item l g < item_count l) × (group_of l (first_item l g) ≡ g)
first_of l laid g h = (laid.items g (first_item l g) h (laid.first g), laid.first g)
