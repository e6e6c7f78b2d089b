-- The declared sizes that a launch file gives, and the values of their base names.
use Rattle.std.proofs.Common.{◌≡◌, ◌∙◌, ℕ, zero, suc, ◌*◌, ◌/◌, ◌%◌, ◌<◌, ◌≤◌, List, [], ◌∷◌, length, get_or, refl, sym, ap, subst, arith}
use Rattle.std.specs.Prelude.{map, IsTrue, nat_le, ◌==◌}
use Rattle.std.proofs.lemmas.Nat.{div-mul-add, mod-mul-add, div-add-mod'}
use Rattle.size_arith.specs.Ranges.{AreNames, IsName, Admissible, sizes_at}
use Rattle.lift_tree.specs.declared.program.Size.{Size}
use Rattle.lift_tree.specs.WorkedOut.{range_of}
use Rattle.launch_file.specs.Judged.{AreInRange, bases_of, is_in_range}
use Rattle.launch_file.proofs.Options.{and_parts, and_both, le_of, le_to, eq_of, eq_to}

pub name_at : (ss : List Size) (i : ℕ) (d : Size) → AreNames (map range_of ss) → i < length ss → IsName (range_of (get_or ss i d))
name_at [] i d h l = absurd (omega arith)
name_at (s ∷ ss) zero d h l = h.0
name_at (s ∷ ss) (suc i) d h l = name_at ss i d h.1 (omega arith)

pub no_base : (ss : List Size) (ns : List ℕ) → length ns ≡ 0 → bases_of ss ns ≡ []
no_base [] ns h = refl
no_base (s ∷ ss) [] h = refl
no_base (s ∷ ss) (n ∷ ns) h = absurd (omega arith)

pub no_size : (ss : List Size) (ns : List ℕ) → length ss ≡ 0 → bases_of ss ns ≡ []
no_size [] ns h = refl
no_size (s ∷ ss) ns h = absurd (omega arith)

pub ruleset no_bases = (no_base, no_size)

pub record LiesIn (s : Size) (n : ℕ) : Type 0 where
  pub least : s.from ≤ n
  pub most : n ≤ s.to
  pub divides : n % s.multiple ≡ 0

pub in_range_of : (s : Size) (n : ℕ) → IsTrue (is_in_range s n) → LiesIn s n
in_range_of s n h =
    let a = and_parts (nat_le s.from n) _ h in
    let b = and_parts (nat_le n s.to) _ a.1 in
    record { least = le_of s.from n a.0; most = le_of n s.to b.0; divides = eq_of (n % s.multiple) 0 b.1 }

pub in_range_to : (s : Size) (n : ℕ) → LiesIn s n → IsTrue (is_in_range s n)
in_range_to s n h =
    and_both (nat_le s.from n) _ (le_to s.from n h.least) (and_both (nat_le n s.to) (n % s.multiple == 0) (le_to n s.to h.most) (eq_to (n % s.multiple) 0 h.divides))

-- ---- a size is so many times its base name's value
whole_times : (n m : ℕ) → n % m ≡ 0 → m * (n / m) ≡ n
whole_times n m h = let e = div-add-mod' n m in omega (arith, e, h)

times_over : (y m : ℕ) → 1 ≤ m → (m * y) / m ≡ y
times_over y m h = let e = div-mul-add y m 0 (omega (arith, h)) in ap (λ k. k / m) (omega arith) ∙ e

times_rest : (y m : ℕ) → 1 ≤ m → (m * y) % m ≡ 0
times_rest y m h = let e = mod-mul-add y m 0 (omega (arith, h)) in ap (λ k. k % m) (omega arith) ∙ e

pub sizes-bases : (ss : List Size) (ns : List ℕ) → AreInRange ss ns → ns ≡ sizes_at (map range_of ss) (bases_of ss ns)
sizes-bases [] [] h = refl
sizes-bases [] (n ∷ ns) h = absurd h
sizes-bases (s ∷ ss) [] h = absurd h
sizes-bases (s ∷ ss) (n ∷ ns) h =
    let e = whole_times n s.multiple (in_range_of s n h.0).divides in
    ap (λ k. k ∷ ns) (sym e) ∙ ap (λ ks. s.multiple * (n / s.multiple) ∷ ks) (sizes-bases ss ns h.1)

pub admissible_bases : (ss : List Size) (ns : List ℕ) → AreInRange ss ns → Admissible (map range_of ss) (bases_of ss ns)
admissible_bases [] [] h = tt
admissible_bases [] (n ∷ ns) h = absurd h
admissible_bases (s ∷ ss) [] h = absurd h
admissible_bases (s ∷ ss) (n ∷ ns) h =
    let r = in_range_of s n h.0 in
    let e = whole_times n s.multiple r.divides in
    ((subst (λ k. s.from ≤ k) (sym e) r.least, subst (λ k. k ≤ s.to) (sym e) r.most), admissible_bases ss ns h.1)

pub bases-sizes : (ss : List Size) (ys : List ℕ) → AreNames (map range_of ss) → Admissible (map range_of ss) ys → bases_of ss (sizes_at (map range_of ss) ys) ≡ ys
bases-sizes [] [] a h = refl
bases-sizes [] (y ∷ ys) a h = absurd h
bases-sizes (s ∷ ss) [] a h = absurd h
bases-sizes (s ∷ ss) (y ∷ ys) a h = ap (λ k. k ∷ bases_of ss (sizes_at (map range_of ss) ys)) (times_over y s.multiple a.0.positive) ∙ ap (λ ks. y ∷ ks) (bases-sizes ss ys a.1 h.1)

pub sizes_in_range : (ss : List Size) (ys : List ℕ) → AreNames (map range_of ss) → Admissible (map range_of ss) ys → AreInRange ss (sizes_at (map range_of ss) ys)
sizes_in_range [] [] a h = tt
sizes_in_range [] (y ∷ ys) a h = absurd h
sizes_in_range (s ∷ ss) [] a h = absurd h
sizes_in_range (s ∷ ss) (y ∷ ys) a h =
    (in_range_to s (s.multiple * y) (record { least = h.0.0; most = h.0.1; divides = times_rest y s.multiple a.0.positive }), sizes_in_range ss ys a.1 h.1)
