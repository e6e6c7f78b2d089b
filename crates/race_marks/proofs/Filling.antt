-- Lists that are written only as far as they were used.
use Rattle.std.proofs.Common.{◌≡◌, ℕ, ◌+◌, ◌-◌, ◌<◌, ◌≤◌, ◌++◌, List, length, take, set, replicate, refl, sym, ap, ◌∙◌, arith, length-append, append_assoc}
use Rattle.std.specs.Prelude.{Bool, true, false, slice_index_or, if◌then◌else◌}
use Rattle.std.proofs.Math.ListN.{length-set}
use Rattle.std.proofs.lemmas.List.{length-replicate, get_or_append_left, get_or-append_right, get_or-replicate, set-append_left, replicate-append-replicate, take_all}
use Rattle.race_marks.specs.Filled.{filled}

module _ {A : Type 0} (xs : List A) (n : ℕ) (x : A) where
  pub length_filled : length xs ≤ n → length (filled xs n x) ≡ n
  length_filled le = length-append xs (replicate (n - length xs) x) ∙ ap (λ k. length xs + k) (length-replicate (n - length xs) x) ∙ omega arith

  pub read_written : (p : ℕ) (d : A) → p < length xs → slice_index_or (filled xs n x) p d ≡ slice_index_or xs p d
  read_written p d lt = get_or_append_left xs (replicate (n - length xs) x) d p lt

  pub read_beyond : (p : ℕ) (d : A) → length xs ≤ p → p < n → slice_index_or (filled xs n x) p d ≡ x
  read_beyond p d le lt =
      get_or-append_right xs (replicate (n - length xs) x) (length xs) p d refl le
      ∙ get_or-replicate (n - length xs) (p - length xs) x d (omega arith)

  pub set_written : (p : ℕ) (y : A) → p < length xs → filled (set xs p y) n x ≡ set (filled xs n x) p y
  set_written p y lt = ap (λ k. set xs p y ++ replicate (n - k) x) (length-set xs p y) ∙ sym (set-append_left xs (replicate (n - length xs) x) p y lt)

  -- written further, it is the same
  pub filled_on : (m : ℕ) → length xs ≤ m → m ≤ n → filled (xs ++ replicate (m - length xs) x) n x ≡ filled xs n x
  filled_on m le far =
      let more = replicate (m - length xs) x in
      ap (λ k. (xs ++ more) ++ replicate (n - k) x) (length-append xs more ∙ ap (λ k. length xs + k) (length-replicate (m - length xs) x))
      ∙ append_assoc xs more (replicate (n - (length xs + (m - length xs))) x)
      ∙ ap (λ ys. xs ++ ys) (replicate-append-replicate (m - length xs) (n - (length xs + (m - length xs))) x
      ∙ ap (λ k. replicate k x) (omega arith))

-- written up to e, where there was memory
pub resized : {A : Type 0} (xs ys : List A) (n : ℕ) (x : A) (e len : ℕ) (done : Bool) → len ≡ length xs → length xs ≤ e → e ≤ n → ys ≡ (if done then take e xs ++ replicate (e - len) x else xs) → filled ys n x ≡ filled xs n x
resized xs ys n x e len false long le far is = ap (λ zs. filled zs n x) is
resized xs ys n x e len true long le far is =
    ap (λ zs. filled zs n x) (is ∙ ap (λ zs. zs ++ replicate (e - len) x) (take_all e xs le) ∙ ap (λ k. xs ++ replicate (e - k) x) long)
    ∙ filled_on xs n x e le far
