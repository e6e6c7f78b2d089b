-- Lets and maps, of the parts' held counts.
use Rattle.std.proofs.Common.{◌≡◌, ℕ, ◌+◌, ◌-◌, ◌*◌, ◌^◌, ap, ◌∙◌}
use Rattle.std.specs.Prelude.{min}
use Rattle.kernel_tree.specs.Formula.{Ids}
use Rattle.lift_ir.specs.Terms.{LoadSet, Kind, Term, LetArray, Map, push}
use Rattle.term_traffic.specs.Regions.{Region, Regions, regions_of, regions_left}
use Rattle.term_traffic.specs.Traffic.{turns_of, loads_in, argument_traffic, written_traffic}
use Rattle.item_traffic.specs.Counts.{held}
use Rattle.item_traffic.proofs.Held.{added, times}

module _ {A : Type 0} (load store : Region → ℕ) (num : A → ℕ) (ids : Ids) (env : ℕ → Regions) where
  pub argument_let : (v b v1 v2 b1 : Term A) (r x y : ℕ) → v1 ≡ v → v2 ≡ v → b1 ≡ b → r ≡ min (x + y) (2 ^ 64 - 1) → x ≡ held (argument_traffic load store num ids env v1)
      → y ≡ held (argument_traffic load store num ids (push (regions_of env v2) env) b1) → r ≡ held (argument_traffic load store num ids env (LetArray v b))
  argument_let v b v1 v2 b1 r x y e f g p q s =
      added r x y (argument_traffic load store num ids env v) (argument_traffic load store num ids (push (regions_of env v) env) b) p (q ∙ ap (λ z. held (argument_traffic load store num ids env z)) e)
      (s ∙ ap (λ z. held (argument_traffic load store num ids (push (regions_of env z) env) b1)) f ∙ ap (λ z. held (argument_traffic load store num ids (push (regions_of env v) env) z)) g)

  pub written_let : (v b v1 v2 b1 : Term A) (w : Regions) (r x y : ℕ) → v1 ≡ v → v2 ≡ v → b1 ≡ b → r ≡ min (x + y) (2 ^ 64 - 1) → x ≡ held (argument_traffic load store num ids env v1)
      → y ≡ held (written_traffic load store num ids (push (regions_of env v2) env) b1 w) → r ≡ held (written_traffic load store num ids env (LetArray v b) w)
  written_let v b v1 v2 b1 w r x y e f g p q s =
      added r x y (argument_traffic load store num ids env v) (written_traffic load store num ids (push (regions_of env v) env) b w) p (q ∙ ap (λ z. held (argument_traffic load store num ids env z)) e)
      (s ∙ ap (λ z. held (written_traffic load store num ids (push (regions_of env z) env) b1 w)) f ∙ ap (λ z. held (written_traffic load store num ids (push (regions_of env v) env) z w)) g)

  pub written_map : (kind : Kind) (n : A) (loads : LoadSet) (xs b : Term A) (w : Regions) (r a m t u l y : ℕ) → r ≡ min (a + m) (2 ^ 64 - 1) → m ≡ min (t * u) (2 ^ 64 - 1) → u ≡ min (l + y) (2 ^ 64 - 1)
      → a ≡ held (argument_traffic load store num ids env xs) → t ≡ turns_of ids kind (num n) → l ≡ held (loads_in load loads (regions_of env xs)) → y ≡ held (written_traffic load store num ids (push (regions_left loads (regions_of env xs)) env) b w)
      → r ≡ held (written_traffic load store num ids env (Map kind n loads xs b) w)
  written_map kind n loads xs b w r a m t u l y p q s ea et el ey =
      let turn = added u l y (loads_in load loads (regions_of env xs)) (written_traffic load store num ids (push (regions_left loads (regions_of env xs)) env) b w) s el ey in
      let all = times m t u (loads_in load loads (regions_of env xs) + written_traffic load store num ids (push (regions_left loads (regions_of env xs)) env) b w) q turn in
      added r a m (argument_traffic load store num ids env xs) (turns_of ids kind (num n) * (loads_in load loads (regions_of env xs) + written_traffic load store num ids (push (regions_left loads (regions_of env xs)) env) b w)) p ea
      (all ∙ ap (λ z. held (z * (loads_in load loads (regions_of env xs) + written_traffic load store num ids (push (regions_left loads (regions_of env xs)) env) b w))) et)
