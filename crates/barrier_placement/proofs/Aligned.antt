-- Uses that are all aligned.
use Rattle.std.proofs.Common.{◌≡◌, ℕ, Bool, true, false, List, [], All, sym, ap, ◌∙◌}
use Rattle.std.specs.Prelude.{◌&&◌}
use Rattle.std.proofs.lemmas.Bool.{true≢false}
use Rattle.std.proofs.lemmas.List.Elements.{All-contains}
use Rattle.barrier_placement.specs.declared.touches.Touch.{Touch}
use Rattle.barrier_placement.specs.declared.placing.Barrier.{Barrier}
use Rattle.barrier_placement.specs.Conflicts.{Space, Conflict}
use Rattle.barrier_placement.specs.Fencing.{fence, orders, stands}
use Rattle.barrier_placement.specs.Needed.{Needed}

abbrev IsAligned : Touch → Type 0
IsAligned x = x.aligned ≡ true

module _ (touches : List Touch) (aligned : All IsAligned touches) where
  no_conflict : (space : Space) (p q : ℕ) → Conflict touches space p q → ⊥
  no_conflict space p q c =
      let one = All-contains IsAligned touches c.first aligned c.first_used in
      let two = All-contains IsAligned touches c.second aligned c.second_used in
      true≢false (sym (ap (λ b. b && c.second.aligned) one ∙ two) ∙ c.clash.not_aligned)

  -- they need no barrier
  pub none_needed : (once : Bool) (n : ℕ) (barriers : List Barrier) → barriers ≡ [] → Needed touches once n (fence n barriers)
  none_needed once n barriers none = record {
    before = λ space q lt. (λ e. absurd (opened space q e), λ w. absurd (no_conflict space w.0 q w.1.conflict));
    closing = λ space. (λ e. absurd (opened space n e), λ w. absurd (no_conflict space w.0 w.1 w.2.conflict));
    flagged = λ q le e. absurd (true≢false (sym e ∙ ap (λ bs. stands (fence n bs q)) none));
  }
    where
      opened : (space : Space) (q : ℕ) → orders space (fence n barriers q) ≡ true → ⊥
      opened space q e = true≢false (sym e ∙ ap (λ bs. orders space (fence n bs q)) none)
