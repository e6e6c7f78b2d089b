-- The barrier that conflicts between two stretches need.
use Rattle.std.proofs.Common.{◌≡◌, ◌↔◌, ◌≤◌, ℕ, Bool, true, false, Option, Some, None, MatchOption, is_some, List, refl, sym, subst, inl, inr}
use Rattle.std.specs.Option.{option_or}
use Rattle.std.specs.Prelude.{IfSome}
use Rattle.std.proofs.lemmas.Bool.{true≢false}
use Rattle.std.proofs.lemmas.Option.{same_Some, none-some}
use Rattle.barrier_placement.specs.declared.touches.Touch.{Touch}
use Rattle.barrier_placement.specs.declared.conflicts.Stretch.{Stretch}
use Rattle.barrier_placement.specs.declared.placing.Barrier.{Barrier}
use Rattle.barrier_placement.specs.Conflicts.{Space, Local, Global}
use Rattle.barrier_placement.specs.Fencing.{Fenced, orders}
use Rattle.barrier_placement.specs.Code.{Across, Parts, Closes, Finds, FindsLast}

module _ (touches : List Touch) (earlier later : Stretch) where
  -- what is known of a search for a conflict
  abbrev pub Searched : Space → Option (ℕ × ℕ) → Type 0
  Searched space found = MatchOption found ((p q : ℕ) → Across touches space earlier later p q → ⊥) (λ pair. Across touches space earlier later pair.0 pair.1)

  flag_of : (space : Space) (found : Option (ℕ × ℕ)) → Searched space found → (is_some found ≡ true) ↔ ((p q : ℕ) × Across touches space earlier later p q)
  flag_of space None none = (λ e. absurd (true≢false (sym e)), λ z. absurd (none z.0 z.1 z.2))
  flag_of space (Some pair) across = (λ e. (pair.0, pair.1, across), λ z. refl)

  pub neither : (on_local on_global : Option (ℕ × ℕ)) → None ≡ option_or on_local on_global → Searched Local on_local → Searched Global on_global → (space : Space) (p q : ℕ) → Across touches space earlier later p q → ⊥
  neither None None e a b Local p q across = a p q across
  neither None None e a b Global p q across = b p q across
  neither None (Some y) e a b space p q across = none-some y e
  neither (Some x) o e a b space p q across = none-some x e

  pair_of : (on_local on_global : Option (ℕ × ℕ)) (pair : ℕ × ℕ) → Some pair ≡ option_or on_local on_global → Searched Local on_local → Searched Global on_global → (space : Space) × Across touches space earlier later pair.0 pair.1
  pair_of None None pair e a b = absurd (none-some pair (sym e))
  pair_of None (Some y) pair e a b = (Global, subst (λ (z : ℕ × ℕ). Across touches Global earlier later z.0 z.1) (sym (same_Some pair y e)) b)
  pair_of (Some x) o pair e a b = (Local, subst (λ (z : ℕ × ℕ). Across touches Local earlier later z.0 z.1) (sym (same_Some pair x e)) a)

  pub parts_of : (before : Option ℕ) (on_local on_global : Option (ℕ × ℕ)) (local global : Bool) (pair : ℕ × ℕ) → local ≡ is_some on_local → global ≡ is_some on_global → Some pair ≡ option_or on_local on_global → Searched Local on_local → Searched Global on_global → Parts touches before earlier later (record { before = before; local = local; global = global; pair = pair })
  parts_of before on_local on_global local global pair l g e a b = record { place = refl; flags = flags; pair = pair_of on_local on_global pair e a b }
    where
      flags : (space : Space) → (orders space (Fenced local global) ≡ true) ↔ ((p q : ℕ) × Across touches space earlier later p q)
      flags Local = subst (λ x. (x ≡ true) ↔ ((p q : ℕ) × Across touches Local earlier later p q)) (sym l) (flag_of Local on_local a)
      flags Global = subst (λ x. (x ≡ true) ↔ ((p q : ℕ) × Across touches Global earlier later p q)) (sym g) (flag_of Global on_global b)

pub closes_as_found : (touches : List Touch) (earlier later : Stretch) (b : Barrier) → Parts touches None earlier later b → Closes touches earlier later b
closes_as_found touches earlier later b parts = record { place = parts.place; flags = parts.flags; pair = (parts.pair.0, inl parts.pair.1) }

pub closes_the_other_way : (touches : List Touch) (earlier later : Stretch) (b : Barrier) → Parts touches None earlier later b → Closes touches earlier later (record b { pair = (b.pair.1, b.pair.0) })
closes_the_other_way touches earlier later b parts = record { place = parts.place; flags = parts.flags; pair = (parts.pair.0, inr parts.pair.1) }

-- ---- a body of one turn at most, and one of more
pub no_last : (touches : List Touch) (once : Bool) (earlier later : Stretch) → once ≡ true → FindsLast touches once earlier later None
no_last touches once earlier later e = λ more. absurd (cc)

pub last_found : (touches : List Touch) (once : Bool) (earlier later : Stretch) (o : Option Barrier) → once ≡ false → Finds touches earlier later (Closes touches earlier later) o → IfSome o (λ b. b.pair.1 ≤ b.pair.0)
    → FindsLast touches once earlier later o
last_found touches once earlier later None e found later_first = λ more. found
last_found touches once earlier later (Some b) e found later_first = (e, found, later_first)
