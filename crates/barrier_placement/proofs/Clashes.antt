-- Uses that clash with one, and conflicts of a use's phase.
use Rattle.std.proofs.Common.{◌≡◌, ℕ, Bool, true, false, List, All, Contains, refl, sym, ap, ◌∙◌, subst, ⊎_elim, inl, inr}
use Rattle.std.specs.Prelude.{◌&&◌}
use Rattle.std.proofs.Math.Bool.{beq}
use Rattle.std.proofs.lemmas.Bool.{true≢false}
use Rattle.std.proofs.lemmas.List.Elements.{All-contains}
use Rattle.barrier_placement.specs.declared.touches.Touch.{Touch}
use Rattle.barrier_placement.specs.declared.conflicts.Stretch.{Stretch}
use Rattle.barrier_placement.specs.Conflicts.{Space, Clash, space_of, Conflict}
use Rattle.barrier_placement.specs.Code.{In, Across}

-- no use in the stretch clashes with this one
abbrev pub NoClash : Stretch → Touch → Touch → Type 0
NoClash phases touch x = In phases x.phase → Clash x touch → ⊥

-- in its phase, this use makes no conflict between the stretches
abbrev pub NoConflict : List Touch → Bool → Stretch → Stretch → Touch → Type 0
NoConflict touches local earlier later y = y.local ≡ local → In later y.phase → (x : Touch) → Contains touches x → In earlier x.phase → Clash x y → ⊥

same_space : (a b : Bool) → space_of a ≡ space_of b → a ≡ b
same_space true true e = refl
same_space true false e = cc
same_space false true e = cc
same_space false false e = refl

pub no_conflict : (touches : List Touch) (local : Bool) (earlier later : Stretch) → All (NoConflict touches local earlier later) touches → (p q : ℕ) → Across touches (space_of local) earlier later p q → ⊥
no_conflict touches local earlier later none p q a =
    let c = a.conflict in
    All-contains (NoConflict touches local earlier later) touches c.second none c.second_used
    (sym c.clash.one_space ∙ same_space c.first.local local c.lies_in)
    (subst (λ x. In later x) (sym c.second_phase) a.second_in)
    c.first
    c.first_used
    (subst (λ x. In earlier x) (sym c.first_phase) a.first_in)
    c.clash

-- what a read beside the uses would give
abbrev pub no_touch : Touch
no_touch = record { phase = 0; buffer = 0; writes = false; aligned = false; local = false }

pub unequal : (a b : Bool) → beq a b ≡ false → a ≡ b → ⊥
unequal true true e same = true≢false e
unequal true false e same = cc
unequal false true e same = cc
unequal false false e same = true≢false e

and_turned : (a b : Bool) → (a && b) ≡ false → (b && a) ≡ false
and_turned true b h = ap (λ x. x && true) h
and_turned false true h = refl
and_turned false false h = refl

pub conflict_turned : (touches : List Touch) (space : Space) (p q : ℕ) → Conflict touches space p q → Conflict touches space q p
conflict_turned touches space p q c = record {
  first = c.second;
  second = c.first;
  first_used = c.second_used;
  second_used = c.first_used;
  first_phase = c.second_phase;
  second_phase = c.first_phase;
  lies_in = ap space_of (sym c.clash.one_space) ∙ c.lies_in;
  clash = record {
    one_space = sym c.clash.one_space;
    one_buffer = sym c.clash.one_buffer;
    one_writes = ⊎_elim (λ a. inr a) (λ b. inl b) c.clash.one_writes;
    not_aligned = and_turned c.first.aligned c.second.aligned c.clash.not_aligned;
  };
}
