-- The needed barriers hang on which uses there are, not on how often or in which order they are
-- told.
use Rattle.std.proofs.Common.{◌≡◌, ℕ, List, sym, Bool, true, true≢false}
use Rattle.std.specs.Prelude.{All, Contains, ◌&&◌}
use Rattle.std.proofs.lemmas.Bool.{both_ways, and_from}
use Rattle.std.proofs.lemmas.List.Elements.{All-contains}
use Rattle.barrier_placement.specs.declared.touches.Touch.{Touch}
use Rattle.barrier_placement.specs.Conflicts.{Space, Conflict}
use Rattle.barrier_placement.specs.Fencing.{Fencing}
use Rattle.barrier_placement.specs.Needed.{NeedsBefore, NeedsClosing}
use Rattle.group_form.specs.Theorem.{UsesTellBarriers, AlignedNeedNone}

conflict_too : (xs ys : List Touch) (space : Space) (p q : ℕ) → ((x : Touch) → Contains xs x → Contains ys x) → Conflict xs space p q → Conflict ys space p q
conflict_too xs ys space p q f c = record { first = c.first; second = c.second; first_used = f c.first c.first_used; second_used = f c.second c.second_used; first_phase = c.first_phase; second_phase = c.second_phase; lies_in = c.lies_in; clash = c.clash }

before_too : (xs ys : List Touch) (fence : ℕ → Fencing) (space : Space) (p q : ℕ) → ((x : Touch) → Contains xs x → Contains ys x) → NeedsBefore xs fence space p q → NeedsBefore ys fence space p q
before_too xs ys fence space p q f c = record { earlier = c.earlier; since_barrier = c.since_barrier; conflict = conflict_too xs ys space p q f c.conflict }

closing_too : (xs ys : List Touch) (once : Bool) (n : ℕ) (fence : ℕ → Fencing) (space : Space) (p q : ℕ) → ((x : Touch) → Contains xs x → Contains ys x) → NeedsClosing xs once n fence space p q → NeedsClosing ys once n fence space p q
closing_too xs ys once n fence space p q f c = record { again = c.again; first_within = c.first_within; second_within = c.second_within; after_last = c.after_last; before_first = c.before_first; conflict = conflict_too xs ys space p q f c.conflict }

pub needed_too : UsesTellBarriers
needed_too xs ys once n fence f g h = record {
  before = λ space q lt. (λ e. let z = (h.before space q lt).0 e in (z.0, before_too xs ys fence space z.0 q f z.1), λ z. (h.before space q lt).1 (z.0, before_too ys xs fence space z.0 q g z.1));
  closing = λ space. (λ e. let z = (h.closing space).0 e in (z.0, z.1, closing_too xs ys once n fence space z.0 z.1 f z.2), λ z. (h.closing space).1 (z.0, z.1, closing_too ys xs once n fence space z.0 z.1 g z.2));
  flagged = h.flagged;
}

no_conflict : {P : Type 0} → (touches : List Touch) → All (λ x. x.aligned ≡ true) touches → (space : Space) (p q : ℕ) → Conflict touches space p q → P
no_conflict touches h space p q c =
    let one = All-contains (λ x. x.aligned ≡ true) touches c.first h c.first_used in
    let two = All-contains (λ x. x.aligned ≡ true) touches c.second h c.second_used in
    absurd (both_ways (c.first.aligned && c.second.aligned) c.clash.not_aligned (and_from c.first.aligned c.second.aligned one two))

pub aligned_need_none : AlignedNeedNone
aligned_need_none touches once n h = record {
  before = λ space q lt. (λ e. absurd (true≢false (sym e)), λ z. no_conflict touches h space z.0 q z.1.conflict);
  closing = λ space. (λ e. absurd (true≢false (sym e)), λ z. no_conflict touches h space z.0 z.1 z.2.conflict);
  flagged = λ q le e. absurd (true≢false (sym e));
}
