-- Going forward through the phases: what stands where the first q are done.
use Rattle.std.proofs.Common.{◌≡◌, ◌↔◌, ℕ, ◌+◌, ◌<◌, ◌≤◌, min, Bool, true, false, Option, Some, None, IsSomeAnd, List, [], ◌∷◌, ◌++◌, get_or, All, AllPairs, refl, sym, ap, ◌∙◌, subst, ⊎_elim, arith}
use Rattle.std.specs.Prelude.{unwrap_or, IfSome}
use Rattle.std.proofs.lemmas.Bool.{cases_lt, true≢false}
use Rattle.std.proofs.lemmas.List.Elements.{All-push}
use Rattle.std.proofs.lemmas.List.Quantifiers.{all_pairs_push}
use Rattle.barrier_placement.specs.declared.touches.Touch.{Touch}
use Rattle.barrier_placement.specs.declared.placing.Barrier.{Barrier}
use Rattle.barrier_placement.specs.Conflicts.{Space, Conflict}
use Rattle.barrier_placement.specs.Fencing.{Fencing, Open, Fenced, stands, orders, fencing_of, place_of, fence, InOrder}
use Rattle.barrier_placement.specs.Needed.{NeedsBefore, NeedsClosing, Needed, NeededBy}
use Rattle.barrier_placement.specs.Code.{stretch, Across, Parts, Closes}
use Rattle.barrier_placement.proofs.Clashes.{conflict_turned}
use Rattle.barrier_placement.proofs.Determined.{needs_before}
use Rattle.barrier_placement.proofs.Listing.{NoneAt, fence_none, fence_besides, fence_added}

-- what stands before the first q of n phases is as it is needed; first and last tell where the
-- first and the last of these barriers stand
pub record Done (touches : List Touch) (n q first last : ℕ) (fencing : ℕ → Fencing) : Type 0 where
  pub before : (space : Space) (r : ℕ) → r < q → (orders space (fencing r) ≡ true) ↔ ((p : ℕ) × NeedsBefore touches fencing space p r)
  pub flagged : (r : ℕ) → r < q → stands (fencing r) ≡ true → (space : Space) × (orders space (fencing r) ≡ true)
  pub last_below : last < q
  pub last_stands : 0 < last → stands (fencing last) ≡ true
  pub after_last : (r : ℕ) → last < r → r < q → stands (fencing r) ≡ false
  pub first_most : first ≤ n
  pub first_below : first < n → first < q
  pub first_stands : first < n → stands (fencing first) ≡ true
  pub before_first : (r : ℕ) → r < first → r < q → stands (fencing r) ≡ false

abbrev pub EarlyAt : ℕ → Barrier → Type 0
EarlyAt q b = IsSomeAnd b.before (λ r. r < q)

abbrev pub Follows : ℕ → Barrier → Barrier → Type 0
Follows n a b = place_of n a < place_of n b

abbrev pub HasPair : List Touch → Bool → ℕ → (ℕ → Fencing) → Barrier → Type 0
HasPair touches once n fencing b = NeededBy touches once n fencing b.before b.pair

-- the barriers so far stand before earlier phases, in order, each with a pair
pub record Listed (touches : List Touch) (once : Bool) (n q : ℕ) (fencing : ℕ → Fencing) (barriers : List Barrier) : Type 0 where
  pub early : All (EarlyAt q) barriers
  pub in_order : AllPairs (Follows n) barriers
  pub pairs : All (HasPair touches once n fencing) barriers

-- ---- the start
pub at_start : (touches : List Touch) (n : ℕ) → 1 ≤ n → Done touches n 1 n 0 (fence n [])
at_start touches n some = record {
  before = λ space r lt. (λ e. absurd (true≢false (sym e)), λ z. let k = z.1.earlier in absurd (omega arith));
  flagged = λ r lt e. absurd (true≢false (sym e));
  last_below = omega arith;
  last_stands = λ lt. absurd (omega arith);
  after_last = λ r low high. refl;
  first_most = omega arith;
  first_below = λ lt. absurd (omega arith);
  first_stands = λ lt. absurd (omega arith);
  before_first = λ r low high. refl;
}

pub none_listed : (touches : List Touch) (once : Bool) (n : ℕ) → Listed touches once n 1 (fence n []) []
none_listed touches once n = record {
  early = λ k d lt. absurd (omega arith);
  in_order = λ i j d lt within. absurd (omega arith);
  pairs = λ k d lt. absurd (omega arith);
}

-- ---- one more phase
module _ (touches : List Touch) (n q first last : ℕ) (f g : ℕ → Fencing) (done : Done touches n q first last f) (same : (r : ℕ) → r < q → f r ≡ g r) where
  since_last : (p : ℕ) → last ≤ p → (r : ℕ) → p < r → r < q → stands (g r) ≡ false
  since_last p le r low high = ap stands (sym (same r high)) ∙ done.after_last r (omega arith) high

  last_since : (p : ℕ) → ((r : ℕ) → p < r → r < q → stands (g r) ≡ false) → last ≤ p
  last_since p none =
      ⊎_elim
      (λ lt. let k = done.last_below in absurd (true≢false (sym (ap stands (sym (same last k)) ∙ done.last_stands (omega arith)) ∙ none last lt k)))
      (λ ge. ge)
      (cases_lt p last)

  before_kept : (space : Space) (r : ℕ) → r < q → (orders space (g r) ≡ true) ↔ ((p : ℕ) × NeedsBefore touches g space p r)
  before_kept space r lt = (
    λ e. let z = (done.before space r lt).0 (ap (orders space) (same r lt) ∙ e) in (z.0, needs_before touches f g space z.0 r (λ x h. same x (omega arith)) z.1),
    λ z. ap (orders space) (sym (same r lt)) ∙ (done.before space r lt).1 (z.0, needs_before touches g f space z.0 r (λ x h. sym (same x (omega arith))) z.1),
  )

  flagged_kept : (r : ℕ) → r < q → stands (g r) ≡ true → (space : Space) × (orders space (g r) ≡ true)
  flagged_kept r lt e = let z = done.flagged r lt (ap stands (same r lt) ∙ e) in (z.0, ap (orders z.0) (sym (same r lt)) ∙ z.1)

  -- the flags at phase q are those of the conflicts of the phases since the last barrier with it
  module _ (flags : (space : Space) → (orders space (g q) ≡ true) ↔ ((p r : ℕ) × Across touches space (stretch last q) (stretch q (q + 1)) p r)) where
    needed_here : (space : Space) → (orders space (g q) ≡ true) ↔ ((p : ℕ) × NeedsBefore touches g space p q)
    needed_here space = (
      λ e. let z = (flags space).0 e in (z.0, needs space z.0 z.1 z.2),
      λ z. (flags space).1 (z.0, q, record { first_in = (last_since z.0 z.1.since_barrier, z.1.earlier); second_in = (omega arith, omega arith); conflict = z.1.conflict }),
    )
      where
        needs : (s : Space) (p r : ℕ) → Across touches s (stretch last q) (stretch q (q + 1)) p r → NeedsBefore touches g s p q
        needs s p r a =
            let low = a.second_in.0 in
            let high = a.second_in.1 in
            let at : r ≡ q = omega arith in
            record { earlier = a.first_in.1; since_barrier = since_last p a.first_in.0; conflict = subst (λ x. Conflict touches s p x) at a.conflict }

    before_more : (space : Space) (r : ℕ) → r < q + 1 → (orders space (g r) ≡ true) ↔ ((p : ℕ) × NeedsBefore touches g space p r)
    before_more space r lt =
        ⊎_elim
        (λ low. before_kept space r low)
        (λ high. let at : r ≡ q = omega arith in subst (λ x. (orders space (g x) ≡ true) ↔ ((p : ℕ) × NeedsBefore touches g space p x)) (sym at) (needed_here space))
        (cases_lt r q)

    flagged_more : (stands (g q) ≡ true → (space : Space) × (orders space (g q) ≡ true)) → (r : ℕ) → r < q + 1 → stands (g r) ≡ true → (space : Space) × (orders space (g r) ≡ true)
    flagged_more here r lt e =
        ⊎_elim
        (λ low. flagged_kept r low e)
        (λ high. let at : r ≡ q = omega arith in subst (λ x. (space : Space) × (orders space (g x) ≡ true)) (sym at) (here (subst (λ x. stands (g x) ≡ true) at e)))
        (cases_lt r q)

    -- no barrier
    pub passed_open : g q ≡ Open → Done touches n (q + 1) first last g
    passed_open e = record {
      before = before_more;
      flagged = flagged_more (λ s. absurd (true≢false (sym s ∙ ap stands e)));
      last_below = let k = done.last_below in omega arith;
      last_stands = λ lt. ap stands (sym (same last done.last_below)) ∙ done.last_stands lt;
      after_last = λ r low high. ⊎_elim (λ below. ap stands (sym (same r below)) ∙ done.after_last r low below) (λ past. let at : r ≡ q = omega arith in ap (λ x. stands (g x)) at ∙ ap stands e) (cases_lt r q);
      first_most = done.first_most;
      first_below = λ lt. let k = done.first_below lt in omega arith;
      first_stands = λ lt. ap stands (sym (same first (done.first_below lt))) ∙ done.first_stands lt;
      before_first = λ r low high. ⊎_elim (λ below. ap stands (sym (same r below)) ∙ done.before_first r low below) (λ past. let at : r ≡ q = omega arith in ap (λ x. stands (g x)) at ∙ ap stands e) (cases_lt r q);
    }

    -- a barrier
    pub passed_fenced : (a b : Bool) → g q ≡ Fenced a b → 0 < q → q < n → (space : Space) × (orders space (g q) ≡ true) → (new_first : ℕ) → new_first ≡ min first q → Done touches n (q + 1) new_first q g
    passed_fenced a b e positive within flag new_first least = record {
      before = before_more;
      flagged = flagged_more (λ s. flag);
      last_below = omega arith;
      last_stands = λ lt. ap stands e;
      after_last = λ r low high. absurd (omega arith);
      first_most = omega arith;
      first_below = λ lt. omega arith;
      first_stands = λ lt. ⊎_elim
          (λ early. let at : new_first ≡ first = omega arith in ap (λ x. stands (g x)) at ∙ ap stands (sym (same first early)) ∙ done.first_stands (omega arith))
          (λ late. let at : new_first ≡ q = omega arith in ap (λ x. stands (g x)) at ∙ ap stands e)
          (cases_lt first q);
      before_first = λ r low high. ap stands (sym (same r (omega arith))) ∙ done.before_first r (omega arith) (omega arith);
    }

-- ---- the list
kept_pair : (touches : List Touch) (once : Bool) (n q : ℕ) (f g : ℕ → Fencing) → ((r : ℕ) → r < q → f r ≡ g r) → (o : Option ℕ) (pair : ℕ × ℕ) → IsSomeAnd o (λ r. r < q) → NeededBy touches once n f o pair → NeededBy touches once n g o pair
kept_pair touches once n q f g same None pair early h = absurd early
kept_pair touches once n q f g same (Some r) pair early h = (h.0, (h.1.0, needs_before touches f g h.1.0 pair.0 r (λ x lt. same x (omega arith)) h.1.1))

early_place : (n q : ℕ) (o : Option ℕ) → IsSomeAnd o (λ r. r < q) → unwrap_or o n < q
early_place n q None early = absurd early
early_place n q (Some r) early = early

early_more : (q : ℕ) (o : Option ℕ) → IsSomeAnd o (λ r. r < q) → IsSomeAnd o (λ r. r < q + 1)
early_more q None early = absurd early
early_more q (Some r) early = omega arith

module _ (touches : List Touch) (once : Bool) (n q : ℕ) (f g : ℕ → Fencing) (bs : List Barrier) (listed : Listed touches once n q f bs) (same : (r : ℕ) → r < q → f r ≡ g r) where
  pub none_here : (r : ℕ) → q ≤ r → NoneAt n bs r
  none_here r le k d lt e = let l : place_of n (get_or bs k d) < q = early_place n q (get_or bs k d).before (listed.early k d lt) in omega arith

  pairs_kept : All (HasPair touches once n g) bs
  pairs_kept k d lt = let b = get_or bs k d in kept_pair touches once n q f g same b.before b.pair (listed.early k d lt) (listed.pairs k d lt)

  pub listed_on : Listed touches once n (q + 1) g bs
  listed_on = record {
    early = λ k d lt. early_more q (get_or bs k d).before (listed.early k d lt);
    in_order = listed.in_order;
    pairs = pairs_kept;
  }

  in_order_more : (b : Barrier) → q ≤ place_of n b → AllPairs (Follows n) (bs ++ b ∷ [])
  in_order_more b le = all_pairs_push (Follows n) bs b listed.in_order (λ k d lt. let l : place_of n (get_or bs k d) < q = early_place n q (get_or bs k d).before (listed.early k d lt) in omega arith)

  pub listed_more : (b : Barrier) → b.before ≡ Some q → q ≤ place_of n b → HasPair touches once n g b → Listed touches once n (q + 1) g (bs ++ b ∷ [])
  listed_more b e le pair = record {
    early = All-push (EarlyAt (q + 1)) bs b (λ k d lt. early_more q (get_or bs k d).before (listed.early k d lt)) (subst (λ o. IsSomeAnd o (λ r. r < q + 1)) (sym e) (omega arith));
    in_order = in_order_more b le;
    pairs = All-push (HasPair touches once n g) bs b pairs_kept pair;
  }

within_phases : (n q : ℕ) → q ≤ n → (o : Option ℕ) → IsSomeAnd o (λ r. r < q) → IfSome o (λ r. r < n)
within_phases n q le None early = absurd early
within_phases n q le (Some r) early = omega arith

-- ---- a phase with a barrier, and one without
module _ (touches : List Touch) (once : Bool) (n q first last : ℕ) (bs : List Barrier) (done : Done touches n q first last (fence n bs)) (listed : Listed touches once n q (fence n bs) bs) where
  open_here : fence n bs q ≡ Open
  open_here = fence_none n bs q (none_here touches once n q (fence n bs) (fence n bs) bs listed (λ r lt. refl) q (omega arith))

  pub without : ((space : Space) (p r : ℕ) → Across touches space (stretch last q) (stretch q (q + 1)) p r → ⊥) → Done touches n (q + 1) first last (fence n bs) × Listed touches once n (q + 1) (fence n bs) bs
  without none = (
    passed_open touches n q first last (fence n bs) (fence n bs) done (λ r lt. refl) (λ space. (λ e. absurd (true≢false (sym e ∙ ap (orders space) open_here)), λ z. absurd (none space z.0 z.1 z.2))) open_here,
    listed_on touches once n q (fence n bs) (fence n bs) bs listed (λ r lt. refl),
  )

  module _ (b : Barrier) (parts : Parts touches (Some q) (stretch last q) (stretch q (q + 1)) b) (positive : 0 < q) (within : q < n) where
    at : place_of n b ≡ q
    at = ap (λ o. unwrap_or o n) parts.place

    same : (r : ℕ) → r < q → fence n bs r ≡ fence n (bs ++ b ∷ []) r
    same r lt = sym (fence_besides n bs b r (λ e. let k = at in omega arith))

    here : fence n (bs ++ b ∷ []) q ≡ fencing_of b
    here = fence_added n bs b q (none_here touches once n q (fence n bs) (fence n bs) bs listed (λ r lt. refl) q (omega arith)) at

    flags : (space : Space) → (orders space (fence n (bs ++ b ∷ []) q) ≡ true) ↔ ((p r : ℕ) × Across touches space (stretch last q) (stretch q (q + 1)) p r)
    flags space = subst (λ x. (orders space x ≡ true) ↔ ((p r : ℕ) × Across touches space (stretch last q) (stretch q (q + 1)) p r)) (sym here) (parts.flags space)

    flag : (space : Space) × (orders space (fence n (bs ++ b ∷ []) q) ≡ true)
    flag = (parts.pair.0, (flags parts.pair.0).1 (b.pair.0, b.pair.1, parts.pair.1))

    pair : HasPair touches once n (fence n (bs ++ b ∷ [])) b
    pair =
        let a = parts.pair.1 in
        let low = a.second_in.0 in
        let high = a.second_in.1 in
        let second : b.pair.1 ≡ q = omega arith in
        subst (λ o. NeededBy touches once n (fence n (bs ++ b ∷ [])) o b.pair) (sym parts.place) (
          second,
          (
            parts.pair.0,
            record {
              earlier = a.first_in.1;
              since_barrier = since_last touches n q first last (fence n bs) (fence n (bs ++ b ∷ [])) done same b.pair.0 a.first_in.0;
              conflict = subst (λ x. Conflict touches parts.pair.0 b.pair.0 x) second a.conflict;
            },
          ),
        )

    pub with : (new_first : ℕ) → new_first ≡ min first q → Done touches n (q + 1) new_first q (fence n (bs ++ b ∷ [])) × Listed touches once n (q + 1) (fence n (bs ++ b ∷ [])) (bs ++ b ∷ [])
    with new_first least = (
      passed_fenced touches n q first last (fence n bs) (fence n (bs ++ b ∷ [])) done same flags b.local b.global here positive within flag new_first least,
      listed_more touches once n q (fence n bs) (fence n (bs ++ b ∷ [])) bs listed same b parts.place (let k = at in omega arith) pair,
    )

-- ---- the end
module _ (touches : List Touch) (once : Bool) (n first last : ℕ) (f g : ℕ → Fencing) (done : Done touches n n first last f) (same : (r : ℕ) → r < n → f r ≡ g r) where
  closes : once ≡ false → (space : Space) (p q : ℕ) → Across touches space (stretch last n) (stretch 0 first) p q → NeedsClosing touches once n g space p q
  closes more space p q a =
      let most = done.first_most in
      let low = a.first_in.0 in
      let high = a.second_in.1 in
      record {
        again = more;
        first_within = a.first_in.1;
        second_within = omega arith;
        after_last = since_last touches n n first last f g done same p low;
        before_first = λ r le. ap stands (sym (same r (omega arith))) ∙ done.before_first r (omega arith) (omega arith);
        conflict = a.conflict;
      }

  across : (space : Space) (p q : ℕ) → NeedsClosing touches once n g space p q → Across touches space (stretch last n) (stretch 0 first) p q
  across space p q need =
      record {
        first_in = (last_since touches n n first last f g done same p need.after_last, need.first_within);
        second_in = (omega arith, early);
        conflict = need.conflict;
      }
    where
      early : q < first
      early =
          let w = need.second_within in
          ⊎_elim
          (λ lt. lt)
          (λ ge. absurd (true≢false (sym (ap stands (sym (same first (omega arith))) ∙ done.first_stands (omega arith)) ∙ need.before_first first ge)))
          (cases_lt q first)

  pub finished : ((space : Space) → (orders space (g n) ≡ true) ↔ ((once ≡ false) × ((p q : ℕ) × Across touches space (stretch last n) (stretch 0 first) p q))) → (stands (g n) ≡ true → (space : Space) × (orders space (g n) ≡ true)) → Needed touches once n g
  finished flags flag = record {
    before = before_kept touches n n first last f g done same;
    closing = λ space. (λ e. let z = (flags space).0 e in (z.1.0, z.1.1, closes z.0 space z.1.0 z.1.1 z.1.2), λ z. (flags space).1 (z.2.again, (z.0, z.1, across space z.0 z.1 z.2)));
    flagged = λ q le e. ⊎_elim
        (λ lt. flagged_kept touches n n first last f g done same q lt e)
        (λ ge. let at : q ≡ n = omega arith in subst (λ x. (space : Space) × (orders space (g x) ≡ true)) (sym at) (flag (subst (λ x. stands (g x) ≡ true) at e)))
        (cases_lt q n);
  }

  -- a pair that stands the other way round and has its later phase
  -- first: there is no barrier at all
  closes_turned : once ≡ false → (space : Space) (p q : ℕ) → q ≤ p → Across touches space (stretch last n) (stretch 0 first) q p → NeedsClosing touches once n g space p q
  closes_turned more space p q le a =
      let most = done.first_most in
      let high = a.second_in.1 in
      let none = no_barrier in
      record {
        again = more;
        first_within = omega arith;
        second_within = omega arith;
        after_last = λ r low below. ap stands (sym (same r below)) ∙ done.before_first r (omega arith) below;
        before_first = λ r early. ap stands (sym (same r (omega arith))) ∙ done.before_first r (omega arith) (omega arith);
        conflict = conflict_turned touches space q p a.conflict;
      }
    where
      no_barrier : n ≤ first
      no_barrier =
          let low = a.first_in.0 in
          let high = a.second_in.1 in
          ⊎_elim
          (λ early. absurd (true≢false (sym (done.first_stands early) ∙ done.after_last first (omega arith) early)))
          (λ ge. ge)
          (cases_lt first n)

module _ (touches : List Touch) (once : Bool) (n first last : ℕ) (bs : List Barrier) (done : Done touches n n first last (fence n bs)) (listed : Listed touches once n n (fence n bs) bs) where
  pub unclosed : (once ≡ false → (space : Space) (p q : ℕ) → Across touches space (stretch last n) (stretch 0 first) p q → ⊥) → Needed touches once n (fence n bs)
  unclosed none =
      finished touches once n first last (fence n bs) (fence n bs) done (λ r lt. refl)
      (λ space. (λ e. absurd (true≢false (sym e ∙ ap (orders space) open_end)), λ z. absurd (none z.0 space z.1.0 z.1.1 z.1.2)))
      (λ e. absurd (true≢false (sym e ∙ ap stands open_end)))
    where
      open_end : fence n bs n ≡ Open
      open_end = fence_none n bs n (none_here touches once n n (fence n bs) (fence n bs) bs listed (λ r lt. refl) n (omega arith))

  pub unclosed_order : InOrder n bs
  unclosed_order = record {
    before_phases = λ k d lt. within_phases n n (omega arith) (get_or bs k d).before (listed.early k d lt);
    in_order = listed.in_order;
  }

  module _ (more : once ≡ false) (b : Barrier) (found : Closes touches (stretch last n) (stretch 0 first) b) (later_first : b.pair.1 ≤ b.pair.0) where
    place_end : place_of n b ≡ n
    place_end = ap (λ o. unwrap_or o n) found.place

    same_end : (r : ℕ) → r < n → fence n bs r ≡ fence n (bs ++ b ∷ []) r
    same_end r lt = sym (fence_besides n bs b r (λ e. let k = place_end in omega arith))

    here_end : fence n (bs ++ b ∷ []) n ≡ fencing_of b
    here_end = fence_added n bs b n (none_here touches once n n (fence n bs) (fence n bs) bs listed (λ r lt. refl) n (omega arith)) place_end

    flags_end : (space : Space) → (orders space (fence n (bs ++ b ∷ []) n) ≡ true) ↔ ((p r : ℕ) × Across touches space (stretch last n) (stretch 0 first) p r)
    flags_end space = subst (λ x. (orders space x ≡ true) ↔ ((p r : ℕ) × Across touches space (stretch last n) (stretch 0 first) p r)) (sym here_end) (found.flags space)

    flag_end : (space : Space) × (orders space (fence n (bs ++ b ∷ []) n) ≡ true)
    flag_end = ⊎_elim (λ a. (found.pair.0, (flags_end found.pair.0).1 (b.pair.0, b.pair.1, a))) (λ a. (found.pair.0, (flags_end found.pair.0).1 (b.pair.1, b.pair.0, a))) found.pair.1

    pub closed : Needed touches once n (fence n (bs ++ b ∷ []))
    closed = finished touches once n first last (fence n bs) (fence n (bs ++ b ∷ [])) done same_end (λ space. (λ e. (more, (flags_end space).0 e), λ z. (flags_end space).1 z.1)) (λ e. flag_end)

    pub closed_order : InOrder n (bs ++ b ∷ [])
    closed_order = record {
      before_phases = All-push (λ x. IfSome x.before (λ r. r < n)) bs b (λ k d lt. within_phases n n (omega arith) (get_or bs k d).before (listed.early k d lt)) (subst (λ o. IfSome o (λ r. r < n)) (sym found.place) tt);
      in_order = in_order_more touches once n n (fence n bs) (fence n (bs ++ b ∷ [])) bs listed same_end b (let k = place_end in omega arith);
    }

    pair_end : NeedsClosing touches once n (fence n (bs ++ b ∷ [])) found.pair.0 b.pair.0 b.pair.1
    pair_end =
        ⊎_elim
        (closes touches once n first last (fence n bs) (fence n (bs ++ b ∷ [])) done same_end more found.pair.0 b.pair.0 b.pair.1)
        (closes_turned touches once n first last (fence n bs) (fence n (bs ++ b ∷ [])) done same_end more found.pair.0 b.pair.0 b.pair.1 later_first)
        found.pair.1

    pub closed_pairs : All (HasPair touches once n (fence n (bs ++ b ∷ []))) (bs ++ b ∷ [])
    closed_pairs =
        All-push (HasPair touches once n (fence n (bs ++ b ∷ []))) bs b
        (pairs_kept touches once n n (fence n bs) (fence n (bs ++ b ∷ [])) bs listed same_end)
        (subst (λ o. NeededBy touches once n (fence n (bs ++ b ∷ [])) o b.pair) (sym found.place) (later_first, (found.pair.0, pair_end)))

-- ---- as the code goes on
pub record Reached (touches : List Touch) (once : Bool) (n q first last : ℕ) (barriers : List Barrier) : Type 0 where
  pub done : Done touches n q first last (fence n barriers)
  pub listed : Listed touches once n q (fence n barriers) barriers

pub record Placed (touches : List Touch) (once : Bool) (n : ℕ) (barriers : List Barrier) : Type 0 where
  pub needed : Needed touches once n (fence n barriers)
  pub in_order : InOrder n barriers
  pub pairs : All (HasPair touches once n (fence n barriers)) barriers

pub started : (touches : List Touch) (once : Bool) (n : ℕ) (bs : List Barrier) → bs ≡ [] → 1 ≤ n → Reached touches once n 1 n 0 bs
started touches once n bs e some = subst (λ (xs : List Barrier). Reached touches once n 1 n 0 xs) (sym e) (record { done = at_start touches n some; listed = none_listed touches once n })

pub stepped_on : (touches : List Touch) (once : Bool) (n q first last new_first new_last : ℕ) (bs new : List Barrier) → Reached touches once n q first last bs → ((space : Space) (p r : ℕ) → Across touches space (stretch last q) (stretch q (q + 1)) p r → ⊥) → new_first ≡ first → new_last ≡ last → new ≡ bs → Reached touches once n (q + 1) new_first new_last new
stepped_on touches once n q first last new_first new_last bs new reached none same_first same_last e =
    let z = without touches once n q first last bs reached.done reached.listed none in
    subst (λ (xs : List Barrier). Reached touches once n (q + 1) new_first new_last xs) (sym e)
    (subst (λ x. Reached touches once n (q + 1) x new_last bs) (sym same_first)
    (subst (λ x. Reached touches once n (q + 1) first x bs) (sym same_last) (record { done = z.0; listed = z.1 })))

pub stepped : (touches : List Touch) (once : Bool) (n q first last new_first new_last : ℕ) (bs new : List Barrier) (b : Barrier) → Reached touches once n q first last bs → Parts touches (Some q) (stretch last q) (stretch q (q + 1)) b → 1 ≤ q → q < n → new_first ≡ min first q → new_last ≡ q → new ≡ bs ++ b ∷ [] → Reached touches once n (q + 1) new_first new_last new
stepped touches once n q first last new_first new_last bs new b reached parts positive within least here e =
    let z = with touches once n q first last bs reached.done reached.listed b parts (omega arith) within new_first least in
    subst (λ (xs : List Barrier). Reached touches once n (q + 1) new_first new_last xs) (sym e) (subst (λ x. Reached touches once n (q + 1) new_first x (bs ++ b ∷ [])) (sym here) (record { done = z.0; listed = z.1 }))

pub left_open : (touches : List Touch) (once : Bool) (n q first last : ℕ) (bs new : List Barrier) → Reached touches once n q first last bs → q ≡ n → (once ≡ false → (space : Space) (p r : ℕ) → Across touches space (stretch last n) (stretch 0 first) p r → ⊥) → new ≡ bs → Placed touches once n new
left_open touches once n q first last bs new reached e none same =
    let all = subst (λ x. Reached touches once n x first last bs) e reached in
    subst (λ (xs : List Barrier). Placed touches once n xs) (sym same)
    (record {
      needed = unclosed touches once n first last bs all.done all.listed none;
      in_order = unclosed_order touches once n first last bs all.done all.listed;
      pairs = all.listed.pairs;
    })

pub closed_off : (touches : List Touch) (once : Bool) (n q first last : ℕ) (bs new : List Barrier) (b : Barrier) → Reached touches once n q first last bs → q ≡ n → once ≡ false → Closes touches (stretch last n) (stretch 0 first) b → b.pair.1 ≤ b.pair.0 → new ≡ bs ++ b ∷ [] → Placed touches once n new
closed_off touches once n q first last bs new b reached e more found later_first added =
    let all = subst (λ x. Reached touches once n x first last bs) e reached in
    subst (λ (xs : List Barrier). Placed touches once n xs) (sym added)
    (record {
      needed = closed touches once n first last bs all.done all.listed more b found later_first;
      in_order = closed_order touches once n first last bs all.done all.listed more b found later_first;
      pairs = closed_pairs touches once n first last bs all.done all.listed more b found later_first;
    })
