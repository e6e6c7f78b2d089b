-- Phases in conflict are in different epochs.
use Rattle.std.proofs.Common.{◌≡◌, ℕ, zero, suc, ◌+◌, ◌*◌, ◌<◌, ◌≤◌, ◌%◌, ◌⊎◌, Bool, true, false, List, refl, sym, ap, ◌∙◌, subst, ⊎_elim, inl, inr, arith}
use Rattle.std.specs.Prelude.{◌&&◌}
use Rattle.std.proofs.Math.Nat.{mod-eq_of_lt, mod_self, mul-add-mod_self_right}
use Rattle.std.proofs.lemmas.Bool.{cases_lt, eq-eqb, ne_eqb}
use Rattle.barrier_placement.specs.declared.touches.Touch.{Touch}
use Rattle.barrier_placement.specs.Conflicts.{Space, Local, space_of, Clash, Conflict}
use Rattle.barrier_placement.specs.Fencing.{Fencing, orders}
use Rattle.barrier_placement.specs.Separates.{Separates, bit}
use Rattle.group_phases.specs.Epochs.{passed, each_turn, epoch_in, KeepsApart, runs_by_turns, runs_once}

and_turned : (a b : Bool) → (a && b) ≡ false → (b && a) ≡ false
and_turned true true h = h
and_turned true false h = refl
and_turned false true h = refl
and_turned false false h = refl

clash_turned : (x y : Touch) → Clash x y → Clash y x
clash_turned x y c = record {
  one_space = sym c.one_space;
  one_buffer = sym c.one_buffer;
  one_writes = ⊎_elim (λ a. inr a) (λ b. inl b) c.one_writes;
  not_aligned = and_turned x.aligned y.aligned c.not_aligned;
}

pub conflict_turned : (touches : List Touch) (space : Space) (p q : ℕ) → Conflict touches space p q → Conflict touches space q p
conflict_turned touches space p q c = record {
  first = c.second;
  second = c.first;
  first_used = c.second_used;
  second_used = c.first_used;
  first_phase = c.second_phase;
  second_phase = c.first_phase;
  lies_in = ap space_of (sym c.clash.one_space) ∙ c.lies_in;
  clash = clash_turned c.first c.second c.clash;
}

module _ (fence : ℕ → Fencing) where
  pub passed_grows : (p q : ℕ) → p ≤ q → passed fence p ≤ passed fence q
  passed_grows p zero le = let e : p ≡ zero = omega arith in subst (λ x. passed fence x ≤ 0) (sym e) (omega arith)
  passed_grows p (suc q) le =
      ⊎_elim
      (λ lt. let h = passed_grows p q (omega arith) in let b = bit (orders Local (fence q)) in omega arith)
      (λ ge. let e : p ≡ suc q = omega arith in subst (λ x. passed fence x ≤ passed fence (suc q)) (sym e) (omega arith))
      (cases_lt p (suc q))

  -- a barrier after phase p and before q, or before q itself
  pub passed_more : (p r q : ℕ) → p < r → r ≤ q → orders Local (fence r) ≡ true → passed fence (suc p) < passed fence (suc q)
  passed_more p r q lt le e =
      let a = passed_grows (suc p) r lt in
      let b = passed_grows (suc r) (suc q) (omega arith) in
      let c : bit (orders Local (fence r)) ≡ 1 = ap bit e in
      omega arith

  some_passed : (r q : ℕ) → r ≤ q → orders Local (fence r) ≡ true → 0 < passed fence (suc q)
  some_passed r q le e =
      let b = passed_grows (suc r) (suc q) (omega arith) in
      let c : bit (orders Local (fence r)) ≡ 1 = ap bit e in
      omega arith

  epoch_mod : (n t p : ℕ) → epoch_in fence n t p % each_turn fence n ≡ passed fence (suc p) % each_turn fence n
  epoch_mod n t p = mul-add-mod_self_right t (each_turn fence n) (passed fence (suc p))

  -- places of one epoch up to whole turns
  differ : (a b each : ℕ) → a < b → b ≤ each → (b < each) ⊎ (0 < a) → a % each ≡ b % each → ⊥
  differ a b each lt le or same =
      let below : a % each ≡ a = mod-eq_of_lt (omega arith) in
      ⊎_elim
      (λ h. let here : b % each ≡ b = mod-eq_of_lt h in omega arith)
      (λ e. let q : b ≡ each = omega arith in let z : b % each ≡ 0 = ap (λ x. x % each) q ∙ mod_self each in ⊎_elim (λ o. absurd (omega arith)) (λ o. omega arith) or)
      (cases_lt b each)

  -- two phases in conflict are in no epoch together, whatever the turns
  apart : (touches : List Touch) (n : ℕ) → Separates touches Local false n fence → (w q : ℕ) → w < q → q < n → Conflict touches Local w q → passed fence (suc w) % each_turn fence n ≡ passed fence (suc q) % each_turn fence n → ⊥
  apart touches n sep w q lt below c same =
      let in_turn = sep.within w q lt below c in
      let more = passed_more w in_turn.0 q in_turn.1 in_turn.2 in_turn.3 in
      let most = passed_grows (suc q) (suc n) (omega arith) in
      differ (passed fence (suc w)) (passed fence (suc q)) (each_turn fence n) more most
      (⊎_elim (λ h. inl (passed_more q h.0 n h.1 h.2 h.3)) (λ h. inr (some_passed h.0 w h.1 h.2)) (sep.around refl q w below (omega arith) (conflict_turned touches Local w q c)))
      same

-- over many turns
pub apart_by_turns : (touches : List Touch) (n : ℕ) (fence : ℕ → Fencing) (turns : ℕ → ℕ) → Separates touches Local false n fence → KeepsApart touches n fence turns (runs_by_turns fence n)
apart_by_turns touches n fence turns sep = record {
  runs = λ g t q tl ql. eq-eqb _ _ (epoch_mod fence n t q);
  apart = λ g t w q tl lt ql c. ne_eqb _ _ (λ e. apart fence touches n sep w q lt ql c (sym e ∙ epoch_mod fence n t q));
}

-- in one turn no barrier need close
pub apart_once : (touches : List Touch) (n : ℕ) (fence : ℕ → Fencing) (turns : ℕ → ℕ) → ((g : ℕ) → turns g ≤ 1) → Separates touches Local true n fence → KeepsApart touches n fence turns (runs_once fence)
apart_once touches n fence turns one sep = record {
  runs = λ g t q tl ql. eq-eqb _ _ (at g t q tl);
  apart = λ g t w q tl lt ql c. ne_eqb _ _ (λ e.
      let s = sep.within w q lt ql c in
      let more = passed_more fence w s.0 q s.1 s.2 s.3 in
      let a = at g t q tl in
      absurd (omega arith));
}
  where
    at : (g t q : ℕ) → t < turns g → epoch_in fence n t q ≡ passed fence (suc q)
    at g t q tl =
        let o = one g in
        let z : t ≡ 0 = omega arith in
        ap (λ x. x * each_turn fence n + passed fence (suc q)) z ∙ (let p = passed fence (suc q) in let e : 0 * each_turn fence n + p ≡ p = omega arith in e)

-- either way
pub some_apart : (touches : List Touch) (once : Bool) (n : ℕ) (fence : ℕ → Fencing) (turns : ℕ → ℕ) → (once ≡ true → (g : ℕ) → turns g ≤ 1) → Separates touches Local once n fence → (runs_in : ℕ → ℕ → Bool) × KeepsApart touches n fence turns runs_in
some_apart touches false n fence turns few sep = (runs_by_turns fence n, apart_by_turns touches n fence turns sep)
some_apart touches true n fence turns few sep = (runs_once fence, apart_once touches n fence turns (few refl) sep)
