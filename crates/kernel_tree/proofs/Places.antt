-- What is left to do tells the places of a text apart: going on through a
-- text there is ever less of it.
use Rattle.std.proofs.Common.{◌≡◌, ℕ, suc, ◌+◌, ◌*◌, ◌<◌, ◌≤◌, List, [], ◌∷◌, ◌++◌, length, Option, Some, None, refl, ap, ◌∙◌, ⊎_elim, inl, inr, arith}
use Rattle.std.specs.Prelude.{◌==◌, if◌then◌else◌}
use Rattle.std.proofs.lemmas.Bool.{eq-eqb, ne_eqb}
use Rattle.kernel_tree.specs.Code.{Code, End, Performs, Loops, Guards, then_rest}
use Rattle.kernel_tree.specs.Item.{Frame}
use Rattle.kernel_tree.specs.Faults.{Among}
use Rattle.kernel_tree.specs.Places.{Place, place, around, places, all_places, AllDiffer}
use Rattle.kernel_tree.proofs.Confluence.{among-append}

-- how many statements are left, those in loops not counted
size : Code → ℕ
size End = 0
size (Performs s after) = suc (size after)
size (Loops s b c body after) = suc (size after)
size (Guards s b body after) = suc (size body + size after)

size-then : (c rest : Code) → size (then_rest c rest) ≡ size c + size rest
unfolding size
size-then End rest = omega arith
size-then (Performs s after) rest = let h = size-then after rest in omega arith
size-then (Loops s b c body after) rest = let h = size-then after rest in omega arith
size-then (Guards s b body after) rest = let h = size-then after rest in omega arith

-- what comes after the loop that has n loops around it
above : ℕ → List Frame → Option Code
above n [] = None
above n (f ∷ fs) = if length fs == n then Some f.after else above n fs

rank_by : Option Code → Code → ℕ
rank_by None c = 2 * size c
rank_by (Some a) c = 2 * size a + 1

-- within n loops: twice what is left, and in a further loop twice what is left behind it and one
rank : ℕ → Place → ℕ
rank n p = rank_by (above n p.loops) p.code

none_above : (n : ℕ) (fs : List Frame) → length fs ≤ n → above n fs ≡ None
unfolding above
none_above n [] h = refl
none_above n (f ∷ fs) h = rw (ne_eqb (length fs) n (λ e. less n (length fs) h e)) (none_above n fs (omega arith))
  where
    less : (n m : ℕ) → suc m ≤ n → m ≡ n → ⊥
    less n m h e = omega arith

-- further loops leave what is above
still_above : (n : ℕ) (f : Frame) (fs : List Frame) (a : Code) → n < length fs → above n fs ≡ Some a → above n (f ∷ fs) ≡ Some a
unfolding above
still_above n f fs a lt h = rw (ne_eqb (length fs) n (λ e. more n (length fs) lt e)) h
  where
    more : (n m : ℕ) → n < m → m ≡ n → ⊥
    more n m lt e = omega arith

just_above : (n : ℕ) (f : Frame) (fs : List Frame) → length fs ≡ n → above n (f ∷ fs) ≡ Some f.after
unfolding above
just_above n f fs e = rw (eq-eqb (length fs) n e) refl

rank_at : (n : ℕ) (c : Code) (fs : List Frame) → length fs ≡ n → rank n (place c fs) ≡ 2 * size c
unfolding rank rank_by
rank_at n c fs e = rw (none_above n fs (omega arith)) refl

rank_within : (n : ℕ) (p : Place) (a : Code) → above n p.loops ≡ Some a → rank n p ≡ 2 * size a + 1
unfolding rank rank_by
rank_within n p a h = rw h refl

module _ (n : ℕ) (a : Code) where
  -- all places in a loop's body are in the loop
  all_within : (c rest : Code) (gs : List Frame) → n < length gs → above n gs ≡ Some a → (p : Place) → Among p (places c rest gs) → above n p.loops ≡ Some a
  all_within End rest gs lt h p m = absurd m
  all_within (Performs s after) rest gs lt h p m = ⊎_elim (λ q. ap (λ x. above n x.loops) q ∙ h) (λ r. all_within after rest gs lt h p r) m
  all_within (Loops s b c body after) rest gs lt h p m =
      let f = around b c body (then_rest after rest) in
      let deep = still_above n f gs a lt h in
      ⊎_elim (λ q. ap (λ x. above n x.loops) q ∙ h)
      (λ r. ⊎_elim
      (λ x. ⊎_elim (λ y. all_within body End (f ∷ gs) (omega arith) deep p y) (λ y. ⊎_elim (λ q. ap (λ x. above n x.loops) q ∙ deep) (λ z. absurd z) y) (among-append p (places body End (f ∷ gs)) (place End (f ∷ gs) ∷ []) x))
      (λ x. all_within after rest gs lt h p x)
      (among-append p (places body End (f ∷ gs) ++ place End (f ∷ gs) ∷ []) (places after rest gs) r))
      m
  all_within (Guards s b body after) rest gs lt h p m =
      ⊎_elim (λ q. ap (λ x. above n x.loops) q ∙ h)
      (λ r. ⊎_elim (λ x. all_within body (then_rest after rest) gs lt h p x) (λ x. all_within after rest gs lt h p x) (among-append p (places body (then_rest after rest) gs) (places after rest gs) r))
      m

-- a loop's own places, seen from outside it
inner_rank : (n : ℕ) (body : Code) (f : Frame) (fs : List Frame) → length fs ≡ n → (p : Place) → Among p (places body End (f ∷ fs) ++ place End (f ∷ fs) ∷ []) → rank n p ≡ 2 * size f.after + 1
inner_rank n body f fs e p m =
    let deep = just_above n f fs e in
    rank_within n p f.after (⊎_elim
    (λ x. all_within n f.after body End (f ∷ fs) (omega arith) deep p x)
    (λ x. ⊎_elim (λ q. ap (λ y. above n y.loops) q ∙ deep) (λ z. absurd z) x)
    (among-append p (places body End (f ∷ fs)) (place End (f ∷ fs) ∷ []) m))

record Ranked (low high n : ℕ) (p : Place) : Type 0 where
  above_low : 2 * low < rank n p
  to_high : rank n p ≤ 2 * high

-- a place of a block has at least the rest left, and at most the block and the rest
ranked : (n : ℕ) (c rest : Code) (fs : List Frame) → length fs ≡ n → (p : Place) → Among p (places c rest fs) → Ranked (size rest) (size c + size rest) n p
unfolding size
ranked n c rest fs e p m = go c rest m
  where
    here : (c rest : Code) (low high : ℕ) → low < size c → size c ≤ high → (p ≡ place c fs) → Ranked low high n p
    here c rest low high lt le q =
        let r = ap (rank n) q ∙ rank_at n c fs e in
        record { above_low = omega arith; to_high = omega arith }

    on : (rest after : Code) → Ranked (size rest) (size after + size rest) n p → Ranked (size rest) (suc (size after) + size rest) n p
    on rest after r = let x = r.above_low in let y = r.to_high in record { above_low = x; to_high = omega arith }

    first : (c after rest : Code) → size c ≡ suc (size (then_rest after rest)) → p ≡ place c fs → Ranked (size rest) (suc (size after) + size rest) n p
    first c after rest s q = let h = size-then after rest in here c rest _ _ (omega arith) (omega arith) q

    go : (c rest : Code) → Among p (places c rest fs) → Ranked (size rest) (size c + size rest) n p
    go End rest m = absurd m
    go (Performs s after) rest m = ⊎_elim (λ q. first (Performs s (then_rest after rest)) after rest refl q) (λ r. on rest after (go after rest r)) m
    go (Loops s b c body after) rest m =
        let f = around b c body (then_rest after rest) in
        let t = size-then after rest in
        ⊎_elim (λ q. first (Loops s b c body (then_rest after rest)) after rest refl q)
        (λ r. ⊎_elim
        (λ x. let k = inner_rank n body f fs e p x in record { above_low = omega arith; to_high = omega arith })
        (λ x. on rest after (go after rest x))
        (among-append p (places body End (f ∷ fs) ++ place End (f ∷ fs) ∷ []) (places after rest fs) r))
        m
    go (Guards s b body after) rest m =
        let t = size-then after rest in
        ⊎_elim (λ q. here (Guards s b body (then_rest after rest)) rest _ _ (omega arith) (omega arith) q)
        (λ r. ⊎_elim
        (λ x. let k = go body (then_rest after rest) x in let low = k.above_low in let high = k.to_high in record { above_low = omega arith; to_high = omega arith })
        (λ x. let k = go after rest x in let low = k.above_low in let high = k.to_high in record { above_low = low; to_high = omega arith })
        (among-append p (places body (then_rest after rest) fs) (places after rest fs) r))
        m

differ-append : {A : Type 0} (xs ys : List A) → AllDiffer xs → AllDiffer ys → ((x : A) → Among x xs → Among x ys → ⊥) → AllDiffer (xs ++ ys)
differ-append [] ys a b h = b
differ-append (x ∷ xs) ys a b h =
    (λ m. ⊎_elim (λ q. a.0 q) (λ q. h x (inl refl) q) (among-append x xs ys m), differ-append xs ys a.1 b (λ y i j. h y (inr i) j))

-- the first statement has more left than those behind it
first_most : (fs : List Frame) (c after rest : Code) → size c ≡ suc (size (then_rest after rest)) → Among (place c fs) (places after rest fs) → ⊥
first_most fs c after rest s m =
    let r = (ranked (length fs) after rest fs refl (place c fs) m).to_high in
    let k = rank_at (length fs) c fs refl in
    let t = size-then after rest in
    omega arith

pub differ : (c rest : Code) (fs : List Frame) → AllDiffer (places c rest fs)
unfolding size
differ End rest fs = tt
differ (Performs s after) rest fs = (first_most fs (Performs s (then_rest after rest)) after rest refl, differ after rest fs)
differ (Guards s b body after) rest fs =
    let whole = Guards s b body (then_rest after rest) in
    let t = size-then after rest in (
      λ m. ⊎_elim
          (λ x. let r = (ranked (length fs) body (then_rest after rest) fs refl (place whole fs) x).to_high in let k = rank_at (length fs) whole fs refl in omega arith)
          (λ x. let r = (ranked (length fs) after rest fs refl (place whole fs) x).to_high in let k = rank_at (length fs) whole fs refl in omega arith)
          (among-append (place whole fs) (places body (then_rest after rest) fs) (places after rest fs) m),
      differ-append (places body (then_rest after rest) fs) (places after rest fs) (differ body (then_rest after rest) fs) (differ after rest fs)
          (λ p i j. let low = (ranked (length fs) body (then_rest after rest) fs refl p i).above_low in let high = (ranked (length fs) after rest fs refl p j).to_high in omega arith),
    )
differ (Loops s b c body after) rest fs =
    let whole = Loops s b c body (then_rest after rest) in
    let f = around b c body (then_rest after rest) in
    let t = size-then after rest in
    let inside = places body End (f ∷ fs) in
    let end = place End (f ∷ fs) in (
      λ m. ⊎_elim
          (λ x. let r = inner_rank (length fs) body f fs refl (place whole fs) x in let k = rank_at (length fs) whole fs refl in omega arith)
          (λ x. let r = (ranked (length fs) after rest fs refl (place whole fs) x).to_high in let k = rank_at (length fs) whole fs refl in omega arith)
          (among-append (place whole fs) (inside ++ end ∷ []) (places after rest fs) m),
      differ-append (inside ++ end ∷ []) (places after rest fs)
          (differ-append inside (end ∷ []) (differ body End (f ∷ fs)) (λ z. z, tt)
          (λ p i j. ⊎_elim (λ q. let low = (ranked (suc (length fs)) body End (f ∷ fs) refl p i).above_low in let k = ap (rank (suc (length fs))) q ∙ rank_at (suc (length fs)) End (f ∷ fs) refl in omega arith) (λ z. z) j))
          (differ after rest fs)
          (λ p i j. let r = inner_rank (length fs) body f fs refl p i in let high = (ranked (length fs) after rest fs refl p j).to_high in omega arith),
    )

pub all_differ : (code : Code) → AllDiffer (all_places code)
unfolding size
all_differ code =
    differ-append (places code End []) (place End [] ∷ []) (differ code End []) (λ z. z, tt)
    (λ p i j. ⊎_elim (λ q. let low = (ranked 0 code End [] refl p i).above_low in let k = ap (rank 0) q ∙ rank_at 0 End [] refl in omega arith) (λ z. z) j)
