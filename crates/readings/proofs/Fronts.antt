-- A text that is read whole with more behind it is refused right behind it.
use Rattle.std.proofs.Common.{◌≡◌, ℕ, zero, suc, ◌<◌, ◌≤◌, List, [], ◌∷◌, ◌++◌, Some, length, take, drop, refl, ap, sym, ◌∙◌, subst, arith}
use Rattle.readings.specs.Readings.{Owed, Token, Form, Mark, Grammar, Reads, stands, Stops}
use Rattle.readings.specs.Exactly.{StopsAt}
use Rattle.readings.specs.Running.{Table, next, last, Decides}
use Rattle.readings.proofs.Exact.{and_then_some, next-sound, next-only, last-only}

module _ {T F M N : Type 0} (g : Grammar T F M N) (b : Table T F M N) (d : Decides g b) where
  -- where nothing more is owed no token is taken
  none_taken : (o : List (Owed T F M)) (n n2 : N) (t : T) (p : List (Owed T F M) × N) → last b o n ≡ Some n2 → next b o n t ≡ Some p → ⊥
  none_taken [] n n2 t p e h = cc (h)
  none_taken (Token a ∷ o) n n2 t p e h = cc (e)
  none_taken (Form f ∷ o) n n2 t p e h = cc (e)
  none_taken (Mark m ∷ o) n n2 t p e h =
      let x = and_then_some (λ n'. last b o n') (b.marked m n) n2 e in
      let y = and_then_some (λ n'. next b o n' t) (b.marked m n) p h in
      let same : y.0 ≡ x.0 = let w : Some y.0 ≡ Some x.0 = sym y.1 ∙ x.1 in cc (w) in
      none_taken o x.0 n2 t p x.2 (subst (λ z. next b o z t ≡ Some p) same y.2)

  -- what is left to stop at behind the first token
  stops_less : (o : List (Owed T F M)) (n : N) (t : T) (p : List (Owed T F M) × N) (front back : List T) → next b o n t ≡ Some p → Stops g o n (t ∷ front) back → Stops g p.0 p.1 front back
  stops_less o n t p front [] e h = λ k. h (k.0, next-sound g b d o n t p front [] k.0 e k.1)
  stops_less o n t p front (x ∷ back) e h = λ k. h (k.0, k.1, next-sound g b d o n t p (front ++ x ∷ []) k.0 k.1 e k.2)

  pub refused_behind : (own rest : List T) (o : List (Owed T F M)) (n n2 : N) (i : ℕ) → Reads g o n own [] n2 → 0 < length rest → StopsAt g o n (own ++ rest) i → i ≡ length own
  refused_behind [] [] o n n2 i r some s = absurd (omega (arith, some))
  refused_behind [] (t ∷ rest) o n n2 zero r some s = refl
  refused_behind [] (t ∷ rest) o n n2 (suc i) r some s =
      let q = next-only g b d s.before.2 t (take i rest) refl in
      absurd (none_taken o n n2 t q.0 (last-only g b d r refl refl) q.1)
  refused_behind (x ∷ own) rest o n n2 zero r some s =
      let q = next-only g b d r x own refl in
      absurd (s.there (q.0.0, q.0.1, next-sound g b d o n x q.0 [] q.0.0 q.0.1 q.1 stands))
  refused_behind (x ∷ own) rest o n n2 (suc i) r some s =
      let q = next-only g b d r x own refl in
      let k = next-only g b d s.before.2 x (take i (own ++ rest)) refl in
      let same : k.0 ≡ q.0 = let w : Some k.0 ≡ Some q.0 = sym k.1 ∙ q.1 in cc (w) in
      let inside : suc i ≤ suc (length (own ++ rest)) = s.inside in
      ap suc (refused_behind own rest q.0.0 q.0.1 n2 i q.2 some (record {
        inside = omega (arith, inside);
        before = (s.before.0, s.before.1, subst (λ (z : List (Owed T F M) × N). Reads g z.0 z.1 (take i (own ++ rest)) s.before.0 s.before.1) same k.2);
        there = stops_less o n x q.0 (take i (own ++ rest)) (drop i (own ++ rest)) q.1 s.there;
      }))

  -- of two texts that are read whole, neither goes on where the other ends
  pub same_front : (own other rest back : List T) (o : List (Owed T F M)) (n n1 n2 : N) → Reads g o n own [] n1 → Reads g o n other [] n2 → own ++ rest ≡ other ++ back → (own ≡ other) × (rest ≡ back)
  same_front [] [] rest back o n n1 n2 r s e = (refl, e)
  same_front [] (t ∷ other) rest back o n n1 n2 r s e =
      let q = next-only g b d s t other refl in
      absurd (none_taken o n n1 t q.0 (last-only g b d r refl refl) q.1)
  same_front (t ∷ own) [] rest back o n n1 n2 r s e =
      let q = next-only g b d r t own refl in
      absurd (none_taken o n n2 t q.0 (last-only g b d s refl refl) q.1)
  same_front (t ∷ own) (u ∷ other) rest back o n n1 n2 r s e =
      let first : u ≡ t = cc (e) in
      let q = next-only g b d r t own refl in
      let k = next-only g b d (subst (λ z. Reads g o n (z ∷ other) [] n2) first s) t other refl in
      let same : k.0 ≡ q.0 = let w : Some k.0 ≡ Some q.0 = sym k.1 ∙ q.1 in cc (w) in
      let later = same_front own other rest back q.0.0 q.0.1 n1 n2 q.2 (subst (λ (z : List (Owed T F M) × N). Reads g z.0 z.1 other [] n2) same k.2) (cc (e)) in
      (ap (λ z. t ∷ z) later.0 ∙ ap (λ z. z ∷ other) (sym first), later.1)
