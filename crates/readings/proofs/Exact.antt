-- What runs is exactly what the relation of readings says.
use Rattle.std.proofs.Common.{◌≡◌, List, [], ◌∷◌, ◌++◌, Option, Some, None, Result, Ok, Err, true, cond, refl, ap, sym, ◌∙◌, subst}
use Rattle.std.specs.Prelude.{option_and_then}
use Rattle.std.proofs.lemmas.Option.{cond_some}
use Rattle.readings.specs.Readings.{Owed, Token, Form, Mark, Grammar, Reads, stands, takes, gives, notes, Stops, Refused}
use Rattle.readings.specs.Running.{Table, next, last, run, or_refuse, Decides}

pub and_then_some : {A B : Type 0} (f : A → Option B) (o : Option A) (y : B) → option_and_then f o ≡ Some y → (x : A) × (o ≡ Some x) × (f x ≡ Some y)
and_then_some f None y e = absurd (cc)
and_then_some f (Some x) y e = (x, refl, e)

refuse_ok : {A B E : Type 0} (e : E) (f : A → Result B E) (o : Option A) (y : B) → or_refuse e f o ≡ Ok y → (x : A) × (o ≡ Some x) × (f x ≡ Ok y)
refuse_ok e f None y h = absurd (cc)
refuse_ok e f (Some x) y h = (x, refl, h)

module _ {T F M N : Type 0} (g : Grammar T F M N) (b : Table T F M N) (d : Decides g b) where
  pub next-sound : (o : List (Owed T F M)) (n : N) (t : T) (p : List (Owed T F M) × N) (ts : List T) (o2 : List (Owed T F M)) (n2 : N) → next b o n t ≡ Some p → Reads g p.0 p.1 ts o2 n2 → Reads g o n (t ∷ ts) o2 n2
  next-sound [] n t p ts o2 n2 e r = absurd (cc)
  next-sound (Token a ∷ o) n t p ts o2 n2 e r =
      let h = cond_some (b.same a t) (o, n) p e in
      subst (λ z. Reads g (Token z ∷ o) n (t ∷ ts) o2 n2) (sym (d.same a t h.0)) (takes (subst (λ (q : List (Owed T F M) × N). Reads g q.0 q.1 ts o2 n2) (sym h.1) r))
  next-sound (Form f ∷ o) n t p ts o2 n2 e r =
      let h = and_then_some (λ alt. Some (alt ++ o, n)) (b.row n f t) p e in
      gives (d.found n f t h.0 h.1) (subst (λ (q : List (Owed T F M) × N). Reads g q.0 q.1 ts o2 n2) (let k : p ≡ (h.0 ++ o, n) = cc (h.2) in k) r)
  next-sound (Mark m ∷ o) n t p ts o2 n2 e r =
      let h = and_then_some (λ n'. next b o n' t) (b.marked m n) p e in
      notes (sym (d.marked m n) ∙ h.1) (next-sound o h.0 t p ts o2 n2 h.2 r)

  pub next-only : {o : List (Owed T F M)} {n : N} {ts : List T} {o2 : List (Owed T F M)} {n2 : N} → Reads g o n ts o2 n2 → (t : T) (more : List T) → ts ≡ t ∷ more → (p : List (Owed T F M) × N) × (next b o n t ≡ Some p) × Reads g p.0 p.1 more o2 n2
  next-only stands t more e = absurd (cc)
  next-only (takes {t = a} {o = o} {o' = o2} {n = n} {n' = n2} {ts = ts} r) t more e =
      let e1 : a ≡ t = cc in let e2 : ts ≡ more = cc in
      ((o, n), ap (λ v. cond v (Some (o, n)) None) (subst (λ z. b.same a z ≡ true) e1 (d.itself a)), subst (λ z. Reads g o n z o2 n2) e2 r)
  next-only (gives {f = f} {t = a} {alt = alt} {o = o} {o' = o2} {n = n} {n' = n2} {ts = ts} h r) t more e =
      let e1 : a ≡ t = cc in let e2 : ts ≡ more = cc in
      ((alt ++ o, n), ap (option_and_then (λ alt. Some (alt ++ o, n))) (d.only n f t alt (subst (λ z. g.Gives n f z alt) e1 h)), subst (λ z. Reads g (alt ++ o) n z o2 n2) e2 r)
  next-only (notes {m = m} {o = o} {n = n} {n' = n1} h r) t more e =
      let q = next-only r t more e in
      (q.0, ap (option_and_then (λ n'. next b o n' t)) (d.marked m n ∙ h) ∙ q.1, q.2)

  last-sound : (o : List (Owed T F M)) (n n2 : N) → last b o n ≡ Some n2 → Reads g o n [] [] n2
  last-sound [] n n2 e = subst (λ z. Reads g [] n [] [] z) (let k : n ≡ n2 = cc in k) stands
  last-sound (Token a ∷ o) n n2 e = absurd (cc)
  last-sound (Form f ∷ o) n n2 e = absurd (cc)
  last-sound (Mark m ∷ o) n n2 e =
      let h = and_then_some (λ n'. last b o n') (b.marked m n) n2 e in
      notes (sym (d.marked m n) ∙ h.1) (last-sound o h.0 n2 h.2)

  pub last-only : {o : List (Owed T F M)} {n : N} {ts : List T} {o2 : List (Owed T F M)} {n2 : N} → Reads g o n ts o2 n2 → ts ≡ [] → o2 ≡ [] → last b o n ≡ Some n2
  last-only (stands {o = o} {n = n}) e z = rw z
  last-only (takes r) e z = absurd (cc)
  last-only (gives h r) e z = absurd (cc)
  last-only (notes {m = m} {o = o} {n = n} h r) e z = ap (option_and_then (λ n'. last b o n')) (d.marked m n ∙ h) ∙ last-only r e z

  -- what runs to the end is read
  pub run-sound : (ts : List T) (o : List (Owed T F M)) (n n2 : N) → run b o n ts ≡ Ok n2 → Reads g o n ts [] n2
  run-sound [] o n n2 e =
      let h = refuse_ok [] (λ n'. Ok n') (last b o n) n2 e in
      last-sound o n n2 (h.1 ∙ ap Some (let k : h.0 ≡ n2 = cc (h.2) in k))
  run-sound (t ∷ ts) o n n2 e =
      let h = refuse_ok (t ∷ ts) (λ p. run b p.0 p.1 ts) (next b o n t) n2 e in
      next-sound o n t h.0 ts [] n2 h.1 (run-sound ts h.0.0 h.0.1 n2 h.2)

  -- what is read runs to the end
  pub run-only : (ts : List T) (o : List (Owed T F M)) (n n2 : N) → Reads g o n ts [] n2 → run b o n ts ≡ Ok n2
  run-only [] o n n2 r = ap (or_refuse [] (λ n'. Ok n')) (last-only r refl refl)
  run-only (t ∷ ts) o n n2 r =
      let q = next-only r t ts refl in
      ap (or_refuse (t ∷ ts) (λ p. run b p.0 p.1 ts)) q.1 ∙ run-only ts q.0.0 q.0.1 n2 q.2

  stops-more : (o : List (Owed T F M)) (n : N) (t : T) (p : List (Owed T F M) × N) (front back : List T) → next b o n t ≡ Some p → Stops g p.0 p.1 front back → Stops g o n (t ∷ front) back
  stops-more o n t p front [] e h = λ k.
      let q = next-only k.1 t front refl in
      let same : q.0 ≡ p = let w : Some q.0 ≡ Some p = sym q.1 ∙ e in cc (w) in
      h (k.0, subst (λ (z : List (Owed T F M) × N). Reads g z.0 z.1 front [] k.0) same q.2)
  stops-more o n t p front (x ∷ back) e h = λ k.
      let q = next-only k.2 t (front ++ x ∷ []) refl in
      let same : q.0 ≡ p = let w : Some q.0 ≡ Some p = sym q.1 ∙ e in cc (w) in
      h (k.0, k.1, subst (λ (z : List (Owed T F M) × N). Reads g z.0 z.1 (front ++ x ∷ []) k.0 k.1) same q.2)

  refused-later : (o : List (Owed T F M)) (n : N) (t : T) (p : List (Owed T F M) × N) (ts back : List T) → next b o n t ≡ Some p → Refused g p.0 p.1 ts back → Refused g o n (t ∷ ts) back
  refused-later o n t p ts back e r = record {
    front = t ∷ r.front;
    whole = ap (λ z. t ∷ z) r.whole;
    before = (r.before.0, r.before.1, next-sound o n t p r.front r.before.0 r.before.1 e r.before.2);
    there = stops-more o n t p r.front back e r.there;
  }

  -- what is refused is the first token at which the text doesn't go on
  pub run-refused : (ts : List T) (o : List (Owed T F M)) (n : N) (back : List T) → run b o n ts ≡ Err back → Refused g o n ts back
  run-refused [] o n back e = at_end (last b o n) refl e where
    at_end : (r : Option N) → last b o n ≡ r → or_refuse [] (λ n'. Ok n') r ≡ Err back → Refused g o n [] back
    at_end None h e = subst (λ z. Refused g o n [] z) (let k : [] ≡ back = cc (e) in k) (record {
      front = [];
      whole = refl;
      before = (o, n, stands);
      there = λ k. let w : None ≡ Some k.0 = sym h ∙ last-only k.1 refl refl in cc (w);
    })
    at_end (Some n') h e = absurd (cc (e))
  run-refused (t ∷ ts) o n back e = at_token (λ p. run-refused ts p.0 p.1 back) (next b o n t) refl e where
    at_token : ((p : List (Owed T F M) × N) → run b p.0 p.1 ts ≡ Err back → Refused g p.0 p.1 ts back) → (r : Option (List (Owed T F M) × N)) → next b o n t ≡ r → or_refuse (t ∷ ts) (λ p. run b p.0 p.1 ts) r ≡ Err back → Refused g o n (t ∷ ts) back
    at_token again None h e = subst (λ z. Refused g o n (t ∷ ts) z) (let k : (t ∷ ts) ≡ back = cc (e) in k) (record {
      front = [];
      whole = refl;
      before = (o, n, stands);
      there = λ k. let q = next-only k.2 t [] refl in let w : None ≡ Some q.0 = sym h ∙ q.1 in cc (w);
    })
    at_token again (Some p) h e = refused-later o n t p ts back h (again p e)

  -- a mark at the head does nothing but to note
  pub run-mark : (ts : List T) (m : M) (o : List (Owed T F M)) (n n' : N) → b.marked m n ≡ Some n' → run b (Mark m ∷ o) n ts ≡ run b o n' ts
  run-mark [] m o n n' e = ap (λ z. or_refuse [] (λ n'. Ok n') (option_and_then (λ n'. last b o n') z)) e
  run-mark (t ∷ ts) m o n n' e = ap (λ z. or_refuse (t ∷ ts) (λ p. run b p.0 p.1 ts) (option_and_then (λ n'. next b o n' t) z)) e

  -- a mark that can't be made stops the reading
  pub run-unmarked : (ts : List T) (m : M) (o : List (Owed T F M)) (n : N) → b.marked m n ≡ None → run b (Mark m ∷ o) n ts ≡ Err ts
  run-unmarked [] m o n e = ap (λ z. or_refuse [] (λ n'. Ok n') (option_and_then (λ n'. last b o n') z)) e
  run-unmarked (t ∷ ts) m o n e = ap (λ z. or_refuse (t ∷ ts) (λ p. run b p.0 p.1 ts) (option_and_then (λ n'. next b o n' t) z)) e
