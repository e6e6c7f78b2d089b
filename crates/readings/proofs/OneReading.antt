-- A text has one reading, where a table decides its grammar.
use Rattle.std.proofs.Common.{◌≡◌, List, [], ◌++◌, Some, ap, sym, ◌∙◌, subst, refl}
use Rattle.readings.specs.Readings.{Owed, Grammar, Reads, stands, takes, gives, notes}
use Rattle.readings.specs.Running.{Table, Decides}

module _ {T F M N : Type 0} (g : Grammar T F M N) (b : Table T F M N) (d : Decides g b) where
  one_alternative : (n : N) (f : F) (t : T) (x y : List (Owed T F M)) → g.Gives n f t x
      → g.Gives n f t y → x ≡ y
  one_alternative n f t x y h k =
      let e : Some x ≡ Some y = sym (d.only n f t x h) ∙ d.only n f t y k in cc (e)

  same_reading : {o : List (Owed T F M)} {n : N} {ts : List T} {o1 : List (Owed T F M)} {n1 : N}
      → Reads g o n ts o1 n1 → o1 ≡ []
      → {p : List (Owed T F M)} {m : N} {us : List T} {p1 : List (Owed T F M)} {m1 : N}
      → Reads g p m us p1 m1 → p1 ≡ [] → o ≡ p → n ≡ m → ts ≡ us → n1 ≡ m1
  same_reading stands a stands c e f k = f
  same_reading stands a (takes s) c e f k = absurd (cc (k))
  same_reading stands a (gives h s) c e f k = absurd (cc (k))
  same_reading stands a (notes h s) c e f k = absurd (cc (a, e))
  same_reading (takes r) a stands c e f k = absurd (cc (k))
  same_reading (takes r) a (takes s) c e f k = same_reading r a s c (cc (e)) f (cc (k))
  same_reading (takes r) a (gives h s) c e f k = absurd (cc (e))
  same_reading (takes r) a (notes h s) c e f k = absurd (cc (e))
  same_reading (gives h r) a stands c e f k = absurd (cc (k))
  same_reading (gives h r) a (takes s) c e f k = absurd (cc (e))
  same_reading (gives {f = f1} {t = t} {alt = x} {o = o} {n = n} h r) a
      (gives {f = f2} {t = u} {alt = y} {o = p} {n = m} k s) c e i j =
      let forms : f2 ≡ f1 = cc (e) in
      let tokens : u ≡ t = cc (j) in
      let there : g.Gives n f1 t y =
      subst (λ z. g.Gives z f1 t y) (sym i)
      (subst (λ z. g.Gives m z t y) forms (subst (λ z. g.Gives m f2 z y) tokens k)) in
      let rest : o ≡ p = cc (e) in
      same_reading r a s c
      (ap (λ z. z ++ o) (one_alternative n f1 t x y h there) ∙ ap (λ z. y ++ z) rest) i (cc (j))
  same_reading (gives h r) a (notes k s) c e f i = absurd (cc (e))
  same_reading (notes h r) a stands c e f k = absurd (cc (c, e))
  same_reading (notes h r) a (takes s) c e f k = absurd (cc (e))
  same_reading (notes h r) a (gives k s) c e f i = absurd (cc (e))
  same_reading (notes {m = m1} {n = n} {n' = n1} h r) a
      (notes {m = m2} {n = m} {n' = n2} k s) c e f i =
      let marks : m1 ≡ m2 = cc (e) in
      let made : Some n1 ≡ Some n2 =
      sym h ∙ ap (λ z. g.marked z n) marks ∙ ap (g.marked m2) f ∙ k in
      same_reading r a s c (cc (e)) (cc (made)) i

  -- two readings of a whole text note the same
  pub one_reading : (o : List (Owed T F M)) (n : N) (ts : List T) (n1 n2 : N) → Reads g o n ts [] n1
      → Reads g o n ts [] n2 → n1 ≡ n2
  one_reading o n ts n1 n2 r s = same_reading r refl s refl refl refl refl
