-- A mark along a list of accesses.
use Rattle.std.proofs.Common.{◌≡◌, ◌≢◌, ◌↔◌, ◌++◌, ◌∷◌, ℕ, true, false, List, [], refl, sym, ap, ◌∙◌, subst, ⊎_elim, inl, inr, ◌⊎◌}
use Rattle.kernel_tree.specs.Device.{Cell, fence_of}
use Rattle.kernel_tree.specs.Faults.{Access, Among}
use Rattle.kernel_tree.proofs.Confluence.{among-append, among-left, among-right}
use Rattle.race_marks.specs.Marks.{Lately, Nothing, ReadByOne, ReadByMany, WrittenBy, Mark, Untouched, ReadByGroups, InGroup, races, noted}
use Rattle.race_marks.specs.Tells.{TellsLately, Tells, Epochs, OfCell, TellsOf, MayFollow, RacesAmong}
use Rattle.race_marks.proofs.Exact.{Comes, Joined, sound, complete, kept}

-- marks tell the same of the same accesses
module _ (P Q : Access → Type 0) (to : (a : Access) → P a → Q a) (from : (a : Access) → Q a → P a) where
  same_lately : (e : ℕ) (l : Lately) → TellsLately P e l → TellsLately Q e l
  same_lately e Nothing t = λ a q. t a (from a q)
  same_lately e (ReadByOne j) t = record { all = λ a q. t.all a (from a q); reads = λ a q. t.reads a (from a q); one = t.one; is_one = to t.one t.is_one; now = t.now }
  same_lately e ReadByMany t = record {
    reads = λ a q. t.reads a (from a q);
    one = t.one;
    two = t.two;
    is_one = to t.one t.is_one;
    is_two = to t.two t.is_two;
    one_now = t.one_now;
    two_now = t.two_now;
    apart = t.apart;
  }
  same_lately e (WrittenBy j) t = record { all = λ a q. t.all a (from a q); one = t.one; is_one = to t.one t.is_one; now = t.now; writes = t.writes }

  pub same_tells : (E F : ℕ → ℕ) → ((g : ℕ) → F g ≡ E g) → (m : Mark) → Tells P E m → Tells Q F m
  same_tells E F same Untouched t = λ a q. t a (from a q)
  same_tells E F same ReadByGroups t = record { reads = λ a q. t.reads a (from a q); one = t.one; two = t.two; is_one = to t.one t.is_one; is_two = to t.two t.is_two; apart = t.apart }
  same_tells E F same (InGroup g written lately) t = (
    record {
      group = λ a q. t.0.group a (from a q);
      some = t.0.some;
      is_some = to t.0.some t.0.is_some;
      written = λ a q. t.0.written a (from a q);
      wrote = λ w. let r = t.0.wrote w in (r.0, to r.0 r.1, r.2);
    },
    subst (λ e. TellsLately Q e lately) (sym (same g)) (same_lately (E g) lately t.1),
  )

-- the accesses of a list, and one more
pub among_last : (xs : List Access) (b a : Access) → Among a (xs ++ b ∷ []) → Among a xs ⊎ (a ≡ b)
among_last xs b a h = ⊎_elim (λ x. inl x) (λ y. ⊎_elim (λ e. inr e) (λ z. absurd z) y) (among-append a xs (b ∷ []) h)

pub is_last : (xs : List Access) (b : Access) → Among b (xs ++ b ∷ [])
is_last xs b = among-right b xs (b ∷ []) (inl refl)

module _ (xs : List Access) (E : Epochs) (b : Access) where
  abbrev now_at : Cell → ℕ → ℕ
  now_at c g = E g (fence_of c)

  comes : MayFollow xs E b → Comes (OfCell xs b.cell) (now_at b.cell) b
  comes h = record { cell = λ a p. p.1; now = h.now; grouped = λ a p q. h.grouped a p.0 q }

  pub told_exact : (m : Mark) → MayFollow xs E b → TellsOf xs E b.cell m → (races m b.group b.item b.writes ≡ true) ↔ RacesAmong xs b
  told_exact m h t = (
    λ x. let r = sound (OfCell xs b.cell) (now_at b.cell) b (comes h) m t x in (r.0, r.1.0, r.2),
    λ r. complete (OfCell xs b.cell) (now_at b.cell) b (comes h) m t (r.0, (r.1, r.2.cell), r.2),
  )

  to_joined : (c : Cell) → b.cell ≡ c → (a : Access) → Joined (OfCell xs c) b a → OfCell (xs ++ b ∷ []) c a
  to_joined c q a p =
      ⊎_elim
      (λ x. (among-left a xs (b ∷ []) x.0, x.1))
      (λ y. (subst (λ z. Among z (xs ++ b ∷ [])) (sym y) (is_last xs b), ap (λ (z : Access). z.cell) y ∙ q))
      p

  from_joined : (c : Cell) → (a : Access) → OfCell (xs ++ b ∷ []) c a → Joined (OfCell xs c) b a
  from_joined c a p = ⊎_elim (λ x. inl (x, p.1)) (λ y. inr y) (among_last xs b a p.0)

  pub told_noted : (m : Mark) → MayFollow xs E b → TellsOf xs E b.cell m → races m b.group b.item b.writes ≡ false → TellsOf (xs ++ b ∷ []) E b.cell (noted m b.group b.item b.writes)
  told_noted m h t x =
      same_tells (Joined (OfCell xs b.cell) b) (OfCell (xs ++ b ∷ []) b.cell) (to_joined b.cell refl) (from_joined b.cell) (now_at b.cell) (now_at b.cell) (λ g. refl) (noted m b.group b.item b.writes)
      (kept (OfCell xs b.cell) (now_at b.cell) b (comes h) m t x)

  pub told_elsewhere : (c : Cell) (m : Mark) → b.cell ≢ c → TellsOf xs E c m → TellsOf (xs ++ b ∷ []) E c m
  told_elsewhere c m other t =
      same_tells (OfCell xs c) (OfCell (xs ++ b ∷ []) c)
      (λ a p. (among-left a xs (b ∷ []) p.0, p.1))
      (λ a p. ⊎_elim (λ x. (x, p.1)) (λ y. absurd (other (ap (λ (z : Access). z.cell) (sym y) ∙ p.1))) (among_last xs b a p.0))
      (now_at c) (now_at c) (λ g. refl) m t

-- an access of the same item is no race
pub races_before : (xs : List Access) (a b : Access) → a.item ≡ b.item → RacesAmong (xs ++ a ∷ []) b → RacesAmong xs b
races_before xs a b own r =
    (r.0, ⊎_elim (λ x. x) (λ y. absurd (r.2.items (ap (λ (z : Access). z.item) y ∙ own))) (among_last xs a r.0 r.1), r.2)

pub races_after : (xs : List Access) (a b : Access) → RacesAmong xs b → RacesAmong (xs ++ a ∷ []) b
races_after xs a b r = (r.0, among-left r.0 xs (a ∷ []) r.1, r.2)
