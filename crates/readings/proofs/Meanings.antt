-- What readings take, by what each form means.
use Rattle.std.proofs.Common.{◌≡◌, List, [], ◌∷◌, ◌++◌, Some, refl, sym, subst}
use Rattle.readings.specs.Readings.{Owed, Token, Form, Mark, Grammar, Reads, stands, takes, gives, notes}

-- What forms mean: `Means n f ts n' back`: with the notes n, the form f takes the text ts up to
-- back, and then the notes are n'.
-- All that is owed means the same one after another.
abbrev pub AllMean : {T F M N : Type 0} → Grammar T F M N → (N → F → List T → N → List T → Type 0)
    → List (Owed T F M) → N → List T → N → List T → Type 0
AllMean g means [] n ts n' back = (n ≡ n') × (ts ≡ back)
AllMean g means (Token t ∷ o) n ts n' back =
    (mid : List _) × (ts ≡ t ∷ mid) × AllMean g means o n mid n' back
AllMean g means (Form f ∷ o) n ts n' back =
    (n1 : _) × (mid : List _) × means n f ts n1 mid × AllMean g means o n1 mid n' back
AllMean g means (Mark m ∷ o) n ts n' back =
    (n1 : _) × (g.marked m n ≡ Some n1) × AllMean g means o n1 ts n' back

-- The rule of induction over readings, for whatever the forms mean. No clause can range
-- over that, so it is given here.
module _ {T F M N : Type 0} (g : Grammar T F M N)
    (means : N → F → List T → N → List T → Type 0) where
  -- what is owed one after another takes the text one after another
  pub split : (a o : List (Owed T F M)) (n : N) (ts : List T) (n2 : N) (back : List T)
      → AllMean g means (a ++ o) n ts n2 back
      → (n1 : N) × (mid : List T) × AllMean g means a n ts n1 mid × AllMean g means o n1 mid n2 back
  split [] o n ts n2 back h = (n, ts, (refl, refl), h)
  split (Token t ∷ a) o n ts n2 back h =
      let q = split a o n h.0 n2 back h.2 in (q.0, q.1, (h.0, h.1, q.2), q.3)
  split (Form f ∷ a) o n ts n2 back h =
      let q = split a o h.0 h.1 n2 back h.3 in (q.0, q.1, (h.0, h.1, h.2, q.2), q.3)
  split (Mark m ∷ a) o n ts n2 back h =
      let q = split a o h.0 ts n2 back h.2 in (q.0, q.1, (h.0, h.1, q.2), q.3)

  -- what is read means what its forms mean, where each alternative does
  pub read_means :
      ((n : N) (f : F) (t : T) (alt : List (Owed T F M)) → g.Gives n f t alt
      → (ts : List T) (n1 : N) (back : List T) → AllMean g means alt n ts n1 back
      → means n f (t ∷ ts) n1 back)
      → {o : List (Owed T F M)} {n : N} {ts : List T} {o2 : List (Owed T F M)} {n2 : N}
      → Reads g o n ts o2 n2 → o2 ≡ [] → AllMean g means o n ts n2 []
  read_means kept (stands {o = o} {n = n}) e =
      subst (λ z. AllMean g means z n [] n []) (sym e) (refl, refl)
  read_means kept (takes {ts = ts} r) e = (ts, refl, read_means kept r e)
  read_means kept (gives {f = f} {t = t} {alt = alt} {o = o} {n = n} {n' = n2} {ts = ts} h r) e =
      let q = split alt o n ts n2 [] (read_means kept r e) in
      (q.0, q.1, kept n f t alt h ts q.0 q.1 q.2, q.3)
  read_means kept (notes {n' = n1} h r) e = (n1, h, read_means kept r e)
