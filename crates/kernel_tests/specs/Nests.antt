-- A small grammar: nest = "x" | "(" nest ")". Its depth is noted.
use Rattle.std.specs.Prelude.{◌≡◌, ℕ, suc, List, [], ◌∷◌, Option, Some, None, Bool, true, false, cond, nat_eq, refl}
use Rattle.std.proofs.Common.{sym, subst}
use Rattle.std.proofs.lemmas.Bool.{eqb-true, eq-eqb}
use Rattle.std.proofs.lemmas.Option.{same_Some, cond_some}
use Rattle.readings.specs.Readings.{Owed, Token, Form, Mark, Grammar}
use Rattle.readings.specs.Running.{Table, Decides}

-- What is owed of a text: a token, a nest, or a mark
abbrev pub Item : Type 0
Item = Owed ℕ (Unit {0}) (Unit {0})

-- What is owed behind "(": a nest, ")", and a mark
abbrev pub inside : List Item
inside = Form tt ∷ Token 41 ∷ Mark tt ∷ []

-- The token that a nest begins with, and what is owed behind it, whatever the depth noted
pub data Gives : ℕ → Unit {0} → ℕ → List Item → Type 0 where
  leaf : {n : ℕ} → Gives n tt 120 []
  pair : {n : ℕ} → Gives n tt 40 inside

-- A mark makes the depth noted one more.
abbrev pub marked : Unit {0} → ℕ → Option ℕ
marked m n = Some (suc n)

-- The grammar of nests
abbrev pub nests : Grammar ℕ (Unit {0}) (Unit {0}) ℕ
nests = record { Gives = Gives; marked = marked }

-- The alternative that the next token chooses
abbrev pub row : ℕ → Unit {0} → ℕ → Option (List Item)
row n f t = cond (nat_eq t 120) (Some []) (cond (nat_eq t 40) (Some inside) None)

-- The table of nests: its rows, and when two tokens are the same
abbrev pub table : Table ℕ (Unit {0}) (Unit {0}) ℕ
table = record { same = nat_eq; row = row; marked = marked }

found : (n : ℕ) (f : Unit {0}) (t : ℕ) (alt : List Item) → row n f t ≡ Some alt → Gives n f t alt
found n f t alt e = at_leaf (nat_eq t 120) refl e where
  at_pair : cond (nat_eq t 40) (Some inside) None ≡ Some alt → Gives n f t alt
  at_pair h =
      let k = cond_some (nat_eq t 40) inside alt h in
      subst (λ z. Gives n f z alt) (sym (eqb-true t 40 k.0)) (subst (Gives n f 40) k.1 pair)

  at_leaf : (b : Bool) → nat_eq t 120 ≡ b
      → cond b (Some []) (cond (nat_eq t 40) (Some inside) None) ≡ Some alt → Gives n f t alt
  at_leaf true k h =
      subst (λ z. Gives n f z alt) (sym (eqb-true t 120 k))
      (subst (Gives n f 120) (same_Some _ _ h) leaf)
  at_leaf false k h = at_pair h

only : (n : ℕ) (f : Unit {0}) (t : ℕ) (alt : List Item) → Gives n f t alt → row n f t ≡ Some alt
only n f t alt leaf = refl
only n f t alt pair = refl

-- Each row is the only alternative of the grammar for its token.
pub decided : Decides nests table
decided =
    record {
      same = eqb-true;
      itself = λ t. eq-eqb t t refl;
      found = found;
      only = only;
      marked = λ m n. refl;
    }
