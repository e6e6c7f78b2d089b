-- What holds of each item that a want leads to.
use Rattle.std.proofs.Common.{◌≡◌, ℕ, List, Option, Some, None, refl}
use Rattle.kernel_tree.specs.Formula.{Ids, Vars, Four, value, lanes_value}
use Rattle.kernel_tree.specs.Code.{Statement, Assigns, Loads, Stores, AssignsFour, LoadsFour, StoresFour}
use Rattle.kernel_tree.specs.Launch.{Launch}
use Rattle.kernel_tree.specs.Item.{Item, Wants, Ends, Waits, Moves, Reads, Writes, ReadsFour, WritesFour, Fails, with_value, perform}
use Rattle.kernel_tree.specs.Device.{Memory, cell_at, four_at, four_words, taken}

-- whatever the item is then, it is of this kind
abbrev pub Leads : (Item → Type 0) → Wants → Type 0
Leads Q Ends = Unit {0}
Leads Q (Waits a b x) = Q x
Leads Q (Moves x) = Q x
Leads Q (Reads a i f) = (v : ℕ) → Q (f v)
Leads Q (Writes a i v x) = Q x
Leads Q (ReadsFour a i f) = (u : Four) → Q (f u)
Leads Q (WritesFour a i u x) = Q x
Leads Q (Fails f) = Unit {0}

-- the item does nothing
abbrev pub Rests : Wants → Type 0
Rests Ends = Unit {0}
Rests (Fails f) = Unit {0}
Rests _ = ⊥

module _ (Q : Item → Type 0) where
  pub leads_if : {A : Type 0} (o : Option A) (go : A → Wants) → ((v : A) → o ≡ Some v → Leads Q (go v)) → Leads Q (with_value o go)
  leads_if None go h = tt
  leads_if (Some v) go h = h v refl

  -- a statement leads on, whatever the variables are then
  pub leads_performed : (ids : Ids) (loops : List ℕ) (vars : Vars) (s : Statement) (on : Vars → Item) → ((u : Vars) → Q (on u)) → Leads Q (perform ids loops vars s on)
  leads_performed ids ls vars (Assigns v e) on h = leads_if (value ids ls vars e) _ (λ x q. h _)
  leads_performed ids ls vars (Loads v a i) on h = leads_if (value ids ls vars i) _ (λ n q x. h _)
  leads_performed ids ls vars (Stores a i e) on h = leads_if (value ids ls vars i) _ (λ n q. leads_if (value ids ls vars e) _ (λ x r. h _))
  leads_performed ids ls vars (AssignsFour v e) on h = leads_if (lanes_value ids ls vars e) _ (λ x q. h _)
  leads_performed ids ls vars (LoadsFour v a i) on h = leads_if (value ids ls vars i) _ (λ n q u. h _)
  leads_performed ids ls vars (StoresFour a i e) on h = leads_if (value ids ls vars i) _ (λ n q. leads_if (lanes_value ids ls vars e) _ (λ u r. h _))
  leads_performed ids ls vars _ on h = h vars

  -- an item that does nothing stays as it is
  pub leads_taken : (l : Launch) (k : ℕ) (w : Wants) (m : Memory) (y : Item) → Leads Q w → (Rests w → Q y) → Q (taken l k w m y)
  leads_taken l k Ends m y h q = q tt
  leads_taken l k (Fails f) m y h q = q tt
  leads_taken l k (Waits a b x) m y h q = h
  leads_taken l k (Moves x) m y h q = h
  leads_taken l k (Reads a i f) m y h q = h (m (cell_at l k a i))
  leads_taken l k (Writes a i v x) m y h q = h
  leads_taken l k (ReadsFour a i f) m y h q = h (four_words m (four_at l k a i))
  leads_taken l k (WritesFour a i u x) m y h q = h
