-- In every run each item stands at a place of its kernel's text.
use Rattle.std.proofs.Common.{◌≡◌, ◌⊎◌, ℕ, ◌+◌, ◌^◌, List, [], ◌∷◌, ◌++◌, Bool, true, false, refl, sym, subst, ⊎_elim, inl, inr}
use Rattle.std.specs.Prelude.{if◌then◌else◌, nat_lt, map}
use Rattle.kernel_tree.specs.declared.events.Event.{Event}
use Rattle.kernel_tree.specs.declared.events.FaultKind.TheVariants.{LoopWrap}
use Rattle.kernel_tree.specs.Formula.{Ids, Vars, bound_value}
use Rattle.kernel_tree.specs.Code.{start_value, stride_value, Code, End, Performs, Loops, Guards, then_rest}
use Rattle.kernel_tree.specs.Launch.{ids_of}
use Rattle.kernel_tree.specs.Item.{Frame, Item, item, loop_variables, Wants, Moves, Fails, tested, next_turn, next_at, next}
use Rattle.kernel_tree.specs.Device.{Device, device_of, State, wants, moves, taken, after, run}
use Rattle.kernel_tree.specs.Faults.{Among}
use Rattle.kernel_tree.specs.Places.{Place, place, around, untimed, places, all_places, place_of_item, ItemsStand}
use Rattle.kernel_tree.proofs.Leads.{Leads, leads_if, leads_performed, leads_taken}
use Rattle.kernel_tree.proofs.Rows.{then-end}
use Rattle.kernel_tree.proofs.Confluence.{among-append, among-left, among-right}

-- places from which one comes to places of the kind

module _ (S : Place → Type 0) where
  onward : Code → List Frame → Type 0
  onward End fs = Unit {0}
  onward (Performs s after) fs = S (place after fs)
  onward (Loops s b c body after) fs = S (place body (around b c body after ∷ fs)) × S (place after fs)
  onward (Guards s b body after) fs = S (place (then_rest body after) fs) × S (place after fs)

  Onward : Place → Type 0
  Onward p = onward p.code p.loops

  Holds : List Place → Type 0
  Holds ps = (p : Place) → Among p ps → S p

  starts : (c rest : Code) (fs : List Frame) → Holds (places c rest fs) → S (place rest fs) → S (place (then_rest c rest) fs)
  unfolding Holds
  starts End rest fs all r = r
  starts (Performs s after) rest fs all r = all _ (inl refl)
  starts (Loops s b c body after) rest fs all r = all _ (inl refl)
  starts (Guards s b body after) rest fs all r = all _ (inl refl)

  -- one statement, and those behind it
  closed_on : (c after rest : Code) (fs : List Frame) → Onward (place c fs) → ((p : Place) → Among p (places after rest fs) → Onward p) → (p : Place) → (p ≡ place c fs) ⊎ Among p (places after rest fs) → Onward p
  closed_on c after rest fs here more p m = ⊎_elim (λ q. subst Onward (sym q) here) (λ x. more p x) m

  closed : (c rest : Code) (fs : List Frame) → Holds (places c rest fs) → S (place rest fs) → (p : Place) → Among p (places c rest fs) → Onward p
  unfolding Holds Onward onward
  closed End rest fs all r p m = absurd m
  closed (Performs s after) rest fs all r p m =
      closed_on (Performs s (then_rest after rest)) after rest fs (starts after rest fs (λ x i. all x (inr i)) r) (closed after rest fs (λ x i. all x (inr i)) r) p m
  closed (Guards s b body after) rest fs all r p m =
      let inside = places body (then_rest after rest) fs in
      let in_body = λ (x : Place) (i : Among x inside). all x (inr (among-left x inside (places after rest fs) i)) in
      let behind = λ (x : Place) (i : Among x (places after rest fs)). all x (inr (among-right x inside (places after rest fs) i)) in
      let next = starts after rest fs behind r in
      ⊎_elim (λ q. subst Onward (sym q) (starts body (then_rest after rest) fs in_body next, next))
      (λ x. ⊎_elim (λ y. closed body (then_rest after rest) fs in_body next p y) (λ y. closed after rest fs behind r p y) (among-append p inside (places after rest fs) x))
      m
  closed (Loops s b c body after) rest fs all r p m =
      let inner = around b c body (then_rest after rest) ∷ fs in
      let inside = places body End inner in
      let end = place End inner in
      let here = inside ++ end ∷ [] in
      let in_body = λ (x : Place) (i : Among x inside). all x (inr (among-left x here (places after rest fs) (among-left x inside (end ∷ []) i))) in
      let at_end = all end (inr (among-left end here (places after rest fs) (among-right end inside (end ∷ []) (inl refl)))) in
      let behind = λ (x : Place) (i : Among x (places after rest fs)). all x (inr (among-right x here (places after rest fs) i)) in
      ⊎_elim (λ q. subst Onward (sym q) (subst (λ x. S (place x inner)) (then-end body) (starts body End inner in_body at_end), starts after rest fs behind r))
      (λ x. ⊎_elim
      (λ y. ⊎_elim (λ z. closed body End inner in_body at_end p z) (λ z. ⊎_elim (λ q. subst Onward (sym q) tt) (λ n. absurd n) z) (among-append p inside (end ∷ []) y))
      (λ y. closed after rest fs behind r p y)
      (among-append p here (places after rest fs) x))
      m

-- items of a kernel with this text

module _ (root : Code) where
  S : Place → Type 0
  S p = Among p (all_places root)

  from : (p : Place) → S p → Onward S p
  unfolding S Onward onward Holds
  from p m =
      ⊎_elim
      (λ x. closed S root End [] (λ y i. among-left y (places root End []) _ i) (among-right (place End []) (places root End []) _ (inl refl)) p x)
      (λ x. ⊎_elim (λ q. subst (Onward S) (sym q) tt) (λ z. absurd z) x)
      (among-append p (places root End []) (place End [] ∷ []) m)

  first_place : S (place root [])
  unfolding S Holds
  first_place =
      subst (λ c. S (place c [])) (then-end root) (starts S root End [] (λ y i. among-left y (places root End []) _ i) (among-right (place End []) (places root End []) _ (inl refl)))

  -- from a loop's end one comes to its body again, or behind it
  InLoops : List Frame → Type 0
  InLoops [] = Unit {0}
  InLoops (f ∷ fs) = S (place f.body (map untimed (f ∷ fs))) × S (place f.after (map untimed fs)) × InLoops fs

  Stands : Item → Type 0
  Stands x = S (place_of_item x) × InLoops x.frames

  abbrev Goes : Wants → Type 0
  Goes w = Leads Stands w

  either : (t : Bool) (x y : Item) → Stands x → Stands y → Goes (Moves (if t then x else y))
  either true x y a b = a
  either false x y a b = b

  goes_tested : (b : ℕ) (f : Frame) (fs : List Frame) (vars : Vars) → InLoops (f ∷ fs) → Goes (tested b f fs vars)
  unfolding Stands InLoops
  goes_tested b f fs vars h = either (nat_lt f.variable b) (item f.body (f ∷ fs) vars) (item f.after fs vars) (h.0, h) (h.1, h.2)

  goes_next : (ids : Ids) (c : Code) (fs : List Frame) (vars : Vars) → S (place c (map untimed fs)) → InLoops fs → Goes (next_at ids c fs vars)
  unfolding Stands InLoops Onward onward
  goes_next ids End [] vars m h = tt
  goes_next ids End (f ∷ fs) vars m h = leads_if Stands (bound_value ids.sizes f.bound) _ (λ b q. again b (nat_lt (f.variable + stride_value ids f.stride) (2 ^ 32)))
    where
      again : (b : ℕ) (t : Bool) → Goes (if t then tested b (next_turn ids f) fs vars else Fails LoopWrap)
      again b true = goes_tested b (next_turn ids f) fs vars h
      again b false = tt
  goes_next ids (Performs s after) fs vars m h = leads_performed Stands ids (loop_variables fs) vars s _ (λ u. (from _ m, h))
  goes_next ids (Loops s b c body after) fs vars m h =
      let on = from _ m in
      leads_if Stands (bound_value ids.sizes b) _ (λ n q. goes_tested n (record { turn = 0; variable = start_value ids s; bound = b; stride = c; body = body; after = after }) fs vars (on.0, on.1, h))
  goes_next ids (Guards s b body after) fs vars m h =
      let on = from _ m in
      leads_if Stands (bound_value ids.sizes b) _ (λ n q. either (nat_lt (start_value ids s) n) (item (then_rest body after) fs vars) (item after fs vars) (on.0, h) (on.1, h))

  module _ (d : Device) (j : ℕ) where
    stands_on : (s : State) (e : Event) → Stands (s.items j) → Stands ((after d s e).items j)
    unfolding after next Stands
    stands_on s e h = go (moves d.launch e j)
      where
        go : (b : Bool) → Stands (if b then taken d.launch j (wants d s j) s.memory (s.items j) else s.items j)
        go true = leads_taken Stands d.launch j (wants d s j) s.memory (s.items j) (goes_next (ids_of d.launch j) (s.items j).code (s.items j).frames (s.items j).vars h.0 h.1) (λ r. h)
        go false = h

    stands_through : (s : State) (es : List Event) → Stands (s.items j) → Stands ((run d s es).items j)
    stands_through s [] h = h
    stands_through s (e ∷ es) h = stands_through (after d s e) es (stands_on s e h)

pub items_stand : ItemsStand
unfolding Stands S InLoops
items_stand k l c s es start r j lt =
    (stands_through k.code (device_of k l c) j s es (subst (Stands k.code) (sym (start.items j lt)) (first_place k.code, tt))).0
