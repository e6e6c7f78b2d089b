-- Values that agree, and what they have at the keys that are asked for.
use Rattle.std.proofs.Common.{◌≡◌, ℕ, List, [], ◌∷◌, ◌++◌, Bool, true, false, Option, Some, None, Ordering, Less, Equal, Greater, refl, sym, ap, subst, ⊎_elim, inl, inr, bytes_eq, nat_cmp}
use Rattle.std.specs.Prelude.{IsTrue, ◌⊎◌}
use Rattle.std.specs.Bool.{Decides}
use Rattle.std.specs.Option.{IsSomeAnd}
use Rattle.std.specs.Ordering.{match_ordering}
use Rattle.std.specs.Cmp.Lexicographic.{slice_cmp}
use Rattle.std.proofs.lemmas.Slice.Eq.{bytes_eq-Decides}
use Rattle.json.specs.Token.{Token}
use Rattle.json.specs.Json.{parse_map}
use Rattle.serde_json.specs.Data.{Data, null, boolean, number, string, array, object, Items, no_items, item, Members, no_members, member, put}
use Rattle.serde_json.specs.Find.{get, get_member, as_array, as_number}
use Rattle.serde_json.specs.View.{view, items_view}
use Rattle.serde_json.specs.declared.value.Value.{Value}
use Rattle.serde_json.proofs.Views.{get_member-put, get_member-put_other}
use Rattle.lift_tree.specs.Programs.{PlainProgram}
use Rattle.launch_file.specs.Asked.{is_asked, Agree, AgreeItems, AgreeMembers, AtOrder, HoldsAt}

-- ---- what two values have at a key

-- neither has anything there, or both have, and that agrees
abbrev pub Pairs : PlainProgram → Option Data → Option Data → Type 0
Pairs p None o = o ≡ None
Pairs p (Some v) o = IsSomeAnd o (Agree p v)

module _ (p : PlainProgram) (k : List ℕ) (o : Option Data) where
  from_order : (w : Ordering) (v : Data) (rest : Option Data) (later : Type 0) → (later → Pairs p rest o) → AtOrder w (IsSomeAnd o (Agree p v)) later → Pairs p (match_ordering w rest (Some v) rest) o
  from_order Less v rest later f h = f h
  from_order Equal v rest later f h = h
  from_order Greater v rest later f h = f h

  to_order : (w : Ordering) (v : Data) (rest : Option Data) (later : Type 0) → (Pairs p rest o → later) → Pairs p (match_ordering w rest (Some v) rest) o → AtOrder w (IsSomeAnd o (Agree p v)) later
  to_order Less v rest later f h = f h
  to_order Equal v rest later f h = h
  to_order Greater v rest later f h = f h

  pub pairs_at : (ms : Members) → HoldsAt p ms k o → Pairs p (get_member k ms) o
  pairs_at no_members h = h
  pairs_at (member l v ms) h = from_order (slice_cmp nat_cmp k l) v (get_member k ms) (HoldsAt p ms k o) (pairs_at ms) h

  pub holds_at : (ms : Members) → Pairs p (get_member k ms) o → HoldsAt p ms k o
  holds_at no_members h = h
  holds_at (member l v ms) h = to_order (slice_cmp nat_cmp k l) v (get_member k ms) (HoldsAt p ms k o) (holds_at ms) h

-- ---- objects with one member more

module _ (p : PlainProgram) (k : List ℕ) (d : Data) (ms ns : Members) (agree : AgreeMembers p ms ns) where
  same_or : (q : List ℕ) → (q ≡ k) ⊎ (q ≡ k → ⊥)
  same_or q = by_test (bytes_eq q k) (bytes_eq-Decides q k)
    where
      by_test : (b : Bool) → Decides b (q ≡ k) → (q ≡ k) ⊎ (q ≡ k → ⊥)
      by_test true h = inl (h.0 refl)
      by_test false h = inr (λ e. let no : false ≡ true = h.1 e in absurd (cc))

  pub put_both : (v : Data) → Agree p v d → AgreeMembers p (put k v ms) (put k d ns)
  put_both v h = λ q asked. holds_at p q (get_member q (put k d ns)) (put k v ms)
      (⊎_elim
      (λ same. subst (λ x. Pairs p (get_member x (put k v ms)) (get_member x (put k d ns))) (sym same)
      (subst (λ o. Pairs p o (get_member k (put k d ns))) (sym (get_member-put k v ms))
      (subst (λ o. IsSomeAnd o (Agree p v)) (sym (get_member-put k d ns)) h)))
      (λ other. subst (λ o. Pairs p o (get_member q (put k d ns))) (sym (get_member-put_other q k v ms other))
      (subst (Pairs p (get_member q ms)) (sym (get_member-put_other q k d ns other))
      (pairs_at p q (get_member q ns) ms (agree q asked))))
      (same_or q))

  pub put_unasked : (IsTrue (is_asked p k) → ⊥) → AgreeMembers p ms (put k d ns)
  put_unasked unasked = λ q asked.
      let other : q ≡ k → ⊥ = λ same. unasked (subst (λ x. IsTrue (is_asked p x)) same asked) in
      subst (HoldsAt p ms q) (sym (get_member-put_other q k d ns other)) (agree q asked)

-- ---- lists that grow at their end

abbrev pub items_after : List Data → Items → Items
items_after [] rest = rest
items_after (d ∷ ds) rest = item d (items_after ds rest)

abbrev pub AgreeEach : PlainProgram → List Value → List Data → Type 0
AgreeEach p [] [] = Unit {0}
AgreeEach p (v ∷ vs) (d ∷ ds) = Agree p (view v) d × AgreeEach p vs ds
AgreeEach p _ _ = ⊥

pub one_more : (p : PlainProgram) (vs : List Value) (ds : List Data) (v : Value) (d : Data) → AgreeEach p vs ds → Agree p (view v) d → AgreeEach p (vs ++ v ∷ []) (ds ++ d ∷ [])
one_more p [] [] v d h a = (a, tt)
one_more p [] (e ∷ ds) v d h a = absurd h
one_more p (w ∷ vs) [] v d h a = absurd h
one_more p (w ∷ vs) (e ∷ ds) v d h a = (h.0, one_more p vs ds v d h.1 a)

item_last : (ds : List Data) (d : Data) (rest : Items) → items_after ds (item d rest) ≡ items_after (ds ++ d ∷ []) rest
item_last [] d rest = refl
item_last (e ∷ ds) d rest = ap (item e) (item_last ds d rest)

-- what is read of a list, after one item more
pub one_item_more : (ds : List Data) (d : Data) (r : Option (Items × List Token)) → parse_map (items_after ds) (parse_map (item d) r) ≡ parse_map (items_after (ds ++ d ∷ [])) r
one_item_more ds d None = refl
one_item_more ds d (Some p) = ap (λ x. Some (x, p.1)) (item_last ds d p.0)

pub agree_items : (p : PlainProgram) (vs : List Value) (ds : List Data) → AgreeEach p vs ds → AgreeItems p (items_view vs) (items_after ds no_items)
agree_items p [] [] h = refl
agree_items p [] (d ∷ ds) h = absurd h
agree_items p (v ∷ vs) [] h = absurd h
agree_items p (v ∷ vs) (d ∷ ds) h = (d, items_after ds no_items, refl, h.0, agree_items p vs ds h.1)

-- ---- what values that agree are

module _ (p : PlainProgram) where
  -- at a key that is asked for
  pub get_pairs : (k : List ℕ) (v d : Data) → IsTrue (is_asked p k) → Agree p v d → Pairs p (get k v) (get k d)
  get_pairs k null d asked h = ap (get k) h
  get_pairs k (boolean b) d asked h = ap (get k) h
  get_pairs k (number n) d asked h = ap (get k) h
  get_pairs k (string s) d asked h = ap (get k) h
  get_pairs k (array vs) d asked h = ap (get k) h.1
  get_pairs k (object ms) d asked h = subst (λ x. Pairs p (get_member k ms) (get k x)) (sym h.1) (pairs_at p k (get_member k h.0) ms (h.2 k asked))

  pub number_same : (v d : Data) → Agree p v d → as_number v ≡ as_number d
  number_same null d h = ap as_number (sym h)
  number_same (boolean b) d h = ap as_number (sym h)
  number_same (number n) d h = ap as_number (sym h)
  number_same (string s) d h = ap as_number (sym h)
  number_same (array vs) d h = ap as_number (sym h.1)
  number_same (object ms) d h = ap as_number (sym h.1)

  -- both are lists, or neither is
  abbrev pub ListPairs : Option Items → Option Items → Type 0
  ListPairs None o = o ≡ None
  ListPairs (Some vs) o = IsSomeAnd o (AgreeItems p vs)

  pub list_pairs : (v d : Data) → Agree p v d → ListPairs (as_array v) (as_array d)
  list_pairs null d h = ap as_array h
  list_pairs (boolean b) d h = ap as_array h
  list_pairs (number n) d h = ap as_array h
  list_pairs (string s) d h = ap as_array h
  list_pairs (array vs) d h = subst (λ x. IsSomeAnd (as_array x) (AgreeItems p vs)) (sym h.1) h.2
  list_pairs (object ms) d h = ap as_array h.1
