-- Values that agree on what is asked for pass and fail the same checks.
use Rattle.std.proofs.Common.{◌≡◌, ℕ, suc, List, [], ◌∷◌, length, Bool, true, false, Option, Some, None, refl, sym, ap, ◌∙◌, subst}
use Rattle.std.specs.Prelude.{◌||◌, IsTrue, Result, Ok, Err, codes, if◌then◌else◌, option_map, option_and_then, bytes_eq}
use Rattle.std.specs.Option.{IsSomeAnd, ok_or}
use Rattle.std.proofs.lemmas.Slice.Eq.{bytes_eq-Decides}
use Rattle.serde_json.specs.Data.{Data, null, boolean, number, string, array, object, Items, no_items, item}
use Rattle.serde_json.specs.Events.{items_len}
use Rattle.serde_json.specs.Find.{get, as_array, as_u64}
use Rattle.kernel_tree.specs.Schedule.{Numbers}
use Rattle.lift_tree.specs.declared.program.Size.{Size}
use Rattle.lift_tree.specs.InputTypes.{Written, Number, Pair, Array}
use Rattle.lift_tree.specs.Programs.{PlainInput, PlainProgram}
use Rattle.lift_tree.specs.Values.{Value, Word, Both}
use Rattle.launch_file.specs.declared.refusal.Key.TheVariants as key
use Rattle.launch_file.specs.declared.refusal.LaunchNo.{LaunchNo}
use Rattle.launch_file.specs.declared.refusal.LaunchNo.TheVariants as no
use Rattle.launch_file.specs.Asked.{is_key, names_size, names_input, is_asked, Agree, AgreeItems}
use Rattle.launch_file.specs.Inputs.{length_at, read_all, read_two, read_many, read_value}
use Rattle.launch_file.specs.Json.{is_object, whole, whole_at, two_in, pair_from, pair_in, pair_at, object_at, word_in, words_in}
use Rattle.launch_file.specs.Judged.{and_then, demand, schedule_from, schedule_in, schedule_at, schedule_judged, count_judged, holder_judged, Keyed, keys_judged, size_judged, sizes_judged, input_judged, inputs_judged, judged}
use Rattle.launch_file.specs.LaunchFile.{PlainAsk, Run, Eval, Cost, asked_inputs}
use Rattle.launch_file.specs.Stages.{StageKeys, members, all_objects, objects_in, launches_at, stage_keys_judged, stage_judged, stages_judged_from, stages_judged}
use Rattle.launch_file.proofs.Pairing.{Pairs, ListPairs, get_pairs, number_same, list_pairs}

-- ---- keys that are asked for

or_left : (a b : Bool) → IsTrue a → IsTrue (a || b)
or_left true b h = refl
or_left false b h = absurd (cc)

or_right : (a b : Bool) → IsTrue b → IsTrue (a || b)
or_right true b h = refl
or_right false b h = h

itself : (k : List ℕ) → IsTrue (bytes_eq k k)
itself k = (bytes_eq-Decides k k).1 refl

own_key : (p : PlainProgram) (k : List ℕ) → IsTrue (is_key k) → IsTrue (is_asked p k)
own_key p k h = or_left (is_key k) _ h

-- ---- results that are alike

abbrev Results : {A : Type 0} (R : A → A → Type 0) → Result A LaunchNo → Result A LaunchNo → Type 0
Results R (Ok a) (Ok b) = R a b
Results R (Err e) (Err f) = e ≡ f
Results R _ _ = ⊥

abbrev Same : {A : Type 0} → A → A → Type 0
Same a b = a ≡ b

and_results : {A B : Type 0} (R : A → A → Type 0) (S : B → B → Type 0) (x y : Result A LaunchNo) (f g : A → Result B LaunchNo)
    → Results R x y → ((a b : A) → R a b → Results S (f a) (g b)) → Results S (and_then x f) (and_then y g)
and_results R S (Ok a) (Ok b) f g h k = k a b h
and_results R S (Ok a) (Err e) f g h k = absurd h
and_results R S (Err e) (Ok b) f g h k = absurd h
and_results R S (Err e) (Err e2) f g h k = h

and_same : {A B : Type 0} (S : B → B → Type 0) (x y : Result A LaunchNo) (f g : A → Result B LaunchNo)
    → x ≡ y → ((a : A) → Results S (f a) (g a)) → Results S (and_then x f) (and_then y g)
and_same S (Ok a) y f g h k = subst (λ z. Results S (f a) (and_then z g)) h (k a)
and_same S (Err e) y f g h k = subst (λ z. Results S (and_then (Err e) f) (and_then z g)) h refl

are_equal : {A : Type 0} (x y : Result A LaunchNo) → Results Same x y → x ≡ y
are_equal (Ok a) (Ok b) h = ap (λ z. Ok z) h
are_equal (Ok a) (Err e) h = absurd h
are_equal (Err e) (Ok b) h = absurd h
are_equal (Err e) (Err f) h = ap (λ z. Err z) h

are_results : {A : Type 0} (x y : Result A LaunchNo) → x ≡ y → Results Same x y
are_results (Ok a) y h = subst (Results Same (Ok a)) h refl
are_results (Err e) y h = subst (Results Same (Err e)) h refl

module _ (p : PlainProgram) where
  -- ---- numbers, lists and objects

  whole_same : (v d : Data) → Agree p v d → whole v ≡ whole d
  whole_same v d h = ap (option_and_then as_u64) (number_same p v d h)

  word_same : (v d : Data) → Agree p v d → word_in v ≡ word_in d
  word_same v d h = rw (whole_same v d h) refl

  pub object_same : (v d : Data) → Agree p v d → is_object v ≡ is_object d
  object_same null d h = ap is_object (sym h)
  object_same (boolean b) d h = ap is_object (sym h)
  object_same (number n) d h = ap is_object (sym h)
  object_same (string s) d h = ap is_object (sym h)
  object_same (array vs) d h = ap is_object (sym h.1)
  object_same (object ms) d h = ap is_object (sym h.1)

  then_same : {A : Type 0} (f : Data → Option A) → ((v d : Data) → Agree p v d → f v ≡ f d) → (a b : Option Data) → Pairs p a b → option_and_then f a ≡ option_and_then f b
  then_same f same None b h = ap (option_and_then f) (sym h)
  then_same f same (Some v) None h = absurd h
  then_same f same (Some v) (Some d) h = same v d h

  list_then_same : {A : Type 0} (f : Items → Option A) → ((vs ds : Items) → AgreeItems p vs ds → f vs ≡ f ds) → (a b : Option Items) → ListPairs p a b → option_and_then f a ≡ option_and_then f b
  list_then_same f same None b h = ap (option_and_then f) (sym h)
  list_then_same f same (Some vs) None h = absurd h
  list_then_same f same (Some vs) (Some ds) h = same vs ds h

  both_same : {A B : Type 0} (f g : Data → Option A) (h : A → A → B) (v w d e : Data) → f v ≡ f d → g w ≡ g e → option_and_then (λ a. option_map (h a) (g w)) (f v) ≡ option_and_then (λ a. option_map (h a) (g e)) (f d)
  both_same f g h v w d e a b = rw (a, b) refl

  two_same : (vs ds : Items) → AgreeItems p vs ds → two_in vs ≡ two_in ds
  two_same no_items ds h = ap two_in (sym h)
  two_same (item v no_items) ds h = ap two_in (sym (h.2 ∙ ap (item h.0) h.4))
  two_same (item v (item w no_items)) ds h =
      let r = h.4 in
      let is : ds ≡ item h.0 (item r.0 no_items) = h.2 ∙ ap (item h.0) (r.2 ∙ ap (item r.0) r.4) in
      both_same whole whole (λ n m. (n, m)) v w h.0 r.0 (whole_same v h.0 h.3) (whole_same w r.0 r.3) ∙ ap two_in (sym is)
  two_same (item v (item w (item x xs))) ds h =
      let r = h.4 in
      let s = r.4 in
      let is : ds ≡ item h.0 (item r.0 (item s.0 s.1)) = h.2 ∙ ap (item h.0) (r.2 ∙ ap (item r.0) s.2) in
      ap two_in (sym is)

  pair_from_same : (a b : Option Items) (m n : Option ℕ) → ListPairs p a b → m ≡ n → pair_from a m ≡ pair_from b n
  pair_from_same None b m n h e = ap (pair_from None) e ∙ ap (λ x. pair_from x n) (sym h)
  pair_from_same (Some vs) None m n h e = absurd h
  pair_from_same (Some vs) (Some ds) m n h e = two_same vs ds h

  pair_same : (v d : Data) → Agree p v d → pair_in v ≡ pair_in d
  pair_same v d h = pair_from_same (as_array v) (as_array d) (whole v) (whole d) (list_pairs p v d h) (whole_same v d h)

  pair_at_same : (k : List ℕ) (v d : Data) → IsTrue (is_asked p k) → Agree p v d → pair_at k v ≡ pair_at k d
  pair_at_same k v d asked h = then_same pair_in pair_same (get k v) (get k d) (get_pairs p k v d asked h)

  whole_at_same : (k : List ℕ) (v d : Data) → IsTrue (is_asked p k) → Agree p v d → whole_at k v ≡ whole_at k d
  whole_at_same k v d asked h = then_same whole whole_same (get k v) (get k d) (get_pairs p k v d asked h)

  object_if : (b c : Bool) (v d : Data) → b ≡ c → Agree p v d → Pairs p (if b then Some v else None) (if c then Some d else None)
  object_if true true v d e h = h
  object_if true false v d e h = absurd (cc)
  object_if false true v d e h = absurd (cc)
  object_if false false v d e h = refl

  abbrev as_object : Data → Option Data
  as_object e = if is_object e then Some e else None

  objects_pair : (a b : Option Data) → Pairs p a b → Pairs p (option_and_then as_object a) (option_and_then as_object b)
  objects_pair None b h = ap (option_and_then as_object) h
  objects_pair (Some v) None h = absurd h
  objects_pair (Some v) (Some d) h = object_if (is_object v) (is_object d) v d (object_same v d h) h

  object_at_pairs : (k : List ℕ) (v d : Data) → IsTrue (is_asked p k) → Agree p v d → Pairs p (object_at k v) (object_at k d)
  object_at_pairs k v d asked h = objects_pair (get k v) (get k d) (get_pairs p k v d asked h)

  pairs_or : (a b : Option Data) (e : LaunchNo) → Pairs p a b → Results (Agree p) (ok_or a e) (ok_or b e)
  pairs_or None b e h = subst (λ o. Results (Agree p) (Err e) (ok_or o e)) (sym h) refl
  pairs_or (Some v) None e h = absurd h
  pairs_or (Some v) (Some d) e h = h

  -- ---- the schedule

  words_same : (vs ds : Items) → AgreeItems p vs ds → words_in vs ≡ words_in ds
  words_same no_items ds h = ap words_in (sym h)
  words_same (item v vs) ds h = rw (word_same v h.0 h.3, words_same vs h.1 h.4) (ap words_in (sym h.2))

  schedule_from_same : (a b : Option Items) (m n : Option ℕ) → ListPairs p a b → m ≡ n → schedule_from a m ≡ schedule_from b n
  schedule_from_same None b m n h e = ap (schedule_from None) e ∙ ap (λ x. schedule_from x n) (sym h)
  schedule_from_same (Some vs) None m n h e = absurd h
  schedule_from_same (Some vs) (Some ds) m n h e = ap (option_map Numbers) (words_same vs ds h)

  schedule_in_same : (v d : Data) → Agree p v d → schedule_in v ≡ schedule_in d
  schedule_in_same v d h =
      schedule_from_same (as_array v) (as_array d) _ _ (list_pairs p v d h)
      (then_same word_in word_same (get (codes "seed") v) (get (codes "seed") d) (get_pairs p (codes "seed") v d (own_key p (codes "seed") refl) h))

  schedule_of_pairs : (a b : Option Data) → Pairs p a b → schedule_at a ≡ schedule_at b
  schedule_of_pairs None b h = ap schedule_at (sym h)
  schedule_of_pairs (Some v) None h = absurd h
  schedule_of_pairs (Some v) (Some d) h = ap (λ o. ok_or o (no.Missing key.Schedule)) (schedule_in_same v d h)

  schedule_at_same : (v d : Data) → Agree p v d → schedule_at (get (codes "schedule") v) ≡ schedule_at (get (codes "schedule") d)
  schedule_at_same v d h = schedule_of_pairs _ _ (get_pairs p (codes "schedule") v d (own_key p (codes "schedule") refl) h)

  -- ---- the inputs

  all_same : (f : Data → Option Value) → ((v d : Data) → Agree p v d → f v ≡ f d) → (vs ds : Items) → AgreeItems p vs ds → read_all f vs ≡ read_all f ds
  all_same f same no_items ds h = ap (read_all f) (sym h)
  all_same f same (item v vs) ds h = rw (same v h.0 h.3, all_same f same vs h.1 h.4) (ap (read_all f) (sym h.2))

  length_same : (vs ds : Items) → AgreeItems p vs ds → items_len vs ≡ items_len ds
  length_same no_items ds h = ap items_len (sym h)
  length_same (item v vs) ds h = ap suc (length_same vs h.1 h.4) ∙ ap items_len (sym h.2)

  many_same : (f : Data → Option Value) (n : ℕ) → ((v d : Data) → Agree p v d → f v ≡ f d) → (vs ds : Items) → AgreeItems p vs ds → read_many f n vs ≡ read_many f n ds
  many_same f n same vs ds h = rw (length_same vs ds h, all_same f same vs ds h) refl

  both_read : (f g : Data → Option Value) → ((v d : Data) → Agree p v d → f v ≡ f d) → ((v d : Data) → Agree p v d → g v ≡ g d) → (vs ds : Items) → AgreeItems p vs ds → read_two f g vs ≡ read_two f g ds
  both_read f g same also no_items ds h = ap (read_two f g) (sym h)
  both_read f g same also (item v no_items) ds h = ap (read_two f g) (sym (h.2 ∙ ap (item h.0) h.4))
  both_read f g same also (item v (item w no_items)) ds h =
      let r = h.4 in
      let is : ds ≡ item h.0 (item r.0 no_items) = h.2 ∙ ap (item h.0) (r.2 ∙ ap (item r.0) r.4) in
      both_same f g Both v w h.0 r.0 (same v h.0 h.3) (also w r.0 r.3) ∙ ap (read_two f g) (sym is)
  both_read f g same also (item v (item w (item x xs))) ds h =
      let r = h.4 in
      let s = r.4 in
      let is : ds ≡ item h.0 (item r.0 (item s.0 s.1)) = h.2 ∙ ap (item h.0) (r.2 ∙ ap (item r.0) s.2) in
      ap (read_two f g) (sym is)

  value_same : (sizes : List ℕ) (ty : Written) (v d : Data) → Agree p v d → read_value sizes ty v ≡ read_value sizes ty d
  value_same sizes Number v d h = ap (option_map Word) (word_same v d h)
  value_same sizes (Pair a b) v d h =
      list_then_same (read_two (read_value sizes a) (read_value sizes b)) (both_read (read_value sizes a) (read_value sizes b) (value_same sizes a) (value_same sizes b)) (as_array v) (as_array d) (list_pairs p v d h)
  value_same sizes (Array a parts) v d h =
      list_then_same (read_many (read_value sizes a) (length_at sizes parts)) (many_same (read_value sizes a) (length_at sizes parts) (value_same sizes a)) (as_array v) (as_array d) (list_pairs p v d h)

  input_same : (sizes : List ℕ) (i : ℕ) (x : PlainInput) (v d : Data) → IsTrue (is_asked p x.name) → Agree p v d → input_judged sizes i x v ≡ input_judged sizes i x d
  input_same sizes i x v d asked h =
      are_equal _ _ (and_results (Agree p) Same _ _ _ _ (pairs_or (get x.name v) (get x.name d) (no.Missing (key.InputAt i)) (get_pairs p x.name v d asked h))
      (λ a b r. are_results _ _ (ap (λ o. ok_or o (no.Shape i)) (value_same sizes x.ty a b r))))

  inputs_same : (sizes : List ℕ) (i : ℕ) (xs : List PlainInput) (v d : Data) → ((k : List ℕ) → IsTrue (names_input xs k) → IsTrue (is_asked p k)) → Agree p v d → inputs_judged sizes i xs v ≡ inputs_judged sizes i xs d
  inputs_same sizes i [] v d asked h = refl
  inputs_same sizes i (x ∷ xs) v d asked h =
      rw (input_same sizes i x v d (asked x.name (or_left _ _ (itself x.name))) h, inputs_same sizes (suc i) xs v d (λ k t. asked k (or_right (bytes_eq x.name k) _ t)) h) refl

  -- ---- the sizes

  size_same : (i : ℕ) (s : Size) (v d : Data) → IsTrue (is_asked p s.name) → Agree p v d → size_judged i s v ≡ size_judged i s d
  size_same i s v d asked h = rw (whole_at_same s.name v d asked h) refl

  sizes_same : (i : ℕ) (ss : List Size) (v d : Data) → ((k : List ℕ) → IsTrue (names_size ss k) → IsTrue (is_asked p k)) → Agree p v d → sizes_judged i ss v ≡ sizes_judged i ss d
  sizes_same i [] v d asked h = refl
  sizes_same i (s ∷ ss) v d asked h =
      rw (size_same i s v d (asked s.name (or_left _ _ (itself s.name))) h, sizes_same (suc i) ss v d (λ k t. asked k (or_right (bytes_eq s.name k) _ t)) h) refl

  all_sizes_same : (v d : Data) → Agree p v d → sizes_judged 0 p.sizes v ≡ sizes_judged 0 p.sizes d
  all_sizes_same v d h = sizes_same 0 p.sizes v d (λ k t. or_right (is_key k) _ (or_left (names_size p.sizes k) _ t)) h

  all_inputs_same : (sizes : List ℕ) (v d : Data) → Agree p v d → inputs_judged sizes 0 p.inputs v ≡ inputs_judged sizes 0 p.inputs d
  all_inputs_same sizes v d h = inputs_same sizes 0 p.inputs v d (λ k t. or_right (is_key k) _ (or_right (names_size p.sizes k) _ t)) h

  asked_inputs_same : (ask : PlainAsk) (sizes : List ℕ) (v d : Data) → Agree p v d → inputs_judged sizes 0 (asked_inputs ask p.inputs) v ≡ inputs_judged sizes 0 (asked_inputs ask p.inputs) d
  asked_inputs_same (Run asks) sizes v d h = all_inputs_same sizes v d h
  asked_inputs_same Eval sizes v d h = all_inputs_same sizes v d h
  asked_inputs_same (Cost asks) sizes v d h = refl

  -- ---- the keys

  count_same : (ask : PlainAsk) (k : List ℕ) (missing : LaunchNo) (v d : Data) → IsTrue (is_asked p k) → Agree p v d → count_judged ask k missing v ≡ count_judged ask k missing d
  count_same (Run asks) k missing v d asked h = ap (λ o. ok_or o missing) (pair_at_same k v d asked h)
  count_same (Cost asks) k missing v d asked h = ap (λ o. ok_or o missing) (pair_at_same k v d asked h)
  count_same Eval k missing v d asked h = refl

  holders_alike : (ask : PlainAsk) (v d : Data) → Agree p v d → Results (Agree p) (holder_judged ask v) (holder_judged ask d)
  holders_alike (Run asks) v d h = pairs_or _ _ (no.Missing key.Inputs) (object_at_pairs (codes "inputs") v d (own_key p (codes "inputs") refl) h)
  holders_alike Eval v d h = pairs_or _ _ (no.Missing key.Inputs) (object_at_pairs (codes "inputs") v d (own_key p (codes "inputs") refl) h)
  holders_alike (Cost asks) v d h = h

  schedule_judged_same : (ask : PlainAsk) (v d : Data) → Agree p v d → schedule_judged ask v ≡ schedule_judged ask d
  schedule_judged_same (Run asks) v d h = schedule_at_same v d h
  schedule_judged_same Eval v d h = refl
  schedule_judged_same (Cost asks) v d h = refl

  -- what stands at the keys agrees
  record KeysAgree (a b : Keyed) : Type 0 where
    pub global : a.global ≡ b.global
    pub local : a.local ≡ b.local
    pub sizes : Agree p a.sizes b.sizes
    pub inputs : Agree p a.inputs b.inputs
    pub schedule : a.schedule ≡ b.schedule

  keys_alike : (ask : PlainAsk) (v d : Data) → Agree p v d → Results KeysAgree (keys_judged ask v) (keys_judged ask d)
  keys_alike ask v d h =
      and_same KeysAgree _ _ _ _ (count_same ask (codes "global") (no.Missing key.Global) v d (own_key p (codes "global") refl) h) (λ global.
      and_same KeysAgree _ _ _ _ (count_same ask (codes "local") (no.Missing key.Local) v d (own_key p (codes "local") refl) h) (λ local.
      and_results (Agree p) KeysAgree _ _ _ _ (pairs_or _ _ (no.Missing key.Sizes) (object_at_pairs (codes "sizes") v d (own_key p (codes "sizes") refl) h)) (λ sizes other agree.
      and_results (Agree p) KeysAgree _ _ _ _ (holders_alike ask v d h) (λ inputs others also.
      and_same KeysAgree _ _ _ _ (schedule_judged_same ask v d h) (λ schedule.
      record { global = refl; local = refl; sizes = agree; inputs = also; schedule = refl })))))

  -- ---- the whole

  pub judged_same : (ask : PlainAsk) (v d : Data) → Agree p v d → judged p ask v ≡ judged p ask d
  judged_same ask v d h =
      are_equal _ _ (and_same Same _ _ _ _ (ap (λ b. demand b no.NotJson) (object_same v d h)) (λ u.
      and_results KeysAgree Same _ _ _ _ (keys_alike ask v d h) (λ a b r.
      and_same Same _ _ _ _ (all_sizes_same a.sizes b.sizes r.sizes) (λ sizes.
      and_same Same _ _ _ _ (rw (r.global, r.local) refl) (λ w.
      and_same Same _ _ _ _ (asked_inputs_same ask sizes a.inputs b.inputs r.inputs) (λ inputs.
      rw (r.global, r.local, r.schedule) refl))))))

  -- ---- kernels in order

  abbrev EachAgrees : List Data → List Data → Type 0
  EachAgrees [] [] = Unit {0}
  EachAgrees (v ∷ vs) (d ∷ ds) = Agree p v d × EachAgrees vs ds
  EachAgrees _ _ = ⊥

  each_member : (vs ds : Items) → AgreeItems p vs ds → EachAgrees (members vs) (members ds)
  each_member no_items ds h = subst (λ x. EachAgrees [] (members x)) (sym h) tt
  each_member (item v vs) ds h = subst (λ x. EachAgrees (v ∷ members vs) (members x)) (sym h.2) (h.3, each_member vs h.1 h.4)

  as_many : (vs ds : List Data) → EachAgrees vs ds → length vs ≡ length ds
  as_many [] [] h = refl
  as_many [] (d ∷ ds) h = absurd h
  as_many (v ∷ vs) [] h = absurd h
  as_many (v ∷ vs) (d ∷ ds) h = ap suc (as_many vs ds h.1)

  objects_same : (vs ds : List Data) → EachAgrees vs ds → all_objects vs ≡ all_objects ds
  objects_same [] [] h = refl
  objects_same [] (d ∷ ds) h = absurd h
  objects_same (v ∷ vs) [] h = absurd h
  objects_same (v ∷ vs) (d ∷ ds) h = rw (object_same v d h.0, objects_same vs ds h.1) refl

  abbrev EachPairs : Option (List Data) → Option (List Data) → Type 0
  EachPairs None o = o ≡ None
  EachPairs (Some vs) o = IsSomeAnd o (EachAgrees vs)

  lists_if : (b c : Bool) (vs ds : List Data) → b ≡ c → EachAgrees vs ds → EachPairs (if b then Some vs else None) (if c then Some ds else None)
  lists_if true true vs ds e h = h
  lists_if true false vs ds e h = absurd (cc)
  lists_if false true vs ds e h = absurd (cc)
  lists_if false false vs ds e h = refl

  lists_in : (count : ℕ) (vs ds : Items) → AgreeItems p vs ds → EachPairs (objects_in count (members vs)) (objects_in count (members ds))
  lists_in count vs ds h =
      let each = each_member vs ds h in
      lists_if _ _ (members vs) (members ds) (rw (as_many (members vs) (members ds) each, objects_same (members vs) (members ds) each) refl) each

  abbrev found_in : (count : ℕ) → Option Items → Option (List Data)
  found_in count o = option_and_then (λ (ds : Items). objects_in count (members ds)) o

  lists_pair : (count : ℕ) (a b : Option Items) → ListPairs p a b → EachPairs (found_in count a) (found_in count b)
  lists_pair count None b h = ap (found_in count) h
  lists_pair count (Some vs) None h = absurd h
  lists_pair count (Some vs) (Some ds) h = lists_in count vs ds h

  arrays_pair : (a b : Option Data) → Pairs p a b → ListPairs p (option_and_then as_array a) (option_and_then as_array b)
  arrays_pair None b h = ap (option_and_then as_array) h
  arrays_pair (Some v) None h = absurd h
  arrays_pair (Some v) (Some d) h = list_pairs p v d h

  lists_or : (a b : Option (List Data)) (e : LaunchNo) → EachPairs a b → Results EachAgrees (ok_or a e) (ok_or b e)
  lists_or None b e h = subst (λ o. Results EachAgrees (Err e) (ok_or o e)) (sym h) refl
  lists_or (Some vs) None e h = absurd h
  lists_or (Some vs) (Some ds) e h = h

  launches_alike : (count : ℕ) (v d : Data) → Agree p v d → Results EachAgrees (ok_or (launches_at count v) (no.Missing key.Launches)) (ok_or (launches_at count d) (no.Missing key.Launches))
  launches_alike count v d h =
      lists_or _ _ (no.Missing key.Launches) (lists_pair count _ _ (arrays_pair _ _ (get_pairs p (codes "launches") v d (own_key p (codes "launches") refl) h)))

  record StagesAgree (a b : StageKeys) : Type 0 where
    pub launches : EachAgrees a.launches b.launches
    pub sizes : Agree p a.sizes b.sizes
    pub inputs : Agree p a.inputs b.inputs
    pub schedule : a.schedule ≡ b.schedule

  stage_keys_alike : (count : ℕ) (v d : Data) → Agree p v d → Results StagesAgree (stage_keys_judged count v) (stage_keys_judged count d)
  stage_keys_alike count v d h =
      and_results EachAgrees StagesAgree _ _ _ _ (launches_alike count v d h) (λ launches others each.
      and_results (Agree p) StagesAgree _ _ _ _ (pairs_or _ _ (no.Missing key.Sizes) (object_at_pairs (codes "sizes") v d (own_key p (codes "sizes") refl) h)) (λ sizes other agree.
      and_results (Agree p) StagesAgree _ _ _ _ (pairs_or _ _ (no.Missing key.Inputs) (object_at_pairs (codes "inputs") v d (own_key p (codes "inputs") refl) h)) (λ inputs others2 also.
      and_same StagesAgree _ _ _ _ (schedule_at_same v d h) (λ schedule.
      record { launches = each; sizes = agree; inputs = also; schedule = refl }))))

  stage_same : (k : ℕ) (ask : PlainAsk) (v d : Data) → Agree p v d → stage_judged k ask v ≡ stage_judged k ask d
  stage_same k ask v d h = rw (pair_at_same (codes "global") v d (own_key p (codes "global") refl) h, pair_at_same (codes "local") v d (own_key p (codes "local") refl) h) refl

  stages_same : (k : ℕ) (asks : List PlainAsk) (vs ds : List Data) → EachAgrees vs ds → stages_judged_from k asks vs ≡ stages_judged_from k asks ds
  stages_same k [] vs ds h = refl
  stages_same k (ask ∷ asks) [] [] h = refl
  stages_same k (ask ∷ asks) [] (d ∷ ds) h = absurd h
  stages_same k (ask ∷ asks) (v ∷ vs) [] h = absurd h
  stages_same k (ask ∷ asks) (v ∷ vs) (d ∷ ds) h = rw (stage_same k ask v d h.0, stages_same (suc k) asks vs ds h.1) refl

  pub stages_judged_same : (asks : List PlainAsk) (v d : Data) → Agree p v d → stages_judged p asks v ≡ stages_judged p asks d
  stages_judged_same asks v d h =
      are_equal _ _ (and_same Same _ _ _ _ (ap (λ b. demand b no.NotJson) (object_same v d h)) (λ u.
      and_results StagesAgree Same _ _ _ _ (stage_keys_alike (length asks) v d h) (λ a b r.
      and_same Same _ _ _ _ (all_sizes_same a.sizes b.sizes r.sizes) (λ sizes.
      and_same Same _ _ _ _ (stages_same 0 asks a.launches b.launches r.launches) (λ counts.
      and_same Same _ _ _ _ (all_inputs_same sizes a.inputs b.inputs r.inputs) (λ inputs.
      rw r.schedule refl))))))
