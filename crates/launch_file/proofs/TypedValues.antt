-- What JSON gives for a type is the value of that type which it writes.
use Rattle.std.proofs.Common.{◌≡◌, ◌∙◌, ℕ, suc, ◌≤◌, List, [], ◌∷◌, length, refl, sym, ap, subst, arith, pos, Option, Some, None, Bool, true, false}
use Rattle.std.specs.Prelude.{IsTrue, map, ◌==◌, if◌then◌else◌, option_map, option_and_then}
use Rattle.std.proofs.lemmas.Int.{ints}
use Rattle.serde_json.specs.Data.{Data, Items, no_items, item}
use Rattle.serde_json.specs.Data as json
use Rattle.serde_json.specs.Events.{items_len}
use Rattle.serde_json.specs.Find.{as_array}
use Rattle.serde_json.specs.View.{items_of}
use Rattle.size_arith.specs.declared.names.Name.{Name}
use Rattle.size_arith.specs.Ranges.{AreNames, Admissible, sizes_at}
use Rattle.lift_tree.specs.InputTypes.{Written, Number, Pair, Array}
use Rattle.lift_tree.specs.Lists.{Every}
use Rattle.lift_tree.specs.Types.{IsFormed, HasType}
use Rattle.lift_tree.specs.Values.{Value, Word, Both, array}
use Rattle.lift_tree.specs.WorkedOut.{worked_out}
use Rattle.launch_file.specs.Json.{data_of, with_first, word_in}
use Rattle.launch_file.specs.Inputs.{read_all, read_two, read_many, read_value, length_at}
use Rattle.launch_file.proofs.Options.{and_some, map_some, same_some, eq_of, eq_to}
use Rattle.launch_file.proofs.WrittenData.{word_in_is, word_in_gives, as_array_is}
use Rattle.launch_file.proofs.Proper.{length_value, formed_length}

pub data-array : (vs : List Value) → data_of (array vs) ≡ json.array (items_of (map data_of vs))
data-array [] = refl
data-array (v ∷ vs) = ap (with_first (data_of v)) (data-array vs)

items_len-data : (vs : List Value) → items_len (items_of (map data_of vs)) ≡ length vs
items_len-data [] = refl
items_len-data (v ∷ vs) = ap suc (items_len-data vs)

all_are : (P : Value → Type 0) (f : Data → Option Value) → ((d : Data) (v : Value) → f d ≡ Some v → P v × (d ≡ data_of v))
    → (ds : Items) (vs : List Value) → read_all f ds ≡ Some vs → (ds ≡ items_of (map data_of vs)) × (length vs ≡ items_len ds) × Every P vs
all_are P f each no_items vs h = subst (λ us. (no_items ≡ items_of (map data_of us)) × (length us ≡ 0) × Every P us) (same_some [] vs h) (refl, refl, tt)
all_are P f each (item d ds) vs h =
    let a = and_some (λ v. option_map (λ us. v ∷ us) (read_all f ds)) (f d) vs h in
    let b = map_some (λ us. a.0 ∷ us) (read_all f ds) vs a.2 in
    let w = each d a.0 a.1 in
    let r = all_are P f each ds b.0 b.1 in
    subst (λ us. (item d ds ≡ items_of (map data_of us)) × (length us ≡ suc (items_len ds)) × Every P us) b.2
    (ap (λ x. item x ds) w.1 ∙ ap (item (data_of a.0)) r.0, ap suc r.1, (w.0, r.2))

all_give : (P : Value → Type 0) (f : Data → Option Value) → ((v : Value) → P v → f (data_of v) ≡ Some v) → (vs : List Value) → Every P vs → read_all f (items_of (map data_of vs)) ≡ Some vs
all_give P f each [] h = refl
all_give P f each (v ∷ vs) h =
    ap (option_and_then (λ u. option_map (λ us. u ∷ us) (read_all f (items_of (map data_of vs))))) (each v h.0) ∙ ap (option_map (λ us. v ∷ us)) (all_give P f each vs h.1)

two_are : (f g : Data → Option Value) (ds : Items) (v : Value) → read_two f g ds ≡ Some v
    → (d e : Data) × (x y : Value) × (ds ≡ item d (item e no_items)) × (f d ≡ Some x) × (g e ≡ Some y) × (Both x y ≡ v)
two_are f g no_items v h = absurd (cc)
two_are f g (item d no_items) v h = absurd (cc)
two_are f g (item d (item e no_items)) v h =
    let a = and_some (λ x. option_map (Both x) (g e)) (f d) v h in
    let b = map_some (Both a.0) (g e) v a.2 in
    (d, e, a.0, b.0, refl, a.1, b.1, b.2)
two_are f g (item d (item e (item c ds))) v h = absurd (cc)

chosen : (b : Bool) (o : Option Value) (v : Value) → (if b then o else None) ≡ Some v → IsTrue b × (o ≡ Some v)
chosen true o v h = (refl, h)
chosen false o v h = absurd (cc)

many_are : (f : Data → Option Value) (n : ℕ) (ds : Items) (v : Value) → read_many f n ds ≡ Some v → (vs : List Value) × (items_len ds ≡ n) × (read_all f ds ≡ Some vs) × (array vs ≡ v)
many_are f n ds v h =
    let c = chosen (items_len ds == n) (option_map array (read_all f ds)) v h in
    let m = map_some array (read_all f ds) v c.1 in
    (m.0, eq_of (items_len ds) n c.0, m.1, m.2)

module _ (names : List Name) (ys : List ℕ) (few : length names ≤ 8) (are : AreNames names) (ok : Admissible names ys) where
  abbrev here : List ℕ
  here = sizes_at names ys

  pub value_is : (ty : Written) → IsFormed names (worked_out names ty) → (d : Data) (v : Value) → read_value here ty d ≡ Some v → HasType ys (worked_out names ty) v × (d ≡ data_of v)
  value_is Number formed d v h =
      let m = map_some Word (word_in d) v h in
      let w = word_in_is d m.0 m.1 in
      ((m.0, sym m.2, w.1), w.0 ∙ ap data_of m.2)
  value_is (Pair a b) formed d v h =
      let x = and_some (read_two (read_value here a) (read_value here b)) (as_array d) v h in
      let t = two_are (read_value here a) (read_value here b) x.0 v x.2 in
      let p = value_is a formed.0 t.0 t.2 t.5 in
      let q = value_is b formed.1 t.1 t.3 t.6 in (
        (t.2, t.3, sym t.7, p.0, q.0),
        as_array_is d x.0 x.1 ∙ ap json.array (t.4 ∙ ap (λ e. item e (item t.1 no_items)) p.1 ∙ ap (λ e. item (data_of t.2) (item e no_items)) q.1) ∙ ap data_of t.7,
      )
  value_is (Array a parts) formed d v h =
      let x = and_some (read_many (read_value here a) (length_at here parts)) (as_array d) v h in
      let t = many_are (read_value here a) (length_at here parts) x.0 v x.2 in
      let r = all_are (HasType ys (worked_out names a)) (read_value here a) (value_is a formed.1) x.0 t.0 t.2 in
      let m = formed_length names ys few are ok parts a formed in
      let len = (length_value names ys few are ok parts m.0 m.1).1 in
      ((t.0, sym t.3, ap pos (r.1 ∙ t.1 ∙ len) ∙ sym m.1, r.2), as_array_is d x.0 x.1 ∙ ap json.array r.0 ∙ sym (data-array t.0) ∙ ap data_of t.3)

  same_pos : (m n : ℕ) → pos m ≡ pos n → m ≡ n
  same_pos m n h = omega (arith, ints)

  pub value_gives : (ty : Written) → IsFormed names (worked_out names ty) → (v : Value) → HasType ys (worked_out names ty) v → read_value here ty (data_of v) ≡ Some v
  value_gives Number formed v h = subst (λ u. read_value here Number (data_of u) ≡ Some u) (sym h.1) (ap (option_map Word) (word_in_gives h.0 h.2))
  value_gives (Pair a b) formed v h =
      subst (λ u. read_value here (Pair a b) (data_of u) ≡ Some u) (sym h.2)
      (ap (option_and_then (λ x. option_map (Both x) (read_value here b (data_of h.1)))) (value_gives a formed.0 h.0 h.3) ∙ ap (option_map (Both h.0)) (value_gives b formed.1 h.1 h.4))
  value_gives (Array a parts) formed v h =
      let m = formed_length names ys few are ok parts a formed in
      let len = (length_value names ys few are ok parts m.0 m.1).1 in
      let n = length_at here parts in
      let f = read_value here a in
      let ds = items_of (map data_of h.0) in
      let same : items_len ds ≡ n = items_len-data h.0 ∙ same_pos (length h.0) m.0 (h.2 ∙ m.1) ∙ sym len in
      let all : option_map array (read_all f ds) ≡ Some (array h.0) = ap (option_map array) (all_give (HasType ys (worked_out names a)) f (value_gives a formed.1) h.0 h.3) in
      let test : IsTrue (items_len ds == n) = eq_to (items_len ds) n same in
      let got : read_many f n ds ≡ Some (array h.0) = ap (λ b. if b then option_map array (read_all f ds) else None) test ∙ all in
      subst (λ u. read_value here (Array a parts) (data_of u) ≡ Some u) (sym h.1) (ap (λ d. option_and_then (read_many f n) (as_array d)) (data-array h.0) ∙ got)
