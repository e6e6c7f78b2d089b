-- Values as the program holds them, read from JSON.
use Rattle.std.proofs.Common.{◌≡◌, ◌∙◌, ℕ, List, [], ◌∷◌, length, refl, sym, ap, rules, Option, Some, None, Bool, true, false}
use Rattle.std.specs.Prelude.{Vec, map, IsTrue, ◌==◌, if◌then◌else◌, option_map, option_and_then}
use Rattle.std.specs.Global.{Global}
use Rattle.serde_json.specs.Data.{Data}
use Rattle.serde_json.specs.View.{items_view}
use Rattle.serde_json.specs.declared.value.Value as json
use Rattle.lift_tree.specs.declared.value.Val as held
use Rattle.lift_tree.specs.declared.value.Val.{Val, the_lemmas, Row_of-Val, end_of-Val, more_of-Val, items-the_row-Val}
use Rattle.lift_tree.specs.Values.{Value, More, value_of, row_value, array}
use Rattle.launch_file.specs.Json.{two_in}
use Rattle.launch_file.specs.Inputs.{read_two, read_many, read_all, read_value, length_at}
use Rattle.lift_tree.specs.declared.length.Part.{Part}
use Rattle.lift_tree.specs.InputTypes.{Written, Array}
use Rattle.serde_json.specs.Find.{as_array}
use Rattle.launch_file.proofs.Options.{eq_of, eq_to}
use Rattle.serde_json.specs.Events.{items_len}
use Rattle.serde_json.proofs.Views.{items_len-items_view}

row_items : (n : _) (row : Row_of-Val n) → row_value row ≡ array (map value_of (items-the_row-Val n row))
row_items n end_of-Val = refl
row_items n (more_of-Val v rest) = ap (More (value_of v)) (row_items _ rest)

pub value_of-List : (xs : Vec Val Global) → value_of (held.List xs) ≡ array (map value_of xs.items)
value_of-List xs = search (rules, the_lemmas, row_items)

-- what isn't a list of two is no pair
pub no_two : (f g : Data → Option Value) (vs : List json.Value) → (length vs ≡ 2 → ⊥) → read_two f g (items_view vs) ≡ None
no_two f g [] h = refl
no_two f g (u ∷ []) h = refl
no_two f g (u ∷ v ∷ []) h = absurd (h refl)
no_two f g (u ∷ v ∷ w ∷ vs) h = refl

-- nor two numbers
pub no_pair : (vs : List json.Value) → (length vs ≡ 2 → ⊥) → two_in (items_view vs) ≡ None
no_pair [] h = refl
no_pair (u ∷ []) h = refl
no_pair (u ∷ v ∷ []) h = absurd (h refl)
no_pair (u ∷ v ∷ w ∷ vs) h = refl

pub ruleset read_pairs = (no_pair)

if_not : (b : Bool) → (IsTrue b → ⊥) → (o : Option Value) → (if b then o else None) ≡ None
if_not true h o = absurd (h refl)
if_not false h o = refl

-- a list is of its length or of none
pub no_many : (f : Data → Option Value) (n : ℕ) (vs : List json.Value) → (length vs ≡ n → ⊥) → read_many f n (items_view vs) ≡ None
no_many f n vs h = if_not (items_len (items_view vs) == n) (λ t. h (sym (items_len-items_view vs) ∙ eq_of (items_len (items_view vs)) n t)) (option_map array (read_all f (items_view vs)))

pub all_many : (f : Data → Option Value) (n : ℕ) (vs : List json.Value) → length vs ≡ n → read_many f n (items_view vs) ≡ option_map array (read_all f (items_view vs))
all_many f n vs h = ap (λ b. if b then option_map array (read_all f (items_view vs)) else None) (eq_to (items_len (items_view vs)) n (items_len-items_view vs ∙ h))

pub ruleset arrays = (value_of-List)

pub ruleset read_values = (no_two, no_many)

-- the members that are read make an array
pub array_read : (sizes : List ℕ) (a ty : Written) (parts : List Part) (d : Data) (vs xs : List json.Value) (o : Option (Vec Val Global)) (r : Option Val)
    → ty ≡ Array a parts → Some (items_view vs) ≡ as_array d → xs ≡ vs → length vs ≡ length_at sizes parts
    → option_map (λ (ms : Vec Val Global). map value_of ms.items) o ≡ read_all (read_value sizes a) (items_view xs)
    → option_map value_of r ≡ option_map array (option_map (λ (ms : Vec Val Global). map value_of ms.items) o)
    → option_map value_of r ≡ read_value sizes ty d
array_read sizes a ty parts d vs xs o r t e x len read made =
    let f = read_value sizes a in
    made ∙ ap (option_map array) (read ∙ ap (λ ys. read_all f (items_view ys)) x) ∙ sym (all_many f (length_at sizes parts) vs len)
    ∙ ap (option_and_then (read_many f (length_at sizes parts))) e ∙ ap (λ w. read_value sizes w d) (sym t)
