-- Numbers and lists of numbers in JSON.
use Rattle.std.proofs.Common.{◌≡◌, ◌∙◌, ℕ, ◌<◌, ◌^◌, List, [], ◌∷◌, refl, sym, ap, subst, Option, Some, None, inl, inr}
use Rattle.std.specs.Prelude.{IsTrue, nat_lt, if◌then◌else◌, option_map, option_and_then}
use Rattle.serde_json.specs.Data.{Data, null, boolean, number, string, array, object, Items, no_items, item, unsigned, negative, float}
use Rattle.serde_json.specs.Find.{get, as_array}
use Rattle.lift_tree.specs.Lists.{Every}
use Rattle.launch_file.specs.Json.{is_object, whole, whole_at, two_in, pair_from, pair_in, pair_at, object_at, word_in, words_in, number_data, items_data}
use Rattle.launch_file.specs.LaunchFile.{StandsAt, IsPair, PairAt}
use Rattle.launch_file.proofs.Options.{and_some, map_some, same_some, tested, passed, lt_of, lt_to}

pub whole_is : (d : Data) (n : ℕ) → whole d ≡ Some n → d ≡ number_data n
whole_is null n h = absurd (cc)
whole_is (boolean b) n h = absurd (cc)
whole_is (number (unsigned m)) n h = ap number_data (same_some m n h)
whole_is (number (negative z)) n h = absurd (cc)
whole_is (number (float x)) n h = absurd (cc)
whole_is (string s) n h = absurd (cc)
whole_is (array ds) n h = absurd (cc)
whole_is (object ms) n h = absurd (cc)

pub whole_at_is : (key : List ℕ) (d : Data) (n : ℕ) → whole_at key d ≡ Some n → StandsAt key d n
whole_at_is key d n h = let a = and_some whole (get key d) n h in a.1 ∙ ap Some (whole_is a.0 n a.2)

pub whole_at_gives : (key : List ℕ) (d : Data) (n : ℕ) → StandsAt key d n → whole_at key d ≡ Some n
whole_at_gives key d n h = ap (option_and_then whole) h

pub object_at_is : (key : List ℕ) (d e : Data) → object_at key d ≡ Some e → (get key d ≡ Some e) × IsTrue (is_object e)
object_at_is key d e h =
    let a = and_some (λ x. if is_object x then Some x else None) (get key d) e h in
    let t = tested (is_object a.0) a.0 e a.2 in
    (a.1 ∙ ap Some t.1, subst (λ x. IsTrue (is_object x)) t.1 t.0)

pub object_at_gives : (key : List ℕ) (d e : Data) → get key d ≡ Some e → IsTrue (is_object e) → object_at key d ≡ Some e
object_at_gives key d e h t = ap (option_and_then (λ x. if is_object x then Some x else None)) h ∙ passed (is_object e) e t

pub word_in_is : (d : Data) (n : ℕ) → word_in d ≡ Some n → (d ≡ number_data n) × (n < 2 ^ 32)
word_in_is d n h =
    let a = and_some (λ m. if nat_lt m (2 ^ 32) then Some m else None) (whole d) n h in
    let t = tested (nat_lt a.0 (2 ^ 32)) a.0 n a.2 in
    (whole_is d a.0 a.1 ∙ ap number_data t.1, subst (λ k. k < 2 ^ 32) t.1 (lt_of a.0 (2 ^ 32) t.0))

pub word_in_gives : (n : ℕ) → n < 2 ^ 32 → word_in (number_data n) ≡ Some n
word_in_gives n h = passed (nat_lt n (2 ^ 32)) n (lt_to n (2 ^ 32) h)

pub words_in_is : (ds : Items) (ns : List ℕ) → words_in ds ≡ Some ns → (ds ≡ items_data ns) × Every (λ n. n < 2 ^ 32) ns
words_in_is no_items ns h = subst (λ ms. (no_items ≡ items_data ms) × Every (λ n. n < 2 ^ 32) ms) (same_some [] ns h) (refl, tt)
words_in_is (item d ds) ns h =
    let a = and_some (λ n. option_map (λ ms. n ∷ ms) (words_in ds)) (word_in d) ns h in
    let b = map_some (λ ms. a.0 ∷ ms) (words_in ds) ns a.2 in
    let w = word_in_is d a.0 a.1 in
    let r = words_in_is ds b.0 b.1 in
    subst (λ ms. (item d ds ≡ items_data ms) × Every (λ n. n < 2 ^ 32) ms) b.2 (ap (λ x. item x ds) w.0 ∙ ap (item (number_data a.0)) r.0, (w.1, r.1))

pub words_in_gives : (ns : List ℕ) → Every (λ n. n < 2 ^ 32) ns → words_in (items_data ns) ≡ Some ns
words_in_gives [] h = refl
words_in_gives (n ∷ ns) h =
    ap (option_and_then (λ m. option_map (λ ms. m ∷ ms) (words_in (items_data ns)))) (word_in_gives n h.0) ∙ ap (option_map (λ ms. n ∷ ms)) (words_in_gives ns h.1)

pub as_array_is : (d : Data) (ds : Items) → as_array d ≡ Some ds → d ≡ array ds
as_array_is null ds h = absurd (cc)
as_array_is (boolean b) ds h = absurd (cc)
as_array_is (number n) ds h = absurd (cc)
as_array_is (string s) ds h = absurd (cc)
as_array_is (array es) ds h = ap array (same_some es ds h)
as_array_is (object ms) ds h = absurd (cc)

two_is : (ds : Items) (p : ℕ × ℕ) → two_in ds ≡ Some p → ds ≡ items_data (p.0 ∷ p.1 ∷ [])
two_is no_items p h = absurd (cc)
two_is (item d no_items) p h = absurd (cc)
two_is (item d (item e no_items)) p h =
    let a = and_some (λ n. option_map (λ m. (n, m)) (whole e)) (whole d) p h in
    let b = map_some (λ m. (a.0, m)) (whole e) p a.2 in
    subst (λ (q : ℕ × ℕ). item d (item e no_items) ≡ items_data (q.0 ∷ q.1 ∷ [])) b.2
    (ap (λ x. item x (item e no_items)) (whole_is d a.0 a.1) ∙ ap (λ x. item (number_data a.0) (item x no_items)) (whole_is e b.0 b.1))
two_is (item d (item e (item f ds))) p h = absurd (cc)

pair_from_is : (d : Data) (o : Option Items) (p : ℕ × ℕ) → as_array d ≡ o → pair_from o (whole d) ≡ Some p → IsPair d p
pair_from_is d (Some ds) p e h = inl (as_array_is d ds e ∙ ap array (two_is ds p h))
pair_from_is d None p e h =
    let b = map_some (λ m. (m, 1)) (whole d) p h in
    inr (subst (λ (q : ℕ × ℕ). (d ≡ number_data q.0) × (q.1 ≡ 1)) b.2 (whole_is d b.0 b.1, refl))

pair_gives : (d : Data) (p : ℕ × ℕ) → IsPair d p → pair_in d ≡ Some p
pair_gives d p (inl e) = subst (λ x. pair_in x ≡ Some p) (sym e) refl
pair_gives d p (inr e) = subst (λ x. pair_in x ≡ Some p) (sym e.0) (ap (λ m. Some (p.0, m)) (sym e.1))

pub pair_at_is : (key : List ℕ) (d : Data) (p : ℕ × ℕ) → pair_at key d ≡ Some p → PairAt key d p
pair_at_is key d p h = let a = and_some pair_in (get key d) p h in (a.0, a.1, pair_from_is a.0 (as_array a.0) p refl a.2)

pub pair_at_gives : (key : List ℕ) (d : Data) (p : ℕ × ℕ) → PairAt key d p → pair_at key d ≡ Some p
pair_at_gives key d p h = ap (option_and_then pair_in) h.1 ∙ pair_gives h.0 p h.2

-- what has a key is no list
pub no_list : (key : List ℕ) (d e : Data) → get key d ≡ Some e → as_array d ≡ None
no_list key null e h = refl
no_list key (boolean b) e h = refl
no_list key (number n) e h = refl
no_list key (string s) e h = refl
no_list key (array ds) e h = absurd (cc)
no_list key (object ms) e h = refl
