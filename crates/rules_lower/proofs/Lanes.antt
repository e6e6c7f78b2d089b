-- Bodies made of operators, lane by lane.
use Rattle.std.proofs.Common.{◌≡◌, ℕ, zero, suc, ◌*◌, ◌<◌, Bool, true, false, List, [], ◌∷◌, ◌++◌, length, take, drop, refl, sym, ap, ◌∙◌, subst, arith, length-drop, length-append}
use Rattle.std.proofs.lemmas.Bool.{and_parts}
use Rattle.std.proofs.lemmas.List.{take-append-drop}
use Rattle.std.specs.Prelude.{Option, Some, slice_get, map, ◌/◌, ◌||◌}
use Rattle.scalar_ops.specs.declared.op.Op.TheVariants.{Div, Rem}
use Rattle.scalar_ops.specs.Operators.{apply_op}
use Rattle.lift_tree.specs.declared.term.MapKind.{MapKind}
use Rattle.lift_tree.specs.declared.term.UnaryForm.TheVariants as unary
use Rattle.lift_tree.specs.declared.term.BinaryForm.TheVariants as binary
use Rattle.lift_tree.specs.Tree.{Tree, Variable, Number, Unary, Binary, Map}
use Rattle.lift_tree.specs.Values.{Value, Word, array, members, word, nth}
use Rattle.lift_tree.specs.Lists.{Every, zip_with, concat, pieces}
use Rattle.lift_tree.specs.Meaning.{World, meaning, on_lanes, scalar_op, rows, array_of_rows}
use Rattle.lift_tree.proofs.Members.{members-array, every-pieces, every_and, pieces_long}
use Rattle.lift_tree.specs.Types.{PlainTy, U32, HaveTypes}
use Rattle.rules_lower.specs.Vectors.{is_u32, made_of_lanes, names_binder, as_vector, as_scalar}

-- a word
abbrev pub IsWord : Value → Type 0
IsWord v = (n : ℕ) × (v ≡ Word n)

-- ---- lists
map_every : {A B : Type 0} (p : A → Type 0) (f g : A → B) (xs : List A) → ((x : A) → p x → f x ≡ g x) → Every p xs → map f xs ≡ map g xs
map_every p f g [] e a = refl
map_every p f g (x ∷ xs) e a = let b = e x a.0 in let c = map_every p f g xs e a.1 in cc

map-append : {A B : Type 0} (f : A → B) (xs ys : List A) → map f (xs ++ ys) ≡ map f xs ++ map f ys
map-append f [] ys = refl
map-append f (x ∷ xs) ys = ap (λ zs. f x ∷ zs) (map-append f xs ys)

map-map : {A B C : Type 0} (g : B → C) (f : A → B) (xs : List A) → map g (map f xs) ≡ map (λ x. g (f x)) xs
map-map g f [] = refl
map-map g f (x ∷ xs) = ap (λ zs. g (f x) ∷ zs) (map-map g f xs)

map-concat : {A B : Type 0} (f : A → B) (xss : List (List A)) → map f (concat xss) ≡ concat (map (map f) xss)
map-concat f [] = refl
map-concat f (r ∷ rs) = map-append f r (concat rs) ∙ ap (λ zs. map f r ++ zs) (map-concat f rs)

map_rows : (rs : List (List Value)) → map members (map array rs) ≡ rs
map_rows [] = refl
map_rows (r ∷ rs) = let a = members-array r in let b = map_rows rs in cc

concat-pieces : {A : Type 0} (c k : ℕ) (xs : List A) → length xs ≡ c * k → concat (pieces c k k xs) ≡ xs
concat-pieces zero k [] h = refl
concat-pieces zero k (x ∷ xs) h = absurd (omega arith)
concat-pieces (suc c) k xs h =
    ap (λ ys. take k xs ++ ys) (concat-pieces c k (drop k xs) (omega (arith, length-drop k xs)))
    ∙ take-append-drop k xs

-- ---- lanes
abbrev In : (ℕ → ℕ → ℕ) → Value → Value → Value
In f a b = Word (f (word a) (word b))

zip_maps : (f : ℕ → ℕ → ℕ) (F G : Value → Value) (xs : List Value) → zip_with (In f) (map F xs) (map G xs) ≡ map (λ x. In f (F x) (G x)) xs
zip_maps f F G [] = refl
zip_maps f F G (x ∷ xs) = ap (λ zs. In f (F x) (G x) ∷ zs) (zip_maps f F G xs)

-- two lists
lanes_both : (f : ℕ → ℕ → ℕ) (F G : Value → Value) (x : Value) (xs : List Value)
    → on_lanes f (array (map F (x ∷ xs))) (array (map G (x ∷ xs))) ≡ array (map (λ y. In f (F y) (G y)) (x ∷ xs))
lanes_both f F G x xs =
    ap (λ l. array (In f (F x) (G x) ∷ l))
    (ap (λ l. zip_with (In f) l (members (array (map G xs)))) (members-array (map F xs))
    ∙ ap (λ l. zip_with (In f) (map F xs) l) (members-array (map G xs))
    ∙ zip_maps f F G xs)

-- a list and a word
lanes_left : (f : ℕ → ℕ → ℕ) (F : Value → Value) (n : ℕ) (x : Value) (xs : List Value)
    → on_lanes f (array (map F (x ∷ xs))) (Word n) ≡ array (map (λ y. In f (F y) (Word n)) (x ∷ xs))
lanes_left f F n x xs =
    ap (λ l. array (In f (F x) (Word n) ∷ l))
    (ap (map (λ a. In f a (Word n))) (members-array (map F xs)) ∙ map-map (λ a. In f a (Word n)) F xs)

-- a word and a list
lanes_right : (f : ℕ → ℕ → ℕ) (n : ℕ) (G : Value → Value) (x : Value) (xs : List Value)
    → on_lanes f (Word n) (array (map G (x ∷ xs))) ≡ array (map (λ y. In f (Word n) (G y)) (x ∷ xs))
lanes_right f n G x xs =
    ap (λ l. array (In f (Word n) (G x) ∷ l))
    (ap (map (λ b. In f (Word n) b)) (members-array (map G xs)) ∙ map-map (λ b. In f (Word n) b) G xs)

-- two words
lanes_words : (f : ℕ → ℕ → ℕ) (v u : Value) → IsWord v → IsWord u → on_lanes f v u ≡ In f v u
lanes_words f v u p q = rw (p.1, q.1) refl

-- ---- bodies
-- what has type u32 is a word
named_word : (w : World) (g : List PlainTy) (vs : List Value) (n : ℕ) (t : Option PlainTy) → slice_get g n ≡ t → is_u32 t ≡ true → HaveTypes w.bases g vs → IsWord (nth vs n)
named_word w g vs n (Some U32) e h all = let t = all n U32 e in (t.0, t.1)
named_word w g vs n _ e h all = absurd (cc)

module _ (w : World) (g : List PlainTy) (vs : List Value) (have : HaveTypes w.bases g vs) where
  -- the body's value at an element
  abbrev At : Tree → Value → Value
  At f x = meaning w (x ∷ vs) f

  -- on a word it is a word
  at_word : (f : Tree) (x : Value) → made_of_lanes g f ≡ true → IsWord x → IsWord (At f x)
  at_word (Variable zero) x m h = h
  at_word (Variable (suc v)) x m h = named_word w g vs v (slice_get g v) refl m have
  at_word (Number c) x m h = (c, refl)
  at_word (Unary (unary.Div c) t) x m h = let p = at_word t x m h in (_, lanes_words (apply_op Div) (At t x) (Word c) p (c, refl))
  at_word (Unary (unary.Rem c) t) x m h = let p = at_word t x m h in (_, lanes_words (apply_op Rem) (At t x) (Word c) p (c, refl))
  at_word (Binary (binary.Operator o) t u) x m h =
      let a = and_parts _ _ m in
      let b = and_parts (made_of_lanes g t) (made_of_lanes g u) a.1 in
      (_, lanes_words (apply_op (scalar_op o)) (At t x) (At u x) (at_word t x b.0 h) (at_word u x b.1 h))
  at_word _ x m h = absurd (cc)

  module _ (x : Value) (xs : List Value) (all : Every IsWord (x ∷ xs)) where
    -- what stands for a value on all lanes at once: where the binder is named, the list of the
    -- values lane by lane, else a word, which each lane has
    abbrev Stands : Bool → Value → (Value → Value) → Type 0
    Stands true v f = v ≡ array (map f (x ∷ xs))
    Stands false v f = IsWord v × ((y : Value) → f y ≡ v)

    abbrev KeepsWords : (Value → Value) → Type 0
    KeepsWords f = (y : Value) → IsWord y → IsWord (f y)

    in_lanes : (g : ℕ → ℕ → ℕ) (f h : Value → Value) → KeepsWords f → KeepsWords h → map (λ y. In g (f y) (h y)) (x ∷ xs) ≡ map (λ y. on_lanes g (f y) (h y)) (x ∷ xs)
    in_lanes g f h p q = map_every IsWord _ _ (x ∷ xs) (λ y e. sym (lanes_words g (f y) (h y) (p y e) (q y e))) all

    combine : (g : ℕ → ℕ → ℕ) (p q : Bool) (v u : Value) (f h : Value → Value) → KeepsWords f → KeepsWords h → Stands p v f → Stands q u h → Stands (p || q) (on_lanes g v u) (λ y. on_lanes g (f y) (h y))
    combine g true true v u f h kf kh s t =
        ap (λ z. on_lanes g z u) s ∙ ap (on_lanes g (array (map f (x ∷ xs)))) t ∙ lanes_both g f h x xs ∙ ap array (in_lanes g f h kf kh)
    combine g true false v u f h kf kh s t =
        let n = t.0.0 in
        let e : u ≡ Word n = t.0.1 in
        ap (λ z. on_lanes g z u) s ∙ ap (on_lanes g (array (map f (x ∷ xs)))) e ∙ lanes_left g f n x xs
        ∙ ap array (map_every IsWord _ _ (x ∷ xs) (λ y w. ap (In g (f y)) (sym (t.1 y ∙ e))) all)
        ∙ ap array (in_lanes g f h kf kh)
    combine g false true v u f h kf kh s t =
        let n = s.0.0 in
        let e : v ≡ Word n = s.0.1 in
        ap (λ z. on_lanes g z u) e ∙ ap (on_lanes g (Word n)) t ∙ lanes_right g n h x xs
        ∙ ap array (map_every IsWord _ _ (x ∷ xs) (λ y w. ap (λ z. In g z (h y)) (sym (s.1 y ∙ e))) all)
        ∙ ap array (in_lanes g f h kf kh)
    combine g false false v u f h kf kh s t =
        ((_, lanes_words g v u s.0 t.0), λ y. ap (λ z. on_lanes g z (h y)) (s.1 y) ∙ ap (on_lanes g v) (t.1 y))

    map_same : (ys : List Value) → ys ≡ map (λ y. y) ys
    map_same [] = refl
    map_same (y ∷ ys) = ap (λ zs. y ∷ zs) (map_same ys)

    or_false : (p : Bool) → (p || false) ≡ p
    or_false true = refl
    or_false false = refl

    -- a body's value on the list is that on all lanes at once
    of_lanes : (f : Tree) → made_of_lanes g f ≡ true → Stands (names_binder f) (At f (array (x ∷ xs))) (At f)
    of_lanes (Variable zero) m = ap array (map_same (x ∷ xs))
    of_lanes (Variable (suc v)) m = (named_word w g vs v (slice_get g v) refl m have, λ y. refl)
    of_lanes (Number c) m = ((c, refl), λ y. refl)
    of_lanes (Unary (unary.Div c) t) m =
        subst (λ p. Stands p (At (Unary (unary.Div c) t) (array (x ∷ xs))) (At (Unary (unary.Div c) t))) (or_false (names_binder t))
        (combine (apply_op Div) (names_binder t) false (At t (array (x ∷ xs))) (Word c) (At t) (λ y. Word c) (λ y h. at_word t y m h) (λ y h. (c, refl)) (of_lanes t m) ((c, refl), λ y. refl))
    of_lanes (Unary (unary.Rem c) t) m =
        subst (λ p. Stands p (At (Unary (unary.Rem c) t) (array (x ∷ xs))) (At (Unary (unary.Rem c) t))) (or_false (names_binder t))
        (combine (apply_op Rem) (names_binder t) false (At t (array (x ∷ xs))) (Word c) (At t) (λ y. Word c) (λ y h. at_word t y m h) (λ y h. (c, refl)) (of_lanes t m) ((c, refl), λ y. refl))
    of_lanes (Binary (binary.Operator o) t u) m =
        let a = and_parts _ _ m in
        let b = and_parts (made_of_lanes g t) (made_of_lanes g u) a.1 in
        combine (apply_op (scalar_op o)) (names_binder t) (names_binder u) (At t (array (x ∷ xs))) (At u (array (x ∷ xs))) (At t) (At u)
        (λ y h. at_word t y b.0 h) (λ y h. at_word u y b.1 h) (of_lanes t b.0) (of_lanes u b.1)
    of_lanes _ m = absurd (cc)

  -- the scalars of a row, mapped by fours
  of_row : (f : Tree) (r : List Value) → made_of_lanes g f ≡ true → names_binder f ≡ true → 0 < length r → Every IsWord r → members (At f (array r)) ≡ map (At f) r
  of_row f [] m e h all = absurd (omega arith)
  of_row f (x ∷ xs) m e h all =
      ap members (subst (λ p. Stands x xs all p (At f (array (x ∷ xs))) (At f)) e (of_lanes x xs all f m)) ∙ members-array (map (At f) (x ∷ xs))

  abbrev IsRow : List Value → Type 0
  IsRow r = (length r ≡ 4) × Every IsWord r

  -- all rows so
  of_rows : (f : Tree) (rs : List (List Value)) → made_of_lanes g f ≡ true → names_binder f ≡ true → Every IsRow rs → map members (map (At f) (map array rs)) ≡ map (map (At f)) rs
  of_rows f rs m e all =
      ap (map members) (map-map (At f) array rs) ∙ map-map members (λ r. At f (array r)) rs
      ∙ map_every IsRow _ _ rs (λ r h. of_row f r m e (let l = h.0 in omega arith) h.1) all

pub maps_by_fours : (w : World) (g : List PlainTy) (vs : List Value) (k : MapKind) (xs f : Tree) → HaveTypes w.bases g vs → made_of_lanes g f ≡ true → names_binder f ≡ true → Every IsWord (members (meaning w vs xs))
    → length (members (meaning w vs xs)) / 4 * 4 ≡ length (members (meaning w vs xs))
    → meaning w vs (as_scalar (Map k (as_vector xs) f)) ≡ meaning w vs (Map k xs f)
maps_by_fours w g vs k xs f have m e all long =
    let ms : List Value = members (meaning w vs xs) in
    let c = length ms / 4 in
    let rs : List (List Value) = pieces c 4 4 ms in
    let F : Value → Value = λ x. meaning w (x ∷ vs) f in
    let rows_fit = every_and (λ r. length r ≡ 4) (Every IsWord) rs (pieces_long c 4 4 ms (omega arith)) (every-pieces IsWord c 4 4 ms all) in
    ap (λ l. array (concat (map members l))) (members-array (map F (members (array_of_rows rs))))
    ∙ ap (λ l. array (concat (map members (map F l)))) (members-array (map array rs))
    ∙ ap (λ l. array (concat l)) (of_rows w g vs have f rs m e rows_fit)
    ∙ ap array (sym (map-concat F rs))
    ∙ ap (λ l. array (map F l)) (concat-pieces c 4 ms (sym long))

pieces-concat : (rs : List (List Value)) → Every (λ r. length r ≡ 4) rs → pieces (length rs) 4 4 (concat rs) ≡ rs
pieces-concat [] all = refl
pieces-concat (r ∷ rs) all =
    let e = all.0 in
    let a : take 4 (r ++ concat rs) ≡ r = subst (λ k. take k (r ++ concat rs) ≡ r) e (take_first r (concat rs)) in
    let b : drop 4 (r ++ concat rs) ≡ concat rs = subst (λ k. drop k (r ++ concat rs) ≡ concat rs) e (drop_first r (concat rs)) in
    let c = ap (pieces (length rs) 4 4) b ∙ pieces-concat rs all.1 in
    cc
  where
    take_first : (xs ys : List Value) → take (length xs) (xs ++ ys) ≡ xs
    take_first [] ys = refl
    take_first (x ∷ xs) ys = ap (λ zs. x ∷ zs) (take_first xs ys)

    drop_first : (xs ys : List Value) → drop (length xs) (xs ++ ys) ≡ ys
    drop_first [] ys = refl
    drop_first (x ∷ xs) ys = drop_first xs ys

length-rows : (rs : List (List Value)) → Every (λ r. length r ≡ 4) rs → length (concat rs) ≡ length rs * 4
length-rows [] a = omega arith
length-rows (r ∷ rs) a =
    let e = length-append r (concat rs) in
    let f = length-rows rs a.1 in
    let h = a.0 in
    omega arith

-- the vectors of vectors' scalars
pub vectors_of_scalars : (w : World) (vs : List Value) (xs : Tree) (rs : List (List Value)) → meaning w vs xs ≡ array (map array rs) → Every (λ r. length r ≡ 4) rs → meaning w vs (as_vector (as_scalar xs)) ≡ meaning w vs xs
vectors_of_scalars w vs xs rs e all =
    let r : rows (meaning w vs xs) ≡ rs = ap rows e ∙ ap (map members) (members-array (map array rs)) ∙ map_rows rs in
    let l = length-rows rs all in
    let c : length (concat rs) / 4 ≡ length rs = omega arith in
    ap (λ ms. array_of_rows (pieces (length ms / 4) 4 4 ms)) (members-array (concat (rows (meaning w vs xs))) ∙ ap concat r)
    ∙ ap (λ k. array_of_rows (pieces k 4 4 (concat rs))) c
    ∙ ap array_of_rows (pieces-concat rs all)
    ∙ sym e
