-- Where values of a type lie, and the laws of it.
use Rattle.std.proofs.Common.{◌≡◌, ◌∙◌, ℕ, zero, suc, Bool, true, false, List, [], ◌∷◌, Some, refl, sym, ap, subst}
use Rattle.std.proofs.lemmas.Bool.{or_parts}
use Rattle.std.specs.Prelude.{get_or, slice_get, nat_eq, if◌then◌else◌}
use Rattle.size_arith.specs.declared.poly.Monomial.{Monomial}
use Rattle.lift_tree.specs.declared.term.UnaryForm.TheVariants as unary
use Rattle.lift_tree.specs.Tree as tree
use Rattle.lift_tree.specs.Tree.{Tree}
use Rattle.lift_tree.specs.Types as types
use Rattle.lift_tree.specs.Types.{PlainTy, is_element}
use Rattle.lift_tree.specs.Copies.{HasNoVector}
use Rattle.lift_ir.specs.Types.{Ty, Scalar, PairOf}
use Rattle.lift_ir.specs.AtLaunch.{ty_at}
use Rattle.lift_ir.proofs.Lowering.{suits_named}
use Rattle.lift_ir.specs.Layouts.{Split, Join, Transpose, Reverse, Slide, Pad}
use Rattle.lift_ir.specs.Terms as low
use Rattle.lift_ir.specs.Terms.{LoadSet, Skip, Take, TakeFour, Each, LoadsScalars, Term}
use Rattle.lift_ir.specs.Lowering.{element_ty, all_scalars, reached, merged, named}
use Rattle.lift_ir.specs.Fours.{Lie, Held, Loose, Whole, InFours, Serves, element_lie, read_lie, bound_lie, both_lie, held_lie, LoadsFours, StoresFours, Lies}
use Rattle.lowered_tree.specs.Elements.{holds_vectors}
use Rattle.nest_premises.proofs.Paired.{PairsNumbers}

-- ---- one lie in place of another

pub serves_on : (x y z : Lie) → Serves x y → Serves y z → Serves x z
serves_on Held y z h k = absurd h
serves_on Loose Held z h k = absurd k
serves_on Loose Loose z h k = k
serves_on Loose Whole z h k = absurd h
serves_on Loose (InFours j) z h k = absurd h
serves_on Whole Held z h k = absurd k
serves_on Whole Loose Held h k = absurd k
serves_on Whole Loose Loose h k = tt
serves_on Whole Loose Whole h k = absurd k
serves_on Whole Loose (InFours j) h k = absurd k
serves_on Whole Whole z h k = k
serves_on Whole (InFours i) Held h k = absurd k
serves_on Whole (InFours i) Loose h k = tt
serves_on Whole (InFours i) Whole h k = absurd k
serves_on Whole (InFours i) (InFours j) h k = tt
serves_on (InFours i) Held z h k = absurd k
serves_on (InFours i) Loose Held h k = absurd k
serves_on (InFours i) Loose Loose h k = tt
serves_on (InFours i) Loose Whole h k = absurd k
serves_on (InFours i) Loose (InFours j) h k = absurd k
serves_on (InFours i) Whole z h k = absurd h
serves_on (InFours i) (InFours j) Held h k = absurd k
serves_on (InFours i) (InFours j) Loose h k = tt
serves_on (InFours i) (InFours j) Whole h k = absurd k
serves_on (InFours i) (InFours j) (InFours k) h e = h ∙ e

-- what lies in a sense lies in each that this serves
pub lies_too : {A : Type 0} (g : ℕ → Lie) (t : Term A) (y z : Lie) → Serves y z → Lies g t y → Lies g t z
lies_too g (low.Bound v) y z s h = serves_on (g v) y z h s
lies_too g (low.Source i) y z s h = serves_on Whole y z h s
lies_too g (low.Reshape l a) y z s h = (h.0, h.1, serves_on _ y z h.2 s)
lies_too g (low.LetArray v b) y z s h = (h.0, h.1, lies_too _ b y z s h.2)
lies_too g (low.Copy low.LocalMemory ty a) y z s h = serves_on Whole y z h s
lies_too g (low.Copy low.PrivateMemory ty a) y z s h = serves_on Loose y z h s
lies_too g (low.Literal n) y z s h = serves_on Loose y z h s
lies_too g (low.Apply o a b) y z s h = serves_on Loose y z h s
lies_too g (low.ApplyNumber o n a) y z s h = serves_on Loose y z h s
lies_too g (low.ApplyLanes o l r a b) y z s h = serves_on Loose y z h s
lies_too g (low.DivideLanes o n a) y z s h = serves_on Loose y z h s
lies_too g (low.Select c a b) y z s h = serves_on Loose y z h s
lies_too g (low.Both zips a b) y z s h = (h.0, h.1, serves_on Loose y z h.2 s)
lies_too g (low.Project second a) y z s h = (h.0, serves_on Loose y z h.1 s)
lies_too g (low.LetElement ty v b) y z s h = serves_on Loose y z h s
lies_too g (low.Map k n loads xs b) y z s h = serves_on Loose y z h s
lies_too g (low.Fold n loads ty xs x b) y z s h = serves_on Loose y z h s
lies_too g (low.Store ty a) y z s h = serves_on Loose y z h s

-- ---- by types

-- vectors, in one array more
abbrev pub deeper : Lie → Lie
deeper Held = Loose
deeper Loose = Loose
deeper Whole = Loose
deeper (InFours k) = InFours (suc k)

-- where the vectors of a value have to go
abbrev pub wanted : PlainTy → Lie
wanted types.U32 = Loose
wanted types.U32x4 = InFours 0
wanted (types.PairOf a b) = Loose
wanted (types.ArrayOf a n) = deeper (wanted a)

-- and where an argument lies that is no vector: an aligned array whole
abbrev pub lie_of : (aligned : Bool) → PlainTy → Lie
lie_of x types.U32 = Loose
lie_of x types.U32x4 = Loose
lie_of x (types.PairOf a b) = Loose
lie_of true (types.ArrayOf a n) = Whole
lie_of false (types.ArrayOf a n) = deeper (wanted a)

-- never whole nor held, by its type alone
abbrev pub InParts : Lie → Type 0
InParts Held = ⊥
InParts Loose = Unit {0}
InParts Whole = ⊥
InParts (InFours k) = Unit {0}

pub deeper_parts : (z : Lie) → InParts z → InParts (deeper z)
deeper_parts Held h = absurd h
deeper_parts Loose h = tt
deeper_parts Whole h = absurd h
deeper_parts (InFours k) h = tt

pub in_parts : (a : PlainTy) → InParts (wanted a)
in_parts types.U32 = tt
in_parts types.U32x4 = tt
in_parts (types.PairOf a b) = tt
in_parts (types.ArrayOf a n) = deeper_parts (wanted a) (in_parts a)

pub whole_for : (z : Lie) → InParts z → Serves Whole z
whole_for Held h = absurd h
whole_for Loose h = tt
whole_for Whole h = absurd h
whole_for (InFours k) h = tt

own_for : (z : Lie) → InParts z → Serves z z
own_for Held h = absurd h
own_for Loose h = tt
own_for Whole h = absurd h
own_for (InFours k) h = refl

pub whole_serves : (a : PlainTy) → Serves Whole (wanted a)
whole_serves a = whole_for (wanted a) (in_parts a)

pub serves_itself : (x : Bool) (a : PlainTy) → Serves (lie_of x a) (lie_of x a)
serves_itself x types.U32 = tt
serves_itself x types.U32x4 = tt
serves_itself x (types.PairOf a b) = tt
serves_itself true (types.ArrayOf a n) = tt
serves_itself false (types.ArrayOf a n) = own_for (deeper (wanted a)) (deeper_parts (wanted a) (in_parts a))

pub whole_lie : (x : Bool) (a : PlainTy) → Serves Whole (lie_of x a)
whole_lie x types.U32 = tt
whole_lie x types.U32x4 = tt
whole_lie x (types.PairOf a b) = tt
whole_lie true (types.ArrayOf a n) = tt
whole_lie false (types.ArrayOf a n) = whole_for (deeper (wanted a)) (deeper_parts (wanted a) (in_parts a))

-- aligned or not, as the vectors have to
pub any_lie : (x : Bool) (a : PlainTy) → Serves (lie_of x a) (lie_of false a)
any_lie x types.U32 = tt
any_lie x types.U32x4 = tt
any_lie x (types.PairOf a b) = tt
any_lie true (types.ArrayOf a n) = whole_lie false (types.ArrayOf a n)
any_lie false (types.ArrayOf a n) = serves_itself false (types.ArrayOf a n)

-- in cells
pub in_cells : (x : Bool) (a : PlainTy) → Serves (lie_of x a) Loose
in_cells x types.U32 = tt
in_cells x types.U32x4 = tt
in_cells x (types.PairOf a b) = tt
in_cells true (types.ArrayOf a n) = tt
in_cells false (types.ArrayOf a n) = go (deeper (wanted a)) (deeper_parts (wanted a) (in_parts a))
  where
    go : (z : Lie) → InParts z → Serves z Loose
    go Held h = absurd h
    go Loose h = tt
    go Whole h = tt
    go (InFours k) h = tt

-- nowhere, where there are none
pub nowhere : (a : PlainTy) → HasNoVector a → wanted a ≡ Loose
nowhere types.U32 h = refl
nowhere types.U32x4 h = absurd h
nowhere (types.PairOf a b) h = refl
nowhere (types.ArrayOf a n) h = ap deeper (nowhere a h)

pub loose : (a : PlainTy) → HasNoVector a → Serves Loose (lie_of false a)
loose types.U32 h = tt
loose types.U32x4 h = absurd h
loose (types.PairOf a b) h = tt
loose (types.ArrayOf a n) h = subst (λ z. Serves Loose z) (sym (ap deeper (nowhere a h))) tt

pub no_vectors : (a : PlainTy) → holds_vectors a ≡ false → HasNoVector a
no_vectors types.U32 e = tt
no_vectors types.U32x4 e = absurd (cc)
no_vectors (types.PairOf a b) e = let p = or_parts (holds_vectors a) (holds_vectors b) e in (no_vectors a p.0, no_vectors b p.1)
no_vectors (types.ArrayOf a n) e = no_vectors a e

-- it isn't the type of vectors
abbrev pub IsArgument : PlainTy → Type 0
IsArgument types.U32x4 = ⊥
IsArgument _ = Unit {0}

pub unvectored : (a : PlainTy) → HasNoVector a → IsArgument a
unvectored types.U32 h = tt
unvectored types.U32x4 h = h
unvectored (types.PairOf a b) h = tt
unvectored (types.ArrayOf a n) h = tt

pub no_element : (a : PlainTy) → is_element a ≡ false → IsArgument a
no_element types.U32 h = tt
no_element types.U32x4 h = absurd (cc)
no_element (types.PairOf a b) h = tt
no_element (types.ArrayOf a n) h = tt

-- ---- elements of arrays

within_deeper : (w z : Lie) → InParts z → Serves w (deeper z) → Serves (element_lie w) z
within_deeper Held z p h = absurd h
within_deeper w Held p h = absurd p
within_deeper w Whole p h = absurd p
within_deeper Loose Loose p h = tt
within_deeper Whole Loose p h = tt
within_deeper (InFours zero) Loose p h = tt
within_deeper (InFours (suc j)) Loose p h = tt
within_deeper Loose (InFours k) p h = absurd h
within_deeper Whole (InFours k) p h = tt
within_deeper (InFours zero) (InFours k) p h = absurd (cc)
within_deeper (InFours (suc j)) (InFours k) p h = cc

-- of an array the element
pub element_serves : (w : Lie) (a : PlainTy) → Serves w (deeper (wanted a)) → Serves (element_lie w) (wanted a)
element_serves w a h = within_deeper w (wanted a) (in_parts a) h

-- of an argument that is an array the element's vectors
pub element_lies : (x : Bool) (a : PlainTy) (n : List Monomial) → Serves (element_lie (lie_of x (types.ArrayOf a n))) (wanted a)
element_lies true a n = whole_serves a
element_lies false a n = element_serves (deeper (wanted a)) a (own_for (deeper (wanted a)) (deeper_parts (wanted a) (in_parts a)))

-- ---- layouts, between arrays of these vectors

module _ (z : Lie) (p : InParts z) where
  pub split_read : (m : List Monomial) → Serves (read_lie (Split m) (deeper z)) (deeper (deeper z))
  split_read m = go z p
    where
      go : (z : Lie) → InParts z → Serves (read_lie (Split m) (deeper z)) (deeper (deeper z))
      go Held p = absurd p
      go Loose p = tt
      go Whole p = absurd p
      go (InFours k) p = refl

  pub join_read : (m : List Monomial) → Serves (read_lie (Join m) (deeper (deeper z))) (deeper z)
  join_read m = go z p
    where
      go : (z : Lie) → InParts z → Serves (read_lie (Join m) (deeper (deeper z))) (deeper z)
      go Held p = absurd p
      go Loose p = tt
      go Whole p = absurd p
      go (InFours k) p = refl

  pub transposed_read : Serves (read_lie {A = List Monomial} Transpose (deeper (deeper z))) (deeper (deeper z))
  transposed_read = go z p
    where
      go : (z : Lie) → InParts z → Serves (read_lie {A = List Monomial} Transpose (deeper (deeper z))) (deeper (deeper z))
      go Held p = absurd p
      go Loose p = tt
      go Whole p = absurd p
      go (InFours k) p = refl

  pub reversed_read : (n : List Monomial) → Serves (read_lie (Reverse n) (deeper z)) (deeper z)
  reversed_read n = go z p
    where
      go : (z : Lie) → InParts z → Serves (read_lie (Reverse n) (deeper z)) (deeper z)
      go Held p = absurd p
      go Loose p = tt
      go Whole p = absurd p
      go (InFours k) p = refl

  pub slid_read : (s t : ℕ) → Serves (read_lie {A = List Monomial} (Slide s t) (deeper z)) (deeper (deeper z))
  slid_read s t = go z p
    where
      go : (z : Lie) → InParts z → Serves (read_lie {A = List Monomial} (Slide s t) (deeper z)) (deeper (deeper z))
      go Held p = absurd p
      go Loose p = tt
      go Whole p = absurd p
      go (InFours k) p = refl

  pub padded_read : (l r : ℕ) (n : List Monomial) → Serves (read_lie (Pad l r n) (deeper z)) (deeper z)
  padded_read l r n = go z p
    where
      go : (z : Lie) → InParts z → Serves (read_lie (Pad l r n) (deeper z)) (deeper z)
      go Held p = absurd p
      go Loose p = tt
      go Whole p = absurd p
      go (InFours k) p = refl

-- ---- loads and stores

pub stores_none : (a : PlainTy) → HasNoVector a → StoresFours Loose (element_ty a)
stores_none types.U32 h = tt
stores_none types.U32x4 h = absurd h
stores_none (types.PairOf a b) h = (stores_none a h.0, stores_none b h.1)
stores_none (types.ArrayOf a n) h = tt

pub stores : (w : Lie) (a : PlainTy) → PairsNumbers a → Serves w (wanted a) → StoresFours w (element_ty a)
stores w types.U32 p h = tt
stores w types.U32x4 p h = h
stores w (types.PairOf a b) p h = (stores_none a p.0, stores_none b p.1)
stores w (types.ArrayOf a n) p h = tt

loads_none : (y : Lie) (a : PlainTy) → HasNoVector a → LoadsFours y (all_scalars a)
loads_none y types.U32 h = tt
loads_none y types.U32x4 h = absurd h
loads_none y (types.PairOf a b) h = (loads_none Loose a h.0, loads_none Loose b h.1)
loads_none y (types.ArrayOf a n) h = tt

reaches_none : (y : Lie) (a : PlainTy) (p : List Bool) → HasNoVector a → LoadsFours y (reached a p)
reaches_none y a [] h = loads_none y a h
reaches_none y types.U32 (c ∷ p) h = tt
reaches_none y types.U32x4 (c ∷ p) h = tt
reaches_none y (types.PairOf a b) (false ∷ p) h = (reaches_none Loose a p h.0, tt)
reaches_none y (types.PairOf a b) (true ∷ p) h = (tt, reaches_none Loose b p h.1)
reaches_none y (types.ArrayOf a n) (c ∷ p) h = tt

module _ (y : Lie) (a : PlainTy) (paired : PairsNumbers a) (serves : Serves y (wanted a)) where
  loads_all : LoadsFours y (all_scalars a)
  loads_all = go a paired serves
    where
      go : (a : PlainTy) → PairsNumbers a → Serves y (wanted a) → LoadsFours y (all_scalars a)
      go types.U32 p h = tt
      go types.U32x4 p h = h
      go (types.PairOf a b) p h = (loads_none Loose a p.0, loads_none Loose b p.1)
      go (types.ArrayOf a n) p h = tt

  loads_reached : (p : List Bool) → LoadsFours y (reached a p)
  loads_reached [] = loads_all
  loads_reached (c ∷ p) = go a paired c
    where
      go : (a : PlainTy) → PairsNumbers a → (c : Bool) → LoadsFours y (reached a (c ∷ p))
      go types.U32 h c = tt
      go types.U32x4 h c = tt
      go (types.PairOf a b) h false = (reaches_none Loose a p h.0, tt)
      go (types.PairOf a b) h true = (tt, reaches_none Loose b p h.1)
      go (types.ArrayOf a n) h c = tt

  loads_merged : (x z : LoadSet) → LoadsFours y x → LoadsFours y z → LoadsFours y (merged x z)
  loads_merged x z h k = go y x z h k
    where
      go : (y : Lie) (x z : LoadSet) → LoadsFours y x → LoadsFours y z → LoadsFours y (merged x z)
      go y Skip z h k = k
      go y Take z h k = tt
      go y TakeFour z h k = h
      go y (Each a b) Skip h k = h
      go y (Each a b) Take h k = tt
      go y (Each a b) TakeFour h k = k
      go y (Each a b) (Each c d) h k = (go Loose a c h.0 k.0, go Loose b d h.1 k.1)

  -- what a body names of an element
  pub loads_named : (v : ℕ) (p : List Bool) (t : Tree) → LoadsFours y (named v a p t)
  loads_named v p (tree.Variable u) = go (nat_eq u v)
    where
      go : (b : Bool) → LoadsFours y (if b then reached a p else Skip)
      go true = loads_reached p
      go false = tt
  loads_named v p (tree.Number n) = tt
  loads_named v p (tree.Input n) = tt
  loads_named v p (tree.Unary unary.First t) = loads_named v (false ∷ p) t
  loads_named v p (tree.Unary unary.Second t) = loads_named v (true ∷ p) t
  loads_named v p (tree.Unary f t) = loads_named v [] t
  loads_named v p (tree.Binary f t u) = loads_merged _ _ (loads_named v [] t) (loads_named v [] u)
  loads_named v p (tree.Select t u w) = loads_merged _ _ (loads_named v [] t) (loads_merged _ _ (loads_named v [] u) (loads_named v [] w))
  loads_named v p (tree.Let x b) = loads_merged _ _ (loads_named v [] x) (loads_named (suc v) [] b)
  loads_named v p (tree.Map k xs b) = loads_merged _ _ (loads_named v [] xs) (loads_named (suc v) [] b)
  loads_named v p (tree.Fold k xs s b) = loads_merged _ _ (loads_named v [] xs) (loads_merged _ _ (loads_named v [] s) (loads_named (suc (suc v)) [] b))

-- of an array nothing is loaded
merged_none : (x z : LoadSet) → x ≡ Skip → z ≡ Skip → merged x z ≡ Skip
merged_none x z e h = ap (λ q. merged q z) e ∙ h

reached_none : (a : PlainTy) (n : List Monomial) (p : List Bool) → reached (types.ArrayOf a n) p ≡ Skip
reached_none a n [] = refl
reached_none a n (c ∷ p) = refl

module _ (a : PlainTy) (n : List Monomial) where
  pub named_none : (v : ℕ) (p : List Bool) (t : Tree) → named v (types.ArrayOf a n) p t ≡ Skip
  named_none v p (tree.Variable u) = go (nat_eq u v)
    where
      go : (b : Bool) → (if b then reached (types.ArrayOf a n) p else Skip) ≡ Skip
      go true = reached_none a n p
      go false = refl
  named_none v p (tree.Number i) = refl
  named_none v p (tree.Input i) = refl
  named_none v p (tree.Unary unary.First t) = named_none v (false ∷ p) t
  named_none v p (tree.Unary unary.Second t) = named_none v (true ∷ p) t
  named_none v p (tree.Unary f t) = named_none v [] t
  named_none v p (tree.Binary f t u) = merged_none _ _ (named_none v [] t) (named_none v [] u)
  named_none v p (tree.Select t u w) = merged_none _ _ (named_none v [] t) (merged_none _ _ (named_none v [] u) (named_none v [] w))
  named_none v p (tree.Let x b) = merged_none _ _ (named_none v [] x) (named_none (suc v) [] b)
  named_none v p (tree.Map k xs b) = merged_none _ _ (named_none v [] xs) (named_none (suc v) [] b)
  named_none v p (tree.Fold k xs s b) = merged_none _ _ (named_none v [] xs) (merged_none _ _ (named_none v [] s) (named_none (suc (suc v)) [] b))

-- ---- binders

-- what it is bound to lies so, where it is no vector
abbrev pub LiesAs : Lie → (aligned : Bool) → PlainTy → Type 0
LiesAs y x types.U32x4 = Unit {0}
LiesAs y x a = Serves y (lie_of x a)

pub as_argument : (y : Lie) (x : Bool) (a : PlainTy) → IsArgument a → LiesAs y x a → Serves y (lie_of x a)
as_argument y x types.U32 e h = h
as_argument y x types.U32x4 e h = absurd e
as_argument y x (types.PairOf a b) e h = h
as_argument y x (types.ArrayOf a n) e h = h

pub lies_as : (y : Lie) (x : Bool) (a : PlainTy) → Serves y (lie_of x a) → LiesAs y x a
lies_as y x types.U32 h = h
lies_as y x types.U32x4 h = tt
lies_as y x (types.PairOf a b) h = h
lies_as y x (types.ArrayOf a n) h = h

-- a let's element is in variables, all or nothing of it
held : (a : PlainTy) → HasNoVector a → held_lie (element_ty a) ≡ Loose
held types.U32 h = refl
held types.U32x4 h = absurd h
held (types.PairOf a b) h = ap (λ z. both_lie z (held_lie (element_ty b))) (held a h.0) ∙ ap (both_lie Loose) (held b h.1)
held (types.ArrayOf a n) h = refl

pub held_as : (x : Bool) (a : PlainTy) → PairsNumbers a → is_element a ≡ true → LiesAs (held_lie (element_ty a)) x a
held_as x types.U32 p e = tt
held_as x types.U32x4 p e = tt
held_as x (types.PairOf a b) p e = subst (λ z. Serves z Loose) (sym (held (types.PairOf a b) p)) tt
held_as x (types.ArrayOf a n) p e = absurd (cc)

-- of a pair, or a number, that isn't loaded as a vector
bound_loose : (l : LoadSet) (y : Lie) → (l ≡ TakeFour → ⊥) → Serves y Loose → Serves (bound_lie l y) Loose
bound_loose Skip y n h = h
bound_loose Take y n h = tt
bound_loose TakeFour y n h = absurd (n refl)
bound_loose (Each a b) y n h = tt

no_vector_of_word : (l : LoadSet) → LoadsScalars l Scalar → l ≡ TakeFour → ⊥
no_vector_of_word l h e = subst (λ z. LoadsScalars z Scalar) e h

no_vector_of_pair : (l : LoadSet) (a b : Ty) → LoadsScalars l (PairOf a b) → l ≡ TakeFour → ⊥
no_vector_of_pair l a b h e = subst (λ z. LoadsScalars z (PairOf a b)) e h

-- a bound element of an argument lies as the argument does
pub bound_lies : (x : Bool) (a : PlainTy) (n : List Monomial) (t : Tree) → LiesAs (bound_lie (named 0 a [] t) (element_lie (lie_of x (types.ArrayOf a n)))) x a
bound_lies x types.U32 n t = bound_loose _ _ (no_vector_of_word _ (suits_named [] 0 types.U32 [] t)) (element_lies x types.U32 n)
bound_lies x types.U32x4 n t = tt
bound_lies x (types.PairOf a b) n t = bound_loose _ _ (no_vector_of_pair _ (ty_at [] a) (ty_at [] b) (suits_named [] 0 (types.PairOf a b) [] t)) (element_lies x (types.PairOf a b) n)
bound_lies x (types.ArrayOf a m) n t = subst (λ s. Serves (bound_lie s (element_lie (lie_of x (types.ArrayOf (types.ArrayOf a m) n)))) (lie_of x (types.ArrayOf a m))) (sym (named_none a m 0 [] t)) (go x)
  where
    go : (x : Bool) → Serves (element_lie (lie_of x (types.ArrayOf (types.ArrayOf a m) n))) (lie_of x (types.ArrayOf a m))
    go true = tt
    go false = element_lies false (types.ArrayOf a m) n

-- they lie so, where these are aligned and have these types
abbrev pub Lying : (aligned : List Bool) → List PlainTy → (ℕ → Lie) → Type 0
Lying [] [] g = Unit {0}
Lying (x ∷ xs) (a ∷ tys) g = LiesAs (g 0) x a × Lying xs tys (λ v. g (suc v))
Lying _ _ g = ⊥

pub lies_at : (xs : List Bool) (tys : List PlainTy) (g : ℕ → Lie) (v : ℕ) (a : PlainTy) → Lying xs tys g → slice_get tys v ≡ Some a → LiesAs (g v) (get_or xs v false) a
lies_at [] [] g v a h e = absurd (cc)
lies_at (x ∷ xs) (b ∷ tys) g zero a h e = let c : b ≡ a = cc in subst (λ z. LiesAs (g 0) x z) c h.0
lies_at (x ∷ xs) (b ∷ tys) g (suc v) a h e = lies_at xs tys (λ v. g (suc v)) v a h.1 e
lies_at [] (b ∷ tys) g v a h e = absurd h
lies_at (x ∷ xs) [] g v a h e = absurd h
