-- Typing looks at named components alone.
use Rattle.std.proofs.Common.{◌≡◌, ℕ, zero, suc, ◌+◌, ◌*◌, ◌/◌, ◌-◌, ◌⊎◌, ⊎_elim, inl, inr, List, [], ◌∷◌, ◌++◌, Bool, true, false, true≢false, refl, sym, ap, ◌∙◌, subst, arith}
use Rattle.std.specs.Prelude.{◌==◌, map, if◌then◌else◌}
use Rattle.std.proofs.lemmas.Bool.{eq-eqb, eqb-true}
use Rattle.kernel_tree.specs.Faults.{Among}
use Rattle.lift_ir.specs.Types.{Ty, Scalar, PairOf, ArrayOf, four, IsPosition, IsShort}
use Rattle.lift_ir.specs.Layouts.{Layout, Split, Join, Transpose, Reverse, Slide, Pad, Reshapes}
use Rattle.lift_ir.specs.Terms.{LoadSet, Skip, Take, TakeFour, Each, Term, Literal, Bound, Source, Apply, ApplyNumber, ApplyLanes, DivideLanes, Select, Both, Project, Reshape, LetArray, LetElement, Map, Fold, Store, Copy, lane_type, LoadsScalars, push, HasType}
use Rattle.group_form.specs.Named.{Component, whole, components_of, beneath, outside, ways, onward, taken, named, element_ways, named_outside, ends, cut}
use Rattle.group_form.proofs.Lists.{among_left, among_right, among_map}

by_bool : {P : Type 0} → (b : Bool) → (b ≡ true → P) → (b ≡ false → P) → P
by_bool true f g = f refl
by_bool false f g = g refl

-- members of lists of ways and of components

among_components : (v : ℕ) (w : List Bool) (ws : List (List Bool)) → Among w ws → Among (record { var = v; way = w }) (components_of v ws)
among_components v w [] a = absurd a
among_components v w (x ∷ ws) a = ⊎_elim (λ e. inl (ap (λ z. record { var = v; way = z }) e)) (λ r. inr (among_components v w ws r)) a

among_outside : (v : ℕ) (w : List Bool) (cs : List Component) → Among (record { var = suc v; way = w }) cs → Among (record { var = v; way = w }) (outside cs)
among_outside v w [] a = absurd a
among_outside v w (c ∷ cs) a =
    ⊎_elim
    (λ e. among_left (record { var = v; way = w }) (beneath c.var c.way) (outside cs) (subst (λ z. Among (record { var = v; way = w }) (beneath z.var z.way)) e (inl refl)))
    (λ r. among_right (record { var = v; way = w }) (beneath c.var c.way) (outside cs) (among_outside v w cs r))
    a

ways_among : (v : ℕ) (w : List Bool) (cs : List Component) → Among (record { var = v; way = w }) cs → Among w (ways v cs)
ways_among v w [] a = absurd a
ways_among v w (c ∷ cs) a = by_bool (v == c.var)
    (λ e. subst (λ z. Among w (if z then c.way ∷ ways v cs else ways v cs)) (sym e) (⊎_elim (λ q. inl (ap Component.way q)) (λ r. inr (ways_among v w cs r)) a))
    (λ e. subst (λ z. Among w (if z then c.way ∷ ways v cs else ways v cs)) (sym e) (⊎_elim (λ q. absurd (true≢false (sym (eq-eqb v c.var (ap Component.var q)) ∙ e))) (λ r. ways_among v w cs r) a))

pub ways_from : (v : ℕ) (w : List Bool) (cs : List Component) → Among w (ways v cs) → Among (record { var = v; way = w }) cs
ways_from v w [] a = absurd a
ways_from v w (c ∷ cs) a = by_bool (v == c.var)
    (λ e. ⊎_elim (λ q. inl (ap (λ z. record { var = z; way = w }) (eqb-true v c.var e) ∙ ap (λ z. record { var = c.var; way = z }) q)) (λ r. inr (ways_from v w cs r)) (subst (λ z. Among w (if z then c.way ∷ ways v cs else ways v cs)) e a))
    (λ e. inr (ways_from v w cs (subst (λ z. Among w (if z then c.way ∷ ways v cs else ways v cs)) e a)))

nil_differs : (s : Bool) (w : List Bool) → s ∷ w ≡ [] → ⊥
nil_differs s w e = cc

sides_differ : (v w : List Bool) → false ∷ v ≡ true ∷ w → ⊥
sides_differ v w e = cc

rest_is : (r s : Bool) (v w : List Bool) → r ∷ v ≡ s ∷ w → v ≡ w
rest_is r s v w e = ap drop_one e
  where
    drop_one : List Bool → List Bool
    drop_one [] = []
    drop_one (x ∷ xs) = xs

onward_whole : (s : Bool) (ws : List (List Bool)) → Among [] ws → Among [] (onward s ws)
onward_whole s [] a = absurd a
onward_whole s ([] ∷ ws) a = inl refl
onward_whole true ((true ∷ v) ∷ ws) a = ⊎_elim (λ e. absurd (nil_differs true v (sym e))) (λ r. inr (onward_whole true ws r)) a
onward_whole true ((false ∷ v) ∷ ws) a = ⊎_elim (λ e. absurd (nil_differs false v (sym e))) (λ r. onward_whole true ws r) a
onward_whole false ((true ∷ v) ∷ ws) a = ⊎_elim (λ e. absurd (nil_differs true v (sym e))) (λ r. onward_whole false ws r) a
onward_whole false ((false ∷ v) ∷ ws) a = ⊎_elim (λ e. absurd (nil_differs false v (sym e))) (λ r. inr (onward_whole false ws r)) a

onward_among : (s : Bool) (w : List Bool) (ws : List (List Bool)) → Among (s ∷ w) ws → Among w (onward s ws)
onward_among s w [] a = absurd a
onward_among s w ([] ∷ ws) a = ⊎_elim (λ e. absurd (nil_differs s w e)) (λ r. inr (onward_among s w ws r)) a
onward_among true w ((true ∷ v) ∷ ws) a = ⊎_elim (λ e. inl (rest_is true true w v e)) (λ r. inr (onward_among true w ws r)) a
onward_among true w ((false ∷ v) ∷ ws) a = ⊎_elim (λ e. absurd (sides_differ v w (sym e))) (λ r. onward_among true w ws r) a
onward_among false w ((true ∷ v) ∷ ws) a = ⊎_elim (λ e. absurd (sides_differ w v e)) (λ r. onward_among false w ws r) a
onward_among false w ((false ∷ v) ∷ ws) a = ⊎_elim (λ e. inl (rest_is false false w v e)) (λ r. inr (onward_among false w ws r)) a

onward_from : (s : Bool) (w : List Bool) (ws : List (List Bool)) → Among w (onward s ws) → Among (s ∷ w) ws ⊎ Among [] ws
onward_from s w [] a = absurd a
onward_from s w ([] ∷ ws) a = inr (inl refl)
onward_from true w ((true ∷ v) ∷ ws) a = ⊎_elim (λ e. inl (inl (ap (λ z. true ∷ z) e))) (λ r. ⊎_elim (λ z. inl (inr z)) (λ z. inr (inr z)) (onward_from true w ws r)) a
onward_from true w ((false ∷ v) ∷ ws) a = ⊎_elim (λ z. inl (inr z)) (λ z. inr (inr z)) (onward_from true w ws a)
onward_from false w ((true ∷ v) ∷ ws) a = ⊎_elim (λ z. inl (inr z)) (λ z. inr (inr z)) (onward_from false w ws a)
onward_from false w ((false ∷ v) ∷ ws) a = ⊎_elim (λ e. inl (inl (ap (λ z. false ∷ z) e))) (λ r. ⊎_elim (λ z. inl (inr z)) (λ z. inr (inr z)) (onward_from false w ws r)) a

ends_whole : (ws : List (List Bool)) → Among [] ws → ends ws ≡ true
ends_whole [] a = absurd a
ends_whole ([] ∷ ws) a = refl
ends_whole ((s ∷ w) ∷ ws) a = ⊎_elim (λ e. absurd (nil_differs s w (sym e))) (λ r. ends_whole ws r) a

whole_ends : (ws : List (List Bool)) → ends ws ≡ true → Among [] ws
whole_ends [] e = absurd (true≢false (sym e))
whole_ends ([] ∷ ws) e = inl refl
whole_ends ((s ∷ w) ∷ ws) e = inr (whole_ends ws e)

-- u has of t what the ways lead to; the rest is whatever is short
abbrev pub KeepsIn : Ty → (List Bool → Type 0) → Ty → Type 0
KeepsIn Scalar W u = (W [] → u ≡ Scalar) × IsShort u
KeepsIn (PairOf a b) W u = (W [] → u ≡ PairOf a b) × (x y : Ty) × (u ≡ PairOf x y) × KeepsIn a (λ w. W (false ∷ w)) x × KeepsIn b (λ w. W (true ∷ w)) y
KeepsIn (ArrayOf n t) W u = (W [] → u ≡ ArrayOf n t) × (x : Ty) × (u ≡ ArrayOf n x) × KeepsIn t W x

keeps_itself : (t : Ty) (W : List Bool → Type 0) → KeepsIn t W t
keeps_itself Scalar W = (λ w. refl, tt)
keeps_itself (PairOf a b) W = (λ w. refl, a, b, refl, keeps_itself a (λ w. W (false ∷ w)), keeps_itself b (λ w. W (true ∷ w)))
keeps_itself (ArrayOf n t) W = (λ w. refl, t, refl, keeps_itself t W)

keeps_less : (t u : Ty) (V W : List Bool → Type 0) → ((w : List Bool) → V w → W w) → KeepsIn t W u → KeepsIn t V u
keeps_less Scalar u V W f k = (λ w. k.0 (f [] w), k.1)
keeps_less (PairOf a b) u V W f k = (λ w. k.0 (f [] w), k.1, k.2, k.3, keeps_less a k.1 (λ w. V (false ∷ w)) (λ w. W (false ∷ w)) (λ w. f (false ∷ w)) k.4, keeps_less b k.2 (λ w. V (true ∷ w)) (λ w. W (true ∷ w)) (λ w. f (true ∷ w)) k.5)
keeps_less (ArrayOf n t) u V W f k = (λ w. k.0 (f [] w), k.1, k.2, keeps_less t k.1 V W f k.3)

keeps_whole : (t u : Ty) (W : List Bool → Type 0) → KeepsIn t W u → W [] → u ≡ t
keeps_whole Scalar u W k w = k.0 w
keeps_whole (PairOf a b) u W k w = k.0 w
keeps_whole (ArrayOf n t) u W k w = k.0 w

keeps_short : (t u : Ty) (W : List Bool → Type 0) → KeepsIn t W u → IsShort t → IsShort u
keeps_short Scalar u W k s = k.1
keeps_short (PairOf a b) u W k s = subst IsShort (sym k.3) (keeps_short a k.1 (λ w. W (false ∷ w)) k.4 s.0, keeps_short b k.2 (λ w. W (true ∷ w)) k.5 s.1)
keeps_short (ArrayOf n t) u W k s = subst IsShort (sym k.2) (s.0, keeps_short t k.1 W k.3 s.1)

keeps_array : (n : ℕ) (t u : Ty) (W : List Bool → Type 0) → KeepsIn t W u → KeepsIn (ArrayOf n t) W (ArrayOf n u)
keeps_array n t u W k = (λ w. ap (ArrayOf n) (keeps_whole t u W k w), u, refl, k)

-- a cut type keeps its ways

cut_whole : (t : Ty) (ws : List (List Bool)) → Among [] ws → cut t ws ≡ t
cut_whole Scalar ws a = ap (λ z. if z then Scalar else ArrayOf 0 Scalar) (ends_whole ws a)
cut_whole (PairOf x y) ws a = ap (λ z. PairOf z (cut y (onward true ws))) (cut_whole x (onward false ws) (onward_whole false ws a)) ∙ ap (PairOf x) (cut_whole y (onward true ws) (onward_whole true ws a))
cut_whole (ArrayOf n t) ws a = ap (ArrayOf n) (cut_whole t ws a)

pub cut_keeps : (t : Ty) (ws : List (List Bool)) → KeepsIn t (λ w. Among w ws) (cut t ws)
cut_keeps Scalar ws = (λ a. cut_whole Scalar ws a, short (ends ws))
  where
    short : (b : Bool) → IsShort (if b then Scalar else ArrayOf 0 Scalar)
    short true = tt
    short false = (omega arith, tt)
cut_keeps (PairOf x y) ws = (
  λ a. cut_whole (PairOf x y) ws a,
  cut x (onward false ws),
  cut y (onward true ws),
  refl,
  keeps_less x (cut x (onward false ws)) (λ w. Among (false ∷ w) ws) (λ w. Among w (onward false ws)) (λ w a. onward_among false w ws a) (cut_keeps x (onward false ws)),
  keeps_less y (cut y (onward true ws)) (λ w. Among (true ∷ w) ws) (λ w. Among w (onward true ws)) (λ w a. onward_among true w ws a) (cut_keeps y (onward true ws)),
)
cut_keeps (ArrayOf n t) ws = keeps_array n t (cut t ws) (λ w. Among w ws) (cut_keeps t ws)

-- and has no position that is not at the end of one
no_place : {P : Type 0} → (cs : List Bool) (p : List ℕ) → IsPosition (ArrayOf 0 Scalar) cs p → P
no_place cs [] x = absurd x
no_place cs (i ∷ p) x = absurd (let lt = x.0 in omega arith)

abbrev pub IsUnder : (cs : List Bool) → List (List Bool) → Type 0
IsUnder cs ws = (w ds : List Bool) × Among w ws × (cs ≡ w ++ ds)

pub cut_position : (t : Ty) (ws : List (List Bool)) (cs : List Bool) (p : List ℕ) → IsPosition (cut t ws) cs p → IsPosition t cs p × IsUnder cs ws
cut_position Scalar ws cs p x = by_bool (ends ws)
    (λ e. let y = subst (λ z. IsPosition (if z then Scalar else ArrayOf 0 Scalar) cs p) e x in (y, ([], cs, whole_ends ws e, refl)))
    (λ e. no_place cs p (subst (λ z. IsPosition (if z then Scalar else ArrayOf 0 Scalar) cs p) e x))
cut_position (PairOf a b) ws [] p x = absurd x
cut_position (PairOf a b) ws (false ∷ cs) p x =
    let r = cut_position a (onward false ws) cs p x in
    (r.0, ⊎_elim (λ z. (false ∷ r.1.0, r.1.1, z, ap (λ y. false ∷ y) r.1.3)) (λ z. ([], false ∷ cs, z, refl)) (onward_from false r.1.0 ws r.1.2))
cut_position (PairOf a b) ws (true ∷ cs) p x =
    let r = cut_position b (onward true ws) cs p x in
    (r.0, ⊎_elim (λ z. (true ∷ r.1.0, r.1.1, z, ap (λ y. true ∷ y) r.1.3)) (λ z. ([], true ∷ cs, z, refl)) (onward_from true r.1.0 ws r.1.2))
cut_position (ArrayOf n t) ws cs [] x = absurd x
cut_position (ArrayOf n t) ws cs (i ∷ p) x = let r = cut_position t ws cs p x.1 in ((x.0, r.0), r.1)

pub loads_kept : (loads : LoadSet) (t u : Ty) (W : List Bool → Type 0) → ((w : List Bool) → Among w (taken loads) → W w) → LoadsScalars loads t → KeepsIn t W u → LoadsScalars loads u
loads_kept Skip t u W f s k = tt
loads_kept Take Scalar u W f s k = subst (LoadsScalars Take) (sym (k.0 (f [] (inl refl)))) tt
loads_kept Take (PairOf a b) u W f s k = absurd s
loads_kept Take (ArrayOf n t) u W f s k = absurd s
loads_kept TakeFour Scalar u W f s k = absurd s
loads_kept TakeFour (PairOf a b) u W f s k = absurd s
loads_kept TakeFour (ArrayOf n t) u W f s k = subst (LoadsScalars TakeFour) (sym (k.0 (f [] (inl refl)))) s
loads_kept (Each x y) Scalar u W f s k = absurd s
loads_kept (Each x y) (ArrayOf n t) u W f s k = absurd s
loads_kept (Each x y) (PairOf a b) u W f s k =
    let l = map (λ w. false ∷ w) (taken x) in
    let r = map (λ w. true ∷ w) (taken y) in
    subst (LoadsScalars (Each x y)) (sym k.3) (
      loads_kept x a k.1 (λ w. W (false ∷ w)) (λ w z. f (false ∷ w) (among_left (false ∷ w) l r (among_map (λ w. false ∷ w) w (taken x) z))) s.0 k.4,
      loads_kept y b k.2 (λ w. W (true ∷ w)) (λ w z. f (true ∷ w) (among_right (true ∷ w) l r (among_map (λ w. true ∷ w) w (taken y) z))) s.1 k.5,
    )

module _ {A : Type 0} (num : A → ℕ) where
  -- a layout of an operand whose other components are whatever they are
  reshape_keeps : (l : Layout A) (u t v : Ty) (W : List Bool → Type 0) → Reshapes num l u t → KeepsIn u W v → (s : Ty) × Reshapes num l v s × KeepsIn t W s
  reshape_keeps (Split m) (ArrayOf n x) t v W r k = (
    ArrayOf (n / num m) (ArrayOf (num m) k.1),
    subst (λ z. Reshapes num (Split m) z (ArrayOf (n / num m) (ArrayOf (num m) k.1))) (sym k.2) (r.0, r.1, refl),
    subst (λ z. KeepsIn z W (ArrayOf (n / num m) (ArrayOf (num m) k.1))) (sym r.2) (keeps_array (n / num m) (ArrayOf (num m) x) (ArrayOf (num m) k.1) W (keeps_array (num m) x k.1 W k.3)),
  )
  reshape_keeps (Join m) (ArrayOf n (ArrayOf j x)) t v W r k =
      let i = k.3 in
      let same : v ≡ ArrayOf n (ArrayOf j i.1) = k.2 ∙ ap (ArrayOf n) i.2 in
      (ArrayOf (n * num m) i.1, subst (λ z. Reshapes num (Join m) z (ArrayOf (n * num m) i.1)) (sym same) (r.0, r.1, refl), subst (λ z. KeepsIn z W (ArrayOf (n * num m) i.1)) (sym r.2) (keeps_array (n * num m) x i.1 W i.3))
  reshape_keeps Transpose (ArrayOf n (ArrayOf m x)) t v W r k =
      let i = k.3 in
      let same : v ≡ ArrayOf n (ArrayOf m i.1) = k.2 ∙ ap (ArrayOf n) i.2 in
      (ArrayOf m (ArrayOf n i.1), subst (λ z. Reshapes num Transpose z (ArrayOf m (ArrayOf n i.1))) (sym same) (r.0, refl), subst (λ z. KeepsIn z W (ArrayOf m (ArrayOf n i.1))) (sym r.1) (keeps_array m (ArrayOf n x) (ArrayOf n i.1) W (keeps_array n x i.1 W i.3)))
  reshape_keeps (Reverse j) (ArrayOf n x) t v W r k =
      (ArrayOf n k.1, subst (λ z. Reshapes num (Reverse j) z (ArrayOf n k.1)) (sym k.2) (r.0, refl), subst (λ z. KeepsIn z W (ArrayOf n k.1)) (sym r.1) (keeps_array n x k.1 W k.3))
  reshape_keeps (Slide s j) (ArrayOf n x) t v W r k =
      let rows = (n - s) / j + 1 in
      (ArrayOf rows (ArrayOf s k.1), subst (λ z. Reshapes num (Slide s j) z (ArrayOf rows (ArrayOf s k.1))) (sym k.2) (r.0, r.1, r.2, refl), subst (λ z. KeepsIn z W (ArrayOf rows (ArrayOf s k.1))) (sym r.3) (keeps_array rows (ArrayOf s x) (ArrayOf s k.1) W (keeps_array s x k.1 W k.3)))
  reshape_keeps (Pad a b j) (ArrayOf n x) t v W r k =
      (ArrayOf (a + n + b) k.1, subst (λ z. Reshapes num (Pad a b j) z (ArrayOf (a + n + b) k.1)) (sym k.2) (r.0, r.1, refl), subst (λ z. KeepsIn z W (ArrayOf (a + n + b) k.1)) (sym r.2) (keeps_array (a + n + b) x k.1 W k.3))
  reshape_keeps _ u t v W r k = absurd (assumption)

  module _ (src : ℕ → Ty) where
    abbrev Wants : List Component → ℕ → List Bool → Type 0
    Wants cs v w = Among (record { var = v; way = w }) cs

    -- h has of g what these components are
    abbrev Keeps : (g h : ℕ → Ty) → List Component → Type 0
    Keeps g h cs = (v : ℕ) → KeepsIn (g v) (Wants cs v) (h v)

    keeps_left : (g h : ℕ → Ty) (xs ys : List Component) → Keeps g h (xs ++ ys) → Keeps g h xs
    keeps_left g h xs ys k v = keeps_less (g v) (h v) (Wants xs v) (Wants (xs ++ ys) v) (λ w a. among_left (record { var = v; way = w }) xs ys a) (k v)

    keeps_right : (g h : ℕ → Ty) (xs ys : List Component) → Keeps g h (xs ++ ys) → Keeps g h ys
    keeps_right g h xs ys k v = keeps_less (g v) (h v) (Wants ys v) (Wants (xs ++ ys) v) (λ w a. among_right (record { var = v; way = w }) xs ys a) (k v)

    keeps_push : (g h : ℕ → Ty) (x y : Ty) (cs : List Component) → KeepsIn x (Wants cs 0) y → Keeps g h (outside cs) → Keeps (push x g) (push y h) cs
    keeps_push g h x y cs a k zero = a
    keeps_push g h x y cs a k (suc v) = keeps_less (g v) (h v) (Wants cs (suc v)) (Wants (outside cs) v) (λ w z. among_outside v w cs z) (k v)

    keeps_same : (g h : ℕ → Ty) (x : Ty) (cs : List Component) → Keeps g h (outside cs) → Keeps (push x g) (push x h) cs
    keeps_same g h x cs k = keeps_push g h x x cs (keeps_itself x (Wants cs 0)) k

    abbrev Typed : (h : ℕ → Ty) (t : Term A) → List (List Bool) → Ty → Type 0
    Typed h t ws ty = (u : Ty) × HasType num src h t u × KeepsIn ty (λ w. Among w ws) u

    wholly : (h : ℕ → Ty) (t : Term A) (ty : Ty) → Typed h t whole ty → HasType num src h t ty
    wholly h t ty r = subst (HasType num src h t) (keeps_whole ty r.0 (λ w. Among w whole) r.2 (inl refl)) r.1

    just : (h : ℕ → Ty) (t : Term A) (ws : List (List Bool)) (ty : Ty) → HasType num src h t ty → Typed h t ws ty
    just h t ws ty x = (ty, x, keeps_itself ty (λ w. Among w ws))

    -- a term is typed by the components that it names
    pub typed_by_named : (t : Term A) (g h : ℕ → Ty) (ty : Ty) (ws : List (List Bool)) → Keeps g h (named t ws) → HasType num src g t ty → Typed h t ws ty
    typed_by_named (Literal n) g h ty ws k x = just h (Literal n) ws ty x
    typed_by_named (Bound v) g h ty ws k x = (h v, refl, subst (λ z. KeepsIn z (λ w. Among w ws) (h v)) (sym x) (keeps_less (g v) (h v) (λ w. Among w ws) (Wants (components_of v ws) v) (λ w a. among_components v w ws a) (k v)))
    typed_by_named (Source a) g h ty ws k x = just h (Source a) ws ty x
    typed_by_named (Apply o a b) g h ty ws k x =
        let one = wholly h a Scalar (typed_by_named a g h Scalar whole (keeps_left g h (named a whole) (named b whole) k) x.2) in
        let two = wholly h b Scalar (typed_by_named b g h Scalar whole (keeps_right g h (named a whole) (named b whole) k) x.3) in
        just h (Apply o a b) ws ty (x.0, x.1, one, two)
    typed_by_named (ApplyNumber o n a) g h ty ws k x = just h (ApplyNumber o n a) ws ty (x.0, x.1, wholly h a Scalar (typed_by_named a g h Scalar whole k x.2))
    typed_by_named (ApplyLanes o l r a b) g h ty ws k x =
        let one = wholly h a (lane_type l) (typed_by_named a g h (lane_type l) whole (keeps_left g h (named a whole) (named b whole) k) x.4) in
        let two = wholly h b (lane_type r) (typed_by_named b g h (lane_type r) whole (keeps_right g h (named a whole) (named b whole) k) x.5) in
        just h (ApplyLanes o l r a b) ws ty (x.0, x.1, x.2, x.3, one, two)
    typed_by_named (DivideLanes o n a) g h ty ws k x = just h (DivideLanes o n a) ws ty (x.0, x.1, wholly h a four (typed_by_named a g h four whole k x.2))
    typed_by_named (Select c a b) g h ty ws k x =
        let r = keeps_right g h (named c whole) (named a whole ++ named b whole) k in
        let one = wholly h c Scalar (typed_by_named c g h Scalar whole (keeps_left g h (named c whole) (named a whole ++ named b whole) k) x.1) in
        let two = wholly h a Scalar (typed_by_named a g h Scalar whole (keeps_left g h (named a whole) (named b whole) r) x.2) in
        let three = wholly h b Scalar (typed_by_named b g h Scalar whole (keeps_right g h (named a whole) (named b whole) r) x.3) in
        just h (Select c a b) ws ty (x.0, one, two, three)
    typed_by_named (Both false a b) g h ty ws k x =
        let one = wholly h a x.0 (typed_by_named a g h x.0 whole (keeps_left g h (named a whole) (named b whole) k) x.5) in
        let two = wholly h b x.1 (typed_by_named b g h x.1 whole (keeps_right g h (named a whole) (named b whole) k) x.6) in
        just h (Both false a b) ws ty (x.0, x.1, x.2, x.3, x.4, one, two)
    typed_by_named (Both true a b) g h ty ws k x =
        let l = named a (onward false ws) in
        let r = named b (onward true ws) in
        let one = typed_by_named a g h (ArrayOf x.0 x.1) (onward false ws) (keeps_left g h l r k) x.4 in
        let two = typed_by_named b g h (ArrayOf x.0 x.2) (onward true ws) (keeps_right g h l r k) x.5 in
        let u = one.2.1 in
        let v = two.2.1 in (
          ArrayOf x.0 (PairOf u v),
          (x.0, u, v, refl, subst (HasType num src h a) one.2.2 one.1, subst (HasType num src h b) two.2.2 two.1),
          subst (λ z. KeepsIn z (λ w. Among w ws) (ArrayOf x.0 (PairOf u v))) (sym x.3) (keeps_array x.0 (PairOf x.1 x.2) (PairOf u v) (λ w. Among w ws) (keeps_pair x.1 x.2 u v ws one.2.3 two.2.3)),
        )
      where
        keeps_pair : (a b u v : Ty) (ws : List (List Bool)) → KeepsIn a (λ w. Among w (onward false ws)) u → KeepsIn b (λ w. Among w (onward true ws)) v → KeepsIn (PairOf a b) (λ w. Among w ws) (PairOf u v)
        keeps_pair a b u v ws k l = (
          λ z. ap (λ y. PairOf y v) (keeps_whole a u (λ w. Among w (onward false ws)) k (onward_whole false ws z)) ∙ ap (PairOf a) (keeps_whole b v (λ w. Among w (onward true ws)) l (onward_whole true ws z)),
          u,
          v,
          refl,
          keeps_less a u (λ w. Among (false ∷ w) ws) (λ w. Among w (onward false ws)) (λ w z. onward_among false w ws z) k,
          keeps_less b v (λ w. Among (true ∷ w) ws) (λ w. Among w (onward true ws)) (λ w z. onward_among true w ws z) l,
        )
    typed_by_named (Project false a) g h ty ws k x =
        let vs = map (λ w. false ∷ w) ws in
        let r = typed_by_named a g h (PairOf ty x.0) vs k x.1 in
        let i = r.2 in
        (i.1, (i.2, subst (HasType num src h a) i.3 r.1), keeps_less ty i.1 (λ w. Among w ws) (λ w. Among (false ∷ w) vs) (λ w z. among_map (λ w. false ∷ w) w ws z) i.4)
    typed_by_named (Project true a) g h ty ws k x =
        let vs = map (λ w. true ∷ w) ws in
        let r = typed_by_named a g h (PairOf x.0 ty) vs k x.1 in
        let i = r.2 in
        (i.2, (i.1, subst (HasType num src h a) i.3 r.1), keeps_less ty i.2 (λ w. Among w ws) (λ w. Among (true ∷ w) vs) (λ w z. among_map (λ w. true ∷ w) w ws z) i.5)
    typed_by_named (Reshape l a) g h ty ws k x =
        let r = typed_by_named a g h x.0 ws k x.1 in
        let s = reshape_keeps l x.0 ty r.0 (λ w. Among w ws) x.2 r.2 in
        (s.0, (r.0, r.1, s.1, keeps_short x.0 r.0 (λ w. Among w ws) r.2 x.3, keeps_short ty s.0 (λ w. Among w ws) s.2 x.4, x.5), s.2)
    typed_by_named (LetArray v b) g h ty ws k x =
        let n = named b ws in
        let vs = ways 0 n in
        let one = typed_by_named v g h x.0 vs (keeps_left g h (named v vs) (outside n) k) x.1 in
        let two = typed_by_named b (push x.0 g) (push one.0 h) ty ws (keeps_push g h x.0 one.0 n (keeps_less x.0 one.0 (Wants n 0) (λ w. Among w vs) (λ w z. ways_among 0 w n z) one.2) (keeps_right g h (named v vs) (outside n) k)) x.2 in
        (two.0, (one.0, one.1, two.1), two.2)
    typed_by_named (LetElement u v b) g h ty ws k x =
        let n = named b ws in
        let one = wholly h v u (typed_by_named v g h u whole (keeps_left g h (named v whole) (outside n) k) x.1) in
        let two = typed_by_named b (push u g) (push u h) ty ws (keeps_same g h u n (keeps_right g h (named v whole) (outside n) k)) x.2 in
        (two.0, (x.0, one, two.1), two.2)
    typed_by_named (Map m n loads xs b) g h ty ws k x =
        let c = named b ws in
        let es = taken loads ++ ways 0 c in
        let one = typed_by_named xs g h (ArrayOf (num n) x.0) es (keeps_left g h (named xs es) (outside c) k) x.4 in
        let i = one.2 in
        let kept = keeps_less x.0 i.1 (Wants c 0) (λ w. Among w es) (λ w z. among_right w (taken loads) (ways 0 c) (ways_among 0 w c z)) i.3 in
        let two = typed_by_named b (push x.0 g) (push i.1 h) x.1 ws (keeps_push g h x.0 i.1 c kept (keeps_right g h (named xs es) (outside c) k)) x.5 in (
          ArrayOf (num n) two.0,
          (i.1, two.0, x.2, loads_kept loads x.0 i.1 (λ w. Among w es) (λ w z. among_left w (taken loads) (ways 0 c) z) x.3 i.3, subst (HasType num src h xs) i.2 one.1, two.1, refl),
          subst (λ z. KeepsIn z (λ w. Among w ws) (ArrayOf (num n) two.0)) (sym x.6) (keeps_array (num n) x.1 two.0 (λ w. Among w ws) two.2),
        )
    typed_by_named (Fold n loads y xs s b) g h ty ws k x =
        let c = named b whole in
        let es = taken loads ++ ways 0 c in
        let rest = named s whole ++ outside (outside c) in
        let one = typed_by_named xs g h (ArrayOf (num n) x.0) es (keeps_left g h (named xs es) rest k) x.4 in
        let i = one.2 in
        let r = keeps_right g h (named xs es) rest k in
        let two = wholly h s y (typed_by_named s g h y whole (keeps_left g h (named s whole) (outside (outside c)) r) x.5) in
        let kept = keeps_less x.0 i.1 (Wants c 0) (λ w. Among w es) (λ w z. among_right w (taken loads) (ways 0 c) (ways_among 0 w c z)) i.3 in
        let three = wholly (push i.1 (push y h)) b y (typed_by_named b (push x.0 (push y g)) (push i.1 (push y h)) y whole (keeps_push (push y g) (push y h) x.0 i.1 c kept (keeps_same g h y (outside c) (keeps_right g h (named s whole) (outside (outside c)) r))) x.6) in
        just h (Fold n loads y xs s b) ws ty (i.1, x.1, loads_kept loads x.0 i.1 (λ w. Among w es) (λ w z. among_left w (taken loads) (ways 0 c) z) x.2 i.3, x.3, subst (HasType num src h xs) i.2 one.1, two, three, x.7)
    typed_by_named (Store u a) g h ty ws k x = just h (Store u a) ws ty (x.0, x.1, wholly h a ty (typed_by_named a g h ty whole k x.2))
    typed_by_named (Copy space u a) g h ty ws k x = just h (Copy space u a) ws ty (x.0, x.1, wholly h a ty (typed_by_named a g h ty whole k x.2))

    -- so the body of a local map has its type where its element and its variables have what it
    -- names
    pub body_typed : (g : ℕ → Ty) (loads : LoadSet) (b : Term A) (x y : Ty) → HasType num src (push x g) b y → HasType num src (push (cut x (element_ways loads b)) (λ v. cut (g v) (ways v (named_outside b)))) b y
    body_typed g loads b x y t =
        let c = named b whole in
        let es = element_ways loads b in
        let h = λ (v : ℕ). cut (g v) (ways v (outside c)) in
        wholly (push (cut x es) h) b y
        (typed_by_named b (push x g) (push (cut x es) h) y whole
        (keeps_push g h x (cut x es) c (keeps_less x (cut x es) (Wants c 0) (λ w. Among w es) (λ w z. among_right w (taken loads) (ways 0 c) (ways_among 0 w c z)) (cut_keeps x es))
        (λ v. keeps_less (g v) (h v) (Wants (outside c) v) (λ w. Among w (ways v (outside c))) (λ w z. ways_among v w (outside c) z) (cut_keeps (g v) (ways v (outside c))))) t)

pub element_loads : (loads : LoadSet) (t : Ty) (ws : List (List Bool)) → LoadsScalars loads t → LoadsScalars loads (cut t (taken loads ++ ws))
element_loads loads t ws s = loads_kept loads t (cut t (taken loads ++ ws)) (λ w. Among w (taken loads ++ ws)) (λ w a. among_left w (taken loads) ws a) s (cut_keeps t (taken loads ++ ws))
