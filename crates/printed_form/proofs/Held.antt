-- The expressions of what is in variables, and the loads and stores of elements.
use Rattle.std.proofs.Common.{◌≡◌, ℕ, zero, suc, Bool, true, false, List, [], ◌∷◌, Option, Some, refl, sym, ap, ◌∙◌, subst, append-nil}
use Rattle.std.proofs.lemmas.Bool.{eq-eqb}
use Rattle.kernel_tree.specs.Formula.{Formula, Lanes, Variable, Vector}
use Rattle.kernel_tree.specs.Code.{Array, Code, Performs, Loads, Stores, StoresFour}
use Rattle.kernel_tree.specs.Launch.{Launch}
use Rattle.lift_ir.specs.Types.{Ty, Scalar, PairOf, ArrayOf, four, IsFour, IsPart, IsElement}
use Rattle.lift_ir.specs.Fours.{Lie, Loose, Whole, InFours, bound_lie, held_lie, both_lie, LoadsFours}
use Rattle.lift_ir.specs.Fours as lies
use Rattle.lift_ir.specs.Loads.{covers}
use Rattle.lift_ir.specs.Terms.{LoadSet, Skip, Take, TakeFour, Each, LoadsScalars, push}
use Rattle.printed_form.specs.Counts.{Count, more, held_count, load_count}
use Rattle.printed_form.specs.Expressions.{Expr, OneWord, FourWords, of_vector, held}
use Rattle.printed_form.specs.Form.{IsSpot, IsFourSpot, IsStored, IsLoaded}
use Rattle.printed_form.specs.Marks.{Mark, Nowhere, Register, Lane, Spot, Marks, AreFourCells, held_marks, loaded_marks, lanes_of_one}
use Rattle.printed_form.specs.Means.{IsCell, HasCells, Shows, AreFours, LiesAs, ShowsAs, AllShow}
use Rattle.printed_form.specs.Printer.{or_number, or_lanes, print_load, print_load_four, print_loaded, print_store, print_store_four, print_stored}
use Rattle.printed_form.specs.Views.{Sign, Blank, Held, HeldFour, Read, View, held_sign, held_view, loaded_view}
use Rattle.printed_form.proofs.Lies.{showing, lie_serves}
use Rattle.printed_form.proofs.Shown.{cells_side, cells_show}

-- a number or a vector, which is a component of an element
abbrev pub IsComponent : Ty → List Bool → Type 0
IsComponent Scalar [] = Unit {0}
IsComponent Scalar (c ∷ cs) = ⊥
IsComponent (PairOf a b) [] = ⊥
IsComponent (PairOf a b) (false ∷ cs) = IsComponent a cs
IsComponent (PairOf a b) (true ∷ cs) = IsComponent b cs
IsComponent (ArrayOf n t) [] = IsFour n t
IsComponent (ArrayOf n t) (c ∷ cs) = ⊥

pub component_part : (t : Ty) (cs : List Bool) → IsComponent t cs → IsPart t cs
component_part Scalar [] w = tt
component_part Scalar (c ∷ cs) w = absurd w
component_part (PairOf a b) [] w = absurd w
component_part (PairOf a b) (false ∷ cs) w = component_part a cs w
component_part (PairOf a b) (true ∷ cs) w = component_part b cs w
component_part (ArrayOf n t) [] w = tt
component_part (ArrayOf n t) (c ∷ cs) w = absurd w

pub part_component : (t : Ty) (cs : List Bool) → IsElement t → IsPart t cs → IsComponent t cs
part_component Scalar [] el w = tt
part_component Scalar (c ∷ cs) el w = absurd w
part_component (PairOf a b) [] el w = absurd w
part_component (PairOf a b) (false ∷ cs) el w = part_component a cs el.0 w
part_component (PairOf a b) (true ∷ cs) el w = part_component b cs el.1 w
part_component (ArrayOf n t) [] el w = el
part_component (ArrayOf n t) (c ∷ cs) el w = absurd w

-- an expression of a component's words
abbrev pub IsExprOf : Ty → List Bool → Expr → Type 0
IsExprOf Scalar [] (OneWord e) = Unit {0}
IsExprOf Scalar [] (FourWords e) = ⊥
IsExprOf Scalar (c ∷ cs) e = ⊥
IsExprOf (PairOf a b) [] e = ⊥
IsExprOf (PairOf a b) (false ∷ cs) e = IsExprOf a cs e
IsExprOf (PairOf a b) (true ∷ cs) e = IsExprOf b cs e
IsExprOf (ArrayOf n t) [] (OneWord e) = ⊥
IsExprOf (ArrayOf n t) [] (FourWords e) = Unit {0}
IsExprOf (ArrayOf n t) (c ∷ cs) e = ⊥

-- by signs and by marks a component has one expression, of its words
pub record IsExpr (ty : Ty) (cs : List Bool) (signs marks : Option Expr) : Type 0 where
  pub expr : Expr
  pub kind : IsExprOf ty cs expr
  pub by_signs : signs ≡ Some expr
  pub by_marks : marks ≡ Some expr

pub one_word : (s m : Option Expr) → IsExpr Scalar [] s m → (e : Formula) × (s ≡ Some (OneWord e)) × (m ≡ Some (OneWord e))
one_word s m h = go h.expr h.kind h.by_signs h.by_marks
  where
    go : (e : Expr) → IsExprOf Scalar [] e → s ≡ Some e → m ≡ Some e → (e : Formula) × (s ≡ Some (OneWord e)) × (m ≡ Some (OneWord e))
    go (OneWord e) k a b = (e, a, b)
    go (FourWords e) k a b = absurd k

pub four_words : (n : ℕ) (t : Ty) (s m : Option Expr) → IsExpr (ArrayOf n t) [] s m → (e : Lanes) × (s ≡ Some (FourWords e)) × (m ≡ Some (FourWords e))
four_words n t s m h = go h.expr h.kind h.by_signs h.by_marks
  where
    go : (e : Expr) → IsExprOf (ArrayOf n t) [] e → s ≡ Some e → m ≡ Some e → (e : Lanes) × (s ≡ Some (FourWords e)) × (m ≡ Some (FourWords e))
    go (FourWords e) k a b = (e, a, b)
    go (OneWord e) k a b = absurd k

-- so has each component
abbrev pub AreExprs : Ty → (signs marks : List Bool → Option Expr) → Type 0
AreExprs ty k f = (cs : List Bool) → IsPart ty cs → IsExpr ty cs (k cs) (f cs)

exprs_side : (b : Bool) (t u : Ty) (k f : List Bool → Option Expr) → ((cs : List Bool) → IsPart t cs → IsPart u (b ∷ cs)) → ((cs : List Bool) (e : Expr) → IsExprOf u (b ∷ cs) e → IsExprOf t cs e) → AreExprs u k f → AreExprs t (λ cs. k (b ∷ cs)) (λ cs. f (b ∷ cs))
exprs_side b t u k f up down h cs w = let e = h (b ∷ cs) (up cs w) in record { expr = e.expr; kind = down cs e.expr e.kind; by_signs = e.by_signs; by_marks = e.by_marks }

pub exprs_left : (a b : Ty) (k f : List Bool → Option Expr) → AreExprs (PairOf a b) k f → AreExprs a (λ cs. k (false ∷ cs)) (λ cs. f (false ∷ cs))
exprs_left a b k f h = exprs_side false a (PairOf a b) k f (λ cs w. w) (λ cs e w. w) h

pub exprs_right : (a b : Ty) (k f : List Bool → Option Expr) → AreExprs (PairOf a b) k f → AreExprs b (λ cs. k (true ∷ cs)) (λ cs. f (true ∷ cs))
exprs_right a b k f h = exprs_side true b (PairOf a b) k f (λ cs w. w) (λ cs e w. w) h

-- the four lanes of a variable
own_lanes : (v : ℕ) → of_vector (lanes_of_one (Lane v 0) (Lane v 1) (Lane v 2) (Lane v 3)) ≡ Some (FourWords (Vector v))
own_lanes v = rw (eq-eqb v v refl) refl

-- an element in variables
pub held_exprs : (t : Ty) (n : Count) → IsElement t → AreExprs t (λ cs. held_sign (held_view t n cs [])) (λ cs. held (held_marks t n cs))
held_exprs Scalar n el [] w = record { expr = OneWord (Variable n.words); kind = tt; by_signs = refl; by_marks = refl }
held_exprs Scalar n el (c ∷ cs) w = absurd w
held_exprs (PairOf a b) n el [] w = absurd w
held_exprs (PairOf a b) n el (false ∷ cs) w = let e = held_exprs a n el.0 cs w in record { expr = e.expr; kind = e.kind; by_signs = e.by_signs; by_marks = e.by_marks }
held_exprs (PairOf a b) n el (true ∷ cs) w = let e = held_exprs b (more n (held_count a)) el.1 cs w in record { expr = e.expr; kind = e.kind; by_signs = e.by_signs; by_marks = e.by_marks }
held_exprs (ArrayOf m t) n el [] w = record { expr = FourWords (Vector n.fours); kind = tt; by_signs = refl; by_marks = own_lanes n.fours }
held_exprs (ArrayOf m t) n el (c ∷ cs) w = absurd w

-- what is loaded of one
pub loaded_exprs : (loads : LoadSet) (t : Ty) (x : View) (y : Marks) (n : Count) (cs : List Bool) → LoadsScalars loads t → IsPart t cs → covers loads cs ≡ true → IsExpr t cs (held_sign (loaded_view loads x n cs [])) (held (loaded_marks loads y n cs))
loaded_exprs Skip t x y n cs ok w h = absurd (cc)
loaded_exprs Take Scalar x y n [] ok w h = record { expr = OneWord (Variable n.words); kind = tt; by_signs = refl; by_marks = refl }
loaded_exprs Take Scalar x y n (c ∷ cs) ok w h = absurd w
loaded_exprs Take (PairOf a b) x y n cs ok w h = absurd ok
loaded_exprs Take (ArrayOf m t) x y n cs ok w h = absurd ok
loaded_exprs TakeFour (ArrayOf m t) x y n [] ok w h = record { expr = FourWords (Vector n.fours); kind = tt; by_signs = refl; by_marks = own_lanes n.fours }
loaded_exprs TakeFour (ArrayOf m t) x y n (c ∷ cs) ok w h = absurd w
loaded_exprs TakeFour Scalar x y n cs ok w h = absurd ok
loaded_exprs TakeFour (PairOf a b) x y n cs ok w h = absurd ok
loaded_exprs (Each p q) Scalar x y n cs ok w h = absurd ok
loaded_exprs (Each p q) (ArrayOf m t) x y n cs ok w h = absurd ok
loaded_exprs (Each p q) (PairOf a b) x y n [] ok w h = absurd w
loaded_exprs (Each p q) (PairOf a b) x y n (false ∷ cs) ok w h =
    let e = loaded_exprs p a (λ ds. x (false ∷ ds)) (λ ds. y (false ∷ ds)) n cs ok.0 w h in
    record { expr = e.expr; kind = e.kind; by_signs = e.by_signs; by_marks = e.by_marks }
loaded_exprs (Each p q) (PairOf a b) x y n (true ∷ cs) ok w h =
    let e = loaded_exprs q b (λ ds. x (true ∷ ds)) (λ ds. y (true ∷ ds)) (more n (load_count p)) cs ok.1 w h in
    record { expr = e.expr; kind = e.kind; by_signs = e.by_signs; by_marks = e.by_marks }

-- the components of binders that are in variables have expressions
abbrev pub HeldIn : (ℕ → Ty) → (ℕ → View) → (ℕ → Marks) → (ℕ → List Bool → Bool) → Type 0
HeldIn g views env h = (v : ℕ) (cs : List Bool) → IsPart (g v) cs → h v cs ≡ true → IsExpr (g v) cs (held_sign (views v cs [])) (held (env v cs))

pub held_push : (t : Ty) (x : View) (y : Marks) (k : List Bool → Bool) (g : ℕ → Ty) (views : ℕ → View) (env : ℕ → Marks) (h : ℕ → List Bool → Bool) → ((cs : List Bool) → IsPart t cs → k cs ≡ true → IsExpr t cs (held_sign (x cs [])) (held (y cs))) → HeldIn g views env h → HeldIn (push t g) (push x views) (push y env) (push k h)
held_push t x y k g views env h a r zero = a
held_push t x y k g views env h a r (suc v) = r v

module _ (l : Launch) (item : ℕ) where
  pub all_push : (ts : List ℕ) (z : Lie) (t : Ty) (x : View) (y : Marks) (lie : ℕ → Lie) (g : ℕ → Ty) (views : ℕ → View) (env : ℕ → Marks) → ShowsAs l item z ts t x y → AllShow l item ts lie g views env → AllShow l item ts (push z lie) (push t g) (push x views) (push y env)
  all_push ts z t x y lie g views env h es zero = h
  all_push ts z t x y lie g views env h es (suc v) = es v

  -- an element in variables has no arrays in cells
  pub held_shows : (ts : List ℕ) (t : Ty) (x : View) (y : Marks) → ShowsAs l item (held_lie t) ts t x y
  held_shows ts Scalar x y = tt
  held_shows ts (ArrayOf n t) x y = tt
  held_shows ts (PairOf a b) x y = two (held_lie a) (held_lie b) (held_shows ts a (λ cs. x (false ∷ cs)) (λ cs. y (false ∷ cs))) (held_shows ts b (λ cs. x (true ∷ cs)) (λ cs. y (true ∷ cs)))
    where
      two : (p q : Lie) → ShowsAs l item p ts a (λ cs. x (false ∷ cs)) (λ cs. y (false ∷ cs)) → ShowsAs l item q ts b (λ cs. x (true ∷ cs)) (λ cs. y (true ∷ cs)) → ShowsAs l item (both_lie p q) ts (PairOf a b) x y
      two lies.Held q h k = tt
      two Loose lies.Held h k = tt
      two Whole lies.Held h k = tt
      two (InFours m) lies.Held h k = tt
      two Loose Loose h k = (h, k)
      two Loose Whole h k = (h, k.0)
      two Loose (InFours n) h k = (h, k.0)
      two Whole Loose h k = (h.0, k)
      two Whole Whole h k = (h.0, k.0)
      two Whole (InFours n) h k = (h.0, k.0)
      two (InFours m) Loose h k = (h.0, k)
      two (InFours m) Whole h k = (h.0, k.0)
      two (InFours m) (InFours n) h k = (h.0, k.0)

  -- an element, once it is loaded
  part_shows : (ts : List ℕ) (loads : LoadSet) (t : Ty) (x : View) (y : Marks) (n : Count) → LoadsScalars loads t → LoadsFours Loose loads → HasCells l item ts t x y → Shows l item ts t (loaded_view loads x n) (loaded_marks loads y n)
  part_shows ts Skip t x y n ok fs h = cells_show l item ts t x y h
  part_shows ts Take Scalar x y n ok fs h = tt
  part_shows ts Take (PairOf a b) x y n ok fs h = absurd ok
  part_shows ts Take (ArrayOf m t) x y n ok fs h = absurd ok
  part_shows ts TakeFour t x y n ok fs h = absurd fs
  part_shows ts (Each p q) Scalar x y n ok fs h = absurd ok
  part_shows ts (Each p q) (ArrayOf m t) x y n ok fs h = absurd ok
  part_shows ts (Each p q) (PairOf a b) x y n ok fs h = (
    part_shows ts p a (λ cs. x (false ∷ cs)) (λ cs. y (false ∷ cs)) n ok.0 fs.0 (cells_side l item ts false a (PairOf a b) x y (λ cs q z. z) h),
    part_shows ts q b (λ cs. x (true ∷ cs)) (λ cs. y (true ∷ cs)) (more n (load_count p)) ok.1 fs.1 (cells_side l item ts true b (PairOf a b) x y (λ cs q z. z) h),
  )

  pub loaded_shows : (ts : List ℕ) (z : Lie) (loads : LoadSet) (t : Ty) (x : View) (y : Marks) (n : Count) → LoadsScalars loads t → LoadsFours z loads → HasCells l item ts t x y → LiesAs l item z ts t x y → ShowsAs l item (bound_lie loads z) ts t (loaded_view loads x n) (loaded_marks loads y n)
  loaded_shows ts z Skip t x y n ok fs h lie = showing l item z ts t x y (cells_show l item ts t x y h) lie
  loaded_shows ts z Take Scalar x y n ok fs h lie = tt
  loaded_shows ts z Take (PairOf a b) x y n ok fs h lie = absurd ok
  loaded_shows ts z Take (ArrayOf m t) x y n ok fs h lie = absurd ok
  loaded_shows ts z TakeFour t x y n ok fs h lie = tt
  loaded_shows ts z (Each p q) t x y n ok fs h lie = part_shows ts (Each p q) t x y n ok fs h

  -- ---- a vector at its offset
  four_type : (n : ℕ) (t : Ty) → IsFour n t → ArrayOf n t ≡ four
  four_type n t h = ap (λ m. ArrayOf m t) h.0 ∙ ap (ArrayOf 4) h.1

  one_of_fours : (ts : List ℕ) (z : Lie) (n : ℕ) (t : Ty) (x : View) (y : Marks) → IsFour n t → lies.Serves z (InFours 0) → LiesAs l item z ts (ArrayOf n t) x y → AreFours l item ts [] x y
  one_of_fours ts z n t x y el s lie = (lie_serves l item z (InFours 0) ts (ArrayOf n t) x y s lie) [] refl (four_type n t el)

  module _ (ins : ℕ → Marks) where
    load_is : (ts : List ℕ) (s : Sign) (m : Mark) (n : ℕ) (rest : Code) → IsCell l item ts s m → (a : Array) × (i : Formula) × IsSpot l item ins ts m a i × (print_load s n rest ≡ Performs (Loads n a i) rest)
    load_is ts (Read a f) (Spot b j) n rest h = (a, f, (h.0, h.1.always), refl)
    load_is ts (Read a f) Nowhere n rest h = absurd h
    load_is ts (Read a f) (Register r) n rest h = absurd h
    load_is ts (Read a f) (Lane r j) n rest h = absurd h
    load_is ts (Held v) m n rest h = absurd h
    load_is ts (HeldFour v) m n rest h = absurd h
    load_is ts Blank m n rest h = absurd h

    -- the array and the offset of a vector
    abbrev AtOffset : List ℕ → Sign → (List ℕ → Mark) → Type 0
    AtOffset ts s y = (a : Array) × (i : Formula) × (s ≡ Read a i) × IsFourSpot l item ins ts y a i

    offset_is : (ts : List ℕ) (s : Sign) (y : List ℕ → Mark) (a : Array) (n : ℕ) → AreFourCells y a n → IsCell l item ts s (Spot a n) → AtOffset ts s y
    offset_is ts (Read b f) y a n at h = (b, f, refl, (n, subst (λ z. AreFourCells y z n) (sym h.0) at, h.1.always))
    offset_is ts (Held v) y a n at h = absurd h
    offset_is ts (HeldFour v) y a n at h = absurd h
    offset_is ts Blank y a n at h = absurd h

    at_offset : (ts : List ℕ) (z : Lie) (n : ℕ) (t : Ty) (x : View) (y : Marks) → IsFour n t → lies.Serves z (InFours 0) → LiesAs l item z ts (ArrayOf n t) x y → AtOffset ts (x [] []) (y [])
    at_offset ts z n t x y el s lie =
        let h = one_of_fours ts z n t x y el s lie in
        offset_is ts (x [] []) (y []) h.array (h.offset []) (record { at = (h.lies [] tt).at }) (subst (λ u. IsCell l item u (x [] []) (Spot h.array (h.offset []))) (append-nil ts) (h.shows [] [] [] [] tt tt))

    pub loaded_is : (ts : List ℕ) (z : Lie) (loads : LoadSet) (ty : Ty) (x : View) (y : Marks) (n : Count) (rest : Code) → LoadsScalars loads ty → LoadsFours z loads → HasCells l item ts ty x y → LiesAs l item z ts ty x y → IsLoaded l item ins ts loads y n (print_loaded loads x n rest) rest
    loaded_is ts z Skip ty x y n rest ok fs h lie = refl
    loaded_is ts z Take Scalar x y n rest ok fs h lie = load_is ts (x [] []) (y [] []) n.words rest (subst (λ z. IsCell l item z (x [] []) (y [] [])) (append-nil ts) (h [] [] [] [] tt tt))
    loaded_is ts z Take (PairOf a b) x y n rest ok fs h lie = absurd ok
    loaded_is ts z Take (ArrayOf m t) x y n rest ok fs h lie = absurd ok
    loaded_is ts z TakeFour (ArrayOf m t) x y n rest ok fs h lie = let p = at_offset ts z m t x y ok fs lie in (p.0, p.1, p.3, ap (λ s. print_load_four s n.fours rest) p.2)
    loaded_is ts z TakeFour Scalar x y n rest ok fs h lie = absurd ok
    loaded_is ts z TakeFour (PairOf a b) x y n rest ok fs h lie = absurd ok
    loaded_is ts z (Each p q) Scalar x y n rest ok fs h lie = absurd ok
    loaded_is ts z (Each p q) (ArrayOf m t) x y n rest ok fs h lie = absurd ok
    loaded_is ts z (Each p q) (PairOf a b) x y n rest ok fs h lie = (
      print_loaded q (λ cs. x (true ∷ cs)) (more n (load_count p)) rest,
      loaded_is ts Loose p a (λ cs. x (false ∷ cs)) (λ cs. y (false ∷ cs)) n _ ok.0 fs.0 (cells_side l item ts false a (PairOf a b) x y (λ cs q z. z) h) tt,
      loaded_is ts Loose q b (λ cs. x (true ∷ cs)) (λ cs. y (true ∷ cs)) (more n (load_count p)) rest ok.1 fs.1 (cells_side l item ts true b (PairOf a b) x y (λ cs q z. z) h) tt,
    )

    store_is : (ts : List ℕ) (s : Sign) (m : Mark) (e : Formula) (rest : Code) → IsCell l item ts s m → (a : Array) × (i : Formula) × IsSpot l item ins ts m a i × (print_store s e rest ≡ Performs (Stores a i e) rest)
    store_is ts (Read a f) (Spot b j) e rest h = (a, f, (h.0, h.1.always), refl)
    store_is ts (Read a f) Nowhere e rest h = absurd h
    store_is ts (Read a f) (Register r) e rest h = absurd h
    store_is ts (Read a f) (Lane r j) e rest h = absurd h
    store_is ts (Held v) m e rest h = absurd h
    store_is ts (HeldFour v) m e rest h = absurd h
    store_is ts Blank m e rest h = absurd h

    pub stored_is : (ts : List ℕ) (z : Lie) (ty : Ty) (k f : List Bool → Option Expr) (v : View) (w : Marks) (rest : Code) → IsElement ty → AreExprs ty k f → lies.StoresFours z ty → HasCells l item ts ty v w → LiesAs l item z ts ty v w → IsStored l item ins ts ty f w (print_stored ty k v rest) rest
    stored_is ts z Scalar k f v w rest el s fs h lie =
        let e = one_word (k []) (f []) (s [] tt) in
        let c = store_is ts (v [] []) (w [] []) (or_number (k [])) rest (subst (λ z. IsCell l item z (v [] []) (w [] [])) (append-nil ts) (h [] [] [] [] tt tt)) in
        (c.0, c.1, e.0, e.2, c.2, c.3 ∙ ap (λ z. Performs (Stores c.0 c.1 (or_number z)) rest) e.1)
    stored_is ts z (PairOf a b) k f v w rest el s fs h lie = (
      print_stored b (λ cs. k (true ∷ cs)) (λ cs. v (true ∷ cs)) rest,
      stored_is ts Loose a (λ cs. k (false ∷ cs)) (λ cs. f (false ∷ cs)) (λ cs. v (false ∷ cs)) (λ cs. w (false ∷ cs)) _ el.0 (exprs_left a b k f s) fs.0 (cells_side l item ts false a (PairOf a b) v w (λ cs q z. z) h) tt,
      stored_is ts Loose b (λ cs. k (true ∷ cs)) (λ cs. f (true ∷ cs)) (λ cs. v (true ∷ cs)) (λ cs. w (true ∷ cs)) rest el.1 (exprs_right a b k f s) fs.1 (cells_side l item ts true b (PairOf a b) v w (λ cs q z. z) h) tt,
    )
    stored_is ts z (ArrayOf m t) k f v w rest el s fs h lie =
        let e = four_words m t (k []) (f []) (s [] tt) in
        let p = at_offset ts z m t v w el fs lie in
        (el, p.0, p.1, e.0, e.2, p.3, ap (λ s. print_store_four s (or_lanes (k [])) rest) p.2 ∙ ap (λ o. Performs (StoresFour p.0 p.1 (or_lanes o)) rest) e.1)
