-- The names of a typed term's lowered term suffice.
use Rattle.std.proofs.Common.{arith, ◌≡◌, ℕ, zero, suc, ◌++◌, Bool, true, false, List, [], ◌∷◌, Some, refl, sym, subst, inl, inr}
use Rattle.std.proofs.lemmas.Bool.Decides.{nat_tests}
use Rattle.std.specs.Prelude.{slice_get, if◌then◌else◌, nat_eq}
use Rattle.scalar_ops.specs.declared.op.Op.{Op}
use Rattle.lift_tree.specs.Meaning.{scalar_op}
use Rattle.lift_tree.specs.declared.term.Operator.{Operator}
use Rattle.lift_tree.specs.declared.term.UnaryForm.TheVariants as unary
use Rattle.lift_tree.specs.declared.term.BinaryForm.TheVariants as binary
use Rattle.size_arith.specs.declared.names.Name.{Name}
use Rattle.size_arith.specs.declared.poly.Monomial.{Monomial}
use Rattle.lift_tree.specs.Tree as tree
use Rattle.lift_tree.specs.Tree.{Tree}
use Rattle.lift_tree.specs.Types as types
use Rattle.lift_tree.specs.Types.{PlainTy}
use Rattle.lift_tree.specs.Typing.{Declared, IsNumeric, OperatorRow}
use Rattle.lift_tree.specs.Annotations.{Annotation, Leaf, One, Two, Three, type_in, Annotates}
use Rattle.lift_tree.proofs.Layouts.{layout_result}
use Rattle.lift_ir.specs.Types.{Ty, IsPart}
use Rattle.lift_ir.specs.Terms.{LoadSet, Skip, Take, TakeFour, Each, Term, push}
use Rattle.lift_ir.specs.AtLaunch.{ty_at}
use Rattle.lift_ir.specs.Loads.{covers, all, none, held_scalars, IsHeld, AllHeld, AreLetsHeld, LoadsSuffice}
use Rattle.lift_ir.specs.Lowering.{Place, Written, Argument, Element, element_ty, is_element, element_of, Lowered, is_vector, divided, applied, all_scalars, reached, merged, named, value_place, lower_let, placed_element, lower}
use Rattle.lift_ir.specs.Lowerable.{HoldsNoScalar, IsElementTerm, IsStaged, IsLowerable}
use Rattle.lift_ir.proofs.Reshaped.{through_layout}
use Rattle.lift_ir.proofs.Typed.{told, numeric_element, operator_element}

-- the pair choices of an element's components
abbrev IsPartOf : PlainTy → List Bool → Type 0
IsPartOf types.U32 [] = Unit {0}
IsPartOf types.U32 (c ∷ cs) = ⊥
IsPartOf types.U32x4 [] = Unit {0}
IsPartOf types.U32x4 (c ∷ cs) = ⊥
IsPartOf (types.PairOf a b) [] = ⊥
IsPartOf (types.PairOf a b) (false ∷ cs) = IsPartOf a cs
IsPartOf (types.PairOf a b) (true ∷ cs) = IsPartOf b cs
IsPartOf (types.ArrayOf a n) cs = ⊥

part_of : (a : PlainTy) → types.IsElement a → (cs : List Bool) → IsPart (element_ty a) cs → IsPartOf a cs
part_of types.U32 e [] h = tt
part_of types.U32 e (c ∷ cs) h = absurd h
part_of types.U32x4 e [] h = tt
part_of types.U32x4 e (c ∷ cs) h = absurd h
part_of (types.PairOf a b) e [] h = absurd h
part_of (types.PairOf a b) e (false ∷ cs) h = part_of a e.0 cs h
part_of (types.PairOf a b) e (true ∷ cs) h = part_of b e.1 cs h
part_of (types.ArrayOf a n) e cs h = absurd e

numeric_part : (a : PlainTy) → IsNumeric a → IsPartOf a []
numeric_part types.U32 h = tt
numeric_part types.U32x4 h = tt
numeric_part _ h = absurd (assumption)

operator_parts : (o : Operator) (b c a : PlainTy) → OperatorRow o b c a → IsPartOf b [] × IsPartOf c []
operator_parts o types.U32 types.U32 a r = (tt, tt)
operator_parts o types.U32 types.U32x4 a r = (tt, tt)
operator_parts o types.U32x4 types.U32 a r = (tt, tt)
operator_parts o types.U32x4 types.U32x4 a r = (tt, tt)
operator_parts o _ _ a r = absurd (assumption)

held_divided : (h : ℕ → List Bool → Bool) (v : Bool) (o : Op) (m : ℕ) (x : Lowered) (cs : List Bool) → IsHeld h x [] → IsHeld h (divided v o m x) cs
held_divided h true o m x cs k = k
held_divided h false o m x cs k = k

held_applied : (h : ℕ → List Bool → Bool) (v l r : Bool) (o : Op) (x y : Lowered) (cs : List Bool) → IsHeld h x [] × IsHeld h y [] → IsHeld h (applied v l r o x y) cs
held_applied h true l r o x y cs k = k
held_applied h false l r o x y cs k = k

lets_divided : (h : ℕ → List Bool → Bool) (v : Bool) (o : Op) (m : ℕ) (x : Lowered) → AreLetsHeld h x → AreLetsHeld h (divided v o m x)
lets_divided h true o m x k = k
lets_divided h false o m x k = k

lets_applied : (h : ℕ → List Bool → Bool) (v l r : Bool) (o : Op) (x y : Lowered) → AreLetsHeld h x × AreLetsHeld h y → AreLetsHeld h (applied v l r o x y)
lets_applied h true l r o x y k = k
lets_applied h false l r o x y k = k

covers_left : (x y : LoadSet) (cs : List Bool) → covers x cs ≡ true → covers (merged x y) cs ≡ true
covers_left Skip y cs h = absurd (cc)
covers_left Take y cs h = refl
covers_left TakeFour y cs h = refl
covers_left (Each a b) Skip cs h = h
covers_left (Each a b) Take cs h = refl
covers_left (Each a b) TakeFour cs h = refl
covers_left (Each a b) (Each c e) [] h = absurd (cc)
covers_left (Each a b) (Each c e) (false ∷ cs) h = covers_left a c cs h
covers_left (Each a b) (Each c e) (true ∷ cs) h = covers_left b e cs h

covers_right : (x y : LoadSet) (cs : List Bool) → covers y cs ≡ true → covers (merged x y) cs ≡ true
covers_right Skip y cs h = h
covers_right Take y cs h = refl
covers_right TakeFour y cs h = refl
covers_right (Each a b) Skip cs h = absurd (cc)
covers_right (Each a b) Take cs h = refl
covers_right (Each a b) TakeFour cs h = refl
covers_right (Each a b) (Each c e) [] h = absurd (cc)
covers_right (Each a b) (Each c e) (false ∷ cs) h = covers_right a c cs h
covers_right (Each a b) (Each c e) (true ∷ cs) h = covers_right b e cs h

abbrev ty : PlainTy → Ty
ty = ty_at []

covers_whole : (a : PlainTy) (cs : List Bool) → IsPartOf a cs → covers (all_scalars a) cs ≡ true
covers_whole types.U32 [] h = refl
covers_whole types.U32 (c ∷ cs) h = absurd h
covers_whole types.U32x4 [] h = refl
covers_whole types.U32x4 (c ∷ cs) h = absurd h
covers_whole (types.PairOf a b) [] h = absurd h
covers_whole (types.PairOf a b) (false ∷ cs) h = covers_whole a cs h
covers_whole (types.PairOf a b) (true ∷ cs) h = covers_whole b cs h
covers_whole (types.ArrayOf a n) cs h = absurd h

covers_reach : (a : PlainTy) (p cs : List Bool) → IsPartOf a (p ++ cs) → covers (reached a p) (p ++ cs) ≡ true
covers_reach a [] cs h = covers_whole a cs h
covers_reach types.U32 (c ∷ p) cs h = absurd h
covers_reach types.U32x4 (c ∷ p) cs h = absurd h
covers_reach (types.PairOf a b) (false ∷ p) cs h = covers_reach a p cs h
covers_reach (types.PairOf a b) (true ∷ p) cs h = covers_reach b p cs h
covers_reach (types.ArrayOf a n) (c ∷ p) cs h = absurd h

same_number : (v : ℕ) → nat_eq v v ≡ true
same_number v = grind (arith, nat_tests)

-- what a term names is in variables
abbrev Known : (ℕ → List Bool → Bool) → List PlainTy → List Bool → Tree → Type 0
Known h g p t = (v : ℕ) (c : PlainTy) → slice_get g v ≡ Some c → (cs : List Bool) → IsPartOf c cs → covers (named v c p t) cs ≡ true → h v cs ≡ true

known_left : (h : ℕ → List Bool → Bool) (g : List PlainTy) (f : ℕ → PlainTy → LoadSet) (t : Tree) → ((v : ℕ) (c : PlainTy) → slice_get g v ≡ Some c → (cs : List Bool) → IsPartOf c cs → covers (merged (named v c [] t) (f v c)) cs ≡ true → h v cs ≡ true) → Known h g [] t
known_left h g f t k v c e cs i o = k v c e cs i (covers_left (named v c [] t) (f v c) cs o)

abbrev KnownTwice : (ℕ → List Bool → Bool) → List PlainTy → (ℕ → PlainTy → LoadSet) → Type 0
KnownTwice h g f = (v : ℕ) (c : PlainTy) → slice_get g v ≡ Some c → (cs : List Bool) → IsPartOf c cs → covers (f v c) cs ≡ true → h v cs ≡ true

known_right : (h : ℕ → List Bool → Bool) (g : List PlainTy) (f j : ℕ → PlainTy → LoadSet) → KnownTwice h g (λ v c. merged (f v c) (j v c)) → KnownTwice h g j
known_right h g f j k v c e cs i o = k v c e cs i (covers_right (f v c) (j v c) cs o)

-- below a binder
known_under : (h : ℕ → List Bool → Bool) (g : List PlainTy) (x : PlainTy) (s : List Bool → Bool) (t : Tree) → KnownTwice h g (λ v c. named (suc v) c [] t) → ((cs : List Bool) → IsPartOf x cs → covers (named 0 x [] t) cs ≡ true → s cs ≡ true) → Known (push s h) (x ∷ g) [] t
known_under h g x s t k z zero c e cs i o =
    let d : x ≡ c = cc in
    z cs (subst (λ y. IsPartOf y cs) (sym d) i) (subst (λ y. covers (named 0 y [] t) cs ≡ true) (sym d) o)
known_under h g x s t k z (suc v) c e cs i o = k v c e cs i o

-- below an element and an accumulator
known_under_two : (h : ℕ → List Bool → Bool) (g : List PlainTy) (x y : PlainTy) (s : List Bool → Bool) (t : Tree) → KnownTwice h g (λ v c. named (suc (suc v)) c [] t) → ((cs : List Bool) → IsPartOf x cs → covers (named 0 x [] t) cs ≡ true → s cs ≡ true) → Known (push s (push all h)) (x ∷ y ∷ g) [] t
known_under_two h g x y s t k z zero c e cs i o =
    let d : x ≡ c = cc in
    z cs (subst (λ y. IsPartOf y cs) (sym d) i) (subst (λ y. covers (named 0 y [] t) cs ≡ true) (sym d) o)
known_under_two h g x y s t k z (suc zero) c e cs i o = refl
known_under_two h g x y s t k z (suc (suc v)) c e cs i o = k v c e cs i o

named_both : (h : ℕ → List Bool → Bool) (x y : Lowered) (a b : PlainTy) (q : List Bool) → IsPartOf (types.PairOf a b) q → ((r : List Bool) → IsPartOf a r → IsHeld h x r) → ((r : List Bool) → IsPartOf b r → IsHeld h y r) → IsHeld h (Term.Both false x y) q
named_both h x y a b [] i f k = tt
named_both h x y a b (false ∷ q) i f k = f q i
named_both h x y a b (true ∷ q) i f k = k q i

-- an element let as it is lowered
let_is : (names : List Name) (p : Place) (a : PlainTy) (x : Annotation) (v : Tree) (b : Lowered) → is_element (type_in x) ≡ true → lower_let (type_in x) (lower names (value_place x) v x) b ≡ Term.LetElement (element_ty (type_in x)) (lower names Element v x) b
let_is names p a x v b e = go (is_element (type_in x)) e
  where
    go : (z : Bool) → z ≡ true → (if z then Term.LetElement (element_ty (type_in x)) (lower names (if z then Element else Argument) v x) b else Term.LetArray (lower names (if z then Element else Argument) v x) b) ≡ Term.LetElement (element_ty (type_in x)) (lower names Element v x) b
    go true e = refl
    go false e = absurd (cc)

module _ (d : Declared) where
  abbrev low : Tree → Annotation → Lowered
  low t a = lower d.names Element t a

  put_element_is : (a : PlainTy) (h : ℕ → List Bool → Bool) (cs : List Bool) (x y : Lowered) → x ≡ y → IsHeld h y cs → IsHeld h (placed_element Element a x) cs
  put_element_is a h cs x y e n = go (is_element a)
    where
      go : (b : Bool) → IsHeld h (if b then x else x) cs
      go true = subst (λ z. IsHeld h z cs) (sym e) n
      go false = subst (λ z. IsHeld h z cs) (sym e) n

  -- a component of an element term hangs on variables alone
  is_named : (t : Tree) (g : List PlainTy) (a : Annotation) (h : ℕ → List Bool → Bool) (p cs : List Bool) → Annotates d g t a → IsElementTerm t a → Known h g p t → IsPartOf (type_in a) (p ++ cs) → IsHeld h (low t a) (p ++ cs)
  is_named (tree.Variable v) g (Leaf a) h p cs s o k i =
      k v a s (p ++ cs) i (subst (λ b. covers (if b then reached a p else Skip) (p ++ cs) ≡ true) (sym (same_number v)) (covers_reach a p cs i))
  is_named (tree.Number c) g (Leaf a) h p cs s o k i = tt
  is_named (tree.Unary (unary.Div m) t) g (One a x) h p cs s o k i = held_divided h (is_vector a) _ m (low t x) (p ++ cs) (is_named t g x h [] [] s.0 o k (numeric_part (type_in x) s.1.1))
  is_named (tree.Unary (unary.Rem m) t) g (One a x) h p cs s o k i = held_divided h (is_vector a) _ m (low t x) (p ++ cs) (is_named t g x h [] [] s.0 o k (numeric_part (type_in x) s.1.1))
  is_named (tree.Unary unary.First t) g (One a x) h p cs s o k i = is_named t g x h (false ∷ p) cs s.0 o k (subst (λ z. IsPartOf z (false ∷ p ++ cs)) (sym s.1.1) i)
  is_named (tree.Unary unary.Second t) g (One a x) h p cs s o k i = is_named t g x h (true ∷ p) cs s.0 o k (subst (λ z. IsPartOf z (true ∷ p ++ cs)) (sym s.1.1) i)
  is_named (tree.Binary (binary.Operator q) t u) g (Two a x y) h p cs s o k i =
      let z = operator_parts q (type_in x) (type_in y) a s.2 in
      held_applied h (is_vector a) (is_vector (type_in x)) (is_vector (type_in y)) (scalar_op q) (low t x) (low u y) (p ++ cs)
      (is_named t g x h [] [] s.0 o.0 (known_left h g (λ v c. named v c [] u) t k) z.0, is_named u g y h [] [] s.1 o.1 (known_right h g (λ v c. named v c [] t) (λ v c. named v c [] u) k) z.1)
  is_named (tree.Binary binary.Pair t u) g (Two a x y) h p cs s o k i =
      named_both h (low t x) (low u y) (type_in x) (type_in y) (p ++ cs) (subst (λ z. IsPartOf z (p ++ cs)) s.2.2 i)
      (λ r j. is_named t g x h [] r s.0 o.0 (known_left h g (λ v c. named v c [] u) t k) j)
      (λ r j. is_named u g y h [] r s.1 o.1 (known_right h g (λ v c. named v c [] t) (λ v c. named v c [] u) k) j)
  is_named (tree.Select t u w) g (Three a x y z) h p cs s o k i =
      let r = known_right h g (λ v c. named v c [] t) (λ v c. merged (named v c [] u) (named v c [] w)) k in (
        is_named t g x h [] [] s.0 o.0 (known_left h g (λ v c. merged (named v c [] u) (named v c [] w)) t k) (subst (λ z. IsPartOf z []) (sym s.3) tt),
        is_named u g y h [] [] s.1 o.1 (known_left h g (λ v c. named v c [] w) u r) (subst (λ z. IsPartOf z []) (sym s.4) tt),
        is_named w g z h [] [] s.2 o.2 (known_right h g (λ v c. named v c [] u) (λ v c. named v c [] w) r) (subst (λ z. IsPartOf z []) (sym s.5) tt),
      )
  is_named (tree.Let v b) g (Two a x y) h p cs s o k i =
      put_element_is a h (p ++ cs) _ _ (let_is d.names Element a x v (low b y) o.0)
      (is_named b (type_in x ∷ g) y (push all h) [] (p ++ cs) s.1 o.2 (known_under h g (type_in x) all b (known_right h g (λ u c. named u c [] v) (λ u c. named (suc u) c [] b) k) (λ cs i o. refl)) (subst (λ z. IsPartOf z (p ++ cs)) s.2 i))
  is_named _ g _ h p cs s o k i = absurd o

  all_named : (t : Tree) (g : List PlainTy) (a : Annotation) (h : ℕ → List Bool → Bool) → Annotates d g t a → IsElementTerm t a → Known h g [] t → types.IsElement (type_in a) → AllHeld h (element_ty (type_in a)) (low t a)
  all_named t g a h s o k e cs i = is_named t g a h [] cs s o k (part_of (type_in a) e cs i)

  put_element_lets : (a : PlainTy) (h : ℕ → List Bool → Bool) (x y : Lowered) → x ≡ y → AreLetsHeld h y → AreLetsHeld h (placed_element Element a x)
  put_element_lets a h x y e n = go (is_element a)
    where
      go : (b : Bool) → AreLetsHeld h (if b then x else x)
      go true = subst (λ z. AreLetsHeld h z) (sym e) n
      go false = subst (λ z. AreLetsHeld h z) (sym e) n

  lets_named : (t : Tree) (g : List PlainTy) (a : Annotation) (h : ℕ → List Bool → Bool) (p : List Bool) → Annotates d g t a → IsElementTerm t a → Known h g p t → AreLetsHeld h (low t a)
  lets_named (tree.Variable v) g (Leaf a) h p s o k = tt
  lets_named (tree.Number c) g (Leaf a) h p s o k = tt
  lets_named (tree.Unary (unary.Div m) t) g (One a x) h p s o k = lets_divided h (is_vector a) _ m (low t x) (lets_named t g x h [] s.0 o k)
  lets_named (tree.Unary (unary.Rem m) t) g (One a x) h p s o k = lets_divided h (is_vector a) _ m (low t x) (lets_named t g x h [] s.0 o k)
  lets_named (tree.Unary unary.First t) g (One a x) h p s o k = lets_named t g x h (false ∷ p) s.0 o k
  lets_named (tree.Unary unary.Second t) g (One a x) h p s o k = lets_named t g x h (true ∷ p) s.0 o k
  lets_named (tree.Binary (binary.Operator q) t u) g (Two a x y) h p s o k =
      lets_applied h (is_vector a) (is_vector (type_in x)) (is_vector (type_in y)) (scalar_op q) (low t x) (low u y)
      (lets_named t g x h [] s.0 o.0 (known_left h g (λ v c. named v c [] u) t k), lets_named u g y h [] s.1 o.1 (known_right h g (λ v c. named v c [] t) (λ v c. named v c [] u) k))
  lets_named (tree.Binary binary.Pair t u) g (Two a x y) h p s o k =
      (lets_named t g x h [] s.0 o.0 (known_left h g (λ v c. named v c [] u) t k), lets_named u g y h [] s.1 o.1 (known_right h g (λ v c. named v c [] t) (λ v c. named v c [] u) k))
  lets_named (tree.Select t u w) g (Three a x y z) h p s o k =
      let r = known_right h g (λ v c. named v c [] t) (λ v c. merged (named v c [] u) (named v c [] w)) k in
      (lets_named t g x h [] s.0 o.0 (known_left h g (λ v c. merged (named v c [] u) (named v c [] w)) t k), lets_named u g y h [] s.1 o.1 (known_left h g (λ v c. named v c [] w) u r), lets_named w g z h [] s.2 o.2 (known_right h g (λ v c. named v c [] u) (λ v c. named v c [] w) r))
  lets_named (tree.Let v b) g (Two a x y) h p s o k =
      let l = known_left h g (λ u c. named (suc u) c [] b) v k in
      put_element_lets a h _ _ (let_is d.names Element a x v (low b y) o.0) (
        all_named v g x h s.0 o.1 l (told (type_in x) o.0),
        lets_named v g x h [] s.0 o.1 l,
        lets_named b (type_in x ∷ g) y (push all h) [] s.1 o.2 (known_under h g (type_in x) all b (known_right h g (λ u c. named u c [] v) (λ u c. named (suc u) c [] b) k) (λ cs i o. refl)),
      )
  lets_named _ g _ h p s o k = absurd o

  no_scalar : (c : PlainTy) (cs : List Bool) → HoldsNoScalar c → IsPartOf c cs → ⊥
  no_scalar types.U32 cs e i = absurd e
  no_scalar types.U32x4 cs e i = absurd e
  no_scalar (types.PairOf a b) [] e i = absurd i
  no_scalar (types.PairOf a b) (false ∷ cs) e i = no_scalar a cs e.0 i
  no_scalar (types.PairOf a b) (true ∷ cs) e i = no_scalar b cs e.1 i
  no_scalar (types.ArrayOf a n) cs e i = absurd i

  -- a let, where its own type and its value's are elements or aren't
  abbrev inner : (p : Place) (x y : Annotation) (v b : Tree) (of_element : Bool) → Lowered
  inner p x y v b n =
      if n then Term.LetElement (element_ty (type_in x)) (lower d.names (if n then Element else Argument) v x) (lower d.names p b y)
      else Term.LetArray (lower d.names (if n then Element else Argument) v x) (lower d.names p b y)

  abbrev written_let : (a : PlainTy) (x y : Annotation) (v b : Tree) (is_one of_element : Bool) → Lowered
  written_let a x y v b m n = if m then Term.Store (element_ty a) (inner (if m then Element else Written) x y v b n) else inner (if m then Element else Written) x y v b n

  abbrev argued_let : (x y : Annotation) (v b : Tree) (is_one of_element : Bool) → Lowered
  argued_let x y v b m n = if m then inner Argument x y v b n else inner Argument x y v b n

  argued : (h : ℕ → List Bool → Bool) (x y : Annotation) (v b : Tree) (m n k : Bool) → n ≡ k → LoadsSuffice h (inner Argument x y v b k) → LoadsSuffice h (argued_let x y v b m n)
  argued h x y v b true n k e z = subst (λ n. LoadsSuffice h (inner Argument x y v b n)) (sym e) z
  argued h x y v b false n k e z = subst (λ n. LoadsSuffice h (inner Argument x y v b n)) (sym e) z

  argued_kept : (h : ℕ → List Bool → Bool) (x y : Annotation) (v b : Tree) (m n k : Bool) (cs : List Bool) → n ≡ k → held_scalars h (inner Argument x y v b k) cs ≡ true → held_scalars h (argued_let x y v b m n) cs ≡ true
  argued_kept h x y v b true n k cs e z = subst (λ n. held_scalars h (inner Argument x y v b n) cs ≡ true) (sym e) z
  argued_kept h x y v b false n k cs e z = subst (λ n. held_scalars h (inner Argument x y v b n) cs ≡ true) (sym e) z

  -- a scalar of an argument is in a variable, where it is named
  kept_named : (t : Tree) (g : List PlainTy) (a : Annotation) (h : ℕ → List Bool → Bool) (q cs : List Bool) → Annotates d g t a → IsStaged Argument t a → Known h g q t → IsPartOf (type_in a) (q ++ cs) → held_scalars h (lower d.names Argument t a) (q ++ cs) ≡ true
  kept_named (tree.Variable v) g (Leaf a) h q cs s o k i = k v a s (q ++ cs) i (subst (λ b. covers (if b then reached a q else Skip) (q ++ cs) ≡ true) (sym (same_number v)) (covers_reach a q cs i))
  kept_named (tree.Input v) g (Leaf a) h q cs s o k i = absurd (no_scalar a (q ++ cs) o i)
  kept_named (tree.Unary unary.First t) g (One a x) h q cs s o k i = kept_named t g x h (false ∷ q) cs s.0 o k (subst (λ z. IsPartOf z (false ∷ q ++ cs)) (sym s.1.1) i)
  kept_named (tree.Unary unary.Second t) g (One a x) h q cs s o k i = kept_named t g x h (true ∷ q) cs s.0 o k (subst (λ z. IsPartOf z (true ∷ q ++ cs)) (sym s.1.1) i)
  kept_named (tree.Unary unary.ToLocal t) g (One a x) h q cs s o k i = absurd (no_scalar a (q ++ cs) o.0 i)
  kept_named (tree.Unary unary.ToPrivate t) g (One a x) h q cs s o k i = absurd (no_scalar a (q ++ cs) o.0 i)
  kept_named (tree.Unary (unary.Layout l) t) g (One a x) h q cs s o k i = absurd (subst (λ z. IsPartOf z (q ++ cs)) (layout_result d.names l (type_in x) a s.1).is i)
  kept_named (tree.Unary (unary.Slide l m) t) g (One a x) h q cs s o k i = absurd (subst (λ z. IsPartOf z (q ++ cs)) s.1.6 i)
  kept_named (tree.Unary (unary.Pad l m) t) g (One a x) h q cs s o k i = absurd (subst (λ z. IsPartOf z (q ++ cs)) s.1.3 i)
  kept_named (tree.Binary binary.Zip t u) g (Two a x y) h q cs s o k i = absurd (subst (λ z. IsPartOf z (q ++ cs)) s.2.5 i)
  kept_named (tree.Let v b) g (Two a x y) h q cs s o k i =
      let left = known_left h g (λ u c. named (suc u) c [] b) v k in
      let below = known_under h g (type_in x) (held_scalars h (lower d.names Argument v x)) b (known_right h g (λ u c. named u c [] v) (λ u c. named (suc u) c [] b) k) (λ ds j e. kept_named v g x h [] ds s.0 o.1 left j) in
      argued_kept h x y v b (is_element a) (is_element (type_in x)) false (q ++ cs) o.0
      (kept_named b (type_in x ∷ g) y (push (held_scalars h (lower d.names Argument v x)) h) [] (q ++ cs) s.1 o.2 below (subst (λ z. IsPartOf z (q ++ cs)) s.2 i))
  kept_named _ g _ h q cs s o k i = absurd o

  suffices_put : (t : Tree) (g : List PlainTy) (a : Annotation) (h : ℕ → List Bool → Bool) (b : PlainTy) → Annotates d g t a → IsElementTerm t a → Known h g [] t → b ≡ type_in a → types.IsElement b → LoadsSuffice h (Term.Store (element_ty b) (low t a))
  suffices_put t g a h b s o k e i =
      (subst (λ z. AllHeld h (element_ty z) (low t a)) (sym e) (all_named t g a h s o k (subst types.IsElement e i)), lets_named t g a h [] s o k)

  below_map : (h : ℕ → List Bool → Bool) (g : List PlainTy) (b x : PlainTy) (l : List Monomial) (t : Tree) → b ≡ types.ArrayOf x l → KnownTwice h g (λ v c. named (suc v) c [] t) → Known (push (covers (named 0 (element_of b) [] t)) h) (x ∷ g) [] t
  below_map h g b x l t e k = known_under h g x (covers (named 0 (element_of b) [] t)) t k (λ cs i o. subst (λ z. covers (named 0 (element_of z) [] t) cs ≡ true) (sym e) o)

  below_fold : (h : ℕ → List Bool → Bool) (g : List PlainTy) (b x y : PlainTy) (l : List Monomial) (t : Tree) → b ≡ types.ArrayOf x l → KnownTwice h g (λ v c. named (suc (suc v)) c [] t) → Known (push (covers (named 0 (element_of b) [] t)) (push all h)) (x ∷ y ∷ g) [] t
  below_fold h g b x y l t e k = known_under_two h g x y (covers (named 0 (element_of b) [] t)) t k (λ cs i o. subst (λ z. covers (named 0 (element_of z) [] t) cs ≡ true) (sym e) o)

  element_u32 : (a : PlainTy) → a ≡ types.U32 → types.IsElement a
  element_u32 a e = subst types.IsElement (sym e) tt

  -- arguments stand below a chain of first and second
  abbrev Chain : Place → List Bool → Type 0
  Chain Element q = ⊥
  Chain Written q = q ≡ []
  Chain Argument q = Unit {0}

  known_whole : (h : ℕ → List Bool → Bool) (g : List PlainTy) (q : List Bool) (t : Tree) → q ≡ [] → Known h g q t → Known h g [] t
  known_whole h g q t e k = subst (λ z. Known h g z t) e k

  suffices : (ys : List ℕ) (t : Tree) (p : Place) (g : List PlainTy) (a : Annotation) (h : ℕ → List Bool → Bool) (q : List Bool) → Chain p q → Annotates d g t a → IsLowerable ys p t a → IsStaged p t a → Known h g q t → LoadsSuffice h (lower d.names p t a)
  suffices ys (tree.Variable v) Written g (Leaf a) h q z s l o k = suffices_put (tree.Variable v) g (Leaf a) h a s o (known_whole h g q (tree.Variable v) z k) refl l
  suffices ys (tree.Variable v) Argument g (Leaf a) h q z s l o k = tt
  suffices ys (tree.Input v) Argument g (Leaf a) h q z s l o k = tt
  suffices ys (tree.Number c) Written g (Leaf a) h q z s l o k = suffices_put (tree.Number c) g (Leaf a) h a s o k refl (element_u32 a s.1)
  suffices ys (tree.Unary (unary.Div m) t) Written g (One a x) h q z s l o k = suffices_put (tree.Unary (unary.Div m) t) g (One a x) h a s o k refl (subst types.IsElement (sym s.1.2) (numeric_element (type_in x) s.1.1))
  suffices ys (tree.Unary (unary.Rem m) t) Written g (One a x) h q z s l o k = suffices_put (tree.Unary (unary.Rem m) t) g (One a x) h a s o k refl (subst types.IsElement (sym s.1.2) (numeric_element (type_in x) s.1.1))
  suffices ys (tree.Unary unary.First t) Written g (One a x) h q z s l o k = suffices_put (tree.Unary unary.First t) g (One a x) h a s o (known_whole h g q (tree.Unary unary.First t) z k) refl l.2
  suffices ys (tree.Unary unary.First t) Argument g (One a x) h q z s l o k = suffices ys t Argument g x h (false ∷ q) tt s.0 l.3 o k
  suffices ys (tree.Unary unary.Second t) Written g (One a x) h q z s l o k = suffices_put (tree.Unary unary.Second t) g (One a x) h a s o (known_whole h g q (tree.Unary unary.Second t) z k) refl l.2
  suffices ys (tree.Unary unary.Second t) Argument g (One a x) h q z s l o k = suffices ys t Argument g x h (true ∷ q) tt s.0 l.3 o k
  suffices ys (tree.Unary (unary.Layout f) t) Written g (One a x) h q z s l o k = through_layout (LoadsSuffice h) (λ y u i k. k) d.names Written f a (type_in x) (lower d.names Written t x) (suffices ys t Written g x h [] refl s.0 l.3 o k)
  suffices ys (tree.Unary (unary.Layout f) t) Argument g (One a x) h q z s l o k = through_layout (LoadsSuffice h) (λ y u i k. k) d.names Argument f a (type_in x) (lower d.names Argument t x) (suffices ys t Argument g x h [] tt s.0 l.3 o k)
  suffices ys (tree.Unary (unary.Slide i j) t) Written g (One a x) h q z s l o k = suffices ys t Written g x h [] refl s.0 l.3 o k
  suffices ys (tree.Unary (unary.Slide i j) t) Argument g (One a x) h q z s l o k = suffices ys t Argument g x h [] tt s.0 l.3 o k
  suffices ys (tree.Unary (unary.Pad i j) t) Written g (One a x) h q z s l o k = suffices ys t Written g x h [] refl s.0 l.3 o k
  suffices ys (tree.Unary (unary.Pad i j) t) Argument g (One a x) h q z s l o k = suffices ys t Argument g x h [] tt s.0 l.3 o k
  suffices ys (tree.Unary unary.ToLocal t) Argument g (One a x) h q z s l o k = (o.1, o.2, suffices ys t Written g x h [] refl s.0 l.3 o.3 k)
  suffices ys (tree.Unary unary.ToPrivate t) Argument g (One a x) h q z s l o k = (o.1, o.2, suffices ys t Written g x h [] refl s.0 l.3 o.3 k)
  suffices ys (tree.Binary (binary.Operator f) t u) Written g (Two a x y) h q z s l o k = suffices_put (tree.Binary (binary.Operator f) t u) g (Two a x y) h a s o k refl (operator_element f (type_in x) (type_in y) a s.2)
  suffices ys (tree.Binary binary.Pair t u) Written g (Two a x y) h q z s l o k = suffices_put (tree.Binary binary.Pair t u) g (Two a x y) h a s o k refl (subst types.IsElement (sym s.2.2) (s.2.0, s.2.1))
  suffices ys (tree.Binary binary.Zip t u) Argument g (Two a x y) h q z s l o k =
      (suffices ys t Argument g x h [] tt s.0 l.1 o.0 (known_left h g (λ v c. named v c [] u) t k), suffices ys u Argument g y h [] tt s.1 l.2 o.1 (known_right h g (λ v c. named v c [] t) (λ v c. named v c [] u) k))
  suffices ys (tree.Select t u w) Written g (Three a x y v) h q z s l o k = suffices_put (tree.Select t u w) g (Three a x y v) h a s o k refl (element_u32 a s.6)
  suffices ys (tree.Let v b) Written g (Two a x y) h q z s l (inl o) k =
      let left = known_left h g (λ u c. named (suc u) c [] b) v k in
      let below = known_under h g (type_in x) all b (known_right h g (λ u c. named u c [] v) (λ u c. named (suc u) c [] b) k) (λ cs i o. refl) in
      let element = told a o.0 in
      subst (λ m. LoadsSuffice h (written_let a x y v b m (is_element (type_in x)))) (sym o.0) (subst (λ n. LoadsSuffice h (written_let a x y v b true n)) (sym o.1) (
        (λ cs i. is_named b (type_in x ∷ g) y (push all h) [] cs s.1 o.3 below (subst (λ z. IsPartOf z cs) s.2 (part_of a element cs i))),
        (all_named v g x h s.0 o.2 left (told (type_in x) o.1), lets_named v g x h [] s.0 o.2 left, lets_named b (type_in x ∷ g) y (push all h) [] s.1 o.3 below),
      ))
  suffices ys (tree.Let v b) Written g (Two a x y) h q z s l (inr (inl o)) k =
      let left = known_left h g (λ u c. named (suc u) c [] b) v k in
      let below = known_under h g (type_in x) all b (known_right h g (λ u c. named u c [] v) (λ u c. named (suc u) c [] b) k) (λ cs i o. refl) in
      let legal = subst (λ m. IsLowerable ys (if m then Element else Written) b y) o.0 l.1 in
      subst (λ m. LoadsSuffice h (written_let a x y v b m (is_element (type_in x)))) (sym o.0) (subst (λ n. LoadsSuffice h (written_let a x y v b false n)) (sym o.1)
      (all_named v g x h s.0 o.2 left (told (type_in x) o.1), lets_named v g x h [] s.0 o.2 left, suffices ys b Written (type_in x ∷ g) y (push all h) [] refl s.1 legal o.3 below))
  suffices ys (tree.Let v b) Written g (Two a x y) h q z s l (inr (inr o)) k =
      let left = known_left h g (λ u c. named (suc u) c [] b) v k in
      let below = known_under h g (type_in x) (held_scalars h (lower d.names Argument v x)) b (known_right h g (λ u c. named u c [] v) (λ u c. named (suc u) c [] b) k) (λ cs i e. kept_named v g x h [] cs s.0 o.2 left i) in
      let legal = subst (λ m. IsLowerable ys (if m then Element else Written) b y) o.0 l.1 in
      let value = subst (λ n. IsLowerable ys (if n then Element else Argument) v x) o.1 l.0 in
      subst (λ m. LoadsSuffice h (written_let a x y v b m (is_element (type_in x)))) (sym o.0) (subst (λ n. LoadsSuffice h (written_let a x y v b false n)) (sym o.1)
      (suffices ys v Argument g x h [] tt s.0 value o.2 left, suffices ys b Written (type_in x ∷ g) y (push (held_scalars h (lower d.names Argument v x)) h) [] refl s.1 legal o.3 below))
  suffices ys (tree.Let v b) Argument g (Two a x y) h q z s l o k =
      let left = known_left h g (λ u c. named (suc u) c [] b) v k in
      let below = known_under h g (type_in x) (held_scalars h (lower d.names Argument v x)) b (known_right h g (λ u c. named u c [] v) (λ u c. named (suc u) c [] b) k) (λ cs i e. kept_named v g x h [] cs s.0 o.1 left i) in
      let value = subst (λ n. IsLowerable ys (if n then Element else Argument) v x) o.0 l.0 in
      argued h x y v b (is_element a) (is_element (type_in x)) false o.0
      (suffices ys v Argument g x h [] tt s.0 value o.1 left, suffices ys b Argument (type_in x ∷ g) y (push (held_scalars h (lower d.names Argument v x)) h) [] tt s.1 l.1 o.2 below)
  suffices ys (tree.Map f xs b) Written g (Two a x y) h q z s l o k = (
    suffices ys xs Argument g x h [] tt s.2 l.1 o.0 (known_left h g (λ v c. named (suc v) c [] b) xs k),
    suffices ys b Written (s.0 ∷ g) y (push (covers (named 0 (element_of (type_in x)) [] b)) h) [] refl s.4 l.2 o.1 (below_map h g (type_in x) s.0 s.1 b s.3 (known_right h g (λ v c. named v c [] xs) (λ v c. named (suc v) c [] b) k)),
  )
  suffices ys (tree.Fold f xs t b) Written g (Three a x y v) h q z s l o k =
      let r = known_right h g (λ v c. named v c [] xs) (λ v c. merged (named v c [] t) (named (suc (suc v)) c [] b)) k in
      let start = known_left h g (λ v c. named (suc (suc v)) c [] b) t r in
      let below = below_fold h g (type_in x) s.0 (type_in y) s.1 b s.3 (known_right h g (λ v c. named v c [] t) (λ v c. named (suc (suc v)) c [] b) r) in
      let H = push (covers (named 0 (element_of (type_in x)) [] b)) (push all h) in (
        suffices ys xs Argument g x h [] tt s.2 l.1 o.0 (known_left h g (λ v c. merged (named v c [] t) (named (suc (suc v)) c [] b)) xs k),
        all_named t g y h s.4 o.1 start s.5,
        lets_named t g y h [] s.4 o.1 start,
        subst (λ z. AllHeld H (element_ty z) (low b v)) s.7 (all_named b (s.0 ∷ type_in y ∷ g) v H s.6 o.2 below (subst types.IsElement (sym s.7) s.5)),
        lets_named b (s.0 ∷ type_in y ∷ g) v H [] s.6 o.2 below,
      )
  suffices ys t Element g a h q z s l o k = absurd z
  suffices ys _ p g a h q z s l o k = absurd o

  pub names_suffice : (ys : List ℕ) (t : Tree) (a : Annotation) → Annotates d [] t a → IsLowerable ys Written t a → IsStaged Written t a → LoadsSuffice (λ v. none) (lower d.names Written t a)
  names_suffice ys t a s l o = suffices ys t Written [] a (λ v. none) [] refl s l o (λ v c e. absurd (cc))
