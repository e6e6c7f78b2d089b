-- Types with a demand on each form: nothing, or that what it copies is an array, and that no vector
-- is in its pairs. What
-- makes a term that is typed under either demand, where another is, keeps types and copies at once.
use Rattle.std.proofs.Common.{◌≡◌, ◌<◌, ◌^◌, List, ◌∷◌, Some, refl, sym, ap, ◌∙◌, subst}
use Rattle.std.specs.Prelude.{slice_get}
use Rattle.size_arith.specs.declared.poly.Monomial.{Monomial}
use Rattle.lift_tree.specs.declared.term.UnaryForm.{UnaryForm}
use Rattle.lift_tree.specs.declared.term.BinaryForm.{BinaryForm}
use Rattle.lift_tree.specs.Tree.{Tree, Variable, Number, Input, Unary, Binary, Select, Let, Map, Fold}
use Rattle.lift_tree.specs.Types.{PlainTy, U32, ArrayOf, IsElement}
use Rattle.lift_tree.specs.Typing.{Declared, UnaryRow, BinaryRow, Types, constant}
use Rattle.lift_tree.specs.Annotations.{Annotation, Leaf, One, Two, Three, Annotates, type_in}
use Rattle.lift_tree.specs.Copies.{FormCopiesArrays, FormPairsNumbers, CopiesArrays, IsCopyingArrays}
use Rattle.lift_tree.proofs.Annotated.{annotated_is_typed}
use Rattle.lift_tree.proofs.Unique.{one_type}

-- what is asked of forms beside their rows
pub data Demand : Type 0 where
  Nothing : Demand
  ArrayCopies : Demand

-- a form of this type meets it
abbrev pub Meets : Demand → UnaryForm → PlainTy → Type 0
Meets Nothing f a = Unit {0}
Meets ArrayCopies f a = FormCopiesArrays f a

-- so does one of two children
abbrev pub MeetsPairs : Demand → BinaryForm → PlainTy → Type 0
MeetsPairs Nothing f a = Unit {0}
MeetsPairs ArrayCopies f a = FormPairsNumbers f a

pub met_pairs : (m : Demand) (f : BinaryForm) (a : PlainTy) → FormPairsNumbers f a → MeetsPairs m f a
met_pairs Nothing f a h = tt
met_pairs ArrayCopies f a h = h

pub met : (m : Demand) (f : UnaryForm) (a : PlainTy) → FormCopiesArrays f a → Meets m f a
met Nothing f a h = tt
met ArrayCopies f a h = h

-- the term has this type, and its forms meet the demand
abbrev pub TypesUnder : Demand → Declared → List PlainTy → Tree → PlainTy → Type 0
TypesUnder m d g (Variable n) a = slice_get g n ≡ Some a
TypesUnder m d g (Number n) a = (n < 2 ^ 32) × (a ≡ U32)
TypesUnder m d g (Input n) a = slice_get d.inputs n ≡ Some a
TypesUnder m d g (Unary f t) a = (b : PlainTy) × TypesUnder m d g t b × UnaryRow d.names f b a × Meets m f a
TypesUnder m d g (Binary f t u) a = (b c : PlainTy) × TypesUnder m d g t b × TypesUnder m d g u c × BinaryRow f b c a × MeetsPairs m f a
TypesUnder m d g (Select t u v) a = TypesUnder m d g t U32 × TypesUnder m d g u U32 × TypesUnder m d g v U32 × (a ≡ U32)
TypesUnder m d g (Let v b) a = (c : PlainTy) × TypesUnder m d g v c × TypesUnder m d (c ∷ g) b a
TypesUnder m d g (Map k xs b) a =
    (x y : PlainTy) × (n : List Monomial) × TypesUnder m d g xs (ArrayOf x n) × TypesUnder m d (x ∷ g) b y
    × (a ≡ ArrayOf y n)
TypesUnder m d g (Fold k xs s b) a =
    (x y : PlainTy) × (n : List Monomial) × TypesUnder m d g xs (ArrayOf x n) × TypesUnder m d g s y × IsElement y
    × TypesUnder m d (x ∷ y ∷ g) b y × (a ≡ ArrayOf y (constant 1))

-- ---- without the demand
module _ (m : Demand) (d : Declared) where
  pub types_alone : (g : List PlainTy) (t : Tree) (a : PlainTy) → TypesUnder m d g t a → Types d g t a
  types_alone g (Variable n) a h = h
  types_alone g (Number n) a h = h
  types_alone g (Input n) a h = h
  types_alone g (Unary f t) a h = (h.0, types_alone g t h.0 h.1, h.2)
  types_alone g (Binary f t u) a h = (h.0, h.1, types_alone g t h.0 h.2, types_alone g u h.1 h.3, h.4)
  types_alone g (Select t u v) a h = (types_alone g t U32 h.0, types_alone g u U32 h.1, types_alone g v U32 h.2, h.3)
  types_alone g (Let v b) a h = (h.0, types_alone g v h.0 h.1, types_alone (h.0 ∷ g) b a h.2)
  types_alone g (Map k xs b) a h = (h.0, h.1, h.2, types_alone g xs (ArrayOf h.0 h.2) h.3, types_alone (h.0 ∷ g) b h.1 h.4, h.5)
  types_alone g (Fold k xs s b) a h =
      (h.0, h.1, h.2, types_alone g xs (ArrayOf h.0 h.2) h.3, types_alone g s h.1 h.4, h.5, types_alone (h.0 ∷ h.1 ∷ g) b h.1 h.6, h.7)

module _ (d : Declared) where
  pub types_freely : (g : List PlainTy) (t : Tree) (a : PlainTy) → Types d g t a → TypesUnder Nothing d g t a
  types_freely g (Variable n) a h = h
  types_freely g (Number n) a h = h
  types_freely g (Input n) a h = h
  types_freely g (Unary f t) a h = (h.0, types_freely g t h.0 h.1, h.2, tt)
  types_freely g (Binary f t u) a h = (h.0, h.1, types_freely g t h.0 h.2, types_freely g u h.1 h.3, h.4, tt)
  types_freely g (Select t u v) a h = (types_freely g t U32 h.0, types_freely g u U32 h.1, types_freely g v U32 h.2, h.3)
  types_freely g (Let v b) a h = (h.0, types_freely g v h.0 h.1, types_freely (h.0 ∷ g) b a h.2)
  types_freely g (Map k xs b) a h = (h.0, h.1, h.2, types_freely g xs (ArrayOf h.0 h.2) h.3, types_freely (h.0 ∷ g) b h.1 h.4, h.5)
  types_freely g (Fold k xs s b) a h =
      (h.0, h.1, h.2, types_freely g xs (ArrayOf h.0 h.2) h.3, types_freely g s h.1 h.4, h.5, types_freely (h.0 ∷ h.1 ∷ g) b h.1 h.6, h.7)

-- ---- of arrays alone
-- types of the nodes, of which the root's is this one
record HasNodes (d : Declared) (g : List PlainTy) (t : Tree) (a : PlainTy) : Type 0 where
  types : Annotation
  nodes : Annotates d g t types
  arrays : CopiesArrays t types
  is : type_in types ≡ a

module _ (d : Declared) where
  -- a term that copies arrays alone is typed under that demand
  pub types_copying : (g : List PlainTy) (t : Tree) (n : Annotation) → Annotates d g t n → CopiesArrays t n → TypesUnder ArrayCopies d g t (type_in n)
  types_copying g (Variable i) (Leaf a) h c = h
  types_copying g (Number i) (Leaf a) h c = h
  types_copying g (Input i) (Leaf a) h c = h
  types_copying g (Unary f t) (One a n) h c = (type_in n, types_copying g t n h.0 c.1, h.1, c.0)
  types_copying g (Binary f t u) (Two a n k) h c = (type_in n, type_in k, types_copying g t n h.0 c.0, types_copying g u k h.1 c.1, h.2, c.2)
  types_copying g (Select t u v) (Three a n k l) h c = (
    subst (TypesUnder ArrayCopies d g t) h.3 (types_copying g t n h.0 c.0),
    subst (TypesUnder ArrayCopies d g u) h.4 (types_copying g u k h.1 c.1),
    subst (TypesUnder ArrayCopies d g v) h.5 (types_copying g v l h.2 c.2),
    h.6,
  )
  types_copying g (Let v b) (Two a n k) h c =
      (type_in n, types_copying g v n h.0 c.0, subst (TypesUnder ArrayCopies d (type_in n ∷ g) b) (sym h.2) (types_copying (type_in n ∷ g) b k h.1 c.1))
  types_copying g (Map o xs b) (Two a n k) h c =
      (h.0, type_in k, h.1, subst (TypesUnder ArrayCopies d g xs) h.3 (types_copying g xs n h.2 c.0), types_copying (h.0 ∷ g) b k h.4 c.1, h.5)
  types_copying g (Fold o xs s b) (Three a n k l) h c = (
    h.0,
    type_in k,
    h.1,
    subst (TypesUnder ArrayCopies d g xs) h.3 (types_copying g xs n h.2 c.0),
    types_copying g s k h.4 c.1,
    h.5,
    subst (TypesUnder ArrayCopies d (h.0 ∷ type_in k ∷ g) b) h.7 (types_copying (h.0 ∷ type_in k ∷ g) b l h.6 c.2),
    h.8,
  )
  types_copying g _ _ h c = absurd h

  -- and one that is typed so copies arrays alone
  nodes_of : (g : List PlainTy) (t : Tree) (a : PlainTy) → TypesUnder ArrayCopies d g t a → HasNodes d g t a
  nodes_of g (Variable i) a h = record { types = Leaf a; nodes = h; arrays = tt; is = refl }
  nodes_of g (Number i) a h = record { types = Leaf a; nodes = h; arrays = tt; is = refl }
  nodes_of g (Input i) a h = record { types = Leaf a; nodes = h; arrays = tt; is = refl }
  nodes_of g (Unary f t) a h =
      let n = nodes_of g t h.0 h.1 in
      record { types = One a n.types; nodes = (n.nodes, subst (λ z. UnaryRow d.names f z a) (sym n.is) h.2); arrays = (h.3, n.arrays); is = refl }
  nodes_of g (Binary f t u) a h =
      let n = nodes_of g t h.0 h.2 in
      let k = nodes_of g u h.1 h.3 in
      record {
        types = Two a n.types k.types;
        nodes = (n.nodes, k.nodes, subst (λ z. BinaryRow f (type_in n.types) z a) (sym k.is) (subst (λ z. BinaryRow f z h.1 a) (sym n.is) h.4));
        arrays = (n.arrays, k.arrays, h.5);
        is = refl;
      }
  nodes_of g (Select t u v) a h =
      let n = nodes_of g t U32 h.0 in
      let k = nodes_of g u U32 h.1 in
      let l = nodes_of g v U32 h.2 in
      record { types = Three a n.types k.types l.types; nodes = (n.nodes, k.nodes, l.nodes, n.is, k.is, l.is, h.3); arrays = (n.arrays, k.arrays, l.arrays); is = refl }
  nodes_of g (Let v b) a h =
      let n = nodes_of g v h.0 h.1 in
      let k = nodes_of (h.0 ∷ g) b a h.2 in
      record { types = Two a n.types k.types; nodes = (n.nodes, subst (λ z. Annotates d (z ∷ g) b k.types) (sym n.is) k.nodes, sym k.is); arrays = (n.arrays, k.arrays); is = refl }
  nodes_of g (Map o xs b) a h =
      let n = nodes_of g xs (ArrayOf h.0 h.2) h.3 in
      let k = nodes_of (h.0 ∷ g) b h.1 h.4 in
      record {
        types = Two a n.types k.types;
        nodes = (h.0, h.2, n.nodes, n.is, k.nodes, h.5 ∙ ap (λ z. ArrayOf z h.2) (sym k.is));
        arrays = (n.arrays, k.arrays);
        is = refl;
      }
  nodes_of g (Fold o xs s b) a h =
      let n = nodes_of g xs (ArrayOf h.0 h.2) h.3 in
      let k = nodes_of g s h.1 h.4 in
      let l = nodes_of (h.0 ∷ h.1 ∷ g) b h.1 h.6 in
      record {
        types = Three a n.types k.types l.types;
        nodes = (
          h.0,
          h.2,
          n.nodes,
          n.is,
          k.nodes,
          subst IsElement (sym k.is) h.5,
          subst (λ z. Annotates d (h.0 ∷ z ∷ g) b l.types) (sym k.is) l.nodes,
          l.is ∙ sym k.is,
          h.7 ∙ ap (λ z. ArrayOf z (constant 1)) (sym k.is),
        );
        arrays = (n.arrays, k.arrays, l.arrays);
        is = refl;
      }

  pub copying : (g : List PlainTy) (t : Tree) (a : PlainTy) → TypesUnder ArrayCopies d g t a → IsCopyingArrays d g t
  copying g t a h = let n = nodes_of g t a h in record { types = n.types; nodes = n.nodes; arrays = n.arrays }

-- ---- what makes a typed term of a typed term, under either demand
pub record Retypes (d : Declared) (g : List PlainTy) (t u : Tree) : Type 0 where
  pub under : (m : Demand) (a : PlainTy) → TypesUnder m d g t a → TypesUnder m d g u a

module _ (d : Declared) (g : List PlainTy) (t u : Tree) (r : Retypes d g t u) where
  pub types_kept : (a : PlainTy) → Types d g t a → Types d g u a
  types_kept a h = types_alone Nothing d g u a (r.under Nothing a (types_freely d g t a h))

  pub copies_kept : IsCopyingArrays d g t → IsCopyingArrays d g u
  copies_kept h = copying d g u (type_in h.types) (r.under ArrayCopies (type_in h.types) (types_copying d g t h.types h.nodes h.arrays))

-- ---- whatever types the nodes have
element_same : (x y : PlainTy) (m n : List Monomial) → ArrayOf x m ≡ ArrayOf y n → x ≡ y
element_same x y m n e = cc

module _ (d : Declared) where
  same_type : (g : List PlainTy) (t : Tree) (a : PlainTy) (n : Annotation) → TypesUnder ArrayCopies d g t a → Annotates d g t n → a ≡ type_in n
  same_type g t a n h k = one_type d g t a (type_in n) (types_alone ArrayCopies d g t a h) (annotated_is_typed d g t n k)

  -- a term that is typed so copies arrays alone, whichever types its nodes are told to have
  arrays_by : (g : List PlainTy) (t : Tree) (a : PlainTy) (n : Annotation) → TypesUnder ArrayCopies d g t a → Annotates d g t n → CopiesArrays t n
  arrays_by g (Variable i) a (Leaf b) h k = tt
  arrays_by g (Number i) a (Leaf b) h k = tt
  arrays_by g (Input i) a (Leaf b) h k = tt
  arrays_by g (Unary f t) a (One b n) h k = (subst (FormCopiesArrays f) (same_type g (Unary f t) a (One b n) h k) h.3, arrays_by g t h.0 n h.1 k.0)
  arrays_by g (Binary f t u) a (Two b n m) h k = (arrays_by g t h.0 n h.2 k.0, arrays_by g u h.1 m h.3 k.1, subst (FormPairsNumbers f) (same_type g (Binary f t u) a (Two b n m) h k) h.5)
  arrays_by g (Select t u v) a (Three b n m l) h k = (arrays_by g t U32 n h.0 k.0, arrays_by g u U32 m h.1 k.1, arrays_by g v U32 l h.2 k.2)
  arrays_by g (Let v t) a (Two b n m) h k =
      let e = same_type g v h.0 n h.1 k.0 in
      (arrays_by g v h.0 n h.1 k.0, arrays_by (type_in n ∷ g) t a m (subst (λ z. TypesUnder ArrayCopies d (z ∷ g) t a) e h.2) k.1)
  arrays_by g (Map o xs t) a (Two b n m) h k =
      let e = element_same h.0 k.0 h.2 k.1 (same_type g xs (ArrayOf h.0 h.2) n h.3 k.2 ∙ k.3) in
      (arrays_by g xs (ArrayOf h.0 h.2) n h.3 k.2, arrays_by (k.0 ∷ g) t h.1 m (subst (λ z. TypesUnder ArrayCopies d (z ∷ g) t h.1) e h.4) k.4)
  arrays_by g (Fold o xs s t) a (Three b n m l) h k =
      let e = element_same h.0 k.0 h.2 k.1 (same_type g xs (ArrayOf h.0 h.2) n h.3 k.2 ∙ k.3) in
      let f = same_type g s h.1 m h.4 k.4 in (
        arrays_by g xs (ArrayOf h.0 h.2) n h.3 k.2,
        arrays_by g s h.1 m h.4 k.4,
        arrays_by (k.0 ∷ type_in m ∷ g) t h.1 l (subst (λ z. TypesUnder ArrayCopies d (k.0 ∷ z ∷ g) t h.1) f (subst (λ z. TypesUnder ArrayCopies d (z ∷ h.1 ∷ g) t h.1) e h.6)) k.6,
      )
  arrays_by g _ a _ h k = absurd k

  pub copies_arrays_however_typed : (g : List PlainTy) (t : Tree) (n : Annotation) → IsCopyingArrays d g t → Annotates d g t n → CopiesArrays t n
  copies_arrays_however_typed g t n h k = arrays_by g t (type_in h.types) n (types_copying d g t h.types h.nodes h.arrays) k
