-- The values that kernels leave one after another, and what the last leaves.
use Rattle.std.proofs.Common.{◌≡◌, ℕ, suc, List, [], ◌∷◌, ◌++◌, length, length-append, append-nil, append_assoc, refl, sym, ap, ◌∙◌, subst, arith}
use Rattle.std.proofs.lemmas.List.{take_at}
use Rattle.lift_tree.specs.Annotations.{Annotation, One, Two, Three, type_in}
use Rattle.lift_tree.specs.Belonging.{Belongs}
use Rattle.lift_tree.specs.Meaning.{World, meaning}
use Rattle.lift_tree.specs.Tree.{Tree, Unary, Binary, Select, Let, Map, Fold}
use Rattle.lift_tree.specs.Values.{Value, nth}
use Rattle.lift_tree.specs.declared.term.UnaryForm.TheVariants.{Then}
use Rattle.kernel_sequence.specs.Cut.{Part, cut_off}
use Rattle.kernel_sequence.specs.Laws.{SequencesLeaveTheValue}
use Rattle.kernel_sequence.specs.Values.{HoldInTurn}

abbrev pub with_inputs : World → List Value → World
with_inputs w vs = record w { inputs = vs }

-- the value of a term where the inputs have these values
abbrev pub value_with : World → List Value → Part → Value
value_with w vs p = meaning (with_inputs w vs) [] p.tree

-- the value that the last kernel leaves, behind those before it
abbrev pub last_value : World → List Value → (before : List Part) → (last : Part) → Value
last_value w vs [] l = value_with w vs l
last_value w vs (p ∷ ps) l = last_value w (vs ++ value_with w vs p ∷ []) ps l

-- the values that those before leave
abbrev made_values : World → List Value → List Part → List Value
made_values w vs [] = []
made_values w vs (p ∷ ps) = value_with w vs p ∷ made_values w (vs ++ value_with w vs p ∷ []) ps

made_long : (w : World) (vs : List Value) (ps : List Part) → length (made_values w vs ps) ≡ length ps
made_long w vs [] = refl
made_long w vs (p ∷ ps) = let e = made_long w (vs ++ value_with w vs p ∷ []) ps in omega (arith, e)

last_is : (w : World) (vs : List Value) (ps : List Part) (l : Part) → last_value w vs ps l ≡ value_with w (vs ++ made_values w vs ps) l
last_is w vs [] l = ap (λ z. value_with w z l) (sym (append-nil vs))
last_is w vs (p ∷ ps) l =
    let u = value_with w vs p in
    last_is w (vs ++ u ∷ []) ps l ∙ ap (λ z. value_with w z l) (append_assoc vs (u ∷ []) (made_values w (vs ++ u ∷ []) ps))

nth_at : (us : List Value) (u : Value) (xs : List Value) → nth (us ++ u ∷ xs) (length us) ≡ u
nth_at [] u xs = refl
nth_at (v ∷ us) u xs = nth_at us u xs

in_turn : (w : World) (us : List Value) (ps : List Part) → HoldInTurn w (us ++ made_values w (w.inputs ++ us) ps) (length us) ps
in_turn w us [] = tt
in_turn w us (p ∷ ps) =
    let u = value_with w (w.inputs ++ us) p in
    let xs = made_values w ((w.inputs ++ us) ++ u ∷ []) ps in
    let all : (us ++ u ∷ []) ++ made_values w (w.inputs ++ (us ++ u ∷ [])) ps ≡ us ++ u ∷ xs =
    append_assoc us (u ∷ []) (made_values w (w.inputs ++ (us ++ u ∷ [])) ps) ∙ ap (λ z. us ++ u ∷ made_values w z ps) (sym (append_assoc w.inputs us (u ∷ []))) in
    let more : length (us ++ u ∷ []) ≡ suc (length us) = omega (arith, length-append us (u ∷ [])) in (
      nth_at us u xs ∙ ap (λ z. value_with w (w.inputs ++ z) p) (sym (take_at us (u ∷ xs) (length us) refl)),
      subst (λ z. HoldInTurn w z (suc (length us)) ps) all (subst (λ k. HoldInTurn w ((us ++ u ∷ []) ++ made_values w (w.inputs ++ (us ++ u ∷ [])) ps) k ps) more (in_turn w (us ++ u ∷ []) ps)),
    )

-- run in turn they leave the term's value
pub left_at_last : SequencesLeaveTheValue → (w : World) (sizes i : ℕ) (t : Tree) (n : Annotation) → length w.inputs ≡ i → Belongs sizes i 0 t
    → last_value w w.inputs (cut_off i [] t n).made (cut_off i [] t n).left ≡ meaning w [] t
left_at_last law w sizes i t n long named =
    let ps = (cut_off i [] t n).made in
    last_is w w.inputs ps (cut_off i [] t n).left
    ∙ law w (made_values w w.inputs ps) sizes i t n long named (made_long w w.inputs ps)
    (subst (λ z. HoldInTurn w (made_values w z ps) 0 ps) (append-nil w.inputs) (in_turn w [] ps))

-- what is left of a term has the term's type
pub left_type : (i : ℕ) (made : List Part) (t : Tree) (n : Annotation) → type_in (cut_off i made t n).left.types ≡ type_in n
left_type i made (Unary Then t) (One a n) = refl
left_type i made (Unary f t) (One a n) = refl
left_type i made (Binary f t u) (Two a n m) = refl
left_type i made (Select t u v) (Three a n m k) = refl
left_type i made (Let v b) (Two a n m) = refl
left_type i made (Map h xs b) (Two a n m) = refl
left_type i made (Fold h xs s b) (Three a n m k) = refl
left_type i made t n = refl
