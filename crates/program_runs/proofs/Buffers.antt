-- The inputs in their buffers.
use Rattle.std.proofs.Common.{◌≡◌, ◌∙◌, ◌++◌, ◌-◌, ◌≤◌, ◌<◌, ℕ, zero, suc, List, [], ◌∷◌, Some, append_assoc, append-nil, ap, ap₂, arith, drop, get_or, length, map, subst, sym, take}
use Rattle.std.specs.Prelude.{slice_get}
use Rattle.std.proofs.lemmas.List.{take_rest}
use Rattle.size_arith.specs.declared.names.Name.{Name}
use Rattle.lift_tree.specs.Launches.{buffers_of, lists_of}
use Rattle.lift_tree.specs.Programs.{input_of}
use Rattle.lift_tree.specs.Types.{HasType, HaveTypes, PlainTy}
use Rattle.lift_tree.specs.Values.{Value, list_of, nth, value_of}
use Rattle.lift_tree.specs.InputTypes.{written_of}
use Rattle.lift_tree.specs.WorkedOut.{worked_out}
use Rattle.lift_tree.specs.declared.program.Input.{Input}
use Rattle.lift_tree.specs.declared.value.Val.{Val}
use Rattle.value_lists.specs.Laws.{WaysAreComponents}
use Rattle.value_lists.specs.Lists.{ways}

-- what the buffers of these inputs hold
abbrev pub held : List Name → List Input → List Val → List (List ℕ)
held names inputs values = buffers_of (map (λ i. worked_out names i.ty) (map input_of inputs)) (map value_of values)

cut : {X : Type 0} (xs : List X) (d : X) → 1 ≤ length xs → xs ≡ get_or xs 0 d ∷ take (length xs - 1) (drop 1 xs)
cut [] d some = absurd (omega (arith, some))
cut (x ∷ xs) d some = ap (λ (ys : List _). x ∷ ys) (sym (take_rest (x ∷ xs) 1))

first_of : WaysAreComponents → (names : List Name) (i : Input) (v : Val) → map (list_of (value_of v)) (ways (written_of i.ty)) ≡ lists_of (worked_out names (input_of i).ty) (value_of v)
first_of law names i v = ap (map (list_of (value_of v))) (law names (written_of i.ty))

-- the lists of the first input, and then those of the rest
pub first_and_rest : WaysAreComponents → (names : List Name) (inputs : List Input) (values : List Val) (i : Input) (v : Val) → 1 ≤ length inputs → 1 ≤ length values → (old once whole : List (List ℕ))
    → once ≡ old ++ map (list_of (value_of (get_or values 0 v))) (ways (written_of (get_or inputs 0 i).ty))
    → whole ≡ once ++ held names (take (length inputs - 1) (drop 1 inputs)) (take (length values - 1) (drop 1 values))
    → whole ≡ old ++ held names inputs values
first_and_rest law names inputs values i v some more old once whole one rest =
    let first = get_or inputs 0 i in
    let value = get_or values 0 v in
    let later = held names (take (length inputs - 1) (drop 1 inputs)) (take (length values - 1) (drop 1 values)) in
    rest ∙ ap (λ (ls : List (List ℕ)). ls ++ later) (one ∙ ap (λ (ls : List (List ℕ)). old ++ ls) (first_of law names first value))
    ∙ append_assoc old (lists_of (worked_out names (input_of first).ty) (value_of value)) later
    ∙ ap₂ (λ (is : List Input) (vs : List Val). old ++ held names is vs) (sym (cut inputs i some)) (sym (cut values v more))

-- where either list is empty, nothing is held
pub none_held : (names : List Name) (inputs : List Input) (values : List Val) (old : List (List ℕ)) → length inputs < 1 → old ≡ old ++ held names inputs values
none_held names [] values old h = sym (append-nil old)
none_held names (i ∷ is) values old h = absurd (omega (arith, h))

pub none_held_of_values : (names : List Name) (inputs : List Input) (values : List Val) (old : List (List ℕ)) → length values < 1 → old ≡ old ++ held names inputs values
none_held_of_values names [] values old h = sym (append-nil old)
none_held_of_values names (i ∷ is) [] old h = sym (append-nil old)
none_held_of_values names (i ∷ is) (v ∷ vs) old h = absurd (omega (arith, h))

-- what may be held where the lists of inputs or values end
pub ruleset holding = (none_held, none_held_of_values)

-- from no lists on, they are what the buffers hold
pub held_first : {L : Type 0} (f : L → List ℕ) (names : List Name) (old new : List L) (is js : List Input) (vs ws : List Val) → old ≡ [] → is ≡ js → vs ≡ ws → map f new ≡ map f old ++ held names is vs → map f new ≡ held names js ws
held_first f names old new is js vs ws none inputs values h = h ∙ ap (λ ls. map f ls ++ held names is vs) none ∙ ap₂ (held names) inputs values

-- ---- one value more

-- its lists stand behind those of the others
pub buffers_more : (xs : List PlainTy) (vs : List Value) (a : PlainTy) (v : Value) → length xs ≡ length vs → buffers_of (xs ++ a ∷ []) (vs ++ v ∷ []) ≡ buffers_of xs vs ++ lists_of a v
buffers_more [] [] a v even = append-nil (lists_of a v)
buffers_more [] (u ∷ vs) a v even = absurd (omega (arith, even))
buffers_more (x ∷ xs) [] a v even = absurd (omega (arith, even))
buffers_more (x ∷ xs) (u ∷ vs) a v even =
    ap (λ z. lists_of x u ++ z) (buffers_more xs vs a v (omega (arith, even))) ∙ sym (append_assoc (lists_of x u) (buffers_of xs vs) (lists_of a v))

-- and it has its type there
pub types_more : (ys : List ℕ) (xs : List PlainTy) (vs : List Value) (a : PlainTy) (v : Value) → length xs ≡ length vs → HaveTypes ys xs vs → HasType ys a v
    → (n : ℕ) (b : PlainTy) → slice_get (xs ++ a ∷ []) n ≡ Some b → HasType ys b (nth (vs ++ v ∷ []) n)
types_more ys [] [] a v even all typed zero b at = let same : a ≡ b = cc in subst (λ z. HasType ys z v) same typed
types_more ys [] [] a v even all typed (suc n) b at = absurd (cc)
types_more ys [] (u ∷ vs) a v even all typed n b at = absurd (omega (arith, even))
types_more ys (x ∷ xs) [] a v even all typed n b at = absurd (omega (arith, even))
types_more ys (x ∷ xs) (u ∷ vs) a v even all typed zero b at = all zero b at
types_more ys (x ∷ xs) (u ∷ vs) a v even all typed (suc n) b at = types_more ys xs vs a v (omega (arith, even)) (λ k c. all (suc k) c) typed n b at
