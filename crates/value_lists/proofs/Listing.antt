-- The lists as they are added.
use Rattle.std.proofs.Common.{◌≡◌, List, [], ◌∷◌, ◌++◌, refl, sym, ap, rules, ◌∙◌}
use Rattle.std.specs.Prelude.{Vec, Bool, true, false, map, ℕ}
use Rattle.std.specs.Global.{Global}
use Rattle.std.proofs.lemmas.List.{append-nil, append_assoc, map-append}
use Rattle.lift_tree.specs.declared.value.Val as held
use Rattle.lift_tree.specs.declared.value.Val.{Val, the_lemmas, Row_of-Val, end_of-Val, more_of-Val, items-the_row-Val}
use Rattle.lift_tree.specs.InputTypes.{Written, Number, Pair}
use Rattle.lift_tree.specs.Values.{Value, More, Side, Left, Right, value_of, row_value, array, list_of}
use Rattle.value_lists.specs.Lists.{side_of, ways, lists_below}

row_items : (n : _) (row : Row_of-Val n) → row_value row ≡ array (map value_of (items-the_row-Val n row))
row_items n end_of-Val = refl
row_items n (more_of-Val v rest) = ap (More (value_of v)) (row_items _ rest)

pub value_of-List : (xs : Vec Val Global) → value_of (held.List xs) ≡ array (map value_of xs.items)
value_of-List xs = search (rules, the_lemmas, row_items)

-- the numbers of a list so far, and those of one more member
pub one_more : (vs : List Val) (v : Val) (s : List Side) → list_of (array (map value_of (vs ++ v ∷ []))) s ≡ list_of (array (map value_of vs)) s ++ list_of (value_of v) s
one_more [] v s = append-nil (list_of (value_of v) s)
one_more (x ∷ vs) v s =
    ap (λ l. list_of (value_of x) s ++ l) (one_more vs v s)
    ∙ sym (append_assoc (list_of (value_of x) s) (list_of (array (map value_of vs)) s) (list_of (value_of v) s))

pub ruleset added = (value_of-List, one_more)

-- ---- all lists of a type
further : (w : List Side) (d : Side) (v : Value) (cs : List (List Side)) → map (λ c. list_of v (w ++ c)) (map (λ c. d ∷ c) cs) ≡ map (λ c. list_of v ((w ++ d ∷ []) ++ c)) cs
further w d v [] = refl
further w d v (c ∷ cs) =
    ap (λ l. list_of v l ∷ map (λ c. list_of v (w ++ c)) (map (λ c. d ∷ c) cs)) (sym (append_assoc w (d ∷ []) c))
    ∙ ap (λ ls. list_of v ((w ++ d ∷ []) ++ c) ∷ ls) (further w d v cs)

pub below_pair : (w : List Bool) (a b : Written) (v : Value) → lists_below (map side_of w) (Pair a b) v ≡ lists_below (map side_of (w ++ false ∷ [])) a v ++ lists_below (map side_of (w ++ true ∷ [])) b v
below_pair w a b v =
    map-append (λ c. list_of v (map side_of w ++ c)) (map (λ c. Left ∷ c) (ways a)) (map (λ c. Right ∷ c) (ways b))
    ∙ ap (λ l. l ++ map (λ c. list_of v (map side_of w ++ c)) (map (λ c. Right ∷ c) (ways b))) (further (map side_of w) Left v (ways a))
    ∙ ap (λ l. lists_below (map side_of w ++ Left ∷ []) a v ++ l) (further (map side_of w) Right v (ways b))
    ∙ ap (λ l. lists_below l a v ++ lists_below (map side_of w ++ Right ∷ []) b v) (sym (map-append side_of w (false ∷ [])))
    ∙ ap (λ l. lists_below (map side_of (w ++ false ∷ [])) a v ++ lists_below l b v) (sym (map-append side_of w (true ∷ [])))

pub below_number : (w : List Side) (v : Value) → lists_below w Number v ≡ list_of v w ∷ []
below_number w v = ap (λ l. list_of v l ∷ []) (append-nil w)

-- one list more
pub push_list : (ls : List (Vec ℕ Global)) (l : Vec ℕ Global) → map (λ (x : Vec ℕ Global). x.items) (ls ++ l ∷ []) ≡ map (λ (x : Vec ℕ Global). x.items) ls ++ l.items ∷ []
push_list ls l = map-append (λ (x : Vec ℕ Global). x.items) ls (l ∷ [])

pub ruleset listed = (below_pair, below_number, append_assoc, push_list)
