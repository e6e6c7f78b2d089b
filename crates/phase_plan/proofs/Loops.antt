-- Loops that add what a list gives, element by element.
use Rattle.std.proofs.Common.{◌≡◌, ℕ, ◌+◌, ◌<◌, List, ◌∷◌, ◌++◌, length, get_or, drop, ap, sym, ◌∙◌}
use Rattle.std.proofs.lemmas.List.{append_assoc, at_drop_more}

-- an element's part is added
pub stepped : {X Y : Type 0} (given : List X → List Y) (xs : List X) (i : ℕ) (x : X) (part sum next whole : List Y) → i < length xs → x ≡ get_or xs i x → given (x ∷ drop (i + 1) xs) ≡ part ++ given (drop (i + 1) xs) → next ≡ sum ++ part → sum ++ given (drop i xs) ≡ whole → next ++ given (drop (i + 1) xs) ≡ whole
stepped given xs i x part sum next whole lt is gives added so_far =
    let rest = given (drop (i + 1) xs) in
    let here : given (drop i xs) ≡ part ++ rest = at_drop_more given xs i x lt ∙ ap (λ y. given (y ∷ drop (i + 1) xs)) (sym is) ∙ gives in
    ap (λ ys. ys ++ rest) added ∙ append_assoc sum part rest ∙ ap (λ ys. sum ++ ys) (sym here) ∙ so_far
