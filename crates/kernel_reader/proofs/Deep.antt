-- What lies too deep has no alternative.
use Rattle.std.proofs.Common.{◌≡◌, ℕ, suc, ◌≤◌, Option, None, Some, Bool, true, false, cond, refl, ap, sym, ◌∙◌, subst, arith, List, [], ◌∷◌, ◌++◌, Result, Ok, Err, Bor}
use Rattle.std.specs.Prelude.{not, nat_le, nat_lt, ◌&&◌, bytes_eq, option_map}
use Rattle.std.specs.declared.alloc.AllocError.{AllocError}
use Rattle.std.proofs.lemmas.List.{append_assoc}
use Rattle.readings.specs.Readings.{Token, Form}
use Rattle.readings.specs.declared.owed.Owed.{Owed}
use Rattle.std.proofs.lemmas.Bool.{leb-true, and_parts}
use Rattle.kernel_tree.specs.Formula.{Formula}
use Rattle.kernel_tree.specs.Grammar.{deepest}
use Rattle.kernel_tree.specs.KernelText.{Piece, Notes, Item, Rest, IdName, LanesRest, AssignFour, stored, space, closes, uint, uint4, loads_four}
use Rattle.kernel_spelling.specs.declared.kinds.Kind.{Kind}
use Rattle.kernel_spelling.specs.declared.kinds.Kind.TheVariants.{Array, Size, Variable, Vector, LoopVariable, Literal, Decimal, Other}
use Rattle.kernel_spelling.specs.Rows.{leaf, whole_row, value_row, opened_row, spreading, lanes_row, lanes_opened_row, loading_four, source_of_four_row}
use Rattle.kernel_reader.specs.declared.form.Form as held
use Rattle.kernel_reader.specs.declared.form.Mark.{Mark}
use Rattle.kernel_reader.specs.Views.{Gave, owed_by}

deeper : (d : ℕ) → 1024 ≤ d → nat_le (suc d) deepest ≡ true → ⊥
deeper d h e = let w : suc d ≤ 1024 = leb-true (suc d) deepest e in omega (arith, w, h)

no_leaf : (may : Bool) (e : Formula) → (may ≡ true → ⊥) → leaf may e ≡ None
no_leaf true e h = absurd (h refl)
no_leaf false e h = refl

no_whole : (may : Bool) (o : Option (List Item)) → (may ≡ true → ⊥) → cond may o None ≡ None
no_whole true o h = absurd (h refl)
no_whole false o h = refl

pub too_deep : (n : Notes) (b : Bool) (l d : ℕ) (p : Piece) (kind : Kind) → 1024 ≤ d → value_row n b l (suc d) p kind ≡ None
too_deep n b l d p (Variable k) h = no_leaf (not b && (nat_lt k n.variables && nat_le (suc d) deepest)) _ (λ e. deeper d h (and_parts (nat_lt k n.variables) _ (and_parts (not b) _ e).1).1)
too_deep n b l d p (LoopVariable k) h = no_leaf (not b && (nat_lt k l && nat_le (suc d) deepest)) _ (λ e. deeper d h (and_parts (nat_lt k l) _ (and_parts (not b) _ e).1).1)
too_deep n b l d p (Size k) h = no_leaf (nat_lt k n.sizes && nat_le (suc d) deepest) _ (λ e. deeper d h (and_parts (nat_lt k n.sizes) _ e).1)
too_deep n b l d p (Literal v) h = no_leaf (nat_le (suc d) deepest) _ (deeper d h)
too_deep n b l d p Other h = no_whole (nat_le (suc d) deepest) (whole_row b l (suc d) p) (deeper d h)
too_deep n b l d p (Array a) h = refl
too_deep n b l d p (Decimal v) h = refl
too_deep n b l d p (Vector k) h = refl

-- ---- behind a parenthesis

pub opened_too_deep : (n : Notes) (b : Bool) (l d : ℕ) (p : Piece) (kind : Kind) → bytes_eq p uint ≡ false → 1024 ≤ d → opened_row n b l d p kind ≡ None
opened_too_deep n b l d p kind e h =
    let after : List Item → List Item = λ given. given ++ Token space ∷ Form (Rest b l (suc d)) ∷ [] in
    ap (λ v. cond v (cond b None (Some (Token closes ∷ Form IdName ∷ []))) (option_map after (value_row n b l (suc d) p kind))) e
    ∙ ap (option_map after) (too_deep n b l d p kind h)

given_more : (o : Option (List Item)) (xs mid old : List Item) → mid ≡ xs ++ old → option_map (λ (g : List Item). g ++ mid) o ≡ option_map (λ (g : List Item). g ++ old) (option_map (λ (g : List Item). g ++ xs) o)
given_more None xs mid old e = refl
given_more (Some a) xs mid old e = ap Some (ap (λ z. a ++ z) e ∙ sym (append_assoc a xs old))

-- what a value gives before what its operator owes
pub behind_parenthesis : (n : Notes) (b : Bool) (l d m : ℕ) (p : Piece) (kind : Kind) (result : Result Bool AllocError) (old mid new : List (Owed (Bor (List ℕ)) held.Form Mark)) → m ≡ suc d → bytes_eq p uint ≡ false
    → owed_by mid ≡ Token space ∷ Form (Rest b l m) ∷ owed_by old → Gave result mid new (value_row n b l m p kind) → Gave result old new (opened_row n b l d p kind)
behind_parenthesis n b l d m p kind (Err e) old mid new same apart owed h = tt
behind_parenthesis n b l d m p kind (Ok found) old mid new same apart owed h =
    let after : List Item → List Item = λ given. given ++ Token space ∷ Form (Rest b l (suc d)) ∷ [] in
    let owes : owed_by mid ≡ Token space ∷ Form (Rest b l (suc d)) ∷ owed_by old = subst (λ z. owed_by mid ≡ Token space ∷ Form (Rest b l z) ∷ owed_by old) same owed in
    let gave : cond found (Some (owed_by new)) None ≡ option_map (λ (g : List Item). g ++ owed_by mid) (value_row n b l (suc d) p kind) =
    subst (λ z. cond found (Some (owed_by new)) None ≡ option_map (λ (g : List Item). g ++ owed_by mid) (value_row n b l z p kind)) same h in
    gave
    ∙ given_more (value_row n b l (suc d) p kind) (Token space ∷ Form (Rest b l (suc d)) ∷ []) (owed_by mid) (owed_by old) owes
    ∙ ap (option_map (λ (g : List Item). g ++ owed_by old)) (sym (ap (λ v. cond v (cond b None (Some (Token closes ∷ Form IdName ∷ []))) (option_map after (value_row n b l (suc d) p kind))) apart))

-- the same of four words
pub behind_lanes_parenthesis : (n : Notes) (l d m : ℕ) (p : Piece) (kind : Kind) (result : Result Bool AllocError) (old mid new : List (Owed (Bor (List ℕ)) held.Form Mark)) → m ≡ suc d → bytes_eq p uint4 ≡ false
    → owed_by mid ≡ Token space ∷ Form (LanesRest l m) ∷ owed_by old → Gave result mid new (lanes_row n l m p kind) → Gave result old new (lanes_opened_row n l d p kind)
behind_lanes_parenthesis n l d m p kind (Err e) old mid new same apart owed h = tt
behind_lanes_parenthesis n l d m p kind (Ok found) old mid new same apart owed h =
    let after : List Item → List Item = λ given. given ++ Token space ∷ Form (LanesRest l (suc d)) ∷ [] in
    let owes : owed_by mid ≡ Token space ∷ Form (LanesRest l (suc d)) ∷ owed_by old = subst (λ z. owed_by mid ≡ Token space ∷ Form (LanesRest l z) ∷ owed_by old) same owed in
    let gave : cond found (Some (owed_by new)) None ≡ option_map (λ (g : List Item). g ++ owed_by mid) (lanes_row n l (suc d) p kind) =
    subst (λ z. cond found (Some (owed_by new)) None ≡ option_map (λ (g : List Item). g ++ owed_by mid) (lanes_row n l z p kind)) same h in
    gave
    ∙ given_more (lanes_row n l (suc d) p kind) (Token space ∷ Form (LanesRest l (suc d)) ∷ []) (owed_by mid) (owed_by old) owes
    ∙ ap (option_map (λ (g : List Item). g ++ owed_by old)) (sym (ap (λ v. cond v (Some (spreading l d)) (option_map after (lanes_row n l (suc d) p kind))) apart))

-- ---- behind the sign of an assignment

-- what four words give before what their assignment owes
pub behind_assignment : (n : Notes) (l nest k : ℕ) (p : Piece) (kind : Kind) (result : Result Bool AllocError) (old mid new : List (Owed (Bor (List ℕ)) held.Form Mark)) → bytes_eq p loads_four ≡ false
    → owed_by mid ≡ stored l nest (AssignFour k) ++ owed_by old → Gave result mid new (lanes_row n l 1 p kind) → Gave result old new (source_of_four_row n l nest k p kind)
behind_assignment n l nest k p kind (Err e) old mid new apart owed h = tt
behind_assignment n l nest k p kind (Ok found) old mid new apart owed h =
    let after : List Item → List Item = λ given. given ++ stored l nest (AssignFour k) in
    let gave : cond found (Some (owed_by new)) None ≡ option_map (λ (g : List Item). g ++ owed_by mid) (lanes_row n l 1 p kind) = h in
    gave
    ∙ given_more (lanes_row n l 1 p kind) (stored l nest (AssignFour k)) (owed_by mid) (owed_by old) owed
    ∙ ap (option_map (λ (g : List Item). g ++ owed_by old)) (sym (ap (λ v. cond v (Some (loading_four l nest k)) (option_map after (lanes_row n l 1 p kind))) apart))
