-- Uses of one phase.
use Rattle.std.proofs.Common.{◌≡◌, ℕ, suc, ◌+◌, ◌-◌, ◌<◌, Bool, true, false, List, [], ◌∷◌, ◌++◌, refl, ap, sym, ◌∙◌, arith}
use Rattle.std.proofs.lemmas.List.{append_assoc, append-nil}
use Rattle.barrier_placement.specs.declared.touches.Touch.{Touch}
use Rattle.group_form.specs.Origins.{Elsewhere, Within, at_way}
use Rattle.group_form.specs.Uses.{Use, writes_from, touch_of, touches_in, numbered}

pub touched_append : (q : ℕ) (us vs : List Use) → touches_in q (us ++ vs) ≡ touches_in q us ++ touches_in q vs
touched_append q [] vs = refl
touched_append q (u ∷ us) vs = ap (λ xs. touch_of q u ∷ xs) (touched_append q us vs)

-- nothing lies under what isn't a pair's origin
pub nowhere : (w : List Bool) → at_way Elsewhere w ≡ Elsewhere
nowhere [] = refl
nowhere (false ∷ w) = nowhere w
nowhere (true ∷ w) = nowhere w

pub not_within : (a : ℕ) (plainly s : Bool) (w : List Bool) → at_way (Within a plainly) (s ∷ w) ≡ Elsewhere
not_within a plainly false w = nowhere w
not_within a plainly true w = nowhere w

-- the last of some arrays is written first
pub last_first : (f n : ℕ) (d : Bool) → f < n → writes_from f d (n - f) ≡ record { array = n - 1; writes = true; aligned = d } ∷ writes_from f d (n - 1 - f)
last_first f n d lt =
    let e : n - f ≡ suc (n - 1 - f) = omega arith in
    let z : f + (n - 1 - f) ≡ n - 1 = omega arith in
    ap (λ m. writes_from f d m) e ∙ ap (λ a. record { array = a; writes = true; aligned = d } ∷ writes_from f d (n - 1 - f)) z

pub ruleset touched = (touched_append, append_assoc, append-nil)

-- a phase's writes, and its two kinds of reads
pub phase_added : (q : ℕ) (ws es vs : List Use) (before written read all : List Touch) → written ≡ before ++ touches_in q ws → read ≡ written ++ touches_in q es → all ≡ read ++ touches_in q vs → all ≡ before ++ numbered q ((ws ++ (es ++ vs)) ∷ [])
phase_added q ws es vs before written read all w e v =
    let w' = touches_in q ws in
    let e' = touches_in q es in
    let v' = touches_in q vs in
    v ∙ ap (λ xs. xs ++ v') (e ∙ ap (λ xs. xs ++ e') w) ∙ append_assoc (before ++ w') e' v' ∙ append_assoc before w' (e' ++ v')
    ∙ ap (λ xs. before ++ (w' ++ xs)) (sym (touched_append q es vs)) ∙ ap (λ xs. before ++ xs) (sym (touched_append q ws (es ++ vs))) ∙ ap (λ xs. before ++ xs) (sym (append-nil (touches_in q (ws ++ (es ++ vs)))))
