use Rattle.std.proofs.Common.{◌≡◌, List, Bool, false, true, ◌∷◌, ◌++◌, sym, ap, ◌∙◌}
use Rattle.std.specs.Prelude.{map}
use Rattle.group_form.specs.Named as spec
use Rattle.lowering.specs.Terms.{load_set_of}
use Rattle.phase_plan.proofs.named.+taken.Goals as goal

pub returns-in_ok-add_after-in-Each : goal.returns-in_ok-add_after-in-Each
returns-in_ok-add_after-in-Each t c =
    let after = λ (s : Bool) (ws : List (List Bool)). map (λ w. s ∷ w) ws in
    let first : c.in_ok-ways-in-Each.ways.items ≡ after false (spec.taken (load_set_of c.in-Each.first.value)) = c.in_ok-ways-in-Each.ensures ∙ ap (after false) (c.deref-in-Each.ensures.value ∙ c.in_ok-taken-in-Each.ensures ∙ ap (λ s. spec.taken (load_set_of s)) c.deref.ensures) in
    let second = ap (after true) (c.deref-in-Each-3.ensures.value ∙ c.in_ok-taken-in-Each-2.ensures ∙ ap (λ s. spec.taken (load_set_of s)) c.deref-in-Each-2.ensures) in
    let whole = ap (λ s. spec.taken (load_set_of s)) c.in-Each.is in
    c.in_ok-add_after-in-Each.ensures ∙ ap (λ ws. ws ++ after true c.deref-in-Each-3.result.now) first ∙ ap (λ ws. after false (spec.taken (load_set_of c.in-Each.first.value)) ++ ws) second ∙ sym whole
