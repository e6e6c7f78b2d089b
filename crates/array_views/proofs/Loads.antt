-- A pair whose sides are loaded.
use Rattle.std.proofs.Common.{◌≡◌, true, false, ◌∷◌, ap, ◌∙◌}
use Rattle.lift_ir.specs.Terms.{LoadSet, Each}
use Rattle.lift_ir.specs.Scalars.{by_side}
use Rattle.printed_form.specs.Counts.{Count, more, load_count}
use Rattle.printed_form.specs.Views.{Blank, View, loaded_view}

pub each_side : (l r : LoadSet) (x u w a b : View) (n m : Count) → u ≡ (λ cs is. x (false ∷ cs) is) → w ≡ (λ cs is. x (true ∷ cs) is)
    → a ≡ loaded_view l u n → b ≡ loaded_view r w m → m ≡ more n (load_count l) → by_side (λ is. Blank) a b ≡ loaded_view (Each l r) x n
each_side l r x u w a b n m left right first second at =
    ap (λ z. by_side (λ is. Blank) z b) (first ∙ ap (λ z. loaded_view l z n) left)
    ∙ ap (λ z. by_side (λ is. Blank) (loaded_view l (λ cs. x (false ∷ cs)) n) z) (second ∙ ap (λ z. loaded_view r z m) right ∙ ap (λ k. loaded_view r (λ cs. x (true ∷ cs)) k) at)
