-- The line that tells why a launch file is none, in its parts.
use Rattle.std.proofs.Common.{◌≡◌, ◌∙◌, ◌++◌, ℕ, List, Option, ap₂, subst, sym, append_assoc}
use Rattle.std.specs.Prelude.{codes}
use Rattle.fault_lines.specs.Lines.{TakesLine}

in_parts : (head first between second end : List ℕ) → head ++ first ++ between ++ second ++ end ≡ head ++ (first ++ (between ++ (second ++ end)))
in_parts head first between second end = simp append_assoc

-- a line that is taken part by part
pub taken_in_parts : (a b : Option (List ℕ)) (rose : Type 0) (head first between second f s line : List ℕ) → f ≡ first → s ≡ second
    → head ++ first ++ between ++ second ++ codes "\n" ≡ line → TakesLine a b rose (head ++ (f ++ (between ++ (s ++ codes "\n")))) → TakesLine a b rose line
taken_in_parts a b rose head first between second f s line p q is h =
    subst (TakesLine a b rose) (ap₂ (λ x y. head ++ (x ++ (between ++ (y ++ codes "\n")))) p q ∙ sym (in_parts head first between second (codes "\n")) ∙ is) h
