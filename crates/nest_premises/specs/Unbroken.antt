-- Terms at whose nodes no rule of the nest is broken.
use Rattle.std.specs.Prelude.{false}
use Rattle.lift_tree.specs.Tree.{Tree, Unary, Binary, Select, Let, Map, Fold}
use Rattle.lift_tree.specs.Annotations.{Annotation, One, Two, Three, type_in}
use Rattle.lift_tree.specs.Types.{is_element}
use Rattle.lowered_tree.specs.Around.{Around, operand, under_form, argument, let_body, map_body, fold_body}
use Rattle.lowered_tree.specs.Nest.{site_at, IsUnbroken}

-- no rule is broken at a node with this around it
abbrev pub IsUnbrokenAt : Around → Tree → Annotation → Type 0
IsUnbrokenAt s t n = IsUnbroken (site_at s t n)

-- nor at any below it
abbrev pub AllUnbroken : Around → Tree → Annotation → Type 0
AllUnbroken s (Unary f t) (One a n) =
    IsUnbrokenAt s (Unary f t) (One a n) × AllUnbroken (under_form s f a) t n
AllUnbroken s (Binary f t u) (Two a n m) =
    IsUnbrokenAt s (Binary f t u) (Two a n m)
    × AllUnbroken (operand s a) t n × AllUnbroken (operand s a) u m
AllUnbroken s (Select t u w) (Three a n m l) =
    IsUnbrokenAt s (Select t u w) (Three a n m l)
    × AllUnbroken (operand s a) t n × AllUnbroken (operand s a) u m × AllUnbroken (operand s a) w l
AllUnbroken s (Let v b) (Two a n m) =
    IsUnbrokenAt s (Let v b) (Two a n m)
    × AllUnbroken (argument s (is_element (type_in n)) a) v n
    × AllUnbroken (let_body s (is_element (type_in n)) v a) b m
AllUnbroken s (Map k xs b) (Two a n m) =
    IsUnbrokenAt s (Map k xs b) (Two a n m)
    × AllUnbroken (argument s false a) xs n × AllUnbroken (map_body s k xs b a) b m
AllUnbroken s (Fold k xs z b) (Three a n m l) =
    IsUnbrokenAt s (Fold k xs z b) (Three a n m l)
    × AllUnbroken (argument s false a) xs n × AllUnbroken (operand s a) z m
    × AllUnbroken (fold_body s a) b l
AllUnbroken s t n = IsUnbrokenAt s t n
