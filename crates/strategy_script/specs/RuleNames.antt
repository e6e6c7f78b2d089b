-- The rules' names in scripts.
use Rattle.lift_tree.specs.declared.term.Level.TheVariants as level
use Rattle.lift_tree.specs.declared.term.Dimension.TheVariants as dimension
use Rattle.std.specs.Prelude.{ℕ, List, [], ◌∷◌, Option, bytes_eq, codes, find}
use Rattle.rules_algebra.specs.declared.rule.Rule as algebra_rules
use Rattle.rules_algebra.specs.declared.rule.Rule.TheVariants as algebra
use Rattle.rules_lower.specs.declared.rule.Rule as lower_rules
use Rattle.rules_lower.specs.declared.rule.Rule.TheVariants as lower
use Rattle.rules_split.specs.declared.rule.Rule as split_rules
use Rattle.rules_split.specs.declared.rule.Rule.TheVariants as split
use Rattle.strategy_script.specs.declared.rule.Rule.{Rule}
use Rattle.strategy_script.specs.declared.rule.Rule.TheVariants.{Algebra, Split, Lower}

-- the words for the rules of the terms' algebra
abbrev pub algebra_name : algebra_rules.Rule → List ℕ
algebra_name algebra.FuseMap = codes "fuse-map"
algebra_name algebra.FuseFold = codes "fuse-fold"
algebra_name algebra.JoinSplit = codes "join-split"
algebra_name algebra.SplitJoin = codes "split-join"
algebra_name algebra.TransposeTranspose = codes "transpose-transpose"
algebra_name algebra.MapJoin = codes "map-join"
algebra_name algebra.MapSplit = codes "map-split"
algebra_name algebra.MapTranspose = codes "map-transpose"
algebra_name algebra.ReverseReverse = codes "reverse-reverse"
algebra_name algebra.MapReverse = codes "map-reverse"
algebra_name algebra.MapStride = codes "map-stride"
algebra_name algebra.StrideStride = codes "stride-stride"
algebra_name algebra.StrideLayout = codes "stride-layout"
algebra_name algebra.PadMap = codes "pad-map"
algebra_name algebra.MapPad = codes "map-pad"
algebra_name algebra.LetInline = codes "let-inline"
algebra_name algebra.Copy = codes "copy"

-- the words for the rules that cut arrays into pieces, without their numbers
abbrev pub split_name : split_rules.Rule → List ℕ
split_name (split.SplitMap n) = codes "split-map"
split_name (split.SplitReduce n) = codes "split-reduce"
split_name (split.StrideReduce n) = codes "stride-reduce"
split_name (split.TileSlide n) = codes "tile-slide"
split_name split.ReduceFold = codes "reduce-fold"

-- the words for the rules that say how a term is run
abbrev pub lower_name : lower_rules.Rule → List ℕ
lower_name (lower.ToParallel level.Launch dimension.X) = codes "to-glb"
lower_name (lower.ToParallel level.Groups dimension.X) = codes "to-wrg"
lower_name (lower.ToParallel level.Items dimension.X) = codes "to-lcl"
lower_name (lower.ToParallel level.Launch dimension.Y) = codes "to-glb1"
lower_name (lower.ToParallel level.Groups dimension.Y) = codes "to-wrg1"
lower_name (lower.ToParallel level.Items dimension.Y) = codes "to-lcl1"
lower_name lower.ToSequential = codes "to-seq"
lower_name lower.FoldSequential = codes "fold-seq"
lower_name lower.Local = codes "local"
lower_name lower.Private = codes "private"
lower_name lower.LocalCopy = codes "local-copy"
lower_name lower.PrivateCopy = codes "private-copy"
lower_name lower.Then = codes "then"
lower_name lower.Vector = codes "vector"
lower_name lower.VectorScalar = codes "vector-scalar"

-- the word for a rule
abbrev pub rule_name : Rule → List ℕ
rule_name (Algebra rule) = algebra_name rule
rule_name (Split rule) = split_name rule
rule_name (Lower rule) = lower_name rule

-- the rules without a number
abbrev pub plain_rules : List Rule
plain_rules =
    Algebra algebra.FuseMap ∷
    Algebra algebra.FuseFold ∷
    Algebra algebra.JoinSplit ∷
    Algebra algebra.SplitJoin ∷
    Algebra algebra.TransposeTranspose ∷
    Algebra algebra.MapJoin ∷
    Algebra algebra.MapSplit ∷
    Algebra algebra.MapTranspose ∷
    Algebra algebra.ReverseReverse ∷
    Algebra algebra.MapReverse ∷
    Algebra algebra.MapStride ∷
    Algebra algebra.StrideStride ∷
    Algebra algebra.StrideLayout ∷
    Algebra algebra.PadMap ∷
    Algebra algebra.MapPad ∷
    Algebra algebra.LetInline ∷
    Algebra algebra.Copy ∷
    Split split.ReduceFold ∷
    Lower (lower.ToParallel level.Launch dimension.X) ∷
    Lower (lower.ToParallel level.Groups dimension.X) ∷
    Lower (lower.ToParallel level.Items dimension.X) ∷
    Lower (lower.ToParallel level.Launch dimension.Y) ∷
    Lower (lower.ToParallel level.Groups dimension.Y) ∷
    Lower (lower.ToParallel level.Items dimension.Y) ∷
    Lower lower.ToSequential ∷
    Lower lower.FoldSequential ∷
    Lower lower.Local ∷
    Lower lower.Private ∷
    Lower lower.LocalCopy ∷
    Lower lower.PrivateCopy ∷
    Lower lower.Then ∷
    Lower lower.Vector ∷
    Lower lower.VectorScalar ∷
    []

-- the rule of this name, among those without a number
unfoldable pub plain_named : List ℕ → Option Rule
plain_named bytes = find (λ rule. bytes_eq (rule_name rule) bytes) plain_rules

-- the rules with a number, with this one
abbrev pub numbered_rules : ℕ → List Rule
numbered_rules n =
    Split (split.SplitMap n) ∷
    Split (split.SplitReduce n) ∷
    Split (split.StrideReduce n) ∷
    Split (split.TileSlide n) ∷
    []

-- the rule of this name, among those with a number, with this one
unfoldable pub numbered_named : List ℕ → ℕ → Option Rule
numbered_named bytes n = find (λ rule. bytes_eq (rule_name rule) bytes) (numbered_rules n)
