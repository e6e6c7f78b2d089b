-- The rule of each name.
use Rattle.rewriting.specs.Answers.{Answer}
use Rattle.rewriting.specs.Around.{Around}
use Rattle.lift_tree.specs.Tree.{Tree}
use Rattle.rules_algebra.specs.declared.rule.Rule.{Rule}
use Rattle.rules_algebra.specs.declared.rule.Rule.TheVariants as rule
use Rattle.rules_algebra.specs.Fusing.{fuse_map, fuse_fold}
use Rattle.rules_algebra.specs.Inlining.{let_inline, copy}
use Rattle.rules_algebra.specs.Layouts.{join_split, split_join, transpose_transpose, map_join, map_split, map_transpose}
use Rattle.rules_algebra.specs.Padding.{pad_map, map_pad}
use Rattle.rules_algebra.specs.Strides.{reverse_reverse, map_reverse, map_stride, stride_stride, stride_layout}

-- what the rule says of a term, where this stands around it
abbrev pub answer : Rule → Around → Tree → Answer
answer rule.FuseMap a t = fuse_map t
answer rule.FuseFold a t = fuse_fold t
answer rule.JoinSplit a t = join_split t
answer rule.SplitJoin a t = split_join a t
answer rule.TransposeTranspose a t = transpose_transpose t
answer rule.MapJoin a t = map_join t
answer rule.MapSplit a t = map_split t
answer rule.MapTranspose a t = map_transpose t
answer rule.ReverseReverse a t = reverse_reverse t
answer rule.MapReverse a t = map_reverse t
answer rule.MapStride a t = map_stride t
answer rule.StrideStride a t = stride_stride a t
answer rule.StrideLayout a t = stride_layout a t
answer rule.PadMap a t = pad_map t
answer rule.MapPad a t = map_pad t
answer rule.LetInline a t = let_inline t
answer rule.Copy a t = copy a t
