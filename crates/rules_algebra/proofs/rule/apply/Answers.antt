use Rattle.rewriting.specs.Around.{context_of}
use Rattle.rules_algebra.proofs.Ruled.{fuse_map_result, fuse_fold_result, transpose_transpose_result, map_join_result, map_split_result, map_transpose_result, pad_map_result, map_pad_result, let_inline_result, copy_result, reverse_reverse_result, map_reverse_result, map_stride_result, stride_stride_result, stride_layout_result}
use Rattle.rules_algebra.proofs.rule.apply.Goals as goal

pub returns-in-FuseMap-clause-keeps : goal.returns-in-FuseMap-clause-keeps
returns-in-FuseMap-clause-keeps c = fuse_map_result (context_of c.args.context.now) c.args.term c.fuse_map.result c.fuse_map.ensures

pub returns-in-FuseFold-clause-keeps : goal.returns-in-FuseFold-clause-keeps
returns-in-FuseFold-clause-keeps c = fuse_fold_result (context_of c.args.context.now) c.args.term c.fuse_fold.result c.fuse_fold.ensures

pub returns-in-TransposeTranspose-clause-keeps : goal.returns-in-TransposeTranspose-clause-keeps
returns-in-TransposeTranspose-clause-keeps c = transpose_transpose_result (context_of c.args.context.now) c.args.term c.transpose_transpose.result c.transpose_transpose.ensures

pub returns-in-MapJoin-clause-keeps : goal.returns-in-MapJoin-clause-keeps
returns-in-MapJoin-clause-keeps c = map_join_result (context_of c.args.context.now) c.args.term c.map_join.result c.map_join.ensures

pub returns-in-MapSplit-clause-keeps : goal.returns-in-MapSplit-clause-keeps
returns-in-MapSplit-clause-keeps c = map_split_result (context_of c.args.context.now) c.args.term c.map_split.result c.map_split.ensures

pub returns-in-MapTranspose-clause-keeps : goal.returns-in-MapTranspose-clause-keeps
returns-in-MapTranspose-clause-keeps c = map_transpose_result (context_of c.args.context.now) c.args.term c.map_transpose.result c.map_transpose.ensures

pub returns-in-PadMap-clause-keeps : goal.returns-in-PadMap-clause-keeps
returns-in-PadMap-clause-keeps c = pad_map_result (context_of c.args.context.now) c.args.term c.pad_map.result c.pad_map.ensures

pub returns-in-MapPad-clause-keeps : goal.returns-in-MapPad-clause-keeps
returns-in-MapPad-clause-keeps c = map_pad_result (context_of c.args.context.now) c.args.term c.map_pad.result c.map_pad.ensures

pub returns-in-LetInline-clause-keeps : goal.returns-in-LetInline-clause-keeps
returns-in-LetInline-clause-keeps c = let_inline_result (context_of c.args.context.now) c.args.term c.let_inline.result c.let_inline.ensures

pub returns-in-Copy-clause-keeps : goal.returns-in-Copy-clause-keeps
returns-in-Copy-clause-keeps c = copy_result (context_of c.args.context.now) c.args.term c.copy.result c.copy.ensures

pub returns-in-ReverseReverse-clause-keeps : goal.returns-in-ReverseReverse-clause-keeps
returns-in-ReverseReverse-clause-keeps c = reverse_reverse_result (context_of c.args.context.now) c.args.term c.reverse_reverse.result c.reverse_reverse.ensures

pub returns-in-MapReverse-clause-keeps : goal.returns-in-MapReverse-clause-keeps
returns-in-MapReverse-clause-keeps c = map_reverse_result (context_of c.args.context.now) c.args.term c.map_reverse.result c.map_reverse.ensures

pub returns-in-MapStride-clause-keeps : goal.returns-in-MapStride-clause-keeps
returns-in-MapStride-clause-keeps c = map_stride_result (context_of c.args.context.now) c.args.term c.map_stride.result c.map_stride.ensures

pub returns-in-StrideStride-clause-keeps : goal.returns-in-StrideStride-clause-keeps
returns-in-StrideStride-clause-keeps c = stride_stride_result (context_of c.args.context.now) c.args.term c.stride_stride.result c.stride_stride.ensures

pub returns-in-StrideLayout-clause-keeps : goal.returns-in-StrideLayout-clause-keeps
returns-in-StrideLayout-clause-keeps c = stride_layout_result (context_of c.args.context.now) c.args.term c.stride_layout.result c.stride_layout.ensures.answer c.stride_layout.ensures.polynomial
