use Rattle.std.proofs.Common.{length, subst}
use Rattle.lift_tree.specs.declared.layout.Layout as layout
use Rattle.lift_tree.specs.Belonging.{LayoutIsNamed}
use Rattle.pattern_types.proofs.Named.{named_any}
use Rattle.pattern_types.proofs.rows.layout.Goals as goal

pub product_of-requires : goal.product_of-requires
product_of-requires c = named_any _ _ (subst (λ (l : layout.Layout). LayoutIsNamed (length c.args.names.now) l) c.in-Split.is c.requires)

pub product_of-requires-in-Stride : goal.product_of-requires-in-Stride
product_of-requires-in-Stride c = named_any _ _ (subst (λ (l : layout.Layout). LayoutIsNamed (length c.args.names.now) l) c.in-Stride.is c.requires)
