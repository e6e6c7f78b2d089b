-- A let's value in its body's place, and a map that copies.
use Rattle.std.specs.Prelude.{if◌then◌else◌}
use Rattle.rewriting.specs.declared.refused.Condition.TheVariants.{Array}
use Rattle.rewriting.specs.Answers.{Answer, Becomes, NoShape, NoSide}
use Rattle.rewriting.specs.Around.{Around}
use Rattle.lift_tree.specs.declared.term.MapKind.TheVariants.{Plain}
use Rattle.lift_tree.specs.Tree.{Tree, Variable, Let, Map}
use Rattle.lift_tree.specs.Renumbering.{substitute}
use Rattle.lift_tree.specs.Types.{is_array}
use Rattle.lift_tree.specs.Annotations.{type_in}

-- let x = v in b becomes b with v for x
abbrev pub let_inline : Tree → Answer
let_inline (Let v b) = Becomes (substitute b v)
let_inline _ = NoShape

-- t becomes map(\x. x, t) where t is an array
abbrev pub copy : Around → Tree → Answer
copy a t = if is_array (type_in a.types) then Becomes (Map Plain t (Variable 0)) else NoSide Array
