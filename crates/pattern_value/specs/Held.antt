-- What the evaluation holds: values that are owned or lent, and those of binders.
use Rattle.std.specs.Prelude.{List, [], ◌∷◌}
use Rattle.lift_tree.specs.Values.{Value, value_of}
use Rattle.pattern_value.specs.declared.lent.Held.{Held}
use Rattle.pattern_value.specs.declared.lent.Held.TheVariants as lent
use Rattle.pattern_value.specs.declared.scope.Scope.{Scope}
use Rattle.pattern_value.specs.declared.scope.Scope as scope

-- a value, whoever owns it
abbrev pub held : Held → Value
held (lent.Owned v) = value_of v
held (lent.Lent v) = value_of v.now

-- the values of binders, the nearest first
abbrev pub values_in : Scope → List Value
values_in scope.Empty = []
values_in (scope.Bound' v p farther) = value_of v.now ∷ values_in farther
