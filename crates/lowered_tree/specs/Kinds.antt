-- Who does a map's work.
use Rattle.std.specs.Prelude.{ℕ, Bool, true, false, not, ◌&&◌, ◌||◌, Option}
use Rattle.lift_tree.specs.declared.term.MapKind.{MapKind}
use Rattle.lift_tree.specs.declared.term.MapKind.TheVariants.{Plain, Over, Sequential}
use Rattle.lift_tree.specs.declared.term.Level.{Level}
use Rattle.lift_tree.specs.declared.term.Level.TheVariants.{Launch, Groups, Items}
use Rattle.lift_tree.specs.declared.term.Dimension.TheVariants.{X, Y}
use Rattle.lift_tree.specs.Launches.{Asks}
use Rattle.lift_tree.specs.Tree.{Tree, Variable, Number, Input, Unary, Binary, Select, Let, Map, Fold}

-- they are one level
abbrev pub same_level : Level → Level → Bool
same_level Launch Launch = true
same_level Launch Groups = false
same_level Launch Items = false
same_level Groups Launch = false
same_level Groups Groups = true
same_level Groups Items = false
same_level Items Launch = false
same_level Items Groups = false
same_level Items Items = true

-- over this, along either dimension
abbrev pub is_of_level : Level → MapKind → Bool
is_of_level l Plain = false
is_of_level l (Over m d) = same_level m l
is_of_level l Sequential = false

-- over the work-items of all groups
abbrev pub is_global : MapKind → Bool
is_global = is_of_level Launch

-- over the work-groups
abbrev pub is_over_groups : MapKind → Bool
is_over_groups = is_of_level Groups

-- over the work-items of a group
abbrev pub is_local : MapKind → Bool
is_local = is_of_level Items

-- by one work-item
abbrev pub is_sequential : MapKind → Bool
is_sequential Plain = false
is_sequential (Over l d) = false
is_sequential Sequential = true

-- nobody said yet who does its work
abbrev pub is_plain : MapKind → Bool
is_plain Plain = true
is_plain (Over l d) = false
is_plain Sequential = false

-- over work-items or work-groups
abbrev pub is_parallel : MapKind → Bool
is_parallel Plain = false
is_parallel (Over l d) = true
is_parallel Sequential = false

-- along dimension 1
abbrev pub is_over_rows : MapKind → Bool
is_over_rows Plain = false
is_over_rows (Over l X) = false
is_over_rows (Over l Y) = true
is_over_rows Sequential = false

-- of this level along dimension 0
abbrev pub is_along_row : Level → MapKind → Bool
is_along_row l Plain = false
is_along_row l (Over m X) = same_level m l
is_along_row l (Over m Y) = false
is_along_row l Sequential = false

-- no parallel map is in the term
abbrev pub is_task : Tree → Bool
is_task (Variable v) = true
is_task (Number n) = true
is_task (Input i) = true
is_task (Unary f t) = is_task t
is_task (Binary f t u) = is_task t && is_task u
is_task (Select t u v) = is_task t && is_task u && is_task v
is_task (Let v b) = is_task v && is_task b
is_task (Map k xs b) = not (is_parallel k) && is_task xs && is_task b
is_task (Fold k xs s b) = is_task xs && is_task s && is_task b

-- a map along dimension 1 is in the term
abbrev pub has_rows : Tree → Bool
has_rows (Variable v) = false
has_rows (Number n) = false
has_rows (Input i) = false
has_rows (Unary f t) = has_rows t
has_rows (Binary f t u) = has_rows t || has_rows u
has_rows (Select t u v) = has_rows t || has_rows u || has_rows v
has_rows (Let v b) = has_rows v || has_rows b
has_rows (Map k xs b) = is_over_rows k || has_rows xs || has_rows b
has_rows (Fold k xs s b) = has_rows xs || has_rows s || has_rows b

-- what a term asks of a launch, with the local size that its script fixes
abbrev pub asks_of : (local : Option (ℕ × ℕ)) → Tree → Asks
asks_of local t =
    record { alone = is_task t; flat = not (is_task t) && not (has_rows t); local = local }
