use Rattle.std.proofs.Common.{◌≡◌, ◌&&◌, refl, true, false, Bool}
use Rattle.command_line.proofs.matched_by.Goals as goal

first_true : (a b : Bool) → (a && b) ≡ true → a ≡ true
first_true true b h = refl
first_true false b h = h

pub returns-clause-rows : goal.returns-clause-rows
returns-clause-rows c = (c.in_ok-try_get_matches_from.ensures.matches (first_true _ _ c.requires.simple)).1
