-- The code's owed list as a plain one.
use Rattle.std.specs.Prelude.{List, map}
use Rattle.readings.specs.declared.owed.Owed.{Owed}
use Rattle.readings.specs.declared.owed.Owed.TheVariants as owed
use Rattle.readings.specs.Readings as readings

-- what is owed, with plain tokens, forms and marks
abbrev pub item_of : {A B C T F M : Type 0} → (A → T) → (B → F) → (C → M) → Owed A B C
    → readings.Owed T F M
item_of token form mark (owed.Token t) = readings.Token (token t)
item_of token form mark (owed.Form f) = readings.Form (form f)
item_of token form mark (owed.Mark m) = readings.Mark (mark m)

-- all that is owed, with plain tokens, forms and marks
abbrev pub items_of : {A B C T F M : Type 0} → (A → T) → (B → F) → (C → M) → List (Owed A B C)
    → List (readings.Owed T F M)
items_of token form mark items = map (item_of token form mark) items
