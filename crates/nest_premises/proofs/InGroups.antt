-- Lets around parallel maps, and the bodies of maps over a group's items.
use Rattle.std.proofs.Common.{true, ◌∷◌, refl}
use Rattle.std.proofs.lemmas.Bool.{or_right}
use Rattle.nest_premises.specs.Laws.{ItemBodiesStand, LetsAroundMapsBindNoElement}
use Rattle.nest_premises.proofs.Alone.{body_alone}
use Rattle.nest_premises.proofs.Stands.{written_stands}
use Rattle.nest_premises.proofs.Top.{let_of_array}

pub item_bodies_stand : ItemBodiesStand
item_bodies_stand d g s xs b a n m y h o = written_stands d _ (y.0 ∷ g) b m y.4 h.2 o.1 (body_alone d _ (y.0 ∷ g) b m y.4 h.2 (or_right s.in_parallel true refl) refl refl) refl

pub lets_around_maps_bind_no_element : LetsAroundMapsBindNoElement
lets_around_maps_bind_no_element d g s v b a n m y h e = let_of_array d s g v b a n m y.1 h e
