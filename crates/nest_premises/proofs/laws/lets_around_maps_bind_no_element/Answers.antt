use Rattle.nest_premises.proofs.InGroups.{lets_around_maps_bind_no_element}
use Rattle.nest_premises.proofs.laws.lets_around_maps_bind_no_element.Goals as goal

pub returns : goal.returns
returns c = lets_around_maps_bind_no_element
