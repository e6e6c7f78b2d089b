use Rattle.std.proofs.Common.{◌≡◌, subst₂}
use Rattle.lift_ir.specs.Terms.{push}
use Rattle.lowering.specs.Terms.{term_of}
use Rattle.term_traffic.specs.Regions.{regions_of}
use Rattle.item_traffic.specs.Places.{choices_in, region_in, regions_in}
use Rattle.item_traffic.proofs.region.+regions.Goals as goal

pub seek-returns-in-LetArray : goal.seek-returns-in-LetArray
seek-returns-in-LetArray t c = rw c.in-LetArray.is (subst₂ (λ v b. region_in c.seek-in-LetArray.result ≡ regions_of (push (regions_of (regions_in c.args.scope.now) (term_of v)) (regions_in c.args.scope.now)) (term_of b) (choices_in c.args.way.now))
    c.deref-in-LetArray.ensures c.deref-in-LetArray-2.ensures c.seek-in-LetArray.ensures)
