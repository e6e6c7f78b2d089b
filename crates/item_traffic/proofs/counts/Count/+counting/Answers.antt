use Rattle.std.proofs.Common.{◌≡◌, List, ap, subst}
use Rattle.size_arith.specs.declared.poly.Monomial.{Monomial}
use Rattle.kernel_tree.specs.Launch.{ids_of}
use Rattle.lift_ir.specs.AtLaunch.{length_at}
use Rattle.lowering.specs.Terms.{kind_of, load_set_of, map_of, term_of}
use Rattle.term_traffic.specs.Regions.{all_in}
use Rattle.term_traffic.specs.Traffic.{written_traffic}
use Rattle.launch_lengths.specs.Bases.{bases_of}
use Rattle.item_traffic.specs.Counts.{held, load_of, store_of}
use Rattle.item_traffic.specs.Places.{region_in, regions_in}
use Rattle.item_traffic.proofs.Written.{argument_let, written_let, written_map}
use Rattle.item_traffic.proofs.counts.Count.+counting.Goals as goal

pub argument-returns-in-LetArray : goal.argument-returns-in-LetArray
argument-returns-in-LetArray t c = rw c.in-LetArray.is (argument_let {A = List Monomial} (load_of c.args.self.now.access) (store_of c.args.self.now.access) (length_at (bases_of c.args.self.now.names.now c.args.self.now.launch.now.sizes)) (ids_of c.args.self.now.launch.now c.args.self.now.item) (regions_in c.args.scope.now) (term_of c.in-LetArray.value.value) (term_of c.in-LetArray.body.value) _ _ _ _ _ _
    (ap term_of c.deref.ensures) (ap term_of c.deref-in-LetArray.ensures) (ap term_of c.deref-in-LetArray-2.ensures) c.saturating_add.ensures c.argument-first.ensures c.argument-second.ensures)

pub written-returns-in-LetArray : goal.written-returns-in-LetArray
written-returns-in-LetArray t c = rw c.in-LetArray.is (written_let {A = List Monomial} (load_of c.args.self.now.access) (store_of c.args.self.now.access) (length_at (bases_of c.args.self.now.names.now c.args.self.now.launch.now.sizes)) (ids_of c.args.self.now.launch.now c.args.self.now.item) (regions_in c.args.scope.now) (term_of c.in-LetArray.value.value) (term_of c.in-LetArray.body.value) _ _ _ (all_in (region_in c.args.to)) _ _ _
    (ap term_of c.deref-in-LetArray.ensures) (ap term_of c.deref-in-LetArray-2.ensures) (ap term_of c.deref-in-LetArray-3.ensures) c.saturating_add.ensures c.argument-first.ensures c.written-second.ensures)

pub map-returns : goal.map-returns
map-returns t c = written_map {A = List Monomial} (load_of c.args.self.now.access) (store_of c.args.self.now.access) (length_at (bases_of c.args.self.now.names.now c.args.self.now.launch.now.sizes)) (ids_of c.args.self.now.launch.now c.args.self.now.item) (regions_in c.args.scope.now) (kind_of c.args.map.now.kind) c.args.map.now.length (load_set_of c.args.map.now.loads) (term_of c.args.map.now.array) (term_of c.args.map.now.body) (all_in (region_in c.args.to)) _ _ _ _ _ _ _
    c.saturating_add.ensures c.saturating_mul.ensures c.saturating_add-turn.ensures c.argument-argument.ensures c.turns-turns.ensures c.loads-loads.ensures c.written-body.ensures

pub written-returns-in-Map : goal.written-returns-in-Map
written-returns-in-Map t c = rw c.in-Map.is (subst (λ u. c.map.result ≡ held (written_traffic (load_of c.args.self.now.access) (store_of c.args.self.now.access) (length_at (bases_of c.args.self.now.names.now c.args.self.now.launch.now.sizes)) (ids_of c.args.self.now.launch.now c.args.self.now.item) (regions_in c.args.scope.now) (map_of u) (all_in (region_in c.args.to))))
    c.deref-in-Map.ensures c.map.ensures)
