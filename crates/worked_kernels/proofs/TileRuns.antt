-- Every run of the worked tiles.
use Rattle.std.proofs.Common.{ℕ, [], ◌∷◌, true, false, refl, arith}
use Rattle.kernel_tree.proofs.Grouping.{whole_in_a_row, flat_in_a_row}
use Rattle.group_phases.specs.Printed.{PhasesKeep, PhasesServe, NeededBarriersKeep}
use Rattle.worked_kernels.specs.Tiles.{tile_kernel, tile_cells, tile_owner, added, tile_list, no_barriers, two_barriers, TilesKeep, TilesServe, AlignedTilesKeep, ExchangedTilesKeep, AreTiles, two_groups, FourKeep, FourExchangedKeep}
use Rattle.worked_kernels.proofs.TilePhases.{itself, phased, printed}
use Rattle.worked_kernels.proofs.TileBarriers.{all_local, aligned_need, exchanged_need}

pub tiles_keep : PhasesKeep ℕ → TilesKeep
tiles_keep keep l tiles xs out rest nb fence h sep =
    keep itself (tile_kernel nb fence) l (tile_cells xs out rest) (tile_owner l) (added nb xs ∷ []) (tile_list l nb tiles xs) fence (phased l tiles xs out rest nb h fence) sep (printed l tiles xs out rest nb h fence)

pub tiles_serve : PhasesServe ℕ → TilesServe
tiles_serve serve l tiles xs out rest nb fence h sep =
    serve itself (tile_kernel nb fence) l (tile_cells xs out rest) (tile_owner l) (added nb xs ∷ []) (tile_list l nb tiles xs) fence (phased l tiles xs out rest nb h fence) sep (printed l tiles xs out rest nb h fence)

pub aligned_keep : NeededBarriersKeep ℕ → AlignedTilesKeep
aligned_keep keep = (
  aligned_need,
  λ l tiles xs out rest h. keep itself (tile_kernel false no_barriers) l (tile_cells xs out rest) (tile_owner l) (added false xs ∷ []) (tile_list l false tiles xs) no_barriers (phased l tiles xs out rest false h no_barriers) (all_local false) aligned_need (printed l tiles xs out rest false h no_barriers),
)

pub exchanged_keep : NeededBarriersKeep ℕ → ExchangedTilesKeep
exchanged_keep keep = (
  exchanged_need,
  λ l tiles xs out rest h. keep itself (tile_kernel true two_barriers) l (tile_cells xs out rest) (tile_owner l) (added true xs ∷ []) (tile_list l true tiles xs) two_barriers (phased l tiles xs out rest true h two_barriers) (all_local true) exchanged_need (printed l tiles xs out rest true h two_barriers),
)

four : (a b c d : ℕ) → AreTiles two_groups 2 (1 ∷ 2 ∷ 3 ∷ 4 ∷ []) (a ∷ b ∷ c ∷ d ∷ [])
four a b c d = record {
  whole = whole_in_a_row 4 2 (4 ∷ []) (record { positive = omega arith; divides = refl });
  flat = flat_in_a_row 4 2 (4 ∷ []);
  some_items = omega arith;
  small_groups = omega arith;
  few_items = omega arith;
  short = omega arith;
  sizes = refl;
  long = refl;
  out_long = refl;
}

pub four_keep : NeededBarriersKeep ℕ → FourKeep
four_keep keep a b c d rest = (aligned_keep keep).1 two_groups 2 (1 ∷ 2 ∷ 3 ∷ 4 ∷ []) (a ∷ b ∷ c ∷ d ∷ []) rest (four a b c d)

pub four_exchanged_keep : NeededBarriersKeep ℕ → FourExchangedKeep
four_exchanged_keep keep a b c d rest = (exchanged_keep keep).1 two_groups 2 (1 ∷ 2 ∷ 3 ∷ 4 ∷ []) (a ∷ b ∷ c ∷ d ∷ []) rest (four a b c d)
