-- Terms whose copies are of arrays, as terms have them.
pub use Rattle.lift_tree.specs.Copies.{CopiesArrays}
