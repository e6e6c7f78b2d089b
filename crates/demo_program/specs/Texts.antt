-- The demo's program and script.
use Rattle.std.specs.Prelude.{ℕ, List, codes, ◌++◌}

-- sums of three neighbours
abbrev pub program_text : List ℕ
program_text =
    codes "size N multiple 64 from 64 to 65536; input xs: [u32; N]; "
    ++ codes "output join(map(\\w. reduce(add, 0, w), slide(3, 1, pad(1, 1, xs))))"

-- by tiles of 64 sums, each in a work-group
abbrev pub script_text : List ℕ
script_text =
    codes "at 0.0 tile-slide 64\nat 0 map-join\nat 0.0 fuse-map\n"
    ++ codes "at 0.0.1 let-inline\nat 0.0.1.0.0 local-copy\n"
    ++ codes "at 0.0.1.1 reduce-fold\nat 0.0.1.1 fold-seq\n"
    ++ codes "at 0.0.1 to-lcl\nat 0.0 to-wrg\n"
