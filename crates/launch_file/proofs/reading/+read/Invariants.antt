use Rattle.std.proofs.Common.{◌≡◌, ℕ, ◌+◌, ◌*◌, ◌≤◌, List, length}
use Rattle.json.specs.Json.{items, members, value, parse_map}
use Rattle.serde_json.specs.Data.{Data, Members}
use Rattle.serde_json.specs.Read.{of_items, of_members, converted}
use Rattle.serde_json.specs.View.{members_view}
use Rattle.lift_tree.specs.Programs.{program_of}
use Rattle.launch_file.specs.Asked.{AgreeMembers}
use Rattle.launch_file.specs.Tokens.{items_at, members_at}
use Rattle.launch_file.proofs.Pairing.{AgreeEach, items_after}
use Rattle.launch_file.proofs.reading.+read.Given as goal

abbrev pub decreases-read : goal.decreases-read
decreases-read l = 3 * l.depth + 1

abbrev pub decreases-read_from : goal.decreases-read_from
decreases-read_from l = 3 * l.depth

abbrev pub decreases-read_items : goal.decreases-read_items
decreases-read_items l = 3 * l.depth + 2

abbrev pub decreases-read_members : goal.decreases-read_members
decreases-read_members l = 3 * l.depth + 2

abbrev pub invariant-read_items-items : goal.invariant-read_items-items
invariant-read_items-items l =
    (n : ℕ) × (length l.reader ≤ n)
    × ((done : List Data) × (items_at l.depth l.initial.reader ≡ parse_map (items_after done) (converted of_items (items (value l.depth) n l.reader)))
    × AgreeEach (program_of l.program) l.found.items done)
    × (length l.reader ≤ length l.initial.reader)

abbrev pub decreases-read_items-items : goal.decreases-read_items-items
decreases-read_items-items l = length l.reader

abbrev pub invariant-read_members-members : goal.invariant-read_members-members
invariant-read_members-members l =
    (n : ℕ) × (length l.reader ≤ n)
    × ((old : Members) × (members_at l.depth l.initial.reader ≡ converted (λ ms. of_members ms old) (members (value l.depth) n l.reader))
    × AgreeMembers (program_of l.program) (members_view l.found.entries) old)
    × (length l.reader ≤ length l.initial.reader)

abbrev pub decreases-read_members-members : goal.decreases-read_members-members
decreases-read_members-members l = length l.reader
