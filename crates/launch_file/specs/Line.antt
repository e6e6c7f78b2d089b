-- The line that tells why bytes are no launch file of a program.
use Rattle.std.specs.Prelude.{ℕ, zero, suc, List, [], ◌∷◌, ◌++◌, ◌==◌, if◌then◌else◌, codes, decimal, map}
use Rattle.lift_tree.specs.Programs.{PlainProgram}
use Rattle.launch_file.specs.declared.line.Detail.{Detail}
use Rattle.launch_file.specs.declared.line.Detail.TheVariants as detail
use Rattle.launch_file.specs.declared.line.Line.{Line}
use Rattle.launch_file.specs.declared.refusal.Key.{Key}
use Rattle.launch_file.specs.declared.refusal.Key.TheVariants as key
use Rattle.launch_file.specs.declared.refusal.LaunchNo.{LaunchNo}
use Rattle.launch_file.specs.declared.refusal.LaunchNo.TheVariants as no

-- the name at this number, or no name behind the last
abbrev pub nth_name : List (List ℕ) → ℕ → List ℕ
nth_name [] n = []
nth_name (name ∷ names) zero = name
nth_name (name ∷ names) (suc n) = nth_name names n

-- the name of the size of this number
abbrev pub size_name : PlainProgram → ℕ → List ℕ
size_name p i = nth_name (map (λ s. s.name) p.sizes) i

-- the name of the input of this number
abbrev pub input_name : PlainProgram → ℕ → List ℕ
input_name p i = nth_name (map (λ x. x.name) p.inputs) i

-- the way to a key from the root of the file, with `.` between
abbrev pub key_text : PlainProgram → Key → List ℕ
key_text p key.Global = codes "global"
key_text p key.Local = codes "local"
key_text p key.Sizes = codes "sizes"
key_text p key.Inputs = codes "inputs"
key_text p key.Schedule = codes "schedule"
key_text p (key.SizeAt i) = codes "sizes." ++ size_name p i
key_text p (key.InputAt i) = codes "inputs." ++ input_name p i
key_text p key.Launches = codes "launches"
key_text p (key.GlobalOf k) = codes "launches." ++ decimal k ++ codes ".global"
key_text p (key.LocalOf k) = codes "launches." ++ decimal k ++ codes ".local"

-- two numbers: the first alone where the second is 1, else a list of both
abbrev pub pair_text : (first second : ℕ) → List ℕ
pair_text first second =
    if second == 1 then decimal first
    else codes "[" ++ decimal first ++ codes "," ++ decimal second ++ codes "]"

-- the line of a refusal
abbrev pub line_of : PlainProgram → LaunchNo → List ℕ
line_of p no.NotJson = codes "lift: launch: not json\n"
line_of p (no.Missing k) = codes "lift: launch: missing " ++ key_text p k ++ codes "\n"
line_of p (no.Size i n) =
    codes "lift: launch: size " ++ size_name p i ++ codes " is " ++ decimal n ++ codes "\n"
line_of p (no.Local g l) =
    codes "lift: launch: global " ++ pair_text g.0 g.1
    ++ codes ", local " ++ pair_text l.0 l.1 ++ codes "\n"
line_of p (no.NotTask g) =
    codes "lift: launch: global " ++ pair_text g.0 g.1 ++ codes " for one item\n"
line_of p (no.NotFlat n) = codes "lift: launch: rows " ++ decimal n ++ codes " for one row\n"
line_of p (no.Shape i) = codes "lift: launch: shape " ++ input_name p i ++ codes "\n"
line_of p no.Memory = codes "lift: memory\n"

-- ---- a line in parts, without its end

-- a name, a number or two of a line, or nothing
abbrev pub detail_text : Detail → List ℕ
detail_text detail.Nothing = []
detail_text (detail.Name name) = name.now
detail_text (detail.Number n) = decimal n
detail_text (detail.Pair first second) = pair_text first second

-- the line that its parts make
abbrev pub line_text : Line → List ℕ
line_text l = l.head.now ++ detail_text l.first ++ l.between.now ++ detail_text l.second
