-- Files in memory.
use Rattle.std.specs.Prelude.{◌≡◌, ◌⊎◌, ℕ, List, Contains, Option, None, Result, Ok, Err, string_bytes, find, map, option_map}
use Rattle.std.specs.Str.{bytes_eq}
use Rattle.lift_io.specs.Asked.{Asked}
use Rattle.lift_io.specs.Causes.{one_more}
use Rattle.lift_io.specs.declared.files.ReadNo.{ReadNo}
use Rattle.lift_io.specs.declared.files.ReadNo.TheVariants.{Failed, TooLong, Memory}
use Rattle.lift_io.specs.declared.memory_files.AskedText.{AskedText}
use Rattle.lift_io.specs.declared.memory_files.NamedText.{NamedText}
use Rattle.lift_io.specs.declared.memory_files.MemoryFiles.{MemoryFiles}

-- the text under a name: that of the first with it
abbrev pub text_under_name : List NamedText → List ℕ → Option (List ℕ)
text_under_name texts name =
    option_map (λ t. t.text.items) (find (λ t. bytes_eq (string_bytes t.name) name) texts)

-- a read that was asked for, as it is kept
abbrev pub asked_of : AskedText → Asked
asked_of asked = (string_bytes asked.name, asked.limit)

-- the reads asked for so far, while memory for them lasts
abbrev pub reads_asked : MemoryFiles → Option (List Asked)
reads_asked files = option_map (λ reads. map asked_of reads.items) files.asked

-- the next read of this name fails: its number is listed, or there is no text of that name
abbrev pub NextFails : MemoryFiles → List ℕ → Type 0
NextFails files name =
    Contains files.failing.items (one_more files.calls)
    ⊎ (text_under_name files.texts.items name ≡ None)

-- the count of faults after a read with this result: just a failure is a fault
abbrev pub faults_after : {T : Type 0} → ℕ → Result T ReadNo → ℕ
faults_after before (Ok text) = before
faults_after before (Err Failed) = one_more before
faults_after before (Err (TooLong count)) = before
faults_after before (Err Memory) = before
