-- Why calls end as they do: each cause excludes the others, and what is well formed.
use Rattle.std.proofs.Common.{◌≡◌, ◌≢◌, ◌⊎◌, ◌∙◌, ◌<◌, ◌≤◌, ℕ, List, [], ◌∷◌, ap, ap₂, sym, subst, length, inl, inr, refl, arith, Option, None, Some, Err}
use Rattle.std.specs.Prelude.{IfSome, option_map}
use Rattle.std.proofs.lemmas.Option.{same_Some}
use Rattle.command_line.specs.Requests.{Asks, CommandLine, IsRefused, demo, line_entered}
use Rattle.lift_tree.specs.Launches as launches
use Rattle.lift_tree.specs.Programs.{PlainProgram}
use Rattle.lift_reader.specs.declared.refusal.ReadRefusal.TheVariants as readings
use Rattle.pattern_types.specs.declared.refusal.TypeRefusal.TheVariants as typings
use Rattle.strategy_script.specs.declared.faults.StepNo.TheVariants as stops
use Rattle.strategy_script.specs.declared.script.ScriptNo.TheVariants as scripts
use Rattle.kernel_sequence.specs.declared.no.CutNo.TheVariants as cuts
use Rattle.thread_mapping.specs.declared.judging.NestNo.TheVariants as nests
use Rattle.buffer_allocation.specs.declared.buffers.AllocNo.TheVariants as allocations
use Rattle.launch_file.specs.LaunchFile as asks
use Rattle.launch_file.specs.LaunchFile.{IsLaunchFile}
use Rattle.launch_file.specs.Stages.{IsStagesFile}
use Rattle.launch_file.specs.declared.refusal.LaunchNo.{LaunchNo}
use Rattle.launch_file.specs.declared.refusal.LaunchNo.TheVariants as no
use Rattle.fault_lines.specs.Failure.{Failure, Memory, Read, TooLong, launch_failed, line_of, source_failed, status_of}
use Rattle.fault_lines.specs.declared.refusal.Refusal.{Refusal}
use Rattle.fault_lines.specs.declared.refusal.Refusal.TheVariants as told_of
use Rattle.program_source.specs.Ends.{OnSource}
use Rattle.compilation.specs.Sequence.{Outline}
use Rattle.program_runs.specs.Started.{asks_in_order}
use Rattle.program_runs.specs.Table.{StagesEndOnce, Stops, Takes, Writes, stages_of, text_at}
use Rattle.program_runs.specs.declared.command.Command.{Command}
use Rattle.program_runs.specs.declared.command.Command.TheVariants.{Compile, Run, Cost, Eval, Steps, Stages, RunStages, Demo}
use Rattle.lift_tool.specs.Files.{AllTold, AreTexts, File, HasText, IsUnread, NoneRose, StopsAtFile, Told}
use Rattle.lift_tool.specs.Outcome.{Answers, IsAccepted, OnTexts, StopsAtText, StopsFor, WordsCause}
use Rattle.lift_tool.specs.Request.{command_of, files_of}

-- ---- texts

texts_cause : StagesEndOnce → (command : Command) (texts : List (List ℕ)) (f g : Failure) → Stops command texts f → Stops command texts g → f ≡ g
texts_cause law (Demo seed) texts f g h k = absurd h
texts_cause law command texts f g h k = (law command texts).cause f g h k

texts_accepted : StagesEndOnce → (command : Command) (texts : List (List ℕ)) (f : Failure) → Takes command texts → Stops command texts f → ⊥
texts_accepted law (Demo seed) texts f ok h = h
texts_accepted law command texts f ok h = (law command texts).none f ok h

-- what was written was accepted
written_accepted : (command : Command) (texts : List (List ℕ)) (text : List ℕ) → Writes command texts text → Takes command texts
written_accepted Compile texts text h = let c = h.compiled in (h.source, c.read.is, c.read.within, (tt, (c.last, c.legal)))
written_accepted (Run traced) texts text h = let c = h.compiled in (h.source, c.read.is, c.read.within, (tt, (h.given, (c.last, c.legal, subst (λ (a : launches.Asks). IsLaunchFile h.source (asks.Run a) (text_at texts 2) h.given) (sym c.asked) h.launch_file))))
written_accepted (Cost items) texts text h = (h.source, h.read.is, h.read.within, (tt, (h.given, (h.last, h.legal, h.launch_file))))
written_accepted Eval texts text h = (h.source, h.read.is, h.read.within, (tt, (h.given, h.started)))
written_accepted Steps texts text h = (h.source, h.read.is, h.read.within, (tt, (h.terms, h.made)))
written_accepted Stages texts text h = let c = h.compiled in (h.source, c.read.is, c.read.within, (tt, (c.parts, c.compiled)))
written_accepted RunStages texts text h = let c = h.compiled in (h.source, c.read.is, c.read.within, (tt, (h.given, (c.parts, c.compiled, subst (λ (os : List Outline). IsStagesFile h.source (asks_in_order os) (text_at texts 2) h.given) (sym c.outlined) h.launch_file))))
written_accepted (Demo seed) texts text h = tt

-- ---- files

is_text : (o : Option (List ℕ)) (text t : List ℕ) → o ≡ Some t → IfSome o (λ u. text ≡ u) → text ≡ t
is_text o text t is h = subst (λ w. IfSome w (λ u. text ≡ u)) is h

is_long : (o : Option (List ℕ)) (limit : ℕ) (t : List ℕ) → o ≡ Some t → IfSome o (λ u. limit < length u) → limit < length t
is_long o limit t is h = subst (λ w. IfSome w (λ u. limit < length u)) is h

file_read : (told : Told) (rose : List ℕ → Type 0) (file : File) (text t : List ℕ) (f : Failure) → told file.0 ≡ Some t → ¬ rose file.0 → HasText told file text → IsUnread told rose file f → ⊥
file_read told rose file text t (Read name) is well has h = well h.1
file_read told rose file text t (TooLong count) is well has h =
    let same = ap length (is_text (told file.0) text t is has.0) in let long = is_long (told file.0) file.1 t is h.1 in let fits = has.1 in omega (arith, same, long, fits)
file_read told rose file text t _ is well has h = h

file_cause : (told : Told) (rose : List ℕ → Type 0) (file : File) (f g : Failure) → ¬ rose file.0 → IsUnread told rose file f → IsUnread told rose file g → f ≡ g
file_cause told rose file (Read n) g well h k = absurd (well h.1)
file_cause told rose file (TooLong a) (Read n) well h k = absurd (well k.1)
file_cause told rose file (TooLong a) (TooLong b) well h k = ap TooLong (h.0 ∙ sym k.0)
file_cause told rose file (TooLong a) _ well h k = absurd k
file_cause told rose file _ g well h k = absurd h

files_cause : (told : Told) (rose : List ℕ → Type 0) (files : List File) (f g : Failure) → AllTold told files → NoneRose rose files → StopsAtFile told rose files f → StopsAtFile told rose files g → f ≡ g
files_cause told rose [] f g is well h k = absurd h
files_cause told rose (file ∷ files) f g is well (inl h) (inl k) = file_cause told rose file f g well.0 h k
files_cause told rose (file ∷ files) f g is well (inl h) (inr k) = absurd (file_read told rose file k.0 is.0.0 f is.0.1 well.0 k.1 h)
files_cause told rose (file ∷ files) f g is well (inr h) (inl k) = absurd (file_read told rose file h.0 is.0.0 g is.0.1 well.0 h.1 k)
files_cause told rose (file ∷ files) f g is well (inr h) (inr k) = files_cause told rose files f g is.1 well.1 h.2 k.2

files_read : (told : Told) (rose : List ℕ → Type 0) (files : List File) (texts : List (List ℕ)) (f : Failure) → AllTold told files → NoneRose rose files → AreTexts told files texts → StopsAtFile told rose files f → ⊥
files_read told rose [] texts f is well are h = h
files_read told rose (file ∷ files) [] f is well are h = are
files_read told rose (file ∷ files) (text ∷ texts) f is well are (inl h) = file_read told rose file text is.0.0 f is.0.1 well.0 are.0 h
files_read told rose (file ∷ files) (text ∷ texts) f is well are (inr h) = files_read told rose files texts f is.1 well.1 are.1 h.2

-- told files have one list of texts
same_texts : (told : Told) (files : List File) (texts others : List (List ℕ)) → AllTold told files → AreTexts told files texts → AreTexts told files others → others ≡ texts
same_texts told [] [] [] is are too = refl
same_texts told [] (t ∷ ts) others is are too = absurd are
same_texts told [] [] (u ∷ us) is are too = absurd too
same_texts told (file ∷ files) [] others is are too = absurd are
same_texts told (file ∷ files) (t ∷ ts) [] is are too = absurd too
same_texts told (file ∷ files) (t ∷ ts) (u ∷ us) is are too =
    ap₂ (λ x xs. x ∷ xs) (is_text (told file.0) u is.0.0 is.0.1 too.0.0 ∙ sym (is_text (told file.0) t is.0.0 is.0.1 are.0.0)) (same_texts told files ts us is.1 are.1 too.1)

-- ---- requests

request_cause : StagesEndOnce → (told : Told) (rose : List ℕ → Type 0) (request : CommandLine) (f g : Failure) → AllTold told (files_of request) → NoneRose rose (files_of request)
    → StopsFor told rose request f → StopsFor told rose request g → f ≡ g
request_cause law told rose request f g is well (inl h) (inl k) = files_cause told rose (files_of request) f g is well h k
request_cause law told rose request f g is well (inl h) (inr (texts, are, k)) = absurd (files_read told rose (files_of request) texts f is well are h)
request_cause law told rose request f g is well (inr (texts, are, h)) (inl k) = absurd (files_read told rose (files_of request) texts g is well are k)
request_cause law told rose request f g is well (inr (texts, are, h)) (inr (others, too, k)) =
    texts_cause law (command_of request) texts f g h (subst (λ us. StopsAtText request us g) (same_texts told (files_of request) texts others is are too) k)

request_accepted : StagesEndOnce → (told : Told) (rose : List ℕ → Type 0) (request : CommandLine) (texts : List (List ℕ)) (f : Failure) → AllTold told (files_of request) → NoneRose rose (files_of request)
    → AreTexts told (files_of request) texts → IsAccepted request texts → StopsFor told rose request f → ⊥
request_accepted law told rose request texts f is well are ok (inl h) = files_read told rose (files_of request) texts f is well are h
request_accepted law told rose request texts f is well are ok (inr (others, too, h)) =
    texts_accepted law (command_of request) texts f ok (subst (λ us. StopsAtText request us f) (same_texts told (files_of request) texts others is are too) h)

-- ---- words

-- the words ask for one request
pub one_request : (words : List (List ℕ)) (request other : CommandLine) → Asks words request → Asks words other → other ≡ request
one_request words request other asks too = same_Some _ _ (sym too.says ∙ asks.says)

-- words that ask for a request are not refused
pub asked_stands : (words : List (List ℕ)) (line : CommandLine) → Asks words line → IsRefused words → ⊥
asked_stands words line asks (inl untaken) = untaken asks.taken
asked_stands words line asks (inr h) = let e : None ≡ Some line = sym (ap line_entered h.entered ∙ ap (option_map demo) h.none) ∙ asks.says in absurd (cc (e))

-- why words that ask for a request have no result is why the request has none
cause_of : (told : Told) (rose : List ℕ → Type 0) (words : List (List ℕ)) (request : CommandLine) (f : Failure) → Asks words request → WordsCause told rose words f
    → (f ≡ Memory) ⊎ StopsFor told rose request f
cause_of told rose words request f asks (inl memory) = inl memory
cause_of told rose words request f asks (inr (inl (is, refused))) = absurd (asked_stands words request asks refused)
cause_of told rose words request f asks (inr (inr (other, too, h))) = inr (subst (λ q. StopsFor told rose q f) (one_request words request other asks too) h)

-- words that the command refuses have their status, or that of want of memory
pub words_refused : (told : Told) (rose : List ℕ → Type 0) (words : List (List ℕ)) (f : Failure) → WordsCause told rose words f → IsRefused words → (status_of f ≡ 2) ⊎ (status_of f ≡ 13)
words_refused told rose words f (inl memory) refused = inr (ap status_of memory)
words_refused told rose words f (inr (inl (is, none))) refused = inl (ap status_of is)
words_refused told rose words f (inr (inr (request, asks, h))) refused = absurd (asked_stands words request asks refused)

-- the causes of a program, a script and a launch file have statuses of their own
source_status : (r : Refusal) → 6 ≤ status_of (source_failed r)
source_status (told_of.Program readings.Memory) = omega arith
source_status (told_of.Typing typings.Memory) = omega arith
source_status (told_of.Script scripts.Memory) = omega arith
source_status (told_of.Step stops.Memory) = omega arith
source_status (told_of.Cut cuts.Memory) = omega arith
source_status (told_of.Nest nests.Memory) = omega arith
source_status (told_of.Alloc allocations.Memory) = omega arith
source_status told_of.Memory = omega arith
source_status _ = omega arith

launch_refused : (p : PlainProgram) (why : LaunchNo) → 6 ≤ status_of (launch_failed p why)
launch_refused p no.Memory = omega arith
launch_refused p _ = omega arith

-- a failed read has the status 3, and the causes behind the reads have 6 and above
abbrev IsOfRequest : Failure → Type 0
IsOfRequest f = (status_of f ≡ 3) ⊎ (6 ≤ status_of f)

source_is : (f : Failure) (r : Refusal) → f ≡ source_failed r → IsOfRequest f
source_is f r e = inr (subst (λ (x : Failure). 6 ≤ status_of x) (sym e) (source_status r))

launch_is : (f : Failure) (p : PlainProgram) (why : LaunchNo) → f ≡ launch_failed p why → IsOfRequest f
launch_is f p why e = inr (subst (λ (x : Failure). 6 ≤ status_of x) (sym e) (launch_refused p why))

-- so have those of a command's stages on a program
stage_status : (command : Command) (texts : List (List ℕ)) (p : PlainProgram) (f : Failure) → stages_of command texts p (Err f) → IsOfRequest f
stage_status Compile texts p f (why, h, e) = source_is f why e
stage_status (Run traced) texts p f (inl (why, h, e)) = source_is f why e
stage_status (Run traced) texts p f (inr (last, is, (why, h, e))) = launch_is f p why e
stage_status (Cost items) texts p f (inl (why, h, e)) = source_is f why e
stage_status (Cost items) texts p f (inr (last, is, (why, h, e))) = launch_is f p why e
stage_status Eval texts p f (inl (why, h, e)) = source_is f why e
stage_status Eval texts p f (inr (types, is, (why, h, e))) = launch_is f p why e
stage_status Steps texts p f (why, h, e) = source_is f why e
stage_status Stages texts p f (why, h, e) = source_is f why e
stage_status RunStages texts p f (inl (why, h, e)) = source_is f why e
stage_status RunStages texts p f (inr (parts, is, (why, h, e))) = launch_is f p why e
stage_status (Demo seed) texts p f h = absurd (cc (h))

source_stops : (command : Command) (texts : List (List ℕ)) (f : Failure) → OnSource (text_at texts 0) (stages_of command texts) (Err f) → IsOfRequest f
source_stops command texts f (inl (why, h, e)) = source_is f (told_of.Program why) e
source_stops command texts f (inr (p, read, h)) = stage_status command texts p f h

text_status : (command : Command) (texts : List (List ℕ)) (f : Failure) → Stops command texts f → IsOfRequest f
text_status (Demo seed) texts f h = absurd h
text_status command texts f h = source_stops command texts f h

unread_status : (told : Told) (rose : List ℕ → Type 0) (file : File) (f : Failure) → IsUnread told rose file f → IsOfRequest f
unread_status told rose file (Read name) h = inl refl
unread_status told rose file (TooLong count) h = inr (omega arith)
unread_status told rose file _ h = absurd h

file_status : (told : Told) (rose : List ℕ → Type 0) (files : List File) (f : Failure) → StopsAtFile told rose files f → IsOfRequest f
file_status told rose [] f h = absurd h
file_status told rose (file ∷ files) f (inl h) = unread_status told rose file f h
file_status told rose (file ∷ files) f (inr h) = file_status told rose files f h.2

words_status : (told : Told) (rose : List ℕ → Type 0) (words : List (List ℕ)) (f : Failure) → WordsCause told rose words f → (status_of f ≡ 2) ⊎ IsOfRequest f
words_status told rose words f (inl memory) = let s : status_of f ≡ 13 = ap status_of memory in inr (inr (omega (arith, s)))
words_status told rose words f (inr (inl (is, none))) = inl (ap status_of is)
words_status told rose words f (inr (inr (request, asks, inl h))) = inr (file_status told rose (files_of request) f h)
words_status told rose words f (inr (inr (request, asks, inr (texts, are, h)))) = inr (text_status (command_of request) texts f h)

not_2 : (n : ℕ) → (n ≡ 3) ⊎ (6 ≤ n) → n ≢ 2
not_2 n (inl three) e = omega (arith, three, e)
not_2 n (inr more) e = omega (arith, more, e)

-- the status of words that ask for a request isn't that of those that are refused
pub words_taken : (told : Told) (rose : List ℕ → Type 0) (words : List (List ℕ)) (asked : CommandLine) (f : Failure) → WordsCause told rose words f → Asks words asked → status_of f ≢ 2
words_taken told rose words asked f (inl memory) taken e = let s : status_of f ≡ 13 = ap status_of memory in omega (arith, s, e)
words_taken told rose words asked f (inr (inl (is, refused))) taken e = asked_stands words asked taken refused
words_taken told rose words asked f (inr (inr (request, asks, inl h))) taken e = not_2 (status_of f) (file_status told rose (files_of request) f h) e
words_taken told rose words asked f (inr (inr (request, asks, inr (texts, are, h)))) taken e = not_2 (status_of f) (text_status (command_of request) texts f h) e

not_done_or_written : (n : ℕ) → (n ≡ 2) ⊎ ((n ≡ 3) ⊎ (6 ≤ n)) → (n ≢ 0) × (n ≢ 4)
not_done_or_written n (inl two) = (λ e. omega (arith, two, e), λ e. omega (arith, two, e))
not_done_or_written n (inr (inl three)) = (λ e. omega (arith, three, e), λ e. omega (arith, three, e))
not_done_or_written n (inr (inr more)) = (λ e. omega (arith, more, e), λ e. omega (arith, more, e))

-- a call that fails before it writes has another status than one that is done, or one whose write
-- failed
pub words_fail_before : (told : Told) (rose : List ℕ → Type 0) (words : List (List ℕ)) (f : Failure) → WordsCause told rose words f → (status_of f ≢ 0) × (status_of f ≢ 4)
words_fail_before told rose words f h = not_done_or_written (status_of f) (words_status told rose words f h)

-- words for told files that are well formed are refused for want of memory alone
pub words_stand : StagesEndOnce → (told : Told) (rose : List ℕ → Type 0) (words : List (List ℕ)) (request : CommandLine) (texts : List (List ℕ)) (f : Failure)
    → Asks words request → AllTold told (files_of request) → AreTexts told (files_of request) texts → IsAccepted request texts → NoneRose rose (files_of request)
    → WordsCause told rose words f → status_of f ≡ 13
words_stand law told rose words request texts f asks is are ok well h = elim (cause_of told rose words request f asks h) as (λ _. status_of f ≡ 13) [
  | inl memory ↦ ap status_of memory
  | inr stops ↦ absurd (request_accepted law told rose request texts f is well are ok stops)
]

-- where told files stop for a cause, the status and the line are that cause's
pub words_cause : StagesEndOnce → (told : Told) (rose : List ℕ → Type 0) (words : List (List ℕ)) (request : CommandLine) (f g : Failure) (status : ℕ) (Line : List ℕ → Type 0)
    → Asks words request → AllTold told (files_of request) → NoneRose rose (files_of request) → WordsCause told rose words f → StopsFor told rose request g
    → status ≡ status_of f → Line (line_of f) → (status ≡ 13) ⊎ ((status ≡ status_of g) × Line (line_of g))
words_cause law told rose words request f g status Line asks is well h k e line =
    elim (cause_of told rose words request f asks h) as (λ _. (status ≡ 13) ⊎ ((status ≡ status_of g) × Line (line_of g))) [
      | inl memory ↦ inl (e ∙ ap status_of memory)
      | inr stops ↦ (let same = request_cause law told rose request f g is well stops k in inr (e ∙ ap status_of same, subst (λ x. Line (line_of x)) same line))
    ]

-- words that were answered stop for no cause
pub words_answered : StagesEndOnce → (told : Told) (rose : List ℕ → Type 0) (words : List (List ℕ)) (request : CommandLine) (text : List ℕ) (g : Failure)
    → Asks words request → AllTold told (files_of request) → NoneRose rose (files_of request) → OnTexts told words (λ request texts. Answers request texts text) → StopsFor told rose request g → ⊥
words_answered law told rose words request text g asks is well (other, too, (texts, are, h)) k =
    let same = one_request words request other asks too in
    let mine : AreTexts told (files_of request) texts × Answers request texts text = subst (λ q. AreTexts told (files_of q) texts × Answers q texts text) same (are, h) in
    request_accepted law told rose request texts g is well mine.0 (written_accepted (command_of request) texts text mine.1) k

-- a demo has no result for want of memory alone
pub demo_stands : (told : Told) (rose : List ℕ → Type 0) (words : List (List ℕ)) (seed : ℕ) (f : Failure) → Asks words (demo seed) → WordsCause told rose words f → status_of f ≡ 13
demo_stands told rose words seed f asks h = elim (cause_of told rose words (demo seed) f asks h) as (λ _. status_of f ≡ 13) [
  | inl memory ↦ ap status_of memory
  | inr (inl unread) ↦ absurd unread
  | inr (inr (texts, are, stops)) ↦ absurd stops
]
