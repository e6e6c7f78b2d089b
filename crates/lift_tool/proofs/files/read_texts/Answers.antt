use Rattle.std.proofs.Common.{◌≡◌, ◌∙◌, ℕ, List, [], ◌∷◌, ◌++◌, Global, ap, append_assoc, arith, length, map, subst, sym, Option}
use Rattle.std.specs.Prelude.{Vec}
use Rattle.std.specs.Vec.Iter.{into_iter_items}
use Rattle.std.proofs.lemmas.List.{map-append}
use Rattle.fault_lines.specs.Shown.{failure_of}
use Rattle.lift_tool.specs.Files as plain
use Rattle.lift_tool.specs.Files.{AreUnreadFor, AsksFirst, Told}
use Rattle.lift_tool.specs.Request.{file_of}
use Rattle.lift_tool.specs.declared.files.File.{File}
use Rattle.lift_tool.proofs.Reading.{AreRead, handed_on, more_read, next_asked, next_unread, rose_between}
use Rattle.lift_tool.proofs.files.read_texts.Goals as goal

-- what is read, what is being read, and what is still to be
in_parts : (files done before : List File) (file : File) (rest : List File) → files ≡ done ++ before → before ≡ file ∷ rest → map file_of files ≡ map file_of done ++ file_of file ∷ map file_of rest
in_parts files done before file rest is next = ap (map file_of) (is ∙ ap (λ (fs : List File). done ++ fs) next) ∙ map-append file_of done (file ∷ rest)

at_more : (P : List plain.File → List (List ℕ) → Type 0) (files : List File) (file : File) (texts all : List (Vec ℕ Global)) (text : Vec ℕ Global) → all ≡ texts ++ text ∷ []
    → P (map file_of files ++ file_of file ∷ []) (map (λ text. text.items) texts ++ text.items ∷ []) → P (map file_of (files ++ file ∷ [])) (map (λ text. text.items) all)
at_more P files file texts all text is h =
    let first = sym (map-append file_of files (file ∷ [])) in
    let second : map (λ (t : Vec ℕ Global). t.items) texts ++ text.items ∷ [] ≡ map (λ (t : Vec ℕ Global). t.items) all =
    sym (ap (map (λ (t : Vec ℕ Global). t.items)) is ∙ map-append (λ (t : Vec ℕ Global). t.items) texts (text ∷ [])) in
    subst (P (map file_of (files ++ file ∷ []))) second (subst (λ fs. P fs (map (λ (t : Vec ℕ Global). t.items) texts ++ text.items ∷ [])) first h)

pub loop-file-preserved : goal.loop-file-preserved
loop-file-preserved g c =
    let told : Told = g.F.Files.told c.args.files.now in
    let now : Told = g.F.Files.told c.read_file.new.files in
    let read = c.loop-file.invariant.read in
    let step = c.in-Some.ensures.steps in
    let left = c.loop-file.invariant.left in
    let longer = ap length step.0 in
    record {
      read = at_more (λ files texts. AreRead told now (g.F.Files.faults c.args.files.now) (g.F.Files.faults c.read_file.new.files) (g.F.Files.asked c.args.files.now) (g.F.Files.asked c.read_file.new.files) files texts) c.loop-file.yielded c.in-Some.file
          c.loop-file.texts.items c.push.new.self.items c.in_ok-text.text c.in_ok-push.ensures.items
          (more_read told _ now _ _ _ _ _ _ _ _ (file_of c.in-Some.file) read c.in_ok-text.ensures.asks c.in_ok-text.text.items c.in_ok-text.ensures.text c.in_ok-text.ensures.same c.in_ok-text.ensures.later);
      split = c.loop-file.invariant.split ∙ ap (λ (fs : List File). c.loop-file.yielded ++ fs) step.0 ∙ sym (append_assoc c.loop-file.yielded (c.in-Some.file ∷ []) (into_iter_items c.next.new.self));
      left = omega (arith, left, step.1, longer);
    }

pub returns-in_err-text-clause-cause : goal.returns-in_err-text-clause-cause
returns-in_err-text-clause-cause g c =
    let told : Told = g.F.Files.told c.args.files.now in
    let now : Told = g.F.Files.told c.read_file.new.files in
    let rose : List ℕ → Type 0 = rose_between (g.F.Files.faults c.args.files.now) (g.F.Files.faults c.read_file.new.files) in
    let parts = in_parts c.args.wanted.items c.loop-file.yielded _ c.in-Some.file (into_iter_items c.next.new.self) c.loop-file.invariant.split c.in-Some.ensures.steps.0 in
    handed_on (AreUnreadFor told rose (map file_of c.args.wanted.items)) _ _ c.from_residual.ensures.1
    (subst (λ files. AreUnreadFor told rose files (failure_of c.in_err-text.field-0.0)) (sym parts)
    (next_unread told _ now _ _ (g.F.Files.faults c.read_file.new.files) _ _ _ _ _ (file_of c.in-Some.file) c.loop-file.invariant.read c.in_err-text.ensures.asks (map file_of (into_iter_items c.next.new.self)) _ c.in_err-text.ensures.cause))

pub returns-in_err-text-clause-asks : goal.returns-in_err-text-clause-asks
returns-in_err-text-clause-asks g c =
    let now : Told = g.F.Files.told c.read_file.new.files in
    let asked : Option (List plain.File) = g.F.Files.asked c.args.files.now in
    let asked_now : Option (List plain.File) = g.F.Files.asked c.read_file.new.files in
    let parts = in_parts c.args.wanted.items c.loop-file.yielded _ c.in-Some.file (into_iter_items c.next.new.self) c.loop-file.invariant.split c.in-Some.ensures.steps.0 in
    subst (λ files. AsksFirst asked asked_now files) (sym parts)
    (next_asked _ _ now _ _ (g.F.Files.faults c.read_file.new.files) _ _ _ _ _ (file_of c.in-Some.file) c.loop-file.invariant.read c.in_err-text.ensures.asks (map file_of (into_iter_items c.next.new.self)))

pub returns-in_err-push-clause-asks : goal.returns-in_err-push-clause-asks
returns-in_err-push-clause-asks g c =
    let now : Told = g.F.Files.told c.read_file.new.files in
    let asked : Option (List plain.File) = g.F.Files.asked c.args.files.now in
    let asked_now : Option (List plain.File) = g.F.Files.asked c.read_file.new.files in
    let parts = in_parts c.args.wanted.items c.loop-file.yielded _ c.in-Some.file (into_iter_items c.next.new.self) c.loop-file.invariant.split c.in-Some.ensures.steps.0 in
    subst (λ files. AsksFirst asked asked_now files) (sym parts)
    (next_asked _ _ now _ _ (g.F.Files.faults c.read_file.new.files) _ _ _ _ _ (file_of c.in-Some.file) c.loop-file.invariant.read c.in_ok-text.ensures.asks (map file_of (into_iter_items c.next.new.self)))
