-- A text is one script, or refused for one cause.
use Rattle.std.proofs.Common.{◌≡◌, ◌⊎◌, ◌∙◌, ◌<◌, ◌≤◌, ℕ, List, ap, sym, subst, length, inl, inr, refl, arith, Result, Ok, Err}
use Rattle.std.specs.Prelude.{IfErr, IfOk}
use Rattle.std.specs.Result.{IsErrAnd}
use Rattle.strategy_script.specs.Laws.{ScriptsEndOnce}
use Rattle.strategy_script.specs.ScriptText.{IsScript, ReadsScript, RefusesScript}
use Rattle.strategy_script.specs.declared.script.ScriptLimit.TheVariants as limits
use Rattle.strategy_script.specs.declared.script.ScriptNo.{ScriptNo}
use Rattle.strategy_script.specs.declared.script.ScriptNo.TheVariants as scripts
use Rattle.strategy_script.specs.Scripts.{PlainScript}

pub scripts_one : ScriptsEndOnce
scripts_one text (Ok m) (Ok n) h k = ap Ok (h.0.found ∙ sym k.0.found)
scripts_one text (Ok m) (Err (scripts.Syntax line)) h k = let all = h.0.all in let there = k.there in absurd (omega (arith, all, there))
scripts_one text (Ok m) (Err (scripts.Limit limits.Steps count)) h k =
    let one = ap (λ m. length m.steps) h.0.found in let above = k.above in let counted = k.counted in let few = h.1 in absurd (omega (arith, one, above, counted, few))
scripts_one text (Err (scripts.Syntax line)) (Ok n) h k = let all = k.0.all in let there = h.there in absurd (omega (arith, all, there))
scripts_one text (Err (scripts.Syntax a)) (Err (scripts.Syntax b)) h k = ap (λ n. Err (scripts.Syntax n)) (h.counted ∙ sym k.counted)
scripts_one text (Err (scripts.Syntax a)) (Err (scripts.Limit limits.Steps b)) h k = let there = h.there in let all = k.script.all in absurd (omega (arith, there, all))
scripts_one text (Err (scripts.Limit limits.Steps count)) (Ok n) h k =
    let one = ap (λ m. length m.steps) k.0.found in let above = h.above in let counted = h.counted in let few = k.1 in absurd (omega (arith, one, above, counted, few))
scripts_one text (Err (scripts.Limit limits.Steps a)) (Err (scripts.Syntax b)) h k = let there = k.there in let all = h.script.all in absurd (omega (arith, there, all))
scripts_one text (Err (scripts.Limit limits.Steps a)) (Err (scripts.Limit limits.Steps b)) h k = ap (λ n. Err (scripts.Limit limits.Steps n)) (h.counted ∙ sym k.counted)
scripts_one text (Err scripts.Memory) r h k = absurd h
scripts_one text r (Err scripts.Memory) h k = absurd k

same_cause : (text : List ℕ) (e f : ScriptNo) → ReadsScript text (Err e) → ReadsScript text (Err f) → e ≡ f
same_cause text e f h k = let one = scripts_one text (Err e) (Err f) h k in cc (one)

-- a refusal is for the one cause that there is, or for want of memory
refused_once : (text : List ℕ) (e why : ScriptNo) → RefusesScript text e → ReadsScript text (Err why) → (e ≡ why) ⊎ (e ≡ scripts.Memory)
refused_once text (scripts.Syntax line) why h k = inl (same_cause text (scripts.Syntax line) why h k)
refused_once text (scripts.Limit which count) why h k = inl (same_cause text (scripts.Limit which count) why h k)
refused_once text scripts.Memory why h k = inr refl

-- so is one that is handed on
pub handed_once : {T : Type 0} (text : List ℕ) (r : Result T ScriptNo) (e why : ScriptNo) → IsErrAnd r (λ x. x ≡ e) → RefusesScript text e → ReadsScript text (Err why) → IsErrAnd r (λ x. (x ≡ why) ⊎ (x ≡ scripts.Memory))
handed_once text (Ok v) e why same h k = absurd same
handed_once text (Err x) e why same h k = subst (λ y. (y ≡ why) ⊎ (y ≡ scripts.Memory)) (sym same) (refused_once text e why h k)

-- the script of a text's local size and steps is refused just where these are too many
pub counted_once : (text : List ℕ) (script : PlainScript) (r : Result PlainScript ScriptNo) → IsScript text script
    → IfOk r (λ found. (found.local ≡ script.local) × (found.steps ≡ script.steps) × (length script.steps ≤ 256))
    → IfErr r (λ e. (e ≡ scripts.Limit limits.Steps (length script.steps)) × (256 < length script.steps))
    → (why : ScriptNo) → ReadsScript text (Err why) → IsErrAnd r (λ e. (e ≡ why) ⊎ (e ≡ scripts.Memory))
counted_once text script (Ok found) is ok err why cause =
    let one = scripts_one text (Ok script) (Err why) (is, ok.2) cause in absurd (cc (one))
counted_once text script (Err e) is ok err why cause =
    let many : ReadsScript text (Err (scripts.Limit limits.Steps (length script.steps))) =
    record { script = record { all = is.all; found = refl }; counted = ap (λ m. length m.steps) is.found; above = err.1 } in
    inl (err.0 ∙ same_cause text _ why many cause)
