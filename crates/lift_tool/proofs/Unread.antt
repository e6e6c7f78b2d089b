-- Why a request has no result, and what answers it.
use Rattle.std.proofs.Common.{◌≡◌, ◌⊎◌, ℕ, List, Global, inl, inr, map, refl, subst, sym, Result, Ok, Err}
use Rattle.std.specs.Prelude.{IfErr, IfOk, Vec}
use Rattle.std.specs.Result.{IsErrAnd}
use Rattle.command_line.specs.Requests.{Asks, CommandLine, IsRefused}
use Rattle.command_line.specs.declared.request.WordsNo.{WordsNo}
use Rattle.command_line.specs.declared.request.WordsNo.TheVariants.{Memory, Refused}
use Rattle.fault_lines.specs.Failure as failures
use Rattle.fault_lines.specs.Failure.{Failure}
use Rattle.fault_lines.specs.declared.failure.Failure as code
use Rattle.fault_lines.specs.Shown.{failure_of, words_failed}
use Rattle.program_runs.specs.Table.{Stops, Writes}
use Rattle.program_runs.specs.declared.command.Command.{Command}
use Rattle.lift_tool.specs.Files.{AreTexts, AreUnreadFor, File, Told}
use Rattle.lift_tool.specs.Outcome.{FailsFor, IsAnswer, WordsCause}
use Rattle.lift_tool.specs.Request.{command_of, files_of}

-- ---- requests

-- a file that isn't read stops the request
pub files_fail : (told : Told) (rose : List ℕ → Type 0) (request : CommandLine) (files : List File) (f : Failure) → files ≡ files_of request → AreUnreadFor told rose files f → FailsFor told rose request f
files_fail told rose request files f is (inl memory) = inl memory
files_fail told rose request files f is (inr h) = elim (subst (λ fs. AreUnreadFor told rose fs f) is (inr h)) [
  | inl memory ↦ inl memory
  | inr stops ↦ inr (inl stops)
]

abbrev pub texts_of : List (Vec ℕ Global) → List (List ℕ)
texts_of texts = map (λ (text : Vec ℕ Global). text.items) texts

module _ (told : Told) (request : CommandLine) (command : Command) (files : List File) (read texts : List (Vec ℕ Global))
    (same : command ≡ command_of request) (named : files ≡ files_of request) (whole : texts ≡ read) (are : AreTexts told files (texts_of read)) where
  its_texts : AreTexts told (files_of request) (texts_of texts)
  its_texts = subst (λ fs. AreTexts told fs (texts_of texts)) named (subst (λ ts. AreTexts told files (texts_of ts)) (sym whole) are)

  -- what the command writes for the texts answers the request
  pub answered : (r : Result (Vec ℕ Global) code.Failure) → IfOk r (λ text. Writes command (texts_of texts) text.items) → IfOk r (λ text. IsAnswer told request text.items)
  answered (Ok text) h = (texts_of texts, its_texts, subst (λ c. Writes c (texts_of texts) text.items) same h)
  answered (Err e) h = tt

  -- what stops the command for the texts stops the request
  pub stopped : (rose : List ℕ → Type 0) (r : Result (Vec ℕ Global) code.Failure) → IfErr r (λ e. (failure_of e ≡ failures.Memory) ⊎ Stops command (texts_of texts) (failure_of e)) → IfErr r (λ e. FailsFor told rose request (failure_of e))
  stopped rose (Ok text) h = tt
  stopped rose (Err e) (inl memory) = inl memory
  stopped rose (Err e) (inr h) = inr (inr (texts_of texts, its_texts, subst (λ c. Stops c (texts_of texts) (failure_of e)) same h))

-- ---- words

pub words_fail : {V : Type 0} (told : Told) (rose : List ℕ → Type 0) (words : List (List ℕ)) (why : WordsNo) (r : Result V code.Failure) → (why ≡ Refused → IsRefused words)
    → IsErrAnd r (λ e. failure_of e ≡ words_failed why) → IfErr r (λ e. WordsCause told rose words (failure_of e))
words_fail told rose words why (Ok v) none is = tt
words_fail told rose words Refused (Err e) none is = inr (inl (is, none refl))
words_fail told rose words Memory (Err e) none is = inl is

-- what fails for the request of words fails for them
pub request_fails : (told : Told) (rose : List ℕ → Type 0) (words : List (List ℕ)) (request : CommandLine) (f : Failure) → Asks words request → FailsFor told rose request f → WordsCause told rose words f
request_fails told rose words request f asks (inl memory) = inl memory
request_fails told rose words request f asks (inr h) = inr (inr (request, asks, h))
