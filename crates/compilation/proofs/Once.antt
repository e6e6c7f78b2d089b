-- Compiling comes to one end.
use Rattle.std.proofs.Common.{◌∙◌, ap, ap₂, sym, refl, ℕ, List, [], ◌∷◌, length, Option, Result, Ok, Err}
use Rattle.std.proofs.lemmas.Option.{none-some, same_Some}
use Rattle.strategy_script.specs.LocalSize.{local_fixed}
use Rattle.strategy_script.specs.Steps.{State}
use Rattle.lowered_tree.specs.Nest.{LegalWithoutFault}
use Rattle.thread_mapping.specs.declared.judging.NestNo.TheVariants as nests
use Rattle.buffer_allocation.specs.declared.buffers.AllocNo.TheVariants as allocations
use Rattle.lift_tree.specs.Programs.{PlainProgram}
use Rattle.kernel_sequence.specs.Cut.{Part}
use Rattle.kernel_sequence.specs.declared.no.CutNo.TheVariants as cuts
use Rattle.fault_lines.specs.declared.refusal.Refusal.{Refusal}
use Rattle.fault_lines.specs.declared.refusal.Refusal.TheVariants as told
use Rattle.stages.specs.Stages.{As, Gives, IsOne, Then}
use Rattle.stages.proofs.One.{as_one, gives_one, then_one}
use Rattle.program_source.specs.Laws.{SourcesEndOnce}
use Rattle.program_source.specs.Program.{OnProgram, ReadsProgram}
use Rattle.program_source.specs.Terms.{LastOf, TermsOf}
use Rattle.compilation.specs.Laws.{CompilationEndsOnce, SequencesEndOnce}
use Rattle.compilation.specs.Legal.{BuffersOf, CompilesTerm, LegalOf, NestOf}
use Rattle.compilation.specs.Sequence.{CompilesInTurn, CompilesParts, CutOf, SequenceOf, state_in}

nest_one : LegalWithoutFault → (local : Option (ℕ × ℕ)) (s : State) → IsOne (NestOf local s)
nest_one law local s (Ok x) (Ok y) h k = refl
nest_one law local s (Ok x) (Err (nests.Nest place rule)) h k = absurd (none-some _ (sym ((law local s.tree s.types).1 h) ∙ k))
nest_one law local s (Err (nests.Nest place rule)) (Ok x) h k = absurd (none-some _ (sym ((law local s.tree s.types).1 k) ∙ h))
nest_one law local s (Err (nests.Nest a r)) (Err (nests.Nest b q)) h k = ap (λ x. Err (nests.Nest x.0 x.1)) (same_Some (a, r) (b, q) (sym h ∙ k))
nest_one law local s (Err nests.Memory) r h k = absurd h
nest_one law local s r (Err nests.Memory) h k = absurd k

buffers_one : (s : State) → IsOne (BuffersOf s)
buffers_one s (Ok x) (Ok y) h k = refl
buffers_one s (Ok x) (Err (allocations.Limit w n)) h k = absurd (none-some _ (sym h ∙ k))
buffers_one s (Err (allocations.Limit w n)) (Ok x) h k = absurd (none-some _ (sym k ∙ h))
buffers_one s (Err (allocations.Limit w n)) (Err (allocations.Limit v m)) h k = ap (λ x. Err (allocations.Limit x.0 x.1)) (same_Some (w, n) (v, m) (sym h ∙ k))
buffers_one s (Err allocations.Memory) r h k = absurd h
buffers_one s r (Err allocations.Memory) h k = absurd k

compiles_one : LegalWithoutFault → (local : Option (ℕ × ℕ)) (s : State) → IsOne (CompilesTerm local s)
compiles_one law local s =
    then_one (As told.Nest (NestOf local s)) _ (as_one told.Nest (NestOf local s) (nest_one law local s)) (λ legal _.
    then_one (As told.Alloc (BuffersOf s)) _ (as_one told.Alloc (BuffersOf s) (buffers_one s)) (λ within _. gives_one s))

pub legal_one : SourcesEndOnce → LegalWithoutFault → CompilationEndsOnce
legal_one sources law p script =
    let compiles = CompilesTerm (local_fixed script) in
    then_one (TermsOf p script) (λ terms. Then (LastOf terms) compiles) (sources.terms p script) (λ terms _.
    then_one (LastOf terms) compiles (sources.last terms) (λ last _. compiles_one law (local_fixed script) last))

-- ---- kernels in order

cut_one : (i : ℕ) (s : State) → IsOne (CutOf i s)
cut_one i s (Ok xs) (Ok ys) h k = ap Ok (h.2 ∙ sym k.2)
cut_one i s (Ok xs) (Err (cuts.Nest place rule)) h k = absurd (none-some _ (sym h.0 ∙ k.0))
cut_one i s (Ok xs) (Err (cuts.Limit n)) h k = absurd (none-some _ (sym h.1 ∙ k.1))
cut_one i s (Err (cuts.Nest place rule)) (Ok ys) h k = absurd (none-some _ (sym k.0 ∙ h.0))
cut_one i s (Err (cuts.Nest a r)) (Err (cuts.Nest b q)) h k = ap₂ (λ x y. Err (cuts.Nest x y)) (same_Some a b (sym h.0 ∙ k.0)) (h.1 ∙ sym k.1)
cut_one i s (Err (cuts.Nest place rule)) (Err (cuts.Limit n)) h k = absurd (none-some _ (sym k.0 ∙ h.0))
cut_one i s (Err (cuts.Limit n)) (Ok ys) h k = absurd (none-some _ (sym k.1 ∙ h.1))
cut_one i s (Err (cuts.Limit n)) (Err (cuts.Nest place rule)) h k = absurd (none-some _ (sym h.0 ∙ k.0))
cut_one i s (Err (cuts.Limit n)) (Err (cuts.Limit m)) h k = ap (λ x. Err (cuts.Limit x)) (same_Some n m (sym h.1 ∙ k.1))
cut_one i s (Err cuts.Memory) r h k = absurd h
cut_one i s r (Err cuts.Memory) h k = absurd k

in_turn_one : LegalWithoutFault → (local : Option (ℕ × ℕ)) (xs : List Part) → IsOne (CompilesInTurn local xs)
in_turn_one law local [] = gives_one tt
in_turn_one law local (x ∷ xs) =
    then_one (CompilesTerm local (state_in x)) (λ _. CompilesInTurn local xs) (compiles_one law local (state_in x)) (λ s _. in_turn_one law local xs)

parts_one : LegalWithoutFault → (i : ℕ) (local : Option (ℕ × ℕ)) (s : State) → IsOne (CompilesParts i local s)
parts_one law i local s =
    then_one (As told.Cut (CutOf i s)) (λ parts. Then (CompilesInTurn local parts) (λ _. Gives parts)) (as_one told.Cut (CutOf i s) (cut_one i s)) (λ parts _.
    then_one (CompilesInTurn local parts) (λ _. Gives parts) (in_turn_one law local parts) (λ u _. gives_one parts))

pub sequences_one : SourcesEndOnce → LegalWithoutFault → SequencesEndOnce
sequences_one sources law p script =
    let compiles = CompilesParts (length p.inputs) (local_fixed script) in
    then_one (TermsOf p script) (λ terms. Then (LastOf terms) compiles) (sources.terms p script) (λ terms _.
    then_one (LastOf terms) compiles (sources.last terms) (λ last _. parts_one law (length p.inputs) (local_fixed script) last))

-- ---- a text and a script come to one end

on_program_one : {A : Type 0} → SourcesEndOnce → (S : PlainProgram → Result A Refusal → Type 0) → ((p : PlainProgram) → IsOne (S p)) → (program : List ℕ) → IsOne (OnProgram program S)
on_program_one sources S one program = then_one _ S (as_one told.Program (ReadsProgram program) (sources.read program)) (λ p read. one p)

pub text_one : SourcesEndOnce → CompilationEndsOnce → (program script : List ℕ) → IsOne (OnProgram program (λ p. LegalOf p script))
text_one sources law program script = on_program_one sources (λ p. LegalOf p script) (λ p. law p script) program

pub sequence_text_one : SourcesEndOnce → SequencesEndOnce → (program script : List ℕ) → IsOne (OnProgram program (λ p. SequenceOf p script))
sequence_text_one sources law program script = on_program_one sources (λ p. SequenceOf p script) (λ p. law p script) program
