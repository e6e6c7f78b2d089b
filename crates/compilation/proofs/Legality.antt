-- Why a lowered term isn't compiled, and what is known of one that is.
use Rattle.std.proofs.Common.{arith, ◌≡◌, ℕ, Option, None, Some, Ok, Err, Result, inl, inr, refl, subst, sym}
use Rattle.std.specs.Prelude.{IfOk, map}
use Rattle.std.proofs.lemmas.List.{length-map}
use Rattle.lift_tree.specs.Annotations.{annotation_of}
use Rattle.lift_tree.specs.Programs.{PlainInput, PlainProgram, program_of}
use Rattle.lift_tree.specs.Types.{ty_of}
use Rattle.lift_tree.specs.Typing.{Declared, declared_by}
use Rattle.lift_tree.specs.WorkedOut.{worked_out}
use Rattle.lift_tree.proofs.Fitting.{limits_fit}
use Rattle.lift_tree.specs.Tree.{tree_of}
use Rattle.lift_tree.specs.declared.typed.Typed.{Typed}
use Rattle.strategy_script.specs.Steps.{State, state_of}
use Rattle.lowered_tree.specs.Named.{declared_of}
use Rattle.lowered_tree.specs.Nest.{IsLegalNest, IsLegalWith, LegalWithoutFault, nest_fault}
use Rattle.lowered_tree.specs.Whole.{IsSoundTerm}
use Rattle.lowered_tree.specs.Words.{FormsHaveWords}
use Rattle.lowered_tree.specs.declared.lowered.Lowered.{Lowered}
use Rattle.nest_premises.specs.Laws.{TermsAskForRows}
use Rattle.nest_premises.specs.Legal.{IsLegalTerm}
use Rattle.sequence_runs.specs.Stages.{AsksForRow}
use Rattle.thread_mapping.specs.Found as nest
use Rattle.thread_mapping.specs.declared.judging.NestNo.{NestNo}
use Rattle.thread_mapping.specs.declared.judging.NestNo.TheVariants as nests
use Rattle.buffer_allocation.specs.Limits as limits
use Rattle.buffer_allocation.specs.declared.buffers.AllocNo.{AllocNo}
use Rattle.buffer_allocation.specs.declared.buffers.AllocNo.TheVariants as allocations
use Rattle.fault_lines.specs.Refusal.{alloc_refused, nest_refused}
use Rattle.fault_lines.specs.declared.refusal.Refusal.{Refusal}
use Rattle.fault_lines.specs.declared.refusal.Refusal.TheVariants as told
use Rattle.program_source.specs.Program.{StopsFor}
use Rattle.stages.specs.Stages.{As}
use Rattle.compilation.specs.Legal.{BuffersOf, CompilesTerm, IsAccepted, IsSoundLowered, IsTypedLast, NestOf, lowered_state}

-- ---- a last term is sound

own_sound : (t : Typed) → IsTypedLast t → FormsHaveWords (tree_of t.term) → IsSoundTerm (declared_by (program_of t.program)) (tree_of t.term) (annotation_of t.types)
own_sound t last words =
    let few = last.few in
    let same = length-map (program_of t.program).inputs (λ (i : PlainInput). worked_out (declared_by (program_of t.program)).names i.ty) in
    record {
      few = omega (arith, few, same);
      first = λ cut. omega (arith, few, same);
      declared = last.declared;
      nodes = last.nodes;
      output = last.output;
      within = limits_fit (program_of t.program) (tree_of t.term) (annotation_of t.types) last.within;
      low = last.low;
      copies = last.copies;
      words = words;
    }

-- a sound term with what it may name
pub sound_as : (d e : Declared) (s r : State) → d ≡ e → s ≡ r → IsSoundTerm d s.tree s.types → IsSoundTerm e r.tree r.types
sound_as d e s r declared state h =
    subst (λ (z : Declared). IsSoundTerm z r.tree r.types) declared (subst (λ (z : State). IsSoundTerm d z.tree z.types) state h)

-- a last term as it is lowered
module _ (t : Typed) (last : IsTypedLast t) {E : Type 0} where
  pub lowered_declared : (r : Result Lowered E) → IfOk r (λ l. l.names ≡ (declared_by (program_of t.program)).names) → IfOk r (λ l. map ty_of l.inputs.items ≡ (declared_by (program_of t.program)).inputs)
      → IfOk r (λ l. declared_of l ≡ declared_by (program_of t.program))
  lowered_declared (Ok l) names inputs = λ i. record { names = names i; inputs = inputs i }
  lowered_declared (Err e) names inputs = tt

  pub lowered_is : (r : Result Lowered E) → IfOk r (λ l. tree_of l.term ≡ tree_of t.term) → IfOk r (λ l. annotation_of l.types ≡ annotation_of t.types) → IfOk r (λ l. lowered_state l ≡ state_of t)
  lowered_is (Ok l) term types = λ i. record { tree = term i; types = types i }
  lowered_is (Err e) term types = tt

  pub lowered_sound : (r : Result Lowered E) → IfOk r (λ l. declared_of l ≡ declared_by (program_of t.program)) → IfOk r (λ l. lowered_state l ≡ state_of t) → IfOk r (λ _. FormsHaveWords (tree_of t.term)) → IfOk r IsSoundLowered
  lowered_sound (Ok l) declared state words =
      sound_as (declared_by (program_of t.program)) (declared_of l) (state_of t) (lowered_state l) (sym declared) (sym state) (own_sound t last words)
  lowered_sound (Err e) declared state words = tt

-- ---- what is known of a legal one

pub legal_term : (d : Declared) (s : State) → IsSoundTerm d s.tree s.types → IsLegalNest s.tree s.types → IsLegalTerm d s.tree s.types
legal_term d s sound legal = record {
  declared = sound.declared;
  nodes = sound.nodes;
  output = sound.output;
  within = sound.within;
  words = sound.words;
  legal = legal;
}

pub accepted_term : (p : PlainProgram) (local : Option (ℕ × ℕ)) (s : State) → IsSoundTerm (declared_by p) s.tree s.types → CompilesTerm local s (Ok s) → IsAccepted p s.tree s.types
accepted_term p local s sound compiled =
    let low = sound.low in
    record {
      legal = legal_term (declared_by p) s sound (compiled.1.nest);
      copies = sound.copies;
      within = compiled.2.1;
      low = omega (arith, low);
    }

-- without a map of rows it asks for one work-item, or for one row
pub asks_for_row : TermsAskForRows → (local : Option (ℕ × ℕ)) (l : Lowered) → IsSoundLowered l → CompilesTerm local (lowered_state l) (Ok (lowered_state l)) → AsksForRow local (declared_of l) (tree_of l.term) (annotation_of l.types)
asks_for_row law local l sound compiled = law (declared_of l) (tree_of l.term) (annotation_of l.types) local (legal_term (declared_of l) (lowered_state l) sound (compiled.1.nest)) sound.copies

-- ---- each stage, over the term as it is handed on

pub legal_nest : LegalWithoutFault → (local kept : Option (ℕ × ℕ)) (l m : Lowered) → kept ≡ local → m ≡ l → nest_fault kept (tree_of m.term) (annotation_of m.types) ≡ None → IsLegalWith local (tree_of l.term) (annotation_of l.types)
legal_nest law local kept l m size same h =
    subst (λ (o : Option (ℕ × ℕ)). IsLegalWith o (tree_of l.term) (annotation_of l.types)) size
    (subst (λ (x : Lowered). IsLegalWith kept (tree_of x.term) (annotation_of x.types)) same ((law kept (tree_of m.term) (annotation_of m.types)).0 h))

pub nest_stops : (local : Option (ℕ × ℕ)) (l : Lowered) (why : NestNo) → nest.Refuses why local (tree_of l.term) (annotation_of l.types) → StopsFor (As told.Nest (NestOf local (lowered_state l))) (nest_refused why)
nest_stops local l (nests.Nest place rule) h = inr (nests.Nest place rule, h, refl)
nest_stops local l nests.Memory h = inl refl

pub within_is : (l m : Lowered) → m ≡ l → limits.passed_limit (tree_of m.term) (annotation_of m.types) ≡ None → limits.passed_limit (tree_of l.term) (annotation_of l.types) ≡ None
within_is l m same h = subst (λ (x : Lowered). limits.passed_limit (tree_of x.term) (annotation_of x.types) ≡ None) same h

pub buffers_stop : (l m : Lowered) (why : AllocNo) → m ≡ l → limits.Refuses why (tree_of m.term) (annotation_of m.types) → StopsFor (As told.Alloc (BuffersOf (lowered_state l))) (alloc_refused why)
buffers_stop l m (allocations.Limit which count) same h =
    inr (allocations.Limit which count, subst (λ (x : Lowered). limits.passed_limit (tree_of x.term) (annotation_of x.types) ≡ Some (which, count)) same h, refl)
buffers_stop l m allocations.Memory same h = inl refl

-- ---- all stages

pub compiles : (local : Option (ℕ × ℕ)) (s : State) → IsLegalWith local s.tree s.types → limits.passed_limit s.tree s.types ≡ None → CompilesTerm local s (Ok s)
compiles local s legal within = (tt, legal, (tt, within, refl))

pub at_nest : (local : Option (ℕ × ℕ)) (s : State) (why : Refusal) → StopsFor (As told.Nest (NestOf local s)) why → StopsFor (CompilesTerm local s) why
at_nest local s why (inl memory) = inl memory
at_nest local s why (inr h) = inr (inl h)

pub at_buffers : (local : Option (ℕ × ℕ)) (s : State) (why : Refusal) → IsLegalWith local s.tree s.types → StopsFor (As told.Alloc (BuffersOf s)) why → StopsFor (CompilesTerm local s) why
at_buffers local s why legal (inl memory) = inl memory
at_buffers local s why legal (inr h) = inr (inr (tt, legal, inl h))
