-- What is compiled of the last term of a program and a script.
use Rattle.std.proofs.Common.{◌≡◌, ◌∙◌, List, ℕ, [], Result, Ok, Option, ap, length, map, subst, sym, inl, inr}
use Rattle.kernel_tree.specs.Code.{Kernel}
use Rattle.kernel_tree.specs.KernelText.{IsKernelText, lift}
use Rattle.kernel_tree.specs.Launch.{Launch, Cells}
use Rattle.lift_tree.specs.Annotations.{annotation_of, type_in}
use Rattle.lift_tree.specs.Launches.{Asks, lists_of}
use Rattle.lift_tree.specs.Meaning.{World, meaning}
use Rattle.lift_tree.specs.Programs.{PlainProgram, program_of}
use Rattle.lift_tree.specs.Tree.{tree_of}
use Rattle.lift_tree.specs.Types.{PlainTy}
use Rattle.lift_tree.specs.Typing.{IsAdmissible, declared_by}
use Rattle.lift_tree.specs.Values.{Value}
use Rattle.lift_tree.specs.declared.typed.Typed.{Typed}
use Rattle.lowered_tree.specs.Kinds.{asks_of}
use Rattle.printed_form.specs.Headline.{EveryRunKeeps}
use Rattle.printed_form.specs.Programs.{AreBuffersOf, IsLaunchOf, cell_owner}
use Rattle.rewriting.specs.Keeps.{Keeps}
use Rattle.strategy_script.specs.LocalSize.{local_fixed}
use Rattle.strategy_script.specs.Steps.{State, state_of}
use Rattle.fault_lines.specs.declared.refusal.Refusal.{Refusal}
use Rattle.program_source.specs.Program.{OnProgram, StopsFor, source_value}
use Rattle.program_source.specs.SourceTerms.{IsLastTerm}
use Rattle.program_source.specs.Terms.{LastOf, TermsOf}
use Rattle.stages.specs.Stages.{Then}
use Rattle.nest_premises.specs.Laws.{TermsAskForRows}
use Rattle.kernel_emit.specs.Kernels.{IsKernelFor}
use Rattle.compilation.specs.Compiled.{IsCompiled, ServesAtAll}
use Rattle.compilation.specs.Legal.{CompilesTerm, IsAccepted, LegalOf}
use Rattle.compilation.specs.Meets.{Admits, CanBeLaidOut, IsTextFor, LeavesSource, MeetsSource, Starts}

-- ---- what is printed for a term that keeps the source's value

module _ (p : PlainProgram) (local : Option (ℕ × ℕ)) (s : State) (k : Kernel) (asking : TermsAskForRows) (accepted : IsAccepted p s.tree s.types) (for : IsKernelFor (declared_by p) local s.tree s.types k) (kept : Keeps (declared_by p) [] p.body s.tree) where
  same_value : (w : World) → IsAdmissible (declared_by p) w → meaning w [] s.tree ≡ source_value p w
  same_value w ok = kept.value w [] ok (λ n a e. absurd (cc (e)))

  module _ (w : World) (l : Launch) (c : Cells) (a : Admits p (type_in s.types) (asks_of local s.tree) w l c) where
    launch_of : IsLaunchOf (declared_by p) (asks_of local s.tree) w.bases s.tree s.types l
    launch_of = record {
      admissible = a.launch;
      sizes = a.sizes ∙ a.world.sizes;
      asked = asking (declared_by p) s.tree s.types local accepted.legal accepted.copies;
    }

    cells_of : AreBuffersOf (declared_by p) w s.tree s.types c
    cells_of = record { inputs = a.inputs; outputs = a.outputs ∙ ap (λ (v : Value). map length (lists_of (type_in s.types) v)) (sym (same_value w a.world)) }

  pub starts : Starts p (type_in s.types) (asks_of local s.tree) k
  starts w l c a = for.starts w l c a.world (launch_of w l c a) (cells_of w l c a)

  pub meets : MeetsSource p (type_in s.types) local s k
  meets w l c a =
      subst (λ (v : Value). EveryRunKeeps k l c (cell_owner (declared_by p).names w.bases l s.tree s.types) (lists_of (type_in s.types) v)) (same_value w a.world)
      (for.keeps w l c a.world (launch_of w l c a) (cells_of w l c a))

  pub serve : ServesAtAll p (type_in s.types) local s k
  serve w l c a = for.serve w l c a.world (launch_of w l c a) (cells_of w l c a)

-- a kernel that meets its source leaves its value
pub leaves : (p : PlainProgram) (output : PlainTy) (local : Option (ℕ × ℕ)) (s : State) (k : Kernel) → MeetsSource p output local s k → LeavesSource p output (asks_of local s.tree) k
leaves p output local s k meets w l c a start es begins is = (meets w l c a start es begins is).leaves

-- ---- what is compiled of the last term

pub compiled_found : (program script : List ℕ) (t : Typed) (output : PlainTy) (asks : Asks) (local : Option (ℕ × ℕ)) (text : List ℕ) (k : Kernel) → output ≡ type_in (annotation_of t.types)
    → asks ≡ asks_of local (tree_of t.term) → TermsAskForRows → IsLastTerm program script t → local ≡ local_fixed script → CompilesTerm local (state_of t) (Ok (state_of t)) → IsAccepted (program_of t.program) (tree_of t.term) (annotation_of t.types)
    → IsKernelFor (declared_by (program_of t.program)) local (tree_of t.term) (annotation_of t.types) k → IsKernelText lift text k → IsCompiled program script (program_of t.program) output asks text
compiled_found program script t output asks local text k same asked asking last fixed compiles accepted for written =
    let p = program_of t.program in
    let own : IsKernelFor (declared_by p) (local_fixed script) (tree_of t.term) (annotation_of t.types) k =
    subst (λ (o : Option (ℕ × ℕ)). IsKernelFor (declared_by p) o (tree_of t.term) (annotation_of t.types) k) fixed for in
    subst (λ (a : PlainTy). IsCompiled program script p a asks text) (sym same)
    (record {
      read = last.read;
      typed = last.output;
      last = state_of t;
      legal = (last.terms, last.made, (state_of t, last.is_last, subst (λ (o : Option (ℕ × ℕ)). CompilesTerm o (state_of t) (Ok (state_of t))) fixed compiles));
      accepted = accepted;
      asked = ap (λ (o : Option (ℕ × ℕ)). asks_of o (tree_of t.term)) (sym fixed) ∙ sym asked;
      keeps = last.term.keeps;
      kernel = k;
      written = written;
      prints = own.prints;
      parameters = own.parameters;
      memory = own.memory;
      starts = starts p (local_fixed script) (state_of t) k asking accepted own last.term.keeps;
      meets = meets p (local_fixed script) (state_of t) k asking accepted own last.term.keeps;
      serve = serve p (local_fixed script) (state_of t) k asking accepted own last.term.keeps;
      tidy = own.tidy;
    })

-- what a type keeps of it
pub text_for : (program script : List ℕ) (t : Typed) (output : PlainTy) (asks : Asks) (local : Option (ℕ × ℕ)) (text : List ℕ) (k : Kernel) → output ≡ type_in (annotation_of t.types)
    → asks ≡ asks_of local (tree_of t.term) → TermsAskForRows → IsLastTerm program script t → IsAccepted (program_of t.program) (tree_of t.term) (annotation_of t.types) → CanBeLaidOut (declared_by (program_of t.program)).names (type_in (annotation_of t.types))
    → IsKernelFor (declared_by (program_of t.program)) local (tree_of t.term) (annotation_of t.types) k → IsKernelText lift text k
    → IsTextFor (program_of t.program) output asks text
text_for program script t output asks local text k same asked asking last accepted laid_out for written =
    let p = program_of t.program in
    subst (λ (b : Asks). IsTextFor p output b text) (sym asked)
    (subst (λ (a : PlainTy). IsTextFor p a (asks_of local (tree_of t.term)) text) (sym same)
    (record {
      typed = last.output;
      laid_out = laid_out;
      kernel = k;
      written = written;
      starts = starts p local (state_of t) k asking accepted for last.term.keeps;
      leaves = leaves p (type_in (annotation_of t.types)) local (state_of t) k (meets p local (state_of t) k asking accepted for last.term.keeps);
    }))

-- ---- why nothing is compiled

-- what stops the terms stops what is made of them
pub stopped_before : {A : Type 0} (S : PlainProgram → List State → Result A Refusal → Type 0) (program script : List ℕ) (why : Refusal) → StopsFor (OnProgram program (λ p. TermsOf p script)) why
    → StopsFor (OnProgram program (λ p. Then (TermsOf p script) (S p))) why
stopped_before S program script why (inl memory) = inl memory
stopped_before S program script why (inr (inl h)) = inr (inl h)
stopped_before S program script why (inr (inr (p, read, h))) = inr (inr (p, read, inl h))

-- so does what stops behind the last of them
pub stopped_behind : {A : Type 0} (S : PlainProgram → State → Result A Refusal → Type 0) (program script : List ℕ) (t : Typed) (why : Refusal) → IsLastTerm program script t
    → StopsFor (S (program_of t.program) (state_of t)) why → StopsFor (OnProgram program (λ p. Then (TermsOf p script) (λ terms. Then (LastOf terms) (S p)))) why
stopped_behind S program script t why last (inl memory) = inl memory
stopped_behind S program script t why last (inr h) =
    inr (inr (program_of t.program, last.read, inr (last.terms, last.made, inr (state_of t, last.is_last, h))))

pub terms_first : (program script : List ℕ) (why : Refusal) → StopsFor (OnProgram program (λ p. TermsOf p script)) why → StopsFor (OnProgram program (λ p. LegalOf p script)) why
terms_first program script = stopped_before (λ p terms. Then (LastOf terms) (CompilesTerm (local_fixed script))) program script

pub last_stops : (program script : List ℕ) (t : Typed) (why : Refusal) → IsLastTerm program script t → (local : Option (ℕ × ℕ)) → local ≡ local_fixed script
    → StopsFor (CompilesTerm local (state_of t)) why → StopsFor (OnProgram program (λ p. LegalOf p script)) why
last_stops program script t why last local fixed stops =
    stopped_behind (λ p. CompilesTerm (local_fixed script)) program script t why last (subst (λ (o : Option (ℕ × ℕ)). StopsFor (CompilesTerm o (state_of t)) why) fixed stops)
