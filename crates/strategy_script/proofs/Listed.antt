-- The terms of a script, one after another.
use Rattle.std.proofs.Common.{◌≡◌, ℕ, ◌+◌, List, [], ◌∷◌, ◌++◌, length, refl, sym, ap, ◌∙◌, subst, append_assoc, arith}
use Rattle.std.specs.Prelude.{◌≢◌, Result, Ok, Err, map, Option, IfSome}
use Rattle.std.specs.declared.collections.VecDeque.{VecDeque}
use Rattle.std.specs.Global.{Global}
use Rattle.lift_tree.specs.declared.ty.Ty.{Ty}
use Rattle.lift_tree.specs.Types.{ty_of}
use Rattle.std.proofs.lemmas.List.{map-append}
use Rattle.lift_tree.specs.declared.typed.Typed.{Typed}
use Rattle.lift_tree.specs.Lists.{Every}
use Rattle.lift_tree.specs.Programs.{PlainProgram, program_of}
use Rattle.lift_tree.specs.Typing.{declared_by}
use Rattle.lift_tree.specs.Tree.{tree_of}
use Rattle.lift_tree.specs.Annotations.{IsTyped}
use Rattle.pattern_types.specs.Judged.{and_then, AreInputs}
use Rattle.rewriting.specs.Keeps.{Keeps}
use Rattle.rewriting.specs.Laws.{KeepingGoesOn}
use Rattle.strategy_script.specs.declared.script.Step.{Step}
use Rattle.strategy_script.specs.declared.faults.Fault.{Fault}
use Rattle.strategy_script.specs.declared.faults.Fault.TheVariants as fault
use Rattle.strategy_script.specs.declared.faults.StepNo.{StepNo}
use Rattle.strategy_script.specs.declared.faults.StepNo.TheVariants as no
use Rattle.strategy_script.specs.Steps.{State, IsAfter, IsReady, state_of, stepped, refusal_of, at_step, terms_from, terms_of}

pub keeps_itself : (s : Typed) → IsTyped s → IsAfter s s
keeps_itself s h = record { program = refl; typed = h; keeps = record { typed = λ a t. t; copies = λ h. h; value = λ w vs ok all. refl } }

pub after_both : KeepingGoesOn → (a b c : Typed) → IsAfter a b → IsAfter b c → IsAfter a c
after_both goes_on a b c f g =
    let d = declared_by (program_of a.program) in
    let k : Keeps d [] (tree_of b.term) (tree_of c.term) = subst (λ (p : PlainProgram). Keeps (declared_by p) [] (tree_of b.term) (tree_of c.term)) f.program g.keeps in
    record { program = g.program ∙ f.program; typed = g.typed; keeps = goes_on d [] (tree_of a.term) (tree_of b.term) (tree_of c.term) f.keeps k }

pub every_more : (a c : Typed) (bs : List Typed) → Every (IsAfter a) bs → IsAfter a c → Every (IsAfter a) (bs ++ c ∷ [])
every_more a c [] h k = (k, tt)
every_more a c (b ∷ bs) h k = (h.0, every_more a c bs h.1 k)

-- ---- the types of the inputs, where they are known
abbrev pub IsKnown : PlainProgram → Option (VecDeque Ty Global) → Type 0
IsKnown p known = IfSome known (λ inputs. AreInputs p (map ty_of inputs.items))

pub known_at : (source current : Typed) (known : Option (VecDeque Ty Global)) → IsAfter source current → IsKnown (program_of source.program) known → IsKnown (program_of current.program) known
known_at source current known h k = subst (λ (p : PlainProgram). IsKnown p known) (sym h.program) k

pub known_from : (source current : Typed) (known : Option (VecDeque Ty Global)) → IsAfter source current → IsKnown (program_of current.program) known → IsKnown (program_of source.program) known
known_from source current known h k = subst (λ (p : PlainProgram). IsKnown p known) h.program k

-- ---- a script that is being run: so many steps are made, these are left, and these terms stand
--   before the one at hand
pub record IsRunning (p : PlainProgram) (all rest : List Step) (made : ℕ) (source current : Typed) (front : List State) : Type 0 where
  pub whole : terms_of p all (state_of source) ≡ and_then (terms_from p rest made (state_of current)) (λ ts. Ok (front ++ ts))
  pub after : IsAfter source current
  pub ready : IsReady current
  pub counted : made + length rest ≡ length all

alone : (r : Result (List State) StepNo) → r ≡ and_then r (λ ts. Ok ([] ++ ts))
alone (Ok ts) = refl
alone (Err e) = refl

pub begins : (all rest : List Step) (source : Typed) → rest ≡ all → IsReady source → IsRunning (program_of source.program) all rest 0 source source []
begins all rest source e h =
    subst (λ (l : List Step). IsRunning (program_of source.program) all l 0 source source []) (sym e)
    (record { whole = alone _; after = keeps_itself source h.typed; ready = h; counted = omega arith })

-- the terms so far before those to come
behind : (front : List State) (s : State) (r : Result (List State) StepNo) → and_then (and_then r (λ ts. Ok (s ∷ ts))) (λ ts. Ok (front ++ ts)) ≡ and_then r (λ ts. Ok ((front ++ s ∷ []) ++ ts))
behind front s (Ok ts) = ap Ok (sym (append_assoc front (s ∷ []) ts))
behind front s (Err e) = refl

-- what is left of the run, once the next step is tried
onward : (p : PlainProgram) (step : Step) (rest : List Step) (k : ℕ) (s : State) (front : List State) (r : Result State StepNo) → at_step (k + 1) (stepped p step s) ≡ r
    → and_then (terms_from p (step ∷ rest) k s) (λ ts. Ok (front ++ ts)) ≡ and_then (and_then r (λ t. and_then (terms_from p rest (k + 1) t) (λ ts. Ok (s ∷ ts)))) (λ ts. Ok (front ++ ts))
onward p step rest k s front r e = ap (λ (x : Result State StepNo). and_then (and_then x (λ t. and_then (terms_from p rest (k + 1) t) (λ ts. Ok (s ∷ ts)))) (λ ts. Ok (front ++ ts))) e

-- the step at the source's program
same_step : (source current : Typed) (step : Step) (k : ℕ) (r : Result State StepNo) → IsAfter source current
    → at_step k (stepped (program_of current.program) step (state_of current)) ≡ r → at_step k (stepped (program_of source.program) step (state_of current)) ≡ r
same_step source current step k r h e = subst (λ (p : PlainProgram). at_step k (stepped p step (state_of current)) ≡ r) h.program e

pub goes_on : (source current next : Typed) (all rest further : List Step) (step : Step) (k : ℕ) (front : List State) → rest ≡ step ∷ further → IsRunning (program_of source.program) all rest k source current front
    → at_step (k + 1) (stepped (program_of current.program) step (state_of current)) ≡ Ok (state_of next) → ((a : Typed) → IsAfter a current → IsAfter a next) → IsReady next
    → IsRunning (program_of source.program) all further (k + 1) source next (front ++ state_of current ∷ [])
goes_on source current next all rest further step k front is h made after ready =
    let p = program_of source.program in
    let s = state_of current in
    let counted : k + length rest ≡ length all = h.counted in
    let long : length rest ≡ length further + 1 = ap length is ∙ omega arith in
    record {
      whole = h.whole
          ∙ ap (λ (l : List Step). and_then (terms_from p l k s) (λ ts. Ok (front ++ ts))) is
          ∙ onward p step further k s front (Ok (state_of next)) (same_step source current step (k + 1) (Ok (state_of next)) h.after made)
          ∙ behind front s (terms_from p further (k + 1) (state_of next));
      after = after source h.after;
      ready = ready;
      counted = omega (arith, counted, long);
    }

pub ends : (source current : Typed) (all rest : List Step) (k : ℕ) (front : List State) → rest ≡ [] → IsRunning (program_of source.program) all rest k source current front
    → terms_of (program_of source.program) all (state_of source) ≡ Ok (front ++ state_of current ∷ [])
ends source current all rest k front is h = h.whole ∙ ap (λ (l : List Step). and_then (terms_from (program_of source.program) l k (state_of current)) (λ ts. Ok (front ++ ts))) is

pub stops : (source current : Typed) (all rest further : List Step) (step : Step) (k : ℕ) (front : List State) (e : StepNo) → rest ≡ step ∷ further → IsRunning (program_of source.program) all rest k source current front
    → at_step (k + 1) (stepped (program_of current.program) step (state_of current)) ≡ Err e → terms_of (program_of source.program) all (state_of source) ≡ Err e
stops source current all rest further step k front e is h made =
    let p = program_of source.program in
    h.whole
    ∙ ap (λ (l : List Step). and_then (terms_from p l k (state_of current)) (λ ts. Ok (front ++ ts))) is
    ∙ onward p step further k (state_of current) front (Err e) (same_step source current step (k + 1) (Err e) h.after made)

-- the refusal of a step that isn't made
pub refused : (k : ℕ) (r : Result State Fault) (f : Fault) (e : StepNo) → (f ≢ fault.Memory → r ≡ Err f) → e ≡ refusal_of k f → e ≢ no.Memory → at_step k r ≡ Err e
refused k r (fault.Stops why) e h is m = ap (at_step k) (h (λ q. cc)) ∙ ap Err (sym is)
refused k r (fault.Passes l n) e h is m = ap (at_step k) (h (λ q. cc)) ∙ ap Err (sym is)
refused k r fault.Memory e h is m = absurd (m is)

-- ---- the terms so far, in a list
pub record AreMade (p : PlainProgram) (all rest : List Step) (made : ℕ) (source current : Typed) (terms : List Typed) : Type 0 where
  pub running : IsRunning p all rest made source current (map state_of terms)
  pub each : Every (IsAfter source) terms

pub begin_terms : (all rest : List Step) (source : Typed) (terms : List Typed) → terms ≡ [] → rest ≡ all → IsReady source → AreMade (program_of source.program) all rest 0 source source terms
begin_terms all rest source terms none e h =
    subst (λ (ts : List Typed). AreMade (program_of source.program) all rest 0 source source ts) (sym none) (record { running = begins all rest source e h; each = tt })

one_more : (terms more : List Typed) (current : Typed) → more ≡ terms ++ current ∷ [] → map state_of more ≡ map state_of terms ++ state_of current ∷ []
one_more terms more current e = ap (map state_of) e ∙ map-append state_of terms (current ∷ [])

pub more_terms : (source current next : Typed) (all rest further : List Step) (step : Step) (k : ℕ) (terms more : List Typed) → more ≡ terms ++ current ∷ [] → rest ≡ step ∷ further → AreMade (program_of source.program) all rest k source current terms
    → at_step (k + 1) (stepped (program_of current.program) step (state_of current)) ≡ Ok (state_of next) → ((a : Typed) → IsAfter a current → IsAfter a next) → IsReady next
    → AreMade (program_of source.program) all further (k + 1) source next more
more_terms source current next all rest further step k terms more e is h made after ready = record {
  running = subst (IsRunning (program_of source.program) all further (k + 1) source next) (sym (one_more terms more current e))
      (goes_on source current next all rest further step k (map state_of terms) is h.running made after ready);
  each = subst (Every (IsAfter source)) (sym e) (every_more source current terms h.each h.running.after);
}

pub all_terms : (source current : Typed) (all rest : List Step) (k : ℕ) (terms more : List Typed) → more ≡ terms ++ current ∷ [] → rest ≡ [] → AreMade (program_of source.program) all rest k source current terms
    → terms_of (program_of source.program) all (state_of source) ≡ Ok (map state_of more)
all_terms source current all rest k terms more e is h = ends source current all rest k (map state_of terms) is h.running ∙ ap Ok (sym (one_more terms more current e))

pub each_term : (p : PlainProgram) (source current : Typed) (all rest : List Step) (k : ℕ) (terms more : List Typed) → more ≡ terms ++ current ∷ [] → AreMade p all rest k source current terms → Every (IsAfter source) more
each_term p source current all rest k terms more e h = subst (Every (IsAfter source)) (sym e) (every_more source current terms h.each h.running.after)
