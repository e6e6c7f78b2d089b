-- The terms of a program and a script.
use Rattle.std.proofs.Common.{Bool, true, false, ◌≡◌, ◌⊎◌, ◌∙◌, ◌+◌, ◌≤◌, ℕ, List, [], ◌∷◌, ◌++◌, map, Ok, Err, Result, refl, sym, ap, subst, inl, inr, arith}
use Rattle.std.specs.Prelude.{if◌then◌else◌, nat_lt}
use Rattle.std.proofs.lemmas.Bool.{ltb-false}
use Rattle.lift_tree.specs.Annotations.{Annotation, IsTyped, annotation_of, type_in}
use Rattle.lift_tree.specs.Belonging.{IsProper}
use Rattle.lift_tree.specs.Limits.{IsWithinLimits}
use Rattle.lift_tree.specs.Lists.{Every}
use Rattle.lift_tree.specs.Programs.{PlainProgram, program_of}
use Rattle.lift_tree.specs.Tree.{Tree, height, nodes, tree_of}
use Rattle.lift_tree.specs.Types.{PlainTy}
use Rattle.lift_tree.specs.Typing.{HasOutput, declared_by}
use Rattle.lift_tree.specs.declared.typed.Typed.{Typed}
use Rattle.lift_tree.proofs.Annotated.{annotated_is_typed}
use Rattle.lift_tree.proofs.Unique.{one_type}
use Rattle.pattern_types.specs.Judged.{and_then, counted, program_judged}
use Rattle.pattern_types.specs.Judgement.{IsJudgement, TypesAreJudged}
use Rattle.pattern_types.specs.declared.refusal.TypeRefusal.{TypeRefusal}
use Rattle.rewriting.specs.Keeps.{Keeps}
use Rattle.strategy_script.specs.ScriptLines.{AreLines}
use Rattle.strategy_script.specs.Steps.{IsAfter, IsLastTerm as IsLast, State, around_whole, at_most, at_step, limited, rewritten, state_of, stepped, terms_from, terms_of, with_types}
use Rattle.strategy_script.specs.declared.faults.Fault.{Fault}
use Rattle.strategy_script.specs.declared.faults.Fault.TheVariants.{Passes}
use Rattle.strategy_script.specs.declared.faults.StepLimit.TheVariants.{Depth, Nodes}
use Rattle.strategy_script.specs.declared.faults.StepNo.{StepNo}
use Rattle.strategy_script.specs.Scripts.{PlainScript}
use Rattle.strategy_script.specs.declared.script.Step.{Step}
use Rattle.program_source.specs.Program.{IsRead, ProgramsAreLow}
use Rattle.program_source.specs.SourceTerms.{AreSourceTerms, IsBegun, IsLastTerm, IsSourceTerm}
use Rattle.program_source.specs.StepsText.{IsStepsText}
use Rattle.program_source.specs.Terms as of_terms
use Rattle.program_source.specs.Terms.{TermsOf, source_of}
use Rattle.program_source.proofs.FewNodes.{few_inputs}

-- ---- the source

pub source_state : (t : Typed) → tree_of t.term ≡ tree_of t.program.body → state_of t ≡ source_of (program_of t.program) (annotation_of t.types)
source_state t whole = λ i. record { tree = whole i; types = annotation_of t.types }

-- the terms of what was typed are those of its source
pub source_made : (t : Typed) (steps : List Step) (r : Result (List State) StepNo) → tree_of t.term ≡ tree_of t.program.body
    → terms_of (program_of t.program) steps (state_of t) ≡ r → terms_of (program_of t.program) steps (source_of (program_of t.program) (annotation_of t.types)) ≡ r
source_made t steps r whole made = ap (terms_of (program_of t.program) steps) (sym (source_state t whole)) ∙ made

each_source : (t : Typed) → tree_of t.term ≡ tree_of t.program.body → (ts : List Typed) → Every (IsAfter t) ts → Every (IsSourceTerm (program_of t.program)) ts
each_source t whole [] h = tt
each_source t whole (u ∷ us) h =
    (record { program = h.0.program; typed = h.0.typed; keeps = subst (λ (b : Tree). Keeps (declared_by (program_of t.program)) [] b (tree_of u.term)) whole h.0.keeps }, each_source t whole us h.1)

pub source_terms_are : (program script : List ℕ) (t : Typed) (read : PlainScript) (terms : List Typed) → IsBegun program script t read
    → terms_of (program_of t.program) read.steps (state_of t) ≡ Ok (map state_of terms) → Every (IsAfter t) terms → AreSourceTerms program script terms
source_terms_are program script t read terms begun made each = record {
  source = program_of t.program;
  read = begun.read;
  made = (annotation_of t.types, begun.judged, (read, (begun.is, begun.few), source_made t read.steps (Ok (map state_of terms)) begun.whole made));
  each = each_source t begun.whole terms each;
}

-- ---- the first and the last

and_ok : {A B E : Type 0} (r : Result A E) (f : A → Result B E) (b : B) → and_then r f ≡ Ok b → (a : A) × (r ≡ Ok a) × (f a ≡ Ok b)
and_ok (Ok a) f b h = (a, refl, h)
and_ok (Err e) f b h = absurd (cc (h))

-- the first term is the one that the steps begin with
first_from : (p : PlainProgram) (steps : List Step) (k : ℕ) (s : State) (terms : List State) → terms_from p steps k s ≡ Ok terms → (rest : List State) × (terms ≡ s ∷ rest)
first_from p [] k s terms e = ([], sym (cc (e)))
first_from p (step ∷ steps) k s terms e =
    let next = and_ok (at_step (k + 1) (stepped p step s)) _ terms e in
    let more = and_ok (terms_from p steps (k + 1) next.0) _ terms next.2 in
    (more.0, sym (cc (more.2)))

pub first_is : (p : PlainProgram) (script : List ℕ) (terms : List State) (made : TermsOf p script (Ok terms)) → (rest : List State) × (terms ≡ source_of p made.0 ∷ rest)
first_is p script terms made = first_from p made.2.0.steps 0 (source_of p made.0) terms made.2.2

-- ---- the last

at_step_ok : (k : ℕ) (r : Result State Fault) (s : State) → at_step k r ≡ Ok s → r ≡ Ok s
at_step_ok k (Ok t) s h = cc
at_step_ok k (Err f) s h = absurd (cc (h))

typed_ok : (t : Tree) (r : Result Annotation TypeRefusal) (s : State) → with_types t r ≡ Ok s → (t ≡ s.tree) × (r ≡ Ok s.types)
typed_ok t (Ok n) s h = (cc, cc)
typed_ok t (Err e) s h = absurd (cc (h))

-- a term that a step makes is judged to have its types
stepped_judged : (p : PlainProgram) (step : Step) (s t : State) → stepped p step s ≡ Ok t → program_judged p t.tree ≡ Ok t.types
stepped_judged p step s t h =
    let made = and_ok (rewritten step (around_whole p s) s.tree) _ t h in
    let few = and_ok (limited made.0) (λ _. with_types made.0 (program_judged p made.0)) t made.2 in
    let typed = typed_ok made.0 (program_judged p made.0) t few.2 in
    subst (λ (u : Tree). program_judged p u ≡ Ok t.types) typed.0 typed.1

no_more : {A : Type 0} (front : List A) (x : A) → [] ≡ front ++ x ∷ [] → ⊥
no_more [] x e = cc (e)
no_more (y ∷ front) x e = cc (e)

-- the last of a term and more is that term, or the last of these
split_last : (s : State) (rest front : List State) (last : State) → s ∷ rest ≡ front ++ last ∷ [] → (rest ≡ []) ⊎ ((more : List State) × (rest ≡ more ++ last ∷ []))
split_last s rest [] last e = inl (cc (e))
split_last s rest (t ∷ front) last e = inr (front, cc (e))

-- so is each last term, where the first is
last_judged : (p : PlainProgram) (steps : List Step) (k : ℕ) (s last : State) (front : List State) → program_judged p s.tree ≡ Ok s.types
    → terms_from p steps k s ≡ Ok (front ++ last ∷ []) → program_judged p last.tree ≡ Ok last.types
last_judged p [] k s last [] judged e = let same : s ≡ last = cc (e) in subst (λ (t : State). program_judged p t.tree ≡ Ok t.types) same judged
last_judged p [] k s last (t ∷ front) judged e = absurd (no_more front last (cc (e)))
last_judged p (step ∷ steps) k s last front judged e =
    let next = and_ok (at_step (k + 1) (stepped p step s)) _ (front ++ last ∷ []) e in
    let more = and_ok (terms_from p steps (k + 1) next.0) _ (front ++ last ∷ []) next.2 in
    let first = first_from p steps (k + 1) next.0 more.0 more.1 in
    let after = stepped_judged p step s next.0 (at_step_ok (k + 1) (stepped p step s) next.0 next.1) in
    elim (split_last s more.0 front last (cc (more.2))) as (λ _. program_judged p last.tree ≡ Ok last.types) [
      | inl none ↦ absurd (cc (none, first.1))
      | inr found ↦ last_judged p steps (k + 1) next.0 last found.0 after (more.1 ∙ ap Ok found.1)
    ]

abbrev as_limited : Bool → Fault → Result (Unit {0}) Fault
as_limited b e = if b then Err e else Ok tt

not_above : (b : Bool) (e : Fault) → as_limited b e ≡ Ok tt → b ≡ false
not_above true e h = absurd (cc (h))
not_above false e h = refl

low_of : (n : ℕ) → at_most 256 Depth (counted n) ≡ Ok tt → n ≤ 256
low_of n h = let few = ltb-false 256 (counted n) (not_above (nat_lt 256 (counted n)) (Passes Depth (counted n)) h) in omega (arith, few)

-- a term that a step makes is at most 256 high
stepped_low : (p : PlainProgram) (step : Step) (s t : State) → stepped p step s ≡ Ok t → height t.tree ≤ 256
stepped_low p step s t h =
    let made = and_ok (rewritten step (around_whole p s) s.tree) _ t h in
    let few = and_ok (limited made.0) (λ _. with_types made.0 (program_judged p made.0)) t made.2 in
    let typed = typed_ok made.0 (program_judged p made.0) t few.2 in
    let nodes_fit = and_ok (at_most 4096 Nodes (counted (nodes made.0))) (λ _. at_most 256 Depth (counted (height made.0))) few.0 few.1 in
    subst (λ (u : Tree). height u ≤ 256) typed.0 (low_of (height made.0) nodes_fit.2)

-- so is each last term, where the first is
last_low : (p : PlainProgram) (steps : List Step) (k : ℕ) (s last : State) (front : List State) → height s.tree ≤ 256 → terms_from p steps k s ≡ Ok (front ++ last ∷ []) → height last.tree ≤ 256
last_low p [] k s last [] low e = let same : s ≡ last = cc (e) in subst (λ (t : State). height t.tree ≤ 256) same low
last_low p [] k s last (t ∷ front) low e = absurd (no_more front last (cc (e)))
last_low p (step ∷ steps) k s last front low e =
    let next = and_ok (at_step (k + 1) (stepped p step s)) _ (front ++ last ∷ []) e in
    let more = and_ok (terms_from p steps (k + 1) next.0) _ (front ++ last ∷ []) next.2 in
    let first = first_from p steps (k + 1) next.0 more.0 more.1 in
    let after = stepped_low p step s next.0 (at_step_ok (k + 1) (stepped p step s) next.0 next.1) in
    elim (split_last s more.0 front last (cc (more.2))) as (λ _. height last.tree ≤ 256) [
      | inl none ↦ absurd (cc (none, first.1))
      | inr found ↦ last_low p steps (k + 1) next.0 last found.0 after (more.1 ∙ ap Ok found.1)
    ]

-- ---- types

-- what is typed has an output's type
output_of : (t : Typed) (b : Tree) → IsTyped t → tree_of t.term ≡ b → HasOutput (program_of t.program) b (type_in (annotation_of t.types))
output_of t b typed whole =
    subst (λ (u : Tree). HasOutput (program_of t.program) u (type_in (annotation_of t.types))) whole
    (record { declared = typed.declared; typed = annotated_is_typed (declared_by (program_of t.program)) [] (tree_of t.term) (annotation_of t.types) typed.nodes; output = typed.output })

-- a term that keeps the source's type has it
kept_output : (p : PlainProgram) (a : PlainTy) (term : Tree) (b : PlainTy) → HasOutput p p.body a → Keeps (declared_by p) [] p.body term → HasOutput p term b → HasOutput p p.body b
kept_output p a term b source keeps mine = subst (HasOutput p p.body) (one_type (declared_by p) [] term a b (keeps.typed a source.typed) mine.typed) source

is_within : (p : PlainProgram) (t : Tree) (n : Annotation) (r : Result Annotation TypeRefusal) → r ≡ Ok n → IsJudgement p t n r → IsWithinLimits p t n
is_within p t n (Ok m) e h = h.1
is_within p t n (Err why) e h = absurd (cc (e))

-- what is known of the last term, over one program
record LastOver (program script : List ℕ) (p : PlainProgram) (t : Typed) : Type 0 where
  read : IsRead program p
  proper : IsProper p
  terms : List State
  made : TermsOf p script (Ok terms)
  is_last : of_terms.IsLast (state_of t) terms
  keeps : Keeps (declared_by p) [] p.body (tree_of t.term)
  output : HasOutput p p.body (type_in (annotation_of t.types))
  judged : program_judged p (tree_of t.term) ≡ Ok (annotation_of t.types)
  low : height (tree_of t.term) ≤ 256

pub last_is : (program script : List ℕ) (source t : Typed) (read : PlainScript) → TypesAreJudged → ProgramsAreLow → IsBegun program script source read
    → IsLast (program_of source.program) read.steps (state_of source) (state_of t) → IsAfter source t → IsLastTerm program script t
last_is program script source t read law lows begun last after =
    let steps = read.steps in
    let p = program_of source.program in
    let typed = after.typed in
    let body = subst (λ (b : Tree). Keeps (declared_by p) [] b (tree_of t.term)) begun.whole after.keeps in
    let made = source_made source steps (Ok (last.front ++ state_of t ∷ [])) begun.whole last.made in
    let first = subst (λ (b : Tree). program_judged p b ≡ Ok (annotation_of source.types)) (sym begun.whole) begun.judged in
    let judged = last_judged p steps 0 (state_of source) (state_of t) last.front first last.made in
    let own = output_of t (tree_of t.term) typed refl in
    let here : LastOver program script p t = record {
      read = begun.read;
      proper = begun.ready.proper;
      terms = last.front ++ state_of t ∷ [];
      made = (annotation_of source.types, begun.judged, (read, (begun.is, begun.few), made));
      is_last = record { front = last.front; is = refl };
      keeps = body;
      output = kept_output p (type_in (annotation_of source.types)) (tree_of t.term) (type_in (annotation_of t.types)) (output_of source p.body begun.ready.typed begun.whole) body
          (subst (λ (q : PlainProgram). HasOutput q (tree_of t.term) (type_in (annotation_of t.types))) after.program own);
      judged = judged;
      low = last_low p steps 0 (state_of source) (state_of t) last.front (subst (λ (b : Tree). height b ≤ 256) (sym begun.whole) (lows program p begun.read.is)) last.made;
    } in
    let mine : LastOver program script (program_of t.program) t = subst (λ (q : PlainProgram). LastOver program script q t) (sym after.program) here in
    record {
      read = mine.read;
      proper = mine.proper;
      few = few_inputs (program_of t.program) mine.read.within;
      terms = mine.terms;
      made = mine.made;
      is_last = mine.is_last;
      term = record { program = refl; typed = typed; keeps = mine.keeps };
      output = mine.output;
      within = is_within (program_of t.program) (tree_of t.term) (annotation_of t.types) _ mine.judged
          (law (program_of t.program) (tree_of t.term) (annotation_of t.types) (record { declared = typed.declared; nodes = typed.nodes; output = typed.output }));
      low = mine.low;
    }

-- ---- lines

pub steps_text_is : (program script text : List ℕ) (t : Typed) (read : PlainScript) → IsBegun program script t read → AreLines t read.steps text → IsStepsText program script text
steps_text_is program script text t read begun lines =
    let p = program_of t.program in
    let made : TermsOf p script (Ok lines.terms) = (annotation_of t.types, begun.judged, (read, (begun.is, begun.few), source_made t read.steps (Ok lines.terms) begun.whole lines.made)) in
    let first = first_is p script lines.terms made in
    record {
      source = p;
      terms = lines.terms;
      read = begun.read;
      made = made;
      types = made.0;
      rest = first.0;
      first = first.1;
      keep = subst (λ (b : Tree). Every (λ (s : State). Keeps (declared_by p) [] b s.tree) lines.terms) begun.whole lines.keep;
      written = lines.written;
    }
