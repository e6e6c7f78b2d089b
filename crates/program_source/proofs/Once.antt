-- A text is read, typed and rewritten in one way.
use Rattle.std.proofs.Common.{◌≡◌, ◌∙◌, ◌++◌, ◌+◌, ◌<◌, ◌≤◌, ℕ, suc, List, [], ◌∷◌, ap, sym, subst, length, take, drop, refl, ◌-◌, arith, Ok, Err, inl, inr, append_assoc}
use Rattle.std.proofs.lemmas.Bool.{cases_order}
use Rattle.std.proofs.lemmas.List.{length-drop, length-take-le, take-append-drop}
use Rattle.std.proofs.lemmas.Option.{none-some, same_Some}
use Rattle.std.proofs.Math.Seq.{take-append-add}
use Rattle.readings.specs.Readings.{GoesOn, Grammar, Owed, Reads, Stops, Token, Form, Mark, gives, notes, stands, takes}
use Rattle.readings.specs.Exactly.{StopsAt}
use Rattle.lift_tree.specs.Programs.{PlainProgram}
use Rattle.lift_reader.specs.Grammar as grammar
use Rattle.lift_reader.specs.ProgramText.{StopsAtToken, lexemes, place_of}
use Rattle.lift_reader.specs.Tokens.{AreTokens, Lexeme}
use Rattle.lift_reader.specs.declared.refusal.ReadRefusal.TheVariants as readings
use Rattle.pattern_types.specs.Judged.{program_judged}
use Rattle.strategy_script.specs.Steps.{State, terms_of}
use Rattle.strategy_script.specs.Laws.{ScriptsEndOnce}
use Rattle.strategy_script.specs.ScriptText.{ReadsScript}
use Rattle.fault_lines.specs.declared.refusal.Refusal.TheVariants as told
use Rattle.program_source.specs.Laws.{SourcesEndOnce}
use Rattle.program_source.specs.Program.{OnProgram, ReadsProgram, TypesOf}
use Rattle.stages.specs.Stages.{IsOne}
use Rattle.stages.proofs.One.{as_one, equal_one, then_one}
use Rattle.program_source.specs.Terms.{LastOf, TermsOf, source_of}

-- ---- the program's text

take_more_of : {T : Type 0} (i m : ℕ) (ts : List T) → i ≤ length ts → take (i + m) ts ≡ take i ts ++ take m (drop i ts)
take_more_of i m ts inside =
    ap (take (i + m)) (sym (take-append-drop i ts))
    ∙ ap (λ k. take (k + m) (take i ts ++ drop i ts)) (sym (length-take-le i ts inside))
    ∙ take-append-add (take i ts) (drop i ts) m

module _ {T F M N : Type 0} (g : Grammar T F M N) where
  -- what goes on at all of a text goes on at its beginning
  goes_on_before : {o : List (Owed T F M)} {n : N} {ts : List T} {o2 : List (Owed T F M)} {n2 : N} → Reads g o n ts o2 n2 → (front back : List T) → ts ≡ front ++ back → GoesOn g o n front
  goes_on_before (stands {o = o} {n = n}) [] back e = (o, n, stands)
  goes_on_before stands (t ∷ front) back e = absurd (cc (e))
  goes_on_before (takes {t = a} {o = o} {n = n} r) [] back e = (Token a ∷ o, n, stands)
  goes_on_before (takes {t = a} {o = o} {n = n} {ts = ts} r) (t ∷ front) back e =
      let e1 : a ≡ t = cc (e) in let e2 : ts ≡ front ++ back = cc (e) in
      let k = goes_on_before r front back e2 in
      (k.0, k.1, subst (λ z. Reads g (Token a ∷ o) n (z ∷ front) k.0 k.1) e1 (takes k.2))
  goes_on_before (gives {f = f} {t = a} {o = o} {n = n} h r) [] back e = (Form f ∷ o, n, stands)
  goes_on_before (gives {f = f} {t = a} {o = o} {n = n} {ts = ts} h r) (t ∷ front) back e =
      let e1 : a ≡ t = cc (e) in let e2 : ts ≡ front ++ back = cc (e) in
      let k = goes_on_before r front back e2 in
      (k.0, k.1, subst (λ z. Reads g (Form f ∷ o) n (z ∷ front) k.0 k.1) e1 (gives h k.2))
  goes_on_before (notes {m = m} {o = o} {n = n} h r) [] back e = (Mark m ∷ o, n, stands)
  goes_on_before (notes h r) (t ∷ front) back e = let k = goes_on_before r (t ∷ front) back e in (k.0, k.1, notes h k.2)

  -- where a text stops before a token, it doesn't go on at more tokens
  stops_before : (o : List (Owed T F M)) (n : N) (front back : List T) (d : ℕ) → Stops g o n front back → d < length back → GoesOn g o n (front ++ take (suc d) back) → ⊥
  stops_before o n front [] d there less goes = omega (arith, less)
  stops_before o n front (t ∷ back) d there less goes = there (goes_on_before goes.2 (front ++ t ∷ []) (take d back) (sym (append_assoc front (t ∷ []) (take d back))))

  not_before : (o : List (Owed T F M)) (n : N) (ts : List T) (i d : ℕ) → StopsAt g o n ts i → StopsAt g o n ts (i + suc d) → ⊥
  not_before o n ts i d h k =
      stops_before o n (take i ts) (drop i ts) d h.there
      (let a = k.inside in let b = length-drop i ts in omega (arith, a, b))
      (subst (GoesOn g o n) (take_more_of i (suc d) ts h.inside) k.before)

  stops_once : (o : List (Owed T F M)) (n : N) (ts : List T) (i j : ℕ) → StopsAt g o n ts i → StopsAt g o n ts j → i ≡ j
  stops_once o n ts i j h k = elim (cases_order i j) as (λ _. i ≡ j) [
    | inl same ↦ same
    | inr (inl less) ↦ absurd (not_before o n ts i (j - i - 1) h (subst (StopsAt g o n ts) (omega (arith, less)) k))
    | inr (inr less) ↦ absurd (not_before o n ts j (i - j - 1) k (subst (StopsAt g o n ts) (omega (arith, less)) h))
  ]

abbrev pub TokensAreOne : Type 0
TokensAreOne = (at : ℕ) (text : List ℕ) (some others : List (ℕ × Lexeme)) → AreTokens at text some → AreTokens at text others → some ≡ others

-- a text stops at one token
tokens_one : TokensAreOne → (text : List ℕ) (t o u q : ℕ) → StopsAtToken text t o → StopsAtToken text u q → (t ≡ u) × (o ≡ q)
tokens_one law text t o u q h k =
    let same : h.tokens ≡ k.tokens = law 0 text h.tokens k.tokens h.are k.are in
    let before : h.before ≡ k.before =
    stops_once grammar.programs grammar.start grammar.nothing (lexemes k.tokens) h.before k.before
    (subst (λ ts. StopsAt grammar.programs grammar.start grammar.nothing (lexemes ts) h.before) same h.stops) k.stops in
    let token : t ≡ u = h.counted ∙ ap (λ n. n + 1) before ∙ sym k.counted in
    let offset : o ≡ q = h.place ∙ ap (λ ts. place_of ts h.before (length text)) same ∙ ap (λ n. place_of k.tokens n (length text)) before ∙ sym k.place in
    (token, offset)

pub reads_one : TokensAreOne → (text : List ℕ) → IsOne (ReadsProgram text)
reads_one law text (Ok p) (Ok q) h k = ap Ok (k.only p h.is)
reads_one law text (Ok p) (Err (readings.Syntax t o)) h k = absurd (k.1 p h.is)
reads_one law text (Ok p) (Err (readings.Limit w c)) h k = absurd (none-some _ (sym h.within ∙ k.passes p h.is))
reads_one law text (Err (readings.Syntax t o)) (Ok q) h k = absurd (h.1 q k.is)
reads_one law text (Err (readings.Syntax t o)) (Err (readings.Syntax u q)) h k = let same = tokens_one law text t o u q h.0 k.0 in λ i. Err (readings.Syntax (same.0 i) (same.1 i))
reads_one law text (Err (readings.Syntax t o)) (Err (readings.Limit w c)) h k = absurd (h.1 k.program k.is)
reads_one law text (Err (readings.Limit w c)) (Ok q) h k = absurd (none-some _ (sym k.within ∙ h.passes q k.is))
reads_one law text (Err (readings.Limit w c)) (Err (readings.Syntax t o)) h k = absurd (k.1 h.program h.is)
reads_one law text (Err (readings.Limit w c)) (Err (readings.Limit v d)) h k =
    ap (λ x. Err (readings.Limit x.0 x.1)) (same_Some (w, c) (v, d) (sym (h.passes h.program h.is) ∙ k.passes h.program h.is))
reads_one law text (Err readings.Memory) r h k = absurd h
reads_one law text r (Err readings.Memory) h k = absurd k

-- ---- the types, the script and the steps

pub types_one : (p : PlainProgram) → IsOne (TypesOf p)
types_one p = as_one told.Typing (λ r. program_judged p p.body ≡ r) (equal_one (program_judged p p.body))

pub terms_one : ScriptsEndOnce → (p : PlainProgram) (script : List ℕ) → IsOne (TermsOf p script)
terms_one scripts p script =
    then_one _ _ (types_one p) (λ types _.
    then_one _ _ (as_one told.Script (ReadsScript script) (scripts script)) (λ read _.
    as_one told.Step (λ r. terms_of p read.steps (source_of p types) ≡ r) (equal_one (terms_of p read.steps (source_of p types)))))

-- a program's text and a script come to one end
pub text_one : SourcesEndOnce → (program script : List ℕ) → IsOne (OnProgram program (λ p. TermsOf p script))
text_one sources program script = then_one _ (λ p. TermsOf p script) (as_one told.Program (ReadsProgram program) (sources.read program)) (λ p read. sources.terms p script)

-- ---- the last term

last_in : State → List State → State
last_in s [] = s
last_in s (t ∷ ts) = last_in t ts

last_in-append : (s : State) (front : List State) (t : State) → last_in s (front ++ t ∷ []) ≡ t
unfolding last_in
last_in-append s [] t = refl
last_in-append s (u ∷ front) t = last_in-append u front t

pub last_one : (terms : List State) → IsOne (LastOf terms)
last_one terms (Ok s) (Ok t) h k =
    ap Ok (sym (last_in-append s h.front s) ∙ ap (last_in s) (sym h.is ∙ k.is) ∙ last_in-append s k.front t)
last_one terms (Err e) r h k = absurd h
last_one terms r (Err e) h k = absurd k
