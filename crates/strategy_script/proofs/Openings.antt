-- The lines that a script begins with: of no step, and one that fixes the local size.
use Rattle.std.proofs.Common.{◌≡◌, ◌∙◌, ◌+◌, ◌<◌, ◌≤◌, ℕ, zero, suc, List, [], ◌∷◌, Bool, true, false, Option, Some, None, length, refl, ap, sym, subst, arith, cond, take}
use Rattle.std.specs.Prelude.{bytes_eq, codes, is_some, Result, Ok, Err, IfOk, IfErr}
use Rattle.std.specs.Result.{IsErrAnd}
use Rattle.std.specs.List.{prefix_len, filter_map, cons_option}
use Rattle.std.specs.Str.Lines.{lines}
use Rattle.std.specs.Cmp.Lexicographic.{same_text}
use Rattle.std.proofs.lemmas.Bool.{eqb-true}
use Rattle.strategy_script.specs.declared.script.Step.{Step}
use Rattle.strategy_script.specs.declared.script.ScriptLimit.TheVariants as limits
use Rattle.strategy_script.specs.declared.script.ScriptNo.{ScriptNo}
use Rattle.strategy_script.specs.declared.script.ScriptNo.TheVariants as scripts
use Rattle.strategy_script.specs.Lines.{behind_word, first_word, from_word, is_inner, is_no_step, is_end_or_comment}
use Rattle.strategy_script.specs.LocalSize.{local_in, local_of, size_behind}
use Rattle.strategy_script.specs.Scripts.{PlainScript}
use Rattle.strategy_script.specs.ScriptText.{AreSteps, IsScript, RefusesScript, RefusesSteps, good_lines, script_lines, step_behind, step_lines, step_of, steps_in}

-- ---- lines that are no steps
head_kept : (n b : ℕ) (bs : List ℕ) → 0 < n → (rest : List ℕ) × (take n (b ∷ bs) ≡ b ∷ rest)
head_kept zero b bs some = absurd (omega arith)
head_kept (suc m) b bs some = (take m bs, refl)

-- a comment's first word isn't `at`
not_at : (word : List ℕ) → is_end_or_comment word ≡ true → bytes_eq (take (prefix_len is_inner word) word) (codes "at") ≡ false
not_at [] e = refl
not_at (b ∷ bs) e =
    let is : b ≡ 35 = eqb-true b 35 e in
    let inner : is_inner b ≡ true = ap is_inner is in
    let some : prefix_len is_inner (b ∷ bs) ≡ 1 + prefix_len is_inner bs = ap (λ v. cond v (1 + prefix_len is_inner bs) 0) inner in
    let kept = head_kept (prefix_len is_inner (b ∷ bs)) b bs (omega (arith, some)) in
    ap (λ (w : List ℕ). bytes_eq w (codes "at")) kept.1 ∙ ap (λ c. bytes_eq (c ∷ kept.0) (codes "at")) is

pub no_step : (line : List ℕ) → is_no_step line ≡ true → step_of line ≡ None
no_step line e = ap (λ b. cond b (step_behind (behind_word line)) None) (not_at (from_word line) e)

-- nor is one that fixes a local size a step
sized_step : (line : List ℕ) (size : ℕ × ℕ) (v : Bool) → bytes_eq (first_word line) (codes "launch") ≡ v → cond v (size_behind (behind_word line)) None ≡ Some size → step_of line ≡ None
sized_step line size true is e =
    ap (λ (w : List ℕ). cond (bytes_eq w (codes "at")) (step_behind (behind_word line)) None) (same_text (first_word line) (codes "launch") (sym is))
sized_step line size false is e = absurd (cc)

pub no_step_but_size : (line : List ℕ) (size : ℕ × ℕ) → local_of line ≡ Some size → step_of line ≡ None
no_step_but_size line size e = sized_step line size (bytes_eq (first_word line) (codes "launch")) refl e

-- ---- one line more
pub steps_passed : (all rest : List (List ℕ)) (line : List ℕ) → all ≡ line ∷ rest → step_of line ≡ None → filter_map step_of all ≡ filter_map step_of rest
steps_passed all rest line e none = ap (filter_map step_of) e ∙ ap (λ o. cons_option o (filter_map step_of rest)) none

-- a line of no step
pub size_passed : (all rest : List (List ℕ)) (line : List ℕ) → all ≡ line ∷ rest → is_no_step line ≡ true → local_in all ≡ local_in rest
size_passed all rest line e none = ap local_in e ∙ ap (λ v. cond v (local_in rest) (local_of line)) none

abbrev counted_by : Bool → Bool → List ℕ → List (List ℕ) → ℕ
counted_by none sized line rest = cond none (1 + script_lines rest) (cond sized (1 + step_lines rest) (step_lines (line ∷ rest)))

pub good_passed : (all rest : List (List ℕ)) (line : List ℕ) → all ≡ line ∷ rest → is_no_step line ≡ true → script_lines all ≡ 1 + script_lines rest
good_passed all rest line e none = ap script_lines e ∙ ap (λ v. counted_by v (is_some (local_of line)) line rest) none

-- the first other line, which may fix the local size
pub size_here : (all rest : List (List ℕ)) (line : List ℕ) (o : Option (ℕ × ℕ)) → all ≡ line ∷ rest → is_no_step line ≡ false → local_of line ≡ o → local_in all ≡ o
size_here all rest line o e some is = ap local_in e ∙ ap (λ v. cond v (local_in rest) (local_of line)) some ∙ is

pub good_sized : (all rest : List (List ℕ)) (line : List ℕ) (size : ℕ × ℕ) → all ≡ line ∷ rest → is_no_step line ≡ false → local_of line ≡ Some size → script_lines all ≡ 1 + step_lines rest
good_sized all rest line size e some is =
    ap script_lines e ∙ ap (λ v. counted_by v (is_some (local_of line)) line rest) some ∙ ap (λ o. counted_by false (is_some o) line rest) is

pub good_unsized : (all rest : List (List ℕ)) (line : List ℕ) → all ≡ line ∷ rest → is_no_step line ≡ false → local_of line ≡ None → script_lines all ≡ step_lines all
good_unsized all rest line e some is =
    ap script_lines e ∙ ap (λ v. counted_by v (is_some (local_of line)) line rest) some ∙ ap (λ o. counted_by false (is_some o) line rest) is ∙ ap step_lines (sym e)

-- ---- the whole text, behind its opening
-- the opening's size, its lines, and the text behind it
pub record Opens (text : List ℕ) (local : Option (ℕ × ℕ)) (before : ℕ) (rest : List ℕ) : Type 0 where
  pub size : local ≡ local_in (lines text)
  pub good : before + step_lines (lines rest) ≡ good_lines text
  pub all : before + length (lines rest) ≡ length (lines text)
  pub steps : steps_in rest ≡ steps_in text

pub script_opened : (text rest : List ℕ) (local : Option (ℕ × ℕ)) (before : ℕ) (steps : List Step) → Opens text local before rest → AreSteps rest steps → IsScript text (record { local = local; steps = steps })
script_opened text rest local before steps opens are = record {
  all = let a = opens.good in let b = opens.all in let c = are.all in omega arith;
  found = let size = opens.size in let found = are.found ∙ opens.steps in
      ap (λ (o : Option (ℕ × ℕ)). record { local = o; steps = steps }) size ∙ ap (λ (s : List Step). record { local = local_in (lines text); steps = s }) found;
}

pub refused_opened : (text rest : List ℕ) (local : Option (ℕ × ℕ)) (before : ℕ) (no : ScriptNo) → Opens text local before rest → RefusesSteps before rest no → RefusesScript text no
refused_opened text rest local before (scripts.Syntax line) opens h =
    let a = opens.good in let b = opens.all in let there = h.0 in let counted = h.1 in
    record { there = omega arith; counted = omega arith }
refused_opened text rest local before (scripts.Limit which count) opens h = absurd h
refused_opened text rest local before scripts.Memory opens h = tt

-- ---- the answer
-- a refusal that is handed on
pub refused_on : {T : Type 0} (text : List ℕ) (r : Result T ScriptNo) (e : ScriptNo) → IsErrAnd r (λ x. x ≡ e) → RefusesScript text e → IfErr r (RefusesScript text)
refused_on text (Ok v) e same h = tt
refused_on text (Err x) e same h = subst (RefusesScript text) (sym same) h

-- what is told of a script that is made
abbrev pub IsMade : (local : Option (ℕ × ℕ)) (steps : List Step) → Result PlainScript ScriptNo → Type 0
IsMade local steps r = IfOk r (λ s. (s.local ≡ local) × (s.steps ≡ steps) × (length steps ≤ 256))

pub script_told : (text : List ℕ) (local : Option (ℕ × ℕ)) (steps : List Step) (r : Result PlainScript ScriptNo) → IsScript text (record { local = local; steps = steps }) → IsMade local steps r
    → IfOk r (λ s. IsScript text s × (length s.steps ≤ 256))
script_told text local steps (Ok s) is made =
    let same : record { local = local; steps = steps } ≡ s = ap (λ (o : Option (ℕ × ℕ)). record { local = o; steps = steps }) (sym made.0) ∙ ap (λ (w : List Step). record { local = s.local; steps = w }) (sym made.1) in
    let P : PlainScript → Type 0 = λ w. IsScript text w × (length w.steps ≤ 256) in
    subst P same (is, made.2)
script_told text local steps (Err e) is made = tt

pub many_told : (text : List ℕ) (local : Option (ℕ × ℕ)) (steps : List Step) (r : Result PlainScript ScriptNo) → IsScript text (record { local = local; steps = steps })
    → IfErr r (λ e. (e ≡ scripts.Limit limits.Steps (length steps)) × (256 < length steps)) → IfErr r (RefusesScript text)
many_told text local steps (Ok s) is many = tt
many_told text local steps (Err e) is many =
    subst (RefusesScript text) (sym many.0) (record { script = record { all = is.all; found = refl }; counted = ap (λ (s : PlainScript). length s.steps) is.found; above = many.1 })
