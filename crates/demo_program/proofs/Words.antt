-- The data, number by number.
use Rattle.std.proofs.Common.{◌≡◌, ◌∙◌, ◌+◌, ◌*◌, ◌%◌, ◌++◌, ◌^◌, ℕ, zero, suc, List, [], ◌∷◌, length, map, refl, sym, ap, arith}
use Rattle.std.proofs.lemmas.List.{map_push}
use Rattle.kernel_tree.specs.Schedule.{generated}
use Rattle.lift_tree.specs.Lists.{Every}
use Rattle.lift_tree.specs.Types.{HasType, U32}
use Rattle.lift_tree.specs.Values.{Value, Word, value_of}
use Rattle.lift_tree.specs.declared.value.Val as held
use Rattle.lift_tree.specs.declared.value.Val.{Val}
use Rattle.demo_program.specs.Data.{words_from}

pub no_words : (seed : ℕ) → words_from seed 0 0 ≡ []
unfolding words_from
no_words seed = refl

-- one number more at the end
words_more : (seed behind count : ℕ) → words_from seed behind (suc count) ≡ words_from seed behind count ++ Word (generated seed (suc (behind + count))) ∷ []
unfolding words_from
words_more seed n zero = ap (λ m. Word (generated seed (suc m)) ∷ []) (omega arith)
words_more seed n (suc k) =
    let same : suc n + k ≡ n + suc k = omega arith in
    ap (λ ws. Word (generated seed (suc n)) ∷ ws) (words_more seed (suc n) k ∙ ap (λ m. words_from seed (suc n) k ++ Word (generated seed (suc m)) ∷ []) same)

-- the generator's next state
pub next_state : (seed done state next : ℕ) → state ≡ generated seed done → next ≡ (1664525 * state + 1013904223) % 2 ^ 32 → next ≡ generated seed (done + 1)
next_state seed done state next is gives =
    let one : suc done ≡ done + 1 = omega arith in
    gives ∙ ap (λ (x : ℕ). (1664525 * x + 1013904223) % 2 ^ 32) is ∙ ap (generated seed) one

-- the numbers so far, and the next
pub one_more : (seed done next : ℕ) (old new : List Val) → next ≡ generated seed (done + 1) → map value_of old ≡ words_from seed 0 done → new ≡ old ++ held.Number next ∷ [] → map value_of new ≡ words_from seed 0 (done + 1)
one_more seed done next old new is so_far pushed =
    let one : done + 1 ≡ suc (0 + done) = omega arith in
    let more : suc done ≡ done + 1 = omega arith in
    ap (map value_of) pushed ∙ map_push value_of old (held.Number next)
    ∙ ap (λ (ws : List Value). ws ++ Word next ∷ []) so_far
    ∙ ap (λ m. words_from seed 0 done ++ Word m ∷ []) (is ∙ ap (generated seed) one)
    ∙ sym (words_more seed 0 done)
    ∙ ap (words_from seed 0) more

pub length_words : (seed behind count : ℕ) → length (words_from seed behind count) ≡ count
unfolding words_from
length_words seed n zero = refl
length_words seed n (suc k) = ap suc (length_words seed (suc n) k)

-- each is a number of 32 bits
pub words_fit : (ys : List ℕ) (seed behind count : ℕ) → Every (HasType ys U32) (words_from seed behind count)
unfolding words_from
words_fit ys seed n zero = tt
words_fit ys seed n (suc k) = ((generated seed (suc n), refl, omega arith), words_fit ys seed (suc n) k)
