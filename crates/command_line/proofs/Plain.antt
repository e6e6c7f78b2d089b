-- A subcommand takes words that do not begin with a hyphen, each by the argument whose turn it is.
use Rattle.std.proofs.Common.{◌≡◌, ◌∙◌, refl, ap, ap₂, List, [], ◌∷◌, ◌++◌, ℕ, Bool, true, false, suc, None, Option, ◌==◌}
use Rattle.std.specs.Prelude.{◌&&◌, not, fold, option_and_then, if◌then◌else◌}
use Rattle.std.specs.List.{list_all}
use Rattle.std.specs.Option.{option_map_or}
use Rattle.std.specs.Str.{bytes_eq}
use Rattle.clap.specs.Words.{Rule, Shape, Text, Kinds}
use Rattle.clap.specs.Faults.{level_fault, turn_fault, step_fault, walk_fault, other_fault, flag_word_fault, bundle_fault, settle_fault, defaults_fault, check_fault}
use Rattle.clap.specs.Kinds.{or_else}
use Rattle.clap.specs.Lexer.{strip_byte, long_of, long_of_rest, short_of, short_of_rest}
use Rattle.clap.specs.Walk.{finished, settled, Held, Walk, Step, idle, value, walked, to_positional, arg_by_index, nothing_held, word_met, after_step, long_or_other, short_or_plain, trailing, rows_after}
use Rattle.command_line.specs.Requests.{is_plain_word}

-- ---- what a plain word lacks

is_false : (b : Bool) → not b ≡ true → b ≡ false
is_false false h = refl
is_false true h = cc

no_hyphen : (word : Text) → is_plain_word word ≡ true → strip_byte 45 word ≡ None
no_hyphen [] e = refl
no_hyphen (x ∷ xs) e = let f : (x == 45) ≡ false = is_false _ e in rw f refl

not_dashes : (word : Text) → is_plain_word word ≡ true → bytes_eq word (45 ∷ 45 ∷ []) ≡ false
not_dashes [] e = refl
not_dashes (x ∷ xs) e = let f : (x == 45) ≡ false = is_false _ e in rw f refl

no_long : (word : Text) → is_plain_word word ≡ true → long_of word ≡ None
no_long word e = ap (λ (t : Option Text). option_and_then long_of_rest (option_and_then (strip_byte 45) t)) (no_hyphen word e)

no_short : (word : Text) → is_plain_word word ≡ true → short_of word ≡ None
no_short word e = ap (λ (t : Option Text). option_and_then short_of_rest t) (no_hyphen word e)

-- ---- one plain word

-- nothing waits, and the next word is for the k-th argument
abbrev ready : Held → ℕ → Walk
ready h k = record { held = h; waiting = idle; position = k; is_trailing = false; stopped = None }

-- the k-th argument has the word
abbrev pub given : List Rule → Held → ℕ → Text → Walk
given c h k word = to_positional c (arg_by_index c k) word (ready h k) h

met : (c : List Rule) (h : Held) (k : ℕ) (word : Text) → is_plain_word word ≡ true → word_met c [] false idle k word h ≡ (h, value)
met c h k word e =
    ap (λ (d : Bool). if d then (h, trailing k) else long_or_other c idle word (long_of word) h) (not_dashes word e)
    ∙ ap (λ (l : Option (Text × Option Text)). long_or_other c idle word l h) (no_long word e)
    ∙ ap (λ (t : Option Text). short_or_plain c idle word t h) (no_short word e)

walked-plain : (c : List Rule) (h : Held) (k : ℕ) (word : Text) → is_plain_word word ≡ true → walked c [] (ready h k) word ≡ given c h k word
unfolding walked
walked-plain c h k word e = ap (λ (m : Held × Step). after_step c word (ready h k) m.0 m.1) (met c h k word e)

no_fault : (s : Shape) (h : Held) (word : Text) → is_plain_word word ≡ true → other_fault s None word h ≡ []
no_fault s h word e =
    ap (λ (d : Bool). if d then [] else flag_word_fault s.rules s.args_override_self (long_of word) word h) (not_dashes word e)
    ∙ ap (λ (l : Option (Text × Option Text)). flag_word_fault s.rules s.args_override_self l word h) (no_long word e)
    ∙ ap (λ (t : Option Text). option_map_or (λ flags. bundle_fault s.rules s.args_override_self flags h) t []) (no_short word e)

turn-plain : (s : Shape) (h : Held) (k : ℕ) (word : Text) → is_plain_word word ≡ true → turn_fault s [] (ready h k) word ≡ step_fault s k h value
turn-plain s h k word e =
    ap₂ or_else (no_fault s h word e) (ap (λ (m : Held × Step). step_fault s k m.0 m.1) (met s.rules h k word e))

-- ---- plain words in turn

-- from the k-th argument on, each has one word, and no word is a fault
abbrev pub Takes : Shape → Held → ℕ → List Text → Type 0
Takes s h k [] = Unit {0}
Takes s h k (word ∷ words) =
    (step_fault s k h value ≡ []) × (given s.rules h k word ≡ ready (given s.rules h k word).held (suc k))
    × Takes s (given s.rules h k word).held (suc k) words

abbrev pub held_after : List Rule → Held → ℕ → List Text → Held
held_after c h k [] = h
held_after c h k (word ∷ words) = held_after c (given c h k word).held (suc k) words

pub left : (a b : Bool) → (a && b) ≡ true → a ≡ true
left true b h = refl
left false b h = cc

pub right : (a b : Bool) → (a && b) ≡ true → b ≡ true
right true b h = h
right false b h = cc

-- whose turn it is after them
abbrev pub turn_after : ℕ → List Text → ℕ
turn_after k [] = k
turn_after k (word ∷ words) = turn_after (suc k) words

-- where the walk stands after them
abbrev pub stands_after : Shape → List Text → Walk
stands_after s words = ready (held_after s.rules nothing_held 1 words) (turn_after 1 words)

walk-plain : (s : Shape) (h : Held) (k : ℕ) (words more : List Text) → list_all is_plain_word words ≡ true → Takes s h k words
    → fold (walked s.rules []) (ready h k) (words ++ more) ≡ fold (walked s.rules []) (ready (held_after s.rules h k words) (turn_after k words)) more
walk-plain s h k [] more e t = refl
walk-plain s h k (word ∷ words) more e t =
    ap (λ (w : Walk). fold (walked s.rules []) w (words ++ more)) (walked-plain s.rules h k word (left _ _ e) ∙ t.1)
    ∙ walk-plain s (given s.rules h k word).held (suc k) words more (right (is_plain_word word) _ e) t.2

clean : (s : Shape) (h : Held) (k : ℕ) (words more : List Text) → list_all is_plain_word words ≡ true → Takes s h k words
    → walk_fault s [] (ready h k) (words ++ more) ≡ walk_fault s [] (ready (held_after s.rules h k words) (turn_after k words)) more
unfolding walk_fault
clean s h k [] more e t = refl
clean s h k (word ∷ words) more e t =
    ap₂ or_else (turn-plain s h k word (left _ _ e) ∙ t.0)
    (ap (λ (w : Walk). walk_fault s [] w (words ++ more)) (walked-plain s.rules h k word (left _ _ e) ∙ t.1)
    ∙ clean s (given s.rules h k word).held (suc k) words more (right (is_plain_word word) _ e) t.2)

-- what is wrong once the words are over, where a subcommand was entered or not
abbrev pub end_fault : Shape → Held → Bool → Kinds
end_fault s end entered = or_else (settle_fault s.rules s.args_override_self end)
    (or_else (defaults_fault (settled s.rules end).rows s.rules) (check_fault s (finished s.rules end) entered))

-- what is held at the end, after the plain words and more
abbrev pub end_after : Shape → (words more : List Text) → Held
end_after s words more = (fold (walked s.rules []) (stands_after s words) more).held

pub level-clean : (s : Shape) (words more : List Text) → list_all is_plain_word words ≡ true → Takes s nothing_held 1 words
    → walk_fault s [] (stands_after s words) more ≡ [] → end_fault s (end_after s words more) false ≡ [] → level_fault s [] nothing_held (words ++ more) false [] ≡ []
level-clean s words more e t w f =
    ap₂ or_else (clean s nothing_held 1 words more e t ∙ w)
    (ap (λ (end : Walk). end_fault s end.held false) (walk-plain s nothing_held 1 words more e t) ∙ f)

pub rows-plain : (s : Shape) (words more : List Text) → list_all is_plain_word words ≡ true → Takes s nothing_held 1 words
    → rows_after s.rules [] (words ++ more) ≡ finished s.rules (end_after s words more)
rows-plain s words more e t = ap (λ (end : Walk). finished s.rules end.held) (walk-plain s nothing_held 1 words more e t)
