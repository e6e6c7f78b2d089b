-- Where clap takes the words, they name one of the commands.
use Rattle.std.proofs.Common.{◌≡◌, ◌∙◌, ◌⊎◌, inl, inr, refl, ap, ℕ, List, [], ◌∷◌, Bool, true, false, Some, None, Option}
use Rattle.std.specs.Prelude.{codes, find, is_some, if◌then◌else◌, option_map, ◌||◌}
use Rattle.std.specs.List.{list_all}
use Rattle.std.specs.Option.{option_map_or}
use Rattle.std.specs.Str.{bytes_eq}
use Rattle.std.proofs.lemmas.Slice.Eq.{bytes_eq-Decides}
use Rattle.clap.specs.Words.{Row, Shape, Text, Kinds, subcommand_of}
use Rattle.clap.specs.Faults.{settle_fault, defaults_fault, walk_fault, built_fault, level_fault}
use Rattle.clap.specs.Kinds.{or_else, check_kinds}
use Rattle.clap.specs.Simple.{entered, rows_at, names_of, label_of}
use Rattle.clap.specs.Walk.{Held, Names, settled, walk_from, nothing_held, answers_to, stop_after, walk}
use Rattle.clap.proofs.OnLiterals.{clap_on_literals}
use Rattle.command_line.specs.App.{lift_command, seed}
use Rattle.command_line.specs.Requests.{CommandLine, demo, line_at, line_entered, line_in, seed_of, value_of, IsTaken, IsUnseeded}
use Rattle.command_line.proofs.Plain.{left, right}
use Rattle.command_line.proofs.Forms.{lift_built}

last : (k l : Kinds) → or_else k l ≡ [] → l ≡ []
last [] l h = h
last (x ∷ xs) l h = cc

wanted : (help subcommand argument : Bool) → subcommand ≡ true → check_kinds help subcommand argument ≡ [] → ⊥
wanted true subcommand argument e h = cc
wanted false true argument e h = cc
wanted false false argument e h = cc

required : lift_built.top.subcommand_required ≡ true
unfolding lift_built
required = refl

-- a command that wants a subcommand has entered one where nothing is wrong
level-entered : (s : Shape) (names : Names) (h : Held) (words : List Text) (has : Bool) (below : Kinds) → s.subcommand_required ≡ true
    → level_fault s names h words has below ≡ [] → has ≡ true
level-entered s names h words true below e k = refl
level-entered s names h words false below e k =
    let end = (walk s.rules names h words).held in
    absurd (wanted _ s.subcommand_required _ e
    (last (defaults_fault (settled s.rules end).rows s.rules) _ (last (settle_fault s.rules s.args_override_self end) _
    (last below _ (last (walk_fault s names (walk_from h) words) _ k)))))

-- each subcommand is one of the requests', but for the demo, which has to have a seed
each-asks : (rows : List Row) → list_all (λ (s : Shape). bytes_eq s.name (codes "demo") || is_some (line_at s.name rows)) lift_built.subs ≡ true
unfolding lift_built clap_on_literals
each-asks rows = refl

found-passes : (p q : Shape → Bool) (ss : List Shape) → list_all q ss ≡ true → option_map_or q (find p ss) true ≡ true
found-passes p q [] e = refl
found-passes p q (s ∷ ss) e = elim (p s) as (λ (b : Bool). option_map_or q (if b then Some s else find p ss) true ≡ true) [
  | true ↦ left _ _ e
  | false ↦ found-passes p q ss (right (q s) _ e)
]

-- a request was entered, or the demo
abbrev pub IsKnown : Option (Text × List Row) → Type 0
IsKnown entered = (is_some (line_entered entered) ≡ true) ⊎ ((rows : List Row) × (entered ≡ Some (codes "demo", rows)))

named-known : (name : Text) (rows : List Row) (b : Bool) → bytes_eq name (codes "demo") ≡ b → (b || is_some (line_at name rows)) ≡ true → IsKnown (Some (name, rows))
named-known name rows true e h = inr (rows, ap (λ n. Some (n, rows)) ((bytes_eq-Decides name (codes "demo")).0 e))
named-known name rows false e h = inl h

shape-known : (sub : Option Shape) (words : List Text) → ((rows : List Row) → option_map_or (λ (s : Shape). bytes_eq s.name (codes "demo") || is_some (line_at s.name rows)) sub true ≡ true)
    → is_some (option_map (λ (s : Shape). rows_at s words) sub) ≡ true → IsKnown (option_map (λ (s : Shape). rows_at s words) sub)
shape-known None words each h = absurd (cc (h))
shape-known (Some s) words each h = named-known s.name (rows_at s words).1 _ refl (each (rows_at s words).1)

entered-known : (stop : Option (Text × List Text)) → is_some (entered lift_built stop) ≡ true → IsKnown (entered lift_built stop)
entered-known None h = absurd (cc (h))
entered-known (Some p) h = shape-known _ p.1
    (λ rows. found-passes (λ (s : Shape). answers_to p.0 (label_of s)) _ lift_built.subs (each-asks rows)) h

built-known : (words : List Text) → built_fault lift_built nothing_held words ≡ []
    → IsKnown (entered lift_built (stop_after lift_built.top.rules (names_of lift_built) words))
built-known words h = entered-known _ (level-entered lift_built.top (names_of lift_built) nothing_held words _ _ required h)

taken-known : (words : List Text) → IsTaken words → IsKnown (subcommand_of lift_command words)
unfolding lift_built
taken-known words h = built-known words h

seedless : (o : Option ℕ) → None ≡ option_map demo o → o ≡ None
seedless None e = refl
seedless (Some x) e = absurd (cc (e))

none_asked : (o : Option CommandLine) → is_some o ≡ true → None ≡ o → ⊥
none_asked None h e = absurd (cc (h))
none_asked (Some line) h e = absurd (cc (e))

known-unseeded : (words : List Text) → IsKnown (subcommand_of lift_command words) → None ≡ line_in words → IsUnseeded words
known-unseeded words (inl asks) none = absurd (none_asked (line_in words) asks none)
known-unseeded words (inr (rows, is)) none = record { rows = rows; entered = is; none = seedless (seed_of (value_of seed rows)) (none ∙ ap line_entered is) }

-- words that clap takes, and that ask for nothing, are of a demo without a seed
pub taken-unseeded : (words : List Text) → IsTaken words → None ≡ line_in words → IsUnseeded words
taken-unseeded words h none = known-unseeded words (taken-known words h) none
