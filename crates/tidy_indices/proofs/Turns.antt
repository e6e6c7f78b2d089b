-- What is known at a place holds at the turns that an item is in.
use Rattle.std.proofs.Common.{◌≡◌, ℕ, zero, suc, pos, ◌-◌, ◌*◌, ◌%◌, ◌^◌, ◌<◌, ◌≤◌, true, Option, Some, None, List, [], ◌∷◌, ◌++◌, refl, sym, ap, ◌∙◌, subst, arith}
use Rattle.std.specs.Prelude.{◌<ℤ◌, map, min, slice_get, slice_index}
use Rattle.std.proofs.Math.Nat.{mul-mod_right}
use Rattle.std.proofs.lemmas.Int.{ints}
use Rattle.std.proofs.lemmas.List.{append-nil, append_assoc}
use Rattle.size_arith.specs.declared.names.Name.{Name}
use Rattle.size_arith.specs.Ranges.{AreNames, Admissible, sizes_at}
use Rattle.index_expr.specs.declared.operation.Operation.{Operation}
use Rattle.index_expr.specs.Expression as index
use Rattle.index_expr.specs.Expression.{Expression}
use Rattle.index_expr.specs.Values.{operate, exact}
use Rattle.kernel_tree.specs.declared.tree.Dimension.TheVariants.{X, Y}
use Rattle.kernel_tree.specs.Formula.{Formula, Ids, Vars, no_vars, value, bound_value, sizes_alone}
use Rattle.kernel_tree.specs.Code.{Start, FromZero, FromGlobalId, FromGroupId, FromLocalId, start_value}
use Rattle.length_spelling.specs.Turns.{turns_of}
use Rattle.length_spelling.specs.Formulas.{index_formula}
use Rattle.length_spelling.specs.Laws.{AreWords}
use Rattle.index_simplify.specs.Operations.{simple}
use Rattle.index_simplify.specs.Ranges.{AreMultiples, ArePositive, AreBelowLengths}
use Rattle.index_simplify.specs.Simplified.{HasWordLiterals}
use Rattle.tidy_indices.specs.declared.spans.Span.{Span}
use Rattle.tidy_indices.specs.Reading.{reading}
use Rattle.tidy_indices.specs.Spans.{from_to, operated_on, span_of}
use Rattle.tidy_indices.specs.Around.{Around, InLoop, InIf, StandsIn}
use Rattle.tidy_indices.specs.Places.{PlainPlace, ranges_outside, without_turns, beyond_words, group_length, group_last, local_length, local_last, size_across, size_down, outside, in_loop_of, in_loop, inside, asked_turn, shorter, changed_at, with_turn_within, with_turn_in, in_if, guarded, within, within_all, place_of}
use Rattle.tidy_indices.proofs.Known.{Known}
use Rattle.tidy_indices.proofs.Items.{AreIds, limit}
use Rattle.tidy_indices.proofs.Readings.{AreWide, is_read}
use Rattle.tidy_indices.proofs.Worths.{word_of}
use Rattle.tidy_indices.proofs.Intervals.{IsIn, AreSizesOf, AreUpTo, IsShown, is_shown, is_ranged}

-- ---- what is known of sizes stays
pub record IsOf (names : List Name) (p : PlainPlace) : Type 0 where
  pub sizes : p.sizes ≡ names
  pub multiples : p.around.multiples ≡ map (λ n. n.multiple) names

loop_is_of : (names : List Name) (p : PlainPlace) (e : Expression) (s : Option Span) → IsOf names p → IsOf names (in_loop_of p e s)
loop_is_of names p e (Some s) h = record { sizes = h.sizes; multiples = h.multiples }
loop_is_of names p e None h = record { sizes = h.sizes; multiples = h.multiples }

in_is_of : (names : List Name) (p : PlainPlace) (e : Option Expression) → IsOf names p → IsOf names (in_loop p e)
in_is_of names p (Some e) h = loop_is_of names p e (span_of p.sizes [] e) h
in_is_of names p None h = record { sizes = h.sizes; multiples = h.multiples }

turn_is_of : (names : List Name) (p : PlainPlace) (k : ℕ) (e : Expression) (s : Option Span) → IsOf names p → IsOf names (with_turn_within p k e s)
turn_is_of names p k e (Some s) h = record { sizes = h.sizes; multiples = h.multiples }
turn_is_of names p k e None h = h

if_is_of : (names : List Name) (p : PlainPlace) (k : Option ℕ) (e : Option Expression) → IsOf names p → IsOf names (in_if p k e)
if_is_of names p (Some k) (Some e) h = turn_is_of names p k e (span_of p.sizes [] e) h
if_is_of names p (Some k) None h = h
if_is_of names p None e h = h

within_is_of : (names : List Name) (p : PlainPlace) (x : Around) → IsOf names p → IsOf names (within p x)
within_is_of names p (InLoop b) h = in_is_of names p (reading b) h
within_is_of names p (InIf s b) h = if_is_of names p (asked_turn s) (reading b) h

all_are_of : (names : List Name) (p : PlainPlace) (around : List Around) → IsOf names p → IsOf names (within_all p around)
all_are_of names p [] h = h
all_are_of names p (x ∷ around) h = all_are_of names (within p x) around (within_is_of names p x h)

pub place_is_of : (names : List Name) (local : Option (ℕ × ℕ)) (around : List Around) → IsOf names (place_of names local around)
place_is_of names local around = all_are_of names _ around (record { sizes = refl; multiples = refl })

-- ---- sizes at admissible values
pub sizes_fit : (names : List Name) (bases : List ℕ) → AreNames names → Admissible names bases → AreWords (sizes_at names bases)
sizes_fit [] bases are ok k = omega arith
sizes_fit (n ∷ names) [] are ok k = absurd ok
sizes_fit (n ∷ names) (y ∷ bases) are ok zero = let l = are.0.limit in let m = ok.0.1 in omega arith
sizes_fit (n ∷ names) (y ∷ bases) are ok (suc k) = sizes_fit names bases are.1 ok.1 k

pub sizes_within : (names : List Name) (bases : List ℕ) → AreNames names → Admissible names bases → AreSizesOf names (sizes_at names bases)
sizes_within [] bases are ok k n h = absurd (cc h)
sizes_within (m ∷ names) [] are ok k n h = absurd ok
sizes_within (m ∷ names) (y ∷ bases) are ok zero n h =
    let same : m ≡ n = cc h in
    subst (λ z. IsIn (from_to z.from z.to) (m.multiple * y)) same (record { above = ok.0.0; below = ok.0.1; fits = let l = are.0.limit in omega arith })
sizes_within (m ∷ names) (y ∷ bases) are ok (suc k) n h = sizes_within names bases are.1 ok.1 k n h

pub sizes_divide : (names : List Name) (bases : List ℕ) → Admissible names bases → AreMultiples (ranges_outside names) (sizes_at names bases)
sizes_divide [] bases ok k m h = absurd (cc h)
sizes_divide (n ∷ names) [] ok k m h = absurd ok
sizes_divide (n ∷ names) (y ∷ bases) ok zero m h =
    let same : n.multiple ≡ m = cc h in
    subst (λ z. (n.multiple * y) % z ≡ 0) same (mul-mod_right n.multiple y)
sizes_divide (n ∷ names) (y ∷ bases) ok (suc k) m h = sizes_divide names bases ok.1 k m h

pub sizes_positive : (names : List Name) (bases : List ℕ) → AreNames names → Admissible names bases → ArePositive (ranges_outside names) (sizes_at names bases)
sizes_positive [] bases are ok k m h = absurd (cc h)
sizes_positive (n ∷ names) [] are ok k m h = absurd ok
sizes_positive (n ∷ names) (y ∷ bases) are ok zero m h = let some = are.0.from_positive in let above = ok.0.0 in omega arith
sizes_positive (n ∷ names) (y ∷ bases) are ok (suc k) m h = sizes_positive names bases are.1 ok.1 k m h

-- ---- an expression that has a span is worth what it is exactly
pub shown_value : Known → (names : List Name) (ids : Ids) (lasts loops : List ℕ) (variables : Vars) (sizes_are : AreSizesOf names ids.sizes) (turns_are : AreUpTo lasts (turns_of ids loops)) (e : Expression) (s : Span)
    → AreWords ids.sizes → AreWords (turns_of ids loops) → HasWordLiterals e → (h : IsShown names ids.sizes lasts (turns_of ids loops) sizes_are turns_are e s)
    → value ids loops variables (index_formula e) ≡ Some h.at
shown_value facts names ids lasts loops variables sizes_are turns_are e s fit turns_fit lits h =
    facts.ranged ids loops variables e h.at fit turns_fit lits (is_ranged names ids.sizes lasts (turns_of ids loops) sizes_are turns_are e s h) h.divisors h.exact_is

no_turns : (o : Operation) (p q : Option Span) (s : Span) → operated_on o p q ≡ Some s → ((t : Span) × (p ≡ Some t)) × ((t : Span) × (q ≡ Some t))
no_turns o (Some p) (Some q) s h = ((p, refl), (q, refl))
no_turns o (Some p) None s h = absurd (cc h)
no_turns o None q s h = absurd (cc h)

-- where no turn is known it names none
same_turns : (names : List Name) (sizes turns others : List ℕ) (e : Expression) (s : Span) → span_of names [] e ≡ Some s → exact sizes turns e ≡ exact sizes others e
same_turns names sizes turns others (index.Variable k l g) s h = absurd (cc h)
same_turns names sizes turns others (index.Literal n) s h = refl
same_turns names sizes turns others (index.Size k) s h = refl
same_turns names sizes turns others (index.Binary o a b) s h =
    let p = no_turns o (span_of names [] a) (span_of names [] b) s h in
    ap (λ z. operate o z (exact sizes turns b)) (same_turns names sizes turns others a p.0.0 p.0.1)
    ∙ ap (operate o (exact sizes others a)) (same_turns names sizes turns others b p.1.0 p.1.1)

-- ---- the turns
module _ (names : List Name) (sizes : List ℕ) (fit : AreWords sizes) (sizes_are : AreSizesOf names sizes) (all : AreMultiples (ranges_outside names) sizes) (some : ArePositive (ranges_outside names) sizes) where
  -- a turn is below its length, which is so long whatever the turns
  pub record IsTurn (n : Expression) (g t : ℕ) : Type 0 where
    pub count : ℕ
    pub length_is : (turns : List ℕ) → AreWords turns → exact sizes turns n ≡ pos count
    pub below : t < count
    pub last : t ≤ g
    pub fits : g < 2 ^ 32

  abbrev pub AreTurns : List Expression → List ℕ → List ℕ → Type 0
  AreTurns [] [] [] = Unit {0}
  AreTurns (n ∷ ns) (g ∷ gs) (t ∷ ts) = IsTurn n g t × AreTurns ns gs ts
  AreTurns _ _ _ = ⊥

  one_more : (ns : List Expression) (gs ts : List ℕ) (n : Expression) (g t : ℕ) → AreTurns ns gs ts → IsTurn n g t → AreTurns (ns ++ n ∷ []) (gs ++ g ∷ []) (ts ++ t ∷ [])
  one_more [] [] [] n g t h x = (x, tt)
  one_more [] [] (u ∷ ts) n g t h x = absurd h
  one_more [] (v ∷ gs) ts n g t h x = absurd h
  one_more (m ∷ ns) [] ts n g t h x = absurd h
  one_more (m ∷ ns) (v ∷ gs) [] n g t h x = absurd h
  one_more (m ∷ ns) (v ∷ gs) (u ∷ ts) n g t h x = (h.0, one_more ns gs ts n g t h.1 x)

  -- a turn that is below two lengths is below the shorter
  no_words : AreWords []
  no_words k = omega arith

  long : (m g t : ℕ) → (x : IsTurn (index.Literal m) g t) → m ≡ x.count
  long m g t x = let same : pos m ≡ pos x.count = x.length_is [] no_words in cc same

  as_told : (n : Expression) (g v t : ℕ) → t ≤ g → IsTurn n v t → IsTurn n (min g v) t
  as_told n g v t lt y = let last = y.last in let fits = y.fits in record { count = y.count; length_is = y.length_is; below = y.below; last = omega arith; fits = omega arith }

  below_both : (m n : Expression) (g v t : ℕ) → IsTurn m g t → IsTurn n v t → IsTurn (shorter m n) (min g v) t
  below_both (index.Literal a) (index.Literal b) g v t x y =
      let first = long a g t x in
      let second = long b v t y in
      let under = x.below in
      let below = y.below in
      let least = x.last in
      let last = y.last in
      let fits = y.fits in
      record { count = min a b; length_is = λ turns words. refl; below = omega arith; last = omega arith; fits = omega arith }
  below_both (index.Literal a) (index.Variable k l w) g v t x y = as_told (index.Variable k l w) g v t x.last y
  below_both (index.Literal a) (index.Size k) g v t x y = as_told (index.Size k) g v t x.last y
  below_both (index.Literal a) (index.Binary o p q) g v t x y = as_told (index.Binary o p q) g v t x.last y
  below_both (index.Variable k l w) n g v t x y = as_told n g v t x.last y
  below_both (index.Size k) n g v t x y = as_told n g v t x.last y
  below_both (index.Binary o p q) n g v t x y = as_told n g v t x.last y

  one_shorter : (k : ℕ) (n : Expression) (g t : ℕ) → IsTurn n g t → (ns : List Expression) (gs ts : List ℕ) → AreTurns ns gs ts → slice_get ts k ≡ Some t
      → AreTurns (changed_at k (λ known. shorter known n) ns) (changed_at k (λ known. min known g) gs) ts
  one_shorter k n g t x [] [] [] h at = absurd (cc at)
  one_shorter k n g t x [] [] (u ∷ ts) h at = absurd h
  one_shorter k n g t x [] (v ∷ gs) ts h at = absurd h
  one_shorter k n g t x (m ∷ ns) [] ts h at = absurd h
  one_shorter k n g t x (m ∷ ns) (v ∷ gs) [] h at = absurd h
  one_shorter zero n g t x (m ∷ ns) (v ∷ gs) (u ∷ ts) h at =
      let same : t ≡ u = cc at in
      (below_both m n v g u h.0 (subst (IsTurn n g) same x), h.1)
  one_shorter (suc k) n g t x (m ∷ ns) (v ∷ gs) (u ∷ ts) h at = (h.0, one_shorter k n g t x ns gs ts h.1 at)

  pub turns_fit : (ns : List Expression) (gs ts : List ℕ) → AreTurns ns gs ts → AreWords ts
  turns_fit [] [] [] h k = omega arith
  turns_fit [] [] (u ∷ ts) h k = absurd h
  turns_fit [] (v ∷ gs) ts h k = absurd h
  turns_fit (m ∷ ns) [] ts h k = absurd h
  turns_fit (m ∷ ns) (v ∷ gs) [] h k = absurd h
  turns_fit (m ∷ ns) (v ∷ gs) (u ∷ ts) h zero = let e = h.0.last in let f = h.0.fits in omega arith
  turns_fit (m ∷ ns) (v ∷ gs) (u ∷ ts) h (suc k) = turns_fit ns gs ts h.1 k

  pub turns_up_to : (ns : List Expression) (gs ts : List ℕ) → AreTurns ns gs ts → AreUpTo gs ts
  turns_up_to [] [] [] h k g e = absurd (cc e)
  turns_up_to [] [] (u ∷ ts) h k g e = absurd h
  turns_up_to [] (v ∷ gs) ts h k g e = absurd h
  turns_up_to (m ∷ ns) [] ts h k g e = absurd h
  turns_up_to (m ∷ ns) (v ∷ gs) [] h k g e = absurd h
  turns_up_to (m ∷ ns) (v ∷ gs) (u ∷ ts) h zero g e =
      let same : v ≡ g = cc e in
      subst (λ z. IsIn (from_to 0 z) u) same (record { above = omega arith; below = h.0.last; fits = h.0.fits })
  turns_up_to (m ∷ ns) (v ∷ gs) (u ∷ ts) h (suc k) g e = turns_up_to ns gs ts h.1 k g e

  below_lengths : (whole : List ℕ) → AreWords whole → (ns : List Expression) (gs ts : List ℕ) → AreTurns ns gs ts → (k : ℕ) (n : Expression) → slice_get ns k ≡ Some n → pos (slice_index ts k) <ℤ exact sizes whole n
  below_lengths whole words [] [] [] h k n e = absurd (cc e)
  below_lengths whole words [] [] (u ∷ ts) h k n e = absurd h
  below_lengths whole words [] (v ∷ gs) ts h k n e = absurd h
  below_lengths whole words (m ∷ ns) [] ts h k n e = absurd h
  below_lengths whole words (m ∷ ns) (v ∷ gs) [] h k n e = absurd h
  below_lengths whole words (m ∷ ns) (v ∷ gs) (u ∷ ts) h zero n e =
      let same : m ≡ n = cc e in
      let is = h.0.length_is whole words in
      let lt = h.0.below in
      subst (λ z. pos u <ℤ exact sizes whole z) same (subst (λ z. pos u <ℤ z) (sym is) (omega (arith, ints)))
  below_lengths whole words (m ∷ ns) (v ∷ gs) (u ∷ ts) h (suc k) n e = below_lengths whole words ns gs ts h.1 k n e

  pub are_below_lengths : (p : PlainPlace) (turns : List ℕ) → AreTurns p.around.lengths p.lasts turns → AreBelowLengths p.around sizes turns
  are_below_lengths p turns h = below_lengths turns (turns_fit p.around.lengths p.lasts turns h) p.around.lengths p.lasts turns h

  -- what is known at a place holds at these turns
  pub record Holds (p : PlainPlace) (turns : List ℕ) : Type 0 where
    pub is_of : IsOf names p
    pub known : p.is_known ≡ true → AreTurns p.around.lengths p.lasts turns

  pub multiples_at : (p : PlainPlace) → IsOf names p → AreMultiples (without_turns p.around) sizes
  multiples_at p h = subst (λ ms. AreMultiples (record { lengths = []; multiples = ms }) sizes) (sym h.multiples) all

  pub positive_at : (p : PlainPlace) → IsOf names p → ArePositive (without_turns p.around) sizes
  positive_at p h = subst (λ ms. ArePositive (record { lengths = []; multiples = ms }) sizes) (sym h.multiples) some

  -- outside of all loops, where ids are not looked at
  abbrev Outside : List ℕ
  Outside = turns_of (sizes_alone sizes) []

  own_words : AreWords Outside
  own_words zero = omega arith
  own_words (suc zero) = omega arith
  own_words (suc (suc zero)) = omega arith
  own_words (suc (suc (suc zero))) = omega arith
  own_words (suc (suc (suc (suc k)))) = omega arith

  -- what is known of an item's own turns
  word_length : (t : ℕ) → t < 2 ^ 32 → IsTurn beyond_words 4294967295 t
  word_length t lt = record { count = 4294967296; length_is = λ turns words. refl; below = omega arith; last = omega arith; fits = omega arith }

  group_turn : (t : ℕ) → t < 65536 → IsTurn group_length group_last t
  group_turn t lt = record { count = 65536; length_is = λ turns words. refl; below = lt; last = omega arith; fits = omega arith }

  own_turn : (size : Option ℕ) (t : ℕ) → t < limit size → limit size ≤ 2 ^ 32 → IsTurn (local_length size) (local_last size) t
  own_turn (Some size) t lt fits = record { count = size; length_is = λ turns words. refl; below = lt; last = omega arith; fits = omega arith }
  own_turn None t lt fits = word_length t (omega arith)

  module _ (facts : Known) where
    -- the turn of a loop whose bound has a span
    shown_turn : (p : PlainPlace) (e : Expression) (s : Span) (n t : ℕ) → IsOf names p → HasWordLiterals e → AreWide e → span_of names [] e ≡ Some s → value (sizes_alone sizes) [] no_vars (index_formula e) ≡ Some n → t < n → IsTurn (simple (without_turns p.around) e) (s.greatest - 1) t
    shown_turn p e s n t is_of lits wide h w lt =
        let shown = is_shown names sizes [] Outside sizes_are (λ k g f. absurd (cc f)) e s lits h in
        let same : n ≡ shown.at = (let both : Some n ≡ Some shown.at = sym w ∙ shown_value facts names (sizes_alone sizes) [] [] no_vars sizes_are (λ k g f. absurd (cc f)) e s fit own_words lits shown in cc both) in
        let below = shown.within.below in
        let fits = shown.within.fits in
        record {
          count = n;
          length_is = λ turns words.
              ((facts.simplified (without_turns p.around) e).stands sizes turns (record { loops = λ k m f. absurd (cc f); multiples = multiples_at p is_of; positive = positive_at p is_of; own = wide turns words })).value
              ∙ same_turns names sizes turns Outside e s h ∙ shown.exact_is ∙ ap pos (sym same);
          below = lt;
          last = omega arith;
          fits = omega arith;
        }

    -- and of one whose bound may wrap
    word_turn : (p : PlainPlace) (e : Expression) (n t : ℕ) → IsOf names p → HasWordLiterals e → value (sizes_alone sizes) [] no_vars (index_formula e) ≡ Some n → t < n → IsTurn beyond_words 4294967295 t
    word_turn p e n t is_of lits w lt =
        let word = word_of facts p.around.multiples (sizes_alone sizes) [] no_vars fit own_words (multiples_at p is_of) (positive_at p is_of) e n lits w in
        word_length t (omega arith)

    loop_holds : (p : PlainPlace) (us : List ℕ) (e : Expression) (n t : ℕ) → Holds p us → HasWordLiterals e → AreWide e → value (sizes_alone sizes) [] no_vars (index_formula e) ≡ Some n → t < n → (s : Option Span) → span_of p.sizes [] e ≡ s → Holds (in_loop_of p e s) (us ++ t ∷ [])
    loop_holds p us e n t h lits wide w lt (Some s) f =
        let turn = shown_turn p e s n t h.is_of lits wide (ap (λ z. span_of z [] e) (sym h.is_of.sizes) ∙ f) w lt in
        record { is_of = loop_is_of names p e (Some s) h.is_of; known = λ known. one_more p.around.lengths p.lasts us (simple (without_turns p.around) e) (s.greatest - 1) t (h.known known) turn }
    loop_holds p us e n t h lits wide w lt None f =
        let turn = word_turn p e n t h.is_of lits w lt in
        record { is_of = loop_is_of names p e None h.is_of; known = λ known. one_more p.around.lengths p.lasts us beyond_words 4294967295 t (h.known known) turn }

    in_holds : (p : PlainPlace) (us : List ℕ) (b : Formula) (n t : ℕ) → Holds p us → bound_value sizes b ≡ Some n → t < n → (e : Option Expression) → reading b ≡ e → Holds (in_loop p e) (us ++ t ∷ [])
    in_holds p us b n t h w lt (Some e) f =
        let read = is_read b e f in
        loop_holds p us e n t h read.literals read.wide (ap (value (sizes_alone sizes) [] no_vars) read.same ∙ w) lt (span_of p.sizes [] e) refl
    in_holds p us b n t h w lt None f = record { is_of = in_is_of names p None h.is_of; known = λ known. absurd (cc known) }

    -- in an `if` that asks of a turn
    turn_holds : (p : PlainPlace) (us : List ℕ) (k : ℕ) (e : Expression) (n t : ℕ) → Holds p us → slice_get us k ≡ Some t → HasWordLiterals e → AreWide e → value (sizes_alone sizes) [] no_vars (index_formula e) ≡ Some n → t < n → (s : Option Span) → span_of p.sizes [] e ≡ s
        → Holds (with_turn_within p k e s) us
    turn_holds p us k e n t h at lits wide w lt (Some s) f =
        let turn = shown_turn p e s n t h.is_of lits wide (ap (λ z. span_of z [] e) (sym h.is_of.sizes) ∙ f) w lt in
        record { is_of = turn_is_of names p k e (Some s) h.is_of; known = λ known. one_shorter k (simple (without_turns p.around) e) (s.greatest - 1) t turn p.around.lengths p.lasts us (h.known known) at }
    turn_holds p us k e n t h at lits wide w lt None f = h

    asked_holds : (p : PlainPlace) (us : List ℕ) (k : ℕ) (b : Formula) (n t : ℕ) → Holds p us → slice_get us k ≡ Some t → bound_value sizes b ≡ Some n → t < n → (e : Option Expression) → reading b ≡ e → Holds (with_turn_in p k e) us
    asked_holds p us k b n t h at w lt (Some e) f =
        let read = is_read b e f in
        turn_holds p us k e n t h at read.literals read.wide (ap (value (sizes_alone sizes) [] no_vars) read.same ∙ w) lt (span_of p.sizes [] e) refl
    asked_holds p us k b n t h at w lt None f = h

    module _ (ids : Ids) (same : ids.sizes ≡ sizes) where
      guarded_holds : (p : PlainPlace) (loops : List ℕ) (s : Start) (b : Formula) (n : ℕ) → Holds p (turns_of ids loops) → bound_value sizes b ≡ Some n → start_value ids s < n → Holds (guarded p s b) (turns_of ids loops)
      guarded_holds p loops (FromGroupId X) b n h w lt = asked_holds p (turns_of ids loops) 0 b n ids.x.group_id h refl w lt (reading b) refl
      guarded_holds p loops (FromLocalId X) b n h w lt = asked_holds p (turns_of ids loops) 1 b n ids.x.local_id h refl w lt (reading b) refl
      guarded_holds p loops (FromGroupId Y) b n h w lt = asked_holds p (turns_of ids loops) 2 b n ids.y.group_id h refl w lt (reading b) refl
      guarded_holds p loops (FromLocalId Y) b n h w lt = asked_holds p (turns_of ids loops) 3 b n ids.y.local_id h refl w lt (reading b) refl
      guarded_holds p loops (FromGlobalId d) b n h w lt = h
      guarded_holds p loops FromZero b n h w lt = h

      -- of the loops around, those that are outermost come first
      all_hold : (p : PlainPlace) (outer : List ℕ) (around : List Around) (turns : List ℕ) → Holds p (turns_of ids outer) → StandsIn ids around turns → Holds (within_all p around) (turns_of ids (outer ++ turns))
      all_hold p outer [] [] h stands = subst (λ us. Holds p (turns_of ids us)) (sym (append-nil outer)) h
      all_hold p outer [] (t ∷ turns) h stands = absurd stands
      all_hold p outer (InLoop b ∷ around) [] h stands = absurd stands
      all_hold p outer (InLoop b ∷ around) (t ∷ turns) h stands =
          subst (λ us. Holds (within_all (inside p b) around) (turns_of ids us)) (append_assoc outer (t ∷ []) turns)
          (all_hold (inside p b) (outer ++ t ∷ []) around turns (in_holds p (turns_of ids outer) b stands.0 t h (subst (λ z. bound_value z b ≡ Some stands.0) same stands.1) stands.2 (reading b) refl) stands.3)
      all_hold p outer (InIf s b ∷ around) turns h stands =
          all_hold (guarded p s b) outer around turns (guarded_holds p outer s b stands.0 h (subst (λ z. bound_value z b ≡ Some stands.0) same stands.1) stands.2) stands.3

      pub place_holds : (local : Option (ℕ × ℕ)) (around : List Around) (loops : List ℕ) → AreIds local ids → StandsIn ids around loops → Holds (place_of names local around) (turns_of ids loops)
      place_holds local around loops are stands =
          all_hold (outside names local) [] around loops
          (record { is_of = record { sizes = refl; multiples = refl }; known = λ known. (group_turn ids.x.group_id are.x.group, (own_turn (size_across local) ids.x.local_id are.x.own are.x.fits, (group_turn ids.y.group_id are.y.group, (own_turn (size_down local) ids.y.local_id are.y.own are.y.fits, tt)))) }) stands
