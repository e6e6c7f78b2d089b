-- A turn alone stays when it is made tidy.
use Rattle.std.proofs.Common.{◌≡◌, ℕ, ◌^◌, Bool, true, false, Option, Some, None, refl}
use Rattle.std.specs.Prelude.{nat_lt, if◌then◌else◌, option_map}
use Rattle.kernel_tree.specs.declared.tree.Dimension.TheVariants.{X, Y}
use Rattle.kernel_tree.specs.Formula.{Formula, LoopVariable, Id, GlobalId, GroupId, LocalId, GlobalSize, GroupCount, LocalSize}
use Rattle.length_spelling.specs.Turns.{loop_turn, turn_formula}
use Rattle.tidy_indices.specs.declared.spans.Span.{Span}
use Rattle.tidy_indices.specs.Reading.{any_turn, reading}
use Rattle.tidy_indices.specs.Spans.{span_of}
use Rattle.tidy_indices.specs.Places.{PlainPlace, place_of}
use Rattle.tidy_indices.specs.Tidy.{tidied_by, tidied_reading}
use Rattle.tidy_printed.specs.TidyLaws.{IsTurnAlone, TurnsStay}

module _ (p : PlainPlace) where
  -- whatever is known of it
  read_stays : (n : ℕ) (s : Option Span) → tidied_by p s (any_turn n) ≡ turn_formula n
  read_stays n (Some s) = refl
  read_stays n None = refl

  loop_stays : (k : ℕ) (b : Bool) → tidied_reading p (LoopVariable k) (option_map any_turn (if b then Some (loop_turn k) else None)) ≡ LoopVariable k
  loop_stays k true = read_stays (loop_turn k) (span_of p.sizes p.lasts (any_turn (loop_turn k)))
  loop_stays k false = refl

  known_stays : (f : Formula) → IsTurnAlone f → tidied_reading p f (reading f) ≡ f
  known_stays (LoopVariable k) h = loop_stays k (nat_lt (loop_turn k) (2 ^ 32))
  known_stays (Id X GroupId) h = read_stays 0 (span_of p.sizes p.lasts (any_turn 0))
  known_stays (Id X LocalId) h = read_stays 1 (span_of p.sizes p.lasts (any_turn 1))
  known_stays (Id Y GroupId) h = read_stays 2 (span_of p.sizes p.lasts (any_turn 2))
  known_stays (Id Y LocalId) h = read_stays 3 (span_of p.sizes p.lasts (any_turn 3))
  known_stays (Id d GlobalId) h = refl
  known_stays (Id d GlobalSize) h = refl
  known_stays (Id d GroupCount) h = refl
  known_stays (Id d LocalSize) h = refl
  known_stays _ h = absurd h

  stays : (f : Formula) (known : Bool) → IsTurnAlone f → (if known then tidied_reading p f (reading f) else f) ≡ f
  stays f true h = known_stays f h
  stays f false h = refl

pub turns_stay : TurnsStay
turns_stay names local around f h = let p = place_of names local around in stays (place_of names local around) f p.is_known h
