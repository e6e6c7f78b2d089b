-- What is known at a place in a kernel.
use Rattle.std.specs.Prelude.{ℕ, zero, suc, ◌-◌, min, Bool, true, false, List, [], ◌∷◌, ◌++◌, map, Option, Some, None, option_map}
use Rattle.size_arith.specs.declared.names.Name.{Name}
use Rattle.index_expr.specs.declared.operation.Operation.TheVariants.{Product}
use Rattle.index_expr.specs.Expression.{Expression, Literal, Binary}
use Rattle.kernel_tree.specs.Formula.{Formula}
use Rattle.kernel_tree.specs.Code.{Start, FromGroupId, FromLocalId}
use Rattle.length_spelling.specs.Turns.{group_turn, local_turn}
use Rattle.index_simplify.specs.PlainRanges.{PlainRanges, ranges_of}
use Rattle.index_simplify.specs.Operations.{simple}
use Rattle.tidy_indices.specs.declared.places.Place.{Place}
use Rattle.tidy_indices.specs.declared.spans.Span.{Span}
use Rattle.tidy_indices.specs.Reading.{reading}
use Rattle.tidy_indices.specs.Spans.{span_of}
use Rattle.tidy_indices.specs.Around.{Around, InLoop, InIf}

-- the declared sizes, the lengths of the turns and what sizes are multiples of, how great each turn
-- is at most, and whether each bound spells an index expression
pub record PlainPlace : Type 0 where
  pub sizes : List Name
  pub around : PlainRanges
  pub lasts : List ℕ
  pub is_known : Bool

-- the place that lies in memory
abbrev pub plain_place : Place → PlainPlace
plain_place p =
    record {
      sizes = p.sizes.items;
      around = ranges_of p.around;
      lasts = p.lasts.items;
      is_known = p.is_known;
    }

-- of sizes alone
abbrev pub ranges_outside : List Name → PlainRanges
ranges_outside names = record { lengths = []; multiples = map (λ n. n.multiple) names }

-- the same without what is known of turns
abbrev pub without_turns : PlainRanges → PlainRanges
without_turns r = record { lengths = []; multiples = r.multiples }

-- 2^32, which is above each word
abbrev pub beyond_words : Expression
beyond_words = Binary Product (Literal 65536) (Literal 65536)

-- there are at most 65,536 items, so a group's id is below that in each dimension
abbrev pub group_length : Expression
group_length = Literal 65536

-- the greatest id that a group may have
abbrev pub group_last : ℕ
group_last = 65535

-- an item's id in its group is below the group's size in that dimension, where the kernel asks for
-- one; else it is a word, and no more is known
abbrev pub local_length : Option ℕ → Expression
local_length (Some size) = Literal size
local_length None = beyond_words

-- the greatest id that an item may have in its group
abbrev pub local_last : Option ℕ → ℕ
local_last (Some size) = size - 1
local_last None = 4294967295

-- the size along a row that a kernel asks for, and the one from row to row
abbrev pub size_across : Option (ℕ × ℕ) → Option ℕ
size_across local = option_map (λ size. size.0) local

abbrev pub size_down : Option (ℕ × ℕ) → Option ℕ
size_down local = option_map (λ size. size.1) local

-- what the ids are below, in the order of their numbers as turns
abbrev pub id_lengths : (local : Option (ℕ × ℕ)) → List Expression
id_lengths local =
    group_length ∷ local_length (size_across local)
    ∷ group_length ∷ local_length (size_down local) ∷ []

-- and how great they are at most
abbrev pub id_lasts : (local : Option (ℕ × ℕ)) → List ℕ
id_lasts local =
    group_last ∷ local_last (size_across local) ∷ group_last ∷ local_last (size_down local) ∷ []

-- outside of all loops, in a kernel that asks for groups of this size
abbrev pub outside : List Name → (local : Option (ℕ × ℕ)) → PlainPlace
outside names local = record {
  sizes = names;
  around = record {
    lengths = id_lengths local;
    multiples = (ranges_outside names).multiples;
  };
  lasts = id_lasts local;
  is_known = true;
}

-- in one loop more
abbrev pub with_loop : PlainPlace → (length : Expression) → (last : ℕ) → PlainPlace
with_loop p e g = record {
  sizes = p.sizes;
  around = record { lengths = p.around.lengths ++ e ∷ []; multiples = p.around.multiples };
  lasts = p.lasts ++ g ∷ [];
  is_known = p.is_known;
}

-- where the bound may wrap, the turns are words, and no more is known
abbrev pub in_loop_of : PlainPlace → Expression → Option Span → PlainPlace
in_loop_of p e (Some s) = with_loop p (simple (without_turns p.around) e) (s.greatest - 1)
in_loop_of p e None = with_loop p beyond_words 4294967295

-- in one loop more; where its bound spells no index expression, this is noted
abbrev pub in_loop : PlainPlace → Option Expression → PlainPlace
in_loop p (Some e) = in_loop_of p e (span_of p.sizes [] e)
in_loop p None = record { sizes = p.sizes; around = p.around; lasts = p.lasts; is_known = false }

-- in one loop more, with this bound
abbrev pub inside : PlainPlace → (bound : Formula) → PlainPlace
inside p b = in_loop p (reading b)

-- the turn that an `if` asks of: a group's id or an item's own
abbrev pub asked_turn : Start → Option ℕ
asked_turn (FromGroupId d) = Some (group_turn d)
asked_turn (FromLocalId d) = Some (local_turn d)
asked_turn _ = None

-- the shorter of two lengths in numbers; else the one that is told last, since how great the turn
-- is at most tells the number too
abbrev pub shorter : (known told : Expression) → Expression
shorter (Literal m) (Literal n) = Literal (min m n)
shorter _ e = e

-- the entry of this number changed, where there is one
abbrev pub changed_at : {A : Type 0} → (k : ℕ) → (A → A) → List A → List A
changed_at k f [] = []
changed_at zero f (x ∷ xs) = f x ∷ xs
changed_at (suc k) f (x ∷ xs) = x ∷ changed_at k f xs

-- where a turn is known to be below this length too, so great at most
abbrev pub with_turn_below :
    PlainPlace → (turn : ℕ) → (length : Expression) → (last : ℕ) → PlainPlace
with_turn_below p k e g = record {
  sizes = p.sizes;
  around = record {
    lengths = changed_at k (λ known. shorter known e) p.around.lengths;
    multiples = p.around.multiples;
  };
  lasts = changed_at k (λ known. min known g) p.lasts;
  is_known = p.is_known;
}

-- a bound that may wrap tells nothing of the turn
abbrev pub with_turn_within : PlainPlace → (turn : ℕ) → Expression → Option Span → PlainPlace
with_turn_within p k e (Some s) =
    with_turn_below p k (simple (without_turns p.around) e) (s.greatest - 1)
with_turn_within p k e None = p

-- nor does one that is no index expression
abbrev pub with_turn_in : PlainPlace → (turn : ℕ) → Option Expression → PlainPlace
with_turn_in p k (Some e) = with_turn_within p k e (span_of p.sizes [] e)
with_turn_in p k None = p

-- in an `if` more, which asks of this turn, or of none
abbrev pub in_if : PlainPlace → (turn : Option ℕ) → (bound : Option Expression) → PlainPlace
in_if p (Some k) e = with_turn_in p k e
in_if p None e = p

-- in an `if` more, which asks whether this start is below this bound
abbrev pub guarded : PlainPlace → Start → (bound : Formula) → PlainPlace
guarded p s b = in_if p (asked_turn s) (reading b)

-- in one statement more
abbrev pub within : PlainPlace → Around → PlainPlace
within p (InLoop b) = inside p b
within p (InIf s b) = guarded p s b

-- in statements more, the outermost first
abbrev pub within_all : PlainPlace → List Around → PlainPlace
within_all p [] = p
within_all p (x ∷ around) = within_all (within p x) around

-- in statements, the outermost first, in a kernel with these sizes
abbrev pub place_of : List Name → (local : Option (ℕ × ℕ)) → List Around → PlainPlace
place_of names local around = within_all (outside names local) around
