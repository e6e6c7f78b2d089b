-- What is around a node, from the root on. Each takes what is around the
-- parent, and the parent's type.
use Rattle.std.specs.Prelude.{Bool, true, false, not, ◌&&◌, ◌||◌, List, [], Option, Some, None, if◌then◌else◌}
use Rattle.lift_tree.specs.declared.term.UnaryForm.{UnaryForm}
use Rattle.lift_tree.specs.declared.term.UnaryForm.TheVariants.{Div, Rem, First, Second, Layout, Slide, Pad, ToLocal, ToPrivate, Then}
use Rattle.lift_tree.specs.declared.layout.Layout as layouts
use Rattle.lift_tree.specs.declared.layout.Layout.TheVariants as layout
use Rattle.lift_tree.specs.declared.term.Level.{Level}
use Rattle.lift_tree.specs.declared.term.Level.TheVariants.{Items}
use Rattle.lift_tree.specs.declared.term.MapKind.{MapKind}
use Rattle.lift_tree.specs.Tree.{Tree}
use Rattle.lift_tree.specs.Types.{PlainTy, is_element}
use Rattle.lowered_tree.specs.Kinds.{same_level, is_global, is_over_groups, is_local, is_sequential, is_parallel, is_over_rows, is_task, has_rows}
use Rattle.lowered_tree.specs.Pairs.{pair_begun}
use Rattle.lowered_tree.specs.Aligned.{under_bound, under_fold}
use Rattle.lowered_tree.specs.Forms.{is_written_through}
use Rattle.lowered_tree.specs.declared.around.Around as held
use Rattle.lowered_tree.specs.declared.around.AddressSpace.{AddressSpace}
use Rattle.lowered_tree.specs.declared.around.AddressSpace.TheVariants.{Global, Local, Private}

-- what code holds of it, and which of the binders around, from the nearest on, are bound to aligned
-- arrays, or to elements of these
pub record Around : Type 0 where
  pub is_written : Bool
  pub in_argument : Bool
  pub in_element : Bool
  pub in_item : Bool
  pub in_group : Bool
  pub in_local : Bool
  pub in_parallel : Bool
  pub is_next_to_group : Bool
  pub in_serial : Bool
  pub is_paired : Bool
  pub awaited : Option Level
  pub is_between : Bool
  pub in_rows : Bool
  pub is_reordered : Bool
  pub space : AddressSpace
  pub aligned : List Bool

-- what is around a node, where such binders are
abbrev pub around_of : held.Around → (aligned : List Bool) → Around
around_of s g = record {
  is_written = s.is_written;
  in_argument = s.in_argument;
  in_element = s.in_element;
  in_item = s.in_item;
  in_group = s.in_group;
  in_local = s.in_local;
  in_parallel = s.in_parallel;
  is_next_to_group = s.is_next_to_group;
  in_serial = s.in_serial;
  is_paired = s.is_paired;
  awaited = s.awaited;
  is_between = s.is_between;
  in_rows = s.in_rows;
  is_reordered = s.is_reordered;
  space = s.space;
  aligned = g;
}

-- the root is a writing position; in a term without parallel maps everything is one work-item's
abbrev pub at_root : Tree → Around
at_root t = record {
  is_written = true;
  in_argument = false;
  in_element = false;
  in_item = is_task t;
  in_group = false;
  in_local = false;
  in_parallel = false;
  is_next_to_group = false;
  in_serial = false;
  is_paired = has_rows t;
  awaited = None;
  is_between = false;
  in_rows = false;
  is_reordered = false;
  space = Global;
  aligned = [];
}

-- a child that is no argument, body or copy
abbrev pub operand : Around → PlainTy → Around
operand s a =
    record s { is_written = false; in_element = s.in_element || is_element a; awaited = None }

-- what is due below a layout, where this is due at it: the inner map of a pair is seen through
-- join, split and transpose alone
abbrev pub awaited_through : layouts.Layout → Option Level → Option Level
awaited_through layout.Join due = due
awaited_through layout.Transpose due = due
awaited_through (layout.Split m) due = due
awaited_through layout.Reverse due = None
awaited_through (layout.Stride m) due = None
awaited_through layout.AsVector due = None
awaited_through layout.AsScalar due = None

-- a layout other than join and split
abbrev pub reorders : layouts.Layout → Bool
reorders layout.Join = false
reorders layout.Transpose = true
reorders (layout.Split m) = false
reorders layout.Reverse = true
reorders (layout.Stride m) = true
reorders layout.AsVector = true
reorders layout.AsScalar = true

-- the operand of a layout that is written through: in writing position where the layout is
abbrev pub passed : Around → layouts.Layout → PlainTy → Around
passed s l a =
    record s {
      is_written = s.is_written
          && not (is_element a);
      in_element = s.in_element || is_element a;
      awaited = awaited_through l s.awaited;
      is_reordered = s.is_reordered || reorders l;
    }

-- the operand of a layout, through which writing goes or doesn't
abbrev pub laid_out : Around → layouts.Layout → PlainTy → Around
laid_out s l a = if is_written_through l then passed s l a else operand s a

-- the operand of a copy to this space
abbrev pub copied : Around → AddressSpace → PlainTy → Around
copied s space a =
    record s {
      is_written = true;
      in_argument = false;
      in_element = s.in_element
          || is_element a;
      awaited = None;
      is_reordered = false;
      space = space;
    }

-- the operand of a form at a node of this type
abbrev pub under_form : Around → UnaryForm → PlainTy → Around
under_form s (Div n) a = operand s a
under_form s (Rem n) a = operand s a
under_form s First a = operand s a
under_form s Second a = operand s a
under_form s (Layout l) a = laid_out s l a
under_form s (Slide n m) a = operand s a
under_form s (Pad n m) a = operand s a
under_form s ToLocal a = copied s Local a
under_form s ToPrivate a = copied s Private a
under_form s Then a = operand s a

-- the array of a map or fold, or a let's value. An element is no argument
abbrev pub argument : Around → (of_element : Bool) → PlainTy → Around
argument s e a =
    record s {
      is_written = false;
      in_argument = s.in_argument || not e;
      in_element = s.in_element
          || is_element a;
      awaited = None;
    }

-- a let's body, where the value is an element or isn't
abbrev pub let_body : Around → (of_element : Bool) → (value : Tree) → PlainTy → Around
let_body s e v a = record s {
  is_written = s.is_written && not (is_element a);
  in_element = s.in_element || is_element a;
  in_serial = s.in_serial || e;
  awaited = None;
  aligned = under_bound s.aligned v;
}

-- the body of a map that begins a pair of this level: the pair is one map, whose body is the inner
-- one's
abbrev pub outer_body : Around → Level → (array : Tree) → PlainTy → Around
outer_body s l xs a = record s {
  is_written = true;
  in_element = s.in_element || is_element a;
  awaited = Some l;
  is_between = true;
  in_rows = s.in_rows || same_level l Items;
  aligned = under_bound s.aligned xs;
}

-- the body of a map of this kind that begins no pair
abbrev pub own_body : Around → MapKind → (array : Tree) → PlainTy → Around
own_body s k xs a = record {
  is_written = true;
  in_argument = s.in_argument;
  in_element = s.in_element || is_element a;
  in_item = s.in_item || is_global k || is_local k;
  in_group = s.in_group || is_over_groups k;
  in_local = s.in_local || is_local k;
  in_parallel = s.in_parallel || is_parallel k;
  is_next_to_group = is_over_groups k;
  in_serial = s.in_serial || is_sequential k;
  is_paired = s.is_paired;
  awaited = None;
  is_between = false;
  in_rows = s.in_rows || (is_local k && is_over_rows k);
  is_reordered = s.is_reordered;
  space = s.space;
  aligned = under_bound s.aligned xs;
}

-- one of these, as the map begins a pair or doesn't
abbrev pub body_of : Option Level → Around → MapKind → (array : Tree) → PlainTy → Around
body_of (Some l) s k xs a = outer_body s l xs a
body_of None s k xs a = own_body s k xs a

-- the body of a map of this kind over this array with this body, which writes its value
abbrev pub map_body : Around → MapKind → (array body : Tree) → PlainTy → Around
map_body s k xs b a = body_of (pair_begun k b) s k xs a

-- the body of a fold, whose value is an accumulator and is not written
abbrev pub fold_body : Around → PlainTy → Around
fold_body s a =
    record s {
      is_written = false;
      in_element = s.in_element
          || is_element a;
      is_next_to_group = false;
      awaited = None;
      aligned = under_fold s.aligned;
    }
