-- Where vectors lie, as the printer's views tell it: in no private array.
use Rattle.std.proofs.Common.{◌≡◌, ℕ, zero, suc, ◌+◌, true, false, Bool, List, [], ◌∷◌, refl}
use Rattle.kernel_tree.specs.Formula.{Formula}
use Rattle.kernel_tree.specs.Code.{Array, Local as LocalArray}
use Rattle.kernel_tree.specs.Grammar.{is_shared}
use Rattle.lift_ir.specs.Types.{Ty, Scalar, PairOf, ArrayOf, component}
use Rattle.lift_ir.specs.Layouts.{Layout, Split, Join, Transpose, Reverse, Slide, Pad}
use Rattle.lift_ir.specs.Terms.{LoadSet, Skip, Take, TakeFour, Each, Space, LocalMemory, PrivateMemory, Term, Bound, Source, Both, Project, Reshape, LetArray, Copy, push}
use Rattle.lift_ir.specs.Fours as fours
use Rattle.lift_ir.specs.Fours.{Lie, Loose, Whole, InFours, Serves, element_lie, read_lie, written_lie, bound_lie, held_lie, Lies}
use Rattle.printed_form.specs.Arguments.{arrays_of, argument_view}
use Rattle.printed_form.specs.Counts.{Count, more, held_count, local_count}
use Rattle.printed_form.specs.Views.{Sign, Blank, Held, HeldFour, Read, View, held_view, loaded_view, view_at, row_sign, view_of_rows, operand_indices, result_indices, reshaped_view, rewritten_view, laid_view}
use Rattle.printed_form.specs.GrammarViews.{IsSharedSign, LiesShared, AllLieShared}

-- no scalar of it is in a private array
abbrev pub AllShared : View → Type 0
AllShared x = (cs : List Bool) (is : List Formula) → IsSharedSign (x cs is)

pub lies_anyhow : (y : Lie) (x : View) → AllShared x → LiesShared y x
lies_anyhow fours.Held x h = tt
lies_anyhow Loose x h = tt
lies_anyhow Whole x h = h
lies_anyhow (InFours k) x h = h

-- what is loose serves what is loose alone
loose_alone : (y : Lie) (x : View) → Serves Loose y → LiesShared y x
loose_alone fours.Held x s = tt
loose_alone Loose x s = tt
loose_alone Whole x s = absurd s
loose_alone (InFours k) x s = absurd s

pub lies_served : (y z : Lie) (x : View) → Serves y z → LiesShared y x → LiesShared z x
lies_served fours.Held z x s h = absurd s
lies_served Loose z x s h = loose_alone z x s
lies_served Whole z x s h = lies_anyhow z x h
lies_served (InFours j) z x s h = lies_anyhow z x h

pub lies_at_turn : (turn : Formula) (y : Lie) (x : View) → LiesShared y x → LiesShared (element_lie y) (view_at turn x)
lies_at_turn turn fours.Held x h = tt
lies_at_turn turn Loose x h = tt
lies_at_turn turn Whole x h = λ cs is. h cs (turn ∷ is)
lies_at_turn turn (InFours zero) x h = tt
lies_at_turn turn (InFours (suc k)) x h = λ cs is. h cs (turn ∷ is)

pub lies_bound : (loads : LoadSet) (y : Lie) (n : Count) (x : View) → LiesShared y x → LiesShared (bound_lie loads y) (loaded_view loads x n)
lies_bound Skip y n x h = h
lies_bound Take y n x h = tt
lies_bound TakeFour y n x h = tt
lies_bound (Each a b) y n x h = tt

-- what is held in variables is in no array
pub lies_held : (ty : Ty) (n : Count) → LiesShared (held_lie ty) (held_view ty n)
lies_held ty n = lies_anyhow (held_lie ty) (held_view ty n) (held_shared ty n)
  where
    held_shared : (ty : Ty) (n : Count) → AllShared (held_view ty n)
    held_shared Scalar n cs is = tt
    held_shared (ArrayOf m t) n cs is = tt
    held_shared (PairOf a b) n [] is = tt
    held_shared (PairOf a b) n (false ∷ cs) is = held_shared a n cs is
    held_shared (PairOf a b) n (true ∷ cs) is = held_shared b (more n (held_count a)) cs is

pub lies_laid : (form : ℕ → Array) (first : ℕ) (ty : Ty) (y : Lie) → ((n : ℕ) → is_shared (form n) ≡ true) → LiesShared y (laid_view form first ty)
lies_laid form first ty y h = lies_anyhow y (laid_view form first ty) (λ cs is. h (first + component ty cs))

pub lies_pushed : (lies : ℕ → Lie) (env : ℕ → View) (y : Lie) (x : View) → LiesShared y x → AllLieShared lies env → AllLieShared (push y lies) (push x env)
lies_pushed lies env y x h all zero = h
lies_pushed lies env y x h all (suc v) = all v

-- ---- through layouts
row_shared : (i m : Formula) (s : Sign) → IsSharedSign s → IsSharedSign (row_sign i m s)
row_shared i m Blank h = h
row_shared i m (Held v) h = h
row_shared i m (HeldFour v) h = h
row_shared i m (Read a f) h = h

rows_shared : (m : Formula) (x : View) → AllShared x → AllShared (view_of_rows m x)
rows_shared m x h cs [] = h cs []
rows_shared m x h cs (i ∷ []) = row_shared i m _ (h cs _)
rows_shared m x h cs (i ∷ j ∷ p) = h cs _

module _ {A : Type 0} (spell : A → Formula) where
  reshaped_shared : (m : Layout A) (x : View) → AllShared x → AllShared (reshaped_view spell m x)
  reshaped_shared (Split n) x h = rows_shared (spell n) x h
  reshaped_shared (Join n) x h = λ cs is. h cs (operand_indices spell (Join n) is)
  reshaped_shared Transpose x h = λ cs is. h cs (operand_indices spell Transpose is)
  reshaped_shared (Reverse n) x h = λ cs is. h cs (operand_indices spell (Reverse n) is)
  reshaped_shared (Slide s t) x h = λ cs is. h cs (operand_indices spell (Slide s t) is)
  reshaped_shared (Pad l r n) x h = λ cs is. h cs (operand_indices spell (Pad l r n) is)

  rewritten_shared : (m : Layout A) (w : View) → AllShared w → AllShared (rewritten_view spell m w)
  rewritten_shared (Join n) w h = rows_shared (spell n) w h
  rewritten_shared (Split n) w h = λ cs is. h cs (result_indices spell (Split n) is)
  rewritten_shared Transpose w h = λ cs is. h cs (result_indices spell Transpose is)
  rewritten_shared (Reverse n) w h = λ cs is. h cs (result_indices spell (Reverse n) is)
  rewritten_shared (Slide s t) w h = λ cs is. h cs (result_indices spell (Slide s t) is)
  rewritten_shared (Pad l r n) w h = λ cs is. h cs (result_indices spell (Pad l r n) is)

  read_loose : (m : Layout A) (x : View) → LiesShared (read_lie m Loose) x
  read_loose (Split n) x = tt
  read_loose (Join n) x = tt
  read_loose Transpose x = tt
  read_loose (Reverse n) x = tt
  read_loose (Slide s t) x = tt
  read_loose (Pad l r n) x = tt

  written_loose : (m : Layout A) (w : View) → LiesShared (written_lie m Loose) w
  written_loose (Split n) w = tt
  written_loose (Join n) w = tt
  written_loose Transpose w = tt
  written_loose (Reverse n) w = tt
  written_loose (Slide s t) w = tt
  written_loose (Pad l r n) w = tt

  read_held : (m : Layout A) (x : View) → LiesShared (read_lie m fours.Held) x
  read_held (Split n) x = tt
  read_held (Join n) x = tt
  read_held Transpose x = tt
  read_held (Reverse n) x = tt
  read_held (Slide s t) x = tt
  read_held (Pad l r n) x = tt

  written_held : (m : Layout A) (w : View) → LiesShared (written_lie m fours.Held) w
  written_held (Split n) w = tt
  written_held (Join n) w = tt
  written_held Transpose w = tt
  written_held (Reverse n) w = tt
  written_held (Slide s t) w = tt
  written_held (Pad l r n) w = tt

  pub lies_read : (m : Layout A) (y : Lie) (x : View) → LiesShared y x → LiesShared (read_lie m y) (reshaped_view spell m x)
  lies_read m fours.Held x h = read_held m (reshaped_view spell m x)
  lies_read m Loose x h = read_loose m (reshaped_view spell m x)
  lies_read m Whole x h = lies_anyhow (read_lie m Whole) (reshaped_view spell m x) (reshaped_shared m x h)
  lies_read m (InFours k) x h = lies_anyhow (read_lie m (InFours k)) (reshaped_view spell m x) (reshaped_shared m x h)

  pub lies_written : (m : Layout A) (y : Lie) (w : View) → LiesShared y w → LiesShared (written_lie m y) (rewritten_view spell m w)
  lies_written m fours.Held w h = written_held m (rewritten_view spell m w)
  lies_written m Loose w h = written_loose m (rewritten_view spell m w)
  lies_written m Whole w h = lies_anyhow (written_lie m Whole) (rewritten_view spell m w) (rewritten_shared m w h)
  lies_written m (InFours k) w h = lies_anyhow (written_lie m (InFours k)) (rewritten_view spell m w) (rewritten_shared m w h)

  -- what stands for an argument lies as it does, where inputs are in no private array
  module _ (ins : ℕ → View) (shared : (s : ℕ) → AllShared (ins s)) where
    copy_lies : (s : Space) (first : ℕ) (env : ℕ → View) (ty : Ty) (a : Term A) (y : Lie) → LiesShared y (argument_view (arrays_of s) spell ins env first (Copy LocalMemory ty a))
    copy_lies LocalMemory first env ty a y = lies_laid LocalArray (first + local_count a) ty y (λ n. refl)
    copy_lies PrivateMemory first env ty a y = lies_anyhow y _ (λ cs is. tt)

    pub argument_lies : (s : Space) (first : ℕ) (lies : ℕ → Lie) (env : ℕ → View) (t : Term A) (y : Lie) → AllLieShared lies env → Lies lies t y → LiesShared y (argument_view (arrays_of s) spell ins env first t)
    argument_lies s first lies env (Bound v) y all h = lies_served (lies v) y (env v) h (all v)
    argument_lies s first lies env (Source v) y all h = lies_anyhow y (ins v) (shared v)
    argument_lies s first lies env (Both zips a b) y all h = loose_alone y _ h.2
    argument_lies s first lies env (Project c a) y all h = loose_alone y _ h.1
    argument_lies s first lies env (Reshape m a) y all h =
        let x = argument_view (arrays_of s) spell ins env first a in
        lies_served (read_lie m h.0) y (reshaped_view spell m x) h.2 (lies_read m h.0 x (argument_lies s first lies env a h.0 all h.1))
    argument_lies s first lies env (LetArray v b) y all h =
        let x = argument_view (arrays_of s) spell ins env first v in
        argument_lies s (first + (arrays_of s).count v) (push h.0 lies) (push x env) b y (lies_pushed lies env h.0 x (argument_lies s first lies env v h.0 all h.1) all) h.2
    argument_lies s first lies env (Copy LocalMemory ty a) y all h = copy_lies s first env ty a y
    argument_lies s first lies env _ y all h = loose_alone y _ h
