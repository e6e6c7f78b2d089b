-- What stands for an argument is made of what stands for its parts.
use Rattle.std.specs.Prelude.{ℕ, ◌+◌, Bool}
use Rattle.lift_ir.specs.Types.{Ty}
use Rattle.lift_ir.specs.Layouts.{Layout}
use Rattle.lift_ir.specs.Terms.{Space, Term, Bound, Source, Both, Project, Reshape, LetArray, Copy, push}

-- what is made of it at each form of an argument, whose lengths are of A
pub record Standing (A B : Type 0) : Type 0 where
  -- for an input
  pub source : (input : ℕ) → B
  -- for a zip of two arrays
  pub both : (left right : B) → B
  -- for one side of an array of pairs
  pub side : (second : Bool) → B → B
  -- through a layout
  pub through : Layout A → B → B
  -- for a let, of what stands for its body
  pub in_let : (body : B) → B
  -- for a copy of this type, before which there are so many copies
  pub copy : (number : ℕ) → Space → Ty → B
  -- for a term that is no argument
  pub nothing : B

-- what stands for an argument before which there are so many copies, where a term has as many as are
-- counted, and binders stand for these
abbrev pub stands_for : {A B : Type 0} → Standing A B → (copies : Term A → ℕ) → (ℕ → B) → ℕ
    → Term A → B
stands_for s copies env k (Bound v) = env v
stands_for s copies env k (Source v) = s.source v
stands_for s copies env k (Both zips x y) =
    s.both (stands_for s copies env k x) (stands_for s copies env (k + copies x) y)
stands_for s copies env k (Project second x) = s.side second (stands_for s copies env k x)
stands_for s copies env k (Reshape y x) = s.through y (stands_for s copies env k x)
stands_for s copies env k (LetArray v b) =
    s.in_let (stands_for s copies (push (stands_for s copies env k v) env) (k + copies v) b)
stands_for s copies env k (Copy space ty x) = s.copy (k + copies x) space ty
stands_for s copies env k _ = s.nothing
