-- What stands for an argument, whichever arrays its copies lie in.
use Rattle.std.proofs.Common.{◌≡◌, ℕ, ◌+◌, ◌<◌, ◌^◌, Bool, true, false, List, [], ◌∷◌, refl, sym, subst}
use Rattle.std.specs.Prelude.{if◌then◌else◌}
use Rattle.kernel_tree.specs.Formula.{Formula}
use Rattle.kernel_tree.specs.Launch.{Launch}
use Rattle.lift_ir.specs.Types.{Ty, PairOf, ArrayOf, IsPart, width}
use Rattle.lift_ir.specs.Fours.{Lie, Loose, Whole, Serves, Lies, read_lie}
use Rattle.lift_ir.specs.Layouts.{Layout}
use Rattle.lift_ir.specs.Forms.{Stands}
use Rattle.lift_ir.specs.Loads.{held_scalars, LoadsSuffice}
use Rattle.lift_ir.specs.Terms.{Space, LocalMemory, PrivateMemory, Term, Bound, Source, Both, Project, Reshape, LetArray, Copy, push, HasType}
use Rattle.printed_form.specs.Arguments.{CopyArrays, is_private_space, private_arrays, arrays_of, marks_in, argument_view}
use Rattle.printed_form.specs.Counts.{private_count}
use Rattle.printed_form.specs.Expressions.{held}
use Rattle.printed_form.specs.Marks.{Nowhere, Marks, laid_in}
use Rattle.printed_form.specs.Means.{IsSpelled, Shows, LiesAs, AllShow}
use Rattle.printed_form.specs.Views.{Blank, View, held_sign, laid_view}
use Rattle.printed_form.proofs.Indices.{laid_cells}
use Rattle.printed_form.proofs.Held.{IsExprOf, IsExpr, HeldIn, held_push, all_push}
use Rattle.printed_form.proofs.Lies.{showing, serves, lie_serves, read_lies, laid_whole}
use Rattle.printed_form.proofs.Shown.{cells_show, moved_shows, zip_cells}

module _ {A : Type 0} (arrays : CopyArrays A) where
  -- an argument whose copies lie in these arrays
  abbrev pub IsArgument : Term A → Type 0
  IsArgument (Bound v) = Unit {0}
  IsArgument (Source s) = Unit {0}
  IsArgument (Both zips x y) = IsArgument x × IsArgument y
  IsArgument (Project s x) = IsArgument x
  IsArgument (Reshape y x) = IsArgument x
  IsArgument (LetArray v b) = IsArgument v × IsArgument b
  IsArgument (Copy space ty x) = arrays.holds space ≡ true
  IsArgument _ = ⊥

  -- its components that are in variables
  pub kept_is : (num : A → ℕ) (spell : A → Formula) (src : ℕ → Ty) (ins : ℕ → Marks) (sins : ℕ → View) (t : Term A) (g : ℕ → Ty) (views : ℕ → View) (env : ℕ → Marks) (h : ℕ → List Bool → Bool) (a : ℕ) (ty : Ty) (cs : List Bool) → HasType num src g t ty → IsPart ty cs → held_scalars h t cs ≡ true → HeldIn g views env h
      → IsExpr ty cs (held_sign (argument_view arrays spell sins views a t cs [])) (held (marks_in arrays num ins env a t cs))
  kept_is num spell src ins sins (Bound v) g views env h a ty cs ok w k r = subst (λ z. IsExpr z cs (held_sign (views v cs [])) (held (env v cs))) (sym ok) (r v cs (subst (λ z. IsPart z cs) ok w) k)
  kept_is num spell src ins sins (Both false x y) g views env h a ty [] ok w k r = absurd (cc)
  kept_is num spell src ins sins (Both false x y) g views env h a ty (false ∷ cs) ok w k r =
      let e = kept_is num spell src ins sins x g views env h a ok.0 cs ok.5 (subst (λ z. IsPart z (false ∷ cs)) ok.2 w) k r in
      record { expr = e.expr; kind = subst (λ z. IsExprOf z (false ∷ cs) e.expr) (sym ok.2) e.kind; by_signs = e.by_signs; by_marks = e.by_marks }
  kept_is num spell src ins sins (Both false x y) g views env h a ty (true ∷ cs) ok w k r =
      let e = kept_is num spell src ins sins y g views env h (a + arrays.count x) ok.1 cs ok.6 (subst (λ z. IsPart z (true ∷ cs)) ok.2 w) k r in
      record { expr = e.expr; kind = subst (λ z. IsExprOf z (true ∷ cs) e.expr) (sym ok.2) e.kind; by_signs = e.by_signs; by_marks = e.by_marks }
  kept_is num spell src ins sins (Both true x y) g views env h a ty [] ok w k r = absurd (cc)
  kept_is num spell src ins sins (Both true x y) g views env h a ty (c ∷ cs) ok w k r = absurd (subst (λ z. IsPart z (c ∷ cs)) ok.3 w)
  kept_is num spell src ins sins (Project false x) g views env h a ty cs ok w k r =
      let e = kept_is num spell src ins sins x g views env h a (PairOf ty ok.0) (false ∷ cs) ok.1 w k r in
      record { expr = e.expr; kind = e.kind; by_signs = e.by_signs; by_marks = e.by_marks }
  kept_is num spell src ins sins (Project true x) g views env h a ty cs ok w k r =
      let e = kept_is num spell src ins sins x g views env h a (PairOf ok.0 ty) (true ∷ cs) ok.1 w k r in
      record { expr = e.expr; kind = e.kind; by_signs = e.by_signs; by_marks = e.by_marks }
  kept_is num spell src ins sins (LetArray v b) g views env h a ty cs ok w k r =
      let x = argument_view arrays spell sins views a v in
      let y = marks_in arrays num ins env a v in
      kept_is num spell src ins sins b (push ok.0 g) (push x views) (push y env) (push (held_scalars h v) h) (a + arrays.count v) ty cs ok.2 w k
      (held_push ok.0 x y (held_scalars h v) g views env h (λ cs w k. kept_is num spell src ins sins v g views env h a ok.0 cs ok.1 w k r) r)
  kept_is num spell src ins sins _ g views env h a ty cs ok w k r = absurd (cc)

  -- it shows the cells of its copies and whatever else stands for it, and lies so
  module _ (l : Launch) (item : ℕ) (num : A → ℕ) (spell : A → Formula) (spelled : (n : A) → num n < 2 ^ 31 → IsSpelled l (spell n) (num n)) (src : ℕ → Ty) (ins : ℕ → Marks) (sins : ℕ → View) (ts : List ℕ) (gs : AllShow l item ts (λ v. Whole) src sins ins) where
    abbrev Both_of : Lie → Ty → View → Marks → Type 0
    Both_of z ty x y = Shows l item ts ty x y × LiesAs l item z ts ty x y

    loose : (z : Lie) (ty : Ty) (x : View) (y : Marks) → Serves Loose z → Shows l item ts ty x y → Both_of z ty x y
    loose z ty x y s h = (h, lie_serves l item Loose z ts ty x y s tt)

    pub argument_shows : (t : Term A) (lies : ℕ → Lie) (g : ℕ → Ty) (views : ℕ → View) (env : ℕ → Marks) (h : ℕ → List Bool → Bool) (a : ℕ) (ty : Ty) (z : Lie) → IsArgument t → HasType num src g t ty → LoadsSuffice h t → AllShow l item ts lies g views env → Lies lies t z
        → Shows l item ts ty (argument_view arrays spell sins views a t) (marks_in arrays num ins env a t) × LiesAs l item z ts ty (argument_view arrays spell sins views a t) (marks_in arrays num ins env a t)
    argument_shows (Bound v) lies g views env h a ty z f ok nm es s = subst (λ u. Both_of z u (views v) (env v)) (sym ok) (serves l item (lies v) z ts (g v) (views v) (env v) s (es v))
    argument_shows (Source v) lies g views env h a ty z f ok nm es s = subst (λ u. Both_of z u (sins v) (ins v)) (sym ok) (serves l item Whole z ts (src v) (sins v) (ins v) s (gs v))
    argument_shows (Both false x y) lies g views env h a ty z f ok nm es s =
        loose z ty _ _ s.2
        (subst (λ u. Shows l item ts u (argument_view arrays spell sins views a (Both false x y)) (marks_in arrays num ins env a (Both false x y))) (sym ok.2)
        ((argument_shows x lies g views env h a ok.0 Loose f.0 ok.5 nm.0 es s.0).0, (argument_shows y lies g views env h (a + arrays.count x) ok.1 Loose f.1 ok.6 nm.1 es s.1).0))
    argument_shows (Both true x y) lies g views env h a ty z f ok nm es s =
        loose z ty _ _ s.2
        (subst (λ u. Shows l item ts u (argument_view arrays spell sins views a (Both true x y)) (marks_in arrays num ins env a (Both true x y))) (sym ok.3)
        (zip_cells l item num spell spelled ts ok.0 ok.1 ok.2 _ _ _ _ (argument_shows x lies g views env h a (ArrayOf ok.0 ok.1) Loose f.0 ok.4 nm.0 es s.0).0 (argument_shows y lies g views env h (a + arrays.count x) (ArrayOf ok.0 ok.2) Loose f.1 ok.5 nm.1 es s.1).0))
    argument_shows (Project false x) lies g views env h a ty z f ok nm es s = loose z ty _ _ s.1 (argument_shows x lies g views env h a (PairOf ty ok.0) Loose f ok.1 nm es s.0).0.0
    argument_shows (Project true x) lies g views env h a ty z f ok nm es s = loose z ty _ _ s.1 (argument_shows x lies g views env h a (PairOf ok.0 ty) Loose f ok.1 nm es s.0).0.1
    argument_shows (Reshape y x) lies g views env h a ty z f ok nm es s =
        let p = argument_shows x lies g views env h a ok.0 s.0 f ok.1 nm es s.1 in
        let v = argument_view arrays spell sins views a x in
        let w = marks_in arrays num ins env a x in (
          moved_shows l item num spell spelled ts y ok.0 ty v w ok.5 ok.2 ok.3 ok.4 p.0,
          lie_serves l item (read_lie y s.0) z ts ty _ _ s.2 (read_lies l item num spell spelled y s.0 ts ok.0 ty v w ok.5 ok.2 ok.3 ok.4 p.1),
        )
    argument_shows (LetArray v b) lies g views env h a ty z f ok nm es s =
        let x = argument_view arrays spell sins views a v in
        let y = marks_in arrays num ins env a v in
        let p = argument_shows v lies g views env h a ok.0 s.0 f.0 ok.1 nm.0 es s.1 in
        argument_shows b (push s.0 lies) (push ok.0 g) (push x views) (push y env) (push (held_scalars h v) h) (a + arrays.count v) ty z f.1 ok.2 nm.1 (all_push l item ts s.0 ok.0 x y lies g views env (showing l item s.0 ts ok.0 x y p.0 p.1) es) s.2
    argument_shows (Copy space u x) lies g views env h a ty z f ok nm es s =
        let first = a + arrays.count x in
        let c = laid_cells l item num spell spelled ts arrays.array first u ok.1 nm.1 nm.0 in
        subst (λ b. Both_of z ty (if b then laid_view arrays.array first u else λ cs is. Blank) (if b then laid_in arrays.array first u else λ cs q. Nowhere)) (sym f)
        (subst (λ t. Both_of z t (laid_view arrays.array first u) (laid_in arrays.array first u)) (sym ok.0)
        (cells_show l item ts u _ _ c, lie_serves l item Whole z ts u _ _ (copy_lie space z s) (laid_whole l item ts arrays.array first u nm.1 nm.0)))
      where
        copy_lie : (space : Space) (z : Lie) → Lies lies (Copy space u x) z → Serves Whole z
        copy_lie LocalMemory z s = s
        copy_lie PrivateMemory z s = by_loose z s
          where
            by_loose : (z : Lie) → Serves Loose z → Serves Whole z
            by_loose Loose s = tt
            by_loose _ s = absurd (assumption)
    argument_shows _ lies g views env h a ty z f ok nm es s = absurd f

-- arrays whose copies are counted part by part
pub record CountsParts {A : Type 0} (arrays : CopyArrays A) : Type 0 where
  pub both : (zips : Bool) (x y : Term A) → arrays.count (Both zips x y) ≡ arrays.count x + arrays.count y
  pub part : (s : Bool) (x : Term A) → arrays.count (Project s x) ≡ arrays.count x
  pub layout : (y : Layout A) (x : Term A) → arrays.count (Reshape y x) ≡ arrays.count x
  pub bound : (v b : Term A) → arrays.count (LetArray v b) ≡ arrays.count v + arrays.count b
  pub copy : (space : Space) (ty : Ty) (x : Term A) → arrays.holds space ≡ true → arrays.count (Copy space ty x) ≡ arrays.count x + width ty

private_copy : {A : Type 0} (space : Space) (ty : Ty) (x : Term A) → is_private_space space ≡ true → private_count (Copy space ty x) ≡ private_count x + width ty
private_copy LocalMemory ty x h = absurd (cc)
private_copy PrivateMemory ty x h = refl

-- those of a space
pub counts_parts : {A : Type 0} (s : Space) → CountsParts (arrays_of {A = A} s)
counts_parts LocalMemory = record {
  both = λ zips x y. refl;
  part = λ s x. refl;
  layout = λ y x. refl;
  bound = λ v b. refl;
  copy = λ space ty x h. refl;
}
counts_parts PrivateMemory = record {
  both = λ zips x y. refl;
  part = λ s x. refl;
  layout = λ y x. refl;
  bound = λ v b. refl;
  copy = private_copy;
}

-- for one work-item
pub stands_argument : {A : Type 0} (t : Term A) → Stands false t → IsArgument private_arrays t
stands_argument (Bound v) sd = tt
stands_argument (Source s) sd = tt
stands_argument (Both zips x y) sd = (stands_argument x sd.0, stands_argument y sd.1)
stands_argument (Project s x) sd = stands_argument x sd
stands_argument (Reshape y x) sd = stands_argument x sd
stands_argument (LetArray v b) sd = (stands_argument v sd.0, stands_argument b sd.1)
stands_argument (Copy PrivateMemory ty x) sd = refl
stands_argument _ sd = absurd sd
