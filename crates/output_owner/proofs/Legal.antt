-- A written term of a legal nest, and what it is written through.
use Rattle.std.proofs.Common.{◌≡◌, ℕ, Bool, true, false, List, ◌∷◌, refl, ap, subst}
use Rattle.std.proofs.lemmas.Bool.{and_from, both_ways, not_from_false}
use Rattle.std.specs.Prelude.{not, ◌&&◌, Option, Some, None, if◌then◌else◌}
use Rattle.size_arith.specs.declared.names.Name.{Name}
use Rattle.lift_tree.specs.declared.layout.Layout as layout
use Rattle.lift_tree.specs.declared.layout.Layout.TheVariants as layouts
use Rattle.lift_tree.specs.declared.term.UnaryForm.{UnaryForm}
use Rattle.lift_tree.specs.declared.term.UnaryForm.TheVariants.{Layout, Slide, Pad}
use Rattle.lift_tree.specs.declared.term.Level.{Level}
use Rattle.lift_tree.specs.declared.term.MapKind.{MapKind}
use Rattle.lift_tree.specs.Annotations.{Annotation, One, Two, type_in}
use Rattle.lift_tree.specs.Tree.{Tree, Unary, Let, Map}
use Rattle.lift_tree.specs.Types.{PlainTy, IsFormed, is_element}
use Rattle.lift_tree.proofs.Formed.{formed_in}
use Rattle.lift_tree.proofs.Layouts.{layout_result}
use Rattle.lowered_tree.specs.Around.{Around, body_of, laid_out, let_body, map_body, operand, passed}
use Rattle.lowered_tree.specs.declared.rule.NestRule.TheVariants.{N10}
use Rattle.lowered_tree.specs.Forms.{is_written_through}
use Rattle.lowered_tree.specs.Pairs.{pair_begun}
use Rattle.nest_premises.specs.Unbroken.{IsUnbrokenAt, AllUnbroken}
use Rattle.output_owner.specs.Written.{IsWritten}

-- what is below is written too, where this is no element
still_written : (w e : Bool) → w ≡ true → e ≡ false → (w && not e) ≡ true
still_written w e h k = and_from w (not e) h (not_from_false e k)

-- nothing that is read alone is written, but an element
not_read_alone : (w e : Bool) → w ≡ true → e ≡ false → (w && not e && true) ≡ false → ⊥
not_read_alone w e h k r = both_ways (w && not e && true) r (and_from (w && not e) true (still_written w e h k) refl)

-- a map's body is written, whether the map begins a pair or not
body_written : (s : Around) (k : MapKind) (xs b : Tree) (a : PlainTy) → (map_body s k xs b a).is_written ≡ true
body_written s k xs b a = go (pair_begun k b)
  where
    go : (due : Option Level) → (body_of due s k xs a).is_written ≡ true
    go None = refl
    go (Some l) = refl

-- an unbroken layout that is written, and no element, is written through
is_through : (s : Around) (l : layout.Layout) (t : Tree) (a : PlainTy) (n : Annotation) → IsUnbrokenAt s (Unary (Layout l) t) (One a n) → s.is_written ≡ true → is_element a ≡ false → is_written_through l ≡ true
is_through s l t a n h w e = go s.is_written (is_element a) (is_written_through l) (h N10) w e
  where
    go : (x y z : Bool) → (x && not y && not z) ≡ false → x ≡ true → y ≡ false → z ≡ true
    go true true z h w e = absurd (cc)
    go true false true h w e = refl
    go true false false h w e = absurd (cc)
    go false y z h w e = absurd (cc)

through : (s : Around) (l : layout.Layout) (t : Tree) (a : PlainTy) (n : Annotation) → is_written_through l ≡ true → AllUnbroken (laid_out s l a) t n → AllUnbroken (passed s l a) t n
through s l t a n e h = subst (λ x. AllUnbroken (if x then passed s l a else operand s a) t n) e h

module _ (names : List Name) where
  pub below_layout : (l : layout.Layout) (t : Tree) (a : PlainTy) (n : Annotation) → IsWritten names (Unary (Layout l) t) (One a n) → IsWritten names t n
  below_layout l t a n w = let e = ap is_element (layout_result w.declared.names l (type_in n) a w.nodes.1).is in record {
    declared = w.declared;
    same = w.same;
    proper = w.proper;
    binders = w.binders;
    formed = w.formed;
    nodes = w.nodes.0;
    around = passed w.around l a;
    written = still_written w.around.is_written (is_element a) w.written e;
    unbroken = through w.around l t a n (is_through w.around l t a n w.unbroken.0 w.written e) w.unbroken.1;
  }

  pub no_vectors : (t : Tree) (a : PlainTy) (n : Annotation) → IsWritten names (Unary (Layout layouts.AsVector) t) (One a n) → ⊥
  no_vectors t a n w =
      let e = ap is_element (layout_result w.declared.names layouts.AsVector (type_in n) a w.nodes.1).is in
      let through = is_through w.around layouts.AsVector t a n w.unbroken.0 w.written e in
      absurd (cc)

  pub no_slide : (j k : ℕ) (t : Tree) (a : PlainTy) (n : Annotation) → IsWritten names (Unary (Slide j k) t) (One a n) → ⊥
  no_slide j k t a n w = let r = w.nodes.1 in not_read_alone w.around.is_written (is_element a) w.written (ap is_element r.6) (w.unbroken.0 N10)

  pub no_pad : (j k : ℕ) (t : Tree) (a : PlainTy) (n : Annotation) → IsWritten names (Unary (Pad j k) t) (One a n) → ⊥
  no_pad j k t a n w = let r = w.nodes.1 in not_read_alone w.around.is_written (is_element a) w.written (ap is_element r.3) (w.unbroken.0 N10)

  pub operand_formed : (f : UnaryForm) (t : Tree) (a : PlainTy) (n : Annotation) → (w : IsWritten names (Unary f t) (One a n)) → IsFormed w.declared.names (type_in n)
  operand_formed f t a n w = formed_in w.declared w.proper.inputs w.binders t n w.formed w.nodes.0

  pub below_let : (v b : Tree) (a : PlainTy) (n m : Annotation) → IsWritten names (Let v b) (Two a n m) → is_element a ≡ false → IsWritten names b m
  below_let v b a n m w e = record {
    declared = w.declared;
    same = w.same;
    proper = w.proper;
    binders = type_in n ∷ w.binders;
    formed = (formed_in w.declared w.proper.inputs w.binders v n w.formed w.nodes.0, w.formed);
    nodes = w.nodes.1;
    around = let_body w.around (is_element (type_in n)) v a;
    written = still_written w.around.is_written (is_element a) w.written e;
    unbroken = w.unbroken.2;
  }

  pub below_map : (k : MapKind) (xs b : Tree) (a : PlainTy) (n m : Annotation) → IsWritten names (Map k xs b) (Two a n m) → IsWritten names b m
  below_map k xs b a n m w =
      let h = w.nodes in
      let array = subst (IsFormed w.declared.names) h.3 (formed_in w.declared w.proper.inputs w.binders xs n w.formed h.2) in
      record {
        declared = w.declared;
        same = w.same;
        proper = w.proper;
        binders = h.0 ∷ w.binders;
        formed = (array.1, w.formed);
        nodes = h.4;
        around = map_body w.around k xs b a;
        written = body_written w.around k xs b a;
        unbroken = w.unbroken.2;
      }
