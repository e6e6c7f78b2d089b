-- The pieces of a printed kernel are of the kernel grammar.
use Rattle.std.proofs.Common.{◌≡◌, ℕ, zero, suc, ◌+◌, ◌*◌, ◌<◌, ◌≤◌, ◌^◌, true, List, [], ◌∷◌, ◌++◌, length, nat_lt, refl, sym, subst, arith}
use Rattle.std.specs.Prelude.{◌&&◌, replicate}
use Rattle.std.proofs.lemmas.Bool.{lt-ltb, and_from}
use Rattle.size_arith.specs.declared.poly.Monomial.{Monomial}
use Rattle.lift_tree.specs.Types.{PlainTy}
use Rattle.lift_tree.specs.Typing.{Declared}
use Rattle.kernel_tree.specs.Formula.{Formula}
use Rattle.kernel_tree.specs.Code.{Input, Output, Kernel}
use Rattle.kernel_tree.specs.Grammar.{are_lengths, has_statement, is_group_size}
use Rattle.lift_ir.specs.Types.{Ty, width, size}
use Rattle.lift_ir.specs.Terms.{Space, LocalMemory, PrivateMemory, Term, Literal, Bound, Source, Apply, ApplyNumber, ApplyLanes, DivideLanes, Select, Both, Project, Reshape, LetArray, LetElement, Map, Fold, Store, Copy}
use Rattle.printed_form.specs.Counts.{copied, copy_lengths}
use Rattle.printed_form.specs.Views.{View, view_at, reshaped_view, rewritten_view, placed_view}
use Rattle.printed_form.specs.Programs.{buffer_count, first_buffer, input_shape}
use Rattle.printed_form.specs.Sound.{variables_of, IsSpelledIn, IsSound, dimensions}
use Rattle.printed_form.specs.GrammarViews.{IsGoodView}
use Rattle.printed_form.specs.KernelGrammar.{IsSourceIn}
use Rattle.printed_form.specs.GrammarPieces.{ViewsStayWithin, MapsAreOfTheGrammar, HasRoomFor, views_of_inputs, TermsAreOfTheGrammar, TermsArePrintedWithin, ArraysCanBeDeclared}
use Rattle.printed_form.proofs.GrammarExpressions.{first_of, second_of}
use Rattle.printed_form.proofs.GrammarViews.{view_more, target_within, blank_good, sides_good, part_good, at_turn_good, at_turn_target, loaded_good, reshaped_good, reshaped_target, placed_good, placed_target, some_width, laid_reads, laid_fills}
use Rattle.printed_form.proofs.Runs.{as_many}
use Rattle.printed_form.proofs.GrammarLies.{AllShared, lies_served, lies_at_turn, lies_bound, lies_laid, lies_read, lies_written, argument_lies}
use Rattle.printed_form.proofs.GrammarCodes.{loads_fine, loads_does, loop_fine, guard_fine}
use Rattle.printed_form.proofs.GrammarTerms.{argument_good, written_kept, written_does, written_fine}

-- ---- lengths of arrays
lengths_append : (xs ys : List ℕ) → are_lengths xs ≡ true → are_lengths ys ≡ true → are_lengths (xs ++ ys) ≡ true
lengths_append [] ys h k = k
lengths_append (x ∷ xs) ys h k =
    let r = second_of (nat_lt 0 x) (nat_lt x (2 ^ 32) && are_lengths xs) h in
    and_from (nat_lt 0 x) _ (first_of (nat_lt 0 x) (nat_lt x (2 ^ 32) && are_lengths xs) h)
    (and_from (nat_lt x (2 ^ 32)) _ (first_of (nat_lt x (2 ^ 32)) (are_lengths xs) r) (lengths_append xs ys (second_of (nat_lt x (2 ^ 32)) (are_lengths xs) r) k))

lengths_same : (n x : ℕ) → 0 < x → x < 2 ^ 32 → are_lengths (replicate n x) ≡ true
lengths_same zero x p q = refl
lengths_same (suc n) x p q = and_from (nat_lt 0 x) _ (lt-ltb 0 x p) (and_from (nat_lt x (2 ^ 32)) _ (lt-ltb x (2 ^ 32) q) (lengths_same n x p q))

module _ {A : Type 0} (P : A → Type 0) (Q : ℕ → Type 0) where
  copied_lengths : (s m : Space) (ty : Ty) → 0 < size ty → size ty < 2 ^ 32 → are_lengths (copied s m ty) ≡ true
  copied_lengths LocalMemory LocalMemory ty p q = lengths_same (width ty) (size ty) p q
  copied_lengths LocalMemory PrivateMemory ty p q = refl
  copied_lengths PrivateMemory LocalMemory ty p q = refl
  copied_lengths PrivateMemory PrivateMemory ty p q = lengths_same (width ty) (size ty) p q

  declared_lengths : (s : Space) (t : Term A) → IsSound P Q t → are_lengths (copy_lengths s t) ≡ true
  declared_lengths s (Literal c) h = refl
  declared_lengths s (Bound v) h = refl
  declared_lengths s (Source v) h = refl
  declared_lengths s (Apply o x y) h = refl
  declared_lengths s (ApplyNumber o m x) h = refl
  declared_lengths s (ApplyLanes o i j x y) h = refl
  declared_lengths s (DivideLanes o m x) h = refl
  declared_lengths s (Select c x y) h = refl
  declared_lengths s (Both zips x y) h = lengths_append (copy_lengths s x) (copy_lengths s y) (declared_lengths s x h.0) (declared_lengths s y h.1)
  declared_lengths s (Project d x) h = declared_lengths s x h
  declared_lengths s (Reshape y x) h = declared_lengths s x h.1
  declared_lengths s (LetArray v b) h = lengths_append (copy_lengths s v) (copy_lengths s b) (declared_lengths s v h.0) (declared_lengths s b h.1)
  declared_lengths s (LetElement ty v b) h = declared_lengths s b h.1
  declared_lengths s (Map kind m ls x b) h = lengths_append (copy_lengths s x) (copy_lengths s b) (declared_lengths s x h.1) (declared_lengths s b h.2)
  declared_lengths s (Fold m ls ty x s1 b) h = declared_lengths s x h.2
  declared_lengths s (Store ty x) h = refl
  declared_lengths s (Copy m ty x) h = lengths_append (copy_lengths s x) (copied s m ty) (declared_lengths s x h.2) (copied_lengths s m ty h.3 h.4)

pub arrays_declared : ArraysCanBeDeclared
arrays_declared k spell S d s t sound = declared_lengths (λ n. IsSpelledIn k S (spell n)) (IsSourceIn k spell S d) s t sound

-- an input's buffers are among those declared
source_within : (tys : List PlainTy) (s : ℕ) → s < length tys → first_buffer tys s + width (input_shape tys s) ≤ buffer_count tys
source_within [] s lt = absurd (omega arith)
source_within (a ∷ tys) zero lt = omega arith
source_within (a ∷ tys) (suc s) lt = let x = source_within tys s (omega arith) in omega arith

-- ---- views
pub views_stay : ViewsStayWithin
views_stay k S one = record {
  more = λ l m h i x lm hi r. view_more k S one (variables_of k) (variables_of k) l m (10 + 3 * h) (10 + 3 * i) x (as_many (variables_of k)) lm (omega arith) r;
  deeper = λ l m h i w lm hi f. target_within k S one l m (10 + 3 * h) (10 + 3 * i) w lm (omega arith) f;
  blank = λ l h. blank_good k S one (variables_of k) l (10 + 3 * h);
  sides = λ l h x y r q. sides_good k S one (variables_of k) l (10 + 3 * h) x y r q;
  part = λ l h x s r. part_good k S one (variables_of k) l (10 + 3 * h) x s r;
  operand = λ spell y l h x s r.
      view_more k S one (variables_of k) (variables_of k) l l (10 + 3 * h + 3) (10 + 3 * suc h) (reshaped_view spell y x) (as_many (variables_of k)) (omega arith) (omega arith)
      (reshaped_good k S one spell y (variables_of k) l (10 + 3 * h) x s r);
  result = λ spell y l h w s f.
      target_within k S one l l (10 + 3 * h + 3) (10 + 3 * suc h) (rewritten_view spell y w) (omega arith) (omega arith) (reshaped_target k S one spell y l (10 + 3 * h) w s f);
  element = λ turn loads l h n x t le r. loaded_good k S one loads (view_at turn x) n (variables_of k) (variables_of k) l (10 + 3 * h) (as_many (variables_of k)) le (at_turn_good k S one turn (variables_of k) l (10 + 3 * h) x t r);
  read = λ turn l h x t r. at_turn_good k S one turn (variables_of k) l (10 + 3 * h) x t r;
  place = λ turn l h w t f. at_turn_target k S one turn l (10 + 3 * h) w t f;
  laid = laid_reads k S one;
  laid_places = laid_fills k S one;
  served = lies_served;
  read_so = λ spell m y x h. lies_read spell m y x h;
  written_so = λ spell m y w h. lies_written spell m y w h;
  at_turn = lies_at_turn;
  bound_so = lies_bound;
  laid_so = lies_laid;
}

-- ---- statements of maps
pub maps_stay : MapsAreOfTheGrammar
maps_stay k S one small = record {
  loads = λ l ifs h n loads x y rest fits le r sh fo f. loads_fine k S one small ifs l loads x n (variables_of k) (10 + 3 * h) y rest fits le r sh fo f;
  loaded = λ loads x n rest d. loads_does k S one small 0 loads x n rest d;
  loop = λ l ifs kind bound body rest lt s d f g. loop_fine k S one small ifs l kind bound body rest lt s d f g;
  guard = λ l ifs kind bound body rest lt s d f g. guard_fine k S one small ifs l kind bound body rest lt s d f g;
}

-- ---- terms
module _ (k : Kernel) (spell : List Monomial → Formula) (S M : ℕ) (d : Declared) (room : HasRoomFor k S M d) where
  abbrev ins : ℕ → View
  ins = views_of_inputs spell d

  abbrev Q : ℕ → Type 0
  Q = IsSourceIn k spell S d

  inputs : (s : ℕ) → Q s → IsGoodView k S (variables_of k) 0 10 (ins s)
  inputs s q =
      view_more k S room.some (variables_of k) (variables_of k) 0 0 (2 * dimensions (input_shape d.inputs s)) 10 (ins s) (as_many (variables_of k)) (omega arith) (let x = q.few in omega arith)
      (placed_good k S room.some spell Input (first_buffer d.inputs s) (input_shape d.inputs s) (variables_of k) 0
      (λ c lt. lt-ltb (first_buffer d.inputs s + c) k.inputs (let x = source_within d.inputs s q.declared in let y = room.inputs in omega arith)) q.lengths)

  -- inputs are shared
  shared : (s : ℕ) → AllShared (ins s)
  shared s cs is = refl

  small : S ≤ 1024
  small = let f = room.fits in omega arith

  terms_are : TermsAreOfTheGrammar k spell S M d
  terms_are = record {
    arguments = λ space l a g env t all s le. argument_good k S room.some small 0 spell ins Q inputs M room.fits shared space l g env a t all le s;
    lying = λ space first lies env t y all h. argument_lies spell ins shared space first lies env t y all h;
    output = λ ty outs s few.
        target_within k S room.some 0 0 (2 * dimensions ty) (10 + 3 * 0) (placed_view spell Output 0 ty) (omega arith) (omega arith)
        (placed_target k S room.some spell Output 0 ty 0 (λ c lt. lt-ltb (0 + c) k.outputs (omega arith)) s);
    codes = λ l ifs above n a g lies lie env t w rest all f sh ys c r.
        written_fine k S room.some small ifs spell ins Q inputs M room.fits shared l g lies env a n t w lie above rest all f sh ys c.written c.sound c.layouts c.low c.fours c.deep c.variables c.privates r;
    statements = λ l depth above n a g lies lie env t w rest f c. written_does k S room.some small 0 spell ins Q inputs M room.fits shared l env a n t w (10 + 3 * above) rest c.written c.sound f;
    kept = λ l n a env t w rest r. written_kept k S room.some small 0 spell ins Q inputs M room.fits shared l env a n t w rest r;
    kernel = λ ty t outs locals privates s group has are.
        and_from (nat_lt 0 k.outputs) _ (lt-ltb 0 k.outputs (let x = some_width k S room.some spell ty in omega arith))
        (and_from (are_lengths k.locals) _ (subst (λ ns. are_lengths ns ≡ true) (sym locals) (arrays_declared k spell S d LocalMemory t s))
        (and_from (are_lengths k.privates) _ (subst (λ ns. are_lengths ns ≡ true) (sym privates) (arrays_declared k spell S d PrivateMemory t s)) (and_from (is_group_size k.local) _ group (and_from (has_statement k.code) _ has are))));
  }

pub terms_printed : TermsArePrintedWithin
terms_printed k spell S M d room = terms_are k spell S M d room
