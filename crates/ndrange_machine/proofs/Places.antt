-- How a work-item's place in the lines moves.
use Rattle.std.proofs.Common.{◌≡◌, ℕ, ◌+◌, ◌<◌, ◌≤◌, zero, suc, max, List, [], ◌∷◌, ◌++◌, length, drop, Some, refl, sym, ap, ◌∙◌, subst, arith, append_assoc, length-drop, add-zero}
use Rattle.std.specs.Prelude.{slice_get}
use Rattle.std.proofs.lemmas.List.{drop-drop, drop_at}
use Rattle.kernel_tree.specs.Formula.{Formula, Vars}
use Rattle.kernel_tree.specs.Code.{Start, Stride, Statement, Code, End, Performs, Loops, Guards, then_rest}
use Rattle.kernel_tree.specs.Item.{Frame, item}
use Rattle.ndrange_machine.specs.Lines.{Line, Does, Test, Head, Tail, size, exit_of, past_if, depth, lines_at, head_of, lines_after, AreLoops, IsAt}
use Rattle.ndrange_machine.proofs.Laying.{length-lines_at, size-then, lines-then}

pub drop_here : {A : Type 0} (xs : List A) (n : ℕ) (y : A) (ys : List A) → drop n xs ≡ y ∷ ys → slice_get xs n ≡ Some y
drop_here [] zero y ys h = cc
drop_here [] (suc n) y ys h = cc
drop_here (x ∷ xs) zero y ys h = cc
drop_here (x ∷ xs) (suc n) y ys h = drop_here xs n y ys h

pub drop_on : {A : Type 0} (xs : List A) (n : ℕ) (y : A) (ys : List A) → drop n xs ≡ y ∷ ys → drop (suc n) xs ≡ ys
drop_on [] zero y ys h = cc
drop_on [] (suc n) y ys h = cc
drop_on (x ∷ xs) zero y ys h = cc
drop_on (x ∷ xs) (suc n) y ys h = drop_on xs n y ys h

drop_past : {A : Type 0} (xs ys zs : List A) (n k : ℕ) → drop n xs ≡ ys ++ zs → length ys ≡ k → drop (n + k) xs ≡ zs
drop_past xs ys zs n k h l = sym (drop-drop k n xs) ∙ ap (drop k) h ∙ drop_at ys zs k l

pub drop_within : {A : Type 0} (xs : List A) (n : ℕ) (y : A) (ys : List A) → drop n xs ≡ y ∷ ys → n < length xs
drop_within xs n y ys h = let a = length-drop n xs in let b = ap length h in omega arith

pub drop_beyond : {A : Type 0} (xs : List A) (n : ℕ) → drop n xs ≡ [] → length xs ≤ n
drop_beyond xs n h = let a = length-drop n xs in let b = ap length h in omega arith

-- how deep a block nests, and then what follows it
pub depth-then : (a b : Code) → depth (then_rest a b) ≡ max (depth a) (depth b)
depth-then End b = omega arith
depth-then (Performs s after) b = depth-then after b
depth-then (Loops s p c body after) b = let h = depth-then after b in omega arith
depth-then (Guards s p body after) b = let h = depth-then after b in omega arith

-- an item at the end of a block
abbrev pub frame : (turn variable : ℕ) → Formula → Stride → (body after : Code) → Frame
frame t v b c body after = record { turn = t; variable = v; bound = b; stride = c; body = body; after = after }

module _ (lines : List Line) where
  -- at a statement without a block
  module _ (n : ℕ) (s : Statement) (after : Code) (fs : List Frame) (vars : Vars) (at : IsAt lines n (item (Performs s after) fs vars)) where
    pub goes_on : (new : Vars) → IsAt lines (suc n) (item after fs new)
    goes_on new = record {
      end = at.end;
      counts = (let a = at.counts in omega arith);
      from = drop_on lines n (Does s) (lines_at (suc n) after ++ lines_after at.end fs) at.from;
      loops = at.loops;
    }

    pub done_here : slice_get lines n ≡ Some (Does s)
    done_here = drop_here lines n (Does s) _ at.from

    pub done_within : n < length lines
    done_within = drop_within lines n (Does s) _ at.from

  module _ (n : ℕ) (s : Start) (b : Formula) (c : Stride) (body after : Code) (fs : List Frame) (vars : Vars) (at : IsAt lines n (item (Loops s b c body after) fs vars)) where
    inside : drop (suc n) lines ≡ lines_at (suc n) body ++ (Tail n ∷ (lines_at (exit_of n body) after ++ lines_after at.end fs))
    inside = drop_on lines n (Head s b c (exit_of n body)) _ at.from ∙ append_assoc (lines_at (suc n) body) (Tail n ∷ lines_at (exit_of n body) after) (lines_after at.end fs)

    pub passes : IsAt lines (exit_of n body) (item after fs vars)
    passes =
        let e : suc (suc n + size body) ≡ exit_of n body = omega arith in
        record {
          end = at.end;
          counts = (let a = at.counts in omega arith);
          from = ap (λ m. drop m lines) (sym e) ∙ drop_on lines (suc n + size body) (Tail n) _ (drop_past lines (lines_at (suc n) body) _ (suc n) (size body) inside (length-lines_at (suc n) body));
          loops = at.loops;
        }

    pub enters : (t v : ℕ) → IsAt lines (suc n) (item body (frame t v b c body after ∷ fs) vars)
    enters t v =
        let f = frame t v b c body after in
        let end = suc n + size body in
        let e : head_of end f ≡ n = omega arith in
        let exit : exit_of n body ≡ suc end = omega arith in
        let far : at.end ≡ suc end + size after = (let a = at.counts in omega arith) in
        let from : drop (suc n) lines ≡ lines_at (suc n) body ++ lines_after end (f ∷ fs) =
        inside
        ∙ ap (λ m. lines_at (suc n) body ++ (Tail m ∷ (lines_at (exit_of n body) after ++ lines_after at.end fs))) (sym e)
        ∙ ap (λ m. lines_at (suc n) body ++ (Tail (head_of end f) ∷ (lines_at m after ++ lines_after at.end fs))) exit
        ∙ ap (λ m. lines_at (suc n) body ++ (Tail (head_of end f) ∷ (lines_at (suc end) after ++ lines_after m fs))) far in
        record {
          end = end;
          counts = refl;
          from = from;
          loops = (
            record {
              start = s;
              low = omega arith;
              head = ap (slice_get lines) e ∙ drop_here lines n (Head s b c (exit_of n body)) _ at.from ∙ ap (λ m. Some (Head s b c m)) exit;
              body = subst (λ m. drop (suc m) lines ≡ lines_at (suc m) body ++ lines_after end (f ∷ fs)) (sym e) from;
            },
            subst (λ m. AreLoops lines m fs) far at.loops,
          );
        }

    pub here : slice_get lines n ≡ Some (Head s b c (exit_of n body))
    here = drop_here lines n (Head s b c (exit_of n body)) _ at.from

  -- at the test of an `if`
  module _ (n : ℕ) (s : Start) (b : Formula) (body after : Code) (fs : List Frame) (vars : Vars) (at : IsAt lines n (item (Guards s b body after) fs vars)) where
    within_if : drop (suc n) lines ≡ lines_at (suc n) body ++ (lines_at (past_if n body) after ++ lines_after at.end fs)
    within_if = drop_on lines n (Test s b (past_if n body)) _ at.from ∙ append_assoc (lines_at (suc n) body) (lines_at (past_if n body) after) (lines_after at.end fs)

    pub goes_in : IsAt lines (suc n) (item (then_rest body after) fs vars)
    goes_in = record {
      end = at.end;
      counts = (let a = at.counts in let h = size-then body after in omega arith);
      from =
          within_if ∙ sym (append_assoc (lines_at (suc n) body) (lines_at (past_if n body) after) (lines_after at.end fs))
          ∙ ap (λ z. z ++ lines_after at.end fs) (sym (lines-then (suc n) (past_if n body) body after refl));
      loops = at.loops;
    }

    pub goes_past : IsAt lines (past_if n body) (item after fs vars)
    goes_past = record {
      end = at.end;
      counts = (let a = at.counts in omega arith);
      from = drop_past lines (lines_at (suc n) body) _ (suc n) (size body) within_if (length-lines_at (suc n) body);
      loops = at.loops;
    }

    pub test_here : slice_get lines n ≡ Some (Test s b (past_if n body))
    test_here = drop_here lines n (Test s b (past_if n body)) _ at.from

  module _ (n : ℕ) (f : Frame) (fs : List Frame) (vars : Vars) (at : IsAt lines n (item End (f ∷ fs) vars)) where
    is_end : at.end ≡ n
    is_end = at.counts ∙ add-zero n

    pub around : AreLoops lines n (f ∷ fs)
    around = subst (λ m. AreLoops lines m (f ∷ fs)) is_end at.loops

    from_end : drop n lines ≡ lines_after n (f ∷ fs)
    from_end = at.from ∙ ap (λ m. lines_after m (f ∷ fs)) is_end

    pub tail_here : slice_get lines n ≡ Some (Tail (head_of n f))
    tail_here = drop_here lines n (Tail (head_of n f)) _ from_end

    pub tail_within : n < length lines
    tail_within = drop_within lines n (Tail (head_of n f)) _ from_end

    pub head_here : slice_get lines (head_of n f) ≡ Some (Head around.0.start f.bound f.stride (suc n))
    head_here = around.0.head

    pub leaves : IsAt lines (suc n) (item f.after fs vars)
    leaves = record {
      end = suc n + size f.after;
      counts = refl;
      from = drop_on lines n (Tail (head_of n f)) _ from_end;
      loops = around.1;
    }

    pub repeats : (t v : ℕ) → IsAt lines (suc (head_of n f)) (item f.body (frame t v f.bound f.stride f.body f.after ∷ fs) vars)
    repeats t v = record {
      end = n;
      counts = (let a = around.0.low in omega arith);
      from = around.0.body;
      loops = (record { start = around.0.start; low = around.0.low; head = around.0.head; body = around.0.body }, around.1);
    }
