-- The turn of a fold: the accumulator is replaced.
use Rattle.std.proofs.Common.{◌≡◌, ℕ, ◌<◌, ◌≤◌, Bool, true, false, List, [], ◌∷◌, ◌++◌, length, Option, Some, refl, sym, ap, ◌∙◌, subst, ◌⊎◌, ⊎_elim, inl, inr, arith}
use Rattle.std.proofs.lemmas.List.{get_or-set_same, get_or-set_other, length-set}
use Rattle.kernel_tree.specs.Formula.{Formula, Lanes, Four, Vars, word, set_word, vector, set_vector, spread, value, lanes_value}
use Rattle.kernel_tree.specs.Code.{Code, AssignsFour, Performs}
use Rattle.kernel_tree.specs.Launch.{ids_of}
use Rattle.kernel_tree.specs.Item.{Frame, item, loop_variables}
use Rattle.kernel_tree.specs.Device.{Cell, Memory}
use Rattle.kernel_tree.specs.Deeds.{Deed, Moved, Goes, Every}
use Rattle.kernel_tree.specs.Independent.{IsAllowed, write_count}
use Rattle.kernel_tree.proofs.Deeds.{goes_on, goes_assign, goes_assign_four}
use Rattle.kernel_tree.proofs.Turns.{every-append, write_count-append}
use Rattle.lift_ir.specs.Types.{Ty, Scalar, PairOf, ArrayOf, four, IsPosition}
use Rattle.lift_ir.specs.Scalars.{Scalars}
use Rattle.printed_form.specs.Counts.{Count, AtMost, more, one_word, one_four, held_count, temporaries}
use Rattle.printed_form.specs.Marks.{in_lanes, held_marks}
use Rattle.printed_form.specs.Expressions.{Expr, OneWord, FourWords, held}
use Rattle.printed_form.specs.Form.{IsAssigned, IsReassigned}
use Rattle.printed_form.specs.Runs.{Setting, Known, lane, four_of, IsFourAt, Fits, HoldsAt, Holds, Values, nothing, no_target, known_after, Ran}
use Rattle.printed_form.proofs.Runs.{at_most, as_many, many_more, more_more, fewer_later, kept, silent, count-kept, ran_on, after_silence}
use Rattle.printed_form.proofs.Elements.{assigned, four_type, held_four, holds_two, values_held}
use Rattle.printed_form.proofs.Loops.{from, ran_from}

-- variables outside are as they were, those of a word and those of four
record Except (low high : Count) (vars later : Vars) : Type 0 where
  long : length later.words ≡ length vars.words
  wide : length later.vectors ≡ length vars.vectors
  same : (v : ℕ) → (v < low.words) ⊎ (high.words ≤ v) → word later v ≡ word vars v
  same_four : (v : ℕ) → (v < low.fours) ⊎ (high.fours ≤ v) → vector later v ≡ vector vars v

except_none : (low high : Count) (u : Vars) → Except low high u u
except_none low high u = record { long = refl; wide = refl; same = λ v o. refl; same_four = λ v o. refl }

except_more : (a b low high : Count) (u v : Vars) → AtMost low a → AtMost b high → Except a b u v → Except low high u v
except_more a b low high u v p q x = record {
  long = x.long;
  wide = x.wide;
  same = λ n o. let r = p.words in let s = q.words in x.same n (⊎_elim (λ l. inl (omega arith)) (λ h. inr (omega arith)) o);
  same_four = λ n o. let r = p.fours in let s = q.fours in x.same_four n (⊎_elim (λ l. inl (omega arith)) (λ h. inr (omega arith)) o);
}

except_then : (low high : Count) (u v w : Vars) → Except low high u v → Except low high v w → Except low high u w
except_then low high u v w x y = record {
  long = y.long ∙ x.long;
  wide = y.wide ∙ x.wide;
  same = λ n o. y.same n o ∙ x.same n o;
  same_four = λ n o. y.same_four n o ∙ x.same_four n o;
}

except_on : (a b c d low high : Count) (u v w : Vars) → AtMost low a → AtMost b high → AtMost low c → AtMost d high → Except a b u v → Except c d v w → Except low high u w
except_on a b c d low high u v w p q r s x y = except_then low high u v w (except_more a b low high u v p q x) (except_more c d low high v w r s y)

except_set : (n : Count) (x : ℕ) (u : Vars) → Except n (more n one_word) u (set_word u n.words x)
except_set n x u = record {
  long = length-set u.words n.words x;
  wide = refl;
  same = λ v o. get_or-set_other u.words n.words v x 0 (λ e. ⊎_elim (λ l. absurd (omega arith)) (λ h. absurd (omega arith)) o);
  same_four = λ v o. refl;
}

except_set_four : (n : Count) (x : Four) (u : Vars) → Except n (more n one_four) u (set_vector u n.fours x)
except_set_four n x u = record {
  long = refl;
  wide = length-set u.vectors n.fours x;
  same = λ v o. refl;
  same_four = λ v o. get_or-set_other u.vectors n.fours v x (spread 0) (λ e. ⊎_elim (λ l. absurd (omega arith)) (λ h. absurd (omega arith)) o);
}

module _ (st : Setting) (ts : List ℕ) (fs : List Frame) (at : loop_variables fs ≡ ts) where
  abbrev in_variables : Vars → Count → Known
  in_variables vars n = record { memory = λ c. 0; vars = vars; count = n; arrays = 0 }

  -- expressions that hang on no variable in between
  abbrev Outside : (low high : Count) → Vars → Ty → (List Bool → Option Expr) → Scalars → Type 0
  Outside low high vars ty f s =
      ((cs : List Bool) (e : Formula) → IsPosition ty cs [] → f cs ≡ Some (OneWord e)
      → (later : Vars) → Except low high vars later → value (ids_of st.device.launch st.item) ts later e ≡ Some (s cs []))
      ×
      ((cs : List Bool) (e : Lanes) → IsFourAt ty cs → f cs ≡ Some (FourWords e)
      → (later : Vars) → Except low high vars later → lanes_value (ids_of st.device.launch st.item) ts later e ≡ Some (four_of (λ j. s cs (j ∷ []))))

  record Copied (ty : Ty) (s : Scalars) (n : Count) (vars : Vars) (code rest : Code) : Type 0 where
    after : Vars
    deeds : List Deed
    goes : (m : Memory) → Goes st.device st.item (item code fs vars) m deeds (item rest fs after)
    except : Except n (more n (held_count ty)) vars after
    quiet : (c : Cell) → write_count c deeds ≡ 0
    allowed : Every (IsAllowed st.owners st.item) deeds
    holds : Holds st (in_variables after (more n (held_count ty))) ty (held_marks ty n) s

  -- lanes of one variable, where that is the same
  lane_elsewhere : (x y : Known) (n : ℕ) (q : List ℕ) (v : ℕ) → vector y.vars n ≡ vector x.vars n → x.count.fours ≤ y.count.fours → HoldsAt st x (in_lanes n q) v → HoldsAt st y (in_lanes n q) v
  lane_elsewhere x y n [] v e le h = absurd h
  lane_elsewhere x y n (j ∷ []) v e le h = (let z = h.0 in omega arith, ap (λ u. lane u j) e ∙ h.1)
  lane_elsewhere x y n (j ∷ i ∷ q) v e le h = absurd h

  held_elsewhere : (ty : Ty) (n k low high c : Count) (s : Scalars) (u v : Vars) → (AtMost high n) ⊎ (AtMost (more n (held_count ty)) low) → AtMost k c → Except low high u v → Holds st (in_variables u k) ty (held_marks ty n) s → Holds st (in_variables v c) ty (held_marks ty n) s
  held_elsewhere Scalar n k low high c s u v o lc x h [] [] w = (
    let z = h [] [] tt in let y = z.0 in let l = lc.words in omega arith,
    x.same n.words (⊎_elim (λ a. inr a.words) (λ b. let p = b.words in inl (omega arith)) o) ∙ (h [] [] tt).1,
  )
  held_elsewhere Scalar n k low high c s u v o lc x h [] (j ∷ q) w = absurd w
  held_elsewhere Scalar n k low high c s u v o lc x h (b ∷ cs) q w = absurd w
  held_elsewhere (PairOf a b) n k low high c s u v o lc x h [] q w = absurd w
  held_elsewhere (PairOf a b) n k low high c s u v o lc x h (false ∷ cs) q w =
      held_elsewhere a n k low high c (λ cs. s (false ∷ cs)) u v (⊎_elim (λ l. inl l) (λ r. let p = r.words in let z = r.fours in inr (at_most (omega arith) (omega arith))) o) lc x (λ ds. h (false ∷ ds)) cs q w
  held_elsewhere (PairOf a b) n k low high c s u v o lc x h (true ∷ cs) q w =
      held_elsewhere b (more n (held_count a)) k low high c (λ cs. s (true ∷ cs)) u v
      (⊎_elim (λ l. let p = l.words in let z = l.fours in inl (at_most (omega arith) (omega arith))) (λ r. let p = r.words in let z = r.fours in inr (at_most (omega arith) (omega arith))) o) lc x (λ ds. h (true ∷ ds)) cs q w
  held_elsewhere (ArrayOf m t) n k low high c s u v o lc x h cs q w =
      lane_elsewhere (in_variables u k) (in_variables v c) n.fours q (s cs q) (x.same_four n.fours (⊎_elim (λ a. inr a.fours) (λ b. let p = b.fours in inl (omega arith)) o)) lc.fours (h cs q w)

  copy_one : (f : List Bool → Option Expr) (s : Scalars) (n : Count) (vars : Vars) (code rest : Code) → n.words < length vars.words → (h : IsAssigned Scalar f n code rest) → value (ids_of st.device.launch st.item) ts vars h.0 ≡ Some (s [] []) → Copied Scalar s n vars code rest
  copy_one f s n vars code rest room h right =
      let v = s [] [] in
      record {
        after = set_word vars n.words v;
        deeds = Moved ∷ [];
        goes = λ m. subst (λ c. Goes st.device st.item (item c fs vars) m (Moved ∷ []) (item rest fs (set_word vars n.words v))) (sym h.2)
            (goes_assign st.device st.item fs vars m n.words h.0 rest v (subst (λ t. value (ids_of st.device.launch st.item) t vars h.0 ≡ Some v) (sym at) right));
        except = except_set n v vars;
        quiet = λ c. refl;
        allowed = (tt, tt);
        holds = one (set_word vars n.words v) (get_or-set_same vars.words n.words v 0 room);
      }
    where
      one : (u : Vars) → word u n.words ≡ s [] [] → Holds st (in_variables u (more n one_word)) Scalar (held_marks Scalar n) s
      one u h [] [] w = (omega arith, h)
      one u h [] (j ∷ q) w = absurd w
      one u h (c ∷ cs) q w = absurd w

  copy_four : (e : Lanes) (s : Scalars) (n : Count) (vars : Vars) (code rest : Code) → n.fours < length vars.vectors → code ≡ Performs (AssignsFour n.fours e) rest → lanes_value (ids_of st.device.launch st.item) ts vars e ≡ Some (four_of (λ j. s [] (j ∷ []))) → Copied four s n vars code rest
  copy_four e s n vars code rest room is right =
      let u : Four = four_of (λ j. s [] (j ∷ [])) in
      let later : Vars = set_vector vars n.fours u in
      record {
        after = later;
        deeds = Moved ∷ [];
        goes = λ m. subst (λ c. Goes st.device st.item (item c fs vars) m (Moved ∷ []) (item rest fs later)) (sym is)
            (goes_assign_four st.device st.item fs vars m n.fours e rest u (subst (λ t. lanes_value (ids_of st.device.launch st.item) t vars e ≡ Some u) (sym at) right));
        except = except_set_four n u vars;
        quiet = λ c. refl;
        allowed = (tt, tt);
        holds = held_four st (in_variables later (more n one_four)) n.fours s (omega arith) (get_or-set_same vars.vectors n.fours u (spread 0) room);
      }

  copied : (ty : Ty) (f : List Bool → Option Expr) (s : Scalars) (low high n : Count) (vars : Vars) (code rest : Code) → AtMost low n → AtMost (more n (held_count ty)) high → Fits high vars → IsAssigned ty f n code rest → Outside low high vars ty f s → Copied ty s n vars code rest
  copied Scalar f s low high n vars code rest le le2 room h right =
      copy_one f s n vars code rest (let p = room.words in let q = le2.words in omega arith) h (right.0 [] h.0 tt h.1 vars (except_none low high vars))
  copied (PairOf a b) f s low high n vars code rest le le2 room h right =
      let left = λ (cs : List Bool). s (false ∷ cs) in
      let other = λ (cs : List Bool). s (true ∷ cs) in
      let na = held_count a in
      let nb = held_count b in
      let n2 = more n na in
      let n3 = more n2 nb in
      let w = le2.words in
      let x = le2.fours in
      let lw = le.words in
      let lf = le.fours in
      let le3 : AtMost n2 high = at_most (omega arith) (omega arith) in
      let r = copied a (λ cs. f (false ∷ cs)) left low high n vars code h.0 le le3 room h.1 (λ cs e w q. right.0 (false ∷ cs) e w q, λ cs e w q. right.1 (false ∷ cs) e w q) in
      let out : Except low high vars r.after = except_more n n2 low high vars r.after le le3 r.except in
      let r2 = copied b (λ cs. f (true ∷ cs)) other low high n2 r.after h.0 rest (at_most (omega arith) (omega arith)) (at_most (omega arith) (omega arith)) (record { words = subst (λ z. high.words ≤ z) (sym out.long) room.words; fours = subst (λ z. high.fours ≤ z) (sym out.wide) room.fours }) h.2 (
        λ cs e w q later z. right.0 (true ∷ cs) e w q later (except_then low high vars r.after later out z),
        λ cs e w q later z. right.1 (true ∷ cs) e w q later (except_then low high vars r.after later out z),
      ) in
      record {
        after = r2.after;
        deeds = r.deeds ++ r2.deeds;
        goes = λ m. goes_on st.device st.item _ _ _ m r.deeds r2.deeds (r.goes m) (r2.goes _);
        except = except_on n n2 n2 n3 n (more n (more na nb)) vars r.after r2.after (as_many n) (at_most (omega arith) (omega arith)) (many_more n na) (at_most (omega arith) (omega arith)) r.except r2.except;
        quiet = λ c. let x = write_count-append c r.deeds r2.deeds in let y = r.quiet c in let z = r2.quiet c in omega arith;
        allowed = every-append (IsAllowed st.owners st.item) r.deeds r2.deeds r.allowed r2.allowed;
        holds = subst (λ k. Holds st (in_variables r2.after k) (PairOf a b) (held_marks (PairOf a b) n) s) (more_more n na nb)
            (holds_two st (in_variables r2.after n3) a b (held_marks a n) (held_marks b n2) s
            (held_elsewhere a n n2 n2 n3 n3 left r.after r2.after (inr (as_many n2)) (many_more n2 nb) r2.except r.holds) r2.holds);
      }
  copied (ArrayOf m t) f s low high n vars code rest le le2 room h right =
      subst (λ z. Copied z s n vars code rest) (sym (four_type m t h.0))
      (copy_four h.1 s n vars code rest (let p = room.fours in let q = le2.fours in omega arith) h.3 (right.1 [] h.1 h.0 h.2 vars (except_none low high vars)))

  -- variables held in others are outside
  held_outside : (ty : Ty) (n k low high : Count) (s : Scalars) (vars : Vars) → AtMost high n → Holds st (in_variables vars k) ty (held_marks ty n) s → Outside low high vars ty (λ cs. held (held_marks ty n cs)) s
  held_outside ty n k low high s vars hi h = (
    λ cs e w q later x. (later_values later x).0 cs e w q later (kept k later),
    λ cs e w q later x. (later_values later x).1 cs e w q later (kept k later),
  )
    where
      later_values : (later : Vars) → Except low high vars later → Values st ts (in_variables later k) ty (λ cs. held (held_marks ty n cs)) s
      later_values later x = values_held st ts fs at (in_variables later k) ty (held_marks ty n) s (held_elsewhere ty n k low high k s vars later (inl hi) (as_many k) x h)

  in_registers : (x y : Known) (ty : Ty) (n : Count) (s : Scalars) → x.vars ≡ y.vars → AtMost x.count y.count → Holds st x ty (held_marks ty n) s → Holds st y ty (held_marks ty n) s
  in_registers x y Scalar n s e le h [] [] w = (let z = (h [] [] tt).0 in let l = le.words in omega arith, ap (λ v. word v n.words) (sym e) ∙ (h [] [] tt).1)
  in_registers x y Scalar n s e le h [] (j ∷ q) w = absurd w
  in_registers x y Scalar n s e le h (b ∷ cs) q w = absurd w
  in_registers x y (PairOf a b) n s e le h [] q w = absurd w
  in_registers x y (PairOf a b) n s e le h (false ∷ cs) q w = in_registers x y a n (λ cs. s (false ∷ cs)) e le (λ ds. h (false ∷ ds)) cs q w
  in_registers x y (PairOf a b) n s e le h (true ∷ cs) q w = in_registers x y b (more n (held_count a)) (λ cs. s (true ∷ cs)) e le (λ ds. h (true ∷ ds)) cs q w
  in_registers x y (ArrayOf m t) n s e le h cs q w = lane_elsewhere x y n.fours q (s cs q) (ap (λ v. vector v n.fours) (sym e)) le.fours (h cs q w)

  copied_run : (ty : Ty) (s : Scalars) (n : Count) (x : Known) (code rest : Code) → AtMost x.count n → Copied ty s n x.vars code rest → Ran st x fs code rest (more n (held_count ty)) x.arrays nothing no_target (λ y. Holds st y ty (held_marks ty n) s)
  copied_run ty s n x code rest le r =
      let lw = le.words in
      let lf = le.fours in
      let n2 = more n (held_count ty) in
      record {
        after = r.after;
        deeds = r.deeds;
        goes = λ m ag. r.goes m;
        later = record {
          more = omega arith;
          more_fours = omega arith;
          more_arrays = omega arith;
          kept = record { long = r.except.long; wide = r.except.wide; same = λ v lt. r.except.same v (inl (omega arith)); same_four = λ v lt. r.except.same_four v (inl (omega arith)) };
          same = λ c f. count-kept r.deeds x.memory c (r.quiet c);
        };
        allowed = r.allowed;
        wrote = silent x.memory r.deeds r.quiet;
        good = in_registers (in_variables r.after n2) (known_after x r.deeds r.after n2 x.arrays) ty n s refl (as_many n2) r.holds;
      }

  -- the new accumulator, from variable acc on
  pub again_run : (ty : Ty) (f : List Bool → Option Expr) (s : Scalars) (acc : Count) (x : Known) (code rest : Code) → AtMost (more acc (held_count ty)) x.count → IsReassigned ty f acc x.count code rest → Fits (more x.count (temporaries ty)) x.vars → Values st ts x ty f s
      → Ran st (from x acc x.arrays) fs code rest (more acc (held_count ty)) x.arrays nothing no_target (λ y. Holds st y ty (held_marks ty acc) s)
  again_run Scalar f s acc x code rest le h room right =
      let p = le.words in
      let q = room.words in
      copied_run Scalar s acc (from x acc x.arrays) code rest (as_many acc) (copy_one f s acc x.vars code rest (omega arith) h (right.0 [] h.0 tt h.1 x.vars (kept x.count x.vars)))
  again_run (PairOf a b) f s acc x code rest le h room right =
      let w = held_count (PairOf a b) in
      let n2 = more x.count w in
      let temps = held_marks (PairOf a b) x.count in
      let p = le.words in
      let q = le.fours in
      let below : AtMost acc x.count = at_most (omega arith) (omega arith) in
      let r = ran_from st x fs code h.0 acc x.arrays n2 x.arrays acc x.arrays (λ y. Holds st (in_variables y.vars n2) (PairOf a b) temps s) below (omega arith) (as_many acc) (omega arith)
      (λ m vars g. in_registers (record { memory = m; vars = vars; count = n2; arrays = x.arrays }) (in_variables vars n2) (PairOf a b) x.count s refl (as_many n2) g)
      (assigned st ts fs at (PairOf a b) f s x code h.0 h.1 room right) in
      let y = known_after (from x acc x.arrays) r.deeds r.after acc x.arrays in
      let long : Fits (more acc w) r.after = fewer_later room r.later.kept (omega arith) (omega arith) in
      let c = copied (PairOf a b) (λ cs. held (temps cs)) s acc (more acc w) acc r.after h.0 rest (as_many acc) (as_many (more acc w)) long h.2
      (held_outside (PairOf a b) x.count n2 acc (more acc w) s r.after le r.good) in
      ran_on st (from x acc x.arrays) fs code h.0 rest acc x.arrays (more acc w) x.arrays after_silence r (copied_run (PairOf a b) s acc y h.0 rest (as_many acc) c)
  again_run (ArrayOf m t) f s acc x code rest le h room right =
      let p = le.fours in
      let q = room.fours in
      copied_run (ArrayOf m t) s acc (from x acc x.arrays) code rest (as_many acc)
      (subst (λ z. Copied z s acc x.vars code rest) (sym (four_type m t h.0))
      (copy_four h.1 s acc x.vars code rest (omega arith) h.3 (right.1 [] h.1 h.0 h.2 x.vars (kept x.count x.vars))))
