-- Any two codes printed for one map over rows of work-groups are alike.
use Rattle.std.proofs.Common.{◌≡◌, ℕ, ◌+◌, ◌*◌, ◌/◌, ◌%◌, ◌<◌, ◌≤◌, Bool, true, false, List, [], ◌∷◌, ◌++◌, refl, sym, subst, arith}
use Rattle.std.proofs.Math.Nat.{mod-lt}
use Rattle.std.proofs.lemmas.Nat.{div-mul-add, mod-mul-add}
use Rattle.lift_tree.specs.declared.term.Level.TheVariants.{Groups, Items}
use Rattle.lift_tree.specs.declared.term.Dimension.TheVariants as dimension
use Rattle.kernel_tree.specs.declared.tree.Dimension.TheVariants.{X, Y}
use Rattle.kernel_tree.specs.Formula.{Formula}
use Rattle.kernel_tree.specs.Code.{FromGroupId, FromLocalId, ByGroupCount, ByLocalSize, Start, Stride, Local as LocalArray, Code, End, Loops, Guards, start_value, stride_value}
use Rattle.kernel_tree.specs.Launch.{Launch, IsWhole, item_count, ids_of, column_of, row_of}
use Rattle.barrier_placement.specs.Fencing.{Fencing}
use Rattle.lift_ir.specs.Terms.{LoadSet, Over, LocalMemory, Term, Bound, Source, Both, Project, Reshape, LetArray, Map, Copy, push}
use Rattle.lift_ir.specs.Scalars.{at_index}
use Rattle.lift_ir.specs.Layouts.{result_position}
use Rattle.printed_form.specs.Arguments.{marks_in, local_arrays}
use Rattle.printed_form.specs.Counts.{Count, more, no_variables, load_count, variable_count, private_count, local_count}
use Rattle.printed_form.specs.Form.{IsTurn, IsLength, argument_marks}
use Rattle.printed_form.specs.MapForms.{MapForm, Looped, Guarded, Alone, TurnCode, form_over_groups, variables_in, AreTurnsFrom, statement_of}
use Rattle.printed_form.specs.Marks.{Marks, laid_in, loaded_marks}
use Rattle.printed_form.specs.Alike.{Alike}
use Rattle.printed_form.specs.Whole.{no_marks}
use Rattle.printed_form.proofs.Alike.{alike_by, alike_written}
use Rattle.group_phases.specs.GridPhases.{IsGroupRow, IsGroupColumn}
use Rattle.group_phases.specs.Grids.{Grid, places}
use Rattle.group_phases.proofs.Grids.{pair_below}
use Rattle.group_form.specs.Form.{Used, used_after}
use Rattle.group_form.specs.GridForm.{IsAlongRow, IsLocalNest, IsGridArgument, IsGridWritten, IsGridTurn, IsAlongGroups, IsOverGrid}
use Rattle.group_form.specs.GridTerms.{GridForms}
use Rattle.group_form.specs.GridTheorem.{phases_along, grid_phase_count, TakeOne, GridCodesAlike}
use Rattle.group_form.specs.Stages.{marks_of}
use Rattle.group_form.specs.Uses.{phases_in}
use Rattle.group_form.proofs.AlikeCodes.{past, loaded}

module _ (l : Launch) (item : ℕ) where
  -- a map in a form, of which the item takes a turn where it is the turn alone
  in_turns : (form : MapForm) (ts : List ℕ) (s : Start) (st : Stride) (len : ℕ) (B : TurnCode) (a b c d : Code) → (form ≡ Alone → start_value (ids_of l item) s < len) → AreTurnsFrom l item form s st ts len B a c → AreTurnsFrom l item form s st ts len B b d
      → ((us : List ℕ) (i : ℕ) (x y m n : Code) → B us i x m → B us i y n → Alike true l item us m n → Alike true l item us x y) → Alike true l item ts c d → Alike true l item ts a b
  in_turns Looped ts s st len B a b c d alone x y rec h =
      alike_by true l item ts a b (Loops s x.0 st x.1 c) (Loops s y.0 st y.1 d) x.2 y.2
      (refl, refl, len, x.3, y.3, (λ i lt own. rec (ts ++ i ∷ []) i x.1 y.1 End End (x.4 i lt own) (y.4 i lt own) tt), h)
  in_turns Guarded ts s st len B a b c d alone x y rec h =
      let i = start_value (ids_of l item) s in
      alike_by true l item ts a b (Guards s x.0 x.1 c) (Guards s y.0 y.1 d) x.2 y.2
      (refl, refl, len, x.3, y.3, (λ lt. rec ts i x.1 y.1 End End (x.4 i lt refl) (y.4 i lt refl) tt), h)
  in_turns Alone ts s st len B a b c d alone x y rec h =
      let i = start_value (ids_of l item) s in
      rec ts i a b c d (x i (alone refl) refl) (y i (alone refl) refl) h

  -- a map over groups: a loop, or an `if`
  statement : (ins : ℕ → Marks) (once : Bool) (ts : List ℕ) (s : Start) (st : Stride) (len : ℕ) (body inner a b : Code) (c d : Formula) → a ≡ statement_of (form_over_groups once) s st c body → b ≡ statement_of (form_over_groups once) s st d inner → IsLength l ins c len → IsLength l ins d len
      → ((i : ℕ) → i < len → IsTurn l item s st i → Alike true l item (variables_in (form_over_groups once) ts i) body inner) → Alike true l item ts a b
  statement ins false ts s st len body inner a b c d x y m n within =
      alike_by true l item ts a b (Loops s c st body End) (Loops s d st inner End) x y (refl, refl, len, m, n, within, tt)
  statement ins true ts s st len body inner a b c d x y m n within =
      let i = start_value (ids_of l item) s in
      alike_by true l item ts a b (Guards s c body End) (Guards s d inner End) x y
      (refl, refl, len, m, n, (λ lt. within i lt (0, let z : i + 0 * stride_value (ids_of l item) st ≡ i = omega arith in sym z)), tt)

module _ (l : Launch) (item : ℕ) (ins : ℕ → Marks) {A : Type 0} (num : A → ℕ) (forms : GridForms A) (alone : TakeOne forms num l) (whole : IsWhole l) (one other : ℕ → Fencing) (here : item < item_count l) where
  takes_row : (len : A) → forms.rows.local len ≡ Alone → start_value (ids_of l item) (FromLocalId Y) < num len
  takes_row len e = subst (λ z. start_value (ids_of l item) (FromLocalId Y) < z) (sym (alone.rows len e)) (mod-lt (row_of l item) whole.y.positive)

  takes_column : (len : A) → forms.columns.local len ≡ Alone → start_value (ids_of l item) (FromLocalId X) < num len
  takes_column len e = subst (λ z. start_value (ids_of l item) (FromLocalId X) < z) (sym (alone.columns len e)) (mod-lt (column_of l item) whole.x.positive)

  -- a map along a row
  along_row : (t : Term A) (ts : List ℕ) (r k p : ℕ) (n : Count) (env : ℕ → Marks) (w : Marks) (a b c d : Code) → IsAlongRow num forms l ins item k p n env t w ts r a c → IsAlongRow num forms l ins item k p n env t w ts r b d → Alike true l item ts c d → Alike true l item ts a b
  along_row (Reshape m t) ts r k p n env w a b c d x y h = along_row t ts r k p n env (λ cs q. w cs (result_position num m q)) a b c d x.1 y.1 h
  along_row (Map (Over Items dimension.X) len loads xs t) ts r k p n env w a b c d x y h =
      let f = marks_in local_arrays num ins env k xs in
      let v = more n (variable_count xs) in
      in_turns l item (forms.columns.local len) ts (FromLocalId X) (ByLocalSize X) (num len) _ a b c d (takes_column len) x y
      (λ us j e g m i u s rest. loaded l item ins us loads (at_index j f) v e g u.0 s.0 u.1 s.1
      (alike_written true l item ins num t us (push (loaded_marks loads (at_index j f) v) env) (p + private_count xs) (more v (load_count loads)) (at_index j w) u.0 s.0 m i u.2 s.2 rest))
      h
  along_row _ ts r k p n env w a b c d x y h = absurd x

  -- within maps over groups in these forms, at this turn, with the same barriers before n phases
  module _ (rf cf : MapForm) (grid : Grid) (n : ℕ) (same : (q : ℕ) → q ≤ n → one q ≡ other q) (i : ℕ) (it : i < places grid) (row : IsGroupRow l item (i / grid.columns)) (column : IsGroupColumn l item (i % grid.columns)) where
    abbrev around : List ℕ
    around = variables_in cf (variables_in rf [] (i / grid.columns)) (i % grid.columns)

    nest : (env : (turn var : ℕ) → Marks) (u : Used) (len : A) (loads : LoadSet) (marks : ℕ → Marks) (t : Term A) (w : ℕ → Marks) (a b c d : Code)
        → IsLocalNest num forms l ins one rf cf grid env u len loads marks t w a c → IsLocalNest num forms l ins other rf cf grid env u len loads marks t w b d → Alike true l item around c d → Alike true l item around a b
    nest env u len loads marks t w a b c d x y h =
        in_turns l item (forms.rows.local len) around (FromLocalId Y) (ByLocalSize Y) (num len) _ a b c d (takes_row len) (x item i here it row column) (y item i here it row column)
        (λ us j p q m k r s rest. loaded l item ins us loads (at_index j (marks i)) u.variables p q r.0 s.0 r.1 s.1
        (along_row t us j u.locals u.privates (more u.variables (load_count loads)) (push (loaded_marks loads (at_index j (marks i)) u.variables) (env i)) (at_index j (w i)) r.0 s.0 m k r.2 s.2 rest))
        h

    mutual
      argument : (t : Term A) (env : (turn var : ℕ) → Marks) (u : Used) (a b c d : Code) → u.phases + phases_in t ≤ n
          → IsGridArgument num forms l ins one rf cf grid env u t a c → IsGridArgument num forms l ins other rf cf grid env u t b d → Alike true l item around c d → Alike true l item around a b
      argument (Bound v) env u a b c d few x y h = alike_by true l item around a b c d x y h
      argument (Source v) env u a b c d few x y h = alike_by true l item around a b c d x y h
      argument (Both true t s) env u a b c d few x y h =
          argument t env u a b x.0 y.0 (omega (arith, few)) x.1 y.1 (argument s env (used_after u t) x.0 y.0 c d (omega (arith, few)) x.2 y.2 h)
      argument (Project s t) env u a b c d few x y h = argument t env u a b c d few x y h
      argument (Reshape m t) env u a b c d few x y h = argument t env u a b c d few x y h
      argument (LetArray v t) env u a b c d few x y h =
          argument v env u a b x.0 y.0 (omega (arith, few)) x.1 y.1
          (argument t (λ j. push (marks_of num ins env u.locals v j) (env j)) (used_after u v) x.0 y.0 c d (omega (arith, few)) x.2 y.2 h)
      argument (Copy LocalMemory ty t) env u a b c d few x y h = written t env u (λ j. laid_in LocalArray (u.locals + local_count t) ty) a b c d few x y h
      argument _ env u a b c d few x y h = absurd x

      written : (t : Term A) (env : (turn var : ℕ) → Marks) (u : Used) (w : ℕ → Marks) (a b c d : Code) → u.phases + phases_in t ≤ n
          → IsGridWritten num forms l ins one rf cf grid env u t w a c → IsGridWritten num forms l ins other rf cf grid env u t w b d → Alike true l item around c d → Alike true l item around a b
      written (Reshape m t) env u w a b c d few x y h = written t env u (λ j cs p. w j cs (result_position num m p)) a b c d few x.1 y.1 h
      written (LetArray v t) env u w a b c d few x y h =
          argument v env u a b x.0 y.0 (omega (arith, few)) x.1 y.1
          (written t (λ j. push (marks_of num ins env u.locals v j) (env j)) (used_after u v) w x.0 y.0 c d (omega (arith, few)) x.2 y.2 h)
      written (Map (Over Items dimension.Y) len loads xs t) env u w a b c d few x y h =
          argument xs env u a b x.0 y.0 (omega (arith, few)) x.2 y.2
          (past l item around (one (u.phases + phases_in xs)) (other (u.phases + phases_in xs)) x.0 y.0 x.1 y.1 (same (u.phases + phases_in xs) (omega (arith, few))) x.3 y.3
          (nest env (used_after u xs) len loads (marks_of num ins env u.locals xs) t w x.1 y.1 c d x.4 y.4 h))
      written _ env u w a b c d few x y h = absurd x

    turn : (first : Count) (env : (turn var : ℕ) → Marks) (loads : LoadSet) (marks : ℕ → Marks) (t : Term A) (w : ℕ → Marks) (a b : Code) → n ≡ phases_in t
        → IsGridTurn num forms l ins one rf cf grid first env loads marks t w a → IsGridTurn num forms l ins other rf cf grid first env loads marks t w b → Alike true l item around a b
    turn first env loads marks t w a b e x y =
        loaded l item ins around loads (marks i) first a b x.0 y.0 (x.2 item i here it row column) (y.2 item i here it row column)
        (written t (λ j. push (loaded_marks loads (marks j) first) (env j)) (record { locals = 0; privates = 0; variables = more first (load_count loads); phases = 0 }) w x.0 y.0 x.1 y.1 (omega arith) x.3 y.3
        (past l item around (one (phases_in t)) (other (phases_in t)) x.1 y.1 End End (same (phases_in t) (omega arith)) x.4 y.4 tt))

  along_groups : (t : Term A) (rf : MapForm) (rows : ℕ) (n : Count) (r : ℕ) (env : (row var : ℕ) → Marks) (w : (row : ℕ) → Marks) (a b : Code) → r < rows → IsGroupRow l item r → ((q : ℕ) → q ≤ phases_along t → one q ≡ other q)
      → IsAlongGroups num forms l ins one rf rows n env t w a → IsAlongGroups num forms l ins other rf rows n env t w b → Alike true l item (variables_in rf [] r) a b
  along_groups (Reshape m t) rf rows n r env w a b rl row same x y = along_groups t rf rows n r env (λ u cs p. w u cs (result_position num m p)) a b rl row same x.1 y.1
  along_groups (Map (Over Groups dimension.X) z loads xs t) rf rows n r env w a b rl row same x y =
      let len = num z in
      let cf = form_over_groups (forms.columns.once z) in
      statement l item ins (forms.columns.once z) (variables_in rf [] r) (FromGroupId X) (ByGroupCount X) len x.1 y.1 a b x.0 y.0 x.2 y.2 x.3 y.3
      (λ i il own.
      let up : (r * len + i) / len ≡ r = div-mul-add r len i il in
      let over : (r * len + i) % len ≡ i = mod-mul-add r len i il in
      let h = turn rf cf (record { rows = rows; columns = len }) (phases_in t) same (r * len + i) (pair_below r i rows len rl il)
      (subst (λ v. IsGroupRow l item v) (sym up) row) (subst (λ v. IsGroupColumn l item v) (sym over) own) n (λ j. env (j / len)) loads
      (λ j. at_index (j % len) (argument_marks l ins num (env (j / len)) 0 xs)) t (λ j. at_index (j % len) (w (j / len))) x.1 y.1 refl x.4 y.4 in
      subst (λ v. Alike true l item (variables_in cf (variables_in rf [] r) v) x.1 y.1) over (subst (λ v. Alike true l item (variables_in cf (variables_in rf [] v) ((r * len + i) % len)) x.1 y.1) up h))
  along_groups _ rf rows n r env w a b rl row same x y = absurd x

  over_grid : (t : Term A) (env : ℕ → Marks) (w : Marks) (a b : Code) → ((q : ℕ) → q ≤ grid_phase_count t → one q ≡ other q) → IsOverGrid num forms l ins one env t w a → IsOverGrid num forms l ins other env t w b → Alike true l item [] a b
  over_grid (Reshape m t) env w a b same x y = over_grid t env (λ cs p. w cs (result_position num m p)) a b same x.1 y.1
  over_grid (LetArray v t) env w a b same x y = over_grid t (push (argument_marks l ins num env 0 v) env) w a b same x y
  over_grid (Map (Over Groups dimension.Y) z loads xs t) env w a b same x y =
      let len = num z in
      let rf = form_over_groups (forms.rows.once z) in
      let f = argument_marks l ins num env 0 xs in
      statement l item ins (forms.rows.once z) [] (FromGroupId Y) (ByGroupCount Y) len x.1 y.1 a b x.0 y.0 x.3 y.3 x.4 y.4
      (λ r rl row. loaded l item ins (variables_in rf [] r) loads (at_index r f) no_variables x.1 y.1 x.2 y.2 (x.5 item r here rl row) (y.5 item r here rl row)
      (along_groups t rf len (load_count loads) r (λ u. push (loaded_marks loads (at_index u f) no_variables) env) (λ u. at_index u w) x.2 y.2 rl row same x.6 y.6))
  over_grid _ env w a b same x y = absurd x

pub grid_codes_alike : (A : Type 0) → GridCodesAlike A
grid_codes_alike A l num forms ins one other t w a b item whole alone here same x y = over_grid l item ins num forms alone whole one other here t no_marks w a b same x y
