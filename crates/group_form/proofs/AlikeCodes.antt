-- Any two codes printed for one map over work-groups are alike.
use Rattle.std.proofs.Common.{◌≡◌, ℕ, ◌+◌, ◌*◌, ◌<◌, ◌≤◌, Bool, true, false, List, [], ◌∷◌, ◌++◌, refl, sym, subst, arith}
use Rattle.std.proofs.Math.Nat.{mod-lt}
use Rattle.lift_tree.specs.declared.term.Level.TheVariants.{Groups, Items}
use Rattle.lift_tree.specs.declared.term.Dimension.TheVariants.{X}
use Rattle.kernel_tree.specs.Formula.{Formula}
use Rattle.kernel_tree.specs.Code.{Local as LocalArray, Code, End, Loops, Guards, start_value, stride_value}
use Rattle.kernel_tree.specs.Launch.{Launch, IsWhole, item_count, ids_of, column_of}
use Rattle.barrier_placement.specs.Fencing.{Fencing, Open, Fenced}
use Rattle.lift_ir.specs.Terms.{LoadSet, Kind, Over, LocalMemory, Term, Bound, Source, Both, Project, Reshape, LetArray, Map, Copy, push}
use Rattle.lift_ir.specs.Scalars.{at_index}
use Rattle.lift_ir.specs.Layouts.{result_position}
use Rattle.printed_form.specs.Counts.{Count, more, no_variables, load_count, local_count}
use Rattle.printed_form.specs.Form.{start_of, stride_of, IsTurnOf, IsLength, IsLoaded, argument_marks}
use Rattle.printed_form.specs.MapForms.{MapForm, Looped, Guarded, Alone, MapForms, TurnCode, form_over_groups, statement_over_groups, variables_in, AreTurns}
use Rattle.printed_form.specs.Marks.{Marks, laid_in, loaded_marks}
use Rattle.printed_form.specs.Alike.{Alike}
use Rattle.printed_form.proofs.Alike.{alike_by, alike_loaded, alike_written}
use Rattle.group_phases.specs.Epochs.{fenced, IsPast}
use Rattle.group_form.specs.Form.{Used, used_after, IsLocalMap, IsGroupArgument, IsGroupWritten, IsGroupTurn, IsOverGroups}
use Rattle.group_form.specs.Stages.{marks_of}
use Rattle.group_form.specs.Uses.{phases_in, phase_count}

-- an item's number in its group is below the group's size
local_below : (l : Launch) (item : ℕ) → IsWhole l → start_value (ids_of l item) (start_of (Over Items X)) < l.local.0
local_below l item whole = mod-lt (column_of l item) whole.x.positive

module _ (l : Launch) (item : ℕ) where
  -- what stands before a phase
  pub past : (ts : List ℕ) (f g : Fencing) (a b c d : Code) → f ≡ g → IsPast f a c → IsPast g b d → Alike true l item ts c d → Alike true l item ts a b
  past ts f g a b c d same x y h = alike_by true l item ts a b (fenced f c) (fenced f d) x (subst (λ z. IsPast z b d) (sym same) y) (go f)
    where
      go : (f : Fencing) → Alike true l item ts (fenced f c) (fenced f d)
      go Open = h
      go (Fenced on_local on_global) = ((refl, refl, refl), h)

  module _ (ins : ℕ → Marks) where
    pub loaded : (ts : List ℕ) (loads : LoadSet) (e : Marks) (n : Count) (a b c d : Code) → IsLoaded l item ins ts loads e n a c → IsLoaded l item ins ts loads e n b d → Alike true l item ts c d → Alike true l item ts a b
    loaded = alike_loaded true l item ins

    -- a map in a form, of which the item takes a turn where it is the turn alone
    in_turns : (form : MapForm) (ts : List ℕ) (k : Kind) (len : ℕ) (B : TurnCode) (a b c d : Code) → (form ≡ Alone → start_value (ids_of l item) (start_of k) < len) → AreTurns l item ins form k ts len B a c → AreTurns l item ins form k ts len B b d
        → ((us : List ℕ) (i : ℕ) (x y m n : Code) → B us i x m → B us i y n → Alike true l item us m n → Alike true l item us x y) → Alike true l item ts c d → Alike true l item ts a b
    in_turns Looped ts k len B a b c d alone x y rec h =
        alike_by true l item ts a b (Loops (start_of k) x.0 (stride_of k) x.1 c) (Loops (start_of k) y.0 (stride_of k) y.1 d) x.2 y.2
        (refl, refl, len, x.3, y.3, (λ i lt own. rec (ts ++ i ∷ []) i x.1 y.1 End End (x.4 i lt own) (y.4 i lt own) tt), h)
    in_turns Guarded ts k len B a b c d alone x y rec h =
        let i = start_value (ids_of l item) (start_of k) in
        alike_by true l item ts a b (Guards (start_of k) x.0 x.1 c) (Guards (start_of k) y.0 y.1 d) x.2 y.2
        (refl, refl, len, x.3, y.3, (λ lt. rec ts i x.1 y.1 End End (x.4 i lt refl) (y.4 i lt refl) tt), h)
    in_turns Alone ts k len B a b c d alone x y rec h =
        let i = start_value (ids_of l item) (start_of k) in
        rec ts i a b c d (x i (alone refl) refl) (y i (alone refl) refl) h

    -- with the same barriers before n phases, and at the end
    module _ {A : Type 0} (num : A → ℕ) (forms : MapForms A) (alone : (n : A) → forms.local n ≡ Alone → num n ≡ l.local.0) (whole : IsWhole l) (one other : ℕ → Fencing) (here : item < item_count l) where
      takes_its_turn : (len : A) → forms.local len ≡ Alone → start_value (ids_of l item) (start_of (Over Items X)) < num len
      takes_its_turn len e = subst (λ z. start_value (ids_of l item) (start_of (Over Items X)) < z) (sym (alone len e)) (local_below l item whole)

      module _ (outer : MapForm) (n : ℕ) (same : (q : ℕ) → q ≤ n → one q ≡ other q) (turns i : ℕ) (it : i < turns) (own : IsTurnOf l item (Over Groups X) i) where
        abbrev around : List ℕ
        around = variables_in outer [] i

        local_map : (env : (turn var : ℕ) → Marks) (u : Used) (len : A) (loads : LoadSet) (marks : ℕ → Marks) (t : Term A) (w : ℕ → Marks) (a b c d : Code)
            → IsLocalMap num forms l ins one outer turns env u len loads marks t w a c → IsLocalMap num forms l ins other outer turns env u len loads marks t w b d → Alike true l item around c d → Alike true l item around a b
        local_map env u len loads marks t w a b c d x y h =
            in_turns (forms.local len) around (Over Items X) (num len) _ a b c d (takes_its_turn len) (x item i here it own) (y item i here it own)
            (λ us j p q m k r s rest. loaded us loads (at_index j (marks i)) u.variables p q r.0 s.0 r.1 s.1
            (alike_written true l item ins num t us (push (loaded_marks loads (at_index j (marks i)) u.variables) (env i)) u.privates (more u.variables (load_count loads)) (at_index j (w i)) r.0 s.0 m k r.2 s.2 rest))
            h

        mutual
          argument : (t : Term A) (env : (turn var : ℕ) → Marks) (u : Used) (a b c d : Code) → u.phases + phases_in t ≤ n
              → IsGroupArgument num forms l ins one outer turns env u t a c → IsGroupArgument num forms l ins other outer turns env u t b d → Alike true l item around c d → Alike true l item around a b
          argument (Bound v) env u a b c d few x y h = alike_by true l item around a b c d x y h
          argument (Source v) env u a b c d few x y h = alike_by true l item around a b c d x y h
          argument (Both true t s) env u a b c d few x y h =
              argument t env u a b x.0 y.0 (omega (arith, few)) x.1 y.1 (argument s env (used_after u t) x.0 y.0 c d (omega (arith, few)) x.2 y.2 h)
          argument (Project s t) env u a b c d few x y h = argument t env u a b c d few x y h
          argument (Reshape m t) env u a b c d few x y h = argument t env u a b c d few x y h
          argument (LetArray v t) env u a b c d few x y h =
              argument v env u a b x.0 y.0 (omega (arith, few)) x.1 y.1
              (argument t (λ j. push (marks_of num ins env u.locals v j) (env j)) (used_after u v) x.0 y.0 c d (omega (arith, few)) x.2 y.2 h)
          argument (Copy LocalMemory ty t) env u a b c d few x y h = written t env u (λ j. laid_in LocalArray (u.locals + local_count t) ty) a b c d few x y h
          argument _ env u a b c d few x y h = absurd x

          written : (t : Term A) (env : (turn var : ℕ) → Marks) (u : Used) (w : ℕ → Marks) (a b c d : Code) → u.phases + phases_in t ≤ n
              → IsGroupWritten num forms l ins one outer turns env u t w a c → IsGroupWritten num forms l ins other outer turns env u t w b d → Alike true l item around c d → Alike true l item around a b
          written (Reshape m t) env u w a b c d few x y h = written t env u (λ j cs p. w j cs (result_position num m p)) a b c d few x.1 y.1 h
          written (LetArray v t) env u w a b c d few x y h =
              argument v env u a b x.0 y.0 (omega (arith, few)) x.1 y.1
              (written t (λ j. push (marks_of num ins env u.locals v j) (env j)) (used_after u v) w x.0 y.0 c d (omega (arith, few)) x.2 y.2 h)
          written (Map (Over Items X) len loads xs t) env u w a b c d few x y h =
              argument xs env u a b x.0 y.0 (omega (arith, few)) x.2 y.2
              (past around (one (u.phases + phases_in xs)) (other (u.phases + phases_in xs)) x.0 y.0 x.1 y.1 (same (u.phases + phases_in xs) (omega (arith, few))) x.3 y.3
              (local_map env (used_after u xs) len loads (marks_of num ins env u.locals xs) t w x.1 y.1 c d x.4 y.4 h))
          written _ env u w a b c d few x y h = absurd x

      turn : (outer : MapForm) (turns i : ℕ) (env : ℕ → Marks) (loads : LoadSet) (marks : Marks) (t : Term A) (w : Marks) (a b : Code) → i < turns → IsTurnOf l item (Over Groups X) i → ((q : ℕ) → q ≤ phases_in t → one q ≡ other q)
          → IsGroupTurn num forms l ins one outer turns env loads marks t w a → IsGroupTurn num forms l ins other outer turns env loads marks t w b → Alike true l item (variables_in outer [] i) a b
      turn outer turns i env loads marks t w a b it own same x y =
          loaded (variables_in outer [] i) loads (at_index i marks) no_variables a b x.0 y.0 (x.2 item i here it own) (y.2 item i here it own)
          (written outer (phases_in t) same turns i it own t (λ j. push (loaded_marks loads (at_index j marks) no_variables) env) (record { locals = 0; privates = 0; variables = load_count loads; phases = 0 }) (λ j. at_index j w) x.0 y.0 x.1 y.1 (omega arith) x.3 y.3
          (past (variables_in outer [] i) (one (phases_in t)) (other (phases_in t)) x.1 y.1 End End (same (phases_in t) (omega arith)) x.4 y.4 tt))

      -- the map over groups: a loop, or an `if`
      statement : (once : Bool) (len : ℕ) (body inner a b : Code) (c d : Formula) → a ≡ statement_over_groups X once c body → b ≡ statement_over_groups X once d inner → IsLength l ins c len → IsLength l ins d len
          → ((i : ℕ) → i < len → IsTurnOf l item (Over Groups X) i → Alike true l item (variables_in (form_over_groups once) [] i) body inner) → Alike true l item [] a b
      statement false len body inner a b c d x y m n within =
          alike_by true l item [] a b (Loops (start_of (Over Groups X)) c (stride_of (Over Groups X)) body End) (Loops (start_of (Over Groups X)) d (stride_of (Over Groups X)) inner End) x y (refl, refl, len, m, n, within, tt)
      statement true len body inner a b c d x y m n within =
          let i = start_value (ids_of l item) (start_of (Over Groups X)) in
          alike_by true l item [] a b (Guards (start_of (Over Groups X)) c body End) (Guards (start_of (Over Groups X)) d inner End) x y
          (refl, refl, len, m, n, (λ lt. within i lt (0, let z : i + 0 * stride_value (ids_of l item) (stride_of (Over Groups X)) ≡ i = omega arith in sym z)), tt)

      pub over_groups : (t : Term A) (env : ℕ → Marks) (w : Marks) (a b : Code) → ((q : ℕ) → q ≤ phase_count t → one q ≡ other q) → IsOverGroups num forms l ins one env t w a → IsOverGroups num forms l ins other env t w b → Alike true l item [] a b
      over_groups (Reshape m t) env w a b same x y = over_groups t env (λ cs p. w cs (result_position num m p)) a b same x.1 y.1
      over_groups (LetArray v t) env w a b same x y = over_groups t (push (argument_marks l ins num env 0 v) env) w a b same x y
      over_groups (Map (Over Groups X) len loads xs t) env w a b same x y =
          statement (forms.once len) (num len) x.1 y.1 a b x.0 y.0 x.2 y.2 x.3 y.3
          (λ i it own. turn (form_over_groups (forms.once len)) (num len) i env loads (argument_marks l ins num env 0 xs) t w x.1 y.1 it own same x.4 y.4)
      over_groups _ env w a b same x y = absurd x
