use Rattle.std.proofs.Common.{◌≡◌, ◌∙◌, Some, refl, sym, ap, subst}
use Rattle.std.specs.Prelude.{slice_get}
use Rattle.std.proofs.lemmas.Bool.{ltb-true}
use Rattle.kernel_tree.specs.declared.events.Event.TheVariants.{Step}
use Rattle.kernel_tree.specs.Launch.{ids_of}
use Rattle.ndrange_machine.specs.declared.line.Line.TheVariants.{Assign, Load, Store, Tail}
use Rattle.ndrange_machine.specs.Takes.{IsWanted}
use Rattle.ndrange_machine.specs.Wants.{want_tail}
use Rattle.ndrange_machine.proofs.Rows.{get_or_is}
use Rattle.ndrange_machine.proofs.Wanting.{line_told, wants_to_set, wants_to_read, wants_to_write, wants_to_repeat, wants_to_begin, advances_same}
use Rattle.ndrange_machine.proofs.machine.Machine.go.Goals as goal

pub returns-in-Some-value : goal.returns-in-Some-value
returns-in-Some-value c =
    let m = c.args.self.now in
    let j = c.args.item in
    let at = c.line_of-at.result in
    let told = line_told m j at c.requires c.line_of-at.ensures in
    let it = told.0 in
    let w = c.in-Some-Assign in
    let lines = c.deref.ensures.value in
    let read = get_or_is c.deref.result.now at w.field-0.now (ltb-true at _ (sym w.ensures.lookup.0)) w.ensures.lookup.1 in
    let is = w.field-0-is in
    let line_is : slice_get m.lines.items at ≡ Some (Assign w.v w.e) = ap (λ z. slice_get z at) (sym lines) ∙ read ∙ ap Some is in
    advances_same m (Step j) _ _ (c.keep.ensures (wants_to_set m j it at w.v w.e c.in-Some-value.word (record { item = told.1; place = told.2; line = line_is }) (sym (c.value.ensures it told.1) ∙ c.in-Some-value.is))) (record { lines = refl; launch = refl; memory = refl; items = refl }) refl refl

pub returns-in-None-value : goal.returns-in-None-value
returns-in-None-value c = advances_same c.args.self.now (Step c.args.item) _ _ c.take.ensures (record { lines = refl; launch = refl; memory = refl; items = refl }) refl refl

pub returns-in-Some-value-2 : goal.returns-in-Some-value-2
returns-in-Some-value-2 c =
    let m = c.args.self.now in
    let j = c.args.item in
    let at = c.line_of-at.result in
    let told = line_told m j at c.requires c.line_of-at.ensures in
    let it = told.0 in
    let w = c.in-Some-Load in
    let lines = c.deref.ensures.value in
    let read = get_or_is c.deref.result.now at w.field-0.now (ltb-true at _ (sym w.ensures.lookup.0)) w.ensures.lookup.1 in
    let is = w.field-0-is in
    let line_is : slice_get m.lines.items at ≡ Some (Load w.v w.array w.i) = ap (λ z. slice_get z at) (sym lines) ∙ read ∙ ap Some is in
    advances_same m (Step j) _ _ (c.load.ensures (wants_to_read m j it at w.v w.array w.i c.in-Some-value-2.index (record { item = told.1; place = told.2; line = line_is }) (sym (c.value-in-Some-Load.ensures it told.1) ∙ c.in-Some-value-2.is))) (record { lines = refl; launch = refl; memory = refl; items = refl }) refl refl

pub returns-in-None-value-2 : goal.returns-in-None-value-2
returns-in-None-value-2 c = advances_same c.args.self.now (Step c.args.item) _ _ c.take-in-None-value-2.ensures (record { lines = refl; launch = refl; memory = refl; items = refl }) refl refl

pub returns-in-Some-value-4 : goal.returns-in-Some-value-4
returns-in-Some-value-4 c =
    let m = c.args.self.now in
    let j = c.args.item in
    let at = c.line_of-at.result in
    let told = line_told m j at c.requires c.line_of-at.ensures in
    let it = told.0 in
    let w = c.in-Some-Store in
    let lines = c.deref.ensures.value in
    let read = get_or_is c.deref.result.now at w.field-0.now (ltb-true at _ (sym w.ensures.lookup.0)) w.ensures.lookup.1 in
    let is = w.field-0-is in
    let line_is : slice_get m.lines.items at ≡ Some (Store w.array w.i w.e) = ap (λ z. slice_get z at) (sym lines) ∙ read ∙ ap Some is in
    advances_same m (Step j) _ _ (c.store.ensures (wants_to_write m j it at w.array w.i w.e c.in-Some-value-3.index c.in-Some-value-4.word (record { item = told.1; place = told.2; line = line_is }) (sym (c.value-in-Some-Store.ensures it told.1) ∙ c.in-Some-value-3.is) (sym (c.value-in-Some-value-3.ensures it told.1) ∙ c.in-Some-value-4.is))) (record { lines = refl; launch = refl; memory = refl; items = refl }) refl refl

pub returns-in-None-value-4 : goal.returns-in-None-value-4
returns-in-None-value-4 c = advances_same c.args.self.now (Step c.args.item) _ _ c.take-in-None-value-4.ensures (record { lines = refl; launch = refl; memory = refl; items = refl }) refl refl

pub returns-in-None-value-3 : goal.returns-in-None-value-3
returns-in-None-value-3 c = advances_same c.args.self.now (Step c.args.item) _ _ c.take-in-None-value-3.ensures (record { lines = refl; launch = refl; memory = refl; items = refl }) refl refl

pub returns-in-Changes : goal.returns-in-Changes
returns-in-Changes c =
    let m = c.args.self.now in
    let j = c.args.item in
    let at = c.line_of-at.result in
    let told = line_told m j at c.requires c.line_of-at.ensures in
    let it = told.0 in
    let w = c.in-Some-Tail in
    let lines = c.deref.ensures.value in
    let read = get_or_is c.deref.result.now at w.field-0.now (ltb-true at _ (sym w.ensures.lookup.0)) w.ensures.lookup.1 in
    let is = w.field-0-is in
    let line_is : slice_get m.lines.items at ≡ Some (Tail w.head) = ap (λ z. slice_get z at) (sym lines) ∙ read ∙ ap Some is in
    let back : c.want_back.result ≡ want_tail m.lines.items (ids_of m.launch j) w.head it.turns = c.want_back.ensures it told.1 ∙ ap (λ z. want_tail z (ids_of m.launch j) w.head it.turns) c.deref-in-Some-Tail.ensures.value in
    advances_same m (Step j) _ _ (c.keep-in-Changes.ensures (subst (IsWanted m j) c.in-Changes.is (wants_to_repeat m j it at w.head c.want_back.result (record { item = told.1; place = told.2; line = line_is }) back))) (record { lines = refl; launch = refl; memory = refl; items = refl }) refl refl

pub returns-in-Changes-want_begun : goal.returns-in-Changes-want_begun
returns-in-Changes-want_begun c =
    let m = c.args.self.now in
    let j = c.args.item in
    let at = c.line_of-at.result in
    let told = line_told m j at c.requires c.line_of-at.ensures in
    let it = told.0 in
    let w = c.in-Some-Head in
    let lines = c.deref.ensures.value in
    let read = get_or_is c.deref.result.now at w.field-0.now (ltb-true at _ (sym w.ensures.lookup.0)) w.ensures.lookup.1 in
    let is = w.field-0-is in
    let line_is = ap (λ z. slice_get z at) (sym lines) ∙ read ∙ ap Some is in
    advances_same m (Step j) _ _ (c.keep-in-Changes-want_begun.ensures (subst (IsWanted m j) c.in-Changes-want_begun.is (wants_to_begin m j it at w.start w.bound _ w.exit c.want_begun.result (record { item = told.1; place = told.2; line = line_is }) c.want_begun.ensures))) (record { lines = refl; launch = refl; memory = refl; items = refl }) refl refl

pub returns-in_default-want_begun : goal.returns-in_default-want_begun
returns-in_default-want_begun c = advances_same c.args.self.now (Step c.args.item) _ _ c.take-in_default-want_begun.ensures (record { lines = refl; launch = refl; memory = refl; items = refl }) refl refl

pub returns-in_default : goal.returns-in_default
returns-in_default c = advances_same c.args.self.now (Step c.args.item) _ _ c.take-in_default.ensures (record { lines = refl; launch = refl; memory = refl; items = refl }) refl refl

pub returns-in-Some : goal.returns-in-Some
returns-in-Some c = advances_same c.args.self.now (Step c.args.item) _ _ c.take-in-Some.ensures (record { lines = refl; launch = refl; memory = refl; items = refl }) refl refl

pub returns-in-None : goal.returns-in-None
returns-in-None c = advances_same c.args.self.now (Step c.args.item) _ _ c.take-in-None.ensures (record { lines = refl; launch = refl; memory = refl; items = refl }) refl refl
