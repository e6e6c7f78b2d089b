use Rattle.std.proofs.Common.{◌≡◌, ◌≢◌, ◌-◌, ◌<◌, [], ◌∷◌, ◌++◌, length, Some, None, string_bytes, refl, sym, ap, ◌∙◌, subst, arith, rules}
use Rattle.std.specs.Prelude.{IsTrue}
use Rattle.json.specs.Token.{Token}
use Rattle.json.specs.Json.{parse_map, after_end_array, read_key, value}
use Rattle.json.specs.Reads.{token_of}
use Rattle.json.proofs.Grammar.{read_key-shorter}
use Rattle.serde_json.specs.Data.{null, boolean, number, string, array, object, no_items, no_members, put}
use Rattle.serde_json.specs.View.{view, number_view, members_view}
use Rattle.serde_json.specs.declared.value.Value.{String, Number, Bool, Null, the_lemmas}
use Rattle.serde_json.proofs.Views.{view-Array, view-Object, members_view-insert_entry}
use Rattle.lift_tree.specs.Programs.{program_of}
use Rattle.launch_file.specs.Asked.{Agree, AgreeMembers, is_asked}
use Rattle.launch_file.specs.Tokens.{items_at, members_at, value_at}
use Rattle.launch_file.specs.declared.refusal.LaunchNo.TheVariants.{Memory, NotJson}
use Rattle.launch_file.proofs.Pairing.{AgreeEach, items_after, one_item_more, one_more, agree_items, put_both, put_unasked}
use Rattle.launch_file.proofs.Turns.{item_read, item_refused, items_over, member_read, member_refused, key_refused, members_over, nothing_at, string_at, boolean_at, null_at, number_at, list_at, object_at, list_too_deep, object_too_deep, none_at, handed_on}
use Rattle.launch_file.proofs.reading.+read.Goals as goal

pub read-returns-in_err-token-clause-refused : goal.read-returns-in_err-token-clause-refused
read-returns-in_err-token-clause-refused t c =
    let empty : c.args.reader.now ≡ [] = grind arith in
    let none : value_at c.args.depth c.args.reader.now ≡ None = ap (value_at c.args.depth) empty ∙ nothing_at c.args.depth in
    grind (arith, none)

pub read-returns-in-Some-clause-ok : goal.read-returns-in-Some-clause-ok
read-returns-in-Some-clause-ok t c =
    let first : c.args.reader.now ≡ token_of c.in_ok-token.token ∷ c.next.new.self = grind arith in
    let is : c.args.reader.now ≡ Token.number c.in-Number.text.now ∷ c.next.new.self = grind (arith, first) in
    let d = number (number_view c.in-Some.number) in
    let seen : view (Number c.in-Some.number) ≡ d = search (rules, the_lemmas) in (
      d,
      ap (value_at c.args.depth) is ∙ number_at c.args.depth c.next.new.self c.in-Number.text.now ∙ rw (← c.in-Some.ensures) refl,
      subst (λ x. Agree (program_of c.args.program.now) x d) (sym seen) refl,
    )

pub read-returns-in-None-clause-refused : goal.read-returns-in-None-clause-refused
read-returns-in-None-clause-refused t c =
    let first : c.args.reader.now ≡ token_of c.in_ok-token.token ∷ c.next.new.self = grind arith in
    let is : c.args.reader.now ≡ Token.number c.in-Number.text.now ∷ c.next.new.self = grind (arith, first) in
    λ _. (refl, ap (value_at c.args.depth) is ∙ number_at c.args.depth c.next.new.self c.in-Number.text.now ∙ rw (← c.in-None.ensures) refl)

pub read_from-returns-then-depth-eq0-clause-refused : goal.read_from-returns-then-depth-eq0-clause-refused
read_from-returns-then-depth-eq0-clause-refused t c =
    let is = ap (λ u. token_of u ∷ c.args.reader.now) c.in-BeginArray.is in
    λ _. (refl, ap (value_at c.args.depth) is ∙ list_too_deep c.args.depth c.args.reader.now (omega arith))

pub read_from-returns-then-depth-eq0-2-clause-refused : goal.read_from-returns-then-depth-eq0-2-clause-refused
read_from-returns-then-depth-eq0-2-clause-refused t c =
    let is = ap (λ u. token_of u ∷ c.args.reader.now) c.in-BeginObject.is in
    λ _. (refl, ap (value_at c.args.depth) is ∙ object_too_deep c.args.depth c.args.reader.now (omega arith))

pub read_from-returns-in_err-read_items-in-BeginArray-clause-refused : goal.read_from-returns-in_err-read_items-in-BeginArray-clause-refused
read_from-returns-in_err-read_items-in-BeginArray-clause-refused t c =
    let ts = c.args.reader.now in
    let opened = ap (λ u. value_at c.args.depth (token_of u ∷ ts)) c.in-BeginArray.is ∙ list_at c.args.depth ts (omega arith) in
    let no = c.in_err-read_items-in-BeginArray in
    handed_on c.from_residual-in_err-read_items-in-BeginArray.result no.field-0.0 (λ e. e ≢ Memory → (e ≡ NotJson) × (value_at c.args.depth (token_of c.args.first ∷ ts) ≡ None)) c.from_residual-in_err-read_items-in-BeginArray.ensures.1
    (λ other. let refused = no.ensures.refused other in (refused.0, opened ∙ ap (parse_map array) refused.1))

pub read_from-returns-in_err-read_members-in-BeginObject-clause-refused : goal.read_from-returns-in_err-read_members-in-BeginObject-clause-refused
read_from-returns-in_err-read_members-in-BeginObject-clause-refused t c =
    let ts = c.args.reader.now in
    let opened = ap (λ u. value_at c.args.depth (token_of u ∷ ts)) c.in-BeginObject.is ∙ object_at c.args.depth ts (omega arith) in
    let no = c.in_err-read_members-in-BeginObject in
    handed_on c.from_residual-in_err-read_members-in-BeginObject.result no.field-0.0 (λ e. e ≢ Memory → (e ≡ NotJson) × (value_at c.args.depth (token_of c.args.first ∷ ts) ≡ None)) c.from_residual-in_err-read_members-in-BeginObject.ensures.1
    (λ other. let refused = no.ensures.refused other in (refused.0, opened ∙ ap (parse_map object) refused.1))

pub read_from-returns-in_ok-from_str-in-String-clause-ok : goal.read_from-returns-in_ok-from_str-in-String-clause-ok
read_from-returns-in_ok-from_str-in-String-clause-ok t c =
    let ts = c.args.reader.now in
    let s = c.in-String.text.now in
    let seen : view (String c.in_ok-from_str-in-String.field-0) ≡ string s = search (rules, the_lemmas) in (
      string s,
      ap (λ u. value_at c.args.depth (token_of u ∷ ts)) c.in-String.is ∙ string_at c.args.depth ts s,
      subst (λ x. Agree (program_of c.args.program.now) x (string s)) (sym seen) refl,
    )

pub read_from-returns-in-Some-clause-ok : goal.read_from-returns-in-Some-clause-ok
read_from-returns-in-Some-clause-ok t c =
    let ts = c.args.reader.now in
    let d = number (number_view c.in-Some.number) in
    let seen : view (Number c.in-Some.number) ≡ d = search (rules, the_lemmas) in (
      d,
      ap (λ u. value_at c.args.depth (token_of u ∷ ts)) c.in-Number.is ∙ number_at c.args.depth ts c.in-Number.text.now ∙ rw (← c.in-Some.ensures) refl,
      subst (λ x. Agree (program_of c.args.program.now) x d) (sym seen) refl,
    )

pub read_from-returns-in-None-clause-refused : goal.read_from-returns-in-None-clause-refused
read_from-returns-in-None-clause-refused t c =
    let ts = c.args.reader.now in
    λ _. (refl, ap (λ u. value_at c.args.depth (token_of u ∷ ts)) c.in-Number.is ∙ number_at c.args.depth ts c.in-Number.text.now ∙ rw (← c.in-None.ensures) refl)

pub read_from-returns-in-Bool-clause-ok : goal.read_from-returns-in-Bool-clause-ok
read_from-returns-in-Bool-clause-ok t c =
    let ts = c.args.reader.now in
    let d = boolean c.in-Bool.b in
    let seen : view (Bool c.in-Bool.b) ≡ d = search (rules, the_lemmas) in (
      d,
      ap (λ u. value_at c.args.depth (token_of u ∷ ts)) c.in-Bool.is ∙ boolean_at c.args.depth ts c.in-Bool.b,
      subst (λ x. Agree (program_of c.args.program.now) x d) (sym seen) refl,
    )

pub read_from-returns-in-Null-clause-ok : goal.read_from-returns-in-Null-clause-ok
read_from-returns-in-Null-clause-ok t c =
    let ts = c.args.reader.now in
    let seen : view Null ≡ null = search (rules, the_lemmas) in (
      null,
      ap (λ u. value_at c.args.depth (token_of u ∷ ts)) c.in-Null.is ∙ null_at c.args.depth ts,
      subst (λ x. Agree (program_of c.args.program.now) x null) (sym seen) refl,
    )

pub read_from-returns-in-EndObject-clause-refused : goal.read_from-returns-in-EndObject-clause-refused
read_from-returns-in-EndObject-clause-refused t c = λ _. (refl, none_at c.args.depth c.args.first c.args.reader.now c.in-EndObject.is)

pub read_from-returns-in_ok-read_items-in-BeginArray-clause-ok : goal.read_from-returns-in_ok-read_items-in-BeginArray-clause-ok
read_from-returns-in_ok-read_items-in-BeginArray-clause-ok t c =
    let ts = c.args.reader.now in
    let opened = ap (λ u. value_at c.args.depth (token_of u ∷ ts)) c.in-BeginArray.is ∙ list_at c.args.depth ts (omega arith) in
    let found = c.in_ok-read_items-in-BeginArray in
    let ds = found.ensures.ok in (
      array ds.0,
      opened ∙ ap (parse_map array) ds.1,
      subst (λ x. Agree (program_of c.args.program.now) x (array ds.0)) (sym (view-Array found.field-0)) (ds.0, refl, ds.2),
    )

pub read_from-returns-in_ok-read_members-in-BeginObject-clause-ok : goal.read_from-returns-in_ok-read_members-in-BeginObject-clause-ok
read_from-returns-in_ok-read_members-in-BeginObject-clause-ok t c =
    let ts = c.args.reader.now in
    let opened = ap (λ u. value_at c.args.depth (token_of u ∷ ts)) c.in-BeginObject.is ∙ object_at c.args.depth ts (omega arith) in
    let found = c.in_ok-read_members-in-BeginObject in
    let ms = found.ensures.ok in (
      object ms.0,
      opened ∙ ap (parse_map object) ms.1,
      subst (λ x. Agree (program_of c.args.program.now) x (object ms.0)) (sym (view-Object found.field-0)) (ms.0, refl, ms.2),
    )

pub read_items-returns-in_err-item-clause-refused : goal.read_items-returns-in_err-item-clause-refused
read_items-returns-in_err-item-clause-refused t c =
    let p = value c.args.depth in
    let l = c.items in
    let n = l.invariant.0 in
    let done = l.invariant.2 in
    let going : (after_end_array l.reader ≡ None) × (c.take_end_array.new.self ≡ l.reader) = grind arith in
    handed_on c.from_residual-in_err-item.result c.in_err-item.field-0.0 (λ e. e ≢ Memory → (e ≡ NotJson) × (items_at c.args.depth c.args.reader.now ≡ None)) c.from_residual-in_err-item.ensures.1
    (λ other. let refused = c.in_err-item.ensures.refused other in
    (refused.0, done.1 ∙ ap (parse_map (items_after done.0)) (item_refused p n l.reader going.0 (rw (← going.1) refused.1))))

pub read_items-items-preserved : goal.read_items-items-preserved
read_items-items-preserved t c =
    let p = value c.args.depth in
    let l = c.items in
    let n = l.invariant.0 in
    let done = l.invariant.2 in
    let going : (after_end_array l.reader ≡ None) × (c.take_end_array.new.self ≡ l.reader) = grind arith in
    let item = c.in_ok-item.ensures in
    let d = item.ok.0 in
    let v = c.in_ok-item.item in
    let r = c.read.new.reader in
    let less : length r < length l.reader = rw (← going.1) item.shorter in
    let turn = item_read p n l.reader r d (omega (arith, l.invariant.1)) going.0 (rw (← going.1) item.ok.1) in
    let each = one_more (program_of c.args.program.now) l.found.items done.0 v d done.2 item.ok.2 in (
      n - 1,
      omega (arith, l.invariant.1),
      (
        done.0 ++ d ∷ [],
        done.1 ∙ ap (parse_map (items_after done.0)) turn ∙ one_item_more done.0 d _,
        subst (λ vs. AgreeEach (program_of c.args.program.now) vs (done.0 ++ d ∷ [])) (sym c.in_ok-push.ensures.items) each,
      ),
      omega (arith, l.invariant.3),
    )

pub read_items-returns-clause-ok : goal.read_items-returns-clause-ok
read_items-returns-clause-ok t c =
    let p = value c.args.depth in
    let l = c.items in
    let n = l.invariant.0 in
    let done = l.invariant.2 in
    let r = c.take_end_array.new.self in (
      items_after done.0 no_items,
      done.1 ∙ ap (parse_map (items_after done.0)) (items_over p n l.reader r l.invariant.1 (grind arith)),
      agree_items (program_of c.args.program.now) l.found.items done.0 done.2,
    )

pub read_members-members-init : goal.read_members-members-init
read_members-members-init t c =
    let none : AgreeMembers (program_of c.args.program.now) no_members no_members = λ k asked. refl in (
      length c.args.reader.now,
      omega arith,
      (no_members, refl, subst (λ es. AgreeMembers (program_of c.args.program.now) (members_view es) no_members) (sym c.new-found.ensures.empty) none),
      omega arith,
    )

pub read_members-returns-in_err-name-clause-refused : goal.read_members-returns-in_err-name-clause-refused
read_members-returns-in_err-name-clause-refused t c =
    let p = value c.args.depth in
    let l = c.members in
    let n = l.invariant.0 in
    let old = l.invariant.2 in
    let none : members_at c.args.depth c.args.reader.now ≡ None = old.1 ∙ key_refused p old.0 n l.reader c.in_err-name.ensures.value in
    grind (arith, none)

pub read_members-returns-in_err-member-clause-refused : goal.read_members-returns-in_err-member-clause-refused
read_members-returns-in_err-member-clause-refused t c =
    let p = value c.args.depth in
    let l = c.members in
    let n = l.invariant.0 in
    let old = l.invariant.2 in
    let k = c.in-Some.name.now in
    let s = c.next_key.new.self in
    let named : read_key l.reader ≡ Some (Some k, s) = grind arith in
    handed_on c.from_residual-in_err-member.result c.in_err-member.field-0.0 (λ e. e ≢ Memory → (e ≡ NotJson) × (members_at c.args.depth c.args.reader.now ≡ None)) c.from_residual-in_err-member.ensures.1
    (λ other. let refused = c.in_err-member.ensures.refused other in
    (refused.0, old.1 ∙ member_refused p old.0 n k l.reader s named refused.1))

pub read_members-members-preserved-then-is_asked : goal.read_members-members-preserved-then-is_asked
read_members-members-preserved-then-is_asked t c =
    let p = value c.args.depth in
    let l = c.members in
    let n = l.invariant.0 in
    let old = l.invariant.2 in
    let k = c.in-Some.name.now in
    let s = c.next_key.new.self in
    let named : read_key l.reader ≡ Some (Some k, s) = grind arith in
    let member = c.in_ok-member.ensures in
    let d = member.ok.0 in
    let v = c.in_ok-member.member in
    let r = c.read.new.reader in
    let less = read_key-shorter l.reader (Some k) s named in
    let lesser = member.shorter in
    let copied : string_bytes c.in_ok-key.key ≡ k = search rules in
    let inserted : members_view c.insert.new.self.entries ≡ put k (view v) (members_view l.found.entries) =
    ap members_view c.in_ok-insert.ensures.entries ∙ members_view-insert_entry l.found.entries c.in_ok-key.key v ∙ ap (λ name. put name (view v) (members_view l.found.entries)) copied in
    let both = put_both (program_of c.args.program.now) k d (members_view l.found.entries) old.0 old.2 (view v) member.ok.2 in (
      n - 1,
      omega (arith, l.invariant.1),
      (
        put k d old.0,
        old.1 ∙ member_read p old.0 n k l.reader s r d (omega (arith, l.invariant.1)) named member.ok.1,
        subst (λ ms. AgreeMembers (program_of c.args.program.now) ms (put k d old.0)) (sym inserted) both,
      ),
      omega (arith, l.invariant.3),
    )

pub read_members-members-preserved : goal.read_members-members-preserved
read_members-members-preserved t c =
    let p = value c.args.depth in
    let l = c.members in
    let n = l.invariant.0 in
    let old = l.invariant.2 in
    let k = c.in-Some.name.now in
    let s = c.next_key.new.self in
    let named : read_key l.reader ≡ Some (Some k, s) = grind arith in
    let passed = c.in_ok-pass.ensures in
    let d = passed.ok.0 in
    let r = c.pass.new.reader in
    let less = read_key-shorter l.reader (Some k) s named in
    let lesser = passed.shorter in
    let unasked : IsTrue (is_asked (program_of c.args.program.now) k) → ⊥ = λ h. grind (arith, h) in (
      n - 1,
      omega (arith, l.invariant.1),
      (
        put k d old.0,
        old.1 ∙ member_read p old.0 n k l.reader s r d (omega (arith, l.invariant.1)) named passed.ok.1,
        put_unasked (program_of c.args.program.now) k d (members_view l.found.entries) old.0 old.2 unasked,
      ),
      omega (arith, l.invariant.3),
    )

pub read_members-returns-in_err-pass-clause-refused : goal.read_members-returns-in_err-pass-clause-refused
read_members-returns-in_err-pass-clause-refused t c =
    let p = value c.args.depth in
    let l = c.members in
    let n = l.invariant.0 in
    let old = l.invariant.2 in
    let k = c.in-Some.name.now in
    let s = c.next_key.new.self in
    let named : read_key l.reader ≡ Some (Some k, s) = grind arith in
    let refused = c.in_err-pass.ensures.refused in
    let none : members_at c.args.depth c.args.reader.now ≡ None = old.1 ∙ member_refused p old.0 n k l.reader s named refused.1 in
    grind (arith, none)

pub read_members-returns-clause-ok : goal.read_members-returns-clause-ok
read_members-returns-clause-ok t c =
    let p = value c.args.depth in
    let l = c.members in
    let n = l.invariant.0 in
    let old = l.invariant.2 in
    (old.0, old.1 ∙ members_over p old.0 n l.reader c.next_key.new.self l.invariant.1 (grind arith), old.2)
