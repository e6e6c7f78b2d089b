use Rattle.std.proofs.Common.{◌≡◌, ◌-◌, ◌<◌, [], ◌∷◌, ◌++◌, length, Some, None, ap, ◌∙◌, arith, refl}
use Rattle.json.specs.Token.{Token}
use Rattle.json.specs.Json.{parse_map, after_end_array, read_key, value}
use Rattle.json.specs.Reads.{token_of}
use Rattle.json.proofs.Grammar.{read_key-shorter}
use Rattle.serde_json.specs.Data.{number, array, object, no_items, no_members, put}
use Rattle.serde_json.specs.View.{number_view}
use Rattle.launch_file.specs.Tokens.{items_at, members_at, value_at}
use Rattle.launch_file.proofs.Pairing.{items_after, one_item_more}
use Rattle.launch_file.proofs.Turns.{item_read, item_refused, items_over, member_read, member_refused, key_refused, members_over, nothing_at, number_at, list_at, object_at, list_too_deep, object_too_deep, plain_at, none_at, on_ok, if_err}
use Rattle.launch_file.proofs.passing.+pass.Goals as goal

pub pass-returns-in_err-token-clause-refused : goal.pass-returns-in_err-token-clause-refused
pass-returns-in_err-token-clause-refused t c =
    let empty : c.args.reader.now ≡ [] = grind arith in
    let none : value_at c.args.depth c.args.reader.now ≡ None = ap (value_at c.args.depth) empty ∙ nothing_at c.args.depth in
    grind (arith, none)

pub pass-returns-then-depth-eq0-clause-refused : goal.pass-returns-then-depth-eq0-clause-refused
pass-returns-then-depth-eq0-clause-refused t c =
    let first : c.args.reader.now ≡ token_of c.in_ok-token.token ∷ c.next.new.self = grind arith in
    let is : c.args.reader.now ≡ Token.begin_array ∷ c.next.new.self = grind (arith, first) in
    (refl, ap (value_at c.args.depth) is ∙ list_too_deep c.args.depth c.next.new.self (omega arith))

pub pass-returns-then-depth-eq0-2-clause-refused : goal.pass-returns-then-depth-eq0-2-clause-refused
pass-returns-then-depth-eq0-2-clause-refused t c =
    let first : c.args.reader.now ≡ token_of c.in_ok-token.token ∷ c.next.new.self = grind arith in
    let is : c.args.reader.now ≡ Token.begin_object ∷ c.next.new.self = grind (arith, first) in
    (refl, ap (value_at c.args.depth) is ∙ object_too_deep c.args.depth c.next.new.self (omega arith))

pub pass-returns-in-String-clause-ok : goal.pass-returns-in-String-clause-ok
pass-returns-in-String-clause-ok t c =
    let first : c.args.reader.now ≡ token_of c.in_ok-token.token ∷ c.next.new.self = grind arith in
    let plain = plain_at c.args.depth c.in_ok-token.token c.next.new.self c.in-String.is in
    (plain.0, ap (value_at c.args.depth) first ∙ plain.1)

pub pass-returns-in-Some-clause-ok : goal.pass-returns-in-Some-clause-ok
pass-returns-in-Some-clause-ok t c =
    let first : c.args.reader.now ≡ token_of c.in_ok-token.token ∷ c.next.new.self = grind arith in
    let is : c.args.reader.now ≡ Token.number c.in-Number.text.now ∷ c.next.new.self = grind (arith, first) in
    (number (number_view c.in-Some.field-0), ap (value_at c.args.depth) is ∙ number_at c.args.depth c.next.new.self c.in-Number.text.now ∙ rw (← c.in-Some.ensures) refl)

pub pass-returns-in-None-clause-refused : goal.pass-returns-in-None-clause-refused
pass-returns-in-None-clause-refused t c =
    let first : c.args.reader.now ≡ token_of c.in_ok-token.token ∷ c.next.new.self = grind arith in
    let is : c.args.reader.now ≡ Token.number c.in-Number.text.now ∷ c.next.new.self = grind (arith, first) in
    (refl, ap (value_at c.args.depth) is ∙ number_at c.args.depth c.next.new.self c.in-Number.text.now ∙ rw (← c.in-None.ensures) refl)

pub pass-returns-in-EndObject-clause-refused : goal.pass-returns-in-EndObject-clause-refused
pass-returns-in-EndObject-clause-refused t c =
    let first : c.args.reader.now ≡ token_of c.in_ok-token.token ∷ c.next.new.self = grind arith in
    (refl, ap (value_at c.args.depth) first ∙ none_at c.args.depth c.in_ok-token.token c.next.new.self c.in-EndObject.is)

pub pass-returns-else-depth-eq0-clause-ok : goal.pass-returns-else-depth-eq0-clause-ok
pass-returns-else-depth-eq0-clause-ok t c =
    let first : c.args.reader.now ≡ token_of c.in_ok-token.token ∷ c.next.new.self = grind arith in
    let is : c.args.reader.now ≡ Token.begin_array ∷ c.next.new.self = grind (arith, first) in
    let opened = ap (value_at c.args.depth) is ∙ list_at c.args.depth c.next.new.self (omega arith) in
    on_ok c.pass_items.result (λ passed. (array passed.0, opened ∙ ap (parse_map array) passed.1)) c.pass_items.ensures.ok

pub pass-returns-else-depth-eq0-clause-refused : goal.pass-returns-else-depth-eq0-clause-refused
pass-returns-else-depth-eq0-clause-refused t c =
    let first : c.args.reader.now ≡ token_of c.in_ok-token.token ∷ c.next.new.self = grind arith in
    let is : c.args.reader.now ≡ Token.begin_array ∷ c.next.new.self = grind (arith, first) in
    let opened = ap (value_at c.args.depth) is ∙ list_at c.args.depth c.next.new.self (omega arith) in
    if_err c.pass_items.result (λ e refused. (refused.0, opened ∙ ap (parse_map array) refused.1)) c.pass_items.ensures.refused

pub pass-returns-else-depth-eq0-2-clause-ok : goal.pass-returns-else-depth-eq0-2-clause-ok
pass-returns-else-depth-eq0-2-clause-ok t c =
    let first : c.args.reader.now ≡ token_of c.in_ok-token.token ∷ c.next.new.self = grind arith in
    let is : c.args.reader.now ≡ Token.begin_object ∷ c.next.new.self = grind (arith, first) in
    let opened = ap (value_at c.args.depth) is ∙ object_at c.args.depth c.next.new.self (omega arith) in
    on_ok c.pass_members.result (λ passed. (object passed.0, opened ∙ ap (parse_map object) passed.1)) c.pass_members.ensures.ok

pub pass-returns-else-depth-eq0-2-clause-refused : goal.pass-returns-else-depth-eq0-2-clause-refused
pass-returns-else-depth-eq0-2-clause-refused t c =
    let first : c.args.reader.now ≡ token_of c.in_ok-token.token ∷ c.next.new.self = grind arith in
    let is : c.args.reader.now ≡ Token.begin_object ∷ c.next.new.self = grind (arith, first) in
    let opened = ap (value_at c.args.depth) is ∙ object_at c.args.depth c.next.new.self (omega arith) in
    if_err c.pass_members.result (λ e refused. (refused.0, opened ∙ ap (parse_map object) refused.1)) c.pass_members.ensures.refused

pub pass_items-items-preserved : goal.pass_items-items-preserved
pass_items-items-preserved t c =
    let p = value c.args.depth in
    let l = c.items in
    let n = l.invariant.0 in
    let done = l.invariant.2 in
    let going : (after_end_array l.reader ≡ None) × (c.take_end_array.new.self ≡ l.reader) = grind arith in
    let passed = c.in_ok-pass.ensures in
    let r = c.pass.new.reader in
    let less : length r < length l.reader = rw (← going.1) passed.shorter in
    let turn = item_read p n l.reader r passed.ok.0 (omega (arith, l.invariant.1)) going.0 (rw (← going.1) passed.ok.1) in (
      n - 1,
      omega (arith, l.invariant.1),
      (done.0 ++ passed.ok.0 ∷ [], done.1 ∙ ap (parse_map (items_after done.0)) turn ∙ one_item_more done.0 passed.ok.0 _),
      omega (arith, l.invariant.3),
    )

pub pass_items-returns-in_err-pass-clause-refused : goal.pass_items-returns-in_err-pass-clause-refused
pass_items-returns-in_err-pass-clause-refused t c =
    let p = value c.args.depth in
    let l = c.items in
    let n = l.invariant.0 in
    let done = l.invariant.2 in
    let going : (after_end_array l.reader ≡ None) × (c.take_end_array.new.self ≡ l.reader) = grind arith in
    let refused = c.in_err-pass.ensures.refused in
    let none : items_at c.args.depth c.args.reader.now ≡ None = done.1 ∙ ap (parse_map (items_after done.0)) (item_refused p n l.reader going.0 (rw (← going.1) refused.1)) in
    grind (arith, none)

pub pass_items-returns-clause-ok : goal.pass_items-returns-clause-ok
pass_items-returns-clause-ok t c =
    let p = value c.args.depth in
    let l = c.items in
    let n = l.invariant.0 in
    let done = l.invariant.2 in
    let r = c.take_end_array.new.self in
    (items_after done.0 no_items, done.1 ∙ ap (parse_map (items_after done.0)) (items_over p n l.reader r l.invariant.1 (grind arith)))

pub pass_members-members-init : goal.pass_members-members-init
pass_members-members-init t c = (length c.args.reader.now, omega arith, (no_members, refl), omega arith)

pub pass_members-returns-in_err-next_key-clause-refused : goal.pass_members-returns-in_err-next_key-clause-refused
pass_members-returns-in_err-next_key-clause-refused t c =
    let p = value c.args.depth in
    let l = c.members in
    let n = l.invariant.0 in
    let old = l.invariant.2 in
    let none : members_at c.args.depth c.args.reader.now ≡ None = old.1 ∙ key_refused p old.0 n l.reader c.in_err-next_key.ensures.value in
    grind (arith, none)

pub pass_members-members-preserved : goal.pass_members-members-preserved
pass_members-members-preserved t c =
    let p = value c.args.depth in
    let l = c.members in
    let n = l.invariant.0 in
    let old = l.invariant.2 in
    let k = c.in-Some.field-0.now in
    let s = c.next_key.new.self in
    let named : read_key l.reader ≡ Some (Some k, s) = grind arith in
    let passed = c.in_ok-pass.ensures in
    let r = c.pass.new.reader in
    let less = read_key-shorter l.reader (Some k) s named in
    let lesser = passed.shorter in (
      n - 1,
      omega (arith, l.invariant.1),
      (put k passed.ok.0 old.0, old.1 ∙ member_read p old.0 n k l.reader s r passed.ok.0 (omega (arith, l.invariant.1)) named passed.ok.1),
      omega (arith, l.invariant.3),
    )

pub pass_members-returns-in_err-pass-clause-refused : goal.pass_members-returns-in_err-pass-clause-refused
pass_members-returns-in_err-pass-clause-refused t c =
    let p = value c.args.depth in
    let l = c.members in
    let n = l.invariant.0 in
    let old = l.invariant.2 in
    let k = c.in-Some.field-0.now in
    let s = c.next_key.new.self in
    let named : read_key l.reader ≡ Some (Some k, s) = grind arith in
    let refused = c.in_err-pass.ensures.refused in
    let none : members_at c.args.depth c.args.reader.now ≡ None = old.1 ∙ member_refused p old.0 n k l.reader s named refused.1 in
    grind (arith, none)

pub pass_members-returns-clause-ok : goal.pass_members-returns-clause-ok
pass_members-returns-clause-ok t c =
    let p = value c.args.depth in
    let l = c.members in
    let n = l.invariant.0 in
    let old = l.invariant.2 in
    (old.0, old.1 ∙ members_over p old.0 n l.reader c.next_key.new.self l.invariant.1 (grind arith))
