use Rattle.std.proofs.Common.{◌≡◌, ◌∙◌, ◌+◌, ◌-◌, ◌<◌, ◌^◌, List, [], ◌∷◌, ◌++◌, ap, arith, drop, inr, length, map, rules, subst, sym, take}
use Rattle.std.specs.List.{sum_by}
use Rattle.std.proofs.lemmas.Grind.{common_steps}
use Rattle.std.proofs.lemmas.List.{length-append, length-drop, length-map, take-map}
use Rattle.kernel_tree.specs.declared.tree.Kernel.{Kernel}
use Rattle.kernel_tree.specs.Kernels.{kernel_of}
use Rattle.kernel_tree.specs.KernelText.{kernels, nothing, start}
use Rattle.kernel_tree.specs.Pieces.{joined}
use Rattle.readings.specs.Exactly.{StopsAt}
use Rattle.kernel_spelling.specs.SequenceText.{IsSequenceText, name_of}
use Rattle.kernel_reader.specs.Sequences.{StopsIn}
use Rattle.kernel_reader.specs.Views.{bytes_of}
use Rattle.kernel_reader.proofs.Found.{lengths, whole_length}
use Rattle.kernel_reader.proofs.Fronts.{some_own}
use Rattle.kernel_reader.proofs.InOrder.{Goes, Taken, all_read, begins, left_of, map_more, moved, none_more, stopped, takes}
use Rattle.kernel_reader.proofs.sequence.read_sequence.Goals as goal

pub loop-kernels-init : goal.loop-kernels-init
loop-kernels-init c =
    let ps = map bytes_of c.in_ok-pieces.pieces.items in
    subst (λ (z : List Kernel). Goes ps 0 (map kernel_of z)) (sym c.new-kernels.ensures.items) (begins ps)

pub offset_of-requires-clause-fits : goal.offset_of-requires-clause-fits
offset_of-requires-clause-fits c =
    let ps = c.in_ok-pieces.pieces.items in
    let w = whole_length c.args.bytes.now ps (c.one_cut.ensures.whole c.args.bytes.now (map bytes_of ps) c.in_ok-pieces.ensures) in
    let same = ap (λ z. sum_by (λ p. length (bytes_of p)) z) c.deref-in-Err-Refused.ensures.value in
    let short : length c.args.bytes.now < 2 ^ 64 = first_of (search rules, omega arith) in
    subst (λ n. n < 2 ^ 64) (sym (same ∙ w)) short

pub returns-in-Err-Refused-clause-only : goal.returns-in-Err-Refused-clause-only
returns-in-Err-Refused-clause-only c =
    let items = c.in_ok-pieces.pieces.items in
    let ps = map bytes_of items in
    let taken = c.loop-kernels.taken in
    let read = map kernel_of c.loop-kernels.kernels.items in
    let name = c.as_slice.result.now in
    let many : c.len.result ≡ length read = (let e = c.len.ensures in let o = c.loop-kernels.kernels.ok in let l = length-map c.loop-kernels.kernels.items kernel_of in first_of (omega (arith, e, l), omega (arith, e, l, o.0), grind (arith, common_steps))) in
    let named : name ≡ name_of (length read) = c.as_slice.ensures.value ∙ c.in_ok-name.ensures.is ∙ ap name_of many in
    let left = left_of c.deref.result.now items taken c.deref.ensures.value in
    let no = subst (λ z. StopsIn name (map bytes_of (take (length c.deref.result.now - taken) (drop taken c.deref.result.now))) z) c.in-Err-Refused.field-0-is c.in-Err-Refused.ensures.refused in
    λ ks h. none_more ps name taken read c.loop-kernels.invariant named (λ own k f. no.1 own k (moved name _ _ own k (sym left) f)) ks h.some ((c.texts_are_whole.ensures c.args.bytes.now ps ks c.in_ok-pieces.ensures).0 h.texts)

pub returns-in-Err-Refused-clause-refused : goal.returns-in-Err-Refused-clause-refused
returns-in-Err-Refused-clause-refused c =
    let items = c.in_ok-pieces.pieces.items in
    let ps = map bytes_of items in
    let taken = c.loop-kernels.taken in
    let own = c.in-Err-Refused.own in
    let read = map kernel_of c.loop-kernels.kernels.items in
    let name = c.as_slice.result.now in
    let many : c.len.result ≡ length read = (let e = c.len.ensures in let o = c.loop-kernels.kernels.ok in let l = length-map c.loop-kernels.kernels.items kernel_of in first_of (omega (arith, e, l), omega (arith, e, l, o.0), grind (arith, common_steps))) in
    let named : name ≡ name_of (length read) = c.as_slice.ensures.value ∙ c.in_ok-name.ensures.is ∙ ap name_of many in
    let left = left_of c.deref.result.now items taken c.deref.ensures.value in
    let no = subst (λ z. StopsIn name (map bytes_of (take (length c.deref.result.now - taken) (drop taken c.deref.result.now))) z) c.in-Err-Refused.field-0-is c.in-Err-Refused.ensures.refused in
    let stops : StopsAt kernels (start name) nothing (drop taken ps) own = subst (λ z. StopsAt kernels (start name) nothing z own) left no.0 in (
      ps,
      length read + 0,
      taken + own,
      c.in_ok-pieces.ensures,
      stopped ps name taken own read c.loop-kernels.invariant named stops (λ other k f. no.1 other k (moved name _ _ other k (sym left) f)),
      c.offset_of.ensures
          ∙ ap (λ n. sum_by (λ p. length (bytes_of p)) (take (taken + n) c.deref-in-Err-Refused.result.now)) c.in-Err-Refused.own-is
          ∙ ap (λ z. sum_by (λ p. length (bytes_of p)) (take (taken + own) z)) c.deref-in-Err-Refused.ensures.value
          ∙ lengths (take (taken + own) items)
          ∙ ap (λ z. length (joined z)) (sym (take-map bytes_of (taken + own) items)),
    )

pub returns-then-taken-len-clause-found : goal.returns-then-taken-len-clause-found
returns-then-taken-len-clause-found c =
    let items = c.in_ok-pieces.pieces.items in
    let ps = map bytes_of items in
    let taken = c.loop-kernels.taken in
    let front = c.in-Ok.field-0 in
    let read = map kernel_of c.loop-kernels.kernels.items in
    let name = c.as_slice.result.now in
    let many : c.len.result ≡ length read = (let e = c.len.ensures in let o = c.loop-kernels.kernels.ok in let l = length-map c.loop-kernels.kernels.items kernel_of in first_of (omega (arith, e, l), omega (arith, e, l, o.0), grind (arith, common_steps))) in
    let named : name ≡ name_of (length read) = c.as_slice.ensures.value ∙ c.in_ok-name.ensures.is ∙ ap name_of many in
    let left = left_of c.deref.result.now items taken c.deref.ensures.value in
    let all = takes ps name taken front.own read (kernel_of front.kernel) c.loop-kernels.invariant.taken_so named (moved name _ _ front.own _ left c.in-Ok.ensures.found) (λ other x g. c.in-Ok.ensures.only other x (moved name _ _ other x (sym left) g)) in
    let more : map kernel_of c.push.new.self.items ≡ read ++ kernel_of front.kernel ∷ [] = ap (λ (z : List Kernel). map kernel_of z) c.in_ok-push-in-Ok.ensures.items ∙ map_more kernel_of c.loop-kernels.kernels.items front.kernel in
    let end : taken + front.own ≡ length ps = (let l = length-map items bytes_of in let d : taken + front.own ≡ length items = omega arith in omega (arith, l, d)) in
    let whole = all_read ps (taken + front.own) _ all end in
    let some : 0 < length (read ++ kernel_of front.kernel ∷ []) = (let l = length-append read (kernel_of front.kernel ∷ []) in omega (arith, l)) in
    subst (λ z. IsSequenceText c.args.bytes.now z) (sym more) (record { some = some; texts = (c.texts_are_whole.ensures c.args.bytes.now ps _ c.in_ok-pieces.ensures).1 whole })

pub returns-then-taken-len-clause-only : goal.returns-then-taken-len-clause-only
returns-then-taken-len-clause-only c = λ ks h. c.texts_are_of_one_sequence.ensures c.args.bytes.now _ ks (returns-then-taken-len-clause-found c) h

pub loop-kernels-smaller : goal.loop-kernels-smaller
loop-kernels-smaller c =
    let items = c.in_ok-pieces.pieces.items in
    let ps = map bytes_of items in
    let taken = c.loop-kernels.taken in
    let front = c.in-Ok.field-0 in
    let left = left_of c.deref.result.now items taken c.deref.ensures.value in
    let found = moved c.as_slice.result.now _ _ front.own _ left c.in-Ok.ensures.found in
    let some = some_own c.as_slice.result.now (drop taken ps) front.own _ found in
    let inside = found.inside in
    let long = length-drop taken ps in
    let l = length-map items bytes_of in
    let w : length items - (taken + front.own) < length items - taken = omega (arith, some, inside, long, l) in
    w

pub loop-kernels-preserved : goal.loop-kernels-preserved
loop-kernels-preserved c =
    let items = c.in_ok-pieces.pieces.items in
    let ps = map bytes_of items in
    let taken = c.loop-kernels.taken in
    let front = c.in-Ok.field-0 in
    let read = map kernel_of c.loop-kernels.kernels.items in
    let name = c.as_slice.result.now in
    let many : c.len.result ≡ length read = (let e = c.len.ensures in let o = c.loop-kernels.kernels.ok in let l = length-map c.loop-kernels.kernels.items kernel_of in first_of (omega (arith, e, l), omega (arith, e, l, o.0), grind (arith, common_steps))) in
    let named : name ≡ name_of (length read) = c.as_slice.ensures.value ∙ c.in_ok-name.ensures.is ∙ ap name_of many in
    let left = left_of c.deref.result.now items taken c.deref.ensures.value in
    let all = takes ps name taken front.own read (kernel_of front.kernel) c.loop-kernels.invariant.taken_so named (moved name _ _ front.own _ left c.in-Ok.ensures.found) (λ other x g. c.in-Ok.ensures.only other x (moved name _ _ other x (sym left) g)) in
    let more : map kernel_of c.push.new.self.items ≡ read ++ kernel_of front.kernel ∷ [] = ap (λ (z : List Kernel). map kernel_of z) c.in_ok-push-in-Ok.ensures.items ∙ map_more kernel_of c.loop-kernels.kernels.items front.kernel in
    let inside = all.inside in
    let l = length-map items bytes_of in
    let behind : taken + front.own < length ps = omega (arith, inside, l) in
    record { taken_so = subst (λ z. Taken ps (taken + front.own) z) (sym more) all; some_left = inr behind }
