use Rattle.std.proofs.Common.{◌∙◌, ap, sym, subst, map, take, length, arith, rules, refl, ◌<◌, ◌^◌}
use Rattle.std.specs.List.{sum_by}
use Rattle.std.proofs.lemmas.List.{take-map}
use Rattle.kernel_tree.specs.Pieces.{ArePieces, joined}
use Rattle.kernel_reader.specs.Views.{bytes_of}
use Rattle.kernel_reader.proofs.Found.{lengths, whole_length, stops_at}
use Rattle.kernel_reader.proofs.read.read_named.Goals as goal

pub returns-in-Ok-clause-one : goal.returns-in-Ok-clause-one
returns-in-Ok-clause-one c =
    let ps = c.deref.result.now in
    let cut : ArePieces c.args.bytes.now (map bytes_of ps) = subst (λ z. ArePieces c.args.bytes.now (map bytes_of z)) (sym c.deref.ensures.value) c.in_ok-pieces.ensures in
    (c.one_text.ensures.only c.args.name.now c.args.bytes.now _ (map bytes_of ps, cut, c.in-Ok.ensures.found)).1

pub offset_of-requires-clause-fits : goal.offset_of-requires-clause-fits
offset_of-requires-clause-fits c =
    let ps = c.in_ok-pieces.pieces.items in
    let w = whole_length c.args.bytes.now ps (c.one_cut.ensures.whole c.args.bytes.now (map bytes_of ps) c.in_ok-pieces.ensures) in
    let same = ap (λ z. sum_by (λ p. length (bytes_of p)) z) c.deref-in-Err-Refused.ensures.value in
    let short : length c.args.bytes.now < 2 ^ 64 = first_of (search rules, omega arith) in
    subst (λ n. n < 2 ^ 64) (sym (same ∙ w)) short

pub returns-clause-refused : goal.returns-clause-refused
returns-clause-refused c =
    let ps = c.in_ok-pieces.pieces.items in
    let i = c.in-Err-Refused.taken in (
      map bytes_of ps,
      i,
      c.in_ok-pieces.ensures,
      stops_at c.args.name.now _ _ ps _ i c.in-Err-Refused.field-0-is refl c.deref.ensures.value c.in-Err-Refused.ensures.refused,
      c.offset_of.ensures
          ∙ ap (λ n. sum_by (λ p. length (bytes_of p)) (take n c.deref-in-Err-Refused.result.now)) c.in-Err-Refused.taken-is
          ∙ ap (λ z. sum_by (λ p. length (bytes_of p)) (take i z)) c.deref-in-Err-Refused.ensures.value
          ∙ lengths (take i ps)
          ∙ ap (λ z. length (joined z)) (sym (take-map bytes_of i ps)),
    )
