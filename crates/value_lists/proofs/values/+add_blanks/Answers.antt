use Rattle.std.proofs.Common.{◌≡◌, ◌∙◌, ◌++◌, ◌*◌, ℕ, List, Vec, ap, subst, sym, append_assoc}
use Rattle.std.specs.Global.{Global}
use Rattle.std.specs.Prelude.{OnOk, map}
use Rattle.lift_tree.specs.Types.{ty_of}
use Rattle.value_lists.specs.Lists.{list_lengths}
use Rattle.value_lists.proofs.Blank.{blanks, pairs_added, arrays_added}
use Rattle.value_lists.proofs.values.+add_blanks.Goals as goal

abbrev rows : List (Vec ℕ Global) → List (List ℕ)
rows ls = map (λ (l : Vec ℕ Global). l.items) ls

pub returns-in_ok-add_blanks-in-Pair : goal.returns-in_ok-add_blanks-in-Pair
returns-in_ok-add_blanks-in-Pair t c =
    let ys = c.args.sizes.now in
    let n = c.args.count in
    let old = rows c.args.lists.now.items in
    let second = blanks n (list_lengths ys (ty_of c.deref-in-Pair.result.now)) in
    let first = blanks n (list_lengths ys (ty_of c.deref.result.now)) in
    let both : blanks n (list_lengths ys (ty_of c.args.ty.now)) ≡ first ++ second =
    ap (λ ty. blanks n (list_lengths ys (ty_of ty))) c.in-Pair.is
    ∙ pairs_added ys n (ty_of c.in-Pair.a.value) (ty_of c.in-Pair.b.value)
    ∙ ap (λ ty. blanks n (list_lengths ys (ty_of ty)) ++ blanks n (list_lengths ys (ty_of c.in-Pair.b.value))) (sym c.deref.ensures)
    ∙ ap (λ ty. first ++ blanks n (list_lengths ys (ty_of ty))) (sym c.deref-in-Pair.ensures) in
    subst (λ (zs : List (List ℕ)). OnOk c.add_blanks-in-Pair.result (rows c.add_blanks-in-Pair.new.lists.items ≡ zs))
    (ap (λ (zs : List (List ℕ)). zs ++ second) c.in_ok-add_blanks-in-Pair.ensures ∙ append_assoc old first second ∙ ap (λ (zs : List (List ℕ)). old ++ zs) (sym both))
    c.add_blanks-in-Pair.ensures

pub returns-in-Array : goal.returns-in-Array
returns-in-Array t c =
    let ys = c.args.sizes.now in
    let n = c.args.count in
    let old = rows c.args.lists.now.items in
    let same : blanks n (list_lengths ys (ty_of c.args.ty.now)) ≡ blanks (n * c.length_at.result) (list_lengths ys (ty_of c.deref-in-Array.result.now)) =
    ap (λ ty. blanks n (list_lengths ys (ty_of ty))) c.in-Array.is
    ∙ arrays_added ys n (ty_of c.in-Array.element.value) c.in-Array.length
    ∙ ap (λ k. blanks (n * k) (list_lengths ys (ty_of c.in-Array.element.value))) (sym c.length_at.ensures)
    ∙ ap (λ ty. blanks (n * c.length_at.result) (list_lengths ys (ty_of ty))) (sym c.deref-in-Array.ensures) in
    subst (λ (zs : List (List ℕ)). OnOk c.add_blanks-in-Array.result (rows c.add_blanks-in-Array.new.lists.items ≡ old ++ zs)) (sym same) c.add_blanks-in-Array.ensures
