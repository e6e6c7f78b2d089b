-- Bytes taken piece by piece.
use Rattle.std.proofs.Common.{◌∙◌, ◌+◌, ◌++◌, ℕ, List, sym, ap, take, drop, append_assoc}
use Rattle.std.specs.Prelude.{Option, Some, None}
use Rattle.std.specs.Io.KnownBytes.{Appends}
use Rattle.std.proofs.Math.Seq.{take-add}

pub appends_more : (a b c : Option (List ℕ)) (d n : ℕ) (bytes : List ℕ)
    → Appends a b (take d bytes) → Appends b c (take n (drop d bytes)) → Appends a c (take (d + n) bytes)
appends_more None b c d n bytes p q = tt
appends_more (Some xs) None c d n bytes p q = absurd p
appends_more (Some xs) (Some ys) None d n bytes p q = absurd q
appends_more (Some xs) (Some ys) (Some zs) d n bytes p q =
    q ∙ ap (λ (w : List ℕ). w ++ take n (drop d bytes)) p ∙ append_assoc xs (take d bytes) (take n (drop d bytes)) ∙ ap (λ (w : List ℕ). xs ++ w) (sym (take-add d n bytes))
