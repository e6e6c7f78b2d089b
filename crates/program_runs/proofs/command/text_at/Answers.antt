use Rattle.std.proofs.Common.{◌≡◌, ◌∙◌, ◌<◌, ◌≤◌, ℕ, zero, suc, List, [], ◌∷◌, Global, ap, arith, length, map, refl, slice_index_or, sym}
use Rattle.std.proofs.lemmas.Bool.{ltb-false, ltb-true}
use Rattle.std.specs.Prelude.{Vec}
use Rattle.program_runs.specs.Table.{text_at}
use Rattle.program_runs.proofs.command.text_at.Goals as goal

abbrev texts_of : List (Vec ℕ Global) → List (List ℕ)
texts_of texts = map (λ (text : Vec ℕ Global). text.items) texts

text_there : (texts : List (Vec ℕ Global)) (n : ℕ) (text : Vec ℕ Global) → n < length texts → text ≡ slice_index_or texts n text → text.items ≡ text_at (texts_of texts) n
text_there [] n text h e = absurd (omega (arith, h))
text_there (t ∷ ts) zero text h e = ap (λ (v : Vec ℕ Global). v.items) e
text_there (t ∷ ts) (suc n) text h e = text_there ts n text (omega (arith, h)) e

no_text : (texts : List (Vec ℕ Global)) (n : ℕ) → length texts ≤ n → [] ≡ text_at (texts_of texts) n
no_text [] n h = refl
no_text (t ∷ ts) zero h = absurd (omega (arith, h))
no_text (t ∷ ts) (suc n) h = no_text ts n (omega (arith, h))

pub returns-in-Some : goal.returns-in-Some
returns-in-Some c = c.as_slice.ensures.value ∙ text_there c.args.texts.now c.args.number c.in-Some.text.now (ltb-true c.args.number _ (sym c.in-Some.ensures.lookup.0)) c.in-Some.ensures.lookup.1

pub returns-in-None : goal.returns-in-None
returns-in-None c = no_text c.args.texts.now c.args.number (ltb-false c.args.number _ (sym c.in-None.ensures.lookup.0))
