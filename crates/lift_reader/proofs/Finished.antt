-- A reading that ends has noted a program.
use Rattle.std.proofs.Common.{◌≡◌, List, [], ◌∷◌, ◌++◌, Option, Some, refl, ap, sym, ◌∙◌, subst, append_assoc}
use Rattle.std.proofs.lemmas.Option.{same_Some}
use Rattle.readings.specs.Readings.{Owed, Form, Mark, Grammar, Reads, stands, takes, gives, notes}
use Rattle.lift_tree.specs.Programs.{PlainProgram}
use Rattle.lift_tree.specs.Tree.{Tree}
use Rattle.lift_reader.specs.Tokens.{Lexeme}
use Rattle.lift_reader.specs.Grammar.{Noted, Finish, Sizes, finished, programs, start, nothing, IsProgram}
use Rattle.lift_reader.specs.ProgramText.{program_noted}

module _ {T F M N : Type 0} (g : Grammar T F M N) (m : M) where
  stays : {o : List (Owed T F M)} {n : N} {ts : List T} {o2 : List (Owed T F M)} {n2 : N} → Reads g o n ts o2 n2 → o ≡ [] → n ≡ n2
  stays stands e = refl
  stays (takes r) e = absurd (cc (e))
  stays (gives h r) e = absurd (cc (e))
  stays (notes h r) e = absurd (cc (e))

  -- what is owed last comes last
  pub ends_with : {o : List (Owed T F M)} {n : N} {ts : List T} {o2 : List (Owed T F M)} {n2 : N} → Reads g o n ts o2 n2 → o2 ≡ [] → (front : List (Owed T F M)) → o ≡ front ++ Mark m ∷ [] → (k : N) × (g.marked m k ≡ Some n2)
  ends_with stands z [] e = absurd (let w : Mark m ∷ [] ≡ [] = sym e ∙ z in cc (w))
  ends_with stands z (x ∷ front) e = absurd (let w : x ∷ (front ++ Mark m ∷ []) ≡ [] = sym e ∙ z in cc (w))
  ends_with (takes r) z [] e = absurd (cc (e))
  ends_with (takes {o = o} r) z (x ∷ front) e = ends_with r z front (let w : o ≡ front ++ Mark m ∷ [] = cc (e) in w)
  ends_with (gives h r) z [] e = absurd (cc (e))
  ends_with (gives {alt = alt} {o = o} h r) z (x ∷ front) e =
      let w : o ≡ front ++ Mark m ∷ [] = cc (e) in
      ends_with r z (alt ++ front) (ap (λ q. alt ++ q) w ∙ sym (append_assoc alt front (Mark m ∷ [])))
  ends_with (notes {m = l} {o = o} {n = n} {n' = n1} {n'' = n2} h r) z [] e =
      let same : l ≡ m = cc (e) in
      let none : o ≡ [] = cc (e) in
      (n, subst (λ q. g.marked q n ≡ Some n2) same (h ∙ ap Some (stays r none)))
  ends_with (notes {o = o} h r) z (x ∷ front) e = ends_with r z front (let w : o ≡ front ++ Mark m ∷ [] = cc (e) in w)

finished_at : (k n : Noted) (made : List Tree) → finished k made ≡ Some n → (t : Tree) × (made ≡ t ∷ []) × (k ≡ n)
finished_at k n [] e = absurd (cc (e))
finished_at k n (t ∷ []) e = (t, refl, same_Some k n e)
finished_at k n (t ∷ u ∷ made) e = absurd (cc (e))

-- the notes of a program are noted as that program
pub as_noted : (ts : List Lexeme) (p : PlainProgram) (h : IsProgram ts p) → program_noted h.noted ≡ Some p
as_noted ts p h =
    let first : List Tree → Option PlainProgram = λ made. program_noted (record { sizes = h.noted.sizes; inputs = h.noted.inputs; scope = []; types = []; products = []; parts = []; made = made }) in
    ap first h.body
    ∙ ap (λ sizes. Some (record { sizes = sizes; inputs = h.noted.inputs; body = p.body })) h.sizes
    ∙ ap (λ inputs. Some (record { sizes = p.sizes; inputs = inputs; body = p.body })) h.inputs

pub program_read : (ts : List Lexeme) (n : Noted) → Reads programs start nothing ts [] n → (p : PlainProgram) × (program_noted n ≡ Some p) × IsProgram ts p
program_read ts n r =
    let last = ends_with programs Finish r refl (Form Sizes ∷ []) refl in
    let done = finished_at last.0 n last.0.made last.1 in
    let made : n.made ≡ done.0 ∷ [] = sym (ap (λ (k : Noted). k.made) done.2) ∙ done.1 in
    let p : PlainProgram = record { sizes = n.sizes; inputs = n.inputs; body = done.0 } in
    let is : IsProgram ts p = record { noted = n; reads = r; sizes = refl; inputs = refl; body = made } in
    (p, as_noted ts p is, is)
