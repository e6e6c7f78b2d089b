use Rattle.std.proofs.Common.{◌≡◌, ◌∙◌, ap, sym, refl, Bool, true, false, Option, None, Some}
use Rattle.std.proofs.lemmas.Bool.{false_from_ne_true}
use Rattle.std.proofs.lemmas.Slice.Eq.{bytes_eq-Decides}
use Rattle.std.specs.Prelude.{codes, unwrap_or}
use Rattle.std.specs.Option.{option_map_or}
use Rattle.std.specs.Str.{bytes_eq}
use Rattle.std.specs.Str.Parse.{ParsesBool}
use Rattle.clap.specs.Words.{Text, ReadsOne, found_of}
use Rattle.clap.proofs.WalkLemmas.{one_text-rows}
use Rattle.command_line.proofs.request.is_set.Goals as goal

read : (E : Type 0) (text : Text) (r : Option Bool) → ReadsOne {E = E} ParsesBool text r → unwrap_or r false ≡ bytes_eq (codes "true") text
read E text (Some true) h = sym (ap (bytes_eq (codes "true")) h)
read E text (Some false) h = sym (ap (bytes_eq (codes "true")) h)
read E text None h = sym (false_from_ne_true _ (λ e. h.1.0 (sym ((bytes_eq-Decides (codes "true") text).0 e))))

flag : (E : Type 0) (text : Option Text) (r : Option Bool) → (text ≡ None → r ≡ None) → ((t : Text) → text ≡ Some t → ReadsOne {E = E} ParsesBool t r)
    → unwrap_or r false ≡ option_map_or (bytes_eq (codes "true")) text false
flag E None r none value = ap (λ (o : Option Bool). unwrap_or o false) (none refl)
flag E (Some t) r none value = read E t r (value t refl)

pub returns : goal.returns
returns c =
    c.unwrap_or.ensures ∙ flag _ _ c.get_one.result c.get_one.ensures.none c.get_one.ensures.value
    ∙ ap (λ (text : Option Text). option_map_or (bytes_eq (codes "true")) text false) (one_text-rows (found_of c.args.matches.now) c.args.id.now)
