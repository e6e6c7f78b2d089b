-- Names that are no text.
use Rattle.std.proofs.Common.{◌≡◌, ◌∙◌, ℕ, List, [], ◌∷◌, None, String, BTreeMap, Global, subst, refl, sym, ap}
use Rattle.std.specs.Prelude.{IsUtf8}
use Rattle.std.proofs.lemmas.Str.{IsUtf8-string_bytes}
use Rattle.serde_json.specs.Find.{get, get_member}
use Rattle.serde_json.specs.View.{view, members_view}
use Rattle.serde_json.specs.declared.value.Value.{Value, Object}
use Rattle.serde_json.proofs.Views.{Entry, member_later, view-Object}

no_such_member : (name : List ℕ) (es : List Entry) → (IsUtf8 name → ⊥) → get_member name (members_view es) ≡ None
no_such_member name [] h = refl
no_such_member name (e ∷ es) h =
    member_later name e es (λ same. h (subst IsUtf8 (sym same) (IsUtf8-string_bytes e.0))) ∙ no_such_member name es h

-- a name that is no text is none of an object's keys
pub no_such_key : (name : List ℕ) (m : BTreeMap (String Global) Value) → (IsUtf8 name → ⊥) → get name (view (Object m)) ≡ None
no_such_key name m h = ap (get name) (view-Object m) ∙ no_such_member name m.entries h
