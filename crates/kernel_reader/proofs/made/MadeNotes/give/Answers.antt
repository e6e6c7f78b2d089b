use Rattle.std.proofs.Common.{◌≡◌, refl, subst}
use Rattle.kernel_spelling.specs.Rows.{declaration_row, row}
use Rattle.kernel_reader.specs.declared.form.Form.{Form}
use Rattle.kernel_reader.specs.declared.form.Form.TheVariants as forms
use Rattle.kernel_reader.specs.Views.{Gave, part_of}
use Rattle.kernel_reader.specs.Noted.{notes_of}
use Rattle.kernel_reader.proofs.made.MadeNotes.give.Goals as goal

-- a form of none of the other arms is one before the statements
same_row : (c : goal.After-give_declaration) (f : Form) → c.args.form ≡ f → declaration_row (notes_of c.args.self.now) (part_of f) c.args.piece.now ≡ row (notes_of c.args.self.now) (part_of f) c.args.piece.now
same_row c (forms.Statement p) e = absurd (c.in_default.not-Statement p e)
same_row c (forms.Next p) e = absurd (c.in_default.not-Next p e)
same_row c (forms.Source p k) e = absurd (c.in_default.not-Source p k e)
same_row c (forms.SourceOfFour p k) e = absurd (c.in_default.not-SourceOfFour p k e)
same_row c (forms.LoadedFour p k) e = absurd (c.in_default.not-LoadedFour p k e)
same_row c (forms.StoredFour p) e = absurd (c.in_default.not-StoredFour p e)
same_row c (forms.Fence p) e = absurd (c.in_default.not-Fence p e)
same_row c (forms.AfterLocal p) e = absurd (c.in_default.not-AfterLocal p e)
same_row c (forms.Beginning g p) e = absurd (c.in_default.not-Beginning g p e)
same_row c (forms.BeginningId g p) e = absurd (c.in_default.not-BeginningId g p e)
same_row c (forms.BeginningAlong g p form) e = absurd (c.in_default.not-BeginningAlong g p form e)
same_row c (forms.Step p s) e = absurd (c.in_default.not-Step p s e)
same_row c (forms.StepId p s) e = absurd (c.in_default.not-StepId p s e)
same_row c (forms.StepAlong p s form) e = absurd (c.in_default.not-StepAlong p s form e)
same_row c (forms.Turn l) e = absurd (c.in_default.not-Turn l e)
same_row c (forms.Indent l) e = absurd (c.in_default.not-Indent l e)
same_row c (forms.Value b l d) e = absurd (c.in_default.not-Value b l d e)
same_row c (forms.Opened b l d) e = absurd (c.in_default.not-Opened b l d e)
same_row c (forms.InLanes l d) e = absurd (c.in_default.not-InLanes l d e)
same_row c (forms.LanesOpened p) e = absurd (c.in_default.not-LanesOpened p e)
same_row c (forms.LanesRest l d) e = absurd (c.in_default.not-LanesRest l d e)
same_row c (forms.LanesAfterLess l d) e = absurd (c.in_default.not-LanesAfterLess l d e)
same_row c forms.IdName e = absurd (c.in_default.not-IdName e)
same_row c (forms.IdAlong form) e = absurd (c.in_default.not-IdAlong form e)
same_row c (forms.Rest b l d) e = absurd (c.in_default.not-Rest b l d e)
same_row c (forms.AfterLess b l d) e = absurd (c.in_default.not-AfterLess b l d e)
same_row c _ e = refl

pub returns-in_default : goal.returns-in_default
returns-in_default c = subst (Gave c.give_declaration.result c.args.owed.now.items c.give_declaration.new.owed.items) (same_row c c.args.form refl) c.give_declaration.ensures
