use Rattle.std.proofs.Common.{ap, ◌∙◌}
use Rattle.kernel_tree.specs.Pieces.{joined}
use Rattle.kernel_spelling.specs.Spelling.{spelled}
use Rattle.kernel_spelling.proofs.Whole.{made_whole, spelled_made}
use Rattle.kernel_spelling.proofs.Cut.{joined_pieces}
use Rattle.kernel_spelling.proofs.Stands.{spelled_stands}
use Rattle.kernel_spelling.proofs.laws.one_text.Goals as goal

pub returns : goal.returns
returns c = record {
  taken = λ name k named h. (spelled name k, spelled_stands name k named h, spelled_made name k h);
  only = λ name bytes k h.
      let w = made_whole name h.0 k h.2 in
      (w.0, joined_pieces bytes h.0 h.1 ∙ ap joined w.1);
}
