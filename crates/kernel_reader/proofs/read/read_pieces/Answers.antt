use Rattle.std.proofs.Common.{[], map, sym, subst}
use Rattle.std.specs.Prelude.{IfErr, IfOk}
use Rattle.readings.specs.Readings.{Reads}
use Rattle.readings.specs.Exactly as exactly
use Rattle.kernel_tree.specs.KernelText.{all_of, kernels, start}
use Rattle.kernel_reader.specs.Noted.{notes_of}
use Rattle.kernel_reader.specs.Views.{bytes_of}
use Rattle.kernel_reader.proofs.read.read_pieces.Goals as goal

pub returns-clause-found : goal.returns-clause-found
returns-clause-found c =
    subst (λ n. IfOk c.read.result (λ made. Reads kernels (start c.args.name.now) n (map bytes_of c.args.pieces.now) [] (notes_of made))) c.first.ensures c.read.ensures.found

pub returns-clause-only : goal.returns-clause-only
returns-clause-only c = λ k h. c.read.ensures.only (all_of k) (subst (λ n. Reads kernels (start c.args.name.now) n (map bytes_of c.args.pieces.now) [] (all_of k)) (sym c.first.ensures) h)

pub returns-clause-refused : goal.returns-clause-refused
returns-clause-refused c =
    subst (λ n. IfErr c.read.result (exactly.Refuses kernels (start c.args.name.now) n (map bytes_of c.args.pieces.now))) c.first.ensures c.read.ensures.refused
