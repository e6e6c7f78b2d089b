use Rattle.rewriting.specs.Around.{context_of}
use Rattle.rules_lower.specs.declared.rule.Rule.TheVariants.{Local, Private, LocalCopy, PrivateCopy, Then, Vector, VectorScalar}
use Rattle.rules_lower.proofs.Kept.{answered_keeps}
use Rattle.rules_lower.proofs.rule.apply.Goals as goal

pub returns-in-Local-clause-keeps : goal.returns-in-Local-clause-keeps
returns-in-Local-clause-keeps c = answered_keeps Local (context_of c.args.context.now) c.args.term c.kept.result c.has_polynomials.ensures c.kept.ensures

pub returns-in-Private-clause-keeps : goal.returns-in-Private-clause-keeps
returns-in-Private-clause-keeps c = answered_keeps Private (context_of c.args.context.now) c.args.term c.kept-in-Private.result c.has_polynomials.ensures c.kept-in-Private.ensures

pub returns-in-LocalCopy-clause-keeps : goal.returns-in-LocalCopy-clause-keeps
returns-in-LocalCopy-clause-keeps c = answered_keeps LocalCopy (context_of c.args.context.now) c.args.term c.copied.result c.has_polynomials.ensures c.copied.ensures

pub returns-in-PrivateCopy-clause-keeps : goal.returns-in-PrivateCopy-clause-keeps
returns-in-PrivateCopy-clause-keeps c = answered_keeps PrivateCopy (context_of c.args.context.now) c.args.term c.copied-in-PrivateCopy.result c.has_polynomials.ensures c.copied-in-PrivateCopy.ensures

pub returns-in-Then-clause-keeps : goal.returns-in-Then-clause-keeps
returns-in-Then-clause-keeps c = answered_keeps Then (context_of c.args.context.now) c.args.term c.cut_off.result c.has_polynomials.ensures c.cut_off.ensures

pub returns-in-Vector-clause-keeps : goal.returns-in-Vector-clause-keeps
returns-in-Vector-clause-keeps c = answered_keeps Vector (context_of c.args.context.now) c.args.term c.by_fours.result c.has_polynomials.ensures c.by_fours.ensures

pub returns-in-VectorScalar-clause-keeps : goal.returns-in-VectorScalar-clause-keeps
returns-in-VectorScalar-clause-keeps c = answered_keeps VectorScalar (context_of c.args.context.now) c.args.term c.vectors_again.result c.has_polynomials.ensures c.vectors_again.ensures
