use Rattle.std.proofs.Common.{ℕ, ◌+◌, ◌∷◌, [], sym, ap, ◌∙◌, subst, subst₂}
use Rattle.std.proofs.lemmas.Result.{on_ok_weaker}
use Rattle.lift_ir.specs.Terms.{push}
use Rattle.lowering.specs.Terms.{load_set_of, term_of}
use Rattle.lowering.specs.declared.term.Map.{Map}
use Rattle.lowering.specs.declared.term.Term.{Term}
use Rattle.printed_form.specs.Counts.{local_count}
use Rattle.group_form.specs.Origins.{Origin, origin_of}
use Rattle.group_form.specs.Uses.{argument_uses, written_uses, loop_uses}
use Rattle.phase_plan.specs.Origins.{origin_in, origins_in}
use Rattle.phase_plan.specs.Walks.{destination_from, width_of, GoesOn}
use Rattle.phase_plan.proofs.Going.{goes_further, goes_further_to, granted}
use Rattle.phase_plan.proofs.walk.Walk.+walking.Goals as goal

pub argument-returns-in_ok-second-in-Zip-clause-goes_on : goal.argument-returns-in_ok-second-in-Zip-clause-goes_on
argument-returns-in_ok-second-in-Zip-clause-goes_on t c =
    let env = origins_in c.args.scope.now in
    let before = c.args.self.now in
    let between = c.argument.new.self in
    let after = c.argument-in-Zip.new.self in
    let a = term_of c.in-Zip.a.value in
    let b = term_of c.in-Zip.b.value in
    let first : GoesOn before between (argument_uses env before.arrays a) (local_count a) = subst (λ (x : Term). GoesOn before between (argument_uses env before.arrays (term_of x)) (local_count (term_of x))) c.deref.ensures c.in_ok-first-in-Zip.ensures.goes_on in
    let second : GoesOn between after (argument_uses env between.arrays b) (local_count b) = subst (λ (x : Term). GoesOn between after (argument_uses env between.arrays (term_of x)) (local_count (term_of x))) c.deref-in-Zip.ensures c.in_ok-second-in-Zip.ensures.goes_on in
    granted c.by_side.result
    (subst (λ (x : Term). GoesOn before after (argument_uses env before.arrays (term_of x)) (local_count (term_of x))) (sym c.in-Zip.is)
    (goes_further before between after (argument_uses env before.arrays a) (λ k. argument_uses env k b) (local_count a) (local_count b) first second))

pub argument-returns-in_ok-argument-in-LetArray-clause-goes_on : goal.argument-returns-in_ok-argument-in-LetArray-clause-goes_on
argument-returns-in_ok-argument-in-LetArray-clause-goes_on t c =
    let env = origins_in c.args.scope.now in
    let before = c.args.self.now in
    let between = c.argument-in-LetArray.new.self in
    let after = c.argument-in-LetArray-2.new.self in
    let value = term_of c.in-LetArray.value.value in
    let body = term_of c.in-LetArray.body.value in
    let inner = push (origin_of env before.arrays value) env in
    let at_value = ap (λ x. origin_of env before.arrays (term_of x)) c.deref-in-LetArray.ensures in
    let first : GoesOn before between (argument_uses env before.arrays value) (local_count value) = subst (λ (x : Term). GoesOn before between (argument_uses env before.arrays (term_of x)) (local_count (term_of x))) c.deref-in-LetArray.ensures c.in_ok-value-in-LetArray.ensures.goes_on in
    let second : GoesOn between after (argument_uses inner between.arrays body) (local_count body) = subst₂ (λ (o : Origin) (x : Term). GoesOn between after (argument_uses (push o env) between.arrays (term_of x)) (local_count (term_of x))) (c.in_ok-value-in-LetArray.ensures.origin ∙ at_value) c.deref-in-LetArray-2.ensures c.in_ok-argument-in-LetArray.ensures.goes_on in
    granted c.bent-in-LetArray.result
    (subst (λ (x : Term). GoesOn before after (argument_uses env before.arrays (term_of x)) (local_count (term_of x))) (sym c.in-LetArray.is)
    (goes_further before between after (argument_uses env before.arrays value) (λ k. argument_uses inner k body) (local_count value) (local_count body) first second))

pub written-returns-in_ok-value-in-LetArray-clause-goes_on : goal.written-returns-in_ok-value-in-LetArray-clause-goes_on
written-returns-in_ok-value-in-LetArray-clause-goes_on t c =
    let env = origins_in c.args.scope.now in
    let to = c.args.to in
    let direct = c.args.direct in
    let before = c.args.self.now in
    let between = c.argument.new.self in
    let after = c.written-in-LetArray.new.self in
    let value = term_of c.in-LetArray.value.value in
    let body = term_of c.in-LetArray.body.value in
    let inner = push (origin_of env before.arrays value) env in
    let at_value = ap (λ x. origin_of env before.arrays (term_of x)) c.deref-in-LetArray.ensures in
    let first : GoesOn before between (argument_uses env before.arrays value) (local_count value) = subst (λ (x : Term). GoesOn before between (argument_uses env before.arrays (term_of x)) (local_count (term_of x))) c.deref-in-LetArray.ensures c.in_ok-value-in-LetArray.ensures.goes_on in
    on_ok_weaker c.written-in-LetArray.result
    (λ (second : GoesOn between after (written_uses (push (origin_in c.in_ok-value-in-LetArray.value) env) between.arrays (term_of c.deref-in-LetArray-2.result.now) (destination_from (between.arrays + local_count (term_of c.deref-in-LetArray-2.result.now)) to) direct) (local_count (term_of c.deref-in-LetArray-2.result.now) + width_of to)).
    subst (λ (x : Term). GoesOn before after (written_uses env before.arrays (term_of x) (destination_from (before.arrays + local_count (term_of x)) to) direct) (local_count (term_of x) + width_of to)) (sym c.in-LetArray.is)
    (goes_further_to before between after (argument_uses env before.arrays value) (λ k f. written_uses inner k body (destination_from f to) direct) (local_count value) (local_count body) (width_of to) first
    (subst₂ (λ (o : Origin) (x : Term). GoesOn between after (written_uses (push o env) between.arrays (term_of x) (destination_from (between.arrays + local_count (term_of x)) to) direct) (local_count (term_of x) + width_of to)) (c.in_ok-value-in-LetArray.ensures.origin ∙ at_value) c.deref-in-LetArray-2.ensures second)))
    c.written-in-LetArray.ensures.goes_on

pub written-returns-in_ok-argument-in-Map-clause-goes_on : goal.written-returns-in_ok-argument-in-Map-clause-goes_on
written-returns-in_ok-argument-in-Map-clause-goes_on t c =
    let env = origins_in c.args.scope.now in
    let to = c.args.to in
    let direct = c.args.direct in
    let before = c.args.self.now in
    let between = c.argument-in-Map.new.self in
    let after = c.add_phase.new.self in
    let m = c.in-Map.map.value in
    let array = term_of m.array in
    let argument = origin_of env before.arrays array in
    let at_array = ap (λ (x : Map). origin_of env before.arrays (term_of x.array)) c.deref-in-Map.ensures in
    let first : GoesOn before between (argument_uses env before.arrays array) (local_count array) = subst (λ (x : Map). GoesOn before between (argument_uses env before.arrays (term_of x.array)) (local_count (term_of x.array))) c.deref-in-Map.ensures c.in_ok-argument-in-Map.ensures.goes_on in
    let uses = λ (o : Origin) (x : Map) (k : ℕ). loop_uses env o (load_set_of x.loads) (term_of x.body) (destination_from k to) direct ∷ [] in
    on_ok_weaker c.add_phase.result
    (λ (second : GoesOn between after (uses (origin_in c.in_ok-argument-in-Map.argument) c.deref-in-Map-2.result.now between.arrays) (width_of to)).
    subst (λ (x : Term). GoesOn before after (written_uses env before.arrays (term_of x) (destination_from (before.arrays + local_count (term_of x)) to) direct) (local_count (term_of x) + width_of to)) (sym c.in-Map.is)
    (goes_further before between after (argument_uses env before.arrays array) (uses argument m) (local_count array) (width_of to) first
    (subst₂ (λ (o : Origin) (x : Map). GoesOn between after (uses o x between.arrays) (width_of to)) (c.in_ok-argument-in-Map.ensures.origin ∙ at_array) c.deref-in-Map-2.ensures second)))
    c.add_phase.ensures.goes_on
