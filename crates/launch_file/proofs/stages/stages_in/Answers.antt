use Rattle.std.proofs.Common.{◌≡◌, ◌∙◌, ◌<◌, ap, arith, length, map, subst}
use Rattle.std.specs.Prelude.{Ok, Err}
use Rattle.std.proofs.lemmas.List.{length-map, map_push}
use Rattle.serde_json.specs.View.{view}
use Rattle.launch_file.specs.Stages.{stage_judged, stages_judged_from}
use Rattle.launch_file.specs.LaunchFile.{ask_of}
use Rattle.launch_file.specs.StagesShown.{count_of}
use Rattle.launch_file.proofs.InOrder.{asked_at, handed_on, own_at, stages_refused, stages_step}
use Rattle.launch_file.proofs.stages.stages_in.Goals as goal

pub returns-in_err-stage_in-clause-refused : goal.returns-in_err-stage_in-clause-refused
returns-in_err-stage_in-clause-refused c =
    let asks = map ask_of c.args.asks.now in
    let ds = map view c.args.values.now in
    let i = c.loop-number.number in
    let here : i < length c.args.asks.now = c.loop-number-test.true in
    let less : i < length asks = omega (arith, here, length-map c.args.asks.now ask_of) in
    let within : i < length c.args.values.now = omega (arith, here, c.requires.as_many) in
    let there : i < length ds = omega (arith, within, length-map c.args.values.now view) in
    handed_on (stages_judged_from 0 asks ds) _ _ c.from_residual.ensures.1
    (c.loop-number.invariant ∙ stages_refused asks ds i (map count_of c.loop-number.counts.items) _ (view c.index-values-number.result) _ less there (own_at c.args.values.now i c.index-values-number.result within c.index-values-number.is) (subst (λ k. stage_judged i k (view c.index-values-number.result) ≡ Err c.in_err-stage_in.field-0.0) (ap ask_of c.index-asks-number.is ∙ asked_at c.args.asks.now i c.index-asks-number.result here) c.in_err-stage_in.ensures.refused))

pub loop-number-preserved : goal.loop-number-preserved
loop-number-preserved c =
    let asks = map ask_of c.args.asks.now in
    let ds = map view c.args.values.now in
    let i = c.loop-number.number in
    let here : i < length c.args.asks.now = c.loop-number-test.true in
    let less : i < length asks = omega (arith, here, length-map c.args.asks.now ask_of) in
    let within : i < length c.args.values.now = omega (arith, here, c.requires.as_many) in
    let there : i < length ds = omega (arith, within, length-map c.args.values.now view) in
    let more = ap (map count_of) c.in_ok-push.ensures.items ∙ map_push count_of c.loop-number.counts.items c.in_ok-stage_in.field-0 in
    c.loop-number.invariant
    ∙ stages_step asks ds i (map count_of c.loop-number.counts.items) (map count_of c.push.new.self.items) _ (view c.index-values-number.result) (count_of c.in_ok-stage_in.field-0)
    less there (own_at c.args.values.now i c.index-values-number.result within c.index-values-number.is) (subst (λ k. stage_judged i k (view c.index-values-number.result) ≡ Ok (count_of c.in_ok-stage_in.field-0)) (ap ask_of c.index-asks-number.is ∙ asked_at c.args.asks.now i c.index-asks-number.result here) c.in_ok-stage_in.ensures.ok) more
