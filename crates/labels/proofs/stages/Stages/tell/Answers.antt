use Rattle.std.proofs.Common.{◌≡◌, ap₂, ℕ, Bool, sym, ap, ◌∙◌, arith}
use Rattle.labels.specs.Numbers.{stage_number}
use Rattle.labels.specs.Stagings.{stage_at, stages_of}
use Rattle.labels.specs.Wirings.{leads_into}
use Rattle.labels.proofs.Changes.{below, below_changed, below_left}
use Rattle.labels.proofs.Shapes.{all_changed}
use Rattle.labels.proofs.Settling.{made}
use Rattle.labels.proofs.stages.Stages.tell.Goals as goal
use Rattle.labels.proofs.stages.Stages.tell.Goals.{then-leads_into, else-leads_into}
use Rattle.model.specs.Tables.{put2}

pub loop-line-preserved : goal.loop-line-preserved
loop-line-preserved g c by follows =
    let into : ℕ → Bool = λ i. leads_into c.args.wiring.now i c.args.router in
    let old = stages_of c.args.self.now in
    let h = stages_of c.loop-line.self in
    let here = c.loop-line.line in
    let l = c.args.label in
    let done = c.loop-line.invariant by follows in
    let leads : c.leads_into.result ≡ into here = c.leads_into.ensures ∙ ap (leads_into c.args.wiring.now here) c.number.ensures.same in
    elim c.if-leads_into.branch [
      | then-leads_into w ↦
          let line : w.unwrap.result ≡ here = made _ _ _ (sym w.new.ensures ∙ w.unwrap.ensures) in
          let found : w.get.result ≡ stage_at c.loop-line.self here l = w.get.ensures ∙ ap (stage_at c.loop-line.self here) w.number-then-leads_into.ensures.same in
          below_changed into l by old h here done (stages_of c.if-leads_into.self) (sym leads ∙ w.if-leads_into.true)
          (ap stages_of w.self-is ∙ w.put.ensures
          ∙ ap₂ (λ e x. put2 h e l x) line (follows _ _ w.news-stage.ensures ∙ ap (λ s. by (stage_number s)) found))
      | else-leads_into w ↦ λ e k.
          ap (λ z. stages_of z e k) w.self-is
          ∙ below_left into l by old h here done (sym leads ∙ w.if-leads_into.false) e k
    ]

pub returns : goal.returns
returns g c S by w follows =
    let into : ℕ → Bool = λ i. leads_into c.args.wiring.now i c.args.router in
    let old = stages_of c.args.self.now in
    all_changed c.args.wiring.now S w c.args.router c.args.label by old (stages_of c.loop-line.self)
    (λ e k. c.loop-line.invariant by follows e k ∙ ap (λ n. below into c.args.label by old n e k) (omega arith))
