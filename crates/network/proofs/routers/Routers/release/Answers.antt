use Rattle.std.proofs.Common.{◌&&◌, ◌==◌, ◌≡◌, sym, refl, ap, ◌∙◌, rules}
use Rattle.model.specs.Tables.{put2, tidy, untold, with_labels, withdrawn}
use Rattle.model.specs.Calls.{in_range}
use Rattle.tables.specs.Reading.{tables_of}
use Rattle.network.specs.Networks.{plan_of}
use Rattle.network.proofs.Messages.{took_stray, took_message}
use Rattle.network.proofs.routers.Routers.release.Goals as goal

pub returns-in_default : goal.returns-in_default
returns-in_default c v st fits =
    let n = c.args.self.now in
    let x = (tables_of n.tables).stage c.args.line c.args.label == withdrawn in
    took_stray n v c.args.line (in_range (plan_of n.plan) c.args.fec c.args.label && x) _ (ap (λ b. b && x) (sym c.in_default.ensures.in_range))

pub returns-then-not-is_awaited : goal.returns-then-not-is_awaited
returns-then-not-is_awaited c v st fits =
    let t = tables_of c.args.self.now.tables in
    let q = ap (λ l. t.stage c.args.line l == withdrawn) (sym c.in-Some.ensures.same.1) ∙ sym c.is_awaited.ensures ∙ c.if-not-is_awaited.true in
    took_stray c.args.self.now v c.args.line _ _ (λ i. sym c.in-Some.ensures.in_range i && q i)

pub returns : goal.returns
returns c v st fits =
    let n = c.args.self.now in
    let e = c.args.line in
    let t = tables_of n.tables in
    let same = c.in-Some.ensures.same.1 in
    let on : c.unwrap.result ≡ e = search rules in
    let q = ap (λ k. t.stage e k == withdrawn) (sym same) ∙ sym c.is_awaited.ensures ∙ c.if-not-is_awaited.false in
    took_message n v e (in_range (plan_of n.plan) c.args.fec c.args.label && (t.stage e c.args.label == withdrawn)) _ (λ i. sym c.in-Some.ensures.in_range i && q i) _
    (c.released.ensures.tables v.shape fits ∙ (λ i. tidy v.shape (v.shape.line (on i)).to (same i) (with_labels t.status (put2 t.stage (on i) (same i) untold) t))) refl
    (record { plan = refl; still = refl; tables = c.released.ensures.stays })
