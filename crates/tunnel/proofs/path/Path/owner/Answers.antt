use Rattle.std.proofs.Common.{◌≡◌, true, false, eqb, Some, None, sym, refl, ◌∙◌, subst, rules}
use Rattle.std.proofs.lemmas.Bool.{eqb-true, eq-eqb}
use Rattle.std.specs.Bool.{then_some}
use Rattle.frame.specs.Frames.{frame_value}
use Rattle.tunnel.specs.Tunnels.{way_of}
use Rattle.tunnel.specs.Inner.{Owned}
use Rattle.tunnel.specs.Paths.{marked, own_bare, tops_none, tops_other}
use Rattle.tunnel.proofs.path.Path.owner.Goals as goal

pub returns-in_err-hop : goal.returns-in_err-hop
returns-in_err-hop c =
    let p = c.args.self.now in
    let f = frame_value c.args.frame.now in
    subst (Owned p c.args.line f) (sym c.from_residual.ensures) ((marked p c.requires.links c.args.line None c.in_err-hop.ensures).1 f)

pub returns-in_err-top : goal.returns-in_err-top
returns-in_err-top c =
    let p = c.args.self.now in
    let f = frame_value c.args.frame.now in
    subst (Owned p c.args.line f) (sym c.from_residual-in_err-top.ensures) (own_bare p c.args.line f (λ k. tops_none k f.stack c.in_err-top.ensures))

pub returns : goal.returns
returns c =
    let p = c.args.self.now in
    let f = frame_value c.args.frame.now in
    let h = c.in_ok-hop.hop in
    let top = c.in_ok-top.top in
    subst (Owned p c.args.line f) (sym c.then_some.ensures)
    (elim (eqb top.label c.label.result) as (λ b. eqb top.label c.label.result ≡ b → Owned p c.args.line f (then_some b h)) [
      | true ↦ λ e. search (rules, eqb-true top.label c.label.result e, c.label.ensures, c.in_ok-top.ensures, c.in_ok-hop.ensures)
      | false ↦ λ e. (marked p c.requires.links c.args.line (Some h) c.in_ok-hop.ensures).1 f
          ∙ tops_other ((way_of h.back p).label h.index) f.stack top c.in_ok-top.ensures (λ q. cc (sym e ∙ eq-eqb top.label c.label.result (q ∙ sym c.label.ensures)))
    ] refl)
