use Rattle.std.proofs.Common.{◌≡◌, ap, ◌∙◌, rules}
use Rattle.ring.specs.Rows.{row_line}
use Rattle.ring.specs.Links.{ring_refusal, unless_refused, no_line}
use Rattle.ring.proofs.Laying.{ring_shape-bare}
use Rattle.ring.proofs.ring.Ring.new.Goals as goal

pub returns-in-Err-clause-shape : goal.returns-in-Err-clause-shape
returns-in-Err-clause-shape c =
    let links = c.args.links.now in
    let blank : row_line c.default.result ≡ no_line = search rules in
    let told = c.in-Err.ensures ∙ ap (ring_refusal links) c.len.ensures in
    ring_shape-bare c.default.result blank ∙ ap (λ o. unless_refused o links) told
