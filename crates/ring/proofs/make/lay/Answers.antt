use Rattle.std.proofs.Common.{◌≡◌, ◌+◌, ◌*◌, ◌<◌, length, sym, refl, ap, ◌∙◌, subst, arith, length-set, rules}
use Rattle.ring.specs.Links.{link_at, taken, no_line}
use Rattle.ring.specs.Rows.{row_line}
use Rattle.ring.specs.Laid.{Laid}
use Rattle.ring.proofs.Scans.{links_ok}
use Rattle.ring.proofs.Laying.{laid_more, laid_none, taken_more, line_to, lines_more, lines_all, lines_none, bare_rows}
use Rattle.ring.proofs.make.lay.Goals as goal

pub loop-i-init : goal.loop-i-init
loop-i-init c =
    let blank : row_line c.default-rows.result ≡ no_line = search rules in
    (refl, refl, omega arith, laid_none _, λ k. bare_rows c.default-rows.result blank 32 k ∙ sym (lines_none c.args.links.now k))

pub overflow_add-rows : goal.overflow_add-rows
overflow_add-rows c =
    let ok = links_ok c.args.links.now c.requires.links c.loop-i.i c.loop-i-test.true in
    omega (arith, ok.cap_most, c.requires.few, c.loop-i.invariant.2)

pub overflow_mul-base : goal.overflow_mul-base
overflow_mul-base c =
    let ok = links_ok c.args.links.now c.requires.links c.loop-i.i c.loop-i-test.true in omega (arith, ok.cap_most)

pub overflow_add-base : goal.overflow_add-base
overflow_add-base c =
    let ok = links_ok c.args.links.now c.requires.links c.loop-i.i c.loop-i-test.true in
    omega (arith, ok.cap_most, c.requires.few, c.loop-i.invariant.2)

pub loop-i-preserved : goal.loop-i-preserved
loop-i-preserved c =
    let links = c.args.links.now in
    let i = c.loop-i.i in
    let rows = c.loop-i.rows in
    let ok = links_ok links c.requires.links i c.loop-i-test.true in
    let inv = c.loop-i.invariant in
    let room : 2 * i + 1 < length rows = omega (arith, inv.0, c.requires.few, c.loop-i-test.true) in (
      length-set _ _ _ ∙ length-set _ _ _ ∙ inv.0,
      omega (arith, taken_more links i, inv.1),
      omega (arith, ok.cap_most, inv.2),
      laid_more rows i c.loop-i.base (link_at links i) inv.3 ok room,
      lines_more links i rows c.loop-i.base room inv.4,
    )

pub returns : goal.returns
returns c =
    let links = c.args.links.now in
    let rows = c.loop-i.rows in
    let inv = c.loop-i.invariant in
    let all : c.loop-i.i ≡ length links = omega arith in
    record {
      lines = λ k. inv.4 k ∙ ap (λ n. line_to links n k) all ∙ lines_all links k;
      laid = subst (λ n. Laid rows (2 * n) (taken links n)) all (subst (Laid rows (2 * c.loop-i.i)) inv.1 inv.3);
    }
