use Rattle.std.proofs.Common.{◌≡◌, drop}
use Rattle.ring.specs.Links.{links_refusal}
use Rattle.ring.proofs.survey.check_links.Given as goal

abbrev pub invariant-loop-link : goal.invariant-loop-link
invariant-loop-link l = links_refusal (drop l.link-index l.links) ≡ links_refusal l.links
