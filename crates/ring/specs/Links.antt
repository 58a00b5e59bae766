-- The rules of links and places, and the shape of the plant that is made of them. Assumes nothing.
use Rattle.std.specs.Prelude.{ℕ, ◌*◌, ◌/◌, ◌%◌, cond, not, ◌&&◌, List, [], ◌∷◌, length, Some, None, Option, ◌==◌, nat_le, slice_index_or}
use Rattle.frame.specs.Frames.{FrameValue}
use Rattle.plant.specs.Plants.{sum_to, Shape, Line}
use Rattle.ring.specs.declared.link.Link.{Link}

abbrev pub no_link : Link
no_link = record { a = 0; b = 0; cap = 0 }

abbrev pub link_at : List Link → ℕ → Link
link_at links i = slice_index_or links i no_link

-- the number that one link is refused with: an end above 15; then equal ends, or a cap outside 1 to 32
abbrev pub link_refusal : Link → Option ℕ
link_refusal k =
    cond (nat_le k.a 15 && nat_le k.b 15)
    (cond (not (k.a == k.b) && (nat_le 1 k.cap && nat_le k.cap 32)) None (Some 7)) (Some 4)

-- the first of two numbers, if there is one
abbrev pub or_else : Option ℕ → Option ℕ → Option ℕ
or_else (Some n) o = Some n
or_else None o = o

-- the number of the first link that is refused
abbrev pub links_refusal : List Link → Option ℕ
links_refusal [] = None
links_refusal (k ∷ ks) = or_else (link_refusal k) (links_refusal ks)

-- the places that the lines of the first n links take
abbrev pub taken : List Link → ℕ → ℕ
taken links n = sum_to n (λ i. 2 * (link_at links i).cap)

-- the number that a ring plant tells: 1 to 16 links, then link by link, last too few places
abbrev pub ring_refusal : List Link → ℕ → Option ℕ
ring_refusal links places =
    cond (nat_le 1 (length links) && nat_le (length links) 16)
    (or_else (links_refusal links) (cond (nat_le (taken links (length links)) places) None (Some 27))) (Some 7)

-- link k gives line 2k from a to b, and line 2k + 1 back
abbrev pub line_of : List Link → ℕ → Line
line_of links l =
    let k = link_at links (l / 2) in
    cond (l % 2 == 0) (record { from = k.a; to = k.b; cap = k.cap; span = 1 }) (record { from = k.b; to = k.a; cap = k.cap; span = 1 })

abbrev pub no_line : Line
no_line = record { from = 0; to = 0; cap = 0; span = 1 }

-- two lines a link, each with a port of its own
abbrev pub link_shape : List Link → Shape
link_shape links = record { lines = 2 * length links; line = line_of links; ports = 2 * length links; kept = 1048576; depth = 8 }

abbrev pub bare_shape : Shape
bare_shape = record { lines = 0; line = λ l. no_line; ports = 0; kept = 1048576; depth = 8 }

abbrev pub unless_refused : Option ℕ → List Link → Shape
unless_refused None links = link_shape links
unless_refused (Some n) links = bare_shape

-- the plant made of links and places: no lines where a rule is broken
abbrev pub fresh_shape : List Link → ℕ → Shape
fresh_shape links places = unless_refused (ring_refusal links places) links

abbrev pub none_waits : ℕ → List FrameValue
none_waits l = []
