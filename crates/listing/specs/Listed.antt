-- The listing of a session: document 01, section 'Host, panel and program'.
-- Assumes nothing.
use Rattle.std.specs.Prelude.{ℕ, List, length}
use Rattle.graph.specs.Sessions.{Session, graph_of, pending}
use Rattle.print.specs.Printed.{listing_text}

-- "The head counts nodes, unclaimed results and pending calls. Nodes stand in station order, results by label."
abbrev pub listing_of : Session → List ℕ
listing_of s = listing_text (graph_of s.stations) s.results (length (pending s))
