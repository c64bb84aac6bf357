-- The flat session that an image holds, and what the functions on it keep.
-- Assumes nothing.
use Rattle.std.specs.Prelude.{ℕ, ◌≡◌, List}
use Rattle.graph.specs.Nodes.{Node, Result}
use Rattle.flat.specs.Flat.{Flat}
use Rattle.image.specs.Inner.Regions.{view, Sound, Canonical}
use Rattle.valid.specs.Inner.Decoded.{flat_of}
use Rattle.valid.specs.Values.{view_of}

unfoldable pub flat_in : List ℕ → Flat
flat_in image = flat_of (view image)

-- the image is sound, its unused bytes are zero, and each record is the one that its node, operation or result has
pub record Proper (image : List ℕ) : Type 0 where
  pub sound : Sound image
  pub canonical : Canonical image
  pub clean : view image ≡ view_of (flat_in image)

-- what a writer states: the image holds this flat session now
pub record Shows (f : Flat) (image : List ℕ) : Type 0 where
  pub proper : Proper image
  pub shows : flat_in image ≡ f

-- the flat session with other nodes, other results, another last label
abbrev pub with_nodes : Flat → List Node → Flat
with_nodes f ns = record { nodes = ns; queue = f.queue; results = f.results; last = f.last }

abbrev pub with_results : Flat → List Result → Flat
with_results f rs = record { nodes = f.nodes; queue = f.queue; results = rs; last = f.last }

abbrev pub with_last : Flat → ℕ → Flat
with_last f l = record { nodes = f.nodes; queue = f.queue; results = f.results; last = l }
