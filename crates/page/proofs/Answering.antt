-- The page, where there is room, and what is read of one.
-- Assumes nothing.
use Prim.Native.Nat.{ℕ, ◌+◌, ◌*◌, ◌≤◌, ◌<◌}
use mathlib.Core.Path.{◌≡◌, refl}
use mathlib.Core.List.{List}
use native.Mathlib.Omega.{arith}
use lib.ListN.{length}
use borrow.Author.Tests.{le-leb, lt-leb}
use Rattle.text.specs.Text.{texts}
use Rattle.text.specs.Inner.Put.{TextPut}
use Rattle.print.specs.Printed.{node_text}
use Rattle.graph.specs.Refusals.{refused, done}
use Rattle.std.specs.Prelude.{Some}
use Rattle.valid.specs.Inner.Decoded.{session_of}
use Rattle.state.specs.Inner.State.{flat_in}
use Rattle.host.specs.Entries.{ImageOf, served}
use Rattle.host.proofs.Entering.{session_valid}
use Rattle.pagelines.specs.Page.{page_text}
use Rattle.page.specs.Entries.{WritesPage, ReadsPage, of_nodes}
use Rattle.page.specs.Inner.Measuring.{PageMeasured, NodesPut}
use Rattle.page.specs.Inner.Returning.{returns}
use Rattle.page.proofs.ImagePages.{nodes_in, page_size}

module _ (image out : List ℕ) (h : ImageOf image (session_of image)) where
  pub no_room : length out < 38 * (length (flat_in image).nodes + 1) → WritesPage returns image out (returns (refused 34) out)
  no_room short = served (session_of image) h tt tt (rw (lt-leb (length (page_text (nodes_in image))) (length out) (omega (arith, page_size image (session_valid h)))) refl)

  pub is_written : (n : ℕ) (after : List ℕ) → 38 * (length (flat_in image).nodes + 1) ≤ length out → TextPut out 0 (page_text (nodes_in image)) after n → WritesPage returns image out (returns (done n) after)
  is_written n after room w =
      let place : n ≡ length (page_text (nodes_in image)) = omega (arith, w.place) in
      served (session_of image) h tt tt
      (rw (le-leb (length (page_text (nodes_in image))) (length out) (omega (arith, page_size image (session_valid h)))) (λ i. returns (done (place i)) (w.bytes i)))

-- ---- a page read back

module _ (page out : List ℕ) where
  module _ (n : ℕ) (m : PageMeasured page (Some n)) where
    pub no_nodes_room : length out < n → ReadsPage returns page out (returns (refused 34) out)
    no_nodes_room short = of_nodes m.0 m.1 (rw (lt-leb (length (texts node_text m.0)) (length out) (omega (arith, m.2.text))) refl)

    pub nodes_written : (after : List ℕ) → n ≤ length out → NodesPut page out after → ReadsPage returns page out (returns (done n) after)
    nodes_written after room w =
        of_nodes m.0 m.1 (rw (le-leb (length (texts node_text m.0)) (length out) (omega (arith, m.2.text))) (λ i. returns (done (m.2.text i)) (w m.0 m.1 i)))
