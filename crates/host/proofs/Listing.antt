-- The listing, where there is room.
-- Assumes nothing.
use mathlib.Core.Path.{refl}
use Prim.Native.Nat.{ℕ, ◌≤◌, ◌<◌}
use native.Mathlib.Omega.{arith}
use mathlib.Core.List.{List}
use lib.ListN.{length}
use borrow.Author.Tests.{le-leb, lt-leb}
use Rattle.text.specs.Inner.Put.{TextPut}
use Rattle.graph.specs.Refusals.{done}
use Rattle.panel.specs.Returned.{answer_number}
use Rattle.valid.specs.Inner.Decoded.{session_of}
use Rattle.listing.specs.Listed.{listing_of}
use Rattle.listing.specs.Inner.Rows.{ListingLength}
use Rattle.host.specs.Entries.{ImageOf, served, list_refused, Lists}

module _ (image out : List ℕ) (n : ℕ) (h : ImageOf image (session_of image)) (m : ListingLength (session_of image) n) where
  pub no_room : length out < n → Lists image out (list_refused out 33)
  no_room short = served (session_of image) h tt tt (rw (lt-leb (length (listing_of (session_of image))) (length out) (omega (arith, m.text))) refl)

  pub is_listed : (output : List ℕ) (end : ℕ) → n ≤ length out → TextPut out 0 (listing_of (session_of image)) output end → Lists image out (record { answer = answer_number (done n); output = output })
  is_listed output end room w =
      served (session_of image) h tt tt
      (rw (le-leb (length (listing_of (session_of image))) (length out) (omega (arith, m.text))) (λ i. record { answer = answer_number (done (m.text i)); output = w.bytes i }))
