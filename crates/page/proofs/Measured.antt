-- A page by its head, its length and its lines.
-- Assumes nothing.
use Prim.Native.Nat.{ℕ, ◌+◌, ◌*◌, ◌<◌}
use mathlib.Core.Path.{◌≡◌, sym, ap, ◌∙◌}
use mathlib.Core.List.{List, ◌++◌}
use native.Mathlib.Omega.{arith}
use lib.ListN.{length, drop, length-drop}
use Rattle.text.specs.Text.{texts}
use Rattle.std.specs.Prelude.{Option, Some, None}
use Rattle.pagelines.specs.Page.{page_head, page_line}
use Rattle.pagelines.specs.Inner.Columns.{HeadRead}
use Rattle.pagelines.proofs.Widths.{lines_length}
use Rattle.pagelines.proofs.LinesOnce.{head_once}
use Rattle.page.specs.Inner.Measuring.{LinesMeasured, PageMeasured}
use Rattle.page.proofs.PagesRead.{whole_length}

module _ (page : List ℕ) where
  pub too_short : length page < 38 → PageMeasured page None
  too_short h ns p = omega (arith, whole_length p)

  module _ (n : ℕ) (h : HeadRead page (Some n)) where
    pub other_length_law : (length page ≡ 38 * (n + 1) → ⊥) → PageMeasured page None
    other_length_law ne ns p =
        let same : n ≡ length ns = head_once n (length ns) (drop 38 page) (texts page_line ns) h.fits p.few (sym h.same ∙ p.same) in
        ne (omega (arith, whole_length p))

    module _ (e : length page ≡ 38 * (n + 1)) where
      pub page_measured : (r : Option ℕ) → LinesMeasured page r → PageMeasured page r
      page_measured (Some k) (ns, within, len) =
          let count : n ≡ length ns = omega (arith, length-drop 38 page, ap length within.text, lines_length ns within.nodes) in (
            ns,
            record {
              few = omega (arith, h.fits);
              nodes = within.nodes;
              distinct = within.distinct;
              same = h.same ∙ (λ i. page_head (count i) ++ within.text i);
            },
            len,
          )
      page_measured None never = never
